-- What the server says in a step: each reply answers a request that was sent, and a grant comes only where one was wanted.
use Rattle.std.proofs.Common.{◌≡◌, ◌⊎◌, ℕ, ◌+◌, ◌%◌, true, List, [], ◌∷◌, ◌++◌, Option, Some, None, refl, sym, subst, ap, ◌∙◌, inl, inr}
use Rattle.std.proofs.lemmas.Bool.{and_from}
use Rattle.nq_base.specs.declared.Grant.{Grant}
use Rattle.nq_base.specs.declared.Refusal.{Refusal}
use Rattle.nq_base.specs.declared.Reply.{Reply}
use Rattle.nq_base.specs.declared.Request.{Request}
use Rattle.nq_base.specs.declared.Row.{Row}
use Rattle.nq_base.specs.declared.Tag.{Tag}
use Rattle.nq_base.specs.declared.Verdict.{Verdict}
use Rattle.nq_base.specs.declared.Want.{Want}
use Rattle.nq_base.specs.declared.Who.{Who}
use Rattle.walk_steps.proofs.ClientMoves.{some-same, none-some}
use Rattle.walk_steps.proofs.Packets.{In, in-append, Asked, told-same}
use Rattle.walk_steps.proofs.Rows.{number-same}
use Rattle.walk_steps.proofs.ServerCases.{server-hears}
use Rattle.walk_steps.proofs.ServerOutcomes.{error_for, IsPlain, unattached, attached_again, not_yet, no_entry, entry, no_attributes, attributes}
use Rattle.walk_steps.proofs.ServerOutcomes.{no_file, no_block, decided_again, is_old}
use Rattle.nq_model.specs.protocol.Decide.{Decision, decides, creates, writes_through, stores, stores_recovering, resizes, removes, puts_off, verdict_reply}
use Rattle.nq_model.specs.protocol.Decide.{commits}
use Rattle.nq_model.specs.protocol.Kept.{File}
use Rattle.nq_model.specs.protocol.Hear.{wants_of, inc_of}
use Rattle.nq_model.specs.laws.LeaseInterval.{grant_in, requested_file}
use Rattle.nq_model.specs.protocol.Message.{Message, Packet, call, reply, error, RpcError, asker, Reason, Datagram, request, too_long, no_message, no_call}
use Rattle.nq_model.specs.protocol.Message.{other_rpc, other_program, other_version, unknown_procedure, garbage_vacated, garbage, sequence_of}
use Rattle.nq_model.specs.protocol.Profile.{xid_end}
use Rattle.nq_model.specs.protocol.Server.{Server, to_host, says, quiet, drops, notices}
use Rattle.nq_model.specs.protocol.ServerStep.{attaches, vacates, tells_later, serves, leases, receive}
use Rattle.nq_model.specs.protocol.Table.{Table}

-- notices are no replies
pub notices-no-reply : (xid : ℕ) (rows : List Row) (host x : ℕ) (a : Reply) → In (notices xid rows) (to_host host (reply x a)) → ⊥
notices-no-reply xid [] host x a h = h
notices-no-reply xid (row ∷ rows) host x a (inl e) =
    let t = told-same row.who.host host (call xid (Request.Evicted row.who row.file row.tag)) (reply x a) e in absurd (cc)
notices-no-reply xid (row ∷ rows) host x a (inr h) = notices-no-reply ((xid + 1) % xid_end) rows host x a h

-- a reply to a request that was sent
pub record IsReplyTo (ps : List Packet) (host xid : ℕ) (a : Reply) : Type 0 where
  pub asks : Request
  pub who : Who
  pub sent : Asked ps host xid asks
  pub by : asker asks ≡ Some who
  pub inc : inc_of a ≡ who.inc
  pub wants : (g : Grant) → grant_in a ≡ Some g → (file : ℕ) → requested_file asks ≡ Some file → wants_of file asks ≡ true

-- what the server sends in a step: replies to requests that were sent, errors and notices, each to a host
pub data IsSaid (ps : List Packet) (p : Packet) : Type 0 where
  said_reply : (host xid : ℕ) (a : Reply) → p ≡ to_host host (reply xid a) → IsReplyTo ps host xid a → IsSaid ps p
  said_error : (host xid : ℕ) (e : RpcError) → p ≡ to_host host (error xid e) → IsSaid ps p
  said_notice : (xid : ℕ) (row : Row) → p ≡ to_host row.who.host (call xid (Request.Evicted row.who row.file row.tag)) → IsSaid ps p

-- all of a list
abbrev pub AllSaid : List Packet → List Packet → Type 0
AllSaid ps sends = (p : Packet) → In sends p → IsSaid ps p

notices-said : (ps : List Packet) (xid : ℕ) (rows : List Row) → AllSaid ps (notices xid rows)
notices-said ps xid [] p h = absurd h
notices-said ps xid (row ∷ rows) p (inl e) = said_notice xid row (sym e)
notices-said ps xid (row ∷ rows) p (inr h) = notices-said ps ((xid + 1) % xid_end) rows p h

one-said : (ps : List Packet) (q : Packet) → IsSaid ps q → AllSaid ps (q ∷ [])
one-said ps q s p (inl e) = subst (λ z. IsSaid ps z) e s
one-said ps q s p (inr bad) = absurd bad

both-said : (ps xs ys : List Packet) → AllSaid ps xs → AllSaid ps ys → AllSaid ps (xs ++ ys)
both-said ps xs ys a b p h = step (in-append xs ys p h)
  where
    step : In xs p ⊎ In ys p → IsSaid ps p
    step (inl x) = a p x
    step (inr y) = b p y

none-said : (ps : List Packet) → AllSaid ps []
none-said ps p h = absurd h

-- a kept verdict gives a reply of the incarnation, without a grant
pub verdict-inc : (inc : ℕ) (v : Verdict) (value : ℕ) (r : Request) (n : ℕ) → sequence_of r ≡ Some n → inc_of (verdict_reply inc v value r) ≡ inc
verdict-inc inc Verdict.Done value (Request.Create w seq name blocks) n e = refl
verdict-inc inc Verdict.Done value (Request.Write w seq file block first last push body) n e = refl
verdict-inc inc Verdict.Done value (Request.Resize w seq q file blocks) n e = refl
verdict-inc inc Verdict.Done value (Request.Remove w seq q file) n e = refl
verdict-inc inc Verdict.Done value r n e = none-some n e
verdict-inc inc Verdict.Fenced value r n e = refl
verdict-inc inc Verdict.Exist value r n e = refl
verdict-inc inc Verdict.NoSpace value r n e = refl
verdict-inc inc Verdict.Invalid value r n e = refl
verdict-inc inc Verdict.Stale value r n e = refl
verdict-inc inc Verdict.TryLater value r n e = refl

pub verdict-grant : (inc : ℕ) (v : Verdict) (value : ℕ) (r : Request) → grant_in (verdict_reply inc v value r) ≡ None
verdict-grant inc Verdict.Done value (Request.Create w seq name blocks) = refl
verdict-grant inc Verdict.Done value (Request.Write w seq file block first last push body) = refl
verdict-grant inc Verdict.Done value (Request.Resize w seq q file blocks) = refl
verdict-grant inc Verdict.Done value (Request.Remove w seq q file) = refl
verdict-grant inc Verdict.Done value r = refl
verdict-grant inc Verdict.Fenced value r = refl
verdict-grant inc Verdict.Exist value r = refl
verdict-grant inc Verdict.NoSpace value r = refl
verdict-grant inc Verdict.Invalid value r = refl
verdict-grant inc Verdict.Stale value r = refl
verdict-grant inc Verdict.TryLater value r = refl

-- a plain reply is of the asker's incarnation, and brings no grant
pub plain-inc : (s : Server) (who : Who) (r : Request) (a : Reply) → IsPlain s who r a → inc_of a ≡ who.inc
plain-inc s who r a (unattached above other e) = ap inc_of e
plain-inc s who r a (attached_again is same e) = ap inc_of e
plain-inc s who r a (not_yet same rec only e) = ap inc_of e
plain-inc s who r a (no_entry name same p is none e) = ap inc_of e
plain-inc s who r a (entry name f same p is some e) = ap inc_of e
plain-inc s who r a (no_attributes file same p is none e) = ap inc_of e
plain-inc s who r a (attributes file f same p is some e) = ap inc_of e
plain-inc s who r a (no_file file same p on none e) = ap inc_of e
plain-inc s who r a (no_block q file block want f same p is some none e) = ap inc_of e
plain-inc s who r a (decided_again seq same sq eq e) = ap inc_of e ∙ verdict-inc who.inc _ _ r seq sq
plain-inc s who r a (is_old seq same sq below e) = ap inc_of e

pub plain-grant : (s : Server) (who : Who) (r : Request) (a : Reply) → IsPlain s who r a → grant_in a ≡ None
plain-grant s who r a (unattached above other e) = ap grant_in e
plain-grant s who r a (attached_again is same e) = ap grant_in e
plain-grant s who r a (not_yet same rec only e) = ap grant_in e
plain-grant s who r a (no_entry name same p is none e) = ap grant_in e
plain-grant s who r a (entry name f same p is some e) = ap grant_in e
plain-grant s who r a (no_attributes file same p is none e) = ap grant_in e
plain-grant s who r a (attributes file f same p is some e) = ap grant_in e
plain-grant s who r a (no_file file same p on none e) = ap grant_in e
plain-grant s who r a (no_block q file block want f same p is some none e) = ap grant_in e
plain-grant s who r a (decided_again seq same sq eq e) = ap grant_in e ∙ verdict-grant who.inc _ _ r
plain-grant s who r a (is_old seq same sq below e) = ap grant_in e

error-said : (ps : List Packet) (sender : ℕ) (d : Datagram) (m : Message) → error_for d ≡ Some m → IsSaid ps (to_host sender m)
error-said ps sender too_long m e = none-some m e
error-said ps sender (no_message fault) m e = none-some m e
error-said ps sender no_call m e = none-some m e
error-said ps sender (other_rpc xid) m e = said_error sender xid RpcError.rpc_mismatch (ap (to_host sender) (sym (some-same _ m e)))
error-said ps sender (other_program xid) m e = said_error sender xid RpcError.program_unavailable (ap (to_host sender) (sym (some-same _ m e)))
error-said ps sender (other_version xid) m e = said_error sender xid RpcError.program_mismatch (ap (to_host sender) (sym (some-same _ m e)))
error-said ps sender (unknown_procedure xid) m e = said_error sender xid RpcError.procedure_unavailable (ap (to_host sender) (sym (some-same _ m e)))
error-said ps sender garbage_vacated m e = none-some m e
error-said ps sender (garbage xid) m e = said_error sender xid RpcError.garbage_arguments (ap (to_host sender) (sym (some-same _ m e)))
error-said ps sender (request xid r) m e = none-some m e

module _ (ps : List Packet) (s : Server) (sender next : ℕ) (d : Datagram)
    (was_sent : (xid : ℕ) (r : Request) → d ≡ request xid r → Asked ps sender xid r) (no_null : (xid : ℕ) → d ≡ request xid Request.Null → ⊥) where
  -- a reply to a request of this datagram, which goes to its sender
  answered : (xid : ℕ) (who : Who) (r : Request) (a : Reply) → d ≡ request xid r → asker r ≡ Some who → who.host ≡ sender → inc_of a ≡ who.inc
      → ((g : Grant) → grant_in a ≡ Some g → (file : ℕ) → requested_file r ≡ Some file → wants_of file r ≡ true)
      → IsSaid ps (to_host who.host (reply xid a))
  answered xid who r a e by from inc wants =
      said_reply who.host xid a refl (record
      { asks = r; who = who; sent = subst (λ h. Asked ps h xid r) (sym from) (was_sent xid r e); by = by; inc = inc; wants = wants })

  committed : (xid : ℕ) (who : Who) (seq : ℕ) (r : Request) (c : Decision) → d ≡ request xid r → asker r ≡ Some who → sequence_of r ≡ Some seq
      → who.host ≡ sender → AllSaid ps c.sends → AllSaid ps (commits who seq xid r c).sends
  unfolding commits
  committed xid who seq r c e by sq from notes =
      both-said ps c.sends (to_host who.host (reply xid (verdict_reply who.inc c.verdict c.value r)) ∷ []) notes
      (one-said ps (to_host who.host (reply xid (verdict_reply who.inc c.verdict c.value r)))
      (answered xid who r (verdict_reply who.inc c.verdict c.value r) e by from (verdict-inc who.inc c.verdict c.value r seq sq)
      (λ g grants file on. none-some g (sym (verdict-grant who.inc c.verdict c.value r) ∙ grants))))

  says-one : (host : ℕ) (m : Message) → IsSaid ps (to_host host m) → AllSaid ps (says s host m).sends
  unfolding says
  says-one host m said = one-said ps (to_host host m) said

  later : (xid : ℕ) (who : Who) (r : Request) (table : Table) (rows : List Row) → d ≡ request xid r → asker r ≡ Some who → who.host ≡ sender
      → AllSaid ps (tells_later s who xid table rows).sends
  unfolding tells_later
  later xid who r table rows e by from =
      both-said ps (notices s.notice rows) (to_host who.host (reply xid (Reply.Refused who.inc Refusal.TryLater)) ∷ []) (notices-said ps s.notice rows)
      (one-said ps (to_host who.host (reply xid (Reply.Refused who.inc Refusal.TryLater)))
      (answered xid who r (Reply.Refused who.inc Refusal.TryLater) e by from refl (λ g grants file on. none-some g grants)))

  -- a block is read, or a lease is given, for one who may have wanted a lease
  serving-said : (xid : ℕ) (who : Who) (q : ℕ) (f : File) (block : ℕ) (body : List ℕ) (table : Table) (grant : Option Grant) (want : Option Want)
      → d ≡ request xid (Request.Read who q f.id block want) → who.host ≡ sender
      → ((g : Grant) → grant ≡ Some g → wants_of f.id (Request.Read who q f.id block want) ≡ true)
      → AllSaid ps (serves s who xid next q f block body table grant).sends
  unfolding serves
  serving-said xid who q f block body table grant want e from wants =
      one-said ps (to_host who.host (reply xid (Reply.Read who.inc f.rev body grant)))
      (answered xid who (Request.Read who q f.id block want) (Reply.Read who.inc f.rev body grant) e refl from refl
      (λ g grants file on. let same : f.id ≡ file = some-same f.id file on in
      subst (λ n. wants_of n (Request.Read who q f.id block want) ≡ true) same (wants g grants)))

  leasing-said : (xid : ℕ) (who : Who) (f : File) (table : Table) (grant : Option Grant) (want : Want)
      → d ≡ request xid (Request.GetLease who f.id want) → who.host ≡ sender → AllSaid ps (leases s who xid f.id table grant).sends
  unfolding leases
  leasing-said xid who f table grant want e from =
      one-said ps (to_host who.host (reply xid (Reply.GetLease who.inc grant)))
      (answered xid who (Request.GetLease who f.id want) (Reply.GetLease who.inc grant) e refl from refl
      (λ g grants file on. number-same f.id file (some-same f.id file on)))

  attaching-said : (xid : ℕ) (who : Who) → d ≡ request xid (Request.Attach who) → who.host ≡ sender → AllSaid ps (attaches s who xid).sends
  unfolding attaches
  attaching-said xid who e from =
      one-said ps (to_host who.host (reply xid (Reply.Attach who.inc)))
      (answered xid who (Request.Attach who) (Reply.Attach who.inc) e refl from refl (λ g grants file on. none-some g grants))

  vacating-said : (who : Who) (file : ℕ) (tag : Tag) → AllSaid ps (vacates s who file tag).sends
  unfolding vacates quiet
  vacating-said who file tag = none-said ps

  quiet-said : AllSaid ps (quiet s).sends
  unfolding quiet
  quiet-said = none-said ps

  drops-said : (reason : Reason) → AllSaid ps (drops s reason).sends
  unfolding drops
  drops-said reason = none-said ps

  declines-said : (v : Verdict) → AllSaid ps (decides s v).sends
  unfolding decides
  declines-said v = none-said ps

  creates-said : (name : List ℕ) (blocks : ℕ) → AllSaid ps (creates s name blocks).sends
  unfolding creates
  creates-said name blocks = none-said ps

  through-said : (who : Who) (f : File) (block number : ℕ) (body : List ℕ) → AllSaid ps (writes_through s who f block number body).sends
  unfolding writes_through
  through-said who f block number body = none-said ps

  stores-said : (who : Who) (f : File) (row : Row) (block first last : ℕ) (body : List ℕ) → AllSaid ps (stores s who f row block first last body).sends
  unfolding stores
  stores-said who f row block first last body = none-said ps

  recovering-said : (until : ℕ) (last : Option Table) (who : Who) (f : File) (block first final : ℕ) (body : List ℕ)
      → AllSaid ps (stores_recovering s until last who f block first final body).sends
  unfolding stores_recovering
  recovering-said until last who f block first final body = none-said ps

  resizes-said : (who : Who) (q : ℕ) (f : File) (blocks : ℕ) → AllSaid ps (resizes s who q f blocks).sends
  unfolding resizes
  resizes-said who q f blocks = none-said ps

  removes-said : (who : Who) (q : ℕ) (f : File) → AllSaid ps (removes s who q f).sends
  unfolding removes
  removes-said who q f = none-said ps

  puts-off-said : (who : Who) (file : ℕ) (table : Table) → AllSaid ps (puts_off s who file table).sends
  unfolding puts_off
  puts-off-said who file table = notices-said ps s.notice _

  -- all that the server sends for a datagram
  pub all-said : AllSaid ps (receive s sender next d).sends
  all-said = server-hears s sender next d (λ t. AllSaid ps t.sends) (record {
    stays = quiet-said;
    dropping = drops-said;
    erring = λ m e. says-one sender m (error-said ps sender d m e);
    answers_null = λ xid e. absurd (no_null xid e);
    replying =
        λ xid who r a e by from plain. says-one who.host (reply xid a)
        (answered xid who r a e by from.host (plain-inc s who r a plain) (λ g grants file on. none-some g (sym (plain-grant s who r a plain) ∙ grants)));
    attaching = λ xid who e from above. attaching-said xid who e from.host;
    vacating = λ xid who file tag e now. vacating-said who file tag;
    putting_off = λ xid who r f clash e by on asking c. later xid who r _ _ e by asking.current.from.host;
    putting_off_waiting = λ xid who r f clash want e by on w asking c own room. later xid who r _ _ e by asking.current.from.host;
    putting_off_by_own = λ xid who r f want own e by on w asking c o ev. later xid who r _ _ e by asking.current.from.host;
    reading =
        λ xid who q block f body e asking there c. serving-said xid who q f block body _ None None e asking.current.from.host
        (λ g grants. none-some g grants);
    reading_full =
        λ xid who q block want f body e asking there c own room. serving-said xid who q f block body _ None (Some want) e asking.current.from.host
        (λ g grants. none-some g grants);
    reading_granted =
        λ xid who q block want f body row term e asking there c granted. serving-said xid who q f block body _ _ (Some want) e asking.current.from.host
        (λ g grants. and_from _ _ (number-same f.id f.id refl) refl);
    leasing_full = λ xid who want f e asking c own room. leasing-said xid who f _ None want e asking.current.from.host;
    leasing = λ xid who want f row term e asking c granted. leasing-said xid who f _ _ want e asking.current.from.host;
    declining = λ xid who seq r v e by sq fresh declined. committed xid who seq r (decides s v) e by sq fresh.current.from.host (declines-said v);
    putting_off_change =
        λ xid who seq r f clash e by sq changes base changing c. committed xid who seq r _ e by sq changing.fresh.current.from.host
        (puts-off-said who f.id _);
    creating =
        λ xid who seq blocks name e fresh serves can. committed xid who seq _ (creates s name blocks) e refl refl fresh.current.from.host
        (creates-said name blocks);
    writing_through =
        λ xid who seq block first last body f e changing below c. committed xid who seq _ _ e refl refl changing.fresh.current.from.host
        (through-said who f block first body);
    storing =
        λ xid who seq block first last base body f row e changing below can. committed xid who seq _ _ e refl refl changing.fresh.current.from.host
        (stores-said who f row block first last body);
    storing_recovering =
        λ xid who seq block first final base body f until heard last e fresh p found below boot rev. committed xid who seq _ _ e refl refl
        fresh.current.from.host (recovering-said until last who f block first final body);
    resizing = λ xid who seq q blocks f e changing can c. committed xid who seq _ _ e refl refl changing.fresh.current.from.host (resizes-said who q f blocks);
    removing = λ xid who seq q f e changing c. committed xid who seq _ _ e refl refl changing.fresh.current.from.host (removes-said who q f);
  })
