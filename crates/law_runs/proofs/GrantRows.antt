-- Each grant that the server sends is of a row that stands after the step.
use Rattle.std.proofs.Common.{◌≡◌, ◌⊎◌, ℕ, ◌+◌, ◌%◌, List, [], ◌∷◌, ◌++◌, Some, None, refl, sym, subst, ap, ◌∙◌, inl, inr, Option}
use Rattle.nq_base.specs.declared.Grant.{Grant}
use Rattle.nq_base.specs.declared.Question.{Question}
use Rattle.nq_base.specs.declared.Refusal.{Refusal}
use Rattle.nq_base.specs.declared.Reply.{Reply}
use Rattle.nq_base.specs.declared.Request.{Request}
use Rattle.nq_base.specs.declared.Row.{Row}
use Rattle.nq_base.specs.declared.Tag.{Tag}
use Rattle.nq_base.specs.declared.Verdict.{Verdict}
use Rattle.nq_base.specs.declared.Who.{Who}
use Rattle.walk_steps.proofs.ClientMoves.{some-same, none-some}
use Rattle.walk_steps.proofs.Packets.{In, in-append, reply-same}
use Rattle.walk_steps.proofs.RowChanges.{find-put-same}
use Rattle.walk_steps.proofs.ServerCases.{server-hears}
use Rattle.walk_steps.proofs.ServerOutcomes.{error_for}
use Rattle.walk_steps.proofs.ServerSays.{plain-grant, verdict-grant}
use Rattle.nq_model.specs.protocol.Ask.{grant_of}
use Rattle.nq_model.specs.protocol.Decide.{Decision, decides, creates, writes_through, stores, stores_recovering, resizes, removes, puts_off, verdict_reply}
use Rattle.nq_model.specs.protocol.Decide.{commits}
use Rattle.nq_model.specs.protocol.Kept.{File}
use Rattle.nq_model.specs.laws.LeaseInterval.{grant_in}
use Rattle.nq_model.specs.protocol.Message.{Message, Packet, call, reply, error, RpcError, Reason, Datagram, request, too_long, no_message, no_call, other_rpc}
use Rattle.nq_model.specs.protocol.Message.{other_program, other_version, unknown_procedure, garbage_vacated, garbage}
use Rattle.nq_model.specs.protocol.Profile.{xid_end}
use Rattle.nq_model.specs.protocol.Server.{serving, Server, ServerStep, to_host, says, quiet, drops, notices, with_table}
use Rattle.nq_model.specs.protocol.ServerStep.{to_read, attaches, vacates, tells_later, serves, leases, receive}
use Rattle.nq_model.specs.protocol.Table.{Table, find_row, put_row, after_draw}

-- a row with the tags of a grant
pub record StandsFor (t : Server) (g : Grant) : Type 0 where
  pub file : ℕ
  pub host : ℕ
  pub row : Row
  pub serves : t.phase ≡ serving
  pub stands : find_row file host t.table.rows ≡ Some row
  pub tag : row.tag ≡ g.tag
  pub since : row.since ≡ g.since

-- a message brings no grant, or one of a row that stands
abbrev pub IsBacked : Server → Packet → Type 0
IsBacked t p = (x : ℕ) (a : Reply) (g : Grant) → p.message ≡ reply x a → grant_in a ≡ Some g → StandsFor t g

abbrev pub AllBacked : Server → List Packet → Type 0
AllBacked t sends = (p : Packet) → In sends p → IsBacked t p

reply-none : (t : Server) (host xid : ℕ) (b : Reply) → grant_in b ≡ None → IsBacked t (to_host host (reply xid b))
reply-none t host xid b none x a g is gives = none-some g (sym none ∙ ap grant_in (reply-same xid x b a is).1 ∙ gives)

error-none : (t : Server) (host xid : ℕ) (e : RpcError) → IsBacked t (to_host host (error xid e))
error-none t host xid e x a g is gives = absurd (cc)

call-none : (t : Server) (host xid : ℕ) (r : Request) → IsBacked t (to_host host (call xid r))
call-none t host xid r x a g is gives = absurd (cc)

notices-none : (t : Server) (xid : ℕ) (rows : List Row) → AllBacked t (notices xid rows)
notices-none t xid [] p h = absurd h
notices-none t xid (row ∷ rows) p (inl e) = subst (IsBacked t) e (call-none t row.who.host xid (Request.Evicted row.who row.file row.tag))
notices-none t xid (row ∷ rows) p (inr h) = notices-none t ((xid + 1) % xid_end) rows p h

one : (t : Server) (q : Packet) → IsBacked t q → AllBacked t (q ∷ [])
one t q s p (inl e) = subst (IsBacked t) e s
one t q s p (inr bad) = absurd bad

both : (t : Server) (xs ys : List Packet) → AllBacked t xs → AllBacked t ys → AllBacked t (xs ++ ys)
both t xs ys a b p h = step (in-append xs ys p h)
  where
    step : In xs p ⊎ In ys p → IsBacked t p
    step (inl x) = a p x
    step (inr y) = b p y

none : (t : Server) → AllBacked t []
none t p h = absurd h

abbrev pub Backs : ServerStep → Type 0
Backs t = AllBacked t.server t.sends

error-backed : (t : Server) (sender : ℕ) (d : Datagram) (m : Message) → error_for d ≡ Some m → IsBacked t (to_host sender m)
error-backed t sender too_long m e = none-some m e
error-backed t sender (no_message fault) m e = none-some m e
error-backed t sender no_call m e = none-some m e
error-backed t sender (other_rpc xid) m e = subst (λ z. IsBacked t (to_host sender z)) (some-same _ m e) (error-none t sender xid RpcError.rpc_mismatch)
error-backed t sender (other_program xid) m e =
    subst (λ z. IsBacked t (to_host sender z)) (some-same _ m e) (error-none t sender xid RpcError.program_unavailable)
error-backed t sender (other_version xid) m e = subst (λ z. IsBacked t (to_host sender z)) (some-same _ m e)
    (error-none t sender xid RpcError.program_mismatch)
error-backed t sender (unknown_procedure xid) m e =
    subst (λ z. IsBacked t (to_host sender z)) (some-same _ m e) (error-none t sender xid RpcError.procedure_unavailable)
error-backed t sender garbage_vacated m e = none-some m e
error-backed t sender (garbage xid) m e = subst (λ z. IsBacked t (to_host sender z)) (some-same _ m e) (error-none t sender xid RpcError.garbage_arguments)
error-backed t sender (request xid r) m e = none-some m e

module _ (s : Server) (sender next : ℕ) (d : Datagram) where
  committed : (xid : ℕ) (who : Who) (seq : ℕ) (r : Request) (c : Decision) → ((t : Server) → AllBacked t c.sends) → Backs (commits who seq xid r c)
  unfolding commits
  committed xid who seq r c notes =
      let t : Server = (commits who seq xid r c).server in
      both t c.sends (to_host who.host (reply xid (verdict_reply who.inc c.verdict c.value r)) ∷ []) (notes t)
      (one t (to_host who.host (reply xid (verdict_reply who.inc c.verdict c.value r)))
      (reply-none t who.host xid (verdict_reply who.inc c.verdict c.value r) (verdict-grant who.inc c.verdict c.value r)))

  says-one : (host : ℕ) (m : Message) → ((t : Server) → IsBacked t (to_host host m)) → Backs (says s host m)
  unfolding says
  says-one host m backed = one s (to_host host m) (backed s)

  later : (xid : ℕ) (who : Who) (table : Table) (rows : List Row) → Backs (tells_later s who xid table rows)
  unfolding tells_later
  later xid who table rows =
      let t : Server = (tells_later s who xid table rows).server in
      both t (notices s.notice rows) (to_host who.host (reply xid (Reply.Refused who.inc Refusal.TryLater)) ∷ []) (notices-none t s.notice rows)
      (one t (to_host who.host (reply xid (Reply.Refused who.inc Refusal.TryLater))) (reply-none t who.host xid (Reply.Refused who.inc Refusal.TryLater) refl))

  serving-none : (xid : ℕ) (who : Who) (q : ℕ) (f : File) (block : ℕ) (body : List ℕ) (table : Table) → Backs (serves s who xid next q f block body table None)
  unfolding serves
  serving-none xid who q f block body table =
      one (serves s who xid next q f block body table None).server (to_host who.host (reply xid (Reply.Read who.inc f.rev body None)))
      (reply-none _ who.host xid (Reply.Read who.inc f.rev body None) refl)

  leasing-none : (xid : ℕ) (who : Who) (file : ℕ) (table : Table) → Backs (leases s who xid file table None)
  unfolding leases
  leasing-none xid who file table =
      one (leases s who xid file table None).server (to_host who.host (reply xid (Reply.GetLease who.inc None)))
      (reply-none _ who.host xid (Reply.GetLease who.inc None) refl)

  -- a grant of a row that was put into the table
  for-row : (t : Server) (q : Question) (row : Row) (term : ℕ) (g : Grant) → t.phase ≡ serving → t.table.rows ≡ put_row row s.table.rows
      → grant_of q row term ≡ g → StandsFor t g
  unfolding grant_of
  for-row t q row term g serves put same = record {
    file = row.file;
    host = row.who.host;
    row = row;
    serves = serves;
    stands = subst (λ rows. find_row row.file row.who.host rows ≡ Some row) (sym put) (find-put-same row s.table.rows);
    tag = ap (λ z. z.tag) same;
    since = ap (λ z. z.since) same;
  }

  granted : (t : Server) (host xid : ℕ) (b : Reply) (q : Question) (row : Row) (term : ℕ) → t.phase ≡ serving → t.table.rows ≡ put_row row s.table.rows
      → grant_in b ≡ Some (grant_of q row term) → IsBacked t (to_host host (reply xid b))
  granted t host xid b q row term serves put brings x a g is gives =
      for-row t q row term g serves put (some-same (grant_of q row term) g (sym brings ∙ ap grant_in (reply-same xid x b a is).1 ∙ gives))

  serving-granted : (xid : ℕ) (who : Who) (q : ℕ) (f : File) (block : ℕ) (body : List ℕ) (question : Question) (row : Row) (term : ℕ)
      → s.phase ≡ serving → Backs (serves s who xid next q f block body (after_draw s.table (put_row row s.table.rows)) (Some (grant_of question row term)))
  unfolding serves with_table after_draw
  serving-granted xid who q f block body question row term p =
      let t : Server = (serves s who xid next q f block body (after_draw s.table (put_row row s.table.rows)) (Some (grant_of question row term))).server in
      one t (to_host who.host (reply xid (Reply.Read who.inc f.rev body (Some (grant_of question row term)))))
      (granted t who.host xid (Reply.Read who.inc f.rev body (Some (grant_of question row term))) question row term p refl refl)

  leasing-granted : (xid : ℕ) (who : Who) (file : ℕ) (question : Question) (row : Row) (term : ℕ) → s.phase ≡ serving
      → Backs (leases s who xid file (after_draw s.table (put_row row s.table.rows)) (Some (grant_of question row term)))
  unfolding leases with_table after_draw
  leasing-granted xid who file question row term p =
      let t : Server = (leases s who xid file (after_draw s.table (put_row row s.table.rows)) (Some (grant_of question row term))).server in
      one t (to_host who.host (reply xid (Reply.GetLease who.inc (Some (grant_of question row term)))))
      (granted t who.host xid (Reply.GetLease who.inc (Some (grant_of question row term))) question row term p refl refl)

  attaching-none : (xid : ℕ) (who : Who) → Backs (attaches s who xid)
  unfolding attaches
  attaching-none xid who =
      one (attaches s who xid).server (to_host who.host (reply xid (Reply.Attach who.inc))) (reply-none _ who.host xid (Reply.Attach who.inc) refl)

  silent : (t : ServerStep) → t.sends ≡ [] → Backs t
  silent t e = subst (AllBacked t.server) (sym e) (none t.server)

  vacates-sends : (who : Who) (file : ℕ) (tag : Tag) → (vacates s who file tag).sends ≡ []
  unfolding vacates quiet
  vacates-sends who file tag = refl

  quiet-sends : (quiet s).sends ≡ []
  unfolding quiet
  quiet-sends = refl

  drops-sends : (reason : Reason) → (drops s reason).sends ≡ []
  unfolding drops
  drops-sends reason = refl

  decided-silent : (c : Decision) → c.sends ≡ [] → (t : Server) → AllBacked t c.sends
  decided-silent c e t = subst (AllBacked t) (sym e) (none t)

  declines-sends : (v : Verdict) → (decides s v).sends ≡ []
  unfolding decides
  declines-sends v = refl

  creates-sends : (name : List ℕ) (blocks : ℕ) → (creates s name blocks).sends ≡ []
  unfolding creates
  creates-sends name blocks = refl

  through-sends : (who : Who) (f : File) (block number : ℕ) (body : List ℕ) → (writes_through s who f block number body).sends ≡ []
  unfolding writes_through
  through-sends who f block number body = refl

  stores-sends : (who : Who) (f : File) (row : Row) (block first last : ℕ) (body : List ℕ) → (stores s who f row block first last body).sends ≡ []
  unfolding stores
  stores-sends who f row block first last body = refl

  recovering-sends : (until : ℕ) (last : Option Table) (who : Who) (f : File) (block first final : ℕ) (body : List ℕ)
      → (stores_recovering s until last who f block first final body).sends ≡ []
  unfolding stores_recovering
  recovering-sends until last who f block first final body = refl

  resizes-sends : (who : Who) (q : ℕ) (f : File) (blocks : ℕ) → (resizes s who q f blocks).sends ≡ []
  unfolding resizes
  resizes-sends who q f blocks = refl

  removes-sends : (who : Who) (q : ℕ) (f : File) → (removes s who q f).sends ≡ []
  unfolding removes
  removes-sends who q f = refl

  puts-off-none : (who : Who) (file : ℕ) (table : Table) (t : Server) → AllBacked t (puts_off s who file table).sends
  unfolding puts_off
  puts-off-none who file table t = notices-none t s.notice _

  -- all grants that the server sends for a datagram
  pub all-backed : Backs (receive s sender next d)
  all-backed = server-hears s sender next d Backs (record {
    stays = silent (quiet s) quiet-sends;
    dropping = λ reason. silent (drops s reason) (drops-sends reason);
    erring = λ m e. says-one sender m (λ t. error-backed t sender d m e);
    answers_null = λ xid e. says-one sender (reply xid Reply.Null) (λ t. reply-none t sender xid Reply.Null refl);
    replying = λ xid who r a e by from plain. says-one who.host (reply xid a) (λ t. reply-none t who.host xid a (plain-grant s who r a plain));
    attaching = λ xid who e from above. attaching-none xid who;
    vacating = λ xid who file tag e now. silent (vacates s who file tag) (vacates-sends who file tag);
    putting_off = λ xid who r f clash e by on asking c. later xid who _ _;
    putting_off_waiting = λ xid who r f clash want e by on w asking c own room. later xid who _ _;
    putting_off_by_own = λ xid who r f want own e by on w asking c o ev. later xid who _ _;
    reading = λ xid who q block f body e asking there c. serving-none xid who q f block body _;
    reading_full = λ xid who q block want f body e asking there c own room. serving-none xid who q f block body _;
    reading_granted =
        λ xid who q block want f body row term e asking there c g. serving-granted xid who q f block body (to_read s who f (Some want)) row
        term asking.serves;
    leasing_full = λ xid who want f e asking c own room. leasing-none xid who f.id _;
    leasing = λ xid who want f row term e asking c g. leasing-granted xid who f.id (to_read s who f (Some want)) row term asking.serves;
    declining = λ xid who seq r v e by sq fresh declined. committed xid who seq r (decides s v) (decided-silent (decides s v) (declines-sends v));
    putting_off_change = λ xid who seq r f clash e by sq changes base changing c. committed xid who seq r _ (puts-off-none who f.id _);
    creating =
        λ xid who seq blocks name e fresh serves can. committed xid who seq _ (creates s name blocks)
        (decided-silent (creates s name blocks) (creates-sends name blocks));
    writing_through =
        λ xid who seq block first last body f e changing below c. committed xid who seq _ _
        (decided-silent (writes_through s who f block first body) (through-sends who f block first body));
    storing =
        λ xid who seq block first last base body f row e changing below can. committed xid who seq _ _
        (decided-silent (stores s who f row block first last body) (stores-sends who f row block first last body));
    storing_recovering =
        λ xid who seq block first final base body f until heard last e fresh p found below boot rev. committed xid who seq _ _
        (decided-silent (stores_recovering s until last who f block first final body) (recovering-sends until last who f block first final body));
    resizing = λ xid who seq q blocks f e changing can c. committed xid who seq _ _ (decided-silent (resizes s who q f blocks) (resizes-sends who q f blocks));
    removing = λ xid who seq q f e changing c. committed xid who seq _ _ (decided-silent (removes s who q f) (removes-sends who q f));
  })
