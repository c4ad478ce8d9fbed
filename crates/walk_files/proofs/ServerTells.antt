-- What the server's step for a datagram does to the journal and to the kept lines of hosts, and what its replies tell.
use Rattle.std.proofs.Common.{◌≡◌, ◌<◌, ◌⊎◌, ℕ, true, List, [], ◌∷◌, Option, Some, None, length, refl, sym, subst, ap, ◌∙◌, arith, inl, inr}
use Rattle.nq_base.specs.Block.{value_of}
use Rattle.nq_base.specs.declared.Entry.{Entry}
use Rattle.nq_base.specs.declared.Entry.TheVariants.{W, S, L}
use Rattle.nq_base.specs.declared.Grant.{Grant}
use Rattle.nq_base.specs.declared.HostRow.{HostRow}
use Rattle.nq_base.specs.declared.PushBase.{PushBase}
use Rattle.nq_base.specs.declared.Refusal.{Refusal}
use Rattle.nq_base.specs.declared.Reply.{Reply}
use Rattle.nq_base.specs.declared.Request.{Request}
use Rattle.nq_base.specs.declared.Row.{Row}
use Rattle.nq_base.specs.declared.Tag.{Tag}
use Rattle.nq_base.specs.declared.Verdict.{Verdict}
use Rattle.nq_base.specs.declared.Who.{Who}
use Rattle.walk_steps.proofs.ClientFacts.{push_in}
use Rattle.walk_steps.proofs.ClientMoves.{some-same, none-some}
use Rattle.walk_steps.proofs.Sequences.{reads-no-seq, asks-no-seq}
use Rattle.nq_model.specs.protocol.Decide.{Decision, decides, creates, writes_through, stores, wrote, stores_recovering, resizes, removes, puts_off}
use Rattle.nq_model.specs.protocol.Decide.{verdict_reply, commits, row_after}
use Rattle.nq_model.specs.protocol.Hear.{inc_of, is_put_off}
use Rattle.nq_model.specs.protocol.Kept.{File, Kept, host_row, with_row, with_files, with_new_file}
use Rattle.nq_model.specs.protocol.Message.{Message, Packet, reply, asker, Reason, Datagram, request, too_long, no_message, no_call, other_rpc, other_program}
use Rattle.nq_model.specs.protocol.Message.{other_version, unknown_procedure, garbage_vacated, garbage, sequence_of}
use Rattle.nq_model.specs.protocol.Profile.{most_hosts}
use Rattle.nq_model.specs.protocol.Server.{Server, ServerStep, to_host, quiet, drops, says, notices, after_notices, keeping, keeping_with, with_table}
use Rattle.nq_model.specs.protocol.ServerStep.{attaches, vacates, tells_later, serves, leases, grants, receive}
use Rattle.nq_model.specs.protocol.Table.{Table, with_rows}
use Rattle.walk_steps.proofs.Packets.{In, in-append, Asked, told-same, reply-same}
use Rattle.walk_steps.proofs.ServerSays.{verdict-inc, plain-inc, notices-no-reply}
use Rattle.walk_steps.proofs.ServerNumbers.{LinesFitOf}
use Rattle.walk_steps.proofs.KeptChanges.{other-line, own-line, same-lines}
use Rattle.walk_steps.proofs.ServerCases.{server-hears}
use Rattle.walk_steps.proofs.ServerOutcomes.{error_for, base_in, line_of, IsFrom, IsFresh, IsPlain, unattached, attached_again, not_yet, no_entry}
use Rattle.walk_steps.proofs.ServerOutcomes.{entry, no_attributes, attributes, no_file, no_block, decided_again, is_old, IsDeclined, declined-not}

-- ---- entries

-- the entry is no write, and covers none
abbrev pub IsQuiet : Entry → Type 0
IsQuiet (W who file block number value through) = ⊥
IsQuiet (S who file block first last now) = ⊥
IsQuiet (L who file block first last) = ⊥
IsQuiet other = Unit {0}

abbrev pub AllQuiet : List Entry → Type 0
AllQuiet entries = (e : Entry) → In entries e → IsQuiet e

pub none-quiet : AllQuiet []
none-quiet e i = absurd i

pub one-quiet : (first : Entry) → IsQuiet first → AllQuiet (first ∷ [])
one-quiet first q e (inl same) = subst (λ x. IsQuiet x) same q
one-quiet first q e (inr bad) = absurd bad

pub more-quiet : (first : Entry) (entries : List Entry) → IsQuiet first → AllQuiet entries → AllQuiet (first ∷ entries)
more-quiet first entries q all e (inl same) = subst (λ x. IsQuiet x) same q
more-quiet first entries q all e (inr i) = all e i

-- ---- what a step does

-- a reply to a request that is decided once puts it off, or is the one that the kept verdict gives
pub data Tells (line : HostRow) (who : Who) (n : ℕ) (asks : Request) (a : Reply) : Type 0 where
  later : (status : Refusal) → a ≡ Reply.Refused who.inc status → is_put_off status ≡ true → Tells line who n asks a
  decided : line.inc ≡ who.inc → line.seq ≡ n → a ≡ verdict_reply who.inc line.verdict line.value asks → Tells line who n asks a

-- a reply of a step, where this is kept after it
pub record SaysOf (ps : List Packet) (after : Kept) (host x : ℕ) (a : Reply) : Type 0 where
  pub asks : Request
  pub who : Who
  pub sent : Asked ps host x asks
  pub by : asker asks ≡ Some who
  pub same_host : who.host ≡ host
  pub inc : inc_of a ≡ who.inc
  pub tells : (n : ℕ) → sequence_of asks ≡ Some n → Tells (host_row after host) who n asks a

abbrev pub AllSay : List Packet → ServerStep → Type 0
AllSay ps t = (host x : ℕ) (a : Reply) → In t.sends (to_host host (reply x a)) → SaysOf ps t.server.kept host x a

-- the effect of a decision on the journal
pub data Effects (w : Who) (r : Request) (verdict : Verdict) (entries : List Entry) : Type 0 where
  without : AllQuiet entries → (push_in r ≡ None) ⊎ (verdict ≡ Verdict.Done → ⊥) → Effects w r verdict entries
  goes_through : (seq file block first last : ℕ) (body : List ℕ) → r ≡ Request.Write w seq file block first last None body
      → entries ≡ W w file block first (value_of body) true ∷ [] → Effects w r verdict entries
  pushes : (seq file block first last now : ℕ) (base : PushBase) (body : List ℕ) → r ≡ Request.Write w seq file block first last (Some base) body
      → verdict ≡ Verdict.Done → entries ≡ S w file block first last now ∷ [] → Effects w r verdict entries

-- a fresh request is decided
pub record Decides (ps : List Packet) (s : Server) (t : ServerStep) : Type 0 where
  pub x : ℕ
  pub seq : ℕ
  pub w : Who
  pub r : Request
  pub asked : Asked ps w.host x r
  pub by : asker r ≡ Some w
  pub draws : sequence_of r ≡ Some seq
  pub inc : (host_row s.kept w.host).inc ≡ w.inc
  pub above : (host_row s.kept w.host).seq < seq
  pub inc_after : (host_row t.server.kept w.host).inc ≡ w.inc
  pub seq_after : (host_row t.server.kept w.host).seq ≡ seq
  pub effects : Effects w r (host_row t.server.kept w.host).verdict t.entries
  pub others : (host : ℕ) → (host ≡ w.host → ⊥) → host_row t.server.kept host ≡ host_row s.kept host

-- the same, at the host whose request it is
pub record DecidedAt (ps : List Packet) (s : Server) (t : ServerStep) (k : Decides ps s t) (host : ℕ) : Type 0 where
  pub asked : Asked ps host k.x k.r
  pub was_inc : (host_row s.kept host).inc ≡ k.w.inc
  pub was_below : (host_row s.kept host).seq < k.seq
  pub is_inc : (host_row t.server.kept host).inc ≡ k.w.inc
  pub is_seq : (host_row t.server.kept host).seq ≡ k.seq

pub decided-at : (ps : List Packet) (s : Server) (t : ServerStep) (k : Decides ps s t) (host : ℕ) → host ≡ k.w.host → DecidedAt ps s t k host
decided-at ps s t k host same =
    subst (DecidedAt ps s t k) (sym same) (record { asked = k.asked; was_inc = k.inc; was_below = k.above; is_inc = k.inc_after; is_seq = k.seq_after })

-- a later incarnation begins
pub record Attaches (ps : List Packet) (s : Server) (t : ServerStep) : Type 0 where
  pub x : ℕ
  pub w : Who
  pub asked : Asked ps w.host x (Request.Attach w)
  pub above : (host_row s.kept w.host).inc < w.inc
  pub inc_after : (host_row t.server.kept w.host).inc ≡ w.inc
  pub seq_after : (host_row t.server.kept w.host).seq ≡ 0
  pub others : (host : ℕ) → (host ≡ w.host → ⊥) → host_row t.server.kept host ≡ host_row s.kept host

pub data Moves (ps : List Packet) (s : Server) (t : ServerStep) : Type 0 where
  same_lines : AllQuiet t.entries → ((host : ℕ) → host_row t.server.kept host ≡ host_row s.kept host) → Moves ps s t
  attaches_one : AllQuiet t.entries → Attaches ps s t → Moves ps s t
  decides_one : Decides ps s t → Moves ps s t

pub record ServerTells (ps : List Packet) (s : Server) (t : ServerStep) : Type 0 where
  pub moves : Moves ps s t
  pub says : AllSay ps t

-- ---- plain replies

plain-tells : (s : Server) (w : Who) (r : Request) (a : Reply) → IsPlain s w r a → (n : ℕ) → sequence_of r ≡ Some n → Tells (line_of s w) w n r a
plain-tells s w r a (unattached above other e) n q = later Refusal.NotAttached e refl
plain-tells s w r a (attached_again asks same e) n q = none-some n (ap sequence_of (sym asks) ∙ q)
plain-tells s w r a (not_yet same rec only e) n q = none-some n (sym (asks-no-seq r only) ∙ q)
plain-tells s w r a (no_entry name same p on none e) n q = none-some n (ap sequence_of (sym on) ∙ q)
plain-tells s w r a (entry name f same p on some e) n q = none-some n (ap sequence_of (sym on) ∙ q)
plain-tells s w r a (no_attributes file same p on none e) n q = none-some n (ap sequence_of (sym on) ∙ q)
plain-tells s w r a (attributes file f same p on some e) n q = none-some n (ap sequence_of (sym on) ∙ q)
plain-tells s w r a (no_file file same p on none e) n q = none-some n (sym (reads-no-seq r file on) ∙ q)
plain-tells s w r a (no_block q' file block want f same p on some none e) n q = none-some n (ap sequence_of (sym on) ∙ q)
plain-tells s w r a (decided_again seq same sq eq e) n q = let one : seq ≡ n = some-same seq n (sym sq ∙ q) in decided (sym same) (sym eq ∙ one) e
plain-tells s w r a (is_old seq same sq below e) n q = later Refusal.Old e refl

-- ---- messages

none-say : (ps : List Packet) (kept : Kept) (host x : ℕ) (a : Reply) → In [] (to_host host (reply x a)) → SaysOf ps kept host x a
none-say ps kept host x a bad = absurd bad

-- one reply, of these requests
one-says : (ps : List Packet) (kept : Kept) (host y : ℕ) (b : Reply) → SaysOf ps kept host y b → (other x : ℕ) (a : Reply)
    → In (to_host host (reply y b) ∷ []) (to_host other (reply x a)) → SaysOf ps kept other x a
one-says ps kept host y b k other x a (inl e) =
    let t = told-same host other (reply y b) (reply x a) e in
    let p = reply-same y x b a t.1 in
    subst (λ n. SaysOf ps kept n x a) t.0 (subst (λ n. SaysOf ps kept host n a) p.0 (subst (λ z. SaysOf ps kept host y z) p.1 k))
one-says ps kept host y b k other x a (inr bad) = absurd bad

error-none : (sender : ℕ) (d : Datagram) (m : Message) → error_for d ≡ Some m → (host x : ℕ) (a : Reply)
    → In (to_host sender m ∷ []) (to_host host (reply x a)) → ⊥
error-none sender d m e host x a (inl i) = let t : m ≡ reply x a = (told-same sender host m (reply x a) i).1 in no d (e ∙ ap Some t)
  where
    no : (d : Datagram) → error_for d ≡ Some (reply x a) → ⊥
    no too_long e = cc
    no (no_message fault) e = cc
    no no_call e = cc
    no (other_rpc xid) e = cc
    no (other_program xid) e = cc
    no (other_version xid) e = cc
    no (unknown_procedure xid) e = cc
    no garbage_vacated e = cc
    no (garbage xid) e = cc
    no (request xid r) e = cc
error-none sender d m e host x a (inr bad) = bad

module _ (ps : List Packet) (s : Server) (sender next : ℕ) (d : Datagram)
    (was_sent : (xid : ℕ) (r : Request) → d ≡ request xid r → Asked ps sender xid r) (no_null : (xid : ℕ) → d ≡ request xid Request.Null → ⊥)
    (lines : LinesFitOf s) where
  asked-here : (xid : ℕ) (w : Who) (r : Request) → d ≡ request xid r → w.host ≡ sender → Asked ps w.host xid r
  asked-here xid w r e from = subst (λ n. Asked ps n xid r) (sym from) (was_sent xid r e)

  -- a reply to this datagram
  answered : (kept : Kept) (xid : ℕ) (w : Who) (r : Request) (a : Reply) → d ≡ request xid r → asker r ≡ Some w → w.host ≡ sender → inc_of a ≡ w.inc
      → ((n : ℕ) → sequence_of r ≡ Some n → Tells (host_row kept w.host) w n r a) → SaysOf ps kept w.host xid a
  answered kept xid w r a e by from inc tells =
      record { asks = r; who = w; sent = asked-here xid w r e from; by = by; same_host = refl; inc = inc; tells = tells }

  stays : ServerTells ps s (quiet s)
  unfolding quiet
  stays = record { moves = same_lines none-quiet (λ host. refl); says = none-say ps s.kept }

  dropping : (reason : Reason) → ServerTells ps s (drops s reason)
  unfolding drops
  dropping reason = record { moves = same_lines none-quiet (λ host. refl); says = none-say ps s.kept }

  erring : (m : Message) → error_for d ≡ Some m → ServerTells ps s (says s sender m)
  unfolding says
  erring m e = record { moves = same_lines none-quiet (λ host. refl); says = λ host x a i. absurd (error-none sender d m e host x a i) }

  replying : (xid : ℕ) (w : Who) (r : Request) (a : Reply) → d ≡ request xid r → asker r ≡ Some w → w.host ≡ sender → inc_of a ≡ w.inc
      → ((n : ℕ) → sequence_of r ≡ Some n → Tells (host_row s.kept w.host) w n r a) → ServerTells ps s (says s w.host (reply xid a))
  unfolding says
  replying xid w r a e by from inc tells =
      record { moves = same_lines none-quiet (λ host. refl); says = one-says ps s.kept w.host xid a (answered s.kept xid w r a e by from inc tells) }

  attaching : (xid : ℕ) (w : Who) → d ≡ request xid (Request.Attach w) → IsFrom sender w → (line_of s w).inc < w.inc → ServerTells ps s (attaches s w xid)
  unfolding attaches keeping_with
  attaching xid w e from above =
      let row : HostRow = record { inc = w.inc; seq = 0; verdict = Verdict.Done; value = 0 } in
      record {
        moves = attaches_one none-quiet (record {
          x = xid;
          w = w;
          asked = asked-here xid w (Request.Attach w) e from.host;
          above = above;
          inc_after = ap (λ l. l.inc) (own-line s.kept w.host row (let few = from.possible in omega arith));
          seq_after = ap (λ l. l.seq) (own-line s.kept w.host row (let few = from.possible in omega arith));
          others = λ host apart. other-line s.kept w.host host row apart;
        });
        says =
            one-says ps (with_row s.kept w.host row) w.host xid (Reply.Attach w.inc)
            (answered (with_row s.kept w.host row) xid w (Request.Attach w) (Reply.Attach w.inc) e refl from.host refl (λ n q. none-some n q));
      }

  vacating : (w : Who) (file : ℕ) (tag : Tag) → ServerTells ps s (vacates s w file tag)
  unfolding vacates quiet with_table with_rows
  vacating w file tag = record { moves = same_lines none-quiet (λ host. refl); says = none-say ps s.kept }

  putting-off : (xid : ℕ) (w : Who) (r : Request) (table : Table) (rows : List Row) → d ≡ request xid r → asker r ≡ Some w → w.host ≡ sender
      → ServerTells ps s (tells_later s w xid table rows)
  unfolding tells_later after_notices
  putting-off xid w r table rows e by from = record {
    moves = same_lines none-quiet (λ host. refl);
    says =
        λ host x a i. case host x a (in-append (notices s.notice rows) (to_host w.host (reply xid (Reply.Refused w.inc Refusal.TryLater)) ∷ [])
        (to_host host (reply x a)) i);
  } where
    case : (host x : ℕ) (a : Reply) → In (notices s.notice rows) (to_host host (reply x a))
        ⊎ In (to_host w.host (reply xid (Reply.Refused w.inc Refusal.TryLater)) ∷ []) (to_host host (reply x a)) → SaysOf ps s.kept host x a
    case host x a (inl bad) = absurd (notices-no-reply s.notice rows host x a bad)
    case host x a (inr i) =
        one-says ps s.kept w.host xid (Reply.Refused w.inc Refusal.TryLater)
        (answered s.kept xid w r (Reply.Refused w.inc Refusal.TryLater) e by from refl (λ n q. later Refusal.TryLater refl refl)) host x a i

  granted-quiet : (w : Who) (file : ℕ) (grant : Option Grant) → AllQuiet (grants s w file grant)
  granted-quiet w file None = none-quiet
  granted-quiet w file (Some g) = one-quiet _ tt

  reading : (xid : ℕ) (w : Who) (q block : ℕ) (f : File) (body : List ℕ) (table : Table) (grant : Option Grant) (r : Request) → d ≡ request xid r
      → asker r ≡ Some w → w.host ≡ sender → sequence_of r ≡ None → ServerTells ps s (serves s w xid next q f block body table grant)
  unfolding serves with_table
  reading xid w q block f body table grant r e by from no_seq = record {
    moves = same_lines (more-quiet _ (grants s w f.id grant) tt (granted-quiet w f.id grant)) (λ host. refl);
    says =
        one-says ps s.kept w.host xid (Reply.Read w.inc f.rev body grant)
        (answered s.kept xid w r (Reply.Read w.inc f.rev body grant) e by from refl (λ n q. none-some n (sym no_seq ∙ q)));
  }

  leasing : (xid : ℕ) (w : Who) (file : ℕ) (table : Table) (grant : Option Grant) (r : Request) → d ≡ request xid r → asker r ≡ Some w → w.host ≡ sender
      → sequence_of r ≡ None → ServerTells ps s (leases s w xid file table grant)
  unfolding leases with_table
  leasing xid w file table grant r e by from no_seq = record {
    moves = same_lines (granted-quiet w file grant) (λ host. refl);
    says =
        one-says ps s.kept w.host xid (Reply.GetLease w.inc grant)
        (answered s.kept xid w r (Reply.GetLease w.inc grant) e by from refl (λ n q. none-some n (sym no_seq ∙ q)));
  }

  -- ---- decisions

  committed : (xid : ℕ) (w : Who) (seq : ℕ) (r : Request) (k : Decision) → d ≡ request xid r → asker r ≡ Some w → sequence_of r ≡ Some seq
      → IsFresh s sender w seq → k.server.kept.hosts ≡ s.kept.hosts → ((host x : ℕ) (a : Reply) → In k.sends (to_host host (reply x a)) → ⊥)
      → Effects w r k.verdict k.entries → ServerTells ps s (commits w seq xid r k)
  unfolding commits keeping
  committed xid w seq r k e by sq fresh same silent effects = record {
    moves = decides_one (record {
      x = xid;
      seq = seq;
      w = w;
      r = r;
      asked = asked-here xid w r e fresh.current.from.host;
      by = by;
      draws = sq;
      inc = sym fresh.current.inc;
      above = fresh.above;
      inc_after = ap (λ l. l.inc) own;
      seq_after = ap (λ l. l.seq) own;
      effects = subst (λ l. Effects w r l.verdict k.entries) (sym own) effects;
      others = λ host apart. other-line k.server.kept w.host host (row_after w seq k) apart ∙ same-lines s.kept k.server.kept host same;
    });
    says =
        λ host x a i. case host x a (in-append k.sends (to_host w.host (reply xid (verdict_reply w.inc k.verdict k.value r)) ∷ [])
        (to_host host (reply x a)) i);
  } where
    after : Kept
    after = with_row k.server.kept w.host (row_after w seq k)

    own : host_row after w.host ≡ row_after w seq k
    own =
        own-line k.server.kept w.host (row_after w seq k)
        (let few = fresh.current.from.possible in let all : length k.server.kept.hosts ≡ most_hosts = ap length same ∙ lines in omega arith)

    tells : (n : ℕ) → sequence_of r ≡ Some n → Tells (host_row after w.host) w n r (verdict_reply w.inc k.verdict k.value r)
    tells n q = subst (λ l. Tells l w n r (verdict_reply w.inc k.verdict k.value r)) (sym own) (decided refl (some-same seq n (sym sq ∙ q)) refl)

    case : (host x : ℕ) (a : Reply) → In k.sends (to_host host (reply x a))
        ⊎ In (to_host w.host (reply xid (verdict_reply w.inc k.verdict k.value r)) ∷ []) (to_host host (reply x a)) → SaysOf ps after host x a
    case host x a (inl bad) = absurd (silent host x a bad)
    case host x a (inr i) =
        one-says ps after w.host xid (verdict_reply w.inc k.verdict k.value r)
        (answered after xid w r (verdict_reply w.inc k.verdict k.value r) e by fresh.current.from.host (verdict-inc w.inc k.verdict k.value r seq sq)
        tells) host x a i

  declining : (xid : ℕ) (w : Who) (seq : ℕ) (r : Request) (v : Verdict) → d ≡ request xid r → asker r ≡ Some w → sequence_of r ≡ Some seq
      → IsFresh s sender w seq → IsDeclined s w r v → ServerTells ps s (commits w seq xid r (decides s v))
  unfolding decides
  declining xid w seq r v e by sq fresh declined =
      committed xid w seq r (decides s v) e by sq fresh refl (λ host x a i. i) (without none-quiet (inr (declined-not s w r v declined)))

  no-base : (r : Request) → base_in r ≡ None → push_in r ≡ None
  no-base (Request.Write w seq file block first last None body) e = refl
  no-base (Request.Write w seq file block first last (Some base) body) e = none-some base (sym e)
  no-base r e = refl

  putting-off-change : (xid : ℕ) (w : Who) (seq : ℕ) (r : Request) (file : ℕ) (table : Table) → d ≡ request xid r → asker r ≡ Some w
      → sequence_of r ≡ Some seq → base_in r ≡ None → IsFresh s sender w seq → ServerTells ps s (commits w seq xid r (puts_off s w file table))
  unfolding puts_off after_notices
  putting-off-change xid w seq r file table e by sq base fresh =
      committed xid w seq r (puts_off s w file table) e by sq fresh refl (λ host x a i. notices-no-reply s.notice _ host x a i)
      (without none-quiet (inl (no-base r base)))

  creating : (xid : ℕ) (w : Who) (seq blocks : ℕ) (name : List ℕ) → d ≡ request xid (Request.Create w seq name blocks) → IsFresh s sender w seq
      → ServerTells ps s (commits w seq xid (Request.Create w seq name blocks) (creates s name blocks))
  unfolding creates keeping with_new_file
  creating xid w seq blocks name e fresh =
      committed xid w seq (Request.Create w seq name blocks) (creates s name blocks) e refl refl fresh refl (λ host x a i. i)
      (without none-quiet (inl refl))

  writing-through : (xid : ℕ) (w : Who) (seq block first last : ℕ) (body : List ℕ) (f : File)
      → d ≡ request xid (Request.Write w seq f.id block first last None body) → IsFresh s sender w seq
      → ServerTells ps s (commits w seq xid (Request.Write w seq f.id block first last None body) (writes_through s w f block first body))
  unfolding writes_through keeping with_files
  writing-through xid w seq block first last body f e fresh =
      committed xid w seq (Request.Write w seq f.id block first last None body) (writes_through s w f block first body) e refl refl fresh refl
      (λ host x a i. i) (goes_through seq f.id block first last body refl refl)

  storing : (xid : ℕ) (w : Who) (seq block first last : ℕ) (base : PushBase) (body : List ℕ) (f : File) (row : Row)
      → d ≡ request xid (Request.Write w seq f.id block first last (Some base) body) → IsFresh s sender w seq
      → ServerTells ps s (commits w seq xid (Request.Write w seq f.id block first last (Some base) body) (stores s w f row block first last body))
  unfolding stores keeping_with with_files with_rows
  storing xid w seq block first last base body f row e fresh =
      committed xid w seq (Request.Write w seq f.id block first last (Some base) body) (stores s w f row block first last body) e refl refl fresh refl
      (λ host x a i. i) (pushes seq f.id block first last s.now base body refl refl refl)

  storing-recovering : (xid : ℕ) (w : Who) (seq block first final : ℕ) (base : PushBase) (body : List ℕ) (f : File) (until : ℕ) (last : Option Table)
      → d ≡ request xid (Request.Write w seq f.id block first final (Some base) body) → IsFresh s sender w seq
      → ServerTells ps s (commits w seq xid (Request.Write w seq f.id block first final (Some base) body)
      (stores_recovering s until last w f block first final body))
  unfolding stores_recovering keeping wrote with_files
  storing-recovering xid w seq block first final base body f until last e fresh =
      committed xid w seq (Request.Write w seq f.id block first final (Some base) body) (stores_recovering s until last w f block first final body) e
      refl refl fresh refl (λ host x a i. i) (pushes seq f.id block first final s.now base body refl refl refl)

  resizing : (xid : ℕ) (w : Who) (seq q blocks : ℕ) (f : File) → d ≡ request xid (Request.Resize w seq q f.id blocks) → IsFresh s sender w seq
      → ServerTells ps s (commits w seq xid (Request.Resize w seq q f.id blocks) (resizes s w q f blocks))
  unfolding resizes keeping with_files
  resizing xid w seq q blocks f e fresh =
      committed xid w seq (Request.Resize w seq q f.id blocks) (resizes s w q f blocks) e refl refl fresh refl (λ host x a i. i)
      (without (one-quiet _ tt) (inl refl))

  removing : (xid : ℕ) (w : Who) (seq q : ℕ) (f : File) → d ≡ request xid (Request.Remove w seq q f.id) → IsFresh s sender w seq
      → ServerTells ps s (commits w seq xid (Request.Remove w seq q f.id) (removes s w q f))
  unfolding removes keeping_with with_files with_rows
  removing xid w seq q f e fresh =
      committed xid w seq (Request.Remove w seq q f.id) (removes s w q f) e refl refl fresh refl (λ host x a i. i) (without (one-quiet _ tt) (inl refl))

  -- all outcomes of a datagram
  pub hears-tells : ServerTells ps s (receive s sender next d)
  hears-tells = server-hears s sender next d (λ t. ServerTells ps s t) (record {
    stays = stays;
    dropping = dropping;
    erring = erring;
    answers_null = λ xid e. absurd (no_null xid e);
    replying = λ xid w r a e by from plain. replying xid w r a e by from.host (plain-inc s w r a plain) (plain-tells s w r a plain);
    attaching = attaching;
    vacating = λ xid w file tag e now. vacating w file tag;
    putting_off = λ xid w r f clash e by on asking c. putting-off xid w r _ _ e by asking.current.from.host;
    putting_off_waiting = λ xid w r f clash want e by on wants asking c own room. putting-off xid w r _ _ e by asking.current.from.host;
    putting_off_by_own = λ xid w r f want own e by on wants asking c o ev. putting-off xid w r _ _ e by asking.current.from.host;
    reading = λ xid w q block f body e asking there c. reading xid w q block f body _ _ _ e refl asking.current.from.host refl;
    reading_full = λ xid w q block want f body e asking there c own room. reading xid w q block f body _ _ _ e refl asking.current.from.host refl;
    reading_granted = λ xid w q block want f body row term e asking there c granted. reading xid w q block f body _ _ _ e refl asking.current.from.host refl;
    leasing_full = λ xid w want f e asking c own room. leasing xid w f.id _ _ _ e refl asking.current.from.host refl;
    leasing = λ xid w want f row term e asking c granted. leasing xid w f.id _ _ _ e refl asking.current.from.host refl;
    declining = declining;
    putting_off_change = λ xid w seq r f clash e by sq changes base changing c. putting-off-change xid w seq r f.id _ e by sq base changing.fresh;
    creating = λ xid w seq blocks name e fresh serves can. creating xid w seq blocks name e fresh;
    writing_through = λ xid w seq block first last body f e changing below c. writing-through xid w seq block first last body f e changing.fresh;
    storing = λ xid w seq block first last base body f row e changing below can. storing xid w seq block first last base body f row e changing.fresh;
    storing_recovering =
        λ xid w seq block first final base body f until heard last e fresh p found below boot rev. storing-recovering xid w seq block first final base
        body f until last e fresh;
    resizing = λ xid w seq q blocks f e changing can c. resizing xid w seq q blocks f e changing.fresh;
    removing = λ xid w seq q f e changing c. removing xid w seq q f e changing.fresh;
  })
