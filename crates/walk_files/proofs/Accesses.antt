-- What a client's step reads and writes: at most one block, under a lease that runs and is held still after the step.
use Rattle.std.proofs.Common.{◌≡◌, ◌<◌, ℕ, Bool, true, false, not, ◌==◌, List, [], ◌∷◌, ◌++◌, Option, Some, None, if◌then◌else◌, refl, sym, subst, ap, ◌∙◌}
use Rattle.std.specs.Bool.{⊤}
use Rattle.std.specs.List.{find, filter}
use Rattle.std.specs.Prelude.{option_map}
use Rattle.nq_base.specs.Block.{value_of}
use Rattle.nq_base.specs.declared.Answer.{Answer}
use Rattle.nq_base.specs.declared.Call.{Call}
use Rattle.nq_base.specs.declared.Entry.{Entry}
use Rattle.nq_base.specs.declared.Entry.TheVariants.{A, W, R}
use Rattle.nq_base.specs.declared.Push.{Push}
use Rattle.nq_base.specs.declared.Request.{Request}
use Rattle.nq_base.specs.declared.Said.{Said}
use Rattle.nq_base.specs.declared.Tag.{Tag}
use Rattle.nq_base.specs.declared.Value.{Value}
use Rattle.nq_base.specs.declared.Who.{Who}
use Rattle.walk_steps.proofs.SendCases.{send-cases}
use Rattle.walk_steps.proofs.SettleCases.{settle-moves, settle-cases, CanRead, CanWrite}
use Rattle.walk_steps.proofs.StepCases.{call-cases, unless-cached-cases, tick-cases, evicted-cases, heard-cases}
use Rattle.walk_steps.proofs.ClientFacts.{Alone, push_in}
use Rattle.nq_model.proofs.ClientLists.{used-lease-found}
use Rattle.walk_steps.proofs.ClientMoves.{none-some, some-same}
use Rattle.walk_files.proofs.PushLists.{is-at}
use Rattle.nq_model.specs.protocol.Client.{Client, ClientStep, Job, Lease, Ticket, UnderWay, begun, lease_on, used_lease, marked_used, lets_read, lets_write}
use Rattle.nq_model.specs.protocol.Client.{dirty_at, first_dirty, is_push_of, drop_dirty, is_push_at, clean_at, is_clean_at, drop_clean, Clean}
use Rattle.nq_model.specs.protocol.ClientStep.{begins_call, is_called, sends_unless_cached, client_call, client_tick, at_time, sends_again, restart, starts}
use Rattle.nq_model.specs.protocol.Hear.{vacates_lease, notes_notice, evicted, cancels, cancelled, wants_of, replied, goes_on, hear}
use Rattle.nq_model.specs.laws.Journal.{Each}
use Rattle.nq_model.specs.protocol.Message.{Message}
use Rattle.nq_model.specs.protocol.Send.{sends_request, after_seq, after_number, takes_push, gives_up, send_next}
use Rattle.nq_model.specs.protocol.Settle.{answers, cached_body, held_body, pushed_body, clean_body, touched, reads_clean, reads_cached, after_read}
use Rattle.nq_model.specs.protocol.Settle.{after_write, delays, marks_written, settle}
use Rattle.walk_steps.proofs.Rows.{find-passes, number-same, find-filter}
use Rattle.walk_files.proofs.PlainParts.{IsPlain, PlainOf, plain-evicted, plain-answered, plain-named, plain-begins, plain-busy, plain-called, plain-replied}

-- ---- lists

none-filter : {Y : Type 0} (test : Y → Bool) (xs : List Y) → find test (filter (λ x. not (test x)) xs) ≡ None
none-filter test [] = refl
none-filter {Y = Y} test (x ∷ xs) = case (test x) refl (none-filter test xs)
  where
    case : (b : Bool) → test x ≡ b → find test (filter (λ y. not (test y)) xs) ≡ None
        → find test (if not b then x ∷ filter (λ y. not (test y)) xs else filter (λ y. not (test y)) xs) ≡ None
    case true e rest = rest
    case false e rest = rw e rest

-- a lease that is held on a file
pub record IsHeld (c : Client) (file block : ℕ) (lease : Lease) : Type 0 where
  pub held : lease_on file c.leases ≡ Some lease
  pub within : block < lease.blocks

-- no call goes on but a put whose write was delayed
abbrev pub IsCalm : Option UnderWay → Type 0
IsCalm None = ⊤
IsCalm (Some u) = (file : ℕ) × (block : ℕ) × (body : List ℕ) × (u.call ≡ Call.Put file block body) × (u.written ≡ true)

-- what a step has read or written so far: nothing, a block that the client has, or one write that it delayed
pub data Accesses (who : Who) (t : ClientStep) : Type 0 where
  neither : Each IsPlain t.entries → Accesses who t
  read : (q file block : ℕ) (lease : Lease) (body : List ℕ) (rest : List Entry)
      → t.entries ≡ A who q (Said.OkValue (value_of body)) ∷ R who q file block (value_of body) None ∷ rest → Each IsPlain rest
      → IsHeld t.client file block lease → lets_read t.client.now lease ≡ true → cached_body t.client file block ≡ Some body → t.client.call ≡ None
      → Accesses who t
  wrote : (file block number value : ℕ) (lease : Lease) (more rest : List Entry) → t.entries ≡ more ++ W who file block number value false ∷ rest
      → Each IsPlain more → Each IsPlain rest → IsHeld t.client file block lease → lets_write t.client.now lease ≡ true → IsCalm t.client.call
      → Accesses who t

-- ---- settling

-- a block that a client reads is there still
found-again : (file block : ℕ) (k : Clean) (clean : List Clean) → is_clean_at file block k ≡ true
    → clean_at file block (k ∷ drop_clean file block clean) ≡ Some k
found-again file block k clean same = rw same refl

clean-passes : (file block : ℕ) (clean : List Clean) (k : Clean) → clean_at file block clean ≡ Some k → is_clean_at file block k ≡ true
clean-passes file block clean k e = find-passes (is_clean_at file block) k clean e

body-touched : (file block : ℕ) (clean : List Clean) (o : Option Clean) → clean_at file block clean ≡ o
    → clean_body (clean_at file block (touched file block o clean)) ≡ clean_body o
body-touched file block clean None e = ap clean_body e
body-touched file block clean (Some k) e = ap clean_body (found-again file block k clean (clean-passes file block clean k e))

body-read : (c : Client) (file block : ℕ) (b : Bool)
    → clean_body (clean_at file block (if b then touched file block (clean_at file block c.clean) c.clean else c.clean)) ≡ clean_body
    (clean_at file block c.clean)
body-read c file block true = body-touched file block c.clean (clean_at file block c.clean) refl
body-read c file block false = refl

cached-after : (c : Client) (file block : ℕ) → cached_body (after_read c file block) file block ≡ cached_body c file block
unfolding after_read
cached-after c file block = ap (held_body (dirty_at file block c.dirty) (pushed_body file block c.push)) (body-read c file block (reads_clean c file block))

-- the lease that was used is held
used-held : (c : Client) (leases : List Lease) (file block : ℕ) (lease : Lease) → c.leases ≡ used_lease file leases → lease_on file leases ≡ Some lease
    → block < lease.blocks → IsHeld c file block (marked_used file lease)
used-held c leases file block lease same held within = record {
  held = ap (lease_on file) same ∙ used-lease-found file file leases ∙ ap (option_map (marked_used file)) held;
  within = more (lease.file == file);
} where
  more : (b : Bool) → block < (if b then record lease { used = true } else lease).blocks
  more true = within
  more false = within

used-reads : (now file : ℕ) (lease : Lease) → lets_read now lease ≡ true → lets_read now (marked_used file lease) ≡ true
used-reads now file lease lets = more (lease.file == file)
  where
    more : (b : Bool) → lets_read now (if b then record lease { used = true } else lease) ≡ true
    more true = lets
    more false = lets

used-writes : (now file : ℕ) (lease : Lease) → lets_write now lease ≡ true → lets_write now (marked_used file lease) ≡ true
used-writes now file lease lets = more (lease.file == file)
  where
    more : (b : Bool) → lets_write now (if b then record lease { used = true } else lease) ≡ true
    more true = lets
    more false = lets

settled-read : (t : ClientStep) (u : UnderWay) (file block : ℕ) (lease : Lease) (body : List ℕ) → CanRead t.client file lease → block < lease.blocks
    → cached_body t.client file block ≡ Some body → PlainOf t → Accesses t.client.who (reads_cached t u file block body)
unfolding reads_cached answers after_read
settled-read t u file block lease body can within has h =
    read u.q file block (marked_used file lease) body t.entries refl h
    (used-held (reads_cached t u file block body).client t.client.leases file block lease refl can.held within)
    (used-reads t.client.now file lease can.lets)
    (cached-after t.client file block ∙ has)
    refl

settled-write : (t : ClientStep) (u : UnderWay) (file block : ℕ) (body : List ℕ) (lease : Lease) → CanWrite t.client u file lease → block < lease.blocks
    → PlainOf t → Accesses t.client.who (answers (delays t file block body) u.q (Answer.Ok Value.Nothing) None)
unfolding answers after_write
settled-write t u file block body lease can within h =
    wrote file block t.client.number (value_of body) (marked_used file lease) (A t.client.who u.q Said.Ok ∷ []) t.entries refl (tt, tt) h
    (used-held (answers (delays t file block body) u.q (Answer.Ok Value.Nothing) None).client t.client.leases file block lease refl can.held within)
    (used-writes t.client.now file lease can.lets)
    tt

settled-put : (t : ClientStep) (u : UnderWay) (file block : ℕ) (body : List ℕ) (lease : Lease) → u.call ≡ Call.Put file block body
    → CanWrite t.client u file lease → block < lease.blocks → PlainOf t → Accesses t.client.who (marks_written (delays t file block body) u)
unfolding marks_written after_write
settled-put t u file block body lease is can within h =
    wrote file block t.client.number (value_of body) (marked_used file lease) [] t.entries refl tt h
    (used-held (marks_written (delays t file block body) u).client t.client.leases file block lease refl can.held within)
    (used-writes t.client.now file lease can.lets)
    (file, block, body, is, refl)

pub settle-accesses : (t : ClientStep) → PlainOf t → Accesses t.client.who (settle t)
settle-accesses t h = settle-cases t (Accesses t.client.who) (record {
  idle = λ e. neither h;
  asking = λ u e f. neither h;
  read_out = λ u file block lease is r can out. neither (plain-answered t u.q Answer.Range None h);
  reading = λ u file block lease body is r can within has. settled-read t u file block lease body can within has h;
  read_waits = λ u file block is r waits. neither h;
  write_out = λ u sync file block body lease is w can out. neither (plain-answered t u.q Answer.Range None h);
  write_full = λ u sync file block body lease is w can within full. neither (plain-answered t u.q Answer.DirtyFull None h);
  writing = λ u file block body lease is w can within room. settled-write t u file block body lease can within h;
  putting = λ u file block body lease is w unwritten can within room. settled-put t u file block body lease w can within h;
  write_waits = λ u sync file block body is w waits. neither h;
  syncing = λ u file is s clean. neither (plain-answered t u.q (Answer.Ok Value.Nothing) None h);
  sync_waits = λ u file is s dirty. neither h;
  others = λ u is n. neither h;
})

-- ---- sending

-- a request that is sent leaves what was read or written
still : (who : Who) (t s : ClientStep) → s.entries ≡ t.entries → s.client.leases ≡ t.client.leases → s.client.now ≡ t.client.now
    → s.client.call ≡ t.client.call → ((file block : ℕ) → cached_body s.client file block ≡ cached_body t.client file block) → Accesses who t
    → Accesses who s
still who t s entries leases now call cached (neither plain) = neither (subst (Each IsPlain) (sym entries) plain)
still who t s entries leases now call cached (read q file block lease body rest es plain held lets has idle) =
    read q file block lease body rest (entries ∙ es) plain (record { held = ap (lease_on file) leases ∙ held.held; within = held.within })
    (ap (λ n. lets_read n lease) now ∙ lets) (cached file block ∙ has) (call ∙ idle)
still who t s entries leases now call cached (wrote file block number value lease more rest es plain others held lets calm) =
    wrote file block number value lease more rest (entries ∙ es) plain others
    (record { held = ap (lease_on file) leases ∙ held.held; within = held.within }) (ap (λ n. lets_write n lease) now ∙ lets)
    (subst IsCalm (sym call) calm)

-- where a call other than a written put goes on nothing was read or written
busy-plain : (who : Who) (t : ClientStep) (u : UnderWay) → t.client.call ≡ Some u
    → ((file block : ℕ) (body : List ℕ) → u.call ≡ Call.Put file block body → u.written ≡ true → ⊥) → Accesses who t → PlainOf t
busy-plain who t u is other (neither plain) = plain
busy-plain who t u is other (read q file block lease body rest es plain held lets has idle) = none-some u (sym idle ∙ is)
busy-plain who t u is other (wrote file block number value lease more rest es plain others held lets calm) =
    let k : IsCalm (Some u) = subst IsCalm is calm in
    absurd (other k.0 k.1 k.2 k.3 k.4)

sent-same : (who : Who) (t : ClientStep) (job : Job) (r : Request) → Accesses who t → Accesses who (sends_request t job r)
unfolding sends_request
sent-same who t job r a = still who t (sends_request t job r) refl refl refl refl (λ file block. refl) a

seq-same : (who : Who) (t : ClientStep) → Accesses who t → Accesses who (after_seq t)
unfolding after_seq
seq-same who t a = still who t (after_seq t) refl refl refl refl (λ file block. refl) a

number-same-access : (who : Who) (t : ClientStep) → Accesses who t → Accesses who (after_number t)
unfolding after_number
number-same-access who t a = still who t (after_number t) refl refl refl refl (λ file block. refl) a

gives-plain : (t : ClientStep) (file : ℕ) (job : Job) (r : Request) → PlainOf t → PlainOf (sends_request (after_seq (gives_up t file)) job r)
unfolding sends_request after_seq gives_up
gives-plain t file job r h = h

not-moved : (file block : ℕ) (p q : Push) → is_push_at file block p ≡ false → is_push_at file block q ≡ true → not (is_push_at p.file p.block q) ≡ true
not-moved file block p q apart there = case (is_push_at p.file p.block q) refl
  where
    case : (b : Bool) → is_push_at p.file p.block q ≡ b → not b ≡ true
    case false e = refl
    case true e =
        let a = is-at file block q there in
        let b = is-at p.file p.block q e in
        let file_same : p.file ≡ file = sym b.0 ∙ a.0 in
        let block_same : p.block ≡ block = sym b.1 ∙ a.1 in
        let f : (p.file == file) ≡ true = number-same p.file file file_same in
        let g : (p.block == block) ≡ true = number-same p.block block block_same in
        let yes : is_push_at file block p ≡ true = rw (f, g) refl in
        absurd (cc)

moved : (file block : ℕ) (p : Push) (dirty : List Push) (clean : Option (List ℕ)) (b : Bool) → is_push_at file block p ≡ b
    → (dirty_at p.file p.block dirty ≡ Some p)
    → held_body (dirty_at file block (drop_dirty p.file p.block dirty)) (if b then Some p.body else None) clean ≡ held_body (dirty_at file block dirty)
    None clean
moved file block p dirty clean false same first =
    ap (λ o. held_body o None clean)
    (find-filter (is_push_at file block) (λ q. not (is_push_at p.file p.block q)) dirty (λ q there. not-moved file block p q same there))
moved file block p dirty clean true same first =
    let a = is-at file block p same in
    let gone : dirty_at file block (drop_dirty file block dirty) ≡ None = none-filter (is_push_at file block) dirty in
    let here : dirty_at file block (drop_dirty p.file p.block dirty) ≡ None = subst (λ f. dirty_at file block (drop_dirty f p.block dirty) ≡ None)
    (sym a.0) (subst (λ n. dirty_at file block (drop_dirty file n dirty) ≡ None) (sym a.1) gone) in
    let there : dirty_at file block dirty ≡ Some p = subst (λ f. dirty_at f block dirty ≡ Some p) a.0
    (subst (λ n. dirty_at p.file n dirty ≡ Some p) a.1 first) in
    ap (λ o. held_body o (Some p.body) clean) here ∙ ap (λ o. held_body o None clean) (sym there)

moved-body : (t : ClientStep) (p : Push) (file block : ℕ) → dirty_at p.file p.block t.client.dirty ≡ Some p
    → held_body (dirty_at file block (drop_dirty p.file p.block t.client.dirty)) (pushed_body file block (Some p))
    (clean_body (clean_at file block t.client.clean)) ≡ held_body (dirty_at file block t.client.dirty) (pushed_body file block None)
    (clean_body (clean_at file block t.client.clean))
moved-body t p file block first = moved file block p t.client.dirty (clean_body (clean_at file block t.client.clean)) (is_push_at file block p) refl first

push-same : (who : Who) (t : ClientStep) (p : Push) (r : Request) → t.client.push ≡ None → dirty_at p.file p.block t.client.dirty ≡ Some p
    → Accesses who t → Accesses who (sends_request (after_seq (takes_push t p)) Job.pushing r)
unfolding sends_request after_seq takes_push
push-same who t p r none first a =
    still who t (sends_request (after_seq (takes_push t p)) Job.pushing r) refl refl refl refl
    (λ file block. moved-body t p file block first
    ∙ ap (λ o. held_body (dirty_at file block t.client.dirty) (pushed_body file block o) (clean_body (clean_at file block t.client.clean))) (sym none)) a

-- the first delayed writes of a file are the first of their block
first-at : (file : ℕ) (dirty : List Push) (p : Push) → first_dirty file dirty ≡ Some p → p.file ≡ file → dirty_at p.file p.block dirty ≡ Some p
first-at file [] p first of = none-some p first
first-at file (q ∷ dirty) p first of = case (is_push_of file q) refl first (first-at file dirty p)
  where
    case : (b : Bool) → is_push_of file q ≡ b → (if b then Some q else first_dirty file dirty) ≡ Some p
        → (first_dirty file dirty ≡ Some p → p.file ≡ file → dirty_at p.file p.block dirty ≡ Some p) → dirty_at p.file p.block (q ∷ dirty) ≡ Some p
    case true e found rest =
        let one : q ≡ p = some-same q p found in
        let f : (p.file == p.file) ≡ true = number-same p.file p.file refl in
        let g : (p.block == p.block) ≡ true = number-same p.block p.block refl in
        let here : is_push_at p.file p.block p ≡ true = rw (f, g) refl in
        let there : is_push_at p.file p.block q ≡ true = subst (λ z. is_push_at p.file p.block z ≡ true) (sym one) here in
        rw there (ap Some one)
    case false e found rest =
        let apart : (q.file == p.file) ≡ false = subst (λ n. (q.file == n) ≡ false) (sym of) e in
        let no : is_push_at p.file p.block q ≡ false = rw apart refl in
        rw no (rest found of)

pub send-accesses : (who : Who) (in_tick : Bool) (t : ClientStep) → (t.client.ticket ≡ None → t.client.push ≡ None) → Accesses who t
    → Accesses who (send_next in_tick t)
send-accesses who in_tick t unpushed a = send-cases in_tick t (Accesses who) (record {
  stays_asking = λ ticket e. a;
  stays = λ free nothing. a;
  pushing = λ file p free first of. push-same who t p _ (unpushed free) (first-at file t.client.dirty p first of) a;
  creating = λ u name blocks is e. sent-same who (after_seq t) Job.for_call _ (seq-same who t a);
  looking_up = λ u name is e. sent-same who t Job.for_call _ a;
  getting_attributes = λ u file is e. sent-same who t Job.for_call _ a;
  reading = λ u file block is e. sent-same who t Job.for_call _ a;
  fetching = λ u file block is e. sent-same who t Job.for_call _ a;
  writing = λ u file block body is e f. sent-same who (after_number t) Job.for_call _ (number-same-access who t a);
  leasing = λ u file block body is e f g. sent-same who t Job.for_call _ a;
  putting = λ u file block body is e f. sent-same who (after_number t) Job.for_call _ (number-same-access who t a);
  resizing =
      λ u file blocks is e clean. neither
      (gives-plain t file Job.for_call _
      (busy-plain who t u is.called (λ f b body other written. let no : Call.Resize file blocks ≡ Call.Put f b body = sym e ∙ other in
      absurd (cc)) a));
  removing =
      λ u file is e clean. neither (gives-plain t file Job.for_call _
      (busy-plain who t u is.called (λ f b body other written. let no : Call.Remove file ≡ Call.Put f b body = sym e ∙ other in absurd (cc)) a));
  renewing = λ file lease tick free nothing unpaused due held of clean unnoticed. sent-same who t Job.renewing _ a;
})

-- ---- whole steps

-- no push is under way without a request
abbrev pub Unpushed : Client → Type 0
Unpushed c = c.ticket ≡ None → c.push ≡ None

unpushed-alone : (c : Client) → Alone c → Unpushed c
unpushed-alone c a free = case c.push refl
  where
    case : (o : Option Push) → c.push ≡ o → o ≡ None
    case None e = refl
    case (Some p) e = let k = a.delaying.under_way p e in none-some k.request (sym free ∙ k.asks)

settled-unpushed : (t : ClientStep) → Unpushed t.client → Unpushed (settle t).client
unfolding answers after_read after_write marks_written reads_cached
settled-unpushed t h =
    settle-moves t (λ s. Unpushed s.client)
    (record { kept = h; answered = λ v q answer k. k; read = λ u file block body. h; delayed = λ file block body. h; marked = λ v u k. k })

pub goes-on-accesses : (in_tick : Bool) (t : ClientStep) → PlainOf t → Unpushed t.client → Accesses t.client.who (send_next in_tick (settle t))
goes-on-accesses in_tick t plain h = send-accesses t.client.who in_tick (settle t) (settled-unpushed t h) (settle-accesses t plain)

-- a cancelled request pushes nothing
cancelled-unpushed : (c : Client) (file : ℕ) → Alone c → Unpushed (cancels (begun c) file).client
unfolding cancels
cancelled-unpushed c file a = case c.push refl
  where
    wants-none : (r : Request) (p : Push) → push_in r ≡ Some p → wants_of file r ≡ false
    wants-none (Request.Write w seq f block first last (Some base) body) p e = refl
    wants-none r p e = none-some p e

    case : (o : Option Push) → c.push ≡ o → cancelled file c.ticket ≡ None → o ≡ None
    case None e none = refl
    case (Some p) e none =
        let k = a.delaying.under_way p e in
        let spared : wants_of file k.request.request ≡ false = wants-none k.request.request p k.pushes in
        let stays : cancelled file c.ticket ≡ Some k.request = rw (k.asks, spared) refl in
        none-some k.request (sym none ∙ stays)

cancels-who : (c : Client) (file : ℕ) → (cancels (begun c) file).client.who ≡ c.who
unfolding cancels
cancels-who c file = refl

evicted-unpushed : (t : ClientStep) (file : ℕ) (tag : Tag) → Unpushed t.client → Unpushed (evicted t file tag).client
unfolding vacates_lease notes_notice
evicted-unpushed t file tag h = evicted-cases t file tag (λ s. Unpushed s.client) (record { clean = λ e. h; waiting = λ e. h })

evicted-who : (t : ClientStep) (file : ℕ) (tag : Tag) → (evicted t file tag).client.who ≡ t.client.who
unfolding vacates_lease notes_notice
evicted-who t file tag = evicted-cases t file tag (λ s. s.client.who ≡ t.client.who) (record { clean = λ e. refl; waiting = λ e. refl })

pub hear-accesses : (c : Client) (k : ℕ) (m : Message) (t : ClientStep) → Alone c → hear c k m ≡ Some t → Accesses c.who t
hear-accesses c k m t a hears = heard-cases c k m t (Accesses c.who) hears (record {
  answered = λ xid r ticket is asked number inc counts.
      let h = plain-replied c k ticket r asked a ((a.asking.ticketed ticket asked).fits) counts in
      subst (λ w. Accesses w (goes_on (replied (begun c) k ticket r))) h.2 (goes-on-accesses false (replied (begun c) k ticket r) h.0 (λ free. h.1));
  noticed = λ xid file tag is later.
      let t : ClientStep = evicted (cancels (begun c) file) file tag in
      subst (λ w. Accesses w (goes_on t)) (evicted-who (cancels (begun c) file) file tag ∙ cancels-who c file)
      (goes-on-accesses false t (plain-evicted c file tag) (evicted-unpushed (cancels (begun c) file) file tag (cancelled-unpushed c file a)));
})

begun-unpushed : (c : Client) (op : Call) → Alone c → Unpushed (is_called (begins_call c op) op).client
unfolding is_called begins_call
begun-unpushed c op a = unpushed-alone c a

begun-who : (c : Client) (op : Call) → (is_called (begins_call c op) op).client.who ≡ c.who
unfolding is_called begins_call
begun-who c op = refl

cached-accesses : (who : Who) (t : ClientStep) → Unpushed t.client → Accesses who t → Accesses who (sends_unless_cached t)
cached-accesses who t h a = unless-cached-cases t (Accesses who) (λ e. a) (λ e. send-accesses who false t h a)

pub call-accesses : (c : Client) (op : Call) → Alone c → Accesses c.who (client_call c op)
call-accesses c op a = call-cases c op (Accesses c.who) (record {
  busy = λ e. neither (plain-busy (begins_call c op) (plain-begins c op));
  telling = λ file loss losses none on changes has. neither (plain-named (begins_call c op) (begins_call c op).client.calls file (plain-begins c op));
  going = λ none on nothing.
      let t : ClientStep = is_called (begins_call c op) op in
      cached-accesses c.who (settle t) (settled-unpushed t (begun-unpushed c op a))
      (subst (λ w. Accesses w (settle t)) (begun-who c op) (settle-accesses t (plain-called (begins_call c op) op (plain-begins c op))));
})

again-accesses : (t : ClientStep) (ticket : Ticket) (who : Who) → PlainOf t → Accesses who (sends_again t ticket)
unfolding sends_again
again-accesses t ticket who h = neither h

timed-unpushed : (c : Client) (now : ℕ) → Alone c → Unpushed (at_time c now)
unfolding at_time
timed-unpushed c now a = unpushed-alone c a

timed-who : (c : Client) (now : ℕ) → (at_time c now).who ≡ c.who
unfolding at_time
timed-who c now = refl

pub tick-accesses : (c : Client) (now : ℕ) → Alone c → Accesses c.who (client_tick c now)
tick-accesses c now a = tick-cases c now (Accesses c.who) (record {
  again = λ ticket e due. again-accesses (begun (at_time c now)) ticket c.who tt;
  quiet = λ ticket e early. neither tt;
  free =
      λ e. subst (λ w. Accesses w (send_next true (settle (begun (at_time c now))))) (timed-who c now)
      (goes-on-accesses true (begun (at_time c now)) tt (timed-unpushed c now a));
})

pub restart-accesses : (c : Client) (who : Who) → Accesses who (restart c)
unfolding starts
restart-accesses c who = neither (tt, tt)
