-- No part of a client's step costs more than it saves, but for what a notice cancels.
use Rattle.std.proofs.Common.{◌≡◌, ◌≤◌, ℕ, ◌+◌, ◌==◌, ◌&&◌, Bool, true, false, not, nat_lt, List, [], ◌∷◌, Option, Some, None, if◌then◌else◌, length}
use Rattle.std.proofs.Common.{refl, sym, ap, subst, ◌∙◌, arith, inl, inr}
use Rattle.std.specs.List.{filter, find}
use Rattle.std.proofs.lemmas.Bool.Decides.{nat_tests}
use Rattle.std.proofs.lemmas.List.{length-append, length-map}
use Rattle.nq_base.specs.declared.Answer.{Answer}
use Rattle.nq_base.specs.declared.Call.{Call}
use Rattle.nq_base.specs.declared.Push.{Push}
use Rattle.nq_base.specs.declared.Request.{Request}
use Rattle.nq_base.specs.declared.Value.{Value}
use Rattle.nq_base.specs.declared.Want.{Want}
use Rattle.nq_base.specs.declared.Who.{Who}
use Rattle.nq_model.specs.protocol.Client.{ClientStep, Job, attaching, for_call, renewing, pushing, Lease, Ticket, UnderWay, is_push_of, is_push_at}
use Rattle.nq_model.specs.protocol.Client.{first_dirty, dirty_at, drop_dirty}
use Rattle.nq_model.specs.protocol.Message.{Message}
use Rattle.nq_model.specs.protocol.Send.{sends_request, after_seq, after_number, takes_push, gives_up, base_of, send_next}
use Rattle.nq_model.specs.protocol.Settle.{answers, after_read, reads_cached, overwritten_at, with_write, write_in, after_write, delays, marks_written}
use Rattle.nq_model.specs.protocol.Settle.{ticket_is_for_call, is_for_call, settle}
use Rattle.walk_steps.proofs.ClientMoves.{some-same, none-some}
use Rattle.walk_steps.proofs.SendCases.{pushed, send-cases}
use Rattle.walk_steps.proofs.SettleCases.{IsSettling, IsRead, IsWrite, IsSync, of_sync, of_put, needs_packet, CanWrite, WriteWaits, settle-cases}
use Rattle.walk_steps.proofs.Rows.{choice, number-same}
use Rattle.law_rounds.specs.Efforts.{write_price, put_price, fresh_for, fresh_left, writes_to, read_left, lease_left, sent_left, asked_left}
use Rattle.law_rounds.specs.Efforts.{requests_left, put_delays, may_delay, delays_left, calls_left}
use Rattle.law_rounds.proofs.Efforts.{total-more, request_weight, weight, cost}

-- ---- lists of delayed writes

pub filter-shorter : {A : Type 0} (p : A → Bool) (xs : List A) → length (filter p xs) ≤ length xs
filter-shorter p [] = omega arith
filter-shorter p (x ∷ xs) = let rest = filter-shorter p xs in choice (λ ys. length ys ≤ length (x ∷ xs)) (p x) (x ∷ filter p xs) (filter p xs)
    (λ e. omega arith) (λ e. omega arith)

-- a list from which one is dropped that is there is shorter
drop-shorter : (p : Push) (file : ℕ) (xs : List Push) → find (is_push_of file) xs ≡ Some p → length (drop_dirty p.file p.block xs) + 1 ≤ length xs
drop-shorter p file [] e = none-some p e
drop-shorter p file (x ∷ xs) e = here (is_push_of file x) refl e (drop-shorter p file xs)
  where
    keep : Push → Bool
    keep q = not (is_push_at p.file p.block q)

    own : (q : Push) → q ≡ p → not (is_push_at p.file p.block q) ≡ false
    own q same =
        let file_same : (q.file == p.file) ≡ true = number-same q.file p.file (ap (λ (r : Push). r.file) same) in
        let block_same : (q.block == p.block) ≡ true = number-same q.block p.block (ap (λ (r : Push). r.block) same) in
        rw (file_same, block_same) refl

    here : (b : Bool) → is_push_of file x ≡ b → (if b then Some x else find (is_push_of file) xs) ≡ Some p → (find (is_push_of file) xs ≡ Some p
        → length (drop_dirty p.file p.block xs) + 1 ≤ length xs) → length (drop_dirty p.file p.block (x ∷ xs)) + 1 ≤ length (x ∷ xs)
    here true f g rest =
        let gone = own x (some-same x p g) in
        let less = filter-shorter (λ q. not (is_push_at p.file p.block q)) xs in
        choice (λ (ys : List Push). length ys + 1 ≤ length (x ∷ xs)) (not (is_push_at p.file p.block x)) (x ∷ drop_dirty p.file p.block xs)
        (drop_dirty p.file p.block xs) (λ h. absurd (cc)) (λ h. omega arith)
    here false f g rest =
        let less = rest g in
        choice (λ (ys : List Push). length ys + 1 ≤ length (x ∷ xs)) (not (is_push_at p.file p.block x)) (x ∷ drop_dirty p.file p.block xs)
        (drop_dirty p.file p.block xs) (λ h. omega arith) (λ h. omega arith)

-- one write more is one entry more at the most
written-length : (file block number : ℕ) (body : List ℕ) (dirty : List Push) → length (write_in file block number body dirty) ≤ length dirty + 1
written-length file block number body dirty = by (dirty_at file block dirty)
  where
    by : (o : Option Push) → length (with_write file block number body dirty o) ≤ length dirty + 1
    by None = let more = length-append dirty (record { file = file; block = block; first = number; last = number; body = body } ∷ []) in omega arith
    by (Some p) = let same = length-map dirty (overwritten_at file block number body) in omega arith

module _ (price note : ℕ) where
  -- a later step costs no more
  abbrev Cheaper : ClientStep → ClientStep → Type 0
  Cheaper t u = cost price note u ≤ cost price note t

  pub none-left : (now : ℕ) (pauses : Bool) (ticket : Option Ticket) → requests_left price now pauses None ticket ≡ 0
  none-left now true ticket = refl
  none-left now false ticket = refl

  -- ---- what needs no packet

  answers-cheap : (t : ClientStep) (q : ℕ) (answer : Answer) (by : Option ℕ) → Cheaper t (answers t q answer by)
  unfolding answers
  answers-cheap t q answer by = let none = none-left t.client.now (nat_lt t.client.now t.client.pause) t.client.ticket in omega arith

  reads-cheap : (t : ClientStep) (u : UnderWay) (file block : ℕ) (body : List ℕ) → Cheaper t (reads_cached t u file block body)
  unfolding answers reads_cached after_read
  reads-cheap t u file block body = let none = none-left t.client.now (nat_lt t.client.now t.client.pause) t.client.ticket in omega arith

  -- a write that is delayed is answered, or is a put that waits
  writes-cheap : (t : ClientStep) (u : UnderWay) (file block : ℕ) (body : List ℕ) → delays_left t.client.call ≡ 1
      → Cheaper t (answers (delays t file block body) u.q (Answer.Ok Value.Nothing) None)
  unfolding answers after_write
  writes-cheap t u file block body may =
      let none = none-left t.client.now (nat_lt t.client.now t.client.pause) t.client.ticket in
      let more = written-length file block t.client.number body t.client.dirty in
      omega arith

  -- where a call's own request is not under way, its requests are as if none was
  pub settling-left : (now : ℕ) (u : UnderWay) (ticket : Option Ticket) → ticket_is_for_call ticket ≡ false → asked_left price now u ticket
      ≡ fresh_left price u
  settling-left now u None e = refl
  settling-left now u (Some t) e = by t.job refl e
    where
      by : (job : Job) → t.job ≡ job → is_for_call job ≡ false → asked_left price now u (Some t) ≡ fresh_left price u
      by attaching is e = rw is refl
      by for_call is e = absurd (cc)
      by renewing is e = rw is refl
      by pushing is e = rw is refl

  puts-left : (now : ℕ) (pauses : Bool) (u : UnderWay) (ticket : Option Ticket) (file block : ℕ) (body : List ℕ) → u.call ≡ Call.Put file block
      body → ticket_is_for_call ticket ≡ false → requests_left price now pauses (Some (record u { written = true })) ticket ≡ 0
  puts-left now true u ticket file block body is own = refl
  puts-left now false u ticket file block body is own = settling-left now (record u { written = true }) ticket own
      ∙ ap (fresh_for price (record u { written = true })) is

  puts-cheap : (t : ClientStep) (u : UnderWay) (file block : ℕ) (body : List ℕ) → IsSettling t u → u.call ≡ Call.Put file block body → u.written
      ≡ false → Cheaper t (marks_written (delays t file block body) u)
  unfolding marks_written after_write
  puts-cheap t u file block body is put first =
      let may : delays_left t.client.call ≡ 1 = ap delays_left is.called ∙ ap (may_delay u.written) put ∙ ap put_delays first in
      let none : may_delay true u.call ≡ 0 = ap (may_delay true) put in
      let left = puts-left t.client.now (nat_lt t.client.now t.client.pause) u t.client.ticket file block body put is.idle in
      let more = written-length file block t.client.number body t.client.dirty in
      omega arith

  pub settle-cheap : (t : ClientStep) → Cheaper t (settle t)
  settle-cheap t = settle-cases t (Cheaper t) (record {
    idle = λ none. omega arith;
    asking = λ u called own. omega arith;
    read_out = λ u file block lease is read can out. answers-cheap t u.q Answer.Range None;
    reading = λ u file block lease body is read can below has. reads-cheap t u file block body;
    read_waits = λ u file block is read waits. omega arith;
    write_out = λ u sync file block body lease is write can out. answers-cheap t u.q Answer.Range None;
    write_full = λ u sync file block body lease is write can below full. answers-cheap t u.q Answer.DirtyFull None;
    writing = λ u file block body lease is write can below room. writes-cheap t u file block body (ap delays_left is.called ∙ ap (may_delay u.written) write);
    putting = λ u file block body lease is put first can below room. puts-cheap t u file block body is put first;
    write_waits = λ u sync file block body is write waits. omega arith;
    syncing = λ u file is sync clean. answers-cheap t u.q (Answer.Ok Value.Nothing) None;
    sync_waits = λ u file is sync dirty. omega arith;
    others = λ u is needs. omega arith;
  })

  -- ---- the next request

  runs : (now pause : ℕ) → pause ≤ now → nat_lt now pause ≡ false
  runs now pause most = grind (arith, nat_tests)

  pub called-left : (now pause : ℕ) (called : Option UnderWay) (u : UnderWay) (ticket : Option Ticket) → pause ≤ now → called ≡ Some u
      → requests_left price now (nat_lt now pause) called ticket ≡ asked_left price now u ticket
  called-left now pause called u ticket most is = let off = runs now pause most in rw (off, is) refl

  -- a request of the call
  asks-cheap : (t : ClientStep) (u : UnderWay) (request : Request) → t.client.ticket ≡ None → t.client.call ≡ Some u → t.client.pause ≤ t.client.now
      → request_weight price note request + sent_left price t.client.now u t.client.now request ≤ fresh_left price u
      → Cheaper t (sends_request t for_call request)
  unfolding sends_request
  asks-cheap t u request free called unpaused pays =
      let before = called-left t.client.now t.client.pause t.client.call u t.client.ticket unpaused called in
      let none : asked_left price t.client.now u t.client.ticket ≡ fresh_left price u = ap (asked_left price t.client.now u) free in
      let after = called-left t.client.now t.client.pause t.client.call u (Some (record {
        xid = t.client.xid;
        first = t.client.now;
        last =
            t.client.now;
        request = request;
        job = for_call;
      })) unpaused called in
      let more = total-more (weight price note) t.sends (Message.call t.client.xid request) in
      omega arith

  pushing-left : (now : ℕ) (pauses : Bool) (called : Option UnderWay) (t : Ticket) → t.job ≡ pushing → requests_left price now pauses called (Some t)
      ≡ requests_left price now pauses called None
  pushing-left now true called t is = refl
  pushing-left now false None t is = refl
  pushing-left now false (Some u) t is = rw is refl

  push-cheap : (t : ClientStep) (file : ℕ) (p : Push) → t.client.ticket ≡ None → first_dirty file t.client.dirty ≡ Some p → Cheaper t (pushed t p)
  unfolding sends_request after_seq takes_push
  push-cheap t file p free first =
      let u = pushed t p in
      let less = drop-shorter p file t.client.dirty first in
      let none : calls_left price t.client ≡ requests_left price t.client.now (nat_lt t.client.now t.client.pause) t.client.call None =
      ap (requests_left price t.client.now (nat_lt t.client.now t.client.pause) t.client.call) free in
      let after : calls_left price u.client ≡ requests_left price t.client.now (nat_lt t.client.now t.client.pause) t.client.call None =
      pushing-left t.client.now (nat_lt t.client.now t.client.pause) t.client.call _ refl in
      let more = total-more (weight price note) t.sends (Message.call t.client.xid (Request.Write t.client.who t.client.seq p.file p.block p.first
      p.last (Some (base_of t.client p.file)) p.body)) in
      omega arith

  read-pays : (now first : ℕ) (u : UnderWay) (who : Who) (q f b file block : ℕ) (want : Option Want) → u.call ≡ Call.Read file block
      → price + sent_left price now u first (Request.Read who q f b want) ≤ fresh_left price u
  read-pays now first u who q f b file block None is = let left : fresh_left price u ≡ price = ap (fresh_for price u) is in omega arith
  read-pays now first u who q f b file block (Some want) is =
      let left : fresh_left price u ≡ price = ap (fresh_for price u) is in
      let none : read_left price u u.call ≡ 0 = ap (read_left price u) is in
      omega arith

  write-pays : (u : UnderWay) (file block : ℕ) (body : List ℕ) → u.call ≡ Call.Write file block body → price ≤ fresh_left price u
  write-pays u file block body is = let left : fresh_left price u ≡ write_price price u.through = ap (fresh_for price u) is in by u.through left
    where
      by : (b : Bool) → fresh_left price u ≡ write_price price b → price ≤ fresh_left price u
      by true e = omega arith
      by false e = omega arith

  lease-pays : (now file block : ℕ) (body : List ℕ) (u : UnderWay) → u.call ≡ Call.Write file block body → u.through ≡ false
      → price + lease_left price (now == now && writes_to file u.call) ≤ fresh_left price u
  lease-pays now file block body u is off =
      let left : fresh_left price u ≡ price + price = ap (fresh_for price u) is ∙ ap (write_price price) off in
      let same : (now == now) ≡ true = number-same now now refl in
      let own : (file == file) ≡ true = number-same file file refl in
      let at : writes_to file u.call ≡ true = ap (writes_to file) is ∙ own in
      let one : lease_left price (now == now && writes_to file u.call) ≡ price = rw (same, at) refl in
      omega arith

  pub send-cheap : (t : ClientStep) → Cheaper t (send_next false t)
  unfolding after_seq after_number takes_push gives_up
  send-cheap t = send-cases false t (Cheaper t) (record {
    stays_asking = λ ticket asks. omega arith;
    stays = λ free nothing. omega arith;
    pushing = λ file p free first of. push-cheap t file p free first;
    creating = λ u name blocks f is. asks-cheap (after_seq t) u _ f.free f.called f.unpaused (let left : fresh_left price u ≡ price =
        ap (fresh_for price u) is in omega arith);
    looking_up = λ u name f is. asks-cheap t u _ f.free f.called f.unpaused (let left : fresh_left price u ≡ price = ap (fresh_for price u) is in omega arith);
    getting_attributes = λ u file f is. asks-cheap t u _ f.free f.called f.unpaused (let left : fresh_left price u ≡ price = ap (fresh_for price u)
        is in omega arith);
    reading = λ u file block f is. asks-cheap t u _ f.free f.called f.unpaused (read-pays t.client.now t.client.now u t.client.who u.q file block file
        block _ is);
    fetching = λ u file block f is. asks-cheap t u _ f.free f.called f.unpaused (let left : fresh_left price u ≡ price = ap (fresh_for price u) is in
        omega arith);
    writing = λ u file block body f is through. asks-cheap (after_number t) u _ f.free f.called f.unpaused (let left = write-pays u file block body
        is in omega arith);
    leasing = λ u file block body f is no alone. asks-cheap t u _ f.free f.called f.unpaused (lease-pays t.client.now file block body u is no);
    putting = λ u file block body f is first. asks-cheap (after_number t) u _ f.free f.called f.unpaused (let left : fresh_left price u ≡ price =
        ap (fresh_for price u) is ∙ ap (put_price price) first in omega arith);
    resizing = λ u file blocks f is clean. asks-cheap (after_seq (gives_up t file)) u _ f.free f.called f.unpaused (let left : fresh_left price u
        ≡ price = ap (fresh_for price u) is in omega arith);
    removing = λ u file f is clean. asks-cheap (after_seq (gives_up t file)) u _ f.free f.called f.unpaused (let left : fresh_left price u ≡ price =
        ap (fresh_for price u) is in omega arith);
    renewing = λ file lease tick free nothing unpaused renewed held of clean quiet. absurd (cc);
  })

  -- ---- a write that its lease lets be delayed

  module _ (t : ClientStep) (u : UnderWay) (file block : ℕ) (body : List ℕ) (lease : Lease) (settles : IsSettling t u) (writes : u.call
      ≡ Call.Write file block body) (can : CanWrite t.client u file lease) (unpaused : t.client.pause ≤ t.client.now) where
    -- two requests less
    abbrev Saves : ClientStep → Type 0
    Saves v = cost price note v + (price + price) ≤ cost price note t

    one : (v : UnderWay) → t.client.call ≡ Some v → v ≡ u
    one v called = some-same v u (sym called ∙ settles.called)

    no-read : (v : UnderWay) (f b : ℕ) → t.client.call ≡ Some v → IsRead v.call f b → ⊥
    no-read v f b called (inl is) = let same : v.call ≡ u.call = ap (λ w. w.call) (one v called) in cc
    no-read v f b called (inr is) = let same : v.call ≡ u.call = ap (λ w. w.call) (one v called) in cc

    left : calls_left price t.client ≡ price + price
    left = called-left t.client.now t.client.pause t.client.call u t.client.ticket unpaused settles.called ∙ settling-left t.client.now u
        t.client.ticket settles.idle ∙ ap (fresh_for price u) writes ∙ ap (write_price price) can.delayed

    may : delays_left t.client.call ≡ 1
    may = ap delays_left settles.called ∙ ap (may_delay u.written) writes

    out : (q : ℕ) (answer : Answer) (by : Option ℕ) → Saves (answers t q answer by)
    unfolding answers
    out q answer by =
        let none = none-left t.client.now (nat_lt t.client.now t.client.pause) t.client.ticket in
        let all = left in
        omega arith

    delayed : (v : UnderWay) (f b : ℕ) (bytes : List ℕ) → Saves (answers (delays t f b bytes) v.q (Answer.Ok Value.Nothing) None)
    unfolding answers after_write
    delayed v f b bytes =
        let none = none-left t.client.now (nat_lt t.client.now t.client.pause) t.client.ticket in
        let all = left in
        let some = may in
        let more = written-length f b t.client.number bytes t.client.dirty in
        omega arith

    waits : (v : UnderWay) (sync : Bool) (f b : ℕ) (bytes : List ℕ) → t.client.call ≡ Some v → IsWrite v sync f b bytes → WriteWaits t.client v f → ⊥
    waits v true f b bytes called is none = let same : v.call ≡ u.call = ap (λ w. w.call) (one v called) in let put = is.0 in cc
    waits v false f b bytes called is none =
        let same : v.call ≡ u.call = ap (λ w. w.call) (one v called) in
        let whole : Call.Write f b bytes ≡ Call.Write file block body = sym is ∙ same ∙ writes in
        let at : f ≡ file = cc in
        none lease (subst (λ g. CanWrite t.client v g lease) (sym at) (subst (λ w. CanWrite t.client w file lease) (sym (one v called)) can))

    pub settle-saves : Saves (settle t)
    settle-saves = settle-cases t Saves (record {
      idle = λ none. none-some u (sym none ∙ settles.called);
      asking = λ v called own. absurd (let idle = settles.idle in cc);
      read_out = λ v f b l is read c above. absurd (no-read v f b is.called read);
      reading = λ v f b l bytes is read c below has. absurd (no-read v f b is.called read);
      read_waits = λ v f b is read w. absurd (no-read v f b is.called read);
      write_out = λ v sync f b bytes l is write c above. out v.q Answer.Range None;
      write_full = λ v sync f b bytes l is write c below full. out v.q Answer.DirtyFull None;
      writing = λ v f b bytes l is write c below room. delayed v f b bytes;
      putting = λ v f b bytes l is put first c below room. absurd (let same : v.call ≡ u.call = ap (λ w. w.call) (one v is.called) in cc);
      write_waits = λ v sync f b bytes is write w. absurd (waits v sync f b bytes is.called write w);
      syncing = λ v f is sync clean. absurd (no-sync v f is.called sync);
      sync_waits = λ v f is sync dirty. absurd (no-sync v f is.called sync);
      others = λ v is needs. absurd (no-other v is.called needs);
    }) where
      no-sync : (v : UnderWay) (f : ℕ) → t.client.call ≡ Some v → IsSync v f → ⊥
      no-sync v f called (of_sync is) = let same : v.call ≡ u.call = ap (λ w. w.call) (one v called) in cc
      no-sync v f called (of_put b bytes is w) = let same : v.call ≡ u.call = ap (λ w. w.call) (one v called) in cc

      no-other : (v : UnderWay) → t.client.call ≡ Some v → needs_packet v.call ≡ true → ⊥
      no-other v called needs =
          let same : v.call ≡ u.call = ap (λ w. w.call) (one v called) in
          let not_so : needs_packet v.call ≡ false = ap needs_packet (same ∙ writes) in
          cc
