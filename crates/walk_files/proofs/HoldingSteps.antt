-- The parts of a client's step keep its delayed writes bound or excused: settling, and the next request.
use Rattle.std.proofs.Common.{◌≡◌, ◌<◌, ℕ, ◌+◌, Bool, true, not, List, Option, Some, None, refl, sym, subst, ap, ◌∙◌, arith, inl, inr}
use Rattle.nq_base.specs.Block.{value_of}
use Rattle.nq_base.specs.declared.Answer.{Answer}
use Rattle.nq_base.specs.declared.Entry.{Entry}
use Rattle.nq_base.specs.declared.Mode.{Mode}
use Rattle.nq_base.specs.declared.Push.{Push}
use Rattle.nq_base.specs.declared.Request.{Request}
use Rattle.nq_base.specs.declared.Value.{Value}
use Rattle.walk_steps.proofs.SendCases.{SendCases, pushed, send-cases}
use Rattle.walk_steps.proofs.SettleCases.{SettleCases, settle-cases}
use Rattle.walk_steps.proofs.ClientMoves.{some-same, none-some}
use Rattle.walk_files.proofs.Holdings.{view_of, Holding, uses, drops, fewer, notes}
use Rattle.walk_files.proofs.HoldingWrites.{writes}
use Rattle.walk_files.proofs.Waiting.{IsWaiting, none-waiting}
use Rattle.nq_model.specs.protocol.Client.{ClientStep, Job, for_call, Lease, UnderWay, is_push_at, is_push_of, drop_dirty, first_dirty, is_clean, lease_on}
use Rattle.nq_model.specs.protocol.Client.{lets_write}
use Rattle.nq_model.specs.protocol.Message.{sequence_of}
use Rattle.nq_model.specs.protocol.Send.{sends_request, after_seq, after_number, takes_push, sends_write, gives_up, read_want, want_of, send_next}
use Rattle.nq_model.specs.protocol.Server.{Server}
use Rattle.walk_steps.proofs.Members.{in-filter, find-in}
use Rattle.walk_steps.proofs.Packets.{In}
use Rattle.nq_model.specs.protocol.Settle.{answers, reads_cached, after_read, after_write, delays, marks_written, names_losses, settle}

module _ (s : Server) (journal : List Entry) where
  -- what holds between the parts of a step
  abbrev pub Between : ClientStep → Type 0
  Between t = Holding s t.client.who t.client.now journal (view_of t)

  -- ---- settling

  pub answered : (t : ClientStep) (q : ℕ) (a : Answer) (by : Option ℕ) → Between t → Between (answers t q a by)
  unfolding answers
  answered t q a by h = notes s t.client.who t.client.now journal (view_of t) (Entry.A t.client.who q _) tt refl h

  pub named : (t : ClientStep) (q file : ℕ) → Between t → Between (names_losses t q file)
  unfolding answers
  named t q file h = notes s t.client.who t.client.now journal (view_of t) (Entry.A t.client.who q _) tt refl h

  cached : (t : ClientStep) (u : UnderWay) (file block : ℕ) (body : List ℕ) → Between t → Between (reads_cached t u file block body)
  unfolding reads_cached answers after_read
  cached t u file block body h =
      let used = uses s t.client.who t.client.now journal file (view_of t) h in
      let read = notes s t.client.who t.client.now journal _ (Entry.R t.client.who u.q file block (value_of body) None) tt refl used in
      notes s t.client.who t.client.now journal _ (Entry.A t.client.who u.q _) tt refl read

  delayed : (t : ClientStep) (file block : ℕ) (body : List ℕ) (lease : Lease) → lease_on file t.client.leases ≡ Some lease
      → lets_write t.client.now lease ≡ true → block < lease.blocks → Between t → Between (delays t file block body)
  unfolding after_write
  delayed t file block body lease held lets within h =
      writes s t.client.who t.client.now journal file block (value_of body) body lease (view_of t) held lets within h

  marked : (t : ClientStep) (u : UnderWay) → Between t → Between (marks_written t u)
  unfolding marks_written
  marked t u h = h

  settles : (t : ClientStep) → Between t → SettleCases t Between
  settles t h = record {
    idle = λ none. h;
    asking = λ u is own. h;
    read_out = λ u file block lease is read can out. answered t u.q Answer.Range None h;
    reading = λ u file block lease body is read can within has. cached t u file block body h;
    read_waits = λ u file block is read waits. h;
    write_out = λ u sync file block body lease is write can out. answered t u.q Answer.Range None h;
    write_full = λ u sync file block body lease is write can within full. answered t u.q Answer.DirtyFull None h;
    writing =
        λ u file block body lease is write can within room. answered (delays t file block body) u.q (Answer.Ok Value.Nothing) None
        (delayed t file block body lease can.held can.lets within h);
    putting =
        λ u file block body lease is write unwritten can within room. marked (delays t file block body) u
        (delayed t file block body lease can.held can.lets within h);
    write_waits = λ u sync file block body is write waits. h;
    syncing = λ u file is sync clean. answered t u.q (Answer.Ok Value.Nothing) None h;
    sync_waits = λ u file is sync dirty. h;
    others = λ u is needs. h;
  }

  -- settling keeps it
  pub settled : (t : ClientStep) → Between t → Between (settle t)
  settled t h = settle-cases t Between (settles t h)

  -- ---- the next request

  asked : (t : ClientStep) (job : Job) (request : Request) → sequence_of request ≡ None → Between t → Between (sends_request t job request)
  unfolding sends_request
  asked t job request none h =
      fewer s t.client.who t.client.now journal (view_of t) _ t.client.seq t.client.number t.client.dirty t.client.push (λ p waits. waits) (omega arith)
      (omega arith)
      (λ u n is seq. none-some n (sym none ∙ ap (λ k. sequence_of k.request) (some-same _ u is) ∙ seq)) h

  decided : (t : ClientStep) (job : Job) (request : Request) → sequence_of request ≡ Some t.client.seq → Between t
      → Between (sends_request (after_seq t) job request)
  unfolding sends_request after_seq
  decided t job request draws h =
      fewer s t.client.who t.client.now journal (view_of t) _ (t.client.seq + 1) t.client.number t.client.dirty t.client.push (λ p waits. waits)
      (omega arith) (omega arith)
      (λ u n is seq. inl (λ inc. let below = h.drawn inc in
      let same : t.client.seq ≡ n = some-same t.client.seq n (sym draws ∙ ap (λ k. sequence_of k.request) (some-same _ u is) ∙ seq) in omega arith)) h

  through : (t : ClientStep) (file block : ℕ) (body : List ℕ) → Between t → Between (sends_write t file block body)
  unfolding sends_request after_number
  through t file block body h =
      fewer s t.client.who t.client.now journal (view_of t) _ (t.client.seq + 1) (t.client.number + 1) t.client.dirty t.client.push (λ p waits. waits)
      (omega arith) (omega arith)
      (λ u n is seq. inl (λ inc. let below = h.drawn inc in
      let same : t.client.seq ≡ n = some-same t.client.seq n (ap (λ k. sequence_of k.request) (some-same _ u is) ∙ seq) in omega arith)) h

  pushes : (t : ClientStep) (file : ℕ) (p : Push) → first_dirty file t.client.dirty ≡ Some p → Between t → Between (pushed t p)
  unfolding sends_request after_seq takes_push
  pushes t file p found h =
      fewer s t.client.who t.client.now journal (view_of t) _ (t.client.seq + 1) t.client.number (drop_dirty p.file p.block t.client.dirty) (Some p)
      less (omega arith) (omega arith)
      (λ u n is seq. inl (λ inc. let below = h.drawn inc in
      let same : t.client.seq ≡ n = some-same t.client.seq n (ap (λ k. sequence_of k.request) (some-same _ u is) ∙ seq) in omega arith)) h
    where
      less : (q : Push) → IsWaiting (drop_dirty p.file p.block t.client.dirty) (Some p) q → IsWaiting t.client.dirty t.client.push q
      less q (inl there) = inl (in-filter (λ x. not (is_push_at p.file p.block x)) t.client.dirty q there).0
      less q (inr is) = inl (subst (In t.client.dirty) (some-same p q is) (find-in (is_push_of file) t.client.dirty p found))

  given-up : (t : ClientStep) (file : ℕ) → is_clean t.client file ≡ true → Between t → Between (gives_up t file)
  unfolding gives_up
  given-up t file clean h =
      drops s t.client.who t.client.now journal file (view_of t) (λ p waits on. none-waiting file t.client.dirty t.client.push p clean waits on) h

  same-seq : (t : ClientStep) (file : ℕ) → (gives_up t file).client.seq ≡ t.client.seq
  unfolding gives_up
  same-seq t file = refl

  sends : (in_tick : Bool) (t : ClientStep) → Between t → SendCases in_tick t Between
  sends in_tick t h = record {
    stays_asking = λ ticket is. h;
    stays = λ none nothing. h;
    pushing = λ file p none found on. pushes t file p found h;
    creating = λ u name blocks free is. decided t for_call (Request.Create t.client.who t.client.seq name blocks) refl h;
    looking_up = λ u name free is. asked t for_call (Request.Lookup t.client.who name) refl h;
    getting_attributes = λ u file free is. asked t for_call (Request.GetAttr t.client.who file) refl h;
    reading = λ u file block free is. asked t for_call (Request.Read t.client.who u.q file block (read_want t.client file)) refl h;
    fetching = λ u file block free is. asked t for_call (Request.Read t.client.who u.q file block None) refl h;
    writing = λ u file block body free is shares. through t file block body h;
    leasing = λ u file block body free is may alone. asked t for_call (Request.GetLease t.client.who file (want_of t.client Mode.Writing)) refl h;
    putting = λ u file block body free is unwritten. through t file block body h;
    resizing =
        λ u file blocks free is clean. decided (gives_up t file) for_call (Request.Resize t.client.who t.client.seq u.q file blocks)
        (ap Some (sym (same-seq t file))) (given-up t file clean h);
    removing =
        λ u file free is clean. decided (gives_up t file) for_call (Request.Remove t.client.who t.client.seq u.q file) (ap Some (sym (same-seq t file)))
        (given-up t file clean h);
    renewing =
        λ file lease tick none nothing may due held on clean unnoticed. asked t Job.renewing
        (Request.GetLease t.client.who lease.file (want_of t.client lease.mode)) refl h;
  }

  -- the next request keeps it
  pub sent-next : (in_tick : Bool) (t : ClientStep) → Between t → Between (send_next in_tick t)
  sent-next in_tick t h = send-cases in_tick t Between (sends in_tick t h)
