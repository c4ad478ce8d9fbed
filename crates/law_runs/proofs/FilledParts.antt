-- Parts of a step of a client keep blocks that repeat a word.
use Rattle.std.proofs.Common.{◌≡◌, ℕ, Bool, true, false, List, ◌∷◌, Option, Some, None, if◌then◌else◌, refl, subst}
use Rattle.nq_base.specs.declared.Answer.{Answer}
use Rattle.nq_base.specs.declared.Call.{Call}
use Rattle.nq_base.specs.declared.Push.{Push}
use Rattle.nq_base.specs.declared.Request.{Request}
use Rattle.nq_base.specs.declared.Value.{Value}
use Rattle.law_runs.proofs.EachOf.{each-find, each-filter, each-through, each-most}
use Rattle.nq_model.proofs.Lists.{each-append}
use Rattle.nq_model.specs.protocol.Client.{Client, ClientStep, Clean, Job, Revision, Ticket, UnderWay, begun, is_clean_at, clean_at, drop_clean, dirty_at}
use Rattle.nq_model.specs.protocol.Client.{is_push_at, is_push_of, first_dirty, purge, put_clean, revision_of, is_revision, for_call}
use Rattle.nq_model.specs.protocol.Hear.{clean_at_revision}
use Rattle.nq_model.specs.laws.Journal.{Each}
use Rattle.nq_model.specs.protocol.Message.{Message}
use Rattle.nq_model.specs.protocol.Profile.{most_clean}
use Rattle.nq_model.specs.protocol.Send.{sends_request, after_seq, after_number, takes_push, sends_write, gives_up, send_next}
use Rattle.nq_model.specs.protocol.Settle.{answers, names_losses, reads_cached, after_read, looked_up, touched, reads_clean_in, clean_after_read, overwritten}
use Rattle.nq_model.specs.protocol.Settle.{overwritten_at, with_write, delays, after_write, marks_written, settle}
use Rattle.nq_model.specs.laws.BodiesAreFilled.{IsFilled, BringsFilled, AsksFilled, HasFilledBody, HasFilledBodies}
use Rattle.walk_steps.proofs.ClientMoves.{some-same, none-some}
use Rattle.walk_steps.proofs.SendCases.{pushed, send-cases}
use Rattle.walk_steps.proofs.SettleCases.{settle-cases}

-- the bodies of a client in the middle of a step, and of what it sends
pub record Fits (call : Option UnderWay) (ticket : Option Ticket) (dirty : List Push) (push : Option Push) (clean : List Clean)
    (sends : List Message) : Type 0 where
  pub called : (u : UnderWay) → call ≡ Some u → BringsFilled u.call
  pub asked : (t : Ticket) → ticket ≡ Some t → AsksFilled t.request
  pub listed : Each (λ p. IsFilled p.body) dirty
  pub pushes : (p : Push) → push ≡ Some p → IsFilled p.body
  pub cached : Each (λ k. IsFilled k.body) clean
  pub sent : Each HasFilledBody sends

abbrev pub FitsIn : ClientStep → Type 0
FitsIn t = Fits t.client.call t.client.ticket t.client.dirty t.client.push t.client.clean t.sends

pub begun-fits : (c : Client) → HasFilledBodies c → FitsIn (begun c)
begun-fits c h = record { called = h.called; asked = h.asked; listed = h.dirty; pushes = h.pushed; cached = h.clean; sent = tt }

pub step-filled : (t : ClientStep) → FitsIn t → HasFilledBodies t.client
step-filled t m = record { called = m.called; asked = m.asked; dirty = m.listed; pushed = m.pushes; clean = m.cached }

-- ---- lists

pub put-filled : (file block : ℕ) (body : List ℕ) (clean : List Clean) → IsFilled body → Each (λ k. IsFilled k.body) clean
    → Each (λ k. IsFilled k.body) (put_clean file block body clean)
put-filled file block body clean new h =
    each-most (λ k. IsFilled k.body) most_clean (record { file = file; block = block; body = body } ∷ drop_clean file block clean)
    (new, each-filter (λ k. IsFilled k.body) _ clean h)

touched-filled : (file block : ℕ) (o : Option Clean) (clean : List Clean) → clean_at file block clean ≡ o → Each (λ k. IsFilled k.body) clean
    → Each (λ k. IsFilled k.body) (touched file block o clean)
touched-filled file block None clean is h = h
touched-filled file block (Some k) clean is h =
    (each-find (λ k. IsFilled k.body) (is_clean_at file block) clean k is h, each-filter (λ k. IsFilled k.body) _ clean h)

read-filled : (file block : ℕ) (dirty : List Push) (push : Option Push) (clean : List Clean) → Each (λ k. IsFilled k.body) clean
    → Each (λ k. IsFilled k.body) (clean_after_read file block dirty push clean)
read-filled file block dirty push clean h = step (reads_clean_in file block dirty push)
  where
    step : (b : Bool) → Each (λ k. IsFilled k.body) (if b then looked_up file block clean else clean)
    step true = touched-filled file block (clean_at file block clean) clean refl h
    step false = h

over-filled : (file block number : ℕ) (body : List ℕ) → IsFilled body → (p : Push) → IsFilled p.body → IsFilled (overwritten_at file block number body p).body
over-filled file block number body new p old = step (is_push_at file block p)
  where
    step : (b : Bool) → IsFilled (if b then overwritten number body p else p).body
    step true = new
    step false = old

write-filled : (file block number : ℕ) (body : List ℕ) (dirty : List Push) (o : Option Push) → IsFilled body → Each (λ p. IsFilled p.body) dirty
    → Each (λ p. IsFilled p.body) (with_write file block number body dirty o)
write-filled file block number body dirty (Some p) new h =
    each-through (λ p. IsFilled p.body) (overwritten_at file block number body) dirty (over-filled file block number body new) h
write-filled file block number body dirty None new h = each-append (λ p. IsFilled p.body) dirty _ h (new, tt)

pub revision-filled : (file rev : ℕ) (revisions : List Revision) (clean : List Clean) → Each (λ k. IsFilled k.body) clean
    → Each (λ k. IsFilled k.body) (clean_at_revision file rev revisions clean)
revision-filled file rev revisions clean h = step (is_revision rev (revision_of file revisions))
  where
    step : (b : Bool) → Each (λ k. IsFilled k.body) (if b then clean else purge file clean)
    step true = h
    step false = each-filter (λ k. IsFilled k.body) _ clean h

-- a call with a body
brought : (op : Call) (u : UnderWay) → u.call ≡ op → BringsFilled u.call → BringsFilled op
brought op u is h = subst BringsFilled is h

-- ---- parts of a step

pub answered : (t : ClientStep) (q : ℕ) (a : Answer) (by : Option ℕ) → FitsIn t → FitsIn (answers t q a by)
unfolding answers
answered t q a by m = record { called = λ u e. none-some u e; asked = m.asked; listed = m.listed; pushes = m.pushes; cached = m.cached; sent = m.sent }

pub named : (t : ClientStep) (q file : ℕ) → FitsIn t → FitsIn (names_losses t q file)
unfolding answers
named t q file m = record { called = λ u e. none-some u e; asked = m.asked; listed = m.listed; pushes = m.pushes; cached = m.cached; sent = m.sent }

read-fits : (t : ClientStep) (u : UnderWay) (file block : ℕ) (body : List ℕ) → FitsIn t → FitsIn (reads_cached t u file block body)
unfolding reads_cached answers after_read
read-fits t u file block body m =
    record {
      called = λ v e. none-some v e;
      asked = m.asked;
      listed = m.listed;
      pushes = m.pushes;
      cached = read-filled file block t.client.dirty
          t.client.push t.client.clean m.cached;
      sent = m.sent;
    }

delayed : (t : ClientStep) (file block : ℕ) (body : List ℕ) → IsFilled body → FitsIn t → FitsIn (delays t file block body)
unfolding after_write
delayed t file block body new m =
    record {
      called = m.called;
      asked = m.asked;
      listed = write-filled file block t.client.number body t.client.dirty
          (dirty_at file block t.client.dirty) new m.listed;
      pushes = m.pushes;
      cached = each-filter (λ k. IsFilled k.body) _ t.client.clean m.cached;
      sent = m.sent;
    }

marked : (t : ClientStep) (u : UnderWay) → BringsFilled u.call → FitsIn t → FitsIn (marks_written t u)
unfolding marks_written
marked t u brings m =
    record {
      called = λ v e. subst (λ z. BringsFilled z.call) (some-same (record u { written = true }) v e) brings;
      asked = m.asked;
      listed = m.listed;
      pushes = m.pushes;
      cached = m.cached;
      sent = m.sent;
    }

pub settled : (t : ClientStep) → FitsIn t → FitsIn (settle t)
settled t m = settle-cases t FitsIn (record {
  idle = λ none. m;
  asking = λ u is own. m;
  read_out = λ u file block lease is read can out. answered t u.q Answer.Range None m;
  reading = λ u file block lease body is read can below has. read-fits t u file block body m;
  read_waits = λ u file block is read waits. m;
  write_out = λ u sync file block body lease is write can out. answered t u.q Answer.Range None m;
  write_full = λ u sync file block body lease is write can below full. answered t u.q Answer.DirtyFull None m;
  writing =
      λ u file block body lease is write can below room. answered (delays t file block body) u.q (Answer.Ok Value.Nothing) None
      (delayed t file block body (brought (Call.Write file block body) u write (m.called u is.called)) m);
  putting =
      λ u file block body lease is put written can below room. marked (delays t file block body) u (m.called u is.called)
      (delayed t file block body (brought (Call.Put file block body) u put (m.called u is.called)) m);
  write_waits = λ u sync file block body is write waits. m;
  syncing = λ u file is sync clean. answered t u.q (Answer.Ok Value.Nothing) None m;
  sync_waits = λ u file is sync dirty. m;
  others = λ u is needs. m;
})

-- ---- the next request

sends-fit : (t : ClientStep) (job : Job) (r : Request) → AsksFilled r → FitsIn t → FitsIn (sends_request t job r)
unfolding sends_request
sends-fit t job r filled m = record {
  called = m.called;
  asked = λ k e. subst (λ z. AsksFilled z.request) (some-same _ k e) filled;
  listed = m.listed;
  pushes = m.pushes;
  cached = m.cached;
  sent = each-append HasFilledBody t.sends _ m.sent (filled, tt);
}

seq-fits : (t : ClientStep) → FitsIn t → FitsIn (after_seq t)
unfolding after_seq
seq-fits t m = m

number-fits : (t : ClientStep) → FitsIn t → FitsIn (after_number t)
unfolding after_number
number-fits t m = m

gives-fits : (t : ClientStep) (file : ℕ) → FitsIn t → FitsIn (gives_up t file)
unfolding gives_up
gives-fits t file m =
    record {
      called = m.called;
      asked = m.asked;
      listed = m.listed;
      pushes = m.pushes;
      cached = each-filter (λ k. IsFilled k.body) _ t.client.clean
          m.cached;
      sent = m.sent;
    }

taken : (t : ClientStep) (p : Push) → IsFilled p.body → FitsIn t → FitsIn (takes_push t p)
unfolding takes_push
taken t p filled m =
    record {
      called = m.called;
      asked = m.asked;
      listed = each-filter (λ p. IsFilled p.body) _ t.client.dirty m.listed;
      pushes = λ x e. subst
          (λ z. IsFilled z.body) (some-same p x e) filled;
      cached = m.cached;
      sent = m.sent;
    }

push-fits : (t : ClientStep) (file : ℕ) (p : Push) → first_dirty file t.client.dirty ≡ Some p → FitsIn t → FitsIn (pushed t p)
push-fits t file p first m =
    let filled = each-find (λ p. IsFilled p.body) (is_push_of file) t.client.dirty p first m.listed in
    sends-fit (after_seq (takes_push t p)) Job.pushing _ filled (seq-fits (takes_push t p) (taken t p filled m))

write-fits : (t : ClientStep) (file block : ℕ) (body : List ℕ) → IsFilled body → FitsIn t → FitsIn (sends_write t file block body)
write-fits t file block body filled m = sends-fit (after_number t) for_call _ filled (number-fits t m)

pub sends : (in_tick : Bool) (t : ClientStep) → FitsIn t → FitsIn (send_next in_tick t)
sends in_tick t m = send-cases in_tick t FitsIn (record {
  stays_asking = λ ticket is. m;
  stays = λ free nothing. m;
  pushing = λ file p free first of. push-fits t file p first m;
  creating = λ u name blocks f op. sends-fit (after_seq t) for_call _ tt (seq-fits t m);
  looking_up = λ u name f op. sends-fit t for_call _ tt m;
  getting_attributes = λ u file f op. sends-fit t for_call _ tt m;
  reading = λ u file block f op. sends-fit t for_call _ tt m;
  fetching = λ u file block f op. sends-fit t for_call _ tt m;
  writing = λ u file block body f op through. write-fits t file block body (brought (Call.Write file block body) u op (m.called u f.called)) m;
  leasing = λ u file block body f op through shares. sends-fit t for_call _ tt m;
  putting = λ u file block body f op written. write-fits t file block body (brought (Call.Put file block body) u op (m.called u f.called)) m;
  resizing = λ u file blocks f op clean. sends-fit (after_seq (gives_up t file)) for_call _ tt (seq-fits (gives_up t file) (gives-fits t file m));
  removing = λ u file f op clean. sends-fit (after_seq (gives_up t file)) for_call _ tt (seq-fits (gives_up t file) (gives-fits t file m));
  renewing = λ file lease ticks free nothing unpaused due held of clean unnoticed. sends-fit t Job.renewing _ tt m;
})
