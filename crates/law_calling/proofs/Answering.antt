-- A call that is answered at once with a block is a read under a lease that runs.
use Rattle.std.proofs.Common.{◌≡◌, ◌≤◌, ℕ, Bool, false, List, Option, Some, None, Result, Ok, Err, refl, sym, ap, ◌∙◌, inl, inr, subst, arith}
use Rattle.std.proofs.lemmas.Bool.{and_parts}
use Rattle.nq_base.specs.Entries.{EntryList}
use Rattle.nq_base.specs.declared.Answer.{Answer}
use Rattle.nq_base.specs.declared.Call.{Call}
use Rattle.nq_base.specs.declared.Value.{Value}
use Rattle.nq_base.specs.declared.ending.fault.Fault.{Fault}
use Rattle.nq_calling.specs.Calling.{MakesUnless, refusal_of}
use Rattle.nq_client.specs.Counted.{Counted}
use Rattle.nq_client.specs.Outcome.{or_pending}
use Rattle.nq_link.specs.Links.{LinkTold}
use Rattle.nq_model.specs.protocol.Client.{Client, ClientStep, lease_on}
use Rattle.nq_model.specs.protocol.ClientStep.{begins_call, client_call, is_called, says_busy}
use Rattle.nq_model.specs.protocol.Send.{send_next, sends_request, after_seq, after_number, takes_push, gives_up}
use Rattle.nq_model.specs.protocol.Settle.{answers, reads_cached, marks_written, settle, after_write}
use Rattle.nq_model.specs.protocol.Table.{caches}
use Rattle.walk_steps.proofs.ClientMoves.{some-same}
use Rattle.walk_steps.proofs.SendCases.{send-moves}
use Rattle.walk_steps.proofs.SettleCases.{settle-cases, IsRead}
use Rattle.walk_steps.proofs.StepCases.{call-cases, unless-cached-cases}
use Rattle.walk_steps.proofs.Tests.{is-below}
use Rattle.law_calling.proofs.Times.{turn-time}
use Rattle.law_calling.specs.ReadsRun.{ReadsRun, RunsBy, HoldsLease, file_read}

-- whatever request is sent next, it gives no answer
send-answer : (in_tick : Bool) (t : ClientStep) → (send_next in_tick t).answer ≡ t.answer
unfolding sends_request after_seq after_number takes_push gives_up
send-answer in_tick t = send-moves in_tick t (λ u. u.answer ≡ t.answer) (record {
  kept = refl;
  pushes = λ file p is. refl;
  asks = λ job request. refl;
  decides = λ request. refl;
  writes = λ file block body. refl;
  changes = λ file request. refl;
})

-- a step that is answered with a block
abbrev Brings : (body : List ℕ) → ClientStep → Type 0
Brings body t = t.answer ≡ Some (Answer.Ok (Value.Body body))

-- the file of a read is the one that the call names
file-of : (op one : Call) (file other block : ℕ) → file_read op ≡ Some file → op ≡ one → IsRead one other block → other ≡ file
file-of op one file other block reads same (inl is) = some-same other file (sym (ap file_read (same ∙ is)) ∙ reads)
file-of op one file other block reads same (inr is) = some-same other file (sym (ap file_read (same ∙ is)) ∙ reads)

-- a call that brings a block at once is a read under a lease that runs
settled : (c : Client) (op : Call) (file : ℕ) (body : List ℕ) → file_read op ≡ Some file → Brings body (settle (is_called (begins_call c op) op))
    → HoldsLease c file
unfolding answers reads_cached marks_written after_write is_called begins_call
settled c op file body reads = settle-cases (is_called (begins_call c op) op) (λ t. Brings body t → HoldsLease c file) (record {
  idle = λ none e. absurd (cc);
  asking = λ u called asks e. absurd (cc);
  read_out = λ u f block lease is read can out e. absurd (cc);
  reading = λ u f block lease b is read can below has e.
      let same : op ≡ u.call = ap (λ v. v.call) (some-same _ u is.called) in
      let one : f ≡ file = file-of op u.call file f block reads same read in
      let both = and_parts _ _ can.lets in
      record {
        lease = lease;
        held = subst (λ g. lease_on g c.leases ≡ Some lease) one can.held;
        caches = both.0;
        runs = is-below _ _ both.1;
      };
  read_waits = λ u f block is read waits e. absurd (cc);
  write_out = λ u sync f block b lease is write can out e. absurd (cc);
  write_full = λ u sync f block b lease is write can below full e. absurd (cc);
  writing = λ u f block b lease is write can below room e. absurd (cc);
  putting = λ u f block b lease is write unwritten can below room e. absurd (cc);
  write_waits = λ u sync f block b is write waits e. absurd (cc);
  syncing = λ u f is sync clean e. absurd (cc);
  sync_waits = λ u f is sync dirty e. absurd (cc);
  others = λ u is needs e. absurd (cc);
})

called : (c : Client) (op : Call) (file : ℕ) (body : List ℕ) → file_read op ≡ Some file → Brings body (client_call c op) → HoldsLease c file
unfolding says_busy answers
called c op file body reads = call-cases c op (λ t. Brings body t → HoldsLease c file) (record {
  busy = λ why e. absurd (cc);
  telling = λ f loss losses none on changes is e. absurd (cc);
  going = λ none on losses.
      unless-cached-cases (settle (is_called (begins_call c op) op)) (λ t. Brings body t → HoldsLease c file)
      (λ cached e. settled c op file body reads e)
      (λ other e. settled c op file body reads (sym (send-answer false (settle (is_called (begins_call c op) op))) ∙ e));
})

-- a call whose answer is told at once was answered so by its step
at-once : (answer : Option Answer) (body : List ℕ) → Answer.Ok (Value.Body body) ≡ or_pending answer → answer ≡ Some (Answer.Ok (Value.Body body))
at-once None body e = absurd (cc)
at-once (Some a) body e = ap Some (sym e)

-- a turn that stopped refuses with no block
no-refusal : (turn : Result (Option Answer) Fault) (refusal : Answer) (body : List ℕ) → Some refusal ≡ refusal_of turn
    → Answer.Ok (Value.Body body) ≡ refusal → ⊥
no-refusal (Ok none) refusal body is e = cc
no-refusal (Err Fault.Link) refusal body is e = cc
no-refusal (Err Fault.Keep) refusal body is e = cc
no-refusal (Err Fault.Memory) refusal body is e = cc
no-refusal (Err Fault.Spent) refusal body is e = cc
no-refusal (Err Fault.NoAnswer) refusal body is e = cc

made : (call : Call) (file : ℕ) (body : List ℕ) (turn : Result (Option Answer) Fault) (refusal : Option Answer) (client client' : Counted)
    (log log' : EntryList) (link link' : LinkTold) → file_read call ≡ Some file → refusal ≡ refusal_of turn
    → MakesUnless refusal call (Answer.Ok (Value.Body body)) client client' log log' link link' → (refusal_of turn ≡ None) × HoldsLease client.client file
made call file body turn (Some refusal) client client' log log' link link' reads is makes = absurd (no-refusal turn refusal body is makes.0)
made call file body turn None client client' log log' link link' reads is makes =
    (sym is, called client.client call file body reads (at-once _ body makes.called.1))

-- a lease that runs at a time runs by each reading that is not above it
by : (reading : ℕ) (c : Client) (file : ℕ) → reading ≤ c.now → HoldsLease c file → RunsBy reading c file
by reading c file taken holds = record { holds = holds; taken_in = taken; runs = let runs = holds.runs in omega arith }

pub reads-run : ReadsRun
reads-run call file body next next' clock clock' link link' client client' log log' reads now =
    let both = made call file body now.turn now.refusal now.between client' now.noted log' now.heard link' reads now.refuses now.makes in
    by now.turns.stages.reading now.between.client file (turn-time now.turn _ _ _ _ _ _ now.turns.stages both.0) both.1
