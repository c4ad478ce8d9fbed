-- A call that is open in the journal of a run is under way at its client. So where none is, each has its answer.
use Rattle.std.proofs.Common.{◌≡◌, ◌==◌, ◌<◌, not, ℕ, Bool, true, false, zero, suc, Option, Some, None, List, [], ◌∷◌, is_some, length, nat_le, refl}
use Rattle.std.proofs.Common.{sym, ap, ◌∙◌, subst, arith}
use Rattle.std.specs.Prelude.{slice_get}
use Rattle.std.proofs.lemmas.Bool.{and_parts}
use Rattle.std.proofs.lemmas.Bool.Decides.{nat_tests}
use Rattle.nq_base.specs.declared.Entry.{Entry}
use Rattle.nq_loop.specs.Counting.{begun_in}
use Rattle.nq_loop.specs.Looping.{is_busy}
use Rattle.nq_loop.specs.Turning.{all_below, is_through}
use Rattle.nq_loop.specs.Whole.{loop_head}
use Rattle.nq_model.proofs.JournalTests.{tells_answer, tells_exists}
use Rattle.nq_model.specs.protocol.Client.{Client, UnderWay}
use Rattle.nq_model.specs.laws.Journal.{Exists, IsAnswer}
use Rattle.nq_model.specs.laws.JournalTest.{exists, is_answer}
use Rattle.nq_model.specs.protocol.World.{run}
use Rattle.nq_replay.specs.Playing.{beginning}
use Rattle.law_runs.proofs.RunCalls.{calls-fit}
use Rattle.law_rounds.proofs.ClientCount.{client-count}
use Rattle.walk_files.proofs.CallsFit.{CallsFit}
use Rattle.walk_steps.proofs.ClientMoves.{none-some}
use Rattle.nq_loop.specs.ToldAnswers.{TellsAnswers, AnsweredLoopsTellAnswers}

each-below : (count : ℕ) (test : ℕ → Bool) → all_below count test ≡ true → (h : ℕ) → h < count → test h ≡ true
each-below zero test all h low = absurd (omega arith)
each-below (suc count) test all h low = by (h == count) refl (each-below count test parts.0 h)
  where
    parts : (all_below count test ≡ true) × (test count ≡ true)
    parts = and_parts (all_below count test) (test count) all

    by : (b : Bool) → (h == count) ≡ b → (h < count → test h ≡ true) → test h ≡ true
    by true same earlier = let e : h ≡ count = grind (arith, nat_tests) in subst (λ n. test n ≡ true) (sym e) parts.1
    by false apart earlier = earlier (grind (arith, nat_tests))

within : {A : Type 0} (xs : List A) (h : ℕ) (x : A) → slice_get xs h ≡ Some x → h < length xs
within [] h x at = none-some x at
within (y ∷ xs) zero x at = omega arith
within (y ∷ xs) (suc h) x at = let rest = within xs h x at in omega arith

free : (o : Option UnderWay) → not (is_some o) ≡ true → o ≡ None
free None e = refl
free (Some u) e = absurd (cc)

module _ (journal : List Entry) (c : Client) (fit : CallsFit c journal) (none : c.call ≡ None) where
  tells : TellsAnswers journal c.who
  tells q called = by (exists (is_answer c.who q) journal) refl
    where
      by : (b : Bool) → exists (is_answer c.who q) journal ≡ b → Exists (IsAnswer c.who q) journal
      by true is = (tells_exists (tells_answer c.who q) journal).sound is
      by false is =
          let under = fit.alone q (called, λ answered. let yes = (tells_exists (tells_answer c.who q) journal).complete answered in absurd (cc)) in
          let some = under.1 in
          absurd (cc)

pub answered-loops-tell-answers : AnsweredLoopsTellAnswers
answered-loops-tell-answers hosts turns text events clock clock' links links' whole all host c at =
    tells (run (beginning (loop_head hosts)) events).journal c fits (free c.call idle)
  where
    fits : CallsFit c (run (beginning (loop_head hosts)) events).journal
    fits = calls-fit 60 (beginning (loop_head hosts)) events whole.lawful.bounds whole.lawful.skew host c at

    low : host < hosts
    low =
        let many = client-count (beginning (loop_head hosts)) events in
        let there = within (run (beginning (loop_head hosts)) events).clients host c at in
        omega arith

    idle : not (is_some c.call) ≡ true
    idle =
        let through = each-below hosts (is_through (beginning (loop_head hosts)) events) all host low in
        ap (λ o. not (is_busy o)) (sym at)
        ∙ (and_parts (nat_le 3 (begun_in host events)) (not (is_busy (slice_get (run (beginning (loop_head hosts)) events).clients host))) through).1
