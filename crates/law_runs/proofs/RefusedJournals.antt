-- Journals that only these laws refuse.
use Rattle.std.proofs.Common.{◌≡◌, ◌⊎◌, ℕ, List, [], ◌∷◌, refl, ap, arith, inl, inr}
use Rattle.nq_base.specs.declared.Entry.{Entry}
use Rattle.nq_base.specs.declared.Said.{Said}
use Rattle.nq_base.specs.declared.Told.{Told}
use Rattle.nq_base.specs.declared.Who.{Who}
use Rattle.nq_model.specs.laws.AnswersAreOfTheirCalls.{AnswersAreOfTheirCalls}
use Rattle.nq_model.specs.laws.BusyIsSaidAtOnce.{IsStarting, BusyIsSaidAtOnce}
use Rattle.nq_model.specs.laws.Ordered.{HasOpen}
use Rattle.law_runs.specs.Refused.{a_vanished_write, a_late_busy, OnlyDeedsRefuse, OnlyCallsRefuse, OnlyBusyRefuses}
use Rattle.law_runs.specs.Refused.{OnlyCausesRefuse, OnlyFormsRefuse}

abbrev first-host : Who
first-host = record { host = 0; inc = 1 }

abbrev first-call : ℕ
first-call = 1

abbrev no-call : ℕ
no-call = 0

abbrev second-call : ℕ
second-call = 2

neither : ⊥ ⊎ ⊥ → ⊥
neither (inl bad) = bad
neither (inr bad) = bad

-- the second call has no answer yet
unanswered : ⊥ ⊎ ⊥ ⊎ ((first-host ≡ first-host) × (first-call ≡ second-call)) ⊎ ⊥ ⊎ ⊥ → ⊥
unanswered (inl bad) = bad
unanswered (inr (inl bad)) = bad
unanswered (inr (inr (inl a))) = let other : first-call ≡ second-call = a.1 in omega arith
unanswered (inr (inr (inr (inl bad)))) = bad
unanswered (inr (inr (inr (inr bad)))) = bad

of-calls : AnswersAreOfTheirCalls a_vanished_write
of-calls = (((inr (inl (refl, refl)), λ a. unanswered a), inr tt), (tt, (tt, (((inl (refl, refl), λ a. neither a), tt), (tt, tt)))))

pub only-deeds-refuse : OnlyDeedsRefuse
only-deeds-refuse = record { others = refl; answered = of-calls; refused = λ h. neither h.1.1.1.0 }

pub only-calls-refuse : OnlyCallsRefuse
only-calls-refuse = record { others = refl; done = (tt, tt); refused = λ h. h.0.0.0 }

no-answer : ⊥ ⊎ ⊥ ⊎ ⊥ → ⊥
no-answer (inl bad) = bad
no-answer (inr (inl bad)) = bad
no-answer (inr (inr bad)) = bad

late : BusyIsSaidAtOnce a_late_busy → ⊥
late h = let other : first-call ≡ no-call = ap (λ w. w.host) h.0.0 in omega arith

pub only-busy-refuses : OnlyBusyRefuses
only-busy-refuses = record {
  others = refl;
  answered = (((inr (inl (refl, refl)), λ a. no-answer a), tt), (tt, (tt, tt)));
  done = (tt, (tt, (tt, tt)));
  refused = λ h. late h;
}

-- ---- a busy for nothing

abbrev second-start : Who
second-start = record { host = 0; inc = 2 }

-- what stands before the second call
abbrev before-second : List Entry
before-second =
    Entry.A second-start 1 Said.Ok ∷ Entry.C second-start 1 (Told.Sync 1) ∷ Entry.B second-start ∷ []

none-open : HasOpen before-second second-start → ⊥
none-open (inl bad) = bad
none-open (inr (inl first)) = first.1.1 (inl (refl, refl))
none-open (inr (inr (inl bad))) = bad
none-open (inr (inr (inr bad))) = bad

causeless : HasOpen before-second second-start ⊎ IsStarting second-start before-second → ⊥
causeless (inl opens) = none-open opens
causeless (inr starting) = let bad : Said.Ok ≡ Said.Busy = starting.idle.0 refl in absurd (cc)

-- the second call has no answer yet, and neither had the first
second-unanswered : ⊥ ⊎ ((second-start ≡ second-start) × (first-call ≡ second-call)) ⊎ ⊥ ⊎ ⊥ ⊎ ⊥ → ⊥
second-unanswered (inl bad) = bad
second-unanswered (inr (inl a)) = let other : first-call ≡ second-call = a.1 in omega arith
second-unanswered (inr (inr (inl bad))) = bad
second-unanswered (inr (inr (inr (inl bad)))) = bad
second-unanswered (inr (inr (inr (inr bad)))) = bad

pub only-causes-refuse : OnlyCausesRefuse
only-causes-refuse = record {
  others = refl;
  answered = (((inl (refl, refl), λ a. second-unanswered a), tt), (tt, (((inl (refl, refl), λ a. no-answer a), tt), (tt, (tt, tt)))));
  done = (tt, (tt, (tt, (tt, (tt, tt)))));
  forms = (tt, (tt, (tt, (tt, (tt, tt)))));
  refused = λ h. causeless h.0.2;
}

pub only-forms-refuse : OnlyFormsRefuse
only-forms-refuse = record {
  others = refl;
  answered = (((inl (refl, refl), λ a. neither a), tt), (tt, tt));
  done = (tt, (tt, tt));
  busy = (tt, (tt, tt));
  refused = λ h. h.0;
}
