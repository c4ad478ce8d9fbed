-- Over a keeper that never fails a schedule stops for no fault of it.
use Rattle.std.proofs.Common.{◌≡◌, inl, inr, ℕ, List, [], refl, ap, ◌∙◌, arith}
use Rattle.nq_io.specs.Calls.{fresh}
use Rattle.nq_io.specs.Faults.{Rose}
use Rattle.nq_keeper.specs.StoredKeeper.{StoredKeeper, GoesOn, empty_kept}
use Rattle.nq_replay.specs.Going.{said}
use Rattle.nq_replay.specs.declared.play.played.Played.{Played}
use Rattle.nq_replay.specs.Schedules.{HasReason}
use Rattle.nq_world.specs.Beginning.{NeverFails}
use Rattle.nq_world.specs.Playing.{CountsFaults}
use Rattle.nq_world.specs.declared.stepped.Stepped.{Stepped}

-- a keeper in memory that is to fail in no call
pub memory_never : (keeper : StoredKeeper) (failing : List ℕ) → keeper ≡ record { kept = empty_kept; calls = fresh failing } → failing ≡ []
    → NeverFails (λ k. k.calls.faults) GoesOn keeper
memory_never keeper failing is none = λ later goes. goes.never (ap (λ k. k.calls.failing) is ∙ none) ∙ ap (λ k. k.calls.faults) is

-- a count that is 0 before and after did not rise
pub none_rose : (before count : ℕ) → before ≡ 0 → count ≡ 0 → Rose before count → ⊥
none_rose before count b c (inl more) = omega arith
none_rose before count b c (inr end) = let full = end.0 in omega arith

pub reasoned : (played : Played) (before count : ℕ) → before ≡ 0 → count ≡ 0 → CountsFaults (said played) before count → (said played ≡ Stepped.Done
    → played ≡ Played.All) → HasReason played
reasoned Played.All before count b c counts all = tt
reasoned (Played.Stopped line Stepped.Done) before count b c counts all = let whole : Played.Stopped line Stepped.Done ≡ Played.All = all refl in absurd (cc)
reasoned (Played.Stopped line Stepped.Fault) before count b c counts all = absurd (none_rose before count b c counts)
reasoned (Played.Stopped line other) before count b c counts all = tt
