-- What a stop within serving leaves where it leaves what was kept at first.
use Rattle.std.proofs.Common.{◌≡◌, ◌⊎◌, ℕ, List, Option, Some, Result, Ok, Err, inl, inr, ◌∙◌}
use Rattle.nq_serving.specs.LeavingTurns.{IsLeftInRuns}
use Rattle.nq_serving.specs.Running.{Runs}
use Rattle.nq_serving.specs.Extending.{Extension}
use Rattle.nq_serving.specs.declared.turning.LinkPolicy.{LinkPolicy}
use Rattle.nq_base.specs.declared.ending.fault.Fault.{Fault}
use Rattle.nq_model.specs.protocol.Kept.{Kept}
use Rattle.nq_clock.specs.Clocks.{ClockTold}
use Rattle.nq_link.specs.Links.{LinkTold}
use Rattle.nq_store.specs.Storing.{AllStandFor, kept_on}

pub left_same : (kept : Kept) (bytes image : List ℕ) (before : List ℕ → Type 0) → before bytes → AllStandFor before kept
    → before image ⊎ (kept_on image ≡ kept_on bytes) → kept_on image ≡ Some kept
left_same kept bytes image before stays same (inl b) = same image b
left_same kept bytes image before stays same (inr e) = e ∙ same bytes stays

-- what is kept at first is left by the boot
pub left_first : {K : Type 0} (content : K → Option Kept) (faults : K → ℕ) (policy : LinkPolicy) (extension : Extension) (follows : K → K → Type 0) (longest turns time : ℕ) (keeper : K)
    (ended : Result Unit Fault) (left : K) (clock clock' : ClockTold) (link link' : LinkTold)
    (runs : Runs content faults policy extension follows longest turns time keeper ended left clock clock' link link') (kept : Kept) (found : Option Kept)
    → found ≡ Some kept → IsLeftInRuns content faults policy extension follows longest turns time keeper ended left clock clock' link link' runs kept found
left_first content faults policy extension follows longest turns time keeper (Ok done) left clock clock' link link' runs kept found e = inl (inl e)
left_first content faults policy extension follows longest turns time keeper (Err why) left clock clock' link link' (inl runs) kept found e = inl (inl e)
left_first content faults policy extension follows longest turns time keeper (Err why) left clock clock' link link' (inr none) kept found e = inl e

pub left_either : {A B : Type 0} (P : Type 0) → (A → P) → (B → P) → A ⊎ B → P
left_either P f g (inl a) = f a
left_either P f g (inr b) = g b
