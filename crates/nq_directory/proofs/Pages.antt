-- How a page goes on with a list.
use Rattle.std.proofs.Common.{◌≡◌, ◌-◌, ℕ, Bool, true, false, List, [], ◌∷◌, Option, Some, None, length, refl, sym, ap, ◌∙◌, arith, if◌then◌else◌, suc}
use Rattle.std.specs.Prelude.{slice_get}
use Rattle.nq_base.specs.declared.Grant.{Grant}
use Rattle.nq_client_parts.specs.Takes.{taking, is_broken}
use Rattle.nq_client_parts.specs.declared.holding.taken.Take.TheVariants.{Same, Broken}
use Rattle.nq_directory.specs.declared.names.FileName.{FileName}
use Rattle.nq_model.specs.protocol.Client.{Lease}
use Rattle.nq_model.specs.protocol.Hear.{breaks}
use Rattle.nq_directory.specs.Asking.{last_id}

-- a chain is broken where the grant breaks it
pub broken_breaks : (g : Grant) (l : Option Lease) → is_broken (taking g l) ≡ breaks g l
broken_breaks g None = refl
broken_breaks g (Some lease) = step (breaks g (Some lease))
  where
    step : (b : Bool) → is_broken (if b then Broken else Same) ≡ b
    step true = refl
    step false = refl

-- the last id of a page is that of its last file
pub last_is : (after : ℕ) (names : List FileName) (e : FileName) → slice_get names (length names - 1) ≡ Some e → last_id after names ≡ e.file
last_is after [] e h = absurd (cc)
last_is after (x ∷ []) e h = let same : x ≡ e = cc in ap (λ y. y.file) same
last_is after (x ∷ y ∷ ys) e h =
    let here : length (x ∷ y ∷ ys) - 1 ≡ suc (length ys) = omega arith in
    let there : length (y ∷ ys) - 1 ≡ length ys = omega arith in
    last_is x.file (y ∷ ys) e (ap (slice_get (y ∷ ys)) there ∙ sym (ap (slice_get (x ∷ y ∷ ys)) here) ∙ h)
