-- What steps that may give nothing give.
use Rattle.std.proofs.Common.{◌≡◌, Option, Some, None, refl}
use Rattle.nq_base.specs.Steps.{◌>>=◌}

-- two steps that give something each gave something
pub bind_some : {A B : Type 0} (o : Option A) (f : A → Option B) (y : B) → (o >>= f) ≡ Some y → (x : A) × (o ≡ Some x) × (f x ≡ Some y)
bind_some None f y given = cc
bind_some (Some x) f y given = (x, refl, given)
