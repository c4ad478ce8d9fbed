-- Steps, one after another. Below, `Makes` says that a step that began at one moment ended so at another: with whether it moved anything, or
-- with why the loop stops.
use Rattle.std.specs.Prelude.{◌≡◌, ℕ, ◌||◌, Bool, false, List, [], ◌∷◌, ◌++◌, Result, Ok, Err, zero, suc}
use Rattle.nq_loop.specs.declared.turns.Halt.{Halt}

-- these steps were made one after another, and one of them moved something, or none
abbrev pub MakesAll : {S M : Type 0} → (Makes : S → Result Bool Halt → M → M → Type 0) → List S → (moved : Bool) → (at after : M) → Type 0
MakesAll {S = S} {M = M} Makes [] moved at after = (moved ≡ false) × (after ≡ at)
MakesAll {S = S} {M = M} Makes (step ∷ later) moved at after =
    (first : Bool) × (rest : Bool) × (between : M)
    × Makes step (Ok first) at between × MakesAll Makes later rest between after × (moved ≡ (first || rest))

-- a front of these steps was made, and the next one stopped
pub record StopsAmong {S M : Type 0} (Makes : S → Result Bool Halt → M → M → Type 0) (steps : List S) (why : Halt) (at after : M) : Type 0 where
  pub front : List S
  pub next : S
  pub later : List S
  pub parts : steps ≡ front ++ next ∷ later
  pub moved : Bool
  pub between : M
  pub before : MakesAll Makes front moved at between
  pub last : Makes next (Err why) between after

-- steps were made, up to the first that stopped
abbrev pub MakesSteps : {S M : Type 0} → (Makes : S → Result Bool Halt → M → M → Type 0) → List S → Result Bool Halt → (at after : M) → Type 0
MakesSteps Makes steps (Ok moved) at after = MakesAll Makes steps moved at after
MakesSteps Makes steps (Err why) at after = StopsAmong Makes steps why at after

-- how steps end that ended so behind others, which moved something or not
abbrev pub behind : (moved : Bool) → Result Bool Halt → Result Bool Halt
behind moved (Ok more) = Ok (moved || more)
behind moved (Err why) = Err why

-- one for each number below this, in their order
abbrev pub each_below : {A : Type 0} → (count : ℕ) → (ℕ → A) → List A
each_below zero one = []
each_below (suc count) one = each_below count one ++ one count ∷ []
