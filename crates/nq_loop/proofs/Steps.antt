-- The steps of a turn, one after another: what each of some steps keeps, all of them keep.
use Rattle.std.proofs.Common.{◌≤◌, ◌<◌, ℕ, ◌++◌, ◌||◌, Bool, false, zero, suc, List, [], ◌∷◌, Ok, refl, sym, subst, arith}
use Rattle.nq_loop.specs.Looping.{Makes, Moment, Step}
use Rattle.nq_loop.specs.Steps.{MakesAll, each_below}
use Rattle.nq_model.specs.protocol.World.{Head}

module _ (head : Head) where
  -- steps in two parts
  pub record Parts (front later : List Step) (at after : Moment) : Type 0 where
    pub between : Moment
    pub one : Bool
    pub other : Bool
    pub first : MakesAll (Makes head) front one at between
    pub second : MakesAll (Makes head) later other between after

  pub in-parts : (front later : List Step) (moved : Bool) (at after : Moment) → MakesAll (Makes head) (front ++ later) moved at after
      → Parts front later at after
  in-parts [] later moved at after all = record { between = at; one = false; other = moved; first = (refl, refl); second = all }
  in-parts (step ∷ front) later moved at after all =
      let rest = in-parts front later all.1 all.2 after all.4 in
      record {
        between = rest.between;
        one = all.0 || rest.one;
        other = rest.other;
        first = (all.0, rest.one, all.2, all.3, rest.first, refl);
        second = rest.second;
      }

  -- what each step of a number keeps, all below a number keep
  pub below-keeps : (P : ℕ → Moment → Type 0) (one : ℕ → Step) (bound : ℕ)
      → ((i : ℕ) (moved : Bool) (at after : Moment) → i < bound → Makes head (one i) (Ok moved) at after → P i at → P (suc i) after)
      → (count : ℕ) (moved : Bool) (at after : Moment) → count ≤ bound → MakesAll (Makes head) (each_below count one) moved at after → P 0 at
      → P count after
  below-keeps P one bound keeps zero moved at after few all p = subst (P 0) (sym all.1) p
  below-keeps P one bound keeps (suc count) moved at after few all p =
      let parts = in-parts (each_below count one) (one count ∷ []) moved at after all in
      let before = below-keeps P one bound keeps count parts.one at parts.between (omega arith) parts.first p in
      let last = parts.second in
      subst (P (suc count)) (sym last.4.1) (keeps count last.0 parts.between last.2 (omega arith) last.3 before)
