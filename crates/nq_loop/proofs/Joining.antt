-- Steps that are made behind others.
use Rattle.std.proofs.Common.{◌≡◌, Bool, true, false, List, [], ◌∷◌, ◌++◌, Ok, Err, refl, sym, ap, subst, ◌∙◌, append_assoc}
use Rattle.std.specs.Prelude.{Result, ◌||◌}
use Rattle.nq_loop.specs.Steps.{MakesAll, MakesSteps, StopsAmong, behind}
use Rattle.nq_loop.specs.declared.turns.Halt.{Halt}

or-assoc : (a b c : Bool) → (a || (b || c)) ≡ ((a || b) || c)
or-assoc true b c = refl
or-assoc false b c = refl

-- ---- all were made

pub join-all : {S M : Type 0} (Makes : S → Result Bool Halt → M → M → Type 0) (front later : List S) (one other : Bool) (at between after : M)
    → MakesAll Makes front one at between → MakesAll Makes later other between after → MakesAll Makes (front ++ later) (one || other) at after
join-all Makes [] later one other at between after first second =
    subst (λ m. MakesAll Makes later (one || other) m after) first.1 (subst (λ b. MakesAll Makes later (b || other) between after) (sym first.0) second)
join-all Makes (step ∷ front) later one other at between after first second = (
  first.0,
  first.1 || other,
  first.2,
  first.3,
  join-all Makes front later first.1 other first.2 between after first.4 second,
  ap (λ b. b || other)
      first.5 ∙ sym (or-assoc first.0 first.1 other),
)

-- one was
pub one-made : {S M : Type 0} (Makes : S → Result Bool Halt → M → M → Type 0) (step : S) (moved : Bool) (at after : M) → Makes step (Ok moved) at
    after → MakesAll Makes (step ∷ []) moved at after
one-made Makes step true at after made = (true, false, after, made, (refl, refl), refl)
one-made Makes step false at after made = (false, false, after, made, (refl, refl), refl)

-- ---- the last of them stopped

pub one-stops : {S M : Type 0} (Makes : S → Result Bool Halt → M → M → Type 0) (step : S) (why : Halt) (at after : M) → Makes step (Err why) at after
    → StopsAmong Makes (step ∷ []) why at after
one-stops Makes step why at after stops = record {
  front = [];
  next = step;
  later = [];
  parts = refl;
  moved = false;
  between = at;
  before = (refl, refl);
  last = stops;
}

pub one-ends : {S M : Type 0} (Makes : S → Result Bool Halt → M → M → Type 0) (step : S) (ended : Result Bool Halt) (at after : M)
    → Makes step ended at after → MakesSteps Makes (step ∷ []) ended at after
one-ends Makes step (Ok moved) at after made = one-made Makes step moved at after made
one-ends Makes step (Err why) at after made = one-stops Makes step why at after made

pub stops-behind : {S M : Type 0} (Makes : S → Result Bool Halt → M → M → Type 0) (front later : List S) (one : Bool) (why : Halt) (at between after : M)
    → MakesAll Makes front one at between → StopsAmong Makes later why between after → StopsAmong Makes (front ++ later) why at after
stops-behind Makes front later one why at between after first second = record {
  front = front ++ second.front;
  next = second.next;
  later = second.later;
  parts = ap (λ xs. front ++ xs) second.parts ∙ sym (append_assoc front second.front (second.next ∷ second.later));
  moved = one || second.moved;
  between = second.between;
  before = join-all Makes front second.front one second.moved at between second.between first second.before;
  last = second.last;
}

pub stops-before : {S M : Type 0} (Makes : S → Result Bool Halt → M → M → Type 0) (front later : List S) (why : Halt) (at after : M)
    → StopsAmong Makes front why at after → StopsAmong Makes (front ++ later) why at after
stops-before Makes front later why at after first = record {
  front = first.front;
  next = first.next;
  later = first.later ++ later;
  parts = ap (λ xs. xs ++ later) first.parts ∙ append_assoc first.front (first.next ∷ first.later) later;
  moved = first.moved;
  between = first.between;
  before = first.before;
  last = first.last;
}

-- steps behind others that were all made
pub join : {S M : Type 0} (Makes : S → Result Bool Halt → M → M → Type 0) (front later : List S) (one : Bool) (ended : Result Bool Halt) (at between after : M)
    → MakesAll Makes front one at between → MakesSteps Makes later ended between after → MakesSteps Makes (front ++ later) (behind one ended) at after
join Makes front later one (Ok other) at between after first second = join-all Makes front later one other at between after first second
join Makes front later one (Err why) at between after first second = stops-behind Makes front later one why at between after first second

-- ---- steps among more

-- the first of some
pub record IsFront {A : Type 0} (front all : List A) : Type 0 where
  pub later : List A
  pub parts : all ≡ front ++ later

pub stops-within : {S M : Type 0} (Makes : S → Result Bool Halt → M → M → Type 0) (front all : List S) (why : Halt) (at after : M)
    → IsFront front all → StopsAmong Makes front why at after → StopsAmong Makes all why at after
stops-within Makes front all why at after is stops = subst (λ xs. StopsAmong Makes xs why at after) (sym is.parts) (stops-before Makes front is.later
    why at after stops)
