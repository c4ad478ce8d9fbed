-- A world plays the new run on, or refuses its last event.
use Rattle.std.proofs.Common.{◌≡◌, ℕ, [], ◌∷◌, ◌++◌, true, false, Bool, Option, Result, Ok, Err, OnOk, reverse, sym, ap, subst, ◌∙◌}
use Rattle.std.proofs.lemmas.List.{reverse-append}
use Rattle.nq_base.specs.declared.Event.{Event}
use Rattle.nq_bend.specs.Bending.{AreTaken, EndsSo, RunsTo}
use Rattle.nq_bend.specs.Course.{IsClosed, IsEntered, IsPlayed, IsStill, IsWith}
use Rattle.nq_bend.specs.declared.course.Course.{Course}
use Rattle.nq_model.specs.protocol.Kept.{Kept}
use Rattle.nq_model.specs.protocol.Stepped.{Stepped as Answer, done, stepped}
use Rattle.nq_script.specs.declared.heads.Head.{Head}
use Rattle.nq_world.specs.Answering.{told as answer_of}
use Rattle.nq_world.specs.Beginning.{beginning}
use Rattle.nq_world.specs.Playing.{Plays, Steps, WorldOver}
use Rattle.nq_world.specs.declared.stepped.Stepped.{Stepped}

-- nothing has happened yet
pub begun : {K : Type 0} (head : Head) (w : WorldOver K) (told : Option Kept) (c : Course) → (c.ran ≡ []) × (c.is_over ≡ false)
    → Plays (beginning head) [] w told → IsPlayed head w told c
begun head w told c none plays = record {
  ends = subst (λ over. EndsSo head over c.ran) (sym none.1) (subst (λ es. EndsSo head false es) (sym none.0) tt);
  plays = λ going. subst (λ es. Plays (beginning head) (reverse es) w told) (sym none.0) plays;
}

-- where nothing was kept or refused, the world plays the run as before
pub still-played : {K : Type 0} (head : Head) (w : WorldOver K) (told : Option Kept) (c d : Course) → IsStill c d → IsPlayed head w told c
    → IsPlayed head w told d
still-played head w told c d still p = record {
  ends = subst (λ over. EndsSo head over d.ran) (sym still.over) (subst (λ es. EndsSo head c.is_over es) (sym still.ran) p.ends);
  plays = λ going. subst (λ es. Plays (beginning head) (reverse es) w told) (sym still.ran) (p.plays (sym still.over ∙ going));
}

-- the events of a run that is not over are all taken
taken-all : (head : Head) (c : Course) → c.is_over ≡ false → EndsSo head c.is_over c.ran → AreTaken (beginning head) (reverse c.ran)
taken-all head c going ends = subst (λ over. EndsSo head over c.ran) going ends

-- the end of a run with one event more
ends-with : (head : Head) (event : Event) (over : Bool) (c d : Course) → d.ran ≡ c.ran ++ event ∷ [] → d.is_over ≡ over
    → RunsTo over (beginning head) (event ∷ reverse c.ran) → EndsSo head d.is_over d.ran
ends-with head event over c d ran is runs =
    subst (λ o. EndsSo head o d.ran) (sym is)
    (subst (λ es. RunsTo over (beginning head) es) (sym (ap reverse ran ∙ reverse-append c.ran (event ∷ []))) runs)

-- an answer that is told otherwise than `done` is not `done`
not-done : (answer : Answer) (said : Stepped) → answer_of answer ≡ said → (said ≡ Stepped.Done → ⊥) → answer ≡ done → ⊥
not-done answer said is other taken = other (sym is ∙ ap answer_of taken)

-- the event was refused
refused : {K : Type 0} (head : Head) (event : Event) (said : Stepped) (v : WorldOver K) (tells : Option Kept) (c d : Course) → c.is_over ≡ false
    → EndsSo head c.is_over c.ran → answer_of (stepped (beginning head) (reverse c.ran) event) ≡ said → (said ≡ Stepped.Done → ⊥)
    → d.ran ≡ c.ran ++ event ∷ [] → d.is_over ≡ true → IsPlayed head v tells d
refused head event said v tells c d going ends is other ran over = record {
  ends = ends-with head event true c d ran over
      (taken-all head c going ends, not-done (stepped (beginning head) (reverse c.ran) event) said is other);
  plays = λ on. absurd (cc);
}

-- the event was taken
taken : {K : Type 0} (head : Head) (event : Event) (v : WorldOver K) (tells : Option Kept) (c d : Course) → c.is_over ≡ false
    → EndsSo head c.is_over c.ran → stepped (beginning head) (reverse c.ran) event ≡ done → Plays (beginning head) (event ∷ reverse c.ran) v tells
    → d.ran ≡ c.ran ++ event ∷ [] → d.is_over ≡ false → IsPlayed head v tells d
taken head event v tells c d going ends is plays ran over = record {
  ends = ends-with head event false c d ran over (taken-all head c going ends, is);
  plays = λ on. subst (λ es. Plays (beginning head) es v tells) (sym (ap reverse ran ∙ reverse-append c.ran (event ∷ []))) plays;
}

-- the world was given one event more, and the run is closed behind its answer
pub played-on : {K : Type 0} (head : Head) (event : Event) (origin : Option ℕ) (said : Stepped) (w v : WorldOver K) (told tells : Option Kept)
    (c e d : Course) → c.is_over ≡ false → IsWith event origin c e → IsClosed said e d
    → Steps (beginning head) (reverse c.ran) event said w v told tells → IsPlayed head w told c → IsPlayed head v tells d
played-on head event origin Stepped.Done w v told tells c e d going with closed steps p =
    taken head event v tells c d going p.ends steps.0 steps.1 (closed.ran ∙ with.ran) (closed.over ∙ with.over ∙ going)
played-on head event origin Stepped.Fault w v told tells c e d going with closed steps p = absurd closed
played-on head event origin Stepped.Memory w v told tells c e d going with closed steps p = absurd closed
played-on head event origin Stepped.NoPacket w v told tells c e d going with closed steps p =
    refused head event Stepped.NoPacket v tells c d going p.ends steps.0 (λ is. cc) (closed.0 ∙ with.ran) closed.1
played-on head event origin (Stepped.SkewBroken broken) w v told tells c e d going with closed steps p =
    refused head event (Stepped.SkewBroken broken) v tells c d going p.ends steps.0 (λ is. cc) (closed.0 ∙ with.ran) closed.1
played-on head event origin (Stepped.Limit limit) w v told tells c e d going with closed steps p =
    refused head event (Stepped.Limit limit) v tells c d going p.ends steps.0 (λ is. cc) (closed.0 ∙ with.ran) closed.1

-- an event was kept
pub kept-in : (is_in : Bool) (event : Event) (origin : Option ℕ) (c d : Course) → is_in ≡ true → IsEntered is_in event origin c d
    → (c.is_over ≡ false) × IsWith event origin c d
kept-in true event origin c d on is = is
kept-in false event origin c d on is = cc

-- an event was not kept
pub kept-out : (is_in : Bool) (event : Event) (origin : Option ℕ) (c d : Course) → is_in ≡ false → IsEntered is_in event origin c d → IsStill c d
kept-out true event origin c d off is = cc
kept-out false event origin c d off is = is.1

-- what follows where all went well
pub on_ok : {A E : Type 0} (result : Result A E) {P Q : Type 0} → (P → Q) → OnOk result P → OnOk result Q
on_ok (Ok value) next is = next is
on_ok (Err fault) next is = tt
