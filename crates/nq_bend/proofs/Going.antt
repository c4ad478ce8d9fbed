-- A new run goes on.
use Rattle.std.proofs.Common.{◌≡◌, ◌≤◌, ℕ, ◌+◌, List, [], ◌∷◌, ◌++◌, Bool, true, false, length, take, slice_get, Option, Some, None, refl, sym, ap, subst, ◌∙◌}
use Rattle.std.proofs.Common.{arith}
use Rattle.std.proofs.lemmas.List.{append-nil, length-append}
use Rattle.std.specs.List.{AllByRecursion}
use Rattle.nq_base.specs.declared.Event.{Event}
use Rattle.nq_bend.proofs.Events.{acts-append, acts-stand, all_last, all-more, kept-along, kept-beside, spared-more, take-next}
use Rattle.nq_bend.proofs.Told.{told-along, told-beside, told-left, told-out, told-same}
use Rattle.nq_bend.specs.Bending.{IsLeftOut, IsSpared, KeepsActs, TellsAll, acts, kept}
use Rattle.nq_bend.specs.Course.{IsCourse, IsSameButSent, IsWith, IsWithout, Keeps, StandsFor}
use Rattle.nq_bend.specs.declared.bends.Bend.{Bend}
use Rattle.nq_bend.specs.declared.bends.LeftOut.{LeftOut}
use Rattle.nq_bend.specs.declared.course.Course.{Course}
use Rattle.nq_replay.specs.Texts.{IsTellable}
use Rattle.nq_script.specs.declared.heads.Head.{Head}

-- the acts of one event more, which is the last of the old run's or not
pub more-acts : (old ran : List Event) (origins : List (Option ℕ)) (count : ℕ) (was event : Event) → slice_get old count ≡ Some was → StandsFor was event
    → length origins ≡ length ran → KeepsActs old count ran origins → KeepsActs old (count + 1) (ran ++ event ∷ []) (origins ++ Some count ∷ [])
more-acts old ran origins count was event here stands many keeps =
    ap acts (kept-along ran origins event count many)
    ∙ acts-append (kept ran origins) (event ∷ [])
    ∙ ap (λ es. es ++ acts (event ∷ [])) keeps
    ∙ ap (λ es. acts (take count old) ++ es) (sym (acts-stand was event stands))
    ∙ sym (acts-append (take count old) (was ∷ []))
    ∙ ap acts (sym (take-next old count was here))

pub same-acts : (old : List Event) (count : ℕ) (was : Event) → slice_get old count ≡ Some was → acts (was ∷ []) ≡ []
    → acts (take (count + 1) old) ≡ acts (take count old)
same-acts old count was here none =
    ap acts (take-next old count was here)
    ∙ acts-append (take count old) (was ∷ [])
    ∙ ap (λ es. acts (take count old) ++ es) none
    ∙ append-nil (acts (take count old))

many-last : (ran : List Event) (origins : List (Option ℕ)) (ran' : List Event) (origins' : List (Option ℕ)) (event : Event) (origin : Option ℕ)
    → ran' ≡ ran ++ event ∷ [] → origins' ≡ origins ++ origin ∷ [] → length origins ≡ length ran → length origins' ≡ length ran'
many-last ran origins ran' origins' event origin is are many =
    ap length are ∙ length-append origins (origin ∷ []) ∙ ap (λ n. n + 1) many ∙ sym (length-append ran (event ∷ [])) ∙ sym (ap length is)

spared-last : (bends : List Bend) (event : Event) {origin : Option ℕ} (c d : Course) → IsWith event origin c d → IsSpared bends c.lanes.olds.items event
    → AllByRecursion (IsSpared bends c.lanes.olds.items) c.ran → AllByRecursion (IsSpared bends d.lanes.olds.items) d.ran
spared-last bends event c d w spared all =
    subst (λ es. AllByRecursion (IsSpared bends d.lanes.olds.items) es) (sym w.ran)
    (subst (λ ms. AllByRecursion (IsSpared bends ms) (c.ran ++ event ∷ [])) (sym w.sent)
    (all_last (IsSpared bends c.lanes.olds.items) c.ran event all spared))

kept-same : (ran ran' : List Event) (origins origins' : List (Option ℕ)) → ran' ≡ ran → origins' ≡ origins
    → acts (kept ran' origins') ≡ acts (kept ran origins)
kept-same ran ran' origins origins' is are = ap (λ es. acts (kept es origins')) is ∙ ap (λ os. acts (kept ran os)) are

-- an event that is not of the old run
pub beside-with : (head : Head) (old : List Event) (bends : List Bend) (count : ℕ) (event : Event) (c d : Course) → IsTellable head event
    → IsSpared bends c.lanes.olds.items event → IsWith event None c d → IsCourse head old bends count c → IsCourse head old bends count d
beside-with head old bends count event c d told spared w is = record {
  told = subst (AllByRecursion (IsTellable head)) (sym w.ran) (all_last (IsTellable head) c.ran event is.told told);
  many = many-last c.ran c.origins.items d.ran d.origins.items event None w.ran w.origins is.many;
  keeps = record {
    reached = is.keeps.reached;
    few = is.keeps.few;
    acts = ap (λ es. acts (kept es d.origins.items)) w.ran ∙ ap (λ os. acts (kept (c.ran ++ event ∷ []) os)) w.origins
        ∙ ap acts (kept-beside c.ran c.origins.items event is.many) ∙ is.keeps.acts;
    whole = told-same is.keeps.reached (c.origins.items ++ None ∷ []) d.origins.items c.left.items d.left.items w.origins w.leaves
        (told-beside c.origins.items None c.left.items is.keeps.reached is.keeps.whole);
    all = λ going. is.keeps.all (sym w.over ∙ going);
  };
  spared = spared-last bends event c d w spared is.spared;
  leaves = subst (AllByRecursion (IsLeftOut old)) (sym w.leaves) is.leaves;
}

-- the event of the old run that is next
pub along-with : (head : Head) (old : List Event) (bends : List Bend) (count : ℕ) (was event : Event) (c d : Course) → IsTellable head event
    → IsSpared bends c.lanes.olds.items event → c.is_over ≡ false → slice_get old count ≡ Some was → StandsFor was event
    → IsWith event (Some count) c d → IsCourse head old bends count c → IsCourse head old bends (count + 1) d
along-with head old bends count was event c d told spared going here stands w is = record {
  told = subst (AllByRecursion (IsTellable head)) (sym w.ran) (all_last (IsTellable head) c.ran event is.told told);
  many = many-last c.ran c.origins.items d.ran d.origins.items event (Some count) w.ran w.origins is.many;
  keeps = record {
    reached = count + 1;
    few = omega arith;
    acts = ap (λ es. acts (kept es d.origins.items)) w.ran ∙ ap (λ os. acts (kept (c.ran ++ event ∷ []) os)) w.origins
        ∙ more-acts old c.ran c.origins.items count was event here stands is.many
        (subst (λ n. KeepsActs old n c.ran c.origins.items) (is.keeps.all going) is.keeps.acts);
    whole = told-same (count + 1) (c.origins.items ++ Some count ∷ []) d.origins.items c.left.items d.left.items w.origins w.leaves
        (told-along c.origins.items c.left.items count (subst (λ n. TellsAll n c.origins.items c.left.items) (is.keeps.all going) is.keeps.whole));
    all = λ on. refl;
  };
  spared = spared-last bends event c d w spared is.spared;
  leaves = subst (AllByRecursion (IsLeftOut old)) (sym w.leaves) is.leaves;
}

out-keeps : (old : List Event) (out : LeftOut) (c d : Course) → IsLeftOut old out → IsWithout out c d → (over : Bool) → c.is_over ≡ over
    → Keeps old out.event c.is_over c → Keeps old (out.event + 1) d.is_over d
out-keeps old out c d left w true is k = record {
  reached = k.reached;
  few = let few : k.reached ≤ out.event = k.few in omega arith;
  acts = kept-same c.ran d.ran c.origins.items d.origins.items w.ran w.origins ∙ k.acts;
  whole = told-same k.reached c.origins.items d.origins.items (c.left.items ++ out ∷ []) d.left.items w.origins w.leaves
      (told-left c.origins.items c.left.items out k.reached k.whole);
  all = λ going. let over : d.is_over ≡ true = w.over ∙ is in absurd (cc);
}
out-keeps old out c d left w false is k = record {
  reached = out.event + 1;
  few = omega arith;
  acts = kept-same c.ran d.ran c.origins.items d.origins.items w.ran w.origins
      ∙ subst (λ n. KeepsActs old n c.ran c.origins.items) (k.all is) k.acts
      ∙ sym (same-acts old out.event (Event.Deliver out.packet) left refl);
  whole = told-same (out.event + 1) c.origins.items d.origins.items (c.left.items ++ out ∷ []) d.left.items w.origins w.leaves
      (told-out c.origins.items c.left.items out (subst (λ n. TellsAll n c.origins.items c.left.items) (k.all is) k.whole));
  all = λ going. refl;
}

-- the delivery that is next in the old run is left out
pub out-on : (head : Head) (old : List Event) (bends : List Bend) (out : LeftOut) (c d : Course) → IsLeftOut old out → IsWithout out c d
    → IsCourse head old bends out.event c → IsCourse head old bends (out.event + 1) d
out-on head old bends out c d left w is = record {
  told = subst (AllByRecursion (IsTellable head)) (sym w.ran) is.told;
  many = ap length w.origins ∙ is.many ∙ sym (ap length w.ran);
  keeps = out-keeps old out c d left w c.is_over refl is.keeps;
  spared = subst (λ es. AllByRecursion (IsSpared bends d.lanes.olds.items) es) (sym w.ran)
      (subst (λ ms. AllByRecursion (IsSpared bends ms) c.ran) (sym w.sent) is.spared);
  leaves = subst (AllByRecursion (IsLeftOut old)) (sym w.leaves) (all_last (IsLeftOut old) c.left.items out is.leaves left);
}

-- packets are sent
pub sent-on : (head : Head) (old : List Event) (bends : List Bend) (count : ℕ) (c d : Course) → IsSameButSent c d → IsCourse head old bends count c
    → IsCourse head old bends count d
sent-on head old bends count c d same is = record {
  told = subst (AllByRecursion (IsTellable head)) (sym same.ran) is.told;
  many = ap length same.origins ∙ is.many ∙ sym (ap length same.ran);
  keeps = record {
    reached = is.keeps.reached;
    few = is.keeps.few;
    acts = kept-same c.ran d.ran c.origins.items d.origins.items same.ran same.origins ∙ is.keeps.acts;
    whole = told-same is.keeps.reached c.origins.items d.origins.items c.left.items d.left.items same.origins same.leaves is.keeps.whole;
    all = λ going. is.keeps.all (sym same.over ∙ going);
  };
  spared = subst (λ es. AllByRecursion (IsSpared bends d.lanes.olds.items) es) (sym same.ran)
      (subst (λ ms. AllByRecursion (IsSpared bends ms) c.ran) (sym same.sent)
      (all-more (IsSpared bends c.lanes.olds.items) (IsSpared bends (c.lanes.olds.items ++ same.more)) c.ran
      (λ e. spared-more bends c.lanes.olds.items same.more e) is.spared));
  leaves = subst (AllByRecursion (IsLeftOut old)) (sym same.leaves) is.leaves;
}
