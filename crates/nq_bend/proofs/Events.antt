-- Lists of events with one more at their end.
use Rattle.std.proofs.Common.{◌≡◌, ℕ, ◌+◌, ◌<◌, List, [], ◌∷◌, ◌++◌, length, take, zero, suc, slice_get, Option, Some, None, refl, sym, ap, ◌∙◌}
use Rattle.std.proofs.Common.{arith}
use Rattle.std.proofs.lemmas.List.{take_more}
use Rattle.std.proofs.lemmas.Option.{get_or_from_slice_get, slice_get_within}
use Rattle.std.specs.List.{AllByRecursion}
use Rattle.nq_base.specs.declared.Event.{Event}
use Rattle.nq_bend.specs.Bending.{IsSpared, acts, kept}
use Rattle.nq_bend.specs.Course.{StandsFor}
use Rattle.nq_bend.specs.declared.bends.Bend.{Bend}

pub all_last : {X : Type 0} (P : X → Type 0) (xs : List X) (x : X) → AllByRecursion P xs → P x → AllByRecursion P (xs ++ x ∷ [])
all_last P [] x all is = (is, tt)
all_last P (y ∷ xs) x all is = (all.0, all_last P xs x all.1 is)

pub all-more : {X : Type 0} (P Q : X → Type 0) (xs : List X) → ((x : X) → P x → Q x) → AllByRecursion P xs → AllByRecursion Q xs
all-more P Q [] on all = tt
all-more P Q (x ∷ xs) on all = (on x all.0, all-more P Q xs on all.1)

pub take-next : (events : List Event) (place : ℕ) (event : Event) → slice_get events place ≡ Some event
    → take (place + 1) events ≡ take place events ++ event ∷ []
take-next events place event here =
    take_more events place event (slice_get_within events place event here) ∙ ap (λ g. take place events ++ g ∷ []) (get_or_from_slice_get events
    place event event here)

-- ---- acts

pub acts-append : (xs ys : List Event) → acts (xs ++ ys) ≡ acts xs ++ acts ys
acts-append [] ys = refl
acts-append (Event.Deliver packet ∷ xs) ys = acts-append xs ys
acts-append (Event.Call host call ∷ xs) ys = ap (λ es. Event.Call host call ∷ es) (acts-append xs ys)
acts-append (Event.ServerTick ∷ xs) ys = ap (λ es. Event.ServerTick ∷ es) (acts-append xs ys)
acts-append (Event.ClientTick host ∷ xs) ys = ap (λ es. Event.ClientTick host ∷ es) (acts-append xs ys)
acts-append (Event.Restart host ∷ xs) ys = ap (λ es. Event.Restart host ∷ es) (acts-append xs ys)
acts-append (Event.Crash longest ∷ xs) ys = ap (λ es. Event.Crash longest ∷ es) (acts-append xs ys)

-- an event stands for another: both are the same act, or none
pub acts-stand : (was event : Event) → StandsFor was event → acts (was ∷ []) ≡ acts (event ∷ [])
acts-stand (Event.Deliver packet) (Event.Deliver other) stands = refl
acts-stand (Event.Deliver packet) (Event.Call host call) stands = absurd (cc)
acts-stand (Event.Deliver packet) Event.ServerTick stands = absurd (cc)
acts-stand (Event.Deliver packet) (Event.ClientTick host) stands = absurd (cc)
acts-stand (Event.Deliver packet) (Event.Restart host) stands = absurd (cc)
acts-stand (Event.Deliver packet) (Event.Crash longest) stands = absurd (cc)
acts-stand (Event.Call host call) event stands = ap (λ e. acts (e ∷ [])) stands
acts-stand Event.ServerTick event stands = ap (λ e. acts (e ∷ [])) stands
acts-stand (Event.ClientTick host) event stands = ap (λ e. acts (e ∷ [])) stands
acts-stand (Event.Restart host) event stands = ap (λ e. acts (e ∷ [])) stands
acts-stand (Event.Crash longest) event stands = ap (λ e. acts (e ∷ [])) stands

-- ---- the events of the old run among those of the new

pub kept-beside : (ran : List Event) (origins : List (Option ℕ)) (event : Event) → length origins ≡ length ran
    → kept (ran ++ event ∷ []) (origins ++ None ∷ []) ≡ kept ran origins
kept-beside [] [] event many = refl
kept-beside [] (o ∷ origins) event many = absurd (omega arith)
kept-beside (e ∷ ran) [] event many = absurd (omega arith)
kept-beside (e ∷ ran) (None ∷ origins) event many = kept-beside ran origins event (omega arith)
kept-beside (e ∷ ran) (Some place ∷ origins) event many = ap (λ es. e ∷ es) (kept-beside ran origins event (omega arith))

pub kept-along : (ran : List Event) (origins : List (Option ℕ)) (event : Event) (place : ℕ) → length origins ≡ length ran
    → kept (ran ++ event ∷ []) (origins ++ Some place ∷ []) ≡ kept ran origins ++ event ∷ []
kept-along [] [] event place many = refl
kept-along [] (o ∷ origins) event place many = absurd (omega arith)
kept-along (e ∷ ran) [] event place many = absurd (omega arith)
kept-along (e ∷ ran) (None ∷ origins) event place many = kept-along ran origins event place (omega arith)
kept-along (e ∷ ran) (Some p ∷ origins) event place many = ap (λ es. e ∷ es) (kept-along ran origins event place (omega arith))

-- ---- packets that are sent later

pub get-before : {X : Type 0} (xs more : List X) (place : ℕ) → place < length xs → slice_get (xs ++ more) place ≡ slice_get xs place
get-before [] more place less = absurd (omega arith)
get-before (x ∷ xs) more zero less = refl
get-before (x ∷ xs) more (suc place) less = get-before xs more place (omega arith)

length-more : {X : Type 0} (xs more : List X) (place : ℕ) → place < length xs → place < length (xs ++ more)
length-more [] more place less = absurd (omega arith)
length-more (x ∷ xs) more zero less = omega arith
length-more (x ∷ xs) more (suc place) less = let on : place < length (xs ++ more) = length-more xs more place (omega arith) in omega arith

pub spared-more : (bends : List Bend) (matches more : List (Option ℕ)) (event : Event) → IsSpared bends matches event → IsSpared bends (matches ++ more) event
spared-more bends matches more (Event.Deliver packet) spared =
    (length-more matches more packet spared.0, λ old is lost. spared.1 old (sym (get-before matches more packet spared.0) ∙ is) lost)
spared-more bends matches more (Event.Call host call) spared = tt
spared-more bends matches more Event.ServerTick spared = tt
spared-more bends matches more (Event.ClientTick host) spared = tt
spared-more bends matches more (Event.Restart host) spared = tt
spared-more bends matches more (Event.Crash longest) spared = tt
