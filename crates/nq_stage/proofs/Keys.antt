-- Bodies are kept by their writes: what the map puts in front is what is kept.
use Rattle.std.proofs.Common.{◌≡◌, ◌≤◌, ◌<◌, ℕ, ◌+◌, ◌-◌, ◌==◌, Bool, true, false, not, ◌&&◌, cond, List, [], ◌∷◌, length, take, Option, Some, None}
use Rattle.std.proofs.Common.{zero, suc, refl, sym, ap, ◌∙◌, arith, add-one}
use Rattle.std.specs.List.{IsDistinct}
use Rattle.std.specs.Map.{keys_of, lookup_entry, remove_entry}
use Rattle.std.specs.Option.{option_map_or, option_to_list}
use Rattle.std.proofs.lemmas.Bool.Decides.{nat_tests}
use Rattle.std.proofs.lemmas.List.{take_all}
use Rattle.std.proofs.lemmas.Map.{NonePasses}
use Rattle.std.proofs.lemmas.Map.Entries.{none_past_head}
use Rattle.std.proofs.lemmas.Map.Keys.{IsDistinct-tail}
use Rattle.lru.specs.LruCache.{LruCache, put_entries}
use Rattle.lru.proofs.CallerLemmas.{Contains-lookup_entry}
use Rattle.nq_stage.specs.declared.messages.Written.{Written}
use Rattle.nq_stage.specs.Writes.{is_same}
use Rattle.nq_stage.proofs.Writes.{IsTest, is_equivalence, same_write}
use Rattle.nq_stage.specs.Bodies.{others, most_bodies, with_body, with_body_of}

-- 1024 may be kept
pub with_body-is : (w : Written) (body : List ℕ) (es : List (Written × List ℕ)) → with_body w body es ≡ with_body_of most_bodies w body es
unfolding with_body
with_body-is w body es = refl

length-minus : (n : ℕ) → suc n - 1 ≡ n
length-minus n = omega arith

take-first : {A : Type 0} (n : ℕ) (x : A) (xs : List A) → 0 < n → take n (x ∷ xs) ≡ x ∷ take (n - 1) xs
take-first zero x xs h = absurd (omega arith)
take-first (suc n) x xs h = rw (length-minus n) refl

module _ (eq : Written → Written → Bool) (test : IsTest eq) where
  module _ (w : Written) where
    kept-step : (b : Bool) (e : Written × List ℕ) (es rest : List (Written × List ℕ)) → b ≡ false → rest ≡ es → cond (not b) (e ∷ rest) rest ≡ e ∷ es
    kept-step true e es rest off h = absurd cc
    kept-step false e es rest off h = ap (λ xs. e ∷ xs) h

    -- where none is of the write all are of others
    all-others : (es : List (Written × List ℕ)) → NonePasses (eq w) es → others w es ≡ es
    all-others [] none = refl
    all-others (e ∷ es) none = kept-step (is_same w e.0) e es (others w es) (sym (test w e.0) ∙ none.0) (all-others es none.1)

    others-step : (b : Bool) (e : Written × List ℕ) (es rest left : List (Written × List ℕ)) → (b ≡ true → left ≡ es) → left ≡ rest
        → cond (not b) (e ∷ left) left ≡ cond b es (e ∷ rest)
    others-step true e es rest left here h = here refl
    others-step false e es rest left here h = ap (λ xs. e ∷ xs) h

    -- without the first of the write there is none of it
    others-entries : (es : List (Written × List ℕ)) → IsDistinct eq (keys_of es) → others w es ≡ remove_entry (eq w) es
    others-entries [] d = refl
    others-entries (e ∷ es) d =
        rw (test w e.0)
        (others-step
        (is_same w e.0)
        e
        es
        (remove_entry (eq w) es)
        (others w es)
        (λ h. all-others es (none_past_head (is_equivalence eq test) w e es d (test w e.0 ∙ h)))
        (others-entries es (IsDistinct-tail eq e.0 (keys_of es) d)))

    none-passes : (es : List (Written × List ℕ)) → lookup_entry (eq w) es ≡ None → NonePasses (eq w) es
    none-passes [] h = tt
    none-passes (e ∷ es) h = (elim (eq w e.0) as (λ b. eq w e.0 ≡ b → NonePasses (eq w) (e ∷ es)) [
      | true ↦ λ on. let h' = rw on at h in absurd (cc)
      | false ↦ λ on. (on, none-passes es (rw on at h))
    ]) refl

    counted-step : (b : Bool) (e : Written × List ℕ) (o : Option (Written × List ℕ)) (es rest : List (Written × List ℕ)) → length rest
        + length (option_to_list o) ≡ length es → length (cond b es (e ∷ rest)) + length (option_to_list (cond b (Some e) o)) ≡ length es + 1
    counted-step true e o es rest h = refl
    counted-step false e o es rest h = omega arith

    counted : (es : List (Written × List ℕ)) → length (remove_entry (eq w) es) + length (option_to_list (lookup_entry (eq w) es)) ≡ length es
    counted [] = refl
    counted (e ∷ es) = counted-step (eq w e.0) e (lookup_entry (eq w) es) es (remove_entry (eq w) es) (counted es) ∙ add-one (length es)

    fits : (es : List (Written × List ℕ)) (e : Written × List ℕ) (most : ℕ) → lookup_entry (eq w) es ≡ Some e → length es ≤ most
        → length (remove_entry (eq w) es) + 1 ≤ most
    fits es e most h few =
        let n = counted es in
        let m : length (remove_entry (eq w) es) + 1 ≡ length es = rw h at n in
        omega arith

    put-step : (c : LruCache Written (List ℕ)) (body : List ℕ) (most : ℕ) (o : Option (Written × List ℕ)) → lookup_entry (eq w) c.entries ≡ o
        → c.cap ≡ most → 0 < most → IsDistinct eq (keys_of c.entries) → length c.entries ≤ most
        → option_map_or (λ e. (e.0, body) ∷ remove_entry (eq w) c.entries) o ((w, body) ∷ take (c.cap - 1) c.entries) ≡ with_body_of most w body c.entries
    put-step c body most None h room some d few =
        let rest : others w c.entries ≡ c.entries = all-others c.entries (none-passes c.entries h) in
        rw (room, rest) (sym (take-first most (w, body) c.entries some))
    put-step c body most (Some e) h room some d few =
        let here : w ≡ e.0 = same_write w e.0 (sym (test w e.0) ∙ (Contains-lookup_entry (eq w) c.entries e h).1) in
        let rest : others w c.entries ≡ remove_entry (eq w) c.entries = others-entries c.entries d in
        let less = fits c.entries e most h few in
        let all : take most ((w, body) ∷ remove_entry (eq w) c.entries) ≡ (w, body) ∷ remove_entry (eq w) c.entries =
        take_all most ((w, body) ∷ remove_entry (eq w) c.entries) (omega (arith, less, add-one (length (remove_entry (eq w) c.entries)))) in
        ap (λ v. (v, body) ∷ remove_entry (eq w) c.entries) (sym here) ∙ sym all ∙ ap (λ es. take most ((w, body) ∷ es)) (sym rest)

    -- a body that is put is in front, and what the map loses is what is not kept
    pub put-bodies : (c : LruCache Written (List ℕ)) (body : List ℕ) (most : ℕ) → c.cap ≡ most → 0 < most → IsDistinct eq (keys_of c.entries)
        → length c.entries ≤ most → put_entries eq c w body ≡ with_body_of most w body c.entries
    put-bodies c body most room some d few = put-step c body most (lookup_entry (eq w) c.entries) refl room some d few

right-nested : (a b c d e f g h i j : ℕ) → (a == b && (c == d && (e == f && (g == h && i == j)))) ≡ (a == b && c == d && e == f && g == h && i == j)
right-nested a b c d e f g h i j = grind (arith, nat_tests)

-- the test of keys is that of the writes
pub keys-test : (v w : Written) → (v.host == w.host && (v.inc == w.inc && (v.file == w.file && (v.block == w.block && v.last == w.last)))) ≡ is_same v w
keys-test v w = right-nested v.host w.host v.inc w.inc v.file w.file v.block w.block v.last w.last

-- what the map puts is what is kept, whatever its test is
pub put-kept : {eq : Written → Written → Bool} (w : Written) (c : LruCache Written (List ℕ)) (body : List ℕ) (most : ℕ)
    → IsDistinct eq (keys_of c.entries) → IsTest eq → c.cap ≡ most → 0 < most → length c.entries ≤ most → put_entries eq c w body ≡ with_body_of most
    w body c.entries
put-kept {eq} w c body most d test room some few = put-bodies eq test w c body most room some d few
