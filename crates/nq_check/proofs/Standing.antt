-- The value that stands for a read, by the last write that does and the last cut.
use Rattle.std.proofs.Common.{◌≡◌, ◌<◌, ◌≤◌, ℕ, zero, suc, ◌+◌, ◌-◌, List, [], ◌∷◌, length, take, drop, reverse, Some, Bool, true, false, ◌&&◌, ◌||◌}
use Rattle.std.proofs.Common.{inl, inr, refl, sym, ◌∙◌, ap, subst, arith}
use Rattle.std.specs.Prelude.{if◌then◌else◌, nat_eq}
use Rattle.std.specs.List.{slice_get}
use Rattle.std.proofs.lemmas.Bool.{and_parts, cases_Bool, cases_lt}
use Rattle.std.proofs.lemmas.Option.{slice_get_cases}
use Rattle.nq_base.specs.declared.Entry.{Entry}
use Rattle.nq_base.specs.declared.Entry.TheVariants.{W}
use Rattle.nq_base.specs.declared.Who.{Who}
use Rattle.nq_rules.specs.declared.keys.KeyKind.{KeyKind}
use Rattle.nq_rules.specs.declared.keys.KeyKind.TheVariants.{Writes}
use Rattle.nq_check.specs.Links.{IsFree, is_link}
use Rattle.nq_rules.specs.Keys.{block_spot}
use Rattle.nq_rules.specs.Marks.{Spot}
use Rattle.nq_check.specs.Tables.{HasBetween, NoneBetween}
use Rattle.nq_check.proofs.Climbs.{climb}
use Rattle.nq_check.proofs.Followed.{taken_last}
use Rattle.nq_rules.proofs.Places.{drop_here, taken_here}
use Rattle.nq_model.specs.laws.Journal.{cuts, last_value, since_cut, value_written}
use Rattle.nq_model.specs.laws.JournalTest.{exists}
use Rattle.nq_model.specs.laws.StandsTest.{stands}

some_one : {X : Type 0} (x y : X) → Some x ≡ Some y → x ≡ y
some_one x y e = cc

or_last : (a b : Bool) → b ≡ true → (a || b) ≡ true
or_last true b h = refl
or_last false b h = h

drop_past : {X : Type 0} (xs : List X) (k : ℕ) → length xs ≤ k → drop k xs ≡ []
drop_past [] zero h = refl
drop_past [] (suc k) h = refl
drop_past (x ∷ xs) zero h = absurd (omega arith)
drop_past (x ∷ xs) (suc k) h = drop_past xs k (omega arith)

false_of : (a b : Bool) → (a ≡ true → b ≡ true) → b ≡ false → a ≡ false
false_of true b f h = absurd (let t = f refl in cc)
false_of false b f h = refl

-- where the links of a key lead to none, no entry passes a test of entries of that key
pub none_first : (test : Entry → Bool) (kind : KeyKind) (key : Spot) (whole : List Entry) (from to : ℕ)
    → ((entry : Entry) → test entry ≡ true → is_link kind key entry ≡ true) → IsFree kind key whole from to → NoneBetween test whole from to
none_first test kind key whole from to linked free p y a b h = false_of (test y) (is_link kind key y) (linked y) (free p y a b h)

pub none_more : (test : Entry → Bool) (kind : KeyKind) (key : Spot) (whole : List Entry) (next k to : ℕ) (x : Entry)
    → ((entry : Entry) → test entry ≡ true → is_link kind key entry ≡ true) → 0 < k → slice_get whole (k - 1) ≡ Some x → test x ≡ false
    → IsFree kind key whole next (k - 1) → NoneBetween test whole k to → NoneBetween test whole next to
none_more test kind key whole next k to x linked up there fails free none p y a b h =
    elim (cases_lt p (k - 1)) [
      | inl l ↦ none_first test kind key whole next (k - 1) linked free p y a l h
      | inr r ↦
          elim (cases_lt p k) [
            | inl l ↦
                let same : p ≡ k - 1 = omega arith in
                let at : slice_get whole (k - 1) ≡ Some y = subst (λ i. slice_get whole i ≡ Some y) same h in
                subst (λ z. test z ≡ false) (some_one x y (sym there ∙ at)) fails
            | inr m ↦ none p y m b h
          ]
    ]

-- what passes at a place is what stands there
pub passes_there : (test : Entry → Bool) (whole : List Entry) (k : ℕ) (x y : Entry) → slice_get whole k ≡ Some x → slice_get whole k ≡ Some y
    → test x ≡ true → test y ≡ true
passes_there test whole k x y at there h = subst (λ z. test z ≡ true) (some_one x y (sym at ∙ there)) h

-- a write that stands has the key of its block
stands_linked_at : (whole before : List Entry) (who : Who) (file block : ℕ) (entry : Entry) → stands whole before who file block entry ≡ true
    → is_link Writes (block_spot file block) entry ≡ true
stands_linked_at whole before who file block (W by f b n v through) h =
    (and_parts (nat_eq f file && nat_eq b block) _ h).0
stands_linked_at whole before who file block other h = absurd (cc)

pub stands_linked : (key : Spot) (whole before : List Entry) (who : Who) (file block : ℕ) → key ≡ block_spot file block → (entry : Entry)
    → stands whole before who file block entry ≡ true → is_link Writes key entry ≡ true
stands_linked key whole before who file block e entry h =
    subst (λ k. is_link Writes k entry ≡ true) (sym e) (stands_linked_at whole before who file block entry h)

-- ---- values

value_past : (test : Entry → Bool) (file block : ℕ) (x : Entry) (before : List Entry) → test x ≡ false → cuts x file block ≡ false
    → last_value test (since_cut (x ∷ before) file block) ≡ last_value test (since_cut before file block)
value_past test file block x before t c =
    ap (λ b. last_value test (if b then [] else x ∷ since_cut before file block)) c
    ∙ ap (λ b. if b then value_written x else last_value test (since_cut before file block)) t

value_cut : (test : Entry → Bool) (file block : ℕ) (x : Entry) (before : List Entry) → cuts x file block ≡ true
    → last_value test (since_cut (x ∷ before) file block) ≡ 0
value_cut test file block x before c = ap (λ b. last_value test (if b then [] else x ∷ since_cut before file block)) c

value_hit : (test : Entry → Bool) (file block : ℕ) (x : Entry) (before : List Entry) → test x ≡ true → cuts x file block ≡ false
    → last_value test (since_cut (x ∷ before) file block) ≡ value_written x
value_hit test file block x before t c =
    ap (λ b. last_value test (if b then [] else x ∷ since_cut before file block)) c
    ∙ ap (λ b. if b then value_written x else last_value test (since_cut before file block)) t

-- no entry between two places stands, or cuts
none_value : (test : Entry → Bool) (file block : ℕ) (whole : List Entry) (from to : ℕ) → from ≤ to → to ≤ length whole → NoneBetween test whole from to
    → NoneBetween (λ entry. cuts entry file block) whole from to
    → last_value test (since_cut (reverse (take to whole)) file block) ≡ last_value test (since_cut (reverse (take from whole)) file block)
none_value test file block whole from to a b none uncut =
    climb (λ l. last_value test (since_cut l file block) ≡ last_value test (since_cut (reverse (take from whole)) file block)) whole from to a b refl
    (λ place entry before c d there h. value_past test file block entry before (none place entry c d there) (uncut place entry c d there) ∙ h)

-- none stands since a cut
pub cut_value : (test : Entry → Bool) (file block : ℕ) (whole : List Entry) (from to : ℕ) → to ≤ length whole → NoneBetween test whole from to
    → HasBetween (λ entry. cuts entry file block) whole from to → last_value test (since_cut (reverse (take to whole)) file block) ≡ 0
cut_value test file block whole from to b none cut =
    let low = cut.low in
    let below = cut.below in
    let here : last_value test (since_cut (reverse (take (cut.place + 1) whole)) file block) ≡ 0 =
    ap (λ l. last_value test (since_cut l file block)) (taken_here whole cut.place cut.entry cut.there)
    ∙ value_cut test file block cut.entry (reverse (take cut.place whole)) cut.passes in
    climb (λ l. last_value test (since_cut l file block) ≡ 0) whole (cut.place + 1) to (omega arith) b here
    (λ place entry before c d there h.
    elim (cases_Bool (cuts entry file block)) [
      | inl y ↦ value_cut test file block entry before y
      | inr n ↦ value_past test file block entry before (none place entry (omega arith) d there) n ∙ h
    ])

-- none stands at all
pub zero_value : (test : Entry → Bool) (file block : ℕ) (whole : List Entry) (at to : ℕ) → at ≡ 0 → to ≤ length whole → NoneBetween test whole at to
    → NoneBetween (λ entry. cuts entry file block) whole at to → last_value test (since_cut (reverse (take to whole)) file block) ≡ 0
zero_value test file block whole at to nil b none uncut =
    none_value test file block whole at to (omega arith) b none uncut
    ∙ ap (λ k. last_value test (since_cut (reverse (take k whole)) file block)) nil

uncut_write : (whole before : List Entry) (who : Who) (file block : ℕ) (entry : Entry) → stands whole before who file block entry ≡ true
    → cuts entry file block ≡ false
uncut_write whole before who file block (W by f b n v through) h = refl
uncut_write whole before who file block other h = absurd (cc)

-- the last that stands, and no cut behind it
pub hit_value : (all before : List Entry) (who : Who) (file block : ℕ) (whole : List Entry) (k to : ℕ) (x : Entry) → 0 < k → k ≤ to → to ≤ length whole
    → slice_get whole (k - 1) ≡ Some x → stands all before who file block x ≡ true → NoneBetween (stands all before who file block) whole k to
    → NoneBetween (λ entry. cuts entry file block) whole k to
    → last_value (stands all before who file block) (since_cut (reverse (take to whole)) file block) ≡ value_written x
hit_value all before who file block whole k to x up a b there t none uncut =
    none_value (stands all before who file block) file block whole k to a b none uncut
    ∙ ap (λ l. last_value (stands all before who file block) (since_cut l file block)) (taken_last whole k x up there)
    ∙ value_hit (stands all before who file block) file block x (reverse (take (k - 1) whole)) t (uncut_write all before who file block x t)

-- ---- what stands between the first place and another

some_between : (test : Entry → Bool) (whole : List Entry) (to : ℕ) → to ≤ length whole → HasBetween test whole 0 to
    → exists test (reverse (take to whole)) ≡ true
some_between test whole to b has =
    let below = has.below in
    climb (λ l. exists test l ≡ true) whole (has.place + 1) to (omega arith) b
    (subst (λ l. exists test l ≡ true) (sym (taken_here whole has.place has.entry has.there))
    (ap (λ t. t || exists test (reverse (take has.place whole))) has.passes))
    (λ place entry before c d e h. or_last (test entry) (exists test before) h)

none_between : (test : Entry → Bool) (whole : List Entry) (to : ℕ) → to ≤ length whole → NoneBetween test whole 0 to
    → exists test (reverse (take to whole)) ≡ false
none_between test whole to b none =
    climb (λ l. exists test l ≡ false) whole 0 to (omega arith) b refl
    (λ place entry before c d e h. ap (λ t. t || exists test before) (none place entry c d e) ∙ h)

pub between_is : (test : Entry → Bool) (whole : List Entry) (to : ℕ) (b : Bool) → to ≤ length whole → (b ≡ true → HasBetween test whole 0 to)
    → (b ≡ false → NoneBetween test whole 0 to) → b ≡ exists test (reverse (take to whole))
between_is test whole to true l some none = sym (some_between test whole to l (some refl))
between_is test whole to false l some none = sym (none_between test whole to l (none refl))

-- and from a place on
none_from : (test : Entry → Bool) (n : ℕ) (whole : List Entry) (k : ℕ) → k + n ≡ length whole → NoneBetween test whole k (length whole)
    → exists test (drop k whole) ≡ false
none_from test zero whole k e none = ap (exists test) (drop_past whole k (omega arith))
none_from test (suc n) whole k e none =
    elim (slice_get_cases whole k).1 [
      | inl h ↦
          ap (exists test) (drop_here whole k h.0 h.2) ∙ ap (λ t. t || exists test (drop (k + 1) whole)) (none k h.0 (omega arith) (omega arith) h.2)
          ∙ none_from test n whole (k + 1) (omega arith) (λ place entry a b there. none place entry (omega arith) b there)
      | inr h ↦ absurd (omega arith)
    ]

some_from : (test : Entry → Bool) (n : ℕ) (whole : List Entry) (k : ℕ) → k + n ≡ length whole → HasBetween test whole k (length whole)
    → exists test (drop k whole) ≡ true
some_from test zero whole k e has =
    let low = has.low in
    let below = has.below in
    absurd (omega arith)
some_from test (suc n) whole k e has =
    elim (slice_get_cases whole k).1 [
      | inl h ↦
          ap (exists test) (drop_here whole k h.0 h.2)
          ∙ elim (cases_lt k has.place) [
            | inl l ↦
                or_last (test h.0) (exists test (drop (k + 1) whole))
                (some_from test n whole (k + 1) (omega arith)
                (record { place = has.place; entry = has.entry; low = omega arith; below = has.below; there = has.there; passes = has.passes }))
            | inr most ↦
                let low = has.low in
                let same : has.place ≡ k = omega arith in
                let at : slice_get whole k ≡ Some has.entry = subst (λ i. slice_get whole i ≡ Some has.entry) same has.there in
                ap (λ t. t || exists test (drop (k + 1) whole)) (subst (λ y. test y ≡ true) (some_one has.entry h.0 (sym at ∙ h.2)) has.passes)
          ]
      | inr h ↦ absurd (let low = has.low in let below = has.below in omega arith)
    ]

pub behind_is : (test : Entry → Bool) (whole : List Entry) (k : ℕ) (b : Bool) → k ≤ length whole → (b ≡ true → HasBetween test whole k (length whole))
    → (b ≡ false → NoneBetween test whole k (length whole)) → b ≡ exists test (drop k whole)
behind_is test whole k true l some none = sym (some_from test (length whole - k) whole k (omega arith) (some refl))
behind_is test whole k false l some none = sym (none_from test (length whole - k) whole k (omega arith) (none refl))
