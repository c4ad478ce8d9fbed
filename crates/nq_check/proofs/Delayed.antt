-- Delayed writes that are stored or told before an answer still are before a later one.
use Rattle.std.proofs.Common.{◌≡◌, ◌<◌, ◌≤◌, ℕ, ◌-◌, List, [], ◌∷◌, length, take, reverse, Option, Some, None, Bool, true, false, not, ◌&&◌, ◌||◌}
use Rattle.std.proofs.Common.{◌==◌, inl, inr, refl, sym, ◌∙◌, ap, subst, arith}
use Rattle.std.specs.Prelude.{nat_eq, if◌then◌else◌}
use Rattle.std.specs.List.{slice_get}
use Rattle.std.proofs.lemmas.Bool.{and_parts, and_from, cases_Bool, eqb-true}
use Rattle.nq_base.specs.declared.Entry.{Entry}
use Rattle.nq_base.specs.declared.Entry.TheVariants.{W, L, Z, A}
use Rattle.nq_base.specs.declared.Said.TheVariants.{Ok}
use Rattle.nq_base.specs.declared.Told.{Told}
use Rattle.nq_base.specs.declared.Told.TheVariants.{Sync, Resize, Remove}
use Rattle.nq_base.specs.declared.Who.{Who}
use Rattle.nq_rules.specs.Kept.{is_kept, is_kept_at}
use Rattle.nq_check.specs.Links.{IsFree, is_link}
use Rattle.nq_rules.specs.Marks.{Spot, spot}
use Rattle.nq_check.specs.Settling.{call_of_ok, is_sizing_of, is_sync_of}
use Rattle.nq_rules.specs.declared.keys.KeyKind.TheVariants.{Delays}
use Rattle.nq_check.proofs.Climbs.{climb}
use Rattle.nq_check.proofs.Followed.{taken_last}
use Rattle.nq_check.proofs.OwnWrite.{or_here, or_there, somewhere_before}
use Rattle.nq_model.specs.laws.Journal.{call_of}
use Rattle.nq_model.specs.laws.JournalTest.{each, exists, is_stored, loss_covers, somewhere, store_covers}
use Rattle.nq_model.specs.laws.OrderedTest.{is_resize_by}
use Rattle.nq_model.specs.laws.Reported.{loss_told}
use Rattle.nq_model.specs.laws.ReportedTest.{names}
use Rattle.nq_model.specs.laws.SynchronizedTest.{are_stored_or_told, is_delayed_on, is_named_loss, is_settled_resize, is_stored_or_told}
use Rattle.nq_model.specs.protocol.Table.{same_who}
use Rattle.nq_model.proofs.JournalTests.{tells_who}

-- whether an entry is no delayed write of an incarnation on a file, or is stored or told
abbrev pub settles : (whole stores answered : List Entry) (who : Who) (file : ℕ) → Entry → Bool
settles whole stores answered who file write = not (is_delayed_on who file write) || is_stored_or_told whole stores answered write

-- ---- more entries

or_more : (a b c d : Bool) → (a ≡ true → c ≡ true) → (b ≡ true → d ≡ true) → (a || b) ≡ true → (c || d) ≡ true
or_more true b c d f g h = or_here c d (f refl)
or_more false b c d f g h = or_there c d (g h)

and_more : (a b c : Bool) → (b ≡ true → c ≡ true) → (a && b) ≡ true → (a && c) ≡ true
and_more true b c f h = f h
and_more false b c f h = h

pub exists_more : {X : Type 0} (s t : X → Bool) → ((x : X) → s x ≡ true → t x ≡ true) → (xs : List X) → exists s xs ≡ true → exists t xs ≡ true
exists_more s t f [] h = h
exists_more s t f (x ∷ xs) h = or_more (s x) (exists s xs) (t x) (exists t xs) (f x) (exists_more s t f xs) h

each_more : {X : Type 0} (s t : X → Bool) → ((x : X) → s x ≡ true → t x ≡ true) → (xs : List X) → each s xs ≡ true → each t xs ≡ true
each_more s t f [] h = h
each_more s t f (x ∷ xs) h =
    let p = and_parts (s x) (each s xs) h in and_from (t x) (each t xs) (f x p.0) (each_more s t f xs p.1)

named_more : (whole old new : List Entry) (write : Entry) → ((test : Entry → Bool) → exists test old ≡ true → exists test new ≡ true) → (entry : Entry)
    → is_named_loss whole old write entry ≡ true → is_named_loss whole new write entry ≡ true
named_more whole old new write f (L who file block first last) h =
    and_more (loss_covers (L who file block first last) write) (exists (names whole who (loss_told file block first last)) old)
    (exists (names whole who (loss_told file block first last)) new)
    (f (names whole who (loss_told file block first last))) h
named_more whole old new write f other h = absurd (cc)

settles_more : (whole stores more old new : List Entry) (who : Who) (file : ℕ)
    → ((test : Entry → Bool) → exists test stores ≡ true → exists test more ≡ true)
    → ((test : Entry → Bool) → exists test old ≡ true → exists test new ≡ true) → (write : Entry) → settles whole stores old who file write ≡ true
    → settles whole more new who file write ≡ true
settles_more whole stores more old new who file f g write h =
    or_more (not (is_delayed_on who file write)) (is_stored_or_told whole stores old write) (not (is_delayed_on who file write))
    (is_stored_or_told whole more new write)
    (λ e. e)
    (or_more (is_stored stores write) (exists (is_named_loss whole old write) whole) (is_stored more write) (exists (is_named_loss whole new write) whole)
    (f (λ entry. store_covers entry write))
    (exists_more (is_named_loss whole old write) (is_named_loss whole new write) (named_more whole old new write g) whole))
    h

pub exists_later : (whole : List Entry) (from to : ℕ) → from ≤ to → to ≤ length whole → (test : Entry → Bool)
    → exists test (reverse (take from whole)) ≡ true → exists test (reverse (take to whole)) ≡ true
exists_later whole from to below within test h =
    climb (λ l. exists test l ≡ true) whole from to below within h (λ place entry before a b e y. or_there (test entry) (exists test before) y)

each_less : (test : Entry → Bool) (whole : List Entry) (from to : ℕ) → from ≤ to → to ≤ length whole → each test (reverse (take to whole)) ≡ true
    → each test (reverse (take from whole)) ≡ true
each_less test whole from to below within =
    climb (λ l. each test l ≡ true → each test (reverse (take from whole)) ≡ true) whole from to below within
    (λ h. h)
    (λ place entry before a b e f h. f (and_parts (test entry) (each test before) h).1)

each_free : (test : Entry → Bool) (key : Spot) (whole : List Entry) (from to : ℕ)
    → ((entry : Entry) → is_link Delays key entry ≡ false → test entry ≡ true) → from ≤ to → to ≤ length whole → IsFree Delays key whole from to
    → each test (reverse (take from whole)) ≡ true → each test (reverse (take to whole)) ≡ true
each_free test key whole from to f below within free h =
    climb (λ l. each test l ≡ true) whole from to below within h
    (λ place entry before a b e y. and_from (test entry) (each test before) (f entry (free place entry a b e)) y)

-- ---- links to delayed writes

both_ways : (a : Bool) → a ≡ true → a ≡ false → ⊥
both_ways true x y = absurd (cc)
both_ways false x y = absurd (cc)

delayed_linked : (who : Who) (file : ℕ) (entry : Entry) → is_delayed_on who file entry ≡ true → is_link Delays (spot who file 0) entry ≡ true
delayed_linked who file (W by f b n v false) h =
    let p = and_parts (same_who by who) (f == file) h in
    and_from (same_who by who) (nat_eq f file && nat_eq 0 0) p.0 (and_from (nat_eq f file) (nat_eq 0 0) p.1 refl)
delayed_linked who file other h = absurd (cc)

unlinked_settles : (whole stores answered : List Entry) (who : Who) (file : ℕ) (key : Spot) → key ≡ spot who file 0 → (entry : Entry)
    → is_link Delays key entry ≡ false → settles whole stores answered who file entry ≡ true
unlinked_settles whole stores answered who file key e entry h =
    elim (cases_Bool (is_delayed_on who file entry)) [
      | inl y ↦ absurd (both_ways (is_link Delays key entry) (subst (λ k. is_link Delays k entry ≡ true) (sym e) (delayed_linked who file entry y)) h)
      | inr n ↦ or_here (not (is_delayed_on who file entry)) (is_stored_or_told whole stores answered entry) (ap not n)
    ]

-- ---- a walk back over delayed writes

pub walk_begun : (journal stores answered : List Entry) (who : Who) (file : ℕ) (key : Spot) (whole : List Entry) (from to : ℕ) → key ≡ spot who file 0
    → from ≤ to → to ≤ length whole → IsFree Delays key whole from to
    → each (settles journal stores answered who file) (reverse (take from whole)) ≡ true
    → each (settles journal stores answered who file) (reverse (take to whole)) ≡ true
walk_begun journal stores answered who file key whole from to e below within free =
    each_free (settles journal stores answered who file) key whole from to (unlinked_settles journal stores answered who file key e) below within free

pub walked_past : (journal stores answered : List Entry) (who : Who) (file : ℕ) (key : Spot) (whole : List Entry) (next at : ℕ) (write : Entry)
    → key ≡ spot who file 0 → 0 < at → at ≤ length whole → next ≤ at - 1 → slice_get whole (at - 1) ≡ Some write
    → is_stored_or_told journal stores answered write ≡ true → IsFree Delays key whole next (at - 1)
    → each (settles journal stores answered who file) (reverse (take next whole)) ≡ true
    → each (settles journal stores answered who file) (reverse (take at whole)) ≡ true
walked_past journal stores answered who file key whole next at write e up within low there kept free h =
    subst (λ l. each (settles journal stores answered who file) l ≡ true) (sym (taken_last whole at write up there))
    (and_from (settles journal stores answered who file write) (each (settles journal stores answered who file) (reverse (take (at - 1) whole)))
    (or_there (not (is_delayed_on who file write)) (is_stored_or_told journal stores answered write) kept)
    (walk_begun journal stores answered who file key whole next (at - 1) e low (omega arith) free h))

pub walk_ended : (journal stores : List Entry) (who : Who) (file : ℕ) (whole : List Entry) (at known place : ℕ) → at ≤ known → known ≤ place
    → place ≤ length whole → are_stored_or_told journal stores (reverse (take known whole)) who file ≡ true
    → each (settles journal stores (reverse (take place whole)) who file) (reverse (take at whole)) ≡ true
walk_ended journal stores who file whole at known place low below within h =
    each_less (settles journal stores (reverse (take place whole)) who file) whole at known low (omega arith)
    (each_more (settles journal stores (reverse (take known whole)) who file) (settles journal stores (reverse (take place whole)) who file)
    (settles_more journal stores stores (reverse (take known whole)) (reverse (take place whole)) who file (λ t y. y)
    (exists_later whole known place below within))
    (reverse (take known whole)) h)

-- ---- earlier answers

told_ok : (test : Option Told → Bool) (b : Bool) (call : Option Told) → test None ≡ false → test (if b then call else None) ≡ true
    → (b ≡ true) × (test call ≡ true)
told_ok test true call none h = (refl, h)
told_ok test false call none h = absurd (both_ways (test None) h none)

synced : (whole before : List Entry) (by who : Who) (q file : ℕ) (call : Option Told) → by ≡ who → is_sync_of file call ≡ true
    → is_kept whole before by q call ≡ true → are_stored_or_told whole whole before who file ≡ true
synced whole before by who q file (Some (Sync f)) w s h =
    subst (λ (x : Who). are_stored_or_told whole whole before x file ≡ true) w
    (subst (λ n. are_stored_or_told whole whole before by n ≡ true) (eqb-true f file s) h)
synced whole before by who q file other w s h = absurd (cc)

pub ok_synced : (whole before : List Entry) (who : Who) (file : ℕ) (entry : Entry) → is_sync_of file (call_of_ok whole who entry) ≡ true
    → is_kept_at whole entry before ≡ true → are_stored_or_told whole whole before who file ≡ true
ok_synced whole before who file (A by q Ok) o h =
    let p = told_ok (is_sync_of file) (same_who by who) (call_of whole by q) refl o in
    synced whole before by who q file (call_of whole by q) ((tells_who {a = by} {b = who}).sound p.0) p.1 h
ok_synced whole before who file other o h = absurd (cc)

sized : (whole before : List Entry) (by who : Who) (q file : ℕ) (call : Option Told) → by ≡ who → is_sizing_of file call ≡ true
    → is_kept whole before by q call ≡ true → somewhere (is_settled_resize whole before who q file) before ≡ true
sized whole before by who q file (Some (Resize f blocks)) w s h =
    subst (λ (x : Who). somewhere (is_settled_resize whole before x q file) before ≡ true) w
    (subst (λ n. somewhere (is_settled_resize whole before by q n) before ≡ true) (eqb-true f file s) h)
sized whole before by who q file (Some (Remove f)) w s h =
    subst (λ (x : Who). somewhere (is_settled_resize whole before x q file) before ≡ true) w
    (subst (λ n. somewhere (is_settled_resize whole before by q n) before ≡ true) (eqb-true f file s) h)
sized whole before by who q file other w s h = absurd (cc)

settled_one : (whole answered before stores : List Entry) (who : Who) (q file : ℕ) (entry : Entry)
    → ((test : Entry → Bool) → exists test before ≡ true → exists test stores ≡ true) → is_settled_resize whole answered who q file entry before ≡ true
    → are_stored_or_told whole stores answered who file ≡ true
settled_one whole answered before stores who q file (Z by n f from to) g h =
    each_more (settles whole before answered who file) (settles whole stores answered who file)
    (settles_more whole before stores answered answered who file g (λ t y. y)) answered
    (and_parts (same_who by who && (n == q)) (are_stored_or_told whole before answered who file) h).1
settled_one whole answered before stores who q file other g h = absurd (cc)

settled_in : (whole answered stores : List Entry) (who : Who) (q file : ℕ) (entries : List Entry)
    → ((test : Entry → Bool) → exists test entries ≡ true → exists test stores ≡ true)
    → somewhere (is_settled_resize whole answered who q file) entries ≡ true → are_stored_or_told whole stores answered who file ≡ true
settled_in whole answered stores who q file [] g h = absurd (cc)
settled_in whole answered stores who q file (entry ∷ before) g h =
    let later : (test : Entry → Bool) → exists test before ≡ true → exists test stores ≡ true = λ t y. g t (or_there (t entry) (exists t before) y) in
    elim (cases_Bool (is_settled_resize whole answered who q file entry before)) [
      | inl y ↦ settled_one whole answered before stores who q file entry later y
      | inr n ↦ settled_in whole answered stores who q file before later
          (sym (ap (λ b. b || somewhere (is_settled_resize whole answered who q file) before) n) ∙ h)
    ]

pub ok_sized : (whole before stores : List Entry) (who : Who) (file : ℕ) (entry : Entry) → is_sizing_of file (call_of_ok whole who entry) ≡ true
    → is_kept_at whole entry before ≡ true → ((test : Entry → Bool) → exists test before ≡ true → exists test stores ≡ true)
    → are_stored_or_told whole stores before who file ≡ true
ok_sized whole before stores who file (A by q Ok) o h g =
    let p = told_ok (is_sizing_of file) (same_who by who) (call_of whole by q) refl o in
    settled_in whole before stores who q file before g
    (sized whole before by who q file (call_of whole by q) ((tells_who {a = by} {b = who}).sound p.0) p.1 h)
ok_sized whole before stores who file other o h g = absurd (cc)

-- ---- the Z of a call

own_resize : (whole answered before : List Entry) (who : Who) (q file : ℕ) (entry : Entry) → is_resize_by who q entry ≡ true
    → are_stored_or_told whole before answered who file ≡ true → is_settled_resize whole answered who q file entry before ≡ true
own_resize whole answered before who q file (Z by n f from to) r h =
    and_from (same_who by who && (n == q)) (are_stored_or_told whole before answered who file) r h
own_resize whole answered before who q file other r h = absurd (cc)

pub resize_kept : (whole : List Entry) (z k : ℕ) (who : Who) (q file : ℕ) (entry : Entry) → z < k → k ≤ length whole → slice_get whole z ≡ Some entry
    → is_resize_by who q entry ≡ true → are_stored_or_told (reverse whole) (reverse (take z whole)) (reverse (take k whole)) who file ≡ true
    → somewhere (is_settled_resize (reverse whole) (reverse (take k whole)) who q file) (reverse (take k whole)) ≡ true
resize_kept whole z k who q file entry below within there r h =
    somewhere_before (is_settled_resize (reverse whole) (reverse (take k whole)) who q file) whole z k entry below within there
    (own_resize (reverse whole) (reverse (take k whole)) (reverse (take z whole)) who q file entry r h)
