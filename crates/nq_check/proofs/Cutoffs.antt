-- Where leases ended, as links show it.
use Rattle.std.proofs.Common.{◌≡◌, ◌<◌, ◌≤◌, ℕ, ◌+◌, ◌-◌, Bool, true, false, not, ◌&&◌, ◌||◌, List, [], ◌∷◌, length, take, reverse, Option, Some}
use Rattle.std.proofs.Common.{None, inl, inr, refl, sym, ◌∙◌, ap, subst, arith}
use Rattle.std.specs.Prelude.{nat_eq, nat_le, if◌then◌else◌, IfSome}
use Rattle.std.specs.List.{slice_get}
use Rattle.std.proofs.lemmas.Bool.{and_parts, and_from, cases_Bool, le-leb}
use Rattle.std.proofs.lemmas.Option.{slice_get_within}
use Rattle.nq_base.specs.declared.Entry.{Entry}
use Rattle.nq_base.specs.declared.Entry.TheVariants.{W, S, G, F, O, X, L}
use Rattle.nq_base.specs.declared.Who.{Who}
use Rattle.nq_rules.specs.Grants.{given}
use Rattle.nq_check.specs.Leases.{HasEnd, HasEndBetween, IsStorePast}
use Rattle.nq_check.specs.Links.{IsFree, is_link}
use Rattle.nq_rules.specs.Marks.{Spot, same_spot, spot}
use Rattle.nq_check.specs.Rising.{IsNoLater, Rises}
use Rattle.nq_rules.specs.declared.excused.Granted.{Granted}
use Rattle.nq_rules.specs.declared.keys.KeyKind.TheVariants.{Grants, Stores, Own}
use Rattle.nq_check.proofs.Climbs.{climb, link_call}
use Rattle.nq_check.proofs.Followed.{taken_last}
use Rattle.nq_check.proofs.Spots.{same_self}
use Rattle.nq_rules.proofs.Places.{taken_here}
use Rattle.nq_model.specs.laws.CutOff.{Given, last_grant}
use Rattle.nq_model.specs.laws.CutOffTest.{ends, ends_first, has_passed, is_late_end, is_long_wait, is_store_over}
use Rattle.nq_model.specs.laws.JournalTest.{each, exists, is_within, loss_covers}
use Rattle.nq_model.specs.protocol.Profile.{write_slack}
use Rattle.nq_model.specs.protocol.Table.{same_who}
use Rattle.nq_model.proofs.JournalTests.{tells_within}

none_of : (b : Bool) → (b ≡ true → ⊥) → b ≡ false
none_of true f = absurd (f refl)
none_of false f = refl

or_last : (a b : Bool) → b ≡ true → (a || b) ≡ true
or_last true b h = refl
or_last false b h = h

true_false : (b : Bool) → b ≡ true → b ≡ false → ⊥
true_false b t f = let wrong : true ≡ false = sym t ∙ f in cc

-- an entry of a key that links lead to none of is another's
apart : (by who : Who) (n q : ℕ) → same_spot (spot by n 0) (spot who q 0) ≡ false → (same_who by who && nat_eq n q) ≡ false
apart by who n q h = none_of (same_who by who && nat_eq n q) (λ t. true_false (same_spot (spot by n 0) (spot who q 0)) (link_call by who n q t) h)

-- ---- grants

grant_past : (who : Who) (file : ℕ) (entry : Entry) (before : List Entry) → is_link Grants (spot who file 0) entry ≡ false
    → last_grant (entry ∷ before) who file ≡ last_grant before who file
grant_past who file (G by f mode tag term now) before h =
    ap (λ b. if b then Some (record { time = now; term = term }) else last_grant before who file) (apart by who f file h)
grant_past who file other before h = refl

grant_free : (key : Spot) (who : Who) (file : ℕ) (whole : List Entry) (from to : ℕ) → key ≡ spot who file 0 → from ≤ to → to ≤ length whole
    → IsFree Grants key whole from to → last_grant (reverse (take to whole)) who file ≡ last_grant (reverse (take from whole)) who file
grant_free key who file whole from to e a b free =
    climb (λ l. last_grant l who file ≡ last_grant (reverse (take from whole)) who file) whole from to a b refl
    (λ place entry before c d there h. grant_past who file entry before (subst (λ k. is_link Grants k entry ≡ false) e (free place entry c d there)) ∙ h)

grant_first : (who : Who) (file : ℕ) (entry : Entry) (before : List Entry) (g : Given) → Some g ≡ last_grant (entry ∷ []) who file
    → Some g ≡ last_grant (entry ∷ before) who file
grant_first who file (G by f mode tag term now) before g h =
    elim (cases_Bool (same_who by who && nat_eq f file)) [
      | inl y ↦
          h ∙ ap (λ b. if b then Some (record { time = now; term = term }) else None) y
          ∙ sym (ap (λ b. if b then Some (record { time = now; term = term }) else last_grant before who file) y)
      | inr n ↦ absurd (let wrong : Some g ≡ None = h ∙ ap (λ b. if b then Some (record { time = now; term = term }) else None) n in cc)
    ]
grant_first who file other before g h = absurd (cc)

-- the grant that links lead to is the last one
pub grant_there : (key : Spot) (who : Who) (file : ℕ) (whole : List Entry) (at to : ℕ) (x : Entry) (g : Granted) → key ≡ spot who file 0 → 0 < at
    → at ≤ to → to ≤ length whole → IsFree Grants key whole at to → slice_get whole (at - 1) ≡ Some x → given (Some g) ≡ last_grant (x ∷ []) who file
    → given (Some g) ≡ last_grant (reverse (take to whole)) who file
grant_there key who file whole at to x g e up a b free there h =
    grant_first who file x (reverse (take (at - 1) whole)) (record { time = g.time; term = g.term }) h
    ∙ ap (λ l. last_grant l who file) (sym (taken_last whole at x up there))
    ∙ sym (grant_free key who file whole at to e a b free)

-- the same, of a grant that may be there
pub grant_if_there : (key : Spot) (who : Who) (file : ℕ) (whole : List Entry) (at to : ℕ) (x : Entry) (grant : Option Granted) → key ≡ spot who file 0
    → 0 < at → at ≤ to → to ≤ length whole → IsFree Grants key whole at to → slice_get whole (at - 1) ≡ Some x
    → given grant ≡ last_grant (x ∷ []) who file → IfSome grant (λ g. given (Some g) ≡ last_grant (reverse (take to whole)) who file)
grant_if_there key who file whole at to x (Some g) e up a b free there h = grant_there key who file whole at to x g e up a b free there h
grant_if_there key who file whole at to x None e up a b free there h = tt

-- what is true of a grant that was found is true of the last one
pub of_grant : (test : Option Given → Bool) (grant : Option Granted) (last : Option Given) → test None ≡ false
    → IfSome grant (λ g. given (Some g) ≡ last) → test (given grant) ≡ true → test last ≡ true
of_grant test (Some g) last nil is h = subst (λ o. test o ≡ true) is h
of_grant test None last nil is h = absurd (true_false (test None) h nil)

-- ---- stores

not_both : (a b c : Bool) → (a && b) ≡ false → (not a || (not b || c)) ≡ true
not_both true true c h = absurd (cc)
not_both true false c h = refl
not_both false b c h = refl

over_apart : (who : Who) (file now : ℕ) (entry : Entry) → is_link Stores (spot who file 0) entry ≡ false → is_store_over who file now entry ≡ true
over_apart who file now (S by f block first last time) h = not_both (same_who by who) (nat_eq f file) (nat_le (time + write_slack) now) (apart by who f file h)
over_apart who file now other h = refl

over_early : (who : Who) (file now time : ℕ) (entry : Entry) → time + write_slack ≤ now → IsNoLater time entry → is_store_over who file now entry ≡ true
over_early who file now time (S by f block first last t) past early =
    or_last (not (same_who by who)) (not (nat_eq f file) || nat_le (t + write_slack) now)
    (or_last (not (nat_eq f file)) (nat_le (t + write_slack) now) (le-leb (t + write_slack) now (omega arith)))
over_early who file now time other past early = refl

over_next : (who : Who) (file now : ℕ) (entry : Entry) (before : List Entry) → is_store_over who file now entry ≡ true
    → each (is_store_over who file now) before ≡ true → each (is_store_over who file now) (entry ∷ before) ≡ true
over_next who file now entry before a b = and_from (is_store_over who file now entry) (each (is_store_over who file now) before) a b

over_free : (key : Spot) (who : Who) (file now : ℕ) (whole : List Entry) (from to : ℕ) → key ≡ spot who file 0 → from ≤ to → to ≤ length whole
    → IsFree Stores key whole from to → each (is_store_over who file now) (reverse (take from whole)) ≡ true
    → each (is_store_over who file now) (reverse (take to whole)) ≡ true
over_free key who file now whole from to e a b free h =
    climb (λ l. each (is_store_over who file now) l ≡ true) whole from to a b h
    (λ place entry before c d there rest. over_next who file now entry before
    (over_apart who file now entry (subst (λ k. is_link Stores k entry ≡ false) e (free place entry c d there))) rest)

-- there is no S of a lease before a place
pub none_stored : (key : Spot) (who : Who) (file now : ℕ) (whole : List Entry) (at to : ℕ) → key ≡ spot who file 0 → at ≡ 0 → to ≤ length whole
    → IsFree Stores key whole at to → each (is_store_over who file now) (reverse (take to whole)) ≡ true
none_stored key who file now whole at to e zero b free =
    over_free key who file now whole at to e (omega arith) b free
    (subst (λ k. each (is_store_over who file now) (reverse (take k whole)) ≡ true) (sym zero) refl)

early_ones : (who : Who) (file now : ℕ) (whole : List Entry) (at place : ℕ) (x : Entry) → 0 < at → at ≤ place → place ≤ length whole → Rises whole place
    → slice_get whole (at - 1) ≡ Some x → IsStorePast now x → each (is_store_over who file now) (reverse (take at whole)) ≡ true
early_ones who file now whole at place (S by f block first last time) up a b rises there past =
    climb (λ l. each (is_store_over who file now) l ≡ true) whole 0 at (omega arith) (omega arith) refl
    (λ i entry before c d e rest.
    over_next who file now entry before
    (over_early who file now time entry past (rises i (at - 1) entry (S by f block first last time) (omega arith) (omega arith) e there)) rest)
early_ones who file now whole at place other up a b rises there past = absurd past

-- write slack has passed since the last one, and so since each
pub all_stored : (key : Spot) (who : Who) (file now : ℕ) (whole : List Entry) (at to place : ℕ) (x : Entry) → key ≡ spot who file 0 → 0 < at → at ≤ to
    → to ≤ place → place ≤ length whole → IsFree Stores key whole at to → Rises whole place → slice_get whole (at - 1) ≡ Some x → IsStorePast now x
    → each (is_store_over who file now) (reverse (take to whole)) ≡ true
all_stored key who file now whole at to place x e up a b c free rises there past =
    over_free key who file now whole at to e a (omega arith) free (early_ones who file now whole at place x up (omega arith) c rises there past)

-- ---- a boot

-- what passes at an earlier place passes before a later one
pub exists_before : (test : Entry → Bool) (whole : List Entry) (at to : ℕ) (x : Entry) → at < to → to ≤ length whole → slice_get whole at ≡ Some x
    → test x ≡ true → exists test (reverse (take to whole)) ≡ true
exists_before test whole at to x a b there h =
    climb (λ l. exists test l ≡ true) whole (at + 1) to (omega arith) b
    (subst (λ l. exists test l ≡ true) (sym (taken_here whole at x there)) (ap (λ t. t || exists test (reverse (take at whole))) h))
    (λ place entry before c d e rest. or_last (test entry) (exists test before) rest)

-- ---- ends

-- a lease ended in silence
pub silent_end : (whole : List Entry) (place : ℕ) (x : Entry) (by who : Who) (f file until heard now : ℕ) (grant : Option Granted)
    → slice_get whole place ≡ Some x → x ≡ F by f until heard now → (same_who by who && nat_eq f file) ≡ true
    → ((nat_le (heard + 5) now && nat_le (until + 5) now) && has_passed now (given grant)) ≡ true
    → IfSome grant (λ g. given (Some g) ≡ last_grant (reverse (take place whole)) who file)
    → each (is_store_over who file now) (reverse (take place whole)) ≡ true → HasEnd whole place who file
silent_end whole place x by who f file until heard now grant there is same late granted stored =
    let before = reverse (take place whole) in
    let p = and_parts (nat_le (heard + 5) now && nat_le (until + 5) now) (has_passed now (given grant)) late in
    let over : has_passed now (last_grant before who file) ≡ true = of_grant (λ o. has_passed now o) grant (last_grant before who file) refl granted p.1 in
    let ended : is_late_end before who file until heard now ≡ true =
    and_from (nat_le (heard + 5) now && nat_le (until + 5) now && has_passed now (last_grant before who file)) (each (is_store_over who file now) before)
    (and_from (nat_le (heard + 5) now && nat_le (until + 5) now) (has_passed now (last_grant before who file)) p.0 over) stored in
    record {
      entry = F by f until heard now;
      there = there ∙ ap Some is;
      passes = and_from (same_who by who && nat_eq f file) (is_late_end before who file until heard now) same ended;
    }

no_wait : (boot now : ℕ) (x : Entry) → is_long_wait boot now None x ≡ false
no_wait boot now (X b time longest) = refl
no_wait boot now other = refl

-- a lease ended by the end of a recovery
pub open_end : (whole : List Entry) (place at : ℕ) (x y : Entry) (who : Who) (file boot until heard now : ℕ) (grant : Option Granted) → at < place
    → slice_get whole at ≡ Some y → slice_get whole place ≡ Some x → x ≡ O boot until heard now → is_long_wait boot now (given grant) y ≡ true
    → IfSome grant (λ g. given (Some g) ≡ last_grant (reverse (take place whole)) who file)
    → each (is_store_over who file now) (reverse (take place whole)) ≡ true → HasEnd whole place who file
open_end whole place at x y who file boot until heard now grant less there_y there is long granted stored =
    let before = reverse (take place whole) in
    let within : place < length whole = slice_get_within whole place x there in
    let waits : is_long_wait boot now (last_grant before who file) y ≡ true = of_grant (λ o. is_long_wait boot now o y) grant
    (last_grant before who file) (no_wait boot now y) granted long in
    let waited : exists (is_long_wait boot now (last_grant before who file)) before ≡ true =
    exists_before (is_long_wait boot now (last_grant before who file)) whole at place y less (omega arith) there_y waits in
    record {
      entry = O boot until heard now;
      there = there ∙ ap Some is;
      passes = and_from (exists (is_long_wait boot now (last_grant before who file)) before) (each (is_store_over who file now) before) waited stored;
    }

-- an end at a place that is counted from 1
pub end_between : (whole : List Entry) (from at to : ℕ) (who : Who) (file : ℕ) → from < at → at ≤ to → HasEnd whole (at - 1) who file
    → HasEndBetween whole from to who file
end_between whole from at to who file a b found = record {
  place = at - 1;
  low = omega arith;
  below = omega arith;
  found = found;
}

-- ---- a loss

written_linked : (who : Who) (file block first last : ℕ) (entry : Entry) → is_within who file block first last entry ≡ true
    → is_link Own (spot who file block) entry ≡ true
written_linked who file block first last (W by f b n v false) h =
    let i = (tells_within who file block first last (W by f b n v false)).sound h in
    subst (λ s. same_spot s (spot who file block) ≡ true) (λ j. spot (sym i.0 j) (sym i.1 j) (sym i.2 j)) (same_self (spot who file block))
written_linked who file block first last other h = absurd (cc)

not_written : (who : Who) (file block first last : ℕ) (entry : Entry) → is_link Own (spot who file block) entry ≡ false
    → loss_covers (L who file block first last) entry ≡ false
not_written who file block first last entry h =
    none_of (is_within who file block first last entry)
    (λ t. true_false (is_link Own (spot who file block) entry) (written_linked who file block first last entry t) h)

still_first : (loss : Entry) (who : Who) (file : ℕ) (entry : Entry) (before : List Entry) → loss_covers loss entry ≡ false
    → ends_first loss who file before ≡ true → ends_first loss who file (entry ∷ before) ≡ true
still_first loss who file entry before misses h =
    or_last (ends who file entry before) (not (loss_covers loss entry) && ends_first loss who file before)
    (and_from (not (loss_covers loss entry)) (ends_first loss who file before) (ap not misses) h)

-- a lease ended behind the last write of a block
pub ended_first : (key : Spot) (who : Who) (file block first last : ℕ) (whole : List Entry) (from place : ℕ) → key ≡ spot who file block
    → place ≤ length whole → IsFree Own key whole from place → HasEndBetween whole from place who file
    → ends_first (L who file block first last) who file (reverse (take place whole)) ≡ true
ended_first key who file block first last whole from place e b free end =
    let low = end.low in
    let below = end.below in
    let x = end.found.entry in
    let here : ends_first (L who file block first last) who file (x ∷ reverse (take end.place whole)) ≡ true =
    ap
    (λ t. t || (not (loss_covers (L who file block first last) x) && ends_first (L who file block first last) who file
    (reverse (take end.place whole)))) end.found.passes in
    climb (λ l. ends_first (L who file block first last) who file l ≡ true) whole (end.place + 1) place (omega arith) b
    (subst (λ l. ends_first (L who file block first last) who file l ≡ true) (sym (taken_here whole end.place x end.found.there)) here)
    (λ i entry before c d there rest.
    still_first (L who file block first last) who file entry before
    (not_written who file block first last entry (subst (λ k. is_link Own k entry ≡ false) e (free i entry (omega arith) d there))) rest)
