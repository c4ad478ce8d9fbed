-- How the contents of a file go on where a journal does.
use Rattle.std.proofs.Common.{◌≡◌, ◌≤◌, ℕ, ◌+◌, ◌==◌, Bool, true, false, ◌&&◌, List, [], ◌∷◌, ◌++◌, Some, if◌then◌else◌, nat_lt, refl, sym, ◌∙◌, arith}
use Rattle.std.proofs.lemmas.Bool.Decides.{nat_tests}
use Rattle.nq_base.specs.declared.Entry.{Entry}
use Rattle.nq_base.specs.declared.Who.{Who}
use Rattle.walk_steps.proofs.ClientMoves.{none-some}
use Rattle.nq_model.specs.laws.Contents.{changes, changes_of, delayed_value, after_change, content_at, change_at}
use Rattle.walk_steps.proofs.Rows.{same-number}

-- ---- one more entry

-- the count of a file's changes
count-step : (b : Bool) (n : ℕ) → n ≤ (if b then n + 1 else n)
count-step true n = omega arith
count-step false n = omega arith

pub count-grows : (e : Entry) (j : List Entry) (file : ℕ) → changes_of j file ≤ changes_of (e ∷ j) file
count-grows e j file = count-step (changes e file) (changes_of j file)

pub count-changed : (e : Entry) (j : List Entry) (file : ℕ) → changes e file ≡ true → changes_of (e ∷ j) file ≡ changes_of j file + 1
count-changed e j file h = rw h refl

pub count-unchanged : (e : Entry) (j : List Entry) (file : ℕ) → changes e file ≡ false → changes_of (e ∷ j) file ≡ changes_of j file
count-unchanged e j file h = rw h refl

-- a content that was reached stays
not-later : (b : Bool) (m n : ℕ) → n ≤ m → b && nat_lt m n ≡ false
not-later true m n h = grind (arith, nat_tests)
not-later false m n h = refl

pub content-stays : (e : Entry) (j : List Entry) (first file rev : ℕ) → rev ≤ changes_of j file
    → content_at (e ∷ j) first file rev ≡ content_at j first file rev
content-stays e j first file rev reached = rw (not-later (changes e file) (changes_of j file) rev reached) refl

-- from the last change on nothing changes
later-step : (e : Entry) (j : List Entry) (first file rev : ℕ) (b : Bool) → changes e file ≡ b
    → (if b then changes_of j file + 1 else changes_of j file) ≤ rev → content_at j first file rev ≡ content_at j first file (changes_of j file)
    → content_at (e ∷ j) first file rev ≡
    (if b then after_change e j (content_at j first file (changes_of j file)) else content_at j first file (changes_of j file))
later-step e j first file rev true h above rest =
    let now : nat_lt (changes_of j file) rev ≡ true = grind (arith, nat_tests) in
    rw (h, now, rest) refl
later-step e j first file rev false h above rest = rw h rest

pub content-after : (j : List Entry) (first file rev : ℕ) → changes_of j file ≤ rev → content_at j first file rev ≡ content_at j first file (changes_of j file)
content-after [] first file rev h = refl
content-after (e ∷ j) first file rev h =
    later-step e j first file rev (changes e file) refl h (content-after j first file rev (let more = count-grows e j file in omega arith))
    ∙ sym (later-step e j first file (changes_of (e ∷ j) file) (changes e file) refl (omega arith)
    (content-after j first file (changes_of (e ∷ j) file) (count-grows e j file)))

-- the content after a change
pub content-changed : (e : Entry) (j : List Entry) (first file : ℕ) → changes e file ≡ true
    → content_at (e ∷ j) first file (changes_of j file + 1) ≡ after_change e j (content_at j first file (changes_of j file))
content-changed e j first file h =
    later-step e j first file (changes_of j file + 1) true h (omega arith) (content-after j first file (changes_of j file + 1) (omega arith))

pub change-changed : (e : Entry) (j : List Entry) (file : ℕ) → changes e file ≡ true → change_at (e ∷ j) file (changes_of j file + 1) ≡ Some e
change-changed e j file h =
    let now : (changes_of j file + 1 == changes_of j file + 1) ≡ true = grind (arith, nat_tests) in
    rw (h, now) refl

-- ---- more entries

pub count-more : (es j : List Entry) (file : ℕ) → changes_of j file ≤ changes_of (es ++ j) file
count-more [] j file = omega arith
count-more (e ∷ es) j file = let a = count-more es j file in let b = count-grows e (es ++ j) file in omega arith

pub content-more : (es j : List Entry) (first file rev : ℕ) → rev ≤ changes_of j file → content_at (es ++ j) first file rev ≡ content_at j first file rev
content-more [] j first file rev h = refl
content-more (e ∷ es) j first file rev h =
    content-stays e (es ++ j) first file rev (let a = count-more es j file in omega arith) ∙ content-more es j first file rev h

pub delayed-more : (es j : List Entry) (who : Who) (file block number v : ℕ) → delayed_value j who file block number ≡ Some v
    → delayed_value (es ++ j) who file block number ≡ Some v
delayed-more [] j who file block number v h = h
delayed-more (e ∷ es) j who file block number v h = rw (delayed-more es j who file block number v h) refl

-- a change that was reached stays
change-reached : (j : List Entry) (file rev : ℕ) (c : Entry) → change_at j file rev ≡ Some c → rev ≤ changes_of j file
change-reached [] file rev c h = none-some c h
change-reached (e ∷ j) file rev c h = step (changes e file) (changes_of j file + 1 == rev) refl refl (change-reached j file rev c) h
  where
    step : (b d : Bool) → changes e file ≡ b → (changes_of j file + 1 == rev) ≡ d → (change_at j file rev ≡ Some c → rev ≤ changes_of j file)
        → (if b && d then Some e else change_at j file rev) ≡ Some c → rev ≤ changes_of (e ∷ j) file
    step true true k same rest f = let more = count-changed e j file k in let at = same-number _ _ same in omega arith
    step true false k same rest f = let more = count-grows e j file in let at = rest f in omega arith
    step false d k same rest f = let more = count-grows e j file in let at = rest f in omega arith

pub change-stays : (e : Entry) (j : List Entry) (file rev : ℕ) (c : Entry) → change_at j file rev ≡ Some c → change_at (e ∷ j) file rev ≡ Some c
change-stays e j file rev c h =
    let reached = change-reached j file rev c h in
    let other : (changes_of j file + 1 == rev) ≡ false = grind (arith, nat_tests) in
    step (changes e file) (changes_of j file + 1 == rev) other
  where
    step : (b d : Bool) → d ≡ false → (if b && d then Some e else change_at j file rev) ≡ Some c
    step true d k = rw k h
    step false d k = h

pub change-more : (es j : List Entry) (file rev : ℕ) (c : Entry) → change_at j file rev ≡ Some c → change_at (es ++ j) file rev ≡ Some c
change-more [] j file rev c h = h
change-more (e ∷ es) j file rev c h = change-stays e (es ++ j) file rev c (change-more es j file rev c h)

-- ---- entries that change no file

abbrev pub NoChanges : List Entry → Type 0
NoChanges [] = Unit {0}
NoChanges (e ∷ es) = ((file : ℕ) → changes e file ≡ false) × NoChanges es

pub count-same : (es j : List Entry) (file : ℕ) → NoChanges es → changes_of (es ++ j) file ≡ changes_of j file
count-same [] j file h = refl
count-same (e ∷ es) j file h = count-unchanged e (es ++ j) file (h.0 file) ∙ count-same es j file h.1
