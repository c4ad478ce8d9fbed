-- The file that is behind the id below its own, and what its removal changes.
use Rattle.std.proofs.Common.{◌≡◌, ◌≢◌, ◌<◌, ◌≤◌, ℕ, zero, suc, ◌+◌, ◌-◌, ◌==◌, true, false, List, [], ◌∷◌, Option, Some, None}
use Rattle.std.proofs.Common.{if◌then◌else◌, refl, sym, ap, ◌∙◌, arith, inl, inr}
use Rattle.std.specs.Prelude.{All, nat_lt}
use Rattle.std.proofs.lemmas.List.Elements.{All-head, All-tail}
use Rattle.std.proofs.lemmas.Bool.Decides.{nat_tests}
use Rattle.nq_base.specs.declared.FileRow.{FileRow}
use Rattle.nq_base.specs.declared.Who.{Who}
use Rattle.nq_directory.proofs.Files.{above-id, all-further, found-above, row-none, row-some, tail-above}
use Rattle.nq_directory.specs.Files.{IsNext}
use Rattle.nq_directory.specs.Prefix.{directory}
use Rattle.nq_model.proofs.Finding.{decided, number-other}
use Rattle.nq_model.specs.protocol.Change.{AreApart, IsFileWithin, IsWithinBounds, file_after}
use Rattle.nq_model.specs.protocol.Kept.{File, Kept, find_file}
use Rattle.nq_name_server.specs.Outside.{Changes, changes_of}

-- ---- the file that is behind the id below its own

file-none-above : (id : ℕ) (files : List File) → All (λ (x : File). id < x.id) files → find_file id files ≡ None
file-none-above id [] above = refl
file-none-above id (f ∷ files) above =
    let own : id < f.id = All-head (λ (x : File). id < x.id) f files above in
    let other : (f.id == id) ≡ false = number-other f.id id (λ i. absurd (omega arith)) in
    rw other (file-none-above id files (tail-above id f files above))

-- a file, if it has this id
abbrev of-id : ℕ → Option File → Option File
of-id id None = None
of-id id (Some f) = if f.id == id then Some f else None

file-behind : (before id : ℕ) (files : List File) → before + 1 ≡ id → AreApart files → find_file id files ≡ of-id id (file_after before files)
file-behind before id [] next apart = refl
file-behind before id (f ∷ files) next apart = elim (decided (nat_lt before f.id)) [
  | inl e ↦
      let up : before < f.id = above-id before f.id e in
      let none = file-none-above id files (all-further id f.id files (omega arith) apart.0) in
      elim (decided (f.id == id)) [
        | inl h ↦ rw (e, h) refl
        | inr h ↦ rw (e, h) none
      ]
  | inr e ↦
      let other : (f.id == id) ≡ false = number-other f.id id (λ i. absurd (grind (arith, nat_tests))) in
      rw (e, other) (file-behind before id files next apart.2)
]

file-zero : (next : ℕ) (files : List File) → All (IsFileWithin next) files → find_file 0 files ≡ None
file-zero next [] within = refl
file-zero next (f ∷ files) within =
    let own : 1 ≤ f.id = (All-head (IsFileWithin next) f files within).from_one in
    let other : (f.id == 0) ≡ false = number-other f.id 0 (λ i. absurd (omega arith)) in
    rw other (file-zero next files (All-tail (IsFileWithin next) f files within))

of-other : (id : ℕ) (f : File) → f.id ≢ id → of-id id (Some f) ≡ None
of-other id f other = let e : (f.id == id) ≡ false = number-other f.id id other in rw e refl

of-same : (id : ℕ) (f : File) → f.id ≡ id → of-id id (Some f) ≡ Some f
of-same id f same = let e : (f.id == id) ≡ true = grind (arith, nat_tests) in rw e refl

-- no file has the id 0, and another one is the first behind the id below its own, if it is kept
id-zero : (files : List File) (o : Option File) → file_after 0 files ≡ o → of-id 0 o ≡ None
id-zero files None found = refl
id-zero files (Some f) found = of-other 0 f (λ is. let up : 0 < f.id = found-above 0 files f found in absurd (omega arith))

found-behind : (file : ℕ) (kept : Kept) → IsWithinBounds kept → find_file file kept.files ≡ of-id file (file_after (file - 1) kept.files)
found-behind zero kept within =
    let e : zero - 1 ≡ 0 = omega arith in
    file-zero kept.next kept.files within.files
    ∙ sym (id-zero kept.files (file_after 0 kept.files) refl)
    ∙ ap (λ n. of-id 0 (file_after n kept.files)) (sym e)
found-behind (suc before) kept within =
    let e : suc before - 1 ≡ before = omega arith in
    file-behind before (suc before) kept.files (omega arith) within.apart ∙ ap (λ n. of-id (suc before) (file_after n kept.files)) (sym e)

-- ---- what the removal of a file changes

pub removes-zero : (who : Who) (file : ℕ) (kept : Kept) → IsWithinBounds kept → file ≡ 0 → None ≡ changes_of who (find_file file kept.files)
removes-zero who file kept within none =
    sym (ap (λ id. changes_of who (find_file id kept.files)) none ∙ ap (changes_of who) (file-zero kept.next kept.files within.files))

pub removes-none : (who : Who) (file : ℕ) (kept : Kept) → IsWithinBounds kept → IsNext kept (file - 1) None → None ≡ changes_of who (find_file file kept.files)
removes-none who file kept within next =
    sym (ap (changes_of who) (found-behind file kept within ∙ ap (of-id file) (row-none (file_after (file - 1) kept.files) next)))

pub removes-other : (who : Who) (file : ℕ) (kept : Kept) (r : FileRow) → IsWithinBounds kept → IsNext kept (file - 1) (Some r) → r.id ≢ file
    → None ≡ changes_of who (find_file file kept.files)
removes-other who file kept r within next other =
    let f = row-some (file_after (file - 1) kept.files) r next in
    let apart : f.0.id ≢ file = λ e. other (ap (λ (x : FileRow). x.id) f.1.1 ∙ e) in
    sym (ap (changes_of who) (found-behind file kept within ∙ ap (of-id file) f.1.0 ∙ of-other file f.0 apart))

-- the change of a directory
abbrev changing : Who → List ℕ → Option Changes
changing who prefix = Some (record { who = who; prefix = prefix })

pub removes-own : (who : Who) (file : ℕ) (prefix : List ℕ) (kept : Kept) (r : FileRow) → prefix ≡ directory r.name → IsWithinBounds kept
    → IsNext kept (file - 1) (Some r) → r.id ≡ file
    → Some (record { who = who; prefix = prefix }) ≡ changes_of who (find_file file kept.files)
removes-own who file prefix kept r named within next same =
    let f = row-some (file_after (file - 1) kept.files) r next in
    let id : f.0.id ≡ file = sym (ap (λ (x : FileRow). x.id) f.1.1) ∙ same in
    ap (changing who) (named ∙ ap (λ (x : FileRow). directory x.name) f.1.1)
    ∙ sym (ap (changes_of who) (found-behind file kept within ∙ ap (of-id file) f.1.0 ∙ of-same file f.0 id))
