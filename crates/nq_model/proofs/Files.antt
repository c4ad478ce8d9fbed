-- What is found among the kept files, and what a file row makes of a file.
use Rattle.std.proofs.Common.{◌≡◌, ℕ, ◌==◌, Bool, true, false, List, [], ◌∷◌, Option, Some, None, if◌then◌else◌, length, refl, sym, ap, ◌∙◌, arith}
use Rattle.std.specs.Prelude.{replicate}
use Rattle.std.proofs.lemmas.List.{take-replicate}
use Rattle.std.proofs.Math.Seq.{take-append_seam}
use Rattle.nq_base.specs.Block.{zeros}
use Rattle.nq_base.specs.declared.FileRow.{FileRow}
use Rattle.nq_model.specs.protocol.Change.{row_of, row_of_found}
use Rattle.nq_model.specs.protocol.Kept.{File, find_file, replace_file, resized}
use Rattle.nq_model.proofs.Finding.{same-number, number-same}

found-first : (id : ℕ) (f file : File) (rest : Option File) (b : Bool) → (f.id == id) ≡ b → (rest ≡ Some file → file.id ≡ id)
    → (if b then Some f else rest) ≡ Some file → file.id ≡ id
found-first id f file rest true e later h = let same : f ≡ file = cc in ap (λ x. x.id) (sym same) ∙ same-number f.id id e
found-first id f file rest false e later h = later h

-- the file that is found has the id
pub found-id : (id : ℕ) (files : List File) (file : File) → find_file id files ≡ Some file → file.id ≡ id
found-id id [] file found = absurd (cc)
found-id id (f ∷ files) file found = found-first id f file (find_file id files) (f.id == id) refl (found-id id files file) found

found-at-head : (id : ℕ) (x file : File) (files : List File) (b c : Bool) → (x.id == id) ≡ b → c ≡ b → file.id ≡ id
    → (b ≡ false → find_file id files ≡ Some file) → find_file id ((if c then file else x) ∷ files) ≡ Some file
found-at-head id x file files true true e f same rest = rw (number-same file.id id same) refl
found-at-head id x file files true false e f same rest = absurd (cc)
found-at-head id x file files false true e f same rest = absurd (cc)
found-at-head id x file files false false e f same rest = rw e (rest refl)

-- after a file was replaced the new one is found
pub replaced-found : (id : ℕ) (files : List File) (file f : File) → file.id ≡ id → find_file id files ≡ Some f
    → find_file id (replace_file file files) ≡ Some file
replaced-found id [] file f same found = absurd (cc)
replaced-found id (x ∷ files) file f same found =
    found-at-head id x file (replace_file file files) (x.id == id) (x.id == file.id) refl (ap (λ i. x.id == i) same) same (λ other. replaced-found id
    files file f same (later other))
  where
    later : (x.id == id) ≡ false → find_file id files ≡ Some f
    later other = by (x.id == id) other found
      where
        by : (b : Bool) → b ≡ false → (if b then Some x else find_file id files) ≡ Some f → find_file id files ≡ Some f
        by true e h = absurd (cc)
        by false e h = h

replaced-head : (later earlier x : File) (b : Bool) → (x.id == earlier.id) ≡ b → later.id ≡ earlier.id → (if (if b then earlier else x).id == later.id
    then later else (if b then earlier else x)) ≡ (if b then later else x)
replaced-head later earlier x true e same = rw (number-same earlier.id later.id (sym same)) refl
replaced-head later earlier x false e same = let other : (x.id == later.id) ≡ false = ap (λ i. x.id == i) same ∙ e in rw other refl

-- of two files that replace the same one the later stays
pub replaced-twice : (later earlier : File) (files : List File) → later.id ≡ earlier.id → replace_file later (replace_file earlier files)
    ≡ replace_file later files
replaced-twice later earlier [] same = refl
replaced-twice later earlier (x ∷ files) same =
    ap (λ y. y ∷ replace_file later (replace_file earlier files)) (replaced-head later earlier x (x.id == earlier.id) refl same
    ∙ ap (λ i. if x.id == i then later else x) (sym same))
    ∙ ap (λ ys. (if x.id == later.id then later else x) ∷ ys) (replaced-twice later earlier files same)

-- bodies that are as many as they shall be stay
pub resized-same : (bodies : List (List ℕ)) → resized (length bodies) bodies ≡ bodies
resized-same bodies = take-append_seam bodies (replicate (length bodies) zeros)

-- out of nothing zeros are made
pub resized-none : (blocks : ℕ) → resized blocks [] ≡ replicate blocks zeros
resized-none blocks = take-replicate blocks blocks zeros (omega arith)

pub some-told : (o : Option File) (row : FileRow) → row_of_found o ≡ Some row → (f : File) × (o ≡ Some f) × (row ≡ row_of f)
some-told None row e = absurd (cc)
some-told (Some f) row e = (f, refl, cc)
