-- The kept state stays within its bounds, where a change fits and its own numbers are within theirs.
use Rattle.std.proofs.Common.{◌≡◌, ◌<◌, ◌≤◌, ℕ, ◌==◌, Bool, true, false, not, ◌&&◌, List, [], ◌∷◌, ◌++◌, Option, Some, None, if◌then◌else◌, length}
use Rattle.std.proofs.Common.{get_or, refl, sym, subst, ap, ◌∙◌, arith, zero, suc, ◌^◌}
use Rattle.std.specs.List.{filter, All}
use Rattle.std.specs.Option.{IfSome}
use Rattle.std.specs.Prelude.{slice_set, replicate}
use Rattle.std.proofs.lemmas.List.Elements.{All-head, All-tail, All-cons, All-nil, All-append, All-map, All-filter, All-take, All-replicate, All-set}
use Rattle.std.proofs.lemmas.List.{length-set}
use Rattle.nq_base.proofs.Filling.{zeros-length}
use Rattle.nq_base.specs.Block.{word, repeated, filled, zeros}
use Rattle.nq_base.specs.Name.{IsName}
use Rattle.nq_base.specs.declared.BlockChange.{BlockChange}
use Rattle.nq_base.specs.declared.Change.{Change}
use Rattle.nq_base.specs.declared.FileRow.{FileRow}
use Rattle.nq_base.specs.declared.Heads.{Heads}
use Rattle.nq_base.specs.declared.HostChange.{HostChange}
use Rattle.nq_base.specs.declared.HostRow.{HostRow}
use Rattle.nq_model.specs.protocol.Change.{IsFileWithin, AreApart, IsBody, IsHostWithin, AreHeadsWithin, IsChangeWithin, IsWithinBounds, IsRowOf, RaisesNext}
use Rattle.nq_model.specs.protocol.Change.{FitsFile, FitsRemoval, HasBlock, Fits, heads_of, file_of, with_file, with_file_at, with_body, with_block_in}
use Rattle.nq_model.specs.protocol.Change.{files_without, files_with, blocks_with, hosts_with, heads_with, kept_as, applied}
use Rattle.nq_model.specs.protocol.Kept.{File, Kept, blocks_of, blocks_in_all, find_file, find_name, replace_file, drop_file, resized}
use Rattle.nq_model.specs.protocol.Profile.{most_files, most_blocks, most_blocks_of_file, same_bytes}
use Rattle.nq_model.proofs.Files.{found-id}
use Rattle.nq_model.proofs.FreshFits.{found-has, blocks-first, blocks-replaced, length-replaced, resized-length}
use Rattle.nq_model.proofs.Finding.{choice, same-number, number-same, number-other, is-other}

-- ---- a file in place of the one of its id and name

pub replaced-id : (x g : File) (b : Bool) → (g.id == x.id) ≡ b → (if b then x else g).id ≡ g.id
replaced-id x g true e = sym (same-number g.id x.id e)
replaced-id x g false e = refl

replaced-name : (x g : File) (b : Bool) → (g.id == x.id) ≡ b → (g.id ≡ x.id → g.name ≡ x.name) → (if b then x else g).name ≡ g.name
replaced-name x g true e named = sym (named (same-number g.id x.id e))
replaced-name x g false e named = refl

-- files of this id have this name
abbrev pub AreNamed : File → List File → Type 0
AreNamed x files = All (λ g. g.id ≡ x.id → g.name ≡ x.name) files

pub named-as-found : (x f : File) (files : List File) → AreApart files → find_file x.id files ≡ Some f → f.name ≡ x.name → AreNamed x files
named-as-found x f [] apart found same = All-nil _
named-as-found x f (g ∷ files) apart found same = by (g.id == x.id) refl found (named-as-found x f files apart.2)
  where
    by : (b : Bool) → (g.id == x.id) ≡ b → (if b then Some g else find_file x.id files) ≡ Some f → (find_file x.id files ≡ Some f → f.name ≡ x.name
        → AreNamed x files) → AreNamed x (g ∷ files)
    by true e h rest =
        let is : g ≡ f = cc in
        let at : g.id ≡ x.id = same-number g.id x.id e in
        All-cons (λ y. y.id ≡ x.id → y.name ≡ x.name) g files (λ i. ap (λ y. y.name) is ∙ same) (λ k d i equal. let above : g.id
        < (get_or files k d).id = apart.0 k d i in absurd (omega arith))
    by false e h rest =
        All-cons (λ y. y.id ≡ x.id → y.name ≡ x.name) g files (λ i. let bad : (g.id == x.id) ≡ true = number-same g.id x.id i in absurd (cc)) (rest h same)

unnamed-first : (name : List ℕ) (g y : File) (rest after : Option File) (c : Bool) → y.name ≡ g.name → same_bytes g.name name ≡ c
    → (rest ≡ None → after ≡ None) → (if c then Some g else rest) ≡ None → (if same_bytes y.name name then Some y else after) ≡ None
unnamed-first name g y rest after true same e later h = absurd (cc)
unnamed-first name g y rest after false same e later h = let other : same_bytes y.name name ≡ false = ap (λ n. same_bytes n name) same ∙ e in
    rw other (later h)

unnamed-replaced : (name : List ℕ) (x : File) (files : List File) → AreNamed x files → find_name name files ≡ None
    → find_name name (replace_file x files) ≡ None
unnamed-replaced name x [] named none = refl
unnamed-replaced name x (g ∷ files) named none =
    unnamed-first name g (if g.id == x.id then x else g) (find_name name files) (find_name name (replace_file x files)) (same_bytes g.name name)
    (replaced-name x g (g.id == x.id) refl (All-head (λ y. y.id ≡ x.id → y.name ≡ x.name) g files named)) refl (unnamed-replaced name x files
    (All-tail (λ y. y.id ≡ x.id → y.name ≡ x.name) g files named)) none

pub apart-replaced : (x : File) (files : List File) → AreNamed x files → AreApart files → AreApart (replace_file x files)
apart-replaced x [] named apart = tt
apart-replaced x (g ∷ files) named apart =
    let y : File = if g.id == x.id then x else g in
    let tail : AreNamed x files = All-tail (λ y. y.id ≡ x.id → y.name ≡ x.name) g files named in (
      All-map (λ later. y.id < later.id) (λ f. if f.id == x.id then x else f) files (λ k d i. let above : g.id < (get_or files k d).id =
          apart.0 k d i in omega (arith, replaced-id x g (g.id == x.id) refl, replaced-id x (get_or files k d) ((get_or files k d).id == x.id) refl)),
      subst (λ n. find_name n (replace_file x files) ≡ None)
          (sym (replaced-name x g (g.id == x.id) refl (All-head (λ y. y.id ≡ x.id → y.name ≡ x.name) g files named))) (unnamed-replaced g.name x files
          tail apart.1),
      apart-replaced x files tail apart.2,
    )

each-replaced : (next : ℕ) (x : File) (files : List File) → IsFileWithin next x → All (IsFileWithin next) files → All (IsFileWithin next)
    (replace_file x files)
each-replaced next x files own each =
    All-map (IsFileWithin next) (λ f. if f.id == x.id then x else f) files (λ k d i. choice (IsFileWithin next) ((get_or files k d).id == x.id) x
    (get_or files k d) (λ e. own) (λ e. each k d i))

-- ---- without a file

unnamed-filtered : (name : List ℕ) (p : File → Bool) (files : List File) → find_name name files ≡ None → find_name name (filter p files) ≡ None
unnamed-filtered name p [] none = refl
unnamed-filtered name p (g ∷ files) none = by (p g) (same_bytes g.name name) refl none (unnamed-filtered name p files)
  where
    by : (b c : Bool) → same_bytes g.name name ≡ c → (if c then Some g else find_name name files) ≡ None → (find_name name files ≡ None
        → find_name name (filter p files) ≡ None) → find_name name (if b then g ∷ filter p files else filter p files) ≡ None
    by b true e h rest = absurd (cc)
    by true false e h rest = rw e (rest h)
    by false false e h rest = rest h

pub apart-filtered : (p : File → Bool) (files : List File) → AreApart files → AreApart (filter p files)
apart-filtered p [] apart = tt
apart-filtered p (g ∷ files) apart =
    choice AreApart (p g) (g ∷ filter p files) (filter p files)
    (λ stays. (All-filter p (λ later. g.id < later.id) files apart.0, unnamed-filtered g.name p files apart.1, apart-filtered p files apart.2))
    (λ goes. apart-filtered p files apart.2)

-- ---- with a new file

same-both : (x y : ℕ) → (x == y) ≡ (y == x)
same-both x y = by (x == y) refl
  where
    by : (b : Bool) → (x == y) ≡ b → b ≡ (y == x)
    by true e = sym (number-same y x (sym (same-number x y e)))
    by false e = sym (number-other y x (λ i. is-other x y e (sym i)))

same-bytes-both : (a b : List ℕ) → same_bytes a b ≡ same_bytes b a
same-bytes-both [] [] = refl
same-bytes-both [] (y ∷ ys) = refl
same-bytes-both (x ∷ xs) [] = refl
same-bytes-both (x ∷ xs) (y ∷ ys) = ap (λ b. b && same_bytes xs ys) (same-both x y) ∙ ap (λ b. y == x && b) (same-bytes-both xs ys)

unnamed-added : (name : List ℕ) (x : File) (files : List File) → same_bytes x.name name ≡ false → find_name name files ≡ None
    → find_name name (files ++ x ∷ []) ≡ None
unnamed-added name x [] other none = rw other refl
unnamed-added name x (g ∷ files) other none = unnamed-first name g g (find_name name files) (find_name name (files ++ x ∷ []))
    (same_bytes g.name name) refl refl (unnamed-added name x files other) none

other-name : (name : List ℕ) (g : File) (rest : Option File) (c : Bool) → same_bytes g.name name ≡ c → (if c then Some g else rest) ≡ None
    → (same_bytes g.name name ≡ false) × (rest ≡ None)
other-name name g rest true e none = absurd (cc)
other-name name g rest false e none = (e, none)

pub apart-added : (next : ℕ) (x : File) (files : List File) → All (λ f. f.id < next) files → x.id ≡ next → find_name x.name files ≡ None
    → AreApart files → AreApart (files ++ x ∷ [])
apart-added next x [] each same none apart = (All-nil _, refl, tt)
apart-added next x (g ∷ files) each same none apart =
    let own : g.id < next = All-head (λ f. f.id < next) g files each in
    let names = other-name x.name g (find_name x.name files) (same_bytes g.name x.name) refl none in
    let last : g.id < x.id = omega arith in (
      All-append (λ later. g.id < later.id) files (x ∷ []) apart.0 (All-cons (λ later. g.id < later.id) x [] last (All-nil _)),
      unnamed-added g.name x files (same-bytes-both x.name g.name ∙ names.0) apart.1,
      apart-added next x files (All-tail (λ f. f.id < next) g files each) same names.1 apart.2,
    )

-- ---- the files together

-- the files are within their bounds
record FilesWithin (next : ℕ) (files : List File) : Type 0 where
  each : All (IsFileWithin next) files
  apart : AreApart files
  few_files : length files ≤ most_files
  few_blocks : blocks_in_all files ≤ most_blocks

-- ids that are below a number are below a greater one
file-below : (next later : ℕ) (f : File) → next ≤ later → IsFileWithin next f → IsFileWithin later f
file-below next later f more own = record {
  from_one = own.from_one;
  below_next = let below = own.below_next in omega arith;
  name = own.name;
  rev = own.rev;
  not_empty = own.not_empty;
  short = own.short;
  bodies = own.bodies;
}

files-below : (next later : ℕ) (files : List File) → next ≤ later → FilesWithin next files → FilesWithin later files
files-below next later files more w = record {
  each = λ k d i. file-below next later (get_or files k d) more (w.each k d i);
  apart = w.apart;
  few_files = w.few_files;
  few_blocks = w.few_blocks;
}

pub fewer-files : (p : File → Bool) (files : List File) → length (filter p files) ≤ length files
fewer-files p [] = omega arith
fewer-files p (g ∷ files) = let rest = fewer-files p files in choice (λ xs. length xs ≤ length (g ∷ files)) (p g) (g ∷ filter p files)
    (filter p files) (λ stays. omega arith) (λ goes. omega arith)

pub fewer-blocks : (p : File → Bool) (files : List File) → blocks_in_all (filter p files) ≤ blocks_in_all files
fewer-blocks p [] = omega arith
fewer-blocks p (g ∷ files) =
    let rest = fewer-blocks p files in
    let sum = blocks-first g files in
    choice (λ xs. blocks_in_all xs ≤ blocks_in_all (g ∷ files)) (p g) (g ∷ filter p files) (filter p files) (λ stays. let own =
    blocks-first g (filter p files) in omega arith) (λ goes. omega arith)

files-dropped : (next id : ℕ) (files : List File) → FilesWithin next files → FilesWithin next (drop_file id files)
files-dropped next id files w = record {
  each = All-filter (λ f. not (f.id == id)) (IsFileWithin next) files w.each;
  apart = apart-filtered (λ f. not (f.id == id)) files w.apart;
  few_files = let all = w.few_files in omega (arith, fewer-files (λ f. not (f.id == id)) files);
  few_blocks = let all = w.few_blocks in omega (arith, fewer-blocks (λ f. not (f.id == id)) files);
}

-- a file takes the place of a kept one of its id and name
files-replaced : (next : ℕ) (x f : File) (files : List File) → FilesWithin next files → IsFileWithin next x → find_file x.id files ≡ Some f → f.name
    ≡ x.name → blocks_in_all (replace_file x files) ≤ most_blocks → FilesWithin next (replace_file x files)
files-replaced next x f files w own found same fits = record {
  each = each-replaced next x files own w.each;
  apart = apart-replaced x files (named-as-found x f files w.apart found same) w.apart;
  few_files = let all = w.few_files in omega (arith, length-replaced x files);
  few_blocks = fits;
}

files-added : (next later : ℕ) (x : File) (files : List File) → FilesWithin next files → x.id ≡ next → next ≤ later → find_name x.name files ≡ None
    → IsFileWithin later x → length (files ++ x ∷ []) ≤ most_files → blocks_in_all (files ++ x ∷ []) ≤ most_blocks → FilesWithin later (files ++ x ∷ [])
files-added next later x files w same more none own few_files few_blocks = record {
  each = All-append (IsFileWithin later) files (x ∷ []) (λ k d i. file-below next later (get_or files k d) more (w.each k d i))
      (All-cons (IsFileWithin later) x [] own (All-nil _));
  apart = apart-added next x files (λ k d i. (w.each k d i).below_next) same none w.apart;
  few_files = few_files;
  few_blocks = few_blocks;
}

-- ---- a change

zero-words : (times : ℕ) → All (λ byte. byte < 256) (repeated times 0)
zero-words zero = All-nil _
zero-words (suc times) = All-append (λ byte. byte < 256) (word 0) (repeated times 0) (All-replicate (λ byte. byte < 256) 4 0 (omega arith)) (zero-words times)

-- a block of zeros is a body
pub zeros-body : IsBody zeros
unfolding zeros filled
zeros-body = record { size = zeros-length; bytes = zero-words 1024 }

resized-bodies : (blocks : ℕ) (bodies : List (List ℕ)) → All IsBody bodies → All IsBody (resized blocks bodies)
resized-bodies blocks bodies each = All-take IsBody blocks (bodies ++ replicate blocks zeros) (All-append IsBody bodies (replicate blocks zeros) each
    (All-replicate IsBody blocks zeros zeros-body))

-- a file out of a row and bodies
made-within : (next : ℕ) (row : FileRow) (bodies : List (List ℕ)) → 1 ≤ row.id → row.id < next → IsName row.name → row.rev < 2 ^ 61 → 1 ≤ row.blocks
    → row.blocks ≤ most_blocks_of_file → All IsBody bodies → IsFileWithin next (file_of row bodies)
unfolding file_of
made-within next row bodies from_one below name rev some short each = record {
  from_one = from_one;
  below_next = below;
  name = name;
  rev = rev;
  not_empty = omega (arith, resized-length row.blocks bodies);
  short = omega (arith, resized-length row.blocks bodies);
  bodies = resized-bodies row.blocks bodies each;
}

made-id : (row : FileRow) (bodies : List (List ℕ)) → (file_of row bodies).id ≡ row.id
unfolding file_of
made-id row bodies = refl

made-name : (row : FileRow) (bodies : List (List ℕ)) → (file_of row bodies).name ≡ row.name
unfolding file_of
made-name row bodies = refl

-- a file row is kept
module _ (kept : Kept) (heads : Option Heads) (row : FileRow) (w : FilesWithin kept.next kept.files) (from_one : 1 ≤ kept.next) (later : ℕ)
    (more : kept.next ≤ later) (raised : RaisesNext kept heads → kept.next < later) (fits : FitsFile kept heads row) (name : IsName row.name)
    (rev : row.rev < 2 ^ 61) where
  row-kept : (o : Option File) → find_file row.id kept.files ≡ o → IsRowOf kept heads row o → with_file row kept.files ≡ with_file_at row kept.files o
      → FilesWithin later (with_file_at row kept.files o)
  row-kept None found of_file after =
      let id : (file_of row []).id ≡ kept.next = made-id row [] ∙ of_file.0 in
      files-added kept.next later (file_of row []) kept.files w id more
      (subst (λ n. find_name n kept.files ≡ None) (sym (made-name row [])) of_file.1)
      (made-within later row [] (let i = of_file.0 in omega arith) (let i = of_file.0 in let above = raised of_file.2 in omega arith) name rev
      fits.not_empty fits.short (All-nil _))
      (subst (λ files. length files ≤ most_files) after fits.few_files)
      (subst (λ files. blocks_in_all files ≤ most_blocks) after fits.few_blocks)
  row-kept (Some f) found of_file after =
      let own : IsFileWithin kept.next f = found-has (IsFileWithin kept.next) row.id kept.files f w.each found in
      let same : f.id ≡ row.id = found-id row.id kept.files f found in
      let x : File = file_of row f.bodies in
      files-replaced later x f kept.files (files-below kept.next later kept.files more w)
      (made-within later row f.bodies (let one = own.from_one in omega arith) (let below = own.below_next in omega arith) name rev fits.not_empty
      fits.short own.bodies)
      (ap (λ i. find_file i kept.files) (made-id row f.bodies) ∙ found)
      (sym of_file ∙ sym (made-name row f.bodies))
      (subst (λ files. blocks_in_all files ≤ most_blocks) after fits.few_blocks)

-- a body is kept
module _ (next : ℕ) (files : List File) (b : BlockChange) (w : FilesWithin next files) (body : IsBody b.body) where
  body-kept : (o : Option File) → find_file b.file files ≡ o → HasBlock b.block o → FilesWithin next (with_block_in b files o)
  unfolding with_body
  body-kept None found has = absurd has
  body-kept (Some f) found has =
      let own : IsFileWithin next f = found-has (IsFileWithin next) b.file files f w.each found in
      let here : find_file f.id files ≡ Some f = ap (λ i. find_file i files) (found-id b.file files f found) ∙ found in
      let size : length (slice_set f.bodies b.block b.body) ≡ blocks_of f = length-set f.bodies b.block b.body in
      files-replaced next (with_body f b.block b.body) f files w
      (record {
        from_one = own.from_one;
        below_next = own.below_next;
        name = own.name;
        rev = own.rev;
        not_empty = let some = own.not_empty in omega arith;
        short = let short = own.short in omega arith;
        bodies = All-set IsBody f.bodies b.block b.body body own.bodies;
      })
      here
      refl
      (let all = w.few_blocks in omega (arith, blocks-replaced (with_body f b.block b.body) f files w.apart refl here))

blocks-kept : (next : ℕ) (files : List File) (block : Option BlockChange) → FilesWithin next files
    → IfSome block (λ b. HasBlock b.block (find_file b.file files)) → IfSome block (λ b. IsBody b.body) → FilesWithin next (blocks_with block files)
blocks-kept next files None w has body = w
blocks-kept next files (Some b) w has body = body-kept next files b w body (find_file b.file files) refl has

-- the files after a change
files-kept : (kept : Kept) (heads : Option Heads) (later : ℕ) (removed : Option ℕ) (file : Option FileRow) (block : Option BlockChange)
    → FilesWithin kept.next kept.files → 1 ≤ kept.next → kept.next ≤ later → (RaisesNext kept heads → kept.next < later)
    → IfSome removed (λ id. (file ≡ None) × (block ≡ None)) → IfSome file (FitsFile kept heads) → IfSome file (λ row. IsName row.name
    × (row.rev < 2 ^ 61)) → IfSome block (λ b. HasBlock b.block (find_file b.file (files_with file kept.files))) → IfSome block (λ b. IsBody b.body)
    → FilesWithin later (blocks_with block (files_with file (files_without removed kept.files)))
files-kept kept heads later (Some id) None None w one more raised alone fits row has body = files-below kept.next later (drop_file id kept.files) more
    (files-dropped kept.next id kept.files w)
files-kept kept heads later (Some id) (Some row) block w one more raised alone fits rows has body = absurd (let bad = alone.0 in cc)
files-kept kept heads later (Some id) None (Some b) w one more raised alone fits rows has body = absurd (let bad = alone.1 in cc)
files-kept kept heads later None None block w one more raised alone fits rows has body = blocks-kept later kept.files block
    (files-below kept.next later kept.files more w) has body
files-kept kept heads later None (Some row) block w one more raised alone fits rows has body =
    blocks-kept later (with_file row kept.files) block (row-kept kept heads row w one later more raised fits rows.0 rows.1
    (find_file row.id kept.files) refl fits.of_file refl) has body

hosts-kept : (hosts : List HostRow) (change : Option HostChange) → All IsHostWithin hosts → IfSome change (λ h. IsHostWithin h.row)
    → All IsHostWithin (hosts_with change hosts)
hosts-kept hosts None each own = each
hosts-kept hosts (Some change) each own = All-set IsHostWithin hosts change.host change.row own each

all-hosts-kept : (hosts : List HostRow) (change : Option HostChange) → length (hosts_with change hosts) ≡ length hosts
all-hosts-kept hosts None = refl
all-hosts-kept hosts (Some change) = length-set hosts change.host change.row

heads-kept : (kept : Kept) (heads : Option Heads) → IsWithinBounds kept → IfSome heads (AreHeadsWithin kept.next) → AreHeadsWithin kept.next
    (heads_with heads (heads_of kept))
heads-kept kept None within own = record {
  opened = within.opened;
  boot = within.boot;
  long = within.long;
  short = within.short;
  ids = omega arith;
  few_ids = within.few_ids;
}
heads-kept kept (Some heads) within own = own

raises : (kept : Kept) (heads : Option Heads) → RaisesNext kept heads → kept.next < (heads_with heads (heads_of kept)).next
raises kept None none = absurd none
raises kept (Some heads) raised = omega arith

alone-of : (kept : Kept) (change : Change) (removed : Option ℕ) → IfSome removed (FitsRemoval kept change)
    → IfSome removed (λ id. (change.file ≡ None) × (change.block ≡ None))
alone-of kept change None fits = tt
alone-of kept change (Some id) fits = (fits.no_file, fits.no_block)

-- the kept state after a change that fits is within its bounds, where the numbers of the change are within theirs
pub within-applied : (kept : Kept) (change : Change) → IsWithinBounds kept → Fits kept change → IsChangeWithin kept change
    → IsWithinBounds (applied kept change)
unfolding kept_as
within-applied kept change within fits own =
    let heads : AreHeadsWithin kept.next (heads_with change.heads (heads_of kept)) = heads-kept kept change.heads within own.heads in
    let w : FilesWithin kept.next kept.files = record {
      each = within.files;
      apart = within.apart;
      few_files = within.few_files;
      few_blocks =
          within.few_blocks;
    } in
    let files = files-kept kept change.heads (heads_with change.heads (heads_of kept)).next change.removed change.file change.block w within.ids
    heads.ids (raises kept change.heads) (alone-of kept change change.removed fits.removed) fits.file own.file fits.block own.block in
    record {
      files = files.each;
      apart = files.apart;
      few_files = files.few_files;
      few_blocks = files.few_blocks;
      hosts = hosts-kept kept.hosts change.host within.hosts own.host;
      all_hosts = all-hosts-kept kept.hosts change.host ∙ within.all_hosts;
      opened = heads.opened;
      boot = heads.boot;
      long = heads.long;
      short = heads.short;
      ids = let more = heads.ids in let one = within.ids in omega arith;
      few_ids = heads.few_ids;
    }
