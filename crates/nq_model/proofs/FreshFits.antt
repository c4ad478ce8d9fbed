-- What a fresh request changes can be kept, where the kept state is orderly.
use Rattle.std.proofs.Common.{◌≡◌, ◌≢◌, ◌<◌, ◌≤◌, ℕ, ◌+◌, ◌-◌, ◌==◌, Bool, true, false, ◌||◌, List, [], ◌∷◌, ◌++◌, Option, Some, None, if◌then◌else◌}
use Rattle.std.proofs.Common.{length, get_or, refl, sym, subst, ap, ◌∙◌, arith, length-append}
use Rattle.std.specs.List.{All}
use Rattle.std.specs.Prelude.{is_some, nat_lt, nat_le, IsSome, replicate}
use Rattle.std.proofs.lemmas.Bool.Decides.{nat_tests}
use Rattle.std.proofs.lemmas.List.{length-take, length-replicate, length-map}
use Rattle.std.proofs.lemmas.List.Elements.{All-head, All-tail}
use Rattle.std.proofs.lemmas.List.Sums.{sum_by-append, sum_by-cons}
use Rattle.nq_base.specs.Block.{zeros}
use Rattle.nq_base.specs.declared.Effect.{Effect}
use Rattle.nq_base.specs.declared.FileRow.{FileRow}
use Rattle.nq_base.specs.declared.Gate.{Gate}
use Rattle.nq_base.specs.declared.Gate.TheVariants.{Recovering, Serving}
use Rattle.nq_base.specs.declared.Heads.{Heads}
use Rattle.nq_base.specs.declared.PushBase.{PushBase}
use Rattle.nq_base.specs.declared.Request.{Request}
use Rattle.nq_base.specs.declared.Request.TheVariants.{Attach, Create, Write, Resize, Remove}
use Rattle.nq_base.specs.declared.Verdict.{Verdict}
use Rattle.nq_base.specs.declared.Who.{Who}
use Rattle.nq_model.specs.protocol.Change.{row_of, row_of_found, heads_of, space_of, IsNextFree, IsRowOf, FitsFile, HasBlock, Fits, AreApart, IsOrderly}
use Rattle.nq_model.specs.protocol.Change.{IsWithinBounds, raised_row, file_of, with_file, with_file_at, no_change, fencing, change_of_heads}
use Rattle.nq_model.specs.protocol.Decided.{no_effect, creation, block_write, length_change, removal, effect_of_create, effect_of_push, effect_of_write_in}
use Rattle.nq_model.specs.protocol.Decided.{effect_of_write, effect_of_write_recovering, effect_of_resize, effect_of_remove, effect_of, change_with}
use Rattle.nq_model.specs.protocol.Decided.{fresh_change}
use Rattle.nq_model.specs.protocol.Kept.{File, Kept, blocks_of, blocks_in_all, find_file, find_name, replace_file, resized}
use Rattle.nq_model.specs.protocol.Message.{asker}
use Rattle.nq_model.specs.protocol.Profile.{most_hosts, most_files, most_blocks, most_blocks_of_file, most_ids}
use Rattle.nq_model.proofs.Finding.{choice, number-same}
use Rattle.nq_model.proofs.Files.{found-id, replaced-found}

found-has-first : (P : File → Type 0) (f file : File) (rest : Option File) (b : Bool) → P f → (rest ≡ Some file → P file)
    → (if b then Some f else rest) ≡ Some file → P file
found-has-first P f file rest true own later h = let same : f ≡ file = cc in subst P same own
found-has-first P f file rest false own later h = later h

-- the file that is found has what each file has
pub found-has : (P : File → Type 0) (id : ℕ) (files : List File) (file : File) → All P files → find_file id files ≡ Some file → P file
found-has P id [] file each found = absurd (cc)
found-has P id (f ∷ files) file each found =
    found-has-first P f file (find_file id files) (f.id == id) (All-head P f files each) (found-has P id files file (All-tail P f files each)) found

other-first : (id : ℕ) (f : File) (rest : Option File) (b : Bool) → (f.id == id) ≡ b → f.id ≢ id → rest ≡ None → (if b then Some f else rest) ≡ None
other-first id f rest true e other none = absurd (other (grind (arith, nat_tests)))
other-first id f rest false e other none = none

-- an id that no file has is not found
pub none-has : (id : ℕ) (files : List File) → All (λ f. f.id ≢ id) files → find_file id files ≡ None
none-has id [] each = refl
none-has id (f ∷ files) each =
    other-first id f (find_file id files) (f.id == id) refl (All-head (λ f. f.id ≢ id) f files each)
    (none-has id files (All-tail (λ f. f.id ≢ id) f files each))

-- the next id is free, since all ids are below it
pub next-free : (kept : Kept) → IsOrderly kept → IsNextFree kept
next-free kept within = none-has kept.next kept.files (λ k d i same. let own = within.below k d i in omega arith)

pub resized-length : (blocks : ℕ) (bodies : List (List ℕ)) → length (resized blocks bodies) ≡ blocks
resized-length blocks bodies = omega (
  arith,
  length-take blocks (bodies ++ replicate blocks zeros),
  length-append bodies (replicate blocks zeros),
  length-replicate blocks zeros,
)

replaces-first : (file f : File) (b : Bool) → (f.id == file.id) ≡ b → f.id ≢ file.id → (if b then file else f) ≡ f
replaces-first file f true e other = absurd (other (grind (arith, nat_tests)))
replaces-first file f false e other = refl

-- a file whose id none of these has replaces nothing
replaces-none : (file : File) (files : List File) → All (λ f. f.id ≢ file.id) files → replace_file file files ≡ files
replaces-none file [] each = refl
replaces-none file (f ∷ files) each =
    let first : (if f.id == file.id then file else f) ≡ f = replaces-first file f (f.id == file.id) refl (All-head (λ f. f.id ≢ file.id) f files each) in
    let rest : replace_file file files ≡ files = replaces-none file files (All-tail (λ f. f.id ≢ file.id) f files each) in
    ap (λ y. y ∷ replace_file file files) first ∙ ap (λ ys. f ∷ ys) rest

-- the blocks of all files are those of the first and of the others
pub blocks-first : (f : File) (files : List File) → blocks_in_all (f ∷ files) ≡ blocks_of f + blocks_in_all files
blocks-first f files = sum_by-cons blocks_of f files

-- of files with ids that rise, one that is found at the head is not among the others
others-differ : (file x : File) (files : List File) → All (λ later. x.id < later.id) files → file.id ≡ x.id → All (λ f. f.id ≢ file.id) files
others-differ file x files later same k d i equal = let above : x.id < (get_or files k d).id = later k d i in omega arith

replaced-here : (file f x : File) (files : List File) → All (λ later. x.id < later.id) files → file.id ≡ x.id → f ≡ x
    → blocks_in_all (replace_file file (x ∷ files)) + blocks_of f ≡ blocks_in_all (x ∷ files) + blocks_of file
replaced-here file f x files later same is =
    let first : (if x.id == file.id then file else x) ≡ file = ap (λ b. if b then file else x) (number-same x.id file.id (sym same)) in
    let rest : replace_file file files ≡ files = replaces-none file files (others-differ file x files later same) in
    let whole : replace_file file (x ∷ files) ≡ file ∷ files = ap (λ y. y ∷ replace_file file files) first ∙ ap (λ ys. file ∷ ys) rest in
    let length_f : blocks_of f ≡ blocks_of x = ap blocks_of is in
    let sum : blocks_in_all (replace_file file (x ∷ files)) ≡ blocks_of file + blocks_in_all files = ap blocks_in_all whole ∙ blocks-first file files in
    let sum_before : blocks_in_all (x ∷ files) ≡ blocks_of x + blocks_in_all files = blocks-first x files in
    omega arith

replaced-later : (file f x : File) (files : List File) → x.id ≢ file.id → blocks_in_all (replace_file file files) + blocks_of f ≡ blocks_in_all files
    + blocks_of file → blocks_in_all (replace_file file (x ∷ files)) + blocks_of f ≡ blocks_in_all (x ∷ files) + blocks_of file
replaced-later file f x files other rest =
    let first : (if x.id == file.id then file else x) ≡ x = replaces-first file x (x.id == file.id) refl other in
    let whole : replace_file file (x ∷ files) ≡ x ∷ replace_file file files = ap (λ y. y ∷ replace_file file files) first in
    let sum : blocks_in_all (replace_file file (x ∷ files)) ≡ blocks_of x + blocks_in_all (replace_file file files) = ap blocks_in_all whole
    ∙ blocks-first x (replace_file file files) in
    let sum_before : blocks_in_all (x ∷ files) ≡ blocks_of x + blocks_in_all files = blocks-first x files in
    omega arith

true-false : (b : Bool) → b ≡ true → b ≡ false → ⊥
true-false b t f = cc

-- with another length of one file, the blocks of all files are as many more or fewer
pub blocks-replaced : (file f : File) (files : List File) → AreApart files → file.id ≡ f.id → find_file f.id files ≡ Some f
    → blocks_in_all (replace_file file files) + blocks_of f ≡ blocks_in_all files + blocks_of file
blocks-replaced file f [] apart same found = absurd (cc)
blocks-replaced file f (x ∷ files) apart same found =
    by (x.id == f.id) refl found (blocks-replaced file f files apart.2 same)
  where
    by : (b : Bool) → (x.id == f.id) ≡ b → (if b then Some x else find_file f.id files) ≡ Some f → (find_file f.id files ≡ Some f
        → blocks_in_all (replace_file file files) + blocks_of f ≡ blocks_in_all files + blocks_of file)
        → blocks_in_all (replace_file file (x ∷ files)) + blocks_of f ≡ blocks_in_all (x ∷ files) + blocks_of file
    by true e h rest = let is : x ≡ f = cc in replaced-here file f x files apart.0 (same ∙ ap (λ y. y.id) (sym is)) (sym is)
    by false e h rest = replaced-later file f x files (λ equal. let bad : (x.id == f.id) ≡ true = number-same x.id f.id (equal ∙ same) in
        absurd (true-false (x.id == f.id) bad e)) (rest h)

-- as many files stand after one was replaced
pub length-replaced : (file : File) (files : List File) → length (replace_file file files) ≡ length files
length-replaced file files = length-map files (λ f. if f.id == file.id then file else f)

-- no file has more blocks than all together
pub blocks-of-one : (f : File) (files : List File) → find_file f.id files ≡ Some f → blocks_of f ≤ blocks_in_all files
blocks-of-one f [] found = absurd (cc)
blocks-of-one f (x ∷ files) found = by (x.id == f.id) found (blocks-of-one f files)
  where
    by : (b : Bool) → (if b then Some x else find_file f.id files) ≡ Some f → (find_file f.id files ≡ Some f → blocks_of f ≤ blocks_in_all files)
        → blocks_of f ≤ blocks_in_all (x ∷ files)
    by true h rest = let is : x ≡ f = cc in let same : blocks_of x ≡ blocks_of f = ap blocks_of is in let sum : blocks_in_all (x ∷ files)
        ≡ blocks_of x + blocks_in_all files = blocks-first x files in omega arith
    by false h rest = let sum : blocks_in_all (x ∷ files) ≡ blocks_of x + blocks_in_all files = blocks-first x files in let below : blocks_of f
        ≤ blocks_in_all files = rest h in omega arith

-- ---- each effect

module _ (kept : Kept) (within : IsOrderly kept) (who : Who) (few : who.host < most_hosts) (seq : ℕ) where
  -- a change without effect
  abbrev Keeps : Effect → Type 0
  Keeps e = Fits kept (change_with who seq e)

  keeps-none : (verdict : Verdict) → Keeps (no_effect verdict)
  unfolding change_with no_effect
  keeps-none verdict = record { file = tt; block = tt; host = few; heads = tt; removed = tt }

  keeps-creation : (name : List ℕ) (blocks : ℕ) → 1 ≤ blocks → blocks ≤ most_blocks_of_file → find_name name kept.files ≡ None → length kept.files
      < most_files → blocks_in_all kept.files + blocks ≤ most_blocks → Keeps (creation (heads_of kept) name blocks)
  unfolding change_with creation file_of
  keeps-creation name blocks some short none room fits =
      let free : IsNextFree kept = next-free kept within in
      let row : FileRow = record { id = kept.next; name = name; blocks = blocks; rev = 0 } in
      let made : File = record { id = kept.next; name = name; rev = 0; bodies = resized blocks [] } in
      let after : with_file row kept.files ≡ kept.files ++ made ∷ [] = ap (with_file_at row kept.files) free in
      record {
        file = record {
          of_file = subst (IsRowOf kept (Some (record { boot = kept.boot; opened = kept.opened; longest = kept.longest; next = kept.next + 1 })) row)
              (sym free) (refl, none, refl);
          not_empty = some;
          short = short;
          few_files = subst (λ files. length files ≤ most_files) (sym after) (omega (arith, length-append kept.files (made ∷ [])));
          few_blocks = subst (λ files. blocks_in_all files ≤ most_blocks) (sym after) (omega (
            arith,
            sum_by-append blocks_of kept.files (made ∷ []),
            blocks-first made [],
            resized-length blocks [],
          ));
        };
        block = tt;
        host = few;
        heads = omega arith;
        removed = tt;
      }

  -- the row of a kept file with so many blocks
  raised-fits : (f : File) (blocks : ℕ) → find_file f.id kept.files ≡ Some f → 1 ≤ blocks → blocks ≤ most_blocks_of_file → blocks_in_all kept.files
      + blocks ≤ most_blocks + blocks_of f → FitsFile kept None (raised_row (row_of f) blocks)
  unfolding raised_row file_of
  raised-fits f blocks found some short fits =
      let row : FileRow = record { id = f.id; name = f.name; blocks = blocks; rev = f.rev + 1 } in
      let file : File = record { id = f.id; name = f.name; rev = f.rev + 1; bodies = resized blocks f.bodies } in
      let after : with_file row kept.files ≡ replace_file file kept.files = ap (with_file_at row kept.files) found in
      record {
        of_file = subst (IsRowOf kept None row) (sym found) refl;
        not_empty = some;
        short = short;
        few_files = subst (λ files. length files ≤ most_files) (sym after) (let few_files = within.few_files in
            omega (arith, length-replaced file kept.files));
        few_blocks = subst (λ files. blocks_in_all files ≤ most_blocks) (sym after) (omega (
          arith,
          blocks-replaced file f kept.files within.apart refl
              found,
          resized-length blocks f.bodies,
        ));
      }

  file-length : (f : File) → find_file f.id kept.files ≡ Some f → (1 ≤ blocks_of f) × (blocks_of f ≤ most_blocks_of_file)
  file-length f found = found-has (λ file. (1 ≤ blocks_of file) × (blocks_of file ≤ most_blocks_of_file)) f.id kept.files f within.lengths found

  raised-alike : (f : File) → find_file f.id kept.files ≡ Some f → FitsFile kept None (raised_row (row_of f) (blocks_of f))
  raised-alike f found = let own = file-length f found in let all = within.few_blocks in raised-fits f (blocks_of f) found own.0 own.1 (omega arith)

  keeps-write : (f : File) (block : ℕ) (body : List ℕ) → find_file f.id kept.files ≡ Some f → block < blocks_of f → Keeps (block_write (row_of f) block body)
  unfolding change_with block_write raised_row file_of
  keeps-write f block body found below =
      let row : FileRow = record { id = f.id; name = f.name; blocks = blocks_of f; rev = f.rev + 1 } in
      let file : File = record { id = f.id; name = f.name; rev = f.rev + 1; bodies = resized (blocks_of f) f.bodies } in
      let after : with_file row kept.files ≡ replace_file file kept.files = ap (with_file_at row kept.files) found in
      let there : find_file f.id (with_file row kept.files) ≡ Some file = ap (find_file f.id) after ∙ replaced-found f.id kept.files file f refl found in
      record {
        file = raised-alike f found;
        block = subst (HasBlock block) (sym there) (omega (arith, resized-length (blocks_of f) f.bodies));
        host = few;
        heads = tt;
        removed = tt;
      }

  keeps-length : (f : File) (blocks : ℕ) → find_file f.id kept.files ≡ Some f → 1 ≤ blocks → blocks ≤ most_blocks_of_file
      → (blocks_in_all kept.files - blocks_of f) + blocks ≤ most_blocks → Keeps (length_change (row_of f) blocks)
  unfolding change_with length_change
  keeps-length f blocks found some short fits = record {
    file = raised-fits f blocks found some short (let one = blocks-of-one f kept.files found in omega arith);
    block = tt;
    host = few;
    heads = tt;
    removed = tt;
  }

  keeps-removal : (f : File) → find_file f.id kept.files ≡ Some f → Keeps (removal (row_of f))
  unfolding change_with removal
  keeps-removal f found = record {
    file = tt;
    block = tt;
    host = few;
    heads = tt;
    removed = record { is_kept = subst IsSome (sym found) refl; no_file = refl; no_block = refl };
  }

  -- ---- each request

  keeps-create : (name : List ℕ) (blocks : ℕ) → Keeps (effect_of_create (space_of kept) (heads_of kept) (is_some (find_name name kept.files)) name blocks)
  keeps-create name blocks =
      choice Keeps (blocks == 0 || nat_lt most_blocks_of_file blocks) _ _ (λ bad. keeps-none Verdict.Invalid) (λ good.
      choice Keeps (is_some (find_name name kept.files)) _ _ (λ there. keeps-none Verdict.Exist) (λ free.
      choice Keeps (nat_le most_files (length kept.files) || nat_lt most_blocks (blocks_in_all kept.files + blocks) || nat_le most_ids kept.next) _ _
      (λ full. keeps-none Verdict.NoSpace) (λ room.
      keeps-creation name blocks (grind (arith, nat_tests)) (grind (arith, nat_tests)) (none-of (find_name name kept.files) free)
      (grind (arith, nat_tests)) (grind (arith, nat_tests)))))
    where
      none-of : (o : Option File) → is_some o ≡ false → o ≡ None
      none-of None e = refl
      none-of (Some f) e = absurd (cc)

  keeps-push : (boot : ℕ) (held : Bool) (f : File) (block : ℕ) (base : PushBase) (body : List ℕ) → find_file f.id kept.files ≡ Some f
      → block < blocks_of f → Keeps (effect_of_push boot held (row_of f) block base body)
  keeps-push boot held f block base body found below = choice Keeps _ _ _ (λ lets. keeps-write f block body found below) (λ late. keeps-none Verdict.Fenced)

  keeps-write-in : (boot : ℕ) (conflict held : Bool) (f : File) (block : ℕ) (push : Option PushBase) (body : List ℕ) → find_file f.id kept.files
      ≡ Some f → block < blocks_of f → Keeps (effect_of_write_in boot conflict held (row_of f) block push body)
  keeps-write-in boot conflict held f block None body found below = choice Keeps conflict _ _ (λ c. keeps-none Verdict.TryLater)
      (λ c. keeps-write f block body found below)
  keeps-write-in boot conflict held f block (Some base) body found below = keeps-push boot held f block base body found below

  own-found : (file : ℕ) (f : File) → find_file file kept.files ≡ Some f → find_file f.id kept.files ≡ Some f
  own-found file f found = ap (λ i. find_file i kept.files) (found-id file kept.files f found) ∙ found

  keeps-write-of : (boot : ℕ) (conflict held : Bool) (file block : ℕ) (push : Option PushBase) (body : List ℕ) (o : Option File)
      → find_file file kept.files ≡ o → Keeps (effect_of_write boot conflict held (row_of_found o) block push body)
  keeps-write-of boot conflict held file block push body None found = keeps-none Verdict.Stale
  keeps-write-of boot conflict held file block push body (Some f) found =
      choice Keeps (nat_le (blocks_of f) block) _ _ (λ past. keeps-none Verdict.Invalid) (λ below. keeps-write-in boot conflict held f block push body
      (own-found file f found) (grind (arith, nat_tests)))

  keeps-resize : (conflict : Bool) (file blocks : ℕ) (o : Option File) → find_file file kept.files ≡ o
      → Keeps (effect_of_resize (blocks_in_all kept.files) conflict (row_of_found o) blocks)
  keeps-resize conflict file blocks None found = keeps-none Verdict.Stale
  keeps-resize conflict file blocks (Some f) found =
      choice Keeps (blocks == 0 || nat_lt most_blocks_of_file blocks) _ _ (λ bad. keeps-none Verdict.Invalid) (λ good.
      choice Keeps (nat_lt most_blocks ((blocks_in_all kept.files - blocks_of f) + blocks)) _ _ (λ full. keeps-none Verdict.NoSpace) (λ room.
      choice Keeps conflict _ _ (λ c. keeps-none Verdict.TryLater) (λ c.
      keeps-length f blocks (own-found file f found) (grind (arith, nat_tests)) (grind (arith, nat_tests)) (grind (arith, nat_tests)))))

  keeps-remove : (conflict : Bool) (file : ℕ) (o : Option File) → find_file file kept.files ≡ o → Keeps (effect_of_remove conflict (row_of_found o))
  keeps-remove conflict file None found = keeps-none Verdict.Stale
  keeps-remove conflict file (Some f) found = choice Keeps conflict _ _ (λ c. keeps-none Verdict.TryLater) (λ c. keeps-removal f (own-found file f found))

  keeps-write-recovering : (opened file block : ℕ) (push : Option PushBase) (body : List ℕ)
      → Keeps (effect_of_write_recovering opened (row_of_found (find_file file kept.files)) block push body)
  keeps-write-recovering opened file block None body = keeps-none Verdict.TryLater
  keeps-write-recovering opened file block (Some base) body = keeps-write-of opened false true file block (Some base) body (find_file file kept.files) refl

  -- whatever a fresh request comes to can be kept
  pub effect-fits : (gate : Gate) (r : Request) → Fits kept (change_with who seq (effect_of kept gate r))
  effect-fits gate (Attach w) = keeps-none Verdict.Done
  effect-fits (Serving boot conflict held) (Create w n name blocks) = keeps-create name blocks
  effect-fits (Serving boot conflict held) (Write w n file block first last push body) = keeps-write-of boot conflict held file block push body
      (find_file file kept.files) refl
  effect-fits (Serving boot conflict held) (Resize w n q file blocks) = keeps-resize conflict file blocks (find_file file kept.files) refl
  effect-fits (Serving boot conflict held) (Remove w n q file) = keeps-remove conflict file (find_file file kept.files) refl
  effect-fits (Serving boot conflict held) other = keeps-none Verdict.TryLater
  effect-fits (Recovering opened) (Write w n file block first last push body) = keeps-write-recovering opened file block push body
  effect-fits (Recovering opened) other = keeps-none Verdict.TryLater

nothing-fits : (kept : Kept) → Fits kept no_change
unfolding no_change
nothing-fits kept = record { file = tt; block = tt; host = tt; heads = tt; removed = tt }

same-host : (r : Request) (w who : Who) → Some w ≡ Some who → who.host < most_hosts → w.host < most_hosts
same-host r w who e few = let same : w ≡ who = cc in subst (λ v. v.host < most_hosts) (sym same) few

-- the change of a fresh request can be kept
pub fresh-fits : (kept : Kept) (gate : Gate) (r : Request) (who : Who) → IsOrderly kept → asker r ≡ Some who → who.host < most_hosts
    → Fits kept (fresh_change kept gate r)
fresh-fits kept gate (Attach w) who within by few = effect-fits kept within w (same-host (Attach w) w who by few) 0 gate (Attach w)
fresh-fits kept gate (Create w n name blocks) who within by few = effect-fits kept within w (same-host (Attach w) w who by few) n gate (Create w n name blocks)
fresh-fits kept gate (Write w n file block first last push body) who within by few = effect-fits kept within w (same-host (Attach w) w who by few) n
    gate (Write w n file block first last push body)
fresh-fits kept gate (Resize w n q file blocks) who within by few = effect-fits kept within w (same-host (Attach w) w who by few) n gate
    (Resize w n q file blocks)
fresh-fits kept gate (Remove w n q file) who within by few = effect-fits kept within w (same-host (Attach w) w who by few) n gate (Remove w n q file)
fresh-fits kept gate other who within by few = nothing-fits kept

-- a file that is fenced can be kept
pub fencing-fits : (kept : Kept) (f : File) → IsOrderly kept → find_file f.id kept.files ≡ Some f → Fits kept (fencing (row_of f))
unfolding fencing
fencing-fits kept f within found = record {
  file = raised-alike kept within (record { host = 0; inc = 0 }) (omega arith) 0 f found;
  block = tt;
  host =
      tt;
  heads = tt;
  removed = tt;
}

-- and so can the server's numbers
pub heads-fit : (kept : Kept) (heads : Heads) → kept.next ≤ heads.next → Fits kept (change_of_heads heads)
unfolding change_of_heads
heads-fit kept heads stays = record { file = tt; block = tt; host = tt; heads = stays; removed = tt }

-- a kept state within its bounds is orderly
pub orderly-within : (kept : Kept) → IsWithinBounds kept → IsOrderly kept
orderly-within kept within = record {
  apart = within.apart;
  below = λ k d i. (within.files k d i).below_next;
  lengths = λ k d i. ((within.files k d i).not_empty, (within.files k d i).short);
  few_files = within.few_files;
  few_blocks = within.few_blocks;
  all_hosts = within.all_hosts;
}
