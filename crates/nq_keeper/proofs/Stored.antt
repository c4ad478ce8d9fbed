-- Files stay in order through each change of them.
use Rattle.std.proofs.Common.{◌≡◌, ℕ, ◌+◌, ◌-◌, ◌≤◌, ◌==◌, not, List, [], Option, Some, None, length, refl, sym, subst, ap, ◌∙◌, arith}
use Rattle.std.specs.Prelude.{slice_set}
use Rattle.std.proofs.lemmas.List.{length-set}
use Rattle.nq_base.specs.declared.BlockChange.{BlockChange}
use Rattle.nq_base.specs.declared.FileRow.{FileRow}
use Rattle.nq_keeper.specs.InOrder.{AreStored, FitsAmong, IsRowAmong}
use Rattle.nq_keeper.proofs.MadeFiles.{made-id, made-name}
use Rattle.nq_model.specs.protocol.Change.{AreApart, HasBlock, file_of, with_block, with_block_in, with_body, with_file, with_file_at}
use Rattle.nq_model.specs.protocol.Kept.{File, blocks_of, blocks_in_all, find_file, find_name, drop_file}
use Rattle.nq_model.specs.protocol.Profile.{most_files, most_blocks}
use Rattle.nq_model.proofs.Files.{found-id}
use Rattle.nq_model.proofs.FreshFits.{blocks-replaced, length-replaced}
use Rattle.nq_model.proofs.WithinBounds.{named-as-found, apart-replaced, apart-filtered, apart-added, fewer-files, fewer-blocks}

-- without a file
pub stored-dropped : (files new : List File) (blocks had id : ℕ) → AreStored files blocks → new ≡ drop_file id files → had + blocks_in_all new
    ≡ blocks_in_all files → AreStored new (blocks - had)
stored-dropped files new blocks had id stored is sum = record {
  apart = subst AreApart (sym is) (apart-filtered (λ f. not (f.id == id)) files stored.apart);
  few_files = let few = stored.few_files in subst (λ l. length l ≤ most_files) (sym is) (omega (arith, fewer-files (λ f. not (f.id == id)) files));
  few_blocks = let few = stored.few_blocks in subst (λ l. blocks_in_all l ≤ most_blocks) (sym is) (omega (arith, fewer-blocks (λ f. not (f.id == id)) files));
  count = let count = stored.count in omega arith;
}

-- the files with a row's file are apart
apart-with : (row : FileRow) (files : List File) (found : Option File) → AreApart files → find_file row.id files ≡ found → IsRowAmong row files found
    → AreApart (with_file_at row files found)
apart-with row files None apart is among =
    apart-added row.id (file_of row []) files among.0 (made-id row []) (subst (λ n. find_name n files ≡ None) (sym (made-name row [])) among.1) apart
apart-with row files (Some f) apart is among =
    apart-replaced (file_of row f.bodies) files
    (named-as-found (file_of row f.bodies) f files apart (ap (λ i. find_file i files) (made-id row f.bodies) ∙ is) (sym among ∙ sym (made-name row f.bodies)))
    apart

-- with a row's file
pub stored-put : (files new : List File) (blocks had : ℕ) (row : FileRow) → AreStored files blocks → FitsAmong row files → new ≡ with_file row files
    → had + blocks_in_all new ≡ blocks_in_all files + row.blocks → AreStored new ((blocks + row.blocks) - had)
stored-put files new blocks had row stored fits is sum = record {
  apart = subst AreApart (sym is) (apart-with row files (find_file row.id files) stored.apart refl fits.among);
  few_files = subst (λ l. length l ≤ most_files) (sym is) fits.few_files;
  few_blocks = subst (λ l. blocks_in_all l ≤ most_blocks) (sym is) fits.few_blocks;
  count = let count = stored.count in omega arith;
}

-- with another body of a block
module _ (files : List File) (blocks : ℕ) (b : BlockChange) (stored : AreStored files blocks) where
  body-stored : (found : Option File) → find_file b.file files ≡ found → HasBlock b.block found → AreStored (with_block_in b files found) blocks
  unfolding with_body
  body-stored None is has = absurd has
  body-stored (Some f) is has =
      let x : File = with_body f b.block b.body in
      let here : find_file f.id files ≡ Some f = ap (λ i. find_file i files) (found-id b.file files f is) ∙ is in
      let size : length (slice_set f.bodies b.block b.body) ≡ blocks_of f = length-set f.bodies b.block b.body in
      let sum = blocks-replaced x f files stored.apart refl here in
      record {
        apart = apart-replaced x files (named-as-found x f files stored.apart here refl) stored.apart;
        few_files = let few = stored.few_files in omega (arith, length-replaced x files);
        few_blocks = let few = stored.few_blocks in omega arith;
        count = let count = stored.count in omega arith;
      }

  pub stored-written : (new : List File) → new ≡ with_block b files → HasBlock b.block (find_file b.file files) → AreStored new blocks
  stored-written new is has = subst (λ l. AreStored l blocks) (sym is) (body-stored (find_file b.file files) refl has)
