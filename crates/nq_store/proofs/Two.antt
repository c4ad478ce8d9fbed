-- An image of version 1 that was migrated is one of version 2, and stands for the same.
use Rattle.std.proofs.Common.{◌≡◌, ◌≤◌, ◌+◌, ◌-◌, ◌*◌, ℕ, false, List, [], ◌∷◌, ◌++◌, Option, Some, Ok, length, get_or, refl, sym, ap, subst, ◌∙◌, arith}
use Rattle.std.specs.Prelude.{nat_eq, sum_by}
use Rattle.std.specs.Cmp.Lexicographic.{pointwise}
use Rattle.std.proofs.lemmas.List.Elements.{All-nil}
use Rattle.nq_model.specs.protocol.Kept.{Kept}
use Rattle.nq_image.specs.Heads.{front_checks, front_of, version_of}
use Rattle.nq_image.specs.Hosts.{hosts_checks, hosts_of}
use Rattle.nq_image.specs.Image.{FoundOne, FoundTables, FoundTwo, no_marks}
use Rattle.nq_image.specs.Kept.{FoundKept, files_of, kept_in, kept_one, kept_two, numbers_from, opened, stands_for}
use Rattle.nq_image.specs.Layout.{are_zeros, block_place, piece}
use Rattle.nq_image.specs.Rows.{blocks_of, rows_checks, slots_of}
use Rattle.nq_image.specs.Tables.{ids_checks, ids_of, tables_marks}
use Rattle.nq_image.specs.Whole.{image_in, of_one}
use Rattle.nq_image.specs.Writing.{entries_bytes, front_bytes, table_bytes, zeros_of}
use Rattle.nq_image.specs.declared.FoundFile.{FoundFile}
use Rattle.nq_image.specs.declared.Front.{Front}
use Rattle.nq_image.specs.declared.Slot.{Slot}
use Rattle.nq_image.specs.declared.Version.{Version}
use Rattle.nq_image.proofs.Giving.{tables-length}
use Rattle.nq_image.proofs.Holding.{length-slots}
use Rattle.nq_image.proofs.Imaging.{front-holds, front-is, length-marks, no-marks}
use Rattle.nq_image.proofs.Parting.{BeginsAsTwo, HasParts, image-of-parts}
use Rattle.nq_image.proofs.Pieces.{at-piece}
use Rattle.nq_image.proofs.ReadBack.{Hold}
use Rattle.nq_image.proofs.Tabling.{AreFree, all-held}
use Rattle.nq_store.specs.Migrated.{IsMigrated, files_in}
use Rattle.nq_store.proofs.Ids.{AreIdsBack, few-files, ids-back, length-files}
use Rattle.nq_store.proofs.Numbers.{AreBootsRight, boots-right, front-then, numbered, numbered-within, piece-behind}
use Rattle.nq_store.proofs.Parts.{HasPartsOfOne, parts-of-one}
use Rattle.nq_store.proofs.ImagesRows.{AreFirst, few-blocks, rows-two, used-first}
use Rattle.nq_store.proofs.Same.{kept-stays, opens-as-one, reaches-end, same-bodies}
use Rattle.nq_store.proofs.Tables.{table-same, tables-right}

is-two : version_of 50 ≡ Some Version.Two
unfolding version_of
is-two = refl

module _ (found : FoundOne) (old new : List ℕ) (p : HasPartsOfOne old found) (m : IsMigrated found old new) where
  abbrev slots : List (Option Slot)
  slots = found.rows.slots

  abbrev total : ℕ
  total = sum_by blocks_of found.rows.slots

  abbrev count : ℕ
  count = files_in found.rows.slots

  abbrev last : List ℕ
  last = entries_bytes (files_in found.rows.slots) 0 ++ zeros_of (4096 - 4 * files_in found.rows.slots)

  every : length slots ≡ 256
  every = ap length (sym p.rows.rows_are) ∙ length-slots 256 (piece 2112 24576 old)

  near : total ≤ 16384
  near =
      let few = few-blocks 256 2112 (piece 2112 24576 old) p.rows.rows in
      let Few : List (Option Slot) → Type 0 = λ s. sum_by blocks_of s ≤ 16384 in
      subst Few p.rows.rows_are few

  few : count ≤ 256
  few = omega (arith, few-files slots, every)

  boots : AreBootsRight found.boots
  boots = boots-right (piece 0 64 old) found.boots p.boots p.boots_are

  ids-there : piece (block_place total + 1048576) 4096 new ≡ last
  unfolding table_bytes
  ids-there = m.ids ∙ table-same count 0

  ids-are : AreIdsBack (count + 1) (block_place total + 1048576) 0 [] slots last
  ids-are =
      let first = subst (λ (s : List (Option Slot)). AreFirst false s) p.rows.rows_are (used-first 256 2112 (piece 2112 24576 old) p.rows.rows) in
      ids-back (count + 1) (block_place total + 1048576) 0 (4096 - 4 * count) [] slots first (All-nil (λ (k : ℕ). k ≤ 0)) (omega arith)
      (omega (arith, few)) (omega (arith, few, every))

  abbrev numbers : Front
  numbers = record {
    boot = found.boots.boot;
    opened = found.boots.opened;
    longest = 60;
    next = files_in found.rows.slots + 1;
    tables =
        sum_by blocks_of found.rows.slots;
  }

  abbrev tables_found : FoundTables
  tables_found = record {
    ids = ids_of found.rows.slots (entries_bytes (files_in found.rows.slots) 0 ++ zeros_of (4096 - 4 * files_in found.rows.slots));
    blocks = numbers_from 0 (sum_by blocks_of found.rows.slots);
    marks = tables_marks (block_place (sum_by blocks_of found.rows.slots)) found.rows.slots (no_marks 16641) new;
  }

  abbrev two : FoundTwo
  two = record { front = numbers; rows = found.rows; tables = tables_found }

  front : piece 0 64 new ≡ front_bytes total (numbered found)
  front = front-then found old new p m

  all-free : AreFree 0 (no_marks 16641)
  all-free k le = no-marks 16641 k

  parts : HasParts new two
  parts =
      let w = numbered-within found boots few in
      let whole = m.whole in
      let hosts = piece-behind 36 2048 old new (omega arith) m.rows in
      let rows = piece-behind 2084 24576 old new (omega arith) m.rows in
      let gap = piece-behind 26660 1984 old new (omega arith) m.rows in
      let tables = tables-right total near (block_place total) 0 slots (no_marks 16641) new m.tables (omega (arith, every, whole)) (omega arith) all-free in
      let Front_holds : List ℕ → Type 0 = λ b. Hold (front_checks b) in
      let Hosts_hold : List ℕ → Type 0 = λ b. Hold (hosts_checks 64 64 b) in
      let Rows_hold : List ℕ → Type 0 = λ b. Hold (rows_checks Version.Two 256 2112 [] b) in
      let Ids_hold : List ℕ → Type 0 = λ b. Hold (ids_checks (count + 1) (block_place total + 1048576) [] slots b) in
      let free : AreFree total tables_found.marks = λ k le. tables.free k (omega (arith, le)) in
      record {
        front = subst Front_holds (sym front) (front-holds total (numbered found) near w);
        front_is = ap front_of front ∙ front-is total (numbered found) near w;
        hosts = subst Hosts_hold (sym hosts) p.rows.hosts;
        hosts_are = ap (hosts_of 64) hosts ∙ p.rows.hosts_are;
        rows = subst Rows_hold (sym rows) (rows-two 256 2112 [] (piece 2112 24576 old) p.rows.rows);
        rows_are = ap (slots_of 256) rows ∙ p.rows.rows_are;
        gap = ap are_zeros gap ∙ p.rows.gap;
        tables = tables.holds;
        blocks_are = tables.blocks;
        marks_are = refl;
        ids_whole = omega (arith, whole);
        ids = subst Ids_hold (sym ids-there) ids-are.holds;
        ids_are = ap (ids_of slots) ids-there;
        held_all = all-held (length new) total tables_found.marks free (tables-length (block_place total) slots (no_marks 16641) new
            ∙ length-marks 16641) near (omega (arith, whole));
      }

  eighth : get_or new 7 0 ≡ 50
  eighth = sym (at-piece 7 21 0 new (omega arith)) ∙ ap (λ (b : List ℕ). get_or b 0 0) m.numbers

  begins : BeginsAsTwo new
  begins =
      let whole = m.whole in
      record {
        long = omega (arith, whole);
        name = ap (λ (b : List ℕ). pointwise nat_eq b (78 ∷ 81 ∷ 78 ∷ 70 ∷ 83 ∷ 73 ∷ 77 ∷ [])) m.name ∙ p.name;
        version = ap version_of eighth ∙ is-two;
      }

  found-same : kept_two two ≡ kept_one found
  unfolding kept_two kept_one
  found-same =
      let known : ℕ → List FoundFile → FoundKept = λ next files. record {
        heads = record { boot = found.boots.boot; opened = found.boots.opened; longest = 60; next = next };
        hosts = found.rows.hosts;
        files = files;
        blocks = numbers_from 0 (sum_by blocks_of found.rows.slots);
      } in
      let old_files = files_of [] 0 slots (numbers_from 1 256) in
      let files = ids-are.files [] 0 ∙ ap (λ (n : ℕ). files_of [] 0 slots (numbers_from 1 n)) every in
      let long = length-files [] 0 slots (numbers_from 1 256) in
      let same : count ≡ length old_files = omega (arith, long) in
      ap (known (count + 1)) files ∙ ap (λ (n : ℕ). known (n + 1) old_files) same

  opens-as-two : opened new ≡ Some (Ok (kept_in new (kept_two two)))
  unfolding opened
  opens-as-two = ap (stands_for new) (image-of-parts new two begins parts)

  stays : kept_in new (kept_one found) ≡ kept_in old (kept_one found)
  stays =
      let whole = m.whole in
      let end = reaches-end (length old) total p.long p.reaches in
      kept-stays old new found (same-bodies total old new end (omega (arith, whole)) m.blocks)

pub migrated-opens : (found : FoundOne) (old new : List ℕ) → image_in old ≡ Some (Ok (of_one found)) → IsMigrated found old new → opened new ≡ opened old
migrated-opens found old new is m =
    let p = parts-of-one old found is in
    opens-as-two found old new p m
    ∙ ap (λ (k : FoundKept). Some (Ok (kept_in new k))) (found-same found old new p m)
    ∙ ap (λ (k : Kept). Some (Ok k)) (stays found old new p m)
    ∙ sym (opens-as-one old found is)
