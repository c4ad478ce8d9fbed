-- Where the rows and the blocks of the files are the same, an image of version 1 stands for the same.
use Rattle.std.proofs.Common.{◌≡◌, ◌≤◌, ◌<◌, ◌+◌, ◌-◌, ℕ, List, [], ◌∷◌, Some, Ok, length, take, drop, get_or, sym, ap, subst, ◌∙◌, arith}
use Rattle.std.specs.List.{All}
use Rattle.std.specs.Prelude.{nat_eq}
use Rattle.std.specs.Cmp.Lexicographic.{pointwise}
use Rattle.std.proofs.Math.Nat.{div-add-mod'}
use Rattle.std.proofs.lemmas.List.Elements.{All-drop, All-take, All-weaker}
use Rattle.nq_model.specs.protocol.Kept.{File, Kept}
use Rattle.nq_image.specs.Heads.{boots_checks, boots_of, version_of}
use Rattle.nq_image.specs.Hosts.{hosts_checks, hosts_of}
use Rattle.nq_image.specs.Image.{FoundOne}
use Rattle.nq_image.specs.Kept.{FoundKept, body_in, file_in, kept_in, kept_one, numbers_from, opened, stands_for}
use Rattle.nq_image.specs.Layout.{are_zeros, block_place, piece, whole_blocks}
use Rattle.nq_image.specs.Rows.{rows_checks, slots_of}
use Rattle.nq_image.specs.Whole.{image_in, of_one}
use Rattle.nq_image.specs.declared.FoundFile.{FoundFile}
use Rattle.nq_image.specs.declared.Version.{Version}
use Rattle.nq_image.proofs.Agreeing.{map-same}
use Rattle.nq_image.proofs.Giving.{numbers-below}
use Rattle.nq_image.proofs.Pieces.{piece-by-first, piece-same, at-piece}
use Rattle.nq_image.proofs.ReadBack.{Hold}
use Rattle.nq_store.specs.Migrated.{AgreeUpTo, blocks_in}
use Rattle.nq_store.proofs.Parts.{HasPartsOfOne, image-of-one, parts-of-one}

-- ---- bodies

-- the bodies of blocks up to a number are the same
abbrev pub SameBodies : (end : ℕ) (old new : List ℕ) → Type 0
SameBodies end old new = (block : ℕ) → block < end → body_in new block ≡ body_in old block

pub same-kept : (old new : List ℕ) (found : FoundKept) → All (λ block. body_in new block ≡ body_in old block) found.blocks → kept_in new found
    ≡ kept_in old found
unfolding kept_in
same-kept old new found all =
    let Same : ℕ → Type 0 = λ block. body_in new block ≡ body_in old block in
    let with : List File → Kept = λ files. record {
      files = files;
      hosts = found.hosts;
      boot = found.heads.boot;
      opened = found.heads.opened;
      longest = found.heads.longest;
      next = found.heads.next;
    } in
    ap with (map-same (file_in new found.blocks) (file_in old found.blocks) found.files (each found.files))
  where
    of-file : (f : FoundFile) → file_in new found.blocks f ≡ file_in old found.blocks f
    of-file f =
        let own = take f.row.blocks (drop f.start found.blocks) in
        let made : List (List ℕ) → File = λ bodies. record { id = f.row.id; name = f.row.name; rev = f.row.rev; bodies = bodies } in
        ap made (map-same (body_in new) (body_in old) own (All-take (λ block. body_in new block ≡ body_in old block) f.row.blocks
        (drop f.start found.blocks) (All-drop (λ block. body_in new block ≡ body_in old block) f.start found.blocks all)))

    each : (files : List FoundFile) → All (λ f. file_in new found.blocks f ≡ file_in old found.blocks f) files
    each files = λ i d lt. of-file (get_or files i d)

pub numbers-same : (total : ℕ) (old new : List ℕ) → SameBodies total old new → All (λ block. body_in new block ≡ body_in old block) (numbers_from 0 total)
numbers-same total old new same =
    All-weaker (λ b. b < total) (λ block. body_in new block ≡ body_in old block) same (numbers_from 0 total) (numbers-below 0 total total (omega arith))

-- a disk that holds so many blocks whole reaches their end
pub reaches-end : (size blocks : ℕ) → 40960 ≤ size → blocks ≤ whole_blocks size → block_place blocks ≤ size
unfolding whole_blocks
reaches-end size blocks long le = let e = div-add-mod' (size - 40960) 4096 in omega (arith, e, le, long)

pub same-bodies : (total : ℕ) (old new : List ℕ) → block_place total ≤ length old → block_place total ≤ length new
    → ((k : ℕ) → 40960 ≤ k → k < block_place total → get_or new k 0 ≡ get_or old k 0) → SameBodies total old new
same-bodies total old new one two same block lt =
    piece-same (block_place block) 4096 new old (omega (arith, two, lt)) (omega (arith, one, lt)) (λ k less. same (block_place block + k)
    (omega arith) (omega (arith, less, lt)))

-- ---- an image of version 1

more-blocks : (m n : ℕ) → m ≤ n → whole_blocks m ≤ whole_blocks n
unfolding whole_blocks
more-blocks m n le = let e = div-add-mod' (m - 40960) 4096 in let f = div-add-mod' (n - 40960) 4096 in omega (arith, e, f)

eighth-same : (old new : List ℕ) → piece 0 28672 new ≡ piece 0 28672 old → get_or new 7 0 ≡ get_or old 7 0
eighth-same old new same = sym (at-piece 0 28672 7 new (omega arith)) ∙ ap (λ (b : List ℕ). get_or b 7 0) same ∙ at-piece 0 28672 7 old (omega arith)

pub one-stays : (old new : List ℕ) (found : FoundOne) → length old ≤ length new → piece 0 28672 new ≡ piece 0 28672 old → HasPartsOfOne old found
    → HasPartsOfOne new found
one-stays old new found longer same p =
    let first = piece-by-first 28672 0 64 new old (omega arith) same in
    let name = piece-by-first 28672 0 7 new old (omega arith) same in
    let hosts = piece-by-first 28672 64 2048 new old (omega arith) same in
    let rows = piece-by-first 28672 2112 24576 new old (omega arith) same in
    let gap = piece-by-first 28672 26688 1984 new old (omega arith) same in
    let more = more-blocks (length old) (length new) longer in
    let long = p.long in
    let reaches = p.reaches in
    let Boots_hold : List ℕ → Type 0 = λ b. Hold (boots_checks b) in
    let Hosts_hold : List ℕ → Type 0 = λ b. Hold (hosts_checks 64 64 b) in
    let Rows_hold : List ℕ → Type 0 = λ b. Hold (rows_checks Version.One 256 2112 [] b) in
    record {
      long = omega arith;
      name = ap (λ (b : List ℕ). pointwise nat_eq b (78 ∷ 81 ∷ 78 ∷ 70 ∷ 83 ∷ 73 ∷ 77 ∷ [])) name ∙ p.name;
      version = ap version_of (eighth-same old new same) ∙ p.version;
      boots = subst Boots_hold (sym first) p.boots;
      boots_are = ap boots_of first ∙ p.boots_are;
      rows = record {
        hosts = subst Hosts_hold (sym hosts) p.rows.hosts;
        hosts_are = ap (hosts_of 64) hosts ∙ p.rows.hosts_are;
        rows = subst Rows_hold (sym rows) p.rows.rows;
        rows_are = ap (slots_of 256) rows ∙ p.rows.rows_are;
        gap = ap are_zeros gap ∙ p.rows.gap;
      };
      reaches = omega (arith, more, reaches);
    }

pub opens-as-one : (bytes : List ℕ) (found : FoundOne) → image_in bytes ≡ Some (Ok (of_one found)) → opened bytes ≡ Some (Ok (kept_in bytes (kept_one found)))
unfolding opened
opens-as-one bytes found is = ap (stands_for bytes) is

pub kept-stays : (old new : List ℕ) (found : FoundOne) → SameBodies (blocks_in found.rows.slots) old new → kept_in new (kept_one found)
    ≡ kept_in old (kept_one found)
unfolding kept_one
kept-stays old new found same = same-kept old new (kept_one found) (numbers-same (blocks_in found.rows.slots) old new same)

pub one-opens-same : (found : FoundOne) (old new : List ℕ) → image_in old ≡ Some (Ok (of_one found))
    → AgreeUpTo (block_place (blocks_in found.rows.slots)) old new → opened new ≡ opened old
one-opens-same found old new is agree =
    let p = parts-of-one old found is in
    let total = blocks_in found.rows.slots in
    let longer = agree.no_shorter in
    let end = reaches-end (length old) total p.long p.reaches in
    let bodies = same-bodies total old new end (omega (arith, end, longer)) agree.blocks in
    opens-as-one new found (image-of-one new found (one-stays old new found agree.no_shorter agree.rows p))
    ∙ ap (λ (k : Kept). Some (Ok k)) (kept-stays old new found bodies)
    ∙ sym (opens-as-one old found is)
