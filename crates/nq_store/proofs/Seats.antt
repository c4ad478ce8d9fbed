-- Where the file of a change comes to stand: its blocks are those that it had, and free ones.
use Rattle.std.proofs.Common.{◌≡◌, ◌≢◌, ◌≤◌, ◌<◌, ◌+◌, ◌-◌, ◌&&◌, ℕ, zero, suc, Bool, true, false, List, [], ◌∷◌, Option, Some, None, take, drop}
use Rattle.std.proofs.Common.{length, if◌then◌else◌, refl, sym, ap, subst, ◌∙◌, arith}
use Rattle.std.specs.List.{All, filter}
use Rattle.std.specs.Prelude.{not}
use Rattle.std.proofs.lemmas.List.{drop_at, length-take}
use Rattle.std.proofs.lemmas.List.Elements.{All-cons, All-nil, All-same, All-take, All-weaker}
use Rattle.nq_base.specs.declared.FileRow.{FileRow}
use Rattle.nq_image.specs.Image.{no_marks}
use Rattle.nq_image.specs.Kept.{numbers_from}
use Rattle.nq_image.specs.Standing.{AreDistinct, IsFileBlock, IsFree, IsNoneOf, PlacedFile, Standing, Stands, blocks_in, found_of, marks_with}
use Rattle.nq_image.specs.Tables.{is_marked, is_of_tables}
use Rattle.nq_image.proofs.GivenBlocks.{AreGivenOnce, all-given}
use Rattle.nq_image.proofs.Giving.{IsGiven}
use Rattle.nq_image.proofs.Imaging.{length-marks}
use Rattle.nq_image.proofs.Parting.{parts-of}
use Rattle.nq_image.proofs.Replacing.{all-once}
use Rattle.nq_plan.specs.Finding.{blocks_of}
use Rattle.nq_plan.specs.Held.{HeldTables, IsHeldOf}
use Rattle.nq_plan.specs.Placing.{IsPlaced, IsPlacedFor, free_blocks, is_free}
use Rattle.nq_plan.specs.declared.placing.Placed.{Placed}
use Rattle.nq_store.specs.Changing.{new_blocks}

-- ---- numbers that pass a test

record IsRun (p : ℕ → Bool) (first n : ℕ) (xs : List ℕ) : Type 0 where
  distinct : AreDistinct xs
  each : All (λ x. (first ≤ x) × (x < first + n) × (p x ≡ true)) xs

run-more : (p : ℕ → Bool) (n first : ℕ) (rest : List ℕ) (b : Bool) → p first ≡ b → IsRun p (first + 1) n rest → IsRun p first (suc n) (if b then first
    ∷ rest else rest)
run-more p n first rest true is more =
    let Here : ℕ → Type 0 = λ x. (first ≤ x) × (x < first + suc n) × (p x ≡ true) in
    let There : ℕ → Type 0 = λ x. (first + 1 ≤ x) × (x < first + 1 + n) × (p x ≡ true) in
    record {
      distinct = (All-weaker There (λ x. x ≢ first) (λ x r. let le = r.0 in omega (arith, le)) rest more.each, more.distinct);
      each = All-cons Here first rest (omega arith, omega arith, is) (All-weaker There Here (λ x r. let a = r.0 in let b = r.1 in
          (omega (arith, a), omega (arith, b), r.2)) rest more.each);
    }
run-more p n first rest false is more =
    let Here : ℕ → Type 0 = λ x. (first ≤ x) × (x < first + suc n) × (p x ≡ true) in
    let There : ℕ → Type 0 = λ x. (first + 1 ≤ x) × (x < first + 1 + n) × (p x ≡ true) in
    record {
      distinct = more.distinct;
      each = All-weaker There Here (λ x r. let a = r.0 in let b = r.1 in (omega (arith, a), omega (arith, b), r.2)) rest more.each;
    }

run : (p : ℕ → Bool) (n first : ℕ) → IsRun p first n (filter p (numbers_from first n))
unfolding numbers_from
run p zero first = record { distinct = tt; each = All-nil (λ x. (first ≤ x) × (x < first + 0) × (p x ≡ true)) }
run p (suc n) first = run-more p n first (filter p (numbers_from (first + 1) n)) (p first) refl (run p n (first + 1))

pub distinct-take : (n : ℕ) (xs : List ℕ) → AreDistinct xs → AreDistinct (take n xs)
distinct-take zero xs d = tt
distinct-take (suc n) [] d = tt
distinct-take (suc n) (x ∷ xs) d = (All-take (λ other. other ≢ x) n xs d.0, distinct-take n xs d.1)

-- ---- free blocks

-- a block that a file may get: there is one of this number, it is none of the tables', and no file has it
pub record IsNew (s : Standing) (block : ℕ) : Type 0 where
  pub there : IsFileBlock s.tables block
  pub none : IsNoneOf (blocks_in s.rows) block

not-of : (b : Bool) → not b ≡ true → b ≡ false
not-of true h = cc
not-of false h = refl

both-not : (a b : Bool) → (not a && not b) ≡ true → (a ≡ false) × (b ≡ false)
both-not true b h = absurd (cc)
both-not false b h = (refl, not-of b h)

unmarked-none : (marks : List Bool) (blocks : List ℕ) (block : ℕ) → All (λ b. b < length marks) blocks → is_marked (marks_with marks blocks) block
    ≡ false → IsNoneOf blocks block
unmarked-none marks blocks block below free =
    All-weaker (IsGiven (marks_with marks blocks)) (λ other. other ≢ block) (λ other given. not-that other given) blocks (all-given marks blocks below)
  where
    not-that : (other : ℕ) → IsGiven (marks_with marks blocks) other → other ≢ block
    not-that other given e = let here : is_marked (marks_with marks blocks) block ≡ true = subst (IsGiven (marks_with marks blocks)) e given in absurd (cc)

-- the blocks of the files of an image are given once, and there is each
pub once-of : (bytes : List ℕ) (s : Standing) → Stands bytes s → AreGivenOnce s.tables (no_marks 16641) (blocks_in s.rows)
once-of bytes s stands = let image = parts-of bytes (found_of s) stands.found in all-once s bytes image.parts

pub below-of : (bytes : List ℕ) (s : Standing) → Stands bytes s → All (λ b. b < length (no_marks 16641)) (blocks_in s.rows)
below-of bytes s stands =
    let Below : ℕ → Type 0 = λ n. All (λ b. b < n) (blocks_in s.rows) in
    let once = once-of bytes s stands in
    subst Below (sym (length-marks 16641)) (All-weaker (IsFileBlock s.tables) (λ b. b < 16641) (λ b own. own.below) (blocks_in s.rows) once.there)

module _ (bytes : List ℕ) (held : HeldTables) (is_held : IsHeldOf bytes held) where
  abbrev s : Standing
  s = held.standing

  free-is-new : (block : ℕ) → block < 16641 → is_free held block ≡ true → IsNew s block
  free-is-new block lt free =
      let both = both-not (is_of_tables s.tables block) (is_marked held.marks block) free in
      let Unmarked : List Bool → Type 0 = λ m. is_marked m block ≡ false in
      record {
        there = record { below = lt; apart = both.0 };
        none = unmarked-none (no_marks 16641) (blocks_in s.rows) block (below-of bytes s is_held.stands) (subst Unmarked is_held.marks both.1);
      }

  pub record AreNew (blocks : List ℕ) : Type 0 where
    pub distinct : AreDistinct blocks
    pub each : All (IsNew s) blocks

  pub free-are-new : (count : ℕ) → AreNew (free_blocks held count)
  unfolding free_blocks
  free-are-new count =
      let all = run (is_free held) 16641 0 in
      let xs = filter (is_free held) (numbers_from 0 16641) in
      let Free : ℕ → Type 0 = λ x. (0 ≤ x) × (x < 0 + 16641) × (is_free held x ≡ true) in
      record {
        distinct = distinct-take count xs all.distinct;
        each = All-weaker Free (IsNew s) (λ x r. let lt = r.1 in free-is-new x (omega (arith, lt)) r.2) (take count xs) (All-take Free count xs all.each);
      }

  -- the blocks that a file gets are those behind the ones that stay
  pub new-blocks-are : (row : FileRow) (placed : Placed) → IsPlaced held row placed → new_blocks (Some placed) ≡ free_blocks held
      (row.blocks - length (blocks_of s row.id))
  new-blocks-are row placed is =
      let known = blocks_of s row.id in
      let blocks = ap (λ (f : PlacedFile). f.blocks) is.file in
      let stay : length (take row.blocks known) ≡ placed.stay = let e = is.stay in omega (arith, e, length-take row.blocks known) in
      ap (λ (l : List ℕ). drop placed.stay l) blocks ∙ drop_at (take row.blocks known) (free_blocks held (row.blocks - length known)) placed.stay stay

  pub new-are-free : (row : Option FileRow) (placed : Option Placed) → IsPlacedFor held row placed → All (IsFree s) (new_blocks placed)
  new-are-free None None is = All-nil (IsFree s)
  new-are-free None (Some placed) is = absurd is
  new-are-free (Some row) None is = absurd is
  new-are-free (Some row) (Some placed) is =
      let new = free-are-new (row.blocks - length (blocks_of s row.id)) in
      All-same (IsFree s) (new_blocks (Some placed)) (free_blocks held (row.blocks - length (blocks_of s row.id))) (new-blocks-are row placed is)
      (All-weaker (IsNew s) (IsFree s) (λ block own. record { apart = own.there.apart; none = own.none })
      (free_blocks held (row.blocks - length (blocks_of s row.id))) new.each)
