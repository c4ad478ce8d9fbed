-- A range, added to a batch.
use Rattle.std.proofs.Common.{◌≡◌, ℕ, ◌+◌, ◌<◌, ◌≤◌, ◌^◌, List, [], ◌∷◌, ◌++◌, length, take, drop, sym, ap, subst, ◌∙◌, arith, length-append, append_assoc}
use Rattle.std.proofs.lemmas.List.{append-nil, drop_all, take_all}
use Rattle.std.specs.Int.{w32, to_be_bytes}
use Rattle.nq_disk.specs.Batch.{AreSpellable, IsBatch, body_of, body_with, ranges_behind, spelled, spelled_range}
use Rattle.nq_disk.specs.Ranges.{Range}
use Rattle.nq_disk.specs.Record.{ranges_in}
use Rattle.nq_disk.proofs.Encoding.{ranges-spelled}

spelled-more : (ranges : List Range) (range : Range) → spelled (ranges ++ range ∷ []) ≡ spelled ranges ++ spelled_range range
spelled-more [] range = append-nil (spelled_range range)
spelled-more (first ∷ ranges) range =
    ap (λ (l : List ℕ). spelled_range first ++ l) (spelled-more ranges range) ∙ sym (append_assoc (spelled_range first) (spelled ranges) (spelled_range range))

spellable-more : (ranges : List Range) (range : Range) → AreSpellable ranges → range.place < 2 ^ 64 → length range.bytes < 2 ^ 32
    → AreSpellable (ranges ++ range ∷ [])
spellable-more [] range fits place_fits length_fits = (place_fits, length_fits, tt)
spellable-more (first ∷ ranges) range fits place_fits length_fits = (fits.0, fits.1, spellable-more ranges range fits.2 place_fits length_fits)

-- what spells ranges holds them
pub behind-spelled : (ranges : List Range) (count : ℕ) (body : List ℕ) → body ≡ body_of ranges → count ≡ length ranges → AreSpellable ranges
    → ranges_behind count body ≡ ranges
behind-spelled ranges count body is counts fits =
    ap (ranges_behind count) is
    ∙ ap (λ (n : ℕ). ranges_in n (spelled ranges)) counts
    ∙ ap (ranges_in (length ranges)) (sym (append-nil (spelled ranges)))
    ∙ ranges-spelled ranges [] fits

pub batch-of : (ranges : List Range) (count : ℕ) (body : List ℕ) → body ≡ body_of ranges → count ≡ length ranges → count ≤ 8 → AreSpellable ranges
    → IsBatch count body
batch-of ranges count body is counts few fits =
    let same = behind-spelled ranges count body is counts fits in
    record {
      spells = is ∙ ap body_of (sym same);
      counts = counts ∙ ap (λ (l : List Range). length l) (sym same);
      few = few;
      fits = subst AreSpellable (sym same) fits;
    }

module _ (count place : ℕ) (bytes old new : List ℕ) (batch : IsBatch count old) (few : count < 8) (place_fits : place < 2 ^ 64)
    (length_fits : length bytes < 2 ^ 32) where
  abbrev added : Range
  added = record { place = place; bytes = bytes }

  abbrev then_all : List Range
  then_all = ranges_behind count old ++ added ∷ []

  one-more : count + 1 ≡ length then_all
  one-more = let c = batch.counts in omega (arith, length-append (ranges_behind count old) (added ∷ []))

  -- the bytes with the range behind them and the count one higher
  abbrev IsAdded : Type 0
  IsAdded = new ≡ take 7 (old ++ spelled_range added) ++ (to_be_bytes w32 (count + 1) ++ drop 11 (old ++ spelled_range added))

  added-body : IsAdded → new ≡ body_of then_all
  added-body is =
      is
      ∙ ap (λ (b : List ℕ). take 7 (b ++ spelled_range added) ++ (to_be_bytes w32 (count + 1) ++ drop 11 (b ++ spelled_range added))) batch.spells
      ∙ ap (λ (l : List ℕ). body_with (count + 1) l) (sym (spelled-more (ranges_behind count old) added))
      ∙ ap (λ (n : ℕ). body_with n (spelled then_all)) one-more

  pub added-ranges : IsAdded → ranges_behind (count + 1) new ≡ then_all
  added-ranges is = behind-spelled then_all (count + 1) new (added-body is) one-more (spellable-more (ranges_behind count old) added batch.fits
      place_fits length_fits)

  pub added-batch : IsAdded → IsBatch (count + 1) new
  added-batch is = batch-of then_all (count + 1) new (added-body is) one-more (omega arith) (spellable-more (ranges_behind count old) added batch.fits
      place_fits length_fits)

-- a list written back whole in the place of one of its length
pub written-back : (n : ℕ) (new old : List ℕ) → length new ≡ length old → length old ≤ n → take n (new ++ drop (length new) old) ≡ new
written-back n new old same le =
    ap (λ (d : List ℕ). take n (new ++ d)) (drop_all (length new) old (omega arith)) ∙ ap (λ (l : List ℕ). take n l) (append-nil new)
    ∙ take_all n new (omega arith)
