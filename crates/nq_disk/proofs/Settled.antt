-- What a disk opens to while the ranges of its record are written, and while its gate is closed again.
use Rattle.std.proofs.Common.{◌≡◌, ℕ, ◌+◌, ◌-◌, ◌<◌, ◌≤◌, List, [], ◌∷◌, length, get_or, Ok, sym, ap, ◌∙◌, inl, inr, arith}
use Rattle.nq_disk.specs.Bytes.{written, Torn}
use Rattle.nq_disk.specs.BytesLaws.{length-written, written-outside, written-within}
use Rattle.nq_disk.specs.Ranges.{Range, applied, OutsideAll, furthest, ArePlaced, Settling}
use Rattle.nq_disk.specs.Record.{blanked, ranges_of, record_at, replayed, wrong_field}
use Rattle.nq_disk.specs.Whole.{IsArea, IsOpen, found}
use Rattle.nq_disk.specs.declared.redo.area.Area.{Area}
use Rattle.nq_disk.proofs.Lawful.{right-record}
use Rattle.nq_disk.proofs.Opening.{Long, blanked-outside, blanked-within, gate-torn, length-blanked, opened-closed, opened-open, record-same}
use Rattle.nq_disk.proofs.Settling.{applied-agree, applied-outside, furthest-is, in-or-out, length-applied, record-outside, same-bytes, settling-agrees}

module _ (area : Area) (is_area : IsArea area) where
  some : 0 < area.size
  some = let r = is_area.room in omega arith

  -- ranges outside of the record are written, and the record is blanked, in any order
  pub blanked-applied : (ranges : List Range) (disk : List ℕ) → ArePlaced (length disk) area.place area.size ranges → Long area.place area.size
      area.bound disk → blanked area.place area.size (applied ranges disk) ≡ applied ranges (blanked area.place area.size disk)
  blanked-applied ranges disk placed long =
      let more : length (applied ranges disk) ≡ furthest ranges (length disk) = length-applied ranges (length disk) area.place area.size disk placed
      (omega arith) in
      let long-then : Long area.place area.size area.bound (applied ranges disk) = let f = furthest-is ranges (length disk) in omega arith in
      let one = length-blanked area.place area.size area.bound disk long in
      let other = length-applied ranges (length disk) area.place area.size (blanked area.place area.size disk) placed (omega arith) in
      same-bytes (blanked area.place area.size (applied ranges disk)) (applied ranges (blanked area.place area.size disk))
      (length-blanked area.place area.size area.bound (applied ranges disk) long-then ∙ more ∙ ap (furthest ranges) (sym one) ∙ sym other)
      (λ k. elim (in-or-out k area.place area.size) [
        | inl out ↦ blanked-outside area.place area.size area.bound (applied ranges disk) k out ∙ applied-agree ranges disk
            (blanked area.place area.size disk) k (λ o. sym (blanked-outside area.place area.size area.bound disk k out))
        | inr i ↦ blanked-within area.place area.size area.bound (applied ranges disk) k i.0 i.1
            ∙ sym (applied-outside ranges (blanked area.place area.size disk) k (record-outside ranges (length disk) area.place area.size k placed i.0
            i.1) ∙ blanked-within area.place area.size area.bound disk k i.0 i.1)
      ])

  -- the ranges of its record
  unfoldable pub ranges : List ℕ → List Range
  ranges disk = ranges_of (record_at area.place area.size disk)

  pub placed-in : (disk : List ℕ) → IsOpen area disk → ArePlaced (length disk) area.place area.size (ranges disk)
  unfolding ranges
  placed-in disk open_now = (right-record area.place area.size area.bound (length disk) (length disk) (record_at area.place area.size disk)
      (omega arith) open_now.right).1

  -- it opens with its ranges written
  pub opened-right : (disk : List ℕ) → IsOpen area disk → found area disk ≡ Ok (applied (ranges disk) (blanked area.place area.size disk))
  unfolding ranges
  opened-right disk open_now = opened-open area.place area.size area.bound disk open_now.gate ∙ ap (replayed area.place area.size disk) open_now.right

  -- while its ranges are written it opens so too
  module _ (old new : List ℕ) (open_now : IsOpen area old) (so : Settling (ranges old) old new) where
    agrees : (k : ℕ) → OutsideAll k (ranges old) → get_or new k 0 ≡ get_or old k 0
    agrees k out = settling-agrees (ranges old) area.place area.size old new (placed-in old open_now) so k out

    long-settled : Long area.place area.size area.bound new
    long-settled = let l = open_now.long in let m = so.no_shorter in omega arith

    in-record : (k : ℕ) → area.place ≤ k → k < area.place + area.size → get_or new k 0 ≡ get_or old k 0
    in-record k le lt = agrees k (record-outside (ranges old) (length old) area.place area.size k (placed-in old open_now) le lt)

    same-record : record_at area.place area.size new ≡ record_at area.place area.size old
    same-record = record-same area.place area.size area.bound new old long-settled open_now.long in-record

    pub settled-open : IsOpen area new
    settled-open = record {
      long = long-settled;
      gate = in-record area.place (omega arith) (omega (arith, some)) ∙ open_now.gate;
      right = ap (wrong_field area.place area.size area.bound (length new)) same-record ∙ (right-record area.place area.size area.bound (length old)
          (length new) (record_at area.place area.size old) so.no_shorter open_now.right).0;
    }

    same-ranges : ranges new ≡ ranges old
    unfolding ranges
    same-ranges = ap ranges_of same-record

    same-end : furthest (ranges old) (length new) ≡ furthest (ranges old) (length old)
    same-end = let a = furthest-is (ranges old) (length new) in let b = furthest-is (ranges old) (length old) in let c = so.no_shorter in let d =
        so.no_longer in omega arith

    same-written : applied (ranges old) (blanked area.place area.size new) ≡ applied (ranges old) (blanked area.place area.size old)
    same-written =
        let new_long = length-blanked area.place area.size area.bound new long-settled in
        let old_long = length-blanked area.place area.size area.bound old open_now.long in
        let m = so.no_shorter in
        same-bytes (applied (ranges old) (blanked area.place area.size new)) (applied (ranges old) (blanked area.place area.size old))
        (length-applied (ranges old) (length old) area.place area.size (blanked area.place area.size new) (placed-in old open_now) (omega arith)
        ∙ ap (furthest (ranges old)) new_long ∙ same-end ∙ ap (furthest (ranges old)) (sym old_long)
        ∙ sym (length-applied (ranges old) (length old) area.place area.size (blanked area.place area.size old) (placed-in old open_now) (omega arith)))
        (λ k. applied-agree (ranges old) (blanked area.place area.size new) (blanked area.place area.size old) k
        (λ o. elim (in-or-out k area.place area.size) [
          | inl out ↦ blanked-outside area.place area.size area.bound new k out ∙ agrees k o ∙ sym (blanked-outside area.place area.size area.bound old k out)
          | inr i ↦ blanked-within area.place area.size area.bound new k i.0 i.1 ∙ sym (blanked-within area.place area.size area.bound old k i.0 i.1)
        ]))

    pub opened-settled : found area new ≡ found area old
    opened-settled =
        opened-right new settled-open
        ∙ ap (λ (l : List Range). Ok (applied l (blanked area.place area.size new))) same-ranges
        ∙ ap Ok same-written
        ∙ sym (opened-right old open_now)

  -- a disk whose first byte of the record is 1 stays as it is where a 1 is written there
  written-again : (disk : List ℕ) → Long area.place area.size area.bound disk → get_or disk area.place 0 ≡ 1 → written area.place (1 ∷ []) disk ≡ disk
  written-again disk long gate = same-bytes (written area.place (1 ∷ []) disk) disk (omega (
    arith,
    length-written area.place (1 ∷ []) disk
        (inl (omega arith)),
  )) (λ k. elim (in-or-out k area.place 1) [
    | inl out ↦ written-outside area.place (1 ∷ []) disk k out
    | inr i ↦ written-within area.place (1 ∷ []) disk k i.0 i.1 ∙ ap (λ (j : ℕ). get_or (1 ∷ []) j 0) (first k i.0 i.1) ∙ sym gate
        ∙ ap (λ (j : ℕ). get_or disk j 0) (sym (only k i.0 i.1))
  ])
    where
      only : (k : ℕ) → area.place ≤ k → k < area.place + 1 → k ≡ area.place
      only k le lt = omega arith

      first : (k : ℕ) → area.place ≤ k → k < area.place + 1 → k - area.place ≡ 0
      first k le lt = omega arith

  -- and while the gate is closed behind them
  pub opened-closing : (old new : List ℕ) → IsOpen area old → Settling (ranges old) old (applied (ranges old) old)
      → Torn area.place 1 (applied (ranges old) old) new → found area new ≡ found area old
  opened-closing old new open_now so torn =
      let then_open = settled-open old (applied (ranges old) old) open_now so in
      elim (gate-torn area.place area.size area.bound (applied (ranges old) old) new some then_open.long torn) [
        | inl is ↦ ap (found area) (is ∙ written-again (applied (ranges old) old) then_open.long then_open.gate) ∙ opened-settled old
            (applied (ranges old) old) open_now so
        | inr shut ↦
            opened-closed area.place area.size area.bound new shut.0
            ∙ ap Ok (shut.1 ∙ blanked-applied (ranges old) old (placed-in old open_now) open_now.long)
            ∙ sym (opened-right old open_now)
      ]
