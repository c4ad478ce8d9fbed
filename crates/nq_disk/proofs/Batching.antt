-- A batch, staged: what its record says, and what the disk opens to then.
use Rattle.std.proofs.Common.{◌≡◌, ℕ, zero, suc, ◌+◌, ◌-◌, ◌<◌, ◌≤◌, List, [], ◌∷◌, ◌++◌, length, get_or, take, drop, Ok, sym, ap, subst, ◌∙◌, inl}
use Rattle.std.proofs.Common.{inr, arith, length-drop}
use Rattle.std.proofs.lemmas.Bool.{cases_lt}
use Rattle.std.proofs.lemmas.List.{length-take-le, get_or-take, get_or-drop, get_or_past, take-append-drop}
use Rattle.nq_disk.specs.Bytes.{written}
use Rattle.nq_disk.specs.BytesLaws.{length-written, written-outside, written-within}
use Rattle.nq_disk.specs.Batch.{AreSpellable, IsFit, body_of}
use Rattle.nq_disk.specs.Ranges.{Range, applied}
use Rattle.nq_disk.specs.Record.{blanked, ranges_in, ranges_of, wrong_field}
use Rattle.nq_disk.specs.Whole.{IsArea, IsClosed, IsOpen, after, found, record_of, staged}
use Rattle.nq_disk.specs.declared.redo.area.Area.{Area}
use Rattle.nq_disk.proofs.Encoding.{ranges-of-body, right-body}
use Rattle.nq_disk.proofs.Opening.{blanked-same}
use Rattle.nq_disk.proofs.Settled.{opened-right, ranges}
use Rattle.nq_disk.proofs.Settling.{same-bytes}

abbrev open_byte : List ℕ
open_byte = 1 ∷ []

module _ (area : Area) (is_area : IsArea area) (body : List ℕ) (fits : length body + 1 ≤ area.size) (old : List ℕ) (closed : IsClosed area old) where
  length-behind : length (written (area.place + 1) body old) ≡ length old
  length-behind = let l = closed.long in let r = is_area.room in let w = length-written (area.place + 1) body old (inl (omega arith)) in omega arith

  pub length-staged : length (staged area body old) ≡ length old
  length-staged =
      let l = closed.long in
      let r = is_area.room in
      let b = length-behind in
      let w = length-written area.place open_byte (written (area.place + 1) body old) (inl (omega arith)) in
      omega arith

  at-staged : (k : ℕ) → k < suc (length body) → get_or (staged area body old) (area.place + k) 0 ≡ get_or (1 ∷ body) k 0
  at-staged zero lt =
      written-within area.place open_byte (written (area.place + 1) body old) (area.place + 0) (omega arith) (omega arith)
      ∙ ap (λ (j : ℕ). get_or open_byte j 0) (none area.place)
    where
      none : (p : ℕ) → p + 0 - p ≡ 0
      none p = omega arith
  at-staged (suc j) lt =
      written-outside area.place open_byte (written (area.place + 1) body old) (area.place + suc j) (inr (omega arith))
      ∙ written-within (area.place + 1) body old (area.place + suc j) (omega arith) (omega arith)
      ∙ ap (λ (i : ℕ). get_or body i 0) (less area.place j)
    where
      less : (p j : ℕ) → p + suc j - (p + 1) ≡ j
      less p j = omega arith

  length-record : length (record_of area (staged area body old)) ≡ area.size
  length-record =
      let l = closed.long in
      let s = length-staged in
      length-take-le area.size (drop area.place (staged area body old)) (omega (arith, length-drop area.place (staged area body old)))

  front-staged : take (suc (length body)) (record_of area (staged area body old)) ≡ 1 ∷ body
  front-staged =
      let n = length-take-le (suc (length body)) (record_of area (staged area body old)) (omega (arith, length-record)) in
      same-bytes (take (suc (length body)) (record_of area (staged area body old))) (1 ∷ body) n (λ k. elim (cases_lt k (suc (length body))) [
        | inl lt ↦
            get_or-take (suc (length body)) (record_of area (staged area body old)) k 0 lt
            ∙ get_or-take area.size (drop area.place (staged area body old)) k 0 (omega arith)
            ∙ get_or-drop area.place (staged area body old) k 0
            ∙ at-staged k lt
        | inr le ↦ get_or_past (take (suc (length body)) (record_of area (staged area body old))) k 0 (omega arith) ∙ sym (get_or_past (1 ∷ body) k 0 le)
      ])

  -- the record begins with the open gate and the body
  pub record-staged : record_of area (staged area body old) ≡ 1 ∷ (body ++ drop (suc (length body)) (record_of area (staged area body old)))
  record-staged =
      sym (take-append-drop (suc (length body)) (record_of area (staged area body old)))
      ∙ ap (λ (l : List ℕ). l ++ drop (suc (length body)) (record_of area (staged area body old))) front-staged

  pub gate-staged : get_or (staged area body old) area.place 0 ≡ 1
  gate-staged = ap (λ (j : ℕ). get_or (staged area body old) j 0) (same-place area.place) ∙ at-staged 0 (omega arith)
    where
      same-place : (p : ℕ) → p ≡ p + 0
      same-place p = omega arith

  pub blanked-staged : blanked area.place area.size (staged area body old) ≡ blanked area.place area.size old
  blanked-staged =
      let l = closed.long in
      let s = length-staged in
      let r = is_area.room in
      blanked-same area.place area.size area.bound (staged area body old) old (omega arith) s
      (λ k out. elim out [
        | inl lt ↦ written-outside area.place open_byte (written (area.place + 1) body old) k (inl lt) ∙ written-outside (area.place + 1) body old k
            (inl (omega arith))
        | inr le ↦ written-outside area.place open_byte (written (area.place + 1) body old) k (inr (omega arith)) ∙ written-outside (area.place + 1)
            body old k (inr (omega arith))
      ])

module _ (area : Area) (is_area : IsArea area) (rs : List Range) (spell : AreSpellable rs) (old : List ℕ) (closed : IsClosed area old)
    (fit : IsFit area (length old) rs) where
  -- a batch that fits is a record without a wrong field
  pub staged-open : IsOpen area (staged area (body_of rs) old)
  staged-open =
      let len = length-staged area is_area (body_of rs) fit.short old closed in
      let rest = drop (suc (length (body_of rs))) (record_of area (staged area (body_of rs) old)) in
      record {
        long = let l = closed.long in omega arith;
        gate = gate-staged area is_area (body_of rs) fit.short old closed;
        right =
            ap (λ (n : ℕ). wrong_field area.place area.size area.bound n (record_of area (staged area (body_of rs) old))) len
            ∙ ap (wrong_field area.place area.size area.bound (length old)) (record-staged area is_area (body_of rs) fit.short old closed)
            ∙ right-body rs rest fit.few spell area (length old) fit.allowed;
      }

  -- its ranges are the batch
  pub staged-ranges : rs ≡ ranges_of (record_of area (staged area (body_of rs) old))
  staged-ranges =
      sym (ap ranges_of (record-staged area is_area (body_of rs) fit.short old closed)
      ∙ ranges-of-body rs (drop (suc (length (body_of rs))) (record_of area (staged area (body_of rs) old))) fit.few spell)

  is-ranges : ranges area is_area (staged area (body_of rs) old) ≡ rs
  unfolding ranges
  is-ranges = sym staged-ranges

  -- and the disk opens with the batch written
  pub opened-staged : found area (staged area (body_of rs) old) ≡ Ok (applied rs (blanked area.place area.size old))
  opened-staged =
      opened-right area is_area (staged area (body_of rs) old) staged-open
      ∙ ap (λ (l : List Range). Ok (applied l (blanked area.place area.size (staged area (body_of rs) old)))) is-ranges
      ∙ ap (λ (d : List ℕ). Ok (applied rs d)) (blanked-staged area is_area (body_of rs) fit.short old closed)

  -- the same, of a record that spells the batch
  module _ (body : List ℕ) (is : body ≡ body_of rs) where
    pub as-open : IsOpen area (staged area body old)
    as-open = subst (λ (b : List ℕ). IsOpen area (staged area b old)) (sym is) staged-open

    pub as-ranges : (count : ℕ) (bytes : List ℕ) → ranges_in count bytes ≡ rs → ranges_in count bytes ≡ ranges_of (record_of area (staged area body old))
    as-ranges count bytes same = same ∙ subst (λ (b : List ℕ). rs ≡ ranges_of (record_of area (staged area b old))) (sym is) staged-ranges

    pub as-after : found area (staged area body old) ≡ after area rs old
    as-after = subst (λ (b : List ℕ). found area (staged area b old) ≡ after area rs old) (sym is) opened-staged

    pub as-long : (image : List ℕ) → length (staged area body old) ≤ length image → length old ≤ length image
    as-long image le =
        let same = subst (λ (b : List ℕ). length (staged area b old) ≡ length old) (sym is) (length-staged area is_area (body_of rs) fit.short old closed) in
        omega arith
