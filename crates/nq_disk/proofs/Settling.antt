-- What ranges leave, byte by byte.
use Rattle.std.proofs.Common.{◌≡◌, ◌⊎◌, ℕ, ◌+◌, ◌<◌, ◌≤◌, max, List, [], ◌∷◌, length, get_or, refl, sym, subst, ◌∙◌, inl, inr, arith}
use Rattle.std.proofs.lemmas.Bool.{cases_lt}
use Rattle.std.proofs.lemmas.List.{ext_get_or, get_or_past}
use Rattle.nq_disk.specs.Bytes.{written, Torn}
use Rattle.nq_disk.specs.BytesLaws.{length-written, written-outside, written-within}
use Rattle.nq_disk.specs.Ranges.{Range, applied, Outside, OutsideAll, Among, furthest, ArePlaced, Settling}

pub same-bytes : (a b : List ℕ) → length a ≡ length b → ((k : ℕ) → get_or a k 0 ≡ get_or b k 0) → a ≡ b
same-bytes a b len same = ext_get_or 0 a b len (λ k lt. same k)

pub in-or-out : (k place n : ℕ) → Outside k place n ⊎ ((place ≤ k) × (k < place + n))
in-or-out k place n = elim (cases_lt k place) [
  | inl lt ↦ inl (inl lt)
  | inr le ↦ elim (cases_lt k (place + n)) [ inl within ↦ inr (le, within) | inr past ↦ inl (inr past) ]
]

-- ranges written over disks that agree at a place outside of them leave disks that agree there
pub applied-agree : (ranges : List Range) (a b : List ℕ) (k : ℕ) → (OutsideAll k ranges → get_or a k 0 ≡ get_or b k 0) → get_or (applied ranges a) k 0
    ≡ get_or (applied ranges b) k 0
applied-agree [] a b k same = same tt
applied-agree (range ∷ ranges) a b k same = applied-agree ranges (written range.place range.bytes a) (written range.place range.bytes b) k step
  where
    step : OutsideAll k ranges → get_or (written range.place range.bytes a) k 0 ≡ get_or (written range.place range.bytes b) k 0
    step out = elim (in-or-out k range.place (length range.bytes)) [
      | inl o ↦ written-outside range.place range.bytes a k o ∙ same (o, out) ∙ sym (written-outside range.place range.bytes b k o)
      | inr i ↦ written-within range.place range.bytes a k i.0 i.1 ∙ sym (written-within range.place range.bytes b k i.0 i.1)
    ]

-- outside of them nothing changes
pub applied-outside : (ranges : List Range) (disk : List ℕ) (k : ℕ) → OutsideAll k ranges → get_or (applied ranges disk) k 0 ≡ get_or disk k 0
applied-outside [] disk k out = refl
applied-outside (range ∷ ranges) disk k out =
    applied-outside ranges (written range.place range.bytes disk) k out.1 ∙ written-outside range.place range.bytes disk k out.0

pub furthest-is : (ranges : List Range) (len : ℕ) → furthest ranges len ≡ max len (furthest ranges 0)
furthest-is [] len = omega arith
furthest-is (range ∷ ranges) len = omega (arith, furthest-is ranges len)

pub length-applied : (ranges : List Range) (len place n : ℕ) (disk : List ℕ) → ArePlaced len place n ranges → len ≤ length disk
    → length (applied ranges disk) ≡ furthest ranges (length disk)
length-applied [] len place n disk placed le = refl
length-applied (range ∷ ranges) len place n disk placed le =
    let begins : range.place ≤ length disk = let p = placed.0 in omega arith in
    let long = length-written range.place range.bytes disk (inl begins) in
    let more = length-applied ranges (max len (range.place + length range.bytes)) place n (written range.place range.bytes disk) placed.2 (omega arith) in
    let a = furthest-is ranges (length (written range.place range.bytes disk)) in
    let b = furthest-is ranges (length disk) in
    omega arith

pub among-furthest : (ranges : List Range) (range : Range) (len : ℕ) → Among ranges range → range.place + length range.bytes ≤ furthest ranges len
among-furthest [] range len here = absurd here
among-furthest (first ∷ ranges) range len (inl is) = subst (λ (r : Range). r.place + length r.bytes ≤ furthest (first ∷ ranges) len) (sym is) (omega arith)
among-furthest (first ∷ ranges) range len (inr there) = let h = among-furthest ranges range len there in omega arith

pub among-outside : (ranges : List Range) (range : Range) (k : ℕ) → Among ranges range → OutsideAll k ranges → Outside k range.place (length range.bytes)
among-outside [] range k here out = absurd here
among-outside (first ∷ ranges) range k (inl is) out = subst (λ (r : Range). Outside k r.place (length r.bytes)) (sym is) out.0
among-outside (first ∷ ranges) range k (inr there) out = among-outside ranges range k there out.1

-- before the first range
pub settling-none : (ranges : List Range) (disk : List ℕ) → Settling ranges disk disk
settling-none ranges disk = record { no_shorter = omega arith; no_longer = omega (arith, furthest-is ranges (length disk)); outside = λ k lt out. refl }

-- one of the ranges torn
pub settling-torn : (ranges : List Range) (range : Range) (old mid new : List ℕ) → Among ranges range → Settling ranges old mid
    → Torn range.place (length range.bytes) mid new → Settling ranges old new
settling-torn ranges range old mid new here so torn =
    let a = so.no_shorter in
    let b = so.no_longer in
    let c = torn.no_shorter in
    let d = torn.no_longer in
    let e = among-furthest ranges range (length old) here in
    record {
      no_shorter = omega arith;
      no_longer = omega arith;
      outside = λ k lt out. torn.outside k (omega arith) (among-outside ranges range k here out) ∙ so.outside k lt out;
    }

-- a place at or past the old end and outside of all ranges is past the new end
pub past-all : (ranges : List Range) (len place n k : ℕ) → ArePlaced len place n ranges → len ≤ k → OutsideAll k ranges → furthest ranges len ≤ k
past-all [] len place n k placed le out = le
past-all (range ∷ ranges) len place n k placed le out =
    let p = placed.0 in
    let end = range.place + length range.bytes in
    let a = furthest-is ranges len in
    let b = furthest-is ranges (max len end) in
    elim (out.0) [
      | inl lt ↦ absurd (omega arith)
      | inr past ↦ let rest = past-all ranges (max len end) place n k placed.2 (omega arith) out.1 in omega arith
    ]

-- so a disk that settles agrees with the old one outside of the ranges
pub settling-agrees : (ranges : List Range) (place n : ℕ) (old new : List ℕ) → ArePlaced (length old) place n ranges → Settling ranges old new
    → (k : ℕ) → OutsideAll k ranges → get_or new k 0 ≡ get_or old k 0
settling-agrees ranges place n old new placed so k out = elim (cases_lt k (length old)) [
  | inl lt ↦ so.outside k lt out
  | inr le ↦ get_or_past new k 0 (let a = past-all ranges (length old) place n k placed le out in let b = so.no_longer in omega arith)
      ∙ sym (get_or_past old k 0 le)
]

-- the bytes of the record are outside of all ranges
pub record-outside : (ranges : List Range) (len place n k : ℕ) → ArePlaced len place n ranges → place ≤ k → k < place + n → OutsideAll k ranges
record-outside [] len place n k placed le lt = tt
record-outside (range ∷ ranges) len place n k placed le lt = (
  elim (placed.1) [ inl before ↦ inr (omega arith) | inr after ↦ inl (omega arith) ],
  record-outside ranges
      (max len (range.place + length range.bytes)) place n k placed.2 le lt,
)
