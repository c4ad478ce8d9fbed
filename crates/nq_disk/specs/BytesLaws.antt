-- What a write leaves, byte by byte.
use Rattle.std.proofs.Common.{◌≡◌, ◌⊎◌, ℕ, ◌+◌, ◌-◌, ◌<◌, ◌≤◌, max, List, [], ◌∷◌, ◌++◌, length, get_or, take, drop, refl, sym, ap, ◌∙◌, inl, inr}
use Rattle.std.proofs.Common.{⊎_elim, arith, length-append, length-drop}
use Rattle.std.specs.Prelude.{replicate}
use Rattle.std.proofs.lemmas.Bool.{cases_lt}
use Rattle.std.proofs.lemmas.List.{length-take-le, length-replicate, get_or-take, get_or-drop, get_or_append_left, get_or-append_right}
use Rattle.std.proofs.lemmas.List.{get_or-replicate, get_or_past}
use Rattle.nq_disk.specs.Bytes.{padded, written, Torn}

at-equal : (n i z : ℕ) → get_or (replicate n z) i z ≡ z
at-equal n i z = elim (cases_lt i n) [
  | inl lt ↦ get_or-replicate n i z z lt
  | inr le ↦ get_or_past (replicate n z) i z (omega (arith, length-replicate n z, le))
]

module _ (place : ℕ) (bytes disk : List ℕ) where
  pub length-padded : length (padded place disk) ≡ length disk + (place - length disk)
  length-padded = length-append disk (replicate (place - length disk) 0) ∙ ap (λ (n : ℕ). length disk + n) (length-replicate (place - length disk) 0)

  length-front : length (take place (padded place disk)) ≡ place
  length-front = length-take-le place (padded place disk) (omega (arith, length-padded))

  -- padding changes no byte
  pub at-padded : (k : ℕ) → get_or (padded place disk) k 0 ≡ get_or disk k 0
  at-padded k = elim (cases_lt k (length disk)) [
    | inl lt ↦ get_or_append_left disk (replicate (place - length disk) 0) 0 k lt
    | inr le ↦ get_or-append_right disk (replicate (place - length disk) 0) (length disk) k 0 refl le ∙ at-equal (place - length disk)
        (k - length disk) 0 ∙ sym (get_or_past disk k 0 le)
  ]

  -- the three parts of what a write leaves
  abbrev in-three : List ℕ
  in-three = take place (padded place disk) ++ (bytes ++ drop (place + length bytes) disk)

  three-before : (k : ℕ) → k < place → get_or in-three k 0 ≡ get_or disk k 0
  three-before k lt =
      get_or_append_left (take place (padded place disk)) (bytes ++ drop (place + length bytes) disk) 0 k (omega (arith, length-front))
      ∙ get_or-take place (padded place disk) k 0 lt
      ∙ at-padded k

  three-behind : (k : ℕ) → place ≤ k → get_or in-three k 0 ≡ get_or (bytes ++ drop (place + length bytes) disk) (k - place) 0
  three-behind k le = get_or-append_right (take place (padded place disk)) (bytes ++ drop (place + length bytes) disk) place k 0 length-front le

  three-within : (k : ℕ) → place ≤ k → k < place + length bytes → get_or in-three k 0 ≡ get_or bytes (k - place) 0
  three-within k le lt = three-behind k le ∙ get_or_append_left bytes (drop (place + length bytes) disk) 0 (k - place) (omega arith)

  three-after : (k : ℕ) → place + length bytes ≤ k → get_or in-three k 0 ≡ get_or disk k 0
  three-after k le =
      three-behind k (omega arith)
      ∙ get_or-append_right bytes (drop (place + length bytes) disk) (length bytes) (k - place) 0 refl (omega arith)
      ∙ get_or-drop (place + length bytes) disk (k - place - length bytes) 0
      ∙ ap (λ (i : ℕ). get_or disk i 0) (the-place k le)
    where
      the-place : (k : ℕ) → place + length bytes ≤ k → place + length bytes + (k - place - length bytes) ≡ k
      the-place k le = omega arith

  length-three : length in-three ≡ max (length disk) (place + length bytes)
  length-three =
      omega (
        arith,
        length-front,
        length-append (take place (padded place disk)) (bytes ++ drop (place + length bytes) disk),
        length-append bytes
            (drop (place + length bytes) disk),
        length-drop (place + length bytes) disk,
      )

-- how long a disk is after a write that leaves no gap, or writes something
pub length-written : (place : ℕ) (bytes disk : List ℕ) → (place ≤ length disk) ⊎ (0 < length bytes) → length (written place bytes disk)
    ≡ max (length disk) (place + length bytes)
unfolding written
length-written place [] disk (inl le) = omega arith
length-written place [] disk (inr none) = absurd (omega arith)
length-written place (byte ∷ bytes) disk either = length-three place (byte ∷ bytes) disk

-- within the range the bytes written stand
pub written-within : (place : ℕ) (bytes disk : List ℕ) (k : ℕ) → place ≤ k → k < place + length bytes → get_or (written place bytes disk) k 0
    ≡ get_or bytes (k - place) 0
unfolding written
written-within place [] disk k le lt = absurd (omega arith)
written-within place (byte ∷ bytes) disk k le lt = three-within place (byte ∷ bytes) disk k le lt

-- below the range and above it nothing changes
pub written-outside : (place : ℕ) (bytes disk : List ℕ) (k : ℕ) → (k < place) ⊎ (place + length bytes ≤ k) → get_or (written place bytes disk) k 0
    ≡ get_or disk k 0
unfolding written
written-outside place [] disk k either = refl
written-outside place (byte ∷ bytes) disk k (inl lt) = three-before place (byte ∷ bytes) disk k lt
written-outside place (byte ∷ bytes) disk k (inr le) = three-after place (byte ∷ bytes) disk k le

-- what a write leaves may be left by a stop
pub torn-written : (place : ℕ) (bytes disk : List ℕ) → Torn place (length bytes) disk (written place bytes disk)
unfolding written
torn-written place [] disk = record { no_shorter = omega arith; no_longer = omega arith; outside = λ k lt either. refl }
torn-written place (byte ∷ bytes) disk =
    let long = length-three place (byte ∷ bytes) disk in
    record {
      no_shorter = omega arith;
      no_longer = omega arith;
      outside = λ k lt either. ⊎_elim (λ before. three-before place (byte ∷ bytes) disk k before) (λ after. three-after place (byte ∷ bytes) disk k
          after) either;
    }

-- a disk may be left as it is
pub torn-same : (place n : ℕ) (disk : List ℕ) → Torn place n disk disk
torn-same place n disk = record { no_shorter = omega arith; no_longer = omega arith; outside = λ k lt either. refl }
