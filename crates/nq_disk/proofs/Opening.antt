-- What an open gives of what a stop may leave.
use Rattle.std.proofs.Common.{◌≡◌, ◌≢◌, ◌⊎◌, ℕ, ◌+◌, ◌-◌, ◌<◌, ◌≤◌, List, [], ◌∷◌, length, get_or, take, drop, Ok, sym, ap, subst, ◌∙◌, inl, inr}
use Rattle.std.proofs.Common.{arith, length-drop}
use Rattle.std.specs.Prelude.{replicate}
use Rattle.std.proofs.lemmas.Bool.{cases_lt, cases_eq}
use Rattle.std.proofs.lemmas.Bool.Decides.{nat_tests}
use Rattle.std.proofs.lemmas.List.{length-replicate, length-take-le, get_or-take, get_or-drop, get_or_past, get_or-replicate}
use Rattle.nq_disk.specs.Bytes.{written, Torn}
use Rattle.nq_disk.specs.BytesLaws.{length-written, written-outside, written-within}
use Rattle.nq_disk.specs.Ranges.{Outside}
use Rattle.nq_disk.specs.Record.{blanked, opened, record_at, replayed, wrong_field}
use Rattle.nq_disk.proofs.Settling.{in-or-out, same-bytes}

module _ (place size bound : ℕ) where
  -- a disk that reaches the end of the record
  abbrev pub Long : List ℕ → Type 0
  Long disk = place + size ≤ length disk

  pub length-blanked : (disk : List ℕ) → Long disk → length (blanked place size disk) ≡ length disk
  unfolding blanked
  length-blanked disk long =
      omega (arith, length-written place (replicate size 0) disk (inl (omega arith)), length-replicate {A = ℕ} size 0)

  pub blanked-outside : (disk : List ℕ) (k : ℕ) → Outside k place size → get_or (blanked place size disk) k 0 ≡ get_or disk k 0
  unfolding blanked
  blanked-outside disk k out = written-outside place (replicate size 0) disk k (subst (λ (n : ℕ). Outside k place n)
      (sym (length-replicate {A = ℕ} size 0)) out)

  pub blanked-within : (disk : List ℕ) (k : ℕ) → place ≤ k → k < place + size → get_or (blanked place size disk) k 0 ≡ 0
  unfolding blanked
  blanked-within disk k le lt =
      written-within place (replicate size 0) disk k le (omega (arith, length-replicate {A = ℕ} size 0)) ∙ get_or-replicate size (k - place) 0 0 (omega arith)

  -- disks that agree outside of the record are one disk when it is blanked
  pub blanked-same : (a b : List ℕ) → Long a → length a ≡ length b → ((k : ℕ) → Outside k place size → get_or a k 0 ≡ get_or b k 0)
      → blanked place size a ≡ blanked place size b
  blanked-same a b long len same =
      same-bytes (blanked place size a) (blanked place size b) (length-blanked a long ∙ len ∙ sym (length-blanked b (omega arith)))
      (λ k. elim (in-or-out k place size) [
        | inl out ↦ blanked-outside a k out ∙ same k out ∙ sym (blanked-outside b k out)
        | inr i ↦ blanked-within a k i.0 i.1 ∙ sym (blanked-within b k i.0 i.1)
      ])

  -- and what agrees in the record has one record
  pub record-same : (a b : List ℕ) → Long a → Long b → ((k : ℕ) → place ≤ k → k < place + size → get_or a k 0 ≡ get_or b k 0) → record_at place size a
      ≡ record_at place size b
  record-same a b long-a long-b same =
      same-bytes (record_at place size a) (record_at place size b) (size-of a long-a ∙ sym (size-of b long-b))
      (λ k. elim (cases_lt k size) [
        | inl lt ↦ at-record a k lt ∙ same (place + k) (omega arith) (omega arith) ∙ sym (at-record b k lt)
        | inr le ↦ past a k long-a le ∙ sym (past b k long-b le)
      ])
    where
      size-of : (d : List ℕ) → Long d → length (take size (drop place d)) ≡ size
      size-of d long = length-take-le size (drop place d) (omega (arith, length-drop place d))

      at-record : (d : List ℕ) (k : ℕ) → k < size → get_or (take size (drop place d)) k 0 ≡ get_or d (place + k) 0
      at-record d k lt = get_or-take size (drop place d) k 0 lt ∙ get_or-drop place d k 0

      past : (d : List ℕ) (k : ℕ) → Long d → size ≤ k → get_or (take size (drop place d)) k 0 ≡ 0
      past d k long le = get_or_past (take size (drop place d)) k 0 (omega (arith, size-of d long))

  -- a disk with a closed gate opens as it is
  pub opened-closed : (disk : List ℕ) → get_or disk place 0 ≢ 1 → opened place size bound disk ≡ Ok (blanked place size disk)
  unfolding opened
  opened-closed disk shut = grind (arith, nat_tests)

  pub opened-open : (disk : List ℕ) → get_or disk place 0 ≡ 1 → opened place size bound disk ≡ replayed place size disk (wrong_field place size bound
      (length disk) (record_at place size disk))
  unfolding opened
  opened-open disk gate = grind (arith, nat_tests)

  -- the body of a record, torn: the gate is closed still, and the disk opens as before
  pub body-torn : (n : ℕ) (old new : List ℕ) → n + 1 ≤ size → Long old → get_or old place 0 ≢ 1 → Torn (place + 1) n old new → opened place size bound
      new ≡ opened place size bound old
  body-torn n old new fits long shut torn =
      let gate : get_or new place 0 ≡ get_or old place 0 = torn.outside place (omega arith) (inl (omega arith)) in
      let a = torn.no_shorter in
      let b = torn.no_longer in
      let len : length new ≡ length old = omega arith in
      opened-closed new (λ open_gate. shut (sym gate ∙ open_gate))
      ∙ ap Ok (blanked-same new old (omega arith) len (λ k out. elsewhere k out len))
      ∙ sym (opened-closed old shut)
    where
      elsewhere : (k : ℕ) → Outside k place size → length new ≡ length old → get_or new k 0 ≡ get_or old k 0
      elsewhere k out len = elim (cases_lt k (length old)) [
        | inl lt ↦ torn.outside k lt (elim out [ inl before ↦ inl (omega arith) | inr after ↦ inr (omega arith) ])
        | inr le ↦ get_or_past new k 0 (omega arith) ∙ sym (get_or_past old k 0 le)
      ]

  -- the gate, torn: it is open, and the disk is as with an open gate, or the disk is as with a closed one
  pub gate-torn : (old new : List ℕ) → 0 < size → Long old → Torn place 1 old new → (new ≡ written place (1 ∷ []) old) ⊎ ((get_or new place 0 ≢ 1)
      × (blanked place size new ≡ blanked place size old))
  gate-torn old new some long torn =
      let a = torn.no_shorter in
      let b = torn.no_longer in
      let len : length new ≡ length old = omega arith in
      elim (cases_eq (get_or new place 0) 1) [
        | inl open_gate ↦ inl (same-bytes new (written place (1 ∷ []) old) (len ∙ sym (long-written len)) (λ k. elim (in-or-out k place 1) [
          | inl out ↦ elsewhere k out len ∙ sym (written-outside place (1 ∷ []) old k out)
          | inr i ↦ ap (λ (j : ℕ). get_or new j 0) (only k i.0 i.1) ∙ open_gate ∙ sym (written-within place (1 ∷ []) old k i.0 i.1
              ∙ ap (λ (j : ℕ). get_or (1 ∷ []) j 0) (first k i.0 i.1))
        ]))
        | inr shut ↦ inr (
          shut,
          blanked-same new old (omega arith) len (λ k out. elsewhere k (elim out [
            | inl before ↦ inl before
            | inr after ↦ inr (omega arith)
          ]) len),
        )
      ]
    where
      elsewhere : (k : ℕ) → Outside k place 1 → length new ≡ length old → get_or new k 0 ≡ get_or old k 0
      elsewhere k out len = elim (cases_lt k (length old)) [
        | inl lt ↦ torn.outside k lt out
        | inr le ↦ get_or_past new k 0 (omega arith) ∙ sym (get_or_past old k 0 le)
      ]

      long-written : length new ≡ length old → length (written place (1 ∷ []) old) ≡ length old
      long-written len = omega (arith, length-written place (1 ∷ []) old (inl (omega arith)))

      only : (k : ℕ) → place ≤ k → k < place + 1 → k ≡ place
      only k le lt = omega arith

      first : (k : ℕ) → place ≤ k → k < place + 1 → k - place ≡ 0
      first k le lt = omega arith
