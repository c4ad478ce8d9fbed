-- The moments of a change, and what a disk opens to at each.
use Rattle.std.proofs.Common.{◌≡◌, ◌⊎◌, ℕ, ◌+◌, ◌-◌, ◌≤◌, List, [], ◌∷◌, length, get_or, Option, Some, Ok, sym, ap, subst, ◌∙◌, inl, inr, arith}
use Rattle.nq_disk.specs.Bytes.{written, Torn}
use Rattle.nq_disk.specs.BytesLaws.{length-written, torn-written, written-outside, written-within}
use Rattle.nq_disk.specs.Calling.{IsAllThatIsLeft}
use Rattle.nq_disk.specs.Ranges.{Range, applied, Settling}
use Rattle.nq_disk.specs.Record.{ranges_of}
use Rattle.nq_disk.specs.Whole.{IsArea, IsClosed, IsOpen, OpensAs, Settled, found, record_of, staged}
use Rattle.nq_disk.specs.declared.redo.area.Area.{Area}
use Rattle.nq_disk.proofs.Opening.{body-torn, gate-torn, opened-closed}
use Rattle.nq_disk.proofs.Settled.{opened-closing, opened-settled, ranges}

abbrev shut_byte : List ℕ
shut_byte = 0 ∷ []

module _ (area : Area) (is_area : IsArea area) where
  -- the record's ranges, while they are written over a disk whose gate is open
  module _ (rs : List Range) (old : List ℕ) (open_now : IsOpen area old) (same : rs ≡ ranges_of (record_of area old)) where
    is-ranges : rs ≡ ranges area is_area old
    unfolding ranges
    is-ranges = same

    as-ranges : (image : List ℕ) → Settling rs old image → Settling (ranges area is_area old) old image
    as-ranges image so = subst (λ (l : List Range). Settling l old image) is-ranges so

    end-ranges : Settling rs old (applied rs old) → Settling (ranges area is_area old) old (applied (ranges area is_area old) old)
    end-ranges so = subst (λ (l : List Range). Settling l old (applied l old)) is-ranges so

    pub while-written : (image : List ℕ) → Settling rs old image → OpensAs area old image
    while-written image so = (so.no_shorter, opened-settled area is_area old image open_now (as-ranges image so))

    pub while-closing : (image : List ℕ) → Settling rs old (applied rs old) → Torn area.place 1 (applied rs old) image → OpensAs area old image
    while-closing image so torn =
        let a = so.no_shorter in
        let b = torn.no_shorter in (
          omega arith,
          opened-closing area is_area old image open_now (end-ranges so) (subst (λ (l : List Range). Torn area.place 1 (applied l old) image) is-ranges torn),
        )

    long-then : Settling rs old (applied rs old) → area.place + area.size ≤ length (applied rs old)
    long-then so = let l = open_now.long in let m = so.no_shorter in omega arith

    -- the gate is closed
    pub now-closed : Settling rs old (applied rs old) → IsClosed area (written area.place (0 ∷ []) (applied rs old))
    now-closed so =
        let long = long-then so in
        let len = length-written area.place (0 ∷ []) (applied rs old) (inl (omega arith)) in
        let at = written-within area.place (0 ∷ []) (applied rs old) area.place (omega arith) (omega arith) in
        let zero_at = at-zero (area.place - area.place) (omega arith) in
        record { long = omega arith; shut = λ gate. absurd (omega (arith, at, zero_at, gate)) }
      where
        at-zero : (i : ℕ) → i ≡ 0 → get_or shut_byte i 0 ≡ 0
        at-zero i is = ap (λ (j : ℕ). get_or shut_byte j 0) is

    pub when-closed : (told : Option (List ℕ)) (may_leave : List ℕ → Type 0) → Settling rs old (applied rs old)
        → told ≡ Some (written area.place (0 ∷ []) (applied rs old)) → IsAllThatIsLeft told may_leave → Settled area (found area old) told may_leave
    when-closed told may_leave so tells alone = record {
      now = written area.place (0 ∷ []) (applied rs old);
      tells = tells;
      closed = now-closed so;
      opens = (while-closing (written area.place (0 ∷ []) (applied rs old)) so (torn-written area.place (0 ∷ []) (applied rs old))).1;
      alone = alone (written area.place (0 ∷ []) (applied rs old)) tells;
    }

  -- a record, while it is written behind a closed gate, and while the gate is opened
  module _ (body : List ℕ) (fits : length body + 1 ≤ area.size) where
    pub while-staging : (old image : List ℕ) → IsClosed area old → Torn (area.place + 1) (length body) old image → OpensAs area old image
    while-staging old image closed torn = (
      torn.no_shorter,
      body-torn area.place area.size area.bound (length body) old image fits closed.long
          closed.shut torn,
    )

    abbrev behind : List ℕ → List ℕ
    behind old = written (area.place + 1) body old

    behind-closed : (old : List ℕ) → IsClosed area old → IsClosed area (behind old)
    behind-closed old closed =
        let long = closed.long in
        let room = is_area.room in
        let len = length-written (area.place + 1) body old (inl (omega arith)) in
        record { long = omega arith; shut = λ gate. closed.shut (sym (written-outside (area.place + 1) body old area.place (inl (omega arith))) ∙ gate) }

    behind-longer : (old : List ℕ) → IsClosed area old → length old ≤ length (behind old)
    behind-longer old closed = (while-staging old (behind old) closed (torn-written (area.place + 1) body old)).0

    pub while-opening : (old image : List ℕ) → IsClosed area old → Torn area.place 1 (behind old) image → OpensAs area old image
        ⊎ OpensAs area (staged area body old) image
    while-opening old image closed torn =
        let then_closed = behind-closed old closed in
        let room = is_area.room in
        elim (gate-torn area.place area.size area.bound (behind old) image (omega arith) then_closed.long torn) [
          | inl is ↦ inr (omega (arith, ap length is), ap (found area) is)
          | inr shut ↦ inl (
            let a = behind-longer old closed in
                let b = torn.no_shorter in
                omega arith,
            opened-closed area.place area.size area.bound image shut.0
                ∙ ap Ok shut.1
                ∙ sym (opened-closed area.place area.size area.bound (behind old) then_closed.shut)
                ∙ (while-staging old (behind old) closed (torn-written (area.place + 1) body old)).1,
          )
        ]
