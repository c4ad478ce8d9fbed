-- What is known of a disk by the record that was read from it.
use Rattle.std.proofs.Common.{◌≡◌, ◌≢◌, ℕ, ◌+◌, ◌≤◌, List, length, get_or, drop, Option, Some, None, Err, refl, sym, ap, ◌∙◌, arith}
use Rattle.std.proofs.lemmas.List.{get_or-take, get_or-drop}
use Rattle.nq_disk.specs.Record.{ranges_in, ranges_of, replayed, word, wrong_field}
use Rattle.nq_disk.specs.Saying.{Only}
use Rattle.nq_disk.specs.Whole.{IsArea, IsOpen, OpensAs, Settled, found, record_of}
use Rattle.nq_disk.specs.declared.redo.area.Area.{Area}
use Rattle.nq_disk.proofs.Opening.{opened-open}

-- a disk opens as itself
pub opens-itself : (area : Area) (old image : List ℕ) → image ≡ old → OpensAs area old image
opens-itself area old image is = (omega (arith, ap length is), ap (found area) is)

module _ (area : Area) (is_area : IsArea area) (old record_read : List ℕ) (long : area.place + area.size ≤ length old) (is : record_read
    ≡ record_of area old) where
  pub gate-read : get_or record_read 0 0 ≡ get_or old area.place 0
  gate-read =
      let room = is_area.room in
      ap (λ (r : List ℕ). get_or r 0 0) is
      ∙ get_or-take area.size (drop area.place old) 0 0 (omega arith)
      ∙ get_or-drop area.place old 0 0
      ∙ ap (λ (i : ℕ). get_or old i 0) (same-place area.place)
    where
      same-place : (p : ℕ) → p + 0 ≡ p
      same-place p = omega arith

  pub ranges-read : ranges_in (word (drop 8 record_read)) (drop 16 record_read) ≡ ranges_of (record_of area old)
  ranges-read = ap ranges_of is

  -- its gate is closed
  pub closed-read : (told : Option (List ℕ)) (may_leave : List ℕ → Type 0) → get_or record_read 0 0 ≢ 1 → told ≡ Some old → Only old may_leave
      → Settled area (found area old) told may_leave
  closed-read told may_leave shut tells alone = record {
    now = old;
    tells = tells;
    closed = record { long = long; shut = λ gate. shut (gate-read ∙ gate) };
    opens = refl;
    alone = alone;
  }

  wrong-read : (len : ℕ) (answer : Option ℕ) → len ≡ length old → answer ≡ wrong_field area.place area.size area.bound len record_read
      → wrong_field area.place area.size area.bound (length old) (record_of area old) ≡ answer
  wrong-read len answer same asked =
      sym (asked
      ∙ ap (λ (n : ℕ). wrong_field area.place area.size area.bound n record_read) same
      ∙ ap (wrong_field area.place area.size area.bound (length old)) is)

  -- it is open, and a field is wrong
  pub bad-read : (len place : ℕ) → get_or record_read 0 0 ≡ 1 → len ≡ length old → Some place ≡ wrong_field area.place area.size area.bound len
      record_read → found area old ≡ Err place
  bad-read len place gate same asked =
      opened-open area.place area.size area.bound old (sym gate-read ∙ gate) ∙ ap (replayed area.place area.size old) (wrong-read len (Some place) same asked)

  -- it is open, and no field is wrong
  pub open-read : (len : ℕ) → get_or record_read 0 0 ≡ 1 → len ≡ length old → None ≡ wrong_field area.place area.size area.bound len record_read
      → IsOpen area old
  open-read len gate same asked = record { long = long; gate = sym gate-read ∙ gate; right = wrong-read len None same asked }
