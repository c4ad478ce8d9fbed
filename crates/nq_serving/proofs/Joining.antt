-- What a stop leaves of two parts of serving, of which one stands behind the other.
use Rattle.std.proofs.Common.{◌≡◌, ◌⊎◌, ℕ, Option, Some, inl, inr}
use Rattle.nq_serving.specs.LeavingTurns.{IsBeforeEnd, IsLeftByBoot}
use Rattle.nq_model.specs.protocol.Kept.{Kept}
use Rattle.nq_model.specs.protocol.ServerStep.{booted}
use Rattle.nq_serving.specs.Leaving.{LeavesOnly}

-- behind a boot
pub by_boot : {K : Type 0} (leaves : K → K → Option Kept → Type 0) (longest : ℕ) (kept : Kept) (found : Option Kept) (keeper middle : K) (Later : Type 0)
    → ((found : Option Kept) → leaves keeper middle found → (found ≡ Some kept) ⊎ (found ≡ Some (booted kept longest)))
    → leaves keeper middle found ⊎ Later → IsLeftByBoot longest kept found ⊎ Later
by_boot leaves longest kept found keeper middle Later boots (inl l) = inl (boots found l)
by_boot leaves longest kept found keeper middle Later boots (inr later) = inr later

-- a later end
pub further : {K : Type 0} (content : K → Option Kept) (follows : K → K → Type 0) (leaves : K → K → Option Kept → Type 0)
    → ((first second third : K) → follows first second → follows second third → follows first third)
    → (at last next : K) (Later New Then : Option Kept → Type 0) → follows last next
    → ((first : K) (found : Option Kept) → follows first last → leaves first next found → leaves first last found ⊎ New found)
    → ((found : Option Kept) → New found ⊎ Later found → Then found) → IsBeforeEnd content follows leaves at last Later
    → IsBeforeEnd content follows leaves at next Then
further {K = K} content follows leaves on at last next Later New Then same new or m =
    record {
      settled = m.settled;
      same = on at last next m.same same;
      later = λ first found before l. beyond first found before (new first found (on first at last before m.same) l);
    }
  where
    within : (first : K) (found : Option Kept) → leaves first at found ⊎ Later found → leaves first at found ⊎ Then found
    within first found (inl earlier) = inl earlier
    within first found (inr later) = inr (or found (inr later))

    beyond : (first : K) (found : Option Kept) → follows first at → leaves first last found ⊎ New found → leaves first at found ⊎ Then found
    beyond first found before (inl l) = within first found (m.later first found before l)
    beyond first found before (inr n) = inr (or found (inl n))

-- what is found in between stays so
pub besides : (In Later New Then : Option Kept → Type 0) → ((found : Option Kept) → New found ⊎ Later found → Then found)
    → (found : Option Kept) → New found ⊎ (In found ⊎ Later found) → In found ⊎ Then found
besides In Later New Then or found (inl n) = inr (or found (inl n))
besides In Later New Then or found (inr (inl here)) = inl here
besides In Later New Then or found (inr (inr later)) = inr (or found (inr later))

pub gone : (New : Option Kept → Type 0) (found : Option Kept) → New found ⊎ ⊥ → New found
gone New found (inl n) = n
gone New found (inr none) = absurd none

-- what a later part leaves, beside what an earlier one does
pub join : {K : Type 0} (content : K → Option Kept) (follows : K → K → Type 0) (leaves : K → K → Option Kept → Type 0) (at middle : K)
    (Earlier Later : Option Kept → Type 0) → LeavesOnly content follows leaves at middle Earlier
    → (kept : Kept) → content at ≡ Some kept → (first : K) (found : Option Kept) → follows first at
    → leaves first middle found ⊎ Later found → leaves first at found ⊎ (Earlier found ⊎ Later found)
join content follows leaves at middle Earlier Later only kept told first found before (inr later) = inr (inr later)
join content follows leaves at middle Earlier Later only kept told first found before (inl l) = split (only kept told first found before l)
  where
    split : leaves first at found ⊎ Earlier found → leaves first at found ⊎ (Earlier found ⊎ Later found)
    split (inl here) = inl here
    split (inr earlier) = inr (inl earlier)
