-- The first delayed write that is not acknowledged, looked for place by place.
use Rattle.std.proofs.Common.{◌≡◌, ℕ, List, [], ◌∷◌, drop, Option, Some, None, is_some, zero, suc, ◌+◌, Bool, true, false, refl, sym, subst, ap, ◌∙◌}
use Rattle.std.proofs.Common.{add-one, ◌==◌, ◌&&◌, if◌then◌else◌, arith}
use Rattle.std.proofs.lemmas.Bool.Decides.{nat_tests}
use Rattle.std.specs.List.{slice_get}
use Rattle.std.specs.Option.{option_map}
use Rattle.nq_base.specs.declared.Loss.{Loss}
use Rattle.nq_base.specs.declared.Push.{Push}
use Rattle.nq_base.specs.declared.Who.{Who}
use Rattle.nq_model.specs.protocol.Client.{dirty_at}
use Rattle.nq_model.specs.protocol.Hear.{loss_of}
use Rattle.nq_model.specs.protocol.Settle.{dirty_body, held_body, pushed_body}
use Rattle.nq_stage.specs.declared.messages.Written.{Written}
use Rattle.nq_stage.specs.Acknowledged.{verifier_of}
use Rattle.nq_stage.specs.Offering.{written_by, first_unknown}

-- the delayed writes of which a loss tells
pub record OfLoss (o : Option Push) (l : Loss) : Type 0 where
  pub push : Push
  pub is : o ≡ Some push
  pub tells : loss_of push ≡ l

pub of-loss : (o : Option Push) (l : Loss) → Some l ≡ option_map loss_of o → OfLoss o l
of-loss None l h = absurd cc
of-loss (Some p) l h = record { push = p; is = refl; tells = (let e : loss_of p ≡ l = cc in e) }

pub no-loss : (o : Option Push) → None ≡ option_map loss_of o → o ≡ None
no-loss None h = refl
no-loss (Some p) h = absurd cc

-- the last of the delayed writes of which a loss tells, as an incarnation's
pub written-by : (who : Who) (p : Push) (l : Loss) → loss_of p ≡ l → (let w : Written = record {
  host = who.host;
  inc = who.inc;
  file = l.file;
  block = l.block;
  last = l.last;
} in w) ≡ written_by who p
written-by who p l h = rw (sym h) refl

module _ (who : Who) (acked : List (Written × ℕ)) where
  -- at a place it is the one that is there, or the first behind it
  pub unknown-here : (ps : List Push) (i : ℕ) (p : Push) → slice_get ps i ≡ Some p → first_unknown who acked (drop i ps)
      ≡ (if is_some (verifier_of (written_by who p) acked) then first_unknown who acked (drop (suc i) ps) else Some (written_by who p))
  unknown-here [] i p h = absurd cc
  unknown-here (q ∷ ps) zero p h = let e : q ≡ p = cc in rw e refl
  unknown-here (q ∷ ps) (suc i) p h = unknown-here ps i p h

  -- past the end there is none
  pub unknown-past : (ps : List Push) (i : ℕ) → slice_get ps i ≡ None → first_unknown who acked (drop i ps) ≡ None
  unknown-past [] zero h = refl
  unknown-past [] (suc i) h = refl
  unknown-past (q ∷ ps) zero h = absurd cc
  unknown-past (q ∷ ps) (suc i) h = unknown-past ps i h

  -- the last of the delayed writes at a place, as an incarnation's, and whether its body is acknowledged
  at-place : (ps : List Push) (i : ℕ) (l : Loss) (w : Written) (v : Option ℕ) (b : Bool) → Some l ≡ option_map loss_of (slice_get ps i)
      → w ≡ record { host = who.host; inc = who.inc; file = l.file; block = l.block; last = l.last } → v ≡ verifier_of w acked → is_some v ≡ b
      → first_unknown who acked (drop i ps) ≡ (if b then first_unknown who acked (drop (suc i) ps) else Some w)
  at-place ps i l w v b there is found known =
      let o = of-loss (slice_get ps i) l there in
      let same : w ≡ written_by who o.push = is ∙ written-by who o.push l o.tells in
      let on : is_some (verifier_of (written_by who o.push) acked) ≡ b = subst (λ z. is_some (verifier_of z acked) ≡ b) same (sym (ap is_some found)
      ∙ known) in
      unknown-here ps i o.push o.is ∙ rw (on, sym same) refl

  -- one that is not acknowledged is the first from its place on
  pub unknown-at : (ps : List Push) (i : ℕ) (l : Loss) (w : Written) (v : Option ℕ) → Some l ≡ option_map loss_of (slice_get ps i)
      → w ≡ record { host = who.host; inc = who.inc; file = l.file; block = l.block; last = l.last } → v ≡ verifier_of w acked → is_some v ≡ false
      → first_unknown who acked (drop i ps) ≡ Some w
  unknown-at ps i l w v there is found known = at-place ps i l w v false there is found known

  -- of one that is acknowledged the first stands behind it
  pub unknown-behind : (ps : List Push) (i : ℕ) (l : Loss) (w : Written) (v : Option ℕ) → Some l ≡ option_map loss_of (slice_get ps i)
      → w ≡ record { host = who.host; inc = who.inc; file = l.file; block = l.block; last = l.last } → v ≡ verifier_of w acked → is_some v ≡ true
      → first_unknown who acked (drop (i + 1) ps) ≡ first_unknown who acked (drop i ps)
  unknown-behind ps i l w v there is found known = ap (λ n. first_unknown who acked (drop n ps)) (add-one i)
      ∙ sym (at-place ps i l w v true there is found known)

-- ---- what is delayed has a body

own-place : (file block : ℕ) → (file == file && block == block) ≡ true
own-place file block = grind (arith, nat_tests)

at-own : (p : Push) (ps : List Push) → is_some (dirty_at p.file p.block (p ∷ ps)) ≡ true
at-own p ps = ap (λ b. is_some (if b then Some p else dirty_at p.file p.block ps)) (own-place p.file p.block)

behind : (b : Bool) (p : Push) (rest : Option Push) → is_some rest ≡ true → is_some (if b then Some p else rest) ≡ true
behind true p rest h = refl
behind false p rest h = h

here : (who : Who) (p : Push) (ps : List Push) (w : Written) → Some (written_by who p) ≡ Some w → is_some (dirty_at w.file w.block (p ∷ ps)) ≡ true
here who p ps w h = let e : written_by who p ≡ w = cc in subst (λ (z : Written). is_some (dirty_at z.file z.block (p ∷ ps)) ≡ true) e (at-own p ps)

-- one that is not acknowledged is delayed
unknown-is-delayed : (who : Who) (acked : List (Written × ℕ)) (ps : List Push) (w : Written) → first_unknown who acked ps ≡ Some w
    → is_some (dirty_at w.file w.block ps) ≡ true
unknown-is-delayed who acked [] w h = absurd cc
unknown-is-delayed who acked (p ∷ ps) w h = first (is_some (verifier_of (written_by who p) acked)) (unknown-is-delayed who acked ps w) h
  where
    first : (b : Bool) → (first_unknown who acked ps ≡ Some w → is_some (dirty_at w.file w.block ps) ≡ true) → (if b then first_unknown who acked ps
        else Some (written_by who p)) ≡ Some w → is_some (dirty_at w.file w.block (p ∷ ps)) ≡ true
    first true rest e = behind (p.file == w.file && p.block == w.block) p (dirty_at w.file w.block ps) (rest e)
    first false rest e = here who p ps w e

held : (o : Option Push) (pushed : Option (List ℕ)) → is_some o ≡ true → held_body o pushed None ≡ None → ⊥
held None pushed there none = cc
held (Some p) pushed there none = cc

-- so its block has a body among the delayed writes
pub unknown_has_body : (who : Who) (acked : List (Written × ℕ)) (ps : List Push) (push : Option Push) (w : Written) → first_unknown who acked ps
    ≡ Some w → dirty_body w.file w.block ps push ≡ None → ⊥
unknown_has_body who acked ps push w is none = held (dirty_at w.file w.block ps) (pushed_body w.file w.block push) (unknown-is-delayed who acked ps w is) none
