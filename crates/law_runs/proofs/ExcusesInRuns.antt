-- The laws of losses, in every run.
use Rattle.std.proofs.Common.{◌≡◌, ◌⊎◌, ℕ, ◌==◌, Bool, true, false, List, [], ◌∷◌, Option, Some, None, refl, sym, subst, ap, ◌∙◌, inl, inr}
use Rattle.nq_base.specs.declared.Mode.TheVariants.{Writing}
use Rattle.nq_base.specs.declared.Push.{Push}
use Rattle.walk_steps.proofs.ClientMoves.{some-same, none-some}
use Rattle.law_runs.proofs.ExcuseWorlds.{ChainsInEveryRun, run-excused}
use Rattle.nq_model.specs.laws.LossesAreExcused.{LossesAreExcused, IsUnsaved, listed, under_way, IsBoundAt, IsExcusedLoss, UnsavedFilesAreBoundOrExcused}
use Rattle.walk_files.proofs.BoundRows.{bound-fitting}
use Rattle.walk_files.proofs.Cuts.{IsExcusedIn, cut-excused}
use Rattle.walk_files.proofs.Holdings.{IsHeldBound}
use Rattle.walk_files.proofs.Waiting.{IsWaiting}
use Rattle.nq_model.proofs.Endings.{ends-first}
use Rattle.nq_model.specs.protocol.Client.{Client}
use Rattle.nq_model.specs.protocol.Hear.{loss_entry}
use Rattle.nq_model.specs.laws.LeaseInterval.{claim_of, HasFitting}
use Rattle.nq_model.specs.protocol.Server.{standing}
use Rattle.nq_model.specs.protocol.World.{World, run}
use Rattle.walk_steps.proofs.Packets.{In, in-get}
use Rattle.walk_steps.proofs.Rows.{same-number}
use Rattle.walk_steps.proofs.Tests.{is-other}

pub losses-excused : ChainsInEveryRun → LossesAreExcused
losses-excused chains most head events bounds within = cut-excused (run head events).journal (run-excused chains most head events bounds within).cut

bound-at : (w : World) (c : Client) (file : ℕ) → IsHeldBound w.server c.who c.leases file → IsBoundAt w c file
bound-at w c file b =
    let f : HasFitting (claim_of c.who file Writing b.lease.tag 0) (standing w.server) = bound-fitting w.server w.server.phase c.who file b.lease.tag
    b.bound in
    record {
      lease = b.lease;
      held = b.held;
      for_writing = b.writes;
      row = f.row;
      stands = f.stands;
      holder = f.fits.holder;
      lets_write = f.fits.kind;
      began = f.fits.began;
      goes_on = f.fits.goes_on;
    }

-- some of the delayed writes of a file are bound, or all are excused
all-or-one : (w : World) (c : Client) (file : ℕ) (ps : List Push)
    → ((p : Push) → In ps p → p.file ≡ file → IsHeldBound w.server c.who c.leases file ⊎ IsExcusedIn w.journal c.who p)
    → IsHeldBound w.server c.who c.leases file ⊎ ((p : Push) → In ps p → p.file ≡ file → IsExcusedIn w.journal c.who p)
all-or-one w c file [] each = inr (λ p bad. absurd bad)
all-or-one w c file (q ∷ ps) each = step (q.file == file) refl (all-or-one w c file ps (λ p there. each p (inr there)))
  where
    more : IsExcusedIn w.journal c.who q ⊎ (q.file ≡ file → ⊥) → ((p : Push) → In ps p → p.file ≡ file → IsExcusedIn w.journal c.who p) → (p : Push)
        → In (q ∷ ps) p → p.file ≡ file → IsExcusedIn w.journal c.who p
    more (inl first) rest p (inl same) on = subst (IsExcusedIn w.journal c.who) same first
    more (inr apart) rest p (inl same) on = absurd (apart (ap (λ z. z.file) same ∙ on))
    more first rest p (inr there) on = rest p there on

    both : IsHeldBound w.server c.who c.leases file ⊎ IsExcusedIn w.journal c.who q
        → ((p : Push) → In ps p → p.file ≡ file → IsExcusedIn w.journal c.who p)
        → IsHeldBound w.server c.who c.leases file ⊎ ((p : Push) → In (q ∷ ps) p → p.file ≡ file → IsExcusedIn w.journal c.who p)
    both (inl b) rest = inl b
    both (inr e) rest = inr (more (inl e) rest)

    step : (b : Bool) → (q.file == file) ≡ b
        → IsHeldBound w.server c.who c.leases file ⊎ ((p : Push) → In ps p → p.file ≡ file → IsExcusedIn w.journal c.who p)
        → IsHeldBound w.server c.who c.leases file ⊎ ((p : Push) → In (q ∷ ps) p → p.file ≡ file → IsExcusedIn w.journal c.who p)
    step b e (inl bound) = inl bound
    step true e (inr rest) = both (each q (inl refl) (same-number q.file file e)) rest
    step false e (inr rest) = inr (more (inr (is-other q.file file e)) rest)

pub bound-or-excused : ChainsInEveryRun → UnsavedFilesAreBoundOrExcused
bound-or-excused chains most head events host c file bounds within is dirty =
    finish (all-or-one w c file c.dirty (λ p there on. at p (inl there) on)) (of-push c.push refl)
  where
    w : World
    w = run head events

    waiting : (p : Push) → IsWaiting c.dirty c.push p
        → IsHeldBound (run head events).server c.who c.leases p.file ⊎ IsExcusedIn (run head events).journal c.who p
    waiting = ((run-excused chains most head events bounds within).clients host c is).waiting

    at : (p : Push) → IsWaiting c.dirty c.push p → p.file ≡ file
        → IsHeldBound (run head events).server c.who c.leases file ⊎ IsExcusedIn (run head events).journal c.who p
    at p waits on = case (waiting p waits)
      where
        case : IsHeldBound (run head events).server c.who c.leases p.file ⊎ IsExcusedIn (run head events).journal c.who p
            → IsHeldBound (run head events).server c.who c.leases file ⊎ IsExcusedIn (run head events).journal c.who p
        case (inl b) = inl (subst (IsHeldBound (run head events).server c.who c.leases) on b)
        case (inr e) = inr e

    of-push : (o : Option Push) → c.push ≡ o
        → IsHeldBound (run head events).server c.who c.leases file
        ⊎ ((p : Push) → c.push ≡ Some p → p.file ≡ file → IsExcusedIn (run head events).journal c.who p)
    of-push None e = inr (λ p f. none-some p (sym e ∙ f))
    of-push (Some q) e = step (q.file == file) refl
      where
        one : IsHeldBound (run head events).server c.who c.leases file ⊎ IsExcusedIn (run head events).journal c.who q
            → IsHeldBound (run head events).server c.who c.leases file
            ⊎ ((p : Push) → c.push ≡ Some p → p.file ≡ file → IsExcusedIn (run head events).journal c.who p)
        one (inl b) = inl b
        one (inr x) = inr (λ p f on. subst (IsExcusedIn (run head events).journal c.who) (some-same q p (sym e ∙ f)) x)

        step : (b : Bool) → (q.file == file) ≡ b
            → IsHeldBound (run head events).server c.who c.leases file
            ⊎ ((p : Push) → c.push ≡ Some p → p.file ≡ file → IsExcusedIn (run head events).journal c.who p)
        step true is_on = one (at q (inr e) (same-number q.file file is_on))
        step false off = inr (λ p f on. absurd (is-other q.file file off (ap (λ z. z.file) (some-same q p (sym e ∙ f)) ∙ on)))

    finish : IsHeldBound (run head events).server c.who c.leases file
        ⊎ ((p : Push) → In c.dirty p → p.file ≡ file → IsExcusedIn (run head events).journal c.who p)
        → IsHeldBound (run head events).server c.who c.leases file
        ⊎ ((p : Push) → c.push ≡ Some p → p.file ≡ file → IsExcusedIn (run head events).journal c.who p)
        → IsBoundAt (run head events) c file ⊎ ((p : Push) → IsUnsaved c p → p.file ≡ file → IsExcusedLoss (run head events).journal c.who p)
    finish (inl b) pushed = inl (bound-at (run head events) c file b)
    finish (inr listed-ones) (inl b) = inl (bound-at (run head events) c file b)
    finish (inr listed-ones) (inr pushed) = inr (λ p unsaved on. each p unsaved on)
      where
        each : (p : Push) → IsUnsaved c p → p.file ≡ file → IsExcusedLoss (run head events).journal c.who p
        each p (listed place there) on =
            ends-first (loss_entry c.who p) c.who p.file (run head events).journal (listed-ones p (in-get c.dirty place p there) on)
        each p (under_way e) on = ends-first (loss_entry c.who p) c.who p.file (run head events).journal (pushed p e on)
