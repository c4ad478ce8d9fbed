-- A torn run is the run of its schedule.
use Rattle.std.proofs.Common.{◌≡◌, Bool, true, false, List, [], ◌∷◌, ◌++◌, if◌then◌else◌, refl, sym, subst}
use Rattle.nq_base.specs.declared.Event.{Event}
use Rattle.nq_model.specs.protocol.World.{Head, World, step, run}
use Rattle.nq_laws.proofs.LikeWorlds.{Goes, stays, steps-alike, boots-like, unheard-like}
use Rattle.nq_laws.specs.TornRuns.{Happening, whole, torn_before, torn_after, Span, TornWorld, brings_unsent, comes, unheard, numbers_made, torn_off}
use Rattle.nq_laws.specs.TornRuns.{torn_step, torn_run, event_of, events_of, schedule, IsWorldOf, TornRunsAreRuns}

-- the world of a schedule after an event of the torn run
abbrev came : List Span → World → Event → World
came unsent w e = if brings_unsent unsent e then w else step w e

run-event : (head : Head) (unsent : List Span) (e : Event) (earlier : List Event) → run head (event_of unsent e ++ earlier) ≡ came unsent (run head earlier) e
run-event head unsent e earlier = at (brings_unsent unsent e)
  where
    at : (c : Bool) → run head ((if c then [] else e ∷ []) ++ earlier) ≡ (if c then run head earlier else step (run head earlier) e)
    at true = refl
    at false = refl

goes : (t : TornWorld) (w : World) (e : Event) → IsWorldOf t w → Goes t.unsent t.world w (comes t e) (came t.unsent w e)
goes t w e l = at (brings_unsent t.unsent e) refl
  where
    at : (c : Bool) → brings_unsent t.unsent e ≡ c → Goes t.unsent t.world w (if c then t.world else step t.world e) (if c then w else step w e)
    at true is = stays t.unsent t.world w l
    at false out = steps-alike t.unsent t.world w e l out

happens : (head : Head) (t : TornWorld) (h : Happening) (earlier : List Event) → IsWorldOf t (run head earlier)
    → IsWorldOf (torn_step t h) (run head (events_of t.unsent h ++ earlier))
unfolding torn_off unheard
happens head t (whole e) earlier l =
    subst (λ w. IsWorldOf (record t { world = comes t e }) w) (sym (run-event head t.unsent e earlier)) (goes t (run head earlier) e l).alike
happens head t (torn_before e longest) earlier l = boots-like t.unsent t.world (run head earlier) longest l
happens head t (torn_after e longest) earlier l =
    subst (λ w. IsWorldOf (torn_off t (comes t e) longest) (step w (Event.Crash longest))) (sym (run-event head t.unsent e earlier))
    (boots-like (numbers_made t.world (comes t e) ∷ t.unsent) (unheard t.world (comes t e)) (came t.unsent (run head earlier) e) longest
    (unheard-like t.unsent t.world (run head earlier) (comes t e) (came t.unsent (run head earlier) e) l (goes t (run head earlier) e l)))

pub torn-is-run : TornRunsAreRuns
torn-is-run head [] = record { server = refl; clients = refl; journal = refl; as_many = refl; sent = λ k out. refl; unsent = λ k is. absurd (cc) }
torn-is-run head (h ∷ earlier) = happens head (torn_run head earlier) h (schedule head earlier) (torn-is-run head earlier)
