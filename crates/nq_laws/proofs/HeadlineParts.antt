-- The headline, from the laws that make its parts.
use Rattle.std.proofs.Common.{◌≡◌, ℕ, List, [], ◌∷◌, ◌++◌, Option, Some, None, refl, sym, ap, ◌∙◌}
use Rattle.std.proofs.lemmas.List.{append_assoc}
use Rattle.std.specs.Prelude.{slice_get}
use Rattle.nq_base.specs.declared.Entry.{Entry}
use Rattle.nq_base.specs.declared.Event.{Event}
use Rattle.nq_base.specs.declared.Party.{Party}
use Rattle.law_runs.proofs.OrderedCalls.{ordered-in-every-run, of-their-call-in-every-run}
use Rattle.law_runs.proofs.ChainWorlds.{chain-fits}
use Rattle.law_runs.proofs.ExcusesInRuns.{losses-excused}
use Rattle.law_runs.proofs.FateLaws.{accounted, waiting, fates}
use Rattle.law_runs.proofs.HeldLaws.{held-in-every-run}
use Rattle.law_runs.proofs.ZeroRuns.{untouched}
use Rattle.nq_laws.proofs.CachedReads.{cached-in-every-run}
use Rattle.nq_laws.proofs.FullRuns.{full-has-its-cause, losses-are-named}
use Rattle.nq_laws.proofs.RunAnswers.{refusals-are-of-their-calls, answers-tell-what-was, answers-have-causes}
use Rattle.nq_model.specs.laws.Headline.{HeadlineHolds, AtEveryMoment}
use Rattle.walk_steps.proofs.NoCrash.{bounds-before}
use Rattle.nq_model.specs.laws.Bounds.{KeepsBounds}
use Rattle.law_runs.proofs.LegalLaws.{legal-in-every-run}
use Rattle.nq_model.specs.protocol.Client.{Client, ClientStep}
use Rattle.nq_model.specs.protocol.Hear.{hear}
use Rattle.nq_model.specs.protocol.Message.{Message, Packet}
use Rattle.nq_model.specs.protocol.Server.{ServerStep}
use Rattle.nq_model.specs.protocol.Skew.{IsWithinSkew}
use Rattle.nq_model.specs.protocol.World.{Head, World, after_server, after_client, at_client, after_hearing, deliver_to_client, deliver_to, deliver, step, run}
use Rattle.law_runs.proofs.ReportedRuns.{reported-in-every-run}
use Rattle.walk_steps.proofs.Clocks.{within-before}
use Rattle.law_runs.proofs.OkDeeds.{deeds-in-every-run}
use Rattle.law_runs.proofs.Standings.{synchronized-in-every-run, answers-in-every-run, busy-in-every-run}

headline : (most : ℕ) (head : Head) (events : List Event) → KeepsBounds most head events → IsWithinSkew head.hosts most events
    → HeadlineHolds (run head events)
headline most head events bounds within =
    record {
      ordered = ordered-in-every-run most head events bounds within;
      of_their_call = of-their-call-in-every-run most head events bounds within;
      answered = answers-in-every-run most head events bounds within;
      done = deeds-in-every-run most head events bounds within;
      refused = refusals-are-of-their-calls most head events bounds within;
      busy = busy-in-every-run most head events bounds within;
      legal = legal-in-every-run most head events bounds within;
      accounted = accounted most head events bounds within;
      waiting = waiting most head events bounds within;
      fates = fates most head events bounds within;
      excused = losses-excused chain-fits most head events bounds within;
      reported = reported-in-every-run head events;
      named = losses-are-named most head events bounds within;
      synchronized = synchronized-in-every-run most head events bounds within;
      kept = held-in-every-run most head events bounds within;
      untouched = untouched head events;
      cached = λ host c file block lease body is ready. cached-in-every-run head events host c file block lease body is ready;
    }

-- ---- at every moment

-- what a journal has more than another
pub record Grows (before after : List Entry) : Type 0 where
  pub more : List Entry
  pub is : after ≡ more ++ before

same-grows : (journal : List Entry) → Grows journal journal
same-grows journal = record { more = []; is = refl }

server-grows : (w : World) (t : ServerStep) → Grows w.journal (after_server w t).journal
unfolding after_server
server-grows w t = record { more = t.entries; is = refl }

client-grows : (w : World) (host : ℕ) (t : ClientStep) → Grows w.journal (after_client w host t).journal
unfolding after_client
client-grows w host t = record { more = t.entries; is = refl }

at-client-grows : (w : World) (host : ℕ) (f : Client → ClientStep) (o : Option Client) → Grows w.journal (at_client w host f o).journal
at-client-grows w host f None = same-grows w.journal
at-client-grows w host f (Some c) = client-grows w host (f c)

hearing-grows : (w : World) (host : ℕ) (o : Option ClientStep) → Grows w.journal (after_hearing w host o).journal
hearing-grows w host None = same-grows w.journal
hearing-grows w host (Some t) = client-grows w host t

told-grows : (w : World) (k host : ℕ) (m : Message) (o : Option Client) → Grows w.journal (deliver_to_client w k host m o).journal
told-grows w k host m None = same-grows w.journal
told-grows w k host m (Some c) = hearing-grows w host (hear c k m)

to-grows : (w : World) (k : ℕ) (p : Packet) (to : Party) → Grows w.journal (deliver_to w k p to).journal
to-grows w k p Party.Server = server-grows w _
to-grows w k p (Party.Client host) = told-grows w k host p.message (slice_get w.clients host)

deliver-grows : (w : World) (k : ℕ) (o : Option Packet) → Grows w.journal (deliver w k o).journal
deliver-grows w k None = same-grows w.journal
deliver-grows w k (Some p) = to-grows w k p p.to

step-grows : (w : World) (e : Event) → Grows w.journal (step w e).journal
step-grows w (Event.Call host op) = at-client-grows w host _ (slice_get w.clients host)
step-grows w (Event.Deliver k) = deliver-grows w k (slice_get w.packets k)
step-grows w Event.ServerTick = server-grows w _
step-grows w (Event.ClientTick host) = at-client-grows w host _ (slice_get w.clients host)
step-grows w (Event.Restart host) = at-client-grows w host _ (slice_get w.clients host)
step-grows w (Event.Crash longest) = server-grows w _

run-grows : (head : Head) (later earlier : List Event) → Grows (run head earlier).journal (run head (later ++ earlier)).journal
run-grows head [] earlier = same-grows (run head earlier).journal
run-grows head (e ∷ later) earlier = further (run-grows head later earlier) (step-grows (run head (later ++ earlier)) e)
  where
    further : Grows (run head earlier).journal (run head (later ++ earlier)).journal
        → Grows (run head (later ++ earlier)).journal (step (run head (later ++ earlier)) e).journal
        → Grows (run head earlier).journal (step (run head (later ++ earlier)) e).journal
    further a b = record { more = b.more ++ a.more; is = b.is ∙ ap (λ j. b.more ++ j) a.is ∙ sym (append_assoc b.more a.more (run head earlier).journal) }

-- a beginning of a schedule keeps to bounds, and is within skew
bounds-earlier : (most : ℕ) (head : Head) (later earlier : List Event) → KeepsBounds most head (later ++ earlier) → KeepsBounds most head earlier
bounds-earlier most head [] earlier b = b
bounds-earlier most head (e ∷ later) earlier b = bounds-earlier most head later earlier (bounds-before most head e (later ++ earlier) b)

within-earlier : (hosts most : ℕ) (later earlier : List Event) → IsWithinSkew hosts most (later ++ earlier) → IsWithinSkew hosts most earlier
within-earlier hosts most [] earlier w = w
within-earlier hosts most (e ∷ later) earlier w = within-earlier hosts most later earlier (within-before hosts most e (later ++ earlier) w)

pub at-every-moment : AtEveryMoment
at-every-moment most head later earlier bounds within =
    let g = run-grows head later earlier in
    let bounded : KeepsBounds most head earlier = bounds-earlier most head later earlier bounds in
    let skewed : IsWithinSkew head.hosts most earlier = within-earlier head.hosts most later earlier within in
    record {
      holds = headline most head earlier bounded skewed;
      told = answers-tell-what-was most head earlier bounded skewed;
      caused = answers-have-causes most head earlier bounded skewed;
      full = full-has-its-cause most head earlier bounded skewed;
      more = g.more;
      grows = g.is;
    }
