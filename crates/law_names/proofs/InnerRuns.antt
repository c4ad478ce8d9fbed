-- What is known of the inner world of a run with lists.
use Rattle.std.proofs.Common.{◌≡◌, ◌≤◌, ℕ, ◌+◌, List, length, refl, sym, subst, ap, ◌∙◌}
use Rattle.nq_base.specs.declared.Event.{Event}
use Rattle.nq_model.specs.laws.Bounds.{KeepsBounds}
use Rattle.nq_model.specs.laws.OneRequestPerSequence.{OpensOne, OneOpenInEveryRun}
use Rattle.nq_model.specs.protocol.Client.{Client}
use Rattle.nq_model.specs.protocol.ClientStep.{attached_client, client_call, client_tick, fresh_client, restart, starts}
use Rattle.nq_model.specs.protocol.Server.{ServerStep}
use Rattle.nq_model.specs.protocol.Skew.{IsWithinSkew}
use Rattle.nq_model.specs.protocol.Stepped.{most_events}
use Rattle.nq_model.specs.protocol.World.{Head, World, after_server, run, start}
use Rattle.walk_steps.specs.Within.{AreGiven, IsHeadWithin, IsServerAfter, NumbersStayWithin}
use Rattle.walk_steps.proofs.WorldNumbers.{DrawnUpTo, drawn-up-to}
use Rattle.walk_steps.proofs.LeaseIntervals.{run-runs}
use Rattle.walk_steps.proofs.ClientMoves.{none-some, some-same}
use Rattle.walk_steps.proofs.Runs.{Runs}
use Rattle.walk_steps.proofs.WorldClocks.{Clocked, run-clocked}
use Rattle.walk_steps.proofs.RunCases.{OfClients, clients-after, run-keeps}
use Rattle.walk_steps.proofs.Worlds.{Holds, first-client, run-holds}
use Rattle.law_names.proofs.OwnCalls.{TicketIsOfCall, call-fits, hear-fits, tick-fits}

-- ---- requests are of their calls

abbrev FitsCall : ℕ → Client → World → Type 0
FitsCall host c w = TicketIsOfCall c.ticket c.call

same-clients : (w : World) (t : ServerStep) → OfClients FitsCall w → OfClients FitsCall (after_server w t)
unfolding after_server
same-clients w t h = h

restart-fits : (c : Client) → TicketIsOfCall (restart c).client.ticket (restart c).client.call
unfolding starts fresh_client
restart-fits c t is job = let one = some-same _ t is in let bad = ap (λ z. z.job) one ∙ job in absurd (cc)

start-fits : (head : Head) → OfClients FitsCall (start head)
unfolding start attached_client fresh_client
start-fits head host c is t has job =
    none-some t (ap (λ z. z.ticket) (sym (first-client head.term 0 head.hosts host c is)) ∙ has)

pub tickets-of-calls : (most : ℕ) (head : Head) (events : List Event) → KeepsBounds most head events → IsWithinSkew head.hosts most events
    → OfClients FitsCall (run head events)
tickets-of-calls most head events bounds within = run-keeps {most = most} {head = head} {G = OfClients FitsCall} (record {
  starts = λ b. start-fits head;
  called = λ es host c op during is g.
      clients-after FitsCall (run head es) host (client_call c op) (call-fits c (g host c is) op).1 (λ other d apart there. g other d there);
  ticked = λ es host c during is g.
      clients-after FitsCall (run head es) host (client_tick c (c.now + 1)) (tick-fits c (g host c is) (c.now + 1)).1 (λ other d apart there. g other d there);
  restarted = λ es host c during is g.
      clients-after FitsCall (run head es) host (restart c) (restart-fits c) (λ other d apart there. g other d there);
  heard = λ es k p host c t during sent to is hears g.
      clients-after FitsCall (run head es) host t (hear-fits c (g host c is) k p.message t ((run-holds head es).clients host c is).alone hears).1
      (λ other d apart there. g other d there);
  received = λ es k p during sent to g. same-clients (run head es) _ g;
  server_ticked = λ es during g. same-clients (run head es) _ g;
  crashed = λ es longest during long few g. same-clients (run head es) _ g;
}) events bounds within

-- ---- all that is known

pub record IsKnown (most : ℕ) (head : Head) (w : World) (ran : List Event) : Type 0 where
  pub is : w ≡ run head ran
  pub bounds : KeepsBounds most head ran
  pub skew : IsWithinSkew head.hosts most ran
  pub given : AreGiven head ran
  pub few : length ran ≤ most_events
  pub holds : Holds w
  pub clocked : Clocked w ran
  pub runs : Runs head.hosts most w ran
  pub within : IsServerAfter (length ran) w.server
  pub opens : OpensOne w
  pub tickets : OfClients FitsCall w
  pub drawn : DrawnUpTo (length ran) w

pub known : (most : ℕ) (head : Head) (w : World) (ran : List Event) → w ≡ run head ran → KeepsBounds most head ran → IsWithinSkew head.hosts most ran
    → AreGiven head ran → length ran ≤ most_events → IsHeadWithin head → NumbersStayWithin → OneOpenInEveryRun → IsKnown most head w ran
known most head w ran is bounds skew given few head_within numbers one = subst (λ x. IsKnown most head x ran) (sym is) (record {
  is = refl;
  bounds = bounds;
  skew = skew;
  given = given;
  few = few;
  holds = run-holds head ran;
  clocked = run-clocked head ran;
  runs = run-runs most head ran bounds skew;
  within = numbers head ran head_within given few;
  opens = one most head ran bounds skew;
  tickets = tickets-of-calls most head ran bounds skew;
  drawn = drawn-up-to head ran;
})
