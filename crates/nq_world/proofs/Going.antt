-- The run of a world's events is a run of the protocol.
use Rattle.std.proofs.Common.{◌≡◌, ◌≤◌, ℕ, List, length, map, refl, sym, subst, ap, ◌∙◌, arith}
use Rattle.std.proofs.lemmas.List.{length-map}
use Rattle.std.proofs.lemmas.List.Elements.{All-nil, All-cons}
use Rattle.nq_base.specs.Plain.{plain}
use Rattle.nq_base.specs.declared.Event.{Event}
use Rattle.nq_clock.specs.Counts.{SkewCounts}
use Rattle.nq_model.specs.protocol.Skew.{IsWithinSkew}
use Rattle.nq_model.specs.protocol.SkewBroken.{skew_broken}
use Rattle.nq_model.specs.protocol.Stepped.{stepped_at}
use Rattle.nq_model.specs.protocol.World.{Head, run, start}
use Rattle.nq_model.specs.laws.Bounds.{BootsWithin}
use Rattle.walk_steps.proofs.WorldNumbers.{numbers-stay-within}
use Rattle.nq_world.specs.Running.{IsRunOf, stepped_seen, RunsBegin, ServersBegin, TestsAreExact, RunsGoOn, RunsAreLawful}
use Rattle.nq_world.specs.Shown.{datagram, FitsPacket, Seen}

sent-as-seen : (head : Head) (events : List Event) (seen : Seen) (skew : SkewCounts) → IsRunOf head events seen skew → length seen.datagrams
    ≡ length (run head events).packets
sent-as-seen head events seen skew r = ap length r.shows.datagrams ∙ length-map (run head events).packets datagram

same-broken : (head : Head) (events : List Event) (seen : Seen) (skew : SkewCounts) → IsRunOf head events seen skew → skew_broken (length skew.hosts)
    skew.window events ≡ skew_broken head.hosts head.longest events
same-broken head events seen skew r =
    ap (λ hosts. skew_broken hosts skew.window events) r.hosts ∙ ap (λ window. skew_broken head.hosts window events) r.window

tests-seen : (head : Head) (events : List Event) (packets : ℕ) (event : Event) → stepped_at head events packets event ≡ stepped_seen (length events)
    packets (skew_broken head.hosts head.longest events) event
tests-seen head events packets (Event.Call host op) = refl
tests-seen head events packets (Event.Deliver k) = refl
tests-seen head events packets Event.ServerTick = refl
tests-seen head events packets (Event.ClientTick host) = refl
tests-seen head events packets (Event.Restart host) = refl
tests-seen head events packets (Event.Crash longest) = refl

pub tests-are-exact : TestsAreExact
tests-are-exact head events seen skew event r =
    tests-seen head events (length (run head events).packets) event
    ∙ ap (λ n. stepped_seen (length events) n (skew_broken head.hosts head.longest events) event) (sym (sent-as-seen head events seen skew r))
    ∙ ap (λ b. stepped_seen (length events) (length seen.datagrams) b event) (sym (same-broken head events seen skew r))

pub runs-begin : RunsBegin
unfolding start
runs-begin head seen skew within clients none_sent none_told hosts window clocks = record {
  within = within;
  shows = record {
    clients = clients;
    datagrams = none_sent;
    fit = All-nil FitsPacket;
    entries = ap (map plain) none_told;
  };
  few = omega arith;
  given = tt;
  boots = All-nil (BootsWithin head.longest);
  hosts = hosts;
  window = window;
  clocks = clocks;
}

pub servers-begin : ServersBegin
unfolding start
servers-begin head = refl

pub runs-go-on : RunsGoOn
runs-go-on head events event seen seen' skew skew' r few room given boots shows hosts window clocks = record {
  within = r.within;
  shows = shows;
  few = omega arith;
  given = (subst (λ n. n ≤ 999936) (sent-as-seen head events seen skew r) room, given, r.given);
  boots = All-cons (BootsWithin head.longest) event events boots r.boots;
  hosts = hosts ∙ r.hosts;
  window = window ∙ r.window;
  clocks = clocks;
}

pub runs-are-lawful : RunsAreLawful
runs-are-lawful head events seen skew r = (
  (numbers-stay-within head events r.within r.given r.few).within,
  record { hosts = r.within.hosts; first_long = r.within.long; first_short = omega arith; boots = r.boots },
  subst (λ window. IsWithinSkew head.hosts window events) r.window (subst (λ hosts. IsWithinSkew hosts skew.window events) r.hosts r.clocks.within),
)
