-- The laws of the world of the protocol as one in which a schedule is played, also where it stands within an outer one.
use Rattle.std.proofs.Common.{◌≡◌, ◌<◌, ℕ, Bool, true, false, List, Some, length, refl, sym, subst, ◌∙◌, arith}
use Rattle.std.proofs.lemmas.Bool.Decides.{nat_tests}
use Rattle.std.specs.Prelude.{nat_lt, if◌then◌else◌}
use Rattle.nq_base.specs.declared.Event.{Event}
use Rattle.nq_model.specs.protocol.Stepped.{Stepped as Answer, done, no_packet, out_of_skew, too_many_events, too_many_packets, most_events, stepped}
use Rattle.nq_model.specs.protocol.Stepped.{tested_room}
use Rattle.nq_model.specs.protocol.World.{Head, run}
use Rattle.nq_replay.specs.AsidesPlaying.{answered, took}
use Rattle.nq_replay.specs.Rules.{packet_of}
use Rattle.nq_replay.specs.RulesGoing.{IsNoFault}
use Rattle.nq_world.specs.Playing.{CanCome, CountsFaults, GoesOn, HasSettings, WorldOver}
use Rattle.nq_world.specs.declared.stepped.Stepped.{Stepped}

pub goes-nowhere : {K : Type 0} (faults : K → ℕ) (follows : K → K → Type 0) → ((k : K) → follows k k) → (w : WorldOver K)
    → GoesOn faults follows Stepped.Done w w
goes-nowhere faults follows itself w = record {
  counts = refl;
  keeper = itself w.server.keeper;
  settings = record { hosts_are = refl; longest_is = refl; term_is = refl };
}

-- the count of faults over two steps
faults-on : (said : Stepped) (first second last : ℕ) → second ≡ first → CountsFaults said second last → CountsFaults said first last
faults-on said first second last is counts = subst (λ n. CountsFaults said n last) is counts

-- what a world keeps over two steps
settings-on : {K : Type 0} (hosts longest term : ℕ) (old new : WorldOver K) → HasSettings hosts longest term old
    → HasSettings (length old.clients) old.skew.window old.term new → HasSettings hosts longest term new
settings-on hosts longest term old new first second = record {
  hosts_are = second.hosts_are ∙ first.hosts_are;
  longest_is = second.longest_is ∙ first.longest_is;
  term_is = second.term_is ∙ first.term_is;
}

pub goes-further : {K : Type 0} (faults : K → ℕ) (follows : K → K → Type 0) → ((a b c : K) → follows a b → follows b c → follows a c) → (said : Stepped)
    → (old mid new : WorldOver K) → GoesOn faults follows Stepped.Done old mid → GoesOn faults follows said mid new → GoesOn faults follows said old new
goes-further faults follows on said old mid new first second = record {
  counts = faults-on said (faults old.server.keeper) (faults mid.server.keeper) (faults new.server.keeper) first.counts second.counts;
  keeper = on _ _ _ first.keeper second.keeper;
  settings = settings-on _ _ _ mid new first.settings second.settings;
}

counts-still : (said : Stepped) (before count : ℕ) → IsNoFault said → count ≡ before → CountsFaults said before count
counts-still Stepped.Done before count none same = same
counts-still Stepped.NoPacket before count none same = same
counts-still (Stepped.SkewBroken broken) before count none same = same
counts-still (Stepped.Limit limit) before count none same = same
counts-still Stepped.Fault before count none same = absurd none
counts-still Stepped.Memory before count none same = same

pub goes-still : {K : Type 0} (faults : K → ℕ) (follows : K → K → Type 0) (said : Stepped) (old new : WorldOver K) → IsNoFault said
    → GoesOn faults follows Stepped.Done old new → GoesOn faults follows said old new
goes-still faults follows said old new none goes = record {
  counts = counts-still said (faults old.server.keeper) (faults new.server.keeper) none goes.counts;
  keeper = goes.keeper;
  settings = goes.settings;
}

pub keeps-hosts : {K : Type 0} (faults : K → ℕ) (follows : K → K → Type 0) (old new : WorldOver K) → GoesOn faults follows Stepped.Done old new
    → (length new.clients ≡ length old.clients) × (new.skew.window ≡ old.skew.window)
keeps-hosts faults follows old new goes = (goes.settings.hosts_are, goes.settings.longest_is)

pub comes-later : {K : Type 0} (faults : K → ℕ) (follows : K → K → Type 0) (old new : WorldOver K) (event : Event) → GoesOn faults follows Stepped.Done old new
    → CanCome (length old.clients) old.skew.window event → CanCome (length new.clients) new.skew.window event
comes-later faults follows old new event goes can =
    subst (λ n. CanCome n new.skew.window event) (sym goes.settings.hosts_are)
    (subst (λ l. CanCome (length old.clients) l event) (sym goes.settings.longest_is) can)

-- a delivery that is taken is that of a packet that was sent
tested-sent : (few sent : Bool) (room : Answer) → (if few then (if sent then room else no_packet) else too_many_events) ≡ done → sent ≡ true
tested-sent true true room is = refl
tested-sent true false room is = absurd (cc)
tested-sent false sent room is = absurd (cc)

pub low-packet : (few : Bool) (packet sent : ℕ) (room : Answer) → (if few then (if nat_lt packet sent then room else no_packet) else too_many_events) ≡ done
    → packet < sent
low-packet few packet sent room is =
    let there : nat_lt packet sent ≡ true = tested-sent few (nat_lt packet sent) room is in
    grind (arith, nat_tests)

pub was-sent : (head : Head) (events : List Event) (event : Event) (packet : ℕ) → packet_of (Some event) ≡ Some packet
    → stepped head events event ≡ done → packet < length (run head events).packets
was-sent head events (Event.Call host op) packet says is = absurd (cc)
was-sent head events (Event.Deliver k) packet says is =
    let all = length (run head events).packets in
    let same : k ≡ packet = cc in
    subst (λ n. n < all) same (low-packet (nat_lt (length events) most_events) k all (tested_room all) is)
was-sent head events Event.ServerTick packet says is = absurd (cc)
was-sent head events (Event.ClientTick host) packet says is = absurd (cc)
was-sent head events (Event.Restart host) packet says is = absurd (cc)
was-sent head events (Event.Crash longest) packet says is = absurd (cc)

-- what was come to is this moment
pub took-same : {S : Type 0} (moment next : S) → took moment ≡ took next → next ≡ moment
took-same moment next is = let same : moment ≡ next = cc in sym same

pub answered-took : {S : Type 0} (moment next : S) (answer : Answer) → answered moment answer ≡ took next → next ≡ moment
answered-took moment next done is = took-same moment next is
answered-took moment next no_packet is = absurd (cc)
answered-took moment next (out_of_skew broken) is = absurd (cc)
answered-took moment next too_many_events is = absurd (cc)
answered-took moment next too_many_packets is = absurd (cc)
