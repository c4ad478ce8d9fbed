-- The laws of a world with leased directories as one in which a schedule is played.
use Rattle.std.proofs.Common.{◌≡◌, ℕ, ◌<◌, List, length, Some, ap, sym, subst}
use Rattle.std.specs.Prelude.{nat_lt}
use Rattle.nq_base.specs.declared.Event.{Event}
use Rattle.nq_model.specs.protocol.Stepped.{done, most_events, tested_room}
use Rattle.nq_model.specs.protocol.World.{Head}
use Rattle.nq_name_server.specs.Outside.{outside_run}
use Rattle.nq_name_server.specs.declared.run.event.NameEvent.{NameEvent}
use Rattle.nq_names.specs.Playing.{CanComeOutside, stepped_outside}
use Rattle.nq_naming.specs.Playing.{Moment, answer_at, play_aside, plain_event, scheduled_at, sent_at, with_find, with_more}
use Rattle.nq_naming.specs.Text.{IsOfHost}
use Rattle.nq_naming.specs.declared.script.aside.Aside.{Aside}
use Rattle.nq_replay.specs.AsidesPlaying.{took}
use Rattle.nq_replay.specs.Rules.{packet_of}
use Rattle.nq_replay.specs.RulesLaws.{answered-took, comes-later, low-packet, took-same}
use Rattle.nq_world.specs.Playing.{GoesOn, WorldOver}
use Rattle.nq_world.specs.declared.stepped.Stepped.{Stepped}

pub comes-later-outside : {K : Type 0} (faults : K → ℕ) (follows : K → K → Type 0) (old new : WorldOver K) (event : NameEvent)
    → GoesOn faults follows Stepped.Done old new → CanComeOutside (length old.clients) old.skew.window event
    → CanComeOutside (length new.clients) new.skew.window event
comes-later-outside faults follows old new (NameEvent.Plain event) goes can = comes-later faults follows old new event goes can
comes-later-outside faults follows old new (NameEvent.List host prefix) goes can = subst (λ n. host < n) (sym goes.settings.hosts_are) can

pub acts-later : {K : Type 0} (faults : K → ℕ) (follows : K → K → Type 0) (old new : WorldOver K) (aside : Aside)
    → GoesOn faults follows Stepped.Done old new → IsOfHost (length old.clients) aside → IsOfHost (length new.clients) aside
acts-later faults follows old new aside goes can = subst (λ n. IsOfHost n aside) (sym goes.settings.hosts_are) can

pub acts-beside : (head : Head) (aside : Aside) (m next : Moment) → play_aside head aside m ≡ took next → scheduled_at next ≡ scheduled_at m
acts-beside head (Aside.List host prefix) m next is =
    ap scheduled_at (answered-took (with_more m (NameEvent.List host prefix)) next (answer_at head m (NameEvent.List host prefix)) is)
acts-beside head (Aside.Find host name) m next is = ap scheduled_at (took-same (with_find m host name) next is)

plainly-sent : (head : Head) (events : List NameEvent) (event : Event) (packet : ℕ) → packet_of (Some event) ≡ Some packet
    → stepped_outside head events (NameEvent.Plain event) ≡ done → packet < length (outside_run head events).sent
plainly-sent head events (Event.Call host op) packet says is = absurd (cc)
plainly-sent head events (Event.Deliver k) packet says is =
    let all = length (outside_run head events).sent in
    let same : k ≡ packet = cc in
    subst (λ n. n < all) same (low-packet (nat_lt (length events) most_events) k all (tested_room all) is)
plainly-sent head events Event.ServerTick packet says is = absurd (cc)
plainly-sent head events (Event.ClientTick host) packet says is = absurd (cc)
plainly-sent head events (Event.Restart host) packet says is = absurd (cc)
plainly-sent head events (Event.Crash longest) packet says is = absurd (cc)

pub was-sent : (head : Head) (m : Moment) (event : NameEvent) (packet : ℕ) → packet_of (plain_event event) ≡ Some packet
    → answer_at head m event ≡ done → packet < sent_at head m
was-sent head m (NameEvent.Plain event) packet says is = plainly-sent head m.events event packet says is
was-sent head m (NameEvent.List host prefix) packet says is = absurd (cc)
