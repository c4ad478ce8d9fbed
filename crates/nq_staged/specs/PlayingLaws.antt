-- The laws of a staged world as one in which a schedule is played.
use Rattle.std.proofs.Common.{◌≡◌, ℕ, ◌<◌, List, ◌∷◌, length, Some, ap, sym, subst}
use Rattle.std.specs.Prelude.{nat_lt}
use Rattle.nq_base.specs.declared.Event.{Event}
use Rattle.nq_model.specs.protocol.Stepped.{done, most_events, tested_room}
use Rattle.nq_model.specs.protocol.World.{Head}
use Rattle.nq_replay.specs.Rules.{packet_of}
use Rattle.nq_replay.specs.AsidesPlaying.{answered, took}
use Rattle.nq_replay.specs.RulesLaws.{answered-took, comes-later, low-packet}
use Rattle.nq_stage.specs.Outside.{outside_run}
use Rattle.nq_stage.specs.declared.run.event.StagedEvent.{StagedEvent}
use Rattle.nq_staged.specs.Playing.{plain_event, plain_events}
use Rattle.nq_staged.specs.Text.{IsOfHost}
use Rattle.nq_staged.specs.Worlds.{CanComeOutside, stepped_outside}
use Rattle.nq_staged.specs.declared.offer.Offer.{Offer}
use Rattle.nq_world.specs.Playing.{GoesOn, WorldOver}
use Rattle.nq_world.specs.declared.stepped.Stepped.{Stepped}

pub comes-later-outside : {K : Type 0} (faults : K → ℕ) (follows : K → K → Type 0) (old new : WorldOver K) (event : StagedEvent)
    → GoesOn faults follows Stepped.Done old new → CanComeOutside (length old.clients) old.skew.window event
    → CanComeOutside (length new.clients) new.skew.window event
comes-later-outside faults follows old new (StagedEvent.Plain event) goes can = comes-later faults follows old new event goes can
comes-later-outside faults follows old new (StagedEvent.Stage host) goes can = subst (λ n. host < n) (sym goes.settings.hosts_are) can

pub offers-later : {K : Type 0} (faults : K → ℕ) (follows : K → K → Type 0) (old new : WorldOver K) (offer : Offer)
    → GoesOn faults follows Stepped.Done old new → IsOfHost (length old.clients) offer → IsOfHost (length new.clients) offer
offers-later faults follows old new offer goes can = subst (λ n. IsOfHost n offer) (sym goes.settings.hosts_are) can

plainly-sent : (head : Head) (events : List StagedEvent) (event : Event) (packet : ℕ) → packet_of (Some event) ≡ Some packet
    → stepped_outside head events (StagedEvent.Plain event) ≡ done → packet < length (outside_run head events).sent
plainly-sent head events (Event.Call host op) packet says is = absurd (cc)
plainly-sent head events (Event.Deliver k) packet says is =
    let all = length (outside_run head events).sent in
    let same : k ≡ packet = cc in
    subst (λ n. n < all) same (low-packet (nat_lt (length events) most_events) k all (tested_room all) is)
plainly-sent head events Event.ServerTick packet says is = absurd (cc)
plainly-sent head events (Event.ClientTick host) packet says is = absurd (cc)
plainly-sent head events (Event.Restart host) packet says is = absurd (cc)
plainly-sent head events (Event.Crash longest) packet says is = absurd (cc)

pub was-sent : (head : Head) (events : List StagedEvent) (event : StagedEvent) (packet : ℕ) → packet_of (plain_event event) ≡ Some packet
    → stepped_outside head events event ≡ done → packet < length (outside_run head events).sent
was-sent head events (StagedEvent.Plain event) packet says is = plainly-sent head events event packet says is
was-sent head events (StagedEvent.Stage host) packet says is = absurd (cc)

pub offers-beside : (head : Head) (offer : Offer) (events next : List StagedEvent)
    → answered (StagedEvent.Stage offer.host ∷ events) (stepped_outside head events (StagedEvent.Stage offer.host)) ≡ took next
    → plain_events next ≡ plain_events events
offers-beside head offer events next is =
    ap plain_events (answered-took (StagedEvent.Stage offer.host ∷ events) next (stepped_outside head events (StagedEvent.Stage offer.host)) is)
