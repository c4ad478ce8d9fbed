-- Who makes a file, looks up a name or asks for a file's attributes waits for nobody: he is answered soon, whatever others do or have done.
use Rattle.std.specs.Prelude.{◌≡◌, ◌≤◌, ◌<◌, ℕ, ◌+◌, Bool, true, false, List, Some, slice_get}
use Rattle.nq_base.specs.declared.Call.{Call}
use Rattle.nq_base.specs.declared.Event.{Event}
use Rattle.nq_model.specs.protocol.Client.{Client, UnderWay}
use Rattle.nq_model.specs.laws.Journal.{IsOpen}
use Rattle.nq_model.specs.protocol.Lines.{Play}
use Rattle.nq_model.specs.protocol.World.{Head, World, run}
use Rattle.law_rounds.specs.CalmRoundsAreLawful.{IsLawful}
use Rattle.law_rounds.specs.DeliveryEnds.{calmed}
use Rattle.law_rounds.specs.QuietDeliveries.{recovers}
use Rattle.law_rounds.specs.RoundsEndQuiet.{IsSmall}
use Rattle.law_timely.specs.Timely.{is_dead, LeadsTo, ticks_to_settle}

-- whether a call waits for no lease: it makes a file, looks up a name, or asks for the attributes of a file
abbrev pub needs_no_lease : Call → Bool
needs_no_lease (Call.Create name blocks) = true
needs_no_lease (Call.Lookup name) = true
needs_no_lease (Call.Attr file) = true
needs_no_lease other = false

-- such a call waits no longer than this by the server's clock: its client pauses for two ticks of its own at the most
abbrev pub longest_wait : ℕ
longest_wait = 4

-- a live host has this call open, and it needs no lease
pub record HasOpen (dead : List ℕ) (w : World) (host : ℕ) (c : Client) (u : UnderWay) : Type 0 where
  pub live : is_dead dead host ≡ false
  pub there : slice_get w.clients host ≡ Some c
  pub open_call : c.call ≡ Some u
  pub needs : needs_no_lease u.call ≡ true

-- after every schedule within skew, whatever is under way and whoever is dead, the network is timely: five ticks later or more let the server
-- serve, and a live host have such a call open. Once the server's clock shows more than four ticks more, the call is open no more, where the
-- schedule with all this is no longer than a schedule may be
abbrev pub NobodyIsWaitedFor : Type 0
NobodyIsWaitedFor =
    (most : ℕ) (head : Head) (events : List Event) (under_way dead : List ℕ) (moment later : Play)
    → LeadsTo dead (calmed head events under_way) moment
    → LeadsTo dead moment later
    → IsLawful most head later
    → IsSmall later
    → (run head events).server.now + ticks_to_settle ≤ moment.world.server.now
    → recovers moment.world.server.phase ≡ false
    → (host : ℕ) (c : Client) (u : UnderWay)
    → HasOpen dead moment.world host c u
    → moment.world.server.now + longest_wait < later.world.server.now
    → ¬ IsOpen later.world.journal c.who u.q
