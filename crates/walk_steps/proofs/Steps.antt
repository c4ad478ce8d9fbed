-- What an event does to a world, and a fact that is kept by each.
use Rattle.std.proofs.Common.{◌≡◌, ℕ, ◌+◌, List, [], ◌∷◌, Option, Some, None, length, refl}
use Rattle.std.specs.Prelude.{slice_get}
use Rattle.nq_base.specs.declared.Call.{Call}
use Rattle.nq_base.specs.declared.Event.{Event}
use Rattle.nq_base.specs.declared.Party.{Party}
use Rattle.walk_steps.proofs.NoCrash.{bounds-before}
use Rattle.nq_model.specs.laws.Bounds.{KeepsBounds}
use Rattle.nq_model.specs.protocol.Client.{Client, ClientStep}
use Rattle.nq_model.specs.protocol.ClientStep.{client_call, client_tick, restart}
use Rattle.nq_model.specs.protocol.Hear.{hear}
use Rattle.nq_model.specs.protocol.Message.{Packet, datagram_of}
use Rattle.nq_model.specs.protocol.Server.{ServerStep}
use Rattle.nq_model.specs.protocol.ServerStep.{receive, tick, crash}
use Rattle.nq_model.specs.protocol.Skew.{IsWithinSkew}
use Rattle.nq_model.specs.protocol.World.{Head, World, after_server, after_client, at_client, after_hearing, sending_host, deliver_to_client, deliver_to}
use Rattle.nq_model.specs.protocol.World.{deliver, run, step}
use Rattle.walk_steps.proofs.RunCases.{During}
use Rattle.walk_steps.proofs.Clocks.{within-before}

-- how a client of a host steps
pub data ClientActs (w : World) (host : ℕ) (c : Client) (t : ClientStep) : Type 0 where
  called : (op : Call) → t ≡ client_call c op → ClientActs w host c t
  ticked : t ≡ client_tick c (c.now + 1) → ClientActs w host c t
  restarted : t ≡ restart c → ClientActs w host c t
  heard : (k : ℕ) (p : Packet) → slice_get w.packets k ≡ Some p → p.to ≡ Party.Client host → hear c k p.message ≡ Some t → ClientActs w host c t

-- how the server steps
pub data ServerActs (w : World) (t : ServerStep) : Type 0 where
  received : (k : ℕ) (p : Packet) → slice_get w.packets k ≡ Some p → p.to ≡ Party.Server
      → t ≡ receive w.server (sending_host p.sender) (length w.packets) (datagram_of p.message) → ServerActs w t
  ticks : t ≡ tick w.server (w.server.now + 1) → ServerActs w t
  crashes : (longest : ℕ) → t ≡ crash w.server longest → ServerActs w t

-- what an event makes of a world
pub data Changes (w v : World) : Type 0 where
  nothing : v ≡ w → Changes w v
  by_client : (host : ℕ) (c : Client) (t : ClientStep) → slice_get w.clients host ≡ Some c → ClientActs w host c t → v ≡ after_client w host t → Changes w v
  by_server : (t : ServerStep) → ServerActs w t → v ≡ after_server w t → Changes w v

at-client-changes : (w : World) (host : ℕ) (f : Client → ClientStep) (o : Option Client) → slice_get w.clients host ≡ o
    → ((c : Client) → ClientActs w host c (f c)) → Changes w (at_client w host f o)
at-client-changes w host f None is acts = nothing refl
at-client-changes w host f (Some c) is acts = by_client host c (f c) is (acts c) refl

hearing-changes : (w : World) (k host : ℕ) (p : Packet) (c : Client) (o : Option ClientStep) → slice_get w.packets k ≡ Some p → p.to ≡ Party.Client host
    → slice_get w.clients host ≡ Some c → hear c k p.message ≡ o → Changes w (after_hearing w host o)
hearing-changes w k host p c None sent to is hears = nothing refl
hearing-changes w k host p c (Some t) sent to is hears = by_client host c t is (heard k p sent to hears) refl

to-client-changes : (w : World) (k host : ℕ) (p : Packet) (o : Option Client) → slice_get w.packets k ≡ Some p → p.to ≡ Party.Client host
    → slice_get w.clients host ≡ o → Changes w (deliver_to_client w k host p.message o)
to-client-changes w k host p None sent to is = nothing refl
to-client-changes w k host p (Some c) sent to is = hearing-changes w k host p c (hear c k p.message) sent to is refl

to-changes : (w : World) (k : ℕ) (p : Packet) (to : Party) → slice_get w.packets k ≡ Some p → p.to ≡ to → Changes w (deliver_to w k p to)
to-changes w k p Party.Server sent to = by_server _ (received k p sent to refl) refl
to-changes w k p (Party.Client host) sent to = to-client-changes w k host p (slice_get w.clients host) sent to refl

deliver-changes : (w : World) (k : ℕ) (o : Option Packet) → slice_get w.packets k ≡ o → Changes w (deliver w k o)
deliver-changes w k None sent = nothing refl
deliver-changes w k (Some p) sent = to-changes w k p p.to sent refl

pub step-changes : (w : World) (e : Event) → Changes w (step w e)
step-changes w (Event.Call host op) = at-client-changes w host (λ c. client_call c op) (slice_get w.clients host) refl (λ c. called op refl)
step-changes w (Event.Deliver k) = deliver-changes w k (slice_get w.packets k) refl
step-changes w Event.ServerTick = by_server _ (ticks refl) refl
step-changes w (Event.ClientTick host) = at-client-changes w host (λ c. client_tick c (c.now + 1)) (slice_get w.clients host) refl (λ c. ticked refl)
step-changes w (Event.Restart host) = at-client-changes w host restart (slice_get w.clients host) refl (λ c. restarted refl)
step-changes w (Event.Crash longest) = by_server _ (crashes longest refl) refl

-- a fact of each run
pub run-goes : (most : ℕ) (head : Head) (G : List Event → Type 0) → (KeepsBounds most head [] → G [])
    → ((e : Event) (events : List Event) → During most head e events → Changes (run head events) (run head (e ∷ events)) → G events → G (e ∷ events))
    → (events : List Event) → KeepsBounds most head events → IsWithinSkew head.hosts most events → G events
run-goes most head G starts goes [] bounds within = starts bounds
run-goes most head G starts goes (e ∷ events) bounds within =
    let bounded : KeepsBounds most head events = bounds-before most head e events bounds in
    let skewed : IsWithinSkew head.hosts most events = within-before head.hosts most e events within in
    goes e events (record { bounds = bounded; within = skewed; bounds_after = bounds; within_after = within }) (step-changes (run head events) e)
    (run-goes most head G starts goes events bounded skewed)
