-- A fact holds after every run where it holds at the start and each kind of event keeps it.
use Rattle.std.proofs.Common.{◌≡◌, ◌≢◌, ◌≤◌, ℕ, ◌+◌, Bool, true, false, ◌==◌, List, [], ◌∷◌, Option, Some, None, length, refl, sym, subst, ◌∙◌, arith}
use Rattle.std.specs.Prelude.{slice_get, slice_set}
use Rattle.nq_base.specs.declared.Call.{Call}
use Rattle.nq_base.specs.declared.Event.{Event}
use Rattle.nq_base.specs.declared.Party.{Party}
use Rattle.walk_steps.proofs.NoCrash.{bounds-before}
use Rattle.nq_model.specs.laws.Bounds.{KeepsBounds}
use Rattle.nq_model.specs.protocol.Client.{Client, ClientStep}
use Rattle.nq_model.specs.protocol.ClientStep.{client_call, client_tick, restart}
use Rattle.nq_model.specs.protocol.Hear.{hear}
use Rattle.nq_model.specs.protocol.Message.{Packet, datagram_of}
use Rattle.nq_model.specs.protocol.Profile.{shortest_term}
use Rattle.nq_model.specs.protocol.ServerStep.{receive, tick, crash}
use Rattle.nq_model.specs.protocol.Skew.{IsWithinSkew}
use Rattle.nq_model.specs.protocol.World.{Head, World, after_server, after_client, at_client, after_hearing, sending_host, deliver_to_client, deliver_to}
use Rattle.nq_model.specs.protocol.World.{deliver, start, run, step}
use Rattle.walk_steps.proofs.Clocks.{within-before}
use Rattle.walk_steps.proofs.Worlds.{get-set-same, get-set-other}
use Rattle.walk_steps.proofs.Rows.{same-number, number-same}

-- an event comes after a schedule, and both keep to bounds and are within skew
pub record During (most : ℕ) (head : Head) (e : Event) (events : List Event) : Type 0 where
  pub bounds : KeepsBounds most head events
  pub within : IsWithinSkew head.hosts most events
  pub bounds_after : KeepsBounds most head (e ∷ events)
  pub within_after : IsWithinSkew head.hosts most (e ∷ events)

-- the client of a host after a schedule
abbrev pub client_at : Head → List Event → ℕ → Option Client
client_at head events host = slice_get (run head events).clients host

-- what each kind of event keeps of a world
pub record Keeps (most : ℕ) (head : Head) (G : World → Type 0) : Type 0 where
  pub starts : KeepsBounds most head [] → G (start head)
  pub called : (events : List Event) (host : ℕ) (c : Client) (op : Call) → During most head (Event.Call host op) events
      → client_at head events host ≡ Some c → G (run head events) → G (after_client (run head events) host (client_call c op))
  pub ticked : (events : List Event) (host : ℕ) (c : Client) → During most head (Event.ClientTick host) events → client_at head events host ≡ Some c
      → G (run head events) → G (after_client (run head events) host (client_tick c (c.now + 1)))
  pub restarted : (events : List Event) (host : ℕ) (c : Client) → During most head (Event.Restart host) events → client_at head events host ≡ Some c
      → G (run head events) → G (after_client (run head events) host (restart c))
  pub heard : (events : List Event) (k : ℕ) (p : Packet) (host : ℕ) (c : Client) (t : ClientStep) → During most head (Event.Deliver k) events
      → slice_get (run head events).packets k ≡ Some p → p.to ≡ Party.Client host → client_at head events host ≡ Some c → hear c k p.message ≡ Some t
      → G (run head events) → G (after_client (run head events) host t)
  pub received : (events : List Event) (k : ℕ) (p : Packet) → During most head (Event.Deliver k) events → slice_get (run head events).packets k ≡ Some p
      → p.to ≡ Party.Server → G (run head events)
      → G (after_server (run head events)
      (receive (run head events).server (sending_host p.sender) (length (run head events).packets) (datagram_of p.message)))
  pub server_ticked : (events : List Event) → During most head Event.ServerTick events → G (run head events)
      → G (after_server (run head events) (tick (run head events).server ((run head events).server.now + 1)))
  pub crashed : (events : List Event) (longest : ℕ) → During most head (Event.Crash longest) events → shortest_term ≤ longest → longest ≤ most
      → G (run head events) → G (after_server (run head events) (crash (run head events).server longest))

module _ {most : ℕ} {head : Head} {G : World → Type 0} (keeps : Keeps most head G) where
  at-client-keeps : (w : World) (host : ℕ) (f : Client → ClientStep) (o : Option Client) → slice_get w.clients host ≡ o → G w
      → ((c : Client) → slice_get w.clients host ≡ Some c → G (after_client w host (f c))) → G (at_client w host f o)
  at-client-keeps w host f None is g goes = g
  at-client-keeps w host f (Some c) is g goes = goes c is

  hearing-keeps : (w : World) (host : ℕ) (o : Option ClientStep) → G w → ((t : ClientStep) → o ≡ Some t → G (after_client w host t))
      → G (after_hearing w host o)
  hearing-keeps w host None g goes = g
  hearing-keeps w host (Some t) g goes = goes t refl

  to-client-keeps : (events : List Event) (k : ℕ) (p : Packet) (host : ℕ) → During most head (Event.Deliver k) events
      → slice_get (run head events).packets k ≡ Some p → p.to ≡ Party.Client host → (o : Option Client) → client_at head events host ≡ o
      → G (run head events) → G (deliver_to_client (run head events) k host p.message o)
  to-client-keeps events k p host during sent to None is g = g
  to-client-keeps events k p host during sent to (Some c) is g =
      hearing-keeps (run head events) host (hear c k p.message) g (λ t hears. keeps.heard events k p host c t during sent to is hears g)

  to-keeps : (events : List Event) (k : ℕ) (p : Packet) → During most head (Event.Deliver k) events → slice_get (run head events).packets k ≡ Some p
      → (to : Party) → p.to ≡ to → G (run head events) → G (deliver_to (run head events) k p to)
  to-keeps events k p during sent Party.Server to g = keeps.received events k p during sent to g
  to-keeps events k p during sent (Party.Client host) to g = to-client-keeps events k p host during sent to (client_at head events host) refl g

  deliver-keeps : (events : List Event) (k : ℕ) → During most head (Event.Deliver k) events → (o : Option Packet)
      → slice_get (run head events).packets k ≡ o → G (run head events) → G (deliver (run head events) k o)
  deliver-keeps events k during None sent g = g
  deliver-keeps events k during (Some p) sent g = to-keeps events k p during sent p.to refl g

  step-keeps : (e : Event) (events : List Event) → During most head e events → G (run head events) → G (step (run head events) e)
  step-keeps (Event.Call host op) events during g =
      at-client-keeps (run head events) host (λ c. client_call c op) (client_at head events host) refl g (λ c is. keeps.called events host c op during is g)
  step-keeps (Event.Deliver k) events during g = deliver-keeps events k during (slice_get (run head events).packets k) refl g
  step-keeps Event.ServerTick events during g = keeps.server_ticked events during g
  step-keeps (Event.ClientTick host) events during g =
      at-client-keeps (run head events) host (λ c. client_tick c (c.now + 1)) (client_at head events host) refl g
      (λ c is. keeps.ticked events host c during is g)
  step-keeps (Event.Restart host) events during g =
      at-client-keeps (run head events) host restart (client_at head events host) refl g (λ c is. keeps.restarted events host c during is g)
  step-keeps (Event.Crash longest) events during g =
      let b = during.bounds_after.boots 0 (Event.Crash longest) (omega arith) in keeps.crashed events longest during b.0 b.1 g

  -- the fact holds after every run within bounds and within skew
  pub run-keeps : (events : List Event) → KeepsBounds most head events → IsWithinSkew head.hosts most events → G (run head events)
  run-keeps [] bounds within = keeps.starts bounds
  run-keeps (e ∷ events) bounds within =
      let bounded : KeepsBounds most head events = bounds-before most head e events bounds in
      let skewed : IsWithinSkew head.hosts most events = within-before head.hosts most e events within in
      step-keeps e events (record { bounds = bounded; within = skewed; bounds_after = bounds; within_after = within }) (run-keeps events bounded skewed)

-- a fact of each client and of the world around it
abbrev pub OfClients : (ℕ → Client → World → Type 0) → World → Type 0
OfClients F w = (host : ℕ) (c : Client) → slice_get w.clients host ≡ Some c → F host c w

-- after a client's step it holds of each client, where it holds of the one that stepped and of the others
pub clients-after : (F : ℕ → Client → World → Type 0) (w : World) (host : ℕ) (t : ClientStep) → F host t.client (after_client w host t)
    → ((other : ℕ) (c : Client) → other ≢ host → slice_get w.clients other ≡ Some c → F other c (after_client w host t))
    → OfClients F (after_client w host t)
unfolding after_client
clients-after F w host t own others other c is = case (other == host) refl
  where
    case : (b : Bool) → (other == host) ≡ b → F other c (after_client w host t)
    case true same =
        let one : other ≡ host = same-number other host same in
        let new : c ≡ t.client = get-set-same w.clients host t.client c (subst (λ n. slice_get (slice_set w.clients host t.client) n ≡ Some c) one is) in
        subst (λ n. F n c (after_client w host t)) (sym one) (subst (λ z. F host z (after_client w host t)) (sym new) own)
    case false differs =
        let apart : other ≢ host = λ same. let yes : (other == host) ≡ true = number-same other host same in absurd (cc) in
        others other c apart (sym (get-set-other w.clients host other t.client apart) ∙ is)
