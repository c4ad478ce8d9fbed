-- How much an event sends.
use Rattle.std.specs.Prelude.{◌≡◌, ◌≤◌, ℕ, ◌*◌, List, All, length, map}
use Rattle.nq_base.specs.declared.Event.{Event}
use Rattle.nq_base.specs.declared.Party.{Party}
use Rattle.nq_datagrams.specs.Messages.{FitsMessage}
use Rattle.nq_datagrams.specs.Sent.{sent}
use Rattle.nq_model.specs.protocol.Client.{ClientStep}
use Rattle.nq_model.specs.protocol.Server.{ServerStep}
use Rattle.nq_model.specs.protocol.Stepped.{most_sends}
use Rattle.nq_model.specs.protocol.World.{Head, after_server, after_client, run, step}
use Rattle.nq_world.specs.Sending.{bytes_together}
use Rattle.nq_world.specs.Shown.{FitsPacket, to_server}

-- the most bytes of a datagram that is sent: those of a WRITE that is a push
abbrev pub longest_sent : ℕ
longest_sent = 4196

-- an outbox with so many datagrams at most, and so many bytes in all
pub record IsSmall (out : List (Party × List ℕ)) : Type 0 where
  pub few : length out ≤ most_sends
  pub short : bytes_together out ≤ most_sends * longest_sent

-- what the server puts into an outbox at an event of a run is small
abbrev pub ServerSendsLittle : Type 0
ServerSendsLittle =
    (head : Head) (events : List Event) (event : Event) (t : ServerStep) (out : List (Party × List ℕ))
    → step (run head events) event ≡ after_server (run head events) t
    → All FitsPacket t.sends
    → out ≡ map sent t.sends
    → IsSmall out

-- so is what a client puts there
abbrev pub ClientsSendLittle : Type 0
ClientsSendLittle =
    (head : Head) (events : List Event) (event : Event) (host : ℕ) (t : ClientStep) (out : List (Party × List ℕ))
    → step (run head events) event ≡ after_client (run head events) host t
    → All FitsMessage t.sends
    → out ≡ map to_server t.sends
    → IsSmall out

-- an event of a run sends little: room for it can be had before it is taken in
pub record EventsSendLittle : Type 0 where
  pub server : ServerSendsLittle
  pub clients : ClientsSendLittle
