-- What is known of the server, of one client and of the packets when the server hears a datagram.
use Rattle.std.proofs.Common.{◌≡◌, ℕ, Bool, false, List, [], Option, Some, None}
use Rattle.nq_base.specs.declared.Event.{Event}
use Rattle.nq_base.specs.declared.Request.{Request}
use Rattle.nq_base.specs.declared.Who.{Who}
use Rattle.walk_steps.proofs.ClientFacts.{changes_file}
use Rattle.walk_steps.proofs.ClientKnows.{Knows}
use Rattle.walk_steps.proofs.Packets.{Asked, Mail}
use Rattle.walk_steps.proofs.ServerFacts.{IncsFitOf}
use Rattle.walk_steps.proofs.ServerKnows.{NoneHeard, NoneGiven}
use Rattle.walk_steps.proofs.ServerNumbers.{TermsFitOf, LinesFitOf}
use Rattle.walk_steps.proofs.ServerTables.{BootsFitOf, StandingFitsOf}
use Rattle.nq_model.specs.protocol.Client.{Lease, Notice, Ticket, lease_on}
use Rattle.nq_model.specs.protocol.Kept.{host_row}
use Rattle.nq_model.specs.laws.LeaseInterval.{requested_file}
use Rattle.nq_model.specs.protocol.Message.{Packet, Datagram, request}
use Rattle.nq_model.specs.protocol.Server.{Server}

-- what is known of the server, of one client and of the packets when the server hears a datagram
pub record Hearing (ps : List Packet) (s : Server) (most sender : ℕ) (d : Datagram) (events : List Event) (who : Who) (now xid : ℕ) (attached : Bool)
    (ticket : Option Ticket) (leased : List Lease) (noticed : List Notice) : Type 0 where
  pub was_sent : (x : ℕ) (r : Request) → d ≡ request x r → Asked ps sender x r
  pub no_null : (x : ℕ) → d ≡ request x Request.Null → ⊥
  pub boots : BootsFitOf s
  pub stood : StandingFitsOf s
  pub incs : IncsFitOf s
  pub terms : TermsFitOf most s
  pub lines : LinesFitOf s
  pub mail : Mail who xid ticket ps
  pub knows : Knows NoneHeard NoneGiven (host_row s.kept who.host) s events who now attached ticket leased noticed ps
  pub changing : (t : Ticket) (file : ℕ) → ticket ≡ Some t → changes_file t.request ≡ Some file → lease_on file leased ≡ None
  pub idle : attached ≡ false → (leased ≡ []) × ((t : Ticket) → ticket ≡ Some t → requested_file t.request ≡ None)
