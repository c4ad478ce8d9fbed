-- The stages of a server's turn.
use Rattle.std.proofs.Common.{◌≡◌, ℕ, Bool, true, false, List, Option, Some, None, Result, Ok, Err, sym}
use Rattle.nq_base.specs.declared.Party.{Party}
use Rattle.nq_keeper.specs.declared.KeepFault.{KeepFault}
use Rattle.nq_keeper.specs.declared.KeepFault.TheVariants as keep
use Rattle.nq_link.specs.Links.{Letter}
use Rattle.nq_model.specs.protocol.Kept.{Kept}
use Rattle.nq_serving.specs.Extending.{Extension}
use Rattle.nq_serving.specs.ServerTurn.{Given, Takes, TakesLetter, TakesOf, answered, datagram, goes_on}
use Rattle.nq_serving.specs.declared.node.Node.{Node}
use Rattle.nq_base.specs.declared.ending.fault.Fault.{Fault}
use Rattle.nq_server.specs.declared.Received.{Received}

no_link : (how : Received) → goes_on how ≡ Err Fault.Link → ⊥
no_link Received.Done same = absurd (cc)
no_link (Received.Dropped reason) same = absurd (cc)
no_link Received.Fault same = absurd (cc)
no_link Received.Memory same = absurd (cc)
no_link Received.Spent same = absurd (cc)

module _ {K : Type 0} (content : K → Option Kept) (faults : K → ℕ) where
  -- nothing that a server is given stops for the link
  pub not_link : (given : Option Given) (at after : Node K) → Takes content faults given (Err Fault.Link) at after → ⊥
  not_link None at after takes = let same = takes.0 in absurd (cc)
  not_link (Some given) at after steps = no_link steps.how (sym steps.so)

no-link-answered : (made : Result Unit KeepFault) → answered made ≡ Err Fault.Link → ⊥
no-link-answered (Ok done) same = absurd (cc)
no-link-answered (Err keep.Failed) same = absurd (cc)
no-link-answered (Err keep.Memory) same = absurd (cc)

module _ {K : Type 0} (content : K → Option Kept) (faults : K → ℕ) (extension : Extension) where
  no-link-of : (own : Bool) (host : ℕ) (bytes : List ℕ) (at after : Node K)
      → TakesOf content faults extension own host bytes (Err Fault.Link) at after → ⊥
  no-link-of true host bytes at after a = no-link-answered a.made (sym a.so)
  no-link-of false host bytes at after t = not_link content faults (Some (datagram host bytes)) at after t

  -- nor does a datagram that came
  pub letter_not_link : (letter : Letter) (at after : Node K) → TakesLetter content faults extension letter (Err Fault.Link) at after → ⊥
  letter_not_link (Party.Server, bytes) at after t = not_link content faults None at after t
  letter_not_link (Party.Client host, bytes) at after t = no-link-of (extension.owns bytes) host bytes at after t
