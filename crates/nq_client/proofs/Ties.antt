-- Delayed writes are under way while their request is, also where another request is given up.
use Rattle.std.proofs.Common.{◌≡◌, ℕ, Bool, true, false, Option, Some, None, if◌then◌else◌, refl}
use Rattle.nq_base.specs.declared.Push.{Push}
use Rattle.nq_base.specs.declared.Request.{Request}
use Rattle.nq_base.specs.declared.Request.TheVariants.{Write}
use Rattle.nq_client.specs.Tied.{Tied, TiedFor}
use Rattle.nq_model.specs.protocol.Client.{Job, attaching, for_call, renewing, pushing, Ticket}
use Rattle.nq_model.specs.protocol.Hear.{wants_of, cancelled}

-- without a request none are under way
pub tied-none : (o : Option Ticket) (push : Option Push) → o ≡ None → Tied o push → push ≡ None
tied-none None push e t = t
tied-none (Some k) push e t = absurd cc

-- beside a request that wants a lease none are under way
tied-wanted : (job : Job) (r : Request) (push : Option Push) (file : ℕ) → wants_of file r ≡ true → TiedFor job r push → push ≡ None
tied-wanted attaching r push file h t = t
tied-wanted for_call r push file h t = t
tied-wanted renewing r push file h t = t
tied-wanted pushing (Write who seq f block first last base body) push file h t = absurd cc
tied-wanted pushing other push file h t = absurd t

-- nor where that request was given up
pub tied-cancelled : (file : ℕ) (o : Option Ticket) (push : Option Push) → Tied o push → Tied (cancelled file o) push
tied-cancelled file None push t = t
tied-cancelled file (Some k) push t = go (wants_of file k.request) refl
  where
    go : (b : Bool) → wants_of file k.request ≡ b → Tied (if b then None else Some k) push
    go true e = tied-wanted k.job k.request push file e t
    go false e = t
