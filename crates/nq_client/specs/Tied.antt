-- Delayed writes are under way exactly while their request is.
use Rattle.std.specs.Prelude.{◌≡◌, Option, Some, None, IsTrue}
use Rattle.nq_base.specs.declared.Push.{Push}
use Rattle.nq_base.specs.declared.Request.{Request}
use Rattle.nq_base.specs.declared.Request.TheVariants.{Write}
use Rattle.nq_model.specs.protocol.Client.{Job, attaching, for_call, renewing, pushing, Ticket, is_push_of, push_passes}

-- the request stores the delayed writes that are under way
abbrev pub Stores : Request → Option Push → Type 0
Stores (Write who seq file block first last base body) push = IsTrue (push_passes (is_push_of file) push)
Stores other push = ⊥

-- a request for delayed writes stores those that are under way, and beside another one none are
abbrev pub TiedFor : Job → Request → Option Push → Type 0
TiedFor attaching request push = push ≡ None
TiedFor for_call request push = push ≡ None
TiedFor renewing request push = push ≡ None
TiedFor pushing request push = Stores request push

-- delayed writes are under way exactly while their request is
abbrev pub Tied : Option Ticket → Option Push → Type 0
Tied None push = push ≡ None
Tied (Some t) push = TiedFor t.job t.request push
