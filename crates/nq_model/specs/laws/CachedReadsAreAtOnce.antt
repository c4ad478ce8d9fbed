-- A client answers a cached read at once, in every run.
use Rattle.std.specs.Prelude.{◌≡◌, ℕ, List, Some, slice_get}
use Rattle.nq_base.specs.declared.Call.{Call}
use Rattle.nq_base.specs.declared.Event.{Event}
use Rattle.nq_model.specs.laws.CachedAtOnce.{HasCached, AnswersAtOnce}
use Rattle.nq_model.specs.protocol.Client.{Lease, Client}
use Rattle.nq_model.specs.protocol.ClientStep.{client_call}
use Rattle.nq_model.specs.protocol.World.{Head, run}

-- after every schedule, whatever packets were lost, repeated or reordered, whoever restarted and however the clocks ran, a
-- client that has a block under a lease that runs answers a read or fetch of it in the step of that call (Macklem 1994)
abbrev pub CachedAtOnceInEveryRun : Type 0
CachedAtOnceInEveryRun =
    (head : Head) (events : List Event) (host : ℕ) (c : Client) (file block : ℕ) (lease : Lease) (body : List ℕ)
    → slice_get (run head events).clients host ≡ Some c
    → HasCached c file block lease body
    → AnswersAtOnce c (Call.Read file block) file block body (client_call c (Call.Read file block))
    × AnswersAtOnce c (Call.Fetch file block) file block body (client_call c (Call.Fetch file block))
