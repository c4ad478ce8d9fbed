use Rattle.std.proofs.Common.{◌≡◌, ◌≤◌, length}
use Rattle.std.specs.Prelude.{vec_capacity}
use Rattle.nq_model.specs.protocol.World.{first_clients}
use Rattle.nq_world.specs.Counting.{TookIn}
use Rattle.nq_world.specs.Moving.{clients_in}
use Rattle.nq_world.proofs.starting.first_clients.Given as goal

abbrev pub invariant-loop-host : goal.invariant-loop-host
invariant-loop-host l =
    (clients_in l.clients.items ≡ first_clients l.term 0 l.host) × (length l.clients.items ≡ l.host) × (l.hosts ≤ vec_capacity l.clients)
    × TookIn 0 l.clients.items
