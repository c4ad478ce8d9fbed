-- After one read with a want a client can read the block again from what it has.
use Rattle.std.proofs.Common.{false, refl, arith}
use Rattle.std.specs.Prelude.{slice_get, unwrap_or}
use Rattle.nq_base.specs.declared.Mode.{Mode}
use Rattle.walk_steps.proofs.SomeLease.{two-hosts, one-read}
use Rattle.nq_laws.specs.CachedReadsMet.{IsReadySometime}
use Rattle.nq_model.specs.protocol.Client.{Client, Lease}
use Rattle.nq_base.specs.Block.{filled, zeros}
use Rattle.nq_model.specs.protocol.ClientStep.{attached_client}
use Rattle.nq_model.specs.protocol.World.{run}
use Rattle.walk_steps.proofs.GivenRuns.{given-run}

-- the first host's client after it
reader : Client
reader = unwrap_or (slice_get (run two-hosts one-read).clients 0) (attached_client (record { host = 0; inc = 1 }) 30 0)

-- its lease
lease : Lease
lease = record { file = 1; mode = Mode.Reading; tag = record { boot = 1; number = 1 }; term = 30; expiry = 30; blocks = 1; used = false }

pub is-ready-sometime : IsReadySometime
unfolding reader lease filled zeros given-run
is-ready-sometime = record {
  head = two-hosts;
  events = one-read;
  host = 0;
  client = reader;
  file = 1;
  block = 0;
  lease = lease;
  body = zeros;
  there = refl;
  ready = record { attached = refl; free = refl; held = refl; runs = refl; within = omega arith; there = refl };
}
