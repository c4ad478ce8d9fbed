-- A client writes, its delayed write is stored, and the server keeps the block.
use Rattle.std.proofs.Common.{◌≡◌, List, [], ◌∷◌, map, refl}
use Rattle.nq_base.specs.Block.{value_of, filled, zeros}
use Rattle.nq_base.specs.declared.Call.{Call}
use Rattle.nq_base.specs.declared.Event.{Event}
use Rattle.nq_model.specs.protocol.World.{Head, run}
use Rattle.law_runs.specs.FilledMet.{FilledBodiesAreMet}
use Rattle.nq_model.specs.laws.BodiesAreFilled.{IsFilled}
use Rattle.walk_steps.proofs.GivenRuns.{given-run}

-- one host, one file of one block
abbrev one-host : Head
one-host = record { hosts = 1; term = 30; longest = 60; files = (97 ∷ [], 1) ∷ [] }

-- a put, and the packet that brings it; the newest event first
abbrev one-put : List Event
one-put = Event.Deliver 0 ∷ Event.Call 0 (Call.Put 1 0 (filled 7)) ∷ []

seven : IsFilled (filled 7)
unfolding filled
seven = refl

stored : map (λ f. map value_of f.bodies) (run one-host one-put).server.kept.files ≡ (7 ∷ []) ∷ []
unfolding filled zeros given-run
stored = refl

pub some-filled : FilledBodiesAreMet
some-filled = record { head = one-host; events = one-put; brings = (tt, (seven, tt)); kept = stored }
