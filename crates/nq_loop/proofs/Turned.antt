-- A turn, by how its steps ended.
use Rattle.std.proofs.Common.{◌≡◌, ℕ, Bool, ap, subst, ◌∙◌}
use Rattle.std.specs.Prelude.{Result, reverse}
use Rattle.nq_clock.specs.Clocks.{ClockTold, ReadsOnce}
use Rattle.nq_loop.specs.Holding.{IsLooping, Loop, Loops, Turns, moment_of}
use Rattle.nq_loop.specs.Looping.{Makes, rounds_due, turn_steps}
use Rattle.nq_loop.specs.Steps.{MakesSteps}
use Rattle.nq_loop.specs.declared.turns.Halt.{Halt}
use Rattle.nq_model.specs.protocol.World.{Head, run}

pub turned : {K : Type 0} (head : Head) (ended : Result Bool Halt) (reading rounds time : ℕ) (clock clock' : ClockTold)
    (old new : Loop K) → ReadsOnce reading clock clock' → rounds ≡ rounds_due time reading
    → time ≡ old.world.server.beside.time → IsLooping head old → Loops head (turn_steps head.hosts rounds) ended old new → Turns head ended clock clock' old new
turned head ended reading rounds time clock clock' old new read due shown here loops =
    let same : old.world.server.beside.time ≡ (run head (reverse old.ran)).server.now = ap (λ b. b.time) here.plays.holds in
    let are : rounds ≡ rounds_due (run head (reverse old.ran)).server.now reading = due ∙ ap (λ t. rounds_due t reading) (shown ∙ same) in
    record {
      takes = record {
        reading = reading;
        read = read;
        made = subst (λ n. MakesSteps (Makes head) (turn_steps head.hosts n) ended (moment_of old) (moment_of new)) are loops.makes;
      };
      stands = loops.stands;
    }
