-- How a world begins over a keeper.
use Rattle.std.specs.Prelude.{◌≡◌, ℕ, Result, Ok, Err}
use Rattle.nq_io.specs.Faults.{Rose}
use Rattle.nq_model.specs.protocol.World.{Head as Beginning}
use Rattle.nq_script.specs.declared.heads.Head.{Head}
use Rattle.nq_world.specs.Playing.{WorldOver}
use Rattle.nq_world.specs.declared.starting.NewFault.{NewFault}
use Rattle.nq_world.specs.declared.starting.NewFault.TheVariants as fault

-- with what the run of a schedule begins
abbrev pub beginning : Head → Beginning
beginning head = record { hosts = head.hosts; term = head.term; longest = head.longest; files = head.files }

-- where no world begins for a keeper's fault, its count of faults rose, and else it stands still
abbrev pub CountsBegin : {K : Type 0} → Result (WorldOver K) (NewFault K) → (before count : ℕ) → Type 0
CountsBegin (Ok w) before count = count ≡ before
CountsBegin (Err (fault.Failed keeper)) before count = Rose before count
CountsBegin (Err (fault.Memory keeper)) before count = count ≡ before

-- a keeper that never fails: its count of faults is 0, and is 0 after all of its calls
abbrev pub NeverFails : {K : Type 0} → (faults : K → ℕ) → (follows : K → K → Type 0) → K → Type 0
NeverFails faults follows keeper = (later : _) → follows keeper later → faults later ≡ 0
