-- A boot: it recovers, or it serves. Below, `told` is what the keeper told of its content before a call and `tells` is what it
-- tells after it.
use Rattle.std.specs.Prelude.{◌≡◌, ◌⊎◌, ◌≤◌, ◌<◌, ◌==◌, ℕ, ◌+◌, Option, Some, Result, Ok, Err, nat_le, if◌then◌else◌}
use Rattle.std.specs.Option.{ForSome}
use Rattle.nq_base.specs.declared.Heads.{Heads}
use Rattle.nq_keeper.specs.Recovery.{Recovery}
use Rattle.nq_keeper.specs.declared.requests.boot.recovering.Finish.{Finish}
use Rattle.nq_keeper.specs.declared.requests.boot.recovering.Finish.TheVariants.{Opened, Wait, Fault}
use Rattle.nq_keeper.specs.declared.requests.boot.starting.StartFault.{StartFault}
use Rattle.nq_keeper.specs.declared.requests.boot.starting.StartFault.TheVariants.{Failed, Memory, Spent}
use Rattle.nq_keeper.specs.declared.requests.boot.starting.Started.{Started}
use Rattle.nq_io.specs.Faults.{Rose}
use Rattle.nq_keeper.specs.declared.keeper.KeepFault.{KeepFault}
use Rattle.nq_keeper.specs.Keeping.{StaysOrEnds}
use Rattle.nq_model.specs.protocol.Kept.{Kept}
use Rattle.nq_model.specs.protocol.Profile.{skew, write_slack}
use Rattle.nq_model.specs.protocol.ServerStep.{booted}

-- the number of the last boot that a server can have: an image can have no greater one
abbrev pub last_boot : ℕ
last_boot = 2147483647

-- a recovery over this kept state, from this time on: it waits for the longest term of the boot that served last, the skew
-- and the write slack (Macklem 1994)
unfoldable pub recovery_of : Kept → (longest now : ℕ) → Recovery
recovery_of kept longest now = record {
  boot = kept.boot + 1;
  opened = kept.opened;
  longest = longest;
  until = now + kept.longest + (skew + write_slack);
  heard = now;
}

-- the kept state once the boot serves
unfoldable pub opened_by : Kept → (longest : ℕ) → Kept
opened_by kept longest = record kept { opened = kept.boot; longest = longest }

-- the server's numbers after a boot, and once it serves
abbrev pub heads_after_boot : Heads → (longest : ℕ) → Heads
heads_after_boot heads longest =
    if heads.opened == 0
    then record { boot = heads.boot + 1; opened = heads.boot + 1; longest = longest; next = heads.next }
    else record { boot = heads.boot + 1; opened = heads.opened; longest = heads.longest; next = heads.next }

-- how a boot begins over this kept state
abbrev pub started_of : Kept → (longest now : ℕ) → Started
started_of kept longest now =
    if kept.opened == 0 then Started.Serving (kept.boot + 1) else Started.Recovering (recovery_of kept longest now)

-- a boot begins: its number is kept, and where none served before it is kept as one that did. It is spent where no number is
-- left. After a fault nothing is kept, and the keeper may tell nothing from then on
abbrev pub Starts : (longest time : ℕ) → Result Started StartFault → (told tells : Option Kept) → (before now : ℕ) → Type 0
Starts longest time (Ok started) told tells before now =
    ForSome told (λ kept. (kept.boot < last_boot) × (started ≡ started_of kept longest time) × (tells ≡ Some (booted kept longest)))
    × (now ≡ before)
Starts longest time (Err Spent) told tells before now =
    ForSome told (λ kept. kept.boot ≡ last_boot) × (tells ≡ told) × (now ≡ before)
Starts longest time (Err Memory) told tells before now = (tells ≡ told) × (now ≡ before)
Starts longest time (Err Failed) told tells before now = StaysOrEnds told tells × Rose before now

-- the last boot is kept as one that served, or nothing changes
abbrev pub Opens : (longest : ℕ) → Result Unit KeepFault → (told tells : Option Kept) → (before now : ℕ) → Type 0
Opens longest (Ok done) told tells before now = ForSome told (λ kept. tells ≡ Some (opened_by kept longest)) × (now ≡ before)
Opens longest (Err KeepFault.Memory) told tells before now = (tells ≡ told) × (now ≡ before)
Opens longest (Err KeepFault.Failed) told tells before now = StaysOrEnds told tells × Rose before now

-- a recovery ends, or goes on: it waits exactly until its time
abbrev pub Finishes : Recovery → (time : ℕ) → Finish → (told tells : Option Kept) → (before now : ℕ) → Type 0
Finishes r time (Opened serving) told tells before now =
    (r.until ≤ time) × (serving ≡ r.boot) × ForSome told (λ kept. tells ≡ Some (opened_by kept r.longest)) × (now ≡ before)
Finishes r time (Wait same) told tells before now = (time < r.until) × (same ≡ r) × (tells ≡ told) × (now ≡ before)
Finishes r time (Fault same) told tells before now = (r.until ≤ time) × (same ≡ r) × StaysOrEnds told tells × Rose before now
Finishes r time (Finish.Memory same) told tells before now = (r.until ≤ time) × (same ≡ r) × (tells ≡ told) × (now ≡ before)

-- the kept state after the end of a recovery was tried at a time: it is as before where the recovery has to wait
abbrev pub ended_at : Recovery → (time : ℕ) → Kept → Kept
ended_at r time kept = if nat_le r.until time then opened_by kept r.longest else kept

-- a boot that recovers has this longest term
abbrev pub IsOfTerm : (longest : ℕ) → Started → Type 0
IsOfTerm longest (Started.Serving boot) = Unit {0}
IsOfTerm longest (Started.Recovering r) = r.longest ≡ longest

-- a stop leaves what was kept before, or this
abbrev pub LeavesThen : (Kept → Kept) → (told : Option Kept) → (Option Kept → Type 0) → Type 0
LeavesThen after told leaves =
    ForSome told (λ kept. (found : Option Kept) → leaves found → (found ≡ Some kept) ⊎ (found ≡ Some (after kept)))

-- what a keeper's fault means for a boot
abbrev pub start_fault : KeepFault → StartFault
start_fault KeepFault.Failed = Failed
start_fault KeepFault.Memory = Memory
