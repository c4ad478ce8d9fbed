-- What is kept before the first boot of a world. Below, `told` is what the keeper told of its content before a call; `before` and
-- `count` are its counts of faults.
use Rattle.std.specs.Prelude.{◌≡◌, ◌≤◌, ℕ, ◌+◌, ◌-◌, ◌++◌, List, Option, Some, None, Result, Ok, Err, length, replicate}
use Rattle.std.specs.List.{AllByRecursion, sum_by}
use Rattle.std.specs.Option.{ForSome}
use Rattle.nq_base.specs.declared.Change.{Change}
use Rattle.nq_io.specs.Faults.{Rose}
use Rattle.nq_keeper.specs.declared.keeper.KeepFault.{KeepFault}
use Rattle.nq_keeper.specs.declared.keeper.KeepFault.TheVariants.{Failed, Memory}
use Rattle.nq_model.specs.protocol.Kept.{Kept, fresh_row}
use Rattle.nq_model.specs.protocol.Profile.{most_hosts, most_files, most_blocks}
use Rattle.nq_model.specs.protocol.World.{first_files, first_row}
use Rattle.nq_base.specs.Name.{AreDistinct}
use Rattle.walk_steps.specs.Within.{IsFirstFile}

-- these files, and the rows of so many hosts whose first incarnation is attached; no boot was
abbrev pub kept_first : (longest : ℕ) → (files : List (List ℕ × ℕ)) → (hosts : ℕ) → Kept
kept_first longest files hosts = record {
  files = first_files 1 files;
  hosts = replicate hosts first_row ++ replicate (most_hosts - hosts) fresh_row;
  boot = 0;
  opened = 0;
  longest = longest;
  next = length files + 1;
}

-- files that there may be from the start
pub record AreFirstFiles (files : List (List ℕ × ℕ)) : Type 0 where
  pub each : AllByRecursion IsFirstFile files
  pub few_files : length files ≤ most_files
  pub few_blocks : sum_by (λ f. f.1) files ≤ most_blocks
  pub distinct : AreDistinct files

-- a keeper that tells its content tells this
abbrev pub Tells : Kept → Option Kept → Type 0
Tells kept told = ForSome told (λ found. found ≡ kept)

-- this is told where something was told
abbrev pub told_as : Kept → (told : Option Kept) → Option Kept
told_as kept None = None
told_as kept (Some found) = Some kept

-- a call that failed raised the count of faults, and no other did
abbrev pub Counts : Result Unit KeepFault → (before count : ℕ) → Type 0
Counts (Ok done) before count = count ≡ before
Counts (Err Memory) before count = count ≡ before
Counts (Err Failed) before count = Rose before count

-- the change of the numbers
abbrev pub heads_change : (longest next : ℕ) → Change
heads_change longest next = record {
  file = None;
  block = None;
  host = None;
  heads = Some (record {
    boot = 0;
    opened = 0;
    longest = longest;
    next =
        next;
  });
  removed = None;
}

-- the change by which a file is kept
abbrev pub file_change : (longest next : ℕ) → List ℕ × ℕ → Change
file_change longest next f = record {
  file = Some (record { id = next; name = f.0; blocks = f.1; rev = 0 });
  block = None;
  host = None;
  heads = Some (record { boot = 0; opened = 0; longest = longest; next = next + 1 });
  removed = None;
}

-- the change by which the row of a host is kept
abbrev pub host_change : (host : ℕ) → Change
host_change host = record { file = None; block = None; host = Some (record { host = host; row = first_row }); heads = None; removed = None }
