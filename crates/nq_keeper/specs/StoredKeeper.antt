-- A keeper in memory, as contracts see it.
use Rattle.std.specs.Prelude.{◌≡◌, ◌⊎◌, ◌≤◌, ◌==◌, ◌^◌, ℕ, Bool, true, ◌&&◌, List, [], ◌∷◌, Option, Some, Result, Ok, Err, length, nat_le, nat_lt}
use Rattle.std.specs.Prelude.{is_none, replicate, if◌then◌else◌}
use Rattle.std.specs.List.{list_all}
use Rattle.nq_base.specs.Name.{is_name}
use Rattle.nq_base.specs.declared.Change.{Change}
use Rattle.nq_base.specs.declared.HostRow.{HostRow}
use Rattle.nq_io.specs.Calls.{CallCounts, is_next_listed, after_call, after_fault}
use Rattle.nq_keeper.specs.declared.keeper.KeepFault.{KeepFault}
use Rattle.nq_keeper.specs.declared.keeper.KeepFault.TheVariants.{Failed}
use Rattle.nq_model.specs.protocol.Change.{applied}
use Rattle.nq_model.specs.protocol.Kept.{File, Kept, blocks_of, blocks_in_all, find_name, fresh_row}
use Rattle.nq_model.specs.protocol.Profile.{shortest_term, longest_term, most_hosts, most_files, most_blocks, most_blocks_of_file, most_ids, inc_end, seq_end}
use Rattle.nq_model.specs.protocol.Profile.{rev_end}

-- what is kept, and the calls
pub record StoredKeeper : Type 0 where
  pub kept : Kept
  pub calls : CallCounts

-- before the first boot: no file is kept, and nothing was heard of any host
abbrev pub empty_kept : Kept
empty_kept = record {
  files = [];
  hosts = replicate most_hosts fresh_row;
  boot = 0;
  opened = 0;
  longest = 60;
  next = 1;
}

-- whether the files stand in order of their ids, and each name is that of one file
abbrev pub are_apart : List File → Bool
are_apart [] = true
are_apart (file ∷ files) =
    list_all (λ later. nat_lt file.id later.id) files && is_none (find_name file.name files) && are_apart files

-- whether the bytes are those of a block
abbrev pub is_body : List ℕ → Bool
is_body body = length body == 4096 && list_all (λ byte. nat_lt byte 256) body

-- whether the numbers of a file, its name and its bodies are within their bounds
abbrev pub is_file_within : (next : ℕ) → File → Bool
is_file_within next file =
    nat_le 1 file.id
    && nat_lt file.id next
    && is_name file.name
    && nat_lt file.rev rev_end
    && nat_le 1 (blocks_of file)
    && nat_le (blocks_of file) most_blocks_of_file
    && list_all is_body file.bodies

-- whether the numbers of a host's row are within their bounds
abbrev pub is_host_within : HostRow → Bool
is_host_within row = nat_lt row.inc inc_end && nat_lt row.seq seq_end && nat_lt row.value (2 ^ 64)

-- whether the server's numbers are within their bounds
abbrev pub are_heads_within : Kept → Bool
are_heads_within kept =
    nat_le kept.opened kept.boot
    && nat_lt kept.boot (2 ^ 31)
    && nat_le shortest_term kept.longest
    && nat_le kept.longest longest_term
    && nat_le 1 kept.next
    && nat_le kept.next most_ids

-- whether a kept state is within its bounds
unfoldable pub is_within : Kept → Bool
is_within kept =
    list_all (is_file_within kept.next) kept.files
    && are_apart kept.files
    && nat_le (length kept.files) most_files
    && nat_le (blocks_in_all kept.files) most_blocks
    && list_all is_host_within kept.hosts
    && length kept.hosts == most_hosts
    && are_heads_within kept

-- what a keeper in memory tells: what it keeps. It keeps no state out of its bounds, and would tell the empty one for it
unfoldable pub told_of : Kept → Kept
told_of kept = if is_within kept then kept else empty_kept

-- the calls after one more, which fails where it is listed
abbrev pub asked : CallCounts → CallCounts
asked calls = if is_next_listed calls then after_fault calls else after_call calls

-- what a call answers that fails only where it is listed
abbrev pub answer_of : {X : Type 0} → CallCounts → X → Result X KeepFault
answer_of calls answer = if is_next_listed calls then Err Failed else Ok answer

-- the keeper after a call that changes nothing
abbrev pub after_reading : StoredKeeper → StoredKeeper
after_reading keeper = record keeper { calls = asked keeper.calls }

-- the keeper after a commit of this change with this answer
abbrev pub after_commit : StoredKeeper → Change → Result Unit KeepFault → StoredKeeper
after_commit keeper change (Ok done) = record { kept = applied keeper.kept change; calls = asked keeper.calls }
after_commit keeper change (Err fault) = after_reading keeper

-- the calls that are to fail stay, the count of faults never falls, and where no call is to fail it stands still
pub record GoesOn (first second : StoredKeeper) : Type 0 where
  pub stays : second.calls.failing ≡ first.calls.failing
  pub rises : first.calls.faults ≤ second.calls.faults
  pub never : first.calls.failing ≡ [] → second.calls.faults ≡ first.calls.faults

-- what a stop leaves: what was kept at the first moment, or at the last
abbrev pub LeavesEither : StoredKeeper → StoredKeeper → Option Kept → Type 0
LeavesEither first last found = (found ≡ Some (told_of first.kept)) ⊎ (found ≡ Some (told_of last.kept))
