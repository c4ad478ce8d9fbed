-- Ticks of a server's clock. Below, `told` is what the keeper told of its content before the call and `tells` is what it tells
-- after it; `before` and `count` are its counts of faults.
use Rattle.std.specs.Prelude.{◌≡◌, ◌⊎◌, ◌<◌, ◌≤◌, ℕ, true, false, List, [], ◌∷◌, Option, Some, None, Result, Ok, Err}
use Rattle.std.specs.Option.{ForSome}
use Rattle.nq_base.specs.declared.Entry.{Entry}
use Rattle.nq_base.specs.declared.Row.{Row}
use Rattle.nq_keeper.specs.Booting.{opened_by}
use Rattle.nq_keeper.specs.Recovery.{Recovery}
use Rattle.nq_lease.specs.Ending.{fence_of, fenced, fenced_if}
use Rattle.nq_lease.specs.declared.expire.ending.Fence.{Fence}
use Rattle.nq_io.specs.Faults.{Rose}
use Rattle.nq_keeper.specs.Keeping.{StaysOrEnds}
use Rattle.nq_keeper.specs.declared.KeepFault.{KeepFault}
use Rattle.nq_keeper.specs.declared.KeepFault.TheVariants as keep
use Rattle.nq_model.specs.protocol.Kept.{Kept, can_rise, find_file}
use Rattle.nq_model.specs.protocol.Server.{serving}
use Rattle.nq_model.specs.protocol.Table.{Table, drop_row, with_rows}
use Rattle.nq_server.specs.declared.ticks.Opened.{Opened}
use Rattle.nq_server.specs.State.{Beside}

-- a writing row ended, or none was due, or the revision of its file can not rise and the row stays
abbrev pub EndsRow : (time : ℕ) → Option Row → Option Fence → (table after : Table) → (told tells : Option Kept) → Type 0
EndsRow time None None table after told tells = (after ≡ table) × (tells ≡ told)
EndsRow time (Some row) (Some fence) table after told tells =
    (fence ≡ fence_of row time)
    × (after ≡ with_rows table (drop_row row.file row.who.host table.rows))
    × ForSome told (λ kept. (can_rise (find_file row.file kept.files) ≡ true) × (tells ≡ Some (fenced row.file kept)))
EndsRow time (Some row) None table after told tells =
    (after ≡ table) × ForSome told (λ kept. (can_rise (find_file row.file kept.files) ≡ false) × (tells ≡ Some kept))
EndsRow time None (Some fence) table after told tells = ⊥

-- the writing row that is due first ended, if there is one; or nothing changed
abbrev pub EndsFirst : (time : ℕ) → Option Row → Result (Option Fence) KeepFault → (table after : Table) → (told tells : Option Kept)
    → (before count : ℕ) → Type 0
EndsFirst time due (Ok fence) table after told tells before count =
    EndsRow time due fence table after told tells × (count ≡ before)
EndsFirst time due (Err keep.Memory) table after told tells before count =
    (after ≡ table) × (tells ≡ told) × (count ≡ before)
EndsFirst time due (Err keep.Failed) table after told tells before count =
    (after ≡ table) × StaysOrEnds told tells × Rose before count

-- the kept state after the end of the row that is due first was tried
abbrev pub ended : Option Row → Kept → Kept
ended None kept = kept
ended (Some row) kept = fenced_if row.file kept

-- a stop leaves what was kept before, or with the file of the row that is due fenced
abbrev pub LeavesEnded : Option Row → (told : Option Kept) → (Option Kept → Type 0) → Type 0
LeavesEnded due told leaves =
    ForSome told (λ kept. (found : Option Kept) → leaves found → (found ≡ Some kept) ⊎ (found ≡ Some (ended due kept)))

-- what a journal tells of a writing lease that ended, if one did
abbrev pub fence_entries : Option Fence → List Entry
fence_entries None = []
fence_entries (Some fence) = Entry.F fence.who fence.file fence.until fence.heard fence.now ∷ []

-- a recovery ended, and is told of; or it has to wait
abbrev pub OpensAt : Recovery → (time : ℕ) → Result (Option Opened) KeepFault → (told tells : Option Kept) → (before count : ℕ) → Type 0
OpensAt r time (Ok (Some opened)) told tells before count =
    (r.until ≤ time)
    × ForSome told (λ kept. (tells ≡ Some (opened_by kept r.longest)) × (opened.entry ≡ Entry.O kept.boot r.until r.heard time))
    × (count ≡ before)
OpensAt r time (Ok None) told tells before count = (time < r.until) × (tells ≡ told) × (count ≡ before)
OpensAt r time (Err keep.Memory) told tells before count = (tells ≡ told) × (count ≡ before)
OpensAt r time (Err keep.Failed) told tells before count = StaysOrEnds told tells × Rose before count

-- the recovery once its end was tried: it is there again, except where it ended
abbrev pub left_of : Option Recovery → Result (Option Opened) KeepFault → Option Recovery
left_of recovery (Ok (Some opened)) = None
left_of recovery other = recovery

-- a server after a tick, with this table
abbrev pub at_tick : Beside → Table → (time : ℕ) → Beside
at_tick s table time = record {
  phase = s.phase;
  table = table;
  longest = s.longest;
  notice = s.notice;
  time = time;
}

-- a server whose recovery ended in a tick serves
abbrev pub at_tick_opened : Beside → (time : ℕ) → Beside
at_tick_opened s time = record {
  phase = serving;
  table = s.table;
  longest = s.longest;
  notice = s.notice;
  time = time;
}
