-- Leases never conflict, whatever comes to the server (Gray and Cheriton 1989; Macklem 1994).
use Rattle.std.specs.Prelude.{◌≡◌, ◌≢◌, ◌≤◌, ℕ, true, false, List, [], Some, filter, length, Option}
use Rattle.nq_base.specs.declared.Row.{Row}
use Rattle.nq_model.specs.protocol.Kept.{Kept, host_row}
use Rattle.nq_model.specs.protocol.Server.{recovering, Server}
use Rattle.nq_model.specs.protocol.Table.{Table, caches, is_writing, is_row_of, find_row}
use Rattle.nq_model.specs.protocol.ServerAlone.{Coming, step_for, server_after, first_boot}

-- a file and a host have one row at most
abbrev pub HasOneRowEach : List Row → Type 0
HasOneRowEach rows = (file host : ℕ) → length (filter (is_row_of file host) rows) ≤ 1

-- each row is of the incarnation that the server keeps of its host
abbrev pub AreOfKeptIncarnations : Kept → List Row → Type 0
AreOfKeptIncarnations kept rows =
    (file host : ℕ) (row : Row) → find_row file host rows ≡ Some row → row.who.inc ≡ (host_row kept host).inc

-- beside a row that lets its holder write stands no other row of the file that lets its holder read or write
abbrev pub WritesAlone : List Row → Type 0
WritesAlone rows =
    (file host other : ℕ) (row r : Row)
    → find_row file host rows ≡ Some row
    → find_row file other rows ≡ Some r
    → other ≢ host
    → is_writing row.mode ≡ true
    → caches r.mode ≡ false

-- a row that its holder is told to give up keeps its tag, until it goes
abbrev pub KeepsTags : (before after : List Row) → Type 0
KeepsTags before after =
    (file host : ℕ) (row r : Row)
    → find_row file host before ≡ Some row
    → row.evicting ≡ true
    → find_row file host after ≡ Some r
    → (r.tag ≡ row.tag) × (r.evicting ≡ true)

-- the rows of a server stand apart. While it recovers there are none. Whatever comes next, rows that are to go keep their
-- tags
pub record StandApart (s : Server) : Type 0 where
  pub one_each : HasOneRowEach s.table.rows
  pub current : AreOfKeptIncarnations s.kept s.table.rows
  pub alone : WritesAlone s.table.rows
  pub none_recovering : (until heard : ℕ) (last : Option Table) → s.phase ≡ recovering until heard last → s.table.rows ≡ []
  pub keeps_tags : (c : Coming) → KeepsTags s.table.rows (step_for s c).server.table.rows

-- from whatever kept state a server boots, at whatever time and with whatever longest term, and whatever comes to it, its
-- rows stand apart
abbrev pub RowsStandApart : Type 0
RowsStandApart = (kept : Kept) (longest now : ℕ) (came : List Coming) → StandApart (server_after (first_boot kept longest now) came)
