-- The ask table: what a host that is about to read or change a file is told. The first case that fits decides.
use Rattle.std.specs.Prelude.{ℕ, ◌+◌, ◌-◌, ◌==◌, Bool, true, false, not, ◌&&◌, ◌||◌, List, Option, Some, None, find, map, length, max, nat_lt, if◌then◌else◌}
use Rattle.std.specs.List.{list_any}
use Rattle.nq_base.specs.declared.Access.{Access}
use Rattle.nq_base.specs.declared.Asked.{Asked}
use Rattle.nq_base.specs.declared.Grant.{Grant}
use Rattle.nq_base.specs.declared.Mode.{Mode}
use Rattle.nq_base.specs.declared.Mode.TheVariants.{NonCaching}
use Rattle.nq_base.specs.declared.Question.{Question}
use Rattle.nq_base.specs.declared.Row.{Row}
use Rattle.nq_base.specs.declared.Want.{Want}
use Rattle.nq_model.specs.protocol.Profile.{skew, most_rows, granted_term}
use Rattle.nq_model.specs.protocol.Table.{Table, next_tag, caches, is_writing, greater_mode, find_row, put_row, with_rows, after_draw}

-- what the asker is told, and the table after it
pub record Reply : Type 0 where
  pub table : Table
  pub asked : Asked

-- whether a lease of this kind conflicts with what another is about to do: one who reads is in the way of nobody but
-- of a writer, and one who changes the file of all who cache it
abbrev pub mode_conflicts : Access → Mode → Bool
mode_conflicts Access.Read mode = is_writing mode
mode_conflicts Access.Write mode = caches mode

-- whether a row conflicts with what another host is about to do with the file
abbrev pub conflicts : (file host : ℕ) → Access → Row → Bool
conflicts file host access row = row.file == file && not (row.who.host == host) && mode_conflicts access row.mode

-- whether a row is of another host, and non-caching or evicting
abbrev pub shares : (file host : ℕ) → Row → Bool
shares file host row = row.file == file && not (row.who.host == host) && (not (caches row.mode) || row.evicting)

-- the rows with the conflicting ones marked as evicting
abbrev pub marked : (file host : ℕ) → Access → List Row → List Row
marked file host access rows =
    map (λ r. if conflicts file host access r then record r { evicting = true } else r) rows

-- the term that is granted on a want
abbrev pub term_of : Question → Want → ℕ
term_of q want = granted_term q.longest want.term

-- a grant of a row as it then stands
unfoldable pub grant_of : Question → Row → (term : ℕ) → Grant
grant_of q row term =
    record { mode = row.mode; term = term; tag = row.tag; since = row.since; rev = q.rev; blocks = q.blocks }

-- a new non-caching row of the asker: it waits, or shares the file
unfoldable pub sharing_row : Table → Question → (term : ℕ) → Row
sharing_row table q term = record {
  file = q.file;
  who = q.who;
  mode = NonCaching;
  tag = next_tag table;
  since = next_tag table;
  until = q.time + term;
  heard = q.time;
  evicting = false;
}

-- a new row of the asker, of the kind that is wanted
unfoldable pub caching_row : Table → Question → Mode → (term : ℕ) → Row
caching_row table q mode term = record {
  file = q.file;
  who = q.who;
  mode = mode;
  tag = next_tag table;
  since = next_tag table;
  until = q.time + term + skew;
  heard = q.time;
  evicting = false;
}

-- the asker's non-caching row with a fresh tag: it runs on until its end
unfoldable pub shared_again : Table → Row → Row
shared_again table row = record row { tag = next_tag table; since = next_tag table }

-- the asker's caching row, renewed: its chain goes on, and where it becomes writing it was heard now
unfoldable pub renewed_row : Table → Question → Row → Mode → (term : ℕ) → Row
renewed_row table q row mode term = record row {
  mode = greater_mode row.mode mode;
  tag = next_tag table;
  until = max row.until (q.time + term + skew);
  heard = if is_writing mode && not (is_writing row.mode) then q.time else row.heard;
}

-- the table with a waiting row, where a lease is wanted, the asker has no row, and there is room for one
abbrev pub with_waiting : Table → Question → Option Want → Option Row → Table
with_waiting table q None own = table
with_waiting table q (Some want) (Some row) = table
with_waiting table q (Some want) None =
    if nat_lt (length table.rows) most_rows
    then after_draw table (put_row (sharing_row table q (term_of q want)) table.rows)
    else table

-- case 1: the conflicting rows are to be given up, and the asker is put off
unfoldable pub put_off : Table → Question → Row → Option Row → Reply
put_off table q clash own = record {
  table = with_waiting (with_rows table (marked q.file q.who.host q.access table.rows)) q q.want own;
  asked = Asked.TryLater (record { row = clash; own = false });
}

-- case 2: no lease is wanted
unfoldable pub free : Table → Reply
free table = record { table = table; asked = Asked.Free }

-- case 3: the asker's own row is to be given up first
unfoldable pub put_off_by_own : Table → Row → Reply
put_off_by_own table own = record { table = table; asked = Asked.TryLater (record { row = own; own = true }) }

-- a grant of this row, which is put into the table with its fresh tag
unfoldable pub granted : Table → Question → Row → (term : ℕ) → Reply
granted table q row term = record {
  table = after_draw table (put_row row table.rows);
  asked = Asked.Granted (grant_of q row term);
}

-- cases 5 and 6 where the table is full
unfoldable pub no_lease : Table → Reply
no_lease table = record { table = table; asked = Asked.NoLease }

-- case 4: the asker's own row is non-caching; its lease runs on until the row's end
abbrev pub share_again : Table → Question → Row → Reply
share_again table q own = granted table q (shared_again table own) (own.until - q.time)

-- cases 5 and 6: the asker has no row, and gets a non-caching one where the file is shared
abbrev pub begin : Table → Question → Want → Reply
begin table q want =
    if nat_lt (length table.rows) most_rows
    then (if list_any (shares q.file q.who.host) table.rows
    then granted table q (sharing_row table q (term_of q want)) (term_of q want)
    else granted table q (caching_row table q want.mode (term_of q want)) (term_of q want))
    else no_lease table

-- case 7: the asker's own caching row is renewed
abbrev pub renew : Table → Question → Want → Row → Reply
renew table q want own = granted table q (renewed_row table q own want.mode (term_of q want)) (term_of q want)

-- cases 3 to 7, by the asker's own row
abbrev pub ask_for : Table → Question → Want → Option Row → Reply
ask_for table q want None = begin table q want
ask_for table q want (Some own) =
    if own.evicting
    then put_off_by_own table own
    else (if caches own.mode then renew table q want own else share_again table q own)

-- cases 2 to 7, where no row conflicts
abbrev pub ask_freely : Table → Question → Option Want → Option Row → Reply
ask_freely table q None own = free table
ask_freely table q (Some want) own = ask_for table q want own

-- all cases, by the first conflicting row
abbrev pub ask_past : Table → Question → Option Row → Option Row → Reply
ask_past table q (Some clash) own = put_off table q clash own
ask_past table q None own = ask_freely table q q.want own

-- what the asker is told, and the table after it
abbrev pub ask : Table → Question → Reply
ask table q =
    ask_past
    table
    q
    (find (conflicts q.file q.who.host q.access) table.rows)
    (find_row q.file q.who.host table.rows)
