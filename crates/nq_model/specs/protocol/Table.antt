-- The lease table of one boot: rows in order of files, then hosts (Gray and Cheriton 1989).
use Rattle.std.specs.Prelude.{ℕ, ◌+◌, ◌==◌, Bool, true, false, not, ◌&&◌, ◌||◌, List, [], ◌∷◌, Option, find, filter, max, nat_lt, if◌then◌else◌}
use Rattle.nq_base.specs.declared.Row.{Row}
use Rattle.nq_base.specs.declared.Tag.{Tag}
use Rattle.nq_base.specs.declared.Who.{Who}
use Rattle.nq_base.specs.declared.Mode.{Mode}
use Rattle.nq_base.specs.declared.Mode.TheVariants.{NonCaching, Reading, Writing}
use Rattle.nq_model.specs.protocol.Profile.{write_slack}

-- the boot, how many tags it has drawn, and the rows
pub record Table : Type 0 where
  pub boot : ℕ
  pub drawn : ℕ
  pub rows : List Row

-- the table of a new boot
unfoldable pub empty_table : ℕ → Table
empty_table boot = record { boot = boot; drawn = 0; rows = [] }

-- the tag that is drawn next
abbrev pub next_tag : Table → Tag
next_tag table = record { boot = table.boot; number = table.drawn + 1 }

-- whether two tags are one
abbrev pub same_tag : Tag → Tag → Bool
same_tag a b = a.boot == b.boot && a.number == b.number

-- whether a tag was drawn before another: by boot, then by number
abbrev pub tag_below : Tag → Tag → Bool
tag_below a b = nat_lt a.boot b.boot || (a.boot == b.boot && nat_lt a.number b.number)

-- the later of two tags
abbrev pub later_tag : Tag → Tag → Tag
later_tag a b = if tag_below a b then b else a

-- whether two incarnations are one
abbrev pub same_who : Who → Who → Bool
same_who a b = a.host == b.host && a.inc == b.inc

-- whether a lease of this kind lets its holder cache
abbrev pub caches : Mode → Bool
caches NonCaching = false
caches Reading = true
caches Writing = true

-- whether a kind of lease is the writing one
abbrev pub is_writing : Mode → Bool
is_writing NonCaching = false
is_writing Reading = false
is_writing Writing = true

-- the greater of two kinds
abbrev pub greater_mode : Mode → Mode → Mode
greater_mode NonCaching other = other
greater_mode Reading other = if is_writing other then Writing else Reading
greater_mode Writing other = Writing

-- when a row ends: a writing one not before the write slack has passed since its end and since a write was last heard
abbrev pub row_end : Row → ℕ
row_end row = if is_writing row.mode then max row.until row.heard + write_slack else row.until

-- whether a row is of this file and host
abbrev pub is_row_of : (file host : ℕ) → Row → Bool
is_row_of file host row = row.file == file && row.who.host == host

-- the row of a file and a host
abbrev pub find_row : (file host : ℕ) → List Row → Option Row
find_row file host rows = find (is_row_of file host) rows

-- the rows without that of this file and host
abbrev pub drop_row : (file host : ℕ) → List Row → List Row
drop_row file host rows = filter (λ r. not (is_row_of file host r)) rows

-- the rows without those of a host
abbrev pub drop_host : ℕ → List Row → List Row
drop_host host rows = filter (λ r. not (r.who.host == host)) rows

-- the rows without those of a file
abbrev pub drop_rows_of : ℕ → List Row → List Row
drop_rows_of file rows = filter (λ r. not (r.file == file)) rows

-- whether a row stands before another: by file, then by host
abbrev pub row_before : Row → Row → Bool
row_before a b = nat_lt a.file b.file || (a.file == b.file && nat_lt a.who.host b.who.host)

-- the rows with one more, in its place
abbrev pub insert_row : Row → List Row → List Row
insert_row row [] = row ∷ []
insert_row row (r ∷ rows) = if row_before row r then row ∷ r ∷ rows else r ∷ insert_row row rows

-- the rows with this one for its file and host
abbrev pub put_row : Row → List Row → List Row
put_row row rows = insert_row row (drop_row row.file row.who.host rows)

-- the table with these rows
unfoldable pub with_rows : Table → List Row → Table
with_rows table rows = record table { rows = rows }

-- the table after a tag was drawn, with these rows
unfoldable pub after_draw : Table → List Row → Table
after_draw table rows = record table { drawn = table.drawn + 1; rows = rows }
