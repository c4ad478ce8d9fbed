-- The rows of a table after a question.
use Rattle.std.proofs.Common.{◌≡◌, ◌<◌, ◌≤◌, ◌^◌, ◌+◌, ℕ, Bool, true, false, List, [], ◌∷◌, Option, Some, None, not, if◌then◌else◌, length, refl, sym}
use Rattle.std.proofs.Common.{subst, arith}
use Rattle.std.specs.Prelude.{nat_lt}
use Rattle.std.specs.List.{find, list_any}
use Rattle.nq_base.specs.declared.Access.{Access}
use Rattle.nq_base.specs.declared.Mode.{Mode}
use Rattle.nq_base.specs.declared.Mode.TheVariants.{NonCaching, Reading, Writing}
use Rattle.nq_base.specs.declared.Question.{Question}
use Rattle.nq_base.specs.declared.Row.{Row}
use Rattle.nq_base.specs.declared.Want.{Want}
use Rattle.nq_model.specs.protocol.Ask.{ask, ask_past, ask_freely, ask_for, begin, renew, share_again, with_waiting, put_off, free, put_off_by_own, granted}
use Rattle.nq_model.specs.protocol.Ask.{no_lease, sharing_row, caching_row, shared_again, renewed_row, marked, conflicts, shares, term_of}
use Rattle.nq_model.specs.protocol.Profile.{granted_term, most_rows, longest_term}
use Rattle.nq_model.specs.protocol.Table.{Table, caches, greater_mode, is_row_of, find_row, drop_row, insert_row, put_row, row_before, with_rows, after_draw}
use Rattle.nq_server.proofs.TickedRows.{some-run}
use Rattle.nq_server.specs.Sound.{Runs, RowsRun}

-- ---- lists of rows

pub insert-runs : (time : ℕ) (row : Row) (rows : List Row) → Runs time row → RowsRun time rows → RowsRun time (insert_row row rows)
insert-runs time row [] own h = (own, tt)
insert-runs time row (r ∷ rows) own h = step (row_before row r) (insert-runs time row rows own h.1)
  where
    step : (b : Bool) → RowsRun time (insert_row row rows) → RowsRun time (if b then row ∷ r ∷ rows else r ∷ insert_row row rows)
    step true rest = (own, h)
    step false rest = (h.0, rest)

pub put-runs : (time : ℕ) (row : Row) (rows : List Row) → Runs time row → RowsRun time rows → RowsRun time (put_row row rows)
put-runs time row rows own h =
    insert-runs time row (drop_row row.file row.who.host rows) own (some-run time (λ r. not (is_row_of row.file row.who.host r)) rows h)

pub marked-run : (time file host : ℕ) (access : Access) (rows : List Row) → RowsRun time rows → RowsRun time (marked file host access rows)
marked-run time file host access [] h = tt
marked-run time file host access (row ∷ rows) h = (own (conflicts file host access row), marked-run time file host access rows h.1)
  where
    own : (b : Bool) → Runs time (if b then record row { evicting = true } else row)
    own true = h.0
    own false = h.0

pub found-runs : (time file host : ℕ) (rows : List Row) (row : Row) → RowsRun time rows → find_row file host rows ≡ Some row → Runs time row
found-runs time file host [] row h found = absurd (cc)
found-runs time file host (r ∷ rows) row h found = step (is_row_of file host r) found (found-runs time file host rows row h.1)
  where
    step : (b : Bool) → (if b then Some r else find_row file host rows) ≡ Some row → (find_row file host rows ≡ Some row → Runs time row) → Runs time row
    step true e rest = let same : r ≡ row = cc in subst (Runs time) same h.0
    step false e rest = rest e

-- ---- rows that are entered

terms : (longest wish : ℕ) → longest ≤ longest_term → (5 ≤ granted_term longest wish) × (granted_term longest wish ≤ longest_term)
terms longest wish short = (grind arith, grind arith)

sharing-runs : (table : Table) (q : Question) (term : ℕ) → 5 ≤ term → term ≤ longest_term → Runs q.time (sharing_row table q term)
unfolding sharing_row
sharing-runs table q term long short c = (omega arith, omega arith)

caching-runs : (table : Table) (q : Question) (mode : Mode) (term : ℕ) → 5 ≤ term → term ≤ longest_term → Runs q.time (caching_row table q mode term)
unfolding caching_row
caching-runs table q mode term long short c = (omega arith, omega arith)

again-runs : (table : Table) (time : ℕ) (own : Row) → Runs time own → Runs time (shared_again table own)
unfolding shared_again
again-runs table time own h = h

greater-caches : (mode other : Mode) → caches mode ≡ true → caches (greater_mode mode other) ≡ true
greater-caches NonCaching other h = absurd (cc)
greater-caches Reading NonCaching h = refl
greater-caches Reading Reading h = refl
greater-caches Reading Writing h = refl
greater-caches Writing other h = refl

renewed-runs : (table : Table) (q : Question) (own : Row) (mode : Mode) (term : ℕ) → caches own.mode ≡ true → Runs q.time (renewed_row table q own mode term)
unfolding renewed_row
renewed-runs table q own mode term h c = let yes = greater-caches own.mode mode h in absurd (cc)

granted-run : (table : Table) (q : Question) (row : Row) (term : ℕ) → Runs q.time row → RowsRun q.time table.rows
    → RowsRun q.time (granted table q row term).table.rows
unfolding granted after_draw
granted-run table q row term own h = put-runs q.time row table.rows own h

-- ---- the cases

waiting-run : (table : Table) (q : Question) (want : Option Want) (own : Option Row) → q.longest ≤ longest_term → RowsRun q.time table.rows
    → RowsRun q.time (with_waiting table q want own).rows
unfolding after_draw
waiting-run table q None own short h = h
waiting-run table q (Some want) (Some row) short h = h
waiting-run table q (Some want) None short h = step (nat_lt (length table.rows) most_rows)
  where
    step : (b : Bool) → RowsRun q.time (if b then after_draw table (put_row (sharing_row table q (term_of q want)) table.rows) else table).rows
    step true =
        let t = terms q.longest want.term short in
        put-runs q.time (sharing_row table q (term_of q want)) table.rows (sharing-runs table q (term_of q want) t.0 t.1) h
    step false = h

put-off-run : (table : Table) (q : Question) (clash : Row) (own : Option Row) → q.longest ≤ longest_term → RowsRun q.time table.rows
    → RowsRun q.time (put_off table q clash own).table.rows
unfolding put_off with_rows
put-off-run table q clash own short h =
    waiting-run (with_rows table (marked q.file q.who.host q.access table.rows)) q q.want own short (marked-run q.time q.file q.who.host q.access table.rows h)

begin-run : (table : Table) (q : Question) (want : Want) → q.longest ≤ longest_term → RowsRun q.time table.rows
    → RowsRun q.time (begin table q want).table.rows
unfolding no_lease
begin-run table q want short h = step (nat_lt (length table.rows) most_rows) (list_any (shares q.file q.who.host) table.rows)
  where
    t : (5 ≤ term_of q want) × (term_of q want ≤ longest_term)
    t = terms q.longest want.term short

    step : (room shared : Bool) → RowsRun q.time (if room then (if shared then granted table q (sharing_row table q (term_of q want)) (term_of q want)
        else granted table q (caching_row table q want.mode (term_of q want)) (term_of q want)) else no_lease table).table.rows
    step true true =
        granted-run table q (sharing_row table q (term_of q want)) (term_of q want) (sharing-runs table q (term_of q want) t.0 t.1) h
    step true false =
        granted-run table q (caching_row table q want.mode (term_of q want)) (term_of q want) (caching-runs table q want.mode (term_of q want) t.0 t.1) h
    step false shared = h

for-run : (table : Table) (q : Question) (want : Want) (own : Option Row) → q.longest ≤ longest_term → RowsRun q.time table.rows
    → ((row : Row) → own ≡ Some row → Runs q.time row) → RowsRun q.time (ask_for table q want own).table.rows
unfolding put_off_by_own
for-run table q want None short h runs = begin-run table q want short h
for-run table q want (Some own) short h runs = step own.evicting (caches own.mode) refl
  where
    step : (evicting c : Bool) → caches own.mode ≡ c → RowsRun q.time (if evicting then put_off_by_own table own
        else (if c then renew table q want own else share_again table q own)).table.rows
    step true c e = h
    step false true e =
        granted-run table q (renewed_row table q own want.mode (term_of q want)) (term_of q want) (renewed-runs table q own want.mode (term_of q want) e) h
    step false false e =
        granted-run table q (shared_again table own) _ (again-runs table q.time own (runs own refl)) h

freely-run : (table : Table) (q : Question) (want : Option Want) (own : Option Row) → q.longest ≤ longest_term → RowsRun q.time table.rows
    → ((row : Row) → own ≡ Some row → Runs q.time row) → RowsRun q.time (ask_freely table q want own).table.rows
unfolding free
freely-run table q None own short h runs = h
freely-run table q (Some want) own short h runs = for-run table q want own short h runs

past-run : (table : Table) (q : Question) (clash own : Option Row) → q.longest ≤ longest_term → RowsRun q.time table.rows
    → ((row : Row) → own ≡ Some row → Runs q.time row) → RowsRun q.time (ask_past table q clash own).table.rows
past-run table q (Some clash) own short h runs = put-off-run table q clash own short h
past-run table q None own short h runs = freely-run table q q.want own short h runs

-- the rows run after a question, where they ran before
pub ask-runs : (table : Table) (q : Question) → q.longest ≤ longest_term → RowsRun q.time table.rows → RowsRun q.time (ask table q).table.rows
ask-runs table q short h =
    past-run table q (find (conflicts q.file q.who.host q.access) table.rows) (find_row q.file q.who.host table.rows) short h
    (λ row found. found-runs q.time q.file q.who.host table.rows row h found)

-- ---- tags that are drawn

waiting-draws : (table : Table) (q : Question) (want : Option Want) (own : Option Row) → (with_waiting table q want own).drawn ≤ table.drawn + 1
unfolding after_draw
waiting-draws table q None own = omega arith
waiting-draws table q (Some want) (Some row) = omega arith
waiting-draws table q (Some want) None = step (nat_lt (length table.rows) most_rows)
  where
    step : (b : Bool) → (if b then after_draw table (put_row (sharing_row table q (term_of q want)) table.rows) else table).drawn ≤ table.drawn + 1
    step true = omega arith
    step false = omega arith

granted-draws : (table : Table) (q : Question) (row : Row) (term : ℕ) → (granted table q row term).table.drawn ≤ table.drawn + 1
unfolding granted after_draw
granted-draws table q row term = omega arith

put-off-draws : (table : Table) (q : Question) (clash : Row) (own : Option Row) → (put_off table q clash own).table.drawn ≤ table.drawn + 1
unfolding put_off with_rows
put-off-draws table q clash own = waiting-draws (with_rows table (marked q.file q.who.host q.access table.rows)) q q.want own

for-draws : (table : Table) (q : Question) (want : Want) (own : Option Row) → (ask_for table q want own).table.drawn ≤ table.drawn + 1
unfolding put_off_by_own no_lease
for-draws table q want None = step (nat_lt (length table.rows) most_rows) (list_any (shares q.file q.who.host) table.rows)
  where
    step : (room shared : Bool) → (if room then (if shared then granted table q (sharing_row table q (term_of q want)) (term_of q want)
        else granted table q (caching_row table q want.mode (term_of q want)) (term_of q want)) else no_lease table).table.drawn ≤ table.drawn + 1
    step true true = granted-draws table q (sharing_row table q (term_of q want)) (term_of q want)
    step true false = granted-draws table q (caching_row table q want.mode (term_of q want)) (term_of q want)
    step false shared = omega arith
for-draws table q want (Some own) = step own.evicting (caches own.mode)
  where
    step : (evicting c : Bool) → (if evicting then put_off_by_own table own else (if c then renew table q want own else share_again table q
        own)).table.drawn ≤ table.drawn + 1
    step true c = omega arith
    step false true = granted-draws table q (renewed_row table q own want.mode (term_of q want)) (term_of q want)
    step false false = granted-draws table q (shared_again table own) _

past-draws : (table : Table) (q : Question) (clash own : Option Row) (want : Option Want) → q.want ≡ want → (ask_past table q clash own).table.drawn
    ≤ table.drawn + 1
unfolding free
past-draws table q (Some clash) own want e = put-off-draws table q clash own
past-draws table q None own want e = subst (λ w. (ask_freely table q w own).table.drawn ≤ table.drawn + 1) (sym e) (freely want)
  where
    freely : (w : Option Want) → (ask_freely table q w own).table.drawn ≤ table.drawn + 1
    freely None = omega arith
    freely (Some w) = for-draws table q w own

-- a question draws one tag at most
pub ask-draws : (table : Table) (q : Question) → (ask table q).table.drawn ≤ table.drawn + 1
ask-draws table q =
    past-draws table q (find (conflicts q.file q.who.host q.access) table.rows) (find_row q.file q.who.host table.rows) q.want refl

-- the same, for a table that came of the question
pub asked-run : (time : ℕ) (table after : Table) (q : Question) → q.time ≡ time → q.longest ≤ longest_term → RowsRun time table.rows
    → after ≡ (ask table q).table → RowsRun time after.rows
asked-run time table after q same short h is =
    subst (λ t. RowsRun time t.rows) (sym is) (subst (λ n. RowsRun n (ask table q).table.rows) same
    (ask-runs table q short (subst (λ n. RowsRun n table.rows) (sym same) h)))

pub asked-draws : (table after : Table) (q : Question) → after ≡ (ask table q).table → after.drawn ≤ table.drawn + 1
asked-draws table after q is = subst (λ t. t.drawn ≤ table.drawn + 1) (sym is) (ask-draws table q)

-- what the ask table wants to know of the asker's own row
pub own-runs : (time : ℕ) (table : Table) (q : Question) (row : Row) → q.time ≡ time → RowsRun time table.rows → find_row q.file q.who.host table.rows
    ≡ Some row → caches row.mode ≡ false → (q.time < row.until) × (row.until < q.time + 2 ^ 32)
own-runs time table q row same h found c =
    subst (λ n. (n < row.until) × (row.until < n + 2 ^ 32)) (sym same) (found-runs time q.file q.who.host table.rows row h found c)
