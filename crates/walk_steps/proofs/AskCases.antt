-- The ask table, walked once: what is shown of each of its outcomes, with what led to it, holds of what it tells.
use Rattle.std.proofs.Common.{◌≡◌, ℕ, ◌-◌, Bool, true, false, nat_lt, Option, Some, None, if◌then◌else◌, refl, length}
use Rattle.std.specs.List.{find, list_any}
use Rattle.nq_base.specs.declared.Asked.{Asked}
use Rattle.nq_base.specs.declared.Question.{Question}
use Rattle.nq_base.specs.declared.Row.{Row}
use Rattle.nq_base.specs.declared.Want.{Want}
use Rattle.nq_model.specs.protocol.Ask.{Reply, conflicts, shares, marked, term_of, sharing_row, caching_row, shared_again, renewed_row, with_waiting, put_off}
use Rattle.nq_model.specs.protocol.Ask.{free, put_off_by_own, granted, no_lease, share_again, begin, renew, ask_for, ask_freely, ask_past, ask}
use Rattle.nq_model.specs.protocol.Profile.{most_rows}
use Rattle.nq_model.specs.protocol.Table.{Table, caches, find_row, put_row, with_rows, after_draw}
use Rattle.walk_steps.proofs.Rows.{choice}

-- the first row that conflicts with what is asked
abbrev pub clash_in : Table → Question → Option Row
clash_in table q = find (conflicts q.file q.who.host q.access) table.rows

-- the asker's own row
abbrev pub own_in : Table → Question → Option Row
own_in table q = find_row q.file q.who.host table.rows

-- whether there is room for one more row
abbrev pub has_room : Table → Bool
has_room table = nat_lt (length table.rows) most_rows

-- whether the file is shared with another host
abbrev pub is_shared : Table → Question → Bool
is_shared table q = list_any (shares q.file q.who.host) table.rows

-- the table with the conflicting rows marked as evicting
abbrev pub with_marked : Table → Question → Table
with_marked table q = with_rows table (marked q.file q.who.host q.access table.rows)

-- the same, and a new row of the asker, who waits
abbrev pub with_waiter : Table → Question → Want → Table
with_waiter table q want =
    after_draw (with_marked table q) (put_row (sharing_row (with_marked table q) q (term_of q want)) (with_marked table q).rows)

-- the asker is put off by this row of another
abbrev pub told_later : Table → (clash : Row) → Reply
told_later table clash = record { table = table; asked = Asked.TryLater (record { row = clash; own = false }) }

-- why a row is granted for a term: the asker's own non-caching row goes on, or he has none and shares the file, or he
-- has none and gets a caching one, or his own caching row is renewed
pub data IsGranted (table : Table) (q : Question) (want : Want) (row : Row) (term : ℕ) : Type 0 where
  shares_again : (own : Row) → own_in table q ≡ Some own → own.evicting ≡ false → caches own.mode ≡ false → row ≡ shared_again table own
      → term ≡ own.until - q.time → IsGranted table q want row term
  begins_sharing : own_in table q ≡ None → has_room table ≡ true → is_shared table q ≡ true → row ≡ sharing_row table q (term_of q want)
      → term ≡ term_of q want → IsGranted table q want row term
  begins_caching : own_in table q ≡ None → has_room table ≡ true → is_shared table q ≡ false → row ≡ caching_row table q want.mode (term_of q want)
      → term ≡ term_of q want → IsGranted table q want row term
  renews_row : (own : Row) → own_in table q ≡ Some own → own.evicting ≡ false → caches own.mode ≡ true
      → row ≡ renewed_row table q own want.mode (term_of q want) → term ≡ term_of q want → IsGranted table q want row term

-- the outcomes
pub record AskCases (table : Table) (q : Question) (R : Reply → Type 0) : Type 0 where
  -- another's row conflicts, and no row is put for the asker
  pub later : (clash : Row) → clash_in table q ≡ Some clash → R (told_later (with_marked table q) clash)
  -- another's row conflicts, and the asker gets a row that waits
  pub later_waiting : (clash : Row) (want : Want) → clash_in table q ≡ Some clash → q.want ≡ Some want → own_in table q ≡ None
      → has_room (with_marked table q) ≡ true → R (told_later (with_waiter table q want) clash)
  -- no lease is wanted
  pub freely : clash_in table q ≡ None → q.want ≡ None → R (free table)
  -- the asker's own row is to be given up first
  pub later_by_own : (want : Want) (own : Row) → clash_in table q ≡ None → q.want ≡ Some want → own_in table q ≡ Some own → own.evicting ≡ true
      → R (put_off_by_own table own)
  -- a row is granted
  pub granting : (want : Want) (row : Row) (term : ℕ) → clash_in table q ≡ None → q.want ≡ Some want → IsGranted table q want row term
      → R (granted table q row term)
  -- there is no room for a row
  pub full : (want : Want) → clash_in table q ≡ None → q.want ≡ Some want → own_in table q ≡ None → has_room table ≡ false → R (no_lease table)

past-clash : (table : Table) (q : Question) (R : Reply → Type 0) → AskCases table q R → (clash : Row) → clash_in table q ≡ Some clash
    → (want : Option Want) → q.want ≡ want → (own : Option Row) → own_in table q ≡ own
    → R (told_later (with_waiting (with_marked table q) q want own) clash)
past-clash table q R cases clash e None f own g = cases.later clash e
past-clash table q R cases clash e (Some want) f (Some own) g = cases.later clash e
past-clash table q R cases clash e (Some want) f None g =
    choice
    (λ t. R (told_later t clash))
    (has_room (with_marked table q))
    (with_waiter table q want)
    (with_marked table q)
    (λ room. cases.later_waiting clash want e f g room)
    (λ room. cases.later clash e)

begins : (table : Table) (q : Question) (R : Reply → Type 0) → AskCases table q R → clash_in table q ≡ None → (want : Want) → q.want ≡ Some want
    → own_in table q ≡ None → R (begin table q want)
begins table q R cases e want f g =
    choice
    R
    (has_room table)
    (if is_shared table q
    then granted table q (sharing_row table q (term_of q want)) (term_of q want)
    else granted table q (caching_row table q want.mode (term_of q want)) (term_of q want))
    (no_lease table)
    (λ room.
    choice
    R
    (is_shared table q)
    (granted table q (sharing_row table q (term_of q want)) (term_of q want))
    (granted table q (caching_row table q want.mode (term_of q want)) (term_of q want))
    (λ shared. cases.granting want (sharing_row table q (term_of q want)) (term_of q want) e f (begins_sharing g room shared refl refl))
    (λ alone. cases.granting want (caching_row table q want.mode (term_of q want)) (term_of q want) e f (begins_caching g room alone refl refl)))
    (λ room. cases.full want e f g room)

goes-on : (table : Table) (q : Question) (R : Reply → Type 0) → AskCases table q R → clash_in table q ≡ None → (want : Want) → q.want ≡ Some want
    → (own : Row) → own_in table q ≡ Some own → R (ask_for table q want (Some own))
goes-on table q R cases e want f own g =
    choice
    R
    own.evicting
    (put_off_by_own table own)
    (if caches own.mode then renew table q want own else share_again table q own)
    (λ evicting. cases.later_by_own want own e f g evicting)
    (λ stays.
    choice
    R
    (caches own.mode)
    (renew table q want own)
    (share_again table q own)
    (λ caching. cases.granting want (renewed_row table q own want.mode (term_of q want)) (term_of q want) e f (renews_row own g stays caching refl refl))
    (λ sharing. cases.granting want (shared_again table own) (own.until - q.time) e f (shares_again own g stays sharing refl refl)))

past-none : (table : Table) (q : Question) (R : Reply → Type 0) → AskCases table q R → clash_in table q ≡ None → (want : Option Want) → q.want ≡ want
    → (own : Option Row) → own_in table q ≡ own → R (ask_freely table q want own)
past-none table q R cases e None f own g = cases.freely e f
past-none table q R cases e (Some want) f None g = begins table q R cases e want f g
past-none table q R cases e (Some want) f (Some own) g = goes-on table q R cases e want f own g

asks-past : (table : Table) (q : Question) (R : Reply → Type 0) → AskCases table q R → (clash : Option Row) → clash_in table q ≡ clash
    → R (ask_past table q clash (own_in table q))
unfolding put_off
asks-past table q R cases (Some clash) e = past-clash table q R cases clash e q.want refl (own_in table q) refl
asks-past table q R cases None e = past-none table q R cases e q.want refl (own_in table q) refl

-- what the ask table tells
pub asks : (table : Table) (q : Question) (R : Reply → Type 0) → AskCases table q R → R (ask table q)
asks table q R cases = asks-past table q R cases (clash_in table q) refl
