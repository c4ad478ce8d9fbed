-- What follows of a row after a datagram: whether it came by the datagram, how it came to cache, and that a VACATED with its tag takes it. And whoever
-- stands in the way of a request that is put off is told.
use Rattle.std.proofs.Common.{◌≡◌, ◌<◌, ◌⊎◌, ℕ, ◌==◌, ◌+◌, ◌%◌, nat_lt, true, false, List, [], ◌∷◌, Some, None, refl, sym, ap, ◌∙◌, arith, inl, inr}
use Rattle.std.proofs.lemmas.Bool.Decides.{nat_tests}
use Rattle.nq_base.specs.declared.Access.{Access}
use Rattle.nq_base.specs.declared.Question.{Question}
use Rattle.nq_base.specs.declared.Request.{Request}
use Rattle.nq_base.specs.declared.Row.{Row}
use Rattle.nq_base.specs.declared.Tag.{Tag}
use Rattle.nq_base.specs.declared.Want.{Want}
use Rattle.nq_base.specs.declared.Who.{Who}
use Rattle.nq_model.specs.protocol.Ask.{conflicts, term_of, sharing_row, caching_row, shared_again, renewed_row}
use Rattle.nq_model.specs.protocol.Decide.{in_the_way}
use Rattle.nq_model.specs.protocol.Message.{Datagram, call, request}
use Rattle.nq_model.specs.protocol.Profile.{most_hosts, xid_end}
use Rattle.nq_model.specs.protocol.Server.{Server, to_host, notices, quiet, with_table}
use Rattle.nq_model.specs.protocol.ServerStep.{to_read, receive, vacates, vacated_rows}
use Rattle.nq_model.specs.protocol.Table.{Table, caches, next_tag, find_row, is_row_of, drop_row, with_rows}
use Rattle.walk_steps.proofs.AskCases.{IsGranted, shares_again, begins_sharing, begins_caching, renews_row, with_marked}
use Rattle.walk_steps.proofs.RowChanges.{find-row-dropped}
use Rattle.walk_steps.proofs.Rows.{number-same}
use Rattle.walk_steps.proofs.ServerOutcomes.{line_of}
use Rattle.walk_steps.proofs.Members.{filter-in, find-in}
use Rattle.walk_steps.proofs.Packets.{In}
use Rattle.walk_steps.proofs.RowsAfter.{GoesOn, IsWanted, RowIs, goes_on, waits, granted}

-- ---- rows that come

-- a row that comes by a request of its holder has a new tag, and is not to go
pub record Comes (s : Server) (sender : ℕ) (d : Datagram) (file host : ℕ) (row : Row) : Type 0 where
  pub wanted : IsWanted s sender d file host
  pub tag : row.tag ≡ next_tag s.table
  pub stays : row.evicting ≡ false

-- a row that was there and goes on
pub record WasThere (s : Server) (file host : ℕ) (row : Row) : Type 0 where
  pub was : Row
  pub there : find_row file host s.table.rows ≡ Some was
  pub same : GoesOn was row

granted-new : (table : Table) (q : Question) (want : Want) (row : Row) (term : ℕ) → IsGranted table q want row term
    → (row.tag ≡ next_tag table) × (row.evicting ≡ false)
unfolding shared_again sharing_row caching_row renewed_row
granted-new table q want row term (shares_again own has quiet alone is t) = (ap (λ (r : Row). r.tag) is, ap (λ (r : Row). r.evicting) is ∙ quiet)
granted-new table q want row term (begins_sharing none room some is t) = (ap (λ (r : Row). r.tag) is, ap (λ (r : Row). r.evicting) is)
granted-new table q want row term (begins_caching none room some is t) = (ap (λ (r : Row). r.tag) is, ap (λ (r : Row). r.evicting) is)
granted-new table q want row term (renews_row own has quiet kind is t) = (ap (λ (r : Row). r.tag) is, ap (λ (r : Row). r.evicting) is ∙ quiet)

marked-tag : (table : Table) (q : Question) → next_tag (with_marked table q) ≡ next_tag table
unfolding with_rows
marked-tag table q = refl

waiting-new : (table : Table) (q : Question) (term : ℕ) → ((sharing_row (with_marked table q) q term).tag ≡ next_tag table) ×
    ((sharing_row (with_marked table q) q term).evicting ≡ false) × (caches (sharing_row (with_marked table q) q term).mode ≡ false)
unfolding sharing_row
waiting-new table q term = (marked-tag table q, refl, refl)

pub there-or-comes : (s : Server) (sender : ℕ) (d : Datagram) (file host : ℕ) (row : Row) → RowIs s sender d file host row
    → WasThere s file host row ⊎ Comes s sender d file host row
there-or-comes s sender d file host row (goes_on was there same) = inl (record { was = was; there = there; same = same })
there-or-comes s sender d file host row (waits w clash c own is) =
    let q : Question = to_read s w.who w.of (Some w.want) in
    let k = waiting-new s.table (to_read s w.who w.of (Some w.want)) (term_of (to_read s w.who w.of (Some w.want)) w.want) in
    inr (record { wanted = w; tag = ap (λ (r : Row). r.tag) is ∙ k.0; stays = ap (λ (r : Row). r.evicting) is ∙ k.1 })
there-or-comes s sender d file host row (granted w term c g) =
    let k = granted-new s.table (to_read s w.who w.of (Some w.want)) w.want row term g in
    inr (record { wanted = w; tag = k.0; stays = k.1 })

-- ---- a VACATED

below-is : (a b : ℕ) → a < b → nat_lt a b ≡ true
below-is a b h = grind (arith, nat_tests)

same-not-below : (a b : ℕ) → a ≡ b → nat_lt a b ≡ false
same-not-below a b e = grind (arith, nat_tests)

-- of the kept incarnation it is taken
pub vacated-is : (s : Server) (sender next xid file : ℕ) (who : Who) (tag : Tag) → who.host ≡ sender → who.host < most_hosts → who.inc ≡ (line_of s who).inc
    → receive s sender next (request xid (Request.Vacated who file tag)) ≡ vacates s who file tag
vacated-is s sender next xid file who tag from possible inc =
    let a : (who.host == sender) ≡ true = number-same who.host sender from in
    let b : nat_lt who.host most_hosts ≡ true = below-is who.host most_hosts possible in
    let e : nat_lt who.inc (line_of s who).inc ≡ false = same-not-below who.inc (line_of s who).inc inc in
    let f : nat_lt (line_of s who).inc who.inc ≡ false = same-not-below (line_of s who).inc who.inc (sym inc) in
    rw (a, b, e, f) refl

-- and takes the row with its tag
pub vacated-takes : (s : Server) (sender next xid file : ℕ) (who : Who) (tag : Tag) (row : Row) → who.host ≡ sender → who.host < most_hosts
    → who.inc ≡ (line_of s who).inc → find_row file who.host s.table.rows ≡ Some row → row.who.inc ≡ who.inc → row.tag ≡ tag
    → find_row file who.host (receive s sender next (request xid (Request.Vacated who file tag))).server.table.rows ≡ None
unfolding vacates quiet with_table with_rows
vacated-takes s sender next xid file who tag row from possible inc there holder latest =
    let is : (receive s sender next (request xid (Request.Vacated who file tag))).server.table.rows ≡ vacated_rows who file tag s.table.rows
    (find_row file who.host s.table.rows) = ap (λ t. t.server.table.rows) (vacated-is s sender next xid file who tag from possible inc) in
    let some : vacated_rows who file tag s.table.rows (find_row file who.host s.table.rows) ≡ vacated_rows who file tag s.table.rows (Some row) =
    ap (vacated_rows who file tag s.table.rows) there in
    let boot : (row.tag.boot == tag.boot) ≡ true = number-same row.tag.boot tag.boot (ap (λ (t : Tag). t.boot) latest) in
    let number : (row.tag.number == tag.number) ≡ true = number-same row.tag.number tag.number (ap (λ (t : Tag). t.number) latest) in
    let mine : (row.who.inc == who.inc) ≡ true = number-same row.who.inc who.inc holder in
    let gone : vacated_rows who file tag s.table.rows (Some row) ≡ drop_row file who.host s.table.rows = rw (mine, boot, number) refl in
    ap (find_row file who.host) (is ∙ some ∙ gone) ∙ find-row-dropped file who.host s.table.rows

-- ---- who stands in the way

pub in-the-way : (s : Server) (file host f h : ℕ) (access : Access) (row : Row) → find_row f h s.table.rows ≡ Some row
    → conflicts file host access row ≡ true → In (in_the_way s file host access) row
in-the-way s file host f h access row there clashes =
    filter-in (conflicts file host access) s.table.rows row clashes (find-in (is_row_of f h) s.table.rows row there)

-- whoever holds one of these rows is told
pub holder-told : (first : ℕ) (rows : List Row) (row : Row) → In rows row
    → (xid : ℕ) × In (notices first rows) (to_host row.who.host (call xid (Request.Evicted row.who row.file row.tag)))
holder-told first [] row i = absurd i
holder-told first (r ∷ rows) row (inl e) = (first, inl (ap (λ (x : Row). to_host x.who.host (call first (Request.Evicted x.who x.file x.tag))) e))
holder-told first (r ∷ rows) row (inr i) = let rest = holder-told ((first + 1) % xid_end) rows row i in (rest.0, inr rest.1)
