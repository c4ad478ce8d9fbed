-- What a step of the server does to the cover of a lease.
use Rattle.std.proofs.Common.{◌≡◌, ◌≤◌, ℕ, ◌+◌, Bool, true, false, List, Some, None, option_map, refl, sym, subst, ap, ◌∙◌, arith}
use Rattle.std.proofs.lemmas.Bool.Decides.{nat_tests}
use Rattle.nq_base.specs.declared.Access.{Access}
use Rattle.nq_base.specs.declared.Mode.{Mode}
use Rattle.nq_base.specs.declared.Mode.TheVariants.{Reading}
use Rattle.nq_base.specs.declared.Question.{Question}
use Rattle.nq_base.specs.declared.Row.{Row}
use Rattle.nq_base.specs.declared.Tag.{Tag}
use Rattle.nq_base.specs.declared.Want.{Want}
use Rattle.nq_base.specs.declared.Who.{Who}
use Rattle.walk_steps.proofs.AskCases.{own_in, with_marked, with_waiter, IsGranted, shares_again, begins_sharing, begins_caching, renews_row}
use Rattle.walk_steps.proofs.ClientMoves.{some-same, none-some}
use Rattle.walk_steps.proofs.Modes.{at-least-more, at-least-caching}
use Rattle.walk_steps.proofs.RowChanges.{of-key, find-put, find-marked, mark, mark-is}
use Rattle.walk_steps.proofs.Rows.{found-row}
use Rattle.nq_model.specs.protocol.Ask.{marked, sharing_row, caching_row, shared_again, renewed_row, term_of}
use Rattle.nq_model.specs.laws.LeaseInterval.{claim_of, is_at_least, HasFitting, IsCovered}
use Rattle.nq_model.specs.protocol.Server.{serving, Server}
use Rattle.nq_model.specs.protocol.Table.{Table, caches, tag_below, is_row_of, find_row, put_row, with_rows, after_draw}

-- a row goes on: the same holder and file, a kind that lets him do no less, a chain that began no later and a tag no
-- earlier, and it ends no earlier
pub record GoesOn (was row : Row) : Type 0 where
  pub holder : row.who ≡ was.who
  pub of_file : row.file ≡ was.file
  pub kind : (mode : Mode) → is_at_least was.mode mode ≡ true → is_at_least row.mode mode ≡ true
  pub began : row.since ≡ was.since
  pub later : (tag : Tag) → tag_below was.tag tag ≡ false → tag_below row.tag tag ≡ false
  pub ends : was.until ≤ row.until

pub same-goes-on : (r : Row) → GoesOn r r
same-goes-on r = record { holder = refl; of_file = refl; kind = λ mode h. h; began = refl; later = λ tag h. h; ends = omega arith }

still-caches : (was row : Row) → GoesOn was row → caches was.mode ≡ true → caches row.mode ≡ true
still-caches was row g c = g.kind Reading c

both-go-on : (a b c : Row) → GoesOn a b → GoesOn b c → GoesOn a c
both-go-on a b c g h = record {
  holder = h.holder ∙ g.holder;
  of_file = h.of_file ∙ g.of_file;
  kind = λ m k. h.kind m (g.kind m k);
  began = h.began ∙ g.began;
  later = λ t k. h.later t (g.later t k);
  ends = let x = g.ends in let y = h.ends in omega arith;
}

-- the row of a file and a host, if it caches, goes on
abbrev pub GoesOnAt : (file host : ℕ) → (before after : List Row) → Type 0
GoesOnAt file host before after =
    (was : Row) → find_row file host before ≡ Some was → caches was.mode ≡ true → (row : Row) × (find_row file host after ≡ Some row) × GoesOn was row

pub fitting-goes-on : (who : Who) (file : ℕ) (mode : Mode) (tag : Tag) (until : ℕ) (before after : Table) → caches mode ≡ true
    → GoesOnAt file who.host before.rows after.rows → HasFitting (claim_of who file mode tag until) before
    → HasFitting (claim_of who file mode tag until) after
fitting-goes-on who file mode tag until before after c goes h =
    let f = h.fits in
    let n = goes h.row h.stands (at-least-caching h.row.mode mode c f.kind) in
    record {
      row = n.0;
      stands = n.1;
      fits = record {
        holder = n.2.holder ∙ f.holder;
        of_file = n.2.of_file ∙ f.of_file;
        kind = n.2.kind mode f.kind;
        began = subst (λ t. tag_below tag t ≡ false) (sym n.2.began) f.began;
        goes_on = n.2.later tag f.goes_on;
        ends = let a = f.ends in let b = n.2.ends in omega arith;
      };
    }

-- a serving server that goes on serving
pub covered-goes-on : (s t : Server) (who : Who) (file : ℕ) (mode : Mode) (tag : Tag) (until : ℕ) → caches mode ≡ true → s.phase ≡ serving
    → t.phase ≡ serving → GoesOnAt file who.host s.table.rows t.table.rows → IsCovered s s.phase (claim_of who file mode tag until)
    → IsCovered t t.phase (claim_of who file mode tag until)
covered-goes-on s t who file mode tag until c p q goes h =
    subst (λ x. IsCovered t x (claim_of who file mode tag until)) (sym q)
    (fitting-goes-on who file mode tag until s.table t.table c goes (subst (λ x. IsCovered s x (claim_of who file mode tag until)) p h))

-- ---- the changes of a table

-- marks leave the rest of a row
pub marked-goes-on : (f h file host : ℕ) (access : Access) (rows : List Row) → GoesOnAt f h rows (marked file host access rows)
marked-goes-on f h file host access rows was found c =
    let m = mark-is file host access was in (
      mark file host access was,
      find-marked f h file host access rows ∙ ap (option_map (mark file host access)) found,
      record {
        holder = m.who;
        of_file = m.file;
        kind = λ mode k. subst (λ x. is_at_least x mode ≡ true) (sym m.mode) k;
        began = m.since;
        later = λ tag k. subst (λ x. tag_below x tag ≡ false) (sym m.tag) k;
        ends = let e = m.until in omega arith;
      },
    )

-- a row that is put: the others go on as they are
put-goes-on : (file host : ℕ) (row : Row) (rows : List Row)
    → ((was : Row) → is_row_of file host row ≡ true → find_row file host rows ≡ Some was → caches was.mode ≡ true → GoesOn was row)
    → GoesOnAt file host rows (put_row row rows)
put-goes-on file host row rows own was found c = step (is_row_of file host row) refl
  where
    step : (b : Bool) → is_row_of file host row ≡ b → (r : Row) × (find_row file host (put_row row rows) ≡ Some r) × GoesOn was r
    step true e = (row, find-put file host row rows ∙ rw e refl, own was e found c)
    step false e = (was, find-put file host row rows ∙ rw e found, same-goes-on was)

-- a tag drawn next is no earlier than a tag that was drawn in this boot, nor than one that is no later than such a tag
fresh-no-earlier : (boot drawn : ℕ) (was tag : Tag) → was.boot ≡ boot → was.number ≤ drawn → tag_below was tag ≡ false
    → tag_below (record { boot = boot; number = drawn + 1 }) tag ≡ false
fresh-no-earlier boot drawn was tag same few h = grind (arith, nat_tests)

-- the asker's own row, renewed, goes on
renewed-goes-on : (table : Table) (q : Question) (own : Row) (mode : Mode) (term : ℕ) → own.tag.boot ≡ table.boot → own.tag.number ≤ table.drawn
    → GoesOn own (renewed_row table q own mode term)
unfolding renewed_row
renewed-goes-on table q own mode term same few = record {
  holder = refl;
  of_file = refl;
  kind = λ m h. at-least-more own.mode mode m h;
  began = refl;
  later = λ tag h. fresh-no-earlier table.boot table.drawn own.tag tag same few h;
  ends = omega arith;
}

-- the tags of the rows that stand were drawn in this boot
abbrev pub AreOfBoot : Table → Type 0
AreOfBoot table =
    (file host : ℕ) (row : Row) → find_row file host table.rows ≡ Some row
    → (row.tag.boot ≡ table.boot) × (row.tag.number ≤ table.drawn) × (row.since.boot ≡ table.boot) × (row.since.number ≤ row.tag.number)

granted-own : (table : Table) (q : Question) (want : Want) (row : Row) (term : ℕ) (was : Row) → AreOfBoot table → IsGranted table q want row term
    → own_in table q ≡ Some was → caches was.mode ≡ true → GoesOn was row
granted-own table q want row term was boots (shares_again own found stays shares is lasts) e c =
    let one : own ≡ was = some-same own was (sym found ∙ e) in
    let not_caching : caches was.mode ≡ false = subst (λ r. caches r.mode ≡ false) one shares in absurd (cc)
granted-own table q want row term was boots (begins_sharing none room shared is lasts) e c = none-some was (sym none ∙ e)
granted-own table q want row term was boots (begins_caching none room shared is lasts) e c = none-some was (sym none ∙ e)
granted-own table q want row term was boots (renews_row own found stays caching is lasts) e c =
    let one : own ≡ was = some-same own was (sym found ∙ e) in
    let b = boots q.file q.who.host own found in
    subst (λ r. GoesOn r row) one (subst (λ r. GoesOn own r) (sym is) (renewed-goes-on table q own want.mode (term_of q want) b.0 b.1))

-- a granted row is of the asker's host and file
pub granted-key : (table : Table) (q : Question) (want : Want) (row : Row) (term : ℕ) → IsGranted table q want row term
    → (row.file ≡ q.file) × (row.who.host ≡ q.who.host)
unfolding sharing_row caching_row shared_again renewed_row
granted-key table q want row term (shares_again own found stays shares is lasts) =
    let k = found-row q.file q.who.host table.rows own found in (ap (λ r. r.file) is ∙ k.0, ap (λ r. r.who.host) is ∙ k.1)
granted-key table q want row term (begins_sharing none room shared is lasts) = (ap (λ r. r.file) is, ap (λ r. r.who.host) is)
granted-key table q want row term (begins_caching none room shared is lasts) = (ap (λ r. r.file) is, ap (λ r. r.who.host) is)
granted-key table q want row term (renews_row own found stays caching is lasts) =
    let k = found-row q.file q.who.host table.rows own found in (ap (λ r. r.file) is ∙ k.0, ap (λ r. r.who.host) is ∙ k.1)

pub granted-goes-on : (table : Table) (q : Question) (want : Want) (row : Row) (term file host : ℕ) → AreOfBoot table → IsGranted table q want row term
    → GoesOnAt file host table.rows (put_row row table.rows)
granted-goes-on table q want row term file host boots granted =
    put-goes-on file host row table.rows (λ was e found c.
    let k = granted-key table q want row term granted in
    let o = of-key file host row e in
    granted-own table q want row term was boots granted
    (subst (λ f. find_row f q.who.host table.rows ≡ Some was) (sym o.0 ∙ k.0)
    (subst (λ h. find_row file h table.rows ≡ Some was) (sym o.1 ∙ k.1) found)) c)

-- the row that waits is put where none was
pub waiting-goes-on : (table : Table) (q : Question) (want : Want) (file host : ℕ) → own_in table q ≡ None
    → GoesOnAt file host table.rows (with_waiter table q want).rows
unfolding with_rows after_draw sharing_row
waiting-goes-on table q want file host none was found c =
    let m = marked-goes-on file host q.file q.who.host q.access table.rows was found c in
    let p = put-goes-on file host row (marked q.file q.who.host q.access table.rows) (λ r e f d. absurd (no-own r e f)) m.0 m.1 (still-caches was m.0 m.2 c) in
    (p.0, p.1, both-go-on was m.0 p.0 m.2 p.2)
  where
    row : Row
    row = sharing_row (with_marked table q) q (term_of q want)

    no-own : (r : Row) → is_row_of file host row ≡ true → find_row file host (marked q.file q.who.host q.access table.rows) ≡ Some r → ⊥
    no-own r e f =
        let o = of-key file host row e in
        let gone : find_row q.file q.who.host (marked q.file q.who.host q.access table.rows) ≡ None = find-marked q.file q.who.host q.file q.who.host
        q.access table.rows ∙ ap (option_map (mark q.file q.who.host q.access)) none in
        none-some r (sym gone ∙ subst (λ h. find_row q.file h (marked q.file q.who.host q.access table.rows) ≡ Some r) (sym o.1)
        (subst (λ g. find_row g host (marked q.file q.who.host q.access table.rows) ≡ Some r) (sym o.0) f))

-- a row that was heard goes on
pub heard-goes-on : (now file host : ℕ) (row : Row) (rows : List Row) → find_row row.file row.who.host rows ≡ Some row
    → GoesOnAt file host rows (put_row (record row { heard = now }) rows)
heard-goes-on now file host row rows stands =
    put-goes-on file host (record row { heard = now }) rows (λ was e found c.
    let o = of-key file host row e in
    let one : row ≡ was = some-same row was
    (sym stands ∙ subst (λ f. find_row f row.who.host rows ≡ Some was) (sym o.0) (subst (λ h. find_row file h rows ≡ Some was) (sym o.1) found)) in
    subst (λ r. GoesOn r (record row { heard = now })) one
    (record { holder = refl; of_file = refl; kind = λ m h. h; began = refl; later = λ t h. h; ends = omega arith }))
