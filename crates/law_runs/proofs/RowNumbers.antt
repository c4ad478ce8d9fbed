-- The tags of all rows are numbered from 1 on.
use Rattle.std.proofs.Common.{◌≡◌, ◌<◌, ◌⊎◌, ℕ, ◌+◌, ◌==◌, ◌&&◌, not, Bool, true, false, List, [], ◌∷◌, Option, Some, None, if◌then◌else◌, refl, sym}
use Rattle.std.proofs.Common.{subst, arith, inl, inr}
use Rattle.std.specs.List.{filter}
use Rattle.nq_base.specs.declared.Access.{Access}
use Rattle.nq_base.specs.declared.Event.{Event}
use Rattle.nq_base.specs.declared.Question.{Question}
use Rattle.nq_base.specs.declared.Row.{Row}
use Rattle.nq_base.specs.declared.Tag.{Tag}
use Rattle.nq_base.specs.declared.Want.{Want}
use Rattle.nq_base.specs.declared.Who.{Who}
use Rattle.walk_steps.proofs.Members.{in-filtered, find-in}
use Rattle.walk_steps.proofs.AskCases.{IsGranted, shares_again, begins_sharing, begins_caching, renews_row}
use Rattle.walk_steps.proofs.Packets.{In}
use Rattle.walk_steps.proofs.Rows.{choice}
use Rattle.walk_steps.proofs.ServerMoves.{server-moves, tick-moves}
use Rattle.law_runs.proofs.TagOrder.{steps-server}
use Rattle.nq_model.specs.protocol.Ask.{conflicts, marked, sharing_row, caching_row, shared_again, renewed_row, term_of}
use Rattle.nq_model.specs.protocol.Kept.{Kept}
use Rattle.nq_model.specs.protocol.Message.{Datagram}
use Rattle.nq_model.specs.protocol.Server.{Phase, serving, recovering, Server, standing, standing_in, last_table, last_in}
use Rattle.nq_model.specs.protocol.ServerStep.{vacated_rows, to_read, receive, is_over, tick, boot, crash}
use Rattle.nq_model.specs.protocol.Table.{Table, same_tag, is_row_of, find_row, row_before, insert_row, drop_row, put_row, with_rows, after_draw, empty_table}
use Rattle.nq_model.specs.protocol.World.{Head, start, run, first_kept}

-- the tags of a row are numbered from 1 on
abbrev IsNumbered : Row → Type 0
IsNumbered r = (0 < r.tag.number) × (0 < r.since.number)

abbrev pub AllNumbered : List Row → Type 0
AllNumbered rows = (r : Row) → In rows r → IsNumbered r

-- those of a server's own rows and of the rows that stand
pub record Numbered (phase : Phase) (table : Table) : Type 0 where
  pub own : AllNumbered table.rows
  pub stands : AllNumbered (standing_in phase table).rows

-- ---- changes of rows

none-numbered : AllNumbered []
none-numbered r i = absurd i

in-insert-step : (row x r : Row) (rows more : List Row) (b : Bool) → (In more r → (row ≡ r) ⊎ In rows r) → In (if b then row ∷ x ∷ rows else x ∷ more) r
    → (row ≡ r) ⊎ ((x ≡ r) ⊎ In rows r)
in-insert-step row x r rows more true rest (inl e) = inl e
in-insert-step row x r rows more true rest (inr i) = inr i
in-insert-step row x r rows more false rest (inl e) = inr (inl e)
in-insert-step row x r rows more false rest (inr i) = step (rest i)
  where
    step : (row ≡ r) ⊎ In rows r → (row ≡ r) ⊎ ((x ≡ r) ⊎ In rows r)
    step (inl e) = inl e
    step (inr j) = inr (inr j)

in-insert : (row : Row) (rows : List Row) (r : Row) → In (insert_row row rows) r → (row ≡ r) ⊎ In rows r
in-insert row [] r i = i
in-insert row (x ∷ rows) r i = in-insert-step row x r rows (insert_row row rows) (row_before row x) (in-insert row rows r) i

put-numbered : (row : Row) (rows : List Row) → IsNumbered row → AllNumbered rows → AllNumbered (put_row row rows)
put-numbered row rows new h r i = case (in-insert row (drop_row row.file row.who.host rows) r i)
  where
    case : (row ≡ r) ⊎ In (drop_row row.file row.who.host rows) r → IsNumbered r
    case (inl e) = subst (λ z. IsNumbered z) e new
    case (inr j) = h r (in-filtered (λ z. not (is_row_of row.file row.who.host z)) rows r j)

mark-numbered : (r : Row) (b : Bool) → IsNumbered r → IsNumbered (if b then record r { evicting = true } else r)
mark-numbered r true h = h
mark-numbered r false h = h

marked-numbered : (file host : ℕ) (access : Access) (rows : List Row) → AllNumbered rows → AllNumbered (marked file host access rows)
marked-numbered file host access [] h r i = absurd i
marked-numbered file host access (x ∷ rows) h r (inl e) = subst (λ z. IsNumbered z) e (mark-numbered x (conflicts file host access x) (h x (inl refl)))
marked-numbered file host access (x ∷ rows) h r (inr i) = marked-numbered file host access rows (λ z j. h z (inr j)) r i

vacated-numbered : (who : Who) (file : ℕ) (tag : Tag) (rows : List Row) (o : Option Row) → AllNumbered rows → AllNumbered (vacated_rows who file tag rows o)
vacated-numbered who file tag rows None h = h
vacated-numbered who file tag rows (Some row) h =
    choice (λ z. AllNumbered z) (row.who.inc == who.inc && same_tag row.tag tag) (drop_row file who.host rows) rows
    (λ e r i. h r (in-filtered (λ z. not (is_row_of file who.host z)) rows r i)) (λ e. h)

found-numbered : (file host : ℕ) (rows : List Row) (r : Row) → find_row file host rows ≡ Some r → AllNumbered rows → IsNumbered r
found-numbered file host rows r found h = h r (find-in (is_row_of file host) rows r found)

sharing-numbered : (table : Table) (q : Question) (term : ℕ) → IsNumbered (sharing_row table q term)
unfolding sharing_row
sharing-numbered table q term = (omega arith, omega arith)

caching-numbered : (table : Table) (q : Question) (want : Want) (term : ℕ) → IsNumbered (caching_row table q want.mode term)
unfolding caching_row
caching-numbered table q want term = (omega arith, omega arith)

shared-numbered : (table : Table) (own : Row) → IsNumbered (shared_again table own)
unfolding shared_again
shared-numbered table own = (omega arith, omega arith)

renewed-numbered : (table : Table) (q : Question) (own : Row) (want : Want) (term : ℕ) → IsNumbered own → IsNumbered (renewed_row table q own want.mode term)
unfolding renewed_row
renewed-numbered table q own want term h = (omega arith, h.1)

granted-numbered : (table : Table) (q : Question) (want : Want) (row : Row) (term : ℕ) → IsGranted table q want row term → AllNumbered table.rows
    → IsNumbered row
granted-numbered table q want row term (shares_again own found stays shares is lasts) h = subst (λ z. IsNumbered z) (sym is) (shared-numbered table own)
granted-numbered table q want row term (begins_sharing none room shared is lasts) h =
    subst (λ z. IsNumbered z) (sym is) (sharing-numbered table q (term_of q want))
granted-numbered table q want row term (begins_caching none room shared is lasts) h =
    subst (λ z. IsNumbered z) (sym is) (caching-numbered table q want (term_of q want))
granted-numbered table q want row term (renews_row own found stays caching is lasts) h =
    subst (λ z. IsNumbered z) (sym is) (renewed-numbered table q own want (term_of q want) (found-numbered q.file q.who.host table.rows own found h))

-- ---- each step of a server

numbered-after : (phase : Phase) (table after : Table) → AllNumbered after.rows → Numbered phase table → Numbered phase after
numbered-after serving table after rows h = record { own = rows; stands = rows }
numbered-after (recovering until heard last) table after rows h = record { own = rows; stands = h.stands }

numbered-receive : (s : Server) (sender next : ℕ) (d : Datagram) → Numbered s.phase s.table
    → Numbered (receive s sender next d).server.phase (receive s sender next d).server.table
unfolding with_rows after_draw
numbered-receive s sender next d h = server-moves s sender next d (λ kept phase table. Numbered phase table) (record {
  stays = h;
  decided = λ kept phase table who line e f q. q;
  attaching = λ who later. filtered _;
  vacating = λ who file tag current. rows _ (vacated-numbered who file tag s.table.rows (find_row file who.host s.table.rows) h.own);
  marking = λ file host access serves. rows _ (marked-numbered file host access s.table.rows h.own);
  marking_waiting = λ xid r who f want e wants asking own room.
      let q : Question = to_read s who f (Some want) in
      rows _ (put-numbered (sharing_row _ q (term_of q want)) (marked q.file q.who.host q.access s.table.rows) (sharing-numbered _ q (term_of q want))
      (marked-numbered q.file q.who.host q.access s.table.rows h.own));
  granting =
      λ xid r who f want row term e wants asking c g. rows _
      (put-numbered row s.table.rows (granted-numbered s.table (to_read s who f (Some want)) want row term g h.own) h.own);
  creating = λ name blocks serves can. h;
  changing = λ who f file serves current found same c. h;
  storing =
      λ who f file base row serves current found same can. rows _
      (put-numbered (record row { heard = s.now }) s.table.rows (found-numbered f.id who.host s.table.rows row can.row_found h.own) h.own);
  storing_recovering =
      λ f file until heard last p found same. record { own = h.own; stands = subst (λ n. AllNumbered (standing_in n s.table).rows) p h.stands };
  removing = λ who f serves current found c. filtered _;
})
  where
    rows : (after : Table) → AllNumbered after.rows → Numbered s.phase after
    rows after all = numbered-after s.phase s.table after all h

    filtered : (test : Row → Bool) → Numbered s.phase (with_rows s.table (filter test s.table.rows))
    filtered test = rows (with_rows s.table (filter test s.table.rows)) (λ r i. h.own r (in-filtered test s.table.rows r i))

numbered-tick : (s : Server) (now : ℕ) → Numbered s.phase s.table → Numbered (tick s now).server.phase (tick s now).server.table
unfolding with_rows
numbered-tick s now h = tick-moves s now (λ kept phase table. Numbered phase table) (record {
  waits = λ until heard last p goes_on. h;
  opening = λ until heard last p over. record { own = h.own; stands = h.own };
  ends_reading = λ p. numbered-after s.phase s.table _ (λ r i. h.own r (in-filtered (λ z. not (is_over now z)) s.table.rows r i)) h;
  ending_writing =
      λ row p due. numbered-after s.phase s.table _
      (λ r i. h.own r (in-filtered (λ z. not (is_over now z)) s.table.rows r (in-filtered (λ z. not (is_row_of row.file row.who.host z)) _ r i))) h;
})

numbered-boot : (kept : Kept) (longest now : ℕ) (last : Option Table) → AllNumbered (last_table last).rows
    → Numbered (boot kept longest now last).phase (boot kept longest now last).table
unfolding boot empty_table
numbered-boot kept longest now last h = by (kept.opened == 0)
  where
    by : (b : Bool) → Numbered (if b then serving else recovering (now + kept.longest + 8) now last) (empty_table (kept.boot + 1))
    by true = record { own = none-numbered; stands = none-numbered }
    by false = record { own = none-numbered; stands = h }

numbered-crash : (s : Server) (longest : ℕ) → Numbered s.phase s.table → Numbered (crash s longest).server.phase (crash s longest).server.table
unfolding crash
numbered-crash s longest h = numbered-boot s.kept longest s.now (last_in s.phase s.table) h.stands

start-numbered : (head : Head) → Numbered (start head).server.phase (start head).server.table
unfolding start empty_table
start-numbered head = numbered-boot (first_kept head) head.longest 0 None none-numbered

-- in every run
pub run-numbered : (head : Head) (events : List Event) → Numbered (run head events).server.phase (run head events).server.table
run-numbered head [] = start-numbered head
run-numbered head (e ∷ earlier) =
    let s : Server = (run head earlier).server in
    let h = run-numbered head earlier in
    steps-server (run head earlier) e (λ t. Numbered t.phase t.table) (record {
      stays = h;
      hears = λ sender next d. numbered-receive s sender next d h;
      ticks = numbered-tick s (s.now + 1) h;
      crashes = λ longest. numbered-crash s longest h;
    })

-- a row that stands
pub row-numbered : (head : Head) (events : List Event) (file host : ℕ) (row : Row)
    → find_row file host (standing (run head events).server).rows ≡ Some row → (0 < row.tag.number) × (0 < row.since.number)
row-numbered head events file host row found = found-numbered file host (standing (run head events).server).rows row found (run-numbered head events).stands
