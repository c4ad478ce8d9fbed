-- Where a file is bound after a step of the server, its row stood before, with a chain that began no later: no fresh chain
-- begins as early as a tag that was drawn.
use Rattle.std.proofs.Common.{◌≡◌, ◌≤◌, ◌⊎◌, ℕ, ◌+◌, ◌==◌, true, false, not, List, Some, refl, sym, subst, ap, ◌∙◌, arith, inl, inr}
use Rattle.std.proofs.lemmas.Bool.Decides.{nat_tests}
use Rattle.nq_base.specs.declared.Access.{Access}
use Rattle.nq_base.specs.declared.Question.{Question}
use Rattle.nq_base.specs.declared.Row.{Row}
use Rattle.nq_base.specs.declared.Tag.{Tag}
use Rattle.nq_base.specs.declared.Want.{Want}
use Rattle.nq_base.specs.declared.Who.{Who}
use Rattle.walk_steps.proofs.ClientMoves.{none-some}
use Rattle.nq_model.specs.protocol.Ask.{term_of, sharing_row, caching_row, shared_again, renewed_row, marked}
use Rattle.nq_model.specs.protocol.Kept.{Kept}
use Rattle.nq_model.specs.protocol.Message.{Datagram}
use Rattle.nq_model.specs.protocol.Server.{Phase, serving, recovering, Server, standing, standing_in, last_table}
use Rattle.nq_model.specs.protocol.ServerStep.{to_read, receive, is_over, end_reading, tick, boot}
use Rattle.nq_model.specs.protocol.Table.{Table, is_writing, tag_below, next_tag, is_row_of, find_row, with_rows, after_draw, put_row}
use Rattle.walk_steps.proofs.TagFacts.{IsDrawn}
use Rattle.walk_steps.proofs.ServerTables.{StandingFits, StandingFitsOf, NoneRecoveringOf, none-opened}
use Rattle.walk_steps.proofs.AskCases.{with_marked, with_waiter, IsGranted, shares_again, begins_sharing, begins_caching, renews_row}
use Rattle.walk_steps.proofs.RowChanges.{HasUniqueKeys, of-key, found-put, found-kept, found-marked, mark-is, found-vacated, unique-filtered}
use Rattle.walk_steps.proofs.Rows.{found-row}
use Rattle.walk_steps.proofs.ServerMoves.{ServerMoves, server-moves, tick-moves}
use Rattle.walk_steps.proofs.TableFits.{TableFits}

-- the own row stands, with a chain that began no later than the tag
pub record Stood (who : Who) (file : ℕ) (tag : Tag) (rows : List Row) : Type 0 where
  pub row : Row
  pub stands : find_row file who.host rows ≡ Some row
  pub holder : row.who ≡ who
  pub began : tag_below tag row.since ≡ false

-- and lets its holder write
pub record StandsWriting (who : Who) (file : ℕ) (tag : Tag) (rows : List Row) : Type 0 where
  pub row : Row
  pub stands : find_row file who.host rows ≡ Some row
  pub holder : row.who ≡ who
  pub began : tag_below tag row.since ≡ false
  pub writes : is_writing row.mode ≡ true

pub only-stood : (who : Who) (file : ℕ) (tag : Tag) (rows : List Row) → StandsWriting who file tag rows → Stood who file tag rows
only-stood who file tag rows w = record { row = w.row; stands = w.stands; holder = w.holder; began = w.began }

drawn-below : (boot drawn : ℕ) (tag : Tag) → IsDrawn boot drawn tag → tag_below tag (record { boot = boot; number = drawn + 1 }) ≡ true
drawn-below boot drawn tag (inl before) = grind (arith, nat_tests)
drawn-below boot drawn tag (inr same) = number tag.boot boot tag.number drawn same.0 same.1
  where
    number : (a b m n : ℕ) → a ≡ b → m ≤ n → tag_below (record { boot = a; number = m }) (record { boot = b; number = n + 1 }) ≡ true
    number a b m n e h = grind (arith, nat_tests)

module _ (s : Server) (who : Who) (file : ℕ) (tag : Tag) (stands : StandingFitsOf s) (drawn : IsDrawn (standing s).boot (standing s).drawn tag) where
  abbrev Before : Kept → Phase → Table → Type 0
  Before kept phase table = StandsWriting who file tag (standing_in phase table).rows → Stood who file tag (standing_in s.phase s.table).rows

  own-unique : s.phase ≡ serving → HasUniqueKeys s.table.rows
  own-unique p =
      let own : TableFits s.kept.files s.table.boot s.table.drawn s.table.rows = subst (λ p. StandingFits s.kept.files p s.table) p stands in own.unique

  -- in a phase that goes on the rows of the table count while the server serves
  moved : (phase : Phase) (table after : Table) → (phase ≡ serving → StandsWriting who file tag after.rows → Stood who file tag table.rows)
      → StandsWriting who file tag (standing_in phase after).rows → Stood who file tag (standing_in phase table).rows
  moved serving table after was w = was refl w
  moved (recovering until heard last) table after was w = only-stood who file tag (last_table last).rows w

  fewer : (rows : List Row) → (s.phase ≡ serving → (row : Row) → find_row file who.host rows ≡ Some row
      → find_row file who.host s.table.rows ≡ Some row) → StandsWriting who file tag (standing_in s.phase (with_rows s.table rows)).rows
      → Stood who file tag (standing_in s.phase s.table).rows
  unfolding with_rows
  fewer rows stood =
      moved s.phase s.table (with_rows s.table rows) (λ p w. record { row = w.row; stands = stood p w.row w.stands; holder = w.holder; began = w.began })

  was-marked : (f h : ℕ) (access : Access) → StandsWriting who file tag (marked f h access s.table.rows) → StandsWriting who file tag s.table.rows
  was-marked f h access w =
      let m = found-marked f h access file who.host s.table.rows w.row w.stands in
      let k = mark-is f h access m.was in
      record {
        row = m.was;
        stands = m.found;
        holder = sym k.who ∙ ap (λ r. r.who) (sym m.is) ∙ w.holder;
        began = subst (λ t. tag_below tag t ≡ false) (ap (λ r. r.since) m.is ∙ k.since) w.began;
        writes = ap is_writing (sym k.mode) ∙ ap (λ r. is_writing r.mode) (sym m.is) ∙ w.writes;
      }

  marks : (f h : ℕ) (access : Access) → StandsWriting who file tag (standing_in s.phase (with_rows s.table (marked f h access s.table.rows))).rows
      → Stood who file tag (standing_in s.phase s.table).rows
  unfolding with_rows
  marks f h access =
      moved s.phase s.table (with_rows s.table (marked f h access s.table.rows)) (λ p w. only-stood who file tag s.table.rows (was-marked f h access w))

  -- a row that waits lets its holder write nothing
  waiter : (q : Question) (want : Want) → StandsWriting who file tag (standing_in s.phase (with_waiter s.table q want)).rows
      → Stood who file tag (standing_in s.phase s.table).rows
  unfolding after_draw with_rows sharing_row
  waiter q want =
      moved s.phase s.table (with_waiter s.table q want)
      (λ p w. case w (found-put file who.host new w.row (marked q.file q.who.host q.access s.table.rows) w.stands))
    where
      new : Row
      new = sharing_row (with_marked s.table q) q (term_of q want)

      case : (w : StandsWriting who file tag (put_row new (marked q.file q.who.host q.access s.table.rows)))
          → ((is_row_of file who.host new ≡ true) × (w.row ≡ new))
          ⊎ ((is_row_of file who.host new ≡ false) × (find_row file who.host (marked q.file q.who.host q.access s.table.rows) ≡ Some w.row))
          → Stood who file tag s.table.rows
      case w (inl k) = let mode : is_writing w.row.mode ≡ false = ap (λ r. is_writing r.mode) k.1 in let writes = w.writes in absurd (cc)
      case w (inr k) =
          only-stood who file tag s.table.rows
          (was-marked q.file q.who.host q.access (record { row = w.row; stands = k.1; holder = w.holder; began = w.began; writes = w.writes }))

  serving-drawn : s.phase ≡ serving → tag_below tag (next_tag s.table) ≡ true
  serving-drawn p = drawn-below s.table.boot s.table.drawn tag (subst (λ q. IsDrawn (standing_in q s.table).boot (standing_in q s.table).drawn tag) p drawn)

  -- a fresh chain begins later
  fresh : s.phase ≡ serving → (row : Row) → row.since ≡ next_tag s.table → tag_below tag row.since ≡ false → ⊥
  fresh p row since began = let below : tag_below tag row.since ≡ true = subst (λ t. tag_below tag t ≡ true) (sym since) (serving-drawn p) in absurd (cc)

  granted-own : s.phase ≡ serving → (q : Question) (want : Want) (row : Row) (term : ℕ) → IsGranted s.table q want row term
      → is_row_of file who.host row ≡ true → row.who ≡ who → tag_below tag row.since ≡ false → Stood who file tag s.table.rows
  unfolding sharing_row caching_row shared_again renewed_row
  granted-own p q want row term (shares_again own found stays shares is lasts) key holder began = absurd (fresh p row (ap (λ r. r.since) is) began)
  granted-own p q want row term (begins_sharing none room shared is lasts) key holder began = absurd (fresh p row (ap (λ r. r.since) is) began)
  granted-own p q want row term (begins_caching none room shared is lasts) key holder began = absurd (fresh p row (ap (λ r. r.since) is) began)
  granted-own p q want row term (renews_row own found stays caching is lasts) key holder began =
      let k = of-key file who.host row key in
      let o = found-row q.file q.who.host s.table.rows own found in
      let at : q.file ≡ file = sym o.0 ∙ ap (λ r. r.file) (sym is) ∙ k.0 in
      let host : q.who.host ≡ who.host = sym o.1 ∙ ap (λ r. r.who.host) (sym is) ∙ k.1 in
      record {
        row = own;
        stands = subst (λ n. find_row file n s.table.rows ≡ Some own) host (subst (λ n. find_row n q.who.host s.table.rows ≡ Some own) at found);
        holder = ap (λ r. r.who) (sym is) ∙ holder;
        began = subst (λ t. tag_below tag t ≡ false) (ap (λ r. r.since) is) began;
      }

  grants : s.phase ≡ serving → (q : Question) (want : Want) (row : Row) (term : ℕ) → IsGranted s.table q want row term
      → StandsWriting who file tag (standing_in s.phase (after_draw s.table (put_row row s.table.rows))).rows
      → Stood who file tag (standing_in s.phase s.table).rows
  unfolding after_draw
  grants p q want row term granted =
      moved s.phase s.table (after_draw s.table (put_row row s.table.rows)) (λ p w. case p w (found-put file who.host row w.row s.table.rows w.stands))
    where
      case : s.phase ≡ serving → (w : StandsWriting who file tag (put_row row s.table.rows))
          → ((is_row_of file who.host row ≡ true) × (w.row ≡ row))
          ⊎ ((is_row_of file who.host row ≡ false) × (find_row file who.host s.table.rows ≡ Some w.row)) → Stood who file tag s.table.rows
      case p w (inl k) =
          granted-own p q want row term granted k.0 (subst (λ r. r.who ≡ who) k.1 w.holder) (subst (λ r. tag_below tag r.since ≡ false) k.1 w.began)
      case p w (inr k) = record { row = w.row; stands = k.1; holder = w.holder; began = w.began }

  heard-row : (row : Row) (time : ℕ) → s.phase ≡ serving → (host : ℕ) (f : ℕ) → find_row f host s.table.rows ≡ Some row
      → StandsWriting who file tag (standing_in s.phase (with_rows s.table (put_row (record row { heard = time }) s.table.rows))).rows
      → Stood who file tag (standing_in s.phase s.table).rows
  unfolding with_rows
  heard-row row time p host f found =
      moved s.phase s.table (with_rows s.table (put_row (record row { heard = time }) s.table.rows))
      (λ q w. case w (found-put file who.host (record row { heard = time }) w.row s.table.rows w.stands))
    where
      case : (w : StandsWriting who file tag (put_row (record row { heard = time }) s.table.rows))
          → ((is_row_of file who.host (record row { heard = time }) ≡ true) × (w.row ≡ record row { heard = time }))
          ⊎ ((is_row_of file who.host (record row { heard = time }) ≡ false) × (find_row file who.host s.table.rows ≡ Some w.row))
          → Stood who file tag s.table.rows
      case w (inl k) =
          let key = of-key file who.host (record row { heard = time }) k.0 in
          let own = found-row f host s.table.rows row found in
          let at : f ≡ file = sym own.0 ∙ key.0 in
          let of_host : host ≡ who.host = sym own.1 ∙ key.1 in
          record {
            row = row;
            stands = subst (λ n. find_row file n s.table.rows ≡ Some row) of_host (subst (λ n. find_row n host s.table.rows ≡ Some row) at found);
            holder = ap (λ r. r.who) (sym k.1) ∙ w.holder;
            began = subst (λ t. tag_below tag t ≡ false) (ap (λ r. r.since) k.1) w.began;
          }
      case w (inr k) = record { row = w.row; stands = k.1; holder = w.holder; began = w.began }

  moves-before : (d : Datagram) → ServerMoves s d Before
  moves-before d = record {
    stays = λ w. only-stood who file tag (standing_in s.phase s.table).rows w;
    decided = λ kept phase table other line e f q. q;
    attaching = λ w later. fewer _ (λ p row found. (found-kept (λ r. not (r.who.host == w.host)) file who.host s.table.rows row (own-unique p) found).0);
    vacating = λ w f v current. fewer _ (λ p row found. found-vacated w f v s.table.rows _ file who.host row (own-unique p) found);
    marking = λ f host access serves. marks f host access;
    marking_waiting = λ xid r w f want e wants asking own room. waiter (to_read s w f (Some want)) want;
    granting = λ xid r w f want row term e wants asking c g. grants asking.serves (to_read s w f (Some want)) want row term g;
    creating = λ name blocks serves can. only-stood who file tag (standing_in s.phase s.table).rows;
    changing = λ w f changed serves current found same c. only-stood who file tag (standing_in s.phase s.table).rows;
    storing = λ w f changed base row serves current found same can. heard-row row s.now serves w.host f.id can.row_found;
    storing_recovering =
        λ f changed until heard last p found same w. subst (λ q. Stood who file tag (standing_in q s.table).rows) (sym p)
        (only-stood who file tag (last_table last).rows w);
    removing =
        λ w f serves current found c. fewer _
        (λ p row stood. (found-kept (λ r. not (r.file == f.id)) file who.host s.table.rows row (own-unique p) stood).0);
  }

  -- the row that is bound after a datagram stood before
  pub stood-receive : (sender next : ℕ) (d : Datagram) → StandsWriting who file tag (standing (receive s sender next d).server).rows
      → Stood who file tag (standing s).rows
  stood-receive sender next d = server-moves s sender next d Before (moves-before d)

  left : (now : ℕ) → s.phase ≡ serving → (row : Row) → find_row file who.host (end_reading now s.table.rows) ≡ Some row
      → find_row file who.host s.table.rows ≡ Some row
  left now p row found = (found-kept (λ r. not (is_over now r)) file who.host s.table.rows row (own-unique p) found).0

  -- and before a tick
  pub stood-tick : (now : ℕ) → NoneRecoveringOf s → StandsWriting who file tag (standing (tick s now).server).rows → Stood who file tag (standing s).rows
  stood-tick now none = tick-moves s now Before (record {
    waits = λ until heard last p goes_on. only-stood who file tag (standing_in s.phase s.table).rows;
    opening = λ until heard last p over w. none-some w.row (ap (find_row file who.host) (sym (none-opened s until heard last p none)) ∙ w.stands);
    ends_reading = λ p. fewer _ (λ q row found. left now q row found);
    ending_writing =
        λ due p ends. fewer _ (λ q row found. left now q row
        (found-kept (λ r. not (is_row_of due.file due.who.host r)) file who.host (end_reading now s.table.rows) row
        (unique-filtered (λ r. not (is_over now r)) s.table.rows (own-unique q)) found).0);
  })
