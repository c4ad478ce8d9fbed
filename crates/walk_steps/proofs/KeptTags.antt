-- A row that its holder is told to give up keeps its tag in every step, until it goes.
use Rattle.std.proofs.Common.{◌≡◌, ◌⊎◌, ℕ, ◌==◌, true, false, not, List, Option, Some, None, sym, subst, ap, ◌∙◌, inl, inr}
use Rattle.nq_base.specs.declared.Access.{Access}
use Rattle.nq_base.specs.declared.Question.{Question}
use Rattle.nq_base.specs.declared.Row.{Row}
use Rattle.nq_base.specs.declared.Want.{Want}
use Rattle.nq_base.specs.declared.Who.{Who}
use Rattle.nq_model.specs.protocol.Ask.{term_of, marked, sharing_row, caching_row, shared_again, renewed_row}
use Rattle.nq_model.specs.protocol.Message.{Datagram}
use Rattle.nq_model.specs.protocol.Server.{Phase, serving, recovering, Server}
use Rattle.nq_model.specs.protocol.ServerStep.{to_read, is_over, end_reading, receive, tick, boot, crash}
use Rattle.nq_model.specs.protocol.Table.{Table, is_row_of, find_row, put_row, with_rows, after_draw, empty_table}
use Rattle.nq_model.specs.laws.RowsStandApart.{KeepsTags}
use Rattle.walk_steps.proofs.AskCases.{with_marked, IsGranted, shares_again, begins_sharing, begins_caching, renews_row}
use Rattle.walk_steps.proofs.RowChanges.{HasUniqueKeys, unique-filtered, of-key, found-put, found-kept, found-vacated, found-marked, mark-is}
use Rattle.walk_steps.proofs.Rows.{found-row}
use Rattle.walk_steps.proofs.ServerMoves.{ServerMoves, server-moves, tick-moves}
use Rattle.walk_steps.proofs.ServerTables.{StandingFits, StandingFitsOf, NoneRecovering, NoneRecoveringOf}

keeps-fewer : (rows fewer : List Row) → ((file host : ℕ) (row : Row) → find_row file host fewer ≡ Some row → find_row file host rows ≡ Some row)
    → KeepsTags rows fewer
keeps-fewer rows fewer stood file host row r found evicting after =
    let before : find_row file host rows ≡ Some r = stood file host r after in
    let same : r ≡ row = cc in
    (ap (λ x. x.tag) same, ap (λ x. x.evicting) same ∙ evicting)

keeps-marked : (rows : List Row) (f h : ℕ) (access : Access) → KeepsTags rows (marked f h access rows)
keeps-marked rows f h access file host row r found evicting after =
    let w = found-marked f h access file host rows r after in
    let m = mark-is f h access w.was in
    let same : w.was ≡ row = was-row w.was w.found in
    (ap (λ x. x.tag) w.is ∙ m.tag ∙ ap (λ x. x.tag) same, ap (λ x. x.evicting) w.is ∙ m.evicts (ap (λ x. x.evicting) same ∙ evicting))
  where
    was-row : (was : Row) → find_row file host rows ≡ Some was → was ≡ row
    was-row was e = cc

-- a row is put where none stands, or in place of one that need not be given up, or of one of the same tag and mark
keeps-put : (before rows : List Row) (put : Row)
    → ((row : Row) → find_row put.file put.who.host before ≡ Some row → row.evicting ≡ true → (put.tag ≡ row.tag) × (put.evicting ≡ true))
    → KeepsTags before rows → KeepsTags before (put_row put rows)
keeps-put before rows put at keeps file host row r found evicting after = by (found-put file host put r rows after)
  where
    by : ((is_row_of file host put ≡ true) × (r ≡ put)) ⊎ ((is_row_of file host put ≡ false) × (find_row file host rows ≡ Some r))
        → (r.tag ≡ row.tag) × (r.evicting ≡ true)
    by (inl e) =
        let k = of-key file host put e.0 in
        let place : find_row put.file put.who.host before ≡ Some row = subst (λ i. find_row i put.who.host before ≡ Some row) (sym k.0)
        (subst (λ i. find_row file i before ≡ Some row) (sym k.1) found) in
        let kept = at row place evicting in
        (ap (λ x. x.tag) e.1 ∙ kept.0, ap (λ x. x.evicting) e.1 ∙ kept.1)
    by (inr e) = keeps file host row r found evicting e.1

stays-put : (own : Option Row) (put row : Row) → own ≡ None → own ≡ Some row → (put.tag ≡ row.tag) × (put.evicting ≡ true)
stays-put own put row none some = absurd (cc)

stays-own : (o : Option Row) (own put row : Row) → o ≡ Some own → own.evicting ≡ false → o ≡ Some row → row.evicting ≡ true
    → (put.tag ≡ row.tag) × (put.evicting ≡ true)
stays-own o own put row is stays found evicting =
    let same : own ≡ row = cc in let bad : row.evicting ≡ false = ap (λ x. x.evicting) (sym same) ∙ stays in absurd (cc)

granted-keeps : (table : Table) (q : Question) (want : Want) (put : Row) (term : ℕ) → IsGranted table q want put term → (row : Row)
    → find_row put.file put.who.host table.rows ≡ Some row → row.evicting ≡ true → (put.tag ≡ row.tag) × (put.evicting ≡ true)
unfolding sharing_row caching_row shared_again renewed_row
granted-keeps table q want put term (shares_again own found stays shares is lasts) row there evicting =
    let k = found-row q.file q.who.host table.rows own found in
    stays-own (find_row q.file q.who.host table.rows) own put row found stays
    (subst (λ i. find_row i q.who.host table.rows ≡ Some row) k.0
    (subst (λ h. find_row own.file h table.rows ≡ Some row) k.1 (subst (λ p. find_row p.file p.who.host table.rows ≡ Some row) is there))) evicting
granted-keeps table q want put term (begins_sharing none room shared is lasts) row there evicting =
    stays-put (find_row q.file q.who.host table.rows) put row none (subst (λ p. find_row p.file p.who.host table.rows ≡ Some row) is there)
granted-keeps table q want put term (begins_caching none room shared is lasts) row there evicting =
    stays-put (find_row q.file q.who.host table.rows) put row none (subst (λ p. find_row p.file p.who.host table.rows ≡ Some row) is there)
granted-keeps table q want put term (renews_row own found stays caching is lasts) row there evicting =
    let k = found-row q.file q.who.host table.rows own found in
    stays-own (find_row q.file q.who.host table.rows) own put row found stays
    (subst (λ i. find_row i q.who.host table.rows ≡ Some row) k.0
    (subst (λ h. find_row own.file h table.rows ≡ Some row) k.1 (subst (λ p. find_row p.file p.who.host table.rows ≡ Some row) is there))) evicting

module _ (s : Server) (t : StandingFitsOf s) (none : NoneRecoveringOf s) where
  -- the keys of its own table are unique in both phases
  keys-in : (phase : Phase) → StandingFits s.kept.files phase s.table → NoneRecovering phase s.table → HasUniqueKeys s.table.rows
  keys-in serving f n = f.unique
  keys-in (recovering until heard last) f n = subst HasUniqueKeys (sym n) tt

  pub own-keys : HasUniqueKeys s.table.rows
  own-keys = keys-in s.phase t none

  stored-keeps : (who : Who) (file : ℕ) (row : Row) → find_row file who.host s.table.rows ≡ Some row → (r : Row)
      → find_row row.file row.who.host s.table.rows ≡ Some r → r.evicting ≡ true → (row.tag ≡ r.tag) × (row.evicting ≡ true)
  stored-keeps who file row found r there evicting =
      let k = found-row file who.host s.table.rows row found in
      let place : find_row file who.host s.table.rows ≡ Some r = subst (λ i. find_row i who.host s.table.rows ≡ Some r) k.0
      (subst (λ h. find_row row.file h s.table.rows ≡ Some r) k.1 there) in
      let same : row ≡ r = cc in
      (ap (λ x. x.tag) same, ap (λ x. x.evicting) same ∙ evicting)

  keeps-moves : (d : Datagram) → ServerMoves s d (λ kept phase table. KeepsTags s.table.rows table.rows)
  unfolding with_rows after_draw sharing_row
  keeps-moves d = record {
    stays = keeps-fewer s.table.rows s.table.rows (λ file host row found. found);
    decided = λ kept phase table who line inc same q. q;
    attaching =
        λ who later. keeps-fewer s.table.rows _
        (λ file host row found. (found-kept (λ r. not (r.who.host == who.host)) file host s.table.rows row own-keys found).0);
    vacating = λ who file tag current. keeps-fewer s.table.rows _ (λ f h row found. found-vacated who file tag s.table.rows _ f h row own-keys found);
    marking = λ file host access serves. keeps-marked s.table.rows file host access;
    marking_waiting = λ xid r who f want e is asking own room.
        let q : Question = to_read s who f (Some want) in
        let put : Row = sharing_row (with_marked s.table q) q (term_of q want) in
        keeps-put s.table.rows _ put (λ row found evicting. stays-put (find_row f.id who.host s.table.rows) put row own found)
        (keeps-marked s.table.rows f.id who.host _);
    granting =
        λ xid r who f want row term e is asking c g. keeps-put s.table.rows s.table.rows row
        (granted-keeps s.table (to_read s who f (Some want)) want row term g) (keeps-fewer s.table.rows s.table.rows (λ file host row found. found));
    creating = λ name blocks serves can. keeps-fewer s.table.rows s.table.rows (λ file host row found. found);
    changing = λ who f file serves current found same c. keeps-fewer s.table.rows s.table.rows (λ file host row found. found);
    storing =
        λ who f file base row serves current found same can. keeps-put s.table.rows s.table.rows (record row { heard = s.now })
        (stored-keeps who f.id row can.row_found) (keeps-fewer s.table.rows s.table.rows (λ file host row found. found));
    storing_recovering = λ f file until heard last p found same. keeps-fewer s.table.rows s.table.rows (λ file host row found. found);
    removing =
        λ who f serves current found c. keeps-fewer s.table.rows _
        (λ file host row found. (found-kept (λ r. not (r.file == f.id)) file host s.table.rows row own-keys found).0);
  }

  pub keeps-receive : (sender next : ℕ) (d : Datagram) → KeepsTags s.table.rows (receive s sender next d).server.table.rows
  keeps-receive sender next d = server-moves s sender next d (λ kept phase table. KeepsTags s.table.rows table.rows) (keeps-moves d)

  ended : (now file host : ℕ) (row : Row) → find_row file host (end_reading now s.table.rows) ≡ Some row → find_row file host s.table.rows ≡ Some row
  ended now file host row found = (found-kept (λ r. not (is_over now r)) file host s.table.rows row own-keys found).0

  pub keeps-tick : (now : ℕ) → KeepsTags s.table.rows (tick s now).server.table.rows
  unfolding with_rows
  keeps-tick now = tick-moves s now (λ kept phase table. KeepsTags s.table.rows table.rows) (record {
    waits = λ until heard last p goes_on. keeps-fewer s.table.rows s.table.rows (λ file host row found. found);
    opening = λ until heard last p over. keeps-fewer s.table.rows s.table.rows (λ file host row found. found);
    ends_reading = λ p. keeps-fewer s.table.rows _ (λ file host row found. ended now file host row found);
    ending_writing =
        λ row p due. keeps-fewer s.table.rows _
        (λ file host r found. ended now file host r
        (found-kept (λ x. not (is_row_of row.file row.who.host x)) file host (end_reading now s.table.rows) r (unique-filtered _ s.table.rows own-keys)
        found).0);
  })

-- after a crash no row stands
pub keeps-crash : (s : Server) (longest : ℕ) → KeepsTags s.table.rows (crash s longest).server.table.rows
unfolding crash boot empty_table
keeps-crash s longest file host row r found evicting after = absurd (cc)
