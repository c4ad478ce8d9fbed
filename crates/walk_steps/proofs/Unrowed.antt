-- A host's running incarnation that is not attached has no row in the lease table, after each step of the server.
use Rattle.std.proofs.Common.{◌≡◌, ◌⊎◌, ℕ, ◌==◌, Bool, true, false, not, List, Option, Some, refl, sym, subst, ap, ◌∙◌, inl, inr}
use Rattle.nq_base.specs.declared.Access.{Access}
use Rattle.nq_base.specs.declared.Event.{Event}
use Rattle.nq_base.specs.declared.Question.{Question}
use Rattle.nq_base.specs.declared.Request.{Request}
use Rattle.nq_base.specs.declared.Row.{Row}
use Rattle.nq_base.specs.declared.Want.{Want}
use Rattle.nq_base.specs.declared.Who.{Who}
use Rattle.walk_steps.proofs.AskCases.{own_in, with_marked, IsGranted, shares_again, begins_sharing, begins_caching, renews_row}
use Rattle.walk_steps.proofs.ClientMoves.{none-some}
use Rattle.walk_steps.proofs.Hearing.{Hearing}
use Rattle.walk_steps.proofs.Packets.{Asked}
use Rattle.walk_steps.proofs.RowChanges.{HasUniqueKeys, of-key, found-put, found-kept, found-vacated, found-marked, mark-is, unique-filtered}
use Rattle.walk_steps.proofs.Rows.{found-row}
use Rattle.walk_steps.proofs.ServerCases.{server-hears, server-ticks}
use Rattle.walk_steps.proofs.ServerOutcomes.{wanted_by, ServerCases, IsAsking}
use Rattle.walk_steps.proofs.ServerTables.{StandingFits, StandingFitsOf, NoneRecovering, none-of-boots}
use Rattle.walk_steps.proofs.TableFits.{TableFits}
use Rattle.nq_model.specs.protocol.Ask.{marked, sharing_row, caching_row, shared_again, renewed_row, term_of}
use Rattle.nq_model.specs.protocol.Client.{Lease, Notice, Ticket}
use Rattle.nq_model.specs.protocol.Decide.{decides, creates, writes_through, stores, wrote, stores_recovering, resizes, removes, puts_off, commits}
use Rattle.nq_model.specs.protocol.Kept.{File}
use Rattle.nq_model.specs.laws.LeaseInterval.{requested_file}
use Rattle.nq_model.specs.protocol.Message.{Packet, asker, Datagram, request}
use Rattle.nq_model.specs.protocol.Server.{Phase, serving, recovering, Server, quiet, drops, says, after_notices, keeping, keeping_with, with_table}
use Rattle.nq_model.specs.protocol.ServerStep.{attaches, vacates, tells_later, serves, leases, to_read, access_of, receive, is_over, end_reading, at_time}
use Rattle.nq_model.specs.protocol.ServerStep.{opens, ends_writing, tick, boot, crash}
use Rattle.nq_model.specs.protocol.Table.{Table, is_row_of, find_row, put_row, drop_row, with_rows, after_draw, empty_table}

-- no row is of this incarnation
abbrev pub IsUnrowed : Who → List Row → Type 0
IsUnrowed who rows = (file : ℕ) (row : Row) → find_row file who.host rows ≡ Some row → row.who.inc ≡ who.inc → ⊥

unrowed-fewer : (who : Who) (rows less : List Row)
    → ((file : ℕ) (row : Row) → find_row file who.host less ≡ Some row → find_row file who.host rows ≡ Some row) → IsUnrowed who rows → IsUnrowed who less
unrowed-fewer who rows less stood u = λ file row found inc. u file row (stood file row found) inc

unrowed-put : (who : Who) (row : Row) (rows : List Row) → (row.who.host ≡ who.host → row.who.inc ≡ who.inc → ⊥) → IsUnrowed who rows
    → IsUnrowed who (put_row row rows)
unrowed-put who row rows new u = λ file r found inc. case file r inc (found-put file who.host row r rows found)
  where
    case : (file : ℕ) (r : Row) → r.who.inc ≡ who.inc
        → ((is_row_of file who.host row ≡ true) × (r ≡ row)) ⊎ ((is_row_of file who.host row ≡ false) × (find_row file who.host rows ≡ Some r)) → ⊥
    case file r inc (inl k) = new (of-key file who.host row k.0).1 (ap (λ x. x.who.inc) (sym k.1) ∙ inc)
    case file r inc (inr k) = u file r k.1 inc

unrowed-marked : (who : Who) (f h : ℕ) (access : Access) (rows : List Row) → IsUnrowed who rows → IsUnrowed who (marked f h access rows)
unrowed-marked who f h access rows u = λ file row found inc.
    let w = found-marked f h access file who.host rows row found in
    u file w.was w.found (ap (λ x. x.inc) (sym (mark-is f h access w.was).who) ∙ ap (λ x. x.who.inc) (sym w.is) ∙ inc)

-- keys are unique in the server's own table
own-unique : (files : List File) (phase : Phase) (table : Table) → StandingFits files phase table → NoneRecovering phase table → HasUniqueKeys table.rows
own-unique files serving table stood none = stood.unique
own-unique files (recovering until heard last) table stood none = subst HasUniqueKeys (sym none) tt

-- a granted row is of the asker, or of the row that he had
unrowed-granted : (who : Who) (table : Table) (q : Question) (want : Want) (row : Row) (term : ℕ) → IsGranted table q want row term
    → (q.who.host ≡ who.host → q.who.inc ≡ who.inc → ⊥) → IsUnrowed who table.rows → IsUnrowed who (put_row row table.rows)
unfolding sharing_row caching_row shared_again renewed_row
unrowed-granted who table q want row term g other u = unrowed-put who row table.rows (new g) u
  where
    owned : (own : Row) → own_in table q ≡ Some own → own.who.host ≡ who.host → own.who.inc ≡ who.inc → ⊥
    owned own found host inc =
        let key = found-row q.file q.who.host table.rows own found in
        u q.file own (subst (λ n. find_row q.file n table.rows ≡ Some own) (sym key.1 ∙ host) found) inc

    new : IsGranted table q want row term → row.who.host ≡ who.host → row.who.inc ≡ who.inc → ⊥
    new (shares_again own found stays shares is lasts) host inc = owned own found (ap (λ r. r.who.host) (sym is) ∙ host) (ap (λ r. r.who.inc) (sym is) ∙ inc)
    new (begins_sharing none room shared is lasts) host inc = other (ap (λ r. r.who.host) (sym is) ∙ host) (ap (λ r. r.who.inc) (sym is) ∙ inc)
    new (begins_caching none room shared is lasts) host inc = other (ap (λ r. r.who.host) (sym is) ∙ host) (ap (λ r. r.who.inc) (sym is) ∙ inc)
    new (renews_row own found stays caching is lasts) host inc = owned own found (ap (λ r. r.who.host) (sym is) ∙ host) (ap (λ r. r.who.inc) (sym is) ∙ inc)

module _ (ps : List Packet) (s : Server) (most sender next : ℕ) (d : Datagram) (events : List Event) (who : Who) (now xid : ℕ) (attached : Bool)
    (ticket : Option Ticket) (leased : List Lease) (noticed : List Notice)
    (c : Hearing ps s most sender d events who now xid attached ticket leased noticed) (waits : attached ≡ false) (u : IsUnrowed who s.table.rows) where
  -- the running incarnation asks for no lease
  asks-nothing : (x : ℕ) (w : Who) (r : Request) (f : File) → d ≡ request x r → asker r ≡ Some w → requested_file r ≡ Some f.id → IsAsking s sender w f
      → w.host ≡ who.host → w.inc ≡ who.inc → ⊥
  asks-nothing x w r f e by on asking host inc =
      let sent : Asked ps who.host x r = subst (λ n. Asked ps n x r) (sym asking.current.from.host ∙ host) (c.was_sent x r e) in
      none-some f.id (ap requested_file (sym (c.knows.lined.waiting waits x r w sent by inc)) ∙ on)

  -- fewer rows of the server's own table
  filtered : (less : List Row) → ((file : ℕ) (row : Row) → HasUniqueKeys s.table.rows → find_row file who.host less ≡ Some row
      → find_row file who.host s.table.rows ≡ Some row) → IsUnrowed who less
  filtered less stood =
      unrowed-fewer who s.table.rows less
      (λ file row. stood file row (own-unique s.kept.files s.phase s.table c.stood (none-of-boots s.kept.boot s.kept.opened s.phase s.table c.boots))) u

  unrowed-cases : ServerCases s sender next d (λ t. IsUnrowed who t.server.table.rows)
  unfolding quiet drops says attaches vacates tells_later serves leases decides creates writes_through stores wrote stores_recovering resizes
      removes puts_off commits keeping keeping_with with_table after_notices with_rows after_draw sharing_row
  unrowed-cases = record {
    stays = u;
    dropping = λ reason. u;
    erring = λ m e. u;
    answers_null = λ x e. u;
    replying = λ x w r a e by from plain. u;
    attaching =
        λ x w e from later. filtered _ (λ file row unique found.
        (found-kept (λ r. not (r.who.host == w.host)) file who.host s.table.rows row unique found).0);
    vacating =
        λ x w f tag e current. filtered _
        (λ file row unique found. found-vacated w f tag s.table.rows (find_row f w.host s.table.rows) file who.host row unique found);
    putting_off = λ x w r f clash e by file asking k. unrowed-marked who f.id w.host (access_of (wanted_by r)) s.table.rows u;
    putting_off_waiting =
        λ x w r f clash want e by file wants asking k own room. unrowed-put who
        (sharing_row (with_marked s.table (to_read s w f (Some want))) (to_read s w f (Some want)) (term_of (to_read s w f (Some want)) want)) _
        (λ host inc. asks-nothing x w r f e by file asking host inc) (unrowed-marked who f.id w.host (access_of (Some want)) s.table.rows u);
    putting_off_by_own = λ x w r f want own e by file wants asking k found evicting. u;
    reading = λ x w q block f body e asking there k. u;
    reading_full = λ x w q block want f body e asking there k own room. u;
    reading_granted =
        λ x w q block want f body row term e asking there k g. unrowed-granted who s.table (to_read s w f (Some want)) want row term g
        (λ host inc. asks-nothing x w (Request.Read w q f.id block (Some want)) f e refl refl asking host inc) u;
    leasing_full = λ x w want f e asking k own room. u;
    leasing =
        λ x w want f row term e asking k g. unrowed-granted who s.table (to_read s w f (Some want)) want row term g
        (λ host inc. asks-nothing x w (Request.GetLease w f.id want) f e refl refl asking host inc) u;
    declining = λ x w seq r verdict e by sq fresh declined. u;
    putting_off_change = λ x w seq r f clash e by sq file base changing k. unrowed-marked who f.id w.host Access.Write s.table.rows u;
    creating = λ x w seq blocks name e fresh p can. u;
    writing_through = λ x w seq block first last body f e changing below k. u;
    storing =
        λ x w seq block first last base body f row e changing below can. unrowed-put who (record row { heard = s.now }) s.table.rows
        (λ host inc. stored w f row can.row_found host inc) u;
    storing_recovering = λ x w seq block first final base body f until heard last e fresh recovers found below boot rev. u;
    resizing = λ x w seq q blocks f e changing can k. u;
    removing =
        λ x w seq q f e changing k. filtered _
        (λ file row unique found. (found-kept (λ r. not (r.file == f.id)) file who.host s.table.rows row unique found).0);
  } where
    stored : (w : Who) (f : File) (row : Row) → find_row f.id w.host s.table.rows ≡ Some row → row.who.host ≡ who.host → row.who.inc ≡ who.inc → ⊥
    stored w f row found host inc =
        u f.id row (subst (λ n. find_row f.id n s.table.rows ≡ Some row) (sym (found-row f.id w.host s.table.rows row found).1 ∙ host) found) inc

  -- after a datagram
  pub unrowed-receive : IsUnrowed who (receive s sender next d).server.table.rows
  unrowed-receive = server-hears s sender next d (λ t. IsUnrowed who t.server.table.rows) unrowed-cases

-- after a tick
pub unrowed-tick : (s : Server) (now : ℕ) (who : Who) → StandingFitsOf s → IsUnrowed who s.table.rows → IsUnrowed who (tick s now).server.table.rows
unfolding quiet at_time opens ends_writing keeping_with with_table with_rows
unrowed-tick s now who stood u = server-ticks s now (λ t. IsUnrowed who t.server.table.rows) (record {
  waits = λ until heard last p goes_on. u;
  opening = λ until heard last p over. u;
  ends_reading = λ p none. unrowed-fewer who s.table.rows _ (λ file row found. ended p file row found) u;
  ending_writing =
      λ row p due. unrowed-fewer who (end_reading now s.table.rows) _ (λ file r found. dropped p row file r found)
      (unrowed-fewer who s.table.rows _ (λ file r found. ended p file r found) u);
})
  where
    own : s.phase ≡ serving → TableFits s.kept.files s.table.boot s.table.drawn s.table.rows
    own p = subst (λ q. StandingFits s.kept.files q s.table) p stood

    ended : s.phase ≡ serving → (file : ℕ) (row : Row) → find_row file who.host (end_reading now s.table.rows) ≡ Some row
        → find_row file who.host s.table.rows ≡ Some row
    ended p file row found = (found-kept (λ r. not (is_over now r)) file who.host s.table.rows row (own p).unique found).0

    dropped : s.phase ≡ serving → (gone : Row) (file : ℕ) (row : Row)
        → find_row file who.host (drop_row gone.file gone.who.host (end_reading now s.table.rows)) ≡ Some row
        → find_row file who.host (end_reading now s.table.rows) ≡ Some row
    dropped p gone file row found =
        (found-kept (λ r. not (is_row_of gone.file gone.who.host r)) file who.host (end_reading now s.table.rows) row
        (unique-filtered (λ r. not (is_over now r)) s.table.rows (own p).unique) found).0

-- after a crash no row stands
pub unrowed-crash : (s : Server) (longest : ℕ) (who : Who) → IsUnrowed who (crash s longest).server.table.rows
unfolding crash boot empty_table
unrowed-crash s longest who = λ file row found inc. none-some row found
