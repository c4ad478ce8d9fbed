-- What a datagram or a tick does to what the server keeps, its phase and its lease table.
use Rattle.std.proofs.Common.{◌≡◌, ◌<◌, ◌≤◌, ℕ, ◌+◌, true, List, Some, None, max, refl, Option}
use Rattle.std.specs.List.{find}
use Rattle.nq_base.specs.declared.Access.{Access}
use Rattle.nq_base.specs.declared.HostRow.{HostRow}
use Rattle.nq_base.specs.declared.PushBase.{PushBase}
use Rattle.nq_base.specs.declared.Request.{Request}
use Rattle.nq_base.specs.declared.Row.{Row}
use Rattle.nq_base.specs.declared.Tag.{Tag}
use Rattle.nq_base.specs.declared.Verdict.{Verdict}
use Rattle.nq_base.specs.declared.Want.{Want}
use Rattle.nq_base.specs.declared.Who.{Who}
use Rattle.nq_model.specs.protocol.Ask.{marked}
use Rattle.nq_model.specs.protocol.Decide.{decides, creates, writes_through, stores, wrote, stores_recovering, resizes, removes, puts_off, commits}
use Rattle.nq_model.specs.protocol.Kept.{File, Kept, find_file, replace_file, drop_file, written_file, resized_file, with_files, with_new_file, with_row}
use Rattle.nq_model.specs.protocol.Kept.{host_row}
use Rattle.nq_model.specs.protocol.Message.{Datagram, request}
use Rattle.nq_model.specs.protocol.Profile.{write_slack}
use Rattle.nq_model.specs.protocol.Server.{Phase, serving, recovering, Server, ServerStep, quiet, drops, says, after_notices, keeping, keeping_with, with_table}
use Rattle.nq_model.specs.protocol.ServerStep.{attaches, vacates, vacated_rows, tells_later, serves, leases, to_read, receive, is_due, end_reading, fence}
use Rattle.nq_model.specs.protocol.ServerStep.{ends_writing, opens, at_time, tick}
use Rattle.nq_model.specs.protocol.Table.{Table, find_row, drop_row, put_row, drop_host, drop_rows_of, with_rows, after_draw}
use Rattle.walk_steps.proofs.AskCases.{clash_in, own_in, has_room, with_marked, with_waiter, IsGranted}
use Rattle.walk_steps.proofs.ServerCases.{server-hears, server-ticks}
use Rattle.walk_steps.proofs.ServerOutcomes.{line_of, wanted_by, IsCurrent, IsAsking, CanCreate, CanStore, clash_with, ServerCases}

-- the line of a host whose incarnation begins
abbrev pub first_line : Who → HostRow
first_line who = record { inc = who.inc; seq = 0; verdict = Verdict.Done; value = 0 }

-- an incarnation is the kept one
abbrev pub IsKeptInc : Server → Who → Type 0
IsKeptInc s who = IsCurrent s who.host who

-- the changes that a datagram may make
pub record ServerMoves (s : Server) (d : Datagram) (Q : Kept → Phase → Table → Type 0) : Type 0 where
  -- nothing changes
  pub stays : Q s.kept s.phase s.table
  -- besides, a request was decided: the line of its host has the same incarnation
  pub decided : (kept : Kept) (phase : Phase) (table : Table) (who : Who) (line : HostRow) → who.inc ≡ (host_row kept who.host).inc → line.inc ≡ who.inc
      → Q kept phase table → Q (with_row kept who.host line) phase table
  -- a later incarnation begins
  pub attaching : (who : Who) → (line_of s who).inc < who.inc
      → Q (with_row s.kept who.host (first_line who)) s.phase (with_rows s.table (drop_host who.host s.table.rows))
  -- a lease was given up
  pub vacating : (who : Who) (file : ℕ) (tag : Tag) → IsKeptInc s who
      → Q s.kept s.phase (with_rows s.table (vacated_rows who file tag s.table.rows (find_row file who.host s.table.rows)))
  -- rows of others are marked
  pub marking : (file host : ℕ) (access : Access) → s.phase ≡ serving → Q s.kept s.phase (with_rows s.table (marked file host access s.table.rows))
  -- and the asker gets a row that waits
  pub marking_waiting : (xid : ℕ) (r : Request) (who : Who) (f : File) (want : Want) → d ≡ request xid r → wanted_by r ≡ Some want
      → IsAsking s who.host who f → own_in s.table (to_read s who f (Some want)) ≡ None
      → has_room (with_marked s.table (to_read s who f (Some want))) ≡ true → Q s.kept s.phase (with_waiter s.table (to_read s who f (Some want)) want)
  -- a row is granted
  pub granting : (xid : ℕ) (r : Request) (who : Who) (f : File) (want : Want) (row : Row) (term : ℕ) → d ≡ request xid r → wanted_by r ≡ Some want
      → IsAsking s who.host who f → clash_in s.table (to_read s who f (Some want)) ≡ None
      → IsGranted s.table (to_read s who f (Some want)) want row term → Q s.kept s.phase (after_draw s.table (put_row row s.table.rows))
  -- a file is made
  pub creating : (name : List ℕ) (blocks : ℕ) → s.phase ≡ serving → CanCreate s name blocks → Q (with_new_file s.kept name blocks) s.phase s.table
  -- a file is changed, where no row of another host stands in the way
  pub changing : (who : Who) (f file : File) → s.phase ≡ serving → IsKeptInc s who → find_file f.id s.kept.files ≡ Some f → file.id ≡ f.id
      → clash_with s f.id who.host ≡ None → Q (with_files s.kept (replace_file file s.kept.files)) s.phase s.table
  -- delayed writes are stored, while their row goes on
  pub storing : (who : Who) (f file : File) (base : PushBase) (row : Row) → s.phase ≡ serving → IsKeptInc s who → find_file f.id s.kept.files ≡ Some f
      → file.id ≡ f.id → CanStore s who f base row
      → Q (with_files s.kept (replace_file file s.kept.files)) s.phase (with_rows s.table (put_row (record row { heard = s.now }) s.table.rows))
  -- delayed writes are stored while the server recovers
  pub storing_recovering : (f file : File) (until heard : ℕ) (last : Option Table) → s.phase ≡ recovering until heard last
      → find_file f.id s.kept.files ≡ Some f → file.id ≡ f.id
      → Q (with_files s.kept (replace_file file s.kept.files)) (recovering (max until (s.now + write_slack)) s.now last) s.table
  -- a file is taken away
  pub removing : (who : Who) (f : File) → s.phase ≡ serving → IsKeptInc s who → find_file f.id s.kept.files ≡ Some f → clash_with s f.id who.host ≡ None
      → Q (with_files s.kept (drop_file f.id s.kept.files)) s.phase (with_rows s.table (drop_rows_of f.id s.table.rows))

module _ (s : Server) (sender next : ℕ) (d : Datagram) (Q : Kept → Phase → Table → Type 0) (moves : ServerMoves s d Q) where
  -- what holds of the state after a step, which has the longest term and the time of before
  abbrev Holds : ServerStep → Type 0
  Holds t = Q t.server.kept t.server.phase t.server.table × (t.server.longest ≡ s.longest) × (t.server.now ≡ s.now)

  same-host : (who : Who) → IsCurrent s sender who → IsKeptInc s who
  same-host who current = record { from = record { host = refl; possible = current.from.possible }; inc = current.inc }

  same-asker : (who : Who) (f : File) → IsAsking s sender who f → IsAsking s who.host who f
  same-asker who f asking = record { current = same-host who asking.current; serves = asking.serves; found = asking.found }

  cases-from-moves : ServerCases s sender next d Holds
  unfolding quiet drops says attaches vacates tells_later serves leases decides creates writes_through stores wrote stores_recovering resizes
      removes puts_off commits keeping keeping_with with_table after_notices with_files with_new_file written_file resized_file
  cases-from-moves = record {
    stays = (moves.stays, refl, refl);
    dropping = λ reason. (moves.stays, refl, refl);
    erring = λ m e. (moves.stays, refl, refl);
    answers_null = λ xid e. (moves.stays, refl, refl);
    replying = λ xid who r reply e by from plain. (moves.stays, refl, refl);
    attaching = λ xid who e from later. (moves.attaching who later, refl, refl);
    vacating = λ xid who file tag e current. (moves.vacating who file tag (same-host who current), refl, refl);
    putting_off = λ xid who r f clash e by file asking c. (moves.marking f.id who.host _ asking.serves, refl, refl);
    putting_off_waiting =
        λ xid who r f clash want e by file wants asking c own room.
        (moves.marking_waiting xid r who f want e wants (same-asker who f asking) own room, refl, refl);
    putting_off_by_own = λ xid who r f want own e by file wants asking c o evicting. (moves.stays, refl, refl);
    reading = λ xid who q block f body e asking there c. (moves.stays, refl, refl);
    reading_full = λ xid who q block want f body e asking there c own room. (moves.stays, refl, refl);
    reading_granted =
        λ xid who q block want f body row term e asking there c g.
        (moves.granting xid _ who f want row term e refl (same-asker who f asking) c g, refl, refl);
    leasing_full = λ xid who want f e asking c own room. (moves.stays, refl, refl);
    leasing = λ xid who want f row term e asking c g. (moves.granting xid _ who f want row term e refl (same-asker who f asking) c g, refl, refl);
    declining = λ xid who seq r verdict e by sq fresh declined. (moves.decided s.kept s.phase s.table who _ fresh.current.inc refl moves.stays, refl, refl);
    putting_off_change =
        λ xid who seq r f clash e by sq file base changing c.
        (moves.decided s.kept s.phase _ who _ changing.fresh.current.inc refl (moves.marking f.id who.host Access.Write changing.serves), refl, refl);
    creating =
        λ xid who seq blocks name e fresh serves can.
        (moves.decided _ s.phase s.table who _ fresh.current.inc refl (moves.creating name blocks serves can), refl, refl);
    writing_through =
        λ xid who seq block first last body f e changing below c. (
          moves.decided _ s.phase s.table who _ changing.fresh.current.inc refl
              (moves.changing who f (written_file f block body) changing.serves (same-host who changing.fresh.current) changing.found refl c),
          refl,
          refl,
        );
    storing =
        λ xid who seq block first last base body f row e changing below can. (
          moves.decided _ s.phase _ who _ changing.fresh.current.inc refl
              (moves.storing who f (written_file f block body) base row changing.serves (same-host who changing.fresh.current) changing.found refl can),
          refl,
          refl,
        );
    storing_recovering =
        λ xid who seq block first final base body f until heard last e fresh recovers found below boot rev. (
          moves.decided _ _ s.table who _ fresh.current.inc refl
              (moves.storing_recovering f (written_file f block body) until heard last recovers found refl),
          refl,
          refl,
        );
    resizing =
        λ xid who seq q blocks f e changing can c. (
          moves.decided _ s.phase s.table who _ changing.fresh.current.inc refl
              (moves.changing who f (resized_file f blocks) changing.serves (same-host who changing.fresh.current) changing.found refl c),
          refl,
          refl,
        );
    removing =
        λ xid who seq q f e changing c. (
          moves.decided _ s.phase _ who _ changing.fresh.current.inc refl
              (moves.removing who f changing.serves (same-host who changing.fresh.current) changing.found c),
          refl,
          refl,
        );
  }

-- what a datagram does to the state
pub server-moves : (s : Server) (sender next : ℕ) (d : Datagram) (Q : Kept → Phase → Table → Type 0) → ServerMoves s d Q
    → Q (receive s sender next d).server.kept (receive s sender next d).server.phase (receive s sender next d).server.table
server-moves s sender next d Q moves = (server-hears s sender next d (Holds s sender next d Q moves) (cases-from-moves s sender next d Q moves)).0

-- what speaks of the kept longest term and of the phase alone changes only where delayed writes are stored in a recovery
pub phase-moves : (s : Server) (d : Datagram) (R : (longest : ℕ) → Phase → Type 0) → R s.kept.longest s.phase
    → ((until heard : ℕ) (last : Option Table) → s.phase ≡ recovering until heard last
    → R s.kept.longest (recovering (max until (s.now + write_slack)) s.now last)) → ServerMoves s d (λ kept phase table. R kept.longest phase)
unfolding with_row with_files with_new_file
phase-moves s d R h stored = record {
  stays = h;
  decided = λ kept phase table who line e f q. q;
  attaching = λ who later. h;
  vacating = λ who file tag current. h;
  marking = λ file host access serves. h;
  marking_waiting = λ xid r who f want e wants asking own room. h;
  granting = λ xid r who f want row term e wants asking c g. h;
  creating = λ name blocks serves can. h;
  changing = λ who f file serves current found same c. h;
  storing = λ who f file base row serves current found same can. h;
  storing_recovering = λ f file until heard last p found same. stored until heard last p;
  removing = λ who f serves current found c. h;
}

no-claim : (s : Server) (d : Datagram) → ServerMoves s d (λ kept phase table. Unit {0})
no-claim s d = phase-moves s d (λ longest phase. Unit {0}) tt (λ until heard last p. tt)

-- a datagram leaves the longest term of the boot, and the time
pub receive-keeps : (s : Server) (sender next : ℕ) (d : Datagram)
    → ((receive s sender next d).server.longest ≡ s.longest) × ((receive s sender next d).server.now ≡ s.now)
receive-keeps s sender next d =
    let held = server-hears s sender next d (Holds s sender next d (λ kept phase table. Unit {0}) (no-claim s d))
    (cases-from-moves s sender next d (λ kept phase table. Unit {0}) (no-claim s d)) in
    (held.1, held.2)

-- the changes that a tick may make
pub record TickMoves (s : Server) (now : ℕ) (Q : Kept → Phase → Table → Type 0) : Type 0 where
  -- the recovery goes on
  pub waits : (until heard : ℕ) (last : Option Table) → s.phase ≡ recovering until heard last → now < until → Q s.kept s.phase s.table
  -- the recovery ends
  pub opening : (until heard : ℕ) (last : Option Table) → s.phase ≡ recovering until heard last → until ≤ now
      → Q (record s.kept { opened = s.kept.boot; longest = s.longest }) serving s.table
  -- rows that do not let their holders write end
  pub ends_reading : s.phase ≡ serving → Q s.kept s.phase (with_rows s.table (end_reading now s.table.rows))
  -- and a writing row ends in silence, while its file is fenced
  pub ending_writing : (row : Row) → s.phase ≡ serving → find (is_due now) (end_reading now s.table.rows) ≡ Some row
      → Q (fence s.kept (find_file row.file s.kept.files)) s.phase (with_rows s.table (drop_row row.file row.who.host (end_reading now s.table.rows)))

pub tick-moves : (s : Server) (now : ℕ) (Q : Kept → Phase → Table → Type 0) → TickMoves s now Q
    → Q (tick s now).server.kept (tick s now).server.phase (tick s now).server.table
unfolding quiet at_time opens ends_writing keeping_with with_table
tick-moves s now Q moves = server-ticks s now (λ t. Q t.server.kept t.server.phase t.server.table) (record {
  waits = λ until heard last p goes_on. moves.waits until heard last p goes_on;
  opening = λ until heard last p over. moves.opening until heard last p over;
  ends_reading = λ p none. moves.ends_reading p;
  ending_writing = λ row p due. moves.ending_writing row p due;
})

-- a tick leaves the longest term of the boot, and sets the time
pub tick-keeps : (s : Server) (now : ℕ) → ((tick s now).server.longest ≡ s.longest) × ((tick s now).server.now ≡ now)
unfolding quiet at_time opens ends_writing keeping_with with_table
tick-keeps s now = server-ticks s now (λ t. (t.server.longest ≡ s.longest) × (t.server.now ≡ now)) (record {
  waits = λ until heard last p goes_on. (refl, refl);
  opening = λ until heard last p over. (refl, refl);
  ends_reading = λ p none. (refl, refl);
  ending_writing = λ row p due. (refl, refl);
})
