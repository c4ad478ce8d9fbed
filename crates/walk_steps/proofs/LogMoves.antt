-- What a step of the server does to its state and to the entries that tell a time: grants, stored writes, silent ends, and
-- the ends and the beginnings of recoveries.
use Rattle.std.proofs.Common.{◌≡◌, ◌<◌, ◌≤◌, ℕ, ◌+◌, Bool, true, false, List, ◌∷◌, ◌++◌, Some, None, max, refl, Option}
use Rattle.std.specs.List.{find, filter}
use Rattle.nq_base.specs.declared.Access.{Access}
use Rattle.nq_base.specs.declared.Entry.{Entry}
use Rattle.nq_base.specs.declared.HostRow.{HostRow}
use Rattle.nq_base.specs.declared.PushBase.{PushBase}
use Rattle.nq_base.specs.declared.Request.{Request}
use Rattle.nq_base.specs.declared.Row.{Row}
use Rattle.nq_base.specs.declared.Tag.{Tag}
use Rattle.nq_base.specs.declared.Want.{Want}
use Rattle.nq_base.specs.declared.Who.{Who}
use Rattle.nq_model.specs.protocol.Ask.{grant_of, marked}
use Rattle.nq_model.specs.protocol.Decide.{decides, creates, writes_through, stores, wrote, stores_recovering, resizes, removes, puts_off, commits}
use Rattle.nq_model.specs.protocol.Kept.{File, Kept, find_file, replace_file, drop_file, written_file, resized_file, with_files, with_new_file, with_row}
use Rattle.nq_model.specs.protocol.Kept.{host_row}
use Rattle.nq_model.specs.protocol.Message.{Datagram, request}
use Rattle.nq_model.specs.protocol.Profile.{write_slack}
use Rattle.nq_model.specs.protocol.Server.{Phase, serving, recovering, Server, ServerStep, quiet, drops, says, after_notices, keeping, keeping_with, with_table}
use Rattle.nq_model.specs.protocol.ServerStep.{attaches, vacates, vacated_rows, tells_later, serves, leases, to_read, receive, is_due, end_reading, fence}
use Rattle.nq_model.specs.protocol.ServerStep.{ends_writing, opens, at_time, tick}
use Rattle.nq_model.specs.protocol.Table.{Table, find_row, drop_row, put_row, drop_host, drop_rows_of, with_rows, after_draw}
use Rattle.walk_steps.proofs.AskCases.{clash_in, own_in, has_room, with_marked, with_waiter, IsGranted}
use Rattle.walk_steps.proofs.ServerCases.{server-hears, server-ticks}
use Rattle.walk_steps.proofs.ServerMoves.{first_line, IsKeptInc}
use Rattle.walk_steps.proofs.ServerOutcomes.{line_of, wanted_by, IsCurrent, IsAsking, CanCreate, CanStore, clash_with, ServerCases}

-- whether an entry is one of the server's that tell a time
abbrev pub is_timed : Entry → Bool
is_timed (Entry.G who file mode tag term now) = true
is_timed (Entry.S who file block first last now) = true
is_timed (Entry.F who file until heard now) = true
is_timed (Entry.O boot until heard now) = true
is_timed (Entry.X boot now longest) = true
is_timed other = false

-- those of a journal
abbrev pub timed : List Entry → List Entry
timed entries = filter is_timed entries

-- the changes that a datagram may make, with the timed entries after it, where these were there before
pub record LogMoves (s : Server) (d : Datagram) (log : List Entry) (Q : Kept → Phase → Table → List Entry → Type 0) : Type 0 where
  -- nothing changes
  pub stays : Q s.kept s.phase s.table log
  -- besides, a request was decided: the line of its host has the same incarnation
  pub decided : (kept : Kept) (phase : Phase) (table : Table) (after : List Entry) (who : Who) (line : HostRow) → who.inc ≡ (host_row kept who.host).inc
      → line.inc ≡ who.inc → Q kept phase table after → Q (with_row kept who.host line) phase table after
  -- a later incarnation begins
  pub attaching : (who : Who) → (line_of s who).inc < who.inc
      → Q (with_row s.kept who.host (first_line who)) s.phase (with_rows s.table (drop_host who.host s.table.rows)) log
  -- a lease was given up
  pub vacating : (who : Who) (file : ℕ) (tag : Tag) → IsKeptInc s who
      → Q s.kept s.phase (with_rows s.table (vacated_rows who file tag s.table.rows (find_row file who.host s.table.rows))) log
  -- rows of others are marked
  pub marking : (file host : ℕ) (access : Access) → s.phase ≡ serving → Q s.kept s.phase (with_rows s.table (marked file host access s.table.rows)) log
  -- and the asker gets a row that waits
  pub marking_waiting : (xid : ℕ) (r : Request) (who : Who) (f : File) (want : Want) → d ≡ request xid r → wanted_by r ≡ Some want
      → IsAsking s who.host who f → own_in s.table (to_read s who f (Some want)) ≡ None
      → has_room (with_marked s.table (to_read s who f (Some want))) ≡ true → Q s.kept s.phase (with_waiter s.table (to_read s who f (Some want)) want) log
  -- a row is granted
  pub granting : (xid : ℕ) (r : Request) (who : Who) (f : File) (want : Want) (row : Row) (term : ℕ) → d ≡ request xid r → wanted_by r ≡ Some want
      → IsAsking s who.host who f → clash_in s.table (to_read s who f (Some want)) ≡ None
      → IsGranted s.table (to_read s who f (Some want)) want row term
      → Q s.kept s.phase (after_draw s.table (put_row row s.table.rows)) (Entry.G who f.id row.mode row.tag term s.now ∷ log)
  -- a file is made
  pub creating : (name : List ℕ) (blocks : ℕ) → s.phase ≡ serving → CanCreate s name blocks → Q (with_new_file s.kept name blocks) s.phase s.table log
  -- a file is changed, where no row of another host stands in the way
  pub changing : (who : Who) (f file : File) → s.phase ≡ serving → IsKeptInc s who → find_file f.id s.kept.files ≡ Some f → file.id ≡ f.id
      → clash_with s f.id who.host ≡ None → Q (with_files s.kept (replace_file file s.kept.files)) s.phase s.table log
  -- delayed writes are stored, while their row goes on
  pub storing : (who : Who) (f file : File) (base : PushBase) (row : Row) (block first last : ℕ) → s.phase ≡ serving → IsKeptInc s who
      → find_file f.id s.kept.files ≡ Some f → file.id ≡ f.id → CanStore s who f base row
      → Q (with_files s.kept (replace_file file s.kept.files)) s.phase (with_rows s.table (put_row (record row { heard = s.now }) s.table.rows))
      (Entry.S who f.id block first last s.now ∷ log)
  -- delayed writes are stored while the server recovers
  pub storing_recovering : (who : Who) (f file : File) (block first final until heard : ℕ) (last : Option Table) → IsKeptInc s who
      → s.phase ≡ recovering until heard last → find_file f.id s.kept.files ≡ Some f → file.id ≡ f.id
      → Q (with_files s.kept (replace_file file s.kept.files)) (recovering (max until (s.now + write_slack)) s.now last) s.table
      (Entry.S who f.id block first final s.now ∷ log)
  -- a file is taken away
  pub removing : (who : Who) (f : File) → s.phase ≡ serving → IsKeptInc s who → find_file f.id s.kept.files ≡ Some f → clash_with s f.id who.host ≡ None
      → Q (with_files s.kept (drop_file f.id s.kept.files)) s.phase (with_rows s.table (drop_rows_of f.id s.table.rows)) log

module _ (s : Server) (sender next : ℕ) (d : Datagram) (log : List Entry) (Q : Kept → Phase → Table → List Entry → Type 0) (moves : LogMoves s d log Q) where
  -- what holds of the state and the timed entries after a step
  abbrev Holds : ServerStep → Type 0
  Holds t = Q t.server.kept t.server.phase t.server.table (timed t.entries ++ log)

  same-host : (who : Who) → IsCurrent s sender who → IsKeptInc s who
  same-host who current = record { from = record { host = refl; possible = current.from.possible }; inc = current.inc }

  same-asker : (who : Who) (f : File) → IsAsking s sender who f → IsAsking s who.host who f
  same-asker who f asking = record { current = same-host who asking.current; serves = asking.serves; found = asking.found }

  cases-from-moves : ServerCases s sender next d Holds
  unfolding quiet drops says attaches vacates tells_later serves leases decides creates writes_through stores wrote stores_recovering resizes
      removes puts_off commits keeping keeping_with with_table after_notices with_files with_new_file written_file resized_file grant_of
  cases-from-moves = record {
    stays = moves.stays;
    dropping = λ reason. moves.stays;
    erring = λ m e. moves.stays;
    answers_null = λ xid e. moves.stays;
    replying = λ xid who r reply e by from plain. moves.stays;
    attaching = λ xid who e from later. moves.attaching who later;
    vacating = λ xid who file tag e current. moves.vacating who file tag (same-host who current);
    putting_off = λ xid who r f clash e by file asking c. moves.marking f.id who.host _ asking.serves;
    putting_off_waiting =
        λ xid who r f clash want e by file wants asking c own room. moves.marking_waiting xid r who f want e wants (same-asker who f asking) own room;
    putting_off_by_own = λ xid who r f want own e by file wants asking c o evicting. moves.stays;
    reading = λ xid who q block f body e asking there c. moves.stays;
    reading_full = λ xid who q block want f body e asking there c own room. moves.stays;
    reading_granted = λ xid who q block want f body row term e asking there c g. moves.granting xid _ who f want row term e refl (same-asker who f asking) c g;
    leasing_full = λ xid who want f e asking c own room. moves.stays;
    leasing = λ xid who want f row term e asking c g. moves.granting xid _ who f want row term e refl (same-asker who f asking) c g;
    declining = λ xid who seq r verdict e by sq fresh declined. moves.decided s.kept s.phase s.table log who _ fresh.current.inc refl moves.stays;
    putting_off_change =
        λ xid who seq r f clash e by sq file base changing c. moves.decided s.kept s.phase _ log who _ changing.fresh.current.inc refl
        (moves.marking f.id who.host Access.Write changing.serves);
    creating =
        λ xid who seq blocks name e fresh serves can. moves.decided _ s.phase s.table log who _ fresh.current.inc refl
        (moves.creating name blocks serves can);
    writing_through =
        λ xid who seq block first last body f e changing below c. moves.decided _ s.phase s.table log who _ changing.fresh.current.inc refl
        (moves.changing who f (written_file f block body) changing.serves (same-host who changing.fresh.current) changing.found refl c);
    storing =
        λ xid who seq block first last base body f row e changing below can. moves.decided _ s.phase _ _ who _ changing.fresh.current.inc refl
        (moves.storing who f (written_file f block body) base row block first last changing.serves (same-host who changing.fresh.current) changing.found
        refl can);
    storing_recovering =
        λ xid who seq block first final base body f until heard last e fresh recovers found below boot rev. moves.decided _ _ s.table _ who _
        fresh.current.inc refl (moves.storing_recovering who f (written_file f block body) block first final until heard last
        (same-host who fresh.current) recovers found refl);
    resizing =
        λ xid who seq q blocks f e changing can c. moves.decided _ s.phase s.table log who _ changing.fresh.current.inc refl
        (moves.changing who f (resized_file f blocks) changing.serves (same-host who changing.fresh.current) changing.found refl c);
    removing =
        λ xid who seq q f e changing c. moves.decided _ s.phase _ log who _ changing.fresh.current.inc refl
        (moves.removing who f changing.serves (same-host who changing.fresh.current) changing.found c);
  }

-- what a datagram does to the state and the timed entries
pub log-moves : (s : Server) (sender next : ℕ) (d : Datagram) (log : List Entry) (Q : Kept → Phase → Table → List Entry → Type 0) → LogMoves s d log Q
    → Q (receive s sender next d).server.kept (receive s sender next d).server.phase (receive s sender next d).server.table
    (timed (receive s sender next d).entries ++ log)
log-moves s sender next d log Q moves =
    server-hears s sender next d (λ t. Q t.server.kept t.server.phase t.server.table (timed t.entries ++ log))
    (cases-from-moves s sender next d log Q moves)

-- the changes that a tick may make
pub record TickLogMoves (s : Server) (now : ℕ) (log : List Entry) (Q : Kept → Phase → Table → List Entry → Type 0) : Type 0 where
  -- the recovery goes on
  pub waits : (until heard : ℕ) (last : Option Table) → s.phase ≡ recovering until heard last → now < until → Q s.kept s.phase s.table log
  -- the recovery ends
  pub opening : (until heard : ℕ) (last : Option Table) → s.phase ≡ recovering until heard last → until ≤ now
      → Q (record s.kept { opened = s.kept.boot; longest = s.longest }) serving s.table (Entry.O s.kept.boot until heard now ∷ log)
  -- rows that do not let their holders write end
  pub ends_reading : s.phase ≡ serving → Q s.kept s.phase (with_rows s.table (end_reading now s.table.rows)) log
  -- and a writing row ends in silence, while its file is fenced
  pub ending_writing : (row : Row) → s.phase ≡ serving → find (is_due now) (end_reading now s.table.rows) ≡ Some row
      → Q (fence s.kept (find_file row.file s.kept.files)) s.phase (with_rows s.table (drop_row row.file row.who.host (end_reading now s.table.rows)))
      (Entry.F row.who row.file row.until row.heard now ∷ log)

pub tick-log-moves : (s : Server) (now : ℕ) (log : List Entry) (Q : Kept → Phase → Table → List Entry → Type 0) → TickLogMoves s now log Q
    → Q (tick s now).server.kept (tick s now).server.phase (tick s now).server.table (timed (tick s now).entries ++ log)
unfolding quiet at_time opens ends_writing keeping_with with_table
tick-log-moves s now log Q moves = server-ticks s now (λ t. Q t.server.kept t.server.phase t.server.table (timed t.entries ++ log)) (record {
  waits = λ until heard last p goes_on. moves.waits until heard last p goes_on;
  opening = λ until heard last p over. moves.opening until heard last p over;
  ends_reading = λ p none. moves.ends_reading p;
  ending_writing = λ row p due. moves.ending_writing row p due;
})
