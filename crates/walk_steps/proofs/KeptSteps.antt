-- What each step of the server does to the numbers that it keeps.
use Rattle.std.proofs.Common.{◌≤◌, ◌<◌, ℕ, ◌+◌, refl, arith}
use Rattle.nq_model.specs.laws.ChangesOnce.{IsServerWithin, HasItsText}
use Rattle.nq_model.specs.protocol.Decide.{decides, creates, writes_through, stores, wrote, stores_recovering, resizes, removes, puts_off, commits}
use Rattle.nq_model.specs.protocol.Kept.{find_file}
use Rattle.nq_model.specs.protocol.Message.{Datagram}
use Rattle.nq_model.specs.protocol.Profile.{shortest_term, longest_term}
use Rattle.nq_model.specs.protocol.Server.{Server, ServerStep, quiet, drops, says, keeping, keeping_with, with_table, after_notices}
use Rattle.nq_model.specs.protocol.ServerStep.{attaches, vacates, tells_later, serves, leases, receive, ends_writing, opens, at_time, tick, boot, crash}
use Rattle.nq_model.specs.protocol.Stepped.{most_events}
use Rattle.nq_model.proofs.EachChange.{bounds-are-kept}
use Rattle.walk_steps.proofs.ServerCases.{server-hears, server-ticks}
use Rattle.walk_steps.specs.Within.{GrewTo, IsServerAfter}
use Rattle.walk_steps.proofs.KeptNumbers.{grew-on, grew-row, grew-changed, written-next, resized-next, grew-dropped, grew-created, grew-fenced, grew-booted}

-- what is kept is within its bounds, and grew so far
within-now : (n : ℕ) (s : Server) → IsServerAfter n s → IsServerWithin s
within-now n s a = record { kept = a.within; long = a.long; short = a.short }

after-so-many : (n : ℕ) (s : Server) → IsServerWithin s → GrewTo n s.kept → IsServerAfter n s
after-so-many n s w grew = record { within = w.kept; grew = grew; long = w.long; short = w.short }

module _ (n : ℕ) (s : Server) (sender next : ℕ) (d : Datagram) (g : GrewTo n s.kept) where
  -- the numbers grew by one event at most
  abbrev Grows : ServerStep → Type 0
  Grows t = GrewTo (n + 1) t.server.kept

  later : GrewTo (n + 1) s.kept
  later = grew-on n s.kept g

  receive-grows : Grows (receive s sender next d)
  unfolding quiet drops says attaches vacates tells_later serves leases decides creates writes_through stores wrote stores_recovering resizes
      removes puts_off commits keeping keeping_with with_table after_notices
  receive-grows = server-hears s sender next d Grows (record {
    stays = later;
    dropping = λ reason. later;
    erring = λ m e. later;
    answers_null = λ xid e. later;
    replying = λ xid who r reply e by from plain. later;
    attaching = λ xid who e from above. grew-row (n + 1) s.kept who.host _ later;
    vacating = λ xid who file tag e current. later;
    putting_off = λ xid who r f clash e by file asking c. later;
    putting_off_waiting = λ xid who r f clash want e by file wants asking c own room. later;
    putting_off_by_own = λ xid who r f want own e by file wants asking c o evicting. later;
    reading = λ xid who q block f body e asking there c. later;
    reading_full = λ xid who q block want f body e asking there c own room. later;
    reading_granted = λ xid who q block want f body row term e asking there c g. later;
    leasing_full = λ xid who want f e asking c own room. later;
    leasing = λ xid who want f row term e asking c g. later;
    declining = λ xid who seq r verdict e by sq fresh declined. grew-row (n + 1) s.kept who.host _ later;
    putting_off_change = λ xid who seq r f clash e by sq file base changing c. grew-row (n + 1) s.kept who.host _ later;
    creating = λ xid who seq blocks name e fresh serves can. grew-row (n + 1) _ who.host _ (grew-created n s.kept name blocks g);
    writing_through =
        λ xid who seq block first last body f e changing below c. grew-row (n + 1) _ who.host _
        (grew-changed n s.kept f _ changing.found (written-next f block body) g);
    storing =
        λ xid who seq block first last base body f row e changing below can. grew-row (n + 1) _ who.host _
        (grew-changed n s.kept f _ changing.found (written-next f block body) g);
    storing_recovering =
        λ xid who seq block first final base body f until heard last e fresh recovers found below boot rev. grew-row (n + 1) _ who.host _
        (grew-changed n s.kept f _ found (written-next f block body) g);
    resizing = λ xid who seq q blocks f e changing can c. grew-row (n + 1) _ who.host _ (grew-changed n s.kept f _ changing.found (resized-next f blocks) g);
    removing = λ xid who seq q f e changing c. grew-row (n + 1) _ who.host _ (grew-dropped (n + 1) s.kept f.id later);
  })

-- a datagram
pub receive-after :
    (n : ℕ) (s : Server) (sender next : ℕ) (d : Datagram) → HasItsText d → IsServerAfter n s → IsServerAfter (n + 1) (receive s sender next d).server
receive-after n s sender next d text a =
    after-so-many (n + 1) (receive s sender next d).server
    (bounds-are-kept.receives s sender next d (within-now n s a) text)
    (receive-grows n s sender next d a.grew)

-- ---- ticks

module _ (n : ℕ) (s : Server) (now : ℕ) (a : IsServerAfter n s) where
  abbrev Ticks : ServerStep → Type 0
  Ticks t = GrewTo (n + 1) t.server.kept

  opened-grew : GrewTo (n + 1) (record s.kept { opened = s.kept.boot; longest = s.longest })
  opened-grew = let g = grew-on n s.kept a.grew in record { revisions = g.revisions; boots = g.boots; ids = g.ids }

  ticks-on : Ticks (tick s now)
  unfolding quiet at_time opens ends_writing keeping_with with_table
  ticks-on = server-ticks s now Ticks (record {
    waits = λ until heard last p goes_on. grew-on n s.kept a.grew;
    opening = λ until heard last p over. opened-grew;
    ends_reading = λ p none. grew-on n s.kept a.grew;
    ending_writing = λ row p due. grew-fenced n s.kept row.file (find_file row.file s.kept.files) refl a.grew;
  })

  pub tick-after : IsServerAfter (n + 1) (tick s now).server
  tick-after = after-so-many (n + 1) (tick s now).server (bounds-are-kept.ticks s now (within-now n s a)) ticks-on

-- ---- crashes

crash-grows : (n : ℕ) (s : Server) (longest : ℕ) → GrewTo n s.kept → GrewTo (n + 1) (crash s longest).server.kept
unfolding crash boot
crash-grows n s longest g = grew-booted n s.kept longest g

pub crash-after : (n : ℕ) (s : Server) (longest : ℕ) → n < most_events → shortest_term ≤ longest → longest ≤ longest_term → IsServerAfter n s
    → IsServerAfter (n + 1) (crash s longest).server
crash-after n s longest few long short a =
    after-so-many (n + 1) (crash s longest).server
    (bounds-are-kept.crashes s longest (within-now n s a) (let b = a.grew.boots in omega arith) long short)
    (crash-grows n s longest a.grew)
