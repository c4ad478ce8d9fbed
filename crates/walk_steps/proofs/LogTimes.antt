-- What the timed entries say of times, terms, tags and recoveries.
use Rattle.std.proofs.Common.{◌≡◌, ◌≤◌, ℕ, ◌+◌, ◌==◌, Bool, true, false, List, ◌∷◌, ◌++◌, Some, if◌then◌else◌, refl, sym, subst, arith}
use Rattle.std.specs.List.{find}
use Rattle.nq_base.specs.declared.Entry.{Entry}
use Rattle.nq_model.proofs.Lists.{each-map}
use Rattle.nq_model.specs.laws.Journal.{Each}
use Rattle.nq_model.specs.protocol.Kept.{with_files, with_new_file, with_row}
use Rattle.nq_model.specs.protocol.Message.{Datagram}
use Rattle.nq_model.specs.protocol.Server.{Phase, serving, recovering, Server, last_in}
use Rattle.nq_model.specs.protocol.ServerStep.{receive, tick, booted, boot, crash}
use Rattle.walk_steps.proofs.LogMoves.{timed, LogMoves, log-moves, tick-log-moves}

-- an entry's time is not after this one
abbrev pub IsBy : ℕ → Entry → Type 0
IsBy time (Entry.G who file mode tag term now) = now ≤ time
IsBy time (Entry.S who file block first last now) = now ≤ time
IsBy time (Entry.F who file until heard now) = now ≤ time
IsBy time (Entry.O boot until heard now) = now ≤ time
IsBy time (Entry.X boot now longest) = now ≤ time
IsBy time other = Unit {0}

by-later : (time later : ℕ) → time ≤ later → (e : Entry) → IsBy time e → IsBy later e
by-later time later h (Entry.G who file mode tag term now) by = omega arith
by-later time later h (Entry.S who file block first last now) by = omega arith
by-later time later h (Entry.F who file until heard now) by = omega arith
by-later time later h (Entry.O boot until heard now) by = omega arith
by-later time later h (Entry.X boot now longest) by = omega arith
by-later time later h other by = tt

-- no time of the entries is after this one
abbrev pub LogBy : ℕ → List Entry → Type 0
LogBy time log = Each (IsBy time) log

pub log-by-later : (time later : ℕ) (log : List Entry) → time ≤ later → LogBy time log → LogBy later log
log-by-later time later log h by = each-map (IsBy time) (IsBy later) log (by-later time later h) by

by-moves : (s : Server) (d : Datagram) (log : List Entry) → LogBy s.now log → LogMoves s d log (λ kept phase table after. LogBy s.now after)
by-moves s d log by = record {
  stays = by;
  decided = λ kept phase table after who line inc same q. q;
  attaching = λ who later. by;
  vacating = λ who file tag current. by;
  marking = λ file host access serves. by;
  marking_waiting = λ xid r who f want e wants asking own room. by;
  granting = λ xid r who f want row term e wants asking c g. (omega arith, by);
  creating = λ name blocks serves can. by;
  changing = λ who f file serves current found same c. by;
  storing = λ who f file base row block first last serves current found same can. (omega arith, by);
  storing_recovering = λ who f file block first final until heard last current p found same. (omega arith, by);
  removing = λ who f serves current found c. by;
}

-- the times are not after the server's after a datagram
pub by-receive : (s : Server) (sender next : ℕ) (d : Datagram) (log : List Entry) → LogBy s.now log
    → LogBy s.now (timed (receive s sender next d).entries ++ log)
by-receive s sender next d log by = log-moves s sender next d log (λ kept phase table after. LogBy s.now after) (by-moves s d log by)

-- and after a tick
pub by-tick : (s : Server) (now : ℕ) (log : List Entry) → s.now ≤ now → LogBy s.now log → LogBy now (timed (tick s now).entries ++ log)
by-tick s now log later by = tick-log-moves s now log (λ kept phase table after. LogBy now after) (record {
  waits = λ until heard last p goes_on. log-by-later s.now now log later by;
  opening = λ until heard last p over. (omega arith, log-by-later s.now now log later by);
  ends_reading = λ p. log-by-later s.now now log later by;
  ending_writing = λ row p due. (omega arith, log-by-later s.now now log later by);
})

-- and after a crash
pub by-crash : (s : Server) (longest : ℕ) (log : List Entry) → LogBy s.now log → LogBy s.now (timed (crash s longest).entries ++ log)
unfolding crash
by-crash s longest log by = (omega arith, by)

-- a write that was stored was heard by this time
abbrev pub IsHeard : ℕ → Entry → Type 0
IsHeard heard (Entry.S who file block first last now) = now ≤ heard
IsHeard heard other = Unit {0}

-- while the server recovers, each write that was ever stored was heard by the time that it has for that
abbrev pub HeardAll : Phase → List Entry → Type 0
HeardAll serving log = Unit {0}
HeardAll (recovering until heard last) log = Each (IsHeard heard) log

by-heard : (time : ℕ) (e : Entry) → IsBy time e → IsHeard time e
by-heard time (Entry.S who file block first last now) by = by
by-heard time other by = tt

heard-by : (time : ℕ) (log : List Entry) → LogBy time log → Each (IsHeard time) log
heard-by time log by = each-map (IsBy time) (IsHeard time) log (by-heard time) by

heard-served : (phase : Phase) (log : List Entry) → phase ≡ serving → HeardAll phase log
heard-served phase log p = subst (λ p. HeardAll p log) (sym p) tt

heard-moves : (s : Server) (d : Datagram) (log : List Entry) → LogBy s.now log → HeardAll s.phase log
    → LogMoves s d log (λ kept phase table after. HeardAll phase after)
heard-moves s d log by h = record {
  stays = h;
  decided = λ kept phase table after who line inc same q. q;
  attaching = λ who later. h;
  vacating = λ who file tag current. h;
  marking = λ file host access serves. h;
  marking_waiting = λ xid r who f want e wants asking own room. h;
  granting = λ xid r who f want row term e wants asking c g. heard-served s.phase _ asking.serves;
  creating = λ name blocks serves can. h;
  changing = λ who f file serves current found same c. h;
  storing = λ who f file base row block first last serves current found same can. heard-served s.phase _ serves;
  storing_recovering = λ who f file block first final until heard last current p found same. (omega arith, heard-by s.now log by);
  removing = λ who f serves current found c. h;
}

pub heard-receive : (s : Server) (sender next : ℕ) (d : Datagram) (log : List Entry) → LogBy s.now log → HeardAll s.phase log
    → HeardAll (receive s sender next d).server.phase (timed (receive s sender next d).entries ++ log)
heard-receive s sender next d log by h = log-moves s sender next d log (λ kept phase table after. HeardAll phase after) (heard-moves s d log by h)

pub heard-tick : (s : Server) (now : ℕ) (log : List Entry) → HeardAll s.phase log → HeardAll (tick s now).server.phase (timed (tick s now).entries ++ log)
heard-tick s now log h = tick-log-moves s now log (λ kept phase table after. HeardAll phase after) (record {
  waits = λ until heard last p goes_on. h;
  opening = λ until heard last p over. tt;
  ends_reading = λ p. h;
  ending_writing = λ row p due. heard-served s.phase _ p;
})

pub heard-crash : (s : Server) (longest : ℕ) (log : List Entry) → LogBy s.now log
    → HeardAll (crash s longest).server.phase (timed (crash s longest).entries ++ log)
unfolding crash boot
heard-crash s longest log by = in-phase (s.kept.opened == 0)
  where
    in-phase : (b : Bool) → HeardAll (if b then serving else recovering (s.now + s.kept.longest + 8) s.now (last_in s.phase s.table))
        (Entry.X (s.kept.boot + 1) s.now (booted s.kept longest).longest ∷ log)
    in-phase true = tt
    in-phase false = (tt, heard-by s.now log by)

-- whether an entry tells a boot
abbrev pub is_boot : Entry → Bool
is_boot (Entry.X boot now longest) = true
is_boot other = false

-- while the server recovers, the last boot of the entries is its own, at this time, with the term that it waits for
abbrev pub ToldBoot : (booted boot longest : ℕ) → Phase → List Entry → Type 0
ToldBoot booted boot longest serving log = Unit {0}
ToldBoot booted boot longest (recovering until heard last) log = find is_boot log ≡ Some (Entry.X boot booted longest)

told-served : (booted boot longest : ℕ) (phase : Phase) (log : List Entry) → phase ≡ serving → ToldBoot booted boot longest phase log
told-served booted boot longest phase log p = subst (λ p. ToldBoot booted boot longest p log) (sym p) tt

told-moves : (booted : ℕ) (s : Server) (d : Datagram) (log : List Entry) → ToldBoot booted s.kept.boot s.kept.longest s.phase log
    → LogMoves s d log (λ kept phase table after. ToldBoot booted kept.boot kept.longest phase after)
unfolding with_row with_files with_new_file
told-moves booted s d log told = record {
  stays = told;
  decided = λ kept phase table after who line inc same q. q;
  attaching = λ who later. told;
  vacating = λ who file tag current. told;
  marking = λ file host access serves. told;
  marking_waiting = λ xid r who f want e wants asking own room. told;
  granting = λ xid r who f want row term e wants asking c g. told-served booted _ _ s.phase _ asking.serves;
  creating = λ name blocks serves can. told;
  changing = λ who f file serves current found same c. told;
  storing = λ who f file base row block first last serves current found same can. told-served booted _ _ s.phase _ serves;
  storing_recovering =
      λ who f file block first final until heard last current p found same. subst (λ p. ToldBoot booted s.kept.boot s.kept.longest p log) p told;
  removing = λ who f serves current found c. told;
}

pub told-receive : (booted : ℕ) (s : Server) (sender next : ℕ) (d : Datagram) (log : List Entry)
    → ToldBoot booted s.kept.boot s.kept.longest s.phase log
    → ToldBoot booted (receive s sender next d).server.kept.boot (receive s sender next d).server.kept.longest (receive s sender next d).server.phase
    (timed (receive s sender next d).entries ++ log)
told-receive booted s sender next d log told =
    log-moves s sender next d log (λ kept phase table after. ToldBoot booted kept.boot kept.longest phase after) (told-moves booted s d log told)

pub told-tick : (booted : ℕ) (s : Server) (now : ℕ) (log : List Entry) → ToldBoot booted s.kept.boot s.kept.longest s.phase log
    → ToldBoot booted (tick s now).server.kept.boot (tick s now).server.kept.longest (tick s now).server.phase (timed (tick s now).entries ++ log)
told-tick booted s now log told = tick-log-moves s now log (λ kept phase table after. ToldBoot booted kept.boot kept.longest phase after) (record {
  waits = λ until heard last p goes_on. told;
  opening = λ until heard last p over. tt;
  ends_reading = λ p. told;
  ending_writing = λ row p due. told-served booted _ _ s.phase _ p;
})

pub told-crash : (s : Server) (longest : ℕ) (log : List Entry)
    → ToldBoot s.now (crash s longest).server.kept.boot (crash s longest).server.kept.longest (crash s longest).server.phase
    (timed (crash s longest).entries ++ log)
unfolding crash boot
told-crash s longest log = in-phase (s.kept.opened == 0)
  where
    in-phase : (b : Bool) → ToldBoot s.now
        (if b then record s.kept { boot = s.kept.boot + 1; opened = s.kept.boot + 1; longest = longest } else record s.kept
        { boot = s.kept.boot + 1 }).boot
        (if b then record s.kept { boot = s.kept.boot + 1; opened = s.kept.boot + 1; longest = longest } else record s.kept
        { boot = s.kept.boot + 1 }).longest (if b then serving else recovering (s.now + s.kept.longest + 8) s.now (last_in s.phase s.table))
        (Entry.X (s.kept.boot + 1) s.now
        (if b then record s.kept { boot = s.kept.boot + 1; opened = s.kept.boot + 1; longest = longest } else record s.kept
        { boot = s.kept.boot + 1 }).longest ∷ log)
    in-phase true = tt
    in-phase false = refl
