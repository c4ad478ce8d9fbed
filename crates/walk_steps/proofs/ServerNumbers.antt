-- Numbers that each step of a server keeps in bounds: terms, file ids, the lines of hosts, and the end of a recovery.
use Rattle.std.proofs.Common.{◌≡◌, ◌≢◌, ◌<◌, ◌≤◌, ◌⊎◌, ℕ, ◌+◌, ◌==◌, Bool, true, false, List, [], ◌∷◌, ◌++◌, Option, Some, None, if◌then◌else◌, max}
use Rattle.std.proofs.Common.{length, refl, sym, subst, ap, ◌∙◌, arith, inl, inr}
use Rattle.std.proofs.lemmas.Bool.{cases_eq}
use Rattle.nq_base.specs.declared.HostRow.{HostRow}
use Rattle.nq_model.specs.protocol.Kept.{File, Kept, find_file, replace_file, drop_file, new_file, fenced_file, with_files, with_new_file, with_row}
use Rattle.nq_model.specs.protocol.Message.{Datagram}
use Rattle.nq_model.specs.protocol.Profile.{skew, write_slack, shortest_term, most_hosts}
use Rattle.nq_model.specs.protocol.Server.{Phase, serving, recovering, Server, last_in}
use Rattle.nq_model.specs.protocol.ServerStep.{receive, fence, tick, booted, boot, crash}
use Rattle.nq_model.specs.protocol.Table.{Table}
use Rattle.walk_steps.proofs.KeptChanges.{length-with-row, found-replaced, find-not-removed, find-removed, found-added}
use Rattle.walk_steps.proofs.DecideCases.{found-file}
use Rattle.walk_steps.proofs.ServerMoves.{phase-moves, ServerMoves, server-moves, receive-keeps, tick-moves, tick-keeps}

-- the longest terms, of this boot and of the one that served last, are at least the shortest and at most this; while the
-- server serves they are one
pub record TermsFit (most : ℕ) (phase : Phase) (kept_longest longest : ℕ) : Type 0 where
  pub long : shortest_term ≤ longest
  pub few : longest ≤ most
  pub kept_long : shortest_term ≤ kept_longest
  pub kept_few : kept_longest ≤ most
  pub same : phase ≡ serving → kept_longest ≡ longest

abbrev pub TermsFitOf : (most : ℕ) → Server → Type 0
TermsFitOf most s = TermsFit most s.phase s.kept.longest s.longest

terms-recovering : (most : ℕ) (phase : Phase) (kept_longest longest until heard : ℕ) (last : Option Table) → TermsFit most phase kept_longest longest
    → TermsFit most (recovering until heard last) kept_longest longest
terms-recovering most phase kept_longest longest until heard last f =
    record { long = f.long; few = f.few; kept_long = f.kept_long; kept_few = f.kept_few; same = λ e. absurd (cc) }

terms-moves : (most : ℕ) (s : Server) (d : Datagram) → TermsFitOf most s → ServerMoves s d (λ kept phase table. TermsFit most phase kept.longest s.longest)
terms-moves most s d f =
    phase-moves s d (λ longest phase. TermsFit most phase longest s.longest) f
    (λ until heard last p. terms-recovering most s.phase s.kept.longest s.longest (max until (s.now + write_slack)) s.now last f)

pub terms-receive : (most : ℕ) (s : Server) (sender next : ℕ) (d : Datagram) → TermsFitOf most s → TermsFitOf most (receive s sender next d).server
terms-receive most s sender next d f =
    subst (λ longest. TermsFit most (receive s sender next d).server.phase (receive s sender next d).server.kept.longest longest)
    (sym (receive-keeps s sender next d).0)
    (server-moves s sender next d (λ kept phase table. TermsFit most phase kept.longest s.longest) (terms-moves most s d f))

pub fence-longest : (kept : Kept) (o : Option File) → (fence kept o).longest ≡ kept.longest
unfolding with_files
fence-longest kept None = refl
fence-longest kept (Some f) = refl

pub terms-tick : (most : ℕ) (s : Server) (now : ℕ) → TermsFitOf most s → TermsFitOf most (tick s now).server
terms-tick most s now f =
    subst (λ longest. TermsFit most (tick s now).server.phase (tick s now).server.kept.longest longest) (sym (tick-keeps s now).0)
    (tick-moves s now (λ kept phase table. TermsFit most phase kept.longest s.longest) (record {
      waits = λ until heard last p goes_on. f;
      opening = λ until heard last p over. record { long = f.long; few = f.few; kept_long = f.long; kept_few = f.few; same = λ e. refl };
      ends_reading = λ p. f;
      ending_writing = λ row p due. subst (λ longest. TermsFit most s.phase longest s.longest)
          (sym (fence-longest s.kept (find_file row.file s.kept.files))) f;
    }))

-- the terms fit after a boot with a fitting term
pub terms-boot : (most : ℕ) (kept : Kept) (longest now : ℕ) (last : Option Table) → shortest_term ≤ longest → longest ≤ most
    → shortest_term ≤ kept.longest → kept.longest ≤ most → TermsFitOf most (boot kept longest now last)
unfolding boot
terms-boot most kept longest now last long few kept_long kept_few = by (kept.opened == 0)
  where
    by : (b : Bool) → TermsFit most (if b then serving else recovering (now + kept.longest + 8) now last)
        (if b then record kept { boot = kept.boot + 1; opened = kept.boot + 1; longest = longest } else record kept { boot = kept.boot + 1 }).longest
        longest
    by true = record { long = long; few = few; kept_long = long; kept_few = few; same = λ e. refl }
    by false = record { long = long; few = few; kept_long = kept_long; kept_few = kept_few; same = λ e. absurd (cc) }

pub terms-crash : (most : ℕ) (s : Server) (longest : ℕ) → shortest_term ≤ longest → longest ≤ most → TermsFitOf most s
    → TermsFitOf most (crash s longest).server
unfolding crash
terms-crash most s longest long few f = terms-boot most s.kept longest s.now (last_in s.phase s.table) long few f.kept_long f.kept_few

-- the ids of kept files are below the next one
abbrev pub IdsFit : List File → (next : ℕ) → Type 0
IdsFit files next = (id : ℕ) (f : File) → find_file id files ≡ Some f → id < next

abbrev pub IdsFitOf : Server → Type 0
IdsFitOf s = IdsFit s.kept.files s.kept.next

ids-replaced : (files : List File) (next : ℕ) (file f : File) → find_file f.id files ≡ Some f → file.id ≡ f.id → IdsFit files next
    → IdsFit (replace_file file files) next
ids-replaced files next file f there same ids = λ id g found. by id g (found-replaced id file g files found)
  where
    by : (id : ℕ) (g : File) → ((id ≡ file.id) × (g ≡ file)) ⊎ ((id ≢ file.id) × (find_file id files ≡ Some g)) → id < next
    by id g (inl e) = let below : f.id < next = ids f.id f there in omega (arith, e.0, same)
    by id g (inr e) = ids id g e.1

ids-added : (files : List File) (next : ℕ) (file : File) → file.id ≡ next → IdsFit files next → IdsFit (files ++ file ∷ []) (next + 1)
ids-added files next file same ids = λ id g found. by id g (found-added id file g files found)
  where
    by : (id : ℕ) (g : File) → (find_file id files ≡ Some g) ⊎ ((id ≡ file.id) × (g ≡ file)) → id < next + 1
    by id g (inl e) = let below : id < next = ids id g e in omega arith
    by id g (inr e) = omega (arith, e.0, same)

ids-removed : (files : List File) (next removed : ℕ) → IdsFit files next → IdsFit (drop_file removed files) next
ids-removed files next removed ids = λ id g found. by id g (cases_eq id removed) found
  where
    by : (id : ℕ) (g : File) → (id ≡ removed) ⊎ (id ≡ removed → ⊥) → find_file id (drop_file removed files) ≡ Some g → id < next
    by id g (inl e) found =
        let none : find_file id (drop_file removed files) ≡ None = subst (λ i. find_file i (drop_file removed files) ≡ None) (sym e)
        (find-removed removed files) in absurd (cc)
    by id g (inr e) found = ids id g (sym (find-not-removed removed id files e) ∙ found)

ids-moves : (s : Server) (d : Datagram) → IdsFitOf s → ServerMoves s d (λ kept phase table. IdsFit kept.files kept.next)
unfolding with_row with_files with_new_file new_file
ids-moves s d f = record {
  stays = f;
  decided = λ kept phase table who line inc same q. q;
  attaching = λ who later. f;
  vacating = λ who file tag current. f;
  marking = λ file host access serves. f;
  marking_waiting = λ xid r who g want e wants asking own room. f;
  granting = λ xid r who g want row term e wants asking c h. f;
  creating = λ name blocks serves can. ids-added s.kept.files s.kept.next (new_file s.kept.next name blocks) refl f;
  changing = λ who g file serves current found same c. ids-replaced s.kept.files s.kept.next file g found same f;
  storing = λ who g file base row serves current found same can. ids-replaced s.kept.files s.kept.next file g found same f;
  storing_recovering = λ g file until heard last p found same. ids-replaced s.kept.files s.kept.next file g found same f;
  removing = λ who g serves current found c. ids-removed s.kept.files s.kept.next g.id f;
}

pub ids-receive : (s : Server) (sender next : ℕ) (d : Datagram) → IdsFitOf s → IdsFitOf (receive s sender next d).server
ids-receive s sender next d f = server-moves s sender next d (λ kept phase table. IdsFit kept.files kept.next) (ids-moves s d f)

ids-fenced : (kept : Kept) (file : ℕ) (o : Option File) → find_file file kept.files ≡ o → IdsFit kept.files kept.next
    → IdsFit (fence kept o).files (fence kept o).next
unfolding with_files fenced_file
ids-fenced kept file None there f = f
ids-fenced kept file (Some g) there f =
    ids-replaced kept.files kept.next (fenced_file g) g (ap (λ i. find_file i kept.files) (found-file file kept.files g there) ∙ there) refl f

pub ids-tick : (s : Server) (now : ℕ) → IdsFitOf s → IdsFitOf (tick s now).server
ids-tick s now f = tick-moves s now (λ kept phase table. IdsFit kept.files kept.next) (record {
  waits = λ until heard last p goes_on. f;
  opening = λ until heard last p over. f;
  ends_reading = λ p. f;
  ending_writing = λ row p due. ids-fenced s.kept row.file (find_file row.file s.kept.files) refl f;
})

pub ids-boot : (kept : Kept) (longest now : ℕ) (last : Option Table) → IdsFit kept.files kept.next → IdsFitOf (boot kept longest now last)
unfolding boot
ids-boot kept longest now last f = by (kept.opened == 0)
  where
    by : (b : Bool)
        → IdsFit (if b then record kept { boot = kept.boot + 1; opened = kept.boot + 1; longest = longest } else record kept
        { boot = kept.boot + 1 }).files
        (if b then record kept { boot = kept.boot + 1; opened = kept.boot + 1; longest = longest } else record kept { boot = kept.boot + 1 }).next
    by true = f
    by false = f

pub ids-crash : (s : Server) (longest : ℕ) → IdsFitOf s → IdsFitOf (crash s longest).server
unfolding crash
ids-crash s longest f = ids-boot s.kept longest s.now (last_in s.phase s.table) f

-- the server keeps a line for each of the hosts that there can be
abbrev pub LinesFit : List HostRow → Type 0
LinesFit hosts = length hosts ≡ most_hosts

abbrev pub LinesFitOf : Server → Type 0
LinesFitOf s = LinesFit s.kept.hosts

lines-moves : (s : Server) (d : Datagram) → LinesFitOf s → ServerMoves s d (λ kept phase table. LinesFit kept.hosts)
unfolding with_files with_new_file
lines-moves s d f = record {
  stays = f;
  decided = λ kept phase table who line inc same q. length-with-row kept who.host line ∙ q;
  attaching = λ who later. length-with-row s.kept who.host _ ∙ f;
  vacating = λ who file tag current. f;
  marking = λ file host access serves. f;
  marking_waiting = λ xid r who g want e wants asking own room. f;
  granting = λ xid r who g want row term e wants asking c h. f;
  creating = λ name blocks serves can. f;
  changing = λ who g file serves current found same c. f;
  storing = λ who g file base row serves current found same can. f;
  storing_recovering = λ g file until heard last p found same. f;
  removing = λ who g serves current found c. f;
}

pub lines-receive : (s : Server) (sender next : ℕ) (d : Datagram) → LinesFitOf s → LinesFitOf (receive s sender next d).server
lines-receive s sender next d f = server-moves s sender next d (λ kept phase table. LinesFit kept.hosts) (lines-moves s d f)

fence-hosts : (kept : Kept) (o : Option File) → (fence kept o).hosts ≡ kept.hosts
unfolding with_files
fence-hosts kept None = refl
fence-hosts kept (Some f) = refl

pub lines-tick : (s : Server) (now : ℕ) → LinesFitOf s → LinesFitOf (tick s now).server
lines-tick s now f = tick-moves s now (λ kept phase table. LinesFit kept.hosts) (record {
  waits = λ until heard last p goes_on. f;
  opening = λ until heard last p over. f;
  ends_reading = λ p. f;
  ending_writing = λ row p due. ap length (fence-hosts s.kept (find_file row.file s.kept.files)) ∙ f;
})

pub lines-boot : (kept : Kept) (longest now : ℕ) (last : Option Table) → LinesFit kept.hosts → LinesFitOf (boot kept longest now last)
unfolding boot
lines-boot kept longest now last f = by (kept.opened == 0)
  where
    by : (b : Bool)
        → LinesFit (if b then record kept { boot = kept.boot + 1; opened = kept.boot + 1; longest = longest } else record kept
        { boot = kept.boot + 1 }).hosts
    by true = f
    by false = f

pub lines-crash : (s : Server) (longest : ℕ) → LinesFitOf s → LinesFitOf (crash s longest).server
unfolding crash
lines-crash s longest f = lines-boot s.kept longest s.now (last_in s.phase s.table) f

-- a recovery that began when the server booted at this time waits for the longest term of the boot that served last, the
-- skew and the write slack, and for the write slack after it last heard a write
pub record Waits (booted now longest until heard : ℕ) : Type 0 where
  pub after_leases : booted + longest + (skew + write_slack) ≤ until
  pub after_writes : heard + write_slack ≤ until
  pub heard_since : booted ≤ heard
  pub heard_by_now : heard ≤ now

abbrev pub PhaseWaits : (booted now longest : ℕ) → Phase → Type 0
PhaseWaits booted now longest serving = Unit {0}
PhaseWaits booted now longest (recovering until heard last) = Waits booted now longest until heard

abbrev pub PhaseWaitsOf : (booted : ℕ) → Server → Type 0
PhaseWaitsOf booted s = PhaseWaits booted s.now s.kept.longest s.phase

waits-more : (booted now longest until heard : ℕ) → Waits booted now longest until heard → Waits booted now longest (max until (now + write_slack)) now
waits-more booted now longest until heard w =
    record {
      after_leases = omega (arith, w.after_leases);
      after_writes = omega arith;
      heard_since = omega (arith, w.heard_since, w.heard_by_now);
      heard_by_now = omega arith;
    }

waits-moves : (booted : ℕ) (s : Server) (d : Datagram) → PhaseWaitsOf booted s
    → ServerMoves s d (λ kept phase table. PhaseWaits booted s.now kept.longest phase)
waits-moves booted s d f =
    phase-moves s d (λ longest phase. PhaseWaits booted s.now longest phase) f
    (λ until heard last p. waits-more booted s.now s.kept.longest until heard (subst (PhaseWaits booted s.now s.kept.longest) p f))

pub waits-receive : (booted : ℕ) (s : Server) (sender next : ℕ) (d : Datagram) → PhaseWaitsOf booted s → PhaseWaitsOf booted (receive s sender next d).server
waits-receive booted s sender next d f =
    subst (λ now. PhaseWaits booted now (receive s sender next d).server.kept.longest (receive s sender next d).server.phase)
    (sym (receive-keeps s sender next d).1)
    (server-moves s sender next d (λ kept phase table. PhaseWaits booted s.now kept.longest phase) (waits-moves booted s d f))

waits-later : (booted now later longest : ℕ) (phase : Phase) → now ≤ later → PhaseWaits booted now longest phase → PhaseWaits booted later longest phase
waits-later booted now later longest serving h f = f
waits-later booted now later longest (recovering until heard last) h f =
    record { after_leases = f.after_leases; after_writes = f.after_writes; heard_since = f.heard_since; heard_by_now = omega (arith, f.heard_by_now) }

waits-served : (booted now longest : ℕ) (phase : Phase) → phase ≡ serving → PhaseWaits booted now longest phase
waits-served booted now longest phase p = subst (PhaseWaits booted now longest) (sym p) tt

pub waits-tick : (booted : ℕ) (s : Server) (now : ℕ) → s.now ≤ now → PhaseWaitsOf booted s → PhaseWaitsOf booted (tick s now).server
waits-tick booted s now later f =
    subst (λ time. PhaseWaits booted time (tick s now).server.kept.longest (tick s now).server.phase) (sym (tick-keeps s now).1)
    (tick-moves s now (λ kept phase table. PhaseWaits booted now kept.longest phase) (record {
      waits = λ until heard last p goes_on. waits-later booted s.now now s.kept.longest s.phase later f;
      opening = λ until heard last p over. tt;
      ends_reading = λ p. waits-served booted now s.kept.longest s.phase p;
      ending_writing = λ row p due. waits-served booted now _ s.phase p;
    }))

-- a boot begins its wait
pub waits-boot : (kept : Kept) (longest now : ℕ) (last : Option Table) → PhaseWaitsOf now (boot kept longest now last)
unfolding boot
waits-boot kept longest now last = by (kept.opened == 0)
  where
    by : (b : Bool) → PhaseWaits now now
        (if b then record kept { boot = kept.boot + 1; opened = kept.boot + 1; longest = longest } else record kept { boot = kept.boot + 1 }).longest
        (if b then serving else recovering (now + kept.longest + 8) now last)
    by true = tt
    by false = record { after_leases = omega arith; after_writes = omega arith; heard_since = omega arith; heard_by_now = omega arith }

pub waits-crash : (s : Server) (longest : ℕ) → PhaseWaitsOf s.now (crash s longest).server
unfolding crash
waits-crash s longest = waits-boot s.kept longest s.now (last_in s.phase s.table)
