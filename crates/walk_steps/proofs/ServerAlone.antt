-- The laws of a server alone, by induction over all that comes to it.
use Rattle.std.proofs.Common.{◌≡◌, ◌≤◌, ℕ, ◌+◌, Bool, true, false, List, [], ◌∷◌, ◌++◌, Some, None, if◌then◌else◌, length, refl, sym, subst, arith, Option}
use Rattle.std.specs.List.{find, filter}
use Rattle.nq_base.specs.declared.Entry.{Entry}
use Rattle.nq_base.specs.declared.Row.{Row}
use Rattle.nq_model.specs.protocol.Kept.{Kept}
use Rattle.nq_model.specs.protocol.Message.{Datagram}
use Rattle.nq_model.specs.protocol.Server.{Phase, serving, recovering, Server}
use Rattle.nq_model.specs.protocol.ServerStep.{boot}
use Rattle.nq_model.specs.protocol.Table.{Table, is_row_of, find_row, empty_table}
use Rattle.nq_model.specs.laws.RecoveriesWait.{WaitsLong, RecoveryWaits}
use Rattle.nq_model.specs.laws.RowsStandApart.{AreOfKeptIncarnations, WritesAlone, KeepsTags, StandApart, RowsStandApart}
use Rattle.nq_model.specs.protocol.ServerAlone.{Coming, datagram, ticks, crashes, step_for, server_after, first_boot, booted_last, entries_since_boot}
use Rattle.walk_steps.proofs.HeardWrites.{HeardWrites, StoredBy, hears-writes, writes-receive, writes-tick}
use Rattle.walk_steps.proofs.KeptTags.{own-keys, keeps-receive, keeps-tick, keeps-crash}
use Rattle.walk_steps.proofs.RowChanges.{HasUniqueKeys, of-key}
use Rattle.walk_steps.proofs.ServerFacts.{IncsFit, IncsFitOf, incs-receive, incs-tick, incs-boot, incs-crash}
use Rattle.walk_steps.proofs.ServerNumbers.{Waits, PhaseWaits, PhaseWaitsOf, waits-receive, waits-tick, waits-boot, waits-crash}
use Rattle.walk_steps.proofs.ServerTables.{StandingFits, StandingFitsOf, NoneRecovering, NoneRecoveringOf, stands-receive, stands-tick, stands-boot}
use Rattle.walk_steps.proofs.ServerTables.{stands-crash, none-receive, none-tick, none-boot, none-crash}
use Rattle.walk_steps.proofs.TableFits.{no-rows-fit}

-- what is kept of the rows whatever comes
record Apart (s : Server) : Type 0 where
  none : NoneRecoveringOf s
  stands : StandingFitsOf s
  incs : IncsFitOf s

apart-after : (s : Server) (c : Coming) → Apart s → Apart (step_for s c).server
apart-after s (datagram sender next d) a = record {
  none = none-receive s sender next d a.none;
  stands = stands-receive s sender next d a.stands;
  incs = incs-receive s sender next d a.stands a.incs;
}
apart-after s (ticks passed) a = record {
  none = none-tick s (s.now + passed) a.none;
  stands = stands-tick s (s.now + passed) a.none a.stands;
  incs = incs-tick s (s.now + passed) a.none a.stands a.incs;
}
apart-after s (crashes longest) a = record {
  none = none-crash s longest;
  stands = stands-crash s longest a.stands;
  incs = incs-crash s longest a.incs;
}

apart-first : (kept : Kept) (longest now : ℕ) → Apart (first_boot kept longest now)
unfolding empty_table
apart-first kept longest now = record {
  none = none-boot kept longest now None;
  stands = stands-boot kept longest now None (no-rows-fit kept.files 0 0);
  incs = incs-boot kept longest now None (λ file host row found. absurd (cc));
}

apart : (kept : Kept) (longest now : ℕ) (came : List Coming) → Apart (server_after (first_boot kept longest now) came)
apart kept longest now [] = apart-first kept longest now
apart kept longest now (c ∷ earlier) = apart-after (server_after (first_boot kept longest now) earlier) c (apart kept longest now earlier)

-- a search that finds nothing leaves nothing
none-left : {A : Type 0} (p : A → Bool) (xs : List A) → find p xs ≡ None → filter p xs ≡ []
none-left p [] h = refl
none-left p (x ∷ xs) h = by (p x) (none-left p xs) h
  where
    by : (b : Bool) → (find p xs ≡ None → filter p xs ≡ []) → (if b then Some x else find p xs) ≡ None → (if b then x ∷ filter p xs else filter p xs) ≡ []
    by true rest e = absurd (cc)
    by false rest e = rest e

one-step : (file host : ℕ) (r : Row) (rows : List Row) (b : Bool) → is_row_of file host r ≡ b → find_row r.file r.who.host rows ≡ None
    → length (filter (is_row_of file host) rows) ≤ 1 → length (if b then r ∷ filter (is_row_of file host) rows else filter (is_row_of file host) rows) ≤ 1
one-step file host r rows true e none rest =
    let k = of-key file host r e in
    let empty : filter (is_row_of file host) rows ≡ [] = none-left (is_row_of file host) rows
    (subst (λ i. find_row i host rows ≡ None) k.0 (subst (λ i. find_row r.file i rows ≡ None) k.1 none)) in
    subst (λ xs. length (r ∷ xs) ≤ 1) (sym empty) (omega arith)
one-step file host r rows false e none rest = rest

pub one-each : (file host : ℕ) (rows : List Row) → HasUniqueKeys rows → length (filter (is_row_of file host) rows) ≤ 1
one-each file host [] unique = omega arith
one-each file host (r ∷ rows) unique = one-step file host r rows (is_row_of file host r) refl unique.0 (one-each file host rows unique.1)

no-current : (kept : Kept) → AreOfKeptIncarnations kept []
no-current kept file host row found = absurd (cc)

no-others : WritesAlone []
no-others file host other row r found beside differs writes = absurd (cc)

current-in : (s : Server) (phase : Phase) → IncsFit s.kept phase s.table → NoneRecovering phase s.table → AreOfKeptIncarnations s.kept s.table.rows
current-in s serving incs none = incs
current-in s (recovering until heard last) incs none = subst (AreOfKeptIncarnations s.kept) (sym none) (no-current s.kept)

pub alone-in : (s : Server) (phase : Phase) → StandingFits s.kept.files phase s.table → NoneRecovering phase s.table → WritesAlone s.table.rows
alone-in s serving stands none = stands.alone
alone-in s (recovering until heard last) stands none = subst WritesAlone (sym none) no-others

keeps-tags : (s : Server) (c : Coming) → Apart s → KeepsTags s.table.rows (step_for s c).server.table.rows
keeps-tags s (datagram sender next d) a = keeps-receive s a.stands a.none sender next d
keeps-tags s (ticks passed) a = keeps-tick s a.stands a.none (s.now + passed)
keeps-tags s (crashes longest) a = keeps-crash s longest

stand-apart : (s : Server) → Apart s → StandApart s
stand-apart s a = record {
  one_each = λ file host. one-each file host s.table.rows (own-keys s a.stands a.none);
  current = current-in s s.phase a.incs a.none;
  alone = alone-in s s.phase a.stands a.none;
  none_recovering = λ until heard last p. subst (λ p. NoneRecovering p s.table) p a.none;
  keeps_tags = λ c. keeps-tags s c a;
}

pub rows-stand-apart : RowsStandApart
rows-stand-apart kept longest now came = stand-apart (server_after (first_boot kept longest now) came) (apart kept longest now came)

-- what is kept of a recovery whatever comes
record Waiting (booted : ℕ) (s : Server) (entries : List Entry) : Type 0 where
  waits : PhaseWaitsOf booted s
  heard : HeardWrites s.phase entries

no-writes : (phase : Phase) → HeardWrites phase []
no-writes serving = tt
no-writes (recovering until heard last) = tt

waiting-first : (kept : Kept) (longest now : ℕ) → Waiting (first_boot kept longest now).now (first_boot kept longest now) []
unfolding boot
waiting-first kept longest now = record {
  waits = waits-boot kept longest now None;
  heard = no-writes (first_boot kept longest now).phase;
}

waiting-datagram : (booted : ℕ) (s : Server) (before : List Entry) (sender next : ℕ) (d : Datagram) → Waiting booted s before
    → Waiting booted (step_for s (datagram sender next d)).server ((step_for s (datagram sender next d)).entries ++ before)
waiting-datagram booted s before sender next d w = record {
  waits = waits-receive booted s sender next d w.waits;
  heard = writes-receive booted s before w.heard w.waits sender next d;
}

waiting-ticks : (booted : ℕ) (s : Server) (before : List Entry) (passed : ℕ) → Waiting booted s before
    → Waiting booted (step_for s (ticks passed)).server ((step_for s (ticks passed)).entries ++ before)
waiting-ticks booted s before passed w = record {
  waits = waits-tick booted s (s.now + passed) (omega arith) w.waits;
  heard = writes-tick booted s before w.heard w.waits (s.now + passed);
}

waiting-crash : (s : Server) (longest : ℕ) → Waiting s.now (step_for s (crashes longest)).server []
waiting-crash s longest = record { waits = waits-crash s longest; heard = no-writes (step_for s (crashes longest)).server.phase }

waiting : (s : Server) → Waiting s.now s [] → (came : List Coming) → Waiting (booted_last s came) (server_after s came) (entries_since_boot s came)
waiting s w [] = w
waiting s w (datagram sender next d ∷ earlier) =
    waiting-datagram (booted_last s earlier) (server_after s earlier) (entries_since_boot s earlier) sender next d (waiting s w earlier)
waiting s w (ticks passed ∷ earlier) =
    waiting-ticks (booted_last s earlier) (server_after s earlier) (entries_since_boot s earlier) passed (waiting s w earlier)
waiting s w (crashes longest ∷ earlier) = waiting-crash (server_after s earlier) longest

waits-long : (booted : ℕ) (s : Server) (entries : List Entry) (until heard : ℕ) (last : Option Table) → Waiting booted s entries
    → s.phase ≡ recovering until heard last → WaitsLong booted s.kept.longest until heard entries
waits-long booted s entries until heard last w p =
    let waits : Waits booted s.now s.kept.longest until heard = subst (PhaseWaits booted s.now s.kept.longest) p w.waits in
    let stored : StoredBy heard entries = subst (λ p. HeardWrites p entries) p w.heard in
    record {
      for_leases = waits.after_leases;
      for_writes = waits.after_writes;
      hears_writes = hears-writes heard entries stored;
    }

pub recovery-waits : RecoveryWaits
recovery-waits kept longest now came until heard last p =
    waits-long (booted_last (first_boot kept longest now) came) (server_after (first_boot kept longest now) came)
    (entries_since_boot (first_boot kept longest now) came) until heard last
    (waiting (first_boot kept longest now) (waiting-first kept longest now) came) p
