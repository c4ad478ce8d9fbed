-- The rows of a server stand apart, by induction over all that came to it.
use Rattle.std.proofs.Common.{◌≡◌, ◌⊎◌, ℕ, List, [], ◌∷◌, Option, Some, None, refl, sym, subst, ◌∙◌}
use Rattle.std.proofs.Common.{inl, inr}
use Rattle.std.specs.Prelude.{IsSome}
use Rattle.nq_loop.specs.Serving.{Coming, datagram, ticks, crashes, Does, HasBooted, HasCome, IsServed, RowsApart, ServedRowsStandApart}
use Rattle.walk_steps.proofs.KeptTags.{own-keys}
use Rattle.nq_datagrams.specs.Incoming.{datagram_in}
use Rattle.nq_base.specs.Entries.{EntryList}
use Rattle.nq_keeper.specs.Keeping.{StaysOrEnds}
use Rattle.nq_model.specs.protocol.Kept.{Kept}
use Rattle.nq_model.specs.protocol.Server.{Server, ServerStep}
use Rattle.nq_model.specs.protocol.ServerStep.{at_time, boot, receive, tick, crash}
use Rattle.nq_server.specs.Holding.{Holding, IsTaken, Reboots}
use Rattle.nq_server.specs.State.{beside, server_of}
use Rattle.nq_server.specs.Stepping.{next_of}
use Rattle.nq_model.specs.protocol.Table.{empty_table}
use Rattle.nq_server.specs.declared.Received.{Received}
use Rattle.nq_server.specs.declared.Received.TheVariants as received
use Rattle.nq_wire.specs.Outbox.{Datagrams}
use Rattle.walk_steps.proofs.ServerAlone.{one-each, alone-in}
use Rattle.walk_steps.proofs.TableFits.{no-rows-fit}
use Rattle.walk_steps.proofs.ServerTables.{StandingFitsOf, NoneRecovering, NoneRecoveringOf, stands-receive, stands-tick, stands-boot}
use Rattle.walk_steps.proofs.ServerTables.{stands-crash, none-receive, none-tick, none-boot, none-crash}

-- what is kept of the rows whatever comes
record Apart (s : Server) : Type 0 where
  none : NoneRecoveringOf s
  stands : StandingFitsOf s

apart-boot : (kept : Kept) (longest now : ℕ) → Apart (boot kept longest now None)
unfolding empty_table
apart-boot kept longest now = record {
  none = none-boot kept longest now None;
  stands = stands-boot kept longest now None (no-rows-fit kept.files 0 0);
}

apart-receive : (s : Server) (sender next : ℕ) (d : _) → Apart s → Apart (receive s sender next d).server
apart-receive s sender next d a = record { none = none-receive s sender next d a.none; stands = stands-receive s sender next d a.stands }

apart-tick : (s : Server) (now : ℕ) → Apart s → Apart (tick s now).server
apart-tick s now a = record { none = none-tick s now a.none; stands = stands-tick s now a.none a.stands }

-- a crash at any time
apart-crash : (s : Server) (longest now : ℕ) → Apart s → Apart (crash (at_time s now) longest).server
unfolding at_time
apart-crash s longest now a = record { none = none-crash (at_time s now) longest; stands = stands-crash (at_time s now) longest a.stands }

-- a server whose keeper tells a kept state with which its rows are apart, or nothing any more
record Served {K : Type 0} (content : K → Option Kept) (s : Holding K) : Type 0 where
  kept : Kept
  told : (content s.keeper ≡ Some kept) ⊎ (content s.keeper ≡ None)
  apart : Apart (server_of s.beside kept)

-- where the keeper tells what it keeps, that is it
same-kept : (told : Option Kept) (kept other : Kept) → (told ≡ Some kept) ⊎ (told ≡ None) → told ≡ Some other → kept ≡ other
same-kept told kept other (inl e) f = cc
same-kept told kept other (inr e) f = absurd (cc)

some-told : (told : Option Kept) → IsSome told → (kept : Kept) × (told ≡ Some kept)
some-told None is = absurd (cc)
some-told (Some kept) is = (kept, refl)

-- a server that made a step is the one after it
made : {K : Type 0} (content : K → Option Kept) (new : Holding K) (s : Server) → content new.keeper ≡ Some s.kept → new.beside ≡ beside s → Apart s
    → Served content new
made content new s keeps holds a = record {
  kept = s.kept;
  told = inl keeps;
  apart = subst (λ b. Apart (server_of b s.kept)) (sym holds) a;
}

-- one that was refused, and whose keeper tells what it told before or nothing any more, is as before
refused : {K : Type 0} (content : K → Option Kept) (old new : Holding K) (kept : Kept) → content old.keeper ≡ Some kept
    → StaysOrEnds (content old.keeper) (content new.keeper) → new.beside ≡ old.beside → Apart (server_of old.beside kept) → Served content new
refused content old new kept told stays same a = record {
  kept = kept;
  told = by stays;
  apart = subst (λ b. Apart (server_of b kept)) (sym same) a;
}
  where
    by : StaysOrEnds (content old.keeper) (content new.keeper) → (content new.keeper ≡ Some kept) ⊎ (content new.keeper ≡ None)
    by (inl e) = inl (e ∙ told)
    by (inr e) = inr e

-- a step that was taken in, or refused
taken-in : {K : Type 0} (content : K → Option Kept) (step : Kept → ServerStep) (answer : Received) (old new : Holding K) (before count : ℕ)
    (out out' : Datagrams) (log log' : EntryList) (kept : Kept)
    → content old.keeper ≡ Some kept → Apart (server_of old.beside kept) → Apart (step kept).server
    → IsTaken step answer (content old.keeper) (content new.keeper) before count old new out out' log log' → Served content new
taken-in content step received.Done old new before count out out' log log' kept told a after is =
    let t = is.0 kept told in made content new (step kept).server t.makes.keeps t.makes.holds after
taken-in content step (received.Dropped reason) old new before count out out' log log' kept told a after is =
    let t = is.0 kept told in made content new (step kept).server t.makes.keeps t.makes.holds after
taken-in content step received.Fault old new before count out out' log log' kept told a after is =
    refused content old new kept told is.0 is.2.untouched.beside a
taken-in content step received.Memory old new before count out out' log log' kept told a after is =
    refused content old new kept told (inl is.0) is.2.untouched.beside a
taken-in content step received.Spent old new before count out out' log log' kept told a after is =
    refused content old new kept told (inl is.0) is.2.untouched.beside a

-- a crash
crashed : {K : Type 0} (content : K → Option Kept) (longest now : ℕ) (answer : Received) (old new : Holding K) (before count : ℕ) (log log' : EntryList)
    (kept : Kept)
    → content old.keeper ≡ Some kept → Apart (server_of old.beside kept)
    → Reboots longest now answer (content old.keeper) (content new.keeper) before count old new log log' → Served content new
crashed content longest now received.Done old new before count log log' kept told a is =
    let h = (is.0 kept told).1 in made content new _ h.keeps h.holds (apart-crash (server_of old.beside kept) longest now a)
crashed content longest now (received.Dropped reason) old new before count log log' kept told a is = absurd is
crashed content longest now received.Fault old new before count log log' kept told a is =
    refused content old new kept told is.0 is.2.untouched.beside a
crashed content longest now received.Memory old new before count log log' kept told a is =
    refused content old new kept told (inl is.0) is.2.untouched.beside a
crashed content longest now received.Spent old new before count log log' kept told a is =
    refused content old new kept told (inl is.1) is.3.untouched.beside a

-- whatever came
does : {K : Type 0} (content : K → Option Kept) (faults : K → ℕ) (came : Coming) (answer : Received) (old new : Holding K) (out out' : Datagrams)
    (log log' : EntryList) (kept : Kept)
    → content old.keeper ≡ Some kept → Apart (server_of old.beside kept)
    → Does content faults came answer out out' log log' old new → Served content new
does content faults (datagram sender bytes) answer old new out out' log log' kept told a is =
    taken-in content (λ kept. receive (server_of old.beside kept) sender (next_of out) (datagram_in bytes)) answer old new _ _ out out' log log' kept told a
    (apart-receive (server_of old.beside kept) sender (next_of out) (datagram_in bytes) a) is
does content faults (ticks now) answer old new out out' log log' kept told a is =
    taken-in content (λ kept. tick (server_of old.beside kept) now) answer old new _ _ out out' log log' kept told a
    (apart-tick (server_of old.beside kept) now a) is
does content faults (crashes longest now) answer old new out out' log log' kept told a is =
    crashed content longest now answer old new _ _ log log' kept told a is

-- a boot
booted : {K : Type 0} (content : K → Option Kept) (faults : K → ℕ) (s : Holding K) → HasBooted content faults s → Served content s
booted content faults s b =
    let told = some-told (content b.keeper) b.told in
    let is = (b.boots.0 told.0 told.1).1 in
    made content s (boot told.0 b.longest b.now None) is.keeps is.holds (apart-boot told.0 b.longest b.now)

after : {K : Type 0} (content : K → Option Kept) (faults : K → ℕ) (came : Coming) (old new : Holding K) → Served content old
    → HasCome content faults came old new → Served content new
after content faults came old new served c =
    let told = some-told (content old.keeper) c.told in
    let a = subst (λ kept. Apart (server_of old.beside kept)) (same-kept (content old.keeper) served.kept told.0 served.told told.1) served.apart in
    does content faults came c.answer old new c.out c.out' c.log c.log' told.0 told.1 a c.does

served-after : {K : Type 0} (content : K → Option Kept) (faults : K → ℕ) (came : List Coming) (s : Holding K) → IsServed content faults came s
    → Served content s
served-after content faults [] s is = booted content faults s is
served-after content faults (came ∷ earlier) s is = after content faults came is.0 s (served-after content faults earlier is.0 is.1) is.2

rows-apart : (s : Server) → Apart s → RowsApart (beside s)
rows-apart s a = record {
  one_each = λ file host. one-each file host s.table.rows (own-keys s a.stands a.none);
  alone = alone-in s s.phase a.stands a.none;
  none_recovering = λ until heard last p. subst (λ p. NoneRecovering p s.table) p a.none;
}

pub served-rows-stand-apart : {K : Type 0} (content : K → Option Kept) (faults : K → ℕ) → ServedRowsStandApart content faults
served-rows-stand-apart content faults came s is =
    let served = served-after content faults came s is in rows-apart (server_of s.beside served.kept) served.apart
