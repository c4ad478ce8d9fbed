-- What a boot begins with is what the protocol's boot says.
use Rattle.std.proofs.Common.{◌≡◌, ◌+◌, ℕ, ◌==◌, Bool, true, false, List, [], ◌∷◌, ◌++◌, Option, None, Ok, if◌then◌else◌, refl, sym, ◌∙◌, ap, subst}
use Rattle.nq_base.specs.declared.Entry.{Entry}
use Rattle.nq_base.specs.declared.Row.{Row}
use Rattle.nq_keeper.specs.Booting.{IsOfTerm, recovery_of, started_of}
use Rattle.nq_keeper.specs.declared.requests.boot.starting.Started.{Started}
use Rattle.nq_keeper.specs.declared.requests.boot.starting.Started.TheVariants as begins
use Rattle.nq_base.specs.Entries.{EntryList}
use Rattle.nq_model.specs.protocol.Kept.{Kept}
use Rattle.nq_model.specs.protocol.Server.{Phase, serving, recovering, last_in}
use Rattle.nq_model.specs.protocol.ServerStep.{at_time, boot, boot_phase, crash}
use Rattle.nq_model.specs.protocol.Table.{Table, empty_table}
use Rattle.nq_server.specs.Booting.{Begins, phase_begun, with_last}
use Rattle.nq_server.specs.declared.booting.Begun.{Begun}
use Rattle.nq_server.specs.declared.received.Received.{Received}
use Rattle.nq_server.specs.Holding.{Holding, Boots, Reboots}
use Rattle.nq_server.specs.Sound.{RowsRun, IsOfBoot}
use Rattle.nq_server.specs.State.{Beside, beside, beside_of, heard_of, phase_of, until_of}
use Rattle.nq_server.specs.declared.state.Phase.{Phase as Held}
use Rattle.nq_server.specs.declared.state.Phase.TheVariants as held
use Rattle.nq_server.specs.declared.state.State.{State}

-- the phase of a boot over this kept state
pub phase-begun : (kept : Kept) (longest now : ℕ) (last : Option Table) → phase_of (phase_begun (started_of kept longest now) last)
    ≡ boot_phase kept.opened kept.longest now last
unfolding recovery_of
phase-begun kept longest now last = by (kept.opened == 0)
  where
    by : (b : Bool) → phase_of (phase_begun (if b then begins.Serving (kept.boot + 1) else begins.Recovering (recovery_of kept longest now)) last)
        ≡ (if b then serving else recovering (now + kept.longest + 8) now last)
    by true = refl
    by false = refl

-- what is held beside what is kept, with this phase and table
abbrev pub at_boot : Phase → Table → (longest time : ℕ) → Beside
at_boot phase table longest time = record {
  phase = phase;
  table = table;
  longest = longest;
  notice = 1;
  time = time;
}

pub beside-booted : (kept : Kept) (longest now : ℕ) (last : Option Table) (started : Started) (table : Table) → started ≡ started_of kept longest now
    → table ≡ empty_table (kept.boot + 1) → at_boot (phase_of (phase_begun started last)) table longest now ≡ beside (boot kept longest now last)
unfolding boot
beside-booted kept longest now last started table is empty =
    ap (λ s. at_boot (phase_of (phase_begun s last)) table longest now) is ∙ ap (λ p. at_boot p table longest now) (phase-begun kept longest now last)
    ∙ ap (λ t. at_boot (boot_phase kept.opened kept.longest now last) t longest now) empty

-- an empty table has no row
pub no-rows : (table : Table) → table ≡ empty_table table.boot → table.rows ≡ []
unfolding empty_table
no-rows table empty = ap (λ t. t.rows) empty

pub none-drawn : (table : Table) → table ≡ empty_table table.boot → table.drawn ≡ 0
unfolding empty_table
none-drawn table empty = ap (λ t. t.drawn) empty

pub none-run : (time : ℕ) (rows : List Row) → rows ≡ [] → RowsRun time rows
none-run time rows none = subst (λ rs. RowsRun time rs) (sym none) tt

-- a boot that began has its longest term, and no row
pub of-boot : (longest : ℕ) (started : Started) (last : Option Table) (rows : List Row) → IsOfTerm longest started → rows ≡ []
    → IsOfBoot longest (phase_begun started last) rows
of-boot longest (begins.Serving number) last rows term none = tt
of-boot longest (begins.Recovering recovery) last rows term none = (term, none)

-- a boot that began over this kept state makes a server of the protocol
pub is-booted : {K : Type 0} (longest time : ℕ) (begun : Begun) (told tells : Option Kept) (before count : ℕ) (s : Holding K)
    → Begins longest time (Ok begun) told tells before count → ((kept : Kept) → begun.started ≡ started_of kept longest time → begun.table
    ≡ empty_table (kept.boot + 1) → s.beside ≡ beside (boot kept longest time None)) → s.taken ≡ 0 → Boots longest time (Ok s) told tells before count
unfolding boot
is-booted longest time begun told tells before count s h holds none = (
  λ kept e.
      let over = h.0 kept e in
      (over.number, record { keeps = over.keeps; holds = holds kept over.started over.table; taken = none }),
  h.1,
)

-- and after a crash the protocol's server
pub is-rebooted : {K : Type 0} (longest time : ℕ) (begun : Begun) (entry : Entry) (told tells : Option Kept) (before count : ℕ) (old new : Holding K)
    (log log' : EntryList) → Begins longest time (Ok begun) told tells before count → ((kept : Kept) → begun.started ≡ started_of kept longest time
    → begun.table ≡ empty_table (kept.boot + 1) → new.beside ≡ beside (boot kept longest time (last_in old.beside.phase old.beside.table)))
    → new.taken ≡ 0 → entry ≡ Entry.X begun.table.boot time begun.waits → log'.entries ≡ log.entries ++ entry ∷ [] → Reboots longest time
    Received.Done told tells before count old new log log'
unfolding boot crash at_time empty_table
is-rebooted longest time begun entry told tells before count old new log log' h holds none told-of entered = (
  λ kept e.
      let over = h.0 kept e in (
        over.number,
        record {
          keeps = over.keeps;
          holds = holds kept over.started over.table;
          enters = entered ∙ ap (λ x. log.entries ++ x ∷ []) (told-of ∙ ap (λ t. Entry.X t.boot time begun.waits) over.table
              ∙ ap (λ w. Entry.X (kept.boot + 1) time w) over.waits);
        },
      ),
  h.1,
  none,
)

-- an empty table is that of its own boot
pub own-boot : (table : Table) (number : ℕ) → table ≡ empty_table number → table ≡ empty_table table.boot
unfolding empty_table
own-boot table number e = e ∙ sym (ap (λ t. empty_table t.boot) e)

-- a phase that remembers the last table
remembers : (p : Held) (opened longest now : ℕ) (last : Option Table) → phase_of p ≡ boot_phase opened longest now None → phase_of (with_last p last)
    ≡ boot_phase opened longest now last
remembers p opened longest now last h = by p (opened == 0) h
  where
    by : (q : Held) (b : Bool) → phase_of q ≡ (if b then serving else recovering (now + longest + 8) now None) → phase_of (with_last q last)
        ≡ (if b then serving else recovering (now + longest + 8) now last)
    by (held.Serving number) true e = refl
    by (held.Serving number) false e = absurd (cc)
    by (held.Recovering recovery before) true e = absurd (cc)
    by (held.Recovering recovery before) false e =
        let until : until_of recovery ≡ now + longest + 8 = cc in
        let heard : heard_of recovery ≡ now = cc in
        ap (λ u. recovering u (heard_of recovery) last) until ∙ ap (λ t. recovering (now + longest + 8) t last) heard

-- a boot that remembers the last table later
pub beside-remembered : (kept : Kept) (longest now : ℕ) (last : Option Table) (s : State) → beside_of s ≡ beside (boot kept longest now None)
    → beside_of (record s { phase = with_last s.phase last }) ≡ beside (boot kept longest now last)
unfolding boot
beside-remembered kept longest now last s h =
    ap (λ (b : Beside). record b { phase = phase_of (with_last s.phase last) }) h ∙ ap (λ p. at_boot p (empty_table (kept.boot + 1)) longest now)
    (remembers s.phase kept.opened kept.longest now last (ap (λ b. b.phase) h))
