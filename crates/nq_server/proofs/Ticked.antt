-- What a tick does is the protocol's step.
use Rattle.std.proofs.Common.{◌≡◌, ◌⊎◌, ◌<◌, ◌≤◌, ℕ, Bool, true, false, List, [], ◌∷◌, ◌++◌, Option, Some, None, Ok, Err, if◌then◌else◌, refl, sym}
use Rattle.std.proofs.Common.{◌∙◌, ap, subst, arith, append-nil, inl, inr}
use Rattle.std.specs.Prelude.{IfOk, OnErr, Result, nat_le, reverse}
use Rattle.std.specs.List.{find}
use Rattle.std.specs.Option.{ForSome, IfSome, option_map}
use Rattle.std.proofs.lemmas.Bool.Decides.{nat_tests}
use Rattle.std.proofs.lemmas.List.Elements.{All-nil}
use Rattle.nq_base.specs.declared.Entry.{Entry}
use Rattle.nq_base.specs.declared.Row.{Row}
use Rattle.nq_base.specs.declared.RowKey.{RowKey}
use Rattle.nq_keeper.specs.Booting.{LeavesThen, ended_at, opened_by}
use Rattle.nq_keeper.specs.Recovery.{Recovery}
use Rattle.nq_datagrams.specs.Sent.{FitsPacket}
use Rattle.nq_lease.specs.Ending.{Fences, fence_of, fenced, fenced_if, has_ended, table_after}
use Rattle.nq_lease.specs.declared.expire.ending.Fence.{Fence}
use Rattle.nq_base.specs.Entries.{EntryList}
use Rattle.nq_keeper.specs.declared.KeepFault.{KeepFault}
use Rattle.nq_keeper.specs.declared.KeepFault.TheVariants.{Failed, Memory}
use Rattle.nq_lease.specs.Rows.{key_of}
use Rattle.nq_model.specs.protocol.Kept.{Kept, can_rise, find_file}
use Rattle.nq_model.specs.protocol.Server.{serving, recovering, ServerStep, taken, quiet, with_table, keeping_with}
use Rattle.nq_model.specs.protocol.ServerStep.{is_due, end_reading, end_writing, ends_writing, fence, opens, at_time, tick, tick_in}
use Rattle.nq_model.specs.protocol.Table.{Table, drop_row, with_rows}
use Rattle.nq_server.specs.declared.received.EventTaken.TheVariants.{Done}
use Rattle.nq_server.specs.declared.ticks.Opened.{Opened}
use Rattle.nq_server.specs.declared.state.Phase.{Phase as Held}
use Rattle.nq_server.specs.declared.state.Phase.TheVariants as held
use Rattle.nq_server.specs.Sound.{IsOfBoot, IsThere, RowsRun}
use Rattle.nq_server.specs.State.{Beside, beside_of, server_of, phase_of}
use Rattle.nq_server.specs.declared.state.State.{State}
use Rattle.nq_server.specs.Stepping.{LeavesStep, Takes, Makes, outcome_of}
use Rattle.nq_server.specs.Ticking.{EndsRow, EndsFirst, OpensAt, at_tick, at_tick_opened, ended, fence_entries}
use Rattle.nq_server.proofs.TickedRows.{due-after-reading, filters-commute, run-later, some-run}
use Rattle.nq_wire.specs.Outbox.{Datagrams}

-- a step that sends nothing
abbrev made : Beside → Kept → List Entry → ServerStep
made s kept entries = record { server = server_of s kept; sends = []; entries = entries; outcome = taken }

-- a tick while the server serves and no writing row is due
quiet-tick : (s : Beside) (kept : Kept) (now : ℕ) → s.phase ≡ serving → find (is_due now) s.table.rows ≡ None → tick (server_of s kept) now
    ≡ made (at_tick s (with_rows s.table (end_reading now s.table.rows)) now) kept []
unfolding at_time quiet with_table
quiet-tick s kept now is none =
    ap (λ p. tick_in (at_time (server_of s kept) now) p) is ∙ ap (λ o. end_writing (at_time (server_of s kept) now) (end_reading now s.table.rows) o)
    (due-after-reading now s.table.rows ∙ none)

-- and where this row is due, and the revision of its file can rise
fenced-tick : (s : Beside) (kept : Kept) (now : ℕ) (row : Row) → s.phase ≡ serving → find (is_due now) s.table.rows ≡ Some row
    → can_rise (find_file row.file kept.files) ≡ true → tick (server_of s kept) now
    ≡ made (at_tick s (with_rows s.table (drop_row row.file row.who.host (end_reading now s.table.rows))) now) (fenced row.file kept)
    (Entry.F row.who row.file row.until row.heard now ∷ [])
unfolding at_time ends_writing keeping_with
fenced-tick s kept now row is due can =
    ap (λ p. tick_in (at_time (server_of s kept) now) p) is ∙ ap (λ o. end_writing (at_time (server_of s kept) now) (end_reading now s.table.rows) o)
    (due-after-reading now s.table.rows ∙ due)
    ∙ ap (λ b. if b then ends_writing (at_time (server_of s kept) now) (end_reading now s.table.rows) row
    else quiet (with_table (at_time (server_of s kept) now) (with_rows s.table (end_reading now s.table.rows)))) can

-- and where it can not
stays-tick : (s : Beside) (kept : Kept) (now : ℕ) (row : Row) → s.phase ≡ serving → find (is_due now) s.table.rows ≡ Some row
    → can_rise (find_file row.file kept.files) ≡ false → tick (server_of s kept) now
    ≡ made (at_tick s (with_rows s.table (end_reading now s.table.rows)) now) kept []
unfolding at_time quiet with_table
stays-tick s kept now row is due can =
    ap (λ p. tick_in (at_time (server_of s kept) now) p) is ∙ ap (λ o. end_writing (at_time (server_of s kept) now) (end_reading now s.table.rows) o)
    (due-after-reading now s.table.rows ∙ due)
    ∙ ap (λ b. if b then ends_writing (at_time (server_of s kept) now) (end_reading now s.table.rows) row
    else quiet (with_table (at_time (server_of s kept) now) (with_rows s.table (end_reading now s.table.rows)))) can

-- a step that sends nothing was made
makes : (out : Datagrams) (s : Beside) (kept : Kept) (entries : List Entry) (tells : Option Kept) (after : Beside) (log log' : EntryList)
    (step : ServerStep) → step ≡ made s kept entries → tells ≡ Some kept → after ≡ s → log'.entries ≡ log.entries ++ reverse entries
    → (step.outcome ≡ outcome_of Done) × Makes step tells after out out log log'
makes out s kept entries tells after log log' step is keeps holds enters =
    subst
    (λ x. (x.outcome ≡ outcome_of Done) × Makes x tells after out out log log')
    (sym is)
    (refl, record { keeps = keeps; holds = holds; sends = record { first = refl; added = sym (append-nil _); fit = All-nil FitsPacket }; enters = enters })

-- rows that ended one by one
both-ended : (table : Table) (now file host : ℕ) → with_rows (with_rows table (drop_row file host table.rows))
    (end_reading now (with_rows table (drop_row file host table.rows)).rows) ≡ with_rows table (drop_row file host (end_reading now table.rows))
unfolding with_rows
both-ended table now file host = ap (λ rows. record table { rows = rows }) (filters-commute _ _ table.rows)

-- leases ended while the server serves
pub takes-ends : (s after : Beside) (now : ℕ) (fence : Option Fence) (table : Table) (told tells : Option Kept) (before count : ℕ)
    (log log' : EntryList) → s.phase ≡ serving → EndsRow now (find (is_due now) s.table.rows) fence s.table table told tells → count ≡ before
    → after ≡ at_tick s (with_rows table (end_reading now table.rows)) now → log'.entries ≡ log.entries ++ reverse (fence_entries fence)
    → (out : Datagrams) → Takes (λ kept. tick (server_of s kept) now) (Ok Done) told tells before count s after out out log log'
takes-ends s after now fence table told tells before count log log' is ends same holds enters out =
    by (find (is_due now) s.table.rows) fence refl ends enters
  where
    by : (o : Option Row) (f : Option Fence) → find (is_due now) s.table.rows ≡ o → EndsRow now o f s.table table told tells → log'.entries
        ≡ log.entries ++ reverse (fence_entries f) → Takes (λ kept. tick (server_of s kept) now) (Ok Done) told tells before count s after out out log log'
    by None None due h entries = (
      λ kept e.
          makes out _ kept [] tells after log log' _ (quiet-tick s kept now is due) (h.1 ∙ e) (holds
          ∙ ap (λ t. at_tick s (with_rows t (end_reading now t.rows)) now) h.0) entries,
      same,
    )
    by (Some row) (Some f) due h entries = (
      λ kept e.
          let said = h.2 kept e in
          makes out _ (fenced row.file kept) _ tells after log log' _ (fenced-tick s kept now row is due said.0) said.1 (holds
          ∙ ap (λ t. at_tick s (with_rows t (end_reading now t.rows)) now) h.1 ∙ ap (λ t. at_tick s t now) (both-ended s.table now row.file
          row.who.host)) (entries ∙ ap (λ x. log.entries ++ reverse (fence_entries (Some x))) h.0),
      same,
    )
    by (Some row) None due h entries = (
      λ kept e.
          let said = h.1 kept e in
          makes out _ kept [] tells after log log' _ (stays-tick s kept now row is due said.0) said.1 (holds
          ∙ ap (λ t. at_tick s (with_rows t (end_reading now t.rows)) now) h.0) entries,
      same,
    )
    by None (Some f) due h entries = absurd h

-- the end of the row that is due was tried
module _ (now : ℕ) (row : Row) (table after : Table) (told tells : Option Kept) (before count : ℕ) where
  tried-by : (result : Result (Option Fence) KeepFault) → IfOk result (λ ended. IfSome ended (λ f. f ≡ fence_of row now))
      → IfOk result (λ ended. after ≡ table_after (key_of row) ended table) → OnErr result (after ≡ table) → Fences row.file (has_ended result) told
      tells before count → EndsFirst now (Some row) result table after told tells before count
  tried-by (Ok (Some f)) fence drops stays fences = (
    (
      fence,
      drops,
      λ kept e.
          let said = fences.0 kept e in
          (sym said.0, said.1 ∙ ap (λ b. Some (if b then fenced row.file kept else kept)) (sym said.0)),
    ),
    fences.1,
  )
  tried-by (Ok None) fence drops stays fences = (
    (
      drops,
      λ kept e.
          let said = fences.0 kept e in
          (sym said.0, said.1 ∙ ap (λ b. Some (if b then fenced row.file kept else kept)) (sym said.0)),
    ),
    fences.1,
  )
  tried-by (Err Memory) fence drops stays fences = (stays, fences.0, fences.1)
  tried-by (Err Failed) fence drops stays fences = (stays, fences.0, fences.1)

pub ends-first : (now : ℕ) (due : Option Row) (key : RowKey) (result : Result (Option Fence) KeepFault) (table after : Table)
    (told tells : Option Kept) (before count : ℕ) → Some key ≡ option_map key_of due
    → IfSome due (λ row. IfOk result (λ ended. IfSome ended (λ f. f ≡ fence_of row now))) → IfOk result (λ ended. after ≡ table_after key ended table)
    → OnErr result (after ≡ table) → Fences key.file (has_ended result) told tells before count → EndsFirst now due result table after told tells before count
ends-first now None key result table after told tells before count e fence drops stays fences = absurd (cc)
ends-first now (Some row) key result table after told tells before count e fence drops stays fences =
    let same : key ≡ key_of row = cc in
    tried-by now row table after told tells before count result fence
    (subst (λ k. IfOk result (λ ended. after ≡ table_after k ended table)) same drops)
    stays
    (subst (λ k. Fences k.file (has_ended result) told tells before count) same fences)

-- what is kept after a tick while the server serves
pub kept-ended : (s : Beside) (kept : Kept) (now : ℕ) → s.phase ≡ serving → (tick (server_of s kept) now).server.kept
    ≡ ended (find (is_due now) s.table.rows) kept
kept-ended s kept now is = by (find (is_due now) s.table.rows) refl
  where
    tried : (row : Row) → find (is_due now) s.table.rows ≡ Some row → (b : Bool) → can_rise (find_file row.file kept.files) ≡ b
        → (tick (server_of s kept) now).server.kept ≡ (if b then fenced row.file kept else kept)
    tried row due true can = ap (λ x. x.server.kept) (fenced-tick s kept now row is due can)
    tried row due false can = ap (λ x. x.server.kept) (stays-tick s kept now row is due can)

    by : (o : Option Row) → find (is_due now) s.table.rows ≡ o → (tick (server_of s kept) now).server.kept ≡ ended o kept
    by None due = ap (λ x. x.server.kept) (quiet-tick s kept now is due)
    by (Some row) due = tried row due (can_rise (find_file row.file kept.files)) refl

-- the row that is due by a key
pub ended-by : (key : RowKey) (o : Option Row) (kept : Kept) → Some key ≡ option_map key_of o → fenced_if key.file kept ≡ ended o kept
ended-by key None kept e = absurd (cc)
ended-by key (Some row) kept e = let same : key ≡ key_of row = cc in ap (λ k. fenced_if k.file kept) same

-- what a stop leaves, told in other words
pub or-as : (found : Option Kept) (kept after other : Kept) → after ≡ other → (found ≡ Some kept) ⊎ (found ≡ Some after) → (found ≡ Some kept)
    ⊎ (found ≡ Some other)
or-as found kept after other same (inl h) = inl h
or-as found kept after other same (inr h) = inr (h ∙ ap (λ k. Some k) same)

-- the rows that are left run
pub runs-on : (time now : ℕ) (o : Option Row) (f : Option Fence) (table between after : Table) (told tells : Option Kept) → time ≤ now
    → EndsRow now o f table between told tells → after ≡ with_rows between (end_reading now between.rows) → RowsRun time table.rows → RowsRun now after.rows
unfolding with_rows
runs-on time now o f table between after told tells later ends same run =
    subst (λ rows. RowsRun now rows) (sym (ap (λ t. t.rows) same)) (run-later time now between.rows later (by o f ends))
  where
    by : (p : Option Row) (g : Option Fence) → EndsRow now p g table between told tells → RowsRun time between.rows
    by None None h = subst (λ t. RowsRun time t.rows) (sym h.0) run
    by (Some row) (Some g) h = subst (λ t. RowsRun time t.rows) (sym h.1) (some-run time _ table.rows run)
    by None (Some g) h = absurd h
    by (Some row) None h = subst (λ t. RowsRun time t.rows) (sym h.0) run

-- and no tag was drawn
pub draws-none : (now : ℕ) (o : Option Row) (f : Option Fence) (table between after : Table) (told tells : Option Kept) → EndsRow now o f table
    between told tells → after ≡ with_rows between (end_reading now between.rows) → after.drawn ≡ table.drawn
unfolding with_rows
draws-none now None None table between after told tells h same = ap (λ t. t.drawn) same ∙ ap (λ t. t.drawn) h.0
draws-none now (Some row) (Some f) table between after told tells h same =
    ap (λ t. t.drawn) same ∙ ap (λ t. t.drawn) h.1
draws-none now None (Some f) table between after told tells h same = absurd h
draws-none now (Some row) None table between after told tells h same = ap (λ t. t.drawn) same ∙ ap (λ t. t.drawn) h.0

-- a boot that serves needs no more
pub serves-of-boot : (longest : ℕ) (phase : Held) (rows : List Row) → phase_of phase ≡ serving → IsOfBoot longest phase rows
serves-of-boot longest (held.Serving number) rows is = tt
serves-of-boot longest (held.Recovering recovery last) rows is = absurd (cc)

-- one that recovers has its recovery, with its longest term, and no row
pub of-recovering : (longest : ℕ) (phase : Held) (recovery : Option Recovery) (last : Option Table) (rows : List Row) → phase ≡ held.Recovering
    recovery last → IsOfBoot longest phase rows → IsThere longest recovery × (rows ≡ [])
of-recovering longest phase recovery last rows is h = subst (λ p. IsOfBoot longest p rows) is h

-- ---- while the server recovers

reached : (until now : ℕ) → until ≤ now → nat_le until now ≡ true
reached until now h = grind (arith, nat_tests)

not-reached : (until now : ℕ) → now < until → nat_le until now ≡ false
not-reached until now h = grind (arith, nat_tests)

is-reached : (until now : ℕ) → nat_le until now ≡ true → until ≤ now
is-reached until now h = grind (arith, nat_tests)

is-not-reached : (until now : ℕ) → nat_le until now ≡ false → now < until
is-not-reached until now h = grind (arith, nat_tests)

module _ (s : Beside) (r : Recovery) (last : Option Table) (is : s.phase ≡ recovering r.until r.heard last) (longest : r.longest ≡ s.longest) where
  -- a tick at which the recovery has to wait
  wait-tick : (kept : Kept) (now : ℕ) → now < r.until → tick (server_of s kept) now ≡ made (at_tick s s.table now) kept []
  unfolding at_time quiet
  wait-tick kept now h =
      ap (λ p. tick_in (at_time (server_of s kept) now) p) is ∙ ap (λ b. if b then opens (at_time (server_of s kept) now) r.until r.heard
      else quiet (at_time (server_of s kept) now)) (not-reached r.until now h)

  -- and one at which it ends
  open-tick : (kept : Kept) (now : ℕ) → r.until ≤ now → tick (server_of s kept) now ≡ made (record {
    phase = serving;
    table = s.table;
    longest =
        s.longest;
    notice = s.notice;
    time = now;
  }) (opened_by kept r.longest) (Entry.O kept.boot r.until r.heard now ∷ [])
  unfolding at_time opens opened_by
  open-tick kept now h =
      ap (λ p. tick_in (at_time (server_of s kept) now) p) is ∙ ap (λ b. if b then opens (at_time (server_of s kept) now) r.until r.heard
      else quiet (at_time (server_of s kept) now)) (reached r.until now h)
      ∙ ap (λ n. made (record { phase = serving; table = s.table; longest = s.longest; notice = s.notice; time = now })
      (record kept { opened = kept.boot; longest = n }) (Entry.O kept.boot r.until r.heard now ∷ [])) (sym longest)

  -- what is kept after it
  kept-opened : (kept : Kept) (now : ℕ) → (tick (server_of s kept) now).server.kept ≡ ended_at r now kept
  kept-opened kept now = by (nat_le r.until now) refl
    where
      by : (b : Bool) → nat_le r.until now ≡ b → (tick (server_of s kept) now).server.kept ≡ (if b then opened_by kept r.longest else kept)
      by true e = ap (λ x. x.server.kept) (open-tick kept now (is-reached r.until now e))
      by false e = ap (λ x. x.server.kept) (wait-tick kept now (is-not-reached r.until now e))

  -- the recovery waits
  takes-wait : (after : Beside) (now : ℕ) (told tells : Option Kept) (before count : ℕ) (log log' : EntryList) → OpensAt r now (Ok None) told tells
      before count → after ≡ at_tick s s.table now → log'.entries ≡ log.entries → (out : Datagrams) → Takes (λ kept. tick (server_of s kept) now)
      (Ok Done) told tells before count s after out out log log'
  takes-wait after now told tells before count log log' h holds enters out =
      (λ kept e. makes out _ kept [] tells after log log' _ (wait-tick kept now h.0) (h.1 ∙ e) holds (enters ∙ sym (append-nil _)), h.2)

  -- and it ended
  takes-opening : (after : Beside) (now : ℕ) (opened : Opened) (told tells : Option Kept) (before count : ℕ) (log log' : EntryList)
      → OpensAt r now (Ok (Some opened)) told tells before count → after ≡ at_tick_opened s now → log'.entries ≡ log.entries ++ opened.entry ∷ []
      → (out : Datagrams) → Takes (λ kept. tick (server_of s kept) now) (Ok Done) told tells before count s after out out log log'
  takes-opening after now o told tells before count log log' h holds enters out = (
    λ kept e.
        let said = h.1 kept e in
        makes out _ (opened_by kept r.longest) _ tells after log log' _ (open-tick kept now h.0) said.0 holds (enters
        ∙ ap (λ x. log.entries ++ reverse (x ∷ [])) said.1),
    h.2,
  )

-- a tick with the recovery in hand, which is there between two calls
module _ (s : Beside) (now : ℕ) where
  pub takes-waits : (o : Option Recovery) (last : Option Table) → s.phase ≡ phase_of (held.Recovering o last) → IsThere s.longest o
      → (after : Beside) (told tells : Option Kept) (before count : ℕ) (log log' : EntryList) → ForSome o (λ r. OpensAt r now (Ok None) told tells
      before count) → after ≡ at_tick s s.table now → log'.entries ≡ log.entries → (out : Datagrams) → Takes (λ kept. tick (server_of s kept) now)
      (Ok Done) told tells before count s after out out log log'
  takes-waits None last is there after told tells before count log log' h holds enters out = absurd there
  takes-waits (Some r) last is there after told tells before count log log' h holds enters out =
      takes-wait s r last is there after now told tells before count log log' (h r refl) holds enters out

  pub takes-opens : (o : Option Recovery) (last : Option Table) → s.phase ≡ phase_of (held.Recovering o last) → IsThere s.longest o
      → (after : Beside) (opened : Opened) (told tells : Option Kept) (before count : ℕ) (log log' : EntryList)
      → ForSome o (λ r. OpensAt r now (Ok (Some opened)) told tells before count) → after ≡ at_tick_opened s now → log'.entries ≡ log.entries
      ++ opened.entry ∷ [] → (out : Datagrams) → Takes (λ kept. tick (server_of s kept) now) (Ok Done) told tells before count s after out out log log'
  takes-opens None last is there after opened told tells before count log log' h holds enters out = absurd there
  takes-opens (Some r) last is there after opened told tells before count log log' h holds enters out =
      takes-opening s r last is there after now opened told tells before count log log' (h r refl) holds enters out

  -- a stop leaves what the tick keeps
  pub leaves-opened : (o : Option Recovery) (last : Option Table) → s.phase ≡ phase_of (held.Recovering o last) → IsThere s.longest o
      → (told : Option Kept) (leaves : Option Kept → Type 0) → ForSome o (λ r. LeavesThen (ended_at r now) told leaves)
      → LeavesStep (λ kept. tick (server_of s kept) now) told leaves
  leaves-opened None last is there told leaves h = absurd there
  leaves-opened (Some r) last is there told leaves h =
      λ kept e found left.
      or-as found kept _ _ (sym (kept-opened s r last is there kept now)) (h r refl kept e found left)

-- the recovery that has to wait is there again
pub is-back : (s : State) (recovery left : Option Recovery) (last : Option Table) (now : ℕ) → s.phase ≡ held.Recovering recovery last
    → left ≡ recovery → beside_of (record s { phase = held.Recovering left last; time = now }) ≡ at_tick (beside_of s) s.table now
is-back s recovery left last now is same =
    ap (λ p. beside_of (record s { phase = p; time = now })) (ap (λ r. held.Recovering r last) same ∙ sym is)
