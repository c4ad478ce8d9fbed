-- A server after a question.
use Rattle.std.proofs.Common.{◌≡◌, ◌<◌, ◌≤◌, ◌^◌, ◌+◌, ℕ, Option, Result, Ok, Err, refl, sym, ap, subst, ◌∙◌, arith}
use Rattle.nq_base.specs.declared.FileRow.{FileRow}
use Rattle.nq_base.specs.declared.Question.{Question}
use Rattle.nq_base.specs.declared.Want.{Want}
use Rattle.nq_base.specs.declared.Who.{Who}
use Rattle.nq_base.specs.Entries.{EntryList}
use Rattle.nq_keeper.specs.declared.KeepFault.{KeepFault}
use Rattle.nq_keeper.specs.declared.KeepFault.TheVariants.{Failed, Memory}
use Rattle.nq_model.specs.protocol.Ask.{ask}
use Rattle.nq_model.specs.protocol.Kept.{Kept}
use Rattle.nq_model.specs.protocol.Profile.{shortest_term, longest_term}
use Rattle.nq_model.specs.protocol.Server.{ServerStep}
use Rattle.nq_model.specs.protocol.Table.{Table}
use Rattle.nq_server.proofs.AskedRows.{asked-run, asked-draws}
use Rattle.nq_server.proofs.LeasedFinds.{with_asked}
use Rattle.nq_server.proofs.LeasedSteps.{of-serving, some-kept}
use Rattle.nq_server.specs.declared.received.EventTaken.{EventTaken}
use Rattle.nq_server.specs.declared.state.State.{State}
use Rattle.nq_server.specs.Leasing.{Does, MayAsk, asks}
use Rattle.nq_server.specs.Sound.{MayServe, RowsRun, StaysSound}
use Rattle.nq_server.specs.State.{Beside, beside, beside_of, server_of}
use Rattle.nq_wire.specs.Outbox.{Datagrams}

-- a server that serves may be asked about a file of this row
pub may-ask : (s : State) (who : Who) (row : FileRow) (want : Option Want) (q : Question) → MayServe s → q ≡ asks (beside_of s) who row want → MayAsk s q
may-ask s who row want q may is = record {
  sound = may.sound;
  serves = may.serves;
  drawn = may.drawn;
  asked = record { time = ap (λ x. x.time) is; longest = ap (λ x. x.longest) is };
}

-- it stays sound where such a table is put in
sound-beside : (s after : State) (q : Question) (table : Table) (notice : ℕ) → MayAsk s q → RowsRun s.time table.rows → table.drawn ≤ s.table.drawn
    + 1 → beside_of after ≡ record (beside_of s) { table = table; notice = notice } → StaysSound s after
sound-beside s after q table notice may run drawn is = record {
  sound = record {
    early = subst (λ (b : Beside). b.time < 2 ^ 62) (sym is) may.sound.early;
    long = subst (λ (b : Beside). shortest_term ≤ b.longest) (sym is) may.sound.long;
    short = subst (λ (b : Beside). b.longest ≤ longest_term) (sym is) may.sound.short;
    run = subst (λ (b : Beside). RowsRun b.time b.table.rows) (sym is) run;
    of_boot = of-serving after.longest after.phase after.table.rows (ap (λ (b : Beside). b.phase) is ∙ may.serves);
  };
  drawn = subst (λ (b : Beside). b.table.drawn ≤ s.table.drawn + 1) (sym is) drawn;
}

-- so it stays sound in a call that asks
pub stays-sound : (s after : State) (q : Question) (step : Kept → ServerStep) (result : Result EventTaken KeepFault) (out out' : Datagrams)
    (log log' : EntryList) → MayAsk s q → ((kept : Kept) → (step kept).server ≡ with_asked (server_of (beside_of s) kept) (ask s.table q).table
    (step kept).server.notice) → ((kept : Kept) → Does (step kept) result (beside_of s) (beside_of after) out out' log log') → StaysSound s after
stays-sound s after q step (Ok how) out out' log log' may is does =
    let asked = (ask s.table q).table in
    let short = subst (λ n. n ≤ longest_term) (sym may.asked.longest) may.sound.short in
    sound-beside s after q asked (step some-kept).server.notice may (asked-run s.time s.table asked q may.asked.time short may.sound.run refl)
    (asked-draws s.table asked q refl) ((does some-kept).1.holds ∙ ap beside (is some-kept))
stays-sound s after q step (Err Memory) out out' log log' may is does =
    let more : s.table.drawn ≤ s.table.drawn + 1 = omega arith in
    sound-beside s after q s.table s.notice may may.sound.run more (does some-kept).0
stays-sound s after q step (Err Failed) out out' log log' may is does = absurd (does some-kept)
