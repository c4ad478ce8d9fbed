use Rattle.std.proofs.Common.{◌≡◌, List, inl, map, refl}
use Rattle.nq_base.specs.Plain.{plain}
use Rattle.nq_base.specs.declared.Event.{Event}
use Rattle.nq_replay.specs.Playing.{beginning}
use Rattle.nq_replay.proofs.Outcomes.{run_ends}
use Rattle.nq_replay.proofs.Overs.{entries_count, keeps_run, not_last, why_counts, why_ends, why_never}
use Rattle.nq_replay.specs.Replay.{journal_of}
use Rattle.nq_world.specs.Playing.{Plays}
use Rattle.nq_replay.proofs.schedules.tell.Goals as goal

pub returns-in-All-clause-ends : goal.returns-in-All-clause-ends
returns-in-All-clause-ends g c = λ head due same comes.
    let P : List Event → Type 0 = λ events. Plays (beginning head) events c.args.world.now (g.L.Keeper.content c.args.world.now.server.keeper) in
    inl (run_ends c.print_entries.result head due P _ _ _ _ (rw c.in-All.is at comes) (λ events plays.
    let shown = plays.shown.shows.entries in
    let entries : map plain c.journal.result.now.entries ≡ journal_of head events = rw c.journal.ensures shown in
    rw same (c.print_entries.ensures.prints (journal_of head events) entries)))

pub returns-in-All-clause-keeps : goal.returns-in-All-clause-keeps
returns-in-All-clause-keeps g c = λ done head due comes. keeps_run head due c.args.world.now _ (rw c.in-All.is at comes)

pub returns-in-All-clause-counts : goal.returns-in-All-clause-counts
returns-in-All-clause-counts g c = λ before count counts.
    entries_count c.print_entries.result c.args.version _ _ _ _ _ before count (c.print_entries.ensures.prints _ refl) (rw c.in-All.is at counts)

pub tell_why-requires : goal.tell_why-requires
tell_why-requires g c = not_last c.in-Stopped.line c.in-Stopped.answer (rw c.in-Stopped.is at c.requires.stops)

pub returns-in-Stopped-clause-ends : goal.returns-in-Stopped-clause-ends
returns-in-Stopped-clause-ends g c = λ head due same comes.
    let P : List Event → Type 0 = λ events. Plays (beginning head) events c.args.world.now (g.L.Keeper.content c.args.world.now.server.keeper) in
    why_ends c.tell_why.result head c.in-Stopped.line c.in-Stopped.answer due P _ _ _ _ (rw c.in-Stopped.is at comes) c.tell_why.ensures.tells

pub returns-in-Stopped-clause-keeps : goal.returns-in-Stopped-clause-keeps
returns-in-Stopped-clause-keeps g c = λ done head due comes. absurd (why_never c.tell_why.result c.in-Stopped.line c.in-Stopped.answer _ _ _ _ done
    c.tell_why.ensures.tells)

pub returns-in-Stopped-clause-counts : goal.returns-in-Stopped-clause-counts
returns-in-Stopped-clause-counts g c = λ before count counts.
    why_counts c.tell_why.result c.in-Stopped.line c.in-Stopped.answer _ _ _ _ before count (rw c.in-Stopped.is at counts) c.tell_why.ensures.tells
