use Rattle.std.proofs.Common.{◌∙◌, Some, ap, arith, refl, sym}
use Rattle.nq_run.proofs.Faultless.{attends_faultless, checks_faultless, loops_faultless, names_faultless, replays_faultless, serves_faultless}
use Rattle.nq_run.proofs.Faultless.{stages_faultless, storms_faultless}
use Rattle.nq_run.proofs.Making.{loops_usage, storms_usage}
use Rattle.nq_run.proofs.NamesPromises.{names_usage}
use Rattle.nq_run.proofs.Playing.{replays_usage}
use Rattle.nq_run.proofs.ReplayPromises.{check_usage}
use Rattle.nq_run.proofs.Saying.{attends_usage, formats_usage, serves_usage}
use Rattle.nq_run.proofs.StagedPromises.{stages_usage}
use Rattle.nq_run.specs.Frames.{makes_a_run}
use Rattle.nq_run.specs.Promised.{most_bytes}
use Rattle.nq_run.proofs.top.run_command.Goals as goal

pub replayed-requires-clause-tells : goal.replayed-requires-clause-tells
replayed-requires-clause-tells g c = c.requires.tells (ap makes_a_run (sym c.command.ensures.says ∙ c.in-Some-Replay.is ∙ ap Some c.in-Some-Replay.field-0-is))

pub stormed-requires : goal.stormed-requires
stormed-requires g c = c.requires.tells (ap makes_a_run (sym c.command.ensures.says ∙ c.in-Some-Storm.is ∙ ap Some c.in-Some-Storm.field-0-is))

pub looped-requires-clause-tells : goal.looped-requires-clause-tells
looped-requires-clause-tells g c = c.requires.tells (ap makes_a_run (sym c.command.ensures.says ∙ c.in-Some-Loop.is ∙ ap Some c.in-Some-Loop.field-0-is))

pub returns-in-Some-Format-clause-does : goal.returns-in-Some-Format-clause-does
returns-in-Some-Format-clause-does g c = rw (sym c.command.ensures.says ∙ c.in-Some-Format.is ∙ ap Some c.in-Some-Format.field-0-is)
    (c.format_disk.ensures.formats, refl)

pub returns-in-Some-Format-clause-usage : goal.returns-in-Some-Format-clause-usage
returns-in-Some-Format-clause-usage g c = λ none. absurd (formats_usage g.D.Disk.faults g.D.Disk.told g.D.Disk.may_leave c.format_disk.result.end
    c.args.disk c.format_disk.result.left c.format_disk.ensures.formats none)

pub returns-in-Some-Format-clause-alone : goal.returns-in-Some-Format-clause-alone
returns-in-Some-Format-clause-alone g c = λ none. absurd (formats_usage g.D.Disk.faults g.D.Disk.told g.D.Disk.may_leave c.format_disk.result.end
    c.args.disk c.format_disk.result.left c.format_disk.ensures.formats none)

pub returns-in-Some-Format-clause-never : goal.returns-in-Some-Format-clause-never
returns-in-Some-Format-clause-never g c = λ never. absurd (rw (sym c.command.ensures.says ∙ c.in-Some-Format.is ∙ ap Some c.in-Some-Format.field-0-is)
    at never)

pub returns-in-Some-Format-clause-faultless : goal.returns-in-Some-Format-clause-faultless
returns-in-Some-Format-clause-faultless g c = λ done. (refl, refl)

pub returns-in-Some-Format-clause-follows : goal.returns-in-Some-Format-clause-follows
returns-in-Some-Format-clause-follows g c = c.format_disk.ensures.follows

pub returns-in-Some-Format-clause-keeps : goal.returns-in-Some-Format-clause-keeps
returns-in-Some-Format-clause-keeps g c = rw (sym c.command.ensures.says ∙ c.in-Some-Format.is ∙ ap Some c.in-Some-Format.field-0-is) (
  tt,
  refl,
  refl,
  refl,
  refl,
  refl,
)

pub returns-in-Some-Serve-clause-does : goal.returns-in-Some-Serve-clause-does
returns-in-Some-Serve-clause-does g c = rw (sym c.command.ensures.says ∙ c.in-Some-Serve.is ∙ ap Some c.in-Some-Serve.field-0-is) c.serve_disk.ensures.serves

pub returns-in-Some-Serve-clause-usage : goal.returns-in-Some-Serve-clause-usage
returns-in-Some-Serve-clause-usage g c = λ none. absurd (serves_usage g.D.Disk.told g.D.Disk.faults g.D.Disk.may_leave g.D.Disk.follows
    g.D.Disk.leaves c.serve_disk.result.end c.in-Some-Serve.longest c.in-Some-Serve.turns c.args.disk c.serve_disk.result.left _ _ _ _ _ _ _ _
    c.serve_disk.ensures.serves none)

pub returns-in-Some-Serve-clause-alone : goal.returns-in-Some-Serve-clause-alone
returns-in-Some-Serve-clause-alone g c = λ none. absurd (serves_usage g.D.Disk.told g.D.Disk.faults g.D.Disk.may_leave g.D.Disk.follows
    g.D.Disk.leaves c.serve_disk.result.end c.in-Some-Serve.longest c.in-Some-Serve.turns c.args.disk c.serve_disk.result.left _ _ _ _ _ _ _ _
    c.serve_disk.ensures.serves none)

pub returns-in-Some-Serve-clause-never : goal.returns-in-Some-Serve-clause-never
returns-in-Some-Serve-clause-never g c = λ never. absurd (rw (sym c.command.ensures.says ∙ c.in-Some-Serve.is ∙ ap Some c.in-Some-Serve.field-0-is) at never)

pub returns-in-Some-Serve-clause-faultless : goal.returns-in-Some-Serve-clause-faultless
returns-in-Some-Serve-clause-faultless g c = λ done. (
  refl,
  serves_faultless g.D.Disk.told g.D.Disk.faults g.D.Disk.may_leave g.D.Disk.follows
      g.D.Disk.leaves c.serve_disk.result.end c.in-Some-Serve.longest c.in-Some-Serve.turns c.args.disk c.serve_disk.result.left _ _ _ _ _ _ _ _
      c.serve_disk.ensures.serves done,
)

pub returns-in-Some-Serve-clause-follows : goal.returns-in-Some-Serve-clause-follows
returns-in-Some-Serve-clause-follows g c = c.serve_disk.ensures.follows

pub returns-in-Some-Serve-clause-keeps : goal.returns-in-Some-Serve-clause-keeps
returns-in-Some-Serve-clause-keeps g c = rw (sym c.command.ensures.says ∙ c.in-Some-Serve.is ∙ ap Some c.in-Some-Serve.field-0-is) (
  tt,
  refl,
  tt,
  refl,
  tt,
  refl,
)

pub returns-in-Some-Replay-clause-does : goal.returns-in-Some-Replay-clause-does
unfolding most_bytes
returns-in-Some-Replay-clause-does g c = rw (sym c.command.ensures.says ∙ c.in-Some-Replay.is ∙ ap Some c.in-Some-Replay.field-0-is) c.replayed.ensures.replays

pub returns-in-Some-Replay-clause-usage : goal.returns-in-Some-Replay-clause-usage
returns-in-Some-Replay-clause-usage g c = λ none. absurd (replays_usage _ c.replayed.result.end _ _ _ _ _ _ _ _ _ _ _ c.args.disk
    c.replayed.result.left c.replayed.ensures.replays none)

pub returns-in-Some-Replay-clause-alone : goal.returns-in-Some-Replay-clause-alone
returns-in-Some-Replay-clause-alone g c = λ none. absurd (replays_usage _ c.replayed.result.end _ _ _ _ _ _ _ _ _ _ _ c.args.disk
    c.replayed.result.left c.replayed.ensures.replays none)

pub returns-in-Some-Replay-clause-never : goal.returns-in-Some-Replay-clause-never
returns-in-Some-Replay-clause-never g c = λ never. absurd (rw (sym c.command.ensures.says ∙ c.in-Some-Replay.is ∙ ap Some c.in-Some-Replay.field-0-is)
    at never)

pub returns-in-Some-Replay-clause-faultless : goal.returns-in-Some-Replay-clause-faultless
returns-in-Some-Replay-clause-faultless g c = replays_faultless _ c.replayed.result.end _ _ _ _ _ _ _ _ _ _ _ c.args.disk c.replayed.result.left
    c.replayed.ensures.replays

pub returns-in-Some-Replay-clause-follows : goal.returns-in-Some-Replay-clause-follows
returns-in-Some-Replay-clause-follows g c = c.replayed.ensures.follows

pub returns-in-Some-Replay-clause-keeps : goal.returns-in-Some-Replay-clause-keeps
returns-in-Some-Replay-clause-keeps g c = rw (sym c.command.ensures.says ∙ c.in-Some-Replay.is ∙ ap Some c.in-Some-Replay.field-0-is) (
  tt,
  tt,
  refl,
  refl,
  refl,
  refl,
)

pub returns-in-Some-Storm-clause-does : goal.returns-in-Some-Storm-clause-does
returns-in-Some-Storm-clause-does g c = rw (sym c.command.ensures.says ∙ c.in-Some-Storm.is ∙ ap Some c.in-Some-Storm.field-0-is) c.stormed.ensures.storms

pub returns-in-Some-Storm-clause-usage : goal.returns-in-Some-Storm-clause-usage
returns-in-Some-Storm-clause-usage g c = λ none.
    let u = storms_usage c.stormed.result.end c.in-Some-Storm.kind c.in-Some-Storm.start c.in-Some-Storm.events _ _ _ _ _ _ _ _ _ _
    c.stormed.ensures.storms none in
    (rw (sym c.command.ensures.says ∙ c.in-Some-Storm.is ∙ ap Some c.in-Some-Storm.field-0-is) u.0, refl, u.1)

pub returns-in-Some-Storm-clause-alone : goal.returns-in-Some-Storm-clause-alone
returns-in-Some-Storm-clause-alone g c = c.stormed.ensures.alone

pub returns-in-Some-Storm-clause-never : goal.returns-in-Some-Storm-clause-never
returns-in-Some-Storm-clause-never g c = λ never. c.stormed.ensures.never (rw (sym c.command.ensures.says ∙ c.in-Some-Storm.is
    ∙ ap Some c.in-Some-Storm.field-0-is) at never)

pub returns-in-Some-Storm-clause-faultless : goal.returns-in-Some-Storm-clause-faultless
returns-in-Some-Storm-clause-faultless g c = λ done. (
  refl,
  storms_faultless c.stormed.result.end c.in-Some-Storm.kind c.in-Some-Storm.start
      c.in-Some-Storm.events _ _ _ _ _ _ _ _ _ _ c.stormed.ensures.storms done,
)

pub returns-in-Some-Storm-clause-follows : goal.returns-in-Some-Storm-clause-follows
returns-in-Some-Storm-clause-follows g c = c.stormed.ensures.follows

pub returns-in-Some-Storm-clause-keeps : goal.returns-in-Some-Storm-clause-keeps
returns-in-Some-Storm-clause-keeps g c = rw (sym c.command.ensures.says ∙ c.in-Some-Storm.is ∙ ap Some c.in-Some-Storm.field-0-is) (
  tt,
  refl,
  refl,
  refl,
  refl,
  tt,
)

pub returns-in-Some-Loop-clause-does : goal.returns-in-Some-Loop-clause-does
returns-in-Some-Loop-clause-does g c = rw (sym c.command.ensures.says ∙ c.in-Some-Loop.is ∙ ap Some c.in-Some-Loop.field-0-is) c.looped.ensures.loops

pub returns-in-Some-Loop-clause-usage : goal.returns-in-Some-Loop-clause-usage
returns-in-Some-Loop-clause-usage g c = λ none. absurd (loops_usage c.looped.result.end c.in-Some-Loop.hosts c.in-Some-Loop.turns _ _ _ _ _ _ _ _ _
    _ _ c.looped.ensures.loops none)

pub returns-in-Some-Loop-clause-alone : goal.returns-in-Some-Loop-clause-alone
returns-in-Some-Loop-clause-alone g c = λ none. absurd (loops_usage c.looped.result.end c.in-Some-Loop.hosts c.in-Some-Loop.turns _ _ _ _ _ _ _ _ _
    _ _ c.looped.ensures.loops none)

pub returns-in-Some-Loop-clause-never : goal.returns-in-Some-Loop-clause-never
returns-in-Some-Loop-clause-never g c = λ never. absurd (rw (sym c.command.ensures.says ∙ c.in-Some-Loop.is ∙ ap Some c.in-Some-Loop.field-0-is) at never)

pub returns-in-Some-Loop-clause-faultless : goal.returns-in-Some-Loop-clause-faultless
returns-in-Some-Loop-clause-faultless g c = λ done. (
  refl,
  loops_faultless c.looped.result.end c.in-Some-Loop.hosts c.in-Some-Loop.turns _ _ _ _ _ _ _ _ _ _ _
      c.looped.ensures.loops done,
)

pub returns-in-Some-Loop-clause-follows : goal.returns-in-Some-Loop-clause-follows
returns-in-Some-Loop-clause-follows g c = c.looped.ensures.follows

pub returns-in-Some-Loop-clause-keeps : goal.returns-in-Some-Loop-clause-keeps
returns-in-Some-Loop-clause-keeps g c = rw (sym c.command.ensures.says ∙ c.in-Some-Loop.is ∙ ap Some c.in-Some-Loop.field-0-is) (tt, refl, refl, tt, tt, refl)

pub returns-in-Some-Check-clause-does : goal.returns-in-Some-Check-clause-does
unfolding most_bytes
returns-in-Some-Check-clause-does g c = rw (sym c.command.ensures.says ∙ c.in-Some-Check.is ∙ ap Some c.in-Some-Check.field-0-is) c.checked.ensures

pub returns-in-Some-Check-clause-usage : goal.returns-in-Some-Check-clause-usage
returns-in-Some-Check-clause-usage g c = λ none. absurd (check_usage _ c.checked.result _ _ _ _ _ _ _ _ c.checked.ensures none)

pub returns-in-Some-Check-clause-alone : goal.returns-in-Some-Check-clause-alone
returns-in-Some-Check-clause-alone g c = λ none. refl

pub returns-in-Some-Check-clause-never : goal.returns-in-Some-Check-clause-never
returns-in-Some-Check-clause-never g c = λ never. absurd (rw (sym c.command.ensures.says ∙ c.in-Some-Check.is ∙ ap Some c.in-Some-Check.field-0-is) at never)

pub returns-in-Some-Check-clause-faultless : goal.returns-in-Some-Check-clause-faultless
returns-in-Some-Check-clause-faultless g c = checks_faultless _ c.checked.result _ _ _ _ _ _ _ _ c.checked.ensures

pub returns-in-Some-Check-clause-follows : goal.returns-in-Some-Check-clause-follows
returns-in-Some-Check-clause-follows g c = g.met.D.Disk.follows_itself c.args.disk

pub returns-in-Some-Check-clause-keeps : goal.returns-in-Some-Check-clause-keeps
returns-in-Some-Check-clause-keeps g c = rw (sym c.command.ensures.says ∙ c.in-Some-Check.is ∙ ap Some c.in-Some-Check.field-0-is) (
  refl,
  tt,
  refl,
  refl,
  refl,
  refl,
)

pub returns-in-Some-Staged-clause-does : goal.returns-in-Some-Staged-clause-does
unfolding most_bytes
returns-in-Some-Staged-clause-does g c = rw (sym c.command.ensures.says ∙ c.in-Some-Staged.is ∙ ap Some c.in-Some-Staged.field-0-is) c.staged.ensures

pub returns-in-Some-Staged-clause-usage : goal.returns-in-Some-Staged-clause-usage
returns-in-Some-Staged-clause-usage g c = λ none. absurd (stages_usage _ c.staged.result _ _ _ _ _ _ _ _ c.staged.ensures none)

pub returns-in-Some-Staged-clause-alone : goal.returns-in-Some-Staged-clause-alone
returns-in-Some-Staged-clause-alone g c = λ none. refl

pub returns-in-Some-Staged-clause-never : goal.returns-in-Some-Staged-clause-never
returns-in-Some-Staged-clause-never g c = λ never. absurd (rw (sym c.command.ensures.says ∙ c.in-Some-Staged.is ∙ ap Some c.in-Some-Staged.field-0-is)
    at never)

pub returns-in-Some-Staged-clause-faultless : goal.returns-in-Some-Staged-clause-faultless
returns-in-Some-Staged-clause-faultless g c = stages_faultless _ c.staged.result _ _ _ _ _ _ _ _ c.staged.ensures

pub returns-in-Some-Staged-clause-follows : goal.returns-in-Some-Staged-clause-follows
returns-in-Some-Staged-clause-follows g c = g.met.D.Disk.follows_itself c.args.disk

pub returns-in-Some-Staged-clause-keeps : goal.returns-in-Some-Staged-clause-keeps
returns-in-Some-Staged-clause-keeps g c = rw (sym c.command.ensures.says ∙ c.in-Some-Staged.is ∙ ap Some c.in-Some-Staged.field-0-is) (
  refl,
  tt,
  refl,
  refl,
  refl,
  refl,
)

pub returns-in-Some-Names-clause-does : goal.returns-in-Some-Names-clause-does
unfolding most_bytes
returns-in-Some-Names-clause-does g c = rw (sym c.command.ensures.says ∙ c.in-Some-Names.is ∙ ap Some c.in-Some-Names.field-0-is) c.named.ensures

pub returns-in-Some-Names-clause-usage : goal.returns-in-Some-Names-clause-usage
returns-in-Some-Names-clause-usage g c = λ none. absurd (names_usage _ c.named.result _ _ _ _ _ _ _ _ c.named.ensures none)

pub returns-in-Some-Names-clause-alone : goal.returns-in-Some-Names-clause-alone
returns-in-Some-Names-clause-alone g c = λ none. refl

pub returns-in-Some-Names-clause-never : goal.returns-in-Some-Names-clause-never
returns-in-Some-Names-clause-never g c = λ never. absurd (rw (sym c.command.ensures.says ∙ c.in-Some-Names.is ∙ ap Some c.in-Some-Names.field-0-is) at never)

pub returns-in-Some-Names-clause-faultless : goal.returns-in-Some-Names-clause-faultless
returns-in-Some-Names-clause-faultless g c = names_faultless _ c.named.result _ _ _ _ _ _ _ _ c.named.ensures

pub returns-in-Some-Names-clause-follows : goal.returns-in-Some-Names-clause-follows
returns-in-Some-Names-clause-follows g c = g.met.D.Disk.follows_itself c.args.disk

pub returns-in-Some-Names-clause-keeps : goal.returns-in-Some-Names-clause-keeps
returns-in-Some-Names-clause-keeps g c = rw (sym c.command.ensures.says ∙ c.in-Some-Names.is ∙ ap Some c.in-Some-Names.field-0-is) (
  refl,
  tt,
  refl,
  refl,
  refl,
  refl,
)

pub returns-in-Some-Client-clause-does : goal.returns-in-Some-Client-clause-does
unfolding most_bytes
returns-in-Some-Client-clause-does g c = rw (sym c.command.ensures.says ∙ c.in-Some-Client.is ∙ ap Some c.in-Some-Client.field-0-is) c.attended.ensures

pub returns-in-Some-Client-clause-usage : goal.returns-in-Some-Client-clause-usage
returns-in-Some-Client-clause-usage g c = λ none. absurd (attends_usage c.in-Some-Client.turns _ _ c.attended.result _ _ _ _ _ _ _ _ _ _ _ _
    c.attended.ensures none)

pub returns-in-Some-Client-clause-alone : goal.returns-in-Some-Client-clause-alone
returns-in-Some-Client-clause-alone g c = λ none. refl

pub returns-in-Some-Client-clause-never : goal.returns-in-Some-Client-clause-never
returns-in-Some-Client-clause-never g c = λ never. absurd (rw (sym c.command.ensures.says ∙ c.in-Some-Client.is ∙ ap Some c.in-Some-Client.field-0-is)
    at never)

pub returns-in-Some-Client-clause-faultless : goal.returns-in-Some-Client-clause-faultless
returns-in-Some-Client-clause-faultless g c = attends_faultless c.in-Some-Client.turns _ _ c.attended.result _ _ _ _ _ _ _ _ _ _ _ _ c.attended.ensures

pub returns-in-Some-Client-clause-follows : goal.returns-in-Some-Client-clause-follows
returns-in-Some-Client-clause-follows g c = g.met.D.Disk.follows_itself c.args.disk

pub returns-in-Some-Client-clause-keeps : goal.returns-in-Some-Client-clause-keeps
returns-in-Some-Client-clause-keeps g c = rw (sym c.command.ensures.says ∙ c.in-Some-Client.is ∙ ap Some c.in-Some-Client.field-0-is) (
  refl,
  tt,
  tt,
  refl,
  tt,
  refl,
)

pub returns-in-None-clause-does : goal.returns-in-None-clause-does
returns-in-None-clause-does g c = rw (sym c.command.ensures.says ∙ c.in-None.is) tt

pub returns-in-None-clause-usage : goal.returns-in-None-clause-usage
returns-in-None-clause-usage g c = λ none. (rw (sym c.command.ensures.says ∙ c.in-None.is) tt, refl, c.usage.ensures.printed)

pub returns-in-None-clause-alone : goal.returns-in-None-clause-alone
returns-in-None-clause-alone g c = λ none. refl

pub returns-in-None-clause-never : goal.returns-in-None-clause-never
returns-in-None-clause-never g c = λ never. (c.usage.ensures.usage, refl)

pub returns-in-None-clause-faultless : goal.returns-in-None-clause-faultless
returns-in-None-clause-faultless g c = λ done. let no = sym c.usage.ensures.usage ∙ done in absurd (omega arith)

pub returns-in-None-clause-follows : goal.returns-in-None-clause-follows
returns-in-None-clause-follows g c = g.met.D.Disk.follows_itself c.args.disk

pub returns-in-None-clause-keeps : goal.returns-in-None-clause-keeps
returns-in-None-clause-keeps g c = rw (sym c.command.ensures.says ∙ c.in-None.is) (refl, refl, refl, refl, refl, refl)
