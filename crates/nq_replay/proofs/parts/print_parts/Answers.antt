use Rattle.std.proofs.Common.{◌∙◌}
use Rattle.nq_journal.specs.Text.{journal_text}
use Rattle.nq_replay.proofs.Joining.{last_cut, rose_at_last, second_cut}
use Rattle.nq_replay.proofs.parts.print_parts.Goals as goal

pub returns-in-Failed-print-clause-prints : goal.returns-in-Failed-print-clause-prints
returns-in-Failed-print-clause-prints g c = (
  second_cut c.args.before.now (journal_text c.args.version c.args.journal.now.entries) c.args.after.now _ _ _ c.in-All.ensures.puts
      c.in-Failed-print.ensures.puts,
  rose_at_last _ _ _ c.in-All.ensures.cause c.in-Failed-print.ensures.cause,
)

pub returns-in-Memory-clause-prints : goal.returns-in-Memory-clause-prints
returns-in-Memory-clause-prints g c =
    second_cut c.args.before.now (journal_text c.args.version c.args.journal.now.entries) c.args.after.now _ _ _ c.in-All.ensures.puts c.in-Memory.ensures.puts

pub returns-in-Failed-put-clause-prints : goal.returns-in-Failed-put-clause-prints
returns-in-Failed-put-clause-prints g c = (
  last_cut c.args.before.now (journal_text c.args.version c.args.journal.now.entries) c.args.after.now _ _ _ _ c.in-All.ensures.puts
      c.in-All-print.ensures.puts c.in-Failed-put.ensures.puts,
  rose_at_last _ _ _ (c.in-All-print.ensures.cause ∙ c.in-All.ensures.cause)
      c.in-Failed-put.ensures.cause,
)

pub returns-in-Failed-print-clause-sink : goal.returns-in-Failed-print-clause-sink
returns-in-Failed-print-clause-sink g c = rose_at_last _ _ _ c.in-All.ensures.cause c.in-Failed-print.ensures.cause

pub returns-in-Memory-clause-sink : goal.returns-in-Memory-clause-sink
returns-in-Memory-clause-sink g c = c.in-Memory.ensures.cause ∙ c.in-All.ensures.cause

pub returns-in-Failed-put-clause-sink : goal.returns-in-Failed-put-clause-sink
returns-in-Failed-put-clause-sink g c =
    rose_at_last _ _ _ (c.in-All-print.ensures.cause ∙ c.in-All.ensures.cause) c.in-Failed-put.ensures.cause

pub returns-in-All-put-clause-sink : goal.returns-in-All-put-clause-sink
returns-in-All-put-clause-sink g c = c.in-All-put.ensures.cause ∙ c.in-All-print.ensures.cause ∙ c.in-All.ensures.cause
