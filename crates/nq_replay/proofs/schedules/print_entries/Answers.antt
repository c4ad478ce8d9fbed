use Rattle.std.proofs.Common.{inr}
use Rattle.nq_replay.proofs.Journals.{plain_text}
use Rattle.nq_replay.proofs.schedules.print_entries.Goals as goal

pub returns-in-All-clause-prints : goal.returns-in-All-clause-prints
returns-in-All-clause-prints g c = λ entries is. rw (← plain_text c.args.version c.args.journal.now.entries entries is) c.in-All.ensures.puts

pub returns-in-Failed-clause-prints : goal.returns-in-Failed-clause-prints
returns-in-Failed-clause-prints g c = λ entries is. (
  rw (← plain_text c.args.version c.args.journal.now.entries entries is) c.in-Failed.ensures.puts,
  c.in-Failed.ensures.cause,
)

pub returns-in-Memory-clause-prints : goal.returns-in-Memory-clause-prints
returns-in-Memory-clause-prints g c = λ entries is. inr (rw (← plain_text c.args.version c.args.journal.now.entries entries is) c.in-Memory.ensures.puts)
