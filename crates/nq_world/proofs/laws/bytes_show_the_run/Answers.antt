use Rattle.nq_world.proofs.Showing.{bytes-show-the-run}
use Rattle.nq_world.proofs.laws.bytes_show_the_run.Goals as goal

pub returns : goal.returns
returns c = bytes-show-the-run
