use Rattle.nq_world.proofs.Going.{runs-begin, servers-begin, tests-are-exact, runs-go-on, runs-are-lawful}
use Rattle.nq_world.proofs.Texts.{bytes-carry-text}
use Rattle.nq_world.proofs.Unspent.{runs-are-unspent}
use Rattle.nq_world.proofs.laws.worlds_run.Goals as goal

pub returns : goal.returns
returns c = record {
  begins = runs-begin;
  servers = servers-begin;
  tests = tests-are-exact;
  goes_on = runs-go-on;
  lawful = runs-are-lawful;
  unspent =
      runs-are-unspent;
  text = bytes-carry-text;
}
