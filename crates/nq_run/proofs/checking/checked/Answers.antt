use Rattle.nq_run.proofs.checking.checked.Goals as goal

pub returns : goal.returns
returns g c = record {
  end = c.judge.result;
  status = c.status.ensures;
  judges = c.judge.ensures.judges;
  over = c.judge.ensures.limit;
  script = c.judge.ensures.script;
  said = c.judge.ensures.said;
  source = c.judge.ensures.source;
  sink = c.judge.ensures.sink;
}
