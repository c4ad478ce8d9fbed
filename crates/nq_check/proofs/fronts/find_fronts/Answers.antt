use Rattle.nq_check.proofs.fronts.find_fronts.Goals as goal

pub reported_front-requires-clause-names : goal.reported_front-requires-clause-names
reported_front-requires-clause-names c = c.in_ok-names.ensures

pub reported_front-requires-clause-ordered : goal.reported_front-requires-clause-ordered
reported_front-requires-clause-ordered c = c.in_ok-ordered.ensures

pub kept_front-requires-clause-ordered : goal.kept_front-requires-clause-ordered
kept_front-requires-clause-ordered c = c.in_ok-ordered.ensures

pub returns : goal.returns
returns c = record {
  ordered = c.in_ok-ordered.ensures;
  accounted = c.in_ok-fates.ensures.0;
  stored = c.in_ok-fates.ensures.1;
  reported = c.in_ok-reported.ensures;
  synchronized = c.in_ok-synchronized.ensures;
}
