use Rattle.nq_wire.proofs.Apart.{replies_apart, one_reply, no_reply_to_vacated, no_reply_to_evicted}
use Rattle.nq_wire.proofs.laws.replies_apart.Goals as goal

pub returns-clause-begins : goal.returns-clause-begins
returns-clause-begins c = replies_apart

pub returns-clause-one : goal.returns-clause-one
returns-clause-one c = one_reply

pub returns-clause-vacated : goal.returns-clause-vacated
returns-clause-vacated c = no_reply_to_vacated

pub returns-clause-evicted : goal.returns-clause-evicted
returns-clause-evicted c = no_reply_to_evicted
