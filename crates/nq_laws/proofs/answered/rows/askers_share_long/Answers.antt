use Rattle.nq_laws.proofs.Answering.{ask-fine}
use Rattle.nq_laws.proofs.answered.rows.askers_share_long.Goals as goal

pub returns : goal.returns
returns c = λ table q want wants room own row found off. (ask-fine table q want wants room own).lasts row found off
