use Rattle.law_rounds.proofs.Owing.{replies-are-owed}
use Rattle.law_rounds.proofs.owed.replies_are_owed.Goals as goal

pub returns : goal.returns
returns c = replies-are-owed
