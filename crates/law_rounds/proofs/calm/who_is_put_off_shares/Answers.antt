use Rattle.law_rounds.proofs.SharedRows.{put-off-shares}
use Rattle.law_rounds.proofs.calm.who_is_put_off_shares.Goals as goal

pub returns : goal.returns
returns c = put-off-shares
