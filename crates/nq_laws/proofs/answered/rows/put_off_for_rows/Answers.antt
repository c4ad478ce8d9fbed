use Rattle.nq_laws.proofs.PutOffs.{put-off-for-rows}
use Rattle.nq_laws.proofs.answered.rows.put_off_for_rows.Goals as goal

pub returns : goal.returns
returns c = put-off-for-rows
