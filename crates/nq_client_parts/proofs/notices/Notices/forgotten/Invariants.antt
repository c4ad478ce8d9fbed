use Rattle.std.proofs.Common.{vec_len}
use Rattle.nq_client_parts.proofs.notices.Notices.forgotten.Given as goal

abbrev pub decreases-loop-notice : goal.decreases-loop-notice
decreases-loop-notice l = vec_len l.notices
