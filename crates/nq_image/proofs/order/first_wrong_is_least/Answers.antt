use Rattle.nq_image.proofs.Places.{first-is-least}
use Rattle.nq_image.proofs.order.first_wrong_is_least.Goals as goal

pub returns : goal.returns
returns c first last place checks = first-is-least first last place checks
