use Rattle.nq_store.proofs.Saying.{as-head, right-one, wrong-one}
use Rattle.nq_store.proofs.images.head.an_image_of_version_one_is_what_its_first_bytes_say.Goals as goal

pub returns-clause-head : goal.returns-clause-head
returns-clause-head c bytes = as-head bytes

pub returns-clause-right : goal.returns-clause-right
returns-clause-right c bytes found begins one is = right-one bytes found begins one is

pub returns-clause-wrong : goal.returns-clause-wrong
returns-clause-wrong c bytes place closed begins one is = wrong-one bytes place closed begins one is
