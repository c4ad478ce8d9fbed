use Rattle.nq_store.proofs.Closed.{blanked_bytes, front-wrong, no-version, read-so, same-parts}
use Rattle.nq_store.proofs.images.reading.a_closed_image_is_read_as_it_opens.Goals as goal

pub returns-clause-none : goal.returns-clause-none
returns-clause-none c bytes so none = no-version bytes so none

pub returns-clause-front : goal.returns-clause-front
returns-clause-front c bytes place so wrong = front-wrong bytes so.image so.two place wrong

pub returns-clause-parts : goal.returns-clause-parts
returns-clause-parts c bytes front head window size result so parts holds =
    read-so bytes so.image so.two result (holds (blanked_bytes bytes so.image) (same-parts bytes so.image front head window size parts))
