use Rattle.nqnfs.proofs.top.ran.Goals as goal

pub returns : goal.returns
returns g c = record { never = λ nothing. c.run-ended.ensures.never (rw nothing tt) }
