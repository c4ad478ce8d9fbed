-- The test of sound journals is right.
use Rattle.nq_model.specs.laws.Sound.{IsSound}
use Rattle.nq_model.specs.laws.SoundTest.{is_sound}
use Rattle.nq_model.specs.laws.Tests.{TellsLaw}
use Rattle.nq_model.proofs.Telling.{tells_alike, tells_and, tells_5}
use Rattle.nq_model.proofs.LegalTest.{tells_legal}
use Rattle.nq_model.proofs.LossTests.{tells_accounted, tells_excused, tells_reported}
use Rattle.nq_model.proofs.OrderedTest.{tells_ordered}
use Rattle.nq_model.proofs.SynchronizedTest.{tells_synchronized}

pub tells_sound : TellsLaw is_sound IsSound
tells_sound journal =
    tells_alike
    (λ h. record { legal = h.0.0; ordered = h.0.1; accounted = h.0.2; excused = h.0.3; reported = h.0.4; synchronized = h.1 })
    (λ h. ((h.legal, h.ordered, h.accounted, h.excused, h.reported), h.synchronized))
    (tells_and (tells_5 (tells_legal journal) (tells_ordered journal) (tells_accounted journal) (tells_excused journal) (tells_reported journal))
    (tells_synchronized journal))
