-- The tests of sound journals: each is true exactly where its fact holds.
use Rattle.std.specs.Prelude.{List, Bool, ◌&&◌}
use Rattle.nq_base.specs.declared.Entry.{Entry}
use Rattle.nq_model.specs.laws.CutOffTest.{is_excused}
use Rattle.nq_model.specs.laws.FateTest.{is_accounted}
use Rattle.nq_model.specs.laws.LegalTest.{is_legal}
use Rattle.nq_model.specs.laws.OrderedTest.{is_ordered}
use Rattle.nq_model.specs.laws.ReportedTest.{is_reported}
use Rattle.nq_model.specs.laws.SynchronizedTest.{is_synchronized}

abbrev pub is_sound : List Entry → Bool
is_sound journal =
    is_legal journal && is_ordered journal && is_accounted journal && is_excused journal && is_reported journal && is_synchronized journal
