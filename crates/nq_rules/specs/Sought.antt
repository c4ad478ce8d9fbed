-- What is looked for along links.
use Rattle.std.specs.Prelude.{Bool}
use Rattle.nq_base.specs.declared.Entry.{Entry}
use Rattle.nq_rules.specs.Keys.{block_spot, own_spot}
use Rattle.nq_rules.specs.Marks.{Spot, spot}
use Rattle.nq_rules.specs.declared.keys.KeyKind.{KeyKind}
use Rattle.nq_rules.specs.declared.keys.KeyKind.TheVariants.{Calls, Covers, Cuts, Own}
use Rattle.nq_rules.specs.declared.sought.Sought.{Sought}
use Rattle.nq_rules.specs.declared.sought.Sought.TheVariants.{Call, Answer, AnswerBy, AnswerWith, Busy, Resize, Cut, Cover, Store, Loss, Covered, Lost}
use Rattle.nq_model.specs.laws.Journal.{cuts}
use Rattle.nq_model.specs.laws.JournalTest.{covers, is_answer, is_answer_by, is_call, loss_covers, store_covers}
use Rattle.nq_model.specs.laws.LegalTest.{is_answer_with}
use Rattle.nq_model.specs.laws.OrderedTest.{is_resize_by}
use Rattle.nq_model.specs.laws.ReportedTest.{is_busy_answer}

-- whether an entry is what is looked for
abbrev pub passes : Sought → Entry → Bool
passes (Call who q) entry = is_call who.now q entry
passes (Answer who q) entry = is_answer who.now q entry
passes (AnswerBy who q packet) entry = is_answer_by who.now q packet entry
passes (AnswerWith who q value) entry = is_answer_with who.now q value entry
passes (Busy who q) entry = is_busy_answer who.now q entry
passes (Resize who q) entry = is_resize_by who.now q entry
passes (Cut file block) entry = cuts entry file.now block.now
passes (Cover write) entry = covers entry write.now
passes (Store write) entry = store_covers entry write.now
passes (Loss write) entry = loss_covers entry write.now
passes (Covered cover) entry = covers cover.now entry
passes (Lost loss) entry = loss_covers loss.now entry

-- the key of the links to follow
abbrev pub spot_sought : Sought → Spot
spot_sought (Call who q) = spot who.now q 0
spot_sought (Answer who q) = spot who.now q 0
spot_sought (AnswerBy who q packet) = spot who.now q 0
spot_sought (AnswerWith who q value) = spot who.now q 0
spot_sought (Busy who q) = spot who.now q 0
spot_sought (Resize who q) = spot who.now q 0
spot_sought (Cut file block) = block_spot file.now 0
spot_sought (Cover write) = own_spot write.now
spot_sought (Store write) = own_spot write.now
spot_sought (Loss write) = own_spot write.now
spot_sought (Covered cover) = own_spot cover.now
spot_sought (Lost loss) = own_spot loss.now

-- the kind of the links to follow
abbrev pub kind_sought : Sought → KeyKind
kind_sought (Call who q) = Calls
kind_sought (Answer who q) = Calls
kind_sought (AnswerBy who q packet) = Calls
kind_sought (AnswerWith who q value) = Calls
kind_sought (Busy who q) = Calls
kind_sought (Resize who q) = Calls
kind_sought (Cut file block) = Cuts
kind_sought (Cover write) = Covers
kind_sought (Store write) = Covers
kind_sought (Loss write) = Covers
kind_sought (Covered cover) = Own
kind_sought (Lost loss) = Own
