-- The test of legal journals is right.
use Rattle.std.proofs.Common.{ℕ, List}
use Rattle.std.specs.Prelude.{Option, Some, ◌==◌}
use Rattle.nq_base.specs.declared.Entry.{Entry}
use Rattle.nq_base.specs.declared.Entry.TheVariants.{R, A}
use Rattle.nq_base.specs.declared.Said.{Said}
use Rattle.nq_base.specs.declared.Said.TheVariants.{OkValue, OkBy}
use Rattle.nq_base.specs.declared.Told.{Told}
use Rattle.nq_base.specs.declared.Told.TheVariants.{Read, Fetch}
use Rattle.nq_base.specs.declared.Who.{Who}
use Rattle.nq_model.specs.laws.Journal.{call_of, since_cut}
use Rattle.nq_model.specs.laws.Stands.{Stands, IsStandingValue}
use Rattle.nq_model.specs.laws.StandsTest.{stands, standing_value}
use Rattle.nq_model.specs.laws.Legal.{IsReading, GivesValue, IsAnswerWith, IsCountedBy, IsCountedWith, IsLegalRead, IsLegalAnswer, IsLegalAt, IsLegal}
use Rattle.nq_model.specs.laws.LegalTest.{is_reading, gives_value, is_answer_with, is_counted_by, is_counted_with, is_legal_read, is_legal_answer}
use Rattle.nq_model.specs.laws.LegalTest.{is_legal_at, is_legal}
use Rattle.nq_model.specs.laws.Tests.{Tells, TellsLaw}
use Rattle.nq_model.proofs.Telling.{yes, no, tells_alike, tells_and, tells_3, tells_or, tells_not, tells_implies, tells_same}
use Rattle.nq_model.proofs.JournalTests.{tells_exists, tells_at_most_one, tells_throughout, tells_who, tells_read_by, tells_counted, tells_write_on}
use Rattle.nq_model.proofs.JournalTests.{tells_write_by, tells_through, tells_stored, tells_lost, tells_last_value}

pub tells_stands : (whole before : List Entry) (reader : Who) (file block : ℕ) (write : Entry) → Tells (stands whole before reader file block write)
    (Stands whole before reader file block write)
tells_stands whole before reader file block write =
    tells_and (tells_write_on file block write) (tells_or (tells_through write) (tells_or (tells_stored whole write)
    (tells_and (tells_write_by reader write) (tells_not (tells_lost before write)))))

pub tells_standing : (whole before : List Entry) (reader : Who) (file block value : ℕ) → Tells (value == standing_value whole before reader file
    block) (IsStandingValue whole before reader file block value)
tells_standing whole before reader file block value = tells_last_value (tells_stands whole before reader file block) (since_cut before file block) value

tells_reading : (call : Option Told) → Tells (is_reading call) (IsReading call)
tells_reading (Some (Read file block)) = yes
tells_reading (Some (Fetch file block)) = yes
tells_reading other = no

tells_gives : (value : ℕ) (said : Said) → Tells (gives_value value said) (GivesValue value said)
tells_gives value (OkValue v) = tells_same
tells_gives value (OkBy v packet) = tells_same
tells_gives value other = no

tells_answer_with : (who : Who) (q value : ℕ) (entry : Entry) → Tells (is_answer_with who q value entry) (IsAnswerWith who q value entry)
tells_answer_with who q value (A by n said) = tells_3 tells_who tells_same (tells_gives value said)
tells_answer_with who q value other = no

pub tells_counted_by : (whole : List Entry) (who : Who) (q : ℕ) (entry : Entry) → Tells (is_counted_by whole who q entry) (IsCountedBy whole who q entry)
tells_counted_by whole who q entry = tells_and (tells_read_by who q entry) (tells_counted whole entry)

tells_counted_with : (whole : List Entry) (who : Who) (q value : ℕ) (entry : Entry) → Tells (is_counted_with whole who q value entry)
    (IsCountedWith whole who q value entry)
tells_counted_with whole who q value (R by n file block v served) = tells_and tells_same (tells_counted_by whole who q (R by n file block v served))
tells_counted_with whole who q value other = no

tells_legal_read : (whole before : List Entry) (who : Who) (q file block value : ℕ) → Tells (is_legal_read whole before who q file block value)
    (IsLegalRead whole before who q file block value)
tells_legal_read whole before who q file block value =
    tells_alike
    (λ h. record { standing = h.0; call = h.1; answer = h.2 })
    (λ h. (h.standing, h.call, h.answer))
    (tells_3 (tells_standing whole before who file block value) (tells_reading (call_of whole who q)) (tells_exists (tells_answer_with who q value) whole))

tells_legal_answer : (whole : List Entry) (who : Who) (q value : ℕ) → Tells (is_legal_answer whole who q value) (IsLegalAnswer whole who q value)
tells_legal_answer whole who q value =
    tells_alike
    (λ h. record { read = h.0; only = h.1 })
    (λ h. (h.read, h.only))
    (tells_and (tells_exists (tells_counted_with whole who q value) whole) (tells_at_most_one (tells_counted_by whole who q) whole))

pub tells_legal_at : (whole : List Entry) (entry : Entry) (before : List Entry) → Tells (is_legal_at whole entry before) (IsLegalAt whole entry before)
tells_legal_at whole (R who q file block value served) before = tells_implies (tells_counted whole (R who q file block value served))
    (tells_legal_read whole before who q file block value)
tells_legal_at whole (A who q (OkValue value)) before = tells_implies (tells_reading (call_of whole who q)) (tells_legal_answer whole who q value)
tells_legal_at whole (A who q (OkBy value packet)) before = tells_implies (tells_reading (call_of whole who q)) (tells_legal_answer whole who q value)
tells_legal_at whole other before = yes

pub tells_legal : TellsLaw is_legal IsLegal
tells_legal journal = tells_throughout (tells_legal_at journal) journal
