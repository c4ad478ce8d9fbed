-- The test that a write stands for a read: each is true exactly where its fact holds.
use Rattle.std.specs.Prelude.{ℕ, List, Bool, not, ◌&&◌, ◌||◌}
use Rattle.nq_base.specs.declared.Entry.{Entry}
use Rattle.nq_base.specs.declared.Who.{Who}
use Rattle.nq_model.specs.laws.Journal.{since_cut, last_value}
use Rattle.nq_model.specs.laws.JournalTest.{is_write_on, is_write_by, is_through, is_stored, is_lost}

abbrev pub stands : (whole before : List Entry) (reader : Who) (file block : ℕ) (write : Entry) → Bool
stands whole before reader file block write =
    is_write_on file block write && (is_through write || (is_stored whole write || is_write_by reader write && not (is_lost before write)))

abbrev pub standing_value : (whole before : List Entry) (reader : Who) (file block : ℕ) → ℕ
standing_value whole before reader file block = last_value (stands whole before reader file block) (since_cut before file block)
