-- The tests of reads that are of their call: each is true exactly where its fact holds.
use Rattle.std.specs.Prelude.{ℕ, List, Option, Some, Bool, true, false, not, ◌&&◌, ◌||◌, ◌==◌}
use Rattle.nq_base.specs.declared.Entry.{Entry}
use Rattle.nq_base.specs.declared.Entry.TheVariants.{R}
use Rattle.nq_base.specs.declared.Told.{Told}
use Rattle.nq_base.specs.declared.Told.TheVariants.{Read, Fetch}
use Rattle.nq_model.specs.laws.Journal.{call_of}
use Rattle.nq_model.specs.laws.JournalTest.{each, is_counted}

abbrev pub reads : (file block : ℕ) → Option Told → Bool
reads file block (Some (Read f b)) = (f == file) && (b == block)
reads file block (Some (Fetch f b)) = (f == file) && (b == block)
reads file block other = false

abbrev pub is_of_its_call : (whole : List Entry) → Entry → Bool
is_of_its_call whole (R who q file block value served) = not (is_counted whole (R who q file block value served)) || reads file block (call_of whole who q)
is_of_its_call whole other = true

abbrev pub are_of_their_call : (journal : List Entry) → Bool
are_of_their_call journal = each (is_of_its_call journal) journal
