-- What no write has touched is zeros, in every run.
use Rattle.std.specs.Prelude.{◌≡◌, ◌&&◌, ◌==◌, ℕ, Bool, false, List, Some, slice_get}
use Rattle.nq_base.specs.Block.{zeros}
use Rattle.nq_base.specs.declared.Entry.{Entry}
use Rattle.nq_base.specs.declared.Entry.TheVariants.{W, S}
use Rattle.nq_base.specs.declared.Event.{Event}
use Rattle.nq_model.specs.laws.Journal.{since_cut}
use Rattle.nq_model.specs.laws.JournalTest.{exists}
use Rattle.nq_model.specs.protocol.Kept.{File, find_file}
use Rattle.nq_model.specs.protocol.World.{Head, run}

-- whether an entry writes a block at the server: a write that goes through, or delayed writes that are stored
abbrev pub touches : (file block : ℕ) → Entry → Bool
touches file block (W who f b number value through) = through && (f == file) && (b == block)
touches file block (S who f b first last now) = (f == file) && (b == block)
touches file block other = false

-- each block of a kept file that no entry wrote since a Z cut it is zeros, all 4096 bytes of it
abbrev pub AreZeros : List File → (journal : List Entry) → Type 0
AreZeros files journal =
    (id : ℕ) (f : File) (block : ℕ) (body : List ℕ)
    → find_file id files ≡ Some f
    → slice_get f.bodies block ≡ Some body
    → exists (touches id block) (since_cut journal id block) ≡ false
    → body ≡ zeros

-- after every schedule, over all crashes and however the clocks ran
abbrev pub UntouchedAreZerosInEveryRun : Type 0
UntouchedAreZerosInEveryRun = (head : Head) (events : List Event) → AreZeros (run head events).server.kept.files (run head events).journal
