-- There is a schedule whose journal has an ok of each form of which the law speaks.
use Rattle.std.specs.Prelude.{◌&&◌, ℕ, Bool, true, false, List, Option, Some, IsTrue}
use Rattle.nq_base.specs.declared.Entry.{Entry}
use Rattle.nq_base.specs.declared.Entry.TheVariants.{A}
use Rattle.nq_base.specs.declared.Event.{Event}
use Rattle.nq_base.specs.declared.Said.{Said}
use Rattle.nq_base.specs.declared.Said.TheVariants.{Ok, OkValue, OkBy}
use Rattle.nq_base.specs.declared.Told.{Told}
use Rattle.nq_base.specs.declared.Told.TheVariants.{Read, Write, Put, Resize}
use Rattle.nq_model.specs.laws.Bounds.{KeepsBounds}
use Rattle.nq_model.specs.laws.Journal.{call_of}
use Rattle.nq_model.specs.laws.JournalTest.{exists}
use Rattle.nq_model.specs.protocol.Skew.{IsWithinSkew}
use Rattle.nq_model.specs.protocol.World.{Head, run}

-- whether an answer is `ok` to a `write`
abbrev pub is_write_done : Said → Option Told → Bool
is_write_done Ok (Some (Write file block value)) = true
is_write_done said call = false

-- whether it is `ok` to a `put`
abbrev pub is_put_done : Said → Option Told → Bool
is_put_done Ok (Some (Put file block value)) = true
is_put_done said call = false

-- whether it is `ok` to a `resize`
abbrev pub is_resize_done : Said → Option Told → Bool
is_resize_done Ok (Some (Resize file blocks)) = true
is_resize_done said call = false

-- whether it is `ok` to a `read`, with a value from the cache
abbrev pub is_cached_done : Said → Option Told → Bool
is_cached_done (OkValue value) (Some (Read file block)) = true
is_cached_done said call = false

-- whether it is `ok` to a `read`, by a packet
abbrev pub is_read_done : Said → Option Told → Bool
is_read_done (OkBy value packet) (Some (Read file block)) = true
is_read_done said call = false

-- whether the entry is an A that passes a test, together with what its call asks
abbrev pub is_answer : (Said → Option Told → Bool) → (whole : List Entry) → Entry → Bool
is_answer test whole (A who q said) = test said (call_of whole who q)
is_answer test whole other = false

-- whether a journal has such an A
abbrev pub has_answer : (Said → Option Told → Bool) → (journal : List Entry) → Bool
has_answer test journal = exists (is_answer test journal) journal

-- whether a journal has an ok of each form
abbrev pub has_each : (journal : List Entry) → Bool
has_each journal =
    has_answer is_write_done journal && has_answer is_put_done journal && has_answer is_resize_done journal && has_answer is_cached_done journal &&
    has_answer is_read_done journal

-- the premises are met, and not in vain: after some schedule within skew a `write`, a `put`, a `resize` and two reads were
-- answered ok
pub record DeedsAreMet : Type 0 where
  pub most : ℕ
  pub head : Head
  pub events : List Event
  pub bounds : KeepsBounds most head events
  pub within : IsWithinSkew head.hosts most events
  pub answered : IsTrue (has_each (run head events).journal)
