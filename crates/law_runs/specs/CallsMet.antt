-- There is a schedule whose journal has entries of each kind of which the laws speak.
use Rattle.std.specs.Prelude.{ℕ, Bool, true, false, List, Some, None, IsTrue}
use Rattle.nq_base.specs.declared.Entry.{Entry}
use Rattle.nq_base.specs.declared.Entry.TheVariants.{W, R, Z}
use Rattle.nq_base.specs.declared.Event.{Event}
use Rattle.nq_model.specs.laws.Bounds.{KeepsBounds}
use Rattle.nq_model.specs.laws.FateTest.{is_delayed}
use Rattle.nq_model.specs.laws.JournalTest.{exists, is_counted}
use Rattle.nq_model.specs.protocol.Skew.{IsWithinSkew}
use Rattle.nq_model.specs.protocol.World.{Head, run}

-- whether an entry is a write that went through
abbrev pub went_through : Entry → Bool
went_through (W who file block number value true) = true
went_through other = false

-- whether an entry gives a file another length
abbrev pub is_resize : Entry → Bool
is_resize (Z who q file from to) = true
is_resize other = false

-- whether an entry is a cached read
abbrev pub is_cached : Entry → Bool
is_cached (R who q file block value None) = true
is_cached other = false

-- whether an entry is a served read that is counted in the whole journal
abbrev pub is_counted_served : (whole : List Entry) → Entry → Bool
is_counted_served whole (R who q file block value (Some packet)) = is_counted whole (R who q file block value (Some packet))
is_counted_served whole other = false

-- the premises are met, and not in vain: after some schedule the journal has entries of each kind of which the laws speak
pub record AreMet : Type 0 where
  pub most : ℕ
  pub head : Head
  pub events : List Event
  pub bounds : KeepsBounds most head events
  pub within : IsWithinSkew head.hosts most events
  pub delayed : IsTrue (exists is_delayed (run head events).journal)
  pub through : IsTrue (exists went_through (run head events).journal)
  pub resized : IsTrue (exists is_resize (run head events).journal)
  pub cached : IsTrue (exists is_cached (run head events).journal)
  pub served : IsTrue (exists (is_counted_served (run head events).journal) (run head events).journal)
