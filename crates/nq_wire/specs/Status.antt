-- The numbers of statuses other than OK, which is 0. Those below 100 are RFC 1813's.
use Rattle.std.specs.Prelude.{ℕ}
use Rattle.nq_base.specs.declared.Refusal.{Refusal}
use Rattle.nq_base.specs.declared.Refusal.TheVariants.{NoEnt, Exist, Inval, NoSpc, Stale, TryLater, Fenced, NotAttached, Old}

-- the number of a status
abbrev pub status_number : Refusal → ℕ
status_number NoEnt = 2
status_number Exist = 17
status_number Inval = 22
status_number NoSpc = 28
status_number Stale = 70
status_number TryLater = 501
status_number Fenced = 502
status_number NotAttached = 503
status_number Old = 504
