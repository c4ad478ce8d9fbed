-- The calls that a source or a sink in memory was given.
use Rattle.std.specs.Prelude.{ℕ, Bool, List, ◌==◌}
use Rattle.std.specs.List.{list_any}
use Rattle.nq_io.specs.Faults.{count_up}

-- how many calls were made, the numbers of those that are to fail, counted from 0, and the count of faults
pub record CallCounts : Type 0 where
  pub made : ℕ
  pub failing : List ℕ
  pub faults : ℕ

-- before the first call
abbrev pub fresh : List ℕ → CallCounts
fresh failing = record { made = 0; failing = failing; faults = 0 }

-- whether the next call is listed to fail
abbrev pub is_next_listed : CallCounts → Bool
is_next_listed calls = list_any (λ number. number == calls.made) calls.failing

-- after a call that does not fail
abbrev pub after_call : CallCounts → CallCounts
after_call calls = record calls { made = count_up calls.made }

-- after a call that fails
abbrev pub after_fault : CallCounts → CallCounts
after_fault calls = record calls { made = count_up calls.made; faults = count_up calls.faults }
