-- A sink in memory.
use Rattle.std.specs.Prelude.{ℕ, ◌+◌, List, length, ◌++◌, if◌then◌else◌, ◌||◌, nat_lt}
use Rattle.nq_io.specs.declared.sink.Put.{Put}
use Rattle.nq_io.specs.declared.sink.Put.TheVariants.{All, Failed}
use Rattle.nq_io.specs.Calls.{CallCounts, is_next_listed, after_call, after_fault}

-- the bytes held, the most that it holds, and the calls
pub record StoredSink : Type 0 where
  pub held : List ℕ
  pub room : ℕ
  pub calls : CallCounts

-- what a put of these bytes answers: it fails where the call is listed and where the bytes do not fit
abbrev pub answer_of : StoredSink → List ℕ → Put
answer_of sink bytes =
    if is_next_listed sink.calls || nat_lt sink.room (length sink.held + length bytes) then Failed else All

-- the sink after a put of these bytes with this answer
abbrev pub sink_after : StoredSink → List ℕ → Put → StoredSink
sink_after sink bytes All = record sink { held = sink.held ++ bytes; calls = after_call sink.calls }
sink_after sink bytes Failed = record sink { calls = after_fault sink.calls }
