-- A source in memory.
use Rattle.std.specs.Prelude.{ℕ, List, length, take, drop, ◌++◌, min, if◌then◌else◌, ◌==◌}
use Rattle.nq_io.specs.declared.source.Got.{Got}
use Rattle.nq_io.specs.declared.source.Got.TheVariants.{Bytes, End, Failed}
use Rattle.nq_io.specs.Calls.{CallCounts, is_next_listed, after_call, after_fault}

-- the bytes left, and the calls
pub record StoredSource : Type 0 where
  pub left : List ℕ
  pub calls : CallCounts

-- what a read into a buffer of this length answers: a listed call fails, and any other gives as many bytes as there are and fit
abbrev pub answer_of : StoredSource → ℕ → Got
answer_of source room =
    if is_next_listed source.calls
    then Failed
    else (if length source.left == 0 then End else Bytes (min (length source.left) room))

-- the source after a read with this answer
abbrev pub source_after : StoredSource → Got → StoredSource
source_after source (Bytes n) = record { left = drop n source.left; calls = after_call source.calls }
source_after source End = record source { calls = after_call source.calls }
source_after source Failed = record source { calls = after_fault source.calls }

-- the buffer after a read with this answer
abbrev pub buffer_after : StoredSource → Got → List ℕ → List ℕ
buffer_after source (Bytes n) buffer = take n source.left ++ drop n buffer
buffer_after source End buffer = buffer
buffer_after source Failed buffer = buffer
