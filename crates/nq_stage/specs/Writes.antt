-- Delayed writes, told apart.
use Rattle.std.specs.Prelude.{Bool, ◌==◌, ◌&&◌}
use Rattle.nq_stage.specs.declared.messages.Written.{Written}

-- whether two writes are one: by host, incarnation, file, block and number
abbrev pub is_same : Written → Written → Bool
is_same v w = v.host == w.host && v.inc == w.inc && v.file == w.file && v.block == w.block && v.last == w.last
