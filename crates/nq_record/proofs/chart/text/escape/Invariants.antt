use Rattle.std.proofs.Common.{◌≡◌, ◌++◌, take}
use Rattle.std.specs.List.{flat_map}
use Rattle.nq_record.specs.Page.{escaped_byte}
use Rattle.nq_record.proofs.chart.text.escape.Given as goal

abbrev pub invariant-loop-byte : goal.invariant-loop-byte
invariant-loop-byte l = l.page.items ≡ l.fn.page.items ++ flat_map escaped_byte (take l.byte-index l.bytes)
