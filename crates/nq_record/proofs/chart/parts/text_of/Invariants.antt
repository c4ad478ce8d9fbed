use Rattle.std.proofs.Common.{◌≡◌, string_bytes, take}
use Rattle.std.specs.List.{flat_map}
use Rattle.nq_record.specs.Page.{spelled}
use Rattle.nq_record.proofs.chart.parts.text_of.Given as goal

abbrev pub invariant-loop-part : goal.invariant-loop-part
invariant-loop-part l = string_bytes l.text ≡ flat_map spelled (take l.part-index l.parts)
