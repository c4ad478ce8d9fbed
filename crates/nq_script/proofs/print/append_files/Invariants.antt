use Rattle.std.proofs.Common.{◌≡◌, ◌++◌, map, take}
use Rattle.nq_script.specs.Heads.{file_line}
use Rattle.nq_script.specs.Text.{text_of}
use Rattle.nq_script.proofs.print.append_files.Given as goal

abbrev pub invariant-loop-place : goal.invariant-loop-place
invariant-loop-place l = l.text.items ≡ l.fn.text.items ++ text_of (map file_line (take l.place l.files))
