use Rattle.std.proofs.Common.{◌≡◌, ◌++◌, length, map}
use Rattle.nq_script.specs.Heads.{FitFiles, blocks_of, file_line}
use Rattle.nq_script.specs.Text.{text_of}
use Rattle.nq_script.proofs.heads.read_files.Given as goal

abbrev pub invariant-lines : goal.invariant-lines
invariant-lines l = record {
  split : l.text ≡ text_of (map file_line l.files) ++ l.rest;
  fit : FitFiles l.files;
  sum : l.total ≡ blocks_of l.files;
}

abbrev pub decreases-lines : goal.decreases-lines
decreases-lines l = length l.rest
