-- The laws of a disk, of one file.
use Rattle.std.proofs.Common.{refl, ◌∙◌, arith}
use Rattle.nq_disk.specs.FileDisk.{SeenFile, StaysFile}

pub stays-itself : (disk : SeenFile) → StaysFile disk disk
stays-itself disk = record { path = refl; rises = omega arith }

pub stays-on : (first second third : SeenFile) → StaysFile first second → StaysFile second third → StaysFile first third
stays-on first second third one two = let a = one.rises in let b = two.rises in record { path = two.path ∙ one.path; rises = omega arith }
