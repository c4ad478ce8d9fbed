use Rattle.std.proofs.Common.{◌≡◌, ◌++◌, take, codes}
use Rattle.std.specs.List.{flat_map}
use Rattle.nq_command.specs.Answers.{loss_words}
use Rattle.nq_command.proofs.prompt.answers.push_losses.Given as goal

abbrev pub invariant-loop-place : goal.invariant-loop-place
invariant-loop-place l =
    l.out.items ≡ l.fn.out.items ++ (codes "lost: delayed writes came too late, of block" ++ flat_map loss_words (take l.place l.losses.items))
