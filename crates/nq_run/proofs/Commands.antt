-- What the words of one word say, and what a command keeps.
use Rattle.std.proofs.Common.{◌≡◌, ℕ, Bool, true, false, List, Some, refl}
use Rattle.nq_command.specs.Commands.{IsCheck, IsFormat, IsNames, IsReplay, IsStaged, alone_of, command_of}
use Rattle.nq_command.specs.declared.commands.Command.{Command}
use Rattle.nq_run.specs.Frames.{Unless}

pub says_replay : (words : List (List ℕ)) → IsReplay words → command_of words ≡ Some Command.Replay
unfolding alone_of
says_replay words is = rw is refl

pub says_check : (words : List (List ℕ)) → IsCheck words → command_of words ≡ Some Command.Check
unfolding alone_of
says_check words is = rw is refl

pub says_staged : (words : List (List ℕ)) → IsStaged words → command_of words ≡ Some Command.Staged
unfolding alone_of
says_staged words is = rw is refl

pub says_names : (words : List (List ℕ)) → IsNames words → command_of words ≡ Some Command.Names
unfolding alone_of
says_names words is = rw is refl

pub says_format : (words : List (List ℕ)) → IsFormat words → command_of words ≡ Some Command.Format
unfolding alone_of
says_format words is = rw is refl

-- what is not so leaves the other
pub left_so : (b : Bool) (P : Type 0) → b ≡ false → Unless b P → P
left_so true P is so = absurd (cc)
left_so false P is so = so
