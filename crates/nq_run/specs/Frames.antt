-- What each command uses. All else that `run` is handed stays as it was.
use Rattle.std.specs.Prelude.{Bool, true, false, Option, Some, ⊤}
use Rattle.nq_command.specs.declared.commands.Command.{Command}

-- a replay, a judgement and a client read the input
abbrev pub reads_input : Option Command → Bool
reads_input (Some Command.Replay) = true
reads_input (Some Command.Staged) = true
reads_input (Some Command.Names) = true
reads_input (Some Command.Check) = true
reads_input (Some (Command.Client host inc turns)) = true
reads_input other = false

-- a server and a client use the one link
abbrev pub uses_link : Option Command → Bool
uses_link (Some (Command.Serve turns longest)) = true
uses_link (Some (Command.Client host inc turns)) = true
uses_link other = false

-- a loop uses the links of its server and its hosts
abbrev pub uses_links : Option Command → Bool
uses_links (Some (Command.Loop hosts turns)) = true
uses_links other = false

-- a server, a client and a loop read the clock
abbrev pub reads_clock : Option Command → Bool
reads_clock (Some (Command.Serve turns longest)) = true
reads_clock (Some (Command.Client host inc turns)) = true
reads_clock (Some (Command.Loop hosts turns)) = true
reads_clock other = false

-- a storm asks a fate
abbrev pub uses_fates : Option Command → Bool
uses_fates (Some (Command.Storm kind start events)) = true
uses_fates other = false

-- a replay, a storm and a loop make a run, over what keeps nothing yet
abbrev pub makes_a_run : Option Command → Bool
makes_a_run (Some Command.Replay) = true
makes_a_run (Some (Command.Storm kind start events)) = true
makes_a_run (Some (Command.Loop hosts turns)) = true
makes_a_run other = false

-- what makes a run uses the disk, a server does, and so does the command that makes an empty image
abbrev pub uses_disk : Option Command → Bool
uses_disk (Some Command.Format) = true
uses_disk (Some (Command.Serve turns longest)) = true
uses_disk other = makes_a_run other

-- unless this is so, the other is
abbrev pub Unless : Bool → Type 0 → Type 0
Unless true P = ⊤
Unless false P = P
