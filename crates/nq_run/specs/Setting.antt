-- What the program hands to a run for its words, and the exit status that it makes of a run.
use Rattle.std.specs.Prelude.{ℕ, zero, suc, List, [], ◌∷◌, ◌++◌, Option, Some, Result, Ok, Err}
use Rattle.nq_base.specs.Status.{status_of}
use Rattle.nq_base.specs.declared.NoMemory.{NoMemory}
use Rattle.nq_base.specs.declared.Party.{Party}
use Rattle.nq_base.specs.declared.ending.ending.Ending.{Ending}
use Rattle.nq_command.specs.declared.commands.Command.{Command}
use Rattle.nq_run.specs.declared.setting.Place.{Place}

-- an image is made in the file and served from it; all else has a disk in memory
abbrev pub place_of : Option Command → Place
place_of (Some Command.Format) = Place.File
place_of (Some (Command.Serve turns longest)) = Place.File
place_of other = Place.Memory

-- a client has the link of its host; all else has the server's
abbrev pub party_of : Option Command → Party
party_of (Some (Command.Client host inc turns)) = Party.Client host
party_of other = Party.Server

-- the clients of so many hosts, in the order of the hosts
abbrev pub clients_below : (hosts : ℕ) → List Party
clients_below zero = []
clients_below (suc host) = clients_below host ++ Party.Client host ∷ []

-- a loop has the server's link, and behind it that of each of its hosts
abbrev pub parties_of : Option Command → List Party
parties_of (Some (Command.Loop hosts turns)) = Party.Server ∷ clients_below hosts
parties_of other = []

-- a run that ended gives its status; where none began, memory was wanting
abbrev pub exit_status_of : Result ℕ NoMemory → ℕ
exit_status_of (Ok status) = status
exit_status_of (Err NoMemory.Memory) = status_of Ending.Memory
