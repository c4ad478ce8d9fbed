-- What words say.
use Rattle.nq_base.specs.Steps.{◌>>=◌}
use Rattle.std.specs.Prelude.{◌≡◌, ◌<◌, ◌≤◌, ℕ, nat_lt, List, [], ◌∷◌, Option, Some, None, if◌then◌else◌, codes, ⊤}
use Rattle.std.specs.Str.{bytes_eq}
use Rattle.nq_command.specs.declared.commands.Command.{Command}
use Rattle.nq_script.specs.WordsReading.{number_of}

-- the one word of a replay
abbrev pub IsReplay : List (List ℕ) → Type 0
IsReplay words = words ≡ codes "replay" ∷ []

-- the one word of a judgement
abbrev pub IsCheck : List (List ℕ) → Type 0
IsCheck words = words ≡ codes "check" ∷ []

-- the one word of a staged run
abbrev pub IsStaged : List (List ℕ) → Type 0
IsStaged words = words ≡ codes "staged" ∷ []

-- the one word of a run with lists
abbrev pub IsNames : List (List ℕ) → Type 0
IsNames words = words ≡ codes "names" ∷ []

-- the one word of making an image
abbrev pub IsFormat : List (List ℕ) → Type 0
IsFormat words = words ≡ codes "format" ∷ []

-- the number from `least` to `most` that a word writes in decimal, without a sign or a needless zero
unfoldable pub ranged_of : (least most : ℕ) → (word : List ℕ) → Option ℕ
ranged_of least most word = do
  value ← number_of most word
  if nat_lt value least then None else Some value

-- the kind of fate that a word names
unfoldable pub kind_of : List ℕ → Option ℕ
kind_of word =
    if bytes_eq word (codes "steady") then Some 0
    else if bytes_eq word (codes "lossy") then Some 1
    else if bytes_eq word (codes "cut") then Some 2
    else if bytes_eq word (codes "hostile") then Some 3
    else None

-- KIND START N: a kind of fate, a number below 2 ^ 64, and 1 to 100,000 events
unfoldable pub storm_of : (kind start events : List ℕ) → Option Command
storm_of kind start events = do
  kind ← kind_of kind
  start ← number_of 18446744073709551615 start
  events ← ranged_of 1 100000 events
  Some (Command.Storm kind start events)

-- HOST INC TURNS: a host below 64, an incarnation of at least 1, and 1 to 1,000,000 turns
unfoldable pub client_of : (host inc turns : List ℕ) → Option Command
client_of host inc turns = do
  host ← ranged_of 0 63 host
  inc ← ranged_of 1 4294967295 inc
  turns ← ranged_of 1 1000000 turns
  Some (Command.Client host inc turns)

-- `replay`, `check`, `staged`, `names` and `format` stand alone
unfoldable pub alone_of : (name : List ℕ) → Option Command
alone_of name =
    if bytes_eq name (codes "replay") then Some Command.Replay
    else if bytes_eq name (codes "check") then Some Command.Check
    else if bytes_eq name (codes "staged") then Some Command.Staged
    else if bytes_eq name (codes "names") then Some Command.Names
    else if bytes_eq name (codes "format") then Some Command.Format
    else None

-- TURNS and a longest term: 1 to 1,000,000 turns
unfoldable pub serve_of : (turns : List ℕ) → (longest : Option ℕ) → Option Command
serve_of turns longest = do
  turns ← ranged_of 1 1000000 turns
  longest ← longest
  Some (Command.Serve turns longest)

-- N TURNS: 1 to 64 hosts, and 1 to 1,000,000 turns
unfoldable pub loop_of : (hosts turns : List ℕ) → Option Command
loop_of hosts turns = do
  hosts ← ranged_of 1 64 hosts
  turns ← ranged_of 1 1000000 turns
  Some (Command.Loop hosts turns)

-- `serve TURNS`, where the longest term is 60
unfoldable pub counted_of : (name turns : List ℕ) → Option Command
counted_of name turns = if bytes_eq name (codes "serve") then serve_of turns (Some 60) else None

-- `serve TURNS LONGEST`, with a longest term of 5 to 600, and `loop N TURNS`
unfoldable pub paired_of : (name first second : List ℕ) → Option Command
paired_of name first second =
    if bytes_eq name (codes "serve") then serve_of first (ranged_of 5 600 second)
    else if bytes_eq name (codes "loop") then loop_of first second
    else None

-- `storm KIND START N` and `client HOST INC TURNS`
unfoldable pub numbered_of : (name first second third : List ℕ) → Option Command
numbered_of name first second third =
    if bytes_eq name (codes "storm") then storm_of first second third
    else if bytes_eq name (codes "client") then client_of first second third
    else None

-- the command that words say, if they say one
abbrev pub command_of : List (List ℕ) → Option Command
command_of (name ∷ []) = alone_of name
command_of (name ∷ first ∷ []) = counted_of name first
command_of (name ∷ first ∷ second ∷ []) = paired_of name first second
command_of (name ∷ first ∷ second ∷ third ∷ []) = numbered_of name first second third
command_of other = None

-- a longest term that a server can have
abbrev pub IsTerm : ℕ → Type 0
IsTerm longest = (5 ≤ longest) × (longest ≤ 600)

-- a number of hosts that a loop can have
abbrev pub AreHosts : ℕ → Type 0
AreHosts hosts = (1 ≤ hosts) × (hosts ≤ 64)

-- a kind of which there is a fate
abbrev pub IsKind : ℕ → Type 0
IsKind kind = kind < 4

-- a command whose server, if it has one, has a longest term that a server can have, whose storm is of a fate that there is, and a loop of as many
-- hosts as there can be
abbrev pub IsRanged : Command → Type 0
IsRanged (Command.Serve turns longest) = IsTerm longest
IsRanged (Command.Loop hosts turns) = AreHosts hosts
IsRanged (Command.Storm kind start events) = IsKind kind
IsRanged other = ⊤
