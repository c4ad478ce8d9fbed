-- What each command does.
use Rattle.std.specs.Prelude.{◌≡◌, ℕ, List, [], ◌∷◌, Option, Some, None, map, ⊤}
use Rattle.std.specs.Option.{option_map}
use Rattle.nq_command.specs.declared.commands.Command.{Command}
use Rattle.nq_storm.specs.Kinds.{LackKind, TellOthers}
use Rattle.nq_storm.specs.Rules.{Rule}

-- words that say no command, or a storm for which each fate that tells its rule is of another kind
abbrev pub SaysNothing : Option Command → (told : List (Option Rule)) → Type 0
SaysNothing None told = ⊤
SaysNothing (Some (Command.Storm kind start events)) told = LackKind kind told
SaysNothing other told = ⊥

-- words that say no command, or a storm for which each fate tells its rule and is of another kind
abbrev pub NeverSays : Option Command → (told : List (Option Rule)) → Type 0
NeverSays (Some (Command.Storm kind start events)) told = TellOthers kind told
NeverSays other told = SaysNothing other told

-- the four fates: each tells its rule, and they are of the kinds 0 to 3 in this order
abbrev pub AreTheFour : (told : List (Option Rule)) → Type 0
AreTheFour told = map (option_map (λ rule. rule.kind)) told ≡ Some 0 ∷ Some 1 ∷ Some 2 ∷ Some 3 ∷ []

-- what the command that is said does, of what each command does
abbrev pub Does : Option Command → (formats : Type 0) → (serves : (turns longest : ℕ) → Type 0) → (replays : Type 0)
    → (storms : (kind start events : ℕ) → Type 0) → (loops : (hosts turns : ℕ) → Type 0) → (checks stages names : Type 0)
    → (attends : (host inc turns : ℕ) → Type 0) → Type 0
Does None formats serves replays storms loops checks stages names attends = ⊤
Does (Some Command.Format) formats serves replays storms loops checks stages names attends = formats
Does (Some (Command.Serve turns longest)) formats serves replays storms loops checks stages names attends = serves turns longest
Does (Some Command.Replay) formats serves replays storms loops checks stages names attends = replays
Does (Some (Command.Storm kind start events)) formats serves replays storms loops checks stages names attends = storms kind start events
Does (Some (Command.Loop hosts turns)) formats serves replays storms loops checks stages names attends = loops hosts turns
Does (Some Command.Check) formats serves replays storms loops checks stages names attends = checks
Does (Some Command.Staged) formats serves replays storms loops checks stages names attends = stages
Does (Some Command.Names) formats serves replays storms loops checks stages names attends = names
Does (Some (Command.Client host inc turns)) formats serves replays storms loops checks stages names attends = attends host inc turns
