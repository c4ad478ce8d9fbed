-- With the four fates only words that say no command say nothing.
use Rattle.std.proofs.Common.{◌≡◌, ◌<◌, ◌≢◌, ◌∙◌, ℕ, zero, suc, List, [], ◌∷◌, Option, Some, None, map, refl, arith}
use Rattle.std.specs.Option.{option_map}
use Rattle.std.specs.Prelude.{IfSome, ⊤}
use Rattle.nq_command.specs.Commands.{IsRanged}
use Rattle.nq_command.specs.declared.commands.Command.{Command}
use Rattle.nq_run.specs.Commands.{AreTheFour, SaysNothing}
use Rattle.nq_storm.specs.Kinds.{IsNotOf, LackKind}
use Rattle.nq_storm.specs.Rules.{Rule}

-- the kind of a fate, where it tells its rule
abbrev kind_told : Option Rule → Option ℕ
kind_told tells = option_map (λ rule. rule.kind) tells

not-its-kind : (tells : Option Rule) (one kind : ℕ) → kind_told tells ≡ Some one → IsNotOf tells kind → one ≢ kind
not-its-kind None one kind is lacks = absurd (cc)
not-its-kind (Some rule) one kind is lacks = let its : rule.kind ≡ one = cc in λ same. lacks (its ∙ same)

-- none of these is the kind
abbrev NoneIs : (kind : ℕ) → List ℕ → Type 0
NoneIs kind [] = ⊤
NoneIs kind (one ∷ kinds) = (one ≢ kind) × NoneIs kind kinds

none-of-them : (told : List (Option Rule)) (kinds : List ℕ) (kind : ℕ) → map kind_told told ≡ map (λ one. Some one) kinds → LackKind kind told
    → NoneIs kind kinds
none-of-them [] [] kind are lacks = tt
none-of-them [] (one ∷ kinds) kind are lacks = absurd (cc)
none-of-them (tells ∷ told) [] kind are lacks = absurd (cc)
none-of-them (tells ∷ told) (one ∷ kinds) kind are lacks =
    let first : kind_told tells ≡ Some one = cc in
    let later : map kind_told told ≡ map (λ it. Some it) kinds = cc in
    (not-its-kind tells one kind first (lacks 0 tells (omega arith)), none-of-them told kinds kind later (λ k d below. lacks (suc k) d (omega arith)))

-- no kind is left
no-other : (kind : ℕ) → kind < 4 → NoneIs kind (0 ∷ 1 ∷ 2 ∷ 3 ∷ []) → ⊥
no-other zero few (not0, later) = not0 refl
no-other (suc zero) few (not0, (not1, later)) = not1 refl
no-other (suc (suc zero)) few (not0, (not1, (not2, later))) = not2 refl
no-other (suc (suc (suc zero))) few (not0, (not1, (not2, (not3, later)))) = not3 refl
no-other (suc (suc (suc (suc kind)))) few none = absurd (omega arith)

-- words that say a command say something
pub said-none : (said : Option Command) (told : List (Option Rule)) → AreTheFour told → IfSome said IsRanged → SaysNothing said told → said ≡ None
said-none None told four ranged nothing = refl
said-none (Some (Command.Storm kind start events)) told four ranged nothing =
    absurd (no-other kind ranged (none-of-them told (0 ∷ 1 ∷ 2 ∷ 3 ∷ []) kind four nothing))
said-none (Some Command.Format) told four ranged nothing = absurd nothing
said-none (Some (Command.Serve turns longest)) told four ranged nothing = absurd nothing
said-none (Some Command.Replay) told four ranged nothing = absurd nothing
said-none (Some (Command.Loop hosts turns)) told four ranged nothing = absurd nothing
said-none (Some Command.Check) told four ranged nothing = absurd nothing
said-none (Some Command.Staged) told four ranged nothing = absurd nothing
said-none (Some Command.Names) told four ranged nothing = absurd nothing
said-none (Some (Command.Client host inc turns)) told four ranged nothing = absurd nothing
