-- What words say is within its range.
use Rattle.std.proofs.Common.{◌≡◌, ◌≤◌, ℕ, Bool, true, false, nat_le, nat_lt, List, [], ◌∷◌, Option, Some, None, codes, refl, arith}
use Rattle.std.specs.Prelude.{IfSome, if◌then◌else◌}
use Rattle.std.specs.Str.{bytes_eq}
use Rattle.std.proofs.lemmas.Bool.Decides.{nat_tests}
use Rattle.nq_base.specs.Steps.{◌>>=◌}
use Rattle.nq_command.specs.Commands.{AreHosts, IsKind, IsRanged, IsTerm, alone_of, client_of, command_of, counted_of, kind_of, loop_of, numbered_of}
use Rattle.nq_command.specs.Commands.{paired_of, ranged_of, serve_of, storm_of}
use Rattle.nq_command.specs.declared.commands.Command.{Command}
use Rattle.nq_script.specs.WordsReading.{number_of, only_if, u64_of}

-- the first of two, or the other
one_of : {A : Type 0} (P : A → Type 0) (test : Bool) (one other : Option A) → IfSome one P → IfSome other P → IfSome (if test then one else other) P
one_of P true one other is so = is
one_of P false one other is so = so

-- what follows from a step
behind : {A B : Type 0} (P : A → Type 0) (Q : B → Type 0) (step : Option A) (next : A → Option B) → IfSome step P
    → ((x : A) → P x → IfSome (next x) Q) → IfSome (step >>= next) Q
behind P Q None next is all = tt
behind P Q (Some x) next is all = all x is

-- what follows from any step
behind_any : {A B : Type 0} (Q : B → Type 0) (step : Option A) (next : A → Option B) → ((x : A) → IfSome (next x) Q) → IfSome (step >>= next) Q
behind_any Q None next all = tt
behind_any Q (Some x) next all = all x

-- ---- numbers

up_to : (most n : ℕ) (test : Bool) → nat_le n most ≡ test → IfSome (only_if test n) (λ v. v ≤ most)
up_to most n true is = grind (arith, nat_tests)
up_to most n false is = tt

number_within : (most : ℕ) (word : List ℕ) → IfSome (number_of most word) (λ v. v ≤ most)
unfolding number_of
number_within most word = behind_any (λ v. v ≤ most) (u64_of word) (λ n. only_if (nat_le n most) n) (λ n. up_to most n (nat_le n most) refl)

from : (least most value : ℕ) (test : Bool) → nat_lt value least ≡ test → value ≤ most → IfSome (if test then None else Some value) (λ n. (least ≤ n)
    × (n ≤ most))
from least most value true is small = tt
from least most value false is small = (grind (arith, nat_tests), small)

ranged_within : (least most : ℕ) (word : List ℕ) → IfSome (ranged_of least most word) (λ n. (least ≤ n) × (n ≤ most))
unfolding ranged_of
ranged_within least most word =
    behind (λ v. v ≤ most) (λ n. (least ≤ n) × (n ≤ most)) (number_of most word) (λ v. if nat_lt v least then None else Some v)
    (number_within most word) (λ v small. from least most v (nat_lt v least) refl small)

-- ---- commands

serve_ranged : (turns : List ℕ) (longest : Option ℕ) → IfSome longest IsTerm → IfSome (serve_of turns longest) IsRanged
unfolding serve_of
serve_ranged turns longest is =
    behind_any IsRanged (ranged_of 1 1000000 turns) _ (λ n. behind IsTerm IsRanged longest (λ term. Some (Command.Serve n term)) is (λ term fits. fits))

loop_ranged : (hosts turns : List ℕ) → IfSome (loop_of hosts turns) IsRanged
unfolding loop_of
loop_ranged hosts turns =
    behind AreHosts IsRanged (ranged_of 1 64 hosts) _ (ranged_within 1 64 hosts) (λ h fits. behind_any IsRanged (ranged_of 1 1000000 turns)
    (λ n. Some (Command.Loop h n)) (λ n. fits))

kind_ranged : (word : List ℕ) → IfSome (kind_of word) IsKind
unfolding kind_of
kind_ranged word =
    one_of IsKind (bytes_eq word (codes "steady")) (Some 0) _ (omega arith) (
    one_of IsKind (bytes_eq word (codes "lossy")) (Some 1) _ (omega arith) (
    one_of IsKind (bytes_eq word (codes "cut")) (Some 2) _ (omega arith) (
    one_of IsKind (bytes_eq word (codes "hostile")) (Some 3) None (omega arith) tt)))

storm_ranged : (kind start events : List ℕ) → IfSome (storm_of kind start events) IsRanged
unfolding storm_of
storm_ranged kind start events =
    behind IsKind IsRanged (kind_of kind) _ (kind_ranged kind) (λ k is. behind_any IsRanged (number_of 18446744073709551615 start) _
    (λ s. behind_any IsRanged (ranged_of 1 100000 events) (λ n. Some (Command.Storm k s n)) (λ n. is)))

client_ranged : (host inc turns : List ℕ) → IfSome (client_of host inc turns) IsRanged
unfolding client_of
client_ranged host inc turns =
    behind_any IsRanged (ranged_of 0 63 host) _ (λ h. behind_any IsRanged (ranged_of 1 4294967295 inc) _
    (λ i. behind_any IsRanged (ranged_of 1 1000000 turns) (λ n. Some (Command.Client h i n)) (λ n. tt)))

alone_ranged : (name : List ℕ) → IfSome (alone_of name) IsRanged
unfolding alone_of
alone_ranged name =
    one_of IsRanged (bytes_eq name (codes "replay")) (Some Command.Replay) _ tt (
    one_of IsRanged (bytes_eq name (codes "check")) (Some Command.Check) _ tt (
    one_of IsRanged (bytes_eq name (codes "staged")) (Some Command.Staged) _ tt (
    one_of IsRanged (bytes_eq name (codes "names")) (Some Command.Names) _ tt (
    one_of IsRanged (bytes_eq name (codes "format")) (Some Command.Format) None tt tt))))

counted_ranged : (name turns : List ℕ) → IfSome (counted_of name turns) IsRanged
unfolding counted_of
counted_ranged name turns = one_of IsRanged (bytes_eq name (codes "serve")) (serve_of turns (Some 60)) None (serve_ranged turns (Some 60) (omega arith, omega arith)) tt

paired_ranged : (name first second : List ℕ) → IfSome (paired_of name first second) IsRanged
unfolding paired_of
paired_ranged name first second =
    one_of IsRanged (bytes_eq name (codes "serve")) (serve_of first (ranged_of 5 600 second)) _ (serve_ranged first (ranged_of 5 600 second)
    (ranged_within 5 600 second)) (
    one_of IsRanged (bytes_eq name (codes "loop")) (loop_of first second) None (loop_ranged first second) tt)

numbered_ranged : (name first second third : List ℕ) → IfSome (numbered_of name first second third) IsRanged
unfolding numbered_of
numbered_ranged name first second third =
    one_of IsRanged (bytes_eq name (codes "storm")) (storm_of first second third) _ (storm_ranged first second third) (
    one_of IsRanged (bytes_eq name (codes "client")) (client_of first second third) None (client_ranged first second third) tt)

-- a command that words say is within its range
pub command_ranged : (words : List (List ℕ)) → IfSome (command_of words) IsRanged
command_ranged [] = tt
command_ranged (name ∷ []) = alone_ranged name
command_ranged (name ∷ first ∷ []) = counted_ranged name first
command_ranged (name ∷ first ∷ second ∷ []) = paired_ranged name first second
command_ranged (name ∷ first ∷ second ∷ third ∷ []) = numbered_ranged name first second third
command_ranged (name ∷ first ∷ second ∷ third ∷ fourth ∷ more) = tt
