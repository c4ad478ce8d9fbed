-- A schedule of a line for each event that is taken plays these events.
use Rattle.std.proofs.Common.{◌≡◌, ℕ, ◌+◌, List, [], ◌∷◌, ◌++◌, length, map, sym, ap, ◌∙◌, refl, append_assoc}
use Rattle.std.proofs.lemmas.List.{append-nil, reverse-append}
use Rattle.std.specs.Prelude.{reverse}
use Rattle.nq_base.specs.declared.Event.{Event}
use Rattle.nq_model.specs.protocol.Stepped.{done, most_events, stepped}
use Rattle.nq_model.specs.protocol.World.{Head as Beginning}
use Rattle.nq_replay.specs.AsidesPlaying.{and_then, answered, at_line, ran, repeated, took}
use Rattle.nq_replay.specs.Playing.{beginning, plain_rules, play}
use Rattle.nq_replay.specs.Rules.{play_event, play_lines, play_plain, play_plainly}
use Rattle.nq_replay.specs.Text.{mixed}
use Rattle.nq_script.specs.Heads.{head_lines}
use Rattle.nq_script.specs.Lines.{once}
use Rattle.nq_script.specs.declared.heads.Head.{Head}

-- each of these events is taken, one after another, behind those
abbrev pub Taken : Beginning → (earlier events : List Event) → Type 0
Taken head earlier [] = Unit {0}
Taken head earlier (event ∷ events) = (stepped head earlier event ≡ done) × Taken head (event ∷ earlier) events

pub newest : (event : Event) (events rest : List Event) → reverse events ++ event ∷ rest ≡ reverse (event ∷ events) ++ rest
newest event events rest =
    sym (append_assoc (reverse events) (event ∷ []) rest) ∙ ap (λ xs. xs ++ rest) (sym (reverse-append (event ∷ []) events))

one-line : (head : Beginning) (most : ℕ) (event : Event) (earlier : List Event) → stepped head earlier event ≡ done
    → play_plain plain_rules head most (once event) earlier ≡ took (event ∷ earlier)
unfolding play_event
one-line head most event earlier is =
    ap (λ answer. and_then (answered (event ∷ earlier) answer) (repeated 0 (play_plainly plain_rules head event))) is

all-lines : (head : Beginning) (most number : ℕ) (events earlier : List Event) → Taken head earlier events
    → play_lines plain_rules head most number (mixed [] (map once events)) earlier ≡ ran (reverse events ++ earlier)
all-lines head most number [] earlier taken = refl
all-lines head most number (event ∷ events) earlier taken =
    ap (λ played. at_line number played (play_lines plain_rules head most (number + 1) (mixed [] (map once events)))) (one-line head most event earlier
    taken.0)
    ∙ all-lines head most (number + 1) events (event ∷ earlier) taken.1
    ∙ ap ran (newest event events earlier)

pub plays-each : (head : Head) (events : List Event) → Taken (beginning head) [] events → play head (map once events) ≡ ran (reverse events)
unfolding play
plays-each head events taken =
    all-lines (beginning head) (most_events + 1) (length (head_lines head) + 1) events [] taken ∙ ap ran (append-nil (reverse events))
