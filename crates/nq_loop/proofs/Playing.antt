-- A schedule of a line for each event that was taken in plays these events.
use Rattle.std.proofs.Common.{◌≡◌, List, [], ◌∷◌, ◌++◌, map, subst, ◌∙◌}
use Rattle.std.proofs.lemmas.List.{append-nil, reverse-reverse}
use Rattle.std.specs.Prelude.{reverse}
use Rattle.nq_base.specs.declared.Event.{Event}
use Rattle.nq_loop.specs.Holding.{AreTaken}
use Rattle.nq_model.specs.protocol.World.{Head as Beginning}
use Rattle.nq_replay.proofs.EachTaken.{Taken, newest, plays-each}
use Rattle.nq_replay.specs.AsidesPlaying.{ran}
use Rattle.nq_replay.specs.Playing.{beginning, play}
use Rattle.nq_script.specs.Lines.{once}
use Rattle.nq_script.specs.declared.heads.Head.{Head}

forward : (head : Beginning) (events rest : List Event) → AreTaken head events → Taken head events rest → Taken head [] (reverse events ++ rest)
forward head [] rest are taken = taken
forward head (event ∷ events) rest are taken =
    subst (λ es. Taken head [] es) (newest event events rest) (forward head events (event ∷ rest) are.1 (are.0, taken))

pub plays-taken : (head : Head) (events : List Event) → AreTaken (beginning head) (reverse events) → play head (map once events) ≡ ran (reverse events)
plays-taken head events are =
    plays-each head events (subst (λ es. Taken (beginning head) [] es) (append-nil (reverse (reverse events)) ∙ reverse-reverse events)
    (forward (beginning head) (reverse events) [] are tt))
