-- A schedule of a line for each event that is taken plays these events.
use Rattle.std.proofs.Common.{◌≡◌, ℕ, List, [], ◌∷◌, ◌++◌, map, Option, subst, ◌∙◌}
use Rattle.std.proofs.lemmas.List.{append-nil, reverse-reverse}
use Rattle.std.specs.Prelude.{reverse}
use Rattle.nq_base.specs.declared.Event.{Event}
use Rattle.nq_model.specs.protocol.World.{Head as Beginning}
use Rattle.nq_replay.proofs.EachTaken.{Taken, newest, plays-each}
use Rattle.nq_replay.proofs.Lawfully.{played-runs-are-lawful}
use Rattle.nq_replay.specs.AsidesPlaying.{ran}
use Rattle.nq_replay.specs.Playing.{beginning, play}
use Rattle.nq_script.specs.Lines.{once}
use Rattle.nq_script.specs.declared.heads.Head.{Head}
use Rattle.nq_storm.specs.Lawful.{StormsAreLawful}
use Rattle.nq_storm.specs.Storming.{IsStorm}
use Rattle.nq_storm.specs.Rules.{Rule}

storm_taken : (head : Beginning) (start : ℕ) (first last : Option Rule) (events rest : List Event) → IsStorm head start first events last
    → Taken head events rest → Taken head [] (reverse events ++ rest)
storm_taken head start first last [] rest storm taken = taken
storm_taken head start first last (event ∷ events) rest storm taken =
    subst (λ es. Taken head [] es) (newest event events rest) (storm_taken head start first storm.0 events (event ∷ rest) storm.1 (storm.3, taken))

pub plays_storm : (head : Head) (start : ℕ) (first last : Option Rule) (events : List Event) → IsStorm (beginning head) start first (reverse events)
    last → play head (map once events) ≡ ran (reverse events)
plays_storm head start first last events storm =
    plays-each head events (subst (λ es. Taken (beginning head) [] es) (append-nil (reverse (reverse events)) ∙ reverse-reverse events)
    (storm_taken (beginning head) start first last (reverse events) [] storm tt))

pub storms-are-lawful : StormsAreLawful
storms-are-lawful head start first last events text storm spelled =
    let played = plays_storm head start first last events storm in
    (played, played-runs-are-lawful head (map once events) text (reverse events) spelled played)
