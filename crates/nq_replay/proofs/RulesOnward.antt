-- What is left to be played, one further.
use Rattle.std.proofs.Common.{◌≡◌, ℕ, ◌+◌, ◌-◌, ◌<◌, Option, Some, None, suc, sym, ap, ◌∙◌, arith}
use Rattle.nq_base.specs.declared.Event.{Event}
use Rattle.nq_model.specs.protocol.World.{Head}
use Rattle.nq_replay.proofs.AsidesOnward.{then-took}
use Rattle.nq_replay.specs.AsidesPlaying.{Played as Due, and_then, took, with_packet}
use Rattle.nq_replay.specs.Rules.{Rules, next_packet, play_flow, play_plain, play_plainly, play_ticks}
use Rattle.nq_script.specs.declared.lines.Line.{Line}

pub played-once : {E A S : Type 0} (rules : Rules E A S) (head : Head) (most : ℕ) (line : Line) (event : Event) (moment : S) → line ≡ Line.Events event 1
    → play_plainly rules head event moment ≡ play_plain rules head most line moment
played-once rules head most line event moment is =
    sym (ap (λ l. play_plain rules head most l moment) is ∙ then-took (play_plainly rules head event moment) (play_plainly rules head event))

pub ticks-step : {E A S : Type 0} (rules : Rules E A S) (head : Head) (hosts host : ℕ) (moment : S) (due : Due S) → host < hosts
    → play_ticks rules head host (hosts - host) moment ≡ due
    → and_then (play_plainly rules head (Event.ClientTick host) moment) (play_ticks rules head (host + 1) (hosts - (host + 1))) ≡ due
ticks-step rules head hosts host moment due below same =
    let further : hosts - host ≡ suc (hosts - (host + 1)) = omega arith in
    rw further at same

flow-step : {E A S : Type 0} (rules : Rules E A S) (head : Head) (most turn : ℕ) (moment : S) (due : Due S) → turn < most
    → play_flow rules head (most - turn) moment ≡ due
    → with_packet (next_packet rules head moment) moment (λ packet. and_then (play_plainly rules head (Event.Deliver packet) moment)
    (λ next. play_flow rules head (most - (turn + 1)) next)) ≡ due
flow-step rules head most turn moment due below same =
    let further : most - turn ≡ suc (most - (turn + 1)) = omega arith in
    rw further at same

pub flow-none : {E A S : Type 0} (rules : Rules E A S) (head : Head) (most turn : ℕ) (moment : S) (due : Due S) (next : Option ℕ) → turn < most
    → play_flow rules head (most - turn) moment ≡ due → next_packet rules head moment ≡ next → next ≡ None → took moment ≡ due
flow-none rules head most turn moment due next below same is none =
    let here : next_packet rules head moment ≡ None = is ∙ none in
    let said = flow-step rules head most turn moment due below same in
    rw here at said

pub flow-some : {E A S : Type 0} (rules : Rules E A S) (head : Head) (most turn packet : ℕ) (moment : S) (due : Due S) (next : Option ℕ) → turn < most
    → play_flow rules head (most - turn) moment ≡ due → next_packet rules head moment ≡ next → next ≡ Some packet
    → and_then (play_plainly rules head (Event.Deliver packet) moment) (λ next. play_flow rules head (most - (turn + 1)) next) ≡ due
flow-some rules head most turn packet moment due next below same is some =
    let here : next_packet rules head moment ≡ Some packet = is ∙ some in
    let said = flow-step rules head most turn moment due below same in
    rw here at said
