use Rattle.std.proofs.Common.{◌≡◌, None, ap, ◌∙◌}
use Rattle.nq_model.specs.protocol.Server.{last_in}
use Rattle.nq_model.specs.protocol.ServerStep.{boot}
use Rattle.nq_server.specs.Booting.{with_last}
use Rattle.nq_server.specs.State.{beside, beside_of, phase_of}
use Rattle.nq_server.specs.declared.state.State.{State}
use Rattle.nq_server.proofs.Booted.{beside-remembered}
use Rattle.nq_server.proofs.booting.replace_state.Goals as goal

pub returns-clause-boots : goal.returns-clause-boots
returns-clause-boots c =
    λ kept is empty.
    let known : c.last_of.result ≡ last_in (phase_of c.args.state.now.phase) c.args.state.now.table = c.last_of.ensures
    ∙ ap (λ (s : State). last_in (phase_of s.phase) s.table) c.replace-phase.ensures.value in
    let phase : c.remember.new.phase ≡ with_last c.replace-phase.new.dest.phase (last_in (phase_of c.args.state.now.phase) c.args.state.now.table) =
    c.remember.ensures ∙ ap (with_last c.replace-phase.new.dest.phase) known in
    let fresh : beside_of c.replace-phase.new.dest ≡ beside (boot kept c.args.longest c.args.now None) = ap beside_of c.replace-phase.ensures.after
    ∙ c.state_after-fresh.ensures.boots kept is empty in
    ap (λ p. beside_of (record c.replace-phase.new.dest { phase = p })) phase ∙ beside-remembered kept c.args.longest c.args.now
    (last_in (phase_of c.args.state.now.phase) c.args.state.now.table) c.replace-phase.new.dest fresh
