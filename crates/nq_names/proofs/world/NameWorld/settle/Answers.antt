use Rattle.std.proofs.Common.{◌∙◌, ◌≤◌, ap, length, subst}
use Rattle.nq_names.proofs.Reaching.{settled-on, settled-plays}
use Rattle.nq_names.specs.Playing.{NamesOver}
use Rattle.nq_names.proofs.world.NameWorld.settle.Goals as goal

pub returns-clause-same : goal.returns-clause-same
returns-clause-same g c = λ head events told plays.
    let i = c.self.inside in
    let plays' = rw (← c.self.view_is) at plays in
    let w : NamesOver _ = record { inner = i.world; around = i.around; ran = i.ran; events = i.events } in
    let a = c.settle.new.self in
    let said = c.settle.ensures in
    let gone = subst (λ ds. i.around.gone ≤ length ds → a.gone ≤ length ds) c.packets.ensures said.gone in (
      settled-plays head events w a told (λ v ran are. said.shows v ran (c.packets.ensures ∙ are)) gone plays',
      settled-on c.settle.result (length i.world.datagrams) (length c.packets.result.now.datagrams) a (ap length c.packets.ensures) said.none said.all
          (gone plays'.reaches.gone),
    )
