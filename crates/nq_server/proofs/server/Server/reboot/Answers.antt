use Rattle.std.proofs.Common.{List, ◌∷◌, [], ◌++◌, refl, ap, ◌∙◌}
use Rattle.nq_base.specs.declared.Entry.{Entry}
use Rattle.nq_server.specs.State.{beside_of}
use Rattle.nq_server.proofs.Booted.{is-rebooted}
use Rattle.nq_server.proofs.server.Server.reboot.Goals as goal

pub returns-in-Err-clause-leaves : goal.returns-in-Err-clause-leaves
returns-in-Err-clause-leaves g c = rw (← c.self.view_is) c.begin.ensures.leaves

pub returns-in-Ok-clause-reboots : goal.returns-in-Ok-clause-reboots
returns-in-Ok-clause-reboots g c =
    let told : Entry = Entry.X c.in-Ok.begun.table.boot c.args.now c.in-Ok.begun.waits in
    rw
    (← c.self.view_is)
    (is-rebooted
    c.args.longest
    c.args.now
    c.in-Ok.begun
    told
    (g.K.Keeper.content c.self.inside.keeper)
    (g.K.Keeper.content c.begin.new.keeper)
    (g.K.Keeper.faults c.self.inside.keeper)
    (g.K.Keeper.faults c.begin.new.keeper)
    (record { keeper = c.self.inside.keeper; beside = beside_of c.self.inside.state; taken = c.self.inside.taken })
    (record { keeper = c.begin.new.keeper; beside = beside_of c.replace_state.new.state; taken = 0 })
    c.args.log.now
    c.tell_crash.new.log
    c.in-Ok.ensures.begins
    c.replace_state.ensures.boots
    refl
    refl
    (c.tell_crash.ensures ∙ ap (λ (x : List Entry). x ++ told ∷ []) c.reserve.ensures.entries))

pub returns-in-Ok-clause-leaves : goal.returns-in-Ok-clause-leaves
returns-in-Ok-clause-leaves g c = rw (← c.self.view_is) c.begin.ensures.leaves
