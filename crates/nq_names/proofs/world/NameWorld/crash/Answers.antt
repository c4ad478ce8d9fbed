use Rattle.std.proofs.Common.{◌≡◌, ◌∙◌, ap, refl}
use Rattle.nq_names.proofs.Renewing.{runs-crashed}
use Rattle.nq_names.specs.Playing.{NamesOver}
use Rattle.nq_names.proofs.world.NameWorld.crash.Goals as goal

pub returns-in-Done-clause-ran : goal.returns-in-Done-clause-ran
returns-in-Done-clause-ran g c = λ head plays.
    let i = c.self-2.inside in
    let mid : NamesOver _ = record { inner = i.world; around = i.around; ran = i.ran; events = i.events } in
    let ran = c.in-Done.ensures.ran head plays in
    let same = c.in-Done.ensures.around in
    let ran' = rw (← c.self-2.view_is) at ran in
    let same' = rw (← c.self-2.view_is) at same in
    let at : c.server_time-time.result ≡ c.args.self.now.inner.server.beside.time = c.server_time-time.ensures
    ∙ ap (λ (w : NamesOver _). w.inner.server.beside.time) c.self.view_is in
    runs-crashed head c.args.longest c.server_time-time.result c.in-Ok.server c.args.self.now mid (record mid { around = c.reboot.new.self }) _ _
    plays ran' same' c.in-Ok.ensures at c.reboot.ensures refl refl
