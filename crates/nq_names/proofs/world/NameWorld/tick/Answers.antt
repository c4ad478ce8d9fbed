use Rattle.std.proofs.Common.{refl}
use Rattle.nq_names.proofs.Renewing.{runs-ticked}
use Rattle.nq_names.specs.Playing.{NamesOver}
use Rattle.nq_names.proofs.world.NameWorld.tick.Goals as goal

pub returns-in-Done-clause-ran : goal.returns-in-Done-clause-ran
returns-in-Done-clause-ran g c = λ head plays.
    let i = c.self.inside in
    let mid : NamesOver _ = record { inner = i.world; around = i.around; ran = i.ran; events = i.events } in
    let ran = c.in-Done.ensures.ran head plays in
    let same = c.in-Done.ensures.around in
    let ran' = rw (← c.self.view_is) at ran in
    let same' = rw (← c.self.view_is) at same in
    runs-ticked head c.in-Some.time c.args.self.now mid (record mid { around = c.tick.new.self }) _ _ plays ran' same' c.in-Some.ensures.next
    c.tick.ensures refl refl
