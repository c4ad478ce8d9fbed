use Rattle.std.proofs.Common.{ap, subst, ◌∙◌}
use Rattle.nq_service.proofs.MountSurviving.{all_settled}
use Rattle.nq_service.specs.MountServing.{EndsServing}
use Rattle.nq_clock.specs.Clocks.{clock_told}
use Rattle.nq_link.specs.Links.{link_told}
use Rattle.nq_store.specs.Storing.{StoredStore}
use Rattle.nq_serving.specs.Extending.{extension_told}
use Rattle.nq_service.proofs.mount.serving.serve_store.Goals as goal

pub returns : goal.returns
returns g c =
    let clock_of = clock_told g.C.Clock.floor g.C.Clock.readings g.C.Clock.reads in
    let link_of = link_told g.L.Link.sent g.L.Link.waiting g.L.Link.faults g.L.Link.receives in
    let ran = c.keep_serving-ran in
    let handed = c.into_disk.ensures ∙ ap (λ (store : StoredStore g.row.D.Denot). store.disk) c.into_keeper.ensures in
    subst (λ (store : StoredStore g.row.D.Denot). EndsServing g.D.Disk.told g.D.Disk.faults g.D.Disk.follows g.D.Disk.leaves (extension_told g.W.Extension.owns g.W.Extension.replies) c.args.longest c.args.turns
    store ran.result.end c.into_disk.result (clock_of c.args.clock.now) (clock_of ran.new.clock) (link_of c.args.link.now) (link_of ran.new.link))
    (c.new-keeper.ensures ∙ c.greet.ensures)
    record {
      served = ran.result.left;
      handed = handed;
      same = ran.ensures.follows;
      cause = ran.ensures.cause;
      serving = ran.ensures.serves;
      settled = all_settled g.D.Disk.told g.D.Disk.leaves ran.result.left c.into_disk.result handed ran.ensures.serves.settled;
    }
