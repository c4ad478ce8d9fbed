use Rattle.std.proofs.Common.{refl, arith}
use Rattle.nq_serving.proofs.TurnCauses.{halts_by}
use Rattle.nq_serving.specs.declared.turning.LinkPolicy.{LinkPolicy}
use Rattle.nq_model.specs.protocol.Profile.{most_taken_by_server}
use Rattle.nq_clock.specs.Clocks.{clock_told}
use Rattle.nq_link.specs.Links.{link_told}
use Rattle.nq_serving.specs.Extending.{extension_told}
use Rattle.nq_serving.proofs.serving.keep_serving.Goals as goal

pub returns-clause-serves : goal.returns-clause-serves
returns-clause-serves g c =
    let clock_of = clock_told g.C.Clock.floor g.C.Clock.readings g.C.Clock.reads in
    record {
      serves = record {
        time = c.now-now.result;
        between = clock_of c.now-now.new.self;
        read = record {
          rises = c.now-now.ensures.rises;
          floor = c.now-now.ensures.floor;
          below = c.now-now.ensures.below;
          told = c.now-now.ensures.told;
          once = c.now-now.ensures.reads;
        };
        runs = c.boot_and_run.ensures.runs.runs;
      };
      only = c.boot_and_run.ensures.runs.only;
      order = c.boot_and_run.ensures.runs.order;
      settled = c.boot_and_run.ensures.runs.settled;
    }

pub returns-clause-cause : goal.returns-clause-cause
returns-clause-cause g c =
    let link_of = link_told g.L.Link.sent g.L.Link.waiting g.L.Link.faults g.L.Link.receives in
    let clock_of = clock_told g.C.Clock.floor g.C.Clock.readings g.C.Clock.reads in
    let ran = c.boot_and_run.result in
    halts_by g.K.Keeper.content g.K.Keeper.faults LinkPolicy.GoOn (extension_told g.W.Extension.owns g.W.Extension.replies) g.K.Keeper.follows
    most_taken_by_server c.args.longest c.args.turns c.now-now.result c.args.keeper
    ran.end ran.left (clock_of c.now-now.new.self) (clock_of c.boot_and_run.new.clock) (link_of c.args.link.now) (link_of c.boot_and_run.new.link)
    refl (omega (arith, c.requires.few)) c.boot_and_run.ensures.runs.runs
