use Rattle.std.proofs.Common.{◌∙◌, inl, inr, refl, subst, arith}
use Rattle.nq_serving.specs.Extending.{no_extension}
use Rattle.nq_serving.specs.LeavingTurns.{LeavesServing}
use Rattle.nq_serving.specs.declared.turning.LinkPolicy.{LinkPolicy}
use Rattle.nq_serving.specs.Serving.{TellsTurns, turns_line}
use Rattle.nq_serving.proofs.Causes.{ends_by, tells}
use Rattle.nq_serving.proofs.TurnCauses.{halts_by}
use Rattle.nq_model.specs.protocol.Profile.{most_taken_by_server}
use Rattle.nq_clock.specs.Clocks.{clock_told}
use Rattle.nq_link.specs.Links.{link_told}
use Rattle.nq_serving.proofs.printing.serve.Goals as goal

pub returns-in_default-clause-serves : goal.returns-in_default-clause-serves
returns-in_default-clause-serves g c =
    let clock_of = clock_told g.C.Clock.floor g.C.Clock.readings g.C.Clock.reads in (
      record {
        serves = record {
          time = c.now-now.result;
          between = clock_of c.now-now.new.self;
          read = record {
            rises = c.now-now.ensures.rises;
            floor = c.now-now.ensures.floor;
            below = c.now-now.ensures.below;
            told = c.now-now.ensures.told;
            once = c.now-now.ensures.reads;
          };
          runs = inr (record { none = (refl, refl); same = g.met.K.Keeper.follows_itself c.args.keeper; clocks = refl; links = refl });
        };
        only = λ kept told found left. inl (c.pause.ensures.leaves kept told found left);
        order = λ kept told. tt;
        settled = c.pause.ensures.leaves;
      },
      refl,
      refl,
    )

pub returns-clause-serves : goal.returns-clause-serves
unfolding turns_line
returns-clause-serves g c =
    let clock_of = clock_told g.C.Clock.floor g.C.Clock.readings g.C.Clock.reads in
    let link_of = link_told g.L.Link.sent g.L.Link.waiting g.L.Link.faults g.L.Link.receives in
    let ran = c.boot_and_run-ran.result in
    tells (λ ended. LeavesServing g.K.Keeper.content g.K.Keeper.faults LinkPolicy.Stop no_extension g.K.Keeper.follows g.K.Keeper.leaves c.args.longest
    c.args.turns c.args.keeper
    ended ran.left
    (clock_of c.args.clock.now) (clock_of c.boot_and_run-ran.new.clock) (link_of c.args.link.now) (link_of c.boot_and_run-ran.new.link))
    ran.end c.args.turns c.tell.result (g.S.Sink.held c.args.out.now) (g.S.Sink.held c.tell.new.out) (g.S.Sink.faults c.args.out.now)
    (g.S.Sink.faults c.tell.new.out)
    (record {
      serves = record {
        time = c.now-now.result;
        between = clock_of c.now-now.new.self;
        read = record {
          rises = c.now-now.ensures.rises;
          floor = c.now-now.ensures.floor;
          below = c.now-now.ensures.below;
          told = c.now-now.ensures.told;
          once = c.now-now.ensures.reads;
        };
        runs = c.boot_and_run-ran.ensures.runs.runs;
      };
      only = c.boot_and_run-ran.ensures.runs.only;
      order = c.boot_and_run-ran.ensures.runs.order;
      settled = c.boot_and_run-ran.ensures.runs.settled;
    })
    (subst (λ line. TellsTurns ran.end line c.tell.result (g.S.Sink.held c.args.out.now) (g.S.Sink.held c.tell.new.out)
    (g.S.Sink.faults c.args.out.now)
    (g.S.Sink.faults c.tell.new.out)) (c.as_bytes.ensures.value ∙ c.in-Ok.ensures) c.tell.ensures)

pub returns-clause-cause : goal.returns-clause-cause
returns-clause-cause g c =
    let link_of = link_told g.L.Link.sent g.L.Link.waiting g.L.Link.faults g.L.Link.receives in
    let clock_of = clock_told g.C.Clock.floor g.C.Clock.readings g.C.Clock.reads in
    let ran = c.boot_and_run-ran.result in
    ends_by ran.end c.as_bytes.result.now c.tell.result (g.S.Sink.held c.args.out.now) (g.S.Sink.held c.tell.new.out)
    (g.K.Keeper.content c.args.keeper) (g.K.Keeper.faults c.args.keeper) (g.K.Keeper.faults ran.left) (g.L.Link.faults c.args.link.now)
    (g.L.Link.faults c.boot_and_run-ran.new.link) (g.S.Sink.faults c.args.out.now) (g.S.Sink.faults c.tell.new.out) c.tell.ensures
    (halts_by g.K.Keeper.content g.K.Keeper.faults LinkPolicy.Stop no_extension g.K.Keeper.follows most_taken_by_server c.args.longest c.args.turns
    c.now-now.result c.args.keeper
    ran.end ran.left (clock_of c.now-now.new.self) (clock_of c.boot_and_run-ran.new.clock) (link_of c.args.link.now)
    (link_of c.boot_and_run-ran.new.link)
    refl (omega (arith, c.ranges.turns)) c.boot_and_run-ran.ensures.runs.runs)

pub returns-in_default-clause-follows : goal.returns-in_default-clause-follows
returns-in_default-clause-follows g c = g.met.K.Keeper.follows_itself c.args.keeper

pub returns-clause-follows : goal.returns-clause-follows
returns-clause-follows g c = c.boot_and_run-ran.ensures.follows
