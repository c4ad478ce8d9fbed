use Rattle.std.proofs.Common.{◌≡◌, List, length, refl, subst, ap, ◌∙◌, rules}
use Rattle.nq_base.specs.declared.Event.{Event}
use Rattle.nq_clock.specs.Tracks.{Follows}
use Rattle.nq_model.specs.protocol.SkewBroken.{skew_broken}
use Rattle.nq_model.specs.protocol.Stepped.{stepped}
use Rattle.nq_world.proofs.Refused.{answer-done, answers, refused-counts, refused-steps}
use Rattle.nq_world.specs.Answering.{told as answer_of}
use Rattle.nq_world.specs.Playing.{WorldOver}
use Rattle.nq_world.specs.Running.{stepped_seen}
use Rattle.nq_world.specs.declared.stepped.Stepped.{Stepped}
use Rattle.nq_world.proofs.world.World.step.Goals as goal

-- an answer is that of the tests of what is seen of a world
abbrev Answers : {K : Type 0} → Event → Stepped → WorldOver K → Type 0
Answers event answer v =
    (events : List Event) → Follows v.skew events → answer ≡ answer_of (stepped_seen v.events (length v.datagrams) (skew_broken (length v.skew.hosts)
    v.skew.window events) event)

pub returns-in-Done-clause-steps : goal.returns-in-Done-clause-steps
returns-in-Done-clause-steps g c = λ head events plays.
    let i = c.self.inside in
    let event = c.args.event.now in
    let told = g.K.Keeper.content c.args.self.now.server.keeper in
    let tests : Answers event Stepped.Done c.args.self.now =
    subst (λ (v : WorldOver g.row.K.Denot). Answers event Stepped.Done v) c.self.view_is
    (λ earlier follows. c.in-Done.ensures.tests earlier follows
    ∙ ap (λ n. answer_of (stepped_seen i.events n (skew_broken (length i.skew.hosts) i.skew.window earlier) event)) c.len.ensures) in
    c.take_event.ensures.takes head events plays
    (answer-done (stepped head events event) (answers head events event c.args.self.now told Stepped.Done plays (tests events plays.shown.clocks)))

pub returns-in_default : goal.returns-in_default
returns-in_default g c =
    let i = c.self.inside in
    let event = c.args.event.now in
    let told = g.K.Keeper.content c.args.self.now.server.keeper in
    let answer = c.test.result in
    let tests : Answers event answer c.args.self.now =
    subst (λ (v : WorldOver g.row.K.Denot). Answers event answer v) c.self.view_is
    (λ earlier follows. c.test.ensures.tests earlier follows
    ∙ ap (λ n. answer_of (stepped_seen i.events n (skew_broken (length i.skew.hosts) i.skew.window earlier) event)) c.len.ensures) in
    let other : answer ≡ Stepped.Done → ⊥ = search (rules, c.in_default.not-Done) in
    record {
      steps = λ head events plays. refused-steps head events event answer c.args.self.now told (answers head events event c.args.self.now told answer
          plays (tests events plays.shown.clocks)) other;
      faults = refused-counts answer (g.K.Keeper.faults c.args.self.now.server.keeper) c.test.ensures.own;
      follows = g.met.K.Keeper.follows_itself c.args.self.now.server.keeper;
      settings = record { hosts_are = refl; longest_is = refl; term_is = refl };
    }
