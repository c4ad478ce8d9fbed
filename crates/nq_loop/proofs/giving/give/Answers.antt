use Rattle.std.proofs.Common.{◌≡◌, ◌≤◌, ◌∙◌, Bool, Err, inl, length, drop, map, refl, sym, ap, subst, arith}
use Rattle.std.specs.Prelude.{reverse}
use Rattle.nq_loop.proofs.Events.{can-come, counts-refused, counts-taken, has-count, refused, taken}
use Rattle.nq_loop.proofs.Kept.{filled_event}
use Rattle.nq_loop.specs.Counting.{Counts, HasCount}
use Rattle.nq_loop.specs.Holding.{CountsKeep, GivesTo, IsLooped, IsLooping, loop_of}
use Rattle.nq_loop.specs.Sending.{SendsAll, told_of}
use Rattle.nq_replay.proofs.Dropping.{dropped}
use Rattle.nq_replay.proofs.Steps.{has_flag}
use Rattle.nq_loop.proofs.giving.give.Goals as goal

pub keep-requires : goal.keep-requires
keep-requires g c = filled_event (length c.args.looping.now.state.begun) c.args.event.now c.requires.looped

pub step-requires : goal.step-requires
step-requires g c = can-come (length c.args.looping.now.state.begun) (length c.args.looping.now.world.clients) _ c.args.event.now c.requires.hosts
    c.requires.looped

pub note-requires : goal.note-requires
note-requires g c = subst (λ begun. HasCount (length begun) c.args.event.now) (sym c.keep.ensures.begun) (has-count (length c.args.looping.now.state.begun)
    c.args.event.now c.requires.looped)

pub returns-in-Done : goal.returns-in-Done
returns-in-Done g c =
    let told = told_of g.L.Link.sent g.L.Link.waiting g.L.Link.faults g.L.Link.receives in
    let sends = subst (λ ds. SendsAll c.send_from.result (drop c.len-sent.result ds) (map told c.args.links.now) (map told c.send_from.new.links))
    c.packets-in-Done.ensures c.send_from.ensures in
    let many : c.len-sent.result ≡ length c.args.looping.now.world.datagrams = c.len-sent.ensures ∙ ap length c.packets.ensures in
    record {
      gives = λ head hosts here.
          let earlier = reverse c.args.looping.now.ran in
          let middle : IsLooping head (loop_of g.K.Keeper.content g.L.Link.sent g.L.Link.waiting g.L.Link.faults g.L.Link.receives c.args.looping.now.world
          c.keep.new.state c.args.looping.now.ran c.args.links.now) = record {
            plays = here.plays;
            marks = c.keep.ensures.same earlier here.marks;
            counts = subst (λ begun. Counts begun earlier) (sym c.keep.ensures.begun) here.counts;
            taken = here.taken;
            looped = here.looped;
          } in
          let old = loop_of g.K.Keeper.content g.L.Link.sent g.L.Link.waiting g.L.Link.faults g.L.Link.receives c.args.looping.now.world c.keep.new.state
          c.args.looping.now.ran c.args.links.now in
          let new = loop_of g.K.Keeper.content g.L.Link.sent g.L.Link.waiting g.L.Link.faults g.L.Link.receives c.step.new.self c.note.new.self
          c.keep.new.ran c.send_from.new.links in
          let steps = c.in-Done.ensures.steps head earlier here.plays in
          let reached = c.in-Ok.ensures.reached in
          let room : length c.args.looping.now.world.datagrams ≤ length c.keep.new.state.flags = omega (arith, many, reached) in
          let marks = c.note.ensures.marks (has_flag head earlier c.args.event.now c.args.looping.now.world _ c.keep.new.state.flags here.plays room steps.0)
          earlier middle.marks in
          let counts = c.note.ensures.counts earlier middle.counts in
          let looped = subst (λ n. IsLooped n c.args.event.now) (sym hosts) c.requires.looped in
          let given : GivesTo head c.args.event.now c.moved.result old new = subst (λ r. GivesTo head c.args.event.now r old new)
          (sym c.moved.ensures) (taken head c.args.event.now c.send_from.result c.len-sent.result old new middle steps.0 steps.1 marks counts
          looped c.in-Ok.ensures.kept many sends) in
          record { gives = given.gives; stands = given.stands };
      keeps = record {
        faults = subst (λ r. CountsKeep r (g.K.Keeper.faults c.args.looping.now.world.server.keeper) (g.K.Keeper.faults c.step.new.self.server.keeper))
            (sym c.moved.ensures) (counts-taken c.send_from.result (drop c.len-sent.result c.step.new.self.datagrams) (map told c.args.links.now)
            (map told c.send_from.new.links) (g.K.Keeper.faults c.args.looping.now.world.server.keeper) (g.K.Keeper.faults c.step.new.self.server.keeper)
            sends c.in-Done.ensures.faults);
        clients_are = c.step.ensures.settings.hosts_are;
        hosts_are = c.note.ensures.hosts ∙ ap length c.keep.ensures.begun;
      };
      follows = c.step.ensures.follows;
    }

pub returns-in_default : goal.returns-in_default
returns-in_default g c = record {
  gives = λ head hosts here.
      let earlier = reverse c.args.looping.now.ran in
      let middle : IsLooping head (loop_of g.K.Keeper.content g.L.Link.sent g.L.Link.waiting g.L.Link.faults g.L.Link.receives c.args.looping.now.world
      c.keep.new.state c.args.looping.now.ran c.args.links.now) = record {
        plays = here.plays;
        marks = c.keep.ensures.same earlier here.marks;
        counts = subst (λ begun. Counts begun earlier) (sym c.keep.ensures.begun) here.counts;
        taken = here.taken;
        looped = here.looped;
      } in
      let old = loop_of g.K.Keeper.content g.L.Link.sent g.L.Link.waiting g.L.Link.faults g.L.Link.receives c.args.looping.now.world c.keep.new.state
      c.args.looping.now.ran c.args.links.now in
      let new = loop_of g.K.Keeper.content g.L.Link.sent g.L.Link.waiting g.L.Link.faults g.L.Link.receives c.step.new.self c.keep.new.state
      c.drop_last.new.self c.args.links.now in
      let given : GivesTo head c.args.event.now (Err c.halt_of.result) old new = subst (λ why. GivesTo head c.args.event.now (Err why) old new)
      (sym c.halt_of.ensures)
      (refused head c.args.event.now c.step.result old new middle (c.step.ensures.steps head earlier here.plays) c.in_default.not-Done refl
      (dropped c.args.looping.now.ran c.keep.new.ran c.drop_last.new.self c.args.event.now c.in-Ok.ensures.kept c.drop_last.ensures) refl) in
      record { gives = given.gives; stands = given.stands };
  keeps = record {
    faults = subst (λ why. CountsKeep {X = Bool} (Err why) (g.K.Keeper.faults c.args.looping.now.world.server.keeper) (g.K.Keeper.faults
        c.step.new.self.server.keeper)) (sym c.halt_of.ensures) (counts-refused c.step.result (g.K.Keeper.faults c.args.looping.now.world.server.keeper)
        (g.K.Keeper.faults c.step.new.self.server.keeper) c.in_default.not-Done c.step.ensures.faults);
    clients_are = c.step.ensures.settings.hosts_are;
    hosts_are = ap length c.keep.ensures.begun;
  };
  follows = c.step.ensures.follows;
}

pub returns-in-Err : goal.returns-in-Err
returns-in-Err g c = record {
  gives = λ head hosts here.
      let same : c.keep.new.ran ≡ c.args.looping.now.ran = c.in-Err.ensures.refused in
      let told = told_of g.L.Link.sent g.L.Link.waiting g.L.Link.faults g.L.Link.receives in
      let gone : record { events = reverse c.keep.new.ran; links = map told c.args.links.now } ≡ record {
        events = reverse c.args.looping.now.ran;
        links =
            map told c.args.links.now;
      } = ap (λ ran. record { events = reverse ran; links = map told c.args.links.now }) same in
      let back = sym same in
      record {
        gives = inl gone;
        stands = record {
          plays = rw same here.plays;
          marks = rw same (c.keep.ensures.same (reverse c.args.looping.now.ran) here.marks);
          counts = rw (same, c.keep.ensures.begun) here.counts;
          taken = rw same here.taken;
          looped = rw same here.looped;
        };
      };
  keeps = record { faults = refl; clients_are = refl; hosts_are = ap length c.keep.ensures.begun };
  follows = g.met.K.Keeper.follows_itself c.args.looping.now.world.server.keeper;
}
