use Rattle.std.proofs.Common.{◌≡◌, ◌∙◌, refl, sym, ap, true, false}
use Rattle.std.specs.Prelude.{reverse, option_map, slice_get}
use Rattle.nq_base.specs.declared.Event.{Event}
use Rattle.nq_loop.proofs.Calls.{begins-none, begins-one, due-is, none-due}
use Rattle.nq_loop.specs.Holding.{loop_of}
use Rattle.nq_loop.specs.Looping.{is_busy}
use Rattle.nq_model.specs.protocol.World.{run}
use Rattle.nq_loop.proofs.calling.begin_call.Goals as goal

pub returns-then-is_busy : goal.returns-then-is_busy
returns-then-is_busy g c = record {
  loops = λ head hosts here.
      let events = reverse c.args.looping.now.ran in
      let busy : is_busy (slice_get (run head events).clients c.args.host) ≡ true = sym (c.is_busy.ensures head events here.plays) ∙ c.if-is_busy.true in
      begins-none head c.args.host (loop_of g.K.Keeper.content g.L.Link.sent g.L.Link.waiting g.L.Link.faults g.L.Link.receives c.args.looping.now.world
      c.args.looping.now.state c.args.looping.now.ran c.args.links.now) (none-due head c.args.host events busy) here;
  keeps = record { faults = refl; clients_are = refl; hosts_are = refl };
  follows = g.met.K.Keeper.follows_itself c.args.looping.now.world.server.keeper;
}

pub returns-in-Some : goal.returns-in-Some
returns-in-Some g c = record {
  loops = λ head hosts here.
      let events = reverse c.args.looping.now.ran in
      let idle : is_busy (slice_get (run head events).clients c.args.host) ≡ false = sym (c.is_busy.ensures head events here.plays) ∙ c.if-is_busy.false in
      let begun = c.begun-begun.ensures ∙ here.counts c.args.host in
      let due = due-is head c.hosts-hosts.result c.args.host c.begun-begun.result events c.call_behind.result idle (c.hosts-hosts.ensures ∙ sym hosts)
      begun c.call_behind.ensures.call ∙ ap (option_map (Event.Call c.args.host)) c.in-Some.is in
      begins-one head c.args.host (Event.Call c.args.host c.in-Some.call) c.give.result
      (loop_of g.K.Keeper.content g.L.Link.sent g.L.Link.waiting g.L.Link.faults g.L.Link.receives c.args.looping.now.world c.args.looping.now.state
      c.args.looping.now.ran
      c.args.links.now)
      (loop_of g.K.Keeper.content g.L.Link.sent g.L.Link.waiting g.L.Link.faults g.L.Link.receives c.give.new.looping.world c.give.new.looping.state
      c.give.new.looping.ran
      c.give.new.links) due (c.give.ensures.gives head hosts here);
  keeps = c.give.ensures.keeps;
  follows = c.give.ensures.follows;
}

pub returns-in-None : goal.returns-in-None
returns-in-None g c = record {
  loops = λ head hosts here.
      let events = reverse c.args.looping.now.ran in
      let idle : is_busy (slice_get (run head events).clients c.args.host) ≡ false = sym (c.is_busy.ensures head events here.plays) ∙ c.if-is_busy.false in
      let begun = c.begun-begun.ensures ∙ here.counts c.args.host in
      let due = due-is head c.hosts-hosts.result c.args.host c.begun-begun.result events c.call_behind.result idle (c.hosts-hosts.ensures ∙ sym hosts)
      begun c.call_behind.ensures.call ∙ ap (option_map (Event.Call c.args.host)) c.in-None.is in
      begins-none head c.args.host (loop_of g.K.Keeper.content g.L.Link.sent g.L.Link.waiting g.L.Link.faults g.L.Link.receives c.args.looping.now.world
      c.args.looping.now.state c.args.looping.now.ran c.args.links.now) due here;
  keeps = record { faults = refl; clients_are = refl; hosts_are = refl };
  follows = g.met.K.Keeper.follows_itself c.args.looping.now.world.server.keeper;
}
