use Rattle.std.proofs.Common.{◌≡◌, ◌∙◌, ap, length}
use Rattle.nq_storm.proofs.Passing.{is_offered}
use Rattle.nq_storm.proofs.moments.offer_of.Goals as goal

pub returns-clause-offers : goal.returns-clause-offers
returns-clause-offers g c = λ head events at.
    let many : c.len-sent.result ≡ length c.args.world.now.datagrams = c.len-sent.ensures ∙ ap length c.packets.ensures in
    is_offered head events c.args.world.now _ c.args.delivered.now c.len-sent.result c.args.word c.next.result c.new.result at many c.next.ensures.next
    c.new.ensures.packets (c.new.ensures.fresh ∙ c.unwrap_or-fresh.ensures) (rw c.new.ensures.server_tick (c.lawful_server_tick.ensures head events _
    at.plays)) c.new.ensures.word
