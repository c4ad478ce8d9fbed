use Rattle.nq_link.specs.Links.{link_told}
use Rattle.nq_calling.proofs.calls.call_now.Goals as goal

pub returns : goal.returns
returns g c =
    let link_of = link_told g.L.Link.sent g.L.Link.waiting g.L.Link.faults g.L.Link.receives in
    record {
      turn = c.client_turn-turn.result;
      between = c.client_turn-turn.new.client;
      noted = c.client_turn-turn.new.log;
      heard = link_of c.client_turn-turn.new.link;
      turns = c.client_turn-turn.ensures.turn;
      refusal = c.refusal_of-refusal.result;
      refuses = c.refusal_of-refusal.ensures;
      makes = c.make_unless.ensures;
    }
