use Rattle.nq_names.proofs.Finding.{found-kept, found-outside}
use Rattle.nq_names.proofs.world.NameWorld.find.Goals as goal

pub returns : goal.returns
returns g c = record {
  found = λ head events told plays.
      let plays' = rw (← c.self.view_is) at plays in
      let there = c.requires in
      let there' = rw (← c.self.view_is) at there in
      found-outside head events _ told c.args.host c.args.name.now c.time-now.result c.find.result plays'.reaches there' c.time-now.ensures c.find.ensures;
  kept = λ head events kept plays known.
      let plays' = rw (← c.self.view_is) at plays in
      let there = c.requires in
      let there' = rw (← c.self.view_is) at there in
      found-kept head events _ kept c.args.host c.args.name.now c.find.result plays'.reaches
      (found-outside head events _ _ c.args.host c.args.name.now c.time-now.result c.find.result plays'.reaches there' c.time-now.ensures
      c.find.ensures) known;
}
