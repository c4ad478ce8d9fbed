use Rattle.std.proofs.Common.{◌≡◌, [], length}
use Rattle.std.specs.List.{AllByRecursion}
use Rattle.std.specs.Prelude.{reverse}
use Rattle.nq_model.specs.protocol.World.{Head}
use Rattle.nq_storm.specs.Ending.{IsInStorm}
use Rattle.nq_storm.specs.Storming.{generator}
use Rattle.nq_storm.specs.Rules.{asked_for}
use Rattle.nq_storm.specs.Stormy.{IsStormy}
use Rattle.nq_world.specs.Playing.{HasSettings, Plays}
use Rattle.nq_storm.proofs.storms.storm.Given as goal

abbrev pub invariant-loop-earlier : goal.invariant-loop-earlier
invariant-loop-earlier g l = record {
  words : l.words ≡ generator l.start l.earlier;
  many : length l.ran ≡ l.earlier;
  storm : (head : Head) → Plays head [] l.fn.world (g.K.Keeper.content l.fn.world.server.keeper)
      → IsInStorm head l.start ((goal.Fate-dyn g l.fn.fate.now).told l.fn.fate.now.1) (reverse l.ran)
      ((goal.Fate-dyn g l.fate.now).told l.fate.now.1) l.world (g.K.Keeper.content l.world.server.keeper) l.delivered;
  asks : (goal.Fate-dyn g l.fate.now).asks l.fate.now.1 ≡ asked_for l.earlier ((goal.Fate-dyn g l.fn.fate.now).asks l.fn.fate.now.1);
  stormy : AllByRecursion IsStormy l.ran;
  faults : g.K.Keeper.faults l.world.server.keeper ≡ g.K.Keeper.faults l.fn.world.server.keeper;
  follows : g.K.Keeper.follows l.fn.world.server.keeper l.world.server.keeper;
  settings : HasSettings 4 60 30 l.world;
}
