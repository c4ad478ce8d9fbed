-- What travels in a world with staged writes, and what such a world is.
use Rattle.std.specs.Prelude.{ℕ, List, [], Option, None, map}
use Rattle.nq_base.specs.declared.Event.{Event}
use Rattle.nq_base.specs.declared.Party.{Party}
use Rattle.nq_model.specs.protocol.World.{Head, World, start}
use Rattle.nq_stage.specs.Bodies.{Bodies}
use Rattle.nq_stage.specs.Staged.{Staged, new_stager}

-- A packet as it travels: who sent it, whom it is for, its bytes, and the number of the packet of the inner world for which it
-- stands. A STAGE, its reply and an UNSTAGED stand for none.
pub record Outer : Type 0 where
  pub sender : Party
  pub to : Party
  pub bytes : List ℕ
  pub stands : Option ℕ

-- how many STAGE packets were taken in, COMMITs rebuilt and UNSTAGED replies made
pub record Counts : Type 0 where
  pub staged : ℕ
  pub commits : ℕ
  pub unstaged : ℕ

-- what a host's side keeps: its stager, and the number of the inner packet that it shortened last
pub record Side : Type 0 where
  pub stager : Staged
  pub last : Option ℕ

-- The inner world with what stands around it: the pool at the server, a side at each host, the packets that travel, the inner
-- events that were run (the newest first), and the counts.
pub record Outside : Type 0 where
  pub world : World
  pub pool : Bodies
  pub sides : List Side
  pub sent : List Outer
  pub ran : List Event
  pub counts : Counts

-- an empty pool for the boot of an inner world
abbrev pub new_pool : World → Bodies
new_pool w = record { boot = w.server.table.boot; bodies = [] }

-- nothing was staged at the start
unfoldable pub outside_start : Head → Outside
outside_start head = record {
  world = start head;
  pool = new_pool (start head);
  sides = map (λ c. record { stager = new_stager c.who; last = None }) (start head).clients;
  sent = [];
  ran = [];
  counts = record { staged = 0; commits = 0; unstaged = 0 };
}
