-- What travels in a world with leased directories, and what such a world is.
use Rattle.std.specs.Prelude.{ℕ, List, [], Option, map}
use Rattle.nq_base.specs.declared.Event.{Event}
use Rattle.nq_base.specs.declared.Party.{Party}
use Rattle.nq_model.specs.protocol.World.{Head, World, start}
use Rattle.nq_directory.specs.NameCacheNames.{Names, new_names}
use Rattle.nq_name_server.specs.Served.{Served, new_served}

-- A packet as it travels: who sent it, whom it is for, its bytes, and the number of the packet of the inner world that it is. A
-- READDIRLOOK, its reply, a DIREVICTED and a DIRVACATED are none.
pub record Outer : Type 0 where
  pub sender : Party
  pub to : Party
  pub bytes : List ℕ
  pub is : Option ℕ

-- The inner world with what stands around it: the leases on directories at the server, the names that each host keeps, the packets
-- that travel, and the inner events that were run, the newest first.
pub record Outside : Type 0 where
  pub world : World
  pub served : Served
  pub sides : List Names
  pub sent : List Outer
  pub ran : List Event

-- the leases on directories in a new boot of an inner world
abbrev pub of_boot : World → Served
of_boot w = new_served w.server.table.boot w.server.longest w.server.now

-- no directory was listed at the start
unfoldable pub outside_start : Head → Outside
outside_start head = record {
  world = start head;
  served = of_boot (start head);
  sides = map (λ c. new_names c.who) (start head).clients;
  sent = [];
  ran = [];
}
