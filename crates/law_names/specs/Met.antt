-- There is a schedule of which the laws of finding speak: a host lists a directory, and then knows of its names.
use Rattle.std.specs.Prelude.{◌≡◌, ℕ, List}
use Rattle.nq_model.specs.protocol.Client.{Client, Lease}
use Rattle.nq_model.specs.protocol.World.{Head}
use Rattle.nq_directory.specs.declared.name_cache.found.Found.{Found}
use Rattle.nq_directory.specs.NameCacheNames.{DirList, Names}
use Rattle.nq_name_server.specs.declared.run.event.NameEvent.{NameEvent}
use Rattle.nq_name_server.specs.Lasting.{IsLive}
use Rattle.nq_name_server.specs.Outside.{found, outside_run}
use Rattle.nq_name_server.specs.Theorem.{IsNamesSchedule}

-- after some schedule with lists a host has a whole list under a lease that runs: it knows the file of one name, and of another that
-- no file has it
pub record FindsAreMet : Type 0 where
  pub most : ℕ
  pub head : Head
  pub events : List NameEvent
  pub schedule : IsNamesSchedule most head events
  pub host : ℕ
  pub names : Names
  pub client : Client
  pub list : DirList
  pub lease : Lease
  pub live : IsLive (outside_run head events) host names client list lease
  pub name : List ℕ
  pub file : ℕ
  pub there : found (outside_run head events) host name ≡ Found.File file
  pub other : List ℕ
  pub absent : found (outside_run head events) host other ≡ Found.Absent
