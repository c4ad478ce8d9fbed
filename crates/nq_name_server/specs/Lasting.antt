-- Why a host that knows of a name knows what the server keeps: while the lease of a list runs, the server has a reading row on the
-- directory that outlives it, or it recovers for longer than that; and the list has what is kept of its directory.
use Rattle.std.specs.Prelude.{◌≡◌, ◌≤◌, ◌<◌, ℕ, ◌-◌, List, Option, Some, None, slice_get}
use Rattle.nq_base.specs.declared.Event.{Event}
use Rattle.nq_base.specs.declared.Mode.{Mode}
use Rattle.nq_base.specs.declared.Who.{Who}
use Rattle.nq_directory.specs.Names.{named}
use Rattle.nq_directory.specs.Prefix.{directory}
use Rattle.nq_model.specs.protocol.Client.{Client, Lease}
use Rattle.nq_model.specs.protocol.Kept.{File, find_name}
use Rattle.nq_model.specs.laws.LeaseInterval.{Claim, HasFitting, claim_of, cover_end}
use Rattle.nq_model.specs.protocol.Server.{Phase, serving, recovering}
use Rattle.nq_directory.specs.NameCacheNames.{DirList, Names, list_of}
use Rattle.nq_name_server.specs.Served.{Served, number_of}
use Rattle.nq_model.specs.protocol.World.{Head}
use Rattle.nq_name_server.specs.declared.run.event.NameEvent.{NameEvent}
use Rattle.nq_name_server.specs.Outer.{Outside}
use Rattle.nq_name_server.specs.Outside.{outside_run}
use Rattle.nq_name_server.specs.Theorem.{IsNamesSchedule}

-- a host has a whole list of a directory, under a lease that runs by its clock
pub record IsLive (o : Outside) (host : ℕ) (n : Names) (c : Client) (l : DirList) (lease : Lease) : Type 0 where
  pub side : slice_get o.sides host ≡ Some n
  pub client : slice_get o.world.clients host ≡ Some c
  pub listed : list_of l.prefix n.lists ≡ Some l
  pub held : l.lease ≡ Some lease
  pub runs : c.now < lease.expiry

-- the claim of a list: to the directory of this number, for reading, with the tag of its lease, until it is covered no longer
abbrev pub claim_on : (number host : ℕ) → Who → Lease → List Event → Claim
claim_on number host who lease ran =
    claim_of who number Mode.Reading lease.tag (cover_end host (lease.expiry - lease.term) lease.term ran)

-- a directory with a number has a row that fits the claim of a list
pub record HasRow (s : Served) (prefix : List ℕ) (host : ℕ) (who : Who) (lease : Lease) (ran : List Event) : Type 0 where
  pub number : ℕ
  pub numbered : number_of prefix s.directories ≡ Some number
  pub fitting : HasFitting (claim_on number host who lease ran) s.table

-- the recovery does not end before a list is covered no longer
abbrev pub IsOutlived : (host : ℕ) → Lease → List Event → (end : ℕ) → Type 0
IsOutlived host lease ran end = cover_end host (lease.expiry - lease.term) lease.term ran ≤ end

-- the server covers a list
abbrev pub IsCovered : Outside → (prefix : List ℕ) → (host : ℕ) → Who → Lease → Phase → Type 0
IsCovered o prefix host who lease serving = HasRow o.served prefix host who lease o.ran
IsCovered o prefix host who lease (recovering end heard last) = IsOutlived host lease o.ran end

-- each live list is covered
abbrev pub ListsAreCovered : Outside → Type 0
ListsAreCovered o =
    (host : ℕ) (n : Names) (c : Client) (l : DirList) (lease : Lease)
    → IsLive o host n c l lease
    → IsCovered o l.prefix host n.who lease o.world.server.phase

-- the id of a file, if there is one
abbrev pub id_of : Option File → Option ℕ
id_of None = None
id_of (Some f) = Some f.id

-- each live list has what is kept of its directory
abbrev pub ListsAreKept : Outside → Type 0
ListsAreKept o =
    (host : ℕ) (n : Names) (c : Client) (l : DirList) (lease : Lease) (name : List ℕ)
    → IsLive o host n c l lease
    → directory name ≡ l.prefix
    → named name l.names ≡ id_of (find_name name o.world.server.kept.files)

-- what holds at every moment of a run whose inner events are within skew
pub record Lasts (o : Outside) : Type 0 where
  pub covered : ListsAreCovered o
  pub kept : ListsAreKept o

-- So it is after each schedule with lists of which the theorem speaks.
abbrev pub EachListLasts : Type 0
EachListLasts =
    (most : ℕ) (head : Head) (events : List NameEvent)
    → IsNamesSchedule most head events
    → Lasts (outside_run head events)
