-- Each refusal has its cause: what a refusal says stood at the server, in every run. Refusals that put a request off, or that fence a
-- push, speak of leases: they are left out here.
use Rattle.std.specs.Prelude.{◌≡◌, ℕ, List, Option, Some, None, slice_get, ⊤}
use Rattle.nq_base.specs.declared.Event.{Event}
use Rattle.nq_base.specs.declared.Refusal.{Refusal}
use Rattle.nq_base.specs.declared.Refusal.TheVariants.{NoEnt, Exist, Inval, NoSpc, Stale}
use Rattle.nq_base.specs.declared.Reply.{Reply}
use Rattle.nq_base.specs.declared.Request.{Request}
use Rattle.nq_base.specs.declared.Who.{Who}
use Rattle.nq_model.specs.laws.AnswersHaveCauses.{LacksName, HasName, LacksFile, LacksBlock, IsNoLength, HasNoRoom, CannotGrow}
use Rattle.nq_model.specs.protocol.Kept.{File}
use Rattle.nq_model.specs.protocol.Message.{call, reply, asker}
use Rattle.nq_model.specs.protocol.Server.{to_host}
use Rattle.nq_model.specs.protocol.World.{Head, World, from_host, run}
use Rattle.nq_model.specs.laws.RepliesTellWhatWas.{Once}

-- ---- causes

-- the file that a request names by its id
abbrev pub file_named : Request → Option ℕ
file_named (Request.GetAttr who file) = Some file
file_named (Request.Read who q file block want) = Some file
file_named (Request.Write who seq file block first last push body) = Some file
file_named (Request.GetLease who file want) = Some file
file_named (Request.Resize who seq q file blocks) = Some file
file_named (Request.Remove who seq q file) = Some file
file_named other = None

-- no file of this id is kept, where there is an id
abbrev pub LacksNamed : List File → Option ℕ → Type 0
LacksNamed files None = ⊥
LacksNamed files (Some id) = LacksFile files id

-- why a request was refused, where these files are kept: NOENT is said to LOOKUP alone, and no file of its name is kept; STALE to a request that
-- names a file by its id, and no file of that id is kept; EXIST to CREATE alone, and a file of its name is kept; INVAL to READ and WRITE
-- of a block that their file has not, and to CREATE and RESIZE with a length that no file can have; NOSPC to CREATE and RESIZE alone, and
-- there is no room for such a file, or for such a length of the file
abbrev pub IsCause : List File → (next : ℕ) → Refusal → Request → Type 0
IsCause files next NoEnt (Request.Lookup who name) = LacksName files name
IsCause files next NoEnt other = ⊥
IsCause files next Stale r = LacksNamed files (file_named r)
IsCause files next Exist (Request.Create who seq name blocks) = HasName files name
IsCause files next Exist other = ⊥
IsCause files next Inval (Request.Read who q file block want) = LacksBlock files file block
IsCause files next Inval (Request.Write who seq file block first last push body) = LacksBlock files file block
IsCause files next Inval (Request.Create who seq name blocks) = IsNoLength blocks
IsCause files next Inval (Request.Resize who seq q file blocks) = IsNoLength blocks
IsCause files next Inval other = ⊥
IsCause files next NoSpc (Request.Create who seq name blocks) = HasNoRoom files next blocks
IsCause files next NoSpc (Request.Resize who seq q file blocks) = CannotGrow files file blocks
IsCause files next NoSpc other = ⊥
IsCause files next other r = ⊤

-- ---- replies

-- this request of a host had been sent, and the cause of its refusal stood
pub record HadCause (w : World) (host xid : ℕ) (status : Refusal) (r : Request) : Type 0 where
  pub place : ℕ
  pub sent : slice_get w.packets place ≡ Some (from_host host (call xid r))
  pub cause : IsCause w.server.kept.files w.server.kept.next status r

-- a refusal answers a request of its number, of the host to which it goes and of the incarnation that it names. At some moment, when
-- that request had been sent, its cause stood at the server
pub record HasCause (head : Head) (events : List Event) (host xid repeated : ℕ) (status : Refusal) : Type 0 where
  pub asks : Request
  pub who : Who
  pub by : asker asks ≡ Some who
  pub inc : repeated ≡ who.inc
  pub was : Once (λ w. HadCause w host xid status asks) head events

-- after every schedule, whatever was lost, repeated or reordered, and however often the server crashed
abbrev pub RefusalsHaveCauses : Type 0
RefusalsHaveCauses =
    (head : Head) (events : List Event) (place host xid inc : ℕ) (status : Refusal)
    → slice_get (run head events).packets place ≡ Some (to_host host (reply xid (Reply.Refused inc status)))
    → HasCause head events host xid inc status
