-- What a reply tells of files was so at the server, in every run.
use Rattle.std.specs.Prelude.{◌≡◌, ◌⊎◌, ℕ, List, [], ◌∷◌, Some, slice_get, ⊤}
use Rattle.nq_base.specs.declared.Event.{Event}
use Rattle.nq_base.specs.declared.Reply.{Reply}
use Rattle.nq_base.specs.declared.Request.{Request}
use Rattle.nq_base.specs.declared.Who.{Who}
use Rattle.nq_model.specs.protocol.Hear.{inc_of}
use Rattle.nq_model.specs.protocol.Kept.{File, blocks_of, find_file, find_name}
use Rattle.nq_model.specs.protocol.Message.{call, reply, asker}
use Rattle.nq_model.specs.protocol.Server.{to_host}
use Rattle.nq_model.specs.protocol.World.{Head, World, from_host, start, run}

-- at some moment of a run, whose schedule is told with its newest event first
abbrev pub Once : (World → Type 0) → Head → List Event → Type 0
Once P head [] = P (start head)
Once P head (event ∷ earlier) = P (run head (event ∷ earlier)) ⊎ Once P head earlier

-- a file of this name is kept, with this id and this length
pub record KeepsNamed (files : List File) (name : List ℕ) (id blocks : ℕ) : Type 0 where
  pub file : File
  pub found : find_name name files ≡ Some file
  pub has_id : file.id ≡ id
  pub has_length : blocks_of file ≡ blocks

-- a file of this id is kept, with this length and this revision
pub record KeepsAt (files : List File) (id blocks rev : ℕ) : Type 0 where
  pub file : File
  pub found : find_file id files ≡ Some file
  pub has_length : blocks_of file ≡ blocks
  pub has_rev : file.rev ≡ rev

-- what a reply tells of these files, by the request that it answers: LOOKUP is told the id and the length of the file of its name,
-- CREATE the id of the file of its name and length, and GETATTR the length and the revision of its file
abbrev pub IsSo : List File → Reply → Request → Type 0
IsSo files (Reply.Lookup inc id blocks) (Request.Lookup who name) = KeepsNamed files name id blocks
IsSo files (Reply.Create inc id) (Request.Create who seq name blocks) = KeepsNamed files name id blocks
IsSo files (Reply.GetAttr inc blocks rev) (Request.GetAttr who file) = KeepsAt files file blocks rev
IsSo files other r = ⊤

-- this request of a host had been sent, and what the reply tells was so
pub record WasSo (w : World) (host xid : ℕ) (a : Reply) (r : Request) : Type 0 where
  pub place : ℕ
  pub sent : slice_get w.packets place ≡ Some (from_host host (call xid r))
  pub so : IsSo w.server.kept.files a r

-- a reply answers a request of its number, of the host to which it goes and of the incarnation that it names. At some moment, when
-- that request had been sent, what the reply tells was so
pub record TellsWhatWas (head : Head) (events : List Event) (host xid : ℕ) (a : Reply) : Type 0 where
  pub asks : Request
  pub who : Who
  pub by : asker asks ≡ Some who
  pub inc : inc_of a ≡ who.inc
  pub was : Once (λ w. WasSo w host xid a asks) head events

-- after every schedule, whatever was lost, repeated or reordered, and however often the server crashed
abbrev pub RepliesTellWhatWas : Type 0
RepliesTellWhatWas =
    (head : Head) (events : List Event) (place host xid : ℕ) (a : Reply)
    → slice_get (run head events).packets place ≡ Some (to_host host (reply xid a))
    → TellsWhatWas head events host xid a
