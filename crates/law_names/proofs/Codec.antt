-- What is asked of the bytes of the messages.
use Rattle.std.proofs.Common.{◌≡◌, ◌<◌, ◌≤◌, ◌^◌, ℕ, true, List, Some, None, length}
use Rattle.std.specs.Prelude.{⊤, All}
use Rattle.nq_base.specs.Name.{IsName}
use Rattle.nq_base.specs.declared.Grant.{Grant}
use Rattle.nq_base.specs.declared.Request.{Request}
use Rattle.nq_base.specs.declared.Who.{Who}
use Rattle.nq_datagrams.specs.Incoming.{datagram_in}
use Rattle.nq_datagrams.specs.Messages.{bytes_of}
use Rattle.nq_directory.specs.Prefix.{IsPrefix, directory}
use Rattle.nq_directory.specs.declared.listing.messages.DirTag.{DirTag}
use Rattle.nq_directory.specs.declared.listing.messages.ReadDir.{ReadDir}
use Rattle.nq_directory.specs.Messages.{Answer, IsEntry, IsReadDir, Listing, page, wait, most_names, answer_bytes, dir_evicted_bytes}
use Rattle.nq_directory.specs.Messages.{dir_vacated_bytes, read_dir_bytes}
use Rattle.nq_wire.specs.Parts.{IsGrant, IsTag}
use Rattle.nq_directory.specs.Reading.{dir_evicted_in, dir_vacated_in, read_dir_in, told_in}
use Rattle.nq_model.specs.protocol.Kept.{File, Kept, find_file}
use Rattle.nq_model.specs.protocol.Message.{call}
use Rattle.nq_directory.specs.Asking.{is_reading}
use Rattle.nq_name_server.specs.Outside.{changes_as}

-- the numbers of a READDIRLOOK but its term are words
pub record IsAsking (r : ReadDir) : Type 0 where
  pub xid : r.xid < 2 ^ 32
  pub host : r.who.host < 2 ^ 32
  pub inc : r.who.inc < 2 ^ 32
  pub prefix : IsPrefix r.prefix
  pub after : r.after < 2 ^ 32

-- a READDIRLOOK is read as one that differs in its term at most
pub record IsRead (r : ReadDir) : Type 0 where
  pub term : ℕ
  pub reads : read_dir_in (read_dir_bytes r) ≡ Some (record r { term = term })
  pub fits : IsReadDir (record r { term = term })

-- the prefix and the tag of a DIREVICTED or a DIRVACATED are within their fields
pub record IsNoticing (t : DirTag) : Type 0 where
  pub prefix : IsPrefix t.prefix
  pub tag : IsTag t.tag

-- a DIRVACATED is read as one of that prefix and tag
pub record IsGiving (t : DirTag) : Type 0 where
  pub no_request : read_dir_in (dir_vacated_bytes t) ≡ None
  pub given : DirTag
  pub reads : dir_vacated_in (dir_vacated_bytes t) ≡ Some given
  pub prefix : given.prefix ≡ t.prefix
  pub tag : given.tag ≡ t.tag

-- a DIREVICTED is read as one of that prefix and tag, and is no reply
pub record IsNoticed (t : DirTag) : Type 0 where
  pub untold : (xid inc : ℕ) → told_in xid inc (dir_evicted_bytes t) ≡ None
  pub told : DirTag
  pub reads : dir_evicted_in (dir_evicted_bytes t) ≡ Some told
  pub prefix : told.prefix ≡ t.prefix
  pub tag : told.tag ≡ t.tag

-- a page that is told: few names, and where a reading lease is granted its numbers are within their fields
pub record IsTelling (l : Listing) : Type 0 where
  pub few : length l.names ≤ most_names
  pub names : All IsEntry l.names
  pub grant : (g : Grant) → l.grant ≡ Some g → is_reading g.mode ≡ true → IsGrant g

abbrev pub IsTold : Answer → Type 0
IsTold (page l) = IsTelling l
IsTold wait = ⊤

-- what is read of an answer: the same page, with the same lease where it is a reading one
abbrev pub IsSame : (said read : Answer) → Type 0
IsSame (page l) (page m) = (m.names ≡ l.names) × (m.more ≡ l.more) × ((g : Grant) → m.grant ≡ Some g → is_reading g.mode ≡ true → l.grant ≡ Some g)
IsSame wait wait = ⊤
IsSame (page l) wait = ⊥
IsSame wait (page m) = ⊥

-- a request that changes a directory is read as one, of the same host
pub record IsChange (kept : Kept) (host : ℕ) (prefix : List ℕ) (bytes : List ℕ) : Type 0 where
  pub who : Who
  pub same : who.host ≡ host
  pub changes : changes_as kept host (datagram_in bytes) ≡ Some (record { who = who; prefix = prefix })

pub record IsCodec : Type 0 where
  pub asks : (r : ReadDir) → IsAsking r → IsRead r
  pub gives : (t : DirTag) → IsNoticing t → IsGiving t
  pub notices : (t : DirTag) → IsNoticing t → IsNoticed t
  pub tells : (xid inc x i : ℕ) (a b : Answer) → x < 2 ^ 32 → i < 2 ^ 32 → IsTold a → told_in xid inc (answer_bytes x i a) ≡ Some b
      → (x ≡ xid) × (i ≡ inc) × IsSame a b
  pub tells_no_notice : (x i : ℕ) (a : Answer) → x < 2 ^ 32 → i < 2 ^ 32 → IsTold a → dir_evicted_in (answer_bytes x i a) ≡ None
  pub creates : (kept : Kept) (host xid : ℕ) (who : Who) (seq : ℕ) (name : List ℕ) (blocks : ℕ) → IsName name → who.host < 2 ^ 32 → who.host ≡ host
      → IsChange kept host (directory name) (bytes_of (call xid (Request.Create who seq name blocks)))
  pub removes : (kept : Kept) (host xid : ℕ) (who : Who) (seq q file : ℕ) (f : File) → find_file file kept.files ≡ Some f → file < 2 ^ 32 → who.host < 2 ^ 32
      → who.host ≡ host → IsChange kept host (directory f.name) (bytes_of (call xid (Request.Remove who seq q file)))
