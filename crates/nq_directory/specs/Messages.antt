-- The messages of leased directories as bytes: each has one spelling with AUTH_NULL.
use Rattle.std.specs.Prelude.{ℕ, Bool, ◌^◌, ◌<◌, ◌≤◌, List, [], ◌∷◌, ◌++◌, Option, All, IfSome, length}
use Rattle.nq_base.specs.Name.{IsName}
use Rattle.nq_base.specs.declared.Grant.{Grant}
use Rattle.nq_datagrams.specs.Messages.{program, version}
use Rattle.nq_xdr.specs.declared.rpc.message.CallHead.{CallHead}
use Rattle.nq_xdr.specs.Message.{spelling, call_with, reply_with, null}
use Rattle.nq_wire.specs.Parts.{head, tag_bytes, grant_bytes, optional, IsWho, IsTag, IsGrant}
use Rattle.nq_xdr.specs.Item.{word, boolean, opaque}
use Rattle.nq_directory.specs.Prefix.{IsPrefix}
use Rattle.nq_directory.specs.declared.listing.messages.DirTag.{DirTag}
use Rattle.nq_directory.specs.declared.names.FileName.{FileName}
use Rattle.nq_directory.specs.declared.listing.messages.ReadDir.{ReadDir}

-- the number of the procedure READDIRLOOK
abbrev pub read_dir : ℕ
read_dir = 13

-- the number of the procedure DIREVICTED
abbrev pub dir_evicted : ℕ
dir_evicted = 15

-- the number of the procedure DIRVACATED
abbrev pub dir_vacated : ℕ
dir_vacated = 16

-- the status of a READDIRLOOK that is to come again later
abbrev pub later : ℕ
later = 501

-- the most names of a page
abbrev pub most_names : ℕ
most_names = 32

-- what a call of a procedure of the program begins with
abbrev pub head_of : (xid procedure : ℕ) → CallHead
head_of xid procedure = record { xid = xid; prog = program; vers = version; procedure = procedure }

-- ---- READDIRLOOK and its reply

-- the arguments of READDIRLOOK: who asks, the directory, the id behind which the page begins, and the wanted term
unfoldable pub read_dir_arguments : ReadDir → List ℕ
read_dir_arguments r = head r.who ++ opaque r.prefix ++ word r.after ++ word r.term

-- a READDIRLOOK
unfoldable pub read_dir_bytes : ReadDir → List ℕ
read_dir_bytes r = spelling (call_with (head_of r.xid read_dir) (read_dir_arguments r)) null null

-- a file with its name
unfoldable pub entry_bytes : FileName → List ℕ
entry_bytes e = word e.file ++ opaque e.name

-- files with their names
abbrev pub entries_bytes : List FileName → List ℕ
entries_bytes [] = []
entries_bytes (e ∷ es) = entry_bytes e ++ entries_bytes es

-- a page of a directory: its files, whether the list goes on behind them, and the lease, if one is granted
pub record Listing : Type 0 where
  pub names : List FileName
  pub more : Bool
  pub grant : Option Grant

-- what the reply to READDIRLOOK says: a page, or that the client is to ask again later
pub data Answer : Type 0 where
  page : Listing → Answer
  wait : Answer

-- what a page says before its grant
unfoldable pub front_bytes : (inc : ℕ) → List FileName → (more : Bool) → List ℕ
front_bytes inc names more = word inc ++ word 0 ++ word (length names) ++ entries_bytes names ++ boolean more

-- the results of READDIRLOOK: the incarnation that asked, the status, and behind OK the page
unfoldable pub results : (inc : ℕ) → Answer → List ℕ
results inc (page l) = front_bytes inc l.names l.more ++ optional grant_bytes l.grant
results inc wait = word inc ++ word later

-- the reply to a READDIRLOOK
unfoldable pub answer_bytes : (xid inc : ℕ) → Answer → List ℕ
answer_bytes xid inc answer = spelling (reply_with xid (results inc answer)) null null

-- ---- DIREVICTED and DIRVACATED

-- their arguments: the holder, the directory and the tag
unfoldable pub dir_tag_arguments : DirTag → List ℕ
dir_tag_arguments t = head t.who ++ opaque t.prefix ++ tag_bytes t.tag

-- a DIREVICTED
unfoldable pub dir_evicted_bytes : DirTag → List ℕ
dir_evicted_bytes t = spelling (call_with (head_of t.xid dir_evicted) (dir_tag_arguments t)) null null

-- a DIRVACATED
unfoldable pub dir_vacated_bytes : DirTag → List ℕ
dir_vacated_bytes t = spelling (call_with (head_of t.xid dir_vacated) (dir_tag_arguments t)) null null

-- ---- what every value of these types is

-- the numbers of a READDIRLOOK are words, and its prefix is one
pub record IsReadDir (r : ReadDir) : Type 0 where
  pub xid : r.xid < 2 ^ 32
  pub who : IsWho r.who
  pub prefix : IsPrefix r.prefix
  pub after : r.after < 2 ^ 32
  pub term : r.term < 2 ^ 32

-- so are those of a DIREVICTED and of a DIRVACATED
pub record IsDirTag (t : DirTag) : Type 0 where
  pub xid : t.xid < 2 ^ 32
  pub who : IsWho t.who
  pub prefix : IsPrefix t.prefix
  pub tag : IsTag t.tag

-- a file's id is a word, and its name is one
abbrev pub IsEntry : FileName → Type 0
IsEntry e = (e.file < 2 ^ 32) × IsName e.name

-- a page has at most 32 files
pub record IsListing (l : Listing) : Type 0 where
  pub few : length l.names ≤ most_names
  pub names : All IsEntry l.names
  pub grant : IfSome l.grant IsGrant

-- an answer that is a page has so many
abbrev pub IsAnswer : Answer → Type 0
IsAnswer (page l) = IsListing l
IsAnswer wait = Unit {0}
