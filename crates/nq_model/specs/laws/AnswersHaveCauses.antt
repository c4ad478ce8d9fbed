-- Each answer that refuses has its cause: what it says stood at the server between the call and its answer, in every run.
use Rattle.std.specs.Prelude.{◌≡◌, ◌⊎◌, ◌<◌, ◌≤◌, ◌+◌, ◌-◌, ℕ, List, Option, Some, None, length, ⊤}
use Rattle.nq_base.specs.declared.Entry.{Entry}
use Rattle.nq_base.specs.declared.Entry.TheVariants.{A}
use Rattle.nq_base.specs.declared.Event.{Event}
use Rattle.nq_base.specs.declared.Said.{Said}
use Rattle.nq_base.specs.declared.Said.TheVariants.{NoEntry, Exists, NoSpace, Range}
use Rattle.nq_base.specs.declared.Told.{Told}
use Rattle.nq_base.specs.declared.Told.TheVariants.{Create, Lookup, Read, Fetch, Write, Put, Resize}
use Rattle.nq_base.specs.declared.Who.{Who}
use Rattle.nq_model.specs.laws.AnswersTellWhatWas.{Meanwhile}
use Rattle.nq_model.specs.laws.Bounds.{InEveryRun}
use Rattle.nq_model.specs.laws.Journal.{Throughout, SpeaksOf, call_of}
use Rattle.nq_model.specs.protocol.Kept.{File, blocks_of, blocks_in_all, find_file, find_name}
use Rattle.nq_model.specs.protocol.Profile.{most_blocks, most_blocks_of_file, most_files, most_ids}
use Rattle.nq_model.specs.protocol.World.{Head, run}

-- ---- what stands at the server

-- no file of this name is kept
abbrev pub LacksName : List File → (name : List ℕ) → Type 0
LacksName files name = find_name name files ≡ None

-- a file of this name is kept
pub record HasName (files : List File) (name : List ℕ) : Type 0 where
  pub file : File
  pub found : find_name name files ≡ Some file

-- no file of this id is kept
abbrev pub LacksFile : List File → (id : ℕ) → Type 0
LacksFile files id = find_file id files ≡ None

-- a file of this id is kept, and has no such block
pub record LacksBlock (files : List File) (id block : ℕ) : Type 0 where
  pub file : File
  pub found : find_file id files ≡ Some file
  pub beyond : blocks_of file ≤ block

-- no file can have this length: it is 0, or above the most
abbrev pub IsNoLength : (blocks : ℕ) → Type 0
IsNoLength blocks = (blocks ≡ 0) ⊎ (most_blocks_of_file < blocks)

-- beside these files none of so many blocks can be kept: there are as many as can be, or there would be too many blocks in all, or the
-- next id is none that is given
abbrev pub HasNoRoom : List File → (next blocks : ℕ) → Type 0
HasNoRoom files next blocks = (most_files ≤ length files) ⊎ ((most_blocks < blocks_in_all files + blocks) ⊎ (most_ids ≤ next))

-- a file of this id is kept, and with so many blocks in it there would be too many in all
pub record CannotGrow (files : List File) (id blocks : ℕ) : Type 0 where
  pub file : File
  pub found : find_file id files ≡ Some file
  pub above : most_blocks < (blocks_in_all files - blocks_of file) + blocks

-- ---- answers

-- between the call and its answer the file had no such block, as the server says, or a client by the length that a running lease tells
abbrev pub HadNoBlock : Head → List Event → (who : Who) (q file block : ℕ) → Type 0
HadNoBlock head events who q file block = Meanwhile (λ w. LacksBlock w.server.kept.files file block) who q head events

-- why a call was answered so: NOENTRY is said to `lookup` alone, and between the call and its answer no file of its name was kept; STALE to
-- a call that speaks of a file, and no file of its id was kept; EXISTS to `create` alone, and a file of its name was kept; NOSPACE to
-- `create` and `resize` alone, and there was no room for such a file, or for such a length of the file; RANGE to `create` and `resize` with
-- a length that no file can have, and to a call that reads or writes a block, and its file had no such block
abbrev pub IsAnsweredSo : Head → List Event → (who : Who) (q : ℕ) → Said → Option Told → Type 0
IsAnsweredSo head events who q NoEntry (Some (Lookup name)) = Meanwhile (λ w. LacksName w.server.kept.files name) who q head events
IsAnsweredSo head events who q NoEntry other = ⊥
IsAnsweredSo head events who q Said.Stale told =
    (file : ℕ) × SpeaksOf file told × Meanwhile (λ w. LacksFile w.server.kept.files file) who q head events
IsAnsweredSo head events who q Exists (Some (Create name blocks)) = Meanwhile (λ w. HasName w.server.kept.files name) who q head events
IsAnsweredSo head events who q Exists other = ⊥
IsAnsweredSo head events who q NoSpace (Some (Create name blocks)) =
    Meanwhile (λ w. HasNoRoom w.server.kept.files w.server.kept.next blocks) who q head events
IsAnsweredSo head events who q NoSpace (Some (Resize file blocks)) = Meanwhile (λ w. CannotGrow w.server.kept.files file blocks) who q head events
IsAnsweredSo head events who q NoSpace other = ⊥
IsAnsweredSo head events who q Range (Some (Create name blocks)) = IsNoLength blocks
IsAnsweredSo head events who q Range (Some (Resize file blocks)) = IsNoLength blocks
IsAnsweredSo head events who q Range (Some (Read file block)) = HadNoBlock head events who q file block
IsAnsweredSo head events who q Range (Some (Fetch file block)) = HadNoBlock head events who q file block
IsAnsweredSo head events who q Range (Some (Write file block value)) = HadNoBlock head events who q file block
IsAnsweredSo head events who q Range (Some (Put file block value)) = HadNoBlock head events who q file block
IsAnsweredSo head events who q Range other = ⊥
IsAnsweredSo head events who q other told = ⊤

-- what is asked of an A at its place
abbrev pub HasCauseAt : Head → List Event → Entry → (before : List Entry) → Type 0
HasCauseAt head events (A who q said) before = IsAnsweredSo head events who q said (call_of before who q)
HasCauseAt head events other before = ⊤

-- so it is of each A of the journal
abbrev pub HaveCauses : Head → List Event → Type 0
HaveCauses head events = Throughout (HasCauseAt head events) (run head events).journal

-- after every schedule within skew
abbrev pub AnswersHaveCauses : Type 0
AnswersHaveCauses = InEveryRun HaveCauses
