-- What replies tell of contents: a value or a length at a revision, and the change that a request made.
use Rattle.std.specs.Prelude.{◌≡◌, ◌≢◌, ◌≤◌, ℕ, ◌+◌, true, List, Option, Some, None, length, slice_get, ⊤}
use Rattle.nq_base.specs.Block.{value_of}
use Rattle.nq_base.specs.declared.Entry.{Entry}
use Rattle.nq_base.specs.declared.Grant.{Grant}
use Rattle.nq_base.specs.declared.Reply.{Reply}
use Rattle.nq_base.specs.declared.Request.{Request}
use Rattle.nq_base.specs.declared.Request.TheVariants.{Write, Resize}
use Rattle.nq_model.specs.laws.Contents.{changes_of, delayed_value, content_at, change_at}

-- ---- values and lengths at a revision

-- the journal tells that many changes of a file at least
abbrev pub IsReached : List Entry → (file rev : ℕ) → Type 0
IsReached journal file rev = rev ≤ changes_of journal file

-- the block of a file had this value at this revision
pub record HasValue (first : ℕ → ℕ) (journal : List Entry) (file rev block value : ℕ) : Type 0 where
  pub reached : IsReached journal file rev
  pub has : slice_get (content_at journal (first file) file rev) block ≡ Some value

-- the file had this length at this revision
pub record HasLength (first : ℕ → ℕ) (journal : List Entry) (file rev blocks : ℕ) : Type 0 where
  pub reached : IsReached journal file rev
  pub length : length (content_at journal (first file) file rev) ≡ blocks

-- the change of this number set a block of the file, and left the other blocks
pub record SetsOne (first : ℕ → ℕ) (journal : List Entry) (file rev block value : ℕ) : Type 0 where
  pub this : HasValue first journal file rev block value
  pub others : (old other v : ℕ) → rev ≡ old + 1 → other ≢ block → HasValue first journal file old other v → HasValue first journal file rev other v

-- ---- what replies tell

-- a grant tells the length of the file at its revision
abbrev pub GrantFits : (first : ℕ → ℕ) → List Entry → (file : ℕ) → Option Grant → Type 0
GrantFits first journal file None = ⊤
GrantFits first journal file (Some g) = HasLength first journal file g.rev g.blocks

-- a grant that comes with a block has the revision of that block
abbrev pub GrantIsOf : (rev : ℕ) → Option Grant → Type 0
GrantIsOf rev None = ⊤
GrantIsOf rev (Some g) = g.rev ≡ rev

-- what a reply to this request says of contents is true
abbrev pub TellsContents : (first : ℕ → ℕ) → List Entry → Request → Reply → Type 0
TellsContents first journal (Request.Read who q file block want) (Reply.Read inc rev body grant) =
    HasValue first journal file rev block (value_of body) × GrantFits first journal file grant × GrantIsOf rev grant
TellsContents first journal (Request.GetLease who file want) (Reply.GetLease inc grant) = GrantFits first journal file grant
TellsContents first journal (Request.Write who seq file block f l push body) (Reply.Write inc rev) =
    SetsOne first journal file rev block (value_of body)
TellsContents first journal (Request.Resize who seq q file blocks) (Reply.Resize inc rev) = HasLength first journal file rev blocks
TellsContents first journal other r = ⊤

-- ---- what was done

-- the change of this number is this entry, with some time in it, or some length before it
pub record IsChangeAs (journal : List Entry) (entry : ℕ → Entry) (file rev : ℕ) : Type 0 where
  pub some : ℕ
  pub change : change_at journal file rev ≡ Some (entry some)

-- the change of this number is what a request asked for, and the server keeps that number as the value of the request. A
-- WRITE went through under its number; or a push, over the revision before, stored delayed writes of which the last has the
-- value that it carries; or a RESIZE gave the file its length
abbrev pub IsChangeBy : List Entry → (value : ℕ) → Request → Type 0
IsChangeBy journal value (Write who seq file block f l None body) =
    change_at journal file value ≡ Some (Entry.W who file block f (value_of body) true)
IsChangeBy journal value (Write who seq file block f l (Some push) body) =
    (value ≡ push.base + 1) × (delayed_value journal who file block l ≡ Some (value_of body)) × IsChangeAs journal (λ now. Entry.S who file block f l
    now) file value
IsChangeBy journal value (Resize who seq q file blocks) = IsChangeAs journal (λ from. Entry.Z who q file from blocks) file value
IsChangeBy journal value other = ⊤

-- the content after that change: one block was set, or the file has this length
abbrev pub HasChanged : (first : ℕ → ℕ) → List Entry → (value : ℕ) → Request → Type 0
HasChanged first journal value (Write who seq file block f l push body) = SetsOne first journal file value block (value_of body)
HasChanged first journal value (Resize who seq q file blocks) = HasLength first journal file value blocks
HasChanged first journal value other = ⊤

-- a request was done, and the server keeps this value of it
pub record IsDoneAs (first : ℕ → ℕ) (journal : List Entry) (value : ℕ) (r : Request) : Type 0 where
  pub change : IsChangeBy journal value r
  pub content : HasChanged first journal value r
