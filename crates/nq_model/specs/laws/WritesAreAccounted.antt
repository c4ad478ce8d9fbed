-- What becomes of delayed writes, in every run.
use Rattle.std.specs.Prelude.{◌≡◌, ◌≤◌, ◌⊎◌, ℕ, List, [], Option, Some, None, false, slice_get}
use Rattle.nq_base.specs.declared.Entry.{Entry}
use Rattle.nq_base.specs.declared.Entry.TheVariants.{W}
use Rattle.nq_base.specs.declared.Push.{Push}
use Rattle.nq_base.specs.declared.Who.{Who}
use Rattle.nq_model.specs.laws.Bounds.{InEveryRun}
use Rattle.nq_model.specs.protocol.Client.{Client}
use Rattle.nq_model.specs.laws.Fate.{IsAccounted, IsDelayed, IsMissing, IsWaiting}
use Rattle.nq_model.specs.laws.Journal.{Each, Exists, AtEachPlace, Covers, IsStored}
use Rattle.nq_model.specs.protocol.World.{World, run}

-- after every schedule within skew the journal accounts for its delayed writes
abbrev pub AccountedInEveryRun : Type 0
AccountedInEveryRun = InEveryRun (λ head events. IsAccounted (run head events).journal)

-- these delayed writes of a client are of the write's file and block, and their numbers enclose the write's number
abbrev pub Encloses : Push → (write : Entry) → Type 0
Encloses p (W who file block number value through) = (p.file ≡ file) × (p.block ≡ block) × (p.first ≤ number) × (number ≤ p.last)
Encloses p other = ⊥

-- the push under way encloses the write
abbrev pub UnderWayEncloses : Option Push → (write : Entry) → Type 0
UnderWayEncloses None write = ⊥
UnderWayEncloses (Some p) write = Encloses p write

-- a client still has a write: it lies within one of the delayed writes in its list, or within the push under way
abbrev pub StillHas : Client → (write : Entry) → Type 0
StillHas c write = Exists (λ p. Encloses p write) c.dirty ⊎ UnderWayEncloses c.push write

-- the entry is a delayed write of an incarnation
abbrev pub IsDelayedBy : Who → Entry → Type 0
IsDelayedBy who (W by file block number value false) = by ≡ who
IsDelayedBy who other = ⊥

-- ---- writes that wait

-- a client that runs still has each delayed write of its incarnation that no S or L covers
abbrev pub WaitingAreUnsaved : World → Type 0
WaitingAreUnsaved w =
    (host : ℕ) (c : Client)
    → slice_get w.clients host ≡ Some c
    → Each (λ write. IsDelayedBy c.who write → ¬ Exists (λ entry. Covers entry write) w.journal → StillHas c write) w.journal

-- after every schedule within skew
abbrev pub WaitingAreUnsavedInEveryRun : Type 0
WaitingAreUnsavedInEveryRun = InEveryRun (λ head events. WaitingAreUnsaved (run head events))

-- ---- the fate of each write

-- the client that runs is of the very incarnation that made the write, and still has it
pub record IsAtItsClient (w : World) (who : Who) (write : Entry) : Type 0 where
  pub client : Client
  pub runs : slice_get w.clients who.host ≡ Some client
  pub same : client.who ≡ who
  pub unsaved : StillHas client write

-- the client that made the write runs, and still has it
abbrev pub IsStillUnsaved : World → (write : Entry) → Type 0
IsStillUnsaved w (W who file block number value through) = IsAtItsClient w who (W who file block number value through)
IsStillUnsaved w other = ⊥

-- the fate of a delayed write: it is stored; or it is missing, since it is lost or its host started again after it; or it
-- waits, and the client that made it runs and still has it
abbrev pub HasFate : World → (after : List Entry) → (write : Entry) → Type 0
HasFate w after write = IsStored w.journal write ⊎ IsMissing w.journal after write ⊎ IsWaiting w.journal after write × IsStillUnsaved w write

-- each delayed write has one of these fates, and there is no other
abbrev pub EachHasItsFate : World → Type 0
EachHasItsFate w = AtEachPlace (λ after write before. IsDelayed write → HasFate w after write) [] w.journal

-- after every schedule within skew
abbrev pub EachHasItsFateInEveryRun : Type 0
EachHasItsFateInEveryRun = InEveryRun (λ head events. EachHasItsFate (run head events))
