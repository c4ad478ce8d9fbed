-- What becomes of a delayed write.
-- It is stored where an S covers it, lost where an L covers it, ended where neither does and its host starts again
-- after it, and waiting otherwise.
use Rattle.std.specs.Prelude.{◌≡◌, ◌⊎◌, List, false, ⊤}
use Rattle.nq_base.specs.declared.Entry.{Entry}
use Rattle.nq_base.specs.declared.Entry.TheVariants.{W, S, L, B}
use Rattle.nq_model.specs.laws.Journal.{Each, Exists, AtMostOne, Throughout, Covers, IsStored, IsLost}

-- the entry is a B of the host of a write
abbrev pub Restarts : Entry → Entry → Type 0
Restarts (B started) (W who file block number value through) = started.host ≡ who.host
Restarts entry other = ⊥

-- the entry is a delayed write
abbrev pub IsDelayed : Entry → Type 0
IsDelayed (W who file block number value false) = ⊤
IsDelayed other = ⊥

-- a delayed write is ended where no S or L covers it and a B of its host stands after it
pub record IsEnded (whole after : List Entry) (write : Entry) : Type 0 where
  pub delayed : IsDelayed write
  pub uncovered : ¬ Exists (λ entry. Covers entry write) whole
  pub restarted : Exists (λ entry. Restarts entry write) after

-- a delayed write waits where no S or L covers it and no B of its host stands after it
pub record IsWaiting (whole after : List Entry) (write : Entry) : Type 0 where
  pub delayed : IsDelayed write
  pub uncovered : ¬ Exists (λ entry. Covers entry write) whole
  pub running : ¬ Exists (λ entry. Restarts entry write) after

-- a delayed write is missing where it is lost or ended
abbrev pub IsMissing : (whole after : List Entry) (write : Entry) → Type 0
IsMissing whole after write = IsLost whole write ⊎ IsEnded whole after write

-- where the entry covers a write, no entry before it does
abbrev pub IsFirstToCover : (before : List Entry) (entry write : Entry) → Type 0
IsFirstToCover before entry write = Covers entry write → ¬ Exists (λ other. Covers other write) before

-- no delayed write is covered by two entries, and each L covers one at least
abbrev pub IsAccountedAt : (whole : List Entry) → Entry → (before : List Entry) → Type 0
IsAccountedAt whole (S who file block first last now) before = Each (IsFirstToCover before (S who file block first last now)) whole
IsAccountedAt whole (L who file block first last) before =
    Each (IsFirstToCover before (L who file block first last)) whole × Exists (Covers (L who file block first last)) whole
IsAccountedAt whole other before = ⊤

-- a journal accounts for its delayed writes: none is covered by two entries, and no L is of nothing
abbrev pub IsAccounted : (journal : List Entry) → Type 0
IsAccounted journal = Throughout (IsAccountedAt journal) journal

-- what follows: a journal that accounts for its delayed writes has one entry at most that covers a write
abbrev pub CoversOnce : Type 0
CoversOnce = (journal : List Entry) → IsAccounted journal → Each (λ write. AtMostOne (λ entry. Covers entry write) journal) journal

-- and has no write that is both stored and lost
abbrev pub StoredOrLost : Type 0
StoredOrLost = (journal : List Entry) → IsAccounted journal → Each (λ write. IsStored journal write → ¬ IsLost journal write) journal
