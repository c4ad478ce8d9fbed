-- Delayed writes are lost only by a client that was cut off beyond write slack (Macklem 1994, write slack and recovery).
use Rattle.std.specs.Prelude.{◌≡◌, ◌≤◌, ◌+◌, ℕ, List, [], ◌∷◌, ◌++◌, Option, Some, None, IsSomeAnd, ◌&&◌, ◌==◌, if◌then◌else◌, ⊤}
use Rattle.nq_base.specs.declared.Entry.{Entry}
use Rattle.nq_base.specs.declared.Entry.TheVariants.{S, L, G, F, O, X}
use Rattle.nq_base.specs.declared.Who.{Who}
use Rattle.nq_model.specs.protocol.Profile.{skew, write_slack}
use Rattle.nq_model.specs.laws.Journal.{Each, Exists, AtEachPlace, Loses}
use Rattle.nq_model.specs.protocol.Table.{same_who}

-- ---- times, in ticks of the server's clock

-- when a grant was made, and its term
pub record Given : Type 0 where
  pub time : ℕ
  pub term : ℕ

-- the last grant to an incarnation on a file
abbrev pub last_grant : List Entry → (who : Who) (file : ℕ) → Option Given
last_grant [] who file = None
last_grant (G by f mode tag term now ∷ before) who file =
    if same_who by who && (f == file) then Some (record { time = now; term = term }) else last_grant before who file
last_grant (other ∷ before) who file = last_grant before who file

-- where the entry is an S of the incarnation on the file, write slack has passed since
abbrev pub IsStoreOver : (who : Who) (file now : ℕ) → Entry → Type 0
IsStoreOver who file now (S by f block first last time) = by ≡ who → f ≡ file → time + write_slack ≤ now
IsStoreOver who file now other = ⊤

-- ---- silence

-- an F comes late enough for an incarnation on a file: write slack after the lease's end, after the last write that was
-- heard and after each store, and skew and slack after the term of the last grant
pub record IsLateEnd (before : List Entry) (who : Who) (file until heard now : ℕ) : Type 0 where
  pub heard_over : heard + write_slack ≤ now
  pub until_over : until + write_slack ≤ now
  pub grant_over : IsSomeAnd (last_grant before who file) (λ grant. grant.time + grant.term + skew + write_slack ≤ now)
  pub stores_over : Each (IsStoreOver who file now) before

-- ---- recovery

-- the entry is the X of a boot, the longest term that it tells is no less than the grant's, and that longest term, skew and
-- slack have passed since
abbrev pub IsLongWait : (boot now : ℕ) → Option Given → Entry → Type 0
IsLongWait boot now (Some grant) (X b time longest) = (b ≡ boot) × (grant.term ≤ longest) × (time + longest + skew + write_slack ≤ now)
IsLongWait boot now grant other = ⊥

-- an O comes late enough for an incarnation on a file: since its boot the longest term, skew and slack have passed, the last
-- grant had no longer term, and since each store write slack has passed
pub record IsLateOpening (before : List Entry) (who : Who) (file boot now : ℕ) : Type 0 where
  pub waited : Exists (IsLongWait boot now (last_grant before who file)) before
  pub stores_over : Each (IsStoreOver who file now) before

-- ---- the law

-- the entry ends the writing lease of an incarnation on a file: it is an F of both or an O, and comes late enough
abbrev pub Ends : (who : Who) (file : ℕ) → Entry → (before : List Entry) → Type 0
Ends who file (F by f until heard now) before = (by ≡ who) × (f ≡ file) × IsLateEnd before who file until heard now
Ends who file (O boot until heard now) before = IsLateOpening before who file boot now
Ends who file other before = ⊥

-- among the entries before an L there is one that ends its client's lease on the file, and the L covers no write that is
-- later than that one
pub record EndsFirst (loss : Entry) (who : Who) (file : ℕ) (before : List Entry) : Type 0 where
  pub later : List Entry
  pub ending : Entry
  pub earlier : List Entry
  pub splits : before ≡ later ++ ending ∷ earlier
  pub ends : Ends who file ending earlier
  pub none_after : ¬ Exists (Loses loss) later

-- an L is cut off: an entry that ends its client's lease on the file stands after every write that the L covers and before
-- the L
abbrev pub IsCutOff : (after : List Entry) → Entry → (before : List Entry) → Type 0
IsCutOff after (L who file block first last) before =
    EndsFirst (L who file block first last) who file before × ¬ Exists (Loses (L who file block first last)) after
IsCutOff after other before = ⊤

-- the losses of a journal are excused: each L is cut off
abbrev pub IsExcused : (journal : List Entry) → Type 0
IsExcused journal = AtEachPlace IsCutOff [] journal
