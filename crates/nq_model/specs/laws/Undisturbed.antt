-- Nobody disturbs delayed writes: since the first of them nobody else read or wrote their file (Gray and Cheriton 1989;
-- Macklem 1994).
use Rattle.std.specs.Prelude.{◌≡◌, ◌≢◌, ◌⊎◌, ℕ, false, List, [], ◌∷◌, ⊤}
use Rattle.nq_base.specs.declared.Entry.{Entry}
use Rattle.nq_base.specs.declared.Entry.TheVariants.{W, R, S, Z, F}
use Rattle.nq_base.specs.declared.Who.{Who}

-- the entry is this delayed write
abbrev pub IsDelayedWrite : (who : Who) (file block number : ℕ) → Entry → Type 0
IsDelayedWrite who file block number (W by f b n value false) = (by ≡ who) × (f ≡ file) × (b ≡ block) × (n ≡ number)
IsDelayedWrite who file block number other = ⊥

-- an entry leaves the delayed writes of an incarnation on a file undisturbed. It is not a write, read or store of that file
-- by another client. Nor is it a write of this client that went through, a change of the length, or an end of a lease in
-- silence
abbrev pub LeavesAlone : (who : Who) (file : ℕ) → Entry → Type 0
LeavesAlone who file (W by f block number value through) = f ≡ file → (by ≡ who) × (through ≡ false)
LeavesAlone who file (R by q f block value served) = f ≡ file → by ≡ who
LeavesAlone who file (S by f block first last now) = f ≡ file → by ≡ who
LeavesAlone who file (Z by q f from to) = f ≢ file
LeavesAlone who file (F by f until heard now) = f ≢ file
LeavesAlone who file other = ⊤

-- nothing has disturbed the incarnation's delayed writes on the file since this one
abbrev pub IsUndisturbed : (who : Who) (file block number : ℕ) → List Entry → Type 0
IsUndisturbed who file block number [] = ⊥
IsUndisturbed who file block number (entry ∷ before) =
    IsDelayedWrite who file block number entry ⊎ LeavesAlone who file entry × IsUndisturbed who file block number before
