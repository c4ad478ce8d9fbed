-- Where the first write of an entry of delayed writes stands, and from which earlier one it is undisturbed.
use Rattle.std.proofs.Common.{◌≡◌, ◌<◌, ◌≤◌, ◌⊎◌, ℕ, false, List, [], ◌∷◌, ◌++◌, None, refl, sym, subst, arith, inl, inr}
use Rattle.nq_base.specs.declared.Entry.{Entry}
use Rattle.nq_base.specs.declared.Entry.TheVariants.{A, W, R}
use Rattle.nq_base.specs.declared.Who.{Who}
use Rattle.walk_files.proofs.JournalMoves.{covers-more}
use Rattle.walk_files.proofs.WritesFit.{IsClear, IsRising}
use Rattle.nq_model.specs.protocol.Client.{ClientStep}
use Rattle.nq_model.specs.laws.Journal.{Throughout, Each}
use Rattle.walk_steps.proofs.Packets.{In}
use Rattle.walk_files.proofs.Accesses.{Accesses, neither, read, wrote}
use Rattle.walk_files.proofs.PlainParts.{IsPlain}
use Rattle.nq_model.specs.laws.Undisturbed.{IsDelayedWrite, LeavesAlone, IsUndisturbed}

-- ---- later writes

-- what disturbed nothing since a write disturbed nothing since a later one
pub since-later : (who : Who) (file block n m value : ℕ) (journal : List Entry) → Throughout IsRising journal → n ≤ m
    → In journal (W who file block m value false) → IsUndisturbed who file block n journal → IsUndisturbed who file block m journal
since-later who file block n m value [] rising below there u = absurd u
since-later who file block n m value (e ∷ before) rising below (inl same) u = inl (subst (IsDelayedWrite who file block m) (sym same) (refl, refl, refl, refl))
since-later who file block n m value (e ∷ before) rising below (inr there) (inr u) =
    inr (u.0, since-later who file block n m value before rising.1 below there u.1)
since-later who file block n m value (e ∷ before) rising below (inr there) (inl is) = case e is rising.0
  where
    case : (e : Entry) → IsDelayedWrite who file block n e → IsRising e before
        → IsDelayedWrite who file block m e ⊎ LeavesAlone who file e × IsUndisturbed who file block m before
    case (W by f b k v false) is rises =
        let mine : In before (W by file block m value false) = subst (λ w. In before (W w file block m value false)) (sym is.0) there in
        let less : m < k = rises file block m value mine in
        let at : k ≡ n = is.3 in
        absurd (omega arith)
    case e is rises = absurd is

-- ---- the newest write

same-write : (who by : Who) (file f block b number n value v : ℕ) → W by f b n v false ≡ W who file block number value false
    → IsDelayedWrite who file block number (W by f b n v false)
same-write who by file f block b number n value v e = (cc, cc, cc, cc)

pub plain-no-write : (es : List Entry) (who : Who) (file block number value : ℕ) → Each IsPlain es → In es (W who file block number value false) → ⊥
plain-no-write [] who file block number value plain there = there
plain-no-write (e ∷ es) who file block number value plain (inl same) = subst IsPlain same plain.0
plain-no-write (e ∷ es) who file block number value plain (inr there) = plain-no-write es who file block number value plain.1 there

read-no-write : (who by : Who) (q file block number value f b v w : ℕ) (said : _) (rest : List Entry) → Each IsPlain rest
    → In (A by q said ∷ R by q f b v None ∷ rest) (W who file block number value false) → ⊥
read-no-write who by q file block number value f b v w said rest plain (inl e) = absurd (cc)
read-no-write who by q file block number value f b v w said rest plain (inr (inl e)) = absurd (cc)
read-no-write who by q file block number value f b v w said rest plain (inr (inr there)) = plain-no-write rest who file block number value plain there

-- a write that was delayed in this step is undisturbed
pub fresh-write : (who by : Who) (t : ClientStep) (journal : List Entry) (file block number value : ℕ) → Accesses by t
    → In t.entries (W who file block number value false) → Each (LeavesAlone who file) t.entries
    → IsUndisturbed who file block number (t.entries ++ journal)
fresh-write who by t journal file block number value (neither plain) there leaves = absurd (plain-no-write t.entries who file block number value plain there)
fresh-write who by t journal file block number value (read q f b lease body rest es plain held lets has idle) there leaves = absurd
    (read-no-write who by q file block number value f b _ 0 _ rest plain (subst (λ zs. In zs (W who file block number value false)) es there))
fresh-write who by t journal file block number value (wrote f b n v lease more rest es plain others held lets calm) there leaves =
    subst (λ zs. IsUndisturbed who file block number (zs ++ journal)) (sym es)
    (past more plain (subst (λ zs. In zs (W who file block number value false)) es there) (subst (Each (LeavesAlone who file)) es leaves))
  where
    past : (more : List Entry) → Each IsPlain more → In (more ++ W by f b n v false ∷ rest) (W who file block number value false)
        → Each (LeavesAlone who file) (more ++ W by f b n v false ∷ rest)
        → IsUndisturbed who file block number ((more ++ W by f b n v false ∷ rest) ++ journal)
    past [] plain (inl e) leaves = inl (same-write who by file f block b number n value v e)
    past [] plain (inr there) leaves = absurd (plain-no-write rest who file block number value others there)
    past (e ∷ more) plain (inl same) leaves = absurd (subst IsPlain same plain.0)
    past (e ∷ more) plain (inr there) leaves = inr (leaves.0, past more plain.1 there leaves.1)

-- ---- numbers that are covered

pub clear-less : (more journal : List Entry) (who : Who) (file block first last : ℕ) → IsClear (more ++ journal) who file block first last
    → IsClear journal who file block first last
clear-less more journal who file block first last clear n a b c = clear n a b (covers-more more journal who file block n c)
