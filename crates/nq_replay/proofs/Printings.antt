-- How printing bytes ends.
use Rattle.std.proofs.Common.{◌≡◌, ◌⊎◌, ℕ, List, Option, inl, inr, refl}
use Rattle.nq_base.specs.declared.ending.ending.Ending.{Ending}
use Rattle.nq_replay.specs.Schedules.{PrintsBytes}

-- all was printed, or the sink failed, or memory was wanting
pub bytes_end : (end : Ending) (bytes : List ℕ) (held now : Option (List ℕ)) (w w' : ℕ) → PrintsBytes end bytes held now w w'
    → (end ≡ Ending.Done) ⊎ ((end ≡ Ending.WriteFault) ⊎ (end ≡ Ending.Memory))
bytes_end Ending.Done bytes held now w w' printed = inl refl
bytes_end Ending.WriteFault bytes held now w w' printed = inr (inl refl)
bytes_end Ending.Memory bytes held now w w' printed = inr (inr refl)
bytes_end other bytes held now w w' printed = absurd printed
