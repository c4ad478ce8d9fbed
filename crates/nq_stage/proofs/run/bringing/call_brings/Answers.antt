use Rattle.std.proofs.Common.{◌≡◌, ◌<◌, ◌^◌, ◌⊎◌, ℕ, List, length, sym, subst, inl, inr}
use Rattle.nq_base.specs.declared.Call.{Call}
use Rattle.nq_stage.specs.Theorem.{BringsBlock}
use Rattle.nq_stage.proofs.run.bringing.call_brings.Goals as goal

writes : (call : Call) (file block : ℕ) (body : List ℕ) → (call ≡ Call.Write file block body) ⊎ (call ≡ Call.Put file block body)
    → file < 2 ^ 32 → block < 2 ^ 32 → length body ≡ 4096 → BringsBlock call
writes call file block body (inl is) few below size = subst BringsBlock (sym is) (few, below, size)
writes call file block body (inr is) few below size = subst BringsBlock (sym is) (few, below, size)

pub returns-in-Write : goal.returns-in-Write
returns-in-Write c =
    let few = subst (λ n. n < 2 ^ 32) c.file.view_is c.is_word.ensures in
    let below = subst (λ n. n < 2 ^ 32) c.block.view_is c.is_word-in-Write.ensures in
    writes _ _ _ _ c.in-Write.is few below c.seen-bytes.ensures.size
