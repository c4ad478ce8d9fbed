use Rattle.std.proofs.Common.{rules, ◌≡◌, ◌⊎◌, ◌≤◌, ℕ, true, Option, Some, if◌then◌else◌, sym, ap, ◌∙◌, arith, inl, inr}
use Rattle.std.specs.Prelude.{nat_le}
use Rattle.std.proofs.lemmas.Bool.Decides.{nat_tests}
use Rattle.std.proofs.lemmas.Grind.{common_steps}
use Rattle.nq_keeper.specs.Booting.{ended_at, opened_by}
use Rattle.nq_keeper.specs.Recovery.{Recovery}
use Rattle.nq_model.specs.protocol.Kept.{Kept}
use Rattle.nq_keeper.proofs.requests.boot.recovering.Recovering.finish.Goals as goal

reached : (until time : ℕ) → until ≤ time → nat_le until time ≡ true
reached until time h = grind (arith, nat_tests)

-- what a stop leaves, where the time has come
leaves-ended : (r : Recovery) (time longest : ℕ) (kept : Kept) (found : Option Kept) → r.until ≤ time → longest ≡ r.longest → (found ≡ Some kept)
    ⊎ (found ≡ Some (opened_by kept longest)) → (found ≡ Some kept) ⊎ (found ≡ Some (ended_at r time kept))
leaves-ended r time longest kept found come same (inl h) = inl h
leaves-ended r time longest kept found come same (inr h) =
    inr (h ∙ ap (λ n. Some (opened_by kept n)) same ∙ sym (ap (λ b. Some (if b then opened_by kept r.longest else kept)) (reached r.until time come)))

pub returns-in-Ok-clause-leaves : goal.returns-in-Ok-clause-leaves
returns-in-Ok-clause-leaves g c =
    λ kept told found left.
    leaves-ended c.args.self c.args.now c.longest.result kept found (first_of (search rules, grind (arith, common_steps, nat_tests)))
    c.longest.ensures.longest (c.open.ensures.leaves kept told found left)

pub returns-in-Err-Failed-clause-leaves : goal.returns-in-Err-Failed-clause-leaves
returns-in-Err-Failed-clause-leaves g c =
    λ kept told found left.
    leaves-ended c.args.self c.args.now c.longest.result kept found (first_of (search rules, grind (arith, common_steps, nat_tests)))
    c.longest.ensures.longest (c.open.ensures.leaves kept told found left)

pub returns-in-Err-Memory-clause-leaves : goal.returns-in-Err-Memory-clause-leaves
returns-in-Err-Memory-clause-leaves g c =
    λ kept told found left.
    leaves-ended c.args.self c.args.now c.longest.result kept found (first_of (search rules, grind (arith, common_steps, nat_tests)))
    c.longest.ensures.longest (c.open.ensures.leaves kept told found left)
