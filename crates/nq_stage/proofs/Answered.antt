-- What is said of a STAGE and of a COMMIT that are of the host.
use Rattle.std.proofs.Common.{◌≡◌, ℕ, List, Some, sym, ap, ◌∙◌}
use Rattle.std.specs.Option.{option_map}
use Rattle.nq_stage.specs.declared.messages.Commit.{Commit}
use Rattle.nq_stage.specs.Reading.{Stage}
use Rattle.nq_stage.specs.declared.pool.pool.Rebuilt.{Rebuilt}
use Rattle.nq_stage.specs.Answering.{Answers, Rebuilds, own_stage, own_commit, staged, answered}
use Rattle.nq_stage.specs.Bodies.{Bodies}

-- the reply to a STAGE, with what is kept then
pub stages_by : (old new : Bodies) (host : ℕ) (bytes reply : List ℕ) (s : Stage) → Some s ≡ own_stage host bytes → (reply, new) ≡ staged old s
    → option_map (staged old) (own_stage host bytes) ≡ Some (reply, new)
stages_by old new host bytes reply s is given = ap (option_map (staged old)) (sym is) ∙ ap (λ x. Some x) (sym given)

answered-step : (pool : Bodies) (host : ℕ) (bytes : List ℕ) (c : Commit) → Some c ≡ own_commit host bytes → option_map (answered pool)
    (own_commit host bytes) ≡ Some (answered pool c)
answered-step pool host bytes c is = ap (option_map (answered pool)) (sym is)

-- the answer to a COMMIT
pub rebuilds_by : (pool : Bodies) (host : ℕ) (bytes : List ℕ) (c : Commit) (r : Rebuilt) → Some c ≡ own_commit host bytes → Answers (answered pool c)
    r → Rebuilds host bytes r pool
rebuilds_by pool host bytes c (Rebuilt.Write v) is said = answered-step pool host bytes c is ∙ ap (λ x. Some x) said
rebuilds_by pool host bytes c (Rebuilt.Unstaged v) is said = answered-step pool host bytes c is ∙ ap (λ x. Some x) said
rebuilds_by pool host bytes c Rebuilt.NotCommit is said = absurd said
rebuilds_by pool host bytes c Rebuilt.Memory is said = absurd said
