-- What a pool never answers with: a body of an earlier boot, of another incarnation or of another write.
use Rattle.std.specs.Prelude.{◌≡◌, ℕ, List, [], ◌∷◌, Option, Some, None, if◌then◌else◌}
use Rattle.nq_stage.specs.declared.messages.Commit.{Commit}
use Rattle.nq_stage.specs.declared.messages.Written.{Written}
use Rattle.nq_stage.specs.Messages.{write_bytes, written_of}
use Rattle.nq_stage.specs.Reading.{Stage}
use Rattle.nq_stage.specs.Writes.{is_same}
use Rattle.nq_stage.specs.Bodies.{Bodies}
use Rattle.nq_stage.specs.Answering.{own_stage, staged, answered, write}

-- a pool after bytes from a host: after a STAGE what is kept then, else the pool
abbrev pub after : Bodies → Option Stage → Bodies
after pool None = pool
after pool (Some s) = (staged pool s).1

-- a pool after all that came since its boot, the newest first: from which host, and the bytes
abbrev pub pool_after : (boot : ℕ) → List (ℕ × List ℕ) → Bodies
pool_after boot [] = record { boot = boot; bodies = [] }
pool_after boot (d ∷ given) = after (pool_after boot given) (own_stage d.0 d.1)

-- the body of a STAGE, where it is of this write, else another one
abbrev pub body_or : Written → Option Stage → Option (List ℕ) → Option (List ℕ)
body_or w None other = other
body_or w (Some s) other = if is_same w s.written then Some s.body else other

-- the body that came in the newest STAGE of a write
abbrev pub newest : Written → List (ℕ × List ℕ) → Option (List ℕ)
newest w [] = None
newest w (d ∷ given) = body_or w (own_stage d.0 d.1) (newest w given)

-- a WRITE that was rebuilt of a COMMIT has the verifier of the boot, and the body of the newest STAGE of its write since then
pub record IsOfBoot (boot : ℕ) (given : List (ℕ × List ℕ)) (c : Commit) (bytes : List ℕ) : Type 0 where
  pub verifier : c.verifier ≡ boot
  pub body : List ℕ
  pub staged_last : newest (written_of c.pushed) given ≡ Some body
  pub bytes_are : bytes ≡ write_bytes c.pushed body

-- every WRITE that a pool rebuilds is so
abbrev pub AnswersWithItsBoot : Type 0
AnswersWithItsBoot =
    (boot : ℕ) (given : List (ℕ × List ℕ)) (c : Commit) (bytes : List ℕ)
    → answered (pool_after boot given) c ≡ write bytes
    → IsOfBoot boot given c bytes
