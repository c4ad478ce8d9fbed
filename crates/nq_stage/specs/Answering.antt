-- What a STAGE and a COMMIT give.
use Rattle.std.specs.Prelude.{◌≡◌, ℕ, ◌==◌, List, Option, Some, None, IsSome, if◌then◌else◌}
use Rattle.std.specs.Option.{option_map}
use Rattle.nq_stage.specs.declared.messages.Commit.{Commit}
use Rattle.nq_stage.specs.Messages.{staged_bytes, unstaged_bytes, write_bytes, written_of}
use Rattle.nq_stage.specs.Reading.{Stage, stage_in, commit_in}
use Rattle.nq_stage.specs.declared.pool.pool.Rebuilt.{Rebuilt}
use Rattle.nq_stage.specs.declared.pool.pool.Staging.{Staging}
use Rattle.nq_stage.specs.Bodies.{Bodies, with_body, body_of}

-- ---- STAGE

-- a STAGE, where it is of this host
abbrev pub stage_if_own : (host : ℕ) → Option Stage → Option Stage
stage_if_own host None = None
stage_if_own host (Some s) = if s.written.host == host then Some s else None

-- the STAGE of this host that bytes are
abbrev pub own_stage : (host : ℕ) → List ℕ → Option Stage
own_stage host bytes = stage_if_own host (stage_in bytes)

-- the reply to a STAGE, and what is kept after it
abbrev pub staged : Bodies → Stage → List ℕ × Bodies
staged pool s = (staged_bytes s.xid s.written.inc pool.boot, record pool { bodies = with_body s.written s.body pool.bodies })

-- What was said to bytes from this host, and what is kept then: to a STAGE the reply; bytes that are none change nothing, and
-- want of memory changes nothing.
abbrev pub Stages : (host : ℕ) → List ℕ → Staging → (old new : Bodies) → Type 0
Stages host bytes (Staging.Reply v) old new = option_map (staged old) (own_stage host bytes) ≡ Some (v.items, new)
Stages host bytes Staging.NotStage old new = (own_stage host bytes ≡ None) × (new ≡ old)
Stages host bytes Staging.Memory old new = IsSome (own_stage host bytes) × (new ≡ old)

-- ---- COMMIT

-- a COMMIT, where it is of this host
abbrev pub commit_if_own : (host : ℕ) → Option Commit → Option Commit
commit_if_own host None = None
commit_if_own host (Some c) = if c.pushed.who.host == host then Some c else None

-- the COMMIT of this host that bytes are
abbrev pub own_commit : (host : ℕ) → List ℕ → Option Commit
own_commit host bytes = commit_if_own host (commit_in bytes)

-- the body that a COMMIT asks for, where its verifier is the boot and the body is kept
abbrev pub body_for : Bodies → Commit → Option (List ℕ)
body_for pool c = if c.verifier == pool.boot then body_of (written_of c.pushed) pool.bodies else None

-- what a COMMIT gives: the WRITE for which it stands, or the reply that its body is not there
pub data Answer : Type 0 where
  write : List ℕ → Answer
  unstaged : List ℕ → Answer

-- by whether the body is there
abbrev pub answered_as : Commit → Option (List ℕ) → Answer
answered_as c (Some body) = write (write_bytes c.pushed body)
answered_as c None = unstaged (unstaged_bytes c.pushed.xid c.pushed.who.inc)

-- what a pool answers to a COMMIT
abbrev pub answered : Bodies → Commit → Answer
answered pool c = answered_as c (body_for pool c)

-- the code's answer is this one
abbrev pub Answers : Answer → Rebuilt → Type 0
Answers answer (Rebuilt.Write v) = answer ≡ write v.items
Answers answer (Rebuilt.Unstaged v) = answer ≡ unstaged v.items
Answers answer other = ⊥

-- what was said to bytes from this host: to a COMMIT its answer, unless memory was wanting
abbrev pub Rebuilds : (host : ℕ) → List ℕ → Rebuilt → Bodies → Type 0
Rebuilds host bytes (Rebuilt.Write v) pool = option_map (answered pool) (own_commit host bytes) ≡ Some (write v.items)
Rebuilds host bytes (Rebuilt.Unstaged v) pool = option_map (answered pool) (own_commit host bytes) ≡ Some (unstaged v.items)
Rebuilds host bytes Rebuilt.NotCommit pool = own_commit host bytes ≡ None
Rebuilds host bytes Rebuilt.Memory pool = IsSome (own_commit host bytes)
