-- What is said of the bytes of the messages: what is written is read again.
use Rattle.std.specs.Prelude.{◌≡◌, ℕ, ◌^◌, ◌<◌, true, List, length, Some}
use Rattle.nq_stage.specs.declared.messages.Pushed.{Pushed}
use Rattle.nq_stage.specs.declared.messages.Written.{Written}
use Rattle.nq_stage.specs.Messages.{stage_bytes, staged_bytes, commit_bytes, write_bytes, unstaged_bytes, IsWritten, IsPushed}
use Rattle.nq_stage.specs.Reading.{stage_in, commit_in, push_in, verifier_in, is_unstaged_in}

-- in the bytes of a STAGE its number, its write and its body are read
abbrev pub StagesAreRead : Type 0
StagesAreRead =
    (xid : ℕ) (w : Written) (body : List ℕ) → xid < 2 ^ 32 → IsWritten w → length body ≡ 4096
    → stage_in (stage_bytes xid w body) ≡ Some (record { xid = xid; written = w; body = body })

-- in the bytes of a COMMIT its push and its verifier are read
abbrev pub CommitsAreRead : Type 0
CommitsAreRead =
    (p : Pushed) (verifier : ℕ) → IsPushed p → verifier < 2 ^ 32
    → commit_in (commit_bytes p verifier) ≡ Some (record { pushed = p; verifier = verifier })

-- in the bytes of a push with any body the push is read
abbrev pub PushesAreRead : Type 0
PushesAreRead = (p : Pushed) (body : List ℕ) → IsPushed p → length body ≡ 4096 → push_in (write_bytes p body) ≡ Some p

-- in the bytes of the reply to a STAGE the verifier is read
abbrev pub StagedIsRead : Type 0
StagedIsRead =
    (xid inc verifier : ℕ) → xid < 2 ^ 32 → inc < 2 ^ 32 → verifier < 2 ^ 32
    → verifier_in xid inc (staged_bytes xid inc verifier) ≡ Some verifier

-- the bytes of the reply UNSTAGED are read as one
abbrev pub UnstagedIsRead : Type 0
UnstagedIsRead = (xid inc : ℕ) → xid < 2 ^ 32 → inc < 2 ^ 32 → is_unstaged_in xid inc (unstaged_bytes xid inc) ≡ true
