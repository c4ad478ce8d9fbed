-- What a datagram from the server tells a client's side.
use Rattle.std.specs.Prelude.{◌≡◌, ℕ, List, [], Option, Some, None, if◌then◌else◌}
use Rattle.nq_stage.specs.declared.messages.Written.{Written}
use Rattle.nq_stage.specs.Reading.{verifier_in, is_unstaged_in}
use Rattle.nq_stage.specs.declared.stager.stager.HeardStage.{HeardStage}
use Rattle.nq_stage.specs.declared.stager.stager.Offered.{Offered}
use Rattle.nq_stage.specs.declared.stager.stager.Shortened.{Shortened}
use Rattle.nq_stage.specs.Acknowledged.{noted}
use Rattle.nq_stage.specs.Staged.{Staged}

-- what it is: the reply to the latest STAGE, with the write and the verifier; an UNSTAGED to the latest push that was
-- shortened, with its WRITE; or neither
pub data Told : Type 0 where
  acknowledged : Written → (verifier : ℕ) → Told
  again : (write : List ℕ) → Told
  other : Told

-- a write with the verifier, where there is one
abbrev pub with_verifier : Written → Option ℕ → Option (Written × ℕ)
with_verifier w None = None
with_verifier w (Some verifier) = Some (w, verifier)

-- the write that bytes acknowledge, and the verifier: the bytes are a reply to the latest STAGE of this incarnation
abbrev pub acknowledging : (inc : ℕ) → Option Offered → List ℕ → Option (Written × ℕ)
acknowledging inc None bytes = None
acknowledging inc (Some o) bytes = with_verifier o.written (verifier_in o.xid inc bytes)

-- the WRITE to be sent whole: the bytes are an UNSTAGED of this incarnation to the latest push that was shortened
abbrev pub again_from : (inc : ℕ) → Option Shortened → List ℕ → Option (List ℕ)
again_from inc None bytes = None
again_from inc (Some s) bytes = if is_unstaged_in s.xid inc bytes then Some s.write else None

-- by what the bytes are: a reply to a STAGE comes before an UNSTAGED
abbrev pub told_as : Option (Written × ℕ) → Option (List ℕ) → Told
told_as (Some a) write = acknowledged a.0 a.1
told_as None (Some write) = again write
told_as None None = other

-- what bytes tell
abbrev pub told_by : Staged → List ℕ → Told
told_by s bytes = told_as (acknowledging s.who.inc s.offered bytes) (again_from s.who.inc s.shortened bytes)

-- what is kept then: a write more is acknowledged; or none any more
abbrev pub kept_by : Staged → Told → Staged
kept_by s (acknowledged w verifier) = record s { acknowledged = noted w verifier s.acknowledged }
kept_by s (again write) = record s { acknowledged = [] }
kept_by s other = s

-- a code's answer tells this
abbrev pub Tells : HeardStage → Told → Type 0
Tells HeardStage.Acknowledged (acknowledged w verifier) = Unit {0}
Tells (HeardStage.Again v) (again write) = v.items ≡ write
Tells HeardStage.Other other = Unit {0}
Tells said told = ⊥

-- What was said of bytes, and what is kept then. Where memory is wanting nothing changes.
abbrev pub Hears : List ℕ → HeardStage → (old new : Staged) → Type 0
Hears bytes HeardStage.Memory old new = new ≡ old
Hears bytes said old new = Tells said (told_by old bytes) × (new ≡ kept_by old (told_by old bytes))
