-- Which push a COMMIT may stand for.
use Rattle.std.specs.Prelude.{◌≡◌, ℕ, List, Option, Some, None, Result, Ok, Err, Vec}
use Rattle.std.specs.Option.{option_map}
use Rattle.std.specs.Global.{Global}
use Rattle.nq_stage.specs.declared.messages.Pushed.{Pushed}
use Rattle.nq_stage.specs.declared.messages.Written.{Written}
use Rattle.nq_stage.specs.Messages.{commit_bytes, written_of}
use Rattle.nq_stage.specs.Reading.{push_in}
use Rattle.nq_stage.specs.Acknowledged.{verifier_of}
use Rattle.nq_stage.specs.Staged.{Staged}

-- a push with a verifier, where there is one
abbrev pub with_verifier : Pushed → Option ℕ → Option (Pushed × ℕ)
with_verifier p None = None
with_verifier p (Some verifier) = Some (p, verifier)

-- a push with the verifier with which its last write was acknowledged
abbrev pub acknowledged_push : List (Written × ℕ) → Option Pushed → Option (Pushed × ℕ)
acknowledged_push acknowledged None = None
acknowledged_push acknowledged (Some p) = with_verifier p (verifier_of (written_of p) acknowledged)

-- the push that bytes are, if its body was acknowledged
abbrev pub shortening : Staged → List ℕ → Option (Pushed × ℕ)
shortening s bytes = acknowledged_push s.acknowledged (push_in bytes)

-- the COMMIT of a push, and what is kept then: it is the latest one that was shortened, and its WRITE is kept whole
abbrev pub shortened : Staged → Pushed → (verifier : ℕ) → (write : List ℕ) → List ℕ × Staged
shortened s p verifier write =
    (commit_bytes p verifier, record s { shortened = Some (record { xid = p.xid; write = write }) })

-- What bytes were shortened to, and what is kept then. Where they are not shortened, and where memory is wanting, nothing
-- changes.
abbrev pub Shortens : {E : Type 0} → List ℕ → Result (Option (Vec ℕ Global)) E → (old new : Staged) → Type 0
Shortens bytes (Ok None) old new = (shortening old bytes ≡ None) × (new ≡ old)
Shortens bytes (Ok (Some v)) old new = option_map (λ s. shortened old s.0 s.1 bytes) (shortening old bytes) ≡ Some (v.items, new)
Shortens bytes (Err e) old new = new ≡ old
