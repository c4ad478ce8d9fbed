-- Which body is offered next. What is delayed does not change by it.
use Rattle.std.specs.Prelude.{◌≡◌, ℕ, ◌+◌, min, List, [], ◌∷◌, Option, Some, None, is_some, Result, Ok, Err, Vec, if◌then◌else◌}
use Rattle.std.specs.Option.{option_map}
use Rattle.std.specs.Global.{Global}
use Rattle.nq_base.specs.declared.Push.{Push}
use Rattle.nq_base.specs.declared.Who.{Who}
use Rattle.nq_model.specs.protocol.Settle.{dirty_body}
use Rattle.nq_stage.specs.declared.messages.Written.{Written}
use Rattle.nq_stage.specs.Messages.{stage_bytes}
use Rattle.nq_stage.specs.Acknowledged.{verifier_of}
use Rattle.nq_stage.specs.Staged.{Staged}

-- the last of the delayed writes of a block, as an incarnation's
abbrev pub written_by : Who → Push → Written
written_by who p = record { host = who.host; inc = who.inc; file = p.file; block = p.block; last = p.last }

-- the first delayed write, in their order, of which the body is not acknowledged
abbrev pub first_unknown : Who → (acknowledged : List (Written × ℕ)) → List Push → Option Written
first_unknown who acknowledged [] = None
first_unknown who acknowledged (p ∷ dirty) =
    if is_some (verifier_of (written_by who p) acknowledged) then first_unknown who acknowledged dirty else Some (written_by who p)

-- a write with a body, where the body is there
abbrev pub with_body : Written → Option (List ℕ) → Option (Written × List ℕ)
with_body w None = None
with_body w (Some body) = Some (w, body)

-- a write with the body that its block has among the delayed writes
abbrev pub body_among : List Push → Option Push → Option Written → Option (Written × List ℕ)
body_among dirty push None = None
body_among dirty push (Some w) = with_body w (dirty_body w.file w.block dirty push)

-- what is offered of these delayed writes
abbrev pub offer_of : Staged → List Push → Option Push → Option (Written × List ℕ)
offer_of s dirty push = body_among dirty push (first_unknown s.who s.acknowledged dirty)

-- the STAGE of a write, and what is kept then: it is the latest one. The number stops at its type's end
abbrev pub offered : Staged → Written → (body : List ℕ) → List ℕ × Staged
offered s w body =
    (stage_bytes s.next w body, record s { next = min (s.next + 1) 4294967295; offered = Some (record { xid = s.next; written = w }) })

-- What was offered of these delayed writes, and what is kept then. Nothing is offered exactly where the bodies of all are acknowledged.
-- Then, and where memory is wanting, nothing changes.
abbrev pub Offers : {E : Type 0} → List Push → Option Push → Result (Option (Vec ℕ Global)) E → (old new : Staged) → Type 0
Offers dirty push (Ok None) old new = (first_unknown old.who old.acknowledged dirty ≡ None) × (new ≡ old)
Offers dirty push (Ok (Some v)) old new = option_map (λ o. offered old o.0 o.1) (offer_of old dirty push) ≡ Some (v.items, new)
Offers dirty push (Err e) old new = new ≡ old
