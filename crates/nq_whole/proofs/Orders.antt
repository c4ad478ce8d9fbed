-- The head is written behind all the bytes that it tells.
use Rattle.std.proofs.Common.{◌≡◌, ◌<◌, ℕ, ◌+◌, ◌*◌, Bool, true, false, nat_le, List, [], ◌∷◌, ◌++◌, Option, Some, None, length, if◌then◌else◌, refl, sym, subst, append_assoc, append-nil, arith}
use Rattle.std.specs.Prelude.{Contains, ◌==◌}
use Rattle.nq_base.specs.Block.{value_of}
use Rattle.std.proofs.lemmas.Bool.Decides.{nat_tests}
use Rattle.std.proofs.lemmas.List.Elements.{Contains-append_left, Contains-push}
use Rattle.nq_base.specs.declared.Answer.{Answer}
use Rattle.nq_base.specs.declared.Call.{Call}
use Rattle.nq_base.specs.declared.Value.{Value}
use Rattle.nq_whole.specs.Pieces.{piece_of}
use Rattle.nq_whole.specs.Answers.{body_in, file_in, is_done}
use Rattle.nq_whole.specs.Heads.{head_in}
use Rattle.nq_whole.specs.Storing.{AreStored, IsWhole, KeepsOrder, Made, StandsBefore, Stores, asked_at, cleared, filled_to, found, headed, made, old_head}
use Rattle.nq_whole.specs.Storing.{goes, made_from, step_after, store_at, stored, synced, written}
use Rattle.nq_whole.specs.declared.heads.FileHead.{FileHead}
use Rattle.nq_whole.specs.declared.storing.StoringSays.{StoringSays}
use Rattle.nq_whole.specs.declared.storing.StoringStep.{StoringStep}
use Rattle.nq_whole.specs.declared.storing.StoreStep.{StoreStep}

choice : (P : StoringStep → Type 0) (test : Bool) (one other : StoreStep) → (test ≡ true → P one.step) → (test ≡ false → P other.step)
    → P (if test then one else other).step
choice P true one other is so = is refl
choice P false one other is so = so refl

whole-more : (calls more : Made) (file : ℕ) (bytes : List ℕ) → IsWhole calls file bytes → IsWhole (calls ++ more) file bytes
whole-more calls more file bytes is = λ place below. let one = is place below in (one.0, Contains-append_left calls more _ one.1)

-- so many blocks are stored, and the next step
filled-stands : (calls : Made) (file place : ℕ) (bytes : List ℕ) → AreStored calls file place bytes
    → StandsBefore calls bytes (filled_to file place bytes).step
unfolding filled_to
filled-stands calls file place bytes are =
    choice (λ step. StandsBefore calls bytes step) (nat_le (length bytes) (4096 * place)) _ _
    (λ all. λ at below. are at (grind (arith, nat_tests)))
    (λ more. are)

made-stands : (calls : Made) (at : Option ℕ) (bytes : List ℕ) → StandsBefore calls bytes (made at bytes).step
made-stands calls None bytes = tt
made-stands calls (Some file) bytes = filled-stands calls file 0 bytes (λ place below. absurd (omega arith))

-- one block more
block-more : (calls : Made) (file place : ℕ) (bytes : List ℕ) (value : Value) → AreStored calls file place bytes
    → AreStored (calls ++ (Call.Put file place (piece_of place bytes), Answer.Ok value) ∷ []) file (place + 1) bytes
block-more calls file place bytes value are = λ at below. here at below (nat_le place at) refl
  where
    here : (at : ℕ) → at < place + 1 → (late : Bool) → nat_le place at ≡ late
        → (v : Value) × Contains (calls ++ (Call.Put file place (piece_of place bytes), Answer.Ok value) ∷ []) (Call.Put file at (piece_of at bytes), Answer.Ok v)
    here at below false is =
        let one = are at (grind (arith, nat_tests)) in (one.0, Contains-append_left calls _ _ one.1)
    here at below true is =
        let same : place ≡ at = grind (arith, nat_tests) in (
          value,
          subst (λ (n : ℕ). Contains (calls ++ (Call.Put file place (piece_of place bytes), Answer.Ok value) ∷ [])
              (Call.Put file n (piece_of n bytes), Answer.Ok value)) same (Contains-push calls _),
        )

stored-stands : (calls : Made) (file place : ℕ) (bytes : List ℕ) (answer : Answer) → AreStored calls file place bytes
    → StandsBefore (calls ++ (Call.Put file place (piece_of place bytes), answer) ∷ []) bytes (stored (is_done answer) file place bytes).step
stored-stands calls file place bytes (Answer.Ok value) are =
    filled-stands _ file (place + 1) bytes (block-more calls file place bytes value are)
stored-stands calls file place bytes other are = tt

found-stands : (calls : Made) (answer : Answer) (file : ℕ) (bytes : List ℕ) → IsWhole calls file bytes
    → StandsBefore calls bytes (found answer file).step
found-stands calls (Answer.Ok (Value.File at)) file bytes is = is
found-stands calls (Answer.Ok Value.Nothing) file bytes is = tt
found-stands calls (Answer.Ok (Value.Blocks n)) file bytes is = tt
found-stands calls (Answer.Ok (Value.Body b)) file bytes is = tt
found-stands calls Answer.NoEntry file bytes is = is
found-stands calls Answer.Exists file bytes is = is
found-stands calls Answer.Pending file bytes is = tt
found-stands calls Answer.Busy file bytes is = tt
found-stands calls (Answer.Lost losses) file bytes is = tt
found-stands calls Answer.Stale file bytes is = tt
found-stands calls Answer.NoSpace file bytes is = tt
found-stands calls Answer.Range file bytes is = tt
found-stands calls Answer.DirtyFull file bytes is = tt
found-stands calls Answer.Memory file bytes is = tt
found-stands calls Answer.Spent file bytes is = tt

old-stands : (calls : Made) (body : List ℕ) (head : Option FileHead) (file at : ℕ) (bytes : List ℕ) → IsWhole calls file bytes
    → StandsBefore calls bytes (old_head body head file at).step
old-stands calls body (Some head) file at bytes is = is
old-stands calls body None file at bytes is =
    choice (λ step. StandsBefore calls bytes step) (value_of body == 0) (goes (StoringStep.Writing file at None))
    (record { said = StoringSays.NotWhole; step = StoringStep.Dropping file }) (λ fresh. is) (λ other. tt)

headed-stands : (calls : Made) (body : Option (List ℕ)) (file at : ℕ) (bytes : List ℕ) → IsWhole calls file bytes
    → StandsBefore calls bytes (headed body file at).step
headed-stands calls None file at bytes is = tt
headed-stands calls (Some body) file at bytes is = old-stands calls body (head_in body) file at bytes is

written-stands : (calls : Made) (test : Bool) (file at : ℕ) (old : Option ℕ) (bytes : List ℕ) → IsWhole calls file bytes
    → StandsBefore calls bytes (written test file at old).step
written-stands calls true file at old bytes is = is
written-stands calls false file at old bytes is = tt

cleared-stands : (calls : Made) (old : Option ℕ) (bytes : List ℕ) → StandsBefore calls bytes (cleared old).step
cleared-stands calls None bytes = tt
cleared-stands calls (Some old) bytes = tt

synced-stands : (calls : Made) (answer : Answer) (old : Option ℕ) (bytes : List ℕ) → StandsBefore calls bytes (synced answer old).step
synced-stands calls (Answer.Ok value) old bytes = cleared-stands calls old bytes
synced-stands calls Answer.NoEntry old bytes = tt
synced-stands calls Answer.Exists old bytes = tt
synced-stands calls Answer.Pending old bytes = tt
synced-stands calls Answer.Busy old bytes = tt
synced-stands calls (Answer.Lost losses) old bytes = tt
synced-stands calls Answer.Stale old bytes = tt
synced-stands calls Answer.NoSpace old bytes = tt
synced-stands calls Answer.Range old bytes = tt
synced-stands calls Answer.DirtyFull old bytes = tt
synced-stands calls Answer.Memory old bytes = tt
synced-stands calls Answer.Spent old bytes = tt

step-stands : (name own bytes : List ℕ) (step : StoringStep) (answer : Answer) (calls : Made) → StandsBefore calls bytes step
    → StandsBefore (calls ++ (asked_at name own bytes step, answer) ∷ []) bytes (store_at step answer bytes).step
step-stands name own bytes StoringStep.Making answer calls is = made-stands _ (file_in answer) bytes
step-stands name own bytes (StoringStep.Filling file place) answer calls is = stored-stands calls file place bytes answer is
step-stands name own bytes (StoringStep.Finding file) answer calls is = found-stands _ answer file bytes (whole-more calls _ file bytes is)
step-stands name own bytes (StoringStep.Founding file) answer calls is = found-stands _ answer file bytes (whole-more calls _ file bytes is)
step-stands name own bytes (StoringStep.Heading file at) answer calls is = headed-stands _ (body_in answer) file at bytes (whole-more calls _ file bytes is)
step-stands name own bytes (StoringStep.Writing file at old) answer calls is =
    written-stands _ (is_done answer) file at old bytes (whole-more calls _ file bytes is)
step-stands name own bytes (StoringStep.Syncing file at old) answer calls is = synced-stands _ answer old bytes
step-stands name own bytes (StoringStep.Clearing old) answer calls is = tt
step-stands name own bytes (StoringStep.Dropping file) answer calls is = tt
step-stands name own bytes StoringStep.Ended answer calls is = tt

-- a step more keeps what stands before it
pub keeps : (answer : Answer) (old new : Stores) → new ≡ record old { step = (store_at old.step answer old.bytes).step } → KeepsOrder answer old new
keeps answer old new is = λ calls stands.
    subst (λ (s : Stores). StandsBefore (calls ++ (asked_at old.name old.own old.bytes old.step, answer) ∷ []) s.bytes s.step) (sym is)
    (step-stands old.name old.own old.bytes old.step answer calls stands)

-- whatever is answered from a step on, what stands before each step was done
pub runs : (name own bytes : List ℕ) (answers : List Answer) (step : StoringStep) (calls : Made) → StandsBefore calls bytes step
    → StandsBefore (calls ++ made_from name own bytes answers step) bytes (step_after bytes answers step)
runs name own bytes [] step calls is = subst (λ (c : Made). StandsBefore c bytes step) (sym (append-nil calls)) is
runs name own bytes (answer ∷ answers) step calls is =
    let call : Call × Answer = (asked_at name own bytes step, answer) in
    let next = (store_at step answer bytes).step in
    subst (λ (c : Made). StandsBefore c bytes (step_after bytes answers next))
    (append_assoc calls (call ∷ []) (made_from name own bytes answers next))
    (runs name own bytes answers next (calls ++ call ∷ []) (step-stands name own bytes step answer calls is))
