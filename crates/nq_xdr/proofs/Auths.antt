-- Steps of reading a message, and credentials and verifiers: what is spelled so is passed over, and what
-- is passed over is spelled so.
use Rattle.std.proofs.Common.{◌≡◌, ℕ, ◌*◌, ◌^◌, ◌<◌, ◌≤◌, cond, eqb, List, ◌++◌, length, Result, Ok, Err, refl, sym, ap, subst, ◌∙◌, append_assoc}
use Rattle.std.proofs.Common.{arith, inl, inr}
use Rattle.std.proofs.lemmas.Bool.{cond_both, eqb-true, eqb-false, ne_eqb}
use Rattle.nq_xdr.specs.declared.fault.XdrFault.{XdrFault}
use Rattle.nq_xdr.specs.declared.fault.XdrFault.TheVariants as xdr
use Rattle.nq_xdr.specs.Item.{word, opaque}
use Rattle.nq_xdr.specs.Fault.{IsOpaqueFault}
use Rattle.nq_xdr.specs.Reading.{◌>>=◌, word_at, opaque_at}
use Rattle.nq_xdr.proofs.Bytes.{IsBytes, IsBytes-behind}
use Rattle.nq_xdr.proofs.Steps.{Says}
use Rattle.nq_xdr.proofs.Numbers.{word_at-short, word_again}
use Rattle.nq_xdr.proofs.Opaque.{opaque_says, opaque_again, opaque_only}
use Rattle.nq_xdr.proofs.Follows.{word_step, word_ends}
use Rattle.nq_xdr.specs.declared.rpc.fault.RpcFault.{RpcFault}
use Rattle.nq_xdr.specs.declared.rpc.fault.RpcFault.TheVariants.{Short, BadKind, BadAuth, Xdr, Memory}
use Rattle.nq_xdr.specs.Message.{Auth, IsAuth, auth}
use Rattle.nq_xdr.specs.RpcReading.{item, fault_of, behind_auth}
use Rattle.nq_xdr.specs.RpcFault.{Numbers, Choice, Authentication, End, IsItemFault}

-- a fact of a choice by a number
pub chosen : {X : Type 0} (n k : ℕ) (x y : X) (P : X → Type 0) → (n ≡ k → P x) → ((n ≡ k → ⊥) → P y) → P (cond (eqb n k) x y)
chosen n k x y P same other = cond_both (eqb n k) x y P (λ e. same (eqb-true n k e)) (λ e. other (eqb-false n k e))

pub not_chosen : {X : Type 0} (n k : ℕ) (x y : X) → (n ≡ k → ⊥) → cond (eqb n k) x y ≡ y
not_chosen n k x y ne = rw (ne_eqb n k ne) refl

-- ---- faults of what comes next

pub numbers_fault : (count : ℕ) (rest : List ℕ) (e : RpcFault) → IsItemFault (Numbers count) rest e → (e ≡ Short) × (length rest < 4 * count)
numbers_fault count rest Short h = (refl, h)
numbers_fault count rest BadKind h = absurd h
numbers_fault count rest BadAuth h = absurd h
numbers_fault count rest Xdr h = absurd h
numbers_fault count rest Memory h = absurd h

pub end_fault : (rest : List ℕ) (e : RpcFault) → IsItemFault End rest e → (e ≡ Xdr) × (0 < length rest)
end_fault rest Short h = absurd h
end_fault rest BadKind h = absurd h
end_fault rest BadAuth h = absurd h
end_fault rest Xdr h = (refl, h)
end_fault rest Memory h = absurd h

-- a choice with a fault gives it, where no number above the highest goes on
pub choice_ends : {X : Type 0} (top : ℕ) (rest : List ℕ) (e : RpcFault) (f : ℕ × List ℕ → Result X RpcFault) → ((n : ℕ) (r : List ℕ) → top < n
    → f (n, r) ≡ Err BadKind)
    → IsItemFault (Choice top) rest e → (item (word_at rest) >>= f) ≡ Err e
choice_ends top rest Short f bad h = word_ends fault_of rest f h
choice_ends top rest BadKind f bad h =
    rw (ap word_at h.1.1.1 ∙ word_again h.0 h.1.0 h.1.1.0) (bad h.0 h.1.0 h.1.1.2)
choice_ends top rest BadAuth f bad h = absurd h
choice_ends top rest Xdr f bad h = absurd h
choice_ends top rest Memory f bad h = absurd h

-- ---- credentials and verifiers

-- what bytes say where a credential or a verifier is passed over
abbrev pub AuthSays : List ℕ → Result (List ℕ) RpcFault → Type 0
AuthSays bytes (Ok rest) = (a : Auth) × (IsAuth a × (bytes ≡ auth a ++ rest))
AuthSays bytes (Err e) = IsItemFault Authentication bytes e

body_says : (bytes : List ℕ) (flavor : ℕ) (body : List ℕ) (read : Result (List ℕ × List ℕ) XdrFault) → flavor < 2 ^ 32 → bytes ≡ word flavor ++ body
    → Says opaque (λ b. length b ≤ 400) (IsOpaqueFault 400 body) body read → AuthSays bytes (item read >>= λ b. Ok b.1)
unfolding auth
body_says bytes flavor body (Ok x) fits e says =
    let whole : bytes ≡ (word flavor ++ opaque x.0) ++ x.1 =
    e ∙ ap (λ (b : List ℕ). word flavor ++ b) says.1 ∙ sym (append_assoc (word flavor) (opaque x.0) x.1) in
    (record { flavor = flavor; body = x.0 }, (record { flavor = fits; body = says.0 }, whole))
body_says bytes flavor body (Err xdr.Short) fits e says = inr (flavor, (body, (fits, e, says)))
body_says bytes flavor body (Err xdr.Bool) fits e says = absurd says
body_says bytes flavor body (Err xdr.TooLong) fits e says = (flavor, (body, (fits, e, says)))
body_says bytes flavor body (Err xdr.Pad) fits e says = (flavor, (body, (fits, e, says)))
body_says bytes flavor body (Err xdr.Trailing) fits e says = absurd says

pub auth_says : (bytes : List ℕ) → IsBytes bytes → AuthSays bytes (behind_auth bytes)
unfolding behind_auth
auth_says bytes fits =
    word_step fault_of bytes (λ flavor. item (opaque_at 400 flavor.1) >>= λ body. Ok body.1) (AuthSays bytes) fits
    (λ lt. inl lt)
    (λ flavor body flavor-fits e body-fits. body_says bytes flavor body (opaque_at 400 body) flavor-fits e (opaque_says 400 body body-fits))

pub auth_again : (a : Auth) (rest : List ℕ) → IsAuth a → behind_auth (auth a ++ rest) ≡ Ok rest
unfolding behind_auth auth
auth_again a rest fits =
    let parts : (word a.flavor ++ opaque a.body) ++ rest ≡ word a.flavor ++ (opaque a.body ++ rest) = append_assoc (word a.flavor) (opaque a.body) rest in
    let body : opaque_at 400 (opaque a.body ++ rest) ≡ Ok (a.body, rest) = opaque_again 400 a.body rest (omega (arith, fits.body)) fits.body in
    rw (parts, word_again a.flavor (opaque a.body ++ rest) fits.flavor, body) refl

-- a body with a fault gives it
body_ends : (flavor : ℕ) (body bytes : List ℕ) (e : XdrFault) → flavor < 2 ^ 32 → bytes ≡ word flavor ++ body → IsOpaqueFault 400 body e
    → behind_auth bytes ≡ Err (fault_of e)
unfolding behind_auth
body_ends flavor body bytes e fits is h =
    let read : word_at bytes ≡ Ok (flavor, body) = ap word_at is ∙ word_again flavor body fits in
    let fault : opaque_at 400 body ≡ Err e = opaque_only 400 body (Err e) (omega arith) h in
    rw (read, fault) refl

auth_ends-short : (bytes : List ℕ) → length bytes < 4 → behind_auth bytes ≡ Err Short
unfolding behind_auth
auth_ends-short bytes lt = rw (word_at-short bytes lt) refl

pub auth_ends : (bytes : List ℕ) (e : RpcFault) → IsItemFault Authentication bytes e → behind_auth bytes ≡ Err e
auth_ends bytes Short (inl lt) = auth_ends-short bytes lt
auth_ends bytes Short (inr h) = body_ends h.0 h.1.0 bytes xdr.Short h.1.1.0 h.1.1.1 h.1.1.2
auth_ends bytes BadKind h = absurd h
auth_ends bytes BadAuth h = body_ends h.0 h.1.0 bytes xdr.TooLong h.1.1.0 h.1.1.1 h.1.1.2
auth_ends bytes Xdr h = body_ends h.0 h.1.0 bytes xdr.Pad h.1.1.0 h.1.1.1 h.1.1.2
auth_ends bytes Memory h = absurd h

auth_step_at : {X : Type 0} (bytes : List ℕ) (read : Result (List ℕ) RpcFault) (f : List ℕ → Result X RpcFault) (P : Result X RpcFault → Type 0)
    → IsBytes bytes → AuthSays bytes read
    → ((e : RpcFault) → IsItemFault Authentication bytes e → P (Err e))
    → ((a : Auth) (rest : List ℕ) → IsAuth a → bytes ≡ auth a ++ rest → IsBytes rest → P (f rest))
    → P (read >>= f)
auth_step_at bytes (Ok rest) f P fits says fault goes_on =
    goes_on says.0 rest says.1.0 says.1.1 (IsBytes-behind (auth says.0) rest (subst IsBytes says.1.1 fits))
auth_step_at bytes (Err e) f P fits says fault goes_on = fault e says

-- a fact of what follows a credential or a verifier, from its cases
pub auth_step : {X : Type 0} (bytes : List ℕ) (f : List ℕ → Result X RpcFault) (P : Result X RpcFault → Type 0) → IsBytes bytes
    → ((e : RpcFault) → IsItemFault Authentication bytes e → P (Err e))
    → ((a : Auth) (rest : List ℕ) → IsAuth a → bytes ≡ auth a ++ rest → IsBytes rest → P (f rest))
    → P (behind_auth bytes >>= f)
auth_step bytes f P fits fault goes_on = auth_step_at bytes (behind_auth bytes) f P fits (auth_says bytes fits) fault goes_on
