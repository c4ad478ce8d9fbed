-- Replies: what is spelled so is read, what is read is spelled so, and each fault is the one of its place.
use Rattle.std.proofs.Common.{◌≡◌, ℕ, ◌*◌, ◌^◌, ◌<◌, cond, eqb, List, [], ◌++◌, length, Result, Ok, Err, refl, sym, ap, subst, ◌∙◌, append_assoc, arith}
use Rattle.std.proofs.lemmas.List.{length-append, append-nil, nil_from_length}
use Rattle.nq_xdr.specs.Item.{word}
use Rattle.nq_xdr.specs.Reading.{◌>>=◌, word_at}
use Rattle.nq_xdr.proofs.Bytes.{IsBytes, IsBytes-behind}
use Rattle.nq_xdr.proofs.Numbers.{length-word, word_again}
use Rattle.nq_xdr.proofs.Follows.{word_step, word_goes_on, word_ends}
use Rattle.nq_xdr.specs.declared.rpc.fault.RpcFault.{RpcFault}
use Rattle.nq_xdr.specs.declared.rpc.fault.RpcFault.TheVariants.{Short, BadKind, Xdr}
use Rattle.nq_xdr.specs.declared.rpc.message.Outcome.{Outcome}
use Rattle.nq_xdr.specs.declared.rpc.message.Outcome.TheVariants.{Success, ProgUnavail, ProgMismatch, ProcUnavail, GarbageArgs, RpcMismatch, AuthError}
use Rattle.nq_xdr.specs.Message.{Auth, IsAuth, auth, null, outcome, IsOutcome, IsError}
use Rattle.nq_xdr.specs.RpcReading.{item, fault_of, ended, bounds_at, accepted_as, accepted_at, denied_as, denied_at, outcome_at}
use Rattle.nq_xdr.specs.RpcFault.{Numbers, IsItemFault, ReplyPlace, ReplyStat, ReplyVerifier, AcceptStat, ProgramVersions, RejectStat, RpcVersions}
use Rattle.nq_xdr.specs.RpcFault.{AuthStat, EndOfReply, reply_front, reply_next, IsReplyPlace, IsReplyFault}
use Rattle.nq_xdr.proofs.Auths.{chosen, not_chosen, numbers_fault, end_fault, choice_ends, auth_again, auth_ends, auth_step}

-- ---- two numbers

-- a fact of what follows two numbers, from its cases
bounds_step : {X : Type 0} (bytes : List ℕ) (f : ℕ × ℕ × List ℕ → Result X RpcFault) (P : Result X RpcFault → Type 0) → IsBytes bytes
    → (length bytes < 8 → P (Err Short))
    → ((low high : ℕ) (rest : List ℕ) → low < 2 ^ 32 → high < 2 ^ 32 → bytes ≡ (word low ++ word high) ++ rest → IsBytes rest → P (f (low, high, rest)))
    → P (bounds_at bytes >>= f)
unfolding bounds_at
bounds_step bytes f P fits short goes_on =
    let Q : Result (ℕ × ℕ × List ℕ) RpcFault → Type 0 = λ read. P (read >>= f) in
    word_step fault_of bytes (λ low. item (word_at low.1) >>= λ high. Ok (low.0, high.0, high.1)) Q fits
    (λ lt. short (omega arith))
    (λ low behind low-fits e behind-fits.
    word_step fault_of behind (λ high. Ok (low, high.0, high.1)) Q behind-fits
    (λ lt. short (omega (arith, ap length e, length-append (word low) behind, length-word low)))
    (λ high rest high-fits e' rest-fits.
    goes_on low high rest low-fits high-fits (e ∙ ap (λ (x : List ℕ). word low ++ x) e' ∙ sym (append_assoc (word low) (word high) rest)) rest-fits))

bounds_goes_on : {X : Type 0} (low high : ℕ) (rest : List ℕ) (f : ℕ × ℕ × List ℕ → Result X RpcFault) → low < 2 ^ 32 → high < 2 ^ 32
    → (bounds_at ((word low ++ word high) ++ rest) >>= f) ≡ f (low, high, rest)
unfolding bounds_at
bounds_goes_on low high rest f low-fits high-fits =
    rw (append_assoc (word low) (word high) rest, word_again low (word high ++ rest) low-fits, word_again high rest high-fits) refl

bounds_ends : {X : Type 0} (bytes : List ℕ) (f : ℕ × ℕ × List ℕ → Result X RpcFault) → IsBytes bytes → length bytes < 8 → (bounds_at bytes >>= f) ≡ Err Short
bounds_ends {X = X} bytes f fits lt =
    let P : Result X RpcFault → Type 0 = λ read. read ≡ Err Short in
    bounds_step bytes f P fits (λ _. refl)
    (λ low high rest low-fits high-fits e rest-fits.
    absurd (omega (arith, ap length e, length-append (word low ++ word high) rest, length-append (word low) (word high), length-word low, length-word high)))

-- ---- what bytes say of a reply, behind its xid and its message type

abbrev pub ReplySays : List ℕ → Result Outcome RpcFault → Type 0
ReplySays bytes (Ok o) = (verifier : Auth) × (IsAuth verifier × IsOutcome o × (bytes ≡ outcome o verifier))
ReplySays bytes (Err e) = IsReplyFault bytes e

ended_says : (bytes rest : List ℕ) (o : Outcome) (verifier : Auth) → IsError o → IsOutcome o → IsAuth verifier → bytes ≡ outcome o verifier ++ rest
    → ReplySays bytes (ended o rest)
unfolding ended reply_front
ended_says bytes rest o verifier error fits verifier-fits e =
    chosen (length rest) 0 (Ok o) (Err Xdr) (ReplySays bytes)
    (λ none. (verifier, (verifier-fits, fits, e ∙ ap (λ (x : List ℕ). outcome o verifier ++ x) (nil_from_length rest none) ∙ append-nil (outcome o verifier))))
    (λ some. (EndOfReply o verifier, (rest, ((error, fits, verifier-fits), e, omega (arith, some)))))

-- a number and what stands behind it, put behind what stands before
joined : (bytes before rest : List ℕ) (n k : ℕ) → n ≡ k → bytes ≡ before ++ (word n ++ rest) → bytes ≡ (before ++ word k) ++ rest
joined bytes before rest n k same e =
    e ∙ ap (λ (m : ℕ). before ++ (word m ++ rest)) same ∙ sym (append_assoc before (word k) rest)

-- the same of two numbers
joined_bounds : (bytes before rest bounds : List ℕ) (low high : ℕ) → bytes ≡ before ++ bounds → bounds ≡ (word low ++ word high) ++ rest
    → bytes ≡ ((before ++ word low) ++ word high) ++ rest
joined_bounds bytes before rest bounds low high e e' =
    e ∙ ap (λ (x : List ℕ). before ++ x) e' ∙ simp append_assoc

bounds_apart : (before low high rest : List ℕ) → ((before ++ low) ++ high) ++ rest ≡ before ++ ((low ++ high) ++ rest)
bounds_apart before low high rest = simp append_assoc

abbrev accepted_front : Auth → List ℕ
accepted_front verifier = word 0 ++ auth verifier

accepted_as_says : (bytes rest : List ℕ) (stat : ℕ) (verifier : Auth) → IsAuth verifier → stat < 2 ^ 32 → bytes ≡ accepted_front verifier
    ++ (word stat ++ rest) → IsBytes rest
    → ReplySays bytes (accepted_as stat rest)
unfolding accepted_as reply_front outcome
accepted_as_says bytes rest stat verifier fits stat-fits e rest-fits =
    let P : Result Outcome RpcFault → Type 0 = ReplySays bytes in
    chosen stat 0 _ _ P (λ same. (verifier, (fits, tt, joined bytes (accepted_front verifier) rest stat 0 same e)))
    (λ not_0. chosen stat 1 _ _ P (λ same. ended_says bytes rest ProgUnavail verifier tt tt fits (joined bytes (accepted_front verifier) rest stat 1 same e))
    (λ not_1. chosen stat 2 _ _ P
    (λ same.
    let front = accepted_front verifier ++ word 2 in
    let whole = joined bytes (accepted_front verifier) rest stat 2 same e in
    bounds_step rest (λ bounds. ended (ProgMismatch bounds.0 bounds.1) bounds.2) P rest-fits
    (λ lt. (ProgramVersions verifier, (rest, (fits, whole, lt))))
    (λ low high behind low-fits high-fits e' behind-fits.
    ended_says bytes behind (ProgMismatch low high) verifier tt (low-fits, high-fits) fits (joined_bounds bytes front behind rest low high whole e')))
    (λ not_2. chosen stat 3 _ _ P (λ same. ended_says bytes rest ProcUnavail verifier tt tt fits (joined bytes (accepted_front verifier) rest stat 3 same e))
    (λ not_3. chosen stat 4 _ _ P (λ same. ended_says bytes rest GarbageArgs verifier tt tt fits (joined bytes (accepted_front verifier) rest stat 4 same e))
    (λ not_4. (AcceptStat verifier, (word stat ++ rest, (fits, e, (stat, (rest, (stat-fits, refl, omega (arith, not_0, not_1, not_2, not_3, not_4))))))))))))

accepted_says : (bytes rest : List ℕ) → bytes ≡ word 0 ++ rest → IsBytes rest → ReplySays bytes (accepted_at rest)
unfolding accepted_at reply_front
accepted_says bytes rest e fits =
    let P : Result Outcome RpcFault → Type 0 = ReplySays bytes in
    auth_step rest (λ behind. item (word_at behind) >>= λ stat. accepted_as stat.0 stat.1) P fits
    (λ fault h. (ReplyVerifier, (rest, (tt, e, h))))
    (λ verifier behind verifier-fits e' behind-fits.
    let whole : bytes ≡ accepted_front verifier ++ behind = e ∙ ap (λ (x : List ℕ). word 0 ++ x) e' ∙ sym (append_assoc (word 0) (auth verifier) behind) in
    word_step fault_of behind (λ stat. accepted_as stat.0 stat.1) P behind-fits
    (λ lt. (AcceptStat verifier, (behind, (verifier-fits, whole, lt))))
    (λ stat left stat-fits e'' left-fits.
    accepted_as_says bytes left stat verifier verifier-fits stat-fits (whole ∙ ap (λ (x : List ℕ). accepted_front verifier ++ x) e'') left-fits))

denied_as_says : (bytes rest : List ℕ) (stat : ℕ) → stat < 2 ^ 32 → bytes ≡ word 1 ++ (word stat ++ rest) → IsBytes rest
    → ReplySays bytes (denied_as stat rest)
unfolding denied_as reply_front outcome
denied_as_says bytes rest stat stat-fits e rest-fits =
    let P : Result Outcome RpcFault → Type 0 = ReplySays bytes in
    let null-fits : IsAuth null = record { flavor = omega arith; body = omega arith } in
    chosen stat 0 _ _ P
    (λ same.
    let whole = joined bytes (word 1) rest stat 0 same e in
    bounds_step rest (λ bounds. ended (RpcMismatch bounds.0 bounds.1) bounds.2) P rest-fits
    (λ lt. (RpcVersions, (rest, (tt, whole, lt))))
    (λ low high behind low-fits high-fits e' behind-fits.
    ended_says bytes behind (RpcMismatch low high) null tt (low-fits, high-fits) null-fits (joined_bounds bytes (word 1 ++ word 0) behind rest low
    high whole e')))
    (λ not_0. chosen stat 1 _ _ P
    (λ same.
    let whole = joined bytes (word 1) rest stat 1 same e in
    word_step fault_of rest (λ reason. ended (AuthError reason.0) reason.1) P rest-fits
    (λ lt. (AuthStat, (rest, (tt, whole, lt))))
    (λ reason behind reason-fits e' behind-fits.
    ended_says bytes behind (AuthError reason) null tt reason-fits null-fits
    (joined bytes (word 1 ++ word 1) behind reason reason refl (whole ∙ ap (λ (x : List ℕ). (word 1 ++ word 1) ++ x) e'))))
    (λ not_1. (RejectStat, (word stat ++ rest, (tt, e, (stat, (rest, (stat-fits, refl, omega (arith, not_0, not_1)))))))))

denied_says : (bytes rest : List ℕ) → bytes ≡ word 1 ++ rest → IsBytes rest → ReplySays bytes (denied_at rest)
unfolding denied_at reply_front
denied_says bytes rest e fits =
    let P : Result Outcome RpcFault → Type 0 = ReplySays bytes in
    word_step fault_of rest (λ stat. denied_as stat.0 stat.1) P fits
    (λ lt. (RejectStat, (rest, (tt, e, lt))))
    (λ stat behind stat-fits e' behind-fits. denied_as_says bytes behind stat stat-fits (e ∙ ap (λ (x : List ℕ). word 1 ++ x) e') behind-fits)

pub outcome_says : (bytes : List ℕ) → IsBytes bytes → ReplySays bytes (outcome_at bytes)
unfolding outcome_at reply_front
outcome_says bytes fits =
    let P : Result Outcome RpcFault → Type 0 = ReplySays bytes in
    word_step fault_of bytes (λ stat. cond (eqb stat.0 0) (accepted_at stat.1) (cond (eqb stat.0 1) (denied_at stat.1) (Err BadKind))) P fits
    (λ lt. (ReplyStat, (bytes, (tt, refl, lt))))
    (λ stat rest stat-fits e rest-fits.
    chosen stat 0 _ _ P
    (λ same. accepted_says bytes rest (e ∙ ap (λ (n : ℕ). word n ++ rest) same) rest-fits)
    (λ not_0. chosen stat 1 _ _ P
    (λ same. denied_says bytes rest (e ∙ ap (λ (n : ℕ). word n ++ rest) same) rest-fits)
    (λ not_1. (ReplyStat, (bytes, (tt, refl, (stat, (rest, (stat-fits, e, omega (arith, not_0, not_1))))))))))

-- ---- what is spelled so is read

outcome_accepted : (rest : List ℕ) → outcome_at (word 0 ++ rest) ≡ accepted_at rest
unfolding outcome_at
outcome_accepted rest = rw (word_again 0 rest (omega arith)) refl

outcome_denied : (rest : List ℕ) → outcome_at (word 1 ++ rest) ≡ denied_at rest
unfolding outcome_at
outcome_denied rest = rw (word_again 1 rest (omega arith)) refl

-- what follows the verifier
accepted_goes_on : (verifier : Auth) (rest : List ℕ) → IsAuth verifier → outcome_at (accepted_front verifier ++ rest)
    ≡ (item (word_at rest) >>= λ stat. accepted_as stat.0 stat.1)
unfolding accepted_at
accepted_goes_on verifier rest fits =
    ap outcome_at (append_assoc (word 0) (auth verifier) rest) ∙ outcome_accepted (auth verifier ++ rest) ∙ rw (auth_again verifier rest fits) refl

stat_goes_on : (verifier : Auth) (stat : ℕ) (rest : List ℕ) → IsAuth verifier → stat < 2 ^ 32 → outcome_at ((accepted_front verifier ++ word stat)
    ++ rest) ≡ accepted_as stat rest
stat_goes_on verifier stat rest fits stat-fits =
    ap outcome_at (append_assoc (accepted_front verifier) (word stat) rest) ∙ accepted_goes_on verifier (word stat ++ rest) fits
    ∙ word_goes_on fault_of stat rest (λ stat. accepted_as stat.0 stat.1) stat-fits

denied_goes_on : (stat : ℕ) (rest : List ℕ) → stat < 2 ^ 32 → outcome_at ((word 1 ++ word stat) ++ rest) ≡ denied_as stat rest
unfolding denied_at
denied_goes_on stat rest fits =
    ap outcome_at (append_assoc (word 1) (word stat) rest) ∙ outcome_denied (word stat ++ rest) ∙ rw (word_again stat rest fits) refl

-- an error reply, and what may follow it
pub error_goes_on : (o : Outcome) (verifier : Auth) (rest : List ℕ) → IsError o → IsOutcome o → IsAuth verifier
    → outcome_at (outcome o verifier ++ rest) ≡ ended o rest
unfolding outcome accepted_as denied_as
error_goes_on (Success results) verifier rest error fits verifier-fits = absurd error
error_goes_on ProgUnavail verifier rest error fits verifier-fits = stat_goes_on verifier 1 rest verifier-fits (omega arith)
error_goes_on (ProgMismatch low high) verifier rest error fits verifier-fits =
    ap outcome_at (bounds_apart (accepted_front verifier ++ word 2) (word low) (word high) rest)
    ∙ stat_goes_on verifier 2 ((word low ++ word high) ++ rest) verifier-fits (omega arith)
    ∙ bounds_goes_on low high rest (λ bounds. ended (ProgMismatch bounds.0 bounds.1) bounds.2) fits.0 fits.1
error_goes_on ProcUnavail verifier rest error fits verifier-fits = stat_goes_on verifier 3 rest verifier-fits (omega arith)
error_goes_on GarbageArgs verifier rest error fits verifier-fits = stat_goes_on verifier 4 rest verifier-fits (omega arith)
error_goes_on (RpcMismatch low high) verifier rest error fits verifier-fits =
    ap outcome_at (bounds_apart (word 1 ++ word 0) (word low) (word high) rest)
    ∙ denied_goes_on 0 ((word low ++ word high) ++ rest) (omega arith)
    ∙ bounds_goes_on low high rest (λ bounds. ended (RpcMismatch bounds.0 bounds.1) bounds.2) fits.0 fits.1
error_goes_on (AuthError reason) verifier rest error fits verifier-fits =
    ap outcome_at (append_assoc (word 1 ++ word 1) (word reason) rest)
    ∙ denied_goes_on 1 (word reason ++ rest) (omega arith)
    ∙ word_goes_on fault_of reason rest (λ reason. ended (AuthError reason.0) reason.1) fits

pub ended_here : (o : Outcome) → ended o [] ≡ Ok o
unfolding ended
ended_here o = refl

error_again : (o : Outcome) (verifier : Auth) → IsError o → IsOutcome o → IsAuth verifier → outcome_at (outcome o verifier) ≡ Ok o
error_again o verifier error fits verifier-fits =
    ap outcome_at (sym (append-nil (outcome o verifier))) ∙ error_goes_on o verifier [] error fits verifier-fits ∙ ended_here o

success_again : (results : List ℕ) (verifier : Auth) → IsAuth verifier → outcome_at (outcome (Success results) verifier) ≡ Ok (Success results)
unfolding outcome accepted_as
success_again results verifier fits = stat_goes_on verifier 0 results fits (omega arith)

pub outcome_again : (o : Outcome) (verifier : Auth) → IsOutcome o → IsAuth verifier → outcome_at (outcome o verifier) ≡ Ok o
outcome_again (Success results) verifier fits verifier-fits = success_again results verifier verifier-fits
outcome_again ProgUnavail verifier fits verifier-fits = error_again ProgUnavail verifier tt fits verifier-fits
outcome_again (ProgMismatch low high) verifier fits verifier-fits = error_again (ProgMismatch low high) verifier tt fits verifier-fits
outcome_again ProcUnavail verifier fits verifier-fits = error_again ProcUnavail verifier tt fits verifier-fits
outcome_again GarbageArgs verifier fits verifier-fits = error_again GarbageArgs verifier tt fits verifier-fits
outcome_again (RpcMismatch low high) verifier fits verifier-fits = error_again (RpcMismatch low high) verifier tt fits verifier-fits
outcome_again (AuthError reason) verifier fits verifier-fits = error_again (AuthError reason) verifier tt fits verifier-fits

-- ---- and a fault is the one of its place

-- numbers with a fault give it
numbers_end : (count : ℕ) (rest : List ℕ) (e : RpcFault) (read : Result Outcome RpcFault) → (length rest < 4 * count → read ≡ Err Short)
    → IsItemFault (Numbers count) rest e → read ≡ Err e
numbers_end count rest e read short h = let f = numbers_fault count rest e h in short f.1 ∙ ap (λ (x : RpcFault). Err x) (sym f.0)

outcome_ends : (place : ReplyPlace) (rest : List ℕ) (e : RpcFault) → IsReplyPlace place → IsBytes rest → IsItemFault (reply_next place) rest e
    → outcome_at (reply_front place ++ rest) ≡ Err e
unfolding reply_front outcome_at accepted_at denied_at accepted_as denied_as ended
outcome_ends ReplyStat rest e fits rest-fits h =
    choice_ends 1 rest e (λ stat. cond (eqb stat.0 0) (accepted_at stat.1) (cond (eqb stat.0 1) (denied_at stat.1) (Err BadKind)))
    (λ n r above. not_chosen n 0 _ _ (λ e. omega arith) ∙ not_chosen n 1 _ _ (λ e. omega arith)) h
outcome_ends ReplyVerifier rest e fits rest-fits h = outcome_accepted rest ∙ rw (auth_ends rest e h) refl
outcome_ends (AcceptStat verifier) rest e fits rest-fits h =
    accepted_goes_on verifier rest fits
    ∙ choice_ends 4 rest e (λ stat. accepted_as stat.0 stat.1)
    (λ n r above. not_chosen n 0 _ _ (λ e. omega arith) ∙ not_chosen n 1 _ _ (λ e. omega arith) ∙ not_chosen n 2 _ _ (λ e. omega arith)
    ∙ not_chosen n 3 _ _ (λ e. omega arith) ∙ not_chosen n 4 _ _ (λ e. omega arith)) h
outcome_ends (ProgramVersions verifier) rest e fits rest-fits h =
    numbers_end 2 rest e (outcome_at ((accepted_front verifier ++ word 2) ++ rest))
    (λ lt. stat_goes_on verifier 2 rest fits (omega arith) ∙ bounds_ends rest (λ bounds. ended (ProgMismatch bounds.0 bounds.1) bounds.2) rest-fits lt) h
outcome_ends RejectStat rest e fits rest-fits h =
    outcome_denied rest
    ∙ choice_ends 1 rest e (λ stat. denied_as stat.0 stat.1) (λ n r above. not_chosen n 0 _ _ (λ e. omega arith) ∙ not_chosen n 1 _ _ (λ e. omega arith)) h
outcome_ends RpcVersions rest e fits rest-fits h =
    numbers_end 2 rest e (outcome_at ((word 1 ++ word 0) ++ rest))
    (λ lt. denied_goes_on 0 rest (omega arith) ∙ bounds_ends rest (λ bounds. ended (RpcMismatch bounds.0 bounds.1) bounds.2) rest-fits lt) h
outcome_ends AuthStat rest e fits rest-fits h =
    numbers_end 1 rest e (outcome_at ((word 1 ++ word 1) ++ rest))
    (λ lt. denied_goes_on 1 rest (omega arith) ∙ word_ends fault_of rest (λ reason. ended (AuthError reason.0) reason.1) (omega arith)) h
outcome_ends (EndOfReply o verifier) rest e fits rest-fits h =
    let f = end_fault rest e h in
    error_goes_on o verifier rest fits.0 fits.1 fits.2 ∙ not_chosen (length rest) 0 (Ok o) (Err Xdr) (λ e. omega (arith, f.1))
    ∙ ap (λ (x : RpcFault). Err x) (sym f.0)

pub outcome_only : (bytes : List ℕ) (read : Result Outcome RpcFault) → IsBytes bytes → ReplySays bytes read → outcome_at bytes ≡ read
outcome_only bytes (Ok o) fits says = ap outcome_at says.1.2 ∙ outcome_again o says.0 says.1.1 says.1.0
outcome_only bytes (Err e) fits says =
    let rest-fits : IsBytes says.1.0 = IsBytes-behind (reply_front says.0) says.1.0 (subst IsBytes says.1.1.1 fits) in
    ap outcome_at says.1.1.1 ∙ outcome_ends says.0 says.1.0 e says.1.1.0 rest-fits says.1.1.2
