-- Messages: what is spelled so is read, what is read is spelled so, and each fault is the one of its place.
use Rattle.std.proofs.Common.{◌≡◌, ℕ, ◌+◌, ◌^◌, ◌<◌, cond, eqb, List, [], ◌++◌, length, Result, Ok, Err, refl, sym, ap, subst, ◌∙◌, append_assoc, arith}
use Rattle.std.proofs.lemmas.List.{length-append}
use Rattle.nq_xdr.specs.Item.{word}
use Rattle.nq_xdr.specs.Reading.{◌>>=◌, word_at}
use Rattle.nq_xdr.proofs.Bytes.{IsBytes, IsBytes-behind}
use Rattle.nq_xdr.proofs.Numbers.{length-word, word_again}
use Rattle.nq_xdr.proofs.Follows.{word_step, word_goes_on, word_ends}
use Rattle.nq_xdr.specs.declared.rpc.fault.RpcFault.{RpcFault}
use Rattle.nq_xdr.specs.declared.rpc.fault.RpcFault.TheVariants.{Short, BadKind}
use Rattle.nq_xdr.specs.declared.rpc.message.CallMessage.{CallMessage}
use Rattle.nq_xdr.specs.declared.rpc.message.Outcome.{Outcome}
use Rattle.nq_xdr.specs.declared.rpc.message.Message.{Message}
use Rattle.nq_xdr.specs.declared.rpc.message.Message.TheVariants.{Call, Reply}
use Rattle.nq_xdr.specs.Message.{Auth, IsAuth, auth, null, numbers, outcome, spelling, IsCall, IsMessage, IsSpelled}
use Rattle.nq_xdr.specs.RpcReading.{item, fault_of, behind_auth, call_at, outcome_at, reply_at, message_at}
use Rattle.nq_xdr.specs.RpcFault.{IsItemFault, Place, Xid, MessageType, CallNumbers, Credential, Verifier, InReply, front, next, IsPlace}
use Rattle.nq_xdr.specs.RpcFault.{IsMessageFault, reply_front}
use Rattle.nq_xdr.proofs.Auths.{chosen, not_chosen, numbers_fault, choice_ends, auth_again, auth_ends, auth_step}
use Rattle.nq_xdr.proofs.Replies.{ReplySays, outcome_says, outcome_again, outcome_only}

-- what bytes say: the message that they spell, or a fault at a place
abbrev pub MessageSays : List ℕ → Result Message RpcFault → Type 0
MessageSays bytes (Ok m) = IsSpelled m bytes
MessageSays bytes (Err e) = IsMessageFault bytes e

pub null_fits : IsAuth null
null_fits = record { flavor = omega arith; body = omega arith }

-- one more part behind what stands before
behind : (bytes before part rest left : List ℕ) → bytes ≡ before ++ rest → rest ≡ part ++ left → bytes ≡ (before ++ part) ++ left
behind bytes before part rest left e e' = e ∙ ap (λ (x : List ℕ). before ++ x) e' ∙ sym (append_assoc before part left)

-- ---- calls

-- the numbers of a call, given one by one
abbrev call_of : ℕ → ℕ → ℕ → ℕ → ℕ → List ℕ → CallMessage
call_of xid rpcvers prog vers procedure arguments =
    record { head = record { xid = xid; prog = prog; vers = vers; procedure = procedure }; rpcvers = rpcvers; arguments = arguments }

-- what is read behind the numbers
abbrev auths_at : ℕ → ℕ → ℕ → ℕ → ℕ → List ℕ → Result Message RpcFault
auths_at xid rpcvers prog vers procedure bytes =
    behind_auth bytes >>= λ verifier. behind_auth verifier >>= λ arguments. Ok (Call (call_of xid rpcvers prog vers procedure arguments))

auths_say : (bytes rest : List ℕ) (xid rpcvers prog vers procedure : ℕ) → IsCall (call_of xid rpcvers prog vers procedure [])
    → bytes ≡ numbers (call_of xid rpcvers prog vers procedure []) ++ rest → IsBytes rest
    → MessageSays bytes (auths_at xid rpcvers prog vers procedure rest)
unfolding front spelling numbers
auths_say bytes rest xid rpcvers prog vers procedure fits e rest-fits =
    let m = call_of xid rpcvers prog vers procedure [] in
    let P : Result Message RpcFault → Type 0 = MessageSays bytes in
    auth_step rest (λ verifier. behind_auth verifier >>= λ arguments. Ok (Call (call_of xid rpcvers prog vers procedure arguments))) P rest-fits
    (λ fault h. (Credential m, (rest, (fits, e, h))))
    (λ credential left credential-fits e' left-fits.
    let whole = behind bytes (numbers m) (auth credential) rest left e e' in
    auth_step left (λ arguments. Ok (Call (call_of xid rpcvers prog vers procedure arguments))) P left-fits
    (λ fault h. (Verifier m credential, (left, ((fits, credential-fits), whole, h))))
    (λ verifier arguments verifier-fits e'' arguments-fit. (
      credential,
      (
        verifier,
        record {
          message_fits = record { xid = fits.xid; rpcvers = fits.rpcvers; prog = fits.prog; vers = fits.vers; procedure = fits.procedure };
          credential_fits = credential-fits;
          verifier_fits = verifier-fits;
          bytes_are = behind bytes (numbers m ++ auth credential) (auth verifier) left arguments whole e'';
        },
      ),
    )))

-- fewer bytes than the numbers of a call take
few : (bytes rest left : List ℕ) (n k : ℕ) → bytes ≡ word n ++ rest → length rest < k → length bytes < 4 + k
few bytes rest left n k e lt = omega (arith, ap length e, length-append (word n) rest, length-word n)

-- a fact of what follows the numbers of a call, from its cases
numbers_step : (xid : ℕ) (bytes : List ℕ) (P : Result Message RpcFault → Type 0) → IsBytes bytes
    → (length bytes < 16 → P (Err Short))
    → ((rpcvers prog vers procedure : ℕ) (rest : List ℕ) → rpcvers < 2 ^ 32 → prog < 2 ^ 32 → vers < 2 ^ 32 → procedure < 2 ^ 32
    → bytes ≡ (((word rpcvers ++ word prog) ++ word vers) ++ word procedure) ++ rest → IsBytes rest → P (auths_at xid rpcvers prog vers procedure rest))
    → P (call_at xid bytes)
unfolding call_at
numbers_step xid bytes P fits short goes_on =
    word_step fault_of bytes
    (λ rpcvers. item (word_at rpcvers.1) >>= λ prog. item (word_at prog.1) >>= λ vers. item (word_at vers.1) >>= λ procedure. auths_at xid rpcvers.0
    prog.0 vers.0 procedure.0 procedure.1) P fits
    (λ lt. short (omega arith))
    (λ rpcvers b rpcvers-fits e b-fits.
    word_step fault_of b (λ prog. item (word_at prog.1) >>= λ vers. item (word_at vers.1) >>= λ procedure. auths_at xid rpcvers prog.0 vers.0
    procedure.0 procedure.1) P b-fits
    (λ lt. short (omega (arith, few bytes b [] rpcvers 4 e lt)))
    (λ prog c prog-fits e' c-fits.
    let two = behind bytes (word rpcvers) (word prog) b c e e' in
    word_step fault_of c (λ vers. item (word_at vers.1) >>= λ procedure. auths_at xid rpcvers prog vers.0 procedure.0 procedure.1) P c-fits
    (λ lt. short (omega (arith, few bytes b [] rpcvers 8 e (few b c [] prog 4 e' lt))))
    (λ vers d vers-fits e'' d-fits.
    let three = behind bytes (word rpcvers ++ word prog) (word vers) c d two e'' in
    word_step fault_of d (λ procedure. auths_at xid rpcvers prog vers procedure.0 procedure.1) P d-fits
    (λ lt. short (omega (arith, few bytes b [] rpcvers 12 e (few b c [] prog 8 e' (few c d [] vers 4 e'' lt)))))
    (λ procedure rest procedure-fits e''' rest-fits.
    goes_on rpcvers prog vers procedure rest rpcvers-fits prog-fits vers-fits procedure-fits
    (behind bytes ((word rpcvers ++ word prog) ++ word vers) (word procedure) d rest three e''') rest-fits))))

regrouped : (a b c d e f rest : List ℕ) → (a ++ b) ++ ((((c ++ d) ++ e) ++ f) ++ rest) ≡ (((((a ++ b) ++ c) ++ d) ++ e) ++ f) ++ rest
regrouped a b c d e f rest = simp append_assoc

call_says : (bytes rest : List ℕ) (xid : ℕ) → xid < 2 ^ 32 → bytes ≡ (word xid ++ word 0) ++ rest → IsBytes rest → MessageSays bytes (call_at xid rest)
unfolding front numbers
call_says bytes rest xid xid-fits e fits =
    let P : Result Message RpcFault → Type 0 = MessageSays bytes in
    numbers_step xid rest P fits
    (λ lt. (CallNumbers xid, (rest, (xid-fits, e, lt))))
    (λ rpcvers prog vers procedure left rpcvers-fits prog-fits vers-fits procedure-fits e' left-fits.
    auths_say bytes left xid rpcvers prog vers procedure
    (record { xid = xid-fits; rpcvers = rpcvers-fits; prog = prog-fits; vers = vers-fits; procedure = procedure-fits })
    (e ∙ ap (λ (x : List ℕ). (word xid ++ word 0) ++ x) e' ∙ regrouped (word xid) (word 0) (word rpcvers) (word prog) (word vers) (word procedure)
    left) left-fits)

-- ---- replies

reply_says_at : (bytes rest : List ℕ) (xid : ℕ) (read : Result Outcome RpcFault) → xid < 2 ^ 32 → bytes ≡ (word xid ++ word 1) ++ rest → ReplySays rest read
    → MessageSays bytes (read >>= λ outcome. Ok (Reply (record { xid = xid; outcome = outcome })))
unfolding front spelling
reply_says_at bytes rest xid (Ok o) fits e says = (
  null,
  (
    says.0,
    record {
      message_fits = (fits, says.1.1);
      credential_fits = null_fits;
      verifier_fits = says.1.0;
      bytes_are = e ∙ ap (λ (x : List ℕ). (word xid ++ word 1) ++ x) says.1.2;
    },
  ),
)
reply_says_at bytes rest xid (Err fault) fits e says =
    (InReply xid says.0, (says.1.0, ((fits, says.1.1.0), behind bytes (word xid ++ word 1) (reply_front says.0) rest says.1.0 e says.1.1.1, says.1.1.2)))

reply_says : (bytes rest : List ℕ) (xid : ℕ) → xid < 2 ^ 32 → bytes ≡ (word xid ++ word 1) ++ rest → IsBytes rest → MessageSays bytes (reply_at xid rest)
unfolding reply_at
reply_says bytes rest xid xid-fits e fits = reply_says_at bytes rest xid (outcome_at rest) xid-fits e (outcome_says rest fits)

-- ---- messages

abbrev kind_at : ℕ → ℕ × List ℕ → Result Message RpcFault
kind_at xid kind = cond (eqb kind.0 0) (call_at xid kind.1) (cond (eqb kind.0 1) (reply_at xid kind.1) (Err BadKind))

pub message_says : (bytes : List ℕ) → IsBytes bytes → MessageSays bytes (message_at bytes)
unfolding message_at front
message_says bytes fits =
    let P : Result Message RpcFault → Type 0 = MessageSays bytes in
    word_step fault_of bytes (λ xid. item (word_at xid.1) >>= λ kind. kind_at xid.0 kind) P fits
    (λ lt. (Xid, (bytes, (tt, refl, omega arith))))
    (λ xid rest xid-fits e rest-fits.
    word_step fault_of rest (kind_at xid) P rest-fits
    (λ lt. (MessageType xid, (rest, (xid-fits, e, lt))))
    (λ kind left kind-fits e' left-fits.
    let whole = behind bytes (word xid) (word kind) rest left e e' in
    chosen kind 0 _ _ P
    (λ same. call_says bytes left xid xid-fits (whole ∙ ap (λ (n : ℕ). (word xid ++ word n) ++ left) same) left-fits)
    (λ not_0. chosen kind 1 _ _ P
    (λ same. reply_says bytes left xid xid-fits (whole ∙ ap (λ (n : ℕ). (word xid ++ word n) ++ left) same) left-fits)
    (λ not_1. (MessageType xid, (rest, (xid-fits, e, (kind, (left, (kind-fits, e', omega (arith, not_0, not_1)))))))))))

-- ---- what is spelled so is read

xid_goes_on : (xid : ℕ) (rest : List ℕ) → xid < 2 ^ 32 → message_at (word xid ++ rest) ≡ (item (word_at rest) >>= λ kind. kind_at xid kind)
unfolding message_at
xid_goes_on xid rest fits = rw (word_again xid rest fits) refl

call_goes_on : (xid : ℕ) (rest : List ℕ) → xid < 2 ^ 32 → message_at ((word xid ++ word 0) ++ rest) ≡ call_at xid rest
call_goes_on xid rest fits =
    ap message_at (append_assoc (word xid) (word 0) rest) ∙ xid_goes_on xid (word 0 ++ rest) fits ∙ word_goes_on fault_of 0 rest (kind_at xid) (omega arith)

pub reply_goes_on : (xid : ℕ) (rest : List ℕ) → xid < 2 ^ 32 → message_at ((word xid ++ word 1) ++ rest) ≡ (outcome_at rest >>= λ outcome.
    Ok (Reply (record { xid = xid; outcome = outcome })))
unfolding reply_at
reply_goes_on xid rest fits =
    ap message_at (append_assoc (word xid) (word 1) rest) ∙ xid_goes_on xid (word 1 ++ rest) fits ∙ word_goes_on fault_of 1 rest (kind_at xid) (omega arith)

-- what follows the numbers of a call
auths_go_on : (m : CallMessage) (rest : List ℕ) → IsCall m → message_at (numbers m ++ rest) ≡ auths_at m.head.xid m.rpcvers m.head.prog m.head.vers
    m.head.procedure rest
unfolding numbers call_at
auths_go_on m rest fits =
    let a = word m.rpcvers in
    let b = word m.head.prog in
    let c = word m.head.vers in
    let d = word m.head.procedure in
    ap message_at (sym (regrouped (word m.head.xid) (word 0) a b c d rest) ∙ ap (λ (x : List ℕ). (word m.head.xid ++ word 0) ++ x) (simp append_assoc))
    ∙ call_goes_on m.head.xid (a ++ (b ++ (c ++ (d ++ rest)))) fits.xid
    ∙ rw (
      word_again m.rpcvers (b ++ (c ++ (d ++ rest))) fits.rpcvers,
      word_again m.head.prog (c ++ (d ++ rest)) fits.prog,
      word_again m.head.vers
          (d ++ rest) fits.vers,
      word_again m.head.procedure rest fits.procedure,
    ) refl

credential_goes_on : (m : CallMessage) (credential : Auth) (rest : List ℕ) → IsCall m → IsAuth credential
    → message_at ((numbers m ++ auth credential) ++ rest) ≡ (behind_auth rest >>= λ arguments.
    Ok (Call (call_of m.head.xid m.rpcvers m.head.prog m.head.vers m.head.procedure arguments)))
credential_goes_on m credential rest fits credential-fits =
    ap message_at (append_assoc (numbers m) (auth credential) rest) ∙ auths_go_on m (auth credential ++ rest) fits
    ∙ rw (auth_again credential rest credential-fits) refl

pub message_again : (message : Message) (credential verifier : Auth) → IsMessage message → IsAuth credential → IsAuth verifier
    → message_at (spelling message credential verifier) ≡ Ok message
unfolding spelling
message_again (Call m) credential verifier fits credential-fits verifier-fits =
    ap message_at (append_assoc (numbers m ++ auth credential) (auth verifier) m.arguments)
    ∙ credential_goes_on m credential (auth verifier ++ m.arguments) fits credential-fits ∙ rw (auth_again verifier m.arguments verifier-fits) refl
message_again (Reply r) credential verifier fits credential-fits verifier-fits =
    reply_goes_on r.xid (outcome r.outcome verifier) fits.0 ∙ rw (outcome_again r.outcome verifier fits.1 verifier-fits) refl

-- ---- and a fault is the one of its place

message_ends : (place : Place) (rest : List ℕ) (e : RpcFault) → IsPlace place → IsBytes (front place ++ rest) → IsItemFault (next place) rest e
    → message_at (front place ++ rest) ≡ Err e
unfolding front message_at call_at
message_ends Xid rest e fits whole-fits h =
    let f = numbers_fault 1 rest e h in
    word_ends fault_of rest (λ xid. item (word_at xid.1) >>= λ kind. kind_at xid.0 kind) (omega (arith, f.1)) ∙ ap (λ (x : RpcFault). Err x) (sym f.0)
message_ends (MessageType xid) rest e fits whole-fits h =
    xid_goes_on xid rest fits ∙ choice_ends 1 rest e (kind_at xid) (λ n r above. not_chosen n 0 _ _ (λ e. omega arith) ∙ not_chosen n 1 _ _
    (λ e. omega arith)) h
message_ends (CallNumbers xid) rest e fits whole-fits h =
    let f = numbers_fault 4 rest e h in
    let rest-fits : IsBytes rest = IsBytes-behind (word xid ++ word 0) rest whole-fits in
    let P : Result Message RpcFault → Type 0 = λ read. read ≡ Err Short in
    call_goes_on xid rest fits
    ∙ numbers_step xid rest P rest-fits (λ _. refl)
    (λ rpcvers prog vers procedure left _ _ _ _ e' _.
    absurd (omega (
      arith,
      f.1,
      ap length e',
      length-append (((word rpcvers ++ word prog) ++ word vers) ++ word procedure) left,
      length-append ((word rpcvers ++ word prog) ++ word vers) (word procedure),
      length-append (word rpcvers ++ word prog) (word vers),
      length-append (word rpcvers) (word prog),
      length-word rpcvers,
      length-word prog,
      length-word vers,
      length-word procedure,
    )))
    ∙ ap (λ (x : RpcFault). Err x) (sym f.0)
message_ends (Credential m) rest e fits whole-fits h = auths_go_on m rest fits ∙ rw (auth_ends rest e h) refl
message_ends (Verifier m credential) rest e fits whole-fits h = credential_goes_on m credential rest fits.0 fits.1 ∙ rw (auth_ends rest e h) refl
message_ends (InReply xid place) rest e fits whole-fits h =
    let parts : ((word xid ++ word 1) ++ reply_front place) ++ rest ≡ (word xid ++ word 1) ++ (reply_front place ++ rest) =
    append_assoc (word xid ++ word 1) (reply_front place) rest in
    let reply-fits : IsBytes (reply_front place ++ rest) = IsBytes-behind (word xid ++ word 1) (reply_front place ++ rest) (subst IsBytes parts whole-fits) in
    ap message_at parts ∙ reply_goes_on xid (reply_front place ++ rest) fits.0
    ∙ rw (outcome_only (reply_front place ++ rest) (Err e) reply-fits (place, (rest, (fits.1, refl, h)))) refl

pub message_only : (bytes : List ℕ) (read : Result Message RpcFault) → IsBytes bytes → MessageSays bytes read → message_at bytes ≡ read
message_only bytes (Ok m) fits says =
    let s = says.1.1 in
    ap message_at s.bytes_are ∙ message_again m says.0 says.1.0 s.message_fits s.credential_fits s.verifier_fits
message_only bytes (Err e) fits says =
    ap message_at says.1.1.1 ∙ message_ends says.0 says.1.0 e says.1.1.0 (subst IsBytes says.1.1.1 fits) says.1.1.2
