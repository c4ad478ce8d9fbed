-- Laws of the spellings of messages.
use Rattle.std.proofs.Common.{◌≡◌, ℕ, ◌^◌, ◌<◌, List, [], ◌∷◌, ◌++◌, length, Result, Ok, Err, refl, ap, ◌∙◌, append_assoc, arith}
use Rattle.std.proofs.lemmas.List.{length-append}
use Rattle.nq_xdr.specs.Item.{word, opaque}
use Rattle.nq_xdr.specs.Reading.{◌>>=◌}
use Rattle.nq_xdr.proofs.Numbers.{length-word}
use Rattle.nq_xdr.proofs.Opaque.{length-opaque}
use Rattle.nq_xdr.specs.declared.rpc.fault.RpcFault.{RpcFault}
use Rattle.nq_xdr.specs.declared.rpc.fault.RpcFault.TheVariants.{Xdr}
use Rattle.nq_xdr.specs.declared.rpc.message.CallMessage.{CallMessage}
use Rattle.nq_xdr.specs.declared.rpc.message.Outcome.{Outcome}
use Rattle.nq_xdr.specs.declared.rpc.message.Outcome.TheVariants.{Success, ProgUnavail, ProgMismatch, ProcUnavail, GarbageArgs, RpcMismatch, AuthError}
use Rattle.nq_xdr.specs.declared.rpc.message.ReplyMessage.{ReplyMessage}
use Rattle.nq_xdr.specs.declared.rpc.message.Message.{Message}
use Rattle.nq_xdr.specs.declared.rpc.message.Message.TheVariants.{Call, Reply}
use Rattle.nq_xdr.specs.Message.{Auth, IsAuth, auth, null, numbers, outcome, spelling, outcome_len, spelling_len, IsOutcome, IsError, IsMessage, IsSpelled}
use Rattle.nq_xdr.specs.RpcReading.{ended, message_at}
use Rattle.nq_xdr.proofs.Auths.{not_chosen}
use Rattle.nq_xdr.proofs.Replies.{error_goes_on}
use Rattle.nq_xdr.proofs.Messages.{null_fits, message_again, reply_goes_on}
use Rattle.nq_xdr.proofs.Decoded.{one_read}

-- ---- lengths

length-null : length (auth null) ≡ 8
unfolding auth
length-null = omega (arith, length-append (word 0) (opaque []), length-word 0, length-opaque [])

length-numbers : (m : CallMessage) → length (numbers m) ≡ 24
unfolding numbers
length-numbers m = simp (length-append, length-word)

length-outcome : (o : Outcome) → length (outcome o null) ≡ outcome_len o
unfolding outcome
length-outcome (Success results) = simp (length-append, length-word, length-null)
length-outcome ProgUnavail = simp (length-append, length-word, length-null)
length-outcome (ProgMismatch low high) = simp (length-append, length-word, length-null)
length-outcome ProcUnavail = simp (length-append, length-word, length-null)
length-outcome GarbageArgs = simp (length-append, length-word, length-null)
length-outcome (RpcMismatch low high) = simp (length-append, length-word)
length-outcome (AuthError stat) = simp (length-append, length-word)

pub length-spelling : (m : Message) → length (spelling m null null) ≡ spelling_len m
unfolding spelling
length-spelling (Call m) = simp (length-append, length-numbers, length-null)
length-spelling (Reply r) = simp (length-append, length-word, length-outcome)

-- ---- one message

pub spelled : (m : Message) → IsMessage m → IsSpelled m (spelling m null null)
spelled m fits = (null, (null, record { message_fits = fits; credential_fits = null_fits; verifier_fits = null_fits; bytes_are = refl }))

-- what is spelled so is read
read_again : (m : Message) (bytes : List ℕ) → IsSpelled m bytes → message_at bytes ≡ Ok m
read_again m bytes says =
    let s = says.1.1 in
    ap message_at s.bytes_are ∙ message_again m says.0 says.1.0 s.message_fits s.credential_fits s.verifier_fits

pub one_message : (m n : Message) (bytes : List ℕ) → IsSpelled m bytes → IsSpelled n bytes → m ≡ n
one_message m n bytes says says' = one_read m n (message_at bytes) (read_again m bytes says) (read_again n bytes says')

-- ---- ends

-- an error reply with something behind it
more_behind : (r : ReplyMessage) (verifier : Auth) (b : ℕ) (rest : List ℕ) → r.xid < 2 ^ 32 → IsError r.outcome → IsOutcome r.outcome → IsAuth verifier
    → message_at ((word r.xid ++ word 1 ++ outcome r.outcome verifier) ++ (b ∷ rest)) ≡ Err Xdr
unfolding ended
more_behind r verifier b rest xid-fits error fits verifier-fits =
    let o = r.outcome in
    ap message_at (append_assoc (word r.xid ++ word 1) (outcome o verifier) (b ∷ rest))
    ∙ reply_goes_on r.xid (outcome o verifier ++ (b ∷ rest)) xid-fits
    ∙ ap (λ (read : Result Outcome RpcFault). read >>= λ outcome. Ok (Reply (record { xid = r.xid; outcome = outcome })))
    (error_goes_on o verifier (b ∷ rest) error fits verifier-fits ∙ not_chosen (length (b ∷ rest)) 0 (Ok o) (Err Xdr) (λ e. omega arith))

no_read : (m : Message) (e : RpcFault) (read : Result Message RpcFault) → read ≡ Ok m → read ≡ Err e → ⊥
no_read m e read is is' = cc

pub error_ends : (r : ReplyMessage) (m : Message) (bytes rest : List ℕ) → IsError r.outcome → IsSpelled (Reply r) bytes → IsSpelled m (bytes ++ rest)
    → rest ≡ []
unfolding spelling
error_ends r m bytes [] error says says' = refl
error_ends r m bytes (b ∷ rest) error says says' =
    let s = says.1.1 in
    absurd (no_read m Xdr (message_at (bytes ++ (b ∷ rest))) (read_again m (bytes ++ (b ∷ rest)) says')
    (ap (λ (x : List ℕ). message_at (x ++ (b ∷ rest))) s.bytes_are ∙ more_behind r says.1.0 b rest s.message_fits.0 error s.message_fits.1 s.verifier_fits))

pub calls_go_on : (m : CallMessage) (credential verifier : Auth) (rest : List ℕ)
    → spelling (Call m) credential verifier ++ rest ≡ spelling (Call (record m { arguments = m.arguments ++ rest })) credential verifier
unfolding spelling numbers
calls_go_on m credential verifier rest = append_assoc (numbers m ++ auth credential ++ auth verifier) m.arguments rest

pub replies_go_on : (xid : ℕ) (results : List ℕ) (credential verifier : Auth) (rest : List ℕ)
    → spelling (Reply (record { xid = xid; outcome = Success results })) credential verifier ++ rest
    ≡ spelling (Reply (record { xid = xid; outcome = Success (results ++ rest) })) credential verifier
unfolding spelling outcome
replies_go_on xid results credential verifier rest =
    append_assoc (word xid ++ word 1) (word 0 ++ auth verifier ++ word 0 ++ results) rest
    ∙ ap (λ (x : List ℕ). (word xid ++ word 1) ++ x) (append_assoc (word 0 ++ auth verifier ++ word 0) results rest)
