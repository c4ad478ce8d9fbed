-- What calls that decode give, from what reading the bytes gives.
use Rattle.std.proofs.Common.{◌≡◌, ℕ, List, Result, Ok, Err, sym, ap, subst, ◌∙◌, inl, inr, ◌⊎◌}
use Rattle.std.specs.Prelude.{IfOk, IfErr, IsOk, IsOkAnd}
use Rattle.nq_xdr.specs.Reading.{Gives}
use Rattle.nq_xdr.specs.declared.rpc.fault.RpcFault.{RpcFault}
use Rattle.nq_xdr.specs.declared.rpc.fault.RpcFault.TheVariants.{Short, BadKind, BadAuth, Xdr, Memory}
use Rattle.nq_xdr.specs.declared.rpc.lent.LentMessage.{LentMessage}
use Rattle.nq_xdr.specs.declared.rpc.message.Message.{Message}
use Rattle.nq_xdr.specs.Lent.{lent_message}
use Rattle.nq_xdr.specs.Message.{IsSpelled}
use Rattle.nq_xdr.specs.RpcReading.{Decodes}
use Rattle.nq_xdr.specs.RpcFault.{Next, Numbers, Choice, Authentication, End, IsItemFault, next, IsMessageFault, IsDecodeFault}
use Rattle.nq_xdr.proofs.Messages.{MessageSays}

-- want of memory is no fault of the bytes
no_item : (after : Next) (rest : List ℕ) → IsItemFault after rest Memory → ⊥
no_item (Numbers count) rest h = h
no_item (Choice top) rest h = h
no_item Authentication rest h = h
no_item End rest h = h

fault_decoded : (bytes : List ℕ) (e : RpcFault) → IsMessageFault bytes e → IsDecodeFault bytes e
fault_decoded bytes Short h = h
fault_decoded bytes BadKind h = h
fault_decoded bytes BadAuth h = h
fault_decoded bytes Xdr h = h
fault_decoded bytes Memory h = absurd (no_item (next h.0) h.1.0 h.1.1.2)

wanted : (bytes : List ℕ) (e : RpcFault) (read : Result Message RpcFault) → e ≡ Memory → IsOk read → MessageSays bytes read → IsDecodeFault bytes e
wanted bytes e (Ok m) is_memory is_ok says = subst (IsDecodeFault bytes) (sym is_memory) (m, says)
wanted bytes e (Err d) is_memory is_ok says = absurd cc

pub decoded_found : (bytes : List ℕ) (r read : Result Message RpcFault) → MessageSays bytes read → Decodes r read → IfOk r (λ m. IsSpelled m bytes)
decoded_found bytes (Ok m) read says given = subst (MessageSays bytes) given says
decoded_found bytes (Err e) read says given = tt

pub decoded_fault : (bytes : List ℕ) (r read : Result Message RpcFault) → MessageSays bytes read → Decodes r read → IfErr r (IsDecodeFault bytes)
decoded_fault bytes (Ok m) read says given = tt
decoded_fault bytes (Err e) read says (inl given) = fault_decoded bytes e (subst (MessageSays bytes) given says)
decoded_fault bytes (Err e) read says (inr memory) = wanted bytes e read memory.0 memory.1 says

pub decoded_only : (m : Message) (r read : Result Message RpcFault) → read ≡ Ok m → Decodes r read → (r ≡ Ok m) ⊎ (r ≡ Err Memory)
decoded_only m (Ok x) read is given = inl (sym given ∙ is)
decoded_only m (Err e) read is (inl given) = absurd cc
decoded_only m (Err e) read is (inr memory) = inr (ap (λ (x : RpcFault). Err x) memory.0)

fault_given : (e d : RpcFault) (read : Result Message RpcFault) → read ≡ Err e → d ≡ Memory → IsOk read → Err d ≡ read
fault_given e d (Ok x) is is_memory is_ok = absurd cc
fault_given e d (Err x) is is_memory is_ok = absurd cc

pub decoded_only_fault : (e : RpcFault) (r read : Result Message RpcFault) → read ≡ Err e → Decodes r read → r ≡ Err e
decoded_only_fault e (Ok x) read is given = sym given ∙ is
decoded_only_fault e (Err d) read is (inl given) = sym given ∙ is
decoded_only_fault e (Err d) read is (inr memory) = fault_given e d read is memory.0 memory.1 ∙ is

-- ---- where nothing is copied

-- what was read is one message
pub one_read : (m n : Message) (read : Result Message RpcFault) → read ≡ Ok m → read ≡ Ok n → m ≡ n
one_read m n read is was = cc

one_fault : (d e : RpcFault) (read : Result Message RpcFault) → read ≡ Err d → read ≡ Err e → d ≡ e
one_fault d e read a b = cc

pub lent_found : (bytes : List ℕ) (r : Result LentMessage RpcFault) (read : Result Message RpcFault) → MessageSays bytes read → Gives lent_message r
    read → IfOk r (λ m. IsSpelled (lent_message m) bytes)
lent_found bytes (Ok m) read says given = subst (MessageSays bytes) given says
lent_found bytes (Err e) read says given = tt

pub lent_fault : (bytes : List ℕ) (r : Result LentMessage RpcFault) (read : Result Message RpcFault) → MessageSays bytes read → Gives lent_message r
    read → IfErr r (IsMessageFault bytes)
lent_fault bytes (Ok m) read says given = tt
lent_fault bytes (Err e) read says given = subst (MessageSays bytes) given says

pub lent_only : (m : Message) (r : Result LentMessage RpcFault) (read : Result Message RpcFault) → read ≡ Ok m → Gives lent_message r read
    → IsOkAnd r (λ lent. lent_message lent ≡ m)
lent_only m (Ok lent) read is given = one_read (lent_message lent) m read given is
lent_only m (Err e) read is given = absurd cc

pub lent_only_fault : (e : RpcFault) (r : Result LentMessage RpcFault) (read : Result Message RpcFault) → read ≡ Err e → Gives lent_message r read → r ≡ Err e
lent_only_fault e (Ok lent) read is given = absurd cc
lent_only_fault e (Err d) read is given = ap (λ (x : RpcFault). Err x) (one_fault d e read given is)
