use Rattle.std.proofs.Common.{Ok, Err, arith}
use Rattle.nq_xdr.specs.RpcReading.{message_at}
use Rattle.nq_xdr.proofs.Messages.{message_says, message_only}
use Rattle.nq_xdr.proofs.Decoded.{decoded_found, decoded_fault, decoded_only, decoded_only_fault}
use Rattle.nq_xdr.proofs.rpc.decoding.decode.Goals as goal

pub returns-clause-found : goal.returns-clause-found
returns-clause-found c =
    let bytes = c.args.bytes.now in
    decoded_found bytes c.message_copied.result (message_at bytes) (message_says bytes (λ i. omega (arith, c.type_inv.bytes i))) c.message_copied.ensures

pub returns-clause-only : goal.returns-clause-only
returns-clause-only c =
    λ m says.
    let bytes = c.args.bytes.now in
    decoded_only m c.message_copied.result (message_at bytes) (message_only bytes (Ok m) (λ i. omega (arith, c.type_inv.bytes i)) says)
    c.message_copied.ensures

pub returns-clause-fault : goal.returns-clause-fault
returns-clause-fault c =
    let bytes = c.args.bytes.now in
    decoded_fault bytes c.message_copied.result (message_at bytes) (message_says bytes (λ i. omega (arith, c.type_inv.bytes i))) c.message_copied.ensures

pub returns-clause-only_fault : goal.returns-clause-only_fault
returns-clause-only_fault c =
    λ e says.
    let bytes = c.args.bytes.now in
    decoded_only_fault e c.message_copied.result (message_at bytes) (message_only bytes (Err e) (λ i. omega (arith, c.type_inv.bytes i)) says)
    c.message_copied.ensures
