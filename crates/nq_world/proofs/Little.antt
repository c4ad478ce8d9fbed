-- An event of a run sends little.
use Rattle.std.proofs.Common.{◌≡◌, ◌≤◌, ℕ, ◌+◌, ◌*◌, List, [], ◌∷◌, length, map, sym, subst, ap, ◌∙◌, arith, length-append}
use Rattle.std.proofs.lemmas.List.{length-map}
use Rattle.std.proofs.lemmas.List.Elements.{All-head, All-tail}
use Rattle.std.proofs.lemmas.List.Sums.{sum_by-cons}
use Rattle.std.specs.List.{All}
use Rattle.nq_base.specs.declared.Party.{Party}
use Rattle.nq_datagrams.specs.Messages.{FitsMessage, bytes_of, message_of}
use Rattle.nq_datagrams.specs.Sent.{sent}
use Rattle.nq_model.specs.protocol.Client.{ClientStep}
use Rattle.nq_model.specs.protocol.Message.{Message, Packet, call, reply, error, RpcError, rpc_mismatch, program_unavailable, program_mismatch}
use Rattle.nq_model.specs.protocol.Message.{procedure_unavailable, garbage_arguments}
use Rattle.nq_model.specs.protocol.Server.{ServerStep}
use Rattle.nq_model.specs.protocol.World.{World, from_host, after_server, after_client, run}
use Rattle.nq_xdr.proofs.Spellings.{length-spelling}
use Rattle.nq_wire.proofs.Lengths.{length-arguments, arguments_len-most, length-results, results_len-most}
use Rattle.walk_steps.proofs.WorldSends.{events-send-few}
use Rattle.nq_world.specs.Rooms.{IsSmall, longest_sent, ServerSendsLittle, ClientsSendLittle, EventsSendLittle}
use Rattle.nq_world.specs.Sending.{bytes_together}
use Rattle.nq_world.specs.Shown.{FitsPacket, to_server}

error-short : (xid : ℕ) (e : RpcError) → length (bytes_of (error xid e)) ≤ longest_sent
unfolding bytes_of
error-short xid rpc_mismatch = omega (arith, length-spelling (message_of (error xid rpc_mismatch)))
error-short xid program_unavailable = omega (arith, length-spelling (message_of (error xid program_unavailable)))
error-short xid program_mismatch = omega (arith, length-spelling (message_of (error xid program_mismatch)))
error-short xid procedure_unavailable = omega (arith, length-spelling (message_of (error xid procedure_unavailable)))
error-short xid garbage_arguments = omega (arith, length-spelling (message_of (error xid garbage_arguments)))

-- a message has so many bytes at most
bytes-short : (m : Message) → FitsMessage m → length (bytes_of m) ≤ longest_sent
unfolding bytes_of
bytes-short (call xid r) fits =
    let size = length-spelling (message_of (call xid r)) in
    let own = length-arguments r fits.1 in
    let most = arguments_len-most r fits.1 in
    omega arith
bytes-short (reply xid r) fits =
    let size = length-spelling (message_of (reply xid r)) in
    let own = length-results r fits.1 in
    let most = results_len-most r fits.1 in
    omega arith
bytes-short (error xid e) fits = error-short xid e

-- datagrams of messages that fit
together : (sends : List Packet) → All FitsPacket sends → bytes_together (map sent sends) ≤ length sends * longest_sent
together [] fit = omega arith
together (p ∷ sends) fit =
    let first = bytes-short p.message (All-head FitsPacket p sends fit) in
    let rest = together sends (All-tail FitsPacket p sends fit) in
    let sum = sum_by-cons (λ (d : Party × List ℕ). length d.1) (sent p) (map sent sends) in
    omega arith

together-client : (sends : List Message) → All FitsMessage sends → bytes_together (map to_server sends) ≤ length sends * longest_sent
together-client [] fit = omega arith
together-client (m ∷ sends) fit =
    let first = bytes-short m (All-head FitsMessage m sends fit) in
    let rest = together-client sends (All-tail FitsMessage m sends fit) in
    let sum = sum_by-cons (λ (d : Party × List ℕ). length d.1) (to_server m) (map to_server sends) in
    omega arith

few-of-server : (w : World) (t : ServerStep) → length (after_server w t).packets ≡ length w.packets + length t.sends
unfolding after_server
few-of-server w t = length-append w.packets t.sends

few-of-client : (w : World) (host : ℕ) (t : ClientStep) → length (after_client w host t).packets ≡ length w.packets + length t.sends
unfolding after_client
few-of-client w host t = length-append w.packets (map (from_host host) t.sends) ∙ ap (λ n. length w.packets + n) (length-map t.sends (from_host host))

small : (out : List (Party × List ℕ)) (count : ℕ) → length out ≡ count → count ≤ 64 → bytes_together out ≤ count * longest_sent → IsSmall out
small out count size few short = record { few = omega arith; short = omega arith }

pub server-sends-little : ServerSendsLittle
server-sends-little head events event t out is fit put =
    let w : World = run head events in
    let few : length (after_server w t).packets ≤ length w.packets + 64 = subst (λ v. length v.packets ≤ length w.packets + 64) is
    (events-send-few head events event) in
    let more = few-of-server w t in
    small out (length t.sends) (ap length put ∙ length-map t.sends sent) (omega arith)
    (subst (λ xs. bytes_together xs ≤ length t.sends * longest_sent) (sym put) (together t.sends fit))

pub clients-send-little : ClientsSendLittle
clients-send-little head events event host t out is fit put =
    let w : World = run head events in
    let few : length (after_client w host t).packets ≤ length w.packets + 64 = subst (λ v. length v.packets ≤ length w.packets + 64) is
    (events-send-few head events event) in
    let more = few-of-client w host t in
    small out (length t.sends) (ap length put ∙ length-map t.sends to_server) (omega arith)
    (subst (λ xs. bytes_together xs ≤ length t.sends * longest_sent) (sym put) (together-client t.sends fit))

pub events-send-little : EventsSendLittle
events-send-little = record { server = server-sends-little; clients = clients-send-little }
