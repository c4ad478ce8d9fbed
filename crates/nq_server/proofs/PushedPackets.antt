-- Packets that were pushed.
use Rattle.std.proofs.Common.{◌≡◌, ℕ, List, [], ◌∷◌, ◌++◌, map, sym, ap, ◌∙◌}
use Rattle.std.specs.Prelude.{All}
use Rattle.std.proofs.lemmas.List.{append_assoc, map-append}
use Rattle.std.proofs.lemmas.List.Elements.{All-nil, All-cons, All-head, All-push}
use Rattle.nq_base.specs.declared.Party.{Party}
use Rattle.nq_datagrams.specs.Sent.{FitsPacket, sent}
use Rattle.nq_model.specs.protocol.Message.{Packet}
use Rattle.nq_server.specs.Stepping.{Sends}
use Rattle.nq_wire.specs.Outbox.{Datagrams}

-- one packet
pub one-sent : (packet : Packet) (out out' : Datagrams) → FitsPacket packet → out'.first ≡ out.first → out'.datagrams ≡ out.datagrams ++ sent packet
    ∷ [] → Sends (packet ∷ []) out out'
one-sent packet out out' fits first added = record {
  first = first;
  added = added;
  fit = All-cons FitsPacket packet [] fits (All-nil FitsPacket);
}

-- a packet stands behind others
pub behind-notices : (before between after : List (Party × List ℕ)) (packets : List Packet) (answer : Packet) → between ≡ before ++ map sent packets
    → after ≡ between ++ sent answer ∷ [] → after ≡ before ++ map sent (packets ++ answer ∷ [])
behind-notices before between after packets answer e f =
    f ∙ ap (λ d. d ++ sent answer ∷ []) e ∙ append_assoc before (map sent packets) (sent answer ∷ []) ∙ ap (λ d. before ++ d)
    (sym (map-append sent packets (answer ∷ [])))

pub sent-behind : (packets : List Packet) (answer : Packet) (out between out' : Datagrams) → between.first ≡ out.first → between.datagrams
    ≡ out.datagrams ++ map sent packets → All FitsPacket packets → Sends (answer ∷ []) between out' → Sends (packets ++ answer ∷ []) out out'
sent-behind packets answer out between out' first added fit said = record {
  first = said.first ∙ first;
  added = behind-notices out.datagrams between.datagrams out'.datagrams packets answer added said.added;
  fit = All-push FitsPacket packets answer fit (All-head FitsPacket answer [] said.fit);
}
