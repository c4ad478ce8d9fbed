-- Requests that are answered with one packet.
use Rattle.std.proofs.Common.{◌≡◌, ℕ, Option, Some, None, Result, Ok, Err, refl, sym, subst, ◌∙◌, append-nil}
use Rattle.std.proofs.lemmas.List.Elements.{All-nil}
use Rattle.nq_base.specs.declared.Request.{Request}
use Rattle.nq_base.specs.declared.Who.{Who}
use Rattle.nq_datagrams.specs.Sent.{FitsPacket}
use Rattle.nq_datagrams.specs.Told.{told}
use Rattle.nq_datagrams.specs.declared.to_server.Incoming.{Incoming}
use Rattle.nq_base.specs.Entries.{EntryList}
use Rattle.nq_model.specs.protocol.Change.{row_of_found}
use Rattle.nq_model.specs.protocol.Kept.{File, Kept}
use Rattle.nq_model.specs.protocol.Message.{Message, reply}
use Rattle.nq_model.specs.protocol.Server.{Server, ServerStep, drops, says, to_host}
use Rattle.nq_model.specs.protocol.ServerStep.{look_up, get_attr, receive}
use Rattle.nq_server.specs.Answering.{IsNoRequest, looked_up, attributes}
use Rattle.nq_keeper.specs.declared.KeepFault.{KeepFault}
use Rattle.nq_keeper.specs.declared.KeepFault.TheVariants.{Failed, Memory}
use Rattle.nq_server.specs.declared.received.Reason.{Reason}
use Rattle.nq_server.specs.declared.received.EventTaken.{EventTaken}
use Rattle.nq_server.specs.declared.received.EventTaken.TheVariants.{Done, Dropped}
use Rattle.nq_server.specs.Leasing.{Does}
use Rattle.nq_server.specs.State.{Beside, server_of}
use Rattle.nq_server.specs.Stepping.{Takes, Makes, Says, cause_of, outcome_of}
use Rattle.nq_wire.specs.Outbox.{Datagrams}

-- one packet is sent, after what is kept was read
pub takes-answered : (host : ℕ) (message : Message) (result : Result EventTaken KeepFault) (step : Kept → ServerStep) (told tells : Option Kept)
    (before count : ℕ) (held : Beside) (out out' : Datagrams) (log : EntryList) → tells ≡ told → count ≡ before → Says (to_host host message) result
    out out' → ((kept : Kept) → told ≡ Some kept → step kept ≡ says (server_of held kept) host message) → Takes step result told tells before count
    held held out out' log log
unfolding says
takes-answered host message (Ok Done) step told tells before count held out out' log stays same said is = (
  λ kept e.
      subst
      (λ s. (s.outcome ≡ outcome_of Done) × Makes s tells held out out' log log)
      (sym (is kept e))
      (refl, record { keeps = stays ∙ e; holds = refl; sends = said; enters = sym (append-nil _) }),
  same,
)
takes-answered host message (Ok (Dropped reason)) step told tells before count held out out' log stays same said is =
    absurd said
takes-answered host message (Err Failed) step told tells before count held out out' log stays same said is = absurd said
takes-answered host message (Err Memory) step told tells before count held out out' log stays same said is =
    (stays, same, refl, record { first = said.0; datagrams = said.1; entries = refl })

-- LOOKUP and GETATTR, by the row of the file
pub look-up-says : (s : Server) (who : Who) (xid : ℕ) (found : Option File) → look_up s who xid found ≡ says s who.host
    (reply xid (looked_up who (row_of_found found)))
look-up-says s who xid None = refl
look-up-says s who xid (Some file) = refl

pub get-attr-says : (s : Server) (who : Who) (xid : ℕ) (found : Option File) → get_attr s who xid found ≡ says s who.host
    (reply xid (attributes who (row_of_found found)))
get-attr-says s who xid None = refl
get-attr-says s who xid (Some file) = refl

-- ---- datagrams that are no requests

-- one packet is sent, and nothing else is done
pub does-answered : (host : ℕ) (message : Message) (result : Result EventTaken KeepFault) (step : ServerStep) (held : Beside) (kept : Kept)
    (out out' : Datagrams) (log : EntryList) → Says (to_host host message) result out out' → step ≡ says (server_of held kept) host message
    → Does step result held held out out' log log
unfolding says
does-answered host message (Ok Done) step held kept out out' log said is =
    subst
    (λ s. Does s (Ok Done) held held out out' log log)
    (sym is)
    (refl, record { holds = refl; sends = said; enters = sym (append-nil _) })
does-answered host message (Ok (Dropped reason)) step held kept out out' log said is = absurd said
does-answered host message (Err Failed) step held kept out out' log said is = absurd said
does-answered host message (Err Memory) step held kept out out' log said is =
    (refl, record { first = said.0; datagrams = said.1; entries = refl })

-- a datagram is dropped
pub does-dropped : (reason : Reason) (step : ServerStep) (held : Beside) (kept : Kept) (out : Datagrams) (log : EntryList)
    → step ≡ drops (server_of held kept) (cause_of reason) → Does step (Ok (Dropped reason)) held held out out log log
unfolding drops
does-dropped reason step held kept out log is =
    subst
    (λ s. Does s (Ok (Dropped reason)) held held out out log log)
    (sym is)
    (refl, record { holds = refl; sends = record { first = refl; added = sym (append-nil _); fit = All-nil FitsPacket }; enters = sym (append-nil _) })

pub is-no-request : (i : Incoming) → ((xid : ℕ) (r : Request) → i ≡ Incoming.Request xid r → ⊥) → IsNoRequest i
is-no-request (Incoming.Request xid r) other = other xid r refl
is-no-request other h = tt

-- none changes what is kept
pub other-keeps : (s : Server) (sender next : ℕ) (i : Incoming) → IsNoRequest i → (receive s sender next (told i)).server.kept ≡ s.kept
unfolding says drops
other-keeps s sender next Incoming.TooLong h = refl
other-keeps s sender next (Incoming.NoMessage fault) h = refl
other-keeps s sender next Incoming.NoCall h = refl
other-keeps s sender next (Incoming.OtherRpc xid) h = refl
other-keeps s sender next (Incoming.OtherProgram xid) h = refl
other-keeps s sender next (Incoming.OtherVersion xid) h = refl
other-keeps s sender next (Incoming.UnknownProcedure xid) h = refl
other-keeps s sender next Incoming.GarbageVacated h = refl
other-keeps s sender next (Incoming.Garbage xid) h = refl
other-keeps s sender next (Incoming.Request xid r) h = absurd h
