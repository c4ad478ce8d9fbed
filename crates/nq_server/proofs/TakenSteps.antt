-- Steps that are made after something was read.
use Rattle.std.proofs.Common.{◌≡◌, ◌⊎◌, ℕ, Option, Some, Result, Ok, Err, refl, sym, subst, ◌∙◌, append-nil}
use Rattle.std.proofs.lemmas.List.Elements.{All-nil}
use Rattle.nq_datagrams.specs.Sent.{FitsPacket}
use Rattle.nq_io.specs.Faults.{Rose}
use Rattle.nq_base.specs.Entries.{EntryList}
use Rattle.nq_keeper.specs.Keeping.{StaysOrEnds}
use Rattle.nq_model.specs.protocol.Kept.{Kept}
use Rattle.nq_model.specs.protocol.Server.{ServerStep, drops}
use Rattle.nq_keeper.specs.declared.KeepFault.{KeepFault}
use Rattle.nq_keeper.specs.declared.KeepFault.TheVariants.{Failed, Memory}
use Rattle.nq_server.specs.declared.received.Reason.{Reason}
use Rattle.nq_server.specs.declared.received.EventTaken.{EventTaken}
use Rattle.nq_server.specs.declared.received.EventTaken.TheVariants.{Dropped}
use Rattle.nq_server.specs.State.{Beside, server_of}
use Rattle.nq_server.specs.Stepping.{Takes, Makes, cause_of, outcome_of}
use Rattle.nq_wire.specs.Outbox.{Datagrams}

-- the same step, told in other words, after what is kept was read
pub takes-after : (step base : Kept → ServerStep) (result : Result EventTaken KeepFault) (told between tells : Option Kept) (before middle count : ℕ)
    (held after : Beside) (out out' : Datagrams) (log log' : EntryList) → between ≡ told → middle ≡ before → ((kept : Kept) → told ≡ Some kept
    → step kept ≡ base kept) → Takes base result between tells middle count held after out out' log log' → Takes step result told tells before count
    held after out out' log log'
takes-after step base (Ok how) told between tells before middle count held after out out' log log' stays same is h = (
  λ kept e.
      subst
      (λ s. (s.outcome ≡ outcome_of how) × Makes s tells after out out' log log')
      (sym (is kept e))
      (h.0 kept (stays ∙ e)),
  h.1 ∙ same,
)
takes-after step base (Err Memory) told between tells before middle count held after out out' log log' stays same is h =
    (h.0 ∙ stays, h.1 ∙ same, h.2, h.3)
takes-after step base (Err Failed) told between tells before middle count held after out out' log log' stays same is h =
    (subst (λ o. StaysOrEnds o tells) stays h.0, subst (λ n. Rose n count) same h.1, h.2, h.3)

-- a datagram is dropped, after what is kept was read
pub takes-dropped : (reason : Reason) (step : Kept → ServerStep) (told tells : Option Kept) (before count : ℕ) (held : Beside) (out : Datagrams)
    (log : EntryList) → tells ≡ told → count ≡ before → ((kept : Kept) → told ≡ Some kept → step kept ≡ drops (server_of held kept) (cause_of reason))
    → Takes step (Ok (Dropped reason)) told tells before count held held out out log log
unfolding drops
takes-dropped reason step told tells before count held out log stays same is = (
  λ kept e.
      subst
      (λ s. (s.outcome ≡ outcome_of (Dropped reason)) × Makes s tells held out out log log)
      (sym (is kept e)) (
        refl,
        record {
          keeps = stays ∙ e;
          holds = refl;
          sends = record { first = refl; added = sym (append-nil _); fit = All-nil FitsPacket };
          enters =
              sym (append-nil _);
        },
      ),
  same,
)

-- a stop leaves what it leaves of the same step in other words
pub leaves-as : (found : Option Kept) (kept : Kept) (base step : ServerStep) → step ≡ base → (found ≡ Some kept) ⊎ (found ≡ Some base.server.kept)
    → (found ≡ Some kept) ⊎ (found ≡ Some step.server.kept)
leaves-as found kept base step is h = subst (λ s. (found ≡ Some kept) ⊎ (found ≡ Some s.server.kept)) (sym is) h
