-- How an event was taken, as those who sent it are told.
use Rattle.std.proofs.Common.{◌≡◌, ◌≤◌, ◌+◌, ℕ, ◌++◌, Option, Result, Ok, Err, sym, ap, subst, ◌∙◌}
use Rattle.std.specs.Prelude.{reverse}
use Rattle.nq_base.specs.Entries.{EntryList}
use Rattle.nq_model.specs.protocol.Kept.{Kept}
use Rattle.nq_model.specs.protocol.Server.{ServerStep}
use Rattle.nq_keeper.specs.declared.KeepFault.{KeepFault}
use Rattle.nq_keeper.specs.declared.KeepFault.TheVariants.{Failed, Memory}
use Rattle.nq_server.specs.declared.received.Received.{Received}
use Rattle.nq_server.specs.declared.received.EventTaken.{EventTaken}
use Rattle.nq_server.specs.declared.received.EventTaken.TheVariants.{Done, Dropped}
use Rattle.nq_server.specs.Holding.{Holding, IsTaken}
use Rattle.nq_server.specs.declared.state.State.{State}
use Rattle.nq_server.specs.Sound.{IsSoundAfter, StaysSound}
use Rattle.nq_server.specs.State.{Beside, beside_of}
use Rattle.nq_server.specs.Stepping.{Takes, done_of, halted_of}
use Rattle.nq_wire.specs.Outbox.{Datagrams}

module _ {K : Type 0} (step : Kept → ServerStep) (told tells : Option Kept) (before count : ℕ) (old new : Holding K) (out out' : Datagrams)
    (log log' : EntryList) where
  -- it was taken in
  pub is-taken : (how : EventTaken) → new.taken ≡ old.taken + 1 → Takes step (Ok how) told tells before count old.beside new.beside out out' log log'
      → IsTaken step (done_of how) told tells before count old new out out' log log'
  is-taken Done counted h =
      (λ kept e. let m = h.0 kept e in record { outcome = m.0; makes = m.1 }, h.1, counted)
  is-taken (Dropped reason) counted h =
      (λ kept e. let m = h.0 kept e in record { outcome = m.0; makes = m.1 }, h.1, counted)

  -- or it was not
  pub is-not-taken : (why : KeepFault) → new.taken ≡ old.taken → Takes step (Err why) told tells before count old.beside new.beside out out' log log'
      → IsTaken step (halted_of why) told tells before count old new out out' log log'
  is-not-taken Failed same h =
      (h.0, h.1, record { untouched = record { beside = h.2; taken = same }; silent = h.3 })
  is-not-taken Memory same h =
      (h.0, h.1, record { untouched = record { beside = h.2; taken = same }; silent = h.3 })

-- what held of the server holds where nothing was taken in
pub still-sound : (taken : ℕ) (s after : State) (why : KeepFault) (step : Kept → ServerStep) (told tells : Option Kept) (before count : ℕ)
    (out out' : Datagrams) (log log' : EntryList) → IsSoundAfter taken s → StaysSound s after → Takes step (Err why) told tells before count
    (beside_of s) (beside_of after) out out' log log' → IsSoundAfter taken after
still-sound taken s after Failed step told tells before count out out' log log' sound stays h =
    record { sound = stays.sound; drawn = subst (λ (b : Beside). b.table.drawn ≤ taken) (sym h.2) sound.drawn; few = sound.few }
still-sound taken s after Memory step told tells before count out out' log log' sound stays h =
    record { sound = stays.sound; drawn = subst (λ (b : Beside). b.table.drawn ≤ taken) (sym h.2) sound.drawn; few = sound.few }

-- the journal had room made in it first
pub relog : (step : Kept → ServerStep) (r : Result EventTaken KeepFault) (told tells : Option Kept) (before count : ℕ) (held after : Beside)
    (out out' : Datagrams) (log room log' : EntryList) → room.entries ≡ log.entries → Takes step r told tells before count held after out out' room
    log' → Takes step r told tells before count held after out out' log log'
relog step (Ok how) told tells before count held after out out' log room log' same h = (
  λ kept e.
      let m = h.0 kept e in
      (m.0, record { keeps = m.1.keeps; holds = m.1.holds; sends = m.1.sends; enters = m.1.enters ∙ ap (λ x. x ++ reverse (step kept).entries) same }),
  h.1,
)
relog step (Err Failed) told tells before count held after out out' log room log' same h =
    (h.0, h.1, h.2, record { first = h.3.first; datagrams = h.3.datagrams; entries = h.3.entries ∙ same })
relog step (Err Memory) told tells before count held after out out' log room log' same h =
    (h.0, h.1, h.2, record { first = h.3.first; datagrams = h.3.datagrams; entries = h.3.entries ∙ same })

module _ {K : Type 0} (step : Kept → ServerStep) (told tells : Option Kept) (before count : ℕ) (old new : Holding K) (out out' : Datagrams)
    (log log' : EntryList) (answer : Received) where
  -- so it is said
  pub is-said-taken : (how : EventTaken) → answer ≡ done_of how → new.taken ≡ old.taken + 1 → Takes step (Ok how) told tells before count old.beside
      new.beside out out' log log' → IsTaken step answer told tells before count old new out out' log log'
  is-said-taken how said counted h =
      subst (λ r. IsTaken step r told tells before count old new out out' log log') (sym said) (is-taken step told tells before count old new out out'
      log log' how counted h)

  pub is-said-not-taken : (why : KeepFault) → answer ≡ halted_of why → new.taken ≡ old.taken → Takes step (Err why) told tells before count old.beside
      new.beside out out' log log' → IsTaken step answer told tells before count old new out out' log log'
  is-said-not-taken why said same h =
      subst (λ r. IsTaken step r told tells before count old new out out' log log') (sym said) (is-not-taken step told tells before count old new out
      out' log log' why same h)
