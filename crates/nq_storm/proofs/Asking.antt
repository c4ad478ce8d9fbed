-- How often a fate is asked.
use Rattle.std.proofs.Common.{List, Option, ◌≡◌, ℕ, ◌+◌, ◌<◌, refl, ◌∙◌, ap, sym, arith, add-one, inl, inr}
use Rattle.nq_base.specs.declared.ending.ending.Ending.{Ending}
use Rattle.nq_io.specs.Faults.{count_up}
use Rattle.nq_replay.specs.Schedules.{TellsStop}
use Rattle.nq_storm.specs.Asking.{AsksFew, AsksFor, AsksForNext, AsksOnce, AsksWanted}
use Rattle.nq_storm.specs.declared.stormed.Stormed.{Stormed}
use Rattle.nq_storm.specs.Rules.{asked_for}
use Rattle.nq_world.specs.declared.Limit.{Limit}
use Rattle.nq_world.specs.declared.Stepped.{Stepped}

-- once more
pub once_more : (events before then now : ℕ) → then ≡ asked_for events before → now ≡ count_up then → now ≡ asked_for (events + 1) before
once_more events before then now here more = more ∙ ap count_up here ∙ sym (ap (λ n. asked_for n before) (add-one events))

not_done : (ended : Stormed) (events before now : ℕ) → (ended ≡ Stormed.Done → ⊥) → AsksForNext events before now → AsksOnce ended events before now
not_done Stormed.Done events before now other asks = absurd (other refl)
not_done (Stormed.Limit limit) events before now other asks = asks
not_done Stormed.Fault events before now other asks = asks
not_done Stormed.Memory events before now other asks = asks

-- where a storm ended early, the fate may have been asked for the next event
pub cut_short : (ended : Stormed) (events before then now : ℕ) → (ended ≡ Stormed.Done → ⊥) → then ≡ asked_for events before → AsksForNext 0 then now
    → AsksOnce ended events before now
cut_short ended events before then now other here (inl same) = not_done ended events before now other (inl (same ∙ here))
cut_short ended events before then now other here (inr more) = not_done ended events before now other (inr (once_more events before then now here more))

few : (events wanted before now : ℕ) → events < wanted → AsksForNext events before now → AsksFew wanted before now
few events wanted before now early (inl asked) = record { events = events; few = omega arith; asked = asked }
few events wanted before now early (inr asked) = record { events = events + 1; few = omega arith; asked = asked }

-- of a storm that was to have so many events
pub asks_wanted : (ended : Stormed) (events wanted before now : ℕ) → AsksOnce ended events before now → ((ended ≡ Stormed.Done → ⊥) → events < wanted)
    → (ended ≡ Stormed.Done → events ≡ wanted) → AsksWanted ended wanted before now
asks_wanted Stormed.Done events wanted before now asks early whole = asks ∙ ap (λ n. asked_for n before) (whole refl)
asks_wanted (Stormed.Limit limit) events wanted before now asks early whole = few events wanted before now (early (λ is. absurd (cc))) asks
asks_wanted Stormed.Fault events wanted before now asks early whole = few events wanted before now (early (λ is. absurd (cc))) asks
asks_wanted Stormed.Memory events wanted before now asks early whole = few events wanted before now (early (λ is. absurd (cc))) asks

-- where a storm had all its events, whatever came of printing it
pub asks_all : (end : Ending) (wanted before now : ℕ) → now ≡ asked_for wanted before → AsksFor end wanted before now
asks_all Ending.Done wanted before now asked = asked
asks_all Ending.WriteFault wanted before now asked = asked
asks_all other wanted before now asked = record { events = wanted; few = omega arith; asked = asked }

-- where it had not, and that was told
pub asks_few : (end : Ending) (limit : Limit) (wanted before now : ℕ) (held held' : Option (List ℕ)) (w w' : ℕ)
    → TellsStop end 0 (Stepped.Limit limit) held held' w w' → AsksFew wanted before now → AsksFor end wanted before now
asks_few Ending.Memory limit wanted before now held held' w w' tells asks = asks
asks_few Ending.Limit limit wanted before now held held' w w' tells asks = asks
asks_few other limit wanted before now held held' w w' tells asks = absurd tells

-- where it did not begin
pub asks_none : (wanted before now : ℕ) → now ≡ before → AsksFew wanted before now
asks_none wanted before now same = record { events = 0; few = omega arith; asked = same }
