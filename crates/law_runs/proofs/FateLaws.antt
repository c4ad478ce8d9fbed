-- The laws: in every run the journal accounts for its delayed writes, and those that wait are unsaved at their client.
use Rattle.std.proofs.Common.{◌⊎◌, ℕ, Bool, true, false, List, [], ◌∷◌, refl, sym, subst, inl, inr}
use Rattle.nq_base.specs.declared.Entry.{Entry}
use Rattle.nq_base.specs.declared.Entry.TheVariants.{W}
use Rattle.walk_files.proofs.JournalMoves.{accounts, covers-write}
use Rattle.law_runs.proofs.WorldWrites.{WritesAt, Writes, writes-fit}
use Rattle.law_runs.proofs.RunningWrites.{Runs, IsOfRunning, writes-run}
use Rattle.nq_base.specs.declared.Who.{Who}
use Rattle.nq_model.proofs.Accounts.{covered_by, tells_restarts}
use Rattle.nq_model.proofs.JournalTests.{tells_exists, tells_covers}
use Rattle.nq_model.proofs.Telling.{not_told}
use Rattle.nq_model.specs.laws.Fate.{IsDelayed, Restarts}
use Rattle.nq_model.specs.laws.FateTest.{restarts}
use Rattle.nq_model.specs.laws.Tests.{Tells}
use Rattle.walk_files.proofs.WritesFit.{CoversNumber, LiesWithin, in_list, under_way}
use Rattle.nq_model.specs.laws.WritesAreAccounted.{AccountedInEveryRun, Encloses, UnderWayEncloses, StillHas, IsDelayedBy, WaitingAreUnsavedInEveryRun}
use Rattle.nq_model.specs.laws.WritesAreAccounted.{IsAtItsClient, HasFate, EachHasItsFateInEveryRun}
use Rattle.nq_model.specs.protocol.Client.{Client}
use Rattle.nq_model.specs.laws.Journal.{Exists, AtEachPlace, Covers, IsStored, IsLost}
use Rattle.nq_model.specs.laws.JournalTest.{exists, covers}
use Rattle.nq_model.specs.protocol.World.{World, run}
use Rattle.walk_steps.proofs.Members.{in-exists, each-in}
use Rattle.walk_steps.proofs.Packets.{In}

pub accounted : AccountedInEveryRun
accounted most head events b within = accounts (run head events).journal (writes-fit most head events b within).journal

-- ---- writes that wait

module _ (host : ℕ) (c : Client) (w : World) (h : WritesAt host c w) where
  lies : (file block n value : ℕ) → LiesWithin c.dirty c.push file block n → StillHas c (W c.who file block n value false)
  lies file block n value (in_list p i f b above below) = inl (in-exists (λ q. Encloses q (W c.who file block n value false)) c.dirty p i (f, b, above, below))
  lies file block n value (under_way p is f b above below) =
      inr (subst (λ o. UnderWayEncloses o (W c.who file block n value false)) (sym is) (f, b, above, below))

  waits : (file block n value : ℕ) → (Exists (λ e. Covers e (W c.who file block n value false)) w.journal → ⊥)
      → CoversNumber w.journal c.who file block n ⊎ LiesWithin c.dirty c.push file block n → StillHas c (W c.who file block n value false)
  waits file block n value uncovered (inl covered) = absurd (uncovered (covers-write w.journal c.who file block n 0 value covered))
  waits file block n value uncovered (inr l) = lies file block n value l

  unsaved : (write : Entry) → In w.journal write → IsDelayedBy c.who write → (Exists (λ e. Covers e write) w.journal → ⊥) → StillHas c write
  unsaved (W by file block n value false) i same uncovered =
      subst (λ v. (Exists (λ e. Covers e (W v file block n value false)) w.journal → ⊥) → StillHas c (W v file block n value false)) (sym same)
      (λ none. waits file block n value none (h.list.unsaved file block n value (subst (λ v. In w.journal (W v file block n value false)) same i)))
      uncovered
  unsaved other i by uncovered = absurd by

pub waiting : WaitingAreUnsavedInEveryRun
waiting most head events b within =
    λ host c is. each-in _ (run head events).journal
    (λ write i by uncovered. unsaved host c (run head events) ((writes-fit most head events b within).clients host c is) write i by uncovered)

-- ---- the fate of each write

-- a fact that a test tells holds or does not
told-or-not : (b : Bool) {P : Type 0} → Tells b P → P ⊎ (P → ⊥)
told-or-not true t = inl (t.sound refl)
told-or-not false t = inr (not_told t refl)

module _ (w : World) (h : Writes w) where
  -- a write that waits is unsaved at the client of its incarnation
  at-client : (who : Who) (file block n value : ℕ) → In w.journal (W who file block n value false)
      → (Exists (λ e. Covers e (W who file block n value false)) w.journal → ⊥) → Runs w.clients who → IsAtItsClient w who (W who file block n value false)
  at-client who file block n value i uncovered r = record {
    client = r.client;
    runs = r.there;
    same = r.same;
    unsaved = unsaved who.host r.client w (h.clients who.host r.client r.there) (W who file block n value false) i (sym r.same) uncovered;
  }

  module _ (who : Who) (file block n value : ℕ) (after before : List Entry) (i : In w.journal (W who file block n value false))
      (running : IsOfRunning w.clients after (W who file block n value false) before) where
    abbrev write : Entry
    write = W who file block n value false

    by-restart : (Exists (λ e. Covers e write) w.journal → ⊥) → Exists (λ e. Restarts e write) after ⊎ (Exists (λ e. Restarts e write) after → ⊥)
        → HasFate w after write
    by-restart uncovered (inl again) = inr (inl (inr (record { delayed = tt; uncovered = uncovered; restarted = again })))
    by-restart uncovered (inr none) =
        inr (inr (record { delayed = tt; uncovered = uncovered; running = none }, at-client who file block n value i uncovered (running none)))

    by-cover : Exists (λ e. Covers e write) w.journal ⊎ (Exists (λ e. Covers e write) w.journal → ⊥) → HasFate w after write
    by-cover (inl covered) = case (covered_by write w.journal covered)
      where
        case : IsStored w.journal write ⊎ IsLost w.journal write → HasFate w after write
        case (inl stored) = inl stored
        case (inr lost) = inr (inl (inl lost))
    by-cover (inr uncovered) = by-restart uncovered (told-or-not (exists (λ e. restarts e write) after) (tells_exists (λ e. tells_restarts e write) after))

    fate : HasFate w after write
    fate = by-cover (told-or-not (exists (λ e. covers e write) w.journal) (tells_exists (λ e. tells_covers e write) w.journal))

  fate-at : (after : List Entry) (write : Entry) (before : List Entry) → In w.journal write → IsOfRunning w.clients after write before → IsDelayed write
      → HasFate w after write
  fate-at after (W who file block n value false) before i running delayed = fate who file block n value after before i running
  fate-at after other before i running delayed = absurd delayed

  each-fate-at : (after j : List Entry) → ((e : Entry) → In j e → In w.journal e) → AtEachPlace (IsOfRunning w.clients) after j
      → AtEachPlace (λ later write before. IsDelayed write → HasFate w later write) after j
  each-fate-at after [] there h = tt
  each-fate-at after (e ∷ j) there h = (fate-at after e j (there e (inl refl)) h.0, each-fate-at (e ∷ after) j (λ x i. there x (inr i)) h.1)

pub fates : EachHasItsFateInEveryRun
fates most head events b within =
    each-fate-at (run head events) (writes-fit most head events b within) [] (run head events).journal (λ e i. i) (writes-run most head events b within)
