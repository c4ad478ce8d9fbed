-- What follows of journals that account for their delayed writes.
use Rattle.std.proofs.Common.{◌⊎◌, List, [], ◌∷◌}
use mathlib.Core.Logic.{inl, inr}
use Rattle.nq_base.specs.declared.Entry.{Entry}
use Rattle.nq_base.specs.declared.Entry.TheVariants.{W, S, L, B}
use Rattle.nq_model.proofs.Lists.{each-of, each-map, exists-map}
use Rattle.nq_model.proofs.Telling.{no, tells_same}
use Rattle.nq_model.specs.laws.Tests.{Tells}
use Rattle.nq_model.specs.laws.Journal.{Each, Exists, AtMostOne, Throughout, Covers, Stores, Loses, IsStored, IsLost}
use Rattle.nq_model.specs.laws.Fate.{Restarts, IsFirstToCover, IsAccountedAt, CoversOnce, StoredOrLost}
use Rattle.nq_model.specs.laws.FateTest.{restarts}

-- two facts of each element together
both_of_each : {X : Type 0} (P Q : X → Type 0) (xs : List X) → Each P xs → Each Q xs → Each (λ x. P x × Q x) xs
both_of_each P Q [] p q = tt
both_of_each P Q (x ∷ xs) p q = ((p.0, q.0), both_of_each P Q xs p.1 q.1)

-- an entry of a journal that accounts for its writes is the first to cover each write of the journal
first_to_cover : (whole : List Entry) (entry : Entry) (before : List Entry) → IsAccountedAt whole entry before → Each (IsFirstToCover before entry) whole
first_to_cover whole (S who file block first last now) before h = h
first_to_cover whole (L who file block first last) before h = h.0
first_to_cover whole other before h = each-of _ whole (λ write covers. absurd covers)

-- each write of the whole journal is covered by one entry at most of what stands before a place
covered_once : (whole journal : List Entry) → Throughout (IsAccountedAt whole) journal → Each (λ write. AtMostOne (λ entry. Covers entry write) journal) whole
covered_once whole [] h = each-of _ whole (λ write. tt)
covered_once whole (entry ∷ before) h =
    both_of_each
    (IsFirstToCover before entry)
    (λ write. AtMostOne (λ other. Covers other write) before)
    whole
    (first_to_cover whole entry before h.0)
    (covered_once whole before h.1)

pub covers_once : CoversOnce
covers_once journal h = covered_once journal journal h

stores_covers : (entry write : Entry) → Stores entry write → Covers entry write
stores_covers (S who file block first last now) write h = h
stores_covers entry write h = absurd h

loses_covers : (entry write : Entry) → Loses entry write → Covers entry write
loses_covers (L who file block first last) write h = h
loses_covers entry write h = absurd h

covers_by : (entry write : Entry) → Covers entry write → Stores entry write ⊎ Loses entry write
covers_by (S who file block first last now) write h = inl h
covers_by (L who file block first last) write h = inr h
covers_by entry write h = absurd h

-- a covered write is stored or lost
pub covered_by : (write : Entry) (journal : List Entry) → Exists (λ entry. Covers entry write) journal → IsStored journal write ⊎ IsLost journal write
covered_by write [] h = absurd h
covered_by write (entry ∷ before) (inl h) = here (covers_by entry write h)
  where
    here : Stores entry write ⊎ Loses entry write → IsStored (entry ∷ before) write ⊎ IsLost (entry ∷ before) write
    here (inl s) = inl (inl s)
    here (inr l) = inr (inl l)
covered_by write (entry ∷ before) (inr h) = there (covered_by write before h)
  where
    there : IsStored before write ⊎ IsLost before write → IsStored (entry ∷ before) write ⊎ IsLost (entry ∷ before) write
    there (inl s) = inl (inr s)
    there (inr l) = inr (inr l)

stores_or_loses : (entry write : Entry) → Stores entry write → Loses entry write → ⊥
stores_or_loses (S who file block first last now) write s l = l
stores_or_loses entry write s l = s

not_both : (write : Entry) (journal : List Entry) → AtMostOne (λ entry. Covers entry write) journal → IsStored journal write → ¬ IsLost journal write
not_both write [] one stored lost = lost
not_both write (entry ∷ before) one (inl stores) (inl loses) = stores_or_loses entry write stores loses
not_both write (entry ∷ before) one (inl stores) (inr lost) = one.0 (stores_covers entry write stores)
    (exists-map _ _ before (λ other. loses_covers other write) lost)
not_both write (entry ∷ before) one (inr stored) (inl loses) = one.0 (loses_covers entry write loses)
    (exists-map _ _ before (λ other. stores_covers other write) stored)
not_both write (entry ∷ before) one (inr stored) (inr lost) = not_both write before one.1 stored lost

pub stored_or_lost : StoredOrLost
stored_or_lost journal h = each-map _ _ journal (λ write. not_both write journal) (covers_once journal h)

-- ---- tests of fates

pub tells_restarts : (entry write : Entry) → Tells (restarts entry write) (Restarts entry write)
tells_restarts (B started) (W who file block number value through) = tells_same
tells_restarts entry other = no
