-- A disk in memory goes on.
use Rattle.std.proofs.Common.{◌≡◌, ◌+◌, ◌≤◌, ℕ, zero, suc, drop, Bool, true, false, List, [], ◌∷◌, ◌++◌, refl, sym, ap, ◌∙◌, subst, arith, length}
use Rattle.std.specs.Prelude.{if◌then◌else◌, nat_le, Ok}
use Rattle.nq_disk.specs.MemLaws.{reads-image}
use Rattle.nq_disk.specs.MemDisk.{Event, wrote, tore, synced, Image, StoredDisk, GoesOn, Left, after_refusal, after_syncing, after_writing}

event-or-none : (b : Bool) (event : Event) (events : List Event) → (if b then events else event ∷ events) ≡ (if b then [] else event ∷ []) ++ events
event-or-none true event events = refl
event-or-none false event events = refl

pub refusal-goes-on : (place n : ℕ) (disk new : StoredDisk) → new ≡ after_refusal place n disk → disk.faults ≤ new.faults → GoesOn disk new
refusal-goes-on place n disk new is rises = record {
  more = if nat_le disk.room.calls disk.made then [] else tore place n ∷ [];
  events = ap (λ (d : StoredDisk). d.events) is ∙ event-or-none (nat_le disk.room.calls disk.made) (tore place n) disk.events;
  same = ap (λ (d : StoredDisk). d.first) is;
  rises = rises;
}

pub write-goes-on : (place : ℕ) (bytes : List ℕ) (disk new : StoredDisk) → new ≡ after_writing (Ok tt) place bytes disk → GoesOn disk new
write-goes-on place bytes disk new is = record {
  more = wrote place bytes ∷ [];
  events = ap (λ (d : StoredDisk). d.events) is;
  same = ap (λ (d : StoredDisk). d.first) is;
  rises = let same = ap (λ (d : StoredDisk). d.faults) is in omega arith;
}

pub sync-goes-on : (disk new : StoredDisk) → new ≡ after_syncing (Ok tt) disk → GoesOn disk new
sync-goes-on disk new is = record {
  more = synced ∷ [];
  events = ap (λ (d : StoredDisk). d.events) is;
  same = ap (λ (d : StoredDisk). d.first) is;
  rises = let same = ap (λ (d : StoredDisk). d.faults) is in omega arith;
}

-- a stop within a sync leaves what a stop before it might have left
pub sync-leaves : (disk new : StoredDisk) → new ≡ after_syncing (Ok tt) disk → (image : List ℕ) → Left disk new image → Image disk.first disk.events image
sync-leaves disk new is image left =
    let here = subst (λ (d : StoredDisk). Left disk d image) is left in by-events here.undone here.between here.image_then
  where
    by-events : (n : ℕ) → n + length disk.events ≤ length (synced ∷ disk.events) → Image disk.first (drop n (synced ∷ disk.events)) image
        → Image disk.first disk.events image
    by-events zero le at-end = subst (Image disk.first disk.events) (sym at-end) (reads-image disk.first disk.events)
    by-events (suc zero) le before = before
    by-events (suc (suc n)) le before = absurd (omega arith)
