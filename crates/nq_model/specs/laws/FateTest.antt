-- The tests of journals that account for their delayed writes: each is true exactly where its fact holds.
use Rattle.std.specs.Prelude.{◌==◌, List, Bool, true, false, not, ◌&&◌, ◌||◌}
use Rattle.nq_base.specs.declared.Entry.{Entry}
use Rattle.nq_base.specs.declared.Entry.TheVariants.{W, S, L, B}
use Rattle.nq_model.specs.laws.JournalTest.{each, exists, throughout, covers}

abbrev pub restarts : Entry → Entry → Bool
restarts (B started) (W who file block number value through) = started.host == who.host
restarts entry other = false

abbrev pub is_delayed : Entry → Bool
is_delayed (W who file block number value false) = true
is_delayed other = false

abbrev pub is_ended : (whole after : List Entry) (write : Entry) → Bool
is_ended whole after write =
    is_delayed write && not (exists (λ entry. covers entry write) whole) && exists (λ entry. restarts entry write) after

abbrev pub is_waiting : (whole after : List Entry) (write : Entry) → Bool
is_waiting whole after write =
    is_delayed write && not (exists (λ entry. covers entry write) whole) && not (exists (λ entry. restarts entry write) after)

abbrev pub is_first_to_cover : (before : List Entry) (entry write : Entry) → Bool
is_first_to_cover before entry write = not (covers entry write) || not (exists (λ other. covers other write) before)

abbrev pub is_accounted_at : (whole : List Entry) → Entry → (before : List Entry) → Bool
is_accounted_at whole (S who file block first last now) before = each (is_first_to_cover before (S who file block first last now)) whole
is_accounted_at whole (L who file block first last) before =
    each (is_first_to_cover before (L who file block first last)) whole && exists (covers (L who file block first last)) whole
is_accounted_at whole other before = true

abbrev pub is_accounted : (journal : List Entry) → Bool
is_accounted journal = throughout (is_accounted_at journal) journal
