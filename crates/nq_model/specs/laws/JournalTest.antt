-- The tests of facts of entries and of their places: each is true exactly where its fact holds.
use Rattle.std.specs.Prelude.{◌+◌, ℕ, List, [], ◌∷◌, Option, Some, None, Bool, true, false, not, ◌&&◌, ◌||◌, ◌==◌, nat_le, if◌then◌else◌}
use Rattle.nq_base.specs.declared.Entry.{Entry}
use Rattle.nq_base.specs.declared.Entry.TheVariants.{C, W, R, S, L, A}
use Rattle.nq_base.specs.declared.Said.TheVariants.{OkBy}
use Rattle.nq_base.specs.declared.Told.{Told}
use Rattle.nq_base.specs.declared.Told.TheVariants.{Read, Fetch, Write, Put, Attr, Sync, Resize, Remove}
use Rattle.nq_base.specs.declared.Who.{Who}
use Rattle.nq_model.specs.protocol.Table.{same_who}

abbrev pub each : {X : Type 0} → (X → Bool) → List X → Bool
each test [] = true
each test (x ∷ xs) = test x && each test xs

abbrev pub exists : {X : Type 0} → (X → Bool) → List X → Bool
exists test [] = false
exists test (x ∷ xs) = test x || exists test xs

abbrev pub number_of : {X : Type 0} → (X → Bool) → List X → ℕ
number_of test [] = 0
number_of test (x ∷ xs) = if test x then 1 + number_of test xs else number_of test xs

abbrev pub at_most_one : {X : Type 0} → (X → Bool) → List X → Bool
at_most_one test xs = nat_le (number_of test xs) 1

abbrev pub throughout : (Entry → List Entry → Bool) → List Entry → Bool
throughout test [] = true
throughout test (entry ∷ before) = test entry before && throughout test before

abbrev pub somewhere : (Entry → List Entry → Bool) → List Entry → Bool
somewhere test [] = false
somewhere test (entry ∷ before) = test entry before || somewhere test before

abbrev pub at_each_place : (List Entry → Entry → List Entry → Bool) → (after : List Entry) → List Entry → Bool
at_each_place test after [] = true
at_each_place test after (entry ∷ before) = test after entry before && at_each_place test (entry ∷ after) before

abbrev pub is_call : (who : Who) (q : ℕ) → Entry → Bool
is_call who q (C by n told) = same_who by who && (n == q)
is_call who q other = false

abbrev pub is_answer : (who : Who) (q : ℕ) → Entry → Bool
is_answer who q (A by n said) = same_who by who && (n == q)
is_answer who q other = false

abbrev pub is_open : (before : List Entry) (who : Who) (q : ℕ) → Bool
is_open before who q = exists (is_call who q) before && not (exists (is_answer who q) before)

abbrev pub speaks_of : (file : ℕ) → Option Told → Bool
speaks_of file (Some (Attr f)) = f == file
speaks_of file (Some (Read f block)) = f == file
speaks_of file (Some (Fetch f block)) = f == file
speaks_of file (Some (Write f block value)) = f == file
speaks_of file (Some (Put f block value)) = f == file
speaks_of file (Some (Sync f)) = f == file
speaks_of file (Some (Resize f blocks)) = f == file
speaks_of file (Some (Remove f)) = f == file
speaks_of file other = false

abbrev pub is_read_by : (who : Who) (q : ℕ) → Entry → Bool
is_read_by who q (R by n file block value served) = same_who by who && (n == q)
is_read_by who q other = false

abbrev pub is_answer_by : (who : Who) (q packet : ℕ) → Entry → Bool
is_answer_by who q packet (A by n (OkBy value k)) = same_who by who && (n == q) && (k == packet)
is_answer_by who q packet other = false

abbrev pub is_counted : (whole : List Entry) → Entry → Bool
is_counted whole (R who q file block value None) = true
is_counted whole (R who q file block value (Some packet)) = exists (is_answer_by who q packet) whole
is_counted whole other = false

abbrev pub is_write_on : (file block : ℕ) → Entry → Bool
is_write_on file block (W who f b number value through) = (f == file) && (b == block)
is_write_on file block other = false

abbrev pub is_write_by : (who : Who) → Entry → Bool
is_write_by who (W by file block number value through) = same_who by who
is_write_by who other = false

abbrev pub is_through : Entry → Bool
is_through (W who file block number value true) = true
is_through other = false

abbrev pub is_within : (who : Who) (file block first last : ℕ) → Entry → Bool
is_within who file block first last (W by f b number value false) = same_who by who && (f == file) && (b == block) && nat_le first number && nat_le number last
is_within who file block first last other = false

abbrev pub covers : Entry → (write : Entry) → Bool
covers (S who file block first last now) write = is_within who file block first last write
covers (L who file block first last) write = is_within who file block first last write
covers other write = false

abbrev pub store_covers : Entry → (write : Entry) → Bool
store_covers (S who file block first last now) write = is_within who file block first last write
store_covers other write = false

abbrev pub loss_covers : Entry → (write : Entry) → Bool
loss_covers (L who file block first last) write = is_within who file block first last write
loss_covers other write = false

abbrev pub is_stored : (entries : List Entry) (write : Entry) → Bool
is_stored entries write = exists (λ entry. store_covers entry write) entries

abbrev pub is_lost : (entries : List Entry) (write : Entry) → Bool
is_lost entries write = exists (λ entry. loss_covers entry write) entries
