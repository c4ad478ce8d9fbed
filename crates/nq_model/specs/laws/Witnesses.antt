-- Tests of entries, by which a schedule is shown to lead to what a law speaks of.
use Rattle.std.specs.Prelude.{◌==◌, ◌&&◌, ℕ, Bool, true, false, not, List, [], ◌∷◌, Some, None, nat_le, nat_lt, if◌then◌else◌}
use Rattle.nq_base.specs.declared.Entry.{Entry}
use Rattle.nq_base.specs.declared.Entry.TheVariants.{R, S, L, F, O, X, B, Z}
use Rattle.nq_base.specs.declared.Loss.{Loss}
use Rattle.nq_base.specs.declared.Who.{Who}
use Rattle.nq_model.specs.laws.Journal.{value_written}
use Rattle.nq_model.specs.laws.JournalTest.{is_counted, is_through, is_within, is_write_on}
use Rattle.nq_model.specs.laws.Reported.{loss_told}
use Rattle.nq_model.specs.protocol.Table.{same_who}

-- whether some entry passes the first test, one before it the second, and so on
abbrev pub in_order : List (Entry → Bool) → List Entry → Bool
in_order [] journal = true
in_order (test ∷ tests) [] = false
in_order (test ∷ tests) (entry ∷ before) = if test entry then in_order tests before else in_order (test ∷ tests) before

-- whether the entry is a delayed write of an incarnation that this loss covers
abbrev pub is_lost_write : (who : Who) → Loss → Entry → Bool
is_lost_write who loss entry = is_within who loss.file loss.block loss.first loss.last entry

-- whether two losses are one
abbrev pub same_loss : (a b : Loss) → Bool
same_loss a b = (a.file == b.file) && (a.block == b.block) && (a.first == b.first) && (a.last == b.last)

-- whether the entry is an L of an incarnation that tells this loss
abbrev pub is_loss : (who : Who) → Loss → Entry → Bool
is_loss who loss (L by file block first last) = same_who by who && same_loss (loss_told file block first last) loss
is_loss who loss other = false

-- whether the entry is a delayed write of an incarnation to a block, of this number and value
abbrev pub is_delayed_write : (who : Who) (file block number value : ℕ) → Entry → Bool
is_delayed_write who file block number value entry = is_within who file block number number entry && (value_written entry == value)

-- whether the entry is an S of an incarnation that covers its delayed write of this number to a block
abbrev pub is_store : (who : Who) (file block number : ℕ) → Entry → Bool
is_store who file block number (S by f b first last now) =
    same_who by who && (f == file) && (b == block) && nat_le first number && nat_le number last
is_store who file block number other = false

-- whether the entry is an F
abbrev pub is_silence : Entry → Bool
is_silence (F who file until heard now) = true
is_silence other = false

-- whether the entry is an F of an incarnation on a file
abbrev pub is_silence_of : (who : Who) (file : ℕ) → Entry → Bool
is_silence_of who file (F by f until heard now) = same_who by who && (f == file)
is_silence_of who file other = false

-- whether the entry is an X of this boot
abbrev pub is_crash : (boot : ℕ) → Entry → Bool
is_crash boot (X b now longest) = b == boot
is_crash boot other = false

-- whether the entry is an O of this boot
abbrev pub is_opening : (boot : ℕ) → Entry → Bool
is_opening boot (O b until heard now) = b == boot
is_opening boot other = false

-- whether the entry is a B of this incarnation
abbrev pub is_start : (who : Who) → Entry → Bool
is_start who (B by) = same_who by who
is_start who other = false

-- whether the entry is a counted read of an incarnation that gives this value of a block
abbrev pub is_read : (whole : List Entry) (who : Who) (file block value : ℕ) → Entry → Bool
is_read whole who file block value (R by q f b v served) =
    same_who by who && (f == file) && (b == block) && (v == value) && is_counted whole (R by q f b v served)
is_read whole who file block value other = false

-- whether the entry is a Z that makes a file so short that it has this block no more
abbrev pub is_cut : (file block : ℕ) → Entry → Bool
is_cut file block (Z who q f from to) = (f == file) && nat_lt block from && nat_le to block
is_cut file block other = false

-- whether the entry is a Z that makes a file so long that it gets this block
abbrev pub is_growth : (file block : ℕ) → Entry → Bool
is_growth file block (Z who q f from to) = (f == file) && nat_le from block && nat_lt block to
is_growth file block other = false

-- whether the entry is a write to a block that went through and whose value is not 0
abbrev pub is_write : (file block : ℕ) → Entry → Bool
is_write file block entry = is_write_on file block entry && is_through entry && not (value_written entry == 0)

-- whether the entry is a cached read of an incarnation that gives this value of a block
abbrev pub is_cached_read : (who : Who) (file block value : ℕ) → Entry → Bool
is_cached_read who file block value (R by q f b v None) = same_who by who && (f == file) && (b == block) && (v == value)
is_cached_read who file block value other = false

-- whether the entry is a read of an incarnation that the server served, that gives this value of a block and that is
-- counted
abbrev pub is_served_read : (whole : List Entry) (who : Who) (file block value : ℕ) → Entry → Bool
is_served_read whole who file block value (R by q f b v (Some packet)) =
    same_who by who && (f == file) && (b == block) && (v == value) && is_counted whole (R by q f b v (Some packet))
is_served_read whole who file block value other = false
