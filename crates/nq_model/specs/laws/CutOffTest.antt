-- The tests of losses that are excused: each is true exactly where its fact holds.
use Rattle.std.specs.Prelude.{◌+◌, ℕ, List, [], ◌∷◌, Option, Some, None, Bool, true, false, not, ◌&&◌, ◌||◌, ◌==◌, nat_le}
use Rattle.nq_base.specs.declared.Entry.{Entry}
use Rattle.nq_base.specs.declared.Entry.TheVariants.{S, L, F, O, X}
use Rattle.nq_base.specs.declared.Who.{Who}
use Rattle.nq_model.specs.protocol.Profile.{skew, write_slack}
use Rattle.nq_model.specs.laws.JournalTest.{each, exists, at_each_place, loss_covers}
use Rattle.nq_model.specs.protocol.Table.{same_who}
use Rattle.nq_model.specs.laws.CutOff.{Given, last_grant}

abbrev pub is_store_over : (who : Who) (file now : ℕ) → Entry → Bool
is_store_over who file now (S by f block first last time) = not (same_who by who) || (not (f == file) || nat_le (time + write_slack) now)
is_store_over who file now other = true

abbrev pub has_passed : (now : ℕ) → Option Given → Bool
has_passed now None = false
has_passed now (Some grant) = nat_le (grant.time + grant.term + skew + write_slack) now

abbrev pub is_late_end : (before : List Entry) (who : Who) (file until heard now : ℕ) → Bool
is_late_end before who file until heard now =
    nat_le (heard + write_slack) now && nat_le (until + write_slack) now && has_passed now (last_grant before who file)
    && each (is_store_over who file now) before

abbrev pub is_long_wait : (boot now : ℕ) → Option Given → Entry → Bool
is_long_wait boot now (Some grant) (X b time longest) = (b == boot) && nat_le grant.term longest && nat_le (time + longest + skew + write_slack) now
is_long_wait boot now grant other = false

abbrev pub is_late_opening : (before : List Entry) (who : Who) (file boot now : ℕ) → Bool
is_late_opening before who file boot now =
    exists (is_long_wait boot now (last_grant before who file)) before && each (is_store_over who file now) before

abbrev pub ends : (who : Who) (file : ℕ) → Entry → (before : List Entry) → Bool
ends who file (F by f until heard now) before = same_who by who && (f == file) && is_late_end before who file until heard now
ends who file (O boot until heard now) before = is_late_opening before who file boot now
ends who file other before = false

abbrev pub ends_first : (loss : Entry) (who : Who) (file : ℕ) → List Entry → Bool
ends_first loss who file [] = false
ends_first loss who file (entry ∷ before) = ends who file entry before || not (loss_covers loss entry) && ends_first loss who file before

abbrev pub is_cut_off : (after : List Entry) → Entry → (before : List Entry) → Bool
is_cut_off after (L who file block first last) before =
    ends_first (L who file block first last) who file before && not (exists (loss_covers (L who file block first last)) after)
is_cut_off after other before = true

abbrev pub is_excused : (journal : List Entry) → Bool
is_excused journal = at_each_place is_cut_off [] journal
