-- A journal is printed as it is compared: the room in its entries does not show.
use Rattle.std.proofs.Common.{◌≡◌, ℕ, List, [], ◌∷◌, map, refl, ap}
use Rattle.std.specs.List.{flat_map}
use Rattle.nq_base.specs.Plain.{plain, plain_said}
use Rattle.nq_base.specs.declared.Entry.{Entry}
use Rattle.nq_base.specs.declared.Said.{Said}
use Rattle.nq_script.specs.Forms.{said_words}
use Rattle.nq_journal.specs.Text.{entry_line, journal_text, of_who}
use Rattle.nq_script.specs.Words.{line}
use Rattle.std.specs.Fmt.{decimal}
use Rattle.std.specs.Prelude.{codes}

same_said : (said : Said) → said_words (plain_said said) ≡ said_words said
same_said Said.Ok = refl
same_said (Said.OkValue value) = refl
same_said (Said.OkBy value packet) = refl
same_said (Said.Lost spans) = refl
same_said Said.Busy = refl
same_said Said.Stale = refl
same_said Said.NoEntry = refl
same_said Said.Exists = refl
same_said Said.NoSpace = refl
same_said Said.Range = refl
same_said Said.DirtyFull = refl

same_line : (version : ℕ) (entry : Entry) → entry_line version (plain entry) ≡ entry_line version entry
unfolding entry_line
same_line version (Entry.A who q said) = ap (λ words. line (of_who (codes "A") who (decimal q ∷ words))) (same_said said)
same_line version (Entry.C who q told) = refl
same_line version (Entry.W who file block number value through) = refl
same_line version (Entry.R who q file block value served) = refl
same_line version (Entry.S who file block first last now) = refl
same_line version (Entry.L who file block first last) = refl
same_line version (Entry.G who file mode tag term now) = refl
same_line version (Entry.F who file until heard now) = refl
same_line version (Entry.O boot until heard now) = refl
same_line version (Entry.B who) = refl
same_line version (Entry.X boot now longest) = refl
same_line version (Entry.Z who q file from to) = refl

same_lines : (version : ℕ) (entries : List Entry) → flat_map (entry_line version) (map plain entries) ≡ flat_map (entry_line version) entries
same_lines version [] = refl
same_lines version (entry ∷ entries) = rw (same_line version entry, same_lines version entries) refl

pub plain_text : (version : ℕ) (entries plainly : List Entry) → map plain entries ≡ plainly → journal_text version entries ≡ journal_text version plainly
unfolding journal_text
plain_text version entries plainly is = rw (← is, same_lines version entries) refl
