-- The words of an entry are words: no blank and no line feed is in them.
use Rattle.std.proofs.Common.{ℕ, ◌<◌, ◌^◌, Bool, true, false, Option, Some, None, refl, codes, inl, inr}
use Rattle.std.proofs.lemmas.Bool.Decides.{eqb_tells}
use Rattle.nq_base.specs.declared.Entry.{Entry}
use Rattle.nq_base.specs.declared.Mode.{Mode}
use Rattle.nq_script.proofs.Clean.{AreWords, literal, small, of_told, of_said}
use Rattle.nq_script.proofs.LineWords.{IsWord}
use Rattle.nq_script.proofs.Numerals.{word_decimal}
use Rattle.nq_journal.specs.Text.{mode_word, way_word, source_words, longest_words, entry_words, FitsSource, Fits}

of_mode : (mode : Mode) → IsWord (mode_word mode)
of_mode Mode.NonCaching = literal (codes "noncaching") refl
of_mode Mode.Reading = literal (codes "reading") refl
of_mode Mode.Writing = literal (codes "writing") refl

of_way : (way : Bool) → IsWord (way_word way)
of_way false = literal (codes "delayed") refl
of_way true = literal (codes "through") refl

of_source : (source : Option ℕ) → FitsSource source → AreWords (source_words source)
of_source None fits = (literal (codes "cached") refl, tt)
of_source (Some packet) fits = (literal (codes "served") refl, (word_decimal packet fits, tt))

of_longest : (version longest : ℕ) → longest < 2 ^ 32 → AreWords (longest_words version longest)
of_longest version longest fits = elim (eqb_tells version 2) [
  | inl two ↦ rw two.0 (small longest fits, tt)
  | inr other ↦ rw other.0 tt
]

-- the words of an entry are words
pub of_entry : (version : ℕ) (entry : Entry) → Fits entry → AreWords (entry_words version entry)
of_entry version (Entry.C who q told) fits =
    (literal (codes "C") refl, (small who.host fits.0.0, (small who.inc fits.0.1, (word_decimal q fits.1, of_told told fits.2))))
of_entry version (Entry.W who file block number value through) fits = (
  literal (codes "W") refl,
  (
    small who.host fits.0.0,
    (small who.inc fits.0.1, (small file fits.1, (small block fits.2, (word_decimal number fits.3, (small value fits.4, (of_way through, tt)))))),
  ),
)
of_entry version (Entry.R who q file block value served) fits = (
  literal (codes "R") refl,
  (
    small who.host fits.0.0,
    (small who.inc fits.0.1, (word_decimal q fits.1, (small file fits.2, (small block fits.3, (small value fits.4, of_source served fits.5))))),
  ),
)
of_entry version (Entry.S who file block first last now) fits = (
  literal (codes "S") refl,
  (
    small who.host fits.0.0,
    (
      small who.inc fits.0.1,
      (
        small file fits.1,
        (small block fits.2, (word_decimal first fits.3, (word_decimal last fits.4, (word_decimal now fits.5, tt)))),
      ),
    ),
  ),
)
of_entry version (Entry.L who file block first last) fits = (
  literal (codes "L") refl,
  (
    small who.host fits.0.0,
    (small who.inc fits.0.1, (small file fits.1, (small block fits.2, (word_decimal first fits.3, (word_decimal last fits.4, tt))))),
  ),
)
of_entry version (Entry.G who file mode tag term now) fits = (
  literal (codes "G") refl,
  (
    small who.host fits.0.0,
    (
      small who.inc fits.0.1,
      (
        small file fits.1,
        (of_mode mode, (small tag.boot fits.2, (word_decimal tag.number fits.3, (small term fits.4, (word_decimal now fits.5, tt))))),
      ),
    ),
  ),
)
of_entry version (Entry.F who file until heard now) fits = (
  literal (codes "F") refl,
  (
    small who.host fits.0.0,
    (small who.inc fits.0.1, (small file fits.1, (word_decimal until fits.2, (word_decimal heard fits.3, (word_decimal now fits.4, tt))))),
  ),
)
of_entry version (Entry.O boot until heard now) fits =
    (literal (codes "O") refl, (small boot fits.0, (word_decimal until fits.1, (word_decimal heard fits.2, (word_decimal now fits.3, tt)))))
of_entry version (Entry.B who) fits =
    (literal (codes "B") refl, (small who.host fits.0, (small who.inc fits.1, tt)))
of_entry version (Entry.X boot now longest) fits =
    (literal (codes "X") refl, (small boot fits.0, (word_decimal now fits.1, of_longest version longest fits.2)))
of_entry version (Entry.Z who q file from to) fits = (
  literal (codes "Z") refl,
  (
    small who.host fits.0.0,
    (small who.inc fits.0.1, (word_decimal q fits.1, (small file fits.2, (small from fits.3, (small to fits.4, tt))))),
  ),
)
of_entry version (Entry.A who q said) fits =
    (literal (codes "A") refl, (small who.host fits.0.0, (small who.inc fits.0.1, (word_decimal q fits.1, of_said said fits.2))))
