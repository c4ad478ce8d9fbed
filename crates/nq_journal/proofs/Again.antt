-- What is spelled is read again.
use Rattle.std.proofs.Common.{◌≡◌, ℕ, ◌<◌, ◌^◌, ◌==◌, ◌||◌, ◌⊎◌, Bool, true, false, List, [], ◌∷◌, Option, Some, None, refl, ap, sym, inl, inr}
use Rattle.std.specs.Fmt.{decimal}
use Rattle.std.proofs.lemmas.Bool.{eq-eqb}
use Rattle.std.proofs.lemmas.Bool.Decides.{eqb_tells}
use Rattle.nq_base.specs.declared.Entry.{Entry}
use Rattle.nq_base.specs.declared.Mode.{Mode}
use Rattle.nq_base.specs.Plain.{plain}
use Rattle.nq_script.specs.Forms.{told_words, said_words}
use Rattle.nq_script.proofs.Again.{take_u64, take_u32, take_who, take_place, take_tag, told_again, said_again, has_told_again}
use Rattle.nq_journal.specs.ReadingEntries.{mode_of, mode_at, way_of, way_at, source_at, longest_at, kind_of, c_at, w_at, r_at, s_at, l_at, g_at}
use Rattle.nq_journal.specs.ReadingEntries.{f_at, o_at, b_at, x_at, z_at, a_at, entry_of}
use Rattle.nq_journal.specs.Text.{mode_word, way_word, source_words, longest_words, entry_words, FitsSource, Fits, Has}

take_mode : (mode : Mode) (words : List (List ℕ)) → mode_at (mode_word mode ∷ words) ≡ Some (mode, words)
unfolding mode_at mode_of
take_mode Mode.NonCaching words = refl
take_mode Mode.Reading words = refl
take_mode Mode.Writing words = refl

take_way : (way : Bool) (words : List (List ℕ)) → way_at (way_word way ∷ words) ≡ Some (way, words)
unfolding way_at way_of
take_way false words = refl
take_way true words = refl

take_source : (source : Option ℕ) → FitsSource source → source_at (source_words source) ≡ Some (source, [])
unfolding source_at
take_source None fits = refl
take_source (Some packet) fits = rw (take_u64 packet [] fits) refl

-- entries

-- the longest term of a version, as it is read
longest_again : (version longest : ℕ) → longest < 2 ^ 32 → (version ≡ 2) ⊎ (longest ≡ 60)
    → (longest_at version (longest_words version longest) ≡ Some (longest, [])) × (((version == 2) || (longest == 60)) ≡ true)
unfolding longest_at
longest_again version longest fits (inl two) =
    let test = eq-eqb version 2 two in (rw test (take_u32 longest [] fits), rw test refl)
longest_again version longest fits (inr sixty) = elim (eqb_tells version 2) [
  | inl two ↦ (rw two.0 (take_u32 longest [] fits), rw two.0 refl)
  | inr one ↦ let test = eq-eqb longest 60 sixty in (rw one.0 (ap (λ n. Some (n, [])) (sym sixty)), rw (one.0, test) refl)
]

-- an entry is read again, with no room reserved in it
pub entry_again : (version : ℕ) (entry : Entry) → Fits entry → Has version entry → entry_of version (entry_words version entry) ≡ Some (plain entry)
unfolding entry_of kind_of c_at w_at r_at s_at l_at g_at f_at o_at b_at x_at z_at a_at
entry_again version (Entry.C who q told) fits is =
    let test = has_told_again version told is in
    rw (take_who who (decimal q ∷ told_words told) fits.0, take_u64 q (told_words told) fits.1, told_again told fits.2, test) refl
entry_again version (Entry.W who file block number value through) fits is =
    let way = way_word through ∷ [] in
    rw (
      take_who who (decimal file ∷ decimal block ∷ decimal number ∷ decimal value ∷ way) fits.0,
      take_place file block (decimal number ∷ decimal value ∷ way) fits.1 fits.2,
      take_u64 number (decimal value ∷ way) fits.3,
      take_u32 value way fits.4,
      take_way through [],
    )
    refl
entry_again version (Entry.R who q file block value served) fits is =
    let source = source_words served in
    rw (
      take_who who (decimal q ∷ decimal file ∷ decimal block ∷ decimal value ∷ source) fits.0,
      take_u64 q (decimal file ∷ decimal block ∷ decimal value ∷ source) fits.1,
      take_place file block (decimal value ∷ source) fits.2 fits.3,
      take_u32 value source fits.4,
      take_source served fits.5,
    )
    refl
entry_again version (Entry.S who file block first last now) fits is =
    rw (
      take_who who (decimal file ∷ decimal block ∷ decimal first ∷ decimal last ∷ decimal now ∷ []) fits.0,
      take_place file block (decimal first ∷ decimal last ∷ decimal now ∷ []) fits.1 fits.2,
      take_u64 first (decimal last ∷ decimal now ∷ []) fits.3,
      take_u64 last (decimal now ∷ []) fits.4,
      take_u64 now [] fits.5,
    )
    refl
entry_again version (Entry.L who file block first last) fits is =
    rw (
      take_who who (decimal file ∷ decimal block ∷ decimal first ∷ decimal last ∷ []) fits.0,
      take_place file block (decimal first ∷ decimal last ∷ []) fits.1 fits.2,
      take_u64 first (decimal last ∷ []) fits.3,
      take_u64 last [] fits.4,
    )
    refl
entry_again version (Entry.G who file mode tag term now) fits is =
    let end = decimal term ∷ decimal now ∷ [] in
    let tagged = decimal tag.boot ∷ decimal tag.number ∷ end in
    rw (
      take_who who (decimal file ∷ mode_word mode ∷ tagged) fits.0,
      take_u32 file (mode_word mode ∷ tagged) fits.1,
      take_mode mode tagged,
      take_tag tag end fits.2 fits.3,
      take_u32 term (decimal now ∷ []) fits.4,
      take_u64 now [] fits.5,
    )
    refl
entry_again version (Entry.F who file until heard now) fits is =
    rw (
      take_who who (decimal file ∷ decimal until ∷ decimal heard ∷ decimal now ∷ []) fits.0,
      take_u32 file (decimal until ∷ decimal heard ∷ decimal now ∷ []) fits.1,
      take_u64 until (decimal heard ∷ decimal now ∷ []) fits.2,
      take_u64 heard (decimal now ∷ []) fits.3,
      take_u64 now [] fits.4,
    )
    refl
entry_again version (Entry.O boot until heard now) fits is =
    rw (
      take_u32 boot (decimal until ∷ decimal heard ∷ decimal now ∷ []) fits.0,
      take_u64 until (decimal heard ∷ decimal now ∷ []) fits.1,
      take_u64 heard (decimal now ∷ []) fits.2,
      take_u64 now [] fits.3,
    )
    refl
entry_again version (Entry.B who) fits is = rw (take_who who [] fits) refl
entry_again version (Entry.X boot now longest) fits is =
    let end = longest_again version longest fits.2 is in
    rw (
      take_u32 boot (decimal now ∷ longest_words version longest) fits.0,
      take_u64 now (longest_words version longest) fits.1,
      end.0,
      end.1,
    )
    refl
entry_again version (Entry.Z who q file from to) fits is =
    let test = eq-eqb version 2 is in
    rw (
      take_who who (decimal q ∷ decimal file ∷ decimal from ∷ decimal to ∷ []) fits.0,
      take_u64 q (decimal file ∷ decimal from ∷ decimal to ∷ []) fits.1,
      take_u32 file (decimal from ∷ decimal to ∷ []) fits.2,
      take_u32 from (decimal to ∷ []) fits.3,
      take_u32 to [] fits.4,
      test,
    )
    refl
entry_again version (Entry.A who q said) fits is =
    rw (
      take_who who (decimal q ∷ said_words said) fits.0,
      take_u64 q (said_words said) fits.1,
      said_again said fits.2,
    )
    refl
