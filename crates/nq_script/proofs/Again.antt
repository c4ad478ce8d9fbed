-- What is spelled is read again.
use Rattle.std.proofs.Common.{◌≡◌, ℕ, ◌<◌, ◌^◌, true, List, [], ◌∷◌, ◌++◌, map, Some, refl, codes, append_assoc, arith}
use Rattle.std.specs.Fmt.{decimal}
use Rattle.std.specs.List.{AllByRecursion}
use Rattle.std.proofs.lemmas.Bool.{eq-eqb}
use Rattle.std.proofs.lemmas.List.Elements.{recursion_from_All}
use Rattle.nq_base.specs.Name.{IsName}
use Rattle.nq_base.specs.Plain.{plain_said}
use Rattle.nq_base.specs.declared.Said.{Said}
use Rattle.nq_base.specs.declared.Span.{Span}
use Rattle.nq_base.specs.declared.Tag.{Tag}
use Rattle.nq_base.specs.declared.Told.{Told}
use Rattle.nq_base.specs.declared.Who.{Who}
use Rattle.nq_script.specs.Forms.{told_words, span_word, said_words, FitsWho, FitsTold, FitsSpan, FitsSaid, HasTold, SpellsTold}
use Rattle.nq_script.specs.WordsReading.{u64_at, u32_at, name_at, who_at, place_at, tag_at, words_of}
use Rattle.nq_script.specs.ReadingAnswers.{span_of, spans_of, said_at, ok_at, value_at, by_at, lost_at, bare_at, bare_of}
use Rattle.nq_script.specs.ReadingCalls.{told_at, verb_of, create_at, lookup_at, attr_at, read_at, fetch_at, write_at, put_at, sync_at, resize_at}
use Rattle.nq_script.specs.ReadingCalls.{remove_at, has_told, told_in}
use Rattle.nq_script.proofs.Clean.{told_apart}
use Rattle.nq_script.proofs.LineWords.{cut_again}
use Rattle.nq_script.proofs.Names.{name_again}
use Rattle.nq_script.proofs.Numerals.{u64_again, u32_again, free_digits}

-- fields

pub take_u64 : (n : ℕ) (words : List (List ℕ)) → n < 2 ^ 64 → u64_at (decimal n ∷ words) ≡ Some (n, words)
unfolding u64_at
take_u64 n words small = let read = u64_again n small in rw read refl

pub take_u32 : (n : ℕ) (words : List (List ℕ)) → n < 2 ^ 32 → u32_at (decimal n ∷ words) ≡ Some (n, words)
unfolding u32_at
take_u32 n words small = let read = u32_again n small in rw read refl

pub take_name : (name : List ℕ) (words : List (List ℕ)) → IsName name → name_at (name ∷ words) ≡ Some (name, words)
unfolding name_at
take_name name words is = let read = name_again name is in rw read refl

pub take_who : (who : Who) (words : List (List ℕ)) → FitsWho who → who_at (decimal who.host ∷ decimal who.inc ∷ words) ≡ Some (who, words)
unfolding who_at
take_who who words fits =
    rw (take_u32 who.host (decimal who.inc ∷ words) fits.0, take_u32 who.inc words fits.1) refl

pub take_place : (file block : ℕ) (words : List (List ℕ)) → file < 2 ^ 32 → block < 2 ^ 32 → place_at (decimal file ∷ decimal block ∷ words)
    ≡ Some ((file, block), words)
unfolding place_at
take_place file block words f b = rw (take_u32 file (decimal block ∷ words) f, take_u32 block words b) refl

pub take_tag : (tag : Tag) (words : List (List ℕ)) → tag.boot < 2 ^ 32 → tag.number < 2 ^ 64 → tag_at (decimal tag.boot ∷ decimal tag.number ∷ words)
    ≡ Some (tag, words)
unfolding tag_at
take_tag tag words b n = rw (take_u32 tag.boot (decimal tag.number ∷ words) b, take_u64 tag.number words n) refl

-- calls

pub told_again : (told : Told) → FitsTold told → told_at (told_words told) ≡ Some (told, [])
unfolding told_at verb_of create_at lookup_at attr_at read_at fetch_at write_at put_at sync_at resize_at remove_at
told_again (Told.Create name blocks) fits = rw (take_name name (decimal blocks ∷ []) fits.0, take_u32 blocks [] fits.1) refl
told_again (Told.Lookup name) fits = rw (take_name name [] fits) refl
told_again (Told.Attr file) fits = rw (take_u32 file [] fits) refl
told_again (Told.Read file block) fits = rw (take_place file block [] fits.0 fits.1) refl
told_again (Told.Fetch file block) fits = rw (take_place file block [] fits.0 fits.1) refl
told_again (Told.Write file block value) fits =
    rw (take_place file block (decimal value ∷ []) fits.0 fits.1, take_u32 value [] fits.2) refl
told_again (Told.Put file block value) fits =
    rw (take_place file block (decimal value ∷ []) fits.0 fits.1, take_u32 value [] fits.2) refl
told_again (Told.Sync file) fits = rw (take_u32 file [] fits) refl
told_again (Told.Resize file blocks) fits = rw (take_u32 file (decimal blocks ∷ []) fits.0, take_u32 blocks [] fits.1) refl
told_again (Told.Remove file) fits = rw (take_u32 file [] fits) refl

-- answers

pub span_again : (span : Span) → FitsSpan span → span_of (span_word span) ≡ Some span
unfolding span_of span_word
span_again span fits =
    let block = decimal span.block in
    let first = decimal span.first in
    let last = decimal span.last in
    let grouped : block ++ codes ":" ++ first ++ codes "-" ++ last ≡ block ++ 58 ∷ (first ++ 45 ∷ last) = simp append_assoc in
    let outer = cut_again 58 block (first ++ 45 ∷ last) (free_digits 58 span.block refl (omega (arith, fits.0))) in
    let inner = cut_again 45 first last (free_digits 45 span.first refl fits.1) in
    let b = u32_again span.block fits.0 in
    let f = u64_again span.first fits.1 in
    let l = u64_again span.last fits.2 in
    rw (grouped, outer, inner, b, f, l) refl

pub spans_again : (spans : List Span) → AllByRecursion FitsSpan spans → spans_of (map span_word spans) ≡ Some spans
unfolding spans_of
spans_again [] fit = refl
spans_again (span ∷ spans) fit =
    let first = span_again span fit.0 in
    let rest = spans_again spans fit.1 in
    rw (first, rest) refl

pub said_again : (said : Said) → FitsSaid said → said_at (said_words said) ≡ Some (plain_said said, [])
unfolding said_at ok_at value_at by_at lost_at bare_at bare_of
said_again Said.Ok fits = refl
said_again (Said.OkValue value) fits = rw (take_u32 value [] fits) refl
said_again (Said.OkBy value packet) fits =
    rw (take_u32 value (codes "by" ∷ decimal packet ∷ []) fits.0, take_u64 packet [] fits.1) refl
said_again (Said.Lost spans) fits =
    let read = spans_again spans.items (recursion_from_All FitsSpan spans.items fits) in rw read refl
said_again Said.Busy fits = refl
said_again Said.Stale fits = refl
said_again Said.NoEntry fits = refl
said_again Said.Exists fits = refl
said_again Said.NoSpace fits = refl
said_again Said.Range fits = refl
said_again Said.DirtyFull fits = refl

-- versions

pub has_told_again : (version : ℕ) (told : Told) → HasTold version told → has_told version told ≡ true
has_told_again version (Told.Resize file blocks) is = eq-eqb version 2 is
has_told_again version (Told.Remove file) is = eq-eqb version 2 is
has_told_again version (Told.Create name blocks) is = refl
has_told_again version (Told.Lookup name) is = refl
has_told_again version (Told.Attr file) is = refl
has_told_again version (Told.Read file block) is = refl
has_told_again version (Told.Fetch file block) is = refl
has_told_again version (Told.Write file block value) is = refl
has_told_again version (Told.Put file block value) is = refl
has_told_again version (Told.Sync file) is = refl

-- the call that a text spells is read
pub told_spelled : (version : ℕ) (told : Told) (text : List ℕ) → SpellsTold version told text → told_in version (words_of text) ≡ Some told
unfolding told_in
told_spelled version told text s =
    let test = has_told_again version told s.0 in
    rw (s.2, told_apart told s.1, told_again told s.1, test) refl
