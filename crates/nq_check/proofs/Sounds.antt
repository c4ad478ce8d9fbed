-- A journal is sound exactly where nothing in it is at fault.
use Rattle.std.proofs.Common.{◌≡◌, ℕ, Bool, true, false, ◌&&◌, List, [], ◌∷◌, length, Option, Some, None, refl, sym, ◌∙◌}
use Rattle.std.specs.Prelude.{if◌then◌else◌}
use Rattle.std.specs.Option.{option_or}
use Rattle.std.proofs.lemmas.Bool.{and_parts, and_from}
use Rattle.nq_base.specs.declared.Entry.{Entry}
use Rattle.nq_check.specs.declared.rules.Rule.{Rule}
use Rattle.nq_check.specs.declared.rules.Rule.TheVariants.{Legal, Ordered, Accounted, Reported, Synchronized}
use Rattle.nq_model.specs.laws.CutOffTest.{is_cut_off}
use Rattle.nq_model.specs.laws.FateTest.{is_accounted_at}
use Rattle.nq_model.specs.laws.Journal.{AtEachPlace}
use Rattle.nq_model.specs.laws.JournalTest.{at_each_place, throughout}
use Rattle.nq_model.specs.laws.LegalTest.{is_legal_at as is_legal_at_by_law}
use Rattle.nq_model.specs.laws.OrderedTest.{is_in_order}
use Rattle.nq_model.specs.laws.ReportedTest.{is_reported_at as is_reported_by_law}
use Rattle.nq_model.specs.laws.Sound.{IsSound}
use Rattle.nq_model.specs.laws.SynchronizedTest.{is_kept_at as is_kept_at_by_law}
use Rattle.nq_model.proofs.LegalTest.{tells_legal}
use Rattle.nq_model.proofs.LossTests.{tells_accounted, tells_excused, tells_reported}
use Rattle.nq_model.proofs.OrderedTest.{tells_ordered}
use Rattle.nq_model.proofs.SynchronizedTest.{tells_synchronized}
use Rattle.nq_check.proofs.Agreeing.{InOrder, Same, all_same, legal_same}
use Rattle.nq_rules.specs.Kept.{is_kept_at}
use Rattle.nq_check.specs.Legal.{is_legal_at}
use Rattle.nq_rules.specs.Named.{is_reported_at}
use Rattle.nq_check.specs.Rules.{first_rule}
use Rattle.nq_check.specs.Verdict.{fault_at, least_fault, verdict}

-- ---- facts at each place

at_each : (P Q : List Entry → Entry → List Entry → Type 0)
    → ((after : List Entry) (entry : Entry) (before : List Entry) → P after entry before → Q after entry before) → (after journal : List Entry)
    → AtEachPlace P after journal → AtEachPlace Q after journal
at_each P Q f after [] h = tt
at_each P Q f after (entry ∷ before) h = (f after entry before h.0, at_each P Q f (entry ∷ after) before h.1)

both : (P Q : List Entry → Entry → List Entry → Type 0) → (after journal : List Entry) → AtEachPlace P after journal → AtEachPlace Q after journal
    → AtEachPlace (λ a e b. P a e b × Q a e b) after journal
both P Q after [] p q = tt
both P Q after (entry ∷ before) p q = ((p.0, q.0), both P Q (entry ∷ after) before p.1 q.1)

-- a test that is true at each place
each_true : (test : List Entry → Entry → List Entry → Bool) (after journal : List Entry) → AtEachPlace (λ a e b. test a e b ≡ true) after journal
    → at_each_place test after journal ≡ true
each_true test after [] h = refl
each_true test after (entry ∷ before) h =
    and_from (test after entry before) (at_each_place test (entry ∷ after) before) h.0 (each_true test (entry ∷ after) before h.1)

each_so : (test : List Entry → Entry → List Entry → Bool) (after journal : List Entry) → at_each_place test after journal ≡ true
    → AtEachPlace (λ a e b. test a e b ≡ true) after journal
each_so test after [] h = tt
each_so test after (entry ∷ before) h =
    let p = and_parts (test after entry before) (at_each_place test (entry ∷ after) before) h in (p.0, each_so test (entry ∷ after) before p.1)

throughout_true : (test : Entry → List Entry → Bool) (after journal : List Entry) → AtEachPlace (λ a e b. test e b ≡ true) after journal
    → throughout test journal ≡ true
throughout_true test after [] h = refl
throughout_true test after (entry ∷ before) h = and_from (test entry before) (throughout test before) h.0 (throughout_true test (entry ∷ after) before h.1)

throughout_so : (test : Entry → List Entry → Bool) (after journal : List Entry) → throughout test journal ≡ true
    → AtEachPlace (λ a e b. test e b ≡ true) after journal
throughout_so test after [] h = tt
throughout_so test after (entry ∷ before) h =
    let p = and_parts (test entry before) (throughout test before) h in (p.0, throughout_so test (entry ∷ after) before p.1)

-- ---- an entry at fault under no rule

record Faultless (whole after : List Entry) (entry : Entry) (before : List Entry) : Type 0 where
  legal : is_legal_at whole entry before ≡ true
  ordered : is_in_order whole after entry before ≡ true
  accounted : is_accounted_at whole entry before ≡ true
  excused : is_cut_off after entry before ≡ true
  reported : is_reported_at whole after entry before ≡ true
  kept : is_kept_at whole entry before ≡ true

abbrev first_of_five : (a b c d e : Bool) → Option Rule
first_of_five a b c d e =
    if a then (if b then (if c then (if d then (if e then None else Some Synchronized) else Some Reported) else Some Accounted) else Some Ordered) else
    Some Legal

none_of_five : (a b c d e : Bool) → first_of_five a b c d e ≡ None → (a ≡ true) × (b ≡ true) × (c ≡ true) × (d ≡ true) × (e ≡ true)
none_of_five true true true true true h = (refl, refl, refl, refl, refl)
none_of_five true true true true false h = absurd (cc)
none_of_five true true true false e h = absurd (cc)
none_of_five true true false d e h = absurd (cc)
none_of_five true false c d e h = absurd (cc)
none_of_five false b c d e h = absurd (cc)

five_of : (whole after : List Entry) (entry : Entry) (before : List Entry)
    → first_rule whole after entry before ≡ first_of_five (is_legal_at whole entry before) (is_in_order whole after entry before)
    (is_accounted_at whole entry before) (is_cut_off after entry before && is_reported_at whole after entry before) (is_kept_at whole entry before)
unfolding first_rule
five_of whole after entry before = refl

faultless : (whole after : List Entry) (entry : Entry) (before : List Entry) → first_rule whole after entry before ≡ None → Faultless whole after entry before
faultless whole after entry before h =
    let told = is_cut_off after entry before && is_reported_at whole after entry before in
    let f = none_of_five (is_legal_at whole entry before) (is_in_order whole after entry before) (is_accounted_at whole entry before) told
    (is_kept_at whole entry before) (sym (five_of whole after entry before) ∙ h) in
    let g = and_parts (is_cut_off after entry before) (is_reported_at whole after entry before) f.3 in
    record { legal = f.0; ordered = f.1; accounted = f.2; excused = g.0; reported = g.1; kept = f.4 }

no_rule : (whole after : List Entry) (entry : Entry) (before : List Entry) → Faultless whole after entry before → first_rule whole after entry before ≡ None
no_rule whole after entry before f = five_of whole after entry before ∙ rw (f.legal, f.ordered, f.accounted, f.excused, f.reported, f.kept) refl

-- ---- the verdict

no_place : (n : ℕ) (rule : Option Rule) → fault_at n rule ≡ None → rule ≡ None
no_place n None h = refl
no_place n (Some rule) h = absurd (cc)

neither : {X : Type 0} (a b : Option X) → option_or a b ≡ None → (a ≡ None) × (b ≡ None)
neither None b h = (refl, h)
neither (Some x) b h = absurd (cc)

none_at_fault : (whole after journal : List Entry) → least_fault whole after journal ≡ None → AtEachPlace (Faultless whole) after journal
none_at_fault whole after [] h = tt
none_at_fault whole after (entry ∷ before) h =
    let n = neither (least_fault whole (entry ∷ after) before) (fault_at (length before) (first_rule whole after entry before)) h in
    (faultless whole after entry before (no_place (length before) (first_rule whole after entry before) n.1), none_at_fault whole (entry ∷ after) before n.0)

no_fault : (whole after journal : List Entry) → AtEachPlace (Faultless whole) after journal → least_fault whole after journal ≡ None
no_fault whole after [] h = refl
no_fault whole after (entry ∷ before) h = rw (no_fault whole (entry ∷ after) before h.1, no_rule whole after entry before h.0) refl

-- ---- soundness

-- each law of the definitions, as tests that are true at each place
record Lawful (journal : List Entry) : Type 0 where
  legal : AtEachPlace (λ a e b. is_legal_at_by_law journal e b ≡ true) [] journal
  ordered : AtEachPlace (InOrder journal) [] journal
  accounted : AtEachPlace (λ a e b. is_accounted_at journal e b ≡ true) [] journal
  excused : AtEachPlace (λ a e b. is_cut_off a e b ≡ true) [] journal
  reported : AtEachPlace (λ a e b. is_reported_by_law journal a e b ≡ true) [] journal
  kept : AtEachPlace (λ a e b. is_kept_at_by_law journal e b ≡ true) [] journal

lawful_sound : (journal : List Entry) → Lawful journal → IsSound journal
lawful_sound journal l = record {
  legal = (tells_legal journal).sound (throughout_true (is_legal_at_by_law journal) [] journal l.legal);
  ordered = (tells_ordered journal).sound (each_true (is_in_order journal) [] journal l.ordered);
  accounted = (tells_accounted journal).sound (throughout_true (is_accounted_at journal) [] journal l.accounted);
  excused = (tells_excused journal).sound (each_true is_cut_off [] journal l.excused);
  reported = (tells_reported journal).sound (each_true (is_reported_by_law journal) [] journal l.reported);
  synchronized = (tells_synchronized journal).sound (throughout_true (is_kept_at_by_law journal) [] journal l.kept);
}

sound_lawful : (journal : List Entry) → IsSound journal → Lawful journal
sound_lawful journal s = record {
  legal = throughout_so (is_legal_at_by_law journal) [] journal ((tells_legal journal).complete s.legal);
  ordered = each_so (is_in_order journal) [] journal ((tells_ordered journal).complete s.ordered);
  accounted = throughout_so (is_accounted_at journal) [] journal ((tells_accounted journal).complete s.accounted);
  excused = each_so is_cut_off [] journal ((tells_excused journal).complete s.excused);
  reported = each_so (is_reported_by_law journal) [] journal ((tells_reported journal).complete s.reported);
  kept = throughout_so (is_kept_at_by_law journal) [] journal ((tells_synchronized journal).complete s.synchronized);
}

from_faultless : (whole after journal : List Entry) → AtEachPlace (Faultless whole) after journal → AtEachPlace (InOrder whole) after journal
from_faultless whole = at_each (Faultless whole) (InOrder whole) (λ a e b h. h.ordered)

faultless_lawful : (journal : List Entry) → AtEachPlace (Faultless journal) [] journal → Lawful journal
faultless_lawful journal f =
    let ordered : AtEachPlace (InOrder journal) [] journal = from_faultless journal [] journal f in
    let same : AtEachPlace (Same journal) [] journal = all_same journal [] journal ordered tt in
    let both_hold = both (Faultless journal) (Same journal) [] journal f same in
    let Both : List Entry → Entry → List Entry → Type 0 = λ a e b. Faultless journal a e b × Same journal a e b in
    record {
      legal =
          at_each (Faultless journal) (λ a e b. is_legal_at_by_law journal e b ≡ true) (λ a e b h. sym (legal_same journal e b ordered) ∙ h.legal) []
          journal f;
      ordered = ordered;
      accounted = at_each (Faultless journal) (λ a e b. is_accounted_at journal e b ≡ true) (λ a e b h. h.accounted) [] journal f;
      excused = at_each (Faultless journal) (λ a e b. is_cut_off a e b ≡ true) (λ a e b h. h.excused) [] journal f;
      reported = at_each Both (λ a e b. is_reported_by_law journal a e b ≡ true) (λ a e b h. sym h.1.reported ∙ h.0.reported) [] journal both_hold;
      kept = at_each Both (λ a e b. is_kept_at_by_law journal e b ≡ true) (λ a e b h. sym h.1.kept ∙ h.0.kept) [] journal both_hold;
    }

pub sound_where_faultless : (journal : List Entry) → verdict journal ≡ None → IsSound journal
sound_where_faultless journal v = lawful_sound journal (faultless_lawful journal (none_at_fault journal [] journal v))

-- what the tests of the laws say of an entry, together
record Held (whole after : List Entry) (entry : Entry) (before : List Entry) : Type 0 where
  legal : is_legal_at_by_law whole entry before ≡ true
  ordered : is_in_order whole after entry before ≡ true
  accounted : is_accounted_at whole entry before ≡ true
  excused : is_cut_off after entry before ≡ true
  reported : is_reported_by_law whole after entry before ≡ true
  kept : is_kept_at_by_law whole entry before ≡ true

held : (whole after journal : List Entry) → AtEachPlace (λ a e b. is_legal_at_by_law whole e b ≡ true) after journal
    → AtEachPlace (InOrder whole) after journal → AtEachPlace (λ a e b. is_accounted_at whole e b ≡ true) after journal
    → AtEachPlace (λ a e b. is_cut_off a e b ≡ true) after journal → AtEachPlace (λ a e b. is_reported_by_law whole a e b ≡ true) after journal
    → AtEachPlace (λ a e b. is_kept_at_by_law whole e b ≡ true) after journal → AtEachPlace (Held whole) after journal
held whole after [] l o a x r k = tt
held whole after (entry ∷ before) l o a x r k = (
  record { legal = l.0; ordered = o.0; accounted = a.0; excused = x.0; reported = r.0; kept = k.0 },
  held whole (entry ∷ after) before l.1 o.1 a.1 x.1 r.1 k.1,
)

lawful_faultless : (journal : List Entry) → Lawful journal → AtEachPlace (Faultless journal) [] journal
lawful_faultless journal l =
    let same : AtEachPlace (Same journal) [] journal = all_same journal [] journal l.ordered tt in
    let all : AtEachPlace (Held journal) [] journal = held journal [] journal l.legal l.ordered l.accounted l.excused l.reported l.kept in
    let Both : List Entry → Entry → List Entry → Type 0 = λ a e b. Held journal a e b × Same journal a e b in
    at_each Both (Faultless journal)
    (λ a e b h. record {
      legal = legal_same journal e b l.ordered
          ∙ h.0.legal;
      ordered = h.0.ordered;
      accounted = h.0.accounted;
      excused = h.0.excused;
      reported = h.1.reported ∙ h.0.reported;
      kept = h.1.kept
          ∙ h.0.kept;
    })
    [] journal (both (Held journal) (Same journal) [] journal all same)

pub faultless_where_sound : (journal : List Entry) → IsSound journal → verdict journal ≡ None
faultless_where_sound journal s = no_fault journal [] journal (lawful_faultless journal (sound_lawful journal s))
