-- What is so of each loss at its place in a journal, and that it stays so in a longer one.
use Rattle.std.proofs.Common.{◌≡◌, ◌⊎◌, ℕ, true, List, [], ◌∷◌, ◌++◌, Option, Some, None, is_some, refl, sym, subst, ap, ◌∙◌, inl, inr}
use Rattle.nq_base.specs.declared.Entry.{Entry}
use Rattle.nq_base.specs.declared.Entry.TheVariants.{C, L, A}
use Rattle.nq_base.specs.declared.Loss.{Loss}
use Rattle.nq_base.specs.declared.Said.TheVariants.{Lost}
use Rattle.nq_base.specs.declared.Span.{Span}
use Rattle.nq_base.specs.declared.Told.{Told}
use Rattle.nq_base.specs.declared.Who.{Who}
use Rattle.nq_model.proofs.Lists.{exists-map, each-map, each-append}
use Rattle.law_runs.proofs.Tallies.{IsOne}
use Rattle.nq_model.specs.laws.Journal.{Each, Exists, AtEachPlace, call_of, SpeaksOf}
use Rattle.nq_model.specs.laws.Reported.{loss_told, Names, IsReporting, IsBusyAnswer, MustReport, IsNamedNext, IsReportedIn, IsUnnamed, NameLosses}
use Rattle.nq_model.specs.laws.Reported.{IsReportedAt, IsReported}

-- the entry is no C on the file by the incarnation that has to report losses
abbrev pub IsExcused : (whole : List Entry) (who : Who) (file : ℕ) → Entry → Type 0
IsExcused whole who file (C by q told) = by ≡ who → IsReporting file told → Exists (IsBusyAnswer who q) whole
IsExcused whole who file other = Unit {0}

-- going on from an L, an A names it before a C has to, or just after the first C that has to
abbrev pub IsNamedIn : (whole : List Entry) (who : Who) (loss : Loss) → List Entry → Type 0
IsNamedIn whole who loss [] = ⊥
IsNamedIn whole who loss (entry ∷ after) =
    Names whole who loss entry ⊎ (IsNamedNext whole who loss entry after ⊎ (IsExcused whole who loss.file entry × IsNamedIn whole who loss after))

-- each L is named, or no C had to report it yet and, where its incarnation is the running one, it waits to be named; and an
-- A names losses for the first time
abbrev pub IsToldAt : (whole : List Entry) (who : Who) (losses : List Loss) (after : List Entry) → Entry → (before : List Entry) → Type 0
IsToldAt whole who losses after (L by file block first last) before =
    IsNamedIn whole by (loss_told file block first last) after
    ⊎ (Each (IsExcused whole by file) after × (by ≡ who → IsOne losses (loss_told file block first last)))
IsToldAt whole who losses after (A by q (Lost spans)) before = NameLosses whole before by (call_of whole by q) spans.items
IsToldAt whole who losses after other before = Unit {0}

-- the call of an A has its C
abbrev pub IsCalled : (whole : List Entry) → Entry → Type 0
IsCalled whole (A by q said) = is_some (call_of whole by q) ≡ true
IsCalled whole other = Unit {0}

-- ---- a longer journal

pub record Grows (old new : List Entry) : Type 0 where
  pub calls : (who : Who) (q : ℕ) → is_some (call_of old who q) ≡ true → call_of new who q ≡ call_of old who q
  pub busy : (who : Who) (q : ℕ) → Exists (IsBusyAnswer who q) old → Exists (IsBusyAnswer who q) new

kept-call : (e : Entry) (old : List Entry) (who : Who) (q : ℕ) (o : Option Told) → call_of old who q ≡ o → is_some o ≡ true → call_of (e ∷ old) who q ≡ o
kept-call e old who q None is some = absurd (cc)
kept-call e old who q (Some told) is some = rw is refl

pub grows-one : (e : Entry) (old : List Entry) → Grows old (e ∷ old)
grows-one e old = record {
  calls = λ who q some. kept-call e old who q (call_of old who q) refl some;
  busy = λ who q h. inr h;
}

pub grows-again : (a b c : List Entry) → Grows a b → Grows b c → Grows a c
grows-again a b c g h = record {
  calls = λ who q some. h.calls who q (ap is_some (g.calls who q some) ∙ some) ∙ g.calls who q some;
  busy = λ who q x. h.busy who q (g.busy who q x);
}

pub grows-same : (j : List Entry) → Grows j j
grows-same j = record { calls = λ who q some. refl; busy = λ who q h. h }

pub grows : (more old : List Entry) → Grows old (more ++ old)
grows [] old = grows-same old
grows (e ∷ more) old = grows-again old (more ++ old) (e ∷ (more ++ old)) (grows more old) (grows-one e (more ++ old))

pub speaks-some : (file : ℕ) (o : Option Told) → SpeaksOf file o → is_some o ≡ true
speaks-some file None h = absurd h
speaks-some file (Some told) h = refl

pub called-more : {old new : List Entry} → Grows old new → (e : Entry) → IsCalled old e → IsCalled new e
called-more g (A by q said) h = ap is_some (g.calls by q h) ∙ h
called-more g other h = tt

pub names-more : {old new : List Entry} → Grows old new → (who : Who) (loss : Loss) (e : Entry) → Names old who loss e → Names new who loss e
names-more {old = old} g who loss (A by q (Lost spans)) h =
    (h.0, subst (λ o. SpeaksOf loss.file o) (sym (g.calls by q (speaks-some loss.file (call_of old by q) h.1))) h.1, h.2)
names-more g who loss other h = absurd h

pub names-back : {old new : List Entry} → Grows old new → (who : Who) (loss : Loss) (e : Entry) → IsCalled old e → Names new who loss e → Names old who loss e
names-back g who loss (A by q (Lost spans)) called h = (h.0, subst (λ o. SpeaksOf loss.file o) (g.calls by q called) h.1, h.2)
names-back g who loss other called h = absurd h

pub some-names-back : {old new : List Entry} → Grows old new → (who : Who) (loss : Loss) (xs : List Entry) → Each (IsCalled old) xs
    → Exists (Names new who loss) xs → Exists (Names old who loss) xs
some-names-back g who loss [] called h = h
some-names-back g who loss (e ∷ xs) called (inl h) = inl (names-back g who loss e called.0 h)
some-names-back g who loss (e ∷ xs) called (inr h) = inr (some-names-back g who loss xs called.1 h)

excused-more : {old new : List Entry} → Grows old new → (who : Who) (file : ℕ) (e : Entry) → IsExcused old who file e → IsExcused new who file e
excused-more g who file (C by q told) h = λ same reports. g.busy who q (h same reports)
excused-more g who file other h = tt

next-more : {old new : List Entry} → Grows old new → (who : Who) (loss : Loss) (e : Entry) (after more : List Entry) → IsNamedNext old who loss e after
    → IsNamedNext new who loss e (after ++ more)
next-more g who loss (C by q told) (next ∷ after) more h = (h.0, names-more g who loss next h.1)
next-more g who loss e after more h = absurd h

pub named-more : {old new : List Entry} → Grows old new → (who : Who) (loss : Loss) (after more : List Entry) → IsNamedIn old who loss after
    → IsNamedIn new who loss (after ++ more)
named-more g who loss [] more h = absurd h
named-more g who loss (e ∷ after) more (inl h) = inl (names-more g who loss e h)
named-more g who loss (e ∷ after) more (inr (inl h)) = inr (inl (next-more g who loss e after more h))
named-more g who loss (e ∷ after) more (inr (inr h)) = inr (inr (excused-more g who loss.file e h.0, named-more g who loss after more h.1))

named-after : (whole : List Entry) (who : Who) (loss : Loss) (after more : List Entry) → Each (IsExcused whole who loss.file) after
    → IsNamedIn whole who loss more → IsNamedIn whole who loss (after ++ more)
named-after whole who loss [] more excused h = h
named-after whole who loss (e ∷ after) more excused h = inr (inr (excused.0, named-after whole who loss after more excused.1 h))

unnamed-more : {old new : List Entry} → Grows old new → (before : List Entry) → Each (IsCalled old) before → (who : Who) (call other : Option Told)
    → other ≡ call → (span : Span) (e : Entry) → IsUnnamed old before who call span e → IsUnnamed new before who other span e
unnamed-more g before called who call other same span (L by file block first last) h =
    (h.0, subst (λ o. SpeaksOf file o) (sym same) h.1, h.2, λ n. h.3 (some-names-back g who (loss_told file block first last) before called n))
unnamed-more g before called who call other same span e h = absurd h

pub names-new-more : {old new : List Entry} → Grows old new → (before : List Entry) → Each (IsCalled old) before
    → (who : Who) (call other : Option Told) → other ≡ call → (spans : List Span) → NameLosses old before who call spans
    → NameLosses new before who other spans
names-new-more g before called who call other same [] h = tt
names-new-more {old = old} {new = new} g before called who call other same (span ∷ spans) h = (
  exists-map (IsUnnamed old before who call span) (IsUnnamed new before who other span) before
      (λ e u. unnamed-more g before called who call other same span e u) h.0,
  h.1,
  names-new-more g before called who call other same spans h.2,
)

-- ---- further entries after each place

-- of what more entries do to a loss that no A named: one of them names it, or none has to and it waits as before
abbrev pub GoesOn : (whole : List Entry) (who : Who) (losses fewer : List Loss) (more : List Entry) → Type 0
GoesOn whole who losses fewer more =
    (by : Who) (loss : Loss) → (by ≡ who → IsOne losses loss)
    → IsNamedIn whole by loss more ⊎ (Each (IsExcused whole by loss.file) more × (by ≡ who → IsOne fewer loss))

pub at-more : (F G : List Entry → Entry → List Entry → Type 0) (X : Entry → Type 0) (more : List Entry)
    → ((after : List Entry) (e : Entry) (before : List Entry) → X e → Each X before → F after e before → G (after ++ more) e before)
    → (after xs : List Entry) → Each X xs → AtEachPlace F after xs → AtEachPlace G (after ++ more) xs
at-more F G X more step after [] all h = tt
at-more F G X more step after (e ∷ xs) all h = (step after e xs all.0 all.1 h.0, at-more F G X more step (e ∷ after) xs all.1 h.1)

told-at-more : {old new : List Entry} (who : Who) (losses fewer : List Loss) (more : List Entry) → Grows old new → GoesOn new who losses fewer more
    → (after : List Entry) (e : Entry) (before : List Entry) → IsCalled old e → Each (IsCalled old) before → IsToldAt old who losses after e before
    → IsToldAt new who fewer (after ++ more) e before
told-at-more who losses fewer more g goes after (L by file block first last) before called all (inl h) =
    inl (named-more g by (loss_told file block first last) after more h)
told-at-more {old = old} {new = new} who losses fewer more g goes after (L by file block first last) before called all (inr h) = step
    (goes by (loss_told file block first last) h.1)
  where
    excused : Each (IsExcused new by file) after
    excused = each-map (IsExcused old by file) (IsExcused new by file) after (λ e x. excused-more g by file e x) h.0

    step : IsNamedIn new by (loss_told file block first last) more
        ⊎ (Each (IsExcused new by file) more × (by ≡ who → IsOne fewer (loss_told file block first last)))
        → IsToldAt new who fewer (after ++ more) (L by file block first last) before
    step (inl n) = inl (named-after new by (loss_told file block first last) after more excused n)
    step (inr k) = inr (each-append (IsExcused new by file) after more excused k.0, k.1)
told-at-more {old = old} {new = new} who losses fewer more g goes after (A by q (Lost spans)) before called all h =
    names-new-more g before all by (call_of old by q) (call_of new by q) (g.calls by q called) spans.items h
told-at-more who losses fewer more g goes after other before called all h = tt

pub told-more : {old new : List Entry} (who : Who) (losses fewer : List Loss) (more : List Entry) → Grows old new → GoesOn new who losses fewer more
    → Each (IsCalled old) old → AtEachPlace (IsToldAt old who losses) [] old → AtEachPlace (IsToldAt new who fewer) more old
told-more {old = old} {new = new} who losses fewer more g goes called h =
    at-more (IsToldAt old who losses) (IsToldAt new who fewer) (IsCalled old) more (told-at-more who losses fewer more g goes) [] old called h

-- ---- what follows: a loss is reported

excused-not : (whole : List Entry) (who : Who) (file : ℕ) (e : Entry) → IsExcused whole who file e → MustReport whole who file e → ⊥
excused-not whole who file (C by q told) h must = must.2 (h must.0 must.1)
excused-not whole who file other h must = must

names-not : (whole : List Entry) (who : Who) (loss : Loss) (file : ℕ) (e : Entry) → Names whole who loss e → MustReport whole who file e → ⊥
names-not whole who loss file (A by q said) h must = must
names-not whole who loss file (C by q told) h must = h
names-not whole who loss file other h must = must

names-reported : (whole : List Entry) (who : Who) (loss : Loss) (e : Entry) (after : List Entry) → Names whole who loss e
    → IsReportedIn whole who loss (e ∷ after)
names-reported whole who loss e after h = (λ must. absurd (names-not whole who loss loss.file e h must), λ not_must unnamed. absurd (unnamed h))

next-reported : (whole : List Entry) (who : Who) (loss : Loss) (e : Entry) (after : List Entry) → IsNamedNext whole who loss e after
    → IsReportedIn whole who loss after
next-reported whole who loss (C by q told) (next ∷ after) h = names-reported whole who loss next after h.1
next-reported whole who loss e after h = absurd h

named-reported : (whole : List Entry) (who : Who) (loss : Loss) (after : List Entry) → IsNamedIn whole who loss after → IsReportedIn whole who loss after
named-reported whole who loss [] h = tt
named-reported whole who loss (e ∷ after) (inl h) = names-reported whole who loss e after h
named-reported whole who loss (e ∷ after) (inr (inl h)) = (λ must. h, λ not_must unnamed. next-reported whole who loss e after h)
named-reported whole who loss (e ∷ after) (inr (inr h)) =
    (λ must. absurd (excused-not whole who loss.file e h.0 must), λ not_must unnamed. named-reported whole who loss after h.1)

excused-reported : (whole : List Entry) (who : Who) (loss : Loss) (after : List Entry) → Each (IsExcused whole who loss.file) after
    → IsReportedIn whole who loss after
excused-reported whole who loss [] h = tt
excused-reported whole who loss (e ∷ after) h =
    (λ must. absurd (excused-not whole who loss.file e h.0 must), λ not_must unnamed. excused-reported whole who loss after h.1)

told-reported : (whole : List Entry) (who : Who) (losses : List Loss) (after : List Entry) (e : Entry) (before : List Entry)
    → IsToldAt whole who losses after e before → IsReportedAt whole after e before
told-reported whole who losses after (L by file block first last) before (inl h) = named-reported whole by (loss_told file block first last) after h
told-reported whole who losses after (L by file block first last) before (inr h) = excused-reported whole by (loss_told file block first last) after h.0
told-reported whole who losses after (A by q (Lost spans)) before h = h
told-reported whole who losses after other before h = tt

at-each : (F G : List Entry → Entry → List Entry → Type 0)
    → ((after : List Entry) (e : Entry) (before : List Entry) → F after e before → G after e before) → (after xs : List Entry) → AtEachPlace F after xs
    → AtEachPlace G after xs
at-each F G step after [] h = tt
at-each F G step after (e ∷ xs) h = (step after e xs h.0, at-each F G step (e ∷ after) xs h.1)

pub all-reported : (whole : List Entry) (who : Who) (losses : List Loss) → AtEachPlace (IsToldAt whole who losses) [] whole → IsReported whole
all-reported whole who losses h = at-each (IsToldAt whole who losses) (IsReportedAt whole) (told-reported whole who losses) [] whole h
