-- What is so of a journal and an incarnation's calls and losses, and that further entries keep it.
use Rattle.std.proofs.Common.{◌≡◌, ◌<◌, ◌≤◌, ◌⊎◌, ℕ, ◌+◌, Bool, true, false, ◌&&◌, ◌==◌, List, [], ◌∷◌, ◌++◌, Some, None, if◌then◌else◌, refl, ap}
use Rattle.std.proofs.Common.{arith, inl, inr}
use Rattle.std.proofs.lemmas.Bool.{and_parts, and_from}
use Rattle.nq_base.specs.declared.Entry.{Entry}
use Rattle.nq_base.specs.declared.Entry.TheVariants.{C, L, A}
use Rattle.nq_base.specs.declared.Loss.{Loss}
use Rattle.nq_base.specs.declared.Told.{Told}
use Rattle.nq_base.specs.declared.Who.{Who}
use Rattle.nq_model.proofs.Lists.{exists-left, exists-right, exists-append, each-map, each-append}
use Rattle.walk_steps.proofs.Incarnations.{who-same}
use Rattle.walk_steps.proofs.Rows.{same-number, number-same}
use Rattle.nq_model.specs.laws.LossesAreReported.{IsLossOf}
use Rattle.law_runs.proofs.Tallies.{IsOne}
use Rattle.law_runs.proofs.Told.{IsToldAt, IsCalled, Grows, grows, called-more, some-names-back, GoesOn, told-more}
use Rattle.nq_model.specs.laws.Journal.{Each, Exists, AtEachPlace, call_of, told_by}
use Rattle.nq_model.specs.laws.Reported.{Names}
use Rattle.nq_model.specs.protocol.Table.{same_who}

-- ---- incarnations

pub same-who : (a b : Who) → a ≡ b → same_who a b ≡ true
same-who a b e = and_from _ _ (number-same a.host b.host (ap (λ w. w.host) e)) (number-same a.inc b.inc (ap (λ w. w.inc) e))

pub other-who : (a b : Who) → (a ≡ b → ⊥) → same_who a b ≡ false
other-who a b apart = step (same_who a b) refl
  where
    step : (t : Bool) → same_who a b ≡ t → t ≡ false
    step true e = absurd (apart (who-same a b e))
    step false e = refl

-- a C, A or L is of no later incarnation of its host
abbrev pub IsPast : Who → Entry → Type 0
IsPast who (C by q told) = by.host ≡ who.host → by.inc ≤ who.inc
IsPast who (A by q said) = by.host ≡ who.host → by.inc ≤ who.inc
IsPast who (L by file block first last) = by.host ≡ who.host → by.inc ≤ who.inc
IsPast who other = Unit {0}

-- ---- what is so

pub record Journals (who : Who) (calls : ℕ) (losses : List Loss) (j : List Entry) : Type 0 where
  pub told : AtEachPlace (IsToldAt j who losses) [] j
  pub called : Each (IsCalled j) j
  pub lost : (loss : Loss) → IsOne losses loss → Exists (IsLossOf who loss) j
  pub unnamed : (loss : Loss) → IsOne losses loss → ¬ Exists (Names j who loss) j
  pub numbered : (q : ℕ) → calls < q → call_of j who q ≡ None
  pub past : Each (IsPast who) j

-- what further entries have to keep
pub record Adds (who : Who) (later : ℕ) (losses fewer : List Loss) (new more old : List Entry) : Type 0 where
  pub goes : GoesOn (new ++ old) who losses fewer more
  pub placed : AtEachPlace (IsToldAt (new ++ old) who fewer) more old → AtEachPlace (IsToldAt (new ++ old) who fewer) [] (new ++ old)
  pub called : Each (IsCalled (new ++ old)) new
  pub origin : (loss : Loss) → IsOne fewer loss → IsOne losses loss ⊎ (Exists (IsLossOf who loss) new × ¬ Exists (Names old who loss) old)
  pub quiet : (loss : Loss) → IsOne fewer loss → ¬ Exists (Names (new ++ old) who loss) new
  pub numbered : (q : ℕ) → later < q → call_of (new ++ old) who q ≡ None
  pub past : Each (IsPast who) new

pub journals-add : {who : Who} {calls : ℕ} {losses : List Loss} {old : List Entry} (later : ℕ) (fewer : List Loss) (new more : List Entry)
    → Adds who later losses fewer new more old → Journals who calls losses old → Journals who later fewer (new ++ old)
journals-add {who = who} {calls = calls} {losses = losses} {old = old} later fewer new more a h = record {
  told = a.placed (told-more who losses fewer more g a.goes h.called h.told);
  called = each-append (IsCalled (new ++ old)) new old a.called (each-map (IsCalled old) (IsCalled (new ++ old)) old (λ e x. called-more g e x) h.called);
  lost = λ loss one. has loss (a.origin loss one);
  unnamed = λ loss one named. split loss one (exists-append (Names (new ++ old) who loss) new old named);
  numbered = a.numbered;
  past = each-append (IsPast who) new old a.past h.past;
} where
  g : Grows old (new ++ old)
  g = grows new old

  has : (loss : Loss) → IsOne losses loss ⊎ (Exists (IsLossOf who loss) new × ¬ Exists (Names old who loss) old) → Exists (IsLossOf who loss) (new ++ old)
  has loss (inl one) = exists-right (IsLossOf who loss) new old (h.lost loss one)
  has loss (inr k) = exists-left (IsLossOf who loss) new old k.0

  before : (loss : Loss) → IsOne losses loss ⊎ (Exists (IsLossOf who loss) new × ¬ Exists (Names old who loss) old) → ¬ Exists (Names old who loss) old
  before loss (inl one) = h.unnamed loss one
  before loss (inr k) = k.1

  split : (loss : Loss) → IsOne fewer loss → Exists (Names (new ++ old) who loss) new ⊎ Exists (Names (new ++ old) who loss) old → ⊥
  split loss one (inl named) = a.quiet loss one named
  split loss one (inr named) = before loss (a.origin loss one) (some-names-back g who loss old h.called named)

-- ---- calls

-- an entry that is no C tells no call
pub told-none : (e : Entry) (old : List Entry) (who : Who) (q : ℕ) → told_by e who q ≡ None → call_of old who q ≡ None → call_of (e ∷ old) who q ≡ None
told-none e old who q none is = rw (is, none) refl

pub call-numbered : (old : List Entry) (who : Who) (calls q : ℕ) (told : Told) → ((n : ℕ) → calls < n → call_of old who n ≡ None) → calls + 1 < q
    → call_of (Entry.C who (calls + 1) told ∷ old) who q ≡ None
call-numbered old who calls q told numbered above =
    told-none (Entry.C who (calls + 1) told) old who q (step (same_who who who && (calls + 1 == q)) refl) (numbered q (omega arith))
  where
    step : (b : Bool) → (same_who who who && (calls + 1 == q)) ≡ b → (if b then Some told else None) ≡ None
    step true e =
        let same : calls + 1 ≡ q = same-number (calls + 1) q (and_parts (same_who who who) (calls + 1 == q) e).1 in let bad : ⊥ = omega arith in absurd bad
    step false e = refl

pub call-begun : (old : List Entry) (who : Who) (calls : ℕ) (told : Told) → ((n : ℕ) → calls < n → call_of old who n ≡ None)
    → call_of (Entry.C who (calls + 1) told ∷ old) who (calls + 1) ≡ Some told
call-begun old who calls told numbered =
    let none : call_of old who (calls + 1) ≡ None = numbered (calls + 1) (omega arith) in
    let same : (same_who who who && (calls + 1 == calls + 1)) ≡ true = and_from _ _ (same-who who who refl) (number-same (calls + 1) (calls + 1) refl) in
    rw (none, same) refl
