-- Delayed writes that are lost keep what is so of the journal; what is named was lost; and first numbers are used once.
use Rattle.std.proofs.Common.{◌≡◌, ◌≤◌, ◌⊎◌, ℕ, true, ◌&&◌, ◌==◌, List, [], ◌∷◌, ◌++◌, Option, map, reverse, if◌then◌else◌, refl, sym, subst, ap, ◌∙◌}
use Rattle.std.proofs.Common.{append_assoc, append-nil, arith, inl, inr}
use Rattle.std.proofs.lemmas.Grind.{reverse_onto}
use Rattle.std.proofs.lemmas.Bool.{and_from}
use Rattle.nq_base.specs.declared.Entry.{Entry}
use Rattle.nq_base.specs.declared.Entry.TheVariants.{L, A}
use Rattle.nq_base.specs.declared.Loss.{Loss}
use Rattle.nq_base.specs.declared.Push.{Push}
use Rattle.nq_base.specs.declared.Said.TheVariants.{Lost}
use Rattle.nq_base.specs.declared.Span.{Span}
use Rattle.nq_base.specs.declared.Told.{Told}
use Rattle.nq_base.specs.declared.Who.{Who}
use Rattle.nq_model.proofs.Lists.{exists-left, exists-right, exists-append}
use Rattle.walk_steps.proofs.Rows.{number-same}
use Rattle.nq_model.specs.laws.LossesAreReported.{IsLossOf}
use Rattle.law_runs.proofs.Tallies.{IsOne, tally, tally-cons}
use Rattle.law_runs.proofs.Told.{IsToldAt, Grows, grows, some-names-back}
use Rattle.law_runs.proofs.Journals.{same-who, Journals, journals-add, told-none}
use Rattle.law_runs.proofs.JournalMoves.{loss_at}
use Rattle.nq_model.specs.protocol.Hear.{loss_of, loss_entry}
use Rattle.nq_model.specs.laws.Journal.{Exists, AtEachPlace, call_of}
use Rattle.nq_model.specs.laws.Reported.{loss_told, IsNameOf, Names, IsUnnamed, NameLosses}
use Rattle.nq_model.specs.protocol.Table.{same_who}

-- ---- an L

-- one that no A named has an L now
one-lost : {who : Who} {calls : ℕ} {losses : List Loss} {old : List Entry} (p : Push) → (Exists (Names old who (loss_of p)) old → ⊥)
    → Journals who calls losses old → Journals who calls (losses ++ loss_of p ∷ []) (loss_entry who p ∷ old)
one-lost {who = who} {calls = calls} {losses = losses} {old = old} p new h = journals-add calls (losses ++ loss_of p ∷ []) (e ∷ []) (e ∷ []) (record {
  goes = λ by loss one. inr ((tt, tt), λ same. exists-left (λ y. y ≡ loss) losses (loss_of p ∷ []) (one same));
  placed = λ rest. (inr (tt, λ same. exists-right (λ y. y ≡ loss_of p) losses (loss_of p ∷ []) (inl refl)), rest);
  called = (tt, tt);
  origin = λ loss one. from loss (exists-append (λ y. y ≡ loss) losses (loss_of p ∷ []) one);
  quiet = λ loss one n. none n;
  numbered = λ q above. told-none e old who q refl (h.numbered q above);
  past = (λ x. omega arith, tt);
}) h
  where
    e : Entry
    e = loss_entry who p

    from : (loss : Loss) → IsOne losses loss ⊎ ((loss_of p ≡ loss) ⊎ ⊥)
        → IsOne losses loss ⊎ (Exists (IsLossOf who loss) (e ∷ []) × ¬ Exists (Names old who loss) old)
    from loss (inl one) = inl one
    from loss (inr (inl same)) = inr (inl (refl, same), λ n. new (subst (λ z. Exists (Names old who z) old) (sym same) n))
    from loss (inr (inr bad)) = absurd bad

    none : ⊥ ⊎ ⊥ → ⊥
    none (inl n) = n
    none (inr n) = n

-- and so have all that are lost
pub journals-lose : {who : Who} {calls : ℕ} {losses : List Loss} {old : List Entry} (ps : List Push)
    → ((p : Push) → IsOne ps p → Exists (Names old who (loss_of p)) old → ⊥) → Journals who calls losses old
    → Journals who calls (losses ++ map loss_of ps) (reverse (map (loss_entry who) ps) ++ old)
journals-lose {who = who} {calls = calls} {losses = losses} {old = old} [] new h = subst (λ ls. Journals who calls ls old) (sym (append-nil losses)) h
journals-lose {who = who} {calls = calls} {losses = losses} {old = old} (p ∷ ps) new h =
    subst (λ ls. Journals who calls ls (reverse (map (loss_entry who) (p ∷ ps)) ++ old)) (append_assoc losses (loss_of p ∷ []) (map loss_of ps))
    (subst (λ j. Journals who calls ((losses ++ loss_of p ∷ []) ++ map loss_of ps) j) (sym turned)
    (journals-lose ps (λ q one n. still q (inr one) n) (one-lost p (new p (inl refl)) h)))
  where
    turned : reverse (map (loss_entry who) (p ∷ ps)) ++ old ≡ reverse (map (loss_entry who) ps) ++ (loss_entry who p ∷ old)
    turned =
        ap (λ z. z ++ old) (reverse_onto (map (loss_entry who) ps) (loss_entry who p) [])
        ∙ append_assoc (reverse (map (loss_entry who) ps)) (loss_entry who p ∷ []) old

    g : Grows old (loss_entry who p ∷ old)
    g = grows (loss_entry who p ∷ []) old

    split : (q : Push) → IsOne (p ∷ ps) q → ⊥ ⊎ Exists (Names (loss_entry who p ∷ old) who (loss_of q)) old → ⊥
    split q one (inl n) = n
    split q one (inr n) = new q one (some-names-back g who (loss_of q) old h.called n)

    still : (q : Push) → IsOne (p ∷ ps) q → Exists (Names (loss_entry who p ∷ old) who (loss_of q)) (loss_entry who p ∷ old) → ⊥
    still q one n = split q one n

-- ---- the same losses in another order

told-same : (whole : List Entry) (who : Who) (losses others : List Loss) → ((loss : Loss) → IsOne losses loss → IsOne others loss)
    → (after : List Entry) (e : Entry) (before : List Entry) → IsToldAt whole who losses after e before → IsToldAt whole who others after e before
told-same whole who losses others goes after (L by file block first last) before (inl named) = inl named
told-same whole who losses others goes after (L by file block first last) before (inr h) = inr (h.0, λ same. goes (loss_told file block first last) (h.1 same))
told-same whole who losses others goes after (A by q (Lost spans)) before h = h
told-same whole who losses others goes after other before h = h

all-told : (whole : List Entry) (who : Who) (losses others : List Loss) → ((loss : Loss) → IsOne losses loss → IsOne others loss)
    → (after xs : List Entry) → AtEachPlace (IsToldAt whole who losses) after xs → AtEachPlace (IsToldAt whole who others) after xs
all-told whole who losses others goes after [] h = tt
all-told whole who losses others goes after (e ∷ xs) h =
    (told-same whole who losses others goes after e xs h.0, all-told whole who losses others goes (e ∷ after) xs h.1)

pub journals-same : {who : Who} {calls : ℕ} {losses : List Loss} {j : List Entry} (others : List Loss)
    → ((loss : Loss) → IsOne losses loss → IsOne others loss) → ((loss : Loss) → IsOne others loss → IsOne losses loss) → Journals who calls losses j
    → Journals who calls others j
journals-same {who = who} {losses = losses} {j = j} others goes comes h = record {
  told = all-told j who losses others goes [] j h.told;
  called = h.called;
  lost = λ loss one. h.lost loss (comes loss one);
  unnamed = λ loss one. h.unnamed loss (comes loss one);
  numbered = h.numbered;
  past = h.past;
}

-- ---- first numbers

-- whether an entry is an L of the incarnation with this first number
abbrev pub lost_at : Who → ℕ → Entry → ℕ
lost_at who n (L by file block first last) = if same_who by who && (first == n) then 1 else 0
lost_at who n other = 0

abbrev pub push_at : ℕ → Push → ℕ
push_at n p = if p.first == n then 1 else 0

pub lost-counts : (who : Who) (p : Push) (n : ℕ) → lost_at who n (loss_entry who p) ≡ push_at n p
lost-counts who p n = let same : same_who who who ≡ true = same-who who who refl in rw same refl

pub loss-of-counts : (n : ℕ) (p : Push) → loss_at n (loss_of p) ≡ push_at n p
loss-of-counts n p = refl

unnamed-counts : (whole before : List Entry) (who : Who) (call : Option Told) (span : Span) (e : Entry) → IsUnnamed whole before who call span e
    → lost_at who span.first e ≡ 1
unnamed-counts whole before who call span (L by file block first last) h =
    let yes : (same_who by who && (first == span.first)) ≡ true = and_from _ _ (same-who by who h.0) (number-same first span.first (sym h.2.1)) in
    rw yes refl
unnamed-counts whole before who call span other h = absurd h

some-unnamed : (whole before : List Entry) (who : Who) (call : Option Told) (span : Span) (xs : List Entry)
    → Exists (IsUnnamed whole before who call span) xs → 1 ≤ tally (lost_at who span.first) xs
some-unnamed whole before who call span [] h = absurd h
some-unnamed whole before who call span (e ∷ xs) (inl h) =
    let one = unnamed-counts whole before who call span e h in let split = tally-cons (lost_at who span.first) e xs in omega arith
some-unnamed whole before who call span (e ∷ xs) (inr h) =
    let rest = some-unnamed whole before who call span xs h in let split = tally-cons (lost_at who span.first) e xs in omega arith

one-named : (whole before : List Entry) (who : Who) (call : Option Told) (loss : Loss) (spans : List Span) → NameLosses whole before who call spans
    → Exists (IsNameOf loss) spans → 1 ≤ tally (lost_at who loss.first) before
one-named whole before who call loss [] h n = absurd n
one-named whole before who call loss (span ∷ spans) h (inl n) =
    subst (λ k. 1 ≤ tally (lost_at who k) before) n.1 (some-unnamed whole before who call span before h.0)
one-named whole before who call loss (span ∷ spans) h (inr n) = one-named whole before who call loss spans h.2 n

named-at : (whole : List Entry) (who : Who) (losses : List Loss) (loss : Loss) (e : Entry) (after before : List Entry)
    → IsToldAt whole who losses after e before → Names whole who loss e → 1 ≤ tally (lost_at who loss.first) before
named-at whole who losses loss (A by q (Lost spans)) after before h n =
    subst (λ w. 1 ≤ tally (lost_at w loss.first) before) n.0 (one-named whole before by (call_of whole by q) loss spans.items h n.2)
named-at whole who losses loss other after before h n = absurd n

-- what an A names has an L
pub named-lost : (whole : List Entry) (who : Who) (losses : List Loss) (loss : Loss) (after xs : List Entry)
    → AtEachPlace (IsToldAt whole who losses) after xs → Exists (Names whole who loss) xs → 1 ≤ tally (lost_at who loss.first) xs
named-lost whole who losses loss after [] h n = absurd n
named-lost whole who losses loss after (e ∷ xs) h (inl n) =
    let here = named-at whole who losses loss e after xs h.0 n in let split = tally-cons (lost_at who loss.first) e xs in omega arith
named-lost whole who losses loss after (e ∷ xs) h (inr n) =
    let rest = named-lost whole who losses loss (e ∷ after) xs h.1 n in let split = tally-cons (lost_at who loss.first) e xs in omega arith
