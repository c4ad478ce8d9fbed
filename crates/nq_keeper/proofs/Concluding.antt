-- The change that an effect makes.
use Rattle.std.proofs.Common.{◌≡◌, ◌⊎◌, ◌<◌, ◌/◌, ◌%◌, ◌^◌, ℕ, true, if◌then◌else◌, List, [], ◌∷◌, zero, suc, get_or, Option, Some, None}
use Rattle.std.proofs.Common.{Result, Ok, Err, sym, ap, ◌∙◌, subst, inl, inr, arith}
use Rattle.std.specs.List.{All}
use Rattle.std.specs.Option.{ForSome}
use Rattle.std.specs.Prelude.{nat_lt}
use Rattle.std.proofs.lemmas.List.Elements.{All-append, All-cons, All-nil}
use Rattle.nq_base.specs.Block.{filled, repeated, word}
use Rattle.nq_base.specs.declared.Change.{Change}
use Rattle.nq_base.specs.declared.Decided.{Decided}
use Rattle.nq_base.specs.declared.Decided.TheVariants.{Fresh, Again, OldIncarnation, OutOfBounds}
use Rattle.nq_base.specs.declared.Effect.{Effect}
use Rattle.nq_base.specs.declared.Gate.{Gate}
use Rattle.nq_base.specs.declared.HostChange.{HostChange}
use Rattle.nq_base.specs.declared.HostRow.{HostRow}
use Rattle.nq_base.specs.declared.Request.{Request}
use Rattle.nq_base.specs.declared.Verdict.{Verdict}
use Rattle.nq_base.specs.declared.Who.{Who}
use Rattle.nq_io.specs.Faults.{Rose}
use Rattle.nq_keeper.specs.declared.keeper.KeepFault.{KeepFault}
use Rattle.nq_keeper.specs.declared.keeper.KeepFault.TheVariants.{Failed, Memory}
use Rattle.nq_keeper.specs.Keeping.{LeavesTwo, StaysOrEnds}
use Rattle.nq_model.specs.protocol.Change.{Fits, IsChangeWithin, IsWithinBounds, applied, applied_if}
use Rattle.nq_model.specs.protocol.Decided.{HasText, attach_decided, change_with, decided, decided_before, effect_of, fresh_change, fresh_decided, if_fresh}
use Rattle.nq_model.specs.protocol.Decided.{no_effect, or_fresh, row_with}
use Rattle.nq_model.specs.protocol.Kept.{Kept, can_be_kept, host_row}
use Rattle.nq_model.specs.protocol.Profile.{most_hosts}
use Rattle.nq_model.proofs.FreshFits.{effect-fits, orderly-within}
use Rattle.nq_model.proofs.FreshWithin.{fresh-within}
use Rattle.nq_keeper.specs.RequestsCapped.{capped}
use Rattle.nq_keeper.specs.Deciding.{Gives, IsOfSequence, LeavesGiven}
use Rattle.nq_keeper.proofs.Capping.{effect-stays, capped-fits}

-- ---- the bytes of a block

pub all-below : (xs : List ℕ) → ((i : ℕ) → get_or xs i 0 < 256) → All (λ byte. byte < 256) xs
all-below [] below = All-nil (λ byte. byte < 256)
all-below (x ∷ xs) below = All-cons (λ byte. byte < 256) x xs (below 0) (all-below xs (λ i. below (suc i)))

word-bytes : (v : ℕ) → v < 2 ^ 32 → All (λ byte. byte < 256) (word v)
word-bytes v small =
    All-cons (λ byte. byte < 256) (v / 16777216) (v / 65536 % 256 ∷ v / 256 % 256 ∷ v % 256 ∷ []) (omega arith)
    (All-cons (λ byte. byte < 256) (v / 65536 % 256) (v / 256 % 256 ∷ v % 256 ∷ []) (omega arith)
    (All-cons (λ byte. byte < 256) (v / 256 % 256) (v % 256 ∷ []) (omega arith) (All-cons (λ byte. byte < 256) (v % 256) [] (omega arith)
    (All-nil (λ byte. byte < 256)))))

words-bytes : (times v : ℕ) → v < 2 ^ 32 → All (λ byte. byte < 256) (repeated times v)
words-bytes zero v small = All-nil (λ byte. byte < 256)
words-bytes (suc times) v small = All-append (λ byte. byte < 256) (word v) (repeated times v) (word-bytes v small) (words-bytes times v small)

pub filled-bytes : (v : ℕ) → v < 2 ^ 32 → All (λ byte. byte < 256) (filled v)
unfolding filled
filled-bytes v small = words-bytes 1024 v small

-- ---- the host's row

-- the host that it names is the one that asked
pub names-host : (who : Who) (seq : ℕ) (effect : Effect) (change : Change) (h : HostChange) → change ≡ change_with who seq effect → change.host
    ≡ Some h → who.host < most_hosts → h.host < most_hosts
unfolding change_with
names-host who seq effect change h is named few =
    let own : Some (record { host = who.host; row = row_with who seq effect }) ≡ Some h = sym (ap (λ c. c.host) is) ∙ named in
    let same : record { host = who.host; row = row_with who seq effect } ≡ h = cc in
    subst (λ n. n < most_hosts) (ap (λ x. x.host) same) few

module _ (who : Who) (seq : ℕ) (effect : Effect) where
  -- a fresh request whose row can be kept, or can not
  pub is-fresh : can_be_kept (row_with who seq effect) ≡ true → fresh_decided who seq effect ≡ Fresh effect.verdict effect.value
  is-fresh can = ap (λ b. if b then Fresh effect.verdict effect.value else OutOfBounds) can

  abbrev given : Option Change
  given = if_fresh (fresh_decided who seq effect) (change_with who seq effect)

  -- and what a stop leaves in it
  pub leaves-kept : (change : Change) (told : Option Kept) (leaves : Option Kept → Type 0) → change ≡ change_with who seq effect
      → can_be_kept (row_with who seq effect) ≡ true → LeavesTwo change told leaves → LeavesGiven (λ kept. given) told leaves
  leaves-kept change told leaves is can h = λ kept e found left. by kept found (h kept e found left)
    where
      by : (kept : Kept) (found : Option Kept) → (found ≡ Some kept) ⊎ (found ≡ Some (applied kept change)) → (found ≡ Some kept)
          ⊎ (found ≡ Some (applied_if kept given))
      by kept found (inl s) = inl s
      by kept found (inr s) = inr (s ∙ ap (λ c. Some (applied kept c)) is ∙ ap (λ d. Some (applied_if kept (if_fresh d (change_with who seq effect))))
          (sym (is-fresh can)))

-- ---- what is told of an effect

-- the same decision and change, told in other words
pub gives-as : (d e : Kept → Decided) (c f : Kept → Option Change) (result : Result Decided KeepFault) (told between tells : Option Kept)
    (before middle now : ℕ) → between ≡ told → middle ≡ before → ForSome told (λ kept. d kept ≡ e kept) → ForSome told (λ kept. c kept ≡ f kept)
    → Gives d c result between tells middle now → Gives e f result told tells before now
gives-as d e c f (Ok given) told between tells before middle now stays is same alike h =
    (λ kept t. let own = h.0 kept (stays ∙ t) in (own.0 ∙ same kept t, own.1 ∙ ap (λ o. Some (applied_if kept o)) (alike kept t)), h.1 ∙ is)
gives-as d e c f (Err Memory) told between tells before middle now stays is same alike h = (h.0 ∙ stays, h.1 ∙ is)
gives-as d e c f (Err Failed) told between tells before middle now stays is same alike h = (
  subst (λ o. StaysOrEnds o tells) stays h.0,
  subst (λ n. Rose n now) is h.1,
)

-- the same change, told in other words
pub leaves-as : (kept : Kept) (found : Option Kept) (c f : Option Change) → c ≡ f → (found ≡ Some kept) ⊎ (found ≡ Some (applied_if kept c))
    → (found ≡ Some kept) ⊎ (found ≡ Some (applied_if kept f))
leaves-as kept found c f same (inl h) = inl h
leaves-as kept found c f same (inr h) = inr (h ∙ ap (λ o. Some (applied_if kept o)) same)

-- what is left before a call that changes nothing, or in one that makes a change
pub leaves-then : (A B : Type 0) (found : Option Kept) (kept : Kept) (c : Option Change) → A ⊎ B → (A → found ≡ Some kept)
    → (B → (found ≡ Some kept) ⊎ (found ≡ Some (applied_if kept c))) → (found ≡ Some kept) ⊎ (found ≡ Some (applied_if kept c))
leaves-then A B found kept c (inl a) f h = inl (f a)
leaves-then A B found kept c (inr b) f h = h b

-- what is given of an effect
abbrev pub given_of : Who → (seq : ℕ) → Effect → Option Change
given_of who seq effect = if_fresh (fresh_decided who seq effect) (change_with who seq effect)

module _ (gate : Gate) (r : Request) (who : Who) (seq : ℕ) (effect : Effect) (kept : Kept) (within : IsWithinBounds kept) (is : effect
    ≡ capped (effect_of kept gate r)) where
  -- the effect is what the definitions say
  pub is-effect : effect ≡ effect_of kept gate r
  is-effect = is ∙ effect-stays kept within gate r

  -- it can be kept
  pub fits-kept : who.host < most_hosts → Fits kept (change_with who seq effect)
  fits-kept few =
      subst (λ x. Fits kept (change_with who seq x)) (sym is) (capped-fits kept who seq (effect_of kept gate r)
      (effect-fits kept (orderly-within kept within) who few seq gate r))

  -- and is within the bounds, where the row can be kept
  pub within-kept : HasText r → decided kept gate r ≡ fresh_decided who seq (effect_of kept gate r) → fresh_change kept gate r ≡ change_with who seq
      (effect_of kept gate r) → can_be_kept (row_with who seq effect) ≡ true → IsChangeWithin kept (change_with who seq effect)
  within-kept text decides changes can =
      subst (λ x. IsChangeWithin kept (change_with who seq x)) (sym is-effect)
      (subst (IsChangeWithin kept) changes
      (fresh-within kept within gate r (effect_of kept gate r).verdict (effect_of kept gate r).value (decides
      ∙ is-fresh who seq (effect_of kept gate r) (subst (λ x. can_be_kept (row_with who seq x) ≡ true) is-effect can)) text))

  -- what is decided and changed by it
  pub decided-as : fresh_decided who seq effect ≡ fresh_decided who seq (effect_of kept gate r)
  decided-as = ap (fresh_decided who seq) is-effect

  pub given-as : given_of who seq effect ≡ given_of who seq (effect_of kept gate r)
  given-as = ap (given_of who seq) is-effect

-- a request of a sequence of which nothing is said is fresh
pub of-sequence : (kept : Kept) (gate : Gate) (r : Request) (who : Who) (seq : ℕ) → IsOfSequence who seq r → decided_before who seq
    (host_row kept who.host) ≡ None → decided kept gate r ≡ fresh_decided who seq (effect_of kept gate r)
of-sequence kept gate r who seq asked later = asked.decides kept gate ∙ ap (λ o. or_fresh o (fresh_decided who seq (effect_of kept gate r))) later

-- ---- a later incarnation attaches

pub attaches-fresh : (who : Who) (line : HostRow) → nat_lt line.inc who.inc ≡ true → attach_decided who line ≡ fresh_decided who 0 (no_effect Verdict.Done)
attaches-fresh who line later = ap (λ b. if b then fresh_decided who 0 (no_effect Verdict.Done) else (if nat_lt who.inc line.inc then OldIncarnation
    else Again line.verdict line.value)) later
