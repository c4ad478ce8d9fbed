-- An entry that ends a lease before the first write that a loss covers, entry by entry.
use Rattle.std.proofs.Common.{◌⊎◌, ℕ, List, [], ◌∷◌, ◌++◌, refl, sym, subst, ap, inl, inr}
use Rattle.nq_base.specs.declared.Entry.{Entry}
use Rattle.nq_base.specs.declared.Who.{Who}
use Rattle.nq_model.specs.laws.CutOff.{Ends, EndsFirst}
use Rattle.nq_model.specs.laws.Journal.{Exists, Loses}

-- the newest entry ends the lease, or the loss does not cover it and the same holds of those before it
abbrev pub EndsIn : (loss : Entry) (who : Who) (file : ℕ) → List Entry → Type 0
EndsIn loss who file [] = ⊥
EndsIn loss who file (entry ∷ before) = Ends who file entry before ⊎ ¬ Loses loss entry × EndsIn loss who file before

none-of : (loss entry : Entry) (later : List Entry) → ¬ Loses loss entry → ¬ Exists (Loses loss) later → ¬ Exists (Loses loss) (entry ∷ later)
none-of loss entry later apart none (inl covers) = apart covers
none-of loss entry later apart none (inr covers) = none covers

pub ends-first : (loss : Entry) (who : Who) (file : ℕ) (before : List Entry) → EndsIn loss who file before → EndsFirst loss who file before
ends-first loss who file [] h = absurd h
ends-first loss who file (entry ∷ before) (inl ends) = record {
  later = [];
  ending = entry;
  earlier = before;
  splits = refl;
  ends = ends;
  none_after =
      λ none. none;
}
ends-first loss who file (entry ∷ before) (inr h) =
    let f = ends-first loss who file before h.1 in
    record {
      later = entry ∷ f.later;
      ending = f.ending;
      earlier = f.earlier;
      splits = ap (λ entries. entry ∷ entries) f.splits;
      ends = f.ends;
      none_after = none-of loss entry f.later h.0 f.none_after;
    }

pub ends-in : (loss : Entry) (who : Who) (file : ℕ) (before : List Entry) → EndsFirst loss who file before → EndsIn loss who file before
ends-in loss who file before f = subst (EndsIn loss who file) (sym f.splits) (at f.later f.none_after)
  where
    at : (later : List Entry) → ¬ Exists (Loses loss) later → EndsIn loss who file (later ++ f.ending ∷ f.earlier)
    at [] none = inl f.ends
    at (entry ∷ later) none = inr (λ covers. none (inl covers), at later (λ covers. none (inr covers)))
