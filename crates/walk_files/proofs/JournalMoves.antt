-- What one more entry does to the numbers that a journal covers, and what a journal whose entries are apart accounts for.
use Rattle.std.proofs.Common.{◌≤◌, ℕ, false, List, [], ◌∷◌, refl, sym, subst, arith, inl, inr, ◌++◌}
use Rattle.nq_base.specs.declared.Entry.{Entry}
use Rattle.nq_base.specs.declared.Entry.TheVariants.{C, W, R, S, L, G, F, O, B, X, Z, A}
use Rattle.nq_base.specs.declared.Who.{Who}
use Rattle.walk_files.proofs.WritesFit.{CoversNumber, IsClear, IsApart, JournalFits}
use Rattle.nq_model.proofs.Lists.{each-of, exists-right}
use Rattle.nq_model.specs.laws.Fate.{IsFirstToCover, IsAccountedAt, IsAccounted}
use Rattle.nq_model.specs.laws.Journal.{Exists, Covers, Throughout}
use Rattle.walk_steps.proofs.Members.{in-exists}
use Rattle.walk_steps.proofs.Packets.{In}

-- the entry covers nothing
abbrev pub IsNoCover : Entry → Type 0
IsNoCover (S who file block first last now) = ⊥
IsNoCover (L who file block first last) = ⊥
IsNoCover other = Unit {0}

covers-none : (e : Entry) (who : Who) (file block n value : ℕ) → IsNoCover e → Covers e (W who file block n value false) → ⊥
covers-none (S w f b x y now) who file block n value q c = q
covers-none (L w f b x y) who file block n value q c = q
covers-none (W w f b m v t) who file block n value q c = c
covers-none (C w q' told) who file block n value q c = c
covers-none (R w q' f b v served) who file block n value q c = c
covers-none (G w f mode tag term now) who file block n value q c = c
covers-none (F w f until heard now) who file block n value q c = c
covers-none (O boot until heard now) who file block n value q c = c
covers-none (B w) who file block n value q c = c
covers-none (X boot now longest) who file block n value q c = c
covers-none (Z w q' f from to) who file block n value q c = c
covers-none (A w q' said) who file block n value q c = c

-- one more entry that covers nothing
pub covers-before : (e : Entry) (j : List Entry) (who : Who) (file block n : ℕ) → IsNoCover e → CoversNumber (e ∷ j) who file block n
    → CoversNumber j who file block n
covers-before e j who file block n q (inl c) = absurd (covers-none e who file block n 0 q c)
covers-before e j who file block n q (inr c) = c

-- what covers a write covers its number
pub covers-value : (e : Entry) (who : Who) (file block n v u : ℕ) → Covers e (W who file block n v false) → Covers e (W who file block n u false)
covers-value (S w f b x y now) who file block n v u c = c
covers-value (L w f b x y) who file block n v u c = c
covers-value (W w f b m x t) who file block n v u c = c
covers-value (C w q told) who file block n v u c = c
covers-value (R w q f b x served) who file block n v u c = c
covers-value (G w f mode tag term now) who file block n v u c = c
covers-value (F w f until heard now) who file block n v u c = c
covers-value (O boot until heard now) who file block n v u c = c
covers-value (B w) who file block n v u c = c
covers-value (X boot now longest) who file block n v u c = c
covers-value (Z w q f from to) who file block n v u c = c
covers-value (A w q said) who file block n v u c = c

pub covers-write : (j : List Entry) (who : Who) (file block n v u : ℕ) → Exists (λ e. Covers e (W who file block n v false)) j
    → Exists (λ e. Covers e (W who file block n u false)) j
covers-write [] who file block n v u h = h
covers-write (e ∷ j) who file block n v u (inl c) = inl (covers-value e who file block n v u c)
covers-write (e ∷ j) who file block n v u (inr h) = inr (covers-write j who file block n v u h)

-- an S in the journal covers its numbers
pub store-covers : (j : List Entry) (who : Who) (file block first last now n : ℕ) → In j (S who file block first last now) → first ≤ n → n ≤ last
    → CoversNumber j who file block n
store-covers [] who file block first last now n h above below = h
store-covers (e ∷ j) who file block first last now n (inl same) above below =
    inl (subst (λ x. Covers x (W who file block n 0 false)) (sym same) (refl, refl, refl, above, below))
store-covers (e ∷ j) who file block first last now n (inr h) above below = inr (store-covers j who file block first last now n h above below)

-- more entries cover no less
pub covers-more : (more j : List Entry) (who : Who) (file block n : ℕ) → CoversNumber j who file block n → CoversNumber (more ++ j) who file block n
covers-more more j who file block n c = exists-right (λ e. Covers e (W who file block n 0 false)) more j c

-- ---- the law

-- no number that is covered here is covered before
first-cover : (who : Who) (file block first last : ℕ) (entry : Entry) (before : List Entry)
    → ((w : Entry) → Covers entry w → Covers (L who file block first last) w) → IsClear before who file block first last → (w : Entry)
    → IsFirstToCover before entry w
first-cover who file block first last entry before alike clear (W by f b n v false) c h =
    let k = alike (W by f b n v false) c in
    clear n k.3 k.4
    (subst (λ z. CoversNumber before z file block n) k.0
    (subst (λ z. CoversNumber before by z block n) k.1 (subst (λ z. CoversNumber before by f z n) k.2 (covers-write before by f b n v 0 h))))
first-cover who file block first last entry before alike clear other c h = alike other c

accounts-at : (whole : List Entry) (e : Entry) (before : List Entry) → ((x : Entry) → In before x → In whole x) → IsApart e before
    → IsAccountedAt whole e before
accounts-at whole (S who file block first last now) before more clear =
    each-of _ whole (first-cover who file block first last (S who file block first last now) before (λ w c. c) clear)
accounts-at whole (L who file block first last) before more a = (
  each-of _ whole (first-cover who file block first last (L who file block first last) before (λ w c. c) a.0),
  in-exists (Covers (L who file block first last)) whole (W who file block first a.2.0 false) (more (W who file block first a.2.0 false) a.2.1)
      (refl, refl, refl, let o = a.1 in omega arith, a.1),
)
accounts-at whole (C who q told) before more a = tt
accounts-at whole (W who file block n v t) before more a = tt
accounts-at whole (R who q file block v served) before more a = tt
accounts-at whole (G who file mode tag term now) before more a = tt
accounts-at whole (F who file until heard now) before more a = tt
accounts-at whole (O boot until heard now) before more a = tt
accounts-at whole (B who) before more a = tt
accounts-at whole (X boot now longest) before more a = tt
accounts-at whole (Z who q file from to) before more a = tt
accounts-at whole (A who q said) before more a = tt

accounts-from : (whole part : List Entry) → ((x : Entry) → In part x → In whole x) → Throughout IsApart part → Throughout (IsAccountedAt whole) part
accounts-from whole [] more h = tt
accounts-from whole (e ∷ before) more h = (accounts-at whole e before (λ x i. more x (inr i)) h.0, accounts-from whole before (λ x i. more x (inr i)) h.1)

-- a journal whose entries are apart accounts for its delayed writes
pub accounts : (journal : List Entry) → JournalFits journal → IsAccounted journal
accounts journal f = accounts-from journal journal (λ x i. i) f.apart
