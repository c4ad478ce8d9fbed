-- A journal whose losses are cut off, entry by entry.
use Rattle.std.proofs.Common.{◌≡◌, ℕ, true, false, List, [], ◌∷◌, ◌++◌, refl, inl, inr}
use Rattle.nq_base.specs.declared.Entry.{Entry}
use Rattle.nq_base.specs.declared.Push.{Push}
use Rattle.nq_base.specs.declared.Who.{Who}
use Rattle.nq_model.proofs.Endings.{EndsIn, ends-first}
use Rattle.nq_model.specs.laws.CutOff.{Ends, IsCutOff, IsExcused}
use Rattle.nq_model.specs.protocol.Hear.{loss_entry}
use Rattle.nq_model.specs.laws.Journal.{Each, Exists, AtEachPlace, IsWithin, Loses}
use Rattle.walk_steps.proofs.Packets.{In}

-- an entry is no delayed write, and no loss
abbrev pub IsPlain : Entry → Type 0
IsPlain (Entry.W who file block number value false) = ⊥
IsPlain (Entry.L who file block first last) = ⊥
IsPlain other = Unit {0}

abbrev pub ArePlain : List Entry → Type 0
ArePlain entries = Each IsPlain entries

-- a delayed write or a loss is of an incarnation
abbrev pub IsOf : Who → Entry → Type 0
IsOf who (Entry.W by file block number value false) = by ≡ who
IsOf who (Entry.L by file block first last) = by ≡ who
IsOf who other = Unit {0}

pub plain-of : (who : Who) (e : Entry) → IsPlain e → IsOf who e
plain-of who (Entry.W by file block number value false) plain = absurd plain
plain-of who (Entry.L by file block first last) plain = absurd plain
plain-of who other plain = tt

-- no range of writes has a plain entry in it
pub plain-outside : (who : Who) (file block first last : ℕ) (e : Entry) → IsPlain e → IsWithin who file block first last e → ⊥
plain-outside who file block first last (Entry.W w f b number value false) plain within = plain
plain-outside who file block first last (Entry.W w f b number value true) plain within = within
plain-outside who file block first last e plain within = within

-- the delayed writes of an entry that waits are excused: going back, an entry that ends the lease comes before the first of them
abbrev pub IsExcusedIn : List Entry → Who → Push → Type 0
IsExcusedIn journal who p = EndsIn (loss_entry who p) who p.file journal

-- and they stay so after plain entries
pub excused-more : (who : Who) (p : Push) (more journal : List Entry) → ArePlain more → IsExcusedIn journal who p → IsExcusedIn (more ++ journal) who p
excused-more who p [] journal plain h = h
excused-more who p (e ∷ more) journal plain h =
    inr (λ within. plain-outside who p.file p.block p.first p.last e plain.0 within, excused-more who p more journal plain.1 h)

-- and after an entry that is not among them
pub excused-past : (who : Who) (p : Push) (e : Entry) (journal : List Entry) → (IsWithin who p.file p.block p.first p.last e → ⊥)
    → IsExcusedIn journal who p → IsExcusedIn (e ∷ journal) who p
excused-past who p e journal apart h = inr (apart, h)

-- they are excused by an entry that ends the lease now
pub excused-now : (who : Who) (p : Push) (e : Entry) (journal : List Entry) → Ends who p.file e journal → IsExcusedIn (e ∷ journal) who p
excused-now who p e journal ends = inl ends

-- ---- a journal

-- a loss comes after an entry that ends the lease
abbrev pub EndsBefore : Entry → List Entry → Type 0
EndsBefore (Entry.L who file block first last) before = EndsIn (Entry.L who file block first last) who file before
EndsBefore other before = Unit {0}

-- no loss of these covers the entry
abbrev pub NoneLoses : Entry → List Entry → Type 0
NoneLoses e before = (loss : Entry) → In before loss → Loses loss e → ⊥

abbrev pub AreCut : List Entry → Type 0
AreCut [] = Unit {0}
AreCut (e ∷ before) = EndsBefore e before × NoneLoses e before × AreCut before

-- a plain entry is covered by no loss
pub plain-kept : (e : Entry) (before : List Entry) → IsPlain e → NoneLoses e before
plain-kept e before plain loss there loses = lost loss loses
  where
    lost : (loss : Entry) → Loses loss e → ⊥
    lost (Entry.L who file block first last) l = plain-outside who file block first last e plain l
    lost other l = l

plain-ends : (e : Entry) (before : List Entry) → IsPlain e → EndsBefore e before
plain-ends (Entry.L who file block first last) before plain = absurd plain
plain-ends other before plain = tt

pub cut-more : (more journal : List Entry) → ArePlain more → AreCut journal → AreCut (more ++ journal)
cut-more [] journal plain h = h
cut-more (e ∷ more) journal plain h = (plain-ends e (more ++ journal) plain.0, plain-kept e (more ++ journal) plain.0, cut-more more journal plain.1 h)

-- one more loss, which is excused
pub cut-loss : (who : Who) (p : Push) (journal : List Entry) → IsExcusedIn journal who p → AreCut journal → AreCut (loss_entry who p ∷ journal)
cut-loss who p journal excused h = (excused, λ loss there loses. lost loss loses, h)
  where
    lost : (loss : Entry) → Loses loss (loss_entry who p) → ⊥
    lost (Entry.L w f b x y) l = l
    lost other l = l

-- ---- the law

none-now : (loss : Entry) (e : Entry) (after : List Entry) → (Loses loss e → ⊥) → (Exists (Loses loss) after → ⊥) → Exists (Loses loss) (e ∷ after) → ⊥
none-now loss e after now later (inl l) = now l
none-now loss e after now later (inr l) = later l

cut-off : (after : List Entry) (e : Entry) (before : List Entry) → EndsBefore e before → (Exists (Loses e) after → ⊥) → IsCutOff after e before
cut-off after (Entry.L who file block first last) before ends none = (ends-first (Entry.L who file block first last) who file before ends, none)
cut-off after other before ends none = tt

at-each-place : (after journal : List Entry) → AreCut journal → ((loss : Entry) → In journal loss → Exists (Loses loss) after → ⊥)
    → AtEachPlace IsCutOff after journal
at-each-place after [] h none = tt
at-each-place after (e ∷ journal) h none = (
  cut-off after e journal h.0 (none e (inl refl)),
  at-each-place (e ∷ after) journal h.2 (λ loss there. none-now loss e after (h.1 loss there) (none loss (inr there))),
)

-- a journal whose losses are cut off is excused
pub cut-excused : (journal : List Entry) → AreCut journal → IsExcused journal
cut-excused journal h = at-each-place [] journal h (λ loss there bad. bad)
