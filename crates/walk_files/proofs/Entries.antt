-- Entries that store nothing and are no write that went through, and what they keep of a journal.
use Rattle.std.proofs.Common.{◌≡◌, ◌<◌, ◌≤◌, ℕ, true, false, List, [], ◌∷◌, ◌++◌, length, sym, subst, arith, inl, inr}
use Rattle.nq_base.specs.declared.Entry.{Entry}
use Rattle.nq_base.specs.declared.Entry.TheVariants.{C, W, S, L, B, A}
use Rattle.nq_base.specs.declared.Who.{Who}
use Rattle.walk_files.proofs.WritesFit.{CoversNumber, IsRising}
use Rattle.walk_files.proofs.HeldContents.{IsInside, content}
use Rattle.walk_files.proofs.Stores.{Rests}
use Rattle.nq_model.proofs.Lists.{each-append, each-map}
use Rattle.nq_model.specs.protocol.Client.{ClientStep}
use Rattle.nq_model.specs.laws.Journal.{Throughout, Covers, Stores, IsStored, Each}
use Rattle.walk_steps.proofs.Packets.{In, in-right}
use Rattle.walk_files.proofs.Accesses.{Accesses, neither, read, wrote}
use Rattle.walk_files.proofs.PlainParts.{IsPlain}

abbrev pub IsIdle : Entry → Type 0
IsIdle (S who file block first last now) = ⊥
IsIdle (W who file block n v true) = ⊥
IsIdle other = Unit {0}

plain-idle : (e : Entry) → IsPlain e → IsIdle e
plain-idle (C who q told) p = tt
plain-idle (A who q said) p = tt
plain-idle (L who file block first last) p = tt
plain-idle (B who) p = tt
plain-idle other p = absurd p

all-plain : (es : List Entry) → Each IsPlain es → Each IsIdle es
all-plain es a = each-map IsPlain IsIdle es plain-idle a

pub accesses-idle : (who : Who) (t : ClientStep) → Accesses who t → Each IsIdle t.entries
accesses-idle who t (neither plain) = all-plain t.entries plain
accesses-idle who t (read q file block lease body rest is plain held lets has idle) = subst (Each IsIdle) (sym is) (tt, (tt, all-plain rest plain))
accesses-idle who t (wrote file block number value lease more rest is plain others held lets calm) =
    subst (Each IsIdle) (sym is) (each-append IsIdle more (W who file block number value false ∷ rest) (all-plain more plain) (tt, all-plain rest others))

-- ---- what idle entries keep

idle-stores : (e w : Entry) → IsIdle e → Stores e w → ⊥
idle-stores (S who file block first last now) w idle c = idle
idle-stores other w idle c = c

pub stored-skip : (es j : List Entry) (w : Entry) → Each IsIdle es → IsStored (es ++ j) w → IsStored j w
stored-skip [] j w idle s = s
stored-skip (e ∷ es) j w idle (inl c) = absurd (idle-stores e w idle.0 c)
stored-skip (e ∷ es) j w idle (inr s) = stored-skip es j w idle.1 s

pub rests-idle : (e : Entry) (before : List Entry) → IsIdle e → Rests e before
rests-idle (S who file block first last now) before idle = absurd idle
rests-idle other before idle = tt

-- a write that went through, or was stored, is of a block that its file has, and the file has an id below the next one
abbrev pub IsInsideAt : (first : ℕ → ℕ) (next : ℕ) → Entry → (before : List Entry) → Type 0
IsInsideAt first next (W who file block n v true) before = (file < next) × (block < length (content before (first file) file))
IsInsideAt first next (S who file block start last now) before = (file < next) × (block < length (content before (first file) file))
IsInsideAt first next other before = Unit {0}

pub inside-idle : (first : ℕ → ℕ) (next : ℕ) (e : Entry) (before : List Entry) → IsIdle e → IsInsideAt first next e before
inside-idle first next (S who file block start last now) before idle = absurd idle
inside-idle first next (W who file block n v true) before idle = absurd idle
inside-idle first next other before idle = tt

pub inside-is : (first : ℕ → ℕ) (next : ℕ) (e : Entry) (before : List Entry) → IsInsideAt first next e before → IsInside first e before
inside-is first next (S who file block start last now) before h = h.1
inside-is first next (W who file block n v true) before h = h.1
inside-is first next other before h = tt

pub inside-later : (first after : ℕ → ℕ) (next more : ℕ) → next ≤ more → ((file : ℕ) → file < next → after file ≡ first file)
    → (e : Entry) (before : List Entry) → IsInsideAt first next e before → IsInsideAt after more e before
inside-later first after next more grows same (S who file block start last now) before h =
    let below = h.0 in (omega arith, subst (λ n. block < length (content before n file)) (sym (same file h.0)) h.1)
inside-later first after next more grows same (W who file block n v true) before h =
    let below = h.0 in (omega arith, subst (λ n. block < length (content before n file)) (sym (same file h.0)) h.1)
inside-later first after next more grows same other before h = tt

pub throughout-weaker : (Fact Other : Entry → List Entry → Type 0) → ((e : Entry) (before : List Entry) → Fact e before → Other e before)
    → (j : List Entry) → Throughout Fact j → Throughout Other j
throughout-weaker Fact Other weaker [] t = tt
throughout-weaker Fact Other weaker (e ∷ j) t = (weaker e j t.0, throughout-weaker Fact Other weaker j t.1)

pub throughout-idle : (Fact : Entry → List Entry → Type 0) → ((e : Entry) (before : List Entry) → IsIdle e → Fact e before) → (es j : List Entry)
    → Each IsIdle es → Throughout Fact j → Throughout Fact (es ++ j)
throughout-idle Fact holds [] j idle t = t
throughout-idle Fact holds (e ∷ es) j idle t = (holds e (es ++ j) idle.0, throughout-idle Fact holds es j idle.1 t)

-- ---- numbers

stores-covers : (e : Entry) (who : Who) (file block n v : ℕ) → Stores e (W who file block n v false) → Covers e (W who file block n 0 false)
stores-covers (S w f b x y now) who file block n v c = c
stores-covers other who file block n v c = absurd c

pub stored-covered : (j : List Entry) (who : Who) (file block n v : ℕ) → IsStored j (W who file block n v false) → CoversNumber j who file block n
stored-covered [] who file block n v h = h
stored-covered (e ∷ j) who file block n v (inl c) = inl (stores-covers e who file block n v c)
stored-covered (e ∷ j) who file block n v (inr h) = inr (stored-covered j who file block n v h)

-- later writes have greater numbers
pub rising-split : (es j : List Entry) (who : Who) (f b n v g k m u : ℕ) → Throughout IsRising (es ++ j) → In es (W who f b n v false)
    → In j (W who g k m u false) → m < n
rising-split [] j who f b n v g k m u rising i there = absurd i
rising-split (e ∷ es) j who f b n v g k m u rising (inl same) there =
    (subst (λ x. IsRising x (es ++ j)) same rising.0) g k m u (in-right es j (W who g k m u false) there)
rising-split (e ∷ es) j who f b n v g k m u rising (inr i) there = rising-split es j who f b n v g k m u rising.1 i there
