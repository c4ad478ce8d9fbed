-- In every run the deed of each ok stands before it.
use Rattle.std.proofs.Common.{◌≡◌, ◌⊎◌, ℕ, List, [], ◌∷◌, Option, Some, None, refl, sym, subst, ap, ◌∙◌, inl, inr}
use Rattle.nq_base.specs.declared.Entry.{Entry}
use Rattle.nq_base.specs.declared.Entry.TheVariants.{W, R, Z, A}
use Rattle.nq_base.specs.declared.Said.{Said}
use Rattle.nq_base.specs.declared.Said.TheVariants.{Ok, OkValue, OkBy}
use Rattle.nq_base.specs.declared.Told.{Told}
use Rattle.nq_base.specs.declared.Told.TheVariants.{Read, Fetch, Write, Put, Resize, Remove}
use Rattle.nq_base.specs.declared.Who.{Who}
use Rattle.law_runs.proofs.RunCalls.{calls-known}
use Rattle.law_runs.proofs.Places.{in-placed, placed-order, told-whole, fact-whole, one-answer}
use Rattle.law_runs.proofs.LegalLaws.{legal-in-every-run}
use Rattle.law_runs.proofs.KeptPlaces.{KeptHere, IsMadeOpen, HasWritten, OkAt, somewhere-more}
use Rattle.law_runs.proofs.Standings.{answered-in-every-run}
use Rattle.nq_model.specs.laws.Journal.{Exists, Throughout, Somewhere, IsAnswer, IsAnswerBy, IsOpen, call_of}
use Rattle.nq_model.specs.laws.Legal.{IsReading, IsCountedWith, IsLegalAt, IsLegalAnswer}
use Rattle.nq_model.specs.laws.OfTheirCall.{Reads}
use Rattle.nq_model.specs.laws.Ordered.{Writes, Resizes}
use Rattle.nq_model.specs.laws.Synchronized.{IsPutKept, IsSettledResize, IsKept}
use Rattle.nq_model.specs.protocol.World.{run}
use Rattle.nq_model.specs.laws.OksHaveTheirDeeds.{IsWriteOfCall, IsReadOfCall, IsResizeOfCall, HasDeed, HasDeedAt, OksHaveTheirDeeds}
use Rattle.nq_model.specs.laws.OksHaveTheirDeeds.{OksHaveTheirDeedsInEveryRun}
use Rattle.walk_files.proofs.Placed.{IsCachedBy, Placed, call-told}
use Rattle.walk_steps.proofs.ClientMoves.{some-same}
use Rattle.walk_files.proofs.Places.{IsPlaced, throughout-at, throughout-of}
use Rattle.walk_steps.proofs.Members.{in-exists, exists-in}
use Rattle.walk_steps.proofs.Packets.{In}

-- what a call asks at a place, if it is told there, is this
abbrev AsksOnly : (who : Who) (q : ℕ) (told : Told) → List Entry → Type 0
AsksOnly who q told j = (t : Told) → call_of j who q ≡ Some t → t ≡ told

asks-only : (who : Who) (q : ℕ) (told : Told) (j : List Entry) → call_of j who q ≡ Some told → AsksOnly who q told j
asks-only who q told j is t e = some-same t told (sym e ∙ is)

asks-before : (who : Who) (q : ℕ) (told : Told) (e : Entry) (j : List Entry) → AsksOnly who q told (e ∷ j) → AsksOnly who q told j
asks-before who q told e j only t is = only t (call-told e j who q t is)

-- a fact of what the call asks at a place is one of what it asks
asks-fact : (P : Option Told → Type 0) → (P None → ⊥) → (who : Who) (q : ℕ) (told : Told) (j : List Entry) → AsksOnly who q told j → P (call_of j who q)
    → P (Some told)
asks-fact P none who q told j only h = case (call_of j who q) refl h
  where
    case : (o : Option Told) → call_of j who q ≡ o → P o → P (Some told)
    case None is f = absurd (none f)
    case (Some t) is f = subst (λ z. P (Some z)) (only t is) f

-- ---- writes

-- a W that was made while the call was open is the call's
module _ (who : Who) (q file block value : ℕ) (told : Told) (asks : (f b v : ℕ) → Writes f b v (Some told) → (f ≡ file) × (b ≡ block) × (v ≡ value)) where
  write-here : (e : Entry) (before : List Entry) → Placed e before → AsksOnly who q told before → IsMadeOpen who q e before
      → IsWriteOfCall who q file block value e before
  write-here (W by f b n v through) before (p, order) only (same, is_open) =
      let mine : IsOpen before by q = subst (λ w. IsOpen before w q) (sym same) is_open in
      let one : q ≡ p = order.only q mine in
      let told_here : Writes f b v (call_of before who q) = subst (λ m. Writes f b v (call_of before who m)) (sym one)
      (subst (λ w. Writes f b v (call_of before w p)) same order.call) in
      let a = asks f b v (asks-fact (Writes f b v) (λ none. none) who q told before only told_here) in
      (same, a.0, a.1, a.2, is_open)
  write-here other before placed only h = absurd h.0

  write-deed : (j : List Entry) → Throughout Placed j → AsksOnly who q told j → Somewhere (IsMadeOpen who q) j
      → Somewhere (IsWriteOfCall who q file block value) j
  write-deed [] t only h = h
  write-deed (e ∷ j) t only (inl h) = inl (write-here e j t.0 (asks-before who q told e j only) h)
  write-deed (e ∷ j) t only (inr h) = inr (write-deed j t.1 (asks-before who q told e j only) h)

-- ---- resizes and removals

module _ (whole answered : List Entry) (on : ℕ) (who : Who) (q file to : ℕ) (told : Told)
    (asks : (f t : ℕ) → Resizes f t (Some told) → (f ≡ file) × (t ≡ to)) where
  resize-here : (e : Entry) (before : List Entry) → Placed e before → AsksOnly who q told before → IsSettledResize whole answered who q on e before
      → IsResizeOfCall who q file to e
  resize-here (Z by n f from blocks) before order only h =
      let told_here : Resizes f blocks (call_of before who q) = subst (λ m. Resizes f blocks (call_of before who m)) h.1
      (subst (λ w. Resizes f blocks (call_of before w n)) h.0 order.call) in
      let a = asks f blocks (asks-fact (Resizes f blocks) (λ none. none) who q told before only told_here) in
      (h.0, h.1, a.0, a.1)
  resize-here other before order only h = absurd h

  resize-deed : (j : List Entry) → Throughout Placed j → AsksOnly who q told j → Somewhere (IsSettledResize whole answered who q on) j
      → Exists (IsResizeOfCall who q file to) j
  resize-deed [] t only h = h
  resize-deed (e ∷ j) t only (inl h) = inl (resize-here e j t.0 (asks-before who q told e j only) h)
  resize-deed (e ∷ j) t only (inr h) = inr (resize-deed j t.1 (asks-before who q told e j only) h)

-- ---- reads

module _ (j : List Entry) (t : Throughout Placed j) (who : Who) (q file block value : ℕ) (said : Said) (before : List Entry)
    (p : IsPlaced (A who q said) before j) (asked : (f b : ℕ) → Reads f b (call_of j who q) → (f ≡ file) × (b ≡ block)) where
  -- a read of the call is of what it asks
  reads-asked : (by : Who) (n f b : ℕ) → by ≡ who → n ≡ q → (e : Entry) (place : List Entry) → IsPlaced e place j → Reads f b (call_of place by n)
      → (f ≡ file) × (b ≡ block)
  reads-asked by n f b same one e place r reads =
      asked f b (fact-whole (Reads f b) (λ none. none) e place j who q r
      (subst (λ m. Reads f b (call_of place who m)) one (subst (λ w. Reads f b (call_of place w n)) same reads)))

  -- a cached read of the call stands before its answer
  cached-deed : (by : Who) (n f b u : ℕ) → In j (R by n f b u None) → u ≡ value → by ≡ who → n ≡ q → Exists (IsReadOfCall who q file block value None) before
  cached-deed by n f b u i gives same one = at (in-placed x j i)
    where
      x : Entry
      x = R by n f b u None

      at : (place : List Entry) × IsPlaced x place j → Exists (IsReadOfCall who q file block value None) before
      at (place, r) = order (placed-order (A who q said) x before place j p r)
        where
          order : In before x ⊎ (x ≡ A who q said) ⊎ In place (A who q said) → Exists (IsReadOfCall who q file block value None) before
          order (inl early) =
              let a = reads-asked by n f b same one x place r (throughout-at Placed x place j t r).reads in
              in-exists (IsReadOfCall who q file block value None) before x early (same, one, a.0, a.1, gives, refl)
          order (inr (inl bad)) = absurd (cc)
          order (inr (inr late)) =
              absurd ((throughout-at Placed x place j t r).is_open.1 (in-exists (IsAnswer by n) place (A who q said) late (sym same, sym one)))

  -- a read of the call in the packet of its answer stands before it
  served-deed : (by : Who) (n f b u k : ℕ) → In j (R by n f b u (Some k)) → u ≡ value → by ≡ who → n ≡ q → IsAnswerBy who q k (A who q said)
      → Exists (IsReadOfCall who q file block value (Some k)) before
  served-deed by n f b u k i gives same one answers = at (in-placed x j i)
    where
      x : Entry
      x = R by n f b u (Some k)

      at : (place : List Entry) × IsPlaced x place j → Exists (IsReadOfCall who q file block value (Some k)) before
      at (place, r) = order (placed-order (A who q said) x before place j p r)
        where
          order : In before x ⊎ (x ≡ A who q said) ⊎ In place (A who q said) → Exists (IsReadOfCall who q file block value (Some k)) before
          order (inl early) =
              let a = reads-asked by n f b same one x place r (throughout-at Placed x place j t r).reads in
              in-exists (IsReadOfCall who q file block value (Some k)) before x early (same, one, a.0, a.1, gives, refl)
          order (inr (inl bad)) = absurd (cc)
          order (inr (inr late)) =
              absurd ((throughout-at Placed x place j t r).unanswered
              (subst (λ m. Exists (IsAnswerBy by m k) place) (sym one)
              (subst (λ w. Exists (IsAnswerBy w q k) place) (sym same) (in-exists (IsAnswerBy who q k) place (A who q said) late answers))))

module _ (j : List Entry) (t : Throughout Placed j) (who : Who) (q file block value : ℕ) (before : List Entry)
    (asked : (f b : ℕ) → Reads f b (call_of j who q) → (f ≡ file) × (b ≡ block)) where
  -- the counted read of an answer without a packet is cached
  value-deed : IsPlaced (A who q (OkValue value)) before j → Exists (IsCountedWith j who q value) j → Exists (IsReadOfCall who q file block value None) before
  value-deed p some = from (exists-in (IsCountedWith j who q value) j some)
    where
      from : (x : Entry) × In j x × IsCountedWith j who q value x → Exists (IsReadOfCall who q file block value None) before
      from (R by n f b u None, i, h) = cached-deed j t who q file block value (OkValue value) before p asked by n f b u i h.0 h.1.0.0 h.1.0.1
      from (R by n f b u (Some k), i, h) =
          absurd (one-answer who q k (OkValue value) before j t p
          (subst (λ m. Exists (IsAnswerBy who m k) j) h.1.0.1 (subst (λ w. Exists (IsAnswerBy w n k) j) h.1.0.0 h.1.1)))
      from (other, i, h) = absurd h

  -- that of an answer by a packet was served in it
  packet-deed : (packet : ℕ) → IsPlaced (A who q (OkBy value packet)) before j → Exists (IsCountedWith j who q value) j
      → Exists (IsReadOfCall who q file block value (Some packet)) before
  packet-deed packet p some = from (exists-in (IsCountedWith j who q value) j some)
    where
      mine : Placed (A who q (OkBy value packet)) before
      mine = throughout-at Placed (A who q (OkBy value packet)) before j t p

      uncached : Exists (IsReadOfCall who q file block value None) before → ⊥
      uncached some = let r = exists-in (IsReadOfCall who q file block value None) before some in none r.0 r.1 r.2
        where
          none : (x : Entry) → In before x → IsReadOfCall who q file block value None x → ⊥
          none (R by n f b u None) i h = mine.1 (in-exists (IsCachedBy who q) before (R by n f b u None) i (h.0, h.1))
          none (R by n f b u (Some k)) i h = let bad : Some k ≡ None = h.5 in absurd (cc)
          none other i h = h

      from : (x : Entry) × In j x × IsCountedWith j who q value x → Exists (IsReadOfCall who q file block value (Some packet)) before
      from (R by n f b u None, i, h) =
          absurd (uncached (cached-deed j t who q file block value (OkBy value packet) before p asked by n f b u i h.0 h.1.0.0 h.1.0.1))
      from (R by n f b u (Some k), i, h) =
          let a = one-answer who q k (OkBy value packet) before j t p
          (subst (λ m. Exists (IsAnswerBy who m k) j) h.1.0.1 (subst (λ w. Exists (IsAnswerBy w n k) j) h.1.0.0 h.1.1)) in
          let same : packet ≡ k = a.2 in
          subst (λ m. Exists (IsReadOfCall who q file block value (Some m)) before) (sym same)
          (served-deed j t who q file block value (OkBy value packet) before p asked by n f b u k i h.0 h.1.0.0 h.1.0.1 a)
      from (other, i, h) = absurd h

-- ---- the law

module _ (j : List Entry) (t : Throughout Placed j) (kept : Throughout KeptHere j) (legal : Throughout (IsLegalAt j) j) where
  -- what stands before a place is in order too
  placed-before : (e : Entry) (before xs : List Entry) → Throughout Placed xs → IsPlaced e before xs → Throughout Placed before
  placed-before e before [] all p = absurd p
  placed-before e before (x ∷ xs) all (inl p) = subst (Throughout Placed) p.1 all.1
  placed-before e before (x ∷ xs) all (inr p) = placed-before e before xs all.1 p

  -- an ok without a value
  plain-deed : (who : Who) (q : ℕ) (before : List Entry) → IsPlaced (A who q Ok) before j → (told : Told) → call_of before who q ≡ Some told
      → HasDeed before who q Ok (Some told)
  plain-deed who q before p told is = by told is (kept-as told is) (wrote-as told is)
    where
      ok : OkAt (A who q Ok) before who q
      ok = (throughout-at KeptHere (A who q Ok) before j kept p).1

      ordered : Throughout Placed before
      ordered = placed-before (A who q Ok) before j t p

      kept-as : (told : Told) → call_of before who q ≡ Some told → IsKept (A who q Ok ∷ before) before who q (Some told)
      kept-as told is = subst (IsKept (A who q Ok ∷ before) before who q) (sym ok.asks ∙ is) ok.kept

      wrote-as : (told : Told) → call_of before who q ≡ Some told → HasWritten before who q told
      wrote-as told is = subst (HasWritten before who q) (some-same ok.told told (sym ok.asks ∙ is)) ok.wrote

      by : (told : Told) → call_of before who q ≡ Some told → IsKept (A who q Ok ∷ before) before who q (Some told) → HasWritten before who q told
          → HasDeed before who q Ok (Some told)
      by (Write file block value) is k made =
          write-deed who q file block value (Write file block value) (λ f b v h. (sym h.0, sym h.1, sym h.2)) before ordered
          (asks-only who q _ before is) made
      by (Put file block value) is k made =
          write-deed who q file block value (Put file block value) (λ f b v h. (sym h.0, sym h.1, sym h.2)) before ordered
          (asks-only who q _ before is) (somewhere-more (IsPutKept before who q) (IsMadeOpen who q) before (λ x b h. (h.0, h.1)) k)
      by (Resize file blocks) is k made =
          resize-deed (A who q Ok ∷ before) before file who q file blocks (Resize file blocks) (λ f n h. (sym h.0, sym h.1)) before ordered
          (asks-only who q _ before is) k
      by (Remove file) is k made =
          resize-deed (A who q Ok ∷ before) before file who q file 0 (Remove file) (λ f n h. (sym h.0, h.1)) before ordered (asks-only who q _ before is) k
      by (Told.Create name blocks) is k made = tt
      by (Told.Lookup name) is k made = tt
      by (Told.Attr file) is k made = tt
      by (Read file block) is k made = tt
      by (Fetch file block) is k made = tt
      by (Told.Sync file) is k made = tt

  -- an ok with a value, to a call that reads
  reading-deed : (who : Who) (q file block value : ℕ) (before : List Entry) (told : Told) → (told ≡ Read file block) ⊎ (told ≡ Fetch file block)
      → call_of j who q ≡ Some told → (f b : ℕ) → Reads f b (call_of j who q) → (f ≡ file) × (b ≡ block)
  reading-deed who q file block value before told (inl e) is f b h =
      let r : Reads f b (Some (Read file block)) = subst (Reads f b) (is ∙ ap (λ z. Some z) e) h in (sym r.0, sym r.1)
  reading-deed who q file block value before told (inr e) is f b h =
      let r : Reads f b (Some (Fetch file block)) = subst (Reads f b) (is ∙ ap (λ z. Some z) e) h in (sym r.0, sym r.1)

  is-reading : (who : Who) (q file block : ℕ) (told : Told) → (told ≡ Read file block) ⊎ (told ≡ Fetch file block) → call_of j who q ≡ Some told
      → IsReading (call_of j who q)
  is-reading who q file block told (inl e) is = subst IsReading (sym (is ∙ ap (λ z. Some z) e)) tt
  is-reading who q file block told (inr e) is = subst IsReading (sym (is ∙ ap (λ z. Some z) e)) tt

  from-cache : (who : Who) (q file block value : ℕ) (before : List Entry) → IsPlaced (A who q (OkValue value)) before j → (told : Told)
      → (told ≡ Read file block) ⊎ (told ≡ Fetch file block) → call_of before who q ≡ Some told → Exists (IsReadOfCall who q file block value None) before
  from-cache who q file block value before p told reads is =
      let whole = told-whole (A who q (OkValue value)) before j who q told p is in
      let a : IsLegalAnswer j who q value = throughout-at (IsLegalAt j) (A who q (OkValue value)) before j legal p
      (is-reading who q file block told reads whole) in
      value-deed j t who q file block value before (reading-deed who q file block value before told reads whole) p a.read

  from-server : (who : Who) (q file block value packet : ℕ) (before : List Entry) → IsPlaced (A who q (OkBy value packet)) before j → (told : Told)
      → (told ≡ Read file block) ⊎ (told ≡ Fetch file block) → call_of before who q ≡ Some told
      → Exists (IsReadOfCall who q file block value (Some packet)) before
  from-server who q file block value packet before p told reads is =
      let whole = told-whole (A who q (OkBy value packet)) before j who q told p is in
      let a : IsLegalAnswer j who q value = throughout-at (IsLegalAt j) (A who q (OkBy value packet)) before j legal p
      (is-reading who q file block told reads whole) in
      packet-deed j t who q file block value before (reading-deed who q file block value before told reads whole) packet p a.read

  valued : (who : Who) (q value : ℕ) (before : List Entry) → IsPlaced (A who q (OkValue value)) before j → (o : Option Told) → call_of before who q ≡ o
      → HasDeed before who q (OkValue value) o
  valued who q value before p (Some (Read file block)) is = from-cache who q file block value before p (Read file block) (inl refl) is
  valued who q value before p (Some (Fetch file block)) is = from-cache who q file block value before p (Fetch file block) (inr refl) is
  valued who q value before p other is = tt

  served : (who : Who) (q value packet : ℕ) (before : List Entry) → IsPlaced (A who q (OkBy value packet)) before j → (o : Option Told)
      → call_of before who q ≡ o → HasDeed before who q (OkBy value packet) o
  served who q value packet before p (Some (Read file block)) is = from-server who q file block value packet before p (Read file block) (inl refl) is
  served who q value packet before p (Some (Fetch file block)) is = from-server who q file block value packet before p (Fetch file block) (inr refl) is
  served who q value packet before p other is = tt

  plain : (who : Who) (q : ℕ) (before : List Entry) → IsPlaced (A who q Ok) before j → (o : Option Told) → call_of before who q ≡ o → HasDeed before who q Ok o
  plain who q before p None is = tt
  plain who q before p (Some told) is = plain-deed who q before p told is

  deed-at : (e : Entry) (before : List Entry) → IsPlaced e before j → HasDeedAt e before
  deed-at (A who q Ok) before p = plain who q before p (call_of before who q) refl
  deed-at (A who q (OkValue value)) before p = valued who q value before p (call_of before who q) refl
  deed-at (A who q (OkBy value packet)) before p = served who q value packet before p (call_of before who q) refl
  deed-at (A who q said) before p = tt
  deed-at other before p = tt

  pub deeds : OksHaveTheirDeeds j
  deeds = throughout-of HasDeedAt j deed-at

pub deeds-in-every-run : OksHaveTheirDeedsInEveryRun
deeds-in-every-run most head events bounds within =
    deeds (run head events).journal
    (calls-known most head events bounds within).journal.placed
    (answered-in-every-run most head events bounds within)
    (legal-in-every-run most head events bounds within)
