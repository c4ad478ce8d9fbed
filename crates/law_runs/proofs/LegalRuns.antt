-- In every run reads are legal.
use Rattle.std.proofs.Common.{ℕ, List, [], ◌∷◌, Option, Some, refl, sym, subst, inl, inr}
use Rattle.nq_base.specs.declared.Entry.{Entry}
use Rattle.nq_base.specs.declared.Entry.TheVariants.{A, R}
use Rattle.nq_base.specs.declared.Event.{Event}
use Rattle.nq_base.specs.declared.Said.{Said}
use Rattle.nq_base.specs.declared.Said.TheVariants.{OkValue, OkBy}
use Rattle.nq_base.specs.declared.Told.{Told}
use Rattle.nq_base.specs.declared.Told.TheVariants.{Read, Fetch}
use Rattle.nq_base.specs.declared.Who.{Who}
use Rattle.walk_files.proofs.Placed.{ordered, of-their-call}
use Rattle.law_runs.proofs.RunCalls.{calls-known}
use Rattle.nq_model.specs.laws.Bounds.{KeepsBounds}
use Rattle.walk_files.proofs.ReadFacts.{IsBacked, reads_nothing, counted_read, IsGood}
use Rattle.law_runs.proofs.ReadRuns.{run-reads}
use Rattle.walk_files.proofs.Places.{IsPlaced, placed-in, throughout-of}
use Rattle.nq_model.specs.laws.Journal.{Each, Exists, AtMostOne, AtEachPlace, IsCounted, call_of}
use Rattle.nq_model.specs.laws.Legal.{IsReading, GivesValue, IsCountedBy, IsCountedWith, IsLegalRead, IsLegalAnswer, IsLegalAt, IsLegal}
use Rattle.nq_model.specs.laws.OfTheirCall.{Reads, IsOfItsCall, AreOfTheirCall}
use Rattle.nq_model.specs.laws.Ordered.{IsReadInOrder, IsInOrder, IsOrdered}
use Rattle.nq_model.specs.protocol.Skew.{IsWithinSkew}
use Rattle.nq_model.specs.protocol.World.{Head, run}
use Rattle.walk_steps.proofs.Packets.{In}
use Rattle.walk_files.proofs.Holders.{KnownOf}

-- ---- of an ordered journal

reads-reading : (file block : ℕ) (o : Option Told) → Reads file block o → IsReading o
reads-reading file block (Some (Read f b)) h = tt
reads-reading file block (Some (Fetch f b)) h = tt
reads-reading file block other h = absurd h

each-in : (Fact : Entry → Type 0) (j : List Entry) (e : Entry) → Each Fact j → In j e → Fact e
each-in Fact [] e all i = absurd i
each-in Fact (x ∷ j) e all (inl same) = subst Fact same all.0
each-in Fact (x ∷ j) e all (inr i) = each-in Fact j e all.1 i

counted-once : (whole after : List Entry) (e : Entry) (before : List Entry) (who : Who) (q : ℕ) → IsInOrder whole after e before
    → IsCountedBy whole who q e → Exists (IsCountedBy whole who q) before → ⊥
counted-once whole after (R by n file block v served) before who q order c h =
    let o : IsReadInOrder whole before by n = order c.1 in
    o.first (subst (λ z. Exists (IsCountedBy whole z n) before) (sym c.0.0) (subst (λ z. Exists (IsCountedBy whole who z) before) (sym c.0.1) h))
counted-once whole after other before who q order c h = c.0

one-counted : (whole after j : List Entry) (who : Who) (q : ℕ) → AtEachPlace (IsInOrder whole) after j → AtMostOne (IsCountedBy whole who q) j
one-counted whole after [] who q order = tt
one-counted whole after (e ∷ j) who q order = (λ c h. counted-once whole after e j who q order.0 c h, one-counted whole (e ∷ after) j who q order.1)

module _ (journal : List Entry) (order : IsOrdered journal) (calls : AreOfTheirCall journal)
    (good : (who : Who) (q file block v : ℕ) (by : Option ℕ) (before : List Entry) → IsPlaced (R who q file block v by) before journal
    → IsCounted journal (R who q file block v by) → IsGood journal before who q file block v)
    (backed : (who : Who) (q v : ℕ) (said : Said) → In journal (A who q said) → GivesValue v said → IsBacked journal who q v) where
  legal-read : (who : Who) (q file block v : ℕ) (by : Option ℕ) (before : List Entry) → IsPlaced (R who q file block v by) before journal
      → IsCounted journal (R who q file block v by) → IsLegalRead journal before who q file block v
  legal-read who q file block v by before p counted =
      let g = good who q file block v by before p counted in
      let c : IsOfItsCall journal (R who q file block v by) = each-in (IsOfItsCall journal) journal (R who q file block v by) calls
      (placed-in (R who q file block v by) before journal p) in
      record { standing = g.standing; call = reads-reading file block (call_of journal who q) (c counted); answer = g.answer }

  legal-answer : (who : Who) (q v : ℕ) (said : Said) → In journal (A who q said) → GivesValue v said → IsReading (call_of journal who q)
      → IsLegalAnswer journal who q v
  legal-answer who q v said i gives reading = record { read = case (backed who q v said i gives); only = one-counted journal [] journal who q order }
    where
      case : IsBacked journal who q v → Exists (IsCountedWith journal who q v) journal
      case (reads_nothing t told none) = absurd (none (subst IsReading told reading))
      case (counted_read h) = h

  legal-at : (e : Entry) (before : List Entry) → IsPlaced e before journal → IsLegalAt journal e before
  legal-at (R who q file block v by) before p = λ counted. legal-read who q file block v by before p counted
  legal-at (A who q (OkValue v)) before p = λ reading. legal-answer who q v (OkValue v) (placed-in (A who q (OkValue v)) before journal p) refl reading
  legal-at (A who q (OkBy v packet)) before p =
      λ reading. legal-answer who q v (OkBy v packet) (placed-in (A who q (OkBy v packet)) before journal p) refl reading
  legal-at other before p = tt

  pub legal : IsLegal journal
  legal = throughout-of (IsLegalAt journal) journal legal-at

-- ---- every run

module _ (most : ℕ) (head : Head)
    (known : (events : List Event) → KeepsBounds most head events → IsWithinSkew head.hosts most events
    → KnownOf head.hosts most (run head events) events) where
  pub run-legal : (events : List Event) → KeepsBounds most head events → IsWithinSkew head.hosts most events → IsLegal (run head events).journal
  run-legal events b within =
      let h = run-reads most head known events b within in
      let j = (calls-known most head events b within).journal in
      legal (run head events).journal (ordered (run head events).journal j.placed j.spaced) (of-their-call (run head events).journal j.placed) h.counted
      h.answered
