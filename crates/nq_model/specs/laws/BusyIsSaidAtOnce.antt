-- A call is answered `busy` at once or never, and for a cause, in every run.
use Rattle.std.specs.Prelude.{◌≡◌, ◌⊎◌, ℕ, List, ◌∷◌, ⊤}
use Rattle.nq_base.specs.declared.Entry.{Entry}
use Rattle.nq_base.specs.declared.Entry.TheVariants.{C, B, A}
use Rattle.nq_base.specs.declared.Said.TheVariants.{Busy}
use Rattle.nq_base.specs.declared.Who.{Who}
use Rattle.nq_model.specs.laws.Bounds.{InEveryRun}
use Rattle.nq_model.specs.laws.Journal.{Each, Exists, Throughout}
use Rattle.nq_model.specs.laws.Ordered.{HasOpen}
use Rattle.nq_model.specs.protocol.World.{run}

-- the entry is the B of an incarnation
abbrev pub IsStartOf : (who : Who) → Entry → Type 0
IsStartOf who (B by) = by ≡ who
IsStartOf who other = ⊥

-- where the entry is an A of the incarnation, it is `busy`
abbrev pub IsBusyOnly : (who : Who) → Entry → Type 0
IsBusyOnly who (A by q said) = by ≡ who → said ≡ Busy
IsBusyOnly who other = ⊤

-- the incarnation was started again by a B, and each of its calls was answered `busy` since, as it is until it is attached
pub record IsStarting (who : Who) (before : List Entry) : Type 0 where
  pub started : Exists (IsStartOf who) before
  pub idle : Each (IsBusyOnly who) before

-- the last entry is the C of call q; before it another call of its incarnation is open, or the incarnation is still starting
abbrev pub IsBusyCall : (who : Who) (q : ℕ) → (before : List Entry) → Type 0
IsBusyCall who q (C by n told ∷ before) = (by ≡ who) × (n ≡ q) × (HasOpen before who ⊎ IsStarting who before)
IsBusyCall who q other = ⊥

-- what is asked of an A `busy` at its place
abbrev pub IsBusyAtOnce : Entry → (before : List Entry) → Type 0
IsBusyAtOnce (A who q Busy) before = IsBusyCall who q before
IsBusyAtOnce other before = ⊤

-- so it is throughout a journal
abbrev pub BusyIsSaidAtOnce : (journal : List Entry) → Type 0
BusyIsSaidAtOnce journal = Throughout IsBusyAtOnce journal

-- after every schedule within skew
abbrev pub BusyIsSaidAtOnceInEveryRun : Type 0
BusyIsSaidAtOnceInEveryRun = InEveryRun (λ head events. BusyIsSaidAtOnce (run head events).journal)
