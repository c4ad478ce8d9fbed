-- Losses are reported, each by its name and once.
use Rattle.std.specs.Prelude.{◌≡◌, ℕ, List, [], ◌∷◌, Option, ⊤}
use Rattle.nq_base.specs.declared.Entry.{Entry}
use Rattle.nq_base.specs.declared.Entry.TheVariants.{C, L, A}
use Rattle.nq_base.specs.declared.Loss.{Loss}
use Rattle.nq_base.specs.declared.Said.TheVariants.{Lost, Busy}
use Rattle.nq_base.specs.declared.Span.{Span}
use Rattle.nq_base.specs.declared.Told.{Told}
use Rattle.nq_base.specs.declared.Told.TheVariants.{Write, Put, Sync, Resize, Remove}
use Rattle.nq_base.specs.declared.Who.{Who}
use Rattle.nq_model.specs.laws.Journal.{Exists, AtEachPlace, IsAnswer, call_of, SpeaksOf}

-- ---- names

-- the loss that an L tells
abbrev pub loss_told : (file block first last : ℕ) → Loss
loss_told file block first last = record { file = file; block = block; first = first; last = last }

-- the span names a loss: it has the loss's block and numbers
abbrev pub IsNameOf : (loss : Loss) (span : Span) → Type 0
IsNameOf loss span = (span.block ≡ loss.block) × (span.first ≡ loss.first) × (span.last ≡ loss.last)

-- the entry is an A `lost` to a call of an incarnation on the file of a loss, and names the loss
abbrev pub Names : (whole : List Entry) (who : Who) (loss : Loss) → Entry → Type 0
Names whole who loss (A by q (Lost spans)) = (by ≡ who) × SpeaksOf loss.file (call_of whole by q) × Exists (IsNameOf loss) spans.items
Names whole who loss other = ⊥

-- ---- each loss is reported

-- the call is a `write`, `put`, `sync`, `resize` or `remove` of a file
abbrev pub IsReporting : (file : ℕ) → Told → Type 0
IsReporting file (Write f block value) = f ≡ file
IsReporting file (Put f block value) = f ≡ file
IsReporting file (Sync f) = f ≡ file
IsReporting file (Resize f blocks) = f ≡ file
IsReporting file (Remove f) = f ≡ file
IsReporting file other = ⊥

-- the entry is an A `busy` of call q
abbrev pub IsBusyAnswer : (who : Who) (q : ℕ) → Entry → Type 0
IsBusyAnswer who q (A by n Busy) = (by ≡ who) × (n ≡ q)
IsBusyAnswer who q other = ⊥

-- the entry is a C of the incarnation that has to report its losses on the file: it is not answered `busy`
abbrev pub MustReport : (whole : List Entry) (who : Who) (file : ℕ) → Entry → Type 0
MustReport whole who file (C by q told) = (by ≡ who) × IsReporting file told × ¬ Exists (IsBusyAnswer who q) whole
MustReport whole who file other = ⊥

-- the next entry is the A of this C, is `lost` and names the loss
abbrev pub IsNamedNext : (whole : List Entry) (who : Who) (loss : Loss) → Entry → List Entry → Type 0
IsNamedNext whole who loss (C by q told) (next ∷ after) = IsAnswer by q next × Names whole who loss next
IsNamedNext whole who loss call after = ⊥

-- in a list, the first entry that `Must` does what it must, unless an entry before it makes that `Needless`
abbrev pub FirstThat : (Must : Entry → Type 0) (Does : Entry → (after : List Entry) → Type 0) (Needless : Entry → Type 0) → List Entry → Type 0
FirstThat Must Does Needless [] = ⊤
FirstThat Must Does Needless (entry ∷ after) =
    (Must entry → Does entry after) × (¬ Must entry → ¬ Needless entry → FirstThat Must Does Needless after)

-- among the entries after an L, the first C that has to report it is answered at once by an A that names it, unless an A
-- before that C names it
abbrev pub IsReportedIn : (whole : List Entry) (who : Who) (loss : Loss) (after : List Entry) → Type 0
IsReportedIn whole who loss after =
    FirstThat (MustReport whole who loss.file) (IsNamedNext whole who loss) (Names whole who loss) after

-- ---- each name is of a loss

-- the entry is an L of the incarnation on the file of a call, has the block and numbers of a span, and no A has named it
abbrev pub IsUnnamed : (whole before : List Entry) (who : Who) (call : Option Told) (span : Span) → Entry → Type 0
IsUnnamed whole before who call span (L by file block first last) =
    (by ≡ who)
    × SpeaksOf file call
    × IsNameOf (loss_told file block first last) span
    × ¬ Exists (Names whole who (loss_told file block first last)) before
IsUnnamed whole before who call span other = ⊥

-- two spans are one
abbrev pub IsSameSpan : (a b : Span) → Type 0
IsSameSpan a b = (a.block ≡ b.block) × (a.first ≡ b.first) × (a.last ≡ b.last)

-- each span names an earlier L of the incarnation on the file of the call, and names it for the first time
abbrev pub NameLosses : (whole before : List Entry) (who : Who) (call : Option Told) → List Span → Type 0
NameLosses whole before who call [] = ⊤
NameLosses whole before who call (span ∷ spans) =
    Exists (IsUnnamed whole before who call span) before
    × ¬ Exists (IsSameSpan span) spans
    × NameLosses whole before who call spans

-- ---- the law

-- what is asked of an L, and of an A that says `lost`
abbrev pub IsReportedAt : (whole after : List Entry) → Entry → (before : List Entry) → Type 0
IsReportedAt whole after (L who file block first last) before = IsReportedIn whole who (loss_told file block first last) after
IsReportedAt whole after (A who q (Lost spans)) before = NameLosses whole before who (call_of whole who q) spans.items
IsReportedAt whole after other before = ⊤

-- the losses of a journal are reported: each L is named by the first call that can, and what an A names is an earlier L,
-- named once
abbrev pub IsReported : (journal : List Entry) → Type 0
IsReported journal = AtEachPlace (IsReportedAt journal) [] journal
