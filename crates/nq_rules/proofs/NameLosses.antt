-- The spans of an A, one after another.
use Rattle.std.proofs.Common.{◌≡◌, ℕ, ◌+◌, List, drop, true, false, Option, Some, refl}
use Rattle.std.specs.List.{slice_get}
use Rattle.nq_base.specs.declared.Entry.{Entry}
use Rattle.nq_base.specs.declared.Span.{Span}
use Rattle.nq_base.specs.declared.Told.{Told}
use Rattle.nq_base.specs.declared.Who.{Who}
use Rattle.nq_model.specs.laws.JournalTest.{exists}
use Rattle.nq_model.specs.laws.ReportedTest.{is_same_span, is_unnamed, name_losses}
use Rattle.nq_rules.proofs.Places.{drop_here}

-- a span that names an earlier loss and does not come again
pub names_one : (whole before : List Entry) (by : Who) (call : Option Told) (spans : List Span) (k : ℕ) (x : Span) → slice_get spans k ≡ Some x
    → exists (is_unnamed whole before by call x) before ≡ true → exists (is_same_span x) (drop (k + 1) spans) ≡ false
    → name_losses whole before by call (drop k spans) ≡ name_losses whole before by call (drop (k + 1) spans)
names_one whole before by call spans k x e u s = rw (drop_here spans k x e, u, s) refl

-- a span that comes again
pub names_again : (whole before : List Entry) (by : Who) (call : Option Told) (spans : List Span) (k : ℕ) (x : Span) → slice_get spans k ≡ Some x
    → exists (is_unnamed whole before by call x) before ≡ true → exists (is_same_span x) (drop (k + 1) spans) ≡ true
    → name_losses whole before by call (drop k spans) ≡ false
names_again whole before by call spans k x e u s = rw (drop_here spans k x e, u, s) refl
