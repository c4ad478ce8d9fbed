-- What the line of each incarnation tells of the entries before a place.
use Rattle.std.specs.Prelude.{◌≡◌, ◌<◌, ◌≤◌, ◌⊎◌, ℕ, List, ◌∷◌, Option, Some, None, Bool, true, false, ⊤}
use Rattle.nq_base.specs.declared.Entry.{Entry}
use Rattle.nq_base.specs.declared.Entry.TheVariants.{C, W, Z, R, A}
use Rattle.nq_base.specs.declared.Told.{Told}
use Rattle.nq_base.specs.declared.Who.{Who}
use Rattle.nq_rules.specs.declared.lines.CallProgress.{CallProgress}
use Rattle.nq_rules.specs.declared.lines.Open.{Open}
use Rattle.nq_rules.specs.Lines.{IsLined, Sizing, Writing, line_at, sizing_of, writing_of}
use Rattle.nq_model.specs.laws.Journal.{call_of}
use Rattle.nq_model.specs.laws.JournalTest.{exists, is_answer, is_call, is_open, throughout}
use Rattle.nq_model.specs.laws.LegalTest.{is_counted_by}
use Rattle.nq_model.specs.laws.OrderedTest.{is_before_call, is_in_order, is_numbered, is_resize_by}

-- the call that a line tells as open
abbrev pub IsOpenCall : Option Open → (q : ℕ) → Type 0
IsOpenCall None q = ⊥
IsOpenCall (Some current) q = current.q ≡ q

-- the call that a line tells as busy
abbrev pub IsBusyCall : Option ℕ → (q : ℕ) → Type 0
IsBusyCall None q = ⊥
IsBusyCall (Some busy) q = busy ≡ q

-- the call is open and asks this, and what it is not told to have made, it has not made
pub record IsOpened (whole before : List Entry) (who : Who) (q : ℕ) (writing : Option Writing) (sizing : Option Sizing)
    (wrote resized read : Bool) : Type 0 where
  pub opened : is_open before who q ≡ true
  pub told : Told
  pub call : call_of before who q ≡ Some told
  pub writes : writing_of told ≡ writing
  pub sizes : sizing_of told ≡ sizing
  pub unwritten : wrote ≡ false → throughout (is_before_call who q) before ≡ true
  pub unresized : resized ≡ false → exists (is_resize_by who q) before ≡ false
  pub unread : read ≡ false → exists (is_counted_by whole who q) before ≡ false

abbrev pub AreOpened : (whole before : List Entry) (who : Who) → Option Open → Type 0
AreOpened whole before who None = ⊤
AreOpened whole before who (Some current) = IsOpened whole before who current.q current.writing current.sizing current.wrote current.resized current.read

-- the busy call is none that is too high, is not the open one, and has no A
pub record IsBusy (before : List Entry) (who : Who) (highest : ℕ) (current : Option Open) (busy : ℕ) : Type 0 where
  pub upto : busy ≤ highest
  pub unanswered : exists (is_answer who busy) before ≡ false
  pub apart : IsOpenCall current busy → ⊥

abbrev pub AreBusy : (before : List Entry) (who : Who) (highest : ℕ) (current : Option Open) → Option ℕ → Type 0
AreBusy before who highest current None = ⊤
AreBusy before who highest current (Some busy) = IsBusy before who highest current busy

-- the line tells how far the calls of an incarnation came among these entries
pub record IsLineOf (whole before : List Entry) (who : Who) (line : CallProgress) : Type 0 where
  pub calls : (q : ℕ) → line.highest < q → exists (is_call who q) before ≡ false
  pub answers : (q : ℕ) → line.highest < q → exists (is_answer who q) before ≡ false
  pub resizes : (q : ℕ) → line.highest < q → exists (is_resize_by who q) before ≡ false
  pub reads : (q : ℕ) → line.highest < q → exists (is_counted_by whole who q) before ≡ false
  pub writes : (number : ℕ) → line.last < number → exists (is_numbered who number) before ≡ false
  pub below : (number : ℕ) → number < line.least → exists (is_numbered who number) before ≡ false
  pub alone : (q : ℕ) → is_open before who q ≡ true → IsOpenCall line.current q ⊎ IsBusyCall line.busy q
  pub current : AreOpened whole before who line.current
  pub busy : AreBusy before who line.highest line.current line.busy

-- the lines tell so of each incarnation
abbrev pub AreLines : (whole before : List Entry) → List ((ℕ × ℕ) × CallProgress) → Type 0
AreLines whole before lines = (who : Who) → IsLineOf whole before who (line_at lines who)

-- there is a next line, and the incarnation has it now
pub record IsNext (who : Who) (next : Option CallProgress) (old new : List ((ℕ × ℕ) × CallProgress)) : Type 0 where
  pub line : CallProgress
  pub some : next ≡ Some line
  pub lined : IsLined (who.host, who.inc) line old new

-- where the lines tell of the entries before it, an entry stands in order, and the new lines tell of it, too
abbrev pub StandsInOrder : (whole after : List Entry) → Entry → (old new : List ((ℕ × ℕ) × CallProgress)) → Type 0
StandsInOrder whole after entry old new =
    (before : List Entry) → AreLines whole before old → (is_in_order whole after entry before ≡ true) × AreLines whole (entry ∷ before) new

-- whether an entry tells nothing of the order of calls
abbrev pub is_else : Entry → Bool
is_else (C who q told) = false
is_else (W who file block number value through) = false
is_else (Z who q file from to) = false
is_else (R who q file block value served) = false
is_else (A who q said) = false
is_else other = true
