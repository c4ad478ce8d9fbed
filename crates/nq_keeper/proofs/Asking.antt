-- What is asked, told in other words.
use Rattle.std.proofs.Common.{◌≡◌, ℕ, Bool, List, Option, Some, None, Result, Ok, Err, refl, ap, ◌∙◌}
use Rattle.std.specs.Prelude.{is_some}
use Rattle.nq_base.specs.declared.FileRow.{FileRow}
use Rattle.nq_base.specs.declared.Gate.{Gate}
use Rattle.nq_base.specs.declared.PushBase.{PushBase}
use Rattle.nq_base.specs.declared.Request.{Request}
use Rattle.nq_base.specs.declared.Request.TheVariants.{Null, Attach, Lookup, Create, GetAttr, Read, Write, GetLease, Vacated, Evicted, Resize, Remove}
use Rattle.nq_base.specs.declared.Verdict.{Verdict}
use Rattle.nq_base.specs.declared.Who.{Who}
use Rattle.nq_keeper.specs.declared.keeper.KeepFault.{KeepFault}
use Rattle.nq_keeper.specs.Asking.{Asks}
use Rattle.nq_model.specs.protocol.Change.{row_of_found}
use Rattle.nq_model.specs.protocol.Decided.{effect_of, no_effect}
use Rattle.nq_model.specs.protocol.Kept.{File, Kept}

pub asks-as : {X : Type 0} (f h : Kept → X) (result : Result X KeepFault) (told tells : Option Kept) (before now : ℕ) (goes : Type 0)
    (left : Option Kept → Type 0) → ((kept : Kept) → f kept ≡ h kept) → Asks f result told tells before now goes left → Asks h result told tells
    before now goes left
asks-as f h (Ok x) told tells before now goes left same asks =
    record { answers = λ kept e. asks.answers kept e ∙ same kept; reads = asks.reads; follows = asks.follows; leaves = asks.leaves }
asks-as f h (Err fault) told tells before now goes left same asks =
    record { answers = λ kept e. tt; reads = asks.reads; follows = asks.follows; leaves = asks.leaves }

-- whether a row was found
pub row-there : (o : Option File) (row : Option FileRow) → row ≡ row_of_found o → is_some row ≡ is_some o
row-there None row is = ap is_some is
row-there (Some file) row is = ap is_some is

-- what is not decided once is put off
pub later-serving : (kept : Kept) (boot : ℕ) (conflict held : Bool) (r : Request) → ((who : Who) → r ≡ Attach who → ⊥)
    → ((who : Who) (seq : ℕ) (name : List ℕ) (blocks : ℕ) → r ≡ Create who seq name blocks → ⊥)
    → ((who : Who) (seq file block first last : ℕ) (push : Option PushBase) (body : List ℕ) → r ≡ Write who seq file block first last push body → ⊥)
    → ((who : Who) (seq q file blocks : ℕ) → r ≡ Resize who seq q file blocks → ⊥) → ((who : Who) (seq q file : ℕ) → r ≡ Remove who seq q file → ⊥)
    → effect_of kept (Gate.Serving boot conflict held) r ≡ no_effect Verdict.TryLater
later-serving kept boot conflict held (Attach w) attach create write resize remove = absurd (attach w refl)
later-serving kept boot conflict held (Create w seq name blocks) attach create write resize remove = absurd (create w seq name blocks refl)
later-serving kept boot conflict held (Write w seq file block first last push body) attach create write resize remove =
    absurd (write w seq file block first last push body refl)
later-serving kept boot conflict held (Resize w seq q file blocks) attach create write resize remove = absurd (resize w seq q file blocks refl)
later-serving kept boot conflict held (Remove w seq q file) attach create write resize remove = absurd (remove w seq q file refl)
later-serving kept boot conflict held Null attach create write resize remove = refl
later-serving kept boot conflict held (Lookup w name) attach create write resize remove = refl
later-serving kept boot conflict held (GetAttr w file) attach create write resize remove = refl
later-serving kept boot conflict held (Read w q file block want) attach create write resize remove = refl
later-serving kept boot conflict held (GetLease w file want) attach create write resize remove = refl
later-serving kept boot conflict held (Vacated w file tag) attach create write resize remove = refl
later-serving kept boot conflict held (Evicted w file tag) attach create write resize remove = refl

pub later-recovering : (kept : Kept) (opened : ℕ) (r : Request) → ((who : Who) → r ≡ Attach who → ⊥)
    → ((who : Who) (seq file block first last : ℕ) (push : Option PushBase) (body : List ℕ) → r ≡ Write who seq file block first last push body → ⊥)
    → effect_of kept (Gate.Recovering opened) r ≡ no_effect Verdict.TryLater
later-recovering kept opened (Attach w) attach write = absurd (attach w refl)
later-recovering kept opened (Write w seq file block first last push body) attach write = absurd (write w seq file block first last push body refl)
later-recovering kept opened (Create w seq name blocks) attach write = refl
later-recovering kept opened (Resize w seq q file blocks) attach write = refl
later-recovering kept opened (Remove w seq q file) attach write = refl
later-recovering kept opened Null attach write = refl
later-recovering kept opened (Lookup w name) attach write = refl
later-recovering kept opened (GetAttr w file) attach write = refl
later-recovering kept opened (Read w q file block want) attach write = refl
later-recovering kept opened (GetLease w file want) attach write = refl
later-recovering kept opened (Vacated w file tag) attach write = refl
later-recovering kept opened (Evicted w file tag) attach write = refl
