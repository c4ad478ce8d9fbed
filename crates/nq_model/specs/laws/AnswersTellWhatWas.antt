-- What an answer tells of files was so at the server between the call and its answer, in every run.
use Rattle.std.specs.Prelude.{◌⊎◌, ℕ, List, [], ◌∷◌, Option, Some, ⊤}
use Rattle.nq_base.specs.declared.Entry.{Entry}
use Rattle.nq_base.specs.declared.Entry.TheVariants.{A}
use Rattle.nq_base.specs.declared.Event.{Event}
use Rattle.nq_base.specs.declared.Said.TheVariants.{OkValue}
use Rattle.nq_base.specs.declared.Told.{Told}
use Rattle.nq_base.specs.declared.Told.TheVariants.{Create, Lookup, Attr}
use Rattle.nq_base.specs.declared.Who.{Who}
use Rattle.nq_model.specs.laws.Bounds.{InEveryRun}
use Rattle.nq_model.specs.laws.RepliesTellWhatWas.{KeepsNamed, KeepsAt}
use Rattle.nq_model.specs.laws.Journal.{Exists, Throughout, IsCall, IsAnswer, call_of}
use Rattle.nq_model.specs.protocol.World.{Head, World, run}

-- at some moment between a call and its answer: as some event came, behind which the call stands and before which it had no answer.
-- The schedule is told with its newest event first
abbrev pub Meanwhile : (World → Type 0) → (who : Who) (q : ℕ) → Head → List Event → Type 0
Meanwhile P who q head [] = ⊥
Meanwhile P who q head (event ∷ earlier) =
    (P (run head earlier) × Exists (IsCall who q) (run head (event ∷ earlier)).journal × ¬ Exists (IsAnswer who q) (run head earlier).journal)
    ⊎ Meanwhile P who q head earlier

-- the server keeps a file of this name with this id
abbrev pub HasNamed : (name : List ℕ) (id : ℕ) → World → Type 0
HasNamed name id w = (blocks : ℕ) × KeepsNamed w.server.kept.files name id blocks

-- it keeps this file with this length
abbrev pub HasLength : (file blocks : ℕ) → World → Type 0
HasLength file blocks w = (rev : ℕ) × KeepsAt w.server.kept.files file blocks rev

-- what an ok with a value says was so between the call and its answer: the file of the name that was looked up, or that was made with
-- that length, had that id; the file that was asked for had that length
abbrev pub ToldSo : Head → List Event → (who : Who) (q value : ℕ) → Option Told → Type 0
ToldSo head events who q value (Some (Lookup name)) = Meanwhile (HasNamed name value) who q head events
ToldSo head events who q value (Some (Create name blocks)) = Meanwhile (λ w. KeepsNamed w.server.kept.files name value blocks) who q head events
ToldSo head events who q value (Some (Attr file)) = Meanwhile (HasLength file value) who q head events
ToldSo head events who q value other = ⊤

-- what is asked of an A at its place
abbrev pub TellsSoAt : Head → List Event → Entry → (before : List Entry) → Type 0
TellsSoAt head events (A who q (OkValue value)) before = ToldSo head events who q value (call_of before who q)
TellsSoAt head events other before = ⊤

-- so it is of each A of the journal
abbrev pub TellWhatWas : Head → List Event → Type 0
TellWhatWas head events = Throughout (TellsSoAt head events) (run head events).journal

-- after every schedule within skew
abbrev pub AnswersTellWhatWas : Type 0
AnswersTellWhatWas = InEveryRun TellWhatWas
