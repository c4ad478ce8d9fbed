-- Which laws a journal breaks.
use Rattle.std.specs.Prelude.{List, [], ◌∷◌, ◌++◌, ◌≡◌, Bool, if◌then◌else◌, flat_map, map}
use Rattle.nq_base.specs.declared.Entry.{Entry}
use Rattle.nq_model.specs.laws.CutOffTest.{is_excused}
use Rattle.nq_model.specs.laws.FateTest.{is_accounted}
use Rattle.nq_model.specs.laws.LegalTest.{is_legal}
use Rattle.nq_model.specs.laws.OfTheirCallTest.{are_of_their_call}
use Rattle.nq_model.specs.laws.OrderedTest.{is_ordered}
use Rattle.nq_model.specs.laws.ReportedTest.{is_reported}
use Rattle.nq_model.specs.laws.SynchronizedTest.{is_synchronized}

-- the laws of journals
pub data Law : Type 0 where
  legal : Law
  ordered : Law
  of_their_call : Law
  accounted : Law
  excused : Law
  reported : Law
  synchronized : Law

-- a law, unless its test is true
abbrev pub unless : Bool → Law → List Law
unless holds law = if holds then [] else law ∷ []

-- the laws whose tests are false of a journal
abbrev pub broken : List Entry → List Law
broken journal =
    unless (is_legal journal) legal
    ++ unless (is_ordered journal) ordered
    ++ unless (are_of_their_call journal) of_their_call
    ++ unless (is_accounted journal) accounted
    ++ unless (is_excused journal) excused
    ++ unless (is_reported journal) reported
    ++ unless (is_synchronized journal) synchronized

-- the journals break no law
abbrev pub BreakNone : List (List Entry) → Type 0
BreakNone journals = flat_map broken journals ≡ []

-- the journals break one law, each of them, and no other
abbrev pub BreakOnly : Law → List (List Entry) → Type 0
BreakOnly law journals = map broken journals ≡ map (λ journal. law ∷ []) journals
