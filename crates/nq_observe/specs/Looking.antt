-- What is shown of a run.
use Rattle.std.specs.Prelude.{Result, Ok, Err}
use Rattle.nq_observe.specs.declared.looking.Shown.{Shown}
use Rattle.nq_observe.specs.declared.looking.View.{View}

-- the events are asked for that led to an entry of the journal
abbrev pub AsksForEntry : View → Type 0
AsksForEntry (View.Why line) = Unit {0}
AsksForEntry other = ⊥

-- nothing was shown only where such events are asked for
abbrev pub ShowsRun : {E : Type 0} → Result Shown E → View → Type 0
ShowsRun (Ok Shown.All) view = Unit {0}
ShowsRun (Ok Shown.Nothing) view = AsksForEntry view
ShowsRun (Err fault) view = Unit {0}
