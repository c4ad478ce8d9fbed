-- Lines whose events a schedule can tell.
use Rattle.nq_replay.specs.Texts.{IsTellable}
use Rattle.nq_script.specs.declared.heads.Head.{Head}
use Rattle.nq_script.specs.declared.lines.Line.{Line}

-- a schedule with this head can tell the event that a line names itself; those of a round or a flow follow from the run
abbrev pub TellsEvent : Head → Line → Type 0
TellsEvent head (Line.Events event times) = IsTellable head event
TellsEvent head other = Unit {0}
