-- What the text of a schedule that was run can tell.
use Rattle.nq_base.specs.declared.Event.{Event}
use Rattle.nq_script.specs.Lines.{Allows, HasEvent}
use Rattle.nq_script.specs.declared.heads.Head.{Head}

-- an event that a schedule with this head can tell
abbrev pub IsTellable : Head → Event → Type 0
IsTellable head event = Allows head event × HasEvent head.version event
