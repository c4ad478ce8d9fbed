-- What is kept of events and lines.
use Rattle.nq_base.specs.declared.Event.{Event}
use Rattle.nq_script.specs.Calls.{call_of}
use Rattle.nq_script.specs.declared.kept.KeptEvent.{KeptEvent}
use Rattle.nq_script.specs.declared.lines.KeptLine.{KeptLine}
use Rattle.nq_script.specs.declared.lines.Line.{Line}

-- the event that is kept
abbrev pub event_of : KeptEvent → Event
event_of (KeptEvent.Call host call) = Event.Call host (call_of call)
event_of (KeptEvent.Whole event) = event.value
event_of (KeptEvent.Deliver packet) = Event.Deliver packet
event_of KeptEvent.ServerTick = Event.ServerTick
event_of (KeptEvent.ClientTick host) = Event.ClientTick host
event_of (KeptEvent.Restart host) = Event.Restart host
event_of (KeptEvent.Crash longest) = Event.Crash longest

-- the line that is kept
abbrev pub kept_line : KeptLine → Line
kept_line (KeptLine.Call host call) = Line.Events (Event.Call host (call_of call)) 1
kept_line (KeptLine.Deliver packet) = Line.Events (Event.Deliver packet) 1
kept_line (KeptLine.ServerTicks times) = Line.Events Event.ServerTick times
kept_line (KeptLine.ClientTicks host times) = Line.Events (Event.ClientTick host) times
kept_line (KeptLine.Restart host) = Line.Events (Event.Restart host) 1
kept_line (KeptLine.Crash longest) = Line.Events (Event.Crash longest) 1
kept_line (KeptLine.Round times) = Line.Round times
kept_line KeptLine.Flow = Line.Flow
kept_line KeptLine.End = Line.End
