-- What playing over a world does, beside what it is to do by the protocol. Below, `told` is what the world's keeper tells of its
-- content, and `flags` tells which packets were delivered.
use Rattle.std.specs.List.{AllByRecursion}
use Rattle.std.specs.Prelude.{◌<◌, ℕ, Bool, List, Option}
use Rattle.nq_base.specs.declared.Event.{Event}
use Rattle.nq_model.specs.protocol.Kept.{Kept}
use Rattle.nq_model.specs.protocol.World.{Head}
use Rattle.nq_replay.specs.Delivering.{Marks}
use Rattle.nq_replay.specs.declared.play.played.Played.{Played}
use Rattle.nq_script.specs.declared.lines.Line.{Line}
use Rattle.nq_world.specs.Playing.{CanCome, Plays, WorldOver}
use Rattle.nq_world.specs.declared.stepped.Stepped.{Stepped}

-- a world plays the run of these events, and the flags tell which packets were delivered in it
pub record IsAt {K : Type 0} (head : Head) (events : List Event) (w : WorldOver K) (told : Option Kept) (flags : List Bool) : Type 0 where
  pub plays : Plays head events w told
  pub marks : Marks flags events

-- of so many packets one is flagged that this event delivers, if it delivers one
abbrev pub HasFlag : (packets : ℕ) → Event → Type 0
HasFlag packets (Event.Deliver packet) = packet < packets
HasFlag packets other = Unit {0}

-- a line of events that can come to so many hosts, with boots of this longest term at most
abbrev pub IsForWorld : (hosts longest : ℕ) → Line → Type 0
IsForWorld hosts longest (Line.Events event times) = CanCome hosts longest event
IsForWorld hosts longest other = Unit {0}

abbrev pub AreForWorld : (hosts longest : ℕ) → List Line → Type 0
AreForWorld hosts longest lines = AllByRecursion (IsForWorld hosts longest) lines

-- what the world said last
abbrev pub said : Played → Stepped
said Played.All = Stepped.Done
said (Played.Stopped line answer) = answer
