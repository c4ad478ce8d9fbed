-- How lines are played, one after another. Below, `S` is what playing comes to.
use Rattle.std.specs.Prelude.{ℕ, ◌+◌, List, [], ◌∷◌, Option, Some, None, zero, suc}
use Rattle.nq_model.specs.protocol.Stepped.{Stepped, done}

-- what playing has come to where all went well, or what was answered to the first event that was not taken
pub data Played (S : Type 0) : Type 0 where
  took : (reached : S) → Played S
  refused : (answer : Stepped) → Played S

-- where all went well, it goes on
abbrev pub and_then : {S : Type 0} → Played S → (S → Played S) → Played S
and_then (took reached) next = next reached
and_then (refused answer) next = refused answer

-- by the answer to an event that leads to this
abbrev pub answered : {S : Type 0} → (next : S) → Stepped → Played S
answered next done = took next
answered next other = refused other

-- something is played so many times, one after another
abbrev pub repeated : {S : Type 0} → (times : ℕ) → (S → Played S) → S → Played S
repeated zero play reached = took reached
repeated (suc times) play reached = and_then (play reached) (repeated times play)

-- where a packet is to be delivered, it goes on
abbrev pub with_packet : {S : Type 0} → Option ℕ → S → (ℕ → Played S) → Played S
with_packet None reached next = took reached
with_packet (Some packet) reached next = next packet

-- what playing all lines has come to, or the line at which an event was not taken, and its answer
pub data Ended (S : Type 0) : Type 0 where
  ran : (reached : S) → Ended S
  stopped : (line : ℕ) → (answer : Stepped) → Ended S

-- what a line leads to
abbrev pub at_line : {S : Type 0} → (line : ℕ) → Played S → (S → Ended S) → Ended S
at_line line (took reached) next = next reached
at_line line (refused answer) next = stopped line answer

-- lines are played one after another, of which the first has this number in the text
abbrev pub play_each : {L S : Type 0} → (play : L → S → Played S) → (number : ℕ) → List L → S → Ended S
play_each play number [] reached = ran reached
play_each play number (line ∷ lines) reached = at_line number (play line reached) (play_each play (number + 1) lines)
