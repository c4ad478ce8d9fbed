-- That the law of loops speaks of something: the events of three turns of a loop of one host come in time, with a tick among them.
use Rattle.std.specs.Prelude.{◌≡◌, true, false, List, [], ◌∷◌}
use Rattle.nq_base.specs.Block.{filled}
use Rattle.nq_base.specs.declared.Call.{Call}
use Rattle.nq_base.specs.declared.Event.{Event}
use Rattle.nq_loop.specs.Turning.{all_answered}
use Rattle.nq_loop.specs.Whole.{loop_head}
use Rattle.nq_model.specs.protocol.World.{Head}
use Rattle.nq_replay.specs.Playing.{beginning}
use Rattle.law_rounds.specs.RoundsEndQuiet.{IsSmall}
use Rattle.nq_loop.specs.InTime.{played, all_in_time}

abbrev pub one_head : Head
one_head = beginning (loop_head 1)

-- the host writes its block and is granted a lease; the clocks tick; it synchronizes. The newest event first
abbrev pub two_turns : List Event
two_turns =
    Event.Deliver 3 ∷ Event.Deliver 2 ∷ Event.Call 0 (Call.Sync 1) ∷ Event.ServerTick ∷ Event.ClientTick 0 ∷
    Event.Deliver 1 ∷ Event.Deliver 0 ∷ Event.Call 0 (Call.Write 1 0 (filled 100)) ∷ []

-- and it reads its block
abbrev pub three_turns : List Event
three_turns = Event.Call 0 (Call.Read 1 0) ∷ two_turns

-- all came in time. A call was left after the second turn, and none after the third
pub record LoopsAreMet : Type 0 where
  pub in_time : all_in_time one_head three_turns ≡ true
  pub small : IsSmall (played one_head three_turns)
  pub left : all_answered one_head two_turns ≡ false
  pub answered : all_answered one_head three_turns ≡ true
