-- What comes of a packet that travels outside and is taken in.
use Rattle.std.specs.Prelude.{◌≡◌, ℕ, Bool, false, List, Option, Some, None}
use Rattle.nq_base.specs.declared.Event.{Event}
use Rattle.nq_model.specs.protocol.World.{World}
use Rattle.nq_stage.specs.Outer.{Outside}
use Rattle.nq_stage.specs.Outside.{inner}
use Rattle.nq_staged.specs.Around.{AroundOver, counted, once_sent, over}
use Rattle.nq_staged.specs.declared.commit.taking.PacketTaken.{PacketTaken}

-- the world with staged writes that a packet leads to, for the inner world and its events
abbrev pub Leading : Type 0
Leading = World → List Event → Outside

-- where the delivery of an inner packet is to be run, with a COMMIT counted or not
abbrev pub running : (commit : Bool) → World → List Event → AroundOver → Outside
running commit w ran a = over w ran (record a { counts = counted commit a.counts })

-- What was done with a packet that stands for this inner packet, or for none. `Beside`: it was no inner event, and all that it does is
-- done. `Inner`: it is the delivery of the inner packet for which it stands, and nothing is done yet.
abbrev pub IsTakenIn : PacketTaken → (stands : Option ℕ) → (old new : AroundOver) → Leading → Type 0
IsTakenIn PacketTaken.Beside stands old new leads =
    (new.gone ≡ old.gone) × ((w : World) (ran : List Event) → once_sent w ran new ≡ leads w ran)
IsTakenIn (PacketTaken.Inner number commit) stands old new leads =
    (new ≡ old) × (stands ≡ Some number)
    × ((w : World) (ran : List Event) → inner (running commit w ran old) (Event.Deliver number) ≡ leads w ran)
IsTakenIn PacketTaken.Memory stands old new leads = new ≡ old

-- what comes of a packet that stands for this inner packet, or for none
abbrev pub taken_by : Option ℕ → PacketTaken
taken_by None = PacketTaken.Beside
taken_by (Some number) = PacketTaken.Inner number false
