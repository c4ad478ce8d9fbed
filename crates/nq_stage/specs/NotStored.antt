-- What is staged does not count as stored.
use Rattle.std.specs.Prelude.{◌≡◌, ℕ, List, Some, None, slice_get}
use Rattle.nq_base.specs.declared.Event.{Event}
use Rattle.nq_base.specs.declared.Party.{Party}
use Rattle.nq_model.specs.protocol.World.{Head}
use Rattle.nq_stage.specs.Answering.{answered, unstaged}
use Rattle.nq_model.specs.laws.WritesAreAccounted.{WaitingAreUnsaved}
use Rattle.nq_stage.specs.declared.messages.Commit.{Commit}
use Rattle.nq_stage.specs.declared.run.event.StagedEvent.{StagedEvent}
use Rattle.nq_stage.specs.Outer.{Outer, Outside}
use Rattle.nq_stage.specs.Outside.{outside_step, outside_run}
use Rattle.nq_stage.specs.Theorem.{Travels}
use Rattle.nq_stage.specs.Lawful.{IsLawful, plain_events}

-- The delivery of a packet that stands for none leaves the inner world as it is: that of a STAGE, of its reply and of an UNSTAGED.
abbrev pub BesideStoresNothing : Type 0
BesideStoresNothing =
    (o : Outside) (k : ℕ) (p : Outer)
    → slice_get o.sent k ≡ Some p
    → p.stands ≡ None
    → (outside_step o (StagedEvent.Plain (Event.Deliver k))).world ≡ o.world

-- So does the delivery of a COMMIT whose body the pool does not have.
abbrev pub UnstagedStoresNothing : Type 0
UnstagedStoresNothing =
    (o : Outside) (k host : ℕ) (p : Outer) (c : Commit) (bytes : List ℕ)
    → Travels o k host p c
    → p.to ≡ Party.Server
    → answered o.pool c ≡ unstaged bytes
    → (outside_step o (StagedEvent.Plain (Event.Deliver k))).world ≡ o.world

-- Whatever was staged, a client that runs still has each delayed write of its incarnation that was neither stored nor found lost.
abbrev pub StagedAreUnsaved : Type 0
StagedAreUnsaved =
    (most : ℕ) (head : Head) (events : List StagedEvent)
    → IsLawful most head (plain_events events)
    → WaitingAreUnsaved (outside_run head events).world
