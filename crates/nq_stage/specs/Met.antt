-- There is a staged schedule of which the laws speak, and they refuse what it leads to with a part taken away.
use Rattle.std.specs.Prelude.{◌≡◌, ℕ, List, [], ◌∷◌, None, false, map}
use Rattle.nq_base.specs.Block.{filled}
use Rattle.nq_base.specs.declared.Entry.{Entry}
use Rattle.nq_base.specs.declared.Event.{Event}
use Rattle.nq_base.specs.declared.Party.{Party}
use Rattle.nq_model.specs.protocol.Client.{Client}
use Rattle.nq_model.specs.laws.Journal.{Exists}
use Rattle.nq_model.specs.protocol.World.{Head}
use Rattle.nq_stage.specs.Answering.{answered, write, unstaged}
use Rattle.nq_stage.specs.Bodies.{Bodies}
use Rattle.nq_stage.specs.PoolLaws.{pool_after}
use Rattle.nq_model.specs.laws.WritesAreAccounted.{WaitingAreUnsaved}
use Rattle.nq_stage.specs.declared.messages.Commit.{Commit}
use Rattle.nq_stage.specs.declared.messages.Written.{Written}
use Rattle.nq_stage.specs.Messages.{write_bytes}
use Rattle.nq_stage.specs.declared.run.event.StagedEvent.{StagedEvent}
use Rattle.nq_stage.specs.Outer.{Outer, Outside}
use Rattle.nq_stage.specs.Outside.{outside_run}
use Rattle.nq_stage.specs.Theorem.{IsStagedSchedule, Travels, IsInnerPacket}
use Rattle.nq_stage.specs.Boots.{since_boot}
use Rattle.nq_stage.specs.Lawful.{plain_events, IsLawful}

-- a client that has lost its delayed writes and does not say so
abbrev pub forgets : Client → Client
forgets c = record c { dirty = []; push = None }

-- a COMMIT travels whose body the pool has, so it is rebuilt. No other body is the one that was meant, and there is none where the inner
-- packet is not there
pub record CommitIsRebuilt (o : Outside) : Type 0 where
  pub k : ℕ
  pub packet : Outer
  pub commit : Commit
  pub travels : Travels o k 0 packet commit
  pub answers : answered o.pool commit ≡ write (write_bytes commit.pushed (filled 5))
  pub other_body : ¬ IsInnerPacket o.world 0 packet (write_bytes commit.pushed (filled 6))
  pub no_packet : ¬ IsInnerPacket (record o.world { packets = [] }) 0 packet (write_bytes commit.pushed (filled 5))

-- a delayed write was made, and its body was staged and acknowledged. A client that forgot the write then would be refused
pub record WriteWaits (o : Outside) : Type 0 where
  pub made : Exists (λ entry. entry ≡ Entry.W (record { host = 0; inc = 1 }) 1 0 1 5 false) o.world.journal
  pub acknowledged : map (λ s. s.stager.acknowledged) o.sides ≡ ((record { host = 0; inc = 1; file = 1; block = 0; last = 1 }, 1) ∷ []) ∷ []
  pub forgotten : ¬ WaitingAreUnsaved (record o.world { clients = map forgets o.world.clients })

-- a COMMIT travels whose body the pool does not have
pub record CommitIsRefused (o : Outside) : Type 0 where
  pub k : ℕ
  pub packet : Outer
  pub commit : Commit
  pub bytes : List ℕ
  pub travels : Travels o k 0 packet commit
  pub to : packet.to ≡ Party.Server
  pub answers : answered o.pool commit ≡ unstaged bytes

-- a pool of a boot with these bodies
abbrev pub pool_of : (boot : ℕ) → List (Written × List ℕ) → Bodies
pool_of boot bodies = record { boot = boot; bodies = bodies }

-- After a crash the COMMIT is refused. The pool has a body before it, and with that body it is not what the crash leaves
pub record PoolIsLost (head : Head) (events crashed : List StagedEvent) : Type 0 where
  pub refused : CommitIsRefused (outside_run head crashed)
  pub kept : ¬ (pool_of 2 (outside_run head events).pool.bodies ≡ pool_after 2 (since_boot head crashed))

-- the premises are met, and not in vain
pub record StagingIsMet : Type 0 where
  pub head : Head
  pub most : ℕ
  pub events : List StagedEvent
  pub schedule : IsStagedSchedule head events
  pub lawful : IsLawful most head (plain_events events)
  pub rebuilt : CommitIsRebuilt (outside_run head events)
  pub waits : WriteWaits (outside_run head events)
  pub lost : PoolIsLost head events (StagedEvent.Plain (Event.Crash 60) ∷ events)
