-- What a pool holds over a whole staged run: bodies that came since the server's latest boot, each of its very write.
use Rattle.std.specs.Prelude.{◌≡◌, ℕ, ◌+◌, List, [], ◌∷◌, Option, Some, None, slice_get}
use Rattle.nq_base.specs.declared.Event.{Event}
use Rattle.nq_base.specs.declared.Party.{Party}
use Rattle.nq_model.specs.protocol.World.{Head}
use Rattle.nq_stage.specs.Answering.{answered, write, unstaged}
use Rattle.nq_stage.specs.PoolLaws.{pool_after, IsOfBoot}
use Rattle.nq_stage.specs.declared.messages.Commit.{Commit}
use Rattle.nq_stage.specs.Messages.{unstaged_bytes}
use Rattle.nq_stage.specs.declared.run.event.StagedEvent.{StagedEvent}
use Rattle.nq_stage.specs.Outer.{Outer, Outside}
use Rattle.nq_stage.specs.Outside.{outside_run}

-- how often the server crashed in a staged schedule
abbrev pub crashes : List StagedEvent → ℕ
crashes [] = 0
crashes (StagedEvent.Plain (Event.Crash longest) ∷ events) = 1 + crashes events
crashes (event ∷ events) = crashes events

-- the boot of the server
abbrev pub boot_of : Outside → ℕ
boot_of o = o.world.server.table.boot

-- Each crash raises the boot by one, so no boot has the verifier of an earlier one.
abbrev pub BootsAreCounted : Type 0
BootsAreCounted = (head : Head) (events : List StagedEvent) → boot_of (outside_run head events) ≡ crashes events + 1

-- what was brought to the server, with one more packet: from which host, and the bytes
abbrev pub brought : (to sender : Party) → (bytes : List ℕ) → List (ℕ × List ℕ) → List (ℕ × List ℕ)
brought Party.Server (Party.Client host) bytes given = (host, bytes) ∷ given
brought _ _ bytes given = given

-- the same, if there is such a packet
abbrev pub brought_by : Option Outer → List (ℕ × List ℕ) → List (ℕ × List ℕ)
brought_by None given = given
brought_by (Some p) given = brought p.to p.sender p.bytes given

-- all that hosts brought to the server since its latest boot, the newest first
abbrev pub since_boot : Head → List StagedEvent → List (ℕ × List ℕ)
since_boot head [] = []
since_boot head (StagedEvent.Plain (Event.Crash longest) ∷ earlier) = []
since_boot head (StagedEvent.Plain (Event.Deliver k) ∷ earlier) =
    brought_by (slice_get (outside_run head earlier).sent k) (since_boot head earlier)
since_boot head (event ∷ earlier) = since_boot head earlier

-- The pool is what the boot's pool became by what was brought since then.
abbrev pub PoolIsOfItsBoot : Type 0
PoolIsOfItsBoot =
    (head : Head) (events : List StagedEvent)
    → (outside_run head events).pool ≡ pool_after (boot_of (outside_run head events)) (since_boot head events)

-- A crash leaves no body: every COMMIT that comes next is answered UNSTAGED.
abbrev pub CrashesLoseAll : Type 0
CrashesLoseAll =
    (head : Head) (events : List StagedEvent) (longest : ℕ) (c : Commit)
    → answered (outside_run head (StagedEvent.Plain (Event.Crash longest) ∷ events)).pool c
    ≡ unstaged (unstaged_bytes c.pushed.xid c.pushed.who.inc)

-- So a WRITE that is rebuilt of a COMMIT has the verifier of the boot, and the body of the newest STAGE of that very write that was
-- brought since then: of no earlier boot, of no other incarnation and of no other write.
abbrev pub AnswersAreOfTheBoot : Type 0
AnswersAreOfTheBoot =
    (head : Head) (events : List StagedEvent) (c : Commit) (bytes : List ℕ)
    → answered (outside_run head events).pool c ≡ write bytes
    → IsOfBoot (boot_of (outside_run head events)) (since_boot head events) c bytes
