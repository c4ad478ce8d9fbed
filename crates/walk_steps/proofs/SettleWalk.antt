-- What each small change of a client keeps is kept where a call is settled without a packet.
use Rattle.std.proofs.Common.{◌≡◌, ℕ, true, false, List, Option, Some, None, sym, subst}
use Rattle.nq_base.specs.declared.Answer.{Answer}
use Rattle.nq_base.specs.declared.Grant.{Grant}
use Rattle.nq_base.specs.declared.Tag.{Tag}
use Rattle.nq_base.specs.declared.Value.{Value}
use Rattle.walk_steps.proofs.ClientCases.{Core, core_of, Closed, Both}
use Rattle.walk_steps.proofs.ClientFacts.{Asking, AskingOf}
use Rattle.walk_steps.proofs.ClientMoves.{attached-with-call, ends-call, begins, uses}
use Rattle.walk_steps.proofs.ClientWrites.{delays as delays_write}
use Rattle.walk_steps.proofs.SettleCases.{IsSettling, settle-cases}
use Rattle.nq_model.specs.protocol.Client.{Client, ClientStep, UnderWay, dirty_at}
use Rattle.nq_model.specs.protocol.Settle.{answers, names_losses, after_read, reads_cached, after_write, delays, marks_written, ticket_is_for_call, settle}

-- whether the call's own request is under way
abbrev pub IsIdle : ClientStep → Type 0
IsIdle t = ticket_is_for_call t.client.ticket ≡ false

-- the call is answered
pub answers-keeps : {P : Core → Type 0} (t : ClientStep) (q : ℕ) (answer : Answer) (by : Option ℕ) → IsIdle t → Both P t → Both P (answers t q answer by)
unfolding answers
answers-keeps t q answer by idle b = record { alone = record { asking = ends-call b.alone.asking idle; delaying = b.alone.delaying }; core = b.core }

-- the call is told its losses
pub names-keeps : {P : Core → Type 0} (t : ClientStep) (q file : ℕ) → IsIdle t → Both P t → Both P (names_losses t q file)
unfolding answers
names-keeps t q file idle b = record { alone = record { asking = ends-call b.alone.asking idle; delaying = b.alone.delaying }; core = b.core }

-- a read is answered from what the client has
pub cached-keeps : {Heard : ℕ → Tag → Type 0} {Given : ℕ → Grant → ℕ → Type 0} {P : Core → Type 0} → Closed Heard Given P
    → (t : ClientStep) (u : UnderWay) (file block : ℕ) (body : List ℕ) → IsIdle t → Both P t → Both P (reads_cached t u file block body)
unfolding reads_cached answers after_read
cached-keeps closed t u file block body idle b = record {
  alone = record { asking = ends-call (uses file b.alone.asking) idle; delaying = b.alone.delaying };
  core = closed.uses (core_of t) file b.core;
}

-- a write is delayed
pub delay-keeps : {Heard : ℕ → Tag → Type 0} {Given : ℕ → Grant → ℕ → Type 0} {P : Core → Type 0} → Closed Heard Given P
    → (t : ClientStep) (file block : ℕ) (body : List ℕ) → t.client.attached ≡ true → Both P t → Both P (delays t file block body)
unfolding after_write
delay-keeps closed t file block body attached b = record {
  alone = record {
    asking = uses file b.alone.asking;
    delaying = delays_write file block t.client.number body (dirty_at file block t.client.dirty) attached b.alone.delaying;
  };
  core = closed.uses (core_of t) file b.core;
}

delayed-idle : (t : ClientStep) (file block : ℕ) (body : List ℕ) → IsIdle t → IsIdle (delays t file block body)
unfolding after_write
delayed-idle t file block body idle = idle

delayed-attached : (t : ClientStep) (file block : ℕ) (body : List ℕ) → t.client.attached ≡ true → (delays t file block body).client.attached ≡ true
unfolding after_write
delayed-attached t file block body h = h

-- another call state at an attached client
pub begun-call : (c : Client) (u : UnderWay) → c.attached ≡ true → AskingOf c → Asking c.who c.now c.attached (Some u) c.ticket c.xid c.seq c.leases c.notices
begun-call c u e h =
    subst (λ a. Asking c.who c.now a (Some u) c.ticket c.xid c.seq c.leases c.notices) (sym e)
    (begins u (subst (λ a. Asking c.who c.now a c.call c.ticket c.xid c.seq c.leases c.notices) e h))

written-keeps : {P : Core → Type 0} (t : ClientStep) (u : UnderWay) → t.client.attached ≡ true → Both P t → Both P (marks_written t u)
unfolding marks_written
written-keeps t u attached b =
    record {
      alone = record { asking = begun-call t.client (record u { written = true }) attached b.alone.asking; delaying = b.alone.delaying };
      core = b.core;
    }

-- a call that needs no packet is settled
pub settle-keeps : {Heard : ℕ → Tag → Type 0} {Given : ℕ → Grant → ℕ → Type 0} {P : Core → Type 0} → Closed Heard Given P → (t : ClientStep) → Both P t
    → Both P (settle t)
settle-keeps {P = P} closed t b = settle-cases t (Both P) (record {
  idle = λ none. b;
  asking = λ u is own. b;
  read_out = λ u file block lease is read can out. answers-keeps t u.q Answer.Range None is.idle b;
  reading = λ u file block lease body is read can within has. cached-keeps closed t u file block body is.idle b;
  read_waits = λ u file block is read waits. b;
  write_out = λ u sync file block body lease is write can out. answers-keeps t u.q Answer.Range None is.idle b;
  write_full = λ u sync file block body lease is write can within full. answers-keeps t u.q Answer.DirtyFull None is.idle b;
  writing =
      λ u file block body lease is write can within room. answers-keeps (delays t file block body) u.q (Answer.Ok Value.Nothing) None
      (delayed-idle t file block body is.idle) (delay-keeps closed t file block body (attached u is) b);
  putting =
      λ u file block body lease is write unwritten can within room. written-keeps (delays t file block body) u
      (delayed-attached t file block body (attached u is)) (delay-keeps closed t file block body (attached u is) b);
  write_waits = λ u sync file block body is write waits. b;
  syncing = λ u file is sync clean. answers-keeps t u.q (Answer.Ok Value.Nothing) None is.idle b;
  sync_waits = λ u file is sync dirty. b;
  others = λ u is needs. b;
}) where
  attached : (u : UnderWay) → IsSettling t u → t.client.attached ≡ true
  attached u is = attached-with-call b.alone.asking u is.called
