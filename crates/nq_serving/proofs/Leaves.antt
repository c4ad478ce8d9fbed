-- What a stop within the stages of a server's turn leaves.
use Rattle.std.proofs.Common.{◌≡◌, if◌then◌else◌, ◌⊎◌, ◌∙◌, ℕ, Bool, true, false, List, Option, Some, None, Result, Ok, Err, nat_lt, inl, inr, refl}
use Rattle.std.proofs.Common.{sym, ap, subst}
use Rattle.nq_model.specs.protocol.Kept.{Kept}
use Rattle.nq_clock.specs.Clocks.{ClockTold, ReadsOnce}
use Rattle.nq_serving.specs.Leaving.{IsLeftAt, IsLeftBehind, LeavesOnly, LeavesReceiving, LeavesBehind, LeavesStages}
use Rattle.nq_link.specs.Links.{Letter, LinkTold}
use Rattle.nq_serving.specs.Extending.{Extension}
use Rattle.nq_serving.specs.ServerTurn.{Given, ticks, Receives, Takes, TakesCame, TakesFrom, TakesLetter, TakesOf, answered, datagram}
use Rattle.nq_serving.specs.declared.node.Node.{Node}
use Rattle.nq_serving.specs.ServerTurn.{given_by, goes_on}
use Rattle.nq_serving.specs.ServerTurn.{step_on, taken, tick_due}
use Rattle.nq_base.specs.declared.Party.{Party}
use Rattle.nq_keeper.specs.Keeping.{LeavesOne, Reads}
use Rattle.nq_keeper.specs.declared.KeepFault.{KeepFault}
use Rattle.nq_keeper.specs.declared.KeepFault.TheVariants as keep
use Rattle.nq_base.specs.declared.ending.fault.Fault.{Fault}
use Rattle.nq_serving.proofs.ServerTurns.{letter_not_link}
use Rattle.nq_server.specs.Holding.{IsTaken}
use Rattle.nq_server.specs.Stepping.{LeavesStep}
use Rattle.nq_server.specs.declared.Received.{Received}

-- a keeper that tells what it keeps
abbrev pub Tells : Option Kept → Type 0
Tells told = (kept : Kept) × (told ≡ Some kept)

module _ {K : Type 0} (content : K → Option Kept) (faults : K → ℕ) where
  step-tells : (given : Given) (how : Received) (at after : Node K) → goes_on how ≡ Ok tt
      → IsTaken (step_on given at) how (content at.server.keeper) (content after.server.keeper) (faults at.server.keeper)
      (faults after.server.keeper) at.server after.server at.out after.out at.log after.log
      → (kept : Kept) → content at.server.keeper ≡ Some kept → Tells (content after.server.keeper)
  step-tells given Received.Done at after so t kept told = ((step_on given at kept).server.kept, (t.0 kept told).makes.keeps)
  step-tells given (Received.Dropped reason) at after so t kept told = ((step_on given at kept).server.kept, (t.0 kept told).makes.keeps)
  step-tells given Received.Fault at after so t kept told = absurd (cc)
  step-tells given Received.Memory at after so t kept told = absurd (cc)
  step-tells given Received.Spent at after so t kept told = absurd (cc)

  -- a keeper tells after a step that did not stop the turn
  pub taken_tells : (given : Option Given) (at after : Node K) → Takes content faults given (Ok tt) at after
      → (kept : Kept) → content at.server.keeper ≡ Some kept → Tells (content after.server.keeper)
  taken_tells None at after t kept told = subst (λ m. Tells (content m.server.keeper)) (sym t.1) (kept, told)
  taken_tells (Some given) at after t kept told = step-tells given t.how at after (sym t.so) t.takes kept told

-- an extension that did not stop the turn keeps what is told
answer-tells : (made : Result Unit KeepFault) (told tells : Option Kept) (before count : ℕ) → answered made ≡ Ok tt → Reads made told tells before count
    → tells ≡ told
answer-tells (Ok done) told tells before count so r = r.0
answer-tells (Err keep.Failed) told tells before count so r = absurd (cc)
answer-tells (Err keep.Memory) told tells before count so r = absurd (cc)

module _ {K : Type 0} (content : K → Option Kept) (faults : K → ℕ) (extension : Extension) where
  own-tells : (own : Bool) (host : ℕ) (bytes : List ℕ) (at after : Node K) → TakesOf content faults extension own host bytes (Ok tt) at after
      → (kept : Kept) → content at.server.keeper ≡ Some kept → Tells (content after.server.keeper)
  own-tells true host bytes at after a kept told = (
    kept,
    answer-tells a.made (content at.server.keeper) (content after.server.keeper) (faults at.server.keeper) (faults after.server.keeper) (sym a.so) a.reads
        ∙ told,
  )
  own-tells false host bytes at after t kept told = taken_tells content faults (Some (datagram host bytes)) at after t kept told

  letter-tells : (letter : Letter) (at after : Node K) → TakesLetter content faults extension letter (Ok tt) at after
      → (kept : Kept) → content at.server.keeper ≡ Some kept → Tells (content after.server.keeper)
  letter-tells (Party.Server, bytes) at after t kept told = taken_tells content faults None at after t kept told
  letter-tells (Party.Client host, bytes) at after t kept told = own-tells (extension.owns bytes) host bytes at after t kept told

  -- the same behind a datagram that came, if one did
  pub came_tells : (came : Option Letter) (at after : Node K) → TakesCame content faults extension came (Ok tt) at after
      → (kept : Kept) → content at.server.keeper ≡ Some kept → Tells (content after.server.keeper)
  came_tells None at after t kept told = taken_tells content faults None at after t kept told
  came_tells (Some letter) at after t kept told = letter-tells letter at after t kept told

module _ {K : Type 0} (content : K → Option Kept) (faults : K → ℕ) (follows : K → K → Type 0) (leaves : K → K → Option Kept → Type 0)
    (on : (first second third : K) → follows first second → follows second third → follows first third)
    (parts : (first middle last : K)
    (found : Option Kept) → follows first middle → follows middle last → leaves first last found → leaves first middle found ⊎ leaves middle last found) where
  -- one step leaves what was kept before it or after it
  pub step_leaves : (given : Given) (at after : Node K) → follows at.server.keeper after.server.keeper
      → LeavesStep (step_on given at) (content at.server.keeper) (leaves at.server.keeper after.server.keeper)
      → LeavesOnly content follows leaves at.server.keeper after.server.keeper (IsLeftAt content (Some given) at)
  step_leaves given at after same step kept told first found before left = split (parts first at.server.keeper after.server.keeper found before same left)
    where
      one : (found ≡ Some kept) ⊎ (found ≡ Some (step_on given at kept).server.kept) → IsLeftAt content (Some given) at found
      one (inl e) = inl (e ∙ sym told)
      one (inr e) = inr (kept, told, e)

      split : leaves first at.server.keeper found ⊎ leaves at.server.keeper after.server.keeper found
          → leaves first at.server.keeper found ⊎ IsLeftAt content (Some given) at found
      split (inl earlier) = inl earlier
      split (inr here) = inr (one (step kept told found here))

  -- the same of a tick that is due
  pub tick_leaves : (reading : ℕ) (at after : Node K) → nat_lt at.server.beside.time reading ≡ true → follows at.server.keeper after.server.keeper
      → LeavesStep (step_on (ticks reading) at) (content at.server.keeper) (leaves at.server.keeper after.server.keeper)
      → LeavesOnly content follows leaves at.server.keeper after.server.keeper (IsLeftAt content (tick_due at.server.beside.time reading) at)
  tick_leaves reading at after above same step =
      subst (λ b. LeavesOnly content follows leaves at.server.keeper after.server.keeper (IsLeftAt content (if b then Some (ticks reading) else None) at))
      (sym above) (step_leaves (ticks reading) at after same step)

  -- an extension leaves what was kept
  pub answer_leaves : (at after : K) → follows at after → LeavesOne (content at) (leaves at after)
      → (moment : Node K) → moment.server.keeper ≡ at → LeavesOnly content follows leaves at after (IsLeftAt content None moment)
  answer_leaves at after same one moment is kept told first found before left = split (parts first at after found before same left)
    where
      split : leaves first at found ⊎ leaves at after found → leaves first at found ⊎ (found ≡ content moment.server.keeper)
      split (inl earlier) = inl earlier
      split (inr here) = inr (one kept told found here ∙ sym told ∙ ap content (sym is))

module _ {K : Type 0} (content : K → Option Kept) (faults : K → ℕ) (extension : Extension) (follows : K → K → Type 0) (leaves : K → K → Option Kept → Type 0)
    (on : (first second third : K) → follows first second → follows second third → follows first third)
    (parts : (first middle last : K)
    (found : Option Kept) → follows first middle → follows middle last → leaves first last found → leaves first middle found ⊎ leaves middle last found) where
  -- where nothing was taken in, nothing else is left
  pub still_leaves : (received : Result Bool Fault) (link link' : LinkTold) (at : Node K) → Receives content faults extension received link link' at at
      → LeavesReceiving content faults extension follows leaves received link link' at at
  still_leaves received link link' at r = record { receives = r; left = λ kept told first found before left. inl left }

  -- a datagram came, and was taken in or refused
  pub came_leaves : (made : Result Unit Fault) (letter : Letter) (link link' : LinkTold) (at after : Node K)
      → TakesFrom content faults extension (Some letter) made link link' at after
      → LeavesOnly content follows leaves at.server.keeper after.server.keeper (IsLeftAt content (given_by extension letter) at)
      → LeavesReceiving content faults extension follows leaves (taken made) link link' at after
  came_leaves (Ok tt) letter link link' at after from left = record { receives = (Some letter, refl, from); left = left }
  came_leaves (Err Fault.Link) letter link link' at after from left = absurd (letter_not_link content faults extension letter at after from.takes)
  came_leaves (Err Fault.Keep) letter link link' at after from left = record { receives = (Some letter, from); left = left }
  came_leaves (Err Fault.Memory) letter link link' at after from left = record { receives = (Some letter, from); left = left }
  came_leaves (Err Fault.Spent) letter link link' at after from left = record { receives = (Some letter, from); left = left }
  came_leaves (Err Fault.NoAnswer) letter link link' at after from left = record { receives = (Some letter, from); left = left }

  -- the turn stopped at its tick
  pub stopped_leaves : (why : Fault) (reading : ℕ) (clock clock' : ClockTold) (link : LinkTold) (at after : Node K)
      → ReadsOnce reading clock clock' → Takes content faults (tick_due at.server.beside.time reading) (Err why) at after
      → LeavesOnly content follows leaves at.server.keeper after.server.keeper (IsLeftAt content (tick_due at.server.beside.time reading) at)
      → LeavesStages content faults extension follows leaves (Err why) clock clock' link link at after
  stopped_leaves why reading clock clock' link at after read takes left = record {
    stages = record { reading = reading; read = read; goes = Err why; between = after; ticks = takes; rest = (refl, refl, refl) };
    left = λ kept told first found before l. only (leaves first at.server.keeper found) (IsLeftAt content
        (tick_due at.server.beside.time reading) at found) (left kept told first found before l);
  }
    where
      only : (L I : Type 0) → L ⊎ I → L ⊎ (I ⊎ ⊥)
      only L I (inl earlier) = inl earlier
      only L I (inr here) = inr (inl here)

  -- the turn went on after its tick
  pub went_on_leaves : (ended : Result Bool Fault) (ticked : Bool) (reading : ℕ) (clock clock' : ClockTold) (link link' : LinkTold)
      (at between after : Node K)
      → ReadsOnce reading clock clock' → Takes content faults (tick_due at.server.beside.time reading) (Ok tt) at between
      → ticked ≡ nat_lt at.server.beside.time reading
      → LeavesOnly content follows leaves at.server.keeper between.server.keeper (IsLeftAt content (tick_due at.server.beside.time reading) at)
      → follows at.server.keeper between.server.keeper
      → LeavesBehind content faults extension follows leaves (Ok tt) ended ticked link link' between after
      → LeavesStages content faults extension follows leaves ended clock clock' link link' at after
  went_on_leaves ended ticked reading clock clock' link link' at between after read takes is tick same rest =
      joined (subst (λ t. LeavesBehind content faults extension follows leaves (Ok tt) ended t link link' between after) is rest)
    where
      earlier : (first : K) (found : Option Kept) (Behind : Type 0)
          → leaves first at.server.keeper found ⊎ IsLeftAt content (tick_due at.server.beside.time reading) at found
          → leaves first at.server.keeper found ⊎ (IsLeftAt content (tick_due at.server.beside.time reading) at found ⊎ Behind)
      earlier first found Behind (inl l) = inl l
      earlier first found Behind (inr here) = inr (inl here)

      split : (kept : Kept) → content at.server.keeper ≡ Some kept → (first : K) (found : Option Kept) (Behind : Type 0) → follows first at.server.keeper
          → leaves first between.server.keeper found ⊎ Behind
          → leaves first at.server.keeper found ⊎ (IsLeftAt content (tick_due at.server.beside.time reading) at found ⊎ Behind)
      split kept told first found Behind before (inl l) = earlier first found Behind (tick kept told first found before l)
      split kept told first found Behind before (inr behind) = inr (inr behind)

      joined : LeavesBehind content faults extension follows leaves (Ok tt) ended (nat_lt at.server.beside.time reading) link link' between after
          → LeavesStages content faults extension follows leaves ended clock clock' link link' at after
      joined b = record {
        stages = record { reading = reading; read = read; goes = Ok tt; between = between; ticks = takes; rest = b.rest };
        left =
            λ kept told first found before l.
            let tells = taken_tells content faults (tick_due at.server.beside.time reading) at between takes kept told in
            split kept told first found (IsLeftBehind content faults extension (Ok tt) ended
            (nat_lt at.server.beside.time reading) link link' between after b.rest found) before
            (b.left tells.0 tells.1 first found (on first at.server.keeper between.server.keeper before same) l);
      }
