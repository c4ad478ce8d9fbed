-- The stages of a client's turn.
use Rattle.std.proofs.Common.{◌≡◌, ℕ, Option, Some, None, Result, Ok, Err, refl, sym, subst}
use Rattle.std.specs.Prelude.{⊤}
use Rattle.nq_base.specs.declared.Answer.{Answer}
use Rattle.nq_client.specs.declared.Reaction.{Reaction}
use Rattle.nq_hosts.specs.ClientTurn.{Given, GoesOn, Moment, Receives, Stages, Takes, TakesFrom, given_by, goes_on, tick_due}
use Rattle.nq_clock.specs.Clocks.{ClockTold, ReadsOnce}
use Rattle.nq_link.specs.Links.{Hears, Letter, LinkTold, ReceivesOnce, most_bytes}
use Rattle.nq_base.specs.declared.ending.fault.Fault.{Fault}

-- why a client itself stops a turn
abbrev pub IsOwn : Fault → Type 0
IsOwn Fault.Link = ⊥
IsOwn Fault.Keep = ⊥
IsOwn Fault.Memory = ⊤
IsOwn Fault.Spent = ⊤
IsOwn Fault.NoAnswer = ⊥

own : (how : Reaction) (why : Fault) → goes_on how ≡ Err why → IsOwn why
own Reaction.Nothing why same = absurd (cc)
own (Reaction.Answered answer) why same = absurd (cc)
own Reaction.Ignored why same = absurd (cc)
own Reaction.Memory why same = let is : Fault.Memory ≡ why = cc in subst IsOwn is tt
own Reaction.Spent why same = let is : Fault.Spent ≡ why = cc in subst IsOwn is tt

-- what a client is given stops the turn for no other reason
pub own_only : (why : Fault) (given : Option Given) (at after : Moment) → Takes given (Err why) at after → IsOwn why
own_only why None at after takes = let same = takes.0 in absurd (cc)
own_only why (Some given) at after steps = own steps.how why (sym steps.so)

came_as : (made : Result (Option Answer) Fault) (letter : Letter) (link link' : LinkTold) (at after : Moment)
    → TakesFrom (Some letter) made link link' at after → Receives made link link' at after
came_as (Ok answer) letter link link' at after from = (Some letter, from)
came_as (Err Fault.Link) letter link link' at after from = absurd (own_only Fault.Link (given_by letter) at after from.takes)
came_as (Err Fault.Memory) letter link link' at after from = (Some letter, from)
came_as (Err Fault.Spent) letter link link' at after from = (Some letter, from)
came_as (Err Fault.Keep) letter link link' at after from = (Some letter, from)
came_as (Err Fault.NoAnswer) letter link link' at after from = (Some letter, from)

-- a datagram came and was taken in, or refused
pub one_came : (made : Result (Option Answer) Fault) (letter : Letter) (link link' : LinkTold) (at after : Moment)
    → Hears most_bytes (Some letter) link.waiting link'.waiting → link'.sent ≡ link.sent → ReceivesOnce link link' → link'.faults ≡ link.faults
    → Takes (given_by letter) made at after → Receives made link link' at after
one_came made letter link link' at after hears sent receives count takes =
    came_as made letter link link' at after (record { hears = hears; sent = sent; receives = receives; count = count; takes = takes })

-- the clock was read, and the turn stopped at the tick
pub stopped : (why : Fault) (reading : ℕ) (clock clock' : ClockTold) (link : LinkTold) (at after : Moment)
    → ReadsOnce reading clock clock' → Takes (tick_due at.client.client.now reading) (Err why) at after
    → Stages (Err why) clock clock' link link at after
stopped why reading clock clock' link at after read takes = record {
  reading = reading;
  read = read;
  goes = Err why;
  between = after;
  ticks = takes;
  rest = (refl, refl, refl);
}

-- the turn went on after its tick
pub went_on : (ended : Result (Option Answer) Fault) (ticked : Option Answer) (reading : ℕ) (clock clock' : ClockTold) (link link' : LinkTold)
    (at between after : Moment)
    → ReadsOnce reading clock clock' → Takes (tick_due at.client.client.now reading) (Ok ticked) at between
    → GoesOn (Ok ticked) ended link link' between after
    → Stages ended clock clock' link link' at after
went_on ended ticked reading clock clock' link link' at between after read takes rest = record {
  reading = reading;
  read = read;
  goes = Ok ticked;
  between = between;
  ticks = takes;
  rest = rest;
}
