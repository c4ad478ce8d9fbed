-- Which counts a turn of a client raises.
use Rattle.std.proofs.Common.{◌≡◌, ℕ, Option, Result, Ok, Err, refl, subst}
use Rattle.nq_base.specs.declared.Answer.{Answer}
use Rattle.nq_base.specs.Entries.{EntryList}
use Rattle.nq_client.specs.Counted.{Counted}
use Rattle.nq_link.specs.Link.{Letters}
use Rattle.nq_hosts.specs.ClientTurn.{AttendsTurn, CountsLink, GoesOn, Moment, Receives, Sends, SendsOut, Stages, Takes, first_of, given_of, tick_due}
use Rattle.nq_clock.specs.Clocks.{ClockTold}
use Rattle.nq_link.specs.Links.{LinkTold}
use Rattle.nq_base.specs.declared.ending.fault.Fault.{Fault}
use Rattle.nq_hosts.proofs.ClientTurns.{IsOwn, own_only}

sent-link : (letters : Letters) (answer : Option Answer) (ended : Result (Option Answer) Fault) (link link' : LinkTold)
    → SendsOut letters answer ended link link' → CountsLink ended link.faults link'.faults
sent-link letters answer (Ok said) link link' s = s.1.2.1
sent-link letters answer (Err Fault.Link) link link' s = s.2.1
sent-link letters answer (Err Fault.Memory) link link' s = absurd s
sent-link letters answer (Err Fault.Spent) link link' s = absurd s
sent-link letters answer (Err Fault.Keep) link link' s = absurd s
sent-link letters answer (Err Fault.NoAnswer) link link' s = absurd s

received-link : (received : Result (Option Answer) Fault) (link link' : LinkTold) (at after : Moment) → Receives received link link' at after
    → CountsLink received link.faults link'.faults
received-link (Ok answer) link link' at after r = r.1.count
received-link (Err Fault.Link) link link' at after r = r.count
received-link (Err Fault.Memory) link link' at after r = r.1.count
received-link (Err Fault.Spent) link link' at after r = r.1.count
received-link (Err Fault.Keep) link link' at after r = absurd (own_only Fault.Keep (given_of r.0) at after r.1.takes)
received-link (Err Fault.NoAnswer) link link' at after r = absurd (own_only Fault.NoAnswer (given_of r.0) at after r.1.takes)

sends-link : (received ended : Result (Option Answer) Fault) (ticked : Option Answer) (link between link' : LinkTold) (after : Moment)
    → Sends received ended ticked between link' after → CountsLink received link.faults between.faults → CountsLink ended link.faults link'.faults
sends-link (Err why) ended ticked link between link' after s counts = rw (s.0, s.1) counts
sends-link (Ok came) ended ticked link between link' after s counts =
    subst (λ n. CountsLink ended n link'.faults) counts (sent-link after.out.datagrams (first_of ticked came) ended between link' s)

rest-link : (goes ended : Result (Option Answer) Fault) (link link' : LinkTold) (at after : Moment) → ((why : Fault) → goes ≡ Err why → IsOwn why)
    → GoesOn goes ended link link' at after → CountsLink ended link.faults link'.faults
rest-link (Err Fault.Link) ended link link' at after only g = absurd (only Fault.Link refl)
rest-link (Err Fault.Keep) ended link link' at after only g = absurd (only Fault.Keep refl)
rest-link (Err Fault.Memory) ended link link' at after only g = rw (g.0, g.1) refl
rest-link (Err Fault.Spent) ended link link' at after only g = rw (g.0, g.1) refl
rest-link (Err Fault.NoAnswer) ended link link' at after only g = absurd (only Fault.NoAnswer refl)
rest-link (Ok ticked) ended link link' at after only g = sends-link g.0 ended ticked link g.1 link' after g.3 (received-link g.0 link g.1 at after g.2)

stages-link : (ended : Result (Option Answer) Fault) (clock clock' : ClockTold) (link link' : LinkTold) (at after : Moment)
    → Stages ended clock clock' link link' at after → CountsLink ended link.faults link'.faults
stages-link ended clock clock' link link' at after s =
    let due = tick_due at.client.client.now s.reading in
    rest-link s.goes ended link link' s.between after
    (λ why same. own_only why due at s.between (subst (λ goes. Takes due goes at s.between) same s.ticks)) s.rest

-- the count of the link's faults rises where a turn stops for the link, and stays otherwise
pub turn_link : (ended : Result (Option Answer) Fault) (next next' : ℕ) (clock clock' : ClockTold) (link link' : LinkTold) (client client' : Counted)
    (log log' : EntryList) → AttendsTurn ended next next' clock clock' link link' client client' log log' → CountsLink ended link.faults link'.faults
turn_link ended next next' clock clock' link link' client client' log log' t =
    stages-link ended clock clock' link link' (record { client = client; out = t.out; log = log; next = next })
    (record { client = client'; out = t.out'; log = log'; next = next' }) t.stages
