-- Which counts a turn of a server raises, and how much the server takes in in it.
use Rattle.std.proofs.Common.{◌≡◌, ◌+◌, ◌≤◌, ◌⊎◌, inl, inr, ◌||◌, nat_lt, ℕ, Bool, true, false, List, Option, Some, None, Result, Ok, Err, refl, sym}
use Rattle.std.proofs.Common.{subst, arith}
use Rattle.nq_base.specs.Entries.{EntryList}
use Rattle.nq_link.specs.Link.{Letters}
use Rattle.nq_model.specs.protocol.Kept.{Kept}
use Rattle.nq_model.specs.protocol.Profile.{most_taken_by_server}
use Rattle.nq_model.specs.protocol.Server.{ServerStep}
use Rattle.nq_clock.specs.Clocks.{ClockTold}
use Rattle.nq_link.specs.Links.{Letter, LinkTold}
use Rattle.nq_base.specs.declared.Party.{Party}
use Rattle.nq_keeper.specs.Keeping.{Reads}
use Rattle.nq_keeper.specs.declared.KeepFault.{KeepFault}
use Rattle.nq_keeper.specs.declared.KeepFault.TheVariants as keep
use Rattle.nq_serving.specs.Extending.{Extension}
use Rattle.nq_serving.specs.ServerTurn.{CountsKeep, CountsLink, Given, GoesOn, Receives, Sends, SendsOut, ServesTurn, Stages, Takes}
use Rattle.nq_serving.specs.declared.node.Node.{Node}
use Rattle.nq_serving.specs.ServerTurn.{TakesCame, TakesLetter, TakesOf, answered, datagram, goes_on, step_on, tick_due}
use Rattle.nq_base.specs.declared.ending.fault.Fault.{Fault}
use Rattle.nq_serving.proofs.ServerTurns.{not_link}
use Rattle.nq_server.specs.Holding.{Holding, IsTaken}
use Rattle.nq_server.specs.declared.Received.{Received}
use Rattle.nq_wire.specs.Outbox.{Datagrams}

-- ---- one step

step-keep : {K : Type 0} (how : Received) (step : Kept → ServerStep) (told tells : Option Kept) (before count : ℕ) (old new : Holding K) (out out' : Datagrams)
    (log log' : EntryList) → IsTaken step how told tells before count old new out out' log log' → CountsKeep (goes_on how) before count
step-keep Received.Done step told tells before count old new out out' log log' t = t.1
step-keep (Received.Dropped reason) step told tells before count old new out out' log log' t = t.1
step-keep Received.Fault step told tells before count old new out out' log log' t = t.1
step-keep Received.Memory step told tells before count old new out out' log log' t = t.1
step-keep Received.Spent step told tells before count old new out out' log log' t = t.1

step-few : {K : Type 0} (how : Received) (step : Kept → ServerStep) (told tells : Option Kept) (before count : ℕ) (old new : Holding K) (out out' : Datagrams)
    (log log' : EntryList) → IsTaken step how told tells before count old new out out' log log' → new.taken ≤ old.taken + 1
step-few Received.Done step told tells before count old new out out' log log' t = omega (arith, t.2)
step-few (Received.Dropped reason) step told tells before count old new out out' log log' t = omega (arith, t.2)
step-few Received.Fault step told tells before count old new out out' log log' t = let same = t.2.untouched.taken in omega arith
step-few Received.Memory step told tells before count old new out out' log log' t = let same = t.2.untouched.taken in omega arith
step-few Received.Spent step told tells before count old new out out' log log' t = let same = t.2.untouched.taken in omega arith

only-spent : (how : Received) → goes_on how ≡ Err Fault.Spent → how ≡ Received.Spent
only-spent Received.Done same = absurd (cc)
only-spent (Received.Dropped reason) same = absurd (cc)
only-spent Received.Fault same = absurd (cc)
only-spent Received.Memory same = absurd (cc)
only-spent Received.Spent same = refl

-- ---- sending

sent-link : (letters : Letters) (moved : Bool) (ended : Result Bool Fault) (link link' : LinkTold) → SendsOut letters moved ended link link'
    → CountsLink ended link.faults link'.faults
sent-link letters moved (Ok so) link link' s = s.1.2.1
sent-link letters moved (Err Fault.Link) link link' s = s.2.1
sent-link letters moved (Err Fault.Keep) link link' s = absurd s
sent-link letters moved (Err Fault.Memory) link link' s = absurd s
sent-link letters moved (Err Fault.Spent) link link' s = absurd s
sent-link letters moved (Err Fault.NoAnswer) link link' s = absurd s

sent-keep : (letters : Letters) (moved : Bool) (ended : Result Bool Fault) (link link' : LinkTold) (before now : ℕ) → SendsOut letters moved ended link link'
    → now ≡ before → CountsKeep ended before now
sent-keep letters moved (Ok so) link link' before now s same = same
sent-keep letters moved (Err Fault.Link) link link' before now s same = same
sent-keep letters moved (Err Fault.Keep) link link' before now s same = absurd s
sent-keep letters moved (Err Fault.Memory) link link' before now s same = absurd s
sent-keep letters moved (Err Fault.Spent) link link' before now s same = absurd s
sent-keep letters moved (Err Fault.NoAnswer) link link' before now s same = absurd s

-- why a stage stopped is why the turn does
as-ended : (why : Fault) (before now : ℕ) → CountsKeep {X = Unit} (Err why) before now → CountsKeep {X = Bool} (Err why) before now
as-ended Fault.Link before now counts = counts
as-ended Fault.Keep before now counts = counts
as-ended Fault.Memory before now counts = counts
as-ended Fault.Spent before now counts = counts
as-ended Fault.NoAnswer before now counts = counts

-- ---- what an extension answers

answer-keep : (made : Result Unit KeepFault) (told tells : Option Kept) (before count : ℕ) → Reads made told tells before count
    → CountsKeep (answered made) before count
answer-keep (Ok done) told tells before count r = r.1
answer-keep (Err keep.Memory) told tells before count r = r.1
answer-keep (Err keep.Failed) told tells before count r = r.1

not-spent : (made : Result Unit KeepFault) → answered made ≡ Err Fault.Spent → ⊥
not-spent (Ok done) same = absurd (cc)
not-spent (Err keep.Memory) same = absurd (cc)
not-spent (Err keep.Failed) same = absurd (cc)

module _ {K : Type 0} (content : K → Option Kept) (faults : K → ℕ) where
  -- ---- what the server is given

  given-keep : (given : Option Given) (goes : Result Unit Fault) (at after : Node K) → Takes content faults given goes at after
      → CountsKeep goes (faults at.server.keeper) (faults after.server.keeper)
  given-keep None goes at after t = rw (t.0, t.1) refl
  given-keep (Some given) goes at after s =
      rw s.so (step-keep s.how (step_on given at) (content at.server.keeper) (content after.server.keeper) (faults at.server.keeper)
      (faults after.server.keeper)
      at.server after.server at.out after.out at.log after.log s.takes)

  given-few : (given : Option Given) (goes : Result Unit Fault) (at after : Node K) → Takes content faults given goes at after
      → after.server.taken ≤ at.server.taken + 1
  given-few None goes at after t = rw t.1 (omega arith)
  given-few (Some given) goes at after s =
      step-few s.how (step_on given at) (content at.server.keeper) (content after.server.keeper) (faults at.server.keeper) (faults after.server.keeper)
      at.server after.server at.out after.out at.log after.log s.takes

  given-spent : (given : Option Given) (at after : Node K) → Takes content faults given (Err Fault.Spent) at after
      → at.server.taken ≡ most_taken_by_server
  given-spent None at after t = let same = t.0 in absurd (cc)
  given-spent (Some given) at after s = s.spent.0 (only-spent s.how (sym s.so))

module _ {K : Type 0} (content : K → Option Kept) (faults : K → ℕ) (extension : Extension) where
  -- ---- a datagram that came

  own-keep : (own : Bool) (host : ℕ) (bytes : List ℕ) (goes : Result Unit Fault) (at after : Node K)
      → TakesOf content faults extension own host bytes goes at after → CountsKeep goes (faults at.server.keeper) (faults after.server.keeper)
  own-keep true host bytes goes at after a =
      rw a.so (answer-keep a.made (content at.server.keeper) (content after.server.keeper) (faults at.server.keeper) (faults after.server.keeper) a.reads)
  own-keep false host bytes goes at after t = given-keep content faults (Some (datagram host bytes)) goes at after t

  letter-keep : (letter : Letter) (goes : Result Unit Fault) (at after : Node K) → TakesLetter content faults extension letter goes at after
      → CountsKeep goes (faults at.server.keeper) (faults after.server.keeper)
  letter-keep (Party.Server, bytes) goes at after t = given-keep content faults None goes at after t
  letter-keep (Party.Client host, bytes) goes at after t = own-keep (extension.owns bytes) host bytes goes at after t

  came-keep : (came : Option Letter) (goes : Result Unit Fault) (at after : Node K) → TakesCame content faults extension came goes at after
      → CountsKeep goes (faults at.server.keeper) (faults after.server.keeper)
  came-keep None goes at after t = given-keep content faults None goes at after t
  came-keep (Some letter) goes at after t = letter-keep letter goes at after t

  own-few : (own : Bool) (host : ℕ) (bytes : List ℕ) (goes : Result Unit Fault) (at after : Node K)
      → TakesOf content faults extension own host bytes goes at after → after.server.taken ≤ at.server.taken + 1
  own-few true host bytes goes at after a = let same = a.untouched.taken in omega arith
  own-few false host bytes goes at after t = given-few content faults (Some (datagram host bytes)) goes at after t

  letter-few : (letter : Letter) (goes : Result Unit Fault) (at after : Node K) → TakesLetter content faults extension letter goes at after
      → after.server.taken ≤ at.server.taken + 1
  letter-few (Party.Server, bytes) goes at after t = given-few content faults None goes at after t
  letter-few (Party.Client host, bytes) goes at after t = own-few (extension.owns bytes) host bytes goes at after t

  came-few : (came : Option Letter) (goes : Result Unit Fault) (at after : Node K) → TakesCame content faults extension came goes at after
      → after.server.taken ≤ at.server.taken + 1
  came-few None goes at after t = given-few content faults None goes at after t
  came-few (Some letter) goes at after t = letter-few letter goes at after t

  own-spent : (own : Bool) (host : ℕ) (bytes : List ℕ) (at after : Node K)
      → TakesOf content faults extension own host bytes (Err Fault.Spent) at after → at.server.taken ≡ most_taken_by_server
  own-spent true host bytes at after a = absurd (not-spent a.made (sym a.so))
  own-spent false host bytes at after t = given-spent content faults (Some (datagram host bytes)) at after t

  letter-spent : (letter : Letter) (at after : Node K) → TakesLetter content faults extension letter (Err Fault.Spent) at after
      → at.server.taken ≡ most_taken_by_server
  letter-spent (Party.Server, bytes) at after t = given-spent content faults None at after t
  letter-spent (Party.Client host, bytes) at after t = own-spent (extension.owns bytes) host bytes at after t

  came-spent : (came : Option Letter) (at after : Node K) → TakesCame content faults extension came (Err Fault.Spent) at after
      → at.server.taken ≡ most_taken_by_server
  came-spent None at after t = given-spent content faults None at after t
  came-spent (Some letter) at after t = letter-spent letter at after t

  -- ---- receiving

  received-keep : (received : Result Bool Fault) (link link' : LinkTold) (at after : Node K) → Receives content faults extension received link link' at after
      → CountsKeep received (faults at.server.keeper) (faults after.server.keeper)
  received-keep (Ok some) link link' at after r = came-keep r.0 (Ok tt) at after r.2.takes
  received-keep (Err Fault.Link) link link' at after r = rw r.same refl
  received-keep (Err Fault.Keep) link link' at after r = came-keep r.0 (Err Fault.Keep) at after r.1.takes
  received-keep (Err Fault.Memory) link link' at after r = came-keep r.0 (Err Fault.Memory) at after r.1.takes
  received-keep (Err Fault.Spent) link link' at after r = came-keep r.0 (Err Fault.Spent) at after r.1.takes
  received-keep (Err Fault.NoAnswer) link link' at after r = came-keep r.0 (Err Fault.NoAnswer) at after r.1.takes

  received-link : (received : Result Bool Fault) (link link' : LinkTold) (at after : Node K) → Receives content faults extension received link link' at after
      → CountsLink received link.faults link'.faults
  received-link (Ok some) link link' at after r = r.2.count
  received-link (Err Fault.Link) link link' at after r = r.count
  received-link (Err Fault.Keep) link link' at after r = r.1.count
  received-link (Err Fault.Memory) link link' at after r = r.1.count
  received-link (Err Fault.Spent) link link' at after r = r.1.count
  received-link (Err Fault.NoAnswer) link link' at after r = r.1.count

  received-few : (received : Result Bool Fault) (link link' : LinkTold) (at after : Node K) → Receives content faults extension received link link' at after
      → after.server.taken ≤ at.server.taken + 1
  received-few (Ok some) link link' at after r = came-few r.0 (Ok tt) at after r.2.takes
  received-few (Err Fault.Link) link link' at after r = rw r.same (omega arith)
  received-few (Err Fault.Keep) link link' at after r = came-few r.0 (Err Fault.Keep) at after r.1.takes
  received-few (Err Fault.Memory) link link' at after r = came-few r.0 (Err Fault.Memory) at after r.1.takes
  received-few (Err Fault.Spent) link link' at after r = came-few r.0 (Err Fault.Spent) at after r.1.takes
  received-few (Err Fault.NoAnswer) link link' at after r = came-few r.0 (Err Fault.NoAnswer) at after r.1.takes

  -- ---- behind the receive

  sends-keep : (received ended : Result Bool Fault) (ticked : Bool) (link link' : LinkTold) (after : Node K) (before : ℕ)
      → Sends received ended ticked link link' after → CountsKeep received before (faults after.server.keeper)
      → CountsKeep ended before (faults after.server.keeper)
  sends-keep (Err why) ended ticked link link' after before s counts = rw s.0 counts
  sends-keep (Ok came) ended ticked link link' after before s counts =
      sent-keep after.out.datagrams (ticked || came) ended link link' before (faults after.server.keeper) s counts

  sends-link : (received ended : Result Bool Fault) (ticked : Bool) (link between link' : LinkTold) (after : Node K)
      → Sends received ended ticked between link' after → CountsLink received link.faults between.faults
      → CountsLink ended link.faults link'.faults
  sends-link (Err why) ended ticked link between link' after s counts = rw (s.0, s.1) counts
  sends-link (Ok came) ended ticked link between link' after s counts =
      subst (λ n. CountsLink ended n link'.faults) counts (sent-link after.out.datagrams (ticked || came) ended between link' s)

  sends-spent : (received : Result Bool Fault) (ticked : Bool) (between link link' : LinkTold) (at after : Node K)
      → Receives content faults extension received link between at after → Sends received (Err Fault.Spent) ticked between link' after
      → at.server.taken ≡ most_taken_by_server
  sends-spent (Ok came) ticked between link link' at after r s = absurd s
  sends-spent (Err Fault.Link) ticked between link link' at after r s = let same = s.0 in absurd (cc)
  sends-spent (Err Fault.Keep) ticked between link link' at after r s = let same = s.0 in absurd (cc)
  sends-spent (Err Fault.Memory) ticked between link link' at after r s = let same = s.0 in absurd (cc)
  sends-spent (Err Fault.Spent) ticked between link link' at after r s = came-spent r.0 at after r.1.takes
  sends-spent (Err Fault.NoAnswer) ticked between link link' at after r s = let same = s.0 in absurd (cc)

  -- ---- behind the tick

  rest-keep : (goes : Result Unit Fault) (ended : Result Bool Fault) (ticked : Bool) (link link' : LinkTold) (at after : Node K) (before : ℕ)
      → GoesOn content faults extension goes ended ticked link link' at after → CountsKeep goes before (faults at.server.keeper)
      → CountsKeep ended before (faults after.server.keeper)
  rest-keep (Err why) ended ticked link link' at after before g counts =
      rw (g.0, g.2) (as-ended why before (faults at.server.keeper) counts)
  rest-keep (Ok tt) ended ticked link link' at after before g counts =
      sends-keep g.0 ended ticked g.1 link' after before g.3
      (subst (λ n. CountsKeep g.0 n (faults after.server.keeper)) counts (received-keep g.0 link g.1 at after g.2))

  rest-link : (goes : Result Unit Fault) (ended : Result Bool Fault) (ticked : Bool) (link link' : LinkTold) (at after : Node K)
      → (goes ≡ Err Fault.Link → ⊥) → GoesOn content faults extension goes ended ticked link link' at after → CountsLink ended link.faults link'.faults
  rest-link (Err Fault.Link) ended ticked link link' at after not g = absurd (not refl)
  rest-link (Err Fault.Keep) ended ticked link link' at after not g = rw (g.0, g.1) refl
  rest-link (Err Fault.Memory) ended ticked link link' at after not g = rw (g.0, g.1) refl
  rest-link (Err Fault.Spent) ended ticked link link' at after not g = rw (g.0, g.1) refl
  rest-link (Err Fault.NoAnswer) ended ticked link link' at after not g = rw (g.0, g.1) refl
  rest-link (Ok tt) ended ticked link link' at after not g =
      sends-link g.0 ended ticked link g.1 link' after g.3 (received-link g.0 link g.1 at after g.2)

  rest-few : (goes : Result Unit Fault) (ended : Result Bool Fault) (ticked : Bool) (link link' : LinkTold) (at after : Node K)
      → GoesOn content faults extension goes ended ticked link link' at after → after.server.taken ≤ at.server.taken + 1
  rest-few (Err why) ended ticked link link' at after g = rw g.2 (omega arith)
  rest-few (Ok tt) ended ticked link link' at after g = received-few g.0 link g.1 at after g.2

  rest-spent : (goes : Result Unit Fault) (ticked : Bool) (link link' : LinkTold) (at after : Node K)
      → GoesOn content faults extension goes (Err Fault.Spent) ticked link link' at after → (goes ≡ Err Fault.Spent) ⊎ (at.server.taken ≡ most_taken_by_server)
  rest-spent (Err Fault.Link) ticked link link' at after g = let same = g.0 in absurd (cc)
  rest-spent (Err Fault.Keep) ticked link link' at after g = let same = g.0 in absurd (cc)
  rest-spent (Err Fault.Memory) ticked link link' at after g = let same = g.0 in absurd (cc)
  rest-spent (Err Fault.Spent) ticked link link' at after g = inl refl
  rest-spent (Err Fault.NoAnswer) ticked link link' at after g = let same = g.0 in absurd (cc)
  rest-spent (Ok tt) ticked link link' at after g = inr (sends-spent g.0 ticked g.1 link link' at after g.2 g.3)

  -- ---- the whole turn

  stages-keep : (ended : Result Bool Fault) (clock clock' : ClockTold) (link link' : LinkTold) (at after : Node K)
      → Stages content faults extension ended clock clock' link link' at after → CountsKeep ended (faults at.server.keeper) (faults after.server.keeper)
  stages-keep ended clock clock' link link' at after s =
      rest-keep s.goes ended (nat_lt at.server.beside.time s.reading) link link' s.between after (faults at.server.keeper) s.rest
      (given-keep content faults (tick_due at.server.beside.time s.reading) s.goes at s.between s.ticks)

  stages-link : (ended : Result Bool Fault) (clock clock' : ClockTold) (link link' : LinkTold) (at after : Node K)
      → Stages content faults extension ended clock clock' link link' at after → CountsLink ended link.faults link'.faults
  stages-link ended clock clock' link link' at after s =
      let due = tick_due at.server.beside.time s.reading in
      rest-link s.goes ended (nat_lt at.server.beside.time s.reading) link link' s.between after
      (λ same. not_link content faults due at s.between (subst (λ goes. Takes content faults due goes at s.between) same s.ticks)) s.rest

  stages-few : (ended : Result Bool Fault) (clock clock' : ClockTold) (link link' : LinkTold) (at after : Node K)
      → Stages content faults extension ended clock clock' link link' at after → after.server.taken ≤ at.server.taken + 2
  stages-few ended clock clock' link link' at after s =
      let first = given-few content faults (tick_due at.server.beside.time s.reading) s.goes at s.between s.ticks in
      let rest = rest-few s.goes ended (nat_lt at.server.beside.time s.reading) link link' s.between after s.rest in
      omega arith

  stages-spent : (ended : Result Bool Fault) (clock clock' : ClockTold) (link link' : LinkTold) (at after : Node K) → ended ≡ Err Fault.Spent
      → Stages content faults extension ended clock clock' link link' at after → (taken : ℕ) × (taken ≡ most_taken_by_server) × (taken ≤ at.server.taken + 1)
  stages-spent ended clock clock' link link' at after is s =
      let ticked = nat_lt at.server.beside.time s.reading in
      let due = tick_due at.server.beside.time s.reading in
      let first = given-few content faults due s.goes at s.between s.ticks in
      let rest = subst (λ e. GoesOn content faults extension s.goes e ticked link link' s.between after) is s.rest in
      elim (rest-spent s.goes ticked link link' s.between after rest) [
        | inl same ↦
            let all = given-spent content faults due at s.between (subst (λ goes. Takes content faults due goes at s.between) same s.ticks) in
            (at.server.taken, all, omega arith)
        | inr all ↦ (s.between.server.taken, all, first)
      ]

  -- the count of the keeper's faults rises where a turn stops for the keeper, and stays otherwise
  pub turn_keep : (ended : Result Bool Fault) (next next' : ℕ) (clock clock' : ClockTold) (link link' : LinkTold) (server server' : Holding K)
      (log log' : EntryList)
      → ServesTurn content faults extension ended next next' clock clock' link link' server server' log log'
      → CountsKeep ended (faults server.keeper) (faults server'.keeper)
  turn_keep ended next next' clock clock' link link' server server' log log' t =
      stages-keep ended clock clock' link link' (record { server = server; out = t.out; log = log }) (record { server = server'; out = t.out'; log = log' })
      t.stages

  -- the count of the link's faults rises where a turn stops for the link, and stays otherwise
  pub turn_link : (ended : Result Bool Fault) (next next' : ℕ) (clock clock' : ClockTold) (link link' : LinkTold) (server server' : Holding K)
      (log log' : EntryList)
      → ServesTurn content faults extension ended next next' clock clock' link link' server server' log log' → CountsLink ended link.faults link'.faults
  turn_link ended next next' clock clock' link link' server server' log log' t =
      stages-link ended clock clock' link link' (record { server = server; out = t.out; log = log }) (record { server = server'; out = t.out'; log = log' })
      t.stages

  -- a turn takes in two at most: a tick and a datagram
  pub turn_few : (ended : Result Bool Fault) (next next' : ℕ) (clock clock' : ClockTold) (link link' : LinkTold) (server server' : Holding K)
      (log log' : EntryList)
      → ServesTurn content faults extension ended next next' clock clock' link link' server server' log log' → server'.taken ≤ server.taken + 2
  turn_few ended next next' clock clock' link link' server server' log log' t =
      stages-few ended clock clock' link link' (record { server = server; out = t.out; log = log }) (record { server = server'; out = t.out'; log = log' })
      t.stages

  -- a turn stops because no more is taken in only where all are taken in, or all but one
  pub turn_spent : (next next' : ℕ) (clock clock' : ClockTold) (link link' : LinkTold) (server server' : Holding K) (log log' : EntryList)
      → ServesTurn content faults extension (Err Fault.Spent) next next' clock clock' link link' server server' log log'
      → (taken : ℕ) × (taken ≡ most_taken_by_server) × (taken ≤ server.taken + 1)
  turn_spent next next' clock clock' link link' server server' log log' t =
      stages-spent (Err Fault.Spent) clock clock' link link' (record { server = server; out = t.out; log = log })
      (record { server = server'; out = t.out'; log = log' }) refl t.stages
