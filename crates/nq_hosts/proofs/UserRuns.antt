-- Turns and calls of a client, case by case.
use Rattle.std.proofs.Common.{◌≡◌, ◌∙◌, ℕ, Bool, true, false, [], ◌++◌, map, Result, Ok, Err, refl, ap, subst}
use Rattle.nq_base.specs.declared.Who.{Who}
use Rattle.nq_client.specs.Finishing.{to_server}
use Rattle.nq_base.specs.declared.ending.fault.Fault.{Fault}
use Rattle.nq_link.specs.Link.{Letters}
use Rattle.nq_model.specs.protocol.ClientStep.{starts}
use Rattle.nq_link.specs.Links.{LinkTold}
use Rattle.nq_hosts.specs.Calling.{SendsOut, Waits}
use Rattle.nq_hosts.specs.Running.{Begins, term_wanted}
use Rattle.nq_hosts.specs.UserTurning.{Between, EndsWithin, TakesTurns}
use Rattle.nq_hosts.specs.declared.user.aims.Aim.{Aim}

-- turns that stopped within their number
pub stopped : (aim : Aim) (turns : ℕ) (why : Fault) (at after : Between) → EndsWithin aim turns (Err why) at after → TakesTurns aim turns (Err why) at after
stopped aim turns Fault.Link at after ends = ends
stopped aim turns Fault.Memory at after ends = ends
stopped aim turns Fault.Spent at after ends = ends
stopped aim turns Fault.Keep at after ends = ends
stopped aim turns Fault.NoAnswer at after ends = absurd ends.last

-- a call that has its answer at once
pub at_once : (turns : ℕ) (answered : Bool) (at : Between) → answered ≡ true → Waits turns answered (Ok tt) at at
at_once turns true at so = (refl, refl)
at_once turns false at so = absurd (cc)

-- a call for whose answer turns were taken
pub later : (turns : ℕ) (answered : Bool) (result : Result Unit Fault) (at after : Between) → answered ≡ false → TakesTurns Aim.Answered turns result at after
    → Waits turns answered result at after
later turns true result at after so took = absurd (cc)
later turns false result at after so took = took

-- what a start puts into an outbox that was empty
letters-of : (who : Who) (time : ℕ) (letters first : Letters) → first ≡ [] → letters ≡ first ++ map to_server (starts who term_wanted time).sends
    → letters ≡ map to_server (starts who term_wanted time).sends
letters-of who time letters first none sent = sent ∙ ap (λ (ds : Letters). ds ++ map to_server (starts who term_wanted time).sends) none

-- a client whose first datagrams were sent
pub begun : (who : Who) (time : ℕ) (letters first : Letters) (link link' : LinkTold) → first ≡ []
    → letters ≡ first ++ map to_server (starts who term_wanted time).sends → SendsOut letters (Ok tt) link link'
    → SendsOut (map to_server (starts who term_wanted time).sends) (Ok tt) link link'
begun who time letters first link link' none sent s =
    subst (λ ds. SendsOut ds (Ok tt) link link') (letters-of who time letters first none sent) s

-- a client whose first datagrams were not sent
pub not_begun : (who : Who) (time : ℕ) (why : Fault) (letters first : Letters) (link link' : LinkTold) → first ≡ []
    → letters ≡ first ++ map to_server (starts who term_wanted time).sends → SendsOut letters (Err why) link link' → Begins who time (Err why) link link'
not_begun who time Fault.Link letters first link link' none sent s =
    subst (λ ds. SendsOut ds (Err Fault.Link) link link') (letters-of who time letters first none sent) s
not_begun who time Fault.Keep letters first link link' none sent s = absurd s
not_begun who time Fault.Memory letters first link link' none sent s = absurd s
not_begun who time Fault.Spent letters first link link' none sent s = absurd s
not_begun who time Fault.NoAnswer letters first link link' none sent s = absurd s
