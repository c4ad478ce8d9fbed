-- Steps of a loop, and how it stands behind them.
use Rattle.std.proofs.Common.{◌≡◌, ℕ, ◌+◌, ◌≤◌, Bool, false, List, [], ◌∷◌, ◌++◌, length, take, drop, Ok, Err, Some, suc, refl, sym, subst, ◌∙◌}
use Rattle.std.proofs.Common.{add-one, append_assoc}
use Rattle.std.proofs.lemmas.List.{take_all}
use Rattle.std.specs.Prelude.{Result, ◌||◌, slice_get}
use Rattle.nq_base.specs.declared.Event.{Event}
use Rattle.nq_loop.proofs.Joining.{IsFront, join, one-ends, stops-within}
use Rattle.nq_loop.proofs.Posts.{parted, take-more}
use Rattle.nq_loop.specs.Holding.{CountsKeep, GivesTo, IsLooping, Keeps, Loop, Loops, Stands, moment_of}
use Rattle.nq_loop.specs.Looping.{Makes, Step}
use Rattle.nq_loop.specs.Steps.{behind}
use Rattle.nq_loop.specs.declared.turns.Halt.{Halt}
use Rattle.nq_model.specs.protocol.World.{Head}

-- ---- how a loop stands

pub stands-behind : {K : Type 0} (head : Head) (moved : Bool) (ended : Result Bool Halt) (l : Loop K) → Stands head ended l
    → Stands head (behind moved ended) l
stands-behind head moved (Ok more) l stands = stands
stands-behind head moved (Err why) l stands = stands

-- no step
pub no-steps : {K : Type 0} (head : Head) (l : Loop K) → IsLooping head l → Loops head [] (Ok false) l l
no-steps head l looping = record { makes = (refl, refl); stands = looping }

-- one step
pub one-step : {K : Type 0} (head : Head) (step : Step) (ended : Result Bool Halt) (old new : Loop K) → Makes head step ended (moment_of old)
    (moment_of new) → Stands head ended new → Loops head (step ∷ []) ended old new
one-step head step ended old new makes stands = record { makes = one-ends (Makes head) step ended (moment_of old) (moment_of new) makes; stands = stands }

-- an event
pub given-step : {K : Type 0} (head : Head) (event : Event) (ended : Result Bool Halt) (old new : Loop K) → GivesTo head event ended old new
    → Loops head (Step.given event ∷ []) ended old new
given-step head event ended old new is = one-step head (Step.given event) ended old new is.gives is.stands

-- steps behind steps
pub then : {K : Type 0} (head : Head) (front later : List Step) (one : Bool) (ended : Result Bool Halt) (old between new : Loop K)
    → Loops head front (Ok one) old between → Loops head later ended between new → Loops head (front ++ later) (behind one ended) old new
then head front later one ended old between new first second = record {
  makes = join (Makes head) front later one ended (moment_of old) (moment_of between) (moment_of new) first.makes second.makes;
  stands = stands-behind head one ended new second.stands;
}

-- it stopped among some of the steps
pub cut : {K : Type 0} (head : Head) (front all : List Step) (why : Halt) (old new : Loop K) → IsFront front all → Loops head front (Err why) old new
    → Loops head all (Err why) old new
cut head front all why old new is loops = record {
  makes = stops-within (Makes head) front all why (moment_of old) (moment_of new) is loops.makes;
  stands = loops.stands;
}

-- ---- steps, up to a place

pub step-more : {K : Type 0} (head : Head) (steps : List Step) (place : ℕ) (step : Step) (some more any : Bool) (old between new : Loop K)
    → slice_get steps place ≡ Some step → any ≡ (some || more) → Loops head (take place steps) (Ok some) old between → Loops head (step ∷ [])
    (Ok more) between new → Loops head (take (place + 1) steps) (Ok any) old new
step-more head steps place step some more any old between new there is first second =
    rw (add-one place, take-more steps place step there, is) (then head (take place steps) (step ∷ []) some (Ok more) old between new first second)

pub step-stops : {K : Type 0} (head : Head) (steps : List Step) (place : ℕ) (step : Step) (some : Bool) (why : Halt) (old between new : Loop K)
    → slice_get steps place ≡ Some step → Loops head (take place steps) (Ok some) old between → Loops head (step ∷ []) (Err why) between new
    → Loops head steps (Err why) old new
step-stops head steps place step some why old between new there first second =
    cut head (take place steps ++ step ∷ []) steps why old new
    (record {
      later = drop (suc place) steps;
      parts = parted steps place step there ∙ sym (append_assoc (take place steps) (step ∷ [])
          (drop (suc place) steps));
    })
    (then head (take place steps) (step ∷ []) some (Err why) old between new first second)

pub steps-whole : {K : Type 0} (head : Head) (steps : List Step) (place : ℕ) (ended : Result Bool Halt) (old new : Loop K) → length steps ≤ place
    → Loops head (take place steps) ended old new → Loops head steps ended old new
steps-whole head steps place ended old new past loops = rw (take_all place steps past) at loops

-- ---- what is kept

counts-on : (ended : Result Bool Halt) (first second last : ℕ) → second ≡ first → CountsKeep ended second last → CountsKeep ended first last
counts-on ended first second last is counts = subst (λ n. CountsKeep ended n last) is counts

pub keeps-then : (one : Bool) (ended : Result Bool Halt) (f0 f1 f2 c0 c1 c2 h0 h1 h2 : ℕ) → Keeps (Ok one) f0 f1 c0 c1 h0 h1 → Keeps ended f1 f2 c1 c2
    h1 h2 → Keeps ended f0 f2 c0 c2 h0 h2
keeps-then one ended f0 f1 f2 c0 c1 c2 h0 h1 h2 first second = record {
  faults = counts-on ended f0 f1 f2 first.faults second.faults;
  clients_are = second.clients_are ∙ first.clients_are;
  hosts_are = second.hosts_are ∙ first.hosts_are;
}

-- whether something was moved makes no difference
pub keeps-any : (one other : Bool) (f0 f1 c0 c1 h0 h1 : ℕ) → Keeps (Ok one) f0 f1 c0 c1 h0 h1 → Keeps (Ok other) f0 f1 c0 c1 h0 h1
keeps-any one other f0 f1 c0 c1 h0 h1 keeps = record { faults = keeps.faults; clients_are = keeps.clients_are; hosts_are = keeps.hosts_are }
