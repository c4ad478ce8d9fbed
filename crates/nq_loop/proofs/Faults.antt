-- The links' counts of faults over the turns of a loop: one rises where a turn stops for a fault of a link, and none elsewhere.
use Rattle.std.proofs.Common.{◌≡◌, ◌⊎◌, ℕ, zero, suc, Bool, true, false, List, [], ◌∷◌, map, Option, Some, None, Result, Ok, Err, inl, inr, refl, sym}
use Rattle.std.proofs.Common.{ap, subst, ◌∙◌}
use Rattle.std.specs.Prelude.{slice_get, slice_set}
use Rattle.nq_base.specs.declared.Event.{Event}
use Rattle.nq_base.specs.declared.Party.{Party}
use Rattle.nq_base.specs.declared.ending.ending.Ending.{Ending}
use Rattle.nq_io.specs.Faults.{Rose, count_up}
use Rattle.nq_loop.proofs.Posts.{get-map}
use Rattle.nq_loop.specs.Looped.{HasRisen, LoopEnds, LoopsUnlessFault, StopsSilently, between}
use Rattle.nq_loop.specs.Looping.{Delivers, Gives, GivesDue, HearsAt, IsHeard, IsTaken, IsUnheard, Makes, MissesAt, Moment, Step, Takes, TakesIn}
use Rattle.nq_loop.specs.Looping.{TakesTurn, call_due, came_to, moved, sends_at}
use Rattle.nq_loop.specs.Sending.{FailsAt, changed_at, place_of, sent_all, sent_one, with_sent}
use Rattle.nq_loop.specs.Steps.{MakesAll, MakesSteps}
use Rattle.nq_loop.specs.Turning.{Between, Goes}
use Rattle.nq_loop.specs.Whole.{loop_head}
use Rattle.nq_loop.specs.declared.turns.Halt.{Halt}
use Rattle.nq_model.specs.protocol.World.{Head}
use Rattle.nq_link.specs.Packets.{Datagram}
use Rattle.nq_clock.specs.Clocks.{ClockTold}
use Rattle.nq_link.specs.Links.{Letter, LinkTold}
use Rattle.nq_replay.specs.Playing.{beginning}
use Rattle.nq_replay.specs.Ending.{CountsKeeper}

-- the counts of faults of links
abbrev counts_of : List LinkTold → List ℕ
counts_of links = map (λ (l : LinkTold). l.faults) links

-- ---- links that stay

changed-same : (d : Datagram) (links : List LinkTold) (place : ℕ) → counts_of (changed_at place (with_sent d) links) ≡ counts_of links
changed-same d [] place = refl
changed-same d (l ∷ links) zero = refl
changed-same d (l ∷ links) (suc place) = ap (λ counts. l.faults ∷ counts) (changed-same d links place)

sent-same : (ds : List Datagram) (links : List LinkTold) → counts_of (sent_all ds links) ≡ counts_of links
sent-same [] links = refl
sent-same (d ∷ later) links = sent-same later (sent_one d links) ∙ changed-same d links (place_of d.sender)

set-same : (links : List LinkTold) (place : ℕ) (old new : LinkTold) → slice_get links place ≡ Some old → new.faults ≡ old.faults
    → counts_of (slice_set links place new) ≡ counts_of links
set-same [] place old new there same = absurd (cc)
set-same (l ∷ links) zero old new there same =
    let one : l ≡ old = cc in
    let count : new.faults ≡ l.faults = same ∙ ap (λ (k : LinkTold). k.faults) (sym one) in
    ap (λ n. n ∷ counts_of links) count
set-same (l ∷ links) (suc place) old new there same = ap (λ counts. l.faults ∷ counts) (set-same links place old new there same)

heard-same : (place : ℕ) (came : Option Letter) (at after : List LinkTold) → HearsAt place came at after → counts_of after ≡ counts_of at
heard-same place came at after hears =
    ap counts_of hears.heard ∙ set-same at place hears.link (record hears.link { waiting = hears.waiting; receives = count_up hears.link.receives })
    hears.there refl

moment-same : (at after : Moment) → after ≡ at → counts_of after.links ≡ counts_of at.links
moment-same at after is = ap (λ (m : Moment). counts_of m.links) is

-- ---- a link that fails

get-set : (links : List LinkTold) (place : ℕ) (old new : LinkTold) → slice_get links place ≡ Some old → slice_get (slice_set links place new) place ≡ Some new
get-set [] place old new there = absurd (cc)
get-set (l ∷ links) zero old new there = refl
get-set (l ∷ links) (suc place) old new there = get-set links place old new there

-- a link with this count
found : (links : List LinkTold) (place count : ℕ) → slice_get (counts_of links) place ≡ Some count → (link : LinkTold)
    × (slice_get links place ≡ Some link) × (link.faults ≡ count)
found [] place count there = absurd (cc)
found (l ∷ links) zero count there = let same : l.faults ≡ count = cc in (l, refl, same)
found (l ∷ links) (suc place) count there = found links place count there

rises-behind : (a b c : List LinkTold) → counts_of b ≡ counts_of a → HasRisen b c → HasRisen a c
rises-behind a b c same rises =
    let there : slice_get (counts_of a) rises.place ≡ Some rises.link.faults =
    subst (λ counts. slice_get counts rises.place ≡ Some rises.link.faults) same (get-map (λ (l : LinkTold). l.faults) b rises.place rises.link
    rises.before) in
    let first = found a rises.place rises.link.faults there in
    record {
      place = rises.place;
      link = first.0;
      link' = rises.link';
      before = first.1;
      behind = rises.behind;
      rose = subst (λ n. Rose n rises.link'.faults) (sym first.2) rises.rose;
    }

fails-rises : (place : ℕ) (at after : List LinkTold) → FailsAt place at after → HasRisen at after
fails-rises place at after fails =
    let new : LinkTold = record fails.link { faults = fails.count } in
    record {
      place = place;
      link = fails.link;
      link' = new;
      before = fails.there;
      behind = subst (λ links. slice_get links place ≡ Some new) (sym fails.failed) (get-set at place fails.link new fails.there);
      rose = fails.rose;
    }

misses-rises : (place : ℕ) (at after : List LinkTold) → MissesAt place at after → HasRisen at after
misses-rises place at after misses =
    let new : LinkTold = record misses.link { faults = misses.count; receives = count_up misses.link.receives } in
    record {
      place = place;
      link = misses.link;
      link' = new;
      before = misses.there;
      behind = subst (λ links. slice_get links place ≡ Some new) (sym misses.missed) (get-set at place misses.link new misses.there);
      rose = misses.rose;
    }

-- ---- steps

abbrev Counts : Result Bool Halt → (at after : List LinkTold) → Type 0
Counts (Err Halt.Link) at after = HasRisen at after
Counts other at after = counts_of after ≡ counts_of at

counts-on : (ended : Result Bool Halt) (a b c : List LinkTold) → counts_of b ≡ counts_of a → Counts ended b c → Counts ended a c
counts-on (Ok any) a b c same counts = counts ∙ same
counts-on (Err Halt.Link) a b c same counts = rises-behind a b c same counts
counts-on (Err Halt.Keep) a b c same counts = counts ∙ same
counts-on (Err Halt.Memory) a b c same counts = counts ∙ same
counts-on (Err (Halt.Limit limit)) a b c same counts = counts ∙ same

taken-counts : (head : Head) (event : Event) (sending : Result Unit Halt) (at after : Moment) → IsTaken head event sending at after
    → Counts (moved sending) at.links after.links
taken-counts head event (Ok done) at after taken = ap counts_of taken.sends ∙ sent-same (sends_at head at.events event) at.links
taken-counts head event (Err Halt.Link) at after taken =
    let f = taken.sends in
    rises-behind at.links (sent_all f.front at.links) after.links (sent-same f.front at.links) (fails-rises (place_of f.refused.sender)
    (sent_all f.front at.links) after.links f.fails)
taken-counts head event (Err Halt.Memory) at after taken =
    let f = taken.sends in
    ap counts_of f.sent ∙ sent-same f.front at.links
taken-counts head event (Err Halt.Keep) at after taken = absurd taken.sends
taken-counts head event (Err (Halt.Limit limit)) at after taken = absurd taken.sends

lacks-counts : (head : Head) (event : Event) (at after : Moment) → (after ≡ at) ⊎ IsTaken head event (Err Halt.Memory) at after
    → counts_of after.links ≡ counts_of at.links
lacks-counts head event at after (inl same) = moment-same at after same
lacks-counts head event at after (inr taken) = taken-counts head event (Err Halt.Memory) at after taken

gives-counts : (head : Head) (event : Event) (ended : Result Bool Halt) (at after : Moment) → Gives head event ended at after → Counts ended at.links
    after.links
gives-counts head event (Ok any) at after gives = taken-counts head event (Ok tt) at after gives.1
gives-counts head event (Err Halt.Link) at after gives = taken-counts head event (Err Halt.Link) at after gives
gives-counts head event (Err Halt.Keep) at after gives = moment-same at after gives
gives-counts head event (Err Halt.Memory) at after gives = lacks-counts head event at after gives
gives-counts head event (Err (Halt.Limit limit)) at after gives = moment-same at after gives.1

stays-counts : (ended : Result Bool Halt) (any : Bool) (at after : Moment) → ended ≡ Ok any → after ≡ at → Counts ended at.links after.links
stays-counts ended any at after is same = subst (λ e. Counts e at.links after.links) (sym is) (moment-same at after same)

due-counts : (head : Head) (due : Option Event) (ended : Result Bool Halt) (at after : Moment) → GivesDue head due ended at after
    → Counts ended at.links after.links
due-counts head None ended at after gives = stays-counts ended false at after gives.0 gives.1
due-counts head (Some event) ended at after gives = gives-counts head event ended at after gives

delivers-counts : (head : Head) (number : Option ℕ) (ended : Result Bool Halt) (at after : Moment) → Delivers head number ended at after
    → Counts ended at.links after.links
delivers-counts head None ended at after delivers = stays-counts ended true at after delivers.0 delivers.1
delivers-counts head (Some number) ended at after delivers = gives-counts head (Event.Deliver number) ended at after delivers

takes-counts : (head : Head) (d : Datagram) (ended : Result Bool Halt) (at after : Moment) → Takes head d ended at after → Counts ended at.links after.links
takes-counts head d ended at after (inl counted) = delivers-counts head counted.number ended at after counted.delivers
takes-counts head d ended at after (inr lacks) = subst (λ e. Counts e at.links after.links) (sym lacks.0) (moment-same at after lacks.1)

takes-in-counts : (head : Head) (party : Party) (came : Option Letter) (ended : Result Bool Halt) (at after : Moment) → TakesIn head party came ended
    at after → Counts ended at.links after.links
takes-in-counts head party None ended at after takes = stays-counts ended false at after takes.0 takes.1
takes-in-counts head party (Some letter) ended at after takes = takes-counts head (came_to party letter) ended at after takes

receives-counts : (head : Head) (party : Party) (ended : Result Bool Halt) (at after : Moment) → IsHeard head party ended at after
    ⊎ IsUnheard party ended at after → Counts ended at.links after.links
receives-counts head party ended at after (inl heard) =
    counts-on ended at.links heard.links after.links (heard-same (place_of party) heard.came at.links heard.links heard.hears)
    (takes-in-counts head party heard.came ended (record at { links = heard.links }) after heard.takes)
receives-counts head party ended at after (inr unheard) =
    subst (λ e. Counts e at.links after.links) (sym unheard.why) (misses-rises (place_of party) at.links after.links unheard.fails)

step-counts : (head : Head) (step : Step) (ended : Result Bool Halt) (at after : Moment) → Makes head step ended at after → Counts ended at.links after.links
step-counts head (Step.given event) ended at after makes = gives-counts head event ended at after makes
step-counts head (Step.call host) ended at after makes = due-counts head (call_due head host at.events) ended at after makes
step-counts head (Step.receive party) ended at after makes = receives-counts head party ended at after makes

all-counts : (head : Head) (steps : List Step) (any : Bool) (at after : Moment) → MakesAll (Makes head) steps any at after → counts_of after.links
    ≡ counts_of at.links
all-counts head [] any at after makes = moment-same at after makes.1
all-counts head (step ∷ later) any at after makes =
    all-counts head later makes.1 makes.2 after makes.4 ∙ step-counts head step (Ok makes.0) at makes.2 makes.3

steps-counts : (head : Head) (steps : List Step) (ended : Result Bool Halt) (at after : Moment) → MakesSteps (Makes head) steps ended at after
    → Counts ended at.links after.links
steps-counts head steps (Ok any) at after makes = all-counts head steps any at after makes
steps-counts head steps (Err why) at after stops =
    counts-on (Err why) at.links stops.between.links after.links (all-counts head stops.front stops.moved at stops.between stops.before)
    (step-counts head stops.next (Err why) stops.between after stops.last)

-- ---- turns

turn-counts : (head : Head) (ended : Result Bool Halt) (clock clock' : ClockTold) (at after : Moment) → TakesTurn head ended clock clock' at after
    → Counts ended at.links after.links
turn-counts head ended clock clock' at after takes = steps-counts head _ ended at after takes.made

goes-counts : (head : Head) (count : ℕ) (at after : Between) → Goes head count at after → counts_of after.moment.links ≡ counts_of at.moment.links
goes-counts head zero at after goes = ap (λ (b : Between). counts_of b.moment.links) goes
goes-counts head (suc count) at after goes =
    let last = goes.2 in
    turn-counts head (Ok last.1) goes.0.clock after.clock goes.0.moment after.moment last.2 ∙ goes-counts head count at goes.0 goes.1

-- a loop that a fault of a link ended has a link that counted one
link-risen : (hosts turns : ℕ) (clock clock' : ClockTold) (links links' : List LinkTold) (held now : Option (List ℕ)) (w w' : ℕ)
    → StopsSilently Halt.Link hosts turns clock clock' links links' held now w w' → HasRisen links links'
link-risen hosts turns clock clock' links links' held now w w' silent =
    let s = silent.stops in
    let head = beginning (loop_head hosts) in
    let before : counts_of s.between.moment.links ≡ counts_of links = goes-counts head s.count (between [] links clock) s.between s.goes in
    rises-behind links s.between.moment.links links' before (turn-counts head (Err Halt.Link) s.between.clock clock' s.between.moment _ s.last)

-- without a counted fault a loop takes its turns or comes to a limit, or memory was wanting
pub loops-unless : (end : Ending) (hosts turns : ℕ) (clock clock' : ClockTold) (links links' : List LinkTold) (held now : Option (List ℕ))
    (w w' k k' : ℕ) → LoopEnds end hosts turns clock clock' links links' held now w w' → CountsKeeper end k k'
    → LoopsUnlessFault end links links' w w' ⊎ ((end ≡ Ending.KeepFault) × Rose k k')
loops-unless Ending.Done hosts turns clock clock' links links' held now w w' k k' ends counts = inl (inl refl)
loops-unless Ending.WriteFault hosts turns clock clock' links links' held now w w' k k' ends counts = inl (inr (inr ends.printed.1))
loops-unless Ending.Memory hosts turns clock clock' links links' held now w w' k k' ends counts = inl (inr (inr tt))
loops-unless Ending.LinkFault hosts turns clock clock' links links' held now w w' k k' ends counts =
    inl (inr (inr (link-risen hosts turns clock clock' links links' held now w w' ends)))
loops-unless Ending.KeepFault hosts turns clock clock' links links' held now w w' k k' ends counts = inr (refl, counts)
loops-unless Ending.Limit hosts turns clock clock' links links' held now w w' k k' ends counts = inl (inr (inl refl))
loops-unless other hosts turns clock clock' links links' held now w w' k k' ends counts = absurd ends
