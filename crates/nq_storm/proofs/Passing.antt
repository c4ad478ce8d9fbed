-- One moment of a storm.
use Rattle.std.proofs.Common.{◌≡◌, ℕ, ◌<◌, Bool, List, [], ◌∷◌, ◌++◌, length, Option, refl, sym, ap, subst, ◌∙◌, arith}
use Rattle.std.proofs.lemmas.List.{reverse-append}
use Rattle.std.specs.List.{AllByRecursion}
use Rattle.std.specs.Prelude.{◌↔◌, IsTrue, reverse, unwrap_or}
use Rattle.nq_base.specs.declared.Call.{Call}
use Rattle.nq_base.specs.declared.Event.{Event}
use Rattle.nq_model.specs.protocol.Kept.{Kept}
use Rattle.nq_model.specs.protocol.Skew.{IsWithinSkew}
use Rattle.nq_model.specs.protocol.World.{Head}
use Rattle.nq_replay.proofs.Limits.{is_reached}
use Rattle.nq_replay.proofs.Steps.{as-many, next-is}
use Rattle.nq_replay.specs.Delivering.{Marks, least_undelivered, next_packet}
use Rattle.nq_replay.specs.Going.{IsAt}
use Rattle.nq_script.specs.Calls.{IsFilledCall}
use Rattle.nq_script.specs.Lines.{IsFilledEvent}
use Rattle.nq_storm.specs.Ending.{CountsFaults, EndsAt, Gives, Halts, IsInStorm, KeepsOn, Stands, ending_of}
use Rattle.nq_storm.specs.Storming.{IsChosen, IsOffered}
use Rattle.nq_storm.specs.declared.stormed.Stormed.{Stormed}
use Rattle.nq_storm.specs.Rules.{Rule}
use Rattle.nq_storm.specs.Stormy.{IsStormy, WritesNumber}
use Rattle.nq_storm.specs.declared.fates.offers.Offer.{Offer}
use Rattle.nq_world.proofs.Refused.{still-plays}
use Rattle.nq_world.specs.Playing.{CanCome, CountsFaults as Counted, HasSettings, Plays, Steps, WorldOver}
use Rattle.nq_world.specs.declared.stepped.Stepped.{Stepped}

-- ---- what can come

of-menus : (event : Event) → IsStormy event → CanCome 4 60 event
of-menus (Event.Call host call) stormy = stormy.0
of-menus (Event.Deliver k) stormy = tt
of-menus Event.ServerTick stormy = tt
of-menus (Event.ClientTick host) stormy = stormy
of-menus (Event.Restart host) stormy = stormy
of-menus (Event.Crash longest) stormy = (omega (arith, stormy), omega (arith, stormy))

-- an event of a menu can come to the world of a storm
pub can_come : {K : Type 0} (event : Event) (w : WorldOver K) → HasSettings 4 60 30 w → IsStormy event → CanCome (length w.clients) w.skew.window event
can_come event w settings stormy = rw (settings.hosts_are, settings.longest_is) (of-menus event stormy)

-- what a storm writes is filled with a number
pub filled_call : (call : Call) → WritesNumber call → IsFilledCall call
filled_call (Call.Write file block body) writes = writes
filled_call (Call.Put file block body) writes = writes
filled_call other writes = tt

pub filled_event : (event : Event) → IsStormy event → IsFilledEvent event
filled_event (Event.Call host call) stormy = filled_call call stormy.1
filled_event other stormy = tt

-- ---- what is offered

pub is_offered : {K : Type 0} (head : Head) (events : List Event) (w : WorldOver K) (told : Option Kept) (flags : List Bool) (sent word : ℕ)
    (next : Option ℕ) (offer : Offer) → IsAt head events w told flags
    → sent ≡ length w.datagrams → ((es : List Event) → Marks flags es → next ≡ least_undelivered 0 sent es) → offer.packets ≡ sent → offer.fresh
    ≡ unwrap_or next sent
    → (IsTrue offer.server_tick ↔ IsWithinSkew head.hosts head.longest (Event.ServerTick ∷ events)) → offer.word ≡ word
    → IsOffered head events word offer
is_offered head events w told flags sent word next offer at many least packets fresh tick same =
    let here : next_packet head events ≡ next = next-is head events w told flags sent next at many least in
    record {
      packets = packets ∙ many ∙ as-many head events w told at.plays;
      fresh = rw (here, packets) fresh;
      server_tick = tick;
      word_is = same;
    }

-- ---- what a world answers

refused : {K : Type 0} (head : Head) (events : List Event) (event : Event) (said : Stepped) (old new : WorldOver K) (told tells : Option Kept)
    → Steps head events event said old new told tells → Plays head events old told → (said ≡ Stepped.Done → ⊥)
    → Halts (ending_of said) head events × Stands (ending_of said) head events new tells
refused head events event Stepped.Done old new told tells steps plays other = absurd (other refl)
refused head events event Stepped.NoPacket old new told tells steps plays other =
    (tt, still-plays head events old new told tells plays steps.1 steps.2)
refused head events event (Stepped.SkewBroken broken) old new told tells steps plays other =
    (tt, still-plays head events old new told tells plays steps.1 steps.2)
refused head events event (Stepped.Limit limit) old new told tells steps plays other =
    (is_reached head events event limit steps.0, still-plays head events old new told tells plays steps.1 steps.2)
refused head events event Stepped.Fault old new told tells steps plays other =
    (tt, (old, told, plays, steps.1, steps.2))
refused head events event Stepped.Memory old new told tells steps plays other =
    (tt, still-plays head events old new told tells plays steps.1 steps.2)

halting : {K : Type 0} (ended : Stormed) (head : Head) (events : List Event) (event : Event) (new : WorldOver K) (tells : Option Kept)
    (flags : List Bool) → (ended ≡ Stormed.Done → ⊥)
    → Halts ended head events × Stands ended head events new tells → Gives ended head events event new tells flags
halting Stormed.Done head events event new tells flags other both = absurd (other refl)
halting (Stormed.Limit limit) head events event new tells flags other both = both
halting Stormed.Fault head events event new tells flags other both = both
halting Stormed.Memory head events event new tells flags other both = both

pub never_done : (said : Stepped) → ending_of said ≡ Stormed.Done → ⊥
never_done Stepped.Done is = absurd (cc)
never_done Stepped.NoPacket is = absurd (cc)
never_done (Stepped.SkewBroken broken) is = absurd (cc)
never_done (Stepped.Limit limit) is = absurd (cc)
never_done Stepped.Fault is = absurd (cc)
never_done Stepped.Memory is = absurd (cc)

pub not_given : {K : Type 0} (head : Head) (events : List Event) (event : Event) (said : Stepped) (ended : Stormed) (old new : WorldOver K)
    (told tells : Option Kept) (flags : List Bool) → ended ≡ ending_of said
    → Steps head events event said old new told tells → Plays head events old told → (said ≡ Stepped.Done → ⊥) → Gives ended head events event new tells flags
not_given head events event said ended old new told tells flags is steps plays other =
    rw is (halting (ending_of said) head events event new tells flags (never_done said) (refused head events event said old new told tells steps plays other))

-- ---- what the world keeps

on_settings : {K : Type 0} (old new : WorldOver K) → HasSettings 4 60 30 old → HasSettings (length old.clients) old.skew.window old.term new
    → HasSettings 4 60 30 new
on_settings old new first second = record {
  hosts_are = second.hosts_are ∙ first.hosts_are;
  longest_is = second.longest_is ∙ first.longest_is;
  term_is = second.term_is ∙ first.term_is;
}

counts_refused : (said : Stepped) (before now : ℕ) → (said ≡ Stepped.Done → ⊥) → Counted said before now → CountsFaults (ending_of said) before now
counts_refused Stepped.Done before now other counts = absurd (other refl)
counts_refused Stepped.NoPacket before now other counts = counts
counts_refused (Stepped.SkewBroken broken) before now other counts = counts
counts_refused (Stepped.Limit limit) before now other counts = counts
counts_refused Stepped.Fault before now other counts = counts
counts_refused Stepped.Memory before now other counts = counts

-- behind an event that was taken in
pub keeps_taken : {K : Type 0} (faults : K → ℕ) (follows : K → K → Type 0) (old new : WorldOver K) → HasSettings 4 60 30 old
    → faults new.server.keeper ≡ faults old.server.keeper → follows old.server.keeper new.server.keeper → HasSettings (length old.clients)
    old.skew.window old.term new → KeepsOn faults follows Stormed.Done old new
keeps_taken faults follows old new here counts keeper settings = record { counts = counts; keeper = keeper; settings = on_settings old new here settings }

-- behind one that was not
pub keeps_refused : {K : Type 0} (faults : K → ℕ) (follows : K → K → Type 0) (said : Stepped) (ended : Stormed) (old new : WorldOver K)
    → HasSettings 4 60 30 old → ended ≡ ending_of said → (said ≡ Stepped.Done → ⊥)
    → Counted said (faults old.server.keeper) (faults new.server.keeper) → follows old.server.keeper new.server.keeper
    → HasSettings (length old.clients) old.skew.window old.term new → KeepsOn faults follows ended old new
keeps_refused faults follows said ended old new here is other counts keeper settings = record {
  counts = rw is (counts_refused said _ _ other counts);
  keeper = keeper;
  settings = on_settings old new here settings;
}

-- what was not given
pub gives_not : {K : Type 0} (ended : Stormed) (head : Head) (events : List Event) (event : Event) (new : WorldOver K) (tells : Option Kept)
    (flags : List Bool) → (ended ≡ Stormed.Done → ⊥) → Gives ended head events event new tells flags
    → Halts ended head events × Stands ended head events new tells
gives_not Stormed.Done head events event new tells flags other gives = absurd (other refl)
gives_not (Stormed.Limit limit) head events event new tells flags other gives = gives
gives_not Stormed.Fault head events event new tells flags other gives = gives
gives_not Stormed.Memory head events event new tells flags other gives = gives

-- ---- the moment as a whole

newest : {A : Type 0} (xs : List A) (x : A) → reverse (xs ++ x ∷ []) ≡ x ∷ reverse xs
newest xs x = reverse-append xs (x ∷ [])

pub passed : {K : Type 0} (head : Head) (start : ℕ) (first : Option Rule) (before after : List Event) (event : Event) (told tells : Option Rule)
    (old new : WorldOver K) (kept keeps : Option Kept) (flags flags' : List Bool)
    → IsInStorm head start first (reverse before) told old kept flags → IsChosen head start (reverse before) told event tells
    → Gives Stormed.Done head (reverse before) event new keeps flags' → after ≡ before ++ event ∷ []
    → IsInStorm head start first (reverse after) tells new keeps flags'
passed head start first before after event told tells old new kept keeps flags flags' here chosen gives same =
    let last : reverse after ≡ event ∷ reverse before = ap reverse same ∙ newest before event in
    rw last (record { at = gives.1; storm = (told, here.storm, chosen, gives.0) })

-- ---- the storm as a whole

pub ends_early : (ended : Stormed) (wanted : ℕ) (head : Head) (events : List Event) → (ended ≡ Stormed.Done → ⊥) → length events < wanted
    → Halts ended head events → EndsAt ended wanted head events
ends_early Stormed.Done wanted head events other early halts = absurd (other refl)
ends_early (Stormed.Limit limit) wanted head events other early halts = (early, halts)
ends_early Stormed.Fault wanted head events other early halts = (early, halts)
ends_early Stormed.Memory wanted head events other early halts = (early, halts)

pub all_with : (events : List Event) (event : Event) → AllByRecursion IsStormy events → IsStormy event → AllByRecursion IsStormy (events ++ event ∷ [])
all_with [] event all one = (one, tt)
all_with (e ∷ events) event all one = (all.0, all_with events event all.1 one)

-- the events are all of a menu, whether the last was kept or dropped
pub all_behind : (ended : Stormed) (before after : List Event) (event : Event) → (ended ≡ Stormed.Done → after ≡ before ++ event ∷ [])
    → ((ended ≡ Stormed.Done → ⊥) → after ≡ before) → IsStormy event
    → AllByRecursion IsStormy before → AllByRecursion IsStormy after
all_behind Stormed.Done before after event kept dropped one all = subst (λ events. AllByRecursion IsStormy events) (sym (kept refl))
    (all_with before event all one)
all_behind (Stormed.Limit limit) before after event kept dropped one all = subst (λ events. AllByRecursion IsStormy events) (sym (dropped (λ is. cc))) all
all_behind Stormed.Fault before after event kept dropped one all = subst (λ events. AllByRecursion IsStormy events) (sym (dropped (λ is. cc))) all
all_behind Stormed.Memory before after event kept dropped one all = subst (λ events. AllByRecursion IsStormy events) (sym (dropped (λ is. cc))) all
