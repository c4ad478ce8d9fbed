-- An event that is given to the world of a loop.
use Rattle.std.proofs.Common.{◌≡◌, ℕ, Bool, ◌<◌, List, [], ◌∷◌, ◌++◌, length, drop, Ok, Err, Option, inl, inr, refl, sym, ap, subst, ◌∙◌, arith}
use Rattle.std.proofs.lemmas.List.{reverse-append}
use Rattle.std.specs.List.{AllByRecursion}
use Rattle.std.specs.Prelude.{Result, reverse}
use Rattle.nq_base.specs.declared.Event.{Event}
use Rattle.nq_loop.specs.Counting.{Counts, HasCount}
use Rattle.nq_loop.specs.Holding.{AreTaken, CountsKeep, GivesTo, IsLooped, IsLooping, Loop, Stands, moment_of}
use Rattle.nq_loop.specs.Looping.{Gives, IsTaken, Moment, datagrams_of, halt_of, moved, sends_at}
use Rattle.nq_loop.specs.Sending.{SendsAll}
use Rattle.nq_loop.specs.declared.turns.Halt.{Halt}
use Rattle.nq_model.specs.protocol.Kept.{Kept}
use Rattle.nq_model.specs.protocol.Stepped.{done, stepped}
use Rattle.nq_model.specs.protocol.World.{Head, run}
use Rattle.nq_link.specs.Links.{LinkTold}
use Rattle.nq_replay.proofs.Limits.{is_reached}
use Rattle.nq_replay.specs.Delivering.{Marks}
use Rattle.nq_world.proofs.Refused.{still-plays}
use Rattle.nq_world.specs.Playing.{CanCome, CountsFaults, IsAsBefore, Plays, Steps, WorldOver}
use Rattle.nq_world.specs.declared.stepped.Stepped.{Stepped}

-- ---- what can come

pub can-come : (hosts clients longest : ℕ) (event : Event) → clients ≡ hosts → IsLooped hosts event → CanCome clients longest event
can-come hosts clients longest (Event.Call host call) same looped = let below : host < hosts = looped.0 in omega arith
can-come hosts clients longest (Event.Deliver k) same looped = tt
can-come hosts clients longest Event.ServerTick same looped = tt
can-come hosts clients longest (Event.ClientTick host) same looped = let below : host < hosts = looped in omega arith
can-come hosts clients longest (Event.Restart host) same looped = absurd looped
can-come hosts clients longest (Event.Crash term) same looped = absurd looped

pub has-count : (hosts : ℕ) (event : Event) → IsLooped hosts event → HasCount hosts event
has-count hosts (Event.Call host call) looped = looped.0
has-count hosts (Event.Deliver k) looped = tt
has-count hosts Event.ServerTick looped = tt
has-count hosts (Event.ClientTick host) looped = tt
has-count hosts (Event.Restart host) looped = tt
has-count hosts (Event.Crash term) looped = tt

-- ---- it was taken in

newest : {A : Type 0} (xs : List A) (x : A) → reverse (xs ++ x ∷ []) ≡ x ∷ reverse xs
newest xs x = reverse-append xs (x ∷ [])

all-with : (hosts : ℕ) (events : List Event) (event : Event) → AllByRecursion (IsLooped hosts) events → IsLooped hosts event
    → AllByRecursion (IsLooped hosts) (events ++ event ∷ [])
all-with hosts [] event all one = (one, tt)
all-with hosts (e ∷ events) event all one = (all.0, all-with hosts events event all.1 one)

gives : (head : Head) (event : Event) (sending : Result Unit Halt) (at after : Moment) → IsTaken head event sending at after
    → Gives head event (moved sending) at after
gives head event (Ok all) at after is = (refl, is)
gives head event (Err Halt.Link) at after is = is
gives head event (Err Halt.Memory) at after is = inr is
gives head event (Err Halt.Keep) at after is = absurd is.sends
gives head event (Err (Halt.Limit limit)) at after is = absurd is.sends

stands : {K : Type 0} (head : Head) (sending : Result Unit Halt) (ds : List _) (at after : List LinkTold) (l : Loop K) → SendsAll sending ds at after
    → IsLooping head l → Stands head (moved sending) l
stands head (Ok all) ds at after l sends looping = looping
stands head (Err Halt.Link) ds at after l sends looping = looping
stands head (Err Halt.Memory) ds at after l sends looping = looping
stands head (Err Halt.Keep) ds at after l sends looping = absurd sends
stands head (Err (Halt.Limit limit)) ds at after l sends looping = absurd sends

pub taken : {K : Type 0} (head : Head) (event : Event) (sending : Result Unit Halt) (sent : ℕ) (old new : Loop K) → IsLooping head old
    → stepped head (reverse old.ran) event ≡ done → Plays head (event ∷ reverse old.ran) new.world new.kept
    → Marks new.state.flags (event ∷ reverse old.ran) → Counts new.state.begun (event ∷ reverse old.ran) → IsLooped head.hosts event → new.ran
    ≡ old.ran ++ event ∷ [] → sent ≡ length old.world.datagrams
    → SendsAll sending (drop sent new.world.datagrams) old.links new.links → GivesTo head event (moved sending) old new
taken head event sending sent old new here lawful plays marks counts looped same many sends =
    let earlier = reverse old.ran in
    let back : reverse new.ran ≡ event ∷ earlier = ap reverse same ∙ newest old.ran event in
    let looping : IsLooping head new = record {
      plays = subst (λ es. Plays head es new.world new.kept) (sym back) plays;
      marks = subst (λ es. Marks new.state.flags es) (sym back) marks;
      counts = subst (λ es. Counts new.state.begun es) (sym back) counts;
      taken = subst (λ es. AreTaken head es) (sym back) (lawful, here.taken);
      looped = subst (λ es. AllByRecursion (IsLooped head.hosts) es) (sym same) (all-with head.hosts old.ran event here.looped looped);
    } in
    let count : sent ≡ length (datagrams_of (run head earlier)) = many ∙ ap length here.plays.shown.shows.datagrams in
    let all : new.world.datagrams ≡ datagrams_of (run head (event ∷ earlier)) = plays.shown.shows.datagrams in
    let out : SendsAll sending (sends_at head earlier event) old.links new.links =
    subst (λ ds. SendsAll sending (drop (length (datagrams_of (run head earlier))) ds) old.links new.links) all
    (subst (λ n. SendsAll sending (drop n new.world.datagrams) old.links new.links) count sends) in
    let is : IsTaken head event sending (moment_of old) (moment_of new) = record { lawful = lawful; taken = back; sends = out } in
    record {
      gives = gives head event sending (moment_of old) (moment_of new) is;
      stands = stands head sending (drop sent new.world.datagrams) old.links new.links new sends looping;
    }

pub counts-taken : (sending : Result Unit Halt) (ds : List _) (at after : List LinkTold) (before now : ℕ) → SendsAll sending ds at after
    → now ≡ before → CountsKeep (moved sending) before now
counts-taken (Ok all) ds at after before now sends same = same
counts-taken (Err Halt.Link) ds at after before now sends same = same
counts-taken (Err Halt.Memory) ds at after before now sends same = same
counts-taken (Err Halt.Keep) ds at after before now sends same = absurd sends
counts-taken (Err (Halt.Limit limit)) ds at after before now sends same = absurd sends

-- ---- it was not taken in

-- the loop with another world
abbrev over : {K : Type 0} → Loop K → WorldOver K → Option Kept → Loop K
over l world kept = record l { world = world; kept = kept }

goes-on : {K : Type 0} (head : Head) (old : Loop K) (world : WorldOver K) (kept : Option Kept) → IsLooping head old → IsAsBefore old.world world
    → kept ≡ old.kept → IsLooping head (over old world kept)
goes-on head old world kept here same told = record {
  plays = still-plays head (reverse old.ran) old.world world old.kept kept here.plays same told;
  marks = here.marks;
  counts = here.counts;
  taken = here.taken;
  looped = here.looped;
}

refused-so : {K : Type 0} (head : Head) (event : Event) (said : Stepped) (old : Loop K) (world : WorldOver K) (kept : Option Kept)
    → IsLooping head old → Steps head (reverse old.ran) event said old.world world old.kept kept → (said ≡ Stepped.Done → ⊥)
    → GivesTo head event (Err (halt_of said)) old (over old world kept)
refused-so head event Stepped.Done old world kept here steps other = absurd (other refl)
refused-so head event Stepped.NoPacket old world kept here steps other =
    record { gives = (inl refl); stands = goes-on head old world kept here steps.1 steps.2 }
refused-so head event (Stepped.SkewBroken broken) old world kept here steps other =
    record { gives = (inl refl); stands = goes-on head old world kept here steps.1 steps.2 }
refused-so head event (Stepped.Limit limit) old world kept here steps other =
    record { gives = (is_reached head (reverse old.ran) event limit steps.0, refl); stands = goes-on head old world kept here steps.1 steps.2 }
refused-so head event Stepped.Fault old world kept here steps other =
    record { gives = refl; stands = record { old = old.world; told = old.kept; plays = here.plays; same = steps.1; kept = steps.2; looped = here.looped } }
refused-so head event Stepped.Memory old world kept here steps other =
    record { gives = (inl refl); stands = goes-on head old world kept here steps.1 steps.2 }

pub refused : {K : Type 0} (head : Head) (event : Event) (said : Stepped) (old new : Loop K) → IsLooping head old → Steps head (reverse old.ran) event
    said old.world new.world old.kept new.kept → (said ≡ Stepped.Done → ⊥)
    → new.state ≡ old.state → new.ran ≡ old.ran → new.links ≡ old.links → GivesTo head event (Err (halt_of said)) old new
refused head event said old new here steps other state ran links =
    let loops = refused-so head event said old new.world new.kept here steps other in
    let same : over old new.world new.kept ≡ new = rw (← state, ← ran, ← links) refl in
    subst (λ l. GivesTo head event (Err (halt_of said)) old l) same loops

pub counts-refused : (said : Stepped) (before now : ℕ) → (said ≡ Stepped.Done → ⊥) → CountsFaults said before now
    → CountsKeep {X = Bool} (Err (halt_of said)) before now
counts-refused Stepped.Done before now other counts = absurd (other refl)
counts-refused Stepped.NoPacket before now other counts = counts
counts-refused (Stepped.SkewBroken broken) before now other counts = counts
counts-refused (Stepped.Limit limit) before now other counts = counts
counts-refused Stepped.Fault before now other counts = counts
counts-refused Stepped.Memory before now other counts = counts
