-- Receiving over the links of a loop.
use Rattle.std.proofs.Common.{◌≡◌, ℕ, ◌≤◌, Bool, true, false, List, [], ◌∷◌, length, map, Ok, Err, Option, Some, None, inl, inr, refl, ap, subst, ◌∙◌, arith}
use Rattle.std.specs.Prelude.{Result, reverse, slice_get, slice_set}
use Rattle.nq_base.specs.declared.Event.{Event}
use Rattle.nq_base.specs.declared.Party.{Party}
use Rattle.nq_io.specs.Faults.{count_up}
use Rattle.nq_link.specs.Link.{Comes, CountsReceive, Letters}
use Rattle.nq_link.specs.declared.Came.{Came}
use Rattle.nq_loop.proofs.Posts.{get-map, map-set-slice}
use Rattle.nq_loop.proofs.Whole.{one-step}
use Rattle.nq_loop.specs.Holding.{GivesTo, IsLooping, Loop, Loops, TakesFrom}
use Rattle.nq_loop.specs.Looping.{Brings, HearsAt, MissesAt, Step, came_to, datagrams_of}
use Rattle.nq_loop.specs.Matching.{CountsAs}
use Rattle.nq_loop.specs.Sending.{place_of, told_of}
use Rattle.nq_loop.specs.declared.turns.Halt.{Halt}
use Rattle.nq_model.specs.protocol.World.{Head, run}
use Rattle.nq_link.specs.Packets.{Datagram}
use Rattle.nq_link.proofs.Letters.{heard}
use Rattle.nq_link.specs.Links.{Letter, LinkTold, most_bytes}

-- ---- what came

-- a receive on the link told of these brought something or nothing
abbrev IsHeardOn : (s s' w w' : Option Letters) (f f' r r' : ℕ) → Type 0
IsHeardOn s s' w w' f f' r r' =
    let old : LinkTold = record { sent = s; waiting = w; faults = f; receives = r } in
    let new : LinkTold = record { sent = s'; waiting = w'; faults = f'; receives = r' } in
    new ≡ record old { waiting = w'; receives = count_up r }

told-heard : (s s' w w' : Option Letters) (f f' r r' : ℕ) → s' ≡ s → r' ≡ count_up r → f' ≡ f → IsHeardOn s s' w w' f f' r r'
told-heard s s' w w' f f' r r' sent receives count = rw (sent, receives, count) refl

-- a receive on the link told of these failed
abbrev IsMissedOn : (s s' w w' : Option Letters) (f f' r r' : ℕ) → Type 0
IsMissedOn s s' w w' f f' r r' =
    let old : LinkTold = record { sent = s; waiting = w; faults = f; receives = r } in
    let new : LinkTold = record { sent = s'; waiting = w'; faults = f'; receives = r' } in
    new ≡ record old { faults = f'; receives = count_up r }

told-missed : (s s' w w' : Option Letters) (f f' r r' : ℕ) → s' ≡ s → w' ≡ w → r' ≡ count_up r → IsMissedOn s s' w w' f f' r r'
told-missed s s' w w' f f' r r' sent waiting receives = rw (sent, waiting, receives) refl

-- what one receive on the link at a place brought
pub brings : {L : Type 0} (sent waiting : L → Option Letters) (faults receives : L → ℕ) (links : List L) (place : ℕ) (old new : L) (came : Came)
    (buffer filled : List ℕ) → slice_get links place ≡ Some old → length buffer ≡ most_bytes → length filled ≡ length buffer
    → Comes came (waiting old) (waiting new) buffer filled → sent new ≡ sent old → receives new ≡ count_up (receives old)
    → CountsReceive came (faults old) (faults new)
    → Brings came place (map (told_of sent waiting faults receives) links) (map (told_of sent waiting faults receives) (slice_set links place new)) filled
brings sent waiting faults receives links place old new (Came.Datagram count origin) buffer filled there long kept comes same asked counts =
    let told = told_of sent waiting faults receives in
    let within : count ≤ length buffer = comes.0 in (
      omega (arith, within, kept),
      record {
        link = told old;
        there = get-map told links place old there;
        waiting = waiting new;
        hears = heard most_bytes count origin (waiting old) (waiting new) buffer filled long comes;
        heard = map-set-slice told links place new ∙ ap (λ l. slice_set (map told links) place l) (told-heard (sent old) (sent new) (waiting old)
            (waiting new) (faults old) (faults new) (receives old) (receives new) same asked counts);
      },
    )
brings sent waiting faults receives links place old new Came.Nothing buffer filled there long kept comes same asked counts =
    let told = told_of sent waiting faults receives in
    record {
      link = told old;
      there = get-map told links place old there;
      waiting = waiting new;
      hears = comes;
      heard = map-set-slice told links place new ∙ ap (λ l. slice_set (map told links) place l) (told-heard (sent old) (sent new) (waiting old)
          (waiting new) (faults old) (faults new) (receives old) (receives new) same asked counts);
    }
brings sent waiting faults receives links place old new Came.Failed buffer filled there long kept comes same asked counts =
    let told = told_of sent waiting faults receives in
    record {
      link = told old;
      there = get-map told links place old there;
      count = faults new;
      rose = counts;
      missed = map-set-slice told links place new ∙ ap (λ l. slice_set (map told links) place l) (told-missed (sent old) (sent new) (waiting old)
          (waiting new) (faults old) (faults new) (receives old) (receives new) same comes asked);
    }

-- ---- the loop behind it

-- a loop whose links alone changed goes on
pub relinked : {K : Type 0} (head : Head) (l : Loop K) (links : List LinkTold) → IsLooping head l → IsLooping head (record l { links = links })
relinked head l links here = record {
  plays = here.plays;
  marks = here.marks;
  counts = here.counts;
  taken = here.taken;
  looped = here.looped;
}

pub none-came : {K : Type 0} (head : Head) (party : Party) (l : Loop K) (links : List LinkTold) → IsLooping head l → HearsAt (place_of party) None
    l.links links → Loops head (Step.receive party ∷ []) (Ok false) l (record l { links = links })
none-came head party l links here hears =
    one-step head (Step.receive party) (Ok false) l (record l { links = links }) (inl (record {
      came = None;
      links = links;
      hears = hears;
      takes =
          (refl, refl);
    })) (relinked head l links here)

pub none-heard : {K : Type 0} (head : Head) (party : Party) (l : Loop K) (links : List LinkTold) → IsLooping head l → MissesAt (place_of party)
    l.links links → Loops head (Step.receive party ∷ []) (Err Halt.Link) l (record l { links = links })
none-heard head party l links here fails =
    one-step head (Step.receive party) (Err Halt.Link) l (record l { links = links }) (inr (record { why = refl; fails = fails; same = refl }))
    (relinked head l links here)

pub one-came : {K : Type 0} (head : Head) (party : Party) (letter : Letter) (ended : Result Bool Halt) (old new : Loop K) (links : List LinkTold)
    → HearsAt (place_of party) (Some letter) old.links links
    → TakesFrom head (came_to party letter) ended (record old { links = links }) new → Loops head (Step.receive party ∷ []) ended old new
one-came head party letter ended old new links hears takes =
    one-step head (Step.receive party) ended old new (inl (record { came = Some letter; links = links; hears = hears; takes = takes.takes })) takes.stands

-- ---- taking it in

counted : {K : Type 0} (head : Head) (l : Loop K) (ds : List Datagram) (d : Datagram) (number : Option ℕ) → IsLooping head l → ds ≡ l.world.datagrams
    → CountsAs ds (reverse l.ran) d number → CountsAs (datagrams_of (run head (reverse l.ran))) (reverse l.ran) d number
counted head l ds d number here same counts = subst (λ xs. CountsAs xs (reverse l.ran) d number) (same ∙ here.plays.shown.shows.datagrams) counts

pub takes-packet : {K : Type 0} (head : Head) (d : Datagram) (number : ℕ) (ds : List Datagram) (ended : Result Bool Halt) (old new : Loop K)
    → IsLooping head old → ds ≡ old.world.datagrams → CountsAs ds (reverse old.ran) d (Some number)
    → GivesTo head (Event.Deliver number) ended old new → TakesFrom head d ended old new
takes-packet head d number ds ended old new here same counts gives = record {
  takes = inl (record { number = Some number; counts = counted head old ds d (Some number) here same counts; delivers = gives.gives });
  stands = gives.stands;
}

pub drops-it : {K : Type 0} (head : Head) (d : Datagram) (ds : List Datagram) (l : Loop K) → IsLooping head l → ds ≡ l.world.datagrams
    → CountsAs ds (reverse l.ran) d None → TakesFrom head d (Ok true) l l
drops-it head d ds l here same counts = record {
  takes = inl (record { number = None; counts = counted head l ds d None here same counts; delivers = (refl, refl) });
  stands = here;
}

pub wants-memory : {K : Type 0} (head : Head) (d : Datagram) (l : Loop K) → IsLooping head l → TakesFrom head d (Err Halt.Memory) l l
wants-memory head d l here = record { takes = inr (refl, refl); stands = here }
