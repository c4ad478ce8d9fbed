-- A schedule that is within skew is so after each further event but a tick of the server's clock, and after that too where each host's
-- clock ticked since the server's last did.
use Rattle.std.proofs.Common.{◌≡◌, ◌<◌, ◌≤◌, ℕ, ◌+◌, Bool, true, false, ◌==◌, List, [], ◌∷◌, ◌++◌, if◌then◌else◌, refl, subst, arith}
use Rattle.nq_base.specs.declared.Event.{Event}
use Rattle.nq_model.specs.protocol.Profile.{skew}
use Rattle.nq_model.specs.protocol.Skew.{is_server_tick, is_tick_of, server_ticks, ticks_of, IsWithinSkew}
use Rattle.walk_steps.proofs.Rows.{number-same}

first-same : {A : Type 0} (x y : A) (xs ys : List A) → x ∷ xs ≡ y ∷ ys → x ≡ y
first-same x y xs ys e = cc

rest-same : {A : Type 0} (x y : A) (xs ys : List A) → x ∷ xs ≡ y ∷ ys → xs ≡ ys
rest-same x y xs ys e = cc

-- an event that is no tick of the server's clock keeps a schedule within skew
pub quiet-parts : (hosts longest : ℕ) (e : Event) (events : List Event) → is_server_tick e ≡ 0 → IsWithinSkew hosts longest events
    → (before part after : List Event) → e ∷ events ≡ before ++ part ++ after → (host : ℕ) → host < hosts → ticks_of host part ≤ longest
    → server_ticks part ≤ ticks_of host part + skew
quiet-parts hosts longest e events quiet within [] [] after split host there few = omega arith
quiet-parts hosts longest e events quiet within [] (x ∷ part) after split host there few =
    let same : is_server_tick x ≡ 0 = subst (λ z. is_server_tick z ≡ 0) (first-same e x events (part ++ after) split) quiet in
    let rest : server_ticks part ≤ ticks_of host part + skew = within [] part after (rest-same e x events (part ++ after) split) host there (omega arith) in
    omega arith
quiet-parts hosts longest e events quiet within (x ∷ before) part after split host there few =
    within before part after (rest-same e x events (before ++ part ++ after) split) host there few

pub quiet-within : (hosts longest : ℕ) (e : Event) (events : List Event) → is_server_tick e ≡ 0 → IsWithinSkew hosts longest events
    → IsWithinSkew hosts longest (e ∷ events)
quiet-within hosts longest e events quiet within = λ before part after split host there few. quiet-parts hosts longest e events quiet within before
    part after split host there few

-- the server's clock may tick, for all that this host's clock told: each newest part of the schedule has room for one tick more
abbrev pub MayTick : (longest host : ℕ) → List Event → Type 0
MayTick longest host events =
    (part after : List Event) → events ≡ part ++ after → ticks_of host part ≤ longest → server_ticks part + 1 ≤ ticks_of host part + skew

-- it may after a tick of this host's clock
own-parts : (hosts longest host : ℕ) (events : List Event) → IsWithinSkew hosts longest events → host < hosts → (part after : List Event)
    → Event.ClientTick host ∷ events ≡ part ++ after → ticks_of host part ≤ longest → server_ticks part + 1 ≤ ticks_of host part + skew
own-parts hosts longest host events within there [] after split few = omega arith
own-parts hosts longest host events within there (x ∷ part) after split few =
    let x_is = first-same (Event.ClientTick host) x events (part ++ after) split in
    let no : is_server_tick x ≡ 0 = subst (λ z. is_server_tick z ≡ 0) x_is refl in
    let one : 1 ≤ is_tick_of host x = subst (λ z. 1 ≤ is_tick_of host z) x_is (own-tick host (host == host) (number-same host host refl)) in
    let rest : server_ticks part ≤ ticks_of host part + skew = within [] part after (rest-same (Event.ClientTick host) x events (part ++ after) split)
    host there (omega arith) in
    omega arith
  where
    own-tick : (host : ℕ) (b : Bool) → b ≡ true → 1 ≤ (if b then 1 else 0)
    own-tick host true e = omega arith
    own-tick host false e = absurd (cc)

pub own-may : (hosts longest host : ℕ) (events : List Event) → IsWithinSkew hosts longest events → host < hosts → MayTick longest host
    (Event.ClientTick host ∷ events)
own-may hosts longest host events within there = λ part after split few. own-parts hosts longest host events within there part after split few

-- it still may after any other event
later-parts : (longest host : ℕ) (e : Event) (events : List Event) → is_server_tick e ≡ 0 → MayTick longest host events → (part after : List Event)
    → e ∷ events ≡ part ++ after → ticks_of host part ≤ longest → server_ticks part + 1 ≤ ticks_of host part + skew
later-parts longest host e events quiet may [] after split few = omega arith
later-parts longest host e events quiet may (x ∷ part) after split few =
    let same : is_server_tick x ≡ 0 = subst (λ z. is_server_tick z ≡ 0) (first-same e x events (part ++ after) split) quiet in
    let rest : server_ticks part + 1 ≤ ticks_of host part + skew = may part after (rest-same e x events (part ++ after) split) (omega arith) in
    omega arith

pub later-may : (longest host : ℕ) (e : Event) (events : List Event) → is_server_tick e ≡ 0 → MayTick longest host events → MayTick longest host (e ∷ events)
later-may longest host e events quiet may = λ part after split few. later-parts longest host e events quiet may part after split few

-- the server's clock ticks where it may for all hosts
ticked-parts : (hosts longest : ℕ) (events : List Event) → IsWithinSkew hosts longest events → ((host : ℕ) → host < hosts → MayTick longest host
    events) → (before part after : List Event) → Event.ServerTick ∷ events ≡ before ++ part ++ after → (host : ℕ) → host < hosts → ticks_of host part
    ≤ longest → server_ticks part ≤ ticks_of host part + skew
ticked-parts hosts longest events within may [] [] after split host there few = omega arith
ticked-parts hosts longest events within may [] (x ∷ part) after split host there few =
    let x_is = first-same Event.ServerTick x events (part ++ after) split in
    let one : is_server_tick x ≡ 1 = subst (λ z. is_server_tick z ≡ 1) x_is refl in
    let no : is_tick_of host x ≡ 0 = subst (λ z. is_tick_of host z ≡ 0) x_is refl in
    let rest : server_ticks part + 1 ≤ ticks_of host part + skew = may host there part after (rest-same Event.ServerTick x events (part ++ after)
    split) (omega arith) in
    omega arith
ticked-parts hosts longest events within may (x ∷ before) part after split host there few =
    within before part after (rest-same Event.ServerTick x events (before ++ part ++ after) split) host there few

pub ticked-within : (hosts longest : ℕ) (events : List Event) → IsWithinSkew hosts longest events → ((host : ℕ) → host < hosts → MayTick longest host
    events) → IsWithinSkew hosts longest (Event.ServerTick ∷ events)
ticked-within hosts longest events within may = λ before part after split host there few. ticked-parts hosts longest events within may before part
    after split host there few
