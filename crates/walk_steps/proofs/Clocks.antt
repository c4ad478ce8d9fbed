-- Clocks: while a lease runs by its holder's clock, the server's clock has not come to its end, however they are skewed.
use Rattle.std.proofs.Common.{◌≡◌, ◌<◌, ◌≤◌, ℕ, ◌+◌, Bool, true, false, nat_le, ◌==◌, List, [], ◌∷◌, ◌++◌, if◌then◌else◌, refl, ap, ◌∙◌, arith}
use Rattle.std.proofs.lemmas.Bool.Decides.{nat_tests}
use Rattle.nq_base.specs.declared.Event.{Event}
use Rattle.nq_model.specs.laws.LeaseInterval.{server_time_when, cover_end}
use Rattle.nq_model.specs.protocol.Profile.{skew}
use Rattle.nq_model.specs.protocol.Skew.{is_tick_of, server_ticks, ticks_of, IsWithinSkew}

server-ticks-append : (xs ys : List Event) → server_ticks (xs ++ ys) ≡ server_ticks xs + server_ticks ys
server-ticks-append [] ys = omega arith
server-ticks-append (e ∷ xs) ys = let h : server_ticks (xs ++ ys) ≡ server_ticks xs + server_ticks ys = server-ticks-append xs ys in omega arith

ticks-append : (host : ℕ) (xs ys : List Event) → ticks_of host (xs ++ ys) ≡ ticks_of host xs + ticks_of host ys
ticks-append host [] ys = omega arith
ticks-append host (e ∷ xs) ys = let h : ticks_of host (xs ++ ys) ≡ ticks_of host xs + ticks_of host ys = ticks-append host xs ys in omega arith

-- one event is at most one tick of a host's clock
one-tick : (host : ℕ) (e : Event) → is_tick_of host e ≤ 1
one-tick host (Event.ClientTick h) = step (h == host)
  where
    step : (b : Bool) → (if b then 1 else 0) ≤ 1
    step true = omega arith
    step false = omega arith
one-tick host (Event.Call h op) = omega arith
one-tick host (Event.Deliver k) = omega arith
one-tick host Event.ServerTick = omega arith
one-tick host (Event.Restart h) = omega arith
one-tick host (Event.Crash l) = omega arith

-- what a schedule had come to when a host's clock came to a time
pub record Moment (host time : ℕ) (events : List Event) : Type 0 where
  pub since : List Event
  pub until : List Event
  pub split : events ≡ since ++ until
  pub server : server_ticks until ≡ server_time_when host time events
  pub client : ticks_of host until ≡ time

moment-step : (host time : ℕ) (e : Event) (earlier : List Event) (b : Bool) → nat_le time (ticks_of host earlier) ≡ b
    → time ≤ ticks_of host (e ∷ earlier) → (time ≤ ticks_of host earlier → Moment host time earlier) → Moment host time (e ∷ earlier)
moment-step host time e earlier true t past rest =
    let m = rest (grind (arith, nat_tests)) in
    record { since = e ∷ m.since; until = m.until; split = ap (λ es. e ∷ es) m.split; server = m.server ∙ rw t refl; client = m.client }
moment-step host time e earlier false t past rest =
    let one = one-tick host e in
    let later : ticks_of host earlier < time = grind (arith, nat_tests) in
    record { since = []; until = e ∷ earlier; split = refl; server = rw t refl; client = omega arith }

pub moment : (host time : ℕ) (events : List Event) → time ≤ ticks_of host events → Moment host time events
moment host time [] past = record { since = []; until = []; split = refl; server = refl; client = omega arith }
moment host time (e ∷ earlier) past = moment-step host time e earlier (nat_le time (ticks_of host earlier)) refl past (moment host time earlier)

-- while a client's clock is below the end of a term, the server's clock is below the end of its cover
pub runs-below : (hosts longest host asked term : ℕ) (events : List Event) → IsWithinSkew hosts longest events → host < hosts
    → asked ≤ ticks_of host events → ticks_of host events < asked + term → term ≤ longest → server_ticks events < cover_end host asked term events
runs-below hosts longest host asked term events within there past runs short =
    let m = moment host asked events past in
    let s : server_ticks events ≡ server_ticks m.since + server_ticks m.until = ap server_ticks m.split ∙ server-ticks-append m.since m.until in
    let c : ticks_of host events ≡ ticks_of host m.since + ticks_of host m.until = ap (ticks_of host) m.split ∙ ticks-append host m.since m.until in
    let at = m.client in
    let z = m.server in
    let few : ticks_of host m.since ≤ longest = omega arith in
    let bound : server_ticks m.since ≤ ticks_of host m.since + skew = within [] m.since m.until m.split host there few in
    omega arith

-- what was within skew is so without its last event
pub within-before : (hosts longest : ℕ) (e : Event) (earlier : List Event) → IsWithinSkew hosts longest (e ∷ earlier) → IsWithinSkew hosts longest earlier
within-before hosts longest e earlier within = λ before part after split host below few. within (e ∷ before) part after (ap (λ es. e ∷ es) split) host
    below few

-- the moment at which a clock came to a time that is past does not change any more
pub same-moment : (host time : ℕ) (e : Event) (earlier : List Event) → time ≤ ticks_of host earlier
    → server_time_when host time (e ∷ earlier) ≡ server_time_when host time earlier
same-moment host time e earlier past = let t : nat_le time (ticks_of host earlier) ≡ true = grind (arith, nat_tests) in rw t refl

pub same-cover : (host asked term : ℕ) (e : Event) (earlier : List Event) → asked ≤ ticks_of host earlier
    → cover_end host asked term (e ∷ earlier) ≡ cover_end host asked term earlier
same-cover host asked term e earlier past = ap (λ z. z + term + skew) (same-moment host asked e earlier past)

-- no moment is later than now
pub moment-past : (host time : ℕ) (events : List Event) → time ≤ ticks_of host events → server_time_when host time events ≤ server_ticks events
moment-past host time events past =
    let m = moment host time events past in
    let s : server_ticks events ≡ server_ticks m.since + server_ticks m.until = ap server_ticks m.split ∙ server-ticks-append m.since m.until in
    let z = m.server in
    omega arith
