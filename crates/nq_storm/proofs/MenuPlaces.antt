-- What stands at the places of a menu.
use Rattle.std.proofs.Common.{◌≡◌, ℕ, ◌+◌, ◌<◌, ◌≤◌, Bool, true, false, List, [], ◌∷◌, ◌++◌, length, slice_get, Some, zero, suc, refl, ap, sym, ◌∙◌}
use Rattle.std.proofs.Common.{arith, length-append, inl, inr, ◌⊎◌}
use Rattle.std.proofs.lemmas.Bool.{cases_lt}
use Rattle.nq_base.specs.declared.Event.{Event}
use Rattle.nq_storm.specs.Menu.{all_ticks, calls, each, host_call, menu}
use Rattle.nq_storm.specs.Places.{tick_count}
use Rattle.nq_storm.specs.declared.fates.offers.Offer.{Offer}

-- a place in the first list
at-front : {A : Type 0} (xs ys : List A) (k : ℕ) → k < length xs → slice_get (xs ++ ys) k ≡ slice_get xs k
at-front [] ys k below = absurd (omega arith)
at-front (x ∷ xs) ys zero below = refl
at-front (x ∷ xs) ys (suc k) below = at-front xs ys k (omega arith)

-- a place behind it
at-back : {A : Type 0} (xs ys : List A) (k place : ℕ) → place ≡ length xs + k → slice_get (xs ++ ys) place ≡ slice_get ys k
at-back [] ys k place here = ap (slice_get ys) (let same : place ≡ k = omega (arith, here) in same)
at-back (x ∷ xs) ys k zero here = absurd (omega (arith, here))
at-back (x ∷ xs) ys k (suc place) here = at-back xs ys k place (omega (arith, here))

length-each : {A : Type 0} (f : ℕ → A) (n : ℕ) → length (each f n) ≡ n
length-each f zero = refl
length-each f (suc n) = let long = length-append (each f n) (f n ∷ []) in let shorter = length-each f n in omega arith

at-last : {A : Type 0} (f : ℕ → A) (n k : ℕ) → (k < n) ⊎ (n ≤ k) → k < n + 1 → (k < n → slice_get (each f n) k ≡ Some (f k))
    → slice_get (each f n ++ f n ∷ []) k ≡ Some (f k)
at-last f n k (inl low) below shorter = at-front (each f n) (f n ∷ []) k (let long = length-each f n in omega arith) ∙ shorter low
at-last f n k (inr high) below shorter =
    let last : k ≡ n = omega arith in
    at-back (each f n) (f n ∷ []) 0 k (let long = length-each f n in omega arith) ∙ ap (λ j. Some (f j)) (sym last)

at-each : {A : Type 0} (f : ℕ → A) (n k : ℕ) → k < n → slice_get (each f n) k ≡ Some (f k)
at-each f zero k below = absurd (omega arith)
at-each f (suc n) k below = at-last f n k (cases_lt k n) (omega arith) (λ low. at-each f n k low)

-- the calls of all hosts, by their places
calls-each : (number : ℕ) → calls number ≡ each (host_call number) 104
calls-each number = refl

length-calls : (number : ℕ) → length (calls number) ≡ 104
length-calls number = refl

length-ticks : (may : Bool) → length (all_ticks may) ≡ tick_count may
length-ticks true = refl
length-ticks false = refl

-- the parts of a menu
pub delivery-at : (offer : Offer) (number place : ℕ) → place < offer.packets → slice_get (menu offer number) place ≡ Some (Event.Deliver place)
delivery-at offer number place below =
    at-front (each Event.Deliver offer.packets) _ place (let long = length-each Event.Deliver offer.packets in omega arith)
    ∙ at-each Event.Deliver offer.packets place below

pub tick-at : (offer : Offer) (number k place : ℕ) (event : Event) → place ≡ offer.packets + k → k < tick_count offer.server_tick
    → slice_get (all_ticks offer.server_tick) k ≡ Some event → slice_get (menu offer number) place ≡ Some event
tick-at offer number k place event here below found =
    at-back (each Event.Deliver offer.packets) _ k place (let long = length-each Event.Deliver offer.packets in omega (arith, here))
    ∙ at-front (all_ticks offer.server_tick) _ k (let long = length-ticks offer.server_tick in omega arith)
    ∙ found

behind-ticks : (offer : Offer) (number k place : ℕ) → place ≡ offer.packets + (tick_count offer.server_tick + k)
    → slice_get (menu offer number) place ≡ slice_get (each Event.Restart 4 ++ (Event.Crash 60 ∷ calls number)) k
behind-ticks offer number k place here =
    at-back (each Event.Deliver offer.packets) _ (tick_count offer.server_tick + k) place
    (let long = length-each Event.Deliver offer.packets in omega (arith, here))
    ∙ at-back (all_ticks offer.server_tick) _ k (tick_count offer.server_tick + k) (let long = length-ticks offer.server_tick in omega arith)

pub restart-at : (offer : Offer) (number k place : ℕ) → place ≡ offer.packets + (tick_count offer.server_tick + k) → k < 4
    → slice_get (menu offer number) place ≡ Some (Event.Restart k)
restart-at offer number k place here below =
    behind-ticks offer number k place here
    ∙ at-front (each Event.Restart 4) (Event.Crash 60 ∷ calls number) k below
    ∙ at-each Event.Restart 4 k below

pub crash-at : (offer : Offer) (number place : ℕ) → place ≡ offer.packets + (tick_count offer.server_tick + 4)
    → slice_get (menu offer number) place ≡ Some (Event.Crash 60)
crash-at offer number place here = behind-ticks offer number 4 place here

pub call-at : (offer : Offer) (number k place : ℕ) → place ≡ offer.packets + (tick_count offer.server_tick + (5 + k)) → k < 104
    → slice_get (menu offer number) place ≡ Some (host_call number k)
call-at offer number k place here below =
    behind-ticks offer number (5 + k) place here
    ∙ at-back (each Event.Restart 4 ++ Event.Crash 60 ∷ []) (calls number) k (5 + k) (omega arith)
    ∙ ap (λ es. slice_get es k) (calls-each number)
    ∙ at-each (host_call number) 104 k below

-- as many events as the offer says
pub menu-size : (offer : Offer) (number : ℕ) → length (menu offer number) ≡ offer.packets + (tick_count offer.server_tick + 109)
menu-size offer number =
    let deliveries = length-each Event.Deliver offer.packets in
    let ticks = length-ticks offer.server_tick in
    let rest = length-calls number in
    let all = length-append (each Event.Deliver offer.packets) (all_ticks offer.server_tick ++ (each Event.Restart 4 ++ (Event.Crash 60 ∷ calls number))) in
    let some = length-append (all_ticks offer.server_tick) (each Event.Restart 4 ++ (Event.Crash 60 ∷ calls number)) in
    let few = length-append (each Event.Restart 4) (Event.Crash 60 ∷ calls number) in omega arith
