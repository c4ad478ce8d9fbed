-- The steps of a turn by their places.
use Rattle.std.proofs.Common.{◌≡◌, ℕ, ◌+◌, ◌*◌, ◌/◌, ◌%◌, ◌<◌, ◌≤◌, true, false, List, [], ◌∷◌, ◌++◌, length, Some, zero, suc, inl, inr, refl, sym}
use Rattle.std.proofs.Common.{ap, ap₂, subst, ◌∙◌, arith, add-one, add-mul, div-add-mod', length-append, mul-le-mul_right, suc-mul, zero-mul}
use Rattle.std.proofs.lemmas.Bool.{cases_lt, eq-eqb}
use Rattle.std.proofs.lemmas.Bool.Decides.{nat_tests}
use Rattle.std.proofs.lemmas.Nat.{mod_below, mul-le}
use Rattle.std.specs.Prelude.{◌==◌, nat_lt, slice_get}
use Rattle.nq_base.specs.declared.Event.{Event}
use Rattle.nq_base.specs.declared.Party.{Party}
use Rattle.nq_loop.specs.Looping.{IsAmong, Step, call_steps, deed_at, deed_in, receive_steps, round_steps, rounds_steps, step_count, step_of, turn_steps}
use Rattle.nq_loop.specs.Steps.{each_below}
use Rattle.nq_loop.specs.declared.turns.Deed.{Deed}

-- ---- tests

lt-yes : (a b : ℕ) → a < b → nat_lt a b ≡ true
lt-yes a b below = grind (arith, nat_tests)

lt-no : (a b : ℕ) → b ≤ a → nat_lt a b ≡ false
lt-no a b past = grind (arith, nat_tests)

eq-no : (a b : ℕ) → b < a → (a == b) ≡ false
eq-no a b past = grind (arith, nat_tests)

-- ---- elements of lists

get-left : {A : Type 0} (xs ys : List A) (n : ℕ) (x : A) → slice_get xs n ≡ Some x → slice_get (xs ++ ys) n ≡ Some x
get-left [] ys n x there = absurd (cc)
get-left (y ∷ xs) ys zero x there = there
get-left (y ∷ xs) ys (suc n) x there = get-left xs ys n x there

get-right : {A : Type 0} (xs ys : List A) (i : ℕ) → slice_get (xs ++ ys) (length xs + i) ≡ slice_get ys i
get-right [] ys i = let e : 0 + i ≡ i = omega arith in ap (slice_get ys) e
get-right (x ∷ xs) ys i = let e : length (x ∷ xs) + i ≡ suc (length xs + i) = omega arith in ap (slice_get (x ∷ (xs ++ ys))) e ∙ get-right xs ys i

length-each : {A : Type 0} (count : ℕ) (one : ℕ → A) → length (each_below count one) ≡ count
length-each zero one = refl
length-each (suc count) one = length-append (each_below count one) (one count ∷ []) ∙ ap (λ n. n + 1) (length-each count one) ∙ add-one count

-- behind one for each number
get-behind : {A : Type 0} (count i : ℕ) (one : ℕ → A) (xs : List A) → slice_get (each_below count one ++ xs) (count + i) ≡ slice_get xs i
get-behind count i one xs = ap (λ n. slice_get (each_below count one ++ xs) (n + i)) (sym (length-each count one)) ∙ get-right (each_below count one) xs i

get-next : {A : Type 0} (count : ℕ) (one : ℕ → A) (x : A) (xs : List A) → slice_get (each_below count one ++ x ∷ xs) count ≡ Some x
get-next count one x xs =
    let same : count ≡ count + 0 = omega arith in
    ap (slice_get (each_below count one ++ x ∷ xs)) same ∙ get-behind count 0 one (x ∷ xs)

get-each : {A : Type 0} (count number : ℕ) (one : ℕ → A) → number < count → slice_get (each_below count one) number ≡ Some (one number)
get-each zero number one below = absurd (omega arith)
get-each (suc count) number one below =
    elim (cases_lt number count) [
      | inl within ↦ get-left (each_below count one) (one count ∷ []) number (one number) (get-each count number one within)
      | inr past ↦
          let last : number ≡ count = omega arith in
          ap (slice_get (each_below count one ++ one count ∷ [])) last ∙ get-next count one (one count) [] ∙ ap (λ n. Some (one n)) (sym last)
    ]

-- ---- how many steps there are

length-round : (hosts : ℕ) → length (round_steps hosts) ≡ hosts + 1
length-round hosts =
    let tick : ℕ → Step = λ host. Step.given (Event.ClientTick host) in
    length-append (each_below hosts tick) (Step.given Event.ServerTick ∷ []) ∙ ap (λ n. n + 1) (length-each hosts tick)

length-rounds : (hosts rounds : ℕ) → length (rounds_steps hosts rounds) ≡ rounds * (hosts + 1)
length-rounds hosts zero = sym (zero-mul (hosts + 1))
length-rounds hosts (suc rounds) =
    length-append (rounds_steps hosts rounds) (round_steps hosts) ∙ ap₂ (λ m n. m + n) (length-rounds hosts rounds) (length-round hosts)
    ∙ sym (suc-mul rounds (hosts + 1))

pub length-turn : (hosts rounds : ℕ) → length (turn_steps hosts rounds) ≡ step_count hosts rounds
length-turn hosts rounds =
    let calls : length (call_steps hosts) ≡ hosts = length-each hosts Step.call in
    let receives : length (receive_steps hosts) ≡ hosts + 1 = ap suc (length-each hosts (λ host. Step.receive (Party.Client host))) ∙ sym (add-one hosts) in
    let sum : hosts + (hosts + 1) ≡ 2 * hosts + 1 = omega arith in
    length-append (rounds_steps hosts rounds) (call_steps hosts ++ receive_steps hosts)
    ∙ ap₂ (λ m n. m + n) (length-rounds hosts rounds) (length-append (call_steps hosts) (receive_steps hosts) ∙ ap₂ (λ m n. m + n) calls receives ∙ sum)

pub few_steps : (hosts rounds : ℕ) → hosts ≤ 64 → rounds ≤ 60 → rounds * (hosts + 1) ≤ 3900
few_steps hosts rounds few short = mul-le rounds (hosts + 1) 60 65 short (omega arith)

-- ---- the step at a place

-- a step of a round
in-rounds : (hosts rounds row host : ℕ) (step : Step) → row < rounds → slice_get (round_steps hosts) host ≡ Some step
    → slice_get (rounds_steps hosts rounds) (row * (hosts + 1) + host) ≡ Some step
in-rounds hosts zero row host step before there = absurd (omega arith)
in-rounds hosts (suc rounds) row host step before there =
    elim (cases_lt row rounds) [
      | inl within ↦ get-left (rounds_steps hosts rounds) (round_steps hosts) (row * (hosts + 1) + host) step (in-rounds hosts rounds row host step
          within there)
      | inr past ↦
          let last : row ≡ rounds = omega arith in
          let place : row * (hosts + 1) + host ≡ length (rounds_steps hosts rounds) + host = ap (λ n. n + host) (ap (λ n. n * (hosts + 1)) last
          ∙ sym (length-rounds hosts rounds)) in
          ap (slice_get (rounds_steps hosts rounds ++ round_steps hosts)) place ∙ get-right (rounds_steps hosts rounds) (round_steps hosts) host ∙ there
    ]

-- a step of a turn, in a round
in-turn : (hosts rounds row host : ℕ) (step : Step) → row < rounds → slice_get (round_steps hosts) host ≡ Some step
    → slice_get (turn_steps hosts rounds) (row * (hosts + 1) + host) ≡ Some step
in-turn hosts rounds row host step before there =
    get-left (rounds_steps hosts rounds) (call_steps hosts ++ receive_steps hosts) (row * (hosts + 1) + host) step (in-rounds hosts rounds row host
    step before there)

-- behind the rounds
past-rounds : (hosts rounds i : ℕ) → slice_get (turn_steps hosts rounds) (rounds * (hosts + 1) + i) ≡ slice_get (call_steps hosts ++ receive_steps hosts) i
past-rounds hosts rounds i =
    ap (λ n. slice_get (turn_steps hosts rounds) (n + i)) (sym (length-rounds hosts rounds)) ∙ get-right (rounds_steps hosts rounds) (call_steps hosts
    ++ receive_steps hosts) i

-- this is done in the step at a place, by one that is there
pub record IsStepAt (hosts rounds place : ℕ) (deed : Deed) : Type 0 where
  pub step : slice_get (turn_steps hosts rounds) place ≡ Some (step_of deed)
  pub among : IsAmong hosts deed

at-tick : (hosts rounds row host : ℕ) → row < rounds → host < hosts → IsStepAt hosts rounds (row * (hosts + 1) + host) (Deed.Tick host)
at-tick hosts rounds row host before there =
    let tick : ℕ → Step = λ h. Step.given (Event.ClientTick h) in
    record {
      step = in-turn hosts rounds row host (Step.given (Event.ClientTick host)) before (get-left (each_below hosts tick) (Step.given Event.ServerTick
          ∷ []) host (Step.given (Event.ClientTick host)) (get-each hosts host tick there));
      among = there;
    }

at-server-tick : (hosts rounds row : ℕ) → row < rounds → IsStepAt hosts rounds (row * (hosts + 1) + hosts) Deed.ServerTick
at-server-tick hosts rounds row before = record {
  step = in-turn hosts rounds row hosts (Step.given Event.ServerTick) before (get-next hosts (λ h. Step.given (Event.ClientTick h))
      (Step.given Event.ServerTick) []);
  among = tt;
}

at-call : (hosts rounds host : ℕ) → host < hosts → IsStepAt hosts rounds (rounds * (hosts + 1) + host) (Deed.Call host)
at-call hosts rounds host there = record {
  step = past-rounds hosts rounds host ∙ get-left (call_steps hosts) (receive_steps hosts) host (Step.call host) (get-each hosts host Step.call there);
  among = there;
}

at-server : (hosts rounds : ℕ) → IsStepAt hosts rounds (rounds * (hosts + 1) + hosts) (Deed.Receive Party.Server)
at-server hosts rounds =
    let low : 0 < hosts + 1 = omega arith in
    record {
      step = past-rounds hosts rounds hosts ∙ get-next hosts Step.call (Step.receive Party.Server) (each_below hosts (λ h. Step.receive (Party.Client h)));
      among = low;
    }

at-host : (hosts rounds host : ℕ) → host < hosts → IsStepAt hosts rounds (rounds * (hosts + 1) + (hosts + suc host)) (Deed.Receive (Party.Client host))
at-host hosts rounds host there =
    let low : host + 1 < hosts + 1 = omega arith in
    record {
      step = past-rounds hosts rounds (hosts + suc host) ∙ get-behind hosts (suc host) Step.call (receive_steps hosts) ∙ get-each hosts host
          (λ h. Step.receive (Party.Client h)) there;
      among = low;
    }

-- ---- by the row

in-round : (hosts rounds row host : ℕ) → host < hosts + 1 → row < rounds → IsStepAt hosts rounds (row * (hosts + 1) + host) (deed_in hosts rounds row host)
in-round hosts rounds row host low before =
    let is = lt-yes row rounds before in
    elim (cases_lt host hosts) [
      | inl there ↦
          let yes = lt-yes host hosts there in
          rw (is, yes) (at-tick hosts rounds row host before there)
      | inr past ↦
          let no = lt-no host hosts past in
          let last : hosts ≡ host = omega arith in
          rw (is, no) (subst (λ h. IsStepAt hosts rounds (row * (hosts + 1) + h) Deed.ServerTick) last (at-server-tick hosts rounds row before))
    ]

in-calls : (hosts rounds row host : ℕ) → host < hosts + 1 → row ≡ rounds → IsStepAt hosts rounds (row * (hosts + 1) + host) (deed_in hosts rounds row host)
in-calls hosts rounds row host low at =
    let behind = lt-no row rounds (omega arith) in
    let is : (row == rounds) ≡ true = eq-eqb row rounds at in
    let moved : (deed : Deed) → IsStepAt hosts rounds (rounds * (hosts + 1) + host) deed → IsStepAt hosts rounds (row * (hosts + 1) + host) deed =
    λ deed. subst (λ n. IsStepAt hosts rounds (n * (hosts + 1) + host) deed) (sym at) in
    elim (cases_lt host hosts) [
      | inl there ↦
          let yes = lt-yes host hosts there in
          rw (behind, is, yes) (moved (Deed.Call host) (at-call hosts rounds host there))
      | inr past ↦
          let no = lt-no host hosts past in
          let last : hosts ≡ host = omega arith in
          rw (behind, is, no) (moved (Deed.Receive Party.Server) (subst (λ h. IsStepAt hosts rounds (rounds * (hosts + 1) + h)
          (Deed.Receive Party.Server)) last (at-server hosts rounds)))
    ]

-- the last row is the next one
last-row : (hosts rounds row host : ℕ) → rounds < row → row * (hosts + 1) + host < step_count hosts rounds → row ≡ rounds + 1
last-row hosts rounds row host past below =
    elim (cases_lt (rounds + 1) row) [
      | inl far ↦
          let two : rounds + 2 ≤ row = omega arith in
          absurd (omega (arith, below, mul-le-mul_right (hosts + 1) two, add-mul rounds 2 (hosts + 1)))
      | inr near ↦ omega arith
    ]

in-last : (hosts rounds row host : ℕ) → rounds < row → row * (hosts + 1) + host < step_count hosts rounds → IsStepAt hosts rounds (row * (hosts + 1)
    + host) (deed_in hosts rounds row host)
in-last hosts rounds row host past below =
    let behind = lt-no row rounds (omega arith) in
    let other = eq-no row rounds past in
    let next : row * (hosts + 1) ≡ (rounds + 1) * (hosts + 1) = ap (λ n. n * (hosts + 1)) (last-row hosts rounds row host past below) in
    let place : rounds * (hosts + 1) + (hosts + suc host) ≡ row * (hosts + 1) + host = omega (arith, next, add-mul rounds 1 (hosts + 1)) in
    let there : host < hosts = omega (arith, place, below) in
    rw (behind, other) (subst (λ n. IsStepAt hosts rounds n (Deed.Receive (Party.Client host))) place (at-host hosts rounds host there))

in-row : (hosts rounds row host : ℕ) → host < hosts + 1 → row * (hosts + 1) + host < step_count hosts rounds → IsStepAt hosts rounds
    (row * (hosts + 1) + host) (deed_in hosts rounds row host)
in-row hosts rounds row host low below =
    elim (cases_lt row rounds) [
      | inl before ↦ in-round hosts rounds row host low before
      | inr behind ↦
          elim (cases_lt rounds row) [
            | inl past ↦ in-last hosts rounds row host past below
            | inr near ↦ in-calls hosts rounds row host low (omega arith)
          ]
    ]

step-at : (hosts rounds place : ℕ) → place < step_count hosts rounds → IsStepAt hosts rounds place (deed_at hosts rounds place)
step-at hosts rounds place below =
    let row = place / (hosts + 1) in
    let host = place % (hosts + 1) in
    let split : row * (hosts + 1) + host ≡ place = div-add-mod' place (hosts + 1) in
    let low : host < hosts + 1 = mod_below place (hosts + 1) (omega arith) in
    subst (λ n. IsStepAt hosts rounds n (deed_at hosts rounds place)) split (in-row hosts rounds row host low
    (subst (λ n. n < step_count hosts rounds) (sym split) below))

-- what is done at a place of the steps among so many hosts
pub step-is : (hosts some rounds count place : ℕ) (deed : Deed) → some ≡ hosts → count ≡ step_count some rounds → place < count
    → deed ≡ deed_at some rounds place → IsStepAt hosts rounds place deed
step-is hosts some rounds count place deed same whole below is =
    let within = subst (λ n. place < n) whole below in
    subst (λ d. IsStepAt hosts rounds place d) (sym is) (subst (λ n. IsStepAt n rounds place (deed_at some rounds place)) same
    (step-at some rounds place within))

-- all of them are below a place behind the last
pub all-below : (hosts some rounds count place : ℕ) → some ≡ hosts → count ≡ step_count some rounds → count ≤ place → length (turn_steps hosts rounds) ≤ place
all-below hosts some rounds count place same whole past =
    let many : length (turn_steps hosts rounds) ≡ count = length-turn hosts rounds ∙ sym (whole ∙ ap (λ n. step_count n rounds) same) in
    omega (arith, many, past)
