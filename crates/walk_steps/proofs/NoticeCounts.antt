-- Rows that stand in the way of one host are fewer than the hosts.
use Rattle.std.proofs.Common.{◌≡◌, ◌<◌, ◌≤◌, ℕ, ◌+◌, zero, suc, Bool, true, false, ◌&&◌, nat_lt, List, [], ◌∷◌, if◌then◌else◌, length, refl, ap, sym, arith}
use Rattle.std.specs.Prelude.{filter, find, Some, None, ◌⊎◌}
use mathlib.Core.Logic.{inl, inr}
use Rattle.std.proofs.lemmas.Bool.{and_parts, and_from, cases_eq, cases_lt, ltb-true, lt-ltb}
use Rattle.nq_base.specs.declared.Row.{Row}
use Rattle.nq_model.specs.protocol.Ask.{conflicts}
use Rattle.nq_model.specs.protocol.Table.{find_row, is_row_of}
use Rattle.nq_base.specs.declared.Access.{Access}
use Rattle.walk_steps.proofs.RowChanges.{is-clash, has-key, own-key}
use Rattle.walk_steps.proofs.Rows.{choice}

-- the rows that conflict, of hosts below a number
below_in : (file host : ℕ) → Access → (n : ℕ) → Row → Bool
below_in file host access n r = conflicts file host access r && nat_lt r.who.host n

-- the number of rows that pass
count : (Row → Bool) → List Row → ℕ
count p rows = length (filter p rows)

one : Bool → ℕ
one b = if b then 1 else 0

count-cons : (p : Row → Bool) (r : Row) (rows : List Row) → count p (r ∷ rows) ≡ one (p r) + count p rows
unfolding count one
count-cons p r rows =
    choice (λ (xs : List Row). (b : Bool) → b ≡ p r → length xs ≡ (if b then 1 else 0) + length (filter p rows)) (p r) (r ∷ filter p rows)
    (filter p rows) yes no (p r) refl
  where
    yes : p r ≡ true → (b : Bool) → b ≡ p r → length (r ∷ filter p rows) ≡ (if b then 1 else 0) + length (filter p rows)
    yes e true is = omega arith
    yes e false is = absurd (cc)

    no : p r ≡ false → (b : Bool) → b ≡ p r → length (filter p rows) ≡ (if b then 1 else 0) + length (filter p rows)
    no e true is = absurd (cc)
    no e false is = omega arith

-- where each row that passes one test passes another, there are no more of them
more-of : (p q : Row → Bool) → ((r : Row) → p r ≡ true → q r ≡ true) → (rows : List Row) → count p rows ≤ count q rows
unfolding count one
more-of p q each [] = omega arith
more-of p q each (r ∷ rows) =
    let here = count-cons p r rows in
    let there = count-cons q r rows in
    let rest = more-of p q each rows in
    let less : one (p r) ≤ one (q r) = at (p r) (q r) (each r) in
    omega arith
  where
    at : (a b : Bool) → (a ≡ true → b ≡ true) → one a ≤ one b
    at true true h = omega arith
    at true false h = absurd (let e = h refl in cc)
    at false true h = omega arith
    at false false h = omega arith

-- rows of hosts below a number are those below the one before it, and those of that host
up-to : (p q x : Row → Bool) → ((r : Row) → p r ≡ true → (q r ≡ true) ⊎ (x r ≡ true)) → (rows : List Row) → count p rows ≤ count q rows + count x rows
unfolding count one
up-to p q x each [] = omega arith
up-to p q x each (r ∷ rows) =
    let here = count-cons p r rows in
    let there = count-cons q r rows in
    let beside = count-cons x r rows in
    let rest = up-to p q x each rows in
    let less : one (p r) ≤ one (q r) + one (x r) = at (p r) (q r) (x r) (each r) in
    omega arith
  where
    at : (a b c : Bool) → (a ≡ true → (b ≡ true) ⊎ (c ≡ true)) → one a ≤ one b + one c
    at false b c h = omega arith
    at true true c h = omega arith
    at true false true h = omega arith
    at true false false h = absurd (elim (h refl) [ inl e ↦ cc | inr e ↦ cc ])

module _ (file host : ℕ) (access : Access) (rows : List Row) (each : (other : ℕ) → length (filter (is_row_of file other) rows) ≤ 1) where
  below : ℕ → ℕ
  below n = count (below_in file host access n) rows

  next-host : (n : ℕ) (r : Row) → below_in file host access (suc n) r ≡ true → (below_in file host access n r ≡ true) ⊎ (is_row_of file n r ≡ true)
  unfolding below_in
  next-host n r h =
      let parts = and_parts _ _ h in
      let clash = is-clash file host access r parts.0 in
      let under : r.who.host < suc n = ltb-true _ _ parts.1 in
      elim (cases_lt r.who.host n) [
        | inl less ↦ inl (and_from _ _ parts.0 (lt-ltb _ _ less))
        | inr more ↦ inr (has-key file n r clash.of_file (omega arith))
      ]

  next-below : (n : ℕ) → below (suc n) ≤ below n + 1
  unfolding below count
  next-below n =
      let some = up-to (below_in file host access (suc n)) (below_in file host access n) (is_row_of file n) (next-host n) rows in
      let one_row = each n in
      omega arith

  own-host : (r : Row) → below_in file host access (suc host) r ≡ true → below_in file host access host r ≡ true
  unfolding below_in
  own-host r h =
      let parts = and_parts _ _ h in
      let clash = is-clash file host access r parts.0 in
      let under : r.who.host < suc host = ltb-true _ _ parts.1 in
      elim (cases_eq r.who.host host) [
        | inl same ↦ absurd (clash.other same)
        | inr other ↦ and_from _ _ parts.0 (lt-ltb _ _ (omega arith))
      ]

  none-below : (r : Row) → below_in file host access 0 r ≡ true → false ≡ true
  unfolding below_in
  none-below r h =
      let under : r.who.host < 0 = ltb-true r.who.host 0 (and_parts (conflicts file host access r) (nat_lt r.who.host 0) h).1 in absurd (omega arith)

  none-pass : (xs : List Row) → count (λ r. false) xs ≡ 0
  unfolding count
  none-pass [] = refl
  none-pass (x ∷ xs) = none-pass xs

  before-own : (n : ℕ) → below n ≤ n
  unfolding below
  before-own zero =
      let less = more-of (below_in file host access 0) (λ r. false) none-below rows in
      let none = none-pass rows in
      omega arith
  before-own (suc n) = let rest = before-own n in let more = next-below n in omega arith

  past-own : (n : ℕ) → host < n → below n + 1 ≤ n
  past-own zero past = absurd (omega arith)
  past-own (suc n) past =
      elim (cases_eq host n) [
        | inl same ↦
            let rest = before-own host in
            let less : below (suc host) ≤ below host = unfold below in
            more-of (below_in file host access (suc host)) (below_in file host access host) own-host rows in
            let at : below (suc n) ≡ below (suc host) = ap (λ k. below (suc k)) (sym same) in
            omega arith
        | inr other ↦ let rest = past-own n (omega arith) in let more = next-below n in omega arith
      ]

-- no row is of a host from this number on
unfoldable pub HostedBelow : ℕ → List Row → Type 0
HostedBelow n rows = (file host : ℕ) → n ≤ host → find_row file host rows ≡ None

find-parts : (p : Row → Bool) (r : Row) (rows : List Row) (b : Bool) → p r ≡ b → (if b then Some r else find p rows) ≡ None
    → (p r ≡ false) × (find p rows ≡ None)
find-parts p r rows true e h = absurd (cc)
find-parts p r rows false e h = (e, h)

pub hosted-head : (n : ℕ) (r : Row) (rows : List Row) → HostedBelow n (r ∷ rows) → r.who.host < n
unfolding HostedBelow
hosted-head n r rows h =
    elim (cases_lt r.who.host n) [
      | inl less ↦ less
      | inr more ↦
          let none = find-parts (is_row_of r.file r.who.host) r rows (is_row_of r.file r.who.host r) refl (h r.file r.who.host more) in
          let own = own-key r in
          absurd (cc)
    ]

pub hosted-tail : (n : ℕ) (r : Row) (rows : List Row) → HostedBelow n (r ∷ rows) → HostedBelow n rows
unfolding HostedBelow
hosted-tail n r rows h file host far = (find-parts (is_row_of file host) r rows (is_row_of file host r) refl (h file host far)).1

all-below : (file host : ℕ) (access : Access) (n : ℕ) (rows : List Row) → HostedBelow n rows
    → count (conflicts file host access) rows ≤ count (below_in file host access n) rows
unfolding count one below_in
all-below file host access n [] h = omega arith
all-below file host access n (r ∷ rows) h =
    let here = count-cons (conflicts file host access) r rows in
    let there = count-cons (below_in file host access n) r rows in
    let rest = all-below file host access n rows (hosted-tail n r rows h) in
    let under = lt-ltb r.who.host n (hosted-head n r rows h) in
    let same : below_in file host access n r ≡ conflicts file host access r = at (conflicts file host access r) (nat_lt r.who.host n) under in
    let ones : one (below_in file host access n r) ≡ one (conflicts file host access r) = ap one same in
    omega arith
  where
    at : (a b : Bool) → b ≡ true → (a && b) ≡ a
    at true b e = e
    at false b e = refl

-- rows of a file that stand in the way of one of so many hosts are fewer than the hosts, where each host has one at most
pub fewer-than-hosts : (file host : ℕ) (access : Access) (n : ℕ) (rows : List Row) → ((other : ℕ) → length (filter (is_row_of file other) rows) ≤ 1)
    → HostedBelow n rows → host < n → length (filter (conflicts file host access) rows) + 1 ≤ n
unfolding count below
fewer-than-hosts file host access n rows each hosted within =
    let all : count (conflicts file host access) rows ≤ count (below_in file host access n) rows = all-below file host access n rows hosted in
    let few : count (below_in file host access n) rows + 1 ≤ n = past-own file host access rows each n within in
    omega arith
