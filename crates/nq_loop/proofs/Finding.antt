-- The packet that a datagram counts as.
use Rattle.std.proofs.Common.{◌≡◌, ℕ, ◌+◌, ◌<◌, ◌≤◌, Bool, true, false, List, length, Option, Some, None, inl, inr, refl, sym, subst, ◌∙◌, arith, ◌↔◌}
use Rattle.std.proofs.lemmas.Bool.{cases_eq}
use Rattle.std.proofs.lemmas.Option.{slice_get_within}
use Rattle.std.specs.Prelude.{IsTrue}
use Rattle.nq_base.specs.declared.Event.{Event}
use Rattle.nq_loop.specs.Matching.{CountsAs, Equals, EqualsFresh, IsLeast, is_fresh, least_with}
use Rattle.nq_link.specs.Packets.{Datagram}
use Rattle.nq_replay.specs.Delivering.{was_delivered}

-- what was found among the packets below a number
abbrev pub FoundBelow : (sent : List Datagram) → Datagram → (number : ℕ) → Option ℕ → Type 0
FoundBelow sent d number None = (other : ℕ) → other < number → Equals sent d other → ⊥
FoundBelow sent d number (Some found) = IsLeast (Equals sent d) found

-- none of the packets below a number is fresh
abbrev pub NoneFresh : (sent : List Datagram) → List Event → Datagram → (number : ℕ) → Type 0
NoneFresh sent events d number = (other : ℕ) → other < number → EqualsFresh sent events d other → ⊥

-- one packet further, which is not both equal and fresh
not-fresh : (sent : List Datagram) (events : List Event) (d : Datagram) (number : ℕ) (same delivered : Bool) → is_fresh same delivered ≡ false
    → (IsTrue same ↔ Equals sent d number) → delivered ≡ was_delivered number events → EqualsFresh sent events d number → ⊥
not-fresh sent events d number true true off is told fresh = let both : true ≡ false = told ∙ fresh.1 in absurd (cc)
not-fresh sent events d number true false off is told fresh = let both : true ≡ false = off in absurd (cc)
not-fresh sent events d number false delivered off is told fresh = let both : false ≡ true = is.1 fresh.0 in absurd (cc)

pub none-more : (sent : List Datagram) (events : List Event) (d : Datagram) (number : ℕ) (same delivered : Bool) → is_fresh same delivered ≡ false
    → (IsTrue same ↔ Equals sent d number) → delivered ≡ was_delivered number events
    → NoneFresh sent events d number → NoneFresh sent events d (number + 1)
none-more sent events d number same delivered off is told none other below fresh =
    elim (cases_eq other number) [
      | inl here ↦ not-fresh sent events d number same delivered off is told (subst (λ n. EqualsFresh sent events d n) here fresh)
      | inr unlike ↦ none other (omega arith) fresh
    ]

found-none : (sent : List Datagram) (d : Datagram) (number : ℕ) → FoundBelow sent d number None → (Equals sent d number → ⊥)
    → FoundBelow sent d (number + 1) None
found-none sent d number before here = λ other below equals.
    elim (cases_eq other number) [
      | inl same ↦ here (subst (λ n. Equals sent d n) same equals)
      | inr unlike ↦ before other (omega arith) equals
    ]

pub found-more : (sent : List Datagram) (d : Datagram) (number : ℕ) (same : Bool) (found : Option ℕ) → (IsTrue same ↔ Equals sent d number)
    → FoundBelow sent d number found → FoundBelow sent d (number + 1) (least_with same found number)
found-more sent d number same (Some first) is before = before
found-more sent d number true None is before = record { is = is.0 refl; least = before }
found-more sent d number false None is before = found-none sent d number before (λ equals. let both : false ≡ true = is.1 equals in absurd (cc))

-- the first that is fresh
fresh-is : (same delivered : Bool) → is_fresh same delivered ≡ true → (same ≡ true) × (delivered ≡ false)
fresh-is true true on = absurd (cc)
fresh-is true false on = (refl, refl)
fresh-is false delivered on = absurd (cc)

pub is-fresh : (sent : List Datagram) (events : List Event) (d : Datagram) (number : ℕ) (same delivered : Bool) → is_fresh same delivered ≡ true
    → (IsTrue same ↔ Equals sent d number) → delivered ≡ was_delivered number events
    → NoneFresh sent events d number → CountsAs sent events d (Some number)
is-fresh sent events d number same delivered on is told none =
    let both = fresh-is same delivered on in
    inl (record { is = (is.0 both.0, sym told ∙ both.1); least = none })

-- the first of all
pub is-found : (sent : List Datagram) (events : List Event) (d : Datagram) (number : ℕ) (found : Option ℕ) → length sent ≤ number
    → NoneFresh sent events d number → FoundBelow sent d number found → CountsAs sent events d found
is-found sent events d number None whole none before = λ other equals.
    let within = slice_get_within sent other d equals in
    before other (omega arith) equals
is-found sent events d number (Some found) whole none before =
    inr (λ other fresh. let within = slice_get_within sent other d fresh.0 in none other (omega arith) fresh, before)
