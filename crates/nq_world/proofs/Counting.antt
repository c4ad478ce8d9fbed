-- How many calls, datagrams and ticks the clients of a world took in.
use Rattle.std.proofs.Common.{◌≡◌, ◌≤◌, ℕ, zero, suc, ◌+◌, List, [], ◌∷◌, ◌++◌, Some, subst, arith}
use Rattle.std.specs.Prelude.{slice_get, slice_set}
use Rattle.nq_client.specs.Counted.{Counted}
use Rattle.nq_world.specs.Counting.{TookIn}

pub took-more : (most more : ℕ) (clients : List Counted) → most ≤ more → TookIn most clients → TookIn more clients
took-more most more [] up took = tt
took-more most more (c ∷ clients) up took = let few = took.0 in (omega arith, took-more most more clients up took.1)

pub took-at : (most host : ℕ) (clients : List Counted) (c : Counted) → slice_get clients host ≡ Some c → TookIn most clients → c.taken ≤ most
took-at most host [] c there took = absurd (cc)
took-at most zero (x ∷ clients) c there took = let same : x ≡ c = cc in subst (λ y. y.taken ≤ most) same took.0
took-at most (suc host) (x ∷ clients) c there took = took-at most host clients c there took.1

pub took-put : (most host : ℕ) (clients : List Counted) (c : Counted) → c.taken ≤ most → TookIn most clients → TookIn most (slice_set clients host c)
took-put most host [] c few took = tt
took-put most zero (x ∷ clients) c few took = (few, took.1)
took-put most (suc host) (x ∷ clients) c few took = (took.0, took-put most host clients c few took.1)

pub took-last : (most : ℕ) (clients : List Counted) (c : Counted) → c.taken ≤ most → TookIn most clients → TookIn most (clients ++ c ∷ [])
took-last most [] c few took = (few, tt)
took-last most (x ∷ clients) c few took = (took.0, took-last most clients c few took.1)

-- a client that takes in one more is put back
pub took-one-more : (most host : ℕ) (clients : List Counted) (c c' : Counted) → slice_get clients host ≡ Some c → c'.taken ≤ c.taken + 1 → TookIn most clients
    → TookIn (most + 1) (slice_set clients host c')
took-one-more most host clients c c' there one took =
    let few : c.taken ≤ most = took-at most host clients c there took in
    took-put (most + 1) host clients c' (omega arith) (took-more most (most + 1) clients (omega arith) took)
