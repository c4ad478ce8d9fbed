-- Lists of counts, by place.
use Rattle.std.proofs.Common.{◌≡◌, ◌<◌, ◌≤◌, ℕ, ◌+◌, ◌++◌, get_or, set, zero, suc, List, [], ◌∷◌, refl, sym, ap, subst, ◌∙◌, arith, length}
use Rattle.std.specs.Prelude.{◌⊎◌}
use mathlib.Core.Logic.{inl, inr}
use Rattle.std.specs.Prelude.{Option, Some, None, slice_get, map, replicate, drop, IfSome}
use Rattle.std.specs.Option.{option_flatten}
use Rattle.nq_base.specs.declared.SkewBroken.{SkewBroken}
use Rattle.nq_clock.specs.Counts.{Counts, AreAtMost, after_host_tick, counts_of, one_on, host_ticked, broken_by, first_broken}
use Rattle.nq_clock.specs.Clock.{AreRising}
use Rattle.circular_buffer.specs.Buffer.{keep_last}

-- what stands within a list
pub some-within : {A : Type 0} (xs : List A) (place : ℕ) → place < length xs → (x : A) × (slice_get xs place ≡ Some x)
some-within [] place below = absurd (omega arith)
some-within (x ∷ xs) zero below = (x, refl)
some-within (x ∷ xs) (suc place) below = some-within xs place (omega arith)

pub within-some : {A : Type 0} (xs : List A) (place : ℕ) (x : A) → slice_get xs place ≡ Some x → place < length xs
within-some [] place x h = absurd (cc)
within-some (y ∷ xs) zero x h = omega arith
within-some (y ∷ xs) (suc place) x h = let below : place < length xs = within-some xs place x h in omega arith

-- what stands in a changed list
pub of-map : {A : Type 0} (f : A → A) (xs : List A) (place : ℕ) (y : A) → slice_get (map f xs) place ≡ Some y → (x : A)
    × (slice_get xs place ≡ Some x) × (f x ≡ y)
of-map f [] place y h = absurd (cc)
of-map f (x ∷ xs) zero y h = (x, refl, cc)
of-map f (x ∷ xs) (suc place) y h = of-map f xs place y h

pub length-map : {A : Type 0} (f : A → A) (xs : List A) → length (map f xs) ≡ length xs
length-map f [] = refl
length-map f (x ∷ xs) = ap (λ n. suc n) (length-map f xs)

pub of-replicate : {A : Type 0} (count : ℕ) (x : A) (place : ℕ) (y : A) → slice_get (replicate count x) place ≡ Some y → x ≡ y
of-replicate zero x place y h = absurd (cc)
of-replicate (suc count) x zero y h = cc
of-replicate (suc count) x (suc place) y h = of-replicate count x place y h

-- the list after a tick of a host's clock: its own counts, and the others as they were
pub record IsTicked (window place at : ℕ) (hosts : List Counts) (now : Counts) : Type 0 where
  pub before : Counts
  pub stood : slice_get hosts at ≡ Some before
  pub own : at ≡ place → now ≡ after_host_tick window before
  pub other : (at ≡ place → ⊥) → now ≡ before

pub of-ticked : (window place at : ℕ) (hosts : List Counts) (now : Counts) → slice_get (host_ticked window place hosts) at ≡ Some now
    → IsTicked window place at hosts now
of-ticked window place at [] now h = absurd (cc)
of-ticked window zero zero (c ∷ hosts) now h = record { before = c; stood = refl; own = λ e. cc; other = λ ne. absurd (ne refl) }
of-ticked window zero (suc at) (c ∷ hosts) now h = record { before = now; stood = h; own = λ e. absurd (omega arith); other = λ ne. refl }
of-ticked window (suc place) zero (c ∷ hosts) now h = record { before = c; stood = refl; own = λ e. absurd (omega arith); other = λ ne. cc }
of-ticked window (suc place) (suc at) (c ∷ hosts) now h =
    let rest = of-ticked window place at hosts now h in
    record {
      before = rest.before;
      stood = rest.stood;
      own = λ e. rest.own (omega arith);
      other = λ ne. rest.other (λ same. ne (omega arith));
    }

pub length-ticked : (window place : ℕ) (hosts : List Counts) → length (host_ticked window place hosts) ≡ length hosts
length-ticked window place [] = refl
length-ticked window zero (c ∷ hosts) = refl
length-ticked window (suc place) (c ∷ hosts) = ap (λ n. suc n) (length-ticked window place hosts)

by-none : (host : ℕ) (o : Option ℕ) (higher : Option SkewBroken) → broken_by host o higher ≡ None → (o ≡ None) × (higher ≡ None)
by-none host None higher h = (refl, h)
by-none host (Some ticks) higher h = absurd (cc)

by-some : (host : ℕ) (o : Option ℕ) (higher : Option SkewBroken) (b : SkewBroken) → broken_by host o higher ≡ Some b → ((ticks : ℕ) × (o ≡ Some ticks)
    × (record { host = host; server = ticks + 4; client = ticks } ≡ b)) ⊎ ((o ≡ None) × (higher ≡ Some b))
by-some host None higher b h = inr (refl, h)
by-some host (Some ticks) higher b h = inl (ticks, refl, cc)

-- no host is three ticks behind
pub none-first : (host : ℕ) (hosts : List Counts) → first_broken host hosts ≡ None → (place : ℕ) (c : Counts) → slice_get hosts place ≡ Some c
    → c.three_more ≡ None
none-first host [] none place c h = absurd (cc)
none-first host (d ∷ hosts) none zero c h =
    let here : d.three_more ≡ None = (by-none host d.three_more (first_broken (host + 1) hosts) none).0 in
    let same : d ≡ c = cc in
    subst (λ (x : Counts). x.three_more ≡ None) same here
none-first host (d ∷ hosts) none (suc place) c h = none-first (host + 1) hosts (by-none host d.three_more (first_broken (host + 1) hosts) none).1 place c h

-- the lowest host that is three ticks behind
pub record IsFirst (host : ℕ) (hosts : List Counts) (b : SkewBroken) : Type 0 where
  pub place : ℕ
  pub counts : Counts
  pub stands : slice_get hosts place ≡ Some counts
  pub at : b.host ≡ host + place
  pub behind : counts.three_more ≡ Some b.client
  pub server : b.server ≡ b.client + 4
  pub lower : (other : ℕ) (c : Counts) → other < place → slice_get hosts other ≡ Some c → c.three_more ≡ None

lower-later : (d : Counts) (hosts : List Counts) (place : ℕ) → d.three_more ≡ None → ((other : ℕ) (c : Counts) → other < place → slice_get hosts other
    ≡ Some c → c.three_more ≡ None) → (other : ℕ) (c : Counts) → other < suc place → slice_get (d ∷ hosts) other ≡ Some c → c.three_more ≡ None
lower-later d hosts place here lower zero c below h =
    let same : d ≡ c = cc in subst (λ (x : Counts). x.three_more ≡ None) same here
lower-later d hosts place here lower (suc other) c below h = lower other c (omega arith) h

pub some-first : (host : ℕ) (hosts : List Counts) (b : SkewBroken) → first_broken host hosts ≡ Some b → IsFirst host hosts b
some-first host [] b h = absurd (cc)
some-first host (d ∷ hosts) b h =
    elim (by-some host d.three_more (first_broken (host + 1) hosts) b h) [
      | inl (ticks, is, named) ↦
          let client : b.client ≡ ticks = ap (λ (x : SkewBroken). x.client) (sym named) in
          let at : b.host ≡ host = ap (λ (x : SkewBroken). x.host) (sym named) in
          let server : b.server ≡ ticks + 4 = ap (λ (x : SkewBroken). x.server) (sym named) in
          record {
            place = 0;
            counts = d;
            stands = refl;
            at = omega arith;
            behind = is ∙ ap (λ n. Some n) (sym client);
            server = omega arith;
            lower = λ other c below stands. absurd (omega arith);
          }
      | inr (none, later) ↦
          let first = some-first (host + 1) hosts b later in
          let at = first.at in
          record {
            place = suc first.place;
            counts = first.counts;
            stands = first.stands;
            at = omega arith;
            behind = first.behind;
            server = first.server;
            lower = lower-later d hosts first.place none first.lower;
          }
    ]

-- a list whose first so many items are changed
abbrev pub mapped_to : {A : Type 0} → (A → A) → ℕ → List A → List A
mapped_to f zero xs = xs
mapped_to f (suc n) [] = []
mapped_to f (suc n) (x ∷ xs) = f x ∷ mapped_to f n xs

pub mapped_to-next : {A : Type 0} (f : A → A) (n : ℕ) (xs : List A) (d : A) → n < length xs → set (mapped_to f n xs) n
    (f (get_or (mapped_to f n xs) n d)) ≡ mapped_to f (suc n) xs
mapped_to-next f n [] d below = absurd (omega arith)
mapped_to-next f zero (x ∷ xs) d below = refl
mapped_to-next f (suc n) (x ∷ xs) d below = ap (λ ys. f x ∷ ys) (mapped_to-next f n xs d (omega arith))

pub mapped_to-all : {A : Type 0} (f : A → A) (n : ℕ) (xs : List A) → length xs ≤ n → mapped_to f n xs ≡ map f xs
mapped_to-all f zero [] all = refl
mapped_to-all f zero (x ∷ xs) all = absurd (omega arith)
mapped_to-all f (suc n) [] all = refl
mapped_to-all f (suc n) (x ∷ xs) all = ap (λ ys. f x ∷ ys) (mapped_to-all f n xs (omega arith))

pub replicate-end : {A : Type 0} (n : ℕ) (x : A) → replicate n x ++ x ∷ [] ≡ replicate (suc n) x
replicate-end zero x = refl
replicate-end (suc n) x = ap (λ ys. x ∷ ys) (replicate-end n x)

pub set-ticked : (window place : ℕ) (hosts : List Counts) (d : Counts) → place < length hosts
    → set hosts place (after_host_tick window (get_or hosts place d)) ≡ host_ticked window place hosts
set-ticked window place [] d below = absurd (omega arith)
set-ticked window zero (c ∷ hosts) d below = refl
set-ticked window (suc place) (c ∷ hosts) d below = ap (λ cs. c ∷ cs) (set-ticked window place hosts d (omega arith))

-- the counts that a ring has after a tick of the host's clock
pub ring-ticked : (window : ℕ) (xs : List (Option ℕ)) → length xs ≡ 3
    → counts_of
    (keep_last 3 (keep_last 3 (keep_last 3 (drop 1 (drop 1 (drop 1 xs)) ++ one_on window (option_flatten (slice_get (drop 1 xs) 0)) ∷ [])
    ++ one_on window (option_flatten (slice_get (drop 1 (drop 1 xs)) 0)) ∷ []) ++ None ∷ []))
    ≡ after_host_tick window (counts_of xs)
ring-ticked window [] three = absurd (omega arith)
ring-ticked window (a ∷ []) three = absurd (omega arith)
ring-ticked window (a ∷ b ∷ []) three = absurd (omega arith)
ring-ticked window (a ∷ b ∷ c ∷ []) three = refl
ring-ticked window (a ∷ b ∷ c ∷ d ∷ xs) three = absurd (omega arith)

pub at-most : (most : ℕ) (xs : List (Option ℕ)) (place : ℕ) → AreAtMost most xs → IfSome (option_flatten (slice_get xs place)) (λ ticks. ticks ≤ most)
at-most most [] place h = tt
at-most most (None ∷ xs) zero h = tt
at-most most (Some ticks ∷ xs) zero h = h.0
at-most most (None ∷ xs) (suc place) h = at-most most xs place h
at-most most (Some ticks ∷ xs) (suc place) h = at-most most xs place h.1

rising-lower : (floor low : ℕ) (xs : List ℕ) → low ≤ floor → AreRising floor xs → AreRising low xs
rising-lower floor low [] le h = tt
rising-lower floor low (x ∷ xs) le h = let above = h.0 in (omega arith, h.1, h.2)

pub rising-later : (floor place : ℕ) (xs : List ℕ) → AreRising floor (drop place xs) → AreRising 0 (drop (suc place) xs)
rising-later floor place [] h = tt
rising-later floor zero (x ∷ xs) h = rising-lower x 0 xs (omega arith) h.2
rising-later floor (suc place) (x ∷ xs) h = rising-later floor place xs h
