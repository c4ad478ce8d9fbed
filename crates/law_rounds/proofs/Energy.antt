-- What may still happen to the rows that hosts wait for: each host may come to share its file, and each row that is to go may go.
use Rattle.std.proofs.Common.{◌≡◌, ◌≤◌, ◌<◌, ℕ, ◌+◌, ◌*◌, ◌==◌, ◌&&◌, ◌||◌, Bool, true, false, not, zero, suc, List, Option, Some, None, refl, sym}
use Rattle.std.proofs.Common.{ap, subst, arith}
use Rattle.std.proofs.lemmas.Bool.Decides.{nat_tests}
use Rattle.nq_base.specs.declared.Request.{Request}
use Rattle.nq_base.specs.declared.Row.{Row}
use Rattle.nq_model.specs.protocol.Table.{caches, find_row}
use Rattle.walk_steps.proofs.Rows.{same-number}

-- ---- sums over hosts

abbrev pub sum_below : ℕ → (ℕ → ℕ) → ℕ
sum_below zero f = 0
sum_below (suc n) f = f n + sum_below n f

pub sum-no-more : (n : ℕ) (f g : ℕ → ℕ) → ((h : ℕ) → h < n → f h ≤ g h) → sum_below n f ≤ sum_below n g
sum-no-more zero f g each = omega arith
sum-no-more (suc n) f g each = let here = each n (omega arith) in let rest = sum-no-more n f g (λ h below. each h (omega arith)) in omega arith

lower-one : (a b : ℕ) → (a == b) ≡ false → a < suc b → a < b
lower-one a b differs small = grind (arith, nat_tests)

pub sum-less : (n : ℕ) (f g : ℕ → ℕ) → ((h : ℕ) → h < n → f h ≤ g h) → (one : ℕ) → one < n → f one < g one → sum_below n f < sum_below n g
sum-less zero f g each one below less = absurd (omega arith)
sum-less (suc n) f g each one below less = by (λ other. sum-less n f g (λ h small. each h (omega arith)) one other less) (one == n) refl
  where
    by : (one < n → sum_below n f < sum_below n g) → (b : Bool) → (one == n) ≡ b → f n + sum_below n f < g n + sum_below n g
    by again true e =
        let same : one ≡ n = same-number one n e in
        let here : f n < g n = subst (λ h. f h < g h) same less in
        let rest = sum-no-more n f g (λ h small. each h (omega arith)) in
        omega arith
    by again false e =
        let other : one < n = lower-one one n e below in
        let rest = again other in
        let here = each n (omega arith) in
        omega arith

-- one falls by much, and each other rises by one at most
pub sum-spread : (n much : ℕ) (f g : ℕ → ℕ) → ((h : ℕ) → h < n → f h ≤ g h + 1) → (one : ℕ) → one < n → f one + much ≤ g one + 1 → sum_below n f
    + much ≤ sum_below n g + n
sum-spread zero much f g each one below less = absurd (omega arith)
sum-spread (suc n) much f g each one below less = by (λ other. sum-spread n much f g (λ h small. each h (omega arith)) one other less) (one == n) refl
  where
    all-more : (m : ℕ) → ((h : ℕ) → h < m → f h ≤ g h + 1) → sum_below m f ≤ sum_below m g + m
    all-more zero few = omega arith
    all-more (suc m) few = let here = few m (omega arith) in let rest = all-more m (λ h small. few h (omega arith)) in omega arith

    by : (one < n → sum_below n f + much ≤ sum_below n g + n) → (b : Bool) → (one == n) ≡ b → (f n + sum_below n f) + much ≤ (g n + sum_below n g) + suc n
    by again true e =
        let same : one ≡ n = same-number one n e in
        let here : f n + much ≤ g n + 1 = subst (λ h. f h + much ≤ g h + 1) same less in
        let rest = all-more n (λ h small. each h (omega arith)) in
        omega arith
    by again false e =
        let other : one < n = lower-one one n e below in
        let rest = again other in
        let here = each n (omega arith) in
        omega arith

pub sum-most : (n most : ℕ) (f : ℕ → ℕ) → ((h : ℕ) → f h ≤ most) → sum_below n f ≤ n * most
sum-most zero most f each = omega arith
sum-most (suc n) most f each =
    let here = each n in
    let rest = sum-most n most f each in
    let more : suc n * most ≡ most + n * most = grind arith in
    omega arith

-- ---- whether some host does

abbrev pub any_below : ℕ → (ℕ → Bool) → Bool
any_below zero f = false
any_below (suc n) f = f n || any_below n f

pub any-more : (n : ℕ) (f g : ℕ → Bool) → ((h : ℕ) → f h ≡ true → g h ≡ true) → any_below n f ≡ true → any_below n g ≡ true
any-more zero f g each some = some
any-more (suc n) f g each some = by (any-more n f g each) (f n) refl some
  where
    last : any_below n g ≡ true → (c : Bool) → (c || any_below n g) ≡ true
    last sure true = refl
    last sure false = sure

    by : (any_below n f ≡ true → any_below n g ≡ true) → (b : Bool) → f n ≡ b → (b || any_below n f) ≡ true → (g n || any_below n g) ≡ true
    by again true e t = rw (each n e) refl
    by again false e t = last (again t) (g n)

pub any-here : (n : ℕ) (f : ℕ → Bool) (h : ℕ) → h < n → f h ≡ true → any_below n f ≡ true
any-here zero f h below e = absurd (omega arith)
any-here (suc n) f h below e = by (λ other. any-here n f h other e) (h == n) refl
  where
    last : any_below n f ≡ true → (c : Bool) → (c || any_below n f) ≡ true
    last sure true = refl
    last sure false = sure

    by : (h < n → any_below n f ≡ true) → (b : Bool) → (h == n) ≡ b → (f n || any_below n f) ≡ true
    by again true same = let at : h ≡ n = same-number h n same in let yes : f n ≡ true = subst (λ k. f k ≡ true) at e in rw yes refl
    by again false other = last (again (lower-one h n other below)) (f n)

pub any-none : (n : ℕ) (f : ℕ → Bool) → ((h : ℕ) → f h ≡ false) → any_below n f ≡ false
any-none zero f each = refl
any-none (suc n) f each = rw (each n) (any-none n f each)

-- ---- rows that hosts wait for

-- the file of a request that wants a lease
abbrev pub wish : Option Request → Option ℕ
wish (Some (Request.Read who q file block (Some want))) = Some file
wish (Some (Request.GetLease who file want)) = Some file
wish other = None

-- whether a row shares the file
abbrev pub is_sharing : Option Row → Bool
is_sharing None = false
is_sharing (Some row) = not (caches row.mode)

abbrev pub shares_file : List Row → (file host : ℕ) → Bool
shares_file rows file host = is_sharing (find_row file host rows)

-- whether some host shares a file
abbrev pub is_shared_in : (hosts : ℕ) → List Row → (file : ℕ) → Bool
is_shared_in hosts rows file = any_below hosts (shares_file rows file)

-- whether a row that caches is to go, or is of a file that is shared
abbrev pub is_doomed : (shared : Bool) → Option Row → Bool
is_doomed shared None = false
is_doomed shared (Some row) = caches row.mode && (row.evicting || shared)

abbrev pub doomed_at : (hosts : ℕ) → List Row → (file host : ℕ) → Bool
doomed_at hosts rows file host = is_doomed (is_shared_in hosts rows file) (find_row file host rows)

abbrev pub one_if : Bool → ℕ
one_if true = 1
one_if false = 0

abbrev pub unless_sharing : (much : ℕ) → Bool → ℕ
unless_sharing much true = 0
unless_sharing much false = much

abbrev pub host_energy : (hosts : ℕ) → List Row → (host : ℕ) → Option ℕ → ℕ
host_energy hosts rows host None = 0
host_energy hosts rows host (Some file) = unless_sharing (hosts + 1) (shares_file rows file host) + one_if (doomed_at hosts rows file host)

abbrev pub energy : (hosts : ℕ) → (asks : ℕ → Option Request) → List Row → ℕ
energy hosts asks rows = sum_below hosts (λ h. host_energy hosts rows h (wish (asks h)))

one-most : (b : Bool) → one_if b ≤ 1
one-most true = omega arith
one-most false = omega arith

sharing-most : (much : ℕ) (b : Bool) → unless_sharing much b ≤ much
sharing-most much true = omega arith
sharing-most much false = omega arith

pub energy-most : (hosts : ℕ) (asks : ℕ → Option Request) (rows : List Row) → energy hosts asks rows ≤ hosts * (hosts + 2)
energy-most hosts asks rows = sum-most hosts (hosts + 2) (λ h. host_energy hosts rows h (wish (asks h))) (λ h. by h (wish (asks h)))
  where
    by : (h : ℕ) (o : Option ℕ) → host_energy hosts rows h o ≤ hosts + 2
    by h None = omega arith
    by h (Some file) = let a = one-most (doomed_at hosts rows file h) in let b = sharing-most (hosts + 1) (shares_file rows file h) in omega arith

-- who shares goes on to
abbrev pub KeepSharing : (before after : List Row) → Type 0
KeepSharing before after = (file host : ℕ) → shares_file before file host ≡ true → shares_file after file host ≡ true

-- and no other row becomes one that is to go
pub record IsTame (hosts : ℕ) (before after : List Row) : Type 0 where
  pub sharing : KeepSharing before after
  pub doomed : (file host : ℕ) → doomed_at hosts after file host ≡ true → doomed_at hosts before file host ≡ true

one-less : (a b : Bool) → (a ≡ true → b ≡ true) → one_if a ≤ one_if b
one-less true true f = omega arith
one-less false b f = omega arith
one-less true false f = let bad : false ≡ true = f refl in absurd (cc)

sharing-less : (much : ℕ) (a b : Bool) → (a ≡ true → b ≡ true) → unless_sharing much b ≤ unless_sharing much a
sharing-less much true true f = omega arith
sharing-less much false b f = sharing-most much b
sharing-less much true false f = let bad : false ≡ true = f refl in absurd (cc)

module _ (hosts : ℕ) (asks : ℕ → Option Request) (before after : List Row) where
  tame-host : IsTame hosts before after → (h : ℕ) (o : Option ℕ) → host_energy hosts after h o ≤ host_energy hosts before h o
  tame-host t h None = omega arith
  tame-host t h (Some file) =
      let a = one-less (doomed_at hosts after file h) (doomed_at hosts before file h) (t.doomed file h) in
      let b = sharing-less (hosts + 1) (shares_file before file h) (shares_file after file h) (t.sharing file h) in
      omega arith

  pub tame-energy : IsTame hosts before after → energy hosts asks after ≤ energy hosts asks before
  tame-energy t = sum-no-more hosts (λ h. host_energy hosts after h (wish (asks h))) (λ h. host_energy hosts before h (wish (asks h)))
      (λ h below. tame-host t h (wish (asks h)))

  -- a row goes that was to go
  pub doomed-goes : IsTame hosts before after → (file host : ℕ) → host < hosts → wish (asks host) ≡ Some file → doomed_at hosts before file host
      ≡ true → doomed_at hosts after file host ≡ false → energy hosts asks after < energy hosts asks before
  doomed-goes t file host below wants was is =
      sum-less hosts (λ h. host_energy hosts after h (wish (asks h))) (λ h. host_energy hosts before h (wish (asks h)))
      (λ h small. tame-host t h (wish (asks h))) host below
      (subst (λ o. host_energy hosts after host o < host_energy hosts before host o) (sym wants) here)
    where
      here : host_energy hosts after host (Some file) < host_energy hosts before host (Some file)
      here =
          let a : one_if (doomed_at hosts after file host) ≡ 0 = ap one_if is in
          let b : one_if (doomed_at hosts before file host) ≡ 1 = ap one_if was in
          let c = sharing-less (hosts + 1) (shares_file before file host) (shares_file after file host) (t.sharing file host) in
          omega arith

  -- a host comes to share the file that it wants
  pub share-begins : KeepSharing before after → (file host : ℕ) → host < hosts → wish (asks host) ≡ Some file → shares_file before file host ≡ false
      → shares_file after file host ≡ true → energy hosts asks after < energy hosts asks before
  share-begins keeps file host below wants was is =
      let all = sum-spread hosts (hosts + 1) (λ h. host_energy hosts after h (wish (asks h))) (λ h. host_energy hosts before h (wish (asks h)))
      (λ h small. each h (wish (asks h))) host below (subst (λ o. host_energy hosts after host o + (hosts + 1) ≤ host_energy hosts before host o
      + 1) (sym wants) here) in
      omega arith
    where
      each : (h : ℕ) (o : Option ℕ) → host_energy hosts after h o ≤ host_energy hosts before h o + 1
      each h None = omega arith
      each h (Some f) =
          let a = one-most (doomed_at hosts after f h) in
          let b = sharing-less (hosts + 1) (shares_file before f h) (shares_file after f h) (keeps f h) in
          omega arith

      here : host_energy hosts after host (Some file) + (hosts + 1) ≤ host_energy hosts before host (Some file) + 1
      here =
          let a = one-most (doomed_at hosts after file host) in
          let b : unless_sharing (hosts + 1) (shares_file after file host) ≡ 0 = ap (unless_sharing (hosts + 1)) is in
          let c : unless_sharing (hosts + 1) (shares_file before file host) ≡ hosts + 1 = ap (unless_sharing (hosts + 1)) was in
          omega arith
