-- Of which lengths the leases of a client are that run and cache, and that no step changes the client's time where it takes a grant.
use Rattle.std.proofs.Common.{◌≡◌, ◌≢◌, ◌⊎◌, ◌≤◌, ℕ, ◌==◌, Bool, true, false, List, Option, Some, if◌then◌else◌, refl, sym, subst, ap, ◌∙◌, inl, inr, arith}
use Rattle.std.proofs.lemmas.Bool.Decides.{nat_tests}
use Rattle.std.specs.Prelude.{◌&&◌, nat_lt}
use Rattle.nq_base.specs.declared.Grant.{Grant}
use Rattle.nq_base.specs.declared.Mode.{Mode}
use Rattle.nq_base.specs.declared.Tag.{Tag}
use Rattle.nq_model.proofs.ClientLists.{lease-before-drop, lease-after-put, marked-before}
use Rattle.nq_model.specs.protocol.Client.{ClientStep, Lease, Notice, lease_on, drop_lease, put_lease, marked_used, used_lease, notice_on, is_live, lets_read}
use Rattle.nq_model.specs.protocol.Client.{lets_write}
use Rattle.nq_model.specs.protocol.Hear.{vacates_lease, vacates_noticed, loses, reports, breaks_chain, if_broken}
use Rattle.nq_model.specs.protocol.Settle.{answers, names_losses}
use Rattle.nq_model.specs.protocol.Table.{caches, is_writing}
use Rattle.walk_steps.proofs.PartCases.{vacates-noticed-cases, reports-cases, if-broken-cases}

-- each lease that runs and caches is of a length that its file had
abbrev pub Lent : (Had : (file blocks : ℕ) → Type 0) → (now : ℕ) → List Lease → Type 0
Lent Had now leases = (file : ℕ) (l : Lease) → lease_on file leases ≡ Some l → lets_read now l ≡ true → Had file l.blocks

-- what is so of a lease is so of it where it is marked as used
marked-same : {X : Type 0} (F : Lease → X) → ((l : Lease) → F (record l { used = true }) ≡ F l) → (f : ℕ) (l : Lease) → F (marked_used f l) ≡ F l
marked-same F same f l = case (l.file == f)
  where
    case : (b : Bool) → F (if b then record l { used = true } else l) ≡ F l
    case true = same l
    case false = refl

pub lent-used : (Had : (file blocks : ℕ) → Type 0) (now f : ℕ) (leases : List Lease) → Lent Had now leases → Lent Had now (used_lease f leases)
lent-used Had now f leases h file l e lets =
    let m = marked-before file f leases l e in
    let blocks : l.blocks ≡ m.before.blocks = ap (λ z. z.blocks) m.same ∙ marked-same (λ z. z.blocks) (λ z. refl) f m.before in
    let own : lets_read now l ≡ lets_read now m.before = ap (lets_read now) m.same ∙ marked-same (lets_read now) (λ z. refl) f m.before in
    subst (Had file) (sym blocks) (h file m.before m.found (sym own ∙ lets))

pub lent-dropped : (Had : (file blocks : ℕ) → Type 0) (now f : ℕ) (leases : List Lease) → Lent Had now leases → Lent Had now (drop_lease f leases)
lent-dropped Had now f leases h file l e = h file l (lease-before-drop f file leases l e).1

pub lent-put : (Had : (file blocks : ℕ) → Type 0) (now : ℕ) (m : Lease) (leases : List Lease) → (lets_read now m ≡ true → Had m.file m.blocks)
    → Lent Had now leases → Lent Had now (put_lease m leases)
lent-put Had now m leases had h file l e lets = case (lease-after-put m file leases l e)
  where
    case : ((file ≡ m.file) × (l ≡ m)) ⊎ ((file ≢ m.file) × (lease_on file leases ≡ Some l)) → Had file l.blocks
    case (inl p) =
        subst (λ z. Had file z.blocks) (sym p.1) (subst (λ f. Had f m.blocks) (sym p.0) (had (subst (λ z. lets_read now z ≡ true) p.1 lets)))
    case (inr p) = h file l p.1 lets

runs-before : (now later expiry : ℕ) → now ≤ later → nat_lt later expiry ≡ true → nat_lt now expiry ≡ true
runs-before now later expiry past runs = grind (arith, nat_tests)

-- a lease that runs later runs before
pub lent-later : (Had : (file blocks : ℕ) → Type 0) (now later : ℕ) (leases : List Lease) → now ≤ later → Lent Had now leases → Lent Had later leases
lent-later Had now later leases past h file l e lets = h file l e (sooner (caches l.mode) l.expiry lets)
  where
    sooner : (b : Bool) (expiry : ℕ) → (b && nat_lt later expiry) ≡ true → (b && nat_lt now expiry) ≡ true
    sooner true expiry runs = runs-before now later expiry past runs
    sooner false expiry none = none

-- a lease that lets its holder write lets him read
pub write-reads : (now : ℕ) (l : Lease) → lets_write now l ≡ true → lets_read now l ≡ true
write-reads now l lets = case l.mode lets
  where
    case : (m : Mode) → (is_writing m && is_live now l) ≡ true → (caches m && is_live now l) ≡ true
    case Mode.NonCaching e = e
    case Mode.Reading e = let bad : false ≡ true = e in absurd (cc)
    case Mode.Writing e = e

-- ---- the time of a client that takes a grant

named-now : (t : ClientStep) (q file : ℕ) → (names_losses t q file).client.now ≡ t.client.now
unfolding answers
named-now t q file = refl

reported-now : (t : ClientStep) (file : ℕ) → (reports t file).client.now ≡ t.client.now
reported-now t file =
    reports-cases t file (λ u. u.client.now ≡ t.client.now) (λ none. refl) (λ u is other. refl) (λ u is waits. named-now t u.q file)

left-now : (t : ClientStep) (file : ℕ) (tag : Tag) → (vacates_lease t file tag).client.now ≡ t.client.now
unfolding vacates_lease
left-now t file tag = refl

vacated-now : (t : ClientStep) (file : ℕ) (n : Option Notice) → (vacates_noticed t file n).client.now ≡ t.client.now
vacated-now t file n =
    vacates-noticed-cases t file n (λ u. u.client.now ≡ t.client.now) (λ no. refl) (λ notice is. left-now t file notice.tag)

lost-now : (t : ClientStep) (file : ℕ) → (loses t file).client.now ≡ t.client.now
unfolding loses
lost-now t file = refl

breaks-now : (t : ClientStep) (file : ℕ) → (breaks_chain t file).client.now ≡ t.client.now
breaks-now t file =
    reported-now (vacates_noticed (loses t file) file (notice_on file t.client.notices)) file
    ∙ vacated-now (loses t file) file (notice_on file t.client.notices)
    ∙ lost-now t file

pub broken-now : (t : ClientStep) (file : ℕ) (g : Grant) → (if_broken t file g).client.now ≡ t.client.now
broken-now t file g =
    if-broken-cases t file g (λ u. u.client.now ≡ t.client.now) (λ whole. refl) (λ l is below dirty. breaks-now t file)
