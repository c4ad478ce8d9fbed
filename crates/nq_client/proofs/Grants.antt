-- Grants that are taken: the loss that they may bring leaves the cache as it was.
use Rattle.std.proofs.Common.{◌≡◌, ℕ, Bool, true, false, not, ◌&&◌, List, Option, Some, None, if◌then◌else◌, refl, sym, ap, ◌∙◌}
use Rattle.nq_base.specs.declared.Grant.{Grant}
use Rattle.nq_cache.specs.Granting.{clean_after_reply}
use Rattle.nq_client.specs.Granting.{keeps, with_clean}
use Rattle.nq_client_parts.specs.Takes.{is_broken, taking}
use Rattle.nq_model.specs.protocol.Client.{Clean, ClientStep, Lease, Notice, Revision, UnderWay, is_clean, lease_on, notice_on}
use Rattle.nq_model.specs.protocol.Hear.{breaks, breaks_chain, caches_block, holds, if_broken, loses, reports_to, takes_optional, then_caches, vacates_lease}
use Rattle.nq_model.specs.protocol.Hear.{vacates_noticed, waits_for}
use Rattle.nq_model.specs.protocol.Settle.{answers, names_losses}
use Rattle.nq_model.specs.protocol.Table.{caches, tag_below}

-- how a grant follows tells whether it breaks the chain
pub broken_as : (g : Grant) (o : Option Lease) → is_broken (taking g o) ≡ breaks g o
broken_as g None = refl
broken_as g (Some l) = by (tag_below l.tag g.since) refl
  where
    by : (b : Bool) → tag_below l.tag g.since ≡ b → is_broken (taking g (Some l)) ≡ b
    by true e = rw e refl
    by false e = rw e refl

loses_beside : (t : ClientStep) (file : ℕ) (clean : List Clean) → loses (with_clean t clean) file ≡ with_clean (loses t file) clean
unfolding loses
loses_beside t file clean = refl

vacates_beside : (t : ClientStep) (file : ℕ) (clean : List Clean) (o : Option Notice) → vacates_noticed (with_clean t clean) file o
    ≡ with_clean (vacates_noticed t file o) clean
unfolding vacates_lease
vacates_beside t file clean None = refl
vacates_beside t file clean (Some n) = refl

reports_beside : (t : ClientStep) (file : ℕ) (clean : List Clean) (o : Option UnderWay) → reports_to (with_clean t clean) file o
    ≡ with_clean (reports_to t file o) clean
unfolding answers
reports_beside t file clean None = refl
reports_beside t file clean (Some u) = by (waits_for file u.written u.call)
  where
    by : (b : Bool) → (if b then names_losses (with_clean t clean) u.q file else with_clean t clean) ≡ with_clean (if b then names_losses t u.q file
        else t) clean
    by true = refl
    by false = refl

-- a broken chain beside other clean blocks
breaks_beside : (t : ClientStep) (file : ℕ) (clean : List Clean) → breaks_chain (with_clean t clean) file ≡ with_clean (breaks_chain t file) clean
breaks_beside t file clean =
    let o = notice_on file t.client.notices in
    let s = vacates_noticed (loses t file) file o in
    ap (λ (x : ClientStep). let y = vacates_noticed x file o in reports_to y file y.client.call) (loses_beside t file clean)
    ∙ ap (λ (y : ClientStep). reports_to y file y.client.call) (vacates_beside (loses t file) file clean o)
    ∙ reports_beside s file clean s.client.call

-- what a step keeps of the cache
record KeepsCache (t s : ClientStep) : Type 0 where
  clean : s.client.clean ≡ t.client.clean
  revisions : s.client.revisions ≡ t.client.revisions

loses_keeps : (t : ClientStep) (file : ℕ) → KeepsCache t (loses t file)
unfolding loses
loses_keeps t file = record { clean = refl; revisions = refl }

vacates_keeps : (t : ClientStep) (file : ℕ) (o : Option Notice) → KeepsCache t (vacates_noticed t file o)
unfolding vacates_lease
vacates_keeps t file None = record { clean = refl; revisions = refl }
vacates_keeps t file (Some n) = record { clean = refl; revisions = refl }

reports_keeps : (t : ClientStep) (file : ℕ) (o : Option UnderWay) → KeepsCache t (reports_to t file o)
unfolding answers
reports_keeps t file None = record { clean = refl; revisions = refl }
reports_keeps t file (Some u) = by (waits_for file u.written u.call)
  where
    by : (b : Bool) → KeepsCache t (if b then names_losses t u.q file else t)
    by true = record { clean = refl; revisions = refl }
    by false = record { clean = refl; revisions = refl }

breaks_keeps : (t : ClientStep) (file : ℕ) → KeepsCache t (breaks_chain t file)
breaks_keeps t file =
    let o = notice_on file t.client.notices in
    let s = vacates_noticed (loses t file) file o in
    let a = loses_keeps t file in
    let b = vacates_keeps (loses t file) file o in
    let c = reports_keeps s file s.client.call in
    record {
      clean = c.clean ∙ b.clean ∙ a.clean;
      revisions = c.revisions ∙ b.revisions ∙ a.revisions;
    }

held_with : (t s : ClientStep) (file block : ℕ) (body : List ℕ) (g : Grant) (sent : ℕ) → KeepsCache t s
    → keeps (with_clean s (clean_after_reply file block body (Some g) t.client.revisions t.client.clean)) file g sent
    ≡ then_caches (holds s file g sent) file block body (Some g)
unfolding holds caches_block
held_with t s file block body g sent k =
    ap (λ (r : List Revision). keeps (with_clean s (clean_after_reply file block body (Some g) r t.client.clean)) file g sent) (sym k.revisions)
    ∙ ap (λ (c : List Clean). keeps (with_clean s (clean_after_reply file block body (Some g) s.client.revisions c)) file g sent) (sym k.clean)
    ∙ by (caches g.mode) refl
  where
    by : (b : Bool) → caches g.mode ≡ b → keeps (with_clean s (clean_after_reply file block body (Some g) s.client.revisions s.client.clean)) file g
        sent ≡ then_caches (holds s file g sent) file block body (Some g)
    by true e = rw e refl
    by false e = rw e refl

-- a grant with a block: it is cached first, then the chain breaks, then the lease is held
taken_with : (t : ClientStep) (file block : ℕ) (body : List ℕ) (g : Grant) (sent : ℕ) (lost : Bool) → lost ≡ (breaks g (lease_on file t.client.leases)
    && not (is_clean t.client file)) → keeps (if lost then breaks_chain (with_clean t (clean_after_reply file block body (Some g) t.client.revisions
    t.client.clean)) file else with_clean t (clean_after_reply file block body (Some g) t.client.revisions t.client.clean)) file g sent
    ≡ then_caches (holds (if_broken t file g) file g sent) file block body (Some g)
taken_with t file block body g sent true e =
    let clean = clean_after_reply file block body (Some g) t.client.revisions t.client.clean in
    ap (λ (x : ClientStep). keeps x file g sent) (breaks_beside t file clean)
    ∙ held_with t (breaks_chain t file) file block body g sent (breaks_keeps t file)
    ∙ ap (λ (b : Bool). then_caches (holds (if b then breaks_chain t file else t) file g sent) file block body (Some g)) e
taken_with t file block body g sent false e =
    held_with t t file block body g sent (record { clean = refl; revisions = refl })
    ∙ ap (λ (b : Bool). then_caches (holds (if b then breaks_chain t file else t) file g sent) file block body (Some g)) e

-- likewise step by step
pub read_taken : (t u v w : ClientStep) (file block : ℕ) (body : List ℕ) (o : Option Grant) (g : Grant) (sent : ℕ) (lost : Bool) → o ≡ Some g
    → lost ≡ (breaks g (lease_on file t.client.leases) && not (is_clean t.client file)) → u ≡ with_clean t (clean_after_reply file block body o
    t.client.revisions t.client.clean) → v ≡ (if lost then breaks_chain u file else u) → w ≡ keeps v file g sent
    → w ≡ then_caches (takes_optional t file o sent) file block body o
read_taken t u v w file block body o g sent lost some broken cached lost_then held =
    held
    ∙ ap (λ (x : ClientStep). keeps x file g sent) lost_then
    ∙ ap (λ (x : ClientStep). keeps (if lost then breaks_chain x file else x) file g sent) cached
    ∙ ap (λ (q : Option Grant). keeps (if lost then breaks_chain (with_clean t (clean_after_reply file block body q t.client.revisions
    t.client.clean)) file else with_clean t (clean_after_reply file block body q t.client.revisions t.client.clean)) file g sent) some
    ∙ taken_with t file block body g sent lost broken
    ∙ sym (ap (λ (q : Option Grant). then_caches (takes_optional t file q sent) file block body q) some)
