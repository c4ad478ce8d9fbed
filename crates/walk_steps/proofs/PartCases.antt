-- The smaller choices of a client's step, each with what led to it.
use Rattle.std.proofs.Common.{◌≡◌, ℕ, true, false, ◌&&◌, not, List, Option, Some, None, is_some, refl}
use Rattle.std.proofs.lemmas.Bool.{and_parts, not-true}
use Rattle.nq_base.specs.declared.Answer.{Answer}
use Rattle.nq_base.specs.declared.Grant.{Grant}
use Rattle.nq_base.specs.declared.Push.{Push}
use Rattle.nq_model.specs.protocol.Client.{ClientStep, Lease, Notice, UnderWay, lease_on, notice_on, is_clean, dirty_at, revision_of, is_revision_before}
use Rattle.nq_model.specs.protocol.Hear.{vacates_lease, vacates_noticed, waits_for, reports_to, reports, breaks, breaks_chain, if_broken, takes_grant}
use Rattle.nq_model.specs.protocol.Hear.{takes_optional, answers_call_of, answers_call, grant_caches, caches_block, then_caches, marks_through, lease_done}
use Rattle.nq_model.specs.protocol.Hear.{holds_caching, purges, caches_write, caches_push, vacates_if_clean}
use Rattle.nq_model.specs.protocol.Settle.{answers, names_losses}
use Rattle.nq_model.specs.protocol.Table.{tag_below}
use Rattle.walk_steps.proofs.Rows.{choice}

-- the call under way is answered, if there is one
pub answers-call-cases : (t : ClientStep) (answer : Answer) (by : Option ℕ) (Q : ClientStep → Type 0) → (t.client.call ≡ None → Q t)
    → ((u : UnderWay) → t.client.call ≡ Some u → Q (answers t u.q answer by)) → Q (answers_call t answer by)
answers-call-cases t answer by Q none some = case t.client.call refl
  where
    case : (o : Option UnderWay) → t.client.call ≡ o → Q (answers_call_of t answer by o)
    case None e = none e
    case (Some u) e = some u e

-- where a notice waits for a file, its lease is given up
pub vacates-noticed-cases : (t : ClientStep) (file : ℕ) (o : Option Notice) (Q : ClientStep → Type 0) → (o ≡ None → Q t)
    → ((n : Notice) → o ≡ Some n → Q (vacates_lease t file n.tag)) → Q (vacates_noticed t file o)
vacates-noticed-cases t file None Q none some = none refl
vacates-noticed-cases t file (Some n) Q none some = some n refl

-- a call that waits until a file is clean is told its losses
pub reports-cases : (t : ClientStep) (file : ℕ) (Q : ClientStep → Type 0) → (t.client.call ≡ None → Q t)
    → ((u : UnderWay) → t.client.call ≡ Some u → waits_for file u.written u.call ≡ false → Q t)
    → ((u : UnderWay) → t.client.call ≡ Some u → waits_for file u.written u.call ≡ true → Q (names_losses t u.q file)) → Q (reports t file)
reports-cases t file Q none other told = case t.client.call refl
  where
    case : (o : Option UnderWay) → t.client.call ≡ o → Q (reports_to t file o)
    case None e = none e
    case (Some u) e = choice Q (waits_for file u.written u.call) (names_losses t u.q file) t (told u e) (other u e)

-- whether a chain breaks
pub if-broken-cases : (t : ClientStep) (file : ℕ) (g : Grant) (Q : ClientStep → Type 0)
    → ((breaks g (lease_on file t.client.leases) && not (is_clean t.client file)) ≡ false → Q t)
    → ((lease : Lease) → lease_on file t.client.leases ≡ Some lease → tag_below lease.tag g.since ≡ true → is_clean t.client file ≡ false
    → Q (breaks_chain t file)) → Q (if_broken t file g)
if-broken-cases t file g Q whole broken =
    choice Q (breaks g (lease_on file t.client.leases) && not (is_clean t.client file)) (breaks_chain t file) t
    (λ e. let a = and_parts _ _ e in case (lease_on file t.client.leases) refl a.0 (not-true _ a.1))
    whole
  where
    case : (o : Option Lease) → lease_on file t.client.leases ≡ o → breaks g o ≡ true → is_clean t.client file ≡ false → Q (breaks_chain t file)
    case None e b dirty = absurd (cc)
    case (Some lease) e b dirty = broken lease e b dirty

-- a grant is taken, if there is one
pub takes-optional-cases : (t : ClientStep) (file : ℕ) (o : Option Grant) (sent : ℕ) (Q : ClientStep → Type 0) → (o ≡ None → Q t)
    → ((g : Grant) → o ≡ Some g → Q (takes_grant t file g sent)) → Q (takes_optional t file o sent)
takes-optional-cases t file None sent Q none some = none refl
takes-optional-cases t file (Some g) sent Q none some = some g refl

-- the call's lease was granted: without a caching grant the write is to go through
pub lease-done-cases : (t : ClientStep) (file : ℕ) (o : Option Grant) (sent : ℕ) (Q : ClientStep → Type 0)
    → (grant_caches o ≡ true → Q (takes_optional t file o sent)) → (grant_caches o ≡ false → Q (marks_through true (takes_optional t file o sent)))
    → Q (lease_done t file o sent)
lease-done-cases t file o sent Q caching other =
    choice Q (grant_caches o) (takes_optional t file o sent) (marks_through true (takes_optional t file o sent)) caching other

-- a block that was read is cached under a caching grant
pub then-caches-cases : (t : ClientStep) (file block : ℕ) (body : List ℕ) (o : Option Grant) (Q : ClientStep → Type 0)
    → (grant_caches o ≡ true → Q (caches_block t file block body)) → (grant_caches o ≡ false → Q t) → Q (then_caches t file block body o)
then-caches-cases t file block body o Q caching other = choice Q (grant_caches o) (caches_block t file block body) t caching other

-- the block of a write that went through is cached, or the file's clean blocks go
pub caches-write-cases : (t : ClientStep) (file block : ℕ) (body : List ℕ) (rev : ℕ) (Q : ClientStep → Type 0)
    → (holds_caching (lease_on file t.client.leases) ≡ true → is_revision_before rev (revision_of file t.client.revisions) ≡ true
    → Q (caches_block t file block body)) → Q (purges t file) → Q (caches_write t file block body rev)
caches-write-cases t file block body rev Q caching other =
    choice Q (holds_caching (lease_on file t.client.leases) && is_revision_before rev (revision_of file t.client.revisions))
    (caches_block t file block body) (purges t file)
    (λ e. let a = and_parts _ _ e in caching a.0 a.1)
    (λ e. other)

-- the block of a stored push is cached, unless it is dirty again
pub caches-push-cases : (t : ClientStep) (file block : ℕ) (body : List ℕ) (Q : ClientStep → Type 0)
    → (is_some (dirty_at file block t.client.dirty) ≡ true → Q t) → (dirty_at file block t.client.dirty ≡ None → Q (caches_block t file block body))
    → Q (caches_push t file block body)
caches-push-cases t file block body Q dirty clean =
    choice Q (is_some (dirty_at file block t.client.dirty)) t (caches_block t file block body) dirty (λ e. clean (none (dirty_at file block t.client.dirty) e))
  where
    none : (o : Option Push) → is_some o ≡ false → o ≡ None
    none None e = refl
    none (Some p) e = cc

-- where a file is clean and a notice waits for it, the lease is given up
pub vacates-if-clean-cases : (t : ClientStep) (file : ℕ) (Q : ClientStep → Type 0) → Q t
    → ((n : Notice) → is_clean t.client file ≡ true → notice_on file t.client.notices ≡ Some n → Q (vacates_lease t file n.tag))
    → Q (vacates_if_clean t file)
vacates-if-clean-cases t file Q stays vacates =
    choice Q (is_clean t.client file) (vacates_noticed t file (notice_on file t.client.notices)) t
    (λ clean. vacates-noticed-cases t file (notice_on file t.client.notices) Q (λ e. stays) (λ n e. vacates n clean e))
    (λ dirty. stays)
