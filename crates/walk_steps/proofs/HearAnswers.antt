-- What a client changes where it hears an answer, and what each of these changes keeps.
use Rattle.std.proofs.Common.{◌≡◌, ◌≤◌, ℕ, Bool, true, false, ◌&&◌, not, List, Option, Some, None, if◌then◌else◌, refl}
use Rattle.std.proofs.Common.{sym, subst, ◌∙◌, arith}
use Rattle.nq_base.specs.declared.Answer.{Answer}
use Rattle.nq_base.specs.declared.Grant.{Grant}
use Rattle.nq_base.specs.declared.Tag.{Tag}
use Rattle.nq_base.specs.declared.Value.{Value}
use Rattle.walk_steps.proofs.ClientCases.{Core, core_of, Closed, Both}
use Rattle.walk_steps.proofs.ClientFacts.{Asking, AskingOf, IsLease}
use Rattle.walk_steps.proofs.ClientMoves as move
use Rattle.walk_steps.proofs.ClientMoves.{none-some}
use Rattle.walk_steps.proofs.ClientWrites as writes
use Rattle.walk_steps.proofs.Rows.{choice}
use Rattle.walk_steps.proofs.SendWalk.{at-true, from-true}
use Rattle.walk_steps.proofs.SettleWalk.{IsIdle, answers-keeps, names-keeps, begun-call}
use Rattle.nq_model.specs.protocol.Client.{Client, ClientStep, Notice, UnderWay, lease_on, put_lease, notice_on, is_clean}
use Rattle.nq_model.specs.protocol.Client.{revision_of, is_revision_before}
use Rattle.nq_model.specs.protocol.Hear.{vacates_noticed, loses, waits_for, reports_to, reports, granted_lease}
use Rattle.nq_model.specs.protocol.Hear.{breaks, breaks_chain, if_broken, holds, takes_grant, takes_optional, answers_call_of, answers_call, caches_block}
use Rattle.nq_model.specs.protocol.Hear.{purges, knows_revision, grant_caches, then_caches, read_done, with_through, marks_through, lease_done, holds_caching}
use Rattle.nq_model.specs.protocol.Hear.{caches_write, write_done, attached, pauses}
use Rattle.nq_model.specs.protocol.Settle.{answers, names_losses}

-- no request is under way, and the client is attached
pub record IsFree (t : ClientStep) : Type 0 where
  pub free : t.client.ticket ≡ None
  pub attached : t.client.attached ≡ true

free-idle : (t : ClientStep) → IsFree t → IsIdle t
free-idle t f = rw (f.free) refl

-- ---- answers

pub answers-of-keeps : {P : Core → Type 0} (t : ClientStep) (answer : Answer) (by : Option ℕ) (o : Option UnderWay) → IsFree t → Both P t
    → Both P (answers_call_of t answer by o)
answers-of-keeps t answer by None f b = b
answers-of-keeps t answer by (Some u) f b = answers-keeps t u.q answer by (free-idle t f) b

pub answers-call-keeps : {P : Core → Type 0} (t : ClientStep) (answer : Answer) (by : Option ℕ) → IsFree t → Both P t → Both P (answers_call t answer by)
answers-call-keeps t answer by f b = answers-of-keeps t answer by t.client.call f b

reports-to-keeps : {P : Core → Type 0} (t : ClientStep) (file : ℕ) (o : Option UnderWay) → IsFree t → Both P t → Both P (reports_to t file o)
reports-to-keeps t file None f b = b
reports-to-keeps {P = P} t file (Some u) f b =
    choice (Both P) (waits_for file u.written u.call) (names_losses t u.q file) t (λ e. names-keeps t u.q file (free-idle t f) b) (λ e. b)

pub reports-keeps : {P : Core → Type 0} (t : ClientStep) (file : ℕ) → IsFree t → Both P t → Both P (reports t file)
reports-keeps t file f b = reports-to-keeps t file t.client.call f b

-- ---- changes that are not seen outside

quiet-caches : {P : Core → Type 0} (t : ClientStep) (file block : ℕ) (body : List ℕ) → Both P t → Both P (caches_block t file block body)
unfolding caches_block
quiet-caches t file block body b = record { alone = record { asking = b.alone.asking; delaying = b.alone.delaying }; core = b.core }

quiet-purges : {P : Core → Type 0} (t : ClientStep) (file : ℕ) → Both P t → Both P (purges t file)
unfolding purges
quiet-purges t file b = record { alone = record { asking = b.alone.asking; delaying = b.alone.delaying }; core = b.core }

pub quiet-knows : {P : Core → Type 0} (t : ClientStep) (file rev : ℕ) → Both P t → Both P (knows_revision t file rev)
unfolding knows_revision
quiet-knows t file rev b = record { alone = record { asking = b.alone.asking; delaying = b.alone.delaying }; core = b.core }

-- the mark of a call under way
through-asking : (c : Client) (on : Bool) (o : Option UnderWay) → c.attached ≡ true → c.call ≡ o → AskingOf c
    → Asking c.who c.now c.attached (with_through on o) c.ticket c.xid c.seq c.leases c.notices
through-asking c on None attached is h = subst (λ o. Asking c.who c.now c.attached o c.ticket c.xid c.seq c.leases c.notices) is h
through-asking c on (Some u) attached is h = begun-call c (record u { through = on }) attached h

through-keeps : {P : Core → Type 0} (t : ClientStep) (on : Bool) → t.client.attached ≡ true → Both P t → Both P (marks_through on t)
unfolding marks_through
through-keeps t on attached b =
    record { alone = record { asking = through-asking t.client on t.client.call attached refl b.alone.asking; delaying = b.alone.delaying }; core = b.core }

pub pauses-keeps : {P : Core → Type 0} (t : ClientStep) → t.client.attached ≡ true → Both P t → Both P (pauses t)
unfolding pauses marks_through
pauses-keeps t attached b =
    record {
      alone = record { asking = through-asking t.client false t.client.call attached refl b.alone.asking; delaying = b.alone.delaying };
      core = b.core;
    }

-- ---- a grant is taken

loses-keeps : {P : Core → Type 0} (t : ClientStep) (file : ℕ) → notice_on file t.client.notices ≡ None → Both P t → Both P (loses t file)
unfolding loses
loses-keeps t file none b = record { alone = record { asking = b.alone.asking; delaying = writes.loses-unnoticed file none b.alone.delaying }; core = b.core }

loses-free : (t : ClientStep) (file : ℕ) → IsFree t → IsFree (loses t file)
unfolding loses
loses-free t file f = record { free = f.free; attached = f.attached }

breaks-keeps : {P : Core → Type 0} (t : ClientStep) (file : ℕ) (o : Option Notice) → notice_on file t.client.notices ≡ o → o ≡ None → IsFree t
    → Both P t → Both P (reports (vacates_noticed (loses t file) file o) file)
breaks-keeps t file None is none f b = reports-keeps (loses t file) file (loses-free t file f) (loses-keeps t file is b)
breaks-keeps t file (Some n) is none f b = none-some n (sym none)

reports-same : (t : ClientStep) (file : ℕ) (o : Option UnderWay)
    → ((reports_to t file o).client.ticket ≡ t.client.ticket) × ((reports_to t file o).client.attached ≡ t.client.attached)
    × ((reports_to t file o).client.notices ≡ t.client.notices) × ((reports_to t file o).client.now ≡ t.client.now)
unfolding answers
reports-same t file None = (refl, refl, refl, refl)
reports-same t file (Some u) = step (waits_for file u.written u.call)
  where
    step : (b : Bool) → ((if b then names_losses t u.q file else t).client.ticket ≡ t.client.ticket)
        × ((if b then names_losses t u.q file else t).client.attached ≡ t.client.attached)
        × ((if b then names_losses t u.q file else t).client.notices ≡ t.client.notices)
        × ((if b then names_losses t u.q file else t).client.now ≡ t.client.now)
    step true = (refl, refl, refl, refl)
    step false = (refl, refl, refl, refl)

loses-same : (t : ClientStep) (file : ℕ)
    → ((loses t file).client.ticket ≡ t.client.ticket) × ((loses t file).client.attached ≡ t.client.attached)
    × ((loses t file).client.notices ≡ t.client.notices) × ((loses t file).client.now ≡ t.client.now)
unfolding loses
loses-same t file = (refl, refl, refl, refl)

-- what the rest of the step needs of a client that took a broken grant
pub record IsSame (t u : ClientStep) : Type 0 where
  pub ticket : u.client.ticket ≡ t.client.ticket
  pub attached : u.client.attached ≡ t.client.attached
  pub notices : u.client.notices ≡ t.client.notices
  pub now : u.client.now ≡ t.client.now

broken-same : (t : ClientStep) (file : ℕ) (o : Option Notice) → o ≡ None → IsSame t (reports (vacates_noticed (loses t file) file o) file)
broken-same t file None none =
    let r = reports-same (loses t file) file (loses t file).client.call in
    let l = loses-same t file in
    record { ticket = r.0 ∙ l.0; attached = r.1 ∙ l.1; notices = r.2 ∙ l.2; now = r.3 ∙ l.3 }
broken-same t file (Some n) none = none-some n (sym none)

if-broken-keeps : {P : Core → Type 0} (t : ClientStep) (file : ℕ) (g : Grant) → notice_on file t.client.notices ≡ None → IsFree t → Both P t
    → Both P (if_broken t file g)
if-broken-keeps {P = P} t file g none f b =
    choice (Both P) (breaks g (lease_on file t.client.leases) && not (is_clean t.client file)) (breaks_chain t file) t
    (λ e. breaks-keeps t file (notice_on file t.client.notices) refl none f b) (λ e. b)

if-broken-same : (t : ClientStep) (file : ℕ) (g : Grant) → notice_on file t.client.notices ≡ None → IsSame t (if_broken t file g)
if-broken-same t file g none =
    choice (IsSame t) (breaks g (lease_on file t.client.leases) && not (is_clean t.client file)) (breaks_chain t file) t
    (λ e. broken-same t file (notice_on file t.client.notices) none) (λ e. record { ticket = refl; attached = refl; notices = refl; now = refl })

granted-is : (now file : ℕ) (g : Grant) (sent : ℕ) → sent ≤ now → IsLease now (granted_lease file g sent)
unfolding granted_lease
granted-is now file g sent past = record { term = omega arith; past = omega arith }

holds-keeps : {Heard : ℕ → Tag → Type 0} {Given : ℕ → Grant → ℕ → Type 0} {P : Core → Type 0} → Closed Heard Given P
    → (t : ClientStep) (file : ℕ) (g : Grant) (sent : ℕ) → Given file g sent → sent ≤ t.client.now → IsFree t → notice_on file t.client.notices ≡ None
    → Both P t → Both P (holds t file g sent)
unfolding holds
holds-keeps closed t file g sent given past f none b = record {
  alone = record {
    asking =
        from-true (λ a. Asking c.who c.now a c.call c.ticket c.xid c.seq (put_lease (granted_lease file g sent) c.leases) c.notices) c.attached
        f.attached (move.holds (granted_lease file g sent) (granted-is c.now file g sent past) (λ u e. none-some u (sym f.free ∙ e))
        (at-true (λ a. Asking c.who c.now a c.call c.ticket c.xid c.seq c.leases c.notices) c.attached f.attached b.alone.asking));
    delaying = b.alone.delaying;
  };
  core = closed.holds (core_of t) file g sent given f.free none b.core;
} where
  c : Client
  c = t.client

-- a grant is taken from the reply to a request that wanted it
takes-keeps : {Heard : ℕ → Tag → Type 0} {Given : ℕ → Grant → ℕ → Type 0} {P : Core → Type 0} → Closed Heard Given P
    → (t : ClientStep) (file : ℕ) (g : Grant) (sent : ℕ) → Given file g sent → sent ≤ t.client.now → IsFree t → notice_on file t.client.notices ≡ None
    → Both P t → Both P (takes_grant t file g sent)
takes-keeps closed t file g sent given past f none b =
    let s = if-broken-same t file g none in
    holds-keeps closed (if_broken t file g) file g sent given (subst (λ n. sent ≤ n) (sym s.now) past)
    (record { free = s.ticket ∙ f.free; attached = s.attached ∙ f.attached }) (subst (λ ns. notice_on file ns ≡ None) (sym s.notices) none)
    (if-broken-keeps t file g none f b)

holds-free : (t : ClientStep) (file : ℕ) (g : Grant) (sent : ℕ) → IsFree t → IsFree (holds t file g sent)
unfolding holds
holds-free t file g sent f = record { free = f.free; attached = f.attached }

takes-free : (t : ClientStep) (file : ℕ) (g : Grant) (sent : ℕ) → notice_on file t.client.notices ≡ None → IsFree t → IsFree (takes_grant t file g sent)
takes-free t file g sent none f =
    let s = if-broken-same t file g none in
    holds-free (if_broken t file g) file g sent (record { free = s.ticket ∙ f.free; attached = s.attached ∙ f.attached })

-- a grant that a reply may bring: it is given, and its file has no notice
abbrev pub Brings : (ℕ → Grant → ℕ → Type 0) → ClientStep → (file : ℕ) → Option Grant → (sent : ℕ) → Type 0
Brings Given t file o sent = (g : Grant) → o ≡ Some g → Given file g sent × (notice_on file t.client.notices ≡ None)

pub optional-keeps : {Heard : ℕ → Tag → Type 0} {Given : ℕ → Grant → ℕ → Type 0} {P : Core → Type 0} → Closed Heard Given P
    → (t : ClientStep) (file : ℕ) (o : Option Grant) (sent : ℕ) → Brings Given t file o sent → sent ≤ t.client.now → IsFree t → Both P t
    → Both P (takes_optional t file o sent)
optional-keeps closed t file None sent brings past f b = b
optional-keeps closed t file (Some g) sent brings past f b = let k = brings g refl in takes-keeps closed t file g sent k.0 past f k.1 b

optional-free : (Given : ℕ → Grant → ℕ → Type 0) (t : ClientStep) (file : ℕ) (o : Option Grant) (sent : ℕ) → Brings Given t file o sent → IsFree t
    → IsFree (takes_optional t file o sent)
optional-free Given t file None sent brings f = f
optional-free Given t file (Some g) sent brings f = takes-free t file g sent (brings g refl).1 f

caches-free : (t : ClientStep) (file block : ℕ) (body : List ℕ) → IsFree t → IsFree (caches_block t file block body)
unfolding caches_block
caches-free t file block body f = record { free = f.free; attached = f.attached }

then-caches-keeps : {P : Core → Type 0} (t : ClientStep) (file block : ℕ) (body : List ℕ) (o : Option Grant) → Both P t
    → Both P (then_caches t file block body o)
then-caches-keeps {P = P} t file block body o b =
    choice (Both P) (grant_caches o) (caches_block t file block body) t (λ e. quiet-caches t file block body b) (λ e. b)

then-caches-free : (t : ClientStep) (file block : ℕ) (body : List ℕ) (o : Option Grant) → IsFree t → IsFree (then_caches t file block body o)
then-caches-free t file block body o f = choice IsFree (grant_caches o) (caches_block t file block body) t (λ e. caches-free t file block body f) (λ e. f)

pub read-done-keeps : {Heard : ℕ → Tag → Type 0} {Given : ℕ → Grant → ℕ → Type 0} {P : Core → Type 0} → Closed Heard Given P
    → (t : ClientStep) (file block : ℕ) (body : List ℕ) (o : Option Grant) (sent number : ℕ) → Brings Given t file o sent → sent ≤ t.client.now
    → IsFree t → Both P t → Both P (read_done t file block body o sent number)
read-done-keeps {Given = Given} closed t file block body o sent number brings past f b =
    answers-call-keeps (then_caches (takes_optional t file o sent) file block body o) (Answer.Ok (Value.Body body)) (Some number)
    (then-caches-free (takes_optional t file o sent) file block body o (optional-free Given t file o sent brings f))
    (then-caches-keeps (takes_optional t file o sent) file block body o (optional-keeps closed t file o sent brings past f b))

pub lease-done-keeps : {Heard : ℕ → Tag → Type 0} {Given : ℕ → Grant → ℕ → Type 0} {P : Core → Type 0} → Closed Heard Given P
    → (t : ClientStep) (file : ℕ) (o : Option Grant) (sent : ℕ) → Brings Given t file o sent → sent ≤ t.client.now → IsFree t → Both P t
    → Both P (lease_done t file o sent)
lease-done-keeps {Given = Given} {P = P} closed t file o sent brings past f b =
    choice (Both P) (grant_caches o) (takes_optional t file o sent) (marks_through true (takes_optional t file o sent))
    (λ e. optional-keeps closed t file o sent brings past f b)
    (λ e. through-keeps (takes_optional t file o sent) true (optional-free Given t file o sent brings f).attached
    (optional-keeps closed t file o sent brings past f b))

-- ---- a write that went through

caches-write-keeps : {P : Core → Type 0} (t : ClientStep) (file block : ℕ) (body : List ℕ) (rev : ℕ) → Both P t → Both P (caches_write t file block body rev)
caches-write-keeps {P = P} t file block body rev b =
    choice (Both P) (holds_caching (lease_on file t.client.leases) && is_revision_before rev (revision_of file t.client.revisions))
    (caches_block t file block body) (purges t file) (λ e. quiet-caches t file block body b) (λ e. quiet-purges t file b)

purges-free : (t : ClientStep) (file : ℕ) → IsFree t → IsFree (purges t file)
unfolding purges
purges-free t file f = record { free = f.free; attached = f.attached }

pub knows-free : (t : ClientStep) (file rev : ℕ) → IsFree t → IsFree (knows_revision t file rev)
unfolding knows_revision
knows-free t file rev f = record { free = f.free; attached = f.attached }

caches-write-free : (t : ClientStep) (file block : ℕ) (body : List ℕ) (rev : ℕ) → IsFree t → IsFree (caches_write t file block body rev)
caches-write-free t file block body rev f =
    choice IsFree (holds_caching (lease_on file t.client.leases) && is_revision_before rev (revision_of file t.client.revisions))
    (caches_block t file block body) (purges t file) (λ e. caches-free t file block body f) (λ e. purges-free t file f)

pub write-done-keeps : {P : Core → Type 0} (t : ClientStep) (file block : ℕ) (body : List ℕ) (rev : ℕ) → IsFree t → Both P t
    → Both P (write_done t file block body rev)
write-done-keeps t file block body rev f b =
    answers-call-keeps (knows_revision (caches_write t file block body rev) file rev) (Answer.Ok Value.Nothing) None
    (knows-free (caches_write t file block body rev) file rev (caches-write-free t file block body rev f))
    (quiet-knows (caches_write t file block body rev) file rev (caches-write-keeps t file block body rev b))
