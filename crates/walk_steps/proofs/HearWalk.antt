-- What each small change of a client keeps is kept where a client hears a datagram.
use Rattle.std.proofs.Common.{◌≡◌, ◌≢◌, ◌⊎◌, ℕ, ◌+◌, Bool, true, false, ◌==◌, List, Option, Some, None, is_some, refl}
use Rattle.std.proofs.Common.{sym, subst, ap, ◌∙◌, arith, inl, inr}
use Rattle.std.specs.List.{list_any}
use Rattle.nq_base.specs.declared.Grant.{Grant}
use Rattle.nq_base.specs.declared.Push.{Push}
use Rattle.nq_base.specs.declared.PushBase.{PushBase}
use Rattle.nq_base.specs.declared.Request.{Request}
use Rattle.nq_base.specs.declared.Tag.{Tag}
use Rattle.nq_base.specs.declared.Who.{Who}
use Rattle.walk_steps.proofs.ClientCases.{Core, core_of, Closed, Both}
use Rattle.walk_steps.proofs.ClientFacts.{Alone, Asking, Delaying, AskingOf, DelayingOf, push_in}
use Rattle.walk_steps.proofs.ClientMoves as move
use Rattle.walk_steps.proofs.ClientMoves.{some-same, none-some}
use Rattle.walk_steps.proofs.ClientWrites as writes
use Rattle.nq_model.proofs.ClientLists.{notice-before-drop, any-others}
use Rattle.walk_steps.proofs.Rows.{choice, number-same, same-number}
use Rattle.walk_steps.proofs.SendWalk.{at-true, from-true}
use Rattle.nq_model.specs.protocol.Client.{Client, ClientStep, pushing, begun, Notice, Ticket, notice_on, is_clean, is_push_of}
use Rattle.nq_model.specs.protocol.Client.{push_passes, dirty_at, is_clean_in}
use Rattle.nq_model.specs.protocol.Hear.{vacates_lease, vacates_noticed, loses, without_lease, push_refused}
use Rattle.nq_model.specs.protocol.Hear.{caches_block}
use Rattle.nq_model.specs.protocol.Hear.{knows_revision}
use Rattle.nq_model.specs.protocol.Hear.{ends_push, caches_push, vacates_if_clean, push_done, spends, attached, other_push}
use Rattle.walk_steps.proofs.HearAnswers.{IsFree, reports-keeps}

-- ---- a push was done or refused

-- after the push under way was spent: notices wait only for files that are not clean, but for the push's own
pub record IsSpent (t : ClientStep) (file : ℕ) : Type 0 where
  pub asking : AskingOf t.client
  pub free : IsFree t
  pub noticed : (f : ℕ) (n : Notice) → notice_on f t.client.notices ≡ Some n → f ≢ file → list_any (is_push_of f) t.client.dirty ≡ true

-- so they do again once the file's own notice was seen to
settled-push : (t : ClientStep) (file : ℕ) → IsSpent t file → t.client.push ≡ None
    → ((n : Notice) → notice_on file t.client.notices ≡ Some n → is_clean t.client file ≡ false) → Alone t.client
settled-push t file s none own = record {
  asking = s.asking;
  delaying = record {
    noticed = λ f n e. case f n e (f == file) refl;
    under_way = λ p e. none-some p (sym none ∙ e);
    empty = λ e. let a = s.free.attached in absurd (cc);
  };
} where
  case : (f : ℕ) (n : Notice) → notice_on f t.client.notices ≡ Some n → (b : Bool) → (f == file) ≡ b → is_clean_in f t.client.dirty t.client.push ≡ false
  case f n e true same =
      let one : f ≡ file = same-number f file same in
      subst (λ g. is_clean_in g t.client.dirty t.client.push ≡ false) (sym one) (own n (subst (λ g. notice_on g t.client.notices ≡ Some n) one e))
  case f n e false other =
      writes.writes-in-list f t.client.dirty t.client.push (s.noticed f n e (λ same. let is : (f == file) ≡ true = number-same f file same in absurd (cc)))

-- the step so far keeps what it kept, where the push under way is spent
pub record Spent (P : Core → Type 0) (t : ClientStep) (file : ℕ) : Type 0 where
  pub spent : IsSpent t file
  pub core : P (core_of t)

-- the client is Both again
both-again : {P : Core → Type 0} (t : ClientStep) (file : ℕ) → Spent P t file → t.client.push ≡ None
    → ((n : Notice) → notice_on file t.client.notices ≡ Some n → is_clean t.client file ≡ false) → Both P t
both-again t file s none own = record { alone = settled-push t file s.spent none own; core = s.core }

-- a notice on the file is answered
vacates-spent : {Heard : ℕ → Tag → Type 0} {Given : ℕ → Grant → ℕ → Type 0} {P : Core → Type 0} → Closed Heard Given P
    → (t : ClientStep) (file : ℕ) (o : Option Notice) → ((g : Grant) (sent : ℕ) → Given file g sent → ⊥) → notice_on file t.client.notices ≡ o
    → Spent P t file → t.client.push ≡ None → Both P (vacates_noticed t file o)
unfolding vacates_lease
vacates-spent closed t file None ungiven is s none = both-again t file s none (λ n e. none-some n (sym is ∙ e))
vacates-spent closed t file (Some n) ungiven is s none = record {
  alone = record {
    asking = move.drops-notice file (move.drops file (move.draws (t.client.xid + 1) t.client.seq (omega arith) (omega arith) s.spent.asking));
    delaying = record {
      noticed =
          λ f m e. let before = notice-before-drop file f t.client.notices m e in
          writes.writes-in-list f t.client.dirty t.client.push (s.spent.noticed f m before.1 before.0);
      under_way = λ p e. none-some p (sym none ∙ e);
      empty = λ e. let a = s.spent.free.attached in absurd (cc);
    };
  };
  core =
      closed.vacates (core_of t) file n.tag
      (record { unwanted = λ u e. none-some u (sym s.spent.free.free ∙ e); ungiven = ungiven; source = inl (n, is, refl) }) s.core;
}

-- a push was done
caches-push-spent : {P : Core → Type 0} (t : ClientStep) (file block : ℕ) (body : List ℕ) → Spent P t file → Spent P (caches_push t file block body) file
unfolding caches_block
caches-push-spent {P = P} t file block body s =
    choice (λ u. Spent P u file) (is_some (dirty_at file block t.client.dirty)) t (caches_block t file block body) (λ e. s)
    (λ e. record {
      spent = record {
        asking = s.spent.asking;
        free = record { free = s.spent.free.free; attached = s.spent.free.attached };
        noticed = s.spent.noticed;
      };
      core = s.core;
    })

caches-push-none : (t : ClientStep) (file block : ℕ) (body : List ℕ) → t.client.push ≡ None → (caches_push t file block body).client.push ≡ None
unfolding caches_block
caches-push-none t file block body none =
    choice (λ u. u.client.push ≡ None) (is_some (dirty_at file block t.client.dirty)) t (caches_block t file block body) (λ e. none) (λ e. none)

ends-spent : {P : Core → Type 0} (t : ClientStep) (file rev : ℕ) → Spent P t file → Spent P (knows_revision (ends_push t) file rev) file
unfolding ends_push knows_revision
ends-spent t file rev s =
    record {
      spent = record {
        asking = s.spent.asking;
        free = record { free = s.spent.free.free; attached = s.spent.free.attached };
        noticed = s.spent.noticed;
      };
      core = s.core;
    }

ends-none : (t : ClientStep) (file rev : ℕ) → (knows_revision (ends_push t) file rev).client.push ≡ None
unfolding ends_push knows_revision
ends-none t file rev = refl

vacates-if-clean-keeps : {Heard : ℕ → Tag → Type 0} {Given : ℕ → Grant → ℕ → Type 0} {P : Core → Type 0} → Closed Heard Given P
    → (t : ClientStep) (file : ℕ) → ((g : Grant) (sent : ℕ) → Given file g sent → ⊥) → Spent P t file → t.client.push ≡ None
    → Both P (vacates_if_clean t file)
vacates-if-clean-keeps {P = P} closed t file ungiven s none =
    choice (Both P) (is_clean t.client file) (vacates_noticed t file (notice_on file t.client.notices)) t
    (λ e. vacates-spent closed t file (notice_on file t.client.notices) ungiven refl s none)
    (λ e. both-again t file s none (λ n f. e))

pub push-done-keeps : {Heard : ℕ → Tag → Type 0} {Given : ℕ → Grant → ℕ → Type 0} {P : Core → Type 0} → Closed Heard Given P
    → (t : ClientStep) (file block : ℕ) (body : List ℕ) (rev : ℕ) → ((g : Grant) (sent : ℕ) → Given file g sent → ⊥) → Spent P t file
    → Both P (push_done t file block body rev)
push-done-keeps closed t file block body rev ungiven s =
    vacates-if-clean-keeps closed (caches_push (knows_revision (ends_push t) file rev) file block body) file ungiven
    (caches-push-spent (knows_revision (ends_push t) file rev) file block body (ends-spent t file rev s))
    (caches-push-none (knows_revision (ends_push t) file rev) file block body (ends-none t file rev))

-- a push was refused
loses-spent : {P : Core → Type 0} (t : ClientStep) (file : ℕ) → Spent P t file → Spent P (loses t file) file
unfolding loses
loses-spent t file s = record {
  spent = record {
    asking = s.spent.asking;
    free = record { free = s.spent.free.free; attached = s.spent.free.attached };
    noticed = λ f n e apart. any-others f file t.client.dirty (λ g. apart (sym g)) ∙ s.spent.noticed f n e apart;
  };
  core = s.core;
}

loses-none : (t : ClientStep) (file : ℕ) → other_push file t.client.push ≡ None → (loses t file).client.push ≡ None
unfolding loses
loses-none t file h = h

without-spent : {Heard : ℕ → Tag → Type 0} {Given : ℕ → Grant → ℕ → Type 0} {P : Core → Type 0} → Closed Heard Given P → (t : ClientStep) (file : ℕ)
    → Spent P t file → Spent P (without_lease t file) file
unfolding without_lease
without-spent closed t file s = record {
  spent =
      record {
        asking = move.drops file s.spent.asking;
        free = record { free = s.spent.free.free; attached = s.spent.free.attached };
        noticed = s.spent.noticed;
      };
  core = closed.drops (core_of t) file s.core;
}

without-same : (t : ClientStep) (file : ℕ) → ((without_lease t file).client.push ≡ t.client.push) × ((without_lease t file).client.notices ≡ t.client.notices)
unfolding without_lease
without-same t file = (refl, refl)

loses-notices : (t : ClientStep) (file : ℕ) → (loses t file).client.notices ≡ t.client.notices
unfolding loses
loses-notices t file = refl

vacated-free : (t : ClientStep) (file : ℕ) (o : Option Notice) → IsFree t → IsFree (vacates_noticed t file o)
unfolding vacates_lease
vacated-free t file None f = f
vacated-free t file (Some n) f = record { free = f.free; attached = f.attached }

pub push-refused-keeps : {Heard : ℕ → Tag → Type 0} {Given : ℕ → Grant → ℕ → Type 0} {P : Core → Type 0} → Closed Heard Given P
    → (t : ClientStep) (file : ℕ) → ((g : Grant) (sent : ℕ) → Given file g sent → ⊥) → other_push file t.client.push ≡ None → Spent P t file
    → Both P (push_refused t file)
push-refused-keeps {P = P} closed t file ungiven gone s =
    reports-keeps (vacates_noticed third file (notice_on file t.client.notices)) file
    (vacated-free third file (notice_on file t.client.notices) kept.spent.free)
    (vacates-spent closed third file (notice_on file t.client.notices) ungiven same kept none)
  where
    third : ClientStep
    third = without_lease (loses t file) file

    kept : Spent P third file
    kept = without-spent closed (loses t file) file (loses-spent t file s)

    none : third.client.push ≡ None
    none = (without-same (loses t file) file).0 ∙ loses-none t file gone

    same : notice_on file third.client.notices ≡ notice_on file t.client.notices
    same = ap (notice_on file) ((without-same (loses t file) file).1 ∙ loses-notices t file)

-- ---- the request under way is spent

-- by a reply to a request that neither attaches nor pushes
spent-asking : (c : Client) → c.attached ≡ true → AskingOf c → Asking c.who c.now c.attached c.call None c.xid c.seq c.leases c.notices
spent-asking c attached h =
    from-true (λ a. Asking c.who c.now a c.call None c.xid c.seq c.leases c.notices) c.attached attached
    (move.spends (at-true (λ a. Asking c.who c.now a c.call c.ticket c.xid c.seq c.leases c.notices) c.attached attached h))

spent-delaying : (c : Client) (ticket : Ticket) → c.ticket ≡ Some ticket → (ticket.job ≡ pushing → ⊥) → DelayingOf c
    → Delaying c.attached None c.notices c.dirty c.push
spent-delaying c ticket is other h = record {
  noticed = h.noticed;
  under_way = λ p e. none-some p (sym (writes.no-push c.push h (λ t f j. other (subst (λ z. z.job ≡ pushing) (some-same t ticket (sym f ∙ is)) j))) ∙ e);
  empty = h.empty;
}

pub spent-keeps : {P : Core → Type 0} (c : Client) (ticket : Ticket) → c.ticket ≡ Some ticket → c.attached ≡ true → (ticket.job ≡ pushing → ⊥) → Alone c
    → P (record (core_of (begun c)) { ticket = None }) → Both P (spends (begun c))
unfolding spends
spent-keeps c ticket is attached other a core =
    record { alone = record { asking = spent-asking c attached a.asking; delaying = spent-delaying c ticket is other a.delaying }; core = core }

pub spent-free : (c : Client) → c.attached ≡ true → IsFree (spends (begun c))
unfolding spends
spent-free c attached = record { free = refl; attached = attached }

pub spent-now : (c : Client) → (spends (begun c)).client.now ≡ c.now
unfolding spends
spent-now c = refl

pub spent-notices : (c : Client) → (spends (begun c)).client.notices ≡ c.notices
unfolding spends
spent-notices c = refl

-- by the reply to a push
pub push-of-file : (w : Who) (seq file block first last : ℕ) (base : PushBase) (body : List ℕ) (p : Push)
    → push_in (Request.Write w seq file block first last (Some base) body) ≡ Some p → p.file ≡ file
push-of-file w seq file block first last base body p e =
    let same : record { file = file; block = block; first = first; last = last; body = body } ≡ p = some-same _ p e in ap (λ q. q.file) (sym same)

pub spent-push : {P : Core → Type 0} (c : Client) (ticket : Ticket) (file : ℕ) → c.ticket ≡ Some ticket → c.attached ≡ true
    → ((p : Push) → push_in ticket.request ≡ Some p → p.file ≡ file) → Alone c → P (record (core_of (begun c)) { ticket = None })
    → Spent P (spends (begun c)) file
unfolding spends
spent-push c ticket file is attached of_file a core = record {
  spent = record {
    asking = spent-asking c attached a.asking;
    free = record { free = refl; attached = attached };
    noticed = λ f n e apart. case f apart (writes.has-writes f c.dirty c.push (a.delaying.noticed f n e));
  };
  core = core;
} where
  under : (f : ℕ) → f ≢ file → (o : Option Push) → c.push ≡ o → push_passes (is_push_of f) o ≡ true → list_any (is_push_of f) c.dirty ≡ true
  under f apart None e some = absurd (cc)
  under f apart (Some p) e some =
      let k = a.delaying.under_way p e in
      let one : k.request ≡ ticket = some-same k.request ticket (sym k.asks ∙ is) in
      let same : p.file ≡ file = of_file p (subst (λ z. push_in z.request ≡ Some p) one k.pushes) in
      absurd (apart (sym (same-number p.file f some) ∙ same))

  case : (f : ℕ) → f ≢ file → (list_any (is_push_of f) c.dirty ≡ true) ⊎ (push_passes (is_push_of f) c.push ≡ true) → list_any (is_push_of f) c.dirty ≡ true
  case f apart (inl some) = some
  case f apart (inr some) = under f apart c.push refl some

-- the push under way is of the request's file
pub spent-gone : (c : Client) (ticket : Ticket) (file : ℕ) → c.ticket ≡ Some ticket → ((p : Push) → push_in ticket.request ≡ Some p → p.file ≡ file)
    → Alone c → other_push file (spends (begun c)).client.push ≡ None
unfolding spends
spent-gone c ticket file is of_file a = case c.push refl
  where
    case : (o : Option Push) → c.push ≡ o → other_push file o ≡ None
    case None e = refl
    case (Some p) e =
        let k = a.delaying.under_way p e in
        let one : k.request ≡ ticket = some-same k.request ticket (sym k.asks ∙ is) in
        let same : p.file ≡ file = of_file p (subst (λ z. push_in z.request ≡ Some p) one k.pushes) in
        let yes : (p.file == file) ≡ true = number-same p.file file same in
        rw yes refl
