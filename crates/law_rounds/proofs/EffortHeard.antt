-- What each small change costs where a reply is heard, and which calls may follow.
use Rattle.std.proofs.Common.{◌≡◌, ◌≤◌, ◌⊎◌, ℕ, ◌+◌, ◌&&◌, Bool, true, false, not, nat_lt, List, Option, Some, None, is_some, refl, ap}
use Rattle.std.proofs.Common.{◌∙◌, arith, inl, inr}
use Rattle.nq_base.specs.declared.Answer.{Answer}
use Rattle.nq_base.specs.declared.Grant.{Grant}
use Rattle.nq_base.specs.declared.Request.{Request}
use Rattle.nq_base.specs.declared.Tag.{Tag}
use Rattle.nq_model.specs.protocol.Client.{Client, ClientStep, begun, Job, attaching, for_call, renewing, pushing, Notice, Ticket, UnderWay, lease_on}
use Rattle.nq_model.specs.protocol.Client.{notice_on, is_push_of, dirty_at, is_clean, revision_of, is_revision_before}
use Rattle.nq_model.specs.protocol.Hear.{answers_call, vacates_lease, vacates_noticed, loses, waits_for, reports_to, push_refused}
use Rattle.nq_model.specs.protocol.Hear.{without_lease, breaks, breaks_chain, if_broken, holds, takes_grant, takes_optional, grant_caches}
use Rattle.nq_model.specs.protocol.Hear.{caches_block, purges, knows_revision, then_caches, holds_caching}
use Rattle.nq_model.specs.protocol.Hear.{caches_write, ends_push, caches_push, vacates_if_clean, push_done, spends, pauses}
use Rattle.nq_model.specs.protocol.Message.{Message}
use Rattle.nq_model.specs.protocol.Settle.{answers, names_losses}
use Rattle.walk_steps.proofs.PartCases.{answers-call-cases, vacates-if-clean-cases}
use Rattle.walk_steps.proofs.Rows.{choice}
use Rattle.law_rounds.specs.Efforts.{fresh_left, job_left}
use Rattle.law_rounds.specs.Efforts.{requests_left, writes_left, calls_left}
use Rattle.law_rounds.proofs.Efforts.{total-more, weight, sent_weight, cost}
use Rattle.law_rounds.proofs.EffortParts.{filter-shorter, none-left}

-- what is left of a call is as before, or nothing
pub record Goes (price note n : ℕ) (t u : ClientStep) : Type 0 where
  pub rest : writes_left u.client + sent_weight price note u ≤ (writes_left t.client + sent_weight price note t) + n
  pub call : (u.client.call ≡ t.client.call) ⊎ (u.client.call ≡ None)
  pub ticket : u.client.ticket ≡ t.client.ticket
  pub now : u.client.now ≡ t.client.now
  pub pause : u.client.pause ≡ t.client.pause

-- the step that spent the request under way
abbrev pub start : Client → ClientStep
start c = spends (begun c)

module _ (price note : ℕ) where
  pub same-goes : (t : ClientStep) → Goes price note 0 t t
  same-goes t = record { rest = omega arith; call = inl refl; ticket = refl; now = refl; pause = refl }

  pub goes-then : (m n k : ℕ) (t u v : ClientStep) → m + n ≤ k → Goes price note m t u → Goes price note n u v → Goes price note k t v
  goes-then m n k t u v all a b = record {
    rest = let x = a.rest in let y = b.rest in omega arith;
    call = which a.call b.call;
    ticket = b.ticket
        ∙ a.ticket;
    now = b.now ∙ a.now;
    pause = b.pause ∙ a.pause;
  }
    where
      which : (u.client.call ≡ t.client.call) ⊎ (u.client.call ≡ None) → (v.client.call ≡ u.client.call) ⊎ (v.client.call ≡ None)
          → (v.client.call ≡ t.client.call) ⊎ (v.client.call ≡ None)
      which x (inr none) = inr none
      which (inl same) (inl e) = inl (e ∙ same)
      which (inr none) (inl e) = inr (e ∙ none)

  pub wider : (m n : ℕ) (t u : ClientStep) → m ≤ n → Goes price note m t u → Goes price note n t u
  wider m n t u more a = record { rest = let x = a.rest in omega arith; call = a.call; ticket = a.ticket; now = a.now; pause = a.pause }

  pub vacates-goes : (t : ClientStep) (file : ℕ) (tag : Tag) → Goes price note 1 t (vacates_lease t file tag)
  unfolding vacates_lease
  vacates-goes t file tag = record {
    rest = let more = total-more (weight price note) t.sends (Message.call t.client.xid (Request.Vacated t.client.who
        file tag)) in omega arith;
    call = inl refl;
    ticket = refl;
    now = refl;
    pause = refl;
  }

  noticed-goes : (t : ClientStep) (file : ℕ) (o : Option Notice) → Goes price note 1 t (vacates_noticed t file o)
  noticed-goes t file None = wider 0 1 t t (omega arith) (same-goes t)
  noticed-goes t file (Some n) = vacates-goes t file n.tag

  loses-goes : (t : ClientStep) (file : ℕ) → Goes price note 0 t (loses t file)
  unfolding loses
  loses-goes t file = record {
    rest = let less = filter-shorter (λ p. not (is_push_of file p)) t.client.dirty in omega arith;
    call = inl refl;
    ticket = refl;
    now = refl;
    pause = refl;
  }

  reported-goes : (t : ClientStep) (file : ℕ) (o : Option UnderWay) → Goes price note 0 t (reports_to t file o)
  unfolding answers
  reported-goes t file None = same-goes t
  reported-goes t file (Some u) = choice (Goes price note 0 t) (waits_for file u.written u.call) (names_losses t u.q file) t
      (λ e. record { rest = omega arith; call = inr refl; ticket = refl; now = refl; pause = refl }) (λ e. same-goes t)

  broken-goes : (t : ClientStep) (file : ℕ) → Goes price note 1 t (breaks_chain t file)
  broken-goes t file =
      let gone = vacates_noticed (loses t file) file (notice_on file t.client.notices) in
      goes-then 1 0 1 t gone _ (omega arith) (goes-then 0 1 1 t (loses t file) gone (omega arith) (loses-goes t file) (noticed-goes (loses t file)
      file _)) (reported-goes gone file gone.client.call)

  freed-goes : (t : ClientStep) (file : ℕ) → Goes price note 0 t (without_lease t file)
  unfolding without_lease
  freed-goes t file = record { rest = omega arith; call = inl refl; ticket = refl; now = refl; pause = refl }

  pub refused-goes : (t : ClientStep) (file : ℕ) → Goes price note 1 t (push_refused t file)
  refused-goes t file =
      let lost = loses t file in
      let free = without_lease lost file in
      let gone = vacates_noticed free file (notice_on file t.client.notices) in
      goes-then 1 0 1 t gone _ (omega arith) (goes-then 0 1 1 t free gone (omega arith) (goes-then 0 0 0 t lost free (omega arith) (loses-goes t file)
      (freed-goes lost file)) (noticed-goes free file _)) (reported-goes gone file gone.client.call)

  holds-goes : (t : ClientStep) (file : ℕ) (g : Grant) (sent : ℕ) → Goes price note 0 t (holds t file g sent)
  unfolding holds
  holds-goes t file g sent = record { rest = omega arith; call = inl refl; ticket = refl; now = refl; pause = refl }

  if-broken-goes : (t : ClientStep) (file : ℕ) (g : Grant) → Goes price note 1 t (if_broken t file g)
  if-broken-goes t file g = choice (Goes price note 1 t) (breaks g (lease_on file t.client.leases) && not (is_clean t.client file))
      (breaks_chain t file) t (λ e. broken-goes t file) (λ e. wider 0 1 t t (omega arith) (same-goes t))

  pub taken-goes : (t : ClientStep) (file : ℕ) (g : Grant) (sent : ℕ) → Goes price note 1 t (takes_grant t file g sent)
  taken-goes t file g sent = goes-then 1 0 1 t (if_broken t file g) (takes_grant t file g sent) (omega arith) (if-broken-goes t file g)
      (holds-goes (if_broken t file g) file g sent)

  pub optional-goes : (t : ClientStep) (file : ℕ) (o : Option Grant) (sent : ℕ) → Goes price note 1 t (takes_optional t file o sent)
  optional-goes t file None sent = wider 0 1 t t (omega arith) (same-goes t)
  optional-goes t file (Some g) sent = taken-goes t file g sent

  cached-goes : (t : ClientStep) (file block : ℕ) (body : List ℕ) → Goes price note 0 t (caches_block t file block body)
  unfolding caches_block
  cached-goes t file block body = record { rest = omega arith; call = inl refl; ticket = refl; now = refl; pause = refl }

  purged-goes : (t : ClientStep) (file : ℕ) → Goes price note 0 t (purges t file)
  unfolding purges
  purged-goes t file = record { rest = omega arith; call = inl refl; ticket = refl; now = refl; pause = refl }

  pub known-goes : (t : ClientStep) (file rev : ℕ) → Goes price note 0 t (knows_revision t file rev)
  unfolding knows_revision
  known-goes t file rev = record { rest = omega arith; call = inl refl; ticket = refl; now = refl; pause = refl }

  ended-goes : (t : ClientStep) → Goes price note 0 t (ends_push t)
  unfolding ends_push
  ended-goes t = record { rest = omega arith; call = inl refl; ticket = refl; now = refl; pause = refl }

  pub then-caches-goes : (t : ClientStep) (file block : ℕ) (body : List ℕ) (g : Option Grant) → Goes price note 0 t (then_caches t file block body g)
  then-caches-goes t file block body g = choice (Goes price note 0 t) (grant_caches g) (caches_block t file block body) t
      (λ e. cached-goes t file block body) (λ e. same-goes t)

  pub caches-write-goes : (t : ClientStep) (file block : ℕ) (body : List ℕ) (rev : ℕ) → Goes price note 0 t (caches_write t file block body rev)
  caches-write-goes t file block body rev = choice (Goes price note 0 t) (holds_caching (lease_on file t.client.leases) && is_revision_before rev
      (revision_of file t.client.revisions)) (caches_block t file block body) (purges t file) (λ e. cached-goes t file block body) (λ e. purged-goes t file)

  caches-push-goes : (t : ClientStep) (file block : ℕ) (body : List ℕ) → Goes price note 0 t (caches_push t file block body)
  caches-push-goes t file block body = choice (Goes price note 0 t) (is_some (dirty_at file block t.client.dirty)) t (caches_block t file block body)
      (λ e. same-goes t) (λ e. cached-goes t file block body)

  vacates-if-clean-goes : (t : ClientStep) (file : ℕ) → Goes price note 1 t (vacates_if_clean t file)
  vacates-if-clean-goes t file = vacates-if-clean-cases t file (Goes price note 1 t) (wider 0 1 t t (omega arith) (same-goes t)) (λ n clean is.
      vacates-goes t file n.tag)

  pub pushed-goes : (t : ClientStep) (file block : ℕ) (body : List ℕ) (rev : ℕ) → Goes price note 1 t (push_done t file block body rev)
  pushed-goes t file block body rev =
      let ended = ends_push t in
      let known = knows_revision ended file rev in
      let kept = caches_push known file block body in
      goes-then 0 1 1 t kept (vacates_if_clean kept file) (omega arith) (goes-then 0 0 0 t known kept (omega arith) (goes-then 0 0 0 t ended known
      (omega arith) (ended-goes t) (known-goes ended file rev)) (caches-push-goes known file block body)) (vacates-if-clean-goes kept file)

  -- ---- what a reply leaves

  pub start-rest : (c : Client) → writes_left (start c).client + sent_weight price note (start c) ≡ writes_left c
  unfolding spends
  start-rest c = omega arith

  -- the call was answered: none of its requests is left
  pub answered-cost : (c : Client) (t : ClientStep) (answer : Answer) (by : Option ℕ) → Goes price note 1 (start c) t
      → cost price note (answers_call t answer by) ≤ writes_left c + 1
  unfolding answers
  answered-cost c t answer by g =
      let rest = g.rest in
      let from = start-rest c in
      answers-call-cases t answer by (λ v. cost price note v ≤ writes_left c + 1)
      (λ none. let left : calls_left price t.client ≡ 0 = ap (λ o. requests_left price t.client.now (nat_lt t.client.now t.client.pause) o
      t.client.ticket) none ∙ none-left price note t.client.now (nat_lt t.client.now t.client.pause) t.client.ticket in omega arith)
      (λ u is. let left = none-left price note t.client.now (nat_lt t.client.now t.client.pause) t.client.ticket in omega arith)

  -- the request was not the call's: the call's are left
  pub other-job : (now : ℕ) (pauses : Bool) (called : Option UnderWay) (t : Ticket) → (t.job ≡ for_call → ⊥) → requests_left price now pauses called
      (Some t) ≡ requests_left price now pauses called None
  other-job now true called t other = refl
  other-job now false None t other = refl
  other-job now false (Some u) t other = by t.job refl
    where
      by : (job : Job) → t.job ≡ job → job_left price now u t.first t.request job ≡ fresh_left price u
      by attaching is = refl
      by for_call is = absurd (other is)
      by renewing is = refl
      by pushing is = refl

  pub start-same : (c : Client) → ((start c).client.call ≡ c.call) × ((start c).client.ticket ≡ None) × ((start c).client.now ≡ c.now)
      × ((start c).client.pause ≡ c.pause) × ((start c).client.notices ≡ c.notices)
  unfolding spends
  start-same c = (refl, refl, refl, refl, refl)

  -- the call's requests, where none is under way
  abbrev pub fresh_calls : Client → ℕ
  fresh_calls c = requests_left price c.now (nat_lt c.now c.pause) c.call None

  pub goes-calls : (n : ℕ) (c : Client) (t : ClientStep) → Goes price note n (start c) t → calls_left price t.client ≤ fresh_calls c
  goes-calls n c t g =
      let s = start-same c in
      let free : t.client.ticket ≡ None = g.ticket ∙ s.1 in
      let now : t.client.now ≡ c.now = g.now ∙ s.2 in
      let pause : t.client.pause ≡ c.pause = g.pause ∙ s.3 in
      let same : calls_left price t.client ≡ requests_left price c.now (nat_lt c.now c.pause) t.client.call None = rw (free, now, pause) refl in
      by s.0 same g.call
    where
      by : (start c).client.call ≡ c.call → calls_left price t.client ≡ requests_left price c.now (nat_lt c.now c.pause) t.client.call None
          → (t.client.call ≡ (start c).client.call) ⊎ (t.client.call ≡ None) → calls_left price t.client ≤ fresh_calls c
      by from same (inl is) = let at : requests_left price c.now (nat_lt c.now c.pause) t.client.call None ≡ fresh_calls c =
          ap (λ o. requests_left price c.now (nat_lt c.now c.pause) o None) (is ∙ from) in omega arith
      by from same (inr none) = let at : requests_left price c.now (nat_lt c.now c.pause) t.client.call None ≡ 0 =
          ap (λ o. requests_left price c.now (nat_lt c.now c.pause) o None) none ∙ none-left price note c.now (nat_lt c.now c.pause) None in omega arith
