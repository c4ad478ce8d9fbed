-- Replies and notices keep a client's delayed writes bound or excused.
use Rattle.std.proofs.Common.{◌≡◌, ◌<◌, ◌⊎◌, ℕ, ◌&&◌, Bool, true, false, not, List, ◌++◌, Option, Some, None, refl, sym, subst, ap, ◌∙◌, arith, inl, inr}
use Rattle.nq_base.specs.declared.Answer.{Answer}
use Rattle.nq_base.specs.declared.Entry.{Entry}
use Rattle.nq_base.specs.declared.Grant.{Grant}
use Rattle.nq_base.specs.declared.Push.{Push}
use Rattle.nq_base.specs.declared.Refusal.{Refusal}
use Rattle.nq_base.specs.declared.Reply.{Reply}
use Rattle.nq_base.specs.declared.Tag.{Tag}
use Rattle.nq_base.specs.declared.Value.{Value}
use Rattle.nq_base.specs.declared.Who.{Who}
use Rattle.walk_steps.proofs.PartCases.{answers-call-cases, vacates-noticed-cases, reports-cases, if-broken-cases, takes-optional-cases}
use Rattle.walk_steps.proofs.PartCases.{lease-done-cases, then-caches-cases, caches-write-cases, caches-push-cases, vacates-if-clean-cases}
use Rattle.walk_steps.proofs.RepliedCases.{RepliedCases, replied-cases}
use Rattle.walk_steps.proofs.StepCases.{evicted-cases}
use Rattle.walk_steps.proofs.ClientFacts.{push_in, fits_job}
use Rattle.walk_steps.proofs.ClientMoves.{none-some, keeps-or-cancels}
use Rattle.walk_files.proofs.BoundRows.{IsBound}
use Rattle.walk_files.proofs.Cuts.{IsExcusedIn}
use Rattle.walk_files.proofs.HoldingSteps.{Between, answered, named}
use Rattle.walk_files.proofs.HoldingWrites.{loses as loses-writes}
use Rattle.walk_files.proofs.Holdings.{view_of, IsHeldBound, drops, holds as holds-lease, fewer}
use Rattle.walk_files.proofs.Waiting.{IsWaiting, none-waiting, waiting-dirty, left-waiting}
use Rattle.nq_model.specs.protocol.Client.{Client, ClientStep, Lease, Notice, Ticket, begun, is_clean, lease_on, notice_on, lets_write}
use Rattle.nq_model.specs.protocol.Hear.{vacates_lease, vacates_noticed, loses, reports, without_lease, push_refused, granted_lease, breaks, breaks_chain}
use Rattle.nq_model.specs.protocol.Hear.{holds, takes_grant, takes_optional, answers_call, caches_block, then_caches, purges, knows_revision, read_done}
use Rattle.nq_model.specs.protocol.Hear.{lease_done, marks_through, caches_write, write_done, ends_push, caches_push, push_done, spends, attached, pauses}
use Rattle.nq_model.specs.protocol.Hear.{cancels, cancelled, notes_notice, evicted, replied, reply_counts, answer_of, is_put_off}
use Rattle.nq_model.specs.laws.LeaseInterval.{grant_in, requested_file}
use Rattle.nq_model.specs.protocol.Server.{Server}
use Rattle.nq_model.specs.protocol.Settle.{answers, names_losses}
use Rattle.nq_model.specs.protocol.Table.{is_writing, tag_below}

-- what is known of a grant that is taken
pub record TakesFit (s : Server) (c : Client) (file : ℕ) (g : Grant) (sent : ℕ) : Type 0 where
  -- the lease that it gives is bound while it runs and lets its holder write
  pub covered : lets_write c.now (granted_lease file g sent) ≡ true → IsBound s s.phase c.who file g.tag
  -- a file with delayed writes is held
  pub held : is_clean c file ≡ false → (l : Lease) × (lease_on file c.leases ≡ Some l)
  -- a file whose chain it breaks is not bound
  pub broken : (l : Lease) → lease_on file c.leases ≡ Some l → tag_below l.tag g.since ≡ true → IsHeldBound s c.who c.leases file → ⊥
  -- else it goes on with the held lease
  pub whole : (l : Lease) → is_clean c file ≡ false → lease_on file c.leases ≡ Some l → tag_below l.tag g.since ≡ false
      → (g.blocks ≡ l.blocks) × (IsHeldBound s c.who c.leases file → (is_writing g.mode ≡ true) × IsBound s s.phase c.who file g.tag)

module _ (s : Server) (journal : List Entry) where
  abbrev Mid : ClientStep → Type 0
  Mid t = Between s journal t

  -- ---- small changes

  call-answered : (t : ClientStep) (a : Answer) (by : Option ℕ) → Mid t → Mid (answers_call t a by)
  call-answered t a by h = answers-call-cases t a by Mid (λ none. h) (λ u is. answered s journal t u.q a by h)

  reported : (t : ClientStep) (file : ℕ) → Mid t → Mid (reports t file)
  reported t file h = reports-cases t file Mid (λ none. h) (λ u is other. h) (λ u is waits. named s journal t u.q file h)

  -- no delayed writes of a file wait
  abbrev NoneWait : ClientStep → ℕ → Type 0
  NoneWait t file = (p : Push) → IsWaiting t.client.dirty t.client.push p → p.file ≡ file → ⊥

  pub vacated : (t : ClientStep) (file : ℕ) (tag : Tag) → NoneWait t file → Mid t → Mid (vacates_lease t file tag)
  unfolding vacates_lease
  vacated t file tag none h = drops s t.client.who t.client.now journal file (view_of t) none h

  vacated-wait : (t : ClientStep) (file : ℕ) (tag : Tag) → NoneWait t file → NoneWait (vacates_lease t file tag) file
  unfolding vacates_lease
  vacated-wait t file tag none = none

  noticed-vacated : (t : ClientStep) (file : ℕ) (o : Option Notice) → NoneWait t file → Mid t
      → Mid (vacates_noticed t file o) × NoneWait (vacates_noticed t file o) file
  noticed-vacated t file o none h =
      vacates-noticed-cases t file o (λ u. Mid u × NoneWait u file) (λ no. (h, none))
      (λ n is. (vacated t file n.tag none h, vacated-wait t file n.tag none))

  cached-block : (t : ClientStep) (file block : ℕ) (body : List ℕ) → Mid t → Mid (caches_block t file block body)
  unfolding caches_block
  cached-block t file block body h = h

  purged : (t : ClientStep) (file : ℕ) → Mid t → Mid (purges t file)
  unfolding purges
  purged t file h = h

  known : (t : ClientStep) (file rev : ℕ) → Mid t → Mid (knows_revision t file rev)
  unfolding knows_revision
  known t file rev h = h

  marked-through : (t : ClientStep) (on : Bool) → Mid t → Mid (marks_through on t)
  unfolding marks_through
  marked-through t on h = h

  paused : (t : ClientStep) → Mid t → Mid (pauses t)
  unfolding pauses marks_through
  paused t h = h

  is-attached : (t : ClientStep) → Mid t → Mid (attached t)
  unfolding attached
  is-attached t h = h

  spent : (t : ClientStep) → Mid t → Mid (spends t)
  unfolding spends
  spent t h =
      fewer s t.client.who t.client.now journal (view_of t) None t.client.seq t.client.number t.client.dirty t.client.push (λ p waits. waits)
      (omega arith) (omega arith)
      (λ u n is seq. none-some u is) h

  push-ended : (t : ClientStep) → Mid t → Mid (ends_push t)
  unfolding ends_push
  push-ended t h =
      fewer s t.client.who t.client.now journal (view_of t) t.client.ticket t.client.seq t.client.number t.client.dirty None less (omega arith) (omega arith)
      (λ u n is seq. inr (u, is, refl)) h
    where
      less : (p : Push) → IsWaiting t.client.dirty None p → IsWaiting t.client.dirty t.client.push p
      less p (inl there) = inl there
      less p (inr is) = none-some p is

  pub ticket-cancelled : (t : ClientStep) (file : ℕ) → Mid t → Mid (cancels t file)
  unfolding cancels
  ticket-cancelled t file h =
      fewer s t.client.who t.client.now journal (view_of t) (cancelled file t.client.ticket) t.client.seq t.client.number t.client.dirty t.client.push
      (λ p waits. waits) (omega arith) (omega arith)
      (λ u n is seq. inr (u, (keeps-or-cancels file t.client.ticket u is).0, refl)) h

  pub notice-noted : (t : ClientStep) (file : ℕ) (tag : Tag) → Mid t → Mid (notes_notice t file tag)
  unfolding notes_notice
  notice-noted t file tag h = h

  -- ---- losses

  lost : (t : ClientStep) (file : ℕ)
      → ((p : Push) → IsWaiting t.client.dirty t.client.push p → p.file ≡ file → IsExcusedIn (t.entries ++ journal) t.client.who p) → Mid t
      → Mid (loses t file) × NoneWait (loses t file) file
  unfolding loses
  lost t file excused h = (
    loses-writes s t.client.who t.client.now journal file (view_of t) excused h,
    λ p waits on. (left-waiting file t.client.dirty t.client.push p waits).1 on,
  )

  -- a file that is not bound has only excused ones
  unbound-excused : (t : ClientStep) (file : ℕ) → (IsHeldBound s t.client.who t.client.leases file → ⊥) → Mid t → (p : Push)
      → IsWaiting t.client.dirty t.client.push p → p.file ≡ file → IsExcusedIn (t.entries ++ journal) t.client.who p
  unbound-excused t file unbound h p waits on = case (h.waiting p waits)
    where
      case : IsHeldBound s t.client.who t.client.leases p.file ⊎ IsExcusedIn (t.entries ++ journal) t.client.who p
          → IsExcusedIn (t.entries ++ journal) t.client.who p
      case (inl bound) = absurd (unbound (subst (IsHeldBound s t.client.who t.client.leases) on bound))
      case (inr excused) = excused

  without : (t : ClientStep) (file : ℕ) → NoneWait t file → Mid t → Mid (without_lease t file) × NoneWait (without_lease t file) file
  unfolding without_lease
  without t file none h = (drops s t.client.who t.client.now journal file (view_of t) none h, none)

  -- a push is refused of a file that is not bound
  refused : (t : ClientStep) (file : ℕ) → (IsHeldBound s t.client.who t.client.leases file → ⊥) → Mid t → Mid (push_refused t file)
  refused t file unbound h =
      let a = lost t file (unbound-excused t file unbound h) h in
      let b = without (loses t file) file a.1 a.0 in
      let d = noticed-vacated (without_lease (loses t file) file) file (notice_on file t.client.notices) b.1 b.0 in
      reported (vacates_noticed (without_lease (loses t file) file) file (notice_on file t.client.notices)) file d.0

  named-wait : (t : ClientStep) (q file f : ℕ) → NoneWait t file → NoneWait (names_losses t q f) file
  unfolding answers
  named-wait t q file f none = none

  -- the incarnation, the time, and that no request is under way
  abbrev IsFree : Who → ℕ → ClientStep → Type 0
  IsFree who now t = (t.client.who ≡ who) × (t.client.now ≡ now) × (t.client.ticket ≡ None)

  free-lost : (who : Who) (now : ℕ) (t : ClientStep) (file : ℕ) → IsFree who now t → IsFree who now (loses t file)
  unfolding loses
  free-lost who now t file f = f

  free-named : (who : Who) (now : ℕ) (t : ClientStep) (q file : ℕ) → IsFree who now t → IsFree who now (names_losses t q file)
  unfolding answers
  free-named who now t q file f = f

  free-vacated : (who : Who) (now : ℕ) (t : ClientStep) (file : ℕ) (tag : Tag) → IsFree who now t → IsFree who now (vacates_lease t file tag)
  unfolding vacates_lease
  free-vacated who now t file tag f = f

  chain-broken : (who : Who) (now : ℕ) (t : ClientStep) (file : ℕ) → (IsHeldBound s t.client.who t.client.leases file → ⊥) → IsFree who now t → Mid t
      → Mid (breaks_chain t file) × NoneWait (breaks_chain t file) file × IsFree who now (breaks_chain t file)
  chain-broken who now t file unbound free h =
      let a = lost t file (unbound-excused t file unbound h) h in
      let d = noticed-vacated (loses t file) file (notice_on file t.client.notices) a.1 a.0 in
      let u : ClientStep = vacates_noticed (loses t file) file (notice_on file t.client.notices) in
      let f : IsFree who now u = vacates-noticed-cases (loses t file) file (notice_on file t.client.notices) (IsFree who now)
      (λ no. free-lost who now t file free) (λ n is. free-vacated who now (loses t file) file n.tag (free-lost who now t file free)) in
      reports-cases u file (λ v. Mid v × NoneWait v file × IsFree who now v) (λ none. (d.0, d.1, f)) (λ w is other. (d.0, d.1, f))
      (λ w is waits. (named s journal u w.q file d.0, named-wait u w.q file file d.1, free-named who now u w.q file f))

  -- ---- grants

  holding : (t : ClientStep) (file : ℕ) (g : Grant) (sent : ℕ) → t.client.ticket ≡ None
      → (lets_write t.client.now (granted_lease file g sent) ≡ true → IsBound s s.phase t.client.who file g.tag)
      → ((p : Push) → IsWaiting t.client.dirty t.client.push p → p.file ≡ file
      → (p.block < g.blocks) × (IsHeldBound s t.client.who t.client.leases file
      → (is_writing g.mode ≡ true) × IsBound s s.phase t.client.who file g.tag)) → Mid t → Mid (holds t file g sent)
  unfolding holds
  holding t file g sent free covered fits h = holds-lease s t.client.who t.client.now journal file g sent (view_of t) free covered fits h

  module _ (c : Client) (file : ℕ) (g : Grant) (sent : ℕ) (fits : TakesFit s c file g sent) where
    covered-in : (who : Who) (now : ℕ) → who ≡ c.who → now ≡ c.now → lets_write now (granted_lease file g sent) ≡ true → IsBound s s.phase who file g.tag
    covered-in who now same time lets =
        subst (λ w. IsBound s s.phase w file g.tag) (sym same) (fits.covered (subst (λ n. lets_write n (granted_lease file g sent) ≡ true) time lets))

    spent-free : IsFree c.who c.now (spends (begun c))
    unfolding spends
    spent-free = (refl, refl, refl)

    holds-whole : Mid (begun c) → (breaks g (lease_on file c.leases) && not (is_clean c file)) ≡ false → Mid (holds (spends (begun c)) file g sent)
    unfolding spends
    holds-whole h unbroken =
        holding (spends (begun c)) file g sent refl (covered-in c.who c.now refl refl)
        (λ p waits on. goes-on p waits on (waiting-dirty file c.dirty c.push p waits on)) (spent (begun c) h)
      where
        from : (p : Push) → IsWaiting c.dirty c.push p → p.file ≡ file → is_clean c file ≡ false → (l : Lease) → lease_on file c.leases ≡ Some l
            → (p.block < g.blocks) × (IsHeldBound s c.who c.leases file → (is_writing g.mode ≡ true) × IsBound s s.phase c.who file g.tag)
        from p waits on dirty l held =
            let before : tag_below l.tag g.since ≡ false = unless (tag_below l.tag g.since) (is_clean c file) dirty
            (subst (λ o. (breaks g o && not (is_clean c file)) ≡ false) held unbroken) in
            let k = fits.whole l dirty held before in
            let within = h.blocks p l waits (ap (λ n. lease_on n c.leases) on ∙ held) in
            let length : g.blocks ≡ l.blocks = k.0 in
            (omega arith, k.1)
          where
            unless : (a b : Bool) → b ≡ false → (a && not b) ≡ false → a ≡ false
            unless true true dirty e = absurd (cc)
            unless true false dirty e = absurd (cc)
            unless false b dirty e = refl

        goes-on : (p : Push) → IsWaiting c.dirty c.push p → p.file ≡ file → is_clean c file ≡ false
            → (p.block < g.blocks) × (IsHeldBound s c.who c.leases file → (is_writing g.mode ≡ true) × IsBound s s.phase c.who file g.tag)
        goes-on p waits on dirty = let l = fits.held dirty in from p waits on dirty l.0 l.1

    breaks-all : Mid (begun c) → (l : Lease) → lease_on file c.leases ≡ Some l → tag_below l.tag g.since ≡ true
        → Mid (holds (breaks_chain (spends (begun c)) file) file g sent)
    unfolding spends
    breaks-all h l held broken =
        let t : ClientStep = spends (begun c) in
        let k = chain-broken c.who c.now t file (fits.broken l held broken) spent-free (spent (begun c) h) in
        holding (breaks_chain t file) file g sent k.2.2 (covered-in (breaks_chain t file).client.who (breaks_chain t file).client.now k.2.0 k.2.1)
        (λ p waits on. absurd (k.1 p waits on)) k.0

    same-state : ((spends (begun c)).client.leases ≡ c.leases) × (is_clean (spends (begun c)).client file ≡ is_clean c file)
    unfolding spends
    same-state = (refl, refl)

    -- a grant is taken
    pub taken : Mid (begun c) → Mid (takes_grant (spends (begun c)) file g sent)
    taken h =
        if-broken-cases (spends (begun c)) file g (λ t. Mid (holds t file g sent))
        (λ unbroken. holds-whole h (subst (λ b. (breaks g (lease_on file c.leases) && not b) ≡ false) same-state.1
        (subst (λ ls. (breaks g (lease_on file ls) && not (is_clean (spends (begun c)).client file)) ≡ false) same-state.0 unbroken)))
        (λ l held broken dirty. breaks-all h l (subst (λ ls. lease_on file ls ≡ Some l) same-state.0 held) broken)

  -- ---- a reply

  module _ (c : Client) (number : ℕ) (ticket : Ticket) (r : Reply)
      (takes : (file : ℕ) (g : Grant) → requested_file ticket.request ≡ Some file → grant_in r ≡ Some g → TakesFit s c file g ticket.first)
      (unbound : (p : Push) (inc : ℕ) (status : Refusal) → push_in ticket.request ≡ Some p → r ≡ Reply.Refused inc status → is_put_off status ≡ false
      → IsHeldBound s c.who c.leases p.file → ⊥)
      (h : Mid (begun c)) where
    optional : (file : ℕ) (o : Option Grant) → requested_file ticket.request ≡ Some file → grant_in r ≡ o
        → Mid (takes_optional (spends (begun c)) file o ticket.first)
    optional file o on gives =
        takes-optional-cases (spends (begun c)) file o ticket.first Mid (λ none. spent (begun c) h)
        (λ g is. taken c file g ticket.first (takes file g on (gives ∙ is)) h)

    read : (file block : ℕ) (body : List ℕ) (o : Option Grant) → requested_file ticket.request ≡ Some file → grant_in r ≡ o
        → Mid (read_done (spends (begun c)) file block body o ticket.first number)
    read file block body o on gives =
        let t : ClientStep = takes_optional (spends (begun c)) file o ticket.first in
        call-answered (then_caches t file block body o) (Answer.Ok (Value.Body body)) (Some number)
        (then-caches-cases t file block body o Mid (λ caching. cached-block t file block body (optional file o on gives)) (λ other. optional file o on gives))

    leased : (file : ℕ) (o : Option Grant) → requested_file ticket.request ≡ Some file → grant_in r ≡ o
        → Mid (lease_done (spends (begun c)) file o ticket.first)
    leased file o on gives =
        lease-done-cases (spends (begun c)) file o ticket.first Mid (λ caching. optional file o on gives)
        (λ other. marked-through (takes_optional (spends (begun c)) file o ticket.first) true (optional file o on gives))

    wrote : (file block : ℕ) (body : List ℕ) (rev : ℕ) → Mid (write_done (spends (begun c)) file block body rev)
    wrote file block body rev =
        let t : ClientStep = spends (begun c) in
        call-answered (knows_revision (caches_write t file block body rev) file rev) (Answer.Ok Value.Nothing) None
        (known (caches_write t file block body rev) file rev
        (caches-write-cases t file block body rev Mid (λ holding before. cached-block t file block body (spent (begun c) h))
        (purged t file (spent (begun c) h))))

    stored : (file block : ℕ) (body : List ℕ) (rev : ℕ) → Mid (push_done (spends (begun c)) file block body rev)
    stored file block body rev =
        let t : ClientStep = knows_revision (ends_push (spends (begun c))) file rev in
        let a : Mid t = known (ends_push (spends (begun c))) file rev (push-ended (spends (begun c)) (spent (begun c) h)) in
        let b : Mid (caches_push t file block body) = caches-push-cases t file block body Mid (λ dirty. a) (λ clean. cached-block t file block body a) in
        vacates-if-clean-cases (caches_push t file block body) file Mid b
        (λ n clean is. vacated (caches_push t file block body) file n.tag
        (λ p waits on. none-waiting file (caches_push t file block body).client.dirty (caches_push t file block body).client.push p clean waits on) b)

    same-held : ((spends (begun c)).client.leases ≡ c.leases) × ((spends (begun c)).client.who ≡ c.who)
    unfolding spends
    same-held = (refl, refl)

    push-lost : (file : ℕ) → (IsHeldBound s c.who c.leases file → ⊥) → Mid (push_refused (spends (begun c)) file)
    push-lost file none =
        refused (spends (begun c)) file
        (λ b. none (subst (λ w. IsHeldBound s w c.leases file) same-held.1
        (subst (λ ls. IsHeldBound s (spends (begun c)).client.who ls file) same-held.0 b))) (spent (begun c) h)

    cases : RepliedCases c number ticket r Mid
    cases = record {
      attaching = λ who inc job asks is. is-attached (spends (begun c)) (spent (begun c) h);
      named = λ answer job is. call-answered (spends (begun c)) answer None (spent (begun c) h);
      reading = λ who q file block want inc rev body grant of_call is. read file block body grant (ap requested_file of_call.asks) (ap grant_in is);
      leasing = λ who file want inc grant of_call is. leased file grant (ap requested_file of_call.asks) (ap grant_in is);
      writing = λ who seq file block first last body inc rev of_call is. wrote file block body rev;
      resizing =
          λ who seq q file blocks inc rev of_call is. call-answered (knows_revision (spends (begun c)) file rev) (Answer.Ok Value.Nothing) None
          (known (spends (begun c)) file rev (spent (begun c) h));
      removing = λ who seq q file inc of_call is. call-answered (spends (begun c)) (Answer.Ok Value.Nothing) None (spent (begun c) h);
      renewing = λ who file want inc grant job asks is. optional file grant (ap requested_file asks) (ap grant_in is);
      pushed = λ who seq file block first last base body inc rev job asks is. stored file block body rev;
      putting_off = λ inc status job is off. paused (spends (begun c)) (spent (begun c) h);
      refusing = λ inc status job is counts off. call-answered (spends (begun c)) (answer_of status) None (spent (begun c) h);
      renewal_refused = λ inc status job is off. spent (begun c) h;
      push_refused =
          λ who seq file block first last base body inc status job asks is off. push-lost file
          (unbound (record { file = file; block = block; first = first; last = last; body = body }) inc status (ap push_in asks) is off);
    }

    -- the reply to the request under way keeps it
    pub reply-keeps : fits_job ticket.job ticket.request ≡ true → reply_counts r ticket ≡ true → Mid (replied (begun c) number ticket r)
    reply-keeps fits counts = replied-cases c number ticket r Mid fits counts cases

  -- ---- a notice

  same-waiting : (c : Client) (file : ℕ)
      → (is_clean (cancels (begun c) file).client file ≡ is_clean c file)
      × ((p : Push) → IsWaiting (cancels (begun c) file).client.dirty (cancels (begun c) file).client.push p → IsWaiting c.dirty c.push p)
  unfolding cancels
  same-waiting c file = (refl, λ p waits. waits)

  -- a notice keeps it
  pub notice-keeps : (c : Client) (file : ℕ) (tag : Tag) → Mid (begun c) → Mid (evicted (cancels (begun c) file) file tag)
  notice-keeps c file tag h =
      let t : ClientStep = cancels (begun c) file in
      let a : Mid t = ticket-cancelled (begun c) file h in
      let k = same-waiting c file in
      evicted-cases t file tag Mid (record {
        clean = λ clean. vacated t file tag (λ p waits on. none-waiting file c.dirty c.push p (sym k.0 ∙ clean) (k.1 p waits) on) a;
        waiting = λ dirty. notice-noted t file tag a;
      })
