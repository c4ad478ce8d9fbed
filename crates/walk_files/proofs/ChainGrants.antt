-- What a grant, and the answer to a push, leave of the chains of a client.
use Rattle.std.proofs.Common.{◌≡◌, ℕ, ◌+◌, Bool, true, false, not, ◌&&◌, List, Option, Some, None, refl, sym, subst, ap, ◌∙◌, arith}
use Rattle.nq_base.specs.declared.Answer.{Answer}
use Rattle.nq_base.specs.declared.Grant.{Grant}
use Rattle.nq_base.specs.declared.Tag.{Tag}
use Rattle.walk_files.proofs.ChainFacts.{file_written}
use Rattle.walk_files.proofs.ChainHears.{mid-holds, mid-loses}
use Rattle.walk_files.proofs.ChainLists.{was-dropped, clean-lost}
use Rattle.walk_files.proofs.ChainMoves.{Mid, Ready, grant-leases, mid-drops, mid-calls}
use Rattle.walk_files.proofs.ChainSends.{view_of, MidOf, mid-answers}
use Rattle.walk_steps.proofs.PartCases.{answers-call-cases, vacates-noticed-cases, reports-cases, if-broken-cases, takes-optional-cases}
use Rattle.walk_steps.proofs.PartCases.{lease-done-cases, then-caches-cases, caches-push-cases, vacates-if-clean-cases}
use Rattle.walk_steps.proofs.ClientMoves.{some-same, none-some}
use Rattle.nq_model.specs.protocol.Client.{ClientStep, Lease, UnderWay, lease_on, drop_lease, notice_on, is_clean}
use Rattle.nq_model.specs.protocol.Hear.{vacates_lease, vacates_noticed, loses, without_lease, push_refused, breaks, breaks_chain, holds, takes_grant}
use Rattle.nq_model.specs.protocol.Hear.{takes_optional, answers_call, caches_block, then_caches, read_done, with_through, marks_through, lease_done}
use Rattle.nq_model.specs.protocol.Hear.{knows_revision, ends_push, caches_push, push_done, pauses}
use Rattle.nq_model.specs.protocol.Message.{Packet}
use Rattle.nq_model.specs.protocol.Server.{Server}
use Rattle.nq_model.specs.protocol.Settle.{answers, names_losses, ticket_is_for_call}
use Rattle.nq_model.specs.protocol.Table.{tag_below}

module _ (s : Server) (ps : List Packet) where
  free-idle : (t : ClientStep) → t.client.ticket ≡ None → ticket_is_for_call t.client.ticket ≡ false
  free-idle t free = ap ticket_is_for_call free

  -- the call is answered, while no request is under way
  pub mid-answered : (t : ClientStep) (answer : Answer) (by : Option ℕ) → t.client.ticket ≡ None → MidOf s ps t → MidOf s ps (answers_call t answer by)
  mid-answered t answer by free h = answers-call-cases t answer by (MidOf s ps) (λ none. h) (λ u e. mid-answers s ps t u.q answer by (free-idle t free) h)

  -- ---- a grant is taken

  record Taking (t : ClientStep) (file : ℕ) (g : Grant) (sent : ℕ) : Type 0 where
    mid : MidOf s ps t
    ready : Ready s (view_of t) file g sent
    free : t.client.ticket ≡ None
    clean : is_clean t.client file ≡ true

  taking-loses : (t : ClientStep) (file : ℕ) (g : Grant) (sent : ℕ) → t.client.ticket ≡ None → Ready s (view_of t) file g sent → MidOf s ps t
      → Taking (loses t file) file g sent
  unfolding loses
  taking-loses t file g sent free ready h = record {
    mid = subst (λ o. Mid s ps (record (view_of (loses t file)) { ticket = o })) (sym free) (mid-loses s ps (view_of t) file free h);
    ready = record { fits = ready.fits; live = ready.live };
    free = free;
    clean = clean-lost file t.client.dirty t.client.push;
  }

  taking-vacates : (t : ClientStep) (file : ℕ) (g : Grant) (sent : ℕ) (tag : Tag) → Taking t file g sent → Taking (vacates_lease t file tag) file g sent
  unfolding vacates_lease
  taking-vacates t file g sent tag k = record {
    mid = vacated (mid-drops s ps (view_of t) file k.clean k.mid);
    ready = record { fits = grant-leases (drop_lease file t.client.leases) (was-dropped file t.client.leases file) k.ready.fits; live = k.ready.live };
    free = k.free;
    clean = k.clean;
  } where
    vacated : Mid s ps (record (view_of t) { leases = drop_lease file t.client.leases })
        → Mid s ps (record (view_of t) { xid = t.client.xid + 1; leases = drop_lease file t.client.leases })
    vacated h =
        record {
          held = h.held;
          given = h.given;
          writes = h.writes;
          line = h.line;
          live = h.live;
          fresh = λ x a told inc. let below = h.fresh x a told
              inc in omega arith;
        }

  taking-told : (t : ClientStep) (file : ℕ) (g : Grant) (sent q : ℕ) → Taking t file g sent → Taking (names_losses t q file) file g sent
  unfolding answers
  taking-told t file g sent q k = record {
    mid = mid-calls s ps (view_of t) None (free-idle t k.free) (λ u e. none-some u e) k.mid;
    ready = record { fits = k.ready.fits; live = k.ready.live };
    free = k.free;
    clean = k.clean;
  }

  taking-breaks : (t : ClientStep) (file : ℕ) (g : Grant) (sent : ℕ) → t.client.ticket ≡ None → Ready s (view_of t) file g sent → MidOf s ps t
      → Taking (breaks_chain t file) file g sent
  taking-breaks t file g sent free ready h =
      let lost = taking-loses t file g sent free ready h in
      let gone = vacates-noticed-cases (loses t file) file (notice_on file t.client.notices) (λ t. Taking t file g sent) (λ e. lost)
      (λ n e. taking-vacates (loses t file) file g sent n.tag lost) in
      reports-cases (vacates_noticed (loses t file) file (notice_on file t.client.notices)) file (λ t. Taking t file g sent) (λ e. gone)
      (λ u e other. gone) (λ u e told. taking-told _ file g sent u.q gone)

  mid-held : (t : ClientStep) (file : ℕ) (g : Grant) (sent : ℕ) → t.client.ticket ≡ None → Ready s (view_of t) file g sent
      → (is_clean t.client file ≡ false → (l : Lease) → lease_on file t.client.leases ≡ Some l → tag_below l.tag g.since ≡ false) → MidOf s ps t
      → MidOf s ps (holds t file g sent)
  unfolding holds
  mid-held t file g sent free ready whole h = mid-holds s ps (view_of t) file g sent free ready whole h

  not-broken : (o : Option Lease) (g : Grant) (clean : Bool) → (breaks g o && not clean) ≡ false → clean ≡ false → (l : Lease) → o ≡ Some l
      → tag_below l.tag g.since ≡ false
  not-broken None g clean e u l is = none-some l is
  not-broken (Some m) g true e u l is = absurd (cc)
  not-broken (Some m) g false e u l is = subst (λ z. tag_below z.tag g.since ≡ false) (some-same m l is) (first (tag_below m.tag g.since) e)
    where
      first : (b : Bool) → (b && true) ≡ false → b ≡ false
      first true e = cc
      first false e = refl

  mid-takes : (t : ClientStep) (file : ℕ) (g : Grant) (sent : ℕ) → t.client.ticket ≡ None → Ready s (view_of t) file g sent → MidOf s ps t
      → MidOf s ps (takes_grant t file g sent)
  mid-takes t file g sent free ready h = if-broken-cases t file g (λ t. MidOf s ps (holds t file g sent))
      (λ whole. mid-held t file g sent free ready (λ u l e. not-broken (lease_on file t.client.leases) g (is_clean t.client file) whole u l e) h)
      (λ lease e broken dirty. let k = taking-breaks t file g sent free ready h in
      mid-held (breaks_chain t file) file g sent k.free k.ready (λ u. let clean = k.clean in absurd (cc)) k.mid)

  -- the ticket after a grant was taken
  takes-free : (t : ClientStep) (file : ℕ) (g : Grant) (sent : ℕ) → t.client.ticket ≡ None → Ready s (view_of t) file g sent → MidOf s ps t
      → (takes_grant t file g sent).client.ticket ≡ None
  unfolding holds
  takes-free t file g sent free ready h =
      if-broken-cases t file g (λ t. (holds t file g sent).client.ticket ≡ None) (λ whole. free)
      (λ lease e broken dirty. (taking-breaks t file g sent free ready h).free)

  -- a grant is taken, if there is one
  pub record IsTaken (t : ClientStep) : Type 0 where
    pub mid : MidOf s ps t
    pub free : t.client.ticket ≡ None

  pub mid-takes-optional : (t : ClientStep) (file : ℕ) (o : Option Grant) (sent : ℕ) → t.client.ticket ≡ None
      → ((g : Grant) → o ≡ Some g → Ready s (view_of t) file g sent) → MidOf s ps t → IsTaken (takes_optional t file o sent)
  mid-takes-optional t file o sent free ready h =
      takes-optional-cases t file o sent IsTaken (λ e. record { mid = h; free = free })
      (λ g e. record { mid = mid-takes t file g sent free (ready g e) h; free = takes-free t file g sent free (ready g e) h })

  taken-caches : (t : ClientStep) (file block : ℕ) (body : List ℕ) → IsTaken t → IsTaken (caches_block t file block body)
  unfolding caches_block
  taken-caches t file block body k = record { mid = k.mid; free = k.free }

  pub mid-read : (t : ClientStep) (file block : ℕ) (body : List ℕ) (o : Option Grant) (sent number : ℕ) → t.client.ticket ≡ None
      → ((g : Grant) → o ≡ Some g → Ready s (view_of t) file g sent) → MidOf s ps t → MidOf s ps (read_done t file block body o sent number)
  mid-read t file block body o sent number free ready h =
      let taken = mid-takes-optional t file o sent free ready h in
      let k = then-caches-cases (takes_optional t file o sent) file block body o IsTaken
      (λ e. taken-caches (takes_optional t file o sent) file block body taken) (λ e. taken) in
      mid-answered (then_caches (takes_optional t file o sent) file block body o) _ (Some number) k.free k.mid

  -- ---- the call's lease

  -- a grant was taken for the call's write to a clean file
  record IsLeased (t : ClientStep) (file : ℕ) (u : UnderWay) : Type 0 where
    taken : IsTaken t
    called : t.client.call ≡ Some u
    clean : is_clean t.client file ≡ true

  and-clean : (b c : Bool) → c ≡ true → (b && not c) ≡ false
  and-clean true true e = refl
  and-clean false true e = refl
  and-clean b false e = absurd (cc)

  whole-grant : (t : ClientStep) (file : ℕ) (g : Grant) (sent : ℕ) → is_clean t.client file ≡ true → holds t file g sent ≡ takes_grant t file g sent
  whole-grant t file g sent clean = let e = and-clean (breaks g (lease_on file t.client.leases)) (is_clean t.client file) clean in rw e refl

  leased-holds : (t : ClientStep) (file : ℕ) (g : Grant) (sent : ℕ) (u : UnderWay) → t.client.ticket ≡ None → Ready s (view_of t) file g sent
      → t.client.call ≡ Some u → is_clean t.client file ≡ true → MidOf s ps t → IsLeased (holds t file g sent) file u
  unfolding holds
  leased-holds t file g sent u free ready called clean h =
      record { taken = record { mid = mid-held t file g sent free ready (λ dirty. absurd (cc)) h; free = free }; called = called; clean = clean }

  is-leased : (t : ClientStep) (file : ℕ) (o : Option Grant) (sent : ℕ) (u : UnderWay) → t.client.ticket ≡ None
      → ((g : Grant) → o ≡ Some g → Ready s (view_of t) file g sent) → t.client.call ≡ Some u → is_clean t.client file ≡ true → MidOf s ps t
      → IsLeased (takes_optional t file o sent) file u
  is-leased t file o sent u free ready called clean h = takes-optional-cases t file o sent (λ t. IsLeased t file u)
      (λ e. record { taken = record { mid = h; free = free }; called = called; clean = clean })
      (λ g e. subst (λ t. IsLeased t file u) (whole-grant t file g sent clean) (leased-holds t file g sent u free (ready g e) called clean h))

  through-marks : (t : ClientStep) (file : ℕ) (u : UnderWay) → file_written u.call ≡ Some file → IsLeased t file u → MidOf s ps (marks_through true t)
  unfolding marks_through
  through-marks t file u writes k = mid-calls s ps (view_of t) (with_through true t.client.call) (free-idle t k.taken.free) marked k.taken.mid
    where
      marked : (v : UnderWay) → with_through true t.client.call ≡ Some v → v.through ≡ true
          → (f : ℕ) × (file_written v.call ≡ Some f) × (is_clean t.client f ≡ true)
      marked v e on =
          let one : record u { through = true } ≡ v = some-same (record u { through = true }) v (sym (ap (with_through true) k.called) ∙ e) in
          (file, subst (λ z. file_written z.call ≡ Some file) one writes, k.clean)

  pub mid-leased : (t : ClientStep) (file : ℕ) (o : Option Grant) (sent : ℕ) (u : UnderWay) → t.client.ticket ≡ None
      → ((g : Grant) → o ≡ Some g → Ready s (view_of t) file g sent) → t.client.call ≡ Some u → file_written u.call ≡ Some file
      → is_clean t.client file ≡ true → MidOf s ps t → MidOf s ps (lease_done t file o sent)
  mid-leased t file o sent u free ready called writes clean h =
      let k = is-leased t file o sent u free ready called clean h in
      lease-done-cases t file o sent (MidOf s ps) (λ caching. k.taken.mid) (λ other. through-marks (takes_optional t file o sent) file u writes k)

  -- a write is not to go through any more, and the client pauses
  pub mid-pauses : (t : ClientStep) → t.client.ticket ≡ None → MidOf s ps t → MidOf s ps (pauses t)
  unfolding pauses marks_through
  mid-pauses t free h = mid-calls s ps (view_of t) (with_through false t.client.call) (free-idle t free) (λ v e on. absurd (off t.client.call v e on)) h
    where
      off : (o : Option UnderWay) (v : UnderWay) → with_through false o ≡ Some v → v.through ≡ true → ⊥
      off None v e on = none-some v e
      off (Some u) v e on =
          let one : record u { through = false } ≡ v = some-same (record u { through = false }) v e in
          let no_through : v.through ≡ false = ap (λ z. z.through) (sym one) in cc

  -- ---- a push

  mid-cached : (t : ClientStep) (file block : ℕ) (body : List ℕ) → MidOf s ps t → MidOf s ps (caches_block t file block body)
  unfolding caches_block
  mid-cached t file block body h = h

  stored-caches : (t : ClientStep) (file block : ℕ) (body : List ℕ) → MidOf s ps t → MidOf s ps (caches_push t file block body)
  stored-caches t file block body h = caches-push-cases t file block body (MidOf s ps) (λ dirty. h) (λ none. mid-cached t file block body h)

  pub mid-vacates : (t : ClientStep) (file : ℕ) (tag : Tag) → is_clean t.client file ≡ true → MidOf s ps t → MidOf s ps (vacates_lease t file tag)
  unfolding vacates_lease
  mid-vacates t file tag clean h = vacated (mid-drops s ps (view_of t) file clean h)
    where
      vacated : Mid s ps (record (view_of t) { leases = drop_lease file t.client.leases })
          → Mid s ps (record (view_of t) { xid = t.client.xid + 1; leases = drop_lease file t.client.leases })
      vacated h =
          record {
            held = h.held;
            given = h.given;
            writes = h.writes;
            line = h.line;
            live = h.live;
            fresh = λ x a told inc. let below = h.fresh x a told
                inc in omega arith;
          }

  -- a push was done, and told this revision
  pub mid-pushed : (t : ClientStep) (file block : ℕ) (body : List ℕ) (rev : ℕ) → MidOf s ps (knows_revision (ends_push t) file rev)
      → MidOf s ps (push_done t file block body rev)
  mid-pushed t file block body rev h =
      let k = stored-caches (knows_revision (ends_push t) file rev) file block body h in
      vacates-if-clean-cases (caches_push (knows_revision (ends_push t) file rev) file block body) file (MidOf s ps) k
      (λ n clean e. mid-vacates _ file n.tag clean k)

  -- a push was refused
  record IsLost (t : ClientStep) (file : ℕ) : Type 0 where
    mid : MidOf s ps t
    free : t.client.ticket ≡ None
    clean : is_clean t.client file ≡ true

  is-lost : (t : ClientStep) (file : ℕ) → t.client.ticket ≡ None → MidOf s ps t → IsLost (loses t file) file
  unfolding loses
  is-lost t file free h = record {
    mid = subst (λ o. Mid s ps (record (view_of (loses t file)) { ticket = o })) (sym free) (mid-loses s ps (view_of t) file free h);
    free = free;
    clean = clean-lost file t.client.dirty t.client.push;
  }

  lost-without : (t : ClientStep) (file : ℕ) → IsLost t file → IsLost (without_lease t file) file
  unfolding without_lease
  lost-without t file k = record { mid = mid-drops s ps (view_of t) file k.clean k.mid; free = k.free; clean = k.clean }

  lost-vacates : (t : ClientStep) (file : ℕ) (tag : Tag) → IsLost t file → IsLost (vacates_lease t file tag) file
  unfolding vacates_lease
  lost-vacates t file tag k = record { mid = mid-vacates t file tag k.clean k.mid; free = k.free; clean = k.clean }

  lost-named : (t : ClientStep) (file q : ℕ) → IsLost t file → MidOf s ps (names_losses t q file)
  unfolding answers
  lost-named t file q k = mid-calls s ps (view_of t) None (free-idle t k.free) (λ u e. none-some u e) k.mid

  pub mid-refused : (t : ClientStep) (file : ℕ) → t.client.ticket ≡ None → MidOf s ps t → MidOf s ps (push_refused t file)
  mid-refused t file free h =
      let lost = lost-without (loses t file) file (is-lost t file free h) in
      let gone = vacates-noticed-cases (without_lease (loses t file) file) file (notice_on file t.client.notices) (λ t. IsLost t file) (λ e. lost)
      (λ n e. lost-vacates _ file n.tag lost) in
      reports-cases (vacates_noticed (without_lease (loses t file) file) file (notice_on file t.client.notices)) file (MidOf s ps) (λ e. gone.mid)
      (λ u e other. gone.mid) (λ u e told. lost-named _ file u.q gone)
