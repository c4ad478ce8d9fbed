-- A client that has no open call: no lease over delayed writes is renewed, so each ends as soon as it was to end.
use Rattle.std.proofs.Common.{◌≡◌, ◌≢◌, ◌≤◌, ◌⊎◌, ℕ, ◌+◌, Bool, true, false, not, ◌&&◌, List, Option, Some, None, refl, sym, subst, ap, ◌∙◌, arith, inl, inr}
use Rattle.std.specs.Prelude.{is_some}
use Rattle.nq_base.specs.declared.Grant.{Grant}
use Rattle.nq_base.specs.declared.Push.{Push}
use Rattle.nq_base.specs.declared.Refusal.{Refusal}
use Rattle.nq_base.specs.declared.Reply.{Reply}
use Rattle.nq_base.specs.declared.Request.{Request}
use Rattle.nq_base.specs.declared.Tag.{Tag}
use Rattle.nq_base.specs.declared.Want.{Want}
use Rattle.nq_base.specs.declared.Who.{Who}
use Rattle.nq_model.specs.protocol.Client.{Client, ClientStep, Lease, lease_on, drop_lease, notice_on, first_dirty, dirty_at, is_clean, is_clean_in, Job}
use Rattle.nq_model.specs.protocol.Client.{attaching, for_call, renewing, pushing, Notice, Ticket, UnderWay, begun}
use Rattle.nq_model.specs.protocol.ClientStep.{client_tick, sends_again, at_time}
use Rattle.nq_model.specs.protocol.Hear.{hear, granted_lease, breaks, is_put_off, vacates_lease, vacates_noticed, loses, reports_to, without_lease}
use Rattle.nq_model.specs.protocol.Hear.{push_refused, breaks_chain, holds, takes_grant, takes_optional, caches_block, knows_revision, with_through}
use Rattle.nq_model.specs.protocol.Hear.{marks_through, ends_push, caches_push, push_done, spends, attached, pauses, done_renewal, done_push, done}
use Rattle.nq_model.specs.protocol.Hear.{refused_push, refused, replied, cancels, notes_notice, evicted}
use Rattle.nq_model.specs.protocol.Message.{Message}
use Rattle.nq_model.specs.protocol.Send.{sends_request, after_seq, after_number, takes_push, gives_up, send_next}
use Rattle.nq_model.specs.protocol.Settle.{settle, settle_under_way}
use Rattle.nq_model.proofs.ClientLists.{lease-before-drop, lease-after-put}
use Rattle.std.proofs.lemmas.Bool.{and_parts}
use Rattle.walk_files.proofs.ChainLists.{unclean-pushed, unclean-lost, unclean-ended}
use Rattle.walk_steps.proofs.ClientMoves.{some-same, none-some, keeps-or-cancels}
use Rattle.walk_steps.proofs.SendCases.{send-cases}
use Rattle.walk_steps.proofs.StepCases.{tick-cases, evicted-cases, heard-cases}
use Rattle.walk_steps.proofs.Rows.{choice}

-- a request is none of a call, and if it renews a lease the file is clean
pub record IsIdle (dirty : List Push) (push : Option Push) (job : Job) (request : Request) : Type 0 where
  pub no_call : job ≡ for_call → ⊥
  pub clean : job ≡ renewing → (who : Who) (file : ℕ) (want : Want) → request ≡ Request.GetLease who file want → is_clean_in file dirty push ≡ true

-- no call is open, and leases over delayed writes end within so many ticks
pub record EndsWithin (left : ℕ) (c : Client) : Type 0 where
  pub answered : c.call ≡ None
  pub idle : (t : Ticket) → c.ticket ≡ Some t → IsIdle c.dirty c.push t.job t.request
  pub ends : (file : ℕ) (l : Lease) → is_clean_in file c.dirty c.push ≡ false → lease_on file c.leases ≡ Some l → l.expiry ≤ c.now + left

-- fewer files are unclean
abbrev Fewer : (dirty : List Push) (push : Option Push) (less : List Push) (going : Option Push) → Type 0
Fewer dirty push less going = (file : ℕ) → is_clean_in file less going ≡ false → is_clean_in file dirty push ≡ false

still-clean : (dirty : List Push) (push : Option Push) (less : List Push) (going : Option Push) → Fewer dirty push less going → (file : ℕ)
    → is_clean_in file dirty push ≡ true → is_clean_in file less going ≡ true
still-clean dirty push less going fewer file clean = by (is_clean_in file less going) refl
  where
    by : (b : Bool) → is_clean_in file less going ≡ b → b ≡ true
    by true e = refl
    by false e = let no = fewer file e in absurd (cc)

still-idle : (dirty : List Push) (push : Option Push) (less : List Push) (going : Option Push) (job : Job) (request : Request) → Fewer dirty push less
    going → IsIdle dirty push job request → IsIdle less going job request
still-idle dirty push less going job request fewer h = record {
  no_call = h.no_call;
  clean = λ e who file want is. still-clean dirty push less going fewer file (h.clean e who file want is);
}

-- the leases of a client are among those of another
abbrev Among : List Lease → List Lease → Type 0
Among less leases = (file : ℕ) (l : Lease) → lease_on file less ≡ Some l → lease_on file leases ≡ Some l

module _ (left : ℕ) where
  abbrev Rest : ClientStep → Type 0
  Rest t = EndsWithin left t.client

  -- a step in which leases go, files come to be clean, and the request under way is the same or none
  less : (t u : ClientStep) → u.client.call ≡ t.client.call → u.client.now ≡ t.client.now → ((v : Ticket) → u.client.ticket ≡ Some v → t.client.ticket
      ≡ Some v) → Among u.client.leases t.client.leases → Fewer t.client.dirty t.client.push u.client.dirty u.client.push → Rest t → Rest u
  less t u called time asks among fewer h = record {
    answered = called ∙ h.answered;
    idle = λ v e. still-idle t.client.dirty t.client.push u.client.dirty u.client.push v.job v.request fewer (h.idle v (asks v e));
    ends = λ file l unclean on. let late = h.ends file l (fewer file unclean) (among file l on) in omega arith;
  }

  dropped : (file : ℕ) (leases : List Lease) → Among (drop_lease file leases) leases
  dropped file leases f l on = (lease-before-drop file f leases l on).1

  settled : (t : ClientStep) → Rest t → Rest (settle t)
  settled t h = subst (λ u. Rest u) (sym (ap (settle_under_way t) h.answered)) h

  -- ---- the next request

  requests : (t u : ClientStep) (job : Job) (request : Request) → u.client.call ≡ t.client.call → u.client.now ≡ t.client.now → Among u.client.leases
      t.client.leases → Fewer t.client.dirty t.client.push u.client.dirty u.client.push → IsIdle u.client.dirty u.client.push job request → Rest t
      → Rest (sends_request u job request)
  unfolding sends_request
  requests t u job request called time among fewer new h = record {
    answered = called ∙ h.answered;
    idle = λ v e. subst (λ (x : Ticket). IsIdle u.client.dirty u.client.push x.job x.request) (some-same _ v e) new;
    ends = λ file l unclean on. let late = h.ends file l (fewer file unclean) (among file l on) in omega arith;
  }

  sends : (in_tick : Bool) (t : ClientStep) → Rest t → Rest (send_next in_tick t)
  unfolding after_seq after_number takes_push gives_up
  sends in_tick t h = send-cases in_tick t Rest (record {
    stays_asking = λ ticket asks. h;
    stays = λ free nothing. h;
    pushing = λ file p free first of. requests t (after_seq (takes_push t p)) pushing _ refl refl (λ f l on. on)
        (λ f unclean. unclean-pushed f p t.client.dirty t.client.push (subst (λ n. first_dirty n t.client.dirty ≡ Some p) (sym of) first) unclean)
        (record { no_call = λ e. absurd (cc); clean = λ e. absurd (cc) }) h;
    creating = λ u name blocks free is. none-some u (sym h.answered ∙ free.called);
    looking_up = λ u name free is. none-some u (sym h.answered ∙ free.called);
    getting_attributes = λ u file free is. none-some u (sym h.answered ∙ free.called);
    reading = λ u file block free is. none-some u (sym h.answered ∙ free.called);
    fetching = λ u file block free is. none-some u (sym h.answered ∙ free.called);
    writing = λ u file block body free is through. none-some u (sym h.answered ∙ free.called);
    leasing = λ u file block body free is no alone. none-some u (sym h.answered ∙ free.called);
    putting = λ u file block body free is first. none-some u (sym h.answered ∙ free.called);
    resizing = λ u file blocks free is clean. none-some u (sym h.answered ∙ free.called);
    removing = λ u file free is clean. none-some u (sym h.answered ∙ free.called);
    renewing = λ file lease tick free nothing unpaused renewed held of clean quiet. requests t t renewing _ refl refl (λ f l on. on) (λ f unclean. unclean)
        (record {
          no_call = λ e. absurd (cc);
          clean = λ e who f want is. subst (λ n. is_clean_in n t.client.dirty t.client.push ≡ true) (sym of
              ∙ asked-file _ who lease.file f _ want is) clean;
        }) h;
  })
    where
      asked-file : (v w : Who) (a b : ℕ) (x y : Want) → Request.GetLease v a x ≡ Request.GetLease w b y → a ≡ b
      asked-file v w a b x y e = cc

  -- ---- what a reply or a notice brings

  vacates : (t : ClientStep) (file : ℕ) (tag : Tag) → Rest t → Rest (vacates_lease t file tag)
  unfolding vacates_lease
  vacates t file tag h = less t (vacates_lease t file tag) refl refl (λ v e. e) (dropped file t.client.leases) (λ f unclean. unclean) h

  noticed : (t : ClientStep) (file : ℕ) (o : Option Notice) → Rest t → Rest (vacates_noticed t file o)
  noticed t file None h = h
  noticed t file (Some n) h = vacates t file n.tag h

  reported : (t : ClientStep) (file : ℕ) (o : Option UnderWay) → t.client.call ≡ o → Rest t → Rest (reports_to t file o)
  reported t file None is h = h
  reported t file (Some u) is h = none-some u (sym h.answered ∙ is)

  refused-push : (t : ClientStep) (file : ℕ) → Rest t → Rest (push_refused t file)
  unfolding loses without_lease
  refused-push t file h =
      let free = without_lease (loses t file) file in
      let gone = vacates_noticed free file (notice_on file t.client.notices) in
      let lost : Rest (without_lease (loses t file) file) = less t (without_lease (loses t file) file) refl refl (λ v e. e)
      (dropped file t.client.leases) (λ f unclean. unclean-lost file f t.client.dirty t.client.push unclean) h in
      reported gone file gone.client.call refl (noticed free file (notice_on file t.client.notices) lost)

  held : (t : ClientStep) (file : ℕ) (g : Grant) (sent : ℕ) → is_clean_in file t.client.dirty t.client.push ≡ true → Rest t → Rest (holds t file g sent)
  unfolding holds granted_lease
  held t file g sent clean h = record {
    answered = h.answered;
    idle = h.idle;
    ends = λ f l unclean on. by f l unclean (lease-after-put (granted_lease file g sent) f t.client.leases l on);
  }
    where
      by : (f : ℕ) (l : Lease) → is_clean_in f t.client.dirty t.client.push ≡ false → ((f ≡ file) × (l ≡ granted_lease file g sent))
          ⊎ ((f ≢ file) × (lease_on f t.client.leases ≡ Some l)) → l.expiry ≤ t.client.now + left
      by f l unclean (inl p) = let yes : is_clean_in f t.client.dirty t.client.push ≡ true = subst (λ n. is_clean_in n t.client.dirty t.client.push
          ≡ true) (sym p.0) clean in absurd (cc)
      by f l unclean (inr p) = h.ends f l unclean p.1

  taken : (t : ClientStep) (file : ℕ) (g : Grant) (sent : ℕ) → is_clean_in file t.client.dirty t.client.push ≡ true → Rest t → Rest (takes_grant t file g sent)
  taken t file g sent clean h =
      choice (λ (u : ClientStep). Rest (holds u file g sent)) (breaks g (lease_on file t.client.leases) && not (is_clean t.client file))
      (breaks_chain t file) t (λ e. absurd (whole (and_parts _ _ e).1)) (λ e. held t file g sent clean h)
    where
      whole : not (is_clean t.client file) ≡ true → ⊥
      whole e = let no : not (is_clean t.client file) ≡ false = ap not clean in absurd (cc)

  optional : (t : ClientStep) (file : ℕ) (o : Option Grant) (sent : ℕ) → is_clean_in file t.client.dirty t.client.push ≡ true → Rest t
      → Rest (takes_optional t file o sent)
  optional t file None sent clean h = h
  optional t file (Some g) sent clean h = taken t file g sent clean h

  pushed : (t : ClientStep) (file block : ℕ) (body : List ℕ) (rev : ℕ) → Rest t → Rest (push_done t file block body rev)
  unfolding caches_block knows_revision ends_push
  pushed t file block body rev h =
      let known = knows_revision (ends_push t) file rev in
      let u = caches_push known file block body in
      let knew : Rest known = less t known refl refl (λ v e. e) (λ f l on. on) (λ f unclean. unclean-ended f t.client.dirty t.client.push unclean) h in
      let kept : Rest u = choice Rest (is_some (dirty_at file block t.client.dirty)) known (caches_block known file block body) (λ e. knew)
      (λ e. less known (caches_block known file block body) refl refl (λ v e. e) (λ f l on. on) (λ f unclean. unclean) knew) in
      choice Rest (is_clean u.client file) (vacates_noticed u file (notice_on file u.client.notices)) u
      (λ e. noticed u file (notice_on file u.client.notices) kept) (λ e. kept)

  renewed : (t : ClientStep) (sent : ℕ) (request : Request) (r : Reply) → ((who : Who) (file : ℕ) (want : Want) → request ≡ Request.GetLease who file
      want → is_clean_in file t.client.dirty t.client.push ≡ true) → Rest t → Rest (done_renewal t sent request r)
  renewed t sent (Request.GetLease who file want) (Reply.GetLease inc grant) clean h = optional t file grant sent (clean who file want refl) h
  renewed t sent request other clean h = h

  stored : (t : ClientStep) (request : Request) (r : Reply) → Rest t → Rest (done_push t request r)
  stored t (Request.Write who seq file block first last push body) (Reply.Write inc rev) h = pushed t file block body rev h
  stored t request other h = h

  finished : (t : ClientStep) (number : ℕ) (ticket : Ticket) (job : Job) (r : Reply) → IsIdle t.client.dirty t.client.push job ticket.request → Rest t
      → Rest (done t number ticket job r)
  unfolding attached
  finished t number ticket attaching r i h = less t (attached t) refl refl (λ v e. e) (λ f l on. on) (λ f unclean. unclean) h
  finished t number ticket for_call r i h = absurd (i.no_call refl)
  finished t number ticket renewing r i h = renewed t ticket.first ticket.request r (i.clean refl) h
  finished t number ticket pushing r i h = stored t ticket.request r h

  refuses-push : (t : ClientStep) (request : Request) → Rest t → Rest (refused_push t request)
  refuses-push t (Request.Write who seq file block first last push body) h = refused-push t file h
  refuses-push t other h = h

  paused : (t : ClientStep) → Rest t → Rest (pauses t)
  unfolding pauses marks_through
  paused t h = record { answered = ap (with_through false) h.answered; idle = h.idle; ends = h.ends }

  refusal : (t : ClientStep) (status : Refusal) (ticket : Ticket) (job : Job) → IsIdle t.client.dirty t.client.push job ticket.request → Rest t
      → Rest (refused t status ticket job)
  refusal t status ticket attaching i h = h
  refusal t status ticket for_call i h = absurd (i.no_call refl)
  refusal t status ticket renewing i h = choice Rest (is_put_off status) (pauses t) t (λ e. paused t h) (λ e. h)
  refusal t status ticket pushing i h = refuses-push t ticket.request h

  replies : (c : Client) (number : ℕ) (ticket : Ticket) (r : Reply) → c.ticket ≡ Some ticket → EndsWithin left c → Rest (replied (begun c) number ticket r)
  unfolding spends
  replies c number ticket r asks h = by r
    where
      spent : Rest (spends (begun c))
      spent = less (begun c) (spends (begun c)) refl refl (λ v e. none-some v e) (λ f l on. on) (λ f unclean. unclean) h

      i : IsIdle c.dirty c.push ticket.job ticket.request
      i = h.idle ticket asks

      by : (r : Reply) → Rest (replied (begun c) number ticket r)
      by (Reply.Refused inc status) = refusal (spends (begun c)) status ticket ticket.job i spent
      by other = finished (spends (begun c)) number ticket ticket.job other i spent

  evicts : (t : ClientStep) (file : ℕ) (tag : Tag) → Rest t → Rest (evicted t file tag)
  unfolding notes_notice
  evicts t file tag h = evicted-cases t file tag Rest (record {
    clean = λ e. vacates t file tag h;
    waiting = λ e. less t (notes_notice t file tag) refl refl (λ v e. e) (λ f l on. on) (λ f unclean. unclean) h;
  })

  -- ---- the steps

  pub hear-ends : (c : Client) (k : ℕ) (m : Message) (t : ClientStep) → hear c k m ≡ Some t → EndsWithin left c → Rest t
  unfolding cancels
  hear-ends c k m t hears h =
      heard-cases c k m t Rest hears (record {
        answered = λ xid r ticket is asks own inc counts. sends false (settle (replied (begun c) k ticket r)) (settled (replied (begun c) k ticket r)
            (replies c k ticket r asks h));
        noticed = λ xid file tag is older.
            let cut : Rest (cancels (begun c) file) = less (begun c) (cancels (begun c) file) refl refl
            (λ v e. (keeps-or-cancels file c.ticket v e).0) (λ f l on. on) (λ f unclean. unclean) h in
            let gone = evicted (cancels (begun c) file) file tag in
            sends false (settle gone) (settled gone (evicts (cancels (begun c) file) file tag cut));
      })

-- a tick brings the ends nearer
pub tick-ends : (left : ℕ) (c : Client) → EndsWithin (left + 1) c → EndsWithin left (client_tick c (c.now + 1)).client
unfolding sends_again at_time
tick-ends left c h =
    let at : EndsWithin left (begun (at_time c (c.now + 1))).client = record {
      answered = h.answered;
      idle = h.idle;
      ends = λ file l unclean on.
          let late = h.ends file l unclean on in omega arith;
    } in
    tick-cases c (c.now + 1) (λ (t : ClientStep). EndsWithin left t.client) (record {
      again = λ ticket asks long. record {
        answered = at.answered;
        idle = λ v e. subst (λ (x : Ticket). IsIdle c.dirty c.push x.job x.request)
            (some-same _ v e) (again-idle ticket (h.idle ticket asks));
        ends = at.ends;
      };
      quiet = λ ticket asks short. at;
      free = λ free. sends left true (settle (begun (at_time c (c.now + 1)))) (settled left (begun (at_time c (c.now + 1))) at);
    })
  where
    again-idle : (ticket : Ticket) → IsIdle c.dirty c.push ticket.job ticket.request → IsIdle c.dirty c.push (record ticket { last = c.now + 1 }).job
        (record ticket { last = c.now + 1 }).request
    again-idle ticket i = record { no_call = i.no_call; clean = i.clean }
