-- Where the tags of a client and of its mail come from: a client makes none, so each is one that it was told.
use Rattle.std.proofs.Common.{◌≡◌, ◌≢◌, ◌⊎◌, ℕ, ◌+◌, true, ◌&&◌, not, List, [], ◌∷◌, ◌++◌, Option, Some, None, refl, sym, subst, arith, inl, inr}
use Rattle.std.proofs.lemmas.Bool.{and_parts}
use Rattle.nq_base.specs.declared.Call.{Call}
use Rattle.nq_base.specs.declared.Grant.{Grant}
use Rattle.nq_base.specs.declared.Reply.{Reply}
use Rattle.nq_base.specs.declared.Request.{Request}
use Rattle.nq_base.specs.declared.Tag.{Tag}
use Rattle.nq_base.specs.declared.Who.{Who}
use Rattle.walk_steps.proofs.ClientCases.{Core, core_of, Closed, CanSend, Both}
use Rattle.walk_steps.proofs.ClientFacts.{Alone, fits_job}
use Rattle.nq_model.proofs.ClientLists.{lease-after-put, notice-before-drop, notice-after-put}
use Rattle.walk_steps.proofs.ClientMoves.{some-same, none-some, keeps-or-cancels}
use Rattle.walk_steps.proofs.ClientWalk.{Replying, reply-keeps, notice-keeps, call-keeps, tick-keeps}
use Rattle.walk_steps.proofs.Packets.{In, in-last, Told}
use Rattle.walk_steps.proofs.Rows.{choice, same-number}
use Rattle.walk_steps.proofs.TagFacts.{used-from, dropped-from}
use Rattle.walk_steps.proofs.Worlds.{IsAt}
use Rattle.nq_model.specs.protocol.Client.{Client, ClientStep, begun, Lease, Notice, Ticket, Job, lease_on, drop_lease, put_lease, used_lease, notice_on}
use Rattle.nq_model.specs.protocol.ClientStep.{client_call, client_tick, at_time, restart, starts, fresh_client}
use Rattle.nq_model.specs.protocol.Hear.{inc_of, is_reply_to, reply_counts, hear, hear_reply, hear_notice, hear_call, goes_on, replied, holds_later, evicted}
use Rattle.nq_model.specs.protocol.Hear.{cancels, granted_lease, noticed_tag, with_notice}
use Rattle.nq_model.specs.laws.LeaseInterval.{grant_in, requested_file}
use Rattle.nq_model.specs.protocol.Message.{Message, Packet, call, reply, error}
use Rattle.nq_model.specs.protocol.Table.{same_who, tag_below}

-- the tags of a message are such
pub record AllIn (T : Tag → Type 0) (m : Message) : Type 0 where
  pub vacated : (x : ℕ) (w : Who) (file : ℕ) (tag : Tag) → m ≡ call x (Request.Vacated w file tag) → T tag
  pub evicted : (x : ℕ) (w : Who) (file : ℕ) (tag : Tag) → m ≡ call x (Request.Evicted w file tag) → T tag
  pub granted : (x : ℕ) (a : Reply) (g : Grant) → m ≡ reply x a → grant_in a ≡ Some g → T g.tag × T g.since

-- the tags of leases and notices are such
pub record AllHeld (T : Tag → Type 0) (leases : List Lease) (notices : List Notice) : Type 0 where
  pub leased : (file : ℕ) (l : Lease) → lease_on file leases ≡ Some l → T l.tag
  pub noticed : (file : ℕ) (n : Notice) → notice_on file notices ≡ Some n → T n.tag

-- in the middle of a client's step
record Tagged (T : Tag → Type 0) (k : Core) : Type 0 where
  held : AllHeld T k.leases k.notices
  asks : (t : Ticket) → k.ticket ≡ Some t → AllIn T (call t.xid t.request)
  sends : (m : Message) → In k.sends m → AllIn T m

-- a request of a job names no tag of a lease
no-tags : (T : Tag → Type 0) (x : ℕ) (job : Job) (r : Request) → fits_job job r ≡ true → AllIn T (call x r)
no-tags T x job r fits = record {
  vacated = λ y w file tag e. absurd (not-vacated job w file tag (subst (λ q. fits_job job q ≡ true) (same x y r (Request.Vacated w file tag) e) fits));
  evicted = λ y w file tag e. absurd (not-evicted job w file tag (subst (λ q. fits_job job q ≡ true) (same x y r (Request.Evicted w file tag) e) fits));
  granted = λ y a g e. absurd (cc);
} where
  same : (x y : ℕ) (r s : Request) → call x r ≡ call y s → r ≡ s
  same x y r s e = cc

  not-vacated : (j : Job) (w : Who) (file : ℕ) (tag : Tag) → fits_job j (Request.Vacated w file tag) ≡ true → ⊥
  not-vacated Job.attaching w file tag f = absurd (cc)
  not-vacated Job.for_call w file tag f = absurd (cc)
  not-vacated Job.renewing w file tag f = absurd (cc)
  not-vacated Job.pushing w file tag f = absurd (cc)

  not-evicted : (j : Job) (w : Who) (file : ℕ) (tag : Tag) → fits_job j (Request.Evicted w file tag) ≡ true → ⊥
  not-evicted Job.attaching w file tag f = absurd (cc)
  not-evicted Job.for_call w file tag f = absurd (cc)
  not-evicted Job.renewing w file tag f = absurd (cc)
  not-evicted Job.pushing w file tag f = absurd (cc)

one-more : (T : Tag → Type 0) (ms : List Message) (m : Message) → AllIn T m → ((n : Message) → In ms n → AllIn T n) → (n : Message)
    → In (ms ++ m ∷ []) n → AllIn T n
one-more T ms m new old n i = case (in-last ms m n i)
  where
    case : In ms n ⊎ (m ≡ n) → AllIn T n
    case (inl there) = old n there
    case (inr is) = subst (AllIn T) is new

vacated-in : (T : Tag → Type 0) (x : ℕ) (w : Who) (file : ℕ) (tag : Tag) → T tag → AllIn T (call x (Request.Vacated w file tag))
vacated-in T x w file tag t = record {
  vacated = λ y v f u e. subst T (same y v f u e) t;
  evicted = λ y v f u e. absurd (cc);
  granted = λ y a g e. absurd (cc);
} where
  same : (y : ℕ) (v : Who) (f : ℕ) (u : Tag) → call x (Request.Vacated w file tag) ≡ call y (Request.Vacated v f u) → tag ≡ u
  same y v f u e = cc

module _ (T : Tag → Type 0) (Heard : ℕ → Tag → Type 0) (Given : ℕ → Grant → ℕ → Type 0) (heard : (file : ℕ) (tag : Tag) → Heard file tag → T tag)
    (given : (file : ℕ) (g : Grant) (sent : ℕ) → Given file g sent → T g.tag) where
  from-leases : (k : Core) (less : List Lease)
      → ((file : ℕ) (l : Lease) → lease_on file less ≡ Some l → (m : Lease) × (lease_on file k.leases ≡ Some m) × (l.tag ≡ m.tag)) → Tagged T k
      → Tagged T (record k { leases = less })
  from-leases k less from h = record {
    held = record {
      leased = λ file l e. let m = from file l e in subst T (sym m.2) (h.held.leased file m.0 m.1);
      noticed = h.held.noticed;
    };
    asks = h.asks;
    sends = h.sends;
  }

  vacating : (k : Core) (file : ℕ) (tag : Tag) → ((n : Notice) × (notice_on file k.notices ≡ Some n) × (tag ≡ n.tag)) ⊎ Heard file tag → Tagged T k → T tag
  vacating k file tag (inl n) h = subst T (sym n.2) (h.held.noticed file n.0 n.1)
  vacating k file tag (inr e) h = heard file tag e

  later : (k : Core) (file : ℕ) (tag : Tag) → Heard file tag → Tagged T k → (o : Option Notice) → notice_on file k.notices ≡ o → T (noticed_tag tag o)
  later k file tag e h None is = heard file tag e
  later k file tag e h (Some n) is = choice T (tag_below n.tag tag) tag n.tag (λ below. heard file tag e) (λ above. h.held.noticed file n is)

  noting : (k : Core) (f : ℕ) (v : Tag) → Heard f v → Tagged T k → (file : ℕ) (n : Notice) → notice_on file (with_notice f v k.notices) ≡ Some n → T n.tag
  noting k f v e h file n is = case (notice-after-put (record { file = f; tag = noticed_tag v (notice_on f k.notices) }) file k.notices n is)
    where
      case : ((file ≡ f) × (n ≡ record { file = f; tag = noticed_tag v (notice_on f k.notices) })) ⊎ ((file ≢ f) × (notice_on file k.notices ≡ Some n))
          → T n.tag
      case (inl p) = subst (λ z. T z.tag) (sym p.1) (later k f v e h (notice_on f k.notices) refl)
      case (inr p) = h.held.noticed file n p.1

  holding : (k : Core) (m : Lease) → T m.tag → Tagged T k → (file : ℕ) (l : Lease) → lease_on file (put_lease m k.leases) ≡ Some l → T l.tag
  holding k m t h file l is = case (lease-after-put m file k.leases l is)
    where
      case : ((file ≡ m.file) × (l ≡ m)) ⊎ ((file ≢ m.file) × (lease_on file k.leases ≡ Some l)) → T l.tag
      case (inl p) = subst (λ z. T z.tag) (sym p.1) t
      case (inr p) = h.held.leased file l p.1

  asking : (k : Core) (job : Job) (request : Request) → CanSend k job request → Tagged T k → (t : Ticket)
      → Some (record { xid = k.xid; first = k.now; last = k.now; request = request; job = job }) ≡ Some t → AllIn T (call t.xid t.request)
  asking k job request can h t e =
      subst (λ z. AllIn T (call z.xid z.request)) (some-same (record { xid = k.xid; first = k.now; last = k.now; request = request; job = job }) t e)
      (no-tags T k.xid job request can.fits)

  granting : (file : ℕ) (g : Grant) (sent : ℕ) → T g.tag → T (granted_lease file g sent).tag
  unfolding granted_lease
  granting file g sent t = t

  tagged-closed : Closed Heard Given (Tagged T)
  tagged-closed = record {
    uses = λ k file h. from-leases k (used_lease file k.leases) (used-from file k.leases) h;
    drops = λ k file h. from-leases k (drop_lease file k.leases) (dropped-from file k.leases) h;
    vacates = λ k file tag can h. record {
      held = record {
        leased = λ f l e. let m = dropped-from file k.leases f l e in subst T (sym m.2) (h.held.leased f m.0 m.1);
        noticed = λ f n e. h.held.noticed f n (notice-before-drop file f k.notices n e).1;
      };
      asks = h.asks;
      sends = one-more T k.sends (call k.xid (Request.Vacated k.who file tag)) (vacated-in T k.xid k.who file tag (vacating k file tag can.source h)) h.sends;
    };
    asks =
        λ k job request no_seq can h. record {
          held = h.held;
          asks = asking k job request can h;
          sends = one-more T k.sends (call k.xid request) (no-tags T k.xid job request can.fits)
              h.sends;
        };
    decides =
        λ k job request seq can h. record {
          held = h.held;
          asks = asking k job request can h;
          sends = one-more T k.sends (call k.xid request) (no-tags T k.xid job request can.fits)
              h.sends;
        };
    again = λ k t is h. record {
      held = h.held;
      asks = λ u e. subst (λ z. AllIn T (call z.xid z.request)) (some-same (record t { last = k.now }) u e) (h.asks t is);
      sends = one-more T k.sends (call t.xid t.request) (h.asks t is) h.sends;
    };
    holds =
        λ k file g sent e free unnoticed h. record {
          held = record { leased = holding k (granted_lease file g sent) (granting file g sent (given file g sent e)) h; noticed = h.held.noticed };
          asks = h.asks;
          sends = h.sends;
        };
    cancels = λ k file h. record { held = h.held; asks = λ t e. h.asks t (keeps-or-cancels file k.ticket t e).0; sends = h.sends };
    notes = λ k file tag e h. record { held = record { leased = h.held.leased; noticed = noting k file tag e h }; asks = h.asks; sends = h.sends };
  }

-- ---- after each step of a client

-- what a step leaves and sends
pub record Leaves (T : Tag → Type 0) (t : ClientStep) : Type 0 where
  pub held : AllHeld T t.client.leases t.client.notices
  pub sends : (m : Message) → In t.sends m → AllIn T m

abbrev pub LeavesIf : (T : Tag → Type 0) → Option ClientStep → Type 0
LeavesIf T None = Unit {0}
LeavesIf T (Some t) = Leaves T t

ends : (T : Tag → Type 0) (t : ClientStep) → Both (Tagged T) t → Leaves T t
ends T t b = record { held = b.core.held; sends = b.core.sends }

begins : (T : Tag → Type 0) (host : ℕ) (c : Client) (now : ℕ) → AllHeld T c.leases c.notices → Alone c → Tagged T (core_of (begun (at_time c now)))
unfolding at_time
begins T host c now held a = record { held = held; asks = λ t e. no-tags T t.xid t.job t.request (a.asking.ticketed t e).fits; sends = λ m i. absurd i }

begins-now : (T : Tag → Type 0) (c : Client) → AllHeld T c.leases c.notices → Alone c → Tagged T (core_of (begun c))
begins-now T c held a = record { held = held; asks = λ t e. no-tags T t.xid t.job t.request (a.asking.ticketed t e).fits; sends = λ m i. absurd i }

abbrev no-heard : ℕ → Tag → Type 0
no-heard file tag = ⊥

abbrev no-given : ℕ → Grant → ℕ → Type 0
no-given file g sent = ⊥

pub call-told : (T : Tag → Type 0) (c : Client) (op : Call) → Alone c → AllHeld T c.leases c.notices → Leaves T (client_call c op)
call-told T c op a h =
    ends T (client_call c op) (call-keeps (tagged-closed T no-heard no-given (λ file tag bad. absurd bad) (λ file g sent bad. absurd bad)) c op a
    (begins-now T c h a))

pub tick-told : (T : Tag → Type 0) (c : Client) → Alone c → AllHeld T c.leases c.notices → Leaves T (client_tick c (c.now + 1))
tick-told T c a h =
    ends T (client_tick c (c.now + 1))
    (tick-keeps (tagged-closed T no-heard no-given (λ file tag bad. absurd bad) (λ file g sent bad. absurd bad)) c (c.now + 1) (omega arith) a
    (begins T 0 c (c.now + 1) h a))

pub restart-told : (T : Tag → Type 0) (c : Client) → Leaves T (restart c)
unfolding starts fresh_client
restart-told T c = record {
  held = record { leased = λ file l e. none-some l e; noticed = λ file n e. none-some n e };
  sends = λ m i. case m i;
} where
  case : (m : Message) → In (restart c).sends m → AllIn T m
  case m (inl e) = subst (AllIn T) e (no-tags T 1 Job.attaching _ refl)
  case m (inr bad) = absurd bad

abbrev given-in : (T : Tag → Type 0) → Ticket → ℕ → Grant → ℕ → Type 0
given-in T t file g sent = (requested_file t.request ≡ Some file) × T g.tag

reply-told : (T : Tag → Type 0) (host : ℕ) (c : Client) (ps : List Packet) (number xid : ℕ) (r : Reply) (o : Option Ticket) → c.ticket ≡ o
    → AllIn T (reply xid r) → IsAt host c ps → Told ps host (reply xid r) → AllHeld T c.leases c.notices → LeavesIf T (hear_reply c number xid r o)
reply-told T host c ps number xid r None is names a sent h = tt
reply-told T host c ps number xid r (Some t) is names a sent h =
    choice (LeavesIf T) (is_reply_to c xid r t) (Some (goes_on (replied (begun c) number t r))) None
    (λ e.
    let k = and_parts _ _ e in
    let l = and_parts _ _ k.0 in
    ends T (goes_on (replied (begun c) number t r))
    (reply-keeps (tagged-closed T no-heard (given-in T t) (λ file tag bad. absurd bad) (λ file g at given. given.1)) c number t r
    (replying k.1 (same-number _ _ l.0) (same-number _ _ l.1))))
    (λ e. tt)
  where
    core : Tagged T (core_of (begun c))
    core = begins-now T c h a.alone

    replying : reply_counts r t ≡ true → xid ≡ t.xid → inc_of r ≡ c.who.inc → Replying (given-in T t) (Tagged T) c t r
    replying counts same inc = record {
      asked = is;
      counts = counts;
      alone = a.alone;
      spent = λ other. record { held = h; asks = λ u e. none-some u e; sends = core.sends };
      attached = λ job. record { held = h; asks = λ u e. none-some u e; sends = core.sends };
      brings =
          λ file on g grants. (
            (on, (names.granted xid r g refl grants).0),
            (a.mail.replied xid r (subst (λ n. Told ps n (reply xid r)) (sym a.here) sent) inc).wants t is (sym same) g grants file on,
          );
      only = λ file g at given. given.0;
    }

abbrev heard-in : (T : Tag → Type 0) → ℕ → Tag → Type 0
heard-in T file tag = T tag

notice-told : (T : Tag → Type 0) (c : Client) (w : Who) (file : ℕ) (tag : Tag) → T tag → Alone c → AllHeld T c.leases c.notices
    → LeavesIf T (hear_notice c w file tag)
notice-told T c w file tag t a h =
    choice (LeavesIf T) (same_who w c.who && not (holds_later tag (lease_on file c.leases))) (Some (goes_on (evicted (cancels (begun c) file) file tag))) None
    (λ e. ends T (goes_on (evicted (cancels (begun c) file) file tag))
    (notice-keeps (tagged-closed T (heard-in T) no-given (λ f v x. x) (λ f g sent bad. absurd bad)) c file tag t (λ g sent bad. bad) a
    (begins-now T c h a)))
    (λ e. tt)

called-told : (T : Tag → Type 0) (c : Client) (x : ℕ) (r : Request) → AllIn T (call x r) → Alone c → AllHeld T c.leases c.notices → LeavesIf T (hear_call c r)
called-told T c x (Request.Evicted w file tag) names a h = notice-told T c w file tag (names.evicted x w file tag refl) a h
called-told T c x other names a h = tt

pub hear-told : (T : Tag → Type 0) (host : ℕ) (c : Client) (ps : List Packet) (number : ℕ) (m : Message) → AllIn T m → IsAt host c ps → Told ps host m
    → AllHeld T c.leases c.notices → LeavesIf T (hear c number m)
hear-told T host c ps number (reply xid r) names a sent h = reply-told T host c ps number xid r c.ticket refl names a sent h
hear-told T host c ps number (call xid r) names a sent h = called-told T c xid r names a.alone h
hear-told T host c ps number (error xid e) names a sent h = tt
