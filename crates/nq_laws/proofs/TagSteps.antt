-- A client learns no tag but from grants and notices: what is so of each tag that it was told of a file is so of each that it holds, notes and gives up.
use Rattle.std.proofs.Common.{◌≡◌, ◌≢◌, ◌≤◌, ◌<◌, ◌⊎◌, ℕ, ◌+◌, ◌++◌, Bool, true, false, List, [], ◌∷◌, Option, Some, None, if◌then◌else◌, refl, sym}
use Rattle.std.proofs.Common.{subst, ap, ◌∙◌, arith, inl, inr}
use Rattle.nq_base.specs.declared.Grant.{Grant}
use Rattle.nq_base.specs.declared.Reply.{Reply}
use Rattle.nq_base.specs.declared.Request.{Request}
use Rattle.nq_base.specs.declared.Tag.{Tag}
use Rattle.nq_base.specs.declared.Who.{Who}
use Rattle.nq_model.proofs.ClientLists.{notice-before-drop, notice-after-put, lease-after-put}
use Rattle.nq_model.specs.protocol.Client.{Client, ClientStep, Job, Lease, Notice, Ticket, begun, lease_on, drop_lease, put_lease, used_lease, notice_on}
use Rattle.nq_model.specs.protocol.ClientStep.{client_call, client_tick, at_time, restart, starts, fresh_client, next_incarnation}
use Rattle.nq_base.specs.declared.Call.{Call}
use Rattle.nq_model.specs.protocol.Hear.{hear, inc_of, noticed_tag, granted_lease}
use Rattle.nq_model.specs.laws.LeaseInterval.{grant_in, requested_file}
use Rattle.nq_model.specs.protocol.Message.{Message, Packet, call, reply}
use Rattle.nq_model.specs.protocol.Table.{tag_below, later_tag}
use Rattle.walk_steps.proofs.ClientCases.{Core, Closed, core_of}
use Rattle.walk_steps.proofs.ClientFacts.{fits_job}
use Rattle.walk_steps.proofs.ClientMoves.{some-same, none-some, keeps-or-cancels}
use Rattle.walk_steps.proofs.ClientWalk.{reply-keeps, notice-keeps, call-keeps, tick-keeps}
use Rattle.walk_steps.proofs.StepCases.{heard-cases}
use Rattle.walk_steps.proofs.Packets.{In, in-last, Told, call-same}
use Rattle.walk_steps.proofs.TagFacts.{used-from, dropped-from}
use Rattle.walk_steps.proofs.Worlds.{IsAt}

-- the tags of a client: of leases, of notices that wait, and of grants that it can still take
pub record Knows (T : ℕ → Tag → Type 0) (who : Who) (ticket : Option Ticket) (leases : List Lease) (notices : List Notice) (ps : List Packet) : Type 0 where
  pub leased : (file : ℕ) (l : Lease) → lease_on file leases ≡ Some l → T file l.tag
  pub noticed : (file : ℕ) (n : Notice) → notice_on file notices ≡ Some n → T file n.tag
  pub given : (t : Ticket) → ticket ≡ Some t → (a : Reply) (g : Grant) (file : ℕ) → Told ps who.host (reply t.xid a) → inc_of a ≡ who.inc
      → grant_in a ≡ Some g → requested_file t.request ≡ Some file → T file g.tag

no-vacated : (job : Job) (r : Request) (w : Who) (file : ℕ) (tag : Tag) → fits_job job r ≡ true → r ≡ Request.Vacated w file tag → ⊥
no-vacated job r w file tag fits is = by job (subst (λ q. fits_job job q ≡ true) is fits)
  where
    by : (j : Job) → fits_job j (Request.Vacated w file tag) ≡ true → ⊥
    by Job.attaching e = let bad : false ≡ true = e in cc
    by Job.for_call e = let bad : false ≡ true = e in cc
    by Job.renewing e = let bad : false ≡ true = e in cc
    by Job.pushing e = let bad : false ≡ true = e in cc

module _ (T : ℕ → Tag → Type 0) (who : Who) (first : ℕ) (ps : List Packet)
    (low : (x : ℕ) (a : Reply) → Told ps who.host (reply x a) → inc_of a ≡ who.inc → x < first) where
  -- in the middle of a step
  pub record Tags (k : Core) : Type 0 where
    pub same : k.who ≡ who
    pub later : first ≤ k.xid
    pub knows : Knows T who k.ticket k.leases k.notices ps
    pub vacated : (x : ℕ) (w : Who) (file : ℕ) (tag : Tag) → In k.sends (call x (Request.Vacated w file tag)) → T file tag
    pub asking : (t : Ticket) → k.ticket ≡ Some t → (w : Who) (file : ℕ) (tag : Tag) → t.request ≡ Request.Vacated w file tag → ⊥

  -- a call is sent that is no VACATED
  other-sent : (x : ℕ) (r : Request) (sends : List Message) → ((w : Who) (file : ℕ) (tag : Tag) → r ≡ Request.Vacated w file tag → ⊥)
      → ((y : ℕ) (w : Who) (file : ℕ) (tag : Tag) → In sends (call y (Request.Vacated w file tag)) → T file tag) → (y : ℕ) (w : Who) (file : ℕ) (tag : Tag)
      → In (sends ++ call x r ∷ []) (call y (Request.Vacated w file tag)) → T file tag
  other-sent x r sends other old y w file tag i = by (in-last sends (call x r) (call y (Request.Vacated w file tag)) i)
    where
      by : In sends (call y (Request.Vacated w file tag)) ⊎ (call x r ≡ call y (Request.Vacated w file tag)) → T file tag
      by (inl j) = old y w file tag j
      by (inr e) = absurd (other w file tag (call-same x y r (Request.Vacated w file tag) e).1)

  vacated-sent : (x : ℕ) (v : Who) (f : ℕ) (u : Tag) (sends : List Message) → T f u
      → ((y : ℕ) (w : Who) (file : ℕ) (tag : Tag) → In sends (call y (Request.Vacated w file tag)) → T file tag) → (y : ℕ) (w : Who) (file : ℕ) (tag : Tag)
      → In (sends ++ call x (Request.Vacated v f u) ∷ []) (call y (Request.Vacated w file tag)) → T file tag
  vacated-sent x v f u sends named old y w file tag i = by (in-last sends (call x (Request.Vacated v f u)) (call y (Request.Vacated w file tag)) i)
    where
      by : In sends (call y (Request.Vacated w file tag)) ⊎ (call x (Request.Vacated v f u) ≡ call y (Request.Vacated w file tag)) → T file tag
      by (inl j) = old y w file tag j
      by (inr e) =
          let same : Request.Vacated v f u ≡ Request.Vacated w file tag = (call-same x y _ _ e).1 in
          let a : f ≡ file = cc in
          let b : u ≡ tag = cc in
          subst (λ g. T g tag) a (subst (λ z. T f z) b named)

  -- a new request was answered by nobody yet
  newly : (k : Core) (job : Job) (request : Request) → Tags k → (t : Ticket)
      → Some (record { xid = k.xid; first = k.now; last = k.now; request = request; job = job }) ≡ Some t → (a : Reply) (g : Grant) (file : ℕ)
      → Told ps who.host (reply t.xid a) → inc_of a ≡ who.inc → grant_in a ≡ Some g → requested_file t.request ≡ Some file → T file g.tag
  newly k job request h t e a g file told inc gives on =
      let number : k.xid ≡ t.xid = ap (λ (y : Ticket). y.xid)
      (some-same (record { xid = k.xid; first = k.now; last = k.now; request = request; job = job }) t e) in
      let below = low t.xid a told inc in
      let above = h.later in
      absurd (omega arith)

  module _ (Heard : ℕ → Tag → Type 0) (Given : ℕ → Grant → ℕ → Type 0) (hears : (file : ℕ) (tag : Tag) → Heard file tag → T file tag)
      (gives : (file : ℕ) (g : Grant) (sent : ℕ) → Given file g sent → T file g.tag) where
    source : (k : Core) (file : ℕ) (tag : Tag) → Tags k → ((n : Notice) × (notice_on file k.notices ≡ Some n) × (tag ≡ n.tag)) ⊎ Heard file tag → T file tag
    source k file tag h (inl n) = subst (λ u. T file u) (sym n.2) (h.knows.noticed file n.0 n.1)
    source k file tag h (inr now) = hears file tag now

    fewer-leases : (k : Core) (less : List Lease) →
        ((file : ℕ) (l : Lease) → lease_on file less ≡ Some l → (m : Lease) × (lease_on file k.leases ≡ Some m) × (l.tag ≡ m.tag)) → Tags k
        → Knows T who k.ticket less k.notices ps
    fewer-leases k less from h = record {
      leased = λ file l e. let m = from file l e in subst (λ u. T file u) (sym m.2) (h.knows.leased file m.0 m.1);
      noticed = h.knows.noticed;
      given = h.knows.given;
    }

    either : (file : ℕ) (a b : Tag) → T file a → T file b → T file (later_tag a b)
    either file a b x y = by (tag_below a b)
      where
        by : (c : Bool) → T file (if c then b else a)
        by true = y
        by false = x

    later-notice : (k : Core) (file : ℕ) (tag : Tag) → T file tag → Tags k → (o : Option Notice) → notice_on file k.notices ≡ o → T file (noticed_tag tag o)
    later-notice k file tag named h None e = named
    later-notice k file tag named h (Some n) e = either file n.tag tag (h.knows.noticed file n e) named

    noted : (k : Core) (file : ℕ) (tag : Tag) → T file tag → Tags k → (f : ℕ) (n : Notice)
        → ((f ≡ file) × (n ≡ record { file = file; tag = noticed_tag tag (notice_on file k.notices) })) ⊎ ((f ≢ file) × (notice_on f k.notices ≡ Some n))
        → T f n.tag
    noted k file tag named h f n (inl p) =
        subst (λ g. T g n.tag) (sym p.0) (subst (λ (y : Notice). T file y.tag) (sym p.1) (later-notice k file tag named h (notice_on file k.notices) refl))
    noted k file tag named h f n (inr p) = h.knows.noticed f n p.1

    held : (k : Core) (file : ℕ) (g : Grant) (at : ℕ) → T file g.tag → Tags k → (f : ℕ) (l : Lease)
        → lease_on f (put_lease (granted_lease file g at) k.leases) ≡ Some l → T f l.tag
    unfolding granted_lease
    held k file g at named h f l e = by (lease-after-put (granted_lease file g at) f k.leases l e)
      where
        by : ((f ≡ file) × (l ≡ granted_lease file g at)) ⊎ ((f ≢ file) × (lease_on f k.leases ≡ Some l)) → T f l.tag
        by (inl p) = subst (λ n. T n l.tag) (sym p.0) (subst (λ (z : Lease). T file z.tag) (sym p.1) named)
        by (inr p) = h.knows.leased f l p.1

    pub tags-closed : Closed Heard Given Tags
    tags-closed = record {
      uses = λ k file h. record {
        same = h.same;
        later = h.later;
        knows = fewer-leases k (used_lease file k.leases) (used-from file k.leases) h;
        vacated =
            h.vacated;
        asking = h.asking;
      };
      drops = λ k file h. record {
        same = h.same;
        later = h.later;
        knows =
            fewer-leases k (drop_lease file k.leases) (dropped-from file k.leases) h;
        vacated = h.vacated;
        asking = h.asking;
      };
      vacates = λ k file tag can h. record {
        same = h.same;
        later = let above = h.later in omega arith;
        knows = record {
          leased = (fewer-leases k (drop_lease file k.leases) (dropped-from file k.leases) h).leased;
          noticed = λ f n e. h.knows.noticed f n (notice-before-drop file f k.notices n e).1;
          given = h.knows.given;
        };
        vacated = vacated-sent k.xid k.who file tag k.sends (source k file tag h can.source) h.vacated;
        asking = h.asking;
      };
      asks = λ k job request no_seq can h. record {
        same = h.same;
        later = let above = h.later in omega arith;
        knows = record { leased = h.knows.leased; noticed = h.knows.noticed; given = newly k job request h };
        vacated = other-sent k.xid request k.sends (λ w f t e. no-vacated job request w f t can.fits e) h.vacated;
        asking = λ t e w f v is. no-vacated job request w f v can.fits (ap (λ (y : Ticket). y.request) (some-same _ t e) ∙ is);
      };
      decides = λ k job request seq can h. record {
        same = h.same;
        later = let above = h.later in omega arith;
        knows = record { leased = h.knows.leased; noticed = h.knows.noticed; given = newly k job request h };
        vacated = other-sent k.xid request k.sends (λ w f t e. no-vacated job request w f t can.fits e) h.vacated;
        asking = λ t e w f v is. no-vacated job request w f v can.fits (ap (λ (y : Ticket). y.request) (some-same _ t e) ∙ is);
      };
      again = λ k t is h. record {
        same = h.same;
        later = h.later;
        knows = record {
          leased = h.knows.leased;
          noticed = h.knows.noticed;
          given = λ u e a g file told inc gives_it on.
              let one = some-same (record t { last = k.now }) u e in
              h.knows.given t is a g file (subst (λ n. Told ps who.host (reply n a)) (ap (λ (y : Ticket). y.xid) (sym one)) told) inc gives_it
              (ap (λ (y : Ticket). requested_file y.request) one ∙ on);
        };
        vacated = other-sent t.xid t.request k.sends (h.asking t is) h.vacated;
        asking = λ u e w f v at. h.asking t is w f v (ap (λ (y : Ticket). y.request) (some-same _ u e) ∙ at);
      };
      holds = λ k file g sent given free unnoticed h. record {
        same = h.same;
        later = h.later;
        knows = record { leased = held k file g sent (gives file g sent given) h; noticed = h.knows.noticed; given = h.knows.given };
        vacated = h.vacated;
        asking = h.asking;
      };
      cancels = λ k file h. record {
        same = h.same;
        later = h.later;
        knows = record { leased = h.knows.leased; noticed = h.knows.noticed; given = λ t e. h.knows.given t (keeps-or-cancels file k.ticket t e).0 };
        vacated = h.vacated;
        asking = λ t e. h.asking t (keeps-or-cancels file k.ticket t e).0;
      };
      notes = λ k file tag now h. record {
        same = h.same;
        later = h.later;
        knows = record {
          leased = h.knows.leased;
          noticed = λ f n e. noted k file tag (hears file tag now) h f n
              (notice-after-put (record { file = file; tag = noticed_tag tag (notice_on file k.notices) }) f k.notices n e);
          given = h.knows.given;
        };
        vacated = h.vacated;
        asking = h.asking;
      };
    }

-- ---- steps

abbrev pub KnowsOf : (ℕ → Tag → Type 0) → Client → List Packet → Type 0
KnowsOf T c ps = Knows T c.who c.ticket c.leases c.notices ps

-- after a step: what the client knows, by the packets before it, and what it gave up
pub record Leaves (T : ℕ → Tag → Type 0) (ps : List Packet) (c : Client) (t : ClientStep) : Type 0 where
  pub same : t.client.who ≡ c.who
  pub knows : Knows T c.who t.client.ticket t.client.leases t.client.notices ps
  pub vacated : (x : ℕ) (w : Who) (file : ℕ) (tag : Tag) → In t.sends (call x (Request.Vacated w file tag)) → T file tag

abbrev NoneHeard : ℕ → Tag → Type 0
NoneHeard file tag = ⊥

abbrev NoneGiven : ℕ → Grant → ℕ → Type 0
NoneGiven file g sent = ⊥

module _ (T : ℕ → Tag → Type 0) (host : ℕ) (c : Client) (ps : List Packet) (a : IsAt host c ps) (h : KnowsOf T c ps) where
  low-replies : (x : ℕ) (r : Reply) → Told ps c.who.host (reply x r) → inc_of r ≡ c.who.inc → x < c.xid
  low-replies x r told inc = (a.mail.replied x r told inc).number

  asks-other : (t : Ticket) → c.ticket ≡ Some t → (w : Who) (file : ℕ) (tag : Tag) → t.request ≡ Request.Vacated w file tag → ⊥
  asks-other t e w file tag is = no-vacated t.job t.request w file tag (a.alone.asking.ticketed t e).fits is

  begun-tags : Tags T c.who c.xid ps low-replies (core_of (begun c))
  begun-tags = record { same = refl; later = omega arith; knows = h; vacated = λ x w file tag i. absurd i; asking = asks-other }

  leaves : (t : ClientStep) → Tags T c.who c.xid ps low-replies (core_of t) → Leaves T ps c t
  leaves t g = record { same = g.same; knows = g.knows; vacated = g.vacated }

  pub call-leaves : (op : Call) → Leaves T ps c (client_call c op)
  call-leaves op = leaves (client_call c op)
      (call-keeps (tags-closed T c.who c.xid ps low-replies NoneHeard NoneGiven (λ file tag bad. absurd bad) (λ file g sent bad. absurd bad)) c op a.alone
      begun-tags).core

  pub tick-leaves : Leaves T ps c (client_tick c (c.now + 1))
  unfolding at_time
  tick-leaves = leaves (client_tick c (c.now + 1))
      (tick-keeps (tags-closed T c.who c.xid ps low-replies NoneHeard NoneGiven (λ file tag bad. absurd bad) (λ file g sent bad. absurd bad)) c (c.now + 1)
      (omega arith) a.alone
      (record { same = refl; later = omega arith; knows = h; vacated = λ x w file tag i. absurd i; asking = asks-other })).core

  pub hear-leaves : (k : ℕ) (m : Message) (t : ClientStep) → Told ps host m
      → ((x : ℕ) (w : Who) (file : ℕ) (tag : Tag) → m ≡ call x (Request.Evicted w file tag) → T file tag) → hear c k m ≡ Some t → Leaves T ps c t
  hear-leaves k m t sent names hears = heard-cases c k m t (Leaves T ps c) hears (record {
    answered = λ xid r ticket is asks own inc counts.
        let there : Told ps c.who.host (reply xid r) = subst (λ n. Told ps n (reply xid r)) (sym a.here) (subst (λ n. Told ps host n) is sent) in
        let spent : Knows T c.who None c.leases c.notices ps = record { leased = h.leased; noticed = h.noticed; given = λ u e. none-some u e } in
        leaves _ (reply-keeps (tags-closed T c.who c.xid ps low-replies NoneHeard (λ file g at. (requested_file ticket.request ≡ Some file) × T file g.tag)
        (λ file tag bad. absurd bad) (λ file g at given. given.1)) c k ticket r (record {
          asked = asks;
          counts = counts;
          alone = a.alone;
          spent = λ other. record { same = refl; later = omega arith; knows = spent; vacated = λ x w file tag i. absurd i; asking = λ u e. none-some u e };
          attached = λ job. record { same = refl; later = omega arith; knows = spent; vacated = λ x w file tag i. absurd i; asking = λ u e. none-some u e };
          brings = λ file on g grants. (
            (on, h.given ticket asks r g file (subst (λ n. Told ps c.who.host (reply n r)) own there) inc grants on),
            (a.mail.replied xid r there inc).wants ticket asks (sym own) g grants file on,
          );
          only = λ file g at given. given.0;
        })).core;
    noticed = λ xid file tag is older.
        leaves _ (notice-keeps (tags-closed T c.who c.xid ps low-replies (λ f v. T f v) NoneGiven (λ f v heard. heard) (λ f g at bad. absurd bad)) c file
        tag (names xid c.who file tag is) (λ g at bad. bad) a.alone begun-tags).core;
  })

-- the next incarnation knows nothing
pub restart-leaves : (T : ℕ → Tag → Type 0) (ps : List Packet) (c : Client)
    → ((restart c).client.who.host ≡ c.who.host) × Knows T (restart c).client.who (restart c).client.ticket (restart c).client.leases
    (restart c).client.notices ps × ((x : ℕ) (w : Who) (file : ℕ) (tag : Tag) → In (restart c).sends (call x (Request.Vacated w file tag)) → ⊥)
unfolding starts fresh_client
restart-leaves T ps c = (
  refl,
  record {
    leased = λ file l e. none-some l e;
    noticed = λ file n e. none-some n e;
    given = λ t e a g file told inc gives on. none-some file (ap (λ (y : Ticket). requested_file y.request) (some-same _ t e) ∙ on);
  },
  λ x w file tag i. by x w file tag i,
)
  where
    by : (x : ℕ) (w : Who) (file : ℕ) (tag : Tag) → (call 1 (Request.Attach (next_incarnation c.who)) ≡ call x (Request.Vacated w file tag)) ⊎ ⊥ → ⊥
    by x w file tag (inl e) = let same = (call-same 1 x _ _ e).1 in cc
    by x w file tag (inr bad) = bad
