-- Which tags were named, and what a client names.
use Rattle.std.proofs.Common.{◌≡◌, ◌≢◌, ◌⊎◌, ℕ, ◌++◌, Bool, true, false, List, [], ◌∷◌, Option, Some, None, if◌then◌else◌, refl, sym, ap, subst, ◌∙◌, inl, inr}
use Rattle.nq_base.specs.declared.Grant.{Grant}
use Rattle.nq_base.specs.declared.Request.{Request}
use Rattle.nq_base.specs.declared.Tag.{Tag}
use Rattle.nq_base.specs.declared.Who.{Who}
use Rattle.nq_model.proofs.ClientLists.{notice-before-drop, notice-after-put}
use Rattle.nq_model.specs.protocol.Client.{Client, ClientStep, begun, Job, Notice, Ticket, notice_on}
use Rattle.nq_model.specs.protocol.ClientStep.{at_time, starts, fresh_client, next_incarnation, restart}
use Rattle.nq_model.specs.protocol.Hear.{hear, noticed_tag}
use Rattle.nq_model.specs.protocol.Message.{Message, Packet, call, reply}
use Rattle.nq_model.specs.protocol.Server.{to_host}
use Rattle.nq_model.specs.protocol.Table.{tag_below, later_tag}
use Rattle.nq_model.specs.protocol.World.{from_host}
use Rattle.walk_steps.proofs.ClientCases.{Core, Closed, core_of}
use Rattle.walk_steps.proofs.ClientFacts.{Alone, fits_job}
use Rattle.walk_steps.proofs.ClientMoves.{some-same, none-some, keeps-or-cancels}
use Rattle.walk_steps.proofs.ClientWalk.{reply-keeps, notice-keeps}
use Rattle.walk_steps.proofs.StepCases.{heard-cases}
use Rattle.walk_steps.proofs.Packets.{In, in-append, in-left, in-last, Asked, Told, call-same}
use Rattle.walk_steps.proofs.Worlds.{IsAt, given-by}

-- ---- tags that were named

pub data Named (ps : List Packet) (host file : ℕ) (tag : Tag) : Type 0 where
  told : (x : ℕ) (w : Who) → Told ps host (call x (Request.Evicted w file tag)) → Named ps host file tag
  given : (x : ℕ) (w : Who) → Asked ps host x (Request.Vacated w file tag) → Named ps host file tag

-- where more was sent, it was named before, or now
pub data NamedNow (ps more : List Packet) (host file : ℕ) (tag : Tag) : Type 0 where
  before : Named ps host file tag → NamedNow ps more host file tag
  told_now : (x : ℕ) (w : Who) → In more (to_host host (call x (Request.Evicted w file tag))) → NamedNow ps more host file tag
  given_now : (x : ℕ) (w : Who) → In more (from_host host (call x (Request.Vacated w file tag))) → NamedNow ps more host file tag

pub named-now : (ps more : List Packet) (host file : ℕ) (tag : Tag) → Named (ps ++ more) host file tag → NamedNow ps more host file tag
named-now ps more host file tag (told x w i) = by (in-append ps more _ i)
  where
    by : Told ps host (call x (Request.Evicted w file tag)) ⊎ In more (to_host host (call x (Request.Evicted w file tag))) → NamedNow ps more host file tag
    by (inl old) = before (told x w old)
    by (inr new) = told_now x w new
named-now ps more host file tag (given x w i) = by (in-append ps more _ i)
  where
    by : Asked ps host x (Request.Vacated w file tag) ⊎ In more (from_host host (call x (Request.Vacated w file tag))) → NamedNow ps more host file tag
    by (inl old) = before (given x w old)
    by (inr new) = given_now x w new

pub named-later : (ps more : List Packet) (host file : ℕ) (tag : Tag) → Named ps host file tag → Named (ps ++ more) host file tag
named-later ps more host file tag (told x w i) = told x w (in-left ps more _ i)
named-later ps more host file tag (given x w i) = given x w (in-left ps more _ i)

-- ---- what a client names

-- in the middle of a step of a host's client: what it was told and has given up was named before
pub record Names (ps : List Packet) (host : ℕ) (k : Core) : Type 0 where
  pub noticed : (file : ℕ) (n : Notice) → notice_on file k.notices ≡ Some n → Named ps host file n.tag
  pub vacated : (x : ℕ) (w : Who) (file : ℕ) (tag : Tag) → In k.sends (call x (Request.Vacated w file tag)) → Named ps host file tag
  pub asking : (t : Ticket) → k.ticket ≡ Some t → (w : Who) (file : ℕ) (tag : Tag) → t.request ≡ Request.Vacated w file tag → ⊥

no-vacated : (job : Job) (r : Request) (w : Who) (file : ℕ) (tag : Tag) → fits_job job r ≡ true → r ≡ Request.Vacated w file tag → ⊥
no-vacated job r w file tag fits is = by job (subst (λ q. fits_job job q ≡ true) is fits)
  where
    by : (j : Job) → fits_job j (Request.Vacated w file tag) ≡ true → ⊥
    by Job.attaching e = let bad : false ≡ true = e in cc
    by Job.for_call e = let bad : false ≡ true = e in cc
    by Job.renewing e = let bad : false ≡ true = e in cc
    by Job.pushing e = let bad : false ≡ true = e in cc

-- a call was sent that is no VACATED
other-sent : (ps : List Packet) (host xid : ℕ) (r : Request) (sends : List Message) → ((w : Who) (file : ℕ) (tag : Tag) → r ≡ Request.Vacated w file
    tag → ⊥) → ((x : ℕ) (w : Who) (file : ℕ) (tag : Tag) → In sends (call x (Request.Vacated w file tag)) → Named ps host file tag)
    → (x : ℕ) (w : Who) (file : ℕ) (tag : Tag) → In (sends ++ call xid r ∷ []) (call x (Request.Vacated w file tag)) → Named ps host file tag
other-sent ps host xid r sends other old x w file tag i = by (in-last sends (call xid r) (call x (Request.Vacated w file tag)) i)
  where
    by : In sends (call x (Request.Vacated w file tag)) ⊎ (call xid r ≡ call x (Request.Vacated w file tag)) → Named ps host file tag
    by (inl j) = old x w file tag j
    by (inr e) = absurd (other w file tag (call-same xid x r (Request.Vacated w file tag) e).1)

-- this VACATED was sent
vacated-sent : (ps : List Packet) (host xid : ℕ) (who : Who) (f : ℕ) (v : Tag) (sends : List Message) → Named ps host f v
    → ((x : ℕ) (w : Who) (file : ℕ) (tag : Tag) → In sends (call x (Request.Vacated w file tag)) → Named ps host file tag)
    → (x : ℕ) (w : Who) (file : ℕ) (tag : Tag) → In (sends ++ call xid (Request.Vacated who f v) ∷ []) (call x (Request.Vacated w file tag))
    → Named ps host file tag
vacated-sent ps host xid who f v sends named old x w file tag i = by (in-last sends (call xid (Request.Vacated who f v))
    (call x (Request.Vacated w file tag)) i)
  where
    by : In sends (call x (Request.Vacated w file tag)) ⊎ (call xid (Request.Vacated who f v) ≡ call x (Request.Vacated w file tag)) → Named ps host file tag
    by (inl j) = old x w file tag j
    by (inr e) =
        let same : Request.Vacated who f v ≡ Request.Vacated w file tag = (call-same xid x _ _ e).1 in
        let a : f ≡ file = cc in
        let b : v ≡ tag = cc in
        subst (λ g. Named ps host g tag) a (subst (λ u. Named ps host f u) b named)

either-named : (ps : List Packet) (host f : ℕ) (a b : Tag) → Named ps host f a → Named ps host f b → Named ps host f (later_tag a b)
either-named ps host f a b x y = by (tag_below a b)
  where
    by : (c : Bool) → Named ps host f (if c then b else a)
    by true = y
    by false = x

pub names-closed : (ps : List Packet) (host : ℕ) (Heard : ℕ → Tag → Type 0) (Given : ℕ → Grant → ℕ → Type 0)
    → ((file : ℕ) (tag : Tag) → Heard file tag → Named ps host file tag) → Closed Heard Given (Names ps host)
names-closed ps host Heard Given hears = record {
  uses = λ k file g. record { noticed = g.noticed; vacated = g.vacated; asking = g.asking };
  drops = λ k file g. record { noticed = g.noticed; vacated = g.vacated; asking = g.asking };
  vacates = λ k file tag can g. record {
    noticed = λ f n e. g.noticed f n (notice-before-drop file f k.notices n e).1;
    vacated = vacated-sent ps host k.xid k.who file tag k.sends (source k file tag g can.source) g.vacated;
    asking = g.asking;
  };
  asks = λ k job request no_seq can g. record {
    noticed = g.noticed;
    vacated = other-sent ps host k.xid request k.sends (λ w f t e. no-vacated job request w f t can.fits e) g.vacated;
    asking = λ t e w f v is. no-vacated job request w f v can.fits (ap (λ (y : Ticket). y.request) (some-same _ t e) ∙ is);
  };
  decides = λ k job request seq can g. record {
    noticed = g.noticed;
    vacated = other-sent ps host k.xid request k.sends (λ w f t e. no-vacated job request w f t can.fits e) g.vacated;
    asking = λ t e w f v is. no-vacated job request w f v can.fits (ap (λ (y : Ticket). y.request) (some-same _ t e) ∙ is);
  };
  again = λ k t is g. record {
    noticed = g.noticed;
    vacated = other-sent ps host t.xid t.request k.sends (g.asking t is) g.vacated;
    asking = λ u e w f v at. g.asking t is w f v (ap (λ (y : Ticket). y.request) (some-same _ u e) ∙ at);
  };
  holds = λ k file gr sent given free unnoticed g. record { noticed = g.noticed; vacated = g.vacated; asking = g.asking };
  cancels = λ k file g. record { noticed = g.noticed; vacated = g.vacated; asking = λ t e. g.asking t (keeps-or-cancels file k.ticket t e).0 };
  notes = λ k file tag now g. record {
    noticed = λ f n e. put k file tag (hears file tag now) g f n
        (notice-after-put (record { file = file; tag = noticed_tag tag (notice_on file k.notices) }) f k.notices n e);
    vacated = g.vacated;
    asking = g.asking;
  };
}
  where
    source : (k : Core) (file : ℕ) (tag : Tag) → Names ps host k → ((n : Notice) × (notice_on file k.notices ≡ Some n) × (tag ≡ n.tag))
        ⊎ Heard file tag → Named ps host file tag
    source k file tag g (inl n) = subst (λ t. Named ps host file t) (sym n.2) (g.noticed file n.0 n.1)
    source k file tag g (inr now) = hears file tag now

    new : (k : Core) (file : ℕ) (tag : Tag) → Named ps host file tag → Names ps host k → (o : Option Notice) → notice_on file k.notices ≡ o
        → Named ps host file (noticed_tag tag o)
    new k file tag named g None e = named
    new k file tag named g (Some n) e = either-named ps host file n.tag tag (g.noticed file n e) named

    put : (k : Core) (file : ℕ) (tag : Tag) → Named ps host file tag → Names ps host k → (f : ℕ) (n : Notice)
        → ((f ≡ file) × (n ≡ record { file = file; tag = noticed_tag tag (notice_on file k.notices) }))
        ⊎ ((f ≢ file) × (notice_on f k.notices ≡ Some n)) → Named ps host f n.tag
    put k file tag named g f n (inl p) = subst (λ h. Named ps host h n.tag) (sym p.0) (subst (λ (y : Notice). Named ps host file y.tag) (sym p.1)
        (new k file tag named g (notice_on file k.notices) refl))
    put k file tag named g f n (inr p) = g.noticed f n p.1

abbrev pub NoneHeard : ℕ → Tag → Type 0
NoneHeard file tag = ⊥

abbrev pub NoneGiven : ℕ → Grant → ℕ → Type 0
NoneGiven file g sent = ⊥

-- what a client's notices name was named
unfoldable pub NoticedNamed : List Packet → ℕ → Client → Type 0
NoticedNamed ps host c = (file : ℕ) (n : Notice) → notice_on file c.notices ≡ Some n → Named ps host file n.tag

pub begun-names : (ps : List Packet) (host : ℕ) (c : Client) → Alone c → NoticedNamed ps host c → Names ps host (core_of (begun c))
unfolding NoticedNamed
begun-names ps host c alone named = record {
  noticed = named;
  vacated = λ x w file tag i. absurd i;
  asking = λ t e w file tag is. no-vacated t.job t.request w file tag (alone.asking.ticketed t e).fits is;
}

spent-names : (ps : List Packet) (host : ℕ) (c : Client) → NoticedNamed ps host c → Names ps host (record (core_of (begun c)) { ticket = None })
unfolding NoticedNamed
spent-names ps host c named = record { noticed = named; vacated = λ x w file tag i. absurd i; asking = λ t e. none-some t e }

attached-names : (ps : List Packet) (host : ℕ) (c : Client) → NoticedNamed ps host c → Names ps host (record (core_of (begun c)) {
  ticket = None;
  attached = true;
})
unfolding NoticedNamed
attached-names ps host c named = record { noticed = named; vacated = λ x w file tag i. absurd i; asking = λ t e. none-some t e }

pub timed-names : (ps : List Packet) (host : ℕ) (c : Client) (now : ℕ) → Alone c → NoticedNamed ps host c → Names ps host (core_of (begun (at_time c now)))
unfolding at_time NoticedNamed
timed-names ps host c now alone named = record {
  noticed = named;
  vacated = λ x w file tag i. absurd i;
  asking = λ t e w file tag is. no-vacated t.job t.request w file tag (alone.asking.ticketed t e).fits is;
}

pub restart-names : (ps : List Packet) (host : ℕ) (c : Client) → Names ps host (core_of (restart c))
unfolding starts fresh_client
restart-names ps host c = record {
  noticed = λ file n e. none-some n e;
  vacated = λ x w file tag i. sent x w file tag i;
  asking = λ t e w file tag is. let same : Request.Attach (next_incarnation c.who) ≡ Request.Vacated w file tag = ap (λ (y : Ticket). y.request)
      (some-same _ t e) ∙ is in cc;
}
  where
    sent : (x : ℕ) (w : Who) (file : ℕ) (tag : Tag) → (call 1 (Request.Attach (next_incarnation c.who)) ≡ call x (Request.Vacated w file tag)) ⊎ ⊥
        → Named ps host file tag
    sent x w file tag (inl e) = let same = (call-same 1 x _ _ e).1 in absurd (cc)
    sent x w file tag (inr bad) = absurd bad

pub hear-names : (ps : List Packet) (host : ℕ) (c : Client) (k : ℕ) (m : Message) (t : ClientStep) → IsAt host c ps → Told ps host m
    → NoticedNamed ps host c → hear c k m ≡ Some t → Names ps host (core_of t)
hear-names ps host c k m t a sent named hears = heard-cases c k m t (λ u. Names ps host (core_of u)) hears (record {
  answered = λ xid r ticket is asks own inc counts.
      let there : Told ps c.who.host (reply xid r) = subst (λ h. Told ps h (reply xid r)) (sym a.here) (subst (λ n. Told ps host n) is sent) in
      (reply-keeps (names-closed ps host NoneHeard (given-by ticket) (λ file tag bad. absurd bad)) c k ticket r (record {
        asked = asks;
        counts = counts;
        alone = a.alone;
        spent = λ other. spent-names ps host c named;
        attached = λ job. attached-names ps host c named;
        brings = λ file on_file g grants. (on_file, (a.mail.replied xid r there inc).wants ticket asks (sym own) g grants file on_file);
        only = λ file g at given. given;
      })).core;
  noticed = λ xid file tag is older.
      (notice-keeps (names-closed ps host (λ f v. (f ≡ file) × (v ≡ tag)) NoneGiven (λ f v same. told xid c.who (subst (λ n. Told ps host n)
      (is ∙ renamed xid c.who file f tag v same) sent))) c file tag (refl, refl) (λ g at bad. bad) a.alone (begun-names ps host c a.alone named)).core;
})
  where
    renamed : (xid : ℕ) (w : Who) (file f : ℕ) (tag v : Tag) → (f ≡ file) × (v ≡ tag) → call xid (Request.Evicted w file tag)
        ≡ call xid (Request.Evicted w f v)
    renamed xid w file f tag v same = ap (λ g. call xid (Request.Evicted w g tag)) (sym same.0) ∙ ap (λ u. call xid (Request.Evicted w f u)) (sym same.1)
