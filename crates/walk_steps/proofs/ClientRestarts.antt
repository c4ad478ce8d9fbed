-- What a client and the server know of each other is kept by a restart of the client, and by what other hosts send.
use Rattle.std.proofs.Common.{◌≡◌, ◌<◌, ◌≤◌, ◌⊎◌, ℕ, ◌+◌, Bool, false, List, [], ◌∷◌, ◌++◌, Option, Some, refl, sym, subst, ap, ◌∙◌, arith, inl, inr}
use Rattle.nq_base.specs.declared.Event.{Event}
use Rattle.nq_base.specs.declared.HostRow.{HostRow}
use Rattle.nq_base.specs.declared.Reply.{Reply}
use Rattle.nq_base.specs.declared.Request.{Request}
use Rattle.nq_base.specs.declared.Tag.{Tag}
use Rattle.nq_base.specs.declared.Who.{Who}
use Rattle.walk_steps.proofs.ClientFacts.{Alone}
use Rattle.walk_steps.proofs.ClientKnows.{Knows}
use Rattle.walk_steps.proofs.ClientMoves.{some-same, none-some}
use Rattle.walk_steps.proofs.ClientSteps.{KnowsOf, knows-passes}
use Rattle.walk_steps.proofs.CoverFacts.{CoverFits, cover-ticket}
use Rattle.walk_steps.proofs.HostLine.{LineFits}
use Rattle.walk_steps.proofs.Mail.{packets_with, other-asked, old-told}
use Rattle.walk_steps.proofs.Packets.{Asked, Told, Mail}
use Rattle.walk_steps.proofs.ServerKnows.{NoneHeard, NoneGiven}
use Rattle.walk_steps.proofs.TagFacts.{TagsFit, told-before, asked-before}
use Rattle.walk_steps.proofs.Worlds.{IsAt}
use Rattle.nq_model.specs.protocol.Client.{Client, attaching, Lease, Notice, Ticket}
use Rattle.nq_model.specs.protocol.ClientStep.{restart, starts, fresh_client, next_incarnation}
use Rattle.nq_model.specs.protocol.Hear.{inc_of}
use Rattle.nq_model.specs.protocol.Message.{Message, Packet, call, reply, asker}
use Rattle.nq_model.specs.protocol.Server.{Server, standing}
use Rattle.nq_model.specs.protocol.Skew.{ticks_of}
use Rattle.nq_model.specs.protocol.World.{from_host}

-- ---- a restart

module _ (line : HostRow) (s : Server) (events : List Event) (c : Client) (ps : List Packet) (m : Mail c.who c.xid c.ticket ps)
    (h : KnowsOf line s events c ps) where
  -- the incarnation that begins, and its first request
  abbrev who : Who
  who = next_incarnation c.who

  abbrev first : Ticket
  first = record { xid = 1; first = c.now; last = c.now; request = Request.Attach who; job = attaching }

  -- what was told, and what was asked, before
  told-there : (n : Message) → Told (ps ++ from_host c.who.host (call 1 (Request.Attach who)) ∷ []) c.who.host n → Told ps c.who.host n
  told-there n sent = told-before ps c.who.host c.who.host (call 1 (Request.Attach who)) n sent

  -- a reply is to an incarnation before
  past-reply : (x : ℕ) (a : Reply) → Told (ps ++ from_host c.who.host (call 1 (Request.Attach who)) ∷ []) c.who.host (reply x a) → inc_of a ≡ c.who.inc + 1 → ⊥
  past-reply x a sent inc = let below = m.past x a (told-there (reply x a) sent) in omega arith

  -- a request of the incarnation that begins is ATTACH, and others are of those before
  attaches : (x : ℕ) (r : Request) (w : Who) → asker r ≡ Some w → (1 ≡ x) × (Request.Attach who ≡ r) → r ≡ Request.Attach w
  attaches x r w by new = sym new.1 ∙ ap Request.Attach (some-same who w (ap asker new.1 ∙ by))

  not-attach : (w v : Who) (file : ℕ) (tag : Tag) → Request.Attach w ≡ Request.Vacated v file tag → ⊥
  not-attach w v file tag e = absurd (cc)

  old-vacated : (x : ℕ) (w : Who) (file : ℕ) (tag : Tag)
      → Asked (ps ++ from_host c.who.host (call 1 (Request.Attach who)) ∷ []) c.who.host x (Request.Vacated w file tag)
      → Asked ps c.who.host x (Request.Vacated w file tag)
  old-vacated x w file tag sent = case (asked-before ps c.who.host 1 x (Request.Attach who) (Request.Vacated w file tag) sent)
    where
      case : Asked ps c.who.host x (Request.Vacated w file tag) ⊎ ((1 ≡ x) × (Request.Attach who ≡ Request.Vacated w file tag))
          → Asked ps c.who.host x (Request.Vacated w file tag)
      case (inl there) = there
      case (inr new) = absurd (not-attach who w file tag new.1)

  restarted-line : LineFits who false (Some first) [] line (ps ++ from_host c.who.host (call 1 (Request.Attach who)) ∷ [])
  restarted-line = record {
    past = let p = h.lined.past in omega arith;
    current = λ e. absurd (cc);
    told = λ x inc sent same. absurd (past-reply x (Reply.Attach inc) sent same);
    above = λ x r w sent by later. above x r w by later (asked-before ps c.who.host 1 x (Request.Attach who) r sent);
    waiting = λ e x r w sent by inc. waiting x r w by inc (asked-before ps c.who.host 1 x (Request.Attach who) r sent);
    unnoticed = λ e. refl;
    evicted_past = λ x w file tag sent. let p = noticed x w file tag sent in omega arith;
    unheard = λ e x w file tag sent inc. let p = noticed x w file tag sent in omega arith;
    settled = λ kept x r w n sent. let p = h.lined.past in absurd (omega arith);
    answered = λ x a sent inc. absurd (past-reply x a sent inc);
  } where
    noticed : (x : ℕ) (w : Who) (file : ℕ) (tag : Tag)
        → Told (ps ++ from_host c.who.host (call 1 (Request.Attach who)) ∷ []) c.who.host (call x (Request.Evicted w file tag)) → w.inc ≤ c.who.inc
    noticed x w file tag sent = h.lined.evicted_past x w file tag (told-there (call x (Request.Evicted w file tag)) sent)

    above : (x : ℕ) (r : Request) (w : Who) → asker r ≡ Some w → line.inc < w.inc → Asked ps c.who.host x r ⊎ ((1 ≡ x) × (Request.Attach who ≡ r))
        → r ≡ Request.Attach w
    above x r w by later (inl old) = h.lined.above x r w old by later
    above x r w by later (inr new) = attaches x r w by new

    waiting : (x : ℕ) (r : Request) (w : Who) → asker r ≡ Some w → w.inc ≡ c.who.inc + 1
        → Asked ps c.who.host x r ⊎ ((1 ≡ x) × (Request.Attach who ≡ r)) → r ≡ Request.Attach w
    waiting x r w by inc (inl old) = let below = (m.asked x r w old by).inc in absurd (omega arith)
    waiting x r w by inc (inr new) = attaches x r w by new

  restarted-tags : TagsFit who (Some first) [] [] (standing s).boot (standing s).drawn (ps ++ from_host c.who.host (call 1 (Request.Attach who)) ∷ [])
  restarted-tags = record {
    held = λ file l e. none-some l e;
    noticed = λ file n e. none-some n e;
    evicts = λ x w file tag sent. h.tagged.evicts x w file tag (told-there (call x (Request.Evicted w file tag)) sent);
    vacates = λ x w file tag sent. h.tagged.vacates x w file tag (old-vacated x w file tag sent);
    grants = λ x a g sent. h.tagged.grants x a g (told-there (reply x a) sent);
    past_held = λ x w file tag l sent inc e. none-some l e;
    past_given = λ x w file tag y a g t sent inc told i. absurd (past-reply y a told i);
  }

  restarted-covers : CoverFits s events who c.now (Some first) [] (ps ++ from_host c.who.host (call 1 (Request.Attach who)) ∷ [])
  restarted-covers = record {
    held = λ file l e. none-some l e;
    held_short = λ file l e. none-some l e;
    given = λ file g t k. absurd (past-reply k.x k.a k.told k.inc);
    given_short = λ file g t k. absurd (past-reply k.x k.a k.told k.inc);
  }

  restarted-knows : Knows NoneHeard NoneGiven line s events who c.now false (Some first) [] [] (ps ++ from_host c.who.host (call 1 (Request.Attach who)) ∷ [])
  restarted-knows =
      record {
        lined = restarted-line;
        tagged = restarted-tags;
        covered = restarted-covers;
        heard = λ file tag bad. absurd bad;
        pending = λ file g sent bad. absurd bad;
      }

  -- at once, while the clock goes on
  restart-now : (host : ℕ) → c.who.host ≡ host → KnowsOf line s events (restart c).client (packets_with ps host (restart c).sends)
  unfolding starts fresh_client
  restart-now host here =
      subst (λ n. Knows NoneHeard NoneGiven line s events who c.now false (Some first) [] [] (ps ++ from_host n (call 1 (Request.Attach who)) ∷ []))
      here restarted-knows

pub restart-knows : {line : HostRow} {s : Server} {events : List Event} (e : Event) (host : ℕ) (c : Client) (ps : List Packet)
    → c.now ≡ ticks_of c.who.host events → IsAt host c ps → KnowsOf line s events c ps
    → KnowsOf line s (e ∷ events) (restart c).client (packets_with ps host (restart c).sends)
restart-knows {line = line} {s = s} {events = events} e host c ps clock a h =
    restart-now line s (e ∷ events) c ps a.mail (knows-passes e c.now c clock (omega arith) a.alone h) host a.here

-- ---- what other hosts send

module _ (who : Who) (host : ℕ) (ps : List Packet) (sends : List Message) (apart : who.host ≡ host → ⊥) where
  asked-old : (x : ℕ) (r : Request) → Asked (packets_with ps host sends) who.host x r → Asked ps who.host x r
  asked-old x r i = other-asked ps host who.host sends x r apart i

  told-old : (n : Message) → Told (packets_with ps host sends) who.host n → Told ps who.host n
  told-old n i = old-told ps host who.host sends n i

  -- nothing that is asked or told of this host is new
  other-packets : {line : HostRow} {s : Server} {events : List Event} {now : ℕ} {attached : Bool} {ticket : Option Ticket} {leases : List Lease}
      {notices : List Notice} → Knows NoneHeard NoneGiven line s events who now attached ticket leases notices ps
      → Knows NoneHeard NoneGiven line s events who now attached ticket leases notices (packets_with ps host sends)
  other-packets h = record {
    lined = let l = h.lined in record {
      past = l.past;
      current = l.current;
      told = λ x inc sent. l.told x inc (told-old (reply x (Reply.Attach inc)) sent);
      above = λ x r w sent. l.above x r w (asked-old x r sent);
      waiting = λ e x r w sent. l.waiting e x r w (asked-old x r sent);
      unnoticed = l.unnoticed;
      evicted_past = λ x w file tag sent. l.evicted_past x w file tag (told-old (call x (Request.Evicted w file tag)) sent);
      unheard = λ e x w file tag sent. l.unheard e x w file tag (told-old (call x (Request.Evicted w file tag)) sent);
      settled = λ kept x r w n sent. l.settled kept x r w n (asked-old x r sent);
      answered = λ x a sent. l.answered x a (told-old (reply x a) sent);
    };
    tagged = let t = h.tagged in record {
      held = t.held;
      noticed = t.noticed;
      evicts = λ x w file tag sent. t.evicts x w file tag (told-old (call x (Request.Evicted w file tag)) sent);
      vacates = λ x w file tag sent. t.vacates x w file tag (asked-old x (Request.Vacated w file tag) sent);
      grants = λ x a g sent. t.grants x a g (told-old (reply x a) sent);
      past_held = λ x w file tag l sent. t.past_held x w file tag l (asked-old x (Request.Vacated w file tag) sent);
      past_given =
          λ x w file tag y a g u sent inc told. t.past_given x w file tag y a g u (asked-old x (Request.Vacated w file tag) sent) inc
          (told-old (reply y a) told);
    };
    covered =
        cover-ticket _ (packets_with ps host sends)
        (λ file g t k. (
          t,
          record {
            x = k.x;
            a = k.a;
            told = told-old (reply k.x k.a) k.told;
            inc = k.inc;
            asked = k.asked;
            number = k.number;
            on_file = k.on_file;
            gives = k.gives;
          },
          refl,
        )) h.covered;
    heard = λ file tag bad. absurd bad;
    pending = λ file g sent bad. absurd bad;
  }

pub other-knows : {line : HostRow} {s : Server} {events : List Event} (e : Event) (host : ℕ) (c : Client) (ps : List Packet) (sends : List Message)
    → (c.who.host ≡ host → ⊥) → c.now ≡ ticks_of c.who.host events → Alone c → KnowsOf line s events c ps
    → KnowsOf line s (e ∷ events) c (packets_with ps host sends)
other-knows e host c ps sends apart clock a h = other-packets c.who host ps sends apart (knows-passes e c.now c clock (omega arith) a h)
