-- What is known of chained leases is kept by each step of their client.
use Rattle.std.proofs.Common.{◌≡◌, ℕ, ◌+◌, true, false, List, Option, Some, None, is_some, refl, sym, subst, ap, arith}
use Rattle.nq_base.specs.declared.Call.{Call}
use Rattle.nq_base.specs.declared.Event.{Event}
use Rattle.nq_base.specs.declared.Grant.{Grant}
use Rattle.nq_base.specs.declared.Mode.{Mode}
use Rattle.nq_base.specs.declared.Reply.{Reply}
use Rattle.nq_base.specs.declared.Row.{Row}
use Rattle.nq_base.specs.declared.Tag.{Tag}
use Rattle.nq_base.specs.declared.Who.{Who}
use Rattle.walk_files.proofs.ChainFacts.{line_for, ChainFits}
use Rattle.walk_files.proofs.ChainMoves.{mid-calls, mid-again, mid-passes}
use Rattle.walk_files.proofs.ChainReplies.{Answered, mid-replied, mid-evicted}
use Rattle.walk_files.proofs.ChainSends.{view_of, MidOf, mid-settles, mid-goes-on}
use Rattle.nq_model.specs.laws.Chained.{IsChained}
use Rattle.walk_steps.proofs.StepCases.{call-cases, unless-cached-cases, tick-cases, heard-cases}
use Rattle.walk_steps.proofs.ClientCases.{Closed}
use Rattle.walk_steps.proofs.ClientFacts.{DelayingOf}
use Rattle.walk_steps.proofs.ClientMoves.{some-same, none-some}
use Rattle.walk_steps.proofs.ClientWalk.{Replying, reply-keeps, notice-keeps, call-keeps, tick-keeps}
use Rattle.nq_model.specs.protocol.Client.{Client, ClientStep, Job, begun, Ticket}
use Rattle.nq_model.specs.protocol.ClientStep.{begins_call, is_called, says_busy, client_call, at_time, sends_again, client_tick}
use Rattle.nq_model.specs.protocol.Hear.{inc_of, reply_counts, hear, replied, evicted, cancels}
use Rattle.nq_model.specs.laws.LeaseInterval.{claim_of, HasFitting, IsCovered}
use Rattle.nq_model.specs.protocol.Message.{Message, Packet, reply}
use Rattle.nq_model.specs.protocol.Server.{Phase, serving, recovering, Server, standing_in}
use Rattle.nq_model.specs.protocol.Settle.{answers, names_losses, settle, ticket_is_for_call}
use Rattle.nq_model.specs.protocol.Table.{Table}
use Rattle.walk_steps.proofs.ClientSteps.{KnowsOf}
use Rattle.walk_steps.proofs.CoverFacts.{IsTakeable}
use Rattle.walk_steps.proofs.Mail.{packets_with, old-told}
use Rattle.walk_steps.proofs.Packets.{Told}
use Rattle.walk_steps.proofs.Worlds.{IsAt, given-by}

-- ---- a client alone

free-closed : (Heard : ℕ → Tag → Type 0) (Given : ℕ → Grant → ℕ → Type 0) → Closed Heard Given (λ k. Unit {0})
free-closed Heard Given = record {
  uses = λ k file h. tt;
  drops = λ k file h. tt;
  vacates = λ k file tag can h. tt;
  asks = λ k job request plain can h. tt;
  decides = λ k job request seq can h. tt;
  again = λ k t is h. tt;
  holds = λ k file g sent given free unnoticed h. tt;
  cancels = λ k file h. tt;
  notes = λ k file tag heard h. tt;
}

abbrev none-heard : ℕ → Tag → Type 0
none-heard file tag = ⊥

abbrev none-given : ℕ → Grant → ℕ → Type 0
none-given file g sent = ⊥

-- ---- before a step

-- a lease that is covered is chained
covered-chained : (s : Server) (phase : Phase) (table : Table) (who : Who) (file : ℕ) (mode : Mode) (tag : Tag) (until : ℕ) → table ≡ s.table
    → IsCovered s phase (claim_of who file mode tag until) → (row : Row) × IsChained (standing_in phase table) who file tag row
covered-chained s serving table who file mode tag until same h =
    let k : HasFitting (claim_of who file mode tag until) table = subst (λ t. HasFitting (claim_of who file mode tag until) t) (sym same) h in
    (k.row, record { own = record { stands = k.stands; holder = k.fits.holder }; began = k.fits.began })
covered-chained s (recovering end heard last) table who file mode tag until same h =
    let k = h.fitting in (k.row, record { own = record { stands = k.stands; holder = k.fits.holder }; began = k.fits.began })

-- what is known of a client before its step
pub record Before (s : Server) (events : List Event) (host : ℕ) (c : Client) (ps : List Packet) : Type 0 where
  pub there : IsAt host c ps
  pub knows : KnowsOf (line_for s.kept c.who) s events c ps
  pub fits : ChainFits s c ps

begins-mid : (s : Server) (events : List Event) (host : ℕ) (c : Client) (ps : List Packet) → Before s events host c ps → MidOf s ps (begun c)
begins-mid s events host c ps b = record {
  held = b.fits.held;
  given = b.fits.given;
  writes = b.fits.writes;
  line = b.fits.line;
  live = λ file l e caching runs.
      let asked = (b.there.alone.asking.leased file l e).term in
      covered-chained s s.phase s.table c.who file l.mode l.tag _ refl (b.knows.covered.held file l e caching (omega arith));
  fresh = λ x a told inc. (b.there.mail.replied x a told inc).number;
}

-- ---- after a step

-- what a client sends leaves what it knows
pub fits-sends : (s : Server) (c : Client) (ps : List Packet) (host : ℕ) (sends : List Message) → ChainFits s c ps → ChainFits s c (packets_with ps host sends)
fits-sends s c ps host sends h = record {
  held = h.held;
  given =
      record {
        fits = λ file g t k. h.given.fits file g t
            (record {
              x = k.x;
              a = k.a;
              told = old-told ps host c.who.host sends (reply k.x k.a) k.told;
              inc = k.inc;
              asked = k.asked;
              number = k.number;
              on_file = k.on_file;
              gives = k.gives;
            });
      };
  writes = h.writes;
  line =
      record {
        above = h.line.above;
        drawn = h.line.drawn;
        last = h.line.last;
        replied = λ x a t n told. h.line.replied x a t n
            (old-told ps host c.who.host sends (reply x a) told);
        decided = h.line.decided;
      };
}

mid-fits : (s : Server) (ps : List Packet) (host : ℕ) (t : ClientStep) → MidOf s ps t → ChainFits s t.client (packets_with ps host t.sends)
mid-fits s ps host t h = fits-sends s t.client ps host t.sends (record { held = h.held; given = h.given; writes = h.writes; line = h.line })

-- ---- steps

module _ (s : Server) (events : List Event) (host : ℕ) (c : Client) (ps : List Packet) (b : Before s events host c ps) where
  -- where no call is under way, the request under way is not the call's
  idle : c.call ≡ None → ticket_is_for_call c.ticket ≡ false
  idle none = step c.ticket refl
    where
      jobs : (t : Ticket) (job : Job) → t.job ≡ job → c.ticket ≡ Some t → ticket_is_for_call (Some t) ≡ false
      jobs t Job.attaching j e = rw j refl
      jobs t Job.for_call j e =
          let some : is_some c.call ≡ true = b.there.alone.asking.called t e j in let gone : is_some c.call ≡ false = ap is_some none in absurd (cc)
      jobs t Job.renewing j e = rw j refl
      jobs t Job.pushing j e = rw j refl

      step : (o : Option Ticket) → c.ticket ≡ o → ticket_is_for_call o ≡ false
      step None e = refl
      step (Some t) e = jobs t t.job refl e

  busy-mid : (op : Call) → MidOf s ps (says_busy (begins_call c op))
  unfolding says_busy begins_call
  busy-mid op = begins-mid s events host c ps b

  told-mid : (op : Call) (q file : ℕ) → c.call ≡ None → MidOf s ps (names_losses (begins_call c op) q file)
  unfolding answers begins_call
  told-mid op q file none = mid-calls s ps (view_of (begun c)) None (idle none) (λ u e. none-some u e) (begins-mid s events host c ps b)

  called-mid : (op : Call) → c.call ≡ None → MidOf s ps (is_called (begins_call c op) op)
  unfolding is_called begins_call
  called-mid op none = mid-calls s ps (view_of (begun c)) (Some (record { q = c.calls + 1; call = op; through = false; written = false })) (idle none)
      (λ u e on. let one : record { q = c.calls + 1; call = op; through = false; written = false } ≡ u = some-same _ u e in
      let off : u.through ≡ false = ap (λ z. z.through) (sym one) in absurd (cc))
      (begins-mid s events host c ps b)

  call-mid : (op : Call) → DelayingOf (client_call c op).client → MidOf s ps (client_call c op)
  call-mid op = call-cases c op (λ t. DelayingOf t.client → MidOf s ps t) (record {
    busy = λ why d. busy-mid op;
    telling = λ file loss losses none on changed is d. told-mid op _ file none;
    going = λ none on losses d. unless-cached-cases (settle (is_called (begins_call c op) op)) (λ t. DelayingOf t.client → MidOf s ps t)
        (λ cached e. mid-settles s ps (is_called (begins_call c op) op) (called-mid op none))
        (λ waits e. mid-goes-on s ps false (is_called (begins_call c op) op) (called-mid op none) e) d;
  })

  pub call-fits : (op : Call) → ChainFits s (client_call c op).client (packets_with ps host (client_call c op).sends)
  call-fits op = mid-fits s ps host (client_call c op) (call-mid op (call-keeps (free-closed none-heard none-given) c op b.there.alone tt).alone.delaying)

  timed-mid : MidOf s ps (begun (at_time c (c.now + 1)))
  unfolding at_time
  timed-mid = mid-passes s ps (view_of (begun c)) (c.now + 1) (omega arith) (begins-mid s events host c ps b)

  timed-ticket : (ticket : Ticket) → c.ticket ≡ Some ticket → (begun (at_time c (c.now + 1))).client.ticket ≡ Some ticket
  unfolding at_time
  timed-ticket ticket e = e

  again-mid : (t : ClientStep) (ticket : Ticket) → t.client.ticket ≡ Some ticket → MidOf s ps t → MidOf s ps (sends_again t ticket)
  unfolding sends_again
  again-mid t ticket e h = mid-again s ps (view_of t) ticket e h

  tick-mid : DelayingOf (client_tick c (c.now + 1)).client → MidOf s ps (client_tick c (c.now + 1))
  tick-mid = tick-cases c (c.now + 1) (λ t. DelayingOf t.client → MidOf s ps t) (record {
    again = λ ticket e late d. again-mid (begun (at_time c (c.now + 1))) ticket (timed-ticket ticket e) timed-mid;
    quiet = λ ticket e early d. timed-mid;
    free = λ e d. mid-goes-on s ps true (begun (at_time c (c.now + 1))) timed-mid d;
  })

  pub tick-fits : ChainFits s (client_tick c (c.now + 1)).client (packets_with ps host (client_tick c (c.now + 1)).sends)
  tick-fits =
      mid-fits s ps host (client_tick c (c.now + 1))
      (tick-mid (tick-keeps (free-closed none-heard none-given) c (c.now + 1) (omega arith) b.there.alone tt).alone.delaying)

  -- ---- a datagram

  answered : (xid : ℕ) (r : Reply) (ticket : Ticket) → Told ps c.who.host (reply xid r) → c.ticket ≡ Some ticket → xid ≡ ticket.xid
      → inc_of r ≡ c.who.inc → reply_counts r ticket ≡ true → Answered s ps c ticket r
  answered xid r ticket told asked same inc counts = record {
    asked = asked;
    alone = b.there.alone;
    counts = counts;
    decided = λ n sq.
        let d = b.knows.lined.answered xid r told inc ticket asked (sym same) n sq in
        let drawn = b.fits.line.drawn d.inc in
        let last = b.fits.line.last ticket n asked sq in
        let decided = d.decided in
        (d.inc, omega arith, b.fits.line.replied xid r ticket n told inc asked (sym same) sq);
    ready = λ file g on gives.
        let take : IsTakeable ps c.who c.ticket file g ticket = record
        { x = xid; a = r; told = told; inc = inc; asked = asked; number = sym same; on_file = on; gives = gives } in
        record {
          fits = b.fits.given.fits file g ticket take;
          live = λ caching runs. covered-chained s s.phase s.table c.who file g.mode g.tag _ refl (b.knows.covered.given file g ticket take caching runs);
        };
  }

  replying : (xid : ℕ) (r : Reply) (ticket : Ticket) → Told ps c.who.host (reply xid r) → c.ticket ≡ Some ticket → xid ≡ ticket.xid
      → inc_of r ≡ c.who.inc → reply_counts r ticket ≡ true → Replying (given-by ticket) (λ k. Unit {0}) c ticket r
  replying xid r ticket told asked same inc counts = record {
    asked = asked;
    counts = counts;
    alone = b.there.alone;
    spent = λ other. tt;
    attached = λ job. tt;
    brings = λ file on g grants. (on, (b.there.mail.replied xid r told inc).wants ticket asked (sym same) g grants file on);
    only = λ file g at given. given;
  }

  heard-mid : (k : ℕ) (m : Message) (t : ClientStep) → Told ps c.who.host m → hear c k m ≡ Some t → MidOf s ps t
  heard-mid k m t sent hears = heard-cases c k m t (MidOf s ps) hears (record {
    answered = λ xid r ticket is asked same inc counts.
        let told : Told ps c.who.host (reply xid r) = subst (λ n. Told ps c.who.host n) is sent in
        mid-goes-on s ps false (replied (begun c) k ticket r)
        (mid-replied s ps c k ticket r (begins-mid s events host c ps b) (answered xid r ticket told asked same inc counts))
        (reply-keeps (free-closed none-heard (given-by ticket)) c k ticket r (replying xid r ticket told asked same inc counts)).alone.delaying;
    noticed = λ xid file tag is later.
        mid-goes-on s ps false (evicted (cancels (begun c) file) file tag)
        (mid-evicted s ps (begun c) file tag (begins-mid s events host c ps b))
        (notice-keeps (free-closed (λ f v. Unit {0}) none-given) c file tag tt (λ g sent bad. bad) b.there.alone tt).alone.delaying;
  })

  pub heard-fits : (k : ℕ) (m : Message) (t : ClientStep) → Told ps c.who.host m → hear c k m ≡ Some t → ChainFits s t.client (packets_with ps host t.sends)
  heard-fits k m t sent hears = mid-fits s ps host t (heard-mid k m t sent hears)
