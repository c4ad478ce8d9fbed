-- The request under way after a step of a client: it is the one before, or it was sent in the step.
use Rattle.std.proofs.Common.{◌≡◌, ◌≤◌, ℕ, ◌+◌, true, List, [], ◌∷◌, ◌++◌, Option, Some, None, refl, sym, subst, ap, ◌∙◌, arith, inl}
use Rattle.nq_base.specs.declared.Call.{Call}
use Rattle.nq_base.specs.declared.Grant.{Grant}
use Rattle.nq_base.specs.declared.Reply.{Reply}
use Rattle.nq_base.specs.declared.Request.{Request}
use Rattle.nq_base.specs.declared.Tag.{Tag}
use Rattle.nq_base.specs.declared.Who.{Who}
use Rattle.nq_model.specs.protocol.Client.{Client, ClientStep, begun, Ticket}
use Rattle.nq_model.specs.protocol.ClientStep.{client_call, client_tick, at_time}
use Rattle.nq_model.specs.protocol.Hear.{inc_of, reply_counts, hear, goes_on, replied, evicted, cancels}
use Rattle.nq_model.specs.protocol.Message.{Message, Packet, call, reply, sequence_of}
use Rattle.walk_steps.proofs.ClientCases.{Core, core_of, Closed}
use Rattle.walk_steps.proofs.ClientFacts.{Alone}
use Rattle.walk_steps.proofs.ClientMoves.{some-same, none-some, keeps-or-cancels}
use Rattle.walk_steps.proofs.ClientWalk.{reply-keeps, notice-keeps, call-keeps, tick-keeps}
use Rattle.walk_steps.proofs.StepCases.{heard-cases}
use Rattle.walk_steps.proofs.Packets.{In, in-left, in-right, Told}
use Rattle.walk_steps.proofs.ServerKnows.{NoneHeard, NoneGiven}
use Rattle.walk_steps.proofs.Worlds.{IsAt, given-by}

-- a request under way: the same as before; or sent again; or a new one, whose sequence, if it has one, was drawn now
pub data TicketIs (old : Option Ticket) (seq : ℕ) (sends : List Message) (t : Ticket) : Type 0 where
  kept : old ≡ Some t → TicketIs old seq sends t
  resent : (u : Ticket) → old ≡ Some u → u.xid ≡ t.xid → u.request ≡ t.request → In sends (call t.xid t.request) → TicketIs old seq sends t
  fresh : In sends (call t.xid t.request) → ((n : ℕ) → sequence_of t.request ≡ Some n → seq ≤ n) → TicketIs old seq sends t

is-longer : {old : Option Ticket} {seq : ℕ} {t : Ticket} (sends more : List Message) → TicketIs old seq sends t → TicketIs old seq (sends ++ more) t
is-longer sends more (kept same) = kept same
is-longer {t = t} sends more (resent u was xid request i) = resent u was xid request (in-left sends more (call t.xid t.request) i)
is-longer {t = t} sends more (fresh i above) = fresh (in-left sends more (call t.xid t.request) i) above

is-again : {old : Option Ticket} {seq : ℕ} {t : Ticket} (now : ℕ) (sends : List Message) → TicketIs old seq sends t
    → TicketIs old seq (sends ++ call t.xid t.request ∷ []) (record t { last = now })
is-again {t = t} now sends (kept same) = resent t same refl refl (in-right sends (call t.xid t.request ∷ []) (call t.xid t.request) (inl refl))
is-again {t = t} now sends (resent u was xid request i) = resent u was xid request (in-right sends (call t.xid t.request ∷ []) (call t.xid t.request)
    (inl refl))
is-again {t = t} now sends (fresh i above) = fresh (in-right sends (call t.xid t.request ∷ []) (call t.xid t.request) (inl refl)) above

-- in the middle of a step, before which this request was under way and this sequence was to be drawn next
pub record Renews (who : Who) (now : ℕ) (old : Option Ticket) (seq : ℕ) (k : Core) : Type 0 where
  pub same : k.who ≡ who
  pub time : k.now ≡ now
  pub grows : seq ≤ k.seq
  pub ticket : (t : Ticket) → k.ticket ≡ Some t → TicketIs old seq k.sends t
  -- the sequence of a request under way was drawn last
  pub last : (t : Ticket) (n : ℕ) → k.ticket ≡ Some t → sequence_of t.request ≡ Some n → n + 1 ≡ k.seq

renews-closed : (who : Who) (now : ℕ) (old : Option Ticket) (seq : ℕ) (Heard : ℕ → Tag → Type 0) (Given : ℕ → Grant → ℕ → Type 0)
    → Closed Heard Given (Renews who now old seq)
renews-closed who now old seq Heard Given = record {
  uses = λ k file g. record { same = g.same; time = g.time; grows = g.grows; ticket = g.ticket; last = g.last };
  drops = λ k file g. record { same = g.same; time = g.time; grows = g.grows; ticket = g.ticket; last = g.last };
  vacates = λ k file tag can g. record {
    same = g.same;
    time = g.time;
    grows = g.grows;
    ticket = λ t e. is-longer k.sends (call k.xid (Request.Vacated k.who file tag) ∷ []) (g.ticket t e);
    last = g.last;
  };
  asks = λ k job request no_seq can g. record {
    same = g.same;
    time = g.time;
    grows = g.grows;
    ticket = λ t e. asked k (record { xid = k.xid; first = k.now; last = k.now; request = request; job = job }) (λ n sq. none-some n (sym no_seq ∙ sq)) t e;
    last = λ t n e sq. none-some n (sym no_seq ∙ ap (λ (u : Ticket). sequence_of u.request) (some-same _ t e) ∙ sq);
  };
  decides = λ k job request draws can g. record {
    same = g.same;
    time = g.time;
    grows = let up = g.grows in omega arith;
    ticket = λ t e. asked k (record { xid = k.xid; first = k.now; last = k.now; request = request; job = job }) (λ n sq. let own : k.seq ≡ n =
        some-same k.seq n (sym draws ∙ sq) in let up = g.grows in omega arith) t e;
    last = λ t n e sq. let own : k.seq ≡ n = some-same k.seq n (sym draws ∙ ap (λ (u : Ticket). sequence_of u.request) (some-same _ t e) ∙ sq) in omega arith;
  };
  again = λ k t is g. record {
    same = g.same;
    time = g.time;
    grows = g.grows;
    ticket = λ u e. subst (λ v. TicketIs old seq (k.sends ++ call t.xid t.request ∷ []) v) (some-same _ u e) (is-again k.now k.sends (g.ticket t is));
    last = λ u n e sq. g.last t n is (ap (λ (v : Ticket). sequence_of v.request) (some-same _ u e) ∙ sq);
  };
  holds = λ k file gr sent given free unnoticed g. record { same = g.same; time = g.time; grows = g.grows; ticket = g.ticket; last = g.last };
  cancels = λ k file g. record {
    same = g.same;
    time = g.time;
    grows = g.grows;
    ticket = λ t e. g.ticket t (keeps-or-cancels file k.ticket t e).0;
    last = λ t n e sq. g.last t n (keeps-or-cancels file k.ticket t e).0 sq;
  };
  notes = λ k file tag heard g. record { same = g.same; time = g.time; grows = g.grows; ticket = g.ticket; last = g.last };
}
  where
    asked : (k : Core) (new : Ticket) → ((n : ℕ) → sequence_of new.request ≡ Some n → seq ≤ n) → (t : Ticket) → Some new ≡ Some t
        → TicketIs old seq (k.sends ++ call new.xid new.request ∷ []) t
    asked k new above t e = subst (λ v. TicketIs old seq (k.sends ++ call new.xid new.request ∷ []) v) (some-same new t e)
        (fresh (in-right k.sends (call new.xid new.request ∷ []) (call new.xid new.request) (inl refl)) above)

-- ---- steps

-- the sequence of the request under way was drawn last
abbrev pub LastDrawn : Client → Type 0
LastDrawn c = (t : Ticket) (n : ℕ) → c.ticket ≡ Some t → sequence_of t.request ≡ Some n → n + 1 ≡ c.seq

abbrev pub Renewed : Client → (now : ℕ) → Option Ticket → ClientStep → Type 0
Renewed c now old t = Renews c.who now old c.seq (core_of t)

begun-renews : (c : Client) → LastDrawn c → Renews c.who c.now c.ticket c.seq (core_of (begun c))
begun-renews c drawn = record { same = refl; time = refl; grows = omega arith; ticket = λ t e. kept e; last = drawn }

timed-renews : (c : Client) (now : ℕ) → LastDrawn c → Renews c.who now c.ticket c.seq (core_of (begun (at_time c now)))
unfolding at_time
timed-renews c now drawn = record { same = refl; time = refl; grows = omega arith; ticket = λ t e. kept e; last = drawn }

pub call-renews : (c : Client) (op : Call) → Alone c → LastDrawn c → Renewed c c.now c.ticket (client_call c op)
call-renews c op alone drawn = (call-keeps (renews-closed c.who c.now c.ticket c.seq NoneHeard NoneGiven) c op alone (begun-renews c drawn)).core

pub tick-renews : (c : Client) → Alone c → LastDrawn c → Renewed c (c.now + 1) c.ticket (client_tick c (c.now + 1))
tick-renews c alone drawn = (tick-keeps (renews-closed c.who (c.now + 1) c.ticket c.seq NoneHeard NoneGiven) c (c.now + 1) (omega arith) alone
    (timed-renews c (c.now + 1) drawn)).core

-- after a reply that counts no request is the one before
pub reply-renews : (host : ℕ) (c : Client) (ps : List Packet) (k : ℕ) (r : Reply) (ticket : Ticket) → IsAt host c ps
    → Told ps host (reply ticket.xid r) → c.ticket ≡ Some ticket → inc_of r ≡ c.who.inc → reply_counts r ticket ≡ true → Renewed c c.now None
    (goes_on (replied (begun c) k ticket r))
reply-renews host c ps k r ticket a sent asks inc counts =
    let there : Told ps c.who.host (reply ticket.xid r) = subst (λ h. Told ps h (reply ticket.xid r)) (sym a.here) sent in
    (reply-keeps (renews-closed c.who c.now None c.seq NoneHeard (given-by ticket)) c k ticket r (record {
      asked = asks;
      counts = counts;
      alone = a.alone;
      spent = λ other. record { same = refl; time = refl; grows = omega arith; ticket = λ t e. none-some t e; last = λ t n e. none-some t e };
      attached = λ job. record { same = refl; time = refl; grows = omega arith; ticket = λ t e. none-some t e; last = λ t n e. none-some t e };
      brings = λ file on_file g grants. (on_file, (a.mail.replied ticket.xid r there inc).wants ticket asks refl g grants file on_file);
      only = λ file g at given. given;
    })).core

pub notice-renews : (c : Client) (file : ℕ) (tag : Tag) → Alone c → LastDrawn c → Renewed c c.now c.ticket
    (goes_on (evicted (cancels (begun c) file) file tag))
notice-renews c file tag alone drawn = (notice-keeps (renews-closed c.who c.now c.ticket c.seq (λ f v. Unit {0}) NoneGiven) c file tag tt
    (λ g at bad. bad) alone (begun-renews c drawn)).core

-- whatever is heard
pub hear-renews : (host : ℕ) (c : Client) (ps : List Packet) (k : ℕ) (m : Message) (t : ClientStep) → IsAt host c ps → Told ps host m → LastDrawn c
    → hear c k m ≡ Some t → Renewed c c.now c.ticket t
hear-renews host c ps k m t a sent drawn hears = heard-cases c k m t (λ u. Renewed c c.now c.ticket u) hears (record {
  answered = λ xid r ticket is asks own inc counts. wider (goes_on (replied (begun c) k ticket r)) (reply-renews host c ps k r ticket a
      (subst (λ n. Told ps host n) (is ∙ ap (λ n. reply n r) own) sent) asks inc counts);
  noticed = λ xid file tag is older. notice-renews c file tag a.alone drawn;
})
  where
    widen : (sends : List Message) (v : Ticket) → TicketIs None c.seq sends v → TicketIs c.ticket c.seq sends v
    widen sends v (kept same) = none-some v same
    widen sends v (resent w was xid request i) = none-some w was
    widen sends v (fresh i above) = fresh i above

    wider : (u : ClientStep) → Renewed c c.now None u → Renewed c c.now c.ticket u
    wider u g = record { same = g.same; time = g.time; grows = g.grows; ticket = λ v e. widen u.sends v (g.ticket v e); last = g.last }
