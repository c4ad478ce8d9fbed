-- The request under way after a step of a client: it is the one before, but for its sending times, or its number was to be drawn yet.
use Rattle.std.proofs.Common.{◌≡◌, ◌⊎◌, ◌≤◌, ℕ, ◌+◌, List, Option, Some, None, refl, sym, subst, ap, ◌∙◌, inl, inr, arith, true}
use Rattle.nq_base.specs.declared.Call.{Call}
use Rattle.nq_base.specs.declared.Grant.{Grant}
use Rattle.nq_base.specs.declared.Reply.{Reply}
use Rattle.nq_base.specs.declared.Tag.{Tag}
use Rattle.nq_base.specs.declared.Who.{Who}
use Rattle.nq_model.specs.protocol.Client.{Client, ClientStep, Ticket, begun}
use Rattle.nq_model.specs.protocol.ClientStep.{client_call, client_tick, at_time}
use Rattle.nq_model.specs.protocol.Hear.{hear, inc_of, reply_counts, goes_on, replied}
use Rattle.nq_model.specs.protocol.Message.{Message, Packet, reply}
use Rattle.walk_steps.proofs.ClientCases.{Core, core_of, Closed}
use Rattle.walk_steps.proofs.ClientFacts.{Alone}
use Rattle.walk_steps.proofs.ClientMoves.{some-same, none-some, keeps-or-cancels}
use Rattle.walk_steps.proofs.ClientWalk.{reply-keeps, notice-keeps, call-keeps, tick-keeps}
use Rattle.walk_steps.proofs.Packets.{Told}
use Rattle.walk_steps.proofs.ServerKnows.{NoneHeard, NoneGiven}
use Rattle.walk_steps.proofs.StepCases.{heard-cases}
use Rattle.walk_steps.proofs.Worlds.{IsAt, given-by}

abbrev pub IsOldOrNew : Option Ticket → (xid : ℕ) → Ticket → Type 0
IsOldOrNew old xid t = ((u : Ticket) × (old ≡ Some u) × (u.xid ≡ t.xid) × (u.request ≡ t.request) × (u.job ≡ t.job)) ⊎ (xid ≤ t.xid)

pub record Numbers (who : Who) (old : Option Ticket) (xid : ℕ) (k : Core) : Type 0 where
  pub same : k.who ≡ who
  pub grows : xid ≤ k.xid
  pub ticket : (t : Ticket) → k.ticket ≡ Some t → IsOldOrNew old xid t

numbers-closed : (who : Who) (old : Option Ticket) (xid : ℕ) (Heard : ℕ → Tag → Type 0) (Given : ℕ → Grant → ℕ → Type 0)
    → Closed Heard Given (Numbers who old xid)
numbers-closed who old xid Heard Given = record {
  uses = λ k file g. record { same = g.same; grows = g.grows; ticket = g.ticket };
  drops = λ k file g. record { same = g.same; grows = g.grows; ticket = g.ticket };
  vacates = λ k file tag can g. record { same = g.same; grows = let up = g.grows in omega arith; ticket = g.ticket };
  asks = λ k job request none can g. record {
    same = g.same;
    grows = let up = g.grows in omega arith;
    ticket = λ t e. inr (new k.xid t (ap (λ (u : Ticket). u.xid) (some-same _ t e)) g.grows);
  };
  decides = λ k job request draws can g. record {
    same = g.same;
    grows = let up = g.grows in omega arith;
    ticket = λ t e. inr (new k.xid t (ap (λ (u : Ticket). u.xid) (some-same _ t e)) g.grows);
  };
  again = λ k t is g. record {
    same = g.same;
    grows = g.grows;
    ticket = λ u e. subst (λ v. IsOldOrNew old xid v) (some-same (record t { last = k.now }) u e) (g.ticket t is);
  };
  holds = λ k file gr sent given free unnoticed g. record { same = g.same; grows = g.grows; ticket = g.ticket };
  cancels = λ k file g. record { same = g.same; grows = g.grows; ticket = λ t e. g.ticket t (keeps-or-cancels file k.ticket t e).0 };
  notes = λ k file tag heard g. record { same = g.same; grows = g.grows; ticket = g.ticket };
}
  where
    new : (n : ℕ) (t : Ticket) → n ≡ t.xid → xid ≤ n → xid ≤ t.xid
    new n t is up = omega arith

abbrev pub Numbered : Client → ClientStep → Type 0
Numbered c t = Numbers c.who c.ticket c.xid (core_of t)

begun-numbers : (c : Client) → Numbers c.who c.ticket c.xid (core_of (begun c))
begun-numbers c = record { same = refl; grows = omega arith; ticket = λ t e. inl (t, e, refl, refl, refl) }

timed-numbers : (c : Client) (now : ℕ) → Numbers c.who c.ticket c.xid (core_of (begun (at_time c now)))
unfolding at_time
timed-numbers c now = record { same = refl; grows = omega arith; ticket = λ t e. inl (t, e, refl, refl, refl) }

pub call-numbers : (c : Client) (op : Call) → Alone c → Numbered c (client_call c op)
call-numbers c op alone = (call-keeps (numbers-closed c.who c.ticket c.xid NoneHeard NoneGiven) c op alone (begun-numbers c)).core

pub tick-numbers : (c : Client) → Alone c → Numbered c (client_tick c (c.now + 1))
tick-numbers c alone =
    (tick-keeps (numbers-closed c.who c.ticket c.xid NoneHeard NoneGiven) c (c.now + 1) (omega arith) alone (timed-numbers c (c.now + 1))).core

-- after a reply that counts no request is the one before
reply-numbers : (host : ℕ) (c : Client) (ps : List Packet) (k : ℕ) (r : Reply) (ticket : Ticket) → IsAt host c ps
    → Told ps host (reply ticket.xid r) → c.ticket ≡ Some ticket → inc_of r ≡ c.who.inc → reply_counts r ticket ≡ true
    → Numbers c.who None c.xid (core_of (goes_on (replied (begun c) k ticket r)))
reply-numbers host c ps k r ticket a sent asks inc counts =
    let there : Told ps c.who.host (reply ticket.xid r) = subst (λ h. Told ps h (reply ticket.xid r)) (sym a.here) sent in
    (reply-keeps (numbers-closed c.who None c.xid NoneHeard (given-by ticket)) c k ticket r (record {
      asked = asks;
      counts = counts;
      alone = a.alone;
      spent = λ other. record { same = refl; grows = omega arith; ticket = λ t e. none-some t e };
      attached = λ job. record { same = refl; grows = omega arith; ticket = λ t e. none-some t e };
      brings = λ file on_file g grants. (on_file, (a.mail.replied ticket.xid r there inc).wants ticket asks refl g grants file on_file);
      only = λ file g at given. given;
    })).core

pub hear-numbers : (host : ℕ) (c : Client) (ps : List Packet) (k : ℕ) (m : Message) (t : ClientStep) → IsAt host c ps → Told ps host m
    → hear c k m ≡ Some t → Numbered c t
hear-numbers host c ps k m t a sent hears = heard-cases c k m t (λ u. Numbered c u) hears (record {
  answered = λ xid r ticket is asks own inc counts. wider (goes_on (replied (begun c) k ticket r)) (reply-numbers host c ps k r ticket a
      (subst (λ n. Told ps host n) (is ∙ ap (λ n. reply n r) own) sent) asks inc counts);
  noticed = λ xid file tag is older. (notice-keeps (numbers-closed c.who c.ticket c.xid (λ f v. Unit {0}) NoneGiven) c file tag tt
      (λ g at bad. bad) a.alone (begun-numbers c)).core;
})
  where
    widen : (v : Ticket) → IsOldOrNew None c.xid v → IsOldOrNew c.ticket c.xid v
    widen v (inl old) = none-some old.0 old.1
    widen v (inr new) = inr new

    wider : (u : ClientStep) → Numbers c.who None c.xid (core_of u) → Numbered c u
    wider u g = record { same = g.same; grows = g.grows; ticket = λ v e. widen v (g.ticket v e) }
