-- All that a client's step sends is of its own incarnation.
use Rattle.std.proofs.Common.{◌≡◌, ◌⊎◌, ℕ, ◌+◌, Bool, true, false, List, [], ◌∷◌, ◌++◌, Option, Some, None, if◌then◌else◌, refl, sym, subst, ap, ◌∙◌}
use Rattle.std.proofs.Common.{arith, inl, inr}
use Rattle.nq_base.specs.declared.Call.{Call}
use Rattle.nq_base.specs.declared.Grant.{Grant}
use Rattle.nq_base.specs.declared.Request.{Request}
use Rattle.nq_base.specs.declared.Tag.{Tag}
use Rattle.nq_base.specs.declared.Who.{Who}
use Rattle.walk_steps.proofs.StepCases.{heard-cases}
use Rattle.walk_steps.proofs.ClientCases.{Core, core_of, after_request, Closed}
use Rattle.walk_steps.proofs.ClientFacts.{Alone}
use Rattle.walk_steps.proofs.ClientMoves.{none-some, some-same}
use Rattle.walk_steps.proofs.ClientWalk.{reply-keeps, notice-keeps, call-keeps, tick-keeps}
use Rattle.nq_model.specs.protocol.Client.{Client, ClientStep, Job, Ticket, begun}
use Rattle.nq_model.specs.protocol.ClientStep.{client_call, client_tick, at_time}
use Rattle.nq_model.specs.protocol.Hear.{hear, cancelled, wants_of}
use Rattle.nq_model.specs.protocol.Message.{Message, Packet, call, asker}
use Rattle.walk_steps.proofs.Packets.{In, in-last, Told, Mail}
use Rattle.walk_steps.proofs.Worlds.{given-by}

-- a message asks something for an incarnation
pub record IsBy (who : Who) (m : Message) : Type 0 where
  pub xid : ℕ
  pub asks : Request
  pub is : m ≡ call xid asks
  pub by : asker asks ≡ Some who

-- all that was sent in a step, and the request under way
pub record OwnSends (who : Who) (k : Core) : Type 0 where
  pub same : k.who ≡ who
  pub ticket : (t : Ticket) → k.ticket ≡ Some t → asker t.request ≡ Some who
  pub sends : (m : Message) → In k.sends m → IsBy who m

one-more : (who : Who) (sends : List Message) (m : Message) → IsBy who m → ((n : Message) → In sends n → IsBy who n) → (n : Message)
    → In (sends ++ m ∷ []) n → IsBy who n
one-more who sends m by all n h = step (in-last sends m n h)
  where
    step : In sends n ⊎ (m ≡ n) → IsBy who n
    step (inl old) = all n old
    step (inr e) = subst (IsBy who) e by

was-there : (file : ℕ) (o : Option Ticket) (t : Ticket) → cancelled file o ≡ Some t → o ≡ Some t
was-there file None t e = none-some t e
was-there file (Some u) t e = by (wants_of file u.request) e
  where
    by : (b : Bool) → (if b then None else Some u) ≡ Some t → Some u ≡ Some t
    by true e = none-some t e
    by false e = e

-- a request is sent
sent : (who : Who) (k : Core) (job : Job) (request : Request) → asker request ≡ Some who → OwnSends who k → OwnSends who (after_request k job request)
sent who k job request by h = record {
  same = h.same;
  ticket = λ t e. ap asker (ap (λ z. z.request) (sym (some-same _ t e))) ∙ by;
  sends = one-more who k.sends (call k.xid request) (record { xid = k.xid; asks = request; is = refl; by = by }) h.sends;
}

own-closed : (who : Who) (Heard : ℕ → Tag → Type 0) (Given : ℕ → Grant → ℕ → Type 0) → Closed Heard Given (OwnSends who)
own-closed who Heard Given = record {
  uses = λ k file h. record { same = h.same; ticket = h.ticket; sends = h.sends };
  drops = λ k file h. record { same = h.same; ticket = h.ticket; sends = h.sends };
  vacates =
      λ k file tag can h. record {
        same = h.same;
        ticket = h.ticket;
        sends = one-more who k.sends (call k.xid (Request.Vacated k.who file tag))
            (record { xid = k.xid; asks = Request.Vacated k.who file tag; is = refl; by = ap Some h.same }) h.sends;
      };
  asks = λ k job request no_seq can h. sent who k job request (can.asks ∙ ap Some h.same) h;
  decides =
      λ k job request seq can h. let s = sent who k job request (can.asks ∙ ap Some h.same) h in
      record { same = s.same; ticket = s.ticket; sends = s.sends };
  again =
      λ k t is h. record {
        same = h.same;
        ticket = λ u e. ap asker (ap (λ z. z.request) (sym (some-same _ u e)))
            ∙ h.ticket t is;
        sends = one-more who k.sends (call t.xid t.request) (record { xid = t.xid; asks = t.request; is = refl; by = h.ticket t is })
            h.sends;
      };
  holds = λ k file g at given free unnoticed h. record { same = h.same; ticket = h.ticket; sends = h.sends };
  cancels = λ k file h. record { same = h.same; ticket = λ t e. h.ticket t (was-there file k.ticket t e); sends = h.sends };
  notes = λ k file tag heard h. record { same = h.same; ticket = h.ticket; sends = h.sends };
}

abbrev none-heard : ℕ → Tag → Type 0
none-heard file tag = ⊥

abbrev any-heard : ℕ → Tag → Type 0
any-heard file tag = Unit {0}

abbrev none-given : ℕ → Grant → ℕ → Type 0
none-given file g at = ⊥

begun-own : (c : Client) → Alone c → OwnSends c.who (core_of (begun c))
begun-own c a = record { same = refl; ticket = λ t e. (a.asking.ticketed t e).asks; sends = λ m i. absurd i }

-- what a step has sent
abbrev pub AllOwn : Who → ClientStep → Type 0
AllOwn who t = (m : Message) → In t.sends m → IsBy who m

pub call-own : (c : Client) (op : Call) → Alone c → OwnSends c.who (core_of (client_call c op))
call-own c op a = (call-keeps (own-closed c.who none-heard none-given) c op a (begun-own c a)).core

timed-own : (c : Client) (now : ℕ) → Alone c → OwnSends c.who (core_of (begun (at_time c now)))
unfolding at_time
timed-own c now a = record { same = refl; ticket = λ t e. (a.asking.ticketed t e).asks; sends = λ m i. absurd i }

pub tick-own : (c : Client) → Alone c → OwnSends c.who (core_of (client_tick c (c.now + 1)))
tick-own c a = (tick-keeps (own-closed c.who none-heard none-given) c (c.now + 1) (omega arith) a (timed-own c (c.now + 1) a)).core

pub hear-own : (c : Client) (ps : List Packet) (k : ℕ) (m : Message) (t : ClientStep) → Alone c → Mail c.who c.xid c.ticket ps → Told ps c.who.host m
    → hear c k m ≡ Some t → OwnSends c.who (core_of t)
hear-own c ps k m t a mail sent hears = heard-cases c k m t (λ z. OwnSends c.who (core_of z)) hears (record {
  answered = λ xid r ticket is asked number inc counts.
      (reply-keeps (own-closed c.who none-heard (given-by ticket)) c k ticket r (record {
        asked = asked;
        counts = counts;
        alone = a;
        spent = λ other. record { same = refl; ticket = λ u e. none-some u e; sends = λ n i. absurd i };
        attached = λ job. record { same = refl; ticket = λ u e. none-some u e; sends = λ n i. absurd i };
        brings =
            λ file on g grants. (on, (mail.replied xid r (subst (λ n. Told ps c.who.host n) is sent) inc).wants ticket asked (sym number) g grants file on);
        only = λ file g at given. given;
      })).core;
  noticed = λ xid file tag is later. (notice-keeps (own-closed c.who any-heard none-given) c file tag tt (λ g at bad. bad) a (begun-own c a)).core;
})
