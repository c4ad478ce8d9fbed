-- Each step of a client keeps its delayed writes bound or excused.
use Rattle.std.proofs.Common.{◌≡◌, ◌<◌, ◌≤◌, ◌⊎◌, ℕ, ◌+◌, ◌&&◌, Bool, true, false, nat_lt, List, [], ◌∷◌, Some, None, refl, subst, ap, ◌∙◌, arith, inl, inr}
use Rattle.std.proofs.lemmas.Bool.Decides.{nat_tests}
use Rattle.nq_base.specs.declared.Call.{Call}
use Rattle.nq_base.specs.declared.Entry.{Entry}
use Rattle.nq_base.specs.declared.Grant.{Grant}
use Rattle.nq_base.specs.declared.Push.{Push}
use Rattle.nq_base.specs.declared.Refusal.{Refusal}
use Rattle.nq_base.specs.declared.Reply.{Reply}
use Rattle.walk_steps.proofs.StepCases.{call-cases, unless-cached-cases, tick-cases, heard-cases}
use Rattle.walk_steps.proofs.ClientFacts.{push_in, fits_job}
use Rattle.walk_steps.proofs.ClientMoves.{some-same, none-some}
use Rattle.walk_files.proofs.Cuts.{AreCut, cut-more}
use Rattle.walk_files.proofs.HoldingReplies.{TakesFit, reply-keeps, notice-keeps}
use Rattle.walk_files.proofs.HoldingSteps.{Between, named, settled, sent-next}
use Rattle.walk_files.proofs.Holdings.{view_of, IsHeldBound, IsPastLoss, fewer, notes}
use Rattle.walk_files.proofs.Waiting.{IsWaiting}
use Rattle.nq_model.specs.protocol.Client.{Client, ClientStep, Lease, Ticket, begun, lets_write}
use Rattle.nq_model.specs.protocol.ClientStep.{begins_call, is_called, says_busy, client_call, at_time, sends_again, client_tick, starts, fresh_client}
use Rattle.nq_model.specs.protocol.ClientStep.{next_incarnation, restart}
use Rattle.nq_model.specs.protocol.Hear.{goes_on, evicted, cancels, replied, reply_counts, is_put_off, inc_of, hear}
use Rattle.nq_model.specs.protocol.Kept.{host_row}
use Rattle.nq_model.specs.laws.LeaseInterval.{grant_in, requested_file}
use Rattle.nq_model.specs.protocol.Message.{Message, reply}
use Rattle.nq_model.specs.protocol.Server.{Server}
use Rattle.nq_model.specs.protocol.Settle.{settle}
use Rattle.nq_model.specs.protocol.Table.{is_writing}
use Rattle.walk_steps.proofs.Packets.{In}

module _ (s : Server) (journal : List Entry) where
  abbrev Mid : ClientStep → Type 0
  Mid t = Between s journal t

  -- ---- a call

  begins : (c : Client) (op : Call) → Mid (begun c) → Mid (begins_call c op)
  unfolding begins_call
  begins c op h = notes s c.who c.now journal (view_of (begun c)) (Entry.C c.who (c.calls + 1) _) tt refl h

  called : (t : ClientStep) (op : Call) → Mid t → Mid (is_called t op)
  unfolding is_called
  called t op h = h

  busy : (t : ClientStep) → Mid t → Mid (says_busy t)
  unfolding says_busy
  busy t h = notes s t.client.who t.client.now journal (view_of t) (Entry.A t.client.who t.client.calls _) tt refl h

  -- a call keeps it
  pub call-keeps : (c : Client) (op : Call) → Mid (begun c) → Mid (client_call c op)
  call-keeps c op h = call-cases c op Mid (record {
    busy = λ why. busy (begins_call c op) (begins c op h);
    telling = λ file loss losses none on changes has. named s journal (begins_call c op) (begins_call c op).client.calls file (begins c op h);
    going =
        λ none on no_loss. let t : ClientStep = settle (is_called (begins_call c op) op) in
        let k : Mid t = settled s journal (is_called (begins_call c op) op) (called (begins_call c op) op (begins c op h)) in
        unless-cached-cases t Mid (λ from_cache. k) (λ other. sent-next s journal false t k);
  })

  -- ---- a tick

  sent-again : (t : ClientStep) (ticket : Ticket) → t.client.ticket ≡ Some ticket → Mid t → Mid (sends_again t ticket)
  unfolding sends_again
  sent-again t ticket is h =
      fewer s t.client.who t.client.now journal (view_of t) _ t.client.seq t.client.number t.client.dirty t.client.push (λ p waits. waits) (omega arith)
      (omega arith)
      (λ u n same seq. inr (ticket, is, ap (λ k. k.request) (some-same _ u same))) h

  lets-before : (now later : ℕ) (l : Lease) → now ≤ later → lets_write later l ≡ true → lets_write now l ≡ true
  lets-before now later l h lets = step (is_writing l.mode) now later l.expiry h lets
    where
      step : (b : Bool) (now later expiry : ℕ) → now ≤ later → (b && nat_lt later expiry) ≡ true → (b && nat_lt now expiry) ≡ true
      step b now later expiry h e = grind (arith, nat_tests)

  at-later : (c : Client) (later : ℕ) → c.now ≤ later → Mid (begun c) → Mid (begun (at_time c later))
  unfolding at_time
  at-later c later after h = record {
    live = λ file l held lets. h.live file l held (lets-before c.now later l after lets);
    waiting = h.waiting;
    blocks = h.blocks;
    numbers = h.numbers;
    past = h.past;
    cut = h.cut;
    untimed = h.untimed;
    own = h.own;
    drawn = h.drawn;
    refused = h.refused;
  }

  same-ticket : (c : Client) (now : ℕ) → (begun (at_time c now)).client.ticket ≡ c.ticket
  unfolding at_time
  same-ticket c now = refl

  -- a tick keeps it
  pub tick-keeps : (c : Client) (later : ℕ) → c.now ≤ later → Mid (begun c) → Mid (client_tick c later)
  tick-keeps c later after h =
      let k : Mid (begun (at_time c later)) = at-later c later after h in
      tick-cases c later Mid (record {
        again = λ ticket is due. sent-again (begun (at_time c later)) ticket (same-ticket c later ∙ is) k;
        quiet = λ ticket is soon. k;
        free = λ none. sent-next s journal true (settle (begun (at_time c later))) (settled s journal (begun (at_time c later)) k);
      })

  -- ---- a datagram

  went-on : (t : ClientStep) → Mid t → Mid (goes_on t)
  went-on t h = sent-next s journal false (settle t) (settled s journal t h)

  -- what is known of a reply that is heard: of its grant, and of the push that it refuses
  pub record HearsFit (c : Client) (ticket : Ticket) (r : Reply) : Type 0 where
    pub takes : (file : ℕ) (g : Grant) → requested_file ticket.request ≡ Some file → grant_in r ≡ Some g → TakesFit s c file g ticket.first
    pub unbound : (p : Push) (inc : ℕ) (status : Refusal) → push_in ticket.request ≡ Some p → r ≡ Reply.Refused inc status → is_put_off status ≡ false
        → IsHeldBound s c.who c.leases p.file → ⊥

  -- a datagram keeps it
  pub hear-keeps : (c : Client) (number : ℕ) (m : Message) (t : ClientStep) → hear c number m ≡ Some t
      → ((ticket : Ticket) → c.ticket ≡ Some ticket → fits_job ticket.job ticket.request ≡ true)
      → ((xid : ℕ) (r : Reply) (ticket : Ticket) → m ≡ reply xid r → c.ticket ≡ Some ticket → xid ≡ ticket.xid → inc_of r ≡ c.who.inc
      → reply_counts r ticket ≡ true → HearsFit c ticket r) → Mid (begun c) → Mid t
  hear-keeps c number m t hears fits knows h = heard-cases c number m t Mid hears (record {
    answered =
        λ xid r ticket is asked same inc counts. let k = knows xid r ticket is asked same inc counts in
        went-on (replied (begun c) number ticket r) (reply-keeps s journal c number ticket r k.takes k.unbound h (fits ticket asked) counts);
    noticed = λ xid file tag is later. went-on (evicted (cancels (begun c) file) file tag) (notice-keeps s journal c file tag h);
  })

  -- ---- a restart

  -- the next incarnation has no delayed writes
  pub restart-keeps : (c : Client) → (host_row s.kept c.who.host).inc ≤ c.who.inc → ((e : Entry) → In journal e → IsPastLoss c.who c.number e)
      → AreCut journal → Mid (restart c)
  unfolding starts fresh_client
  restart-keeps c line past cut = record {
    live = λ file l held. none-some l held;
    waiting = λ p waits. absurd (none p waits);
    blocks = λ p l waits. absurd (none p waits);
    numbers = λ p waits. absurd (none p waits);
    past = λ e there. from e there;
    cut = cut-more (Entry.B (next_incarnation c.who) ∷ []) journal (tt, tt) cut;
    untimed = refl;
    own = (tt, tt);
    drawn = λ inc. absurd (omega arith);
    refused = λ t p n asks pushes. none-push t p asks pushes;
  } where
    none : (p : Push) → IsWaiting [] None p → ⊥
    none p (inl bad) = bad
    none p (inr bad) = none-some p bad

    none-push : {A : Type 0} (t : Ticket) (p : Push) → (restart c).client.ticket ≡ Some t → push_in t.request ≡ Some p → A
    none-push t p is pushes = none-some p (ap (λ k. push_in k.request) (some-same _ t is) ∙ pushes)

    later : (e : Entry) → IsPastLoss c.who c.number e → IsPastLoss (next_incarnation c.who) 1 e
    later (Entry.L w file block first last) k = λ host. step (k host)
      where
        step : (w.inc < c.who.inc) ⊎ ((w.inc ≡ c.who.inc) × (last < c.number)) → (w.inc < c.who.inc + 1) ⊎ ((w.inc ≡ c.who.inc + 1) × (last < 1))
        step (inl before) = inl (omega arith)
        step (inr own) = let same = own.0 in inl (omega arith)
    later e k = tt

    from : (e : Entry) → (Entry.B (next_incarnation c.who) ≡ e) ⊎ In journal e → IsPastLoss (next_incarnation c.who) 1 e
    from e (inl same) = subst (IsPastLoss (next_incarnation c.who) 1) same tt
    from e (inr there) = later e (past e there)
