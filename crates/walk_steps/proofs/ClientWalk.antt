-- What each small change of a client keeps, each step of it keeps: a call, a tick, a datagram.
use Rattle.std.proofs.Common.{◌≡◌, ◌≤◌, ◌⊎◌, ℕ, ◌+◌, Bool, true, false, Option, Some, None, refl, sym, subst, ap, ◌∙◌, arith, inl, inr}
use Rattle.std.specs.List.{list_any}
use Rattle.nq_base.specs.declared.Answer.{Answer}
use Rattle.nq_base.specs.declared.Call.{Call}
use Rattle.nq_base.specs.declared.Grant.{Grant}
use Rattle.nq_base.specs.declared.Push.{Push}
use Rattle.nq_base.specs.declared.Reply.{Reply}
use Rattle.nq_base.specs.declared.Request.{Request}
use Rattle.nq_base.specs.declared.Tag.{Tag}
use Rattle.nq_base.specs.declared.Value.{Value}
use Rattle.walk_steps.proofs.ClientCases.{Core, core_of, Closed, Both, CanVacate}
use Rattle.walk_steps.proofs.ClientFacts.{Alone, Asking, AskingOf, IsPush, push_in}
use Rattle.walk_steps.proofs.ClientMoves as move
use Rattle.walk_steps.proofs.ClientMoves.{some-same, none-some, attached-with-ticket, keeps-or-cancels}
use Rattle.walk_steps.proofs.ClientWrites as writes
use Rattle.walk_steps.proofs.HearAnswers.{IsFree, Brings, answers-call-keeps, pauses-keeps, optional-keeps, read-done-keeps, lease-done-keeps}
use Rattle.walk_steps.proofs.HearWalk.{Spent}
use Rattle.walk_steps.proofs.HearAnswers.{write-done-keeps, quiet-knows, knows-free}
use Rattle.walk_steps.proofs.HearWalk.{push-done-keeps, push-refused-keeps, push-of-file, spent-keeps}
use Rattle.walk_steps.proofs.HearWalk.{spent-free, spent-now, spent-notices, spent-push, spent-gone}
use Rattle.walk_steps.proofs.RepliedCases.{replied-cases}
use Rattle.walk_steps.proofs.StepCases.{call-cases, unless-cached-cases, tick-cases, evicted-cases}
use Rattle.walk_steps.proofs.SendWalk.{at-true, from-true, send-next-keeps}
use Rattle.walk_steps.proofs.SettleWalk.{begun-call, settle-keeps}
use Rattle.nq_model.specs.protocol.Client.{Client, ClientStep, attaching, for_call, renewing, pushing, begun, Notice, Ticket, notice_on, put_notice, is_clean}
use Rattle.nq_model.specs.protocol.Client.{is_push_of, push_passes}
use Rattle.nq_model.specs.protocol.ClientStep.{begins_call, is_called, says_busy, client_call, at_time, sends_again, client_tick}
use Rattle.nq_model.specs.protocol.Hear.{wants_of, knows_revision, vacates_lease, answer_of, spends, attached, replied, reply_counts, cancelled, cancels}
use Rattle.nq_model.specs.protocol.Hear.{noticed_tag, notes_notice, evicted, goes_on}
use Rattle.nq_model.specs.laws.LeaseInterval.{grant_in, requested_file}
use Rattle.nq_model.specs.protocol.Settle.{answers, names_losses, settle}

-- ---- replies

-- what the reply to a request may bring
abbrev pub Bringing : (ℕ → Grant → ℕ → Type 0) → Ticket → Reply → Type 0
Bringing Given ticket r =
    (file : ℕ) → requested_file ticket.request ≡ Some file → (g : Grant) → grant_in r ≡ Some g
    → Given file g ticket.first × (wants_of file ticket.request ≡ true)

-- a grant of a request that wanted it finds no notice
unnoticed : (c : Client) (ticket : Ticket) (file : ℕ) → c.ticket ≡ Some ticket → wants_of file ticket.request ≡ true → AskingOf c → (o : Option Notice)
    → notice_on file c.notices ≡ o → notice_on file c.notices ≡ None
unnoticed c ticket file is wants h None e = e
unnoticed c ticket file is wants h (Some n) e = let not_wanted : wants_of file ticket.request ≡ false = h.unwanted file n ticket e is in absurd (cc)

brings-spent : (Given : ℕ → Grant → ℕ → Type 0) (c : Client) (ticket : Ticket) (r : Reply) → c.ticket ≡ Some ticket → AskingOf c
    → Bringing Given ticket r → (file : ℕ) → requested_file ticket.request ≡ Some file → Brings Given (spends (begun c)) file (grant_in r) ticket.first
brings-spent Given c ticket r is h brings file on g grants =
    let k = brings file on g grants in
    (k.0, ap (notice_on file) (spent-notices c) ∙ unnoticed c ticket file is k.1 h (notice_on file c.notices) refl)

past-spent : (c : Client) (ticket : Ticket) → c.ticket ≡ Some ticket → AskingOf c → ticket.first ≤ (spends (begun c)).client.now
past-spent c ticket is h = subst (λ n. ticket.first ≤ n) (sym (spent-now c)) (let k = h.ticketed ticket is in let a = k.sent in let b = k.past in omega arith)

-- the client is attached
attached-keeps : {P : Core → Type 0} (c : Client) (ticket : Ticket) → c.ticket ≡ Some ticket → ticket.job ≡ attaching → Alone c
    → P (record (core_of (begun c)) { ticket = None; attached = true }) → Both P (attached (spends (begun c)))
unfolding spends attached
attached-keeps c ticket is job a core = record {
  alone = record {
    asking = move.attaches a.asking;
    delaying = record {
      noticed = λ f n e. let w = a.asking.waiting (a.asking.attaching ticket is job) in none-some n (sym (ap (notice_on f) w.no_notice) ∙ e);
      under_way =
          λ p e. let k = a.delaying.under_way p e in let one : k.request ≡ ticket = some-same k.request ticket (sym k.asks ∙ is) in
          let pushes : ticket.job ≡ pushing = subst (λ z. z.job ≡ pushing) one k.job in absurd (cc);
      empty = λ e. absurd (cc);
    };
  };
  core = core;
}

-- what a reply needs
pub record Replying (Given : ℕ → Grant → ℕ → Type 0) (P : Core → Type 0) (c : Client) (ticket : Ticket) (r : Reply) : Type 0 where
  pub asked : c.ticket ≡ Some ticket
  pub counts : reply_counts r ticket ≡ true
  pub alone : Alone c
  pub spent : (ticket.job ≡ attaching → ⊥) → P (record (core_of (begun c)) { ticket = None })
  pub attached : ticket.job ≡ attaching → P (record (core_of (begun c)) { ticket = None; attached = true })
  pub brings : Bringing Given ticket r
  pub only : (file : ℕ) (g : Grant) (sent : ℕ) → Given file g sent → requested_file ticket.request ≡ Some file

job-attached : (c : Client) (ticket : Ticket) → c.ticket ≡ Some ticket → Alone c → (ticket.job ≡ attaching → ⊥) → c.attached ≡ true
job-attached c ticket is a other = attached-with-ticket a.asking ticket is other

replied-keeps : {Heard : ℕ → Tag → Type 0} {Given : ℕ → Grant → ℕ → Type 0} {P : Core → Type 0} → Closed Heard Given P
    → (c : Client) (number : ℕ) (ticket : Ticket) (r : Reply) → Replying Given P c ticket r → Both P (replied (begun c) number ticket r)
replied-keeps {Given = Given} {P = P} closed c number ticket r h =
    replied-cases c number ticket r (Both P) (h.alone.asking.ticketed ticket h.asked).fits h.counts (record {
      attaching = λ who inc job asks is. attached-keeps c ticket h.asked job h.alone (h.attached job);
      named = λ answer job names. let k = of-call job in answers-call-keeps t answer None k.0 k.1;
      reading =
          λ who q file block want inc rev body grant of is. let k = of-call of.job in
          read-done-keeps closed t file block body grant ticket.first number (brings file grant (ap requested_file of.asks) (ap grant_in is)) past k.0 k.1;
      leasing =
          λ who file want inc grant of is. let k = of-call of.job in
          lease-done-keeps closed t file grant ticket.first (brings file grant (ap requested_file of.asks) (ap grant_in is)) past k.0 k.1;
      writing = λ who seq file block first last body inc rev of is. let k = of-call of.job in write-done-keeps t file block body rev k.0 k.1;
      resizing =
          λ who seq q file blocks inc rev of is. let k = of-call of.job in
          answers-call-keeps (knows_revision t file rev) (Answer.Ok Value.Nothing) None (knows-free t file rev k.0) (quiet-knows t file rev k.1);
      removing = λ who seq q file inc of is. let k = of-call of.job in answers-call-keeps t (Answer.Ok Value.Nothing) None k.0 k.1;
      renewing =
          λ who file want inc grant job asks is. let k = of-renewal job in
          optional-keeps closed t file grant ticket.first (brings file grant (ap requested_file asks) (ap grant_in is)) past k.0 k.1;
      pushed =
          λ who seq file block first last base body inc rev job asks is. push-done-keeps closed t file block body rev
          (ungiven file (ap requested_file asks))
          (of-push file job (λ p e. push-of-file who seq file block first last base body p (subst (λ z. push_in z ≡ Some p) asks e)));
      putting_off = λ inc status job is later. let k = of-either job in pauses-keeps t k.0.attached k.1;
      refusing = λ inc status job is counts not_later. let k = of-call job in answers-call-keeps t (answer_of status) None k.0 k.1;
      renewal_refused = λ inc status job is not_later. (of-renewal job).1;
      push_refused = λ who seq file block first last base body inc status job asks is not_later.
          let of_file : (p : Push) → push_in ticket.request ≡ Some p
          → p.file ≡ file = λ p e. push-of-file who seq file block first last base body p (subst (λ z. push_in z ≡ Some p) asks e) in
          push-refused-keeps closed t file (ungiven file (ap requested_file asks)) (spent-gone c ticket file h.asked of_file h.alone)
          (of-push file job of_file);
    }) where
      t : ClientStep
      t = spends (begun c)

      past : ticket.first ≤ t.client.now
      past = past-spent c ticket h.asked h.alone.asking

      brings : (file : ℕ) (grant : Option Grant) → requested_file ticket.request ≡ Some file → grant_in r ≡ grant → Brings Given t file grant ticket.first
      brings file grant on of_reply =
          subst (λ o. Brings Given t file o ticket.first) of_reply (brings-spent Given c ticket r h.asked h.alone.asking h.brings file on)

      ungiven : (file : ℕ) → requested_file ticket.request ≡ None → (g : Grant) (sent : ℕ) → Given file g sent → ⊥
      ungiven file none g sent given = none-some file (sym none ∙ h.only file g sent given)

      spent : (ticket.job ≡ attaching → ⊥) → (ticket.job ≡ pushing → ⊥) → IsFree t × Both P t
      spent other unpushed =
          let is_attached = job-attached c ticket h.asked h.alone other in
          (spent-free c is_attached, spent-keeps c ticket h.asked is_attached unpushed h.alone (h.spent other))

      of-call : ticket.job ≡ for_call → IsFree t × Both P t
      of-call job = spent (λ e. absurd (cc)) (λ e. absurd (cc))

      of-renewal : ticket.job ≡ renewing → IsFree t × Both P t
      of-renewal job = spent (λ e. absurd (cc)) (λ e. absurd (cc))

      of-either : (ticket.job ≡ for_call) ⊎ (ticket.job ≡ renewing) → IsFree t × Both P t
      of-either (inl job) = of-call job
      of-either (inr job) = of-renewal job

      of-push : (file : ℕ) → ticket.job ≡ pushing → ((p : Push) → push_in ticket.request ≡ Some p → p.file ≡ file) → Spent P t file
      of-push file job of_file =
          let other : ticket.job ≡ attaching → ⊥ = λ e. absurd (cc) in
          spent-push c ticket file h.asked (job-attached c ticket h.asked h.alone other) of_file h.alone (h.spent other)

-- after a datagram that counted
goes-on-keeps : {Heard : ℕ → Tag → Type 0} {Given : ℕ → Grant → ℕ → Type 0} {P : Core → Type 0} → Closed Heard Given P → (t : ClientStep) → Both P t
    → Both P (goes_on t)
goes-on-keeps closed t b = send-next-keeps closed false (settle t) (settle-keeps closed t b)

pub reply-keeps : {Heard : ℕ → Tag → Type 0} {Given : ℕ → Grant → ℕ → Type 0} {P : Core → Type 0} → Closed Heard Given P
    → (c : Client) (number : ℕ) (ticket : Ticket) (r : Reply) → Replying Given P c ticket r → Both P (goes_on (replied (begun c) number ticket r))
reply-keeps closed c number ticket r h = goes-on-keeps closed (replied (begun c) number ticket r) (replied-keeps closed c number ticket r h)

-- ---- notices

pub push-wants-none : (f : ℕ) (r : Request) (p : Push) → push_in r ≡ Some p → wants_of f r ≡ false
push-wants-none f (Request.Write w seq file block first last (Some base) body) p e = refl
push-wants-none f r p e = none-some p e

cancelled-push : (f : ℕ) (ticket : Option Ticket) (p : Push) → IsPush ticket p → IsPush (cancelled f ticket) p
cancelled-push f ticket p k = record { request = k.request; asks = same; job = k.job; pushes = k.pushes }
  where
    same : cancelled f ticket ≡ Some k.request
    same = let spared : wants_of f k.request.request ≡ false = push-wants-none f k.request.request p k.pushes in rw (k.asks, spared) refl

cancels-keeps : {Heard : ℕ → Tag → Type 0} {Given : ℕ → Grant → ℕ → Type 0} {P : Core → Type 0} → Closed Heard Given P → (c : Client) (file : ℕ)
    → Alone c → P (core_of (begun c)) → Both P (cancels (begun c) file)
unfolding cancels
cancels-keeps closed c file a core = record {
  alone = record {
    asking = move.cancels file a.asking;
    delaying = record { noticed = a.delaying.noticed; under_way = λ p e. cancelled-push file c.ticket p (a.delaying.under_way p e); empty = a.delaying.empty };
  };
  core = closed.cancels (core_of (begun c)) file core;
}

cancelled-spared : (c : Client) (file : ℕ) (t : Ticket) → (cancels (begun c) file).client.ticket ≡ Some t → wants_of file t.request ≡ false
unfolding cancels
cancelled-spared c file t e = (keeps-or-cancels file c.ticket t e).1

vacates-keeps : {Heard : ℕ → Tag → Type 0} {Given : ℕ → Grant → ℕ → Type 0} {P : Core → Type 0} → Closed Heard Given P
    → (t : ClientStep) (file : ℕ) (tag : Tag) → CanVacate Heard Given (core_of t) file tag → Both P t → Both P (vacates_lease t file tag)
unfolding vacates_lease
vacates-keeps closed t file tag can b = record {
  alone = record {
    asking = move.drops-notice file (move.drops file (move.draws (t.client.xid + 1) t.client.seq (omega arith) (omega arith) b.alone.asking));
    delaying = writes.drops-notice file b.alone.delaying;
  };
  core = closed.vacates (core_of t) file tag can b.core;
}

-- a client with delayed writes is attached
unclean-attached : (c : Client) (file : ℕ) → is_clean c file ≡ false → Alone c → c.attached ≡ true
unclean-attached c file unclean a = case c.attached refl (writes.has-writes file c.dirty c.push unclean)
  where
    none : c.attached ≡ false → list_any (is_push_of file) c.dirty ≡ false
    none e = ap (list_any (is_push_of file)) (a.delaying.empty e)

    under : c.attached ≡ false → (o : Option Push) → c.push ≡ o → push_passes (is_push_of file) o ≡ true → c.attached ≡ true
    under e None is some = absurd (cc)
    under e (Some p) is some =
        let k = a.delaying.under_way p is in
        let w = a.asking.waiting e in
        let one : w.request ≡ k.request = some-same w.request k.request (sym w.asks ∙ k.asks) in
        let job : k.request.job ≡ attaching = subst (λ z. z.job ≡ attaching) one w.job in
        let pushes = k.job in
        absurd (cc)

    case : (b : Bool) → c.attached ≡ b → (list_any (is_push_of file) c.dirty ≡ true) ⊎ (push_passes (is_push_of file) c.push ≡ true) → c.attached ≡ true
    case true e some = e
    case false e (inl some) = let no_writes = none e in absurd (cc)
    case false e (inr some) = under e c.push refl some

notes-keeps : {Heard : ℕ → Tag → Type 0} {Given : ℕ → Grant → ℕ → Type 0} {P : Core → Type 0} → Closed Heard Given P
    → (t : ClientStep) (file : ℕ) (tag : Tag) → Heard file tag → ((u : Ticket) → t.client.ticket ≡ Some u → wants_of file u.request ≡ false)
    → is_clean t.client file ≡ false → Both P t → Both P (notes_notice t file tag)
unfolding notes_notice
notes-keeps closed t file tag heard spared unclean b = record {
  alone = record {
    asking =
        from-true (λ a. Asking c.who c.now a c.call c.ticket c.xid c.seq c.leases (put_notice notice c.notices)) c.attached is_attached
        (move.notes notice spared (at-true (λ a. Asking c.who c.now a c.call c.ticket c.xid c.seq c.leases c.notices) c.attached is_attached
        b.alone.asking));
    delaying = writes.notes notice unclean b.alone.delaying;
  };
  core = closed.notes (core_of t) file tag heard b.core;
} where
  c : Client
  c = t.client

  notice : Notice
  notice = record { file = file; tag = noticed_tag tag (notice_on file c.notices) }

  is_attached : c.attached ≡ true
  is_attached = unclean-attached c file unclean b.alone

evicted-keeps : {Heard : ℕ → Tag → Type 0} {Given : ℕ → Grant → ℕ → Type 0} {P : Core → Type 0} → Closed Heard Given P
    → (t : ClientStep) (file : ℕ) (tag : Tag) → Heard file tag → ((g : Grant) (sent : ℕ) → Given file g sent → ⊥)
    → ((u : Ticket) → t.client.ticket ≡ Some u → wants_of file u.request ≡ false) → Both P t → Both P (evicted t file tag)
evicted-keeps {P = P} closed t file tag heard ungiven spared b = evicted-cases t file tag (Both P) (record {
  clean = λ e. vacates-keeps closed t file tag (record { unwanted = spared; ungiven = ungiven; source = inr heard }) b;
  waiting = λ e. notes-keeps closed t file tag heard spared e b;
})

pub notice-keeps : {Heard : ℕ → Tag → Type 0} {Given : ℕ → Grant → ℕ → Type 0} {P : Core → Type 0} → Closed Heard Given P
    → (c : Client) (file : ℕ) (tag : Tag) → Heard file tag → ((g : Grant) (sent : ℕ) → Given file g sent → ⊥) → Alone c → P (core_of (begun c))
    → Both P (goes_on (evicted (cancels (begun c) file) file tag))
notice-keeps closed c file tag heard ungiven a core =
    goes-on-keeps closed (evicted (cancels (begun c) file) file tag)
    (evicted-keeps closed (cancels (begun c) file) file tag heard ungiven (cancelled-spared c file) (cancels-keeps closed c file a core))

-- ---- calls

begins-both : {P : Core → Type 0} (c : Client) (op : Call) → Alone c → P (core_of (begun c)) → Both P (begins_call c op)
unfolding begins_call
begins-both c op a core = record { alone = record { asking = a.asking; delaying = a.delaying }; core = core }

busy-keeps : {P : Core → Type 0} (t : ClientStep) → Both P t → Both P (says_busy t)
unfolding says_busy
busy-keeps t b = record { alone = record { asking = b.alone.asking; delaying = b.alone.delaying }; core = b.core }

called-keeps : {P : Core → Type 0} (t : ClientStep) (op : Call) → t.client.attached ≡ true → Both P t → Both P (is_called t op)
unfolding is_called
called-keeps t op is_attached b =
    record {
      alone = record {
        asking = begun-call t.client (record { q = t.client.calls; call = op; through = false; written = false }) is_attached
            b.alone.asking;
        delaying = b.alone.delaying;
      };
      core = b.core;
    }

-- a call that is told its losses, where none is under way
tells-keeps : {P : Core → Type 0} (t : ClientStep) (q file : ℕ) → t.client.call ≡ None → Both P t → Both P (names_losses t q file)
unfolding answers
tells-keeps t q file none b = record {
  alone = record {
    asking =
        subst (λ o. Asking t.client.who t.client.now t.client.attached o t.client.ticket t.client.xid t.client.seq t.client.leases t.client.notices)
        none b.alone.asking;
    delaying = b.alone.delaying;
  };
  core = b.core;
}

begun-same : (c : Client) (op : Call) → ((begins_call c op).client.call ≡ c.call) × ((begins_call c op).client.attached ≡ c.attached)
unfolding begins_call
begun-same c op = (refl, refl)

pub call-keeps : {Heard : ℕ → Tag → Type 0} {Given : ℕ → Grant → ℕ → Type 0} {P : Core → Type 0} → Closed Heard Given P → (c : Client) (op : Call)
    → Alone c → P (core_of (begun c)) → Both P (client_call c op)
call-keeps {P = P} closed c op a core = call-cases c op (Both P) (record {
  busy = λ why. busy-keeps t begins;
  telling = λ file loss losses none on is some. tells-keeps t t.client.calls file ((begun-same c op).0 ∙ none) begins;
  going = λ none on free.
      let settled : Both P (settle (is_called t op)) = settle-keeps closed (is_called t op) (called-keeps t op ((begun-same c op).1 ∙ on) begins) in
      unless-cached-cases (settle (is_called t op)) (Both P) (λ cached. settled) (λ other. send-next-keeps closed false (settle (is_called t op)) settled);
}) where
  t : ClientStep
  t = begins_call c op

  begins : Both P t
  begins = begins-both c op a core

-- ---- ticks

again-push : (t : Ticket) (now : ℕ) (p : Push) → IsPush (Some t) p → IsPush (Some (record t { last = now })) p
again-push t now p k =
    let one : k.request ≡ t = some-same k.request t (sym k.asks) in
    record {
      request = record t { last = now };
      asks = refl;
      job = subst (λ z. z.job ≡ pushing) one k.job;
      pushes = subst
          (λ z. push_in z.request ≡ Some p) one k.pushes;
    }

again-keeps : {Heard : ℕ → Tag → Type 0} {Given : ℕ → Grant → ℕ → Type 0} {P : Core → Type 0} → Closed Heard Given P
    → (t : ClientStep) (ticket : Ticket) → t.client.ticket ≡ Some ticket → Both P t → Both P (sends_again t ticket)
unfolding sends_again
again-keeps closed t ticket is b = record {
  alone = record {
    asking = move.sends-again ticket is b.alone.asking;
    delaying = record {
      noticed = b.alone.delaying.noticed;
      under_way = λ p e. again-push ticket t.client.now p (subst (λ o. IsPush o p) is (b.alone.delaying.under_way p e));
      empty = b.alone.delaying.empty;
    };
  };
  core = closed.again (core_of t) ticket is b.core;
}

-- time passes at a client
timed : (c : Client) (now : ℕ) → c.now ≤ now → Alone c → Alone (at_time c now)
unfolding at_time
timed c now more a = record { asking = move.passes now more a.asking; delaying = a.delaying }

timed-ticket : (c : Client) (now : ℕ) → (at_time c now).ticket ≡ c.ticket
unfolding at_time
timed-ticket c now = refl

pub tick-keeps : {Heard : ℕ → Tag → Type 0} {Given : ℕ → Grant → ℕ → Type 0} {P : Core → Type 0} → Closed Heard Given P → (c : Client) (now : ℕ)
    → c.now ≤ now → Alone c → P (core_of (begun (at_time c now))) → Both P (client_tick c now)
tick-keeps {P = P} closed c now more a core = tick-cases c now (Both P) (record {
  again = λ ticket is late. again-keeps closed t ticket (timed-ticket c now ∙ is) b;
  quiet = λ ticket is early. b;
  free = λ none. send-next-keeps closed true (settle t) (settle-keeps closed t b);
}) where
  t : ClientStep
  t = begun (at_time c now)

  b : Both P t
  b = record { alone = timed c now more a; core = core }
