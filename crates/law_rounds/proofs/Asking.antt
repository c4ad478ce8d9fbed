-- In every run of few events: the server answers the request under way of a client by a reply that counts for it.
use Rattle.std.proofs.Common.{◌≡◌, ◌≤◌, ◌<◌, ℕ, ◌+◌, ◌==◌, ◌&&◌, ◌++◌, nat_lt, Bool, true, false, List, [], ◌∷◌, Some, length, refl, sym, subst, ap}
use Rattle.std.proofs.Common.{◌∙◌, arith, inl}
use Rattle.std.specs.Prelude.{slice_get}
use Rattle.std.proofs.lemmas.Bool.{and_from}
use Rattle.std.proofs.lemmas.Bool.Decides.{nat_tests}
use Rattle.nq_base.specs.declared.Event.{Event}
use Rattle.nq_base.specs.declared.Reply.{Reply}
use Rattle.nq_base.specs.declared.Request.{Request}
use Rattle.nq_base.specs.declared.Who.{Who}
use Rattle.nq_model.specs.protocol.Client.{Client, Job, attaching, for_call, renewing, pushing, Ticket}
use Rattle.nq_model.specs.protocol.Hear.{inc_of, reply_counts}
use Rattle.nq_model.specs.protocol.Kept.{host_row}
use Rattle.nq_model.specs.protocol.Message.{Packet, call, reply, request, datagram_of, asker, sequence_of}
use Rattle.nq_model.specs.protocol.Profile.{most_hosts}
use Rattle.nq_model.specs.protocol.Server.{Server, to_host, notices}
use Rattle.nq_model.specs.protocol.ServerStep.{receive}
use Rattle.nq_model.specs.protocol.Skew.{IsWithinSkew}
use Rattle.nq_model.specs.protocol.Stepped.{most_events, most_sent}
use Rattle.nq_model.specs.protocol.World.{Head, run}
use Rattle.nq_model.specs.laws.Bounds.{KeepsBounds}
use Rattle.nq_model.specs.laws.RepliesAreOwed.{has_reply, is_out_of_bounds, owes, CanBe}
use Rattle.walk_steps.proofs.WorldNumbers.{drawn-up-to}
use Rattle.walk_steps.proofs.LeaseIntervals.{run-runs}
use Rattle.law_rounds.proofs.Owing.{replies-are-owed}
use Rattle.law_rounds.proofs.Attaching.{attach-answered}
use Rattle.walk_steps.proofs.ClientFacts.{fits_job, Alone}
use Rattle.walk_steps.proofs.ClientMoves.{some-same}
use Rattle.walk_steps.proofs.Packets.{In}
use Rattle.walk_steps.proofs.Worlds.{run-holds}
use Rattle.walk_steps.proofs.Rows.{number-same}
use Rattle.law_rounds.proofs.Fair.{counts-same}
use Rattle.law_rounds.proofs.Lines.{Lined, run-lined}
use Rattle.walk_steps.proofs.LowValues.{stays-within}
use Rattle.law_rounds.proofs.Revisions.{revisions-up-to}
use Rattle.law_rounds.proofs.ServerAnswers.{answers-it}

-- a reply is sent that counts for the request under way
pub record AnswersTicket (who : Who) (t : Ticket) (sends : List Packet) : Type 0 where
  pub answer : Reply
  pub sent : In sends (to_host who.host (reply t.xid answer))
  pub inc : inc_of answer ≡ who.inc
  pub counts : reply_counts answer t ≡ true

-- ---- requests

request-is : (job : Job) (r : Request) (x : ℕ) → fits_job job r ≡ true → datagram_of (call x r) ≡ request x r
request-is job Request.Null x fits = refl
request-is job (Request.Attach who) x fits = refl
request-is job (Request.Lookup who name) x fits = refl
request-is job (Request.Create who seq name blocks) x fits = refl
request-is job (Request.GetAttr who file) x fits = refl
request-is job (Request.Read who q file block want) x fits = refl
request-is job (Request.Write who seq file block first last push body) x fits = refl
request-is job (Request.GetLease who file want) x fits = refl
request-is job (Request.Vacated who file tag) x fits = refl
request-is attaching (Request.Evicted who file tag) x fits = absurd (cc)
request-is for_call (Request.Evicted who file tag) x fits = absurd (cc)
request-is renewing (Request.Evicted who file tag) x fits = absurd (cc)
request-is pushing (Request.Evicted who file tag) x fits = absurd (cc)
request-is job (Request.Resize who seq q file blocks) x fits = refl
request-is job (Request.Remove who seq q file) x fits = refl

can-be : (job : Job) (r : Request) (x : ℕ) → fits_job job r ≡ true → CanBe (request x r)
can-be attaching (Request.Evicted who file tag) x fits = let no : false ≡ true = fits in absurd (cc)
can-be for_call (Request.Evicted who file tag) x fits = let no : false ≡ true = fits in absurd (cc)
can-be renewing (Request.Evicted who file tag) x fits = let no : false ≡ true = fits in absurd (cc)
can-be pushing (Request.Evicted who file tag) x fits = let no : false ≡ true = fits in absurd (cc)
can-be job r x fits = tt

replied-to : (job : Job) (r : Request) → fits_job job r ≡ true → has_reply r ≡ true
replied-to attaching (Request.Evicted who file tag) fits = absurd (cc)
replied-to for_call (Request.Evicted who file tag) fits = absurd (cc)
replied-to renewing (Request.Evicted who file tag) fits = absurd (cc)
replied-to pushing (Request.Evicted who file tag) fits = absurd (cc)
replied-to attaching (Request.Vacated who file tag) fits = absurd (cc)
replied-to for_call (Request.Vacated who file tag) fits = absurd (cc)
replied-to renewing (Request.Vacated who file tag) fits = absurd (cc)
replied-to pushing (Request.Vacated who file tag) fits = absurd (cc)
replied-to job r fits = refl

owed : (s : Server) (who : Who) (r : Request) (x : ℕ) → asker r ≡ Some who → who.host < most_hosts → has_reply r ≡ true
    → (host_row s.kept who.host).inc ≤ who.inc → is_out_of_bounds s who r (host_row s.kept who.host) ≡ false → owes s who.host (request x r) ≡ true
owed s who r x asks few has past stays = rw (asks, own, older, has, stays) refl
  where
    own : (who.host == who.host && nat_lt who.host most_hosts) ≡ true
    own =
        let a : (who.host == who.host) ≡ true = number-same who.host who.host refl in
        let b : nat_lt who.host most_hosts ≡ true = grind (arith, nat_tests) in
        and_from _ _ a b

    older : nat_lt who.inc (host_row s.kept who.host).inc ≡ false
    older = grind (arith, nat_tests)

none-empty : {A : Type 0} (xs : List A) (y : A) (zs : List A) → zs ≡ xs ++ y ∷ [] → zs ≡ [] → ⊥
none-empty [] y zs is none = let e : y ∷ [] ≡ [] = sym is ∙ none in cc
none-empty (x ∷ xs) y zs is none = let e : x ∷ (xs ++ y ∷ []) ≡ [] = sym is ∙ none in cc

attach-is : (who w : Who) (r : Request) → fits_job attaching r ≡ true → asker r ≡ Some who → r ≡ Request.Attach who
attach-is who w (Request.Attach v) fits asks = ap (λ x. Request.Attach x) (some-same v who asks)
attach-is who w other fits asks = absurd (cc)

attach-counts : (inc : ℕ) (who : Who) (t : Ticket) → t.request ≡ Request.Attach who → reply_counts (Reply.Attach inc) t ≡ true
attach-counts inc who t is = rw is refl

-- ---- in a run

module _ (most : ℕ) (head : Head) (events : List Event) (bounds : KeepsBounds most head events) (within : IsWithinSkew head.hosts most events)
    (few : length events ≤ most_events) (room : length (run head events).packets ≤ most_sent) (host : ℕ) (c : Client)
    (at : slice_get (run head events).clients host ≡ Some c) (t : Ticket) (has : c.ticket ≡ Some t) where
  here : c.who.host ≡ host
  here = ((run-holds head events).clients host c at).here

  low : c.who.host < most_hosts
  low =
      let below = (run-runs most head events bounds within).few host c at in
      let hosts = bounds.hosts in
      let same = here in
      omega arith

  lined : Lined c (host_row (run head events).server.kept c.who.host)
  lined = subst (λ h. Lined c (host_row (run head events).server.kept h)) (sym here) (run-lined most head events bounds within host c at)

  small : c.who.inc ≤ length events + 1
  small = (drawn-up-to head events).inc host c at

  past : (host_row (run head events).server.kept c.who.host).inc ≤ c.who.inc
  past = subst (λ h. (host_row (run head events).server.kept h).inc ≤ c.who.inc) (sym here) ((run-runs most head events bounds within).known.clients
      host c at).lined.past

  sent-seq : (n : ℕ) → sequence_of t.request ≡ Some n → n ≤ most_sent
  sent-seq n sq =
      let asked = (((run-holds head events).clients host c at).mail.own t has).sent in
      let bound = (drawn-up-to head events).sent c.who.host t.xid t.request n asked sq in
      omega arith

  module _ (fits : fits_job t.job t.request ≡ true) (asks : asker t.request ≡ Some c.who) where
    stays : is_out_of_bounds (run head events).server c.who t.request (host_row (run head events).server.kept c.who.host) ≡ false
    stays = stays-within (length events) (run head events).server few (revisions-up-to head events) c.who small
        (host_row (run head events).server.kept c.who.host) t.request sent-seq

    some-sent : (next : ℕ) → (receive (run head events).server c.who.host next (request t.xid t.request)).sends ≡ [] → ⊥
    some-sent next none =
        let o = (replies-are-owed (run head events).server c.who.host next (request t.xid t.request) (can-be t.job t.request t.xid fits)).owed
        (owed (run head events).server c.who t.request t.xid asks low (replied-to t.job t.request fits) past stays) in
        none-empty (notices (run head events).server.notice o.rows) o.answer (receive (run head events).server c.who.host next
        (request t.xid t.request)).sends o.is none

    called : (next : ℕ) → (t.job ≡ attaching → ⊥) → (host_row (run head events).server.kept c.who.host).inc ≡ c.who.inc → AnswersTicket c.who t
        (receive (run head events).server c.who.host next (datagram_of (call t.xid t.request))).sends
    called next other current =
        let a = answers-it (run head events).server c.who.host next t.xid t.request c.who t.job asks other fits current
        (λ n sq. let last = lined.drawn t n has sq in let below = lined.below current in omega arith)
        (λ n sq same. lined.verdict t n has sq current (sym same))
        (some-sent next) in
        subst (λ d. AnswersTicket c.who t (receive (run head events).server c.who.host next d).sends) (sym (request-is t.job t.request t.xid fits))
        (record { answer = a.answer; sent = a.sent; inc = a.inc; counts = counts-same a.answer t ∙ a.counts })

    attached : (next : ℕ) → t.request ≡ Request.Attach c.who → AnswersTicket c.who t (receive (run head events).server c.who.host next
        (datagram_of (call t.xid t.request))).sends
    attached next is =
        let says = attach-answered (run head events).server next t.xid c.who low past (let i = small in omega arith) in
        record {
          answer = Reply.Attach c.who.inc;
          sent = subst (λ ps. In ps (to_host c.who.host (reply t.xid (Reply.Attach c.who.inc)))) (sym says
              ∙ ap (λ r. (receive (run head events).server c.who.host next (datagram_of (call t.xid r))).sends) (sym is)) (inl refl);
          inc = refl;
          counts = attach-counts c.who.inc c.who t is;
        }

  pub asks-answered : (next : ℕ) → AnswersTicket c.who t (receive (run head events).server c.who.host next (datagram_of (call t.xid t.request))).sends
  asks-answered next = by t.job refl
    where
      alone : Alone c
      alone = ((run-holds head events).clients host c at).alone

      fits : fits_job t.job t.request ≡ true
      fits = (((run-holds head events).clients host c at).alone.asking.ticketed t has).fits

      asks : asker t.request ≡ Some c.who
      asks = (((run-holds head events).clients host c at).alone.asking.ticketed t has).asks

      goes : (t.job ≡ attaching → ⊥) → (b : Bool) → c.attached ≡ b → AnswersTicket c.who t (receive (run head events).server c.who.host next
          (datagram_of (call t.xid t.request))).sends
      goes other true on = called fits asks next other (subst (λ h. (host_row (run head events).server.kept h).inc ≡ c.who.inc) (sym here)
          (((run-runs most head events bounds within).known.clients host c at).lined.current on))
      goes other false off =
          let w = alone.asking.waiting off in
          absurd (other (ap (λ (x : Ticket). x.job) (some-same t w.request (sym has ∙ w.asks)) ∙ w.job))

      by : (job : Job) → t.job ≡ job → AnswersTicket c.who t (receive (run head events).server c.who.host next (datagram_of (call t.xid t.request))).sends
      by attaching is = attached fits asks next (attach-is c.who c.who t.request (subst (λ j. fits_job j t.request ≡ true) is fits) asks)
      by for_call is = goes (λ e. let two : for_call ≡ attaching = sym is ∙ e in absurd (cc)) c.attached refl
      by renewing is = goes (λ e. let two : renewing ≡ attaching = sym is ∙ e in absurd (cc)) c.attached refl
      by pushing is = goes (λ e. let two : pushing ≡ attaching = sym is ∙ e in absurd (cc)) c.attached refl
