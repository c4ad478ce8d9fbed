-- What the journal has of a client's delayed writes is kept by each step of the client, from its beginning to its end.
use Rattle.std.proofs.Common.{◌≡◌, ◌≤◌, ◌⊎◌, ℕ, ◌+◌, true, false, List, [], ◌∷◌, ◌++◌, Some, None, if◌then◌else◌, refl, sym, subst, ap, ◌∙◌, arith}
use Rattle.std.proofs.Common.{inl, inr, append-nil}
use Rattle.nq_base.specs.declared.Answer.{Answer}
use Rattle.nq_base.specs.declared.Call.{Call}
use Rattle.nq_base.specs.declared.Entry.{Entry}
use Rattle.nq_base.specs.declared.Entry.TheVariants.{S}
use Rattle.nq_base.specs.declared.HostRow.{HostRow}
use Rattle.nq_base.specs.declared.Push.{Push}
use Rattle.nq_base.specs.declared.PushBase.{PushBase}
use Rattle.nq_base.specs.declared.Refusal.{Refusal}
use Rattle.nq_base.specs.declared.Reply.{Reply}
use Rattle.nq_base.specs.declared.Request.{Request}
use Rattle.nq_base.specs.declared.Value.{Value}
use Rattle.nq_base.specs.declared.Verdict.{Verdict}
use Rattle.nq_base.specs.declared.Who.{Who}
use Rattle.walk_steps.proofs.RepliedCases.{replied-cases}
use Rattle.walk_steps.proofs.StepCases.{call-cases, unless-cached-cases, tick-cases, evicted-cases, heard-cases}
use Rattle.walk_steps.proofs.ClientFacts.{push_in, fits_job}
use Rattle.walk_steps.proofs.ClientMoves.{some-same, none-some}
use Rattle.walk_steps.proofs.ClientWalk.{push-wants-none}
use Rattle.walk_files.proofs.ClientFates.{Mid, mid-quiet, mid-names, mid-settles, mid-next, last-facts}
use Rattle.walk_files.proofs.FactMoves.{facts-packets, facts-ticket, no-push}
use Rattle.walk_files.proofs.FactPushes.{facts-stored, IsLosable}
use Rattle.walk_files.proofs.HeardFates.{NoneOpen, mid-loses, mid-vacates, mid-call, mid-knows, mid-takes, mid-read-done, mid-lease-done}
use Rattle.walk_files.proofs.HeardFates.{mid-write-done, mid-pauses, mid-attached, mid-notes, mid-ended, mid-refused}
use Rattle.walk_files.proofs.PushLists.{left-push}
use Rattle.walk_files.proofs.ServerTells.{Tells, later, decided}
use Rattle.walk_files.proofs.WritesFit.{JournalFits, PushStands, waits, stored, IsPushed, IsDecidedAs, IsOpenPush, Facts}
use Rattle.nq_model.specs.protocol.Client.{Client, ClientStep, Job, attaching, for_call, pushing, renewing, Ticket, begun}
use Rattle.nq_model.specs.protocol.ClientStep.{begins_call, is_called, says_busy, client_call, at_time, sends_again, client_tick}
use Rattle.nq_model.specs.protocol.Decide.{verdict_reply}
use Rattle.nq_model.specs.protocol.Hear.{wants_of, cancelled, cancels, evicted, goes_on, loses, knows_revision, ends_push, answer_of, spends, is_put_off}
use Rattle.nq_model.specs.protocol.Hear.{replied, reply_counts, hear, inc_of}
use Rattle.nq_model.specs.protocol.Message.{Message, Packet, call, reply, sequence_of}
use Rattle.nq_model.specs.protocol.Settle.{settle}
use Rattle.nq_model.specs.protocol.World.{from_host}
use Rattle.walk_steps.proofs.Sequences.{Seqs}
use Rattle.walk_steps.proofs.Mail.{packets_with}
use Rattle.walk_steps.proofs.Packets.{In, in-last, Asked}

-- ---- what a reply tells

done-of : (inc : ℕ) (v : Verdict) (value : ℕ) (r : Request) (i rev : ℕ) → Reply.Write i rev ≡ verdict_reply inc v value r → v ≡ Verdict.Done
done-of inc Verdict.Done value r i rev e = refl
done-of inc Verdict.Fenced value r i rev e = cc
done-of inc Verdict.Exist value r i rev e = cc
done-of inc Verdict.NoSpace value r i rev e = cc
done-of inc Verdict.Invalid value r i rev e = cc
done-of inc Verdict.Stale value r i rev e = cc
done-of inc Verdict.TryLater value r i rev e = cc

-- what is known of the reply
pub record Replies (line : HostRow) (ps : List Packet) (c : Client) (ticket : Ticket) (r : Reply) : Type 0 where
  pub has : c.ticket ≡ Some ticket
  pub fits : fits_job ticket.job ticket.request ≡ true
  pub counts : reply_counts r ticket ≡ true
  pub tells : (n : ℕ) → sequence_of ticket.request ≡ Some n → Tells line c.who n ticket.request r
  pub latest : (n : ℕ) → sequence_of ticket.request ≡ Some n → n + 1 ≡ c.seq
  pub seqs : Seqs c.who c.seq ps
  pub opens : (w : Who) (q : Push) → IsOpenPush line ps c.who.host w q → w ≡ c.who → push_in ticket.request ≡ Some q

spent-push : (c : Client) → c.push ≡ None → (spends (begun c)).client.push ≡ None
unfolding spends
spent-push c none = none

-- a request of another job pushes nothing
pushes-not : (job : Job) (request : Request) (q : Push) → (job ≡ pushing → ⊥) → fits_job job request ≡ true → push_in request ≡ Some q → ⊥
pushes-not pushing request q other fits is = other refl
pushes-not for_call (Request.Write w n file block first last (Some base) body) q other fits is = cc
pushes-not for_call request q other fits is = none-some q is
pushes-not renewing (Request.Write w n file block first last (Some base) body) q other fits is = cc
pushes-not renewing request q other fits is = none-some q is
pushes-not attaching (Request.Write w n file block first last (Some base) body) q other fits is = cc
pushes-not attaching request q other fits is = none-some q is

-- ---- the beginning of a step

module _ {line : HostRow} {ps : List Packet} {j : List Entry} where
  pub mid-begins : (c : Client) → Facts line c.who c.number c.seq c.ticket c.dirty c.push ps j → JournalFits j → Mid line ps j (begun c)
  mid-begins c h fits =
      record {
        facts = subst (λ qs. Facts line c.who c.number c.seq c.ticket c.dirty c.push qs j) (sym (append-nil ps)) h;
        journal = fits;
        own = λ e i.
            absurd i;
      }

  mid-timed : (c : Client) (now : ℕ) → Mid line ps j (begun c) → Mid line ps j (begun (at_time c now))
  unfolding at_time
  mid-timed c now m = m

  mid-calls : (c : Client) (op : Call) → Mid line ps j (begun c) → Mid line ps j (begins_call c op)
  unfolding begins_call
  mid-calls c op m = mid-quiet _ tt tt m

  mid-called : (t : ClientStep) (op : Call) → Mid line ps j t → Mid line ps j (is_called t op)
  unfolding is_called
  mid-called t op m = m

  mid-busy : (t : ClientStep) → Mid line ps j t → Mid line ps j (says_busy t)
  unfolding says_busy
  mid-busy t m = mid-quiet _ tt tt m

  mid-again : (t : ClientStep) (ticket : Ticket) → t.client.ticket ≡ Some ticket
      → Asked (packets_with ps t.client.who.host t.sends) t.client.who.host ticket.xid ticket.request → Mid line ps j t
      → Mid line ps j (sends_again t ticket)
  unfolding sends_again
  mid-again t ticket has sent m = record {
    facts = last-facts ps t.sends (call ticket.xid ticket.request)
        (facts-packets (packets_with ps t.client.who.host t.sends ++ from_host t.client.who.host (call ticket.xid ticket.request) ∷ [])
        (λ x r asked. old x r (in-last (packets_with ps t.client.who.host t.sends) (from_host t.client.who.host (call ticket.xid ticket.request))
        (from_host t.client.who.host (call x r)) asked))
        (facts-ticket (Some (record ticket { last = t.client.now }))
        (λ p u is asks pushes. let one : ticket ≡ u = some-same ticket u (sym has ∙ asks) in
        (record ticket { last = t.client.now }, refl, ap (λ z. z.job) one, ap (λ z. z.request) one)) m.facts));
    journal = m.journal;
    own = m.own;
  } where
    old : (x : ℕ) (r : Request) → Asked (packets_with ps t.client.who.host t.sends) t.client.who.host x r
        ⊎ (from_host t.client.who.host (call ticket.xid ticket.request) ≡ from_host t.client.who.host (call x r))
        → Asked (packets_with ps t.client.who.host t.sends) t.client.who.host x r
    old x r (inl there) = there
    old x r (inr same) = subst (In (packets_with ps t.client.who.host t.sends)) same sent

  mid-cancels : (c : Client) (file : ℕ) → Mid line ps j (begun c) → Mid line ps j (cancels (begun c) file)
  unfolding cancels
  mid-cancels c file m = record {
    facts =
        facts-ticket (cancelled file c.ticket)
        (λ p u is asks pushes. let spared : wants_of file u.request ≡ false = push-wants-none file u.request p pushes in
        (u, (ap (cancelled file) asks ∙ ap (λ b. if b then None else Some u) spared), refl, refl)) m.facts;
    journal = m.journal;
    own = m.own;
  }

  -- ---- a reply

  mid-spends : (c : Client) → c.push ≡ None → Mid line ps j (begun c) → Mid line ps j (spends (begun c))
  unfolding spends
  mid-spends c none m = record { facts = facts-ticket None (λ p u is. none-some p (sym none ∙ is)) m.facts; journal = m.journal; own = m.own }

  mid-stored : (c : Client) → ((p : Push) → c.push ≡ Some p → (now : ℕ) × In j (S c.who p.file p.block p.first p.last now)) → Mid line ps j (begun c)
      → Mid line ps j (ends_push (spends (begun c)))
  unfolding ends_push spends
  mid-stored c stands m = record { facts = facts-stored stands m.facts; journal = m.journal; own = m.own }

  mid-lost : (c : Client) (file : ℕ) → ((p : Push) → c.push ≡ Some p → p.file ≡ file) → ((p : Push) → c.push ≡ Some p → IsLosable c.who c.number j p)
      → ((w : Who) (q : Push) → IsOpenPush line (packets_with ps c.who.host []) c.who.host w q → w ≡ c.who → ⊥) → Mid line ps j (begun c)
      → Mid line ps j (loses (spends (begun c)) file)
  unfolding loses spends
  mid-lost c file of can over m =
      let a = mid-loses file can over m in
      record { facts = facts-ticket None (λ p u is. let k = left-push file c.push p is in absurd (k.1 (of p k.0))) a.facts; journal = a.journal; own = a.own }

  module _ (c : Client) (ticket : Ticket) (r : Reply) (k : Replies line ps c ticket r) (m : Mid line ps j (begun c)) where
    no-push-of : (job : Job) → ticket.job ≡ job → (job ≡ pushing → ⊥) → c.push ≡ None
    no-push-of job is other = no-push (λ t has push. other (sym is ∙ ap (λ z. z.job) (some-same ticket t (sym k.has ∙ has)) ∙ push)) m.facts

    module _ (w : Who) (seq file block first last : ℕ) (base : PushBase) (body : List ℕ)
        (asks : ticket.request ≡ Request.Write w seq file block first last (Some base) body) where
      numbered : sequence_of ticket.request ≡ Some seq
      numbered = ap sequence_of asks

      push-is : (p : Push) → c.push ≡ Some p → p.file ≡ file
      push-is p is =
          let h = m.facts.under_way p is in
          let one : h.request ≡ ticket = some-same h.request ticket (sym h.asks ∙ k.has) in
          let same : p ≡ record { file = file; block = block; first = first; last = last; body = body } = some-same p _
          (sym h.pushes ∙ ap (λ z. push_in z.request) one ∙ ap push_in asks) in
          ap (λ z. z.file) same

      pushed : (p : Push) → c.push ≡ Some p → IsPushed line c.who c.number seq j p
      pushed p is = m.facts.pushed p ticket seq is k.has numbered

      -- it was stored
      stands-done : (inc rev : ℕ) → r ≡ Reply.Write inc rev → (p : Push) → PushStands line c.who seq j p
          → (now : ℕ) × In j (S c.who p.file p.block p.first p.last now)
      stands-done inc rev is p (stored now d i) = (now, i)
      stands-done inc rev is p (waits undone clear) = case (k.tells seq numbered)
        where
          case : Tells line c.who seq ticket.request r → (now : ℕ) × In j (S c.who p.file p.block p.first p.last now)
          case (later status e puts) = absurd (cc)
          case (decided kept sq e) =
              absurd (undone (record { inc = kept; decided = sq; told = done-of c.who.inc line.verdict line.value ticket.request inc rev (sym is ∙ e) }))

      -- it was refused
      refusal : (inc : ℕ) (status : Refusal) → r ≡ Reply.Refused inc status → is_put_off status ≡ false → line.seq ≡ seq
      refusal inc status is final = case (k.tells seq numbered)
        where
          case : Tells line c.who seq ticket.request r → line.seq ≡ seq
          case (later other e puts) = let same : other ≡ status = cc in absurd (cc)
          case (decided kept sq e) = sq

      done-write : (v : Verdict) → v ≡ Verdict.Done → (inc value : ℕ) → verdict_reply inc v value ticket.request ≡ Reply.Write inc value
      done-write v is inc value = ap (λ z. verdict_reply inc z value ticket.request) is ∙ ap (verdict_reply inc Verdict.Done value) asks

      losable : (inc : ℕ) (status : Refusal) → r ≡ Reply.Refused inc status → is_put_off status ≡ false → (p : Push)
          → IsPushed line c.who c.number seq j p → IsLosable c.who c.number j p
      losable inc status is final p d = record { behind = d.behind; below = d.below; clear = clear d.stands }
        where
          refuses : IsDecidedAs line c.who seq Verdict.Done → Tells line c.who seq ticket.request r → ⊥
          refuses done (later other e puts) = let same : other ≡ status = cc in cc
          refuses done (decided kept sq e) =
              let written : r ≡ Reply.Write c.who.inc line.value = e ∙ done-write line.verdict done.told c.who.inc line.value in cc

          clear : PushStands line c.who seq j p → (n : ℕ) → p.first ≤ n → n ≤ p.last
              → Rattle.walk_files.proofs.WritesFit.CoversNumber j c.who p.file p.block n → ⊥
          clear (waits undone unless) n above below covers = unless n above below covers
          clear (stored now done i) n above below covers = refuses done (k.tells seq numbered)

      over : (inc : ℕ) (status : Refusal) → r ≡ Reply.Refused inc status → is_put_off status ≡ false → (v : Who) (q : Push)
          → IsOpenPush line (packets_with ps c.who.host []) c.who.host v q → v ≡ c.who → ⊥
      over inc status is final v q o one =
          let asked : Asked ps c.who.host o.xid (Request.Write v o.seq q.file q.block q.first q.last (Some o.base) q.body) = subst
          (λ qs. Asked qs c.who.host o.xid (Request.Write v o.seq q.file q.block q.first q.last (Some o.base) q.body)) (append-nil ps) o.asked in
          let below = k.seqs.drawn o.xid _ v o.seq asked refl (ap (λ z. z.inc) one) refl in
          let at = refusal inc status is final in
          let up = o.above in
          let last = k.latest seq numbered in
          omega arith

    not-push : (job : Job) → (job ≡ for_call) ⊎ (job ≡ renewing) → job ≡ pushing → ⊥
    not-push job (inl a) b = cc
    not-push job (inr a) b = cc

    spent : (job : Job) → ticket.job ≡ job → (job ≡ pushing → ⊥) → Mid line ps j (spends (begun c))
    spent job is other = mid-spends c (no-push-of job is other) m

    free : (job : Job) → ticket.job ≡ job → (job ≡ pushing → ⊥) → (spends (begun c)).client.push ≡ None
    free job is other = spent-push c (no-push-of job is other)

    none-open : (job : Job) → ticket.job ≡ job → (job ≡ pushing → ⊥) → NoneOpen line ps (spends (begun c))
    unfolding spends
    none-open job is other w q o one =
        pushes-not job ticket.request q other (subst (λ z. fits_job z ticket.request ≡ true) is k.fits)
        (k.opens w q
        (record {
          xid = o.xid;
          seq = o.seq;
          base = o.base;
          home = o.home;
          asked = subst
              (λ qs. Asked qs c.who.host o.xid (Request.Write w o.seq q.file q.block q.first q.last (Some o.base) q.body)) (append-nil ps) o.asked;
          kept = o.kept;
          above = o.above;
        }) one)

    pub mid-replied : (number : ℕ) → Mid line ps j (replied (begun c) number ticket r)
    mid-replied number = replied-cases c number ticket r (Mid line ps j) k.fits k.counts (record {
      attaching = λ who inc job asks is. mid-attached (spends (begun c)) (spent _ job (λ e. cc));
      named = λ answer job is. mid-call (spends (begun c)) answer None (spent _ job (λ e. cc));
      reading =
          λ who q file block want inc rev body grant of is. mid-read-done (spends (begun c)) file block body grant ticket.first number
          (free _ of.job (λ e. cc)) (none-open for_call of.job (λ e. cc)) (spent _ of.job (λ e. cc));
      leasing =
          λ who file want inc grant of is. mid-lease-done (spends (begun c)) file grant ticket.first (free _ of.job (λ e. cc))
          (none-open for_call of.job (λ e. cc)) (spent _ of.job (λ e. cc));
      writing = λ who seq file block first last body inc rev of is. mid-write-done (spends (begun c)) file block body rev (spent _ of.job (λ e. cc));
      resizing =
          λ who seq q file blocks inc rev of is. mid-call (knows_revision (spends (begun c)) file rev) (Answer.Ok Value.Nothing) None
          (mid-knows (spends (begun c)) file rev (spent _ of.job (λ e. cc)));
      removing = λ who seq q file inc of is. mid-call (spends (begun c)) (Answer.Ok Value.Nothing) None (spent _ of.job (λ e. cc));
      renewing =
          λ who file want inc grant job asks is. mid-takes (spends (begun c)) file grant ticket.first (free _ job (λ e. cc))
          (none-open renewing job (λ e. cc)) (spent _ job (λ e. cc));
      pushed =
          λ who seq file block first last base body inc rev job asks is. mid-ended (spends (begun c)) file block body rev
          (mid-stored c (λ p has. stands-done who seq file block first last base body asks inc rev is p
          (pushed who seq file block first last base body asks p has).stands) m);
      putting_off = λ inc status job is puts. mid-pauses (spends (begun c)) (spent _ refl (not-push ticket.job job));
      refusing = λ inc status job is counts final. mid-call (spends (begun c)) (answer_of status) None (spent _ job (λ e. cc));
      renewal_refused = λ inc status job is final. spent _ job (λ e. cc);
      push_refused = λ who seq file block first last base body inc status job asks is final.
          mid-refused (spends (begun c)) file
          (mid-lost c file (push-is who seq file block first last base body asks)
          (λ p has. losable who seq file block first last base body asks inc status is final p (pushed who seq file block first last base body asks p has))
          (over who seq file block first last base body asks inc status is final) m);
    })

  -- ---- whole steps

  mid-goes-on : (t : ClientStep) → Mid line ps j t → Mid line ps j (goes_on t)
  mid-goes-on t m = mid-next false (settle t) (mid-settles t m)

  pub mid-hears : (c : Client) (k : ℕ) (message : Message) (t : ClientStep) → hear c k message ≡ Some t
      → ((xid : ℕ) (r : Reply) (ticket : Ticket) → message ≡ reply xid r → c.ticket ≡ Some ticket → xid ≡ ticket.xid → inc_of r ≡ c.who.inc
      → reply_counts r ticket ≡ true → Replies line ps c ticket r) → Mid line ps j (begun c) → Mid line ps j t
  mid-hears c k message t hears known m = heard-cases c k message t (Mid line ps j) hears (record {
    answered =
        λ xid r ticket is has same inc counts. mid-goes-on (replied (begun c) k ticket r)
        (mid-replied c ticket r (known xid r ticket is has same inc counts) m k);
    noticed = λ xid file tag is holds. mid-goes-on (evicted (cancels (begun c) file) file tag)
        (evicted-cases (cancels (begun c) file) file tag (Mid line ps j) (record {
          clean = λ e. mid-vacates (cancels (begun c) file) file tag (mid-cancels c file m);
          waiting = λ e. mid-notes (cancels (begun c) file) file tag (mid-cancels c file m);
        }));
  })

  pub mid-call-step : (c : Client) (op : Call) → Mid line ps j (begun c) → Mid line ps j (client_call c op)
  mid-call-step c op m = call-cases c op (Mid line ps j) (record {
    busy = λ why. mid-busy (begins_call c op) (mid-calls c op m);
    telling = λ file loss losses none on changed some. mid-names (begins_call c op) (begins_call c op).client.calls file (mid-calls c op m);
    going = λ none on no_losses.
        let called : ClientStep = settle (is_called (begins_call c op) op) in
        let settled : Mid line ps j called = mid-settles (is_called (begins_call c op) op) (mid-called (begins_call c op) op (mid-calls c op m)) in
        unless-cached-cases called (Mid line ps j) (λ e. settled) (λ e. mid-next false called settled);
  })

  pub mid-tick-step : (c : Client) (now : ℕ) → ((ticket : Ticket) → c.ticket ≡ Some ticket → Asked ps c.who.host ticket.xid ticket.request)
      → Mid line ps j (begun c) → Mid line ps j (client_tick c now)
  unfolding at_time
  mid-tick-step c now sent m = tick-cases c now (Mid line ps j) (record {
    again =
        λ ticket has late. mid-again (begun (at_time c now)) ticket has
        (subst (λ qs. Asked qs c.who.host ticket.xid ticket.request) (sym (append-nil ps)) (sent ticket has)) (mid-timed c now m);
    quiet = λ ticket has short. mid-timed c now m;
    free = λ none. mid-next true (settle (begun (at_time c now))) (mid-settles (begun (at_time c now)) (mid-timed c now m));
  })
