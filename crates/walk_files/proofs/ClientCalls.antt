-- Each step of a client keeps what is known of its calls: a call, a tick, a datagram.
use Rattle.std.proofs.Common.{◌≡◌, ◌<◌, ℕ, true, List, Option, Some, None, refl, sym, subst, ap, ◌∙◌}
use Rattle.std.specs.Prelude.{⊤}
use Rattle.nq_base.specs.declared.Answer.{Answer}
use Rattle.nq_base.specs.declared.Entry.{Entry}
use Rattle.nq_base.specs.declared.Grant.{Grant}
use Rattle.nq_base.specs.declared.HostRow.{HostRow}
use Rattle.nq_base.specs.declared.Refusal.{Refusal}
use Rattle.nq_base.specs.declared.Reply.{Reply}
use Rattle.nq_base.specs.declared.Tag.{Tag}
use Rattle.nq_base.specs.declared.Value.{Value}
use Rattle.nq_base.specs.declared.Who.{Who}
use Rattle.walk_files.proofs.CallFacts.{NoneDone}
use Rattle.walk_files.proofs.CallMoves.{NotForCall}
use Rattle.walk_files.proofs.ClientMoves as move
use Rattle.walk_files.proofs.ClientMoves.{Doing}
use Rattle.walk_steps.proofs.PartCases.{answers-call-cases, vacates-noticed-cases, reports-cases, if-broken-cases, takes-optional-cases}
use Rattle.walk_steps.proofs.PartCases.{lease-done-cases, then-caches-cases, caches-write-cases, caches-push-cases, vacates-if-clean-cases}
use Rattle.walk_steps.proofs.RepliedCases.{replied-cases}
use Rattle.walk_steps.proofs.ClientFacts.{fits_job}
use Rattle.walk_steps.proofs.ClientMoves.{some-same, none-some}
use Rattle.nq_model.specs.protocol.Client.{Client, ClientStep, UnderWay, Job, attaching, for_call, renewing, pushing, Notice, Ticket, in_state, begun}
use Rattle.nq_model.specs.protocol.Client.{notice_on, losses_of, other_losses, loss_list}
use Rattle.nq_model.specs.protocol.Hear.{loses, vacates_lease, vacates_noticed, reports, without_lease, push_refused, breaks_chain, if_broken, holds}
use Rattle.nq_model.specs.protocol.Hear.{takes_grant, takes_optional, answers_call, caches_block, then_caches, read_done, lease_done, caches_write, write_done}
use Rattle.nq_model.specs.protocol.Hear.{purges, knows_revision, ends_push, caches_push, push_done, spends, replied, reply_counts}
use Rattle.nq_model.specs.protocol.Message.{sequence_of}
use Rattle.nq_model.specs.protocol.Settle.{answers, names_losses}

module _ (line : HostRow) (Refused : ℕ → Type 0) (limit : ℕ) (mine : Who) (old : List Entry) where
  -- ---- where the request under way is spent

  record Spent (Goes : Type 0) (t : ClientStep) : Type 0 where
    does : Doing line Refused limit mine old Goes t
    none : t.client.ticket ≡ None

  idle : (t : ClientStep) → t.client.ticket ≡ None → NotForCall t.client.ticket
  idle t none k is = none-some k (sym none ∙ is)

  spent-loses : (Goes : Type 0) (t : ClientStep) (file : ℕ) → Spent Goes t → Spent Goes (loses t file)
  unfolding loses
  spent-loses Goes t file h = record { does = move.loses-keeps line Refused limit mine old Goes t file h.does; none = h.none }

  spent-without : (Goes : Type 0) (t : ClientStep) (file : ℕ) → Spent Goes t → Spent Goes (without_lease t file)
  unfolding without_lease
  spent-without Goes t file h = record { does = move.without-keeps line Refused limit mine old Goes t file h.does; none = h.none }

  spent-vacates : (Goes : Type 0) (t : ClientStep) (file : ℕ) (tag : Tag) → Spent Goes t → Spent Goes (vacates_lease t file tag)
  unfolding vacates_lease
  spent-vacates Goes t file tag h = record { does = move.vacates-keeps line Refused limit mine old Goes t file tag h.does; none = h.none }

  spent-holds : (Goes : Type 0) (t : ClientStep) (file : ℕ) (g : Grant) (sent : ℕ) → Spent Goes t → Spent Goes (holds t file g sent)
  unfolding holds
  spent-holds Goes t file g sent h = record { does = move.holds-keeps line Refused limit mine old Goes t file g sent h.does; none = h.none }

  spent-caches : (Goes : Type 0) (t : ClientStep) (file block : ℕ) (body : List ℕ) → Spent Goes t → Spent Goes (caches_block t file block body)
  unfolding caches_block
  spent-caches Goes t file block body h = record { does = move.caches-keeps line Refused limit mine old Goes t file block body h.does; none = h.none }

  spent-purges : (Goes : Type 0) (t : ClientStep) (file : ℕ) → Spent Goes t → Spent Goes (purges t file)
  unfolding purges
  spent-purges Goes t file h = record { does = move.purges-keeps line Refused limit mine old Goes t file h.does; none = h.none }

  spent-knows : (Goes : Type 0) (t : ClientStep) (file rev : ℕ) → Spent Goes t → Spent Goes (knows_revision t file rev)
  unfolding knows_revision
  spent-knows Goes t file rev h = record { does = move.knows-keeps line Refused limit mine old Goes t file rev h.does; none = h.none }

  spent-ends : (Goes : Type 0) (t : ClientStep) → Spent Goes t → Spent Goes (ends_push t)
  unfolding ends_push
  spent-ends Goes t h = record { does = move.ends-keeps line Refused limit mine old Goes t h.does; none = h.none }

  spent-spends : (Goes : Type 0) (t : ClientStep) → (Goes → NoneDone line t.client.who t.client.ticket) → Doing line Refused limit mine old ⊤ t
      → Spent Goes (spends t)
  unfolding spends
  spent-spends Goes t none h = record { does = move.spends-keeps line Refused limit mine old Goes t none h; none = refl }

  answers-none : (t : ClientStep) (q : ℕ) (answer : Answer) (by : Option ℕ) → t.client.ticket ≡ None → (answers t q answer by).client.ticket ≡ None
  unfolding answers
  answers-none t q answer by h = h

  spent-answers : (Goes : Type 0) (t : ClientStep) (answer : Answer) (by : Option ℕ) → ((k : ℕ) → by ≡ Some k → k < limit) → Spent Goes t
      → Spent ⊤ (answers_call t answer by)
  spent-answers Goes t answer by sent h = answers-call-cases t answer by (λ s. Spent ⊤ s)
      (λ none. record { does = move.idle-keeps line Refused limit mine old Goes t none h.does; none = h.none })
      (λ u is. record {
        does = move.answers-keeps line Refused limit mine old Goes t u answer by sent is (idle t h.none) h.does;
        none = answers-none t
            u.q answer by h.none;
      })

  spent-names : (Goes : Type 0) (t : ClientStep) (u : UnderWay) (file : ℕ) → t.client.call ≡ Some u → Spent Goes t → Spent ⊤ (names_losses t u.q file)
  spent-names Goes t u file is h = record {
    does = move.names-keeps line Refused limit mine old Goes t u file is (idle t h.none) h.does;
    none =
        answers-none (in_state t (record t.client { losses = other_losses file t.client.losses })) u.q
        (Answer.Lost (loss_list (losses_of file t.client.losses))) None h.none;
  }

  spent-weaker : (Goes : Type 0) (t : ClientStep) → Spent ⊤ t → Spent Goes t
  spent-weaker Goes t h = record { does = move.weaker line Refused limit mine old Goes t h.does; none = h.none }

  spent-reports : (Goes : Type 0) (t : ClientStep) (file : ℕ) → Spent Goes t → Spent Goes (reports t file)
  spent-reports Goes t file h =
      reports-cases t file (λ s. Spent Goes s) (λ none. h) (λ u is other. h)
      (λ u is waits. spent-weaker Goes (names_losses t u.q file) (spent-names Goes t u file is h))

  spent-noticed : (Goes : Type 0) (t : ClientStep) (file : ℕ) (o : Option Notice) → Spent Goes t → Spent Goes (vacates_noticed t file o)
  spent-noticed Goes t file o h = vacates-noticed-cases t file o (λ s. Spent Goes s) (λ none. h) (λ n is. spent-vacates Goes t file n.tag h)

  spent-breaks : (Goes : Type 0) (t : ClientStep) (file : ℕ) → Spent Goes t → Spent Goes (breaks_chain t file)
  spent-breaks Goes t file h =
      spent-reports Goes (vacates_noticed (loses t file) file (notice_on file t.client.notices)) file
      (spent-noticed Goes (loses t file) file (notice_on file t.client.notices) (spent-loses Goes t file h))

  spent-grant : (Goes : Type 0) (t : ClientStep) (file : ℕ) (g : Grant) (sent : ℕ) → Spent Goes t → Spent Goes (takes_grant t file g sent)
  spent-grant Goes t file g sent h =
      spent-holds Goes (if_broken t file g) file g sent
      (if-broken-cases t file g (λ s. Spent Goes s) (λ whole. h) (λ lease held below dirty. spent-breaks Goes t file h))

  spent-optional : (Goes : Type 0) (t : ClientStep) (file : ℕ) (o : Option Grant) (sent : ℕ) → Spent Goes t → Spent Goes (takes_optional t file o sent)
  spent-optional Goes t file o sent h = takes-optional-cases t file o sent (λ s. Spent Goes s) (λ none. h) (λ g is. spent-grant Goes t file g sent h)

  spent-read : (t : ClientStep) (file block : ℕ) (body : List ℕ) (o : Option Grant) (sent number : ℕ) → number < limit → Spent ⊥ t
      → Spent ⊤ (read_done t file block body o sent number)
  spent-read t file block body o sent number below h =
      spent-answers ⊥ (then_caches (takes_optional t file o sent) file block body o) _ (Some number)
      (λ k e. subst (λ n. n < limit) (some-same number k e) below)
      (then-caches-cases (takes_optional t file o sent) file block body o (λ s. Spent ⊥ s)
      (λ caching. spent-caches ⊥ (takes_optional t file o sent) file block body (spent-optional ⊥ t file o sent h))
      (λ other. spent-optional ⊥ t file o sent h))

  spent-lease : (t : ClientStep) (file : ℕ) (o : Option Grant) (sent : ℕ) → Spent ⊤ t → Doing line Refused limit mine old ⊤ (lease_done t file o sent)
  spent-lease t file o sent h = lease-done-cases t file o sent (λ s. Doing line Refused limit mine old ⊤ s)
      (λ caching. (spent-optional ⊤ t file o sent h).does)
      (λ other. move.through-keeps line Refused limit mine old ⊤ true (takes_optional t file o sent) (spent-optional ⊤ t file o sent h).does)

  spent-write : (t : ClientStep) (file block : ℕ) (body : List ℕ) (rev : ℕ) → Spent ⊥ t → Spent ⊤ (write_done t file block body rev)
  spent-write t file block body rev h =
      spent-answers ⊥ (knows_revision (caches_write t file block body rev) file rev) (Answer.Ok Value.Nothing) None (λ k e. none-some k e)
      (spent-knows ⊥ (caches_write t file block body rev) file rev
      (caches-write-cases t file block body rev (λ s. Spent ⊥ s) (λ held known. spent-caches ⊥ t file block body h) (spent-purges ⊥ t file h)))

  spent-push : (t : ClientStep) (file block : ℕ) (body : List ℕ) (rev : ℕ) → Spent ⊤ t → Spent ⊤ (push_done t file block body rev)
  spent-push t file block body rev h =
      let s = knows_revision (ends_push t) file rev in
      let k = spent-knows ⊤ (ends_push t) file rev (spent-ends ⊤ t h) in
      let p = caches-push-cases s file block body (λ s. Spent ⊤ s) (λ dirty. k) (λ clean. spent-caches ⊤ s file block body k) in
      vacates-if-clean-cases (caches_push s file block body) file (λ s. Spent ⊤ s) p
      (λ n clean is. spent-vacates ⊤ (caches_push s file block body) file n.tag p)

  spent-refused : (t : ClientStep) (file : ℕ) → Spent ⊤ t → Spent ⊤ (push_refused t file)
  spent-refused t file h =
      spent-reports ⊤ (vacates_noticed (without_lease (loses t file) file) file (notice_on file t.client.notices)) file
      (spent-noticed ⊤ (without_lease (loses t file) file) file (notice_on file t.client.notices)
      (spent-without ⊤ (loses t file) file (spent-loses ⊤ t file h)))

  -- ---- the reply to the request under way

  pub replied-keeps : (c : Client) (number : ℕ) (ticket : Ticket) (r : Reply) → number < limit → c.ticket ≡ Some ticket
      → fits_job ticket.job ticket.request ≡ true → reply_counts r ticket ≡ true
      → ((inc : ℕ) (status : Refusal) → r ≡ Reply.Refused inc status → Refused ticket.xid) → Doing line Refused limit mine old ⊤ (begun c)
      → Doing line Refused limit mine old ⊤ (replied (begun c) number ticket r)
  replied-keeps c number ticket r sent is fits counts refused h =
      replied-cases c number ticket r (λ s. Doing line Refused limit mine old ⊤ s) fits counts (record {
        attaching =
            λ who inc job asks e. move.attached-keeps line Refused limit mine old ⊤ (spends (begun c)) (spent (other attaching job (λ d. absurd (cc)))).does;
        named = λ answer job n. (spent-answers ⊥ (spends (begun c)) answer None (λ k e. none-some k e) answering).does;
        reading = λ who q file block want inc rev body grant o e. (spent-read (spends (begun c)) file block body grant ticket.first number sent
            answering).does;
        leasing = λ who file want inc grant o e. spent-lease (spends (begun c)) file grant ticket.first (spent (undrawn (ap sequence_of o.asks)));
        writing = λ who seq file block first last body inc rev o e. (spent-write (spends (begun c)) file block body rev answering).does;
        resizing =
            λ who seq q file blocks inc rev o e.
            (spent-answers ⊥ (knows_revision (spends (begun c)) file rev) (Answer.Ok Value.Nothing) None (λ k e. none-some k e)
            (spent-knows ⊥ (spends (begun c)) file rev answering)).does;
        removing =
            λ who seq q file inc o e.
            (spent-answers ⊥ (spends (begun c)) (Answer.Ok Value.Nothing) None (λ k e. none-some k e) answering).does;
        renewing = λ who file want inc grant job asks e. (spent-optional ⊤ (spends (begun c)) file grant ticket.first
            (spent (undrawn (ap sequence_of asks)))).does;
        pushed =
            λ who seq file block first last base body inc rev job asks e.
            (spent-push (spends (begun c)) file block body rev (spent (other pushing job (λ d. absurd (cc))))).does;
        putting_off =
            λ inc status jobs e off.
            move.pauses-keeps line Refused limit mine old ⊤ (spends (begun c)) (spent (declined (refused inc status e))).does;
        refusing = λ inc status job e of counted. (spent-answers ⊥ (spends (begun c)) _ None (λ k e. none-some k e) answering).does;
        renewal_refused = λ inc status job e counted. (spent (other renewing job (λ d. absurd (cc)))).does;
        push_refused =
            λ who seq file block first last base body inc status job asks e counted.
            (spent-refused (spends (begun c)) file (spent (other pushing job (λ d. absurd (cc))))).does;
      }) where
        spent : NoneDone line c.who c.ticket → Spent ⊤ (spends (begun c))
        spent none = spent-spends ⊤ (begun c) (λ goes. none) h

        answering : Spent ⊥ (spends (begun c))
        answering = spent-spends ⊥ (begun c) (λ goes. absurd goes) h

        other : (job : Job) → ticket.job ≡ job → (job ≡ for_call → ⊥) → NoneDone line c.who c.ticket
        other job of differs k same d = differs (sym of ∙ ap (λ z. z.job) (some-same ticket k (sym is ∙ same)) ∙ d.job)

        undrawn : sequence_of ticket.request ≡ None → NoneDone line c.who c.ticket
        undrawn none k same d = none-some d.seq (sym none ∙ ap (λ z. sequence_of z.request) (some-same ticket k (sym is ∙ same)) ∙ d.draws)

        declined : Refused ticket.xid → NoneDone line c.who c.ticket
        declined off k same d = let one = some-same ticket k (sym is ∙ same) in (h.asks.ticketed k same).refused (subst Refused (ap (λ z. z.xid) one) off) d
