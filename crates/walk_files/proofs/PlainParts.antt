-- The parts of a client's step that neither read nor write.
use Rattle.std.proofs.Common.{◌≡◌, ◌⊎◌, ℕ, Bool, true, ◌==◌, List, [], ◌∷◌, Option, Some, None, map, refl, sym, subst, ap, ◌∙◌, inl, inr, reverse}
use Rattle.std.proofs.lemmas.Grind.{reverse_onto}
use Rattle.std.specs.Bool.{⊤}
use Rattle.nq_base.specs.declared.Answer.{Answer}
use Rattle.nq_base.specs.declared.Call.{Call}
use Rattle.nq_base.specs.declared.Entry.{Entry}
use Rattle.nq_base.specs.declared.Entry.TheVariants.{C, A, L, B}
use Rattle.nq_base.specs.declared.Grant.{Grant}
use Rattle.nq_base.specs.declared.Push.{Push}
use Rattle.nq_base.specs.declared.PushBase.{PushBase}
use Rattle.nq_base.specs.declared.Reply.{Reply}
use Rattle.nq_base.specs.declared.Request.{Request}
use Rattle.nq_base.specs.declared.Tag.{Tag}
use Rattle.nq_base.specs.declared.Who.{Who}
use Rattle.walk_steps.proofs.RepliedCases.{replied-cases}
use Rattle.walk_steps.proofs.PartCases.{answers-call-cases, vacates-noticed-cases, reports-cases, if-broken-cases, takes-optional-cases}
use Rattle.walk_steps.proofs.PartCases.{lease-done-cases, then-caches-cases, caches-write-cases, caches-push-cases, vacates-if-clean-cases}
use Rattle.walk_steps.proofs.StepCases.{evicted-cases}
use Rattle.walk_steps.proofs.ClientFacts.{Alone, fits_job, push_in}
use Rattle.walk_steps.proofs.ClientMoves.{some-same}
use Rattle.nq_model.proofs.Lists.{each-append}
use Rattle.nq_model.specs.protocol.Client.{Client, ClientStep, Job, Ticket, begun, notice_on}
use Rattle.nq_model.specs.protocol.ClientStep.{begins_call, is_called, says_busy}
use Rattle.nq_model.specs.protocol.Hear.{vacates_lease, notes_notice, evicted, cancels, spends, attached, pauses, marks_through, replied, reply_counts, loses}
use Rattle.nq_model.specs.protocol.Hear.{all_dirty, other_push, loss_entry, reports, without_lease, push_refused, breaks_chain, if_broken, holds, takes_grant}
use Rattle.nq_model.specs.protocol.Hear.{takes_optional, answers_call, caches_block, purges, knows_revision, read_done, lease_done, write_done, ends_push}
use Rattle.nq_model.specs.protocol.Hear.{caches_push, push_done}
use Rattle.nq_model.specs.laws.Journal.{Each}
use Rattle.nq_model.specs.protocol.Settle.{answers, names_losses}
use Rattle.walk_steps.proofs.Rows.{number-same}

-- an entry of a client that is neither a read nor a write
abbrev pub IsPlain : Entry → Type 0
IsPlain (C who q told) = ⊤
IsPlain (A who q said) = ⊤
IsPlain (L who file block first last) = ⊤
IsPlain (B who) = ⊤
IsPlain other = ⊥

-- ---- parts that neither read nor write

-- what a step noted so far is plain
abbrev pub PlainOf : ClientStep → Type 0
PlainOf t = Each IsPlain t.entries

plain-reverse : (es : List Entry) → Each IsPlain es → Each IsPlain (reverse es)
plain-reverse [] a = tt
plain-reverse (e ∷ es) a = subst (Each IsPlain) (sym (reverse_onto es e [])) (each-append IsPlain (reverse es) (e ∷ []) (plain-reverse es a.1) (a.0, tt))

plain-losses : (who : Who) (ps : List Push) → Each IsPlain (map (loss_entry who) ps)
plain-losses who [] = tt
plain-losses who (p ∷ ps) = (tt, plain-losses who ps)

-- the push under way is the request under way
unpushed-job : (c : Client) (ticket : Ticket) → c.ticket ≡ Some ticket → Alone c → (ticket.job ≡ Job.pushing → ⊥) → (o : Option Push) → c.push ≡ o
    → c.push ≡ None
unpushed-job c ticket is a other None e = e
unpushed-job c ticket is a other (Some p) e =
    let k = a.delaying.under_way p e in
    let one : ticket ≡ k.request = some-same ticket k.request (sym is ∙ k.asks) in
    absurd (other (ap (λ z. z.job) one ∙ k.job))

push-gone : (c : Client) (ticket : Ticket) (who : Who) (seq file block first last : ℕ) (base : PushBase) (body : List ℕ) → c.ticket ≡ Some ticket
    → Alone c → ticket.request ≡ Request.Write who seq file block first last (Some base) body → (o : Option Push) → c.push ≡ o → other_push file o ≡ None
push-gone c ticket who seq file block first last base body is a asks None e = refl
push-gone c ticket who seq file block first last base body is a asks (Some p) e =
    let k = a.delaying.under_way p e in
    let one : ticket ≡ k.request = some-same ticket k.request (sym is ∙ k.asks) in
    let mine : record { file = file; block = block; first = first; last = last; body = body } ≡ p = some-same _ p
    (ap push_in (sym asks ∙ ap (λ z. z.request) one) ∙ k.pushes) in
    let of : (p.file == file) ≡ true = number-same p.file file (ap (λ z. z.file) (sym mine)) in
    rw of refl

module _ (c : Client) where
  -- and no push is under way, of the same incarnation
  abbrev pub SpentOf : ClientStep → Type 0
  SpentOf t = PlainOf t × (t.client.push ≡ None) × (t.client.who ≡ c.who)

  plain-answers : (t : ClientStep) (q : ℕ) (a : Answer) (by : Option ℕ) → SpentOf t → SpentOf (answers t q a by)
  unfolding answers
  plain-answers t q a by h = ((tt, h.0), h.1, h.2)

  plain-names : (t : ClientStep) (q file : ℕ) → SpentOf t → SpentOf (names_losses t q file)
  unfolding answers
  plain-names t q file h = ((tt, h.0), h.1, h.2)

  plain-loses : (t : ClientStep) (file : ℕ) → PlainOf t → t.client.who ≡ c.who → other_push file t.client.push ≡ None → SpentOf (loses t file)
  unfolding loses
  plain-loses t file h who none = (
    each-append IsPlain (reverse (map (loss_entry t.client.who) (all_dirty t.client file))) t.entries
        (plain-reverse (map (loss_entry t.client.who) (all_dirty t.client file)) (plain-losses t.client.who (all_dirty t.client file))) h,
    none,
    who,
  )

  plain-without : (t : ClientStep) (file : ℕ) → SpentOf t → SpentOf (without_lease t file)
  unfolding without_lease
  plain-without t file h = h

  plain-vacates : (t : ClientStep) (file : ℕ) (tag : Tag) → SpentOf t → SpentOf (vacates_lease t file tag)
  unfolding vacates_lease
  plain-vacates t file tag h = h

  plain-reports : (t : ClientStep) (file : ℕ) → SpentOf t → SpentOf (reports t file)
  plain-reports t file h = reports-cases t file SpentOf (λ e. h) (λ u e f. h) (λ u e f. plain-names t u.q file h)

  plain-refused : (t : ClientStep) (file : ℕ) → PlainOf t → t.client.who ≡ c.who → other_push file t.client.push ≡ None → SpentOf (push_refused t file)
  unfolding without_lease vacates_lease loses
  plain-refused t file h who none =
      let a : SpentOf (without_lease (loses t file) file) = plain-without (loses t file) file (plain-loses t file h who none) in
      plain-reports _ file (vacates-noticed-cases (without_lease (loses t file) file) file (notice_on file t.client.notices) SpentOf (λ e. a)
      (λ n e. plain-vacates (without_lease (loses t file) file) file n.tag a))

  plain-breaks : (t : ClientStep) (file : ℕ) → SpentOf t → SpentOf (breaks_chain t file)
  plain-breaks t file h =
      let a : SpentOf (loses t file) = plain-loses t file h.0 h.2 (ap (other_push file) h.1) in
      plain-reports _ file (vacates-noticed-cases (loses t file) file (notice_on file t.client.notices) SpentOf (λ e. a) (λ n e. plain-vacates _ file n.tag a))

  plain-holds : (t : ClientStep) (file : ℕ) (g : Grant) (sent : ℕ) → SpentOf t → SpentOf (holds t file g sent)
  unfolding holds
  plain-holds t file g sent h = h

  plain-takes : (t : ClientStep) (file : ℕ) (g : Grant) (sent : ℕ) → SpentOf t → SpentOf (takes_grant t file g sent)
  plain-takes t file g sent h = plain-holds (if_broken t file g) file g sent (if-broken-cases t file g SpentOf (λ e. h) (λ lease e f d. plain-breaks t file h))

  plain-optional : (t : ClientStep) (file : ℕ) (g : Option Grant) (sent : ℕ) → SpentOf t → SpentOf (takes_optional t file g sent)
  plain-optional t file o sent h = takes-optional-cases t file o sent SpentOf (λ e. h) (λ g e. plain-takes t file g sent h)

  plain-call : (t : ClientStep) (a : Answer) (by : Option ℕ) → SpentOf t → SpentOf (answers_call t a by)
  plain-call t a by h = answers-call-cases t a by SpentOf (λ e. h) (λ u e. plain-answers t u.q a by h)

  plain-caches : (t : ClientStep) (file block : ℕ) (body : List ℕ) → SpentOf t → SpentOf (caches_block t file block body)
  unfolding caches_block
  plain-caches t file block body h = h

  plain-purges : (t : ClientStep) (file : ℕ) → SpentOf t → SpentOf (purges t file)
  unfolding purges
  plain-purges t file h = h

  plain-knows : (t : ClientStep) (file rev : ℕ) → SpentOf t → SpentOf (knows_revision t file rev)
  unfolding knows_revision
  plain-knows t file rev h = h

  plain-marks : (on : Bool) (t : ClientStep) → SpentOf t → SpentOf (marks_through on t)
  unfolding marks_through
  plain-marks on t h = h

  plain-pauses : (t : ClientStep) → SpentOf t → SpentOf (pauses t)
  unfolding pauses marks_through
  plain-pauses t h = h

  plain-spent : PlainOf (spends (begun c))
  unfolding spends
  plain-spent = tt

  spent-push : (spends (begun c)).client.push ≡ c.push
  unfolding spends
  spent-push = refl

  spent-who : (spends (begun c)).client.who ≡ c.who
  unfolding spends
  spent-who = refl

  plain-attached : (t : ClientStep) → SpentOf t → SpentOf (attached t)
  unfolding attached
  plain-attached t h = h

  plain-ends : (t : ClientStep) → PlainOf t → t.client.who ≡ c.who → SpentOf (ends_push t)
  unfolding ends_push
  plain-ends t h who = (h, refl, who)

  plain-read : (t : ClientStep) (file block : ℕ) (body : List ℕ) (g : Option Grant) (sent number : ℕ) → SpentOf t
      → SpentOf (read_done t file block body g sent number)
  plain-read t file block body g sent number h =
      let a : SpentOf (takes_optional t file g sent) = plain-optional t file g sent h in
      plain-call _ _ _ (then-caches-cases (takes_optional t file g sent) file block body g SpentOf (λ e. plain-caches _ file block body a) (λ e. a))

  plain-leased : (t : ClientStep) (file : ℕ) (g : Option Grant) (sent : ℕ) → SpentOf t → SpentOf (lease_done t file g sent)
  plain-leased t file g sent h =
      let a : SpentOf (takes_optional t file g sent) = plain-optional t file g sent h in
      lease-done-cases t file g sent SpentOf (λ e. a) (λ e. plain-marks true _ a)

  plain-written : (t : ClientStep) (file block : ℕ) (body : List ℕ) (rev : ℕ) → SpentOf t → SpentOf (write_done t file block body rev)
  plain-written t file block body rev h =
      plain-call _ _ _ (plain-knows _ file rev
      (caches-write-cases t file block body rev SpentOf (λ e f. plain-caches t file block body h) (plain-purges t file h)))

  plain-pushed : (t : ClientStep) (file block : ℕ) (body : List ℕ) (rev : ℕ) → PlainOf t → t.client.who ≡ c.who → SpentOf (push_done t file block body rev)
  plain-pushed t file block body rev h who =
      let a : SpentOf (knows_revision (ends_push t) file rev) = plain-knows (ends_push t) file rev (plain-ends t h who) in
      let b : SpentOf (caches_push (knows_revision (ends_push t) file rev) file block body) = caches-push-cases (knows_revision (ends_push t) file rev)
      file block body SpentOf (λ e. a) (λ e. plain-caches _ file block body a) in
      vacates-if-clean-cases (caches_push (knows_revision (ends_push t) file rev) file block body) file SpentOf b
      (λ n e f. plain-vacates (caches_push (knows_revision (ends_push t) file rev) file block body) file n.tag b)

  -- what a reply does
  pub plain-replied : (number : ℕ) (ticket : Ticket) (r : Reply) → c.ticket ≡ Some ticket → Alone c → fits_job ticket.job ticket.request ≡ true
      → reply_counts r ticket ≡ true → SpentOf (replied (begun c) number ticket r)
  plain-replied number ticket r asked a fits counts = replied-cases c number ticket r SpentOf fits counts (record {
    attaching = λ who inc job asks is. plain-attached _ (h (λ e. let no = job in absurd (cc)));
    named = λ answer job is. plain-call _ answer None (h (λ e. absurd (cc)));
    reading =
        λ who q file block want inc rev body grant of is. plain-read _ file block body grant ticket.first number (h (λ e. let no = of.job in absurd (cc)));
    leasing = λ who file want inc grant of is. plain-leased _ file grant ticket.first (h (λ e. let no = of.job in absurd (cc)));
    writing = λ who seq file block first last body inc rev of is. plain-written _ file block body rev (h (λ e. let no = of.job in absurd (cc)));
    resizing = λ who seq q file blocks inc rev of is. plain-call _ _ None (plain-knows _ file rev (h (λ e. let no = of.job in absurd (cc))));
    removing = λ who seq q file inc of is. plain-call _ _ None (h (λ e. let no = of.job in absurd (cc)));
    renewing = λ who file want inc grant job asks is. plain-optional _ file grant ticket.first (h (λ e. absurd (cc)));
    pushed = λ who seq file block first last base body inc rev job asks is. plain-pushed _ file block body rev plain-spent spent-who;
    putting_off = λ inc status job is off. plain-pauses _ (h (either job));
    refusing = λ inc status job is counted final. plain-call _ _ None (h (λ e. absurd (cc)));
    renewal_refused = λ inc status job is final. h (λ e. absurd (cc));
    push_refused =
        λ who seq file block first last base body inc status job asks is final. plain-refused _ file plain-spent spent-who
        (ap (other_push file) spent-push ∙ push-gone c ticket who seq file block first last base body asked a asks c.push refl);
  }) where
    h : (ticket.job ≡ Job.pushing → ⊥) → SpentOf (spends (begun c))
    h other = (plain-spent, spent-push ∙ unpushed-job c ticket asked a other c.push refl, spent-who)

    either : (ticket.job ≡ Job.for_call) ⊎ (ticket.job ≡ Job.renewing) → ticket.job ≡ Job.pushing → ⊥
    either (inl e) f = absurd (cc)
    either (inr e) f = absurd (cc)

plain-cancels : (c : Client) (file : ℕ) → PlainOf (cancels (begun c) file)
unfolding cancels
plain-cancels c file = tt

plain-vacated : (t : ClientStep) (file : ℕ) (tag : Tag) → PlainOf t → PlainOf (vacates_lease t file tag)
unfolding vacates_lease
plain-vacated t file tag h = h

plain-notes : (t : ClientStep) (file : ℕ) (tag : Tag) → PlainOf t → PlainOf (notes_notice t file tag)
unfolding notes_notice
plain-notes t file tag h = h

-- what a notice does
pub plain-evicted : (c : Client) (file : ℕ) (tag : Tag) → PlainOf (evicted (cancels (begun c) file) file tag)
plain-evicted c file tag = let h = plain-cancels c file in evicted-cases (cancels (begun c) file) file tag PlainOf (record {
  clean = λ e. plain-vacated _ file tag h;
  waiting = λ e. plain-notes _ file tag h;
})

pub plain-answered : (t : ClientStep) (q : ℕ) (a : Answer) (by : Option ℕ) → PlainOf t → PlainOf (answers t q a by)
unfolding answers
plain-answered t q a by h = (tt, h)

pub plain-named : (t : ClientStep) (q file : ℕ) → PlainOf t → PlainOf (names_losses t q file)
unfolding answers
plain-named t q file h = (tt, h)

pub plain-begins : (c : Client) (op : Call) → PlainOf (begins_call c op)
unfolding begins_call
plain-begins c op = (tt, tt)

pub plain-busy : (t : ClientStep) → PlainOf t → PlainOf (says_busy t)
unfolding says_busy
plain-busy t h = (tt, h)

pub plain-called : (t : ClientStep) (op : Call) → PlainOf t → PlainOf (is_called t op)
unfolding is_called
plain-called t op h = h
