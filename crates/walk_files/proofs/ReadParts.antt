-- What a client's step answers with a value, and which READ it sends: the parts of a step.
use Rattle.std.proofs.Common.{◌≡◌, ◌⊎◌, ℕ, Bool, true, false, List, [], ◌∷◌, Option, Some, None, map, reverse, refl, sym, subst, ap, ◌∙◌, inl, inr}
use Rattle.nq_base.specs.declared.Answer.{Answer}
use Rattle.nq_base.specs.declared.Call.{Call}
use Rattle.nq_base.specs.declared.Entry.{Entry}
use Rattle.nq_base.specs.declared.Entry.TheVariants.{A, R}
use Rattle.nq_base.specs.declared.Grant.{Grant}
use Rattle.nq_base.specs.declared.Push.{Push}
use Rattle.nq_base.specs.declared.Refusal.{Refusal}
use Rattle.nq_base.specs.declared.Request.{Request}
use Rattle.nq_base.specs.declared.Said.TheVariants.{OkValue, OkBy}
use Rattle.nq_base.specs.declared.Tag.{Tag}
use Rattle.nq_base.specs.declared.Value.{Value}
use Rattle.nq_base.specs.declared.Who.{Who}
use Rattle.walk_steps.proofs.PartCases.{answers-call-cases, vacates-noticed-cases, reports-cases, if-broken-cases, takes-optional-cases}
use Rattle.walk_steps.proofs.PartCases.{lease-done-cases, then-caches-cases, caches-write-cases, caches-push-cases, vacates-if-clean-cases}
use Rattle.walk_steps.proofs.SettleCases.{IsRead}
use Rattle.walk_steps.proofs.ClientMoves.{none-some, some-same}
use Rattle.nq_model.specs.protocol.Client.{Client, ClientStep, for_call, Ticket, UnderWay, begun, notice_on}
use Rattle.nq_model.specs.protocol.Hear.{vacates_lease, spends, attached, pauses, marks_through, loses, all_dirty, loss_entry, reports, without_lease}
use Rattle.nq_model.specs.protocol.Hear.{push_refused, breaks_chain, if_broken, holds, takes_grant, takes_optional, answers_call, answer_of, caches_block}
use Rattle.nq_model.specs.protocol.Hear.{purges, knows_revision, then_caches, read_done, lease_done, write_done, ends_push, caches_push, push_done}
use Rattle.nq_model.specs.protocol.Hear.{with_through}
use Rattle.nq_model.specs.protocol.Message.{Message, call}
use Rattle.nq_model.specs.protocol.Settle.{answers, names_losses, said}
use Rattle.walk_steps.proofs.Members.{in-reverse}
use Rattle.walk_steps.proofs.Packets.{In, in-append, in-last, call-same}

-- an entry that neither reads nor answers with a value
abbrev pub IsDull : Entry → Type 0
IsDull (A who q (OkValue value)) = ⊥
IsDull (A who q (OkBy value packet)) = ⊥
IsDull (R who q file block value served) = ⊥
IsDull other = Unit {0}

abbrev pub is_read : Request → Bool
is_read (Request.Read who q file block want) = true
is_read other = false

-- a call reads nothing
abbrev pub ReadsNothing : Call → Type 0
ReadsNothing (Call.Read file block) = ⊥
ReadsNothing (Call.Fetch file block) = ⊥
ReadsNothing other = Unit {0}

-- a request is made for a call
abbrev pub MadeFor : Request → UnderWay → Type 0
MadeFor (Request.Read who q file block want) u = (u.q ≡ q) × IsRead u.call file block
MadeFor (Request.Lookup who name) u = ReadsNothing u.call
MadeFor (Request.Create who seq name blocks) u = ReadsNothing u.call
MadeFor (Request.GetAttr who file) u = ReadsNothing u.call
MadeFor other u = Unit {0}

-- the call's request is made for the call under way
abbrev pub TicketOfCall : Option Ticket → Option UnderWay → Type 0
TicketOfCall ticket under = (t : Ticket) → ticket ≡ Some t → t.job ≡ for_call → (u : UnderWay) × (under ≡ Some u) × MadeFor t.request u

-- the call under way is the client's
pub record IsLike (c : Client) (u : UnderWay) : Type 0 where
  pub v : UnderWay
  pub called : c.call ≡ Some v
  pub number : u.q ≡ v.q
  pub same : u.call ≡ v.call

-- what a reply's parts made so far; `Valued` are the answers with a value
pub record Made (c : Client) (Valued : Entry → Type 0) (who : Who) (under : Option UnderWay) (ticket : Option Ticket) (sends : List Message)
    (entries : List Entry) : Type 0 where
  pub who_is : who ≡ c.who
  pub fine : (e : Entry) → In entries e → IsDull e ⊎ Valued e
  pub called : (u : UnderWay) → under ≡ Some u → IsLike c u
  pub free : ticket ≡ None
  pub quiet : (x : ℕ) (r : Request) → In sends (call x r) → is_read r ≡ false

abbrev pub MadeOf : Client → (Entry → Type 0) → ClientStep → Type 0
MadeOf c Valued t = Made c Valued t.client.who t.client.call t.client.ticket t.sends t.entries

pub made-adds : {c : Client} {Valued : Entry → Type 0} {who : Who} {under after : Option UnderWay} {ticket : Option Ticket} {sends : List Message}
    {entries : List Entry} (e : Entry) → IsDull e ⊎ Valued e → ((u : UnderWay) → after ≡ Some u → under ≡ Some u)
    → Made c Valued who under ticket sends entries → Made c Valued who after ticket sends (e ∷ entries)
made-adds {Valued = Valued} {entries = entries} e fits fewer h =
    record { who_is = h.who_is; fine = fine; called = λ u is. h.called u (fewer u is); free = h.free; quiet = h.quiet }
  where
    fine : (x : Entry) → (e ≡ x) ⊎ In entries x → IsDull x ⊎ Valued x
    fine x (inl same) = subst (λ y. IsDull y ⊎ Valued y) same fits
    fine x (inr i) = h.fine x i

said-of : (status : Refusal) (who : Who) (q : ℕ) → IsDull (A who q (said (answer_of status) None))
said-of Refusal.NoEnt who q = tt
said-of Refusal.Exist who q = tt
said-of Refusal.Inval who q = tt
said-of Refusal.NoSpc who q = tt
said-of Refusal.Stale who q = tt
said-of Refusal.TryLater who q = tt
said-of Refusal.Fenced who q = tt
said-of Refusal.NotAttached who q = tt
said-of Refusal.Old who q = tt

dull-losses : (who : Who) (ps : List Push) (e : Entry) → In (map (loss_entry who) ps) e → IsDull e
dull-losses who [] e i = absurd i
dull-losses who (p ∷ ps) e (inl same) = subst IsDull same tt
dull-losses who (p ∷ ps) e (inr i) = dull-losses who ps e i

module _ (c : Client) (Valued : Entry → Type 0) where
  abbrev P : ClientStep → Type 0
  P = MadeOf c Valued

  pub made-answers : (t : ClientStep) (q : ℕ) (a : Answer) (by : Option ℕ)
      → IsDull (A t.client.who q (said a by)) ⊎ Valued (A t.client.who q (said a by)) → P t → P (answers t q a by)
  unfolding answers
  made-answers t q a by fits h = made-adds (A t.client.who q (said a by)) fits (λ u is. none-some u is) h

  made-names : (t : ClientStep) (q file : ℕ) → P t → P (names_losses t q file)
  unfolding answers
  made-names t q file h = made-adds _ (inl tt) (λ u is. none-some u is) h

  made-loses : (t : ClientStep) (file : ℕ) → P t → P (loses t file)
  unfolding loses
  made-loses t file h =
      record {
        who_is = h.who_is;
        fine = λ e i. case e (in-append (reverse (map (loss_entry t.client.who) (all_dirty t.client file))) t.entries e i);
        called = h.called;
        free = h.free;
        quiet = h.quiet;
      }
    where
      case : (e : Entry) → In (reverse (map (loss_entry t.client.who) (all_dirty t.client file))) e ⊎ In t.entries e → IsDull e ⊎ Valued e
      case e (inl new) = inl (dull-losses t.client.who (all_dirty t.client file) e
          (in-reverse (map (loss_entry t.client.who) (all_dirty t.client file)) e new))
      case e (inr old) = h.fine e old

  made-without : (t : ClientStep) (file : ℕ) → P t → P (without_lease t file)
  unfolding without_lease
  made-without t file h = h

  made-vacates : (t : ClientStep) (file : ℕ) (tag : Tag) → P t → P (vacates_lease t file tag)
  unfolding vacates_lease
  made-vacates t file tag h =
      record {
        who_is = h.who_is;
        fine = h.fine;
        called = h.called;
        free = h.free;
        quiet = λ x r i. case x r
            (in-last t.sends (call t.client.xid (Request.Vacated t.client.who file tag)) (call x r) i);
      }
    where
      case : (x : ℕ) (r : Request) → In t.sends (call x r) ⊎ (call t.client.xid (Request.Vacated t.client.who file tag) ≡ call x r) → is_read r ≡ false
      case x r (inl old) = h.quiet x r old
      case x r (inr same) = ap is_read (sym (call-same t.client.xid x _ r same).1)

  made-reports : (t : ClientStep) (file : ℕ) → P t → P (reports t file)
  made-reports t file h = reports-cases t file P (λ e. h) (λ u e f. h) (λ u e f. made-names t u.q file h)

  pub made-refused : (t : ClientStep) (file : ℕ) → P t → P (push_refused t file)
  unfolding without_lease vacates_lease loses
  made-refused t file h =
      let a : P (without_lease (loses t file) file) = made-without (loses t file) file (made-loses t file h) in
      made-reports _ file (vacates-noticed-cases (without_lease (loses t file) file) file (notice_on file t.client.notices) P (λ e. a)
      (λ n e. made-vacates (without_lease (loses t file) file) file n.tag a))

  made-breaks : (t : ClientStep) (file : ℕ) → P t → P (breaks_chain t file)
  made-breaks t file h =
      let a : P (loses t file) = made-loses t file h in
      made-reports _ file (vacates-noticed-cases (loses t file) file (notice_on file t.client.notices) P (λ e. a) (λ n e. made-vacates _ file n.tag a))

  made-holds : (t : ClientStep) (file : ℕ) (g : Grant) (sent : ℕ) → P t → P (holds t file g sent)
  unfolding holds
  made-holds t file g sent h = h

  made-takes : (t : ClientStep) (file : ℕ) (g : Grant) (sent : ℕ) → P t → P (takes_grant t file g sent)
  made-takes t file g sent h = made-holds (if_broken t file g) file g sent (if-broken-cases t file g P (λ e. h) (λ lease e f d. made-breaks t file h))

  pub made-optional : (t : ClientStep) (file : ℕ) (g : Option Grant) (sent : ℕ) → P t → P (takes_optional t file g sent)
  made-optional t file o sent h = takes-optional-cases t file o sent P (λ e. h) (λ g e. made-takes t file g sent h)

  pub made-call : (t : ClientStep) (a : Answer) (by : Option ℕ)
      → ((u : UnderWay) → t.client.call ≡ Some u → IsDull (A t.client.who u.q (said a by)) ⊎ Valued (A t.client.who u.q (said a by))) → P t
      → P (answers_call t a by)
  made-call t a by fits h = answers-call-cases t a by P (λ e. h) (λ u e. made-answers t u.q a by (fits u e) h)

  pub made-refusing : (t : ClientStep) (status : Refusal) → P t → P (answers_call t (answer_of status) None)
  made-refusing t status h = made-call t (answer_of status) None (λ u e. inl (said-of status t.client.who u.q)) h

  made-caches : (t : ClientStep) (file block : ℕ) (body : List ℕ) → P t → P (caches_block t file block body)
  unfolding caches_block
  made-caches t file block body h = h

  made-purges : (t : ClientStep) (file : ℕ) → P t → P (purges t file)
  unfolding purges
  made-purges t file h = h

  pub made-knows : (t : ClientStep) (file rev : ℕ) → P t → P (knows_revision t file rev)
  unfolding knows_revision
  made-knows t file rev h = h

  marked-like : (on : Bool) (o : Option UnderWay) (u : UnderWay) → ((v : UnderWay) → o ≡ Some v → IsLike c v) → with_through on o ≡ Some u → IsLike c u
  marked-like on None u h e = none-some u e
  marked-like on (Some v) u h e =
      let k = h v refl in
      let one = some-same (record v { through = on }) u e in
      record { v = k.v; called = k.called; number = sym (ap (λ z. z.q) one) ∙ k.number; same = sym (ap (λ z. z.call) one) ∙ k.same }

  made-marks : (on : Bool) (t : ClientStep) → P t → P (marks_through on t)
  unfolding marks_through
  made-marks on t h = record { who_is = h.who_is; fine = h.fine; called = λ u is. marked-like on t.client.call u h.called is; free = h.free; quiet = h.quiet }

  pub made-pauses : (t : ClientStep) → P t → P (pauses t)
  unfolding pauses marks_through
  made-pauses t h = record { who_is = h.who_is; fine = h.fine; called = λ u is. marked-like false t.client.call u h.called is; free = h.free; quiet = h.quiet }

  pub made-attached : (t : ClientStep) → P t → P (attached t)
  unfolding attached
  made-attached t h = h

  made-ends : (t : ClientStep) → P t → P (ends_push t)
  unfolding ends_push
  made-ends t h = h

  pub made-spends : P (spends (begun c))
  unfolding spends
  made-spends =
      record {
        who_is = refl;
        fine = λ e i. absurd i;
        called = λ u is. record { v = u; called = is; number = refl; same = refl };
        free = refl;
        quiet = λ x r i. absurd i;
      }

  pub made-read : (t : ClientStep) (file block : ℕ) (body : List ℕ) (g : Option Grant) (sent number : ℕ)
      → ((u : UnderWay) → IsLike c u → IsDull (A c.who u.q (said (Answer.Ok (Value.Body body)) (Some number)))
      ⊎ Valued (A c.who u.q (said (Answer.Ok (Value.Body body)) (Some number)))) → P t → P (read_done t file block body g sent number)
  made-read t file block body g sent number fits h =
      let a : P (takes_optional t file g sent) = made-optional t file g sent h in
      let b : P (then_caches (takes_optional t file g sent) file block body g) = then-caches-cases (takes_optional t file g sent) file block body g P
      (λ e. made-caches _ file block body a) (λ e. a) in
      made-call (then_caches (takes_optional t file g sent) file block body g) (Answer.Ok (Value.Body body)) (Some number)
      (λ u e. subst (λ w. IsDull (A w u.q (said (Answer.Ok (Value.Body body)) (Some number)))
      ⊎ Valued (A w u.q (said (Answer.Ok (Value.Body body)) (Some number)))) (sym b.who_is) (fits u (b.called u e))) b

  pub made-leased : (t : ClientStep) (file : ℕ) (g : Option Grant) (sent : ℕ) → P t → P (lease_done t file g sent)
  made-leased t file g sent h =
      let a : P (takes_optional t file g sent) = made-optional t file g sent h in
      lease-done-cases t file g sent P (λ e. a) (λ e. made-marks true _ a)

  pub made-written : (t : ClientStep) (file block : ℕ) (body : List ℕ) (rev : ℕ) → P t → P (write_done t file block body rev)
  made-written t file block body rev h =
      made-call _ (Answer.Ok Value.Nothing) None (λ u e. inl tt)
      (made-knows _ file rev (caches-write-cases t file block body rev P (λ e f. made-caches t file block body h) (made-purges t file h)))

  pub made-pushed : (t : ClientStep) (file block : ℕ) (body : List ℕ) (rev : ℕ) → P t → P (push_done t file block body rev)
  made-pushed t file block body rev h =
      let a : P (knows_revision (ends_push t) file rev) = made-knows (ends_push t) file rev (made-ends t h) in
      let b : P (caches_push (knows_revision (ends_push t) file rev) file block body) = caches-push-cases (knows_revision (ends_push t) file rev) file
      block body P (λ e. a) (λ e. made-caches _ file block body a) in
      vacates-if-clean-cases (caches_push (knows_revision (ends_push t) file rev) file block body) file P b
      (λ n e f. made-vacates (caches_push (knows_revision (ends_push t) file rev) file block body) file n.tag b)
