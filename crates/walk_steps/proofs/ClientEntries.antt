-- What a journal keeps when an entry of a client comes behind it, it keeps in each step of a client.
use Rattle.std.proofs.Common.{◌≡◌, ◌≤◌, ℕ, ◌+◌, Bool, true, false, List, [], ◌∷◌, Option, Some, None, refl, sym, subst}
use Rattle.std.proofs.Common.{ap, ◌∙◌, inl, inr}
use Rattle.std.specs.Prelude.{⊤}
use Rattle.nq_base.specs.Block.{value_of}
use Rattle.nq_base.specs.declared.Answer.{Answer}
use Rattle.nq_base.specs.declared.Call.{Call}
use Rattle.nq_base.specs.declared.Entry.{Entry}
use Rattle.nq_base.specs.declared.Grant.{Grant}
use Rattle.nq_base.specs.declared.Push.{Push}
use Rattle.nq_base.specs.declared.Refusal.{Refusal}
use Rattle.nq_base.specs.declared.Reply.{Reply}
use Rattle.nq_base.specs.declared.Request.{Request}
use Rattle.nq_base.specs.declared.Said.{Said}
use Rattle.nq_base.specs.declared.Tag.{Tag}
use Rattle.nq_base.specs.declared.Value.{Value}
use Rattle.nq_base.specs.declared.Want.{Want}
use Rattle.nq_base.specs.declared.Who.{Who}
use Rattle.nq_model.specs.protocol.Client.{Client, ClientStep, Job, for_call, Lease, Notice, Ticket, UnderWay, begun, lease_on}
use Rattle.nq_model.specs.protocol.Client.{losses_of, loss_list, notice_on, lets_read}
use Rattle.nq_model.specs.protocol.ClientStep.{begins_call, is_called, says_busy, client_call, at_time, sends_again, client_tick, starts, fresh_client}
use Rattle.nq_model.specs.protocol.ClientStep.{next_incarnation, restart}
use Rattle.nq_base.specs.Calls.{told}
use Rattle.nq_model.specs.protocol.Hear.{vacates_lease, vacates_noticed, loses, reports, with_through, without_lease, push_refused, breaks_chain, if_broken}
use Rattle.nq_model.specs.protocol.Hear.{granted_lease, holds, takes_grant, takes_optional, answers_call, caches_block, then_caches, purges, knows_revision}
use Rattle.nq_model.specs.protocol.Hear.{read_done, lease_done, marks_through, caches_write, write_done, ends_push, caches_push, push_done, spends, attached}
use Rattle.nq_model.specs.protocol.Hear.{pauses, counts_for_call, cancels, notes_notice, evicted, replied, reply_counts, answer_of, goes_on, hear, inc_of}
use Rattle.nq_model.specs.protocol.Hear.{all_dirty}
use Rattle.nq_model.specs.protocol.Message.{Message, reply}
use Rattle.nq_model.specs.protocol.Send.{sends_request, after_seq, after_number, takes_push, sends_write, gives_up, send_next}
use Rattle.nq_model.specs.protocol.Settle.{said, answers, reads_cached, after_read, after_write, delays, marks_written, names_losses, settle}
use Rattle.walk_steps.proofs.ClientFacts.{fits_job}
use Rattle.walk_steps.proofs.PartCases.{answers-call-cases, vacates-noticed-cases, reports-cases, if-broken-cases, takes-optional-cases}
use Rattle.walk_steps.proofs.PartCases.{lease-done-cases, then-caches-cases, caches-write-cases, caches-push-cases, vacates-if-clean-cases}
use Rattle.walk_steps.proofs.RepliedCases.{IsNamed, RepliedCases, replied-cases}
use Rattle.walk_steps.proofs.SendCases.{send-moves, pushed}
use Rattle.walk_steps.proofs.SettleCases.{IsRead, IsWrite, settle-cases}
use Rattle.walk_steps.proofs.StepCases.{call-cases, unless-cached-cases, tick-cases, evicted-cases, heard-cases}
use Rattle.walk_steps.proofs.Losses.{fold-losses}
use Rattle.walk_steps.proofs.RunningLeases.{Lent, lent-used, lent-dropped, lent-put, write-reads, broken-now}

-- whether an answer rests on a reply that the journal does not name: it brings a value and names no packet, or says what stands at the
-- server
abbrev pub needs_reply : Said → Bool
needs_reply (Said.OkValue value) = true
needs_reply Said.Stale = true
needs_reply Said.NoEntry = true
needs_reply Said.Exists = true
needs_reply Said.NoSpace = true
needs_reply Said.Range = true
needs_reply other = false

-- the reply to a call's request, and what it answers the call with: it tells a file's id or length, or refuses
pub data IsTelling (request : Request) (r : Reply) : Answer → Type 0 where
  names : (answer : Answer) → IsNamed request r answer → IsTelling request r answer
  refuses : (inc : ℕ) (status : Refusal) → r ≡ Reply.Refused inc status → counts_for_call status request ≡ true → IsTelling request r (answer_of status)

-- a call reads or writes this block of this file
abbrev pub IsOfBlock : (file block : ℕ) → Call → Type 0
IsOfBlock file block (Call.Read f b) = (f ≡ file) × (b ≡ block)
IsOfBlock file block (Call.Fetch f b) = (f ≡ file) × (b ≡ block)
IsOfBlock file block (Call.Write f b body) = (f ≡ file) × (b ≡ block)
IsOfBlock file block (Call.Put f b body) = (f ≡ file) × (b ≡ block)
IsOfBlock file block other = ⊥

read-of-block : (op : Call) (file block : ℕ) → IsRead op file block → IsOfBlock file block op
read-of-block op file block (inl is) = subst (IsOfBlock file block) (sym is) (refl, refl)
read-of-block op file block (inr is) = subst (IsOfBlock file block) (sym is) (refl, refl)

write-of-block : (u : UnderWay) (sync : Bool) (file block : ℕ) (body : List ℕ) → IsWrite u sync file block body → IsOfBlock file block u.call
write-of-block u false file block body is = subst (IsOfBlock file block) (sym is) (refl, refl)
write-of-block u true file block body is = subst (IsOfBlock file block) (sym is.0) (refl, refl)

-- a call is of a block past a length that the file had
pub record IsPastEnd (Had : (file blocks : ℕ) → Type 0) (op : Call) : Type 0 where
  pub file : ℕ
  pub block : ℕ
  pub of_block : IsOfBlock file block op
  pub blocks : ℕ
  pub had : Had file blocks
  pub beyond : blocks ≤ block

-- of no length more is asked
abbrev pub AnyLength : (file blocks : ℕ) → Type 0
AnyLength file blocks = ⊤

pub any-lent : (now : ℕ) (leases : List Lease) → Lent AnyLength now leases
any-lent now leases = λ file l is lets. tt

-- ---- calls

-- the call under way of an incarnation, if there is one, has a number and an operation of which this is so
abbrev pub Going : (Who → ℕ → Call → Type 0) → Who → Option UnderWay → Type 0
Going Goes who None = ⊤
Going Goes who (Some u) = Goes who u.q u.call

-- of no call more is asked
abbrev pub AnyCall : Who → ℕ → Call → Type 0
AnyCall who q op = ⊤

pub any-going : (who : Who) (under : Option UnderWay) → Going AnyCall who under
any-going who None = tt
any-going who (Some u) = tt

through-going : (Goes : Who → ℕ → Call → Type 0) (who : Who) (on : Bool) (under : Option UnderWay) → Going Goes who under
    → Going Goes who (with_through on under)
through-going Goes who on None h = tt
through-going Goes who on (Some u) h = h

-- the reply to a request brings this grant on this file
pub data IsGranting (request : Request) (r : Reply) (file : ℕ) (g : Grant) : Type 0 where
  by_read : (who : Who) (q block : ℕ) (want : Option Want) (inc rev : ℕ) (body : List ℕ) → request ≡ Request.Read who q file block want
      → r ≡ Reply.Read inc rev body (Some g) → IsGranting request r file g
  by_lease : (who : Who) (want : Want) (inc : ℕ) → request ≡ Request.GetLease who file want → r ≡ Reply.GetLease inc (Some g) → IsGranting request r file g

-- the reply brings this grant, and the lease would run at this time, where the request was first sent at that one
abbrev pub IsLending : (now sent : ℕ) (request : Request) (r : Reply) (file : ℕ) (g : Grant) → Type 0
IsLending now sent request r file g = IsGranting request r file g × (lets_read now (granted_lease file g sent) ≡ true)

-- what a list of entries keeps behind each entry that a client makes in a step, where the calls under way are so, and leases that run are
-- of lengths that files had
pub record OfClient (Goes : Who → ℕ → Call → Type 0) (Had : (file blocks : ℕ) → Type 0) (P : List Entry → Type 0) : Type 0 where
  pub answered : (who : Who) (q : ℕ) (answer : Said) (before : List Entry) → needs_reply answer ≡ false → P before → P (Entry.A who q answer ∷ before)
  -- a read or a write past the end of its file
  pub outside : (who : Who) (q : ℕ) (op : Call) (before : List Entry) → IsPastEnd Had op → Goes who q op → P before → P (Entry.A who q Said.Range ∷ before)
  -- a cached read, and the answer that brings its value
  pub read : (who : Who) (q file block value : ℕ) (before : List Entry) → P before
      → P (Entry.A who q (Said.OkValue value) ∷ Entry.R who q file block value None ∷ before)
  pub delayed : (who : Who) (file block number value : ℕ) (before : List Entry) → P before → P (Entry.W who file block number value false ∷ before)
  pub lost : (who : Who) (file block first last : ℕ) (before : List Entry) → P before → P (Entry.L who file block first last ∷ before)

module _ (Goes : Who → ℕ → Call → Type 0) (Had : (file blocks : ℕ) → Type 0) (P : List Entry → Type 0) (o : OfClient Goes Had P) where
  -- in the middle of a step
  abbrev Keeps : ClientStep → Type 0
  Keeps t = P t.entries × Going Goes t.client.who t.client.call × Lent Had t.client.now t.client.leases

  -- ---- settling

  answered : (t : ClientStep) (q : ℕ) (a : Answer) (by : Option ℕ) → needs_reply (said a by) ≡ false → Keeps t → Keeps (answers t q a by)
  unfolding answers
  answered t q a by plain h = (o.answered t.client.who q (said a by) t.entries plain h.0, tt, h.2)

  past-end : (t : ClientStep) (u : UnderWay) (file block : ℕ) (lease : Lease) → t.client.call ≡ Some u → IsOfBlock file block u.call
      → lease_on file t.client.leases ≡ Some lease → lets_read t.client.now lease ≡ true → lease.blocks ≤ block → Keeps t
      → Keeps (answers t u.q Answer.Range None)
  unfolding answers
  past-end t u file block lease is of_block held lets beyond h =
      let past : IsPastEnd Had u.call = record {
        file = file;
        block = block;
        of_block = of_block;
        blocks = lease.blocks;
        had = h.2 file lease held lets;
        beyond = beyond;
      } in
      (o.outside t.client.who u.q u.call t.entries past (subst (Going Goes t.client.who) is h.1) h.0, tt, h.2)

  named : (t : ClientStep) (q file : ℕ) → Keeps t → Keeps (names_losses t q file)
  unfolding answers
  named t q file h =
      (o.answered t.client.who q (said (Answer.Lost (loss_list (losses_of file t.client.losses))) None) t.entries refl h.0, tt, h.2)

  cached : (t : ClientStep) (u : UnderWay) (file block : ℕ) (body : List ℕ) → Keeps t → Keeps (reads_cached t u file block body)
  unfolding reads_cached answers after_read
  cached t u file block body h = (o.read t.client.who u.q file block (value_of body) t.entries h.0, tt, lent-used Had t.client.now file t.client.leases h.2)

  delayed : (t : ClientStep) (file block : ℕ) (body : List ℕ) → Keeps t → Keeps (delays t file block body)
  unfolding after_write
  delayed t file block body h =
      (o.delayed t.client.who file block t.client.number (value_of body) t.entries h.0, h.1, lent-used Had t.client.now file t.client.leases h.2)

  delayed-call : (t : ClientStep) (file block : ℕ) (body : List ℕ) → (delays t file block body).client.call ≡ t.client.call
  unfolding after_write
  delayed-call t file block body = refl

  marked : (t : ClientStep) (u : UnderWay) → t.client.call ≡ Some u → Keeps t → Keeps (marks_written t u)
  unfolding marks_written
  marked t u is h = (h.0, subst (Going Goes t.client.who) is h.1, h.2)

  settled : (t : ClientStep) → Keeps t → Keeps (settle t)
  settled t h = settle-cases t Keeps (record {
    idle = λ none. h;
    asking = λ u is own. h;
    read_out = λ u file block lease is read can out. past-end t u file block lease is.called (read-of-block u.call file block read) can.held
        can.lets out h;
    reading = λ u file block lease body is read can within has. cached t u file block body h;
    read_waits = λ u file block is read waits. h;
    write_out = λ u sync file block body lease is write can out. past-end t u file block lease is.called
        (write-of-block u sync file block body write) can.held (write-reads t.client.now lease can.lets) out h;
    write_full = λ u sync file block body lease is write can within full. answered t u.q Answer.DirtyFull None refl h;
    writing =
        λ u file block body lease is write can within room. answered (delays t file block body) u.q (Answer.Ok Value.Nothing) None refl
        (delayed t file block body h);
    putting = λ u file block body lease is write unwritten can within room. marked (delays t file block body) u
        (delayed-call t file block body ∙ is.called) (delayed t file block body h);
    write_waits = λ u sync file block body is write waits. h;
    syncing = λ u file is sync clean. answered t u.q (Answer.Ok Value.Nothing) None refl h;
    sync_waits = λ u file is sync dirty. h;
    others = λ u is needs. h;
  })

  -- ---- the next request

  asked : (t : ClientStep) (job : Job) (request : Request) → Keeps t → Keeps (sends_request t job request)
  unfolding sends_request
  asked t job request h = h

  decided : (t : ClientStep) (job : Job) (request : Request) → Keeps t → Keeps (sends_request (after_seq t) job request)
  unfolding sends_request after_seq
  decided t job request h = h

  through : (t : ClientStep) (file block : ℕ) (body : List ℕ) → Keeps t → Keeps (sends_write t file block body)
  unfolding sends_request after_number
  through t file block body h = h

  pushes : (t : ClientStep) (p : Push) → Keeps t → Keeps (pushed t p)
  unfolding sends_request after_seq takes_push
  pushes t p h = h

  given-up : (t : ClientStep) (file : ℕ) → Keeps t → Keeps (gives_up t file)
  unfolding gives_up
  given-up t file h = (h.0, h.1, lent-dropped Had t.client.now file t.client.leases h.2)

  sent-next : (in_tick : Bool) (t : ClientStep) → Keeps t → Keeps (send_next in_tick t)
  sent-next in_tick t h = send-moves in_tick t Keeps (record {
    kept = h;
    pushes = λ file p first. pushes t p h;
    asks = λ job request. asked t job request h;
    decides = λ request. decided t for_call request h;
    writes = λ file block body. through t file block body h;
    changes = λ file request. decided (gives_up t file) for_call request (given-up t file h);
  })

  -- ---- replies and notices

  call-answered : (t : ClientStep) (a : Answer) (by : Option ℕ) → needs_reply (said a by) ≡ false → Keeps t → Keeps (answers_call t a by)
  call-answered t a by plain h = answers-call-cases t a by Keeps (λ none. h) (λ u is. answered t u.q a by plain h)

  reported : (t : ClientStep) (file : ℕ) → Keeps t → Keeps (reports t file)
  reported t file h = reports-cases t file Keeps (λ none. h) (λ u is other. h) (λ u is waits. named t u.q file h)

  vacated : (t : ClientStep) (file : ℕ) (tag : Tag) → Keeps t → Keeps (vacates_lease t file tag)
  unfolding vacates_lease
  vacated t file tag h = (h.0, h.1, lent-dropped Had t.client.now file t.client.leases h.2)

  noticed-vacated : (t : ClientStep) (file : ℕ) (n : Option Notice) → Keeps t → Keeps (vacates_noticed t file n)
  noticed-vacated t file n h = vacates-noticed-cases t file n Keeps (λ no. h) (λ notice is. vacated t file notice.tag h)

  cached-block : (t : ClientStep) (file block : ℕ) (body : List ℕ) → Keeps t → Keeps (caches_block t file block body)
  unfolding caches_block
  cached-block t file block body h = h

  purged : (t : ClientStep) (file : ℕ) → Keeps t → Keeps (purges t file)
  unfolding purges
  purged t file h = h

  known : (t : ClientStep) (file rev : ℕ) → Keeps t → Keeps (knows_revision t file rev)
  unfolding knows_revision
  known t file rev h = h

  marked-through : (on : Bool) (t : ClientStep) → Keeps t → Keeps (marks_through on t)
  unfolding marks_through
  marked-through on t h = (h.0, through-going Goes t.client.who on t.client.call h.1, h.2)

  paused : (t : ClientStep) → Keeps t → Keeps (pauses t)
  unfolding pauses marks_through
  paused t h = (h.0, through-going Goes t.client.who false t.client.call h.1, h.2)

  is-attached : (t : ClientStep) → Keeps t → Keeps (attached t)
  unfolding attached
  is-attached t h = h

  push-ended : (t : ClientStep) → Keeps t → Keeps (ends_push t)
  unfolding ends_push
  push-ended t h = h

  lost : (t : ClientStep) (file : ℕ) → Keeps t → Keeps (loses t file)
  unfolding loses
  lost t file h = (
    fold-losses P t.client.who (all_dirty t.client file) t.entries (λ p more there k. o.lost t.client.who p.file p.block p.first p.last more k) h.0,
    h.1,
    h.2,
  )

  without : (t : ClientStep) (file : ℕ) → Keeps t → Keeps (without_lease t file)
  unfolding without_lease
  without t file h = (h.0, h.1, lent-dropped Had t.client.now file t.client.leases h.2)

  refused : (t : ClientStep) (file : ℕ) → Keeps t → Keeps (push_refused t file)
  refused t file h =
      let u : ClientStep = without_lease (loses t file) file in
      reported (vacates_noticed u file (notice_on file t.client.notices)) file
      (noticed-vacated u file (notice_on file t.client.notices) (without (loses t file) file (lost t file h)))

  broken : (t : ClientStep) (file : ℕ) → Keeps t → Keeps (breaks_chain t file)
  broken t file h =
      let u : ClientStep = loses t file in
      reported (vacates_noticed u file (notice_on file t.client.notices)) file (noticed-vacated u file (notice_on file t.client.notices) (lost t file h))

  -- where the lease would run, the grant is of a length that its file had
  abbrev Grants : (now file : ℕ) (g : Grant) (sent : ℕ) → Type 0
  Grants now file g sent = lets_read now (granted_lease file g sent) ≡ true → Had file g.blocks

  held : (t : ClientStep) (file : ℕ) (g : Grant) (sent : ℕ) → Grants t.client.now file g sent → Keeps t → Keeps (holds t file g sent)
  unfolding holds granted_lease
  held t file g sent had h = (h.0, h.1, lent-put Had t.client.now (granted_lease file g sent) t.client.leases had h.2)

  taken : (t : ClientStep) (file : ℕ) (g : Grant) (sent now : ℕ) → t.client.now ≡ now → Grants now file g sent → Keeps t
      → Keeps (takes_grant t file g sent)
  taken t file g sent now same had h =
      held (if_broken t file g) file g sent (subst (λ n. Grants n file g sent) (sym (broken-now t file g ∙ same)) had)
      (if-broken-cases t file g Keeps (λ whole. h) (λ l is below dirty. broken t file h))

  optional : (t : ClientStep) (file : ℕ) (g : Option Grant) (sent now : ℕ) → t.client.now ≡ now → ((x : Grant) → g ≡ Some x → Grants now file x sent)
      → Keeps t → Keeps (takes_optional t file g sent)
  optional t file g sent now same had h =
      takes-optional-cases t file g sent Keeps (λ none. h) (λ given is. taken t file given sent now same (had given is) h)

  module _ (c : Client) (number : ℕ) (ticket : Ticket) (r : Reply) (nothing : P []) (going : Going Goes c.who c.call)
      (lent : Lent Had c.now c.leases)
      -- the grant that it brings
      (granted : (file : ℕ) (g : Grant) → IsLending c.now ticket.first ticket.request r file g → Had file g.blocks)
      -- the answer that the reply to the call's request gives
      (told-answer : (u : UnderWay) (answer : Answer) → c.call ≡ Some u → ticket.job ≡ for_call → IsTelling ticket.request r answer
      → P (Entry.A c.who u.q (said answer None) ∷ [])) where
    spent : Keeps (spends (begun c))
    unfolding spends
    spent = (nothing, going, lent)

    spent-now : (spends (begun c)).client.now ≡ c.now
    unfolding spends
    spent-now = refl

    spent-call : (spends (begun c)).client.call ≡ c.call
    unfolding spends
    spent-call = refl

    by-call : (u : UnderWay) (answer : Answer) → c.call ≡ Some u → ticket.job ≡ for_call → IsTelling ticket.request r answer
        → Keeps (answers (spends (begun c)) u.q answer None)
    unfolding spends answers
    by-call u answer is job told = (told-answer u answer is job told, tt, lent)

    by-reply : (answer : Answer) → ticket.job ≡ for_call → IsTelling ticket.request r answer → Keeps (answers_call (spends (begun c)) answer None)
    by-reply answer job is = answers-call-cases (spends (begun c)) answer None Keeps (λ none. spent) (λ u here. by-call u answer (sym spent-call
        ∙ here) job is)

    read : (file block : ℕ) (body : List ℕ) (g : Option Grant) → ((x : Grant) → g ≡ Some x → Grants c.now file x ticket.first)
        → Keeps (read_done (spends (begun c)) file block body g ticket.first number)
    read file block body g had =
        let t : ClientStep = takes_optional (spends (begun c)) file g ticket.first in
        let h : Keeps t = optional (spends (begun c)) file g ticket.first c.now spent-now had spent in
        call-answered (then_caches t file block body g) (Answer.Ok (Value.Body body)) (Some number) refl
        (then-caches-cases t file block body g Keeps (λ caching. cached-block t file block body h) (λ other. h))

    leased : (file : ℕ) (g : Option Grant) → ((x : Grant) → g ≡ Some x → Grants c.now file x ticket.first)
        → Keeps (lease_done (spends (begun c)) file g ticket.first)
    leased file g had =
        let h : Keeps (takes_optional (spends (begun c)) file g ticket.first) = optional (spends (begun c)) file g ticket.first c.now spent-now had spent in
        lease-done-cases (spends (begun c)) file g ticket.first Keeps (λ caching. h)
        (λ other. marked-through true (takes_optional (spends (begun c)) file g ticket.first) h)

    wrote : (file block : ℕ) (body : List ℕ) (rev : ℕ) → Keeps (write_done (spends (begun c)) file block body rev)
    wrote file block body rev =
        let t : ClientStep = spends (begun c) in
        call-answered (knows_revision (caches_write t file block body rev) file rev) (Answer.Ok Value.Nothing) None refl
        (known (caches_write t file block body rev) file rev
        (caches-write-cases t file block body rev Keeps (λ holding before. cached-block t file block body spent) (purged t file spent)))

    stored : (file block : ℕ) (body : List ℕ) (rev : ℕ) → Keeps (push_done (spends (begun c)) file block body rev)
    stored file block body rev =
        let t : ClientStep = knows_revision (ends_push (spends (begun c))) file rev in
        let a : Keeps t = known (ends_push (spends (begun c))) file rev (push-ended (spends (begun c)) spent) in
        let b : Keeps (caches_push t file block body) = caches-push-cases t file block body Keeps (λ dirty. a) (λ clean. cached-block t file block body a) in
        vacates-if-clean-cases (caches_push t file block body) file Keeps b (λ n clean is. vacated (caches_push t file block body) file n.tag b)

    cases : RepliedCases c number ticket r Keeps
    cases = record {
      attaching = λ who inc job asks is. is-attached (spends (begun c)) spent;
      named = λ answer job is. by-reply answer job (names answer is);
      reading =
          λ who q file block want inc rev body grant of_call is. read file block body grant
          (λ x e lets. granted file x (by_read who q block want inc rev body of_call.asks (is ∙ ap (λ o. Reply.Read inc rev body o) e), lets));
      leasing =
          λ who file want inc grant of_call is. leased file grant
          (λ x e lets. granted file x (by_lease who want inc of_call.asks (is ∙ ap (λ o. Reply.GetLease inc o) e), lets));
      writing = λ who seq file block first last body inc rev of_call is. wrote file block body rev;
      resizing =
          λ who seq q file blocks inc rev of_call is. call-answered (knows_revision (spends (begun c)) file rev) (Answer.Ok Value.Nothing) None refl
          (known (spends (begun c)) file rev spent);
      removing = λ who seq q file inc of_call is. call-answered (spends (begun c)) (Answer.Ok Value.Nothing) None refl spent;
      renewing = λ who file want inc grant job asks is. optional (spends (begun c)) file grant ticket.first c.now spent-now
          (λ x e lets. granted file x (by_lease who want inc asks (is ∙ ap (λ o. Reply.GetLease inc o) e), lets)) spent;
      pushed = λ who seq file block first last base body inc rev job asks is. stored file block body rev;
      putting_off = λ inc status job is off. paused (spends (begun c)) spent;
      refusing = λ inc status job is counts off. by-reply (answer_of status) job (refuses inc status is counts);
      renewal_refused = λ inc status job is off. spent;
      push_refused = λ who seq file block first last base body inc status job asks is off. refused (spends (begun c)) file spent;
    }

    reply-keeps : fits_job ticket.job ticket.request ≡ true → reply_counts r ticket ≡ true → Keeps (replied (begun c) number ticket r)
    reply-keeps fits counts = replied-cases c number ticket r Keeps fits counts cases

  cancelled-none : (c : Client) (file : ℕ) → P [] → Going Goes c.who c.call → Lent Had c.now c.leases → Keeps (cancels (begun c) file)
  unfolding cancels
  cancelled-none c file nothing going lent = (nothing, going, lent)

  noted : (t : ClientStep) (file : ℕ) (tag : Tag) → Keeps t → Keeps (notes_notice t file tag)
  unfolding notes_notice
  noted t file tag h = h

  notice-keeps : (c : Client) (file : ℕ) (tag : Tag) → P [] → Going Goes c.who c.call → Lent Had c.now c.leases
      → Keeps (evicted (cancels (begun c) file) file tag)
  notice-keeps c file tag nothing going lent = evicted-cases (cancels (begun c) file) file tag Keeps (record {
    clean = λ clean. vacated (cancels (begun c) file) file tag (cancelled-none c file nothing going lent);
    waiting = λ dirty. noted (cancels (begun c) file) file tag (cancelled-none c file nothing going lent);
  })

  -- ---- each step

  begins : (c : Client) (op : Call) → P (Entry.C c.who (c.calls + 1) (told op) ∷ []) → Going Goes c.who c.call → Lent Had c.now c.leases
      → Keeps (begins_call c op)
  unfolding begins_call
  begins c op call going lent = (call, going, lent)

  called : (c : Client) (op : Call) → P (Entry.C c.who (c.calls + 1) (told op) ∷ []) → Goes c.who (c.calls + 1) op → Lent Had c.now c.leases
      → Keeps (is_called (begins_call c op) op)
  unfolding is_called begins_call
  called c op call goes lent = (call, goes, lent)

  busy : (t : ClientStep) → Keeps t → Keeps (says_busy t)
  unfolding says_busy
  busy t h = (o.answered t.client.who t.client.calls Said.Busy t.entries refl h.0, h.1, h.2)

  call-does : (c : Client) (op : Call) → P (Entry.C c.who (c.calls + 1) (told op) ∷ []) → Going Goes c.who c.call → Goes c.who (c.calls + 1) op
      → Lent Had c.now c.leases → Keeps (client_call c op)
  call-does c op call going goes lent = call-cases c op Keeps (record {
    busy = λ why. busy (begins_call c op) (begins c op call going lent);
    telling = λ file loss losses none on changes has. named (begins_call c op) (begins_call c op).client.calls file (begins c op call going lent);
    going =
        λ none on no_loss. let t : ClientStep = settle (is_called (begins_call c op) op) in
        let k : Keeps t = settled (is_called (begins_call c op) op) (called c op call goes lent) in
        unless-cached-cases t Keeps (λ from_cache. k) (λ other. sent-next false t k);
  })

  -- what is kept of a step: its entries, and the leases behind it
  abbrev pub Leaves : ClientStep → Type 0
  Leaves t = P t.entries × Lent Had t.client.now t.client.leases

  left : (t : ClientStep) → Keeps t → Leaves t
  left t h = (h.0, h.2)

  -- where the call under way is so, and the one that is made
  pub call-keeps : (c : Client) (op : Call) → P (Entry.C c.who (c.calls + 1) (told op) ∷ []) → Going Goes c.who c.call → Goes c.who (c.calls + 1) op
      → Lent Had c.now c.leases → Leaves (client_call c op)
  call-keeps c op call going goes lent = left (client_call c op) (call-does c op call going goes lent)

  again : (t : ClientStep) (ticket : Ticket) → Keeps t → Keeps (sends_again t ticket)
  unfolding sends_again
  again t ticket h = h

  timed : (c : Client) (now : ℕ) → P [] → Going Goes c.who c.call → Lent Had now c.leases → Keeps (begun (at_time c now))
  unfolding at_time
  timed c now nothing going lent = (nothing, going, lent)

  pub tick-keeps : (c : Client) (now : ℕ) → P [] → Going Goes c.who c.call → Lent Had now c.leases → Leaves (client_tick c now)
  tick-keeps c now nothing going lent =
      let begins : Keeps (begun (at_time c now)) = timed c now nothing going lent in
      left (client_tick c now) (tick-cases c now Keeps (record {
        again = λ ticket is due. again (begun (at_time c now)) ticket begins;
        quiet = λ ticket is soon. begins;
        free = λ none. sent-next true (settle (begun (at_time c now))) (settled (begun (at_time c now)) begins);
      }))

  went-on : (t : ClientStep) → Keeps t → Keeps (goes_on t)
  went-on t h = sent-next false (settle t) (settled t h)

  pub hear-keeps : (c : Client) (number : ℕ) (m : Message) (t : ClientStep) → hear c number m ≡ Some t
      → ((ticket : Ticket) → c.ticket ≡ Some ticket → fits_job ticket.job ticket.request ≡ true) → P [] → Going Goes c.who c.call
      → Lent Had c.now c.leases
      → ((xid : ℕ) (r : Reply) (ticket : Ticket) (file : ℕ) (g : Grant) → m ≡ reply xid r → c.ticket ≡ Some ticket → xid ≡ ticket.xid
      → inc_of r ≡ c.who.inc → IsLending c.now ticket.first ticket.request r file g → Had file g.blocks)
      → ((xid : ℕ) (r : Reply) (ticket : Ticket) (u : UnderWay) (answer : Answer) → m ≡ reply xid r → c.ticket ≡ Some ticket → xid ≡ ticket.xid
      → inc_of r ≡ c.who.inc → c.call ≡ Some u → ticket.job ≡ for_call → IsTelling ticket.request r answer
      → P (Entry.A c.who u.q (said answer None) ∷ [])) → Leaves t
  hear-keeps c number m t hears fits nothing going lent granted gives = left t (heard-cases c number m t Keeps hears (record {
    answered = λ xid r ticket is asked same inc counts.
        went-on (replied (begun c) number ticket r)
        (reply-keeps c number ticket r nothing going lent (λ file g by. granted xid r ticket file g is asked same inc by)
        (λ u answer has job named. gives xid r ticket u answer is asked same inc has job named) (fits ticket asked) counts);
    noticed =
        λ xid file tag is later. went-on (evicted (cancels (begun c) file) file tag)
        (notice-keeps c file tag nothing going lent);
  }))

  pub restart-keeps : (c : Client) → P (Entry.B (next_incarnation c.who) ∷ []) → Leaves (restart c)
  unfolding starts fresh_client
  restart-keeps c started = (started, λ file l none lets. absurd (cc))
