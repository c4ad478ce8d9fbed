-- What a turn does to a client's time: a tick brings it to the reading of the clock, and a datagram leaves it.
use Rattle.std.proofs.Common.{◌≡◌, ◌≤◌, ◌<◌, ◌+◌, ℕ, Bool, true, false, length, Option, Some, None, Result, Ok, Err, refl, ap, ◌∙◌, subst, nat_lt}
use Rattle.std.proofs.Common.{if◌then◌else◌, arith}
use Rattle.nq_base.specs.declared.Answer.{Answer}
use Rattle.nq_base.specs.declared.Party.{Party}
use Rattle.nq_base.specs.declared.Reply.{Reply}
use Rattle.nq_base.specs.declared.Tag.{Tag}
use Rattle.nq_base.specs.declared.ending.fault.Fault.{Fault}
use Rattle.nq_calling.specs.Calling.{refusal_of}
use Rattle.nq_client.proofs.Calls.{ticked}
use Rattle.nq_client.proofs.Received.{replied-answered}
use Rattle.nq_client.proofs.RepliedKept.{Kept, answered-kept}
use Rattle.nq_client.proofs.Requested.{sends}
use Rattle.nq_client.proofs.Settled.{settled}
use Rattle.nq_client.specs.Counted.{Counted}
use Rattle.nq_client.specs.Outcome.{Heeded, Received}
use Rattle.nq_client.specs.Receiving.{answered}
use Rattle.nq_client.specs.declared.reaction.Reaction.{Reaction}
use Rattle.nq_client_parts.specs.Calls.{file_at_stake}
use Rattle.nq_clock.specs.Clocks.{ClockTold}
use Rattle.nq_datagrams.specs.Incoming.{hears, hears_in, heard_in}
use Rattle.nq_hosts.specs.ClientTurn.{Given, Moment, Takes, Receives, GoesOn, Stages, goes_on, tick_due, given_of}
use Rattle.nq_link.specs.Links.{Letter, LinkTold}
use Rattle.nq_model.specs.protocol.Client.{Client, ClientStep, Ticket, begun, is_clean}
use Rattle.nq_model.specs.protocol.ClientStep.{client_tick, at_time}
use Rattle.nq_model.specs.protocol.Hear.{all_dirty, cancels, evicted, goes_on as goes_from, hear, notes_notice, replied, spends, vacates_lease}
use Rattle.nq_model.specs.protocol.Message.{Message}
use Rattle.nq_model.specs.protocol.Settle.{settle}
use Rattle.walk_steps.proofs.Rows.{choice}
use Rattle.walk_steps.proofs.StepCases.{heard-cases}
use Rattle.walk_steps.proofs.Tests.{is-not-below}

-- ---- steps

-- a tick brings the client to its time
tick-time : (c : Client) (now : ℕ) → (client_tick c now).client.now ≡ now
unfolding at_time
tick-time c now = (ticked c now).now

-- what comes after a datagram that counted leaves the time
going-time : (s : ClientStep) → (goes_from s).client.now ≡ s.client.now
going-time s = (sends false (settle s)).now ∙ (settled s).now

-- a reply leaves the time
reply-time : (c : Client) (number : ℕ) (ticket : Ticket) (r : Reply) → (replied (begun c) number ticket r).client.now ≡ c.now
unfolding spends
reply-time c number ticket r =
    let kept : Kept 1 (length (all_dirty c (file_at_stake ticket.request)) + 2) (spends (begun c)) (answered (spends (begun c)) number ticket r) =
    answered-kept (spends (begun c)) number ticket r in
    ap (λ (t : ClientStep). t.client.now) (replied-answered (begun c) number ticket r) ∙ kept.now

-- a notice leaves the time
notice-time : (c : Client) (file : ℕ) (tag : Tag) → (evicted (cancels (begun c) file) file tag).client.now ≡ c.now
unfolding cancels vacates_lease notes_notice
notice-time c file tag =
    choice
    (λ (t : ClientStep). t.client.now ≡ c.now)
    (is_clean (cancels (begun c) file).client file)
    (vacates_lease (cancels (begun c) file) file tag)
    (notes_notice (cancels (begun c) file) file tag)
    (λ clean. refl)
    (λ dirty. refl)

-- a datagram that counts leaves the time
heard-time : (c : Client) (number : ℕ) (m : Message) (t : ClientStep) → hear c number m ≡ Some t → t.client.now ≡ c.now
heard-time c number m t e = heard-cases c number m t (λ (u : ClientStep). u.client.now ≡ c.now) e (record {
  answered = λ xid r ticket is under same inc counts. going-time (replied (begun c) number ticket r) ∙ reply-time c number ticket r;
  noticed = λ xid file tag is later. going-time (evicted (cancels (begun c) file) file tag) ∙ notice-time c file tag;
})

-- ---- what a turn gives a client

-- a client whose time is no less than before
abbrev pub Waits : (at after : Moment) → Type 0
Waits at after = at.client.client.now ≤ after.client.client.now

same-time : (m n : ℕ) → n ≡ m → m ≤ n
same-time m n e = omega arith

-- a client that took a step in, or refused it
heeded-time : (how : Reaction) (t : ClientStep) (at after : Moment) → at.client.client.now ≤ t.client.now
    → Heeded how t at.client after.client at.out after.out at.log after.log → Waits at after
heeded-time Reaction.Nothing t at after less does = let e = ap (λ (c : Client). c.now) does.0.client in omega arith
heeded-time Reaction.Ignored t at after less does = let e = ap (λ (c : Client). c.now) does.0.client in omega arith
heeded-time (Reaction.Answered answer) t at after less does = let e = ap (λ (c : Client). c.now) does.0.client in omega arith
heeded-time Reaction.Memory t at after less does = let e = ap (λ (c : Counted). c.client.now) does.client in omega arith
heeded-time Reaction.Spent t at after less does = let e = ap (λ (c : Counted). c.client.now) does.client in omega arith

-- a client that took a datagram in, or did not
received-time : (how : Reaction) (c : Client) (o : Option ClientStep) (at after : Moment) → c ≡ at.client.client
    → ((t : ClientStep) → o ≡ Some t → t.client.now ≡ c.now)
    → Received how o at.client after.client at.out after.out at.log after.log → Waits at after
received-time how c (Some t) at after is same does =
    heeded-time how t at after (let e = same t refl in let f = ap (λ (d : Client). d.now) is in omega arith) does
received-time Reaction.Ignored c None at after is same does = let e = ap (λ (d : Client). d.now) does.client in omega arith
received-time Reaction.Spent c None at after is same does = let e = ap (λ (d : Counted). d.client.now) does.client in omega arith
received-time Reaction.Nothing c None at after is same does = absurd does
received-time Reaction.Memory c None at after is same does = absurd does
received-time (Reaction.Answered answer) c None at after is same does = absurd does

-- the step on a datagram
step-time : (c : Client) (number : ℕ) (o : Option Message) (t : ClientStep) → hears c number o ≡ Some t → t.client.now ≡ c.now
step-time c number None t e = absurd (cc)
step-time c number (Some m) t e = heard-time c number m t e

-- what is given of a datagram
letter-time : (came : Option Letter) (goes : Result (Option Answer) Fault) (at after : Moment) → Takes (given_of came) goes at after → Waits at after
letter-time None goes at after takes = same-time _ _ (ap (λ (m : Moment). m.client.client.now) takes.1)
letter-time (Some (Party.Client host, bytes)) goes at after takes = same-time _ _ (ap (λ (m : Moment). m.client.client.now) takes.1)
letter-time (Some (Party.Server, bytes)) goes at after takes =
    received-time takes.how at.client.client (hears_in at.client.client at.next bytes) at after refl
    (λ t e. step-time at.client.client at.next (heard_in at.client.client.ticket bytes) t e) takes.does

-- the stage that receives
receives-time : (goes : Result (Option Answer) Fault) (link link' : LinkTold) (at after : Moment) → Receives goes link link' at after → Waits at after
receives-time (Ok answer) link link' at after receives = letter-time receives.0 (Ok answer) at after receives.1.takes
receives-time (Err Fault.Link) link link' at after receives = same-time _ _ (ap (λ (m : Moment). m.client.client.now) receives.same)
receives-time (Err Fault.Keep) link link' at after receives = letter-time receives.0 (Err Fault.Keep) at after receives.1.takes
receives-time (Err Fault.Memory) link link' at after receives = letter-time receives.0 (Err Fault.Memory) at after receives.1.takes
receives-time (Err Fault.Spent) link link' at after receives = letter-time receives.0 (Err Fault.Spent) at after receives.1.takes
receives-time (Err Fault.NoAnswer) link link' at after receives = letter-time receives.0 (Err Fault.NoAnswer) at after receives.1.takes

-- ---- the tick

-- a tick that went on
went-time : (how : Reaction) (ticked : Option Answer) (reading : ℕ) (at after : Moment) → Ok ticked ≡ goes_on how
    → Heeded how (client_tick at.client.client reading) at.client after.client at.out after.out at.log after.log → reading ≤ after.client.client.now
went-time Reaction.Nothing ticked reading at after is does =
    let e = ap (λ (c : Client). c.now) does.0.client in let f = tick-time at.client.client reading in omega arith
went-time Reaction.Ignored ticked reading at after is does =
    let e = ap (λ (c : Client). c.now) does.0.client in let f = tick-time at.client.client reading in omega arith
went-time (Reaction.Answered answer) ticked reading at after is does =
    let e = ap (λ (c : Client). c.now) does.0.client in let f = tick-time at.client.client reading in omega arith
went-time Reaction.Memory ticked reading at after is does = absurd (cc)
went-time Reaction.Spent ticked reading at after is does = absurd (cc)

-- the tick that is due, where it went on
due-time : (ticked : Option Answer) (reading : ℕ) (at after : Moment) (due : Bool) → nat_lt at.client.client.now reading ≡ due
    → Takes (if due then Some (Given.ticks reading) else None) (Ok ticked) at after → reading ≤ after.client.client.now
due-time ticked reading at after true test takes = went-time takes.how ticked reading at after takes.so takes.does
due-time ticked reading at after false test takes =
    let e = ap (λ (m : Moment). m.client.client.now) takes.1 in
    let f = is-not-below at.client.client.now reading test in omega arith

-- a tick that did not go on: memory was refused, or the client takes in no more
stopped-tick : (how : Reaction) (why : Fault) → Err why ≡ goes_on how → refusal_of (Err why) ≡ None → ⊥
stopped-tick Reaction.Nothing why is on = cc
stopped-tick Reaction.Ignored why is on = cc
stopped-tick (Reaction.Answered answer) why is on = cc
stopped-tick Reaction.Memory Fault.Memory is on = cc
stopped-tick Reaction.Memory why is on = cc
stopped-tick Reaction.Spent Fault.Spent is on = cc
stopped-tick Reaction.Spent why is on = cc

stopped : (due : Bool) (reading : ℕ) (why : Fault) (at after : Moment)
    → Takes (if due then Some (Given.ticks reading) else None) (Err why) at after → refusal_of (Err why) ≡ None → ⊥
stopped true reading why at after takes on = stopped-tick takes.how why takes.so on
stopped false reading why at after takes on = let is = takes.0 in cc

-- ---- the turn

goes-time : (goes ended : Result (Option Answer) Fault) (reading : ℕ) (link link' : LinkTold) (at between after : Moment)
    → Takes (tick_due at.client.client.now reading) goes at between → GoesOn goes ended link link' between after → refusal_of ended ≡ None
    → reading ≤ after.client.client.now
goes-time (Ok answer) ended reading link link' at between after takes rest on =
    let due = due-time answer reading at between (nat_lt at.client.client.now reading) refl takes in
    let waits = receives-time rest.0 link rest.1 between after rest.2 in omega arith
goes-time (Err why) ended reading link link' at between after takes rest on =
    absurd (stopped (nat_lt at.client.client.now reading) reading why at between takes (subst (λ e. refusal_of e ≡ None) rest.0 on))

-- behind a turn that took in what it read and heard, the client's time is no less than the reading
pub turn-time : (ended : Result (Option Answer) Fault) (clock clock' : ClockTold) (link link' : LinkTold) (at after : Moment)
    → (stages : Stages ended clock clock' link link' at after) → refusal_of ended ≡ None → stages.reading ≤ after.client.client.now
turn-time ended clock clock' link link' at after stages on =
    goes-time stages.goes ended stages.reading link link' at stages.between after stages.ticks stages.rest on
