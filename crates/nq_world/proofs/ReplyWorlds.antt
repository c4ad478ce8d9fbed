-- In every run each reply answers a request that was sent, and is of its procedure.
use Rattle.std.proofs.Common.{◌≡◌, ℕ, true, List, Some, sym, subst, ◌∙◌}
use Rattle.nq_base.specs.declared.Reply.{Reply}
use Rattle.nq_base.specs.declared.Request.{Request}
use Rattle.nq_base.specs.declared.Tag.{Tag}
use Rattle.nq_base.specs.declared.Who.{Who}
use Rattle.nq_model.specs.protocol.Client.{Client, Job, attaching, for_call, renewing, pushing, Ticket}
use Rattle.nq_model.specs.protocol.Hear.{inc_of}
use Rattle.nq_model.specs.protocol.Message.{Message, Packet, call, reply, error}
use Rattle.nq_model.specs.protocol.World.{run}
use Rattle.nq_wire.specs.Reply.{Answers, IsRefusable}
use Rattle.nq_wire.specs.Request.{procedure_of}
use Rattle.nq_datagrams.specs.Laws.{IsOfTicket}
use Rattle.nq_datagrams.proofs.Readers.{client-reads-messages}
use Rattle.walk_steps.proofs.ClientFacts.{fits_job}
use Rattle.walk_steps.proofs.Packets.{in-get, Asked, Told}
use Rattle.walk_steps.proofs.Worlds.{IsAt, to-told, run-holds}
use Rattle.nq_world.specs.Replies.{RepliesAreOfTheirRequest, EachPacketIsHeard}
use Rattle.nq_world.proofs.ServerReplies.{IsReplyOf, kind}
use Rattle.walk_steps.proofs.ReplyRuns.{AnswersOne, EachAnswers, each-answers}

-- what is no client's request
no-null : (job : Job) → fits_job job Request.Null ≡ true → ⊥
no-null attaching e = cc
no-null for_call e = cc
no-null renewing e = cc
no-null pushing e = cc

no-vacated : (job : Job) (who : Who) (file : ℕ) (tag : Tag) → fits_job job (Request.Vacated who file tag) ≡ true → ⊥
no-vacated attaching who file tag e = cc
no-vacated for_call who file tag e = cc
no-vacated renewing who file tag e = cc
no-vacated pushing who file tag e = cc

no-evicted : (job : Job) (who : Who) (file : ℕ) (tag : Tag) → fits_job job (Request.Evicted who file tag) ≡ true → ⊥
no-evicted attaching who file tag e = cc
no-evicted for_call who file tag e = cc
no-evicted renewing who file tag e = cc
no-evicted pushing who file tag e = cc

refusable : (job : Job) (r : Request) → fits_job job r ≡ true → IsRefusable (procedure_of r)
refusable job Request.Null fits = absurd (no-null job fits)
refusable job (Request.Vacated who file tag) fits = absurd (no-vacated job who file tag fits)
refusable job (Request.Evicted who file tag) fits = absurd (no-evicted job who file tag fits)
refusable job other fits = tt

answers-it : (job : Job) (a : Reply) (r : Request) → fits_job job r ≡ true → IsReplyOf a r → Answers a (procedure_of r)
answers-it job (Reply.Refused inc status) r fits of = refusable job r fits
answers-it job other r fits of = of

-- a reply to a client's request under way
ticket-answered : (ps : List Packet) (host xid : ℕ) (a : Reply) (c : Client) (t : Ticket) → IsAt host c ps → AnswersOne IsReplyOf ps host xid a
    → c.ticket ≡ Some t → xid ≡ t.xid → inc_of a ≡ c.who.inc → Answers a (procedure_of t.request)
ticket-answered ps host xid a c t at k has same inc =
    let asked = at.mail.asked xid k.asks k.who (subst (λ n. Asked ps n xid k.asks) (sym at.here) k.sent) k.by in
    let own : t.request ≡ k.asks = asked.same (sym k.inc ∙ inc) t has (sym same) in
    let fits = (at.alone.asking.ticketed t has).fits in
    answers-it t.job a t.request fits (subst (λ r. IsReplyOf a r) (sym own) k.of)

of-ticket : (ps : List Packet) (host : ℕ) (c : Client) (m : Message) → IsAt host c ps → EachAnswers IsReplyOf ps → Told ps host m → IsOfTicket c m
of-ticket ps host c (reply xid a) at each told = λ t has same inc. ticket-answered ps host xid a c t at (each host xid a told) has same inc
of-ticket ps host c (call xid r) at each told = tt
of-ticket ps host c (error xid e) at each told = tt

pub replies-are-of-their-request : RepliesAreOfTheirRequest
replies-are-of-their-request head events number host p c for =
    let h = run-holds head events in
    let i = in-get (run head events).packets number p for.packet in
    of-ticket
    (run head events).packets
    host
    c
    p.message
    (h.clients host c for.client)
    (each-answers kind head events)
    (to-told (run head events).packets p host (h.sent p i) for.to i)

pub each-packet-is-heard : EachPacketIsHeard
each-packet-is-heard head events number host p c for fits =
    client-reads-messages c number p.message fits (replies-are-of-their-request head events number host p c for)
