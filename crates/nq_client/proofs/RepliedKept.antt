-- What stays of a client's step where it hears a reply, branch by branch.
use Rattle.std.proofs.Common.{◌≡◌, ◌≤◌, ◌+◌, ◌++◌, ◌&&◌, not, ℕ, Bool, true, List, length, map, reverse, Option, Some, None, is_some}
use Rattle.std.proofs.Common.{refl, ap, ◌∙◌, arith}
use Rattle.std.proofs.lemmas.List.{length-append, length-map, length-reverse}
use Rattle.nq_base.specs.declared.Answer.{Answer}
use Rattle.nq_base.specs.declared.Entry.{Entry}
use Rattle.nq_base.specs.declared.Grant.{Grant}
use Rattle.nq_base.specs.declared.Push.{Push}
use Rattle.nq_base.specs.declared.Refusal.{Refusal}
use Rattle.nq_base.specs.declared.Reply.{Reply}
use Rattle.nq_base.specs.declared.Request.{Request}
use Rattle.nq_base.specs.declared.Tag.{Tag}
use Rattle.nq_base.specs.declared.Value.{Value}
use Rattle.nq_base.specs.declared.Who.{Who}
use Rattle.nq_client.proofs.Settled.{choice, is_given}
use Rattle.nq_client_parts.specs.Calls.{file_at_stake}
use Rattle.nq_client.specs.Receiving.{answered}
use Rattle.nq_model.specs.protocol.Client.{Notice, UnderWay, Job, attaching, for_call, renewing, pushing, Ticket, ClientStep}
use Rattle.nq_model.specs.protocol.Client.{is_clean, lease_on, notice_on, is_revision_before, revision_of, dirty_at}
use Rattle.nq_model.specs.protocol.Hear.{vacates_lease, vacates_noticed, all_dirty, loss_entry, loses, waits_for, reports_to, reports, without_lease}
use Rattle.nq_model.specs.protocol.Hear.{push_refused, breaks, breaks_chain, if_broken, holds, takes_grant, takes_optional, answers_call_of, answers_call}
use Rattle.nq_model.specs.protocol.Hear.{caches_block, purges, knows_revision, grant_caches, then_caches, read_done, marks_through, lease_done, holds_caching}
use Rattle.nq_model.specs.protocol.Hear.{caches_write, write_done, ends_push, caches_push, vacates_if_clean, push_done, answer_of, is_put_off, attached}
use Rattle.nq_model.specs.protocol.Hear.{pauses, done_for_call, done_renewal, done_push, done, refused_push, refused, other_push}
use Rattle.nq_model.specs.protocol.Settle.{answers, names_losses}

-- a part of a step that takes so many numbers of requests and makes so many entries at most
pub record Kept (xids entries : ℕ) (t s : ClientStep) : Type 0 where
  pub now : s.client.now ≡ t.client.now
  pub calls : s.client.calls ≡ t.client.calls
  pub seq : s.client.seq ≡ t.client.seq
  pub number : s.client.number ≡ t.client.number
  pub ticket : s.client.ticket ≡ t.client.ticket
  pub xid : s.client.xid ≤ t.client.xid + xids
  pub entries_few : length s.entries ≤ length t.entries + entries
  pub given : is_given t.answer ≡ true → is_given s.answer ≡ true
  pub push : t.client.push ≡ None → s.client.push ≡ None

same : (t : ClientStep) → Kept 0 0 t t
same t = record {
  now = refl;
  calls = refl;
  seq = refl;
  number = refl;
  ticket = refl;
  xid = omega arith;
  entries_few = omega arith;
  given = λ h. h;
  push = λ h. h;
}

-- one part after another
after : (a b m n : ℕ) (t s u : ClientStep) → Kept a m t s → Kept b n s u → Kept (a + b) (m + n) t u
after a b m n t s u x y = record {
  now = y.now ∙ x.now;
  calls = y.calls ∙ x.calls;
  seq = y.seq ∙ x.seq;
  number = y.number ∙ x.number;
  ticket = y.ticket ∙ x.ticket;
  xid = let e = x.xid in let f = y.xid in omega arith;
  entries_few = let e = x.entries_few in let f = y.entries_few in omega arith;
  given = λ h. y.given (x.given h);
  push = λ h. y.push (x.push h);
}

-- at most so many more
pub more : (a b m n : ℕ) (t s : ClientStep) → a ≤ b → m ≤ n → Kept a m t s → Kept b n t s
more a b m n t s p q x = record {
  now = x.now;
  calls = x.calls;
  seq = x.seq;
  number = x.number;
  ticket = x.ticket;
  xid = let e = x.xid in omega arith;
  entries_few = let e = x.entries_few in omega arith;
  given = x.given;
  push = x.push;
}

none : (n : ℕ) (t : ClientStep) → Kept 0 n t t
none n t = more 0 0 0 n t t (omega arith) (omega arith) (same t)

answered-with : (t : ClientStep) (q : ℕ) (answer : Answer) (by : Option ℕ) → is_given (Some answer) ≡ true → Kept 0 1 t (answers t q answer by)
unfolding answers
answered-with t q answer by given = record {
  now = refl;
  calls = refl;
  seq = refl;
  number = refl;
  ticket = refl;
  xid = omega arith;
  entries_few = omega arith;
  given = λ h. given;
  push = λ h. h;
}

named : (t : ClientStep) (q file : ℕ) → Kept 0 1 t (names_losses t q file)
unfolding answers
named t q file = record {
  now = refl;
  calls = refl;
  seq = refl;
  number = refl;
  ticket = refl;
  xid = omega arith;
  entries_few = omega arith;
  given = λ h. refl;
  push = λ h. h;
}

answered-call : (t : ClientStep) (answer : Answer) (by : Option ℕ) (o : Option UnderWay) → is_given (Some answer) ≡ true
    → Kept 0 1 t (answers_call_of t answer by o)
answered-call t answer by None given = none 1 t
answered-call t answer by (Some u) given = answered-with t u.q answer by given

pub reported : (t : ClientStep) (file : ℕ) (o : Option UnderWay) → Kept 0 1 t (reports_to t file o)
reported t file None = none 1 t
reported t file (Some u) = choice (Kept 0 1 t) (waits_for file u.written u.call) _ _ (named t u.q file) (none 1 t)

vacated : (t : ClientStep) (file : ℕ) (tag : Tag) → Kept 1 0 t (vacates_lease t file tag)
unfolding vacates_lease
vacated t file tag = record {
  now = refl;
  calls = refl;
  seq = refl;
  number = refl;
  ticket = refl;
  xid = omega arith;
  entries_few = omega arith;
  given = λ h. h;
  push = λ h. h;
}

still : (t : ClientStep) → Kept 1 0 t t
still t = more 0 1 0 0 t t (omega arith) (omega arith) (same t)

pub vacated-noticed : (t : ClientStep) (file : ℕ) (o : Option Notice) → Kept 1 0 t (vacates_noticed t file o)
vacated-noticed t file None = still t
vacated-noticed t file (Some n) = vacated t file n.tag

entries-of : (who : Who) (ps : List Push) (es : List Entry) → length (reverse (map (loss_entry who) ps) ++ es) ≡ length es + length ps
entries-of who ps es =
    length-append (reverse (map (loss_entry who) ps)) es
    ∙ ap (λ n. n + length es) (length-reverse (map (loss_entry who) ps) ∙ length-map ps (loss_entry who))
    ∙ (omega arith)

lost : (t : ClientStep) (file : ℕ) → Kept 0 (length (all_dirty t.client file)) t (loses t file)
unfolding loses
lost t file = record {
  now = refl;
  calls = refl;
  seq = refl;
  number = refl;
  ticket = refl;
  xid = omega arith;
  entries_few = let e = entries-of t.client.who (all_dirty t.client file) t.entries in omega (arith, e);
  given = λ h. h;
  push = λ h. ap (other_push file) h;
}

pub unleased : (t : ClientStep) (file : ℕ) → Kept 0 0 t (without_lease t file)
unfolding without_lease
unleased t file = record {
  now = refl;
  calls = refl;
  seq = refl;
  number = refl;
  ticket = refl;
  xid = omega arith;
  entries_few = omega arith;
  given = λ h. h;
  push = λ h. h;
}

held : (t : ClientStep) (file : ℕ) (g : Grant) (sent : ℕ) → Kept 0 0 t (holds t file g sent)
unfolding holds
held t file g sent = record {
  now = refl;
  calls = refl;
  seq = refl;
  number = refl;
  ticket = refl;
  xid = omega arith;
  entries_few = omega arith;
  given = λ h. h;
  push = λ h. h;
}

cached : (t : ClientStep) (file block : ℕ) (body : List ℕ) → Kept 0 0 t (caches_block t file block body)
unfolding caches_block
cached t file block body = record {
  now = refl;
  calls = refl;
  seq = refl;
  number = refl;
  ticket = refl;
  xid = omega arith;
  entries_few = omega arith;
  given = λ h. h;
  push = λ h. h;
}

purged : (t : ClientStep) (file : ℕ) → Kept 0 0 t (purges t file)
unfolding purges
purged t file = record {
  now = refl;
  calls = refl;
  seq = refl;
  number = refl;
  ticket = refl;
  xid = omega arith;
  entries_few = omega arith;
  given = λ h. h;
  push = λ h. h;
}

known : (t : ClientStep) (file rev : ℕ) → Kept 0 0 t (knows_revision t file rev)
unfolding knows_revision
known t file rev = record {
  now = refl;
  calls = refl;
  seq = refl;
  number = refl;
  ticket = refl;
  xid = omega arith;
  entries_few = omega arith;
  given = λ h. h;
  push = λ h. h;
}

marked : (t : ClientStep) (on : Bool) → Kept 0 0 t (marks_through on t)
unfolding marks_through
marked t on = record {
  now = refl;
  calls = refl;
  seq = refl;
  number = refl;
  ticket = refl;
  xid = omega arith;
  entries_few = omega arith;
  given = λ h. h;
  push = λ h. h;
}

paused : (t : ClientStep) → Kept 0 0 t (pauses t)
unfolding pauses marks_through
paused t = record {
  now = refl;
  calls = refl;
  seq = refl;
  number = refl;
  ticket = refl;
  xid = omega arith;
  entries_few = omega arith;
  given = λ h. h;
  push = λ h. h;
}

is-attached : (t : ClientStep) → Kept 0 0 t (attached t)
unfolding attached
is-attached t = record {
  now = refl;
  calls = refl;
  seq = refl;
  number = refl;
  ticket = refl;
  xid = omega arith;
  entries_few = omega arith;
  given = λ h. h;
  push = λ h. h;
}

stored : (t : ClientStep) → Kept 0 0 t (ends_push t)
unfolding ends_push
stored t = record {
  now = refl;
  calls = refl;
  seq = refl;
  number = refl;
  ticket = refl;
  xid = omega arith;
  entries_few = omega arith;
  given = λ h. h;
  push = λ h. refl;
}

-- ---- losses

pub chain-broken : (t : ClientStep) (file : ℕ) → Kept 1 (length (all_dirty t.client file) + 1) t (breaks_chain t file)
chain-broken t file =
    let lost-step = loses t file in
    let vacated-step = vacates_noticed lost-step file (notice_on file t.client.notices) in
    let both : Kept (0 + 1) (length (all_dirty t.client file) + 0) t vacated-step = after 0 1 (length (all_dirty t.client file)) 0 t lost-step
    vacated-step (lost t file) (vacated-noticed lost-step file (notice_on file t.client.notices)) in
    let all = after (0 + 1) 0 (length (all_dirty t.client file) + 0) 1 t vacated-step (reports vacated-step file) both (reported vacated-step file
    vacated-step.client.call) in
    more (0 + 1 + 0) 1 (length (all_dirty t.client file) + 0 + 1) (length (all_dirty t.client file) + 1) t (reports vacated-step file) (omega arith)
    (omega arith) all

pub push-refused : (t : ClientStep) (file : ℕ) → Kept 1 (length (all_dirty t.client file) + 1) t (push_refused t file)
push-refused t file =
    let lost-step = loses t file in
    let unleased-step = without_lease lost-step file in
    let vacated-step = vacates_noticed unleased-step file (notice_on file t.client.notices) in
    let first = after 0 0 (length (all_dirty t.client file)) 0 t lost-step unleased-step (lost t file) (unleased lost-step file) in
    let both = after (0 + 0) 1 (length (all_dirty t.client file) + 0) 0 t unleased-step vacated-step first (vacated-noticed unleased-step file
    (notice_on file t.client.notices)) in
    let all = after (0 + 0 + 1) 0 (length (all_dirty t.client file) + 0 + 0) 1 t vacated-step (reports vacated-step file) both
    (reported vacated-step file vacated-step.client.call) in
    more (0 + 0 + 1 + 0) 1 (length (all_dirty t.client file) + 0 + 0 + 1) (length (all_dirty t.client file) + 1) t (reports vacated-step file)
    (omega arith) (omega arith) all

-- ---- grants

broken : (t : ClientStep) (file : ℕ) (g : Grant) → Kept 1 (length (all_dirty t.client file) + 1) t (if_broken t file g)
broken t file g =
    choice (Kept 1 (length (all_dirty t.client file) + 1) t) (breaks g (lease_on file t.client.leases) && not (is_clean t.client file)) _ _
    (chain-broken t file)
    (more 0 1 0 (length (all_dirty t.client file) + 1) t t (omega arith) (omega arith) (same t))

taken : (t : ClientStep) (file : ℕ) (g : Grant) (sent : ℕ) → Kept 1 (length (all_dirty t.client file) + 1) t (takes_grant t file g sent)
taken t file g sent =
    let n = length (all_dirty t.client file) + 1 in
    more (1 + 0) 1 (n + 0) n t (takes_grant t file g sent) (omega arith) (omega arith)
    (after 1 0 n 0 t (if_broken t file g) (takes_grant t file g sent) (broken t file g) (held (if_broken t file g) file g sent))

taken-optional : (t : ClientStep) (file : ℕ) (o : Option Grant) (sent : ℕ) → Kept 1 (length (all_dirty t.client file) + 1) t (takes_optional t file o sent)
taken-optional t file None sent = more 0 1 0 (length (all_dirty t.client file) + 1) t t (omega arith) (omega arith) (same t)
taken-optional t file (Some g) sent = taken t file g sent

block-cached : (t : ClientStep) (file block : ℕ) (body : List ℕ) (o : Option Grant) → Kept 0 0 t (then_caches t file block body o)
block-cached t file block body o = choice (Kept 0 0 t) (grant_caches o) _ _ (cached t file block body) (same t)

read-done : (t : ClientStep) (file block : ℕ) (body : List ℕ) (o : Option Grant) (sent number : ℕ) → Kept 1 (length (all_dirty t.client file) + 2) t
    (read_done t file block body o sent number)
read-done t file block body o sent number =
    let n = length (all_dirty t.client file) + 1 in
    let taken-step = takes_optional t file o sent in
    let cached-step = then_caches taken-step file block body o in
    let answered-step = answers_call cached-step (Answer.Ok (Value.Body body)) (Some number) in
    more (1 + 0 + 0) 1 (n + 0 + 1) (length (all_dirty t.client file) + 2) t answered-step (omega arith) (omega arith)
    (after (1 + 0) 0 (n + 0) 1 t cached-step answered-step
    (after 1 0 n 0 t taken-step cached-step (taken-optional t file o sent) (block-cached taken-step file block body o))
    (answered-call cached-step (Answer.Ok (Value.Body body)) (Some number) cached-step.client.call refl))

lease-done : (t : ClientStep) (file : ℕ) (o : Option Grant) (sent : ℕ) → Kept 1 (length (all_dirty t.client file) + 2) t (lease_done t file o sent)
lease-done t file o sent =
    let n = length (all_dirty t.client file) + 1 in
    let taken-step = takes_optional t file o sent in
    choice (Kept 1 (length (all_dirty t.client file) + 2) t) (grant_caches o) _ _
    (more 1 1 n (length (all_dirty t.client file) + 2) t taken-step (omega arith) (omega arith) (taken-optional t file o sent))
    (more (1 + 0) 1 (n + 0) (length (all_dirty t.client file) + 2) t (marks_through true taken-step) (omega arith) (omega arith)
    (after 1 0 n 0 t taken-step (marks_through true taken-step) (taken-optional t file o sent) (marked taken-step true)))

-- ---- writes

cached-write : (t : ClientStep) (file block : ℕ) (body : List ℕ) (rev : ℕ) → Kept 0 0 t (caches_write t file block body rev)
cached-write t file block body rev =
    choice (Kept 0 0 t) (holds_caching (lease_on file t.client.leases) && is_revision_before rev (revision_of file t.client.revisions)) _ _
    (cached t file block body)
    (purged t file)

-- what is known is answered
known-answered : (t : ClientStep) (file rev : ℕ) (answer : Answer) → is_given (Some answer) ≡ true
    → Kept 0 1 t (answers_call (knows_revision t file rev) answer None)
known-answered t file rev answer given =
    let known-step = knows_revision t file rev in
    more (0 + 0) 0 (0 + 1) 1 t (answers_call known-step answer None) (omega arith) (omega arith)
    (after 0 0 0 1 t known-step (answers_call known-step answer None) (known t file rev) (answered-call known-step answer None known-step.client.call given))

write-done : (t : ClientStep) (file block : ℕ) (body : List ℕ) (rev : ℕ) → Kept 0 1 t (write_done t file block body rev)
write-done t file block body rev =
    let cached-step = caches_write t file block body rev in
    more (0 + 0) 0 (0 + 1) 1 t (write_done t file block body rev) (omega arith) (omega arith)
    (after 0 0 0 1 t cached-step (write_done t file block body rev) (cached-write t file block body rev) (known-answered cached-step file rev
    (Answer.Ok Value.Nothing) refl))

cached-push : (t : ClientStep) (file block : ℕ) (body : List ℕ) → Kept 0 0 t (caches_push t file block body)
cached-push t file block body = choice (Kept 0 0 t) (is_some (dirty_at file block t.client.dirty)) _ _ (same t) (cached t file block body)

vacated-clean : (t : ClientStep) (file : ℕ) → Kept 1 0 t (vacates_if_clean t file)
vacated-clean t file = choice (Kept 1 0 t) (is_clean t.client file) _ _ (vacated-noticed t file (notice_on file t.client.notices)) (still t)

-- what comes after a push was stored
pub after-stored : (t : ClientStep) (file block : ℕ) (body : List ℕ) (rev : ℕ)
    → Kept 1 0 t (vacates_if_clean (caches_push (knows_revision t file rev) file block body) file)
after-stored t file block body rev =
    let known-step = knows_revision t file rev in
    let cached-step = caches_push known-step file block body in
    more (0 + 0 + 1) 1 (0 + 0 + 0) 0 t (vacates_if_clean cached-step file) (omega arith) (omega arith)
    (after (0 + 0) 1 (0 + 0) 0 t cached-step (vacates_if_clean cached-step file)
    (after 0 0 0 0 t known-step cached-step (known t file rev) (cached-push known-step file block body))
    (vacated-clean cached-step file))

push-done : (t : ClientStep) (file block : ℕ) (body : List ℕ) (rev : ℕ) → Kept 1 0 t (push_done t file block body rev)
push-done t file block body rev =
    more (0 + 1) 1 (0 + 0) 0 t (push_done t file block body rev) (omega arith) (omega arith)
    (after 0 1 0 0 t (ends_push t) (push_done t file block body rev) (stored t) (after-stored (ends_push t) file block body rev))

-- ---- the reply, by what the request was for

nothing : (n : ℕ) (t : ClientStep) → Kept 1 n t t
nothing n t = more 0 1 0 n t t (omega arith) (omega arith) (same t)

one : (n : ℕ) (t s : ClientStep) → 1 ≤ n → Kept 0 1 t s → Kept 1 n t s
one n t s h x = more 0 1 1 n t s (omega arith) h x

told : (n : ℕ) (t : ClientStep) (answer : Answer) (by : Option ℕ) → 1 ≤ n → is_given (Some answer) ≡ true → Kept 1 n t (answers_call t answer by)
told n t answer by h given = one n t (answers_call t answer by) h (answered-call t answer by t.client.call given)

done-for-call : (t : ClientStep) (number sent : ℕ) (request : Request) (r : Reply) → Kept 1 (length (all_dirty t.client (file_at_stake request)) + 2)
    t (done_for_call t number sent request r)
done-for-call t number sent (Request.Lookup who name) (Reply.Lookup inc file blocks) =
    told (length (all_dirty t.client 0) + 2) t (Answer.Ok (Value.File file)) None (omega arith) refl
done-for-call t number sent (Request.Create who seq name blocks) (Reply.Create inc file) =
    told (length (all_dirty t.client 0) + 2) t (Answer.Ok (Value.File file)) None (omega arith) refl
done-for-call t number sent (Request.GetAttr who file) (Reply.GetAttr inc blocks rev) =
    told (length (all_dirty t.client 0) + 2) t (Answer.Ok (Value.Blocks blocks)) None (omega arith) refl
done-for-call t number sent (Request.Read who q file block want) (Reply.Read inc rev body grant) =
    read-done t file block body grant sent number
done-for-call t number sent (Request.GetLease who file want) (Reply.GetLease inc grant) = lease-done t file grant sent
done-for-call t number sent (Request.Write who seq file block first last push body) (Reply.Write inc rev) =
    one (length (all_dirty t.client file) + 2) t (write_done t file block body rev) (omega arith) (write-done t file block body rev)
done-for-call t number sent (Request.Resize who seq q file blocks) (Reply.Resize inc rev) =
    one (length (all_dirty t.client 0) + 2) t (answers_call (knows_revision t file rev) (Answer.Ok Value.Nothing) None) (omega arith)
    (known-answered t file rev (Answer.Ok Value.Nothing) refl)
done-for-call t number sent (Request.Remove who seq q file) (Reply.Remove inc) =
    told (length (all_dirty t.client 0) + 2) t (Answer.Ok Value.Nothing) None (omega arith) refl
done-for-call t number sent request other = nothing (length (all_dirty t.client (file_at_stake request)) + 2) t

renewal-done : (t : ClientStep) (sent : ℕ) (request : Request) (r : Reply) → Kept 1 (length (all_dirty t.client (file_at_stake request)) + 2) t
    (done_renewal t sent request r)
renewal-done t sent (Request.GetLease who file want) (Reply.GetLease inc grant) =
    let n = length (all_dirty t.client file) in
    more 1 1 (n + 1) (n + 2) t (takes_optional t file grant sent) (omega arith) (omega arith) (taken-optional t file grant sent)
renewal-done t sent request other = nothing (length (all_dirty t.client (file_at_stake request)) + 2) t

pushed-done : (t : ClientStep) (request : Request) (r : Reply) → Kept 1 (length (all_dirty t.client (file_at_stake request)) + 2) t (done_push t request r)
pushed-done t (Request.Write who seq file block first last push body) (Reply.Write inc rev) =
    more 1 1 0 (length (all_dirty t.client file) + 2) t (push_done t file block body rev) (omega arith) (omega arith) (push-done t file block body rev)
pushed-done t request other = nothing (length (all_dirty t.client (file_at_stake request)) + 2) t

pub done-kept : (t : ClientStep) (number : ℕ) (ticket : Ticket) (job : Job) (r : Reply)
    → Kept 1 (length (all_dirty t.client (file_at_stake ticket.request)) + 2) t (done t number ticket job r)
done-kept t number ticket attaching r =
    more 0 1 0 (length (all_dirty t.client (file_at_stake ticket.request)) + 2) t (attached t) (omega arith) (omega arith) (is-attached t)
done-kept t number ticket for_call r = done-for-call t number ticket.first ticket.request r
done-kept t number ticket renewing r = renewal-done t ticket.first ticket.request r
done-kept t number ticket pushing r = pushed-done t ticket.request r

given-refusal : (status : Refusal) → is_given (Some (answer_of status)) ≡ true
given-refusal Refusal.NoEnt = refl
given-refusal Refusal.Exist = refl
given-refusal Refusal.Inval = refl
given-refusal Refusal.NoSpc = refl
given-refusal Refusal.Stale = refl
given-refusal Refusal.TryLater = refl
given-refusal Refusal.Fenced = refl
given-refusal Refusal.NotAttached = refl
given-refusal Refusal.Old = refl

put-off : (n : ℕ) (t : ClientStep) → Kept 1 n t (pauses t)
put-off n t = more 0 1 0 n t (pauses t) (omega arith) (omega arith) (paused t)

push-refused-by : (t : ClientStep) (request : Request) → Kept 1 (length (all_dirty t.client (file_at_stake request)) + 2) t (refused_push t request)
push-refused-by t (Request.Write who seq file block first last push body) =
    let n = length (all_dirty t.client file) in
    more 1 1 (n + 1) (n + 2) t (push_refused t file) (omega arith) (omega arith) (push-refused t file)
push-refused-by t other = nothing (length (all_dirty t.client (file_at_stake other)) + 2) t

pub refused-kept : (t : ClientStep) (status : Refusal) (ticket : Ticket) (job : Job) → Kept 1 (length (all_dirty t.client (file_at_stake ticket.request))
    + 2) t (refused t status ticket job)
refused-kept t status ticket attaching = nothing (length (all_dirty t.client (file_at_stake ticket.request)) + 2) t
refused-kept t status ticket for_call =
    let n = length (all_dirty t.client (file_at_stake ticket.request)) + 2 in
    choice (Kept 1 n t) (is_put_off status) _ _ (put-off n t) (told n t (answer_of status) None (omega arith) (given-refusal status))
refused-kept t status ticket renewing =
    let n = length (all_dirty t.client (file_at_stake ticket.request)) + 2 in
    choice (Kept 1 n t) (is_put_off status) _ _ (put-off n t) (nothing n t)
refused-kept t status ticket pushing = push-refused-by t ticket.request

-- a request that was answered
pub answered-kept : (t : ClientStep) (number : ℕ) (ticket : Ticket) (r : Reply) → Kept 1 (length (all_dirty t.client (file_at_stake ticket.request))
    + 2) t (answered t number ticket r)
answered-kept t number ticket (Reply.Refused inc status) = refused-kept t status ticket ticket.job
answered-kept t number ticket other = done-kept t number ticket ticket.job other
