-- In every run: the last sequence of a client is that of its request under way, and a reply that it can take tells what the
-- kept line of its host tells.
use Rattle.std.proofs.Common.{◌≡◌, ◌<◌, ◌≤◌, ◌⊎◌, ℕ, ◌+◌, Bool, true, false, not, ◌&&◌, ◌==◌, List, [], ◌∷◌, ◌++◌, Option, Some, None, refl, sym}
use Rattle.std.proofs.Common.{subst, ap, ◌∙◌, arith, inl, inr, append-nil, map}
use Rattle.std.proofs.lemmas.Bool.{and_parts}
use Rattle.nq_base.specs.declared.Call.{Call}
use Rattle.nq_base.specs.declared.Grant.{Grant}
use Rattle.nq_base.specs.declared.HostRow.{HostRow}
use Rattle.nq_base.specs.declared.Reply.{Reply}
use Rattle.nq_base.specs.declared.Request.{Request}
use Rattle.nq_base.specs.declared.Tag.{Tag}
use Rattle.nq_base.specs.declared.Who.{Who}
use Rattle.walk_steps.proofs.ClientCases.{Core, core_of, Closed, Both}
use Rattle.walk_steps.proofs.ClientMoves.{some-same, none-some}
use Rattle.walk_steps.proofs.ClientWalk.{Replying, reply-keeps, notice-keeps, call-keeps, tick-keeps}
use Rattle.walk_files.proofs.ServerTells.{Tells, later, decided, Moves, same_lines, attaches_one, decides_one, Decides, Attaches, ServerTells}
use Rattle.nq_model.specs.protocol.Client.{Client, ClientStep, begun, Ticket, lease_on}
use Rattle.nq_model.specs.protocol.ClientStep.{client_call, client_tick, at_time, restart, starts, fresh_client}
use Rattle.nq_model.specs.protocol.Decide.{verdict_reply}
use Rattle.nq_model.specs.protocol.Hear.{inc_of, is_reply_to, reply_counts, hear, hear_reply, hear_notice, hear_call, goes_on, replied, holds_later, evicted}
use Rattle.nq_model.specs.protocol.Hear.{cancels, cancelled}
use Rattle.nq_model.specs.protocol.Kept.{host_row}
use Rattle.nq_model.specs.protocol.Message.{Message, Packet, call, reply, error, sequence_of}
use Rattle.nq_model.specs.protocol.Server.{Server, ServerStep, to_host}
use Rattle.nq_model.specs.protocol.Table.{same_who}
use Rattle.nq_model.specs.protocol.World.{from_host}
use Rattle.walk_steps.proofs.Sequences.{Seqs}
use Rattle.walk_steps.proofs.Mail.{packets_with, packets-last, spent-mail, cancelled-fewer, same-fewer}
use Rattle.walk_steps.proofs.Packets.{In, in-append, Asked, Told, not-both, Mail, IsFewer}
use Rattle.walk_steps.proofs.ServerKnows.{NoneHeard, NoneGiven}
use Rattle.walk_steps.proofs.TagFacts.{told-before}
use Rattle.walk_steps.proofs.Worlds.{Going, going-closed, IsAt, begun-going, timed-going, given-by}
use Rattle.walk_steps.proofs.Rows.{choice, same-number, number-same}

pub record Answered (line : HostRow) (who : Who) (seq : ℕ) (ticket : Option Ticket) (ps : List Packet) : Type 0 where
  -- some sequence was drawn, or the first one is next
  pub positive : 0 < seq
  -- the sequence of the request under way was drawn last
  pub latest : (t : Ticket) (n : ℕ) → ticket ≡ Some t → sequence_of t.request ≡ Some n → n + 1 ≡ seq
  -- the kept sequence of the running incarnation was drawn
  pub kept : line.inc ≡ who.inc → line.seq < seq
  -- a reply to the request under way tells what is kept of it
  pub replies : (x : ℕ) (a : Reply) → Told ps who.host (reply x a) → inc_of a ≡ who.inc → (t : Ticket) → ticket ≡ Some t → t.xid ≡ x → (n : ℕ)
      → sequence_of t.request ≡ Some n → Tells line who n t.request a

-- ---- small changes of a client

fewer-answered : {line : HostRow} {who : Who} {seq : ℕ} {ticket : Option Ticket} {ps : List Packet} (less : Option Ticket) → IsFewer less ticket
    → Answered line who seq ticket ps → Answered line who seq less ps
fewer-answered {line = line} {who = who} less few h = record {
  positive = h.positive;
  latest = λ t n e q. let f = few t e in h.latest f.0 n f.1 (ap sequence_of f.3 ∙ q);
  kept = h.kept;
  replies =
      λ x a told i t e same n q. let f = few t e in
      subst (λ r. Tells line who n r a) f.3 (h.replies x a told i f.0 f.1 (f.2 ∙ same) n (ap sequence_of f.3 ∙ q));
}

-- a message is sent
more-answered : {line : HostRow} {who : Who} {seq : ℕ} {ticket : Option Ticket} {ps : List Packet} (m : Message) → Answered line who seq ticket ps
    → Answered line who seq ticket (ps ++ from_host who.host m ∷ [])
more-answered {who = who} {ps = ps} m h = record {
  positive = h.positive;
  latest = h.latest;
  kept = h.kept;
  replies = λ x a told. h.replies x a (told-before ps who.host who.host m (reply x a) told);
}

-- a request is sent with a number that no reply has
asks-answered : {line : HostRow} {who : Who} {xid seq : ℕ} {ps : List Packet} (t : Ticket) → t.xid ≡ xid → sequence_of t.request ≡ None
    → Mail who xid None ps → Answered line who seq None ps → Answered line who seq (Some t) ps
asks-answered t numbered no_seq m h = record {
  positive = h.positive;
  latest = λ u n e q. none-some n (sym no_seq ∙ ap (λ z. sequence_of z.request) (some-same t u e) ∙ q);
  kept = h.kept;
  replies = λ x a told i u e same n q. none-some n (sym no_seq ∙ ap (λ z. sequence_of z.request) (some-same t u e) ∙ q);
}

decides-answered : {line : HostRow} {who : Who} {xid seq : ℕ} {ps : List Packet} (t : Ticket) → t.xid ≡ xid → sequence_of t.request ≡ Some seq
    → Mail who xid None ps → Answered line who seq None ps → Answered line who (seq + 1) (Some t) ps
decides-answered {seq = seq} t numbered draws m h = record {
  positive = let p = h.positive in omega arith;
  latest = λ u n e q. let same : seq ≡ n = some-same seq n (sym draws ∙ ap (λ z. sequence_of z.request) (some-same t u e) ∙ q) in omega arith;
  kept = λ e. let k = h.kept e in omega arith;
  replies =
      λ x a told i u e same n q. let fresh = (m.replied x a told i).number in let one : t ≡ u = some-same t u e in
      let number : t.xid ≡ x = ap (λ z. z.xid) one ∙ same in absurd (omega arith);
}

abbrev AnsweredIn : HostRow → List Packet → Core → Type 0
AnsweredIn line ps k = Answered line k.who k.seq k.ticket (packets_with ps k.who.host k.sends)

record Hearing (line : HostRow) (who : Who) (ps : List Packet) (k : Core) : Type 0 where
  going : Going who ps k
  answered : AnsweredIn line ps k

last-answered : (line : HostRow) (ps : List Packet) (who : Who) (seq : ℕ) (ticket : Option Ticket) (sends : List Message) (m : Message)
    → Answered line who seq ticket (packets_with ps who.host sends ++ from_host who.host m ∷ [])
    → Answered line who seq ticket (packets_with ps who.host (sends ++ m ∷ []))
last-answered line ps who seq ticket sends m h = subst (λ qs. Answered line who seq ticket qs) (sym (packets-last ps who.host sends m)) h

hearing-closed : (line : HostRow) (who : Who) (ps : List Packet) (Heard : ℕ → Tag → Type 0) (Given : ℕ → Grant → ℕ → Type 0)
    → Closed Heard Given (Hearing line who ps)
hearing-closed line who ps Heard Given =
    let m = going-closed who ps Heard Given in
    record {
      uses = λ k file d. record { going = m.uses k file d.going; answered = d.answered };
      drops = λ k file d. record { going = m.drops k file d.going; answered = d.answered };
      vacates =
          λ k file tag can d. record {
            going = m.vacates k file tag can d.going;
            answered = last-answered line ps k.who k.seq k.ticket k.sends
                (call k.xid (Request.Vacated k.who file tag)) (more-answered (call k.xid (Request.Vacated k.who file tag)) d.answered);
          };
      asks = λ k job request no_seq can d. let t : Ticket = record { xid = k.xid; first = k.now; last = k.now; request = request; job = job } in record {
        going = m.asks k job request no_seq can d.going;
        answered = last-answered line ps k.who k.seq (Some t) k.sends (call k.xid request) (more-answered (call k.xid request)
            (asks-answered t refl no_seq (subst (λ o. Mail k.who k.xid o (packets_with ps k.who.host k.sends)) can.free d.going.mail)
            (subst (λ o. Answered line k.who k.seq o (packets_with ps k.who.host k.sends)) can.free d.answered)));
      };
      decides = λ k job request seq can d. let t : Ticket = record { xid = k.xid; first = k.now; last = k.now; request = request; job = job } in record {
        going = m.decides k job request seq can d.going;
        answered = last-answered line ps k.who (k.seq + 1) (Some t) k.sends (call k.xid request) (more-answered (call k.xid request)
            (decides-answered t refl seq (subst (λ o. Mail k.who k.xid o (packets_with ps k.who.host k.sends)) can.free d.going.mail)
            (subst (λ o. Answered line k.who k.seq o (packets_with ps k.who.host k.sends)) can.free d.answered)));
      };
      again = λ k t is d. record {
        going = m.again k t is d.going;
        answered = last-answered line ps k.who k.seq (Some (record t { last = k.now })) k.sends (call t.xid t.request) (more-answered (call t.xid t.request)
            (fewer-answered (Some (record t { last = k.now })) (same-fewer t k.now)
            (subst (λ o. Answered line k.who k.seq o (packets_with ps k.who.host k.sends)) is d.answered)));
      };
      holds = λ k file g sent given free unnoticed d. record { going = m.holds k file g sent given free unnoticed d.going; answered = d.answered };
      cancels =
          λ k file d. record {
            going = m.cancels k file d.going;
            answered = fewer-answered (cancelled file k.ticket) (cancelled-fewer file k.ticket)
                d.answered;
          };
      notes = λ k file tag heard d. record { going = m.notes k file tag heard d.going; answered = d.answered };
    }

-- ---- steps of a client

abbrev pub AnsweredOf : HostRow → (host : ℕ) → List Packet → ClientStep → Type 0
AnsweredOf line host ps t = Answered line t.client.who t.client.seq t.client.ticket (packets_with ps host t.sends)

ends : (line : HostRow) (host : ℕ) (who : Who) (ps : List Packet) (t : ClientStep) → who.host ≡ host → Both (Hearing line who ps) t → AnsweredOf line host ps t
ends line host who ps t here b =
    let same : t.client.who.host ≡ host = ap (λ w. w.host) b.core.going.same ∙ here in
    subst (λ h. Answered line t.client.who t.client.seq t.client.ticket (packets_with ps h t.sends)) same b.core.answered

begins : (line : HostRow) (host : ℕ) (c : Client) (ps : List Packet) → IsAt host c ps → Answered line c.who c.seq c.ticket ps
    → Hearing line c.who ps (core_of (begun c))
begins line host c ps a h = record { going = begun-going host c ps a; answered = subst (λ qs. Answered line c.who c.seq c.ticket qs) (sym (append-nil ps)) h }

timed : (line : HostRow) (host : ℕ) (c : Client) (ps : List Packet) (now : ℕ) → IsAt host c ps → Answered line c.who c.seq c.ticket ps
    → Hearing line c.who ps (core_of (begun (at_time c now)))
unfolding at_time
timed line host c ps now a h =
    record { going = timed-going host c ps now a; answered = subst (λ qs. Answered line c.who c.seq c.ticket qs) (sym (append-nil ps)) h }

pub call-answers : (line : HostRow) (host : ℕ) (c : Client) (ps : List Packet) (op : Call) → IsAt host c ps → Answered line c.who c.seq c.ticket ps
    → AnsweredOf line host ps (client_call c op)
call-answers line host c ps op a h =
    ends line host c.who ps (client_call c op) a.here
    (call-keeps (hearing-closed line c.who ps NoneHeard NoneGiven) c op a.alone (begins line host c ps a h))

pub tick-answers : (line : HostRow) (host : ℕ) (c : Client) (ps : List Packet) → IsAt host c ps → Answered line c.who c.seq c.ticket ps
    → AnsweredOf line host ps (client_tick c (c.now + 1))
tick-answers line host c ps a h =
    ends line host c.who ps (client_tick c (c.now + 1)) a.here
    (tick-keeps (hearing-closed line c.who ps NoneHeard NoneGiven) c (c.now + 1) (omega arith) a.alone (timed line host c ps (c.now + 1) a h))

pub restart-answers : (line : HostRow) (host : ℕ) (c : Client) (ps : List Packet) → line.inc ≤ c.who.inc → AnsweredOf line host ps (restart c)
unfolding starts fresh_client
restart-answers line host c ps past = record {
  positive = omega arith;
  latest = λ t n e q. let one = some-same _ t e in none-some n (ap (λ z. sequence_of z.request) one ∙ q);
  kept = λ e. absurd (omega arith);
  replies = λ x a told i t e same n q. let one = some-same _ t e in none-some n (ap (λ z. sequence_of z.request) one ∙ q);
}

abbrev AnsweredIf : HostRow → (host : ℕ) → List Packet → Option ClientStep → Type 0
AnsweredIf line host ps None = Unit {0}
AnsweredIf line host ps (Some t) = AnsweredOf line host ps t

reply-answers : (line : HostRow) (host : ℕ) (c : Client) (ps : List Packet) (number xid : ℕ) (r : Reply) (o : Option Ticket) → c.ticket ≡ o
    → Told ps host (reply xid r) → IsAt host c ps → Answered line c.who c.seq c.ticket ps → AnsweredIf line host ps (hear_reply c number xid r o)
reply-answers line host c ps number xid r None is sent a h = tt
reply-answers line host c ps number xid r (Some t) is sent a h =
    choice (AnsweredIf line host ps) (is_reply_to c xid r t) (Some (goes_on (replied (begun c) number t r))) None
    (λ e. let k = and_parts _ _ e in let l = and_parts _ _ k.0 in
    ends line host c.who ps (goes_on (replied (begun c) number t r)) a.here
    (reply-keeps (hearing-closed line c.who ps NoneHeard (given-by t)) c number t r (replying k.1 (same-number _ _ l.0) (same-number _ _ l.1))))
    (λ e. tt)
  where
    before : Hearing line c.who ps (core_of (begun c))
    before = begins line host c ps a h

    spent : Mail c.who c.xid None (packets_with ps c.who.host [])
    spent = spent-mail (packets_with ps c.who.host []) c.who c.xid c.ticket before.going.mail

    less : Answered line c.who c.seq None (packets_with ps c.who.host [])
    less = fewer-answered None (λ u e. none-some u e) before.answered

    replying : reply_counts r t ≡ true → xid ≡ t.xid → inc_of r ≡ c.who.inc → Replying (given-by t) (Hearing line c.who ps) c t r
    replying counts same inc = record {
      asked = is;
      counts = counts;
      alone = a.alone;
      spent = λ other. record { going = record { same = refl; mail = spent; calls = before.going.calls }; answered = less };
      attached = λ job. record { going = record { same = refl; mail = spent; calls = before.going.calls }; answered = less };
      brings =
          λ file on g grants. (
            on,
            (a.mail.replied xid r (subst (λ n. Told ps n (reply xid r)) (sym a.here) sent) inc).wants t is (sym same) g grants
                file on,
          );
      only = λ file g at given. given;
    }

notice-answers : (line : HostRow) (host : ℕ) (c : Client) (ps : List Packet) (who : Who) (file : ℕ) (tag : Tag) → IsAt host c ps
    → Answered line c.who c.seq c.ticket ps → AnsweredIf line host ps (hear_notice c who file tag)
notice-answers line host c ps who file tag a h =
    choice (AnsweredIf line host ps) (same_who who c.who && not (holds_later tag (lease_on file c.leases)))
    (Some (goes_on (evicted (cancels (begun c) file) file tag))) None
    (λ e. ends line host c.who ps (goes_on (evicted (cancels (begun c) file) file tag)) a.here
    (notice-keeps (hearing-closed line c.who ps (λ f v. Unit {0}) NoneGiven) c file tag tt (λ g sent bad. bad) a.alone (begins line host c ps a h)))
    (λ e. tt)

called-answers : (line : HostRow) (host : ℕ) (c : Client) (ps : List Packet) (r : Request) → IsAt host c ps → Answered line c.who c.seq c.ticket ps
    → AnsweredIf line host ps (hear_call c r)
called-answers line host c ps (Request.Evicted who file tag) a h = notice-answers line host c ps who file tag a h
called-answers line host c ps other a h = tt

heard : (line : HostRow) (host : ℕ) (c : Client) (ps : List Packet) (number : ℕ) (m : Message) → Told ps host m → IsAt host c ps
    → Answered line c.who c.seq c.ticket ps → AnsweredIf line host ps (hear c number m)
heard line host c ps number (reply xid r) sent a h = reply-answers line host c ps number xid r c.ticket refl sent a h
heard line host c ps number (call xid r) sent a h = called-answers line host c ps r a h
heard line host c ps number (error xid er) sent a h = tt

pub hear-answers : (line : HostRow) (host : ℕ) (c : Client) (ps : List Packet) (number : ℕ) (m : Message) (t : ClientStep) → hear c number m ≡ Some t
    → Told ps host m → IsAt host c ps → Answered line c.who c.seq c.ticket ps → AnsweredOf line host ps t
hear-answers line host c ps number m t is sent a h = subst (λ o. AnsweredIf line host ps o) is (heard line host c ps number m sent a h)

-- a step of another host's client
pub other-answers : {line : HostRow} {who : Who} {seq : ℕ} {ticket : Option Ticket} {ps : List Packet} (host : ℕ) (sends : List Message)
    → Answered line who seq ticket ps → Answered line who seq ticket (packets_with ps host sends)
other-answers {line = line} {who = who} {seq = seq} {ticket = ticket} {ps = ps} host sends h = record {
  positive = h.positive;
  latest = h.latest;
  kept = h.kept;
  replies = λ x a told. h.replies x a (old sends x a (in-append ps (map (from_host host) sends) (to_host who.host (reply x a)) told));
} where
  no-reply : (ms : List Message) (x : ℕ) (a : Reply) → In (map (from_host host) ms) (to_host who.host (reply x a)) → ⊥
  no-reply [] x a h = h
  no-reply (n ∷ ms) x a (inl e) = not-both host who.host n (reply x a) e
  no-reply (n ∷ ms) x a (inr h) = no-reply ms x a h

  old : (ms : List Message) (x : ℕ) (a : Reply) → In ps (to_host who.host (reply x a)) ⊎ In (map (from_host host) ms) (to_host who.host (reply x a))
      → In ps (to_host who.host (reply x a))
  old ms x a (inl there) = there
  old ms x a (inr new) = absurd (no-reply ms x a new)

-- ---- a step of the server

-- what is known of a client where the server steps
pub server-answers : (s : Server) (t : ServerStep) (who : Who) (xid seq : ℕ) (ticket : Option Ticket) (ps : List Packet) → ServerTells ps s t
    → Mail who xid ticket ps → Seqs who seq ps → Answered (host_row s.kept who.host) who seq ticket ps
    → Answered (host_row t.server.kept who.host) who seq ticket (ps ++ t.sends)
server-answers s t who xid seq ticket ps d m q h = record {
  positive = h.positive;
  latest = h.latest;
  kept = moves-kept d.moves;
  replies = λ x a told i u e same n sq. replies x a i u e same n sq (in-append ps t.sends (to_host who.host (reply x a)) told);
} where
  line : HostRow
  line = host_row s.kept who.host

  after : HostRow
  after = host_row t.server.kept who.host

  kept-decides : (k : Decides ps s t) → after.inc ≡ who.inc → (b : Bool) → (who.host == k.w.host) ≡ b → after.seq < seq
  kept-decides k i true e =
      let same : who.host ≡ k.w.host = same-number _ _ e in
      let at : after.seq ≡ k.seq = ap (λ n. (host_row t.server.kept n).seq) same ∙ k.seq_after in
      let inc : k.w.inc ≡ who.inc = sym (ap (λ n. (host_row t.server.kept n).inc) same ∙ k.inc_after) ∙ i in
      let below = q.drawn k.x k.r k.w k.seq (subst (λ n. Asked ps n k.x k.r) (sym same) k.asked) k.by inc k.draws in
      omega arith
  kept-decides k i false e =
      let one : after ≡ line = k.others who.host (λ same. let yes : (who.host == k.w.host) ≡ true = number-same _ _ same in absurd (cc)) in
      subst (λ l. l.seq < seq) (sym one) (h.kept (ap (λ l. l.inc) (sym one) ∙ i))

  kept-attaches : (k : Attaches ps s t) → after.inc ≡ who.inc → (b : Bool) → (who.host == k.w.host) ≡ b → after.seq < seq
  kept-attaches k i true e =
      let same : who.host ≡ k.w.host = same-number _ _ e in
      let at : after.seq ≡ 0 = ap (λ n. (host_row t.server.kept n).seq) same ∙ k.seq_after in
      let p = h.positive in
      omega arith
  kept-attaches k i false e =
      let one : after ≡ line = k.others who.host (λ same. let yes : (who.host == k.w.host) ≡ true = number-same _ _ same in absurd (cc)) in
      subst (λ l. l.seq < seq) (sym one) (h.kept (ap (λ l. l.inc) (sym one) ∙ i))

  moves-kept : Moves ps s t → after.inc ≡ who.inc → after.seq < seq
  moves-kept (same_lines quiet same) i = subst (λ l. l.seq < seq) (sym (same who.host)) (h.kept (ap (λ l. l.inc) (sym (same who.host)) ∙ i))
  moves-kept (attaches_one quiet k) i = kept-attaches k i (who.host == k.w.host) refl
  moves-kept (decides_one k) i = kept-decides k i (who.host == k.w.host) refl

  -- what was told stays so: nothing more is decided of the running incarnation once its last request is
  stays-decides : (k : Decides ps s t) (r : Request) (a : Reply) (n : ℕ) → n + 1 ≡ seq → line.inc ≡ who.inc → line.seq ≡ n
      → a ≡ verdict_reply who.inc line.verdict line.value r → (b : Bool) → (who.host == k.w.host) ≡ b → Tells after who n r a
  stays-decides k r a n last inc sq eq true e =
      let same : who.host ≡ k.w.host = same-number _ _ e in
      let mine : k.w.inc ≡ who.inc = sym k.inc ∙ ap (λ n. (host_row s.kept n).inc) (sym same) ∙ inc in
      let below = q.drawn k.x k.r k.w k.seq (subst (λ n. Asked ps n k.x k.r) (sym same) k.asked) k.by mine k.draws in
      let up = k.above in
      let here : line.seq ≡ (host_row s.kept k.w.host).seq = ap (λ n. (host_row s.kept n).seq) same in
      absurd (omega arith)
  stays-decides k r a n last inc sq eq false e =
      let one : after ≡ line = k.others who.host (λ same. let yes : (who.host == k.w.host) ≡ true = number-same _ _ same in absurd (cc)) in
      subst (λ l. Tells l who n r a) (sym one) (decided inc sq eq)

  stays-attaches : (k : Attaches ps s t) (r : Request) (a : Reply) (n : ℕ) → line.inc ≡ who.inc → line.seq ≡ n
      → a ≡ verdict_reply who.inc line.verdict line.value r → (b : Bool) → (who.host == k.w.host) ≡ b → Tells after who n r a
  stays-attaches k r a n inc sq eq true e =
      let same : who.host ≡ k.w.host = same-number _ _ e in
      let below = (m.asked k.x (Request.Attach k.w) k.w (subst (λ n. Asked ps n k.x (Request.Attach k.w)) (sym same) k.asked) refl).inc in
      let up = k.above in
      let here : line.inc ≡ (host_row s.kept k.w.host).inc = ap (λ n. (host_row s.kept n).inc) same in
      absurd (omega arith)
  stays-attaches k r a n inc sq eq false e =
      let one : after ≡ line = k.others who.host (λ same. let yes : (who.host == k.w.host) ≡ true = number-same _ _ same in absurd (cc)) in
      subst (λ l. Tells l who n r a) (sym one) (decided inc sq eq)

  stays : (r : Request) (a : Reply) (n : ℕ) → n + 1 ≡ seq → Moves ps s t → Tells line who n r a → Tells after who n r a
  stays r a n last k (later status e p) = later status e p
  stays r a n last (same_lines quiet same) (decided inc sq eq) = subst (λ l. Tells l who n r a) (sym (same who.host)) (decided inc sq eq)
  stays r a n last (attaches_one quiet k) (decided inc sq eq) = stays-attaches k r a n inc sq eq (who.host == k.w.host) refl
  stays r a n last (decides_one k) (decided inc sq eq) = stays-decides k r a n last inc sq eq (who.host == k.w.host) refl

  both-same : (v w : Who) → v.host ≡ w.host → v.inc ≡ w.inc → v ≡ w
  both-same v w a b = let make : ℕ → ℕ → Who = λ i j. record { host = i; inc = j } in ap (λ i. make i v.inc) a ∙ ap (λ j. make w.host j) b

  replies : (x : ℕ) (a : Reply) → inc_of a ≡ who.inc → (u : Ticket) → ticket ≡ Some u → u.xid ≡ x → (n : ℕ) → sequence_of u.request ≡ Some n
      → In ps (to_host who.host (reply x a)) ⊎ In t.sends (to_host who.host (reply x a)) → Tells after who n u.request a
  replies x a i u e same n sq (inl old) = stays u.request a n (h.latest u n e sq) d.moves (h.replies x a old i u e same n sq)
  replies x a i u e same n sq (inr new) =
      let k = d.says who.host x a new in
      let inc : k.who.inc ≡ who.inc = sym k.inc ∙ i in
      let asks : u.request ≡ k.asks = (m.asked x k.asks k.who k.sent k.by).same inc u e same in
      let one : k.who ≡ who = both-same k.who who k.same_host inc in
      subst (λ r. Tells after who n r a) (sym asks) (subst (λ w. Tells after w n k.asks a) one (k.tells n (ap sequence_of (sym asks) ∙ sq)))
