-- A client draws each sequence for one request, and sends copies of it; kept by each of its steps.
use Rattle.std.proofs.Common.{◌≡◌, ◌<◌, ◌⊎◌, ℕ, ◌+◌, true, not, ◌&&◌, List, [], ◌∷◌, ◌++◌, Option, Some, None, refl, sym, subst, ap, ◌∙◌, arith, inl}
use Rattle.std.proofs.Common.{inr, append-nil}
use Rattle.std.proofs.lemmas.Bool.{and_parts}
use Rattle.nq_base.specs.declared.Call.{Call}
use Rattle.nq_base.specs.declared.Grant.{Grant}
use Rattle.nq_base.specs.declared.Reply.{Reply}
use Rattle.nq_base.specs.declared.Request.{Request}
use Rattle.nq_base.specs.declared.Tag.{Tag}
use Rattle.nq_base.specs.declared.Who.{Who}
use Rattle.walk_steps.proofs.ClientCases.{Core, core_of, Closed, Both}
use Rattle.walk_steps.proofs.ClientMoves.{some-same, none-some}
use Rattle.walk_steps.proofs.ClientWalk.{Replying, reply-keeps, notice-keeps, call-keeps, tick-keeps}
use Rattle.walk_steps.proofs.Mail.{packets_with, packets-last, spent-mail}
use Rattle.walk_steps.proofs.Packets.{In, in-last, Asked, Told, Mail, in-append, not-both}
use Rattle.walk_steps.proofs.Rows.{choice, same-number}
use Rattle.walk_steps.proofs.ServerKnows.{NoneHeard, NoneGiven}
use Rattle.walk_steps.proofs.TagFacts.{asked-before}
use Rattle.walk_steps.proofs.Worlds.{Going, going-closed, IsAt, begun-going, timed-going, given-by}
use Rattle.nq_model.specs.protocol.Client.{Client, ClientStep, begun, Ticket, lease_on}
use Rattle.nq_model.specs.protocol.ClientStep.{client_call, client_tick, at_time, restart, starts, fresh_client, next_incarnation}
use Rattle.nq_model.specs.protocol.Hear.{inc_of, is_reply_to, reply_counts, hear, hear_reply, hear_notice, hear_call, goes_on, replied, holds_later, evicted}
use Rattle.nq_model.specs.protocol.Hear.{cancels}
use Rattle.nq_model.specs.protocol.Message.{Message, Packet, call, reply, error, asker, sequence_of}
use Rattle.nq_model.specs.protocol.Table.{same_who}
use Rattle.nq_model.specs.protocol.World.{from_host}
use Rattle.walk_steps.proofs.ServerSays.{IsSaid, said_reply, said_error, said_notice, AllSaid}
use Rattle.walk_steps.proofs.ServerOutcomes.{only_asks}
use Rattle.nq_model.specs.laws.LeaseInterval.{requested_file}

-- ---- the sequences that a host's client drew

-- each incarnation of the host has one request at most of a sequence, and those of the running one were drawn
pub record Seqs (who : Who) (seq : ℕ) (ps : List Packet) : Type 0 where
  pub once : (x y : ℕ) (r s : Request) (w : Who) (n : ℕ) → Asked ps who.host x r → Asked ps who.host y s → asker r ≡ Some w → asker s ≡ Some w
      → sequence_of r ≡ Some n → sequence_of s ≡ Some n → (x ≡ y) × (r ≡ s)
  pub drawn : (x : ℕ) (r : Request) (w : Who) (n : ℕ) → Asked ps who.host x r → asker r ≡ Some w → w.inc ≡ who.inc → sequence_of r ≡ Some n → n < seq

-- packets that bring no request with a sequence
pub seqs-more : {who : Who} {seq : ℕ} {ps qs : List Packet}
    → ((x : ℕ) (r : Request) (n : ℕ) → sequence_of r ≡ Some n → Asked qs who.host x r → Asked ps who.host x r) → Seqs who seq ps → Seqs who seq qs
seqs-more old h = record {
  once = λ x y r s w n a b by also sq same. h.once x y r s w n (old x r n sq a) (old y s n same b) by also sq same;
  drawn = λ x r w n a by inc sq. h.drawn x r w n (old x r n sq a) by inc sq;
}

-- a request without a sequence is sent
seqs-adds : {who : Who} {seq : ℕ} {ps : List Packet} (xid : ℕ) (request : Request) → sequence_of request ≡ None → Seqs who seq ps
    → Seqs who seq (ps ++ from_host who.host (call xid request) ∷ [])
seqs-adds {who = who} {ps = ps} xid request no_seq h = seqs-more (λ x r n sq a. old x r n sq (asked-before ps who.host xid x request r a)) h
  where
    old : (x : ℕ) (r : Request) (n : ℕ) → sequence_of r ≡ Some n → Asked ps who.host x r ⊎ ((xid ≡ x) × (request ≡ r)) → Asked ps who.host x r
    old x r n sq (inl there) = there
    old x r n sq (inr new) = none-some n (sym no_seq ∙ ap sequence_of new.1 ∙ sq)

-- a packet is sent again
seqs-again : {who : Who} {seq : ℕ} {ps : List Packet} (p : Packet) → In ps p → Seqs who seq ps → Seqs who seq (ps ++ p ∷ [])
seqs-again {who = who} {ps = ps} p there h = seqs-more (λ x r n sq a. old (from_host who.host (call x r)) (in-last ps p (from_host who.host (call x r)) a)) h
  where
    old : (q : Packet) → In ps q ⊎ (p ≡ q) → In ps q
    old q (inl i) = i
    old q (inr e) = subst (λ z. In ps z) e there

-- a request with the next sequence is sent
seqs-decides : {who : Who} {seq : ℕ} {ps : List Packet} (xid : ℕ) (request : Request) → asker request ≡ Some who → sequence_of request ≡ Some seq
    → Seqs who seq ps → Seqs who (seq + 1) (ps ++ from_host who.host (call xid request) ∷ [])
seqs-decides {who = who} {seq = seq} {ps = ps} xid request asks draws h = record {
  once =
      λ x y r s w n a b by also sq same. once x y r s w n by also sq same (asked-before ps who.host xid x request r a)
      (asked-before ps who.host xid y request s b);
  drawn = λ x r w n a by inc sq. drawn x r w n by inc sq (asked-before ps who.host xid x request r a);
} where
  -- one that is new has a sequence that none before has
  fresh : (x : ℕ) (r s : Request) (w : Who) (n : ℕ) → Asked ps who.host x r → asker r ≡ Some w → asker s ≡ Some w → sequence_of r ≡ Some n
      → sequence_of s ≡ Some n → request ≡ s → ⊥
  fresh x r s w n a by also sq same new =
      let one : who ≡ w = some-same who w (sym asks ∙ ap asker new ∙ also) in
      let number : seq ≡ n = some-same seq n (sym draws ∙ ap sequence_of new ∙ same) in
      let below = h.drawn x r w n a by (ap (λ z. z.inc) (sym one)) sq in
      omega arith

  once : (x y : ℕ) (r s : Request) (w : Who) (n : ℕ) → asker r ≡ Some w → asker s ≡ Some w → sequence_of r ≡ Some n → sequence_of s ≡ Some n
      → Asked ps who.host x r ⊎ ((xid ≡ x) × (request ≡ r)) → Asked ps who.host y s ⊎ ((xid ≡ y) × (request ≡ s)) → (x ≡ y) × (r ≡ s)
  once x y r s w n by also sq same (inl a) (inl b) = h.once x y r s w n a b by also sq same
  once x y r s w n by also sq same (inl a) (inr new) = absurd (fresh x r s w n a by also sq same new.1)
  once x y r s w n by also sq same (inr new) (inl b) = absurd (fresh y s r w n b also by same sq new.1)
  once x y r s w n by also sq same (inr new) (inr more) = (sym new.0 ∙ more.0, sym new.1 ∙ more.1)

  drawn : (x : ℕ) (r : Request) (w : Who) (n : ℕ) → asker r ≡ Some w → w.inc ≡ who.inc → sequence_of r ≡ Some n
      → Asked ps who.host x r ⊎ ((xid ≡ x) × (request ≡ r)) → n < seq + 1
  drawn x r w n by inc sq (inl a) = let below = h.drawn x r w n a by inc sq in omega arith
  drawn x r w n by inc sq (inr new) = let number : seq ≡ n = some-same seq n (sym draws ∙ ap sequence_of new.1 ∙ sq) in omega arith

-- ---- what an incarnation sends

-- each request of an incarnation before this one was in these packets
record AddsOwn (who : Who) (ps qs : List Packet) : Type 0 where
  before : (x : ℕ) (r : Request) (v : Who) → Asked qs who.host x r → asker r ≡ Some v → v.inc < who.inc → Asked ps who.host x r

-- it sends a request of its own
own-adds : {who : Who} {ps qs : List Packet} (xid : ℕ) (request : Request) → asker request ≡ Some who → AddsOwn who ps qs
    → AddsOwn who ps (qs ++ from_host who.host (call xid request) ∷ [])
own-adds {who = who} {ps = ps} {qs = qs} xid request asks h =
    record { before = λ x r v asked by below. case x r v by below (asked-before qs who.host xid x request r asked) }
  where
    case : (x : ℕ) (r : Request) (v : Who) → asker r ≡ Some v → v.inc < who.inc → Asked qs who.host x r ⊎ ((xid ≡ x) × (request ≡ r)) → Asked ps who.host x r
    case x r v by below (inl there) = h.before x r v there by below
    case x r v by below (inr new) = let one : who.inc ≡ v.inc = ap (λ z. z.inc) (some-same who v (sym asks ∙ ap asker new.1 ∙ by)) in absurd (omega arith)

-- it sends a packet again
own-again : {who : Who} {ps qs : List Packet} (p : Packet) → In qs p → AddsOwn who ps qs → AddsOwn who ps (qs ++ p ∷ [])
own-again {who = who} {qs = qs} p there h =
    record {
      before = λ x r v asked by below. h.before x r v (old (from_host who.host (call x r)) (in-last qs p (from_host who.host (call x r)) asked))
          by below;
    }
  where
    old : (q : Packet) → In qs q ⊎ (p ≡ q) → In qs q
    old q (inl i) = i
    old q (inr e) = subst (λ z. In qs z) e there

-- ---- in the middle of a step

abbrev SeqsIn : List Packet → Core → Type 0
SeqsIn ps k = Seqs k.who k.seq (packets_with ps k.who.host k.sends)

last-seqs : (ps : List Packet) (who : Who) (seq : ℕ) (sends : List Message) (m : Message)
    → Seqs who seq (packets_with ps who.host sends ++ from_host who.host m ∷ []) → Seqs who seq (packets_with ps who.host (sends ++ m ∷ []))
last-seqs ps who seq sends m h = subst (λ qs. Seqs who seq qs) (sym (packets-last ps who.host sends m)) h

abbrev OwnIn : List Packet → Core → Type 0
OwnIn ps k = AddsOwn k.who ps (packets_with ps k.who.host k.sends)

last-own : (ps : List Packet) (who : Who) (sends : List Message) (m : Message)
    → AddsOwn who ps (packets_with ps who.host sends ++ from_host who.host m ∷ []) → AddsOwn who ps (packets_with ps who.host (sends ++ m ∷ []))
last-own ps who sends m h = subst (λ qs. AddsOwn who ps qs) (sym (packets-last ps who.host sends m)) h

-- it is the same incarnation with its mail, its sequences, and requests of its own
record Drawing (who : Who) (ps : List Packet) (k : Core) : Type 0 where
  going : Going who ps k
  seqs : SeqsIn ps k
  own : OwnIn ps k

drawing-closed : (who : Who) (ps : List Packet) (Heard : ℕ → Tag → Type 0) (Given : ℕ → Grant → ℕ → Type 0) → Closed Heard Given (Drawing who ps)
drawing-closed who ps Heard Given =
    let m = going-closed who ps Heard Given in
    record {
      uses = λ k file d. record { going = m.uses k file d.going; seqs = d.seqs; own = d.own };
      drops = λ k file d. record { going = m.drops k file d.going; seqs = d.seqs; own = d.own };
      vacates =
          λ k file tag can d. record {
            going = m.vacates k file tag can d.going;
            seqs = last-seqs ps k.who k.seq k.sends
                (call k.xid (Request.Vacated k.who file tag)) (seqs-adds k.xid (Request.Vacated k.who file tag) refl d.seqs);
            own = last-own ps k.who k.sends
                (call k.xid (Request.Vacated k.who file tag)) (own-adds k.xid (Request.Vacated k.who file tag) refl d.own);
          };
      asks =
          λ k job request no_seq can d. record {
            going = m.asks k job request no_seq can d.going;
            seqs = last-seqs ps k.who k.seq k.sends (call k.xid request)
                (seqs-adds k.xid request no_seq d.seqs);
            own = last-own ps k.who k.sends (call k.xid request) (own-adds k.xid request can.asks d.own);
          };
      decides =
          λ k job request seq can d. record {
            going = m.decides k job request seq can d.going;
            seqs = last-seqs ps k.who (k.seq + 1) k.sends (call k.xid request)
                (seqs-decides k.xid request can.asks seq d.seqs);
            own = last-own ps k.who k.sends (call k.xid request) (own-adds k.xid request can.asks d.own);
          };
      again =
          λ k t is d. record {
            going = m.again k t is d.going;
            seqs = last-seqs ps k.who k.seq k.sends (call t.xid t.request)
                (seqs-again (from_host k.who.host (call t.xid t.request)) (d.going.mail.own t is).sent d.seqs);
            own = last-own ps k.who k.sends
                (call t.xid t.request) (own-again (from_host k.who.host (call t.xid t.request)) (d.going.mail.own t is).sent d.own);
          };
      holds = λ k file g sent given free unnoticed d. record { going = m.holds k file g sent given free unnoticed d.going; seqs = d.seqs; own = d.own };
      cancels = λ k file d. record { going = m.cancels k file d.going; seqs = d.seqs; own = d.own };
      notes = λ k file tag heard d. record { going = m.notes k file tag heard d.going; seqs = d.seqs; own = d.own };
    }

-- ---- steps of a client

-- the sequences after a step, in which requests of its own incarnation were added
pub record Drew (host : ℕ) (ps : List Packet) (t : ClientStep) : Type 0 where
  pub seqs : Seqs t.client.who t.client.seq (packets_with ps host t.sends)
  pub own : (x : ℕ) (r : Request) (v : Who) → Asked (packets_with ps host t.sends) host x r → asker r ≡ Some v → v.inc < t.client.who.inc → Asked ps host x r

drew : (host : ℕ) (who : Who) (ps : List Packet) (t : ClientStep) → who.host ≡ host → Both (Drawing who ps) t → Drew host ps t
drew host who ps t here b =
    let same : t.client.who.host ≡ host = ap (λ w. w.host) b.core.going.same ∙ here in
    record {
      seqs = subst (λ h. Seqs t.client.who t.client.seq (packets_with ps h t.sends)) same b.core.seqs;
      own =
          subst (λ h. (x : ℕ) (r : Request) (v : Who) → Asked (packets_with ps h t.sends) h x r → asker r ≡ Some v → v.inc < t.client.who.inc
          → Asked ps h x r) same b.core.own.before;
    }

nothing-own : (who : Who) (ps : List Packet) → AddsOwn who ps (ps ++ [])
nothing-own who ps = subst (λ qs. AddsOwn who ps qs) (sym (append-nil ps)) (record { before = λ x r v asked by below. asked })

begun-drawing : (host : ℕ) (c : Client) (ps : List Packet) → IsAt host c ps → Seqs c.who c.seq ps → Drawing c.who ps (core_of (begun c))
begun-drawing host c ps a h =
    record { going = begun-going host c ps a; seqs = subst (λ qs. Seqs c.who c.seq qs) (sym (append-nil ps)) h; own = nothing-own c.who ps }

pub call-draws : (host : ℕ) (c : Client) (ps : List Packet) (op : Call) → IsAt host c ps → Seqs c.who c.seq ps → Drew host ps (client_call c op)
call-draws host c ps op a h =
    drew host c.who ps (client_call c op) a.here (call-keeps (drawing-closed c.who ps NoneHeard NoneGiven) c op a.alone (begun-drawing host c ps a h))

timed-drawing : (host : ℕ) (c : Client) (ps : List Packet) (now : ℕ) → IsAt host c ps → Seqs c.who c.seq ps
    → Drawing c.who ps (core_of (begun (at_time c now)))
unfolding at_time
timed-drawing host c ps now a h =
    record { going = timed-going host c ps now a; seqs = subst (λ qs. Seqs c.who c.seq qs) (sym (append-nil ps)) h; own = nothing-own c.who ps }

pub tick-draws : (host : ℕ) (c : Client) (ps : List Packet) → IsAt host c ps → Seqs c.who c.seq ps → Drew host ps (client_tick c (c.now + 1))
tick-draws host c ps a h =
    drew host c.who ps (client_tick c (c.now + 1)) a.here
    (tick-keeps (drawing-closed c.who ps NoneHeard NoneGiven) c (c.now + 1) (omega arith) a.alone (timed-drawing host c ps (c.now + 1) a h))

-- the next incarnation has drawn none
fresh-seqs : (who : Who) (xid seq : ℕ) (ticket : Option Ticket) (ps : List Packet) → Mail who xid ticket ps → Seqs who seq ps
    → Seqs (next_incarnation who) 1 ps
fresh-seqs who xid seq ticket ps m h = record {
  once = h.once;
  drawn = λ x r w n a by inc sq. let below = (m.asked x r w a by).inc in absurd (omega arith);
}

pub restart-draws : (host : ℕ) (c : Client) (ps : List Packet) → IsAt host c ps → Seqs c.who c.seq ps → Drew host ps (restart c)
unfolding starts fresh_client
restart-draws host c ps a h =
    let who : Who = next_incarnation c.who in
    let added : AddsOwn who ps (ps ++ from_host who.host (call 1 (Request.Attach who)) ∷ []) = own-adds 1 (Request.Attach who) refl
    (record { before = λ x r v asked by below. asked }) in
    record {
      seqs =
          subst (λ n. Seqs who 1 (ps ++ from_host n (call 1 (Request.Attach who)) ∷ [])) a.here
          (seqs-adds 1 (Request.Attach who) refl (fresh-seqs c.who c.xid c.seq c.ticket ps a.mail h));
      own =
          subst (λ n. (x : ℕ) (r : Request) (v : Who) → Asked (ps ++ from_host n (call 1 (Request.Attach who)) ∷ []) n x r → asker r ≡ Some v
          → v.inc < who.inc → Asked ps n x r) a.here added.before;
    }

-- ---- a datagram at a client

abbrev pub DrewIf : (host : ℕ) → List Packet → Option ClientStep → Type 0
DrewIf host ps None = Unit {0}
DrewIf host ps (Some t) = Drew host ps t

reply-draws : (host : ℕ) (c : Client) (ps : List Packet) (number xid : ℕ) (r : Reply) (o : Option Ticket) → c.ticket ≡ o → Told ps host (reply xid r)
    → IsAt host c ps → Seqs c.who c.seq ps → DrewIf host ps (hear_reply c number xid r o)
reply-draws host c ps number xid r None is sent a h = tt
reply-draws host c ps number xid r (Some t) is sent a h =
    choice (DrewIf host ps) (is_reply_to c xid r t) (Some (goes_on (replied (begun c) number t r))) None
    (λ e. let k = and_parts _ _ e in let l = and_parts _ _ k.0 in
    drew host c.who ps (goes_on (replied (begun c) number t r)) a.here
    (reply-keeps (drawing-closed c.who ps NoneHeard (given-by t)) c number t r (replying k.1 (same-number _ _ l.0) (same-number _ _ l.1))))
    (λ e. tt)
  where
    before : Drawing c.who ps (core_of (begun c))
    before = begun-drawing host c ps a h

    spent : Mail c.who c.xid None (packets_with ps c.who.host [])
    spent = spent-mail (packets_with ps c.who.host []) c.who c.xid c.ticket before.going.mail

    replying : reply_counts r t ≡ true → xid ≡ t.xid → inc_of r ≡ c.who.inc → Replying (given-by t) (Drawing c.who ps) c t r
    replying counts same inc = record {
      asked = is;
      counts = counts;
      alone = a.alone;
      spent = λ other. record { going = record { same = refl; mail = spent; calls = before.going.calls }; seqs = before.seqs; own = before.own };
      attached = λ job. record { going = record { same = refl; mail = spent; calls = before.going.calls }; seqs = before.seqs; own = before.own };
      brings =
          λ file on g grants. (
            on,
            (a.mail.replied xid r (subst (λ n. Told ps n (reply xid r)) (sym a.here) sent) inc).wants t is (sym same) g grants
                file on,
          );
      only = λ file g at given. given;
    }

notice-draws : (host : ℕ) (c : Client) (ps : List Packet) (who : Who) (file : ℕ) (tag : Tag) → IsAt host c ps → Seqs c.who c.seq ps
    → DrewIf host ps (hear_notice c who file tag)
notice-draws host c ps who file tag a h =
    choice (DrewIf host ps) (same_who who c.who && not (holds_later tag (lease_on file c.leases)))
    (Some (goes_on (evicted (cancels (begun c) file) file tag))) None
    (λ e. drew host c.who ps (goes_on (evicted (cancels (begun c) file) file tag)) a.here
    (notice-keeps (drawing-closed c.who ps (λ f v. Unit {0}) NoneGiven) c file tag tt (λ g sent bad. bad) a.alone (begun-drawing host c ps a h)))
    (λ e. tt)

called-draws : (host : ℕ) (c : Client) (ps : List Packet) (r : Request) → IsAt host c ps → Seqs c.who c.seq ps → DrewIf host ps (hear_call c r)
called-draws host c ps (Request.Evicted who file tag) a h = notice-draws host c ps who file tag a h
called-draws host c ps other a h = tt

pub hear-draws : (host : ℕ) (c : Client) (ps : List Packet) (number : ℕ) (m : Message) → Told ps host m → IsAt host c ps → Seqs c.who c.seq ps
    → DrewIf host ps (hear c number m)
hear-draws host c ps number (reply xid r) sent a h = reply-draws host c ps number xid r c.ticket refl sent a h
hear-draws host c ps number (call xid r) sent a h = called-draws host c ps r a h
hear-draws host c ps number (error xid er) sent a h = tt

-- it sends no request of a host
not-said : (ps : List Packet) (host xid : ℕ) (r : Request) → IsSaid ps (from_host host (call xid r)) → ⊥
not-said ps host xid r (said_reply other y a e k) = not-both host other (call xid r) (reply y a) e
not-said ps host xid r (said_error other y er e) = not-both host other (call xid r) (error y er) e
not-said ps host xid r (said_notice y row e) = not-both host row.who.host (call xid r) (call y (Request.Evicted row.who row.file row.tag)) e

pub asked-before-server : (ps sends : List Packet) → AllSaid ps sends → (host xid : ℕ) (r : Request) → Asked (ps ++ sends) host xid r → Asked ps host xid r
asked-before-server ps sends said host xid r asked = case (in-append ps sends (from_host host (call xid r)) asked)
  where
    case : Asked ps host xid r ⊎ In sends (from_host host (call xid r)) → Asked ps host xid r
    case (inl old) = old
    case (inr new) = absurd (not-said ps host xid r (said (from_host host (call xid r)) new))

-- a request that only asks has no sequence
pub asks-no-seq : (r : Request) → only_asks r ≡ true → sequence_of r ≡ None
asks-no-seq (Request.Lookup w name) e = refl
asks-no-seq (Request.GetAttr w file) e = refl
asks-no-seq (Request.Read w q file block want) e = refl
asks-no-seq (Request.GetLease w file want) e = refl
asks-no-seq r e = absurd (cc)

pub reads-no-seq : (r : Request) (file : ℕ) → requested_file r ≡ Some file → sequence_of r ≡ None
reads-no-seq (Request.Read w q f block want) file e = refl
reads-no-seq (Request.GetLease w f want) file e = refl
reads-no-seq r file e = none-some file e
