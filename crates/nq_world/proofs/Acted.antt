-- What a call of a client does to the clients of a world.
use Rattle.std.proofs.Common.{◌≡◌, ◌≤◌, ◌<◌, ◌+◌, ℕ, zero, suc, List, [], ◌∷◌, ◌++◌, Option, Some, None, length, get_or, map, refl, sym, subst, ap}
use Rattle.std.proofs.Common.{◌∙◌, arith, inl}
use Rattle.std.specs.List.{All}
use Rattle.std.specs.Prelude.{Ok, slice_get, slice_set}
use Rattle.nq_base.specs.declared.Answer.{Answer}
use Rattle.nq_base.specs.declared.Entry.{Entry}
use Rattle.nq_base.specs.declared.Party.{Party}
use Rattle.nq_base.specs.declared.Who.{Who}
use Rattle.nq_client.specs.Counted.{Counted}
use Rattle.nq_client.specs.Finishing.{Grows}
use Rattle.nq_client.specs.Outcome.{Called, Counts, Heeded, Received, Stays}
use Rattle.nq_client.specs.declared.reaction.Reaction.{Reaction}
use Rattle.nq_base.specs.Entries.{EntryList}
use Rattle.nq_datagrams.specs.Messages.{FitsMessage}
use Rattle.nq_model.specs.protocol.Client.{Client, ClientStep, noting}
use Rattle.nq_model.specs.protocol.ClientStep.{next_incarnation, restart, starts}
use Rattle.nq_wire.specs.Outbox.{Datagrams}
use Rattle.nq_model.specs.protocol.Profile.{most_taken_by_client}
use Rattle.nq_world.proofs.Counting.{took-more, took-one-more}
use Rattle.nq_world.specs.Counting.{ClientIsSpent, IsSpent}
use Rattle.nq_world.specs.Moving.{ActsAt, Moves, MovesClient, called, clients_in, heeded, step_at}
use Rattle.nq_world.specs.Shown.{to_server}

-- the client of a host that is there
pub record IsClientAt (host : ℕ) (clients : List Counted) (c : Counted) : Type 0 where
  pub below : host < length clients
  pub reads : c ≡ get_or clients host c

pub client-at : (host place : ℕ) (clients : List Counted) (c : Counted) → place ≡ host → host < length clients → c ≡ get_or clients place c
    → IsClientAt host clients c
client-at host place clients c same below reads = record { below = below; reads = subst (λ p. c ≡ get_or clients p c) same reads }

found : (clients : List Counted) (host : ℕ) (c : Counted) → host < length clients → c ≡ get_or clients host c → slice_get clients host ≡ Some c
found [] host c below reads = absurd (omega arith)
found (x ∷ clients) zero c below reads = ap Some (sym reads)
found (x ∷ clients) (suc host) c below reads = found clients host c (omega arith) reads

pub put-same : (clients : List Counted) (host : ℕ) (c : Counted) → c ≡ get_or clients host c → slice_set clients host c ≡ clients
put-same [] host c reads = refl
put-same (x ∷ clients) zero c reads = ap (λ y. y ∷ clients) reads
put-same (x ∷ clients) (suc host) c reads = ap (λ ys. x ∷ ys) (put-same clients host c reads)

put-client : (clients : List Counted) (host : ℕ) (c : Counted) → clients_in (slice_set clients host c) ≡ slice_set (clients_in clients) host c.client
put-client [] host c = refl
put-client (x ∷ clients) zero c = refl
put-client (x ∷ clients) (suc host) c = ap (λ ys. x.client ∷ ys) (put-client clients host c)

-- what the calls of a client share: it was stepped, or nothing changed
made : (host : ℕ) (step_of : Client → Option ClientStep) (t : ClientStep) (old : List Counted) (c c' : Counted) (out outs : Datagrams) (log logs : EntryList)
    → IsClientAt host old c → out.datagrams ≡ [] → step_of c.client ≡ Some t → c'.client ≡ t.client → c'.taken ≤ c.taken + 1 → Grows t out outs log logs
    → Moves host (step_at step_of (slice_get old host)) old (slice_set old host c') outs.datagrams log.entries logs.entries
made host step_of t old c c' out outs log logs at empty is new one grows =
    let there : slice_get old host ≡ Some c = found old host c at.below at.reads in
    let own : step_at step_of (slice_get old host) ≡ Some t = ap (step_at step_of) there ∙ is in
    let moves : MovesClient host t old (slice_set old host c') outs.datagrams log.entries logs.entries = record {
      clients = put-client old host c' ∙ ap (slice_set (clients_in old) host) new;
      sends = grows.sends ∙ ap (λ ds. ds ++ map to_server t.sends) empty;
      fit = grows.fit;
      tells = grows.entries;
      counts = λ most took. took-one-more most host old c c' there one took;
    } in
    subst (λ o. Moves host o old (slice_set old host c') outs.datagrams log.entries logs.entries) (sym own) moves

stayed : (host : ℕ) (old : List Counted) (c c' : Counted) (out outs : Datagrams) (log logs : EntryList) → IsClientAt host old c
    → Stays c c' out outs log logs → (slice_set old host c' ≡ old) × (logs.entries ≡ log.entries)
stayed host old c c' out outs log logs at stays = (ap (slice_set old host) stays.client ∙ put-same old host c at.reads, stays.entries)

-- a client that is there and is spent
pub spent-at : (host : ℕ) (clients : List Counted) (c : Counted) → IsClientAt host clients c → IsSpent c → ClientIsSpent host clients
spent-at host clients c at spent = record { client = c; there = found clients host c at.below at.reads; spent = spent }

-- a client that took in all that it can count changed nothing
count-spent : (host : ℕ) (old : List Counted) (c c' : Counted) (out outs : Datagrams) (log logs : EntryList) → IsClientAt host old c → c.taken
    ≡ most_taken_by_client → Stays c c' out outs log logs
    → (slice_set old host c' ≡ old) × (logs.entries ≡ log.entries) × ClientIsSpent host old
count-spent host old c c' out outs log logs at all stays =
    let same = stayed host old c c' out outs log logs at stays in
    (same.0, same.1, spent-at host old c at (inl (omega arith)))

-- ---- a call of a user

pub called-acts : (host : ℕ) (step_of : Client → Option ClientStep) (t : ClientStep) (old : List Counted) (c c' : Counted) (answer : Answer)
    (out outs : Datagrams) (log logs : EntryList)
    → IsClientAt host old c → out.datagrams ≡ [] → step_of c.client ≡ Some t → (answer ≡ Answer.Spent → c.taken ≡ most_taken_by_client)
    → Called answer t c c' out outs log logs
    → ActsAt host step_of (called answer) old (slice_set old host c') outs.datagrams log.entries logs.entries
called-acts host step_of t old c c' Answer.Memory out outs log logs at empty is all x = stayed host old c c' out outs log logs at x
called-acts host step_of t old c c' Answer.Spent out outs log logs at empty is all x = count-spent host old c c' out outs log logs at (all refl) x
called-acts host step_of t old c c' other out outs log logs at empty is all x = made host step_of t old c c' out outs log logs at empty is x.0.client
    (let one = x.0.taken in omega arith) x.0.grows

-- ---- a tick, and a datagram that counts

pub heeded-acts : (host : ℕ) (step_of : Client → Option ClientStep) (t : ClientStep) (old : List Counted) (c c' : Counted) (heard : Reaction)
    (out outs : Datagrams) (log logs : EntryList)
    → IsClientAt host old c → out.datagrams ≡ [] → step_of c.client ≡ Some t → (heard ≡ Reaction.Spent → c.taken ≡ most_taken_by_client)
    → Heeded heard t c c' out outs log logs
    → ActsAt host step_of (heeded heard) old (slice_set old host c') outs.datagrams log.entries logs.entries
heeded-acts host step_of t old c c' Reaction.Memory out outs log logs at empty is all x = stayed host old c c' out outs log logs at x
heeded-acts host step_of t old c c' Reaction.Spent out outs log logs at empty is all x = count-spent host old c c' out outs log logs at (all refl) x
heeded-acts host step_of t old c c' Reaction.Nothing out outs log logs at empty is all x = made host step_of t old c c' out outs log logs at empty is
    x.0.client (let one = x.0.taken in omega arith) x.0.grows
heeded-acts host step_of t old c c' (Reaction.Answered a) out outs log logs at empty is all x = made host step_of t old c c' out outs log logs at empty
    is x.0.client (let one = x.0.taken in omega arith) x.0.grows
heeded-acts host step_of t old c c' Reaction.Ignored out outs log logs at empty is all x = absurd x.1

-- ---- any datagram

ignored : (host : ℕ) (step_of : Client → Option ClientStep) (old : List Counted) (c c' : Counted) (out outs : Datagrams) (log logs : EntryList)
    → IsClientAt host old c → out.datagrams ≡ [] → step_of c.client ≡ None → Counts c c' out outs log logs
    → Moves host (step_at step_of (slice_get old host)) old (slice_set old host c') outs.datagrams log.entries logs.entries
ignored host step_of old c c' out outs log logs at empty is counts =
    let there : slice_get old host ≡ Some c = found old host c at.below at.reads in
    let own : step_at step_of (slice_get old host) ≡ None = ap (step_at step_of) there ∙ is in
    let same : clients_in (slice_set old host c') ≡ clients_in old =
    put-client old host c' ∙ ap (slice_set (clients_in old) host) counts.client ∙ sym (put-client old host c) ∙ ap clients_in (put-same old host c at.reads) in
    subst (λ o. Moves host o old (slice_set old host c') outs.datagrams log.entries logs.entries) (sym own)
    (record {
      clients = same;
      sends = counts.datagrams ∙ empty;
      tells = counts.entries;
      counts = λ most took. took-one-more most host old c c' there
          (let one = counts.taken in omega arith) took;
    })

pub received-acts : (host : ℕ) (step_of : Client → Option ClientStep) (o : Option ClientStep) (old : List Counted) (c c' : Counted) (heard : Reaction)
    (out outs : Datagrams) (log logs : EntryList)
    → IsClientAt host old c → out.datagrams ≡ [] → step_of c.client ≡ o → (heard ≡ Reaction.Spent → c.taken ≡ most_taken_by_client)
    → Received heard o c c' out outs log logs
    → ActsAt host step_of (heeded heard) old (slice_set old host c') outs.datagrams log.entries logs.entries
received-acts host step_of (Some t) old c c' heard out outs log logs at empty is all x = heeded-acts host step_of t old c c' heard out outs log logs
    at empty is all x
received-acts host step_of None old c c' Reaction.Ignored out outs log logs at empty is all x = ignored host step_of old c c' out outs log logs at empty is x
received-acts host step_of None old c c' Reaction.Spent out outs log logs at empty is all x = count-spent host old c c' out outs log logs at (all refl) x
received-acts host step_of None old c c' Reaction.Memory out outs log logs at empty is all x = absurd x
received-acts host step_of None old c c' Reaction.Nothing out outs log logs at empty is all x = absurd x
received-acts host step_of None old c c' (Reaction.Answered a) out outs log logs at empty is all x = absurd x

-- a datagram to a host that is not there
pub nobody-acts : (host : ℕ) (step_of : Client → Option ClientStep) (clients : List Counted) (sent : List (Party × List ℕ)) (entries : List Entry)
    → length clients ≤ host → sent ≡ [] → ActsAt host step_of (Ok tt) clients clients sent entries entries
nobody-acts host step_of clients sent entries past none =
    subst (λ o. Moves host (step_at step_of o) clients clients sent entries entries) (sym (past-end clients host past))
    (record { clients = refl; sends = none; tells = refl; counts = λ most took. took-more most (most + 1) clients (omega arith) took })
  where
    past-end : (xs : List Counted) (k : ℕ) → length xs ≤ k → slice_get xs k ≡ None
    past-end [] k past = refl
    past-end (x ∷ xs) zero past = absurd (omega arith)
    past-end (x ∷ xs) (suc k) past = past-end xs k (omega arith)

-- ---- a restart

pub restart-acts : (host : ℕ) (old : List Counted) (c c' : Counted) (who : Who) (term time : ℕ) (out outs : Datagrams) (log logs : EntryList)
    → IsClientAt host old c
    → out.datagrams ≡ []
    → who ≡ next_incarnation c.client.who
    → term ≡ c.client.term
    → time ≡ c.client.now
    → c'.client ≡ (starts who term time).client
    → c'.taken ≡ 0
    → outs.first ≡ out.first
    → outs.datagrams ≡ out.datagrams ++ map to_server (starts who term time).sends
    → All FitsMessage (starts who term time).sends
    → logs.entries ≡ log.entries ++ Entry.B who ∷ []
    → Moves host (step_at (λ k. Some (restart k)) (slice_get old host)) old (slice_set old host c') outs.datagrams log.entries logs.entries
unfolding starts
restart-acts host old c c' who term time out outs log logs at empty next wants now new none first sent fit told =
    let t : ClientStep = noting (starts who term time) (Entry.B who) in
    let is : Some (restart c.client) ≡ Some t =
    ap (λ w. Some (noting (starts w c.client.term c.client.now) (Entry.B w))) (sym next)
    ∙ ap (λ n. Some (noting (starts who n c.client.now) (Entry.B who))) (sym wants)
    ∙ ap (λ n. Some (noting (starts who term n) (Entry.B who))) (sym now) in
    made host (λ k. Some (restart k)) t old c c' out outs log logs at empty is new (omega arith)
    (record { first = first; sends = sent; fit = fit; entries = record { more = Entry.B who ∷ []; behind = told; are = refl } })
