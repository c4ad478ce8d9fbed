-- A tick renews a lease only where no call is open; and the lease lets its holder cache, and runs.
use Rattle.std.proofs.Common.{◌≡◌, ◌≤◌, ◌<◌, ◌⊎◌, ℕ, ◌+◌, Bool, true, false, nat_le, if◌then◌else◌, List, [], ◌∷◌, Option, Some, None, refl, sym}
use Rattle.std.proofs.Common.{subst, ap, ◌∙◌, arith, inl, inr}
use Rattle.std.proofs.lemmas.Bool.{and_parts}
use Rattle.nq_base.specs.declared.Grant.{Grant}
use Rattle.std.specs.Prelude.{map, filter}
use Rattle.nq_base.specs.declared.Request.{Request}
use Rattle.nq_base.specs.declared.Tag.{Tag}
use Rattle.nq_model.specs.protocol.Client.{Client, ClientStep, renewing, Lease, Ticket, UnderWay, begun, file_of_lease, lease_on}
use Rattle.nq_model.specs.protocol.ClientStep.{client_tick, at_time}
use Rattle.nq_model.specs.protocol.Send.{want_of, is_asking, is_to_renew, sends_request, after_seq, after_number, takes_push, gives_up, send_next, least}
use Rattle.nq_model.specs.protocol.Settle.{answers, after_read, reads_cached, after_write, marks_written, settle}
use Rattle.nq_model.specs.protocol.Table.{caches}
use Rattle.law_rounds.proofs.Busy.{asks-next}
use Rattle.walk_steps.proofs.ClientCases.{Both}
use Rattle.walk_steps.proofs.ClientFacts.{Alone}
use Rattle.walk_steps.proofs.ClientMoves as move
use Rattle.walk_steps.proofs.ClientMoves.{some-same, none-some}
use Rattle.walk_steps.proofs.SendCases.{send-cases, least-with-one}
use Rattle.walk_steps.proofs.SettleCases.{settle-cases, settle-settles, Settled}
use Rattle.walk_steps.proofs.SettleWalk.{settle-keeps}
use Rattle.walk_steps.proofs.StepCases.{tick-cases}
use Rattle.walk_steps.proofs.Packets.{In}
use Rattle.nq_laws.proofs.FoundLeases.{AreFound, FoundIn, found-closed}
use Rattle.walk_steps.proofs.StepSends.{NextSends, nothing as nothing_sent, asks as then_asked, next-sends}
use Rattle.walk_steps.proofs.Tests.{is-at-most, is-not-at-most, is-below}

-- ---- what a tick renews

-- a request renews a lease: no call is open, and the lease lets its holder cache and runs
pub record Renews (c : Client) (k : Ticket) : Type 0 where
  pub idle : c.call ≡ None
  pub lease : Lease
  pub file : ℕ
  pub holds : lease_on file c.leases ≡ Some lease
  pub caching : caches lease.mode ≡ true
  pub live : c.now < lease.expiry
  pub asks : k.request ≡ Request.GetLease c.who file (want_of c lease.mode)

record Only (c : Client) : Type 0 where
  only : (k : Ticket) → c.ticket ≡ Some k → k.job ≡ renewing → Renews c k

abbrev RenewsOnly : ClientStep → Type 0
RenewsOnly v = Only v.client

-- the file of the leases that pass a test is the file of one of them
least-passes-in : (p : Lease → Bool) (leases : List Lease) (file : ℕ) → least (map file_of_lease (filter p leases)) ≡ Some file → (l : Lease) × In leases l
    × (l.file ≡ file) × (p l ≡ true)
least-passes-in p [] file h = none-some file h
least-passes-in p (l ∷ leases) file h = by (p l) refl h (least-passes-in p leases file)
  where
    more : (m : Lease) × In leases m × (m.file ≡ file) × (p m ≡ true) → (m : Lease) × In (l ∷ leases) m × (m.file ≡ file) × (p m ≡ true)
    more m = (m.0, inr m.1, m.2, m.3)

    by : (b : Bool) → p l ≡ b → least (map file_of_lease (if b then l ∷ filter p leases else filter p leases)) ≡ Some file
        → (least (map file_of_lease (filter p leases)) ≡ Some file → (m : Lease) × In leases m × (m.file ≡ file) × (p m ≡ true)) → (m : Lease)
        × In (l ∷ leases) m × (m.file ≡ file) × (p m ≡ true)
    by true e g again = which (least-with-one l.file (least (map file_of_lease (filter p leases))) file g)
      where
        which : (l.file ≡ file) ⊎ (least (map file_of_lease (filter p leases)) ≡ Some file) → (m : Lease) × In (l ∷ leases) m × (m.file ≡ file) × (p m ≡ true)
        which (inl same) = (l, inl refl, same, e)
        which (inr less) = more (again less)
    by false e g again = more (again g)

not-for : (c : Client) (k : Ticket) → c.ticket ≡ Some k → (k.job ≡ renewing → ⊥) → Only c
not-for c k has other = record { only = λ l asks job. absurd (other (ap (λ (z : Ticket). z.job) (some-same k l (sym has ∙ asks)) ∙ job)) }

renews-not : (t : ClientStep) → is_asking (send_next false t) ≡ true → send_next true t ≡ send_next false t
renews-not t e = rw e refl

module _ (t : ClientStep) (alone : Alone t.client) (settled : Settled t) (none : t.client.ticket ≡ None) (found : AreFound t.client.leases) where
  -- where no call is open, or its client pauses
  by-cases : ((t.client.pause ≤ t.client.now) → t.client.call ≡ None) → RenewsOnly (send_next true t)
  unfolding sends_request after_seq after_number takes_push gives_up
  by-cases idle = send-cases true t RenewsOnly (record {
    stays_asking = λ ticket asks. absurd (none-some ticket (sym none ∙ asks));
    stays = λ free nothing_due. record { only = λ l asks job. none-some l (sym free ∙ asks) };
    pushing = λ file p free first of. not-for _ _ refl (λ e. cc);
    creating = λ u name blocks free is. not-for _ _ refl (λ e. cc);
    looking_up = λ u name free is. not-for _ _ refl (λ e. cc);
    getting_attributes = λ u file free is. not-for _ _ refl (λ e. cc);
    reading = λ u file block free is. not-for _ _ refl (λ e. cc);
    fetching = λ u file block free is. not-for _ _ refl (λ e. cc);
    writing = λ u file block body free is through. not-for _ _ refl (λ e. cc);
    leasing = λ u file block body free is no alone_now. not-for _ _ refl (λ e. cc);
    putting = λ u file block body free is first. not-for _ _ refl (λ e. cc);
    resizing = λ u file blocks free is clean. not-for _ _ refl (λ e. cc);
    removing = λ u file free is clean. not-for _ _ refl (λ e. cc);
    renewing = λ file lease tick free nothing_due unpaused renewed held of clean quiet. record {
      only = λ k asks job.
          let m = least-passes-in (is_to_renew t.client) t.client.leases file renewed in
          let one : m.0 ≡ lease = some-same m.0 lease (sym (found m.0 m.1) ∙ ap (λ n. lease_on n t.client.leases) m.2 ∙ held) in
          let due : is_to_renew t.client lease ≡ true = subst (λ (z : Lease). is_to_renew t.client z ≡ true) one m.3 in
          let a = and_parts _ _ (and_parts _ _ due).0 in
          let b = and_parts _ _ (and_parts _ _ a.0).0 in
          let c = and_parts _ _ b.0 in
          record {
            idle = idle unpaused;
            lease = lease;
            file = file;
            holds = held;
            caching = c.0;
            live = is-below _ _ c.1;
            asks = ap (λ (z : Ticket). z.request) (sym (some-same _ k asks)) ∙ ap (λ f. Request.GetLease t.client.who f (want_of t.client lease.mode)) of;
          };
    };
  })

  renews-only : RenewsOnly (send_next true t)
  renews-only = by t.client.call refl
    where
      asked : (u : UnderWay) → t.client.call ≡ Some u → t.client.pause ≤ t.client.now → RenewsOnly (send_next true t)
      asked u called unpaused =
          let asking = asks-next false t u called unpaused settled alone.delaying in
          subst RenewsOnly (sym (renews-not t asking)) (next (send_next false t) (next-sends false t))
        where
          next : (v : ClientStep) → NextSends false t v → RenewsOnly v
          next v (nothing_sent same) = record { only = λ k asks job. none-some k (sym none ∙ ap (λ (z : ClientStep). z.client.ticket) (sym same) ∙ asks) }
          next v (then_asked ticket free has sends xid after who now first last by_who fits renews) = record {
            only = λ k has2 job. let bad = renews (ap (λ
                (z : Ticket). z.job) (some-same ticket k (sym has ∙ has2)) ∙ job) in absurd (cc);
          }

      by : (o : Option UnderWay) → t.client.call ≡ o → RenewsOnly (send_next true t)
      by None idle = by-cases (λ unpaused. idle)
      by (Some u) called = pauses (nat_le t.client.pause t.client.now) refl
        where
          pauses : (e : Bool) → nat_le t.client.pause t.client.now ≡ e → RenewsOnly (send_next true t)
          pauses true e = asked u called (is-at-most _ _ e)
          pauses false e = by-cases (λ unpaused. let late = is-not-at-most t.client.pause t.client.now e in absurd (omega arith))

-- ---- a tick

abbrev no-notice : ℕ → Tag → Type 0
no-notice f tag = ⊥

abbrev no-grant : ℕ → Grant → ℕ → Type 0
no-grant f g sent = ⊥

timed : (c : Client) → Alone c → AreFound c.leases → Both FoundIn (begun (at_time c (c.now + 1)))
unfolding at_time
timed c alone all = record { alone = record { asking = move.passes (c.now + 1) (omega arith) alone.asking; delaying = alone.delaying }; core = all }

same-ticket : (u : ClientStep) → (settle u).client.ticket ≡ u.client.ticket
unfolding answers after_read reads_cached after_write marks_written
same-ticket u = settle-cases u (λ v. v.client.ticket ≡ u.client.ticket) (record {
  idle = λ none. refl;
  asking = λ v has own. refl;
  read_out = λ v file block lease is read can out. refl;
  reading = λ v file block lease body is read can below has. refl;
  read_waits = λ v file block is read waits. refl;
  write_out = λ v sync file block body lease is write can out. refl;
  write_full = λ v sync file block body lease is write can below full. refl;
  writing = λ v file block body lease is write can below room. refl;
  putting = λ v file block body lease is put first can below room. refl;
  write_waits = λ v sync file block body is write waits. refl;
  syncing = λ v file is sync clean. refl;
  sync_waits = λ v file is sync dirty. refl;
  others = λ v is needs. refl;
})

settled-free : (c : Client) → c.ticket ≡ None → (settle (begun (at_time c (c.now + 1)))).client.ticket ≡ None
unfolding at_time
settled-free c none = same-ticket (begun (at_time c (c.now + 1))) ∙ none

pub tick-renews : (c : Client) → Alone c → AreFound c.leases → c.ticket ≡ None → (k : Ticket) → (client_tick c (c.now + 1)).client.ticket ≡ Some k
    → k.job ≡ renewing → Renews (client_tick c (c.now + 1)).client k
tick-renews c alone all none = (tick-cases c (c.now + 1) RenewsOnly (record {
  again = λ ticket asks late. absurd (none-some ticket (sym none ∙ asks));
  quiet = λ ticket asks soon. absurd (none-some ticket (sym none ∙ asks));
  free = λ free.
      let t = settle (begun (at_time c (c.now + 1))) in
      let b = settle-keeps (found-closed no-notice no-grant) (begun (at_time c (c.now + 1))) (timed c alone all) in
      renews-only t b.alone (settle-settles (begun (at_time c (c.now + 1)))) (settled-free c free) b.core;
})).only
