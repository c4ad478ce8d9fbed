-- In every run reads and their answers are as they should be.
use Rattle.std.proofs.Common.{◌≡◌, ◌⊎◌, ℕ, ◌+◌, ◌==◌, Bool, true, false, List, [], ◌∷◌, ◌++◌, Option, Some, None, map, length, nat_lt, nat_le, not}
use Rattle.std.proofs.Common.{◌&&◌, ◌||◌, if◌then◌else◌, refl, sym, subst, ap, ◌∙◌, arith, inl, inr}
use Rattle.std.specs.List.{filter, list_any}
use Rattle.std.specs.Prelude.{slice_get}
use Rattle.nq_base.specs.Block.{value_of}
use Rattle.nq_base.specs.declared.Entry.{Entry}
use Rattle.nq_base.specs.declared.Entry.TheVariants.{A, W, R, B}
use Rattle.nq_base.specs.declared.Event.{Event}
use Rattle.nq_base.specs.declared.Grant.{Grant}
use Rattle.nq_base.specs.declared.Push.{Push}
use Rattle.nq_base.specs.declared.Reply.{Reply}
use Rattle.nq_base.specs.declared.Request.{Request}
use Rattle.nq_base.specs.declared.Want.{Want}
use Rattle.nq_base.specs.declared.Who.{Who}
use Rattle.walk_files.proofs.CallsEntries.{IsOpenAsTold}
use Rattle.law_runs.proofs.RunCalls.{calls-known}
use Rattle.walk_steps.proofs.SendCases.{least-passes}
use Rattle.walk_steps.proofs.ClientFacts.{push_in}
use Rattle.walk_steps.proofs.ClientMoves.{none-some, some-same}
use Rattle.walk_files.proofs.ServerDelays.{Never, receive-never, tick-never, crash-never}
use Rattle.walk_files.proofs.PushLists.{at-is}
use Rattle.walk_files.proofs.WritesFit.{in_list, under_way, IsRising}
use Rattle.nq_model.specs.laws.Bounds.{KeepsBounds}
use Rattle.law_runs.proofs.CachedReads.{cached-stands, none-waits, NoneEncloses, find-none}
use Rattle.law_runs.proofs.HeldRuns.{kept-held}
use Rattle.walk_files.proofs.ReadAdds.{step-adds}
use Rattle.walk_files.proofs.ReadClient.{Adds, reads-after}
use Rattle.walk_files.proofs.ReadFacts.{ReadsOf, ReadsFit, told-packet}
use Rattle.walk_files.proofs.ReadServer.{reads-after-server}
use Rattle.law_runs.proofs.RestingRuns.{rests-on}
use Rattle.walk_files.proofs.ServerReads.{ServesRead, receive-reads, tick-reads, crash-reads}
use Rattle.walk_steps.proofs.Steps.{ClientActs, called, ticked, restarted, heard, ServerActs, received, ticks, crashes, Changes, nothing, by_client}
use Rattle.walk_steps.proofs.Steps.{by_server, run-goes}
use Rattle.walk_files.proofs.ReaderValues.{NoneWaits}
use Rattle.walk_files.proofs.ReadParts.{IsDull, MadeFor}
use Rattle.walk_files.proofs.ReadSends.{Done, NewRead, IsCachedIn}
use Rattle.walk_files.proofs.ReadSteps.{ValuedBy, NoneValued, call-done, tick-done, hear-done}
use Rattle.walk_files.proofs.Stores.{Rests}
use Rattle.nq_model.specs.protocol.Client.{Client, ClientStep, Lease, Ticket, UnderWay, lease_on, lets_read, first_dirty, dirty_at, clean_at, is_push_of}
use Rattle.nq_model.specs.protocol.Client.{is_push_at, push_passes, is_clean, Job, file_of_lease}
use Rattle.nq_model.specs.protocol.ClientStep.{restart, starts, fresh_client, attached_client, next_incarnation}
use Rattle.nq_model.specs.laws.Journal.{Throughout}
use Rattle.nq_model.specs.protocol.Kept.{host_row}
use Rattle.nq_model.specs.protocol.Message.{Message, call, reply, datagram_of}
use Rattle.nq_model.specs.protocol.Server.{ServerStep, to_host}
use Rattle.nq_model.specs.protocol.Settle.{cached_body, held_body, pushed_body, clean_body}
use Rattle.nq_model.specs.protocol.Profile.{renewal}
use Rattle.nq_model.specs.protocol.Send.{is_to_push, least, least_with}
use Rattle.nq_model.specs.protocol.Skew.{IsWithinSkew}
use Rattle.nq_model.specs.protocol.Table.{caches, is_writing}
use Rattle.nq_model.specs.laws.Stands.{IsStandingValue}
use Rattle.nq_model.specs.protocol.World.{Head, World, after_server, after_client, sending_host, start, run}
use Rattle.walk_steps.proofs.RunCases.{During}
use Rattle.walk_steps.proofs.Packets.{In, in-get}
use Rattle.walk_steps.proofs.ServerSays.{AllSaid}
use Rattle.walk_steps.proofs.Worlds.{IsAt, to-server, received-said, tick-said, crash-said, first-client, set-there}
use Rattle.walk_steps.proofs.Modes.{writing-caches}
use Rattle.walk_files.proofs.Accesses.{Accesses, IsHeld, call-accesses, tick-accesses, hear-accesses}
use Rattle.walk_files.proofs.Holders.{KnownOf}
use Rattle.walk_files.proofs.Tags.{unclean-entry}
use Rattle.walk_steps.proofs.Rows.{same-number, find-passes}
use Rattle.std.proofs.lemmas.Bool.Decides.{nat_tests}
use Rattle.std.proofs.lemmas.Bool.{and_parts, not-true}

-- a step with no answer of a reply is one that could have some
weaker : (c : Client) (k : ℕ) (m : Message) (t : ClientStep) → Done c NoneValued t → Done c (ValuedBy c k m) t
weaker c k m t d = record {
  tells = record { who_is = d.tells.who_is; fine = λ e i. step e (d.tells.fine e i); asks = d.tells.asks };
  reads = d.reads;
} where
  step : (e : Entry) → IsDull e ⊎ ⊥ ⊎ IsCachedIn t.entries e → IsDull e ⊎ ValuedBy c k m e ⊎ IsCachedIn t.entries e
  step e (inl x) = inl x
  step e (inr (inl bad)) = absurd bad
  step e (inr (inr x)) = inr (inr x)

restart-adds : (w : World) (host : ℕ) (c : Client) → Adds w host (restart c)
unfolding starts fresh_client
restart-adds w host c = record {
  own = record {
    ticketed = λ t is job. attaching t (some-same _ t is) job;
    waits = λ u is. none-some u is;
    standing = λ u is. none-some u is;
  };
  unserved = λ who q file block v k i. none-read who q file block v (Some k) i;
  delayed = λ who file block n v i. absurd (none-write who file block n v i);
  cached = λ who q file block v before p i. absurd (none-read who q file block v None i);
  served = λ who q file block v k before p a. absurd (none-by who q k a);
  answers = λ who q v said i. absurd (none-answer who q said i);
} where
  next : Who
  next = next_incarnation c.who

  attaching : (t : Ticket) → record { xid = 1; first = c.now; last = c.now; request = Request.Attach next; job = Job.attaching } ≡ t
      → t.job ≡ Job.for_call → (u : UnderWay) × (None ≡ Some u) × MadeFor t.request u
  attaching t one job = let other : Job.attaching ≡ Job.for_call = ap (λ z. z.job) one ∙ job in absurd (cc)

  none-read : (who : Who) (q file block v : ℕ) (by : Option ℕ) → (B next ≡ R who q file block v by) ⊎ ⊥ → ⊥
  none-read who q file block v by (inl e) = cc
  none-read who q file block v by (inr bad) = bad

  none-write : (who : Who) (file block n v : ℕ) → (B next ≡ W who file block n v false) ⊎ ⊥ → ⊥
  none-write who file block n v (inl e) = cc
  none-write who file block n v (inr bad) = bad

  none-by : (who : Who) (q k : ℕ) → ⊥ ⊎ ⊥ → ⊥
  none-by who q k (inl bad) = bad
  none-by who q k (inr bad) = bad

  none-answer : (who : Who) (q : ℕ) (said : _) → (B next ≡ A who q said) ⊎ ⊥ → ⊥
  none-answer who q said (inl e) = cc
  none-answer who q said (inr bad) = bad

-- ---- delayed writes and leases

any-first : (file : ℕ) (ps : List Push) → list_any (is_push_of file) ps ≡ true → first_dirty file ps ≡ None → ⊥
any-first file [] any none = cc
any-first file (p ∷ ps) any none = case (is_push_of file p) any none (any-first file ps)
  where
    case : (b : Bool) → (b || list_any (is_push_of file) ps) ≡ true → (if b then Some p else first_dirty file ps) ≡ None
        → (list_any (is_push_of file) ps ≡ true → first_dirty file ps ≡ None → ⊥) → ⊥
    case true any none rest = none-some p (sym none)
    case false any none rest = rest any none

any-dirty : (c : Client) (file : ℕ) → c.push ≡ None → is_clean c file ≡ false → list_any (is_push_of file) c.dirty ≡ true
any-dirty c file none unclean =
    case (list_any (is_push_of file) c.dirty)
    (sym (ap (λ o. not (list_any (is_push_of file) c.dirty) && not (push_passes (is_push_of file) o)) none) ∙ unclean)
  where
    case : (b : Bool) → (not b && not false) ≡ false → b ≡ true
    case true e = refl
    case false e = absurd (cc)

has-dirty : (c : Client) (file block : ℕ) (p : Push) → In c.dirty p → p.file ≡ file → p.block ≡ block → cached_body c file block ≡ None → ⊥
has-dirty c file block p i f g none = case (dirty_at file block c.dirty) refl none
  where
    case : (o : Option Push) → dirty_at file block c.dirty ≡ o
        → held_body o (pushed_body file block c.push) (clean_body (clean_at file block c.clean)) ≡ None → ⊥
    case None e h = find-none (is_push_at file block) c.dirty p e i (at-is file block p f g)
    case (Some q) e h = none-some q.body (sym h)

to-push-unclean : (c : Client) (l : Lease) → is_to_push c l ≡ true → is_clean c l.file ≡ false
to-push-unclean c l is = not-true _ (and_parts _ _ (and_parts _ _ is).0).1

none-to-push : (c : Client) (file : ℕ) (l : Lease) → l.file ≡ file → is_to_push c l ≡ true → c.push ≡ None → first_dirty file c.dirty ≡ None → ⊥
none-to-push c file l of due unpushed none =
    any-first file c.dirty (any-dirty c file unpushed (subst (λ n. is_clean c n ≡ false) of (to-push-unclean c l due))) none

lease-in : (file : ℕ) (ls : List Lease) (l : Lease) → lease_on file ls ≡ Some l → In ls l
lease-in file [] l e = none-some l e
lease-in file (m ∷ ls) l e = case (m.file == file) e (lease-in file ls l)
  where
    case : (b : Bool) → (if b then Some m else lease_on file ls) ≡ Some l → (lease_on file ls ≡ Some l → In ls l) → (m ≡ l) ⊎ In ls l
    case true f rest = inl (some-same m l f)
    case false f rest = inr (rest f)

least-some : (n : ℕ) (o : Option ℕ) → (f : ℕ) × (least_with n o ≡ Some f)
least-some n None = (n, refl)
least-some n (Some m) = step (nat_lt m n)
  where
    step : (b : Bool) → (f : ℕ) × (Some (if b then m else n) ≡ Some f)
    step true = (m, refl)
    step false = (n, refl)

least-exists : (p : Lease → Bool) (ls : List Lease) (l : Lease) → In ls l → p l ≡ true → (f : ℕ) × (least (map file_of_lease (filter p ls)) ≡ Some f)
least-exists p [] l i is = absurd i
least-exists p (m ∷ ls) l i is = case (p m) refl i (least-exists p ls l)
  where
    case : (b : Bool) → p m ≡ b → (m ≡ l) ⊎ In ls l → (In ls l → p l ≡ true → (f : ℕ) × (least (map file_of_lease (filter p ls)) ≡ Some f))
        → (f : ℕ) × (least (map file_of_lease (if b then m ∷ filter p ls else filter p ls)) ≡ Some f)
    case true e j rest = least-some m.file (least (map file_of_lease (filter p ls)))
    case false e (inl same) rest = let yes : p m ≡ true = ap p same ∙ is in absurd (cc)
    case false e (inr j) rest = rest j is

module _ (most : ℕ) (head : Head)
    (known : (events : List Event) → KeepsBounds most head events → IsWithinSkew head.hosts most events
    → KnownOf head.hosts most (run head events) events) where
  -- a READ that was made now: no own write on its block waits
  fresh-waits : (events : List Event) (b : KeepsBounds most head events) (within : IsWithinSkew head.hosts most events) (host : ℕ) (t : ClientStep)
      → slice_get (run head events).clients host ≡ Some t.client → (who : Who) (q file block : ℕ) (want : Option Want) → NewRead t who q file block want
      → NoneWaits (run head events).journal t.client.who file block
  fresh-waits events b within host t is who q file block want new =
      none-waits (host_row (run head events).server.kept host) t.client (run head events).packets (run head events).journal
      ((known events b within).writes host t.client is) file block none
    where
      k : KnownOf head.hosts most (run head events) events
      k = known events b within

      no-push : (p : Push) → t.client.push ≡ Some p → ⊥
      no-push p e =
          let u = (k.writes host t.client is).under_way p e in
          let one : u.request ≡ new.ticket = some-same u.request new.ticket (sym u.asks ∙ new.has) in
          none-some p (sym (ap push_in (ap (λ z. z.request) one ∙ new.asks)) ∙ u.pushes)

      unpushed : (o : Option Push) → t.client.push ≡ o → o ≡ None
      unpushed None e = refl
      unpushed (Some p) e = absurd (no-push p e)

      -- a lease that has run out over delayed writes is one to push for
      run-out : (p : Push) (l : Lease) → In t.client.dirty p → p.file ≡ file → lease_on file t.client.leases ≡ Some l → is_writing l.mode ≡ true
          → nat_lt t.client.now l.expiry ≡ false → ⊥
      run-out p l i f held writes past =
          let of : l.file ≡ file = same-number l.file file (find-passes (λ m. m.file == file) l t.client.leases held) in
          let unclean : is_clean t.client l.file ≡ false = subst (λ n. is_clean t.client n ≡ false) (f ∙ sym of) (unclean-entry t.client p (inl i)) in
          let due : nat_le l.expiry (t.client.now + renewal) ≡ true = grind (arith, nat_tests) in
          let to_push : is_to_push t.client l ≡ true = rw (writes, unclean, due) refl in
          let some = least-exists (is_to_push t.client) t.client.leases l (lease-in file t.client.leases l held) to_push in
          let m = least-passes (is_to_push t.client) t.client.leases some.0 some.1 in
          none-to-push t.client some.0 m.0 m.1 m.2 (unpushed t.client.push refl) (new.nothing some.0 some.1)

      dirty-free : (p : Push) → In t.client.dirty p → p.file ≡ file → p.block ≡ block → ⊥
      dirty-free p i f g = case (nat_lt t.client.now l.0.expiry) refl
        where
          l : (l : Lease) × (lease_on file t.client.leases ≡ Some l) × (is_writing l.mode ≡ true)
          l = (k.chains host t.client is).writes.held file (subst (λ n. is_clean t.client n ≡ false) f (unclean-entry t.client p (inl i)))

          case : (runs : Bool) → nat_lt t.client.now l.0.expiry ≡ runs → ⊥
          case true runs =
              let caching : caches l.0.mode ≡ true = writing-caches l.0.mode l.2 in
              let lets : lets_read t.client.now l.0 ≡ true = rw (caching, runs) refl in
              has-dirty t.client file block p i f g (new.waits l.0 l.1 lets)
          case false runs = run-out p l.0 i f l.1 l.2 runs

      none : NoneEncloses t.client file block
      none n (under_way p e f g low high) = no-push p e
      none n (in_list p i f g low high) = dirty-free p i f g

  rises : (events : List Event) (b : KeepsBounds most head events) (within : IsWithinSkew head.hosts most events)
      → Throughout IsRising (run head events).journal
  rises events b within = (known events b within).journal.rising

  journal-is : (w : World) (host : ℕ) (t : ClientStep) (P : List Entry → Type 0) → P (after_client w host t).journal → P (t.entries ++ w.journal)
  unfolding after_client
  journal-is w host t P h = h

  client-is : (w : World) (host : ℕ) (c : Client) (t : ClientStep) → slice_get w.clients host ≡ Some c
      → slice_get (after_client w host t).clients host ≡ Some t.client
  unfolding after_client
  client-is w host c t is = set-there w.clients host t.client c is

  server-is : (w : World) (t : ServerStep) (P : List Entry → Type 0) → P (after_server w t).journal → P (t.entries ++ w.journal)
  unfolding after_server
  server-is w t P h = h

  -- ---- a client's step

  module _ (e : Event) (events : List Event) (during : During most head e events) (host : ℕ) (c : Client) (t : ClientStep)
      (there : slice_get (run head events).clients host ≡ Some c) (is : run head (e ∷ events) ≡ after_client (run head events) host t)
      (h : ReadsFit (run head events)) where
    abbrev w : World
    w = run head events

    now-there : slice_get (run head (e ∷ events)).clients host ≡ Some t.client
    now-there = subst (λ z. slice_get z.clients host ≡ Some t.client) (sym is) (client-is w host c t there)

    to-now : (P : List Entry → Type 0) → P (run head (e ∷ events)).journal → P (t.entries ++ w.journal)
    to-now P x = journal-is w host t P (subst (λ z. P z.journal) is x)

    rising : Throughout IsRising (t.entries ++ w.journal)
    rising = to-now (Throughout IsRising) (rises (e ∷ events) during.bounds_after during.within_after)

    rests : Throughout Rests (t.entries ++ w.journal)
    rests = to-now (Throughout Rests) ((rests-on most head known (e ∷ events) during.bounds_after during.within_after).stores)

    after : (u : UnderWay) → t.client.call ≡ Some u → IsOpenAsTold t.client.who t.client.calls u (t.entries ++ w.journal)
    after u going =
        to-now (λ j. IsOpenAsTold t.client.who t.client.calls u j)
        (((calls-known most head (e ∷ events) during.bounds_after during.within_after).clients host t.client now-there).calls_fit.under_way u going)

    cached : (who : Who) → t.client.who ≡ who → (file block : ℕ) (lease : Lease) (body : List ℕ) → IsHeld t.client file block lease
        → lets_read t.client.now lease ≡ true → cached_body t.client file block ≡ Some body → t.client.call ≡ None
        → IsStandingValue (t.entries ++ w.journal) (t.entries ++ w.journal) who file block (value_of body)
    cached who mine file block lease body held lets has idle =
        to-now (λ j. IsStandingValue j j who file block (value_of body))
        (subst (λ z. IsStandingValue (run head (e ∷ events)).journal (run head (e ∷ events)).journal z file block (value_of body)) mine
        (cached-stands most head known (e ∷ events) during.bounds_after during.within_after host t.client now-there file block lease held.held lets idle
        body has))

    fresh : (by : Who) → t.client.who ≡ by → (who : Who) (q file block : ℕ) (want : Option Want) → NewRead t who q file block want
        → NoneWaits (t.entries ++ w.journal) by file block
    fresh by mine who q file block want new =
        to-now (λ j. NoneWaits j by file block)
        (subst (λ z. NoneWaits (run head (e ∷ events)).journal z file block) mine
        (fresh-waits (e ∷ events) during.bounds_after during.within_after host t now-there who q file block want new))

    k0 : KnownOf head.hosts most w events
    k0 = known events during.bounds during.within

    a : IsAt host c w.packets
    a = k0.holds.clients host c there

    done-adds : (k : ℕ) (m : Message) → Accesses c.who t → Done c (ValuedBy c k m) t
        → ((x inc rev : ℕ) (body : List ℕ) (grant : Option Grant) → m ≡ reply x (Reply.Read inc rev body grant)
        → slice_get w.packets k ≡ Some (to_host host (reply x (Reply.Read inc rev body grant)))) → ReadsFit (after_client w host t)
    done-adds k m accesses done heard_in =
        reads-after w host t k0.holds rising rests
        (step-adds w host c t k m there k0.holds (calls-known most head events during.bounds during.within) after rising rests accesses done heard_in
        (cached c.who done.tells.who_is) (fresh c.who done.tells.who_is) h) h

    no-message : (x inc rev : ℕ) (body : List ℕ) (grant : Option Grant) → call 0 Request.Null ≡ reply x (Reply.Read inc rev body grant)
        → slice_get w.packets 0 ≡ Some (to_host host (reply x (Reply.Read inc rev body grant)))
    no-message x inc rev body grant bad = absurd (cc)

    acts-fit : ClientActs w host c t → ReadsFit (after_client w host t)
    acts-fit (called op eq) =
        done-adds 0 (call 0 Request.Null) (subst (Accesses c.who) (sym eq) (call-accesses c op a.alone))
        (weaker c 0 (call 0 Request.Null) t (subst (Done c NoneValued) (sym eq) (call-done c ((h.clients host c there).ticketed) op))) no-message
    acts-fit (ticked eq) =
        done-adds 0 (call 0 Request.Null) (subst (Accesses c.who) (sym eq) (tick-accesses c (c.now + 1) a.alone))
        (weaker c 0 (call 0 Request.Null) t (subst (Done c NoneValued) (sym eq) (tick-done c ((h.clients host c there).ticketed) (c.now + 1)))) no-message
    acts-fit (restarted eq) = reads-after w host t k0.holds rising rests (subst (Adds w host) (sym eq) (restart-adds w host c)) h
    acts-fit (heard k p sent to hears) =
        let i = in-get w.packets k p sent in
        let one : p ≡ to_host host p.message = told-packet p host (k0.holds.sent p i) to in
        done-adds k p.message (hear-accesses c k p.message t a.alone hears) (hear-done c ((h.clients host c there).ticketed) k p.message t a.alone hears)
        (λ x inc rev body grant same. sent ∙ ap Some one ∙ ap (λ m. Some (to_host host m)) same)

  -- ---- a server's step

  module _ (e : Event) (events : List Event) (during : During most head e events) (t : ServerStep)
      (is : run head (e ∷ events) ≡ after_server (run head events) t) (h : ReadsFit (run head events)) where
    abbrev v : World
    v = run head events

    s-now : (P : List Entry → Type 0) → P (run head (e ∷ events)).journal → P (t.entries ++ v.journal)
    s-now P x = server-is v t P (subst (λ z. P z.journal) is x)

    s-fits : ServerActs v t → ReadsFit (after_server v t)
    s-fits acts = go acts
      where
        k : KnownOf head.hosts most v events
        k = known events during.bounds during.within

        go-on : AllSaid v.packets t.sends → Never t.entries → ServesRead v.packets v.server (length v.packets) t → ReadsFit (after_server v t)
        go-on said never reads = reads-after-server v t said never
            (s-now (Throughout IsRising) (rises (e ∷ events) during.bounds_after during.within_after))
            (s-now (Throughout Rests) ((rests-on most head known (e ∷ events) during.bounds_after during.within_after).stores))
            (calls-known most head events during.bounds during.within)
            (kept-held most head known events during.bounds during.within) reads h

        go : ServerActs v t → ReadsFit (after_server v t)
        go (received n p sent to eq) =
            let i = in-get v.packets n p sent in
            go-on (subst (λ z. AllSaid v.packets z.sends) (sym eq) (received-said v p i to k.holds))
            (subst (λ z. Never z.entries) (sym eq) (receive-never v.server (sending_host p.sender) (length v.packets) (datagram_of p.message)))
            (subst (ServesRead v.packets v.server (length v.packets)) (sym eq)
            (receive-reads v.packets v.server (sending_host p.sender) (length v.packets) (datagram_of p.message)
            (λ xid r d. (to-server v.packets p (k.holds.sent p i) to i xid r d).0)))
        go (ticks eq) =
            go-on (subst (λ z. AllSaid v.packets z.sends) (sym eq) (tick-said v.packets v.server (v.server.now + 1)))
            (subst (λ z. Never z.entries) (sym eq) (tick-never v.server (v.server.now + 1)))
            (subst (ServesRead v.packets v.server (length v.packets)) (sym eq) (tick-reads v.packets v.server (length v.packets) (v.server.now + 1)))
        go (crashes longest eq) =
            go-on (subst (λ z. AllSaid v.packets z.sends) (sym eq) (crash-said v.packets v.server longest))
            (subst (λ z. Never z.entries) (sym eq) (crash-never v.server longest))
            (subst (ServesRead v.packets v.server (length v.packets)) (sym eq) (crash-reads v.packets v.server (length v.packets) longest))

  -- ---- every run

  goes : (e : Event) (events : List Event) → During most head e events → Changes (run head events) (run head (e ∷ events)) → ReadsFit (run head events)
      → ReadsFit (run head (e ∷ events))
  goes e events during (nothing is) h = subst ReadsFit (sym is) h
  goes e events during (by_client host c t there acts is) h = subst ReadsFit (sym is) (acts-fit e events during host c t there is h acts)
  goes e events during (by_server t acts is) h = subst ReadsFit (sym is) (s-fits e events during t is h acts)

  starts-fit : ReadsFit (start head)
  unfolding start attached_client fresh_client
  starts-fit = record {
    served = λ k host x inc rev body grant at. none-some _ at;
    clients = λ host c is. subst (ReadsOf [] []) (sym (first-client head.term 0 head.hosts host c is)) (record {
      ticketed = λ t has. none-some t has;
      waits = λ u called. none-some u called;
      standing = λ u called. none-some u called;
    });
    counted = λ who q file block v by before p. absurd p;
    answered = λ who q v said i. absurd i;
  }

  pub run-reads : (events : List Event) → KeepsBounds most head events → IsWithinSkew head.hosts most events → ReadsFit (run head events)
  run-reads = run-goes most head (λ events. ReadsFit (run head events)) (λ b. starts-fit) goes
