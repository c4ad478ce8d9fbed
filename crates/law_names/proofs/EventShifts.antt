-- How the claims of hosts shift with an event of the inner world.
use Rattle.std.proofs.Common.{◌≡◌, ◌<◌, ◌≤◌, ℕ, ◌==◌, true, false, List, ◌∷◌, Some, length, refl, sym, subst, ap, ◌∙◌, arith, inl, inr}
use Rattle.std.specs.Prelude.{slice_get}
use Rattle.std.proofs.lemmas.Bool.{and_from}
use Rattle.nq_base.specs.declared.Call.{Call}
use Rattle.nq_base.specs.declared.Event.{Event}
use Rattle.nq_base.specs.declared.Party.{Party}
use Rattle.nq_base.specs.declared.Request.{Request}
use Rattle.nq_base.specs.declared.Tag.{Tag}
use Rattle.nq_base.specs.declared.Who.{Who}
use Rattle.nq_directory.specs.Prefix.{directory}
use Rattle.nq_directory.proofs.Called.{same-name}
use Rattle.nq_model.specs.protocol.Client.{Client, Job, attaching, for_call, pushing, renewing, UnderWay}
use Rattle.nq_model.specs.protocol.Kept.{File, find_file, host_row, new_file}
use Rattle.nq_model.specs.laws.LeaseInterval.{cover_end}
use Rattle.nq_model.specs.protocol.Message.{Datagram, Packet, asker, call, datagram_of, request, sequence_of}
use Rattle.nq_model.specs.protocol.Profile.{same_bytes}
use Rattle.nq_model.specs.protocol.Server.{serving, Server, ServerStep}
use Rattle.nq_model.specs.protocol.ServerStep.{receive}
use Rattle.nq_model.specs.protocol.Skew.{ticks_of}
use Rattle.nq_model.specs.protocol.World.{Head, World, from_host, sending_host}
use Rattle.nq_directory.specs.NameCacheNames.{Names}
use Rattle.nq_name_server.specs.Served.{Served}
use Rattle.nq_name_server.specs.Outer.{Outer}
use Rattle.walk_steps.proofs.ClientFacts.{fits_job}
use Rattle.walk_steps.proofs.ClientMoves.{some-same}
use Rattle.walk_steps.proofs.Clocks.{same-cover}
use Rattle.walk_steps.proofs.Packets.{in-get}
use Rattle.walk_steps.proofs.Worlds.{IsSent, by_host, by_server}
use Rattle.walk_steps.proofs.Incarnations.{who-same}
use Rattle.walk_steps.proofs.Rows.{decided, number-same}
use Rattle.walk_steps.proofs.ServerOutcomes.{IsChanging, IsFresh, IsFrom}
use Rattle.law_names.proofs.Chains.{Chained, HasFit, IsServed, same-leads}
use Rattle.law_names.proofs.Claims.{IsClaimed, IsForgotten, Outlasts, Shift}
use Rattle.law_names.proofs.Entries.{all-named, entries-added, entries-dropped, entries_in, entries_of}
use Rattle.law_names.proofs.InnerRuns.{IsKnown}
use Rattle.law_names.proofs.OuterFits.{Inv, IsSide, ground}
use Rattle.law_names.proofs.OwnCalls.{IsOfCall}
use Rattle.law_names.proofs.ServerNames.{FilesMove, stay, made, removed, files-move, outlasts-on, receive-incs, receive-phase}

-- ---- the same leases stand

pub record KeptGoes (w after : World) (host : ℕ) (who : Who) (prefix : List ℕ) (standing : Served) (tag : Tag) : Type 0 where
  pub inc : (host_row w.server.kept host).inc ≡ who.inc → (host_row after.server.kept host).inc ≡ who.inc
  pub same : (host_row w.server.kept host).inc ≡ who.inc → Chained standing prefix who tag
      → entries_in prefix w.server.kept.files ≡ entries_in prefix after.server.kept.files
  pub longest : after.server.kept.longest ≡ w.server.kept.longest
  pub outlasts : (end : ℕ) → Outlasts w.server.phase end → Outlasts after.server.phase end

pub kept-shift : (w after : World) (standing : Served) (sent : List Outer) (ran : List Event) (e : Event) (host : ℕ) (who : Who) (now later : ℕ)
    (prefix : List ℕ) (tag : Tag) → IsServed standing → now ≡ ticks_of host ran → now ≤ later → KeptGoes w after host who prefix standing tag
    → Shift (ground w standing sent ran) (ground after standing sent (e ∷ ran)) host who now later prefix tag
kept-shift w after standing sent ran e host who now later prefix tag fits clock time k = record {
  leads = same-leads standing standing refl refl fits;
  time = time;
  inc = k.inc;
  same = k.same;
  runs = λ asked term past runs inc above r.
      let end : cover_end host asked term (e ∷ ran) ≡ cover_end host asked term ran = same-cover host asked term e ran (omega arith) in
      record {
        short = let s = r.short in let l = k.longest in omega arith;
        covered = subst (HasFit standing prefix who tag) (sym end) r.covered;
        waits = subst (Outlasts after.server.phase) (sym end) (k.outlasts (cover_end host asked term ran) r.waits);
      };
  gave = λ t g of. g;
}

-- an event of a client leaves the server
pub same-kept : (w after : World) (host : ℕ) (who : Who) (prefix : List ℕ) (standing : Served) (tag : Tag) → after.server ≡ w.server
    → KeptGoes w after host who prefix standing tag
same-kept w after host who prefix standing tag same = record {
  inc = λ e. ap (λ s. (host_row s.kept host).inc) same ∙ e;
  same = λ e c. ap (λ s. entries_in prefix s.kept.files) (sym same);
  longest = ap (λ s. s.kept.longest) same;
  outlasts = λ end o. subst (λ s. Outlasts s.phase end) (sym same) o;
}

-- ---- a datagram at the server

-- a datagram changes a directory
pub data ChangesIn (s : Server) (sender : ℕ) (d : Datagram) (prefix : List ℕ) : Type 0 where
  by_create : (xid : ℕ) (who : Who) (seq blocks : ℕ) (name : List ℕ) → d ≡ request xid (Request.Create who seq name blocks) → prefix ≡ directory name
      → IsFrom sender who → s.phase ≡ serving → ChangesIn s sender d prefix
  by_remove : (xid : ℕ) (who : Who) (seq q : ℕ) (f : File) → d ≡ request xid (Request.Remove who seq q f.id) → find_file f.id s.kept.files ≡ Some f
      → prefix ≡ directory f.name → IsFrom sender who → s.phase ≡ serving → ChangesIn s sender d prefix

create-job : (j : Job) (who : Who) (seq : ℕ) (name : List ℕ) (blocks : ℕ) → fits_job j (Request.Create who seq name blocks) ≡ true → j ≡ for_call
create-job attaching who seq name blocks h = absurd (cc)
create-job for_call who seq name blocks h = refl
create-job renewing who seq name blocks h = absurd (cc)
create-job pushing who seq name blocks h = absurd (cc)

remove-job : (j : Job) (who : Who) (seq q file : ℕ) → fits_job j (Request.Remove who seq q file) ≡ true → j ≡ for_call
remove-job attaching who seq q file h = absurd (cc)
remove-job for_call who seq q file h = refl
remove-job renewing who seq q file h = absurd (cc)
remove-job pushing who seq q file h = absurd (cc)

-- the request that a datagram is was sent so
pub record SentAs (p : Packet) (xid : ℕ) (r : Request) : Type 0 where
  pub host : ℕ
  pub sender : sending_host p.sender ≡ host
  pub is : p ≡ from_host host (call xid r)

call-data : (host x xid : ℕ) (q r : Request) (p : Packet) → p ≡ from_host host (call x q) → datagram_of (call x q) ≡ request xid r → SentAs p xid r
call-data host x xid (Request.Evicted who file tag) r p is e = absurd (cc)
call-data host x xid other r p is e =
    let number : x ≡ xid = cc in
    let same : other ≡ r = cc in
    record {
      host = host;
      sender = ap (λ y. sending_host y.sender) is;
      is = is ∙ ap (λ n. from_host host (call n other)) number
          ∙ ap (λ y. from_host host (call xid y)) same;
    }

pub sent-as : (p : Packet) (xid : ℕ) (r : Request) → IsSent p → p.to ≡ Party.Server → datagram_of p.message ≡ request xid r → SentAs p xid r
sent-as p xid r (by_host host x q who is by) to e = call-data host x xid q r p is (ap (λ y. datagram_of y.message) (sym is) ∙ e)
sent-as p xid r (by_server host m is) to e = let bad : Party.Client host ≡ Party.Server = ap (λ y. y.to) (sym is) ∙ to in absurd (cc)

module _ (most : ℕ) (head : Head) (w : World) (ran : List Event) (known : IsKnown most head w ran) (served : Served) (sides : List Names) (sent : List Outer)
    (bound : ℕ) (standing : Served) (inv : Inv w served sides sent ran bound standing) (number : ℕ) (p : Packet)
    (there : slice_get w.packets number ≡ Some p) (to : p.to ≡ Party.Server)
    (free : (prefix : List ℕ) → ChangesIn w.server (sending_host p.sender) (datagram_of p.message) prefix → (x : Who) (tag : Tag)
    → Chained standing prefix x tag
    → x.host ≡ sending_host p.sender) where
  abbrev t : ServerStep
  t = receive w.server (sending_host p.sender) (length w.packets) (datagram_of p.message)

  -- an open request of a client that runs is that of its call
  of-call : (host xid seq : ℕ) (who : Who) (r : Request) (c : Client) → slice_get w.clients host ≡ Some c → c.who ≡ who → SentAs p xid r → asker r ≡ Some who
      → sequence_of r ≡ Some seq → sending_host p.sender ≡ host → (host_row w.server.kept host).inc ≡ who.inc → (host_row w.server.kept host).seq < seq
      → ((j : Job) → fits_job j r ≡ true → j ≡ for_call) → IsOfCall r c.call
  of-call host xid seq who r c client same s by sq from inc above job =
      let place : slice_get w.packets number ≡ Some (from_host host (call xid r)) =
      there ∙ ap (λ y. Some y) (s.is ∙ ap (λ h. from_host h (call xid r)) (sym s.sender ∙ from)) in
      let one = known.opens.under_way host number xid c r seq client (record {
        asks = record { sent = place; by = by ∙ ap (λ y. Some y) (sym same); sequence = sq };
        kept = inc ∙ ap (λ y. y.inc) (sym same);
        above = above;
      }) in
      let fits = ((known.holds.clients host c client).alone.asking.ticketed one.ticket one.has).fits in
      let for : one.ticket.job ≡ for_call = job one.ticket.job (subst (λ y. fits_job one.ticket.job y ≡ true) one.request fits) in
      subst (λ y. IsOfCall y c.call) one.request (known.tickets host c client one.ticket one.has for)

  new-other : (name : List ℕ) (blocks : ℕ) (prefix : List ℕ) → same_bytes (directory name) prefix ≡ false
      → same_bytes (directory (new_file w.server.kept.next name blocks).name) prefix ≡ false
  unfolding new_file
  new-other name blocks prefix h = h

  module _ (host : ℕ) (who : Who) (c : Client) (prefix : List ℕ) (tag : Tag) (old : Names) (before : slice_get sides host ≡ Some old) (same : old.who ≡ who)
      (claimed : IsClaimed old prefix) (client : slice_get w.clients host ≡ Some c) (own : c.who ≡ who) (inc : (host_row w.server.kept host).inc ≡ who.inc)
      (chained : Chained standing prefix who tag) where
    here : who.host ≡ host
    here = ap (λ y. y.host) (sym own) ∙ (known.holds.clients host c client).here

    side : IsSide w standing sent ran bound host old
    side = inv.hosts host old before

    forgotten : (u : UnderWay) → c.call ≡ Some u → IsForgotten old u.call
    forgotten u is =
        let one : side.client ≡ c = some-same side.client c (sym side.there ∙ client) in
        side.calls u (ap (λ y. y.call) one ∙ is)

    -- a request of this host's incarnation
    mine : (by : Who) → by.host ≡ sending_host p.sender → by.inc ≡ (host_row w.server.kept by.host).inc → who.host ≡ sending_host p.sender → by ≡ who
    mine by from current on =
        let place : by.host ≡ who.host = from ∙ sym on in
        let number : by.inc ≡ who.inc = current ∙ ap (λ h. (host_row w.server.kept h).inc) (place ∙ here) ∙ inc in
        who-same by who (and_from (by.host == who.host) (by.inc == who.inc) (number-same by.host who.host place) (number-same by.inc who.inc number))

    created : (xid : ℕ) (by : Who) (seq blocks : ℕ) (name : List ℕ) → datagram_of p.message ≡ request xid (Request.Create by seq name blocks)
        → IsFresh w.server (sending_host p.sender) by seq → w.server.phase ≡ serving → prefix ≡ directory name → ⊥
    created xid by seq blocks name is fresh serves of =
        let on : who.host ≡ sending_host p.sender = free prefix (by_create xid by seq blocks name is of fresh.current.from serves) who tag chained in
        let one : by ≡ who = mine by fresh.current.from.host fresh.current.inc on in
        let at : by.host ≡ host = fresh.current.from.host ∙ sym on ∙ here in
        let k = of-call host xid seq by (Request.Create by seq name blocks) c client (own ∙ sym one)
        (sent-as p xid _ (known.holds.sent p (in-get w.packets number p there)) to is)
        refl refl (sym on ∙ here) (ap (λ h. (host_row w.server.kept h).inc) (sym at) ∙ sym fresh.current.inc)
        (subst (λ h. (host_row w.server.kept h).seq < seq) at fresh.above) (λ j h. create-job j by seq name blocks h) in
        let lost : IsForgotten old (Call.Create name blocks) = subst (IsForgotten old) k.2 (forgotten k.0 k.1) in
        lost (subst (IsClaimed old) of claimed)

    dropped : (xid : ℕ) (by : Who) (seq q : ℕ) (f : File) → datagram_of p.message ≡ request xid (Request.Remove by seq q f.id)
        → IsChanging w.server (sending_host p.sender) by seq f → prefix ≡ directory f.name → ⊥
    dropped xid by seq q f is changing of =
        let fresh = changing.fresh in
        let on : who.host ≡ sending_host p.sender = free prefix (by_remove xid by seq q f is changing.found of fresh.current.from changing.serves) who
        tag chained in
        let one : by ≡ who = mine by fresh.current.from.host fresh.current.inc on in
        let at : by.host ≡ host = fresh.current.from.host ∙ sym on ∙ here in
        let k = of-call host xid seq by (Request.Remove by seq q f.id) c client (own ∙ sym one)
        (sent-as p xid _ (known.holds.sent p (in-get w.packets number p there)) to is)
        refl refl (sym on ∙ here) (ap (λ h. (host_row w.server.kept h).inc) (sym at) ∙ sym fresh.current.inc)
        (subst (λ h. (host_row w.server.kept h).seq < seq) at fresh.above) (λ j h. remove-job j by seq q f.id h) in
        let lost : IsForgotten old (Call.Remove f.id) = subst (IsForgotten old) k.2 (forgotten k.0 k.1) in
        lost prefix claimed

    entries-stay : entries_in prefix w.server.kept.files ≡ entries_in prefix t.server.kept.files
    entries-stay = by (files-move w.server (sending_host p.sender) (length w.packets) (datagram_of p.message) known.within.within.apart)
      where
        by : FilesMove w.server (sending_host p.sender) (datagram_of p.message) t.server.kept.files
            → entries_in prefix w.server.kept.files ≡ entries_in prefix t.server.kept.files
        by (stay names) = ap (entries_of prefix) (sym names)
        by (made xid from seq blocks name is fresh serves files) = elim (decided (same_bytes (directory name) prefix)) [
          | inl on ↦ absurd (created xid from seq blocks name is fresh serves (sym (same-name (directory name) prefix on)))
          | inr off ↦ sym (ap (entries_in prefix) files ∙ entries-added prefix w.server.kept.files (new_file w.server.kept.next name blocks)
              (new-other name blocks prefix off))
        ]
        by (removed xid from seq q f is changing files) = elim (decided (same_bytes (directory f.name) prefix)) [
          | inl on ↦ absurd (dropped xid from seq q f is changing (sym (same-name (directory f.name) prefix on)))
          | inr off ↦ sym (ap (entries_in prefix) files
              ∙ entries-dropped prefix f.id f.name w.server.kept.files (all-named f.id f w.server.kept.files known.within.within.apart changing.found) off)
        ]

  -- what the datagram does to the kept state, as this host sees it
  pub received-kept : (after : World) → after.server ≡ t.server → IsKnown most head after (Event.Deliver number ∷ ran) → (host : ℕ) (who : Who) (c d : Client)
      (prefix : List ℕ) (tag : Tag) (old : Names) → slice_get sides host ≡ Some old → old.who ≡ who → IsClaimed old prefix → slice_get w.clients host ≡ Some c
      → slice_get after.clients host ≡ Some d → d.who ≡ c.who → c.who ≡ who → KeptGoes w after host who prefix standing tag
  received-kept after is latter host who c d prefix tag old before same claimed client later who-is own = record {
    inc = λ e.
        let past = (latter.runs.known.clients host d later).lined.past in
        let grew = receive-incs w.server (sending_host p.sender) (length w.packets) (datagram_of p.message) host in
        let now : (host_row after.server.kept host).inc ≡ (host_row t.server.kept host).inc = ap (λ s. (host_row s.kept host).inc) is in
        let top : d.who.inc ≡ who.inc = ap (λ y. y.inc) (who-is ∙ own) in
        omega arith;
    same = λ e k. entries-stay host who c prefix tag old before same claimed client own e k ∙ ap (λ s. entries_in prefix s.kept.files) (sym is);
    longest = ap (λ s. s.kept.longest) is ∙ (receive-phase w.server (sending_host p.sender) (length w.packets) (datagram_of p.message)).0;
    outlasts = λ end o. subst (λ s. Outlasts s.phase end) (sym is)
        (outlasts-on w.server.phase t.server.phase end (receive-phase w.server (sending_host p.sender) (length w.packets) (datagram_of p.message)).1 o);
  }
