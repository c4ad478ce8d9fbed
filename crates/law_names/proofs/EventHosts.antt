-- What an event of the inner world does to each client, and to the names that its host keeps.
use Rattle.std.proofs.Common.{◌≡◌, ◌≢◌, ◌≤◌, ◌⊎◌, ℕ, ◌+◌, ◌==◌, Bool, true, false, List, ◌∷◌, Option, Some, None, if◌then◌else◌, refl, sym, subst, ap}
use Rattle.std.proofs.Common.{◌∙◌, arith, inl, inr}
use Rattle.std.specs.Prelude.{slice_get, slice_set}
use Rattle.nq_base.specs.declared.Call.{Call}
use Rattle.nq_base.specs.declared.Event.{Event}
use Rattle.nq_base.specs.declared.Party.{Party}
use Rattle.nq_base.specs.declared.Tag.{Tag}
use Rattle.nq_base.specs.declared.Who.{Who}
use Rattle.nq_model.specs.laws.StepsAreOfOneHost.{receiver_of, stepper}
use Rattle.nq_model.specs.protocol.Client.{Client, ClientStep, UnderWay}
use Rattle.nq_model.specs.protocol.ClientStep.{client_call, client_tick, fresh_client, next_incarnation, restart, starts}
use Rattle.nq_model.specs.protocol.Hear.{hear}
use Rattle.nq_model.specs.protocol.Message.{Packet}
use Rattle.nq_model.specs.protocol.World.{Head, World, after_client, after_hearing, at_client, deliver, deliver_to, deliver_to_client, step}
use Rattle.nq_directory.specs.NameCacheNames.{Names, before_call, new_names}
use Rattle.nq_name_server.specs.Served.{Served}
use Rattle.nq_name_server.specs.Outer.{Outer}
use Rattle.nq_name_server.specs.Outside.{at_side}
use Rattle.walk_steps.proofs.OneHost.{of-one-host}
use Rattle.walk_steps.proofs.ClientMoves.{none-some, some-same}
use Rattle.walk_steps.proofs.WorldClocks.{StillIf, call-still, hear-still, tick-still}
use Rattle.walk_steps.proofs.Packets.{In, in-get}
use Rattle.walk_steps.proofs.Worlds.{get-set-other, get-set-same, set-there, to-told}
use Rattle.walk_steps.proofs.Rows.{same-number, number-same}
use Rattle.law_names.proofs.Claims.{IsClaimed, IsForgotten, Shift}
use Rattle.law_names.proofs.HostMoves.{KeepsFewer, before-fewer, before-forgets, fewer-claims, still-forgotten}
use Rattle.law_names.proofs.InnerRuns.{IsKnown}
use Rattle.law_names.proofs.InnerSteps.{HostGoes, anew, goes}
use Rattle.law_names.proofs.OuterFits.{Inv, IsSide, ground}
use Rattle.law_names.proofs.OwnCalls.{AllKnown, call-fits, hear-fits, tick-fits}

-- ---- clients

-- the call that an event begins at a host
abbrev pub call_at : Event → (host : ℕ) → Option Call
call_at (Event.Call h op) host = if h == host then Some op else None
call_at other host = None

-- a client goes on: the same incarnation, its clock no earlier, with no other call than it had or the event begins
pub record GoesOn (w : World) (e : Event) (host : ℕ) (c : Client) : Type 0 where
  pub after : Client
  pub there : slice_get (step w e).clients host ≡ Some after
  pub who : after.who ≡ c.who
  pub time : c.now ≤ after.now
  pub calls : AllKnown c (call_at e host) after.call

client-no-server : (host : ℕ) → Party.Client host ≡ Party.Server → ⊥
client-no-server host e = cc

client-same : (a b : ℕ) → Party.Client a ≡ Party.Client b → a ≡ b
client-same a b e = cc

-- a client that is not the one that steps
stays-as : (w : World) (e : Event) (host : ℕ) (c : Client) → slice_get w.clients host ≡ Some c → Party.Client host ≢ stepper w e → GoesOn w e host c
stays-as w e host c is apart = record {
  after = c;
  there = (of-one-host w e).clients host apart ∙ is;
  who = refl;
  time = omega arith;
  calls = λ u e. inl (u, e, refl);
}

pub at-there : (w : World) (host : ℕ) (f : Client → ClientStep) (c : Client) → slice_get w.clients host ≡ Some c
    → slice_get (at_client w host f (slice_get w.clients host)).clients host ≡ Some (f c).client
unfolding after_client
at-there w host f c is = ap (λ o. slice_get (at_client w host f o).clients host) is ∙ set-there w.clients host (f c).client c is

stepped-there : (w : World) (host : ℕ) (t : ClientStep) (c : Client) → slice_get w.clients host ≡ Some c → slice_get (after_client w host t).clients
    host ≡ Some t.client
unfolding after_client
stepped-there w host t c is = set-there w.clients host t.client c is

pub restart-who : (x : Client) → (restart x).client.who ≡ next_incarnation x.who
unfolding starts fresh_client
restart-who x = refl

restart-idle : (x : Client) → (restart x).client.call ≡ None
unfolding starts fresh_client
restart-idle x = refl

module _ (most : ℕ) (head : Head) (w : World) (ran : List Event) (known : IsKnown most head w ran) where
  called : (host : ℕ) (op : Call) (c : Client) → slice_get w.clients host ≡ Some c → GoesOn w (Event.Call host op) host c
  called host op c is =
      let a = known.holds.clients host c is in
      let still = call-still host c w.packets op a in
      let yes : (host == host) ≡ true = number-same host host refl in
      record {
        after = (client_call c op).client;
        there = at-there w host (λ x. client_call x op) c is;
        who = still.same;
        time = let t = still.time in omega arith;
        calls = subst (λ o. AllKnown c o (client_call c op).client.call) (sym (rw yes refl)) (call-fits c (known.tickets host c is) op).0;
      }

  ticked : (host : ℕ) (c : Client) → slice_get w.clients host ≡ Some c → GoesOn w (Event.ClientTick host) host c
  ticked host c is =
      let a = known.holds.clients host c is in
      let still = tick-still host c w.packets a in
      record {
        after = (client_tick c (c.now + 1)).client;
        there = at-there w host (λ x. client_tick x (x.now + 1)) c is;
        who = still.same;
        time = let t = still.time in omega arith;
        calls = (tick-fits c (known.tickets host c is) (c.now + 1)).0;
      }

  heard : (k host : ℕ) (p : Packet) (c : Client) → slice_get w.clients host ≡ Some c → In w.packets p → p.to ≡ Party.Client host → (o : Option ClientStep)
      → hear c k p.message ≡ o → slice_get (deliver w k (slice_get w.packets k)).clients host ≡ slice_get (after_hearing w host o).clients host
      → GoesOn w (Event.Deliver k) host c
  heard k host p c is there to None e same = record {
    after = c;
    there = same ∙ is;
    who = refl;
    time = omega arith;
    calls = λ u f. inl (u, f, refl);
  }
  heard k host p c is there to (Some t) e same =
      let a = known.holds.clients host c is in
      let told = to-told w.packets p host (known.holds.sent p there) to there in
      let still = subst (λ o. StillIf c o) e (hear-still host c w.packets k p.message told a) in
      record {
        after = t.client;
        there = same ∙ stepped-there w host t c is;
        who = still.same;
        time = let x = still.time in omega arith;
        calls = (hear-fits c (known.tickets host c is) k p.message t a.alone e).0;
      }

  delivered : (k host : ℕ) (c : Client) → slice_get w.clients host ≡ Some c → (o : Option Packet) → slice_get w.packets k ≡ o
      → GoesOn w (Event.Deliver k) host c
  delivered k host c is None e = stays-as w (Event.Deliver k) host c is (λ same. client-no-server host (same ∙ ap receiver_of e))
  delivered k host c is (Some p) e = by p.to refl
    where
      by : (to : Party) → p.to ≡ to → GoesOn w (Event.Deliver k) host c
      by Party.Server f = stays-as w (Event.Deliver k) host c is (λ same. client-no-server host (same ∙ ap receiver_of e ∙ f))
      by (Party.Client h) f = own (h == host) refl
        where
          own : (b : Bool) → (h == host) ≡ b → GoesOn w (Event.Deliver k) host c
          own true g =
              let one : h ≡ host = same-number h host g in
              let to : p.to ≡ Party.Client host = f ∙ ap (λ x. Party.Client x) one in
              heard k host p c is (in-get w.packets k p e) to (hear c k p.message) refl
              (ap (λ o. slice_get (deliver w k o).clients host) e
              ∙ ap (λ x. slice_get (deliver_to w k p x).clients host) to
              ∙ ap (λ o. slice_get (deliver_to_client w k host p.message o).clients host) is)
          own false g =
              stays-as w (Event.Deliver k) host c is
              (λ same. let bad : h ≡ host = sym (client-same host h (same ∙ ap receiver_of e ∙ f)) in let yes = number-same h host bad in absurd (cc))

  -- an event that is no restart of the host
  pub goes-on : (e : Event) (host : ℕ) (c : Client) → slice_get w.clients host ≡ Some c → e ≢ Event.Restart host → GoesOn w e host c
  goes-on (Event.Call h op) host c is other = by (h == host) refl
    where
      by : (b : Bool) → (h == host) ≡ b → GoesOn w (Event.Call h op) host c
      by true g = subst (λ x. GoesOn w (Event.Call x op) host c) (sym (same-number h host g)) (called host op c is)
      by false g = stays-as w (Event.Call h op) host c is
          (λ same. let bad : h ≡ host = sym (client-same host h same) in let yes = number-same h host bad in absurd (cc))
  goes-on (Event.Deliver k) host c is other = delivered k host c is (slice_get w.packets k) refl
  goes-on Event.ServerTick host c is other = stays-as w Event.ServerTick host c is (λ same. client-no-server host same)
  goes-on (Event.ClientTick h) host c is other = by (h == host) refl
    where
      by : (b : Bool) → (h == host) ≡ b → GoesOn w (Event.ClientTick h) host c
      by true g = subst (λ x. GoesOn w (Event.ClientTick x) host c) (sym (same-number h host g)) (ticked host c is)
      by false g = stays-as w (Event.ClientTick h) host c is
          (λ same. let bad : h ≡ host = sym (client-same host h same) in let yes = number-same h host bad in absurd (cc))
  goes-on (Event.Restart h) host c is other = stays-as w (Event.Restart h) host c is
      (λ same. other (ap (λ x. Event.Restart x) (sym (client-same host h same))))
  goes-on (Event.Crash longest) host c is other = stays-as w (Event.Crash longest) host c is (λ same. client-no-server host same)

-- ---- names

-- what becomes of the names that a host keeps
pub data NamesGo (w : World) (e : Event) (sides : List Names) (host : ℕ) (n : Names) : Type 0 where
  forgets : (old : Names) (c : Client) → slice_get sides host ≡ Some old → slice_get w.clients host ≡ Some c → e ≡ Event.Restart host
      → n ≡ new_names (next_incarnation c.who) → NamesGo w e sides host n
  keeps : (old : Names) → slice_get sides host ≡ Some old → KeepsFewer old n → n.next ≡ old.next → e ≢ Event.Restart host
      → ((op : Call) → call_at e host ≡ Some op → n ≡ before_call old op) → NamesGo w e sides host n

module _ (most : ℕ) (head : Head) (w : World) (e : Event) (ran : List Event) (known : IsKnown most head w ran) (served : Served) (sides : List Names)
    (sent : List Outer) (bound : ℕ) (standing later : Served) (inv : Inv w served sides sent ran bound standing) where
  -- so the host goes on, where its claims shift
  pub host-goes : ((host : ℕ) (who : Who) (c d : Client) (prefix : List ℕ) (tag : Tag) (old : Names) → slice_get sides host ≡ Some old → old.who ≡ who
      → IsClaimed old prefix
      → slice_get w.clients host ≡ Some c → slice_get (step w e).clients host ≡ Some d → d.who ≡ c.who → c.who ≡ who → c.now ≤ d.now
      → Shift (ground w standing sent ran) (ground (step w e) later sent (e ∷ ran)) host who c.now d.now prefix tag)
      → (host : ℕ) (n : Names) → NamesGo w e sides host n → HostGoes w (step w e) standing later sides sent ran (e ∷ ran) host n
  host-goes shift host n (forgets old c before there is new) =
      let s = inv.hosts host old before in
      let one : s.client ≡ c = some-same s.client c (sym s.there ∙ there) in
      let who : (restart c).client.who ≡ n.who = restart-who c ∙ ap (λ x. x.who) (sym new) in
      let inc : n.who.inc ≡ c.who.inc + 1 = ap (λ x. x.who.inc) new in
      let own : old.who.inc ≡ c.who.inc = ap (λ x. x.inc) (sym s.same ∙ ap (λ x. x.who) one) in
      anew old (restart c).client before
      (ap (λ x. slice_get (step w x).clients host) is ∙ at-there w host restart c there)
      (ap (λ x. x.lists) new) (ap (λ x. x.asked) new) (ap (λ x. x.next) new) who (omega arith) (restart-idle c)
  host-goes shift host n (keeps old before fewer number other begins) =
      let s = inv.hosts host old before in
      let g = goes-on most head w ran known e host s.client s.there other in
      goes old s.client g.after before s.there g.there fewer number g.who g.time
      (λ prefix tag claimed. shift host n.who s.client g.after prefix tag old before (sym fewer.who) (fewer-claims old n fewer prefix claimed) s.there
      g.there g.who
      (s.same ∙ sym fewer.who) g.time)
      (λ u is. calls s u (g.calls u is))
    where
      calls : (s : IsSide w standing sent ran bound host old) → (u : UnderWay)
          → ((v : UnderWay) × (s.client.call ≡ Some v) × (v.call ≡ u.call)) ⊎ (call_at e host ≡ Some u.call) → IsForgotten n u.call
      calls s u (inl k) = still-forgotten old n u.call fewer (subst (IsForgotten old) k.2 (s.calls k.0 k.1))
      calls s u (inr begun) = subst (λ x. IsForgotten x u.call) (sym (begins u.call begun)) (before-forgets old u.call)

-- ---- the names after each event

pub called-names : (w : World) (sides : List Names) (h : ℕ) (op : Call) (host : ℕ) (n : Names)
    → slice_get (at_side (λ x. before_call x op) sides h (slice_get sides h)) host ≡ Some n → NamesGo w (Event.Call h op) sides host n
called-names w sides h op host n is = by (slice_get sides h) refl is
  where
    plain : slice_get sides host ≡ Some n → ((h == host) ≡ true → ⊥) → NamesGo w (Event.Call h op) sides host n
    plain there apart = keeps n there (record { who = refl; lists = λ l i. i; asked = λ r a. a }) refl (λ e. absurd (cc))
        (λ o e. absurd (none (h == host) refl o e))
      where
        none : (b : Bool) → (h == host) ≡ b → (o : Call) → (if h == host then Some op else None) ≡ Some o → ⊥
        none true g o e = apart g
        none false g o e = let bad : None ≡ Some o = sym (rw g refl) ∙ e in cc

    by : (x : Option Names) → slice_get sides h ≡ x → slice_get (at_side (λ y. before_call y op) sides h x) host ≡ Some n
        → NamesGo w (Event.Call h op) sides host n
    by None e there = plain there (λ g. none-some n (sym e ∙ ap (slice_get sides) (same-number h host g) ∙ there))
    by (Some old) e there = own (h == host) refl
      where
        own : (b : Bool) → (h == host) ≡ b → NamesGo w (Event.Call h op) sides host n
        own true g =
            let one : h ≡ host = same-number h host g in
            let new : n ≡ before_call old op =
            get-set-same sides h (before_call old op) n (ap (slice_get (slice_set sides h (before_call old op))) one ∙ there) in
            keeps old (ap (slice_get sides) (sym one) ∙ e) (subst (KeepsFewer old) (sym new) (before-fewer old op)) (ap (λ x. x.next) new ∙ next op)
            (λ f. absurd (cc))
            (λ o f. let same : Some op ≡ Some o = sym (rw g refl) ∙ f in new ∙ ap (before_call old) (some-same op o same))
          where
            next : (o : Call) → (before_call old o).next ≡ old.next
            next (Call.Create name blocks) = refl
            next (Call.Remove file) = refl
            next other = refl
        own false g =
            let apart : host ≢ h = λ same. (let yes = number-same h host (sym same) in absurd (cc)) in
            plain (sym (get-set-other sides h host (before_call old op) apart) ∙ there) (λ yes. absurd (cc))

pub same-names : (w : World) (sides : List Names) (e : Event) (host : ℕ) (n : Names) → slice_get sides host ≡ Some n → e ≢ Event.Restart host
    → call_at e host ≡ None → NamesGo w e sides host n
same-names w sides e host n is other none =
    keeps n is (record { who = refl; lists = λ l i. i; asked = λ r a. a }) refl other (λ op f. none-some op (sym none ∙ f))
