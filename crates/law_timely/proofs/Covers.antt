-- In a timely network the request of a live host's client, or the reply to it, is under way, once each request was sent again that was lost before.
use Rattle.std.proofs.Common.{◌≡◌, ◌≢◌, ◌≤◌, ◌⊎◌, ℕ, ◌+◌, ◌-◌, ◌==◌, ◌&&◌, not, Bool, true, false, List, [], ◌∷◌, Option, Some, None, refl, sym}
use Rattle.std.proofs.Common.{subst, ap, ◌∙◌, arith, inl, inr}
use Rattle.std.specs.Prelude.{map, slice_get, if◌then◌else◌}
use Rattle.std.proofs.lemmas.Bool.{and_parts, not-true}
use Rattle.nq_base.specs.declared.Call.{Call}
use Rattle.nq_base.specs.declared.Event.{Event}
use Rattle.nq_model.specs.protocol.Client.{Client, ClientStep, Ticket}
use Rattle.nq_model.specs.protocol.ClientStep.{client_call, client_tick}
use Rattle.nq_model.specs.protocol.Lines.{Play, play, delivered}
use Rattle.nq_model.specs.protocol.Message.{Message, Packet, call, reply}
use Rattle.nq_model.specs.protocol.Profile.{patience}
use Rattle.nq_model.specs.protocol.Server.{to_host}
use Rattle.nq_model.specs.protocol.Skew.{is_tick_of, ticks_of}
use Rattle.nq_model.specs.protocol.World.{Head, World, from_host, after_client, after_server, at_client, step, run}
use Rattle.walk_steps.proofs.ClientFacts.{Alone}
use Rattle.walk_steps.proofs.ClientMoves.{some-same, none-some}
use Rattle.walk_steps.proofs.Packets.{In}
use Rattle.walk_steps.proofs.Rows.{same-number, number-same}
use Rattle.walk_steps.proofs.Worlds.{get-set-other, set-there, run-holds}
use Rattle.law_rounds.specs.CalmRoundsAreLawful.{IsLawful}
use Rattle.law_rounds.proofs.ClientTickets.{TicketIs, kept, resent, fresh, LastDrawn, Renewed, call-renews, tick-renews}
use Rattle.law_rounds.proofs.Coming.{in-map, keeps-coming, adds-coming}
use Rattle.law_rounds.proofs.Flows.{Under, asking, told, Covered, small-before, delivered-covers}
use Rattle.law_rounds.proofs.GoingOn.{calls-go-on}
use Rattle.law_rounds.proofs.Lines.{run-lined}
use Rattle.law_rounds.proofs.PacketsCome.{Comes}
use Rattle.law_timely.specs.Timely.{is_dead, goes_on_live_link, is_still}
use Rattle.law_timely.proofs.Parts.{During}

-- ---- steps of clients in a world

pub other-client : (w : World) (host h : ℕ) (f : Client → ClientStep) → host ≢ h → (o : Option Client)
    → slice_get (at_client w h f o).clients host ≡ slice_get w.clients host
unfolding after_client
other-client w host h f apart None = refl
other-client w host h f apart (Some c) = get-set-other w.clients h host (f c).client apart

-- a step of a host's own client, if there is one
pub record OwnStep (w : World) (host : ℕ) (f : Client → ClientStep) (d : Client) : Type 0 where
  pub was : Client
  pub at : slice_get w.clients host ≡ Some was
  pub is : d ≡ (f was).client

pub own-client : (w : World) (host : ℕ) (f : Client → ClientStep) (d : Client) (o : Option Client) → slice_get w.clients host ≡ o
    → slice_get (at_client w host f o).clients host ≡ Some d → OwnStep w host f d
unfolding after_client
own-client w host f d None none there = none-some d (sym none ∙ there)
own-client w host f d (Some c) at there = record {
  was = c;
  at = at;
  is = some-same d (f c).client (sym there ∙ set-there w.clients host (f c).client c at);
}

module _ (most : ℕ) (head : Head) (host : ℕ) where
  alone-at : (p : Play) → IsLawful most head p → (c : Client) → slice_get p.world.clients host ≡ Some c → Alone c
  alone-at p l c at = ((run-holds head p.events).clients host c (subst (λ (u : World). slice_get u.clients host ≡ Some c) l.is_run at)).alone

  pub drawn : (p : Play) → IsLawful most head p → (c : Client) → slice_get p.world.clients host ≡ Some c → LastDrawn c
  drawn p l c at =
      (run-lined most head p.events l.bounds l.within host c (subst (λ (u : World). slice_get u.clients host ≡ Some c) l.is_run at)).drawn

  -- ---- an event that delivers nothing

  under-still : (p : Play) (e : Event) → delivered e p.fresh ≡ p.fresh → (c : Client) (t : Ticket) → Under most head host p c t
      → Under most head host (play p e) c t
  under-still p e none c t (asking x) = asking (keeps-coming p e _ x (subst (λ ns. In ns x.number) (sym none) x.fresh))
  under-still p e none c t (told r x inc counts) = told r (keeps-coming p e _ x (subst (λ ns. In ns x.number) (sym none) x.fresh)) inc counts

  wider : (before due : ℕ) (p : Play) (e : Event) (c : Client) (t : Ticket) → before ≤ due → Under most head host (play p e) c t
      ⊎ (t.last + patience ≤ c.now + before) → Under most head host (play p e) c t ⊎ (t.last + patience ≤ c.now + due)
  wider before due p e c t more (inl under) = inl under
  wider before due p e c t more (inr late) = inr (omega arith)

  others-cover : (before due : ℕ) (p : Play) (e : Event) → before ≤ due → delivered e p.fresh ≡ p.fresh
      → slice_get (step p.world e).clients host ≡ slice_get p.world.clients host → Covered most head host before p → Covered most head host due (play p e)
  others-cover before due p e more none same all c t at has = wider before due p e c t more (by (all c t (sym same ∙ at) has))
    where
      by : Under most head host p c t ⊎ (t.last + patience ≤ c.now + before) → Under most head host (play p e) c t ⊎ (t.last + patience ≤ c.now + before)
      by (inl under) = inl (under-still p e none c t under)
      by (inr late) = inr late

  -- the host's own client made a step
  own-covers : (before due now : ℕ) (p : Play) (e : Event) (c : Client) (u : ClientStep) → delivered e p.fresh ≡ p.fresh
      → slice_get p.world.clients host ≡ Some c → step p.world e ≡ after_client p.world host u → Renewed c now c.ticket u → c.now + before ≤ now + due
      → Covered most head host before p → (t : Ticket) → u.client.ticket ≡ Some t
      → Under most head host (play p e) u.client t ⊎ (t.last + patience ≤ u.client.now + due)
  unfolding after_client
  own-covers before due now p e c u none at to g room all t has = which (g.ticket t has)
    where
      sent : In u.sends (call t.xid t.request) → Under most head host (play p e) u.client t
      sent i = asking (adds-coming p e (from_host host (call t.xid t.request)) (map (from_host host) u.sends) (ap (λ (w : World). w.packets) to)
          (in-map (from_host host) u.sends (call t.xid t.request) i))

      mine : Under most head host (play p e) c t → Under most head host (play p e) u.client t
      mine (asking x) = asking x
      mine (told r x inc counts) = told r x (inc ∙ ap (λ w. w.inc) (sym g.same)) counts

      old : Under most head host p c t ⊎ (t.last + patience ≤ c.now + before) → Under most head host (play p e) u.client t
          ⊎ (t.last + patience ≤ u.client.now + due)
      old (inl under) = inl (mine (under-still p e none c t under))
      old (inr late) = inr (let time = g.time in omega arith)

      which : TicketIs c.ticket c.seq u.sends t → Under most head host (play p e) u.client t ⊎ (t.last + patience ≤ u.client.now + due)
      which (kept was) = old (all c t at was)
      which (resent k was xid of i) = inl (sent i)
      which (fresh i above) = inl (sent i)

  -- a call or a tick of some host's client
  client-covers : (before due : ℕ) (now : Client → ℕ) (p : Play) (e : Event) (h : ℕ) (f : Client → ClientStep) → delivered e p.fresh ≡ p.fresh
      → step p.world e ≡ at_client p.world h f (slice_get p.world.clients h)
      → ((c : Client) → slice_get p.world.clients host ≡ Some c → Renewed c (now c) c.ticket (f c))
      → (host ≢ h → before ≤ due) → ((c : Client) → host ≡ h → c.now + before ≤ now c + due)
      → Covered most head host before p → Covered most head host due (play p e)
  client-covers before due now p e h f none to renews apart_room own_room all = by (host == h) refl
    where
      by : (b : Bool) → (host == h) ≡ b → Covered most head host due (play p e)
      by false differs =
          let apart : host ≢ h = λ same. let yes : (host == h) ≡ true = number-same host h same in absurd (cc) in
          others-cover before due p e (apart_room apart) none (ap (λ (w : World). slice_get w.clients host) to
          ∙ other-client p.world host h f apart (slice_get p.world.clients h)) all
      by true same = λ d t there has.
          let is : host ≡ h = same-number host h same in
          let mine : step p.world e ≡ at_client p.world host f (slice_get p.world.clients host) =
          to ∙ ap (λ n. at_client p.world n f (slice_get p.world.clients n)) (sym is) in
          let o = own-client p.world host f d (slice_get p.world.clients host) refl (ap (λ (w : World). slice_get w.clients host) (sym mine) ∙ there) in
          subst (λ (x : Client). Under most head host (play p e) x t ⊎ (t.last + patience ≤ x.now + due)) (sym o.is)
          (own-covers before due (now o.was) p e o.was (f o.was) none o.at (mine ∙ ap (at_client p.world host f) o.at) (renews o.was o.at)
          (own_room o.was is) all t (ap (λ (x : Client). x.ticket) (sym o.is) ∙ has))

  -- ---- the events of a timely part

  -- when the host's clock has ticked so often and twice more, each request under way was sent since, or is due
  abbrev pub Aged : (ticks : ℕ) → Play → Type 0
  Aged ticks p = Covered most head host ((ticks + 2) - ticks_of host p.events) p

  same-due : (ticks : ℕ) (p : Play) (e : Event) → is_tick_of host e ≡ 0 → (ticks + 2) - ticks_of host p.events ≡ (ticks + 2) - ticks_of host (e ∷ p.events)
  same-due ticks p e none = over (ticks_of host p.events) (ticks_of host (e ∷ p.events)) (is_tick_of host e) none refl
    where
      over : (n m a : ℕ) → a ≡ 0 → m ≡ a + n → (ticks + 2) - n ≡ (ticks + 2) - m
      over n m a zero_ticks sum = omega arith

  own-due : (ticks : ℕ) (p : Play) (h : ℕ) (now : ℕ) → now + ((ticks + 2) - ticks_of host p.events)
      ≤ (now + 1) + ((ticks + 2) - ticks_of host (Event.ClientTick h ∷ p.events))
  own-due ticks p h now = over (ticks_of host p.events) (ticks_of host (Event.ClientTick h ∷ p.events)) (h == host) refl
    where
      over : (n m : ℕ) (b : Bool) → m ≡ (if b then 1 else 0) + n → now + ((ticks + 2) - n) ≤ (now + 1) + ((ticks + 2) - m)
      over n m true sum = omega arith
      over n m false sum = omega arith

  apart-tick : (h : ℕ) → host ≢ h → is_tick_of host (Event.ClientTick h) ≡ 0
  apart-tick h apart = by (h == host) refl (is_tick_of host (Event.ClientTick h)) refl
    where
      by : (b : Bool) → (h == host) ≡ b → (n : ℕ) → n ≡ (if b then 1 else 0) → n ≡ 0
      by true same n is = absurd (apart (sym (same-number h host same)))
      by false differs n is = is

  pub aged-event : (ticks : ℕ) (dead : List ℕ) (p : Play) (e : Event) → During most head dead p e → Aged ticks p → Aged ticks (play p e)
  unfolding after_server
  aged-event ticks dead p (Event.Deliver k) d all =
      subst (λ due. Covered most head host due (play p (Event.Deliver k))) (same-due ticks p (Event.Deliver k) refl)
      (delivered-covers most head host p d.before k ((ticks + 2) - ticks_of host p.events) (small-before p (Event.Deliver k) d.small) all)
  aged-event ticks dead p (Event.Call h op) d all =
      subst (λ due. Covered most head host due (play p (Event.Call h op))) (same-due ticks p (Event.Call h op) refl)
      (client-covers ((ticks + 2) - ticks_of host p.events) ((ticks + 2) - ticks_of host p.events) (λ c. c.now) p (Event.Call h op) h
      (λ c. client_call c op) refl refl
      (λ c at. call-renews c op (alone-at p d.before c at) (drawn p d.before c at))
      (λ apart. omega arith) (λ c same. omega arith) all)
  aged-event ticks dead p (Event.ClientTick h) d all =
      client-covers ((ticks + 2) - ticks_of host p.events) ((ticks + 2) - ticks_of host (Event.ClientTick h ∷ p.events)) (λ c. c.now + 1) p
      (Event.ClientTick h) h (λ c. client_tick c (c.now + 1)) refl refl
      (λ c at. tick-renews c (alone-at p d.before c at) (drawn p d.before c at))
      (λ apart. let same = same-due ticks p (Event.ClientTick h) (apart-tick h apart) in omega arith)
      (λ c same. own-due ticks p h c.now) all
  aged-event ticks dead p Event.ServerTick d all =
      subst (λ due. Covered most head host due (play p Event.ServerTick)) (same-due ticks p Event.ServerTick refl)
      (others-cover ((ticks + 2) - ticks_of host p.events) ((ticks + 2) - ticks_of host p.events) p Event.ServerTick (omega arith) refl refl all)
  aged-event ticks dead p (Event.Restart h) d all = let no : false ≡ true = d.timely in absurd (cc)
  aged-event ticks dead p (Event.Crash longest) d all = let no : false ≡ true = d.timely in absurd (cc)

  -- ---- a still moment

  module _ (dead : List ℕ) (live : is_dead dead host ≡ false) where
    quiet-link : (sent : List Packet) (numbers : List ℕ) → is_still dead sent numbers ≡ true → (k : ℕ) → In numbers k
        → goes_on_live_link dead (slice_get sent k) ≡ false
    quiet-link sent [] still k i = absurd i
    quiet-link sent (j ∷ numbers) still k (inl same) =
        let parts = and_parts (not (goes_on_live_link dead (slice_get sent j))) (is_still dead sent numbers) still in
        subst (λ n. goes_on_live_link dead (slice_get sent n) ≡ false) same (not-true (goes_on_live_link dead (slice_get sent j)) parts.0)
    quiet-link sent (j ∷ numbers) still k (inr i) =
        let parts = and_parts (not (goes_on_live_link dead (slice_get sent j))) (is_still dead sent numbers) still in
        quiet-link sent numbers parts.1 k i

    from-live : (m : Message) → goes_on_live_link dead (Some (from_host host m)) ≡ true
    from-live m = by (is_dead dead host) live
      where
        by : (b : Bool) → b ≡ false → (not b && true) ≡ true
        by false e = refl
        by true e = absurd (cc)

    to-live : (m : Message) → goes_on_live_link dead (Some (to_host host m)) ≡ true
    to-live m = by (is_dead dead host) live
      where
        by : (b : Bool) → b ≡ false → (true && not b) ≡ true
        by false e = refl
        by true e = absurd (cc)

    none-under : (p : Play) → is_still dead p.world.packets p.fresh ≡ true → (q : Packet) → goes_on_live_link dead (Some q) ≡ true → Comes p q → ⊥
    none-under p still q lives x =
        let no = quiet-link p.world.packets p.fresh still x.number x.fresh in
        let yes : goes_on_live_link dead (slice_get p.world.packets x.number) ≡ true = ap (goes_on_live_link dead) x.is ∙ lives in
        absurd (cc)

    pub none-told : (p : Play) → is_still dead p.world.packets p.fresh ≡ true → (m : Message) → Comes p (to_host host m) → ⊥
    none-told p still m x = none-under p still (to_host host m) (to-live m) x

    -- the client of a live host has no request under way then
    pub none-asks : (p : Play) → IsLawful most head p → is_still dead p.world.packets p.fresh ≡ true → Covered most head host 0 p
        → (c : Client) → slice_get p.world.clients host ≡ Some c → c.ticket ≡ None
    none-asks p l still all c at = by c.ticket refl
      where
        there : slice_get (run head p.events).clients host ≡ Some c
        there = subst (λ (u : World). slice_get u.clients host ≡ Some c) l.is_run at

        late : (t : Ticket) → c.ticket ≡ Some t → Under most head host p c t ⊎ (t.last + patience ≤ c.now + 0) → ⊥
        late t has (inl (asking x)) = none-under p still (from_host host (call t.xid t.request)) (from-live (call t.xid t.request)) x
        late t has (inl (told r x inc counts)) = none-told p still (reply t.xid r) x
        late t has (inr due) = let recent = (calls-go-on head p.events host c there).recent t has in omega arith

        by : (o : Option Ticket) → c.ticket ≡ o → c.ticket ≡ None
        by None none = none
        by (Some t) has = absurd (late t has (all c t at has))
