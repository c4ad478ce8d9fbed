-- What an event of a timely part does to the client of one host.
use Rattle.std.proofs.Common.{◌≡◌, ◌≢◌, ◌≤◌, ℕ, ◌+◌, ◌==◌, Bool, true, false, List, Some, length, refl, sym, subst, ap, ◌∙◌, arith}
use Rattle.std.specs.Prelude.{slice_get}
use Rattle.nq_base.specs.declared.Call.{Call}
use Rattle.nq_base.specs.declared.Event.{Event}
use Rattle.nq_base.specs.declared.Party.{Party}
use Rattle.nq_base.specs.declared.Who.{Who}
use Rattle.nq_model.proofs.Lists.{exists-right}
use Rattle.nq_model.specs.protocol.Client.{Client, ClientStep, UnderWay}
use Rattle.nq_model.specs.protocol.ClientStep.{begins_call, is_called, says_busy, client_call, client_tick, at_time}
use Rattle.nq_model.specs.protocol.Hear.{hear}
use Rattle.nq_model.specs.laws.Journal.{Exists, IsCall}
use Rattle.nq_model.specs.protocol.Lines.{Play}
use Rattle.nq_model.specs.protocol.Message.{Packet, datagram_of}
use Rattle.nq_model.specs.protocol.Send.{send_next}
use Rattle.nq_model.specs.protocol.Server.{to_host}
use Rattle.nq_model.specs.protocol.Settle.{answers, settle}
use Rattle.nq_model.specs.protocol.ServerStep.{receive}
use Rattle.nq_model.specs.protocol.World.{Head, World, after_client, after_server, at_client, sending_host, step, run}
use Rattle.law_runs.proofs.RunCalls.{calls-known}
use Rattle.walk_files.proofs.CallFacts.{called-below}
use Rattle.walk_steps.proofs.ClientMoves.{some-same, none-some}
use Rattle.walk_steps.proofs.Packets.{in-get, Told}
use Rattle.walk_steps.proofs.Rows.{same-number, number-same}
use Rattle.walk_steps.proofs.StepCases.{call-cases, unless-cached-cases}
use Rattle.walk_steps.proofs.Steps.{Changes, nothing, by_client, by_server}
use Rattle.walk_steps.proofs.Worlds.{IsAt, Holds, IsSent, by_host, get-set-other, set-there, run-holds, to-told}
use Rattle.law_rounds.specs.CalmRoundsAreLawful.{IsLawful}
use Rattle.law_rounds.proofs.Coming.{Delivery, no_packet, at_server, at_host, ignored, no_client, delivery}
use Rattle.law_rounds.proofs.Calling.{StillOpen, Keeps, settles, sends, hear-keeps, tick-keeps}
use Rattle.law_timely.proofs.Covers.{other-client, own-client}
use Rattle.law_rounds.proofs.TicketNumbers.{call-numbers, tick-numbers, hear-numbers}
use Rattle.law_timely.proofs.Parts.{During}

-- ---- a call

-- a call beside an open one changes nothing of it
pub record IsBeside (c : Client) (u : UnderWay) (t : ClientStep) : Type 0 where
  pub was : c.call ≡ Some u
  pub ticket : t.client.ticket ≡ c.ticket
  pub pause : t.client.pause ≡ c.pause

pub call-beside : (c : Client) (op : Call) (q : ℕ) → q ≤ c.calls → (u : UnderWay) → (client_call c op).client.call ≡ Some u → u.q ≡ q
    → IsBeside c u (client_call c op)
unfolding begins_call is_called says_busy answers
call-beside c op q below = call-cases c op (λ (t : ClientStep). (u : UnderWay) → t.client.call ≡ Some u → u.q ≡ q → IsBeside c u t) (record {
  busy = λ why u is number. record { was = is; ticket = refl; pause = refl };
  telling = λ file loss losses free on changes of u is number. none-some u is;
  going = λ free on no_losses. unless-cached-cases (settle (is_called (begins_call c op) op))
      (λ (t : ClientStep). (u : UnderWay) → t.client.call ≡ Some u → u.q ≡ q → IsBeside c u t)
      (λ cached. opened (settle (is_called (begins_call c op) op)) settled)
      (λ other. opened (send_next false (settle (is_called (begins_call c op) op))) (sends ⊥ (is_called (begins_call c op) op).client false
      (settle (is_called (begins_call c op) op)) settled));
})
  where
    settled : Keeps ⊥ (is_called (begins_call c op) op).client (settle (is_called (begins_call c op) op))
    settled = settles ⊥ (is_called (begins_call c op) op).client (is_called (begins_call c op) op) (record {
      calls = λ u is. (u, is, refl, refl);
      now = refl;
      pause = λ no. absurd no;
    })

    opened : (t : ClientStep) → Keeps ⊥ (is_called (begins_call c op) op).client t → (u : UnderWay) → t.client.call ≡ Some u → u.q ≡ q → IsBeside c u t
    opened t k u is number =
        let v = k.calls u is in
        let new : c.calls + 1 ≡ v.0.q = ap (λ (x : UnderWay). x.q) (some-same _ v.0 v.1) in
        let same = v.3 in
        absurd (omega arith)

module _ (most : ℕ) (head : Head) (host : ℕ) where
  -- how the client of the host came to be this one
  pub data Moves (p : Play) (e : Event) (d : Client) : Type 0 where
    stays : slice_get p.world.clients host ≡ Some d → Moves p e d
    called : (c : Client) (op : Call) → e ≡ Event.Call host op → slice_get p.world.clients host ≡ Some c → d ≡ (client_call c op).client → Moves p e d
    ticked : (c : Client) → e ≡ Event.ClientTick host → slice_get p.world.clients host ≡ Some c → d ≡ (client_tick c (c.now + 1)).client
        → step p.world e ≡ after_client p.world host (client_tick c (c.now + 1)) → Moves p e d
    heard : (c : Client) (k : ℕ) (z : Packet) (t : ClientStep) → e ≡ Event.Deliver k → slice_get p.world.packets k ≡ Some z → z.to ≡ Party.Client host
        → slice_get p.world.clients host ≡ Some c → hear c k z.message ≡ Some t → d ≡ t.client → step p.world e ≡ after_client p.world host t
        → Moves p e d

  there-after : (w : World) (c d : Client) (t : ClientStep) → slice_get w.clients host ≡ Some c → slice_get (after_client w host t).clients host ≡ Some d
      → d ≡ t.client
  unfolding after_client
  there-after w c d t at there = some-same d t.client (sym there ∙ set-there w.clients host t.client c at)

  others-stay : (w : World) (n : ℕ) (u : ClientStep) → host ≢ n → slice_get (after_client w n u).clients host ≡ slice_get w.clients host
  unfolding after_client
  others-stay w n u apart = get-set-other w.clients n host u.client apart

  apart-from : (h : ℕ) → (host == h) ≡ false → host ≢ h
  apart-from h differs same = let yes : (host == h) ≡ true = number-same host h same in absurd (cc)

  calls-move : (p : Play) (h : ℕ) (op : Call) (d : Client) → slice_get (step p.world (Event.Call h op)).clients host ≡ Some d → Moves p (Event.Call h op) d
  calls-move p h op d there = by (host == h) refl
    where
      by : (b : Bool) → (host == h) ≡ b → Moves p (Event.Call h op) d
      by false differs = stays (sym (other-client p.world host h (λ c. client_call c op) (apart-from h differs) (slice_get p.world.clients h)) ∙ there)
      by true same =
          let is : h ≡ host = sym (same-number host h same) in
          let o = own-client p.world host (λ c. client_call c op) d (slice_get p.world.clients host) refl
          (subst (λ n. slice_get (step p.world (Event.Call n op)).clients host ≡ Some d) is there) in
          called o.was op (ap (λ n. Event.Call n op) is) o.at o.is

  ticks-move : (p : Play) (h : ℕ) (d : Client) → slice_get (step p.world (Event.ClientTick h)).clients host ≡ Some d → Moves p (Event.ClientTick h) d
  ticks-move p h d there = by (host == h) refl
    where
      by : (b : Bool) → (host == h) ≡ b → Moves p (Event.ClientTick h) d
      by false differs = stays (sym (other-client p.world host h (λ c. client_tick c (c.now + 1)) (apart-from h differs) (slice_get p.world.clients h))
          ∙ there)
      by true same =
          let is : h ≡ host = sym (same-number host h same) in
          let o = own-client p.world host (λ c. client_tick c (c.now + 1)) d (slice_get p.world.clients host) refl
          (subst (λ n. slice_get (step p.world (Event.ClientTick n)).clients host ≡ Some d) is there) in
          ticked o.was (ap Event.ClientTick is) o.at o.is (ap (λ n. step p.world (Event.ClientTick n)) is
          ∙ ap (at_client p.world host (λ c. client_tick c (c.now + 1))) o.at)

  delivers-move : (p : Play) (k : ℕ) (d : Client) → slice_get (step p.world (Event.Deliver k)).clients host ≡ Some d → Moves p (Event.Deliver k) d
  unfolding after_server
  delivers-move p k d there = by (delivery p.world k)
    where
      same : (v : World) → step p.world (Event.Deliver k) ≡ v → slice_get v.clients host ≡ slice_get p.world.clients host → Moves p (Event.Deliver k) d
      same v is clients = stays (sym clients ∙ ap (λ (w : World). slice_get w.clients host) (sym is) ∙ there)

      by : Delivery p.world k (step p.world (Event.Deliver k)) → Moves p (Event.Deliver k) d
      by (no_packet missing is) = same p.world is refl
      by (ignored h z c sent to at hears is) = same p.world is refl
      by (no_client h z sent to missing is) = same p.world is refl
      by (at_server z sent to is) = same (after_server p.world (receive p.world.server (sending_host z.sender) (length p.world.packets)
          (datagram_of z.message))) is refl
      by (at_host h z c t sent to at hears is) = whose (host == h) refl
        where
          whose : (b : Bool) → (host == h) ≡ b → Moves p (Event.Deliver k) d
          whose false differs = same (after_client p.world h t) is (others-stay p.world h t (apart-from h differs))
          whose true same_host =
              let e : h ≡ host = sym (same-number host h same_host) in
              let own : slice_get p.world.clients host ≡ Some c = subst (λ n. slice_get p.world.clients n ≡ Some c) e at in
              let to_own : step p.world (Event.Deliver k) ≡ after_client p.world host t = is ∙ ap (λ n. after_client p.world n t) e in
              heard c k z t refl sent (to ∙ ap Party.Client e) own hears (there-after p.world c d t own
              (ap (λ (w : World). slice_get w.clients host) (sym to_own) ∙ there)) to_own

  pub moves : (dead : List ℕ) (p : Play) (e : Event) → During most head dead p e → (d : Client) → slice_get (step p.world e).clients host ≡ Some d
      → Moves p e d
  unfolding after_server
  moves dead p (Event.Call h op) during d there = calls-move p h op d there
  moves dead p (Event.Deliver k) during d there = delivers-move p k d there
  moves dead p Event.ServerTick during d there = stays there
  moves dead p (Event.ClientTick h) during d there = ticks-move p h d there
  moves dead p (Event.Restart h) during d there = let no : false ≡ true = during.timely in absurd (cc)
  moves dead p (Event.Crash longest) during d there = let no : false ≡ true = during.timely in absurd (cc)

  -- ---- what stays of the client

  holds-at : (p : Play) → IsLawful most head p → Holds p.world
  holds-at p l = subst (λ u. Holds u) (sym l.is_run) (run-holds head p.events)

  pub is-at : (p : Play) → IsLawful most head p → (c : Client) → slice_get p.world.clients host ≡ Some c → IsAt host c p.world.packets
  is-at p l c at = (holds-at p l).clients host c at

  pub mail-at : (p : Play) → IsLawful most head p → (k : ℕ) (z : Packet) → slice_get p.world.packets k ≡ Some z → z.to ≡ Party.Client host
      → Told p.world.packets host z.message
  mail-at p l k z sent to = let i = in-get p.world.packets k z sent in to-told p.world.packets z host ((holds-at p l).sent z i) to i

  pub told-packet : (p : Play) → IsLawful most head p → (k : ℕ) (z : Packet) → slice_get p.world.packets k ≡ Some z → z.to ≡ Party.Client host
      → z ≡ to_host host z.message
  told-packet p l k z sent to = by ((holds-at p l).sent z (in-get p.world.packets k z sent))
    where
      client-same : (a b : ℕ) → Party.Client a ≡ Party.Client b → a ≡ b
      client-same a b e = cc

      by : IsSent z → z ≡ to_host host z.message
      by (by_host h x s w e asks) = let two : Party.Server ≡ Party.Client host = ap (λ (q : Packet). q.to) (sym e) ∙ to in absurd (cc)
      by (IsSent.by_server h m e) =
          let same : h ≡ host = client-same h host (ap (λ (q : Packet). q.to) (sym e) ∙ to) in
          e ∙ ap (to_host h) (ap (λ (q : Packet). q.message) (sym e)) ∙ ap (λ n. to_host n z.message) same

  pub same-who : (dead : List ℕ) (p : Play) (e : Event) → During most head dead p e → (who : Who)
      → ((c : Client) → slice_get p.world.clients host ≡ Some c → c.who ≡ who) → (d : Client) → slice_get (step p.world e).clients host ≡ Some d → d.who ≡ who
  same-who dead p e during who all d there = by (moves dead p e during d there)
    where
      by : Moves p e d → d.who ≡ who
      by (stays at) = all d at
      by (called c op is at new) = ap (λ (x : Client). x.who) new ∙ (call-numbers c op (is-at p during.before c at).alone).same ∙ all c at
      by (ticked c is at new to) = ap (λ (x : Client). x.who) new ∙ (tick-numbers c (is-at p during.before c at).alone).same ∙ all c at
      by (heard c k z t is sent to at hears new leads) = ap (λ (x : Client). x.who) new
          ∙ (hear-numbers host c p.world.packets k z.message t (is-at p during.before c at) (mail-at p during.before k z sent to) hears).same ∙ all c at

  -- ---- the call

  -- the C of a call stands in the journal
  pub call-stays : (who : Who) (q : ℕ) (w v : World) → Changes w v → Exists (IsCall who q) w.journal → Exists (IsCall who q) v.journal
  unfolding after_client after_server
  call-stays who q w v (nothing is) some = subst (λ (u : World). Exists (IsCall who q) u.journal) (sym is) some
  call-stays who q w v (by_client h c t at acts to) some = subst (λ (u : World). Exists (IsCall who q) u.journal) (sym to)
      (exists-right (IsCall who q) t.entries w.journal some)
  call-stays who q w v (by_server t acts to) some = subst (λ (u : World). Exists (IsCall who q) u.journal) (sym to)
      (exists-right (IsCall who q) t.entries w.journal some)

  pub number-below : (p : Play) → IsLawful most head p → (who : Who) (q : ℕ) → Exists (IsCall who q) p.world.journal → (c : Client)
      → slice_get p.world.clients host ≡ Some c → c.who ≡ who → q ≤ c.calls
  number-below p l who q some c at mine =
      let there : slice_get (run head p.events).clients host ≡ Some c = subst (λ (u : World). slice_get u.clients host ≡ Some c) l.is_run at in
      let fit = ((calls-known most head p.events l.bounds l.within).clients host c there).calls_fit in
      called-below c.who c.calls c.number c.call (run head p.events).journal fit q
      (subst (λ (u : World). Exists (IsCall c.who q) u.journal) l.is_run (subst (λ w. Exists (IsCall w q) p.world.journal) (sym mine) some))

  -- the call was open before
  pub record WasOpen (p : Play) (q : ℕ) (u : UnderWay) : Type 0 where
    pub client : Client
    pub call : UnderWay
    pub at : slice_get p.world.clients host ≡ Some client
    pub is_open : client.call ≡ Some call
    pub number : call.q ≡ q
    pub same : u.call ≡ call.call

  pub was-open : (dead : List ℕ) (p : Play) (e : Event) → During most head dead p e → (who : Who) (q : ℕ) → Exists (IsCall who q) p.world.journal
      → ((c : Client) → slice_get p.world.clients host ≡ Some c → c.who ≡ who) → (d : Client) → slice_get (step p.world e).clients host ≡ Some d
      → (u : UnderWay) → d.call ≡ Some u → u.q ≡ q → WasOpen p q u
  unfolding at_time
  was-open dead p e during who q some all d there u is number = by (moves dead p e during d there)
    where
      still : (c : Client) (t : ClientStep) → slice_get p.world.clients host ≡ Some c → d ≡ t.client → StillOpen c.call t.client.call → WasOpen p q u
      still c t at new goes =
          let v = goes u (ap (λ (x : Client). x.call) (sym new) ∙ is) in
          record { client = c; call = v.0; at = at; is_open = v.1; number = sym v.3 ∙ number; same = v.2 }

      by : Moves p e d → WasOpen p q u
      by (stays at) = record { client = d; call = u; at = at; is_open = is; number = number; same = refl }
      by (called c op e_is at new) =
          let b = call-beside c op q (number-below p during.before who q some c at (all c at)) u (ap (λ (x : Client). x.call) (sym new) ∙ is) number in
          record { client = c; call = u; at = at; is_open = b.was; number = number; same = refl }
      by (ticked c e_is at new to) = still c (client_tick c (c.now + 1)) at new (tick-keeps c).calls
      by (heard c k z t e_is sent to at hears new leads) =
          still c t at new (hear-keeps ⊥ c k z.message t (is-at p during.before c at).alone hears (λ no. absurd no)).calls
