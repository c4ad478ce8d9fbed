-- In every run each reply answers a request that was sent, and is what a reply to that request is to be.
use Rattle.std.proofs.Common.{◌≡◌, ◌⊎◌, ℕ, ◌+◌, List, [], ◌∷◌, ◌++◌, length, Option, Some, None, map, refl, sym, subst, inl, inr}
use Rattle.std.specs.Prelude.{slice_get}
use Rattle.nq_base.specs.declared.Event.{Event}
use Rattle.nq_base.specs.declared.Party.{Party}
use Rattle.nq_base.specs.declared.Reply.{Reply}
use Rattle.nq_base.specs.declared.Request.{Request}
use Rattle.nq_base.specs.declared.Who.{Who}
use Rattle.nq_model.specs.protocol.Client.{Client, ClientStep}
use Rattle.nq_model.specs.protocol.ClientStep.{client_call, client_tick, restart}
use Rattle.nq_model.specs.protocol.Hear.{hear, inc_of}
use Rattle.nq_model.specs.protocol.Message.{Message, Packet, reply, asker, datagram_of, request}
use Rattle.nq_model.specs.protocol.Server.{ServerStep, to_host, quiet}
use Rattle.nq_model.specs.protocol.ServerStep.{receive, tick, crash, opens, ends_writing}
use Rattle.nq_model.specs.protocol.World.{Head, World, from_host, after_server, after_client, at_client, after_hearing, sending_host, deliver_to_client}
use Rattle.nq_model.specs.protocol.World.{deliver_to, deliver, step, start, run}
use Rattle.walk_steps.proofs.Mail.{none-to-host}
use Rattle.walk_steps.proofs.Packets.{In, in-left, in-append, in-get, Asked, Told}
use Rattle.walk_steps.proofs.Worlds.{Holds, to-server, run-holds}
use Rattle.walk_steps.proofs.ServerCases.{server-ticks}
use Rattle.walk_steps.proofs.ReplyTells.{Kind, receive-tells}

-- a reply to a host answers a request that the host sent, and is of this kind
pub record AnswersOne (Is : Reply → Request → Type 0) (ps : List Packet) (host xid : ℕ) (a : Reply) : Type 0 where
  pub asks : Request
  pub who : Who
  pub sent : Asked ps host xid asks
  pub by : asker asks ≡ Some who
  pub inc : inc_of a ≡ who.inc
  pub of : Is a asks

abbrev pub EachAnswers : (Reply → Request → Type 0) → List Packet → Type 0
EachAnswers Is ps = (host xid : ℕ) (a : Reply) → Told ps host (reply xid a) → AnswersOne Is ps host xid a

tick-none : (w : World) (now : ℕ) → (tick w.server now).sends ≡ []
unfolding quiet opens ends_writing
tick-none w now = server-ticks w.server now (λ t. t.sends ≡ []) (record {
  waits = λ until heard last recovers early. refl;
  opening = λ until heard last recovers late. refl;
  ends_reading = λ serves none. refl;
  ending_writing = λ row serves due. refl;
})

crash-none : (w : World) (longest : ℕ) → (crash w.server longest).sends ≡ []
unfolding crash
crash-none w longest = refl

module _ {Is : Reply → Request → Type 0} (kind : Kind Is) where
  more-packets : (ps qs : List Packet) (host xid : ℕ) (a : Reply) → AnswersOne Is ps host xid a → AnswersOne Is (ps ++ qs) host xid a
  more-packets ps qs host xid a k = record { asks = k.asks; who = k.who; sent = in-left ps qs _ k.sent; by = k.by; inc = k.inc; of = k.of }

  -- after packets of the server
  more-told : (ps qs : List Packet) → EachAnswers Is ps → ((host xid : ℕ) (a : Reply) → In qs (to_host host (reply xid a)) → AnswersOne Is ps host xid a)
      → EachAnswers Is (ps ++ qs)
  more-told ps qs each new host xid a i = by (in-append ps qs (to_host host (reply xid a)) i)
    where
      by : In ps (to_host host (reply xid a)) ⊎ In qs (to_host host (reply xid a)) → AnswersOne Is (ps ++ qs) host xid a
      by (inl old) = more-packets ps qs host xid a (each host xid a old)
      by (inr told) = more-packets ps qs host xid a (new host xid a told)

  none-new : (ps qs : List Packet) → qs ≡ [] → (host xid : ℕ) (a : Reply) → In qs (to_host host (reply xid a)) → AnswersOne Is ps host xid a
  none-new ps qs none host xid a i = let bad : In [] (to_host host (reply xid a)) = subst (λ xs. In xs (to_host host (reply xid a))) none i in absurd bad

  -- ---- events

  of-server : (w : World) (t : ServerStep) → EachAnswers Is w.packets
      → ((host xid : ℕ) (a : Reply) → In t.sends (to_host host (reply xid a)) → AnswersOne Is w.packets host xid a) → EachAnswers Is (after_server w t).packets
  unfolding after_server
  of-server w t each new = more-told w.packets t.sends each new

  of-client : (w : World) (host : ℕ) (t : ClientStep) → EachAnswers Is w.packets → EachAnswers Is (after_client w host t).packets
  unfolding after_client
  of-client w host t each =
      more-told w.packets (map (from_host host) t.sends) each (λ other xid a i. absurd (none-to-host host other t.sends (reply xid a) i))

  of-at : (w : World) (host : ℕ) (f : Client → ClientStep) (o : Option Client) → EachAnswers Is w.packets → EachAnswers Is (at_client w host f o).packets
  of-at w host f None each = each
  of-at w host f (Some c) each = of-client w host (f c) each

  of-hearing : (w : World) (host : ℕ) (o : Option ClientStep) → EachAnswers Is w.packets → EachAnswers Is (after_hearing w host o).packets
  of-hearing w host None each = each
  of-hearing w host (Some t) each = of-client w host t each

  of-delivery : (w : World) (k host : ℕ) (m : Message) (o : Option Client) → EachAnswers Is w.packets → EachAnswers Is (deliver_to_client w k host m o).packets
  of-delivery w k host m None each = each
  of-delivery w k host m (Some c) each = of-hearing w host (hear c k m) each

  received : (w : World) (p : Packet) → Holds w → p.to ≡ Party.Server → In w.packets p → (host xid : ℕ) (a : Reply)
      → In (receive w.server (sending_host p.sender) (length w.packets) (datagram_of p.message)).sends (to_host host (reply xid a))
      → AnswersOne Is w.packets host xid a
  received w p h to i host xid a told =
      let d = datagram_of p.message in
      let no_null : (x : ℕ) → d ≡ request x Request.Null → ⊥ = λ x e. let some = (to-server w.packets p (h.sent p i) to i x Request.Null e).1 in absurd (cc) in
      let t = receive-tells kind w.server (sending_host p.sender) (length w.packets) d no_null host xid a told in
      record {
        asks = t.asks;
        who = t.who;
        sent = subst (λ k. Asked w.packets k xid t.asks) (sym t.to) (to-server w.packets p (h.sent p i) to i xid t.asks t.is).0;
        by = t.by;
        inc = t.inc;
        of = t.of;
      }

  of-packet : (w : World) (k : ℕ) (p : Packet) (to : Party) → Holds w → p.to ≡ to → In w.packets p → EachAnswers Is w.packets
      → EachAnswers Is (deliver_to w k p to).packets
  of-packet w k p Party.Server h to i each = of-server w _ each (received w p h to i)
  of-packet w k p (Party.Client host) h to i each = of-delivery w k host p.message (slice_get w.clients host) each

  of-deliver : (w : World) (k : ℕ) (o : Option Packet) → slice_get w.packets k ≡ o → Holds w → EachAnswers Is w.packets
      → EachAnswers Is (deliver w k o).packets
  of-deliver w k None is h each = each
  of-deliver w k (Some p) is h each = of-packet w k p p.to h refl (in-get w.packets k p is) each

  of-event : (w : World) (event : Event) → Holds w → EachAnswers Is w.packets → EachAnswers Is (step w event).packets
  of-event w (Event.Call host op) h each = of-at w host (λ c. client_call c op) (slice_get w.clients host) each
  of-event w (Event.Deliver k) h each = of-deliver w k (slice_get w.packets k) refl h each
  of-event w Event.ServerTick h each =
      of-server w (tick w.server (w.server.now + 1)) each (none-new w.packets _ (tick-none w (w.server.now + 1)))
  of-event w (Event.ClientTick host) h each = of-at w host (λ c. client_tick c (c.now + 1)) (slice_get w.clients host) each
  of-event w (Event.Restart host) h each = of-at w host restart (slice_get w.clients host) each
  of-event w (Event.Crash longest) h each = of-server w (crash w.server longest) each (none-new w.packets _ (crash-none w longest))

  pub each-answers : (head : Head) (events : List Event) → EachAnswers Is (run head events).packets
  unfolding start
  each-answers head [] = λ host xid a i. absurd i
  each-answers head (event ∷ earlier) = of-event (run head earlier) event (run-holds head earlier) (each-answers head earlier)
