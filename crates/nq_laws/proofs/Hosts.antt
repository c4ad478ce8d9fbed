-- What deliveries and ticks leave of the client of one host.
use Rattle.std.proofs.Common.{◌≡◌, ◌≢◌, ◌≤◌, ◌<◌, ℕ, ◌+◌, ◌==◌, Bool, true, false, zero, suc, List, [], ◌∷◌, Option, Some, None, length, refl, sym}
use Rattle.std.proofs.Common.{subst, ◌∙◌, arith}
use Rattle.std.specs.Prelude.{slice_get, slice_set}
use Rattle.nq_base.specs.declared.Event.{Event}
use Rattle.nq_model.specs.protocol.Client.{Client, ClientStep}
use Rattle.nq_model.specs.protocol.ClientStep.{client_tick}
use Rattle.nq_model.specs.protocol.Hear.{hear}
use Rattle.nq_model.specs.protocol.Lines.{Play, play, play_hosts, play_rounds}
use Rattle.nq_model.specs.protocol.Message.{Message}
use Rattle.nq_model.specs.protocol.World.{Head, World, after_client, after_server, at_client, step}
use Rattle.law_rounds.specs.CalmRoundsAreLawful.{IsLawful}
use Rattle.law_rounds.proofs.CalmIsLawful.{played-quiet}
use Rattle.walk_steps.proofs.ClientFacts.{Alone}
use Rattle.walk_steps.proofs.ClientMoves.{none-some}
use Rattle.walk_steps.proofs.Worlds.{Holds, get-set-same, get-set-other, run-holds}
use Rattle.walk_steps.proofs.Rows.{same-number, number-same}
use Rattle.law_rounds.specs.WholeRounds.{play_order}
use Rattle.law_rounds.proofs.Coming.{Delivery, no_packet, at_server, at_host, ignored, no_client, delivery}

-- ---- what each datagram leaves of a client, deliveries leave

module _ (most : ℕ) (head : Head) (host : ℕ) where
  -- so it is with the client of this host
  abbrev pub At : (Client → Type 0) → World → Type 0
  At P w = (c : Client) → slice_get w.clients host ≡ Some c → P c

  -- a step of some host's client
  pub stepped : (P : Client → Type 0) (w : World) (h : ℕ) (c : Client) (t : ClientStep) → slice_get w.clients h ≡ Some c → (P c → P t.client) → At P w
      → At P (after_client w h t)
  unfolding after_client
  stepped P w h c t at goes all d there = case (host == h) refl
    where
      case : (b : Bool) → (host == h) ≡ b → P d
      case true same =
          let one : host ≡ h = same-number host h same in
          let new : d ≡ t.client = get-set-same w.clients h t.client d (subst (λ n. slice_get (slice_set w.clients h t.client) n ≡ Some d) one there) in
          subst P (sym new) (goes (all c (subst (λ n. slice_get w.clients n ≡ Some c) (sym one) at)))
      case false differs =
          let apart : host ≢ h = λ same. let yes : (host == h) ≡ true = number-same host h same in absurd (cc) in
          all d (sym (get-set-other w.clients h host t.client apart) ∙ there)

  -- each datagram that a client hears leaves it so
  abbrev pub Stays : (Client → Type 0) → Type 0
  Stays P = (c : Client) (k : ℕ) (m : Message) (t : ClientStep) → Alone c → hear c k m ≡ Some t → P c → P t.client

  delivered : (P : Client → Type 0) → Stays P → (w : World) → Holds w → (k : ℕ) → At P w → At P (step w (Event.Deliver k))
  unfolding after_server
  delivered P keeps w holds k all = by (delivery w k)
    where
      by : Delivery w k (step w (Event.Deliver k)) → At P (step w (Event.Deliver k))
      by (no_packet none is) = subst (At P) (sym is) all
      by (at_server q sent to is) = subst (At P) (sym is) (λ c at. all c at)
      by (ignored h q c sent to at hears is) = subst (At P) (sym is) all
      by (no_client h q sent to none is) = subst (At P) (sym is) all
      by (at_host h q c t sent to at hears is) = subst (At P) (sym is) (stepped P w h c t at (keeps c k q.message t (holds.clients h c at).alone hears) all)

  pub order-keeps : (P : Client → Type 0) → Stays P → (order : List ℕ) (p : Play) → IsLawful most head p → At P p.world → At P (play_order order p).world
  order-keeps P keeps [] p l all = all
  order-keeps P keeps (k ∷ order) p l all =
      order-keeps P keeps order (play p (Event.Deliver k)) (played-quiet most head p (Event.Deliver k) tt refl l)
      (delivered P keeps p.world (subst (λ u. Holds u) (sym l.is_run) (run-holds head p.events)) k all)

  -- ---- ticks

  other-tick : (P : Client → Type 0) (w : World) (h : ℕ) → host ≢ h → At P w → (o : Option Client) → slice_get w.clients h ≡ o
      → At P (at_client w h (λ c. client_tick c (c.now + 1)) o)
  unfolding after_client
  other-tick P w h apart all None at = all
  other-tick P w h apart all (Some c) at = λ d there. all d (sym (get-set-other w.clients h host (client_tick c (c.now + 1)).client apart) ∙ there)

  own-tick : (P Q : Client → Type 0) → ((c : Client) → P c → Q (client_tick c (c.now + 1)).client) → (w : World) → At P w → (o : Option Client)
      → slice_get w.clients host ≡ o → At Q (at_client w host (λ c. client_tick c (c.now + 1)) o)
  unfolding after_client
  own-tick P Q ticks w all None at = λ d there. none-some d (sym at ∙ there)
  own-tick P Q ticks w all (Some c) at = λ d there. subst Q (sym (get-set-same w.clients host (client_tick c (c.now + 1)).client d there)) (ticks c (all c at))

  hosts-pass : (P : Client → Type 0) (count h : ℕ) (p : Play) → host < h → At P p.world → At P (play_hosts count h p).world
  hosts-pass P zero h p past all = all
  hosts-pass P (suc count) h p past all =
      hosts-pass P count (h + 1) (play p (Event.ClientTick h)) (omega arith)
      (other-tick P p.world h (λ e. omega arith) all (slice_get p.world.clients h) refl)

  hosts-tick : (P Q : Client → Type 0) → ((c : Client) → P c → Q (client_tick c (c.now + 1)).client) → (count h : ℕ) (p : Play) → h ≤ host
      → host < h + count → At P p.world → At Q (play_hosts count h p).world
  hosts-tick P Q ticks zero h p from below all = absurd (omega arith)
  hosts-tick P Q ticks (suc count) h p from below all = by (hosts-tick P Q ticks count (h + 1) (play p (Event.ClientTick h))) (host == h) refl
    where
      by : ((h + 1) ≤ host → host < (h + 1) + count → At P (play p (Event.ClientTick h)).world
          → At Q (play_hosts count (h + 1) (play p (Event.ClientTick h))).world) → (b : Bool) → (host == h) ≡ b → At Q (play_hosts (suc count) h p).world
      by again true same =
          let e : host ≡ h = same-number host h same in
          let first : At Q (play p (Event.ClientTick h)).world = subst (λ n. At Q (play p (Event.ClientTick n)).world) e (own-tick P Q ticks p.world
          all (slice_get p.world.clients host) refl) in
          hosts-pass Q count (h + 1) (play p (Event.ClientTick h)) (omega arith) first
      by again false differs =
          let apart : host ≢ h = λ e. let yes : (host == h) ≡ true = number-same host h e in absurd (cc) in
          again (later apart) (omega arith) (other-tick P p.world h apart all (slice_get p.world.clients h) refl)
        where
          later : host ≢ h → h + 1 ≤ host
          later apart = omega arith

  pub ticked : (P Q : Client → Type 0) → ((c : Client) → P c → Q (client_tick c (c.now + 1)).client) → (p : Play) → host < length p.world.clients
      → At P p.world → At Q (play_rounds 1 p).world
  unfolding after_server
  ticked P Q ticks p below all = hosts-tick P Q ticks (length p.world.clients) 0 p (omega arith) (omega arith) all
