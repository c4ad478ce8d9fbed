-- What lies behind the last call of a run in which all came in time: some whole rounds, and then deliveries, in which links kept their order.
use Rattle.std.proofs.Common.{◌≡◌, ◌≤◌, ℕ, ◌+◌, ◌++◌, true, false, suc, List, [], ◌∷◌, Option, Some, None, length, refl, sym, subst, ap, ◌∙◌, arith}
use Rattle.std.specs.Prelude.{slice_get}
use Rattle.std.proofs.lemmas.List.{length-append}
use Rattle.nq_base.specs.declared.Call.{Call}
use Rattle.nq_base.specs.declared.Event.{Event}
use Rattle.nq_model.specs.protocol.Client.{Client}
use Rattle.nq_model.specs.protocol.ClientStep.{client_call}
use Rattle.nq_model.specs.protocol.Lines.{Play, play, play_rounds}
use Rattle.nq_model.specs.protocol.Server.{Server}
use Rattle.nq_model.specs.protocol.World.{Head, World, after_client, at_client, step}
use Rattle.law_rounds.proofs.ClientCount.{client-count}
use Rattle.law_rounds.specs.CalmRoundsAreLawful.{IsLawful}
use Rattle.law_rounds.specs.QuietDeliveries.{recovers}
use Rattle.law_rounds.proofs.CalmEnds.{IsRising, played-rising}
use Rattle.law_rounds.proofs.CalmIsLawful.{played-quiet}
use Rattle.law_rounds.specs.RoundsEndQuiet.{IsSmall}
use Rattle.law_rounds.specs.WholeRounds.{is_next, play_order, IsInOrder, whole_round, whole_rounds, AreWhole, LinksKeepOrder}
use Rattle.law_rounds.proofs.Flows.{order-small}
use Rattle.law_rounds.proofs.Orders.{order-lawful, wholes-lawful, order-rising, wholes-rising, rounds-append}
use Rattle.law_rounds.proofs.RecoveryRounds.{order-phase, serving-rounds}
use Rattle.nq_laws.specs.WholeCallsAnswered.{served_rounds_for, one_if_open, open_calls}
use Rattle.nq_laws.proofs.AllAnswered.{served-from}
use Rattle.nq_laws.proofs.Counts.{order-less, at-most-all}
use Rattle.nq_loop.specs.InTime.{played}

-- ---- one more

order-last : (order : List ℕ) (k : ℕ) (p : Play) → play_order (order ++ k ∷ []) p ≡ play (play_order order p) (Event.Deliver k)
order-last [] k p = refl
order-last (j ∷ order) k p = order-last order k (play p (Event.Deliver j))

in-order-last : (order : List ℕ) (k : ℕ) (p : Play) → IsInOrder order p
    → is_next (play_order order p).world.packets (play_order order p).fresh k ≡ true → IsInOrder (order ++ k ∷ []) p
in-order-last [] k p so next = (next, tt)
in-order-last (j ∷ order) k p so next = (so.0, in-order-last order k (play p (Event.Deliver j)) so.1 next)

whole-last : (orders : List (List ℕ)) (order : List ℕ) (p : Play) → AreWhole orders p → (play_order order (whole_rounds orders p)).fresh ≡ []
    → AreWhole (orders ++ order ∷ []) p
whole-last [] order p whole none = (none, tt)
whole-last (first ∷ orders) order p whole none = (whole.0, whole-last orders order (whole_round first p) whole.1 none)

links-last : (orders : List (List ℕ)) (order : List ℕ) (p : Play) → LinksKeepOrder orders p → IsInOrder order (whole_rounds orders p)
    → LinksKeepOrder (orders ++ order ∷ []) p
links-last [] order p links so = (so, tt)
links-last (first ∷ orders) order p links so = (links.0, links-last orders order (whole_round first p) links.1 so)

pub round-last : (order : List ℕ) (p : Play) → play_rounds 1 (play_order order p) ≡ whole_round order p
unfolding whole_round
round-last order p = refl

-- ---- calls

all-none : (clients : List Client) → ((h : ℕ) (c : Client) → slice_get clients h ≡ Some c → c.call ≡ None) → open_calls clients ≡ 0
all-none [] none = refl
all-none (c ∷ clients) none =
    let first : one_if_open c.call ≡ 0 = ap one_if_open (none 0 c refl) in
    let rest = all-none clients (λ h d at. none (suc h) d at) in
    omega arith

pub call-server : (w : World) (host : ℕ) (op : Call) → (step w (Event.Call host op)).server ≡ w.server
unfolding after_client
call-server w host op = by (slice_get w.clients host)
  where
    by : (o : Option Client) → (at_client w host (λ c. client_call c op) o).server ≡ w.server
    by None = refl
    by (Some c) = refl

-- ---- windows

module _ (most : ℕ) (head : Head) where
  pub record Window (events : List Event) (n : ℕ) : Type 0 where
    pub base : Play
    pub lawful : IsLawful most head base
    pub rising : IsRising base
    pub serves : recovers base.world.server.phase ≡ false
    pub orders : List (List ℕ)
    pub rest : List ℕ
    pub is : played head events ≡ play_order rest (whole_rounds orders base)
    pub whole : AreWhole orders base
    pub links : LinksKeepOrder orders base
    pub in_order : IsInOrder rest (whole_rounds orders base)
    pub count : length orders ≡ n

  module _ (events : List Event) (n : ℕ) (w : Window events n) where
    pub lawful-now : IsLawful most head (played head events)
    lawful-now = subst (λ (q : Play). IsLawful most head q) (sym w.is)
        (order-lawful most head w.rest (whole_rounds w.orders w.base) (wholes-lawful most head w.orders w.base w.lawful))

    rising-now : IsRising (played head events)
    rising-now = subst (λ (q : Play). IsRising q) (sym w.is) (order-rising w.rest (whole_rounds w.orders w.base) (wholes-rising w.orders w.base w.rising))

    serves-now : recovers (played head events).world.server.phase ≡ false
    serves-now = ap (λ (q : Play). recovers q.world.server.phase) w.is ∙ order-phase w.rest (whole_rounds w.orders w.base)
        ∙ serving-rounds w.orders w.base w.serves

    -- a packet is delivered as the next of its link
    pub window-delivers : (k : ℕ) → is_next (played head events).world.packets (played head events).fresh k ≡ true → Window (Event.Deliver k ∷ events) n
    window-delivers k next = record {
      base = w.base;
      lawful = w.lawful;
      rising = w.rising;
      serves = w.serves;
      orders = w.orders;
      rest = w.rest ++ k ∷ [];
      is = ap (λ (q : Play). play q (Event.Deliver k)) w.is ∙ sym (order-last w.rest k (whole_rounds w.orders w.base));
      whole = w.whole;
      links = w.links;
      in_order = in-order-last w.rest k (whole_rounds w.orders w.base) w.in_order
          (subst (λ (q : Play). is_next q.world.packets q.fresh k ≡ true) w.is next);
      count = w.count;
    }

    -- the clocks tick, where nothing is under way
    pub window-ticks : (later : List Event) → (played head events).fresh ≡ [] → played head later ≡ play_rounds 1 (played head events) → Window later (n + 1)
    window-ticks later none ticked = record {
      base = w.base;
      lawful = w.lawful;
      rising = w.rising;
      serves = w.serves;
      orders = w.orders ++ w.rest ∷ [];
      rest = [];
      is = ticked ∙ ap (λ (q : Play). play_rounds 1 q) w.is ∙ round-last w.rest (whole_rounds w.orders w.base)
          ∙ sym (rounds-append w.orders (w.rest ∷ []) w.base);
      whole = whole-last w.orders w.rest w.base w.whole (ap (λ (q : Play). q.fresh) (sym w.is) ∙ none);
      links = links-last w.orders w.rest w.base w.links w.in_order;
      in_order = tt;
      count = let many = w.count in let sum = length-append w.orders (w.rest ∷ []) in omega arith;
    }

    -- a call begins
    pub window-calls : (host : ℕ) (op : Call) → Window (Event.Call host op ∷ events) 0
    window-calls host op = record {
      base = play (played head events) (Event.Call host op);
      lawful = played-quiet most head (played head events) (Event.Call host op) tt refl lawful-now;
      rising = played-rising (played head events) (Event.Call host op) rising-now;
      serves = ap (λ (s : Server). recovers s.phase) (call-server (played head events).world host op) ∙ serves-now;
      orders = [];
      rest = [];
      is = refl;
      whole = tt;
      links = tt;
      in_order = tt;
      count = refl;
    }

    -- no call is open any more after so many rounds
    pub none-open-now : served_rounds_for head.hosts ≤ n → IsSmall (played head events) → open_calls (played head events).world.clients ≡ 0
    none-open-now enough small =
        let start = whole_rounds w.orders w.base in
        let fits : IsSmall (whole_rounds w.orders w.base) = order-small w.rest start (subst (λ (q : Play). IsSmall q) w.is small) in
        let many : length w.base.world.clients ≡ head.hosts = ap (λ (u : World). length u.clients) w.lawful.is_run ∙ client-count head w.base.events in
        let few = at-most-all w.base.world.clients in
        let count = w.count in
        let none : open_calls start.world.clients ≡ 0 = all-none start.world.clients (λ h c at.
        (served-from most head w.base w.lawful w.rising w.orders w.whole w.links fits h c at w.serves (omega arith)).answered) in
        let later = order-less most head w.rest start (wholes-lawful most head w.orders w.base w.lawful) in
        let same : open_calls (played head events).world.clients ≡ open_calls (play_order w.rest start).world.clients = ap
        (λ (q : Play). open_calls q.world.clients) w.is in
        omega arith
