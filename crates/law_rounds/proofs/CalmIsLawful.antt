-- Deliveries and rounds of ticks lead from a lawful play to a lawful one.
use Rattle.std.proofs.Common.{◌≡◌, ◌<◌, ◌≤◌, ℕ, ◌+◌, ◌==◌, Bool, true, false, zero, suc, List, [], ◌∷◌, length, refl, sym, subst, ap, ◌∙◌, arith}
use Rattle.std.proofs.lemmas.Bool.Decides.{nat_tests}
use Rattle.nq_base.specs.declared.Event.{Event}
use Rattle.nq_model.specs.laws.Bounds.{KeepsBounds, BootsWithin}
use Rattle.nq_model.specs.protocol.Lines.{Play, play, play_flow, flow_first, play_hosts, play_rounds}
use Rattle.nq_model.specs.protocol.Skew.{is_server_tick, IsWithinSkew}
use Rattle.nq_model.specs.protocol.World.{Head, step}
use Rattle.walk_steps.proofs.NoCrash.{one-first}
use Rattle.walk_steps.proofs.Rows.{same-number}
use Rattle.law_rounds.specs.CalmRound.{calm_round, calm_rounds}
use Rattle.law_rounds.specs.DeliveryEnds.{calmed, enough_deliveries}
use Rattle.law_rounds.specs.CalmRoundsAreLawful.{IsLawful, CalmRoundsAreLawful}
use Rattle.law_rounds.proofs.ClientCount.{client-count}
use Rattle.law_rounds.proofs.Skewed.{MayTick, quiet-within, own-may, later-may, ticked-within}

module _ (most : ℕ) (head : Head) where
  bounds-after : (e : Event) (events : List Event) → BootsWithin most e → KeepsBounds most head events → KeepsBounds most head (e ∷ events)
  bounds-after e events boots b = record {
    hosts = b.hosts;
    first_long = b.first_long;
    first_short = b.first_short;
    boots = one-first most e events
        boots b.boots;
  }

  played : (p : Play) (e : Event) → BootsWithin most e → IsLawful most head p → IsWithinSkew head.hosts most (e ∷ p.events) → IsLawful most head (play p e)
  played p e boots l within = record {
    is_run = ap (λ w. step w e) l.is_run;
    bounds = bounds-after e p.events boots l.bounds;
    within = within;
  }

  -- an event that is no boot and no tick of the server's clock
  pub played-quiet : (p : Play) (e : Event) → BootsWithin most e → is_server_tick e ≡ 0 → IsLawful most head p → IsLawful most head (play p e)
  played-quiet p e boots quiet l = played p e boots l (quiet-within head.hosts most e p.events quiet l.within)

  first-flows : (fresh : List ℕ) (p : Play) → IsLawful most head p → IsLawful most head (flow_first fresh p)
  first-flows [] p l = l
  first-flows (k ∷ fresh) p l = played-quiet p (Event.Deliver k) tt refl l

  pub flows : (fuel : ℕ) (p : Play) → IsLawful most head p → IsLawful most head (play_flow fuel p)
  flows zero p l = l
  flows (suc fuel) p l = flows fuel (flow_first p.fresh p) (first-flows p.fresh p l)

  -- the clocks of hosts tick: after that the server's clock may, for all that these hosts' clocks told
  record Ticked (upto : ℕ) (p : Play) : Type 0 where
    lawful : IsLawful most head p
    may : (host : ℕ) → host < upto → MayTick most host p.events

  lower : (host h : ℕ) → (h == host) ≡ false → h < host + 1 → h < host
  lower host h differs below = grind (arith, nat_tests)

  ticked-one : (host : ℕ) (p : Play) → host < head.hosts → Ticked host p → Ticked (host + 1) (play p (Event.ClientTick host))
  ticked-one host p there t = record { lawful = played-quiet p (Event.ClientTick host) tt refl t.lawful; may = λ h below. by h below (h == host) refl }
    where
      by : (h : ℕ) → h < host + 1 → (b : Bool) → (h == host) ≡ b → MayTick most h (Event.ClientTick host ∷ p.events)
      by h below false differs = later-may most h (Event.ClientTick host) p.events refl (t.may h (lower host h differs below))
      by h below true same = subst (λ n. MayTick most n (Event.ClientTick host ∷ p.events)) (sym (same-number h host same))
          (own-may head.hosts most host p.events t.lawful.within there)

  ticked-hosts : (count host upto : ℕ) (p : Play) → host + count ≡ upto → upto ≤ head.hosts → Ticked host p → Ticked upto (play_hosts count host p)
  ticked-hosts zero host upto p sum few t = let same : host ≡ upto = omega arith in subst (λ n. Ticked n p) same t
  ticked-hosts (suc count) host upto p sum few t = ticked-hosts count (host + 1) upto (play p (Event.ClientTick host)) (omega arith) few
      (ticked-one host p (omega arith) t)

  pub round : (p : Play) → IsLawful most head p → IsLawful most head (play_rounds 1 p)
  round p l =
      let all : length p.world.clients ≡ head.hosts = ap (λ w. length w.clients) l.is_run ∙ client-count head p.events in
      let before : Ticked 0 p = record { lawful = l; may = λ h none. absurd (omega arith) } in
      let ticked : Ticked head.hosts (play_hosts (length p.world.clients) 0 p) = ticked-hosts (length p.world.clients) 0 head.hosts p (omega arith)
      (omega arith) before in
      played (play_hosts (length p.world.clients) 0 p) Event.ServerTick tt ticked.lawful (ticked-within head.hosts most _ ticked.lawful.within ticked.may)

  pub calm-round : (p : Play) → IsLawful most head p → IsLawful most head (calm_round p)
  unfolding calm_round
  calm-round p l = round (play_flow (enough_deliveries p) p) (flows (enough_deliveries p) p l)

  pub rounds : (count : ℕ) (p : Play) → IsLawful most head p → IsLawful most head (calm_rounds count p)
  rounds zero p l = l
  rounds (suc count) p l = rounds count (calm_round p) (calm-round p l)

pub calm-is-lawful : CalmRoundsAreLawful
unfolding calmed
calm-is-lawful most head events bounds within under_way count =
    rounds most head count (calmed head events under_way) (record { is_run = refl; bounds = bounds; within = within })
