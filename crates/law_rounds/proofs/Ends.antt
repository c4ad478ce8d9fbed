-- Each delivery lowers what is left, so a flow ends.
use Rattle.std.proofs.Common.{◌≡◌, ◌≤◌, ℕ, ◌+◌, ◌*◌, ◌-◌, ◌++◌, zero, suc, List, [], ◌∷◌, Option, length, sym, ap, subst, ◌∙◌, arith}
use Rattle.std.proofs.lemmas.List.{append-nil, length-append}
use Rattle.nq_base.specs.declared.Event.{Event}
use Rattle.nq_base.specs.declared.Request.{Request}
use Rattle.nq_base.specs.declared.Row.{Row}
use Rattle.nq_model.specs.protocol.Client.{Client}
use Rattle.nq_model.specs.protocol.Lines.{Play, play, play_flow, flow_first}
use Rattle.nq_model.specs.protocol.Server.{Server}
use Rattle.law_rounds.specs.DeliveryEnds.{growth, most_growths}
use Rattle.law_rounds.proofs.Deliver.{Spends, less_energy, less_weight, GoesOn}
use Rattle.law_rounds.proofs.Energy.{energy}
use Rattle.law_rounds.proofs.Facts.{Facts, AskersHaveRows}
use Rattle.law_rounds.proofs.Flow.{append-more, stays-empty, Stands, Ready, last, before, ready-of, begins, Next, once, twice, done, Delivered}
use Rattle.law_rounds.proofs.Flow.{by_one, by_turn, by_two, deliver-item}
use Rattle.law_rounds.proofs.Forms.{IsFormed, Fits, heavy, weight_of, weight-least, weight-most}
use Rattle.law_rounds.proofs.Items.{Item, Each, each-append, each-map, Queued}
use Rattle.law_rounds.proofs.Levels.{KeepsGood, fits-keep, fits-loose}
use Rattle.law_rounds.proofs.Measures.{left, lighter, lower, no-more, jump, growth-some, twice-few, left-some, times-less}

module _ (hosts few : ℕ) (asks : ℕ → Option Request) where
  -- what is known of items, after a delivery at a generation
  keep-old : (level : ℕ) (s v : Server) → level ≤ 2 → (suc level ≤ 2 → KeepsGood hosts asks s v) → (items : List Item)
      → Each (Fits hosts asks (suc level) s) items → Each (Fits hosts asks (suc level) v) items
  keep-old zero s v small keeps items f = each-map (Fits hosts asks 1 s) (Fits hosts asks 1 v) (fits-keep hosts asks 1 s v (keeps (omega arith))) items f
  keep-old (suc zero) s v small keeps items f = each-map (Fits hosts asks 2 s) (Fits hosts asks 2 v) (fits-keep hosts asks 2 s v (keeps (omega arith))) items f
  keep-old (suc (suc level)) s v small keeps items f = each-map (Fits hosts asks (suc (suc (suc level))) s) (Fits hosts asks (suc (suc (suc level)))
      v) (fits-loose hosts asks (suc level) s v) items f

  keep-new : (level : ℕ) (s v : Server) → level ≤ 2 → (suc level ≤ 2 → KeepsGood hosts asks s v) → (items : List Item)
      → Each (Fits hosts asks level s) items → Each (Fits hosts asks level v) items
  keep-new zero s v small keeps items f = each-map (Fits hosts asks 0 s) (Fits hosts asks 0 v) (fits-keep hosts asks 0 s v (keeps (omega arith))) items f
  keep-new (suc zero) s v small keeps items f = each-map (Fits hosts asks 1 s) (Fits hosts asks 1 v) (fits-keep hosts asks 1 s v (keeps (omega arith))) items f
  keep-new (suc (suc level)) s v small keeps items f = each-map (Fits hosts asks (suc (suc level)) s) (Fits hosts asks (suc (suc level)) v)
      (fits-loose hosts asks level s v) items f

-- a turn was taken: so many growths are paid for
turn-pays : (turns_then growths rest : ℕ) → 1 ≤ turns_then → (turns_then - 1) * growths + growths ≡ turns_then * growths
turn-pays zero growths rest some = absurd (omega arith)
turn-pays (suc n) growths rest some = let same : suc n - 1 ≡ n = omega arith in ap (λ m. m * growths + growths) same ∙ plus n growths
  where
    plus : (n g : ℕ) → n * g + g ≡ suc n * g
    plus n g = grind arith

module _ (hosts few : ℕ) (turns : Client → ℕ) (has_rows : AskersHaveRows) (Good : Play → Type 0) (facts : (p : Play) → Good p → Facts hosts few turns
    p.world) (goes : (p : Play) (k : ℕ) → Good p → Good (play p (Event.Deliver k))) where
  abbrev IsReady : ℕ → Play → Type 0
  IsReady most p = Ready hosts few turns has_rows Good facts goes most p

  abbrev Step : ℕ → Play → Type 0
  Step most p = Next hosts few turns has_rows Good facts goes most p

  -- ---- the last generation

  module _ (turns_then : ℕ) (asks : ℕ → Option Request) (i : Item) (rest : List Item) (p : Play) (most : ℕ) (s : Stands hosts few turns has_rows Good
      facts goes turns_then 0 asks (i ∷ rest) [] p) (less : left (growth few) (turns_then * most_growths hosts + energy hosts asks
      p.world.server.table.rows) (weight_of few asks p.world.server.table.rows (i ∷ rest)) ≤ most) where
    same-rest : rest ++ [] ≡ rest
    same-rest = append-nil rest

    fit-rest : Each (Fits hosts asks 0 p.world.server) (rest ++ [])
    fit-rest = subst (Each (Fits hosts asks 0 p.world.server)) (sym same-rest) s.old_fits.1

    formed-rest : Each (IsFormed hosts asks) (rest ++ [])
    formed-rest = each-map (Fits hosts asks 0 p.world.server) (IsFormed hosts asks) (λ j f. f.0) (rest ++ []) fit-rest

    last-on : (n : ℕ) → n ≤ 2 → (q : Play) → Good q → GoesOn hosts few turns asks i (rest ++ []) p.world q.world q.fresh n → (fewer : ℕ)
        × ((fewer + n ≤ most) × IsReady fewer q)
    last-on n small q good on =
        let items = (rest ++ []) ++ on.came_then in
        let b = growth few in
        let e2 = turns_then * most_growths hosts + energy hosts asks q.world.server.table.rows in
        let w2 = weight_of few asks q.world.server.table.rows ((rest ++ []) ++ on.came_then) in (
          left b e2 w2,
          (
            enough (on.spends s.old_fits.0 formed-rest s.queue.sent.1),
            last turns_then asks items (record {
              good = good;
              queue = subst (λ js. Queued q.world.packets q.fresh js) (sym (append-nil items)) on.queue;
              agree = on.agree;
              few_turns = let a = on.no_more in let c = s.few_turns in omega arith;
              old_fits = each-append (Fits hosts asks 0 q.world.server) (rest ++ []) on.came_then (each-map (Fits hosts asks 0 p.world.server)
                  (Fits hosts asks 0 q.world.server) (fits-keep hosts asks 0 p.world.server q.world.server (on.keeps 0 (omega arith) s.old_fits.0))
                  (rest ++ []) fit-rest) (on.fits 0 (omega arith) s.old_fits.0);
              new_fits = tt;
            }) (omega arith),
          ),
        )
      where
        before_rows : List Row
        before_rows = p.world.server.table.rows

        enough : Spends hosts few turns asks i (rest ++ []) on.came_then p.world.server.table.rows q.world.server.table.rows n
            → left (growth few) (turns_then * most_growths hosts + energy hosts asks q.world.server.table.rows)
            (weight_of few asks q.world.server.table.rows ((rest ++ []) ++ on.came_then)) + n ≤ most
        enough (less_weight no_more lower_weight) =
            let same : weight_of few asks p.world.server.table.rows (i ∷ (rest ++ [])) ≡ weight_of few asks p.world.server.table.rows (i ∷ rest) =
            ap (λ js. weight_of few asks p.world.server.table.rows (i ∷ js)) same-rest in
            let a = no-more (growth few) (turns_then * most_growths hosts + energy hosts asks q.world.server.table.rows) (turns_then * most_growths
            hosts + energy hosts asks p.world.server.table.rows) (weight_of few asks q.world.server.table.rows ((rest ++ []) ++ on.came_then))
            (weight_of few asks q.world.server.table.rows ((rest ++ []) ++ on.came_then)) (growth-some few) (omega arith) (omega arith) in
            let c = lighter (growth few) (turns_then * most_growths hosts + energy hosts asks p.world.server.table.rows)
            (weight_of few asks p.world.server.table.rows (i ∷ rest)) (weight_of few asks q.world.server.table.rows ((rest ++ [])
            ++ on.came_then)) n (growth-some few) (omega arith) in
            omega arith
        enough (less_energy falls) =
            let w = weight_of few asks p.world.server.table.rows (i ∷ rest) in
            let a = weight-most few asks q.world.server.table.rows ((rest ++ []) ++ on.came_then) in
            let c : (heavy few + 5) * length ((rest ++ []) ++ on.came_then) ≡ (5 * few + 8) * length ((rest ++ []) ++ on.came_then) =
            ap (λ x. x * length ((rest ++ []) ++ on.came_then)) (omega arith) in
            let d = weight-least few asks p.world.server.table.rows (i ∷ rest) in
            let e = length-append (rest ++ []) on.came_then in
            let f : length (rest ++ []) ≡ length rest = ap (λ (js : List Item). length js) same-rest in
            let g = on.few_came in
            let h = lower (growth few) (turns_then * most_growths hosts + energy hosts asks q.world.server.table.rows) (turns_then * most_growths
            hosts + energy hosts asks p.world.server.table.rows) (weight_of few asks p.world.server.table.rows (i ∷ rest))
            (weight_of few asks q.world.server.table.rows ((rest ++ []) ++ on.came_then)) n (growth-some few) (omega arith)
            (jump few (length ((rest ++ []) ++ on.came_then)) (weight_of few asks q.world.server.table.rows ((rest ++ []) ++ on.came_then))
            (weight_of few asks p.world.server.table.rows (i ∷ rest)) n (omega arith) (twice-few few (weight_of few asks p.world.server.table.rows
            (i ∷ rest)) (length ((rest ++ []) ++ on.came_then)) (omega arith)) small) in
            omega arith

    last-step : Delivered hosts few turns has_rows Good facts goes turns_then asks i (rest ++ []) p → Step most p
    last-step (by_one k first on) =
        let r = last-on 1 (omega arith) (play p (Event.Deliver k)) (goes p k s.good) on in
        once r.0 r.1.0 (subst (λ q. IsReady r.0 q) (sym first) r.1.1)
    last-step (by_two k first second on) =
        let r = last-on 2 (omega arith) (play (play p (Event.Deliver k)) (Event.Deliver (k + 1))) (goes (play p (Event.Deliver k)) (k + 1)
        (goes p k s.good)) on in
        twice r.0 r.1.0 (subst (λ q. IsReady r.0 q) (sym (ap (λ (q : Play). flow_first q.fresh q) first ∙ second)) r.1.1)
    last-step (by_turn k first t) =
        let some : 1 ≤ turns_then = let a = t.fewer in let c = s.few_turns in omega arith in
        let pays = turn-pays turns_then (most_growths hosts) 0 some in
        let d = weight-least few asks p.world.server.table.rows (i ∷ rest) in
        let f : length (rest ++ []) ≡ length rest = ap (λ (js : List Item). length js) same-rest in
        let g = t.few_all in
        let more = times-less (few + 2) (5 * few + 8) (length t.all) (omega arith) in
        let h = lower (growth few) ((turns_then - 1) * most_growths hosts + (hosts * (hosts + 2) + 3)) (turns_then * most_growths hosts + energy hosts
        asks p.world.server.table.rows) (weight_of few asks p.world.server.table.rows (i ∷ rest)) ((few + 2) * length t.all + 0) 1
        (growth-some few) (omega arith) (jump few (length t.all) ((few + 2) * length t.all + 0) (weight_of few asks p.world.server.table.rows
        (i ∷ rest)) 1 (omega arith) (twice-few few (weight_of few asks p.world.server.table.rows (i ∷ rest)) (length t.all) (omega arith))
        (omega arith)) in
        let r = begins hosts few turns has_rows Good facts goes (turns_then - 1) (play p (Event.Deliver k)) t.all
        (left (growth few) ((turns_then - 1) * most_growths hosts + (hosts * (hosts + 2) + 3)) ((few + 2) * length t.all + 0)) (goes p k s.good)
        t.queue t.singles (let a = t.fewer in let c = s.few_turns in omega arith) (omega arith) in
        once (left (growth few) ((turns_then - 1) * most_growths hosts + (hosts * (hosts + 2) + 3)) ((few + 2) * length t.all + 0)) (omega arith)
        (subst (λ q. IsReady (left (growth few) ((turns_then - 1) * most_growths hosts + (hosts * (hosts + 2) + 3)) ((few + 2) * length t.all
        + 0)) q) (sym first) r)

  -- ---- an earlier generation

  module _ (turns_then level : ℕ) (asks : ℕ → Option Request) (i : Item) (old new : List Item) (p : Play) (most : ℕ) (small : level ≤ 2)
      (s : Stands hosts few turns has_rows Good facts goes turns_then (suc level) asks (i ∷ old) new p)
      (less : left (growth few) (turns_then * most_growths hosts + (hosts * (hosts + 2) + suc level)) ((few + 2) * suc (length old) + length new) ≤ most) where
    one-heavier : (few + 2) * suc (length old) ≡ (few + 2) * length old + (few + 2)
    one-heavier = grow (few + 2) (length old)
      where
        grow : (b n : ℕ) → b * suc n ≡ b * n + b
        grow b n = grind arith

    early-on : (n : ℕ) → n ≤ 2 → (q : Play) → Good q → GoesOn hosts few turns asks i (old ++ new) p.world q.world q.fresh n → (fewer : ℕ)
        × ((fewer + n ≤ most) × IsReady fewer q)
    early-on n few_n q good on =
        let came = on.came_then in
        let heavier = one-heavier in
        let e = length-append new on.came_then in
        let g = on.few_came in
        let keeps : suc level ≤ 2 → KeepsGood hosts asks p.world.server q.world.server = λ fine. on.keeps (suc level) fine s.old_fits.0 in
        let light = lighter (growth few) (turns_then * most_growths hosts + (hosts * (hosts + 2) + suc level)) ((few + 2) * suc (length old)
        + length new) ((few + 2) * length old + length (new ++ on.came_then)) n (growth-some few) (omega arith) in (
          left (growth few) (turns_then * most_growths hosts + (hosts * (hosts + 2) + suc level)) ((few + 2) * length old + length (new ++ on.came_then)),
          (
            omega arith,
            ready-of hosts few turns has_rows Good facts goes turns_then level asks old (new ++ on.came_then) q
                (left (growth few) (turns_then * most_growths hosts + (hosts * (hosts + 2) + suc level)) ((few + 2) * length old
                + length (new ++ on.came_then))) small (record {
                  good = good;
                  queue = subst (λ js. Queued q.world.packets q.fresh js) (append-more old new on.came_then) on.queue;
                  agree = on.agree;
                  few_turns = let a = on.no_more in let c = s.few_turns in omega arith;
                  old_fits = keep-old hosts few asks level p.world.server q.world.server small keeps old s.old_fits.1;
                  new_fits = each-append (Fits hosts asks level q.world.server) new on.came_then (keep-new hosts few asks level p.world.server
                      q.world.server small keeps new s.new_fits) (on.fits (suc level) (omega arith) s.old_fits.0);
                }) (omega arith),
          ),
        )

    early-step : Delivered hosts few turns has_rows Good facts goes turns_then asks i (old ++ new) p → Step most p
    early-step (by_one k first on) =
        let r = early-on 1 (omega arith) (play p (Event.Deliver k)) (goes p k s.good) on in
        once r.0 r.1.0 (subst (λ q. IsReady r.0 q) (sym first) r.1.1)
    early-step (by_two k first second on) =
        let r = early-on 2 (omega arith) (play (play p (Event.Deliver k)) (Event.Deliver (k + 1))) (goes (play p (Event.Deliver k)) (k + 1)
        (goes p k s.good)) on in
        twice r.0 r.1.0 (subst (λ q. IsReady r.0 q) (sym (ap (λ (q : Play). flow_first q.fresh q) first ∙ second)) r.1.1)
    early-step (by_turn k first t) =
        let some : 1 ≤ turns_then = let a = t.fewer in let c = s.few_turns in omega arith in
        let pays = turn-pays turns_then (most_growths hosts) 0 some in
        let f = length-append old new in
        let g = t.few_all in
        let heavier = one-heavier in
        let wide = times-less 1 (few + 2) (length old) (omega arith) in
        let more = times-less (few + 2) (5 * few + 8) (length t.all) (omega arith) in
        let h = lower (growth few) ((turns_then - 1) * most_growths hosts + (hosts * (hosts + 2) + 3)) (turns_then * most_growths hosts
        + (hosts * (hosts + 2) + suc level)) ((few + 2) * suc (length old) + length new) ((few + 2) * length t.all + 0) 1 (growth-some few)
        (omega arith) (jump few (length t.all) ((few + 2) * length t.all + 0) ((few + 2) * suc (length old) + length new) 1 (omega arith)
        (twice-few few ((few + 2) * suc (length old) + length new) (length t.all) (omega arith)) (omega arith)) in
        let r = begins hosts few turns has_rows Good facts goes (turns_then - 1) (play p (Event.Deliver k)) t.all
        (left (growth few) ((turns_then - 1) * most_growths hosts + (hosts * (hosts + 2) + 3)) ((few + 2) * length t.all + 0)) (goes p k s.good)
        t.queue t.singles (let a = t.fewer in let c = s.few_turns in omega arith) (omega arith) in
        once (left (growth few) ((turns_then - 1) * most_growths hosts + (hosts * (hosts + 2) + 3)) ((few + 2) * length t.all + 0)) (omega arith)
        (subst (λ q. IsReady (left (growth few) ((turns_then - 1) * most_growths hosts + (hosts * (hosts + 2) + 3)) ((few + 2) * length t.all
        + 0)) q) (sym first) r)

  -- ---- all of it

  next : (most : ℕ) (p : Play) → IsReady most p → Step most p
  next most p (last turns_then asks [] s less) = done s.queue.is
  next most p (last turns_then asks (i ∷ rest) s less) = last-step turns_then asks i rest p most s less (deliver-item hosts few turns has_rows Good
      facts goes turns_then 0 asks i (rest ++ []) p s.good s.agree s.queue s.old_fits.0)
  next most p (before turns_then level asks i old new small s less) = early-step turns_then level asks i old new p most small s less
      (deliver-item hosts few turns has_rows Good facts goes turns_then (suc level) asks i (old ++ new) p s.good s.agree s.queue s.old_fits.0)

  ready-some : (most : ℕ) (p : Play) → IsReady most p → 1 ≤ most
  ready-some most p (last turns_then asks items s less) = let some = left-some (growth few) (turns_then * most_growths hosts + energy hosts asks
      p.world.server.table.rows) (weight_of few asks p.world.server.table.rows items) (growth-some few) in omega arith
  ready-some most p (before turns_then level asks i old new small s less) = let some = left-some (growth few) (turns_then * most_growths hosts
      + (hosts * (hosts + 2) + suc level)) ((few + 2) * suc (length old) + length new) (growth-some few) in omega arith

  pub ends : (bound fuel most : ℕ) (p : Play) → fuel ≤ bound → most ≤ fuel → IsReady most p → (play_flow fuel p).fresh ≡ []
  ends zero fuel most p a b r = let some = ready-some most p r in absurd (omega arith)
  ends (suc bound) fuel most p a b r = by (λ f m q x y z. ends bound f m q x y z) (next most p r)
    where
      by : ((f m : ℕ) (q : Play) → f ≤ bound → m ≤ f → IsReady m q → (play_flow f q).fresh ≡ []) → Step most p → (play_flow fuel p).fresh ≡ []
      by again (done e) = stays-empty fuel p e
      by again (once fewer less z) = let same : suc (fuel - 1) ≡ fuel = omega arith in subst (λ n. (play_flow n p).fresh ≡ []) same
          (again (fuel - 1) fewer (play_flow 1 p) (omega arith) (omega arith) z)
      by again (twice fewer less z) = let same : suc (suc (fuel - 2)) ≡ fuel = omega arith in subst (λ n. (play_flow n p).fresh ≡ []) same
          (again (fuel - 2) fewer (play_flow 2 p) (omega arith) (omega arith) z)
