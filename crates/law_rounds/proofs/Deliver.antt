-- The first item that is under way is delivered: a turn is taken, or the delivery goes on.
use Rattle.std.proofs.Common.{◌≡◌, ◌≤◌, ◌<◌, ◌⊎◌, ℕ, ◌+◌, ◌*◌, ◌++◌, Bool, true, false, pred, List, ◌∷◌, Option, Some, length, sym, ap, subst, ◌∙◌}
use Rattle.std.proofs.Common.{arith, inl, inr}
use Rattle.std.proofs.lemmas.List.{length-append}
use Rattle.nq_base.specs.declared.Event.{Event}
use Rattle.nq_base.specs.declared.Request.{Request}
use Rattle.nq_base.specs.declared.Row.{Row}
use Rattle.nq_model.specs.protocol.Client.{Client}
use Rattle.nq_model.specs.protocol.Lines.{Play, play}
use Rattle.nq_model.specs.protocol.Message.{Message, Packet}
use Rattle.nq_model.specs.protocol.Server.{Server, to_host}
use Rattle.nq_model.specs.protocol.Table.{find_row}
use Rattle.nq_model.specs.protocol.World.{World, deliver}
use Rattle.law_rounds.proofs.Asked.{is_taken}
use Rattle.law_rounds.proofs.ClientSteps.{sum_of, CameOf, nothing, gives_up, asks_again, ClientOut, turned, went_on, client-delivered}
use Rattle.law_rounds.proofs.Energy.{energy}
use Rattle.law_rounds.proofs.Facts.{wants_in, Facts}
use Rattle.law_rounds.proofs.Forms.{Agree, IsFormed, Fits, notice_weight, pair_weight, item_weight, weight_of, weight-append, item-some}
use Rattle.law_rounds.proofs.Items.{Item, one, IsSingle, Each, IsSentAs, Queued}
use Rattle.law_rounds.proofs.Levels.{KeepsGood, keep-self, came-fits}
use Rattle.law_rounds.proofs.Plays.{first-sent, next-queue, any-queue, numbers-most, adds-most}
use Rattle.law_rounds.proofs.ServerSends.{came, adds}

module _ (hosts few : ℕ) (turns : Client → ℕ) (asks : ℕ → Option Request) where
  -- at the last generation: energy falls, or it does not rise and the weight falls
  pub data Spends (i : Item) (rest came : List Item) (before after : List Row) (count : ℕ) : Type 0 where
    less_energy : energy hosts asks after < energy hosts asks before → Spends i rest came before after count
    less_weight : energy hosts asks after ≤ energy hosts asks before → weight_of few asks after (rest ++ came) + count ≤ weight_of few asks before
        (i ∷ rest) → Spends i rest came before after count

  pub record GoesOn (i : Item) (rest : List Item) (w v : World) (fresh : List ℕ) (count : ℕ) : Type 0 where
    pub came_then : List Item
    pub queue : Queued v.packets fresh (rest ++ came_then)
    pub agree : Agree hosts asks v
    pub no_more : sum_of turns v.clients ≤ sum_of turns w.clients
    pub few_came : length came_then ≤ few
    pub keeps : (level : ℕ) → level ≤ 2 → Fits hosts asks level w.server i → KeepsGood hosts asks w.server v.server
    pub fits : (level : ℕ) → level ≤ 3 → Fits hosts asks level w.server i → Each (Fits hosts asks (pred level) v.server) came_then
    pub spends : Fits hosts asks 0 w.server i → Each (IsFormed hosts asks) rest → Each (IsSentAs w.packets) rest → Spends i rest came_then
        w.server.table.rows v.server.table.rows count

  pub record Turns (rest : List Item) (w v : World) (fresh : List ℕ) : Type 0 where
    pub all : List Item
    pub queue : Queued v.packets fresh all
    pub singles : Each IsSingle all
    pub fewer : sum_of turns v.clients < sum_of turns w.clients
    pub few_all : length all ≤ 2 * length rest + few

  -- ---- to a client

  module _ (p : Play) (facts : Facts hosts few turns p.world) (agree : Agree hosts asks p.world) (k host : ℕ) (m : Message) (rest : List Item)
      (queue : Queued p.world.packets p.fresh (one k (to_host host m) ∷ rest)) where
    abbrev q : Play
    q = play p (Event.Deliver k)

    world-is : q.world ≡ deliver p.world k (Some (to_host host m))
    world-is = ap (deliver p.world k) (first-sent p k (to_host host m) rest queue)

    few-packets : (more : List Packet) → q.world.packets ≡ p.world.packets ++ more → length more ≤ few
    few-packets more grown =
        let all = facts.few_sent k in
        let both = length-append p.world.packets more in
        let is : length q.world.packets ≡ length (p.world.packets ++ more) = ap (λ (ps : List Packet). length ps) grown in
        omega arith

    came-light : (new : List Item) (rows : List Row) → CameOf hosts few turns asks p.world facts agree host m new → weight_of few asks rows new + 1
        ≤ item_weight few asks rows (one k (to_host host m))
    came-light new rows (nothing is) = let some = (item-some few asks rows (one k (to_host host m))).0 in let none : weight_of few asks rows new ≡ 0 =
        ap (weight_of few asks rows) is in omega arith
    came-light new rows (gives_up n x z file who tag heard is from below off) =
        let one_is : weight_of few asks rows new ≡ 1 = ap (weight_of few asks rows) is in
        let notice : item_weight few asks rows (one k (to_host host m)) ≡ notice_weight few (wants_in file (asks host))
        (is_taken who tag (find_row file host rows)) = ap (λ mm. item_weight few asks rows (one k (to_host host mm))) heard in
        let two = two-least (wants_in file (asks host)) (is_taken who tag (find_row file host rows)) in
        omega arith
      where
        two-least : (a b : Bool) → 2 ≤ notice_weight few a b
        two-least true true = omega arith
        two-least true false = omega arith
        two-least false b = omega arith
    came-light new rows (asks_again n x y z file who tag r heard is from below asked wants) =
        let one_is : weight_of few asks rows new ≡ pair_weight few (is_taken who tag (find_row file host rows)) + 0 = ap (weight_of few asks rows) is in
        let on : wants_in file (asks host) ≡ true = ap (wants_in file) asked ∙ wants in
        let notice : item_weight few asks rows (one k (to_host host m)) ≡ notice_weight few true (is_taken who tag (find_row file host rows)) =
        ap (λ mm. item_weight few asks rows (one k (to_host host mm))) heard
        ∙ ap (λ b. notice_weight few b (is_taken who tag (find_row file host rows))) on in
        let more = one-more (is_taken who tag (find_row file host rows)) in
        omega arith
      where
        one-more : (b : Bool) → pair_weight few b + 1 ≤ notice_weight few true b
        one-more true = omega arith
        one-more false = omega arith

    heard : (v : World) → q.world ≡ v → ClientOut hosts few turns asks p.world facts agree host m v → GoesOn (one k (to_host host m)) rest p.world
        q.world q.fresh 1 ⊎ Turns rest p.world q.world q.fresh
    heard v at (turned more grown less) =
        let grown_here : q.world.packets ≡ p.world.packets ++ more = ap (λ (u : World). u.packets) at ∙ grown in
        let all = any-queue p k (to_host host m) rest queue more grown_here in
        let a = few-packets more grown_here in
        let b = numbers-most rest in
        inr (record {
          all = all.0;
          queue = all.1.0;
          singles = all.1.1.0;
          fewer = subst (λ (u : World). sum_of turns u.clients < sum_of turns
              p.world.clients) (sym at) less;
          few_all = let c = all.1.1.1 in omega arith;
        })
    heard v at (went_on more new grown adds server agrees no_more came) =
        let grown_here : q.world.packets ≡ p.world.packets ++ more = ap (λ (u : World). u.packets) at ∙ grown in
        let server_here : q.world.server ≡ p.world.server = ap (λ (u : World). u.server) at ∙ server in
        inl (record {
          came_then = new;
          queue = next-queue p k (to_host host m) rest queue more new grown_here adds;
          agree = subst (λ u. Agree hosts asks u) (sym at) agrees;
          no_more = subst (λ (u : World). sum_of turns u.clients ≤ sum_of turns p.world.clients) (sym at) no_more;
          few_came = let a = adds-most p.world.packets more new adds in let b = few-packets more grown_here in omega arith;
          keeps = λ level small f. subst (λ s. KeepsGood hosts asks p.world.server s) (sym server_here) (keep-self hosts asks p.world.server);
          fits = λ level small f. subst (λ s. Each (Fits hosts asks (pred level) s) new) (sym server_here) (came-fits hosts asks level few small turns
              p.world facts agree k host m new came f);
          spends = λ f formed sent. subst (λ (s : Server). Spends (one k (to_host host m)) rest new p.world.server.table.rows s.table.rows 1) (sym server_here)
              (less_weight (omega arith) (let a = weight-append few asks p.world.server.table.rows rest new in let b =
              came-light new p.world.server.table.rows came in omega arith));
        })

    pub to-client : GoesOn (one k (to_host host m)) rest p.world q.world q.fresh 1 ⊎ Turns rest p.world q.world q.fresh
    to-client = heard (deliver p.world k (Some (to_host host m))) world-is (client-delivered hosts few turns asks p.world facts agree host k m
        (first-sent p k (to_host host m) rest queue))
