-- A VACATED is delivered to the server, and then the request right behind it.
use Rattle.std.proofs.Common.{◌≡◌, ◌≤◌, ◌<◌, ℕ, ◌+◌, ◌*◌, ◌++◌, Bool, true, false, pred, List, [], ◌∷◌, Option, Some, length, refl, sym, ap, subst, ◌∙◌, arith}
use Rattle.std.proofs.lemmas.List.{append-nil}
use Rattle.nq_base.specs.declared.Event.{Event}
use Rattle.nq_base.specs.declared.Request.{Request}
use Rattle.nq_base.specs.declared.Row.{Row}
use Rattle.nq_base.specs.declared.Tag.{Tag}
use Rattle.nq_base.specs.declared.Who.{Who}
use Rattle.nq_model.specs.protocol.Client.{Client}
use Rattle.nq_model.specs.protocol.Hear.{wants_of}
use Rattle.nq_model.specs.protocol.Lines.{Play, play}
use Rattle.nq_model.specs.protocol.Message.{call}
use Rattle.nq_model.specs.protocol.Server.{Server, ServerStep}
use Rattle.nq_model.specs.protocol.Table.{find_row}
use Rattle.nq_model.specs.protocol.World.{from_host}
use Rattle.law_rounds.proofs.Asked.{is_taken, rows_without, question_of, IsSame, Hears, Vacates, request-hears}
use Rattle.law_rounds.proofs.AskSteps.{Outcome, falls, goes_on}
use Rattle.law_rounds.proofs.ClientSteps.{sum_of}
use Rattle.law_rounds.proofs.Deliver.{Spends, less_energy, less_weight, GoesOn}
use Rattle.law_rounds.proofs.Energy.{wish}
use Rattle.law_rounds.proofs.Facts.{Facts, AskersHaveRows}
use Rattle.law_rounds.proofs.Forms.{Agree, IsFormed, Fits, heavy, pair_weight, item_weight, weight_of, weight-append}
use Rattle.law_rounds.proofs.Items.{Item, one, pair, Each, IsSentAs, Queued, pair-apart, ones}
use Rattle.law_rounds.proofs.Levels.{wish-of, KeepsGood, pred-small, items-less}
use Rattle.law_rounds.proofs.ServerDeliver.{step_then, server-is, clients-are, came_then, queue-then, agree-then, few-then, fits-then, light-then}
use Rattle.law_rounds.proofs.ServerDeliver.{vacates, named}
use Rattle.law_rounds.proofs.ServerSteps.{pair-falls, pair-out, pair-keeps}

module _ (hosts few : ℕ) (turns : Client → ℕ) (asks : ℕ → Option Request) (has_rows : AskersHaveRows) (p : Play) (k host x y file : ℕ) (who : Who)
    (tag : Tag) (r : Request) (rest : List Item) (facts : Facts hosts few turns p.world) (behind : Facts hosts few turns
    (play p (Event.Deliver k)).world) (agree : Agree hosts asks p.world) (queue : Queued p.world.packets p.fresh (pair k host x y file who tag r
    ∷ rest)) (from : who.host ≡ host) (below : host < hosts) (asked : asks host ≡ Some r) (wants : wants_of file r ≡ true) where
  abbrev pub p1 : Play
  p1 = play p (Event.Deliver k)

  abbrev pub p2 : Play
  p2 = play (play p (Event.Deliver k)) (Event.Deliver (k + 1))

  apart : Queued p.world.packets p.fresh (one k (from_host host (call x (Request.Vacated who file tag))) ∷ one (k + 1) (from_host host (call y r)) ∷ rest)
  apart = pair-apart p.world.packets p.fresh rest k host x y file who tag r queue

  -- the first of them
  first-gone : Vacates p.world.server who file tag (step_then hosts few turns asks p facts agree k host (call x (Request.Vacated who file tag))
      (one (k + 1) (from_host host (call y r)) ∷ rest) apart)
  first-gone = vacates hosts few turns asks p facts agree k host (call x (Request.Vacated who file tag)) (one (k + 1) (from_host host (call y r))
      ∷ rest) apart x file who tag refl from below

  first-server : p1.world.server ≡ (step_then hosts few turns asks p facts agree k host (call x (Request.Vacated who file tag))
      (one (k + 1) (from_host host (call y r)) ∷ rest) apart).server
  first-server = server-is hosts few turns asks p facts agree k host (call x (Request.Vacated who file tag)) (one (k + 1) (from_host host (call y r))
      ∷ rest) apart

  none-came : came_then hosts few turns asks p facts agree k host (call x (Request.Vacated who file tag)) (one (k + 1) (from_host host (call y r))
      ∷ rest) apart ≡ []
  none-came = ap (ones (length p.world.packets)) first-gone.none

  pub queue-one : Queued p1.world.packets p1.fresh (one (k + 1) (from_host host (call y r)) ∷ rest)
  queue-one =
      let all = queue-then hosts few turns asks p facts agree k host (call x (Request.Vacated who file tag)) (one (k + 1) (from_host host (call y r))
      ∷ rest) apart in
      subst (λ items. Queued p1.world.packets p1.fresh items) (ap (λ items. (one (k + 1) (from_host host (call y r)) ∷ rest) ++ items) none-came
      ∙ append-nil (one (k + 1) (from_host host (call y r)) ∷ rest)) all

  agree-one : Agree hosts asks p1.world
  agree-one = agree-then hosts few turns asks p facts agree k host (call x (Request.Vacated who file tag)) (one (k + 1) (from_host host (call y r))
      ∷ rest) apart

  rows-one : p1.world.server.table.rows ≡ rows_without who file p.world.server.table.rows (is_taken who tag (find_row file host p.world.server.table.rows))
  rows-one = ap (λ (s : Server). s.table.rows) first-server ∙ first-gone.rows ∙ ap (λ h. rows_without who file p.world.server.table.rows
      (is_taken who tag (find_row file h p.world.server.table.rows))) from

  same-one : IsSame p.world.server p1.world.server
  same-one = subst (λ s. IsSame p.world.server s) (sym first-server) first-gone.same

  -- the second
  abbrev t2 : ServerStep
  t2 = step_then hosts few turns asks p1 behind agree-one (k + 1) host (call y r) rest queue-one

  second-server : p2.world.server ≡ t2.server
  second-server = server-is hosts few turns asks p1 behind agree-one (k + 1) host (call y r) rest queue-one

  second-hears : Hears p1.world.server (question_of p1.world.server host r) t2
  second-hears = request-hears p1.world.server y (length p1.world.packets) host file r wants

  going : (row : Row) → find_row file host p.world.server.table.rows ≡ Some row → row.tag ≡ tag → row.evicting ≡ true
  going = named hosts few turns asks p facts agree k host (call x (Request.Vacated who file tag)) (one (k + 1) (from_host host (call y r)) ∷ rest)
      apart x file who tag refl from below

  wishes : wish (asks host) ≡ Some file
  wishes = ap wish asked ∙ wish-of file r wants

  abbrev came2 : List Item
  came2 = came_then hosts few turns asks p1 behind agree-one (k + 1) host (call y r) rest queue-one

  keeps-two : KeepsGood hosts asks p.world.server p2.world.server
  keeps-two = subst (λ s. KeepsGood hosts asks p.world.server s) (sym second-server) (λ f h wh tg r2 a b good. pair-keeps hosts asks has_rows few
      turns p.world p1.world facts behind file host who tag r from below asked wants wishes rows-one same-one t2 second-hears going f h wh tg r2 a b good)

  spends-two : Fits hosts asks 0 p.world.server (pair k host x y file who tag r) → Each (IsFormed hosts asks) rest → Each (IsSentAs p.world.packets)
      rest → Spends hosts few turns asks (pair k host x y file who tag r) rest came2 p.world.server.table.rows p2.world.server.table.rows 2
  spends-two f formed sent_as = subst (λ (s : Server). Spends hosts few turns asks (pair k host x y file who tag r) rest came2
      p.world.server.table.rows s.table.rows 2) (sym second-server) (by (is_taken who tag (find_row file host p.world.server.table.rows)) refl)
    where
      light : weight_of few asks t2.server.table.rows came2 ≤ 5 * few
      light = subst (λ (s : Server). weight_of few asks s.table.rows came2 ≤ 5 * few) second-server (light-then hosts few turns asks p1 behind
          agree-one (k + 1) host (call y r) rest queue-one)

      out : Outcome hosts asks p.world.server.table.rows t2.server.table.rows
      out = pair-out hosts asks has_rows few turns p.world p1.world facts behind file host who tag r from below asked wants wishes rows-one same-one
          t2 second-hears going (f.2 k host x y file who tag r refl)

      by : (b : Bool) → is_taken who tag (find_row file host p.world.server.table.rows) ≡ b → Spends hosts few turns asks
          (pair k host x y file who tag r) rest came2 p.world.server.table.rows t2.server.table.rows 2
      by true e = less_energy (pair-falls hosts asks has_rows few turns p.world p1.world facts behind file host who tag r from below asked wants
          wishes rows-one same-one t2 second-hears going e)
      by false e = which out
        where
          which : Outcome hosts asks p.world.server.table.rows t2.server.table.rows → Spends hosts few turns asks (pair k host x y file who tag r)
              rest came2 p.world.server.table.rows t2.server.table.rows 2
          which (falls less) = less_energy less
          which (goes_on no_more still) =
              let a = items-less hosts few turns asks p.world facts t2.server.table.rows (λ f2 h2 wh tg row on there gone taken. still f2 h2 wh tg row
              there gone taken) rest formed sent_as in
              let b = weight-append few asks t2.server.table.rows rest came2 in
              let c : item_weight few asks p.world.server.table.rows (pair k host x y file who tag r) ≡ heavy few = ap (pair_weight few) e in
              let d = light in
              less_weight no_more (omega arith)

  pub two-delivered : GoesOn hosts few turns asks (pair k host x y file who tag r) rest p.world p2.world p2.fresh 2
  two-delivered = record {
    came_then = came2;
    queue = queue-then hosts few turns asks p1 behind agree-one (k + 1) host (call y r) rest queue-one;
    agree = agree-then hosts few turns asks p1 behind agree-one (k + 1) host (call y r) rest queue-one;
    no_more =
        let one_same : sum_of turns p1.world.clients ≡ sum_of turns p.world.clients = ap (sum_of turns) (clients-are hosts few turns asks p facts
        agree k host (call x (Request.Vacated who file tag)) (one (k + 1) (from_host host (call y r)) ∷ rest) apart) in
        let two_same : sum_of turns p2.world.clients ≡ sum_of turns p1.world.clients = ap (sum_of turns) (clients-are hosts few turns asks p1 behind
        agree-one (k + 1) host (call y r) rest queue-one) in
        omega arith;
    few_came = few-then hosts few turns asks p1 behind agree-one (k + 1) host (call y r) rest queue-one;
    keeps = λ level small f. keeps-two;
    fits = λ level small f. fits-then hosts few turns asks p1 behind agree-one (k + 1) host (call y r) rest queue-one (pred level)
        (pred-small hosts asks level small);
    spends = spends-two;
  }
