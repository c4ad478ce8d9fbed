-- A packet is delivered to the server, or a VACATED and the request right behind it.
use Rattle.std.proofs.Common.{◌≡◌, ◌≤◌, ◌<◌, ℕ, ◌*◌, ◌++◌, true, pred, List, [], ◌∷◌, Option, Some, length, refl, sym, ap, subst, ◌∙◌, arith}
use Rattle.std.specs.Prelude.{slice_get}
use Rattle.std.proofs.lemmas.Bool.{and_parts}
use Rattle.nq_base.specs.declared.Event.{Event}
use Rattle.nq_base.specs.declared.Request.{Request}
use Rattle.nq_base.specs.declared.Row.{Row}
use Rattle.nq_base.specs.declared.Tag.{Tag}
use Rattle.nq_base.specs.declared.Who.{Who}
use Rattle.nq_model.specs.protocol.Client.{Client}
use Rattle.nq_model.specs.protocol.Kept.{host_row}
use Rattle.nq_model.specs.protocol.Lines.{Play, play}
use Rattle.nq_model.specs.protocol.Message.{Message, call, datagram_of}
use Rattle.nq_model.specs.protocol.Profile.{most_hosts}
use Rattle.nq_model.specs.protocol.Server.{Server, ServerStep, to_host}
use Rattle.nq_model.specs.protocol.ServerStep.{receive}
use Rattle.nq_model.specs.protocol.Table.{find_row}
use Rattle.nq_model.specs.protocol.World.{World, from_host, after_server, deliver}
use Rattle.walk_steps.proofs.Packets.{not-both, message-same}
use Rattle.walk_steps.proofs.Rows.{same-number}
use Rattle.law_rounds.proofs.Asked.{is_taken, Vacates, vacated-request}
use Rattle.law_rounds.proofs.ClientSteps.{sum_of}
use Rattle.law_rounds.proofs.Deliver.{Spends, less_weight, GoesOn}
use Rattle.law_rounds.proofs.Facts.{wants_in, Facts}
use Rattle.law_rounds.proofs.Forms.{Agree, IsFormed, to_client, alone, paired, NoticeIsGood, PairIsGood, Fits, weight_of, weight-append}
use Rattle.law_rounds.proofs.Items.{Item, one, Each, IsSentAs, Queued, ones}
use Rattle.law_rounds.proofs.Levels.{KeepsGood, form-of, sends-fit, pred-small, alone-look, alone-keeps, alone-energy, items-less}
use Rattle.law_rounds.proofs.Plays.{first-sent, next-queue, adds-most}
use Rattle.law_rounds.proofs.ServerSends.{came, adds, new-formed, new-good, new-pairs, few-sent, new-light}
use Rattle.law_rounds.proofs.ServerSteps.{taken-row}

module _ (hosts few : ℕ) (turns : Client → ℕ) (asks : ℕ → Option Request) where
  -- all that the server sends fits
  each-fit : (level : ℕ) (s : Server) (items : List Item) → level ≤ 2 → Each (IsFormed hosts asks) items → Each (NoticeIsGood hosts asks s) items
      → Each (PairIsGood hosts asks s) items → Each (Fits hosts asks level s) items
  each-fit level s [] small a b c = tt
  each-fit level s (i ∷ items) small a b c = (sends-fit hosts asks level s i small a.0 b.0 c.0, each-fit level s items small a.1 b.1 c.1)

  -- ---- one packet of a host

  module _ (p : Play) (facts : Facts hosts few turns p.world) (agree : Agree hosts asks p.world) (k host : ℕ) (m : Message) (rest : List Item)
      (queue : Queued p.world.packets p.fresh (one k (from_host host m) ∷ rest)) where
    abbrev q : Play
    q = play p (Event.Deliver k)

    pub sent : slice_get p.world.packets k ≡ Some (from_host host m)
    sent = first-sent p k (from_host host m) rest queue

    abbrev pub step_then : ServerStep
    step_then = receive p.world.server host (length p.world.packets) (datagram_of m)

    pub world-is : q.world ≡ after_server p.world step_then
    world-is = ap (deliver p.world k) sent

    abbrev pub came_then : List Item
    came_then = came hosts few turns asks p.world facts k (from_host host m) sent refl

    pub server-is : q.world.server ≡ step_then.server
    unfolding after_server
    server-is = ap (λ (u : World). u.server) world-is

    pub packets-are : q.world.packets ≡ p.world.packets ++ step_then.sends
    unfolding after_server
    packets-are = ap (λ (u : World). u.packets) world-is

    pub clients-are : q.world.clients ≡ p.world.clients
    unfolding after_server
    clients-are = ap (λ (u : World). u.clients) world-is

    pub queue-then : Queued q.world.packets q.fresh (rest ++ came_then)
    queue-then = next-queue p k (from_host host m) rest queue step_then.sends came_then packets-are (adds hosts few turns asks p.world facts k
        (from_host host m) sent refl)

    pub agree-then : Agree hosts asks q.world
    agree-then h c is = agree h c (subst (λ cs. slice_get cs h ≡ Some c) clients-are is)

    pub few-then : length came_then ≤ few
    few-then = let a = adds-most p.world.packets step_then.sends came_then (adds hosts few turns asks p.world facts k (from_host host m) sent refl) in
        let b = few-sent hosts few turns asks p.world facts k (from_host host m) sent refl in omega arith

    pub fits-then : (level : ℕ) → level ≤ 2 → Each (Fits hosts asks level q.world.server) came_then
    fits-then level small =
        subst (λ s. Each (Fits hosts asks level s) came_then) (sym server-is)
        (each-fit level step_then.server came_then small (new-formed hosts few turns asks p.world facts k (from_host host m) sent refl)
        (new-good hosts few turns asks p.world facts k (from_host host m) sent refl) (new-pairs hosts few turns asks p.world facts k
        (from_host host m) sent refl))

    pub light-then : weight_of few asks q.world.server.table.rows came_then ≤ 5 * few
    light-then = subst (λ (s : Server). weight_of few asks s.table.rows came_then ≤ 5 * few) (sym server-is) (new-light hosts few turns asks p.world
        facts k (from_host host m) sent refl)

    -- a VACATED alone
    module _ (x file : ℕ) (who : Who) (tag : Tag) (is : m ≡ call x (Request.Vacated who file tag)) (from : who.host ≡ host) (below : host < hosts) where
      pub named : (row : Row) → find_row file host p.world.server.table.rows ≡ Some row → row.tag ≡ tag → row.evicting ≡ true
      named row there latest = facts.vacated k host x file who tag row (sent ∙ ap (λ mm. Some (from_host host mm)) is) there latest

      pub vacates : Vacates p.world.server who file tag step_then
      vacates =
          let small : who.host < most_hosts = let most = facts.hosts_most in omega arith in
          subst (λ mm. Vacates p.world.server who file tag (receive p.world.server host (length p.world.packets) (datagram_of mm))) (sym is)
          (subst (λ h. Vacates p.world.server who file tag (receive p.world.server h (length p.world.packets)
          (datagram_of (call x (Request.Vacated who file tag))))) from
          (vacated-request p.world.server who x (length p.world.packets) file tag current small))
        where
          current : is_taken who tag (find_row file who.host p.world.server.table.rows) ≡ true → who.inc ≡ (host_row p.world.server.kept who.host).inc
          current e =
              let k2 = taken-row p.world.server.table.rows file who.host who tag e in
              let same = and_parts _ _ k2.taken in
              sym (same-number k2.row.who.inc who.inc same.0) ∙ facts.current file who.host k2.row k2.there

    keeps-one : (level : ℕ) → level ≤ 2 → Fits hosts asks level p.world.server (one k (from_host host m)) → KeepsGood hosts asks p.world.server q.world.server
    keeps-one level small f = subst (λ s. KeepsGood hosts asks p.world.server s) (sym server-is)
        (by (form-of hosts asks level p.world.server (one k (from_host host m)) small f))
      where
        by : IsFormed hosts asks (one k (from_host host m)) → KeepsGood hosts asks p.world.server step_then.server
        by (to_client n h mm e) = let same : from_host host m ≡ to_host h mm = cc in absurd (not-both host h m mm same)
        by (paired n h x y file who tag r e from below asked wants) = absurd (cc)
        by (alone n h x file who tag e from below off) =
            let same : from_host host m ≡ from_host h (call x (Request.Vacated who file tag)) = cc in
            let parts = message-same host h m (call x (Request.Vacated who file tag)) same in
            let one_host = parts.0 in
            let is = parts.1 in
            alone-keeps hosts few turns asks p.world facts file host who tag (from ∙ sym one_host) (ap (λ g. wants_in file (asks g)) one_host ∙ off)
            step_then (vacates x file who tag is (from ∙ sym one_host) (subst (λ g. g < hosts) (sym one_host) below))

    spends-one : Fits hosts asks 0 p.world.server (one k (from_host host m)) → Each (IsFormed hosts asks) rest → Each (IsSentAs p.world.packets) rest
        → Spends hosts few turns asks (one k (from_host host m)) rest came_then p.world.server.table.rows q.world.server.table.rows 1
    spends-one f formed sent_as = subst (λ (s : Server). Spends hosts few turns asks (one k (from_host host m)) rest came_then
        p.world.server.table.rows s.table.rows 1) (sym server-is) (by f.0)
      where
        by : IsFormed hosts asks (one k (from_host host m)) → Spends hosts few turns asks (one k (from_host host m)) rest came_then
            p.world.server.table.rows step_then.server.table.rows 1
        by (to_client n h mm e) = let same : from_host host m ≡ to_host h mm = cc in absurd (not-both host h m mm same)
        by (paired n h x y file who tag r e from below asked wants) = absurd (cc)
        by (alone n h x file who tag e from below off) =
            let same : from_host host m ≡ from_host h (call x (Request.Vacated who file tag)) = cc in
            let parts = message-same host h m (call x (Request.Vacated who file tag)) same in
            let one_host = parts.0 in
            let is = parts.1 in
            let at = from ∙ sym one_host in
            let small = subst (λ g. g < hosts) (sym one_host) below in
            let free = ap (λ g. wants_in file (asks g)) one_host ∙ off in
            let gone = vacates x file who tag is at small in
            let none : came_then ≡ [] = ap (ones (length p.world.packets)) gone.none in
            let less = items-less hosts few turns asks p.world facts step_then.server.table.rows (λ f2 h2 wh tg row on there going taken.
            ap (is_taken wh tg) (alone-look hosts few turns asks p.world facts file host who tag at free step_then gone f2 h2 on ∙ there) ∙ taken)
            rest formed sent_as in
            let both = weight-append few asks step_then.server.table.rows rest came_then in
            let zero_came : weight_of few asks step_then.server.table.rows came_then ≡ 0 = ap (weight_of few asks step_then.server.table.rows) none in
            less_weight (alone-energy hosts few turns asks p.world facts file host who tag at free step_then gone (named x file who tag is at small))
            (omega arith)

    pub to-server : GoesOn hosts few turns asks (one k (from_host host m)) rest p.world q.world q.fresh 1
    to-server = record {
      came_then = came_then;
      queue = queue-then;
      agree = agree-then;
      no_more = let same : sum_of turns q.world.clients ≡ sum_of turns p.world.clients = ap (sum_of turns) clients-are in omega arith;
      few_came = few-then;
      keeps = keeps-one;
      fits = λ level small f. fits-then (pred level) (pred-small hosts asks level small);
      spends = spends-one;
    }
