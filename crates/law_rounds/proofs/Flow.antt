-- A flow ends: each delivery lowers what is left, by turns, generations, rows and packets.
use Rattle.std.proofs.Common.{◌≡◌, ◌≤◌, ◌<◌, ◌⊎◌, ℕ, ◌+◌, ◌*◌, ◌++◌, true, zero, suc, pred, List, [], ◌∷◌, Option, Some, None, length, refl, sym, ap}
use Rattle.std.proofs.Common.{subst, ◌∙◌, arith, inl, inr}
use Rattle.std.specs.Prelude.{slice_get}
use Rattle.std.proofs.lemmas.List.{append-nil}
use Rattle.nq_base.specs.declared.Event.{Event}
use Rattle.nq_base.specs.declared.Request.{Request}
use Rattle.nq_base.specs.declared.Tag.{Tag}
use Rattle.nq_base.specs.declared.Who.{Who}
use Rattle.nq_model.specs.protocol.Client.{Client}
use Rattle.nq_model.specs.protocol.Hear.{wants_of}
use Rattle.nq_model.specs.protocol.Lines.{Play, play, play_flow, flow_first}
use Rattle.nq_model.specs.protocol.Message.{Message, Packet}
use Rattle.nq_model.specs.protocol.Server.{to_host}
use Rattle.nq_model.specs.protocol.World.{from_host}
use Rattle.walk_steps.proofs.Packets.{in-get}
use Rattle.walk_steps.proofs.Worlds.{IsSent, by_host, by_server}
use Rattle.law_rounds.specs.DeliveryEnds.{growth, most_growths}
use Rattle.law_rounds.proofs.ClientSteps.{sum_of}
use Rattle.law_rounds.proofs.Deliver.{GoesOn, Turns, to-client}
use Rattle.law_rounds.proofs.Energy.{energy, energy-most}
use Rattle.law_rounds.proofs.Facts.{asked_for, Facts, AskersHaveRows}
use Rattle.law_rounds.proofs.Forms.{Agree, IsFormed, to_client, alone, paired, Fits, heavy, weight_of, weight-most}
use Rattle.law_rounds.proofs.Items.{Item, one, pair, IsSingle, single, Each, Queued}
use Rattle.law_rounds.proofs.Measures.{left, lower, no-more, jump, growth-some, times-less}
use Rattle.law_rounds.proofs.PairDeliver.{queue-one, two-delivered}
use Rattle.law_rounds.proofs.Plays.{first-play}
use Rattle.law_rounds.proofs.ServerDeliver.{to-server}

pub append-more : (xs ys zs : List Item) → (xs ++ ys) ++ zs ≡ xs ++ (ys ++ zs)
append-more [] ys zs = refl
append-more (x ∷ xs) ys zs = ap (λ rest. x ∷ rest) (append-more xs ys zs)

-- what the clients of a world ask for their calls
abbrev asked_at : Option Client → Option Request
asked_at None = None
asked_at (Some c) = asked_for c.ticket

pub stays-empty : (fuel : ℕ) (p : Play) → p.fresh ≡ [] → (play_flow fuel p).fresh ≡ []
stays-empty zero p none = none
stays-empty (suc fuel) p none = stays-empty fuel (flow_first p.fresh p) (ap (λ ns. (flow_first ns p).fresh) none ∙ none)

module _ (hosts few : ℕ) (turns : Client → ℕ) (has_rows : AskersHaveRows) (Good : Play → Type 0) (facts : (p : Play) → Good p → Facts hosts few turns
    p.world) (goes : (p : Play) (k : ℕ) → Good p → Good (play p (Event.Deliver k))) where
  -- a play in the middle of a delivery: so many turns are left; the older of its items are of this generation, the others of the next
  pub record Stands (turns_then level : ℕ) (asks : ℕ → Option Request) (old new : List Item) (p : Play) : Type 0 where
    pub good : Good p
    pub queue : Queued p.world.packets p.fresh (old ++ new)
    pub agree : Agree hosts asks p.world
    pub few_turns : sum_of turns p.world.clients ≤ turns_then
    pub old_fits : Each (Fits hosts asks level p.world.server) old
    pub new_fits : Each (Fits hosts asks (pred level) p.world.server) new

  abbrev pub exponent : (turns_then level : ℕ) → (ℕ → Option Request) → Play → ℕ
  exponent turns_then zero asks p = turns_then * most_growths hosts + energy hosts asks p.world.server.table.rows
  exponent turns_then (suc level) asks p = turns_then * most_growths hosts + (hosts * (hosts + 2) + suc level)

  abbrev pub weight_at : (level : ℕ) → (ℕ → Option Request) → (old new : List Item) → Play → ℕ
  weight_at zero asks old new p = weight_of few asks p.world.server.table.rows old
  weight_at (suc level) asks old new p = (few + 2) * length old + length new

  abbrev pub remains : (turns_then level : ℕ) → (ℕ → Option Request) → (old new : List Item) → Play → ℕ
  remains turns_then level asks old new p = left (growth few) (exponent turns_then level asks p) (weight_at level asks old new p)

  -- a play with no more left than this
  pub data Ready (most : ℕ) (p : Play) : Type 0 where
    last : (turns_then : ℕ) (asks : ℕ → Option Request) (items : List Item) → Stands turns_then 0 asks items [] p → remains turns_then 0 asks items []
        p ≤ most → Ready most p
    before : (turns_then level : ℕ) (asks : ℕ → Option Request) (i : Item) (old new : List Item) → level ≤ 2 → Stands turns_then (suc level) asks
        (i ∷ old) new p → remains turns_then (suc level) asks (i ∷ old) new p ≤ most → Ready most p

  few-items : (a w : ℕ) → a ≤ w → a ≤ (few + 2) * (w + 1)
  few-items a w less = let one = times-less 1 (few + 2) (w + 1) (omega arith) in omega arith

  -- a generation was delivered
  older : (level turns_then : ℕ) (asks : ℕ → Option Request) (new : List Item) (p : Play) (most : ℕ) → level ≤ 2 → Stands turns_then (suc level) asks
      [] new p → remains turns_then (suc level) asks [] new p ≤ most → Ready most p
  older zero turns_then asks new p most small s less =
      last turns_then asks new
      (record {
        good = s.good;
        queue = subst (λ items. Queued p.world.packets p.fresh items) (sym (append-nil new)) s.queue;
        agree = s.agree;
        few_turns = s.few_turns;
        old_fits = s.new_fits;
        new_fits = tt;
      })
      (let a = energy-most hosts asks p.world.server.table.rows in
      let b = weight-most few asks p.world.server.table.rows new in
      let n = length new in
      let c : (heavy few + 5) * length new ≡ (5 * few + 8) * length new = ap (λ x. x * length new) (omega arith) in
      let e : (few + 2) * 0 + length new ≡ length new = grind arith in
      let d = lower (growth few) (turns_then * most_growths hosts + energy hosts asks p.world.server.table.rows) (turns_then * most_growths hosts
      + (hosts * (hosts + 2) + 1)) ((few + 2) * 0 + length new) (weight_of few asks p.world.server.table.rows new) 0 (growth-some few)
      (omega arith) (jump few (length new) (weight_of few asks p.world.server.table.rows new) ((few + 2) * 0 + length new) 0 (omega arith)
      (few-items (length new) ((few + 2) * 0 + length new) (omega arith)) (omega arith)) in
      omega arith)
  older (suc level) turns_then asks [] p most small s less =
      older level turns_then asks [] p most (omega arith)
      (record { good = s.good; queue = s.queue; agree = s.agree; few_turns = s.few_turns; old_fits = tt; new_fits = tt })
      (let d = no-more (growth few) (turns_then * most_growths hosts + (hosts * (hosts + 2) + suc level)) (turns_then * most_growths hosts
      + (hosts * (hosts + 2) + suc (suc level))) ((few + 2) * 0 + 0) ((few + 2) * 0 + 0) (growth-some few) (omega arith) (omega arith) in
      omega arith)
  older (suc level) turns_then asks (i ∷ new) p most small s less =
      before turns_then level asks i new [] (omega arith)
      (record {
        good = s.good;
        queue = subst (λ items. Queued p.world.packets p.fresh items) (sym (append-nil (i ∷ new))) s.queue;
        agree = s.agree;
        few_turns = s.few_turns;
        old_fits = s.new_fits;
        new_fits = tt;
      })
      (let n = length (i ∷ new) in
      let e : (few + 2) * 0 + length (i ∷ new) ≡ length (i ∷ new) = grind arith in
      let f = times-less (few + 2) (5 * few + 8) (length (i ∷ new)) (omega arith) in
      let d = lower (growth few) (turns_then * most_growths hosts + (hosts * (hosts + 2) + suc level)) (turns_then * most_growths hosts
      + (hosts * (hosts + 2) + suc (suc level))) ((few + 2) * 0 + length (i ∷ new)) ((few + 2) * length (i ∷ new) + 0) 0 (growth-some few)
      (omega arith) (jump few (length (i ∷ new)) ((few + 2) * length (i ∷ new) + 0) ((few + 2) * 0 + length (i ∷ new)) 0 (omega arith)
      (few-items (length (i ∷ new)) ((few + 2) * 0 + length (i ∷ new)) (omega arith)) (omega arith)) in
      omega arith)

  pub ready-of : (turns_then level : ℕ) (asks : ℕ → Option Request) (old new : List Item) (p : Play) (most : ℕ) → level ≤ 2
      → Stands turns_then (suc level) asks old new p → remains turns_then (suc level) asks old new p ≤ most → Ready most p
  ready-of turns_then level asks [] new p most small s less = older level turns_then asks new p most small s less
  ready-of turns_then level asks (i ∷ old) new p most small s less = before turns_then level asks i old new small s less

  -- from here on all that is under way is old
  pub begins : (turns_then : ℕ) (p : Play) (all : List Item) (most : ℕ) → Good p → Queued p.world.packets p.fresh all → Each IsSingle all
      → sum_of turns p.world.clients ≤ turns_then → left (growth few) (turns_then * most_growths hosts + (hosts * (hosts + 2) + 3))
      ((few + 2) * length all + 0) ≤ most → Ready most p
  begins turns_then p all most good queue singles few_turns less =
      ready-of turns_then 2 (λ h. asked_at (slice_get p.world.clients h)) all [] p most (omega arith)
      (record {
        good = good;
        queue = subst (λ items. Queued p.world.packets p.fresh items) (sym (append-nil all)) queue;
        agree = agrees;
        few_turns =
            few_turns;
        old_fits = singles;
        new_fits = tt;
      })
      less
    where
      agrees : Agree hosts (λ h. asked_at (slice_get p.world.clients h)) p.world
      agrees h c is = ap asked_at (sym is)

  -- ---- one step

  pub data Next (most : ℕ) (p : Play) : Type 0 where
    once : (fewer : ℕ) → fewer + 1 ≤ most → Ready fewer (play_flow 1 p) → Next most p
    twice : (fewer : ℕ) → fewer + 2 ≤ most → Ready fewer (play_flow 2 p) → Next most p
    done : p.fresh ≡ [] → Next most p

  -- what a delivery of an item of a generation leads to
  pub data Delivered (turns_then : ℕ) (asks : ℕ → Option Request) (i : Item) (rest : List Item) (p : Play) : Type 0 where
    by_one : (k : ℕ) → flow_first p.fresh p ≡ play p (Event.Deliver k) → GoesOn hosts few turns asks i rest p.world (play p (Event.Deliver k)).world
        (play p (Event.Deliver k)).fresh 1 → Delivered turns_then asks i rest p
    by_turn : (k : ℕ) → flow_first p.fresh p ≡ play p (Event.Deliver k) → Turns hosts few turns asks rest p.world (play p (Event.Deliver k)).world
        (play p (Event.Deliver k)).fresh → Delivered turns_then asks i rest p
    by_two : (k : ℕ) → flow_first p.fresh p ≡ play p (Event.Deliver k) → flow_first (play p (Event.Deliver k)).fresh (play p (Event.Deliver k))
        ≡ play (play p (Event.Deliver k)) (Event.Deliver (k + 1)) → GoesOn hosts few turns asks i rest p.world (play (play p (Event.Deliver k))
        (Event.Deliver (k + 1))).world (play (play p (Event.Deliver k)) (Event.Deliver (k + 1))).fresh 2 → Delivered turns_then asks i rest p

  deliver-one : (turns_then : ℕ) (asks : ℕ → Option Request) (k : ℕ) (q : Packet) (rest : List Item) (p : Play) → Good p → Agree hosts asks p.world
      → Queued p.world.packets p.fresh (one k q ∷ rest) → Delivered turns_then asks (one k q) rest p
  deliver-one turns_then asks k q rest p good agree queue = by ((facts p good).holds.sent q (in-get p.world.packets k q queue.sent.0))
    where
      client : (host : ℕ) (m : Message) → q ≡ to_host host m → Delivered turns_then asks (one k q) rest p
      client host m e = subst (λ z. Delivered turns_then asks (one k z) rest p) (sym e) (which (to-client hosts few turns asks p (facts p good) agree
          k host m rest here))
        where
          here : Queued p.world.packets p.fresh (one k (to_host host m) ∷ rest)
          here = subst (λ z. Queued p.world.packets p.fresh (one k z ∷ rest)) e queue

          which : GoesOn hosts few turns asks (one k (to_host host m)) rest p.world (play p (Event.Deliver k)).world (play p (Event.Deliver k)).fresh
              1 ⊎ Turns hosts few turns asks rest p.world (play p (Event.Deliver k)).world (play p (Event.Deliver k)).fresh → Delivered turns_then
              asks (one k (to_host host m)) rest p
          which (inl on) = by_one k (first-play p k (to_host host m) rest here) on
          which (inr t) = by_turn k (first-play p k (to_host host m) rest here) t

      server : (host : ℕ) (m : Message) → q ≡ from_host host m → Delivered turns_then asks (one k q) rest p
      server host m e =
          let here : Queued p.world.packets p.fresh (one k (from_host host m) ∷ rest) = subst (λ z. Queued p.world.packets p.fresh (one k z ∷ rest)) e queue in
          subst (λ z. Delivered turns_then asks (one k z) rest p) (sym e) (by_one k (first-play p k (from_host host m) rest here)
          (to-server hosts few turns asks p (facts p good) agree k host m rest here))

      by : IsSent q → Delivered turns_then asks (one k q) rest p
      by (by_host host x r w e asker_is) = server host _ e
      by (by_server host m e) = client host m e

  deliver-pair : (turns_then level : ℕ) (asks : ℕ → Option Request) (k host x y file : ℕ) (who : Who) (tag : Tag) (r : Request) (rest : List Item)
      (p : Play) → level ≤ 2 → Good p → Agree hosts asks p.world → Queued p.world.packets p.fresh (pair k host x y file who tag r ∷ rest)
      → IsFormed hosts asks (pair k host x y file who tag r) → Delivered turns_then asks (pair k host x y file who tag r) rest p
  deliver-pair turns_then level asks k host x y file who tag r rest p small good agree queue (to_client n h m e) = absurd (cc)
  deliver-pair turns_then level asks k host x y file who tag r rest p small good agree queue (alone n h z f w g e from below off) = absurd (cc)
  deliver-pair turns_then level asks k host x y file who tag r rest p small good agree queue (paired n h x2 y2 f w g q e from below asked wants) =
      let one_host : host ≡ h = cc in
      let one_who : who ≡ w = cc in
      let one_file : file ≡ f = cc in
      let one_request : r ≡ q = cc in
      let a : who.host ≡ host = ap (λ (z : Who). z.host) one_who ∙ from ∙ sym one_host in
      let b : host < hosts = subst (λ z. z < hosts) (sym one_host) below in
      let c : asks host ≡ Some r = ap asks one_host ∙ asked ∙ ap Some (sym one_request) in
      let d : wants_of file r ≡ true = subst (λ z. wants_of z r ≡ true) (sym one_file) (subst (λ z. wants_of f z ≡ true) (sym one_request) wants) in
      by_two k (first-of) (second-of a b c d) (two-delivered hosts few turns asks has_rows p k host x y file who tag r rest (facts p good)
      (facts (play p (Event.Deliver k)) (goes p k good)) agree queue a b c d)
    where
      first-of : flow_first p.fresh p ≡ play p (Event.Deliver k)
      first-of = ap (λ ns. flow_first ns p) queue.is

      second-of : who.host ≡ host → host < hosts → asks host ≡ Some r → wants_of file r ≡ true → flow_first (play p (Event.Deliver k)).fresh
          (play p (Event.Deliver k)) ≡ play (play p (Event.Deliver k)) (Event.Deliver (k + 1))
      second-of a b c d = ap (λ ns. flow_first ns (play p (Event.Deliver k))) (queue-one hosts few turns asks has_rows p k host x y file who tag r
          rest (facts p good) (facts (play p (Event.Deliver k)) (goes p k good)) agree queue a b c d).is

  pub deliver-item : (turns_then level : ℕ) (asks : ℕ → Option Request) (i : Item) (rest : List Item) (p : Play) → Good p → Agree hosts asks p.world
      → Queued p.world.packets p.fresh (i ∷ rest) → Fits hosts asks level p.world.server i → Delivered turns_then asks i rest p
  deliver-item turns_then level asks (one k q) rest p good agree queue f = deliver-one turns_then asks k q rest p good agree queue
  deliver-item turns_then zero asks (pair k host x y file who tag r) rest p good agree queue f = deliver-pair turns_then 0 asks k host x y file who
      tag r rest p (omega arith) good agree queue f.0
  deliver-item turns_then (suc zero) asks (pair k host x y file who tag r) rest p good agree queue f = deliver-pair turns_then 1 asks k host x y file
      who tag r rest p (omega arith) good agree queue f.0
  deliver-item turns_then (suc (suc zero)) asks (pair k host x y file who tag r) rest p good agree queue f = deliver-pair turns_then 2 asks k host x y
      file who tag r rest p (omega arith) good agree queue f
  deliver-item turns_then (suc (suc (suc level))) asks (pair k host x y file who tag r) rest p good agree queue f = no f
    where
      no : IsSingle (pair k host x y file who tag r) → Delivered turns_then asks (pair k host x y file who tag r) rest p
      no (single n q e) = absurd (cc)
