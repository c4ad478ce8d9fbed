-- A turn of a loop in which all comes in time: what it leaves of the calls, of the rounds since the last of them, and of the server's time.
use Rattle.std.proofs.Common.{◌≡◌, ◌≤◌, ◌<◌, ◌⊎◌, ℕ, ◌+◌, ◌*◌, ◌==◌, Bool, true, false, zero, suc, List, [], ◌∷◌, Option, Some, None, Ok, length}
use Rattle.std.proofs.Common.{refl, sym, subst, ap, ◌∙◌, arith, inl, inr, add-mul}
use Rattle.std.proofs.lemmas.Bool.{and_parts}
use Rattle.std.proofs.lemmas.Bool.Decides.{nat_tests}
use Rattle.nq_base.specs.declared.Call.{Call}
use Rattle.nq_base.specs.declared.Event.{Event}
use Rattle.nq_base.specs.declared.Party.{Party}
use Rattle.nq_loop.specs.Counting.{begins, begun_in}
use Rattle.nq_loop.specs.Looping.{Moment, GivesDue, Delivers, Takes, TakesIn, came_to, given, call, receive, Makes, call_due, round_steps}
use Rattle.nq_loop.specs.Looping.{rounds_steps, call_steps, receive_steps}
use Rattle.nq_loop.specs.Steps.{MakesAll, each_below}
use Rattle.nq_model.specs.protocol.Lines.{Play, play, play_hosts, play_rounds}
use Rattle.nq_model.specs.protocol.Server.{Server}
use Rattle.nq_model.specs.protocol.World.{Head, World}
use Rattle.nq_link.specs.Packets.{Datagram}
use Rattle.nq_link.specs.Links.{Letter}
use Rattle.law_rounds.proofs.ClientCount.{client-count}
use Rattle.law_rounds.specs.CalmRoundsAreLawful.{IsLawful}
use Rattle.law_rounds.specs.RoundsEndQuiet.{IsSmall}
use Rattle.law_rounds.proofs.Flows.{small-before}
use Rattle.law_rounds.proofs.RecoveryRounds.{delivered-now, round-now}
use Rattle.walk_steps.proofs.Rows.{same-number}
use Rattle.nq_laws.specs.WholeCallsAnswered.{served_rounds_for}
use Rattle.nq_loop.specs.InTime.{played, none_under_way, comes_in_time, all_in_time}
use Rattle.nq_loop.specs.LoopsAreAnswered.{most_due}
use Rattle.nq_loop.proofs.HostsCounts.{begun_all, all-same, begins-own, begins-other, one-more, due-some}
use Rattle.nq_loop.proofs.Steps.{in-parts, below-keeps}
use Rattle.nq_loop.proofs.Windows.{Window, lawful-now, window-delivers, window-ticks, window-calls, call-server, round-last}

-- ---- numbers

a-tick-later : (before now allowed then n : ℕ) → now ≡ before + 1 → before ≤ allowed + n → then ≡ allowed → now ≤ then + (n + 1)
a-tick-later before now allowed then n one low same = omega arith

as-late : (before now allowed then n : ℕ) → now ≡ before → before ≤ allowed + n → then ≡ allowed → now ≤ then + n
as-late before now allowed then n one low same = omega arith

one-call-later : (before now allowed then n most : ℕ) → now ≡ before → before ≤ allowed + n → n < most → then ≡ allowed + 1 * most → now ≤ then + 0
one-call-later before now allowed then n most same low few more = omega arith

-- ---- the ticks of a round

-- the clocks of so many hosts ticked
ticked : (count : ℕ) → List Event → List Event
ticked zero events = events
ticked (suc count) events = Event.ClientTick count ∷ ticked count events

hosts-last : (count h : ℕ) (p : Play) → play_hosts (suc count) h p ≡ play (play_hosts count h p) (Event.ClientTick (h + count))
hosts-last zero h p = let e : h ≡ h + 0 = omega arith in ap (λ n. play p (Event.ClientTick n)) e
hosts-last (suc count) h p =
    let e : (h + 1) + count ≡ h + suc count = omega arith in
    hosts-last count (h + 1) (play p (Event.ClientTick h)) ∙ ap (λ n. play (play_hosts count (h + 1) (play p (Event.ClientTick h))) (Event.ClientTick n)) e

empty-is : (under_way : List ℕ) → none_under_way under_way ≡ true → under_way ≡ []
empty-is [] e = refl
empty-is (k ∷ under_way) e = absurd (cc)

module _ (most : ℕ) (head : Head) where
  played-ticked : (count : ℕ) (events : List Event) → played head (ticked count events) ≡ play_hosts count 0 (played head events)
  unfolding ticked
  played-ticked zero events = refl
  played-ticked (suc count) events =
      let e : 0 + count ≡ count = omega arith in
      ap (λ (p : Play). play p (Event.ClientTick count)) (played-ticked count events)
      ∙ ap (λ n. play (play_hosts count 0 (played head events)) (Event.ClientTick n)) (sym e)
      ∙ sym (hosts-last count 0 (played head events))

  small-ticked : (count : ℕ) (events : List Event) → IsSmall (played head (ticked count events)) → IsSmall (played head events)
  unfolding ticked
  small-ticked zero events small = small
  small-ticked (suc count) events small =
      small-ticked count events (small-before (played head (ticked count events)) (Event.ClientTick count) small)

  begun-ticked : (h count : ℕ) (events : List Event) → begun_in h (ticked count events) ≡ begun_in h events
  unfolding ticked
  begun-ticked h zero events = refl
  begun-ticked h (suc count) events = let rest = begun-ticked h count events in omega arith

  -- the first of them came when nothing was under way
  in-time-ticked : (count : ℕ) (events : List Event) → all_in_time head (ticked count events) ≡ true
      → (all_in_time head events ≡ true) × (0 < count → (played head events).fresh ≡ [])
  unfolding ticked
  in-time-ticked zero events e = (e, λ some. absurd (omega arith))
  in-time-ticked (suc count) events e =
      let parts = and_parts (comes_in_time (played head (ticked count events)) (Event.ClientTick count)) (all_in_time head (ticked count events)) e in
      let rest = in-time-ticked count events parts.1 in
      (rest.0, λ some. first count rest.1 parts.0)
    where
      first : (n : ℕ) → (0 < n → (played head events).fresh ≡ [])
          → comes_in_time (played head (ticked n events)) (Event.ClientTick n) ≡ true → (played head events).fresh ≡ []
      first zero before comes = empty-is (played head events).fresh comes
      first (suc n) before comes = before (omega arith)

  -- ---- what holds between steps

  -- since the last call so many rounds passed. Each host began three calls at most, and the server's time is no later than these allow
  pub record Since (events : List Event) (n : ℕ) : Type 0 where
    pub window : Window most head events n
    pub few : (h : ℕ) → begun_in h events ≤ 3
    pub time : (played head events).world.server.now ≤ begun_all head.hosts events * (served_rounds_for head.hosts + most_due) + n

  pub record Before (bound : ℕ) (events : List Event) : Type 0 where
    pub rounds : ℕ
    pub since : Since events rounds
    pub fewer : rounds < bound

  -- in the midst of the calls of a turn: one began, or none is due to these hosts
  pub record Calling (upto : ℕ) (events : List Event) : Type 0 where
    pub rounds : ℕ
    pub since : Since events rounds
    pub fewer : rounds < served_rounds_for head.hosts + most_due
    pub none_due : (rounds ≡ 0) ⊎ ((h : ℕ) → h < upto → call_due head h events ≡ None)

  -- behind a turn: not long ago a call began, or all hosts began their three
  pub record Behind (events : List Event) : Type 0 where
    pub rounds : ℕ
    pub since : Since events rounds
    pub ended : (rounds < served_rounds_for head.hosts) ⊎ ((h : ℕ) → h < head.hosts → 3 ≤ begun_in h events)

  -- where all came in time so far
  abbrev pub Given : (List Event → Type 0) → List Event → Type 0
  Given P events = all_in_time head events ≡ true → IsSmall (played head events) → P events

  -- ---- a round

  module _ (some : 0 < head.hosts) where
    round-goes : (bound : ℕ) (events : List Event) → Given (Before bound) events → Given (Before (bound + 1)) (Event.ServerTick ∷ ticked head.hosts events)
    round-goes bound events before in_time small = by (before parts.0 (small-ticked head.hosts events ticks_small))
      where
        parts : (all_in_time head events ≡ true) × (0 < head.hosts → (played head events).fresh ≡ [])
        parts = in-time-ticked head.hosts events in_time

        ticks_small : IsSmall (played head (ticked head.hosts events))
        ticks_small = small-before (played head (ticked head.hosts events)) Event.ServerTick small

        by : Before bound events → Before (bound + 1) (Event.ServerTick ∷ ticked head.hosts events)
        by b = record {
          rounds = b.rounds + 1;
          since = record {
            window = window-ticks most head events b.rounds b.since.window (Event.ServerTick ∷ ticked head.hosts events) (parts.1 some) is;
            few = λ h. let same = begun-ticked h head.hosts events in let old = b.since.few h in omega arith;
            time = time;
          };
          fewer = let low = b.fewer in omega arith;
        }
          where
            lawful : IsLawful most head (played head events)
            lawful = lawful-now most head events b.rounds b.since.window

            hosts : length (played head events).world.clients ≡ head.hosts
            hosts = ap (λ (w : World). length w.clients) lawful.is_run ∙ client-count head (played head events).events

            is : played head (Event.ServerTick ∷ ticked head.hosts events) ≡ play_rounds 1 (played head events)
            is = ap (λ (p : Play). play p Event.ServerTick) (played-ticked head.hosts events ∙ ap (λ n. play_hosts n 0 (played head events)) (sym hosts))

            time : (played head (Event.ServerTick ∷ ticked head.hosts events)).world.server.now
                ≤ begun_all head.hosts (Event.ServerTick ∷ ticked head.hosts events) * (served_rounds_for head.hosts + most_due) + (b.rounds + 1)
            time =
                let one : (played head (Event.ServerTick ∷ ticked head.hosts events)).world.server.now ≡ (played head events).world.server.now + 1 =
                ap (λ (p : Play). p.world.server.now) (is ∙ round-last [] (played head events)) ∙ round-now most head 0 [] (played head events) in
                a-tick-later (played head events).world.server.now (played head (Event.ServerTick ∷ ticked head.hosts events)).world.server.now
                (begun_all head.hosts events * (served_rounds_for head.hosts + most_due))
                (begun_all head.hosts (Event.ServerTick ∷ ticked head.hosts events) * (served_rounds_for head.hosts + most_due)) b.rounds one b.since.time
                (ap (λ n. n * (served_rounds_for head.hosts + most_due)) (all-same head.hosts (Event.ServerTick ∷ ticked head.hosts events) events
                (λ h. let e = begun-ticked h head.hosts events in omega arith)))

    round-keeps : (bound : ℕ) (moved : Bool) (at after : Moment) → MakesAll (Makes head) (round_steps head.hosts) moved at after
        → Given (Before bound) at.events → Given (Before (bound + 1)) after.events
    unfolding ticked
    round-keeps bound moved at after all before =
        let parts = in-parts head (each_below head.hosts (λ host. given (Event.ClientTick host))) (given Event.ServerTick ∷ []) moved at after all in
        let hosts : parts.between.events ≡ ticked head.hosts at.events = below-keeps head (λ n m. m.events ≡ ticked n at.events)
        (λ host. given (Event.ClientTick host)) head.hosts one-tick head.hosts parts.one at parts.between (omega arith) parts.first no_tick in
        let last = parts.second in
        let server : after.events ≡ Event.ServerTick ∷ ticked head.hosts at.events = ap (λ (m : Moment). m.events) last.4.1 ∙ last.3.1.taken
        ∙ ap (λ es. Event.ServerTick ∷ es) hosts in
        subst (Given (Before (bound + 1))) (sym server) (round-goes bound at.events before)
      where
        no_tick : at.events ≡ ticked 0 at.events
        no_tick = refl

        one-tick : (i : ℕ) (moved : Bool) (from to : Moment) → i < head.hosts → Makes head (given (Event.ClientTick i)) (Ok moved) from to
            → from.events ≡ ticked i at.events → to.events ≡ ticked (suc i) at.events
        one-tick i moved from to low makes is = makes.1.taken ∙ ap (λ es. Event.ClientTick i ∷ es) is

    pub rounds-keep : (bound count : ℕ) (moved : Bool) (at after : Moment) → MakesAll (Makes head) (rounds_steps head.hosts count) moved at after
        → Given (Before bound) at.events → Given (Before (bound + count)) after.events
    rounds-keep bound zero moved at after all before =
        let e : bound ≡ bound + 0 = omega arith in
        subst (λ n. Given (Before n) after.events) e (subst (Given (Before bound)) (ap (λ (m : Moment). m.events) (sym all.1)) before)
    rounds-keep bound (suc count) moved at after all before =
        let parts = in-parts head (rounds_steps head.hosts count) (round_steps head.hosts) moved at after all in
        let e : (bound + count) + 1 ≡ bound + suc count = omega arith in
        subst (λ n. Given (Before n) after.events) e (round-keeps (bound + count) parts.other parts.between after parts.second
        (rounds-keep bound count parts.one at parts.between parts.first before))

  -- ---- the calls

  -- a call begins
  call-goes : (i upto : ℕ) (op : Call) (events : List Event) → i < head.hosts → begun_in i events < 3 → Given (Calling upto) events
      → Given (Calling (suc upto)) (Event.Call i op ∷ events)
  call-goes i upto op events low free before in_time small = by (before in_time (small-before (played head events) (Event.Call i op) small))
    where
      by : Calling upto events → Calling (suc upto) (Event.Call i op ∷ events)
      by c = record {
        rounds = 0;
        since = record {
          window = window-calls most head events c.rounds c.since.window i op;
          few = λ h. few h (i == h) refl;
          time = time;
        };
        fewer = omega arith;
        none_due = inl refl;
      }
        where
          few : (h : ℕ) (b : Bool) → (i == h) ≡ b → begun_in h (Event.Call i op ∷ events) ≤ 3
          few h true e =
              let same = same-number i h e in
              let one : begins h (Event.Call i op) ≡ 1 = subst (λ n. begins n (Event.Call i op) ≡ 1) same (begins-own i op) in
              let fewer : begun_in h events < 3 = subst (λ n. begun_in n events < 3) same free in
              omega arith
          few h false e = let none = begins-other h i op e in let old = c.since.few h in omega arith

          time : (played head (Event.Call i op ∷ events)).world.server.now
              ≤ begun_all head.hosts (Event.Call i op ∷ events) * (served_rounds_for head.hosts + most_due) + 0
          time =
              let same : (played head (Event.Call i op ∷ events)).world.server.now ≡ (played head events).world.server.now =
              ap (λ (s : Server). s.now) (call-server (played head events).world i op) in
              let more : begun_all head.hosts (Event.Call i op ∷ events) * (served_rounds_for head.hosts + most_due)
              ≡ begun_all head.hosts events * (served_rounds_for head.hosts + most_due) + 1 * (served_rounds_for head.hosts + most_due) =
              ap (λ n. n * (served_rounds_for head.hosts + most_due)) (one-more head.hosts i op events low)
              ∙ add-mul (begun_all head.hosts events) 1 (served_rounds_for head.hosts + most_due) in
              one-call-later (played head events).world.server.now (played head (Event.Call i op ∷ events)).world.server.now
              (begun_all head.hosts events * (served_rounds_for head.hosts + most_due))
              (begun_all head.hosts (Event.Call i op ∷ events) * (served_rounds_for head.hosts + most_due)) c.rounds (served_rounds_for head.hosts + most_due)
              same c.since.time c.fewer more

  call-keeps : (i : ℕ) (moved : Bool) (at after : Moment) → i < head.hosts → Makes head (call i) (Ok moved) at after → Given (Calling i) at.events
      → Given (Calling (suc i)) after.events
  call-keeps i moved at after low makes before = by (call_due head i at.events) refl makes
    where
      goes-on : call_due head i at.events ≡ None → Given (Calling (suc i)) at.events
      goes-on none in_time small =
          let c = before in_time small in
          record { rounds = c.rounds; since = c.since; fewer = c.fewer; none_due = which c.none_due }
        where
          which : {n : ℕ} → (n ≡ 0) ⊎ ((h : ℕ) → h < i → call_due head h at.events ≡ None)
              → (n ≡ 0) ⊎ ((h : ℕ) → h < suc i → call_due head h at.events ≡ None)
          which (inl began) = inl began
          which (inr all) = inr (λ h below. case h below (i == h) refl)
            where
              case : (h : ℕ) → h < suc i → (b : Bool) → (i == h) ≡ b → call_due head h at.events ≡ None
              case h below true e = subst (λ n. call_due head n at.events ≡ None) (same-number i h e) none
              case h below false e = all h (lower h below e)
                where
                  lower : (h : ℕ) → h < suc i → (i == h) ≡ false → h < i
                  lower h below e = grind (arith, nat_tests)

      by : (o : Option Event) → call_due head i at.events ≡ o → GivesDue head o (Ok moved) at after → Given (Calling (suc i)) after.events
      by None none g = subst (Given (Calling (suc i))) (ap (λ (m : Moment). m.events) (sym g.1)) (goes-on none)
      by (Some event) due g =
          let d = due-some head i at.events event due in
          let is : after.events ≡ Event.Call i d.0 ∷ at.events = g.1.taken ∙ ap (λ e. e ∷ at.events) d.1 in
          subst (Given (Calling (suc i))) (sym is) (call-goes i i d.0 at.events low d.2 before)

  -- ---- what is received

  delivery-goes : (k : ℕ) (events : List Event) → Given Behind events → Given Behind (Event.Deliver k ∷ events)
  delivery-goes k events before in_time small = by (before parts.1 (small-before (played head events) (Event.Deliver k) small))
    where
      parts : (comes_in_time (played head events) (Event.Deliver k) ≡ true) × (all_in_time head events ≡ true)
      parts = and_parts (comes_in_time (played head events) (Event.Deliver k)) (all_in_time head events) in_time

      by : Behind events → Behind (Event.Deliver k ∷ events)
      by b = record {
        rounds = b.rounds;
        since = record {
          window = window-delivers most head events b.rounds b.since.window k parts.0;
          few = λ h. let old = b.since.few h in omega arith;
          time = time;
        };
        ended = which b.ended;
      }
        where
          which : {n : ℕ} → (n < served_rounds_for head.hosts) ⊎ ((h : ℕ) → h < head.hosts → 3 ≤ begun_in h events)
              → (n < served_rounds_for head.hosts) ⊎ ((h : ℕ) → h < head.hosts → 3 ≤ begun_in h (Event.Deliver k ∷ events))
          which (inl soon) = inl soon
          which (inr all) = inr (λ h low. let old = all h low in omega arith)

          time : (played head (Event.Deliver k ∷ events)).world.server.now
              ≤ begun_all head.hosts (Event.Deliver k ∷ events) * (served_rounds_for head.hosts + most_due) + b.rounds
          time =
              as-late (played head events).world.server.now (played head (Event.Deliver k ∷ events)).world.server.now
              (begun_all head.hosts events * (served_rounds_for head.hosts + most_due))
              (begun_all head.hosts (Event.Deliver k ∷ events) * (served_rounds_for head.hosts + most_due)) b.rounds
              (delivered-now (played head events).world k) b.since.time
              (ap (λ n. n * (served_rounds_for head.hosts + most_due)) (all-same head.hosts (Event.Deliver k ∷ events) events (λ h. omega arith)))

  receive-keeps : (party : Party) (moved : Bool) (at after : Moment) → Makes head (receive party) (Ok moved) at after → Given Behind at.events
      → Given Behind after.events
  receive-keeps party moved at after (inr unheard) before = let no = unheard.why in absurd (cc)
  receive-keeps party moved at after (inl heard) before = by heard.came heard.takes
    where
      same-events : (m : Moment) → m.events ≡ at.events → after ≡ m → Given Behind after.events
      same-events m same is = subst (Given Behind) (sym (ap (λ (x : Moment). x.events) is ∙ same)) before

      delivers : (o : Option ℕ) → Delivers head o (Ok moved) (record at { links = heard.links }) after → Given Behind after.events
      delivers None d = same-events (record at { links = heard.links }) refl d.1
      delivers (Some k) d = subst (Given Behind) (sym d.1.taken) (delivery-goes k at.events before)

      takes : (d : Datagram) → Takes head d (Ok moved) (record at { links = heard.links }) after → Given Behind after.events
      takes d (inl c) = delivers c.number c.delivers
      takes d (inr wants) = let no = wants.0 in absurd (cc)

      by : (o : Option Letter) → TakesIn head party o (Ok moved) (record at { links = heard.links }) after → Given Behind after.events
      by None t = same-events (record at { links = heard.links }) refl t.1
      by (Some letter) t = takes (came_to party letter) t

  pub receives-keep : (moved : Bool) (at after : Moment) → MakesAll (Makes head) (receive_steps head.hosts) moved at after → Given Behind at.events
      → Given Behind after.events
  receives-keep moved at after all before =
      below-keeps head (λ n m. Given Behind m.events) (λ host. receive (Party.Client host)) head.hosts
      (λ i m from to low makes b. receive-keeps (Party.Client i) m from to makes b) head.hosts all.1 all.2 after (omega arith) all.4
      (receive-keeps Party.Server all.0 at all.2 all.3 before)

  pub calls-keep : (moved : Bool) (at after : Moment) → MakesAll (Makes head) (call_steps head.hosts) moved at after → Given (Calling 0) at.events
      → Given (Calling head.hosts) after.events
  calls-keep moved at after all before = below-keeps head (λ n m. Given (Calling n) m.events) call head.hosts
      (λ i m from to low makes b. call-keeps i m from to low makes b) head.hosts moved at after (omega arith) all before
