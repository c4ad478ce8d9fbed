-- Delivery ends, in every run.
use Rattle.std.proofs.Common.{◌≡◌, ◌≤◌, ℕ, ◌+◌, ◌*◌, ◌==◌, ◌&&◌, Bool, true, false, nat_lt, List, [], ◌∷◌, Option, Some, None, length, refl, sym, ap}
use Rattle.std.proofs.Common.{subst, ◌∙◌, arith}
use Rattle.std.specs.Prelude.{sum_by}
use Rattle.std.proofs.lemmas.List.Sums.{sum_by-cons}
use Rattle.nq_base.specs.declared.Call.{Call}
use Rattle.nq_base.specs.declared.Event.{Event}
use Rattle.nq_base.specs.declared.Request.{Request}
use Rattle.nq_model.specs.protocol.Client.{Client, Job, attaching, for_call, renewing, pushing, Ticket, UnderWay}
use Rattle.nq_model.specs.protocol.Lines.{Play, play, play_flow}
use Rattle.nq_model.specs.protocol.Settle.{pending}
use Rattle.nq_model.specs.protocol.Stepped.{most_sends}
use Rattle.nq_model.specs.protocol.World.{Head, step, run}
use Rattle.walk_steps.proofs.NoCrash.{one-first}
use Rattle.law_rounds.specs.Efforts.{writes_to, read_left, lease_left, sent_left, job_left, requests_left, put_delays, may_delay, delays_left}
use Rattle.law_rounds.specs.Turns.{turns_left}
use Rattle.law_rounds.proofs.ClientCount.{client-count}
use Rattle.law_rounds.proofs.EffortCalls.{two-left}
use Rattle.law_rounds.specs.DeliveryEnds.{calmed, delayed_in_all, growth, most_turns, most_growths, enough_for, IsDelivered, DeliveryEnds}
use Rattle.law_rounds.proofs.ClientSteps.{sum_of}
use Rattle.law_rounds.proofs.Ends.{ends}
use Rattle.law_rounds.proofs.Facts.{Facts}
use Rattle.law_rounds.proofs.Flow.{begins}
use Rattle.law_rounds.proofs.Items.{all_numbers, Rise, from-under-way, queue-of}
use Rattle.law_rounds.proofs.Measures.{left, no-more, growth-some, times-more, times-less}
use Rattle.law_rounds.proofs.Plays.{items-most}
use Rattle.law_rounds.proofs.RunFacts.{run-facts, askers-have-rows}
use Rattle.law_rounds.proofs.Skewed.{quiet-parts}
use Rattle.law_rounds.specs.CalmRoundsAreLawful.{IsLawful}
use Rattle.law_rounds.proofs.Turns.{asking-most}

-- ---- the turns of all clients

calls-most : (now : ℕ) (pauses : Bool) (called : Option UnderWay) (ticket : Option Ticket) → requests_left 2 now pauses called ticket ≤ 4
calls-most now true called ticket = omega arith
calls-most now false None ticket = omega arith
calls-most now false (Some u) None = two-left 2 2 u
calls-most now false (Some u) (Some t) = by t.job t.request
  where
    lease : (b : Bool) → lease_left 2 b ≤ 4
    lease true = omega arith
    lease false = omega arith

    read : (op : Call) → read_left 2 u op ≤ 4
    read (Call.Read file block) = omega arith
    read (Call.Fetch file block) = two-left 2 2 u
    read (Call.Write file block body) = two-left 2 2 u
    read (Call.Put file block body) = two-left 2 2 u
    read (Call.Sync file) = two-left 2 2 u
    read (Call.Create name blocks) = two-left 2 2 u
    read (Call.Lookup name) = two-left 2 2 u
    read (Call.Attr file) = two-left 2 2 u
    read (Call.Resize file blocks) = two-left 2 2 u
    read (Call.Remove file) = two-left 2 2 u

    sent : (r : Request) → sent_left 2 now u t.first r ≤ 4
    sent (Request.GetLease who file want) = lease (t.first == now && writes_to file u.call)
    sent (Request.Read who q file block None) = omega arith
    sent (Request.Read who q file block (Some want)) = read u.call
    sent Request.Null = omega arith
    sent (Request.Attach who) = omega arith
    sent (Request.Lookup who name) = omega arith
    sent (Request.Create who seq name blocks) = omega arith
    sent (Request.GetAttr who file) = omega arith
    sent (Request.Write who seq file block first last push body) = omega arith
    sent (Request.Vacated who file tag) = omega arith
    sent (Request.Evicted who file tag) = omega arith
    sent (Request.Resize who seq q file blocks) = omega arith
    sent (Request.Remove who seq q file) = omega arith

    by : (job : Job) (r : Request) → job_left 2 now u t.first r job ≤ 4
    by for_call r = sent r
    by attaching r = two-left 2 2 u
    by renewing r = two-left 2 2 u
    by pushing r = two-left 2 2 u

delays-most : (o : Option UnderWay) → delays_left o ≤ 1
delays-most None = omega arith
delays-most (Some u) = by u.call
  where
    put : (b : Bool) → put_delays b ≤ 1
    put true = omega arith
    put false = omega arith

    by : (op : Call) → may_delay u.written op ≤ 1
    by (Call.Write file block body) = omega arith
    by (Call.Put file block body) = put u.written
    by (Call.Sync file) = omega arith
    by (Call.Create name blocks) = omega arith
    by (Call.Lookup name) = omega arith
    by (Call.Attr file) = omega arith
    by (Call.Read file block) = omega arith
    by (Call.Fetch file block) = omega arith
    by (Call.Resize file blocks) = omega arith
    by (Call.Remove file) = omega arith

turns-most : (clients : List Client) → sum_of turns_left clients ≤ 3 * sum_by pending clients + 9 * length clients
turns-most [] = omega arith
turns-most (c ∷ clients) =
    let calls = calls-most c.now (nat_lt c.now c.pause) c.call c.ticket in
    let delays = delays-most c.call in
    let asking = asking-most c.ticket in
    let rest = turns-most clients in
    let sum = sum_by-cons pending c clients in
    omega arith

-- ---- a play that stands where its events lead

goes-on : (most : ℕ) (head : Head) (p : Play) (k : ℕ) → IsLawful most head p → IsLawful most head (play p (Event.Deliver k))
goes-on most head p k l = record {
  is_run = ap (λ w. step w (Event.Deliver k)) l.is_run;
  bounds = record {
    hosts = l.bounds.hosts;
    first_long = l.bounds.first_long;
    first_short = l.bounds.first_short;
    boots =
        one-first most (Event.Deliver k) p.events tt l.bounds.boots;
  };
  within = λ before part after split host there few. quiet-parts head.hosts most (Event.Deliver k) p.events refl l.within before part after split host
      there few;
}

facts-of : (most : ℕ) (head : Head) (p : Play) → IsLawful most head p → Facts head.hosts most_sends turns_left p.world
facts-of most head p l = subst (λ w. Facts head.hosts most_sends turns_left w) (sym l.is_run) (run-facts most head p.events l.bounds l.within)

-- ---- the bound

exponent-within : (turns most growths rest : ℕ) → turns ≤ most → rest ≤ growths → turns * growths + rest ≤ (most + 1) * growths
exponent-within turns most growths rest less fewer =
    let a = times-less turns most growths less in
    let b = apart most growths in
    omega arith
  where
    apart : (a b : ℕ) → (a + 1) * b ≡ a * b + b
    apart a b = grind arith

within-bound : (few hosts delayed turns items fresh : ℕ) → turns ≤ most_turns hosts delayed → items ≤ fresh
    → left (growth few) (turns * most_growths hosts + (hosts * (hosts + 2) + 3)) ((few + 2) * items + 0) ≤ enough_for few hosts fresh delayed
within-bound few hosts delayed turns items fresh less fewer =
    let c = times-more (few + 2) items fresh fewer in
    no-more (growth few) (turns * most_growths hosts + (hosts * (hosts + 2) + 3)) ((most_turns hosts delayed + 1) * most_growths hosts)
    ((few + 2) * items + 0) ((few + 2) * fresh) (growth-some few)
    (exponent-within turns (most_turns hosts delayed) (most_growths hosts) (hosts * (hosts + 2) + 3) less (omega arith)) (omega arith)

module _ (most : ℕ) (head : Head) (p : Play) (l : IsLawful most head p) (rises : Rise 0 (length p.world.packets) p.fresh) where
  pub delivered : IsDelivered p
  delivered =
      let split = queue-of p.world.packets p.fresh rises in
      let turns = turns-most p.world.clients in
      let count : length p.world.clients ≡ head.hosts = ap (λ w. length w.clients) l.is_run ∙ client-count head p.events in
      let items = items-most split.0 in
      let same : length p.fresh ≡ length (all_numbers split.0) = ap (λ (ns : List ℕ). length ns) split.1.0.is in
      let enough : left (growth most_sends) (most_turns head.hosts (delayed_in_all p.world.clients) * most_growths head.hosts
      + (head.hosts * (head.hosts + 2) + 3)) ((most_sends + 2) * length split.0 + 0) ≤ enough_for most_sends head.hosts (length p.fresh)
      (delayed_in_all p.world.clients) = within-bound most_sends head.hosts (delayed_in_all p.world.clients)
      (most_turns head.hosts (delayed_in_all p.world.clients)) (length split.0) (length p.fresh) (omega arith) (omega arith) in
      let ready = begins head.hosts most_sends turns_left askers-have-rows (IsLawful most head) (facts-of most head) (goes-on most head)
      (most_turns head.hosts (delayed_in_all p.world.clients)) p split.0
      (left (growth most_sends) (most_turns head.hosts (delayed_in_all p.world.clients) * most_growths head.hosts + (head.hosts * (head.hosts + 2)
      + 3)) ((most_sends + 2) * length split.0 + 0)) l split.1.0 split.1.1 (omega arith) (omega arith) in
      subst (λ n. (play_flow (enough_for most_sends n (length p.fresh) (delayed_in_all p.world.clients)) p).fresh ≡ []) (sym count)
      (ends head.hosts most_sends turns_left askers-have-rows (IsLawful most head) (facts-of most head) (goes-on most head)
      (enough_for most_sends head.hosts (length p.fresh) (delayed_in_all p.world.clients)) (enough_for most_sends head.hosts (length p.fresh)
      (delayed_in_all p.world.clients)) (left (growth most_sends) (most_turns head.hosts (delayed_in_all p.world.clients) * most_growths
      head.hosts + (head.hosts * (head.hosts + 2) + 3)) ((most_sends + 2) * length split.0 + 0)) p (omega arith) enough ready)

pub deliveries-end : DeliveryEnds
unfolding calmed
deliveries-end most head events bounds within under_way all =
    delivered most head (calmed head events under_way) (record { is_run = refl; bounds = bounds; within = within })
    (from-under-way (length (run head events).packets) under_way all)
