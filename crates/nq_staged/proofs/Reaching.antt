-- The parts of a world come to the end of a staged run, and go on.
use Rattle.std.proofs.Common.{◌≡◌, ◌≤◌, ◌<◌, ℕ, ◌+◌, Bool, true, List, [], ◌∷◌, ◌++◌, length, drop, take, map, reverse, Option, Some, None, refl, sym}
use Rattle.std.proofs.Common.{ap, subst, ◌∙◌, arith}
use Rattle.std.proofs.lemmas.List.{length-map, map_more, reverse-append, take_all}
use Rattle.std.proofs.lemmas.Bool.Decides.{nat_tests}
use Rattle.std.proofs.lemmas.Option.{get_or_from_slice_get}
use Rattle.std.specs.Prelude.{IfSome, nat_lt, slice_get}
use Rattle.nq_base.specs.declared.Event.{Event}
use Rattle.nq_base.specs.declared.Party.{Party}
use Rattle.nq_client.specs.Counted.{Counted}
use Rattle.nq_datagrams.specs.Messages.{bytes_of}
use Rattle.nq_model.specs.protocol.Client.{Client}
use Rattle.nq_model.specs.protocol.Kept.{Kept}
use Rattle.nq_model.specs.protocol.Message.{Packet}
use Rattle.nq_model.specs.protocol.Stepped.{most_events, stepped}
use Rattle.nq_model.specs.protocol.World.{Head, World, run, start, step}
use Rattle.nq_stage.specs.declared.Pushed.{Pushed}
use Rattle.nq_stage.specs.Shortening.{shortening}
use Rattle.nq_stage.specs.Staged.{new_stager}
use Rattle.nq_stage.specs.declared.run.event.StagedEvent.{StagedEvent}
use Rattle.nq_stage.specs.Outer.{Outer, Outside, Side, outside_start}
use Rattle.nq_stage.specs.Outside.{inner, outside_run, outside_step, renewed, sends, sends_all, sends_as, sends_by, sends_from}
use Rattle.nq_stage.specs.Theorem.{IsStagedSchedule, StagedBrings}
use Rattle.nq_stage.proofs.Inner.{Inner, runs-inside, sent-all}
use Rattle.nq_stage.proofs.Rebuilt.{each-is-delivered, each-stands, rebuilds-what-was-meant}
use Rattle.nq_stage.specs.Lawful.{IsLawful}
use Rattle.nq_world.proofs.Going.{runs-are-lawful}
use Rattle.nq_world.specs.Answering.{told as answer_of}
use Rattle.nq_world.specs.Playing.{Plays, WorldOver, seen_of}
use Rattle.nq_world.specs.Shown.{datagram}
use Rattle.nq_world.specs.declared.Stepped.{Stepped}
use Rattle.nq_staged.proofs.Agreeing.{left-first}
use Rattle.nq_staged.proofs.Growing.{grows}
use Rattle.nq_staged.proofs.Sending.{settled-shows, there}
use Rattle.nq_staged.specs.Around.{AroundOver, counted, new_around, once_sent, over, renewed_around, shown, with_due}
use Rattle.nq_staged.specs.Worlds.{IsFaithful, IsLeft, IsReady, Leads, PlaysOutside, Reaches, RunsInner, StagedOver, stepped_outside, tested_outside}
use Rattle.nq_staged.specs.Taking.{running}

-- there are as many datagrams as packets
pub as-many : {K : Type 0} (head : Head) (events : List Event) (w : WorldOver K) (told : Option Kept) → Plays head events w told → length w.datagrams
    ≡ length (run head events).packets
as-many head events w told plays = ap length plays.shown.shows.datagrams ∙ length-map (run head events).packets datagram

pub reverse-more : {X : Type 0} (xs : List X) (x : X) → reverse (xs ++ x ∷ []) ≡ x ∷ reverse xs
reverse-more xs x = reverse-append xs (x ∷ [])

nothing-left : {X : Type 0} (xs : List X) → drop (length xs) xs ≡ []
nothing-left [] = refl
nothing-left (x ∷ xs) = nothing-left xs

-- ---- what is shown is of the inner world and its events

due-inner : (o : Outside) (due : Option Outer) → Inner (with_due due o) ≡ Inner o
unfolding sends
due-inner o None = refl
due-inner o (Some p) = refl

pub shown-inner : (w : World) (ran : List Event) (a : AroundOver) → Inner (shown w ran a) ≡ (w, ran)
shown-inner w ran a = sent-all (once_sent w ran a) a.gone (drop a.gone w.packets) ∙ due-inner (over w ran a) a.due

pub reached-inner : {K : Type 0} (head : Head) (events : List StagedEvent) (w : StagedOver K) (told : Option Kept) → Reaches head events w told
    → Inner (outside_run head events) ≡ (run head (reverse w.ran), reverse w.ran)
reached-inner head events w told r = ap Inner (sym r.shows) ∙ shown-inner (run head (reverse w.ran)) (reverse w.ran) w.around

pub reached-ran : {K : Type 0} (head : Head) (events : List StagedEvent) (w : StagedOver K) (told : Option Kept) → Reaches head events w told
    → (outside_run head events).ran ≡ reverse w.ran
reached-ran head events w told r = ap (λ i. i.1) (reached-inner head events w told r)

-- where all has gone out, what stands around is the run's
pub reached-over : {K : Type 0} (head : Head) (events : List StagedEvent) (w : StagedOver K) (told : Option Kept) → IsReady w → Reaches head events w
    told → outside_run head events ≡ over (run head (reverse w.ran)) (reverse w.ran) w.around
reached-over head events w told ready r =
    sym r.shows ∙ settled-shows (run head (reverse w.ran)) (reverse w.ran) w.around (length w.inner.datagrams) ready (as-many head (reverse w.ran)
    w.inner told r.inner)

-- ---- as before

pub reaches-same : {K : Type 0} (head : Head) (events : List StagedEvent) (old new : StagedOver K) (told tells : Option Kept)
    → Reaches head events old told → Plays head (reverse old.ran) new.inner tells → new.ran ≡ old.ran → new.around ≡ old.around → Reaches head events new tells
reaches-same head events old new told tells r plays ran around =
    let first : length old.inner.datagrams ≡ length (run head (reverse old.ran)).packets = as-many head (reverse old.ran) old.inner told r.inner in
    let then : length new.inner.datagrams ≡ length (run head (reverse old.ran)).packets = as-many head (reverse old.ran) new.inner tells plays in
    let gone : old.around.gone ≤ length old.inner.datagrams = r.gone in
    record {
      inner = subst (λ l. Plays head (reverse l) new.inner tells) (sym ran) plays;
      shows = ap (λ l. shown (run head (reverse l)) (reverse l) new.around) ran ∙ ap (shown (run head (reverse old.ran)) (reverse old.ran)) around ∙ r.shows;
      gone = subst (λ (a : AroundOver). a.gone ≤ length new.inner.datagrams) (sym around) (omega arith);
      schedule = r.schedule;
      faithful = r.faithful;
    }

-- ---- with an event

one-fewer : (n most : ℕ) → nat_lt n most ≡ true → n + 1 ≤ most
one-fewer n most is = grind (arith, nat_tests)

-- a staged schedule goes on with an event that was to be taken and brings a block
pub schedule-more : (head : Head) (events : List StagedEvent) (event : StagedEvent) → IsStagedSchedule head events → StagedBrings event
    → IsLeft (stepped_outside head events event) → IsStagedSchedule head (event ∷ events)
schedule-more head events event s brings left =
    let few : nat_lt (length events) most_events ≡ true = (left-first (nat_lt (length events) most_events)
    (tested_outside head (outside_run head events) event) left).0 in
    let one : length events + 1 ≤ most_events = one-fewer (length events) most_events few in
    record { hosts = s.hosts; few = omega arith; brings = (brings, s.brings) }

-- the staged run around a world that plays its inner run is faithful
faithful-run : {K : Type 0} (head : Head) (events : List StagedEvent) (w : WorldOver K) (ran : List Event) (told : Option Kept)
    → Plays head ran w told → (outside_run head events).ran ≡ ran → IsStagedSchedule head events → IsFaithful head (outside_run head events)
faithful-run head events w ran told plays is schedule =
    let lawful = runs-are-lawful head ran (seen_of w) w.skew plays.shown in
    record {
      runs = runs-inside head events;
      lawful = subst (IsLawful head.longest head) (sym is) (record { bounds = lawful.1; skew = lawful.2 });
      rebuilds = rebuilds-what-was-meant head events schedule;
      stands = each-stands head events schedule;
      delivers = each-is-delivered head events schedule;
    }

-- an event that is none of the inner world
pub reaches-beside : {K : Type 0} (head : Head) (events : List StagedEvent) (event : StagedEvent) (old new : StagedOver K) (told : Option Kept)
    → IsReady old → Reaches head events old told
    → new.inner ≡ old.inner → new.ran ≡ old.ran → new.around.gone ≡ old.around.gone
    → once_sent (run head (reverse old.ran)) (reverse old.ran) new.around ≡ outside_step (over (run head (reverse old.ran)) (reverse old.ran) old.around) event
    → IsStagedSchedule head (event ∷ events)
    → Reaches head (event ∷ events) new told
reaches-beside head events event old new told ready r inner ran gone leads schedule =
    let rn = reverse old.ran in
    let w = run head rn in
    let many : length old.inner.datagrams ≡ length w.packets = as-many head rn old.inner told r.inner in
    let all : length old.inner.datagrams ≡ old.around.gone = ready.all_gone in
    let none : drop new.around.gone w.packets ≡ [] = ap (λ n. drop n w.packets) (gone ∙ sym all ∙ many) ∙ nothing-left w.packets in
    let here : shown w rn new.around ≡ once_sent w rn new.around = ap (λ ps. sends_all (once_sent w rn new.around) new.around.gone ps) none in
    let next : shown w rn new.around ≡ outside_run head (event ∷ events) = here ∙ leads ∙ ap (λ o. outside_step o event)
    (sym (reached-over head events old told ready r)) in
    let events-are : (outside_run head (event ∷ events)).ran ≡ rn = ap (λ o. o.ran) (sym next) ∙ ap (λ i. i.1) (shown-inner w rn new.around) in
    let plays : Plays head rn new.inner told = subst (λ i. Plays head rn i told) (sym inner) r.inner in
    record {
      inner = subst (λ l. Plays head (reverse l) new.inner told) (sym ran) plays;
      shows = ap (λ l. shown (run head (reverse l)) (reverse l) new.around) ran ∙ next;
      gone = subst (λ (i : WorldOver _). new.around.gone ≤ length i.datagrams) (sym inner) (omega arith);
      schedule = schedule;
      faithful = faithful-run head (event ∷ events) new.inner rn told plays events-are schedule;
    }

-- an event of the inner world
renewed-over : (event : Event) (w v : World) (ran : List Event) (a : AroundOver) → over v (event ∷ ran) (renewed_around event v a)
    ≡ renewed (over w ran a) event v
renewed-over (Event.Call host op) w v ran a = refl
renewed-over (Event.Deliver k) w v ran a = refl
renewed-over Event.ServerTick w v ran a = refl
renewed-over (Event.ClientTick host) w v ran a = refl
renewed-over (Event.Restart host) w v ran a = refl
renewed-over (Event.Crash longest) w v ran a = refl

renewed-due : (event : Event) (v : World) (a : AroundOver) → (renewed_around event v a).due ≡ a.due
renewed-due (Event.Call host op) v a = refl
renewed-due (Event.Deliver k) v a = refl
renewed-due Event.ServerTick v a = refl
renewed-due (Event.ClientTick host) v a = refl
renewed-due (Event.Restart host) v a = refl
renewed-due (Event.Crash longest) v a = refl

renewed-gone : (event : Event) (v : World) (a : AroundOver) → (renewed_around event v a).gone ≡ a.gone
renewed-gone (Event.Call host op) v a = refl
renewed-gone (Event.Deliver k) v a = refl
renewed-gone Event.ServerTick v a = refl
renewed-gone (Event.ClientTick host) v a = refl
renewed-gone (Event.Restart host) v a = refl
renewed-gone (Event.Crash longest) v a = refl

inner-shown : (event : Event) (w : World) (ran : List Event) (a : AroundOver) → a.due ≡ None → a.gone ≡ length w.packets → shown (step w event)
    (event ∷ ran) (renewed_around event (step w event) a) ≡ inner (over w ran a) event
inner-shown event w ran a none gone =
    let v = step w event in
    let b = renewed_around event v a in
    let n : b.gone ≡ length w.packets = renewed-gone event v a ∙ gone in
    let d : b.due ≡ None = renewed-due event v a ∙ none in
    ap (λ due. sends_all (with_due due (over v (event ∷ ran) b)) b.gone (drop b.gone v.packets)) d
    ∙ ap (λ k. sends_all (over v (event ∷ ran) b) k (drop k v.packets)) n
    ∙ ap (λ o. sends_all o (length w.packets) (drop (length w.packets) v.packets)) (renewed-over event w v ran a)

pub reaches-inner : {K : Type 0} (head : Head) (events : List StagedEvent) (event : StagedEvent) (e : Event) (commit : Bool) (old new : StagedOver K)
    (told tells : Option Kept) → IsReady old → Reaches head events old told
    → outside_step (over (run head (reverse old.ran)) (reverse old.ran) old.around) event ≡ inner (running commit (run head (reverse old.ran))
    (reverse old.ran) old.around) e
    → Plays head (e ∷ reverse old.ran) new.inner tells → new.ran ≡ old.ran ++ e ∷ []
    → new.around ≡ renewed_around e (step (run head (reverse old.ran)) e) (record old.around { counts = counted commit old.around.counts })
    → IsStagedSchedule head (event ∷ events)
    → Reaches head (event ∷ events) new tells
reaches-inner head events event e commit old new told tells ready r leads plays ran around schedule =
    let rn = reverse old.ran in
    let w = run head rn in
    let v = step w e in
    let a : AroundOver = record old.around { counts = counted commit old.around.counts } in
    let more : reverse new.ran ≡ e ∷ rn = ap reverse ran ∙ reverse-more old.ran e in
    let many : length old.inner.datagrams ≡ length w.packets = as-many head rn old.inner told r.inner in
    let gone : old.around.gone ≡ length w.packets = sym ready.all_gone ∙ many in
    let here : shown v (e ∷ rn) new.around ≡ inner (over w rn a) e = ap (shown v (e ∷ rn)) around ∙ inner-shown e w rn a ready.none_due gone in
    let next : shown v (e ∷ rn) new.around ≡ outside_run head (event ∷ events) = here ∙ sym leads ∙ ap (λ o. outside_step o event)
    (sym (reached-over head events old told ready r)) in
    let events-are : (outside_run head (event ∷ events)).ran ≡ e ∷ rn = ap (λ o. o.ran) (sym next) ∙ ap (λ i. i.1) (shown-inner v (e ∷ rn) new.around) in
    let now : length new.inner.datagrams ≡ length v.packets = as-many head (e ∷ rn) new.inner tells plays in
    let grown : length w.packets ≤ length v.packets = grows w e in
    let went : new.around.gone ≡ length w.packets = ap (λ (b : AroundOver). b.gone) around ∙ renewed-gone e v a ∙ gone in
    record {
      inner = subst (λ l. Plays head l new.inner tells) (sym more) plays;
      shows = ap (λ l. shown (run head l) l new.around) more ∙ next;
      gone = omega arith;
      schedule = schedule;
      faithful = faithful-run head (event ∷ events) new.inner (e ∷ rn) tells plays events-are schedule;
    }

-- what running an inner event leads to, by its answer
pub inner-leads : {K : Type 0} (head : Head) (events : List StagedEvent) (event : StagedEvent) (e : Event) (commit : Bool) (said : Stepped)
    (old new : StagedOver K) (told tells : Option Kept) → IsReady old → Reaches head events old told
    → stepped head (reverse old.ran) e ≡ stepped_outside head events event
    → outside_step (over (run head (reverse old.ran)) (reverse old.ran) old.around) event ≡ inner (running commit (run head (reverse old.ran))
    (reverse old.ran) old.around) e
    → IsStagedSchedule head (event ∷ events)
    → RunsInner head e commit said old new told tells
    → Leads head events event said told tells (λ es kept. Reaches head es new kept)
inner-leads head events event e commit Stepped.Done old new told tells ready r agree leads schedule ran =
    (sym agree ∙ ran.0, reaches-inner head events event e commit old new told tells ready r leads ran.1 ran.2 ran.3 schedule)
inner-leads head events event e commit Stepped.Fault old new told tells ready r agree leads schedule ran =
    (sym agree ∙ ran.0, λ same. reaches-same head events old new told tells r (ran.1 same) ran.3 ran.4, ran.2)
inner-leads head events event e commit Stepped.Memory old new told tells ready r agree leads schedule ran =
    (reaches-same head events old new told tells r ran.0 ran.2 ran.3, ran.1)
inner-leads head events event e commit Stepped.NoPacket old new told tells ready r agree leads schedule ran =
    (ap answer_of (sym agree) ∙ ran.0, reaches-same head events old new told tells r ran.1 ran.3 ran.4, ran.2)
inner-leads head events event e commit (Stepped.SkewBroken broken) old new told tells ready r agree leads schedule ran =
    (ap answer_of (sym agree) ∙ ran.0, reaches-same head events old new told tells r ran.1 ran.3 ran.4, ran.2)
inner-leads head events event e commit (Stepped.Limit limit) old new told tells ready r agree leads schedule ran =
    (ap answer_of (sym agree) ∙ ran.0, reaches-same head events old new told tells r ran.1 ran.3 ran.4, ran.2)

-- ---- sending what is due

-- ---- the counts

counts-as : (o : Outside) (number host : ℕ) (p : Packet) (side : Side) (short : Option (Pushed × ℕ)) → (sends_as o number host p side short).counts ≡ o.counts
unfolding sends
counts-as o number host p side None = refl
counts-as o number host p side (Some push) = refl

counts-by : (o : Outside) (number host : ℕ) (p : Packet) (side : Option Side) → (sends_by o number host p side).counts ≡ o.counts
unfolding sends
counts-by o number host p None = refl
counts-by o number host p (Some side) = counts-as o number host p side (shortening side.stager (bytes_of p.message))

counts-from : (o : Outside) (number : ℕ) (p : Packet) (from : Party) → (sends_from o number p from).counts ≡ o.counts
unfolding sends
counts-from o number p Party.Server = refl
counts-from o number p (Party.Client host) = counts-by o number host p (slice_get o.sides host)

counts-all : (o : Outside) (number : ℕ) (ps : List Packet) → (sends_all o number ps).counts ≡ o.counts
counts-all o number [] = refl
counts-all o number (p ∷ ps) = counts-all (sends_from o number p p.sender) (number + 1) ps ∙ counts-from o number p p.sender

counts-due : (o : Outside) (due : Option Outer) → (with_due due o).counts ≡ o.counts
unfolding sends
counts-due o None = refl
counts-due o (Some p) = refl

pub reached-counts : {K : Type 0} (head : Head) (events : List StagedEvent) (w : StagedOver K) (told : Option Kept) → Reaches head events w told
    → w.around.counts ≡ (outside_run head events).counts
reached-counts head events w told r =
    let v = run head (reverse w.ran) in
    sym (counts-all (once_sent v (reverse w.ran) w.around) w.around.gone (drop w.around.gone v.packets) ∙ counts-due (over v (reverse w.ran) w.around)
    w.around.due)
    ∙ ap (λ o. o.counts) r.shows

-- ---- the beginning

abbrev pub first-sides : (clients : List Counted) → List Side
first-sides clients = map (λ c. record { stager = new_stager c.client.who; last = None }) clients

sides-of : (clients : List Counted) → first-sides clients ≡ map (λ (c : Client). record { stager = new_stager c.who; last = None })
    (map (λ c. c.client) clients)
sides-of [] = refl
sides-of (c ∷ clients) = ap (λ l. record { stager = new_stager c.client.who; last = None } ∷ l) (sides-of clients)

start-packets : (head : Head) → (start head).packets ≡ []
unfolding start
start-packets head = refl

begins-outside : (head : Head) (boot : ℕ) (sides : List Side) → boot ≡ (start head).server.table.boot
    → sides ≡ map (λ (c : Client). record { stager = new_stager c.who; last = None }) (start head).clients → over (start head) []
    (new_around boot sides) ≡ outside_start head
unfolding outside_start
begins-outside head boot sides b s = rw (b, s) refl

nothing-ran : (head : Head) → (outside_start head).ran ≡ []
unfolding outside_start
nothing-ran head = refl

pub begins-plays : {K : Type 0} (head : Head) (w : WorldOver K) (told : Option Kept) → Plays head [] w told → PlaysOutside head []
    (record { inner = w; around = new_around w.server.beside.table.boot (first-sides w.clients); ran = []; events = 0 }) told
begins-plays head w told plays =
    let a = new_around w.server.beside.table.boot (first-sides w.clients) in
    let boot : w.server.beside.table.boot ≡ (start head).server.table.boot = ap (λ b. b.table.boot) plays.holds in
    let sides : first-sides w.clients ≡ map (λ (c : Client). record { stager = new_stager c.who; last = None }) (start head).clients =
    sides-of w.clients ∙ ap (map (λ (c : Client). record { stager = new_stager c.who; last = None })) plays.shown.shows.clients in
    let schedule : IsStagedSchedule head [] = record { hosts = plays.shown.within.hosts; few = omega arith; brings = tt } in
    record {
      reaches = record {
        inner = plays;
        shows = ap (λ ps. sends_all (over (start head) [] a) 0 ps) (start-packets head) ∙ begins-outside head w.server.beside.table.boot
            (first-sides w.clients) boot sides;
        gone = omega arith;
        schedule = schedule;
        faithful = faithful-run head [] w [] told plays (nothing-ran head) schedule;
      };
      counted = refl;
    }

abbrev first-side : Counted → Side
first-side c = record { stager = new_stager c.client.who; last = None }

pub sides_more : (clients : List Counted) (host : ℕ) (sides more : List Side) (side : Side) → sides ≡ map first-side (take host clients)
    → host < length clients → IfSome (slice_get clients host) (λ c. side ≡ first-side c) → more ≡ sides ++ side ∷ [] → more ≡ map first-side
    (take (host + 1) clients)
sides_more clients host sides more side are less is more-is =
    let x = there clients host less in
    let same : side ≡ first-side x.0 = subst (λ o. IfSome o (λ c. side ≡ first-side c)) x.1 is in
    more-is ∙ ap (λ l. l ++ side ∷ []) are
    ∙ ap (λ s. map first-side (take host clients) ++ s ∷ []) (same ∙ ap first-side (sym (get_or_from_slice_get clients host x.0 x.0 x.1)))
    ∙ sym (map_more first-side clients host x.0 less)

pub sides_all : (clients : List Counted) (hosts : ℕ) (sides : List Side) → length clients ≤ hosts → sides ≡ map first-side (take hosts clients)
    → sides ≡ map first-side clients
sides_all clients hosts sides all are = are ∙ ap (map first-side) (take_all hosts clients all)
