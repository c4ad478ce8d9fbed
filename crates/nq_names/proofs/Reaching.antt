-- The parts of a world come to the end of a run with lists, and go on.
use Rattle.std.proofs.Common.{◌≡◌, ◌≤◌, ◌<◌, ℕ, ◌+◌, true, List, [], ◌∷◌, ◌++◌, length, drop, take, map, reverse, Option, refl, sym, ap, subst, ◌∙◌, arith}
use Rattle.std.proofs.lemmas.List.{drop_all, length-map, map_more, reverse-append, take_all}
use Rattle.std.proofs.lemmas.Bool.Decides.{nat_tests}
use Rattle.std.proofs.lemmas.Option.{get_or_from_slice_get}
use Rattle.std.specs.Prelude.{Result, Ok, Err, IfSome, OnOk, nat_lt, slice_get}
use Rattle.nq_base.specs.declared.Event.{Event}
use Rattle.nq_base.specs.declared.Party.{Party}
use Rattle.nq_client.specs.Counted.{Counted}
use Rattle.nq_model.specs.protocol.Client.{Client}
use Rattle.nq_model.specs.laws.Journal.{Each}
use Rattle.nq_model.specs.protocol.Kept.{Kept}
use Rattle.nq_model.specs.protocol.Message.{Packet}
use Rattle.nq_model.specs.protocol.Skew.{IsWithinSkew}
use Rattle.nq_model.specs.protocol.Stepped.{most_events, stepped}
use Rattle.nq_model.specs.protocol.World.{Head, World, run, start, step}
use Rattle.nq_model.specs.laws.Bounds.{KeepsBounds}
use Rattle.walk_steps.proofs.WorldNumbers.{numbers-stay-within}
use Rattle.walk_steps.specs.Within.{AreGiven}
use Rattle.law_names.proofs.Codecs.{codec}
use Rattle.law_names.proofs.EachFind.{each-find-is-kept}
use Rattle.walk_steps.proofs.OneRequests.{one-open-in-every-run}
use Rattle.nq_directory.specs.NameCacheNames.{Names, new_names}
use Rattle.nq_name_server.specs.Served.{Served, new_served}
use Rattle.nq_name_server.specs.declared.run.event.NameEvent.{NameEvent}
use Rattle.nq_name_server.specs.Outer.{Outside, of_boot, outside_start}
use Rattle.nq_name_server.specs.Outside.{beside, inner, inside, outside_run, outside_step, renewed, sends, sends_all}
use Rattle.nq_name_server.specs.Theorem.{BringsPrefix, IsNamesSchedule}
use Rattle.nq_name_server.proofs.Inner.{Core, runs-inside}
use Rattle.nq_world.proofs.Going.{runs-are-lawful}
use Rattle.nq_world.specs.Answering.{told as answer_of}
use Rattle.nq_world.specs.Playing.{Plays, WorldOver, seen_of}
use Rattle.nq_world.specs.Shown.{datagram}
use Rattle.nq_world.specs.declared.Stepped.{Stepped}
use Rattle.nq_name_server.proofs.GoingOut.{none-due, there}
use Rattle.nq_name_server.specs.Around.{AroundOver, new_around, once_sent, over, shown, with_due}
use Rattle.nq_names.proofs.Agreeing.{left-first}
use Rattle.nq_name_server.proofs.Growing.{grows}
use Rattle.nq_names.specs.Playing.{IsKept, IsLeft, IsReady, IsSettled, Leads, NamesOver, PlaysOutside, Reaches, RunsInner, renewed_around}
use Rattle.nq_names.specs.Playing.{stepped_outside, tested_outside}

-- there are as many datagrams as packets
pub as-many : {K : Type 0} (head : Head) (events : List Event) (w : WorldOver K) (told : Option Kept) → Plays head events w told → length w.datagrams
    ≡ length (run head events).packets
as-many head events w told plays = ap length plays.shown.shows.datagrams ∙ length-map (run head events).packets datagram

reverse-more : {X : Type 0} (xs : List X) (x : X) → reverse (xs ++ x ∷ []) ≡ x ∷ reverse xs
reverse-more xs x = reverse-append xs (x ∷ [])

nothing-left : {X : Type 0} (xs : List X) → drop (length xs) xs ≡ []
nothing-left [] = refl
nothing-left (x ∷ xs) = nothing-left xs

-- ---- what is shown is of the inner world and its events

due-core : (from : Party) (due : List (Party × List ℕ)) (o : Outside) → Core (with_due from due o) ≡ Core o
unfolding sends
due-core from [] o = refl
due-core from (d ∷ ds) o = due-core from ds (sends o (beside from d.0 d.1))

all-core : (o : Outside) (number : ℕ) (ps : List Packet) → Core (sends_all o number ps) ≡ Core o
unfolding sends
all-core o number [] = refl
all-core o number (p ∷ ps) = all-core (sends o (inside number p)) (number + 1) ps

pub shown-core : (w : World) (ran : List Event) (a : AroundOver) → Core (shown w ran a) ≡ (w, ran)
shown-core w ran a = all-core (once_sent w ran a) a.gone (drop a.gone w.packets) ∙ due-core a.sender a.due (over w ran a)

pub reached-core : {K : Type 0} (head : Head) (events : List NameEvent) (w : NamesOver K) (told : Option Kept) → Reaches head events w told
    → Core (outside_run head events) ≡ (run head (reverse w.ran), reverse w.ran)
reached-core head events w told r = ap Core (sym r.shows) ∙ shown-core (run head (reverse w.ran)) (reverse w.ran) w.around

pub reached-ran : {K : Type 0} (head : Head) (events : List NameEvent) (w : NamesOver K) (told : Option Kept) → Reaches head events w told
    → (outside_run head events).ran ≡ reverse w.ran
reached-ran head events w told r = ap (λ i. i.1) (reached-core head events w told r)

pub reached-world : {K : Type 0} (head : Head) (events : List NameEvent) (w : NamesOver K) (told : Option Kept) → Reaches head events w told
    → (outside_run head events).world ≡ run head (reverse w.ran)
reached-world head events w told r = ap (λ i. i.0) (reached-core head events w told r)

-- ---- what hosts keep of names

due-sides : (from : Party) (due : List (Party × List ℕ)) (o : Outside) → (with_due from due o).sides ≡ o.sides
unfolding sends
due-sides from [] o = refl
due-sides from (d ∷ ds) o = due-sides from ds (sends o (beside from d.0 d.1))

all-sides : (o : Outside) (number : ℕ) (ps : List Packet) → (sends_all o number ps).sides ≡ o.sides
unfolding sends
all-sides o number [] = refl
all-sides o number (p ∷ ps) = all-sides (sends o (inside number p)) (number + 1) ps

pub reached-sides : {K : Type 0} (head : Head) (events : List NameEvent) (w : NamesOver K) (told : Option Kept) → Reaches head events w told
    → w.around.sides ≡ (outside_run head events).sides
reached-sides head events w told r =
    let v = run head (reverse w.ran) in
    sym (all-sides (once_sent v (reverse w.ran) w.around) w.around.gone (drop w.around.gone v.packets) ∙ due-sides w.around.sender w.around.due
    (over v (reverse w.ran) w.around))
    ∙ ap (λ (o : Outside). o.sides) r.shows

-- ---- where all has gone out, what stands around is the run's

settled-shows : (w : World) (ran : List Event) (a : AroundOver) (n : ℕ) → IsSettled n a → n ≡ length w.packets → shown w ran a ≡ over w ran a
settled-shows w ran a n settled many =
    let all : length w.packets ≤ a.gone = (let e = settled.all_gone in omega arith) in
    ap (λ ps. sends_all (once_sent w ran a) a.gone ps) (drop_all a.gone w.packets all) ∙ none-due w ran a settled.none_due

pub reached-over : {K : Type 0} (head : Head) (events : List NameEvent) (w : NamesOver K) (told : Option Kept) → IsReady w → Reaches head events w
    told → outside_run head events ≡ over (run head (reverse w.ran)) (reverse w.ran) w.around
reached-over head events w told ready r =
    sym r.shows ∙ settled-shows (run head (reverse w.ran)) (reverse w.ran) w.around (length w.inner.datagrams) ready (as-many head (reverse w.ran)
    w.inner told r.inner)

-- ---- as before

pub reaches-same : {K : Type 0} (head : Head) (events : List NameEvent) (old new : NamesOver K) (told tells : Option Kept) → Reaches head events old
    told → Plays head (reverse old.ran) new.inner tells → new.ran ≡ old.ran → new.around ≡ old.around → Reaches head events new tells
reaches-same head events old new told tells r plays ran around =
    let first : length old.inner.datagrams ≡ length (run head (reverse old.ran)).packets = as-many head (reverse old.ran) old.inner told r.inner in
    let then : length new.inner.datagrams ≡ length (run head (reverse old.ran)).packets = as-many head (reverse old.ran) new.inner tells plays in
    let gone : old.around.gone ≤ length old.inner.datagrams = r.gone in
    record {
      inner = subst (λ l. Plays head (reverse l) new.inner tells) (sym ran) plays;
      shows = ap (λ l. shown (run head (reverse l)) (reverse l) new.around) ran ∙ ap (shown (run head (reverse old.ran)) (reverse old.ran)) around ∙ r.shows;
      gone = subst (λ (a : AroundOver). a.gone ≤ length new.inner.datagrams) (sym around) (omega arith);
      keeps = r.keeps;
    }

-- ---- with an event

-- a run with lists around a world that plays its inner run keeps what is promised
kept-run : {K : Type 0} (head : Head) (events : List NameEvent) (w : WorldOver K) (ran : List Event) (told : Option Kept) → Plays head ran w told
    → (outside_run head events).ran ≡ ran → length events ≤ most_events → Each BringsPrefix events → IsKept head events
kept-run head events w ran told plays is few prefixes =
    let lawful = runs-are-lawful head ran (seen_of w) w.skew plays.shown in
    let schedule : IsNamesSchedule head.longest head events = record {
      few = few;
      prefixes = prefixes;
      head_within = plays.shown.within;
      bounds = subst (KeepsBounds head.longest head) (sym is) lawful.1;
      given = subst (AreGiven head) (sym is) plays.shown.given;
      skew = subst (IsWithinSkew head.hosts head.longest) (sym is) lawful.2;
    } in
    record {
      runs = runs-inside head events;
      schedule = schedule;
      finds = each-find-is-kept codec numbers-stay-within one-open-in-every-run head.longest head events schedule;
    }

one-fewer : (n most : ℕ) → nat_lt n most ≡ true → n + 1 ≤ most
one-fewer n most is = grind (arith, nat_tests)

-- so does the run with an event more that was to be taken
kept-more : {K : Type 0} (head : Head) (events : List NameEvent) (event : NameEvent) (w : WorldOver K) (ran : List Event) (told : Option Kept)
    → Plays head ran w told
    → (outside_run head (event ∷ events)).ran ≡ ran → IsKept head events → BringsPrefix event → IsLeft (stepped_outside head events event)
    → IsKept head (event ∷ events)
kept-more head events event w ran told plays is keeps brings left =
    let few : nat_lt (length events) most_events ≡ true = (left-first (nat_lt (length events) most_events)
    (tested_outside head (outside_run head events) event) left).0 in
    let one : length events + 1 ≤ most_events = one-fewer (length events) most_events few in
    kept-run head (event ∷ events) w ran told plays is (omega arith) (brings, keeps.schedule.prefixes)

-- an event that is none of the inner world
pub reaches-beside : {K : Type 0} (head : Head) (events : List NameEvent) (event : NameEvent) (old new : NamesOver K) (told tells : Option Kept)
    → IsReady old → Reaches head events old told
    → Plays head (reverse old.ran) new.inner tells → new.ran ≡ old.ran → new.around.gone ≡ old.around.gone
    → once_sent (run head (reverse old.ran)) (reverse old.ran) new.around ≡ outside_step (over (run head (reverse old.ran)) (reverse old.ran) old.around) event
    → BringsPrefix event → IsLeft (stepped_outside head events event)
    → Reaches head (event ∷ events) new tells
reaches-beside head events event old new told tells ready r plays ran gone leads brings left =
    let rn = reverse old.ran in
    let w = run head rn in
    let many : length old.inner.datagrams ≡ length w.packets = as-many head rn old.inner told r.inner in
    let now : length new.inner.datagrams ≡ length w.packets = as-many head rn new.inner tells plays in
    let all : length old.inner.datagrams ≡ old.around.gone = ready.all_gone in
    let none : drop new.around.gone w.packets ≡ [] = ap (λ n. drop n w.packets) (gone ∙ sym all ∙ many) ∙ nothing-left w.packets in
    let here : shown w rn new.around ≡ once_sent w rn new.around = ap (λ ps. sends_all (once_sent w rn new.around) new.around.gone ps) none in
    let next : shown w rn new.around ≡ outside_run head (event ∷ events) = here ∙ leads ∙ ap (λ o. outside_step o event)
    (sym (reached-over head events old told ready r)) in
    let events-are : (outside_run head (event ∷ events)).ran ≡ rn = ap (λ (o : Outside). o.ran) (sym next) ∙ ap (λ i. i.1) (shown-core w rn new.around) in
    record {
      inner = subst (λ l. Plays head (reverse l) new.inner tells) (sym ran) plays;
      shows = ap (λ l. shown (run head (reverse l)) (reverse l) new.around) ran ∙ next;
      gone = omega arith;
      keeps = kept-more head events event new.inner rn tells plays events-are r.keeps brings left;
    }

-- ---- an event of the inner world

renewed-over : (event : Event) (w v : World) (ran : List Event) (a : AroundOver) → over v (event ∷ ran) (renewed_around event v a)
    ≡ renewed (over w ran a) event v
renewed-over (Event.Call host op) w v ran a = refl
renewed-over (Event.Deliver k) w v ran a = refl
renewed-over Event.ServerTick w v ran a = refl
renewed-over (Event.ClientTick host) w v ran a = refl
renewed-over (Event.Restart host) w v ran a = refl
renewed-over (Event.Crash longest) w v ran a = refl

renewed-due : (event : Event) (v : World) (a : AroundOver) → (renewed_around event v a).due ≡ a.due
renewed-due (Event.Call host op) v a = refl
renewed-due (Event.Deliver k) v a = refl
renewed-due Event.ServerTick v a = refl
renewed-due (Event.ClientTick host) v a = refl
renewed-due (Event.Restart host) v a = refl
renewed-due (Event.Crash longest) v a = refl

renewed-gone : (event : Event) (v : World) (a : AroundOver) → (renewed_around event v a).gone ≡ a.gone
renewed-gone (Event.Call host op) v a = refl
renewed-gone (Event.Deliver k) v a = refl
renewed-gone Event.ServerTick v a = refl
renewed-gone (Event.ClientTick host) v a = refl
renewed-gone (Event.Restart host) v a = refl
renewed-gone (Event.Crash longest) v a = refl

inner-shown : (event : Event) (w : World) (ran : List Event) (a : AroundOver) → a.due ≡ [] → a.gone ≡ length w.packets → shown (step w event)
    (event ∷ ran) (renewed_around event (step w event) a) ≡ inner (over w ran a) event
inner-shown event w ran a none gone =
    let v = step w event in
    let b = renewed_around event v a in
    let n : b.gone ≡ length w.packets = renewed-gone event v a ∙ gone in
    let d : b.due ≡ [] = renewed-due event v a ∙ none in
    ap (λ due. sends_all (with_due b.sender due (over v (event ∷ ran) b)) b.gone (drop b.gone v.packets)) d
    ∙ ap (λ k. sends_all (over v (event ∷ ran) b) k (drop k v.packets)) n
    ∙ ap (λ o. sends_all o (length w.packets) (drop (length w.packets) v.packets)) (renewed-over event w v ran a)

pub reaches-inner : {K : Type 0} (head : Head) (events : List NameEvent) (event : NameEvent) (e : Event) (old new : NamesOver K)
    (told tells : Option Kept) → IsReady old → Reaches head events old told
    → outside_step (over (run head (reverse old.ran)) (reverse old.ran) old.around) event ≡ inner (over (run head (reverse old.ran)) (reverse old.ran)
    old.around) e
    → Plays head (e ∷ reverse old.ran) new.inner tells → new.ran ≡ old.ran ++ e ∷ []
    → new.around ≡ renewed_around e (step (run head (reverse old.ran)) e) old.around
    → BringsPrefix event → IsLeft (stepped_outside head events event)
    → Reaches head (event ∷ events) new tells
reaches-inner head events event e old new told tells ready r leads plays ran around brings left =
    let rn = reverse old.ran in
    let w = run head rn in
    let v = step w e in
    let more : reverse new.ran ≡ e ∷ rn = ap reverse ran ∙ reverse-more old.ran e in
    let many : length old.inner.datagrams ≡ length w.packets = as-many head rn old.inner told r.inner in
    let gone : old.around.gone ≡ length w.packets = sym ready.all_gone ∙ many in
    let here : shown v (e ∷ rn) new.around ≡ inner (over w rn old.around) e = ap (shown v (e ∷ rn)) around ∙ inner-shown e w rn old.around
    ready.none_due gone in
    let next : shown v (e ∷ rn) new.around ≡ outside_run head (event ∷ events) = here ∙ sym leads ∙ ap (λ o. outside_step o event)
    (sym (reached-over head events old told ready r)) in
    let events-are : (outside_run head (event ∷ events)).ran ≡ e ∷ rn = ap (λ (o : Outside). o.ran) (sym next)
    ∙ ap (λ i. i.1) (shown-core v (e ∷ rn) new.around) in
    let now : length new.inner.datagrams ≡ length v.packets = as-many head (e ∷ rn) new.inner tells plays in
    let grown : length w.packets ≤ length v.packets = grows w e in
    let went : new.around.gone ≡ length w.packets = ap (λ (b : AroundOver). b.gone) around ∙ renewed-gone e v old.around ∙ gone in
    record {
      inner = subst (λ l. Plays head l new.inner tells) (sym more) plays;
      shows = ap (λ l. shown (run head l) l new.around) more ∙ next;
      gone = omega arith;
      keeps = kept-more head events event new.inner (e ∷ rn) tells plays events-are r.keeps brings left;
    }

-- what running an inner event leads to, by its answer
pub inner-leads : {K : Type 0} (head : Head) (events : List NameEvent) (event : NameEvent) (e : Event) (said : Stepped) (old new : NamesOver K)
    (told tells : Option Kept) → IsReady old → Reaches head events old told
    → stepped head (reverse old.ran) e ≡ stepped_outside head events event
    → outside_step (over (run head (reverse old.ran)) (reverse old.ran) old.around) event ≡ inner (over (run head (reverse old.ran)) (reverse old.ran)
    old.around) e
    → BringsPrefix event → IsLeft (stepped_outside head events event)
    → RunsInner head e said old new told tells
    → Leads head events event said told tells (λ es kept. Reaches head es new kept)
inner-leads head events event e Stepped.Done old new told tells ready r agree leads brings left ran =
    (sym agree ∙ ran.0, reaches-inner head events event e old new told tells ready r leads ran.1 ran.2 ran.3 brings left)
inner-leads head events event e Stepped.Fault old new told tells ready r agree leads brings left ran =
    (sym agree ∙ ran.0, λ same. reaches-same head events old new told tells r (ran.1 same) ran.3 ran.4, ran.2)
inner-leads head events event e Stepped.Memory old new told tells ready r agree leads brings left ran =
    (reaches-same head events old new told tells r ran.0 ran.2 ran.3, ran.1)
inner-leads head events event e Stepped.NoPacket old new told tells ready r agree leads brings left ran =
    (ap answer_of (sym agree) ∙ ran.0, reaches-same head events old new told tells r ran.1 ran.3 ran.4, ran.2)
inner-leads head events event e (Stepped.SkewBroken broken) old new told tells ready r agree leads brings left ran =
    (ap answer_of (sym agree) ∙ ran.0, reaches-same head events old new told tells r ran.1 ran.3 ran.4, ran.2)
inner-leads head events event e (Stepped.Limit limit) old new told tells ready r agree leads brings left ran =
    (ap answer_of (sym agree) ∙ ran.0, reaches-same head events old new told tells r ran.1 ran.3 ran.4, ran.2)

-- ---- sending what is due

pub settled-plays : {K : Type 0} (head : Head) (events : List NameEvent) (w : NamesOver K) (a : AroundOver) (told : Option Kept)
    → ((v : World) (ran : List Event) → w.inner.datagrams ≡ map datagram v.packets → shown v ran a ≡ shown v ran w.around)
    → (w.around.gone ≤ length w.inner.datagrams → a.gone ≤ length w.inner.datagrams)
    → PlaysOutside head events w told → PlaysOutside head events (record w { around = a }) told
settled-plays head events w a told same gone p =
    let r = p.reaches in
    let v = run head (reverse w.ran) in
    record {
      reaches = record { inner = r.inner; shows = same v (reverse w.ran) r.inner.shown.shows.datagrams ∙ r.shows; gone = gone r.gone; keeps = r.keeps };
      counted = p.counted;
    }

pub settled-on : {A E : Type 0} (r : Result A E) (n : ℕ) (packets : ℕ) (a : AroundOver) → packets ≡ n → OnOk r (a.due ≡ [])
    → OnOk r (packets ≤ a.gone) → a.gone ≤ n → OnOk r (IsSettled n a)
settled-on (Ok x) n packets a same none all gone = record { none_due = none; all_gone = omega arith }
settled-on (Err e) n packets a same none all gone = tt

-- ---- the beginning

abbrev pub first-sides : List Counted → List Names
first-sides clients = map (λ c. new_names c.client.who) clients

sides-of : (clients : List Counted) → first-sides clients ≡ map (λ (c : Client). new_names c.who) (map (λ c. c.client) clients)
sides-of [] = refl
sides-of (c ∷ clients) = ap (λ l. new_names c.client.who ∷ l) (sides-of clients)

start-packets : (head : Head) → (start head).packets ≡ []
unfolding start
start-packets head = refl

begins-outside : (head : Head) (served : Served) (sides : List Names) → served ≡ of_boot (start head) → sides ≡ map (λ (c : Client). new_names c.who)
    (start head).clients → over (start head) [] (new_around served sides) ≡ outside_start head
unfolding outside_start
begins-outside head served sides s n = rw (s, n) refl

nothing-ran : (head : Head) → (outside_start head).ran ≡ []
unfolding outside_start
nothing-ran head = refl

-- the leases on directories at a server's boot
abbrev pub first-leases : {K : Type 0} → WorldOver K → Served
first-leases w = new_served w.server.beside.table.boot w.server.beside.longest w.server.beside.time

pub begins-plays : {K : Type 0} (head : Head) (w : WorldOver K) (told : Option Kept) → Plays head [] w told → PlaysOutside head []
    (record { inner = w; around = new_around (first-leases w) (first-sides w.clients); ran = []; events = 0 }) told
begins-plays head w told plays =
    let a = new_around (first-leases w) (first-sides w.clients) in
    let served : first-leases w ≡ of_boot (start head) = ap (λ b. new_served b.table.boot b.longest b.time) plays.holds in
    let sides : first-sides w.clients ≡ map (λ (c : Client). new_names c.who) (start head).clients =
    sides-of w.clients ∙ ap (map (λ (c : Client). new_names c.who)) plays.shown.shows.clients in
    record {
      reaches = record {
        inner = plays;
        shows = ap (λ ps. sends_all (over (start head) [] a) 0 ps) (start-packets head) ∙ begins-outside head (first-leases w) (first-sides w.clients)
            served sides;
        gone = omega arith;
        keeps = kept-run head [] w [] told plays (nothing-ran head) (omega arith) tt;
      };
      counted = refl;
    }

pub sides_more : (clients : List Counted) (host : ℕ) (sides more : List Names) (side : Names) → sides ≡ map (λ c. new_names c.client.who)
    (take host clients) → host < length clients → IfSome (slice_get clients host) (λ c. side ≡ new_names c.client.who) → more ≡ sides ++ side ∷ []
    → more ≡ map (λ c. new_names c.client.who) (take (host + 1) clients)
sides_more clients host sides more side are less is more-is =
    let x = there clients host less in
    let first : Counted → Names = λ c. new_names c.client.who in
    let same : side ≡ first x.0 = subst (λ o. IfSome o (λ c. side ≡ new_names c.client.who)) x.1 is in
    more-is ∙ ap (λ l. l ++ side ∷ []) are
    ∙ ap (λ s. map first (take host clients) ++ s ∷ []) (same ∙ ap first (sym (get_or_from_slice_get clients host x.0 x.0 x.1)))
    ∙ sym (map_more first clients host x.0 less)

pub sides_all : (clients : List Counted) (hosts : ℕ) (sides : List Names) → length clients ≤ hosts → sides ≡ map (λ c. new_names c.client.who)
    (take hosts clients) → sides ≡ map (λ c. new_names c.client.who) clients
sides_all clients hosts sides all are = are ∙ ap (map (λ (c : Counted). new_names c.client.who)) (take_all hosts clients all)
