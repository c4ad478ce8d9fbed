-- What a host makes of what it takes in, and of a list that it asks for.
use Rattle.std.proofs.Common.{◌≡◌, ◌≤◌, ◌<◌, ℕ, false, List, [], length, Option, Some, None, refl, sym, ap, ◌∙◌, arith}
use Rattle.std.proofs.lemmas.Option.{slice_get_past, slice_get-map}
use Rattle.std.proofs.lemmas.List.{length-map}
use Rattle.std.specs.Option.{option_map}
use Rattle.std.specs.Prelude.{Result, Ok, Err, OnOk, slice_get}
use Rattle.nq_base.specs.declared.Call.{Call}
use Rattle.nq_base.specs.declared.Event.{Event}
use Rattle.nq_client.specs.Counted.{Counted}
use Rattle.nq_client.specs.State.{call_of}
use Rattle.nq_model.specs.protocol.Client.{UnderWay}
use Rattle.nq_model.specs.protocol.Kept.{Kept}
use Rattle.nq_model.specs.protocol.World.{Head, World, run}
use Rattle.nq_directory.specs.NameCacheNames.{Names}
use Rattle.nq_name_server.specs.Outer.{Outside}
use Rattle.nq_name_server.specs.Outside.{heard_by, is_change, is_changing}
use Rattle.nq_world.specs.Moving.{clients_in}
use Rattle.nq_world.specs.Playing.{Plays, WorldOver}
use Rattle.nq_name_server.proofs.GoingOut.{none-due, there}
use Rattle.nq_name_server.specs.Around.{AroundOver, once_sent, over}

-- a client of a world that plays a run is the run's
pub client-there : {K : Type 0} (head : Head) (ran : List Event) (w : WorldOver K) (told : Option Kept) → Plays head ran w told → (host : ℕ) (c : Counted)
    → slice_get w.clients host ≡ Some c → slice_get (run head ran).clients host ≡ Some c.client
client-there head ran w told plays host c at =
    ap (λ l. slice_get l host) (sym plays.shown.shows.clients) ∙ slice_get-map (λ y. y.client) w.clients host ∙ ap (option_map (λ y. y.client)) at

-- whether the call under way changes a directory
pub changing_some : (u : Option UnderWay) (call : Call) → Some call ≡ option_map call_of u → is_change call ≡ is_changing u
changing_some None call is = absurd (cc)
changing_some (Some u) call is = let e : call ≡ u.call = cc in ap is_change e

pub changing_none : (u : Option UnderWay) → None ≡ option_map call_of u → false ≡ is_changing u
changing_none None is = refl
changing_none (Some u) is = absurd (cc)

-- ---- taking in

pub heard-there : (w : World) (clients : List Counted) (o : Outside) (host : ℕ) (bytes : List ℕ) (n : Option Names) (to : Outside) → w.clients
    ≡ clients_in clients → host < length clients
    → ((c : Counted) → slice_get clients host ≡ Some c → to ≡ heard_by o host bytes n (Some c.client)) → to ≡ heard_by o host bytes n
    (slice_get w.clients host)
heard-there w clients o host bytes n to are less heard =
    let x = there clients host less in
    let at : slice_get w.clients host ≡ Some x.0.client = ap (λ l. slice_get l host) are ∙ slice_get-map (λ y. y.client) clients host
    ∙ ap (option_map (λ y. y.client)) x.1 in
    heard x.0 x.1 ∙ ap (heard_by o host bytes n) (sym at)

pub heard_on : {A E : Type 0} (r : Result A E) (clients : List Counted) (a b : AroundOver) (host : ℕ) (bytes : List ℕ) → host < length clients
    → OnOk r ((w : World) (ran : List Event) (c : Counted) → slice_get clients host ≡ Some c → once_sent w ran b ≡ heard_by (over w ran a) host bytes
    (slice_get a.sides host) (Some c.client))
    → OnOk r ((w : World) (ran : List Event) → w.clients ≡ clients_in clients → once_sent w ran b ≡ heard_by (over w ran a) host bytes
    (slice_get a.sides host) (slice_get w.clients host))
heard_on (Ok x) clients a b host bytes less heard = λ w ran are. heard-there w clients (over w ran a) host bytes (slice_get a.sides host)
    (once_sent w ran b) are less (heard w ran)
heard_on (Err e) clients a b host bytes less heard = tt

heard-none : (o : Outside) (host : ℕ) (bytes : List ℕ) (n : Option Names) → heard_by o host bytes n None ≡ o
heard-none o host bytes None = refl
heard-none o host bytes (Some n) = refl

pub heard_nowhere : (w : World) (ran : List Event) (clients : List Counted) (a : AroundOver) (host : ℕ) (bytes : List ℕ) → a.due ≡ [] → w.clients
    ≡ clients_in clients → length clients ≤ host
    → once_sent w ran a ≡ heard_by (over w ran a) host bytes (slice_get a.sides host) (slice_get w.clients host)
heard_nowhere w ran clients a host bytes none are past =
    let many : length w.clients ≡ length clients = ap length are ∙ length-map clients (λ y. y.client) in
    let gone : slice_get w.clients host ≡ None = slice_get_past w.clients host (omega arith) in
    none-due w ran a none ∙ sym (ap (heard_by (over w ran a) host bytes (slice_get a.sides host)) gone ∙ heard-none (over w ran a) host bytes
    (slice_get a.sides host))
