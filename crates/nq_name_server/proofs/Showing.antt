-- What an event makes shows as the definitions say.
use Rattle.std.proofs.Common.{◌≡◌, ◌<◌, ◌≤◌, ℕ, ◌&&◌, not, Bool, true, List, [], ◌∷◌, Option, Some, None, if◌then◌else◌, length, refl, sym, ap, ◌∙◌}
use Rattle.std.specs.Prelude.{Result, Ok, Err, OnOk, slice_get}
use Rattle.std.proofs.lemmas.Option.{slice_get_past}
use Rattle.nq_base.specs.declared.Event.{Event}
use Rattle.nq_base.specs.declared.Party.{Party}
use Rattle.nq_model.specs.protocol.World.{World}
use Rattle.nq_model.specs.protocol.Client.{Client}
use Rattle.nq_directory.specs.Asking.{Asks, heard, lists_dir}
use Rattle.nq_directory.specs.NameCacheNames.{Names}
use Rattle.nq_name_server.specs.Sending.{all_sent}
use Rattle.nq_name_server.specs.Serving.{Serves, ToHost}
use Rattle.nq_name_server.specs.Outer.{Outside}
use Rattle.nq_name_server.specs.Outside.{asks_as, beside, heard_by, is_changing, lists, sends, sends_from, sends_these, served_as}
use Rattle.nq_name_server.proofs.GoingOut.{none-due, there}
use Rattle.nq_name_server.specs.Around.{AroundOver, asked_as, once_sent, over, served_by, to_server, with_due}

asked : (o : Outside) (host : ℕ) (sent : Option (List ℕ)) → with_due (Party.Client host) (to_server sent) o ≡ sends_from o host sent
asked o host None = refl
asked o host (Some bytes) = refl

-- a host that asks
pub asked_shows : (w : World) (ran : List Event) (a : AroundOver) (host : ℕ) (asks : Asks) → once_sent w ran (asked_as a host asks)
    ≡ asks_as (over w ran a) host asks
unfolding asks_as
asked_shows w ran a host asks = asked (over w ran (asked_as a host asks)) host asks.sends

served : (ds : List ToHost) (o : Outside) → with_due Party.Server (all_sent ds) o ≡ sends_these o ds
served [] o = refl
served (d ∷ ds) o = served ds (sends o (beside Party.Server (Party.Client d.host) d.bytes))

-- a server that answers
pub served_shows : (w : World) (ran : List Event) (a : AroundOver) (s : Serves) → once_sent w ran (served_by a s) ≡ served_as (over w ran a) s
unfolding served_as
served_shows w ran a s = served s.sends (over w ran (served_by a s))

-- ---- by whether there was memory

pub asks_on : {A E : Type 0} (r : Result A E) (a b : AroundOver) (host : ℕ) (prefix : List ℕ) (term now : ℕ) → host < length a.sides
    → OnOk r ((n : Names) → slice_get a.sides host ≡ Some n → b ≡ asked_as a host (lists_dir n prefix term now))
    → OnOk r ((w : World) (ran : List Event) (c : Client) → c.term ≡ term → c.now ≡ now → (c.attached && not (is_changing c.call)) ≡ true
    → once_sent w ran b ≡ lists (over w ran a) host prefix (slice_get a.sides host) (Some c))
asks_on (Ok x) a b host prefix term now less made = λ w ran c its-term its-now may.
    let n = there a.sides host less in
    let o = over w ran a in
    ap (once_sent w ran) (made n.0 n.1)
    ∙ asked_shows w ran a host (lists_dir n.0 prefix term now)
    ∙ ap (λ t. asks_as o host (lists_dir n.0 prefix t now)) (sym its-term)
    ∙ ap (λ t. asks_as o host (lists_dir n.0 prefix c.term t)) (sym its-now)
    ∙ sym (ap (λ (m : Bool). if m then asks_as o host (lists_dir n.0 prefix c.term c.now) else o) may)
    ∙ ap (λ s. lists o host prefix s (Some c)) (sym n.1)
asks_on (Err e) a b host prefix term now less made = tt

pub hears_on : {A E : Type 0} (r : Result A E) (a b : AroundOver) (host : ℕ) (bytes : List ℕ) (term now : ℕ) → host < length a.sides
    → OnOk r ((n : Names) → slice_get a.sides host ≡ Some n → b ≡ asked_as a host (heard n bytes term now))
    → OnOk r ((w : World) (ran : List Event) (c : Client) → c.term ≡ term → c.now ≡ now → once_sent w ran b ≡ heard_by (over w ran a) host bytes
    (slice_get a.sides host) (Some c))
hears_on (Ok x) a b host bytes term now less made = λ w ran c its-term its-now.
    let n = there a.sides host less in
    let o = over w ran a in
    ap (once_sent w ran) (made n.0 n.1)
    ∙ asked_shows w ran a host (heard n.0 bytes term now)
    ∙ ap (λ t. asks_as o host (heard n.0 bytes t now)) (sym its-term)
    ∙ ap (λ t. asks_as o host (heard n.0 bytes c.term t)) (sym its-now)
    ∙ ap (λ s. heard_by o host bytes s (Some c)) (sym n.1)
hears_on (Err e) a b host bytes term now less made = tt

-- a host that is not there
pub hears_nothing : (w : World) (ran : List Event) (a : AroundOver) (host : ℕ) (bytes : List ℕ) (c : Client) → a.due ≡ [] → length a.sides ≤ host
    → once_sent w ran a ≡ heard_by (over w ran a) host bytes (slice_get a.sides host) (Some c)
hears_nothing w ran a host bytes c none past =
    none-due w ran a none ∙ ap (λ s. heard_by (over w ran a) host bytes s (Some c)) (sym (slice_get_past a.sides host past))

pub asks_nothing : (w : World) (ran : List Event) (a : AroundOver) (host : ℕ) (prefix : List ℕ) (c : Client) → a.due ≡ [] → length a.sides ≤ host
    → once_sent w ran a ≡ lists (over w ran a) host prefix (slice_get a.sides host) (Some c)
asks_nothing w ran a host prefix c none past =
    none-due w ran a none ∙ ap (λ s. lists (over w ran a) host prefix s (Some c)) (sym (slice_get_past a.sides host past))
