-- What hosts find.
use Rattle.std.proofs.Common.{◌≡◌, ◌≢◌, ◌<◌, ℕ, List, length, reverse, Option, Some, sym, ap, subst, ◌∙◌}
use Rattle.std.specs.Prelude.{IfSome, slice_get}
use Rattle.nq_model.specs.protocol.Client.{Client}
use Rattle.nq_model.specs.protocol.Kept.{Kept, find_name}
use Rattle.nq_model.specs.protocol.World.{Head, World, run}
use Rattle.nq_directory.specs.NameCacheNames.{Names}
use Rattle.nq_directory.specs.declared.name_cache.found.Found.{Found}
use Rattle.nq_name_server.specs.declared.run.event.NameEvent.{NameEvent}
use Rattle.nq_name_server.specs.Outside.{found, found_by, outside_run}
use Rattle.nq_name_server.specs.Theorem.{kept_as}
use Rattle.nq_name_server.proofs.GoingOut.{there}
use Rattle.nq_names.proofs.Hearing.{client-there}
use Rattle.nq_names.proofs.Reaching.{reached-sides, reached-world}
use Rattle.nq_names.specs.Playing.{NamesOver, Reaches}

pub found-outside : {K : Type 0} (head : Head) (events : List NameEvent) (w : NamesOver K) (told : Option Kept) (host : ℕ) (name : List ℕ) (now : ℕ)
    (r : Found) → Reaches head events w told
    → host < length w.inner.clients → IfSome (slice_get w.inner.clients host) (λ c. now ≡ c.client.now)
    → ((c : Client) → c.now ≡ now → r ≡ found_by name (slice_get w.around.sides host) (Some c))
    → r ≡ found (outside_run head events) host name
found-outside head events w told host name now r reached below time finds =
    let x = there w.inner.clients host below in
    let c : Client = x.0.client in
    let is : now ≡ c.now = subst (λ o. IfSome o (λ y. now ≡ y.client.now)) x.1 time in
    let client : slice_get (run head (reverse w.ran)).clients host ≡ Some c = client-there head (reverse w.ran) w.inner told reached.inner host x.0 x.1 in
    finds c (sym is)
    ∙ ap (λ (l : List Names). found_by name (slice_get l host) (Some c)) (reached-sides head events w told reached)
    ∙ ap (found_by name (slice_get (outside_run head events).sides host)) (sym client)
    ∙ ap (λ (v : World). found_by name (slice_get (outside_run head events).sides host) (slice_get v.clients host))
    (sym (reached-world head events w told reached))

same-kept : (a b : Kept) → Some a ≡ Some b → a ≡ b
same-kept a b is = cc

pub found-kept : {K : Type 0} (head : Head) (events : List NameEvent) (w : NamesOver K) (kept : Kept) (host : ℕ) (name : List ℕ) (r : Found)
    → Reaches head events w (Some kept)
    → r ≡ found (outside_run head events) host name → r ≢ Found.Unknown → r ≡ kept_as (find_name name kept.files)
found-kept head events w kept host name r reached is known =
    is ∙ reached.keeps.finds host name (λ e. known (is ∙ e))
    ∙ ap (λ (v : World). kept_as (find_name name v.server.kept.files)) (reached-world head events w (Some kept) reached)
    ∙ ap (λ (k : Kept). kept_as (find_name name k.files)) (sym (same-kept kept (run head (reverse w.ran)).server.kept reached.inner.keeps))
