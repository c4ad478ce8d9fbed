-- The renewal that is sent is that of the model.
use Rattle.std.proofs.Common.{◌≡◌, ℕ, Bool, true, false, Option, Some, None, nat_le, is_some, IfSome, if◌then◌else◌, refl, ap, subst, ◌∙◌}
use Rattle.nq_base.specs.declared.Request.{Request}
use Rattle.nq_client.specs.Asking.{renewal, renewal_of, renewal_on, renews_by}
use Rattle.nq_model.specs.protocol.Client.{ClientStep, Lease, lease_on}
use Rattle.nq_model.specs.protocol.Send.{is_asking, renewed_file, renews, renews_lease, then_renews}
use Rattle.nq_wire.specs.Request.{HasSpelling}

of-lease : (t : ClientStep) (o : Option Lease) → renews_by t (renewal_of t.client o) ≡ renews_lease t o
of-lease t None = refl
of-lease t (Some lease) = refl

on-file : (t : ClientStep) (o : Option ℕ) → renews_by t (renewal_on t.client o) ≡ renews t o
on-file t None = refl
on-file t (Some file) = of-lease t (lease_on file t.client.leases)

unless-paused : (t : ClientStep) (b : Bool) → renews_by t (if b then renewal_on t.client (renewed_file t.client) else None)
    ≡ (if b then renews t (renewed_file t.client) else t)
unless-paused t true = on-file t (renewed_file t.client)
unless-paused t false = refl

idle-goes-on : (b : Bool) (t s : ClientStep) → b ≡ false → s ≡ (if b then t else s)
idle-goes-on true t s h = absurd cc
idle-goes-on false t s h = refl

-- where no request is under way, the renewal is sent that is due
pub renewed-as : (in_tick : Bool) (t : ClientStep) → t.client.ticket ≡ None → renews_by t (renewal in_tick t.client) ≡ then_renews in_tick t
renewed-as true t idle =
    unless-paused t (nat_le t.client.pause t.client.now)
    ∙ idle-goes-on (is_asking t) t (if nat_le t.client.pause t.client.now then renews t (renewed_file t.client) else t) (ap is_some idle)
renewed-as false t idle = refl

-- it has a spelling
pub spelled-as : (o : Option Request) (request : Request) → IfSome o HasSpelling → o ≡ Some request → HasSpelling request
spelled-as o request h e = subst (λ (x : Option Request). IfSome x HasSpelling) e h
