use Rattle.std.proofs.Common.{◌≡◌, ◌↔◌, ◌∷◌, length, subst}
use Rattle.std.specs.Prelude.{IsTrue}
use Rattle.nq_base.specs.declared.Event.{Event}
use Rattle.nq_clock.specs.Tracks.{Follows}
use Rattle.nq_model.specs.protocol.Skew.{IsWithinSkew}
use Rattle.nq_world.specs.Playing.{WorldOver}
use Rattle.nq_world.proofs.world.World.lawful_server_tick.Goals as goal

pub returns : goal.returns
returns g c = λ head events told plays.
    let i = c.self.inside in
    subst (λ (v : WorldOver g.row.K.Denot). Follows v.skew events → length v.skew.hosts ≡ head.hosts → v.skew.window ≡ head.longest
    → IsTrue c.lawful.result ↔ IsWithinSkew head.hosts head.longest (Event.ServerTick ∷ events)) c.self.view_is
    (λ follows hosts window.
    subst (λ n. IsTrue c.lawful.result ↔ IsWithinSkew n head.longest (Event.ServerTick ∷ events)) hosts
    (subst (λ n. IsTrue c.lawful.result ↔ IsWithinSkew (length i.skew.hosts) n (Event.ServerTick ∷ events)) window
    (c.lawful.ensures events follows)))
    plays.shown.clocks plays.shown.hosts plays.shown.window
