-- A schedule stays within skew by each event that is no tick of the server's clock.
use Rattle.std.proofs.Common.{◌≡◌, ℕ, ◌+◌, ◌≤◌, List, [], ◌∷◌, ◌++◌, ap, ◌∙◌, arith}
use Rattle.nq_base.specs.declared.Event.{Event}
use Rattle.nq_model.specs.protocol.Profile.{skew}
use Rattle.nq_model.specs.protocol.Skew.{IsWithinSkew, is_server_tick, server_ticks, ticks_of}

pub within-on : (hosts longest : ℕ) (e : Event) (events : List Event) → is_server_tick e ≡ 0 → IsWithinSkew hosts longest events
    → IsWithinSkew hosts longest (e ∷ events)
within-on hosts longest e events none within [] [] after split host below few = omega arith
within-on hosts longest e events none within [] (p ∷ part) after split host below few =
    let same : p ≡ e = cc in
    let rest : events ≡ part ++ after = cc in
    let stands : is_server_tick p ≡ 0 = ap is_server_tick same ∙ none in
    let said : server_ticks part ≤ ticks_of host part + skew = within [] part after rest host below (omega arith) in
    omega arith
within-on hosts longest e events none within (b ∷ before) part after split host below few = within before part after (cc) host below few
