-- Five ticks of the server's clock after the moment each request of a live host that was lost before was sent again.
use Rattle.std.proofs.Common.{◌≡◌, ◌≤◌, ◌<◌, ℕ, ◌+◌, ◌-◌, ◌++◌, nat_le, Bool, true, false, List, [], ◌∷◌, refl, subst, ap, ◌∙◌, arith}
use Rattle.nq_base.specs.declared.Event.{Event}
use Rattle.nq_model.specs.protocol.Lines.{Play, play}
use Rattle.nq_model.specs.protocol.Skew.{server_ticks, ticks_of, IsWithinSkew}
use Rattle.nq_model.specs.protocol.World.{Head, World, run}
use Rattle.walk_steps.proofs.Tests.{is-at-most, is-not-at-most}
use Rattle.walk_steps.proofs.WorldClocks.{run-clocked}
use Rattle.law_rounds.specs.CalmRoundsAreLawful.{IsLawful}
use Rattle.law_rounds.specs.RoundsEndQuiet.{IsSmall}
use Rattle.law_rounds.proofs.Flows.{Covered, first-covers}
use Rattle.law_timely.specs.Timely.{ticks_to_settle, LeadsTo}
use Rattle.law_timely.proofs.Covers.{Aged, aged-event}
use Rattle.law_timely.proofs.Parts.{During, led, led-lawful}

-- ---- clocks

pub server-append : (a b : List Event) → server_ticks (a ++ b) ≡ server_ticks a + server_ticks b
server-append [] b = omega arith
server-append (e ∷ a) b = let rest = server-append a b in omega arith

pub host-append : (host : ℕ) (a b : List Event) → ticks_of host (a ++ b) ≡ ticks_of host a + ticks_of host b
host-append host [] b = omega arith
host-append host (e ∷ a) b = let rest = host-append host a b in omega arith

-- where the server's clock ticks five times, the host's ticks twice
pub ticks-twice : (hosts longest host : ℕ) (events part after : List Event) → IsWithinSkew hosts longest events → events ≡ part ++ after → host < hosts
    → 1 ≤ longest → 5 ≤ server_ticks part → 2 ≤ ticks_of host part
ticks-twice hosts longest host events part after within split there long many = by (nat_le 2 (ticks_of host part)) refl
  where
    by : (b : Bool) → nat_le 2 (ticks_of host part) ≡ b → 2 ≤ ticks_of host part
    by true e = is-at-most 2 (ticks_of host part) e
    by false e =
        let few = is-not-at-most 2 (ticks_of host part) e in
        let bound = within [] part after split host there (omega arith) in
        absurd (omega arith)

-- the events since a moment
abbrev pub Since : Play → Play → Type 0
Since s p = (part : List Event) × (p.events ≡ part ++ s.events)

pub since-event : (s p : Play) (e : Event) → Since s p → Since s (play p e)
since-event s p e since = (e ∷ since.0, ap (λ es. e ∷ es) since.1)

pub now-is : (most : ℕ) (head : Head) (p : Play) → IsLawful most head p → p.world.server.now ≡ server_ticks p.events
now-is most head p l = ap (λ (w : World). w.server.now) l.is_run ∙ (run-clocked head p.events).server

module _ (most : ℕ) (head : Head) (dead : List ℕ) (host : ℕ) where
  record Settling (base : Play) (p : Play) : Type 0 where
    aged : Aged most head host (ticks_of host base.events) p
    since : Since base p

  settling-event : (base p : Play) (e : Event) → During most head dead p e → Settling base p → Settling base (play p e)
  settling-event base p e during s = record {
    aged = aged-event most head host (ticks_of host base.events) dead p e during s.aged;
    since = since-event base p e s.since;
  }

  first-settling : (base : Play) → IsLawful most head base → Settling base base
  first-settling base l = record {
    aged = subst (λ due. Covered most head host due base) (two (ticks_of host base.events)) (first-covers most head host base l);
    since = ([], refl);
  }
    where
      two : (n : ℕ) → 2 ≡ (n + 2) - n
      two n = omega arith

  -- the host's clock ticked twice then
  pub record Settled (base : Play) (p : Play) : Type 0 where
    pub aged : Aged most head host (ticks_of host base.events) p
    pub late : ticks_of host base.events + 2 ≤ ticks_of host p.events

  pub settles : (base moment : Play) → base.world ≡ run head base.events → LeadsTo dead base moment → IsLawful most head moment → IsSmall moment
      → base.world.server.now + ticks_to_settle ≤ moment.world.server.now → host < head.hosts → Settled base moment
  settles base moment is leads l small late there =
      let l0 = led-lawful most head dead base moment leads is l in
      let g = led most head dead (Settling base) (settling-event base) base moment leads is l small (first-settling base l0) in
      let before = now-is most head base l0 in
      let after = now-is most head moment l in
      let all = ap server_ticks g.since.1 in
      let parts = server-append g.since.0 base.events in
      let hosts = ap (ticks_of host) g.since.1 in
      let shares = host-append host g.since.0 base.events in
      let long : 1 ≤ most = let a = l.bounds.first_long in let b = l.bounds.first_short in omega arith in
      let twice = ticks-twice head.hosts most host moment.events g.since.0 base.events l.within g.since.1 there long (omega arith) in
      record { aged = g.aged; late = omega arith }
