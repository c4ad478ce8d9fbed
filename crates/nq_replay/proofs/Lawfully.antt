-- A schedule that was played to its end is lawful.
use Rattle.std.proofs.Common.{◌≡◌, ◌⊎◌, inl, inr, ℕ, ◌+◌, ◌≤◌, Bool, true, false, List, [], ◌∷◌, length, Option, Some, None, refl, arith}
use Rattle.std.proofs.lemmas.List.Elements.{All-nil, All-cons}
use Rattle.std.specs.List.{All}
use Rattle.std.specs.Prelude.{nat_lt, if◌then◌else◌}
use Rattle.nq_base.specs.declared.Event.{Event}
use Rattle.nq_base.specs.declared.SkewBroken.{SkewBroken}
use Rattle.nq_model.proofs.SkewNames.{each-tick-is-judged}
use Rattle.nq_model.specs.protocol.Profile.{shortest_term}
use Rattle.nq_model.specs.protocol.Skew.{IsWithinSkew, is_server_tick}
use Rattle.nq_model.specs.protocol.SkewBroken.{skew_broken}
use Rattle.nq_model.specs.protocol.Stepped.{done, too_many_events, most_events, stepped, tested_skew}
use Rattle.nq_model.specs.protocol.World.{Head as Beginning, run}
use Rattle.nq_replay.proofs.Keeping.{Keeps, ends-answered}
use Rattle.nq_replay.proofs.RulesKeeping.{keeps-lines}
use Rattle.nq_replay.proofs.Skewing.{within-on}
use Rattle.nq_replay.specs.Lawful.{PlayedRunsAreLawful}
use Rattle.nq_replay.specs.Playing.{beginning, plain_rules, play}
use Rattle.nq_replay.specs.Rules.{play_event, play_plainly}
use Rattle.nq_replay.specs.Texts.{IsTellable}
use Rattle.nq_model.specs.laws.Bounds.{BootsWithin}
use Rattle.nq_script.specs.declared.heads.Head.{Head}

-- what is kept by each event that is taken
record IsSo (head : Beginning) (events : List Event) : Type 0 where
  skew : IsWithinSkew head.hosts head.longest events
  boots : All (BootsWithin head.longest) events

-- an event other than a tick of the server's clock
so-on : (head : Beginning) (event : Event) (events : List Event) → is_server_tick event ≡ 0 → BootsWithin head.longest event → IsSo head events
    → IsSo head (event ∷ events)
so-on head event events none boots so = record {
  skew = within-on head.hosts head.longest event events none so.skew;
  boots = All-cons (BootsWithin head.longest) event events boots so.boots;
}

keeps-other : (head : Beginning) (event : Event) → is_server_tick event ≡ 0 → BootsWithin head.longest event
    → Keeps (IsSo head) (play_plainly plain_rules head event)
unfolding play_event
keeps-other head event none boots events so =
    ends-answered (IsSo head) (event ∷ events) (stepped head events event) (λ is. so-on head event events none boots so)

-- a tick that is taken breaks nothing
room-none : (packets : ℕ) (broken : Option SkewBroken) → tested_skew packets broken ≡ done → broken ≡ None
room-none packets None is = refl
room-none packets (Some b) is = absurd (cc)

tick-none : (room : Bool) (packets : ℕ) (broken : Option SkewBroken) → (if room then tested_skew packets broken else too_many_events) ≡ done → broken ≡ None
tick-none true packets broken is = room-none packets broken is
tick-none false packets broken is = absurd (cc)

keeps-tick : (head : Beginning) → Keeps (IsSo head) (play_plainly plain_rules head Event.ServerTick)
unfolding play_event
keeps-tick head events so = ends-answered (IsSo head) (Event.ServerTick ∷ events) (stepped head events Event.ServerTick) (λ is. record {
  skew = (each-tick-is-judged head.hosts head.longest events so.skew).within (tick-none (nat_lt (length events) most_events)
      (length (run head events).packets) (skew_broken head.hosts head.longest events) is);
  boots = All-cons (BootsWithin head.longest) Event.ServerTick events tt so.boots;
})

-- a boot that a head allows has a term within the bounds
boots-within : (version longest most : ℕ) → ((version ≡ 1) × (longest ≡ 60)) ⊎ ((version ≡ 2) × (5 ≤ longest)) → longest ≤ most
    → (shortest_term ≤ longest) × (longest ≤ most)
boots-within version longest most (inl first) allowed = (let is = first.1 in omega arith, allowed)
boots-within version longest most (inr second) allowed = (second.1, allowed)

-- an event of a schedule
keeps-event : (head : Head) (event : Event) → IsTellable head event → Keeps (IsSo (beginning head)) (play_plainly plain_rules (beginning head) event)
keeps-event head (Event.Call host call) told = keeps-other (beginning head) (Event.Call host call) refl tt
keeps-event head (Event.Deliver k) told = keeps-other (beginning head) (Event.Deliver k) refl tt
keeps-event head Event.ServerTick told = keeps-tick (beginning head)
keeps-event head (Event.ClientTick host) told = keeps-other (beginning head) (Event.ClientTick host) refl tt
keeps-event head (Event.Restart host) told = keeps-other (beginning head) (Event.Restart host) refl tt
keeps-event head (Event.Crash longest) told =
    keeps-other (beginning head) (Event.Crash longest) refl (boots-within head.version longest head.longest told.1 told.0)

no-part : (hosts longest : ℕ) → IsWithinSkew hosts longest []
no-part hosts longest [] [] after split host below few = omega arith
no-part hosts longest [] (p ∷ part) after split host below few = absurd (cc)
no-part hosts longest (b ∷ before) part after split host below few = absurd (cc)

pub played-runs-are-lawful : PlayedRunsAreLawful
unfolding play
played-runs-are-lawful head lines text events spelled is =
    let fits = spelled.1.0 in
    let so = keeps-lines plain_rules head (IsSo (beginning head)) (keeps-event head) (λ aside events so. so) (most_events + 1) _ [] lines
    spelled.1.1.0 [] events spelled.1.1.1 (record {
      skew = no-part head.hosts head.longest;
      boots = All-nil (BootsWithin head.longest);
    }) is in
    record {
      bounds = record { hosts = fits.settings.few_hosts; first_long = fits.settings.fit_longest.0; first_short = omega arith; boots = so.boots };
      skew = so.skew;
    }
