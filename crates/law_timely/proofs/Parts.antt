-- A timely part of a run: what each of its events keeps, the part keeps.
use Rattle.std.proofs.Common.{◌≡◌, ℕ, true, List, [], ◌∷◌, sym, subst, ap}
use Rattle.std.proofs.lemmas.Bool.{and_parts}
use Rattle.nq_base.specs.declared.Event.{Event}
use Rattle.nq_model.specs.protocol.Lines.{Play, play}
use Rattle.nq_model.specs.protocol.World.{Head, step, run}
use Rattle.walk_steps.proofs.Clocks.{within-before}
use Rattle.walk_steps.proofs.NoCrash.{bounds-before}
use Rattle.law_rounds.specs.CalmRoundsAreLawful.{IsLawful}
use Rattle.law_rounds.specs.RoundsEndQuiet.{IsSmall}
use Rattle.law_rounds.proofs.Flows.{small-before}
use Rattle.law_timely.specs.Timely.{is_timely_event, is_timely, play_events, LeadsTo}

module _ (most : ℕ) (head : Head) where
  -- a play stands where its events lead
  abbrev pub IsRun : Play → Type 0
  IsRun p = p.world ≡ run head p.events

  played-run : (p : Play) (e : Event) → IsRun p → IsRun (play p e)
  played-run p e is = ap (λ w. step w e) is

  part-run : (part : List Event) (p : Play) → IsRun p → IsRun (play_events part p)
  part-run [] p is = is
  part-run (e ∷ part) p is = part-run part (play p e) (played-run p e is)

  part-lawful : (part : List Event) (p : Play) → IsRun p → IsLawful most head (play_events part p) → IsLawful most head p
  part-lawful [] p is l = l
  part-lawful (e ∷ part) p is l =
      let after = part-lawful part (play p e) (played-run p e is) l in
      record {
        is_run = is;
        bounds = bounds-before most head e p.events after.bounds;
        within = within-before head.hosts most e p.events after.within;
      }

  part-small : (part : List Event) (p : Play) → IsSmall (play_events part p) → IsSmall p
  part-small [] p s = s
  part-small (e ∷ part) p s = small-before p e (part-small part (play p e) s)

  -- an event of a timely part
  pub record During (dead : List ℕ) (p : Play) (e : Event) : Type 0 where
    pub before : IsLawful most head p
    pub after : IsLawful most head (play p e)
    pub small : IsSmall (play p e)
    pub timely : is_timely_event dead p e ≡ true

  module _ (dead : List ℕ) (G : Play → Type 0) (keeps : (p : Play) (e : Event) → During dead p e → G p → G (play p e)) where
    part-keeps : (part : List Event) (p : Play) → IsRun p → IsLawful most head (play_events part p) → IsSmall (play_events part p)
        → is_timely dead p part ≡ true → G p → G (play_events part p)
    part-keeps [] p is l s t g = g
    part-keeps (e ∷ part) p is l s t g =
        let both = and_parts (is_timely_event dead p e) (is_timely dead (play p e) part) t in
        let after = part-lawful part (play p e) (played-run p e is) l in
        let during : During dead p e = record {
          before = part-lawful (e ∷ part) p is l;
          after = after;
          small = part-small part (play p e) s;
          timely = both.0;
        } in
        part-keeps part (play p e) (played-run p e is) l s both.1 (keeps p e during g)

    pub led : (p q : Play) → LeadsTo dead p q → IsRun p → IsLawful most head q → IsSmall q → G p → G q
    led p q leads is l s g =
        subst G leads.leads (part-keeps leads.part p is (subst (λ r. IsLawful most head r) (sym leads.leads) l)
        (subst (λ r. IsSmall r) (sym leads.leads) s) leads.is_timely_part g)

  pub led-run : (dead : List ℕ) (p q : Play) → LeadsTo dead p q → IsRun p → IsRun q
  led-run dead p q leads is = subst IsRun leads.leads (part-run leads.part p is)

  pub led-lawful : (dead : List ℕ) (p q : Play) → LeadsTo dead p q → IsRun p → IsLawful most head q → IsLawful most head p
  led-lawful dead p q leads is l = part-lawful leads.part p is (subst (λ r. IsLawful most head r) (sym leads.leads) l)

  pub led-small : (dead : List ℕ) (p q : Play) → LeadsTo dead p q → IsSmall q → IsSmall p
  led-small dead p q leads s = part-small leads.part p (subst (λ r. IsSmall r) (sym leads.leads) s)
