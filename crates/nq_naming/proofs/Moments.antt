-- A world that comes from one moment to the next: what was found stays so, and each find is true.
use Rattle.std.proofs.Common.{◌≡◌, ℕ, List, [], ◌∷◌, ◌++◌, length, Option, refl, sym, ap, subst, ◌∙◌, append_assoc}
use Rattle.std.specs.List.{AllByRecursion}
use Rattle.nq_directory.specs.declared.name_cache.found.Found.{Found}
use Rattle.nq_model.specs.protocol.Kept.{Kept, find_name}
use Rattle.nq_model.specs.protocol.World.{Head}
use Rattle.nq_name_server.specs.Outside.{found, outside_run}
use Rattle.nq_name_server.specs.Theorem.{kept_as}
use Rattle.nq_name_server.specs.declared.run.event.NameEvent.{NameEvent}
use Rattle.nq_names.specs.Playing.{NamesOver, PlaysOutside, StepsOutside}
use Rattle.nq_naming.proofs.Inside.{GoesOn, run-on}
use Rattle.nq_naming.specs.Finding.{IsTrueFind, find_line, lines_of}
use Rattle.nq_naming.specs.Going.{IsAtMoment}
use Rattle.nq_naming.specs.Playing.{Moment, Sought, names_rules, with_find, with_more}
use Rattle.nq_replay.proofs.RulesSteps.{steps-go}
use Rattle.nq_replay.specs.AsidesGoing.{Goes}
use Rattle.nq_replay.specs.Rules.{play_event}
use Rattle.nq_replay.specs.RulesGoing.{StepsBy}
use Rattle.nq_world.specs.declared.stepped.Stepped.{Stepped}

-- ---- more events

-- a find stays true
true-on : (head : Head) (events es : List NameEvent) (s : Sought) → GoesOn events es → IsTrueFind head events s → IsTrueFind head es s
true-on head events es s on is =
    let ran = subst (λ l. GoesOn (outside_run head events).ran (outside_run head l).ran) (sym on.1) (run-on head on.0 events) in
    record {
      later = ran.0 ++ is.later;
      before = ran.1 ∙ ap (λ r. ran.0 ++ r) is.before ∙ sym (append_assoc ran.0 is.later (outside_run head s.events).ran);
      kept = is.kept;
    }

finds-on : (head : Head) (events es : List NameEvent) (finds : List Sought) → GoesOn events es → AllByRecursion (IsTrueFind head events) finds
    → AllByRecursion (IsTrueFind head es) finds
finds-on head events es [] on all = tt
finds-on head events es (s ∷ finds) on all = (true-on head events es s on all.0, finds-on head events es finds on all.1)

-- a step of a world that has come to a moment
pub steps-by : {K W : Type 0} (plays : Head → Moment → W → Type 0) (head : Head) (m : Moment) (event : NameEvent) (said : Stepped) (w : W)
    (new : NamesOver K) (told tells : Option Kept) → (PlaysOutside head (event ∷ m.events) new tells → plays head (with_more m event) w)
    → StepsOutside head m.events event said new told tells → StepsBy names_rules plays head m event said w
steps-by plays head m event Stepped.Done w new told tells on steps = (steps.0, on steps.1)
steps-by plays head m event Stepped.NoPacket w new told tells on steps = steps.0
steps-by plays head m event (Stepped.SkewBroken broken) w new told tells on steps = steps.0
steps-by plays head m event (Stepped.Limit limit) w new told tells on steps = steps.0
steps-by plays head m event Stepped.Fault w new told tells on steps = tt
steps-by plays head m event Stepped.Memory w new told tells on steps = tt

-- an event that is given to a world by an aside
pub step-goes : {K : Type 0} (P : Moment → Type 0) (head : Head) (m : Moment) (event : NameEvent) (said : Stepped) (new : NamesOver K)
    (told tells : Option Kept) → (PlaysOutside head (event ∷ m.events) new tells → P (with_more m event))
    → StepsOutside head m.events event said new told tells → Goes said (play_event names_rules head event m) P
step-goes P head m event said new told tells on steps =
    let plays : Head → Moment → Unit {0} → Type 0 = λ h n u. P n in
    steps-go names_rules plays head m event said tt (steps-by plays head m event said tt new told tells on steps)

-- one event more
pub more-moment : {K : Type 0} (head : Head) (m : Moment) (event : NameEvent) (old new : NamesOver K) (told tells : Option Kept) (text : List ℕ)
    → IsAtMoment head m old told text → PlaysOutside head (event ∷ m.events) new tells → IsAtMoment head (with_more m event) new tells text
more-moment head m event old new told tells text is plays = record {
  plays = plays;
  said = is.said;
  finds = finds-on head m.events (event ∷ m.events) m.finds (event ∷ [], refl) is.finds;
}

-- ---- a find

pub find-moment : {K : Type 0} (head : Head) (m : Moment) (w : NamesOver K) (told : Option Kept) (text text' : List ℕ) (host : ℕ)
    (name : List ℕ) (events : ℕ) (known : Found) → IsAtMoment head m w told text
    → known ≡ found (outside_run head m.events) host name → events ≡ length (outside_run head m.events).ran
    → text' ≡ text ++ find_line host name events known
    → IsAtMoment head (with_find m host name) w told text'
find-moment head m w told text text' host name events known is knows many put =
    let o = outside_run head m.events in
    let keeps = is.plays.reaches.keeps in
    record {
      plays = is.plays;
      said = put ∙ ap (λ t. t ++ find_line host name events known) is.said
          ∙ ap (λ n. lines_of head m.finds ++ find_line host name n known) many
          ∙ ap (λ k. lines_of head m.finds ++ find_line host name (length o.ran) k) knows;
      finds = (
        record {
          later = [];
          before = refl;
          kept = λ knows. keeps.finds host name knows ∙ ap (λ v. kept_as (find_name name v.server.kept.files)) keeps.runs;
        },
        is.finds,
      );
    }
