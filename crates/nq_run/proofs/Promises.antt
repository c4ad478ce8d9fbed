-- What a replay prints is lawful and sound.
use Rattle.std.proofs.Common.{◌≡◌, ℕ, List, [], Option, None, reverse, refl, subst}
use Rattle.std.proofs.lemmas.List.{reverse-reverse}
use Rattle.nq_base.specs.declared.Event.{Event}
use Rattle.nq_check.proofs.Sounds.{faultless_where_sound}
use Rattle.nq_check.specs.Verdict.{verdict}
use Rattle.nq_laws.proofs.HeadlineParts.{at-every-moment}
use Rattle.nq_model.specs.protocol.Kept.{Kept}
use Rattle.nq_model.specs.protocol.Skew.{IsWithinSkew}
use Rattle.nq_model.specs.laws.Sound.{IsSound}
use Rattle.nq_model.specs.protocol.World.{run}
use Rattle.nq_replay.specs.Lawful.{IsLawful}
use Rattle.nq_replay.specs.Playing.{beginning}
use Rattle.nq_model.specs.laws.Bounds.{KeepsBounds}
use Rattle.nq_model.specs.laws.Headline.{HeadlineHolds}
use Rattle.nq_replay.specs.Replay.{OfInput, PrintsWithin}
use Rattle.nq_run.specs.Promised.{HoldsThroughout, PrintsLawfully, PrintsSound}
use Rattle.nq_script.specs.declared.heads.Head.{Head}

-- the headline holds throughout a lawful schedule
pub holds_throughout : (head : Head) (events : List Event) → IsLawful (beginning head) events → HoldsThroughout head events
holds_throughout head events lawful = λ later earlier split.
    at-every-moment head.longest (beginning head) later earlier
    (subst (KeepsBounds head.longest (beginning head)) split lawful.bounds)
    (subst (IsWithinSkew head.hosts head.longest) split lawful.skew)

prints_lawfully : (text : List ℕ) (held now : Option (List ℕ)) (told : Option Kept) → PrintsWithin text held now told → PrintsLawfully text held now told
prints_lawfully text held now told p = record {
  head = p.head;
  events = p.events;
  runs = p.runs;
  printed = p.printed;
  holds = holds_throughout p.head p.events p.lawful;
  keeps = p.keeps;
}

-- the headline at the end of a run is all that the judge asks
pub faultless : (head : Head) (events : List Event) → HoldsThroughout head events → verdict (run (beginning head) events).journal ≡ None
faultless head events holds =
    let world = run (beginning head) events in
    let h : HeadlineHolds world = (holds [] events refl).holds in
    let sound : IsSound world.journal = record {
      legal = h.legal;
      ordered = h.ordered;
      accounted = h.accounted;
      excused = h.excused;
      reported =
          h.reported;
      synchronized = h.synchronized;
    } in
    faultless_where_sound world.journal sound

prints_sound : (text : List ℕ) (held now : Option (List ℕ)) (told : Option Kept) → PrintsLawfully text held now told → PrintsSound held now
prints_sound text held now told p =
    let journal = (run (beginning p.head) p.events).journal in
    record {
      version = p.head.version;
      entries = reverse journal;
      printed = p.printed;
      judged = rw (reverse-reverse journal)
          (faultless p.head p.events p.holds);
    }

-- of an input whose journal was printed
pub input_lawful : (limit : ℕ) (left rest held now : Option (List ℕ)) (told : Option Kept) → OfInput limit left rest (λ text. PrintsWithin text held
    now told) → OfInput limit left rest (λ text. PrintsLawfully text held now told)
input_lawful limit left rest held now told p = record { text = p.text; read = p.read; so = prints_lawfully p.text held now told p.so }

pub input_sound : (limit : ℕ) (left rest held now : Option (List ℕ)) (told : Option Kept) → OfInput limit left rest (λ text. PrintsWithin text held
    now told) → OfInput limit left rest (λ text. PrintsSound held now)
input_sound limit left rest held now told p = record {
  text = p.text;
  read = p.read;
  so = prints_sound p.text held now told
      (prints_lawfully p.text held now told p.so);
}
