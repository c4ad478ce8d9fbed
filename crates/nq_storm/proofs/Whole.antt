-- A storm as a whole.
use Rattle.std.proofs.Common.{◌≡◌, ℕ, ◌+◌, ◌<◌, Bool, List, [], length, Option, refl, ap, subst, ◌∙◌, arith, add-one}
use Rattle.std.proofs.lemmas.List.{length-reverse}
use Rattle.std.specs.Prelude.{reverse}
use Rattle.nq_base.specs.declared.Event.{Event}
use Rattle.nq_model.specs.protocol.Kept.{Kept}
use Rattle.nq_model.specs.protocol.World.{Head}
use Rattle.nq_replay.specs.Delivering.{Marks}
use Rattle.nq_storm.proofs.Passing.{ends_early}
use Rattle.nq_storm.specs.Ending.{CountsFaults, Halts, IsInStorm, Stands, Storms}
use Rattle.nq_storm.specs.Storming.{generator, word_behind}
use Rattle.nq_storm.specs.declared.stormed.Stormed.{Stormed}
use Rattle.nq_storm.specs.Rules.{Rule}
use Rattle.nq_world.specs.Playing.{Plays, WorldOver}
use Rattle.rand_pcg.specs.Lcg.{Lcg}
use Rattle.rand_pcg.specs.Pcg.{pcg32}

-- the word that is drawn, and the generator behind it
pub drawn : (start count word : ℕ) (old new : Lcg) → old ≡ generator start count → (word, new) ≡ pcg32 old → word ≡ word_behind start count
drawn start count word old new here is = subst (λ g. word ≡ (pcg32 g).0) here (ap (λ p. p.0) is)

pub further : (start count word : ℕ) (old new : Lcg) → old ≡ generator start count → (word, new) ≡ pcg32 old → new ≡ generator start (count + 1)
further start count word old new here is = rw (add-one count) (subst (λ g. new ≡ (pcg32 g).1) here (ap (λ p. p.1) is))

-- before the first event
pub begins : {K : Type 0} (head : Head) (start : ℕ) (first : Option Rule) (ran : List Event) (w : WorldOver K) (told : Option Kept)
    (flags : List Bool) → ran ≡ [] → Plays head [] w told → Marks flags []
    → IsInStorm head start first (reverse ran) first w told flags
begins head start first ran w told flags none plays marks =
    rw none (record { at = record { plays = plays; marks = marks }; storm = refl })

-- behind the last event
pub is_whole : {K : Type 0} (head : Head) (start wanted : ℕ) (first last : Option Rule) (ran : List Event) (w : WorldOver K) (told : Option Kept)
    (flags : List Bool) → length ran ≡ wanted
    → IsInStorm head start first (reverse ran) last w told flags → Storms Stormed.Done head start wanted first (reverse ran) w told
is_whole head start wanted first last ran w told flags many here = record {
  last = last;
  storm = here.storm;
  ends = length-reverse ran ∙ many;
  stands = here.at.plays;
}

-- where it ended before
pub is_cut : {K : Type 0} (ended : Stormed) (head : Head) (start wanted earlier : ℕ) (first last : Option Rule) (before after : List Event)
    (old new : WorldOver K) (told tells : Option Kept) (flags : List Bool) → (ended ≡ Stormed.Done → ⊥)
    → after ≡ before → length before ≡ earlier → earlier < wanted → IsInStorm head start first (reverse before) last old told flags
    → Halts ended head (reverse before) × Stands ended head (reverse before) new tells
    → Storms ended head start wanted first (reverse after) new tells
is_cut ended head start wanted earlier first last before after old new told tells flags other same many early here halts =
    let count = length-reverse before in
    let few : length (reverse before) < wanted = omega (arith, count, many, early) in
    rw same (record {
      last = last;
      storm = here.storm;
      ends = ends_early ended wanted head (reverse before) other few halts.0;
      stands = halts.1;
    })

-- the count of faults over two moments
pub counts_on : (ended : Stormed) (first second last : ℕ) → second ≡ first → CountsFaults ended second last → CountsFaults ended first last
counts_on ended first second last is counts = subst (λ n. CountsFaults ended n last) is counts
