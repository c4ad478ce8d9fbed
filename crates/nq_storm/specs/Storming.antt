-- What a storm is. The events of a run are told with the newest first.
use Rattle.std.specs.Prelude.{◌≡◌, ◌↔◌, ℕ, ◌+◌, ◌%◌, List, [], ◌∷◌, length, slice_get, Option, Some, IfSome, IsTrue, unwrap_or, zero, suc}
use Rattle.nq_base.specs.declared.Event.{Event}
use Rattle.nq_model.specs.protocol.Skew.{IsWithinSkew}
use Rattle.nq_model.specs.protocol.Stepped.{done, stepped}
use Rattle.nq_model.specs.protocol.World.{Head, run}
use Rattle.nq_replay.specs.Delivering.{next_packet}
use Rattle.nq_storm.specs.Menu.{menu}
use Rattle.nq_storm.specs.Rules.{Rule, chosen}
use Rattle.nq_storm.specs.declared.fates.offers.Offer.{Offer}
use Rattle.rand_core.specs.Pcg32Seed.{pcg32_seed}
use Rattle.rand_pcg.specs.Lcg.{Lcg}
use Rattle.rand_pcg.specs.Pcg.{pcg32, pcg32_of_seed}

-- the generator that starts with a number, after so many words
abbrev pub generator : (start count : ℕ) → Lcg
generator start zero = pcg32_of_seed (pcg32_seed 16 start)
generator start (suc count) = (pcg32 (generator start count)).1

-- the word of the event behind so many events
abbrev pub word_behind : (start count : ℕ) → ℕ
word_behind start count = (pcg32 (generator start count)).0

-- what is offered behind these events with a word: the packets that were sent, the least of them that was never delivered or their
-- number where each was, and a tick of the server's clock where it is within skew
pub record IsOffered (head : Head) (earlier : List Event) (word : ℕ) (offer : Offer) : Type 0 where
  pub packets : offer.packets ≡ length (run head earlier).packets
  pub fresh : offer.fresh ≡ unwrap_or (next_packet head earlier) offer.packets
  pub server_tick : IsTrue offer.server_tick ↔ IsWithinSkew head.hosts head.longest (Event.ServerTick ∷ earlier)
  pub word_is : offer.word ≡ word

-- an event is chosen behind these: a fate that tells its rule, or does not, answers a number, which names a place on the menu of this
-- moment; the event stands there. Where a rule is told, the answer is the rule's, and so is what is told from then on
pub record IsChosen (head : Head) (start : ℕ) (earlier : List Event) (told : Option Rule) (event : Event) (tells : Option Rule) : Type 0 where
  pub offer : Offer
  pub offered : IsOffered head earlier (word_behind start (length earlier)) offer
  pub answer : ℕ
  pub place : slice_get (menu offer (length earlier + 1)) (answer % offer.size) ≡ Some event
  pub ruled : IfSome told (λ rule. (answer ≡ (chosen rule offer).0) × (tells ≡ Some (chosen rule offer).1))

-- these events are a storm of a fate that told the first before it and tells the last after it: each was chosen from the menu of its
-- moment, and was taken in
abbrev pub IsStorm : Head → (start : ℕ) → (first : Option Rule) → List Event → (last : Option Rule) → Type 0
IsStorm head start first [] last = last ≡ first
IsStorm head start first (event ∷ earlier) last =
    (told : Option Rule) × IsStorm head start first earlier told × IsChosen head start earlier told event last
    × (stepped head earlier event ≡ done)
