-- The event that is chosen.
use Rattle.std.proofs.Common.{◌≡◌, ℕ, ◌+◌, List, length, Option, Some, sym, subst}
use Rattle.std.specs.Prelude.{◌%◌, IfSome, slice_get}
use Rattle.nq_base.specs.declared.Event.{Event}
use Rattle.nq_model.specs.protocol.World.{Head}
use Rattle.nq_storm.specs.Storming.{IsChosen, IsOffered, word_behind}
use Rattle.nq_storm.specs.Menu.{menu}
use Rattle.nq_storm.specs.Rules.{Rule, chosen}
use Rattle.nq_storm.specs.declared.fates.offers.Offer.{Offer}

-- what a fate chose is chosen from the menu of the moment
pub is_chosen : (head : Head) (start : ℕ) (events : List Event) (earlier word : ℕ) (offer : Offer) (told tells : Option Rule) (event : Event)
    → word ≡ word_behind start earlier → length events ≡ earlier → IsOffered head events word offer
    → ((answer : ℕ) × (slice_get (menu offer (earlier + 1)) (answer % offer.size) ≡ Some event)
    × IfSome told (λ rule. (answer ≡ (chosen rule offer).0) × (tells ≡ Some (chosen rule offer).1)))
    → IsChosen head start events told event tells
is_chosen head start events earlier word offer told tells event drawn many offered choice = record {
  offer = offer;
  offered = subst (λ n. IsOffered head events (word_behind start n) offer) (sym many) (subst (λ w. IsOffered head events w offer) drawn offered);
  answer = choice.0;
  place = subst (λ n. slice_get (menu offer (n + 1)) (choice.0 % offer.size) ≡ Some event) (sym many) choice.1;
  ruled = choice.2;
}
