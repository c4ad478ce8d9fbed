-- Deliveries in whatever order, and whole rounds of them: the plays to which they lead are lawful, and what is under way stands in order in them.
use Rattle.std.proofs.Common.{◌≡◌, ◌≤◌, ℕ, ◌++◌, zero, suc, List, [], ◌∷◌, length, refl, ap, arith}
use Rattle.nq_base.specs.declared.Event.{Event}
use Rattle.nq_model.specs.protocol.Lines.{Play, play, play_hosts}
use Rattle.nq_model.specs.protocol.World.{Head}
use Rattle.law_rounds.specs.CalmRoundsAreLawful.{IsLawful}
use Rattle.law_rounds.proofs.CalmEnds.{IsRising, played-rising, hosts-rising}
use Rattle.law_rounds.proofs.CalmIsLawful.{played-quiet, round}
use Rattle.law_rounds.specs.WholeRounds.{play_order, whole_round, whole_rounds, AreWhole, LinksKeepOrder}

module _ (most : ℕ) (head : Head) where
  pub order-lawful : (order : List ℕ) (p : Play) → IsLawful most head p → IsLawful most head (play_order order p)
  order-lawful [] p l = l
  order-lawful (k ∷ order) p l = order-lawful order (play p (Event.Deliver k)) (played-quiet most head p (Event.Deliver k) tt refl l)

  pub whole-lawful : (order : List ℕ) (p : Play) → IsLawful most head p → IsLawful most head (whole_round order p)
  unfolding whole_round
  whole-lawful order p l = round most head (play_order order p) (order-lawful order p l)

  pub wholes-lawful : (orders : List (List ℕ)) (p : Play) → IsLawful most head p → IsLawful most head (whole_rounds orders p)
  wholes-lawful [] p l = l
  wholes-lawful (order ∷ orders) p l = wholes-lawful orders (whole_round order p) (whole-lawful order p l)

pub order-rising : (order : List ℕ) (p : Play) → IsRising p → IsRising (play_order order p)
order-rising [] p r = r
order-rising (k ∷ order) p r = order-rising order (play p (Event.Deliver k)) (played-rising p (Event.Deliver k) r)

pub whole-rising : (order : List ℕ) (p : Play) → IsRising p → IsRising (whole_round order p)
unfolding whole_round
whole-rising order p r =
    let q = play_order order p in
    let ticked = play_hosts (length q.world.clients) 0 q in
    played-rising ticked Event.ServerTick (hosts-rising (length q.world.clients) 0 q (order-rising order p r))

pub wholes-rising : (orders : List (List ℕ)) (p : Play) → IsRising p → IsRising (whole_rounds orders p)
wholes-rising [] p r = r
wholes-rising (order ∷ orders) p r = wholes-rising orders (whole_round order p) (whole-rising order p r)

-- ---- rounds behind others

pub rounds-append : (front back : List (List ℕ)) (p : Play) → whole_rounds (front ++ back) p ≡ whole_rounds back (whole_rounds front p)
rounds-append [] back p = refl
rounds-append (order ∷ front) back p = rounds-append front back (whole_round order p)

pub whole-parts : (front back : List (List ℕ)) (p : Play) → AreWhole (front ++ back) p → AreWhole front p × AreWhole back (whole_rounds front p)
whole-parts [] back p a = (tt, a)
whole-parts (order ∷ front) back p a = let rest = whole-parts front back (whole_round order p) a.1 in ((a.0, rest.0), rest.1)

pub links-behind : (front back : List (List ℕ)) (p : Play) → LinksKeepOrder (front ++ back) p → LinksKeepOrder back (whole_rounds front p)
links-behind [] back p k = k
links-behind (order ∷ front) back p k = links-behind front back (whole_round order p) k.1

pub links-front : (front back : List (List ℕ)) (p : Play) → LinksKeepOrder (front ++ back) p → LinksKeepOrder front p
links-front [] back p k = tt
links-front (order ∷ front) back p k = (k.0, links-front front back (whole_round order p) k.1)

-- a list in two parts, of which the first has so many elements
pub record Parts {A : Type 0} (count : ℕ) (xs : List A) : Type 0 where
  pub front : List A
  pub back : List A
  pub split : xs ≡ front ++ back
  pub many : length front ≡ count

pub parts : {A : Type 0} (count : ℕ) (xs : List A) → count ≤ length xs → Parts count xs
parts zero xs few = record { front = []; back = xs; split = refl; many = refl }
parts (suc count) [] few = absurd (omega arith)
parts (suc count) (x ∷ xs) few =
    let rest = parts count xs (omega arith) in
    record { front = x ∷ rest.front; back = rest.back; split = ap (λ ys. x ∷ ys) rest.split; many = let same = rest.many in omega arith }
