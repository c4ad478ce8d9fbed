-- One delivery of a play, or two: what is under way then.
use Rattle.std.proofs.Common.{◌≡◌, ◌≤◌, ℕ, ◌+◌, ◌*◌, ◌++◌, zero, suc, List, [], ◌∷◌, Some, length, refl, sym, ap, subst, ◌∙◌, arith}
use Rattle.std.specs.Prelude.{slice_get}
use Rattle.std.proofs.lemmas.List.{length-append}
use Rattle.nq_base.specs.declared.Event.{Event}
use Rattle.nq_model.specs.protocol.Lines.{Play, play, flow_first, numbers_from, without, added}
use Rattle.nq_model.specs.protocol.Message.{Packet}
use Rattle.nq_model.specs.protocol.World.{World, step}
use Rattle.law_rounds.proofs.Items.{Item, one, pair, all_numbers, numbers_of, Each, IsSingle, Rise, Queued, Adds, adds-ones, all-append, ones}
use Rattle.law_rounds.proofs.Items.{delivered-queue, queue-of}

-- ---- packets that one delivery adds

pub record Grows (w v : World) : Type 0 where
  pub more : List Packet
  pub is : v.packets ≡ w.packets ++ more

-- ---- how many items they are

numbers-many : (first count : ℕ) → length (numbers_from first count) ≡ count
numbers-many first zero = refl
numbers-many first (suc count) = ap suc (numbers-many (first + 1) count)

pub items-most : (items : List Item) → length items ≤ length (all_numbers items)
items-most [] = omega arith
items-most (i ∷ items) = let rest = items-most items in by i rest
  where
    by : (j : Item) → length items ≤ length (all_numbers items) → suc (length items) ≤ length (numbers_of j ++ all_numbers items)
    by (one k p) rest = omega arith
    by (pair k host x y file who tag r) rest = omega arith

pub numbers-most : (items : List Item) → length (all_numbers items) ≤ 2 * length items
numbers-most [] = omega arith
numbers-most (i ∷ items) = let rest = numbers-most items in by i rest
  where
    by : (j : Item) → length (all_numbers items) ≤ 2 * length items → length (numbers_of j ++ all_numbers items) ≤ 2 * suc (length items)
    by (one k p) rest = omega arith
    by (pair k host x y file who tag r) rest = omega arith

pub adds-most : (ps more : List Packet) (new : List Item) → Adds ps more new → length new ≤ length more
adds-most ps more new a =
    let b = items-most new in
    let c : length (all_numbers new) ≡ length more = ap (λ (ns : List ℕ). length ns) a.are ∙ numbers-many (length ps) (length more) in
    omega arith

-- ---- the first item is delivered

module _ (p : Play) (k : ℕ) (q : Packet) (items : List Item) (queue : Queued p.world.packets p.fresh (one k q ∷ items)) where
  pub first-play : flow_first p.fresh p ≡ play p (Event.Deliver k)
  first-play = ap (λ ns. flow_first ns p) queue.is

  pub first-sent : slice_get p.world.packets k ≡ Some q
  first-sent = queue.sent.0

  pub next-queue : (more : List Packet) (new : List Item) → (play p (Event.Deliver k)).world.packets ≡ p.world.packets ++ more → Adds p.world.packets
      more new → Queued (play p (Event.Deliver k)).world.packets (play p (Event.Deliver k)).fresh (items ++ new)
  next-queue more new grown adds =
      let v = step p.world (Event.Deliver k) in
      let here : Queued p.world.packets (k ∷ all_numbers items) (one k q ∷ items) = record {
        is = refl;
        sent = queue.sent;
        rises =
            subst (λ ns. Rise 0 (length p.world.packets) ns) queue.is queue.rises;
      } in
      subst (λ ns. Queued v.packets (without k ns ++ added p.world v) (items ++ new)) (sym queue.is) (delivered-queue p.world v more k q
      (all_numbers items) items new here grown adds)

  -- all of it, each packet for itself
  pub any-queue : (more : List Packet) → (play p (Event.Deliver k)).world.packets ≡ p.world.packets ++ more → (all : List Item)
      × (Queued (play p (Event.Deliver k)).world.packets (play p (Event.Deliver k)).fresh all
      × (Each IsSingle all × (length all ≤ length (all_numbers items) + length more)))
  any-queue more grown =
      let v = step p.world (Event.Deliver k) in
      let r = next-queue more (ones (length p.world.packets) more) grown (adds-ones p.world.packets more) in
      let split = queue-of (play p (Event.Deliver k)).world.packets (play p (Event.Deliver k)).fresh r.rises in
      let a = items-most split.0 in
      let b : length (play p (Event.Deliver k)).fresh ≡ length (all_numbers split.0) = ap (λ (ns : List ℕ). length ns) split.1.0.is in
      let c : length (play p (Event.Deliver k)).fresh ≡ length (all_numbers (items ++ ones (length p.world.packets) more)) =
      ap (λ (ns : List ℕ). length ns) r.is in
      let d : length (all_numbers (items ++ ones (length p.world.packets) more)) ≡ length (all_numbers items) + length more =
      ap (λ (ns : List ℕ). length ns) (all-append items (ones (length p.world.packets) more)) ∙ length-append (all_numbers items)
      (all_numbers (ones (length p.world.packets) more)) ∙ ap (λ n. length (all_numbers items) + n) (ap (λ (ns : List ℕ). length ns)
      (adds-ones p.world.packets more).are ∙ numbers-many (length p.world.packets) (length more)) in
      (split.0, (split.1.0, (split.1.1, omega arith)))
