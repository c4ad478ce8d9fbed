-- The two frames of a delivery. Either a call is answered in it, or: what is clear stays so, and who is put off has a clear way; and where no row
-- is in the way at its start, there is always one who hopes.
use Rattle.std.proofs.Common.{◌≡◌, ◌≤◌, ◌<◌, ◌⊎◌, ℕ, ◌==◌, Bool, true, false, List, [], ◌∷◌, Some, refl, sym, subst, ◌∙◌, arith, inl, inr}
use Rattle.std.specs.Prelude.{slice_get}
use Rattle.nq_base.specs.declared.Event.{Event}
use Rattle.nq_base.specs.declared.Row.{Row}
use Rattle.nq_model.specs.protocol.Client.{Client, UnderWay}
use Rattle.nq_model.specs.protocol.Lines.{Play, play}
use Rattle.nq_model.specs.protocol.Message.{Packet}
use Rattle.nq_model.specs.protocol.World.{Head, World}
use Rattle.law_rounds.specs.CalmRoundsAreLawful.{IsLawful}
use Rattle.law_rounds.proofs.CalmIsLawful.{played-quiet}
use Rattle.law_rounds.specs.RoundsEndQuiet.{IsQuiet}
use Rattle.law_rounds.specs.WholeRounds.{play_order, IsInOrder}
use Rattle.law_rounds.proofs.Next.{next-among}
use Rattle.walk_steps.proofs.ClientMoves.{none-some}
use Rattle.walk_steps.proofs.Rows.{same-number, number-same}
use Rattle.nq_laws.proofs.Counts.{open_calls, order-less}
use Rattle.nq_laws.proofs.Delivery.{Delivered, fewer, goes_on_so, delivers}
use Rattle.nq_laws.proofs.ServedDelivery.{State}
use Rattle.nq_laws.proofs.UnderWay.{Moves, all_move, all_but, Paused}
use Rattle.nq_laws.proofs.Hope.{file_of_call, access_of_call, Hopeful, told, waits, vacated, Passes, goes, hoped, InWay, Clear}
use Rattle.nq_laws.proofs.Queue.{queue}

-- ---- what the frames keep

-- of some hosts: each hopes, or its way is clear
abbrev pub HopesOrClear : (ℕ → Type 0) → World → List Packet → Type 0
HopesOrClear K w q = (a : ℕ) → K a → Hopeful w.clients q a ⊎ Clear true w.server.table.rows w.clients q a

-- in each one's way are only rows that somebody hopes for; and somebody hopes
pub record SomeHopes (w : World) (q : List Packet) : Type 0 where
  pub clear : (a : ℕ) → Clear false w.server.table.rows w.clients q a
  pub host : ℕ
  pub hopes : Hopeful w.clients q host

pub first-moves : (K : ℕ → Type 0) (w v : World) (q q' : List Packet) → Moves w v q q' → HopesOrClear K w q → HopesOrClear K v q'
first-moves K w v q q' (all_move on clear) h a k = by (h a k)
  where
    by : Hopeful w.clients q a ⊎ Clear true w.server.table.rows w.clients q a → Hopeful v.clients q' a ⊎ Clear true v.server.table.rows v.clients q' a
    by (inl x) = inl (on a x)
    by (inr x) = inr (clear true a x)
first-moves K w v q q' (all_but b others clear now hope) h a k = by (h a k)
  where
    whose : Hopeful w.clients q a → (e : Bool) → (a == b) ≡ e → Hopeful v.clients q' a ⊎ Clear true v.server.table.rows v.clients q' a
    whose x true e = inr (subst (λ n. Clear true v.server.table.rows v.clients q' n) (sym (same-number a b e)) now)
    whose x false e = inl (others a (λ same. let yes : (a == b) ≡ true = number-same a b same in absurd (cc)) x)

    by : Hopeful w.clients q a ⊎ Clear true w.server.table.rows w.clients q a → Hopeful v.clients q' a ⊎ Clear true v.server.table.rows v.clients q' a
    by (inl x) = whose x (a == b) refl
    by (inr x) = inr (clear true a x)

pub second-moves : (w v : World) (q q' : List Packet) → Moves w v q q' → SomeHopes w q → SomeHopes v q'
second-moves w v q q' (all_move on clear) h = record { clear = λ a. clear false a (h.clear a); host = h.host; hopes = on h.host h.hopes }
second-moves w v q q' (all_but b others clear now hope) h = by (h.host == b) refl
  where
    by : (e : Bool) → (h.host == b) ≡ e → SomeHopes v q'
    by true e = let n = hope (h.clear b) in record { clear = λ a. clear false a (h.clear a); host = n.0; hopes = n.1 }
    by false e = record {
      clear = λ a. clear false a (h.clear a);
      host = h.host;
      hopes = others h.host (λ same. let yes : (h.host == b) ≡ true =
          number-same h.host b same in absurd (cc)) h.hopes;
    }

-- ---- at the end of a delivery

-- no row is in the way of a host's call
abbrev pub NoWay : World → ℕ → Type 0
NoWay w a =
    (c : Client) (u : UnderWay) (f : ℕ)
    → slice_get w.clients a ≡ Some c
    → c.call ≡ Some u
    → file_of_call u.call ≡ Some f
    → (h : ℕ) (row : Row)
    → InWay w.server.table.rows a f (access_of_call u.call) h row
    → ⊥

pub no-hope : (w : World) (q : List Packet) → ((host : ℕ) (c : Client) → slice_get w.clients host ≡ Some c → IsQuiet c) → (h : ℕ) → Hopeful w.clients q h → ⊥
no-hope w q quiet h x =
    let late = ((quiet h x.client x.at).waits x.under x.opened).0 in
    let early = x.unpaused in
    absurd (omega arith)

none-passes : (w : World) → ((host : ℕ) (c : Client) → slice_get w.clients host ≡ Some c → IsQuiet c) → (g : Bool) (f h : ℕ) (row : Row)
    → Passes g w.clients [] f h row → ⊥
none-passes w quiet g f h row (hoped k) = no-hope w [] quiet h k.hope
none-passes w quiet g f h row (goes may to_go (told n i)) = i
none-passes w quiet g f h row (goes may to_go (vacated n i)) = i
none-passes w quiet g f h row (goes may to_go (waits c n at noted tag)) = none-some n (sym ((quiet h c at).no_notice f) ∙ noted)

pub clear-none : (w : World) → ((host : ℕ) (c : Client) → slice_get w.clients host ≡ Some c → IsQuiet c) → (g : Bool) (a : ℕ)
    → Clear g w.server.table.rows w.clients [] a → NoWay w a
clear-none w quiet g a clear c u f at has file h row way = none-passes w quiet g f h row (clear c u f at has file h row way)

pub none-clear : (w : World) (q : List Packet) (g : Bool) (a : ℕ) → NoWay w a → Clear g w.server.table.rows w.clients q a
none-clear w q g a none c u f at has file h row way = absurd (none c u f at has file h row way)

-- ---- a whole delivery

module _ (most : ℕ) (head : Head) (F : World → List Packet → Type 0) (moves : (w v : World) (q q' : List Packet) → Moves w v q q' → Paused w v → F w q
    → F v q') where
  -- either a call is answered, or the frame stands
  pub data Ends (p : Play) (count : ℕ) : Type 0 where
    answered : open_calls p.world.clients < count → Ends p count
    stands : State most head p → F p.world (queue p) → Ends p count

  pub order-ends : (order : List ℕ) (p : Play) → IsInOrder order p → State most head p → F p.world (queue p)
      → Ends (play_order order p) (open_calls p.world.clients)
  order-ends [] p in_order st f = stands st f
  order-ends (k ∷ order) p in_order st f = by (delivers most head p st k (next-among p.world.packets p.fresh k in_order.0)) (order-ends order)
    where
      l : IsLawful most head (play p (Event.Deliver k))
      l = played-quiet most head p (Event.Deliver k) tt refl st.lawful

      widen : {q : Play} → open_calls (play p (Event.Deliver k)).world.clients ≤ open_calls p.world.clients
          → Ends q (open_calls (play p (Event.Deliver k)).world.clients) → Ends q (open_calls p.world.clients)
      widen less (answered a) = answered (omega arith)
      widen less (stands s g) = stands s g

      by : Delivered most head p st k (next-among p.world.packets p.fresh k in_order.0) → ((q : Play) → IsInOrder order q → State most head q
          → F q.world (queue q) → Ends (play_order order q) (open_calls q.world.clients))
          → Ends (play_order order (play p (Event.Deliver k))) (open_calls p.world.clients)
      by (fewer less) rec = answered (let later = order-less most head order (play p (Event.Deliver k)) l in omega arith)
      by (goes_on_so next m s) rec = widen (order-less most head (k ∷ []) p st.lawful) (rec (play p (Event.Deliver k)) in_order.1 next
          (moves p.world (play p (Event.Deliver k)).world (queue p) (queue (play p (Event.Deliver k))) m s f))
