-- Packets are sent in the order of their places, by the server's clock too.
use Rattle.std.proofs.Common.{◌≤◌, ℕ, List, [], ◌∷◌, arith, length, nat_lt}
use Rattle.nq_base.specs.declared.Event.{Event}
use Rattle.walk_steps.proofs.Rows.{choice}
use Rattle.walk_steps.proofs.Tests.{is-below, is-not-below}
use Rattle.walk_steps.proofs.WorldClocks.{run-clocked}
use Rattle.nq_model.specs.laws.OneRequestPerSequence.{sent_time}
use Rattle.nq_model.specs.protocol.World.{Head, run}

-- the server's clock never goes back
clock-goes-on : (head : Head) (e : Event) (earlier : List Event) → (run head earlier).server.now ≤ (run head (e ∷ earlier)).server.now
clock-goes-on head e earlier = let before = (run-clocked head earlier).server in let after = (run-clocked head (e ∷ earlier)).server in omega arith

-- what was sent was sent by now
sent-by-now : (head : Head) (events : List Event) (place : ℕ) → sent_time head events place ≤ (run head events).server.now
sent-by-now head [] place = omega arith
sent-by-now head (e ∷ earlier) place =
    choice (λ time. time ≤ (run head (e ∷ earlier)).server.now) (nat_lt place (length (run head earlier).packets)) (sent_time head earlier place)
    (run head (e ∷ earlier)).server.now
    (λ there. let before = sent-by-now head earlier place in let on = clock-goes-on head e earlier in omega arith)
    (λ new. omega arith)

pub sent-in-order : (head : Head) (events : List Event) (i j : ℕ) → i ≤ j → sent_time head events i ≤ sent_time head events j
sent-in-order head [] i j order = omega arith
sent-in-order head (e ∷ earlier) i j order =
    choice (λ time. sent_time head (e ∷ earlier) i ≤ time) (nat_lt j (length (run head earlier).packets)) (sent_time head earlier j)
    (run head (e ∷ earlier)).server.now
    (λ there.
    choice (λ time. time ≤ sent_time head earlier j) (nat_lt i (length (run head earlier).packets)) (sent_time head earlier i)
    (run head (e ∷ earlier)).server.now
    (λ also. sent-in-order head earlier i j order)
    (λ new. let below = is-below j (length (run head earlier).packets) there in let past = is-not-below i (length (run head earlier).packets) new in
    absurd (omega arith)))
    (λ new. sent-by-now head (e ∷ earlier) i)
