-- What is known after a step was settled, before its request is sent.
use Rattle.std.proofs.Common.{◌≡◌, ◌≤◌, ◌<◌, ◌+◌, ◌^◌, None, refl, sym, ap, ◌∙◌, arith}
use Rattle.nq_client.proofs.Settled.{settled, Settled}
use Rattle.nq_client.proofs.Ties.{tied-none}
use Rattle.nq_client.specs.Step.{HasNumbers, step_of}
use Rattle.nq_client.specs.Tied.{Tied}
use Rattle.nq_client.specs.declared.step.Step.{Step}
use Rattle.nq_model.specs.protocol.Client.{ClientStep}
use Rattle.nq_model.specs.protocol.Settle.{settle}

none-from : (a : Step) (t s : ClientStep) → step_of a ≡ s → Settled t s → Tied t.client.ticket t.client.push → a.state.asked ≡ None → a.state.dirty.push ≡ None
none-from a t s e x tied idle =
    let asked : a.state.asked ≡ t.client.ticket = ap (λ (r : ClientStep). r.client.ticket) e ∙ x.ticket in
    let push : a.state.dirty.push ≡ t.client.push = ap (λ (r : ClientStep). r.client.push) e ∙ x.push in
    push ∙ tied-none t.client.ticket t.client.push (sym asked ∙ idle) tied

-- no delayed writes are under way where no request is
pub none : (a b : Step) → step_of a ≡ settle (step_of b) → Tied b.state.asked b.state.dirty.push → a.state.asked ≡ None → a.state.dirty.push ≡ None
none a b e tied idle = none-from a (step_of b) (settle (step_of b)) e (settled (step_of b)) tied idle

numbers-from : (a b : Step) (t s : ClientStep) → step_of a ≡ s → step_of b ≡ t → Settled t s → HasNumbers 2 b.state → HasNumbers 1 a.state
numbers-from a b t s e f x h =
    let now : a.state.time ≡ b.state.time = ap (λ (r : ClientStep). r.client.now) e ∙ x.now ∙ sym (ap (λ (r : ClientStep). r.client.now) f) in
    let seq : a.state.seq ≡ b.state.seq = ap (λ (r : ClientStep). r.client.seq) e ∙ x.seq ∙ sym (ap (λ (r : ClientStep). r.client.seq) f) in
    let xid : a.state.xid ≡ b.state.xid = ap (λ (r : ClientStep). r.client.xid) e ∙ x.xid ∙ sym (ap (λ (r : ClientStep). r.client.xid) f) in
    let n : a.state.number ≡ s.client.number = ap (λ (r : ClientStep). r.client.number) e in
    let m : b.state.number ≡ t.client.number = ap (λ (r : ClientStep). r.client.number) f in
    let le : s.client.number ≤ t.client.number + 1 = x.number in
    let t62 : b.state.time < 2 ^ 62 = h.time in
    let hs : b.state.seq + 2 < 2 ^ 64 = h.seq in
    let hn : b.state.number + 2 < 2 ^ 64 = h.number in
    let hx : b.state.xid + 2 < 2 ^ 32 = h.xid in
    record {
      time = omega arith;
      seq = omega arith;
      number = omega arith;
      xid = omega arith;
    }

-- the numbers of one request are left
pub numbers : (a b : Step) → step_of a ≡ settle (step_of b) → HasNumbers 2 b.state → HasNumbers 1 a.state
numbers a b e h = numbers-from a b (step_of b) (settle (step_of b)) e refl (settled (step_of b)) h
