-- What a calm delivery still costs: each packet under way has a weight, and each client has one for what it may still send.
use Rattle.std.proofs.Common.{◌≡◌, ℕ, ◌+◌, ◌++◌, Bool, true, false, List, [], ◌∷◌, Some, arith}
use Rattle.nq_base.specs.declared.Reply.{Reply}
use Rattle.nq_base.specs.declared.Request.{Request}
use Rattle.nq_model.specs.protocol.Client.{ClientStep}
use Rattle.nq_model.specs.protocol.Message.{Message, call, reply, error}
use Rattle.nq_model.specs.protocol.Table.{is_writing}
use Rattle.law_rounds.specs.Efforts.{is_idle, effort}

-- the sum of what each element of a list costs
abbrev pub total : {A : Type 0} → (A → ℕ) → List A → ℕ
total cost [] = 0
total cost (x ∷ xs) = cost x + total cost xs

pub total-append : {A : Type 0} (cost : A → ℕ) (xs ys : List A) → total cost (xs ++ ys) ≡ total cost xs + total cost ys
total-append cost [] ys = omega arith
total-append cost (x ∷ xs) ys = let rest = total-append cost xs ys in omega arith

pub total-more : {A : Type 0} (cost : A → ℕ) (xs : List A) (x : A) → total cost (xs ++ x ∷ []) ≡ total cost xs + cost x
total-more cost xs x = let both = total-append cost xs (x ∷ []) in omega arith

-- ---- weights of packets

abbrev pub lease_weight : (price : ℕ) (idle : Bool) → ℕ
lease_weight price true = price + 2
lease_weight price false = 2

abbrev pub reply_weight : (price : ℕ) → Reply → ℕ
reply_weight price (Reply.GetLease inc grant) = lease_weight price (is_idle grant)
reply_weight price other = 2

abbrev pub want_weight : (price : ℕ) (writing : Bool) → ℕ
want_weight price true = price
want_weight price false = price + price

abbrev pub request_weight : (price note : ℕ) → Request → ℕ
request_weight price note (Request.Vacated who file tag) = 1
request_weight price note (Request.Evicted who file tag) = note
request_weight price note (Request.Write who seq file block first last (Some base) body) = 3
request_weight price note (Request.GetLease who file want) = want_weight price (is_writing want.mode)
request_weight price note other = price

-- the price of a request, and that of a notice
abbrev pub weight : (price note : ℕ) → Message → ℕ
weight price note (call xid r) = request_weight price note r
weight price note (reply xid r) = reply_weight price r
weight price note (error xid e) = 1

-- in the middle of a step: with what was sent
abbrev pub sent_weight : (price note : ℕ) → ClientStep → ℕ
sent_weight price note t = total (weight price note) t.sends

abbrev pub cost : (price note : ℕ) → ClientStep → ℕ
cost price note t = effort price t.client + sent_weight price note t
