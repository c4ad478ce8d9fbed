-- Results that are read by another procedure have the incarnation that they were written with.
use Rattle.std.proofs.Common.{◌≡◌, ℕ, ◌==◌, Bool, true, false, List, [], ◌∷◌, ◌++◌, length, Result, Ok, Err, refl, sym, ap, ◌∙◌, arith, append_assoc}
use Rattle.std.specs.Prelude.{◌⊎◌, if◌then◌else◌}
use mathlib.Core.Logic.{inl, inr}
use Rattle.std.proofs.lemmas.Bool.{ne_eqb}
use Rattle.nq_base.specs.declared.Reply.{Reply}
use Rattle.nq_base.specs.declared.Reply.TheVariants as reply
use Rattle.nq_model.specs.protocol.Hear.{inc_of}
use Rattle.nq_xdr.specs.Item.{word, hyper, opaque}
use Rattle.nq_xdr.specs.Reading.{◌>>=◌, word_at, hyper_at}
use Rattle.nq_xdr.proofs.Numbers.{word_again, word_at-short}
use Rattle.nq_wire.specs.declared.Procedure.{Procedure}
use Rattle.nq_wire.specs.declared.Procedure.TheVariants.{Null, Attach, Lookup, Create, GetAttr, Read, Write, GetLease, Vacated, Evicted, Resize, Remove}
use Rattle.nq_wire.specs.Garbage.{garbage}
use Rattle.nq_wire.specs.Parts.{grant_bytes, optional}
use Rattle.nq_wire.specs.Procedure.{number_of}
use Rattle.nq_wire.specs.Reply.{ok, results, IsReply}
use Rattle.nq_wire.specs.Status.{status_number}
use Rattle.nq_wire.specs.Reading.{item, body_at, optional_at, grant_at, found_at, created_at, attributes_at, block_at, written_at, lease_at}
use Rattle.nq_wire.specs.Reading.{resized_at, results_at, refusal_of, answer_at, reply_at, whole, wired, reply_in}
use Rattle.nq_wire.proofs.Whole.{numbered-number_of, reply_is}

-- a step that went on
then-ok : {A B F : Type 0} (r : Result A F) (f : A → Result B F) (x : B) → (r >>= f) ≡ Ok x → (a : A) × (r ≡ Ok a) × (f a ≡ Ok x)
then-ok (Ok a) f x h = (a, refl, h)
then-ok (Err e) f x h = absurd (cc)

-- what was read
read-inc : {F : Type 0} (r : Reply) (rest : List ℕ) (x : Reply × List ℕ) → ◌≡◌ {A = Result (Reply × List ℕ) F} (Ok (r, rest)) (Ok x) → inc_of x.0 ≡ inc_of r
read-inc r rest x h = let same : Path (Reply × List ℕ) x (r, rest) = cc in ap (λ (y : Reply × List ℕ). inc_of y.0) same

results-inc : (p : Procedure) (inc : ℕ) (bytes : List ℕ) (x : Reply × List ℕ) → results_at p inc bytes ≡ Ok x → inc_of x.0 ≡ inc
unfolding found_at created_at attributes_at block_at written_at lease_at resized_at
results-inc Null inc bytes x h = absurd (cc)
results-inc Attach inc bytes x h = read-inc (reply.Attach inc) bytes x h
results-inc Lookup inc bytes x h =
    let a = then-ok (item (word_at bytes)) (λ f. item (word_at f.1) >>= λ b. Ok (reply.Lookup inc f.0 b.0, b.1)) x h in
    let b = then-ok (item (word_at a.0.1)) (λ b. Ok (reply.Lookup inc a.0.0 b.0, b.1)) x a.2 in
    read-inc (reply.Lookup inc a.0.0 b.0.0) b.0.1 x b.2
results-inc Create inc bytes x h =
    let a = then-ok (item (word_at bytes)) (λ f. Ok (reply.Create inc f.0, f.1)) x h in read-inc (reply.Create inc a.0.0) a.0.1 x a.2
results-inc GetAttr inc bytes x h =
    let a = then-ok (item (word_at bytes)) (λ f. item (hyper_at f.1) >>= λ b. Ok (reply.GetAttr inc f.0 b.0, b.1)) x h in
    let b = then-ok (item (hyper_at a.0.1)) (λ b. Ok (reply.GetAttr inc a.0.0 b.0, b.1)) x a.2 in
    read-inc (reply.GetAttr inc a.0.0 b.0.0) b.0.1 x b.2
results-inc Read inc bytes x h =
    let a =
    then-ok
    (item (hyper_at bytes))
    (λ f. body_at f.1 >>= λ b. optional_at grant_at b.1 >>= λ c. Ok (reply.Read inc f.0 b.0 c.0, c.1))
    x
    h
    in
    let b = then-ok (body_at a.0.1) (λ b. optional_at grant_at b.1 >>= λ c. Ok (reply.Read inc a.0.0 b.0 c.0, c.1)) x a.2 in
    let c = then-ok (optional_at grant_at b.0.1) (λ c. Ok (reply.Read inc a.0.0 b.0.0 c.0, c.1)) x b.2 in
    read-inc (reply.Read inc a.0.0 b.0.0 c.0.0) c.0.1 x c.2
results-inc Write inc bytes x h =
    let a = then-ok (item (hyper_at bytes)) (λ f. Ok (reply.Write inc f.0, f.1)) x h in read-inc (reply.Write inc a.0.0) a.0.1 x a.2
results-inc GetLease inc bytes x h =
    let a = then-ok (optional_at grant_at bytes) (λ f. Ok (reply.GetLease inc f.0, f.1)) x h in read-inc (reply.GetLease inc a.0.0) a.0.1 x a.2
results-inc Vacated inc bytes x h = absurd (cc)
results-inc Evicted inc bytes x h = absurd (cc)
results-inc Resize inc bytes x h =
    let a = then-ok (item (hyper_at bytes)) (λ f. Ok (reply.Resize inc f.0, f.1)) x h in read-inc (reply.Resize inc a.0.0) a.0.1 x a.2
results-inc Remove inc bytes x h = read-inc (reply.Remove inc) bytes x h

refused-inc : (n inc : ℕ) (rest : List ℕ) (x : Reply × List ℕ) → (refusal_of n >>= λ status. Ok (reply.Refused inc status, rest)) ≡ Ok x → inc_of x.0 ≡ inc
refused-inc n inc rest x h = let a = then-ok (refusal_of n) (λ status. Ok (reply.Refused inc status, rest)) x h in read-inc (reply.Refused inc a.0) rest x a.2

status-inc : (test : Bool) (p : Procedure) (n inc : ℕ) (rest : List ℕ) (x : Reply × List ℕ) → (if test then results_at p inc rest
    else (refusal_of n >>= λ status. Ok (reply.Refused inc status, rest))) ≡ Ok x → inc_of x.0 ≡ inc
status-inc true p n inc rest x h = results-inc p inc rest x h
status-inc false p n inc rest x h = refused-inc n inc rest x h

answer-inc : (p : Procedure) (inc : ℕ) (bytes rest : List ℕ) (x : Reply × List ℕ) → word_at bytes ≡ Ok (inc, rest) → answer_at p bytes ≡ Ok x
    → inc_of x.0 ≡ inc
unfolding answer_at
answer-inc p inc bytes rest x word h =
    let a =
    then-ok
    (item (word_at rest))
    (λ s. if s.0 == 0 then results_at p inc s.1 else (refusal_of s.0 >>= λ status. Ok (reply.Refused inc status, s.1)))
    x
    (rw word at h)
    in
    status-inc (a.0.0 == 0) p a.0.0 inc a.0.1 x a.2

-- all of the bytes were read
ended-whole : (p : Procedure) (bytes : List ℕ) (a : Reply) → wired (whole (reply_at p bytes)) ≡ Ok a → (x : Reply × List ℕ)
    × (reply_at p bytes ≡ Ok x) × (x.0 ≡ a) × (x.1 ≡ [])
ended-whole p bytes a h =
    elim (reply_at p bytes) as (λ r. reply_at p bytes ≡ r → wired (whole r) ≡ Ok a → (x : Reply × List ℕ) × (reply_at p bytes ≡ Ok x) × (x.0 ≡ a)
    × (x.1 ≡ [])) [
      | Ok x ↦ λ is read. at x is x.1 refl read
      | Err e ↦ λ is read. absurd (cc)
    ]
    refl
    h
  where
    at : (x : Reply × List ℕ) → reply_at p bytes ≡ Ok x → (rest : List ℕ) → x.1 ≡ rest → wired (if length rest == 0 then Ok x.0 else Err garbage)
        ≡ Ok a → (y : Reply × List ℕ) × (reply_at p bytes ≡ Ok y) × (y.0 ≡ a) × (y.1 ≡ [])
    at x is [] none read = (x, is, cc, none)
    at x is (b ∷ rest) some read = absurd (let more : (length (b ∷ rest) == 0) ≡ false = ne_eqb (length (b ∷ rest)) 0 (λ e. omega arith) in let bad =
        rw more at read in cc)

-- the incarnation stands in front of all results but NULL's
front : (a : Reply) → IsReply a → ((a ≡ reply.Null) ⊎ ((rest : List ℕ) × (word_at (results a) ≡ Ok (inc_of a, rest))))
unfolding results ok
front reply.Null fits = inl refl
front (reply.Attach inc) fits = inr (_, word_again inc (word 0) fits)
front (reply.Lookup inc file blocks) fits = inr (_, ap word_at (simp append_assoc) ∙ word_again inc (word 0 ++ (word file ++ word blocks)) fits.0)
front (reply.Create inc file) fits = inr (_, ap word_at (simp append_assoc) ∙ word_again inc (word 0 ++ word file) fits.0)
front (reply.GetAttr inc blocks rev) fits = inr (_, ap word_at (simp append_assoc) ∙ word_again inc (word 0 ++ (word blocks ++ hyper rev)) fits.0)
front (reply.Read inc rev body grant) fits = inr (
  _,
  ap word_at (simp append_assoc)
      ∙ word_again inc (word 0 ++ (hyper rev ++ (opaque body ++ optional grant_bytes grant))) fits.0,
)
front (reply.Write inc rev) fits = inr (_, ap word_at (simp append_assoc) ∙ word_again inc (word 0 ++ hyper rev) fits.0)
front (reply.GetLease inc grant) fits = inr (_, ap word_at (simp append_assoc) ∙ word_again inc (word 0 ++ optional grant_bytes grant) fits.0)
front (reply.Resize inc rev) fits = inr (_, ap word_at (simp append_assoc) ∙ word_again inc (word 0 ++ hyper rev) fits.0)
front (reply.Remove inc) fits = inr (_, word_again inc (word 0) fits)
front (reply.Refused inc status) fits = inr (_, word_again inc (word (status_number status)) fits)

-- nothing is read by a procedure that answers with an incarnation
none-answered : (p : Procedure) (x : Reply × List ℕ) → answer_at p [] ≡ Ok x → ⊥
unfolding answer_at
none-answered p x h = let short = word_at-short [] (omega arith) in let bad = rw short at h in cc

of-null : (p : Procedure) (x : Reply × List ℕ) → reply_at p [] ≡ Ok x → inc_of x.0 ≡ 0
of-null Null x h = read-inc reply.Null [] x h
of-null Vacated x h = absurd (cc)
of-null Evicted x h = absurd (cc)
of-null Attach x h = absurd (none-answered Attach x h)
of-null Lookup x h = absurd (none-answered Lookup x h)
of-null Create x h = absurd (none-answered Create x h)
of-null GetAttr x h = absurd (none-answered GetAttr x h)
of-null Read x h = absurd (none-answered Read x h)
of-null Write x h = absurd (none-answered Write x h)
of-null GetLease x h = absurd (none-answered GetLease x h)
of-null Resize x h = absurd (none-answered Resize x h)
of-null Remove x h = absurd (none-answered Remove x h)

-- NULL's results are no bytes
no-null : (bytes rest : List ℕ) (inc : ℕ) (x : Reply × List ℕ) → word_at bytes ≡ Ok (inc, rest) → reply_at Null bytes ≡ Ok x → x.1 ≡ [] → ⊥
no-null bytes rest inc x begins h ends =
    let same : Path (Reply × List ℕ) x (reply.Null, bytes) = cc in
    let all : x.1 ≡ bytes = ap (λ (y : Reply × List ℕ). y.1) same in
    let none : bytes ≡ [] = sym all ∙ ends in
    let size : length bytes ≡ 0 = ap length none in
    let short = word_at-short bytes (omega arith) in
    cc

of-front : (p : Procedure) (bytes rest : List ℕ) (inc : ℕ) (x : Reply × List ℕ) → word_at bytes ≡ Ok (inc, rest) → reply_at p bytes ≡ Ok x → x.1 ≡ []
    → inc_of x.0 ≡ inc
of-front Null bytes rest inc x begins h ends = absurd (no-null bytes rest inc x begins h ends)
of-front Vacated bytes rest inc x begins h ends = absurd (cc)
of-front Evicted bytes rest inc x begins h ends = absurd (cc)
of-front Attach bytes rest inc x begins h ends = answer-inc Attach inc bytes rest x begins h
of-front Lookup bytes rest inc x begins h ends = answer-inc Lookup inc bytes rest x begins h
of-front Create bytes rest inc x begins h ends = answer-inc Create inc bytes rest x begins h
of-front GetAttr bytes rest inc x begins h ends = answer-inc GetAttr inc bytes rest x begins h
of-front Read bytes rest inc x begins h ends = answer-inc Read inc bytes rest x begins h
of-front Write bytes rest inc x begins h ends = answer-inc Write inc bytes rest x begins h
of-front GetLease bytes rest inc x begins h ends = answer-inc GetLease inc bytes rest x begins h
of-front Resize bytes rest inc x begins h ends = answer-inc Resize inc bytes rest x begins h
of-front Remove bytes rest inc x begins h ends = answer-inc Remove inc bytes rest x begins h

pub inc-again : (p : Procedure) (a b : Reply) → IsReply a → reply_in (number_of p) (results a) ≡ Ok b → inc_of b ≡ inc_of a
unfolding results
inc-again p a b fits h =
    let read = reply_is p (number_of p) (results a) (results a) (whole (reply_at p (results a))) (numbered-number_of p) refl refl in
    let x = ended-whole p (results a) b (sym read ∙ h) in
    let same : inc_of x.0.0 ≡ inc_of b = ap inc_of x.2 in
    elim (front a fits) [
      | inl null ↦
          let bytes : results a ≡ [] = ap results null in
          let zero_inc = of-null p x.0 (ap (reply_at p) (sym bytes) ∙ x.1) in
          let own : inc_of a ≡ 0 = ap inc_of null in
          omega arith
      | inr (rest, begins) ↦ let inc = of-front p (results a) rest (inc_of a) x.0 begins x.1 x.3 in omega arith
    ]
