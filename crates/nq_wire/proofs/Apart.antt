-- No spelling begins another of its kind.
use Rattle.std.proofs.Common.{◌≡◌, ℕ, List, ◌++◌, Result, Ok, Err, refl, sym, ap, subst, ◌∙◌}
use Rattle.nq_base.specs.declared.Refusal.{Refusal}
use Rattle.nq_base.specs.declared.Reply.{Reply}
use Rattle.nq_base.specs.declared.Request.{Request}
use Rattle.nq_xdr.proofs.Steps.{apart}
use Rattle.nq_wire.specs.declared.fault.Garbage.{Garbage}
use Rattle.nq_wire.specs.declared.procedure.Procedure.{Procedure}
use Rattle.nq_wire.specs.declared.procedure.Procedure.TheVariants.{Vacated, Evicted}
use Rattle.nq_wire.specs.Garbage.{garbage}
use Rattle.nq_wire.specs.Status.{status_number}
use Rattle.nq_wire.specs.Request.{procedure_of, arguments, IsRequest, HasSpelling, IsArguments}
use Rattle.nq_wire.specs.Reply.{results, IsReply, Answers, IsResults}
use Rattle.nq_wire.specs.Reading.{whole, refusal_of, request_at, reply_at}
use Rattle.nq_wire.proofs.RequestsAgain.{request_again}
use Rattle.nq_wire.proofs.RepliesAgain.{status_again, reply_again}
use Rattle.nq_wire.proofs.Whole.{request_whole, reply_whole}

abbrev status_read : Refusal → Result Refusal Garbage
status_read s = Ok s

one_status : (s t : Refusal) → status_read s ≡ Ok t → s ≡ t
one_status s t e = cc

pub status_number-apart : (s t : Refusal) → status_number s ≡ status_number t → s ≡ t
status_number-apart s t e = one_status s t (sym (status_again s).1 ∙ ap refusal_of e ∙ (status_again t).1)

pub requests_apart : (r s : Request) (x y : List ℕ) → procedure_of r ≡ procedure_of s → IsRequest r → HasSpelling r → IsRequest s → HasSpelling s
    → arguments r ++ x ≡ arguments s ++ y → (r ≡ s) × (x ≡ y)
requests_apart r s x y called r-fits r-has s-fits s-has e =
    apart (request_at (procedure_of r)) (r, x) (s, y) (arguments r ++ x) (arguments s ++ y) e (request_again r x r-fits r-has)
    (ap (λ (p : Procedure). request_at p (arguments s ++ y)) called ∙ request_again s y s-fits s-has)

one_value : {A : Type 0} (r s : A) (read : Result A Garbage) → read ≡ Ok r → read ≡ Ok s → r ≡ s
one_value r s read is is' = cc

pub one_request : (n : ℕ) (r s : Request) (bytes : List ℕ) → IsArguments n r bytes → IsArguments n s bytes → r ≡ s
one_request n r s bytes is is' =
    let p = procedure_of r in
    let P : ℕ → Type 0 = λ n. IsArguments n s bytes in
    let Q : ℕ → Type 0 = λ n. IsArguments n r bytes in
    one_value r s (whole (request_at p bytes)) (request_whole p r bytes (subst Q (sym is.procedure_is) is))
    (request_whole p s bytes (subst P (sym is.procedure_is) is'))

pub replies_apart : (p : Procedure) (r s : Reply) (x y : List ℕ) → Answers r p → IsReply r → Answers s p → IsReply s
    → results r ++ x ≡ results s ++ y → (r ≡ s) × (x ≡ y)
replies_apart p r s x y r-answers r-fits s-answers s-fits e =
    apart (reply_at p) (r, x) (s, y) (results r ++ x) (results s ++ y) e (reply_again p r x r-answers r-fits) (reply_again p s y s-answers s-fits)

pub one_reply : (n : ℕ) (r s : Reply) (bytes : List ℕ) → IsResults n r bytes → IsResults n s bytes → r ≡ s
one_reply n r s bytes is is' =
    let p = is.procedure in
    let P : ℕ → Type 0 = λ n. IsResults n s bytes in
    let Q : ℕ → Type 0 = λ n. IsResults n r bytes in
    one_value r s (whole (reply_at p bytes)) (reply_whole p r bytes (subst Q (sym is.procedure_is) is))
    (reply_whole p s bytes (subst P (sym is.procedure_is) is'))

-- what reading with no reply says
no_reply : (p : Procedure) (r : Reply) (bytes : List ℕ) → reply_at p bytes ≡ Err garbage → whole (reply_at p bytes) ≡ Ok r → ⊥
no_reply p r bytes none is = let e : whole (Err garbage) ≡ Ok r = sym (ap whole none) ∙ is in cc

pub no_reply_to_vacated : (r : Reply) (bytes : List ℕ) → IsResults 8 r bytes → ⊥
no_reply_to_vacated r bytes is = no_reply Vacated r bytes refl (reply_whole Vacated r bytes is)

pub no_reply_to_evicted : (r : Reply) (bytes : List ℕ) → IsResults 9 r bytes → ⊥
no_reply_to_evicted r bytes is = no_reply Evicted r bytes refl (reply_whole Evicted r bytes is)
