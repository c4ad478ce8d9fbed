-- All of the bytes: what is spelled so is read.
use Rattle.std.proofs.Common.{◌≡◌, ℕ, ◌≤◌, ◌==◌, suc, false, cond, List, [], ◌∷◌, ◌++◌, length, Result, Ok, Err, Some, None, refl, sym, ap, subst, ◌∙◌, arith}
use Rattle.std.proofs.lemmas.Bool.Decides.{nat_tests}
use Rattle.std.proofs.lemmas.List.{append-nil}
use Rattle.nq_base.specs.declared.Reply.{Reply}
use Rattle.nq_base.specs.declared.Request.{Request}
use Rattle.nq_wire.specs.declared.fault.Garbage.{Garbage}
use Rattle.nq_wire.specs.declared.fault.WireFault.TheVariants as fault
use Rattle.nq_wire.specs.Garbage.{garbage}
use Rattle.nq_wire.specs.declared.procedure.Procedure.{Procedure}
use Rattle.nq_wire.specs.declared.procedure.Procedure.TheVariants.{Null, Attach, Lookup, Create, GetAttr, Read, Write, GetLease, Vacated, Evicted}
use Rattle.nq_wire.specs.declared.procedure.Procedure.TheVariants.{Resize, Remove}
use Rattle.nq_wire.specs.Procedure.{number_of, numbered}
use Rattle.nq_wire.specs.Request.{arguments, procedure_of, IsArguments}
use Rattle.nq_wire.specs.Reply.{results, Answers, IsResults}
use Rattle.nq_wire.specs.Reading.{whole, wired, request_at, request_by, request_in, reply_at, reply_by, reply_in}
use Rattle.nq_wire.proofs.RequestsAgain.{request_again}
use Rattle.nq_wire.proofs.RepliesAgain.{reply_again}

-- the procedure of a number
abbrev procedure_at : ℕ → Procedure
procedure_at n =
    cond (n == 0) Null (cond (n == 1) Attach (cond (n == 2) Lookup (cond (n == 3) Create (cond (n == 4) GetAttr (cond (n == 5) Read
    (cond (n == 6) Write (cond (n == 7) GetLease (cond (n == 8) Vacated (cond (n == 9) Evicted (cond (n == 10) Resize Remove))))))))))

procedure_again : (p : Procedure) → procedure_at (number_of p) ≡ p
procedure_again Null = refl
procedure_again Attach = refl
procedure_again Lookup = refl
procedure_again Create = refl
procedure_again GetAttr = refl
procedure_again Read = refl
procedure_again Write = refl
procedure_again GetLease = refl
procedure_again Vacated = refl
procedure_again Evicted = refl
procedure_again Resize = refl
procedure_again Remove = refl

-- no two procedures have one number
pub number_of-apart : (p q : Procedure) → number_of p ≡ number_of q → p ≡ q
number_of-apart p q e = sym (procedure_again p) ∙ ap procedure_at e ∙ procedure_again q

pub number_of-most : (p : Procedure) → number_of p ≤ 11
number_of-most Null = omega arith
number_of-most Attach = omega arith
number_of-most Lookup = omega arith
number_of-most Create = omega arith
number_of-most GetAttr = omega arith
number_of-most Read = omega arith
number_of-most Write = omega arith
number_of-most GetLease = omega arith
number_of-most Vacated = omega arith
number_of-most Evicted = omega arith
number_of-most Resize = omega arith
number_of-most Remove = omega arith

-- what was read with nothing behind it
whole_of : {A : Type 0} (spelling bytes : List ℕ) (read : List ℕ → Result (A × List ℕ) Garbage) (x : A) → bytes ≡ spelling → read (spelling ++ [])
    ≡ Ok (x, []) → whole (read bytes) ≡ Ok x
whole_of spelling bytes read x e again =
    let all : read bytes ≡ Ok (x, []) = ap read (e ∙ sym (append-nil spelling)) ∙ again in
    rw all refl

pub request_whole : (p : Procedure) (r : Request) (bytes : List ℕ) → IsArguments (number_of p) r bytes → whole (request_at p bytes) ≡ Ok r
request_whole p r bytes is =
    let same : p ≡ procedure_of r = number_of-apart p (procedure_of r) (sym is.procedure_is) in
    ap (λ (q : Procedure). whole (request_at q bytes)) same
    ∙ whole_of (arguments r) bytes (request_at (procedure_of r)) r is.bytes_are (request_again r [] is.value_fits is.has_spelling)

pub reply_whole : (p : Procedure) (r : Reply) (bytes : List ℕ) → IsResults (number_of p) r bytes → whole (reply_at p bytes) ≡ Ok r
reply_whole p r bytes is =
    let same : is.procedure ≡ p = number_of-apart is.procedure p is.procedure_is in
    let P : Procedure → Type 0 = Answers r in
    whole_of (results r) bytes (reply_at p) r is.bytes_are (reply_again p r [] (subst P same is.answers) is.value_fits)

-- a reading that fails, that ends before the bytes do, and that ends with them
pub failed : {A : Type 0} (read : Result (A × List ℕ) Garbage) (fault : Garbage) → read ≡ Err fault → whole read ≡ Err fault
failed read fault e = rw e refl

pub left_over : {A : Type 0} (read : Result (A × List ℕ) Garbage) (x : A) (rest : List ℕ) → read ≡ Ok (x, rest) → (rest ≡ [] → ⊥) → whole read ≡ Err garbage
left_over read x [] e left = absurd (left refl)
left_over read x (b ∷ rest) e left = let more : (suc (length rest) == 0) ≡ false = grind (arith, nat_tests) in rw (e, more) refl

pub ended : {A : Type 0} (read : Result (A × List ℕ) Garbage) (x : A) (rest : List ℕ) → read ≡ Ok (x, rest) → rest ≡ [] → whole read ≡ Ok x
ended read x rest e none = rw (e, none) refl

-- ---- what a reading by a procedure's number says

pub number_fits : (p : Procedure) (n : ℕ) → number_of p ≡ n → n ≤ 11
number_fits p n e = omega (arith, number_of-most p)

pub no_request : (p : Procedure) (n : ℕ) (r : Request) (bytes start : List ℕ) (fault : Garbage)
    → number_of p ≡ n → start ≡ bytes → whole (request_at p start) ≡ Err fault → IsArguments n r bytes → ⊥
no_request p n r bytes start fault number same was is =
    let P : ℕ → Type 0 = λ n. IsArguments n r bytes in
    let read : whole (request_at p start) ≡ Ok r = rw same (request_whole p r bytes (subst P (sym number) is)) in cc

pub one_request : (p : Procedure) (n : ℕ) (r s : Request) (bytes start : List ℕ)
    → number_of p ≡ n → start ≡ bytes → whole (request_at p start) ≡ Ok s → IsArguments n r bytes → s ≡ r
one_request p n r s bytes start number same was is =
    let P : ℕ → Type 0 = λ n. IsArguments n r bytes in
    let read : whole (request_at p start) ≡ Ok r = rw same (request_whole p r bytes (subst P (sym number) is)) in cc

pub no_reply : (p : Procedure) (n : ℕ) (r : Reply) (bytes start : List ℕ) (fault : Garbage)
    → number_of p ≡ n → start ≡ bytes → whole (reply_at p start) ≡ Err fault → IsResults n r bytes → ⊥
no_reply p n r bytes start fault number same was is =
    let P : ℕ → Type 0 = λ n. IsResults n r bytes in
    let read : whole (reply_at p start) ≡ Ok r = rw same (reply_whole p r bytes (subst P (sym number) is)) in cc

pub one_reply : (p : Procedure) (n : ℕ) (r s : Reply) (bytes start : List ℕ)
    → number_of p ≡ n → start ≡ bytes → whole (reply_at p start) ≡ Ok s → IsResults n r bytes → s ≡ r
one_reply p n r s bytes start number same was is =
    let P : ℕ → Type 0 = λ n. IsResults n r bytes in
    let read : whole (reply_at p start) ≡ Ok r = rw same (reply_whole p r bytes (subst P (sym number) is)) in cc

-- ---- what is read by a procedure's number

pub request_is : (p : Procedure) (number : ℕ) (bytes start : List ℕ) (read : Result Request Garbage)
    → numbered number ≡ Some p → start ≡ bytes → whole (request_at p start) ≡ read → request_in number bytes ≡ wired read
unfolding request_in
request_is p number bytes start read named same was =
    ap (λ o. request_by o bytes) named ∙ ap (λ bs. wired (whole (request_at p bs))) (sym same) ∙ ap wired was

pub request_none : (number : ℕ) (bytes : List ℕ) → numbered number ≡ None → request_in number bytes ≡ Err fault.NoSuchProc
unfolding request_in
request_none number bytes named = ap (λ o. request_by o bytes) named

pub reply_is : (p : Procedure) (number : ℕ) (bytes start : List ℕ) (read : Result Reply Garbage)
    → numbered number ≡ Some p → start ≡ bytes → whole (reply_at p start) ≡ read → reply_in number bytes ≡ wired read
unfolding reply_in
reply_is p number bytes start read named same was =
    ap (λ o. reply_by o bytes) named ∙ ap (λ bs. wired (whole (reply_at p bs))) (sym same) ∙ ap wired was

pub reply_none : (number : ℕ) (bytes : List ℕ) → numbered number ≡ None → reply_in number bytes ≡ Err fault.NoSuchProc
unfolding reply_in
reply_none number bytes named = ap (λ o. reply_by o bytes) named

-- a procedure has its number
pub numbered-number_of : (p : Procedure) → numbered (number_of p) ≡ Some p
unfolding numbered
numbered-number_of Null = refl
numbered-number_of Attach = refl
numbered-number_of Lookup = refl
numbered-number_of Create = refl
numbered-number_of GetAttr = refl
numbered-number_of Read = refl
numbered-number_of Write = refl
numbered-number_of GetLease = refl
numbered-number_of Vacated = refl
numbered-number_of Evicted = refl
numbered-number_of Resize = refl
numbered-number_of Remove = refl
