-- Bytes that are too few for a row of items are none of its grammar.
use Rattle.std.proofs.Common.{◌≡◌, ℕ, ◌+◌, ◌<◌, ◌≤◌, List, ◌++◌, length, take, drop, Result, Ok, Err, refl, ap, subst, ◌∙◌, length-append, arith, inl, inr}
use Rattle.std.specs.Prelude.{IfErr, IsOk}
use Rattle.std.specs.Int.{w32, w64, from_be_bytes}
use Rattle.std.proofs.lemmas.Bool.{cases_lt}
use Rattle.std.proofs.lemmas.List.{length-drop}
use Rattle.nq_base.specs.declared.Tag.{Tag}
use Rattle.nq_base.specs.declared.Who.{Who}
use Rattle.nq_xdr.specs.declared.XdrFault.{XdrFault}
use Rattle.nq_xdr.specs.declared.XdrFault.TheVariants as xdr
use Rattle.nq_xdr.specs.Fault.{IsShort}
use Rattle.nq_xdr.specs.Item.{word, hyper}
use Rattle.nq_xdr.specs.Reading.{◌>>=◌, word_at, hyper_at}
use Rattle.nq_xdr.proofs.Numbers.{bytes_at-long, length-hyper, length-word, word_at-short, hyper_at-short}
use Rattle.nq_wire.specs.declared.fault.Garbage.{Garbage}
use Rattle.nq_wire.specs.declared.procedure.Procedure.{Procedure}
use Rattle.nq_wire.specs.declared.procedure.Procedure.TheVariants.{Null, Attach, Lookup, Create, GetAttr, Read, Write, GetLease, Vacated, Evicted}
use Rattle.nq_wire.specs.declared.procedure.Procedure.TheVariants.{Resize, Remove}
use Rattle.nq_wire.specs.Garbage.{garbage}
use Rattle.nq_wire.specs.Least.{least_arguments, least_results}
use Rattle.nq_wire.specs.Reading.{item, head_at, tag_at, wanted_mode, want_at, granted_mode, grant_at, base_at, create_at, get_attr_at, read_at}
use Rattle.nq_wire.specs.Reading.{span_at, write_at, get_lease_at, vacated_at, evicted_at, resize_at, remove_at, arguments_at, found_at, created_at}
use Rattle.nq_wire.specs.Reading.{attributes_at, block_at, written_at, resized_at, results_at, answer_at}

-- ---- items that are there

-- an item of this length is there where the bytes are no fewer
pub there : {A : Type 0} (len : ℕ) (bytes : List ℕ) (read : Result A XdrFault) → len ≤ length bytes → IfErr read (IsShort len bytes) → IsOk read
there len bytes (Ok x) le short = refl
there len bytes (Err xdr.Short) le short = absurd (omega arith)
there len bytes (Err xdr.Bool) le short = absurd short
there len bytes (Err xdr.TooLong) le short = absurd short
there len bytes (Err xdr.Pad) le short = absurd short
there len bytes (Err xdr.Trailing) le short = absurd short

-- what is left behind it
pub word_left : (bytes rest : List ℕ) (n : ℕ) → bytes ≡ word n ++ rest → length bytes ≡ 4 + length rest
word_left bytes rest n e = ap length e ∙ omega (arith, length-append (word n) rest, length-word n)

pub hyper_left : (bytes rest : List ℕ) (n : ℕ) → bytes ≡ hyper n ++ rest → length bytes ≡ 8 + length rest
hyper_left bytes rest n e = ap length e ∙ omega (arith, length-append (hyper n) rest, length-hyper n)

-- what is seen of the bytes that are left
pub too_few : (least : ℕ) (rest bytes : List ℕ) → rest ≡ bytes → length rest < least → length bytes < least
too_few least rest bytes same few = subst (λ (bs : List ℕ). length bs < least) same few

-- ---- steps

-- a word, and fewer bytes behind it than what follows wants
word_first : {X : Type 0} (more : ℕ) (bytes : List ℕ) (f : ℕ × List ℕ → Result X Garbage) → length bytes < 4 + more
    → ((n : ℕ) (rest : List ℕ) → length rest < more → f (n, rest) ≡ Err garbage) → (item (word_at bytes) >>= f) ≡ Err garbage
unfolding word_at
word_first more bytes f few ends =
    elim (cases_lt (length bytes) 4) [
      | inl lt ↦ rw (word_at-short bytes lt) refl
      | inr le ↦ rw (bytes_at-long 4 bytes le) (ends (from_be_bytes w32 (take 4 bytes)) (drop 4 bytes) (omega (arith, length-drop 4 bytes)))
    ]

hyper_first : {X : Type 0} (more : ℕ) (bytes : List ℕ) (f : ℕ × List ℕ → Result X Garbage) → length bytes < 8 + more
    → ((n : ℕ) (rest : List ℕ) → length rest < more → f (n, rest) ≡ Err garbage) → (item (hyper_at bytes) >>= f) ≡ Err garbage
unfolding hyper_at
hyper_first more bytes f few ends =
    elim (cases_lt (length bytes) 8) [
      | inl lt ↦ rw (hyper_at-short bytes lt) refl
      | inr le ↦ rw (bytes_at-long 8 bytes le) (ends (from_be_bytes w64 (take 8 bytes)) (drop 8 bytes) (omega (arith, length-drop 8 bytes)))
    ]

word_last : {X : Type 0} (bytes : List ℕ) (f : ℕ × List ℕ → Result X Garbage) → length bytes < 4 → (item (word_at bytes) >>= f) ≡ Err garbage
word_last bytes f few = rw (word_at-short bytes few) refl

hyper_last : {X : Type 0} (bytes : List ℕ) (f : ℕ × List ℕ → Result X Garbage) → length bytes < 8 → (item (hyper_at bytes) >>= f) ≡ Err garbage
hyper_last bytes f few = rw (hyper_at-short bytes few) refl

-- a step that reads no bytes
between : {A X : Type 0} (read : Result A Garbage) (f : A → Result X Garbage) → ((x : A) → f x ≡ Err garbage) → (read >>= f) ≡ Err garbage
between (Ok x) f ends = ends x
between (Err e) f ends = refl

-- steps of steps
assoc : {A B X : Type 0} (read : Result A Garbage) (g : A → Result B Garbage) (f : B → Result X Garbage) → ((read >>= g) >>= f) ≡ (read >>= λ x. g x >>= f)
assoc (Ok x) g f = refl
assoc (Err e) g f = refl

-- ---- parts

pub head_short : (bytes : List ℕ) → length bytes < 8 → head_at bytes ≡ Err garbage
unfolding head_at
head_short bytes few = word_first 4 bytes _ few (λ host a a-few. word_last a _ a-few)

pub tag_short : (bytes : List ℕ) → length bytes < 12 → tag_at bytes ≡ Err garbage
unfolding tag_at
tag_short bytes few = word_first 8 bytes _ few (λ boot a a-few. hyper_last a _ a-few)

tag_last : {X : Type 0} (bytes : List ℕ) (f : Tag × List ℕ → Result X Garbage) → length bytes < 12 → (tag_at bytes >>= f) ≡ Err garbage
tag_last bytes f few = rw (tag_short bytes few) refl

tag_first : {X : Type 0} (more : ℕ) (bytes : List ℕ) (f : Tag × List ℕ → Result X Garbage) → length bytes < 12 + more
    → ((t : Tag) (rest : List ℕ) → length rest < more → f (t, rest) ≡ Err garbage) → (tag_at bytes >>= f) ≡ Err garbage
unfolding tag_at
tag_first more bytes f few ends =
    assoc (item (word_at bytes)) _ f
    ∙ word_first (8 + more) bytes _ (omega arith) (λ boot a a-few.
    assoc (item (hyper_at a)) _ f
    ∙ hyper_first more a _ a-few (λ number rest rest-few. ends (record { boot = boot; number = number }) rest rest-few))

pub want_short : (bytes : List ℕ) → length bytes < 8 → want_at bytes ≡ Err garbage
unfolding want_at
want_short bytes few = word_first 4 bytes _ few (λ number a a-few. between (wanted_mode number) _ (λ mode. word_last a _ a-few))

pub grant_short : (bytes : List ℕ) → length bytes < 44 → grant_at bytes ≡ Err garbage
unfolding grant_at
grant_short bytes few =
    word_first 40 bytes _ few (λ number a a-few.
    between (granted_mode number) _ (λ mode.
    word_first 36 a _ a-few (λ term b b-few.
    tag_first 24 b _ b-few (λ tag c c-few.
    tag_first 12 c _ c-few (λ since d d-few.
    hyper_first 4 d _ d-few (λ rev e e-few. word_last e _ e-few))))))

pub base_short : (bytes : List ℕ) → length bytes < 12 → base_at bytes ≡ Err garbage
unfolding base_at
base_short bytes few = word_first 8 bytes _ few (λ boot a a-few. hyper_last a _ a-few)

pub span_short : (bytes : List ℕ) → length bytes < 16 → span_at bytes ≡ Err garbage
unfolding span_at
span_short bytes few = hyper_first 8 bytes _ few (λ first a a-few. hyper_last a _ a-few)

-- ---- arguments and results

pub arguments_short : (p : Procedure) (who : Who) (bytes : List ℕ) → length bytes < least_arguments p → arguments_at p who bytes ≡ Err garbage
unfolding create_at get_attr_at read_at write_at get_lease_at vacated_at evicted_at resize_at remove_at
arguments_short Null who bytes few = refl
arguments_short Attach who bytes few = absurd (omega arith)
arguments_short Lookup who bytes few = absurd (omega arith)
arguments_short Create who bytes few = hyper_last bytes _ few
arguments_short GetAttr who bytes few = word_last bytes _ few
arguments_short Read who bytes few = hyper_first 8 bytes _ few (λ call a a-few. word_first 4 a _ a-few (λ file b b-few. word_last b _ b-few))
arguments_short Write who bytes few = hyper_first 8 bytes _ few (λ seq a a-few. word_first 4 a _ a-few (λ file b b-few. word_last b _ b-few))
arguments_short GetLease who bytes few = word_last bytes _ few
arguments_short Vacated who bytes few = word_first 12 bytes _ few (λ file a a-few. tag_last a _ a-few)
arguments_short Evicted who bytes few = word_first 12 bytes _ few (λ file a a-few. tag_last a _ a-few)
arguments_short Resize who bytes few =
    hyper_first 16 bytes _ few (λ seq a a-few. hyper_first 8 a _ a-few (λ call b b-few. word_first 4 b _ b-few (λ file c c-few. word_last c _ c-few)))
arguments_short Remove who bytes few =
    hyper_first 12 bytes _ few (λ seq a a-few. hyper_first 4 a _ a-few (λ call b b-few. word_last b _ b-few))

pub results_short : (p : Procedure) (inc : ℕ) (bytes : List ℕ) → length bytes < least_results p → results_at p inc bytes ≡ Err garbage
unfolding found_at created_at attributes_at block_at written_at resized_at
results_short Null inc bytes few = refl
results_short Attach inc bytes few = absurd (omega arith)
results_short Lookup inc bytes few = word_first 4 bytes _ few (λ file a a-few. word_last a _ a-few)
results_short Create inc bytes few = word_last bytes _ few
results_short GetAttr inc bytes few = word_first 8 bytes _ few (λ blocks a a-few. hyper_last a _ a-few)
results_short Read inc bytes few = hyper_last bytes _ few
results_short Write inc bytes few = hyper_last bytes _ few
results_short GetLease inc bytes few = absurd (omega arith)
results_short Vacated inc bytes few = refl
results_short Evicted inc bytes few = refl
results_short Resize inc bytes few = hyper_last bytes _ few
results_short Remove inc bytes few = absurd (omega arith)

pub answer_short : (p : Procedure) (bytes : List ℕ) → length bytes < 8 → answer_at p bytes ≡ Err garbage
unfolding answer_at
answer_short p bytes few = word_first 4 bytes _ few (λ inc a a-few. word_last a _ a-few)
