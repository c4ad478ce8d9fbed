-- Steps of a reading that goes on behind an item: its cases, and what it comes to where the item is there.
-- `name` gives the faults of the items the names that they have in the whole.
use Rattle.std.proofs.Common.{◌≡◌, ℕ, ◌^◌, ◌<◌, List, ◌++◌, length, drop, Result, Ok, Err, refl, ap, subst, ◌∙◌, inl, inr}
use Rattle.std.proofs.lemmas.Bool.{cases_lt}
use Rattle.nq_xdr.specs.declared.fault.XdrFault.{XdrFault}
use Rattle.nq_xdr.specs.declared.fault.XdrFault.TheVariants as fault
use Rattle.nq_xdr.specs.Item.{word}
use Rattle.nq_xdr.specs.Reading.{◌>>=◌, map_err, word_at}
use Rattle.nq_xdr.proofs.Bytes.{IsBytes, IsBytes-behind}
use Rattle.nq_xdr.proofs.Steps.{Says}
use Rattle.nq_xdr.proofs.Numbers.{word_at-short, word_again, word_there}

-- ---- words

-- a fact of what follows a word, from its cases
pub word_step : {X F : Type 0} (name : XdrFault → F) (bytes : List ℕ) (f : ℕ × List ℕ → Result X F) (P : Result X F → Type 0) → IsBytes bytes
    → (length bytes < 4 → P (Err (name fault.Short)))
    → ((n : ℕ) (rest : List ℕ) → n < 2 ^ 32 → bytes ≡ word n ++ rest → IsBytes rest → P (f (n, rest)))
    → P (map_err name (word_at bytes) >>= f)
word_step name bytes f P fits short goes_on =
    elim (cases_lt (length bytes) 4) [
      | inl lt ↦ rw (word_at-short bytes lt) (short lt)
      | inr le ↦
          let w = word_there bytes fits le in
          let behind : IsBytes (drop 4 bytes) = IsBytes-behind (word w.0) (drop 4 bytes) (subst IsBytes w.1.1 fits) in
          let read : word_at bytes ≡ Ok (w.0, drop 4 bytes) = ap word_at w.1.1 ∙ word_again w.0 (drop 4 bytes) w.1.0 in
          rw read (goes_on w.0 (drop 4 bytes) w.1.0 w.1.1 behind)
    ]

-- what follows a word that is there
pub word_goes_on : {X F : Type 0} (name : XdrFault → F) (n : ℕ) (rest : List ℕ) (f : ℕ × List ℕ → Result X F) → n < 2 ^ 32
    → (map_err name (word_at (word n ++ rest)) >>= f) ≡ f (n, rest)
word_goes_on name n rest f fits = rw (word_again n rest fits) refl

pub word_ends : {X F : Type 0} (name : XdrFault → F) (bytes : List ℕ) (f : ℕ × List ℕ → Result X F) → length bytes < 4
    → (map_err name (word_at bytes) >>= f) ≡ Err (name fault.Short)
word_ends name bytes f lt = rw (word_at-short bytes lt) refl

-- ---- hyper integers

-- ---- booleans and opaque data

-- what goes on behind what bytes say
after : {A X F : Type 0} (name : XdrFault → F) (spelling : A → List ℕ) (Fits : A → Type 0) (IsFault : XdrFault → Type 0) (bytes : List ℕ)
    (read : Result (A × List ℕ) XdrFault)
    (f : A × List ℕ → Result X F) (P : Result X F → Type 0) → IsBytes bytes → Says spelling Fits IsFault bytes read
    → ((e : XdrFault) → IsFault e → P (Err (name e)))
    → ((x : A) (rest : List ℕ) → Fits x → bytes ≡ spelling x ++ rest → IsBytes rest → P (f (x, rest)))
    → P (map_err name read >>= f)
after name spelling Fits IsFault bytes (Ok x) f P fits says wrong goes_on =
    goes_on x.0 x.1 says.0 says.1 (IsBytes-behind (spelling x.0) x.1 (subst IsBytes says.1 fits))
after name spelling Fits IsFault bytes (Err e) f P fits says wrong goes_on = wrong e says
