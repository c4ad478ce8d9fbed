-- Reading items from the left of some bytes: the value and the bytes behind it, or the first fault.
use Rattle.std.specs.Prelude.{◌≡◌, ℕ, Bool, List, length, take, drop, Result, Ok, Err, nat_lt, ◌==◌, if◌then◌else◌}
use Rattle.std.specs.Int.{w32, w64, from_be_bytes}
use Rattle.std.specs.List.{list_all}
use Rattle.nq_xdr.specs.declared.fault.XdrFault.{XdrFault}
use Rattle.nq_xdr.specs.declared.fault.XdrFault.TheVariants.{Short, Bool as NoBoolean, TooLong, Pad}
use Rattle.nq_xdr.specs.Item.{residual}

infixl 10 ◌>>=◌
-- goes on with the value of a step, or ends at its fault
abbrev pub ◌>>=◌ : {A B F : Type 0} → Result A F → (A → Result B F) → Result B F
(Ok x) >>= f = f x
(Err e) >>= f = Err e

-- a step whose faults have other names
abbrev pub map_err : {A E F : Type 0} → (E → F) → Result A E → Result A F
map_err name (Ok x) = Ok x
map_err name (Err e) = Err (name e)

-- the first n bytes
unfoldable pub bytes_at : ℕ → List ℕ → Result (List ℕ × List ℕ) XdrFault
bytes_at n bytes = if nat_lt (length bytes) n then Err Short else Ok (take n bytes, drop n bytes)

-- the word at the front
unfoldable pub word_at : List ℕ → Result (ℕ × List ℕ) XdrFault
word_at bytes = do
  front ← bytes_at 4 bytes
  Ok (from_be_bytes w32 front.0, front.1)

-- the hyper integer at the front
unfoldable pub hyper_at : List ℕ → Result (ℕ × List ℕ) XdrFault
hyper_at bytes = do
  front ← bytes_at 8 bytes
  Ok (from_be_bytes w64 front.0, front.1)

-- the boolean of a number
abbrev pub boolean_of : ℕ → List ℕ → Result (Bool × List ℕ) XdrFault
boolean_of n rest = if nat_lt 1 n then Err NoBoolean else Ok (n == 1, rest)

-- the boolean at the front
unfoldable pub boolean_at : List ℕ → Result (Bool × List ℕ) XdrFault
boolean_at bytes = do
  n ← word_at bytes
  boolean_of n.0 n.1

-- opaque data behind its length n, with its residual bytes
unfoldable pub body_at : ℕ → List ℕ → Result (List ℕ × List ℕ) XdrFault
body_at n bytes = do
  body ← bytes_at n bytes
  pad ← bytes_at (residual n) body.1
  if list_all (λ b. b == 0) pad.0 then Ok (body.0, pad.1) else Err Pad

-- the opaque data at the front, of at most max bytes
unfoldable pub opaque_at : ℕ → List ℕ → Result (List ℕ × List ℕ) XdrFault
opaque_at max bytes = do
  n ← word_at bytes
  if nat_lt max n.0 then Err TooLong else body_at n.0 n.1

-- A call gave, seen by view, what reading gives.
abbrev pub Gives : {X Y F : Type 0} → (X → Y) → Result X F → Result Y F → Type 0
Gives view (Ok x) read = read ≡ Ok (view x)
Gives view (Err e) read = read ≡ Err e
