-- What is wrong with bytes in which no item stands, by the bytes alone.
use Rattle.std.specs.Prelude.{◌≡◌, ℕ, ◌+◌, ◌^◌, ◌<◌, ◌≤◌, ◌⊎◌, List, ◌++◌, length, slice_index}
use Rattle.nq_xdr.specs.declared.fault.XdrFault.{XdrFault}
use Rattle.nq_xdr.specs.declared.fault.XdrFault.TheVariants as fault
use Rattle.nq_xdr.specs.Item.{word, residual}

-- the bytes begin with a word, of which and of the bytes behind it P holds
abbrev pub BeginsWithWord : List ℕ → (ℕ → List ℕ → Type 0) → Type 0
BeginsWithWord bytes P = (n : ℕ) × ((rest : List ℕ) × ((n < 2 ^ 32) × (bytes ≡ word n ++ rest) × P n rest))

-- bytes without an item of a given length: they are fewer
abbrev pub IsShort : ℕ → List ℕ → XdrFault → Type 0
IsShort len bytes fault.Short = length bytes < len
IsShort len bytes _ = ⊥

-- bytes without a boolean: they are fewer than four, or their number is above 1
abbrev pub IsBooleanFault : List ℕ → XdrFault → Type 0
IsBooleanFault bytes fault.Short = length bytes < 4
IsBooleanFault bytes fault.Bool = BeginsWithWord bytes (λ n rest. 1 < n)
IsBooleanFault bytes _ = ⊥

-- Bytes without opaque data of at most max bytes. The length is above max; or the bytes end inside the
-- length, the data or its residual bytes; or all of these are there, and a residual byte is not zero.
abbrev pub IsOpaqueFault : ℕ → List ℕ → XdrFault → Type 0
IsOpaqueFault max bytes fault.TooLong = BeginsWithWord bytes (λ n rest. max < n)
IsOpaqueFault max bytes fault.Short =
    (length bytes < 4) ⊎ BeginsWithWord bytes (λ n rest. (n ≤ max) × (length rest < n + residual n))
IsOpaqueFault max bytes fault.Pad =
    BeginsWithWord bytes (λ n rest. (n ≤ max) × (n + residual n ≤ length rest) × ((k : ℕ) × ((n ≤ k) × (k < n + residual n) × (0 < slice_index rest k))))
IsOpaqueFault max bytes _ = ⊥
