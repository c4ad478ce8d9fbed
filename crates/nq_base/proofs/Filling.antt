use Rattle.std.proofs.Common.{◌≡◌, ℕ, ◌+◌, ◌*◌, ◌/◌, ◌%◌, length, zero, suc, refl, arith}
use Rattle.std.proofs.Math.Nat.{div-div-eq-div-mul}
use Rattle.std.proofs.lemmas.Nat.{div-add-mod'}
use Rattle.nq_base.specs.Block.{repeated, filled, zeros, value_of}

-- words that are repeated are four times as long as they are many
pub repeated-length : (times v : ℕ) → length (repeated times v) ≡ 4 * times
repeated-length zero v = refl
repeated-length (suc times) v = let shorter = repeated-length times v in omega arith

-- a number is the sum of its four bytes, each times its worth
digits : (v : ℕ) → v / 16777216 * 16777216 + v / 65536 % 256 * 65536 + v / 256 % 256 * 256 + v % 256 ≡ v
digits v =
    let low : v / 256 * 256 + v % 256 ≡ v = div-add-mod' v 256 in
    let middle : v / 256 / 256 * 256 + v / 256 % 256 ≡ v / 256 = div-add-mod' (v / 256) 256 in
    let high : v / 65536 / 256 * 256 + v / 65536 % 256 ≡ v / 65536 = div-add-mod' (v / 65536) 256 in
    let two : v / 256 / 256 ≡ v / 65536 = div-div-eq-div-mul v 256 256 in
    let three : v / 65536 / 256 ≡ v / 16777216 = div-div-eq-div-mul v 65536 256 in
    omega (arith, low, middle, high, two, three)

-- a filled block has 4096 bytes
pub filled-length : (v : ℕ) → length (filled v) ≡ 4096
unfolding filled
filled-length v = repeated-length 1024 v

-- the value of a filled block is the number that fills it
pub filled-value : (v : ℕ) → value_of (filled v) ≡ v
unfolding filled
filled-value v = digits v

-- a block of zeros has 4096 bytes
pub zeros-length : length zeros ≡ 4096
unfolding zeros
zeros-length = filled-length 0
