-- Whatever number is spelled, there is one within its field that is spelled so.
use Rattle.std.proofs.Common.{◌≡◌, ◌<◌, ◌^◌, ℕ, zero, suc, ◌++◌, drop, refl, ◌∙◌, arith}
use Rattle.nq_xdr.specs.Item.{word, hyper}
use Rattle.nq_xdr.proofs.Bytes.{IsBytes}
use Rattle.nq_xdr.proofs.Numbers.{length-word, length-hyper, word_there, hyper_there}

word-bytes : (n : ℕ) → IsBytes (word n)
unfolding word
word-bytes n zero = omega arith
word-bytes n (suc zero) = omega arith
word-bytes n (suc (suc zero)) = omega arith
word-bytes n (suc (suc (suc zero))) = omega arith
word-bytes n (suc (suc (suc (suc i)))) = omega arith

hyper-bytes : (n : ℕ) → IsBytes (hyper n)
unfolding hyper
hyper-bytes n zero = omega arith
hyper-bytes n (suc zero) = omega arith
hyper-bytes n (suc (suc zero)) = omega arith
hyper-bytes n (suc (suc (suc zero))) = omega arith
hyper-bytes n (suc (suc (suc (suc zero)))) = omega arith
hyper-bytes n (suc (suc (suc (suc (suc zero))))) = omega arith
hyper-bytes n (suc (suc (suc (suc (suc (suc zero)))))) = omega arith
hyper-bytes n (suc (suc (suc (suc (suc (suc (suc zero))))))) = omega arith
hyper-bytes n (suc (suc (suc (suc (suc (suc (suc (suc i)))))))) = omega arith

-- the word that is spelled as this number is
pub record SameWord (n : ℕ) : Type 0 where
  pub number : ℕ
  pub fits : number < 2 ^ 32
  pub same : word n ≡ word number

pub record SameHyper (n : ℕ) : Type 0 where
  pub number : ℕ
  pub fits : number < 2 ^ 64
  pub same : hyper n ≡ hyper number

word-alone : (n m : ℕ) → word m ++ drop 4 (word n) ≡ word m
unfolding word
word-alone n m = refl

hyper-alone : (n m : ℕ) → hyper m ++ drop 8 (hyper n) ≡ hyper m
unfolding hyper
hyper-alone n m = refl

pub same-word : (n : ℕ) → SameWord n
same-word n =
    let w = word_there (word n) (word-bytes n) (omega (arith, length-word n)) in
    record { number = w.0; fits = w.1.0; same = w.1.1 ∙ word-alone n w.0 }

pub same-hyper : (n : ℕ) → SameHyper n
same-hyper n =
    let w = hyper_there (hyper n) (hyper-bytes n) (omega (arith, length-hyper n)) in
    record { number = w.0; fits = w.1.0; same = w.1.1 ∙ hyper-alone n w.0 }
