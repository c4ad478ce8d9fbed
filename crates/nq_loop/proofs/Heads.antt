-- The head of a loop's schedule is one.
use Rattle.std.proofs.Common.{ℕ, ◌≤◌, [], ◌∷◌, inl, refl, arith, codes}
use Rattle.std.proofs.lemmas.List.Elements.{All-cons, All-nil}
use Rattle.nq_base.specs.Name.{IsName, IsNameByte}
use Rattle.nq_loop.specs.Whole.{loop_head}
use Rattle.nq_script.specs.Heads.{FitsHead}

name-byte : (b : ℕ) → 97 ≤ b → b ≤ 122 → IsNameByte b
name-byte b low high = (omega arith, omega arith, λ e. omega arith)

name-of : (a b c d : ℕ) → IsNameByte a → IsNameByte b → IsNameByte c → IsNameByte d → IsName (a ∷ b ∷ c ∷ d ∷ [])
name-of a b c d first second third fourth = (
  omega arith,
  omega arith,
  All-cons IsNameByte a (b ∷ c ∷ d ∷ []) first (All-cons IsNameByte b (c ∷ d ∷ []) second (All-cons IsNameByte c (d ∷ [])
      third (All-cons IsNameByte d [] fourth (All-nil IsNameByte)))),
)

pub is-name : IsName (codes "loop")
is-name = name-of 108 111 111 112 (name-byte 108 (omega arith) (omega arith)) (name-byte 111 (omega arith) (omega arith)) (name-byte 111 (omega arith)
    (omega arith)) (name-byte 112 (omega arith) (omega arith))

pub fits-head : (hosts : ℕ) → 1 ≤ hosts → hosts ≤ 64 → FitsHead (loop_head hosts)
fits-head hosts some few = record {
  settings = record {
    known = inl refl;
    some_hosts = some;
    few_hosts = few;
    long_term = omega arith;
    short_term = omega arith;
    fit_longest =
        (omega arith, omega arith, λ e. refl);
  };
  files = record {
    each = ((is-name, omega arith, omega arith), tt);
    few_files = omega arith;
    few_blocks = omega arith;
    distinct = (tt, tt);
  };
}
