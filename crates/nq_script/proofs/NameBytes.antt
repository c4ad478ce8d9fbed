-- The bytes that no name has.
use Rattle.std.proofs.Common.{◌≡◌, ℕ, ◌<◌, ◌≤◌, List, [], ◌∷◌, arith}
use Rattle.std.specs.List.{AllByRecursion}
use Rattle.std.proofs.lemmas.List.Elements.{recursion_from_All}
use Rattle.nq_base.specs.Name.{IsName, IsNameByte}
use Rattle.nq_script.specs.Text.{Lacks}

name-bytes-lack : (at : ℕ) (bytes : List ℕ) → at < 33 → AllByRecursion IsNameByte bytes → Lacks at bytes
name-bytes-lack at [] low each = tt
name-bytes-lack at (b ∷ bytes) low each =
    let printable : 33 ≤ b = each.0.0 in
    (λ same. let e : b ≡ at = same in absurd (omega arith), name-bytes-lack at bytes low each.1)

-- a name has no blank, no line feed, nor any other byte below 33
pub name-lacks : (at : ℕ) (name : List ℕ) → at < 33 → IsName name → Lacks at name
name-lacks at name low is = name-bytes-lack at name low (recursion_from_All IsNameByte name is.2)
