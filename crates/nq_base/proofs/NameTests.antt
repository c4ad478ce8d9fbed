-- Bytes that are tested as a name are one, and only they.
use Rattle.std.proofs.Common.{ℕ, ◌≤◌, nat_le, ◌&&◌, List, length, All, refl, arith}
use Rattle.std.specs.Bool.{Decides}
use Rattle.std.specs.List.{list_all}
use Rattle.std.proofs.lemmas.Bool.Decides.{Decides-and, Decides-by_and, Decides-like, nat_tests}
use Rattle.nq_base.specs.Name.{IsName, IsNameByte, is_name, is_name_byte}

byte_decides : (b : ℕ) → Decides (is_name_byte b) (IsNameByte b)
byte_decides b = grind (arith, nat_tests)

bytes_decide : (bytes : List ℕ) → Decides (list_all is_name_byte bytes) (All IsNameByte bytes)
bytes_decide bytes = Decides-by_and is_name_byte IsNameByte (list_all is_name_byte) byte_decides refl (λ _ _. refl) bytes

le_decides : (m n : ℕ) → Decides (nat_le m n) (m ≤ n)
le_decides m n = grind (arith, nat_tests)

pub name_decides : (bytes : List ℕ) → Decides (is_name bytes) (IsName bytes)
unfolding is_name
name_decides bytes =
    let sizes = Decides-and (nat_le 1 (length bytes)) (nat_le (length bytes) 64) (le_decides 1 (length bytes)) (le_decides (length bytes) 64) in
    Decides-like (is_name bytes) (λ h. (h.0.0, h.0.1, h.1)) (λ h. ((h.0, h.1), h.2))
    (Decides-and (nat_le 1 (length bytes) && nat_le (length bytes) 64) (list_all is_name_byte bytes) sizes (bytes_decide bytes))
