-- The first 64 bytes of an image: its name, its version, and the numbers of the server.
use Rattle.std.specs.Prelude.{ℕ, ◌==◌, Bool, ◌&&◌, List, [], ◌∷◌, Option, Some, None, nat_lt, nat_le, if◌then◌else◌}
use Rattle.nq_image.specs.declared.heads.Boots.{Boots}
use Rattle.nq_image.specs.declared.heads.Front.{Front}
use Rattle.nq_image.specs.declared.rows.Version.{Version}
use Rattle.nq_image.specs.Check.{Check, check}
use Rattle.nq_image.specs.Layout.{piece, word_in, are_zeros}

-- the version of an image, by its eighth byte: the character 1 or 2
unfoldable pub version_of : (byte : ℕ) → Option Version
version_of byte = if byte == 49 then Some Version.One else if byte == 50 then Some Version.Two else None

-- what the numbers have to be in version 1: the boot is below 2^31, the one that served is not above it, and zeros follow
abbrev pub boots_checks : (front : List ℕ) → List Check
boots_checks front =
    check 8 (nat_lt (word_in 8 front) 2147483648)
    ∷ check 12 (nat_le (word_in 12 front) (word_in 8 front))
    ∷ check 16 (are_zeros (piece 16 48 front))
    ∷ []

-- the numbers of version 1
unfoldable pub boots_of : (front : List ℕ) → Boots
boots_of front = record { boot = word_in 8 front; opened = word_in 12 front }

-- whether a longest term is one, whether there is an id, and whether the tables may begin at a block
abbrev pub is_term : ℕ → Bool
is_term term = nat_le 5 term && nat_le term 600

abbrev pub is_next : ℕ → Bool
is_next next = nat_le 1 next && nat_le next 2147483648

-- what the numbers have to be in version 2
abbrev pub front_checks : (front : List ℕ) → List Check
front_checks front =
    check 8 (nat_lt (word_in 8 front) 2147483648)
    ∷ check 12 (nat_le (word_in 12 front) (word_in 8 front))
    ∷ check 16 (is_term (word_in 16 front))
    ∷ check 20 (is_next (word_in 20 front))
    ∷ check 24 (nat_le (word_in 24 front) 16384)
    ∷ check 28 (are_zeros (piece 28 36 front))
    ∷ []

-- the numbers of version 2
unfoldable pub front_of : (front : List ℕ) → Front
front_of front = record {
  boot = word_in 8 front;
  opened = word_in 12 front;
  longest = word_in 16 front;
  next = word_in 20 front;
  tables = word_in 24 front;
}
