-- Names, each with the id of its file, as a keeper in memory has them.
use Rattle.std.specs.Prelude.{◌≡◌, ℕ, List, Option, Some, None, Vec, nat_eq, if◌then◌else◌}
use Rattle.std.specs.Global.{Global}
use Rattle.std.specs.Cmp.Lexicographic.{pointwise}
use Rattle.std.specs.Map.{lookup}
use Rattle.nq_model.specs.protocol.Kept.{File, find_name}

-- the id that stands at a name
abbrev pub id_of : (name : List ℕ) → List (Vec ℕ Global × ℕ) → Option ℕ
id_of name names = lookup (λ key. pointwise nat_eq name key.items) names

-- the id of a file that is found
abbrev pub id_found : Option File → Option ℕ
id_found None = None
id_found (Some file) = Some file.id

-- each name has the id of its file
abbrev pub AreNamed : List (Vec ℕ Global × ℕ) → List File → Type 0
AreNamed names files = (name : List ℕ) → id_of name names ≡ id_found (find_name name files)

-- at this name stands this, and at the others what stood there
abbrev pub StandsAt : (name : List ℕ) → Option ℕ → (old new : List (Vec ℕ Global × ℕ)) → Type 0
StandsAt name id old new =
    (other : List ℕ) → id_of other new ≡ (if pointwise nat_eq name other then id else id_of other old)
