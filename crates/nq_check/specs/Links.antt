-- Links from each entry of a journal back to the last one before it that has the same key.
use Rattle.std.specs.Prelude.{◌≡◌, ◌<◌, ◌≤◌, ◌+◌, ◌++◌, ◌⊎◌, ℕ, List, [], ◌∷◌, Some, Bool, false, ◌&&◌, if◌then◌else◌, length}
use Rattle.std.specs.List.{slice_get}
use Rattle.nq_base.specs.declared.Entry.{Entry}
use Rattle.nq_rules.specs.declared.keys.KeyKind.{KeyKind}
use Rattle.nq_rules.specs.Keys.{is_member, spot_of}
use Rattle.nq_rules.specs.Marks.{Spot, mark_at, same_spot}

-- whether the links of a key lead to an entry
abbrev pub is_link : KeyKind → (key : Spot) → Entry → Bool
is_link kind key entry = is_member kind entry && same_spot (spot_of kind entry) key

-- the links of a key lead to no entry from a place on and before another
abbrev pub IsFree : KeyKind → (key : Spot) → (whole : List Entry) → (from to : ℕ) → Type 0
IsFree kind key whole from to = (place : ℕ) (entry : Entry) → from ≤ place → place < to → slice_get whole place ≡ Some entry → is_link kind key entry ≡ false

-- what heads are once one more entry is linked, and its link: the last entry that its key leads to, or its own place, which tells nothing
pub record IsHeadNext (kind : KeyKind) (place : ℕ) (entry : Entry) (old new : List (Spot × ℕ)) (link : ℕ) : Type 0 where
  pub known : (link ≡ mark_at old (spot_of kind entry)) ⊎ (link ≡ place)
  pub marked : (key : Spot) → mark_at new key ≡ (if is_link kind key entry then place + 1 else mark_at old key)

-- the same, where its link stands behind the others
pub record IsLinkedNext (kind : KeyKind) (place : ℕ) (entry : Entry) (old new : List (Spot × ℕ)) (before after : List ℕ) : Type 0 where
  pub link : ℕ
  pub pushed : after ≡ before ++ link ∷ []
  pub head : IsHeadNext kind place entry old new link

-- the entries before a place are linked: no link, and no head, passes over an entry that its key leads to
pub record IsLinked (kind : KeyKind) (whole : List Entry) (linked : ℕ) (heads : List (Spot × ℕ)) (earlier : List ℕ) : Type 0 where
  pub long : length earlier ≡ linked
  pub newest : (key : Spot) → IsFree kind key whole (mark_at heads key) linked
  pub back : (place : ℕ) (entry : Entry) (e : ℕ) → slice_get whole place ≡ Some entry → slice_get earlier place ≡ Some e
      → IsFree kind (spot_of kind entry) whole e place
