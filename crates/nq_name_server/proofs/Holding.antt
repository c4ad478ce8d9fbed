-- Whether a request is held up: by the first of the rows in its way.
use Rattle.std.proofs.Common.{◌≡◌, ℕ, Bool, true, false, List, [], ◌∷◌, Some, None, if◌then◌else◌, refl, sym, ap, ◌∙◌}
use Rattle.std.specs.Prelude.{is_some}
use Rattle.std.specs.List.{find, filter}
use Rattle.nq_base.specs.declared.Access.{Access}
use Rattle.nq_base.specs.declared.Who.{Who}
use Rattle.nq_model.specs.protocol.Ask.{conflicts}
use Rattle.nq_name_server.specs.Served.{Served, number_of}
use Rattle.nq_name_server.specs.Serving.{holds, holds_as, holds_for, holds_up, readers}

module _ {X : Type 0} (p : X → Bool) where
  -- none is left where none is found
  none-left : (xs : List X) → is_some (find p xs) ≡ false → filter p xs ≡ []
  none-left [] h = refl
  none-left (x ∷ xs) h = step (p x) h (none-left xs)
    where
      step : (b : Bool) → is_some (if b then Some x else find p xs) ≡ false → (is_some (find p xs) ≡ false → filter p xs ≡ [])
          → (if b then x ∷ filter p xs else filter p xs) ≡ []
      step true h rest = absurd (cc)
      step false h rest = rest h

  -- some are left where one is found
  some-left : (xs : List X) → is_some (find p xs) ≡ true → (x : X) × (rest : List X) × (filter p xs ≡ x ∷ rest)
  some-left [] h = absurd (cc)
  some-left (x ∷ xs) h = step (p x) h (some-left xs)
    where
      step : (b : Bool) → is_some (if b then Some x else find p xs) ≡ true
          → (is_some (find p xs) ≡ true → (y : X) × (rest : List X) × (filter p xs ≡ y ∷ rest))
          → (y : X) × (rest : List X) × ((if b then x ∷ filter p xs else filter p xs) ≡ y ∷ rest)
      step true h rest = (x, filter p xs, refl)
      step false h rest = rest h

-- one that no other host reads
pub unread_free : (s : Served) (who : Who) (prefix : List ℕ) (number : ℕ) → number_of prefix s.directories ≡ Some number
    → is_some (find (conflicts number who.host Access.Write) s.table.rows) ≡ false → holds_up s who prefix ≡ None
unread_free s who prefix number is none =
    ap (holds_as s who prefix) is
    ∙ ap (holds_for s who prefix number) (none-left (conflicts number who.host Access.Write) s.table.rows none)

-- one that another host reads
pub read_held : (s : Served) (who : Who) (prefix : List ℕ) (number : ℕ) → number_of prefix s.directories ≡ Some number
    → is_some (find (conflicts number who.host Access.Write) s.table.rows) ≡ true
    → holds_up s who prefix ≡ Some (holds s who prefix number (readers number who.host s.table.rows))
read_held s who prefix number is some =
    let left = some-left (conflicts number who.host Access.Write) s.table.rows some in
    ap (holds_as s who prefix) is
    ∙ ap (holds_for s who prefix number) left.2
    ∙ sym (ap (λ rows. Some (holds s who prefix number rows)) left.2)
