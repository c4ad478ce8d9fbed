-- The text of a page.
use Rattle.nq_record.specs.declared.chart.parts.Part.{Part}
use Rattle.std.specs.Fmt.{decimal}
use Rattle.std.specs.Prelude.{◌≡◌, ℕ, List, ◌++◌, ◌∷◌, [], codes, Option, Some, None, ◌==◌, if◌then◌else◌}

-- what stood there before stands in front, and more may stand behind it
pub record Extends (before now : List ℕ) : Type 0 where
  pub more : List ℕ
  pub behind : now ≡ before ++ more

-- a byte of a text as it is written between marks: `&`, `<`, `>` and `"` by their names
abbrev pub escaped_byte : ℕ → List ℕ
escaped_byte byte =
    if byte == 38 then codes "&amp;"
    else (if byte == 60 then codes "&lt;"
    else (if byte == 62 then codes "&gt;"
    else (if byte == 34 then codes "&quot;"
    else byte ∷ [])))

-- a part of a text as it is written
abbrev pub spelled : Part → List ℕ
spelled (Part.Text text) = text.now
spelled (Part.Number number) = decimal number

-- a page with more behind it: where memory was wanting there is no text
abbrev pub added : Option (List ℕ) → List ℕ → Option (List ℕ)
added None more = None
added (Some text) more = Some (text ++ more)

-- a text is what it was before with a page behind it
abbrev pub Closes : Option (List ℕ) → (before now : List ℕ) → Type 0
Closes None before now = ⊥
Closes (Some text) before now = now ≡ before ++ text
