-- What printing does. Below, `held` is what the sink held before it and `now` is what it holds after it, where the sink tells them.
use Rattle.std.specs.Prelude.{◌≡◌, ℕ, List, Option}
use Rattle.nq_io.specs.Faults.{Rose}
use Rattle.nq_io.specs.Sink.{AppendsFront}
use Rattle.nq_io.specs.Told.{with_end}
use Rattle.nq_journal.specs.declared.printing.Printed.{Printed}

-- what printing a text does, by its answer
abbrev pub Prints : Printed → List ℕ → (held now : Option (List ℕ)) → Type 0
Prints Printed.All text held now = now ≡ with_end held text
Prints Printed.Failed text held now = AppendsFront text held now
Prints Printed.Memory text held now = AppendsFront text held now

-- printing that fails raises the count of faults, and any other leaves it as it was
abbrev pub CountsPrint : Printed → (before now : ℕ) → Type 0
CountsPrint Printed.All before now = now ≡ before
CountsPrint Printed.Failed before now = Rose before now
CountsPrint Printed.Memory before now = now ≡ before
