-- How the program ends.
use Rattle.std.specs.Prelude.{◌≡◌, ◌⊎◌, ⊤, Result, Ok, Err}
use Rattle.nq_base.specs.declared.ending.ending.Ending.{Ending}
use Rattle.nq_words.specs.declared.Wrong.{Wrong}
use Rattle.nqnfs_look.specs.declared.words.Order.{Order}
use Rattle.nqnfs_look.specs.declared.words.Order.TheVariants as order

-- bytes were put out, and it ends as it was to, or the output failed
abbrev pub IsPut : (wanted : Ending) → Ending → Type 0
IsPut wanted end = (end ≡ wanted) ⊎ (end ≡ Ending.WriteFault)

-- How it ends by what its words ask for, or are wrong with. How a run is shown, `look` of `nq_observe` says.
abbrev pub EndsOrder : Result Order Wrong → Ending → Type 0
EndsOrder (Err wrong) end = end ≡ Ending.Usage
EndsOrder (Ok order.Help) end = IsPut Ending.Done end
EndsOrder (Ok order.Version) end = IsPut Ending.Done end
EndsOrder (Ok (order.Show view)) end = ⊤
