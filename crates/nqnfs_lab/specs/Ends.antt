-- How the program ends.
use Rattle.std.specs.Prelude.{◌≡◌, ◌⊎◌, Result, Ok, Err}
use Rattle.nq_base.specs.declared.ending.ending.Ending.{Ending}
use Rattle.nq_words.specs.declared.Wrong.{Wrong}
use Rattle.nqnfs_lab.specs.declared.words.Order.{Order}
use Rattle.nqnfs_lab.specs.declared.words.Order.TheVariants as order

-- a text was printed, or the output failed
abbrev pub IsSaid : Ending → Type 0
IsSaid end = (end ≡ Ending.Done) ⊎ (end ≡ Ending.WriteFault)

-- the page was served, or its files cannot be read, or the port cannot be had
abbrev pub IsServed : Ending → Type 0
IsServed end = (end ≡ Ending.Done) ⊎ (end ≡ Ending.ReadFault) ⊎ (end ≡ Ending.LinkFault)

-- How it ends by what its words ask for, or are wrong with. It ends with the status of usage only where they are wrong
abbrev pub EndsOrder : Result Order Wrong → Ending → Type 0
EndsOrder (Err wrong) end = end ≡ Ending.Usage
EndsOrder (Ok order.Help) end = IsSaid end
EndsOrder (Ok order.Version) end = IsSaid end
EndsOrder (Ok (order.Once options)) end = IsSaid end
EndsOrder (Ok (order.Serve options)) end = IsServed end
