-- How many bytes each procedure's items of fixed size take that stand in front.
use Rattle.std.specs.Prelude.{ℕ}
use Rattle.nq_wire.specs.declared.procedure.Procedure.{Procedure}
use Rattle.nq_wire.specs.declared.procedure.Procedure.TheVariants.{Create, GetAttr, Lookup, Read, Write, GetLease, Vacated, Evicted, Resize, Remove}

-- of the arguments, behind who asks
abbrev pub least_arguments : Procedure → ℕ
least_arguments Create = 8
least_arguments GetAttr = 4
least_arguments Read = 16
least_arguments Write = 16
least_arguments GetLease = 4
least_arguments Vacated = 16
least_arguments Evicted = 16
least_arguments Resize = 24
least_arguments Remove = 20
least_arguments other = 0

-- of the results, behind the incarnation and the status OK
abbrev pub least_results : Procedure → ℕ
least_results Lookup = 8
least_results Create = 4
least_results GetAttr = 12
least_results Read = 8
least_results Write = 8
least_results Resize = 8
least_results other = 0
