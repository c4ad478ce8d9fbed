-- The procedures of the program, and their numbers.
use Rattle.std.specs.Prelude.{ℕ, ◌==◌, Option, Some, None, if◌then◌else◌}
use Rattle.nq_wire.specs.declared.procedure.Procedure.{Procedure}
use Rattle.nq_wire.specs.declared.procedure.Procedure.TheVariants.{Null, Attach, Lookup, Create, GetAttr, Read, Write, GetLease, Vacated, Evicted}
use Rattle.nq_wire.specs.declared.procedure.Procedure.TheVariants.{Resize, Remove}

-- the number of a procedure
abbrev pub number_of : Procedure → ℕ
number_of Null = 0
number_of Attach = 1
number_of Lookup = 2
number_of Create = 3
number_of GetAttr = 4
number_of Read = 5
number_of Write = 6
number_of GetLease = 7
number_of Vacated = 8
number_of Evicted = 9
number_of Resize = 10
number_of Remove = 11

-- the procedure of a number
unfoldable pub numbered : ℕ → Option Procedure
numbered n =
    if n == 0 then Some Null else (
    if n == 1 then Some Attach else (
    if n == 2 then Some Lookup else (
    if n == 3 then Some Create else (
    if n == 4 then Some GetAttr else (
    if n == 5 then Some Read else (
    if n == 6 then Some Write else (
    if n == 7 then Some GetLease else (
    if n == 8 then Some Vacated else (
    if n == 9 then Some Evicted else (
    if n == 10 then Some Resize else (
    if n == 11 then Some Remove else None)))))))))))
