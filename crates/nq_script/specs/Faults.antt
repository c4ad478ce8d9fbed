-- What an answer that may be a fault says.
use Rattle.std.specs.Prelude.{ℕ, Result, Ok, Err}
use Rattle.nq_script.specs.declared.faults.ScriptFault.{ScriptFault}
use Rattle.nq_script.specs.declared.faults.ScriptFault.TheVariants.{Bad, Memory}

-- the line of a fault is as is said; want of memory says nothing
abbrev pub Names : ScriptFault → (fault : ℕ → Type 0) → Type 0
Names (Bad line) fault = fault line
Names Memory fault = Unit {0}

-- a value is as is said of values, and a fault names a line as is said of those
abbrev pub Answers : {A : Type 0} → Result A ScriptFault → (value : A → Type 0) → (fault : ℕ → Type 0) → Type 0
Answers (Ok x) value fault = value x
Answers (Err e) value fault = Names e fault
