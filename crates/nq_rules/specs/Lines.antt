-- How far the calls of each incarnation have come, as one look over a journal learns it.
use Rattle.std.specs.Prelude.{◌≡◌, ℕ, List, Option, Some, None, Bool, true, false, not, ◌&&◌, ◌||◌, ◌==◌, nat_le, nat_eq, unwrap_or, if◌then◌else◌}
use Rattle.std.specs.Map.{lookup}
use Rattle.nq_base.specs.declared.Told.{Told}
use Rattle.nq_base.specs.declared.Who.{Who}
use Rattle.nq_base.specs.declared.Told.TheVariants.{Write, Put, Resize, Remove}
use Rattle.nq_rules.specs.declared.lines.CallProgress.{CallProgress}
use Rattle.nq_rules.specs.declared.lines.Open.{Open}

-- a file, a block of it and a value
abbrev pub Writing : Type 0
Writing = ℕ × ℕ × ℕ

-- a file and a length
abbrev pub Sizing : Type 0
Sizing = ℕ × ℕ

-- the write that a call asks, where it asks one
abbrev pub writing_of : Told → Option Writing
writing_of (Write file block value) = Some ((file, block, value))
writing_of (Put file block value) = Some ((file, block, value))
writing_of other = None

-- the length that a call asks for its file, where it asks one
abbrev pub sizing_of : Told → Option Sizing
sizing_of (Resize file blocks) = Some (file, blocks)
sizing_of (Remove file) = Some (file, 0)
sizing_of other = None

-- whether a write of a value to a block is asked
abbrev pub is_writing : (file block value : ℕ) → Option Writing → Bool
is_writing file block value None = false
is_writing file block value (Some write) = (write.0 == file) && (write.1 == block) && (write.2 == value)

-- whether it is asked that a file gets a length
abbrev pub is_sizing : (file to : ℕ) → Option Sizing → Bool
is_sizing file to None = false
is_sizing file to (Some size) = (size.0 == file) && (size.1 == to)

-- an incarnation that has told nothing
abbrev pub no_line : CallProgress
no_line = record { highest = 0; last = 0; least = 18446744073709551615; current = None; busy = None }

-- a call that has just begun
abbrev pub begun : (q : ℕ) (told : Told) → Open
begun q told = record { q = q; writing = writing_of told; sizing = sizing_of told; wrote = false; resized = false; read = false }

-- the line behind a C: its call opens where none is open, and is busy where the next entry says so
abbrev pub after_call_at : CallProgress → (q : ℕ) (told : Told) (is_busy : Bool) → (current : Option Open) (busy : Option ℕ) → Option CallProgress
after_call_at line q told is_busy None None = Some (record { highest = q; last = line.last; least = line.least; current = Some (begun q told); busy = None })
after_call_at line q told is_busy (Some current) None =
    if is_busy then Some (record { highest = q; last = line.last; least = line.least; current = Some current; busy = Some q }) else None
after_call_at line q told is_busy current (Some other) = None

abbrev pub after_call : CallProgress → (q : ℕ) (told : Told) (is_busy : Bool) → Option CallProgress
after_call line q told is_busy = if nat_le q line.highest then None else after_call_at line q told is_busy line.current line.busy

-- the higher of two numbers, and the lower
abbrev pub upper : (a b : ℕ) → ℕ
upper a b = if nat_le a b then b else a

abbrev pub lower : (a b : ℕ) → ℕ
lower a b = if nat_le a b then a else b

-- whether a number is neither above all that were used nor below them
abbrev pub is_used : CallProgress → (number : ℕ) → Bool
is_used line number = nat_le number line.last && nat_le line.least number

-- the line behind a W of the open call, whose number is above all that were used, or below them
abbrev pub after_write_of : CallProgress → (file block number value : ℕ) → (current : Option Open) (busy : Option ℕ) → Option CallProgress
after_write_of line file block number value (Some current) None =
    if current.wrote || is_used line number || not (is_writing file block value current.writing) then None
    else Some
    (record {
      highest = line.highest;
      last = upper number line.last;
      least = lower number line.least;
      current = Some
          (record { q = current.q; writing = current.writing; sizing = current.sizing; wrote = true; resized = current.resized; read = current.read });
      busy = None;
    })
after_write_of line file block number value current busy = None

-- the line behind a Z of the open call
abbrev pub after_resize_of : CallProgress → (q file to : ℕ) → (current : Option Open) → Option CallProgress
after_resize_of line q file to None = None
after_resize_of line q file to (Some current) =
    if (current.q == q) && not current.resized && is_sizing file to current.sizing
    then Some
    (record {
      highest = line.highest;
      last = line.last;
      least = line.least;
      current = Some
          (record { q = current.q; writing = current.writing; sizing = current.sizing; wrote = current.wrote; resized = true; read = current.read });
      busy = line.busy;
    })
    else None

-- the line behind a read of the open call
abbrev pub after_read_of : CallProgress → (q : ℕ) → (current : Option Open) → Option CallProgress
after_read_of line q None = None
after_read_of line q (Some current) =
    if (current.q == q) && not current.read
    then Some
    (record {
      highest = line.highest;
      last = line.last;
      least = line.least;
      current = Some
          (record { q = current.q; writing = current.writing; sizing = current.sizing; wrote = current.wrote; resized = current.resized; read = true });
      busy = line.busy;
    })
    else None

-- the line behind an A: of the busy call where there is one, else of the open one
abbrev pub after_answer_of : CallProgress → (q : ℕ) → (current : Option Open) (busy : Option ℕ) → Option CallProgress
after_answer_of line q current (Some busy) =
    if busy == q then Some (record { highest = line.highest; last = line.last; least = line.least; current = current; busy = None }) else None
after_answer_of line q (Some current) None =
    if current.q == q then Some (record { highest = line.highest; last = line.last; least = line.least; current = None; busy = None }) else None
after_answer_of line q None None = None

-- the line of an incarnation, in a list of them
abbrev pub same_incarnation : (ℕ × ℕ) → (ℕ × ℕ) → Bool
same_incarnation a b = nat_eq a.0 b.0 && nat_eq a.1 b.1

abbrev pub line_of : List ((ℕ × ℕ) × CallProgress) → (at : ℕ × ℕ) → CallProgress
line_of lines at = unwrap_or (lookup (same_incarnation at) lines) no_line

abbrev pub line_at : List ((ℕ × ℕ) × CallProgress) → (who : Who) → CallProgress
line_at lines who = line_of lines (who.host, who.inc)

-- this incarnation has this line now, and each other one what it had
abbrev pub IsLined : (at : ℕ × ℕ) (line : CallProgress) → (old new : List ((ℕ × ℕ) × CallProgress)) → Type 0
IsLined at line old new = (other : ℕ × ℕ) → line_of new other ≡ (if same_incarnation at other then line else line_of old other)
