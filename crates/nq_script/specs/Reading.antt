-- How words and numbers are read from the front of a text. The grammar does not speak of these; the laws in proofs/
-- tie the two.
use Rattle.nq_base.specs.Steps.{◌>>=◌}
use Rattle.std.specs.Prelude.{ℕ, ◌==◌, ◌&&◌, nat_le, nat_lt, List, [], ◌∷◌, Option, Some, None, if◌then◌else◌, codes}
use Rattle.std.specs.Str.{bytes_eq}
use Rattle.nq_base.specs.declared.Told.{Told}
use Rattle.nq_script.specs.declared.heads.Head.{Head}
use Rattle.nq_script.specs.declared.lines.ToldLine.{ToldLine}
use Rattle.nq_script.specs.WordsReading.{cut, number_of, u32_of, words_of}
use Rattle.nq_script.specs.ReadingCalls.{told_in}

-- what follows a prefix
abbrev pub after : (prefix bytes : List ℕ) → Option (List ℕ)
after [] bytes = Some bytes
after (p ∷ prefix) [] = None
after (p ∷ prefix) (b ∷ bytes) = if b == p then after prefix bytes else None

-- what is made of the first, if it is there, and else the second
abbrev pub either : {A B : Type 0} → Option A → (A → Option B) → Option B → Option B
either None f other = other
either (Some x) f other = f x

-- the number below 2 ^ 32 before the first blank, and what follows the blank
unfoldable pub number_then : List ℕ → Option (ℕ × List ℕ)
number_then text = do
  parts ← cut 32 text
  value ← u32_of parts.0
  Some (value, parts.1)

-- the call that the words tell in a version
abbrev pub told_of : (version : ℕ) → List ℕ → Option Told
told_of version text = told_in version (words_of text)

-- a number from `least` to `most` behind a prefix
unfoldable pub ranged_of : (prefix : List ℕ) → (least most : ℕ) → List ℕ → Option ℕ
ranged_of prefix least most line = do
  word ← after prefix line
  value ← number_of most word
  if nat_le least value then Some value else None

-- how often a word says that something happens
unfoldable pub times_of : List ℕ → Option ℕ
times_of text = ranged_of [] 1 1000 text

-- a call at one of so many hosts
unfoldable pub call_line : Head → List ℕ → Option ToldLine
call_line head text = do
  host ← number_then text
  told ← told_of head.version host.1
  if nat_lt host.0 head.hosts then Some (ToldLine.Call host.0 told) else None

-- the delivery of a packet
unfoldable pub deliver_line : List ℕ → Option ToldLine
deliver_line text = do
  packet ← number_of 18446744073709551615 text
  Some (ToldLine.Deliver packet)

-- ticks of the server's clock
unfoldable pub server_ticks : List ℕ → Option ToldLine
server_ticks text = do
  times ← times_of text
  Some (ToldLine.ServerTicks times)

-- ticks of a host's clock
unfoldable pub client_ticks : (hosts : ℕ) → List ℕ → Option ToldLine
client_ticks hosts text = do
  host ← number_then text
  times ← times_of host.1
  if nat_lt host.0 hosts then Some (ToldLine.ClientTicks host.0 times) else None

-- ticks of a clock
unfoldable pub tick_line : (hosts : ℕ) → List ℕ → Option ToldLine
tick_line hosts text = either (after (codes "s ") text) server_ticks (client_ticks hosts text)

-- rounds
unfoldable pub round_line : List ℕ → Option ToldLine
round_line text = do
  times ← times_of text
  Some (ToldLine.Round times)

-- a host that starts again
unfoldable pub restart_line : (hosts : ℕ) → List ℕ → Option ToldLine
restart_line hosts text = do
  host ← u32_of text
  if nat_lt host hosts then Some (ToldLine.Restart host) else None

-- a crash that tells the longest term, as version 2 has it
unfoldable pub crash_line : Head → List ℕ → Option ToldLine
crash_line head text = do
  longest ← u32_of text
  if head.version == 2 && (nat_le 5 longest && nat_le longest head.longest) then Some (ToldLine.Crash longest) else None

-- a line of one word
unfoldable pub word_line : Head → List ℕ → Option ToldLine
word_line head text =
    if bytes_eq text (codes "flow") then Some ToldLine.Flow
    else if bytes_eq text (codes "end") then Some ToldLine.End
    else if bytes_eq text (codes "crash") && (head.version == 1 && nat_le 60 head.longest) then Some (ToldLine.Crash 60)
    else None

-- the line of a clock or a boot that the text tells
unfoldable pub clock_line : Head → List ℕ → Option ToldLine
clock_line head text =
    either (after (codes "tick ") text) (tick_line head.hosts)
    (either (after (codes "round ") text) round_line
    (either (after (codes "restart ") text) (restart_line head.hosts)
    (either (after (codes "crash ") text) (crash_line head) (word_line head text))))

-- the line that the text tells, in a schedule with this head
unfoldable pub told_line : Head → List ℕ → Option ToldLine
told_line head text =
    either (after (codes "call ") text) (call_line head)
    (either (after (codes "deliver ") text) deliver_line (clock_line head text))

-- the name and the length in the line of a file, whatever bytes the name has
unfoldable pub file_of : List ℕ → Option (List ℕ × ℕ)
file_of line = do
  words ← after (codes "file ") line
  parts ← cut 32 words
  blocks ← ranged_of [] 1 1024 parts.1
  Some (parts.0, blocks)
