-- What a read does. Below, `left` is what was left before it and `rest` is what is left after it, where the source tells them.
use Rattle.std.specs.Prelude.{◌≡◌, ℕ, ◌<◌, ◌≤◌, List, [], length, take, drop, Option, IfSome, OnSome}
use Rattle.nq_io.specs.declared.source.Got.{Got}
use Rattle.nq_io.specs.declared.source.Got.TheVariants.{Bytes, End, Failed}
use Rattle.nq_io.specs.Faults.{Rose, count_up}
use Rattle.nq_io.specs.Told.{with_front}

-- The read moves the first n of the bytes left, at least one, to the front of the buffer. Where the bytes are told, the rest of the buffer stays.
pub record GivesBytes (n : ℕ) (buffer filled : List ℕ) (left rest : Option (List ℕ)) : Type 0 where
  pub some : 0 < n
  pub fits : n ≤ length buffer
  pub taken : left ≡ with_front (take n filled) rest
  pub beyond : OnSome left (drop n filled ≡ drop n buffer)

-- no byte is left, where that is told, and it stays so
pub record GivesEnd (left rest : Option (List ℕ)) : Type 0 where
  pub nothing : IfSome left (λ bytes. bytes ≡ [])
  pub same : rest ≡ left

-- what a read does, by its answer
abbrev pub Reads : Got → (buffer filled : List ℕ) → (left rest : Option (List ℕ)) → Type 0
Reads (Bytes n) buffer filled left rest = GivesBytes n buffer filled left rest
Reads End buffer filled left rest = GivesEnd left rest
Reads Failed buffer filled left rest = rest ≡ left

-- a read that fails raises the count of faults, and any other leaves it as it was
abbrev pub CountsRead : Got → (before now : ℕ) → Type 0
CountsRead (Bytes n) before now = now ≡ before
CountsRead End before now = now ≡ before
CountsRead Failed before now = Rose before now

-- a count that rises by one at a read that fails, and only there
abbrev pub faults_after : Got → ℕ → ℕ
faults_after (Bytes n) before = before
faults_after End before = before
faults_after Failed before = count_up before
