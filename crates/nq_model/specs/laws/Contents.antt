-- What was in a file at each of its revisions, as a journal tells it. The newest entry of a journal comes first.
use Rattle.std.specs.Prelude.{ℕ, ◌+◌, ◌==◌, Bool, false, ◌&&◌, List, [], ◌∷◌, ◌++◌, Option, Some, None, take, replicate, slice_set, nat_lt, unwrap_or}
use Rattle.std.specs.Prelude.{if◌then◌else◌}
use Rattle.std.specs.Option.{option_or}
use Rattle.nq_base.specs.declared.Entry.{Entry}
use Rattle.nq_base.specs.declared.Entry.TheVariants.{W, S, F, Z}
use Rattle.nq_base.specs.declared.Who.{Who}
use Rattle.nq_model.specs.protocol.Table.{same_who}

-- whether an entry changes a file: a write that goes through, stored writes, another length, or a fence
abbrev pub changes : Entry → (file : ℕ) → Bool
changes (W who f block number value through) file = through && f == file
changes (S who f block first last now) file = f == file
changes (F who f until heard now) file = f == file
changes (Z who q f from to) file = f == file
changes other file = false

-- how often a file was changed
abbrev pub changes_of : List Entry → (file : ℕ) → ℕ
changes_of [] file = 0
changes_of (entry ∷ before) file = if changes entry file then changes_of before file + 1 else changes_of before file

-- the value that an entry writes, if it is this delayed write
abbrev pub delayed_by : Entry → (who : Who) (file block number : ℕ) → Option ℕ
delayed_by (W by f b n value false) who file block number =
    if same_who by who && f == file && b == block && n == number then Some value else None
delayed_by other who file block number = None

-- the value of an incarnation's delayed write of this number to a block, as the first such entry tells it
abbrev pub delayed_value : List Entry → (who : Who) (file block number : ℕ) → Option ℕ
delayed_value [] who file block number = None
delayed_value (entry ∷ before) who file block number =
    option_or (delayed_value before who file block number) (delayed_by entry who file block number)

-- blocks are cut off, or zeros are added, until there are so many
abbrev pub with_length : (blocks : ℕ) → List ℕ → List ℕ
with_length blocks values = take blocks (values ++ replicate blocks 0)

-- a file's values after a change of it. A write that goes through sets its block to its value. Stored writes set their
-- block to the value of the last of them. Another length cuts blocks off or adds zeros. A fence changes nothing
abbrev pub after_change : Entry → (before : List Entry) → List ℕ → List ℕ
after_change (W who file block number value through) before values = slice_set values block value
after_change (S who file block first last now) before values =
    slice_set values block (unwrap_or (delayed_value before who file block last) 0)
after_change (Z who q file from to) before values = with_length to values
after_change other before values = values

-- the value of each block of a file after so many changes of it. It was made with this length, of zeros
abbrev pub content_at : List Entry → (first file rev : ℕ) → List ℕ
content_at [] first file rev = replicate first 0
content_at (entry ∷ before) first file rev =
    if changes entry file && nat_lt (changes_of before file) rev
    then after_change entry before (content_at before first file rev)
    else content_at before first file rev

-- the change of a file of this number, counted from 1
abbrev pub change_at : List Entry → (file rev : ℕ) → Option Entry
change_at [] file rev = None
change_at (entry ∷ before) file rev =
    if changes entry file && (changes_of before file + 1 == rev) then Some entry else change_at before file rev
