-- What a journal tells. Its entries are
--     C a call and A its answer; W a write and R a read;
--     S delayed writes were stored and L they were lost;
--     G a lease was granted, F one ended in silence, O a recovery ended;
--     B a client started again, X the server booted again; Z a file got another length.
-- A journal is a list of entries, the newest first: what stands before an entry is the rest of the list behind it.
-- The facts of each file stand at its head. At its end they stand again as tests, which compute; the test of a fact has
-- its name in lower case.
use Rattle.std.specs.Prelude.{◌≡◌, ◌≤◌, ◌⊎◌, ℕ, List, [], ◌∷◌, Option, Some, None, Bool, true, false, ◌&&◌, ◌==◌, nat_le, if◌then◌else◌, ⊤}
use Rattle.std.specs.Option.{option_or}
use Rattle.nq_base.specs.declared.Entry.{Entry}
use Rattle.nq_base.specs.declared.Entry.TheVariants.{C, W, R, S, L, Z, A}
use Rattle.nq_base.specs.declared.Said.TheVariants.{OkBy}
use Rattle.nq_base.specs.declared.Told.{Told}
use Rattle.nq_base.specs.declared.Told.TheVariants.{Read, Fetch, Write, Put, Attr, Sync, Resize, Remove}
use Rattle.nq_base.specs.declared.Who.{Who}
use Rattle.nq_model.specs.protocol.Table.{same_who}

-- ---- facts of entries and of their places

-- a fact of each element
abbrev pub Each : {X : Type 0} → (X → Type 0) → List X → Type 0
Each Fact [] = ⊤
Each Fact (x ∷ xs) = Fact x × Each Fact xs

-- a fact of some element
abbrev pub Exists : {X : Type 0} → (X → Type 0) → List X → Type 0
Exists Fact [] = ⊥
Exists Fact (x ∷ xs) = Fact x ⊎ Exists Fact xs

-- a fact of one element at most
abbrev pub AtMostOne : {X : Type 0} → (X → Type 0) → List X → Type 0
AtMostOne Fact [] = ⊤
AtMostOne Fact (x ∷ xs) = (Fact x → ¬ Exists Fact xs) × AtMostOne Fact xs

-- a fact of each entry and of what stands before it
abbrev pub Throughout : (Entry → List Entry → Type 0) → List Entry → Type 0
Throughout Fact [] = ⊤
Throughout Fact (entry ∷ before) = Fact entry before × Throughout Fact before

-- a fact of some entry and of what stands before it
abbrev pub Somewhere : (Entry → List Entry → Type 0) → List Entry → Type 0
Somewhere Fact [] = ⊥
Somewhere Fact (entry ∷ before) = Fact entry before ⊎ Somewhere Fact before

-- a fact of each entry, of what stands before it, and of what stands after it in the order of time
abbrev pub AtEachPlace : (List Entry → Entry → List Entry → Type 0) → (after : List Entry) → List Entry → Type 0
AtEachPlace Fact after [] = ⊤
AtEachPlace Fact after (entry ∷ before) = Fact after entry before × AtEachPlace Fact (entry ∷ after) before

-- ---- calls

-- the entry is a C of call q of an incarnation
abbrev pub IsCall : (who : Who) (q : ℕ) → Entry → Type 0
IsCall who q (C by n told) = (by ≡ who) × (n ≡ q)
IsCall who q other = ⊥

-- the entry is an A of call q of an incarnation
abbrev pub IsAnswer : (who : Who) (q : ℕ) → Entry → Type 0
IsAnswer who q (A by n said) = (by ≡ who) × (n ≡ q)
IsAnswer who q other = ⊥

-- a call is open at a place: its C stands before the place, and its A does not
abbrev pub IsOpen : (before : List Entry) (who : Who) (q : ℕ) → Type 0
IsOpen before who q = Exists (IsCall who q) before × ¬ Exists (IsAnswer who q) before

-- what an entry tells of a call
abbrev pub told_by : Entry → (who : Who) (q : ℕ) → Option Told
told_by (C by n told) who q = if same_who by who && (n == q) then Some told else None
told_by other who q = None

-- what a call asks, as its first C tells it
abbrev pub call_of : List Entry → (who : Who) (q : ℕ) → Option Told
call_of [] who q = None
call_of (entry ∷ before) who q = option_or (call_of before who q) (told_by entry who q)

-- the call speaks of a file
abbrev pub SpeaksOf : (file : ℕ) → Option Told → Type 0
SpeaksOf file (Some (Attr f)) = f ≡ file
SpeaksOf file (Some (Read f block)) = f ≡ file
SpeaksOf file (Some (Fetch f block)) = f ≡ file
SpeaksOf file (Some (Write f block value)) = f ≡ file
SpeaksOf file (Some (Put f block value)) = f ≡ file
SpeaksOf file (Some (Sync f)) = f ≡ file
SpeaksOf file (Some (Resize f blocks)) = f ≡ file
SpeaksOf file (Some (Remove f)) = f ≡ file
SpeaksOf file other = ⊥

-- ---- reads

-- the entry is a read by call q of an incarnation
abbrev pub IsReadBy : (who : Who) (q : ℕ) → Entry → Type 0
IsReadBy who q (R by n file block value served) = (by ≡ who) × (n ≡ q)
IsReadBy who q other = ⊥

-- the entry is an A of call q that says `by` this packet
abbrev pub IsAnswerBy : (who : Who) (q packet : ℕ) → Entry → Type 0
IsAnswerBy who q packet (A by n (OkBy value k)) = (by ≡ who) × (n ≡ q) × (k ≡ packet)
IsAnswerBy who q packet other = ⊥

-- a read is counted where it is cached, and where it is served in a packet by which an A of the same call says ok
abbrev pub IsCounted : (whole : List Entry) → Entry → Type 0
IsCounted whole (R who q file block value None) = ⊤
IsCounted whole (R who q file block value (Some packet)) = Exists (IsAnswerBy who q packet) whole
IsCounted whole other = ⊥

-- ---- writes

-- the entry is a write to a block
abbrev pub IsWriteOn : (file block : ℕ) → Entry → Type 0
IsWriteOn file block (W who f b number value through) = (f ≡ file) × (b ≡ block)
IsWriteOn file block other = ⊥

-- the entry is a write of an incarnation
abbrev pub IsWriteBy : (who : Who) → Entry → Type 0
IsWriteBy who (W by file block number value through) = by ≡ who
IsWriteBy who other = ⊥

-- the entry is a write that went through: the server wrote it (RFC 1813's FILE_SYNC)
abbrev pub IsThrough : Entry → Type 0
IsThrough (W who file block number value true) = ⊤
IsThrough other = ⊥

-- the value that a write gives its block
abbrev pub value_written : Entry → ℕ
value_written (W who file block number value through) = value
value_written other = 0

-- the entry is a delayed write of an incarnation to a block, and its number is from first to last
abbrev pub IsWithin : (who : Who) (file block first last : ℕ) → Entry → Type 0
IsWithin who file block first last (W by f b number value false) = (by ≡ who) × (f ≡ file) × (b ≡ block) × (first ≤ number) × (number ≤ last)
IsWithin who file block first last other = ⊥

-- an S or L covers a delayed write of the same incarnation, file and block whose number is from first to last
abbrev pub Covers : Entry → (write : Entry) → Type 0
Covers (S who file block first last now) write = IsWithin who file block first last write
Covers (L who file block first last) write = IsWithin who file block first last write
Covers other write = ⊥

-- the entry is an S and covers a write
abbrev pub Stores : Entry → (write : Entry) → Type 0
Stores (S who file block first last now) write = IsWithin who file block first last write
Stores other write = ⊥

-- the entry is an L and covers a write
abbrev pub Loses : Entry → (write : Entry) → Type 0
Loses (L who file block first last) write = IsWithin who file block first last write
Loses other write = ⊥

-- an S of these entries covers the write
abbrev pub IsStored : (entries : List Entry) (write : Entry) → Type 0
IsStored entries write = Exists (λ entry. Stores entry write) entries

-- an L of these entries covers the write
abbrev pub IsLost : (entries : List Entry) (write : Entry) → Type 0
IsLost entries write = Exists (λ entry. Loses entry write) entries

-- ---- values

-- whether a Z cuts a block: its file has that block no more
abbrev pub cuts : Entry → (file block : ℕ) → Bool
cuts (Z who q on from to) file block = (on == file) && nat_le to block
cuts other file block = false

-- the entries after the last Z that cuts a block
abbrev pub since_cut : List Entry → (file block : ℕ) → List Entry
since_cut [] file block = []
since_cut (entry ∷ before) file block = if cuts entry file block then [] else entry ∷ since_cut before file block

-- the value is that of the last write of which a fact holds, or 0 where it holds of none
abbrev pub IsLastValue : (Entry → Type 0) → List Entry → (value : ℕ) → Type 0
IsLastValue Fact [] value = value ≡ 0
IsLastValue Fact (entry ∷ before) value = (Fact entry → value ≡ value_written entry) × (¬ Fact entry → IsLastValue Fact before value)

-- the same as a function
abbrev pub last_value : (Entry → Bool) → List Entry → ℕ
last_value test [] = 0
last_value test (entry ∷ before) = if test entry then value_written entry else last_value test before
