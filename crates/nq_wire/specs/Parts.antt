-- The parts of requests and results as bytes: each is a row of XDR items (RFC 1014), and has one spelling.
use Rattle.std.specs.Prelude.{ℕ, ◌+◌, ◌^◌, ◌<◌, true, false, List, ◌++◌, Option, Some, None}
use Rattle.nq_base.specs.declared.Grant.{Grant}
use Rattle.nq_base.specs.declared.Mode.{Mode}
use Rattle.nq_base.specs.declared.Mode.TheVariants.{NonCaching, Reading, Writing}
use Rattle.nq_base.specs.declared.PushBase.{PushBase}
use Rattle.nq_base.specs.declared.Tag.{Tag}
use Rattle.nq_base.specs.declared.Want.{Want}
use Rattle.nq_base.specs.declared.Who.{Who}
use Rattle.nq_xdr.specs.Item.{word, hyper, boolean}

-- who asks: a host and its incarnation
unfoldable pub head : Who → List ℕ
head who = word who.host ++ word who.inc

-- a tag: the boot, and the number within it
unfoldable pub tag_bytes : Tag → List ℕ
tag_bytes tag = word tag.boot ++ hyper tag.number

-- the number of a mode
abbrev pub mode_number : Mode → ℕ
mode_number NonCaching = 0
mode_number Reading = 1
mode_number Writing = 2

-- a want: its mode and its term
unfoldable pub want_bytes : Want → List ℕ
want_bytes want = word (mode_number want.mode) ++ word want.term

-- a grant: its mode, its term, its tag, the first tag of its chain, the file's revision and its length
unfoldable pub grant_bytes : Grant → List ℕ
grant_bytes grant = word (mode_number grant.mode) ++ word grant.term ++ tag_bytes grant.tag ++ tag_bytes grant.since ++ hyper grant.rev ++ word grant.blocks

-- what a delayed write rests on: the boot and the revision
unfoldable pub base_bytes : PushBase → List ℕ
base_bytes push = word push.boot ++ hyper push.base

-- an optional part: a boolean that says whether it is there, and then the part
unfoldable pub optional : {A : Type 0} → (A → List ℕ) → Option A → List ℕ
optional part None = boolean false
optional part (Some x) = boolean true ++ part x

-- how many bytes an optional part takes that takes so many where it is there
abbrev pub optional_len : {A : Type 0} → ℕ → Option A → ℕ
optional_len len None = 4
optional_len len (Some x) = 4 + len

-- ---- what every value of these types is

-- a host and an incarnation are words
pub record IsWho (who : Who) : Type 0 where
  pub host : who.host < 2 ^ 32
  pub inc : who.inc < 2 ^ 32

-- a boot is a word, and a tag's number a hyper integer
pub record IsTag (tag : Tag) : Type 0 where
  pub boot : tag.boot < 2 ^ 32
  pub number : tag.number < 2 ^ 64

-- a term is a word
pub record IsWant (want : Want) : Type 0 where
  pub term : want.term < 2 ^ 32

-- the numbers of a grant are words and hyper integers
pub record IsGrant (grant : Grant) : Type 0 where
  pub term : grant.term < 2 ^ 32
  pub tag : IsTag grant.tag
  pub since : IsTag grant.since
  pub rev : grant.rev < 2 ^ 64
  pub blocks : grant.blocks < 2 ^ 32

-- a boot is a word, and a revision a hyper integer
pub record IsPushBase (push : PushBase) : Type 0 where
  pub boot : push.boot < 2 ^ 32
  pub base : push.base < 2 ^ 64

-- ---- which wants have a spelling

-- a lease that is wanted is for reading or for writing
abbrev pub IsWanted : Mode → Type 0
IsWanted NonCaching = ⊥
IsWanted Reading = Unit {0}
IsWanted Writing = Unit {0}
