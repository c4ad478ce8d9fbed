-- Delayed writes that were lost, in words.
use Rattle.std.specs.Fmt.{decimal}
use Rattle.std.specs.List.{flat_map}
use Rattle.std.specs.Prelude.{ℕ, List, [], ◌++◌, codes}
use Rattle.nq_base.specs.declared.Entry.{Entry}

-- the words of a loss: its file and its block
abbrev pub loss_words : (file block : ℕ) → List ℕ
loss_words file block = codes " (file " ++ (decimal file ++ (codes ", block " ++ (decimal block ++ codes ")")))

-- the words of an entry of a journal that tells a loss; none of another one
abbrev pub lost_words : Entry → List ℕ
lost_words (Entry.L who file block first last) = loss_words file block
lost_words other = []

-- the words of all losses that entries tell, in their order
abbrev pub lost_text : List Entry → List ℕ
lost_text entries = flat_map lost_words entries
