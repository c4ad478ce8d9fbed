-- Answers in words, as they stand at a prompt.
use Rattle.std.specs.Fmt.{decimal}
use Rattle.std.specs.List.{flat_map}
use Rattle.std.specs.Prelude.{ℕ, List, [], ◌++◌, codes}
use Rattle.nq_base.specs.Block.{value_of}
use Rattle.nq_base.specs.declared.Answer.{Answer}
use Rattle.nq_base.specs.declared.Loss.{Loss}
use Rattle.nq_base.specs.declared.Value.{Value}

-- what an answer brings, in words
abbrev pub value_words : Value → List ℕ
value_words Value.Nothing = codes "ok"
value_words (Value.File file) = codes "ok, file " ++ decimal file
value_words (Value.Blocks blocks) = codes "ok, blocks " ++ decimal blocks
value_words (Value.Body body) = codes "ok, value " ++ decimal (value_of body)

-- of which block delayed writes were lost, behind a blank
abbrev pub loss_words : Loss → List ℕ
loss_words loss = codes " " ++ decimal loss.block

-- which blocks' delayed writes were lost, in words
abbrev pub lost_words : List Loss → List ℕ
lost_words losses = codes "lost: delayed writes came too late, of block" ++ flat_map loss_words losses

-- the reason of a refusal, in words
abbrev pub reason_of : Answer → List ℕ
reason_of (Answer.Ok value) = []
reason_of (Answer.Lost losses) = []
reason_of Answer.Pending = codes "pending: the answer comes later"
reason_of Answer.Busy = codes "busy: another call is under way"
reason_of Answer.Stale = codes "stale: no such file is kept"
reason_of Answer.NoEntry = codes "noentry: no file has this name"
reason_of Answer.Exists = codes "exists: a file has this name"
reason_of Answer.NoSpace = codes "nospace: the server has no room for so much"
reason_of Answer.Range = codes "range: the file has no such block, or cannot have this length"
reason_of Answer.DirtyFull = codes "dirtyfull: no room for another delayed write"
reason_of Answer.Memory = codes "memory: memory was wanting"
reason_of Answer.Spent = codes "spent: this start takes in no more"

-- an answer in words
abbrev pub answer_words : Answer → List ℕ
answer_words (Answer.Ok value) = value_words value
answer_words (Answer.Lost losses) = lost_words losses.items
answer_words refusal = reason_of refusal
