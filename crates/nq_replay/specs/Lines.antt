-- The lines that tell faults, each with its line feed.
use Rattle.std.specs.Prelude.{ℕ, ◌+◌, ◌-◌, ◌==◌, List, ◌++◌, length, take, codes}
use Rattle.std.specs.Fmt.{decimal}
use Rattle.std.specs.List.{count_by}
use Rattle.nq_base.specs.declared.SkewBroken.{SkewBroken}
use Rattle.nq_replay.specs.declared.printing.Bound.{Bound}

-- the line of words that say nothing that can be run
unfoldable pub usage_line : List ℕ
usage_line = codes "usage\n"

-- the line that tells the number of a faulty line
unfoldable pub script_line : (number : ℕ) → List ℕ
script_line number = codes "script line " ++ decimal number ++ codes "\n"

-- the line that tells which tick breaks the rule on skew, for which host, and how often the server's clock and the host's ticked
unfoldable pub skew_line : (number : ℕ) → SkewBroken → List ℕ
skew_line number broken =
    codes "skew line " ++ decimal number ++ codes " host " ++ decimal broken.host ++ codes " server "
    ++ decimal broken.server ++ codes " client " ++ decimal broken.client ++ codes "\n"

-- how the line ends that tells what there is too much of
abbrev pub bound_end : Bound → List ℕ
bound_end Bound.Bytes = codes " bytes\n"
bound_end Bound.Events = codes " events\n"
bound_end Bound.Packets = codes " packets\n"

-- the line that tells in which line there is too much of it
unfoldable pub limit_line : (number : ℕ) → Bound → List ℕ
limit_line number bound = codes "limit line " ++ decimal number ++ bound_end bound

-- the line in which the last of these bytes stands: one more than there are line feeds before it
unfoldable pub last_line : List ℕ → ℕ
last_line bytes = count_by (λ b. b == 10) (take (length bytes - 1) bytes) + 1
