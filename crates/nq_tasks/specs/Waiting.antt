-- Why an ask waits.
use Rattle.std.specs.Prelude.{ℕ, ◌-◌, Bool, true, false, not, ◌&&◌, ◌||◌, nat_le, nat_lt, List, Option, Some, None, if◌then◌else◌, codes}
use Rattle.nq_tasks.specs.declared.listing.Listed.{Listed}
use Rattle.nq_tasks.specs.declared.waiting.KnownServer.{KnownServer}

-- an ask that waits: since when, what is known of the server, and whether it was told why
pub record Waits : Type 0 where
  pub since : ℕ
  pub known : KnownServer
  pub told : Bool

-- it begins to wait
abbrev pub begun : (now : ℕ) → Waits
begun now = record { since = now; known = KnownServer.Nothing; told = false }

-- what is known behind an answer to a list
abbrev pub known_by : Listed → KnownServer → KnownServer
known_by Listed.Goes known = known
known_by Listed.Later known = KnownServer.Recovers
known_by Listed.Whole known = KnownServer.Serves

-- the same, of an ask that waits
abbrev pub heard : Listed → Waits → Waits
heard listed w = record { since = w.since; known = known_by listed w.known; told = w.told }

-- whether nothing is known yet
abbrev pub is_unknown : KnownServer → Bool
is_unknown KnownServer.Nothing = true
is_unknown KnownServer.Serves = false
is_unknown KnownServer.Recovers = false

-- whether the server is asked if it recovers: a tick has passed, nothing is known yet, and nothing was told
abbrev pub asks_at : (now : ℕ) → Waits → Bool
asks_at now w = is_unknown w.known && not w.told && nat_le 1 (now - w.since)

-- why an ask waits, in words
abbrev pub reason_of : KnownServer → List ℕ
reason_of KnownServer.Nothing = codes "waiting: no server answers"
reason_of KnownServer.Serves = codes "waiting: another host may have a lease on the file"
reason_of KnownServer.Recovers = codes "waiting: the server recovers"

-- what is told of why, once 3 ticks have passed, and the ask then
unfoldable pub told_at : (now : ℕ) → Waits → Option (List ℕ) × Waits
told_at now w =
    if w.told || nat_lt (now - w.since) 3 then (None, w)
    else (Some (reason_of w.known), record { since = w.since; known = w.known; told = true })
