-- Requests that come one after the other, some of them more than once: each is decided once at most, and what comes again is
-- answered again.
use Rattle.std.specs.Prelude.{◌≡◌, ◌⊎◌, ◌≤◌, ℕ, ◌==◌, Bool, ◌&&◌, List, [], ◌∷◌, ◌++◌, Option, Some, None, All, Contains, count_by, length, map}
use Rattle.nq_base.specs.declared.Decided.{Decided}
use Rattle.nq_base.specs.declared.Decided.TheVariants.{Fresh, Again, Old, OldIncarnation}
use Rattle.nq_base.specs.declared.Gate.{Gate}
use Rattle.nq_base.specs.declared.Request.{Request}
use Rattle.nq_base.specs.declared.Request.TheVariants.{Attach, Create, Write, Resize, Remove}
use Rattle.nq_base.specs.declared.Verdict.{Verdict}
use Rattle.nq_base.specs.declared.Verdict.TheVariants.{Done}
use Rattle.nq_base.specs.declared.Who.{Who}
use Rattle.nq_keeper.specs.Deciding.{IsOfHost}
use Rattle.nq_model.specs.protocol.Change.{applied_if}
use Rattle.nq_model.specs.protocol.Decided.{decided, change_of}
use Rattle.nq_model.specs.protocol.Kept.{Kept, host_row}
use Rattle.nq_model.specs.protocol.Message.{sequence_of}
use Rattle.nq_model.specs.protocol.Profile.{most_hosts}

-- a request, and the gate under which it comes
pub record Coming : Type 0 where
  pub gate : Gate
  pub request : Request

-- what a request that is decided once is known by: its host and incarnation, and its sequence, which of an ATTACH is 0
pub record Key : Type 0 where
  pub who : Who
  pub seq : ℕ

abbrev pub key_of : Request → Option Key
key_of (Attach who) = Some (record { who = who; seq = 0 })
key_of (Create who seq name blocks) = Some (record { who = who; seq = seq })
key_of (Write who seq file block first last push body) = Some (record { who = who; seq = seq })
key_of (Resize who seq q file blocks) = Some (record { who = who; seq = seq })
key_of (Remove who seq q file) = Some (record { who = who; seq = seq })
key_of other = None

-- a request that was executed, with the verdict and the value that were kept of it
pub record Execution : Type 0 where
  pub key : Key
  pub verdict : Verdict
  pub value : ℕ

-- what is executed of a request that was decided so: it, where it was fresh
abbrev pub execution_of : Option Key → Decided → List Execution
execution_of (Some key) (Fresh verdict value) = record { key = key; verdict = verdict; value = value } ∷ []
execution_of (Some key) other = []
execution_of None decision = []

-- what is kept after a request
abbrev pub kept_after : Kept → Coming → Kept
kept_after kept c = applied_if kept (change_of kept c.gate c.request)

-- what is kept after requests
abbrev pub kept_after_all : Kept → List Coming → Kept
kept_after_all kept [] = kept
kept_after_all kept (c ∷ cs) = kept_after_all (kept_after kept c) cs

-- what is said of each of them
abbrev pub said_of : Kept → List Coming → List Decided
said_of kept [] = []
said_of kept (c ∷ cs) = decided kept c.gate c.request ∷ said_of (kept_after kept c) cs

-- what is executed of them, in order
abbrev pub executed : Kept → List Coming → List Execution
executed kept [] = []
executed kept (c ∷ cs) =
    execution_of (key_of c.request) (decided kept c.gate c.request) ++ executed (kept_after kept c) cs

-- whether an execution is that of a host, an incarnation and a sequence
abbrev pub is_of : (host inc seq : ℕ) → Execution → Bool
is_of host inc seq e = e.key.who.host == host && e.key.who.inc == inc && e.key.seq == seq

-- a request that was executed comes again: its kept verdict and value are answered, or it is refused, since a later one of its
-- host was decided
abbrev pub IsRepeat : Execution → Decided → Type 0
IsRepeat e decision = (decision ≡ Again e.verdict e.value) ⊎ ((decision ≡ Old) ⊎ (decision ≡ OldIncarnation))

-- an ATTACH of an incarnation of which something was executed: it is answered again, or a later incarnation was attached
abbrev pub IsAttachedAgain : Decided → Type 0
IsAttachedAgain decision = ((verdict : Verdict) × ((value : ℕ) × (decision ≡ Again verdict value))) ⊎ (decision ≡ OldIncarnation)

-- requests of hosts that there can be, from a kept state with a row for each host. Each host, incarnation and sequence is
-- executed once at most; one that comes again, whatever it asks now and under whatever gate, is not executed, and what is
-- answered again is the kept verdict and value
pub record DecidesOnce (kept : Kept) (cs : List Coming) : Type 0 where
  pub once : (host inc seq : ℕ) → count_by (is_of host inc seq) (executed kept cs) ≤ 1
  pub repeats : (e : Execution) (c : Coming) → Contains (executed kept cs) e → sequence_of c.request ≡ Some e.key.seq → key_of c.request ≡ Some e.key
      → IsRepeat e (decided (kept_after_all kept cs) c.gate c.request)
  pub attaches : (e : Execution) (gate : Gate) → Contains (executed kept cs) e → IsAttachedAgain (decided (kept_after_all kept cs) gate (Attach e.key.who))

-- at most once, for every list of requests, with repeats
abbrev pub AtMostOnce : Type 0
AtMostOnce =
    (kept : Kept) (cs : List Coming)
    → length kept.hosts ≡ most_hosts
    → All (λ c. IsOfHost c.request) cs
    → DecidesOnce kept cs

-- what is answered again is what is kept of the host
abbrev pub KeptIsSaid : Type 0
KeptIsSaid =
    (kept : Kept) (c : Coming) (key : Key) (verdict : Verdict) (value : ℕ)
    → key_of c.request ≡ Some key
    → decided kept c.gate c.request ≡ Again verdict value
    → ((host_row kept key.who.host).inc ≡ key.who.inc)
    × ((host_row kept key.who.host).verdict ≡ verdict)
    × ((host_row kept key.who.host).value ≡ value)

-- that these laws speak of something: a host writes, and its datagram comes twice more, once as another request of the same
-- sequence; it restarts, attaches twice, and then a datagram of before comes
pub record RepeatsAreMet : Type 0 where
  pub kept : Kept
  pub comings : List Coming
  pub all_hosts : length kept.hosts ≡ most_hosts
  pub few : All (λ c. IsOfHost c.request) comings
  pub said : said_of kept comings ≡ Fresh Done 1 ∷ Again Done 1 ∷ Again Done 1 ∷ Fresh Done 0 ∷ Again Done 0 ∷ OldIncarnation ∷ []
  pub twice : map (λ e. e.key) (executed kept comings) ≡ record { who = record { host = 0; inc = 1 }; seq = 1 }
      ∷ record { who = record { host = 0; inc = 2 }; seq = 0 } ∷ []
