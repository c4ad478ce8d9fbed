-- The events of a loop have lines.
use Rattle.std.proofs.Common.{◌≡◌, ℕ, List, [], ◌∷◌, sym, subst}
use Rattle.std.specs.List.{AllByRecursion}
use Rattle.nq_base.specs.declared.Call.{Call}
use Rattle.nq_base.specs.declared.Event.{Event}
use Rattle.nq_loop.specs.Holding.{IsLoopCall, IsLooped}
use Rattle.nq_replay.specs.Texts.{IsTellable}
use Rattle.nq_script.specs.Calls.{HasCall}
use Rattle.nq_script.specs.Lines.{Allows, HasEvent}
use Rattle.nq_script.specs.declared.heads.Head.{Head}

-- ---- what version 1 can tell

has-call : (call : Call) → IsLoopCall call → HasCall 1 call
has-call (Call.Create name blocks) writes = absurd writes
has-call (Call.Lookup name) writes = absurd writes
has-call (Call.Attr file) writes = absurd writes
has-call (Call.Read file block) writes = tt
has-call (Call.Fetch file block) writes = absurd writes
has-call (Call.Write file block body) writes = writes
has-call (Call.Put file block body) writes = absurd writes
has-call (Call.Sync file) writes = tt
has-call (Call.Resize file blocks) writes = absurd writes
has-call (Call.Remove file) writes = absurd writes

has-event : (hosts : ℕ) (event : Event) → IsLooped hosts event → HasEvent 1 event
has-event hosts (Event.Call host call) looped = has-call call looped.1
has-event hosts (Event.Deliver k) looped = tt
has-event hosts Event.ServerTick looped = tt
has-event hosts (Event.ClientTick host) looped = tt
has-event hosts (Event.Restart host) looped = absurd looped
has-event hosts (Event.Crash longest) looped = absurd looped

allows : (head : Head) (event : Event) → IsLooped head.hosts event → Allows head event
allows head (Event.Call host call) looped = looped.0
allows head (Event.Deliver k) looped = tt
allows head Event.ServerTick looped = tt
allows head (Event.ClientTick host) looped = looped
allows head (Event.Restart host) looped = absurd looped
allows head (Event.Crash longest) looped = absurd looped

tellable : (head : Head) (event : Event) → head.version ≡ 1 → IsLooped head.hosts event → IsTellable head event
tellable head event first looped =
    (allows head event looped, subst (λ version. HasEvent version event) (sym first) (has-event head.hosts event looped))

pub are-told : (head : Head) (events : List Event) → head.version ≡ 1 → AllByRecursion (IsLooped head.hosts) events → AllByRecursion (IsTellable head) events
are-told head [] first all = tt
are-told head (event ∷ events) first all = (tellable head event first all.0, are-told head events first all.1)
