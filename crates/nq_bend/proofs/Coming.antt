-- Events that a schedule can tell can come, and their bodies are filled.
use Rattle.std.proofs.Common.{◌≡◌, ◌≤◌, ◌<◌, ◌⊎◌, inl, inr, ℕ, List, [], ◌∷◌, length, sym, subst, ◌∙◌, arith}
use Rattle.std.specs.List.{AllByRecursion}
use Rattle.nq_base.specs.declared.Call.{Call}
use Rattle.nq_base.specs.declared.Event.{Event}
use Rattle.nq_bend.specs.Course.{StandsFor}
use Rattle.nq_observe.specs.Told.{TellsEvent}
use Rattle.nq_replay.specs.Texts.{IsTellable}
use Rattle.nq_script.specs.Calls.{HasCall, IsFilledCall}
use Rattle.nq_script.specs.Lines.{HasEvent, IsFilledEvent}
use Rattle.nq_script.specs.declared.heads.Head.{Head}
use Rattle.nq_script.specs.declared.lines.Line.{Line}
use Rattle.nq_world.specs.Playing.{CanCome, HasSettings, WorldOver}

least : (version longest : ℕ) → ((version ≡ 1) × (longest ≡ 60)) ⊎ ((version ≡ 2) × (5 ≤ longest)) → 5 ≤ longest
least version longest (inl first) = let is : longest ≡ 60 = first.1 in omega arith
least version longest (inr second) = second.1

come : (head : Head) (event : Event) → IsTellable head event → CanCome head.hosts head.longest event
come head (Event.Call host call) told = told.0
come head (Event.Deliver packet) told = tt
come head Event.ServerTick told = tt
come head (Event.ClientTick host) told = told.0
come head (Event.Restart host) told = told.0
come head (Event.Crash longest) told = (least head.version longest told.1, told.0)

pub can_come : {K : Type 0} (head : Head) (w : WorldOver K) (event : Event) → HasSettings head.hosts head.longest head.term w → IsTellable head event
    → CanCome (length w.clients) w.skew.window event
can_come head w event has told =
    subst (λ hosts. CanCome hosts w.skew.window event) (sym has.hosts_are)
    (subst (λ longest. CanCome head.hosts longest event) (sym has.longest_is) (come head event told))

pub settings_on : {K : Type 0} (hosts longest term : ℕ) (w v : WorldOver K) → HasSettings hosts longest term w
    → HasSettings (length w.clients) w.skew.window w.term v → HasSettings hosts longest term v
settings_on hosts longest term w v has on = record {
  hosts_are = on.hosts_are ∙ has.hosts_are;
  longest_is = on.longest_is ∙ has.longest_is;
  term_is = on.term_is ∙ has.term_is;
}

filled-call : (version : ℕ) (call : Call) → HasCall version call → IsFilledCall call
filled-call version (Call.Create name blocks) has = tt
filled-call version (Call.Lookup name) has = tt
filled-call version (Call.Attr file) has = tt
filled-call version (Call.Read file block) has = tt
filled-call version (Call.Fetch file block) has = tt
filled-call version (Call.Write file block body) has = has
filled-call version (Call.Put file block body) has = has
filled-call version (Call.Sync file) has = tt
filled-call version (Call.Resize file blocks) has = tt
filled-call version (Call.Remove file) has = tt

pub filled : (head : Head) (event : Event) → IsTellable head event → IsFilledEvent event
filled head (Event.Call host call) told = filled-call head.version call told.1
filled head (Event.Deliver packet) told = tt
filled head Event.ServerTick told = tt
filled head (Event.ClientTick host) told = tt
filled head (Event.Restart host) told = tt
filled head (Event.Crash longest) told = tt

pub stands_self : (event : Event) → StandsFor event event
stands_self (Event.Call host call) = λ i. Event.Call host call
stands_self (Event.Deliver packet) = tt
stands_self Event.ServerTick = λ i. Event.ServerTick
stands_self (Event.ClientTick host) = λ i. Event.ClientTick host
stands_self (Event.Restart host) = λ i. Event.Restart host
stands_self (Event.Crash longest) = λ i. Event.Crash longest

-- ---- lines of another head that allows the same

alike-event : (one other : Head) (event : Event) → one.version ≡ other.version → one.hosts ≡ other.hosts → one.longest ≡ other.longest
    → IsTellable other event → IsTellable one event
alike-event one other (Event.Call host call) version hosts longest told =
    (subst (λ n. host < n) (sym hosts) told.0, subst (λ v. HasCall v call) (sym version) told.1)
alike-event one other (Event.Deliver packet) version hosts longest told = (tt, tt)
alike-event one other Event.ServerTick version hosts longest told = (tt, tt)
alike-event one other (Event.ClientTick host) version hosts longest told = (subst (λ n. host < n) (sym hosts) told.0, tt)
alike-event one other (Event.Restart host) version hosts longest told = (subst (λ n. host < n) (sym hosts) told.0, tt)
alike-event one other (Event.Crash most) version hosts longest told =
    (subst (λ n. most ≤ n) (sym longest) told.0, subst (λ v. HasEvent v (Event.Crash most)) (sym version) told.1)

alike-line : (one other : Head) (line : Line) → one.version ≡ other.version → one.hosts ≡ other.hosts → one.longest ≡ other.longest
    → TellsEvent other line → TellsEvent one line
alike-line one other (Line.Events event times) version hosts longest told = alike-event one other event version hosts longest told
alike-line one other (Line.Round times) version hosts longest told = tt
alike-line one other Line.Flow version hosts longest told = tt
alike-line one other Line.End version hosts longest told = tt

pub alike : (one other : Head) (lines : List Line) → one.version ≡ other.version → one.hosts ≡ other.hosts → one.longest ≡ other.longest
    → AllByRecursion (TellsEvent other) lines → AllByRecursion (TellsEvent one) lines
alike one other [] version hosts longest all = tt
alike one other (line ∷ lines) version hosts longest all =
    (alike-line one other line version hosts longest all.0, alike one other lines version hosts longest all.1)
