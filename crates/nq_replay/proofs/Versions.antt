-- The journal of a schedule has entries of its version alone.
use Rattle.std.proofs.Common.{◌≡◌, ◌≤◌, ◌⊎◌, inl, inr, ℕ, ◌+◌, List, [], ◌∷◌, map, Option, refl, sym, subst, ◌∙◌, arith}
use Rattle.std.proofs.lemmas.List.Elements.{All-nil, All-cons}
use Rattle.std.specs.List.{All, AllByRecursion}
use Rattle.nq_replay.proofs.FirstRuns.{first-tells}
use Rattle.nq_replay.specs.Versions.{IsOfFirst}
use Rattle.nq_base.specs.Plain.{plain}
use Rattle.nq_base.specs.declared.Call.{Call}
use Rattle.nq_base.specs.declared.Entry.{Entry}
use Rattle.nq_base.specs.declared.Event.{Event}
use Rattle.nq_base.specs.declared.Told.{Told}
use Rattle.nq_script.specs.Forms.{HasTold}
use Rattle.nq_journal.specs.Text.{Has}
use Rattle.law_runs.proofs.Tallies.{each-reverse}
use Rattle.nq_base.specs.Calls.{told}
use Rattle.nq_model.specs.laws.Journal.{Each}
use Rattle.nq_model.specs.protocol.Kept.{Kept}
use Rattle.nq_model.specs.protocol.Stepped.{most_events, stepped}
use Rattle.nq_model.specs.protocol.World.{run}
use Rattle.nq_replay.proofs.Keeping.{Keeps, ends-answered}
use Rattle.nq_replay.proofs.Lawfully.{played-runs-are-lawful}
use Rattle.nq_replay.proofs.RulesKeeping.{keeps-lines}
use Rattle.nq_replay.specs.AsidesGoing.{Comes, RanTo}
use Rattle.nq_replay.specs.AsidesPlaying.{Ended, ran, stopped}
use Rattle.nq_replay.specs.Playing.{beginning, plain_rules, play}
use Rattle.nq_replay.specs.Rules.{play_event, play_plainly}
use Rattle.nq_replay.specs.declared.play.played.Played.{Played}
use Rattle.nq_replay.specs.Schedules.{IsReady}
use Rattle.nq_script.specs.Calls.{HasCall}
use Rattle.nq_replay.specs.Texts.{IsTellable}
use Rattle.nq_script.specs.Lines.{HasEvent}
use Rattle.nq_script.specs.Schedule.{SpellsSchedule}
use Rattle.nq_script.specs.declared.heads.Head.{Head}
use Rattle.nq_script.specs.declared.lines.Line.{Line}
use Rattle.nq_script.specs.declared.scripts.Script.{Script}
use Rattle.nq_world.specs.Playing.{Plays, WorldOver}

-- ---- the events of a schedule of version 1

abbrev AreOfFirst : List Event → Type 0
AreOfFirst events = AllByRecursion IsOfFirst events

call_of_first : (version : ℕ) (op : Call) → version ≡ 1 → HasCall version op → HasTold 1 (told op)
call_of_first version (Call.Resize file blocks) is has = sym is ∙ has
call_of_first version (Call.Remove file) is has = sym is ∙ has
call_of_first version (Call.Create name blocks) is has = tt
call_of_first version (Call.Lookup name) is has = tt
call_of_first version (Call.Attr file) is has = tt
call_of_first version (Call.Read file block) is has = tt
call_of_first version (Call.Fetch file block) is has = tt
call_of_first version (Call.Write file block body) is has = tt
call_of_first version (Call.Put file block body) is has = tt
call_of_first version (Call.Sync file) is has = tt

boot_of_first : (version longest : ℕ) → version ≡ 1 → ((version ≡ 1) × (longest ≡ 60)) ⊎ ((version ≡ 2) × (5 ≤ longest)) → longest ≡ 60
boot_of_first version longest is (inl first) = first.1
boot_of_first version longest is (inr second) = let two = second.0 in omega arith

of_first : (version : ℕ) (event : Event) → version ≡ 1 → HasEvent version event → IsOfFirst event
of_first version (Event.Call host op) is has = call_of_first version op is has
of_first version (Event.Crash longest) is has = boot_of_first version longest is has
of_first version (Event.Deliver packet) is has = tt
of_first version Event.ServerTick is has = tt
of_first version (Event.ClientTick host) is has = tt
of_first version (Event.Restart host) is has = tt

keeps_event : (head : Head) → head.version ≡ 1 → (event : Event) → IsTellable head event → Keeps AreOfFirst (play_plainly plain_rules (beginning head) event)
unfolding play_event
keeps_event head first event told events so =
    ends-answered AreOfFirst (event ∷ events) (stepped (beginning head) events event) (λ done. (of_first head.version event first told.1, so))

events_of_first : (head : Head) → head.version ≡ 1 → (lines : List Line) (text : List ℕ) (events : List Event) → SpellsSchedule head lines text
    → play head lines ≡ ran events → AreOfFirst events
unfolding play
events_of_first head first lines text events spelled is =
    keeps-lines plain_rules head AreOfFirst (keeps_event head first) (λ aside events so. so) (most_events + 1) _ [] lines spelled.1.1.0 [] events
    spelled.1.1.1 tt is

-- ---- the entries of its journal

second_call : (told : Told) → HasTold 2 told
second_call (Told.Resize file blocks) = refl
second_call (Told.Remove file) = refl
second_call other = tt

second_has : (entry : Entry) → Has 2 entry
second_has (Entry.C who q told) = second_call told
second_has (Entry.Z who q file from to) = refl
second_has (Entry.X boot now longest) = inl refl
second_has other = tt

all_second : (entries : List Entry) → Each (Has 2) entries
all_second [] = tt
all_second (entry ∷ entries) = (second_has entry, all_second entries)

run_has : (head : Head) (lines : List Line) (text : List ℕ) (events : List Event) → SpellsSchedule head lines text → play head lines ≡ ran events
    → Each (Has head.version) (run (beginning head) events).journal
run_has head lines text events spelled is = by spelled.1.0.settings.known
  where
    journal : List Entry
    journal = (run (beginning head) events).journal

    by : (head.version ≡ 1) ⊎ (head.version ≡ 2) → Each (Has head.version) journal
    by (inl first) =
        let lawful = played-runs-are-lawful head lines text events spelled is in
        subst (λ v. Each (Has v) journal) (sym first)
        (first-tells head.longest (beginning head) events lawful.bounds lawful.skew (spelled.1.0.settings.fit_longest.2 first)
        (events_of_first head first lines text events spelled is))
    by (inr second) = subst (λ v. Each (Has v) journal) (sym second) (all_second journal)

-- the room in an entry does not matter
plain_has : (version : ℕ) (entry : Entry) → Has version (plain entry) → Has version entry
plain_has version (Entry.A who q said) has = tt
plain_has version other has = has

all_plain : (version : ℕ) (entries : List Entry) → Each (Has version) (map plain entries) → All (Has version) entries
all_plain version [] each = All-nil (Has version)
all_plain version (entry ∷ entries) each = All-cons (Has version) entry entries (plain_has version entry each.0) (all_plain version entries each.1)

ran_has : {K : Type 0} (script : Script) (w : WorldOver K) (told : Option Kept)
    (due : Ended (List Event)) → IsReady script → play script.head script.lines ≡ due
    → RanTo due (λ events. Plays (beginning script.head) events w told) → All (Has script.head.version) w.entries
ran_has script w told (ran events) ready is plays =
    let each = each-reverse (Has script.head.version) (run (beginning script.head) events).journal (run_has script.head script.lines ready.text events
    ready.spelled is) in
    all_plain script.head.version w.entries (subst (Each (Has script.head.version)) (sym plays.shown.shows.entries) each)
ran_has script w told (stopped line answer) ready is plays = absurd plays

-- a schedule that was played to its end has a journal of its version
pub played_has : {K : Type 0} (script : Script) (played : Played) (w : WorldOver K) (told : Option Kept) → IsReady script
    → Comes played (play script.head script.lines) (λ events. Plays (beginning script.head) events w told) → played ≡ Played.All
    → All (Has script.head.version) w.entries
played_has script Played.All w told ready comes is = ran_has script w told (play script.head script.lines) ready refl comes
played_has script (Played.Stopped line answer) w told ready comes is = absurd (cc)
