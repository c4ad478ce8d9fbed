-- A schedule that was read can be played over a world.
use Rattle.std.proofs.Common.{◌≡◌, ◌⊎◌, inl, inr, ℕ, ◌+◌, ◌<◌, ◌≤◌, ◌^◌, List, [], ◌∷◌, ◌++◌, length, arith, length-append}
use Rattle.std.specs.Prelude.{codes}
use Rattle.nq_base.specs.declared.Event.{Event}
use Rattle.nq_model.specs.protocol.Profile.{shortest_term}
use Rattle.nq_replay.specs.Going.{AreForWorld, IsForWorld}
use Rattle.nq_replay.specs.Schedules.{IsReady}
use Rattle.nq_script.specs.Heads.{head_lines}
use Rattle.nq_script.specs.Lines.{Allows, HasEvent, SpellsLine}
use Rattle.nq_script.specs.Schedule.{SpellsLines}
use Rattle.nq_script.specs.Text.{text_of}
use Rattle.nq_script.specs.declared.heads.Head.{Head}
use Rattle.nq_script.specs.declared.lines.Line.{Line}
use Rattle.nq_script.specs.declared.scripts.Script.{Script}
use Rattle.nq_world.specs.Playing.{CanCome, HasSettings, WorldOver}

-- ---- the events

boots : (version term longest : ℕ) → ((version ≡ 1) × (term ≡ 60)) ⊎ ((version ≡ 2) × (5 ≤ term)) → term ≤ longest → (shortest_term ≤ term) × (term ≤ longest)
boots version term longest (inl first) allowed = (let is = first.1 in omega arith, allowed)
boots version term longest (inr second) allowed = (second.1, allowed)

can_come : (head : Head) (event : Event) → Allows head event → HasEvent head.version event → CanCome head.hosts head.longest event
can_come head (Event.Call host op) allowed has = allowed
can_come head (Event.Deliver k) allowed has = tt
can_come head Event.ServerTick allowed has = tt
can_come head (Event.ClientTick host) allowed has = allowed
can_come head (Event.Restart host) allowed has = allowed
can_come head (Event.Crash term) allowed has = boots head.version term head.longest has allowed

is_for : (head : Head) (line : Line) (text : List ℕ) → SpellsLine head line text → IsForWorld head.hosts head.longest line
is_for head (Line.Events event times) text spelled = can_come head event spelled.0 spelled.1.0
is_for head (Line.Round times) text spelled = tt
is_for head Line.Flow text spelled = tt
is_for head Line.End text spelled = tt

are_for : (head : Head) (lines : List Line) (texts : List (List ℕ)) → SpellsLines head lines texts → AreForWorld head.hosts head.longest lines
are_for head [] texts spelled = tt
are_for head (line ∷ lines) [] spelled = absurd spelled
are_for head (line ∷ lines) (text ∷ texts) spelled = (is_for head line text spelled.1, are_for head lines texts spelled.2)

pub are_for_world : {K : Type 0} (script : Script) (w : WorldOver K) → IsReady script → HasSettings script.head.hosts script.head.longest
    script.head.term w → AreForWorld (length w.clients) w.skew.window script.lines
are_for_world script w ready has =
    rw (has.hosts_are, has.longest_is) (are_for script.head script.lines ready.spelled.1.1.0 ready.spelled.1.1.1)

-- ---- the numbers of lines

as_many : (head : Head) (lines : List Line) (texts : List (List ℕ)) → SpellsLines head lines texts → length texts ≡ length lines
as_many head [] [] spelled = omega arith
as_many head [] (text ∷ texts) spelled = absurd spelled
as_many head (line ∷ lines) [] spelled = absurd spelled
as_many head (line ∷ lines) (text ∷ texts) spelled = let rest : length texts ≡ length lines = as_many head lines texts spelled.2 in omega arith

longer : (lines : List (List ℕ)) → length lines ≤ length (text_of lines)
longer [] = omega arith
longer (line ∷ lines) =
    let rest : length lines ≤ length (text_of lines) = longer lines in
    let both : length (line ++ 10 ∷ text_of lines) ≡ length line + length (10 ∷ text_of lines) = length-append line (10 ∷ text_of lines) in
    omega arith

few : (front lines text : ℕ) (texts whole first : ℕ) → whole ≡ front + (texts + 1) → texts ≡ lines → whole ≤ text → text < 2 ^ 31 → first ≡ front + 1
    → first + lines < 2 ^ 32
few front lines text texts whole first w t l s f = omega arith

whole_length : (front texts : List (List ℕ)) (last : List ℕ) → length (front ++ (texts ++ last ∷ [])) ≡ length front + (length texts + 1)
whole_length front texts last =
    let outer : length (front ++ (texts ++ last ∷ [])) ≡ length front + length (texts ++ last ∷ []) = length-append front (texts ++ last ∷ []) in
    let inner : length (texts ++ last ∷ []) ≡ length texts + 1 = length-append texts (last ∷ []) in
    omega arith

few_in : (script : Script) (whole texts : List (List ℕ)) (text : List ℕ) → SpellsLines script.head script.lines texts → whole ≡ head_lines script.head
    ++ (texts ++ codes "end" ∷ []) → text ≡ text_of whole → length text < 2 ^ 31 → script.first ≡ length (head_lines script.head) + 1 → script.first
    + length script.lines < 2 ^ 32
few_in script whole texts text spelled is spells short first =
    let size : length whole ≡ length (head_lines script.head) + (length texts + 1) = rw is (whole_length (head_lines script.head) texts (codes "end")) in
    let text_long : length whole ≤ length text = rw spells (longer whole) in
    few (length (head_lines script.head)) (length script.lines) (length text) (length texts) (length whole) script.first size
    (as_many script.head script.lines texts spelled) text_long short first

pub few_lines : (script : Script) → IsReady script → script.first + length script.lines < 2 ^ 32
few_lines script ready =
    few_in script ready.spelled.0 ready.spelled.1.1.0 ready.text ready.spelled.1.1.1 ready.spelled.1.1.2 ready.spelled.2 ready.short ready.first
