-- What a schedule tells of its events.
use Rattle.std.proofs.Common.{◌≡◌, ℕ, zero, suc, List, [], ◌∷◌, Some, subst}
use Rattle.std.specs.List.{AllByRecursion}
use Rattle.std.specs.Prelude.{slice_get}
use Rattle.nq_observe.specs.Told.{TellsEvent}
use Rattle.nq_script.specs.Lines.{SpellsLine}
use Rattle.nq_script.specs.Schedule.{SpellsLines, SpellsSchedule}
use Rattle.nq_script.specs.declared.heads.Head.{Head}
use Rattle.nq_script.specs.declared.lines.Line.{Line}

-- what holds of all holds of the one at a place
pub each_at : {X : Type 0} (P : X → Type 0) (xs : List X) (place : ℕ) (x : X) → AllByRecursion P xs → slice_get xs place ≡ Some x → P x
each_at P [] place x all here = absurd (cc)
each_at P (y ∷ xs) zero x all here = let same : y ≡ x = cc in subst P same all.0
each_at P (y ∷ xs) (suc place) x all here = each_at P xs place x all.1 here

tells_line : (head : Head) (line : Line) (text : List ℕ) → SpellsLine head line text → TellsEvent head line
tells_line head (Line.Events event times) text spelled = (spelled.0, spelled.1.0)
tells_line head (Line.Round times) text spelled = tt
tells_line head Line.Flow text spelled = tt
tells_line head Line.End text spelled = tt

tells_lines : (head : Head) (lines : List Line) (texts : List (List ℕ)) → SpellsLines head lines texts → AllByRecursion (TellsEvent head) lines
tells_lines head [] texts spelled = tt
tells_lines head (line ∷ lines) [] spelled = absurd spelled
tells_lines head (line ∷ lines) (text ∷ texts) spelled = (tells_line head line text spelled.1, tells_lines head lines texts spelled.2)

-- a schedule can tell the events that its lines name
pub tells_all : (head : Head) (lines : List Line) (text : List ℕ) → SpellsSchedule head lines text → AllByRecursion (TellsEvent head) lines
tells_all head lines text spelled = tells_lines head lines spelled.1.1.0 spelled.1.1.1
