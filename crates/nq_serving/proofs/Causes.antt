-- What is told of why serving ends.
use Rattle.std.proofs.Common.{ℕ, List, Result, Ok, Err, Option}
use Rattle.nq_base.specs.declared.ending.ending.Ending.{Ending}
use Rattle.nq_base.specs.declared.ending.fault.Fault.{Fault}
use Rattle.nq_serving.specs.Running.{HaltsBy}
use Rattle.nq_serving.specs.Serving.{EndsBy, Tells, TellsTurns, turns_line}
use Rattle.nq_serving.specs.declared.turning.LinkPolicy.{LinkPolicy}
use Rattle.nq_model.specs.protocol.Kept.{Kept}

-- an end that is told has the cause of its turns, or the sink failed
pub ends_by : (ended : Result Unit Fault) (line : List ℕ) (result : Ending) (held now : Option (List ℕ)) (told : Option Kept) (keep keep' link link' w w' : ℕ)
    → TellsTurns ended line result held now w w' → HaltsBy LinkPolicy.Stop ended told keep keep' link link' → EndsBy result told keep keep' link link' w w'
ends_by (Ok tt) line Ending.Done held now told keep keep' link link' w w' t h = (h.0, h.1, h.2, t.1)
ends_by (Ok tt) line Ending.WriteFault held now told keep keep' link link' w w' t h = t.1
ends_by (Ok tt) line other held now told keep keep' link link' w w' t h = absurd t
ends_by (Err Fault.Link) line result held now told keep keep' link link' w w' t h = rw t.0 h
ends_by (Err Fault.Keep) line result held now told keep keep' link link' w w' t h = rw t.0 h
ends_by (Err Fault.Memory) line result held now told keep keep' link link' w w' t h = rw t.0 tt
ends_by (Err Fault.Spent) line result held now told keep keep' link link' w w' t h = rw t.0 h
ends_by (Err Fault.NoAnswer) line result held now told keep keep' link link' w w' t h = absurd h

-- what is told of turns that ended so
pub tells : (P : Result Unit Fault → Type 0) (ended : Result Unit Fault) (turns : ℕ) (result : Ending) (held now : Option (List ℕ)) (w w' : ℕ)
    → P ended → TellsTurns ended (turns_line turns) result held now w w' → Tells result turns P held now w w'
tells P (Ok tt) turns Ending.Done held now w w' so t = (so, t.0, t.1)
tells P (Ok tt) turns Ending.WriteFault held now w w' so t = (so, t.0, t.1)
tells P (Ok tt) turns other held now w w' so t = absurd t
tells P (Err Fault.Link) turns result held now w w' so t = rw t.0 (so, t.1, t.2)
tells P (Err Fault.Keep) turns result held now w w' so t = rw t.0 (so, t.1, t.2)
tells P (Err Fault.Memory) turns result held now w w' so t = rw t.0 (so, t.1, t.2)
tells P (Err Fault.Spent) turns result held now w w' so t = rw t.0 (so, t.1, t.2)
tells P (Err Fault.NoAnswer) turns result held now w w' so t = rw t.0 (so, t.1, t.2)
