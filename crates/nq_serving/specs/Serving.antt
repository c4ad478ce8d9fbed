-- What serving for a number of turns tells. Below, `w` and `w'` are the counts of the sink's faults before and behind it.
use Rattle.std.specs.Fmt.{decimal}
use Rattle.std.specs.Option.{ForSome}
use Rattle.std.specs.Prelude.{◌≡◌, ⊤, ◌<◌, ℕ, List, ◌++◌, Option, Result, Ok, Err, codes}
use Rattle.nq_keeper.specs.Booting.{last_boot}
use Rattle.nq_base.specs.declared.ending.ending.Ending.{Ending}
use Rattle.nq_base.specs.declared.ending.fault.Fault.{Fault}
use Rattle.nq_io.specs.Faults.{Rose}
use Rattle.nq_io.specs.Sink.{AppendsFront}
use Rattle.nq_io.specs.Told.{with_end}
use Rattle.nq_model.specs.protocol.Kept.{Kept}

-- the line that tells how many turns were taken
unfoldable pub turns_line : (turns : ℕ) → List ℕ
turns_line turns = codes "turns " ++ decimal turns ++ codes "\n"

-- Why serving ended so. Where no count of faults rose and memory was not wanting, all turns were taken; or the keeper keeps the last number
-- that a boot can have, and none was.
abbrev pub EndsBy : Ending → (told : Option Kept) → (keep keep' link link' w w' : ℕ) → Type 0
EndsBy Ending.Done told keep keep' link link' w w' =
    ForSome told (λ kept. kept.boot < last_boot) × (keep' ≡ keep) × (link' ≡ link) × (w' ≡ w)
EndsBy Ending.Spent told keep keep' link link' w w' = ForSome told (λ kept. kept.boot ≡ last_boot)
EndsBy Ending.Memory told keep keep' link link' w w' = ⊤
EndsBy Ending.KeepFault told keep keep' link link' w w' = Rose keep keep'
EndsBy Ending.LinkFault told keep keep' link link' w w' = Rose link link'
EndsBy Ending.WriteFault told keep keep' link link' w w' = Rose w w'
EndsBy other told keep keep' link link' w w' = ⊥

-- what was printed, by the end of serving: the line only behind all turns. `P` says what was done when turns ended so
abbrev pub Tells : Ending → (turns : ℕ) → (P : Result Unit Fault → Type 0) → (held now : Option (List ℕ)) → (w w' : ℕ) → Type 0
Tells Ending.Done turns P held now w w' = P (Ok tt) × (now ≡ with_end held (turns_line turns)) × (w' ≡ w)
Tells Ending.WriteFault turns P held now w w' = P (Ok tt) × AppendsFront (turns_line turns) held now × Rose w w'
Tells Ending.KeepFault turns P held now w w' = P (Err Fault.Keep) × (now ≡ held) × (w' ≡ w)
Tells Ending.Memory turns P held now w w' = P (Err Fault.Memory) × (now ≡ held) × (w' ≡ w)
Tells Ending.LinkFault turns P held now w w' = P (Err Fault.Link) × (now ≡ held) × (w' ≡ w)
Tells Ending.Spent turns P held now w w' = P (Err Fault.Spent) × (now ≡ held) × (w' ≡ w)
Tells Ending.NoAnswer turns P held now w w' = P (Err Fault.NoAnswer) × (now ≡ held) × (w' ≡ w)
Tells other turns P held now w w' = ⊥

-- what printing a line behind all turns did, by the end
abbrev pub PrintsTurns : Ending → (line : List ℕ) → (held now : Option (List ℕ)) → (w w' : ℕ) → Type 0
PrintsTurns Ending.Done line held now w w' = (now ≡ with_end held line) × (w' ≡ w)
PrintsTurns Ending.WriteFault line held now w w' = AppendsFront line held now × Rose w w'
PrintsTurns other line held now w w' = ⊥

-- the end where turns stopped so
abbrev pub end_of : Fault → Ending
end_of Fault.Link = Ending.LinkFault
end_of Fault.Keep = Ending.KeepFault
end_of Fault.Memory = Ending.Memory
end_of Fault.Spent = Ending.Spent
end_of Fault.NoAnswer = Ending.NoAnswer

-- what telling how turns ended did, by the end: the line was printed, or nothing where they stopped
abbrev pub TellsTurns : Result Unit Fault → (line : List ℕ) → Ending → (held now : Option (List ℕ)) → (w w' : ℕ) → Type 0
TellsTurns (Ok done) line result held now w w' = PrintsTurns result line held now w w'
TellsTurns (Err why) line result held now w w' = (result ≡ end_of why) × (now ≡ held) × (w' ≡ w)
