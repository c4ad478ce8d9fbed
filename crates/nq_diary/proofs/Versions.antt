-- Version 2 of the text of a journal has each entry.
use Rattle.std.proofs.Common.{inl, List, [], ◌∷◌, refl}
use Rattle.std.proofs.lemmas.List.Elements.{All-nil, All-cons}
use Rattle.std.specs.List.{All}
use Rattle.nq_base.specs.declared.Entry.{Entry}
use Rattle.nq_base.specs.declared.Told.{Told}
use Rattle.nq_journal.specs.Text.{Has}
use Rattle.nq_script.specs.Forms.{HasTold}

second-told : (told : Told) → HasTold 2 told
second-told (Told.Resize file blocks) = refl
second-told (Told.Remove file) = refl
second-told other = tt

second : (entry : Entry) → Has 2 entry
second (Entry.C who q told) = second-told told
second (Entry.Z who q file from to) = refl
second (Entry.X boot now longest) = inl refl
second other = tt

-- version 2 has all of these entries
pub all_second : (entries : List Entry) → All (Has 2) entries
all_second [] = All-nil (Has 2)
all_second (entry ∷ entries) = All-cons (Has 2) entry entries (second entry) (all_second entries)
