-- Words behind a blank.
use Rattle.std.proofs.Common.{◌≡◌, ◌∷◌, refl}
use Rattle.std.specs.List.{flat_map}
use Rattle.nq_base.specs.declared.Said.{Said}
use Rattle.nq_base.specs.declared.Told.{Told}
use Rattle.nq_script.specs.Forms.{told_words, said_words}
use Rattle.nq_script.specs.Words.{spaced, joined}

-- the words of a call, each behind a blank, are its text behind a blank
pub told_blank : (told : Told) → flat_map spaced (told_words told) ≡ 32 ∷ joined (told_words told)
unfolding joined
told_blank (Told.Create name blocks) = refl
told_blank (Told.Lookup name) = refl
told_blank (Told.Attr file) = refl
told_blank (Told.Read file block) = refl
told_blank (Told.Fetch file block) = refl
told_blank (Told.Write file block value) = refl
told_blank (Told.Put file block value) = refl
told_blank (Told.Sync file) = refl
told_blank (Told.Resize file blocks) = refl
told_blank (Told.Remove file) = refl

-- the words of an answer, each behind a blank, are its text behind a blank
pub said_blank : (said : Said) → flat_map spaced (said_words said) ≡ 32 ∷ joined (said_words said)
unfolding joined
said_blank Said.Ok = refl
said_blank (Said.OkValue value) = refl
said_blank (Said.OkBy value packet) = refl
said_blank (Said.Lost spans) = refl
said_blank Said.Busy = refl
said_blank Said.Stale = refl
said_blank Said.NoEntry = refl
said_blank Said.Exists = refl
said_blank Said.NoSpace = refl
said_blank Said.Range = refl
said_blank Said.DirtyFull = refl
