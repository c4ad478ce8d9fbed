-- What playing does, beside what it is to do.
use Rattle.std.specs.Prelude.{◌≡◌, ℕ}
use Rattle.nq_replay.specs.AsidesPlaying.{Ended, Played as Due, ran, refused, stopped, took}
use Rattle.nq_replay.specs.declared.play.played.Played.{Played}
use Rattle.nq_world.specs.Answering.{told as answer_of}
use Rattle.nq_world.specs.declared.Stepped.{Stepped}

-- all went well, and this holds of what playing has come to
abbrev pub WentTo : {S : Type 0} → Due S → (S → Type 0) → Type 0
WentTo (took reached) P = P reached
WentTo (refused answer) P = ⊥

-- this is what was answered to the first event that was not taken
abbrev pub WasRefused : {S : Type 0} → Due S → Stepped → Type 0
WasRefused (took reached) said = ⊥
WasRefused (refused answer) said = answer_of answer ≡ said

-- what a world said is what it is to say; a fault of the keeper, or want of memory, may come in its place. Where all went well,
-- this holds of what playing has come to
abbrev pub Goes : {S : Type 0} → Stepped → Due S → (S → Type 0) → Type 0
Goes Stepped.Done due P = WentTo due P
Goes Stepped.Fault due P = Unit {0}
Goes Stepped.Memory due P = Unit {0}
Goes said due P = WasRefused due said

-- all lines were played, and this holds of what that has come to
abbrev pub RanTo : {S : Type 0} → Ended S → (S → Type 0) → Type 0
RanTo (ran reached) P = P reached
RanTo (stopped line answer) P = ⊥

-- the first event that was not taken is of this line, and this was answered to it
abbrev pub StoppedAt : {S : Type 0} → Ended S → (line : ℕ) → Stepped → Type 0
StoppedAt (ran reached) line said = ⊥
StoppedAt (stopped number answer) line said = (line ≡ number) × (answer_of answer ≡ said)

-- the same of all lines
abbrev pub Comes : {S : Type 0} → Played → Ended S → (S → Type 0) → Type 0
Comes Played.All due P = RanTo due P
Comes (Played.Stopped line Stepped.Done) due P = ⊥
Comes (Played.Stopped line Stepped.Fault) due P = Unit {0}
Comes (Played.Stopped line Stepped.Memory) due P = Unit {0}
Comes (Played.Stopped line said) due P = StoppedAt due line said
