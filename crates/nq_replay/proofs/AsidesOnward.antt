-- One thing after another.
use Rattle.std.proofs.Common.{◌≡◌, ℕ, ◌+◌, ◌-◌, ◌<◌, ◌≤◌, List, [], ◌∷◌, drop, length, slice_get, Some, zero, suc, refl, sym, subst, arith}
use Rattle.nq_replay.specs.AsidesGoing.{Comes, Goes, RanTo, StoppedAt, WasRefused, WentTo}
use Rattle.nq_replay.specs.AsidesPlaying.{Ended, Played as Due, and_then, at_line, play_each, ran, refused, repeated, took}
use Rattle.nq_replay.specs.declared.play.played.Played.{Played}
use Rattle.nq_world.specs.declared.Stepped.{Stepped}

-- what playing has come to: this holds of it, and what is left to be played behind it leads to what is due
pub record IsOn {S D : Type 0} (P : S → Type 0) (rest : S → D) (due : D) : Type 0 where
  pub reached : S
  pub here : P reached
  pub same : rest reached ≡ due

-- ---- all went well

went-on : {S : Type 0} (first : Due S) (next : S → Due S) (P : S → Type 0) (due : Due S) → WentTo first P → and_then first next ≡ due → IsOn P next due
went-on (took reached) next P due here same = record { reached = reached; here = here; same = same }
went-on (refused answer) next P due here same = absurd here

pub goes-on : {S : Type 0} (first : Due S) (next : S → Due S) (P : S → Type 0) (due : Due S) → Goes Stepped.Done first P → and_then first next ≡ due
    → IsOn P next due
goes-on first next P due here same = went-on first next P due here same

pub done-here : {S : Type 0} (P : S → Type 0) (reached : S) (due : Due S) → P reached → took reached ≡ due → Goes Stepped.Done due P
done-here P reached due here same = subst (λ d. WentTo d P) same here

pub goes-same : {S : Type 0} (said : Stepped) (first due : Due S) (P : S → Type 0) → first ≡ due → Goes said first P → Goes said due P
goes-same said first due P same goes = subst (λ d. Goes said d P) same goes

-- what is played once
pub then-took : {S : Type 0} (first : Due S) (play : S → Due S) → and_then first (repeated 0 play) ≡ first
then-took (took reached) play = refl
then-took (refused answer) play = refl

-- ---- it stopped

refused-then : {S : Type 0} (first : Due S) (next : S → Due S) (said : Stepped) → WasRefused first said → WasRefused (and_then first next) said
refused-then (took reached) next said is = absurd is
refused-then (refused answer) next said is = is

stops-then : {S : Type 0} (first : Due S) (next : S → Due S) (said : Stepped) (P Q : S → Type 0) → Goes said first P → (said ≡ Stepped.Done → ⊥)
    → Goes said (and_then first next) Q
stops-then first next Stepped.Done P Q is other = absurd (other refl)
stops-then first next Stepped.NoPacket P Q is other = refused-then first next Stepped.NoPacket is
stops-then first next (Stepped.SkewBroken broken) P Q is other = refused-then first next (Stepped.SkewBroken broken) is
stops-then first next (Stepped.Limit limit) P Q is other = refused-then first next (Stepped.Limit limit) is
stops-then first next Stepped.Fault P Q is other = tt
stops-then first next Stepped.Memory P Q is other = tt

pub stops-here : {S : Type 0} (first : Due S) (next : S → Due S) (said : Stepped) (P Q : S → Type 0) (due : Due S) → Goes said first P
    → (said ≡ Stepped.Done → ⊥) → and_then first next ≡ due → Goes said due Q
stops-here first next said P Q due is other same = subst (λ d. Goes said d Q) same (stops-then first next said P Q is other)

-- ---- lines

went-line : {S : Type 0} (line : ℕ) (first : Due S) (next : S → Ended S) (P : S → Type 0) (due : Ended S) → WentTo first P → at_line line first next ≡ due
    → IsOn P next due
went-line line (took reached) next P due here same = record { reached = reached; here = here; same = same }
went-line line (refused answer) next P due here same = absurd here

pub line-on : {S : Type 0} (line : ℕ) (first : Due S) (next : S → Ended S) (P : S → Type 0) (due : Ended S) → Goes Stepped.Done first P
    → at_line line first next ≡ due → IsOn P next due
line-on line first next P due here same = went-line line first next P due here same

refused-line : {S : Type 0} (line number : ℕ) (first : Due S) (next : S → Ended S) (said : Stepped) → number ≡ line → WasRefused first said
    → StoppedAt (at_line line first next) number said
refused-line line number (took reached) next said n is = absurd is
refused-line line number (refused answer) next said n is = (n, is)

pub stops-line : {S : Type 0} (line number : ℕ) (first : Due S) (next : S → Ended S) (said : Stepped) (P Q : S → Type 0) → number ≡ line → Goes said first P
    → (said ≡ Stepped.Done → ⊥) → Comes (Played.Stopped number said) (at_line line first next) Q
stops-line line number first next Stepped.Done P Q n is other = absurd (other refl)
stops-line line number first next Stepped.NoPacket P Q n is other = refused-line line number first next Stepped.NoPacket n is
stops-line line number first next (Stepped.SkewBroken broken) P Q n is other = refused-line line number first next (Stepped.SkewBroken broken) n is
stops-line line number first next (Stepped.Limit limit) P Q n is other = refused-line line number first next (Stepped.Limit limit) n is
stops-line line number first next Stepped.Fault P Q n is other = tt
stops-line line number first next Stepped.Memory P Q n is other = tt

pub ran-here : {S : Type 0} (P : S → Type 0) (reached : S) (due : Ended S) → P reached → ran reached ≡ due → Comes Played.All due P
ran-here P reached due here same = subst (λ d. RanTo d P) same here

pub comes-here : {S : Type 0} (played stop : Played) (due first : Ended S) (P : S → Type 0) → played ≡ stop → first ≡ due → Comes stop first P
    → Comes played due P
comes-here played stop due first P is same comes = subst (λ d. Comes played d P) same (subst (λ p. Comes p first P) (sym is) comes)

-- ---- what is left to be played, one further

pub repeat-step : {S : Type 0} (times turn : ℕ) (play : S → Due S) (reached : S) (due : Due S) → turn < times → repeated (times - turn) play reached ≡ due
    → and_then (play reached) (repeated (times - (turn + 1)) play) ≡ due
repeat-step times turn play reached due below same =
    let further : times - turn ≡ suc (times - (turn + 1)) = omega arith in
    rw further at same

-- a line at a place, and those behind it
pub record IsThere {L : Type 0} (lines : List L) (place : ℕ) : Type 0 where
  pub line : L
  pub here : slice_get lines place ≡ Some line
  pub split : drop place lines ≡ line ∷ drop (place + 1) lines

pub is-there : {L : Type 0} (lines : List L) (place : ℕ) → place < length lines → IsThere lines place
is-there [] place below = absurd (omega arith)
is-there (line ∷ lines) zero below = record { line = line; here = refl; split = refl }
is-there (line ∷ lines) (suc place) below =
    let on = is-there lines place (omega arith) in
    let sum : suc place + 1 ≡ suc (place + 1) = omega arith in
    record { line = on.line; here = on.here; split = rw sum on.split }

pub lines-step : {L S : Type 0} (play : L → S → Due S) (first place : ℕ) (lines : List L) (line : L) (reached : S) (due : Ended S)
    → drop place lines ≡ line ∷ drop (place + 1) lines → play_each play (first + place) (drop place lines) reached ≡ due
    → at_line (first + place) (play line reached) (play_each play (first + (place + 1)) (drop (place + 1) lines)) ≡ due
lines-step play first place lines line reached due split same =
    let sum : first + (place + 1) ≡ first + place + 1 = omega arith in
    rw sum (rw split at same)

-- no line is left
drop-past : {L : Type 0} (lines : List L) (place : ℕ) → length lines ≤ place → drop place lines ≡ []
drop-past [] zero less = refl
drop-past [] (suc place) less = refl
drop-past (line ∷ lines) zero less = absurd (omega arith)
drop-past (line ∷ lines) (suc place) less = drop-past lines place (omega arith)

pub lines-end : {L S : Type 0} (play : L → S → Due S) (number place : ℕ) (lines : List L) (reached : S) (due : Ended S) → length lines ≤ place
    → play_each play number (drop place lines) reached ≡ due → ran reached ≡ due
lines-end play number place lines reached due past same = subst (λ ls. play_each play number ls reached ≡ due) (drop-past lines place past) same
