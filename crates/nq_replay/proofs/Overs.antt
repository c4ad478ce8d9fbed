-- What playing a schedule over a keeper comes to, which may fail.
use Rattle.std.proofs.Common.{◌≡◌, inl, inr, ℕ, List, Option, subst}
use Rattle.nq_base.specs.declared.Entry.{Entry}
use Rattle.nq_base.specs.declared.Event.{Event}
use Rattle.nq_base.specs.declared.ending.ending.Ending.{Ending}
use Rattle.nq_model.specs.protocol.Kept.{Kept}
use Rattle.nq_replay.specs.AsidesGoing.{Comes, RanTo}
use Rattle.nq_replay.specs.AsidesPlaying.{Ended, ran, stopped}
use Rattle.nq_replay.specs.Playing.{beginning}
use Rattle.nq_replay.specs.declared.play.played.Played.{Played}
use Rattle.nq_replay.proofs.Outcomes.{stop_ends}
use Rattle.nq_replay.specs.Ending.{CountsKeeper}
use Rattle.nq_replay.specs.Schedules.{EndsOver, KeepsPlayed, PrintsEntries, TellsStop, TellsWhy}
use Rattle.nq_script.specs.declared.heads.Head.{Head}
use Rattle.nq_world.specs.Playing.{CountsFaults, Plays, WorldOver}
use Rattle.nq_world.specs.declared.stepped.Stepped.{Stepped}

-- ---- where it was played to its end

pub keeps_run : {K : Type 0} (head : Head) (due : Ended (List Event)) (w : WorldOver K) (told : Option Kept) → RanTo due
    (λ events. Plays (beginning head) events w
    told) → KeepsPlayed head due told
keeps_run head (ran events) w told plays = plays.keeps
keeps_run head (stopped line answer) w told plays = absurd plays

pub entries_count : (end : Ending) (version : ℕ) (entries : List Entry) (held now : Option (List ℕ)) (w w' before count : ℕ)
    → PrintsEntries end version entries held now w w' → count ≡ before → CountsKeeper end before count
entries_count Ending.Done version entries held now w w' before count prints same = same
entries_count Ending.WriteFault version entries held now w w' before count prints same = same
entries_count Ending.Memory version entries held now w w' before count prints same = same
entries_count other version entries held now w w' before count prints same = absurd prints

-- ---- where it stopped

-- what was said last is no `Done`
pub not_last : (line : ℕ) (answer : Stepped) → (answer ≡ Stepped.Done → Played.Stopped line answer ≡ Played.All) → answer ≡ Stepped.Done → ⊥
not_last line answer stops done = let whole : Played.Stopped line answer ≡ Played.All = stops done in absurd (cc)

pub why_ends : (end : Ending) (head : Head) (line : ℕ) (answer : Stepped) (due : Ended (List Event)) (P : List Event → Type 0) (held now : Option (List ℕ))
    (w w' : ℕ) → Comes (Played.Stopped line answer) due P → TellsWhy end line answer held now w w' → EndsOver end head due held now w w'
why_ends end head line Stepped.Fault due P held now w w' comes tells = inr tells
why_ends end head line Stepped.Done due P held now w w' comes tells = inl (stop_ends end head line Stepped.Done due P held now w w' comes tells)
why_ends end head line Stepped.NoPacket due P held now w w' comes tells = inl (stop_ends end head line Stepped.NoPacket due P held now w w' comes tells)
why_ends end head line (Stepped.SkewBroken broken) due P held now w w' comes tells = inl (stop_ends end head line (Stepped.SkewBroken broken) due P
    held now w w' comes tells)
why_ends end head line (Stepped.Limit limit) due P held now w w' comes tells = inl (stop_ends end head line (Stepped.Limit limit) due P held now w w'
    comes tells)
why_ends end head line Stepped.Memory due P held now w w' comes tells = inl (stop_ends end head line Stepped.Memory due P held now w w' comes tells)

-- the end that tells an answer is none that prints a journal, and none for a fault of the keeper
pub stop_counts : (end : Ending) (line : ℕ) (answer : Stepped) (held now : Option (List ℕ)) (w w' before count : ℕ) → count ≡ before
    → TellsStop end line answer held now w w' → CountsKeeper end before count
stop_counts Ending.Memory line answer held now w w' before count same tells = same
stop_counts Ending.Script line answer held now w w' before count same tells = same
stop_counts Ending.Skew line answer held now w w' before count same tells = same
stop_counts Ending.Limit line answer held now w w' before count same tells = same
stop_counts other line answer held now w w' before count same tells = absurd tells

pub why_counts : (end : Ending) (line : ℕ) (answer : Stepped) (held now : Option (List ℕ)) (w w' before count : ℕ) → CountsFaults answer before count
    → TellsWhy end line answer held now w w' → CountsKeeper end before count
why_counts end line Stepped.Fault held now w w' before count counts tells = rw tells.0 counts
why_counts end line Stepped.Done held now w w' before count counts tells = stop_counts end line Stepped.Done held now w w' before count counts tells
why_counts end line Stepped.NoPacket held now w w' before count counts tells = stop_counts end line Stepped.NoPacket held now w w' before count counts tells
why_counts end line (Stepped.SkewBroken broken) held now w w' before count counts tells = stop_counts end line (Stepped.SkewBroken broken) held now w
    w' before count counts tells
why_counts end line (Stepped.Limit limit) held now w w' before count counts tells = stop_counts end line (Stepped.Limit limit) held now w w' before
    count counts tells
why_counts end line Stepped.Memory held now w w' before count counts tells = stop_counts end line Stepped.Memory held now w w' before count counts tells

pub stop_never : (line : ℕ) (answer : Stepped) (held now : Option (List ℕ)) (w w' : ℕ) → TellsStop Ending.Done line answer held now w w' → ⊥
stop_never line answer held now w w' tells = tells

never_why : (line : ℕ) (answer : Stepped) (held now : Option (List ℕ)) (w w' : ℕ) → TellsWhy Ending.Done line answer held now w w' → ⊥
never_why line Stepped.Fault held now w w' tells = let is = tells.0 in absurd (cc)
never_why line Stepped.Done held now w w' tells = stop_never line Stepped.Done held now w w' tells
never_why line Stepped.NoPacket held now w w' tells = stop_never line Stepped.NoPacket held now w w' tells
never_why line (Stepped.SkewBroken broken) held now w w' tells = stop_never line (Stepped.SkewBroken broken) held now w w' tells
never_why line (Stepped.Limit limit) held now w w' tells = stop_never line (Stepped.Limit limit) held now w w' tells
never_why line Stepped.Memory held now w w' tells = stop_never line Stepped.Memory held now w w' tells

pub why_never : (end : Ending) (line : ℕ) (answer : Stepped) (held now : Option (List ℕ)) (w w' : ℕ) → end ≡ Ending.Done → TellsWhy end line answer
    held now w w' → ⊥
why_never end line answer held now w w' done tells = never_why line answer held now w w' (subst (λ e. TellsWhy e line answer held now w w') done tells)
