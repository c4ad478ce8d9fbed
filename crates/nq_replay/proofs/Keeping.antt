-- What playing keeps.
use Rattle.std.proofs.Common.{◌≡◌, ℕ, Option, Some, None, zero, suc, refl}
use Rattle.nq_replay.specs.AsidesPlaying.{Played, and_then, answered, refused, repeated, took, with_packet}
use Rattle.nq_model.specs.protocol.Stepped.{Stepped, done, no_packet, out_of_skew, too_many_events, too_many_packets}

-- it holds of what playing has come to, if all went well
abbrev pub Ends : {S : Type 0} → (S → Type 0) → Played S → Type 0
Ends P (took reached) = P reached
Ends P (refused answer) = Unit {0}

-- playing keeps it
abbrev pub Keeps : {S : Type 0} → (S → Type 0) → (S → Played S) → Type 0
Keeps {S = S} P play = (reached : S) → P reached → Ends P (play reached)

pub ends-then : {S : Type 0} (P : S → Type 0) (played : Played S) (next : S → Played S) → Ends P played → Keeps P next → Ends P (and_then played next)
ends-then P (took reached) next here keeps = keeps reached here
ends-then P (refused answer) next here keeps = tt

pub keeps-repeated : {S : Type 0} (P : S → Type 0) (times : ℕ) (play : S → Played S) → Keeps P play → Keeps P (repeated times play)
keeps-repeated P zero play keeps reached here = here
keeps-repeated P (suc times) play keeps reached here =
    ends-then P (play reached) (repeated times play) (keeps reached here) (keeps-repeated P times play keeps)

pub ends-answered : {S : Type 0} (P : S → Type 0) (next : S) (answer : Stepped) → (answer ≡ done → P next) → Ends P (answered next answer)
ends-answered P next done here = here refl
ends-answered P next no_packet here = tt
ends-answered P next (out_of_skew broken) here = tt
ends-answered P next too_many_events here = tt
ends-answered P next too_many_packets here = tt

pub ends-packet : {S : Type 0} (P : S → Type 0) (packet : Option ℕ) (reached : S) (next : ℕ → Played S) → P reached → ((k : ℕ) → Ends P (next k))
    → Ends P (with_packet packet reached next)
ends-packet P None reached next here keeps = here
ends-packet P (Some k) reached next here keeps = keeps k
