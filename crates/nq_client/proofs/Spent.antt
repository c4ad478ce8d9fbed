-- A silent step whose request under way changes.
use Rattle.std.proofs.Common.{◌≡◌, ◌++◌, ℕ, Bool, true, false, List, [], Option, Some, None, refl, sym, ap, ◌∙◌}
use Rattle.nq_client.specs.Step.{request_message, step_of, vacated_message}
use Rattle.nq_client.specs.declared.step.Step.{Step}
use Rattle.nq_model.specs.protocol.Client.{ClientStep, Ticket}
use Rattle.nq_model.specs.protocol.Hear.{cancelled, cancels, spends}
use Rattle.nq_model.specs.protocol.Message.{Message}

-- a silent step sends no request
pub silent : (o : Option Ticket) → request_message false o ≡ []
silent None = refl
silent (Some t) = refl

unasked : (b : Bool) (o p : Option Ticket) → b ≡ false → request_message b o ≡ request_message b p
unasked true o p e = absurd cc
unasked false o p e = silent o ∙ sym (silent p)

abbrev with_sends : ClientStep → List Message → ClientStep
with_sends t ms = record t { sends = ms }

-- where the request was taken out it is spent
pub taken_out : (s : Step) → s.asks ≡ false → step_of (record s { state = record s.state { asked = None } }) ≡ spends (step_of s)
unfolding spends
taken_out s e =
    ap (λ (ms : List Message). with_sends (spends (step_of s)) (vacated_message s.state.who s.vacated ++ ms)) (unasked s.asks None s.state.asked e)

-- where the request was given up if it wants a lease on the file it is cancelled
pub given_up : (s : Step) (file : ℕ) (o : Option Ticket) → o ≡ cancelled file s.state.asked → s.asks ≡ false
    → step_of (record s { state = record s.state { asked = o } }) ≡ cancels (step_of s) file
unfolding cancels
given_up s file o is e =
    ap (λ (x : Option Ticket). step_of (record s { state = record s.state { asked = x } })) is
    ∙ ap (λ (ms : List Message). with_sends (cancels (step_of s) file) (vacated_message s.state.who s.vacated ++ ms))
    (unasked s.asks (cancelled file s.state.asked) s.state.asked e)
