-- Replies and requests that are not of the kind that a step takes.
use Rattle.std.proofs.Common.{◌≡◌, ℕ, refl, ap}
use Rattle.nq_base.specs.declared.Refusal.{Refusal}
use Rattle.nq_base.specs.declared.Reply.{Reply}
use Rattle.nq_client.specs.Receiving.{answered}
use Rattle.nq_model.specs.protocol.Client.{ClientStep, Job, Ticket}
use Rattle.nq_model.specs.protocol.Hear.{done}

-- a reply that is no refusal
pub no_refusal : (t : ClientStep) (number : ℕ) (ticket : Ticket) (job : Job) (r : Reply) → job ≡ ticket.job
    → ((inc : ℕ) (status : Refusal) → r ≡ Reply.Refused inc status → ⊥) → done t number ticket job r ≡ answered t number ticket r
no_refusal t number ticket job (Reply.Refused inc status) e isnt = absurd (isnt inc status refl)
no_refusal t number ticket job other e isnt = ap (λ (j : Job). done t number ticket j other) e
