-- In every run there are as many clients as the head has hosts.
use Rattle.std.proofs.Common.{◌≡◌, ℕ, ◌+◌, zero, suc, List, [], ◌∷◌, length, refl, ap, ◌∙◌}
use Rattle.std.proofs.lemmas.List.{length-set}
use Rattle.nq_base.specs.declared.Event.{Event}
use Rattle.nq_model.specs.protocol.World.{Head, World, after_server, after_client, first_clients, run, start}
use Rattle.walk_steps.proofs.Steps.{Changes, nothing, by_client, by_server, step-changes}

same-clients : (w v : World) → Changes w v → length v.clients ≡ length w.clients
unfolding after_client after_server
same-clients w v (nothing is) = ap (λ u. length u.clients) is
same-clients w v (by_client host c t is acts to) = ap (λ u. length u.clients) to ∙ length-set w.clients host t.client
same-clients w v (by_server t acts to) = ap (λ u. length u.clients) to

first-count : (term host count : ℕ) → length (first_clients term host count) ≡ count
first-count term host zero = refl
first-count term host (suc count) = ap suc (first-count term (host + 1) count)

pub client-count : (head : Head) (events : List Event) → length (run head events).clients ≡ head.hosts
unfolding start
client-count head [] = first-count head.term 0 head.hosts
client-count head (e ∷ events) = same-clients (run head events) (run head (e ∷ events)) (step-changes (run head events) e) ∙ client-count head events
