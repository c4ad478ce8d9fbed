-- What a grant leaves at a client, in the steps of the code.
use Rattle.std.specs.Prelude.{ℕ, List}
use Rattle.nq_base.specs.declared.Grant.{Grant}
use Rattle.nq_model.specs.protocol.Client.{Clean, ClientStep, in_state, put_lease, put_revision}
use Rattle.nq_model.specs.protocol.Hear.{granted_lease}

-- the client with a granted lease and the revision of its file
abbrev pub keeps : ClientStep → (file : ℕ) → Grant → (sent : ℕ) → ClientStep
keeps t file g sent = in_state t (record t.client {
  leases = put_lease (granted_lease file g sent) t.client.leases;
  revisions = put_revision file g.rev t.client.revisions;
})

-- the step with these clean blocks
abbrev pub with_clean : ClientStep → List Clean → ClientStep
with_clean t clean = in_state t (record t.client { clean = clean })
