-- What a grant that is taken needs.
use Rattle.std.specs.Prelude.{◌≡◌, ◌&&◌, ℕ, Bool, not, Some, is_some}
use Rattle.std.specs.Option.{ForSome}
use Rattle.nq_base.specs.declared.Grant.{Grant}
use Rattle.nq_client.specs.Losing.{IsReadyFor}
use Rattle.nq_client.specs.declared.state.State.{State}
use Rattle.nq_client.specs.declared.taking.Taking.{Taking}
use Rattle.nq_client_parts.specs.HoldingLeases.{lease_of}
use Rattle.nq_model.specs.protocol.Client.{is_clean_in, lease_on}
use Rattle.nq_model.specs.protocol.Hear.{breaks, granted_lease}

-- whether a grant breaks the chain of a lease over a file with delayed writes
abbrev pub loses_by : State → (file : ℕ) → Grant → Bool
loses_by s file g = breaks g (lease_on file s.leases.items) && not (is_clean_in file s.dirty.dirty s.dirty.push)

-- the lease is there as it is held then, and what a loss needs where the grant brings one
pub record IsTaking (t : Taking) (file : ℕ) (g : Grant) (sent : ℕ) (s : State) : Type 0 where
  pub held : lease_of t.held ≡ Some (granted_lease file g sent)
  pub broken : is_some t.losing ≡ loses_by s file g
  pub ready : ForSome t.losing (λ r. IsReadyFor r file s)
