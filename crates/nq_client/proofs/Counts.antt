-- A client's numbers stay within what it took in.
use Rattle.std.proofs.Common.{◌≡◌, ◌≤◌, ◌<◌, ◌+◌, ◌*◌, ◌^◌, ℕ, sym, subst}
use Rattle.nq_client.specs.Counted.{IsWithin}
use Rattle.nq_client.specs.State.{client_of}
use Rattle.nq_client.specs.Tied.{Tied}
use Rattle.nq_client.specs.declared.state.State.{State}
use Rattle.nq_model.specs.protocol.Client.{Client}
use Rattle.nq_model.specs.protocol.Profile.{most_taken_by_client}

-- the state of a client whose numbers are within what it took in
pub within : (s : State) (c : Client) (taken : ℕ) → client_of s ≡ c → taken ≤ most_taken_by_client → c.now < 2 ^ 62 → c.calls ≤ taken
    → c.seq ≤ 2 * taken + 1 → c.number ≤ 2 * taken + 1 → c.xid ≤ 2 * taken + 2 → Tied c.ticket c.push → IsWithin s taken
within s c taken e few now calls seq number xid tied = record {
  taken_few = few;
  time = subst (λ (x : Client). x.now < 2 ^ 62) (sym e) now;
  calls = subst (λ (x : Client). x.calls ≤ taken) (sym e) calls;
  seq = subst (λ (x : Client). x.seq ≤ 2 * taken + 1) (sym e) seq;
  number = subst (λ (x : Client). x.number ≤ 2 * taken + 1) (sym e) number;
  xid = subst (λ (x : Client). x.xid ≤ 2 * taken + 2) (sym e) xid;
  tied = subst (λ (x : Client). Tied x.ticket x.push) (sym e) tied;
}
