-- What the journal tells of the calls of a client: the facts that are kept.
use Rattle.std.proofs.Common.{◌≡◌, ◌<◌, ◌≤◌, ℕ, List, Some}
use Rattle.std.specs.Prelude.{slice_get}
use Rattle.nq_base.specs.declared.Entry.{Entry}
use Rattle.nq_base.specs.declared.Event.{Event}
use Rattle.nq_base.specs.declared.Who.{Who}
use Rattle.nq_model.specs.laws.Bounds.{KeepsBounds}
use Rattle.nq_model.specs.protocol.Client.{Client, UnderWay}
use Rattle.nq_model.specs.laws.Journal.{IsOpen}
use Rattle.nq_model.specs.protocol.Skew.{IsWithinSkew}
use Rattle.nq_model.specs.protocol.World.{Head, run}
use Rattle.walk_steps.proofs.Packets.{In}
pub use Rattle.walk_files.proofs.CallsEntries.{entry_who, entry_call, entry_number, IsOpenAsTold}

-- the calls of a client that runs, as the journal tells them
pub record CallsFit (c : Client) (journal : List Entry) : Type 0 where
  -- no entry is of a later incarnation of its host
  pub past : (e : Entry) (w : Who) → In journal e → entry_who e ≡ Some w → w.host ≡ c.who.host → w.inc ≤ c.who.inc
  -- no entry is of a call after its last one
  pub numbers : (e : Entry) (q : ℕ) → In journal e → entry_who e ≡ Some c.who → entry_call e ≡ Some q → q ≤ c.calls
  -- no write of it has its next number or a later one
  pub writes : (e : Entry) (n : ℕ) → In journal e → entry_who e ≡ Some c.who → entry_number e ≡ Some n → n < c.number
  -- the call under way is open
  pub under_way : (u : UnderWay) → c.call ≡ Some u → IsOpenAsTold c.who c.calls u journal
  -- and no other call of it
  pub alone : (q : ℕ) → IsOpen journal c.who q → (u : UnderWay) × (c.call ≡ Some u) × (u.q ≡ q)

-- the fact in every run
abbrev pub CallsFitInEveryRun : Type 0
CallsFitInEveryRun =
    (most : ℕ) (head : Head) (events : List Event)
    → KeepsBounds most head events
    → IsWithinSkew head.hosts most events
    → (host : ℕ) (c : Client) → slice_get (run head events).clients host ≡ Some c → CallsFit c (run head events).journal
