-- `dirtyfull` has its cause, in every run.
use Rattle.std.specs.Prelude.{◌≡◌, ◌≤◌, List, Some, slice_get, ⊤}
use Rattle.nq_base.specs.declared.Entry.{Entry}
use Rattle.nq_base.specs.declared.Entry.TheVariants.{A}
use Rattle.nq_base.specs.declared.Event.{Event}
use Rattle.nq_base.specs.declared.Said.TheVariants.{DirtyFull}
use Rattle.nq_base.specs.declared.Who.{Who}
use Rattle.nq_model.specs.laws.AnswersTellWhatWas.{Meanwhile}
use Rattle.nq_model.specs.laws.Bounds.{InEveryRun}
use Rattle.nq_model.specs.protocol.Client.{Client}
use Rattle.nq_model.specs.laws.Journal.{Each}
use Rattle.nq_model.specs.protocol.Profile.{most_dirty}
use Rattle.nq_model.specs.protocol.Settle.{pending}
use Rattle.nq_model.specs.protocol.World.{Head, World, run}

-- a client of this incarnation runs, and as many blocks of it are delayed or under way as there may be
pub record IsFull (who : Who) (w : World) : Type 0 where
  pub client : Client
  pub runs : slice_get w.clients who.host ≡ Some client
  pub same : client.who ≡ who
  pub full : most_dirty ≤ pending client

-- an A that says so rests on a moment between the call and the answer at which its client was full
abbrev pub IsFullSo : Head → List Event → Entry → Type 0
IsFullSo head events (A who q DirtyFull) = Meanwhile (IsFull who) who q head events
IsFullSo head events other = ⊤

-- so it is of each A of the journal
abbrev pub FullHaveCauses : Head → List Event → Type 0
FullHaveCauses head events = Each (IsFullSo head events) (run head events).journal

-- after every schedule within skew
abbrev pub FullHasItsCause : Type 0
FullHasItsCause = InEveryRun FullHaveCauses
