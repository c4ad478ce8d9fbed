-- Clients report their losses, in every run: what a client has not told yet, and that it tells all of them.
use Rattle.std.specs.Prelude.{◌≡◌, ◌⊎◌, ℕ, List, [], ◌∷◌, ◌++◌, Some, Bool, true, false, ◌==◌, if◌then◌else◌, slice_get, ⊤}
use Rattle.nq_base.specs.declared.Call.{Call}
use Rattle.nq_base.specs.declared.Call.TheVariants.{Sync, Resize, Remove}
use Rattle.nq_base.specs.declared.Entry.{Entry}
use Rattle.nq_base.specs.declared.Entry.TheVariants.{L}
use Rattle.nq_base.specs.declared.Event.{Event}
use Rattle.nq_base.specs.declared.Loss.{Loss}
use Rattle.nq_base.specs.declared.Who.{Who}
use Rattle.nq_model.specs.protocol.Client.{Client, UnderWay, losses_of}
use Rattle.nq_model.specs.laws.Journal.{Exists}
use Rattle.nq_model.specs.laws.Reported.{loss_told, Names, IsReported}
use Rattle.nq_model.specs.protocol.World.{Head, run}
use Rattle.nq_model.specs.protocol.Table.{same_who}

-- the entry is an L by which the incarnation tells this loss
abbrev pub IsLossOf : (who : Who) (loss : Loss) → Entry → Type 0
IsLossOf who loss (L by file block first last) = (by ≡ who) × (loss_told file block first last ≡ loss)
IsLossOf who loss other = ⊥

-- the loss is one of these
abbrev pub IsOneOf : List Loss → Loss → Type 0
IsOneOf losses loss = Exists (λ other. other ≡ loss) losses

-- the losses that an incarnation tells by its L, the oldest first
abbrev pub losses_told : (who : Who) → List Entry → List Loss
losses_told who [] = []
losses_told who (L by file block first last ∷ before) =
    if same_who by who then losses_told who before ++ loss_told file block first last ∷ [] else losses_told who before
losses_told who (other ∷ before) = losses_told who before

-- these losses are among those, in the same order
abbrev pub IsPartOf : (part all : List Loss) → Type 0
IsPartOf [] all = ⊤
IsPartOf (loss ∷ losses) [] = ⊥
IsPartOf (loss ∷ losses) (other ∷ all) = ((loss ≡ other) × IsPartOf losses all) ⊎ IsPartOf (loss ∷ losses) all

-- whether a call is a `sync`, `resize` or `remove` of a file
abbrev pub cleans : (file : ℕ) → Call → Bool
cleans file (Sync f) = f == file
cleans file (Resize f blocks) = f == file
cleans file (Remove f) = f == file
cleans file other = false

-- a client's losses fit the journal. It keeps exactly the losses that its incarnation told by an L and that no A has named,
-- and those of a file in their order. While a `sync`, `resize` or `remove` is under way, it keeps none on that file
pub record LossesFit (c : Client) (journal : List Entry) : Type 0 where
  pub kept : (loss : Loss) → Exists (IsLossOf c.who loss) journal → IsOneOf c.losses loss ⊎ Exists (Names journal c.who loss) journal
  pub lost : (loss : Loss) → IsOneOf c.losses loss → Exists (IsLossOf c.who loss) journal
  pub unnamed : (loss : Loss) → IsOneOf c.losses loss → ¬ Exists (Names journal c.who loss) journal
  pub ordered : (file : ℕ) → IsPartOf (losses_of file c.losses) (losses_told c.who journal)
  pub told : (u : UnderWay) (file : ℕ) → c.call ≡ Some u → cleans file u.call ≡ true → losses_of file c.losses ≡ []

-- this holds of each client after every schedule
abbrev pub LossesFitInEveryRun : Type 0
LossesFitInEveryRun =
    (head : Head) (events : List Event) (host : ℕ) (c : Client)
    → slice_get (run head events).clients host ≡ Some c
    → LossesFit c (run head events).journal

-- after every schedule, whatever packets were lost, repeated or reordered, whoever restarted, however often the server
-- crashed and however the clocks ran, each loss is reported by its name, and once
abbrev pub ReportedInEveryRun : Type 0
ReportedInEveryRun = (head : Head) (events : List Event) → IsReported (run head events).journal
