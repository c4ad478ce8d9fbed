-- The headline: what every run of the protocol promises to people who share files.
use Rattle.std.specs.Prelude.{◌≡◌, ◌++◌, ℕ, List, Some, slice_get}
use Rattle.nq_base.specs.declared.Call.{Call}
use Rattle.nq_base.specs.declared.Entry.{Entry}
use Rattle.nq_base.specs.declared.Event.{Event}
use Rattle.nq_model.specs.laws.AnswersAreOfTheirCalls.{AnswersAreOfTheirCalls}
use Rattle.nq_model.specs.laws.AnswersHaveCauses.{HaveCauses}
use Rattle.nq_model.specs.laws.AnswersTellWhatWas.{TellWhatWas}
use Rattle.nq_model.specs.laws.BusyIsSaidAtOnce.{BusyIsSaidAtOnce}
use Rattle.nq_model.specs.laws.OksHaveTheirDeeds.{OksHaveTheirDeeds}
use Rattle.nq_model.specs.laws.RefusalsAreOfTheirCalls.{RefusalsAreOfTheirCalls}
use Rattle.nq_model.specs.laws.WritesAreAccounted.{WaitingAreUnsaved, EachHasItsFate}
use Rattle.nq_model.specs.laws.BlocksAreHeld.{KeptBlocksAreHeld}
use Rattle.nq_model.specs.laws.UntouchedAreZeros.{AreZeros}
use Rattle.nq_model.specs.laws.CachedAtOnce.{HasCached, AnswersAtOnce}
use Rattle.nq_model.specs.laws.Bounds.{KeepsBounds}
use Rattle.nq_model.specs.protocol.Client.{Client, Lease}
use Rattle.nq_model.specs.protocol.ClientStep.{client_call}
use Rattle.nq_model.specs.laws.CutOff.{IsExcused}
use Rattle.nq_model.specs.laws.Fate.{IsAccounted}
use Rattle.nq_model.specs.laws.FullHasItsCause.{FullHaveCauses}
use Rattle.nq_model.specs.laws.Legal.{IsLegal}
use Rattle.nq_model.specs.laws.LossesAreNamed.{LossesAreNamed}
use Rattle.nq_model.specs.laws.OfTheirCall.{AreOfTheirCall}
use Rattle.nq_model.specs.laws.Ordered.{IsOrdered}
use Rattle.nq_model.specs.laws.Reported.{IsReported}
use Rattle.nq_model.specs.protocol.Skew.{IsWithinSkew}
use Rattle.nq_model.specs.laws.Synchronized.{IsSynchronized}
use Rattle.nq_model.specs.protocol.World.{Head, World, run}

-- a client that has a block, under a lease that runs by its own clock, answers a read or fetch of it at once and sends
-- nothing
abbrev pub CachedReadsAreAtOnce : World → Type 0
CachedReadsAreAtOnce w =
    (host : ℕ) (c : Client) (file block : ℕ) (lease : Lease) (body : List ℕ)
    → slice_get w.clients host ≡ Some c
    → HasCached c file block lease body
    → AnswersAtOnce c (Call.Read file block) file block body (client_call c (Call.Read file block))
    × AnswersAtOnce c (Call.Fetch file block) file block body (client_call c (Call.Fetch file block))

-- the headline holds of a world to which a schedule leads
pub record HeadlineHolds (w : World) : Type 0 where
  -- the journal keeps each client's order, and each counted read is of its call
  pub ordered : IsOrdered w.journal
  pub of_their_call : AreOfTheirCall w.journal
  -- each answer is of its call, and the deed of each ok stands before it
  pub answered : AnswersAreOfTheirCalls w.journal
  pub done : OksHaveTheirDeeds w.journal
  -- a refusal has a form that the call can have
  pub refused : RefusalsAreOfTheirCalls w.journal
  -- busy is said at once, and for a cause
  pub busy : BusyIsSaidAtOnce w.journal
  -- every successful read gives the latest standing write before it
  pub legal : IsLegal w.journal
  -- missing are only delayed writes that are lost, or whose host started again after them: each other one is stored, or is
  -- unsaved at the running client of its very incarnation. No write is covered twice, and no loss is of nothing
  pub accounted : IsAccounted w.journal
  pub waiting : WaitingAreUnsaved w
  pub fates : EachHasItsFate w
  -- a client that lost a write was cut off for longer than the write slack
  pub excused : IsExcused w.journal
  -- a client that goes on names each loss, and `lost` names some write
  pub reported : IsReported w.journal
  pub named : LossesAreNamed w.journal
  -- synchronized writes that were answered ok are never missing, and the server has what was written
  pub synchronized : IsSynchronized w.journal
  pub kept : KeptBlocksAreHeld w
  -- what no write has touched is zeros, all 4096 bytes of a block
  pub untouched : AreZeros w.server.kept.files w.journal
  -- a cached read under a live lease is answered at once
  pub cached : CachedReadsAreAtOnce w

-- at a moment of a schedule the headline holds; what the answers tell of files, and why they refuse or say `dirtyfull`, was so between
-- each call and its answer; and from there on the journal only grows
pub record HoldsAt (head : Head) (later earlier : List Event) : Type 0 where
  pub holds : HeadlineHolds (run head earlier)
  pub told : TellWhatWas head earlier
  pub caused : HaveCauses head earlier
  pub full : FullHaveCauses head earlier
  pub more : List Entry
  pub grows : (run head (later ++ earlier)).journal ≡ more ++ (run head earlier).journal

-- this holds at each moment of every schedule of calls, deliveries, ticks, restarts and crashes that keeps to the bounds
-- and is within skew. Each beginning of such a schedule is one, too
abbrev pub AtEveryMoment : Type 0
AtEveryMoment =
    (most : ℕ) (head : Head) (later earlier : List Event)
    → KeepsBounds most head (later ++ earlier)
    → IsWithinSkew head.hosts most (later ++ earlier)
    → HoldsAt head later earlier
