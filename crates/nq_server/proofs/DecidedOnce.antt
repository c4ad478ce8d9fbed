-- What is kept after a request that is decided once.
use Rattle.std.proofs.Common.{◌≡◌, ◌⊎◌, ℕ, Option, Some, Ok, Err, inl, inr, refl, sym, ap, subst, ◌∙◌}
use Rattle.nq_base.specs.declared.Change.{Change}
use Rattle.nq_base.specs.declared.Decided.{Decided}
use Rattle.nq_base.specs.declared.Decided.TheVariants.{Fresh, Again, Old, OldIncarnation, NotAttached, OutOfBounds}
use Rattle.nq_base.specs.declared.Gate.{Gate}
use Rattle.nq_base.specs.declared.Request.{Request}
use Rattle.nq_base.specs.declared.Who.{Who}
use Rattle.nq_keeper.specs.Deciding.{Gives}
use Rattle.nq_io.specs.Faults.{Rose}
use Rattle.nq_base.specs.Entries.{EntryList}
use Rattle.nq_keeper.specs.Keeping.{StaysOrEnds}
use Rattle.nq_keeper.specs.declared.KeepFault.{KeepFault}
use Rattle.nq_keeper.specs.declared.KeepFault.TheVariants as keep
use Rattle.nq_model.specs.protocol.Change.{applied_if}
use Rattle.nq_model.specs.protocol.Decided.{change_of, decided, decided_step, fresh_change, fresh_step, gate_of, if_fresh}
use Rattle.nq_model.specs.protocol.Kept.{Kept}
use Rattle.nq_model.specs.protocol.Server.{Server, ServerStep, drops, says}
use Rattle.nq_server.specs.Deciding.{Concludes}
use Rattle.nq_server.specs.State.{Beside, server_of}
use Rattle.nq_server.specs.Stepping.{SaysNothing, Takes}
use Rattle.nq_server.specs.declared.received.EventTaken.{EventTaken}
use Rattle.nq_wire.specs.Outbox.{Datagrams}

-- a request that was decided keeps the change of a fresh one, and nothing else
decided-keeps : (s : Server) (who : Who) (xid : ℕ) (r : Request) (d : Decided) → (decided_step s who xid r d).server.kept ≡ applied_if s.kept
    (if_fresh d (fresh_change s.kept (gate_of s who r) r))
unfolding fresh_step drops says
decided-keeps s who xid r (Fresh verdict value) = refl
decided-keeps s who xid r (Again verdict value) = refl
decided-keeps s who xid r Old = refl
decided-keeps s who xid r OldIncarnation = refl
decided-keeps s who xid r NotAttached = refl
decided-keeps s who xid r OutOfBounds = refl

module _ (held : Beside) (who : Who) (xid : ℕ) (r : Request) where
  -- the step of a request that is decided once
  abbrev step : Kept → ServerStep
  step kept =
      decided_step (server_of held kept) who xid r (decided kept (gate_of (server_of held kept) who r) r)

  -- what the change leaves that a keeper committed is what the step keeps
  kept-decided : (gate : Gate) (kept : Kept) → gate ≡ gate_of (server_of held kept) who r → applied_if kept (change_of kept gate r) ≡ (step kept).server.kept
  kept-decided gate kept is =
      ap (λ g. applied_if kept (change_of kept g r)) is
      ∙ sym (decided-keeps (server_of held kept) who xid r (decided kept (gate_of (server_of held kept) who r) r))

  pub leaves-decided : (gate : Gate) (kept : Kept) (found : Option Kept) → gate ≡ gate_of (server_of held kept) who r → (found ≡ Some kept)
      ⊎ (found ≡ Some (applied_if kept (change_of kept gate r))) → (found ≡ Some kept) ⊎ (found ≡ Some (step kept).server.kept)
  leaves-decided gate kept found is (inl e) = inl e
  leaves-decided gate kept found is (inr e) = inr (e ∙ ap Some (kept-decided gate kept is))

  -- it was decided, and answered
  pub takes-decided : (gate : Gate) (d : Decided) (how : EventTaken) (told between tells : Option Kept) (before middle count : ℕ) (after : Beside)
      (out out' : Datagrams) (log log' : EntryList) → between ≡ told → middle ≡ before → ((kept : Kept) → told ≡ Some kept
      → gate ≡ gate_of (server_of held kept) who r) → Gives (λ kept. decided kept gate r) (λ kept. change_of kept gate r) (Ok d) between tells middle
      count → ((kept : Kept) → told ≡ Some kept → Concludes (decided_step (server_of held kept) who xid r d) how after out out' log log')
      → Takes step (Ok how) told tells before count held after out out' log log'
  takes-decided gate d how told between tells before middle count after out out' log log' stays same is gives concludes = (
    λ kept e.
        let given = gives.0 kept (stays ∙ e) in
        let by : d ≡ decided kept (gate_of (server_of held kept) who r) r = given.0 ∙ ap (λ g. decided kept g r) (is kept e) in
        let done : Concludes (step kept) how after out out' log log' =
        subst
        (λ x. Concludes (decided_step (server_of held kept) who xid r x) how after out out' log log')
        by
        (concludes kept e) in (
          done.outcome,
          record {
            keeps = given.1 ∙ ap Some (kept-decided gate kept (is kept e));
            holds = done.makes.holds;
            sends = done.makes.sends;
            enters = done.makes.enters;
          },
        ),
    gives.1 ∙ same,
  )

-- nothing was decided, and the datagrams were taken back
pub takes-given-up : (fault : KeepFault) (step : Kept → ServerStep) (decision : Kept → Decided) (change : Kept → Option Change)
    (told between tells : Option Kept) (before middle count : ℕ) (held : Beside) (out out' : Datagrams) (log log' : EntryList) → between ≡ told
    → middle ≡ before → Gives decision change (Err fault) between tells middle count → SaysNothing out out' log log' → Takes step (Err fault) told
    tells before count held held out out' log log'
takes-given-up keep.Failed step decision change told between tells before middle count held out out' log log' stays same gives nothing =
    (subst (λ o. StaysOrEnds o tells) stays gives.0, subst (λ n. Rose n count) same gives.1, refl, nothing)
takes-given-up keep.Memory step decision change told between tells before middle count held out out' log log' stays same gives nothing =
    (gives.0 ∙ stays, gives.1 ∙ same, refl, nothing)
