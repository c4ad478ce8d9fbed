-- What a step does beside the kept state does not rest on the body of a request, but on its value alone.
use Rattle.std.proofs.Common.{◌≡◌, ℕ, true, List, Option, Some, None, refl, sym, ap, subst}
use Rattle.nq_base.proofs.Filling.{filled-value}
use Rattle.nq_base.specs.Block.{filled, value_of}
use Rattle.nq_base.specs.declared.Change.{Change}
use Rattle.nq_base.specs.declared.Decided.{Decided}
use Rattle.nq_base.specs.declared.Decided.TheVariants.{Fresh, Again, Old, OldIncarnation, NotAttached, OutOfBounds}
use Rattle.nq_base.specs.declared.Entry.{Entry}
use Rattle.nq_base.specs.declared.PushBase.{PushBase}
use Rattle.nq_base.specs.declared.Reply.{Reply as Answer}
use Rattle.nq_base.specs.declared.Request.{Request}
use Rattle.nq_base.specs.declared.Request.TheVariants.{Null, Attach, Lookup, Create, GetAttr, Read, Write, GetLease, Vacated, Evicted, Resize, Remove}
use Rattle.nq_base.specs.declared.Verdict.{Verdict}
use Rattle.nq_base.specs.declared.Who.{Who}
use Rattle.nq_base.specs.Entries.{EntryList}
use Rattle.nq_model.specs.protocol.Decided.{Aside, aside_in, decided_answer, decided_step, done_aside, fresh_change, fresh_step, gate_of, written_aside}
use Rattle.nq_model.specs.protocol.Decided.{entry_aside}
use Rattle.nq_model.specs.protocol.Server.{Phase, Server, serving, recovering}
use Rattle.nq_server.specs.Deciding.{Concludes, as_told}
use Rattle.nq_server.specs.State.{Beside}
use Rattle.nq_server.specs.declared.received.EventTaken.{EventTaken}
use Rattle.nq_wire.specs.Outbox.{Datagrams}

-- two fresh steps that differ in what they keep do the same beside it
module _ (s : Server) (who : Who) (xid : ℕ) (how : EventTaken) (after : Beside) (out out' : Datagrams) (log log' : EntryList) where
  alike : (change told : Change) (done : Aside) (answer : Answer) → Concludes (fresh_step s who xid told done answer) how after out out' log log'
      → Concludes (fresh_step s who xid change done answer) how after out out' log log'
  unfolding fresh_step
  alike change told done answer h = record {
    outcome = h.outcome;
    makes = record { holds = h.makes.holds; sends = h.makes.sends; enters = h.makes.enters };
  }

-- what is done aside
module _ (s : Server) (who w : Who) (seq file block first last : ℕ) (body : List ℕ) where
  told-written : (push : Option PushBase) → written_aside s who file block first last push (filled (value_of body)) ≡ written_aside s who file block
      first last push body
  told-written None = ap (λ v. entry_aside s (Entry.W who file block first v true)) (filled-value (value_of body))
  told-written (Some base) = refl

  told-done : (phase : Phase) (push : Option PushBase) → done_aside s phase who (Write w seq file block first last push (filled (value_of body)))
      ≡ done_aside s phase who (Write w seq file block first last push body)
  told-done serving push = told-written push
  told-done (recovering until heard final) push = refl

  told-aside : (phase : Phase) (push : Option PushBase) (verdict : Verdict) → aside_in s phase who (Write w seq file block first last push
      (filled (value_of body))) verdict ≡ aside_in s phase who (Write w seq file block first last push body) verdict
  told-aside phase push Verdict.Done = told-done phase push
  told-aside phase push Verdict.Fenced = refl
  told-aside phase push Verdict.Exist = refl
  told-aside phase push Verdict.NoSpace = refl
  told-aside phase push Verdict.Invalid = refl
  told-aside phase push Verdict.Stale = refl
  told-aside phase push Verdict.TryLater = refl

  told-answer : (inc value : ℕ) (push : Option PushBase) (verdict : Verdict) → decided_answer inc verdict value (Write w seq file block first last
      push (filled (value_of body))) ≡ decided_answer inc verdict value (Write w seq file block first last push body)
  told-answer inc value push Verdict.Done = refl
  told-answer inc value push Verdict.Fenced = refl
  told-answer inc value push Verdict.Exist = refl
  told-answer inc value push Verdict.NoSpace = refl
  told-answer inc value push Verdict.Invalid = refl
  told-answer inc value push Verdict.Stale = refl
  told-answer inc value push Verdict.TryLater = refl

module _ (s : Server) (who : Who) (xid : ℕ) where
  written-told : (w : Who) (seq file block first last : ℕ) (push : Option PushBase) (body : List ℕ) (d : Decided) (how : EventTaken) (after : Beside)
      (out out' : Datagrams) (log log' : EntryList) → Concludes (decided_step s who xid (Write w seq file block first last push
      (filled (value_of body))) d) how after out out' log log' → Concludes (decided_step s who xid (Write w seq file block first last push body) d)
      how after out out' log log'
  written-told w seq file block first last push body (Fresh verdict value) how after out out' log log' h =
      let told : Request = Write w seq file block first last push (filled (value_of body)) in
      let r : Request = Write w seq file block first last push body in
      let change : Change = fresh_change s.kept (gate_of s who told) told in
      alike s who xid how after out out' log log' (fresh_change s.kept (gate_of s who r) r) change (aside_in s s.phase who r verdict)
      (decided_answer who.inc verdict value r)
      (subst
      (λ done. Concludes (fresh_step s who xid change done (decided_answer who.inc verdict value r)) how after out out' log log')
      (told-aside s who w seq file block first last body s.phase push verdict)
      (subst
      (λ answer. Concludes (fresh_step s who xid change (aside_in s s.phase who told verdict) answer) how after out out' log log')
      (told-answer s who w seq file block first last body who.inc value push verdict)
      h))
  written-told w seq file block first last push body (Again verdict value) how after out out' log log' h =
      rw (sym (told-answer s who w seq file block first last body who.inc value push verdict)) h
  written-told w seq file block first last push body Old how after out out' log log' h = h
  written-told w seq file block first last push body OldIncarnation how after out out' log log' h = h
  written-told w seq file block first last push body NotAttached how after out out' log log' h = h
  written-told w seq file block first last push body OutOfBounds how after out out' log log' h = h

  any-told : (r : Request) (d : Decided) (how : EventTaken) (after : Beside) (out out' : Datagrams) (log log' : EntryList)
      → Concludes (decided_step s who xid (as_told r) d) how after out out' log log' → Concludes (decided_step s who xid r d) how after out out' log log'
  any-told (Write w seq file block first last push body) d how after out out' log log' h = written-told w seq file block first last push body d how
      after out out' log log' h
  any-told Null d how after out out' log log' h = h
  any-told (Attach w) d how after out out' log log' h = h
  any-told (Lookup w name) d how after out out' log log' h = h
  any-told (Create w seq name blocks) d how after out out' log log' h = h
  any-told (GetAttr w file) d how after out out' log log' h = h
  any-told (Read w q file block want) d how after out out' log log' h = h
  any-told (GetLease w file want) d how after out out' log log' h = h
  any-told (Vacated w file tag) d how after out out' log log' h = h
  any-told (Evicted w file tag) d how after out out' log log' h = h
  any-told (Resize w seq q file blocks) d how after out out' log log' h = h
  any-told (Remove w seq q file) d how after out out' log log' h = h

  -- a request that was answered as one without its body was answered
  pub concludes-told : (r told : Request) (d : Decided) (how : EventTaken) (after : Beside) (out out' : Datagrams) (log log' : EntryList)
      → told ≡ as_told r → Concludes (decided_step s who xid told d) how after out out' log log' → Concludes (decided_step s who xid r d) how after
      out out' log log'
  concludes-told r told d how after out out' log log' is h =
      any-told r d how after out out' log log'
      (subst (λ t. Concludes (decided_step s who xid t d) how after out out' log log') is h)
