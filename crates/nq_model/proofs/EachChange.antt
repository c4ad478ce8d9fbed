-- Each step of the server keeps one change at most.
use Rattle.std.proofs.Common.{◌≤◌, ◌≡◌, ◌<◌, ◌^◌, ℕ, ◌+◌, ◌==◌, true, ◌&&◌, List, Option, Some, None, if◌then◌else◌, refl, sym, subst, ap, ◌∙◌, arith}
use Rattle.nq_base.specs.declared.Heads.{Heads}
use Rattle.std.specs.List.{find, slice_get}
use Rattle.std.specs.Prelude.{⊤, nat_lt, nat_le}
use Rattle.std.proofs.lemmas.Bool.Decides.{nat_tests}
use Rattle.std.specs.Option.{IfSome}
use Rattle.nq_base.specs.declared.Access.{Access}
use Rattle.nq_base.specs.declared.Asked.{Asked}
use Rattle.nq_base.specs.declared.Change.{Change}
use Rattle.nq_base.specs.declared.Decided.{Decided}
use Rattle.nq_base.specs.declared.Decided.TheVariants.{Fresh, Again, Old, OldIncarnation, NotAttached, OutOfBounds}
use Rattle.nq_base.specs.declared.Reply.{Reply as Answer}
use Rattle.nq_base.specs.declared.Request.{Request}
use Rattle.nq_base.specs.declared.Request.TheVariants.{Null, Attach, Lookup, Create, GetAttr, Read, Write, GetLease, Vacated, Evicted, Resize, Remove}
use Rattle.nq_base.specs.declared.Row.{Row}
use Rattle.nq_base.specs.declared.Tag.{Tag}
use Rattle.nq_base.specs.declared.Want.{Want}
use Rattle.nq_base.specs.declared.Who.{Who}
use Rattle.nq_model.specs.protocol.Ask.{Reply, ask}
use Rattle.nq_model.specs.protocol.Change.{IsWithinBounds, IsChangedOnce, IsChangeWithin, Fits, applied_if, fencing_of, row_of_found, change_of_heads}
use Rattle.nq_model.specs.protocol.Change.{booted_heads, opened_heads}
use Rattle.nq_model.specs.laws.ChangesOnce.{EachStepChangesOnce, RequestsAreDecided, BoundsAreKept, IsServerWithin, HasItsText}
use Rattle.nq_model.specs.protocol.Decided.{is_decided_once, fresh_change, gate_of, decided, decided_step, fresh_step, HasText}
use Rattle.nq_model.specs.protocol.Kept.{File, Kept, find_file, find_name, can_rise, host_row}
use Rattle.nq_model.specs.protocol.Message.{Message, Datagram, Reason, reply, request, too_long, no_message, no_call, other_rpc, other_program, other_version}
use Rattle.nq_model.specs.protocol.Message.{unknown_procedure, garbage_vacated, garbage, asker, wrong_host, old_incarnation}
use Rattle.nq_model.specs.protocol.Profile.{most_hosts, shortest_term, longest_term}
use Rattle.nq_model.specs.protocol.Server.{Phase, serving, recovering, Server, ServerStep, drops, says, quiet, after_notices, keeping_with, with_table}
use Rattle.nq_model.specs.protocol.ServerStep.{to_read, look_up, get_attr, read, read_block, read_asked, access_of, tells_later, serves, leases, lease_asked}
use Rattle.nq_model.specs.protocol.ServerStep.{get_lease, vacates, look, not_attached, admit, answer_request, receive, fence, ends_writing, end_due}
use Rattle.nq_model.specs.protocol.ServerStep.{end_writing, end_reading, is_due, opens, at_time, tick_in, tick, boot, crash}
use Rattle.nq_model.specs.protocol.Table.{Table}
use Rattle.nq_model.proofs.AppliedChanges.{applied-fencing, applied-boot, applied-opening}
use Rattle.nq_model.proofs.DecidedSteps.{admits-decided, receives-decided}
use Rattle.nq_model.proofs.Finding.{choice}
use Rattle.nq_model.proofs.Files.{found-id}
use Rattle.nq_model.proofs.FreshWithin.{fresh-within, fencing-within, booted-within, opened-within}
use Rattle.nq_model.proofs.FreshFits.{orderly-within, next-free, fresh-fits, fencing-fits, heads-fit}
use Rattle.nq_model.proofs.WithinBounds.{within-applied}

-- what is kept is changed once at most, and where the step is given as it has to be, by a change within its bounds
record IsChangedWithin (Given : Type 0) (before after : Kept) : Type 0 where
  change : Option Change
  is_applied : after ≡ applied_if before change
  fits : IfSome change (Fits before)
  within : Given → IfSome change (IsChangeWithin before)

-- nothing is changed
unchanged : (Given : Type 0) (before after : Kept) → after ≡ before → IsChangedWithin Given before after
unchanged Given before after same = record { change = None; is_applied = same; fits = tt; within = λ given. tt }

once-of : (Given : Type 0) (before after : Kept) → IsChangedWithin Given before after → IsChangedOnce before after
once-of Given before after c = record { change = c.change; is_applied = c.is_applied; fits = c.fits }

within-by :
    (before after : Kept) (change : Option Change) → IsWithinBounds before → after ≡ applied_if before change → IfSome change (Fits before)
    → IfSome change (IsChangeWithin before) → IsWithinBounds after
within-by before after None within is fits own = subst IsWithinBounds (sym is) within
within-by before after (Some change) within is fits own = subst IsWithinBounds (sym is) (within-applied before change within fits own)

-- so what is kept is within its bounds again
within-of : (Given : Type 0) (before after : Kept) → IsWithinBounds before → IsChangedWithin Given before after → Given → IsWithinBounds after
within-of Given before after within c given = within-by before after c.change within c.is_applied c.fits (c.within given)

module _ (s : Server) (within : IsWithinBounds s.kept) (Given : Type 0) where
  -- and the longest term stays
  abbrev Once : ServerStep → Type 0
  Once t = IsChangedWithin Given s.kept t.server.kept × (t.server.longest ≡ s.longest)

  -- a request that is decided once
  decided-once :
      (who : Who) (xid : ℕ) (r : Request) → (Given → HasText r) → asker r ≡ Some who → who.host < most_hosts → (d : Decided)
      → decided s.kept (gate_of s who r) r ≡ d → Once (decided_step s who xid r d)
  unfolding fresh_step drops says
  decided-once who xid r text by few (Fresh verdict value) is = (
    record {
      change = Some (fresh_change s.kept (gate_of s who r) r);
      is_applied = refl;
      fits = fresh-fits s.kept (gate_of s who r) r who (orderly-within s.kept within) by few;
      within = λ given. fresh-within s.kept within (gate_of s who r) r verdict value is (text given);
    },
    refl,
  )
  decided-once who xid r text by few (Again verdict value) is = (unchanged Given s.kept s.kept refl, refl)
  decided-once who xid r text by few Old is = (unchanged Given s.kept s.kept refl, refl)
  decided-once who xid r text by few OldIncarnation is = (unchanged Given s.kept s.kept refl, refl)
  decided-once who xid r text by few NotAttached is = (unchanged Given s.kept s.kept refl, refl)
  decided-once who xid r text by few OutOfBounds is = (unchanged Given s.kept s.kept refl, refl)

  admits-once :
      (who : Who) (xid next : ℕ) (r : Request) → (Given → HasText r) → asker r ≡ Some who → is_decided_once r ≡ true → who.host < most_hosts
      → Once (admit s who xid next r (host_row s.kept who.host))
  admits-once who xid next r text by once few =
      subst Once (sym (admits-decided s who xid next r by once (next-free s.kept (orderly-within s.kept within)))) (decided-once who xid r text by few
      (decided s.kept (gate_of s who r) r) refl)

  -- ---- requests that change nothing that is kept

  read-asked : (who : Who) (xid next q : ℕ) (file : File) (block : ℕ) (body : List ℕ) (access : Access) (table : Table) (asked : Asked)
      → Once (read_asked s who xid next q file block body access table asked)
  unfolding tells_later serves after_notices with_table
  read-asked who xid next q file block body access table (Asked.TryLater clash) = (unchanged Given s.kept s.kept refl, refl)
  read-asked who xid next q file block body access table (Asked.Granted g) = (unchanged Given s.kept s.kept refl, refl)
  read-asked who xid next q file block body access table Asked.Free = (unchanged Given s.kept s.kept refl, refl)
  read-asked who xid next q file block body access table Asked.NoLease = (unchanged Given s.kept s.kept refl, refl)

  read-once : (who : Who) (xid next q : ℕ) (file : File) (block : ℕ) (want : Option Want) (o : Option (List ℕ))
      → Once (read_block s who xid next q file block want o)
  unfolding says
  read-once who xid next q file block want None = (unchanged Given s.kept s.kept refl, refl)
  read-once who xid next q file block want (Some body) =
      let answer : Reply = ask s.table (to_read s who file want) in
      read-asked who xid next q file block body (access_of want) answer.table answer.asked

  lease-asked : (who : Who) (xid file : ℕ) (access : Access) (table : Table) (asked : Asked) → Once (lease_asked s who xid file access table asked)
  unfolding tells_later leases after_notices with_table
  lease-asked who xid file access table (Asked.TryLater clash) = (unchanged Given s.kept s.kept refl, refl)
  lease-asked who xid file access table (Asked.Granted g) = (unchanged Given s.kept s.kept refl, refl)
  lease-asked who xid file access table Asked.Free = (unchanged Given s.kept s.kept refl, refl)
  lease-asked who xid file access table Asked.NoLease = (unchanged Given s.kept s.kept refl, refl)

  found-by-name : (who : Who) (xid : ℕ) (o : Option File) → Once (look_up s who xid o)
  unfolding says
  found-by-name who xid None = (unchanged Given s.kept s.kept refl, refl)
  found-by-name who xid (Some file) = (unchanged Given s.kept s.kept refl, refl)

  length-once : (who : Who) (xid : ℕ) (o : Option File) → Once (get_attr s who xid o)
  unfolding says
  length-once who xid None = (unchanged Given s.kept s.kept refl, refl)
  length-once who xid (Some file) = (unchanged Given s.kept s.kept refl, refl)

  block-once : (who : Who) (xid next q block : ℕ) (want : Option Want) (o : Option File) → Once (read s who xid next q block want o)
  unfolding says
  block-once who xid next q block want None = (unchanged Given s.kept s.kept refl, refl)
  block-once who xid next q block want (Some file) = read-once who xid next q file block want (slice_get file.bodies block)

  lease-once : (who : Who) (xid : ℕ) (want : Want) (o : Option File) → Once (get_lease s who xid want o)
  unfolding says
  lease-once who xid want None = (unchanged Given s.kept s.kept refl, refl)
  lease-once who xid want (Some file) =
      let answer : Reply = ask s.table (to_read s who file (Some want)) in
      lease-asked who xid file.id (access_of (Some want)) answer.table answer.asked

  -- a request that asks, by the phase
  looks : (phase : Phase) (who : Who) (xid next : ℕ) (r : Request) → Once (look s phase who xid next r)
  unfolding says quiet
  looks serving who xid next (Lookup w name) = found-by-name who xid (find_name name s.kept.files)
  looks serving who xid next (GetAttr w file) = length-once who xid (find_file file s.kept.files)
  looks serving who xid next (Read w q file block want) = block-once who xid next q block want (find_file file s.kept.files)
  looks serving who xid next (GetLease w file want) = lease-once who xid want (find_file file s.kept.files)
  looks serving who xid next other = (unchanged Given s.kept s.kept refl, refl)
  looks (recovering until heard last) who xid next other = (unchanged Given s.kept s.kept refl, refl)

  not-attached-once : (who : Who) (xid : ℕ) (r : Request) → Once (not_attached s who xid r)
  unfolding says quiet
  not-attached-once who xid (Vacated w file tag) = (unchanged Given s.kept s.kept refl, refl)
  not-attached-once who xid other = (unchanged Given s.kept s.kept refl, refl)

  dropped-once : (reason : Reason) → Once (drops s reason)
  unfolding drops
  dropped-once reason = (unchanged Given s.kept s.kept refl, refl)

  said-once : (host : ℕ) (message : Message) → Once (says s host message)
  unfolding says
  said-once host message = (unchanged Given s.kept s.kept refl, refl)

  quiet-once : Once (quiet s)
  unfolding quiet
  quiet-once = (unchanged Given s.kept s.kept refl, refl)

  vacated-once : (who : Who) (file : ℕ) (tag : Tag) → Once (vacates s who file tag)
  unfolding vacates quiet with_table
  vacated-once who file tag = (unchanged Given s.kept s.kept refl, refl)

  -- a request of an incarnation, by how it compares with the kept one
  asked-once : (who : Who) (xid next : ℕ) (r : Request) (kept_inc : ℕ) (t : ServerStep) → Once t → Once (if nat_lt who.inc kept_inc
      then drops s old_incarnation else (if nat_lt kept_inc who.inc then not_attached s who xid r else t))
  asked-once who xid next r kept_inc t performed =
      choice Once (nat_lt who.inc kept_inc) _ _ (λ older. dropped-once old_incarnation) (λ no_older.
      choice Once (nat_lt kept_inc who.inc) _ _ (λ later. not-attached-once who xid r) (λ current. performed))

  -- a request of a host
  requests-once :
      (who : Who) (xid next : ℕ) (r : Request) → (Given → HasText r) → asker r ≡ Some who → who.host < most_hosts
      → Once (admit s who xid next r (host_row s.kept who.host))
  requests-once who xid next Null text by few = absurd (cc)
  requests-once who xid next (Attach w) text by few = admits-once who xid next (Attach w) text by refl few
  requests-once who xid next (Lookup w name) text by few =
      asked-once who xid next (Lookup w name) (host_row s.kept who.host).inc _ (looks s.phase who xid next (Lookup w name))
  requests-once who xid next (Create w seq name blocks) text by few = admits-once who xid next (Create w seq name blocks) text by refl few
  requests-once who xid next (GetAttr w file) text by few =
      asked-once who xid next (GetAttr w file) (host_row s.kept who.host).inc _ (looks s.phase who xid next (GetAttr w file))
  requests-once who xid next (Read w q file block want) text by few =
      asked-once who xid next (Read w q file block want) (host_row s.kept who.host).inc _ (looks s.phase who xid next (Read w q file block want))
  requests-once who xid next (Write w seq file block first last push body) text by few =
      admits-once who xid next (Write w seq file block first last push body) text by refl few
  requests-once who xid next (GetLease w file want) text by few =
      asked-once who xid next (GetLease w file want) (host_row s.kept who.host).inc _ (looks s.phase who xid next (GetLease w file want))
  requests-once who xid next (Vacated w file tag) text by few =
      asked-once who xid next (Vacated w file tag) (host_row s.kept who.host).inc _ (vacated-once who file tag)
  requests-once who xid next (Evicted w file tag) text by few = asked-once who xid next (Evicted w file tag) (host_row s.kept who.host).inc _ quiet-once
  requests-once who xid next (Resize w seq q file blocks) text by few = admits-once who xid next (Resize w seq q file blocks) text by refl few
  requests-once who xid next (Remove w seq q file) text by few = admits-once who xid next (Remove w seq q file) text by refl few

  below-most : (who : Who) (sender : ℕ) → (who.host == sender && nat_lt who.host most_hosts) ≡ true → who.host < most_hosts
  below-most who sender e = grind (arith, nat_tests)

  answers-once : (sender xid next : ℕ) (r : Request) (o : Option Who) → (Given → HasText r) → asker r ≡ o → Once (answer_request s sender xid next r o)
  answers-once sender xid next r None text by = said-once sender (reply xid Answer.Null)
  answers-once sender xid next r (Some who) text by =
      choice Once (who.host == sender && nat_lt who.host most_hosts) _ _ (λ of_host. requests-once who xid next r text by
      (below-most who sender of_host)) (λ other. dropped-once wrong_host)

  receives-once : (sender next : ℕ) (d : Datagram) → (Given → HasItsText d) → Once (receive s sender next d)
  receives-once sender next too_long text = dropped-once _
  receives-once sender next (no_message fault) text = dropped-once _
  receives-once sender next no_call text = dropped-once _
  receives-once sender next (other_rpc xid) text = said-once sender _
  receives-once sender next (other_program xid) text = said-once sender _
  receives-once sender next (other_version xid) text = said-once sender _
  receives-once sender next (unknown_procedure xid) text = said-once sender _
  receives-once sender next garbage_vacated text = dropped-once _
  receives-once sender next (garbage xid) text = said-once sender _
  receives-once sender next (request xid r) text = answers-once sender xid next r (asker r) text refl

  -- ---- ticks and crashes

  fences-once : (id : ℕ) (o : Option File) → find_file id s.kept.files ≡ o → can_rise o ≡ true → IsChangedWithin Given s.kept (fence s.kept o)
  fences-once id None found can = unchanged Given s.kept s.kept refl
  fences-once id (Some file) found can = record {
    change = fencing_of (row_of_found (Some file));
    is_applied = applied-fencing s.kept (Some file) id found;
    fits = fencing-fits s.kept file (orderly-within s.kept within) (ap (λ i. find_file i s.kept.files) (found-id id s.kept.files file found) ∙ found);
    within = λ given. fencing-within s.kept within id file found can;
  }

  -- a row that is due ends, or it stays
  due-once : (now : ℕ) (rows : List Row) (row : Row) → Once (end_due (at_time s now) rows row)
  unfolding at_time quiet with_table ends_writing keeping_with
  due-once now rows row =
      choice Once (can_rise (find_file row.file s.kept.files)) _ _ (λ can. (fences-once row.file (find_file row.file s.kept.files) refl can, refl))
      (λ last. (unchanged Given s.kept s.kept refl, refl))

  ends-once : (now : ℕ) (rows : List Row) (o : Option Row) → Once (end_writing (at_time s now) rows o)
  unfolding at_time quiet with_table
  ends-once now rows None = (unchanged Given s.kept s.kept refl, refl)
  ends-once now rows (Some row) = due-once now rows row

  opens-once : (now until heard : ℕ) → (Given → (shortest_term ≤ s.longest) × (s.longest ≤ longest_term)) → Once (opens (at_time s now) until heard)
  unfolding at_time opens opened_heads
  opens-once now until heard terms = (
    record {
      change = Some (change_of_heads (opened_heads s.kept s.longest));
      is_applied = applied-opening s.kept s.longest;
      fits = heads-fit s.kept (opened_heads s.kept s.longest) (omega arith);
      within = λ given. opened-within s.kept s.longest within (terms given).0 (terms given).1;
    },
    refl,
  )

  waits-once : (now : ℕ) → Once (quiet (at_time s now))
  unfolding at_time quiet
  waits-once now = (unchanged Given s.kept s.kept refl, refl)

  ticks-in : (now : ℕ) (phase : Phase) → (Given → (shortest_term ≤ s.longest) × (s.longest ≤ longest_term)) → Once (tick_in (at_time s now) phase)
  unfolding at_time
  ticks-in now serving terms = ends-once now (end_reading now s.table.rows) (find (is_due now) (end_reading now s.table.rows))
  ticks-in now (recovering until heard last) terms = choice Once (nat_le until now) _ _ (λ over. opens-once now until heard terms) (λ early. waits-once now)

  boots-next : (kept : Kept) (longest : ℕ) → kept.next ≤ (booted_heads kept longest).next
  boots-next kept longest = choice (λ (heads : Heads). kept.next ≤ heads.next) (kept.opened == 0) _ _ (λ first. omega arith) (λ later. omega arith)

  crashes-once :
      (longest : ℕ) → (Given → (s.kept.boot + 1 < 2 ^ 31) × (shortest_term ≤ longest) × (longest ≤ longest_term))
      → IsChangedWithin Given s.kept (crash s longest).server.kept
  unfolding crash boot
  crashes-once longest terms = record {
    change = Some (change_of_heads (booted_heads s.kept longest));
    is_applied = applied-boot s.kept longest;
    fits = heads-fit s.kept (booted_heads s.kept longest) (boots-next s.kept longest);
    within = λ given. booted-within s.kept longest within (terms given).0 (terms given).1 (terms given).2;
  }

-- each step changes once
pub each-step-changes-once : EachStepChangesOnce
each-step-changes-once = record {
  receives = λ s sender next d within. once-of ⊥ s.kept _ (receives-once s within ⊥ sender next d (λ none. absurd none)).0;
  ticks = λ s now within. once-of ⊥ s.kept _ (ticks-in s within ⊥ now s.phase (λ none. absurd none)).0;
  crashes = λ s longest within. once-of ⊥ s.kept _ (crashes-once s within ⊥ longest (λ none. absurd none));
}

-- a server whose kept state is within its bounds, and whose longest term is one that there can be
server-within : (s t : Server) (longest : ℕ) → IsWithinBounds t.kept → t.longest ≡ longest → shortest_term ≤ longest → longest ≤ longest_term
    → IsServerWithin t
server-within s t longest kept is long short = record { kept = kept; long = omega arith; short = omega arith }

module _ (s : Server) (w : IsServerWithin s) where
  received-within : (sender next : ℕ) (d : Datagram) → HasItsText d → IsServerWithin (receive s sender next d).server
  received-within sender next d text =
      let once = receives-once s w.kept (HasItsText d) sender next d (λ given. given) in
      server-within s (receive s sender next d).server s.longest (within-of (HasItsText d) s.kept _ w.kept once.0 text) once.1 w.long w.short

  ticked-within : (now : ℕ) → IsServerWithin (tick s now).server
  ticked-within now =
      let once = ticks-in s w.kept ⊤ now s.phase (λ given. (w.long, w.short)) in
      server-within s (tick s now).server s.longest (within-of ⊤ s.kept _ w.kept once.0 tt) once.1 w.long w.short

  crashed-within : (longest : ℕ) → s.kept.boot + 1 < 2 ^ 31 → shortest_term ≤ longest → longest ≤ longest_term → IsServerWithin (crash s longest).server
  unfolding crash boot
  crashed-within longest more long short =
      server-within s (crash s longest).server longest (within-of ⊤ s.kept _ w.kept (crashes-once s w.kept ⊤ longest (λ given. (more, long, short)))
      tt) refl long short

-- each step from a kept state within its bounds leads to one within them
pub bounds-are-kept : BoundsAreKept
bounds-are-kept = record {
  receives = λ s sender next d w text. received-within s w sender next d text;
  ticks = λ s now w. ticked-within s w now;
  crashes = λ s longest w more long short. crashed-within s w longest more long short;
}

-- requests that are decided once are decided from the kept state and the gate
pub requests-are-decided : RequestsAreDecided
requests-are-decided s sender xid next r who by once same few within = receives-decided s sender xid next r who by once same few
    (next-free s.kept (orderly-within s.kept within))
