-- No answer rests on the table with which the last boot served.
use Rattle.std.proofs.Common.{◌≡◌, ℕ, ◌+◌, ◌==◌, ◌&&◌, Bool, true, false, List, Option, Some, None, nat_lt, if◌then◌else◌, refl, sym, subst, ap, ◌∙◌}
use Rattle.std.specs.Prelude.{nat_le}
use Rattle.nq_base.specs.declared.HostRow.{HostRow}
use Rattle.nq_base.specs.declared.PushBase.{PushBase}
use Rattle.nq_base.specs.declared.Refusal.{Refusal}
use Rattle.nq_base.specs.declared.Reply.{Reply as Answer}
use Rattle.nq_base.specs.declared.Request.{Request}
use Rattle.nq_base.specs.declared.Request.TheVariants.{Null, Attach, Lookup, Create, GetAttr, Read, Write, GetLease, Vacated, Evicted, Resize, Remove}
use Rattle.nq_base.specs.declared.Tag.{Tag}
use Rattle.nq_base.specs.declared.Verdict.{Verdict}
use Rattle.nq_base.specs.declared.Verdict.TheVariants.{Stale, Invalid, Fenced, TryLater}
use Rattle.nq_base.specs.declared.Who.{Who}
use Rattle.nq_model.specs.protocol.Decide.{Decision, decided_once, decides, wrote, stores_recovering, decide_push_recovering, decide_write_recovering, decide}
use Rattle.nq_model.specs.protocol.Decide.{commits, commits_within, row_after, verdict_reply}
use Rattle.nq_model.specs.protocol.Kept.{File, Kept, blocks_of, find_file, can_be_kept, host_row}
use Rattle.nq_model.specs.protocol.Message.{Message, Reason, Datagram, too_long, no_message, no_call, other_rpc, other_program, other_version}
use Rattle.nq_model.specs.protocol.Message.{unknown_procedure, garbage_vacated, garbage, request, asker, error, rpc_mismatch, program_unavailable}
use Rattle.nq_model.specs.protocol.Message.{program_mismatch, procedure_unavailable, garbage_arguments, was_too_long, was_no_message, was_no_call, wrong_host}
use Rattle.nq_model.specs.protocol.Message.{old_incarnation, out_of_bounds, no_reply_owed}
use Rattle.nq_model.specs.protocol.Profile.{most_hosts, skew, write_slack}
use Rattle.nq_model.specs.protocol.Server.{Phase, serving, recovering, Server, ServerStep, quiet, drops, says, replies, refuses, keeping, keeping_with}
use Rattle.nq_model.specs.protocol.Server.{with_table}
use Rattle.nq_model.specs.protocol.ServerStep.{attaches, attach_later, attach, vacates, row_of_attach, perform, not_attached, is_attach, admit, answer_request}
use Rattle.nq_model.specs.protocol.ServerStep.{receive, at_time, opens, tick, boot}
use Rattle.nq_model.specs.protocol.Table.{Table}
use Rattle.nq_laws.specs.TornRuns.{phase_without, without_last}

-- a step without the table
abbrev pub step_without : ServerStep → ServerStep
step_without t = record t { server = without_last t.server }

-- two steps are alike
abbrev pub Alike : (t u : ServerStep) → Type 0
Alike t u = step_without t ≡ step_without u

if-alike : (c : Bool) (t u v w : ServerStep) → Alike t v → Alike u w → Alike (if c then t else u) (if c then v else w)
if-alike true t u v w one other = one
if-alike false t u v w one other = other

-- a decision without the table
abbrev decision_without : Decision → Decision
decision_without d = record d { server = without_last d.server }

abbrev Agree : (d e : Decision) → Type 0
Agree d e = decision_without d ≡ decision_without e

if-agree : (c : Bool) (d e f g : Decision) → Agree d f → Agree e g → Agree (if c then d else e) (if c then f else g)
if-agree true d e f g one other = one
if-agree false d e f g one other = other

committed : (who : Who) (seq xid : ℕ) (r : Request) (d e : Decision) → Agree d e → Alike (commits who seq xid r d) (commits who seq xid r e)
unfolding commits keeping
committed who seq xid r d e same = ap (λ z. commits who seq xid r z) same

-- ---- a server that recovers, with such a table and without one

module _ (s : Server) (until heard : ℕ) (last : Option Table) where
  abbrev a : Server
  a = record s { phase = recovering until heard last }

  abbrev b : Server
  b = record s { phase = recovering until heard None }

  dropped : (why : Reason) → Alike (drops a why) (drops b why)
  unfolding drops
  dropped why = refl

  said : (host : ℕ) (m : Message) → Alike (says a host m) (says b host m)
  unfolding says
  said host m = refl

  replied : (host xid : ℕ) (r : Answer) → Alike (replies a host xid r) (replies b host xid r)
  unfolding says
  replied host xid r = refl

  refused : (who : Who) (xid : ℕ) (status : Refusal) → Alike (refuses a who xid status) (refuses b who xid status)
  unfolding says
  refused who xid status = refl

  unmoved : Alike (quiet a) (quiet b)
  unfolding quiet
  unmoved = refl

  -- ---- incarnations and leases

  begun : (who : Who) (xid : ℕ) → Alike (attaches a who xid) (attaches b who xid)
  unfolding attaches keeping_with
  begun who xid = refl

  begun-later : (who : Who) (xid : ℕ) → Alike (attach_later a who xid) (attach_later b who xid)
  begun-later who xid =
      if-alike (can_be_kept (row_of_attach who)) (attaches a who xid) (drops a out_of_bounds) (attaches b who xid) (drops b out_of_bounds)
      (begun who xid) (dropped out_of_bounds)

  attached : (who : Who) (xid : ℕ) (line : HostRow) → Alike (attach a who xid line) (attach b who xid line)
  attached who xid line =
      if-alike
      (nat_lt line.inc who.inc)
      (attach_later a who xid)
      (if nat_lt who.inc line.inc then drops a old_incarnation else replies a who.host xid (Answer.Attach who.inc))
      (attach_later b who xid)
      (if nat_lt who.inc line.inc then drops b old_incarnation else replies b who.host xid (Answer.Attach who.inc))
      (begun-later who xid)
      (if-alike (nat_lt who.inc line.inc) (drops a old_incarnation) (replies a who.host xid (Answer.Attach who.inc)) (drops b old_incarnation)
      (replies b who.host xid (Answer.Attach who.inc))
      (dropped old_incarnation) (replied who.host xid (Answer.Attach who.inc)))

  vacated : (who : Who) (file : ℕ) (tag : Tag) → Alike (vacates a who file tag) (vacates b who file tag)
  unfolding vacates quiet with_table
  vacated who file tag = refl

  -- ---- requests that are decided once

  declined : (v : Verdict) → Agree (decides a v) (decides b v)
  unfolding decides
  declined v = refl

  stored : (who : Who) (f : File) (block first final : ℕ) (body : List ℕ)
      → Agree (stores_recovering a until last who f block first final body) (stores_recovering b until None who f block first final body)
  unfolding stores_recovering wrote keeping
  stored who f block first final body = refl

  pushed : (who : Who) (o : Option File) (block first final : ℕ) (base : PushBase) (body : List ℕ)
      → Agree (decide_push_recovering a until last who o block first final base body) (decide_push_recovering b until None who o block first final base body)
  pushed who None block first final base body = declined Stale
  pushed who (Some f) block first final base body =
      if-agree
      (nat_le (blocks_of f) block)
      (decides a Invalid)
      (if base.boot == s.kept.opened && base.base == f.rev then stores_recovering a until last who f block first final body else decides a Fenced)
      (decides b Invalid)
      (if base.boot == s.kept.opened && base.base == f.rev then stores_recovering b until None who f block first final body else decides b Fenced)
      (declined Invalid)
      (if-agree (base.boot == s.kept.opened && base.base == f.rev)
      (stores_recovering a until last who f block first final body) (decides a Fenced) (stores_recovering b until None who f block first final body)
      (decides b Fenced)
      (stored who f block first final body) (declined Fenced))

  written : (who : Who) (file block first final : ℕ) (push : Option PushBase) (body : List ℕ)
      → Agree (decide_write_recovering a until last who file block first final push body)
      (decide_write_recovering b until None who file block first final push body)
  written who file block first final None body = declined TryLater
  written who file block first final (Some base) body = pushed who (find_file file s.kept.files) block first final base body

  decided : (who : Who) (r : Request) → Agree (decide a who r) (decide b who r)
  decided who (Write w seq file block first final push body) = written who file block first final push body
  decided who other = declined TryLater

  within : (who : Who) (seq xid : ℕ) (r : Request) (d e : Decision) → Agree d e → Alike (commits_within a who seq xid r d) (commits_within b who seq xid r e)
  within who seq xid r d e same =
      subst (λ row. Alike (commits_within a who seq xid r d) (if can_be_kept row then commits who seq xid r e else drops b out_of_bounds))
      (ap (λ z. row_after who seq z) same)
      (if-alike (can_be_kept (row_after who seq d)) (commits who seq xid r d) (drops a out_of_bounds) (commits who seq xid r e) (drops b out_of_bounds)
      (committed who seq xid r d e same) (dropped out_of_bounds))

  once : (who : Who) (seq xid : ℕ) (r : Request) (line : HostRow) → Alike (decided_once a who seq xid r line) (decided_once b who seq xid r line)
  once who seq xid r line =
      if-alike
      (seq == line.seq)
      (replies a who.host xid (verdict_reply who.inc line.verdict line.value r))
      (if nat_lt seq line.seq then refuses a who xid Refusal.Old else commits_within a who seq xid r (decide a who r))
      (replies b who.host xid (verdict_reply who.inc line.verdict line.value r))
      (if nat_lt seq line.seq then refuses b who xid Refusal.Old else commits_within b who seq xid r (decide b who r))
      (replied who.host xid (verdict_reply who.inc line.verdict line.value r))
      (if-alike (nat_lt seq line.seq)
      (refuses a who xid Refusal.Old) (commits_within a who seq xid r (decide a who r)) (refuses b who xid Refusal.Old)
      (commits_within b who seq xid r (decide b who r))
      (refused who xid Refusal.Old) (within who seq xid r (decide a who r) (decide b who r) (decided who r)))

  -- ---- requests

  performed : (who : Who) (xid next : ℕ) (line : HostRow) (r : Request) → Alike (perform a who xid next line r) (perform b who xid next line r)
  performed who xid next line (Create w seq name blocks) = once who seq xid (Create w seq name blocks) line
  performed who xid next line (Write w seq file block first final push body) = once who seq xid (Write w seq file block first final push body) line
  performed who xid next line (Resize w seq q file blocks) = once who seq xid (Resize w seq q file blocks) line
  performed who xid next line (Remove w seq q file) = once who seq xid (Remove w seq q file) line
  performed who xid next line (Vacated w file tag) = vacated who file tag
  performed who xid next line (Lookup w name) = refused who xid Refusal.TryLater
  performed who xid next line (GetAttr w file) = refused who xid Refusal.TryLater
  performed who xid next line (Read w q file block want) = refused who xid Refusal.TryLater
  performed who xid next line (GetLease w file want) = refused who xid Refusal.TryLater
  performed who xid next line (Attach w) = attached who xid line
  performed who xid next line (Evicted w file tag) = unmoved
  performed who xid next line Null = unmoved

  unattached : (who : Who) (xid : ℕ) (r : Request) → Alike (not_attached a who xid r) (not_attached b who xid r)
  unattached who xid (Vacated w file tag) = unmoved
  unattached who xid other = refused who xid Refusal.NotAttached

  admitted : (who : Who) (xid next : ℕ) (r : Request) (line : HostRow) → Alike (admit a who xid next r line) (admit b who xid next r line)
  admitted who xid next r line =
      if-alike
      (is_attach r)
      (attach a who xid line)
      (if nat_lt who.inc line.inc then drops a old_incarnation else (if nat_lt line.inc who.inc then not_attached a who xid r
      else perform a who xid next line r))
      (attach b who xid line)
      (if nat_lt who.inc line.inc then drops b old_incarnation else (if nat_lt line.inc who.inc then not_attached b who xid r
      else perform b who xid next line r))
      (attached who xid line)
      (if-alike
      (nat_lt who.inc line.inc)
      (drops a old_incarnation)
      (if nat_lt line.inc who.inc then not_attached a who xid r else perform a who xid next line r)
      (drops b old_incarnation)
      (if nat_lt line.inc who.inc then not_attached b who xid r else perform b who xid next line r)
      (dropped old_incarnation)
      (if-alike (nat_lt line.inc who.inc) (not_attached a who xid r) (perform a who xid next line r) (not_attached b who xid r) (perform b who xid next line r)
      (unattached who xid r) (performed who xid next line r)))

  asked : (sender xid next : ℕ) (r : Request) (o : Option Who) → Alike (answer_request a sender xid next r o) (answer_request b sender xid next r o)
  asked sender xid next r None = replied sender xid Answer.Null
  asked sender xid next r (Some who) =
      if-alike (who.host == sender && nat_lt who.host most_hosts)
      (admit a who xid next r (host_row s.kept who.host)) (drops a wrong_host) (admit b who xid next r (host_row s.kept who.host)) (drops b wrong_host)
      (admitted who xid next r (host_row s.kept who.host)) (dropped wrong_host)

  received : (sender next : ℕ) (d : Datagram) → Alike (receive a sender next d) (receive b sender next d)
  received sender next too_long = dropped was_too_long
  received sender next (no_message fault) = dropped (was_no_message fault)
  received sender next no_call = dropped was_no_call
  received sender next (other_rpc xid) = said sender (error xid rpc_mismatch)
  received sender next (other_program xid) = said sender (error xid program_unavailable)
  received sender next (other_version xid) = said sender (error xid program_mismatch)
  received sender next (unknown_procedure xid) = said sender (error xid procedure_unavailable)
  received sender next garbage_vacated = dropped no_reply_owed
  received sender next (garbage xid) = said sender (error xid garbage_arguments)
  received sender next (request xid r) = asked sender xid next r (asker r)

  ticked : (now : ℕ) → Alike (tick a now) (tick b now)
  unfolding opens quiet at_time
  ticked now =
      if-alike (nat_le until now) (opens (at_time a now) until heard) (quiet (at_time a now)) (opens (at_time b now) until heard) (quiet
      (at_time b now)) refl refl

-- ---- any server, beside the one without the table

by-phase : (f : Server → ServerStep)
    → ((s : Server) (until heard : ℕ) (last : Option Table)
    → Alike (f (record s { phase = recovering until heard last })) (f (record s { phase = recovering until heard None })))
    → (s : Server) → Alike (f s) (f (without_last s))
by-phase f recovers s = at s.phase refl
  where
    at : (p : Phase) → s.phase ≡ p → Alike (f s) (f (without_last s))
    at serving e = subst (λ p. Alike (f s) (f (record s { phase = p }))) (e ∙ sym (ap phase_without e)) refl
    at (recovering until heard last) e =
        subst (λ p. Alike (f (record s { phase = p })) (f (record s { phase = phase_without p }))) (sym e) (recovers s until heard last)

-- two servers that are alike do the same
both : (f : Server → ServerStep)
    → ((s : Server) (until heard : ℕ) (last : Option Table)
    → Alike (f (record s { phase = recovering until heard last })) (f (record s { phase = recovering until heard None })))
    → (s t : Server) → without_last s ≡ without_last t → Alike (f s) (f t)
both f recovers s t same = by-phase f recovers s ∙ ap (λ z. step_without (f z)) same ∙ sym (by-phase f recovers t)

pub receives-alike : (sender next : ℕ) (d : Datagram) (s t : Server) → without_last s ≡ without_last t
    → Alike (receive s sender next d) (receive t sender next d)
receives-alike sender next d s t same = both (λ z. receive z sender next d) (λ z until heard last. received z until heard last sender next d) s t same

pub ticks-alike : (s t : Server) → without_last s ≡ without_last t → Alike (tick s (s.now + 1)) (tick t (t.now + 1))
ticks-alike s t same = both (λ z. tick z (z.now + 1)) (λ z until heard last. ticked z until heard last (z.now + 1)) s t same

-- ---- boots

if-phase : (c : Bool) (until now : ℕ) (last : Option Table)
    → phase_without (if c then serving else recovering until now last) ≡ phase_without (if c then serving else recovering until now None)
if-phase true until now last = refl
if-phase false until now last = refl

pub boots-alike : (kept : Kept) (longest now : ℕ) (last : Option Table) → without_last (boot kept longest now last) ≡ without_last (boot kept longest now None)
unfolding boot
boots-alike kept longest now last =
    ap (λ p. record (boot kept longest now None) { phase = p }) (if-phase (kept.opened == 0) (now + kept.longest + (skew + write_slack)) now last)
