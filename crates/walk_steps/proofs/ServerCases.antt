-- The server's control flow, walked once: what is shown of each outcome, with what led to it, holds of the step.
use Rattle.std.proofs.Common.{◌≡◌, ◌<◌, ℕ, ◌-◌, ◌==◌, true, false, ◌&&◌, nat_lt, List, Option, Some, None, if◌then◌else◌}
use Rattle.std.proofs.Common.{refl, subst}
use Rattle.std.specs.List.{find}
use Rattle.std.specs.Prelude.{slice_get, nat_le}
use Rattle.std.proofs.lemmas.Bool.{and_parts}
use Rattle.nq_base.specs.declared.Question.{Question}
use Rattle.nq_base.specs.declared.Refusal.{Refusal}
use Rattle.nq_base.specs.declared.Reply.{Reply as Answer}
use Rattle.nq_base.specs.declared.Request.{Request}
use Rattle.nq_base.specs.declared.Row.{Row}
use Rattle.nq_base.specs.declared.Want.{Want}
use Rattle.nq_base.specs.declared.Who.{Who}
use Rattle.nq_model.specs.protocol.Ask.{free, put_off_by_own, granted, no_lease, ask}
use Rattle.nq_model.specs.protocol.Decide.{decide}
use Rattle.nq_model.specs.protocol.Decide.{decided_once, in_the_way}
use Rattle.nq_model.specs.protocol.Decide.{verdict_reply, row_after, commits, commits_within}
use Rattle.nq_model.specs.protocol.Kept.{File, find_file, find_name, can_be_kept, can_rise}
use Rattle.nq_model.specs.protocol.Message.{Message, call, reply, error, datagram_of, Datagram, too_long, no_message, no_call, other_rpc, other_program}
use Rattle.nq_model.specs.protocol.Message.{other_version, unknown_procedure, garbage_vacated, garbage, request, was_too_long, was_no_message, was_no_call}
use Rattle.nq_model.specs.protocol.Message.{wrong_host, old_incarnation, out_of_bounds, no_reply_owed, asker, sequence_of}
use Rattle.nq_model.specs.protocol.Profile.{most_hosts}
use Rattle.nq_model.specs.protocol.Server.{Phase, serving, recovering, Server, ServerStep, quiet, drops, replies, with_table}
use Rattle.nq_model.specs.protocol.ServerStep.{row_of_attach, attaches, attach_later, attach, look_up, get_attr, read, read_block, read_of, get_lease}
use Rattle.nq_model.specs.protocol.ServerStep.{lease_of, tells_later, serves, to_read, access_of, is_attach, look, perform, not_attached, admit}
use Rattle.nq_model.specs.protocol.ServerStep.{answer_request, receive, at_time, opens, is_due, end_reading, ends_writing, end_writing, tick_in, tick}
use Rattle.nq_model.specs.protocol.Table.{with_rows}
use Rattle.walk_steps.proofs.AskCases.{with_waiter, IsGranted, asks}
use Rattle.walk_steps.proofs.Rows.{choice, same-number}
use Rattle.walk_steps.proofs.Tests.{is-below, is-at-most, is-not-at-most, is-above, is-same}
use Rattle.walk_steps.proofs.ServerOutcomes.{only_asks, line_of, IsFrom, IsCurrent, unattached, attached_again}
use Rattle.walk_steps.proofs.ServerOutcomes.{not_yet, no_entry, entry, no_attributes, attributes, no_file, no_block, decided_again, is_old, IsAsking}
use Rattle.walk_steps.proofs.ServerOutcomes.{ServerCases, none_due, first_stays}
use Rattle.walk_steps.proofs.ServerOutcomes.{TickCases}
use Rattle.walk_steps.proofs.DecideCases.{decides-fresh, found-file, is-attach-of}

module _ (s : Server) (sender next : ℕ) (d : Datagram) (Q : ServerStep → Type 0) (cases : ServerCases s sender next d Q) where
  decides-once : (xid : ℕ) (who : Who) (seq : ℕ) (r : Request) → d ≡ request xid r → asker r ≡ Some who → sequence_of r ≡ Some seq
      → IsCurrent s sender who → Q (decided_once s who seq xid r (line_of s who))
  decides-once xid who seq r e by sq current =
      choice
      Q
      (seq == (line_of s who).seq)
      (replies s who.host xid (verdict_reply who.inc (line_of s who).verdict (line_of s who).value r))
      (if nat_lt seq (line_of s who).seq then replies s who.host xid (Answer.Refused who.inc Refusal.Old) else commits_within s who seq xid r (decide s who r))
      (λ again. cases.replying xid who r _ e by current.from (decided_again seq current.inc sq (same-number _ _ again) refl))
      (λ differs.
      choice
      Q
      (nat_lt seq (line_of s who).seq)
      (replies s who.host xid (Answer.Refused who.inc Refusal.Old))
      (commits_within s who seq xid r (decide s who r))
      (λ below. cases.replying xid who r _ e by current.from (is_old seq current.inc sq (is-below _ _ below) refl))
      (λ above.
      choice Q (can_be_kept (row_after who seq (decide s who r))) (commits who seq xid r (decide s who r)) (drops s out_of_bounds)
      (λ within. (decides-fresh s sender next d Q cases) xid who seq r e by sq (record { current = current; above = is-above _ _ differs above }) s.phase refl)
      (λ past. cases.dropping out_of_bounds)))

  -- what the lease table tells a reader
  reads-without : (xid : ℕ) (who : Who) (q block : ℕ) (f : File) (body : List ℕ) → d ≡ request xid (Request.Read who q f.id block None)
      → IsAsking s sender who f → slice_get f.bodies block ≡ Some body → Q (read_of s who xid next q f block body None (ask s.table (to_read s who f None)))
  unfolding free
  reads-without xid who q block f body e asking there =
      asks
      s.table
      (to_read s who f None)
      (λ answer. Q (read_of s who xid next q f block body None answer))
      (record {
        later = λ clash c. cases.putting_off xid who (Request.Read who q f.id block None) f clash e refl refl asking c;
        later_waiting = λ clash want c w own room. absurd (cc);
        freely = λ c w. cases.reading xid who q block f body e asking there c;
        later_by_own = λ want own c w o ev. absurd (cc);
        granting = λ want row term c w g. absurd (cc);
        full = λ want c w own room. absurd (cc);
      })

  reads-wanting : (xid : ℕ) (who : Who) (q block : ℕ) (want : Want) (f : File) (body : List ℕ)
      → d ≡ request xid (Request.Read who q f.id block (Some want)) → IsAsking s sender who f → slice_get f.bodies block ≡ Some body
      → Q (read_of s who xid next q f block body (Some want) (ask s.table (to_read s who f (Some want))))
  unfolding put_off_by_own granted no_lease
  reads-wanting xid who q block want f body e asking there =
      let r : Request = Request.Read who q f.id block (Some want) in
      let question : Question = to_read s who f (Some want) in
      asks
      s.table
      question
      (λ answer. Q (read_of s who xid next q f block body (Some want) answer))
      (record {
        later = λ clash c. cases.putting_off xid who r f clash e refl refl asking c;
        later_waiting = λ clash w c is own room.
            let same : want ≡ w = cc in
            subst (λ w. Q (tells_later s who xid (with_waiter s.table question w) (in_the_way s f.id who.host (access_of (Some want))))) same
            (cases.putting_off_waiting xid who r f clash want e refl refl refl asking c own room);
        freely = λ c w. absurd (cc);
        later_by_own = λ w own c is o evicting. cases.putting_off_by_own xid who r f want own e refl refl refl asking c o evicting;
        granting = λ w row term c is g.
            let same : w ≡ want = cc in
            cases.reading_granted xid who q block want f body row term e asking there c (subst (λ w. IsGranted s.table question w row term) same g);
        full = λ w c is own room. cases.reading_full xid who q block want f body e asking there c own room;
      })

  reads-block : (xid : ℕ) (who : Who) (q block : ℕ) (want : Option Want) (f : File) → d ≡ request xid (Request.Read who q f.id block want)
      → IsAsking s sender who f → (body : Option (List ℕ)) → slice_get f.bodies block ≡ body → Q (read_block s who xid next q f block want body)
  reads-block xid who q block want f e asking None there =
      cases.replying xid who _ _ e refl asking.current.from (no_block q f.id block want f asking.current.inc asking.serves refl asking.found there refl)
  reads-block xid who q block None f e asking (Some body) there = reads-without xid who q block f body e asking there
  reads-block xid who q block (Some want) f e asking (Some body) there = reads-wanting xid who q block want f body e asking there

  reads-file : (xid : ℕ) (who : Who) (q file block : ℕ) (want : Option Want) → d ≡ request xid (Request.Read who q file block want)
      → IsCurrent s sender who → s.phase ≡ serving → (found : Option File) → find_file file s.kept.files ≡ found
      → Q (read s who xid next q block want found)
  reads-file xid who q file block want e current serves None found =
      cases.replying xid who _ _ e refl current.from (no_file file current.inc serves refl found refl)
  reads-file xid who q file block want e current serves (Some f) found =
      subst
      (λ i. d ≡ request xid (Request.Read who q i block want) → find_file i s.kept.files ≡ Some f → Q (read s who xid next q block want (Some f)))
      (found-file file s.kept.files f found)
      (λ e found. reads-block xid who q block want f e (record { current = current; serves = serves; found = found }) (slice_get f.bodies block) refl)
      e
      found

  -- what it tells one who wants a lease
  leases-kept : (xid : ℕ) (who : Who) (want : Want) (f : File) → d ≡ request xid (Request.GetLease who f.id want) → IsAsking s sender who f
      → Q (lease_of s who xid f want (ask s.table (to_read s who f (Some want))))
  unfolding put_off_by_own granted no_lease
  leases-kept xid who want f e asking =
      let r : Request = Request.GetLease who f.id want in
      let question : Question = to_read s who f (Some want) in
      asks
      s.table
      question
      (λ answer. Q (lease_of s who xid f want answer))
      (record {
        later = λ clash c. cases.putting_off xid who r f clash e refl refl asking c;
        later_waiting = λ clash w c is own room.
            let same : want ≡ w = cc in
            subst (λ w. Q (tells_later s who xid (with_waiter s.table question w) (in_the_way s f.id who.host (access_of (Some want))))) same
            (cases.putting_off_waiting xid who r f clash want e refl refl refl asking c own room);
        freely = λ c w. absurd (cc);
        later_by_own = λ w own c is o evicting. cases.putting_off_by_own xid who r f want own e refl refl refl asking c o evicting;
        granting = λ w row term c is g.
            let same : w ≡ want = cc in
            cases.leasing xid who want f row term e asking c (subst (λ w. IsGranted s.table question w row term) same g);
        full = λ w c is own room. cases.leasing_full xid who want f e asking c own room;
      })

  leases-file : (xid : ℕ) (who : Who) (file : ℕ) (want : Want) → d ≡ request xid (Request.GetLease who file want) → IsCurrent s sender who
      → s.phase ≡ serving → (found : Option File) → find_file file s.kept.files ≡ found → Q (get_lease s who xid want found)
  leases-file xid who file want e current serves None found = cases.replying xid who _ _ e refl current.from (no_file file current.inc serves refl found refl)
  leases-file xid who file want e current serves (Some f) found =
      subst
      (λ i. d ≡ request xid (Request.GetLease who i want) → find_file i s.kept.files ≡ Some f → Q (get_lease s who xid want (Some f)))
      (found-file file s.kept.files f found)
      (λ e found. leases-kept xid who want f e (record { current = current; serves = serves; found = found }))
      e
      found

  looks-up : (xid : ℕ) (who : Who) (name : List ℕ) → d ≡ request xid (Request.Lookup who name) → IsCurrent s sender who → s.phase ≡ serving
      → (found : Option File) → find_name name s.kept.files ≡ found → Q (look_up s who xid found)
  looks-up xid who name e current serves None found = cases.replying xid who _ _ e refl current.from (no_entry name current.inc serves refl found refl)
  looks-up xid who name e current serves (Some f) found = cases.replying xid who _ _ e refl current.from (entry name f current.inc serves refl found refl)

  gets-attributes : (xid : ℕ) (who : Who) (file : ℕ) → d ≡ request xid (Request.GetAttr who file) → IsCurrent s sender who → s.phase ≡ serving
      → (found : Option File) → find_file file s.kept.files ≡ found → Q (get_attr s who xid found)
  gets-attributes xid who file e current serves None found =
      cases.replying xid who _ _ e refl current.from (no_attributes file current.inc serves refl found refl)
  gets-attributes xid who file e current serves (Some f) found =
      cases.replying xid who _ _ e refl current.from (attributes file f current.inc serves refl found refl)

  looks : (xid : ℕ) (who : Who) (r : Request) → d ≡ request xid r → asker r ≡ Some who → only_asks r ≡ true → IsCurrent s sender who → (phase : Phase)
      → s.phase ≡ phase → Q (look s phase who xid next r)
  looks xid who (Request.Lookup w name) e by only current serving p =
      let same : d ≡ request xid (Request.Lookup who name) = cc in
      looks-up xid who name same current p (find_name name s.kept.files) refl
  looks xid who (Request.GetAttr w file) e by only current serving p =
      let same : d ≡ request xid (Request.GetAttr who file) = cc in
      gets-attributes xid who file same current p (find_file file s.kept.files) refl
  looks xid who (Request.Read w q file block want) e by only current serving p =
      let same : d ≡ request xid (Request.Read who q file block want) = cc in
      reads-file xid who q file block want same current p (find_file file s.kept.files) refl
  looks xid who (Request.GetLease w file want) e by only current serving p =
      let same : d ≡ request xid (Request.GetLease who file want) = cc in
      leases-file xid who file want same current p (find_file file s.kept.files) refl
  looks xid who other e by only current serving p = absurd (cc)
  looks xid who r e by only current (recovering until heard last) p =
      cases.replying xid who r _ e by current.from (not_yet current.inc (record { until = until; heard = heard; last = last; phase = p }) only refl)

  -- a request of the kept incarnation
  performs : (xid : ℕ) (who : Who) (r : Request) → d ≡ request xid r → asker r ≡ Some who → is_attach r ≡ false → IsCurrent s sender who
      → Q (perform s who xid next (line_of s who) r)
  performs xid who Request.Null e by attach current = cases.stays
  performs xid who (Request.Attach w) e by attach current = absurd (cc)
  performs xid who (Request.Lookup w name) e by attach current = looks xid who _ e by refl current s.phase refl
  performs xid who (Request.Create w seq name blocks) e by attach current = decides-once xid who seq _ e by refl current
  performs xid who (Request.GetAttr w file) e by attach current = looks xid who _ e by refl current s.phase refl
  performs xid who (Request.Read w q file block want) e by attach current = looks xid who _ e by refl current s.phase refl
  performs xid who (Request.Write w seq file block first last push body) e by attach current = decides-once xid who seq _ e by refl current
  performs xid who (Request.GetLease w file want) e by attach current = looks xid who _ e by refl current s.phase refl
  performs xid who (Request.Vacated w file tag) e by attach current =
      let same : d ≡ request xid (Request.Vacated who file tag) = cc in
      cases.vacating xid who file tag same current
  performs xid who (Request.Evicted w file tag) e by attach current = cases.stays
  performs xid who (Request.Resize w seq q file blocks) e by attach current = decides-once xid who seq _ e by refl current
  performs xid who (Request.Remove w seq q file) e by attach current = decides-once xid who seq _ e by refl current

  -- a request of an incarnation that is not attached
  is-stranger : (xid : ℕ) (who : Who) (r : Request) → d ≡ request xid r → asker r ≡ Some who → is_attach r ≡ false → IsFrom sender who
      → (line_of s who).inc < who.inc → Q (not_attached s who xid r)
  is-stranger xid who (Request.Vacated w file tag) e by attach from later = cases.stays
  is-stranger xid who other e by attach from later = cases.replying xid who _ _ e by from (unattached later attach refl)

  attaches-by : (xid : ℕ) (who : Who) → d ≡ request xid (Request.Attach who) → IsFrom sender who → Q (attach s who xid (line_of s who))
  attaches-by xid who e from =
      choice
      Q
      (nat_lt (line_of s who).inc who.inc)
      (attach_later s who xid)
      (if nat_lt who.inc (line_of s who).inc then drops s old_incarnation else replies s who.host xid (Answer.Attach who.inc))
      (λ later.
      choice Q (can_be_kept (row_of_attach who)) (attaches s who xid) (drops s out_of_bounds)
      (λ within. cases.attaching xid who e from (is-below _ _ later))
      (λ past. cases.dropping out_of_bounds))
      (λ no_later.
      choice
      Q
      (nat_lt who.inc (line_of s who).inc)
      (drops s old_incarnation)
      (replies s who.host xid (Answer.Attach who.inc))
      (λ older. cases.dropping old_incarnation)
      (λ no_older. cases.replying xid who _ _ e refl from (attached_again refl (is-same _ _ no_older no_later) refl)))

  admits : (xid : ℕ) (who : Who) (r : Request) → d ≡ request xid r → asker r ≡ Some who → IsFrom sender who → Q (admit s who xid next r (line_of s who))
  admits xid who r e by from =
      choice
      Q
      (is_attach r)
      (attach s who xid (line_of s who))
      (if nat_lt who.inc (line_of s who).inc
      then drops s old_incarnation
      else (if nat_lt (line_of s who).inc who.inc then not_attached s who xid r else perform s who xid next (line_of s who) r))
      (λ attaching.
      let is : r ≡ Request.Attach who = is-attach-of r who attaching by in
      let same : d ≡ request xid (Request.Attach who) = cc in
      attaches-by xid who same from)
      (λ other.
      choice
      Q
      (nat_lt who.inc (line_of s who).inc)
      (drops s old_incarnation)
      (if nat_lt (line_of s who).inc who.inc then not_attached s who xid r else perform s who xid next (line_of s who) r)
      (λ older. cases.dropping old_incarnation)
      (λ no_older.
      choice
      Q
      (nat_lt (line_of s who).inc who.inc)
      (not_attached s who xid r)
      (perform s who xid next (line_of s who) r)
      (λ later. is-stranger xid who r e by other from (is-below _ _ later))
      (λ no_later. performs xid who r e by other (record { from = from; inc = is-same _ _ no_older no_later }))))

  answers-who : (xid : ℕ) (r : Request) → d ≡ request xid r → (who : Option Who) → asker r ≡ who → Q (answer_request s sender xid next r who)
  answers-who xid Request.Null e None by = cases.answers_null xid e
  answers-who xid other e None by = absurd (cc)
  answers-who xid r e (Some who) by =
      choice
      Q
      (who.host == sender && nat_lt who.host most_hosts)
      (admit s who xid next r (line_of s who))
      (drops s wrong_host)
      (λ right.
      let a = and_parts _ _ right in
      admits xid who r e by (record { host = same-number _ _ a.0; possible = is-below _ _ a.1 }))
      (λ wrong. cases.dropping wrong_host)

-- a datagram that is a request is the call that was sent
pub request-sent : (m : Message) (xid : ℕ) (r : Request) → datagram_of m ≡ request xid r → m ≡ call xid r
request-sent (call x (Request.Evicted who file tag)) xid r h = cc
request-sent (call x other) xid r h = cc
request-sent (reply x answer) xid r h = cc
request-sent (error x e) xid r h = cc

-- what the server makes of a datagram
pub server-hears : (s : Server) (sender next : ℕ) (d : Datagram) (Q : ServerStep → Type 0) → ServerCases s sender next d Q → Q (receive s sender next d)
server-hears s sender next too_long Q cases = cases.dropping was_too_long
server-hears s sender next (no_message fault) Q cases = cases.dropping (was_no_message fault)
server-hears s sender next no_call Q cases = cases.dropping was_no_call
server-hears s sender next (other_rpc xid) Q cases = cases.erring _ refl
server-hears s sender next (other_program xid) Q cases = cases.erring _ refl
server-hears s sender next (other_version xid) Q cases = cases.erring _ refl
server-hears s sender next (unknown_procedure xid) Q cases = cases.erring _ refl
server-hears s sender next garbage_vacated Q cases = cases.dropping no_reply_owed
server-hears s sender next (garbage xid) Q cases = cases.erring _ refl
server-hears s sender next (request xid r) Q cases = answers-who s sender next (request xid r) Q cases xid r refl (asker r) refl

ticks-in : (s : Server) (now : ℕ) (Q : ServerStep → Type 0) → TickCases s now Q → (phase : Phase) → s.phase ≡ phase → Q (tick_in (at_time s now) phase)
unfolding at_time
ticks-in s now Q cases serving p = ends (find (is_due now) (end_reading now s.table.rows)) refl
  where
    ends : (row : Option Row) → find (is_due now) (end_reading now s.table.rows) ≡ row → Q (end_writing (at_time s now) (end_reading now s.table.rows) row)
    ends None e = cases.ends_reading p (none_due e)
    ends (Some row) e =
        choice Q (can_rise (find_file row.file s.kept.files)) (ends_writing (at_time s now) (end_reading now s.table.rows) row)
        (quiet (with_table (at_time s now) (with_rows s.table (end_reading now s.table.rows))))
        (λ can. cases.ending_writing row p e)
        (λ last. cases.ends_reading p (first_stays row e last))
ticks-in s now Q cases (recovering until heard last) p =
    choice Q (nat_le until now) (opens (at_time s now) until heard) (quiet (at_time s now))
    (λ over. cases.opening until heard last p (is-at-most _ _ over))
    (λ goes_on. cases.waits until heard last p (is-not-at-most _ _ goes_on))

-- what a tick of the server's clock does
pub server-ticks : (s : Server) (now : ℕ) (Q : ServerStep → Type 0) → TickCases s now Q → Q (tick s now)
server-ticks s now Q cases = ticks-in s now Q cases s.phase refl
