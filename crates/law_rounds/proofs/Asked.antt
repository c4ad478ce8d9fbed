-- A request that wants a lease: whether the server asks the lease table, by all but the table; and what becomes of the rows.
use Rattle.std.proofs.Common.{◌≡◌, ◌<◌, ℕ, ◌==◌, ◌&&◌, Bool, true, false, nat_lt, List, [], Option, Some, None, if◌then◌else◌, refl, sym, ap, subst}
use Rattle.std.proofs.Common.{◌∙◌, arith}
use Rattle.std.specs.Prelude.{slice_get}
use Rattle.std.proofs.lemmas.Bool.{and_parts}
use Rattle.std.proofs.lemmas.Bool.Decides.{nat_tests}
use Rattle.nq_base.specs.declared.Asked.{Asked}
use Rattle.nq_base.specs.declared.Question.{Question}
use Rattle.nq_base.specs.declared.Request.{Request}
use Rattle.nq_base.specs.declared.Row.{Row}
use Rattle.nq_base.specs.declared.Tag.{Tag}
use Rattle.nq_base.specs.declared.Want.{Want}
use Rattle.nq_base.specs.declared.Who.{Who}
use Rattle.nq_model.specs.protocol.Ask.{Reply, ask}
use Rattle.nq_model.specs.protocol.Hear.{wants_of}
use Rattle.nq_model.specs.protocol.Kept.{File, find_file, host_row}
use Rattle.nq_model.specs.protocol.Message.{Message, Reason, old_incarnation, wrong_host, request, call, datagram_of}
use Rattle.nq_model.specs.protocol.Profile.{most_hosts}
use Rattle.nq_model.specs.protocol.Server.{Phase, serving, recovering, Server, ServerStep, quiet, drops, says, with_table, after_notices}
use Rattle.nq_model.specs.protocol.ServerStep.{access_of, to_read, tells_later, serves, leases, read_of, read_asked, read_block, read, lease_asked, lease_of}
use Rattle.nq_model.specs.protocol.ServerStep.{get_lease, look, perform, not_attached, receive, vacates, vacated_rows}
use Rattle.nq_model.specs.protocol.Table.{is_writing, find_row, drop_row, same_tag, with_rows}
use Rattle.walk_steps.proofs.ClientMoves.{some-same}
use Rattle.walk_steps.proofs.Rows.{same-number, number-same}
use Rattle.walk_steps.proofs.DecideCases.{found-file}
use Rattle.walk_steps.proofs.Tests.{is-below}

-- ---- the question that a request puts to the lease table

abbrev read_question : Server → Who → (block : ℕ) → Want → File → Option (List ℕ) → Option Question
read_question s who block want f None = None
read_question s who block want f (Some body) = Some (to_read s who f (Some want))

abbrev read_file : Server → Who → (block : ℕ) → Want → Option File → Option Question
read_file s who block want None = None
read_file s who block want (Some f) = read_question s who block want f (slice_get f.bodies block)

abbrev lease_file : Server → Who → Want → Option File → Option Question
lease_file s who want None = None
lease_file s who want (Some f) = Some (to_read s who f (Some want))

abbrev while_serving : Phase → Option Question → Option Question
while_serving serving q = q
while_serving (recovering until heard last) q = None

abbrev if_current : (mine older newer : Bool) → Option Question → Option Question
if_current true false false q = q
if_current mine older newer q = None

abbrev when_current : Server → (sender : ℕ) → Who → Option Question → Option Question
when_current s sender who q =
    if_current (who.host == sender && nat_lt who.host most_hosts) (nat_lt who.inc (host_row s.kept who.host).inc)
    (nat_lt (host_row s.kept who.host).inc who.inc) q

-- the question, where a request gets so far
abbrev pub question_of : Server → (sender : ℕ) → Request → Option Question
question_of s sender (Request.Read who q file block (Some want)) = when_current s sender who
    (while_serving s.phase (read_file s who block want (find_file file s.kept.files)))
question_of s sender (Request.GetLease who file want) = when_current s sender who (while_serving s.phase (lease_file s who want (find_file file s.kept.files)))
question_of s sender other = None

-- a server is as it was, but for its table, and the number of its next notice
pub record IsSame (s v : Server) : Type 0 where
  pub is : v ≡ record s { table = v.table; notice = v.notice }

pub same-self : (s : Server) → IsSame s s
same-self s = record { is = refl }

pub same-after : (s u v : Server) → IsSame s u → IsSame u v → IsSame s v
same-after s u v a b = record { is = b.is ∙ ap (λ (x : Server). record x { table = v.table; notice = v.notice }) a.is }

-- and asks the same questions
pub same-question : (s v : Server) (sender : ℕ) (r : Request) → IsSame s v → question_of v sender r ≡ question_of s sender r
same-question s v sender r same = ap (λ (x : Server). question_of x sender r) same.is ∙ by r
  where
    by : (q : Request) → question_of (record s { table = v.table; notice = v.notice }) sender q ≡ question_of s sender q
    by (Request.Read who q file block (Some want)) = refl
    by (Request.GetLease who file want) = refl
    by other = refl

-- what a question asks for
pub record IsOf (q : Question) (host file : ℕ) (writes : Bool) : Type 0 where
  pub host_is : q.who.host ≡ host
  pub file_is : q.file ≡ file
  pub want : Want
  pub wants : q.want ≡ Some want
  pub writes_is : is_writing want.mode ≡ writes
  pub access_is : q.access ≡ access_of (Some want)

-- whether a request wants a lease to write
abbrev pub writes_for : Request → Bool
writes_for (Request.Read who q file block (Some want)) = is_writing want.mode
writes_for (Request.GetLease who file want) = is_writing want.mode
writes_for other = false

current-some : (mine older newer : Bool) (o : Option Question) (q : Question) → if_current mine older newer o ≡ Some q → (mine ≡ true) × (o ≡ Some q)
current-some true false false o q e = (refl, e)
current-some true false true o q e = absurd (cc)
current-some true true newer o q e = absurd (cc)
current-some false older newer o q e = absurd (cc)

serving-some : (phase : Phase) (o : Option Question) (q : Question) → while_serving phase o ≡ Some q → o ≡ Some q
serving-some serving o q e = e
serving-some (recovering until heard last) o q e = absurd (cc)

asked-of : (s : Server) (who : Who) (f : File) (want : Want) (q : Question) (file host : ℕ) → to_read s who f (Some want) ≡ q → f.id ≡ file → who.host
    ≡ host → IsOf q host file (is_writing want.mode)
asked-of s who f want q file host is id from = record {
  host_is = ap (λ (x : Question). x.who.host) (sym is) ∙ from;
  file_is = ap (λ (x : Question). x.file) (sym is) ∙ id;
  want = want;
  wants = ap (λ (x : Question). x.want) (sym is);
  writes_is = refl;
  access_is = ap (λ (x : Question). x.access) (sym is);
}

read-of : (s : Server) (who : Who) (block : ℕ) (want : Want) (file host : ℕ) (o : Option File) (q : Question) → find_file file s.kept.files ≡ o
    → who.host ≡ host → read_file s who block want o ≡ Some q → IsOf q host file (is_writing want.mode)
read-of s who block want file host None q found from e = absurd (cc)
read-of s who block want file host (Some f) q found from e = by (slice_get f.bodies block) e
  where
    by : (b : Option (List ℕ)) → read_question s who block want f b ≡ Some q → IsOf q host file (is_writing want.mode)
    by None g = absurd (cc)
    by (Some body) g = asked-of s who f want q file host (some-same _ _ g) (found-file file s.kept.files f found) from

lease-of : (s : Server) (who : Who) (want : Want) (file host : ℕ) (o : Option File) (q : Question) → find_file file s.kept.files ≡ o → who.host ≡ host
    → lease_file s who want o ≡ Some q → IsOf q host file (is_writing want.mode)
lease-of s who want file host None q found from e = absurd (cc)
lease-of s who want file host (Some f) q found from e = asked-of s who f want q file host (some-same _ _ e) (found-file file s.kept.files f found) from

-- the question of a request that wants a lease on a file
pub question-is : (s : Server) (host file : ℕ) (r : Request) (q : Question) → wants_of file r ≡ true → question_of s host r ≡ Some q
    → IsOf q host file (writes_for r)
question-is s host file (Request.Read who n f block (Some want)) q wants e =
    let a = current-some _ _ _ _ q e in
    let b = serving-some s.phase _ q a.1 in
    let same : f ≡ file = same-number f file (and_parts (f == file) true wants).0 in
    subst (λ g. IsOf q host g (is_writing want.mode)) same (read-of s who block want f host (find_file f s.kept.files) q refl
    (same-number who.host host (and_parts _ _ a.0).0) b)
question-is s host file (Request.Read who n f block None) q wants e = absurd (cc)
question-is s host file (Request.GetLease who f want) q wants e =
    let a = current-some _ _ _ _ q e in
    let b = serving-some s.phase _ q a.1 in
    subst (λ g. IsOf q host g (is_writing want.mode)) (same-number f file wants) (lease-of s who want f host (find_file f s.kept.files) q refl
    (same-number who.host host (and_parts _ _ a.0).0) b)
question-is s host file other q wants e = absurd (cc)

-- what a step makes of the table: nothing, where the table is not asked; else what the ask table tells
pub data Hears (s : Server) : (o : Option Question) → ServerStep → Type 0 where
  mute : (o : Option Question) (t : ServerStep) → o ≡ None → IsSame s t.server → t.server.table ≡ s.table → Hears s o t
  asked : (o : Option Question) (t : ServerStep) (q : Question) → o ≡ Some q → IsSame s t.server → t.server.table ≡ (ask s.table q).table → Hears s o t

module _ (s : Server) (who : Who) (xid next : ℕ) where
  says-mute : (host : ℕ) (m : Message) → Hears s None (says s host m)
  unfolding says
  says-mute host m = mute None (says s host m) refl (same-self s) refl

  drops-mute : (reason : Reason) → Hears s None (drops s reason)
  unfolding drops
  drops-mute reason = mute None (drops s reason) refl (same-self s) refl

  read-hears : (q : ℕ) (f : File) (block : ℕ) (body : List ℕ) (want : Want) → Hears s (Some (to_read s who f (Some want))) (read_of s who xid next q f
      block body (Some want) (ask s.table (to_read s who f (Some want))))
  unfolding tells_later serves with_table after_notices
  read-hears q f block body want = by (ask s.table (to_read s who f (Some want))) refl
    where
      by : (a : Reply) → ask s.table (to_read s who f (Some want)) ≡ a → Hears s (Some (to_read s who f (Some want))) (read_of s who xid next q f
          block body (Some want) a)
      by a e = which a.asked refl
        where
          which : (told : Asked) → a.asked ≡ told → Hears s (Some (to_read s who f (Some want))) (read_asked s who xid next q f block body
              (access_of (Some want)) a.table told)
          which (Asked.TryLater clash) is = asked _ _ (to_read s who f (Some want)) refl (record { is = refl }) (ap (λ (x : Reply). x.table) (sym e))
          which (Asked.Granted g) is = asked _ _ (to_read s who f (Some want)) refl (record { is = refl }) (ap (λ (x : Reply). x.table) (sym e))
          which Asked.Free is = asked _ _ (to_read s who f (Some want)) refl (record { is = refl }) (ap (λ (x : Reply). x.table) (sym e))
          which Asked.NoLease is = asked _ _ (to_read s who f (Some want)) refl (record { is = refl }) (ap (λ (x : Reply). x.table) (sym e))

  lease-hears : (f : File) (want : Want) → Hears s (Some (to_read s who f (Some want))) (lease_of s who xid f want (ask s.table (to_read s who f (Some want))))
  unfolding tells_later leases with_table after_notices
  lease-hears f want = by (ask s.table (to_read s who f (Some want))) refl
    where
      by : (a : Reply) → ask s.table (to_read s who f (Some want)) ≡ a → Hears s (Some (to_read s who f (Some want))) (lease_of s who xid f want a)
      by a e = which a.asked refl
        where
          which : (told : Asked) → a.asked ≡ told → Hears s (Some (to_read s who f (Some want))) (lease_asked s who xid f.id (access_of (Some want))
              a.table told)
          which (Asked.TryLater clash) is = asked _ _ (to_read s who f (Some want)) refl (record { is = refl }) (ap (λ (x : Reply). x.table) (sym e))
          which (Asked.Granted g) is = asked _ _ (to_read s who f (Some want)) refl (record { is = refl }) (ap (λ (x : Reply). x.table) (sym e))
          which Asked.Free is = asked _ _ (to_read s who f (Some want)) refl (record { is = refl }) (ap (λ (x : Reply). x.table) (sym e))
          which Asked.NoLease is = asked _ _ (to_read s who f (Some want)) refl (record { is = refl }) (ap (λ (x : Reply). x.table) (sym e))

  block-hears : (q : ℕ) (f : File) (block : ℕ) (want : Want) (o : Option (List ℕ)) → Hears s (read_question s who block want f o)
      (read_block s who xid next q f block (Some want) o)
  block-hears q f block want None = says-mute _ _
  block-hears q f block want (Some body) = read-hears q f block body want

  file-hears : (q block : ℕ) (want : Want) (o : Option File) → Hears s (read_file s who block want o) (read s who xid next q block (Some want) o)
  file-hears q block want None = says-mute _ _
  file-hears q block want (Some f) = block-hears q f block want (slice_get f.bodies block)

  leased-hears : (want : Want) (o : Option File) → Hears s (lease_file s who want o) (get_lease s who xid want o)
  leased-hears want None = says-mute _ _
  leased-hears want (Some f) = lease-hears f want

  -- by the phase
  read-looks : (q file block : ℕ) (want : Want) (phase : Phase)
      → Hears s (while_serving phase (read_file s who block want (find_file file s.kept.files))) (look s phase who xid next
      (Request.Read who q file block (Some want)))
  read-looks q file block want serving = file-hears q block want (find_file file s.kept.files)
  read-looks q file block want (recovering until heard last) = says-mute _ _

  lease-looks : (file : ℕ) (want : Want) (phase : Phase) → Hears s (while_serving phase (lease_file s who want (find_file file s.kept.files)))
      (look s phase who xid next (Request.GetLease who file want))
  lease-looks file want serving = leased-hears want (find_file file s.kept.files)
  lease-looks file want (recovering until heard last) = says-mute _ _

  -- by who asks
  current-hears : (q : Option Question) (mine older newer : Bool) (away : ServerStep) (done : ServerStep) → Hears s None away → Hears s q done
      → Hears s (if_current mine older newer q) (if mine then (if older then drops s old_incarnation else (if newer then away else done))
      else drops s wrong_host)
  current-hears q true false false away done a d = d
  current-hears q true false true away done a d = a
  current-hears q true true newer away done a d = drops-mute _
  current-hears q false older newer away done a d = drops-mute _

  pub read-request : (sender q file block : ℕ) (want : Want) → Hears s (question_of s sender (Request.Read who q file block (Some want)))
      (receive s sender next (request xid (Request.Read who q file block (Some want))))
  read-request sender q file block want =
      current-hears (while_serving s.phase (read_file s who block want (find_file file s.kept.files))) (who.host == sender && nat_lt who.host
      most_hosts) (nat_lt who.inc (host_row s.kept who.host).inc) (nat_lt (host_row s.kept who.host).inc who.inc)
      (not_attached s who xid (Request.Read who q file block (Some want))) (perform s who xid next (host_row s.kept who.host)
      (Request.Read who q file block (Some want))) (says-mute _ _) (read-looks q file block want s.phase)

  pub lease-request : (sender file : ℕ) (want : Want) → Hears s (question_of s sender (Request.GetLease who file want))
      (receive s sender next (request xid (Request.GetLease who file want)))
  lease-request sender file want =
      current-hears (while_serving s.phase (lease_file s who want (find_file file s.kept.files))) (who.host == sender && nat_lt who.host most_hosts)
      (nat_lt who.inc (host_row s.kept who.host).inc) (nat_lt (host_row s.kept who.host).inc who.inc)
      (not_attached s who xid (Request.GetLease who file want)) (perform s who xid next (host_row s.kept who.host) (Request.GetLease who file
      want)) (says-mute _ _) (lease-looks file want s.phase)

-- a request that wants a lease on a file, whatever it is
pub request-hears : (s : Server) (xid next sender file : ℕ) (r : Request) → wants_of file r ≡ true → Hears s (question_of s sender r)
    (receive s sender next (datagram_of (call xid r)))
request-hears s xid next sender file (Request.Read who q f block (Some want)) wants = read-request s who xid next sender q f block want
request-hears s xid next sender file (Request.Read who q f block None) wants = absurd (no (f == file) wants)
  where
    no : (b : Bool) → (b && false) ≡ true → ⊥
    no true e = cc
    no false e = cc
request-hears s xid next sender file (Request.GetLease who f want) wants = lease-request s who xid next sender f want
request-hears s xid next sender file other wants = absurd (cc)

-- ---- a VACATED

-- whether a VACATED takes the row that is there
abbrev pub is_taken : Who → Tag → Option Row → Bool
is_taken who tag None = false
is_taken who tag (Some row) = row.who.inc == who.inc && same_tag row.tag tag

abbrev pub rows_without : Who → (file : ℕ) → List Row → (taken : Bool) → List Row
rows_without who file rows true = drop_row file who.host rows
rows_without who file rows false = rows

vacated-is : (who : Who) (file : ℕ) (tag : Tag) (rows : List Row) (o : Option Row) → vacated_rows who file tag rows o ≡ rows_without who file rows
    (is_taken who tag o)
vacated-is who file tag rows None = refl
vacated-is who file tag rows (Some row) = by (row.who.inc == who.inc && same_tag row.tag tag)
  where
    by : (b : Bool) → (if b then drop_row file who.host rows else rows) ≡ rows_without who file rows b
    by true = refl
    by false = refl

-- what a VACATED makes of the rows
pub record Vacates (s : Server) (who : Who) (file : ℕ) (tag : Tag) (t : ServerStep) : Type 0 where
  pub same : IsSame s t.server
  pub rows : t.server.table.rows ≡ rows_without who file s.table.rows (is_taken who tag (find_row file who.host s.table.rows))
  pub none : t.sends ≡ []

module _ (s : Server) (who : Who) (xid next file : ℕ) (tag : Tag) where
  abbrev pub taken : Bool
  taken = is_taken who tag (find_row file who.host s.table.rows)

  not-taken : (t : ServerStep) → t.server ≡ s → t.sends ≡ [] → taken ≡ false → Vacates s who file tag t
  not-taken t is none e = record {
    same = record { is = subst (λ (x : Server). x ≡ record s { table = x.table; notice = x.notice }) (sym is) refl };
    rows = ap (λ (x : Server). x.table.rows) is ∙ ap (rows_without who file s.table.rows) (sym e);
    none = none;
  }

  performed : Vacates s who file tag (vacates s who file tag)
  unfolding vacates quiet with_table with_rows
  performed = record { same = record { is = refl }; rows = vacated-is who file tag s.table.rows (find_row file who.host s.table.rows); none = refl }

  by-current : (older newer : Bool) → nat_lt who.inc (host_row s.kept who.host).inc ≡ older → nat_lt (host_row s.kept who.host).inc who.inc ≡ newer
      → (taken ≡ true → who.inc ≡ (host_row s.kept who.host).inc) → Vacates s who file tag (if older then drops s old_incarnation
      else (if newer then quiet s else vacates s who file tag))
  unfolding drops quiet
  by-current true newer a b current = not-taken _ refl refl (no taken refl)
    where
      no : (b : Bool) → taken ≡ b → taken ≡ false
      no false e = e
      no true e = let below = is-below _ _ a in let same = current e in absurd (omega arith)
  by-current false true a b current = not-taken _ refl refl (no taken refl)
    where
      no : (b : Bool) → taken ≡ b → taken ≡ false
      no false e = e
      no true e = let below = is-below _ _ b in let same = current e in absurd (omega arith)
  by-current false false a b current = performed

  pub vacated-request : (taken ≡ true → who.inc ≡ (host_row s.kept who.host).inc) → who.host < most_hosts → Vacates s who file tag
      (receive s who.host next (request xid (Request.Vacated who file tag)))
  vacated-request current possible =
      let one : (who.host == who.host) ≡ true = number-same who.host who.host refl in
      let two : nat_lt who.host most_hosts ≡ true = below who.host most_hosts possible in
      let both : (who.host == who.host && nat_lt who.host most_hosts) ≡ true = ap (λ b. b && nat_lt who.host most_hosts) one ∙ two in
      subst (λ b. Vacates s who file tag (if b then (if nat_lt who.inc (host_row s.kept who.host).inc then drops s old_incarnation
      else (if nat_lt (host_row s.kept who.host).inc who.inc then quiet s else vacates s who file tag)) else drops s wrong_host)) (sym both)
      (by-current (nat_lt who.inc (host_row s.kept who.host).inc) (nat_lt (host_row s.kept who.host).inc who.inc) refl refl current)
    where
      below : (a b : ℕ) → a < b → nat_lt a b ≡ true
      below a b less = grind (arith, nat_tests)
