-- What the journal has of a client's delayed writes is kept where the client hears a datagram.
use Rattle.std.specs.Prelude.{reverse}
use Rattle.std.proofs.Common.{◌≡◌, ◌<◌, ◌⊎◌, ℕ, Bool, true, false, List, [], ◌∷◌, ◌++◌, Option, Some, None, if◌then◌else◌, map, refl, sym, subst, ◌∙◌}
use Rattle.std.proofs.Common.{inl, inr, append_assoc}
use Rattle.std.specs.List.{filter}
use Rattle.nq_base.specs.declared.Answer.{Answer}
use Rattle.nq_base.specs.declared.Entry.{Entry}
use Rattle.nq_base.specs.declared.Grant.{Grant}
use Rattle.nq_base.specs.declared.HostRow.{HostRow}
use Rattle.nq_base.specs.declared.Push.{Push}
use Rattle.nq_base.specs.declared.Request.{Request}
use Rattle.nq_base.specs.declared.Tag.{Tag}
use Rattle.nq_base.specs.declared.Value.{Value}
use Rattle.nq_base.specs.declared.Who.{Who}
use Rattle.walk_steps.proofs.PartCases.{answers-call-cases, vacates-noticed-cases, reports-cases, if-broken-cases, takes-optional-cases}
use Rattle.walk_steps.proofs.PartCases.{lease-done-cases, then-caches-cases, caches-write-cases, caches-push-cases, vacates-if-clean-cases}
use Rattle.walk_steps.proofs.ClientMoves.{none-some}
use Rattle.walk_files.proofs.ClientFates.{IsOwn, MidAt, Mid, mid-answers, mid-names}
use Rattle.walk_files.proofs.FactMoves.{facts-sends}
use Rattle.walk_files.proofs.FactPushes.{dirty-clear, facts-loses, lost, lost-is, lost-fits, AllLosable, IsLosable}
use Rattle.walk_files.proofs.PushLists.{apart-filter}
use Rattle.walk_files.proofs.WritesFit.{IsDirty, AreApart, IsOpenPush, JournalFits, Facts}
use Rattle.nq_model.specs.protocol.Client.{ClientStep, Notice, Ticket, is_push_of, notice_on, other_dirty}
use Rattle.nq_model.specs.protocol.Hear.{vacates_lease, vacates_noticed, push_of, loss_entry, other_push, loses, reports, without_lease, push_refused}
use Rattle.nq_model.specs.protocol.Hear.{breaks_chain, if_broken, holds, takes_optional, answers_call, caches_block, purges, knows_revision, then_caches}
use Rattle.nq_model.specs.protocol.Hear.{read_done, marks_through, lease_done, caches_write, write_done, ends_push, caches_push, push_done, attached, pauses}
use Rattle.nq_model.specs.protocol.Hear.{notes_notice}
use Rattle.nq_model.specs.protocol.Message.{Message, Packet, call}
use Rattle.walk_steps.proofs.Mail.{packets_with, packets-last}
use Rattle.walk_steps.proofs.Members.{in-filter, filter-in, in-push-of}
use Rattle.walk_steps.proofs.Packets.{In, in-append, in-left, in-right}
use Rattle.walk_steps.proofs.Rows.{same-number, number-same}

-- ---- what can be lost

dirty-losable : (who : Who) (number : ℕ) (j : List Entry) (ps : List Push) → ((p : Push) → In ps p → IsDirty who number j p) → AreApart ps
    → AllLosable who number j ps
dirty-losable who number j [] all apart = tt
dirty-losable who number j (p ∷ ps) all apart =
    let d = all p (inl refl) in (
      record { behind = d.behind; below = d.below; clear = dirty-clear d },
      (λ q i f b. absurd (apart.0 q i f b)),
      dirty-losable who number j ps
          (λ q i. all q (inr i)) apart.1,
    )

-- the delayed writes of a file: those of the push under way, then those of the list
abbrev of_file : (file : ℕ) → List Push → Option Push → List Push
of_file file dirty push = push_of file push ++ filter (is_push_of file) dirty

push-of-in : (file : ℕ) (push : Option Push) (p : Push) → push ≡ Some p → p.file ≡ file → In (push_of file push) p
push-of-in file push p is same =
    subst (λ o. In (push_of file o) p) (sym is) (subst (λ b. In (if b then p ∷ [] else []) p) (sym (number-same p.file file same)) (inl refl))

of-file-in : (file : ℕ) (dirty : List Push) (push : Option Push) (p : Push) → In (of_file file dirty push) p → (p.file ≡ file) × (In dirty p ⊎ (push ≡ Some p))
of-file-in file dirty push p i = case (in-append (push_of file push) (filter (is_push_of file) dirty) p i)
  where
    case : In (push_of file push) p ⊎ In (filter (is_push_of file) dirty) p → (p.file ≡ file) × (In dirty p ⊎ (push ≡ Some p))
    case (inl k) = let h = in-push-of file push p k in (h.1, inr h.0)
    case (inr k) = let h = in-filter (is_push_of file) dirty p k in (same-number p.file file h.1, inl h.0)

in-of-file : (file : ℕ) (dirty : List Push) (push : Option Push) (p : Push) → In dirty p ⊎ (push ≡ Some p) → p.file ≡ file → In (of_file file dirty push) p
in-of-file file dirty push p (inl i) same =
    in-right (push_of file push) (filter (is_push_of file) dirty) p (filter-in (is_push_of file) dirty p (number-same p.file file same) i)
in-of-file file dirty push p (inr is) same = in-left (push_of file push) (filter (is_push_of file) dirty) p (push-of-in file push p is same)

-- all of them can be lost, where the push under way can be
file-losable : {line : HostRow} {who : Who} {number seq : ℕ} {ticket : Option Ticket} {dirty : List Push} {push : Option Push} {packets : List Packet}
    {j : List Entry} (file : ℕ) → ((p : Push) → push ≡ Some p → IsLosable who number j p) → Facts line who number seq ticket dirty push packets j
    → AllLosable who number j (of_file file dirty push)
file-losable {who = who} {number = number} {dirty = dirty} {push = push} {j = j} file can h = case push refl
  where
    rest : AllLosable who number j (filter (is_push_of file) dirty)
    rest =
        dirty-losable who number j (filter (is_push_of file) dirty) (λ p i. h.list.listed p (in-filter (is_push_of file) dirty p i).0)
        (apart-filter (is_push_of file) dirty h.list.apart)

    case : (o : Option Push) → push ≡ o → AllLosable who number j (push_of file o ++ filter (is_push_of file) dirty)
    case None e = rest
    case (Some p) e = step (is_push_of file p)
      where
        step : (b : Bool) → AllLosable who number j ((if b then p ∷ [] else []) ++ filter (is_push_of file) dirty)
        step true = (can p e, (λ q i f b. h.list.earlier p q e (in-filter (is_push_of file) dirty q i).0 f b), rest)
        step false = rest

drawn-of : {line : HostRow} {who : Who} {number seq : ℕ} {ticket : Option Ticket} {dirty : List Push} {push : Option Push} {packets : List Packet}
    {j : List Entry} → ((p : Push) → push ≡ Some p → IsLosable who number j p) → Facts line who number seq ticket dirty push packets j → (p : Push)
    → In dirty p ⊎ (push ≡ Some p) → p.last < number
drawn-of can h p (inl i) = (h.list.listed p i).below
drawn-of can h p (inr is) = (can p is).below

-- losses in the order of the journal
lost-own : (who : Who) (ps : List Push) (es : List Entry) → ((e : Entry) → In es e → IsOwn who e) → (e : Entry)
    → In (reverse (map (loss_entry who) ps) ++ es) e → IsOwn who e
lost-own who ps es all e i = step ps es all (subst (λ z. In z e) (lost-is who ps es) i)
  where
    step : (ps : List Push) (es : List Entry) → ((x : Entry) → In es x → IsOwn who x) → In (lost who ps es) e → IsOwn who e
    step [] es all i = all e i
    step (p ∷ ps) es all i = step ps (loss_entry who p ∷ es) (more p es all) i
      where
        more : (p : Push) (es : List Entry) → ((x : Entry) → In es x → IsOwn who x) → (x : Entry) → In (loss_entry who p ∷ es) x → IsOwn who x
        more p es all x (inl same) = subst (IsOwn who) same refl
        more p es all x (inr k) = all x k

-- no push of the client is open
abbrev pub NoneOpen : HostRow → List Packet → ClientStep → Type 0
NoneOpen line ps t = (w : Who) (q : Push) → IsOpenPush line (packets_with ps t.client.who.host t.sends) t.client.who.host w q → w ≡ t.client.who → ⊥

module _ {line : HostRow} {ps : List Packet} {j : List Entry} where
  -- ---- small changes

  -- the delayed writes of a file are lost
  pub mid-loses : {who : Who} {number seq : ℕ} {ticket : Option Ticket} {dirty : List Push} {push : Option Push} {sends : List Message}
      {entries : List Entry} (file : ℕ) → ((p : Push) → push ≡ Some p → IsLosable who number (entries ++ j) p)
      → ((w : Who) (q : Push) → IsOpenPush line (packets_with ps who.host sends) who.host w q → w ≡ who → ⊥)
      → MidAt line ps j who number seq ticket dirty push sends entries
      → MidAt line ps j who number seq ticket (other_dirty file dirty) (other_push file push) sends
      (reverse (map (loss_entry who) (of_file file dirty push)) ++ entries)
  mid-loses {who = who} {number = number} {seq = seq} {ticket = ticket} {dirty = dirty} {push = push} {sends = sends} {entries = entries} file can over m =
      let gone : List Push = of_file file dirty push in
      let same : (reverse (map (loss_entry who) gone) ++ entries) ++ j ≡ lost who gone (entries ++ j) = append_assoc
      (reverse (map (loss_entry who) gone)) entries j ∙ lost-is who gone (entries ++ j) in
      record {
        facts = subst (λ z. Facts line who number seq ticket (other_dirty file dirty) (other_push file push) (packets_with ps who.host sends) z) (sym same)
            (facts-loses file gone (of-file-in file dirty push) (in-of-file file dirty push)
            (λ p i. drawn-of can m.facts p (of-file-in file dirty push p i).1) over m.facts);
        journal = subst JournalFits (sym same) (lost-fits who number gone (entries ++ j) (file-losable file can m.facts) m.journal);
        own = lost-own who gone entries m.own;
      }

  -- of a file, where no push is under way
  loses-free : (t : ClientStep) (file : ℕ) → t.client.push ≡ None → NoneOpen line ps t → Mid line ps j t → Mid line ps j (loses t file)
  unfolding loses
  loses-free t file none over m = mid-loses file (λ p is. none-some p (sym none ∙ is)) over m

  pub mid-vacates : (t : ClientStep) (file : ℕ) (tag : Tag) → Mid line ps j t → Mid line ps j (vacates_lease t file tag)
  unfolding vacates_lease
  mid-vacates t file tag m = record {
    facts =
        subst (λ qs. Facts line t.client.who t.client.number t.client.seq t.client.ticket t.client.dirty t.client.push qs (t.entries ++ j))
        (sym (packets-last ps t.client.who.host t.sends (call t.client.xid (Request.Vacated t.client.who file tag))))
        (facts-sends t.client.xid (Request.Vacated t.client.who file tag) refl (λ sq f b first last base bd e. absurd (cc)) m.facts);
    journal = m.journal;
    own = m.own;
  }

  mid-noticed : (t : ClientStep) (file : ℕ) (o : Option Notice) → Mid line ps j t → Mid line ps j (vacates_noticed t file o)
  mid-noticed t file o m = vacates-noticed-cases t file o (Mid line ps j) (λ e. m) (λ n e. mid-vacates t file n.tag m)

  mid-reports : (t : ClientStep) (file : ℕ) → Mid line ps j t → Mid line ps j (reports t file)
  mid-reports t file m = reports-cases t file (Mid line ps j) (λ e. m) (λ u e w. m) (λ u e w. mid-names t u.q file m)

  pub mid-call : (t : ClientStep) (answer : Answer) (by : Option ℕ) → Mid line ps j t → Mid line ps j (answers_call t answer by)
  mid-call t answer by m = answers-call-cases t answer by (Mid line ps j) (λ e. m) (λ u e. mid-answers t u.q answer by m)

  mid-holds : (t : ClientStep) (file : ℕ) (g : Grant) (sent : ℕ) → Mid line ps j t → Mid line ps j (holds t file g sent)
  unfolding holds
  mid-holds t file g sent m = m

  mid-caches : (t : ClientStep) (file block : ℕ) (body : List ℕ) → Mid line ps j t → Mid line ps j (caches_block t file block body)
  unfolding caches_block
  mid-caches t file block body m = m

  mid-purges : (t : ClientStep) (file : ℕ) → Mid line ps j t → Mid line ps j (purges t file)
  unfolding purges
  mid-purges t file m = m

  pub mid-knows : (t : ClientStep) (file rev : ℕ) → Mid line ps j t → Mid line ps j (knows_revision t file rev)
  unfolding knows_revision
  mid-knows t file rev m = m

  mid-through : (t : ClientStep) (on : Bool) → Mid line ps j t → Mid line ps j (marks_through on t)
  unfolding marks_through
  mid-through t on m = m

  pub mid-pauses : (t : ClientStep) → Mid line ps j t → Mid line ps j (pauses t)
  unfolding pauses marks_through
  mid-pauses t m = m

  pub mid-attached : (t : ClientStep) → Mid line ps j t → Mid line ps j (attached t)
  unfolding attached
  mid-attached t m = m

  mid-without : (t : ClientStep) (file : ℕ) → Mid line ps j t → Mid line ps j (without_lease t file)
  unfolding without_lease
  mid-without t file m = m

  pub mid-notes : (t : ClientStep) (file : ℕ) (tag : Tag) → Mid line ps j t → Mid line ps j (notes_notice t file tag)
  unfolding notes_notice
  mid-notes t file tag m = m

  -- ---- grants

  mid-breaks : (t : ClientStep) (file : ℕ) → t.client.push ≡ None → NoneOpen line ps t → Mid line ps j t → Mid line ps j (breaks_chain t file)
  mid-breaks t file none over m =
      mid-reports (vacates_noticed (loses t file) file (notice_on file t.client.notices)) file
      (mid-noticed (loses t file) file (notice_on file t.client.notices) (loses-free t file none over m))

  mid-if-broken : (t : ClientStep) (file : ℕ) (g : Grant) → t.client.push ≡ None → NoneOpen line ps t → Mid line ps j t → Mid line ps j (if_broken t file g)
  mid-if-broken t file g none over m = if-broken-cases t file g (Mid line ps j) (λ e. m) (λ lease e below dirty. mid-breaks t file none over m)

  pub mid-takes : (t : ClientStep) (file : ℕ) (o : Option Grant) (sent : ℕ) → t.client.push ≡ None → NoneOpen line ps t → Mid line ps j t
      → Mid line ps j (takes_optional t file o sent)
  mid-takes t file o sent none over m =
      takes-optional-cases t file o sent (Mid line ps j) (λ e. m) (λ g e. mid-holds (if_broken t file g) file g sent (mid-if-broken t file g none over m))

  pub mid-read-done : (t : ClientStep) (file block : ℕ) (body : List ℕ) (o : Option Grant) (sent k : ℕ) → t.client.push ≡ None → NoneOpen line ps t
      → Mid line ps j t → Mid line ps j (read_done t file block body o sent k)
  mid-read-done t file block body o sent k none over m =
      mid-call (then_caches (takes_optional t file o sent) file block body o) (Answer.Ok (Value.Body body)) (Some k)
      (then-caches-cases (takes_optional t file o sent) file block body o (Mid line ps j)
      (λ e. mid-caches (takes_optional t file o sent) file block body (mid-takes t file o sent none over m)) (λ e. mid-takes t file o sent none over m))

  pub mid-lease-done : (t : ClientStep) (file : ℕ) (o : Option Grant) (sent : ℕ) → t.client.push ≡ None → NoneOpen line ps t → Mid line ps j t
      → Mid line ps j (lease_done t file o sent)
  mid-lease-done t file o sent none over m =
      lease-done-cases t file o sent (Mid line ps j) (λ e. mid-takes t file o sent none over m)
      (λ e. mid-through (takes_optional t file o sent) true (mid-takes t file o sent none over m))

  pub mid-write-done : (t : ClientStep) (file block : ℕ) (body : List ℕ) (rev : ℕ) → Mid line ps j t → Mid line ps j (write_done t file block body rev)
  mid-write-done t file block body rev m =
      mid-call (knows_revision (caches_write t file block body rev) file rev) (Answer.Ok Value.Nothing) None
      (mid-knows (caches_write t file block body rev) file rev
      (caches-write-cases t file block body rev (Mid line ps j) (λ e f. mid-caches t file block body m) (mid-purges t file m)))

  -- ---- the reply to a push

  -- what is left of a push that was done, once it is ended
  pub mid-ended : (t : ClientStep) (file block : ℕ) (body : List ℕ) (rev : ℕ) → Mid line ps j (ends_push t) → Mid line ps j (push_done t file block body rev)
  mid-ended t file block body rev m =
      let known : ClientStep = knows_revision (ends_push t) file rev in
      let cached : ClientStep = caches_push known file block body in
      let held : Mid line ps j cached = caches-push-cases known file block body (Mid line ps j) (λ e. mid-knows (ends_push t) file rev m)
      (λ e. mid-caches known file block body (mid-knows (ends_push t) file rev m)) in
      vacates-if-clean-cases cached file (Mid line ps j) held (λ n clean e. mid-vacates cached file n.tag held)

  pub mid-refused : (t : ClientStep) (file : ℕ) → Mid line ps j (loses t file) → Mid line ps j (push_refused t file)
  mid-refused t file m =
      let without : ClientStep = without_lease (loses t file) file in
      mid-reports (vacates_noticed without file (notice_on file t.client.notices)) file
      (mid-noticed without file (notice_on file t.client.notices) (mid-without (loses t file) file m))
