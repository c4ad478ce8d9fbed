-- What a client knows of contents is kept where it hears a notice or a reply.
use Rattle.std.proofs.Common.{◌≡◌, ◌⊎◌, ℕ, ◌+◌, Bool, true, false, List, [], ◌++◌, Option, Some, None, is_some, if◌then◌else◌, refl}
use Rattle.std.proofs.Common.{sym, subst, ap, ◌∙◌, arith, inl, inr}
use Rattle.nq_base.specs.Block.{value_of}
use Rattle.nq_base.specs.declared.Answer.{Answer}
use Rattle.nq_base.specs.declared.Entry.{Entry}
use Rattle.nq_base.specs.declared.Grant.{Grant}
use Rattle.nq_base.specs.declared.Request.{Request}
use Rattle.nq_base.specs.declared.Tag.{Tag}
use Rattle.nq_base.specs.declared.Value.{Value}
use Rattle.walk_steps.proofs.PartCases.{answers-call-cases, vacates-noticed-cases, reports-cases, if-broken-cases, caches-write-cases}
use Rattle.walk_steps.proofs.PartCases.{caches-push-cases, vacates-if-clean-cases}
use Rattle.walk_steps.proofs.StepCases.{evicted-cases}
use Rattle.walk_steps.proofs.ClientMoves.{some-same, none-some, keeps-or-cancels}
use Rattle.walk_files.proofs.ClientLookups.{IsBlock, found-purged, found-put, revision-put}
use Rattle.walk_files.proofs.KnownContents.{part_of, history_in, IsKnown, IsFair, Mid}
use Rattle.walk_files.proofs.ClientParts.{dirty-fewer}
use Rattle.walk_files.proofs.ClientParts.{ticket-fewer, sends-more, forgets, confirms, sets, caches}
use Rattle.walk_files.proofs.Facts.{HadValue, value-follows, HadLength, SetsBlock, sets-follows, GrantTells}
use Rattle.nq_model.specs.laws.Told.{GrantIsOf}
use Rattle.nq_model.specs.protocol.Client.{Clean, Client, ClientStep, Notice, Revision, begun, clean_at}
use Rattle.nq_model.specs.protocol.Client.{purge, put_clean, dirty_at, other_dirty, notice_on, put_revision, revision_of}
use Rattle.nq_model.specs.protocol.Client.{revision_or_zero, is_revision, is_revision_before}
use Rattle.nq_model.specs.protocol.Hear.{vacates_lease, vacates_noticed, all_dirty, loses, reports, without_lease, push_refused, if_broken, holds}
use Rattle.nq_model.specs.protocol.Hear.{takes_grant, takes_optional, answers_call, grant_caches, caches_block, then_caches, read_done, marks_through}
use Rattle.nq_model.specs.protocol.Hear.{lease_done, purges, knows_revision, caches_write, ends_push, caches_push, push_done, spends, attached, pauses}
use Rattle.nq_model.specs.protocol.Hear.{cancels, notes_notice, evicted, goes_on}
use Rattle.nq_model.specs.protocol.Message.{Packet, call}
use Rattle.nq_model.specs.protocol.Settle.{answers, names_losses}
use Rattle.walk_steps.proofs.Members.{in-filtered}
use Rattle.walk_steps.proofs.Packets.{call-same}
use Rattle.walk_steps.proofs.Rows.{choice, same-number}
use Rattle.walk_files.proofs.ContentsSent as sent
use Rattle.walk_files.proofs.ContentsSent.{answers-mid, goes-mid, grown, losses-quiet, names-mid, no-sequence, notes-all}

module _ (journal : List Entry) (first : ℕ → ℕ) (next : ℕ) (ps : List Packet) where
  abbrev pub P : ClientStep → Type 0
  P t = sent.P journal first next ps t

  abbrev pub Spent : ClientStep → Type 0
  Spent t = sent.Spent journal first next ps t

  -- ---- a notice

  vacates-mid : (t : ClientStep) (file : ℕ) (tag : Tag) → P t → P (vacates_lease t file tag)
  unfolding vacates_lease
  vacates-mid t file tag h =
      sends-more journal first next ps (part_of t) (call t.client.xid (Request.Vacated t.client.who file tag)) (t.client.xid + 1) (omega arith)
      (λ x r e. subst (IsFair (t.entries ++ journal)) (call-same t.client.xid x (Request.Vacated t.client.who file tag) r e).1 (tt, (no-sequence journal first next ps))) h

  notes-mid : (t : ClientStep) (file : ℕ) (tag : Tag) → P t → P (notes_notice t file tag)
  unfolding notes_notice
  notes-mid t file tag h = h

  cancels-mid : (t : ClientStep) (file : ℕ) → P t → P (cancels t file)
  unfolding cancels
  cancels-mid t file h = ticket-fewer journal first next ps (part_of t) _ (λ u e. (u, (keeps-or-cancels file t.client.ticket u e).0, refl, refl)) h

  pub notice-mid : (c : Client) (file : ℕ) (tag : Tag) → P (begun c) → P (goes_on (evicted (cancels (begun c) file) file tag))
  notice-mid c file tag h =
      let t : ClientStep = cancels (begun c) file in
      (goes-mid journal first next ps) (evicted t file tag) (evicted-cases t file tag P
      (record {
        clean = λ is. vacates-mid t file tag (cancels-mid (begun c) file h);
        waiting = λ is. notes-mid t file tag
            (cancels-mid (begun c) file h);
      }))

  -- ---- a reply

  pub spends-mid : (c : Client) → P (begun c) → Spent (spends (begun c))
  unfolding spends
  spends-mid c h = record { mid = ticket-fewer journal first next ps (part_of (begun c)) None (λ u e. none-some u e) h; free = refl }

  pub attached-mid : (t : ClientStep) → P t → P (attached t)
  unfolding attached
  attached-mid t h = h

  pub pauses-mid : (t : ClientStep) → P t → P (pauses t)
  unfolding pauses marks_through
  pauses-mid t h = h

  pub answers-call-mid : (t : ClientStep) (answer : Answer) (by : Option ℕ) → P t → P (answers_call t answer by)
  answers-call-mid t answer by h = answers-call-cases t answer by P (λ none. h) (λ u is. (answers-mid journal first next ps) t u.q answer by h)

  -- delayed writes are lost, and a notice is answered
  loses-spent : (t : ClientStep) (file : ℕ) → Spent t → Spent (loses t file)
  unfolding loses
  loses-spent t file h = record {
    mid =
        (notes-all journal first next ps) (record (part_of t) { dirty = other_dirty file t.client.dirty }) _ (losses-quiet t.client.who (all_dirty t.client file))
        (dirty-fewer journal first next ps (part_of t) (other_dirty file t.client.dirty) h.free (λ q i. in-filtered _ t.client.dirty q i) h.mid);
    free = h.free;
  }

  vacates-spent : (t : ClientStep) (file : ℕ) (tag : Tag) → Spent t → Spent (vacates_lease t file tag)
  unfolding vacates_lease
  vacates-spent t file tag h = record { mid = vacates-mid t file tag h.mid; free = h.free }

  noticed-spent : (t : ClientStep) (file : ℕ) (o : Option Notice) → Spent t → Spent (vacates_noticed t file o)
  noticed-spent t file o h = vacates-noticed-cases t file o Spent (λ none. h) (λ n is. vacates-spent t file n.tag h)

  names-spent : (t : ClientStep) (q file : ℕ) → Spent t → Spent (names_losses t q file)
  unfolding answers
  names-spent t q file h = record { mid = (names-mid journal first next ps) t q file h.mid; free = h.free }

  reports-spent : (t : ClientStep) (file : ℕ) → Spent t → Spent (reports t file)
  reports-spent t file h = reports-cases t file Spent (λ none. h) (λ u is waits. h) (λ u is waits. names-spent t u.q file h)

  without-spent : (t : ClientStep) (file : ℕ) → Spent t → Spent (without_lease t file)
  unfolding without_lease
  without-spent t file h = record { mid = h.mid; free = h.free }

  pub refused-spent : (t : ClientStep) (file : ℕ) → Spent t → Spent (push_refused t file)
  refused-spent t file h =
      reports-spent _ file (noticed-spent _ file (notice_on file t.client.notices) (without-spent (loses t file) file (loses-spent t file h)))

  broken-spent : (t : ClientStep) (file : ℕ) (g : Grant) → Spent t → Spent (if_broken t file g)
  broken-spent t file g h =
      if-broken-cases t file g Spent (λ whole. h)
      (λ lease held below dirty. reports-spent _ file (noticed-spent _ file (notice_on file t.client.notices) (loses-spent t file h)))

  -- a grant is held, and its revision is known
  holds-mid : (t : ClientStep) (file : ℕ) (g : Grant) (sent : ℕ) → HadLength (history_in journal first next []) file g.rev g.blocks → Spent t
      → Spent (holds t file g sent)
  unfolding holds
  holds-mid t file g sent had h = record { mid = case (is_revision g.rev (revision_of file t.client.revisions)) refl; free = h.free }
    where
      knows : IsKnown (history_in journal first next t.entries) file g.rev
      knows = let d = had.drawn in let a = had.had.reached in let b = ((grown journal first next ps) t.entries).counts file in record { drawn = had.drawn; reached = omega arith }

      same : (o : Option Revision) → revision_of file t.client.revisions ≡ o → is_revision g.rev o ≡ true
          → (r : Revision) × (revision_of file t.client.revisions ≡ Some r) × (r.rev ≡ g.rev)
      same None e is = absurd (cc)
      same (Some r) e is = (r, e, same-number _ _ is)

      case : (b : Bool) → is_revision g.rev (revision_of file t.client.revisions) ≡ b
          → Mid journal first next ps (record (part_of t)
          { clean = if b then t.client.clean else purge file t.client.clean; revisions = put_revision file g.rev t.client.revisions })
      case true e = let r = same (revision_of file t.client.revisions) refl e in confirms journal first next ps (part_of t) file g.rev r.0 h.free r.1 r.2 h.mid
      case false e =
          forgets journal first next ps (part_of t) file g.rev (purge file t.client.clean) h.free knows
          (λ f b k i. found-purged f b file t.client.clean k i) h.mid

  held-revision : (t : ClientStep) (file : ℕ) (g : Grant) (sent : ℕ)
      → revision_of file (holds t file g sent).client.revisions ≡ Some (record { file = file; rev = g.rev })
  unfolding holds
  held-revision t file g sent = revision-put file g.rev t.client.revisions

  takes-spent : (t : ClientStep) (file : ℕ) (g : Grant) (sent : ℕ) → HadLength (history_in journal first next []) file g.rev g.blocks → Spent t
      → Spent (takes_grant t file g sent)
  takes-spent t file g sent had h = holds-mid (if_broken t file g) file g sent had (broken-spent t file g h)

  pub optional-spent : (t : ClientStep) (file : ℕ) (o : Option Grant) (sent : ℕ) → GrantTells (history_in journal first next []) file o → Spent t
      → Spent (takes_optional t file o sent)
  optional-spent t file None sent tells h = h
  optional-spent t file (Some g) sent tells h = takes-spent t file g sent tells h

  -- a block is read, and cached under a caching grant
  found-cached : (t : ClientStep) (file block : ℕ) (body : List ℕ) (f b : ℕ) (k : Clean)
      → clean_at f b (put_clean file block body t.client.clean) ≡ Some k
      → (IsBlock f b file block × (value_of k.body ≡ value_of body)) ⊎ ((IsBlock f b file block → ⊥) × (clean_at f b t.client.clean ≡ Some k))
  found-cached t file block body f b k e = case (found-put f b file block body t.client.clean k e)
    where
      case : (IsBlock f b file block × (k ≡ record { file = file; block = block; body = body }))
          ⊎ ((IsBlock f b file block → ⊥) × (clean_at f b t.client.clean ≡ Some k))
          → (IsBlock f b file block × (value_of k.body ≡ value_of body)) ⊎ ((IsBlock f b file block → ⊥) × (clean_at f b t.client.clean ≡ Some k))
      case (inl one) = inl (one.0, ap (λ z. value_of z.body) one.1)
      case (inr other) = inr other

  caches-mid : (t : ClientStep) (file block : ℕ) (body : List ℕ) (r : Revision) → revision_of file t.client.revisions ≡ Some r
      → HadValue (history_in journal first next []) file r.rev block (value_of body) → Spent t → P (caches_block t file block body)
  unfolding caches_block
  caches-mid t file block body r was had h =
      caches journal first next ps (part_of t) file block (value_of body) r (put_clean file block body t.client.clean) h.free was
      (value-follows file r.rev block (value_of body) ((grown journal first next ps) t.entries) had) (found-cached t file block body) h.mid

  pub read-mid : (t : ClientStep) (file block rev : ℕ) (body : List ℕ) (o : Option Grant) (sent number : ℕ)
      → HadValue (history_in journal first next []) file rev block (value_of body) → GrantTells (history_in journal first next []) file o
      → GrantIsOf rev o → Spent t → P (read_done t file block body o sent number)
  read-mid t file block rev body None sent number had tells is h = answers-call-mid t (Answer.Ok (Value.Body body)) (Some number) h.mid
  read-mid t file block rev body (Some g) sent number had tells is h =
      let held : Spent (takes_grant t file g sent) = takes-spent t file g sent tells h in
      let s : ClientStep = takes_grant t file g sent in
      answers-call-mid (then_caches s file block body (Some g)) (Answer.Ok (Value.Body body)) (Some number)
      (choice P (grant_caches (Some g)) (caches_block s file block body) s
      (λ caching. caches-mid s file block body (record { file = file; rev = g.rev }) (held-revision (if_broken t file g) file g sent)
      (subst (λ n. HadValue (history_in journal first next []) file n block (value_of body)) (sym is) had) held)
      (λ other. held.mid))

  through-mid : (on : Bool) (t : ClientStep) → P t → P (marks_through on t)
  unfolding marks_through
  through-mid on t h = h

  pub lease-mid : (t : ClientStep) (file : ℕ) (o : Option Grant) (sent : ℕ) → GrantTells (history_in journal first next []) file o → Spent t
      → P (lease_done t file o sent)
  lease-mid t file o sent tells h =
      let s : Spent (takes_optional t file o sent) = optional-spent t file o sent tells h in
      choice P (grant_caches o) (takes_optional t file o sent) (marks_through true (takes_optional t file o sent)) (λ caching. s.mid)
      (λ other. through-mid true (takes_optional t file o sent) s.mid)

  -- a write went through: its block is cached, or the file's clean blocks go
  pub through-known : (t : ClientStep) (file block rev : ℕ) (body : List ℕ)
      → SetsBlock (history_in journal first next []) file rev block (value_of body) → Spent t
      → P (knows_revision (caches_write t file block body rev) file rev)
  unfolding caches_block purges knows_revision
  through-known t file block rev body set h =
      let set_now : SetsBlock (history_in journal first next t.entries) file rev block (value_of body) = sets-follows file rev block (value_of body)
      ((grown journal first next ps) t.entries) set in
      caches-write-cases t file block body rev (λ s. P (knows_revision s file rev))
      (λ holds before. sets journal first next ps (part_of t) file rev block (value_of body) (put_clean file block body t.client.clean) h.free set_now
      (λ r was. next-after (revision_of file t.client.revisions) before r was) (found-cached t file block body) h.mid)
      (forgets journal first next ps (part_of t) file rev (purge file t.client.clean) h.free
      (record { drawn = set_now.value.drawn; reached = set_now.value.had.reached }) (λ f b k i. found-purged f b file t.client.clean k i) h.mid)
    where
      next-after : (o : Option Revision) → is_revision_before rev o ≡ true → (r : Revision) → o ≡ Some r → rev ≡ r.rev + 1
      next-after None before r was = none-some r was
      next-after (Some q) before r was = sym (same-number _ _ before) ∙ ap (λ z. z.rev + 1) (some-same q r was)

  -- a resize was done: the file has no clean blocks
  pub resized-known : (t : ClientStep) (file rev blocks : ℕ) → HadLength (history_in journal first next []) file rev blocks
      → ((block : ℕ) → clean_at file block t.client.clean ≡ None) → Spent t → P (knows_revision t file rev)
  unfolding knows_revision
  resized-known t file rev blocks had none h =
      forgets journal first next ps (part_of t) file rev t.client.clean h.free knows
      (λ f b k i. ((λ one. none-some k (sym (none b) ∙ ap (λ n. clean_at n b t.client.clean) (sym one) ∙ i)), i)) h.mid
    where
      knows : IsKnown (history_in journal first next t.entries) file rev
      knows = let a = had.had.reached in let b = ((grown journal first next ps) t.entries).counts file in record { drawn = had.drawn; reached = omega arith }

  -- a push was stored: its block is cached, unless it is dirty again
  stored-known : (t : ClientStep) (file block rev : ℕ) (body : List ℕ) → SetsBlock (history_in journal first next []) file rev block (value_of body)
      → rev ≡ revision_or_zero (revision_of file t.client.revisions) + 1
      → (is_some (dirty_at file block t.client.dirty) ≡ true → clean_at file block t.client.clean ≡ None) → Spent t
      → P (caches_push (knows_revision (ends_push t) file rev) file block body)
  unfolding caches_block ends_push knows_revision
  stored-known t file block rev body set over again h =
      let set_now : SetsBlock (history_in journal first next t.entries) file rev block (value_of body) = sets-follows file rev block (value_of body)
      ((grown journal first next ps) t.entries) set in
      caches-push-cases (knows_revision (ends_push t) file rev) file block body P
      (λ dirty. sets journal first next ps (part_of t) file rev block (value_of body) t.client.clean h.free set_now before
      (λ f b k i. inr (
        (λ one. none-some k (sym (again dirty) ∙ ap (λ n. clean_at n block t.client.clean) (sym one.file_same)
            ∙ ap (λ n. clean_at f n t.client.clean) (sym one.block_same) ∙ i)),
        i,
      )) h.mid)
      (λ clean. sets journal first next ps (part_of t) file rev block (value_of body) (put_clean file block body t.client.clean) h.free set_now before
      (found-cached t file block body) h.mid)
    where
      before : (r : Revision) → revision_of file t.client.revisions ≡ Some r → rev ≡ r.rev + 1
      before r was = over ∙ ap (λ o. revision_or_zero o + 1) was

  pub stored-mid : (t : ClientStep) (file block rev : ℕ) (body : List ℕ) → SetsBlock (history_in journal first next []) file rev block (value_of body)
      → rev ≡ revision_or_zero (revision_of file t.client.revisions) + 1
      → (is_some (dirty_at file block t.client.dirty) ≡ true → clean_at file block t.client.clean ≡ None) → Spent t → P (push_done t file block body rev)
  stored-mid t file block rev body set over again h =
      let s : ClientStep = caches_push (knows_revision (ends_push t) file rev) file block body in
      let k : P s = stored-known t file block rev body set over again h in
      vacates-if-clean-cases s file P k (λ n clean is. vacates-mid s file n.tag k)
