-- A push is declined only of a file that is not bound, and the file stays unbound while the push is under way.
use Rattle.std.proofs.Common.{◌≡◌, ◌<◌, ℕ, ◌==◌, ◌&&◌, Bool, true, false, List, Some, None, refl, sym, subst, ap, ◌∙◌, arith, inr}
use Rattle.std.proofs.lemmas.Bool.{and_from}
use Rattle.nq_base.specs.declared.Push.{Push}
use Rattle.nq_base.specs.declared.PushBase.{PushBase}
use Rattle.nq_base.specs.declared.Request.{Request}
use Rattle.nq_base.specs.declared.Row.{Row}
use Rattle.nq_base.specs.declared.Verdict.{Verdict}
use Rattle.nq_base.specs.declared.Who.{Who}
use Rattle.walk_files.proofs.ChainFacts.{ChainFits, IsPushed, line_for, done_at, rev_at}
use Rattle.nq_model.specs.laws.Chained.{OwnRow, KnowsFile, has_done_write, due}
use Rattle.walk_steps.proofs.ClientFacts.{push_in}
use Rattle.walk_steps.proofs.ClientMoves.{some-same, none-some}
use Rattle.walk_files.proofs.FromChains.{bound-knows}
use Rattle.walk_files.proofs.BoundRows.{bound-boot}
use Rattle.walk_files.proofs.Holdings.{IsHeldBound}
use Rattle.walk_files.proofs.Waiting.{IsWaiting}
use Rattle.nq_model.specs.protocol.Client.{Client, Lease, Ticket, lease_on}
use Rattle.nq_model.specs.protocol.Kept.{File, blocks_of, find_file, host_row}
use Rattle.nq_model.specs.protocol.Message.{Packet}
use Rattle.nq_model.specs.protocol.Server.{serving, Server, standing, standing_in}
use Rattle.nq_model.specs.protocol.Table.{is_writing, find_row}
use Rattle.walk_steps.proofs.ServerTables.{BootsFit, BootsFitOf, ServesBoot, StandingFitsOf}
use Rattle.walk_steps.proofs.Rows.{number-same}
use Rattle.walk_steps.proofs.DecideCases.{found-file}
use Rattle.walk_steps.proofs.ServerOutcomes.{IsDeclined, bad_length, name_taken, no_room, not_kept, outside, no_row, not_under, not_over}
use Rattle.walk_steps.proofs.ServerOutcomes.{not_while_recovering, bad_size, no_room_to_grow, file_changed_by, base_in}
use Rattle.nq_model.proofs.Finding.{number-other}

-- a request that pushes is a WRITE over a base
pub record PushShape (r : Request) (p : Push) : Type 0 where
  pub who : Who
  pub seq : ℕ
  pub base : PushBase
  pub is : r ≡ Request.Write who seq p.file p.block p.first p.last (Some base) p.body

pub push-shape : (r : Request) (p : Push) → push_in r ≡ Some p → PushShape r p
push-shape (Request.Write who seq file block first last (Some base) body) p e =
    let one : record { file = file; block = block; first = first; last = last; body = body } ≡ p = some-same _ p e in
    record { who = who; seq = seq; base = base; is = ap (λ (q : Push). Request.Write who seq q.file q.block q.first q.last (Some base) q.body) one }
push-shape (Request.Write who seq file block first last None body) p e = none-some p e
push-shape other p e = none-some p e

module _ (s : Server) (c : Client) (ps : List Packet) (k : ChainFits s c ps) (boots : BootsFitOf s) (stands : StandingFitsOf s)
    (within : (p : Push) (l : Lease) → IsWaiting c.dirty c.push p → lease_on p.file c.leases ≡ Some l → p.block < l.blocks)
    (t : Ticket) (p : Push) (asks : c.ticket ≡ Some t) (sh : PushShape t.request p) (undecided : (host_row s.kept c.who.host).seq < sh.seq)
    (b : IsHeldBound s c.who c.leases p.file) where
  pushed : IsPushed c.leases c.revisions c.push p.file sh.base (record { file = p.file; block = p.block; first = p.first; last = p.last; body = p.body })
  pushed = k.writes.pushed t sh.who sh.seq p.file p.block p.first p.last sh.base p.body asks sh.is

  one-lease : pushed.lease ≡ b.lease
  one-lease = some-same pushed.lease b.lease (sym pushed.held ∙ b.held)

  not-done : done_at s.kept c.who c.ticket p.file ≡ false
  not-done =
      ap (λ o. has_done_write (host_row s.kept c.who.host) c.who.inc p.file o) asks
      ∙ ap (λ r. has_done_write (host_row s.kept c.who.host) c.who.inc p.file (Some (record t { request = r }))) sh.is
      ∙ no (p.file == p.file) ((host_row s.kept c.who.host).inc == c.who.inc) ((host_row s.kept c.who.host).seq == sh.seq) _
      (number-other (host_row s.kept c.who.host).seq sh.seq (λ same. let less = undecided in absurd (omega arith)))
    where
      no : (a b d e : Bool) → d ≡ false → (a && b && d && e) ≡ false
      no true true true e f = absurd (cc)
      no true true false e f = refl
      no true false d e f = refl
      no false b d e f = refl

  row : Row
  row = (bound-knows s c ps k boots stands p.file b).0

  own : OwnRow (standing s) c.who p.file row
  unfolding row
  own = (bound-knows s c ps k boots stands p.file b).1

  row-writes : is_writing row.mode ≡ true
  unfolding row
  row-writes = (bound-knows s c ps k boots stands p.file b).2

  knows : KnowsFile s.kept (line_for s.kept c.who) row.mode b.lease.mode p.file (rev_at c.revisions p.file) b.lease.blocks
      (done_at s.kept c.who c.ticket p.file)
  unfolding row
  knows = (bound-knows s c ps k boots stands p.file b).3

  -- the file is kept at the revision on which the push rests
  at-base : sh.base.base ≡ knows.f.rev
  at-base = pushed.rev ∙ sym (knows.revision ∙ ap (λ d. due d (rev_at c.revisions p.file)) not-done)

  of-boot : sh.base.boot ≡ s.kept.opened
  of-boot = pushed.boot ∙ ap (λ l. l.tag.boot) one-lease ∙ bound-boot s s.phase c.who p.file b.lease.tag boots stands b.bound

  serving-boot : s.phase ≡ serving → sh.base.boot ≡ s.kept.boot
  serving-boot q =
      let f : ServesBoot s.kept.boot s.kept.opened s.table = subst (λ q. BootsFit s.kept.boot s.kept.opened q s.table) q boots in of-boot ∙ f.opened_now

  inside : p.block < blocks_of knows.f
  inside =
      let small = within p b.lease (inr pushed.under_way) b.held in
      let length = knows.length in
      omega arith

  serving-row : s.phase ≡ serving → find_row p.file c.who.host s.table.rows ≡ Some row
  serving-row q = subst (λ q. find_row p.file c.who.host (standing_in q s.table).rows ≡ Some row) q own.stands

  same-file : (f : File) → find_file p.file s.kept.files ≡ Some f → f ≡ knows.f
  same-file f found = some-same f knows.f (sym found ∙ knows.found)

  -- what is no push is not this request
  not-push : (r : Request) → t.request ≡ r → push_in r ≡ None → ⊥
  not-push r e none = none-some p (sym none ∙ ap push_in (sym e) ∙ ap push_in sh.is)

  stored : (w : Who) (row' : Row) (base : PushBase) (f : File) → s.phase ≡ serving → w ≡ c.who → base ≡ sh.base → f ≡ knows.f
      → find_row p.file c.who.host s.table.rows ≡ Some row'
      → (is_writing row'.mode && row'.who.inc == w.inc && base.boot == s.kept.boot && base.base == f.rev) ≡ true
  stored w row' base f q who_is base_is f_is found =
      let one : row' ≡ row = some-same row' row (sym found ∙ serving-row q) in
      let writes : is_writing row'.mode ≡ true = ap (λ z. is_writing z.mode) one ∙ row-writes in
      let inc : (row'.who.inc == w.inc) ≡ true = number-same row'.who.inc w.inc
      (ap (λ z. z.who.inc) one ∙ ap (λ z. z.inc) own.holder ∙ ap (λ z. z.inc) (sym who_is)) in
      let boot : (base.boot == s.kept.boot) ≡ true = number-same base.boot s.kept.boot (ap (λ z. z.boot) base_is ∙ serving-boot q) in
      let rev : (base.base == f.rev) ≡ true = number-same base.base f.rev (ap (λ z. z.base) base_is ∙ at-base ∙ ap (λ z. z.rev) (sym f_is)) in
      and_from _ _ (and_from _ _ (and_from _ _ writes inc) boot) rev

  -- the push of a bound file is not declined
  pub bound-stored : (w : Who) (verdict : Verdict) → w ≡ c.who → IsDeclined s w t.request verdict → ⊥
  bound-stored w verdict who_is (bad_length seq blocks name q on bad v) = not-push (Request.Create w seq name blocks) on refl
  bound-stored w verdict who_is (name_taken seq blocks name q on taken v) = not-push (Request.Create w seq name blocks) on refl
  bound-stored w verdict who_is (no_room seq blocks name q on full v) = not-push (Request.Create w seq name blocks) on refl
  bound-stored w verdict who_is (not_kept file on none v) =
      let at : p.file ≡ file = some-same p.file file (sym (ap file_changed_by sh.is) ∙ on) in
      none-some knows.f (sym none ∙ ap (λ n. find_file n s.kept.files) (sym at) ∙ knows.found)
  bound-stored w verdict who_is (outside seq file block first last push body f on found out v) =
      let e : Request.Write sh.who sh.seq p.file p.block p.first p.last (Some sh.base) p.body ≡ Request.Write w seq file block first last push
      body = sym sh.is ∙ on in
      let at : p.file ≡ file = cc in
      let of_block : p.block ≡ block = cc in
      let one : f ≡ knows.f = same-file f (subst (λ n. find_file n s.kept.files ≡ Some f) (sym at) found) in
      let length : blocks_of f ≡ blocks_of knows.f = ap blocks_of one in
      let small = inside in
      absurd (omega arith)
  bound-stored w verdict who_is (no_row seq file block first last base body f q on found none v) =
      let e : Request.Write sh.who sh.seq p.file p.block p.first p.last (Some sh.base) p.body ≡ Request.Write w seq file block first last (Some base)
      body = sym sh.is ∙ on in
      let at : p.file ≡ file = cc in
      let id : f.id ≡ p.file = found-file file s.kept.files f found ∙ sym at in
      let gone : find_row p.file c.who.host s.table.rows ≡ None = subst (λ n. find_row n c.who.host s.table.rows ≡ None) id
      (subst (λ z. find_row f.id z.host s.table.rows ≡ None) who_is none) in
      none-some row (sym gone ∙ serving-row q)
  bound-stored w verdict who_is (not_under seq file block first last base body f row' q on found stood bars v) =
      let e : Request.Write sh.who sh.seq p.file p.block p.first p.last (Some sh.base) p.body ≡ Request.Write w seq file block first last (Some base)
      body = sym sh.is ∙ on in
      let at : p.file ≡ file = cc in
      let base_is : base ≡ sh.base = cc in
      let id : f.id ≡ p.file = found-file file s.kept.files f found ∙ sym at in
      let one : f ≡ knows.f = same-file f (subst (λ n. find_file n s.kept.files ≡ Some f) (sym at) found) in
      let there : find_row p.file c.who.host s.table.rows ≡ Some row' = subst (λ n. find_row n c.who.host s.table.rows ≡ Some row') id
      (subst (λ z. find_row f.id z.host s.table.rows ≡ Some row') who_is stood) in
      let fine : (is_writing row'.mode && row'.who.inc == w.inc && base.boot == s.kept.boot && base.base == f.rev) ≡ true = stored w row' base f q
      who_is base_is one there in
      absurd (cc)
  bound-stored w verdict who_is (not_over seq file block first last base body f rec on found bars v) =
      let e : Request.Write sh.who sh.seq p.file p.block p.first p.last (Some sh.base) p.body ≡ Request.Write w seq file block first last (Some base)
      body = sym sh.is ∙ on in
      let at : p.file ≡ file = cc in
      let base_is : base ≡ sh.base = cc in
      let one : f ≡ knows.f = same-file f (subst (λ n. find_file n s.kept.files ≡ Some f) (sym at) found) in
      let boot : (base.boot == s.kept.opened) ≡ true = number-same base.boot s.kept.opened (ap (λ z. z.boot) base_is ∙ of-boot) in
      let rev : (base.base == f.rev) ≡ true = number-same base.base f.rev (ap (λ z. z.base) base_is ∙ at-base ∙ ap (λ z. z.rev) (sym one)) in
      let fine : (base.boot == s.kept.opened && base.base == f.rev) ≡ true = and_from _ _ boot rev in
      absurd (cc)
  bound-stored w verdict who_is (not_while_recovering rec none v) = none-some sh.base (sym none ∙ ap base_in sh.is)
  bound-stored w verdict who_is (bad_size seq q file blocks f ph on found bad v) = not-push (Request.Resize w seq q file blocks) on refl
  bound-stored w verdict who_is (no_room_to_grow seq q file blocks f ph on found full v) = not-push (Request.Resize w seq q file blocks) on refl
