-- What a step of the server does to the line of a host, and to files, as one client sees it.
use Rattle.std.proofs.Common.{◌≡◌, ◌≢◌, ◌<◌, ℕ, ◌+◌, Bool, true, false, ◌==◌, List, Option, Some, length, refl, sym, subst, ap, ◌∙◌, arith}
use Rattle.std.proofs.lemmas.List.{length-set}
use Rattle.nq_base.specs.declared.PushBase.{PushBase}
use Rattle.nq_base.specs.declared.Request.{Request}
use Rattle.nq_base.specs.declared.Verdict.{Verdict}
use Rattle.nq_base.specs.declared.Who.{Who}
use Rattle.walk_files.proofs.ChainReplies.{undone-file}
use Rattle.walk_files.proofs.ServerChains.{LineTo, line_stays, line_decides, NoneCaches, FileMove, file_stays, file_written, file_changed}
use Rattle.walk_files.proofs.ChainFacts.{line_for, done_at, VerdictFits}
use Rattle.nq_model.specs.laws.Chained.{is_done, has_done, has_done_write}
use Rattle.nq_model.specs.protocol.Client.{Ticket}
use Rattle.nq_model.specs.protocol.Decide.{Decision, row_after}
use Rattle.nq_model.specs.protocol.Kept.{File, Kept, blocks_of, find_file, replace_file, written_file, host_row, with_row}
use Rattle.nq_model.specs.protocol.Message.{Packet, asker, sequence_of}
use Rattle.nq_model.specs.protocol.Profile.{most_hosts}
use Rattle.nq_model.specs.protocol.Server.{Server}
use Rattle.walk_steps.proofs.Packets.{Asked}
use Rattle.walk_steps.proofs.KeptChanges.{own-line, other-line, find-own-replaced, find-other-replaced, same-lines}
use Rattle.walk_steps.proofs.Rows.{same-number, number-same}

-- the lines are the same
pub line-same : (ps : List Packet) (s t : Server) (host : ℕ) → t.kept.hosts ≡ s.kept.hosts → LineTo ps s t host
line-same ps s t host same = line_stays (same-lines s.kept t.kept host same)

-- a request is decided
pub line-decided : (ps : List Packet) (s : Server) (kept : Kept) (t : Server) (host x seq : ℕ) (w : Who) (r : Request) (d : Decision)
    → t.kept ≡ with_row kept w.host (row_after w seq d) → kept.hosts ≡ s.kept.hosts → length s.kept.hosts ≡ most_hosts → w.host < most_hosts
    → (w.host ≡ host → Asked ps host x r) → asker r ≡ Some w → sequence_of r ≡ Some seq → w.inc ≡ (host_row s.kept w.host).inc
    → (host_row s.kept w.host).seq < seq → VerdictFits r d.verdict d.value → LineTo ps s t host
line-decided ps s kept t host x seq w r d is same long few sent by sq inc above fits = step (host == w.host) refl
  where
    own : host_row (with_row kept w.host (row_after w seq d)) w.host ≡ row_after w seq d
    own = own-line kept w.host (row_after w seq d) (let all : length kept.hosts ≡ most_hosts = ap length same ∙ long in omega arith)

    step : (b : Bool) → (host == w.host) ≡ b → LineTo ps s t host
    step true e =
        let here : host ≡ w.host = same-number host w.host e in
        line_decides x r w seq d.verdict d.value (sent (sym here)) by (sym here) (inc ∙ ap (λ n. (host_row s.kept n).inc) (sym here)) sq
        (let was : (host_row s.kept host).seq ≡ (host_row s.kept w.host).seq = ap (λ n. (host_row s.kept n).seq) here in omega arith)
        (ap (λ k. host_row k host) is ∙ ap (host_row (with_row kept w.host (row_after w seq d))) here ∙ own) fits
    step false e =
        line_stays (ap (λ k. host_row k host) is
        ∙ other-line kept w.host host (row_after w seq d) (λ y. let yes : (host == w.host) ≡ true = number-same host w.host y in absurd (cc))
        ∙ same-lines s.kept kept host same)

-- ---- files, where a request was decided

module _ (ps : List Packet) (s t : Server) (kept : Kept) (w : Who) (seq : ℕ) (r : Request) (d : Decision) (who : Who) (ticket : Option Ticket)
    (Claimed : ℕ → Type 0)
    (is : t.kept ≡ with_row kept w.host (row_after w seq d)) (same : kept.hosts ≡ s.kept.hosts) (long : length s.kept.hosts ≡ most_hosts)
    (few : w.host < most_hosts)
    (own : who.host ≡ w.host → (u : Ticket) × (ticket ≡ Some u) × (u.request ≡ r))
    (undone : who.host ≡ w.host → (file : ℕ) → has_done (line_for s.kept who) who.inc file r ≡ false) where
  line-own : who.host ≡ w.host → line_for t.kept who ≡ row_after w seq d
  line-own here =
      ap (λ k. host_row k who.host) is ∙ ap (host_row (with_row kept w.host (row_after w seq d))) here
      ∙ own-line kept w.host (row_after w seq d) (let all : length kept.hosts ≡ most_hosts = ap length same ∙ long in omega arith)

  line-other : who.host ≢ w.host → line_for t.kept who ≡ line_for s.kept who
  line-other apart = ap (λ k. host_row k who.host) is ∙ other-line kept w.host who.host (row_after w seq d) apart ∙ same-lines s.kept kept who.host same

  done-before : (file : ℕ) → who.host ≡ w.host → done_at s.kept who ticket file ≡ false
  done-before file here = let u = own here in ap (λ o. done_at s.kept who o file) u.1 ∙ ap (has_done (line_for s.kept who) who.inc file) u.2 ∙ undone here file

  done-own : (file : ℕ) → who.host ≡ w.host → done_at t.kept who ticket file ≡ has_done (row_after w seq d) who.inc file r
  done-own file here =
      let u = own here in ap (λ o. done_at t.kept who o file) u.1 ∙ ap (has_done (line_for t.kept who) who.inc file) u.2
      ∙ ap (λ l. has_done l who.inc file r) (line-own here)

  done-other : (file : ℕ) → who.host ≢ w.host → done_at t.kept who ticket file ≡ done_at s.kept who ticket file
  done-other file apart = ap (λ l. has_done_write l who.inc file ticket) (line-other apart)

  by-host : {A : Type 0} → (who.host ≡ w.host → A) → (who.host ≢ w.host → A) → A
  by-host {A = A} mine others = step (who.host == w.host) refl
    where
      step : (b : Bool) → (who.host == w.host) ≡ b → A
      step true e = mine (same-number who.host w.host e)
      step false e = others (λ y. let yes : (who.host == w.host) ≡ true = number-same who.host w.host y in absurd (cc))

  -- the file stays
  pub decided-stays : (file : ℕ) → find_file file t.kept.files ≡ find_file file s.kept.files
      → (who.host ≡ w.host → has_done (row_after w seq d) who.inc file r ≡ false) → FileMove s t who ticket file (Claimed file)
  decided-stays file found no_write = by-host
      (λ here. file_stays found (done-own file here ∙ no_write here ∙ sym (done-before file here)) (λ done. let before = done-before file here in absurd (cc)))
      (λ apart. file_stays found (done-other file apart) (λ done. ap (λ l. l.value) (line-other apart)))

  -- a write to it was done
  pub decided-written : (file : ℕ) (f f' : File) → find_file file s.kept.files ≡ Some f → find_file file t.kept.files ≡ Some f' → f'.rev ≡ f.rev + 1
      → blocks_of f' ≡ blocks_of f → (who.host ≡ w.host → has_done (row_after w seq d) who.inc file r ≡ true) → d.value ≡ f'.rev
      → (who.host ≢ w.host → NoneCaches s t who file (Claimed file)) → FileMove s t who ticket file (Claimed file)
  decided-written file f f' found found' rises long_still done value none = by-host
      (λ here. file_written f f' found found' rises long_still (done-before file here) (done-own file here ∙ done here)
      (ap (λ l. l.value) (line-own here) ∙ value))
      (λ apart. file_changed f f' found found' (omega arith) (done-other file apart) (none apart))

  -- another change was made
  pub decided-changed : (file : ℕ) (f f' : File) → find_file file s.kept.files ≡ Some f → find_file file t.kept.files ≡ Some f' → f.rev < f'.rev
      → (who.host ≡ w.host → has_done (row_after w seq d) who.inc file r ≡ false) → NoneCaches s t who file (Claimed file)
      → FileMove s t who ticket file (Claimed file)
  decided-changed file f f' found found' rises no_write none =
      file_changed f f' found found' rises (by-host (λ here. done-own file here ∙ no_write here ∙ sym (done-before file here)) (done-other file)) none

-- a write was done to its file, and to no other
pub done-to : (w : Who) (seq inc block first last : ℕ) (file : ℕ) (push : Option PushBase) (body : List ℕ) (d : Decision) → d.verdict ≡ Verdict.Done
    → w.inc ≡ inc → has_done (row_after w seq d) inc file (Request.Write w seq file block first last push body) ≡ true
done-to w seq inc block first last file push body d done same =
    let a = number-same file file refl in let b = number-same w.inc inc same in let e = number-same seq seq refl in rw (a, b, e, done) refl

pub done-not-to : (w : Who) (seq inc block first last : ℕ) (file g : ℕ) (push : Option PushBase) (body : List ℕ) (d : Decision) → g ≢ file
    → has_done (row_after w seq d) inc g (Request.Write w seq file block first last push body) ≡ false
done-not-to w seq inc block first last file g push body d apart = step (file == g) refl
  where
    step : (b : Bool) → (file == g) ≡ b → has_done (row_after w seq d) inc g (Request.Write w seq file block first last push body) ≡ false
    step true e = absurd (apart (sym (same-number file g e)))
    step false e = rw e refl

-- a refusal was done to none
pub refused-to : (w : Who) (seq inc g : ℕ) (r : Request) (d : Decision) → is_done d.verdict ≡ false → has_done (row_after w seq d) inc g r ≡ false
refused-to w seq inc g r d e = undone-file (row_after w seq d) inc g r e

-- ---- files

-- a written file is as long
pub written-long : (f : File) (block : ℕ) (body : List ℕ) → blocks_of (written_file f block body) ≡ blocks_of f
unfolding written_file
written-long f block body = length-set f.bodies block body

pub written-rises : (f : File) (block : ℕ) (body : List ℕ) → (written_file f block body).rev ≡ f.rev + 1
unfolding written_file
written-rises f block body = refl

pub written-id : (f : File) (block : ℕ) (body : List ℕ) → (written_file f block body).id ≡ f.id
unfolding written_file
written-id f block body = refl

-- a file that is replaced
pub replaced-there : (f f' : File) (files : List File) → f'.id ≡ f.id → find_file f.id files ≡ Some f → find_file f.id (replace_file f' files) ≡ Some f'
replaced-there f f' files same found =
    subst (λ n. find_file n (replace_file f' files) ≡ Some f') same
    (find-own-replaced f' f files (subst (λ n. find_file n files ≡ Some f) (sym same) found))

pub replaced-other : (f f' : File) (file : ℕ) (files : List File) → f'.id ≡ f.id → file ≢ f.id → find_file file (replace_file f' files) ≡ find_file file files
replaced-other f f' file files same apart = find-other-replaced file f' files (λ y. apart (y ∙ same))

-- whether a file is the changed one
pub by-file : {A : Type 0} (file id : ℕ) → (file ≡ id → A) → (file ≢ id → A) → A
by-file {A = A} file id one other = step (file == id) refl
  where
    step : (b : Bool) → (file == id) ≡ b → A
    step true e = one (same-number file id e)
    step false e = other (λ y. let yes : (file == id) ≡ true = number-same file id y in absurd (cc))
