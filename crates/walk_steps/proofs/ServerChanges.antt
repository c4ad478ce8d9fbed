-- What a decision, ATTACH and VACATED do to the server, as one client sees it.
use Rattle.std.proofs.Common.{◌≡◌, ◌≢◌, ◌<◌, ◌≤◌, ℕ, ◌+◌, Bool, true, false, ◌==◌, ◌&&◌, List, [], ◌∷◌, Option, Some, None, if◌then◌else◌, length}
use Rattle.std.proofs.Common.{max, refl, sym, subst, ap, ◌∙◌, arith, inl, inr}
use Rattle.std.proofs.lemmas.Bool.Decides.{nat_tests}
use Rattle.std.proofs.lemmas.Bool.{and_parts}
use Rattle.nq_base.specs.declared.Access.{Access}
use Rattle.nq_base.specs.declared.Event.{Event}
use Rattle.nq_base.specs.declared.Mode.{Mode}
use Rattle.nq_base.specs.declared.PushBase.{PushBase}
use Rattle.nq_base.specs.declared.Reply.{Reply}
use Rattle.nq_base.specs.declared.Request.{Request}
use Rattle.nq_base.specs.declared.Row.{Row}
use Rattle.nq_base.specs.declared.Tag.{Tag}
use Rattle.nq_base.specs.declared.Verdict.{Verdict}
use Rattle.nq_base.specs.declared.Who.{Who}
use Rattle.walk_steps.proofs.ClientFacts.{changes_file}
use Rattle.walk_steps.proofs.ClientMoves.{some-same, none-some}
use Rattle.walk_steps.proofs.Covers.{GoesOnAt, marked-goes-on, heard-goes-on}
use Rattle.walk_steps.proofs.Hearing.{Hearing}
use Rattle.walk_steps.proofs.HostLine.{IsSettled}
use Rattle.walk_steps.proofs.KeptChanges.{own-line, same-lines}
use Rattle.walk_steps.proofs.Packets.{In, Asked}
use Rattle.walk_steps.proofs.RowChanges.{no-clash, find-other-dropped, find-other-host-dropped, find-other-file-dropped}
use Rattle.walk_steps.proofs.Rows.{same-number, number-same, found-row}
use Rattle.walk_steps.proofs.TermsDrawn.{verdict-no-attach, line-after, drawn-more}
use Rattle.walk_steps.proofs.ServerEffects.{claimed-kept, one-new, both-new, rows-new, reply-new}
use Rattle.walk_steps.proofs.ServerEffects.{goes-effect, all-go-on, way-rows}
use Rattle.walk_steps.proofs.ServerKnows.{IsNew, LineMoves, line_stays, line_decides, line_attaches, IsClaimed, Effect}
use Rattle.walk_steps.proofs.ServerMoves.{first_line}
use Rattle.walk_steps.proofs.ServerOutcomes.{line_of, IsFrom, IsCurrent, IsFresh, IsChanging, CanStore, clash_with}
use Rattle.walk_steps.proofs.ServerSays.{verdict-inc, verdict-grant}
use Rattle.walk_steps.proofs.TagFacts.{IsDrawn}
use Rattle.nq_model.specs.protocol.Ask.{marked}
use Rattle.nq_model.specs.protocol.Client.{Lease, Notice, Ticket}
use Rattle.nq_model.specs.protocol.Decide.{Decision, decides, creates, writes_through, stores, wrote, stores_recovering, resizes, removes, puts_off}
use Rattle.nq_model.specs.protocol.Decide.{in_the_way, verdict_reply, commits, row_after}
use Rattle.nq_model.specs.protocol.Kept.{File, host_row, with_row, with_files, with_new_file}
use Rattle.nq_model.specs.laws.LeaseInterval.{claim_of, is_at_least, HasFitting, IsCovered, requested_file}
use Rattle.nq_model.specs.protocol.Message.{Packet, reply, asker, Datagram, request, sequence_of}
use Rattle.nq_model.specs.protocol.Profile.{write_slack, most_hosts}
use Rattle.nq_model.specs.protocol.Server.{Phase, serving, recovering, Server, ServerStep, standing_in, to_host, quiet, after_notices, keeping, keeping_with}
use Rattle.nq_model.specs.protocol.Server.{with_table}
use Rattle.nq_model.specs.protocol.ServerStep.{attaches, vacates, vacated_rows}
use Rattle.nq_model.specs.protocol.Table.{Table, caches, same_tag, tag_below, find_row, drop_row, drop_host, drop_rows_of, with_rows}

-- a cover stays where it does in the table, and the boot that served last is the same
pub covered-tables : (s t : Server) (phase : Phase) (who : Who) (file : ℕ) (mode : Mode) (tag : Tag) (until : ℕ) → t.kept.opened ≡ s.kept.opened
    → (phase ≡ serving → HasFitting (claim_of who file mode tag until) s.table → HasFitting (claim_of who file mode tag until) t.table)
    → IsCovered s phase (claim_of who file mode tag until) → IsCovered t phase (claim_of who file mode tag until)
covered-tables s t serving who file mode tag until same table c = table refl c
covered-tables s t (recovering end heard last) who file mode tag until same table c =
    record { of_last_boot = c.of_last_boot ∙ sym same; fitting = c.fitting; waits = c.waits }

pub same-cover-table : (s t : Server) (phase : Phase) (who : Who) (file : ℕ) (mode : Mode) (tag : Tag) (until : ℕ) → t.kept.opened ≡ s.kept.opened
    → t.table ≡ s.table → IsCovered s phase (claim_of who file mode tag until) → IsCovered t phase (claim_of who file mode tag until)
same-cover-table s t phase who file mode tag until same table c =
    covered-tables s t phase who file mode tag until same (λ p k. subst (HasFitting (claim_of who file mode tag until)) (sym table) k) c

-- a change of rows leaves the drawn tags
drawn-rows : (phase : Phase) (table after : Table) (tag : Tag) → after.boot ≡ table.boot → after.drawn ≡ table.drawn
    → IsDrawn (standing_in phase table).boot (standing_in phase table).drawn tag
    → IsDrawn (standing_in phase after).boot (standing_in phase after).drawn tag
drawn-rows serving table after tag boot drawn k = drawn-more table.boot table.drawn after.boot after.drawn boot (omega arith) tag k
drawn-rows (recovering until heard last) table after tag boot drawn k = k

module _ (ps : List Packet) (s : Server) (most sender next : ℕ) (d : Datagram) (events : List Event) (who : Who) (now xid : ℕ) (attached : Bool)
    (ticket : Option Ticket) (leased : List Lease) (noticed : List Notice)
    (c : Hearing ps s most sender d events who now xid attached ticket leased noticed) where
  goes : (t : ServerStep) → s.phase ≡ serving → t.server.phase ≡ serving → t.server.table.boot ≡ s.table.boot → s.table.drawn ≤ t.server.table.drawn
      → t.server.kept.opened ≡ s.kept.opened → t.server.kept.longest ≡ s.kept.longest
      → LineMoves ps who.host (host_row s.kept who.host) (host_row t.server.kept who.host)
      → ((file : ℕ) → GoesOnAt file who.host s.table.rows t.server.table.rows) → ((q : Packet) → In t.sends q → IsNew ps s t.server q)
      → Effect ps s t who ticket leased
  goes = goes-effect ps s most sender next d events who now xid attached ticket leased noticed c

  same-rows : (file : ℕ) → GoesOnAt file who.host s.table.rows s.table.rows
  same-rows = all-go-on ps s most sender next d events who now xid attached ticket leased noticed c

  kept-inc : (file : ℕ) (tag : Tag) → IsClaimed ps who ticket leased file tag → (host_row s.kept who.host).inc ≡ who.inc
  kept-inc = claimed-kept ps s most sender next d events who now xid attached ticket leased noticed c

  -- ---- a request is decided

  -- the line of the host that asked
  decided-line : (w : Who) (seq : ℕ) (k : Decision) → IsFresh s sender w seq → k.server.kept.hosts ≡ s.kept.hosts
      → host_row (with_row k.server.kept w.host (row_after w seq k)) w.host ≡ row_after w seq k
  decided-line w seq k fresh same =
      own-line k.server.kept w.host (row_after w seq k)
      (let few = fresh.current.from.possible in let all : length k.server.kept.hosts ≡ most_hosts = ap length same ∙ c.lines in omega arith)

  commit-line : (w : Who) (seq x : ℕ) (r : Request) (k : Decision) → IsFresh s sender w seq → k.server.kept.hosts ≡ s.kept.hosts
      → LineMoves ps who.host (host_row s.kept who.host) (host_row (commits w seq x r k).server.kept who.host)
  unfolding commits keeping
  commit-line w seq x r k fresh same =
      subst (λ l. LineMoves ps who.host l (host_row (with_row k.server.kept w.host (row_after w seq k)) who.host))
      (same-lines s.kept k.server.kept who.host same)
      (line-after k.server.kept w.host (row_after w seq k) ps who.host
      (λ e. let before : host_row k.server.kept who.host ≡ host_row s.kept w.host = same-lines s.kept k.server.kept who.host same
      ∙ ap (host_row s.kept) e in line_decides (fresh.current.inc ∙ sym (ap (λ l. l.inc) before))
      (let up = fresh.above in let was : (host_row k.server.kept who.host).seq ≡ (host_row s.kept w.host).seq = ap (λ l. l.seq) before in omega arith))
      (λ e. ap (host_row (with_row k.server.kept w.host (row_after w seq k))) e ∙ decided-line w seq k fresh same))

  commit-reply : (w : Who) (seq x : ℕ) (r : Request) (k : Decision) → d ≡ request x r → asker r ≡ Some w → sequence_of r ≡ Some seq
      → IsFresh s sender w seq → k.server.kept.hosts ≡ s.kept.hosts
      → IsNew ps s (commits w seq x r k).server (to_host w.host (reply x (verdict_reply w.inc k.verdict k.value r)))
  unfolding commits keeping
  commit-reply w seq x r k e by sq fresh same =
      let t : Server = (commits w seq x r k).server in
      let line : host_row t.kept w.host ≡ row_after w seq k = decided-line w seq k fresh same in
      reply-new ps s most sender next d events who now xid attached ticket leased noticed c
      t x w r (verdict_reply w.inc k.verdict k.value r) e by fresh.current.from.host (verdict-inc w.inc k.verdict k.value r seq sq)
      (verdict-grant w.inc k.verdict k.value r)
      (λ i bad. absurd (verdict-no-attach w.inc k.verdict k.value r i bad))
      (λ n q. let one : seq ≡ n = some-same seq n (sym sq ∙ q) in let at : (host_row t.kept w.host).seq ≡ seq = ap (λ l. l.seq) line in
      inl (ap (λ l. l.inc) line, omega arith))

  commit-said : (w : Who) (seq x : ℕ) (r : Request) (k : Decision) → d ≡ request x r → asker r ≡ Some w → sequence_of r ≡ Some seq
      → IsFresh s sender w seq → k.server.kept.hosts ≡ s.kept.hosts → ((q : Packet) → In k.sends q → IsNew ps s (commits w seq x r k).server q)
      → (q : Packet) → In (commits w seq x r k).sends q → IsNew ps s (commits w seq x r k).server q
  unfolding commits
  commit-said w seq x r k e by sq fresh same said =
      both-new ps s most sender next d events who now xid attached ticket leased noticed c
      (commits w seq x r k).server k.sends (to_host w.host (reply x (verdict_reply w.inc k.verdict k.value r)) ∷ []) said
      (one-new ps s most sender next d events who now xid attached ticket leased noticed c
      (commits w seq x r k).server (to_host w.host (reply x (verdict_reply w.inc k.verdict k.value r))) (commit-reply w seq x r k e by sq fresh same))

  nothing-said : (t : Server) (q : Packet) → In [] q → IsNew ps s t q
  nothing-said t q bad = absurd bad

  -- without effect
  pub declines-effect : (x : ℕ) (w : Who) (seq : ℕ) (r : Request) (verdict : Verdict) → d ≡ request x r → asker r ≡ Some w → sequence_of r ≡ Some seq
      → IsFresh s sender w seq → Effect ps s (commits w seq x r (decides s verdict)) who ticket leased
  unfolding commits keeping decides with_row
  declines-effect x w seq r verdict e by sq fresh = record {
    line = commit-line w seq x r (decides s verdict) fresh refl;
    grows = λ tag k. k;
    opened = refl;
    longest = refl;
    covers =
        λ file mode tag until claim caching k. same-cover-table s (commits w seq x r (decides s verdict)).server s.phase who file mode tag until refl
        refl k;
    said = commit-said w seq x r (decides s verdict) e by sq fresh refl (nothing-said (commits w seq x r (decides s verdict)).server);
  }

  -- a change is put off
  pub puts-off-effect : (x : ℕ) (w : Who) (seq : ℕ) (r : Request) (f : File) → d ≡ request x r → asker r ≡ Some w → sequence_of r ≡ Some seq
      → IsChanging s sender w seq f → Effect ps s
      (commits w seq x r (puts_off s w f.id (with_rows s.table (marked f.id w.host Access.Write s.table.rows)))) who ticket leased
  unfolding commits keeping puts_off after_notices with_row with_rows
  puts-off-effect x w seq r f e by sq changing =
      let k : Decision = puts_off s w f.id (with_rows s.table (marked f.id w.host Access.Write s.table.rows)) in
      let t : ServerStep = commits w seq x r k in
      let p = changing.serves in
      goes t p p refl (omega arith) refl refl
      (commit-line w seq x r k changing.fresh refl)
      (λ file. marked-goes-on file who.host f.id w.host Access.Write s.table.rows)
      (commit-said w seq x r k e by sq changing.fresh refl
      (rows-new ps s most sender next d events who now xid attached ticket leased noticed c
      p t.server p refl (omega arith) s.notice (in_the_way s f.id w.host Access.Write)
      (way-rows ps s most sender next d events who now xid attached ticket leased noticed c f.id w.host Access.Write)))

  -- a file is made
  pub creates-effect : (x : ℕ) (w : Who) (seq blocks : ℕ) (name : List ℕ) → d ≡ request x (Request.Create w seq name blocks) → IsFresh s sender w seq
      → s.phase ≡ serving → Effect ps s (commits w seq x (Request.Create w seq name blocks) (creates s name blocks)) who ticket leased
  unfolding commits keeping creates with_row with_new_file
  creates-effect x w seq blocks name e fresh p =
      let k : Decision = creates s name blocks in
      let t : ServerStep = commits w seq x (Request.Create w seq name blocks) k in
      goes t p p refl (omega arith) refl refl (commit-line w seq x (Request.Create w seq name blocks) k fresh refl) same-rows
      (commit-said w seq x (Request.Create w seq name blocks) k e refl refl fresh refl (nothing-said t.server))

  -- a write goes through
  pub writes-effect : (x : ℕ) (w : Who) (seq block first last : ℕ) (body : List ℕ) (f : File)
      → d ≡ request x (Request.Write w seq f.id block first last None body) → IsChanging s sender w seq f
      → Effect ps s (commits w seq x (Request.Write w seq f.id block first last None body) (writes_through s w f block first body)) who ticket leased
  unfolding commits keeping writes_through with_row with_files
  writes-effect x w seq block first last body f e changing =
      let r : Request = Request.Write w seq f.id block first last None body in
      let k : Decision = writes_through s w f block first body in
      let t : ServerStep = commits w seq x r k in
      let p = changing.serves in
      goes t p p refl (omega arith) refl refl (commit-line w seq x r k changing.fresh refl) same-rows
      (commit-said w seq x r k e refl refl changing.fresh refl (nothing-said t.server))

  -- delayed writes are stored, while their row goes on
  pub stores-effect : (x : ℕ) (w : Who) (seq block first last : ℕ) (base : PushBase) (body : List ℕ) (f : File) (row : Row)
      → d ≡ request x (Request.Write w seq f.id block first last (Some base) body) → IsChanging s sender w seq f → CanStore s w f base row
      → Effect ps s (commits w seq x (Request.Write w seq f.id block first last (Some base) body) (stores s w f row block first last body)) who ticket
      leased
  unfolding commits keeping keeping_with stores with_row with_files with_rows
  stores-effect x w seq block first last base body f row e changing can =
      let r : Request = Request.Write w seq f.id block first last (Some base) body in
      let k : Decision = stores s w f row block first last body in
      let t : ServerStep = commits w seq x r k in
      let p = changing.serves in
      let key = found-row f.id w.host s.table.rows row can.row_found in
      let own : find_row row.file row.who.host s.table.rows ≡ Some row = ap (λ n. find_row n row.who.host s.table.rows) key.0
      ∙ ap (λ n. find_row f.id n s.table.rows) key.1 ∙ can.row_found in
      goes t p p refl (omega arith) refl refl (commit-line w seq x r k changing.fresh refl)
      (λ file. heard-goes-on s.now file who.host row s.table.rows own)
      (commit-said w seq x r k e refl refl changing.fresh refl (nothing-said t.server))

  -- a file gets another length
  pub resizes-effect : (x : ℕ) (w : Who) (seq q blocks : ℕ) (f : File) → d ≡ request x (Request.Resize w seq q f.id blocks)
      → IsChanging s sender w seq f → Effect ps s (commits w seq x (Request.Resize w seq q f.id blocks) (resizes s w q f blocks)) who ticket leased
  unfolding commits keeping resizes with_row with_files
  resizes-effect x w seq q blocks f e changing =
      let r : Request = Request.Resize w seq q f.id blocks in
      let k : Decision = resizes s w q f blocks in
      let t : ServerStep = commits w seq x r k in
      let p = changing.serves in
      goes t p p refl (omega arith) refl refl (commit-line w seq x r k changing.fresh refl) same-rows
      (commit-said w seq x r k e refl refl changing.fresh refl (nothing-said t.server))

  -- delayed writes are stored while the server recovers
  pub stores-recovering-effect : (x : ℕ) (w : Who) (seq block first final : ℕ) (base : PushBase) (body : List ℕ) (f : File) (until heard : ℕ)
      (last : Option Table) → d ≡ request x (Request.Write w seq f.id block first final (Some base) body) → IsFresh s sender w seq
      → s.phase ≡ recovering until heard last
      → Effect ps s (commits w seq x (Request.Write w seq f.id block first final (Some base) body)
      (stores_recovering s until last w f block first final body)) who ticket leased
  unfolding commits keeping stores_recovering wrote with_row with_files
  stores-recovering-effect x w seq block first final base body f until heard last e fresh p =
      let r : Request = Request.Write w seq f.id block first final (Some base) body in
      let k : Decision = stores_recovering s until last w f block first final body in
      let t : ServerStep = commits w seq x r k in
      record {
        line = commit-line w seq x r k fresh refl;
        grows = λ tag drawn. subst (λ n. IsDrawn (standing_in n s.table).boot (standing_in n s.table).drawn tag) p drawn;
        opened = refl;
        longest = refl;
        covers = λ file mode tag end claim caching cover. longer file mode tag end (subst (λ n. IsCovered s n (claim_of who file mode tag end)) p cover);
        said = commit-said w seq x r k e refl refl fresh refl (nothing-said t.server);
      }
    where
      longer : (file : ℕ) (mode : Mode) (tag : Tag) (end : ℕ) → IsCovered s (recovering until heard last) (claim_of who file mode tag end)
          → IsCovered (commits w seq x (Request.Write w seq f.id block first final (Some base) body)
          (stores_recovering s until last w f block first final body)).server (recovering (max until (s.now + write_slack)) s.now last)
          (claim_of who file mode tag end)
      longer file mode tag end cover = record { of_last_boot = cover.of_last_boot; fitting = cover.fitting; waits = let before = cover.waits in omega arith }

  -- ---- a file is taken away

  -- a claim on a file that the running incarnation asks to change: there is none
  own-change : (x : ℕ) (w : Who) (seq file : ℕ) (r : Request) → d ≡ request x r → asker r ≡ Some w → sequence_of r ≡ Some seq → IsFresh s sender w seq
      → changes_file r ≡ Some file → requested_file r ≡ None → who.host ≡ w.host → (tag : Tag) → IsClaimed ps who ticket leased file tag → ⊥
  own-change x w seq file r e by sq fresh changes no_grant own tag claim =
      let kept : (host_row s.kept who.host).inc ≡ who.inc = kept-inc file tag claim in
      let inc : w.inc ≡ who.inc = fresh.current.inc ∙ ap (λ n. (host_row s.kept n).inc) (sym own) ∙ kept in
      let sent : Asked ps who.host x r = subst (λ n. Asked ps n x r) (sym (own ∙ fresh.current.from.host)) (c.was_sent x r e) in
      settled inc sent (c.knows.lined.settled kept x r w seq sent by inc sq)
    where
      settled : w.inc ≡ who.inc → Asked ps who.host x r → IsSettled ticket (host_row s.kept who.host).seq x seq → ⊥
      settled inc sent (inl below) =
          let above = fresh.above in let same : (host_row s.kept who.host).seq ≡ (host_row s.kept w.host).seq = ap (λ n. (host_row s.kept n).seq) own in
          absurd (omega arith)
      settled inc sent (inr u) = claimed (((c.mail.asked x r w sent by).same) inc u.0 u.1 u.2) claim
        where
          claimed : u.0.request ≡ r → IsClaimed ps who ticket leased file tag → ⊥
          claimed same (inl held) = none-some held.0 (sym (c.changing u.0 file u.1 (ap changes_file same ∙ changes)) ∙ held.1)
          claimed same (inr given) =
              let one : u.0 ≡ given.1 = some-same u.0 given.1 (sym u.1 ∙ given.2.asked) in
              none-some file (sym no_grant ∙ ap requested_file (sym same) ∙ ap (λ t. requested_file t.request) one ∙ given.2.on_file)

  caching-row : (row mode : Mode) → caches mode ≡ true → is_at_least row mode ≡ true → caches row ≡ true
  caching-row row Mode.NonCaching k h = cc
  caching-row row Mode.Reading k h = h
  caching-row Mode.NonCaching Mode.Writing k h = cc
  caching-row Mode.Reading Mode.Writing k h = refl
  caching-row Mode.Writing Mode.Writing k h = refl

  both-false : (b : Bool) → b ≡ true → b ≡ false → ⊥
  both-false b is isnt = absurd (cc)

  -- where no row of another host is in the way of a change of a file, the others have no caching row of it
  other-change : (w : Who) (f : File) → clash_with s f.id w.host ≡ None → who.host ≢ w.host → (mode : Mode) (tag : Tag) (until : ℕ) → caches mode ≡ true
      → HasFitting (claim_of who f.id mode tag until) s.table → ⊥
  other-change w f none other mode tag until caching k =
      both-false (caches k.row.mode) (caching-row k.row.mode mode caching k.fits.kind)
      (no-clash f.id w.host Access.Write who.host s.table.rows k.row none k.stands other)

  removed-covers : (x : ℕ) (w : Who) (seq q : ℕ) (f : File) → d ≡ request x (Request.Remove w seq q f.id) → IsFresh s sender w seq
      → clash_with s f.id w.host ≡ None → (after : Table) → after.rows ≡ drop_rows_of f.id s.table.rows
      → (file : ℕ) (mode : Mode) (tag : Tag) (until : ℕ) → IsClaimed ps who ticket leased file tag → caches mode ≡ true
      → HasFitting (claim_of who file mode tag until) s.table → HasFitting (claim_of who file mode tag until) after
  removed-covers x w seq q f e fresh none after rows file mode tag until claim caching k = step (file == f.id) refl (who.host == w.host) refl
    where
      step : (b : Bool) → (file == f.id) ≡ b → (own : Bool) → (who.host == w.host) ≡ own → HasFitting (claim_of who file mode tag until) after
      step false differs own g = record {
        row = k.row;
        stands =
            ap (find_row file who.host) rows
            ∙ find-other-file-dropped f.id who.host file s.table.rows (λ same. both-false (file == f.id) (number-same file f.id same) differs) ∙ k.stands;
        fits = k.fits;
      }
      step true same true g =
          let one : file ≡ f.id = same-number file f.id same in
          absurd (own-change x w seq f.id (Request.Remove w seq q f.id) e refl refl fresh refl refl (same-number who.host w.host g) tag
          (subst (λ n. IsClaimed ps who ticket leased n tag) one claim))
      step true same false g =
          let one : file ≡ f.id = same-number file f.id same in
          absurd (other-change w f none (λ own. both-false (who.host == w.host) (number-same who.host w.host own) g) mode tag until caching
          (subst (λ n. HasFitting (claim_of who n mode tag until) s.table) one k))

  pub removes-effect : (x : ℕ) (w : Who) (seq q : ℕ) (f : File) → d ≡ request x (Request.Remove w seq q f.id) → IsChanging s sender w seq f
      → clash_with s f.id w.host ≡ None → Effect ps s (commits w seq x (Request.Remove w seq q f.id) (removes s w q f)) who ticket leased
  unfolding commits keeping keeping_with removes with_row with_files with_rows
  removes-effect x w seq q f e changing none =
      let r : Request = Request.Remove w seq q f.id in
      let k : Decision = removes s w q f in
      let t : ServerStep = commits w seq x r k in
      record {
        line = commit-line w seq x r k changing.fresh refl;
        grows = λ tag drawn. drawn-rows s.phase s.table t.server.table tag refl refl drawn;
        opened = refl;
        longest = refl;
        covers =
            λ file mode tag until claim caching cover. covered-tables s t.server s.phase who file mode tag until refl
            (λ p. removed-covers x w seq q f e changing.fresh none t.server.table refl file mode tag until claim caching) cover;
        said = commit-said w seq x r k e refl refl changing.fresh refl (nothing-said t.server);
      }

  -- ---- a later incarnation begins

  attached-line : (w : Who) → IsFrom sender w → host_row (with_row s.kept w.host (first_line w)) w.host ≡ first_line w
  attached-line w from = own-line s.kept w.host (first_line w) (let few = from.possible in let all = c.lines in omega arith)

  attached-covers : (x : ℕ) (w : Who) → d ≡ request x (Request.Attach w) → IsFrom sender w → (line_of s w).inc < w.inc → (after : Table)
      → after.rows ≡ drop_host w.host s.table.rows → (file : ℕ) (mode : Mode) (tag : Tag) (until : ℕ) → IsClaimed ps who ticket leased file tag
      → HasFitting (claim_of who file mode tag until) s.table → HasFitting (claim_of who file mode tag until) after
  attached-covers x w e from later after rows file mode tag until claim k = step (who.host == w.host) refl
    where
      step : (own : Bool) → (who.host == w.host) ≡ own → HasFitting (claim_of who file mode tag until) after
      step true g =
          let own : who.host ≡ w.host = same-number who.host w.host g in
          let kept : (host_row s.kept who.host).inc ≡ who.inc = kept-inc file tag claim in
          let same : (host_row s.kept who.host).inc ≡ (host_row s.kept w.host).inc = ap (λ n. (host_row s.kept n).inc) own in
          let sent : Asked ps who.host x (Request.Attach w) = subst (λ n. Asked ps n x (Request.Attach w)) (sym (own ∙ from.host))
          (c.was_sent x (Request.Attach w) e) in
          let past = (c.mail.asked x (Request.Attach w) w sent refl).inc in
          absurd (omega arith)
      step false g = record {
        row = k.row;
        stands =
            ap (find_row file who.host) rows
            ∙ find-other-host-dropped file w.host who.host s.table.rows (λ own. both-false (who.host == w.host) (number-same who.host w.host own) g)
            ∙ k.stands;
        fits = k.fits;
      }

  pub attaches-effect : (x : ℕ) (w : Who) → d ≡ request x (Request.Attach w) → IsFrom sender w → (line_of s w).inc < w.inc
      → Effect ps s (attaches s w x) who ticket leased
  unfolding attaches keeping_with with_row with_rows
  attaches-effect x w e from later =
      let t : ServerStep = attaches s w x in
      let line : host_row t.server.kept w.host ≡ first_line w = attached-line w from in
      record {
        line = line-after s.kept w.host (first_line w) ps who.host
            (λ own. line_attaches (let same : (host_row s.kept who.host).inc ≡ (host_row s.kept w.host).inc = ap (λ n. (host_row s.kept n).inc) own in
            omega arith) x w (subst (λ n. Asked ps n x (Request.Attach w)) (sym (own ∙ from.host)) (c.was_sent x (Request.Attach w) e)) refl)
            (λ own. ap (host_row t.server.kept) own ∙ line);
        grows = λ tag drawn. drawn-rows s.phase s.table t.server.table tag refl refl drawn;
        opened = refl;
        longest = refl;
        covers =
            λ file mode tag until claim caching cover. covered-tables s t.server s.phase who file mode tag until refl
            (λ p. attached-covers x w e from later t.server.table refl file mode tag until claim) cover;
        said = one-new ps s most sender next d events who now xid attached ticket leased noticed c
            t.server (to_host w.host (reply x (Reply.Attach w.inc)))
            (reply-new ps s most sender next d events who now xid attached ticket leased noticed c
            t.server x w (Request.Attach w) (Reply.Attach w.inc) e refl from.host refl refl
            (λ i is. ap (λ l. l.inc) line ∙ attach-inc w.inc i is)
            (λ n bad. none-some n bad));
      }
    where
      attach-inc : (a i : ℕ) → Reply.Attach a ≡ Reply.Attach i → a ≡ i
      attach-inc a i is = cc

  -- ---- a lease was given up

  -- a tag that the running incarnation gave up is below each that it claims
  below-claimed : (x : ℕ) (w : Who) (file : ℕ) (given claimed : Tag) → Asked ps who.host x (Request.Vacated w file given) → w.inc ≡ who.inc
      → IsClaimed ps who ticket leased file claimed → tag_below given claimed ≡ true
  below-claimed x w file given claimed sent inc (inl held) =
      subst (λ t. tag_below given t ≡ true) held.2 (c.knows.tagged.past_held x w file given held.0 sent inc held.1)
  below-claimed x w file given claimed sent inc (inr k) =
      let t = k.2 in
      subst (λ z. tag_below given z ≡ true) k.3
      (c.knows.tagged.past_given x w file given t.x t.a k.0 k.1 sent inc t.told t.inc t.asked t.number t.on_file t.gives)

  not-given-up : (row given claimed : Tag) → same_tag row given ≡ true → tag_below given claimed ≡ true → tag_below row claimed ≡ false → ⊥
  not-given-up row given claimed same below goes_on = absurd (grind (arith, nat_tests))

  vacated-stands : (x : ℕ) (w : Who) (f : ℕ) (given : Tag) → d ≡ request x (Request.Vacated w f given) → IsCurrent s sender w
      → (file : ℕ) (mode : Mode) (tag : Tag) (until : ℕ) → IsClaimed ps who ticket leased file tag
      → (k : HasFitting (claim_of who file mode tag until) s.table) → (o : Option Row) → find_row f w.host s.table.rows ≡ o
      → find_row file who.host (vacated_rows w f given s.table.rows o) ≡ Some k.row
  vacated-stands x w f given e current file mode tag until claim k None found = k.stands
  vacated-stands x w f given e current file mode tag until claim k (Some row) found = step (row.who.inc == w.inc && same_tag row.tag given) refl
    where
      mine : (row.who.inc == w.inc && same_tag row.tag given) ≡ true → file ≡ f → who.host ≡ w.host → ⊥
      mine match on own =
          let b = and_parts _ _ match in
          let stands : find_row f w.host s.table.rows ≡ Some k.row = ap (λ n. find_row n w.host s.table.rows) (sym on)
          ∙ ap (λ n. find_row file n s.table.rows) (sym own) ∙ k.stands in
          let one : row ≡ k.row = some-same row k.row (sym found ∙ stands) in
          let inc : w.inc ≡ who.inc = sym (same-number row.who.inc w.inc b.0) ∙ ap (λ r. r.who.inc) one ∙ ap (λ z. z.inc) k.fits.holder in
          let sent : Asked ps who.host x (Request.Vacated w file given) = subst (λ n. Asked ps who.host x (Request.Vacated w n given)) (sym on)
          (subst (λ n. Asked ps n x (Request.Vacated w f given)) (sym (own ∙ current.from.host)) (c.was_sent x (Request.Vacated w f given) e)) in
          not-given-up k.row.tag given tag (subst (λ r. same_tag r.tag given ≡ true) one b.1) (below-claimed x w file given tag sent inc claim) k.fits.goes_on

      step : (b : Bool) → (row.who.inc == w.inc && same_tag row.tag given) ≡ b
          → find_row file who.host (if b then drop_row f w.host s.table.rows else s.table.rows) ≡ Some k.row
      step false match = k.stands
      step true match = find-other-dropped f w.host file who.host s.table.rows (λ on own. mine match on own) ∙ k.stands

  pub vacates-effect : (x : ℕ) (w : Who) (f : ℕ) (given : Tag) → d ≡ request x (Request.Vacated w f given) → IsCurrent s sender w
      → Effect ps s (vacates s w f given) who ticket leased
  unfolding vacates quiet with_table with_rows
  vacates-effect x w f given e current =
      let t : ServerStep = vacates s w f given in
      record {
        line = line_stays refl;
        grows = λ tag drawn. drawn-rows s.phase s.table t.server.table tag refl refl drawn;
        opened = refl;
        longest = refl;
        covers = λ file mode tag until claim caching cover. covered-tables s t.server s.phase who file mode tag until refl
            (λ p k. record {
              row = k.row;
              stands = vacated-stands x w f given e current file mode tag until claim k (find_row f w.host s.table.rows)
                  refl;
              fits = k.fits;
            }) cover;
        said = nothing-said t.server;
      }
