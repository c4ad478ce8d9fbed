-- What a datagram does to files, as one client sees it.
use Rattle.std.proofs.Common.{◌≡◌, ◌≢◌, ◌<◌, ◌⊎◌, ℕ, ◌+◌, Bool, true, false, ◌==◌, List, Option, Some, None, refl, sym, subst, ap, ◌∙◌, arith, inl, inr}
use Rattle.nq_base.specs.declared.Access.{Access}
use Rattle.nq_base.specs.declared.Event.{Event}
use Rattle.nq_base.specs.declared.PushBase.{PushBase}
use Rattle.nq_base.specs.declared.Request.{Request}
use Rattle.nq_base.specs.declared.Row.{Row}
use Rattle.nq_base.specs.declared.Verdict.{Verdict}
use Rattle.nq_base.specs.declared.Who.{Who}
use Rattle.walk_files.proofs.ChainAfter.{Beforehand}
use Rattle.walk_files.proofs.LineMoves.{decided-stays, decided-written, decided-changed, done-to, done-not-to, refused-to, written-long}
use Rattle.walk_files.proofs.LineMoves.{written-rises, written-id, replaced-there, replaced-other, by-file}
use Rattle.walk_files.proofs.RowsReceived.{added-same}
use Rattle.walk_files.proofs.ServerChains.{Claims, NoneCaches, FileMove, file_stays, file_gone}
use Rattle.walk_files.proofs.ChainFacts.{line_for, done_at, IsFenced, gone, ahead, earlier, StandsWriting, PushesFit}
use Rattle.walk_files.proofs.ChainLists.{fresh-undone}
use Rattle.nq_model.specs.laws.Chained.{OwnRow, is_done, has_done, has_done_write}
use Rattle.walk_steps.proofs.ClientFacts.{changes_file}
use Rattle.walk_steps.proofs.ClientMoves.{some-same, none-some}
use Rattle.walk_steps.proofs.TermsDrawn.{standing-serving}
use Rattle.nq_model.specs.protocol.Ask.{marked}
use Rattle.nq_model.specs.protocol.Client.{Client, Ticket}
use Rattle.nq_model.specs.protocol.Decide.{Decision, commits, row_after, decides, creates, writes_through, stores, wrote, stores_recovering, resizes, removes}
use Rattle.nq_model.specs.protocol.Decide.{puts_off}
use Rattle.nq_model.specs.protocol.Kept.{File, Kept, find_file, replace_file, drop_file, new_file, written_file, resized_file, host_row, with_row, with_files}
use Rattle.nq_model.specs.protocol.Kept.{with_new_file}
use Rattle.nq_model.specs.laws.LeaseInterval.{requested_file}
use Rattle.nq_model.specs.protocol.Message.{Packet, Datagram, request, asker, sequence_of}
use Rattle.nq_model.specs.protocol.Server.{serving, Server, standing, quiet, drops, says, keeping, keeping_with, with_table, after_notices}
use Rattle.nq_model.specs.protocol.ServerStep.{attaches, vacates, tells_later, serves, leases, receive}
use Rattle.nq_model.specs.protocol.Table.{caches, is_writing, find_row, with_rows}
use Rattle.walk_steps.proofs.HostLine.{IsSettled}
use Rattle.walk_steps.proofs.Packets.{Asked}
use Rattle.walk_steps.proofs.ServerNumbers.{LinesFitOf}
use Rattle.walk_steps.proofs.ServerTables.{StandingFitsOf}
use Rattle.walk_steps.proofs.KeptChanges.{other-line, find-removed, find-not-removed}
use Rattle.walk_steps.proofs.RowChanges.{no-clash}
use Rattle.walk_steps.proofs.Rows.{same-number, number-same}
use Rattle.walk_steps.proofs.ServerCases.{server-hears}
use Rattle.walk_steps.proofs.ServerMoves.{first_line}
use Rattle.walk_steps.proofs.ServerOutcomes.{line_of, clash_with, IsFrom, IsFresh, IsChanging, IsDeclined, ServerCases, declined-not}

-- what is not Done
verdict-undone : (v : Verdict) → (v ≡ Verdict.Done → ⊥) → is_done v ≡ false
verdict-undone Verdict.Done none = absurd (none refl)
verdict-undone v none = refl

-- what is declined is not done
declined-undone : (s : Server) (w : Who) (r : Request) (v : Verdict) → IsDeclined s w r v → is_done v ≡ false
declined-undone s w r v d = verdict-undone v (declined-not s w r v d)

module _ (ps : List Packet) (s : Server) (sender next : ℕ) (d : Datagram) (events : List Event) (c : Client) (b : Beforehand ps s events c)
    (was_sent : (x : ℕ) (r : Request) → d ≡ request x r → Asked ps sender x r) (stood : StandingFitsOf s) (lines : LinesFitOf s)
    (pushes : PushesFit s sender ps) where
  abbrev Claimed : ℕ → Type 0
  Claimed file = Claims ps c.who c.ticket c.leases file

  sent-own : (x : ℕ) (r : Request) (w : Who) → d ≡ request x r → w.host ≡ sender → c.who.host ≡ w.host → Asked ps c.who.host x r
  sent-own x r w e from here = subst (λ n. Asked ps n x r) (sym (here ∙ from)) (was_sent x r e)

  inc-own : (w : Who) (seq : ℕ) → IsFresh s sender w seq → c.who.host ≡ w.host → w.inc ≡ (line_for s.kept c.who).inc
  inc-own w seq fresh here = fresh.current.inc ∙ ap (λ n. (host_row s.kept n).inc) (sym here)

  above-own : (w : Who) (seq : ℕ) → IsFresh s sender w seq → c.who.host ≡ w.host → (line_for s.kept c.who).seq < seq
  above-own w seq fresh here = subst (λ n. (host_row s.kept n).seq < seq) (sym here) fresh.above

  -- a fresh request of the client's host is the one under way
  own-ticket : (x seq : ℕ) (r : Request) (w : Who) → d ≡ request x r → asker r ≡ Some w → sequence_of r ≡ Some seq → IsFresh s sender w seq
      → c.who.host ≡ w.host → (u : Ticket) × (c.ticket ≡ Some u) × (u.request ≡ r)
  own-ticket x seq r w e by sq fresh here = step (b.knows.lined.settled b.kept x r w seq sent by inc sq)
    where
      sent : Asked ps c.who.host x r
      sent = sent-own x r w e fresh.current.from.host here

      inc : w.inc ≡ c.who.inc
      inc = inc-own w seq fresh here ∙ b.kept

      step : IsSettled c.ticket (line_for s.kept c.who).seq x seq → (u : Ticket) × (c.ticket ≡ Some u) × (u.request ≡ r)
      step (inl below) = let above = above-own w seq fresh here in absurd (omega arith)
      step (inr u) = (u.0, u.1, (b.mail.asked x r w sent by).same inc u.0 u.1 u.2)

  undone : (seq : ℕ) (r : Request) (w : Who) → sequence_of r ≡ Some seq → IsFresh s sender w seq → c.who.host ≡ w.host → (file : ℕ)
      → has_done (line_for s.kept c.who) c.who.inc file r ≡ false
  undone seq r w sq fresh here file = fresh-undone (line_for s.kept c.who) c.who.inc file seq r sq (λ e. above-own w seq fresh here)

  -- the file stays where a decision does not change it
  stays : (kept : Kept) (t : Server) (x seq : ℕ) (r : Request) (w : Who) (k : Decision) → t.kept ≡ with_row kept w.host (row_after w seq k)
      → kept.hosts ≡ s.kept.hosts → d ≡ request x r → asker r ≡ Some w → sequence_of r ≡ Some seq → IsFresh s sender w seq → (file : ℕ)
      → find_file file t.kept.files ≡ find_file file s.kept.files → (c.who.host ≡ w.host → has_done (row_after w seq k) c.who.inc file r ≡ false)
      → FileMove s t c.who c.ticket file (Claimed file)
  stays kept t x seq r w k is same e by sq fresh file found no_write =
      decided-stays ps s t kept w seq r k c.who c.ticket Claimed is same lines fresh.current.from.possible (own-ticket x seq r w e by sq fresh)
      (undone seq r w sq fresh) file found no_write

  -- a write was done
  writes : (kept : Kept) (t : Server) (x seq block first last : ℕ) (push : Option PushBase) (body : List ℕ) (w : Who) (f : File) (k : Decision)
      → t.kept ≡ with_row kept w.host (row_after w seq k) → kept.hosts ≡ s.kept.hosts
      → t.kept.files ≡ replace_file (written_file f block body) s.kept.files → d ≡ request x (Request.Write w seq f.id block first last push body)
      → IsFresh s sender w seq → find_file f.id s.kept.files ≡ Some f → k.verdict ≡ Verdict.Done → k.value ≡ f.rev + 1
      → (c.who.host ≢ w.host → (row : Row) → OwnRow (standing s) c.who f.id row → caches row.mode ≡ true → ⊥) → (file : ℕ)
      → FileMove s t c.who c.ticket file (Claimed file)
  writes kept t x seq block first last push body w f k is same files e fresh found done value others file = by-file file f.id
      (λ one. subst (λ n. FileMove s t c.who c.ticket n (Claimed n)) (sym one)
      (decided-written ps s t kept w seq r k c.who c.ticket Claimed is same lines fresh.current.from.possible (own-ticket x seq r w e refl refl fresh)
      (undone seq r w refl fresh) f.id f (written_file f block body) found
      (ap (find_file f.id) files ∙ replaced-there f (written_file f block body) s.kept.files (written-id f block body) found)
      (written-rises f block body) (written-long f block body)
      (λ here. done-to w seq c.who.inc block first last f.id push body k done (inc-own w seq fresh here ∙ b.kept))
      (value ∙ sym (written-rises f block body)) (λ apart row row' own caching own' claim. others apart row own caching)))
      (λ apart. stays kept t x seq r w k is same e refl refl fresh file
      (ap (find_file file) files ∙ replaced-other f (written_file f block body) file s.kept.files (written-id f block body) apart)
      (λ here. done-not-to w seq c.who.inc block first last f.id file push body k apart))
    where
      r : Request
      r = Request.Write w seq f.id block first last push body

  -- a client that asks to change a file claims no lease on it
  unclaimed : (x seq file : ℕ) (r : Request) (w : Who) → d ≡ request x r → asker r ≡ Some w → sequence_of r ≡ Some seq → IsFresh s sender w seq
      → changes_file r ≡ Some file → requested_file r ≡ None → c.who.host ≡ w.host → Claimed file → ⊥
  unclaimed x seq file r w e by sq fresh changes plain here claim = step claim
    where
      u : (u : Ticket) × (c.ticket ≡ Some u) × (u.request ≡ r)
      u = own-ticket x seq r w e by sq fresh here

      step : Claimed file → ⊥
      step (inl held) = none-some held.0 (sym (b.alone.asking.changed u.0 file u.1 (ap changes_file u.2 ∙ changes)) ∙ held.1)
      step (inr given) =
          let one : u.0 ≡ given.1 = some-same u.0 given.1 (sym u.1 ∙ given.2.asked) in
          none-some file (sym plain ∙ ap requested_file (sym u.2) ∙ ap (λ z. requested_file z.request) one ∙ given.2.on_file)

  -- no other host's row of a file that is changed caches
  free : (w : Who) (f : File) → s.phase ≡ serving → clash_with s f.id w.host ≡ None → c.who.host ≢ w.host → (row : Row)
      → OwnRow (standing s) c.who f.id row → caches row.mode ≡ true → ⊥
  free w f p none apart row own caching =
      let no_cache : caches row.mode ≡ false = no-clash f.id w.host Access.Write c.who.host s.table.rows row none
      (subst (λ x. find_row f.id c.who.host x.rows ≡ Some row) (standing-serving s p) own.stands) apart in
      absurd (cc)

  beside : (w : Who) (f : File) (row : Row) → find_row f.id w.host (standing s).rows ≡ Some row → is_writing row.mode ≡ true → c.who.host ≢ w.host
      → (mine : Row) → OwnRow (standing s) c.who f.id mine → caches mine.mode ≡ true → ⊥
  beside w f row stands writing apart mine own caching =
      let no_cache : caches mine.mode ≡ false = stood.alone f.id w.host c.who.host row mine stands own.stands apart writing in
      absurd (cc)

  -- the row of a push that is stored while the server recovers stands
  pushed : (x seq block first last : ℕ) (base : PushBase) (body : List ℕ) (w : Who) (f : File)
      → d ≡ request x (Request.Write w seq f.id block first last (Some base) body) → IsFresh s sender w seq → find_file f.id s.kept.files ≡ Some f
      → base.boot ≡ s.kept.opened → base.base ≡ f.rev → StandsWriting (standing s) s.kept w f.id base ps
  pushed x seq block first last base body w f e fresh found boot rev =
      step (pushes x w seq f.id block first last base body (was_sent x _ e) fresh.current.from.host
      (fresh.current.inc ∙ ap (λ n. (host_row s.kept n).inc) fresh.current.from.host)
      (subst (λ n. (host_row s.kept n).seq < seq) fresh.current.from.host fresh.above)).stands
    where
      step : IsFenced s.kept f.id base.boot base.base ⊎ StandsWriting (standing s) s.kept w f.id base ps → StandsWriting (standing s) s.kept w f.id base ps
      step (inr st) = st
      step (inl (gone none)) = none-some f (sym none ∙ found)
      step (inl (ahead g there below)) = let one : g.rev ≡ f.rev = ap (λ z. z.rev) (some-same g f (sym there ∙ found)) in absurd (omega arith)
      step (inl (earlier below)) = absurd (omega arith)

  same-files : (t : Server) → t.kept ≡ s.kept → (file : ℕ) → FileMove s t c.who c.ticket file (Claimed file)
  same-files t same file =
      file_stays (ap (λ k. find_file file k.files) same) (ap (λ k. done_at k c.who c.ticket file) same) (λ done. ap (λ k. (line_for k c.who).value) same)

  -- an incarnation begins, of another host
  begins : (t : Server) (x : ℕ) (w : Who) → d ≡ request x (Request.Attach w) → IsFrom sender w → (line_of s w).inc < w.inc
      → t.kept ≡ with_row s.kept w.host (first_line w) → (file : ℕ) → find_file file t.kept.files ≡ find_file file s.kept.files
      → FileMove s t c.who c.ticket file (Claimed file)
  begins t x w e from later is file found = file_stays found (ap (λ l. has_done_write l c.who.inc file c.ticket) line) (λ done. ap (λ l. l.value) line)
    where
      apart : c.who.host ≢ w.host
      apart here =
          let past = (b.mail.asked x (Request.Attach w) w (sent-own x (Request.Attach w) w e from.host here) refl).inc in
          let kept = b.kept in
          let same : (line_for s.kept c.who).inc ≡ (line_of s w).inc = ap (λ n. (host_row s.kept n).inc) here in
          omega arith

      line : line_for t.kept c.who ≡ line_for s.kept c.who
      line = ap (λ k. host_row k c.who.host) is ∙ other-line s.kept w.host c.who.host (first_line w) apart

  -- no claim on a file that is changed is chained
  none-chained : (x seq : ℕ) (r : Request) (w : Who) (f : File) (t : Server) → d ≡ request x r → asker r ≡ Some w → sequence_of r ≡ Some seq
      → IsFresh s sender w seq → changes_file r ≡ Some f.id → requested_file r ≡ None → s.phase ≡ serving → clash_with s f.id w.host ≡ None
      → NoneCaches s t c.who f.id (Claimed f.id)
  none-chained x seq r w f t e by sq fresh changes plain p none row row' own caching own' claim = step (c.who.host == w.host) refl
    where
      step : (b : Bool) → (c.who.host == w.host) ≡ b → ⊥
      step true here = unclaimed x seq f.id r w e by sq fresh changes plain (same-number c.who.host w.host here) claim
      step false other = free w f p none (λ y. let yes : (c.who.host == w.host) ≡ true = number-same c.who.host w.host y in absurd (cc)) row own caching

  resized : (x : ℕ) (w : Who) (seq q blocks : ℕ) (f f' : File) (k : Decision) → f'.id ≡ f.id → f'.rev ≡ f.rev + 1
      → d ≡ request x (Request.Resize w seq q f.id blocks) → IsChanging s sender w seq f → clash_with s f.id w.host ≡ None → (kept : Kept) (t : Server)
      → t.kept ≡ with_row kept w.host (row_after w seq k) → kept.hosts ≡ s.kept.hosts → t.kept.files ≡ replace_file f' s.kept.files → (file : ℕ)
      → FileMove s t c.who c.ticket file (Claimed file)
  resized x w seq q blocks f f' k id rises e changing none kept t is same files file = by-file file f.id
      (λ one. subst (λ n. FileMove s t c.who c.ticket n (Claimed n)) (sym one)
      (decided-changed ps s t kept w seq r k c.who c.ticket Claimed is same lines changing.fresh.current.from.possible
      (own-ticket x seq r w e refl refl changing.fresh) (undone seq r w refl changing.fresh) f.id f f' changing.found
      (ap (find_file f.id) files ∙ replaced-there f f' s.kept.files id changing.found) (omega arith) (λ here. refl)
      (none-chained x seq r w f t e refl refl changing.fresh refl refl changing.serves none)))
      (λ apart. stays kept t x seq r w k is same e refl refl changing.fresh file
      (ap (find_file file) files ∙ replaced-other f f' file s.kept.files id apart) (λ here. refl))
    where
      r : Request
      r = Request.Resize w seq q f.id blocks

  taken : (x : ℕ) (w : Who) (seq q : ℕ) (f : File) (k : Decision) → d ≡ request x (Request.Remove w seq q f.id) → IsChanging s sender w seq f
      → clash_with s f.id w.host ≡ None → (kept : Kept) (t : Server) → t.kept ≡ with_row kept w.host (row_after w seq k) → kept.hosts ≡ s.kept.hosts
      → t.kept.files ≡ drop_file f.id s.kept.files → (file : ℕ) → FileMove s t c.who c.ticket file (Claimed file)
  taken x w seq q f k e changing none kept t is same files file = by-file file f.id
      (λ one. subst (λ n. FileMove s t c.who c.ticket n (Claimed n)) (sym one)
      (file_gone (ap (find_file f.id) files ∙ find-removed f.id s.kept.files)
      (none-chained x seq r w f t e refl refl changing.fresh refl refl changing.serves none)))
      (λ apart. stays kept t x seq r w k is same e refl refl changing.fresh file
      (ap (find_file file) files ∙ find-not-removed f.id file s.kept.files apart) (λ here. refl))
    where
      r : Request
      r = Request.Remove w seq q f.id

  files-cases : (file : ℕ) → file < s.kept.next → ServerCases s sender next d (λ t. FileMove s t.server c.who c.ticket file (Claimed file))
  unfolding quiet drops says attaches vacates tells_later serves leases commits decides creates writes_through stores wrote stores_recovering
      resizes removes puts_off keeping keeping_with with_table after_notices with_row with_files with_new_file new_file resized_file
  files-cases file numbered = record {
    stays = same-files s refl file;
    dropping = λ reason. same-files s refl file;
    erring = λ m e. same-files s refl file;
    answers_null = λ x e. same-files s refl file;
    replying = λ x w r a e by from plain. same-files s refl file;
    attaching = λ x w e from later. begins _ x w e from later refl file refl;
    vacating = λ x w g tag e current. same-files _ refl file;
    putting_off = λ x w r f clash e by on asking k. same-files _ refl file;
    putting_off_waiting = λ x w r f clash want e by on wants asking k own room. same-files _ refl file;
    putting_off_by_own = λ x w r f want own e by on wants asking k o ev. same-files _ refl file;
    reading = λ x w q block f body e asking there k. same-files _ refl file;
    reading_full = λ x w q block want f body e asking there k own room. same-files _ refl file;
    reading_granted = λ x w q block want f body row term e asking there k g. same-files _ refl file;
    leasing_full = λ x w want f e asking k own room. same-files _ refl file;
    leasing = λ x w want f row term e asking k g. same-files _ refl file;
    declining =
        λ x w seq r v e by sq fresh declined. stays s.kept _ x seq r w (decides s v) refl refl e by sq fresh file refl
        (λ here. refused-to w seq c.who.inc file r (decides s v) (declined-undone s w r v declined));
    putting_off_change =
        λ x w seq r f clash e by sq changes base changing k. stays s.kept _ x seq r w
        (puts_off s w f.id (with_rows s.table (marked f.id w.host Access.Write s.table.rows))) refl refl e by sq changing.fresh file refl
        (λ here. refused-to w seq c.who.inc file r (puts_off s w f.id (with_rows s.table (marked f.id w.host Access.Write s.table.rows))) refl);
    creating =
        λ x w seq blocks name e fresh serves can. stays (with_new_file s.kept name blocks) _ x seq _ w (creates s name blocks) refl refl e refl refl
        fresh file (added-same ps s sender next d c.who.host was_sent stood lines file (new_file s.kept.next name blocks) s.kept.files
        (λ same. omega arith)) (λ here. refl);
    writing_through =
        λ x w seq block first last body f e changing below k. writes (with_files s.kept (replace_file (written_file f block body) s.kept.files)) _ x seq
        block first last None body w f (writes_through s w f block first body) refl refl refl e changing.fresh changing.found refl refl
        (free w f changing.serves k) file;
    storing =
        λ x w seq block first last base body f row e changing below can. writes
        (with_files s.kept (replace_file (written_file f block body) s.kept.files)) _ x seq block first last (Some base) body w f
        (stores s w f row block first last body) refl refl refl e changing.fresh changing.found refl refl
        (beside w f row (subst (λ x. find_row f.id w.host x.rows ≡ Some row) (sym (standing-serving s changing.serves)) can.row_found) can.writes) file;
    storing_recovering = λ x w seq block first final base body f until heard last e fresh p found below boot rev.
        let st = pushed x seq block first final base body w f e fresh found boot rev in
        writes (with_files s.kept (replace_file (written_file f block body) s.kept.files)) _ x seq block first final (Some base) body w f
        (stores_recovering s until last w f block first final body) refl refl refl e fresh found refl refl
        (beside w f st.row st.own.stands st.writes) file;
    resizing =
        λ x w seq q blocks f e changing can k. resized x w seq q blocks f (resized_file f blocks) (resizes s w q f blocks) refl refl e changing k
        (with_files s.kept (replace_file (resized_file f blocks) s.kept.files)) _ refl refl refl file;
    removing =
        λ x w seq q f e changing k. taken x w seq q f (removes s w q f) e changing k (with_files s.kept (drop_file f.id s.kept.files)) _ refl refl refl
        file;
  }

  -- what a datagram does to files, as one client sees it
  pub files-received : (file : ℕ) → file < s.kept.next → FileMove s (receive s sender next d).server c.who c.ticket file (Claimed file)
  files-received file numbered = server-hears s sender next d (λ t. FileMove s t.server c.who c.ticket file (Claimed file)) (files-cases file numbered)
