-- What a datagram does to rows, lines and revisions, whoever sees it.
use Rattle.std.proofs.Common.{◌≡◌, ◌≢◌, ◌<◌, ◌⊎◌, ℕ, ◌+◌, Bool, true, false, ◌==◌, List, [], ◌∷◌, ◌++◌, Option, Some, None, refl, sym, subst, ap, ◌∙◌}
use Rattle.std.proofs.Common.{arith, inl, inr}
use Rattle.nq_base.specs.declared.Access.{Access}
use Rattle.nq_base.specs.declared.PushBase.{PushBase}
use Rattle.nq_base.specs.declared.Request.{Request}
use Rattle.nq_base.specs.declared.Verdict.{Verdict}
use Rattle.nq_base.specs.declared.Who.{Who}
use Rattle.walk_files.proofs.LineMoves.{line-same, line-decided, written-rises, written-id, replaced-there, replaced-other, by-file}
use Rattle.walk_files.proofs.RowMoves.{rows-same, rows-marked, rows-granted, rows-waiting, rows-heard, rows-removed, rows-recovering, rows-vacated}
use Rattle.walk_files.proofs.RowMoves.{rows-attached}
use Rattle.walk_files.proofs.ServerChains.{RowsMove, LineTo, line_stays, line_begins, FilesGrow, rev_stays, rev_rises, rev_gone}
use Rattle.walk_files.proofs.ChainFacts.{VerdictFits}
use Rattle.walk_steps.proofs.ClientMoves.{none-some}
use Rattle.nq_model.specs.protocol.Ask.{marked}
use Rattle.nq_model.specs.protocol.Decide.{Decision, commits, row_after, decides, creates, writes_through, stores, wrote, stores_recovering, resizes, removes}
use Rattle.nq_model.specs.protocol.Decide.{puts_off}
use Rattle.nq_model.specs.protocol.Kept.{File, Kept, find_file, replace_file, drop_file, new_file, written_file, resized_file, host_row, with_row, with_files}
use Rattle.nq_model.specs.protocol.Kept.{with_new_file}
use Rattle.nq_model.specs.protocol.Message.{Packet, Datagram, request, asker, sequence_of}
use Rattle.nq_model.specs.protocol.Server.{serving, Server, quiet, drops, says, keeping, keeping_with, with_table, after_notices}
use Rattle.nq_model.specs.protocol.ServerStep.{attaches, vacates, tells_later, serves, leases, to_read, access_of, receive}
use Rattle.nq_model.specs.protocol.Table.{find_row, with_rows, after_draw}
use Rattle.walk_steps.proofs.Packets.{Asked}
use Rattle.walk_steps.proofs.ServerNumbers.{LinesFitOf}
use Rattle.walk_steps.proofs.ServerTables.{StandingFits, StandingFitsOf}
use Rattle.walk_steps.proofs.KeptChanges.{own-line, other-line, find-removed, find-not-removed, find-added, found-added}
use Rattle.walk_steps.proofs.RowChanges.{HasUniqueKeys}
use Rattle.walk_steps.proofs.Rows.{found-row, same-number, number-same}
use Rattle.walk_steps.proofs.ServerCases.{server-hears}
use Rattle.walk_steps.proofs.ServerMoves.{first_line}
use Rattle.walk_steps.proofs.ServerOutcomes.{base_in, wanted_by, line_of, IsFrom, IsFresh, IsDeclined, bad_length, name_taken, no_room, not_kept}
use Rattle.walk_steps.proofs.ServerOutcomes.{outside, no_row, not_under, not_over, not_while_recovering, bad_size, no_room_to_grow, ServerCases}
use Rattle.walk_steps.proofs.TableFits.{TableFits}

module _ (ps : List Packet) (s : Server) (sender next : ℕ) (d : Datagram) (host : ℕ)
    (was_sent : (x : ℕ) (r : Request) → d ≡ request x r → Asked ps sender x r) (stood : StandingFitsOf s) (lines : LinesFitOf s) where
  own-table : s.phase ≡ serving → TableFits s.kept.files s.table.boot s.table.drawn s.table.rows
  own-table p = subst (λ q. StandingFits s.kept.files q s.table) p stood

  unique : s.phase ≡ serving → HasUniqueKeys s.table.rows
  unique p = (own-table p).unique

  sent-here : (x : ℕ) (r : Request) (w : Who) → d ≡ request x r → w.host ≡ sender → w.host ≡ host → Asked ps host x r
  sent-here x r w e from here = subst (λ n. Asked ps n x r) (sym from ∙ here) (was_sent x r e)

  begun-line : (w : Who) → IsFrom sender w → host_row (with_row s.kept w.host (first_line w)) w.host ≡ first_line w
  begun-line w from = own-line s.kept w.host (first_line w) (let few = from.possible in let all = lines in omega arith)

  rows-cases : ServerCases s sender next d (λ t. RowsMove ps s t.server host)
  unfolding quiet drops says attaches vacates tells_later serves leases commits decides creates writes_through stores wrote stores_recovering
      resizes removes puts_off keeping keeping_with with_table after_notices with_row with_files with_new_file with_rows after_draw
  rows-cases = record {
    stays = rows-same ps s s host refl;
    dropping = λ reason. rows-same ps s s host refl;
    erring = λ m e. rows-same ps s s host refl;
    answers_null = λ x e. rows-same ps s s host refl;
    replying = λ x w r a e by from plain. rows-same ps s s host refl;
    attaching = λ x w e from later. rows-attached ps s (attaches s w x).server host w unique refl refl
        (λ here. subst (λ n. (host_row s.kept n).inc < (host_row (with_row s.kept w.host (first_line w)) n).inc) here
        (subst (λ l. (host_row s.kept w.host).inc < l.inc) (sym (begun-line w from)) later));
    vacating =
        λ x w file tag e current. rows-vacated ps s (vacates s w file tag).server host x w file tag unique refl refl
        (sent-here x (Request.Vacated w file tag) w e current.from.host);
    putting_off = λ x w r f clash e by on asking k. rows-marked ps s _ host asking.serves asking.serves f.id w.host (access_of (wanted_by r)) refl;
    putting_off_waiting =
        λ x w r f clash want e by on wants asking k own room. rows-waiting ps s _ host asking.serves asking.serves (to_read s w f (Some want)) want own
        refl;
    putting_off_by_own = λ x w r f want own e by on wants asking k o ev. rows-same ps s _ host refl;
    reading = λ x w q block f body e asking there k. rows-same ps s _ host refl;
    reading_full = λ x w q block want f body e asking there k own room. rows-same ps s _ host refl;
    reading_granted =
        λ x w q block want f body row term e asking there k g. rows-granted ps s _ host asking.serves asking.serves (to_read s w f (Some want)) want row
        term g refl;
    leasing_full = λ x w want f e asking k own room. rows-same ps s _ host refl;
    leasing = λ x w want f row term e asking k g. rows-granted ps s _ host asking.serves asking.serves (to_read s w f (Some want)) want row term g refl;
    declining = λ x w seq r v e by sq fresh declined. rows-same ps s _ host refl;
    putting_off_change =
        λ x w seq r f clash e by sq changes base changing k. rows-marked ps s _ host changing.serves changing.serves f.id w.host Access.Write refl;
    creating = λ x w seq blocks name e fresh serves can. rows-same ps s _ host refl;
    writing_through = λ x w seq block first last body f e changing below k. rows-same ps s _ host refl;
    storing = λ x w seq block first last base body f row e changing below can.
        let key = found-row f.id w.host s.table.rows row can.row_found in
        rows-heard ps s _ host changing.serves changing.serves s.now row
        (ap (λ n. find_row n row.who.host s.table.rows) key.0 ∙ ap (λ n. find_row f.id n s.table.rows) key.1 ∙ can.row_found) refl;
    storing_recovering =
        λ x w seq block first final base body f until heard last e fresh p found below boot rev. rows-recovering ps s _ host until heard _ _ last p refl;
    resizing = λ x w seq q blocks f e changing can k. rows-same ps s _ host refl;
    removing =
        λ x w seq q f e changing k. rows-removed ps s _ host changing.serves changing.serves f.id (unique changing.serves)
        (find-removed f.id s.kept.files) refl;
  }

  -- what a datagram does to the rows of a host
  pub rows-received : RowsMove ps s (receive s sender next d).server host
  rows-received = server-hears s sender next d (λ t. RowsMove ps s t.server host) rows-cases

  -- ---- lines

  line-begun : (x : ℕ) (w : Who) → d ≡ request x (Request.Attach w) → IsFrom sender w → (line_of s w).inc < w.inc → LineTo ps s (attaches s w x).server host
  unfolding attaches keeping_with
  line-begun x w e from later = step (host == w.host) refl
    where
      step : (b : Bool) → (host == w.host) ≡ b → LineTo ps s (attaches s w x).server host
      step true same =
          let here : host ≡ w.host = same-number host w.host same in
          let line : host_row (with_row s.kept w.host (first_line w)) host ≡ first_line w = ap (host_row (with_row s.kept w.host (first_line w))) here
          ∙ begun-line w from in
          line_begins x w (sent-here x (Request.Attach w) w e from.host (sym here)) (sym here)
          (subst (λ n. (host_row s.kept n).inc < w.inc) (sym here) later) (ap (λ l. l.inc) line) (ap (λ l. l.seq) line)
      step false other =
          line_stays (other-line s.kept w.host host (first_line w) (λ y. let yes : (host == w.host) ≡ true = number-same host w.host y in absurd (cc)))

  any-stale : (r : Request) (value : ℕ) → VerdictFits r Verdict.Stale value
  any-stale (Request.Write w n file block first last (Some base) body) value = tt
  any-stale (Request.Write w n file block first last None body) value = tt
  any-stale other value = tt

  any-later : (r : Request) (value : ℕ) → base_in r ≡ None → VerdictFits r Verdict.TryLater value
  any-later (Request.Write w n file block first last (Some base) body) value none = none-some base (sym none)
  any-later (Request.Write w n file block first last None body) value none = tt
  any-later other value none = tt

  any-outside : (w : Who) (n file block first last : ℕ) (push : Option PushBase) (body : List ℕ) (value : ℕ)
      → VerdictFits (Request.Write w n file block first last push body) Verdict.Invalid value
  any-outside w n file block first last (Some base) body value = tt
  any-outside w n file block first last None body value = tt

  declined-fits : (w : Who) (r : Request) (v : Verdict) (value : ℕ) → IsDeclined s w r v → VerdictFits r v value
  declined-fits w r v value (bad_length seq blocks name p is bad to) =
      subst (λ z. VerdictFits r z value) (sym to) (subst (λ z. VerdictFits z Verdict.Invalid value) (sym is) tt)
  declined-fits w r v value (name_taken seq blocks name p is taken to) =
      subst (λ z. VerdictFits r z value) (sym to) (subst (λ z. VerdictFits z Verdict.Exist value) (sym is) tt)
  declined-fits w r v value (no_room seq blocks name p is full to) =
      subst (λ z. VerdictFits r z value) (sym to) (subst (λ z. VerdictFits z Verdict.NoSpace value) (sym is) tt)
  declined-fits w r v value (not_kept file changes none to) = subst (λ z. VerdictFits r z value) (sym to) (any-stale r value)
  declined-fits w r v value (outside seq file block first last push body f is found past to) =
      subst (λ z. VerdictFits r z value) (sym to)
      (subst (λ z. VerdictFits z Verdict.Invalid value) (sym is) (any-outside w seq file block first last push body value))
  declined-fits w r v value (no_row seq file block first last base body f p is found none to) =
      subst (λ z. VerdictFits r z value) (sym to) (subst (λ z. VerdictFits z Verdict.Fenced value) (sym is) tt)
  declined-fits w r v value (not_under seq file block first last base body f row p is found stands bars to) =
      subst (λ z. VerdictFits r z value) (sym to) (subst (λ z. VerdictFits z Verdict.Fenced value) (sym is) tt)
  declined-fits w r v value (not_over seq file block first last base body f recovers is found bars to) =
      subst (λ z. VerdictFits r z value) (sym to) (subst (λ z. VerdictFits z Verdict.Fenced value) (sym is) tt)
  declined-fits w r v value (not_while_recovering recovers none to) = subst (λ z. VerdictFits r z value) (sym to) (any-later r value none)
  declined-fits w r v value (bad_size seq q file blocks f p is found bad to) =
      subst (λ z. VerdictFits r z value) (sym to) (subst (λ z. VerdictFits z Verdict.Invalid value) (sym is) tt)
  declined-fits w r v value (no_room_to_grow seq q file blocks f p is found full to) =
      subst (λ z. VerdictFits r z value) (sym to) (subst (λ z. VerdictFits z Verdict.NoSpace value) (sym is) tt)

  decided-line : (kept : Kept) (t : Server) (x seq : ℕ) (w : Who) (r : Request) (k : Decision) → t.kept ≡ with_row kept w.host (row_after w seq k)
      → kept.hosts ≡ s.kept.hosts → d ≡ request x r → asker r ≡ Some w → sequence_of r ≡ Some seq → IsFresh s sender w seq
      → VerdictFits r k.verdict k.value → LineTo ps s t host
  decided-line kept t x seq w r k is same e by sq fresh fits =
      line-decided ps s kept t host x seq w r k is same lines fresh.current.from.possible (sent-here x r w e fresh.current.from.host) by sq
      fresh.current.inc fresh.above fits

  lines-cases : ServerCases s sender next d (λ t. LineTo ps s t.server host)
  unfolding quiet drops says attaches vacates tells_later serves leases commits decides creates writes_through stores wrote stores_recovering
      resizes removes puts_off keeping keeping_with with_table after_notices with_files with_new_file
  lines-cases = record {
    stays = line-same ps s s host refl;
    dropping = λ reason. line-same ps s s host refl;
    erring = λ m e. line-same ps s s host refl;
    answers_null = λ x e. line-same ps s s host refl;
    replying = λ x w r a e by from plain. line-same ps s s host refl;
    attaching = λ x w e from later. line-begun x w e from later;
    vacating = λ x w file tag e current. line-same ps s _ host refl;
    putting_off = λ x w r f clash e by on asking k. line-same ps s _ host refl;
    putting_off_waiting = λ x w r f clash want e by on wants asking k own room. line-same ps s _ host refl;
    putting_off_by_own = λ x w r f want own e by on wants asking k o ev. line-same ps s _ host refl;
    reading = λ x w q block f body e asking there k. line-same ps s _ host refl;
    reading_full = λ x w q block want f body e asking there k own room. line-same ps s _ host refl;
    reading_granted = λ x w q block want f body row term e asking there k g. line-same ps s _ host refl;
    leasing_full = λ x w want f e asking k own room. line-same ps s _ host refl;
    leasing = λ x w want f row term e asking k g. line-same ps s _ host refl;
    declining =
        λ x w seq r v e by sq fresh declined. decided-line s.kept (commits w seq x r (decides s v)).server x seq w r (decides s v) refl refl e by sq
        fresh (declined-fits w r v 0 declined);
    putting_off_change =
        λ x w seq r f clash e by sq changes base changing k. decided-line s.kept _ x seq w r
        (puts_off s w f.id (with_rows s.table (marked f.id w.host Access.Write s.table.rows))) refl refl e by sq changing.fresh (any-later r 0 base);
    creating = λ x w seq blocks name e fresh serves can. decided-line _ _ x seq w _ (creates s name blocks) refl refl e refl refl fresh tt;
    writing_through =
        λ x w seq block first last body f e changing below k. decided-line _ _ x seq w _ (writes_through s w f block first body) refl refl e refl refl
        changing.fresh tt;
    storing =
        λ x w seq block first last base body f row e changing below can. decided-line _ _ x seq w _ (stores s w f row block first last body) refl refl e
        refl refl changing.fresh (ap (λ n. n + 1) (sym can.rev));
    storing_recovering =
        λ x w seq block first final base body f until heard last e fresh p found below boot rev. decided-line _ _ x seq w _
        (stores_recovering s until last w f block first final body) refl refl e refl refl fresh (ap (λ n. n + 1) (sym rev));
    resizing = λ x w seq q blocks f e changing can k. decided-line _ _ x seq w _ (resizes s w q f blocks) refl refl e refl refl changing.fresh tt;
    removing = λ x w seq q f e changing k. decided-line _ _ x seq w _ (removes s w q f) refl refl e refl refl changing.fresh tt;
  }

  -- what a datagram does to the line of a host
  pub line-received : LineTo ps s (receive s sender next d).server host
  line-received = server-hears s sender next d (λ t. LineTo ps s t.server host) lines-cases

  -- ---- revisions

  files-same : (t : Server) → t.kept.files ≡ s.kept.files → t.kept.next ≡ s.kept.next → t.kept.opened ≡ s.kept.opened → FilesGrow s t
  files-same t same n o = record { files = λ file numbered. rev_stays (ap (find_file file) same); next = omega arith; opened = omega arith }

  replaced-grows : (t : Server) (f f' : File) → f'.id ≡ f.id → f'.rev ≡ f.rev + 1 → find_file f.id s.kept.files ≡ Some f
      → t.kept.files ≡ replace_file f' s.kept.files → t.kept.next ≡ s.kept.next → t.kept.opened ≡ s.kept.opened → FilesGrow s t
  replaced-grows t f f' id rises found is n o = record {
    files = λ file numbered. by-file file f.id
        (λ one. rev_rises f f' (subst (λ z. find_file z s.kept.files ≡ Some f) (sym one) found)
        (ap (find_file file) is ∙ subst (λ z. find_file z (replace_file f' s.kept.files) ≡ Some f') (sym one)
        (replaced-there f f' s.kept.files id found)) (omega arith))
        (λ apart. rev_stays (ap (find_file file) is ∙ replaced-other f f' file s.kept.files id apart));
    next = omega arith;
    opened = omega arith;
  }

  removed-grows : (t : Server) (f : File) → t.kept.files ≡ drop_file f.id s.kept.files → t.kept.next ≡ s.kept.next → t.kept.opened ≡ s.kept.opened
      → FilesGrow s t
  removed-grows t f is n o = record {
    files = λ file numbered. by-file file f.id
        (λ one. rev_gone (ap (find_file file) is ∙ subst (λ z. find_file z (drop_file f.id s.kept.files) ≡ None) (sym one) (find-removed f.id s.kept.files)))
        (λ apart. rev_stays (ap (find_file file) is ∙ find-not-removed f.id file s.kept.files apart));
    next = omega arith;
    opened = omega arith;
  }

  -- a new file takes a number that was not drawn before
  pub added-same : (file : ℕ) (f : File) (files : List File) → file ≢ f.id → find_file file (files ++ f ∷ []) ≡ find_file file files
  added-same file f files apart = step (find_file file files) refl (find_file file (files ++ f ∷ [])) refl
    where
      step : (o : Option File) → find_file file files ≡ o → (p : Option File) → find_file file (files ++ f ∷ []) ≡ p
          → find_file file (files ++ f ∷ []) ≡ find_file file files
      step (Some g) e p k = find-added file f g files e ∙ sym e
      step None e None k = k ∙ sym e
      step None e (Some g) k = new (found-added file f g files k)
        where
          new : (find_file file files ≡ Some g) ⊎ ((file ≡ f.id) × (g ≡ f)) → find_file file (files ++ f ∷ []) ≡ find_file file files
          new (inl old) = none-some g (sym e ∙ old)
          new (inr is) = absurd (apart is.0)

  added-grows : (t : Server) (f : File) → f.id ≡ s.kept.next → t.kept.files ≡ s.kept.files ++ f ∷ [] → t.kept.next ≡ s.kept.next + 1
      → t.kept.opened ≡ s.kept.opened → FilesGrow s t
  added-grows t f id is n o = record {
    files = λ file numbered. rev_stays (ap (find_file file) is ∙ added-same file f s.kept.files (λ same. omega arith));
    next = omega arith;
    opened = omega arith;
  }

  grows-cases : ServerCases s sender next d (λ t. FilesGrow s t.server)
  unfolding quiet drops says attaches vacates tells_later serves leases commits decides creates writes_through stores wrote stores_recovering
      resizes removes puts_off keeping keeping_with with_table after_notices with_row with_files with_new_file new_file resized_file
  grows-cases = record {
    stays = files-same s refl refl refl;
    dropping = λ reason. files-same s refl refl refl;
    erring = λ m e. files-same s refl refl refl;
    answers_null = λ x e. files-same s refl refl refl;
    replying = λ x w r a e by from plain. files-same s refl refl refl;
    attaching = λ x w e from later. files-same _ refl refl refl;
    vacating = λ x w file tag e current. files-same _ refl refl refl;
    putting_off = λ x w r f clash e by on asking k. files-same _ refl refl refl;
    putting_off_waiting = λ x w r f clash want e by on wants asking k own room. files-same _ refl refl refl;
    putting_off_by_own = λ x w r f want own e by on wants asking k o ev. files-same _ refl refl refl;
    reading = λ x w q block f body e asking there k. files-same _ refl refl refl;
    reading_full = λ x w q block want f body e asking there k own room. files-same _ refl refl refl;
    reading_granted = λ x w q block want f body row term e asking there k g. files-same _ refl refl refl;
    leasing_full = λ x w want f e asking k own room. files-same _ refl refl refl;
    leasing = λ x w want f row term e asking k g. files-same _ refl refl refl;
    declining = λ x w seq r v e by sq fresh declined. files-same _ refl refl refl;
    putting_off_change = λ x w seq r f clash e by sq changes base changing k. files-same _ refl refl refl;
    creating = λ x w seq blocks name e fresh serves can. added-grows _ (new_file s.kept.next name blocks) refl refl refl refl;
    writing_through =
        λ x w seq block first last body f e changing below k. replaced-grows _ f (written_file f block body) (written-id f block body)
        (written-rises f block body) changing.found refl refl refl;
    storing =
        λ x w seq block first last base body f row e changing below can. replaced-grows _ f (written_file f block body) (written-id f block body)
        (written-rises f block body) changing.found refl refl refl;
    storing_recovering =
        λ x w seq block first final base body f until heard last e fresh p found below boot rev. replaced-grows _ f (written_file f block body)
        (written-id f block body) (written-rises f block body) found refl refl refl;
    resizing = λ x w seq q blocks f e changing can k. replaced-grows _ f (resized_file f blocks) refl refl changing.found refl refl refl;
    removing = λ x w seq q f e changing k. removed-grows _ f refl refl refl;
  }

  -- what a datagram does to revisions
  pub grows-received : FilesGrow s (receive s sender next d).server
  grows-received = server-hears s sender next d (λ t. FilesGrow s t.server) grows-cases
