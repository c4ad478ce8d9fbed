-- What is fenced stays fenced, whatever the server's step.
use Rattle.std.proofs.Common.{◌≡◌, ◌<◌, ◌≤◌, ℕ, ◌+◌, ◌==◌, Bool, true, false, [], ◌∷◌, ◌++◌, Option, Some, None, option_map, if◌then◌else◌, refl, sym}
use Rattle.std.proofs.Common.{subst, ap, ◌∙◌, arith}
use Rattle.std.proofs.lemmas.List.Folds.{find-append}
use Rattle.walk_files.proofs.ChainFacts.{IsFenced, gone, ahead, earlier}
use Rattle.walk_steps.proofs.ClientMoves.{some-same}
use Rattle.nq_model.specs.protocol.Decide.{decides, creates, writes_through, stores, stores_recovering, wrote, resizes, removes, puts_off, commits}
use Rattle.nq_model.specs.protocol.Kept.{File, Kept, find_file, replace_file, drop_file, new_file, written_file, resized_file, fenced_file, with_files}
use Rattle.nq_model.specs.protocol.Kept.{with_new_file, with_row}
use Rattle.nq_model.specs.protocol.Message.{Datagram}
use Rattle.nq_model.specs.protocol.Server.{recovering, Server, ServerStep, quiet, drops, says, keeping, keeping_with, with_table, after_notices}
use Rattle.nq_model.specs.protocol.ServerStep.{attaches, vacates, tells_later, serves, leases, receive, tick, at_time, opens, ends_writing, fence, crash, boot}
use Rattle.nq_model.specs.protocol.Table.{Table}
use Rattle.walk_steps.proofs.ServerTables.{BootsFit, RecoversBoot, BootsFitOf}
use Rattle.walk_steps.proofs.KeptChanges.{find-replaced, find-own-replaced, find-other-replaced, find-removed, find-not-removed}
use Rattle.walk_steps.proofs.Rows.{same-number, number-same}
use Rattle.walk_steps.proofs.DecideCases.{found-file}
use Rattle.walk_steps.proofs.ServerCases.{server-hears, server-ticks}

-- a change of what is kept that fences no less
abbrev pub Keeps : (file boot rev : ℕ) → (kept after : Kept) → Type 0
Keeps file boot rev kept after = IsFenced kept file boot rev → IsFenced after file boot rev

same-files : (kept after : Kept) (file boot rev : ℕ) → after.files ≡ kept.files → after.opened ≡ kept.opened → Keeps file boot rev kept after
same-files kept after file boot rev files opened (gone none) = gone (ap (find_file file) files ∙ none)
same-files kept after file boot rev files opened (ahead f found above) = ahead f (ap (find_file file) files ∙ found) above
same-files kept after file boot rev files opened (earlier below) = earlier (omega arith)

-- a file takes another's place, and its revision does not fall
replaced : (kept after : Kept) (file boot rev : ℕ) (f new : File) → find_file f.id kept.files ≡ Some f → new.id ≡ f.id → f.rev ≤ new.rev
    → after.files ≡ replace_file new kept.files → after.opened ≡ kept.opened → Keeps file boot rev kept after
replaced kept after file boot rev f new found same rises files opened (gone none) =
    gone (ap (find_file file) files ∙ find-replaced file new kept.files ∙ ap (option_map (λ g. if g.id == new.id then new else g)) none)
replaced kept after file boot rev f new found same rises files opened (earlier below) = earlier (omega arith)
replaced kept after file boot rev f new found same rises files opened (ahead g is above) = case (file == new.id) refl
  where
    case : (b : Bool) → (file == new.id) ≡ b → IsFenced after file boot rev
    case true e =
        let at : file ≡ new.id = same-number _ _ e in
        let here : find_file new.id kept.files ≡ Some f = ap (λ n. find_file n kept.files) same ∙ found in
        let one : g ≡ f = some-same g f (sym is ∙ ap (λ n. find_file n kept.files) at ∙ here) in
        let rose : g.rev ≤ new.rev = subst (λ z. z.rev ≤ new.rev) (sym one) rises in
        ahead new (ap (find_file file) files ∙ ap (λ n. find_file n (replace_file new kept.files)) at ∙ find-own-replaced new f kept.files here) (omega arith)
    case false e =
        ahead g (ap (find_file file) files
        ∙ find-other-replaced file new kept.files (λ same. let yes : (file == new.id) ≡ true = number-same _ _ same in absurd (cc)) ∙ is) above

-- a file is taken away
dropped : (kept after : Kept) (file boot rev id : ℕ) → after.files ≡ drop_file id kept.files → after.opened ≡ kept.opened → Keeps file boot rev kept after
dropped kept after file boot rev id files opened h = case (file == id) refl
  where
    other : (file ≡ id → ⊥) → IsFenced kept file boot rev → IsFenced after file boot rev
    other apart (gone none) = gone (ap (find_file file) files ∙ find-not-removed id file kept.files apart ∙ none)
    other apart (ahead g is above) = ahead g (ap (find_file file) files ∙ find-not-removed id file kept.files apart ∙ is) above
    other apart (earlier below) = earlier (omega arith)

    case : (b : Bool) → (file == id) ≡ b → IsFenced after file boot rev
    case true e = gone (ap (find_file file) files ∙ ap (λ n. find_file n (drop_file id kept.files)) (same-number _ _ e) ∙ find-removed id kept.files)
    case false e = other (λ same. let yes : (file == id) ≡ true = number-same _ _ same in absurd (cc)) h

-- a file is made, with an id that none had
added : (kept after : Kept) (file boot rev : ℕ) (new : File) → file < new.id → after.files ≡ kept.files ++ new ∷ [] → after.opened ≡ kept.opened
    → Keeps file boot rev kept after
added kept after file boot rev new below files opened (gone none) =
    let other : (new.id == file) ≡ false = apart new.id file below in
    gone (ap (find_file file) files ∙ find-append (λ f. f.id == file) kept.files (new ∷ []) ∙ rw (none, other) refl)
  where
    apart : (m n : ℕ) → n < m → (m == n) ≡ false
    apart m n h = grind arith
added kept after file boot rev new below files opened (ahead g is above) =
    ahead g (ap (find_file file) files ∙ find-append (λ f. f.id == file) kept.files (new ∷ []) ∙ rw is refl) above
added kept after file boot rev new below files opened (earlier before) = earlier (omega arith)

module _ (s : Server) (file boot rev : ℕ) where
  abbrev Kept-so : ServerStep → Type 0
  Kept-so t = Keeps file boot rev s.kept t.server.kept

  unchanged : (after : Kept) → after.files ≡ s.kept.files → after.opened ≡ s.kept.opened → Keeps file boot rev s.kept after
  unchanged after files opened = same-files s.kept after file boot rev files opened

  pub fenced-receive : (sender next : ℕ) (d : Datagram) → file < s.kept.next → Kept-so (receive s sender next d)
  unfolding quiet drops says attaches vacates tells_later serves leases decides creates writes_through stores wrote stores_recovering resizes
      removes puts_off commits keeping keeping_with with_table after_notices with_files with_new_file with_row new_file written_file resized_file
  fenced-receive sender next d below = server-hears s sender next d Kept-so (record {
    stays = λ h. h;
    dropping = λ reason h. h;
    erring = λ m e h. h;
    answers_null = λ xid e h. h;
    replying = λ xid other r reply e by from plain h. h;
    attaching = λ xid other e from above. unchanged _ refl refl;
    vacating = λ xid other f tag e current h. h;
    putting_off = λ xid other r f clash e by of asking c h. h;
    putting_off_waiting = λ xid other r f clash want e by of w asking c own room h. h;
    putting_off_by_own = λ xid other r f want own e by of w asking c o evicting h. h;
    reading = λ xid other q block f body e asking there c h. h;
    reading_full = λ xid other q block want f body e asking there c own room h. h;
    reading_granted = λ xid other q block want f body row term e asking there c g h. h;
    leasing_full = λ xid other want f e asking c own room h. h;
    leasing = λ xid other want f row term e asking c g h. h;
    declining = λ xid other seq r verdict e by sq fresh declined. unchanged _ refl refl;
    putting_off_change = λ xid other seq r f clash e by sq changes base changing c. unchanged _ refl refl;
    creating = λ xid other seq blocks name e fresh serves can. added s.kept _ file boot rev (new_file s.kept.next name blocks) below refl refl;
    writing_through =
        λ xid other seq block first last body f e changing within free. replaced s.kept _ file boot rev f (written_file f block body) changing.found
        refl (omega arith) refl refl;
    storing =
        λ xid other seq block first last base body f row e changing within can. replaced s.kept _ file boot rev f (written_file f block body)
        changing.found refl (omega arith) refl refl;
    storing_recovering =
        λ xid other seq block first final base body f until heard last e fresh p found within b r. replaced s.kept _ file boot rev f
        (written_file f block body) found refl (omega arith) refl refl;
    resizing =
        λ xid other seq q blocks f e changing can free. replaced s.kept _ file boot rev f (resized_file f blocks) changing.found refl (omega arith) refl
        refl;
    removing = λ xid other seq q f e changing free. dropped s.kept _ file boot rev f.id refl refl;
  })

  fenced-silent : (id : ℕ) (o : Option File) → find_file id s.kept.files ≡ o → Keeps file boot rev s.kept (fence s.kept o)
  unfolding with_files fenced_file
  fenced-silent id None found = λ h. h
  fenced-silent id (Some f) found =
      replaced s.kept _ file boot rev f (fenced_file f) (ap (λ n. find_file n s.kept.files) (found-file id s.kept.files f found) ∙ found) refl
      (omega arith) refl refl

  pub fenced-tick : (now : ℕ) → BootsFitOf s → Kept-so (tick s now)
  unfolding quiet opens ends_writing at_time keeping_with with_table
  fenced-tick now boots = server-ticks s now Kept-so (record {
    waits = λ until heard last p goes_on h. h;
    opening = λ until heard last p over h. open-now until heard last p h;
    ends_reading = λ p none h. h;
    ending_writing = λ due p ends. fenced-silent due.file (find_file due.file s.kept.files) refl;
  }) where
    open-now : (until heard : ℕ) (last : Option Table) → s.phase ≡ recovering until heard last → IsFenced s.kept file boot rev
        → IsFenced (record s.kept { opened = s.kept.boot; longest = s.longest }) file boot rev
    open-now until heard last p (gone none) = gone none
    open-now until heard last p (ahead g is above) = ahead g is above
    open-now until heard last p (earlier below) =
        let r : RecoversBoot s.kept.boot s.kept.opened s.table last = subst (λ p. BootsFit s.kept.boot s.kept.opened p s.table) p boots in
        earlier (let o = r.opened_before in omega arith)

  pub fenced-crash : (longest : ℕ) → Kept-so (crash s longest)
  unfolding crash boot
  fenced-crash longest = booted-so (s.kept.opened == 0) refl
    where
      booted-so : (b : Bool) → (s.kept.opened == 0) ≡ b
          → Keeps file boot rev s.kept (if b then record s.kept { boot = s.kept.boot + 1; opened = s.kept.boot + 1; longest = longest } else record
          s.kept { boot = s.kept.boot + 1 })
      booted-so false e h = unchanged _ refl refl h
      booted-so true e (gone none) = gone none
      booted-so true e (ahead g is above) = ahead g is above
      booted-so true e (earlier below) = let none : s.kept.opened ≡ 0 = same-number _ _ e in absurd (omega arith)
