-- No revision grows faster than the events.
use Rattle.std.proofs.Common.{◌≡◌, ◌≤◌, ℕ, ◌+◌, ◌==◌, not, List, [], ◌∷◌, Option, Some, None, length, if◌then◌else◌, refl, subst, sym, arith}
use Rattle.std.specs.Prelude.{All}
use Rattle.std.proofs.lemmas.List.Elements.{All-nil, All-cons, All-head, All-tail, All-append, All-filter, All-weaker}
use Rattle.nq_base.specs.declared.Event.{Event}
use Rattle.nq_model.specs.protocol.Kept.{File, Kept, find_file, replace_file, drop_file, new_file, written_file, resized_file, fenced_file, with_row}
use Rattle.nq_model.specs.protocol.Kept.{with_files, with_new_file}
use Rattle.nq_model.specs.protocol.Message.{Datagram, datagram_of}
use Rattle.nq_model.specs.protocol.Decide.{decides, creates, writes_through, stores, wrote, stores_recovering, resizes, removes, puts_off, commits}
use Rattle.nq_model.specs.protocol.Server.{Server, ServerStep, quiet, drops, says, after_notices, keeping, keeping_with, with_table}
use Rattle.nq_model.specs.protocol.ServerStep.{receive, tick, crash, boot, fence, booted, attaches, tells_later, serves, leases, vacates, at_time, opens}
use Rattle.nq_model.specs.protocol.ServerStep.{ends_writing}
use Rattle.nq_model.specs.protocol.World.{Head, World, sending_host, first_files, first_kept, after_client, after_server, start, run}
use Rattle.nq_model.proofs.Finding.{choice}
use Rattle.nq_model.proofs.FreshFits.{found-has}
use Rattle.walk_steps.proofs.Steps.{Changes, nothing, by_client, by_server, ServerActs, received, ticks, crashes, step-changes}
use Rattle.walk_steps.proofs.ServerCases.{server-hears, server-ticks}

-- no revision is above this number
abbrev pub UpTo : ℕ → List File → Type 0
UpTo n files = All (λ f. f.rev ≤ n) files

later : (n : ℕ) (files : List File) → UpTo n files → UpTo (n + 1) files
later n files each = All-weaker (λ f. f.rev ≤ n) (λ f. f.rev ≤ n + 1) (λ f own. omega arith) files each

replaced : (n : ℕ) (x : File) (files : List File) → x.rev ≤ n → UpTo n files → UpTo n (replace_file x files)
replaced n x [] own each = All-nil (λ f. f.rev ≤ n)
replaced n x (g ∷ files) own each =
    All-cons (λ f. f.rev ≤ n) (if g.id == x.id then x else g) (replace_file x files)
    (choice (λ (f : File). f.rev ≤ n) (g.id == x.id) x g (λ same. own) (λ other. All-head (λ f. f.rev ≤ n) g files each))
    (replaced n x files own (All-tail (λ f. f.rev ≤ n) g files each))

written-next : (f : File) (block : ℕ) (body : List ℕ) → (written_file f block body).rev ≡ f.rev + 1
unfolding written_file
written-next f block body = refl

resized-next : (f : File) (blocks : ℕ) → (resized_file f blocks).rev ≡ f.rev + 1
unfolding resized_file
resized-next f blocks = refl

fenced-next : (f : File) → (fenced_file f).rev ≡ f.rev + 1
unfolding fenced_file
fenced-next f = refl

-- a kept file gets the next revision
changed : (n : ℕ) (files : List File) (f x : File) → find_file f.id files ≡ Some f → x.rev ≡ f.rev + 1 → UpTo n files → UpTo (n + 1) (replace_file x files)
changed n files f x found next each =
    let own : f.rev ≤ n = found-has (λ file. file.rev ≤ n) f.id files f each found in
    replaced (n + 1) x files (omega arith) (later n files each)

dropped : (n : ℕ) (id : ℕ) (files : List File) → UpTo n files → UpTo n (drop_file id files)
dropped n id files each = All-filter (λ f. not (f.id == id)) (λ f. f.rev ≤ n) files each

created : (n : ℕ) (kept : Kept) (name : List ℕ) (blocks : ℕ) → UpTo n kept.files → UpTo (n + 1) (with_new_file kept name blocks).files
unfolding with_new_file new_file
created n kept name blocks each =
    All-append (λ f. f.rev ≤ n + 1) kept.files _ (later n kept.files each) (All-cons (λ f. f.rev ≤ n + 1) _ [] (omega arith) (All-nil (λ f. f.rev ≤ n + 1)))

fenced : (n : ℕ) (kept : Kept) (id : ℕ) (o : Option File) → find_file id kept.files ≡ o → UpTo n kept.files → UpTo (n + 1) (fence kept o).files
unfolding with_files
fenced n kept id None found each = later n kept.files each
fenced n kept id (Some f) found each =
    let own : f.rev ≤ n = found-has (λ file. file.rev ≤ n) id kept.files f each found in
    let next = fenced-next f in
    replaced (n + 1) (fenced_file f) kept.files (omega arith) (later n kept.files each)

booted-same : (n : ℕ) (kept : Kept) (longest : ℕ) → UpTo n kept.files → UpTo n (booted kept longest).files
booted-same n kept longest each = choice (λ (k : Kept). UpTo n k.files) (kept.opened == 0) _ _ (λ first. each) (λ again. each)

module _ (n : ℕ) (s : Server) (sender next : ℕ) (d : Datagram) (g : UpTo n s.kept.files) where
  abbrev Grows : ServerStep → Type 0
  Grows t = UpTo (n + 1) t.server.kept.files

  same : UpTo (n + 1) s.kept.files
  same = later n s.kept.files g

  receive-grows : Grows (receive s sender next d)
  unfolding quiet drops says attaches vacates tells_later serves leases decides creates writes_through stores wrote stores_recovering resizes
      removes puts_off commits keeping keeping_with with_table after_notices with_row with_files
  receive-grows = server-hears s sender next d Grows (record {
    stays = same;
    dropping = λ reason. same;
    erring = λ m e. same;
    answers_null = λ xid e. same;
    replying = λ xid who r reply e by from plain. same;
    attaching = λ xid who e from above. same;
    vacating = λ xid who file tag e current. same;
    putting_off = λ xid who r f clash e by file asking c. same;
    putting_off_waiting = λ xid who r f clash want e by file wants asking c own room. same;
    putting_off_by_own = λ xid who r f want own e by file wants asking c o evicting. same;
    reading = λ xid who q block f body e asking there c. same;
    reading_full = λ xid who q block want f body e asking there c own room. same;
    reading_granted = λ xid who q block want f body row term e asking there c g. same;
    leasing_full = λ xid who want f e asking c own room. same;
    leasing = λ xid who want f row term e asking c g. same;
    declining = λ xid who seq r verdict e by sq fresh declined. same;
    putting_off_change = λ xid who seq r f clash e by sq file base changing c. same;
    creating = λ xid who seq blocks name e fresh serves can. created n s.kept name blocks g;
    writing_through = λ xid who seq block first last body f e changing below c. changed n s.kept.files f _ changing.found (written-next f block body) g;
    storing = λ xid who seq block first last base body f row e changing below can. changed n s.kept.files f _ changing.found (written-next f block body) g;
    storing_recovering =
        λ xid who seq block first final base body f until heard last e fresh recovers found below boot rev.
        changed n s.kept.files f _ found (written-next f block body) g;
    resizing = λ xid who seq q blocks f e changing can c. changed n s.kept.files f _ changing.found (resized-next f blocks) g;
    removing = λ xid who seq q f e changing c. dropped (n + 1) f.id s.kept.files same;
  })

module _ (n : ℕ) (s : Server) (now : ℕ) (g : UpTo n s.kept.files) where
  abbrev Ticks : ServerStep → Type 0
  Ticks t = UpTo (n + 1) t.server.kept.files

  tick-grows : Ticks (tick s now)
  unfolding quiet at_time opens ends_writing keeping_with with_table
  tick-grows = server-ticks s now Ticks (record {
    waits = λ until heard last p goes_on. later n s.kept.files g;
    opening = λ until heard last p over. later n s.kept.files g;
    ends_reading = λ p none. later n s.kept.files g;
    ending_writing = λ row p due. fenced n s.kept row.file (find_file row.file s.kept.files) refl g;
  })

crash-grows : (n : ℕ) (s : Server) (longest : ℕ) → UpTo n s.kept.files → UpTo (n + 1) (crash s longest).server.kept.files
unfolding crash boot
crash-grows n s longest g = later n _ (booted-same n s.kept longest g)

acted : (n : ℕ) (w : World) (t : ServerStep) → ServerActs w t → UpTo n w.server.kept.files → UpTo (n + 1) t.server.kept.files
acted n w t (received k p sent to is) g = subst (λ (u : ServerStep). UpTo (n + 1) u.server.kept.files) (sym is)
    (receive-grows n w.server (sending_host p.sender) (length w.packets) (datagram_of p.message) g)
acted n w t (ticks is) g = subst (λ (u : ServerStep). UpTo (n + 1) u.server.kept.files) (sym is) (tick-grows n w.server (w.server.now + 1) g)
acted n w t (crashes longest is) g = subst (λ (u : ServerStep). UpTo (n + 1) u.server.kept.files) (sym is) (crash-grows n w.server longest g)

moved : (n : ℕ) (w v : World) → Changes w v → UpTo n w.server.kept.files → UpTo (n + 1) v.server.kept.files
unfolding after_client after_server
moved n w v (nothing is) g = subst (λ (u : World). UpTo (n + 1) u.server.kept.files) (sym is) (later n w.server.kept.files g)
moved n w v (by_client host c t at acts to) g = subst (λ (u : World). UpTo (n + 1) u.server.kept.files) (sym to) (later n w.server.kept.files g)
moved n w v (by_server t acts to) g = subst (λ (u : World). UpTo (n + 1) u.server.kept.files) (sym to) (acted n w t acts g)

firsts : (id : ℕ) (files : List (List ℕ × ℕ)) → UpTo 0 (first_files id files)
unfolding new_file
firsts id [] = All-nil (λ f. f.rev ≤ 0)
firsts id (f ∷ files) = All-cons (λ f. f.rev ≤ 0) _ (first_files (id + 1) files) (omega arith) (firsts (id + 1) files)

starts : (head : Head) → UpTo 0 (start head).server.kept.files
unfolding start boot
starts head = booted-same 0 (first_kept head) head.longest (firsts 1 head.files)

pub revisions-up-to : (head : Head) (events : List Event) → UpTo (length events) (run head events).server.kept.files
revisions-up-to head [] = starts head
revisions-up-to head (e ∷ events) =
    let more : length events + 1 ≡ length (e ∷ events) = omega arith in
    subst (λ n. UpTo n (run head (e ∷ events)).server.kept.files) more
    (moved (length events) (run head events) (run head (e ∷ events)) (step-changes (run head events) e) (revisions-up-to head events))
