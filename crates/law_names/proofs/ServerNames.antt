-- What each step of the inner server does to the names of the kept files, to the incarnations of hosts, and to a recovery.
use Rattle.std.proofs.Common.{◌≡◌, ◌≤◌, ℕ, ◌+◌, List, [], ◌∷◌, ◌++◌, Option, Some, None, max, refl, sym, subst, ap, ◌∙◌, arith}
use Rattle.std.specs.Prelude.{⊤}
use Rattle.nq_base.specs.declared.Request.{Request}
use Rattle.nq_base.specs.declared.Who.{Who}
use Rattle.nq_model.specs.protocol.Change.{AreApart}
use Rattle.nq_model.specs.protocol.Decide.{decides, creates, writes_through, stores, wrote, stores_recovering, resizes, removes, puts_off, commits}
use Rattle.nq_model.specs.protocol.Kept.{File, Kept, find_file, drop_file, fenced_file, new_file, replace_file, written_file, resized_file, with_files}
use Rattle.nq_model.specs.protocol.Kept.{with_new_file, with_row, host_row}
use Rattle.nq_model.specs.protocol.Message.{Datagram, request}
use Rattle.nq_model.specs.protocol.Profile.{write_slack}
use Rattle.nq_model.specs.protocol.Server.{Phase, serving, recovering, Server, quiet, drops, says, after_notices, keeping, keeping_with, with_table}
use Rattle.nq_model.specs.protocol.ServerStep.{attaches, vacates, tells_later, serves, leases, receive, fence}
use Rattle.nq_name_server.specs.Served.{names_of}
use Rattle.walk_steps.proofs.KeptChanges.{later-incs, same-incs}
use Rattle.walk_steps.proofs.ServerCases.{server-hears}
use Rattle.walk_steps.proofs.ServerMoves.{phase-moves, server-moves}
use Rattle.walk_steps.proofs.ServerOutcomes.{IsChanging, IsFresh}
use Rattle.law_names.proofs.Claims.{Outlasts}
use Rattle.law_names.proofs.Entries.{all-named, names-replaced}

-- ---- names

-- what a datagram does to the names of the files
pub data FilesMove (s : Server) (sender : ℕ) (d : Datagram) (files : List File) : Type 0 where
  stay : names_of files ≡ names_of s.kept.files → FilesMove s sender d files
  made : (xid : ℕ) (who : Who) (seq blocks : ℕ) (name : List ℕ) → d ≡ request xid (Request.Create who seq name blocks) → IsFresh s sender who seq
      → s.phase ≡ serving → files ≡ s.kept.files ++ new_file s.kept.next name blocks ∷ [] → FilesMove s sender d files
  removed : (xid : ℕ) (who : Who) (seq q : ℕ) (f : File) → d ≡ request xid (Request.Remove who seq q f.id) → IsChanging s sender who seq f
      → files ≡ drop_file f.id s.kept.files → FilesMove s sender d files

module _ (s : Server) (sender next : ℕ) (d : Datagram) (apart : AreApart s.kept.files) where
  written : (f : File) (block : ℕ) (body : List ℕ) → find_file f.id s.kept.files ≡ Some f
      → names_of (replace_file (written_file f block body) s.kept.files) ≡ names_of s.kept.files
  unfolding written_file
  written f block body found = names-replaced (written_file f block body) s.kept.files (all-named f.id f s.kept.files apart found)

  resized : (f : File) (blocks : ℕ) → find_file f.id s.kept.files ≡ Some f
      → names_of (replace_file (resized_file f blocks) s.kept.files) ≡ names_of s.kept.files
  unfolding resized_file
  resized f blocks found = names-replaced (resized_file f blocks) s.kept.files (all-named f.id f s.kept.files apart found)

  pub files-move : FilesMove s sender d (receive s sender next d).server.kept.files
  unfolding quiet drops says attaches vacates tells_later serves leases decides creates writes_through stores wrote stores_recovering resizes
      removes puts_off commits keeping keeping_with with_table after_notices with_files with_new_file with_row
  files-move = server-hears s sender next d (λ t. FilesMove s sender d t.server.kept.files) (record {
    stays = stay refl;
    dropping = λ reason. stay refl;
    erring = λ m e. stay refl;
    answers_null = λ xid e. stay refl;
    replying = λ xid who r reply e by from plain. stay refl;
    attaching = λ xid who e from later. stay refl;
    vacating = λ xid who file tag e current. stay refl;
    putting_off = λ xid who r f clash e by file asking c. stay refl;
    putting_off_waiting = λ xid who r f clash want e by file wants asking c own room. stay refl;
    putting_off_by_own = λ xid who r f want own e by file wants asking c o evicting. stay refl;
    reading = λ xid who q block f body e asking there c. stay refl;
    reading_full = λ xid who q block want f body e asking there c own room. stay refl;
    reading_granted = λ xid who q block want f body row term e asking there c g. stay refl;
    leasing_full = λ xid who want f e asking c own room. stay refl;
    leasing = λ xid who want f row term e asking c g. stay refl;
    declining = λ xid who seq r verdict e by sq fresh declined. stay refl;
    putting_off_change = λ xid who seq r f clash e by sq file base changing c. stay refl;
    creating = λ xid who seq blocks name e fresh serves can. made xid who seq blocks name e fresh serves refl;
    writing_through = λ xid who seq block first last body f e changing below c. stay (written f block body changing.found);
    storing = λ xid who seq block first last base body f row e changing below can. stay (written f block body changing.found);
    storing_recovering = λ xid who seq block first final base body f until heard last e fresh recovers found below boot rev. stay (written f block body found);
    resizing = λ xid who seq q blocks f e changing can c. stay (resized f blocks changing.found);
    removing = λ xid who seq q f e changing c. removed xid who seq q f e changing refl;
  })

pub fence-names : (kept : Kept) (o : Option File) (id : ℕ) → AreApart kept.files → find_file id kept.files ≡ o → ((f : File) → o ≡ Some f → f.id ≡ id)
    → names_of (fence kept o).files ≡ names_of kept.files
unfolding with_files fenced_file
fence-names kept None id apart found of = refl
fence-names kept (Some f) id apart found of =
    names-replaced (fenced_file f) kept.files
    (all-named f.id f kept.files apart (ap (λ i. find_file i kept.files) (of f refl) ∙ found))

-- ---- incarnations

pub receive-incs : (s : Server) (sender next : ℕ) (d : Datagram) (host : ℕ) → (host_row s.kept host).inc
    ≤ (host_row (receive s sender next d).server.kept host).inc
unfolding with_files with_new_file
receive-incs s sender next d host = server-moves s sender next d (λ kept phase table. (host_row s.kept host).inc ≤ (host_row kept host).inc) (record {
  stays = omega arith;
  decided = λ kept phase table who line e f q. let same = same-incs kept who.host line host (f ∙ e) in omega arith;
  attaching = λ who later. later-incs s.kept who.host _ host (omega arith);
  vacating = λ who file tag current. omega arith;
  marking = λ file h access serves. omega arith;
  marking_waiting = λ xid r who f want e wants asking own room. omega arith;
  granting = λ xid r who f want row term e wants asking c g. omega arith;
  creating = λ name blocks serves can. omega arith;
  changing = λ who f file serves current found same c. omega arith;
  storing = λ who f file base row serves current found same can. omega arith;
  storing_recovering = λ f file until heard last p found same. omega arith;
  removing = λ who f serves current found c. omega arith;
})

-- ---- recoveries

-- a phase goes on: a boot that serves goes on serving, and a recovery goes on, and ends no earlier
abbrev pub PhaseGoes : (before after : Phase) → Type 0
PhaseGoes serving serving = ⊤
PhaseGoes (recovering until heard last) (recovering later h l) = until ≤ later
PhaseGoes serving (recovering later h l) = ⊥
PhaseGoes (recovering until heard last) serving = ⊥

pub outlasts-on : (p q : Phase) (end : ℕ) → PhaseGoes p q → Outlasts p end → Outlasts q end
outlasts-on serving serving end g h = tt
outlasts-on (recovering until heard last) (recovering later x l) end g h = omega arith
outlasts-on serving (recovering later x l) end g h = absurd g
outlasts-on (recovering until heard last) serving end g h = absurd g

pub same-goes : (p : Phase) → PhaseGoes p p
same-goes serving = tt
same-goes (recovering until heard last) = omega arith

pub receive-phase : (s : Server) (sender next : ℕ) (d : Datagram) → ((receive s sender next d).server.kept.longest ≡ s.kept.longest)
    × PhaseGoes s.phase (receive s sender next d).server.phase
receive-phase s sender next d =
    server-moves s sender next d (λ kept phase table. (kept.longest ≡ s.kept.longest) × PhaseGoes s.phase phase)
    (phase-moves s d (λ longest phase. (longest ≡ s.kept.longest) × PhaseGoes s.phase phase) (refl, same-goes s.phase)
    (λ until heard last p. (refl, subst (λ x. PhaseGoes x (recovering (max until (s.now + write_slack)) s.now last)) (sym p) (omega arith))))
