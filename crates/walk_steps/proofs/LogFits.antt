-- All facts about a server and the entries that tell a time, and each of its steps keeps them.
use Rattle.std.proofs.Common.{◌≡◌, ◌<◌, ◌≤◌, ℕ, ◌+◌, ◌==◌, Bool, true, false, List, [], ◌∷◌, ◌++◌, Some, if◌then◌else◌, length, refl, subst, arith}
use Rattle.std.proofs.lemmas.List.{length-append, length-replicate}
use Rattle.std.proofs.lemmas.List.Elements.{filter-append}
use Rattle.nq_base.specs.declared.Entry.{Entry}
use Rattle.nq_base.specs.declared.HostRow.{HostRow}
use Rattle.nq_model.specs.protocol.Kept.{File, find_file, new_file}
use Rattle.nq_model.specs.protocol.Profile.{shortest_term, most_hosts}
use Rattle.nq_model.specs.protocol.Server.{Server}
use Rattle.nq_model.specs.protocol.ServerStep.{boot, crash}
use Rattle.nq_model.specs.protocol.World.{Head, first_files, first_kept, start}
use Rattle.walk_steps.proofs.LogMoves.{is_timed, timed}
use Rattle.walk_steps.proofs.Rows.{same-number}
use Rattle.walk_steps.proofs.ServerFits.{ServerFits, fits-boot}
use Rattle.walk_steps.proofs.ServerNumbers.{IdsFit, LinesFit}

pub crash-now : (s : Server) (longest : ℕ) → (crash s longest).server.now ≡ s.now
unfolding crash boot
crash-now s longest = refl

-- the timed entries of more entries
pub timed-append : (more journal : List Entry) → timed (more ++ journal) ≡ timed more ++ timed journal
timed-append more journal = filter-append is_timed more journal

-- the world's server at the start
first-step : (id : ℕ) (x : List ℕ × ℕ) (files : List (List ℕ × ℕ)) (i : ℕ) (f : File) (b : Bool) → (id == i) ≡ b
    → (find_file i (first_files (id + 1) files) ≡ Some f → i < id + 1 + length files)
    → (if b then Some (new_file id x.0 x.1) else find_file i (first_files (id + 1) files)) ≡ Some f → i < id + length (x ∷ files)
first-step id x files i f true e rest found = let same : id ≡ i = same-number id i e in omega arith
first-step id x files i f false e rest found = let below : i < id + 1 + length files = rest found in omega arith

first-ids : (id : ℕ) (files : List (List ℕ × ℕ)) → IdsFit (first_files id files) (id + length files)
unfolding new_file
first-ids id [] i f found = absurd (cc)
first-ids id (x ∷ files) i f found = first-step id x files i f (id == i) refl (first-ids (id + 1) files i f) found

first-lines : (head : Head) → head.hosts ≤ most_hosts → LinesFit (first_kept head).hosts
first-lines head few = omega (arith, length-append {A = HostRow}, length-replicate {A = HostRow})

pub fits-start : (most : ℕ) (head : Head) → head.hosts ≤ most_hosts → shortest_term ≤ head.longest → head.longest ≤ most
    → ServerFits most 0 (start head).server
unfolding start
fits-start most head few long most_long =
    fits-boot most (first_kept head) head.longest 0 refl long most_long long most_long
    (subst (IdsFit (first_kept head).files) (next head) (first-ids 1 head.files)) (first-lines head few)
  where
    next : (head : Head) → 1 + length head.files ≡ (first_kept head).next
    next head = omega arith
