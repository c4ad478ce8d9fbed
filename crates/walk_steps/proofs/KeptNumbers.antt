-- What each change of the kept state does to the numbers that grow.
use Rattle.std.proofs.Common.{◌≡◌, ◌≤◌, ℕ, ◌+◌, ◌==◌, not, List, [], ◌∷◌, Option, Some, None, if◌then◌else◌, refl, arith}
use Rattle.std.proofs.lemmas.List.Elements.{All-nil, All-cons, All-head, All-tail, All-append, All-filter, All-weaker}
use Rattle.nq_base.specs.declared.HostRow.{HostRow}
use Rattle.nq_model.specs.protocol.Kept.{File, Kept, find_file, replace_file, drop_file, new_file, written_file, resized_file, fenced_file, with_row}
use Rattle.nq_model.specs.protocol.Kept.{with_files, with_new_file}
use Rattle.nq_model.specs.protocol.ServerStep.{fence, booted}
use Rattle.nq_model.proofs.Finding.{choice}
use Rattle.nq_model.proofs.FreshFits.{found-has}
use Rattle.walk_steps.specs.Within.{RevisionsUpTo, GrewTo}

-- one event later
pub grew-on : (n : ℕ) (kept : Kept) → GrewTo n kept → GrewTo (n + 1) kept
grew-on n kept g = record {
  revisions = All-weaker (λ f. f.rev ≤ n) (λ f. f.rev ≤ n + 1) (λ f own. omega arith) kept.files g.revisions;
  boots = let b = g.boots in omega arith;
  ids = let i = g.ids in omega arith;
}

-- another row of a host
pub grew-row : (n : ℕ) (kept : Kept) (host : ℕ) (line : HostRow) → GrewTo n kept → GrewTo n (with_row kept host line)
unfolding with_row
grew-row n kept host line g = record { revisions = g.revisions; boots = g.boots; ids = g.ids }

-- other files
pub grew-files : (n : ℕ) (kept : Kept) (files : List File) → RevisionsUpTo n files → GrewTo n kept → GrewTo n (with_files kept files)
unfolding with_files
grew-files n kept files each g = record { revisions = each; boots = g.boots; ids = g.ids }

-- a file in place of another
replaced-up-to : (n : ℕ) (x : File) (files : List File) → x.rev ≤ n → RevisionsUpTo n files → RevisionsUpTo n (replace_file x files)
replaced-up-to n x [] own each = All-nil (λ f. f.rev ≤ n)
replaced-up-to n x (g ∷ files) own each =
    All-cons (λ f. f.rev ≤ n) (if g.id == x.id then x else g) (replace_file x files)
    (choice (λ (f : File). f.rev ≤ n) (g.id == x.id) x g (λ same. own) (λ other. All-head (λ f. f.rev ≤ n) g files each))
    (replaced-up-to n x files own (All-tail (λ f. f.rev ≤ n) g files each))

-- a kept file gets the next revision
pub grew-changed : (n : ℕ) (kept : Kept) (f x : File) → find_file f.id kept.files ≡ Some f → x.rev ≡ f.rev + 1 → GrewTo n kept
    → GrewTo (n + 1) (with_files kept (replace_file x kept.files))
grew-changed n kept f x found next g =
    let own : f.rev ≤ n = found-has (λ file. file.rev ≤ n) f.id kept.files f g.revisions found in
    let later : GrewTo (n + 1) kept = grew-on n kept g in
    grew-files (n + 1) kept (replace_file x kept.files) (replaced-up-to (n + 1) x kept.files (omega arith) later.revisions) later

pub written-next : (f : File) (block : ℕ) (body : List ℕ) → (written_file f block body).rev ≡ f.rev + 1
unfolding written_file
written-next f block body = refl

pub resized-next : (f : File) (blocks : ℕ) → (resized_file f blocks).rev ≡ f.rev + 1
unfolding resized_file
resized-next f blocks = refl

fenced-next : (f : File) → (fenced_file f).rev ≡ f.rev + 1
unfolding fenced_file
fenced-next f = refl

-- a file is taken away
pub grew-dropped : (n : ℕ) (kept : Kept) (id : ℕ) → GrewTo n kept → GrewTo n (with_files kept (drop_file id kept.files))
grew-dropped n kept id g =
    grew-files n kept (drop_file id kept.files) (All-filter (λ f. not (f.id == id)) (λ f. f.rev ≤ n) kept.files g.revisions) g

-- a file is made
pub grew-created : (n : ℕ) (kept : Kept) (name : List ℕ) (blocks : ℕ) → GrewTo n kept → GrewTo (n + 1) (with_new_file kept name blocks)
unfolding with_new_file new_file
grew-created n kept name blocks g =
    let later : GrewTo (n + 1) kept = grew-on n kept g in
    record {
      revisions =
          All-append (λ f. f.rev ≤ n + 1) kept.files _ later.revisions (All-cons (λ f. f.rev ≤ n + 1) _ [] (omega arith) (All-nil (λ f. f.rev ≤ n + 1)));
      boots = later.boots;
      ids = let i = g.ids in omega arith;
    }

-- a file is fenced, where it is kept
pub grew-fenced : (n : ℕ) (kept : Kept) (id : ℕ) (o : Option File) → find_file id kept.files ≡ o → GrewTo n kept → GrewTo (n + 1) (fence kept o)
grew-fenced n kept id None found g = grew-on n kept g
grew-fenced n kept id (Some f) found g =
    let own : f.rev ≤ n = found-has (λ file. file.rev ≤ n) id kept.files f g.revisions found in
    let later : GrewTo (n + 1) kept = grew-on n kept g in
    let next = fenced-next f in
    grew-files (n + 1) kept (replace_file (fenced_file f) kept.files) (replaced-up-to (n + 1) (fenced_file f) kept.files (omega arith) later.revisions) later

-- a server boots
pub grew-booted : (n : ℕ) (kept : Kept) (longest : ℕ) → GrewTo n kept → GrewTo (n + 1) (booted kept longest)
grew-booted n kept longest g =
    let later : GrewTo (n + 1) kept = grew-on n kept g in
    let more : kept.boot + 1 ≤ n + 1 + 1 = let b = g.boots in omega arith in
    choice (GrewTo (n + 1)) (kept.opened == 0) _ _
    (λ first. record { revisions = later.revisions; boots = more; ids = later.ids })
    (λ again. record { revisions = later.revisions; boots = more; ids = later.ids })
