-- Kept files keep to their history at each change of them.
use Rattle.std.proofs.Common.{◌≡◌, ◌≢◌, ◌≤◌, ◌<◌, ◌⊎◌, ℕ, zero, suc, ◌+◌, ◌==◌, Bool, true, false, ◌&&◌, List, [], ◌∷◌, ◌++◌, Some, map, take}
use Rattle.std.proofs.Common.{replicate, nat_lt, refl, sym, subst, ap, ◌∙◌, arith, inl, inr}
use Rattle.std.specs.Prelude.{slice_set}
use Rattle.std.proofs.lemmas.Bool.Decides.{nat_tests}
use Rattle.std.proofs.lemmas.List.{map-set, take-map, map-append}
use Rattle.nq_base.specs.Block.{value_of, zeros, filled}
use Rattle.nq_base.specs.declared.Entry.{Entry}
use Rattle.walk_steps.proofs.ClientMoves.{none-some}
use Rattle.walk_files.proofs.Facts.{History, follows, IsFile, FilesFit, UnusedFit}
use Rattle.walk_files.proofs.Histories.{NoChanges, count-same, count-changed, count-unchanged, content-changed}
use Rattle.nq_model.specs.laws.Contents.{changes, changes_of, after_change, with_length, content_at}
use Rattle.nq_model.specs.protocol.Kept.{File, find_file, replace_file, drop_file, new_file, written_file, resized_file}
use Rattle.walk_steps.proofs.KeptChanges.{found-replaced, find-not-removed, find-removed, found-added}
use Rattle.walk_steps.proofs.Tests.{is-other}

-- ---- entries that change no file

pub files-idle : (h : History) (es : List Entry) (first : ℕ → ℕ) → NoChanges es → ((id : ℕ) → id < h.next → first id ≡ h.first id) → (files : List File)
    → FilesFit h files → FilesFit (record { journal = es ++ h.journal; first = first; next = h.next }) files
files-idle h es first none same files fit id f found =
    let k = fit id f found in
    let count : changes_of (es ++ h.journal) id ≡ changes_of h.journal id = count-same es h.journal id none in
    let rev = k.revision in
    record {
      drawn = k.drawn;
      revision = k.revision ∙ sym count;
      content = k.content ∙ sym ((follows h es first h.next (omega arith) same).contents id f.rev k.drawn (omega arith));
    }

pub unused-idle : (h : History) (es : List Entry) (first : ℕ → ℕ) (next : ℕ) → NoChanges es → h.next ≤ next → UnusedFit h
    → UnusedFit (record { journal = es ++ h.journal; first = first; next = next })
unused-idle h es first next none more unused id above = count-same es h.journal id none ∙ unused id (omega arith)

-- ---- an entry that changes one file

-- the entry changes this file and no other
pub record ChangesOnly (e : Entry) (file : ℕ) : Type 0 where
  pub this : changes e file ≡ true
  pub others : (other : ℕ) → other ≢ file → changes e other ≡ false

pub unused-changed : (h : History) (e : Entry) (file : ℕ) (first : ℕ → ℕ) → ChangesOnly e file → file < h.next → UnusedFit h
    → UnusedFit (record { journal = e ∷ h.journal; first = first; next = h.next })
unused-changed h e file first only drawn unused id above =
    let apart : id ≢ file = λ same. let past : file < h.next = drawn in absurd (omega arith) in
    count-unchanged e h.journal id (only.others id apart) ∙ unused id above

-- a file that is not changed
other-file : (h : History) (e : Entry) (first : ℕ → ℕ) → ((id : ℕ) → id < h.next → first id ≡ h.first id) → (id : ℕ) (f : File) → changes e id ≡ false
    → IsFile h id f → IsFile (record { journal = e ∷ h.journal; first = first; next = h.next }) id f
other-file h e first same id f not_it k =
    let rev = k.revision in
    record {
      drawn = k.drawn;
      revision = k.revision ∙ sym (count-unchanged e h.journal id not_it);
      content = k.content ∙ sym ((follows h (e ∷ []) first h.next (omega arith) same).contents id f.rev k.drawn (omega arith));
    }

-- the file that is changed
pub changed-file : (h : History) (e : Entry) (first : ℕ → ℕ) → ((id : ℕ) → id < h.next → first id ≡ h.first id) → (id : ℕ) (f g : File)
    → changes e id ≡ true → g.rev ≡ f.rev + 1 → map value_of g.bodies ≡ after_change e h.journal (map value_of f.bodies) → IsFile h id f
    → IsFile (record { journal = e ∷ h.journal; first = first; next = h.next }) id g
changed-file h e first same id f g it rev bodies k =
    let now : g.rev ≡ changes_of h.journal id + 1 = rev ∙ ap (λ n. n + 1) k.revision in
    record {
      drawn = k.drawn;
      revision = now ∙ sym (count-changed e h.journal id it);
      content =
          bodies
          ∙ ap (after_change e h.journal)
          (k.content ∙ ap (content_at h.journal (h.first id) id) k.revision
          ∙ ap (λ n. content_at h.journal n id (changes_of h.journal id)) (sym (same id k.drawn)))
          ∙ sym (content-changed e h.journal (first id) id it)
          ∙ ap (content_at (e ∷ h.journal) (first id) id) (sym now);
    }

pub files-changed : (h : History) (e : Entry) (first : ℕ → ℕ) → ((id : ℕ) → id < h.next → first id ≡ h.first id) → (files : List File) (f g : File)
    → find_file f.id files ≡ Some f → g.id ≡ f.id → ChangesOnly e f.id → g.rev ≡ f.rev + 1
    → map value_of g.bodies ≡ after_change e h.journal (map value_of f.bodies) → FilesFit h files
    → FilesFit (record { journal = e ∷ h.journal; first = first; next = h.next }) (replace_file g files)
files-changed h e first same files f g found one only rev bodies fit id x there = case (found-replaced id g x files there)
  where
    case : ((id ≡ g.id) × (x ≡ g)) ⊎ ((id ≢ g.id) × (find_file id files ≡ Some x))
        → IsFile (record { journal = e ∷ h.journal; first = first; next = h.next }) id x
    case (inl p) =
        subst (λ n. IsFile (record { journal = e ∷ h.journal; first = first; next = h.next }) n x) (sym (p.0 ∙ one))
        (subst (λ z. IsFile (record { journal = e ∷ h.journal; first = first; next = h.next }) f.id z) (sym p.1)
        (changed-file h e first same f.id f g only.this rev bodies (fit f.id f found)))
    case (inr p) = other-file h e first same id x (only.others id (λ s. p.0 (s ∙ sym one))) (fit id x p.1)

pub files-removed : (h : History) (e : Entry) (first : ℕ → ℕ) → ((id : ℕ) → id < h.next → first id ≡ h.first id) → (files : List File) (file : ℕ)
    → ChangesOnly e file → FilesFit h files → FilesFit (record { journal = e ∷ h.journal; first = first; next = h.next }) (drop_file file files)
files-removed h e first same files file only fit id x there = case (id == file) refl
  where
    case : (b : Bool) → (id == file) ≡ b → IsFile (record { journal = e ∷ h.journal; first = first; next = h.next }) id x
    case true is =
        let one : id ≡ file = grind (arith, nat_tests) in
        none-some x (sym (find-removed file files) ∙ subst (λ n. find_file n (drop_file file files) ≡ Some x) one there)
    case false is =
        let apart : id ≢ file = is-other id file is in
        other-file h e first same id x (only.others id apart) (fit id x (sym (find-not-removed file id files apart) ∙ there))

-- ---- a file is made

zero-step : (b : Bool) (n : ℕ) → b && nat_lt n 0 ≡ false
zero-step true n = grind (arith, nat_tests)
zero-step false n = refl

content-zero : (j : List Entry) (first file : ℕ) → content_at j first file 0 ≡ replicate first 0
content-zero [] first file = refl
content-zero (e ∷ j) first file = rw (zero-step (changes e file) (changes_of j file)) (content-zero j first file)

pub map-replicate : {A B : Type 0} (f : A → B) (n : ℕ) (x : A) → map f (replicate n x) ≡ replicate n (f x)
map-replicate f zero x = refl
map-replicate f (suc n) x = ap (λ ys. f x ∷ ys) (map-replicate f n x)

pub zeros-value : value_of zeros ≡ 0
unfolding zeros filled
zeros-value = refl

pub files-made : (h : History) (first : ℕ → ℕ) (name : List ℕ) (blocks : ℕ) → ((id : ℕ) → id < h.next → first id ≡ h.first id) → first h.next ≡ blocks
    → (files : List File) → UnusedFit h → FilesFit h files
    → FilesFit (record { journal = h.journal; first = first; next = h.next + 1 }) (files ++ new_file h.next name blocks ∷ [])
unfolding new_file
files-made h first name blocks same new files unused fit id x there = case (found-added id (new_file h.next name blocks) x files there)
  where
    case : (find_file id files ≡ Some x) ⊎ ((id ≡ h.next) × (x ≡ new_file h.next name blocks))
        → IsFile (record { journal = h.journal; first = first; next = h.next + 1 }) id x
    case (inl old) =
        let k = fit id x old in
        let drawn = k.drawn in
        record { drawn = omega arith; revision = k.revision; content = k.content ∙ ap (λ n. content_at h.journal n id x.rev) (sym (same id k.drawn)) }
    case (inr p) =
        subst (λ n. IsFile (record { journal = h.journal; first = first; next = h.next + 1 }) n x) (sym p.0)
        (subst (λ z. IsFile (record { journal = h.journal; first = first; next = h.next + 1 }) h.next z) (sym p.1)
        (record {
          drawn = omega arith;
          revision = sym (unused h.next (omega arith));
          content =
              map-replicate value_of blocks zeros ∙ ap (replicate blocks) zeros-value ∙ ap (λ n. replicate n 0) (sym new)
              ∙ sym (content-zero h.journal (first h.next) h.next);
        }))

-- ---- what each change does to the values

pub written-values : (e : Entry) (j : List Entry) (f : File) (block v : ℕ) (body : List ℕ) → value_of body ≡ v
    → ((values : List ℕ) → after_change e j values ≡ slice_set values block v)
    → map value_of (written_file f block body).bodies ≡ after_change e j (map value_of f.bodies)
unfolding written_file
written-values e j f block v body is sets =
    map-set value_of f.bodies block body ∙ ap (slice_set (map value_of f.bodies) block) is ∙ sym (sets (map value_of f.bodies))

pub resized-values : (f : File) (blocks : ℕ) → map value_of (resized_file f blocks).bodies ≡ with_length blocks (map value_of f.bodies)
unfolding resized_file
resized-values f blocks =
    sym (take-map value_of blocks (f.bodies ++ replicate blocks zeros))
    ∙ ap (take blocks) (map-append value_of f.bodies (replicate blocks zeros)
    ∙ ap (λ more. map value_of f.bodies ++ more) (map-replicate value_of blocks zeros ∙ ap (replicate blocks) zeros-value))
