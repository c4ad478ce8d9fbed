-- The lines of a head are read as they are spelled.
use Rattle.std.proofs.Common.{◌≡◌, ◌≢◌, ℕ, ◌+◌, ◌<◌, ◌≤◌, ◌^◌, List, [], ◌∷◌, ◌++◌, length, take, Some, None, zero, suc, refl, ap, sym, subst, ◌∙◌}
use Rattle.std.proofs.Common.{lit<, codes, nat_le, if◌then◌else◌, slice_get}
use Rattle.std.specs.Fmt.{decimal}
use Rattle.std.proofs.lemmas.Bool.{leb-true, le-leb}
use Rattle.std.proofs.lemmas.Option.{none-some, same_Some, cond_some}
use Rattle.nq_base.specs.Steps.{◌>>=◌}
use Rattle.nq_base.proofs.Options.{bind_some}
use Rattle.nq_base.specs.Name.{IsNew}
use Rattle.nq_script.specs.Heads.{IsFile, FitFiles, blocks_of, file_line}
use Rattle.nq_script.specs.Reading.{after, ranged_of, file_of}
use Rattle.nq_script.specs.WordsReading.{cut as cut_at, number_of}
use Rattle.nq_script.proofs.Cuts.{after-found, after-again, cut-found, cut-again}
use Rattle.nq_script.proofs.Fitting.{fit-more, fit-last}
use Rattle.nq_script.proofs.NameBytes.{name-lacks}
use Rattle.nq_script.proofs.Numbers.{number-found, number-again}

-- a number in a range behind a prefix is read as it is spelled
pub ranged-found : (prefix : List ℕ) (least most : ℕ) (line : List ℕ) (n : ℕ) → most < 2 ^ 64 → ranged_of prefix least most line ≡ Some n
    → (line ≡ prefix ++ decimal n) × (least ≤ n) × (n ≤ most)
unfolding ranged_of
ranged-found prefix least most line n wide e =
    let word = bind_some (after prefix line) (λ w. number_of most w >>= λ v. if nat_le least v then Some v else None) n e in
    let value = bind_some (number_of most word.0) (λ v. if nat_le least v then Some v else None) n word.2 in
    let above = cond_some (nat_le least value.0) value.0 n value.2 in
    let number = number-found most word.0 n wide (value.1 ∙ ap (λ v. Some v) above.1) in (
      after-found prefix line word.0 word.1 ∙ ap (λ w. prefix ++ w) number.0,
      subst (λ v. least ≤ v) above.1 (leb-true least value.0 above.0),
      number.1,
    )

pub ranged-again : (prefix : List ℕ) (least most n : ℕ) → most < 2 ^ 64 → least ≤ n → n ≤ most → ranged_of prefix least most (prefix ++ decimal n) ≡ Some n
unfolding ranged_of
ranged-again prefix least most n wide low high =
    rw (after-again prefix (decimal n), number-again most n wide high, le-leb least n low) refl

-- where nothing is read, no such number is spelled
pub ranged-none : (prefix : List ℕ) (least most : ℕ) (line : List ℕ) → most < 2 ^ 64 → ranged_of prefix least most line ≡ None
    → (n : ℕ) → least ≤ n → n ≤ most → line ≡ prefix ++ decimal n → ⊥
ranged-none prefix least most line wide none n low high spelled =
    none-some n (sym none ∙ ap (ranged_of prefix least most) spelled ∙ ranged-again prefix least most n wide low high)

-- the line of a file is read as it is spelled
pub file-found : (line : List ℕ) (f : List ℕ × ℕ) → file_of line ≡ Some f → (line ≡ file_line f) × (1 ≤ f.1) × (f.1 ≤ 1024)
unfolding file_of
file-found line f e =
    let words = bind_some (after (codes "file ") line)
    (λ w. cut_at 32 w >>= λ p. ranged_of [] 1 1024 p.1 >>= λ b. Some (p.0, b)) f e in
    let parts = bind_some (cut_at 32 words.0) (λ p. ranged_of [] 1 1024 p.1 >>= λ b. Some (p.0, b)) f words.2 in
    let blocks = bind_some (ranged_of [] 1 1024 parts.0.1) (λ b. Some (parts.0.0, b)) f parts.2 in
    let same : (parts.0.0, blocks.0) ≡ f = same_Some (parts.0.0, blocks.0) f blocks.2 in
    let number = ranged-found [] 1 1024 parts.0.1 blocks.0 (lit< tt) blocks.1 in
    subst (λ g. (line ≡ file_line g) × (1 ≤ g.1) × (g.1 ≤ 1024)) same (
      after-found (codes "file ") line words.0 words.1
          ∙ ap (λ r. codes "file " ++ r) ((cut-found 32 words.0 parts.0.0 parts.0.1 parts.1).0 ∙ ap (λ r. parts.0.0 ++ 32 ∷ r) number.0),
      number.1,
      number.2,
    )

pub file-again : (f : List ℕ × ℕ) → IsFile f → file_of (file_line f) ≡ Some f
unfolding file_of
file-again f is =
    rw (cut-again 32 f.0 (decimal f.1) (name-lacks 32 f.0 (lit< tt) is.0), ranged-again [] 1 1024 f.1 (lit< tt) is.1 is.2) refl

-- where nothing is read, there is no line of a file
pub file-none : (line : List ℕ) → file_of line ≡ None → (f : List ℕ × ℕ) → IsFile f → line ≡ file_line f → ⊥
file-none line none f is spelled = none-some f (sym none ∙ ap file_of spelled ∙ file-again f is)

-- what is read is the one file that is spelled
pub file-same : (line : List ℕ) (f g : List ℕ × ℕ) → file_of line ≡ Some f → IsFile g → line ≡ file_line g → f ≡ g
file-same line f g read is spelled = same_Some f g (sym read ∙ ap file_of spelled ∙ file-again g is)

-- a file at some place among others, of which none has the name, has another name
pub new-at : (name : List ℕ) (files : List (List ℕ × ℕ)) (place : ℕ) (f : List ℕ × ℕ) → slice_get files place ≡ Some f → IsNew name files → f.0 ≢ name
new-at name [] place f here new same = none-some f here
new-at name (g ∷ files) zero f here new same = new.0 (ap (λ h. h.0) (same_Some g f here) ∙ same)
new-at name (g ∷ files) (suc place) f here new same = new-at name files place f here new.1 same

-- where no file so far has the name, and the next has another, none up to that one has it
pub new-more : (name : List ℕ) (files : List (List ℕ × ℕ)) (place : ℕ) (f : List ℕ × ℕ) → slice_get files place ≡ Some f
    → IsNew name (take place files) → f.0 ≢ name → IsNew name (take (suc place) files)
new-more name [] place f here new other = absurd (none-some f here)
new-more name (g ∷ files) zero f here new other = (λ same. other (ap (λ h. h.0) (sym (same_Some g f here)) ∙ same), tt)
new-more name (g ∷ files) (suc place) f here new other = (new.0, new-more name files place f here new.1 other)

-- one line is of one file
pub file-line-same : (f g : List ℕ × ℕ) → IsFile f → IsFile g → file_line f ≡ file_line g → f ≡ g
file-line-same f g is-f is-g same = file-same (file_line f) f g (file-again f is-f) is-g same

-- a file that is read fits behind others where there is room and its name is new
pub next-found : (line : List ℕ) (files : List (List ℕ × ℕ)) (f : List ℕ × ℕ) (blocks : ℕ) → (line ≡ file_line f) × IsFile f → FitFiles files
    → blocks ≡ blocks_of files → (length files < 256) × (blocks + f.1 ≤ 16384) → IsNew f.0 files
    → (line ≡ file_line f) × FitFiles (files ++ f ∷ [])
next-found line files f blocks found fit sum room new =
    (found.0, fit-more files f fit found.1 room.0 (subst (λ b. b + f.1 ≤ 16384) sum room.1) new)

-- where a file of that line fits behind others, there is room for the one that is read, and its name is new
pub next-fits : (line : List ℕ) (files : List (List ℕ × ℕ)) (f g : List ℕ × ℕ) (blocks : ℕ) → (line ≡ file_line f) × IsFile f
    → blocks ≡ blocks_of files → line ≡ file_line g → FitFiles (files ++ g ∷ [])
    → ((length files < 256) × (blocks + f.1 ≤ 16384)) × IsNew f.0 files
next-fits line files f g blocks found sum spelled fit =
    let last = fit-last files g fit in
    let same : g ≡ f = file-line-same g f last.0 found.1 (sym spelled ∙ found.0) in (
      (last.1, subst (λ b. b + f.1 ≤ 16384) (sym sum) (subst (λ h. blocks_of files + h.1 ≤ 16384) same last.2)),
      subst (λ h. IsNew h.0 files) same last.3,
    )
