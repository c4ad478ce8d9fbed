-- What is found in the kept state after each change of it.
use Rattle.std.proofs.Common.{◌≡◌, ◌≢◌, ◌<◌, ◌≤◌, ◌⊎◌, ℕ, ◌==◌, Bool, true, false, not, List, [], ◌∷◌, ◌++◌, Option, Some, None, if◌then◌else◌}
use Rattle.std.proofs.Common.{length, get_or, set, refl, sym, subst, ap, ◌∙◌, arith, inl, inr}
use Rattle.std.specs.List.{slice_get}
use Rattle.std.specs.Option.{option_map, option_or, unwrap_or}
use Rattle.std.specs.Prelude.{is_some}
use Rattle.std.proofs.lemmas.Bool.{cases_eq}
use Rattle.std.proofs.lemmas.List.{get_or-set_same, get_or-set_other, set_past, length-set}
use Rattle.std.proofs.lemmas.List.Folds.{find-append}
use Rattle.std.proofs.lemmas.Option.{unwrap_or-slice_get}
use Rattle.nq_base.specs.declared.HostRow.{HostRow}
use Rattle.nq_model.specs.protocol.Kept.{File, Kept, find_file, replace_file, drop_file, fresh_row, host_row, with_row}
use Rattle.nq_model.specs.protocol.ServerStep.{booted}
use Rattle.walk_steps.proofs.Rows.{same-number, number-same, find-passes, find-filter, find-dropped, find-map}
use Rattle.walk_steps.proofs.Tests.{is-other}

-- the row of a host in a list of rows by host
abbrev pub line_at : List HostRow → ℕ → HostRow
line_at hosts host = get_or hosts host fresh_row

-- a host's row after another's was put
pub other-line : (kept : Kept) (host other : ℕ) (line : HostRow) → other ≢ host → host_row (with_row kept host line) other ≡ host_row kept other
unfolding with_row
other-line kept host other line differs =
    unwrap_or-slice_get (set kept.hosts host line) other fresh_row
    ∙ get_or-set_other kept.hosts host other line fresh_row differs
    ∙ sym (unwrap_or-slice_get kept.hosts other fresh_row)

-- a host's row after it was put
pub own-line : (kept : Kept) (host : ℕ) (line : HostRow) → host < length kept.hosts → host_row (with_row kept host line) host ≡ line
unfolding with_row
own-line kept host line within = unwrap_or-slice_get (set kept.hosts host line) host fresh_row ∙ get_or-set_same kept.hosts host line fresh_row within

-- past the last row none is put
pub no-line : (kept : Kept) (host k : ℕ) (line : HostRow) → length kept.hosts ≤ host → host_row (with_row kept host line) k ≡ host_row kept k
unfolding with_row
no-line kept host k line past = ap (λ hosts. unwrap_or (slice_get hosts k) fresh_row) (set_past kept.hosts host line past)

-- how a change of one line shows in what is kept of a host
pub line-as : (kept : Kept) (host k : ℕ) (line : HostRow) (P : HostRow → Type 0) → P (host_row kept k) → (k ≡ host → P line)
    → P (host_row (with_row kept host line) k)
line-as kept host k line P was own = by (cases_eq k host) (within-or-past kept.hosts)
  where
    within-or-past : (hosts : List HostRow) → (host < length hosts) ⊎ (length hosts ≤ host)
    within-or-past hosts = grind arith

    by : (k ≡ host) ⊎ (k ≡ host → ⊥) → (host < length kept.hosts) ⊎ (length kept.hosts ≤ host) → P (host_row (with_row kept host line) k)
    by (inl e) (inl w) = subst P (sym (ap (λ i. host_row (with_row kept host line) i) e ∙ own-line kept host line w)) (own e)
    by (inl e) (inr p) = subst P (sym (no-line kept host k line p)) was
    by (inr d) place = subst P (sym (other-line kept host k line d)) was

-- a line of the same incarnation leaves all incarnations
pub same-incs : (kept : Kept) (host : ℕ) (line : HostRow) (k : ℕ) → line.inc ≡ (host_row kept host).inc
    → (host_row (with_row kept host line) k).inc ≡ (host_row kept k).inc
same-incs kept host line k same = line-as kept host k line (λ l. l.inc ≡ (host_row kept k).inc) refl (λ e. same ∙ ap (λ i. (host_row kept i).inc) (sym e))

-- a line of a later incarnation lets no incarnation fall
pub later-incs : (kept : Kept) (host : ℕ) (line : HostRow) (k : ℕ) → (host_row kept host).inc ≤ line.inc
    → (host_row kept k).inc ≤ (host_row (with_row kept host line) k).inc
later-incs kept host line k later =
    line-as kept host k line (λ l. (host_row kept k).inc ≤ l.inc) (omega arith) (λ e. subst (λ i. (host_row kept i).inc ≤ line.inc) (sym e) later)

pub length-with-row : (kept : Kept) (host : ℕ) (line : HostRow) → length (with_row kept host line).hosts ≡ length kept.hosts
unfolding with_row
length-with-row kept host line = length-set kept.hosts host line

swap-id : (file f : File) (id : ℕ) → ((if f.id == file.id then file else f).id == id) ≡ (f.id == id)
swap-id file f id = by (f.id == file.id) refl
  where
    by : (b : Bool) → (f.id == file.id) ≡ b → ((if b then file else f).id == id) ≡ (f.id == id)
    by true e = ap (λ i. i == id) (sym (same-number _ _ e))
    by false e = refl

pub find-replaced : (id : ℕ) (file : File) (files : List File)
    → find_file id (replace_file file files) ≡ option_map (λ f. if f.id == file.id then file else f) (find_file id files)
find-replaced id file files = find-map (λ f. f.id == id) (λ f. if f.id == file.id then file else f) files (λ f. swap-id file f id)

-- what is found after a file was replaced: it, in place of the one of its id, or what was found before
pub found-replaced : (id : ℕ) (file f : File) (files : List File) → find_file id (replace_file file files) ≡ Some f
    → ((id ≡ file.id) × (f ≡ file)) ⊎ ((id ≢ file.id) × (find_file id files ≡ Some f))
found-replaced id file f files h = by (find_file id files) refl (sym (find-replaced id file files) ∙ h)
  where
    replaced : (g : File) → find_file id files ≡ Some g → (b : Bool) → (g.id == file.id) ≡ b → (if b then file else g) ≡ f
        → ((id ≡ file.id) × (f ≡ file)) ⊎ ((id ≢ file.id) × (find_file id files ≡ Some f))
    replaced g e true k m = inl (sym (same-number _ _ (find-passes (λ x. x.id == id) g files e)) ∙ same-number _ _ k, sym m)
    replaced g e false k m = inr ((λ same. is-other _ _ k (same-number _ _ (find-passes (λ x. x.id == id) g files e) ∙ same)), e ∙ ap Some m)

    by : (o : Option File) → find_file id files ≡ o → option_map (λ g. if g.id == file.id then file else g) o ≡ Some f
        → ((id ≡ file.id) × (f ≡ file)) ⊎ ((id ≢ file.id) × (find_file id files ≡ Some f))
    by None e m = absurd (cc)
    by (Some g) e m = let same : (if g.id == file.id then file else g) ≡ f = cc in replaced g e (g.id == file.id) refl same

pub find-own-replaced : (file f : File) (files : List File) → find_file file.id files ≡ Some f → find_file file.id (replace_file file files) ≡ Some file
find-own-replaced file f files e =
    let same : (f.id == file.id) ≡ true = find-passes (λ x. x.id == file.id) f files e in
    find-replaced file.id file files ∙ ap (option_map (λ g. if g.id == file.id then file else g)) e ∙ ap (λ b. Some (if b then file else f)) same

pub find-other-replaced : (id : ℕ) (file : File) (files : List File) → id ≢ file.id → find_file id (replace_file file files) ≡ find_file id files
find-other-replaced id file files other = find-replaced id file files ∙ by (find_file id files) refl
  where
    kept : (g : File) → find_file id files ≡ Some g → (b : Bool) → (g.id == file.id) ≡ b → Some (if b then file else g) ≡ Some g
    kept g e true k = absurd (other (sym (same-number _ _ (find-passes (λ x. x.id == id) g files e)) ∙ same-number _ _ k))
    kept g e false k = refl

    by : (o : Option File) → find_file id files ≡ o → option_map (λ g. if g.id == file.id then file else g) o ≡ o
    by None e = refl
    by (Some g) e = kept g e (g.id == file.id) refl

pub is-kept-replaced : (id : ℕ) (file : File) (files : List File) → is_some (find_file id (replace_file file files)) ≡ is_some (find_file id files)
is-kept-replaced id file files = ap is_some (find-replaced id file files) ∙ by (find_file id files)
  where
    by : (o : Option File) → is_some (option_map (λ g. if g.id == file.id then file else g) o) ≡ is_some o
    by None = refl
    by (Some g) = refl

-- files without one
pub find-removed : (id : ℕ) (files : List File) → find_file id (drop_file id files) ≡ None
find-removed id files = find-dropped (λ f. f.id == id) (λ f. not (f.id == id)) files (λ f h. ap not h)

pub find-not-removed : (id other : ℕ) (files : List File) → other ≢ id → find_file other (drop_file id files) ≡ find_file other files
find-not-removed id other files differs = find-filter (λ f. f.id == other) (λ f. not (f.id == id)) files (λ f h. stays f h)
  where
    stays : (f : File) → (f.id == other) ≡ true → not (f.id == id) ≡ true
    stays f h = by (f.id == id) refl
      where
        by : (b : Bool) → (f.id == id) ≡ b → not b ≡ true
        by false e = refl
        by true e = absurd (differs (sym (same-number _ _ h) ∙ same-number _ _ e))

-- one more file
pub find-added : (id : ℕ) (file f : File) (files : List File) → find_file id files ≡ Some f → find_file id (files ++ file ∷ []) ≡ Some f
find-added id file f files e = find-append (λ x. x.id == id) files (file ∷ []) ∙ rw e refl

pub find-new-added : (file : File) (files : List File) → find_file file.id files ≡ None → find_file file.id (files ++ file ∷ []) ≡ Some file
find-new-added file files e = find-append (λ x. x.id == file.id) files (file ∷ []) ∙ rw (e, number-same file.id file.id refl) refl

pub found-added : (id : ℕ) (file f : File) (files : List File) → find_file id (files ++ file ∷ []) ≡ Some f
    → (find_file id files ≡ Some f) ⊎ ((id ≡ file.id) × (f ≡ file))
found-added id file f files h = by (find_file id files) refl (sym (find-append (λ x. x.id == id) files (file ∷ [])) ∙ h)
  where
    new : (b : Bool) → (file.id == id) ≡ b → (if b then Some file else None) ≡ Some f → (find_file id files ≡ Some f) ⊎ ((id ≡ file.id) × (f ≡ file))
    new true e m = inr (sym (same-number _ _ e), cc)
    new false e m = absurd (cc)

    by : (o : Option File) → find_file id files ≡ o → option_or o (find_file id (file ∷ [])) ≡ Some f
        → (find_file id files ≡ Some f) ⊎ ((id ≡ file.id) × (f ≡ file))
    by None e m = new (file.id == id) refl m
    by (Some g) e m = inl (e ∙ m)

-- rows of hosts where nothing of them changed, and after a boot
pub same-lines : (kept after : Kept) (host : ℕ) → after.hosts ≡ kept.hosts → host_row after host ≡ host_row kept host
same-lines kept after host same = ap (λ hosts. unwrap_or (slice_get hosts host) fresh_row) same

pub booted-line : (kept : Kept) (longest host : ℕ) (b : Bool) → (kept.opened == 0) ≡ b → host_row (booted kept longest) host ≡ host_row kept host
booted-line kept longest host true e = rw e refl
booted-line kept longest host false e = rw e refl
