-- Look-ups in a client's lists after each change of them.
use Rattle.std.proofs.Common.{◌≡◌, ◌≢◌, ◌⊎◌, ℕ, Bool, true, false, ◌||◌, not, ◌==◌, List, [], ◌∷◌, ◌++◌, Option, Some, None, if◌then◌else◌, map, refl}
use Rattle.std.proofs.Common.{sym, subst, ap, ◌∙◌, inl, inr}
use Rattle.std.specs.List.{filter, list_any}
use Rattle.std.specs.Option.{option_map}
use Rattle.std.proofs.lemmas.Bool.{not_from_false}
use Rattle.nq_base.specs.declared.Push.{Push}
use Rattle.nq_model.proofs.Finding.{find-passes, find-filter, find-dropped, find-map, same-number, number-other, is-other}
use Rattle.nq_model.proofs.ByFile.{find-inserted, find-besides}
use Rattle.nq_model.specs.protocol.Client.{Lease, Notice, lease_on, drop_lease, put_lease, notice_on, drop_notice, put_notice, file_of_lease, file_of_notice}
use Rattle.nq_model.specs.protocol.Client.{file_of_revision, is_push_of, is_push_at, first_dirty, drop_dirty, other_dirty, marked_used, used_lease, Revision}
use Rattle.nq_model.specs.protocol.Client.{revision_of, drop_revision, put_revision}
use Rattle.nq_model.specs.protocol.Settle.{overwritten_at, with_write}

-- leases: what was dropped is not found, and the others are found as before
pub dropped-lease : (file : ℕ) (leases : List Lease) → lease_on file (drop_lease file leases) ≡ None
dropped-lease file leases = find-dropped (λ l. l.file == file) (λ l. not (l.file == file)) leases (λ l h. rw h refl)

pub other-lease-dropped : (file other : ℕ) (leases : List Lease) → other ≢ file → lease_on other (drop_lease file leases) ≡ lease_on other leases
other-lease-dropped file other leases h =
    find-filter (λ l. l.file == other) (λ l. not (l.file == file)) leases (λ l e. let same : l.file ≡ other = same-number l.file other e in
    not_from_false (l.file == file) (number-other l.file file (λ f. h (sym same ∙ f))))

-- what is found after a drop was found before
pub lease-before-drop : (file other : ℕ) (leases : List Lease) (l : Lease) → lease_on other (drop_lease file leases) ≡ Some l → (other ≢ file)
    × (lease_on other leases ≡ Some l)
lease-before-drop file other leases l h = step (other == file) refl
  where
    step : (b : Bool) → (other == file) ≡ b → (other ≢ file) × (lease_on other leases ≡ Some l)
    step true e = let same : other ≡ file = same-number other file e in let gone : lease_on other (drop_lease file leases) ≡ None =
        rw same (dropped-lease file leases) in cc
    step false e = let apart : other ≢ file = is-other other file e in (apart, sym (other-lease-dropped file other leases apart) ∙ h)

pub put-lease-found : (lease : Lease) (file : ℕ) (leases : List Lease) → file ≡ lease.file → lease_on file (put_lease lease leases) ≡ Some lease
put-lease-found lease file leases e = find-inserted file_of_lease lease file (drop_lease lease.file leases) e
    (subst (λ n. lease_on n (drop_lease lease.file leases) ≡ None) (sym e) (dropped-lease lease.file leases))

pub other-lease-put : (lease : Lease) (other : ℕ) (leases : List Lease) → other ≢ lease.file → lease_on other (put_lease lease leases) ≡ lease_on other leases
other-lease-put lease other leases h =
    find-besides file_of_lease lease other (drop_lease lease.file leases) h ∙ other-lease-dropped lease.file other leases h

-- what is found after a lease was put is that lease or was found before
pub lease-after-put : (lease : Lease) (other : ℕ) (leases : List Lease) (l : Lease) → lease_on other (put_lease lease leases) ≡ Some l
    → ((other ≡ lease.file) × (l ≡ lease)) ⊎ ((other ≢ lease.file) × (lease_on other leases ≡ Some l))
lease-after-put lease other leases l h = step (other == lease.file) refl
  where
    step : (b : Bool) → (other == lease.file) ≡ b → ((other ≡ lease.file) × (l ≡ lease)) ⊎ ((other ≢ lease.file) × (lease_on other leases ≡ Some l))
    step true e =
        let same : other ≡ lease.file = same-number other lease.file e in
        let found : lease_on other (put_lease lease leases) ≡ Some lease = put-lease-found lease other leases same in
        let one : l ≡ lease = cc in
        inl (same, one)
    step false e = let apart : other ≢ lease.file = is-other other lease.file e in inr (apart, sym (other-lease-put lease other leases apart) ∙ h)

-- a lease that was marked as used is found under its file, marked
marked-key : (file f : ℕ) (l : Lease) → ((marked_used f l).file == file) ≡ (l.file == file)
marked-key file f l = step (l.file == f)
  where
    step : (b : Bool) → ((if b then record l { used = true } else l).file == file) ≡ (l.file == file)
    step true = refl
    step false = refl

pub used-lease-found : (file f : ℕ) (leases : List Lease) → lease_on file (used_lease f leases) ≡ option_map (marked_used f) (lease_on file leases)
used-lease-found file f leases = find-map (λ l. l.file == file) (marked_used f) leases (marked-key file f)

-- what is found after a lease was marked, but for the mark
pub record Marked (file f : ℕ) (leases : List Lease) (l : Lease) : Type 0 where
  pub before : Lease
  pub found : lease_on file leases ≡ Some before
  pub same : l ≡ marked_used f before

pub marked-before : (file f : ℕ) (leases : List Lease) (l : Lease) → lease_on file (used_lease f leases) ≡ Some l → Marked file f leases l
marked-before file f leases l h = step (lease_on file leases) refl
  where
    step : (o : Option Lease) → lease_on file leases ≡ o → Marked file f leases l
    step None e = let gone : lease_on file (used_lease f leases) ≡ None = used-lease-found file f leases ∙ ap (option_map (marked_used f)) e in cc
    step (Some m) e = let there : lease_on file (used_lease f leases) ≡ Some (marked_used f m) = used-lease-found file f leases
        ∙ ap (option_map (marked_used f)) e in let one : l ≡ marked_used f m = cc in record { before = m; found = e; same = one }

-- marking leaves all but the mark
pub marked-term : (f : ℕ) (l : Lease) → (marked_used f l).term ≡ l.term
marked-term f l = step (l.file == f)
  where
    step : (b : Bool) → (if b then record l { used = true } else l).term ≡ l.term
    step true = refl
    step false = refl

pub marked-expiry : (f : ℕ) (l : Lease) → (marked_used f l).expiry ≡ l.expiry
marked-expiry f l = step (l.file == f)
  where
    step : (b : Bool) → (if b then record l { used = true } else l).expiry ≡ l.expiry
    step true = refl
    step false = refl

pub marked-tag : (f : ℕ) (l : Lease) → (marked_used f l).tag ≡ l.tag
marked-tag f l = step (l.file == f)
  where
    step : (b : Bool) → (if b then record l { used = true } else l).tag ≡ l.tag
    step true = refl
    step false = refl

pub marked-mode : (f : ℕ) (l : Lease) → (marked_used f l).mode ≡ l.mode
marked-mode f l = step (l.file == f)
  where
    step : (b : Bool) → (if b then record l { used = true } else l).mode ≡ l.mode
    step true = refl
    step false = refl

-- notices
pub dropped-notice : (file : ℕ) (notices : List Notice) → notice_on file (drop_notice file notices) ≡ None
dropped-notice file notices = find-dropped (λ n. n.file == file) (λ n. not (n.file == file)) notices (λ n h. rw h refl)

pub other-notice-dropped : (file other : ℕ) (notices : List Notice) → other ≢ file → notice_on other (drop_notice file notices) ≡ notice_on other notices
other-notice-dropped file other notices h =
    find-filter (λ n. n.file == other) (λ n. not (n.file == file)) notices (λ n e. let same : n.file ≡ other = same-number n.file other e in
    not_from_false (n.file == file) (number-other n.file file (λ f. h (sym same ∙ f))))

pub notice-before-drop : (file other : ℕ) (notices : List Notice) (n : Notice) → notice_on other (drop_notice file notices) ≡ Some n → (other ≢ file)
    × (notice_on other notices ≡ Some n)
notice-before-drop file other notices n h = step (other == file) refl
  where
    step : (b : Bool) → (other == file) ≡ b → (other ≢ file) × (notice_on other notices ≡ Some n)
    step true e = let same : other ≡ file = same-number other file e in let gone : notice_on other (drop_notice file notices) ≡ None =
        rw same (dropped-notice file notices) in cc
    step false e = let apart : other ≢ file = is-other other file e in (apart, sym (other-notice-dropped file other notices apart) ∙ h)

pub put-notice-found : (notice : Notice) (file : ℕ) (notices : List Notice) → file ≡ notice.file → notice_on file (put_notice notice notices) ≡ Some notice
put-notice-found notice file notices e = find-inserted file_of_notice notice file (drop_notice notice.file notices) e
    (subst (λ n. notice_on n (drop_notice notice.file notices) ≡ None) (sym e) (dropped-notice notice.file notices))

pub other-notice-put : (notice : Notice) (other : ℕ) (notices : List Notice) → other ≢ notice.file → notice_on other (put_notice notice notices)
    ≡ notice_on other notices
other-notice-put notice other notices h =
    find-besides file_of_notice notice other (drop_notice notice.file notices) h ∙ other-notice-dropped notice.file other notices h

-- what is found after a notice was put is that notice or was found before
pub notice-after-put : (notice : Notice) (other : ℕ) (notices : List Notice) (n : Notice) → notice_on other (put_notice notice notices) ≡ Some n
    → ((other ≡ notice.file) × (n ≡ notice)) ⊎ ((other ≢ notice.file) × (notice_on other notices ≡ Some n))
notice-after-put notice other notices n h = step (other == notice.file) refl
  where
    step : (b : Bool) → (other == notice.file) ≡ b → ((other ≡ notice.file) × (n ≡ notice)) ⊎ ((other ≢ notice.file) × (notice_on other notices ≡ Some n))
    step true e =
        let same : other ≡ notice.file = same-number other notice.file e in
        let found : notice_on other (put_notice notice notices) ≡ Some notice = put-notice-found notice other notices same in
        let one : n ≡ notice = cc in
        inl (same, one)
    step false e = let apart : other ≢ notice.file = is-other other notice.file e in inr (apart, sym (other-notice-put notice other notices apart) ∙ h)

-- delayed writes: whether a file has some, after each change of the list
any-filter-step : (p q : Push → Bool) (y : Push) (xs : List Push) (b c : Bool) → (b ≡ true → c ≡ true) → list_any p (filter q xs) ≡ list_any p xs
    → p y ≡ b → list_any p (if c then y ∷ filter q xs else filter q xs) ≡ (b || list_any p xs)
any-filter-step p q y xs true true keeps rest e = rw e refl
any-filter-step p q y xs true false keeps rest e = let bad : false ≡ true = keeps refl in cc
any-filter-step p q y xs false true keeps rest e = rw e rest
any-filter-step p q y xs false false keeps rest e = rest

-- a filter that keeps all that are sought
pub any-filter : (p q : Push → Bool) (xs : List Push) → ((x : Push) → p x ≡ true → q x ≡ true) → list_any p (filter q xs) ≡ list_any p xs
any-filter p q [] keeps = refl
any-filter p q (y ∷ xs) keeps = any-filter-step p q y xs (p y) (q y) (keeps y) (any-filter p q xs keeps) refl

-- the first delayed writes of a file are of that file
pub first-is-of : (file : ℕ) (dirty : List Push) (p : Push) → first_dirty file dirty ≡ Some p → p.file ≡ file
first-is-of file dirty p h = same-number p.file file (find-passes (is_push_of file) p dirty h)

-- where the writes of another file's block are taken away, a file has as many as before
pub any-dropped : (file other block : ℕ) (dirty : List Push) → other ≢ file → list_any (is_push_of file) (drop_dirty other block dirty)
    ≡ list_any (is_push_of file) dirty
any-dropped file other block dirty apart =
    any-filter (is_push_of file) (λ p. not (is_push_at other block p)) dirty (λ p h. let of_file : p.file ≡ file = same-number p.file file h in
    let differs : (p.file == other) ≡ false = number-other p.file other (λ e. apart (sym e ∙ of_file)) in rw differs refl)

pub any-others : (file other : ℕ) (dirty : List Push) → other ≢ file → list_any (is_push_of file) (other_dirty other dirty) ≡ list_any (is_push_of file) dirty
any-others file other dirty apart =
    any-filter (is_push_of file) (λ p. not (is_push_of other p)) dirty (λ p h. let of_file : p.file ≡ file = same-number p.file file h in
    let differs : (p.file == other) ≡ false = number-other p.file other (λ e. apart (sym e ∙ of_file)) in rw differs refl)

-- an overwritten entry keeps its file
pub overwritten-file : (file block number : ℕ) (body : List ℕ) (f : ℕ) (p : Push) → is_push_of f (overwritten_at file block number body p) ≡ is_push_of f p
overwritten-file file block number body f p = step (is_push_at file block p)
  where
    step : (b : Bool) → is_push_of f (if b then record p { last = number; body = body } else p) ≡ is_push_of f p
    step true = refl
    step false = refl

pub any-overwritten : (file block number : ℕ) (body : List ℕ) (f : ℕ) (dirty : List Push) → list_any (is_push_of f)
    (map (overwritten_at file block number body) dirty) ≡ list_any (is_push_of f) dirty
any-overwritten file block number body f [] = refl
any-overwritten file block number body f (p ∷ dirty) = rw (overwritten-file file block number body f p, any-overwritten file block number body f dirty) refl

any-append-step : (b : Bool) (xs ys : Bool) → (xs ≡ true → ys ≡ true) → (b || xs) ≡ true → (b || ys) ≡ true
any-append-step true xs ys rest h = refl
any-append-step false xs ys rest h = rest h

any-append : (p : Push → Bool) (xs : List Push) (y : Push) → list_any p xs ≡ true → list_any p (xs ++ y ∷ []) ≡ true
any-append p [] y h = cc
any-append p (x ∷ xs) y h = any-append-step (p x) (list_any p xs) (list_any p (xs ++ y ∷ [])) (any-append p xs y) h

-- a file that had delayed writes has some after another write
pub any-written : (f file block number : ℕ) (body : List ℕ) (dirty : List Push) (o : Option Push) → list_any (is_push_of f) dirty ≡ true
    → list_any (is_push_of f) (with_write file block number body dirty o) ≡ true
any-written f file block number body dirty (Some p) h = any-overwritten file block number body f dirty ∙ h
any-written f file block number body dirty None h = any-append (is_push_of f) dirty (record {
  file = file;
  block = block;
  first = number;
  last =
      number;
  body = body;
}) h

pub lease-file : (file : ℕ) (leases : List Lease) (l : Lease) → lease_on file leases ≡ Some l → l.file ≡ file
lease-file file leases l e = same-number l.file file (find-passes (λ m. m.file == file) l leases e)

pub marked-blocks : (f : ℕ) (l : Lease) → (marked_used f l).blocks ≡ l.blocks
marked-blocks f l = step (l.file == f)
  where
    step : (b : Bool) → (if b then record l { used = true } else l).blocks ≡ l.blocks
    step true = refl
    step false = refl

-- ---- revisions

dropped-revision : (file : ℕ) (revisions : List Revision) → revision_of file (drop_revision file revisions) ≡ None
dropped-revision file revisions = find-dropped (λ r. r.file == file) (λ r. not (r.file == file)) revisions (λ r h. rw h refl)

pub put-revision-found : (file rev : ℕ) (revisions : List Revision) → revision_of file (put_revision file rev revisions)
    ≡ Some (record { file = file; rev = rev })
put-revision-found file rev revisions = find-inserted file_of_revision (record { file = file; rev = rev }) file (drop_revision file revisions) refl
    (dropped-revision file revisions)

pub other-revision-put : (file rev other : ℕ) (revisions : List Revision) → other ≢ file → revision_of other (put_revision file rev revisions)
    ≡ revision_of other revisions
other-revision-put file rev other revisions apart =
    find-besides file_of_revision (record { file = file; rev = rev }) other (drop_revision file revisions) apart
    ∙ find-filter (λ r. r.file == other) (λ r. not (r.file == file)) revisions (λ r e. let same : r.file ≡ other = same-number r.file other e in
    not_from_false (r.file == file) (number-other r.file file (λ h. apart (sym same ∙ h))))
