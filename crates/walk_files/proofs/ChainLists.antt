-- Look-ups in a client's lists, backwards; and whether a request under way was done.
use Rattle.std.proofs.Common.{◌≡◌, ◌≢◌, ◌<◌, ◌⊎◌, ℕ, Bool, true, false, ◌||◌, ◌&&◌, not, ◌==◌, List, [], ◌∷◌, ◌++◌, Option, Some, None, if◌then◌else◌}
use Rattle.std.proofs.Common.{is_some, refl, sym, subst, ap, ◌∙◌, arith, inl, inr}
use Rattle.std.specs.List.{filter, list_any}
use Rattle.nq_base.specs.declared.HostRow.{HostRow}
use Rattle.nq_base.specs.declared.Push.{Push}
use Rattle.nq_base.specs.declared.Request.{Request}
use Rattle.walk_files.proofs.ChainFacts.{rev_at}
use Rattle.nq_model.specs.laws.Chained.{is_done, has_done}
use Rattle.nq_model.proofs.ClientLists.{marked-before, marked-tag, marked-mode, marked-expiry, lease-before-drop, other-lease-dropped}
use Rattle.nq_model.proofs.ClientLists.{used-lease-found, marked-blocks, any-overwritten, put-revision-found, other-revision-put}
use Rattle.walk_steps.proofs.ClientMoves.{some-same, none-some}
use Rattle.walk_steps.proofs.ClientWrites.{has-writes, writes-in-list, writes-under-way}
use Rattle.nq_model.specs.protocol.Client.{Lease, Revision, lease_on, drop_lease, used_lease, marked_used, is_push_of, is_push_at, first_dirty, push_passes}
use Rattle.nq_model.specs.protocol.Client.{drop_dirty, other_dirty, revision_of, revision_or_zero, put_revision, is_clean_in}
use Rattle.nq_model.specs.protocol.Hear.{other_push}
use Rattle.nq_model.specs.protocol.Message.{sequence_of}
use Rattle.nq_model.specs.protocol.Settle.{with_write}
use Rattle.walk_steps.proofs.Rows.{same-number}
use Rattle.walk_steps.proofs.Tests.{is-other}

-- ---- leases

-- a lease was there before, but for its mark
pub record WasLease (leases : List Lease) (file : ℕ) (l : Lease) : Type 0 where
  pub before : Lease
  pub found : lease_on file leases ≡ Some before
  pub mode : l.mode ≡ before.mode
  pub tag : l.tag ≡ before.tag
  pub blocks : l.blocks ≡ before.blocks
  pub expiry : l.expiry ≡ before.expiry

pub was-used : (f : ℕ) (leases : List Lease) (file : ℕ) (l : Lease) → lease_on file (used_lease f leases) ≡ Some l → WasLease leases file l
was-used f leases file l e =
    let m = marked-before file f leases l e in
    record {
      before = m.before;
      found = m.found;
      mode = ap (λ z. z.mode) m.same ∙ marked-mode f m.before;
      tag = ap (λ z. z.tag) m.same ∙ marked-tag f m.before;
      blocks = ap (λ z. z.blocks) m.same ∙ marked-blocks f m.before;
      expiry = ap (λ z. z.expiry) m.same ∙ marked-expiry f m.before;
    }

pub was-dropped : (f : ℕ) (leases : List Lease) (file : ℕ) (l : Lease) → lease_on file (drop_lease f leases) ≡ Some l → WasLease leases file l
was-dropped f leases file l e = record { before = l; found = (lease-before-drop f file leases l e).1; mode = refl; tag = refl; blocks = refl; expiry = refl }

-- a lease is there still, but for its mark
pub record StillLease (less : List Lease) (file : ℕ) (l : Lease) : Type 0 where
  pub after : Lease
  pub found : lease_on file less ≡ Some after
  pub mode : after.mode ≡ l.mode
  pub tag : after.tag ≡ l.tag

pub still-used : (f : ℕ) (leases : List Lease) (file : ℕ) (l : Lease) → lease_on file leases ≡ Some l → StillLease (used_lease f leases) file l
still-used f leases file l e =
    record { after = marked_used f l; found = used-lease-found file f leases ∙ rw e refl; mode = marked-mode f l; tag = marked-tag f l }

pub still-dropped : (f : ℕ) (leases : List Lease) (file : ℕ) (l : Lease) → file ≢ f → lease_on file leases ≡ Some l → StillLease (drop_lease f leases) file l
still-dropped f leases file l apart e = record { after = l; found = other-lease-dropped f file leases apart ∙ e; mode = refl; tag = refl }

-- ---- revisions

pub rev-put : (f rev : ℕ) (revisions : List Revision) → revision_of f (put_revision f rev revisions) ≡ Some (record { file = f; rev = rev })
rev-put f rev revisions = put-revision-found f rev revisions

pub known-put : (f rev : ℕ) (revisions : List Revision) → rev_at (put_revision f rev revisions) f ≡ rev
known-put f rev revisions = ap revision_or_zero (rev-put f rev revisions)

pub known-put-other : (f rev g : ℕ) (revisions : List Revision) → g ≢ f → rev_at (put_revision f rev revisions) g ≡ rev_at revisions g
known-put-other f rev g revisions apart = ap revision_or_zero (other-revision-put f rev g revisions apart)

-- a file that has a revision has one still
pub some-put : (f rev g : ℕ) (revisions : List Revision) → is_some (revision_of g revisions) ≡ true
    → is_some (revision_of g (put_revision f rev revisions)) ≡ true
some-put f rev g revisions some = step (g == f) refl
  where
    step : (b : Bool) → (g == f) ≡ b → is_some (revision_of g (put_revision f rev revisions)) ≡ true
    step true e = subst (λ n. is_some (revision_of n (put_revision f rev revisions)) ≡ true) (sym (same-number g f e)) (ap is_some (rev-put f rev revisions))
    step false e = ap is_some (other-revision-put f rev g revisions (is-other g f e)) ∙ some

-- ---- delayed writes

any-less-step : (p : Push → Bool) (y : Push) (xs ys : List Push) (c : Bool) → (list_any p ys ≡ true → list_any p xs ≡ true)
    → list_any p (if c then y ∷ ys else ys) ≡ true → (p y || list_any p xs) ≡ true
any-less-step p y xs ys c rest h = step (p y) refl c h
  where
    step : (b : Bool) → p y ≡ b → (c : Bool) → list_any p (if c then y ∷ ys else ys) ≡ true → (b || list_any p xs) ≡ true
    step true e c h = refl
    step false e true h = rest (sym (ap (λ b. b || list_any p ys) e) ∙ h)
    step false e false h = rest h

-- what some of the filtered pass, some of all pass
pub any-less : (p q : Push → Bool) (xs : List Push) → list_any p (filter q xs) ≡ true → list_any p xs ≡ true
any-less p q [] h = h
any-less p q (y ∷ xs) h = any-less-step p y xs (filter q xs) (q y) (any-less p q xs) h

any-found-step : (p : Push → Bool) (x y : Push) (xs : List Push) (b : Bool) → p y ≡ b → (first : Option Push) → (first ≡ Some x → list_any p xs ≡ true)
    → (if b then Some y else first) ≡ Some x → (p y || list_any p xs) ≡ true
any-found-step p x y xs true e first rest h = rw e refl
any-found-step p x y xs false e first rest h = rw e (rest h)

-- the first delayed writes of a file are some
pub any-found : (file : ℕ) (xs : List Push) (x : Push) → first_dirty file xs ≡ Some x → list_any (is_push_of file) xs ≡ true
any-found file [] x h = none-some x h
any-found file (y ∷ xs) x h = any-found-step (is_push_of file) x y xs (is_push_of file y) refl (first_dirty file xs) (any-found file xs x) h

none-found-step : (p : Push → Bool) (y : Push) (xs : List Push) (b : Bool) → p y ≡ b → (first : Option Push) → (first ≡ None → list_any p xs ≡ false)
    → (if b then Some y else first) ≡ None → (p y || list_any p xs) ≡ false
none-found-step p y xs true e first rest h = none-some y (sym h)
none-found-step p y xs false e first rest h = rw e (rest h)

-- a file of which none is first has none
pub none-found : (file : ℕ) (xs : List Push) → first_dirty file xs ≡ None → list_any (is_push_of file) xs ≡ false
none-found file [] h = refl
none-found file (y ∷ xs) h = none-found-step (is_push_of file) y xs (is_push_of file y) refl (first_dirty file xs) (none-found file xs) h

any-last-step : (a x b : Bool) → (x ≡ true → (b ≡ true) ⊎ (a ≡ true)) → (c : Bool) → (c || x) ≡ true → ((c || b) ≡ true) ⊎ (a ≡ true)
any-last-step a x b rest true h = inl refl
any-last-step a x b rest false h = rest h

any-last : (p : Push → Bool) (xs : List Push) (y : Push) → list_any p (xs ++ y ∷ []) ≡ true → (list_any p xs ≡ true) ⊎ (p y ≡ true)
any-last p [] y h = step (p y) h
  where
    step : (b : Bool) → (b || false) ≡ true → (false ≡ true) ⊎ (b ≡ true)
    step true e = inr refl
    step false e = inl e
any-last p (x ∷ xs) y h = any-last-step (p y) (list_any p (xs ++ y ∷ [])) (list_any p xs) (any-last p xs y) (p x) h

-- of another file than the one that is written there were delayed writes before
any-wrote : (f file block number : ℕ) (body : List ℕ) (dirty : List Push) (o : Option Push) → f ≢ file
    → list_any (is_push_of f) (with_write file block number body dirty o) ≡ true → list_any (is_push_of f) dirty ≡ true
any-wrote f file block number body dirty (Some p) apart h = sym (any-overwritten file block number body f dirty) ∙ h
any-wrote f file block number body dirty None apart h =
    step (any-last (is_push_of f) dirty (record { file = file; block = block; first = number; last = number; body = body }) h)
  where
    step : (list_any (is_push_of f) dirty ≡ true) ⊎ ((file == f) ≡ true) → list_any (is_push_of f) dirty ≡ true
    step (inl some) = some
    step (inr same) = absurd (apart (sym (same-number file f same)))

pub unclean-wrote : (f file block number : ℕ) (body : List ℕ) (dirty : List Push) (o push : Option Push) → f ≢ file
    → is_clean_in f (with_write file block number body dirty o) push ≡ false → is_clean_in f dirty push ≡ false
unclean-wrote f file block number body dirty o push apart h = step (has-writes f (with_write file block number body dirty o) push h)
  where
    step : (list_any (is_push_of f) (with_write file block number body dirty o) ≡ true) ⊎ (push_passes (is_push_of f) push ≡ true)
        → is_clean_in f dirty push ≡ false
    step (inl some) = writes-in-list f dirty push (any-wrote f file block number body dirty o apart some)
    step (inr some) = writes-under-way f dirty push some

-- a push that is taken from the list was in it
pub unclean-pushed : (f : ℕ) (p : Push) (dirty : List Push) (push : Option Push) → first_dirty p.file dirty ≡ Some p
    → is_clean_in f (drop_dirty p.file p.block dirty) (Some p) ≡ false → is_clean_in f dirty push ≡ false
unclean-pushed f p dirty push first h = step (has-writes f (drop_dirty p.file p.block dirty) (Some p) h)
  where
    step : (list_any (is_push_of f) (drop_dirty p.file p.block dirty) ≡ true) ⊎ ((p.file == f) ≡ true) → is_clean_in f dirty push ≡ false
    step (inl some) = writes-in-list f dirty push (any-less (is_push_of f) (λ x. not (is_push_at p.file p.block x)) dirty some)
    step (inr same) =
        writes-in-list f dirty push (subst (λ n. list_any (is_push_of n) dirty ≡ true) (same-number p.file f same) (any-found p.file dirty p first))

none-other-step : (file : ℕ) (y : Push) (ys : List Push) (b : Bool) → is_push_of file y ≡ b → list_any (is_push_of file) ys ≡ false
    → list_any (is_push_of file) (if not b then y ∷ ys else ys) ≡ false
none-other-step file y ys true e rest = rest
none-other-step file y ys false e rest = rw e rest

none-other : (file : ℕ) (dirty : List Push) → list_any (is_push_of file) (other_dirty file dirty) ≡ false
none-other file [] = refl
none-other file (y ∷ ys) = none-other-step file y (other_dirty file ys) (is_push_of file y) refl (none-other file ys)

none-other-push : (file : ℕ) (push : Option Push) → push_passes (is_push_of file) (other_push file push) ≡ false
none-other-push file None = refl
none-other-push file (Some p) = step (is_push_of file p) refl
  where
    step : (b : Bool) → is_push_of file p ≡ b → push_passes (is_push_of file) (if b then None else Some p) ≡ false
    step true e = refl
    step false e = e

-- a file of which all delayed writes were lost is clean
pub clean-lost : (file : ℕ) (dirty : List Push) (push : Option Push) → is_clean_in file (other_dirty file dirty) (other_push file push) ≡ true
clean-lost file dirty push = rw (none-other file dirty, none-other-push file push) refl

passed-left : (file f : ℕ) (push : Option Push) → push_passes (is_push_of f) (other_push file push) ≡ true → push_passes (is_push_of f) push ≡ true
passed-left file f None h = h
passed-left file f (Some p) h = step (is_push_of file p) h
  where
    step : (b : Bool) → push_passes (is_push_of f) (if b then None else Some p) ≡ true → is_push_of f p ≡ true
    step true e = absurd (cc)
    step false e = e

-- a file that is not clean after a loss was not before
pub unclean-lost : (file f : ℕ) (dirty : List Push) (push : Option Push) → is_clean_in f (other_dirty file dirty) (other_push file push) ≡ false
    → is_clean_in f dirty push ≡ false
unclean-lost file f dirty push h = step (has-writes f (other_dirty file dirty) (other_push file push) h)
  where
    step : (list_any (is_push_of f) (other_dirty file dirty) ≡ true) ⊎ (push_passes (is_push_of f) (other_push file push) ≡ true)
        → is_clean_in f dirty push ≡ false
    step (inl some) = writes-in-list f dirty push (any-less (is_push_of f) (λ x. not (is_push_of file x)) dirty some)
    step (inr some) = writes-under-way f dirty push (passed-left file f push some)

-- a file that is not clean without the push was not with it
pub unclean-ended : (f : ℕ) (dirty : List Push) (push : Option Push) → is_clean_in f dirty None ≡ false → is_clean_in f dirty push ≡ false
unclean-ended f dirty push h = step (has-writes f dirty None h)
  where
    step : (list_any (is_push_of f) dirty ≡ true) ⊎ (false ≡ true) → is_clean_in f dirty push ≡ false
    step (inl some) = writes-in-list f dirty push some
    step (inr bad) = absurd (cc)

-- ---- whether a request was done

pub all-four : (a b c d : Bool) → (b ≡ true → c ≡ true → ⊥) → (a && b && c && d) ≡ false
all-four false b c d not_both = refl
all-four true false c d not_both = refl
all-four true true false d not_both = refl
all-four true true true d not_both = absurd (not_both refl refl)

-- a request of a sequence above the kept one was not done
pub fresh-undone : (line : HostRow) (inc file n : ℕ) (r : Request) → sequence_of r ≡ Some n → (line.inc ≡ inc → line.seq < n) → has_done line inc file
    r ≡ false
fresh-undone line inc file n (Request.Write w seq f block first last push body) s later =
    all-four (f == file) (line.inc == inc) (line.seq == seq) (is_done line.verdict)
    (λ a b. let below = later (same-number line.inc inc a) in let same : line.seq ≡ seq = same-number line.seq seq b in
    let one : seq ≡ n = some-same seq n s in absurd (omega arith))
fresh-undone line inc file n other s later = refl

-- nor was one without a sequence
pub plain-undone : (line : HostRow) (inc file : ℕ) (r : Request) → sequence_of r ≡ None → has_done line inc file r ≡ false
plain-undone line inc file (Request.Write w seq f block first last push body) s = none-some seq (sym s)
plain-undone line inc file other s = refl
