-- Look-ups in a client's clean blocks, revisions and delayed writes after each change of them.
use Rattle.std.proofs.Common.{◌≡◌, ◌≢◌, ◌⊎◌, ℕ, ◌-◌, ◌==◌, Bool, true, false, not, List, [], ◌∷◌, Option, Some, None, is_some, if◌then◌else◌, refl}
use Rattle.std.proofs.Common.{sym, subst, ap, ◌∙◌, inl, inr}
use Rattle.std.specs.List.{find}
use Rattle.std.specs.Option.{option_map, option_or}
use Rattle.std.proofs.lemmas.List.Folds.{find-append}
use Rattle.std.proofs.lemmas.Bool.{and_parts, and_from, false_from_ne_true, not_from_false, not_from_true}
use Rattle.nq_base.specs.declared.Push.{Push}
use Rattle.nq_model.proofs.ClientLists.{put-revision-found, other-revision-put}
use Rattle.walk_steps.proofs.ClientMoves.{some-same, none-some}
use Rattle.nq_model.specs.protocol.Client.{Clean, Revision, clean_at, is_clean_at, drop_clean, purge, put_clean, revision_of, put_revision, is_push_at}
use Rattle.nq_model.specs.protocol.Client.{dirty_at, drop_dirty}
use Rattle.nq_model.specs.protocol.Profile.{most_clean, at_most}
use Rattle.nq_model.specs.protocol.Settle.{touched, overwritten, overwritten_at, with_write}
use Rattle.walk_steps.proofs.Members.{in-map}
use Rattle.walk_steps.proofs.Packets.{In, in-append}
use Rattle.walk_steps.proofs.Rows.{same-number, number-same, find-passes, find-filter, find-dropped, find-map}
use Rattle.walk_steps.proofs.Tests.{is-other}

-- ---- clean blocks

pub clean-is-at : (file block : ℕ) (clean : List Clean) (k : Clean) → clean_at file block clean ≡ Some k → (k.file ≡ file) × (k.block ≡ block)
clean-is-at file block clean k e = let a = and_parts _ _ (find-passes (is_clean_at file block) k clean e) in (same-number _ _ a.0, same-number _ _ a.1)

-- whether a block is this one
pub record IsBlock (f b file block : ℕ) : Type 0 where
  pub file_same : f ≡ file
  pub block_same : b ≡ block

pub this-or-other : (f b file block : ℕ) → IsBlock f b file block ⊎ (IsBlock f b file block → ⊥)
this-or-other f b file block = case (f == file) (b == block) refl refl
  where
    case : (x y : Bool) → (f == file) ≡ x → (b == block) ≡ y → IsBlock f b file block ⊎ (IsBlock f b file block → ⊥)
    case true true d e = inl (record { file_same = same-number _ _ d; block_same = same-number _ _ e })
    case false y d e = inr (λ k. is-other f file d k.file_same)
    case true false d e = inr (λ k. is-other b block e k.block_same)

-- a block is of two places
at-two : (f b file block : ℕ) (k : Clean) → is_clean_at f b k ≡ true → is_clean_at file block k ≡ true → IsBlock f b file block
at-two f b file block k x y =
    let m = and_parts _ _ x in
    let n = and_parts _ _ y in
    record { file_same = sym (same-number _ _ m.0) ∙ same-number _ _ n.0; block_same = sym (same-number _ _ m.1) ∙ same-number _ _ n.1 }

pub clean-dropped : (file block : ℕ) (clean : List Clean) → clean_at file block (drop_clean file block clean) ≡ None
clean-dropped file block clean = find-dropped (is_clean_at file block) (λ k. not (is_clean_at file block k)) clean (λ k e. not_from_true _ e)

pub other-clean-dropped : (f b file block : ℕ) (clean : List Clean) → (IsBlock f b file block → ⊥)
    → clean_at f b (drop_clean file block clean) ≡ clean_at f b clean
other-clean-dropped f b file block clean other =
    find-filter (is_clean_at f b) (λ k. not (is_clean_at file block k)) clean
    (λ k e. not_from_false _ (false_from_ne_true _ (λ same. other (at-two f b file block k e same))))

pub clean-purged : (file block : ℕ) (clean : List Clean) → clean_at file block (purge file clean) ≡ None
clean-purged file block clean = find-dropped (is_clean_at file block) (λ k. not (k.file == file)) clean (λ k e. not_from_true _ (and_parts _ _ e).0)

pub other-clean-purged : (f b file : ℕ) (clean : List Clean) → f ≢ file → clean_at f b (purge file clean) ≡ clean_at f b clean
other-clean-purged f b file clean other =
    find-filter (is_clean_at f b) (λ k. not (k.file == file)) clean
    (λ k e. not_from_false _ (false_from_ne_true _ (λ same. other (sym (same-number _ _ (and_parts _ _ e).0) ∙ same-number _ _ same))))

-- what is found in a cache from which blocks went was there before
pub found-dropped : (f b file block : ℕ) (clean : List Clean) (k : Clean) → clean_at f b (drop_clean file block clean) ≡ Some k → clean_at f b clean ≡ Some k
found-dropped f b file block clean k e = case (this-or-other f b file block)
  where
    case : IsBlock f b file block ⊎ (IsBlock f b file block → ⊥) → clean_at f b clean ≡ Some k
    case (inl one) =
        none-some k (sym (clean-dropped file block clean)
        ∙ subst (λ n. clean_at n block (drop_clean file block clean) ≡ Some k) one.file_same
        (subst (λ n. clean_at f n (drop_clean file block clean) ≡ Some k) one.block_same e))
    case (inr other) = sym (other-clean-dropped f b file block clean other) ∙ e

pub found-purged : (f b file : ℕ) (clean : List Clean) (k : Clean) → clean_at f b (purge file clean) ≡ Some k → (f ≢ file) × (clean_at f b clean ≡ Some k)
found-purged f b file clean k e = case (f == file) refl
  where
    case : (x : Bool) → (f == file) ≡ x → (f ≢ file) × (clean_at f b clean ≡ Some k)
    case true same = none-some k (sym (clean-purged file b clean) ∙ subst (λ n. clean_at n b (purge file clean) ≡ Some k) (same-number _ _ same) e)
    case false differs = let apart : f ≢ file = is-other f file differs in (apart, sym (other-clean-purged f b file clean apart) ∙ e)

-- a block in front
front-step : (f b : ℕ) (n k : Clean) (clean : List Clean) (x : Bool) → is_clean_at f b n ≡ x → (if x then Some n else clean_at f b clean) ≡ Some k
    → (IsBlock f b n.file n.block × (k ≡ n)) ⊎ ((IsBlock f b n.file n.block → ⊥) × (clean_at f b clean ≡ Some k))
front-step f b n k clean true is e =
    let a = and_parts _ _ is in
    inl (record { file_same = sym (same-number _ _ a.0); block_same = sym (same-number _ _ a.1) }, some-same k n (sym e))
front-step f b n k clean false is e =
    inr ((λ one. not-it (and_from _ _ (number-same n.file f (sym one.file_same)) (number-same n.block b (sym one.block_same)))), e)
  where
    not-it : is_clean_at f b n ≡ true → ⊥
    not-it there = absurd (cc)

pub found-front : (f b : ℕ) (n k : Clean) (clean : List Clean) → clean_at f b (n ∷ clean) ≡ Some k
    → (IsBlock f b n.file n.block × (k ≡ n)) ⊎ ((IsBlock f b n.file n.block → ⊥) × (clean_at f b clean ≡ Some k))
found-front f b n k clean e = front-step f b n k clean (is_clean_at f b n) refl e

-- what is found among the first ones is found among all
at-most-step : (p : Clean → Bool) (n : ℕ) (x k : Clean) (xs : List Clean) (z y : Bool) → p x ≡ y
    → ((m : ℕ) → find p (at_most m xs) ≡ Some k → find p xs ≡ Some k) → find p (if z then [] else x ∷ at_most (n - 1) xs) ≡ Some k
    → (if y then Some x else find p xs) ≡ Some k
at-most-step p n x k xs true y e rest h = none-some k h
at-most-step p n x k xs false true e rest h = sym (ap (λ b. if b then Some x else find p (at_most (n - 1) xs)) e) ∙ h
at-most-step p n x k xs false false e rest h = rest (n - 1) (sym (ap (λ b. if b then Some x else find p (at_most (n - 1) xs)) e) ∙ h)

pub found-at-most : (p : Clean → Bool) (n : ℕ) (k : Clean) (xs : List Clean) → find p (at_most n xs) ≡ Some k → find p xs ≡ Some k
found-at-most p n k [] h = h
found-at-most p n k (x ∷ xs) h = at-most-step p n x k xs (n == 0) (p x) refl (λ m. found-at-most p m k xs) h

-- one more clean block
pub found-put : (f b file block : ℕ) (body : List ℕ) (clean : List Clean) (k : Clean) → clean_at f b (put_clean file block body clean) ≡ Some k
    → (IsBlock f b file block × (k ≡ record { file = file; block = block; body = body })) ⊎ ((IsBlock f b file block → ⊥) × (clean_at f b clean ≡ Some k))
found-put f b file block body clean k e =
    case (found-front f b (record { file = file; block = block; body = body }) k (drop_clean file block clean)
    (found-at-most (is_clean_at f b) most_clean k (record { file = file; block = block; body = body } ∷ drop_clean file block clean) e))
  where
    case : (IsBlock f b file block × (k ≡ record { file = file; block = block; body = body }))
        ⊎ ((IsBlock f b file block → ⊥) × (clean_at f b (drop_clean file block clean) ≡ Some k))
        → (IsBlock f b file block × (k ≡ record { file = file; block = block; body = body }))
        ⊎ ((IsBlock f b file block → ⊥) × (clean_at f b clean ≡ Some k))
    case (inl one) = inl one
    case (inr old) = inr (old.0, found-dropped f b file block clean k old.1)

-- a block comes to the front
pub found-touched : (f b file block : ℕ) (o : Option Clean) (clean : List Clean) (k : Clean) → clean_at file block clean ≡ o
    → clean_at f b (touched file block o clean) ≡ Some k → clean_at f b clean ≡ Some k
found-touched f b file block None clean k is e = e
found-touched f b file block (Some n) clean k is e = case (found-front f b n k (drop_clean file block clean) e)
  where
    at : (n.file ≡ file) × (n.block ≡ block)
    at = clean-is-at file block clean n is

    case : (IsBlock f b n.file n.block × (k ≡ n)) ⊎ ((IsBlock f b n.file n.block → ⊥) × (clean_at f b (drop_clean file block clean) ≡ Some k))
        → clean_at f b clean ≡ Some k
    case (inl one) =
        subst (λ m. clean_at m b clean ≡ Some k) (sym (one.0.file_same ∙ at.0))
        (subst (λ m. clean_at file m clean ≡ Some k) (sym (one.0.block_same ∙ at.1)) (is ∙ ap Some (sym one.1)))
    case (inr old) = found-dropped f b file block clean k old.1

-- ---- revisions

pub revision-after : (f file rev : ℕ) (r : Revision) (revisions : List Revision) → revision_of f (put_revision file rev revisions) ≡ Some r
    → ((f ≡ file) × (r.rev ≡ rev)) ⊎ ((f ≢ file) × (revision_of f revisions ≡ Some r))
revision-after f file rev r revisions e = step (file == f) refl
  where
    step : (x : Bool) → (file == f) ≡ x → ((f ≡ file) × (r.rev ≡ rev)) ⊎ ((f ≢ file) × (revision_of f revisions ≡ Some r))
    step true is =
        let found : revision_of f (put_revision file rev revisions) ≡ Some (record { file = file; rev = rev }) = subst
        (λ n. revision_of n (put_revision file rev revisions) ≡ Some (record { file = file; rev = rev })) (same-number file f is)
        (put-revision-found file rev revisions) in
        inl (sym (same-number file f is), ap (λ z. z.rev) (some-same r (record { file = file; rev = rev }) (sym e ∙ found)))
    step false is =
        let apart : f ≢ file = λ same. is-other file f is (sym same) in
        inr (apart, sym (other-revision-put file rev f revisions apart) ∙ e)

pub revision-put : (file rev : ℕ) (revisions : List Revision) → revision_of file (put_revision file rev revisions) ≡ Some (record { file = file; rev = rev })
revision-put file rev revisions = put-revision-found file rev revisions

-- ---- delayed writes

-- a delayed write after one more was delayed: it was there, or it is that
pub data IsWritten (file block number : ℕ) (body : List ℕ) (dirty : List Push) (p : Push) : Type 0 where
  was_there : In dirty p → IsWritten file block number body dirty p
  is_new : p.file ≡ file → p.block ≡ block → p.last ≡ number → p.body ≡ body → IsWritten file block number body dirty p

pub in-written : (file block number : ℕ) (body : List ℕ) (dirty : List Push) (o : Option Push) (p : Push)
    → In (with_write file block number body dirty o) p → IsWritten file block number body dirty p
in-written file block number body dirty None p h = case (in-append dirty _ p h)
  where
    case : In dirty p ⊎ In (record { file = file; block = block; first = number; last = number; body = body } ∷ []) p → IsWritten file block number
        body dirty p
    case (inl old) = was_there old
    case (inr (inl e)) = is_new (ap (λ z. z.file) (sym e)) (ap (λ z. z.block) (sym e)) (ap (λ z. z.last) (sym e)) (ap (λ z. z.body) (sym e))
    case (inr (inr bad)) = absurd bad
in-written file block number body dirty (Some q) p h =
    let k = in-map (overwritten_at file block number body) dirty p h in
    case k.0 k.1 (is_push_at file block k.0) refl k.2
  where
    case : (x : Push) → In dirty x → (b : Bool) → is_push_at file block x ≡ b → (if b then overwritten number body x else x) ≡ p
        → IsWritten file block number body dirty p
    case x i true at e =
        let a = and_parts _ _ at in is_new (ap (λ z. z.file) (sym e) ∙ same-number _ _ a.0) (ap (λ z. z.block) (sym e) ∙ same-number _ _ a.1)
        (ap (λ z. z.last) (sym e)) (ap (λ z. z.body) (sym e))
    case x i false at e = was_there (subst (λ z. In dirty z) e i)

-- whether a block has delayed writes
pub dirty-dropped : (file block : ℕ) (dirty : List Push) → dirty_at file block (drop_dirty file block dirty) ≡ None
dirty-dropped file block dirty = find-dropped (is_push_at file block) (λ p. not (is_push_at file block p)) dirty (λ p e. not_from_true _ e)

push-at-same : (f b file block number : ℕ) (body : List ℕ) (p : Push) → is_push_at f b (overwritten_at file block number body p) ≡ is_push_at f b p
push-at-same f b file block number body p = step (is_push_at file block p)
  where
    step : (x : Bool) → is_push_at f b (if x then overwritten number body p else p) ≡ is_push_at f b p
    step true = refl
    step false = refl

some-mapped : {A : Type 0} (f : A → A) (o : Option A) → is_some (option_map f o) ≡ is_some o
some-mapped f None = refl
some-mapped f (Some x) = refl

-- a block that another write was delayed to
pub written-elsewhere : (f b file block number : ℕ) (body : List ℕ) (dirty : List Push) (o : Option Push) → (IsBlock f b file block → ⊥)
    → is_some (dirty_at f b (with_write file block number body dirty o)) ≡ true → is_some (dirty_at f b dirty) ≡ true
written-elsewhere f b file block number body dirty (Some q) other e =
    sym (ap is_some (find-map (is_push_at f b) (overwritten_at file block number body) dirty (λ p. push-at-same f b file block number body p))
    ∙ some-mapped (overwritten_at file block number body) (dirty_at f b dirty)) ∙ e
written-elsewhere f b file block number body dirty None other e =
    case (dirty_at f b dirty) refl (sym
    (ap is_some (find-append (is_push_at f b) dirty (record { file = file; block = block; first = number; last = number; body = body } ∷ []))) ∙ e)
  where
    new : Push
    new = record { file = file; block = block; first = number; last = number; body = body }

    not-new : (x : Bool) → is_push_at f b new ≡ x → is_some (if x then Some new else None) ≡ true → is_some (dirty_at f b dirty) ≡ true
    not-new true is g = let a = and_parts _ _ is in absurd (other (record { file_same = sym (same-number _ _ a.0); block_same = sym (same-number _ _ a.1) }))
    not-new false is g = absurd (cc)

    case : (o : Option Push) → dirty_at f b dirty ≡ o → is_some (option_or o (dirty_at f b (new ∷ []))) ≡ true → is_some (dirty_at f b dirty) ≡ true
    case (Some p) is g = ap is_some is
    case None is g = not-new (is_push_at f b new) refl g
