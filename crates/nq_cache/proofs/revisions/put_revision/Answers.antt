use Rattle.std.proofs.Common.{◌≡◌, ℕ, List, sym, subst, ◌∙◌, ap, map, refl, IsSome}
use Rattle.std.proofs.lemmas.Bool.{false≢true}
use Rattle.std.specs.List.{slice_get, slice_set, insert}
use Rattle.std.specs.Option.{IsSomeAnd}
use Rattle.nq_cache.specs.Revisions.{revision, Ascends, IsPlace}
use Rattle.nq_cache.specs.declared.revisions.KnownRevision.{KnownRevision}
use Rattle.nq_cache.proofs.Places.{IsPut, replaced, inserted, none_found}
use Rattle.nq_model.specs.protocol.Client.{revision_of}
use Rattle.nq_cache.proofs.revisions.put_revision.Goals as goal

-- what was read of the revisions is read of them as they came
module _ (known read again : List KnownRevision) (file rev place : ℕ) (first : read ≡ known) (second : again ≡ known) (ascends : Ascends known)
    (placed : IsPlace file read place) where
  abbrev new : KnownRevision
  new = record { file = file; rev = rev }

  at : IsPlace file known place
  at = subst (λ ks. IsPlace file ks place) first placed

  put-there : IsSomeAnd (slice_get again place) (λ k. k.file ≡ file) → IsPut new known (slice_set known place new)
  put-there is = replaced new known place ascends at (subst (λ ks. IsSomeAnd (slice_get ks place) (λ k. k.file ≡ file)) second is)

  absent : ¬ IsSomeAnd (slice_get again place) (λ k. k.file ≡ file) → ¬ IsSomeAnd (slice_get known place) (λ k. k.file ≡ file)
  absent none = subst (λ ks. ¬ IsSomeAnd (slice_get ks place) (λ k. k.file ≡ file)) second none

  put-absent : ¬ IsSomeAnd (slice_get again place) (λ k. k.file ≡ file) → (roomy after : List KnownRevision) → roomy ≡ known
      → after ≡ insert roomy place new → IsPut new known after
  put-absent none roomy after kept made =
      subst (IsPut new known) (sym (made ∙ ap (λ ks. insert ks place new) kept)) (inserted new known place ascends at (absent none))

  not-there : ¬ IsSomeAnd (slice_get again place) (λ k. k.file ≡ file) → IsSome (revision_of file (map revision known)) → ⊥
  not-there none some = false≢true (subst IsSome (none_found file known place ascends at (absent none)) some)

pub returns-then-is_at-clause-put : goal.returns-then-is_at-clause-put
returns-then-is_at-clause-put c =
    let put = put-there c.args.known.now.items _ _ c.args.file c.args.rev c.place_of-place.result c.deref.ensures.value c.deref-2.ensures.value
    c.requires c.place_of-place.ensures (c.if-is_at.ensures.0 refl) in
    ap (map revision) c.replace.ensures.items ∙ put.0

pub returns-then-is_at-clause-ascends : goal.returns-then-is_at-clause-ascends
returns-then-is_at-clause-ascends c =
    let put = put-there c.args.known.now.items _ _ c.args.file c.args.rev c.place_of-place.result c.deref.ensures.value c.deref-2.ensures.value
    c.requires c.place_of-place.ensures (c.if-is_at.ensures.0 refl) in
    subst Ascends (sym c.replace.ensures.items) put.1

pub returns-in_ok-try_reserve-clause-put : goal.returns-in_ok-try_reserve-clause-put
returns-in_ok-try_reserve-clause-put c =
    (put-absent c.args.known.now.items _ _ c.args.file c.args.rev c.place_of-place.result c.deref.ensures.value c.deref-2.ensures.value c.requires
    c.place_of-place.ensures (λ h. false≢true (c.if-is_at.ensures.1 h)) _ c.insert.new.known.items c.in_ok-try_reserve.ensures.items
    c.insert.ensures.items).0

pub returns-in_ok-try_reserve-clause-ascends : goal.returns-in_ok-try_reserve-clause-ascends
returns-in_ok-try_reserve-clause-ascends c =
    (put-absent c.args.known.now.items _ _ c.args.file c.args.rev c.place_of-place.result c.deref.ensures.value c.deref-2.ensures.value c.requires
    c.place_of-place.ensures (λ h. false≢true (c.if-is_at.ensures.1 h)) _ c.insert.new.known.items c.in_ok-try_reserve.ensures.items
    c.insert.ensures.items).1

pub returns-in_ok-try_reserve-clause-kept : goal.returns-in_ok-try_reserve-clause-kept
returns-in_ok-try_reserve-clause-kept c = λ some.
    absurd (not-there c.args.known.now.items _ _ c.args.file c.args.rev c.place_of-place.result c.deref.ensures.value c.deref-2.ensures.value
    c.requires c.place_of-place.ensures (λ h. false≢true (c.if-is_at.ensures.1 h)) some)

pub returns-in_err-try_reserve-clause-there : goal.returns-in_err-try_reserve-clause-there
returns-in_err-try_reserve-clause-there c = λ some.
    absurd (not-there c.args.known.now.items _ _ c.args.file c.args.rev c.place_of-place.result c.deref.ensures.value c.deref-2.ensures.value
    c.requires c.place_of-place.ensures (λ h. false≢true (c.if-is_at.ensures.1 h)) some)
