use Rattle.std.proofs.Common.{◌≡◌, ◌<◌, ℕ, Bool, is_some, true, false, List, Some, length, sym, subst, ◌∙◌, ap, arith}
use Rattle.std.specs.List.{slice_get, remove}
use Rattle.std.specs.Option.{IsSomeAnd}
use Rattle.nq_client_parts.specs.ByFile.{Ascends, IsPlace}
use Rattle.nq_client_parts.proofs.NoticeList.{there, none-there, found-there, gone, none_gone}
use Rattle.nq_model.specs.protocol.Client.{Notice, file_of_notice, notice_on, drop_notice}
use Rattle.nq_client_parts.proofs.notices.take_notice.Goals as goal

-- what was read of the notices is read of them as they came
module _ (notices read again : List Notice) (file place : ℕ) (seen : Bool) (first : read ≡ notices) (second : again ≡ notices)
    (ascends : Ascends file_of_notice notices) (placed : IsPlace file_of_notice file read place) (is : seen ≡ is_some (notice_on file again)) where
  at : IsPlace file_of_notice file notices place
  at = subst (λ ks. IsPlace file_of_notice file ks place) first placed

  waits : (b : Bool) → seen ≡ b → is_some (notice_on file notices) ≡ b
  waits b e = ap (λ ks. is_some (notice_on file ks)) (sym second) ∙ sym is ∙ e

  stands : seen ≡ true → IsSomeAnd (slice_get notices place) (λ n. n.file ≡ file) × (place < length notices)
  stands e = there file place notices ascends at (waits true e)

  found : seen ≡ true → (n : Notice) → slice_get notices place ≡ Some n → notice_on file notices ≡ Some n
  found e n got = found-there file place notices n ascends at got (stands e).0

  taken : seen ≡ true → (remove notices place ≡ drop_notice file notices) × Ascends file_of_notice (remove notices place)
  taken e = gone file place notices ascends at (stands e).0

  untaken : seen ≡ false → notices ≡ drop_notice file notices
  untaken e = none_gone file place notices ascends at (none-there file place notices ascends at (waits false e))

pub take_at-requires : goal.take_at-requires
take_at-requires c =
    let is = stands c.args.notices.now.items _ _ c.args.file c.place_of-place.result c.is_at.result c.deref.ensures.value c.deref-2.ensures.value
    c.requires c.place_of-place.ensures c.is_at.ensures c.if-is_at.true in
    omega (arith, is.1)

pub returns-then-is_at-clause-found : goal.returns-then-is_at-clause-found
returns-then-is_at-clause-found c =
    sym (found c.args.notices.now.items _ _ c.args.file c.place_of-place.result c.is_at.result c.deref.ensures.value c.deref-2.ensures.value
    c.requires c.place_of-place.ensures c.is_at.ensures c.if-is_at.true c.take_at.result c.take_at.ensures.notice)

pub returns-then-is_at-clause-items : goal.returns-then-is_at-clause-items
returns-then-is_at-clause-items c =
    let out = taken c.args.notices.now.items _ _ c.args.file c.place_of-place.result c.is_at.result c.deref.ensures.value c.deref-2.ensures.value
    c.requires c.place_of-place.ensures c.is_at.ensures c.if-is_at.true in
    c.take_at.ensures.items ∙ out.0

pub returns-then-is_at-clause-ascends : goal.returns-then-is_at-clause-ascends
returns-then-is_at-clause-ascends c =
    let out = taken c.args.notices.now.items _ _ c.args.file c.place_of-place.result c.is_at.result c.deref.ensures.value c.deref-2.ensures.value
    c.requires c.place_of-place.ensures c.is_at.ensures c.if-is_at.true in
    subst (Ascends file_of_notice) (sym c.take_at.ensures.items) out.1

pub returns-else-is_at-clause-items : goal.returns-else-is_at-clause-items
returns-else-is_at-clause-items c =
    untaken c.args.notices.now.items _ _ c.args.file c.place_of-place.result c.is_at.result c.deref.ensures.value c.deref-2.ensures.value c.requires
    c.place_of-place.ensures c.is_at.ensures c.if-is_at.false
