use Rattle.std.proofs.Common.{◌≡◌, Some, IsSome, sym, ◌∙◌, ap, subst, refl}
use Rattle.nq_client_parts.specs.DirtyEntries.{delayed, push_of}
use Rattle.nq_client_parts.proofs.OfEntries.{first-none, first-at, drop_dirty-entries}
use Rattle.nq_client_parts.proofs.dirty.entries.take_first.Goals as goal

pub returns-in_err-key-clause-first : goal.returns-in_err-key-clause-first
returns-in_err-key-clause-first c =
    c.from_residual.ensures ∙ sym (first-none c.args.file c.args.entries.now.entries (sym c.in_err-key.ensures))

pub unwrap-first-requires : goal.unwrap-first-requires
unwrap-first-requires c =
    let first = first-at c.args.file c.in_ok-key.key c.args.entries.now.entries (sym c.in_ok-key.ensures) in
    subst IsSome (sym (c.shift_remove.ensures.value ∙ first.1)) refl

pub returns-clause-first : goal.returns-clause-first
returns-clause-first c =
    let first = first-at c.args.file c.in_ok-key.key c.args.entries.now.entries (sym c.in_ok-key.ensures) in
    let v : Some c.unwrap-first.result ≡ Some first.0 = sym c.unwrap-first.ensures ∙ c.shift_remove.ensures.value ∙ first.1 in
    let w : c.unwrap-first.result ≡ first.0 = cc in
    ap (λ x. Some (push_of (c.in_ok-key.key, x))) w ∙ sym first.2

pub returns-clause-others : goal.returns-clause-others
returns-clause-others c =
    ap delayed c.shift_remove.ensures.entries
    ∙ sym (drop_dirty-entries c.in_ok-key.key c.args.entries.now.entries c.len-distinct.ensures.unique)
