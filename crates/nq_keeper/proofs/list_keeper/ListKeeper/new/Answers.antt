use Rattle.std.proofs.Common.{◌≡◌, subst, sym, ap, ◌∙◌, rules}
use Rattle.nq_keeper.proofs.Calling.{as-empty}
use Rattle.nq_keeper.specs.Bounds.{empty-within, told-kept}
use Rattle.nq_keeper.specs.StoredKeeper.{StoredKeeper, empty_kept, told_of}
use Rattle.nq_model.specs.protocol.Change.{IsWithinBounds, kept_as}
use Rattle.nq_keeper.proofs.list_keeper.ListKeeper.new.Goals as goal

empty : (c : goal.After-new-2) → kept_as c.new.result c.in_ok-hosts.hosts.items (record { boot = 0; opened = 0; longest = 60; next = 1 }) ≡ empty_kept
empty c = as-empty c.new.result c.in_ok-hosts.hosts.items c.new.ensures (c.in_ok-hosts.ensures.items_if_clones_equal (λ y same. search rules))

pub invariant_of-result : goal.invariant_of-result
invariant_of-result c = subst IsWithinBounds (sym (empty c)) empty-within

pub returns-clause-keeper : goal.returns-clause-keeper
returns-clause-keeper c =
    ap (λ kept. let keeper : StoredKeeper = record { kept = kept; calls = c.new-2.result } in keeper) (empty c)
    ∙ ap (λ calls. let keeper : StoredKeeper = record { kept = empty_kept; calls = calls } in keeper) c.new-2.ensures

pub returns-clause-tells : goal.returns-clause-tells
returns-clause-tells c = ap told_of (empty c) ∙ told-kept empty_kept empty-within
