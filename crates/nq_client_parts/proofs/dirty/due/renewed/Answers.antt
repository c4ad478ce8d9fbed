use Rattle.std.proofs.Common.{◌≡◌, map, drop, List, ◌∷◌, Some, suc, true, sym, subst, ap, ◌∙◌}
use Rattle.std.proofs.Math.Seq.{drop-cons}
use Rattle.nq_client_parts.specs.ByFile.{Ascends}
use Rattle.nq_client_parts.specs.Leases.{lease_in, file_of_row}
use Rattle.nq_client_parts.specs.declared.leases.HeldLease.{HeldLease}
use Rattle.nq_client_parts.proofs.Least.{least-first}
use Rattle.nq_model.specs.protocol.Client.{file_of_lease}
use Rattle.nq_model.specs.protocol.Send.{renewed_in, is_to_renew_in}
use Rattle.nq_client_parts.proofs.dirty.due.renewed.Goals as goal

pub returns-then-is_to_renew : goal.returns-then-is_to_renew
returns-then-is_to_renew c =
    let row = c.row-item.result in
    let rest = drop (suc c.loop-row.row-index) c.args.rows.now in
    let split : drop c.loop-row.row-index c.args.rows.now ≡ row ∷ rest = drop-cons c.args.rows.now c.loop-row.row-index row c.loop-row-test.true
    ∙ ap (λ (x : HeldLease). x ∷ rest) (sym c.row-item.is) in
    let ascends : Ascends file_of_row (row ∷ rest) = subst (Ascends file_of_row) split c.loop-row.invariant.ascends in
    let passes : is_to_renew_in c.args.now c.args.notices.now.items c.args.dirty.now.dirty c.args.dirty.now.push (lease_in row) ≡ true =
    sym c.is_to_renew.ensures ∙ c.if-is_to_renew.true in
    let is : Some row.lease.file ≡ renewed_in c.args.now (map lease_in c.args.rows.now) c.args.notices.now.items c.args.dirty.now.dirty
    c.args.dirty.now.push = sym (ap (λ (xs : List HeldLease). renewed_in c.args.now (map lease_in xs) c.args.notices.now.items c.args.dirty.now.dirty
    c.args.dirty.now.push) split ∙ least-first file_of_lease lease_in (is_to_renew_in c.args.now c.args.notices.now.items c.args.dirty.now.dirty
    c.args.dirty.now.push) row rest ascends passes) ∙ c.loop-row.invariant.same in
    is
