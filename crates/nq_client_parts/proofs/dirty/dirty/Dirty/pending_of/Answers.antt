use Rattle.std.proofs.Common.{sym, ◌∙◌, arith}
use Rattle.nq_client_parts.proofs.Counts.{count-with-push, count-without-push, all-few}
use Rattle.nq_client_parts.proofs.OfEntries.{count_of_file}
use Rattle.nq_client_parts.specs.DirtyEntries.{delayed}
use Rattle.nq_client_parts.proofs.dirty.dirty.Dirty.pending_of.Goals as goal

pub overflow_add-result : goal.overflow_add-result
overflow_add-result c =
    let listed = c.count-listed.ensures ∙ sym (count_of_file c.args.file c.self.inside.entries.entries) in
    let all = count-with-push c.args.file (delayed c.self.inside.entries.entries) c.self.inside.push c.count-listed.result listed (sym c.if-is_of.ensures) in
    let few = all-few c.args.file (delayed c.self.inside.entries.entries) c.self.inside.push in
    omega (arith, all, few, c.self.invariant)

pub returns-then-is_of-clause-pending : goal.returns-then-is_of-clause-pending
returns-then-is_of-clause-pending c =
    let listed = c.count-listed.ensures ∙ sym (count_of_file c.args.file c.self.inside.entries.entries) in
    rw (← c.self.view_is) (count-with-push c.args.file (delayed c.self.inside.entries.entries) c.self.inside.push c.count-listed.result listed
    (sym c.if-is_of.ensures))

pub returns-then-is_of-clause-few : goal.returns-then-is_of-clause-few
returns-then-is_of-clause-few c =
    let listed = c.count-listed.ensures ∙ sym (count_of_file c.args.file c.self.inside.entries.entries) in
    let all = count-with-push c.args.file (delayed c.self.inside.entries.entries) c.self.inside.push c.count-listed.result listed (sym c.if-is_of.ensures) in
    let few = all-few c.args.file (delayed c.self.inside.entries.entries) c.self.inside.push in
    omega (arith, all, few, c.self.invariant)

pub returns-else-is_of-clause-pending : goal.returns-else-is_of-clause-pending
returns-else-is_of-clause-pending c =
    let listed = c.count-listed.ensures ∙ sym (count_of_file c.args.file c.self.inside.entries.entries) in
    rw (← c.self.view_is) (count-without-push c.args.file (delayed c.self.inside.entries.entries) c.self.inside.push c.count-listed.result listed
    (sym c.if-is_of.ensures))

pub returns-else-is_of-clause-few : goal.returns-else-is_of-clause-few
returns-else-is_of-clause-few c =
    let listed = c.count-listed.ensures ∙ sym (count_of_file c.args.file c.self.inside.entries.entries) in
    let all = count-without-push c.args.file (delayed c.self.inside.entries.entries) c.self.inside.push c.count-listed.result listed
    (sym c.if-is_of.ensures) in
    let few = all-few c.args.file (delayed c.self.inside.entries.entries) c.self.inside.push in
    omega (arith, all, few, c.self.invariant)
