use Rattle.std.proofs.Common.{◌≡◌, ◌-◌, ◌==◌, ◌∙◌, false, subst, sym, true}
use Rattle.nq_model.proofs.Finding.{is-other, same-number}
use Rattle.nq_name_server.proofs.Files.{removes-none, removes-other, removes-own}
use Rattle.nq_directory.specs.Files.{IsNext}
use Rattle.nq_name_server.proofs.change.removed.Goals as goal

pub returns-in_default : goal.returns-in_default
returns-in_default c = λ kept within next.
    removes-none c.args.who c.args.file kept within (subst (IsNext kept (c.args.file - 1)) c.in_default.is next)

pub returns-then-eq : goal.returns-then-eq
returns-then-eq c = λ kept within next.
    let same : (c.in-Some.row.id == c.args.file) ≡ true = sym c.eq.ensures ∙ c.if-eq.true in
    removes-own c.args.who c.args.file c.directory_of.result kept c.in-Some.row c.directory_of.ensures within (subst (IsNext kept (c.args.file - 1))
    c.in-Some.is next) (same-number c.in-Some.row.id c.args.file same)

pub returns-else-eq : goal.returns-else-eq
returns-else-eq c = λ kept within next.
    let other : (c.in-Some.row.id == c.args.file) ≡ false = sym c.eq.ensures ∙ c.if-eq.false in
    removes-other c.args.who c.args.file kept c.in-Some.row within (subst (IsNext kept (c.args.file - 1)) c.in-Some.is next)
    (is-other c.in-Some.row.id c.args.file other)
