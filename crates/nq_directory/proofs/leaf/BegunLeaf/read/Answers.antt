use Rattle.std.proofs.Common.{◌≡◌, ◌∙◌, ◌≤◌, ◌++◌, ◌∷◌, [], None, Some, true, false, length, ap, subst, sym, arith}
use Rattle.std.specs.Prelude.{IfSome}
use Rattle.nq_directory.proofs.Files.{ends, full, one-more, passed-by}
use Rattle.nq_directory.specs.Files.{IsNext, own_behind}
use Rattle.nq_directory.specs.Messages.{most_names}
use Rattle.nq_directory.proofs.leaf.BegunLeaf.read.Goals as goal

pub returns-in_default : goal.returns-in_default
returns-in_default c = λ is_own told kept start within next upto.
    let i = c.self.inside in
    let upto' = rw (← c.self.view_is) at upto in
    let next' = rw (← c.self.view_is) at next in
    let none : IsNext kept i.last None = subst (IsNext kept i.last) c.in_default.is next' in
    rw (← c.self.view_is) (ap (λ m. record { names = i.names.items; more = m }) upto'.on ∙ ends is_own start i.names.items i.last kept none
    c.self.invariant.0 upto'.names)

pub returns-then-not-own : goal.returns-then-not-own
returns-then-not-own c = λ is_own told kept start within next upto.
    let i = c.self.inside in
    let upto' = rw (← c.self.view_is) at upto in
    let next' = rw (← c.self.view_is) at next in
    let some : IsNext kept i.last (Some c.in-Some.row) = subst (IsNext kept i.last) c.in-Some.is next' in
    let same : c.args.own ≡ is_own c.in-Some.row.name = subst (λ n. IfSome n (λ row. c.args.own ≡ is_own row.name)) c.in-Some.is told in
    let other : is_own c.in-Some.row.name ≡ false = sym same ∙ c.if-not-own.true in
    record { names = passed-by is_own start i.names.items i.last kept c.in-Some.row within some upto'.names other; on = upto'.on }

pub returns-then-count : goal.returns-then-count
returns-then-count c = λ is_own told kept start within next upto.
    let i = c.self.inside in
    let upto' = rw (← c.self.view_is) at upto in
    let next' = rw (← c.self.view_is) at next in
    let some : IsNext kept i.last (Some c.in-Some.row) = subst (IsNext kept i.last) c.in-Some.is next' in
    let same : c.args.own ≡ is_own c.in-Some.row.name = subst (λ n. IfSome n (λ row. c.args.own ≡ is_own row.name)) c.in-Some.is told in
    let own : is_own c.in-Some.row.name ≡ true = sym same ∙ c.if-not-own.false in
    let size = c.len-count.ensures in
    let test = c.if-count.true in
    let many : most_names ≤ length i.names.items = omega arith in
    full is_own start i.names.items i.last kept c.in-Some.row within some upto'.names own c.self.invariant.0 many

pub returns : goal.returns
returns c = λ is_own told kept start within next upto.
    let i = c.self.inside in
    let upto' = rw (← c.self.view_is) at upto in
    let next' = rw (← c.self.view_is) at next in
    let some : IsNext kept i.last (Some c.in-Some.row) = subst (IsNext kept i.last) c.in-Some.is next' in
    let same : c.args.own ≡ is_own c.in-Some.row.name = subst (λ n. IfSome n (λ row. c.args.own ≡ is_own row.name)) c.in-Some.is told in
    let own : is_own c.in-Some.row.name ≡ true = sym same ∙ c.if-not-own.false in
    let items : c.push.new.self.items ≡ i.names.items ++ record { file = c.in-Some.row.id; name = c.in-Some.row.name } ∷ [] = rw c.unwrap.ensures at
    c.push.ensures.items in
    record {
      names = subst (λ l. own_behind is_own start kept.files ≡ l ++ own_behind is_own c.in-Some.row.id kept.files) (sym items)
          (one-more is_own start i.names.items i.last kept c.in-Some.row within some upto'.names own);
      on = upto'.on;
    }
