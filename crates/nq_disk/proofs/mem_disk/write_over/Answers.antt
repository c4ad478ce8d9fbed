use Rattle.std.proofs.Common.{◌≡◌, ◌+◌, ◌<◌, ◌≤◌, max, List, ℕ, ◌++◌, length, take, drop, arith, ap, sym, subst, ◌∙◌}
use Rattle.std.proofs.lemmas.Bool.Decides.{nat_tests}
use Rattle.nq_disk.specs.BytesLaws.{torn-written}
use Rattle.nq_disk.proofs.Overwriting.{over-written, written-back, written-none}
use Rattle.nq_disk.proofs.mem_disk.write_over.Goals as goal

pub returns-then-is_empty-clause-items : goal.returns-then-is_empty-clause-items
returns-then-is_empty-clause-items c =
    let none : length c.args.bytes.now ≡ 0 = grind (arith, nat_tests) in
    written-none c.args.place c.args.bytes.now c.args.disk.now.items none

pub returns-clause-items : goal.returns-clause-items
returns-clause-items c =
    let some : 0 < length c.args.bytes.now = grind (arith, nat_tests) in
    let value = c.deref_mut.ensures.value in
    let len : length c.copy_in.new.disk ≡ length c.lengthen.new.disk.items = c.copy_in.auto.disk ∙ ap length value in
    let fits : length c.lengthen.new.disk.items ≤ c.lengthen.new.disk.len = let ok = c.lengthen.new.disk.ok.0 in omega arith in
    written-back c.lengthen.new.disk.len c.copy_in.new.disk c.lengthen.new.disk.items len fits
    ∙ c.copy_in.ensures.copied
    ∙ ap (λ (d : List ℕ). take c.args.place d ++ (c.args.bytes.now ++ drop (c.args.place + length c.args.bytes.now) d)) (value ∙ c.lengthen.ensures.items)
    ∙ over-written c.args.place c.args.bytes.now c.args.disk.now.items some

pub returns-clause-short : goal.returns-clause-short
returns-clause-short c =
    subst (λ (d : List ℕ). length d ≤ max (length c.args.disk.now.items) (c.args.place + length c.args.bytes.now)) (sym (returns-clause-items c))
    (torn-written c.args.place c.args.bytes.now c.args.disk.now.items).no_longer
