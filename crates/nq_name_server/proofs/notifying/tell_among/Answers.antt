use Rattle.std.proofs.Common.{◌++◌, [], ◌∷◌, rules, sym, ap, ◌∙◌, append_assoc}
use Rattle.nq_name_server.proofs.Telling.{told-more, counted-more, told-passed, counted-passed}
use Rattle.nq_name_server.specs.Sending.{sent}
use Rattle.nq_name_server.specs.Serving.{notice_to}
use Rattle.nq_name_server.proofs.notifying.tell_among.Goals.{then-is_in_the_way+in_ok-tell, else-is_in_the_way}
use Rattle.nq_name_server.proofs.notifying.tell_among.Goals as goal

pub loop-row-preserved : goal.loop-row-preserved
loop-row-preserved c =
    let row = c.row-item.result in
    let so-far = c.loop-row.invariant in
    let one = sent (notice_to c.args.prefix.now c.loop-row.next row) ∷ [] in
    elim c.if-is_in_the_way.branch [
      | then-is_in_the_way+in_ok-tell w ↦
          let told = sym c.is_in_the_way.ensures ∙ w.if-is_in_the_way.true in
          let added = ap (λ o. o.datagrams) w.out-is ∙ w.in_ok-tell.ensures.told in
          record {
            first = search rules;
            grows = (
              so-far.grows.0 ++ one,
              added ∙ ap (λ d. d ++ one) so-far.grows.1 ∙ append_assoc c.args.out.now.datagrams so-far.grows.0 one,
            );
            told = told-more c.args.prefix.now c.args.number c.args.host c.args.rows.now c.loop-row.row-index row c.loop-row-test.true c.row-item.is
                c.loop-row.next c.if-is_in_the_way.next _ c.loop-row.out.datagrams c.if-is_in_the_way.out.datagrams told w.next-is so-far.told added;
            counted = counted-more c.args.prefix.now c.args.number c.args.host c.args.rows.now c.loop-row.row-index row c.loop-row-test.true
                c.row-item.is c.loop-row.next c.if-is_in_the_way.next _ told w.next-is so-far.counted;
            small = search rules;
          }
      | else-is_in_the_way w ↦
          let passed = sym c.is_in_the_way.ensures ∙ w.if-is_in_the_way.false in
          record {
            first = search rules;
            grows = search rules;
            told = told-passed c.args.prefix.now c.args.number c.args.host c.args.rows.now c.loop-row.row-index row c.loop-row-test.true c.row-item.is
                c.loop-row.next c.if-is_in_the_way.next _ c.loop-row.out.datagrams c.if-is_in_the_way.out.datagrams passed w.next-is so-far.told
                (ap (λ o. o.datagrams) w.out-is);
            counted = counted-passed c.args.prefix.now c.args.number c.args.host c.args.rows.now c.loop-row.row-index row c.loop-row-test.true
                c.row-item.is c.loop-row.next c.if-is_in_the_way.next _ passed w.next-is so-far.counted;
            small = search rules;
          }
    ]
