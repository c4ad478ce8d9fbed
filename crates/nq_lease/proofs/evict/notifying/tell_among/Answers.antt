use Rattle.std.proofs.Common.{◌++◌, [], ◌∷◌, rules, sym, ap, ◌∙◌, append_assoc}
use Rattle.nq_base.specs.declared.Request.{Request}
use Rattle.nq_datagrams.specs.Sent.{sent}
use Rattle.nq_lease.proofs.Telling.{told-more, fit-more, counted-more, told-passed, fit-passed, counted-passed}
use Rattle.nq_model.specs.protocol.Message.{call}
use Rattle.nq_model.specs.protocol.Server.{to_host}
use Rattle.nq_lease.proofs.evict.notifying.tell_among.Goals.{then-is_in_the_way+in_ok-tell, else-is_in_the_way}
use Rattle.nq_lease.proofs.evict.notifying.tell_among.Goals as goal

pub loop-row-preserved : goal.loop-row-preserved
loop-row-preserved c =
    let row = c.row-item.result in
    let so-far = c.loop-row.invariant in
    elim c.if-is_in_the_way.branch [
      | then-is_in_the_way+in_ok-tell w ↦
          let told = sym c.is_in_the_way.ensures ∙ w.if-is_in_the_way.true in
          let added = ap (λ o. o.datagrams) w.out-is ∙ w.in_ok-tell.ensures.told in
          record {
            first = search rules;
            grows = (
              so-far.grows.0 ++ sent (to_host row.who.host (call c.loop-row.number (Request.Evicted row.who row.file row.tag))) ∷ [],
              added ∙ ap (λ d. d ++ sent (to_host row.who.host (call c.loop-row.number (Request.Evicted row.who row.file row.tag))) ∷ [])
                  so-far.grows.1 ∙ append_assoc c.args.out.now.datagrams so-far.grows.0
                  (sent (to_host row.who.host (call c.loop-row.number (Request.Evicted row.who row.file row.tag))) ∷ []),
            );
            told = told-more c.args.file c.args.host c.args.access c.args.rows.now c.loop-row.row-index row c.loop-row-test.true c.row-item.is
                c.loop-row.number c.if-is_in_the_way.number _ c.loop-row.out.datagrams c.if-is_in_the_way.out.datagrams told w.number-is so-far.told added;
            fit = λ rest. so-far.fit (fit-more c.args.file c.args.host c.args.access c.args.rows.now c.loop-row.row-index row c.loop-row-test.true
                c.row-item.is c.loop-row.number c.if-is_in_the_way.number told w.number-is w.in_ok-tell.ensures.fits rest);
            counted = counted-more c.args.file c.args.host c.args.access c.args.rows.now c.loop-row.row-index row c.loop-row-test.true c.row-item.is
                c.loop-row.number c.if-is_in_the_way.number _ told w.number-is so-far.counted;
            small = search rules;
          }
      | else-is_in_the_way w ↦
          let passed = sym c.is_in_the_way.ensures ∙ w.if-is_in_the_way.false in
          record {
            first = search rules;
            grows = search rules;
            told = told-passed c.args.file c.args.host c.args.access c.args.rows.now c.loop-row.row-index row c.loop-row-test.true c.row-item.is
                c.loop-row.number c.if-is_in_the_way.number _ c.loop-row.out.datagrams c.if-is_in_the_way.out.datagrams passed w.number-is so-far.told
                (ap (λ o. o.datagrams) w.out-is);
            fit = λ rest. so-far.fit (fit-passed c.args.file c.args.host c.args.access c.args.rows.now c.loop-row.row-index row c.loop-row-test.true
                c.row-item.is c.loop-row.number c.if-is_in_the_way.number passed w.number-is rest);
            counted = counted-passed c.args.file c.args.host c.args.access c.args.rows.now c.loop-row.row-index row c.loop-row-test.true c.row-item.is
                c.loop-row.number c.if-is_in_the_way.number _ passed w.number-is so-far.counted;
            small = search rules;
          }
    ]
