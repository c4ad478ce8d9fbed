use Rattle.std.proofs.Common.{inl, refl, rules, subst, sym}
use Rattle.nq_run.proofs.Finding.{asks_first, is_first, none_among}
use Rattle.nq_run.proofs.Making.{starts_usage, storms_not, storms_on, storms_refused}
use Rattle.nq_run.proofs.StormPromises.{never_usage, storms_for}
use Rattle.nq_run.specs.Fates.{fate_told}
use Rattle.nq_storm.specs.Asking.{AsksFor}
use Rattle.nq_storm.specs.Printed.{KeepsStorm, StormEnds}
use Rattle.nq_store.specs.Storing.{content_of}
use Rattle.nq_run.proofs.storming.stormed.Goals as goal

pub returns-in-Ok-clause-storms : goal.returns-in-Ok-clause-storms
returns-in-Ok-clause-storms g c =
    let end = c.run_storm-finished.result.end in
    let served = c.run_storm-finished.result.left in
    let kept = content_of g.D.Disk.told served in
    let held = g.K.Sink.held c.args.out.now in
    let now = g.K.Sink.held c.run_storm-finished.new.out in
    storms_on g.D.Disk.told g.D.Disk.faults g.D.Disk.follows c.status.result c.args.kind c.args.plan.start c.args.plan.events _ _ _ held now _ _ c.args.disk
    c.in-Ok.store served c.into_disk.result c.into_disk.ensures
    g.met.D.Disk.rises c.in-Ok.ensures.fresh c.in-Ok.ensures.counts c.run_storm-finished.ensures.follows
    (storms_for end c.status.result c.args.kind c.args.plan.start c.args.plan.events _ _ _ _ held now _ _ _ _ kept c.status.ensures
    (is_first (λ fate. (goal.Fate-dyn g (fate.vtable, fate.value)).told fate.value) c.args.kind c.in-Some.place c.args.fates.now
    c.index-fates-place.result c.in-Some.ensures.within c.index-fates-place.is c.in-Some.ensures.others c.in-Some.ensures.found)
    (subst (λ v. StormEnds end c.args.plan.start c.args.plan.events ((goal.Fate-dyn g v).told v.1) held now
    (g.K.Sink.faults c.args.out.now) (g.K.Sink.faults c.run_storm-finished.new.out)) c.deref_box_mut-1.ensures.value.1 c.run_storm-finished.ensures.ends)
    (λ done. subst (λ v. KeepsStorm c.args.plan.start c.args.plan.events ((goal.Fate-dyn g v).told v.1) held now kept) c.deref_box_mut-1.ensures.value.1
    (c.run_storm-finished.ensures.keeps done))
    c.run_storm-finished.ensures.counts c.run_storm-finished.ensures.sink
    (inl (asks_first (λ fate. fate_told ((goal.Fate-dyn g (fate.vtable, fate.value)).told fate.value)
    ((goal.Fate-dyn g (fate.vtable, fate.value)).asks fate.value)) end c.args.kind c.args.plan.events c.in-Some.place c.args.fates.now
    c.index-fates-place.result _ c.in-Some.ensures.within c.index-fates-place.is c.in-Some.ensures.others c.in-Some.ensures.found
    (subst (λ v. AsksFor end c.args.plan.events ((goal.Fate-dyn g v).asks v.1)
    ((goal.Fate-dyn g (c.deref_box_mut-1.result.now.0, c.run_storm-finished.new.fate)).asks c.run_storm-finished.new.fate))
    c.deref_box_mut-1.ensures.value.1 c.run_storm-finished.ensures.asks))))

pub returns-in-Ok-clause-follows : goal.returns-in-Ok-clause-follows
returns-in-Ok-clause-follows g c =
    subst (λ d. g.D.Disk.follows c.args.disk d) (sym c.into_disk.ensures)
    (g.met.D.Disk.follows_on c.args.disk c.in-Ok.store.disk c.run_storm-finished.result.left.disk c.in-Ok.ensures.follows
    c.run_storm-finished.ensures.follows.disk)

pub returns-in-Ok-clause-never : goal.returns-in-Ok-clause-never
returns-in-Ok-clause-never g c = λ others. absurd (none_among _ c.args.kind c.in-Some.place c.args.fates.now others c.in-Some.ensures.within
    c.in-Some.ensures.found)

pub returns-in-Ok-clause-alone : goal.returns-in-Ok-clause-alone
returns-in-Ok-clause-alone g c = λ none.
    absurd (never_usage c.run_storm-finished.result.end c.status.result _ _ _ _ _ _ _ c.status.ensures c.run_storm-finished.ensures.ends none)

pub returns-in-Err-clause-storms : goal.returns-in-Err-clause-storms
returns-in-Err-clause-storms g c = storms_not c.in-Err.ended.end c.status-in-Err.result c.args.kind c.args.plan.start c.args.plan.events _ _ _ _ _ _ _
    c.status-in-Err.ensures c.in-Err.ensures.fails

pub returns-in-Err-clause-never : goal.returns-in-Err-clause-never
returns-in-Err-clause-never g c = λ others. absurd (none_among _ c.args.kind c.in-Some.place c.args.fates.now others c.in-Some.ensures.within
    c.in-Some.ensures.found)

pub returns-in-Err-clause-alone : goal.returns-in-Err-clause-alone
returns-in-Err-clause-alone g c = λ none.
    absurd (starts_usage c.in-Err.ended.end c.status-in-Err.result _ _ c.status-in-Err.ensures c.in-Err.ensures.fails none)

pub returns-in-None-clause-storms : goal.returns-in-None-clause-storms
returns-in-None-clause-storms g c =
    storms_refused c.usage.result c.args.kind c.args.plan.start c.args.plan.events _ _ _ _ _ _ _ _ c.usage.ensures.usage
    (c.in-None.ensures.none (search rules)) c.usage.ensures.printed

pub returns-in-None-clause-never : goal.returns-in-None-clause-never
returns-in-None-clause-never g c = λ others. (c.usage.ensures.usage, refl)

pub returns-in-None-clause-follows : goal.returns-in-None-clause-follows
returns-in-None-clause-follows g c = g.met.D.Disk.follows_itself c.args.disk

pub returns-in-None-clause-alone : goal.returns-in-None-clause-alone
returns-in-None-clause-alone g c = λ none. refl
