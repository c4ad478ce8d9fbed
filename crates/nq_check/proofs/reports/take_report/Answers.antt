use Rattle.std.proofs.Common.{◌-◌, length}
use Rattle.nq_rules.specs.Marks.{IsMarked}
use Rattle.nq_check.specs.Reports.{TakesReport}
use Rattle.nq_check.proofs.Reporting.{on_ok, takes_none, takes_some}
use Rattle.nq_check.proofs.reports.take_report.Goals as goal

pub returns-in-Some : goal.returns-in-Some
returns-in-Some c =
    let whole = c.args.whole.now in
    let place = c.args.place in
    let old = c.args.next.now.entries in
    let new = c.set_head.new.heads.entries in
    on_ok c.set_head.result (IsMarked c.in-Some.key (length whole - place) old new) (TakesReport whole place old new)
    (λ marked. takes_some whole place c.args.entry.now old new c.may_report.result c.in-Some.key c.in-Some.is c.requires.there.0 c.requires.there.1
    c.may_report.ensures marked)
    c.set_head.ensures

pub returns-in-None : goal.returns-in-None
returns-in-None c =
    takes_none c.args.whole.now c.args.place c.args.entry.now c.args.next.now.entries c.may_report.result c.in-None.is c.requires.there.1
    c.may_report.ensures
