use Rattle.std.proofs.Common.{◌≡◌, true, reverse, subst}
use Rattle.nq_model.specs.laws.ReportedTest.{must_report}
use Rattle.nq_check.proofs.Reporting.{busy_key}
use Rattle.nq_check.proofs.reports.may_report.Goals as goal

pub returns-then-is_there : goal.returns-then-is_there
returns-then-is_there c =
    let whole = reverse c.args.whole.now in
    let s = c.in-C in
    λ who file h. busy_key whole s.who s.q s.told (c.is_there.ensures c.if-is_there.true) who file
    (subst (λ e. must_report whole who file e ≡ true) s.is h)
