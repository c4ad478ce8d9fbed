use Rattle.std.proofs.Common.{◌+◌, ◌∙◌, sym, ap, refl, codes}
use Rattle.std.proofs.lemmas.Slice.Eq.{bytes_eq-Decides}
use Rattle.std.proofs.lemmas.Bool.{both_ways}
use Rattle.nq_script.proofs.FileLines.{files-no-line, files-no-file, files-begin, files-more, after-shorter}
use Rattle.nq_script.proofs.heads.read_files.Goals as goal

pub returns-in_default : goal.returns-in_default
returns-in_default c =
    files-no-line c.args.first c.args.text.now c.lines.files c.lines.rest.now (c.args.first + c.len.result) c.lines.invariant.split c.lines.invariant.fit
    (ap (λ n. c.args.first + n) c.len.ensures) (sym c.in_default.ensures)

pub returns-then-eq : goal.returns-then-eq
returns-then-eq c = (
  c.lines.invariant.fit,
  files-begin c.args.text.now c.lines.files c.lines.rest.now c.in-Some.line.now c.in-Some.after.now c.lines.invariant.split
      (sym c.in-Some.ensures) ((bytes_eq-Decides c.in-Some.line.now (codes "begin")).0 (sym c.eq.ensures ∙ c.if-eq.true)),
)

pub returns-in_default-next_file : goal.returns-in_default-next_file
returns-in_default-next_file c =
    files-no-file c.args.first c.args.text.now c.lines.files c.lines.rest.now c.in-Some.line.now c.in-Some.after.now (c.args.first + c.len.result)
    c.lines.invariant.split
    c.lines.invariant.fit (ap (λ n. c.args.first + n) c.len.ensures) (sym c.in-Some.ensures)
    (λ begin. both_ways c.eq.result c.if-eq.false (c.eq.ensures ∙ (bytes_eq-Decides c.in-Some.line.now (codes "begin")).1 begin))
    (c.in_default-next_file.ensures.none refl)

pub lines-smaller : goal.lines-smaller
lines-smaller c = after-shorter c.lines.rest.now c.in-Some.line.now c.in-Some.after.now (sym c.in-Some.ensures)

pub lines-preserved : goal.lines-preserved
lines-preserved c =
    let more = files-more c.args.text.now c.lines.files c.push.new.self c.lines.rest.now c.in-Some.line.now c.in-Some.after.now _ c.lines.total
    c.lines.invariant.split (sym c.in-Some.ensures) c.in-Some-next_file.ensures.found c.lines.invariant.sum c.in_ok-push.ensures.ok in
    record { split = more.0; fit = more.1; sum = more.2 }
