use Rattle.std.proofs.Common.{◌∙◌, ◌++◌, ap, sym}
use Rattle.std.proofs.lemmas.List.{append-nil}
use Rattle.nq_replay.proofs.Lining.{asides-end, asides-more, plain-end, plain-more}
use Rattle.nq_script.proofs.FileLines.{after-shorter}
use Rattle.nq_replay.proofs.asides.scripts.push_lines.Goals as goal

pub lines-smaller : goal.lines-smaller
lines-smaller g c = after-shorter c.lines.rest.now c.in-Some.line.now c.in-Some.after.now (sym c.in-Some.ensures)

pub lines-preserved : goal.lines-preserved
lines-preserved g c =
    let read = g.A.AsideLine.said c.args.hosts in
    record {
      plain = plain-more read c.lines.bytes.items _ c.lines.rest.now c.in-Some.line.now c.in-Some.after.now (sym c.in-Some.ensures)
          c.in_ok-push_line.ensures.plain ∙ c.lines.invariant.plain;
      asides = asides-more read c.lines.asides.items _ c.lines.rest.now c.in-Some.line.now c.in-Some.after.now (sym c.in-Some.ensures)
          c.in_ok-push_line.ensures.aside ∙ c.lines.invariant.asides;
    }

pub returns-in_default-clause-plain : goal.returns-in_default-clause-plain
returns-in_default-clause-plain g c =
    let read = g.A.AsideLine.said c.args.hosts in
    c.in_ok-extend_from_slice.ensures.items ∙ ap (λ r. c.lines.bytes.items ++ r) (sym (plain-end read c.lines.rest.now (sym c.in_default.ensures)))
    ∙ c.lines.invariant.plain

pub returns-in_default-clause-asides : goal.returns-in_default-clause-asides
returns-in_default-clause-asides g c =
    let read = g.A.AsideLine.said c.args.hosts in
    sym (append-nil c.lines.asides.items) ∙ ap (λ s. c.lines.asides.items ++ s) (sym (asides-end read c.lines.rest.now (sym c.in_default.ensures)))
    ∙ c.lines.invariant.asides
