use Rattle.std.proofs.Common.{◌≡◌, ◌∙◌, ◌++◌, ◌∷◌, [], sym, refl, arith, subst}
use Rattle.nq_script.specs.Text.{text_of}
use Rattle.nq_script.proofs.FileLines.{no-line, one-line, text-more}
use Rattle.nq_script.proofs.HeadReading.{ranged-found, ranged-none}
use Rattle.nq_script.proofs.heads.ranged_line.Goals as goal

pub returns-in_default : goal.returns-in_default
returns-in_default c = (refl, λ value line after low high split lacks spelled. no-line c.args.text.now line after (sym c.in_default.ensures) split lacks)

pub returns-in-Some-ranged : goal.returns-in-Some-ranged
returns-in-Some-ranged c =
    let found = ranged-found c.args.prefix.now c.args.least c.args.most c.in-Some.line.now c.in-Some-ranged.value (omega arith)
    (sym c.in-Some-ranged.ensures) in (
      found.1,
      found.2,
      subst (λ l. c.args.text.now ≡ text_of (l ∷ []) ++ c.in-Some.rest.now) found.0
          (text-more c.args.text.now [] c.args.text.now c.in-Some.line.now c.in-Some.rest.now refl (sym c.in-Some.ensures)),
    )

pub returns-in-None : goal.returns-in-None
returns-in-None c = (
  refl,
  λ value line after low high split lacks spelled.
      ranged-none c.args.prefix.now c.args.least c.args.most c.in-Some.line.now (omega arith) (sym c.in-None.ensures) value low high
      ((one-line c.args.text.now c.in-Some.line.now c.in-Some.rest.now line after (sym c.in-Some.ensures) split lacks).0 ∙ spelled),
)
