use Rattle.std.proofs.Common.{ℕ, List, Result, Err, Vec, Global, sym, ap, subst, ◌∙◌, arith}
use Rattle.nq_image.specs.Check.{tested}
use Rattle.nq_image.specs.Layout.{block_place}
use Rattle.nq_image.specs.Reading.{Reads}
use Rattle.nq_image.specs.Tables.{tables_blocks, tables_checks}
use Rattle.nq_plan.proofs.Shifting.{blocks-told-later, marks-later, reads-moved, shifted}
use Rattle.nq_plan.specs.Reading.{IsMoved}
use Rattle.nq_plan.proofs.reading.read_all_blocks.Goals as goal

pub returns-in-Ok-clause-told : goal.returns-in-Ok-clause-told
returns-in-Ok-clause-told c = λ bytes is.
    blocks-told-later c.args.slots.now c.args.tables (block_place c.args.tables) c.args.marks.now bytes c.args.window.now (omega (arith, c.requires.few)) is
    ∙ ap (shifted (block_place c.args.tables)) c.in-Ok.ensures.told

pub returns-in-Ok-clause-marks : goal.returns-in-Ok-clause-marks
returns-in-Ok-clause-marks c = λ bytes is.
    c.in-Ok.ensures.marks ∙ sym (marks-later c.args.slots.now c.args.tables (block_place c.args.tables) c.args.marks.now bytes c.args.window.now
    (omega (arith, c.requires.few)) is)

pub returns-in-Err-clause-told : goal.returns-in-Err-clause-told
returns-in-Err-clause-told c = λ bytes is.
    let start = block_place c.args.tables in
    let told = tested (tables_checks c.args.tables 0 c.args.slots.now c.args.marks.now c.args.window.now) (tables_blocks 0 c.args.slots.now
    c.args.window.now) in
    let Told : Result (List ℕ) ℕ → Type 0 = λ t. Reads (λ (blocks : Vec ℕ Global). blocks.items) (Err c.moved.result) t in
    let From : ℕ → Type 0 = λ n. IsMoved n c.in-Err.fault c.moved.result in
    subst Told (sym (blocks-told-later c.args.slots.now c.args.tables start c.args.marks.now bytes c.args.window.now (omega (arith, c.requires.few)) is))
    (reads-moved (λ (blocks : Vec ℕ Global). blocks.items) start c.in-Err.fault c.moved.result told c.in-Err.ensures.told
    (subst From c.block_place.ensures c.moved.ensures))
