use Rattle.std.proofs.Common.{◌≤◌, refl, ap, ◌∙◌, arith, length}
use Rattle.nq_script.proofs.Printing.{file-printed}
use Rattle.nq_script.proofs.print.append_files.Goals as goal
use Rattle.nq_script.proofs.print.append_files.Goals.{in-Some+in_ok-append_file, in_default}

pub loop-place-preserved : goal.loop-place-preserved
loop-place-preserved c = elim c.match-get.branch [
  | in-Some+in_ok-append_file w ↦
      file-printed c.args.text.now.items c.loop-place.text.items c.match-get.text.items c.args.files.now c.loop-place.place (
        w.in-Some.name.now,
        w.in-Some.length,
      )
      c.loop-place.invariant w.in-Some.ensures.some (ap (λ t. t.items) w.text-is ∙ w.in_ok-append_file.ensures)
  | in_default w ↦ (let past : length c.args.files.now ≤ c.loop-place.place = w.in_default.ensures.none.0 refl in absurd (omega arith))
]
