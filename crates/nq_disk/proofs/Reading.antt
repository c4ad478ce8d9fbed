-- A record, read, and what a stop leaves meanwhile.
use Rattle.std.proofs.Common.{◌≡◌, ◌⊎◌, ℕ, ◌+◌, ◌≤◌, List, length, take, drop, sym, ap, ◌∙◌, arith}
use Rattle.std.proofs.lemmas.List.{take_all}
use Rattle.nq_disk.specs.Calling.{LeavesNoMore, ReadsFront}
use Rattle.nq_disk.specs.Whole.{record_of}
use Rattle.nq_disk.specs.declared.redo.area.Area.{Area}
use Rattle.nq_disk.proofs.RedoGoing.{through}

-- two steps that leave no more
pub no-more : (may may_then first second both : List ℕ → Type 0) → ((image : List ℕ) → both image → first image ⊎ second image)
    → ((image : List ℕ) → may_then image → first image) → LeavesNoMore may first → LeavesNoMore may_then second → LeavesNoMore may both
no-more may may_then first second both parts ends one two image left =
    through may (first image) (second image) image (parts image left) (one image) (λ l. one image (ends image (two image l)))

pub read-whole : (area : Area) (old into : List ℕ) (count : ℕ) → length into ≡ area.size → area.place + area.size ≤ length old
    → ReadsFront count area.place old into → into ≡ record_of area old
read-whole area old into count whole long reads =
    let number = reads.number in
    let all : count ≡ area.size = omega arith in
    sym (take_all count into (omega arith)) ∙ reads.front ∙ ap (λ (n : ℕ). take n (drop area.place old)) all
