use Rattle.std.proofs.Common.{◌≡◌, ◌++◌, List, ℕ, length, ap, ◌∙◌, append_assoc}
use Rattle.std.specs.Int.{w32, w64, to_be_bytes}
use Rattle.nq_disk.proofs.redo.batch.push_range.Goals as goal

pub returns : goal.returns
returns c =
    let added = rw c.unwrap.ensures at c.extend_from_slice.ensures.items in
    let place = c.to_be_bytes.ensures in
    let one : c.extend_from_slice.new.self.items ≡ c.args.body.now.items ++ to_be_bytes w64 c.args.place = cc in
    let added-2 = rw c.unwrap-2.ensures at c.extend_from_slice-2.ensures.items in
    let count = c.to_be_bytes-2.ensures in
    let two : c.extend_from_slice-2.new.self.items ≡ c.extend_from_slice.new.self.items ++ to_be_bytes w32 (length c.args.bytes.now) = cc in
    let three : c.extend_from_slice-3.new.self.items ≡ c.extend_from_slice-2.new.self.items ++ c.args.bytes.now = rw c.unwrap-3.ensures at
    c.extend_from_slice-3.ensures.items in
    three
    ∙ ap (λ (b : List ℕ). b ++ c.args.bytes.now) (two ∙ ap (λ (b : List ℕ). b ++ to_be_bytes w32 (length c.args.bytes.now)) one)
    ∙ append_assoc (c.args.body.now.items ++ to_be_bytes w64 c.args.place) (to_be_bytes w32 (length c.args.bytes.now)) c.args.bytes.now
    ∙ append_assoc c.args.body.now.items (to_be_bytes w64 c.args.place) (to_be_bytes w32 (length c.args.bytes.now) ++ c.args.bytes.now)
