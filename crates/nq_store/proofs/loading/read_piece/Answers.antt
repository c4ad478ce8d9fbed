use Rattle.std.proofs.Common.{◌≡◌, ◌≤◌, List, ℕ, length, take, arith, ap, ◌∙◌}
use Rattle.nq_disk.proofs.Adding.{written-back}
use Rattle.nq_store.proofs.Told.{piece-read}
use Rattle.nq_store.proofs.Asked.{asked-by, asked-none}
use Rattle.nq_store.proofs.loading.read_piece.Goals as goal

pub returns-clause-told : goal.returns-clause-told
returns-clause-told g c = λ bytes is.
    let made = c.in_ok-bytes.bytes in
    let ok = made.ok.0 in
    let len = c.in_ok-bytes.ensures.len in
    let wrote : length c.read.new.into ≡ length made.items = c.read.auto.into ∙ ap length c.deref_mut.ensures.value in
    let fits : length made.items ≤ made.len = omega arith in
    let size : length c.read.new.into ≡ c.args.size = omega (arith, wrote, ok, len) in
    let back = written-back made.len c.read.new.into made.items wrote fits in
    piece-read c.in_ok-count.count c.args.place c.args.size bytes c.read.new.into c.truncate.new.self.items (c.in_ok-count.ensures.told bytes is) size
    (c.truncate.ensures.items ∙ ap (λ (b : List ℕ). take c.in_ok-count.count b) back)

pub returns-in_err-bytes-clause-asked : goal.returns-in_err-bytes-clause-asked
returns-in_err-bytes-clause-asked g c =
    asked-none g.D.Disk.told g.D.Disk.follows g.D.Disk.may_leave g.D.Disk.leaves g.met.D.Disk.follows_itself g.met.D.Disk.leaves_now c.args.disk.now

pub returns-in_err-count-clause-asked : goal.returns-in_err-count-clause-asked
returns-in_err-count-clause-asked g c =
    asked-by g.D.Disk.told g.D.Disk.follows g.D.Disk.may_leave g.D.Disk.leaves c.args.disk.now c.read.new.self c.read.ensures.same
    c.read.ensures.follows c.read.ensures.leaves

pub returns-clause-asked : goal.returns-clause-asked
returns-clause-asked g c =
    asked-by g.D.Disk.told g.D.Disk.follows g.D.Disk.may_leave g.D.Disk.leaves c.args.disk.now c.read.new.self c.read.ensures.same
    c.read.ensures.follows c.read.ensures.leaves
