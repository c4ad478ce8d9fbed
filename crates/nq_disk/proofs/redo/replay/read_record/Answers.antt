use Rattle.std.proofs.Common.{◌∙◌, inr}
use Rattle.nq_disk.proofs.Reading.{no-more, read-whole}
use Rattle.nq_disk.proofs.redo.replay.read_record.Goals as goal

pub returns-in_err-len-clause-leaves : goal.returns-in_err-len-clause-leaves
returns-in_err-len-clause-leaves g c =
    no-more _ _ _ _ _
    (λ image left. g.met.D.Disk.parts c.args.disk.now c.sync.new.self c.size.new.self image c.sync.ensures.follows c.size.ensures.follows left)
    (λ image may. g.met.D.Disk.leaves_ends c.args.disk.now c.sync.new.self image c.sync.ensures.follows (inr may))
    c.sync.ensures.leaves c.size.ensures.leaves

pub returns-in_err-read-clause-leaves : goal.returns-in_err-read-clause-leaves
returns-in_err-read-clause-leaves g c =
    let until_size = g.met.D.Disk.follows_on c.args.disk.now c.sync.new.self c.size.new.self c.sync.ensures.follows c.size.ensures.follows in
    no-more _ (g.D.Disk.may_leave c.size.new.self) _ _ _
    (λ image left. g.met.D.Disk.parts c.args.disk.now c.size.new.self c.read.new.self image until_size c.read.ensures.follows left)
    (λ image may. g.met.D.Disk.leaves_ends c.args.disk.now c.size.new.self image until_size (inr may))
    (no-more _ (g.D.Disk.may_leave c.sync.new.self) _ _ _
    (λ image left. g.met.D.Disk.parts c.args.disk.now c.sync.new.self c.size.new.self image c.sync.ensures.follows c.size.ensures.follows left)
    (λ image may. g.met.D.Disk.leaves_ends c.args.disk.now c.sync.new.self image c.sync.ensures.follows (inr may))
    c.sync.ensures.leaves c.size.ensures.leaves)
    c.read.ensures.leaves

pub returns-clause-leaves : goal.returns-clause-leaves
returns-clause-leaves g c =
    let until_size = g.met.D.Disk.follows_on c.args.disk.now c.sync.new.self c.size.new.self c.sync.ensures.follows c.size.ensures.follows in
    no-more _ (g.D.Disk.may_leave c.size.new.self) _ _ _
    (λ image left. g.met.D.Disk.parts c.args.disk.now c.size.new.self c.read.new.self image until_size c.read.ensures.follows left)
    (λ image may. g.met.D.Disk.leaves_ends c.args.disk.now c.size.new.self image until_size (inr may))
    (no-more _ (g.D.Disk.may_leave c.sync.new.self) _ _ _
    (λ image left. g.met.D.Disk.parts c.args.disk.now c.sync.new.self c.size.new.self image c.sync.ensures.follows c.size.ensures.follows left)
    (λ image may. g.met.D.Disk.leaves_ends c.args.disk.now c.sync.new.self image c.sync.ensures.follows (inr may))
    c.sync.ensures.leaves c.size.ensures.leaves)
    c.read.ensures.leaves

pub returns-clause-long : goal.returns-clause-long
returns-clause-long g c = λ old told. c.in_ok-len.ensures.told old (c.sync.ensures.same ∙ told)

pub returns-clause-record : goal.returns-clause-record
returns-clause-record g c = λ old told long.
    read-whole c.args.area old c.read.new.into c.in_ok-read.field-0 (c.read.auto.into ∙ c.requires) long (c.in_ok-read.ensures.told old
    (c.size.ensures.same ∙ c.sync.ensures.same ∙ told))

pub returns-clause-settles : goal.returns-clause-settles
returns-clause-settles g c = λ old told image may.
    c.in_ok-sync.ensures.settles old told image
    (c.size.ensures.leaves image (g.met.D.Disk.leaves_ends c.sync.new.self c.size.new.self image c.size.ensures.follows
    (inr (c.read.ensures.leaves image (g.met.D.Disk.leaves_ends c.size.new.self c.read.new.self image c.read.ensures.follows (inr may))))))
