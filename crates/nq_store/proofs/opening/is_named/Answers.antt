use Rattle.std.proofs.Common.{rules, ◌≡◌, Bool, Result, Err, sym, subst, ◌∙◌, inr}
use Rattle.nq_plan.specs.Standing.{begins_as_image}
use Rattle.nq_store.specs.Loading.{Gives}
use Rattle.nq_store.specs.declared.fault.Fault.{Fault}
use Rattle.nq_store.proofs.Left.{only-still}
use Rattle.nq_store.proofs.Told.{gives-on}
use Rattle.nq_store.proofs.Asked.{asked-by, asked-then}
use Rattle.nq_store.proofs.opening.is_named.Goals as goal

pub returns-in_err-name-clause-told : goal.returns-in_err-name-clause-told
returns-in_err-name-clause-told g c = λ bytes is.
    let from : c.from_residual-in_err-name.result ≡ Err c.in_err-name.field-0.0 = search rules in
    subst (λ (r : Result Bool Fault). Gives r (λ named. named ≡ begins_as_image bytes)) (sym from)
    (gives-on c.in_err-name.field-0.0 _ (λ named. named ≡ begins_as_image bytes) (c.in_err-name.ensures.told bytes (c.size.ensures.same
    ∙ c.sync.ensures.same ∙ is)))

pub returns-then-size-lt-SHORTEST-clause-settles : goal.returns-then-size-lt-SHORTEST-clause-settles
returns-then-size-lt-SHORTEST-clause-settles g c =
    let mid = c.sync.new.self in
    let last = c.size.new.self in
    only-still (g.D.Disk.told c.args.disk.now) (g.D.Disk.may_leave mid) (g.D.Disk.may_leave last) c.in_ok-sync.ensures.settles
    (λ image left. c.size.ensures.leaves image (g.met.D.Disk.leaves_ends mid last image c.size.ensures.follows (inr left)))

pub returns-clause-settles : goal.returns-clause-settles
returns-clause-settles g c =
    let mid = c.sync.new.self in
    let two = c.size.new.self in
    let last = c.read_piece.new.disk in
    only-still (g.D.Disk.told c.args.disk.now) (g.D.Disk.may_leave two) (g.D.Disk.may_leave last)
    (only-still (g.D.Disk.told c.args.disk.now) (g.D.Disk.may_leave mid) (g.D.Disk.may_leave two) c.in_ok-sync.ensures.settles
    (λ image left. c.size.ensures.leaves image (g.met.D.Disk.leaves_ends mid two image c.size.ensures.follows (inr left))))
    (λ image left. c.read_piece.ensures.asked.leaves image (g.met.D.Disk.leaves_ends two last image c.read_piece.ensures.asked.follows (inr left)))

pub returns-in_err-sync-clause-asked : goal.returns-in_err-sync-clause-asked
returns-in_err-sync-clause-asked g c =
    asked-by g.D.Disk.told g.D.Disk.follows g.D.Disk.may_leave g.D.Disk.leaves c.args.disk.now c.sync.new.self c.sync.ensures.same
    c.sync.ensures.follows c.sync.ensures.leaves

pub returns-in_err-size-clause-asked : goal.returns-in_err-size-clause-asked
returns-in_err-size-clause-asked g c =
    asked-then g.D.Disk.told g.D.Disk.follows g.D.Disk.may_leave g.D.Disk.leaves g.met.D.Disk.follows_on g.met.D.Disk.leaves_ends g.met.D.Disk.parts
    c.args.disk.now c.sync.new.self c.size.new.self
    (asked-by g.D.Disk.told g.D.Disk.follows g.D.Disk.may_leave g.D.Disk.leaves c.args.disk.now c.sync.new.self c.sync.ensures.same
    c.sync.ensures.follows c.sync.ensures.leaves)
    (asked-by g.D.Disk.told g.D.Disk.follows g.D.Disk.may_leave g.D.Disk.leaves c.sync.new.self c.size.new.self c.size.ensures.same
    c.size.ensures.follows c.size.ensures.leaves)

pub returns-then-size-lt-SHORTEST-clause-asked : goal.returns-then-size-lt-SHORTEST-clause-asked
returns-then-size-lt-SHORTEST-clause-asked g c =
    asked-then g.D.Disk.told g.D.Disk.follows g.D.Disk.may_leave g.D.Disk.leaves g.met.D.Disk.follows_on g.met.D.Disk.leaves_ends g.met.D.Disk.parts
    c.args.disk.now c.sync.new.self c.size.new.self
    (asked-by g.D.Disk.told g.D.Disk.follows g.D.Disk.may_leave g.D.Disk.leaves c.args.disk.now c.sync.new.self c.sync.ensures.same
    c.sync.ensures.follows c.sync.ensures.leaves)
    (asked-by g.D.Disk.told g.D.Disk.follows g.D.Disk.may_leave g.D.Disk.leaves c.sync.new.self c.size.new.self c.size.ensures.same
    c.size.ensures.follows c.size.ensures.leaves)

pub returns-in_err-name-clause-asked : goal.returns-in_err-name-clause-asked
returns-in_err-name-clause-asked g c =
    asked-then g.D.Disk.told g.D.Disk.follows g.D.Disk.may_leave g.D.Disk.leaves g.met.D.Disk.follows_on g.met.D.Disk.leaves_ends g.met.D.Disk.parts
    c.args.disk.now c.size.new.self c.read_piece.new.disk
    (asked-then g.D.Disk.told g.D.Disk.follows g.D.Disk.may_leave g.D.Disk.leaves g.met.D.Disk.follows_on g.met.D.Disk.leaves_ends g.met.D.Disk.parts
    c.args.disk.now c.sync.new.self c.size.new.self
    (asked-by g.D.Disk.told g.D.Disk.follows g.D.Disk.may_leave g.D.Disk.leaves c.args.disk.now c.sync.new.self c.sync.ensures.same
    c.sync.ensures.follows c.sync.ensures.leaves)
    (asked-by g.D.Disk.told g.D.Disk.follows g.D.Disk.may_leave g.D.Disk.leaves c.sync.new.self c.size.new.self c.size.ensures.same
    c.size.ensures.follows c.size.ensures.leaves))
    c.read_piece.ensures.asked

pub returns-clause-asked : goal.returns-clause-asked
returns-clause-asked g c =
    asked-then g.D.Disk.told g.D.Disk.follows g.D.Disk.may_leave g.D.Disk.leaves g.met.D.Disk.follows_on g.met.D.Disk.leaves_ends g.met.D.Disk.parts
    c.args.disk.now c.size.new.self c.read_piece.new.disk
    (asked-then g.D.Disk.told g.D.Disk.follows g.D.Disk.may_leave g.D.Disk.leaves g.met.D.Disk.follows_on g.met.D.Disk.leaves_ends g.met.D.Disk.parts
    c.args.disk.now c.sync.new.self c.size.new.self
    (asked-by g.D.Disk.told g.D.Disk.follows g.D.Disk.may_leave g.D.Disk.leaves c.args.disk.now c.sync.new.self c.sync.ensures.same
    c.sync.ensures.follows c.sync.ensures.leaves)
    (asked-by g.D.Disk.told g.D.Disk.follows g.D.Disk.may_leave g.D.Disk.leaves c.sync.new.self c.size.new.self c.size.ensures.same
    c.size.ensures.follows c.size.ensures.leaves))
    c.read_piece.ensures.asked
