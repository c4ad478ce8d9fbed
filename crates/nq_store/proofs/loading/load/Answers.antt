use Rattle.std.proofs.Common.{rules, ◌≡◌, Result, Ok, Err, sym, subst, inr}
use Rattle.nq_plan.specs.Held.{HeldTables}
use Rattle.nq_store.specs.Loading.{OpensTables}
use Rattle.nq_store.specs.declared.fault.Fault.{Fault}
use Rattle.nq_store.specs.declared.fault.Fault.TheVariants.{BadField}
use Rattle.nq_store.proofs.Told.{first-numbers, front-loads, loads-opens}
use Rattle.nq_store.proofs.Asked.{asked-none}
use Rattle.nq_store.proofs.loading.load.Goals as goal

pub returns-in_err-front-clause-told : goal.returns-in_err-front-clause-told
returns-in_err-front-clause-told g c = λ bytes is shut so.
    let disk = c.args.disk.now in
    let place = c.in_err-front.field-0.0 in
    let from : c.from_residual.result ≡ Err (BadField place) = search rules in
    subst (λ (r : Result HeldTables Fault). OpensTables r bytes (g.D.Disk.told disk) (g.D.Disk.may_leave disk)) (sym from)
    (front-loads bytes c.args.head.now place so (first-numbers bytes c.args.head.now c.piece.result.now (Err place) so c.piece.ensures.bytes
    c.in_err-front.ensures.told))

pub returns-clause-told : goal.returns-clause-told
returns-clause-told g c = λ bytes is shut so.
    let first = c.args.disk.now in
    let last = c.load_behind.new.disk in
    let front = c.in_ok-front.front in
    loads-opens c.load_behind.result bytes (g.D.Disk.told first) (g.D.Disk.told last) (g.D.Disk.may_leave first) (g.D.Disk.may_leave last) is
    c.load_behind.ensures.asked.same
    (λ image left. c.load_behind.ensures.asked.leaves image (g.met.D.Disk.leaves_ends first last image c.load_behind.ensures.asked.follows (inr left))) shut
    (c.load_behind.ensures.told bytes is (record {
      head_is = so;
      front_is = first-numbers bytes c.args.head.now c.piece.result.now (Ok front) so
          c.piece.ensures.bytes c.in_ok-front.ensures.told;
    }))

pub returns-in_err-front-clause-asked : goal.returns-in_err-front-clause-asked
returns-in_err-front-clause-asked g c =
    asked-none g.D.Disk.told g.D.Disk.follows g.D.Disk.may_leave g.D.Disk.leaves g.met.D.Disk.follows_itself g.met.D.Disk.leaves_now c.args.disk.now
