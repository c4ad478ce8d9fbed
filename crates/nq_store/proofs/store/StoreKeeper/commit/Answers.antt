use Rattle.std.proofs.Common.{◌≡◌, true, sym, ◌∙◌}
use Rattle.nq_store.proofs.Asking.{one-two, refused-commits, refused-stays, told-leaves}
use Rattle.nq_store.proofs.Bodies.{ended-told}
use Rattle.nq_store.proofs.store.StoreKeeper.commit.Goals as goal

pub returns-then-has_ended-clause-commits : goal.returns-then-has_ended-clause-commits
returns-then-has_ended-clause-commits g c =
    let is : c.has_ended.result ≡ true = cc in
    refused-commits c.tell.result c.args.change c.args.self.now.ended _ _ _ _ (sym c.has_ended.ensures.ended ∙ is) c.tell.ensures.answer c.tell.ensures.reads

pub returns-then-has_ended-clause-leaves : goal.returns-then-has_ended-clause-leaves
returns-then-has_ended-clause-leaves g c =
    let is : c.has_ended.result ≡ true = cc in
    ended-told c.args.self.now.ended (g.D.Disk.told c.args.self.now.disk) _ (sym c.has_ended.ensures.ended ∙ is)

pub returns-clause-leaves : goal.returns-clause-leaves
returns-clause-leaves g c =
    one-two c.args.change _ _ (told-leaves c.args.self.now g.D.Disk.told g.D.Disk.may_leave g.D.Disk.leaves c.has_ended.ensures.sound g.met.D.Disk.leaves_now)

pub returns-then-has_ended-clause-memory : goal.returns-then-has_ended-clause-memory
returns-then-has_ended-clause-memory g c =
    let is : c.has_ended.result ≡ true = cc in
    refused-stays c.tell.result c.args.self.now.ended c.args.self.now c.tell.new.self (sym c.has_ended.ensures.ended ∙ is) c.tell.ensures.answer
