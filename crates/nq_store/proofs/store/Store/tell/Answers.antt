use Rattle.std.proofs.Common.{◌≡◌, ℕ, true, false, refl, sym, ◌∙◌}
use Rattle.nq_store.specs.Laws.{goes-itself}
use Rattle.nq_store.proofs.Asking.{refused-answer, refused-follows, refused-leaves, refused-reads, refused-store, told-leaves, told-ok, told-store}
use Rattle.nq_store.proofs.store.Store.tell.Goals as goal

pub returns-then-has_ended-clause-answer : goal.returns-then-has_ended-clause-answer
returns-then-has_ended-clause-answer g c =
    let is : c.has_ended.result ≡ true = cc in
    refused-answer c.args.self.now c.refuse.new.self (sym c.has_ended.ensures.ended ∙ is) c.refuse.ensures.counted c.args.answer

pub returns-then-has_ended-clause-store : goal.returns-then-has_ended-clause-store
returns-then-has_ended-clause-store g c =
    let is : c.has_ended.result ≡ true = cc in
    refused-store c.args.self.now c.refuse.new.self (sym c.has_ended.ensures.ended ∙ is) c.refuse.ensures.counted

pub returns-then-has_ended-clause-reads : goal.returns-then-has_ended-clause-reads
returns-then-has_ended-clause-reads g c =
    let is : c.has_ended.result ≡ true = cc in
    refused-reads c.args.self.now c.refuse.new.self (sym c.has_ended.ensures.ended ∙ is) c.refuse.ensures.counted ℕ g.D.Disk.told g.D.Disk.faults

pub returns-then-has_ended-clause-follows : goal.returns-then-has_ended-clause-follows
returns-then-has_ended-clause-follows g c =
    let is : c.has_ended.result ≡ true = cc in
    refused-follows c.args.self.now c.refuse.new.self (sym c.has_ended.ensures.ended ∙ is) c.refuse.ensures.counted g.D.Disk.faults g.D.Disk.follows
    g.met.D.Disk.follows_itself c.refuse.ensures.rises

pub returns-then-has_ended-clause-leaves : goal.returns-then-has_ended-clause-leaves
returns-then-has_ended-clause-leaves g c =
    let is : c.has_ended.result ≡ true = cc in
    refused-leaves c.args.self.now c.refuse.new.self (sym c.has_ended.ensures.ended ∙ is) c.refuse.ensures.counted g.D.Disk.told g.D.Disk.leaves

pub returns-clause-answer : goal.returns-clause-answer
returns-clause-answer g c =
    let is : c.has_ended.result ≡ false = cc in
    told-ok c.args.self.now c.args.self.now (sym c.has_ended.ensures.ended ∙ is) c.args.answer

pub returns-clause-store : goal.returns-clause-store
returns-clause-store g c =
    let is : c.has_ended.result ≡ false = cc in
    told-store c.args.self.now c.args.self.now (sym c.has_ended.ensures.ended ∙ is)

pub returns-clause-reads : goal.returns-clause-reads
returns-clause-reads g c = (refl, refl)

pub returns-clause-follows : goal.returns-clause-follows
returns-clause-follows g c = goes-itself g.D.Disk.faults g.D.Disk.follows g.met.D.Disk.follows_itself c.args.self.now

pub returns-clause-leaves : goal.returns-clause-leaves
returns-clause-leaves g c = told-leaves c.args.self.now g.D.Disk.told g.D.Disk.may_leave g.D.Disk.leaves c.has_ended.ensures.sound g.met.D.Disk.leaves_now
