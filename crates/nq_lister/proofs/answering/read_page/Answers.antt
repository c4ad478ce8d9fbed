use Rattle.std.proofs.Common.{◌≡◌, ◌∙◌, Option, Result, Ok, Err, rules, subst, sym}
use Rattle.nq_base.specs.declared.FileRow.{FileRow}
use Rattle.nq_keeper.specs.declared.KeepFault.{KeepFault}
use Rattle.nq_directory.specs.Files.{IsNext, IsRead}
use Rattle.nq_directory.specs.declared.BegunLeaf.{BegunLeaf}
use Rattle.nq_lister.specs.Listing.{begins_with}
use Rattle.nq_lister.proofs.Keeping.{failed_as, read_as, reads_behind}
use Rattle.nq_serving.specs.Extending.{ReadsOnly}
use Rattle.nq_lister.proofs.answering.read_page.Goals as goal

pub returns-in_err-next-clause-reads : goal.returns-in_err-next-clause-reads
returns-in_err-next-clause-reads g c =
    let why = c.in_err-next.field-0.0 in
    let said = c.in_err-next.ensures in
    let is : c.from_residual-in_err-next.result ≡ Err why = search rules in
    let one : ReadsOnly {A = Option FileRow} g.K.Keeper.content g.K.Keeper.faults g.K.Keeper.follows g.K.Keeper.leaves (Err why) c.files.server c.next_file.new.self =
    record { untouched = said.untouched; reads = said.reads; same = said.follows; left = said.leaves } in
    let other : ReadsOnly {A = BegunLeaf} g.K.Keeper.content g.K.Keeper.faults g.K.Keeper.follows g.K.Keeper.leaves (Err why) c.files.server c.next_file.new.self =
    failed_as g.K.Keeper.content g.K.Keeper.faults g.K.Keeper.follows g.K.Keeper.leaves (Option FileRow) BegunLeaf why c.files.server c.next_file.new.self one in
    let all : ReadsOnly {A = BegunLeaf} g.K.Keeper.content g.K.Keeper.faults g.K.Keeper.follows g.K.Keeper.leaves (Err why) c.args.server.now c.next_file.new.self =
    reads_behind g.K.Keeper.content g.K.Keeper.faults g.K.Keeper.follows g.K.Keeper.leaves tt (Err why) c.args.server.now c.files.server c.next_file.new.self g.met.K.Keeper.follows_on g.met.K.Keeper.parts
    c.files.invariant.still other in
    subst (λ (r : Result BegunLeaf KeepFault). ReadsOnly g.K.Keeper.content g.K.Keeper.faults g.K.Keeper.follows g.K.Keeper.leaves r c.args.server.now c.next_file.new.self) (sym is) all

pub returns-then-read_on-clause-reads : goal.returns-then-read_on-clause-reads
returns-then-read_on-clause-reads g c =
    let said = c.in_ok-next.ensures in
    let one : ReadsOnly {A = Option FileRow} g.K.Keeper.content g.K.Keeper.faults g.K.Keeper.follows g.K.Keeper.leaves (Ok c.in_ok-next.next) c.files.server c.next_file.new.self =
    record { untouched = said.untouched; reads = said.reads; same = said.follows; left = said.leaves } in
    read_as g.K.Keeper.content g.K.Keeper.faults g.K.Keeper.follows g.K.Keeper.leaves c.in_ok-next.next c.read_on.new.page c.args.server.now c.next_file.new.self
    (reads_behind g.K.Keeper.content g.K.Keeper.faults g.K.Keeper.follows g.K.Keeper.leaves tt (Ok c.in_ok-next.next) c.args.server.now c.files.server c.next_file.new.self g.met.K.Keeper.follows_on
    g.met.K.Keeper.parts c.files.invariant.still one)

pub files-preserved : goal.files-preserved
files-preserved g c =
    let inv = c.files.invariant in
    let said = c.in_ok-next.ensures in
    let one : ReadsOnly {A = Option FileRow} g.K.Keeper.content g.K.Keeper.faults g.K.Keeper.follows g.K.Keeper.leaves (Ok c.in_ok-next.next) c.files.server c.next_file.new.self =
    record { untouched = said.untouched; reads = said.reads; same = said.follows; left = said.leaves } in
    record {
      still = read_as g.K.Keeper.content g.K.Keeper.faults g.K.Keeper.follows g.K.Keeper.leaves c.in_ok-next.next tt c.args.server.now c.next_file.new.self
          (reads_behind g.K.Keeper.content g.K.Keeper.faults g.K.Keeper.follows g.K.Keeper.leaves tt (Ok c.in_ok-next.next) c.args.server.now c.files.server c.next_file.new.self
          g.met.K.Keeper.follows_on g.met.K.Keeper.parts inv.still one);
      far = λ kept is.
          let within = g.met.K.Keeper.within c.args.server.now.keeper kept is in
          let next = subst (λ a. IsNext kept a c.in_ok-next.next) c.last.ensures (said.told kept (inv.still.reads.0 ∙ is)) in
          subst (λ b. IsRead b kept.files (begins_with c.args.request.now.prefix) c.args.request.now.after c.read_on.new.page) c.if-read_on.false
          (c.read_on.ensures kept c.args.request.now.after within next (inv.far kept is));
    }
