use Rattle.std.proofs.Common.{◌∙◌, refl, subst, sym}
use Rattle.nq_directory.specs.Files.{IsNext, IsRead, IsUpTo}
use Rattle.nq_name_server.specs.Served.{is_in}
use Rattle.nq_names.proofs.Keeping.{reads-nothing, reads-on}
use Rattle.nq_names.proofs.world.NameWorld.leaf.Goals as goal

pub files-init : goal.files-init
files-init g c = record {
  still = reads-nothing g.K.Keeper.content g.K.Keeper.faults g.K.Keeper.follows c.args.self.now g.met.K.Keeper.follows_itself;
  far = λ kept is. subst (IsUpTo kept.files (is_in c.args.prefix.now) c.args.after) (sym c.in_ok-leaf.ensures) (record { names = refl; on = refl });
}

pub returns-then-read_leaf-clause-told : goal.returns-then-read_leaf-clause-told
returns-then-read_leaf-clause-told g c = λ kept is.
    let inv = c.files.invariant in
    let within = g.met.K.Keeper.within c.args.self.now.inner.server.keeper kept is in
    let next = subst (λ a. IsNext kept a c.in_ok-next.next) c.last.ensures (c.in_ok-next.ensures.told kept (inv.still.tells ∙ is)) in
    subst (λ b. IsRead b kept.files (is_in c.args.prefix.now) c.args.after c.read_leaf.new.leaf) c.if-read_leaf.true (c.read_leaf.ensures kept c.args.after within next
    (inv.far kept is))

pub files-preserved : goal.files-preserved
files-preserved g c =
    let inv = c.files.invariant in
    record {
      still = reads-on g.K.Keeper.content g.K.Keeper.faults g.K.Keeper.follows c.args.self.now c.files.self c.next_file.new.self
          g.met.K.Keeper.follows_on inv.still c.in_ok-next.ensures.reads;
      far = λ kept is.
          let within = g.met.K.Keeper.within c.args.self.now.inner.server.keeper kept is in
          let next = subst (λ a. IsNext kept a c.in_ok-next.next) c.last.ensures (c.in_ok-next.ensures.told kept (inv.still.tells ∙ is)) in
          subst (λ b. IsRead b kept.files (is_in c.args.prefix.now) c.args.after c.read_leaf.new.leaf) c.if-read_leaf.false (c.read_leaf.ensures kept c.args.after within
          next (inv.far kept is));
    }
