use Rattle.std.proofs.Common.{sym, ◌∙◌, ap, is_some, refl}
use Rattle.nq_client_parts.specs.DirtyEntries.{delayed}
use Rattle.nq_client_parts.specs.declared.dirty.entries.Writes.{Writes}
use Rattle.nq_client_parts.proofs.OfEntries.{is_there, write_in-there}
use Rattle.nq_client_parts.proofs.dirty.entries.overwrite.Goals as goal

pub returns-in-Some-clause-found : goal.returns-in-Some-clause-found
returns-in-Some-clause-found c = is_there c.args.key.now c.args.entries.now.entries ∙ sym (ap is_some c.in-Some.ensures.value)

pub returns-in-Some-clause-written : goal.returns-in-Some-clause-written
returns-in-Some-clause-written c = λ _.
    let before : Writes = c.in-Some.writes.now in
    let after : Writes = record { first = before.first; last = c.args.number; body = c.args.body } in
    ap delayed (c.get_mut.follows.holds after).0
    ∙ write_in-there c.args.key.now c.args.number c.args.body before after c.args.entries.now.entries c.len-distinct.ensures.unique
    (sym c.in-Some.ensures.value) (refl, refl, refl)

pub returns-in-None-clause-found : goal.returns-in-None-clause-found
returns-in-None-clause-found c = is_there c.args.key.now c.args.entries.now.entries ∙ sym (ap is_some c.in-None.ensures.value)
