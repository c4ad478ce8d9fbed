use Rattle.std.proofs.Common.{◌≡◌, Some, None, length, refl, slice_get, sym}
use Rattle.std.proofs.lemmas.Option.{slice_get_past, slice_get_read}
use Rattle.nq_replay.proofs.Mixing.{aside-past, aside-told}
use Rattle.nq_replay.proofs.asides.aside.aside_at.Goals as goal

pub returns-in-Some : goal.returns-in-Some
returns-in-Some g c =
    let there : slice_get c.args.asides.now c.args.place ≡ Some c.in-Some.aside.now =
    slice_get_read c.args.asides.now (length c.args.asides.now) c.args.place c.in-Some.aside.now refl c.in-Some.ensures.lookup.3.0
    c.in-Some.ensures.lookup.1 in
    sym (aside-told c.args.asides.now c.args.place c.in-Some.aside.now there)

pub returns-in-None : goal.returns-in-None
returns-in-None g c =
    let absent : slice_get c.args.asides.now c.args.place ≡ None = slice_get_past c.args.asides.now c.args.place c.in-None.ensures.lookup.3 in
    sym (aside-past c.args.asides.now c.args.place absent)
