use Rattle.std.proofs.Common.{◌≡◌, arith}
use Rattle.std.specs.List.{prefix_len}
use Rattle.nq_directory.specs.Names.{is_before}
use Rattle.nq_directory.proofs.Putting.{fits, fronted}
use Rattle.nq_directory.proofs.listed.put_entry.Goals as goal

pub insert_front-requires-clause-place : goal.insert_front-requires-clause-place
insert_front-requires-clause-place c =
    let same = c.as_slice.ensures in
    let placed = c.place_of-place.ensures in
    let at : c.place_of-place.result ≡ prefix_len (is_before c.args.entry.now.name) c.args.names.now.items = cc in
    let fit = fits c.args.skip c.args.entry.now c.args.fronts.now.items c.args.names.now.items c.place_of-place.result c.requires.fronted at in
    omega arith

pub returns-clause-fronted : goal.returns-clause-fronted
returns-clause-fronted c =
    let same = c.as_slice.ensures in
    let placed = c.place_of-place.ensures in
    let at : c.place_of-place.result ≡ prefix_len (is_before c.args.entry.now.name) c.args.names.now.items = cc in
    fronted c.args.skip c.args.entry.now c.args.fronts.now.items c.insert_front.new.fronts.items c.args.names.now.items c.put_at.new.names.items
    c.place_of-place.result c.front_of-front.result
    c.requires.fronted c.front_of-front.ensures at c.insert_front.ensures.items c.put_at.ensures.items c.put_at.ensures.order
