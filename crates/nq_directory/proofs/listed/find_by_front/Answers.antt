use Rattle.std.proofs.lemmas.Bool.{iff_false}
use Rattle.nq_directory.proofs.ByFront.{found-front}
use Rattle.nq_directory.proofs.listed.find_by_front.Goals as goal

pub file_named-requires : goal.file_named-requires
file_named-requires c = c.requires.fronted.order

pub returns-else-is_at : goal.returns-else-is_at
returns-else-is_at c =
    found-front c.args.skip c.args.name.now c.args.names.now c.args.fronts.now c.front_of-front.result c.count_less-place.result c.file_at.result
    c.requires.rising c.requires.fronted.spelled c.front_of-front.ensures c.count_less-place.ensures.count
    (iff_false c.is_at.ensures c.if-is_at.false) c.file_at.ensures
