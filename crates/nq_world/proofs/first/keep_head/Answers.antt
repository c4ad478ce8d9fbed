use Rattle.std.proofs.Common.{◌≡◌, []}
use Rattle.nq_world.proofs.Firsts.{told-told, told-on, made-so}
use Rattle.nq_world.specs.First.{kept_first, told_as}
use Rattle.nq_world.proofs.first.keep_head.Goals as goal

pub returns-clause-told : goal.returns-clause-told
returns-clause-told g c = λ term.
    let longest = c.args.longest in
    let files = c.args.files.now in
    let told = g.K.Keeper.content c.args.keeper.now in
    let some = g.K.Keeper.content c.keep_longest.new.keeper in
    let more = g.K.Keeper.content c.keep_files.new.keeper in
    let tells = g.K.Keeper.content c.keep_hosts.new.keeper in
    let both : more ≡ told_as (kept_first longest files 0) told = told-on told some more (kept_first longest [] 0) (kept_first longest files 0)
    c.in_ok-keep_longest.ensures.told c.in_ok-keep_files.ensures.told in
    made-so c.keep_hosts.result (tells ≡ told_as (kept_first longest files c.args.hosts) more) (tells ≡ told_as (kept_first longest files c.args.hosts) told)
    (λ e. told-on told more tells (kept_first longest files 0) (kept_first longest files c.args.hosts) both e)
    (c.keep_hosts.ensures.told longest files (told-told told more (kept_first longest files 0) both))
