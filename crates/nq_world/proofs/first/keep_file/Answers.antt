use Rattle.std.proofs.Common.{◌≡◌, ◌+◌, [], ◌∷◌, ◌++◌, suc, length, take, sym, subst, ap, ◌∙◌, arith}
use Rattle.std.proofs.lemmas.List.{length-take}
use Rattle.nq_keeper.specs.Keeping.{told_after}
use Rattle.nq_model.specs.protocol.Change.{Fits, IsChangeWithin}
use Rattle.nq_world.proofs.Firsts.{file-applied, file-fits, file-within, take-more, taken-fine, told-next, commit-told}
use Rattle.nq_world.specs.First.{AreFirstFiles, file_change, kept_first, told_as}
use Rattle.nq_world.proofs.first.keep_file.Goals as goal

pub commit-requires-clause-fits : goal.commit-requires-clause-fits
commit-requires-clause-fits g c = λ kept told.
    let files = c.args.files.now in
    let place = c.args.place in
    let front : take (suc place) files ≡ take place files ++ (c.in-Some.name.now, c.in-Some.blocks) ∷ [] = take-more files place (
      c.in-Some.name.now,
      c.in-Some.blocks,
    ) c.in-Some.ensures.some in
    let below = c.requires.below in
    let size : length (take place files) ≡ place = omega (arith, length-take place files) in
    let is : c.file_change-change.result ≡ file_change c.args.longest (length (take place files) + 1) (c.in-Some.name.now, c.in-Some.blocks) =
    c.file_change-change.ensures ∙ ap (λ n. file_change c.args.longest (n + 1) (c.in-Some.name.now, c.in-Some.blocks)) (sym size) in
    subst (Fits kept) (sym is)
    (subst (λ k. Fits k (file_change c.args.longest (length (take place files) + 1) (c.in-Some.name.now, c.in-Some.blocks))) (sym (c.requires.told kept told))
    (file-fits c.args.longest (take place files) (c.in-Some.name.now, c.in-Some.blocks) (subst AreFirstFiles front (taken-fine (suc place) files
    c.requires.fine))))

pub commit-requires-clause-within : goal.commit-requires-clause-within
commit-requires-clause-within g c = λ kept told.
    let files = c.args.files.now in
    let place = c.args.place in
    let front : take (suc place) files ≡ take place files ++ (c.in-Some.name.now, c.in-Some.blocks) ∷ [] = take-more files place (
      c.in-Some.name.now,
      c.in-Some.blocks,
    ) c.in-Some.ensures.some in
    let below = c.requires.below in
    let size : length (take place files) ≡ place = omega (arith, length-take place files) in
    let is : c.file_change-change.result ≡ file_change c.args.longest (length (take place files) + 1) (c.in-Some.name.now, c.in-Some.blocks) =
    c.file_change-change.ensures ∙ ap (λ n. file_change c.args.longest (n + 1) (c.in-Some.name.now, c.in-Some.blocks)) (sym size) in
    subst (IsChangeWithin kept) (sym is)
    (subst (λ k. IsChangeWithin k (file_change c.args.longest (length (take place files) + 1) (c.in-Some.name.now, c.in-Some.blocks)))
    (sym (c.requires.told kept told))
    (file-within c.args.longest (take place files) (c.in-Some.name.now, c.in-Some.blocks) c.requires.long c.requires.short (subst AreFirstFiles front
    (taken-fine (suc place) files c.requires.fine))))

pub returns-clause-told : goal.returns-clause-told
returns-clause-told g c =
    let files = c.args.files.now in
    let place = c.args.place in
    let told = g.K.Keeper.content c.args.keeper.now in
    let front : take (suc place) files ≡ take place files ++ (c.in-Some.name.now, c.in-Some.blocks) ∷ [] = take-more files place (
      c.in-Some.name.now,
      c.in-Some.blocks,
    ) c.in-Some.ensures.some in
    let below = c.requires.below in
    let size : length (take place files) ≡ place = omega (arith, length-take place files) in
    let same : suc place ≡ place + 1 = omega arith in
    let is : c.file_change-change.result ≡ file_change c.args.longest (length (take place files) + 1) (c.in-Some.name.now, c.in-Some.blocks) =
    c.file_change-change.ensures ∙ ap (λ n. file_change c.args.longest (n + 1) (c.in-Some.name.now, c.in-Some.blocks)) (sym size) in
    commit-told c.commit.result c.file_change-change.result told (g.K.Keeper.content c.commit.new.self) (g.K.Keeper.faults c.args.keeper.now)
    (g.K.Keeper.faults c.commit.new.self) (told_as (kept_first c.args.longest (take (place + 1) files) 0) told) c.commit.ensures.commits
    (subst (λ change. told_after change told ≡ told_as (kept_first c.args.longest (take (place + 1) files) 0) told) (sym is)
    (told-next told (kept_first c.args.longest (take place files) 0) (kept_first c.args.longest (take (place + 1) files) 0)
    (file_change c.args.longest (length (take place files) + 1) (c.in-Some.name.now, c.in-Some.blocks)) c.requires.told
    (file-applied c.args.longest (take place files) (c.in-Some.name.now, c.in-Some.blocks) ∙ ap (λ fs. kept_first c.args.longest fs 0) (sym front
    ∙ ap (λ n. take n files) same))))
