use Rattle.std.proofs.Common.{◌≡◌, sym, subst, refl}
use Rattle.std.proofs.lemmas.Bool.{false≢true}
use Rattle.nq_base.specs.Name.{IsName}
use Rattle.nq_script.specs.Heads.{file_line, IsFile}
use Rattle.nq_script.proofs.HeadReading.{file-none, file-found, file-same}
use Rattle.nq_script.proofs.heads.read_file.Goals as goal

pub returns-in_default-clause-none : goal.returns-in_default-clause-none
returns-in_default-clause-none c = λ _ f is spelled. file-none c.args.line.now (sym c.in_default.ensures) f is spelled

pub returns-in-Some-new-clause-found : goal.returns-in-Some-new-clause-found
returns-in-Some-new-clause-found c =
    let found = file-found c.args.line.now (c.in-Some.word.now, c.in-Some.length) (sym c.in-Some.ensures) in
    subst (λ n. (c.args.line.now ≡ file_line (n, c.in-Some.length)) × IsFile (n, c.in-Some.length)) (sym c.in-Some-new.ensures.bytes)
    (found.0, (c.in-Some-new.ensures.name.0 refl, found.1, found.2))

pub returns-in-None-clause-none : goal.returns-in-None-clause-none
returns-in-None-clause-none c = λ _ f is spelled.
    let same = file-same c.args.line.now (c.in-Some.word.now, c.in-Some.length) f (sym c.in-Some.ensures) is spelled in
    false≢true (c.in-None.ensures.name.1 (subst (λ g. IsName g.0) (sym same) is.0))
