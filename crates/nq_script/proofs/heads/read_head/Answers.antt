use Rattle.std.proofs.Common.{◌+◌, ◌-◌, ◌∙◌, ap, sym, subst, length}
use Rattle.std.proofs.lemmas.Result.{err_from_is_err_and}
use Rattle.nq_script.specs.Heads.{first_file}
use Rattle.nq_script.specs.Progress.{WrongFile}
use Rattle.nq_script.specs.Schedule.{StandsInFront}
use Rattle.nq_script.proofs.HeadLines.{wrong-file, head-in-front}
use Rattle.nq_script.proofs.Passing.{passed}
use Rattle.nq_script.proofs.heads.read_head.Goals as goal

pub returns-in_err-files : goal.returns-in_err-files
returns-in_err-files c =
    let settings = c.in_ok-settings.ensures in
    passed c.from_residual-in_err-files.result _ _ _ _ (err_from_is_err_and c.from_residual-in_err-files.result c.from_residual-in_err-files.ensures.1)
    c.in_err-files.ensures
    (λ place said. wrong-file c.args.lines.now c.in_ok-settings.rest.now _ _ _ _ place settings.0 settings.1
    (subst (λ f. WrongFile f c.in_ok-settings.rest.now place) c.first_file-first.ensures said))

pub returns : goal.returns
returns c =
    let settings = c.in_ok-settings.ensures in
    let files = c.in_ok-files.ensures in
    subst (λ h. StandsInFront h (c.first_file-first.result + c.len.result) (length c.args.lines.now - length c.in_ok-files.rest.now) c.args.lines.now)
    (sym c.with_files.ensures)
    (head-in-front c.args.lines.now c.in_ok-settings.rest.now c.in_ok-files.rest.now (record {
      version = c.in_ok-settings.settings.version;
      hosts = c.in_ok-settings.settings.hosts;
      term = c.in_ok-settings.settings.term;
      longest = c.in_ok-settings.settings.longest;
      files = c.in_ok-files.files;
    }) (c.first_file-first.result + c.len.result) settings.0 settings.1 files.0
    files.1 (ap (λ n. n + c.len.result) c.first_file-first.ensures ∙ ap (λ n. first_file c.in_ok-settings.settings.version + n) c.len.ensures))
