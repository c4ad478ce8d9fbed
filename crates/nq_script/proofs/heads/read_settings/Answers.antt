use Rattle.std.proofs.Common.{◌≤◌, ◌∷◌, [], sym, subst, codes}
use Rattle.std.proofs.lemmas.Result.{err_from_is_err_and}
use Rattle.nq_script.specs.Heads.{version_line, hosts_line, term_line, longest_lines}
use Rattle.nq_script.specs.Progress.{NoNumber}
use Rattle.nq_script.specs.Schedule.{FirstBadHeadLine}
use Rattle.nq_script.proofs.FileLines.{text-behind}
use Rattle.nq_script.proofs.HeadLines.{known-version, are-settings, wrong-version, wrong-hosts, wrong-term, wrong-longest}
use Rattle.nq_script.proofs.Passing.{passed}
use Rattle.nq_script.proofs.heads.read_settings.Goals as goal

pub returns-in_err-version : goal.returns-in_err-version
returns-in_err-version c =
    passed c.from_residual.result _ _ _ _ (err_from_is_err_and c.from_residual.result c.from_residual.ensures.1) c.in_err-version.ensures
    (λ place said. subst (FirstBadHeadLine c.args.text.now) (sym said.0) (wrong-version c.args.text.now said.1))

pub returns-in_err-hosts : goal.returns-in_err-hosts
returns-in_err-hosts c =
    let version = c.in_ok-version.ensures in
    passed c.from_residual-in_err-hosts.result _ _ _ _ (err_from_is_err_and c.from_residual-in_err-hosts.result c.from_residual-in_err-hosts.ensures.1)
    c.in_err-hosts.ensures
    (λ place said. subst (FirstBadHeadLine c.args.text.now) (sym said.0)
    (wrong-hosts c.args.text.now c.in_ok-version.rest.now c.in_ok-version.version (known-version _ version.0 version.1) version.2 said.1))

pub returns-in_err-term : goal.returns-in_err-term
returns-in_err-term c =
    let version = c.in_ok-version.ensures in
    let hosts = c.in_ok-hosts.ensures in
    let both = text-behind c.args.text.now (version_line c.in_ok-version.version ∷ []) (hosts_line c.in_ok-hosts.hosts ∷ []) c.in_ok-version.rest.now
    c.in_ok-hosts.rest.now version.2 hosts.2 in
    passed c.from_residual-in_err-term.result _ _ _ _ (err_from_is_err_and c.from_residual-in_err-term.result c.from_residual-in_err-term.ensures.1)
    c.in_err-term.ensures
    (λ place said. subst (FirstBadHeadLine c.args.text.now) (sym said.0)
    (wrong-term c.args.text.now c.in_ok-hosts.rest.now c.in_ok-version.version c.in_ok-hosts.hosts (known-version _ version.0 version.1) hosts.0 hosts.1 both
    (subst (λ most. NoNumber (codes "term ") 5 most c.in_ok-hosts.rest.now) c.most_term.ensures said.1)))

pub returns-in_err-longest : goal.returns-in_err-longest
returns-in_err-longest c =
    let version = c.in_ok-version.ensures in
    let hosts = c.in_ok-hosts.ensures in
    let term = c.in_ok-term.ensures in
    let both = text-behind c.args.text.now (version_line c.in_ok-version.version ∷ []) (hosts_line c.in_ok-hosts.hosts ∷ []) c.in_ok-version.rest.now
    c.in_ok-hosts.rest.now version.2 hosts.2 in
    let all = text-behind c.args.text.now (version_line c.in_ok-version.version ∷ hosts_line c.in_ok-hosts.hosts ∷ []) (term_line c.in_ok-term.term ∷ [])
    c.in_ok-hosts.rest.now c.in_ok-term.rest.now both term.2 in
    passed c.from_residual-in_err-longest.result _ _ _ _
    (err_from_is_err_and c.from_residual-in_err-longest.result c.from_residual-in_err-longest.ensures.1) c.in_err-longest.ensures
    (λ place said. subst (FirstBadHeadLine c.args.text.now) (sym said.0)
    (wrong-longest c.args.text.now c.in_ok-term.rest.now c.in_ok-version.version c.in_ok-hosts.hosts c.in_ok-term.term (known-version _ version.0 version.1)
    hosts.0 hosts.1 term.0 (subst (λ most. c.in_ok-term.term ≤ most) c.most_term.ensures term.1) said.1 all said.2))

pub returns : goal.returns
returns c =
    let version = c.in_ok-version.ensures in
    let hosts = c.in_ok-hosts.ensures in
    let term = c.in_ok-term.ensures in
    let longest = c.in_ok-longest.ensures in
    let both = text-behind c.args.text.now (version_line c.in_ok-version.version ∷ []) (hosts_line c.in_ok-hosts.hosts ∷ []) c.in_ok-version.rest.now
    c.in_ok-hosts.rest.now version.2 hosts.2 in
    let all = text-behind c.args.text.now (version_line c.in_ok-version.version ∷ hosts_line c.in_ok-hosts.hosts ∷ []) (term_line c.in_ok-term.term ∷ [])
    c.in_ok-hosts.rest.now c.in_ok-term.rest.now both term.2 in (
      are-settings c.in_ok-version.version c.in_ok-hosts.hosts c.in_ok-term.term c.in_ok-longest.longest (known-version _ version.0 version.1) hosts.0
          hosts.1 term.0 (subst (λ most. c.in_ok-term.term ≤ most) c.most_term.ensures term.1) longest.0,
      text-behind c.args.text.now (version_line c.in_ok-version.version ∷ hosts_line c.in_ok-hosts.hosts ∷ term_line c.in_ok-term.term ∷ [])
          (longest_lines c.in_ok-version.version c.in_ok-longest.longest) c.in_ok-term.rest.now c.in_ok-longest.rest.now all longest.1,
    )
