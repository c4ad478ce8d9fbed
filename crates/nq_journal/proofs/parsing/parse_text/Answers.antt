use Rattle.std.proofs.Common.{refl}
use Rattle.nq_journal.proofs.Whole.{no_line, no_version, by_rest}
use Rattle.nq_journal.proofs.parsing.parse_text.Goals as goal

pub returns-in_default : goal.returns-in_default
returns-in_default c = no_line c.args.bytes.now c.in_default.ensures

pub returns-in_default-version_of : goal.returns-in_default-version_of
returns-in_default-version_of c =
    no_version c.args.bytes.now c.in-Some.head.now c.in-Some.rest.now c.in-Some.ensures (c.in_default-version_of.ensures.none refl)

pub returns : goal.returns
returns c =
    let known = c.in-Some-version_of.ensures.found in
    by_rest c.in-Some-version_of.version c.args.bytes.now c.in-Some.head.now c.in-Some.rest.now c.parse_rest.result known.0 known.1 c.in-Some.ensures
    c.parse_rest.ensures
