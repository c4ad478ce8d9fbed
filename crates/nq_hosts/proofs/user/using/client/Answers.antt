use Rattle.std.proofs.Common.{◌≡◌, IfSome, sym, subst, ◌∙◌}
use Rattle.nq_hosts.specs.Telling.{bytes_line, last_line}
use Rattle.nq_hosts.specs.Lines.{AreCalls}
use Rattle.nq_hosts.proofs.UserCauses.{bytes_by, lawful_bytes, lawful_text, text_by}
use Rattle.nq_clock.specs.Clocks.{clock_told}
use Rattle.nq_link.specs.Links.{link_told}
use Rattle.nq_hosts.proofs.user.using.client.Goals as goal

pub returns-in-All-clause-cause : goal.returns-in-All-clause-cause
returns-in-All-clause-cause g c =
    let clock_of = clock_told g.C.Clock.floor g.C.Clock.readings g.C.Clock.reads in
    let link_of = link_told g.L.Link.sent g.L.Link.waiting g.L.Link.faults g.L.Link.receives in
    text_by c.use_text.ensures.0 c.args.plan.turns c.args.plan.who c.deref.result.now c.use_text.result (g.K.Sink.held c.args.out.now)
    (g.K.Sink.held c.use_text.new.out) (g.S.Source.faults c.args.input.now) (g.S.Source.faults c.read_all.new.source) (g.K.Sink.faults c.args.out.now)
    (g.K.Sink.faults c.use_text.new.out) (clock_of c.args.clock.now) (clock_of c.use_text.new.clock) (link_of c.args.link.now)
    (link_of c.use_text.new.link) c.use_text.ensures.2

pub returns-in-All-clause-lawful : goal.returns-in-All-clause-lawful
returns-in-All-clause-lawful g c =
    let clock_of = clock_told g.C.Clock.floor g.C.Clock.readings g.C.Clock.reads in
    let link_of = link_told g.L.Link.sent g.L.Link.waiting g.L.Link.faults g.L.Link.receives in
    λ text lines told are script.
    let all : c.in-All.text.items ≡ text = subst (λ o. IfSome o (λ input. c.in-All.text.items ≡ input)) told c.in-All.ensures.reads.all in
    lawful_text c.use_text.ensures.0 c.args.plan.turns c.args.plan.who c.deref.result.now lines c.use_text.result (g.K.Sink.held c.args.out.now)
    (g.K.Sink.held c.use_text.new.out) (g.K.Sink.faults c.args.out.now) (g.K.Sink.faults c.use_text.new.out) (clock_of c.args.clock.now)
    (clock_of c.use_text.new.clock) (link_of c.args.link.now) (link_of c.use_text.new.link) c.use_text.ensures.1 c.use_text.ensures.2
    (subst (AreCalls lines) (sym (c.deref.ensures.value ∙ all)) are) script

pub returns-in-Over-clause-cause : goal.returns-in-Over-clause-cause
returns-in-Over-clause-cause g c =
    bytes_by (bytes_line (last_line c.deref-in-Over.result.now)) c.tell_bytes.result (g.K.Sink.held c.args.out.now) (g.K.Sink.held c.tell_bytes.new.out)
    (g.S.Source.faults c.args.input.now) (g.S.Source.faults c.read_all.new.source) (g.K.Sink.faults c.args.out.now) (g.K.Sink.faults c.tell_bytes.new.out)
    (g.L.Link.faults c.args.link.now) (g.L.Link.faults c.args.link.now) c.tell_bytes.ensures

pub returns-in-Over-clause-lawful : goal.returns-in-Over-clause-lawful
returns-in-Over-clause-lawful g c =
    λ text lines told are script.
    lawful_bytes (bytes_line (last_line c.deref-in-Over.result.now)) c.tell_bytes.result (g.K.Sink.held c.args.out.now) (g.K.Sink.held c.tell_bytes.new.out)
    (g.K.Sink.faults c.args.out.now) (g.K.Sink.faults c.tell_bytes.new.out) c.tell_bytes.ensures script
