use Rattle.std.proofs.Common.{true, false, sym, ap, subst, refl, ◌∙◌}
use Rattle.nq_model.specs.protocol.Ask.{ask}
use Rattle.nq_name_server.proofs.Holding.{read_held, unread_free}
use Rattle.nq_name_server.specs.Sending.{IsHeld}
use Rattle.nq_name_server.specs.Serving.{changes_for}
use Rattle.nq_name_server.proofs.server.NameServer.hold_up_numbered.Goals as goal

pub returns-in_ok-notice-clause-held : goal.returns-in_ok-notice-clause-held
returns-in_ok-notice-clause-held c =
    let s = c.args.self.now in
    let held = read_held s c.args.who c.args.prefix.now c.args.number c.requires.number (sym c.is_read.ensures ∙ c.if-is_read.true) in
    let table = (ask s.table (changes_for s c.args.who c.args.number)).table in
    subst (λ h. IsHeld true h s c.mark_readers.new.self c.args.out.now c.tell_readers.new.out) (sym held) (record {
      served = c.mark_readers.ensures.marked ∙ ap (λ n. record s { table = table; notice = n }) c.in_ok-notice.ensures.counted;
      sends = c.in_ok-notice.ensures.told;
    })

pub returns-else-is_read-clause-held : goal.returns-else-is_read-clause-held
returns-else-is_read-clause-held c =
    let s = c.args.self.now in
    let free = unread_free s c.args.who c.args.prefix.now c.args.number c.requires.number (sym c.is_read.ensures ∙ c.if-is_read.false) in
    subst (λ h. IsHeld false h s s c.args.out.now c.args.out.now) (sym free) (record { served = refl; sends = refl })
