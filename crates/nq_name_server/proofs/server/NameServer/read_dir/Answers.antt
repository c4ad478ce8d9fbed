use Rattle.std.proofs.Common.{◌++◌, [], ◌∷◌, None, refl, sym, ap, subst, ◌∙◌}
use Rattle.nq_base.specs.declared.Party.{Party}
use Rattle.nq_wire.specs.Parts.{grant_bytes, optional}
use Rattle.nq_name_server.proofs.Replying.{given, none_is_left}
use Rattle.nq_name_server.specs.Sending.{IsServed}
use Rattle.nq_name_server.specs.Served.{Leaf}
use Rattle.nq_name_server.proofs.server.NameServer.read_dir.Goals as goal

pub returns-in-None-clause-read : goal.returns-in-None-clause-read
returns-in-None-clause-read c =
    let s = c.args.self.now in
    let r = c.args.request.now in
    let leaf : Leaf = record { names = c.args.names.now; more = c.args.more } in
    let begun = c.in_ok-replies.replies.page.bytes in
    let sends = c.give_page.ensures.sends ∙ ap (λ d. d ++ (Party.Client r.who.host, begun ++ optional grant_bytes None) ∷ [])
    c.in_ok-reserve.ensures.datagrams in
    subst (λ m. IsServed m s c.args.out.now c.give_page.new.out) (sym (none_is_left s r leaf (sym c.in-None.ensures)))
    (given s s r leaf begun c.in_ok-replies.replies.later.items None c.args.out.now c.give_page.new.out c.in_ok-replies.ensures.ready refl sends)
