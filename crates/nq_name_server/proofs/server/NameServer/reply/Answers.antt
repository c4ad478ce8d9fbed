use Rattle.std.proofs.Common.{inl, inr, refl}
use Rattle.nq_name_server.proofs.Replying.{free_page, full_page, granted_page}
use Rattle.nq_name_server.proofs.server.NameServer.reply.Goals as goal

pub returns-in-Granted-clause-replied : goal.returns-in-Granted-clause-replied
returns-in-Granted-clause-replied c =
    λ leaf ready.
    granted_page c.args.self.now c.args.self.now c.args.request.now leaf c.args.replies.page.bytes c.args.replies.later.items _ c.args.asked
    c.in-Granted.grant c.args.out.now c.give_page.new.out c.in-Granted.is ready refl c.give_page.ensures.sends

pub returns-in-Free-clause-replied : goal.returns-in-Free-clause-replied
returns-in-Free-clause-replied c =
    λ leaf ready.
    elim c.in-Free.is [
      | inl free ↦ free_page c.args.self.now c.args.self.now c.args.request.now leaf c.args.replies.page.bytes c.args.replies.later.items _
          c.args.asked c.args.out.now c.give_page-in-Free.new.out free ready refl c.give_page-in-Free.ensures.sends
      | inr full ↦ full_page c.args.self.now c.args.self.now c.args.request.now leaf c.args.replies.page.bytes c.args.replies.later.items _
          c.args.asked c.args.out.now c.give_page-in-Free.new.out full ready refl c.give_page-in-Free.ensures.sends
    ]
