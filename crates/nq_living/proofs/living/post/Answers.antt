use Rattle.std.proofs.Common.{subst}
use Rattle.nq_link.specs.Links.{link_told}
use Rattle.nq_living.specs.Living.{PostsOne}
use Rattle.nq_living.proofs.living.post.Goals as goal

pub returns-in-Some : goal.returns-in-Some
returns-in-Some g c =
    let link_of = link_told g.L.Link.sent g.L.Link.waiting g.L.Link.faults g.L.Link.receives in
    rw c.in-Some.is (
      c.post_one-sent.result,
      subst (λ bytes. PostsOne c.post_one-sent.result bytes (link_of c.args.link.now) (link_of c.post_one-sent.new.link)) c.deref.ensures.value c.post_one-sent.ensures,
    )
