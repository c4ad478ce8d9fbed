use Rattle.std.proofs.Common.{◌∙◌}
use Rattle.nq_replay.proofs.Flags.{next-some, next-none}
use Rattle.nq_replay.specs.Delivering.{Marks}
use Rattle.nq_replay.proofs.play.delivered.Delivered.next.Goals as goal
use Rattle.nq_replay.proofs.play.delivered.Delivered.next.Goals.{then-self-sent, else-self-sent}

pub returns-clause-next : goal.returns-clause-next
returns-clause-next c = λ events marks.
    let here : Marks c.self.inside.flags.items events = rw (← c.self.view_is) at marks in
    let f = c.first_unflagged-self-inside in
    let flagged = rw c.deref.ensures.value at f.ensures.flagged in
    let unflagged = rw c.deref.ensures.value at f.ensures.unflagged in
    elim c.if-self-sent.branch [
      | then-self-sent w ↦ w.result-is ∙ next-some c.self.inside.flags.items c.self.inside.least f.result c.args.sent events here c.self.invariant
          flagged unflagged w.if-self-sent.true
      | else-self-sent w ↦ w.result-is ∙ next-none c.self.inside.flags.items c.self.inside.least f.result c.args.sent events here c.self.invariant
          flagged unflagged w.if-self-sent.false
    ]
