use Rattle.std.proofs.Common.{ap, refl}
use Rattle.nq_tasks.specs.Work.{Works}
use Rattle.nq_tasks.specs.declared.tasks.Stepped.{Stepped}
use Rattle.nq_tasks.proofs.work.Work.take_answer.Goals as goal

pub returns-in-Called : goal.returns-in-Called
returns-in-Called c =
    rw (← c.self.view_is) (record {
      stepped = Stepped.Called;
      task = c.take_answer.new.self;
      steps = c.in-Called.ensures;
      comes = c.answered.ensures;
      asked = refl;
      goes = λ on. refl;
    })

pub returns-in-Stored : goal.returns-in-Stored
returns-in-Stored c =
    rw (← c.self.view_is) (record {
      stepped = Stepped.Stored c.in-Stored.said;
      task = c.take_answer.new.self;
      steps = c.in-Stored.ensures;
      comes = c.stored.ensures.comes;
      asked = ap (λ (w : Works). w.asked) c.stored.ensures.same;
      goes = λ on. ap (λ (w : Works). w.task) c.stored.ensures.same;
    })

pub returns-in-Got : goal.returns-in-Got
returns-in-Got c =
    rw (← c.self.view_is) (record {
      stepped = Stepped.Got c.in-Got.got;
      task = c.take_answer.new.self;
      steps = c.in-Got.ensures;
      comes = c.got.ensures.comes;
      asked = c.got.ensures.same;
      goes = λ on. ap (λ (w : Works). w.task) (c.got.ensures.goes on);
    })

pub returns-in-Tidied : goal.returns-in-Tidied
returns-in-Tidied c =
    rw (← c.self.view_is) (record {
      stepped = Stepped.Tidied c.in-Tidied.told;
      task = c.take_answer.new.self;
      steps = c.in-Tidied.ensures;
      comes = c.tidied.ensures;
      asked = refl;
      goes = λ on. refl;
    })
