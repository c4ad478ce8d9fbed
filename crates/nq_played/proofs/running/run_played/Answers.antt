use Rattle.std.proofs.Common.{inl, refl, subst, sym}
use Rattle.nq_base.specs.declared.ending.ending.Ending.{Ending}
use Rattle.nq_io.specs.Whole.{IsAll}
use Rattle.nq_played.proofs.Outcomes.{by_fault, by_over, by_text, ends_over, ends_text, still_counts}
use Rattle.nq_replay.proofs.Endings.{over_counts}
use Rattle.nq_replay.specs.Ending.{TellsOver}
use Rattle.nq_replay.specs.Text.{FirstBadMixed, SpellsMixed}
use Rattle.nq_played.proofs.running.run_played.Goals as goal

pub returns-in-All-clause-ends : goal.returns-in-All-clause-ends
returns-in-All-clause-ends g c =
    ends_text (SpellsMixed g.A.AsideLine.said) (FirstBadMixed g.A.AsideLine.said) g.A.PlayedAside.due
    g.A.PlayedAside.prints
    c.run_text.result c.deref.result.now c.args.limit _ _ _ _ _ _ _ _
    (subst (λ t. IsAll t c.args.limit (g.S.Source.left c.args.input.now) (g.S.Source.left c.read_all.new.source)) (sym c.deref.ensures.value)
    c.in-All.ensures.reads) c.run_text.ensures.ends

pub returns-in-All-clause-by_input : goal.returns-in-All-clause-by_input
returns-in-All-clause-by_input g c =
    by_text (SpellsMixed g.A.AsideLine.said) (FirstBadMixed g.A.AsideLine.said) g.A.PlayedAside.due
    g.A.PlayedAside.prints
    c.run_text.result c.deref.result.now c.args.limit _ _ _ _ _ _ _ _
    (subst (λ t. IsAll t c.args.limit (g.S.Source.left c.args.input.now) (g.S.Source.left c.read_all.new.source)) (sym c.deref.ensures.value)
    c.in-All.ensures.reads) c.run_text.ensures

pub returns-in-All-clause-source : goal.returns-in-All-clause-source
returns-in-All-clause-source g c =
    still_counts (SpellsMixed g.A.AsideLine.said) (FirstBadMixed g.A.AsideLine.said) g.A.PlayedAside.due
    g.A.PlayedAside.prints
    c.run_text.result c.deref.result.now _ _ _ _ _ _ c.run_text.ensures.ends c.in-All.ensures.cause

pub returns-in-All-clause-sink : goal.returns-in-All-clause-sink
returns-in-All-clause-sink g c = c.run_text.ensures.sink

pub returns-in-Over-clause-ends : goal.returns-in-Over-clause-ends
returns-in-Over-clause-ends g c =
    ends_over (SpellsMixed g.A.AsideLine.said) (FirstBadMixed g.A.AsideLine.said) g.A.PlayedAside.due
    g.A.PlayedAside.prints
    c.tell_over.result c.in-Over.front.items c.args.limit _ _ _ _ _ _ _ _ c.in-Over.ensures.reads
    (subst (λ t. TellsOver c.tell_over.result t (g.K.Sink.held c.args.out.now) (g.K.Sink.held c.tell_over.new.out) (g.K.Sink.faults c.args.out.now)
    (g.K.Sink.faults c.tell_over.new.out)) c.deref-in-Over.ensures.value c.tell_over.ensures.tells)

pub returns-in-Over-clause-by_input : goal.returns-in-Over-clause-by_input
returns-in-Over-clause-by_input g c =
    by_over (SpellsMixed g.A.AsideLine.said) (FirstBadMixed g.A.AsideLine.said) g.A.PlayedAside.due
    g.A.PlayedAside.prints
    c.tell_over.result c.in-Over.front.items c.args.limit _ _ _ _ _ _ _ _ c.in-Over.ensures.reads
    (subst (λ t. TellsOver c.tell_over.result t (g.K.Sink.held c.args.out.now) (g.K.Sink.held c.tell_over.new.out) (g.K.Sink.faults c.args.out.now)
    (g.K.Sink.faults c.tell_over.new.out)) c.deref-in-Over.ensures.value c.tell_over.ensures.tells)

pub returns-in-Over-clause-source : goal.returns-in-Over-clause-source
returns-in-Over-clause-source g c = over_counts c.tell_over.result _ _ _ _ _ _ _ c.tell_over.ensures.tells c.in-Over.ensures.cause

pub returns-in-Failed : goal.returns-in-Failed
returns-in-Failed g c = record {
  ends = (refl, c.in-Failed.ensures.cause, c.in-Failed.ensures.reads);
  by_input = by_fault (SpellsMixed g.A.AsideLine.said) (FirstBadMixed g.A.AsideLine.said) g.A.PlayedAside.due
      g.A.PlayedAside.prints Ending.ReadFault c.args.limit _ _ _ _ _ c.in-Failed.ensures.cause;
  source = c.in-Failed.ensures.cause;
  sink = refl;
}

pub returns-in-Memory : goal.returns-in-Memory
returns-in-Memory g c = record {
  ends = inl (refl, inl c.in-Memory.ensures.reads);
  by_input = by_fault (SpellsMixed g.A.AsideLine.said) (FirstBadMixed g.A.AsideLine.said) g.A.PlayedAside.due
      g.A.PlayedAside.prints Ending.Memory c.args.limit _ _ _ _ _ tt;
  source = c.in-Memory.ensures.cause;
  sink = refl;
}
