use Rattle.std.proofs.Common.{subst, sym, ◌∙◌}
use Rattle.nq_script.specs.Calls.{SpellsCall}
use Rattle.nq_script.proofs.CallReading.{told-found, told-same, told-none}
use Rattle.nq_script.proofs.calls.parse_call.Goals as goal

pub returns-in-Some-clause-found : goal.returns-in-Some-clause-found
returns-in-Some-clause-found c =
    subst (λ x. SpellsCall c.args.version x c.args.words.now) (sym c.call_of.ensures)
    (told-found c.args.version c.args.words.now c.in-Some.told (sym c.read_told.ensures.step ∙ c.in-Some.is))

pub returns-in-Some-clause-only : goal.returns-in-Some-clause-only
returns-in-Some-clause-only c = λ x s.
    c.call_of.ensures ∙ told-same c.args.version c.args.words.now c.in-Some.told x (sym c.read_told.ensures.step ∙ c.in-Some.is) s

pub returns-in-None-clause-only : goal.returns-in-None-clause-only
returns-in-None-clause-only c = λ x s. told-none c.args.version c.args.words.now x (sym c.read_told.ensures.step ∙ c.in-None.is) s
