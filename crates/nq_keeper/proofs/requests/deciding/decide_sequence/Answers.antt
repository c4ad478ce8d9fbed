use Rattle.std.proofs.Common.{Some, rules, arith, sym, ap, ◌∙◌, inl}
use Rattle.std.proofs.lemmas.Grind.{common_steps}
use Rattle.nq_model.specs.protocol.Decided.{change_with, decided_before, effect_of, if_fresh, sequence_decided}
use Rattle.nq_model.specs.protocol.Change.{applied_if}
use Rattle.nq_keeper.proofs.Sequences.{leaves-later, nothing-of, said-of}
use Rattle.nq_keeper.proofs.requests.deciding.decide_sequence.Goals as goal

pub decide_fresh-requires-clause-later : goal.decide_fresh-requires-clause-later
decide_fresh-requires-clause-later g c =
    λ kept e.
    ap (decided_before c.args.who c.args.seq) (sym (c.in_ok-line.ensures.told kept (sym c.in_ok-line.ensures.reads.0 ∙ e))) ∙ sym c.in-None.ensures

pub returns-in-Some : goal.returns-in-Some
returns-in-Some g c =
    let who = c.args.who in
    let seq = c.args.seq in
    record {
      gives = (
        λ kept e.
            let effect = effect_of kept c.args.gate c.args.request in
            let line = ap (λ l. sequence_decided who seq l effect) (c.in_ok-line.ensures.told kept e) in
            let none = nothing-of who seq effect (change_with who seq effect) c.in_ok-line.line c.in-Some.said (sym c.in-Some.ensures) in (
              sym (said-of who seq effect (change_with who seq effect) c.in_ok-line.line c.in-Some.said (sym c.in-Some.ensures)) ∙ line,
              c.in_ok-line.ensures.reads.0 ∙ e ∙ sym (ap (λ o. Some (applied_if kept o)) none)
                  ∙ ap (λ d. Some (applied_if kept (if_fresh d (change_with who seq effect)))) line,
            ),
        c.in_ok-line.ensures.reads.1,
      );
      follows = c.host.ensures.follows;
      leaves = λ kept e found left. inl (c.host.ensures.leaves kept e found left);
    }

pub returns-in-None : goal.returns-in-None
returns-in-None g c = record {
  gives = first_of (search rules, grind (arith, common_steps));
  follows = g.met.K.Keeper.follows_on _ c.host.new.self _ c.host.ensures.follows c.decide_fresh.ensures.follows;
  leaves = λ kept e found left.
      leaves-later c.args.who c.args.seq (effect_of kept c.args.gate c.args.request) (change_with c.args.who c.args.seq (effect_of kept c.args.gate
      c.args.request)) c.in_ok-line.line _ _ found kept
      (c.in_ok-line.ensures.told kept e)
      (sym c.in-None.ensures)
      (g.met.K.Keeper.parts _ c.host.new.self _ found c.host.ensures.follows c.decide_fresh.ensures.follows left)
      (c.host.ensures.leaves kept e found)
      (c.decide_fresh.ensures.leaves kept (c.in_ok-line.ensures.reads.0 ∙ e) found);
}
