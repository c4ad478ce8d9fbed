use Rattle.std.proofs.Common.{◌≡◌, Some, true, sym, refl, ap, ◌∙◌}
use Rattle.std.specs.Prelude.{nat_lt}
use Rattle.nq_base.specs.declared.Gate.{Gate}
use Rattle.nq_base.specs.declared.Request.{Request}
use Rattle.nq_base.specs.declared.Verdict.{Verdict}
use Rattle.nq_model.specs.protocol.Decided.{attach_decided, change_with, fresh_decided, if_fresh, no_effect}
use Rattle.nq_model.specs.protocol.Kept.{Kept, host_row}
use Rattle.nq_keeper.proofs.Concluding.{attaches-fresh, decided-as, fits-kept, given-as, given_of, gives-as, leaves-as, leaves-then, within-kept}
use Rattle.nq_keeper.proofs.requests.deciding.attach.Goals as goal

pub conclude-requires-clause-fits : goal.conclude-requires-clause-fits
conclude-requires-clause-fits g c =
    λ kept e.
    fits-kept (Gate.Recovering 0) (Request.Attach c.args.who) c.args.who 0 c.none.result kept (g.met.K.Keeper.within c.host.new.self kept e)
    c.none.ensures c.requires

pub conclude-requires-clause-within : goal.conclude-requires-clause-within
conclude-requires-clause-within g c =
    λ kept e can.
    let later : nat_lt c.in_ok-line.line.inc c.args.who.inc ≡ true = sym c.is_later.ensures ∙ c.if-is_later.true in
    let own : c.in_ok-line.line ≡ host_row kept c.args.who.host = c.in_ok-line.ensures.told kept (sym c.in_ok-line.ensures.reads.0 ∙ e) in
    within-kept (Gate.Recovering 0) (Request.Attach c.args.who) c.args.who 0 c.none.result kept (g.met.K.Keeper.within c.host.new.self kept e)
    c.none.ensures tt
    (attaches-fresh c.args.who (host_row kept c.args.who.host) (ap (λ line. nat_lt line.inc c.args.who.inc) (sym own) ∙ later))
    refl
    can

pub returns-then-is_later : goal.returns-then-is_later
returns-then-is_later g c = record {
  gives = let later : nat_lt c.in_ok-line.line.inc c.args.who.inc ≡ true = sym c.is_later.ensures ∙ c.if-is_later.true in
      let fresh : (kept : Kept) → g.K.Keeper.content c.args.keeper.now ≡ Some kept → attach_decided c.args.who (host_row kept c.args.who.host)
      ≡ fresh_decided c.args.who 0 (no_effect Verdict.Done) = λ kept e. ap (attach_decided c.args.who) (sym (c.in_ok-line.ensures.told kept e))
      ∙ attaches-fresh c.args.who c.in_ok-line.line later in
      gives-as (λ kept. fresh_decided c.args.who 0 c.none.result) (λ kept. attach_decided c.args.who (host_row kept c.args.who.host))
      (λ kept. given_of c.args.who 0 c.none.result) (λ kept. if_fresh (attach_decided c.args.who (host_row kept c.args.who.host))
      (change_with c.args.who 0 (no_effect Verdict.Done))) c.conclude.result (g.K.Keeper.content c.args.keeper.now)
      (g.K.Keeper.content c.host.new.self) (g.K.Keeper.content c.conclude.new.keeper) _ _ _ c.in_ok-line.ensures.reads.0 c.in_ok-line.ensures.reads.1
      (λ kept e. decided-as (Gate.Recovering 0) (Request.Attach c.args.who) c.args.who 0 c.none.result kept (g.met.K.Keeper.within c.args.keeper.now
      kept e) c.none.ensures ∙ sym (fresh kept e))
      (λ kept e. given-as (Gate.Recovering 0) (Request.Attach c.args.who) c.args.who 0 c.none.result kept (g.met.K.Keeper.within c.args.keeper.now
      kept e) c.none.ensures ∙ sym (ap (λ d. if_fresh d (change_with c.args.who 0 (no_effect Verdict.Done))) (fresh kept e)))
      c.conclude.ensures.gives;
  follows = g.met.K.Keeper.follows_on _ c.host.new.self _ c.host.ensures.follows c.conclude.ensures.follows;
  leaves = λ kept e found left.
      let later : nat_lt c.in_ok-line.line.inc c.args.who.inc ≡ true = sym c.is_later.ensures ∙ c.if-is_later.true in
      let fresh : attach_decided c.args.who (host_row kept c.args.who.host) ≡ fresh_decided c.args.who 0 (no_effect Verdict.Done) =
      ap (attach_decided c.args.who) (sym (c.in_ok-line.ensures.told kept e)) ∙ attaches-fresh c.args.who c.in_ok-line.line later in
      leaves-as kept found (given_of c.args.who 0 c.none.result) (if_fresh (attach_decided c.args.who (host_row kept c.args.who.host))
      (change_with c.args.who 0 (no_effect Verdict.Done)))
      (given-as (Gate.Recovering 0) (Request.Attach c.args.who) c.args.who 0 c.none.result kept (g.met.K.Keeper.within c.args.keeper.now kept e)
      c.none.ensures ∙ sym (ap (λ d. if_fresh d (change_with c.args.who 0 (no_effect Verdict.Done))) fresh))
      (leaves-then _ _ found kept (given_of c.args.who 0 c.none.result)
      (g.met.K.Keeper.parts _ c.host.new.self _ found c.host.ensures.follows c.conclude.ensures.follows left)
      (c.host.ensures.leaves kept e found)
      (c.conclude.ensures.leaves kept (c.in_ok-line.ensures.reads.0 ∙ e) found));
}
