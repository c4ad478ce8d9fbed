use Rattle.std.proofs.Common.{rules, ◌≡◌, ◌+◌, true, length, refl, sym, ◌∙◌, arith}
use Rattle.std.proofs.lemmas.Option.{slice_get_read}
use Rattle.nq_rules.specs.declared.keys.KeyKind.TheVariants.{Delays}
use Rattle.nq_check.specs.declared.rules.Rule.TheVariants.{Ordered, Synchronized}
use Rattle.nq_check.proofs.Linking.{linked_next, none_linked}
use Rattle.nq_check.proofs.MovesOn.{none_below, one_more}
use Rattle.nq_check.proofs.OwnWrite.{keeps_less}
use Rattle.nq_check.proofs.kept_front.keep_all.Goals as goal

pub loop-place-init : goal.loop-place-init
loop-place-init c =
    let whole = c.args.whole.now in
    let trail = c.args.trail.now in (
      none_below Synchronized whole,
      none_linked Delays whole trail.delays.heads.entries trail.delays.earlier.items c.requires.none.0 c.requires.none.1,
    )

pub is_kept_at-requires-clause-ready : goal.is_kept_at-requires-clause-ready
is_kept_at-requires-clause-ready c = record {
  tables = c.requires.tables;
  within = c.loop-place-test.true;
  ordered = keeps_less Ordered c.args.whole.now c.args.ordered (c.loop-place.place + 1) c.requires.ordered (omega arith);
  kept = c.loop-place.invariant.0;
  linked = c.loop-place.invariant.1;
}

pub is_kept_at-requires-clause-there : goal.is_kept_at-requires-clause-there
is_kept_at-requires-clause-there c =
    slice_get_read c.args.whole.now (length c.args.whole.now) c.loop-place.place c.index-whole-place.result refl c.loop-place-test.true
    c.index-whole-place.is

pub loop-place-preserved : goal.loop-place-preserved
loop-place-preserved c =
    let whole = c.args.whole.now in
    let place = c.loop-place.place in
    let entry = c.index-whole-place.result in
    let old = c.loop-place.trail.delays in
    let new = c.take_in.new.trail.delays in
    let there = slice_get_read whole (length whole) place entry refl c.loop-place-test.true c.index-whole-place.is in
    let yes : c.is_kept_at.result ≡ true = search rules in (
      one_more Synchronized whole place entry there (sym c.is_kept_at.ensures ∙ yes) c.loop-place.invariant.0,
      linked_next Delays whole place entry old.heads.entries new.heads.entries old.earlier.items new.earlier.items there c.loop-place.invariant.1
          c.in_ok-take_in.ensures,
    )
