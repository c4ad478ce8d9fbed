use Rattle.std.proofs.Common.{rules, ◌≡◌, ◌<◌, true, arith}
use Rattle.nq_check.proofs.endings.is_ended.Goals as goal

pub is_ended_at-requires-clause-linked : goal.is_ended_at-requires-clause-linked
is_ended_at-requires-clause-linked c =
    let below : c.args.place < c.args.rising = c.if-place-rising.true in
    record {
      tables = c.requires.tables;
      rises = λ early late x y a b there_x there_y. c.requires.rises early late x y a (omega arith) there_x there_y;
      within = c.requires.there.0;
    }

pub returns-then-is_ended_at : goal.returns-then-is_ended_at
returns-then-is_ended_at c =
    let yes : c.is_ended_at.result ≡ true = search rules in
    λ t. c.is_ended_at.ensures yes
