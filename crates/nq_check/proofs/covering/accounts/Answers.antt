use Rattle.std.proofs.Common.{rules, ◌≡◌, true, reverse}
use Rattle.nq_check.proofs.Once.{lost_ok, stored_ok}
use Rattle.nq_check.proofs.covering.accounts.Goals as goal

pub returns-in-S : goal.returns-in-S
returns-in-S c =
    let s = c.in-S in
    stored_ok c.covers_anew.result 18446744073709551615 (reverse c.args.whole.now) c.args.entry.now s.who s.file s.block s.first s.last s.now c.own_key.result
    c.args.reach.now c.covers_anew.new.reach s.is c.own_key.ensures c.covers_anew.ensures

pub returns-else-not-is_there : goal.returns-else-not-is_there
returns-else-not-is_there c =
    let s = c.in-L in
    let found : c.is_there.result ≡ true = search rules in
    lost_ok c.covers_anew-in-L.result 18446744073709551615 (reverse c.args.whole.now) c.args.entry.now s.who s.file s.block s.first s.last
    c.own_key-in-L.result c.args.reach.now c.covers_anew-in-L.new.reach s.is c.own_key-in-L.ensures (c.is_there.ensures found) c.covers_anew-in-L.ensures
