-- Who has to wait for a lease shares the file meanwhile.
use Rattle.std.proofs.Common.{◌≡◌, ◌≤◌, ◌<◌, ℕ, ◌+◌, true, nat_lt, Option, Some, None, if◌then◌else◌, length, refl, sym, subst, arith}
use Rattle.std.specs.List.{find, list_any}
use Rattle.std.specs.Prelude.{max}
use Rattle.std.proofs.lemmas.Bool.Decides.{nat_tests}
use Rattle.std.proofs.lemmas.List.{length-map}
use Rattle.nq_base.specs.declared.Asked.{Asked}
use Rattle.nq_base.specs.declared.Clash.{Clash}
use Rattle.nq_base.specs.declared.Question.{Question}
use Rattle.nq_base.specs.declared.Row.{Row}
use Rattle.nq_base.specs.declared.Want.{Want}
use Rattle.nq_model.specs.protocol.Ask.{Reply, ask_past, ask_freely, begin, shares, conflicts, sharing_row, caching_row, marked, with_waiting, put_off}
use Rattle.nq_model.specs.protocol.Ask.{granted, no_lease, term_of}
use Rattle.nq_model.specs.protocol.Profile.{shortest_term, most_rows}
use Rattle.nq_model.specs.protocol.Table.{Table, find_row, with_rows, after_draw}
use Rattle.walk_steps.proofs.AskCases.{with_marked, with_waiter}
use Rattle.walk_steps.proofs.RowChanges.{mark, find-put-same}
use Rattle.walk_steps.proofs.Rows.{choice}
use Rattle.nq_laws.specs.WaitersShare.{WaitersShare, IsSharedFor}

long-enough : (now m : ℕ) → now + shortest_term ≤ now + max shortest_term m
long-enough now m = omega arith

module _ (table : Table) (q : Question) (want : Want) (wants : q.want ≡ Some want) (own : find_row q.file q.who.host table.rows ≡ None)
    (room : length table.rows < most_rows) where
  abbrev Waits : Clash → Reply → Type 0
  Waits clash r = r.asked ≡ Asked.TryLater clash → IsSharedFor shortest_term q.time r.table.rows q.file q.who.host

  still-room : nat_lt (length (marked q.file q.who.host q.access table.rows)) most_rows ≡ true
  still-room =
      let same : length (marked q.file q.who.host q.access table.rows) ≡ length table.rows = length-map table.rows (mark q.file q.who.host q.access) in
      is-less (length (marked q.file q.who.host q.access table.rows)) most_rows (omega arith)
    where
      is-less : (a b : ℕ) → a < b → nat_lt a b ≡ true
      is-less a b less = grind (arith, nat_tests)

  -- another's row is in the way
  waiting : IsSharedFor shortest_term q.time (with_waiting (with_marked table q) q (Some want) None).rows q.file q.who.host
  unfolding with_rows after_draw sharing_row
  waiting = choice (λ (t : Table). IsSharedFor shortest_term q.time t.rows q.file q.who.host) (nat_lt (length (marked q.file q.who.host q.access table.rows))
      most_rows) (with_waiter table q want) (with_marked table q) (λ e. record {
        row = sharing_row (with_marked table q) q (term_of q want);
        there = find-put-same (sharing_row (with_marked table q) q (term_of q want)) (marked q.file q.who.host q.access table.rows);
        sharing = refl;
        lasts = long-enough q.time _;
      }) (λ e. let some = still-room in absurd (cc))

  granted-waits : (clash : Clash) (row : Row) (term : ℕ) → Waits clash (granted table q row term)
  unfolding granted
  granted-waits clash row term e = absurd (cc)

  -- none is
  begins-waits : (clash : Clash) → Waits clash (begin table q want)
  unfolding no_lease
  begins-waits clash =
      choice (Waits clash) (nat_lt (length table.rows) most_rows)
      (if list_any (shares q.file q.who.host) table.rows
      then granted table q (sharing_row table q (term_of q want)) (term_of q want)
      else granted table q (caching_row table q want.mode (term_of q want)) (term_of q want))
      (no_lease table)
      (λ e. choice (Waits clash) (list_any (shares q.file q.who.host) table.rows) (granted table q (sharing_row table q (term_of q want)) (term_of q want))
      (granted table q (caching_row table q want.mode (term_of q want)) (term_of q want)) (λ f. granted-waits clash _ _) (λ f. granted-waits clash _ _))
      (λ e f. absurd (cc))

  past-waits : (clash : Clash) (o : Option Row) → Waits clash (ask_past table q o (find_row q.file q.who.host table.rows))
  unfolding put_off
  past-waits clash None = subst (λ w. Waits clash (ask_past table q None w)) (sym own) (begins-for (sym wants))
    where
      begins-for : Some want ≡ q.want → Waits clash (ask_past table q None None)
      begins-for e = subst (λ w. Waits clash (ask_freely table q w None)) e (begins-waits clash)
  past-waits clash (Some other) = λ e. subst (λ w. IsSharedFor shortest_term q.time (ask_past table q (Some other) w).table.rows q.file q.who.host) (sym own)
      (subst (λ w. IsSharedFor shortest_term q.time (with_waiting (with_marked table q) q w None).rows q.file q.who.host) (sym wants) waiting)

pub waiters-share : WaitersShare
waiters-share table q want clash wants own room = past-waits table q want wants own room clash (find (conflicts q.file q.who.host q.access) table.rows)
