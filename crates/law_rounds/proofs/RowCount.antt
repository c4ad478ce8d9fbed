-- A lease table never has more rows than it may have.
use Rattle.std.proofs.Common.{◌≡◌, ◌≤◌, ◌<◌, ℕ, ◌+◌, ◌==◌, ◌&&◌, Bool, true, false, not, suc, List, [], ◌∷◌, Option, Some, None, if◌then◌else◌}
use Rattle.std.proofs.Common.{length, refl, sym, ap, subst, ◌∙◌, arith}
use Rattle.std.specs.List.{find, filter}
use Rattle.std.proofs.lemmas.List.{length-map}
use Rattle.nq_base.specs.declared.Access.{Access}
use Rattle.nq_base.specs.declared.Event.{Event}
use Rattle.nq_base.specs.declared.Question.{Question}
use Rattle.nq_base.specs.declared.Row.{Row}
use Rattle.nq_base.specs.declared.Tag.{Tag}
use Rattle.nq_base.specs.declared.Want.{Want}
use Rattle.nq_base.specs.declared.Who.{Who}
use Rattle.nq_model.specs.protocol.Ask.{marked, sharing_row, caching_row, shared_again, renewed_row}
use Rattle.nq_model.specs.protocol.Message.{Datagram, datagram_of}
use Rattle.nq_model.specs.protocol.Profile.{most_rows}
use Rattle.nq_model.specs.protocol.Server.{Server, ServerStep}
use Rattle.nq_model.specs.protocol.ServerStep.{access_of, to_read, is_over, end_reading, vacated_rows, receive, tick, crash, boot}
use Rattle.nq_model.specs.protocol.Table.{is_row_of, find_row, drop_row, row_before, insert_row, put_row, same_tag, empty_table, with_rows, after_draw}
use Rattle.nq_model.specs.protocol.World.{Head, World, sending_host, after_server, after_client, start, run}
use Rattle.walk_steps.proofs.Steps.{Changes, nothing, by_client, by_server, ServerActs, received, ticks, crashes, step-changes}
use Rattle.walk_steps.proofs.AskCases.{IsGranted, shares_again, begins_sharing, begins_caching, renews_row}
use Rattle.walk_steps.proofs.RowChanges.{mark}
use Rattle.walk_steps.proofs.Rows.{choice, found-row}
use Rattle.walk_steps.proofs.ServerMoves.{server-moves, tick-moves}
use Rattle.walk_steps.proofs.Tests.{is-below}

shorter : {A : Type 0} (p : A → Bool) (xs : List A) → length (filter p xs) ≤ length xs
shorter p [] = omega arith
shorter p (x ∷ xs) = let rest = shorter p xs in choice (λ ys. length ys ≤ suc (length xs)) (p x) (x ∷ filter p xs) (filter p xs) (λ e. omega arith)
    (λ e. omega arith)

found-shorter : {A : Type 0} (p : A → Bool) (xs : List A) (x : A) → find p xs ≡ Some x → length (filter (λ y. not (p y)) xs) + 1 ≤ length xs
found-shorter p [] x found = absurd (cc)
found-shorter p (y ∷ xs) x found = by (p y) found (found-shorter p xs x) (shorter (λ z. not (p z)) xs)
  where
    by : (b : Bool) → (if b then Some y else find p xs) ≡ Some x → (find p xs ≡ Some x → length (filter (λ z. not (p z)) xs) + 1 ≤ length xs)
        → length (filter (λ z. not (p z)) xs) ≤ length xs → length (if not b then y ∷ filter (λ z. not (p z)) xs else filter (λ z. not (p z)) xs) + 1
        ≤ suc (length xs)
    by true e again few = omega arith
    by false e again few = let rest = again e in omega arith

insert-longer : (row : Row) (rows : List Row) → length (insert_row row rows) ≡ suc (length rows)
insert-longer row [] = refl
insert-longer row (r ∷ rows) = let rest = insert-longer row rows in choice (λ (ys : List Row). length ys ≡ suc (suc (length rows))) (row_before row r)
    (row ∷ r ∷ rows) (r ∷ insert_row row rows) (λ e. refl) (λ e. omega arith)

pub dropped-shorter : (file host : ℕ) (rows : List Row) (row : Row) → find_row file host rows ≡ Some row → length (drop_row file host rows) + 1 ≤ length rows
dropped-shorter file host rows row found = found-shorter (is_row_of file host) rows row found

put-most : (row : Row) (rows : List Row) → length (put_row row rows) ≤ suc (length rows)
put-most row rows =
    let a = insert-longer row (drop_row row.file row.who.host rows) in
    let b = shorter (λ r. not (is_row_of row.file row.who.host r)) rows in
    omega arith

put-own : (row own : Row) (rows : List Row) → find_row row.file row.who.host rows ≡ Some own → length (put_row row rows) ≤ length rows
put-own row own rows found =
    let a = insert-longer row (drop_row row.file row.who.host rows) in
    let b = dropped-shorter row.file row.who.host rows own found in
    omega arith

-- no more rows than there may be
abbrev Few : List Row → Type 0
Few rows = length rows ≤ most_rows

marked-few : (f by : ℕ) (access : Access) (rows : List Row) → Few rows → Few (marked f by access rows)
marked-few f by access rows few = let same : length (marked f by access rows) ≡ length rows = length-map rows (mark f by access) in omega arith

own-put : (row own : Row) (rows : List Row) (file host : ℕ) → row.file ≡ file → row.who.host ≡ host → find_row file host rows ≡ Some own → Few rows
    → Few (put_row row rows)
own-put row own rows file host at by has few =
    let there : find_row row.file row.who.host rows ≡ Some own = subst (λ f. find_row f row.who.host rows ≡ Some own) (sym at)
    (subst (λ h. find_row file h rows ≡ Some own) (sym by) has) in
    let most = put-own row own rows there in
    omega arith

module _ (s : Server) (few : Few s.table.rows) where
  vacated : (who : Who) (f : ℕ) (tag : Tag) (o : Option Row) → Few (vacated_rows who f tag s.table.rows o)
  vacated who f tag None = few
  vacated who f tag (Some row) = choice Few (row.who.inc == who.inc && same_tag row.tag tag) (drop_row f who.host s.table.rows) s.table.rows
      (λ e. let less = shorter (λ r. not (is_row_of f who.host r)) s.table.rows in omega arith) (λ e. few)

  granted : (q : Question) (want : Want) (row : Row) (term : ℕ) → IsGranted s.table q want row term → Few (put_row row s.table.rows)
  unfolding shared_again sharing_row caching_row renewed_row
  granted q want row term (shares_again own has quiet alone is t) =
      let k = found-row q.file q.who.host s.table.rows own has in
      own-put row own s.table.rows q.file q.who.host (ap (λ (x : Row). x.file) is ∙ k.0) (ap (λ (x : Row). x.who.host) is ∙ k.1) has few
  granted q want row term (begins_sharing none room some is t) = let a = is-below _ _ room in let b = put-most row s.table.rows in omega arith
  granted q want row term (begins_caching none room unshared is t) = let a = is-below _ _ room in let b = put-most row s.table.rows in omega arith
  granted q want row term (renews_row own has quiet caching is t) =
      let k = found-row q.file q.who.host s.table.rows own has in
      own-put row own s.table.rows q.file q.who.host (ap (λ (x : Row). x.file) is ∙ k.0) (ap (λ (x : Row). x.who.host) is ∙ k.1) has few

  waiting-few : (row : Row) (rows : List Row) → length rows < most_rows → Few (put_row row rows)
  waiting-few row rows room = let b = put-most row rows in omega arith

  receives : (sender next : ℕ) (d : Datagram) → Few (receive s sender next d).server.table.rows
  unfolding with_rows after_draw sharing_row
  receives sender next d = server-moves s sender next d (λ kept phase table. Few table.rows) (record {
    stays = few;
    decided = λ kept phase table who line inc same rest. rest;
    attaching = λ who later. let less = shorter (λ r. not (r.who.host == who.host)) s.table.rows in omega arith;
    vacating = λ who f tag current. vacated who f tag (find_row f who.host s.table.rows);
    marking = λ f h access serves. marked-few f h access s.table.rows few;
    marking_waiting = λ xid r who f want e wants asking none room. waiting-few _ (marked f.id who.host (access_of (Some want)) s.table.rows)
        (is-below _ _ room);
    granting = λ xid r who f want new term e wants asking none g. granted (to_read s who f (Some want)) want new term g;
    creating = λ name blocks serves can. few;
    changing = λ who f new serves current at same none. few;
    storing = λ who f new base own serves current at same can. own-put (record own { heard = s.now }) own s.table.rows own.file own.who.host refl refl
        (let k = found-row f.id who.host s.table.rows own can.row_found in subst (λ h. find_row own.file h s.table.rows ≡ Some own) (sym k.1)
        (subst (λ g. find_row g who.host s.table.rows ≡ Some own) (sym k.0) can.row_found)) few;
    storing_recovering = λ f new until heard last recovers at same. few;
    removing = λ who f serves current at none. let less = shorter (λ r. not (r.file == f.id)) s.table.rows in omega arith;
  })

  ticked : (now : ℕ) → Few (tick s now).server.table.rows
  unfolding with_rows
  ticked now = tick-moves s now (λ kept phase table. Few table.rows) (record {
    waits = λ until heard last is goes_on. few;
    opening = λ until heard last is over. few;
    ends_reading = λ serves. ended now;
    ending_writing = λ row serves due. let a = ended now in let b = shorter (λ r. not (is_row_of row.file row.who.host r))
        (end_reading now s.table.rows) in omega arith;
  })
    where
      ended : (now : ℕ) → Few (end_reading now s.table.rows)
      ended now = let less = shorter (λ r. not (is_over now r)) s.table.rows in omega arith

acted : (w : World) (t : ServerStep) → ServerActs w t → Few w.server.table.rows → Few t.server.table.rows
unfolding crash boot empty_table
acted w t (received k p sent to is) few = subst (λ (u : ServerStep). Few u.server.table.rows) (sym is) (receives w.server few (sending_host p.sender)
    (length w.packets) (datagram_of p.message))
acted w t (ticks is) few = subst (λ (u : ServerStep). Few u.server.table.rows) (sym is) (ticked w.server few (w.server.now + 1))
acted w t (crashes longest is) few = subst (λ (u : ServerStep). Few u.server.table.rows) (sym is) (none most_rows)
  where
    none : (n : ℕ) → 0 ≤ n
    none n = omega arith

changed : (w v : World) → Changes w v → Few w.server.table.rows → Few v.server.table.rows
unfolding after_client after_server
changed w v (nothing is) few = subst (λ (u : World). Few u.server.table.rows) (sym is) few
changed w v (by_client host c t at acts to) few = subst (λ (u : World). Few u.server.table.rows) (sym to) few
changed w v (by_server t acts to) few = subst (λ (u : World). Few u.server.table.rows) (sym to) (acted w t acts few)

pub few-rows : (head : Head) (events : List Event) → length (run head events).server.table.rows ≤ most_rows
unfolding start boot empty_table
few-rows head [] = none most_rows
  where
    none : (n : ℕ) → 0 ≤ n
    none n = omega arith
few-rows head (e ∷ events) = changed (run head events) (run head (e ∷ events)) (step-changes (run head events) e) (few-rows head events)
