-- What becomes of a request that wants a lease: its host has a row then, which lets it cache, or shares the file for the shortest term; and a reply to
-- GETLEASE brings no lease that does not cache, but where it shares the file.
use Rattle.std.proofs.Common.{◌≡◌, ◌≤◌, ◌<◌, ◌⊎◌, ℕ, ◌+◌, Bool, true, false, List, Some}
use Rattle.std.proofs.Common.{if◌then◌else◌, refl, sym, ap, subst, ◌∙◌, arith, inl, inr, length}
use Rattle.nq_base.specs.declared.Asked.{Asked}
use Rattle.nq_base.specs.declared.Question.{Question}
use Rattle.nq_base.specs.declared.Row.{Row}
use Rattle.nq_base.specs.declared.Want.{Want}
use Rattle.nq_model.specs.protocol.Ask.{Reply, ask}
use Rattle.nq_model.specs.protocol.Server.{quiet}
use Rattle.nq_model.specs.protocol.Table.{is_writing, find_row, with_rows}
use Rattle.walk_steps.proofs.ClientMoves.{some-same}
use Rattle.walk_steps.proofs.Tests.{is-not-below}
use Rattle.nq_base.specs.declared.Grant.{Grant}
use Rattle.nq_model.specs.protocol.Profile.{shortest_term, most_rows}
use Rattle.nq_model.specs.protocol.Ask.{sharing_row, caching_row, shared_again, renewed_row, grant_of, free as free_reply, put_off_by_own, granted, no_lease}
use Rattle.nq_model.specs.protocol.Ask.{term_of, marked}
use Rattle.std.specs.Prelude.{max, min}
use Rattle.nq_base.specs.declared.Mode.{Mode}
use Rattle.nq_model.specs.protocol.Profile.{skew}
use Rattle.nq_model.specs.protocol.Table.{Table, caches, greater_mode, put_row, after_draw}
use Rattle.walk_steps.proofs.ClientMoves.{none-some}
use Rattle.walk_steps.proofs.AskCases.{with_marked, asks, IsGranted, shares_again, begins_sharing, begins_caching, renews_row}
use Rattle.walk_steps.proofs.RowChanges.{mark-is, found-marked, find-put-same}
use Rattle.walk_steps.proofs.Rows.{found-row}

-- ---- by the ask table

greater-caches : (m n : Mode) → caches m ≡ true → caches (greater_mode m n) ≡ true
greater-caches Mode.NonCaching n e = let bad : false ≡ true = e in absurd (cc)
greater-caches Mode.Reading n e = by (is_writing n)
  where
    by : (b : Bool) → caches (if b then Mode.Writing else Mode.Reading) ≡ true
    by true = refl
    by false = refl
greater-caches Mode.Writing n e = refl

shortest : (now m : ℕ) → now + shortest_term ≤ now + max shortest_term m
shortest now m = omega arith

module _ (table : Table) (q : Question) (want : Want) (wants : q.want ≡ Some want) (room : length table.rows < most_rows)
    (own : (row : Row) → find_row q.file q.who.host table.rows ≡ Some row → caches row.mode ≡ true) where
  -- the asker's row lets it cache, or it shares the file for the shortest term
  abbrev pub Lasts : List Row → Type 0
  Lasts rows = (row : Row) → find_row q.file q.who.host rows ≡ Some row → caches row.mode ≡ false → q.time + shortest_term ≤ row.until

  -- a lease that is granted lets it cache, or it shares the file
  abbrev pub Brings : Reply → Type 0
  Brings r = (g : Grant) → r.asked ≡ Asked.Granted g → (caches g.mode ≡ true) ⊎ ((row : Row) × (find_row q.file q.who.host r.table.rows ≡ Some row)
      × (caches row.mode ≡ false))

  pub record Fine (r : Reply) : Type 0 where
    pub lasts : Lasts r.table.rows
    pub brings : Brings r
    pub roomy : r.asked ≡ Asked.NoLease → ⊥
    pub wanted : r.asked ≡ Asked.Free → ⊥

  old-lasts : Lasts table.rows
  old-lasts row found off = let yes = own row found in let bad : true ≡ false = sym yes ∙ off in absurd (cc)

  marked-lasts : Lasts (marked q.file q.who.host q.access table.rows)
  marked-lasts row found off =
      let m = found-marked q.file q.who.host q.access q.file q.who.host table.rows row found in
      let yes = own m.was m.found in
      let same : row.mode ≡ m.was.mode = ap (λ (z : Row). z.mode) m.is ∙ (mark-is q.file q.who.host q.access m.was).mode in
      let bad : true ≡ false = sym yes ∙ ap caches (sym same) ∙ off in
      absurd (cc)

  put-lasts : (new : Row) (rows : List Row) → new.file ≡ q.file → new.who.host ≡ q.who.host → (caches new.mode ≡ false → q.time + shortest_term ≤ new.until)
      → Lasts (put_row new rows)
  put-lasts new rows of_file of_host so row found off =
      let there : find_row q.file q.who.host (put_row new rows) ≡ Some new = subst (λ h. find_row q.file h (put_row new rows) ≡ Some new) of_host (subst
      (λ f. find_row f new.who.host (put_row new rows) ≡ Some new) of_file (find-put-same new rows)) in
      let one : row ≡ new = some-same row new (sym found ∙ there) in
      let late = so (ap (λ (z : Row). caches z.mode) (sym one) ∙ off) in
      subst (λ (z : Row). q.time + shortest_term ≤ z.until) (sym one) late

  granted-fine : (w : Want) (row : Row) (term : ℕ) → IsGranted table q w row term → Fine (granted table q row term)
  unfolding granted after_draw grant_of shared_again sharing_row caching_row renewed_row
  granted-fine w row term g = record {
    lasts = put-lasts row table.rows (k g).0 (k g).1 (so g);
    brings = λ o is. by o is (caches row.mode) refl;
    roomy = λ e. let bad : Asked.Granted (grant_of q row term) ≡ Asked.NoLease = e in cc;
    wanted = λ e. let bad : Asked.Granted (grant_of q row term) ≡ Asked.Free = e in cc;
  }
    where
      k : IsGranted table q w row term → (row.file ≡ q.file) × (row.who.host ≡ q.who.host)
      k (shares_again own_row has quiet alone is t) = let o = found-row q.file q.who.host table.rows own_row has in (
        ap (λ (z : Row). z.file) is ∙ o.0,
        ap
            (λ (z : Row). z.who.host) is ∙ o.1,
      )
      k (begins_sharing none free some is t) = (ap (λ (z : Row). z.file) is, ap (λ (z : Row). z.who.host) is)
      k (begins_caching none free unshared is t) = (ap (λ (z : Row). z.file) is, ap (λ (z : Row). z.who.host) is)
      k (renews_row own_row has quiet caching is t) = let o = found-row q.file q.who.host table.rows own_row has in (
        ap (λ (z : Row). z.file) is ∙ o.0,
        ap
            (λ (z : Row). z.who.host) is ∙ o.1,
      )

      so : IsGranted table q w row term → caches row.mode ≡ false → q.time + shortest_term ≤ row.until
      so (shares_again own_row has quiet alone is t) off = let yes = own own_row has in let bad : true ≡ false = sym yes ∙ alone in absurd (cc)
      so (begins_sharing none free some is t) off =
          let until : row.until ≡ q.time + term_of q w = ap (λ (z : Row). z.until) is in
          let long = shortest q.time (min q.longest w.term) in
          omega arith
      so (begins_caching none free unshared is t) off =
          let until : row.until ≡ q.time + term_of q w + skew = ap (λ (z : Row). z.until) is in
          let long = shortest q.time (min q.longest w.term) in
          omega arith
      so (renews_row own_row has quiet caching is t) off =
          let yes : caches row.mode ≡ true = ap (λ (z : Row). caches z.mode) is ∙ greater-caches own_row.mode w.mode caching in
          let bad : true ≡ false = sym yes ∙ off in
          absurd (cc)

      by : (o : Grant) → Asked.Granted (grant_of q row term) ≡ Asked.Granted o → (b : Bool) → caches row.mode ≡ b → (caches o.mode ≡ true)
          ⊎ ((z : Row) × (find_row q.file q.who.host (put_row row table.rows) ≡ Some z) × (caches z.mode ≡ false))
      by o is true e = let same : grant_of q row term ≡ o = cc in inl (ap (λ (z : Grant). caches z.mode) (sym same) ∙ e)
      by o is false e = inr (
        row,
        subst (λ h. find_row q.file h (put_row row table.rows) ≡ Some row) (k g).1 (subst (λ f. find_row f row.who.host (put_row row
            table.rows) ≡ Some row) (k g).0 (find-put-same row table.rows)),
        e,
      )

  pub ask-fine : Fine (ask table q)
  unfolding with_rows free_reply put_off_by_own no_lease after_draw sharing_row
  ask-fine = asks table q Fine (record {
    later = λ clash c. record { lasts = marked-lasts; brings = λ g e. cc; roomy = λ e. cc; wanted = λ e. cc };
    later_waiting = λ clash w c wants_it none roomy. record {
      lasts = put-lasts (sharing_row (with_marked table q) q (term_of q w)) (marked q.file q.who.host q.access table.rows) refl refl
          (λ off. shortest q.time _);
      brings = λ g e. cc;
      roomy = λ e. cc;
      wanted = λ e. cc;
    };
    freely = λ c none. none-some want (sym none ∙ wants);
    later_by_own = λ w own_row c wants_it has going. record { lasts = old-lasts; brings = λ g e. cc; roomy = λ e. cc; wanted = λ e. cc };
    granting = λ w row term c wants_it g. granted-fine w row term g;
    full = λ w c wants_it none no_room. let bad = is-not-below (length table.rows) most_rows no_room in absurd (omega arith);
  })
