-- A VACATED is delivered, and the request right behind it: what becomes of the rows.
use Rattle.std.proofs.Common.{◌≡◌, ◌≢◌, ◌≤◌, ◌<◌, ◌⊎◌, ℕ, ◌==◌, Bool, true, false, nat_lt, List, Option, Some, None, length, refl, sym, ap, subst}
use Rattle.std.proofs.Common.{◌∙◌, arith, inl, inr}
use Rattle.std.proofs.lemmas.Bool.Decides.{nat_tests}
use Rattle.std.proofs.lemmas.Bool.{and_parts}
use Rattle.nq_base.specs.declared.Question.{Question}
use Rattle.nq_base.specs.declared.Request.{Request}
use Rattle.nq_base.specs.declared.Row.{Row}
use Rattle.nq_base.specs.declared.Tag.{Tag}
use Rattle.nq_base.specs.declared.Want.{Want}
use Rattle.nq_base.specs.declared.Who.{Who}
use Rattle.nq_model.specs.protocol.Ask.{ask, conflicts, mode_conflicts, marked, sharing_row, caching_row, shared_again, renewed_row, put_off_by_own, granted}
use Rattle.nq_model.specs.protocol.Ask.{no_lease, free}
use Rattle.nq_model.specs.protocol.Client.{Client}
use Rattle.nq_model.specs.protocol.Hear.{wants_of}
use Rattle.nq_model.specs.protocol.Profile.{most_rows}
use Rattle.nq_model.specs.protocol.Server.{ServerStep}
use Rattle.nq_model.specs.protocol.ServerStep.{access_of_mode}
use Rattle.nq_model.specs.protocol.Table.{Table, caches, is_writing, find_row, drop_row, put_row, with_rows, after_draw, same_tag}
use Rattle.nq_model.specs.protocol.World.{World}
use Rattle.walk_steps.proofs.ClientMoves.{some-same, none-some}
use Rattle.walk_steps.proofs.AskCases.{IsGranted, shares_again, begins_sharing, begins_caching, renews_row, own_in, clash_in, has_room, asks}
use Rattle.walk_steps.proofs.RowChanges.{find-row-dropped, find-other-dropped, is-clash}
use Rattle.walk_steps.proofs.Rows.{found-row, same-number, number-same, find-passes}
use Rattle.law_rounds.proofs.Asked.{is_taken, rows_without, question_of, writes_for, IsOf, question-is, IsSame, same-question, same-after, Hears, mute, asked}
use Rattle.law_rounds.proofs.AskSteps.{Outcome, falls, goes_on, outcome-self, OwnRow, caching, sharing, own-asks, new-asks}
use Rattle.law_rounds.proofs.Energy.{energy, wish, doomed-goes}
use Rattle.law_rounds.proofs.Facts.{Facts, AskersHaveRows}
use Rattle.law_rounds.proofs.Forms.{HasGoodRow}
use Rattle.law_rounds.proofs.GoodRows.{IsGood, shares, goes, serves_it, good-same, good-marked, asker-keeps, asker-gets}
use Rattle.law_rounds.proofs.RowCount.{dropped-shorter}
use Rattle.law_rounds.proofs.RowSteps.{put-others, tame-dropped, dropped-none, going-doomed}

-- ---- the ask table leaves good rows of others good

module _ (table : Table) (q : Question) (file host : ℕ) (who : Who) (tag : Tag) (writes : Bool) (other : file ≡ q.file → host ≢ q.who.host) where
  abbrev GoodIn : List Row → Type 0
  GoodIn rows = IsGood rows file host who tag writes

  put-good : (rows : List Row) (row : Row) → row.file ≡ q.file → row.who.host ≡ q.who.host → GoodIn rows → GoodIn (put_row row rows)
  put-good rows row at by good = good-same rows (put_row row rows) file host who tag writes (put-others rows row file host
      (λ e same. other (e ∙ at) (same ∙ by))) good

  grants-good : (v : Want) (row : Row) (term : ℕ) → IsGranted table q v row term → GoodIn table.rows → GoodIn (put_row row table.rows)
  unfolding shared_again sharing_row caching_row renewed_row
  grants-good v row term (shares_again own has quiet alone is t) good = let k = found-row q.file q.who.host table.rows own has in
      put-good table.rows row (ap (λ (x : Row). x.file) is ∙ k.0) (ap (λ (x : Row). x.who.host) is ∙ k.1) good
  grants-good v row term (begins_sharing none room some is t) good = put-good table.rows row (ap (λ (x : Row). x.file) is)
      (ap (λ (x : Row). x.who.host) is) good
  grants-good v row term (begins_caching none room some is t) good = put-good table.rows row (ap (λ (x : Row). x.file) is)
      (ap (λ (x : Row). x.who.host) is) good
  grants-good v row term (renews_row own has quiet kind is t) good = let k = found-row q.file q.who.host table.rows own has in put-good table.rows row
      (ap (λ (x : Row). x.file) is ∙ k.0) (ap (λ (x : Row). x.who.host) is ∙ k.1) good

  pub others-good : GoodIn table.rows → GoodIn (ask table q).table.rows
  unfolding granted put_off_by_own no_lease free with_rows after_draw sharing_row
  others-good good = asks table q (λ a. GoodIn a.table.rows) (record {
    later = λ clash c. good-marked table.rows file host who tag writes q.file q.who.host q.access good;
    later_waiting = λ clash v c w n room. put-good (marked q.file q.who.host q.access table.rows) _ refl refl (good-marked table.rows file host who
        tag writes q.file q.who.host q.access good);
    freely = λ c w. good;
    later_by_own = λ v o c w h e. good;
    granting = λ v row term c w g. grants-good v row term g good;
    full = λ v c w n room. good;
  })

-- ---- a VACATED

taken-tag : (who : Who) (tag : Tag) (row : Row) → is_taken who tag (Some row) ≡ true → row.tag ≡ tag
taken-tag who tag row e =
    let a = and_parts _ _ (and_parts (row.who.inc == who.inc) (same_tag row.tag tag) e).1 in
    ap (λ n. record { boot = n; number = row.tag.number }) (same-number row.tag.boot tag.boot a.0) ∙ ap (λ n. record { boot = tag.boot; number = n })
    (same-number row.tag.number tag.number a.1)

-- the row that is taken
pub record Taken (rows : List Row) (file host : ℕ) (who : Who) (tag : Tag) : Type 0 where
  pub row : Row
  pub there : find_row file host rows ≡ Some row
  pub taken : is_taken who tag (Some row) ≡ true
  pub latest : row.tag ≡ tag

pub taken-row : (rows : List Row) (file host : ℕ) (who : Who) (tag : Tag) → is_taken who tag (find_row file host rows) ≡ true → Taken rows file host who tag
taken-row rows file host who tag e = by (find_row file host rows) refl e
  where
    by : (o : Option Row) → find_row file host rows ≡ o → is_taken who tag o ≡ true → Taken rows file host who tag
    by None is f = absurd (cc)
    by (Some row) is f = record { row = row; there = is; taken = f; latest = taken-tag who tag row f }

-- rows at other places are as before
pub without-others : (rows : List Row) (file : ℕ) (who : Who) (b : Bool) (f h : ℕ) → (f ≡ file → h ≢ who.host)
    → find_row f h (rows_without who file rows b) ≡ find_row f h rows
without-others rows file who true f h other = find-other-dropped file who.host f h rows other
without-others rows file who false f h other = refl

-- ---- the request right behind

module _ (hosts : ℕ) (wants : ℕ → Option Request) (has_rows : AskersHaveRows) (few : ℕ) (turns : Client → ℕ) (w u : World)
    (facts : Facts hosts few turns w) (behind : Facts hosts few turns u) (file host : ℕ) (who : Who) (tag : Tag) (r : Request) (from : who.host
    ≡ host) (below : host < hosts) (asks_it : wants host ≡ Some r) (wants_it : wants_of file r ≡ true) (wishes : wish (wants host) ≡ Some file) where
  abbrev before : List Row
  before = w.server.table.rows

  abbrev is_gone : Bool
  is_gone = is_taken who tag (find_row file host before)

  module _ (first : u.server.table.rows ≡ rows_without who file before is_gone) (same_first : IsSame w.server u.server) (t : ServerStep)
      (hears : Hears u.server (question_of u.server host r) t) (named : (row : Row) → find_row file host before ≡ Some row → row.tag ≡ tag
      → row.evicting ≡ true) where
    abbrev between : List Row
    between = u.server.table.rows

    abbrev after : List Row
    after = t.server.table.rows

    pub same-server : IsSame w.server t.server
    same-server = by hears
      where
        by : Hears u.server (question_of u.server host r) t → IsSame w.server t.server
        by (mute o s none same table) = same-after w.server u.server t.server same_first same
        by (asked o s q some same table) = same-after w.server u.server t.server same_first same

    -- the row is gone: there is none, and there is room for one
    gone-none : is_gone ≡ true → find_row file host between ≡ None
    gone-none e = ap (find_row file host) (first ∙ ap (rows_without who file before) e) ∙ subst (λ h. find_row file h (drop_row file who.host before)
        ≡ None) from (find-row-dropped file who.host before)

    gone-room : is_gone ≡ true → length between < most_rows
    gone-room e =
        let k = taken-row before file host who tag e in
        let shorter = dropped-shorter file who.host before k.row (subst (λ h. find_row file h before ≡ Some k.row) (sym from) k.there) in
        let same : length between ≡ length (drop_row file who.host before) = ap (λ (rows : List Row). length rows) (first
        ∙ ap (rows_without who file before) e) in
        let all = facts.few_rows in
        omega arith

    stays : is_gone ≡ false → between ≡ before
    stays e = first ∙ ap (rows_without who file before) e

    is-less : (a b : ℕ) → a < b → nat_lt a b ≡ true
    is-less a b less = grind (arith, nat_tests)

    module _ (q : Question) (of : IsOf q host file (writes_for r)) (table : t.server.table ≡ (ask u.server.table q).table) where
      own-at : own_in u.server.table q ≡ find_row file host between
      own-at = ap (λ f. find_row f q.who.host between) of.file_is ∙ ap (λ h. find_row file h between) of.host_is

      rows-are : after ≡ (ask u.server.table q).table.rows
      rows-are = ap (λ (x : Table). x.rows) table

      room-there : is_gone ≡ true → has_room u.server.table ≡ true
      room-there e = is-less (length between) most_rows (gone-room e)

      -- a good row of the host, after the request
      moved : (wh : Who) (tg : Tag) → IsGood (ask u.server.table q).table.rows q.file q.who.host wh tg (is_writing of.want.mode)
          → IsGood after file host wh tg (writes_for r)
      moved wh tg good =
          subst (λ b. IsGood after file host wh tg b) of.writes_is
          (subst (λ rows. IsGood rows file host wh tg (is_writing of.want.mode)) (sym rows-are)
          (subst (λ h. IsGood (ask u.server.table q).table.rows file h wh tg (is_writing of.want.mode)) of.host_is
          (subst (λ f. IsGood (ask u.server.table q).table.rows f q.who.host wh tg (is_writing of.want.mode)) of.file_is good)))

      back : (wh : Who) (tg : Tag) → IsGood between file host wh tg (writes_for r) → IsGood between q.file q.who.host wh tg (is_writing of.want.mode)
      back wh tg good =
          subst (λ f. IsGood between f q.who.host wh tg (is_writing of.want.mode)) (sym of.file_is)
          (subst (λ h. IsGood between file h wh tg (is_writing of.want.mode)) (sym of.host_is)
          (subst (λ b. IsGood between file host wh tg b) (sym of.writes_is) good))

      some-row : (wh : Who) (tg : Tag) → IsGood before file host wh tg (writes_for r) → (row : Row) × (find_row file host before ≡ Some row)
      some-row wh tg (shares row there kind) = (row, there)
      some-row wh tg (goes row there kind) = (row, there)
      some-row wh tg (serves_it row there kind) = (row, there)

      pub own-good : (wh : Who) (tg : Tag) → IsGood before file host wh tg (writes_for r) → IsGood after file host wh tg (writes_for r)
      own-good wh tg good = by is_gone refl
        where
          by : (b : Bool) → is_gone ≡ b → IsGood after file host wh tg (writes_for r)
          by true e =
              let some = has_rows u.server.table q of.want of.wants (gone-room e) in
              moved wh tg (asker-gets u.server.table q of.want of.wants wh tg (own-at ∙ gone-none e) (room-there e) some.0 some.1)
          by false e =
              let row = some-row wh tg good in
              let there : find_row file host between ≡ Some row.0 = ap (find_row file host) (stays e) ∙ row.1 in
              moved wh tg (asker-keeps u.server.table q of.want of.wants wh tg row.0 (own-at ∙ there)
              (back wh tg (subst (λ rows. IsGood rows file host wh tg (writes_for r)) (sym (stays e)) good)))

      -- ---- energy

      asker-below : q.who.host < hosts
      asker-below = subst (λ h. h < hosts) (sym of.host_is) below

      asker-wishes : wish (wants q.who.host) ≡ Some q.file
      asker-wishes = subst (λ h. wish (wants h) ≡ Some q.file) (sym of.host_is) (wishes ∙ ap Some (sym of.file_is))

      no-clash-for : (row : Row) → find_row file host between ≡ Some row → caches row.mode ≡ true → (writes_for r ≡ true → is_writing row.mode ≡ true)
          → clash_in u.server.table q ≡ None
      no-clash-for row there kind serves = by (clash_in u.server.table q) refl
        where
          which : (clashing : Row) → find_row file clashing.who.host between ≡ Some clashing → clashing.who.host ≢ host → (b : Bool) → writes_for r ≡ b
              → mode_conflicts (access_of_mode b) clashing.mode ≡ true → ⊥
          which clashing at other true e k =
              let no = behind.alone file host clashing.who.host row clashing there at other (serves e) in
              let bad : true ≡ false = sym k ∙ no in
              cc
          which clashing at other false e k =
              let no = behind.alone file clashing.who.host host clashing row at there (λ same. other (sym same)) k in
              let bad : true ≡ false = sym kind ∙ no in
              cc

          by : (o : Option Row) → clash_in u.server.table q ≡ o → clash_in u.server.table q ≡ None
          by None e = e
          by (Some clashing) e =
              let c = is-clash q.file q.who.host q.access clashing (find-passes (conflicts q.file q.who.host q.access) clashing between e) in
              let at : find_row file clashing.who.host between ≡ Some clashing =
              subst (λ f. find_row f clashing.who.host between ≡ Some clashing) (c.of_file ∙ of.file_is)
              (behind.members (conflicts q.file q.who.host q.access) clashing e) in
              let access : q.access ≡ access_of_mode (writes_for r) = of.access_is ∙ ap access_of_mode of.writes_is in
              let k : mode_conflicts (access_of_mode (writes_for r)) clashing.mode ≡ true = subst (λ a. mode_conflicts a clashing.mode ≡ true) access c.kind in
              absurd (which clashing at (λ same. c.other (same ∙ sym of.host_is)) (writes_for r) refl k)

      own-row : (row : Row) → find_row file host between ≡ Some row → (writes_for r ≡ true → is_writing row.mode ≡ true) ⊎ (caches row.mode ≡ false)
          → OwnRow hosts wants u.server.table q of.want of.wants asker-below asker-wishes row
      own-row row there (inr off) = sharing off
      own-row row there (inl serves) = by (caches row.mode) refl
        where
          by : (b : Bool) → caches row.mode ≡ b → OwnRow hosts wants u.server.table q of.want of.wants asker-below asker-wishes row
          by false e = sharing e
          by true e = caching e (no-clash-for row there e serves)

      own-out : (row : Row) → find_row file host between ≡ Some row → (writes_for r ≡ true → is_writing row.mode ≡ true) ⊎ (caches row.mode ≡ false)
          → Outcome hosts wants between after
      own-out row there kind = subst (λ rows. Outcome hosts wants between rows) (sym rows-are) (own-asks hosts wants u.server.table q of.want of.wants
          asker-below asker-wishes row (own-at ∙ there) (own-row row there kind))

      pub stays-out : is_gone ≡ false → IsGood before file host who tag (writes_for r) → Outcome hosts wants between after
      stays-out e (shares row there kind) = own-out row (ap (find_row file host) (stays e) ∙ there) (inr kind)
      stays-out e (serves_it row there kind) = own-out row (ap (find_row file host) (stays e) ∙ there) (inl kind)
      stays-out e (goes row there taken) = let yes : is_gone ≡ true = ap (is_taken who tag) there ∙ taken in let bad : true ≡ false = sym yes ∙ e in
          absurd (cc)

      pub gone-out : is_gone ≡ true → Outcome hosts wants between after
      gone-out e =
          let some = has_rows u.server.table q of.want of.wants (gone-room e) in
          subst (λ rows. Outcome hosts wants between rows) (sym rows-are) (new-asks hosts wants u.server.table q of.want of.wants asker-below
          asker-wishes (own-at ∙ gone-none e) (room-there e) some.0 some.1)

    -- where the row is gone, energy fell
    gone-falls : is_gone ≡ true → energy hosts wants between < energy hosts wants before
    gone-falls e =
        let k = taken-row before file host who tag e in
        let going = named k.row k.there k.latest in
        let kind = facts.going file host k.row k.there going in
        let is : between ≡ drop_row file host before = first ∙ ap (rows_without who file before) e ∙ ap (λ h. drop_row file h before) from in
        subst (λ rows. energy hosts wants rows < energy hosts wants before) (sym is)
        (doomed-goes hosts wants before (drop_row file host before) (tame-dropped hosts before file host k.row k.there kind) file host below wishes
        (going-doomed hosts before file host k.row k.there kind going) (dropped-none hosts before file host))

    outcome-no-more : (a b : List Row) → Outcome hosts wants a b → energy hosts wants b ≤ energy hosts wants a
    outcome-no-more a b (falls less) = omega arith
    outcome-no-more a b (goes_on no_more still) = no_more

    pub pair-falls : is_gone ≡ true → energy hosts wants after < energy hosts wants before
    pair-falls e = by hears
      where
        by : Hears u.server (question_of u.server host r) t → energy hosts wants after < energy hosts wants before
        by (mute o s none same table) =
            let less = gone-falls e in
            let is : after ≡ between = ap (λ (x : Table). x.rows) table in
            subst (λ rows. energy hosts wants rows < energy hosts wants before) (sym is) less
        by (asked o s q some same table) =
            let less = gone-falls e in
            let no_more = outcome-no-more between after (gone-out q (question-is u.server host file r q wants_it some) table e) in
            omega arith

    pub pair-out : HasGoodRow hosts wants w.server file host who tag r → Outcome hosts wants before after
    pair-out good = by is_gone refl hears
      where
        by : (b : Bool) → is_gone ≡ b → Hears u.server (question_of u.server host r) t → Outcome hosts wants before after
        by true e h = falls (pair-falls e)
        by false e (mute o s none same table) =
            let is : after ≡ before = ap (λ (x : Table). x.rows) table ∙ stays e in
            subst (λ rows. Outcome hosts wants before rows) (sym is) (outcome-self hosts wants before)
        by false e (asked o s q some same table) = which good
          where
            which : HasGoodRow hosts wants w.server file host who tag r → Outcome hosts wants before after
            which (inl g) = subst (λ rows. Outcome hosts wants rows after) (stays e) (stays-out q (question-is u.server host file r q wants_it some) table e g)
            which (inr none) = let no : question_of u.server host r ≡ None = same-question w.server u.server host r same_first ∙ none in
                absurd (none-some q (sym no ∙ some))

    -- good rows stay good
    pub pair-keeps : (f h : ℕ) (wh : Who) (tg : Tag) (wished : Request) → wants h ≡ Some wished → wants_of f wished ≡ true → HasGoodRow hosts wants w.server f h
        wh tg wished → HasGoodRow hosts wants t.server f h wh tg wished
    pair-keeps f h wh tg wished asks_two wants_two (inr none) = inr (same-question w.server t.server h wished same-server ∙ none)
    pair-keeps f h wh tg wished asks_two wants_two (inl good) = place (f == file) (h == host) refl refl
      where
        elsewhere : (f ≡ file → h ≢ host) → HasGoodRow hosts wants t.server f h wh tg wished
        elsewhere other = inl (by hears)
          where
            here : IsGood between f h wh tg (writes_for wished)
            here = good-same before between f h wh tg (writes_for wished) (ap (find_row f h) first ∙ without-others before file who is_gone f h
                (λ e same. other e (same ∙ from))) good

            by : Hears u.server (question_of u.server host r) t → IsGood after f h wh tg (writes_for wished)
            by (mute o s none same table) = subst (λ (x : Table). IsGood x.rows f h wh tg (writes_for wished)) (sym table) here
            by (asked o s q some same table) =
                let of = question-is u.server host file r q wants_it some in
                subst (λ (x : Table). IsGood x.rows f h wh tg (writes_for wished)) (sym table) (others-good u.server.table q f h wh tg (writes_for wished)
                (λ e same. other (e ∙ of.file_is) (same ∙ of.host_is)) here)

        at-own : f ≡ file → h ≡ host → HasGoodRow hosts wants t.server f h wh tg wished
        at-own at by_host =
            let one : wished ≡ r = some-same wished r (sym asks_two ∙ ap wants by_host ∙ asks_it) in
            subst (λ g. HasGoodRow hosts wants t.server g h wh tg wished) (sym at) (subst (λ n. HasGoodRow hosts wants t.server file n wh tg wished)
            (sym by_host) (subst (λ x. HasGoodRow hosts wants t.server file host wh tg x) (sym one)
            (by hears (subst (λ x. IsGood before file host wh tg (writes_for x)) one (subst (λ n. IsGood before file n wh tg (writes_for wished)) by_host
            (subst (λ g. IsGood before g h wh tg (writes_for wished)) at good))))))
          where
            by : Hears u.server (question_of u.server host r) t → IsGood before file host wh tg (writes_for r) → HasGoodRow hosts wants t.server file
                host wh tg r
            by (mute o s none same table) g = inr (same-question u.server t.server host r same ∙ none)
            by (asked o s q some same table) g = inl (own-good q (question-is u.server host file r q wants_it some) table wh tg g)

        place : (a b : Bool) → (f == file) ≡ a → (h == host) ≡ b → HasGoodRow hosts wants t.server f h wh tg wished
        place true true x y = at-own (same-number f file x) (same-number h host y)
        place true false x y = elsewhere (λ e same. let sure : (h == host) ≡ true = number-same h host same in let bad : true ≡ false = sym sure ∙ y in cc)
        place false b x y = elsewhere (λ e same. let sure : (f == file) ≡ true = number-same f file e in let bad : true ≡ false = sym sure ∙ x in cc)
