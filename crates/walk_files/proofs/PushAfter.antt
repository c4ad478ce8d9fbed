-- A push of the kept incarnation that is not decided yet is fenced, or its row stands: kept by each step.
use Rattle.std.proofs.Common.{◌≡◌, ◌<◌, ◌≤◌, ◌⊎◌, ℕ, true, false, List, Some, refl, sym, subst, ap, ◌∙◌, arith, inl, inr}
use Rattle.std.proofs.lemmas.Bool.Decides.{nat_tests}
use Rattle.nq_base.specs.declared.Event.{Event}
use Rattle.nq_base.specs.declared.Mode.{Mode}
use Rattle.nq_base.specs.declared.PushBase.{PushBase}
use Rattle.nq_base.specs.declared.Request.{Request}
use Rattle.nq_base.specs.declared.Row.{Row}
use Rattle.nq_base.specs.declared.Tag.{Tag}
use Rattle.nq_base.specs.declared.Who.{Who}
use Rattle.walk_files.proofs.ChainAfter.{drawn-below}
use Rattle.walk_files.proofs.ServerChains.{RowOn, goes_on, vacated, superseded, loosened, removed, reopened, RowsMove, LineTo, line_stays}
use Rattle.walk_files.proofs.ServerChains.{line_begins, line_decides, FileGrows, rev_stays, rev_rises, rev_gone}
use Rattle.walk_files.proofs.ChainFacts.{line_for, done_at, rev_at, IsFenced, gone, ahead, earlier, IsBoundOrFenced, bound, fenced, IsPushed}
use Rattle.walk_files.proofs.ChainFacts.{ChainFits, StandsWriting, PushFits, PushesFit}
use Rattle.walk_files.proofs.ChainLists.{fresh-undone}
use Rattle.nq_model.specs.laws.Chained.{due}
use Rattle.walk_steps.proofs.ClientMoves.{some-same, none-some}
use Rattle.walk_steps.proofs.ClientWrites.{writes-under-way}
use Rattle.nq_model.specs.protocol.Client.{Client, Ticket, is_push_of, push_passes, is_clean_in}
use Rattle.nq_model.specs.protocol.Kept.{File, find_file, host_row}
use Rattle.nq_model.specs.protocol.Message.{Packet, asker, sequence_of}
use Rattle.nq_model.specs.protocol.Server.{Server, standing}
use Rattle.nq_model.specs.protocol.Table.{is_writing, same_tag, tag_below, find_row, next_tag}
use Rattle.walk_steps.proofs.ClientSteps.{KnowsOf}
use Rattle.walk_steps.proofs.HostLine.{IsSettled}
use Rattle.walk_steps.proofs.Packets.{Asked, Mail}
use Rattle.walk_steps.proofs.TagFacts.{IsDrawn}
use Rattle.walk_steps.proofs.Incarnations.{one-who}
use Rattle.walk_steps.proofs.Modes.{writing-caches, at-least-writing}
use Rattle.walk_steps.proofs.Rows.{number-same}

-- what was sent since is no request of the kept incarnation
pub pushes-sends : (s : Server) (host : ℕ) (ps qs : List Packet)
    → ((x : ℕ) (r : Request) (v : Who) → Asked qs host x r → asker r ≡ Some v → v.inc ≡ (host_row s.kept host).inc → Asked ps host x r)
    → PushesFit s host ps → PushesFit s host qs
pushes-sends s host ps qs old h x w n file block first last base body sent here inc waits =
    let k = h x w n file block first last base body (old x _ w sent refl inc) here inc waits in
    record { numbered = k.numbered; stands = step k.stands }
  where
    step : IsFenced s.kept file base.boot base.base ⊎ StandsWriting (standing s) s.kept w file base ps
        → IsFenced s.kept file base.boot base.base ⊎ StandsWriting (standing s) s.kept w file base qs
    step (inl k) = inl k
    step (inr st) = inr (record {
      row = st.row;
      own = st.own;
      writes = st.writes;
      past =
          λ y v tag asked i. st.past y v tag
          (subst (λ m. Asked ps m y (Request.Vacated v file tag)) (sym here)
          (old y (Request.Vacated v file tag) v (subst (λ m. Asked qs m y (Request.Vacated v file tag)) here asked) refl (i ∙ inc))) i;
      boot = st.boot;
      rev = st.rev;
    })

-- the running incarnation, where it is the kept one, has one such push at most: the one under way
pub pushes-running : (s : Server) (events : List Event) (host : ℕ) (c : Client) (ps : List Packet) → c.who.host ≡ host
    → (host_row s.kept host).inc ≡ c.who.inc → (standing s).boot ≡ s.kept.opened → KnowsOf (line_for s.kept c.who) s events c ps
    → Mail c.who c.xid c.ticket ps → ChainFits s c ps → PushesFit s host ps
pushes-running s events host c ps at kept boots knows mail h x w n file block first last base body sent here inc waits =
    step (knows.lined.settled kept' x r w n sent' refl running refl)
  where
    r : Request
    r = Request.Write w n file block first last (Some base) body

    kept' : (line_for s.kept c.who).inc ≡ c.who.inc
    kept' = ap (λ m. (host_row s.kept m).inc) at ∙ kept

    running : w.inc ≡ c.who.inc
    running = inc ∙ kept

    sent' : Asked ps c.who.host x r
    sent' = subst (λ m. Asked ps m x r) (sym at) sent

    one : w ≡ c.who
    one = one-who w c.who (here ∙ sym at) running

    waits' : (line_for s.kept c.who).seq < n
    waits' = subst (λ m. (host_row s.kept m).seq < n) (sym at) waits

    from : (u : Ticket) → c.ticket ≡ Some u → u.request ≡ r → PushFits (standing s) s.kept c.who file base ps
    from u asked is = record { numbered = h.held.numbered file p.lease p.held; stands = by (h.writes.bound file p.lease unclean p.held) } where
      p : IsPushed c.leases c.revisions c.push file base (record { file = file; block = block; first = first; last = last; body = body })
      p = h.writes.pushed u w n file block first last base body asked is

      unclean : is_clean_in file c.dirty c.push ≡ false
      unclean = writes-under-way file c.dirty c.push (subst (λ o. push_passes (is_push_of file) o ≡ true) (sym p.under_way) (number-same file file refl))

      undone : done_at s.kept c.who c.ticket file ≡ false
      undone = ap (λ o. done_at s.kept c.who o file) asked ∙ fresh-undone (line_for s.kept c.who) c.who.inc file n u.request (ap sequence_of is) (λ e. waits')

      writing : is_writing p.lease.mode ≡ true
      writing = let l = h.writes.held file unclean in subst (λ z. is_writing z.mode ≡ true) (some-same l.0 p.lease (sym l.1 ∙ p.held)) l.2

      drawn-boot : (boot drawn : ℕ) → boot ≡ s.kept.opened → IsDrawn boot drawn p.lease.tag → p.lease.tag.boot ≤ s.kept.opened
      drawn-boot boot drawn same (inl below) = omega arith
      drawn-boot boot drawn same (inr is) = let a = is.0 in omega arith

      by : IsBoundOrFenced (standing s) s.kept c.who file p.lease.tag (due (done_at s.kept c.who c.ticket file) (rev_at c.revisions file))
          → IsFenced s.kept file base.boot base.base ⊎ StandsWriting (standing s) s.kept c.who file base ps
      by (fenced k) =
          inl (subst (λ b. IsFenced s.kept file b base.base) (sym p.boot)
          (subst (λ v. IsFenced s.kept file p.lease.tag.boot v) (ap (λ d. due d (rev_at c.revisions file)) undone ∙ sym p.rev) k))
      by (bound row k) =
          let knows' = h.held.chained file p.lease row p.held (writing-caches p.lease.mode writing) k in
          inr (record {
            row = row;
            own = k.own;
            writes = at-least-writing row.mode p.lease.mode writing knows'.kind;
            past =
                λ y v tag asked i. after tag p.lease.tag row.tag (knows.tagged.past_held y v file tag p.lease asked i p.held)
                (h.held.below file p.lease row p.held k.own);
            boot =
                let same = p.boot in let below = drawn-boot (standing s).boot (standing s).drawn boots (knows.tagged.held file p.lease p.held) in
                omega arith;
            rev = λ f found.
                let f' : knows'.f ≡ f = some-same knows'.f f (sym knows'.found ∙ found) in
                let same : f.rev ≡ base.base = ap (λ z. z.rev) (sym f') ∙ knows'.revision ∙ ap (λ d. due d (rev_at c.revisions file)) undone ∙ sym p.rev in
                omega arith;
          })
        where
          after : (v l row : Tag) → tag_below v l ≡ true → tag_below row l ≡ false → tag_below v row ≡ true
          after v l row a b = grind (arith, nat_tests)

    step : IsSettled c.ticket (line_for s.kept c.who).seq x n → PushFits (standing s) s.kept w file base ps
    step (inl below) = let later = waits' in absurd (omega arith)
    step (inr u) = subst (λ v. PushFits (standing s) s.kept v file base ps) (sym one) (from u.0 u.1 ((mail.asked x r w sent' refl).same running u.0 u.1 u.2))

-- ---- a step of the server

module _ (ps qs : List Packet) (s t : Server) (host : ℕ) (rows : RowsMove ps s t host) (line : LineTo ps s t host)
    (grows : (file : ℕ) → file < s.kept.next → FileGrows s t file) (next : s.kept.next ≤ t.kept.next) (opened : s.kept.opened ≤ t.kept.opened)
    (old : (x : ℕ) (r : Request) → Asked qs host x r → Asked ps host x r)
    (above : (x : ℕ) (r : Request) (w : Who) → Asked ps host x r → asker r ≡ Some w → (host_row s.kept host).inc < w.inc → r ≡ Request.Attach w)
    (drawn : (file : ℕ) (row : Row) → find_row file host (standing s).rows ≡ Some row → IsDrawn (standing s).boot (standing s).drawn row.tag) where
  fenced-grows : (file boot rev : ℕ) → file < s.kept.next → IsFenced s.kept file boot rev → IsFenced t.kept file boot rev
  fenced-grows file boot rev numbered (earlier below) = earlier (omega arith)
  fenced-grows file boot rev numbered (gone none) = step (grows file numbered)
    where
      step : FileGrows s t file → IsFenced t.kept file boot rev
      step (rev_stays same) = gone (same ∙ none)
      step (rev_rises f f' found found' rises) = none-some f (sym none ∙ found)
      step (rev_gone lost) = gone lost
  fenced-grows file boot rev numbered (ahead g there below) = step (grows file numbered)
    where
      step : FileGrows s t file → IsFenced t.kept file boot rev
      step (rev_stays same) = ahead g (same ∙ there) below
      step (rev_rises f f' found found' rises) = let one : g.rev ≡ f.rev = ap (λ z. z.rev) (some-same g f (sym there ∙ found)) in ahead f' found' (omega arith)
      step (rev_gone lost) = gone lost

  -- the base of a push is no further ahead
  rev-grows : (file rev : ℕ) → file < s.kept.next → ((f : File) → find_file file s.kept.files ≡ Some f → rev ≤ f.rev) → FileGrows s t file → (f' : File)
      → find_file file t.kept.files ≡ Some f' → rev ≤ f'.rev
  rev-grows file rev numbered below (rev_stays same) f' found' = below f' (sym same ∙ found')
  rev-grows file rev numbered below (rev_rises f g found there rises) f' found' =
      let was = below f found in let one : g.rev ≡ f'.rev = ap (λ z. z.rev) (some-same g f' (sym there ∙ found')) in omega arith
  rev-grows file rev numbered below (rev_gone lost) f' found' = none-some f' (sym lost ∙ found')

  later-above : (v a : Tag) (row row' : Row) → IsDrawn (standing s).boot (standing s).drawn row.tag → tag_below v row.tag ≡ true
      → (row'.tag ≡ row.tag) ⊎ (row'.tag ≡ next_tag (standing s)) → tag_below v row'.tag ≡ true
  later-above v a row row' d below (inl same) = subst (λ z. tag_below v z ≡ true) (sym same) below
  later-above v a row row' d below (inr fresh) =
      subst (λ z. tag_below v z ≡ true) (sym fresh) (both v row.tag (next_tag (standing s)) below (drawn-below (standing s) row.tag d))
    where
      both : (x y z : Tag) → tag_below x y ≡ true → tag_below y z ≡ true → tag_below x z ≡ true
      both x y z p q = grind (arith, nat_tests)

  stands-after : (w : Who) (file : ℕ) (base : PushBase) → w.host ≡ host → file < s.kept.next
      → ((host_row s.kept host).inc < (host_row t.kept host).inc → ⊥) → StandsWriting (standing s) s.kept w file base ps
      → IsFenced t.kept file base.boot base.base ⊎ StandsWriting (standing t) t.kept w file base qs
  stands-after w file base here numbered not_later st = step (rows.on file st.row stands st.writes)
    where
      stands : find_row file host (standing s).rows ≡ Some st.row
      stands = subst (λ m. find_row file m (standing s).rows ≡ Some st.row) here st.own.stands

      apart : (a v : Tag) → same_tag a v ≡ true → tag_below v a ≡ true → ⊥
      apart a v x y = grind (arith, nat_tests)

      step : RowOn ps s t file host st.row → IsFenced t.kept file base.boot base.base ⊎ StandsWriting (standing t) t.kept w file base qs
      step (goes_on row' there on) = inr (record {
        row = row';
        own = record { stands = subst (λ m. find_row file m (standing t).rows ≡ Some row') (sym here) there; holder = on.who ∙ st.own.holder };
        writes = on.kind Mode.Writing st.writes;
        past =
            λ x v tag asked inc. later-above tag tag st.row row' (drawn file st.row stands)
            (st.past x v tag (subst (λ m. Asked ps m x (Request.Vacated v file tag)) (sym here)
            (old x (Request.Vacated v file tag) (subst (λ m. Asked qs m x (Request.Vacated v file tag)) here asked))) inc) on.tag;
        boot = let below = st.boot in omega arith;
        rev = rev-grows file base.base numbered st.rev (grows file numbered);
      })
      step (vacated x v tag sent there inc same) =
          absurd (apart st.row.tag tag same
          (st.past x v tag (subst (λ m. Asked ps m x (Request.Vacated v file tag)) (sym here) sent) (inc ∙ ap (λ z. z.inc) st.own.holder)))
      step (superseded later) = absurd (not_later later)
      step (loosened f f' found found' rises hosts) = inl (ahead f' found' (let below = st.rev f found in omega arith))
      step (removed none) = inl (gone none)
      step (reopened later) = inl (earlier (let below = st.boot in omega arith))

  pub pushes-after : PushesFit s host ps → PushesFit t host qs
  pushes-after h x w n file block first last base body sent here inc waits = step line
    where
      r : Request
      r = Request.Write w n file block first last (Some base) body

      sent' : Asked ps host x r
      sent' = old x r sent

      from : w.inc ≡ (host_row s.kept host).inc → (host_row s.kept host).seq < n → ((host_row s.kept host).inc < (host_row t.kept host).inc → ⊥)
          → PushFits (standing t) t.kept w file base qs
      from was before not_later =
          let k = h x w n file block first last base body sent' here was before in
          record { numbered = let below = k.numbered in omega arith; stands = by k.numbered k.stands }
        where
          by : file < s.kept.next → IsFenced s.kept file base.boot base.base ⊎ StandsWriting (standing s) s.kept w file base ps
              → IsFenced t.kept file base.boot base.base ⊎ StandsWriting (standing t) t.kept w file base qs
          by numbered (inl k) = inl (fenced-grows file base.boot base.base numbered k)
          by numbered (inr st) = stands-after w file base here numbered not_later st

      step : LineTo ps s t host → PushFits (standing t) t.kept w file base qs
      step (line_stays same) =
          let i : (host_row t.kept host).inc ≡ (host_row s.kept host).inc = ap (λ l. l.inc) same in
          let q : (host_row t.kept host).seq ≡ (host_row s.kept host).seq = ap (λ l. l.seq) same in
          from (inc ∙ i) (omega arith) (λ later. omega arith)
      step (line_begins y v asked at later i zero) = let bad : r ≡ Request.Attach w = above x r w sent' refl (omega arith) in absurd (cc)
      step (line_decides y r' v m verdict value asked by at i sq later to fits) =
          let j : (host_row t.kept host).inc ≡ v.inc = ap (λ l. l.inc) to in
          let q : (host_row t.kept host).seq ≡ m = ap (λ l. l.seq) to in
          from (inc ∙ j ∙ i) (omega arith) (λ up. omega arith)
