-- Why turns end as they do.
use Rattle.std.proofs.Common.{◌≡◌, ◌∙◌, ◌+◌, ◌*◌, ◌<◌, ◌≤◌, ℕ, Bool, zero, suc, Result, Ok, Err, Option, Some, inl, inr, refl, sym, ap, subst, arith}
use Rattle.nq_serving.specs.Running.{EndsByLink, HaltsBy, RanBooted, Runs, StaysBy}
use Rattle.nq_serving.specs.Turning.{Goes, Standing, StopsEarly, TakesTurn, behind_turn, standing}
use Rattle.nq_serving.specs.declared.turning.LinkPolicy.{LinkPolicy}
use Rattle.nq_base.specs.declared.ending.fault.Fault.{Fault}
use Rattle.nq_serving.specs.Extending.{Extension}
use Rattle.nq_io.specs.Faults.{Rose}
use Rattle.nq_model.specs.protocol.Kept.{Kept}
use Rattle.nq_model.specs.protocol.Profile.{most_taken_by_server}
use Rattle.nq_clock.specs.Clocks.{ClockTold}
use Rattle.nq_link.specs.Links.{LinkTold}
use Rattle.nq_serving.specs.ServerTurn.{CountsKeep, CountsLink, ServesTurn}
use Rattle.nq_serving.proofs.ServerCounts.{turn_few, turn_keep, turn_link, turn_spent}

-- ---- what the end of a turn says

-- where turns end behind one, it ended for that reason
same-why : (policy : LinkPolicy) (why : Fault) (turn : Result Bool Fault) → Err why ≡ behind_turn policy turn → turn ≡ Err why
same-why policy why (Ok moved) so = absurd (cc)
same-why LinkPolicy.Stop why (Err Fault.Link) so = cc
same-why LinkPolicy.GoOn why (Err Fault.Link) so = absurd (cc)
same-why policy why (Err Fault.Keep) so = cc
same-why policy why (Err Fault.Memory) so = cc
same-why policy why (Err Fault.Spent) so = cc
same-why policy why (Err Fault.NoAnswer) so = cc

-- where others go on behind it, no keeper failed
goes-keep : (policy : LinkPolicy) (turn : Result Bool Fault) → Ok tt ≡ behind_turn policy turn → (before now : ℕ) → CountsKeep turn before now → now ≡ before
goes-keep policy (Ok moved) so before now counts = counts
goes-keep policy (Err Fault.Link) so before now counts = counts
goes-keep policy (Err Fault.Keep) so before now counts = absurd (cc)
goes-keep policy (Err Fault.Memory) so before now counts = counts
goes-keep policy (Err Fault.Spent) so before now counts = counts
goes-keep policy (Err Fault.NoAnswer) so before now counts = absurd counts

-- nor did the link, unless its faults are borne
goes-link : (policy : LinkPolicy) (turn : Result Bool Fault) → Ok tt ≡ behind_turn policy turn → (before now : ℕ) → CountsLink turn before now
    → StaysBy policy before now
goes-link LinkPolicy.GoOn turn so before now counts = tt
goes-link LinkPolicy.Stop (Ok moved) so before now counts = counts
goes-link LinkPolicy.Stop (Err Fault.Link) so before now counts = absurd (cc)
goes-link LinkPolicy.Stop (Err Fault.Keep) so before now counts = counts
goes-link LinkPolicy.Stop (Err Fault.Memory) so before now counts = counts
goes-link LinkPolicy.Stop (Err Fault.Spent) so before now counts = counts
goes-link LinkPolicy.Stop (Err Fault.NoAnswer) so before now counts = counts

stays-still : (policy : LinkPolicy) (count : ℕ) → StaysBy policy count count
stays-still LinkPolicy.Stop count = refl
stays-still LinkPolicy.GoOn count = tt

stays-on : (policy : LinkPolicy) (first second third : ℕ) → StaysBy policy first second → StaysBy policy second third → StaysBy policy first third
stays-on LinkPolicy.Stop first second third one other = other ∙ one
stays-on LinkPolicy.GoOn first second third one other = tt

-- behind turns that others went on behind, the link ended them
stays-ends : (policy : LinkPolicy) (turn : Result Bool Fault) (first second third : ℕ) → Err Fault.Link ≡ behind_turn policy turn → StaysBy policy first second
    → CountsLink turn second third → EndsByLink policy first third
stays-ends LinkPolicy.Stop turn first second third so stays counts =
    subst (λ n. Rose n third) stays (subst (λ t. CountsLink t second third) (same-why LinkPolicy.Stop Fault.Link turn so) counts)
stays-ends LinkPolicy.GoOn (Ok moved) first second third so stays counts = absurd (cc)
stays-ends LinkPolicy.GoOn (Err Fault.Link) first second third so stays counts = absurd (cc)
stays-ends LinkPolicy.GoOn (Err Fault.Keep) first second third so stays counts = absurd (cc)
stays-ends LinkPolicy.GoOn (Err Fault.Memory) first second third so stays counts = absurd (cc)
stays-ends LinkPolicy.GoOn (Err Fault.Spent) first second third so stays counts = absurd (cc)
stays-ends LinkPolicy.GoOn (Err Fault.NoAnswer) first second third so stays counts = absurd (cc)

-- what turns behind which others go on do to the counts: that of the keeper's faults is as it was, and so much was taken in at most
pub record Counts {K : Type 0} (faults : K → ℕ) (policy : LinkPolicy) (more : ℕ) (at after : Standing K) : Type 0 where
  pub keep : faults after.server.keeper ≡ faults at.server.keeper
  pub link : StaysBy policy at.link.faults after.link.faults
  pub few : after.server.taken ≤ at.server.taken + more

module _ {K : Type 0} (content : K → Option Kept) (faults : K → ℕ) (policy : LinkPolicy) (extension : Extension) where
  -- ---- turns

  keep-of : (ended : Result Unit Fault) (at after : Standing K) (t : TakesTurn content faults policy extension ended at after)
      → CountsKeep t.turn (faults at.server.keeper) (faults after.server.keeper)
  keep-of ended at after t =
      turn_keep content faults extension t.turn at.next after.next at.clock after.clock at.link after.link at.server after.server t.log t.entered t.took

  link-of : (ended : Result Unit Fault) (at after : Standing K) (t : TakesTurn content faults policy extension ended at after)
      → CountsLink t.turn at.link.faults after.link.faults
  link-of ended at after t =
      turn_link content faults extension t.turn at.next after.next at.clock after.clock at.link after.link at.server after.server t.log t.entered t.took

  goes-counts : (at after : Standing K) → TakesTurn content faults policy extension (Ok tt) at after → Counts faults policy 2 at after
  goes-counts at after t = record {
    keep = goes-keep policy t.turn t.so (faults at.server.keeper) (faults after.server.keeper) (keep-of (Ok tt) at after t);
    link = goes-link policy t.turn t.so at.link.faults after.link.faults (link-of (Ok tt) at after t);
    few = turn_few content faults extension t.turn at.next after.next at.clock after.clock at.link after.link at.server after.server t.log t.entered t.took;
  }

  -- turns behind which others go on take in two each at most
  go-counts : (count : ℕ) (at after : Standing K) → Goes content faults policy extension count at after → Counts faults policy (2 * count) at after
  go-counts zero at after same =
      subst (λ (s : Standing K). Counts faults policy (2 * zero) at s) (sym same)
      (record { keep = refl; link = stays-still policy at.link.faults; few = omega arith })
  go-counts (suc count) at after g =
      let first = go-counts count at g.0 g.1 in
      let last = goes-counts g.0 after g.2 in
      let few = first.few in
      let more = last.few in
      record {
        keep = last.keep ∙ first.keep;
        link = stays-on policy at.link.faults g.0.link.faults after.link.faults first.link last.link;
        few = omega arith;
      }

  -- the count of the keeper's faults, where the last turn stopped so
  stop-counts : (turns : ℕ) (why : Fault) (at after : Standing K) → StopsEarly content faults policy extension turns why at after
      → CountsKeep {X = Bool} (Err why) (faults at.server.keeper) (faults after.server.keeper)
  stop-counts turns why at after s =
      let counts = subst (λ t. CountsKeep t (faults s.middle.server.keeper) (faults after.server.keeper)) (same-why policy why s.last.turn s.last.so)
      (keep-of (Err why) s.middle after s.last) in
      subst (λ n. CountsKeep {X = Bool} (Err why) n (faults after.server.keeper)) (go-counts s.count at s.middle s.before).keep counts

  stop-link : (turns : ℕ) (at after : Standing K) → StopsEarly content faults policy extension turns Fault.Link at after
      → EndsByLink policy at.link.faults after.link.faults
  stop-link turns at after s =
      stays-ends policy s.last.turn at.link.faults s.middle.link.faults after.link.faults s.last.so (go-counts s.count at s.middle s.before).link
      (link-of (Err Fault.Link) s.middle after s.last)

  -- turns that are too few to take in all never stop for that
  stop-spent : (most turns : ℕ) (at after : Standing K) → most ≡ most_taken_by_server → 2 * turns < most → at.server.taken ≡ 0
      → StopsEarly content faults policy extension turns Fault.Spent at after → ⊥
  stop-spent most turns at after is few none s =
      let taken = (go-counts s.count at s.middle s.before).few in
      let fewer = s.fewer in
      let took : ServesTurn content faults extension (Err Fault.Spent) s.middle.next after.next s.middle.clock after.clock s.middle.link after.link
      s.middle.server after.server s.last.log s.last.entered =
      subst (λ t. ServesTurn content faults extension t s.middle.next after.next s.middle.clock after.clock s.middle.link after.link
      s.middle.server after.server s.last.log s.last.entered) (same-why policy Fault.Spent s.last.turn s.last.so) s.last.took in
      let all = turn_spent content faults extension s.middle.next after.next s.middle.clock after.clock s.middle.link after.link s.middle.server after.server
      s.last.log s.last.entered took in
      let same = is ∙ sym all.1 in
      let last = all.2 in omega arith

module _ {K : Type 0} (content : K → Option Kept) (faults : K → ℕ) (policy : LinkPolicy) (extension : Extension) (follows : K → K → Type 0) where
  -- ---- booting and turns

  none-left : (most longest turns time : ℕ) (keeper left : K) (clock clock' : ClockTold) (link link' : LinkTold) → most ≡ most_taken_by_server
      → 2 * turns < most
      → (kept : Kept) → content keeper ≡ Some kept
      → RanBooted content faults policy extension follows longest turns time keeper (Err Fault.Spent) left clock clock' link link' → ⊥
  none-left most longest turns time keeper left clock clock' link link' is few kept told r =
      stop-spent content faults policy extension most turns (standing r.server 0 clock link) r.ran.last is few (r.booted.0 kept told).1.taken r.ran.taken

  -- what was to be done ended by its cause
  pub halts_by : (most longest turns time : ℕ) (keeper : K) (ended : Result Unit Fault) (left : K) (clock clock' : ClockTold) (link link' : LinkTold)
      → most ≡ most_taken_by_server → 2 * turns < most
      → Runs content faults policy extension follows longest turns time keeper ended left clock clock' link link'
      → HaltsBy policy ended (content keeper) (faults keeper) (faults left) link.faults link'.faults
  halts_by most longest turns time keeper (Ok tt) left clock clock' link link' is few r =
      let counts = go-counts content faults policy extension turns (standing r.server 0 clock link) r.ran.last r.ran.taken in (
        λ kept told. (r.booted.0 kept told).0,
        ap faults r.ran.keeper ∙ counts.keep ∙ r.booted.1,
        subst (λ (l : LinkTold). StaysBy policy link.faults l.faults) (sym r.ran.links) counts.link,
      )
  halts_by most longest turns time keeper (Err Fault.Link) left clock clock' link link' is few (inl r) =
      subst (λ (l : LinkTold). EndsByLink policy link.faults l.faults) (sym r.ran.links)
      (stop-link content faults policy extension turns (standing r.server 0 clock link) r.ran.last r.ran.taken)
  halts_by most longest turns time keeper (Err Fault.Link) left clock clock' link link' is few (inr n) = absurd n.none
  halts_by most longest turns time keeper (Err Fault.Keep) left clock clock' link link' is few (inl r) =
      subst (λ n. Rose n (faults left)) r.booted.1
      (subst (λ k. Rose (faults r.server.keeper) (faults k)) (sym r.ran.keeper)
      (stop-counts content faults policy extension turns Fault.Keep (standing r.server 0 clock link) r.ran.last r.ran.taken))
  halts_by most longest turns time keeper (Err Fault.Keep) left clock clock' link link' is few (inr n) = n.none.1
  halts_by most longest turns time keeper (Err Fault.Memory) left clock clock' link link' is few r = tt
  halts_by most longest turns time keeper (Err Fault.Spent) left clock clock' link link' is few (inl r) =
      λ kept told. absurd (none-left most longest turns time keeper left clock clock' link link' is few kept told r)
  halts_by most longest turns time keeper (Err Fault.Spent) left clock clock' link link' is few (inr n) = n.none.0
  halts_by most longest turns time keeper (Err Fault.NoAnswer) left clock clock' link link' is few (inl r) =
      stop-counts content faults policy extension turns Fault.NoAnswer (standing r.server 0 clock link) r.ran.last r.ran.taken
  halts_by most longest turns time keeper (Err Fault.NoAnswer) left clock clock' link link' is few (inr n) = absurd n.none
