-- The beginning of a world.
use Rattle.std.proofs.Common.{◌≡◌, ◌≤◌, ℕ, zero, suc, ◌+◌, List, [], ◌∷◌, ◌++◌, Option, Some, None, length, sym, subst, ap, ◌∙◌, arith}
use Rattle.std.proofs.lemmas.List.{map-append}
use Rattle.std.specs.Prelude.{Result, Ok, Err, IfOk, IfErr}
use Rattle.nq_client.specs.Counted.{Counted}
use Rattle.nq_clock.specs.Counts.{SkewCounts}
use Rattle.nq_clock.specs.Tracks.{Follows}
use Rattle.nq_model.specs.protocol.ClientStep.{attached_client}
use Rattle.nq_model.specs.protocol.Kept.{Kept}
use Rattle.nq_model.specs.protocol.Profile.{shortest_term, longest_term, most_hosts}
use Rattle.nq_model.specs.protocol.ServerStep.{boot}
use Rattle.nq_model.specs.protocol.World.{Head, first_clients, first_kept}
use Rattle.nq_io.specs.Faults.{Rose}
use Rattle.nq_keeper.specs.StoredKeeper.{empty_kept}
use Rattle.nq_server.specs.Holding.{Boots, Holding, IsServer}
use Rattle.nq_script.specs.Heads.{FitFiles}
use Rattle.nq_world.proofs.Going.{runs-begin, servers-begin}
use Rattle.nq_world.specs.Beginning.{CountsBegin}
use Rattle.nq_world.specs.First.{AreFirstFiles, told_as}
use Rattle.nq_world.specs.Moving.{clients_in}
use Rattle.nq_world.specs.Playing.{WorldOver, Begins, HasSettings, IsNew, Plays, keeper_in, seen_of}
use Rattle.nq_world.specs.declared.starting.NewFault.{NewFault}
use Rattle.nq_world.specs.declared.starting.NewFault.TheVariants as fault
use Rattle.walk_steps.specs.Within.{IsHeadWithin}

-- one more client behind the first ones
pub first-clients-more : (term host count : ℕ) → first_clients term host (suc count) ≡ first_clients term host count ++ attached_client
    (record { host = host + count; inc = 1 }) term 0 ∷ []
first-clients-more term host zero = let same : host ≡ host + 0 = omega arith in ap (λ h. attached_client (record { host = h; inc = 1 }) term 0 ∷ []) same
first-clients-more term host (suc count) =
    let same : host + 1 + count ≡ host + suc count = omega arith in
    ap (λ cs. attached_client (record { host = host; inc = 1 }) term 0 ∷ cs)
    (first-clients-more term (host + 1) count ∙ ap (λ h. first_clients term (host + 1) count ++ attached_client (record { host = h; inc = 1 }) term 0
    ∷ []) same)

pub pushed : (term count : ℕ) (before after : List Counted) (c : Counted) → clients_in before ≡ first_clients term 0 count → after ≡ before ++ c ∷ []
    → c.client ≡ attached_client (record { host = count; inc = 1 }) term 0 → clients_in after ≡ first_clients term 0 (suc count)
pushed term count before after c so_far is own =
    let same : count ≡ 0 + count = omega arith in
    ap clients_in is
    ∙ map-append (λ (x : Counted). x.client) before (c ∷ [])
    ∙ ap (λ cs. cs ++ c.client ∷ []) so_far
    ∙ ap (λ x. first_clients term 0 count ++ x ∷ []) (own ∙ ap (λ h. attached_client (record { host = h; inc = 1 }) term 0) same)
    ∙ sym (first-clients-more term 0 count)

-- a head of files that there may be from the start
pub head-within : (head : Head) → head.hosts ≤ most_hosts → shortest_term ≤ head.longest → head.longest ≤ longest_term → AreFirstFiles head.files
    → IsHeadWithin head
head-within head hosts long short fine = record {
  hosts = hosts;
  long = long;
  short = short;
  files = fine.each;
  few_files = fine.few_files;
  few_blocks = fine.few_blocks;
  distinct = fine.distinct;
}

-- a new world over a server that booted plays the run of no events
pub new-plays : {K : Type 0} (head : Head) (server : Holding K) (skew : SkewCounts) (w : WorldOver K) (told tells : Option Kept)
    → IsHeadWithin head
    → IsServer (boot (first_kept head) head.longest 0 None) server tells
    → length skew.hosts ≡ head.hosts
    → skew.window ≡ head.longest
    → Follows skew []
    → IsNew (first_clients head.term 0 head.hosts) server skew head.term w
    → Plays head [] w tells
new-plays head server skew w told tells within boots hosts window clocks new =
    let first = servers-begin head in
    record {
      shown = runs-begin head (seen_of w) w.skew within new.clients_are new.none_sent new.none_told
          (ap (λ s. length s.hosts) new.skew_is ∙ hosts) (ap (λ s. s.window) new.skew_is ∙ window) (subst (λ s. Follows s []) (sym new.skew_is) clocks);
      keeps = boots.keeps ∙ ap (λ s. Some s.kept) (sym first);
      holds = ap (λ s. s.beside) new.server_is ∙ boots.holds ∙ ap (λ s. record {
        phase = s.phase;
        table = s.table;
        longest = s.longest;
        notice =
            s.notice;
        time = s.now;
      }) (sym first);
      counted = new.none_taken;
      term = new.term_is;
      served = let same : w.server.taken ≡ server.taken = ap (λ s. s.taken) new.server_is in let none = boots.taken in omega arith;
      heard = new.none_heard;
    }

-- a world over a server that booted begins
pub over-begins : {K : Type 0} (head : Head) (content : K → Option Kept) (faults : K → ℕ) (r : Result (WorldOver K) (NewFault K)) (server : Holding K)
    (skew : SkewCounts) (told : Option Kept) (before : ℕ)
    → IsHeadWithin head
    → Boots head.longest 0 (Ok server) told (content server.keeper) before (faults server.keeper)
    → length skew.hosts ≡ head.hosts
    → skew.window ≡ head.longest
    → Follows skew []
    → IfOk r (λ w. IsNew (first_clients head.term 0 head.hosts) server skew head.term w)
    → IfErr r (λ e. e ≡ fault.Memory server.keeper)
    → Begins head (first_kept head) r told (content (keeper_in r)) before (faults (keeper_in r))
over-begins head content faults (Ok w) server skew told before within boots hosts window clocks new refused =
    let same = ap (λ s. s.keeper) new.server_is in (
      λ is. subst (λ k. Plays head [] w (content k)) (sym same) (new-plays head server skew w told (content server.keeper) within
          (boots.0 (first_kept head) is).1 hosts window clocks new),
      record { hosts_are = new.hosts_are ∙ hosts; longest_is = ap (λ s. s.window) new.skew_is ∙ window; term_is = new.term_is },
      ap faults same ∙ boots.1,
    )
over-begins head content faults (Err e) server skew told before within boots hosts window clocks new refused =
    subst (λ f. Begins head (first_kept head) (Err f) told (content (keeper_in (Err f))) before (faults (keeper_in (Err f)))) (sym refused) boots.1

-- a world over a keeper that kept what is found first begins over what it kept before
pub kept-begins : {K : Type 0} (head : Head) (r : Result (WorldOver K) (NewFault K)) (told middle tells : Option Kept) (before counted count : ℕ)
    → middle ≡ told_as (first_kept head) told
    → counted ≡ before
    → Begins head (first_kept head) r middle tells counted count
    → Begins head empty_kept r told tells before count
kept-begins head (Ok w) told middle tells before counted count kept same x = (λ is. x.0 (kept ∙ ap (told_as (first_kept head)) is), x.1, x.2 ∙ same)
kept-begins head (Err (fault.Failed keeper)) told middle tells before counted count kept same x = subst (λ n. Rose n count) same x
kept-begins head (Err (fault.Memory keeper)) told middle tells before counted count kept same x = x ∙ same

-- ---- what a world that begins says of its run, its settings and its keeper

pub begun-plays : {K : Type 0} (head : Head) (first : Kept) (r : Result (WorldOver K) (NewFault K)) (content : K → Option Kept) (told : Option Kept)
    (before count : ℕ) → Begins head first r told (content (keeper_in r)) before count → told ≡ Some first
    → IfOk r (λ w. Plays head [] w (content w.server.keeper))
begun-plays head first (Ok w) content told before count begins is = begins.0 is
begun-plays head first (Err e) content told before count begins is = tt

pub begun-settings : {K : Type 0} (head : Head) (first : Kept) (r : Result (WorldOver K) (NewFault K)) (told tells : Option Kept) (before count : ℕ)
    → Begins head first r told tells before count → IfOk r (λ w. HasSettings head.hosts head.longest head.term w)
begun-settings head first (Ok w) told tells before count begins = begins.1
begun-settings head first (Err e) told tells before count begins = tt

pub begun-counts : {K : Type 0} (head : Head) (first : Kept) (r : Result (WorldOver K) (NewFault K)) (told tells : Option Kept) (before count : ℕ)
    → Begins head first r told tells before count → CountsBegin r before count
begun-counts head first (Ok w) told tells before count begins = begins.2
begun-counts head first (Err (fault.Failed keeper)) told tells before count begins = begins
begun-counts head first (Err (fault.Memory keeper)) told tells before count begins = begins

-- ---- the files of a head

pub files-first : (files : List (List ℕ × ℕ)) → FitFiles files → AreFirstFiles files
files-first files fit = record { each = fit.each; few_files = fit.few_files; few_blocks = fit.few_blocks; distinct = fit.distinct }
