-- What the timed entries of a journal say of the ends of writing leases: that they come late enough.
use Rattle.std.proofs.Common.{◌≡◌, ◌≤◌, ℕ, ◌+◌, ◌==◌, ◌&&◌, Bool, true, false, List, [], ◌∷◌, Option, Some, if◌then◌else◌, max, nat_le, sym, subst}
use Rattle.std.proofs.Common.{ap, arith, inl, inr}
use Rattle.std.specs.List.{find}
use Rattle.std.specs.Prelude.{IsSomeAnd}
use Rattle.std.proofs.lemmas.Bool.Decides.{nat_tests}
use Rattle.nq_base.specs.declared.Entry.{Entry}
use Rattle.nq_base.specs.declared.Mode.{Mode}
use Rattle.nq_base.specs.declared.Row.{Row}
use Rattle.nq_base.specs.declared.Tag.{Tag}
use Rattle.nq_base.specs.declared.Who.{Who}
use Rattle.walk_steps.proofs.ClientMoves.{some-same, none-some}
use Rattle.nq_model.specs.laws.CutOff.{Given, last_grant, IsStoreOver, IsLateEnd, IsLongWait, IsLateOpening}
use Rattle.nq_model.specs.laws.Journal.{Each, Exists}
use Rattle.nq_model.specs.protocol.Profile.{skew, write_slack}
use Rattle.nq_model.specs.protocol.Table.{same_who, caches}
use Rattle.walk_files.proofs.LogRuns.{IsShortGrant}
use Rattle.walk_steps.proofs.LogMoves.{timed}
use Rattle.walk_steps.proofs.LogRows.{is_grant_to, WasGranted, IsHeardOf}
use Rattle.walk_steps.proofs.LogTimes.{IsHeard, is_boot}

-- ---- the last grant

grant-step : (e : Entry) (g : Given) (b : Bool) (rest : Option Entry) (more : Option Given) (is : Entry) (given : Given)
    → (rest ≡ Some is → more ≡ Some given) → (Some e ≡ Some is → g ≡ given) → (if b then Some e else rest) ≡ Some is
    → (if b then Some g else more) ≡ Some given
grant-step e g true rest more is given later now h = ap Some (now h)
grant-step e g false rest more is given later now h = later h

abbrev record_of : (time term : ℕ) → Given
record_of time term = record { time = time; term = term }

same-given : (who by : Who) (f file : ℕ) (m mode : Mode) (t tag : Tag) (a term b at : ℕ)
    → Some (Entry.G by f m t a b) ≡ Some (Entry.G who file mode tag term at) → record_of b a ≡ record_of at term
same-given who by f file m mode t tag a term b at h =
    let times : b ≡ at = cc in
    let terms : a ≡ term = cc in
    λ i. record { time = times i; term = terms i }

-- the last grant among the timed entries is that of the journal
pub last-given : (journal : List Entry) (who w : Who) (file f : ℕ) (mode : Mode) (tag : Tag) (term at : ℕ)
    → find (is_grant_to who file) (timed journal) ≡ Some (Entry.G w f mode tag term at)
    → last_grant journal who file ≡ Some (record { time = at; term = term })
last-given [] who w file f mode tag term at found = none-some _ found
last-given (Entry.G by x m t a b ∷ journal) who w file f mode tag term at found =
    grant-step (Entry.G by x m t a b) (record { time = b; term = a }) (same_who by who && x == file) (find (is_grant_to who file) (timed journal))
    (last_grant journal who file) (Entry.G w f mode tag term at) (record { time = at; term = term })
    (last-given journal who w file f mode tag term at)
    (same-given w by x f m mode t tag a term b at)
    found
last-given (Entry.S by x block first last now ∷ journal) who w file f mode tag term at found = last-given journal who w file f mode tag term at found
last-given (Entry.F by x until heard now ∷ journal) who w file f mode tag term at found = last-given journal who w file f mode tag term at found
last-given (Entry.O boot until heard now ∷ journal) who w file f mode tag term at found = last-given journal who w file f mode tag term at found
last-given (Entry.X boot now longest ∷ journal) who w file f mode tag term at found = last-given journal who w file f mode tag term at found
last-given (other ∷ journal) who w file f mode tag term at found = last-given journal who w file f mode tag term at found

-- ---- stores

-- after the write slack since a writing row was heard, each store for its holder is over
pub stores-over : (journal : List Entry) (who : Who) (file heard now : ℕ) → Each (IsHeardOf who file heard) (timed journal) → heard + write_slack ≤ now
    → Each (IsStoreOver who file now) journal
stores-over [] who file heard now each late = tt
stores-over (Entry.S by f block first last time ∷ journal) who file heard now each late =
    (λ same on. let h = each.0 same on in omega arith, stores-over journal who file heard now each.1 late)
stores-over (Entry.G by f mode tag term time ∷ journal) who file heard now each late = (tt, stores-over journal who file heard now each.1 late)
stores-over (Entry.F by f until h time ∷ journal) who file heard now each late = (tt, stores-over journal who file heard now each.1 late)
stores-over (Entry.O boot until h time ∷ journal) who file heard now each late = (tt, stores-over journal who file heard now each.1 late)
stores-over (Entry.X boot time longest ∷ journal) who file heard now each late = (tt, stores-over journal who file heard now each.1 late)
stores-over (other ∷ journal) who file heard now each late = (tt, stores-over journal who file heard now each late)

-- and so it is after the write slack since a recovery heard any write
pub all-over : (journal : List Entry) (who : Who) (file heard now : ℕ) → Each (IsHeard heard) (timed journal) → heard + write_slack ≤ now
    → Each (IsStoreOver who file now) journal
all-over [] who file heard now each late = tt
all-over (Entry.S by f block first last time ∷ journal) who file heard now each late =
    (λ same on. let h = each.0 in omega arith, all-over journal who file heard now each.1 late)
all-over (Entry.G by f mode tag term time ∷ journal) who file heard now each late = (tt, all-over journal who file heard now each.1 late)
all-over (Entry.F by f until h time ∷ journal) who file heard now each late = (tt, all-over journal who file heard now each.1 late)
all-over (Entry.O boot until h time ∷ journal) who file heard now each late = (tt, all-over journal who file heard now each.1 late)
all-over (Entry.X boot time longest ∷ journal) who file heard now each late = (tt, all-over journal who file heard now each.1 late)
all-over (other ∷ journal) who file heard now each late = (tt, all-over journal who file heard now each late)

-- ---- boots

-- the wait of a recovery is long for a grant that was for the kept longest term at most
pub long-wait : (journal : List Entry) (boot booted longest now : ℕ) (g : Given) → find is_boot (timed journal) ≡ Some (Entry.X boot booted longest)
    → g.term ≤ longest → booted + longest + skew + write_slack ≤ now → Exists (IsLongWait boot now (Some g)) journal
long-wait [] boot booted longest now g found short late = none-some _ found
long-wait (Entry.X b time l ∷ journal) boot booted longest now g found short late =
    let same : Entry.X b time l ≡ Entry.X boot booted longest = some-same (Entry.X b time l) (Entry.X boot booted longest) found in
    let boots : b ≡ boot = cc in
    let times : time ≡ booted = cc in
    let terms : l ≡ longest = cc in
    inl (boots, omega arith, omega arith)
long-wait (Entry.S by f block first last time ∷ journal) boot booted longest now g found short late =
    inr (long-wait journal boot booted longest now g found short late)
long-wait (Entry.G by f mode tag term time ∷ journal) boot booted longest now g found short late =
    inr (long-wait journal boot booted longest now g found short late)
long-wait (Entry.F by f until h time ∷ journal) boot booted longest now g found short late = inr (long-wait journal boot booted longest now g found short late)
long-wait (Entry.O b until h time ∷ journal) boot booted longest now g found short late = inr (long-wait journal boot booted longest now g found short late)
long-wait (other ∷ journal) boot booted longest now g found short late = inr (long-wait journal boot booted longest now g found short late)

-- what holds of each entry holds of one that is found
found-step : (P : Entry → Type 0) (p : Entry → Bool) (x e : Entry) (rest : Option Entry) (b : Bool) → P x → (rest ≡ Some e → P e)
    → (if b then Some x else rest) ≡ Some e → P e
found-step P p x e rest true now later h = subst P (some-same x e h) now
found-step P p x e rest false now later h = later h

pub of-found : (P : Entry → Type 0) (p : Entry → Bool) (log : List Entry) (e : Entry) → Each P log → find p log ≡ Some e → P e
of-found P p [] e each found = none-some e found
of-found P p (x ∷ log) e each found = found-step P p x e (find p log) (p x) each.0 (of-found P p log e each.1) found

-- ---- the ends

-- a due row's time is late
due-late : (until heard now : ℕ) → nat_le (max until heard + write_slack) now ≡ true → (until + write_slack ≤ now) × (heard + write_slack ≤ now)
due-late until heard now due = (grind (arith, nat_tests), grind (arith, nat_tests))

late-grant : (journal : List Entry) (who : Who) (file now time term : ℕ) → last_grant journal who file ≡ Some (record { time = time; term = term })
    → time + term + skew + write_slack ≤ now → IsSomeAnd (last_grant journal who file) (λ grant. grant.time + grant.term + skew + write_slack ≤ now)
late-grant journal who file now time term found late = subst (λ o. IsSomeAnd o (λ grant. grant.time + grant.term + skew + write_slack ≤ now)) (sym found) late

-- a writing row that is due ends late enough
pub late-end : (journal : List Entry) (row : Row) (now : ℕ) → WasGranted (timed journal) row
    → Each (IsHeardOf row.who row.file row.heard) (timed journal) → nat_le (max row.until row.heard + write_slack) now ≡ true
    → IsLateEnd journal row.who row.file row.until row.heard now
late-end journal row now granted heard due =
    let late = due-late row.until row.heard now due in
    let until : row.until + write_slack ≤ now = late.0 in
    let hears : row.heard + write_slack ≤ now = late.1 in
    let ends = granted.ends in
    record {
      heard_over = hears;
      until_over = until;
      grant_over =
          late-grant journal row.who row.file now granted.at granted.term
          (last-given journal row.who row.who row.file row.file row.mode row.tag granted.term granted.at granted.last) (omega arith);
      stores_over = stores-over journal row.who row.file row.heard now heard hears;
    }

-- a recovery ends late enough for the holder of a row of the last boot that served
pub late-opening : (journal : List Entry) (row : Row) (boot booted longest opened until heard now : ℕ) → WasGranted (timed journal) row
    → row.tag.boot ≡ opened → caches row.mode ≡ true → Each (IsShortGrant opened longest) (timed journal)
    → find is_boot (timed journal) ≡ Some (Entry.X boot booted longest) → Each (IsHeard heard) (timed journal)
    → booted + longest + (skew + write_slack) ≤ until → heard + write_slack ≤ until → until ≤ now → IsLateOpening journal row.who row.file boot now
late-opening journal row boot booted longest opened until heard now granted last caching grants told all waits hears late =
    let given : last_grant journal row.who row.file ≡ Some (record { time = granted.at; term = granted.term }) = last-given journal row.who row.who
    row.file row.file row.mode row.tag granted.term granted.at granted.last in
    let fits = of-found (IsShortGrant opened longest) (is_grant_to row.who row.file) (timed journal)
    (Entry.G row.who row.file row.mode row.tag granted.term granted.at) grants granted.last in
    let short : granted.term ≤ longest = fits.1 caching last in
    record {
      waited =
          subst (λ o. Exists (IsLongWait boot now o) journal) (sym given)
          (long-wait journal boot booted longest now (record { time = granted.at; term = granted.term }) told short (omega arith));
      stores_over = all-over journal row.who row.file heard now all (omega arith);
    }
