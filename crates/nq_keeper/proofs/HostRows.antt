-- What a request leaves of the rows of hosts: as it was, or the row of its host as that of a later request.
use Rattle.std.proofs.Common.{◌≡◌, ◌≢◌, ◌⊎◌, ◌<◌, ℕ, ◌==◌, Bool, true, false, List, [], ◌∷◌, Option, Some, None, if◌then◌else◌}
use Rattle.std.proofs.Common.{length, zero, suc, refl, sym, subst, ap, ◌∙◌, inl, inr, arith}
use Rattle.std.specs.Prelude.{nat_lt, slice_get, slice_set, unwrap_or}
use Rattle.std.proofs.lemmas.Bool.Decides.{nat_tests}
use Rattle.std.proofs.lemmas.List.{length-set}
use Rattle.nq_base.specs.declared.Decided.{Decided}
use Rattle.nq_base.specs.declared.Decided.TheVariants.{Fresh, Again, Old, OldIncarnation, NotAttached, OutOfBounds}
use Rattle.nq_base.specs.declared.Effect.{Effect}
use Rattle.nq_base.specs.declared.Gate.{Gate}
use Rattle.nq_base.specs.declared.Gate.TheVariants.{Recovering, Serving}
use Rattle.nq_base.specs.declared.HostRow.{HostRow}
use Rattle.nq_base.specs.declared.Request.{Request}
use Rattle.nq_base.specs.declared.Request.TheVariants.{Null, Attach, Lookup, Create, GetAttr, Read, Write, GetLease, Vacated, Evicted, Resize, Remove}
use Rattle.nq_base.specs.declared.Verdict.{Verdict}
use Rattle.nq_base.specs.declared.Who.{Who}
use Rattle.nq_keeper.specs.Deciding.{IsOfHost}
use Rattle.nq_keeper.specs.Repeats.{Coming, Key, key_of, execution_of, kept_after}
use Rattle.nq_model.specs.protocol.Change.{applied, applied_if, kept_as}
use Rattle.nq_model.specs.protocol.Decided.{no_effect, decided, decided_before, attach_decided, or_fresh, fresh_decided, if_fresh, effect_of, change_of}
use Rattle.nq_model.specs.protocol.Decided.{change_with, row_with}
use Rattle.nq_model.specs.protocol.Kept.{Kept, can_be_kept, host_row, fresh_row}
use Rattle.nq_model.specs.protocol.Profile.{most_hosts}
use Rattle.nq_model.proofs.Finding.{decided as cases_of, same-number, number-same}

-- ---- rows of hosts

get-set : (rows : List HostRow) (host : ℕ) (row : HostRow) → host < length rows → slice_get (slice_set rows host row) host ≡ Some row
get-set [] host row lt = absurd (omega arith)
get-set (r ∷ rows) zero row lt = refl
get-set (r ∷ rows) (suc host) row lt = get-set rows host row (omega arith)

get-other : (rows : List HostRow) (host other : ℕ) (row : HostRow) → host ≢ other → slice_get (slice_set rows host row) other ≡ slice_get rows other
get-other [] host other row apart = refl
get-other (r ∷ rows) zero zero row apart = absurd (apart refl)
get-other (r ∷ rows) zero (suc other) row apart = refl
get-other (r ∷ rows) (suc host) zero row apart = refl
get-other (r ∷ rows) (suc host) (suc other) row apart = get-other rows host other row (λ e. apart (ap (λ n. suc n) e))

-- ---- one request

-- a row stands behind a request of this incarnation and sequence
abbrev pub IsBehind : HostRow → (inc seq : ℕ) → Type 0
IsBehind row inc seq = (row.inc < inc) ⊎ ((row.inc ≡ inc) × (row.seq < seq))

-- the row of a host after a request was executed
abbrev pub row_after : Key → Verdict → (value : ℕ) → HostRow
row_after key verdict value = record { inc = key.who.inc; seq = key.seq; verdict = verdict; value = value }

-- a request of this key was executed: its host's row stood behind it, and is now that of the request
pub record Executes (kept after : Kept) (key : Key) (decision : Decided) : Type 0 where
  pub verdict : Verdict
  pub value : ℕ
  pub fresh : decision ≡ Fresh verdict value
  pub behind : IsBehind (host_row kept key.who.host) key.who.inc key.seq
  pub rows : after.hosts ≡ slice_set kept.hosts key.who.host (row_after key verdict value)

-- a request of this key was executed, or nothing happened
abbrev pub Moves : (kept after : Kept) → Key → Decided → Type 0
Moves kept after key decision =
    ((after ≡ kept) × (execution_of (Some key) decision ≡ [])) ⊎ Executes kept after key decision

kept-rows : (kept : Kept) (who : Who) (seq : ℕ) (effect : Effect) → (applied kept (change_with who seq effect)).hosts ≡ slice_set kept.hosts who.host
    (row_after (record { who = who; seq = seq }) effect.verdict effect.value)
unfolding change_with kept_as
kept-rows kept who seq effect = refl

no-verdict : (effect : Effect) → effect ≡ no_effect Verdict.Done → effect.verdict ≡ Verdict.Done
unfolding no_effect
no-verdict effect is = ap (λ e. e.verdict) is

no-value : (effect : Effect) → effect ≡ no_effect Verdict.Done → effect.value ≡ 0
unfolding no_effect
no-value effect is = ap (λ e. e.value) is

-- how a request is decided of which nothing else is said, by whether its row can be kept
abbrev pub or_out : Bool → Verdict → (value : ℕ) → Decided
or_out can verdict value = if can then Fresh verdict value else OutOfBounds

module _ (kept : Kept) (who : Who) (effect : Effect) (is : effect ≡ no_effect Verdict.Done) where
  attach-by : (b c can : Bool) → nat_lt (host_row kept who.host).inc who.inc ≡ b
      → Moves kept (applied_if kept (if_fresh (if b then or_out can Verdict.Done 0 else (if c then OldIncarnation
      else Again (host_row kept who.host).verdict (host_row kept who.host).value)) (change_with who 0 effect))) (record { who = who; seq = 0 })
      (if b then or_out can Verdict.Done 0 else (if c then OldIncarnation else Again (host_row kept who.host).verdict (host_row kept who.host).value))
  attach-by true c true e =
      let before : (host_row kept who.host).inc < who.inc = grind (arith, nat_tests) in
      inr (record {
        verdict = Verdict.Done;
        value = 0;
        fresh = refl;
        behind = inl before;
        rows = kept-rows kept who 0 effect ∙ ap (λ v. slice_set kept.hosts who.host (row_after (record { who = who; seq = 0 }) v effect.value))
            (no-verdict effect is) ∙ ap (λ v. slice_set kept.hosts who.host (row_after (record { who = who; seq = 0 }) Verdict.Done v)) (no-value effect is);
      })
  attach-by true c false e = inl (refl, refl)
  attach-by false true can e = inl (refl, refl)
  attach-by false false can e = inl (refl, refl)

  moves-attach : Moves kept (applied_if kept (if_fresh (attach_decided who (host_row kept who.host)) (change_with who 0 effect)))
      (record { who = who; seq = 0 }) (attach_decided who (host_row kept who.host))
  unfolding no_effect
  moves-attach = attach-by (nat_lt (host_row kept who.host).inc who.inc) (nat_lt who.inc (host_row kept who.host).inc)
      (can_be_kept (row_with who 0 (no_effect Verdict.Done))) refl

-- the choice by which a request of a sequence is decided
abbrev pub chosen : HostRow → Decided → (a b c d : Bool) → Decided
chosen line fresh a b c d =
    or_fresh (if a then Some OldIncarnation else (if b then Some NotAttached else (if c then Some (Again line.verdict line.value)
    else (if d then Some Old else None)))) fresh

module _ (kept : Kept) (who : Who) (seq : ℕ) (effect : Effect) where
  by-tests : (a b c d can : Bool) → nat_lt who.inc (host_row kept who.host).inc ≡ a → nat_lt (host_row kept who.host).inc who.inc ≡ b
      → (seq == (host_row kept who.host).seq) ≡ c → nat_lt seq (host_row kept who.host).seq ≡ d
      → Moves kept (applied_if kept (if_fresh (chosen (host_row kept who.host) (or_out can effect.verdict effect.value) a b c d)
      (change_with who seq effect))) (record { who = who; seq = seq }) (chosen (host_row kept who.host) (or_out can effect.verdict effect.value) a b c d)
  by-tests true b c d can e f g h = inl (refl, refl)
  by-tests false true c d can e f g h = inl (refl, refl)
  by-tests false false true d can e f g h = inl (refl, refl)
  by-tests false false false true can e f g h = inl (refl, refl)
  by-tests false false false false false e f g h = inl (refl, refl)
  by-tests false false false false true e f g h =
      let same : (host_row kept who.host).inc ≡ who.inc = grind (arith, nat_tests) in
      let less : (host_row kept who.host).seq < seq = grind (arith, nat_tests) in
      inr (record {
        verdict = effect.verdict;
        value = effect.value;
        fresh = refl;
        behind = inr (same, less);
        rows = kept-rows kept who seq effect;
      })

  moves-sequence : Moves kept (applied_if kept (if_fresh (or_fresh (decided_before who seq (host_row kept who.host)) (fresh_decided who seq effect))
      (change_with who seq effect))) (record { who = who; seq = seq }) (or_fresh (decided_before who seq (host_row kept who.host))
      (fresh_decided who seq effect))
  moves-sequence = by-tests (nat_lt who.inc (host_row kept who.host).inc) (nat_lt (host_row kept who.host).inc who.inc)
      (seq == (host_row kept who.host).seq) (nat_lt seq (host_row kept who.host).seq) (can_be_kept (row_with who seq effect)) refl refl refl refl

attach-effect : (kept : Kept) (gate : Gate) (who : Who) → effect_of kept gate (Attach who) ≡ no_effect Verdict.Done
attach-effect kept (Recovering opened) who = refl
attach-effect kept (Serving boot conflict held) who = refl

-- a request of this key
pub moves : (kept : Kept) (gate : Gate) (r : Request) (key : Key) → key_of r ≡ Some key → Moves kept (applied_if kept (change_of kept gate r)) key
    (decided kept gate r)
moves kept gate Null key e = cc
moves kept gate (Lookup who name) key e = cc
moves kept gate (GetAttr who file) key e = cc
moves kept gate (Read who q file block want) key e = cc
moves kept gate (GetLease who file want) key e = cc
moves kept gate (Vacated who file tag) key e = cc
moves kept gate (Evicted who file tag) key e = cc
moves kept gate (Attach who) key e =
    let is : record { who = who; seq = 0 } ≡ key = cc in
    subst (λ k. Moves kept (applied_if kept (change_of kept gate (Attach who))) k (decided kept gate (Attach who))) is
    (moves-attach kept who (effect_of kept gate (Attach who)) (attach-effect kept gate who))
moves kept gate (Create who seq name blocks) key e =
    let is : record { who = who; seq = seq } ≡ key = cc in
    subst (λ k. Moves kept (applied_if kept (change_of kept gate (Create who seq name blocks))) k (decided kept gate (Create who seq name blocks))) is
    (moves-sequence kept who seq (effect_of kept gate (Create who seq name blocks)))
moves kept gate (Write who seq file block first last push body) key e =
    let is : record { who = who; seq = seq } ≡ key = cc in
    subst (λ k. Moves kept (applied_if kept (change_of kept gate (Write who seq file block first last push body))) k
    (decided kept gate (Write who seq file block first last push body))) is (moves-sequence kept who seq
    (effect_of kept gate (Write who seq file block first last push body)))
moves kept gate (Resize who seq q file blocks) key e =
    let is : record { who = who; seq = seq } ≡ key = cc in
    subst (λ k. Moves kept (applied_if kept (change_of kept gate (Resize who seq q file blocks))) k
    (decided kept gate (Resize who seq q file blocks))) is (moves-sequence kept who seq (effect_of kept gate (Resize who seq q file blocks)))
moves kept gate (Remove who seq q file) key e =
    let is : record { who = who; seq = seq } ≡ key = cc in
    subst (λ k. Moves kept (applied_if kept (change_of kept gate (Remove who seq q file))) k (decided kept gate (Remove who seq q file))) is
    (moves-sequence kept who seq (effect_of kept gate (Remove who seq q file)))

-- any other request leaves all as it is
rests : (kept : Kept) (c : Coming) → key_of c.request ≡ None → kept_after kept c ≡ kept
rests kept c e = by c.request e
  where
    by : (r : Request) → key_of r ≡ None → applied_if kept (change_of kept c.gate r) ≡ kept
    by Null none = refl
    by (Lookup who name) none = refl
    by (GetAttr who file) none = refl
    by (Read who q file block want) none = refl
    by (GetLease who file want) none = refl
    by (Vacated who file tag) none = refl
    by (Evicted who file tag) none = refl
    by (Attach who) none = cc
    by (Create who seq name blocks) none = cc
    by (Write who seq file block first last push body) none = cc
    by (Resize who seq q file blocks) none = cc
    by (Remove who seq q file) none = cc

-- a key is of the host that asks
pub of-host : (r : Request) (key : Key) → key_of r ≡ Some key → IsOfHost r → key.who.host < most_hosts
of-host Null key e host = cc
of-host (Lookup who name) key e host = cc
of-host (GetAttr who file) key e host = cc
of-host (Read who q file block want) key e host = cc
of-host (GetLease who file want) key e host = cc
of-host (Vacated who file tag) key e host = cc
of-host (Evicted who file tag) key e host = cc
of-host (Attach who) key e host = let is : record { who = who; seq = 0 } ≡ key = cc in subst (λ k. k.who.host < most_hosts) is (host who refl)
of-host (Create who seq name blocks) key e host = let is : record { who = who; seq = seq } ≡ key = cc in subst (λ k. k.who.host < most_hosts) is
    (host who refl)
of-host (Write who seq file block first last push body) key e host = let is : record { who = who; seq = seq } ≡ key = cc in
    subst (λ k. k.who.host < most_hosts) is (host who refl)
of-host (Resize who seq q file blocks) key e host = let is : record { who = who; seq = seq } ≡ key = cc in subst (λ k. k.who.host < most_hosts) is
    (host who refl)
of-host (Remove who seq q file) key e host = let is : record { who = who; seq = seq } ≡ key = cc in subst (λ k. k.who.host < most_hosts) is (host who refl)

-- ---- the row of each host over a request

pub own-row : (kept after : Kept) (host : ℕ) (row : HostRow) → host < length kept.hosts → after.hosts ≡ slice_set kept.hosts host row → host_row after host ≡ row
own-row kept after host row few e = ap (λ rows. unwrap_or (slice_get rows host) fresh_row) e ∙ ap (λ o. unwrap_or o fresh_row)
    (get-set kept.hosts host row few)

other-row : (kept after : Kept) (host other : ℕ) (row : HostRow) → host ≢ other → after.hosts ≡ slice_set kept.hosts host row → host_row after other
    ≡ host_row kept other
other-row kept after host other row apart e = ap (λ rows. unwrap_or (slice_get rows other) fresh_row) e ∙ ap (λ o. unwrap_or o fresh_row)
    (get-other kept.hosts host other row apart)

-- how a request of a host that there can be leaves the row of a host: as it was, or as that of a later request
abbrev pub Goes : HostRow → HostRow → Type 0
Goes old new = (new ≡ old) ⊎ IsBehind old new.inc new.seq

pub goes : (kept : Kept) (c : Coming) (host : ℕ) → length kept.hosts ≡ most_hosts → IsOfHost c.request → Goes (host_row kept host)
    (host_row (kept_after kept c) host)
goes kept c host all few = by (key_of c.request) refl
  where
    moved : (key : Key) → key.who.host < most_hosts → Moves kept (kept_after kept c) key (decided kept c.gate c.request) → Goes (host_row kept host)
        (host_row (kept_after kept c) host)
    moved key own (inl still) = inl (ap (λ k. host_row k host) still.0)
    moved key own (inr done) = elim (cases_of (key.who.host == host)) [
      | inl e ↦
          let same : key.who.host ≡ host = same-number key.who.host host e in
          let row : host_row (kept_after kept c) key.who.host ≡ row_after key done.verdict done.value = own-row kept (kept_after kept c) key.who.host
          (row_after key done.verdict done.value) (omega arith) done.rows in
          subst (λ h. Goes (host_row kept h) (host_row (kept_after kept c) h)) same (subst (λ r. Goes (host_row kept key.who.host) r) (sym row)
          (inr done.behind))
      | inr e ↦ inl (other-row kept (kept_after kept c) key.who.host host (row_after key done.verdict done.value)
          (λ i. let bad : (key.who.host == host) ≡ true = number-same key.who.host host i in absurd (cc)) done.rows)
    ]

    by : (o : Option Key) → key_of c.request ≡ o → Goes (host_row kept host) (host_row (kept_after kept c) host)
    by None e = inl (ap (λ k. host_row k host) (rests kept c e))
    by (Some key) e = moved key (of-host c.request key e few) (moves kept c.gate c.request key e)

-- each host has its row after a request
pub all-rows : (kept : Kept) (c : Coming) → length kept.hosts ≡ most_hosts → length (kept_after kept c).hosts ≡ most_hosts
all-rows kept c all = by (key_of c.request) refl
  where
    moved : (key : Key) → Moves kept (kept_after kept c) key (decided kept c.gate c.request) → length (kept_after kept c).hosts ≡ most_hosts
    moved key (inl still) = ap (λ k. length k.hosts) still.0 ∙ all
    moved key (inr done) = ap length done.rows ∙ length-set kept.hosts key.who.host (row_after key done.verdict done.value) ∙ all

    by : (o : Option Key) → key_of c.request ≡ o → length (kept_after kept c).hosts ≡ most_hosts
    by None e = ap (λ k. length k.hosts) (rests kept c e) ∙ all
    by (Some key) e = moved key (moves kept c.gate c.request key e)
