-- Each host, incarnation and sequence is executed once at most, and what comes again is answered again.
use Rattle.std.proofs.Common.{◌≡◌, ◌⊎◌, ◌≤◌, ◌<◌, ℕ, ◌+◌, ◌==◌, Bool, true, false, ◌&&◌, List, [], ◌∷◌, ◌++◌, Option, Some, None, if◌then◌else◌}
use Rattle.std.proofs.Common.{length, zero, suc, get_or, refl, sym, subst, ap, ◌∙◌, inl, inr, arith}
use Rattle.std.specs.Prelude.{All, Contains, count_by, nat_lt}
use Rattle.std.proofs.lemmas.Bool.Decides.{nat_tests}
use Rattle.std.proofs.lemmas.List.Elements.{All-head, All-tail, All-cons, All-nil, Contains-append_cases}
use Rattle.std.proofs.lemmas.List.Sums.{sum_by-cons}
use Rattle.nq_base.specs.declared.Decided.{Decided}
use Rattle.nq_base.specs.declared.Decided.TheVariants.{Again, OldIncarnation}
use Rattle.nq_base.specs.declared.Effect.{Effect}
use Rattle.nq_base.specs.declared.Gate.{Gate}
use Rattle.nq_base.specs.declared.HostRow.{HostRow}
use Rattle.nq_base.specs.declared.Request.{Request}
use Rattle.nq_base.specs.declared.Request.TheVariants.{Null, Attach, Lookup, Create, GetAttr, Read, Write, GetLease, Vacated, Evicted, Resize, Remove}
use Rattle.nq_base.specs.declared.Verdict.{Verdict}
use Rattle.nq_base.specs.declared.Who.{Who}
use Rattle.nq_keeper.specs.Deciding.{IsOfHost}
use Rattle.nq_keeper.specs.Repeats.{Coming, Key, Execution, key_of, execution_of, kept_after, kept_after_all, executed, is_of, IsRepeat}
use Rattle.nq_keeper.specs.Repeats.{IsAttachedAgain, AtMostOnce, KeptIsSaid}
use Rattle.nq_model.specs.protocol.Decided.{no_effect, decided, decided_before, attach_decided, or_fresh, fresh_decided, effect_of}
use Rattle.nq_model.specs.protocol.Decided.{row_with}
use Rattle.nq_model.specs.protocol.Kept.{Kept, can_be_kept, host_row}
use Rattle.nq_model.specs.protocol.Message.{sequence_of}
use Rattle.nq_model.specs.protocol.Profile.{most_hosts}
use Rattle.nq_model.proofs.Finding.{same-number}
use Rattle.nq_keeper.proofs.HostRows.{IsBehind, row_after, Moves, or_out, chosen, moves, of-host, own-row, Goes, goes, all-rows}

-- ---- what is executed comes later

behind-further : (a b : HostRow) (inc seq : ℕ) → Goes a b → IsBehind b inc seq → IsBehind a inc seq
behind-further a b inc seq (inl same) later = subst (λ r. IsBehind r inc seq) same later
behind-further a b inc seq (inr (inl less)) (inl later) = inl (omega arith)
behind-further a b inc seq (inr (inl less)) (inr later) = let same = later.0 in inl (omega arith)
behind-further a b inc seq (inr (inr less)) (inl later) = let same = less.0 in inl (omega arith)
behind-further a b inc seq (inr (inr less)) (inr later) = let one = less.0 in let two = later.0 in let three = less.1 in let four = later.1 in
    inr (omega arith, omega arith)

-- an execution of a host stands before the row that its host has
abbrev ComesAfter : Kept → Execution → Type 0
ComesAfter kept e = IsBehind (host_row kept e.key.who.host) e.key.who.inc e.key.seq

-- what a request executes
module _ (kept : Kept) (c : Coming) (all : length kept.hosts ≡ most_hosts) (few : IsOfHost c.request) where
  executes-later : All (ComesAfter kept) (execution_of (key_of c.request) (decided kept c.gate c.request))
  executes-later = by (key_of c.request) refl
    where
      moved : (key : Key) → Moves kept (kept_after kept c) key (decided kept c.gate c.request) → All (ComesAfter kept)
          (execution_of (Some key) (decided kept c.gate c.request))
      moved key (inl still) = subst (All (ComesAfter kept)) (sym still.1) (All-nil _)
      moved key (inr done) =
          subst (λ d. All (ComesAfter kept) (execution_of (Some key) d)) (sym done.fresh)
          (All-cons (ComesAfter kept) (record { key = key; verdict = done.verdict; value = done.value }) [] done.behind (All-nil _))

      by : (o : Option Key) → key_of c.request ≡ o → All (ComesAfter kept) (execution_of o (decided kept c.gate c.request))
      by None e = All-nil _
      by (Some key) e = moved key (moves kept c.gate c.request key e)

all-append : {X : Type 0} (P : X → Type 0) (xs ys : List X) → All P xs → All P ys → All P (xs ++ ys)
all-append P [] ys own rest = rest
all-append P (x ∷ xs) ys own rest = All-cons P x (xs ++ ys) (All-head P x xs own) (all-append P xs ys (All-tail P x xs own) rest)

each-later : (kept : Kept) (cs : List Coming) → length kept.hosts ≡ most_hosts → All (λ c. IsOfHost c.request) cs → All (ComesAfter kept) (executed kept cs)
each-later kept [] all few = All-nil _
each-later kept (c ∷ cs) all few =
    let own : IsOfHost c.request = All-head (λ c. IsOfHost c.request) c cs few in
    let rest : All (ComesAfter (kept_after kept c)) (executed (kept_after kept c) cs) = each-later (kept_after kept c) cs (all-rows kept c all)
    (All-tail (λ c. IsOfHost c.request) c cs few) in
    all-append (ComesAfter kept) (execution_of (key_of c.request) (decided kept c.gate c.request)) (executed (kept_after kept c) cs)
    (executes-later kept c all own)
    (λ k d i. let e = get_or (executed (kept_after kept c) cs) k d in behind-further (host_row kept e.key.who.host) (host_row (kept_after kept c)
    e.key.who.host) e.key.who.inc e.key.seq (goes kept c e.key.who.host all own) (rest k d i))

-- ---- no host, incarnation and sequence twice

three-tests : (a b c : Bool) → (a && b && c) ≡ true → (a ≡ true) × (b ≡ true) × (c ≡ true)
three-tests true true true h = (refl, refl, refl)
three-tests true true false h = cc
three-tests true false c h = cc
three-tests false b c h = cc

is-key : (host inc seq : ℕ) (e : Execution) → is_of host inc seq e ≡ true → (e.key.who.host ≡ host) × (e.key.who.inc ≡ inc) × (e.key.seq ≡ seq)
is-key host inc seq e h =
    let three = three-tests (e.key.who.host == host) (e.key.who.inc == inc) (e.key.seq == seq) h in (
      same-number e.key.who.host host three.0,
      same-number e.key.who.inc inc three.1,
      same-number e.key.seq seq three.2,
    )

not-itself : (row : HostRow) (inc seq : ℕ) → row.inc ≡ inc → row.seq ≡ seq → IsBehind row inc seq → ⊥
not-itself row inc seq a b (inl less) = absurd (omega arith)
not-itself row inc seq a b (inr less) = let c = less.1 in absurd (omega arith)

-- none of these is the request whose row the host has
none-is : (kept : Kept) (host inc seq : ℕ) (es : List Execution) → (host_row kept host).inc ≡ inc → (host_row kept host).seq ≡ seq
    → All (ComesAfter kept) es → count_by (is_of host inc seq) es ≡ 0
none-is kept host inc seq [] a b later = refl
none-is kept host inc seq (e ∷ es) a b later =
    by (is_of host inc seq e) refl (none-is kept host inc seq es a b (All-tail (ComesAfter kept) e es later))
  where
    by : (t : Bool) → is_of host inc seq e ≡ t → count_by (is_of host inc seq) es ≡ 0 → count_by (is_of host inc seq) (e ∷ es) ≡ 0
    by true is rest =
        let key = is-key host inc seq e is in
        let own : ComesAfter kept e = All-head (ComesAfter kept) e es later in
        let at : IsBehind (host_row kept host) inc seq = subst (λ n. IsBehind (host_row kept host) inc n) key.2
        (subst (λ n. IsBehind (host_row kept host) n e.key.seq) key.1 (subst (λ h. IsBehind (host_row kept h) e.key.who.inc e.key.seq) key.0 own)) in
        absurd (not-itself (host_row kept host) inc seq a b at)
    by false is rest = sum_by-cons (λ x. if is_of host inc seq x then 1 else 0) e es ∙ rw is (let zero_first : 0 + count_by (is_of host inc seq) es
        ≡ count_by (is_of host inc seq) es = omega arith in zero_first ∙ rest)

counts-first : (host inc seq : ℕ) (e : Execution) (es : List Execution) (t : Bool) → is_of host inc seq e ≡ t → count_by (is_of host inc seq) (e ∷ es)
    ≡ (if t then 1 else 0) + count_by (is_of host inc seq) es
counts-first host inc seq e es t is = sum_by-cons (λ x. if is_of host inc seq x then 1 else 0) e es
    ∙ ap (λ b. (if b then 1 else 0) + count_by (is_of host inc seq) es) is

once-more : (kept : Kept) (c : Coming) (host inc seq : ℕ) (es : List Execution) → length kept.hosts ≡ most_hosts → IsOfHost c.request
    → All (ComesAfter (kept_after kept c)) es → count_by (is_of host inc seq) es ≤ 1 → count_by (is_of host inc seq) (execution_of (key_of c.request)
    (decided kept c.gate c.request) ++ es) ≤ 1
once-more kept c host inc seq es all few later once = by (key_of c.request) refl
  where
    first : (key : Key) (verdict : Verdict) (value : ℕ) (t : Bool) → is_of host inc seq (record { key = key; verdict = verdict; value = value }) ≡ t
        → host_row (kept_after kept c) key.who.host ≡ row_after key verdict value → count_by (is_of host inc seq)
        (record { key = key; verdict = verdict; value = value } ∷ es) ≤ 1
    first key verdict value true is row =
        let own = is-key host inc seq (record { key = key; verdict = verdict; value = value }) is in
        let at : host_row (kept_after kept c) host ≡ row_after key verdict value = ap (λ h. host_row (kept_after kept c) h) (sym own.0) ∙ row in
        let none : count_by (is_of host inc seq) es ≡ 0 = none-is (kept_after kept c) host inc seq es (ap (λ r. r.inc) at ∙ own.1) (ap (λ r. r.seq) at
        ∙ own.2) later in
        let whole : count_by (is_of host inc seq) (record { key = key; verdict = verdict; value = value } ∷ es) ≡ 1 + count_by (is_of host inc seq)
        es = counts-first host inc seq (record { key = key; verdict = verdict; value = value }) es true is in
        omega arith
    first key verdict value false is row =
        let whole : count_by (is_of host inc seq) (record { key = key; verdict = verdict; value = value } ∷ es) ≡ 0 + count_by (is_of host inc seq)
        es = counts-first host inc seq (record { key = key; verdict = verdict; value = value }) es false is in
        omega arith

    moved : (key : Key) → key.who.host < most_hosts → Moves kept (kept_after kept c) key (decided kept c.gate c.request)
        → count_by (is_of host inc seq) (execution_of (Some key) (decided kept c.gate c.request) ++ es) ≤ 1
    moved key own (inl still) = subst (λ xs. count_by (is_of host inc seq) (xs ++ es) ≤ 1) (sym still.1) once
    moved key own (inr done) =
        subst (λ d. count_by (is_of host inc seq) (execution_of (Some key) d ++ es) ≤ 1) (sym done.fresh)
        (first key done.verdict done.value (is_of host inc seq (record { key = key; verdict = done.verdict; value = done.value })) refl
        (own-row kept (kept_after kept c) key.who.host (row_after key done.verdict done.value) (omega arith) done.rows))

    by : (o : Option Key) → key_of c.request ≡ o → count_by (is_of host inc seq) (execution_of o (decided kept c.gate c.request) ++ es) ≤ 1
    by None e = once
    by (Some key) e = moved key (of-host c.request key e few) (moves kept c.gate c.request key e)

once : (kept : Kept) (cs : List Coming) (host inc seq : ℕ) → length kept.hosts ≡ most_hosts → All (λ c. IsOfHost c.request) cs
    → count_by (is_of host inc seq) (executed kept cs) ≤ 1
once kept [] host inc seq all few = omega arith
once kept (c ∷ cs) host inc seq all few =
    let rest = All-tail (λ c. IsOfHost c.request) c cs few in
    once-more kept c host inc seq (executed (kept_after kept c) cs) all (All-head (λ c. IsOfHost c.request) c cs few)
    (each-later (kept_after kept c) cs (all-rows kept c all) rest)
    (once (kept_after kept c) cs host inc seq (all-rows kept c all) rest)

-- ---- what comes again

-- the row of a host is that of an execution, or of a later one
abbrev Settled : Execution → HostRow → Type 0
Settled e row = (row ≡ row_after e.key e.verdict e.value) ⊎ IsBehind (row_after e.key e.verdict e.value) row.inc row.seq

settled-on : (e : Execution) (old new : HostRow) → Settled e old → Goes old new → Settled e new
settled-on e old new settled (inl same) = subst (Settled e) (sym same) settled
settled-on e old new (inl at) (inr later) = inr (subst (λ r. IsBehind r new.inc new.seq) at later)
settled-on e old new (inr past) (inr later) = inr (behind-further (row_after e.key e.verdict e.value) old new.inc new.seq (inr past) later)

stays-settled : (e : Execution) (kept : Kept) (cs : List Coming) → length kept.hosts ≡ most_hosts → All (λ c. IsOfHost c.request) cs
    → Settled e (host_row kept e.key.who.host) → Settled e (host_row (kept_after_all kept cs) e.key.who.host)
stays-settled e kept [] all few settled = settled
stays-settled e kept (c ∷ cs) all few settled =
    stays-settled e (kept_after kept c) cs (all-rows kept c all) (All-tail (λ c. IsOfHost c.request) c cs few)
    (settled-on e (host_row kept e.key.who.host) (host_row (kept_after kept c) e.key.who.host) settled (goes kept c e.key.who.host all
    (All-head (λ c. IsOfHost c.request) c cs few)))

the-one : {X : Type 0} (x y : X) → Contains (x ∷ []) y → x ≡ y
the-one x y (zero, lt, is) = is
the-one x y (suc k, lt, is) = absurd (omega arith)

in-none : {X : Type 0} (y : X) → Contains [] y → ⊥
in-none y (k, lt, is) = absurd (omega arith)

-- what a request executed is settled after it
settles : (e : Execution) (kept : Kept) (c : Coming) → length kept.hosts ≡ most_hosts → IsOfHost c.request
    → Contains (execution_of (key_of c.request) (decided kept c.gate c.request)) e → Settled e (host_row (kept_after kept c) e.key.who.host)
settles e kept c all few has = by (key_of c.request) refl has
  where
    moved : (key : Key) → key.who.host < most_hosts → Moves kept (kept_after kept c) key (decided kept c.gate c.request)
        → Contains (execution_of (Some key) (decided kept c.gate c.request)) e → Settled e (host_row (kept_after kept c) e.key.who.host)
    moved key own (inl still) there = absurd (in-none e (subst (λ xs. Contains xs e) still.1 there))
    moved key own (inr done) there =
        let is : record { key = key; verdict = done.verdict; value = done.value } ≡ e = the-one (record {
          key = key;
          verdict = done.verdict;
          value =
              done.value;
        }) e (subst (λ d. Contains (execution_of (Some key) d) e) done.fresh there) in
        subst (λ x. Settled x (host_row (kept_after kept c) x.key.who.host)) is
        (inl (own-row kept (kept_after kept c) key.who.host (row_after key done.verdict done.value) (omega arith) done.rows))

    by : (o : Option Key) → key_of c.request ≡ o → Contains (execution_of o (decided kept c.gate c.request)) e
        → Settled e (host_row (kept_after kept c) e.key.who.host)
    by None none there = absurd (in-none e there)
    by (Some key) is there = moved key (of-host c.request key is few) (moves kept c.gate c.request key is) there

all-settled : (e : Execution) (kept : Kept) (cs : List Coming) → length kept.hosts ≡ most_hosts → All (λ c. IsOfHost c.request) cs
    → Contains (executed kept cs) e → Settled e (host_row (kept_after_all kept cs) e.key.who.host)
all-settled e kept [] all few has = absurd (in-none e has)
all-settled e kept (c ∷ cs) all few has =
    by (λ later. all-settled e (kept_after kept c) cs (all-rows kept c all) (All-tail (λ c. IsOfHost c.request) c cs few) later)
    (Contains-append_cases (execution_of (key_of c.request) (decided kept c.gate c.request)) (executed (kept_after kept c) cs) e has)
  where
    by : (Contains (executed (kept_after kept c) cs) e → Settled e (host_row (kept_after_all (kept_after kept c) cs) e.key.who.host))
        → Contains (execution_of (key_of c.request) (decided kept c.gate c.request)) e ⊎ Contains (executed (kept_after kept c) cs) e
        → Settled e (host_row (kept_after_all (kept_after kept c) cs) e.key.who.host)
    by rest (inl own) = stays-settled e (kept_after kept c) cs (all-rows kept c all) (All-tail (λ c. IsOfHost c.request) c cs few)
        (settles e kept c all (All-head (λ c. IsOfHost c.request) c cs few) own)
    by rest (inr later) = rest later

-- a request of the sequence of an execution, by the row of its host
module _ (e : Execution) (line : HostRow) (fresh : Decided) where
  said-again : (a b c d : Bool) → nat_lt e.key.who.inc line.inc ≡ a → nat_lt line.inc e.key.who.inc ≡ b → (e.key.seq == line.seq) ≡ c
      → nat_lt e.key.seq line.seq ≡ d → Settled e line → IsRepeat e (chosen line fresh a b c d)
  said-again true b c d p q r s settled = inr (inr refl)
  said-again false true c d p q r s (inl at) = let same : line.inc ≡ e.key.who.inc = ap (λ x. x.inc) at in absurd (grind (arith, nat_tests))
  said-again false true c d p q r s (inr (inl less)) = absurd (grind (arith, nat_tests))
  said-again false true c d p q r s (inr (inr less)) = let same = less.0 in absurd (grind (arith, nat_tests))
  said-again false false true d p q r s (inl at) = inl (ap (λ x. Again x.verdict x.value) at)
  said-again false false true d p q r s (inr (inl less)) = absurd (grind (arith, nat_tests))
  said-again false false true d p q r s (inr (inr less)) = let after = less.1 in absurd (grind (arith, nat_tests))
  said-again false false false true p q r s settled = inr (inl refl)
  said-again false false false false p q r s (inl at) = let same : line.seq ≡ e.key.seq = ap (λ x. x.seq) at in absurd (grind (arith, nat_tests))
  said-again false false false false p q r s (inr (inl less)) = absurd (grind (arith, nat_tests))
  said-again false false false false p q r s (inr (inr less)) = let after = less.1 in absurd (grind (arith, nat_tests))

  repeats-sequence : Settled e line → IsRepeat e (or_fresh (decided_before e.key.who e.key.seq line) fresh)
  repeats-sequence settled = said-again (nat_lt e.key.who.inc line.inc) (nat_lt line.inc e.key.who.inc) (e.key.seq == line.seq)
      (nat_lt e.key.seq line.seq) refl refl refl refl settled

repeats : (e : Execution) (kept : Kept) (gate : Gate) (r : Request) → sequence_of r ≡ Some e.key.seq → key_of r ≡ Some e.key
    → Settled e (host_row kept e.key.who.host) → IsRepeat e (decided kept gate r)
repeats e kept gate Null seq is settled = cc
repeats e kept gate (Lookup who name) seq is settled = cc
repeats e kept gate (GetAttr who file) seq is settled = cc
repeats e kept gate (Read who q file block want) seq is settled = cc
repeats e kept gate (GetLease who file want) seq is settled = cc
repeats e kept gate (Vacated who file tag) seq is settled = cc
repeats e kept gate (Evicted who file tag) seq is settled = cc
repeats e kept gate (Attach who) seq is settled = cc
repeats e kept gate (Create who n name blocks) seq is settled =
    let own : e.key ≡ record { who = who; seq = n } = cc in
    subst (λ k. IsRepeat e (or_fresh (decided_before k.who k.seq (host_row kept k.who.host))
    (fresh_decided who n (effect_of kept gate (Create who n name blocks))))) own (repeats-sequence e (host_row kept e.key.who.host)
    (fresh_decided who n (effect_of kept gate (Create who n name blocks))) settled)
repeats e kept gate (Write who n file block first last push body) seq is settled =
    let own : e.key ≡ record { who = who; seq = n } = cc in
    subst (λ k. IsRepeat e (or_fresh (decided_before k.who k.seq (host_row kept k.who.host))
    (fresh_decided who n (effect_of kept gate (Write who n file block first last push body))))) own
    (repeats-sequence e (host_row kept e.key.who.host) (fresh_decided who n (effect_of kept gate (Write who n file block first last push body))) settled)
repeats e kept gate (Resize who n q file blocks) seq is settled =
    let own : e.key ≡ record { who = who; seq = n } = cc in
    subst (λ k. IsRepeat e (or_fresh (decided_before k.who k.seq (host_row kept k.who.host))
    (fresh_decided who n (effect_of kept gate (Resize who n q file blocks))))) own (repeats-sequence e (host_row kept e.key.who.host)
    (fresh_decided who n (effect_of kept gate (Resize who n q file blocks))) settled)
repeats e kept gate (Remove who n q file) seq is settled =
    let own : e.key ≡ record { who = who; seq = n } = cc in
    subst (λ k. IsRepeat e (or_fresh (decided_before k.who k.seq (host_row kept k.who.host))
    (fresh_decided who n (effect_of kept gate (Remove who n q file))))) own (repeats-sequence e (host_row kept e.key.who.host)
    (fresh_decided who n (effect_of kept gate (Remove who n q file))) settled)

-- an ATTACH of an incarnation that was attached
attached-again : (who : Who) (line : HostRow) → who.inc ≤ line.inc → IsAttachedAgain (attach_decided who line)
attached-again who line most = by (nat_lt line.inc who.inc) refl (nat_lt who.inc line.inc)
  where
    by : (b : Bool) → nat_lt line.inc who.inc ≡ b → (c : Bool) → IsAttachedAgain (if b then fresh_decided who 0 (no_effect Verdict.Done)
        else (if c then OldIncarnation else Again line.verdict line.value))
    by true e c = absurd (grind (arith, nat_tests))
    by false e true = inr refl
    by false e false = inl (line.verdict, (line.value, refl))

settled-inc : (e : Execution) (line : HostRow) → Settled e line → e.key.who.inc ≤ line.inc
settled-inc e line (inl at) = let same : line.inc ≡ e.key.who.inc = ap (λ x. x.inc) at in omega arith
settled-inc e line (inr (inl less)) = omega arith
settled-inc e line (inr (inr less)) = let same = less.0 in omega arith

pub at-most-once : AtMostOnce
at-most-once kept cs all few = record {
  once = λ host inc seq. once kept cs host inc seq all few;
  repeats = λ e c has seq is. repeats e (kept_after_all kept cs) c.gate c.request seq is (all-settled e kept cs all few has);
  attaches = λ e gate has. attached-again e.key.who (host_row (kept_after_all kept cs) e.key.who.host)
      (settled-inc e (host_row (kept_after_all kept cs) e.key.who.host) (all-settled e kept cs all few has));
}

-- ---- what is answered again is what is kept

abbrev IsSaid : HostRow → (inc : ℕ) → Verdict → (value : ℕ) → Type 0
IsSaid line inc verdict value = (line.inc ≡ inc) × (line.verdict ≡ verdict) × (line.value ≡ value)

-- what is fresh is not answered again
fresh-is-new : (can : Bool) (v verdict : Verdict) (n value : ℕ) → or_out can v n ≡ Again verdict value → ⊥
fresh-is-new true v verdict n value is = cc
fresh-is-new false v verdict n value is = cc

module _ (line : HostRow) (fresh : Decided) (inc : ℕ) (verdict : Verdict) (value : ℕ) (new : fresh ≡ Again verdict value → ⊥) where
  said-kept : (a b c d : Bool) → nat_lt inc line.inc ≡ a → nat_lt line.inc inc ≡ b → chosen line fresh a b c d ≡ Again verdict value
      → IsSaid line inc verdict value
  said-kept true b c d p q is = cc
  said-kept false true c d p q is = cc
  said-kept false false true d p q is = (grind (arith, nat_tests), (cc), (cc))
  said-kept false false false true p q is = cc
  said-kept false false false false p q is = absurd (new is)

attach-kept : (who : Who) (line : HostRow) (verdict : Verdict) (value : ℕ) → attach_decided who line ≡ Again verdict value → IsSaid line who.inc verdict value
attach-kept who line verdict value is = by (nat_lt line.inc who.inc) refl (nat_lt who.inc line.inc) refl is
  where
    by : (b : Bool) → nat_lt line.inc who.inc ≡ b → (c : Bool) → nat_lt who.inc line.inc ≡ c → (if b then fresh_decided who 0 (no_effect Verdict.Done)
        else (if c then OldIncarnation else Again line.verdict line.value)) ≡ Again verdict value → IsSaid line who.inc verdict value
    by true e c f h = absurd (fresh-is-new (can_be_kept (row_with who 0 (no_effect Verdict.Done))) (no_effect Verdict.Done).verdict verdict
        (no_effect Verdict.Done).value value h)
    by false e true f h = cc
    by false e false f h = (grind (arith, nat_tests), (cc), (cc))

sequence-kept : (who : Who) (seq : ℕ) (line : HostRow) (effect : Effect) (verdict : Verdict) (value : ℕ) → or_fresh (decided_before who seq line)
    (fresh_decided who seq effect) ≡ Again verdict value → IsSaid line who.inc verdict value
sequence-kept who seq line effect verdict value is =
    said-kept line (fresh_decided who seq effect) who.inc verdict value (λ h. fresh-is-new (can_be_kept (row_with who seq effect)) effect.verdict
    verdict effect.value value h) (nat_lt who.inc line.inc) (nat_lt line.inc who.inc) (seq == line.seq) (nat_lt seq line.seq) refl refl is

pub kept-is-said : KeptIsSaid
kept-is-said kept c key verdict value is again = by c.request is again
  where
    by : (r : Request) → key_of r ≡ Some key → decided kept c.gate r ≡ Again verdict value → IsSaid (host_row kept key.who.host) key.who.inc verdict value
    by Null e h = cc
    by (Lookup who name) e h = cc
    by (GetAttr who file) e h = cc
    by (Read who q file block want) e h = cc
    by (GetLease who file want) e h = cc
    by (Vacated who file tag) e h = cc
    by (Evicted who file tag) e h = cc
    by (Attach who) e h =
        let own : record { who = who; seq = 0 } ≡ key = cc in
        subst (λ k. IsSaid (host_row kept k.who.host) k.who.inc verdict value) own (attach-kept who (host_row kept who.host) verdict value h)
    by (Create who n name blocks) e h =
        let own : record { who = who; seq = n } ≡ key = cc in
        subst (λ k. IsSaid (host_row kept k.who.host) k.who.inc verdict value) own (sequence-kept who n (host_row kept who.host)
        (effect_of kept c.gate (Create who n name blocks)) verdict value h)
    by (Write who n file block first last push body) e h =
        let own : record { who = who; seq = n } ≡ key = cc in
        subst (λ k. IsSaid (host_row kept k.who.host) k.who.inc verdict value) own (sequence-kept who n (host_row kept who.host)
        (effect_of kept c.gate (Write who n file block first last push body)) verdict value h)
    by (Resize who n q file blocks) e h =
        let own : record { who = who; seq = n } ≡ key = cc in
        subst (λ k. IsSaid (host_row kept k.who.host) k.who.inc verdict value) own (sequence-kept who n (host_row kept who.host)
        (effect_of kept c.gate (Resize who n q file blocks)) verdict value h)
    by (Remove who n q file) e h =
        let own : record { who = who; seq = n } ≡ key = cc in
        subst (λ k. IsSaid (host_row kept k.who.host) k.who.inc verdict value) own (sequence-kept who n (host_row kept who.host)
        (effect_of kept c.gate (Remove who n q file)) verdict value h)
