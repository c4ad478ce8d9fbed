-- Each entry of a client keeps what is so of the journal and of its calls and losses.
use Rattle.std.proofs.Common.{◌≡◌, ◌≤◌, ◌⊎◌, ℕ, ◌+◌, Bool, true, false, not, ◌==◌, List, [], ◌∷◌, Option, Some, None, map, is_some, if◌then◌else◌}
use Rattle.std.proofs.Common.{refl, sym, subst, ap, ◌∙◌, arith, inl, inr}
use Rattle.std.proofs.lemmas.Bool.{and_parts, not-true, not_from_false}
use Rattle.nq_base.specs.declared.Call.{Call}
use Rattle.nq_base.specs.declared.Call.TheVariants.{Write, Put, Sync, Resize, Remove}
use Rattle.nq_base.specs.declared.Entry.{Entry}
use Rattle.nq_base.specs.declared.Entry.TheVariants.{C, L, A}
use Rattle.nq_base.specs.declared.Loss.{Loss}
use Rattle.nq_base.specs.declared.Said.{Said}
use Rattle.nq_base.specs.declared.Said.TheVariants.{Lost}
use Rattle.nq_base.specs.declared.Span.{Span}
use Rattle.nq_base.specs.declared.Told.{Told}
use Rattle.nq_base.specs.declared.Who.{Who}
use Rattle.nq_model.proofs.Lists.{exists-map}
use Rattle.walk_steps.proofs.Incarnations.{who-same}
use Rattle.walk_steps.proofs.Rows.{same-number, number-same}
use Rattle.nq_model.specs.laws.LossesAreReported.{IsLossOf}
use Rattle.law_runs.proofs.Tallies.{IsOne, one-passed, one-passes, tally, tally-cons, tally-split}
use Rattle.law_runs.proofs.Told.{IsExcused, IsNamedIn, IsToldAt, IsCalled, Grows, grows, some-names-back}
use Rattle.law_runs.proofs.Journals.{same-who, IsPast, Journals, journals-add, told-none, call-numbered, call-begun}
use Rattle.nq_model.specs.protocol.Client.{losses_of, other_losses, span_of, span_list}
use Rattle.nq_model.specs.protocol.ClientStep.{changed_file, losses_for}
use Rattle.nq_base.specs.Calls.{told}
use Rattle.nq_model.specs.protocol.Hear.{waits_for}
use Rattle.nq_model.specs.laws.Journal.{Each, Exists, call_of, told_by, SpeaksOf}
use Rattle.nq_model.specs.laws.Reported.{IsNameOf, Names, IsReporting, IsUnnamed, IsSameSpan, NameLosses}
use Rattle.nq_model.specs.protocol.Table.{same_who}

-- ---- an entry that is no C, A or L

abbrev pub IsQuiet : Entry → Type 0
IsQuiet (C by q told) = ⊥
IsQuiet (A by q said) = ⊥
IsQuiet (L by file block first last) = ⊥
IsQuiet other = Unit {0}

pub quiet-excused : (whole : List Entry) (who : Who) (file : ℕ) (e : Entry) → IsQuiet e → IsExcused whole who file e
quiet-excused whole who file (C by q told) h = absurd h
quiet-excused whole who file other h = tt

pub quiet-placed : (whole : List Entry) (who : Who) (losses : List Loss) (e : Entry) (old : List Entry) → IsQuiet e → IsToldAt whole who losses [] e old
quiet-placed whole who losses (L by file block first last) old h = absurd h
quiet-placed whole who losses (A by q said) old h = absurd h
quiet-placed whole who losses other old h = tt

pub quiet-called : (whole : List Entry) (e : Entry) → IsQuiet e → IsCalled whole e
quiet-called whole (A by q said) h = absurd h
quiet-called whole other h = tt

quiet-names : (whole : List Entry) (who : Who) (loss : Loss) (e : Entry) → IsQuiet e → Names whole who loss e → ⊥
quiet-names whole who loss (A by q said) h n = h
quiet-names whole who loss other h n = n

quiet-past : (who : Who) (e : Entry) → IsQuiet e → IsPast who e
quiet-past who (C by q told) h = absurd h
quiet-past who (A by q said) h = absurd h
quiet-past who (L by file block first last) h = absurd h
quiet-past who other h = tt

pub quiet-told : (e : Entry) (who : Who) (q : ℕ) → IsQuiet e → told_by e who q ≡ None
quiet-told (C by n told) who q h = absurd h
quiet-told other who q h = refl

pub journals-quiet : {who : Who} {calls : ℕ} {losses : List Loss} {old : List Entry} (e : Entry) → IsQuiet e → Journals who calls losses old
    → Journals who calls losses (e ∷ old)
journals-quiet {who = who} {calls = calls} {losses = losses} {old = old} e quiet h = journals-add calls losses (e ∷ []) (e ∷ []) (record {
  goes = λ by loss one. inr ((quiet-excused (e ∷ old) by loss.file e quiet, tt), one);
  placed = λ rest. (quiet-placed (e ∷ old) who losses e old quiet, rest);
  called = (quiet-called (e ∷ old) e quiet, tt);
  origin = λ loss one. inl one;
  quiet = λ loss one n. none loss n;
  numbered = λ q above. told-none e old who q (quiet-told e who q quiet) (h.numbered q above);
  past = (quiet-past who e quiet, tt);
}) h
  where
    none : (loss : Loss) → Names (e ∷ old) who loss e ⊎ ⊥ → ⊥
    none loss (inl n) = quiet-names (e ∷ old) who loss e quiet n
    none loss (inr n) = n

-- ---- an A that tells no losses

abbrev pub is_lost : Said → Bool
is_lost (Lost spans) = true
is_lost other = false

plain-placed : (whole : List Entry) (who by : Who) (losses : List Loss) (q : ℕ) (said : Said) (after old : List Entry) → is_lost said ≡ false
    → IsToldAt whole who losses after (A by q said) old
plain-placed whole who by losses q (Lost spans) after old h = absurd (cc)
plain-placed whole who by losses q other after old h = tt

plain-names : (whole : List Entry) (who by : Who) (loss : Loss) (q : ℕ) (said : Said) → is_lost said ≡ false → Names whole who loss (A by q said) → ⊥
plain-names whole who by loss q (Lost spans) h n = absurd (cc)
plain-names whole who by loss q other h n = n

answer-called : (who : Who) (q : ℕ) (said : Said) (old : List Entry) (told : Told) → call_of old who q ≡ Some told
    → call_of (A who q said ∷ old) who q ≡ Some told
answer-called who q said old told is = rw is refl

pub journals-answer : {who : Who} {calls : ℕ} {losses : List Loss} {old : List Entry} (q : ℕ) (said : Said) (told : Told)
    → call_of old who q ≡ Some told → is_lost said ≡ false → Journals who calls losses old → Journals who calls losses (A who q said ∷ old)
journals-answer {who = who} {calls = calls} {losses = losses} {old = old} q said told is plain h =
    journals-add calls losses (A who q said ∷ []) (A who q said ∷ []) (record {
      goes = λ by loss one. inr ((tt, tt), one);
      placed = λ rest. (plain-placed (A who q said ∷ old) who who losses q said [] old plain, rest);
      called = (ap is_some (answer-called who q said old told is), tt);
      origin = λ loss one. inl one;
      quiet = λ loss one n. none loss n;
      numbered = λ n above. told-none (A who q said) old who n refl (h.numbered n above);
      past = (λ e. omega arith, tt);
    }) h
  where
    none : (loss : Loss) → Names (A who q said ∷ old) who loss (A who q said) ⊎ ⊥ → ⊥
    none loss (inl n) = plain-names (A who q said ∷ old) who who loss q said plain n
    none loss (inr n) = n

-- ---- a call that is answered busy, and one that is under way

pub journals-busy : {who : Who} {calls : ℕ} {losses : List Loss} {old : List Entry} (tells : Told) → Journals who calls losses old
    → Journals who (calls + 1) losses (A who (calls + 1) Said.Busy ∷ C who (calls + 1) tells ∷ old)
journals-busy {who = who} {calls = calls} {losses = losses} {old = old} tells h =
    journals-add (calls + 1) losses (A who (calls + 1) Said.Busy ∷ C who (calls + 1) tells ∷ [])
    (C who (calls + 1) tells ∷ A who (calls + 1) Said.Busy ∷ []) (record {
      goes = λ by loss one. inr ((λ same reports. inl (same, refl), (tt, tt)), one);
      placed = λ rest. (tt, (tt, rest));
      called = (
        ap is_some (answer-called who (calls + 1) Said.Busy (C who (calls + 1) tells ∷ old) tells (call-begun old who calls tells h.numbered)),
        (tt, tt),
      );
      origin = λ loss one. inl one;
      quiet = λ loss one n. none loss n;
      numbered =
          λ q above. told-none (A who (calls + 1) Said.Busy) (C who (calls + 1) tells ∷ old) who q refl (call-numbered old who calls q tells h.numbered above);
      past = (λ e. omega arith, (λ e. omega arith, tt));
    }) h
  where
    none : (loss : Loss) → ⊥ ⊎ (⊥ ⊎ ⊥) → ⊥
    none loss (inl n) = n
    none loss (inr (inl n)) = n
    none loss (inr (inr n)) = n

-- a call that has to report losses changes or syncs the file
pub reporting-changed : (op : Call) (file : ℕ) → IsReporting file (told op) → changed_file op ≡ Some file
reporting-changed (Write f block body) file h = ap Some h
reporting-changed (Put f block body) file h = ap Some h
reporting-changed (Sync f) file h = ap Some h
reporting-changed (Resize f blocks) file h = ap Some h
reporting-changed (Remove f) file h = ap Some h
reporting-changed other file h = absurd h

pub changed-speaks : (op : Call) (file : ℕ) → changed_file op ≡ Some file → SpeaksOf file (Some (told op))
changed-speaks (Write f block body) file h = cc
changed-speaks (Put f block body) file h = cc
changed-speaks (Sync f) file h = cc
changed-speaks (Resize f blocks) file h = cc
changed-speaks (Remove f) file h = cc
changed-speaks other file h = absurd (cc)

pub waits-speaks : (op : Call) (file : ℕ) (written : Bool) → waits_for file written op ≡ true → SpeaksOf file (Some (told op))
waits-speaks (Put f block body) file written h = same-number f file (and_parts _ _ h).0
waits-speaks (Sync f) file written h = same-number f file h
waits-speaks (Resize f blocks) file written h = same-number f file h
waits-speaks (Remove f) file written h = same-number f file h
waits-speaks other file written h = absurd (cc)

-- a call speaks of one file at most
pub speaks-one : (call : Option Told) (a b : ℕ) → SpeaksOf a call → SpeaksOf b call → a ≡ b
speaks-one (Some (Told.Attr f)) a b h k = sym h ∙ k
speaks-one (Some (Told.Read f block)) a b h k = sym h ∙ k
speaks-one (Some (Told.Fetch f block)) a b h k = sym h ∙ k
speaks-one (Some (Told.Write f block value)) a b h k = sym h ∙ k
speaks-one (Some (Told.Put f block value)) a b h k = sym h ∙ k
speaks-one (Some (Told.Sync f)) a b h k = sym h ∙ k
speaks-one (Some (Told.Resize f blocks)) a b h k = sym h ∙ k
speaks-one (Some (Told.Remove f)) a b h k = sym h ∙ k
speaks-one other a b h k = absurd h

-- no loss waits on the file that the call changes
none-waits : (losses : List Loss) (loss : Loss) (o : Option ℕ) → losses_for o losses ≡ [] → o ≡ Some loss.file → IsOne losses loss → ⊥
none-waits losses loss None none is one = absurd (cc)
none-waits losses loss (Some file) none is one =
    let same : file ≡ loss.file = cc in
    let passes : (loss.file == file) ≡ true = number-same loss.file file (sym same) in
    subst (λ ls. IsOne ls loss) none (one-passes (λ l. l.file == file) loss losses passes one)

pub journals-begin : {who : Who} {calls : ℕ} {losses : List Loss} {old : List Entry} (op : Call) → losses_for (changed_file op) losses ≡ []
    → Journals who calls losses old → Journals who (calls + 1) losses (C who (calls + 1) (told op) ∷ old)
journals-begin {who = who} {calls = calls} {losses = losses} {old = old} op free h =
    journals-add (calls + 1) losses (C who (calls + 1) (told op) ∷ []) (C who (calls + 1) (told op) ∷ []) (record {
      goes =
          λ by loss one. inr
          ((λ same reports. absurd (none-waits losses loss (changed_file op) free (reporting-changed op loss.file reports) (one (sym same))), tt), one);
      placed = λ rest. (tt, rest);
      called = (tt, tt);
      origin = λ loss one. inl one;
      quiet = λ loss one n. none loss n;
      numbered = λ q above. call-numbered old who calls q (told op) h.numbered above;
      past = (λ e. omega arith, tt);
    }) h
  where
    none : (loss : Loss) → ⊥ ⊎ ⊥ → ⊥
    none loss (inl n) = n
    none loss (inr n) = n

-- ---- an A that names all losses of a file

abbrev pub loss_at : ℕ → Loss → ℕ
loss_at n l = if l.first == n then 1 else 0

pub loss-counts : (l : Loss) → loss_at l.first l ≡ 1
loss-counts l = let same : (l.first == l.first) ≡ true = number-same l.first l.first refl in rw same refl

name-in : (losses : List Loss) (loss : Loss) → IsOne losses loss → Exists (IsNameOf loss) (map span_of losses)
name-in [] loss h = h
name-in (l ∷ losses) loss (inl e) = inl (ap (λ z. z.block) e, ap (λ z. z.first) e, ap (λ z. z.last) e)
name-in (l ∷ losses) loss (inr h) = inr (name-in losses loss h)

-- what an A has to know of each loss that it names
pub record CanName (whole before : List Entry) (who : Who) (file : ℕ) (loss : Loss) : Type 0 where
  pub on : loss.file ≡ file
  pub lost : Exists (IsLossOf who loss) before
  pub unnamed : ¬ Exists (Names whole who loss) before

unnamed-of : (whole before : List Entry) (who : Who) (file : ℕ) (call : Option Told) (loss : Loss) → SpeaksOf file call
    → CanName whole before who file loss → (e : Entry) → IsLossOf who loss e → IsUnnamed whole before who call (span_of loss) e
unnamed-of whole before who file call loss speaks can (L by f block first last) h = (
  h.0,
  subst (λ g. SpeaksOf g call) (sym (ap (λ z. z.file) h.1 ∙ can.on)) speaks,
  (ap (λ z. z.block) (sym h.1), ap (λ z. z.first) (sym h.1), ap (λ z. z.last) (sym h.1)),
  λ n. can.unnamed (subst (λ z. Exists (Names whole who z) before) h.1 n),
)
unnamed-of whole before who file call loss speaks can other h = absurd h

no-other : (n : ℕ) (span : Span) (losses : List Loss) → span.first ≡ n → tally (loss_at n) losses ≡ 0 → Exists (IsSameSpan span) (map span_of losses) → ⊥
no-other n span [] same none h = h
no-other n span (l ∷ losses) same none (inl e) =
    let first : l.first ≡ n = sym e.1 ∙ same in
    let one : loss_at n l ≡ 1 = subst (λ m. loss_at m l ≡ 1) first (loss-counts l) in
    let split = tally-cons (loss_at n) l losses in
    omega arith
no-other n span (l ∷ losses) same none (inr h) =
    let split = tally-cons (loss_at n) l losses in
    no-other n span losses same (omega arith) h

pub names-new : (whole before : List Entry) (who : Who) (file : ℕ) (call : Option Told) (losses : List Loss) → SpeaksOf file call
    → ((loss : Loss) → IsOne losses loss → CanName whole before who file loss) → ((n : ℕ) → tally (loss_at n) losses ≤ 1)
    → NameLosses whole before who call (map span_of losses)
names-new whole before who file call [] speaks can apart = tt
names-new whole before who file call (l ∷ losses) speaks can apart = (
  exists-map (IsLossOf who l) (IsUnnamed whole before who call (span_of l)) before
      (λ e h. unnamed-of whole before who file call l speaks (can l (inl refl)) e h) (can l (inl refl)).lost,
  (λ h. no-other l.first (span_of l) losses refl alone h),
  names-new whole before who file call losses speaks (λ loss one. can loss (inr one))
      (λ n. let split = tally-cons (loss_at n) l losses in let both = apart n in omega arith),
)
  where
    alone : tally (loss_at l.first) losses ≡ 0
    alone = let split = tally-cons (loss_at l.first) l losses in let both = apart l.first in let one = loss-counts l in omega arith

-- the A at its place
abbrev NamesAll : (who : Who) (q file : ℕ) → List Loss → Entry
NamesAll who q file losses = A who q (Lost (span_list (losses_of file losses)))

is-on : (losses : List Loss) (file : ℕ) (loss : Loss) → IsOne (losses_of file losses) loss → IsOne losses loss × (loss.file ≡ file)
is-on losses file loss one = let k = one-passed (λ l. l.file == file) loss losses one in (k.0, same-number loss.file file k.1)

is-off : (losses : List Loss) (file : ℕ) (loss : Loss) → IsOne (other_losses file losses) loss → IsOne losses loss × (loss.file ≡ file → ⊥)
is-off losses file loss one =
    let k = one-passed (λ l. not (l.file == file)) loss losses one in
    let differs : (loss.file == file) ≡ false = not-true (loss.file == file) k.1 in
    (k.0, λ same. let is : (loss.file == file) ≡ true = number-same loss.file file same in absurd (cc))

fewer-on : (n file : ℕ) (losses : List Loss) → tally (loss_at n) losses ≤ 1 → tally (loss_at n) (losses_of file losses) ≤ 1
fewer-on n file losses h = let split = tally-split (loss_at n) (λ l. l.file == file) losses in omega arith

-- of a loss that waits: the A names it, or it is not on the file
names-or-not : (whole : List Entry) (who : Who) (q file : ℕ) (losses : List Loss) (op : Option Told) → call_of whole who q ≡ op → SpeaksOf file op
    → (by : Who) (loss : Loss) → (by ≡ who → IsOne losses loss)
    → Names whole by loss (NamesAll who q file losses) ⊎ ((by ≡ who → loss.file ≡ file → ⊥) × (by ≡ who → IsOne (other_losses file losses) loss))
names-or-not whole who q file losses op is speaks by loss one = step (same_who by who) (loss.file == file) refl refl
  where
    step : (a b : Bool) → same_who by who ≡ a → (loss.file == file) ≡ b
        → Names whole by loss (NamesAll who q file losses) ⊎ ((by ≡ who → loss.file ≡ file → ⊥) × (by ≡ who → IsOne (other_losses file losses) loss))
    step true true e f =
        let same : by ≡ who = who-same by who e in
        let on : loss.file ≡ file = same-number loss.file file f in
        inl (
          sym same,
          subst (λ o. SpeaksOf loss.file o) (sym is) (subst (λ g. SpeaksOf g op) (sym on) speaks),
          name-in (losses_of file losses) loss (one-passes (λ l. l.file == file) loss losses f (one same)),
        )
    step true false e f =
        inr (
          λ same on. let yes : (loss.file == file) ≡ true = number-same loss.file file on in
              absurd (cc),
          λ same. one-passes (λ l. not (l.file == file)) loss losses (not_from_false (loss.file == file) f) (one same),
        )
    step false b e f =
        inr (
          λ same on. let yes : same_who by who ≡ true = same-who by who same in
              absurd (cc),
          λ same. let yes : same_who by who ≡ true = same-who by who same in absurd (cc),
        )

-- what is left is not named by it
others-unnamed : (whole : List Entry) (who : Who) (q file : ℕ) (losses : List Loss) (op : Option Told) → call_of whole who q ≡ op → SpeaksOf file op
    → (loss : Loss) → IsOne (other_losses file losses) loss → Names whole who loss (NamesAll who q file losses) → ⊥
others-unnamed whole who q file losses op is speaks loss one n =
    (is-off losses file loss one).1 (speaks-one op loss.file file (subst (λ o. SpeaksOf loss.file o) is n.1) speaks)

-- a call under way is told all losses of a file
pub journals-names : {who : Who} {calls : ℕ} {losses : List Loss} {old : List Entry} (q file : ℕ) (tells : Told) → call_of old who q ≡ Some tells
    → SpeaksOf file (Some tells) → ((n : ℕ) → tally (loss_at n) losses ≤ 1) → Journals who calls losses old
    → Journals who calls (other_losses file losses) (NamesAll who q file losses ∷ old)
journals-names {who = who} {calls = calls} {losses = losses} {old = old} q file tells is speaks apart h =
    journals-add calls (other_losses file losses) (e ∷ []) (e ∷ []) (record {
      goes = λ by loss one. goes by loss (names-or-not (e ∷ old) who q file losses (Some tells) called speaks by loss one);
      placed = λ rest. (placed, rest);
      called = (ap is_some called, tt);
      origin = λ loss one. inl (is-off losses file loss one).0;
      quiet = λ loss one n. none loss one n;
      numbered = λ n above. told-none e old who n refl (h.numbered n above);
      past = (λ x. omega arith, tt);
    }) h
  where
    e : Entry
    e = NamesAll who q file losses

    called : call_of (e ∷ old) who q ≡ Some tells
    called = answer-called who q (Lost (span_list (losses_of file losses))) old tells is

    goes : (by : Who) (loss : Loss) → Names (e ∷ old) by loss e
        ⊎ ((by ≡ who → loss.file ≡ file → ⊥) × (by ≡ who → IsOne (other_losses file losses) loss))
        → IsNamedIn (e ∷ old) by loss (e ∷ []) ⊎ (Each (IsExcused (e ∷ old) by loss.file) (e ∷ []) × (by ≡ who → IsOne (other_losses file losses) loss))
    goes by loss (inl n) = inl (inl n)
    goes by loss (inr k) = inr ((tt, tt), k.1)

    g : Grows old (e ∷ old)
    g = grows (e ∷ []) old

    placed : NameLosses (e ∷ old) old who (call_of (e ∷ old) who q) (map span_of (losses_of file losses))
    placed = subst (λ o. NameLosses (e ∷ old) old who o (map span_of (losses_of file losses))) (sym called)
        (names-new (e ∷ old) old who file (Some tells) (losses_of file losses) speaks
        (λ loss one. let k = is-on losses file loss one in
        record { on = k.1; lost = h.lost loss k.0; unnamed = λ n. h.unnamed loss k.0 (some-names-back g who loss old h.called n) })
        (λ n. fewer-on n file losses (apart n)))

    none : (loss : Loss) → IsOne (other_losses file losses) loss → Names (e ∷ old) who loss e ⊎ ⊥ → ⊥
    none loss one (inl n) = others-unnamed (e ∷ old) who q file losses (Some tells) called speaks loss one n
    none loss one (inr n) = n

-- a call is told all losses of its file at once
pub journals-tell : {who : Who} {calls : ℕ} {losses : List Loss} {old : List Entry} (file : ℕ) (op : Call) → changed_file op ≡ Some file
    → ((n : ℕ) → tally (loss_at n) losses ≤ 1) → Journals who calls losses old
    → Journals who (calls + 1) (other_losses file losses) (NamesAll who (calls + 1) file losses ∷ C who (calls + 1) (told op) ∷ old)
journals-tell {who = who} {calls = calls} {losses = losses} {old = old} file op changes apart h =
    journals-add (calls + 1) (other_losses file losses) (a ∷ c ∷ []) (c ∷ a ∷ []) (record {
      goes = λ by loss one. goes by loss (names-or-not (a ∷ c ∷ old) who (calls + 1) file losses (Some (told op)) called speaks by loss one);
      placed = λ rest. (placed, (tt, rest));
      called = (ap is_some called, (tt, tt));
      origin = λ loss one. inl (is-off losses file loss one).0;
      quiet = λ loss one n. none loss one n;
      numbered = λ n above. told-none a (c ∷ old) who n refl (call-numbered old who calls n (told op) h.numbered above);
      past = (λ x. omega arith, (λ x. omega arith, tt));
    }) h
  where
    a : Entry
    a = NamesAll who (calls + 1) file losses

    c : Entry
    c = C who (calls + 1) (told op)

    speaks : SpeaksOf file (Some (told op))
    speaks = changed-speaks op file changes

    called : call_of (a ∷ c ∷ old) who (calls + 1) ≡ Some (told op)
    called = answer-called who (calls + 1) (Lost (span_list (losses_of file losses))) (c ∷ old) (told op) (call-begun old who calls (told op) h.numbered)

    not-on : (by : Who) (loss : Loss) → (by ≡ who → loss.file ≡ file → ⊥) → IsExcused (a ∷ c ∷ old) by loss.file c
    not-on by loss off = λ same reports.
        let on : changed_file op ≡ Some loss.file = reporting-changed op loss.file reports in
        let one : loss.file ≡ file = cc in
        absurd (off (sym same) one)

    goes : (by : Who) (loss : Loss) → Names (a ∷ c ∷ old) by loss a
        ⊎ ((by ≡ who → loss.file ≡ file → ⊥) × (by ≡ who → IsOne (other_losses file losses) loss))
        → IsNamedIn (a ∷ c ∷ old) by loss (c ∷ a ∷ [])
        ⊎ (Each (IsExcused (a ∷ c ∷ old) by loss.file) (c ∷ a ∷ []) × (by ≡ who → IsOne (other_losses file losses) loss))
    goes by loss (inl n) = inl (inr (inl ((refl, refl), n)))
    goes by loss (inr k) = inr ((not-on by loss k.0, (tt, tt)), k.1)

    g : Grows old (a ∷ c ∷ old)
    g = grows (a ∷ c ∷ []) old

    placed : NameLosses (a ∷ c ∷ old) (c ∷ old) who (call_of (a ∷ c ∷ old) who (calls + 1)) (map span_of (losses_of file losses))
    placed = subst (λ o. NameLosses (a ∷ c ∷ old) (c ∷ old) who o (map span_of (losses_of file losses))) (sym called)
        (names-new (a ∷ c ∷ old) (c ∷ old) who file (Some (told op)) (losses_of file losses) speaks
        (λ loss one. let k = is-on losses file loss one in record { on = k.1; lost = inr (h.lost loss k.0); unnamed = λ n. first loss k.0 n })
        (λ n. fewer-on n file losses (apart n)))
      where
        first : (loss : Loss) → IsOne losses loss → ⊥ ⊎ Exists (Names (a ∷ c ∷ old) who loss) old → ⊥
        first loss one (inl n) = n
        first loss one (inr n) = h.unnamed loss one (some-names-back g who loss old h.called n)

    none : (loss : Loss) → IsOne (other_losses file losses) loss → Names (a ∷ c ∷ old) who loss a ⊎ (⊥ ⊎ ⊥) → ⊥
    none loss one (inl n) = others-unnamed (a ∷ c ∷ old) who (calls + 1) file losses (Some (told op)) called speaks loss one n
    none loss one (inr (inl n)) = n
    none loss one (inr (inr n)) = n
