-- Leases on directories as the server's side has them: chains, and rows that fit, in each of its steps.
use Rattle.std.proofs.Common.{◌≡◌, ◌<◌, ◌≤◌, ℕ, suc, ◌+◌, Bool, true, false, not, nat_lt, List, [], ◌∷◌, ◌++◌, Some, None, if◌then◌else◌, is_some}
use Rattle.std.proofs.Common.{length, refl, sym, subst, ap, ◌∙◌, arith, inl, inr}
use Rattle.std.specs.List.{position, prefix_len}
use Rattle.std.proofs.lemmas.Bool.Decides.{nat_tests}
use Rattle.nq_base.specs.declared.Mode.{Mode}
use Rattle.nq_base.specs.declared.Row.{Row}
use Rattle.nq_base.specs.declared.Tag.{Tag}
use Rattle.nq_base.specs.declared.Who.{Who}
use Rattle.nq_directory.proofs.Called.{same-name, same-self}
use Rattle.nq_model.specs.protocol.Kept.{find_file}
use Rattle.nq_model.specs.laws.LeaseInterval.{claim_of, HasFitting}
use Rattle.nq_model.specs.protocol.Profile.{same_bytes}
use Rattle.nq_model.specs.protocol.Table.{caches, tag_below, find_row}
use Rattle.nq_name_server.specs.Served.{Served, number_of}
use Rattle.walk_steps.proofs.Packets.{In}
use Rattle.walk_steps.proofs.TagFacts.{IsDrawn}
use Rattle.walk_steps.proofs.Rows.{decided, found-row}
use Rattle.walk_steps.proofs.TableFits.{TableFits, fits-files}
use Rattle.law_names.proofs.Tables.{stand_ins, stands-in, in-stand, CameFrom, went_on, is_new, Follows}

-- ---- numbers of directories

first-more : {A : Type 0} (p : A → Bool) (xs more : List A) → prefix_len p xs < length xs → prefix_len p (xs ++ more) ≡ prefix_len p xs
first-more p [] more below = absurd (omega arith)
first-more p (x ∷ xs) more below = elim (decided (p x)) [
  | inl e ↦ rw e (ap (λ n. 1 + n) (first-more p xs more (passed (p x) (prefix_len p xs) (length xs) e below)))
  | inr e ↦ rw e refl
]
  where
    passed : (b : Bool) (n len : ℕ) → b ≡ true → (if b then 1 + n else 0) < suc len → n < len
    passed true n len e h = omega arith
    passed false n len e h = absurd (cc)

first-back : {A : Type 0} (p : A → Bool) (xs more : List A) → prefix_len p (xs ++ more) < length xs → prefix_len p xs ≡ prefix_len p (xs ++ more)
first-back p [] more below = absurd (omega arith)
first-back p (x ∷ xs) more below = elim (decided (p x)) [
  | inl e ↦ rw e (ap (λ n. 1 + n) (first-back p xs more (passed (p x) (prefix_len p (xs ++ more)) (length xs) e below)))
  | inr e ↦ rw e refl
]
  where
    passed : (b : Bool) (n len : ℕ) → b ≡ true → (if b then 1 + n else 0) < suc len → n < len
    passed true n len e h = omega arith
    passed false n len e h = absurd (cc)

record IsPlaced (n len k : ℕ) : Type 0 where
  same : n ≡ k
  below : n < len

placed : (n len k : ℕ) → (if nat_lt n len then Some n else None) ≡ Some k → IsPlaced n len k
placed n len k h = step (nat_lt n len) refl h
  where
    step : (b : Bool) → nat_lt n len ≡ b → (if b then Some n else None) ≡ Some k → IsPlaced n len k
    step true e f = record { same = cc; below = grind (arith, nat_tests) }
    step false e f = absurd (cc)

places : (n len : ℕ) → n < len → (if nat_lt n len then Some n else None) ≡ Some n
places n len below = let yes : nat_lt n len ≡ true = grind (arith, nat_tests) in rw yes refl

length-append : {A : Type 0} (xs ys : List A) → length (xs ++ ys) ≡ length xs + length ys
length-append [] ys = omega arith
length-append (x ∷ xs) ys = let h = length-append xs ys in omega arith

pub append-none : {A : Type 0} (xs : List A) → xs ++ [] ≡ xs
append-none [] = refl
append-none (x ∷ xs) = ap (λ l. x ∷ l) (append-none xs)

place-more : {A : Type 0} (p : A → Bool) (xs more : List A) (k : ℕ) → position p xs ≡ Some k → position p (xs ++ more) ≡ Some k
place-more {A = A} p xs more k h =
    let q : A → Bool = λ x. not (p x) in
    let a = placed (prefix_len q xs) (length xs) k h in
    let same = first-more q xs more a.below in
    let longer = length-append xs more in
    let below = a.below in
    places (prefix_len q (xs ++ more)) (length (xs ++ more)) (omega arith) ∙ ap (λ n. Some n) (same ∙ a.same)

place-back : {A : Type 0} (p : A → Bool) (xs more : List A) (k : ℕ) → position p (xs ++ more) ≡ Some k → k < length xs → position p xs ≡ Some k
place-back {A = A} p xs more k h low =
    let q : A → Bool = λ x. not (p x) in
    let a = placed (prefix_len q (xs ++ more)) (length (xs ++ more)) k h in
    let is = a.same in
    let same = first-back q xs more (omega arith) in
    places (prefix_len q xs) (length xs) (omega arith) ∙ ap (λ n. Some n) (same ∙ a.same)

-- a directory keeps its number
pub number-more : (prefix : List ℕ) (ds more : List (List ℕ)) (k : ℕ) → number_of prefix ds ≡ Some k → number_of prefix (ds ++ more) ≡ Some k
number-more prefix ds more k h = place-more (λ d. same_bytes d prefix) ds more k h

pub number-below : (prefix : List ℕ) (ds : List (List ℕ)) (k : ℕ) → number_of prefix ds ≡ Some k → k < length ds
number-below prefix ds k h =
    let a = placed (prefix_len (λ d. not (same_bytes d prefix)) ds) (length ds) k h in
    let same = a.same in
    let below = a.below in
    omega arith

number-back : (prefix : List ℕ) (ds more : List (List ℕ)) (k : ℕ) → number_of prefix (ds ++ more) ≡ Some k → k < length ds → number_of prefix ds ≡ Some k
number-back prefix ds more k h below = place-back (λ d. same_bytes d prefix) ds more k h below

first-most : {A : Type 0} (p : A → Bool) (xs : List A) → prefix_len p xs ≤ length xs
first-most p [] = omega arith
first-most p (x ∷ xs) = by (p x) (first-most p xs)
  where
    by : (b : Bool) → prefix_len p xs ≤ length xs → (if b then 1 + prefix_len p xs else 0) ≤ length (x ∷ xs)
    by true h = omega arith
    by false h = omega arith

first-all : {A : Type 0} (p : A → Bool) (xs more : List A) → prefix_len p xs ≡ length xs → prefix_len p (xs ++ more) ≡ length xs + prefix_len p more
first-all p [] more all = omega arith
first-all p (x ∷ xs) more all = elim (decided (p x)) [
  | inl e ↦
      let rest = first-all p xs more (passed (p x) (prefix_len p xs) (length xs) e all) in
      rw e (omega arith)
  | inr e ↦ absurd (failed (p x) (prefix_len p xs) (length xs) e all)
]
  where
    passed : (b : Bool) (n len : ℕ) → b ≡ true → (if b then 1 + n else 0) ≡ suc len → n ≡ len
    passed true n len e h = omega arith
    passed false n len e h = absurd (cc)

    failed : (b : Bool) (n len : ℕ) → b ≡ false → (if b then 1 + n else 0) ≡ suc len → ⊥
    failed true n len e h = cc
    failed false n len e h = cc

not-placed : (n len : ℕ) → (if nat_lt n len then Some n else None) ≡ None → len ≤ n
not-placed n len h = step (nat_lt n len) refl h
  where
    step : (b : Bool) → nat_lt n len ≡ b → (if b then Some n else None) ≡ None → len ≤ n
    step true e f = absurd (cc)
    step false e f = grind (arith, nat_tests)

-- a directory that is entered gets the next number
pub number-new : (prefix : List ℕ) (ds : List (List ℕ)) → number_of prefix ds ≡ None → number_of prefix (ds ++ prefix ∷ []) ≡ Some (length ds)
number-new prefix ds none =
    let q : List ℕ → Bool = λ d. not (same_bytes d prefix) in
    let out = not-placed (prefix_len q ds) (length ds) none in
    let most = first-most q ds in
    let own : prefix_len q (prefix ∷ []) ≡ 0 = rw (same-self prefix) refl in
    let whole = first-all q ds (prefix ∷ []) (omega arith) in
    let longer = length-append ds (prefix ∷ []) in
    let one : length (prefix ∷ []) ≡ 1 = refl in
    let at : prefix_len q (ds ++ prefix ∷ []) ≡ length ds = omega arith in
    places (prefix_len q (ds ++ prefix ∷ [])) (length (ds ++ prefix ∷ [])) (omega arith) ∙ ap (λ n. Some n) at

first-same : (p q : List ℕ) (ds : List (List ℕ)) (k : ℕ) → prefix_len (λ d. not (same_bytes d p)) ds ≡ k → prefix_len (λ d. not (same_bytes d q)) ds ≡ k
    → k < length ds → p ≡ q
first-same p q [] k e f below = absurd (omega arith)
first-same p q (d ∷ ds) k e f below = elim (decided (same_bytes d p)) [
  | inl a ↦ elim (decided (same_bytes d q)) [
    | inl b ↦ sym (same-name d p a) ∙ same-name d q b
    | inr b ↦ absurd (apart (same_bytes d p) (same_bytes d q) (prefix_len (λ x. not (same_bytes x p)) ds) (prefix_len (λ x. not (same_bytes x q)) ds)
        a b (e ∙ sym f))
  ]
  | inr a ↦ elim (decided (same_bytes d q)) [
    | inl b ↦ absurd (apart (same_bytes d q) (same_bytes d p) (prefix_len (λ x. not (same_bytes x q)) ds) (prefix_len (λ x. not (same_bytes x p)) ds)
        b a (f ∙ sym e))
    | inr b ↦
        let m = further (same_bytes d p) (prefix_len (λ x. not (same_bytes x p)) ds) k a e in
        let n = further (same_bytes d q) (prefix_len (λ x. not (same_bytes x q)) ds) k b f in
        first-same p q ds (prefix_len (λ x. not (same_bytes x p)) ds) refl (omega arith) (omega arith)
  ]
]
  where
    apart : (b c : Bool) (m n : ℕ) → b ≡ true → c ≡ false → (if not b then 1 + m else 0) ≡ (if not c then 1 + n else 0) → ⊥
    apart true false m n x y h = omega arith
    apart true true m n x y h = cc
    apart false c m n x y h = cc

    further : (b : Bool) (m k' : ℕ) → b ≡ false → (if not b then 1 + m else 0) ≡ k' → 1 + m ≡ k'
    further false m k' x h = h
    further true m k' x h = absurd (cc)

first-in : (p : List ℕ) (ds : List (List ℕ)) → prefix_len (λ d. not (same_bytes d p)) ds < length ds → In ds p
first-in p [] low = absurd (omega arith)
first-in p (d ∷ ds) low = elim (decided (same_bytes d p)) [
  | inl e ↦ inl (same-name d p e)
  | inr e ↦ inr (first-in p ds (passed (same_bytes d p) (prefix_len (λ x. not (same_bytes x p)) ds) (length ds) e low))
]
  where
    passed : (b : Bool) (n len : ℕ) → b ≡ false → (if not b then 1 + n else 0) < suc len → n < len
    passed false n len e h = omega arith
    passed true n len e h = absurd (cc)

-- a directory that has a number is one of them
pub number-in : (p : List ℕ) (ds : List (List ℕ)) (k : ℕ) → number_of p ds ≡ Some k → In ds p
number-in p ds k e = first-in p ds (placed (prefix_len (λ d. not (same_bytes d p)) ds) (length ds) k e).below

-- no number is that of two directories
pub number-one : (p q : List ℕ) (ds : List (List ℕ)) (k : ℕ) → number_of p ds ≡ Some k → number_of q ds ≡ Some k → p ≡ q
number-one p q ds k e f =
    let a = placed (prefix_len (λ d. not (same_bytes d p)) ds) (length ds) k e in
    let b = placed (prefix_len (λ d. not (same_bytes d q)) ds) (length ds) k f in
    let low = a.below in
    let same = a.same in
    first-same p q ds k a.same b.same (omega arith)

-- ---- chains

-- the table of the server's side fits: its rows are of directories that have numbers
abbrev pub IsServed : Served → Type 0
IsServed s = TableFits (stand_ins (length s.directories)) s.table.boot s.table.drawn s.table.rows

-- a tag was drawn for a lease on a directory
abbrev pub WasDrawn : Served → Tag → Type 0
WasDrawn s tag = IsDrawn s.table.boot s.table.drawn tag

-- an incarnation has a caching row on a directory, in a chain that began no later than a tag was drawn
pub record Chained (s : Served) (prefix : List ℕ) (who : Who) (tag : Tag) : Type 0 where
  pub number : ℕ
  pub numbered : number_of prefix s.directories ≡ Some number
  pub row : Row
  pub stands : find_row number who.host s.table.rows ≡ Some row
  pub holder : row.who ≡ who
  pub caching : caches row.mode ≡ true
  pub began : tag_below tag row.since ≡ false

-- it has a row that fits a reading lease with this tag, which ends no earlier than this
pub record HasFit (s : Served) (prefix : List ℕ) (who : Who) (tag : Tag) (end : ℕ) : Type 0 where
  pub number : ℕ
  pub numbered : number_of prefix s.directories ≡ Some number
  pub fitting : HasFitting (claim_of who number Mode.Reading tag end) s.table

pub fit-chains : (s : Served) (prefix : List ℕ) (who : Who) (tag : Tag) (end : ℕ) → HasFit s prefix who tag end → Chained s prefix who tag
fit-chains s prefix who tag end h =
    let f = h.fitting in
    record {
      number = h.number;
      numbered = h.numbered;
      row = f.row;
      stands = f.stands;
      holder = f.fits.holder;
      caching = f.fits.kind;
      began = f.fits.began;
    }

-- ---- steps of the server's side

-- one state leads to another: no chain that is new reaches back to a tag that was drawn before
pub record Leads (s after : Served) : Type 0 where
  pub fits : IsServed after
  pub drawn : (tag : Tag) → WasDrawn s tag → WasDrawn after tag
  pub chain : (prefix : List ℕ) (who : Who) (tag : Tag) → WasDrawn s tag → Chained after prefix who tag → Chained s prefix who tag
  pub since : (prefix : List ℕ) (who : Who) (tag : Tag) (d : WasDrawn s tag) (c : Chained after prefix who tag) → c.row.since
      ≡ (chain prefix who tag d c).row.since

pub same-leads : (s after : Served) → after.table ≡ s.table → after.directories ≡ s.directories → IsServed s → Leads s after
same-leads s after table directories fits = record {
  fits = subst (λ t. TableFits (stand_ins (length after.directories)) t.boot t.drawn t.rows) (sym table)
      (subst (λ ds. TableFits (stand_ins (length ds)) s.table.boot s.table.drawn s.table.rows) (sym directories) fits);
  drawn = λ tag d. subst (λ t. IsDrawn t.boot t.drawn tag) (sym table) d;
  chain = λ prefix who tag d c. record {
    number = c.number;
    numbered = ap (number_of prefix) (sym directories) ∙ c.numbered;
    row = c.row;
    stands = ap (λ t. find_row c.number who.host t.rows) (sym table) ∙ c.stands;
    holder = c.holder;
    caching = c.caching;
    began = c.began;
  };
  since = λ prefix who tag d c. refl;
}

pub then-leads : (a b c : Served) → Leads a b → Leads b c → Leads a c
then-leads a b c f g = record {
  fits = g.fits;
  drawn = λ tag d. g.drawn tag (f.drawn tag d);
  chain = λ prefix who tag d k. f.chain prefix who tag d (g.chain prefix who tag (f.drawn tag d) k);
  since = λ prefix who tag d k. g.since prefix who tag (f.drawn tag d) k ∙ f.since prefix who tag d (g.chain prefix who tag (f.drawn tag d) k);
}

pub more-served : (s : Served) (directories more : List (List ℕ)) → directories ≡ s.directories ++ more → IsServed s
    → TableFits (stand_ins (length directories)) s.table.boot s.table.drawn s.table.rows
more-served s directories more is fits =
    fits-files (stand_ins (length s.directories)) (stand_ins (length directories)) s.table.boot s.table.drawn s.table.rows
    (λ id there. let low = in-stand id (length s.directories) there in
    let longer : length directories ≡ length (s.directories ++ more) = ap length is in
    let sum : length (s.directories ++ more) ≡ length s.directories + length more = length-append s.directories more in
    stands-in id (length directories) (omega arith)) fits

pub leads : (s after : Served) (more : List (List ℕ)) → after.directories ≡ s.directories ++ more → IsServed s
    → Follows (stand_ins (length after.directories)) s.table after.table → Leads s after
leads s after more directories fits f = record {
  fits = f.fits;
  drawn = f.drawn;
  chain = λ prefix who tag d c. back prefix who tag d c (f.came c.number who.host c.row c.stands c.caching);
  since = λ prefix who tag d c. kept prefix who tag d c (f.came c.number who.host c.row c.stands c.caching);
} where
  back : (prefix : List ℕ) (who : Who) (tag : Tag) → WasDrawn s tag → (c : Chained after prefix who tag) → CameFrom s.table c.number who.host c.row
      → Chained s prefix who tag
  back prefix who tag d c (is_new new) = let yes = new tag d in let no = c.began in absurd (cc)
  back prefix who tag d c (went_on was found caching w since) =
      let k = found-row c.number who.host s.table.rows was found in
      let there : is_some (find_file was.file (stand_ins (length s.directories))) ≡ true = (fits.fits c.number who.host was found).kept in
      let low : was.file < length s.directories = in-stand was.file (length s.directories) there in
      let same = k.0 in
      record {
        number = c.number;
        numbered = number-back prefix s.directories more c.number (ap (number_of prefix) (sym directories) ∙ c.numbered) (omega arith);
        row = was;
        stands = found;
        holder = w ∙ c.holder;
        caching = caching;
        began = ap (tag_below tag) since ∙ c.began;
      }

  kept : (prefix : List ℕ) (who : Who) (tag : Tag) (d : WasDrawn s tag) (c : Chained after prefix who tag) (f : CameFrom s.table c.number who.host c.row)
      → c.row.since ≡ (back prefix who tag d c f).row.since
  kept prefix who tag d c (is_new new) = let yes = new tag d in let no = c.began in absurd (cc)
  kept prefix who tag d c (went_on was found caching w since) = sym since
