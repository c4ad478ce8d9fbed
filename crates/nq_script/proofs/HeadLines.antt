-- The lines of a head: one head for them, and where they go wrong.
use Rattle.std.proofs.Common.{◌≡◌, ◌≢◌, ◌⊎◌, inl, inr, Bool, true, false, ◌==◌, if◌then◌else◌, ℕ, ◌+◌, ◌<◌, ◌≤◌, ◌^◌, List, [], ◌∷◌, ◌++◌, length}
use Rattle.std.proofs.Common.{get_or, drop, map, refl, ap, sym, ◌∙◌, arith, lit<, lit≤, subst, append_assoc, codes, ◌-◌, Result, Ok, Err}
use Rattle.std.specs.Fmt.{decimal}
use Rattle.std.specs.List.{AllByRecursion}
use Rattle.std.proofs.lemmas.Bool.{cases_lt, eqb-true, ne_eqb}
use Rattle.std.proofs.lemmas.Fmt.{decimal_injective}
use Rattle.std.proofs.lemmas.List.{append-nil, length-map, drop_at, length-append}
use Rattle.nq_script.specs.Heads.{IsFile, FitFiles, FitsHead, AreSettings, IsLongest, file_line, file_lines, first_file, version_line, hosts_line}
use Rattle.nq_script.specs.Heads.{term_line, longest_line, longest_lines, most_term, settings_lines, head_lines}
use Rattle.nq_script.specs.Progress.{WrongFile, NoNumber}
use Rattle.nq_script.specs.Schedule.{Begins, IsHead, FirstBadHeadLine, StandsInFront}
use Rattle.nq_script.specs.Text.{IsVersion, Lacks, text_of}
use Rattle.nq_script.specs.Faults.{Answers}
use Rattle.nq_script.specs.declared.faults.ScriptFault.{ScriptFault}
use Rattle.nq_script.specs.declared.faults.ScriptFault.TheVariants.{Bad, Memory}
use Rattle.nq_script.specs.declared.heads.Head.{Head}
use Rattle.nq_script.specs.declared.heads.HeadOut.{HeadOut}
use Rattle.nq_script.proofs.FileLines.{text-behind}
use Rattle.nq_script.proofs.Fitting.{each-append, each-back, fit-front, fit-none}
use Rattle.nq_script.proofs.HeadReading.{file-line-same}
use Rattle.nq_script.proofs.NameBytes.{name-lacks}
use Rattle.nq_script.proofs.Numbers.{decimal-lacks}
use Rattle.nq_script.proofs.Splitting.{first-same, rest-same, nil-cons, not-nil, lacks-tested, lacks-append, splits, Splits, wrong-stuck, wrong-once}

-- no line of a head has a line feed
number-line-lacks : (word : List ℕ) (n : ℕ) → Lacks 10 word → n < 2 ^ 64 → Lacks 10 (word ++ decimal n)
number-line-lacks word n lacks low = lacks-append 10 word (decimal n) lacks (decimal-lacks 10 n refl low)

file-line-lacks : (f : List ℕ × ℕ) → IsFile f → Lacks 10 (file_line f)
file-line-lacks f is =
    lacks-append 10 (codes "file ") (f.0 ++ 32 ∷ decimal f.1) (lacks-tested 10 (codes "file ") refl)
    (lacks-append 10 f.0 (32 ∷ decimal f.1) (name-lacks 10 f.0 (lit< tt) is.0)
    (lacks-append 10 (32 ∷ []) (decimal f.1) (lacks-tested 10 (32 ∷ []) refl)
    (decimal-lacks 10 f.1 refl (let small : f.1 ≤ 1024 = is.2 in omega arith))))

pub files-lack : (files : List (List ℕ × ℕ)) → AllByRecursion IsFile files → AllByRecursion (Lacks 10) (map file_line files)
files-lack [] each = tt
files-lack (f ∷ files) each = (file-line-lacks f each.0, files-lack files each.1)

-- a version, a term and a longest term are small
pub version-low : (version : ℕ) → IsVersion version → (1 ≤ version) × (version ≤ 2)
version-low version (inl first) = (omega arith, omega arith)
version-low version (inr second) = (omega arith, omega arith)

pub term-low : (version term : ℕ) → term ≤ most_term version → term ≤ 600
term-low version term low = by_test (version == 1) low where
  by_test : (test : Bool) → term ≤ (if test then 60 else 600) → term ≤ 600
  by_test true few = omega arith
  by_test false few = few

version-lacks : (version : ℕ) → IsVersion version → Lacks 10 (version_line version)
version-lacks version known =
    let low = version-low version known in
    number-line-lacks (codes "nqnfs-schedule ") version (lacks-tested 10 (codes "nqnfs-schedule ") refl) (omega arith)

hosts-lacks : (hosts : ℕ) → hosts ≤ 64 → Lacks 10 (hosts_line hosts)
hosts-lacks hosts few = number-line-lacks (codes "hosts ") hosts (lacks-tested 10 (codes "hosts ") refl) (omega arith)

term-lacks : (term : ℕ) → term ≤ 600 → Lacks 10 (term_line term)
term-lacks term short = number-line-lacks (codes "term ") term (lacks-tested 10 (codes "term ") refl) (omega arith)

longest-lacks : (version longest : ℕ) → longest ≤ 600 → AllByRecursion (Lacks 10) (longest_lines version longest)
longest-lacks version longest short = by_test (version == 1) where
  by_test : (test : Bool) → AllByRecursion (Lacks 10) (if test then [] else longest_line longest ∷ [])
  by_test true = tt
  by_test false = (number-line-lacks (codes "longest ") longest (lacks-tested 10 (codes "longest ") refl) (omega arith), tt)

settings-lack : (version hosts term longest : ℕ) → AreSettings version hosts term longest
    → AllByRecursion (Lacks 10) (settings_lines version hosts term longest)
settings-lack version hosts term longest are = (
  version-lacks version are.known,
  (
    hosts-lacks hosts are.few_hosts,
    (term-lacks term (term-low version term are.short_term), longest-lacks version longest are.fit_longest.1),
  ),
)

pub head-lacks : (head : Head) → FitsHead head → AllByRecursion (Lacks 10) (head_lines head)
head-lacks head fits =
    each-append (Lacks 10) (settings_lines head.version head.hosts head.term head.longest) (file_lines head.files)
    (settings-lack head.version head.hosts head.term head.longest fits.settings)
    (each-append (Lacks 10) (map file_line head.files) (codes "begin" ∷ []) (files-lack head.files fits.files.each)
    (lacks-tested 10 (codes "begin") refl, tt))

begin-no-file : (f : List ℕ × ℕ) → codes "begin" ≡ file_line f → ⊥
begin-no-file f e = let first : ◌≡◌ {A = ℕ} 98 102 = ap (λ l. get_or l 0 0) e in absurd (omega arith)

-- files whose lines stand in front of two texts are one
one-files : (fs gs : List (List ℕ × ℕ)) (xs ys : List (List ℕ)) → AllByRecursion IsFile fs → AllByRecursion IsFile gs
    → file_lines fs ++ xs ≡ file_lines gs ++ ys → (fs ≡ gs) × (xs ≡ ys)
one-files [] [] xs ys a b e = (refl, rest-same e)
one-files [] (g ∷ gs) xs ys a b e = absurd (begin-no-file g (first-same e))
one-files (f ∷ fs) [] xs ys a b e = absurd (begin-no-file f (sym (first-same e)))
one-files (f ∷ fs) (g ∷ gs) xs ys a b e =
    let same = file-line-same f g a.0 b.0 (first-same e) in
    let others = one-files fs gs xs ys a.1 b.1 (rest-same e) in
    (rw (same, others.0) refl, others.1)

same-number : (word : List ℕ) (m n : ℕ) → m < 2 ^ 64 → n < 2 ^ 64 → word ++ decimal m ≡ word ++ decimal n → m ≡ n
same-number [] m n low-m low-n e = decimal_injective m n low-m low-n e
same-number (w ∷ word) m n low-m low-n e = same-number word m n low-m low-n (rest-same e)

same-version : (v w : ℕ) → IsVersion v → IsVersion w → version_line v ≡ version_line w → v ≡ w
same-version v w a b e =
    let low = version-low v a in let low' = version-low w b in
    same-number (codes "nqnfs-schedule ") v w (omega arith) (omega arith) e

-- lines of a longest term that stand in front of two lists of one version are one
one-longest : (version l m : ℕ) (xs ys : List (List ℕ)) → IsLongest version l → IsLongest version m
    → longest_lines version l ++ xs ≡ longest_lines version m ++ ys → (l ≡ m) × (xs ≡ ys)
one-longest version l m xs ys a b e = by_test (version == 1) refl e where
  by_test : (test : Bool) → (version == 1) ≡ test → (if test then [] else longest_line l ∷ []) ++ xs ≡ (if test then [] else longest_line m ∷ []) ++ ys
      → (l ≡ m) × (xs ≡ ys)
  by_test true first same = let v = eqb-true version 1 first in (a.2 v ∙ sym (b.2 v), same)
  by_test false other same =
      (same-number (codes "longest ") l m (let few = a.1 in omega arith) (let few = b.1 in omega arith) (first-same same), rest-same same)

-- settings whose lines stand in front of one list of lines are one
one-settings : (v h t l v' h' t' l' : ℕ) (xs ys : List (List ℕ)) → AreSettings v h t l → AreSettings v' h' t' l'
    → settings_lines v h t l ++ xs ≡ settings_lines v' h' t' l' ++ ys → (v ≡ v') × (h ≡ h') × (t ≡ t') × (l ≡ l') × (xs ≡ ys)
one-settings v h t l v' h' t' l' xs ys a b e =
    let version : v ≡ v' = same-version v v' a.known b.known (first-same e) in
    let hosts : h ≡ h' = same-number (codes "hosts ") h h' (let few = a.few_hosts in omega arith) (let few = b.few_hosts in omega arith)
    (first-same (rest-same e)) in
    let term : t ≡ t' = same-number (codes "term ") t t' (let few = term-low v t a.short_term in omega arith) (let few =
    term-low v' t' b.short_term in omega arith)
    (first-same (rest-same (rest-same e))) in
    let longest = one-longest v' l l' xs ys (subst (λ u. IsLongest u l) version a.fit_longest) b.fit_longest
    (subst (λ u. longest_lines u l ++ xs ≡ longest_lines v' l' ++ ys) version (rest-same (rest-same (rest-same e)))) in
    (version, hosts, term, longest.0, longest.1)

-- heads whose lines stand in front of one list of lines are one
pub one-head : (g h : Head) (xs ys : List (List ℕ)) → FitsHead g → FitsHead h → head_lines g ++ xs ≡ head_lines h ++ ys → (g ≡ h) × (xs ≡ ys)
one-head g h xs ys a b e =
    let settings = one-settings g.version g.hosts g.term g.longest h.version h.hosts h.term h.longest (file_lines g.files ++ xs) (file_lines h.files ++ ys)
    a.settings b.settings
    (sym (append_assoc (settings_lines g.version g.hosts g.term g.longest) (file_lines g.files) xs) ∙ e
    ∙ append_assoc (settings_lines h.version h.hosts h.term h.longest) (file_lines h.files) ys) in
    let files = one-files g.files h.files xs ys a.files.each b.files.each settings.4 in (
      λ i. record { version = settings.0 i; hosts = settings.1 i; term = settings.2 i; longest = settings.3 i; files = files.0 i },
      files.1,
    )

-- what stands behind files in a head is `begin`, or one of its files behind them
files-next : (fs gs : List (List ℕ × ℕ)) (line : List ℕ) (more : List (List ℕ)) → AllByRecursion IsFile fs → AllByRecursion IsFile gs
    → map file_line fs ++ line ∷ [] ++ more ≡ file_lines gs
    → (line ≡ codes "begin") ⊎ ((f : List ℕ × ℕ) × (others : List (List ℕ × ℕ)) × (line ≡ file_line f) × (gs ≡ fs ++ f ∷ others))
files-next [] [] line more a b e = inl (first-same e)
files-next [] (g ∷ gs) line more a b e = inr (g, gs, first-same e, refl)
files-next (f ∷ fs) [] line more a b e = absurd (begin-no-file f (sym (first-same e)))
files-next (f ∷ fs) (g ∷ gs) line more a b e =
    behind (file-line-same f g a.0 b.0 (first-same e)) (files-next fs gs line more a.1 b.1 (rest-same e)) where
      behind : f ≡ g → (line ≡ codes "begin") ⊎ ((h : List ℕ × ℕ) × (others : List (List ℕ × ℕ)) × (line ≡ file_line h) × (gs ≡ fs ++ h ∷ others))
          → (line ≡ codes "begin") ⊎ ((h : List ℕ × ℕ) × (others : List (List ℕ × ℕ)) × (line ≡ file_line h) × (g ∷ gs ≡ f ∷ fs ++ h ∷ others))
      behind same (inl begin) = inl begin
      behind same (inr w) = inr (w.0, w.1, w.2, rw (same, w.3) refl)

plain-head : (version hosts term : ℕ) → Head
plain-head version hosts term = record { version = version; hosts = hosts; term = term; longest = 60; files = [] }

plain-fits : (version hosts term : ℕ) → IsVersion version → 1 ≤ hosts → hosts ≤ 64 → 5 ≤ term → term ≤ most_term version
    → FitsHead (plain-head version hosts term)
unfolding plain-head
plain-fits version hosts term known some few long short = record {
  settings = record {
    known = known;
    some_hosts = some;
    few_hosts = few;
    long_term = long;
    short_term = short;
    fit_longest = (lit≤ tt, lit≤ tt, λ first. refl);
  };
  files = fit-none;
}

-- a term of 5 ticks may be in each version
five-short : (version : ℕ) → 5 ≤ most_term version
five-short version = by_test (version == 1) where
  by_test : (test : Bool) → 5 ≤ (if test then 60 else 600)
  by_test true = lit≤ tt
  by_test false = lit≤ tt

-- where behind lines with which a head begins there is no line, or it is no such number behind the prefix
wrong-number : (text rest : List ℕ) (before : List (List ℕ)) (prefix : List ℕ) (least most : ℕ) → text ≡ text_of before ++ rest
    → AllByRecursion (Lacks 10) before → Begins IsHead before → (IsHead before → ⊥)
    → ((g : Head) (line : List ℕ) (more : List (List ℕ)) → FitsHead g → before ++ line ∷ [] ++ more ≡ head_lines g
    → (value : ℕ) × (least ≤ value) × (value ≤ most) × (line ≡ prefix ++ decimal value))
    → NoNumber prefix least most rest → FirstBadHeadLine text (length before + 1)
wrong-number text rest before prefix least most split lacks begun unfinished next none = record {
  before = before;
  rest = rest;
  split = split;
  lines = lacks;
  place = refl;
  begun = begun;
  unfinished = unfinished;
  stuck = λ line after here lacks' more.
      let found = next more.1.0 line more.0 more.1.1 more.1.2 in
      none found.0 line after found.1 found.2 here lacks' found.3;
}

-- where the first line is none that names a version
pub wrong-version : (text : List ℕ) → NoNumber (codes "nqnfs-schedule ") 1 2 text → FirstBadHeadLine text 1
unfolding plain-head
wrong-version text none =
    wrong-number text text [] (codes "nqnfs-schedule ") 1 2 refl tt
    (head_lines (plain-head 1 1 5), (plain-head 1 1 5, plain-fits 1 1 5 (inl refl) (lit≤ tt) (lit≤ tt) (lit≤ tt) (lit≤ tt), refl))
    (λ is. nil-cons is.2)
    (λ g line more fits same. let low = version-low g.version fits.settings.known in (g.version, low.0, low.1, first-same same)) none

-- where behind it there is no line, or it names no number of hosts
pub wrong-hosts : (text rest : List ℕ) (version : ℕ) → IsVersion version → text ≡ text_of (version_line version ∷ []) ++ rest
    → NoNumber (codes "hosts ") 1 64 rest → FirstBadHeadLine text 2
unfolding plain-head
wrong-hosts text rest version known split none =
    wrong-number text rest (version_line version ∷ []) (codes "hosts ") 1 64 split (version-lacks version known, tt) (
      hosts_line 1 ∷ term_line 5 ∷ longest_lines version 60 ++ codes "begin" ∷ [],
      (plain-head version 1 5, plain-fits version 1 5 known (lit≤ tt) (lit≤ tt) (lit≤ tt) (five-short version), refl),
    )
    (λ is. nil-cons (rest-same is.2))
    (λ g line more fits same. (g.hosts, fits.settings.some_hosts, fits.settings.few_hosts, first-same (rest-same same))) none

-- where behind these there is no line, or it names no term
pub wrong-term : (text rest : List ℕ) (version hosts : ℕ) → IsVersion version → 1 ≤ hosts → hosts ≤ 64
    → text ≡ text_of (version_line version ∷ hosts_line hosts ∷ []) ++ rest
    → NoNumber (codes "term ") 5 (most_term version) rest → FirstBadHeadLine text 3
unfolding plain-head
wrong-term text rest version hosts known some few split none =
    wrong-number text rest (version_line version ∷ hosts_line hosts ∷ []) (codes "term ") 5 (most_term version) split
    (version-lacks version known, (hosts-lacks hosts few, tt)) (
      term_line 5 ∷ longest_lines version 60 ++ codes "begin" ∷ [],
      (plain-head version hosts 5, plain-fits version hosts 5 known some few (lit≤ tt) (five-short version), refl),
    )
    (λ is. nil-cons (rest-same (rest-same is.2)))
    (λ g line more fits same. (
      g.term,
      fits.settings.long_term,
      subst (λ v. g.term ≤ most_term v) (sym (same-version version g.version known fits.settings.known (first-same same))) fits.settings.short_term,
      first-same (rest-same (rest-same same)),
    )) none

-- lines before `begin` are not none
some-lines : (xs : List (List ℕ)) (files : List (List ℕ × ℕ)) → xs ++ file_lines files ≡ [] → ⊥
some-lines xs files e = not-nil (xs ++ map file_line files) (codes "begin") [] (append_assoc xs (map file_line files) (codes "begin" ∷ []) ∙ e)

-- version 2 has a line of the longest term
longest-next : (version longest : ℕ) (line : List ℕ) (more xs : List (List ℕ)) → version ≢ 1 → line ∷ more ≡ longest_lines version longest ++ xs
    → line ≡ longest_line longest
longest-next version longest line more xs other e =
    first-same (subst (λ test. line ∷ more ≡ (if test then [] else longest_line longest ∷ []) ++ xs) (ne_eqb version 1 other) e)

-- where behind these there is no line, or it names no longest term
pub wrong-longest : (text rest : List ℕ) (version hosts term : ℕ) → IsVersion version → 1 ≤ hosts → hosts ≤ 64 → 5 ≤ term → term ≤ most_term version
    → version ≢ 1 → text ≡ text_of (version_line version ∷ hosts_line hosts ∷ term_line term ∷ []) ++ rest
    → NoNumber (codes "longest ") 5 600 rest → FirstBadHeadLine text 4
unfolding plain-head
wrong-longest text rest version hosts term known some few long short other split none =
    wrong-number text rest (version_line version ∷ hosts_line hosts ∷ term_line term ∷ []) (codes "longest ") 5 600 split
    (version-lacks version known, (hosts-lacks hosts few, (term-lacks term (term-low version term short), tt))) (
      longest_lines version 60 ++ codes "begin" ∷ [],
      (plain-head version hosts term, plain-fits version hosts term known some few long short, refl),
    )
    (λ is. some-lines (longest_lines is.0.version is.0.longest) is.0.files (sym (rest-same (rest-same (rest-same is.2)))))
    (λ g line more fits same.
    let is : version ≡ g.version = same-version version g.version known fits.settings.known (first-same same) in (
      g.longest,
      fits.settings.fit_longest.0,
      fits.settings.fit_longest.1,
      longest-next g.version g.longest line more (file_lines g.files) (λ first. other (is ∙ first)) (rest-same (rest-same (rest-same same))),
    )) none

no-begin : (fs gs : List (List ℕ × ℕ)) → map file_line fs ≡ file_lines gs → ⊥
no-begin [] [] e = nil-cons e
no-begin [] (g ∷ gs) e = nil-cons e
no-begin (f ∷ fs) [] e = begin-no-file f (sym (first-same e))
no-begin (f ∷ fs) (g ∷ gs) e = no-begin fs gs (rest-same e)

-- there are as many lines above the files as is said
pub first-counted : (version hosts term longest : ℕ) → first_file version ≡ length (settings_lines version hosts term longest) + 1
first-counted version hosts term longest = by_test (version == 1) where
  by_test : (test : Bool) → (if test then 4 else 5) ≡ length (version_line version ∷ hosts_line hosts ∷ term_line term
      ∷ (if test then [] else longest_line longest ∷ [])) + 1
  by_test true = refl
  by_test false = refl

-- where the lines of files go wrong behind these
pub wrong-file : (text rest : List ℕ) (version hosts term longest number : ℕ) → AreSettings version hosts term longest
    → text ≡ text_of (settings_lines version hosts term longest) ++ rest → WrongFile (first_file version) rest number → FirstBadHeadLine text number
wrong-file text rest version hosts term longest number settings split w = record {
  before = above ++ map file_line w.files;
  rest = w.rest;
  split = text-behind text above (map file_line w.files) rest w.rest split w.split;
  lines = each-append (Lacks 10) above (map file_line w.files) (settings-lack version hosts term longest settings) (files-lack w.files w.fit.each);
  place =
      let here = w.place in
      let first = first-counted version hosts term longest in
      let long = length-map w.files file_line in
      let whole = length-append above (map file_line w.files) in omega arith;
  begun = (codes "begin" ∷ [], (head, fits, append_assoc above (map file_line w.files) (codes "begin" ∷ [])));
  unfinished = λ is. no-begin w.files is.0.files (behind is.0 is.1 (map file_line w.files) is.2);
  stuck = λ line after here lacks begun.
      by_next line begun.1.0 begun.1.1 (w.stuck line after here lacks)
      (files-next w.files begun.1.0.files line begun.0 w.fit.each begun.1.1.files.each
      (behind begun.1.0 begun.1.1 (map file_line w.files ++ line ∷ [] ++ begun.0) (regrouped line begun.0 begun.1.0 begun.1.2)));
} where
  above : List (List ℕ)
  above = settings_lines version hosts term longest

  head : Head
  head = record { version = version; hosts = hosts; term = term; longest = longest; files = w.files }

  fits : FitsHead head
  fits = record { settings = settings; files = w.fit }

  -- what stands behind the settings in a head is its files
  behind : (g : Head) → FitsHead g → (xs : List (List ℕ)) → above ++ xs ≡ head_lines g → xs ≡ file_lines g.files
  behind g fits xs same =
      (one-settings version hosts term longest g.version g.hosts g.term g.longest xs (file_lines g.files) settings fits.settings same).4

  regrouped : (line : List ℕ) (more : List (List ℕ)) (g : Head) → above ++ map file_line w.files ++ line ∷ [] ++ more ≡ head_lines g
      → above ++ (map file_line w.files ++ line ∷ [] ++ more) ≡ head_lines g
  regrouped line more g same =
      sym (append_assoc above (map file_line w.files ++ line ∷ []) more)
      ∙ ap (λ l. l ++ more) (sym (append_assoc above (map file_line w.files) (line ∷ []))) ∙ same

  by_next : (line : List ℕ) (g : Head) → FitsHead g
      → (line ≡ codes "begin" → ⊥) × ((f : List ℕ × ℕ) → line ≡ file_line f → FitFiles (w.files ++ f ∷ []) → ⊥)
      → (line ≡ codes "begin") ⊎ ((f : List ℕ × ℕ) × (others : List (List ℕ × ℕ)) × (line ≡ file_line f) × (g.files ≡ w.files ++ f ∷ others)) → ⊥
  by_next line g fits stuck (inl begin) = stuck.0 begin
  by_next line g fits stuck (inr next) =
      stuck.1 next.0 next.2 (fit-front (w.files ++ next.0 ∷ []) next.1
      (subst FitFiles (next.3 ∙ sym (append_assoc w.files (next.0 ∷ []) next.1)) fits.files))

-- a text with a head in front goes wrong nowhere in it
pub head-right : (text : List ℕ) (number : ℕ) (head : Head) (rest : List ℕ) → FitsHead head → text ≡ text_of (head_lines head) ++ rest
    → FirstBadHeadLine text number → ⊥
head-right text number head rest fits split w =
    by_order (splits w.before (head_lines head) w.rest rest w.lines (head-lacks head fits) (sym w.split ∙ split)) where
      shorter : (more : List (List ℕ)) → head_lines head ≡ w.before ++ more → w.rest ≡ text_of more ++ rest → ⊥
      shorter [] same left = w.unfinished (head, fits, sym (same ∙ append-nil w.before))
      shorter (line ∷ more) same left =
          wrong-stuck IsHead (λ before rest. IsHead before) text number w line more rest
          (each-back (Lacks 10) w.before (line ∷ more) (subst (AllByRecursion (Lacks 10)) same (head-lacks head fits))) left
          ([], (head, fits, append-nil (w.before ++ line ∷ more) ∙ sym same))

      longer : (more : List (List ℕ)) → w.before ≡ head_lines head ++ more → ⊥
      longer [] same = w.unfinished (head, fits, same ∙ append-nil (head_lines head))
      longer (line ∷ more) same =
          let begun = w.begun in
          let one = one-head head begun.1.0 (line ∷ more ++ begun.0) [] fits begun.1.1
          (sym (append_assoc (head_lines head) (line ∷ more) begun.0) ∙ ap (λ l. l ++ begun.0) (sym same) ∙ begun.1.2
          ∙ sym (append-nil (head_lines begun.1.0))) in
          nil-cons (sym one.1)

      by_order : Splits w.before (head_lines head) w.rest rest → ⊥
      by_order (inl s) = shorter s.0 s.1 s.2
      by_order (inr s) = longer s.0 s.1

front-size : (text front rest : List ℕ) → text ≡ front ++ rest → length text - length rest ≡ length front
front-size text front rest e = let long = ap length e in let sum = length-append front rest in omega arith

front-drop : (text front rest : List ℕ) → text ≡ front ++ rest → text ≡ front ++ drop (length text - length rest) text
front-drop text front rest e =
    e ∙ ap (λ r. front ++ r) (sym (drop_at front rest (length text - length rest) (sym (front-size text front rest e)))
    ∙ ap (drop (length text - length rest)) (sym e))

-- the versions
pub known-version : (version : ℕ) → 1 ≤ version → version ≤ 2 → IsVersion version
known-version version low high = by_order (cases_lt version 2) where
  by_order : (version < 2) ⊎ (2 ≤ version) → IsVersion version
  by_order (inl below) = inl (omega arith)
  by_order (inr above) = inr (omega arith)

-- settings that fit, one by one
pub are-settings : (version hosts term longest : ℕ) → IsVersion version → 1 ≤ hosts → hosts ≤ 64 → 5 ≤ term → term ≤ most_term version
    → IsLongest version longest → AreSettings version hosts term longest
are-settings version hosts term longest known some few long short is = record {
  known = known;
  some_hosts = some;
  few_hosts = few;
  long_term = long;
  short_term = short;
  fit_longest = is;
}

-- a head that was read stands in front
pub head-in-front : (text rest rest' : List ℕ) (head : Head) (count : ℕ) → AreSettings head.version head.hosts head.term head.longest
    → text ≡ text_of (settings_lines head.version head.hosts head.term head.longest) ++ rest → FitFiles head.files
    → rest ≡ text_of (file_lines head.files) ++ rest' → count ≡ first_file head.version + length head.files
    → StandsInFront head count (length text - length rest') text
head-in-front text rest rest' head count settings split fit behind counted = record {
  fits = record { settings = settings; files = fit };
  split = front-drop text (text_of (head_lines head)) rest' whole;
  bytes = front-size text (text_of (head_lines head)) rest' whole;
  lines =
      let first = first-counted head.version head.hosts head.term head.longest in
      let long = length-append (map file_line head.files) (codes "begin" ∷ []) in
      let all = length-append (settings_lines head.version head.hosts head.term head.longest) (file_lines head.files) in
      let same = length-map head.files file_line in omega arith;
} where
  whole : text ≡ text_of (head_lines head) ++ rest'
  whole = text-behind text (settings_lines head.version head.hosts head.term head.longest) (file_lines head.files) rest rest' split behind

-- of two heads with which a text begins, the one is the other
pub one-text-head : (g h : Head) (rest rest' : List ℕ) → FitsHead g → FitsHead h → text_of (head_lines g) ++ rest ≡ text_of (head_lines h) ++ rest' → g ≡ h
one-text-head g h rest rest' a b e = by_order (splits (head_lines g) (head_lines h) rest rest' (head-lacks g a) (head-lacks h b) e) where
  by_order : Splits (head_lines g) (head_lines h) rest rest' → g ≡ h
  by_order (inl s) = (one-head g h s.0 [] a b (sym s.1 ∙ sym (append-nil (head_lines h)))).0
  by_order (inr s) = (one-head g h [] s.0 a b (append-nil (head_lines g) ∙ s.1)).0

-- the one head that stands in front is read
pub head-only : (text : List ℕ) (head : Head) (rest : List ℕ) → FitsHead head → text ≡ text_of (head_lines head) ++ rest → (r : Result HeadOut ScriptFault)
    → Answers r (λ out. StandsInFront out.head out.lines out.bytes text) (λ number. FirstBadHeadLine text number)
    → Answers r (λ out. out.head ≡ head) (λ number. ⊥)
head-only text head rest fits split (Ok out) said =
    one-text-head out.head head (drop out.bytes text) rest said.fits fits (sym said.split ∙ split)
head-only text head rest fits split (Err (Bad number)) said = head-right text number head rest fits split said
head-only text head rest fits split (Err Memory) said = tt

-- the first line that is wrong is the one that is named
pub head-bad : (text : List ℕ) (number : ℕ) → FirstBadHeadLine text number → (r : Result HeadOut ScriptFault)
    → Answers r (λ out. StandsInFront out.head out.lines out.bytes text) (λ place. FirstBadHeadLine text place)
    → Answers r (λ out. ⊥) (λ place. place ≡ number)
head-bad text number w (Ok out) said = head-right text number out.head (drop out.bytes text) said.fits said.split w
head-bad text number w (Err (Bad place)) said = wrong-once IsHead (λ before rest. IsHead before) text place number said w
head-bad text number w (Err Memory) said = tt
