-- A text is one schedule with asides, or has one first line that is wrong.
use Rattle.std.proofs.Common.{◌≡◌, ◌<◌, ◌≤◌, ◌^◌, inl, inr, ℕ, ◌+◌, Bool, true, false, List, [], ◌∷◌, ◌++◌, drop, take, length, map, Option, Some}
use Rattle.std.proofs.Common.{None, is_some, Result, Ok, Err, refl, sym, ap, subst, ◌∙◌, arith, length-append}
use Rattle.std.proofs.lemmas.Bool.{eqb-true}
use Rattle.std.proofs.lemmas.List.{append_cancel_left, take_at}
use Rattle.std.specs.Prelude.{◌==◌, codes, if◌then◌else◌}
use Rattle.nq_replay.proofs.Lining.{same-head}
use Rattle.nq_replay.specs.Text.{FirstBadMixed, HasHead, HoldsOfAside, HoldsOfAsides, IsReadyMixed, MixedLine, SpellsMixed, asides_in, in_front}
use Rattle.nq_replay.specs.Text.{lines_in, mixed, new_line, plain_bytes, plain_line, plain_text}
use Rattle.nq_replay.specs.declared.asides.scripts.MixedScript.{MixedScript}
use Rattle.nq_script.proofs.HeadLines.{head-right, one-text-head}
use Rattle.nq_script.proofs.Splitting.{wrong-once}
use Rattle.nq_script.proofs.Whole.{one-schedule, schedule-right}
use Rattle.nq_script.specs.Faults.{Answers}
use Rattle.nq_script.specs.Heads.{head_lines}
use Rattle.nq_script.specs.Schedule.{FirstBadLine, IsHead, IsSchedule, SpellsSchedule, StandsInFront}
use Rattle.nq_script.specs.Text.{IsVersion, text_of}
use Rattle.nq_script.specs.declared.faults.ScriptFault.{ScriptFault}
use Rattle.nq_script.specs.declared.faults.ScriptFault.TheVariants.{Bad, Memory}
use Rattle.nq_script.specs.declared.heads.Head.{Head}

-- ---- one head, and one body behind it

one-front : (g h : Head) (body body' text : List ℕ) → HasHead g body text → HasHead h body' text → (g ≡ h) × (body ≡ body')
one-front g h body body' text a b =
    let same : g ≡ h = one-text-head g h body body' a.fits b.fits (sym a.split ∙ b.split) in
    (same, append_cancel_left (text_of (head_lines g)) body body' (sym a.split ∙ b.split ∙ ap (λ k. text_of (head_lines k) ++ body') (sym same)))

-- which is of version 2
other-version : (g h : Head) → g ≡ h → g.version ≡ 2 → h.version ≡ 1 → ⊥
other-version g h same second first = let e : g.version ≡ h.version = ap (λ k. k.version) same in absurd (omega arith)

-- a head that stands in front of a text, and what is behind it
pub front-has : (head : Head) (count size : ℕ) (text : List ℕ) → StandsInFront head count size text → HasHead head (drop size text) text
front-has head count size text front = record { fits = front.fits; split = front.split }

front-taken : (head : Head) (count size : ℕ) (text : List ℕ) → StandsInFront head count size text → take size text ≡ text_of (head_lines head)
front-taken head count size text front =
    ap (take size) front.split ∙ take_at (text_of (head_lines head)) (drop size text) size (sym front.bytes)

-- ---- lengths

in-first : (b : ℕ) (p : List (List ℕ) × List ℕ) → text_of (in_front b p).0 ++ (in_front b p).1 ≡ b ∷ (text_of p.0 ++ p.1)
in-first b ([], rest) = refl
in-first b (line ∷ lines, rest) = refl

whole-step : (b : ℕ) (bytes : List ℕ) (p : List (List ℕ) × List ℕ) (test : Bool) → (b == 10) ≡ test → text_of p.0 ++ p.1 ≡ bytes
    → text_of (if test then new_line p else in_front b p).0 ++ (if test then new_line p else in_front b p).1 ≡ b ∷ bytes
whole-step b bytes p true is whole = let e : b ≡ 10 = eqb-true b 10 is in rw e (ap (λ t. 10 ∷ t) whole)
whole-step b bytes p false is whole = in-first b p ∙ ap (λ t. b ∷ t) whole

whole-lines : (bytes : List ℕ) → text_of (lines_in bytes).0 ++ (lines_in bytes).1 ≡ bytes
whole-lines [] = refl
whole-lines (b ∷ bytes) = whole-step b bytes (lines_in bytes) (b == 10) refl (whole-lines bytes)

module _ {A : Type 0} (read : List ℕ → Option A) (long : (line : List ℕ) (aside : A) → read line ≡ Some aside → 4 ≤ length line) where
  flow-shorter : (line : List ℕ) (o : Option A) → read line ≡ o → length (if is_some o then codes "flow" else line) ≤ length line
  flow-shorter line None is = omega arith
  flow-shorter line (Some aside) is = long line aside is

  line-shorter : (line : List ℕ) → length (plain_line read line) ≤ length line
  line-shorter line = flow-shorter line (read line) refl

  lines-shorter : (lines : List (List ℕ)) → length (text_of (map (plain_line read) lines)) ≤ length (text_of lines)
  lines-shorter [] = omega arith
  lines-shorter (line ∷ lines) =
      let here = line-shorter line in
      let rest = lines-shorter lines in
      let one = length-append (plain_line read line) (10 ∷ text_of (map (plain_line read) lines)) in
      let two = length-append line (10 ∷ text_of lines) in omega arith

  -- a text is no shorter than the one in which lines `flow` stand for asides
  plain-shorter : (body : List ℕ) → length (plain_bytes read body) ≤ length body
  plain-shorter body =
      let less = lines-shorter (lines_in body).0 in
      let whole = ap length (whole-lines body) in
      let one = length-append (text_of (lines_in body).0) (lines_in body).1 in
      let two = length-append (text_of (map (plain_line read) (lines_in body).0)) (lines_in body).1 in omega arith

  -- so it is short where the text is
  pub plain-short : (head : Head) (count size most : ℕ) (text plain : List ℕ) → StandsInFront head count size text
      → plain ≡ take size text ++ plain_bytes read (drop size text) → length text < most → length plain < most
  plain-short head count size most text plain front is short =
      let less = plain-shorter (drop size text) in
      let same = ap length is in
      let long = length-append (take size text) (plain_bytes read (drop size text)) in
      let taken = ap length (front-taken head count size text front) in
      let whole = ap length front.split in
      let two = length-append (text_of (head_lines head)) (drop size text) in omega arith

-- ---- what holds of each aside

module _ {A : Type 0} (read : List ℕ → Option A) (P : A → Type 0) (fit : (line : List ℕ) (aside : A) → read line ≡ Some aside → P aside) where
  aside-fits : (line : List ℕ) (o : Option A) → read line ≡ o → HoldsOfAside P o
  aside-fits line None is = tt
  aside-fits line (Some aside) is = fit line aside is

  pub asides-fit : (lines : List (List ℕ)) → HoldsOfAsides P (map read lines)
  asides-fit [] = tt
  asides-fit (line ∷ lines) = (aside-fits line (read line) refl, asides-fit lines)

-- ---- what a text is

module _ {A : Type 0} (read : (hosts : ℕ) → List ℕ → Option A) where
  plain-same : (g h : Head) (body body' : List ℕ) → (g ≡ h) × (body ≡ body') → plain_text read h body' ≡ plain_text read g body
  plain-same g h body body' same = sym (ap (λ k. plain_text read k body) same.0 ∙ ap (plain_text read h) same.1)

  -- a text spells one schedule with asides
  pub one-mixed : (g h : Head) (ls ms : List (MixedLine A)) (text : List ℕ) → SpellsMixed read g ls text → SpellsMixed read h ms text → (g ≡ h) × (ls ≡ ms)
  one-mixed g h ls ms text s t =
      let front = one-front g h s.body t.body text s.has t.has in
      let one = one-schedule g h s.plainly t.plainly (plain_text read g s.body) s.spelled (subst (SpellsSchedule h t.plainly)
      (plain-same g h s.body t.body front) t.spelled) in (
        front.0,
        s.mixes
            ∙ ap (λ p. mixed (asides_in (read g.hosts) s.body) p) one.1
            ∙ ap (λ (k : Head). mixed (asides_in (read k.hosts) s.body) t.plainly) front.0
            ∙ ap (λ b. mixed (asides_in (read h.hosts) b) t.plainly) front.1
            ∙ sym t.mixes,
      )

  -- a text that is a schedule with asides goes wrong nowhere
  pub mixed-right : (text : List ℕ) (number : ℕ) (head : Head) (lines : List (MixedLine A)) → SpellsMixed read head lines text
      → FirstBadMixed read text number → ⊥
  mixed-right text number head lines s (inl w) = head-right text number head s.body s.has.fits s.has.split w
  mixed-right text number head lines s (inr (inl w)) = other-version head w.head (one-front head w.head s.body w.body text s.has w.has).0 s.version w.version
  mixed-right text number head lines s (inr (inr w)) =
      let front = one-front head w.head s.body w.body text s.has w.has in
      schedule-right (plain_text read head s.body) number head s.plainly s.spelled (subst (λ p. FirstBadLine p number) (plain-same head w.head s.body
      w.body front) w.wrong)

  -- and every other goes wrong in one line first
  pub bad-once : (text : List ℕ) (m n : ℕ) → FirstBadMixed read text m → FirstBadMixed read text n → m ≡ n
  bad-once text m n (inl v) (inl w) = wrong-once IsHead (λ before rest. IsHead before) text m n v w
  bad-once text m n (inl v) (inr (inl w)) = absurd (head-right text m w.head w.body w.has.fits w.has.split v)
  bad-once text m n (inl v) (inr (inr w)) = absurd (head-right text m w.head w.body w.has.fits w.has.split v)
  bad-once text m n (inr (inl v)) (inl w) = absurd (head-right text n v.head v.body v.has.fits v.has.split w)
  bad-once text m n (inr (inr v)) (inl w) = absurd (head-right text n v.head v.body v.has.fits v.has.split w)
  bad-once text m n (inr (inl v)) (inr (inl w)) = v.first ∙ sym w.first
  bad-once text m n (inr (inl v)) (inr (inr w)) = absurd (other-version w.head v.head (one-front w.head v.head w.body v.body text w.has v.has).0
      w.version v.version)
  bad-once text m n (inr (inr v)) (inr (inl w)) = absurd (other-version v.head w.head (one-front v.head w.head v.body w.body text v.has w.has).0
      v.version w.version)
  bad-once text m n (inr (inr v)) (inr (inr w)) =
      let front = one-front v.head w.head v.body w.body text v.has w.has in
      wrong-once IsSchedule (λ before rest. IsSchedule before × (rest ≡ [])) (plain_text read v.head v.body) m n v.wrong
      (subst (λ p. FirstBadLine p n) (plain-same v.head w.head v.body w.body front) w.wrong)

  -- the one schedule with asides that the text spells is read
  pub mixed-only : (text : List ℕ) (head : Head) (lines : List (MixedLine A)) → SpellsMixed read head lines text → (r : Result (MixedScript A) ScriptFault)
      → Answers r (λ s. SpellsMixed read s.script.head (mixed s.asides.items s.script.lines) text) (λ number. FirstBadMixed read text number)
      → Answers r (λ s. (s.script.head ≡ head) × (mixed s.asides.items s.script.lines ≡ lines)) (λ number. ⊥)
  mixed-only text head lines s (Ok found) said = one-mixed found.script.head head (mixed found.asides.items found.script.lines) lines text said s
  mixed-only text head lines s (Err (Bad number)) said = mixed-right text number head lines s said
  mixed-only text head lines s (Err Memory) said = tt

  -- the first line that is wrong is the one that is named
  pub mixed-bad : (text : List ℕ) (number : ℕ) → FirstBadMixed read text number → (r : Result (MixedScript A) ScriptFault)
      → Answers r (λ s. SpellsMixed read s.script.head (mixed s.asides.items s.script.lines) text) (λ place. FirstBadMixed read text place)
      → Answers r (λ s. ⊥) (λ place. place ≡ number)
  mixed-bad text number w (Ok found) said = mixed-right text number found.script.head (mixed found.asides.items found.script.lines) said w
  mixed-bad text number w (Err (Bad place)) said = bad-once text place number said w
  mixed-bad text number w (Err Memory) said = tt

  plain-front : (head : Head) (count size : ℕ) (text plain : List ℕ) → StandsInFront head count size text
      → plain ≡ take size text ++ plain_bytes (read head.hosts) (drop size text) → plain ≡ plain_text read head (drop size text)
  plain-front head count size text plain front is = is ∙ ap (λ f. f ++ plain_bytes (read head.hosts) (drop size text)) (front-taken head count size text front)

  -- a head of version 1
  pub version-one : (head : Head) (count size : ℕ) (text : List ℕ) → StandsInFront head count size text → (head.version ≡ 2 → ⊥) → FirstBadMixed read text 1
  version-one head count size text front other = by_version front.fits.settings.known where
    by_version : IsVersion head.version → FirstBadMixed read text 1
    by_version (inl first) = inr (inl (record {
      head = head;
      body = drop size text;
      has = front-has head count size text front;
      version = first;
      first = refl;
    }))
    by_version (inr second) = absurd (other second)

  -- what the plain text gives is what the text gives
  pub mixed-found : (head : Head) (count size : ℕ) (text plain : List ℕ) (asides : List (Option A)) (r : Result (MixedScript A) ScriptFault)
      → StandsInFront head count size text → head.version ≡ 2 → plain ≡ take size text ++ plain_bytes (read head.hosts) (drop size text)
      → asides ≡ asides_in (read head.hosts) (drop size text)
      → Answers r (λ s. SpellsSchedule s.script.head s.script.lines plain × (s.asides.items ≡ asides)) (λ number. FirstBadLine plain number)
      → Answers r (λ s. SpellsMixed read s.script.head (mixed s.asides.items s.script.lines) text) (λ number. FirstBadMixed read text number)
  mixed-found head count size text plain asides (Ok s) front second is are said =
      let whole = plain-front head count size text plain front is in
      let same : s.script.head ≡ head = same-head head s.script.head (plain_bytes (read head.hosts) (drop size text)) plain s.script.lines front.fits
      whole said.0 in
      subst (λ h. SpellsMixed read h (mixed s.asides.items s.script.lines) text) (sym same) (record {
        body = drop size text;
        has = front-has head count size text front;
        version = second;
        plainly = s.script.lines;
        spelled = subst (λ h. SpellsSchedule h s.script.lines (plain_text read head (drop size text))) same
            (subst (SpellsSchedule s.script.head s.script.lines) whole said.0);
        mixes = ap (λ t. mixed t s.script.lines) (said.1 ∙ are);
      })
  mixed-found head count size text plain asides (Err (Bad number)) front second is are said =
      inr (inr (record {
        head = head;
        body = drop size text;
        has = front-has head count size text front;
        version = second;
        wrong = subst (λ p. FirstBadLine p number) (plain-front head count size text plain front is) said;
      }))
  mixed-found head count size text plain asides (Err Memory) front second is are said = tt

  -- what a schedule that was read is made ready as
  pub mixed-ready : (long : (hosts : ℕ) (line : List ℕ) (aside : A) → read hosts line ≡ Some aside → 4 ≤ length line)
      → (fits : (hosts : ℕ) → A → Type 0) → ((hosts : ℕ) (line : List ℕ) (aside : A) → hosts ≤ 64 → read hosts line ≡ Some aside → fits hosts aside)
      → (head : Head) (count size : ℕ) (text plain : List ℕ) (asides : List (Option A)) (r : Result (MixedScript A) ScriptFault)
      → StandsInFront head count size text → head.version ≡ 2
      → plain ≡ take size text ++ plain_bytes (read head.hosts) (drop size text) → asides ≡ asides_in (read head.hosts) (drop size text)
      → length text < 2 ^ 31
      → Answers r (λ s. SpellsSchedule s.script.head s.script.lines plain × (s.asides.items ≡ asides)) (λ number. FirstBadLine plain number)
      → Answers r (λ s. s.script.first ≡ length (head_lines s.script.head) + 1) (λ number. Unit {0})
      → Answers r (λ s. IsReadyMixed fits s.script s.asides.items) (λ number. Unit {0})
  mixed-ready long fits fit head count size text plain asides (Ok s) front second is are short said first =
      let whole = plain-front head count size text plain front is in
      let same : s.script.head ≡ head =
      same-head head s.script.head (plain_bytes (read head.hosts) (drop size text)) plain s.script.lines front.fits whole said.0 in
      let all : HoldsOfAsides (fits head.hosts) (asides_in (read head.hosts) (drop size text)) =
      asides-fit (read head.hosts) (fits head.hosts) (λ line aside. fit head.hosts line aside front.fits.settings.few_hosts) (lines_in (drop size text)).0 in
      record {
        text = plain;
        spelled = said.0;
        short = plain-short (read head.hosts) (long head.hosts) head count size (2 ^ 31) text plain front is short;
        version = ap (λ h. h.version) same ∙ second;
        first = first;
        asides_are = subst (λ (h : Head). HoldsOfAsides (fits h.hosts) s.asides.items) (sym same) (subst (HoldsOfAsides (fits head.hosts))
            (sym (said.1 ∙ are)) all);
      }
  mixed-ready long fits fit head count size text plain asides (Err (Bad number)) front second is are short said first = tt
  mixed-ready long fits fit head count size text plain asides (Err Memory) front second is are short said first = tt
