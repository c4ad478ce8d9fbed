-- Lines are short.
use Rattle.std.proofs.Common.{◌≡◌, ℕ, ◌+◌, ◌<◌, ◌≤◌, ◌^◌, List, [], ◌∷◌, ◌++◌, length, map, Bool, true, false, ◌==◌, if◌then◌else◌, ap, subst, sym}
use Rattle.std.proofs.Common.{arith, lit<, lit≤, codes, length-append}
use Rattle.std.specs.Fmt.{decimal}
use Rattle.std.specs.List.{AllByRecursion}
use Rattle.std.proofs.lemmas.Fmt.{length-decimal-le}
use Rattle.nq_base.specs.Block.{value_of}
use Rattle.nq_base.specs.declared.Call.{Call}
use Rattle.nq_base.specs.declared.Event.{Event}
use Rattle.nq_script.specs.Calls.{HasCall, FitsCall, call_words}
use Rattle.nq_script.specs.Heads.{AreSettings, IsFile, file_line, file_lines, head_lines, longest_line, longest_lines, settings_lines}
use Rattle.nq_script.specs.Lines.{HasEvent, FitsEvent, TellsTimes, SpellsLine, event_words, longest_words}
use Rattle.nq_script.specs.Schedule.{SpellsLines, SpellsWhole}
use Rattle.nq_script.specs.Text.{spaced}
use Rattle.nq_script.specs.declared.heads.Head.{Head}
use Rattle.nq_script.specs.declared.lines.Line.{Line}
use Rattle.nq_script.proofs.CallReading.{filled-same}
use Rattle.nq_script.proofs.CallWords.{spaced-call}
use Rattle.nq_script.proofs.Fitting.{each-append}
use Rattle.nq_script.proofs.HeadLines.{version-low, term-low}

-- a number below 2 ^ 32 has at most 10 digits, and one below 2 ^ 64 at most 20
ten-digits : (n : ℕ) → n < 2 ^ 32 → length (decimal n) ≤ 10
ten-digits n low = length-decimal-le 10 n (lit< tt) (omega arith) (omega arith)

twenty-digits : (n : ℕ) → n < 2 ^ 64 → length (decimal n) ≤ 20
twenty-digits n low = length-decimal-le 20 n (lit< tt) (omega arith) low

four-digits : (n : ℕ) → n ≤ 1024 → length (decimal n) ≤ 4
four-digits n low = length-decimal-le 4 n (lit< tt) (omega arith) (omega arith)

two-words : (a b : List ℕ) → length (a ++ 32 ∷ b) ≡ length a + 1 + length b
two-words a b = let long = length-append a (32 ∷ b) in omega arith

-- a number below 2 ^ 32 behind words
three-short : (verb : List ℕ) (l m n : ℕ) → length verb ≤ 7 → l < 2 ^ 32 → m < 2 ^ 32 → n < 2 ^ 32
    → length (verb ++ spaced (decimal l ∷ decimal m ∷ decimal n ∷ [])) ≤ 100
three-short verb l m n short low-l low-m low-n =
    let long-l = ten-digits l low-l in
    let long-m = ten-digits m low-m in
    let long-n = ten-digits n low-n in
    let last = two-words (decimal m) (decimal n) in
    let others = two-words (decimal l) (spaced (decimal m ∷ decimal n ∷ [])) in
    let whole = length-append verb (spaced (decimal l ∷ decimal m ∷ decimal n ∷ [])) in omega arith

two-short : (verb : List ℕ) (m n : ℕ) → length verb ≤ 7 → m < 2 ^ 32 → n < 2 ^ 32 → length (verb ++ spaced (decimal m ∷ decimal n ∷ [])) ≤ 100
two-short verb m n short low-m low-n =
    let long-m = ten-digits m low-m in
    let long-n = ten-digits n low-n in
    let last = two-words (decimal m) (decimal n) in
    let whole = length-append verb (spaced (decimal m ∷ decimal n ∷ [])) in omega arith

one-short : (verb : List ℕ) (n : ℕ) → length verb ≤ 8 → n < 2 ^ 64 → length (verb ++ decimal n) ≤ 100
one-short verb n short low = let long = twenty-digits n low in let whole = length-append verb (decimal n) in omega arith

call-short : (version : ℕ) (call : Call) → HasCall version call → FitsCall call → length (spaced (call_words call)) ≤ 100
call-short version (Call.Create name blocks) has fits =
    let long-name : length name ≤ 64 = fits.0.1 in
    let long-blocks = ten-digits blocks fits.1 in
    let last = two-words name (decimal blocks) in omega arith
call-short version (Call.Lookup name) has fits = let long-name : length name ≤ 64 = fits.1 in omega arith
call-short version (Call.Attr file) has fits = one-short (codes "attr ") file (lit≤ tt) (omega arith)
call-short version (Call.Read file block) has fits = two-short (codes "read ") file block (lit≤ tt) fits.0 fits.1
call-short version (Call.Fetch file block) has fits = two-short (codes "fetch ") file block (lit≤ tt) fits.0 fits.1
call-short version (Call.Write file block body) has fits =
    three-short (codes "write ") file block (value_of body) (lit≤ tt) fits.0 fits.1 (filled-same body has).0
call-short version (Call.Put file block body) has fits =
    three-short (codes "put ") file block (value_of body) (lit≤ tt) fits.0 fits.1 (filled-same body has).0
call-short version (Call.Sync file) has fits = one-short (codes "sync ") file (lit≤ tt) (omega arith)
call-short version (Call.Resize file blocks) has fits = two-short (codes "resize ") file blocks (lit≤ tt) fits.0 fits.1
call-short version (Call.Remove file) has fits = one-short (codes "remove ") file (lit≤ tt) (omega arith)

crash-short : (version longest : ℕ) → longest < 2 ^ 32 → length (spaced (codes "crash" ∷ longest_words version longest)) ≤ 128
crash-short version longest low = by_test (version == 2) where
  by_test : (test : Bool) → length (spaced (codes "crash" ∷ (if test then decimal longest ∷ [] else []))) ≤ 128
  by_test true = let long = ten-digits longest low in omega arith
  by_test false = lit≤ tt

event-short : (version : ℕ) (event : Event) (times : ℕ) → HasEvent version event → FitsEvent event → TellsTimes event times
    → length (spaced (event_words version event times)) ≤ 128
event-short version (Event.Call host call) times has fits count =
    let long-host = ten-digits host fits.0 in
    let long-words = call-short version call has fits.1 in
    let words = two-words (decimal host) (spaced (call_words call)) in
    let whole = ap length (spaced-call (decimal host) call) in omega arith
event-short version (Event.Deliver packet) times has fits count =
    let short = one-short (codes "deliver ") packet (lit≤ tt) fits in omega arith
event-short version Event.ServerTick times has fits count =
    let few : times ≤ 1000 = count.1 in let short = one-short (codes "tick s ") times (lit≤ tt) (omega arith) in omega arith
event-short version (Event.ClientTick host) times has fits count =
    let few : times ≤ 1000 = count.1 in let short = two-short (codes "tick ") host times (lit≤ tt) fits (omega arith) in omega arith
event-short version (Event.Restart host) times has fits count =
    let low : host < 2 ^ 32 = fits in let short = one-short (codes "restart ") host (lit≤ tt) (omega arith) in omega arith
event-short version (Event.Crash longest) times has fits count = crash-short version longest fits

line-short : (head : Head) (line : Line) (text : List ℕ) → SpellsLine head line text → length text ≤ 128
line-short head (Line.Events event times) text s =
    subst (λ t. length t ≤ 128) (sym s.1.3) (event-short head.version event times s.1.0 s.1.1 s.1.2)
line-short head (Line.Round times) text s =
    let few : times ≤ 1000 = s.1.0.1 in
    let short = one-short (codes "round ") times (lit≤ tt) (omega arith) in
    let same : length text ≡ length (codes "round " ++ decimal times) = ap length s.1.1 in omega arith
line-short head Line.Flow text s = let same = ap length s.1 in omega arith
line-short head Line.End text s = let same = ap length s.1 in omega arith

lines-short : (head : Head) (lines : List Line) (texts : List (List ℕ)) → SpellsLines head lines texts → AllByRecursion (λ t. length t ≤ 128) texts
lines-short head [] [] s = tt
lines-short head [] (text ∷ texts) s = absurd s
lines-short head (line ∷ lines) [] s = absurd s
lines-short head (line ∷ lines) (text ∷ texts) s = (line-short head line text s.1, lines-short head lines texts s.2)

files-short : (files : List (List ℕ × ℕ)) → AllByRecursion IsFile files → AllByRecursion (λ t. length t ≤ 128) (map file_line files)
files-short [] each = tt
files-short (f ∷ files) each = (
  let whole = two-words f.0 (decimal f.1) in let long-name = each.0.0.1 in let long-blocks = four-digits f.1 each.0.2 in omega arith,
  files-short files each.1,
)

longest-short : (version longest : ℕ) → longest ≤ 600 → AllByRecursion (λ t. length t ≤ 128) (longest_lines version longest)
longest-short version longest few = by_test (version == 1) where
  by_test : (test : Bool) → AllByRecursion (λ t. length t ≤ 128) (if test then [] else longest_line longest ∷ [])
  by_test true = tt
  by_test false = (let long = ten-digits longest (omega arith) in omega arith, tt)

settings-short : (version hosts term longest : ℕ) → AreSettings version hosts term longest
    → AllByRecursion (λ t. length t ≤ 128) (settings_lines version hosts term longest)
settings-short version hosts term longest are = (
  let low = version-low version are.known in let long = ten-digits version (omega arith) in omega arith,
  (
    let few = are.few_hosts in let long = ten-digits hosts (omega arith) in omega arith,
    (
      let low = term-low version term are.short_term in let long = ten-digits term (omega arith) in omega arith,
      longest-short version longest are.fit_longest.1,
    ),
  ),
)

-- each line of a schedule has at most 128 bytes
pub whole-short : (head : Head) (lines : List Line) (whole : List (List ℕ)) → SpellsWhole head lines whole → AllByRecursion (λ t. length t ≤ 128) whole
whole-short head lines whole s =
    subst (AllByRecursion (λ t. length t ≤ 128)) (sym s.1.2)
    (each-append (λ t. length t ≤ 128) (head_lines head) (s.1.0 ++ codes "end" ∷ [])
    (each-append (λ t. length t ≤ 128) (settings_lines head.version head.hosts head.term head.longest) (file_lines head.files)
    (settings-short head.version head.hosts head.term head.longest s.0.settings)
    (each-append (λ t. length t ≤ 128) (map file_line head.files) (codes "begin" ∷ []) (files-short head.files s.0.files.each) (omega arith, tt)))
    (each-append (λ t. length t ≤ 128) s.1.0 (codes "end" ∷ []) (lines-short head lines s.1.0 s.1.1) (omega arith, tt)))
