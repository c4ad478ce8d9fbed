-- Lines are read as they are spelled.
use Rattle.std.proofs.Common.{◌≡◌, ℕ, ◌<◌, ◌≤◌, ◌^◌, ◌==◌, ◌&&◌, List, [], ◌∷◌, ◌++◌, Option, Some, None, Bool, true, false, length, refl, ap, sym}
use Rattle.std.proofs.Common.{subst, ◌∙◌, arith, lit<, codes, ◌⊎◌, inl, inr, nat_lt, nat_le, eq-eqb, if◌then◌else◌}
use Rattle.std.specs.Fmt.{decimal}
use Rattle.std.specs.Str.{bytes_eq}
use Rattle.std.proofs.lemmas.Bool.{ltb-true, lt-ltb, leb-true, le-leb, eqb-true, and_parts}
use Rattle.std.proofs.lemmas.Option.{none-some, same_Some, cond_some}
use Rattle.std.proofs.lemmas.Slice.Eq.{bytes_eq-Decides}
use Rattle.nq_base.specs.Steps.{◌>>=◌}
use Rattle.nq_base.proofs.Options.{bind_some}
use Rattle.nq_base.specs.declared.Event.{Event}
use Rattle.nq_script.specs.Calls.{call_words}
use Rattle.nq_script.specs.Lines.{IsRepeat, SpellsLine, line_of, longest_words}
use Rattle.nq_script.specs.Reading.{after, number_then, told_of, times_of, call_line, deliver_line, server_ticks, client_ticks, tick_line, round_line}
use Rattle.nq_script.specs.Reading.{restart_line, crash_line, word_line, clock_line, told_line}
use Rattle.nq_script.specs.WordsReading.{number_of, u32_of}
use Rattle.nq_script.specs.declared.heads.Head.{Head}
use Rattle.nq_script.specs.declared.lines.Line.{Line}
use Rattle.nq_script.specs.declared.lines.ToldLine.{ToldLine}
use Rattle.nq_script.specs.Text.{Lacks, spaced}
use Rattle.nq_script.proofs.CallReading.{behind, number32-found, number32-again, then-found, then-again, told-found, told-again}
use Rattle.nq_script.proofs.CallWords.{spaced-call}
use Rattle.nq_script.proofs.HeadReading.{ranged-found, ranged-again}
use Rattle.nq_script.proofs.Cuts.{after-none}
use Rattle.nq_script.proofs.Numbers.{number-found, number-again, decimal-lacks}
use Rattle.nq_script.proofs.Splitting.{first-same}
use Rattle.std.proofs.lemmas.Fmt.{decimal_nonempty}

times-found : (text : List ℕ) (times : ℕ) → times_of text ≡ Some times → (text ≡ decimal times) × IsRepeat times
unfolding times_of
times-found text times e = let found = ranged-found [] 1 1000 text times (lit< tt) e in (found.0, (found.1, found.2))

times-again : (times : ℕ) → IsRepeat times → times_of (decimal times) ≡ Some times
unfolding times_of
times-again times is = ranged-again [] 1 1000 times (lit< tt) is.0 is.1

call-found : (head : Head) (told : ToldLine) (text : List ℕ) → call_line head text ≡ Some told → SpellsLine head (line_of told) (codes "call " ++ text)
unfolding call_line
call-found head told text e =
    let host = bind_some (number_then text) (λ h. told_of head.version h.1 >>= λ t. if nat_lt h.0 head.hosts then Some (ToldLine.Call h.0 t)
    else None) told e in
    let call = bind_some (told_of head.version host.0.1) (λ t. if nat_lt host.0.0 head.hosts then Some (ToldLine.Call host.0.0 t) else None) told host.2 in
    let within = cond_some (nat_lt host.0.0 head.hosts) (ToldLine.Call host.0.0 call.0) told call.2 in
    let number = then-found text host.0.0 host.0.1 host.1 in
    let words = told-found head.version host.0.1 call.0 call.1 in
    subst (λ t. SpellsLine head (line_of t) (codes "call " ++ text)) within.1 (
      ltb-true host.0.0 head.hosts within.0,
      (
        words.0,
        (number.1, words.1),
        refl,
        ap (λ r. codes "call " ++ r) (number.0 ∙ ap (λ w. decimal host.0.0 ++ 32 ∷ w) words.2 ∙ sym (spaced-call (decimal host.0.0) _)),
      ),
    )

deliver-found : (head : Head) (told : ToldLine) (text : List ℕ) → deliver_line text ≡ Some told → SpellsLine head (line_of told) (codes "deliver " ++ text)
unfolding deliver_line
deliver-found head told text e =
    let packet = bind_some (number_of 18446744073709551615 text) (λ k. Some (ToldLine.Deliver k)) told e in
    let number = number-found 18446744073709551615 text packet.0 (lit< tt) packet.1 in
    let low : packet.0 ≤ 18446744073709551615 = number.1 in
    subst (λ t. SpellsLine head (line_of t) (codes "deliver " ++ text)) (same_Some (ToldLine.Deliver packet.0) told packet.2)
    (tt, (tt, omega arith, refl, ap (λ r. codes "deliver " ++ r) number.0))

server-found : (head : Head) (told : ToldLine) (text : List ℕ) → server_ticks text ≡ Some told → SpellsLine head (line_of told) (codes "tick s " ++ text)
unfolding server_ticks
server-found head told text e =
    let times = bind_some (times_of text) (λ n. Some (ToldLine.ServerTicks n)) told e in
    let number = times-found text times.0 times.1 in
    subst (λ t. SpellsLine head (line_of t) (codes "tick s " ++ text)) (same_Some (ToldLine.ServerTicks times.0) told times.2)
    (tt, (tt, tt, number.1, ap (λ r. codes "tick s " ++ r) number.0))

client-found : (head : Head) (told : ToldLine) (text : List ℕ) → client_ticks head.hosts text ≡ Some told → SpellsLine head (line_of told)
    (codes "tick " ++ text)
unfolding client_ticks
client-found head told text e =
    let host = bind_some (number_then text) (λ h. times_of h.1 >>= λ n. if nat_lt h.0 head.hosts then Some (ToldLine.ClientTicks h.0 n) else None) told e in
    let times = bind_some (times_of host.0.1) (λ n. if nat_lt host.0.0 head.hosts then Some (ToldLine.ClientTicks host.0.0 n) else None) told host.2 in
    let within = cond_some (nat_lt host.0.0 head.hosts) (ToldLine.ClientTicks host.0.0 times.0) told times.2 in
    let number = then-found text host.0.0 host.0.1 host.1 in
    let count = times-found host.0.1 times.0 times.1 in
    subst (λ t. SpellsLine head (line_of t) (codes "tick " ++ text)) within.1 (
      ltb-true host.0.0 head.hosts within.0,
      (tt, number.1, count.1, ap (λ r. codes "tick " ++ r) (number.0 ∙ ap (λ w. decimal host.0.0 ++ 32 ∷ w) count.0)),
    )

tick-found : (head : Head) (told : ToldLine) (text : List ℕ) → tick_line head.hosts text ≡ Some told → SpellsLine head (line_of told) (codes "tick " ++ text)
unfolding tick_line
tick-found head told text e =
    behind (codes "s ") text server_ticks (client_ticks head.hosts text) told (λ t. SpellsLine head (line_of told) (codes "tick " ++ t)) e
    (server-found head told) (client-found head told text)

round-found : (head : Head) (told : ToldLine) (text : List ℕ) → round_line text ≡ Some told → SpellsLine head (line_of told) (codes "round " ++ text)
unfolding round_line
round-found head told text e =
    let times = bind_some (times_of text) (λ n. Some (ToldLine.Round n)) told e in
    let number = times-found text times.0 times.1 in
    subst (λ t. SpellsLine head (line_of t) (codes "round " ++ text)) (same_Some (ToldLine.Round times.0) told times.2)
    (tt, (number.1, ap (λ r. codes "round " ++ r) number.0))

restart-found : (head : Head) (told : ToldLine) (text : List ℕ) → restart_line head.hosts text ≡ Some told → SpellsLine head (line_of told)
    (codes "restart " ++ text)
unfolding restart_line
restart-found head told text e =
    let host = bind_some (u32_of text) (λ h. if nat_lt h head.hosts then Some (ToldLine.Restart h) else None) told e in
    let within = cond_some (nat_lt host.0 head.hosts) (ToldLine.Restart host.0) told host.2 in
    let number = number32-found text host.0 host.1 in
    subst (λ t. SpellsLine head (line_of t) (codes "restart " ++ text)) within.1
    (ltb-true host.0 head.hosts within.0, (tt, number.1, refl, ap (λ r. codes "restart " ++ r) number.0))

-- what version 2 writes of a crash
second-crash : (head : Head) (longest : ℕ) (text : List ℕ) → head.version ≡ 2 → 5 ≤ longest → longest ≤ head.longest → longest < 2 ^ 32
    → text ≡ codes "crash " ++ decimal longest → SpellsLine head (Line.Events (Event.Crash longest) 1) text
second-crash head longest text second low high small spelled =
    (high, (inr (second, low), small, refl, rw (eq-eqb head.version 2 second) spelled))

crash-found : (head : Head) (told : ToldLine) (text : List ℕ) → crash_line head text ≡ Some told → SpellsLine head (line_of told) (codes "crash " ++ text)
unfolding crash_line
crash-found head told text e =
    let longest = bind_some (u32_of text)
    (λ l. if head.version == 2 && (nat_le 5 l && nat_le l head.longest) then Some (ToldLine.Crash l) else None) told e in
    let within = cond_some (head.version == 2 && (nat_le 5 longest.0 && nat_le longest.0 head.longest)) (ToldLine.Crash longest.0) told longest.2 in
    let parts = and_parts (head.version == 2) (nat_le 5 longest.0 && nat_le longest.0 head.longest) within.0 in
    let bounds = and_parts (nat_le 5 longest.0) (nat_le longest.0 head.longest) parts.1 in
    let number = number32-found text longest.0 longest.1 in
    subst (λ t. SpellsLine head (line_of t) (codes "crash " ++ text)) within.1
    (second-crash head longest.0 (codes "crash " ++ text) (eqb-true head.version 2 parts.0) (leb-true 5 longest.0 bounds.0)
    (leb-true longest.0 head.longest bounds.1) number.1 (ap (λ r. codes "crash " ++ r) number.0))

-- what version 1 writes of a crash
first-crash : (head : Head) (text : List ℕ) → head.version ≡ 1 → 60 ≤ head.longest → text ≡ codes "crash"
    → SpellsLine head (Line.Events (Event.Crash 60) 1) text
first-crash head text first high spelled =
    (high, (inl (first, refl), lit< tt, refl, rw first spelled))

word-found : (head : Head) (told : ToldLine) (text : List ℕ) → word_line head text ≡ Some told → SpellsLine head (line_of told) text
unfolding word_line
word-found head told text e = flow (choice (bytes_eq text (codes "flow")) ToldLine.Flow others told e) where
  is-crash : Bool
  is-crash = bytes_eq text (codes "crash") && (head.version == 1 && nat_le 60 head.longest)

  last : Option ToldLine
  last = if is-crash then Some (ToldLine.Crash 60) else None

  others : Option ToldLine
  others = if bytes_eq text (codes "end") then Some ToldLine.End else last

  -- a test that holds, and what is read then, or what is read else
  choice : (test : Bool) (x : ToldLine) (other : Option ToldLine) (y : ToldLine) → (if test then Some x else other) ≡ Some y
      → ((test ≡ true) × (x ≡ y)) ⊎ (other ≡ Some y)
  choice true x other y e = inl (refl, same_Some x y e)
  choice false x other y e = inr e

  crash : last ≡ Some told → SpellsLine head (line_of told) text
  crash e =
      let w = cond_some is-crash (ToldLine.Crash 60) told e in
      let parts = and_parts (bytes_eq text (codes "crash")) (head.version == 1 && nat_le 60 head.longest) w.0 in
      let more = and_parts (head.version == 1) (nat_le 60 head.longest) parts.1 in
      subst (λ t. SpellsLine head (line_of t) text) w.1
      (first-crash head text (eqb-true head.version 1 more.0) (leb-true 60 head.longest more.1) ((bytes_eq-Decides text (codes "crash")).0 parts.0))

  end : ((bytes_eq text (codes "end") ≡ true) × (ToldLine.End ≡ told)) ⊎ (last ≡ Some told) → SpellsLine head (line_of told) text
  end (inl w) = subst (λ t. SpellsLine head (line_of t) text) w.1 (tt, (bytes_eq-Decides text (codes "end")).0 w.0)
  end (inr e) = crash e

  flow : ((bytes_eq text (codes "flow") ≡ true) × (ToldLine.Flow ≡ told)) ⊎ (others ≡ Some told) → SpellsLine head (line_of told) text
  flow (inl w) = subst (λ t. SpellsLine head (line_of t) text) w.1 (tt, (bytes_eq-Decides text (codes "flow")).0 w.0)
  flow (inr e) = end (choice (bytes_eq text (codes "end")) ToldLine.End last told e)

clock-found : (head : Head) (told : ToldLine) (text : List ℕ) → clock_line head text ≡ Some told → SpellsLine head (line_of told) text
unfolding clock_line
clock-found head told text e =
    behind (codes "tick ") text (tick_line head.hosts) _ told (SpellsLine head (line_of told)) e (tick-found head told) (λ e.
    behind (codes "round ") text round_line _ told (SpellsLine head (line_of told)) e (round-found head told) (λ e.
    behind (codes "restart ") text (restart_line head.hosts) _ told (SpellsLine head (line_of told)) e (restart-found head told) (λ e.
    behind (codes "crash ") text (crash_line head) (word_line head text) told (SpellsLine head (line_of told)) e (crash-found head told)
    (word-found head told text))))

-- what is read as a line is spelled so
pub line-found : (head : Head) (text : List ℕ) (told : ToldLine) → told_line head text ≡ Some told → SpellsLine head (line_of told) text
unfolding told_line
line-found head text told e =
    behind (codes "call ") text (call_line head) _ told (SpellsLine head (line_of told)) e (call-found head told) (λ e.
    behind (codes "deliver ") text deliver_line (clock_line head text) told (SpellsLine head (line_of told)) e (deliver-found head told)
    (clock-found head told text))

-- a number in decimal does not begin with the letter of the server
no-server : (n : ℕ) (rest : List ℕ) → n < 2 ^ 64 → after (codes "s ") (decimal n ++ rest) ≡ None
no-server n rest low = after-none (codes "s ") (decimal n ++ rest) (λ r same. other r (decimal n) (decimal_nonempty n low)
    (decimal-lacks 115 n refl low) same) where
      other : (r word : List ℕ) → 0 < length word → Lacks 115 word → word ++ rest ≡ codes "s " ++ r → ⊥
      other r [] some lacks same = absurd (omega arith)
      other r (b ∷ word) some lacks same = lacks.0 (first-same same)

-- the line of an event is read
again-tick : (head : Head) (host times : ℕ) → host < head.hosts → host < 2 ^ 32 → IsRepeat times
    → told_line head (spaced (codes "tick" ∷ decimal host ∷ decimal times ∷ [])) ≡ Some (ToldLine.ClientTicks host times)
unfolding told_line clock_line tick_line client_ticks
again-tick head host times within low repeat =
    rw (no-server host (32 ∷ decimal times) (omega arith), then-again host (decimal times) low, times-again times repeat, lt-ltb host head.hosts within) refl

again-crash : (head : Head) (longest : ℕ) (text : List ℕ) → longest ≤ head.longest → longest < 2 ^ 32
    → ((head.version ≡ 1) × (longest ≡ 60)) ⊎ ((head.version ≡ 2) × (5 ≤ longest))
    → text ≡ spaced (codes "crash" ∷ longest_words head.version longest) → told_line head text ≡ Some (ToldLine.Crash longest)
unfolding told_line clock_line crash_line word_line
again-crash head longest text within low (inl first) spelled =
    let high : 60 ≤ head.longest = subst (λ l. l ≤ head.longest) first.1 within in
    let plain : text ≡ codes "crash" = rw first.0 at spelled in
    rw (plain, first.0, first.1, le-leb 60 head.longest high) refl
again-crash head longest text within low (inr second) spelled =
    let plain : text ≡ codes "crash " ++ decimal longest = rw (eq-eqb head.version 2 second.0) at spelled in
    rw (plain, number32-again longest low, eq-eqb head.version 2 second.0, le-leb 5 longest second.1, le-leb longest head.longest within) refl

-- what is spelled is read, as that line
pub line-again : (head : Head) (line : Line) (text : List ℕ) → SpellsLine head line text
    → (told : ToldLine) × (told_line head text ≡ Some told) × (line_of told ≡ line)
unfolding told_line call_line deliver_line clock_line tick_line server_ticks round_line restart_line word_line
line-again head (Line.Events (Event.Call host call) times) text s =
    let told = told-again head.version call (spaced (call_words call)) (s.1.0, s.1.1.1, refl) in (
      ToldLine.Call host told.0,
      rw (s.1.3, spaced-call (decimal host) call, then-again host (spaced (call_words call)) s.1.1.0, told.1, lt-ltb host head.hosts s.0) refl,
      rw (told.2, s.1.2) refl,
    )
line-again head (Line.Events (Event.Deliver k) times) text s =
    let low : k < 2 ^ 64 = s.1.1 in
    (ToldLine.Deliver k, rw (s.1.3, number-again 18446744073709551615 k (lit< tt) (omega arith)) refl, rw s.1.2 refl)
line-again head (Line.Events Event.ServerTick times) text s = (ToldLine.ServerTicks times, rw (s.1.3, times-again times s.1.2) refl, refl)
line-again head (Line.Events (Event.ClientTick host) times) text s =
    (ToldLine.ClientTicks host times, rw s.1.3 (again-tick head host times s.0 s.1.1 s.1.2), refl)
line-again head (Line.Events (Event.Restart host) times) text s =
    (ToldLine.Restart host, rw (s.1.3, number32-again host s.1.1, lt-ltb host head.hosts s.0) refl, rw s.1.2 refl)
line-again head (Line.Events (Event.Crash longest) times) text s =
    (ToldLine.Crash longest, again-crash head longest text s.0 s.1.1 s.1.0 s.1.3, rw s.1.2 refl)
line-again head (Line.Round times) text s = (ToldLine.Round times, rw (s.1.1, times-again times s.1.0) refl, refl)
line-again head Line.Flow text s = (ToldLine.Flow, rw s.1 refl, refl)
line-again head Line.End text s = (ToldLine.End, rw s.1 refl, refl)

-- what is read is the one line that is spelled
pub line-same : (head : Head) (text : List ℕ) (told : ToldLine) (line : Line) → told_line head text ≡ Some told → SpellsLine head line text
    → line_of told ≡ line
line-same head text told line read s =
    let again = line-again head line text s in
    ap line_of (same_Some told again.0 (sym read ∙ again.1)) ∙ again.2

-- where nothing is read, no line is spelled
pub line-none : (head : Head) (text : List ℕ) (line : Line) → told_line head text ≡ None → SpellsLine head line text → ⊥
line-none head text line read s = let again = line-again head line text s in none-some again.0 (sym read ∙ again.1)
