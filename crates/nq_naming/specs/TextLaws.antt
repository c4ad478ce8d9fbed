-- A line that lists or finds is longer than `flow`, and its host is there.
use Rattle.std.proofs.Common.{◌≡◌, ◌<◌, ◌≤◌, ℕ, Bool, true, false, List, [], length, Option, Some, None, refl, ap, subst, ◌∙◌, arith, length-append}
use Rattle.std.proofs.lemmas.Bool.Decides.{nat_tests}
use Rattle.std.proofs.lemmas.Option.{same_Some}
use Rattle.std.specs.Prelude.{◌-◌, codes, nat_lt, if◌then◌else◌}
use Rattle.std.specs.Str.{bytes_eq}
use Rattle.nq_base.proofs.Options.{bind_some}
use Rattle.nq_directory.specs.Prefix.{IsPrefix}
use Rattle.nq_naming.specs.Line.{find_line, host_of, list_line, of_host, prefix_of}
use Rattle.nq_naming.specs.Text.{IsOfHost, aside_by, aside_of}
use Rattle.nq_naming.specs.declared.script.aside.Aside.{Aside}
use Rattle.nq_script.proofs.Cuts.{after-found}
use Rattle.nq_script.proofs.Numbers.{number-found}
use Rattle.nq_script.specs.Reading.{after}
use Rattle.nq_script.proofs.Names.{name_found}
use Rattle.nq_script.specs.WordsReading.{cut, name_of, number_of}

number-low : (hosts : ℕ) (word : List ℕ) (host : ℕ) (test : Bool) → nat_lt 0 hosts ≡ test → hosts ≤ 64
    → (if test then number_of (hosts - 1) word else None) ≡ Some host → host < hosts
number-low hosts word host false is few e = absurd (cc)
number-low hosts word host true is few e =
    let some : 0 < hosts = grind (arith, nat_tests) in
    let low = (number-found (hosts - 1) word host (omega arith) e).1 in omega arith

-- the parts of a line that has a host and a word
record HasParts {A : Type 0} (front : List ℕ) (written : List ℕ → Option A) (hosts : ℕ) (line : List ℕ) (v : ℕ × A) : Type 0 where
  rest : List ℕ
  word : List ℕ
  behind : after front line ≡ Some rest
  below : hosts ≤ 64 → v.0 < hosts
  wrote : written word ≡ Some v.1

has-parts : {A : Type 0} (front : List ℕ) (written : List ℕ → Option A) (hosts : ℕ) (line : List ℕ) (v : ℕ × A) → of_host front written hosts line ≡ Some v
    → HasParts front written hosts line v
unfolding of_host
has-parts front written hosts line v e =
    let one = bind_some (after front line) _ v e in
    let two = bind_some (cut 32 one.0) _ v one.2 in
    let three = bind_some (host_of hosts two.0.0) _ v two.2 in
    let four = bind_some (written two.0.1) _ v three.2 in
    let same : (three.0, four.0) ≡ v = same_Some (three.0, four.0) v four.2 in
    record {
      rest = one.0;
      word = two.0.1;
      behind = one.1;
      below = λ few. let low = number-low hosts two.0.0 three.0 (nat_lt 0 hosts) refl few three.1 in subst (λ (p : ℕ × _). p.0 < hosts) same low;
      wrote = four.1 ∙ ap (λ (p : ℕ × _). Some p.1) same;
    }

front-longer : {A : Type 0} (front : List ℕ) (written : List ℕ → Option A) (hosts : ℕ) (line : List ℕ) (v : ℕ × A) → length front ≡ 5
    → of_host front written hosts line ≡ Some v
    → 4 ≤ length line
front-longer front written hosts line v five e =
    let parts = has-parts front written hosts line v e in
    let whole = ap length (after-found front line parts.rest parts.behind) in
    let long = length-append front parts.rest in omega arith

short-by : (word prefix : List ℕ) (test : Bool) → bytes_eq word (codes "/") ≡ test → (if test then Some [] else name_of word) ≡ Some prefix → IsPrefix prefix
short-by word prefix true is e = let same : [] ≡ prefix = same_Some [] prefix e in subst IsPrefix same (omega arith)
short-by word prefix false is e = (name_found word prefix e).1.1

-- ---- by what it lists, and what it finds

longer-by : (hosts : ℕ) (line : List ℕ) (o f : Option (ℕ × List ℕ)) (aside : Aside) → list_line hosts line ≡ o → find_line hosts line ≡ f
    → aside_by o f ≡ Some aside → 4 ≤ length line
longer-by hosts line None None aside lists finds says = absurd (cc)
longer-by hosts line None (Some v) aside lists finds says = front-longer (codes "find ") name_of hosts line v refl finds
longer-by hosts line (Some v) f aside lists finds says = front-longer (codes "list ") prefix_of hosts line v refl lists

pub is-long : (hosts : ℕ) (line : List ℕ) (aside : Aside) → aside_of hosts line ≡ Some aside → 4 ≤ length line
unfolding aside_of
is-long hosts line aside says = longer-by hosts line (list_line hosts line) (find_line hosts line) aside refl refl says

of-host-by : (hosts : ℕ) (line : List ℕ) (o f : Option (ℕ × List ℕ)) (aside : Aside) → hosts ≤ 64 → list_line hosts line ≡ o → find_line hosts line ≡ f
    → aside_by o f ≡ Some aside → IsOfHost hosts aside
of-host-by hosts line None None aside few lists finds says = absurd (cc)
of-host-by hosts line None (Some v) aside few lists finds says =
    subst (IsOfHost hosts) (same_Some (Aside.Find v.0 v.1) aside says) ((has-parts (codes "find ") name_of hosts line v finds).below few)
of-host-by hosts line (Some v) f aside few lists finds says =
    let parts = has-parts (codes "list ") prefix_of hosts line v lists in
    subst (IsOfHost hosts) (same_Some (Aside.List v.0 v.1) aside says) (
      parts.below few,
      short-by parts.word v.1 (bytes_eq parts.word (codes "/"))
          refl parts.wrote,
    )

pub is-of-host : (hosts : ℕ) (line : List ℕ) (aside : Aside) → hosts ≤ 64 → aside_of hosts line ≡ Some aside → IsOfHost hosts aside
unfolding aside_of
is-of-host hosts line aside few says = of-host-by hosts line (list_line hosts line) (find_line hosts line) aside few refl refl says
