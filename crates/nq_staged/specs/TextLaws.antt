-- The line of an offer is longer than `flow`, and its host is there.
use Rattle.std.proofs.Common.{◌≡◌, ◌<◌, ◌≤◌, ℕ, Bool, true, false, List, length, Option, Some, None, refl, ap, subst, arith, length-append}
use Rattle.std.proofs.lemmas.Bool.Decides.{nat_tests}
use Rattle.std.proofs.lemmas.Option.{same_Some}
use Rattle.std.specs.Prelude.{◌-◌, codes, nat_lt, if◌then◌else◌}
use Rattle.nq_staged.specs.Line.{host_of, stage_line}
use Rattle.nq_script.proofs.Cuts.{after-found}
use Rattle.nq_script.proofs.Numbers.{number-found}
use Rattle.nq_script.specs.Reading.{after}
use Rattle.nq_staged.specs.Text.{IsOfHost, offer_by, offer_of}
use Rattle.nq_staged.specs.declared.offer.Offer.{Offer}
use Rattle.nq_script.specs.WordsReading.{number_of}

-- ---- the host of a line

number-low : (hosts : ℕ) (word : List ℕ) (host : ℕ) (test : Bool) → nat_lt 0 hosts ≡ test → hosts ≤ 64 → (if test then number_of (hosts - 1) word
    else None) ≡ Some host → host < hosts
number-low hosts word host false is few e = absurd (cc)
number-low hosts word host true is few e =
    let some : 0 < hosts = grind (arith, nat_tests) in
    let low = (number-found (hosts - 1) word host (omega arith) e).1 in omega arith

host-low : (hosts host : ℕ) (word : Option (List ℕ)) → hosts ≤ 64 → host_of hosts word ≡ Some host → host < hosts
host-low hosts host None few e = absurd (cc)
host-low hosts host (Some word) few e = number-low hosts word host (nat_lt 0 hosts) refl few e

line-long : (hosts host : ℕ) (line : List ℕ) (word : Option (List ℕ)) → after (codes "stage ") line ≡ word → host_of hosts word ≡ Some host → 4 ≤ length line
line-long hosts host line None behind e = absurd (cc)
line-long hosts host line (Some word) behind e =
    let whole = ap length (after-found (codes "stage ") line word behind) in
    let long = length-append (codes "stage ") word in omega arith

stage-low : (hosts host : ℕ) (line : List ℕ) → hosts ≤ 64 → stage_line hosts line ≡ Some host → host < hosts
unfolding stage_line
stage-low hosts host line few e = host-low hosts host (after (codes "stage ") line) few e

stage-long : (hosts host : ℕ) (line : List ℕ) → stage_line hosts line ≡ Some host → 4 ≤ length line
unfolding stage_line
stage-long hosts host line e = line-long hosts host line (after (codes "stage ") line) refl e

-- ---- the offer of a line

long-by : (hosts : ℕ) (line : List ℕ) (o : Option ℕ) (offer : Offer) → stage_line hosts line ≡ o → offer_by o ≡ Some offer → 4 ≤ length line
long-by hosts line None offer is says = absurd (cc)
long-by hosts line (Some host) offer is says = stage-long hosts host line is

pub is-long : (hosts : ℕ) (line : List ℕ) (offer : Offer) → offer_of hosts line ≡ Some offer → 4 ≤ length line
unfolding offer_of
is-long hosts line offer says = long-by hosts line (stage_line hosts line) offer refl says

of-host-by : (hosts : ℕ) (line : List ℕ) (o : Option ℕ) (offer : Offer) → hosts ≤ 64 → stage_line hosts line ≡ o → offer_by o ≡ Some offer
    → IsOfHost hosts offer
of-host-by hosts line None offer few is says = absurd (cc)
of-host-by hosts line (Some host) offer few is says =
    subst (IsOfHost hosts) (same_Some (record { host = host }) offer says) (stage-low hosts host line few is)

pub is-of-host : (hosts : ℕ) (line : List ℕ) (offer : Offer) → hosts ≤ 64 → offer_of hosts line ≡ Some offer → IsOfHost hosts offer
unfolding offer_of
is-of-host hosts line offer few says = of-host-by hosts line (stage_line hosts line) offer few refl says
