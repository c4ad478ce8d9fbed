-- A disk is written over with zeros, chunk after chunk, and then with the first bytes of the image.
use Rattle.std.proofs.Common.{◌≡◌, ◌≤◌, ◌<◌, ◌+◌, ◌*◌, ◌&&◌, ◌++◌, ℕ, Bool, true, false, List, [], Option, Some, None, Result, Ok, Err, length}
use Rattle.std.proofs.Common.{get_or, drop, if◌then◌else◌, refl, sym, ap, subst, ◌∙◌, arith, length-append}
use Rattle.std.specs.Prelude.{nat_le, OnOk}
use Rattle.std.proofs.lemmas.Bool.Decides.{nat_tests}
use Rattle.std.proofs.lemmas.List.{append_assoc, drop-drop, drop_at, get_or-append_right, get_or_append_left, get_or-replicate}
use Rattle.nq_disk.specs.Bytes.{written}
use Rattle.nq_disk.specs.Calling.{IsAllThatIsLeft, told_after}
use Rattle.nq_disk.specs.declared.DiskFault.{DiskFault}
use Rattle.nq_image.specs.Kept.{opened}
use Rattle.nq_image.specs.Nothing.{first_of_nothing}
use Rattle.nq_image.specs.Writing.{zeros_of}
use Rattle.nq_image.specs.Whole.{has_image_name}
use Rattle.nq_disk.specs.Record.{blanked}
use Rattle.nq_disk.specs.Saying.{Each}
use Rattle.nq_disk.specs.Whole.{found}
use Rattle.nq_plan.proofs.Blank.{blanked-zeros, found-as-is, written-on}
use Rattle.nq_image.proofs.Emptying.{nothing-opens, zeros-join}
use Rattle.nq_image.proofs.ReadBack.{length-zeros}
use Rattle.nq_plan.proofs.FormatReading.{in-three, named-so}
use Rattle.nq_plan.specs.Formatted.{StandsForNothing, TellsNothing}
use Rattle.nq_plan.specs.Standing.{begins_as_image, image_area, settled_as, stands_as}

-- no chunk yet
pub zeros-none : (old : List ℕ) → old ≡ zeros_of (4096 * 0) ++ drop (4096 * 0) old
unfolding zeros_of
zeros-none old = refl

-- one chunk more
pub zeros-on : (chunk : ℕ) (zeros old : List ℕ) → length zeros ≡ 4096 → zeros ≡ zeros_of 4096 → written (4096 * chunk) zeros (zeros_of (4096 * chunk)
    ++ drop (4096 * chunk) old) ≡ zeros_of (4096 * (chunk + 1)) ++ drop (4096 * (chunk + 1)) old
zeros-on chunk zeros old long are =
    let done = 4096 * chunk in
    let behind = drop done old in
    let sum : done + 4096 ≡ 4096 * (chunk + 1) = omega arith in
    written-on done (zeros_of done) zeros behind (length-zeros done) (omega (arith, long))
    ∙ ap (λ (n : ℕ). zeros_of done ++ (zeros ++ drop n behind)) long
    ∙ ap (λ (z : List ℕ). zeros_of done ++ (z ++ drop 4096 behind)) are
    ∙ sym (append_assoc (zeros_of done) (zeros_of 4096) (drop 4096 behind))
    ∙ ap (λ (z : List ℕ). z ++ drop 4096 behind) (zeros-join done 4096)
    ∙ ap (λ (d : List ℕ). zeros_of (done + 4096) ++ d) (drop-drop 4096 done old)
    ∙ ap (λ (n : ℕ). zeros_of n ++ drop n old) sum

-- the first bytes over zeros
pub first-on : (behind : List ℕ) → written 0 first_of_nothing (zeros_of 1093632 ++ behind) ≡ first_of_nothing ++ (zeros_of 1093608 ++ behind)
first-on behind =
    written-on 0 [] first_of_nothing (zeros_of 1093632 ++ behind) refl (omega arith)
    ∙ ap (λ (d : List ℕ). first_of_nothing ++ d) (dropped behind)
  where
    dropped : (behind : List ℕ) → drop 24 (zeros_of 1093632 ++ behind) ≡ zeros_of 1093608 ++ behind
    dropped behind =
        ap (λ (z : List ℕ). drop 24 (z ++ behind)) (sym (zeros-join 24 1093608))
        ∙ ap (λ (d : List ℕ). drop 24 d) (append_assoc (zeros_of 24) (zeros_of 1093608) behind)
        ∙ drop_at (zeros_of 24) (zeros_of 1093608 ++ behind) 24 (length-zeros 24)

at-zeros : (n k : ℕ) → k < n → get_or (zeros_of n) k 0 ≡ 0
unfolding zeros_of
at-zeros n k lt = get_or-replicate n k 0 0 lt

-- ---- such bytes stand for nothing

when-true : {X : Type 0} (b : Bool) (x y : X) → b ≡ true → (if b then x else y) ≡ x
when-true true x y e = refl
when-true false x y e = cc

both-true : (a b : Bool) → a ≡ true → b ≡ true → (a && b) ≡ true
both-true true b e f = f
both-true false b e f = cc

is-le : (m n : ℕ) → m ≤ n → nat_le m n ≡ true
is-le m n h = grind (arith, nat_tests)

-- bytes that begin as an image does, and whose record is closed and blank, stand for what they are read as
stands-as-read : (bytes : List ℕ) → 40960 ≤ length bytes → has_image_name bytes ≡ true → found image_area bytes ≡ Ok bytes → stands_as bytes ≡ opened bytes
unfolding stands_as
stands-as-read bytes long name is =
    when-true (begins_as_image bytes) (settled_as (found image_area bytes)) None (both-true (nat_le 40960 (length bytes)) (has_image_name bytes)
    (is-le 40960 (length bytes) long) name)
    ∙ ap settled_as is

pub for-nothing : (behind : List ℕ) → StandsForNothing (first_of_nothing ++ (zeros_of 1093608 ++ behind))
for-nothing behind =
    let bytes = first_of_nothing ++ (zeros_of 1093608 ++ behind) in
    let front = first_of_nothing ++ zeros_of 28648 in
    let rest = zeros_of 1052672 ++ behind in
    let apart : bytes ≡ front ++ (zeros_of 12288 ++ rest) = in-three 28648 12288 1052672 first_of_nothing behind in
    let long-front : length front ≡ 28672 = length-append first_of_nothing (zeros_of 28648) ∙ ap (λ (n : ℕ). 24 + n) (length-zeros 28648) in
    let long : 40960 ≤ length bytes = omega (
      arith,
      length-append first_of_nothing (zeros_of 1093608 ++ behind),
      length-append (zeros_of 1093608)
          behind,
      length-zeros 1093608,
    ) in
    let shut : get_or bytes 28672 0 ≡ 0 =
    get_or-append_right first_of_nothing (zeros_of 1093608 ++ behind) 24 28672 0 refl (omega arith)
    ∙ get_or_append_left (zeros_of 1093608) behind 0 28648 (omega (arith, length-zeros 1093608))
    ∙ at-zeros 1093608 28648 (omega arith) in
    let blank : blanked 28672 12288 bytes ≡ bytes =
    ap (blanked 28672 12288) apart ∙ blanked-zeros 28672 12288 front rest long-front (omega arith) ∙ sym apart in
    stands-as-read bytes long (named-so (zeros_of 1093608 ++ behind)) (found-as-is image_area bytes shut blank)
    ∙ nothing-opens behind

-- ---- what the calls leave

pub on-ok : (result : Result Unit DiskFault) (P : Type 0) → (result ≡ Ok tt → P) → OnOk result P
on-ok (Ok tt) P f = f refl
on-ok (Err fault) P f = tt

pub then-ok : (result : Result Unit DiskFault) (P : Type 0) → result ≡ Ok tt → OnOk result P → P
then-ok result P is known = subst (λ (r : Result Unit DiskFault). OnOk r P) is known

-- zeros are written, then the first bytes, and then a sync leaves nothing else
pub formatted : (zeros first last : Option (List ℕ)) (may_leave : List ℕ → Type 0) (rest : List ℕ) → zeros ≡ Some (zeros_of 1093632 ++ rest)
    → first ≡ told_after 0 first_of_nothing zeros → last ≡ first → IsAllThatIsLeft first may_leave → TellsNothing last × Each may_leave StandsForNothing
formatted zeros first last may_leave rest z f l all =
    let bytes = first_of_nothing ++ (zeros_of 1093608 ++ rest) in
    let is : first ≡ Some bytes = f ∙ ap (told_after 0 first_of_nothing) z ∙ ap (λ (b : List ℕ). Some b) (first-on rest) in
    let P : List ℕ → Type 0 = λ b. StandsForNothing b in
    ((bytes, l ∙ is, for-nothing rest), λ image left. subst P (sym (all bytes is image left)) (for-nothing rest))
