-- A record that is closed and blank: an open finds the disk as it is.
use Rattle.std.proofs.Common.{◌≡◌, ◌≤◌, ◌+◌, ◌-◌, ◌==◌, ◌++◌, ℕ, Bool, true, false, List, [], ◌∷◌, Ok, length, get_or, take, drop, if◌then◌else◌}
use Rattle.std.proofs.Common.{refl, sym, ap, ◌∙◌, arith, length-append}
use Rattle.std.specs.Prelude.{replicate}
use Rattle.std.proofs.Math.Seq.{drop-append-add}
use Rattle.std.proofs.lemmas.List.{append-nil, drop_at, take_at, length-replicate}
use Rattle.nq_disk.specs.Bytes.{written}
use Rattle.nq_image.specs.Writing.{zeros_of}
use Rattle.nq_disk.specs.Record.{blanked, opened, record_at, replayed, wrong_field}
use Rattle.nq_disk.specs.Whole.{found}
use Rattle.nq_disk.specs.declared.redo.area.Area.{Area}

-- bytes that are written where others end
pub written-on : (place : ℕ) (front bytes behind : List ℕ) → length front ≡ place → 1 ≤ length bytes → written place bytes (front ++ behind) ≡ front
    ++ (bytes ++ drop (length bytes) behind)
unfolding written
written-on place front [] behind at some = absurd (omega arith)
written-on place front (byte ∷ bytes) behind at some =
    let disk = front ++ behind in
    let own = byte ∷ bytes in
    let none : place - length disk ≡ 0 = omega (arith, at, length-append front behind) in
    ap (λ (n : ℕ). take place (disk ++ replicate n 0) ++ (own ++ drop (place + length own) disk)) none
    ∙ ap (λ (d : List ℕ). take place d ++ (own ++ drop (place + length own) disk)) (append-nil disk)
    ∙ ap (λ (d : List ℕ). d ++ (own ++ drop (place + length own) disk)) (take_at front behind place at)
    ∙ ap (λ (n : ℕ). front ++ (own ++ drop (n + length own) disk)) (sym at)
    ∙ ap (λ (d : List ℕ). front ++ (own ++ d)) (drop-append-add front behind (length own))

when-false : {X : Type 0} (b : Bool) (x y : X) → b ≡ false → (if b then x else y) ≡ y
when-false true x y e = cc
when-false false x y e = refl

is-no-one : (n : ℕ) → n ≡ 0 → (n == 1) ≡ false
is-no-one n e = ap (λ (i : ℕ). i == 1) e

-- zeros where the record stands are as they are once the record is blanked
pub blanked-zeros : (place size : ℕ) (front behind : List ℕ) → length front ≡ place → 1 ≤ size
    → blanked place size (front ++ (zeros_of size ++ behind)) ≡ front ++ (zeros_of size ++ behind)
unfolding blanked zeros_of
blanked-zeros place size front behind at some =
    let own = replicate size 0 in
    let long : length own ≡ size = length-replicate size 0 in
    written-on place front own (own ++ behind) at (omega (arith, long))
    ∙ ap (λ (n : ℕ). front ++ (own ++ drop n (own ++ behind))) long
    ∙ ap (λ (d : List ℕ). front ++ (own ++ d)) (drop_at own behind size long)

-- an open of bytes whose gate is closed and whose record is blank finds them as they are
pub found-as-is : (area : Area) (bytes : List ℕ) → get_or bytes area.place 0 ≡ 0 → blanked area.place area.size bytes ≡ bytes → found area bytes ≡ Ok bytes
unfolding opened
found-as-is area bytes shut blank =
    when-false (get_or bytes area.place 0 == 1) (replayed area.place area.size bytes (wrong_field area.place area.size area.bound (length bytes)
    (record_at area.place area.size bytes))) (Ok (blanked area.place area.size bytes)) (is-no-one (get_or bytes area.place 0) shut)
    ∙ ap (λ (b : List ℕ). Ok b) blank
