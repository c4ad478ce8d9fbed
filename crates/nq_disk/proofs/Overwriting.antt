-- A write over the bytes of a disk, and past their end.
use Rattle.std.proofs.Common.{◌≡◌, ℕ, ◌+◌, ◌<◌, ◌≤◌, List, [], ◌∷◌, ◌++◌, length, take, drop, refl, sym, ap, ◌∙◌, arith, length-drop}
use Rattle.std.proofs.lemmas.List.{append-nil, drop_all, ext_get_or, get_or-drop, get_or-take, length-take-le, take_all, drop-drop}
use Rattle.nq_disk.specs.Bytes.{padded, written}
use Rattle.nq_disk.specs.BytesLaws.{at-padded, length-padded}

-- what stands below the range
front-same : (place end : ℕ) (disk : List ℕ) → place ≤ end → take place (padded end disk) ≡ take place (padded place disk)
front-same place end disk le =
    let a : length (take place (padded end disk)) ≡ place = length-take-le place (padded end disk) (omega (arith, length-padded end [] disk)) in
    let b : length (take place (padded place disk)) ≡ place = length-take-le place (padded place disk) (omega (arith, length-padded place [] disk)) in
    ext_get_or 0 (take place (padded end disk)) (take place (padded place disk)) (a ∙ sym b)
    (λ i lt. let here : i < place = omega arith in get_or-take place (padded end disk) i 0 here ∙ at-padded end [] disk i
    ∙ sym (at-padded place [] disk i) ∙ sym (get_or-take place (padded place disk) i 0 here))

-- and what stands above it
back-same : (end : ℕ) (disk : List ℕ) → drop end (padded end disk) ≡ drop end disk
back-same end disk =
    ext_get_or 0 (drop end (padded end disk)) (drop end disk)
    (omega (arith, length-drop end (padded end disk), length-drop end disk, length-padded end [] disk))
    (λ i lt. get_or-drop end (padded end disk) i 0 ∙ at-padded end [] disk (end + i) ∙ sym (get_or-drop end disk i 0))

-- the bytes written into the padded disk
pub over-written : (place : ℕ) (bytes disk : List ℕ) → 0 < length bytes → take place (padded (place + length bytes) disk)
    ++ (bytes ++ drop (place + length bytes) (padded (place + length bytes) disk)) ≡ written place bytes disk
unfolding written
over-written place [] disk some = absurd (omega arith)
over-written place (byte ∷ bytes) disk some =
    ap (λ (f : List ℕ). f ++ ((byte ∷ bytes) ++ drop (place + length (byte ∷ bytes)) (padded (place + length (byte ∷ bytes)) disk)))
    (front-same place (place + length (byte ∷ bytes)) disk (omega arith))
    ∙ ap (λ (b : List ℕ). take place (padded place disk) ++ ((byte ∷ bytes) ++ b)) (back-same (place + length (byte ∷ bytes)) disk)

pub written-none : (place : ℕ) (bytes disk : List ℕ) → length bytes ≡ 0 → disk ≡ written place bytes disk
unfolding written
written-none place [] disk none = refl
written-none place (byte ∷ bytes) disk none = absurd (omega arith)

-- a list written back whole in the place of one of its length
pub written-back : (n : ℕ) (new old : List ℕ) → length new ≡ length old → length old ≤ n → take n (new ++ drop (length new) old) ≡ new
written-back n new old same le =
    ap (λ (d : List ℕ). take n (new ++ d)) (drop_all (length new) old (omega arith)) ∙ ap (λ (l : List ℕ). take n l) (append-nil new)
    ∙ take_all n new (omega arith)

-- what stands further behind
pub drop-further : (m n : ℕ) (xs ys : List ℕ) → drop m xs ≡ drop m ys → drop (m + n) xs ≡ drop (m + n) ys
drop-further m n xs ys same = sym (drop-drop n m xs) ∙ ap (λ (l : List ℕ). drop n l) same ∙ drop-drop n m ys
