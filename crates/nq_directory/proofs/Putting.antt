-- A name more, with its front.
use Rattle.std.proofs.Common.{◌≡◌, ℕ, ◌≤◌, List, [], ◌∷◌, suc, zero, length, arith, refl, sym, ap, ◌∙◌}
use Rattle.std.specs.List.{insert, prefix_len}
use Rattle.std.proofs.lemmas.List.{length-map}
use Rattle.std.proofs.lemmas.List.Sums.{prefix_len-le-length}
use Rattle.nq_directory.specs.Fronts.{AreFronted, front, fronts_of}
use Rattle.nq_directory.specs.Names.{AreInOrder, is_before, put_name}
use Rattle.nq_directory.specs.declared.names.FileName.{FileName}
use Rattle.nq_directory.proofs.Order.{put-at}

fronts-insert : (skip : ℕ) (xs : List FileName) (place : ℕ) (e : FileName) → insert (fronts_of skip xs) place (front skip e.name) ≡ fronts_of skip
    (insert xs place e)
fronts-insert skip [] zero e = refl
fronts-insert skip [] (suc place) e = refl
fronts-insert skip (x ∷ xs) zero e = refl
fronts-insert skip (x ∷ xs) (suc place) e = ap (λ l. front skip x.name ∷ l) (fronts-insert skip xs place e)

pub fronted : (skip : ℕ) (e : FileName) (fronts fronts' : List ℕ) (xs xs' : List FileName) (place q : ℕ) → AreFronted skip fronts xs
    → q ≡ front skip e.name → place ≡ prefix_len (is_before e.name) xs
    → fronts' ≡ insert fronts place q → xs' ≡ put_name e xs → AreInOrder xs' → AreFronted skip fronts' xs'
fronted skip e fronts fronts' xs xs' place q old is at new put order = record {
  order = order;
  spelled =
      new ∙ ap (λ l. insert l place q) old.spelled ∙ ap (insert (fronts_of skip xs) place) is
      ∙ fronts-insert skip xs place e
      ∙ ap (λ p. fronts_of skip (insert xs p e)) at
      ∙ ap (fronts_of skip) (sym (put-at e xs) ∙ sym put);
}

pub fits : (skip : ℕ) (e : FileName) (fronts : List ℕ) (xs : List FileName) (place : ℕ) → AreFronted skip fronts xs
    → place ≡ prefix_len (is_before e.name) xs → place ≤ length fronts
fits skip e fronts xs place old at =
    let within = prefix_len-le-length (is_before e.name) xs in
    let same : length fronts ≡ length xs = ap length old.spelled ∙ length-map xs (λ x. front skip x.name) in
    omega arith
