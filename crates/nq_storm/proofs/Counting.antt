-- The room in entries does not count.
use Rattle.std.proofs.Common.{◌≡◌, ℕ, ◌<◌, List, [], ◌∷◌, length, take, get_or, map, refl, sym, ap, ◌∙◌, cond, ◌+◌}
use Rattle.std.proofs.lemmas.List.Sums.{sum_by-cons, sum_by_more}
use Rattle.std.specs.List.{count_by, sum_by}
use Rattle.nq_base.specs.Plain.{plain}
use Rattle.nq_base.specs.declared.Entry.{Entry}
use Rattle.nq_storm.specs.Counts.{is_loss}

same_loss : (entry : Entry) → is_loss (plain entry) ≡ is_loss entry
unfolding is_loss
same_loss (Entry.A who q said) = refl
same_loss (Entry.C who q told) = refl
same_loss (Entry.W who file block number value through) = refl
same_loss (Entry.R who q file block value served) = refl
same_loss (Entry.S who file block first last now) = refl
same_loss (Entry.L who file block first last) = refl
same_loss (Entry.G who file mode tag term now) = refl
same_loss (Entry.F who file until heard now) = refl
same_loss (Entry.O boot until heard now) = refl
same_loss (Entry.B who) = refl
same_loss (Entry.X boot now longest) = refl
same_loss (Entry.Z who q file from to) = refl

pub same_losses : (entries : List Entry) → count_by is_loss (map plain entries) ≡ count_by is_loss entries
same_losses [] = refl
same_losses (entry ∷ entries) =
    let f : Entry → ℕ = λ e. cond (is_loss e) 1 0 in
    sum_by-cons f (plain entry) (map plain entries)
    ∙ ap (λ b. cond b 1 0 + sum_by f (map plain entries)) (same_loss entry)
    ∙ ap (λ n. f entry + n) (same_losses entries)
    ∙ sym (sum_by-cons f entry entries)

-- one entry more is counted
pub one_more : (entries : List Entry) (place lost more : ℕ) (entry : Entry) → place < length entries → lost ≡ count_by is_loss (take place entries)
    → more ≡ cond (is_loss entry) 1 0 → entry ≡ get_or entries place entry
    → lost + more ≡ count_by is_loss (take (place + 1) entries)
one_more entries place lost more entry there so-far here is =
    let f : Entry → ℕ = λ e. cond (is_loss e) 1 0 in
    ap (λ n. n + more) so-far ∙ ap (λ n. count_by is_loss (take place entries) + n) (here ∙ ap f is) ∙ sym (sum_by_more f entries place entry there)
