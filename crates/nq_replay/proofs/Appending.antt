-- Bytes that are put one after another.
use Rattle.std.proofs.Common.{◌≡◌, ℕ, ◌+◌, ◌≤◌, List, ◌++◌, length, take, Option, Some, None, refl, sym, ap, ◌∙◌, arith, append_assoc, length-append}
use Rattle.std.proofs.Math.Seq.{take-append-le, take-append-add}
use Rattle.nq_io.specs.Sink.{AppendsFront}
use Rattle.nq_io.specs.Told.{with_end}

-- what is put behind what was put
pub both : (a b : List ℕ) (held : Option (List ℕ)) → with_end (with_end held a) b ≡ with_end held (a ++ b)
both a b None = refl
both a b (Some told) = ap Some (append_assoc told a b)

-- a front of the first bytes is one of all
pub front : (a b : List ℕ) (held now : Option (List ℕ)) → AppendsFront a held now → AppendsFront (a ++ b) held now
front a b held now f =
    let size : length (a ++ b) ≡ length a + length b = length-append a b in
    let within : f.count ≤ length a = f.within in
    record {
      count = f.count;
      within = omega arith;
      appended = f.appended ∙ ap (with_end held) (sym (take-append-le f.count a b within));
    }

-- and so are the first bytes with a front of the others
pub behind : (a b : List ℕ) (held mid now : Option (List ℕ)) → mid ≡ with_end held a → AppendsFront b mid now → AppendsFront (a ++ b) held now
behind a b held mid now put f =
    let size : length (a ++ b) ≡ length a + length b = length-append a b in
    let within : f.count ≤ length b = f.within in
    record {
      count = length a + f.count;
      within = omega arith;
      appended = f.appended ∙ ap (λ h. with_end h (take f.count b)) put ∙ both a (take f.count b) held ∙ ap (with_end held)
          (sym (take-append-add a b f.count));
    }
