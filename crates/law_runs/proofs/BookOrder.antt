-- A client's losses stand in the order of their L.
use Rattle.std.proofs.Common.{◌≡◌, ◌≢◌, ℕ, Bool, true, false, not, ◌==◌, List, [], ◌∷◌, ◌++◌, Option, Some, None, map, filter, reverse, if◌then◌else◌}
use Rattle.std.proofs.Common.{refl, sym, subst, ap, ◌∙◌, append_assoc, append-nil, inl, inr}
use Rattle.std.proofs.lemmas.Grind.{reverse_onto}
use Rattle.nq_base.specs.declared.Entry.{Entry}
use Rattle.nq_base.specs.declared.Entry.TheVariants.{L}
use Rattle.nq_base.specs.declared.Loss.{Loss}
use Rattle.nq_base.specs.declared.Push.{Push}
use Rattle.nq_base.specs.declared.Who.{Who}
use Rattle.walk_steps.proofs.Rows.{choice}
use Rattle.nq_model.specs.laws.LossesAreReported.{losses_told, IsPartOf}
use Rattle.law_runs.proofs.Books.{Book, unsaved_on, after_loss, after_names, after_report, Closed}
use Rattle.law_runs.proofs.BookNone.{IsBy, unsaved-one}
use Rattle.law_runs.proofs.Tallies.{each-mapped}
use Rattle.law_runs.proofs.JournalMoves.{IsQuiet}
use Rattle.law_runs.proofs.Journals.{same-who, other-who}
use Rattle.nq_model.proofs.ByFile.{of-added}
use Rattle.nq_model.proofs.Finding.{filter-swap}
use Rattle.nq_model.specs.protocol.Client.{UnderWay, file_of_loss, losses_of, other_losses, add_losses}
use Rattle.nq_model.specs.protocol.Hear.{loss_of, loss_entry, waits_for}
use Rattle.nq_model.specs.laws.Journal.{Each}
use Rattle.nq_model.specs.protocol.Table.{same_who}

-- ---- parts of a list

part-more : (xs ys : List Loss) (y : Loss) → IsPartOf xs ys → IsPartOf xs (y ∷ ys)
part-more [] ys y h = tt
part-more (x ∷ xs) ys y h = inr h

part-less : (x : Loss) (xs ys : List Loss) → IsPartOf (x ∷ xs) ys → IsPartOf xs ys
part-less x xs [] h = absurd h
part-less x xs (y ∷ ys) (inl h) = part-more xs ys y h.1
part-less x xs (y ∷ ys) (inr h) = part-more xs ys y (part-less x xs ys h)

part-same : (zs : List Loss) → IsPartOf zs zs
part-same [] = tt
part-same (z ∷ zs) = inl (refl, part-same zs)

part-before : (xs ys zs : List Loss) → IsPartOf xs zs → IsPartOf xs (ys ++ zs)
part-before xs [] zs h = h
part-before xs (y ∷ ys) zs h = part-more xs (ys ++ zs) y (part-before xs ys zs h)

part-append : (xs ys zs ws : List Loss) → IsPartOf xs ys → IsPartOf zs ws → IsPartOf (xs ++ zs) (ys ++ ws)
part-append [] ys zs ws h k = part-before zs ys ws k
part-append (x ∷ xs) [] zs ws h k = absurd h
part-append (x ∷ xs) (y ∷ ys) zs ws (inl h) k = inl (h.0, part-append xs ys zs ws h.1 k)
part-append (x ∷ xs) (y ∷ ys) zs ws (inr h) k = inr (part-append (x ∷ xs) ys zs ws h k)

-- a filter leaves a part
filter-step : (x : Loss) (fewer xs : List Loss) (b : Bool) (ys : List Loss) → ((all : List Loss) → IsPartOf xs all → IsPartOf fewer all)
    → IsPartOf (x ∷ xs) ys → IsPartOf (if b then x ∷ fewer else fewer) ys
filter-step x fewer xs false ys rest h = rest ys (part-less x xs ys h)
filter-step x fewer xs true [] rest h = h
filter-step x fewer xs true (y ∷ ys) rest (inl h) = inl (h.0, rest ys h.1)
filter-step x fewer xs true (y ∷ ys) rest (inr h) = inr (filter-step x fewer xs true ys rest h)

part-filter : (p : Loss → Bool) (xs ys : List Loss) → IsPartOf xs ys → IsPartOf (filter p xs) ys
part-filter p [] ys h = h
part-filter p (x ∷ xs) ys h = filter-step x (filter p xs) xs (p x) ys (λ all k. part-filter p xs all k) h

-- ---- the order in the middle of a step

abbrev pub Ordered : Book → Type 0
Ordered b = (file : ℕ) → IsPartOf (losses_of file b.losses) (losses_told b.who b.journal)

told-more : (who : Who) (ps : List Push) (j : List Entry) → losses_told who (reverse (map (loss_entry who) ps) ++ j) ≡ losses_told who j ++ map loss_of ps
told-more who [] j = sym (append-nil (losses_told who j))
told-more who (p ∷ ps) j =
    let turned : reverse (map (loss_entry who) (p ∷ ps)) ++ j ≡ reverse (map (loss_entry who) ps) ++ (loss_entry who p ∷ j) = ap (λ z. z ++ j)
    (reverse_onto (map (loss_entry who) ps) (loss_entry who p) []) ∙ append_assoc (reverse (map (loss_entry who) ps)) (loss_entry who p ∷ []) j in
    let same : same_who who who ≡ true = same-who who who refl in
    let one : losses_told who (loss_entry who p ∷ j) ≡ losses_told who j ++ loss_of p ∷ [] = rw same refl in
    ap (losses_told who) turned ∙ told-more who ps (loss_entry who p ∷ j) ∙ ap (λ z. z ++ map loss_of ps) one
    ∙ append_assoc (losses_told who j) (loss_of p ∷ []) (map loss_of ps)

lost-on : (b : Book) (file : ℕ) → Each (λ l. l.file ≡ file) (map loss_of (unsaved_on file b.push b.dirty))
lost-on b file = each-mapped (λ l. l.file ≡ file) loss_of (unsaved_on file b.push b.dirty) (unsaved-one file b.push b.dirty)

order-loss : (b : Book) (file : ℕ) → Ordered b → Ordered (after_loss b file)
order-loss b file h g =
    let ps : List Push = unsaved_on file b.push b.dirty in
    subst (IsPartOf (losses_of g (add_losses file (map loss_of ps) b.losses))) (sym (told-more b.who ps b.journal))
    (subst (λ ls. IsPartOf ls (losses_told b.who b.journal ++ map loss_of ps)) (sym (of-added file_of_loss file g (map loss_of ps) b.losses (lost-on b file)))
    (part-append (losses_of g b.losses) (losses_told b.who b.journal) (losses_of g (map loss_of ps)) (map loss_of ps) (h g)
    (part-filter (λ l. l.file == g) (map loss_of ps) (map loss_of ps) (part-same (map loss_of ps)))))

fewer-ordered : (file g : ℕ) (losses told : List Loss) → IsPartOf (losses_of g losses) told → IsPartOf (losses_of g (other_losses file losses)) told
fewer-ordered file g losses told h =
    subst (λ ls. IsPartOf ls told) (sym (filter-swap (λ l. l.file == g) (λ l. not (l.file == file)) losses))
    (part-filter (λ l. not (l.file == file)) (losses_of g losses) told h)

order-names : (b : Book) (q file : ℕ) → Ordered b → Ordered (after_names b q file)
order-names b q file h g = fewer-ordered file g b.losses (losses_told b.who b.journal) (h g)

order-report : (b : Book) (file : ℕ) (o : Option UnderWay) → Ordered b → Ordered (after_report b file o)
order-report b file None h = h
order-report b file (Some u) h = choice Ordered (waits_for file u.written u.call) (after_names b u.q file) b (λ e. order-names b u.q file h) (λ e. h)

pub order-closed : Closed Ordered
order-closed = record {
  marks = λ b u v is q same h. h;
  answers = λ b u answer by is plain h. h;
  loses = λ b file h. order-report (after_loss b file) file b.call (order-loss b file h);
  takes = λ b file p is h. h;
  ends = λ b h. h;
  writes = λ b file block value body h. h;
  numbers = λ b h. h;
  reads = λ b q file block value h. h;
  busy = λ b op h. h;
  names = λ b op file is h g. fewer-ordered file g b.losses (losses_told b.who b.journal) (h g);
  begins = λ b op free h. h;
}

-- ---- entries of others

told-by-other : (who other : Who) (e : Entry) (j : List Entry) → who.host ≢ other.host → IsBy who e → losses_told other (e ∷ j) ≡ losses_told other j
told-by-other who other (L by file block first last) j apart h =
    let differs : same_who by other ≡ false = other-who by other (λ same. apart (ap (λ w. w.host) (sym h ∙ same))) in rw differs refl
told-by-other who other e j apart h = refl

pub order-other : (b : Book) (who : Who) (new : List Entry) → who.host ≢ b.who.host → Each (IsBy who) new → Ordered b
    → Ordered (record b { journal = new ++ b.journal })
order-other b who [] apart by h g = h g
order-other b who (e ∷ new) apart by h g =
    subst (IsPartOf (losses_of g b.losses)) (sym (told-by-other who b.who e (new ++ b.journal) apart by.0)) (order-other b who new apart by.1 h g)

told-quiet : (who : Who) (e : Entry) (j : List Entry) → IsQuiet e → losses_told who (e ∷ j) ≡ losses_told who j
told-quiet who (L by file block first last) j h = absurd h
told-quiet who e j h = refl

pub order-quiet : (b : Book) (new : List Entry) → Each IsQuiet new → Ordered b → Ordered (record b { journal = new ++ b.journal })
order-quiet b [] quiet h g = h g
order-quiet b (e ∷ new) quiet h g =
    subst (IsPartOf (losses_of g b.losses)) (sym (told-quiet b.who e (new ++ b.journal) quiet.0)) (order-quiet b new quiet.1 h g)
