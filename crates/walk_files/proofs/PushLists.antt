-- What is in a list of delayed writes after each change of it.
use Rattle.std.proofs.Common.{◌≡◌, ◌⊎◌, ℕ, Bool, true, false, not, List, [], ◌∷◌, ◌++◌, Option, Some, None, if◌then◌else◌, map, refl, sym, subst, ap}
use Rattle.std.proofs.Common.{◌∙◌, inl, inr}
use Rattle.std.specs.List.{filter}
use Rattle.std.proofs.lemmas.Bool.{and_parts, and_from, not-true}
use Rattle.nq_base.specs.declared.Push.{Push}
use Rattle.walk_steps.proofs.ClientMoves.{some-same, none-some}
use Rattle.walk_files.proofs.WritesFit.{AreApart}
use Rattle.nq_model.specs.protocol.Client.{is_push_of, is_push_at, first_dirty, dirty_at, drop_dirty, other_dirty}
use Rattle.nq_model.specs.protocol.Hear.{other_push}
use Rattle.nq_model.specs.protocol.Settle.{overwritten, overwritten_at, with_write}
use Rattle.walk_steps.proofs.Members.{in-filter, filter-in, in-map, map-in, find-in, find-absent}
use Rattle.walk_steps.proofs.Packets.{In, in-left, in-right, in-append}
use Rattle.walk_steps.proofs.Rows.{same-number, number-same, find-passes}

-- ---- lists

-- ---- blocks

-- delayed writes are of a block, or not
pub is-at : (file block : ℕ) (p : Push) → is_push_at file block p ≡ true → (p.file ≡ file) × (p.block ≡ block)
is-at file block p e = let a = and_parts _ _ e in (same-number _ _ a.0, same-number _ _ a.1)

pub at-is : (file block : ℕ) (p : Push) → p.file ≡ file → p.block ≡ block → is_push_at file block p ≡ true
at-is file block p f b = and_from _ _ (number-same p.file file f) (number-same p.block block b)

pub not-at : (file block : ℕ) (p : Push) → is_push_at file block p ≡ false → p.file ≡ file → p.block ≡ block → ⊥
not-at file block p e f b = let yes = at-is file block p f b in absurd (cc)

-- ---- changes

-- taken from the list
pub in-dropped : (file block : ℕ) (dirty : List Push) (q : Push) → In (drop_dirty file block dirty) q → In dirty q × (q.file ≡ file → q.block ≡ block → ⊥)
in-dropped file block dirty q h = let k = in-filter (λ p. not (is_push_at file block p)) dirty q h in (k.0, not-at file block q (not-true _ k.1))

pub dropped-in : (file block : ℕ) (dirty : List Push) (q : Push) → is_push_at file block q ≡ false → In dirty q → In (drop_dirty file block dirty) q
dropped-in file block dirty q other h = filter-in (λ p. not (is_push_at file block p)) dirty q (ap not other) h

pub first-in : (file : ℕ) (dirty : List Push) (p : Push) → first_dirty file dirty ≡ Some p → In dirty p
first-in file dirty p e = find-in (is_push_of file) dirty p e

-- lost
pub in-other : (file : ℕ) (dirty : List Push) (q : Push) → In (other_dirty file dirty) q → In dirty q × (q.file ≡ file → ⊥)
in-other file dirty q h =
    let k = in-filter (λ p. not (is_push_of file p)) dirty q h in
    (k.0, λ same. let yes : is_push_of file q ≡ true = number-same q.file file same in let no : is_push_of file q ≡ false = not-true _ k.1 in absurd (cc))

pub other-in : (file : ℕ) (dirty : List Push) (q : Push) → is_push_of file q ≡ false → In dirty q → In (other_dirty file dirty) q
other-in file dirty q other h = filter-in (λ p. not (is_push_of file p)) dirty q (ap not other) h

pub left-push : (file : ℕ) (push : Option Push) (p : Push) → other_push file push ≡ Some p → (push ≡ Some p) × (p.file ≡ file → ⊥)
left-push file None p h = none-some p h
left-push file (Some q) p h = step (is_push_of file q) refl h
  where
    step : (b : Bool) → is_push_of file q ≡ b → (if b then None else Some q) ≡ Some p → (Some q ≡ Some p) × (p.file ≡ file → ⊥)
    step true e h = none-some p h
    step false e h = (
      h,
      λ same. let one : q ≡ p = some-same q p h in let yes : is_push_of file q ≡ true = number-same q.file file (ap (λ z. z.file) one ∙ same) in
          absurd (cc),
    )

-- a write is delayed
abbrev pub fresh_push : (file block number : ℕ) (body : List ℕ) → Push
fresh_push file block number body = record { file = file; block = block; first = number; last = number; body = body }

-- what is in the list then: what was there for another block, or what was there for this block with a later last write, or
-- what is new where none was there
pub data InWritten (file block number : ℕ) (body : List ℕ) (dirty : List Push) (q : Push) : Type 0 where
  is_other : In dirty q → (q.file ≡ file → q.block ≡ block → ⊥) → InWritten file block number body dirty q
  is_longer : (p : Push) → In dirty p → p.file ≡ file → p.block ≡ block → overwritten number body p ≡ q → InWritten file block number body dirty q
  is_new : ((p : Push) → In dirty p → p.file ≡ file → p.block ≡ block → ⊥) → fresh_push file block number body ≡ q → InWritten file block number body dirty q

overwritten-is : (file block number : ℕ) (body : List ℕ) (dirty : List Push) (p q : Push) → In dirty p → (b : Bool) → is_push_at file block p ≡ b
    → (if b then overwritten number body p else p) ≡ q → InWritten file block number body dirty q
overwritten-is file block number body dirty p q i true e same = let k = is-at file block p e in is_longer p i k.0 k.1 same
overwritten-is file block number body dirty p q i false e same =
    is_other (subst (λ z. In dirty z) same i) (subst (λ z. z.file ≡ file → z.block ≡ block → ⊥) same (not-at file block p e))

pub in-written : (file block number : ℕ) (body : List ℕ) (dirty : List Push) (o : Option Push) → dirty_at file block dirty ≡ o → (q : Push)
    → In (with_write file block number body dirty o) q → InWritten file block number body dirty q
in-written file block number body dirty None none q h = case (in-append dirty (fresh_push file block number body ∷ []) q h)
  where
    absent : (p : Push) → In dirty p → p.file ≡ file → p.block ≡ block → ⊥
    absent p i f b = not-at file block p (find-absent (is_push_at file block) dirty p none i) f b

    case : In dirty q ⊎ In (fresh_push file block number body ∷ []) q → InWritten file block number body dirty q
    case (inl i) = is_other i (absent q i)
    case (inr (inl e)) = is_new absent e
    case (inr (inr bad)) = absurd bad
in-written file block number body dirty (Some p) some q h =
    let k = in-map (overwritten_at file block number body) dirty q h in
    overwritten-is file block number body dirty k.0 q k.1 (is_push_at file block k.0) refl k.2

-- and what was there is there, or longer
pub written-in : (file block number : ℕ) (body : List ℕ) (dirty : List Push) (o : Option Push) (p : Push) → In dirty p
    → (q : Push) × In (with_write file block number body dirty o) q × ((q ≡ p) ⊎ (q ≡ overwritten number body p))
written-in file block number body dirty None p i = (p, in-left dirty (fresh_push file block number body ∷ []) p i, inl refl)
written-in file block number body dirty (Some r) p i =
    (overwritten_at file block number body p, map-in (overwritten_at file block number body) dirty p i, step (is_push_at file block p))
  where
    step : (b : Bool) → ((if b then overwritten number body p else p) ≡ p) ⊎ ((if b then overwritten number body p else p) ≡ overwritten number body p)
    step true = inr refl
    step false = inl refl

-- the block has an entry that ends with the new write
pub written-there : (file block number : ℕ) (body : List ℕ) (dirty : List Push) (o : Option Push) → dirty_at file block dirty ≡ o
    → (q : Push) × In (with_write file block number body dirty o) q × (q.file ≡ file) × (q.block ≡ block) × (q.last ≡ number)
    × ((q.first ≡ number) ⊎ ((p : Push) × In dirty p × (p.file ≡ file) × (p.block ≡ block) × (q.first ≡ p.first)))
written-there file block number body dirty None none = (
  fresh_push file block number body,
  in-right dirty (fresh_push file block number body ∷ []) (fresh_push file block number body) (inl refl),
  refl,
  refl,
  refl,
  inl refl,
)
written-there file block number body dirty (Some p) some =
    let at : is_push_at file block p ≡ true = find-passes (is_push_at file block) p dirty some in
    let k = is-at file block p at in
    let there : In dirty p = find-in (is_push_at file block) dirty p some in (
      overwritten number body p,
      subst (λ z. In (map (overwritten_at file block number body) dirty) z)
          (ap (λ b. if b then overwritten number body p else p) at) (map-in (overwritten_at file block number body) dirty p there),
      k.0,
      k.1,
      refl,
      inr
          (p, there, k.0, k.1, refl),
    )

-- ---- lists without two of one block

apart-filter-step : (test : Push → Bool) (p : Push) (ps : List Push) (b : Bool) → ((q : Push) → In ps q → p.file ≡ q.file → p.block ≡ q.block → ⊥)
    → AreApart (filter test ps) → AreApart (if b then p ∷ filter test ps else filter test ps)
apart-filter-step test p ps true apart rest = (λ q i. apart q (in-filter test ps q i).0, rest)
apart-filter-step test p ps false apart rest = rest

pub apart-filter : (test : Push → Bool) (ps : List Push) → AreApart ps → AreApart (filter test ps)
apart-filter test [] h = tt
apart-filter test (p ∷ ps) h = apart-filter-step test p ps (test p) h.0 (apart-filter test ps h.1)

overwritten-same : (number : ℕ) (body : List ℕ) (p : Push) (b : Bool)
    → ((if b then overwritten number body p else p).file ≡ p.file) × ((if b then overwritten number body p else p).block ≡ p.block)
overwritten-same number body p true = (refl, refl)
overwritten-same number body p false = (refl, refl)

apart-map : (file block number : ℕ) (body : List ℕ) (ps : List Push) → AreApart ps → AreApart (map (overwritten_at file block number body) ps)
apart-map file block number body [] h = tt
apart-map file block number body (p ∷ ps) h = (apart, apart-map file block number body ps h.1)
  where
    apart : (q : Push) → In (map (overwritten_at file block number body) ps) q → (overwritten_at file block number body p).file ≡ q.file
        → (overwritten_at file block number body p).block ≡ q.block → ⊥
    apart q i f b =
        let k = in-map (overwritten_at file block number body) ps q i in
        let mine = overwritten-same number body p (is_push_at file block p) in
        let theirs = overwritten-same number body k.0 (is_push_at file block k.0) in
        h.0 k.0 k.1 (sym mine.0 ∙ f ∙ ap (λ z. z.file) (sym k.2) ∙ theirs.0) (sym mine.1 ∙ b ∙ ap (λ z. z.block) (sym k.2) ∙ theirs.1)

apart-last : (p : Push) (ps : List Push) → ((q : Push) → In ps q → q.file ≡ p.file → q.block ≡ p.block → ⊥) → AreApart ps → AreApart (ps ++ p ∷ [])
apart-last p [] other h = (λ q i. absurd i, tt)
apart-last p (x ∷ xs) other h = (apart, apart-last p xs (λ q i. other q (inr i)) h.1)
  where
    apart : (q : Push) → In (xs ++ p ∷ []) q → x.file ≡ q.file → x.block ≡ q.block → ⊥
    apart q i f b = case (in-append xs (p ∷ []) q i)
      where
        case : In xs q ⊎ ((p ≡ q) ⊎ ⊥) → ⊥
        case (inl k) = h.0 q k f b
        case (inr (inl e)) = other x (inl refl) (f ∙ ap (λ z. z.file) (sym e)) (b ∙ ap (λ z. z.block) (sym e))
        case (inr (inr bad)) = bad

pub apart-written : (file block number : ℕ) (body : List ℕ) (dirty : List Push) (o : Option Push) → dirty_at file block dirty ≡ o → AreApart dirty
    → AreApart (with_write file block number body dirty o)
apart-written file block number body dirty None none h =
    apart-last (fresh_push file block number body) dirty (λ q i f b. not-at file block q (find-absent (is_push_at file block) dirty q none i) f b) h
apart-written file block number body dirty (Some p) some h = apart-map file block number body dirty h
