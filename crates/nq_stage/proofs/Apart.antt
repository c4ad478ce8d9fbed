-- No two of a client's delayed writes are of one block.
use Rattle.std.proofs.Common.{◌≡◌, ℕ, Bool, true, false, ◌==◌, ◌&&◌, List, [], ◌∷◌, ◌++◌, Option, Some, None, if◌then◌else◌, map, refl, subst, ◌∙◌}
use Rattle.std.proofs.Common.{inl, inr, arith}
use Rattle.std.specs.List.{filter}
use Rattle.std.proofs.lemmas.Bool.Decides.{nat_tests}
use Rattle.nq_base.specs.declared.Push.{Push}
use Rattle.law_runs.proofs.EachOf.{each-at, each-filter}
use Rattle.nq_model.proofs.Lists.{each-append}
use Rattle.nq_model.specs.protocol.Client.{is_push_at, dirty_at}
use Rattle.nq_model.specs.laws.Journal.{Each}
use Rattle.nq_model.specs.protocol.Settle.{overwritten, overwritten_at, with_write}
use Rattle.walk_steps.proofs.Members.{each-in, find-absent}
use Rattle.walk_steps.proofs.Packets.{In}

-- delayed writes are of another block than these
abbrev pub IsOther : Push → Push → Type 0
IsOther p q = is_push_at p.file p.block q ≡ false

-- no two are of one block
abbrev pub AreApart : List Push → Type 0
AreApart [] = Unit {0}
AreApart (p ∷ ps) = Each (IsOther p) ps × AreApart ps

turned : (a b c d : ℕ) → (a == c && b == d) ≡ false → (c == a && d == b) ≡ false
turned a b c d off = grind (arith, nat_tests)

alike : (a b : ℕ) → (a == a && b == b) ≡ true
alike a b = grind (arith, nat_tests)

pub apart-filter : (test : Push → Bool) (ps : List Push) → AreApart ps → AreApart (filter test ps)
apart-filter test [] h = tt
apart-filter test (p ∷ ps) h = step (test p) (apart-filter test ps h.1)
  where
    step : (b : Bool) → AreApart (filter test ps) → AreApart (if b then p ∷ filter test ps else filter test ps)
    step true rest = (each-filter (IsOther p) test ps h.0, rest)
    step false rest = rest

module _ (file block number : ℕ) (body : List ℕ) where
  -- a write keeps the block of what it overwrites
  over-block : (a b : ℕ) (q : Push) → is_push_at a b (overwritten_at file block number body q) ≡ is_push_at a b q
  over-block a b q = step (is_push_at file block q)
    where
      step : (x : Bool) → is_push_at a b (if x then overwritten number body q else q) ≡ is_push_at a b q
      step true = refl
      step false = refl

  over-of : (p q : Push) → IsOther p q → IsOther (overwritten_at file block number body p) q
  over-of p q other = step (is_push_at file block p)
    where
      step : (x : Bool) → IsOther (if x then overwritten number body p else p) q
      step true = other
      step false = other

  over-others : (p : Push) (ps : List Push) → Each (IsOther p) ps → Each (IsOther (overwritten_at file block number body p))
      (map (overwritten_at file block number body) ps)
  over-others p [] h = tt
  over-others p (q ∷ ps) h = (over-block _ _ q ∙ over-of p q h.0, over-others p ps h.1)

  overs-apart : (ps : List Push) → AreApart ps → AreApart (map (overwritten_at file block number body) ps)
  overs-apart [] h = tt
  overs-apart (p ∷ ps) h = (over-others p ps h.0, overs-apart ps h.1)

  last-apart : (ps : List Push) (new : Push) → Each (λ q. IsOther q new) ps → AreApart ps → AreApart (ps ++ new ∷ [])
  last-apart [] new none h = (tt, tt)
  last-apart (p ∷ ps) new none h = (each-append (IsOther p) ps _ h.0 (none.0, tt), last-apart ps new none.1 h.1)

  pub write-apart : (ps : List Push) (o : Option Push) → dirty_at file block ps ≡ o → AreApart ps → AreApart (with_write file block number body ps o)
  write-apart ps (Some p) is h = overs-apart ps h
  write-apart ps None is h =
      last-apart ps (record { file = file; block = block; first = number; last = number; body = body })
      (each-in (λ q. IsOther q (record { file = file; block = block; first = number; last = number; body = body })) ps (λ q i. turned q.file q.block
      file block (find-absent (is_push_at file block) ps q is i)))
      h

-- delayed writes that are there are the ones that their block has
pub there-at : (ps : List Push) (p : Push) → AreApart ps → In ps p → dirty_at p.file p.block ps ≡ Some p
there-at [] p h i = absurd i
there-at (q ∷ ps) p h (inl same) = subst (λ z. dirty_at z.file z.block (q ∷ ps) ≡ Some z) same (rw (alike q.file q.block) refl)
there-at (q ∷ ps) p h (inr i) =
    let off : is_push_at p.file p.block q ≡ false = turned p.file p.block q.file q.block (each-at (IsOther q) ps p i h.0) in
    rw off (there-at ps p h.1 i)
