-- A body that is found is that of the newest STAGE of its write.
use Rattle.std.proofs.Common.{◌≡◌, ℕ, ◌==◌, Bool, true, false, not, cond, List, [], ◌∷◌, take, Option, Some, None, zero, suc, refl, ◌∙◌, if◌then◌else◌}
use Rattle.std.proofs.lemmas.Bool.{eqb-true}
use Rattle.nq_stage.specs.declared.messages.Commit.{Commit}
use Rattle.nq_stage.specs.declared.messages.Written.{Written}
use Rattle.nq_stage.specs.Messages.{write_bytes, written_of}
use Rattle.nq_stage.specs.Reading.{Stage}
use Rattle.nq_stage.specs.Writes.{is_same}
use Rattle.nq_stage.proofs.Writes.{same_write}
use Rattle.nq_stage.specs.Bodies.{Bodies, others, most_bodies, with_body_of, with_body, body_of}
use Rattle.nq_stage.specs.Answering.{write, own_stage, body_for, answered_as}
use Rattle.nq_stage.specs.PoolLaws.{after, pool_after, body_or, newest, AnswersWithItsBoot}

-- what is found among the first ones is found among all
taken-step : (b : Bool) (e : Written × List ℕ) (x : List ℕ) (some all : Option (List ℕ)) → (some ≡ Some x → all ≡ Some x) → cond b (Some e.1) some
    ≡ Some x → cond b (Some e.1) all ≡ Some x
taken-step true e x some all on h = h
taken-step false e x some all on h = on h

found-taken : (w : Written) (n : ℕ) (es : List (Written × List ℕ)) (x : List ℕ) → body_of w (take n es) ≡ Some x → body_of w es ≡ Some x
found-taken w zero es x h = absurd cc
found-taken w (suc n) [] x h = h
found-taken w (suc n) (e ∷ es) x h = taken-step (is_same w e.0) e x (body_of w (take n es)) (body_of w es) (found-taken w n es x) h

-- what is found among those of other writes is found among all
other-step : (w : Written) (e : Written × List ℕ) (x : List ℕ) (b : Bool) (some : List (Written × List ℕ)) (all : Option (List ℕ))
    → (is_same w e.0 ≡ true → b ≡ false) → (body_of w some ≡ Some x → all ≡ Some x) → body_of w (cond (not b) (e ∷ some) some) ≡ Some x
    → cond (is_same w e.0) (Some e.1) all ≡ Some x
other-step w e x false some all apart on h = taken-step (is_same w e.0) e x (body_of w some) all on h
other-step w e x true some all apart on h = (elim (is_same w e.0) as (λ c. is_same w e.0 ≡ c → cond c (Some e.1) all ≡ Some x) [
  | true ↦ λ yes. let no = apart yes in absurd cc
  | false ↦ λ _. on h
]) refl

-- a write that is one with w is not one with v, where w is not
apart-step : (v w u : Written) (b : Bool) → is_same v u ≡ b → is_same w v ≡ false → is_same w u ≡ true → b ≡ false
apart-step v w u false h off on = refl
apart-step v w u true h off on = let e : v ≡ u = same_write v u h in let off' : is_same w u ≡ false = rw e at off in absurd cc

found-others : (v w : Written) → is_same w v ≡ false → (es : List (Written × List ℕ)) (x : List ℕ) → body_of w (others v es) ≡ Some x → body_of w es ≡ Some x
found-others v w off [] x h = h
found-others v w off (e ∷ es) x h = other-step w e x (is_same v e.0) (others v es) (body_of w es) (λ on. apart-step v w e.0 (is_same v e.0) refl off
    on) (found-others v w off es x) h

put-step : (b : Bool) (body x : List ℕ) (some all : Option (List ℕ)) → (b ≡ false → some ≡ Some x → all ≡ Some x) → cond b (Some body) some ≡ Some x
    → cond b (Some body) all ≡ Some x
put-step true body x some all on h = h
put-step false body x some all on h = on refl h

-- what is found after a body was put in front is that body, or was found before
found-put : (most : ℕ) (v w : Written) (body : List ℕ) (es : List (Written × List ℕ)) (x : List ℕ) → body_of w (with_body_of most v body es) ≡ Some x
    → cond (is_same w v) (Some body) (body_of w es) ≡ Some x
found-put most v w body es x h =
    put-step (is_same w v) body x (body_of w (others v es)) (body_of w es) (λ off. found-others v w off es x)
    (found-taken w most ((v, body) ∷ others v es) x h)

else-step : (b : Bool) (body x : List ℕ) (some all : Option (List ℕ)) → (some ≡ Some x → all ≡ Some x) → cond b (Some body) some ≡ Some x
    → cond b (Some body) all ≡ Some x
else-step true body x some all on h = h
else-step false body x some all on h = on h

found-step : (w : Written) (pool : Bodies) (o : Option Stage) (before : Option (List ℕ)) (x : List ℕ) → (body_of w pool.bodies ≡ Some x → before
    ≡ Some x) → body_of w (after pool o).bodies ≡ Some x → body_or w o before ≡ Some x
unfolding with_body
found-step w pool None before x on h = on h
found-step w pool (Some s) before x on h = else-step (is_same w s.written) s.body x (body_of w pool.bodies) before on (found-put most_bodies s.written
    w s.body pool.bodies x h)

found : (w : Written) (boot : ℕ) (given : List (ℕ × List ℕ)) (x : List ℕ) → body_of w (pool_after boot given).bodies ≡ Some x → newest w given ≡ Some x
found w boot [] x h = absurd cc
found w boot (d ∷ given) x h = found-step w (pool_after boot given) (own_stage d.0 d.1) (newest w given) x (found w boot given x) h

boot-step : (pool : Bodies) (o : Option Stage) → (after pool o).boot ≡ pool.boot
boot-step pool None = refl
boot-step pool (Some s) = refl

boot-stays : (boot : ℕ) (given : List (ℕ × List ℕ)) → (pool_after boot given).boot ≡ boot
boot-stays boot [] = refl
boot-stays boot (d ∷ given) = boot-step (pool_after boot given) (own_stage d.0 d.1) ∙ boot-stays boot given

-- a WRITE comes of a body
of-body : (c : Commit) (bytes : List ℕ) (o : Option (List ℕ)) → answered_as c o ≡ write bytes → (x : List ℕ) × (o ≡ Some x) × (bytes ≡ write_bytes c.pushed x)
of-body c bytes None h = absurd cc
of-body c bytes (Some x) h = let e : bytes ≡ write_bytes c.pushed x = cc in (x, refl, e)

of-boot : (b : Bool) (o : Option (List ℕ)) (x : List ℕ) → (if b then o else None) ≡ Some x → (b ≡ true) × (o ≡ Some x)
of-boot true o x h = (refl, h)
of-boot false o x h = absurd cc

pub answers-with-its-boot : AnswersWithItsBoot
answers-with-its-boot boot given c bytes h =
    let pool = pool_after boot given in
    let one = of-body c bytes (body_for pool c) h in
    let two = of-boot (c.verifier == pool.boot) (body_of (written_of c.pushed) pool.bodies) one.0 one.1 in
    record {
      verifier = eqb-true c.verifier pool.boot two.0 ∙ boot-stays boot given;
      body = one.0;
      staged_last = found (written_of c.pushed) boot given one.0 two.1;
      bytes_are = one.2;
    }
