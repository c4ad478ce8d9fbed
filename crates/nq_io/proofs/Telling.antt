-- What a source or a sink over std tells after one call.
use Rattle.std.proofs.Common.{◌≡◌, ℕ, ◌+◌, ◌-◌, ◌<◌, ◌≤◌, Bool, true, false, List, [], ◌++◌, length, take, drop, Option, Some, None, refl, ap, sym, ◌∙◌, subst}
use Rattle.std.proofs.Math.Seq.{take-add}
use Rattle.std.proofs.lemmas.List.{take_rest}
use Rattle.std.specs.Prelude.{OnSome}
use Rattle.std.specs.Io.KnownBytes.{Appends, Consumes, IsAtEnd, Keeps}
use Rattle.nq_io.proofs.Told.{with_end-with_end}
use Rattle.nq_io.specs.Sink.{Puts}
use Rattle.nq_io.specs.Source.{GivesBytes, GivesEnd}
use Rattle.nq_io.specs.Told.{with_end, with_front}
use Rattle.nq_io.specs.declared.sink.Put.{Put}
use Rattle.nq_io.specs.Known.{TellsKnown, told_where}

-- ---- sources

-- what is told stays where known bytes do
kept : (tells : Bool) (known now : Option (List ℕ)) → TellsKnown tells known → Keeps known now → told_where tells now ≡ told_where tells known
kept false known now has keeps = refl
kept true None now has keeps = let h : false ≡ true = has refl in absurd (cc)
kept true (Some held) None has keeps = absurd keeps
kept true (Some held) (Some last) has keeps = ap Some keeps

pub told_kept : (tells tells' : Bool) (known now : Option (List ℕ)) → tells' ≡ tells → TellsKnown tells known → Keeps known now
    → told_where tells' now ≡ told_where tells known
told_kept tells tells' known now same has keeps = ap (λ b. told_where b now) same ∙ kept tells known now has keeps

-- what is told loses the bytes that were read
taken : (tells : Bool) (known rest : Option (List ℕ)) (bytes : List ℕ) → TellsKnown tells known → Consumes known rest bytes → told_where tells known
    ≡ with_front bytes (told_where tells rest)
taken false known rest bytes has consumes = refl
taken true None rest bytes has consumes = let h : false ≡ true = has refl in absurd (cc)
taken true (Some left) None bytes has consumes = absurd consumes
taken true (Some left) (Some last) bytes has consumes = ap Some consumes

beyond : (tells : Bool) (known : Option (List ℕ)) (filled buffer : List ℕ) → (tells ≡ true → filled ≡ buffer) → OnSome (told_where tells known)
    (filled ≡ buffer)
beyond false known filled buffer same = tt
beyond true None filled buffer same = tt
beyond true (Some left) filled buffer same = same refl

-- a read of n bytes
pub told_gives : (n : ℕ) (buffer filled : List ℕ) (tells tells' : Bool) (known rest : Option (List ℕ)) → tells' ≡ tells → TellsKnown tells known
    → 0 < n → n ≤ length buffer
    → Consumes known rest (take n filled) → (tells ≡ true → drop n filled ≡ drop n buffer) → GivesBytes n buffer filled (told_where tells known)
    (told_where tells' rest)
told_gives n buffer filled tells tells' known rest same has some fits consumes behind =
    subst (λ b. GivesBytes n buffer filled (told_where tells known) (told_where b rest)) (sym same)
    (record {
      some = some;
      fits = fits;
      taken = taken tells known rest (take n filled) has consumes;
      beyond = beyond tells known (drop n filled) (drop n buffer) behind;
    })

ended : (tells : Bool) (known rest : Option (List ℕ)) → TellsKnown tells known → Consumes known rest [] → IsAtEnd rest
    → GivesEnd (told_where tells known) (told_where tells rest)
ended false known rest has consumes end = record { nothing = tt; same = refl }
ended true None rest has consumes end = let h : false ≡ true = has refl in absurd (cc)
ended true (Some left) None has consumes end = absurd consumes
ended true (Some left) (Some last) has consumes end = record { nothing = consumes ∙ end; same = ap Some (sym consumes) }

-- a read at the end
pub told_ends : (tells tells' : Bool) (known rest : Option (List ℕ)) → tells' ≡ tells → TellsKnown tells known → Consumes known rest [] → IsAtEnd rest
    → GivesEnd (told_where tells known) (told_where tells' rest)
told_ends tells tells' known rest same has consumes end =
    subst (λ b. GivesEnd (told_where tells known) (told_where b rest)) (sym same) (ended tells known rest has consumes end)

-- ---- sinks

appended : (tells : Bool) (known now : Option (List ℕ)) (bytes : List ℕ) → TellsKnown tells known → Appends known now bytes → told_where tells now
    ≡ with_end (told_where tells known) bytes
appended false known now bytes has appends = refl
appended true None now bytes has appends = let h : false ≡ true = has refl in absurd (cc)
appended true (Some held) None bytes has appends = absurd appends
appended true (Some held) (Some last) bytes has appends = ap Some appends

-- after the first n bytes, m more of the rest
pub told_more : (bytes : List ℕ) (n m : ℕ) (tells tells' : Bool) (first known now : Option (List ℕ)) → tells' ≡ tells → TellsKnown tells known
    → told_where tells known ≡ with_end first (take n bytes)
    → Appends known now (take m (take (length bytes - n) (drop n bytes))) → told_where tells' now ≡ with_end first (take (n + m) bytes)
told_more bytes n m tells tells' first known now same has front appends =
    ap (λ b. told_where b now) same
    ∙ appended tells known now _ has appends
    ∙ ap (λ (held : Option (List ℕ)). with_end held (take m (take (length bytes - n) (drop n bytes)))) front
    ∙ with_end-with_end first (take n bytes) (take m (take (length bytes - n) (drop n bytes)))
    ∙ ap (λ (xs : List ℕ). with_end first (take n bytes ++ take m xs)) (take_rest bytes n)
    ∙ ap (with_end first) (sym (take-add n m bytes))

-- a put that failed behind the first n bytes
pub told_failed : (result : Put) (bytes : List ℕ) (n : ℕ) (first now : Option (List ℕ)) → result ≡ Put.Failed → n ≤ length bytes
    → now ≡ with_end first (take n bytes) → Puts result bytes first now
told_failed result bytes n first now is within told =
    subst (λ put. Puts put bytes first now) (sym is) (record { count = n; within = within; appended = told })
