-- What is read is spelled by the bytes that were passed over.
use Rattle.std.proofs.Common.{◌≡◌, ℕ, ◌^◌, ◌<◌, ◌≤◌, Bool, true, false, cond, eqb, List, [], ◌++◌, length, Option, Some, None, IfSome, Result, Ok}
use Rattle.std.proofs.Common.{Err, refl, sym, ap, subst, ◌∙◌, append_assoc}
use Rattle.std.specs.Prelude.{◌&&◌, not, is_none, IfOk}
use Rattle.std.proofs.lemmas.Bool.{cond_both, eqb-true}
use Rattle.std.proofs.lemmas.List.{append-nil}
use Rattle.nq_base.specs.Name.{IsName, is_name}
use Rattle.nq_base.specs.declared.Grant.{Grant}
use Rattle.nq_base.specs.declared.Mode.{Mode}
use Rattle.nq_base.specs.declared.PushBase.{PushBase}
use Rattle.nq_base.specs.declared.Refusal.{Refusal}
use Rattle.nq_base.specs.declared.Reply.{Reply}
use Rattle.nq_base.specs.declared.Request.{Request}
use Rattle.nq_base.specs.declared.Tag.{Tag}
use Rattle.nq_base.specs.declared.Want.{Want}
use Rattle.nq_base.specs.declared.Who.{Who}
use Rattle.nq_base.proofs.NameTests.{name_decides}
use Rattle.nq_xdr.specs.declared.XdrFault.{XdrFault}
use Rattle.nq_xdr.specs.Fault.{IsShort, IsBooleanFault, IsOpaqueFault}
use Rattle.nq_xdr.specs.Item.{word, hyper, boolean, opaque}
use Rattle.nq_xdr.specs.Reading.{◌>>=◌, word_at, hyper_at, boolean_at, opaque_at}
use Rattle.nq_xdr.proofs.Bytes.{IsBytes, IsBytes-behind}
use Rattle.nq_xdr.proofs.Numbers.{word_says, hyper_says}
use Rattle.nq_xdr.proofs.Opaque.{boolean_says, opaque_says}
use Rattle.nq_xdr.proofs.Steps.{Says}
use Rattle.nq_wire.specs.declared.fault.Garbage.{Garbage}
use Rattle.nq_wire.specs.declared.procedure.Procedure.{Procedure}
use Rattle.nq_wire.specs.declared.procedure.Procedure.TheVariants.{Null, Attach, Lookup, Create, GetAttr, Read, Write, GetLease, Vacated, Evicted}
use Rattle.nq_wire.specs.declared.procedure.Procedure.TheVariants.{Resize, Remove}
use Rattle.nq_wire.specs.Garbage.{garbage}
use Rattle.nq_wire.specs.Parts.{head, tag_bytes, mode_number, want_bytes, grant_bytes, base_bytes, optional, IsWho, IsTag, IsWant, IsGrant}
use Rattle.nq_wire.specs.Parts.{IsPushBase, IsWanted}
use Rattle.nq_wire.specs.Procedure.{number_of}
use Rattle.nq_wire.specs.Status.{status_number}
use Rattle.nq_wire.specs.Request.{procedure_of, arguments, IsRequest, HasSpelling, IsOneWrite, IsArguments}
use Rattle.nq_wire.specs.Reply.{ok, results, IsReply, IsRefusable, Answers, IsResults}
use Rattle.nq_wire.specs.Reading.{item, head_at, tag_at, wanted_mode, want_at, granted_mode, grant_at, base_at, some_of, optional_at, name_of}
use Rattle.nq_wire.specs.Reading.{name_at, body_at, lookup_at, create_at, get_attr_at, read_at, span_at, write_at, get_lease_at, vacated_at}
use Rattle.nq_wire.specs.Reading.{evicted_at, resize_at, remove_at, arguments_at, asked_at, request_at, found_at, created_at, attributes_at, block_at}
use Rattle.nq_wire.specs.Reading.{written_at, lease_at, resized_at, results_at, refusal_of, answer_at, reply_at}

-- ---- steps

-- a value that was read is spelled by the bytes that were passed over
abbrev Spelled : {A : Type 0} → (A → List ℕ) → (A → Type 0) → List ℕ → A × List ℕ → Type 0
Spelled spelling Fits bytes x = Fits x.0 × (bytes ≡ spelling x.0 ++ x.1)

-- what follows a step
after : {A X : Type 0} (read : Result A Garbage) (f : A → Result X Garbage) (Q : A → Type 0) (P : X → Type 0) → IfOk read Q
    → ((x : A) → Q x → IfOk (f x) P) → IfOk (read >>= f) P
after (Ok x) f Q P says goes_on = goes_on x says
after (Err e) f Q P says goes_on = tt

-- what follows a value that is spelled
behind : {A X : Type 0} (spelling : A → List ℕ) (Fits : A → Type 0) (bytes : List ℕ) (read : Result (A × List ℕ) Garbage) (f : A × List ℕ
    → Result X Garbage) (P : X → Type 0)
    → IsBytes bytes → IfOk read (Spelled spelling Fits bytes) → ((x : A) (rest : List ℕ) → Fits x → bytes ≡ spelling x ++ rest → IsBytes rest
    → IfOk (f (x, rest)) P)
    → IfOk (read >>= f) P
behind spelling Fits bytes (Ok x) f P fits says goes_on = goes_on x.0 x.1 says.0 says.1 (IsBytes-behind (spelling x.0) x.1 (subst IsBytes says.1 fits))
behind spelling Fits bytes (Err e) f P fits says goes_on = tt

-- an item that is there
item_says : {A : Type 0} (spelling : A → List ℕ) (Fits : A → Type 0) (IsFault : XdrFault → Type 0) (bytes : List ℕ) (read : Result (A × List ℕ) XdrFault)
    → Says spelling Fits IsFault bytes read → IfOk (item read) (Spelled spelling Fits bytes)
item_says spelling Fits IsFault bytes (Ok x) says = says
item_says spelling Fits IsFault bytes (Err e) says = tt

behind_word : {X : Type 0} (bytes : List ℕ) (f : ℕ × List ℕ → Result X Garbage) (P : X → Type 0)
    → IsBytes bytes → ((n : ℕ) (rest : List ℕ) → n < 2 ^ 32 → bytes ≡ word n ++ rest → IsBytes rest → IfOk (f (n, rest)) P)
    → IfOk (item (word_at bytes) >>= f) P
behind_word bytes f P fits goes_on =
    let Fits : ℕ → Type 0 = λ n. n < 2 ^ 32 in
    behind word Fits bytes (item (word_at bytes)) f P fits (item_says word Fits (IsShort 4 bytes) bytes (word_at bytes) (word_says bytes fits)) goes_on

behind_hyper : {X : Type 0} (bytes : List ℕ) (f : ℕ × List ℕ → Result X Garbage) (P : X → Type 0)
    → IsBytes bytes → ((n : ℕ) (rest : List ℕ) → n < 2 ^ 64 → bytes ≡ hyper n ++ rest → IsBytes rest → IfOk (f (n, rest)) P)
    → IfOk (item (hyper_at bytes) >>= f) P
behind_hyper bytes f P fits goes_on =
    let Fits : ℕ → Type 0 = λ n. n < 2 ^ 64 in
    behind hyper Fits bytes (item (hyper_at bytes)) f P fits (item_says hyper Fits (IsShort 8 bytes) bytes (hyper_at bytes) (hyper_says bytes fits)) goes_on

behind_opaque : {X : Type 0} (max : ℕ) (bytes : List ℕ) (f : List ℕ × List ℕ → Result X Garbage) (P : X → Type 0)
    → IsBytes bytes → ((body rest : List ℕ) → length body ≤ max → bytes ≡ opaque body ++ rest → IsBytes rest → IfOk (f (body, rest)) P)
    → IfOk (item (opaque_at max bytes) >>= f) P
behind_opaque max bytes f P fits goes_on =
    let Fits : List ℕ → Type 0 = λ body. length body ≤ max in
    behind opaque Fits bytes (item (opaque_at max bytes)) f P fits (item_says opaque Fits (IsOpaqueFault max bytes) bytes (opaque_at max bytes)
    (opaque_says max bytes fits)) goes_on

-- a choice by a number
chosen : {A : Type 0} (n k : ℕ) (x y : Result A Garbage) (P : A → Type 0) → (n ≡ k → IfOk x P) → IfOk y P → IfOk (cond (eqb n k) x y) P
chosen n k x y P same other = cond_both (eqb n k) x y (λ read. IfOk read P) (λ e. same (eqb-true n k e)) (λ _. other)

-- ---- parts

head_says : (bytes : List ℕ) → IsBytes bytes → IfOk (head_at bytes) (Spelled head IsWho bytes)
unfolding head head_at
head_says bytes fits =
    let P : Who × List ℕ → Type 0 = Spelled head IsWho bytes in
    behind_word bytes _ P fits (λ host a host-fits e a-fits.
    behind_word a _ P a-fits (λ inc rest inc-fits e' _. (record { host = host-fits; inc = inc-fits }, rw (e, e') (simp append_assoc))))

tag_says : (bytes : List ℕ) → IsBytes bytes → IfOk (tag_at bytes) (Spelled tag_bytes IsTag bytes)
unfolding tag_bytes tag_at
tag_says bytes fits =
    let P : Tag × List ℕ → Type 0 = Spelled tag_bytes IsTag bytes in
    behind_word bytes _ P fits (λ boot a boot-fits e a-fits.
    behind_hyper a _ P a-fits (λ number rest number-fits e' _. (record { boot = boot-fits; number = number-fits }, rw (e, e') (simp append_assoc))))

base_says : (bytes : List ℕ) → IsBytes bytes → IfOk (base_at bytes) (Spelled base_bytes IsPushBase bytes)
unfolding base_bytes base_at
base_says bytes fits =
    let P : PushBase × List ℕ → Type 0 = Spelled base_bytes IsPushBase bytes in
    behind_word bytes _ P fits (λ boot a boot-fits e a-fits.
    behind_hyper a _ P a-fits (λ base rest base-fits e' _. (record { boot = boot-fits; base = base-fits }, rw (e, e') (simp append_assoc))))

wanted_mode_says : (n : ℕ) → IfOk (wanted_mode n) (λ mode. IsWanted mode × (n ≡ mode_number mode))
unfolding wanted_mode
wanted_mode_says n =
    let P : Mode → Type 0 = λ mode. IsWanted mode × (n ≡ mode_number mode) in
    chosen n 1 _ _ P (λ same. (tt, same)) (chosen n 2 _ _ P (λ same. (tt, same)) tt)

abbrev IsSpelledWant : Want → Type 0
IsSpelledWant want = IsWant want × IsWanted want.mode

want_says : (bytes : List ℕ) → IsBytes bytes → IfOk (want_at bytes) (Spelled want_bytes IsSpelledWant bytes)
unfolding want_bytes want_at
want_says bytes fits =
    let P : Want × List ℕ → Type 0 = Spelled want_bytes IsSpelledWant bytes in
    behind_word bytes _ P fits (λ number a _ e a-fits.
    after (wanted_mode number) _ (λ mode. IsWanted mode × (number ≡ mode_number mode)) P (wanted_mode_says number) (λ mode is.
    let same = is.1 in
    behind_word a _ P a-fits (λ term rest term-fits e' _. ((record { term = term-fits }, is.0), rw (e, same, e') (simp append_assoc)))))

granted_mode_says : (n : ℕ) → IfOk (granted_mode n) (λ mode. n ≡ mode_number mode)
unfolding granted_mode
granted_mode_says n =
    let P : Mode → Type 0 = λ mode. n ≡ mode_number mode in
    chosen n 0 _ _ P (λ same. same) (chosen n 1 _ _ P (λ same. same) (chosen n 2 _ _ P (λ same. same) tt))

grant_says : (bytes : List ℕ) → IsBytes bytes → IfOk (grant_at bytes) (Spelled grant_bytes IsGrant bytes)
unfolding grant_bytes grant_at
grant_says bytes fits =
    let P : Grant × List ℕ → Type 0 = Spelled grant_bytes IsGrant bytes in
    behind_word bytes _ P fits (λ number a _ e a-fits.
    after (granted_mode number) _ (λ mode. number ≡ mode_number mode) P (granted_mode_says number) (λ mode same.
    behind_word a _ P a-fits (λ term b term-fits e1 b-fits.
    behind tag_bytes IsTag b (tag_at b) _ P b-fits (tag_says b b-fits) (λ tag c tag-fits e2 c-fits.
    behind tag_bytes IsTag c (tag_at c) _ P c-fits (tag_says c c-fits) (λ since d since-fits e3 d-fits.
    behind_hyper d _ P d-fits (λ rev f rev-fits e4 f-fits.
    behind_word f _ P f-fits (λ blocks rest blocks-fits e5 _. (
      record { term = term-fits; tag = tag-fits; since = since-fits; rev = rev-fits; blocks = blocks-fits },
      rw (e, same, e1, e2, e3, e4, e5) (simp append_assoc),
    ))))))))

optional_part : {A : Type 0} (part : A → List ℕ) (Fits : A → Type 0) (read : Result (A × List ℕ) Garbage) (there : Bool) (bytes rest : List ℕ)
    → bytes ≡ boolean there ++ rest → IfOk read (Spelled part Fits rest)
    → IfOk (cond there (some_of read) (Ok (None, rest))) (Spelled (optional part) (λ o. IfSome o Fits) bytes)
unfolding optional
optional_part part Fits (Ok x) true bytes rest e says = let e' = says.1 in (says.0, rw (e, e') (simp append_assoc))
optional_part part Fits (Err d) true bytes rest e says = tt
optional_part part Fits read false bytes rest e says = (tt, e)

optional_says : {A : Type 0} (part : A → List ℕ) (Fits : A → Type 0) (part_at : List ℕ → Result (A × List ℕ) Garbage) (bytes : List ℕ) → IsBytes bytes
    → ((rest : List ℕ) → IsBytes rest → IfOk (part_at rest) (Spelled part Fits rest))
    → IfOk (optional_at part_at bytes) (Spelled (optional part) (λ o. IfSome o Fits) bytes)
unfolding optional_at
optional_says part Fits part_at bytes fits says =
    behind boolean (λ _. Unit {0}) bytes (item (boolean_at bytes)) _ (Spelled (optional part) (λ o. IfSome o Fits) bytes) fits
    (item_says boolean (λ _. Unit {0}) (IsBooleanFault bytes) bytes (boolean_at bytes) (boolean_says bytes fits))
    (λ there rest _ e rest-fits. optional_part part Fits (part_at rest) there bytes rest e (says rest rest-fits))

name_of_says : (bytes : List ℕ) → IfOk (name_of bytes) (λ name. IsName name × (bytes ≡ name))
unfolding name_of
name_of_says bytes =
    let P : Result (List ℕ) Garbage → Type 0 = λ read. IfOk read (λ name. IsName name × (bytes ≡ name)) in
    cond_both (is_name bytes) (Ok bytes) (Err garbage) P (λ e. ((name_decides bytes).0 e, refl)) (λ _. tt)

name_says : (bytes : List ℕ) → IsBytes bytes → IfOk (name_at bytes) (Spelled opaque IsName bytes)
unfolding name_at
name_says bytes fits =
    let P : List ℕ × List ℕ → Type 0 = Spelled opaque IsName bytes in
    behind_opaque 64 bytes _ P fits (λ body rest _ e _.
    after (name_of body) _ (λ name. IsName name × (body ≡ name)) P (name_of_says body) (λ name is. (is.0, e ∙ ap (λ (b : List ℕ). opaque b ++ rest) is.1)))

abbrev IsBody : List ℕ → Type 0
IsBody body = length body ≡ 4096

body_says : (bytes : List ℕ) → IsBytes bytes → IfOk (body_at bytes) (Spelled opaque IsBody bytes)
unfolding body_at
body_says bytes fits =
    let P : List ℕ × List ℕ → Type 0 = Spelled opaque IsBody bytes in
    behind_opaque 4096 bytes _ P fits (λ body rest _ e _. chosen (length body) 4096 _ _ P (λ size. (size, e)) tt)

-- ---- requests

-- what is read is a request of the procedure
abbrev Asks : Procedure → List ℕ → Request × List ℕ → Type 0
Asks p bytes x = (procedure_of x.0 ≡ p) × IsRequest x.0 × HasSpelling x.0 × (bytes ≡ arguments x.0 ++ x.1)

if_true : {A : Type 0} (b : Bool) (x : A) (P : A → Type 0) → (b ≡ true → P x) → IfOk (cond (not b) (Err garbage) (Ok x)) P
if_true true x P says = says refl
if_true false x P says = tt

abbrev Span : Type 0
Span = ℕ × ℕ × Option PushBase

one_write : (first last : ℕ) (push : Option PushBase) (rest : List ℕ) (P : Span × List ℕ → Type 0) → (IsOneWrite first last push
    → P ((first, last, push), rest))
    → IfOk (cond (is_none push && not (eqb first last)) (Err garbage) (Ok ((first, last, push), rest))) P
one_write first last None rest P says = if_true (eqb first last) ((first, last, None), rest) P (λ e. says (eqb-true first last e))
one_write first last (Some push) rest P says = says tt

abbrev IsSpan : Span → Type 0
IsSpan s = (s.0 < 2 ^ 64) × (s.1 < 2 ^ 64) × IfSome s.2 IsPushBase × IsOneWrite s.0 s.1 s.2

abbrev span_bytes : Span → List ℕ
span_bytes s = hyper s.0 ++ hyper s.1 ++ optional base_bytes s.2

span_says : (bytes : List ℕ) → IsBytes bytes → IfOk (span_at bytes) (Spelled span_bytes IsSpan bytes)
unfolding span_at
span_says bytes fits =
    let P : Span × List ℕ → Type 0 = Spelled span_bytes IsSpan bytes in
    behind_hyper bytes _ P fits (λ first a first-fits e a-fits.
    behind_hyper a _ P a-fits (λ last b last-fits e1 b-fits.
    behind (optional base_bytes) (λ o. IfSome o IsPushBase) b (optional_at base_at b) _ P b-fits (optional_says base_bytes IsPushBase base_at b b-fits
    base_says) (λ push rest push-fits e2 _.
    one_write first last push rest P (λ one. ((first-fits, last-fits, push-fits, one), rw (e, e1, e2) (simp append_assoc))))))

lookup_says : (bytes : List ℕ) (who : Who) (a : List ℕ) → IsWho who → bytes ≡ head who ++ a → IsBytes a → IfOk (lookup_at who a) (Asks Lookup bytes)
unfolding arguments lookup_at
lookup_says bytes who a who-fits e a-fits =
    let P : Request × List ℕ → Type 0 = Asks Lookup bytes in
    behind opaque IsName a (name_at a) _ P a-fits (name_says a a-fits) (λ name rest name-fits e1 _. (
      refl,
      (who-fits, name-fits),
      tt,
      rw (e, e1) (simp append_assoc),
    ))

create_says : (bytes : List ℕ) (who : Who) (a : List ℕ) → IsWho who → bytes ≡ head who ++ a → IsBytes a → IfOk (create_at who a) (Asks Create bytes)
unfolding arguments create_at
create_says bytes who a who-fits e a-fits =
    let P : Request × List ℕ → Type 0 = Asks Create bytes in
    behind_hyper a _ P a-fits (λ seq b seq-fits e1 b-fits.
    behind opaque IsName b (name_at b) _ P b-fits (name_says b b-fits) (λ name c name-fits e2 c-fits.
    behind_word c _ P c-fits (λ blocks rest blocks-fits e3 _. (
      refl,
      (who-fits, seq-fits, name-fits, blocks-fits),
      tt,
      rw (e, e1, e2, e3)
          (simp append_assoc),
    ))))

get_attr_says : (bytes : List ℕ) (who : Who) (a : List ℕ) → IsWho who → bytes ≡ head who ++ a → IsBytes a → IfOk (get_attr_at who a) (Asks GetAttr bytes)
unfolding arguments get_attr_at
get_attr_says bytes who a who-fits e a-fits =
    let P : Request × List ℕ → Type 0 = Asks GetAttr bytes in
    behind_word a _ P a-fits (λ file rest file-fits e1 _. (refl, (who-fits, file-fits), tt, rw (e, e1) (simp append_assoc)))

-- a want that is there has a spelling
wants : (o : Option Want) → IfSome o IsSpelledWant → IfSome o IsWant × IfSome o (λ w. IsWanted w.mode)
wants None fits = (tt, tt)
wants (Some want) fits = fits

read_says : (bytes : List ℕ) (who : Who) (a : List ℕ) → IsWho who → bytes ≡ head who ++ a → IsBytes a → IfOk (read_at who a) (Asks Read bytes)
unfolding arguments read_at
read_says bytes who a who-fits e a-fits =
    let P : Request × List ℕ → Type 0 = Asks Read bytes in
    behind_hyper a _ P a-fits (λ call b call-fits e1 b-fits.
    behind_word b _ P b-fits (λ file c file-fits e2 c-fits.
    behind_word c _ P c-fits (λ block d block-fits e3 d-fits.
    behind (optional want_bytes) (λ o. IfSome o IsSpelledWant) d (optional_at want_at d) _ P d-fits (optional_says want_bytes IsSpelledWant want_at d
    d-fits want_says) (λ want rest want-fits e4 _.
    let w = wants want want-fits in (refl, (who-fits, call-fits, file-fits, block-fits, w.0), w.1, rw (e, e1, e2, e3, e4) (simp append_assoc))))))

write_says : (bytes : List ℕ) (who : Who) (a : List ℕ) → IsWho who → bytes ≡ head who ++ a → IsBytes a → IfOk (write_at who a) (Asks Write bytes)
unfolding arguments write_at
write_says bytes who a who-fits e a-fits =
    let P : Request × List ℕ → Type 0 = Asks Write bytes in
    behind_hyper a _ P a-fits (λ seq b seq-fits e1 b-fits.
    behind_word b _ P b-fits (λ file c file-fits e2 c-fits.
    behind_word c _ P c-fits (λ block d block-fits e3 d-fits.
    behind span_bytes IsSpan d (span_at d) _ P d-fits (span_says d d-fits) (λ span f span-fits e4 f-fits.
    behind opaque IsBody f (body_at f) _ P f-fits (body_says f f-fits) (λ body rest size e5 _. (
      refl,
      (who-fits, seq-fits, file-fits, block-fits, span-fits.0, span-fits.1, span-fits.2, size),
      span-fits.3,
      rw (e, e1, e2, e3, e4, e5) (simp append_assoc),
    ))))))

get_lease_says : (bytes : List ℕ) (who : Who) (a : List ℕ) → IsWho who → bytes ≡ head who ++ a → IsBytes a → IfOk (get_lease_at who a) (Asks GetLease bytes)
unfolding arguments get_lease_at
get_lease_says bytes who a who-fits e a-fits =
    let P : Request × List ℕ → Type 0 = Asks GetLease bytes in
    behind_word a _ P a-fits (λ file b file-fits e1 b-fits.
    behind want_bytes IsSpelledWant b (want_at b) _ P b-fits (want_says b b-fits) (λ want rest want-fits e2 _.
    (refl, (who-fits, file-fits, want-fits.0), want-fits.1, rw (e, e1, e2) (simp append_assoc))))

vacated_says : (bytes : List ℕ) (who : Who) (a : List ℕ) → IsWho who → bytes ≡ head who ++ a → IsBytes a → IfOk (vacated_at who a) (Asks Vacated bytes)
unfolding arguments vacated_at
vacated_says bytes who a who-fits e a-fits =
    let P : Request × List ℕ → Type 0 = Asks Vacated bytes in
    behind_word a _ P a-fits (λ file b file-fits e1 b-fits.
    behind tag_bytes IsTag b (tag_at b) _ P b-fits (tag_says b b-fits) (λ tag rest tag-fits e2 _. (
      refl,
      (who-fits, file-fits, tag-fits),
      tt,
      rw (e, e1, e2) (simp append_assoc),
    )))

evicted_says : (bytes : List ℕ) (who : Who) (a : List ℕ) → IsWho who → bytes ≡ head who ++ a → IsBytes a → IfOk (evicted_at who a) (Asks Evicted bytes)
unfolding arguments evicted_at
evicted_says bytes who a who-fits e a-fits =
    let P : Request × List ℕ → Type 0 = Asks Evicted bytes in
    behind_word a _ P a-fits (λ file b file-fits e1 b-fits.
    behind tag_bytes IsTag b (tag_at b) _ P b-fits (tag_says b b-fits) (λ tag rest tag-fits e2 _. (
      refl,
      (who-fits, file-fits, tag-fits),
      tt,
      rw (e, e1, e2) (simp append_assoc),
    )))

resize_says : (bytes : List ℕ) (who : Who) (a : List ℕ) → IsWho who → bytes ≡ head who ++ a → IsBytes a → IfOk (resize_at who a) (Asks Resize bytes)
unfolding arguments resize_at
resize_says bytes who a who-fits e a-fits =
    let P : Request × List ℕ → Type 0 = Asks Resize bytes in
    behind_hyper a _ P a-fits (λ seq b seq-fits e1 b-fits.
    behind_hyper b _ P b-fits (λ call c call-fits e2 c-fits.
    behind_word c _ P c-fits (λ file d file-fits e3 d-fits.
    behind_word d _ P d-fits (λ blocks rest blocks-fits e4 _.
    (refl, (who-fits, seq-fits, call-fits, file-fits, blocks-fits), tt, rw (e, e1, e2, e3, e4) (simp append_assoc))))))

remove_says : (bytes : List ℕ) (who : Who) (a : List ℕ) → IsWho who → bytes ≡ head who ++ a → IsBytes a → IfOk (remove_at who a) (Asks Remove bytes)
unfolding arguments remove_at
remove_says bytes who a who-fits e a-fits =
    let P : Request × List ℕ → Type 0 = Asks Remove bytes in
    behind_hyper a _ P a-fits (λ seq b seq-fits e1 b-fits.
    behind_hyper b _ P b-fits (λ call c call-fits e2 c-fits.
    behind_word c _ P c-fits (λ file rest file-fits e3 _. (refl, (who-fits, seq-fits, call-fits, file-fits), tt, rw (e, e1, e2, e3) (simp append_assoc)))))

-- what follows who asks
arguments_say : (p : Procedure) (bytes : List ℕ) (who : Who) (a : List ℕ) → IsWho who → bytes ≡ head who ++ a → IsBytes a
    → IfOk (arguments_at p who a) (Asks p bytes)
unfolding arguments
arguments_say Null bytes who a who-fits e a-fits = tt
arguments_say Attach bytes who a who-fits e a-fits = (refl, who-fits, tt, e)
arguments_say Lookup bytes who a who-fits e a-fits = lookup_says bytes who a who-fits e a-fits
arguments_say Create bytes who a who-fits e a-fits = create_says bytes who a who-fits e a-fits
arguments_say GetAttr bytes who a who-fits e a-fits = get_attr_says bytes who a who-fits e a-fits
arguments_say Read bytes who a who-fits e a-fits = read_says bytes who a who-fits e a-fits
arguments_say Write bytes who a who-fits e a-fits = write_says bytes who a who-fits e a-fits
arguments_say GetLease bytes who a who-fits e a-fits = get_lease_says bytes who a who-fits e a-fits
arguments_say Vacated bytes who a who-fits e a-fits = vacated_says bytes who a who-fits e a-fits
arguments_say Evicted bytes who a who-fits e a-fits = evicted_says bytes who a who-fits e a-fits
arguments_say Resize bytes who a who-fits e a-fits = resize_says bytes who a who-fits e a-fits
arguments_say Remove bytes who a who-fits e a-fits = remove_says bytes who a who-fits e a-fits

asked_says : (p : Procedure) (bytes : List ℕ) → IsBytes bytes → IfOk (asked_at p bytes) (Asks p bytes)
unfolding asked_at
asked_says p bytes fits = behind head IsWho bytes (head_at bytes) _ (Asks p bytes) fits (head_says bytes fits) (λ who a who-fits e a-fits.
    arguments_say p bytes who a who-fits e a-fits)

request_says : (p : Procedure) (bytes : List ℕ) → IsBytes bytes → IfOk (request_at p bytes) (Asks p bytes)
unfolding arguments
request_says Null bytes fits = (refl, tt, tt, refl)
request_says Attach bytes fits = asked_says Attach bytes fits
request_says Lookup bytes fits = asked_says Lookup bytes fits
request_says Create bytes fits = asked_says Create bytes fits
request_says GetAttr bytes fits = asked_says GetAttr bytes fits
request_says Read bytes fits = asked_says Read bytes fits
request_says Write bytes fits = asked_says Write bytes fits
request_says GetLease bytes fits = asked_says GetLease bytes fits
request_says Vacated bytes fits = asked_says Vacated bytes fits
request_says Evicted bytes fits = asked_says Evicted bytes fits
request_says Resize bytes fits = asked_says Resize bytes fits
request_says Remove bytes fits = asked_says Remove bytes fits

pub arguments_read : (p : Procedure) (n : ℕ) (r : Request) (bytes start rest : List ℕ) → IsBytes bytes
    → number_of p ≡ n → start ≡ bytes → request_at p start ≡ Ok (r, rest) → rest ≡ [] → IsArguments n r bytes
arguments_read p n r bytes start rest fits number same read none =
    let P : Result (Request × List ℕ) Garbage → Type 0 = λ read. IfOk read (Asks p start) in
    let says : Asks p start (r, rest) = subst P read (request_says p start (subst IsBytes (sym same) fits)) in
    record {
      procedure_is = ap number_of says.0 ∙ number;
      value_fits = says.1;
      has_spelling = says.2;
      bytes_are = sym same ∙ says.3 ∙ ap (λ (x : List ℕ). arguments r ++ x) none ∙ append-nil (arguments r);
    }

-- ---- replies

-- what is read is a reply to the procedure
abbrev Tells : Procedure → List ℕ → Reply × List ℕ → Type 0
Tells p bytes x = Answers x.0 p × IsReply x.0 × (bytes ≡ results x.0 ++ x.1)

-- what follows the incarnation and the status OK
results_say : (p : Procedure) (inc : ℕ) (start bytes : List ℕ) → inc < 2 ^ 32 → start ≡ ok inc ++ bytes → IsBytes bytes
    → IfOk (results_at p inc bytes) (Tells p start)
unfolding results found_at created_at attributes_at block_at written_at lease_at resized_at
results_say Null inc start bytes inc-fits e fits = tt
results_say Attach inc start bytes inc-fits e fits = (refl, inc-fits, e)
results_say Lookup inc start bytes inc-fits e fits =
    let P : Reply × List ℕ → Type 0 = Tells Lookup start in
    behind_word bytes _ P fits (λ file a file-fits e1 a-fits.
    behind_word a _ P a-fits (λ blocks rest blocks-fits e2 _. (refl, (inc-fits, file-fits, blocks-fits), rw (e, e1, e2) (simp append_assoc))))
results_say Create inc start bytes inc-fits e fits =
    behind_word bytes _ (Tells Create start) fits (λ file rest file-fits e1 _. (refl, (inc-fits, file-fits), rw (e, e1) (simp append_assoc)))
results_say GetAttr inc start bytes inc-fits e fits =
    let P : Reply × List ℕ → Type 0 = Tells GetAttr start in
    behind_word bytes _ P fits (λ blocks a blocks-fits e1 a-fits.
    behind_hyper a _ P a-fits (λ rev rest rev-fits e2 _. (refl, (inc-fits, blocks-fits, rev-fits), rw (e, e1, e2) (simp append_assoc))))
results_say Read inc start bytes inc-fits e fits =
    let P : Reply × List ℕ → Type 0 = Tells Read start in
    behind_hyper bytes _ P fits (λ rev a rev-fits e1 a-fits.
    behind opaque IsBody a (body_at a) _ P a-fits (body_says a a-fits) (λ body b size e2 b-fits.
    behind (optional grant_bytes) (λ o. IfSome o IsGrant) b (optional_at grant_at b) _ P b-fits (optional_says grant_bytes IsGrant grant_at b b-fits
    grant_says) (λ grant rest grant-fits e3 _.
    (refl, (inc-fits, rev-fits, size, grant-fits), rw (e, e1, e2, e3) (simp append_assoc)))))
results_say Write inc start bytes inc-fits e fits =
    behind_hyper bytes _ (Tells Write start) fits (λ rev rest rev-fits e1 _. (refl, (inc-fits, rev-fits), rw (e, e1) (simp append_assoc)))
results_say GetLease inc start bytes inc-fits e fits =
    behind (optional grant_bytes) (λ o. IfSome o IsGrant) bytes (optional_at grant_at bytes) _ (Tells GetLease start) fits (optional_says grant_bytes
    IsGrant grant_at bytes fits grant_says)
    (λ grant rest grant-fits e1 _. (refl, (inc-fits, grant-fits), rw (e, e1) (simp append_assoc)))
results_say Vacated inc start bytes inc-fits e fits = tt
results_say Evicted inc start bytes inc-fits e fits = tt
results_say Resize inc start bytes inc-fits e fits =
    behind_hyper bytes _ (Tells Resize start) fits (λ rev rest rev-fits e1 _. (refl, (inc-fits, rev-fits), rw (e, e1) (simp append_assoc)))
results_say Remove inc start bytes inc-fits e fits = (refl, inc-fits, e)

refusal_says : (n : ℕ) → IfOk (refusal_of n) (λ status. n ≡ status_number status)
unfolding refusal_of
refusal_says n =
    let P : Refusal → Type 0 = λ status. n ≡ status_number status in
    chosen n 2 _ _ P (λ same. same) (chosen n 17 _ _ P (λ same. same) (chosen n 22 _ _ P (λ same. same) (chosen n 28 _ _ P (λ same. same)
    (chosen n 70 _ _ P (λ same. same)
    (chosen n 501 _ _ P (λ same. same) (chosen n 502 _ _ P (λ same. same) (chosen n 503 _ _ P (λ same. same) (chosen n 504 _ _ P (λ same. same) tt))))))))

answer_says : (p : Procedure) (bytes : List ℕ) → IsBytes bytes → IsRefusable p → IfOk (answer_at p bytes) (Tells p bytes)
unfolding answer_at ok results
answer_says p bytes fits is =
    let P : Reply × List ℕ → Type 0 = Tells p bytes in
    behind_word bytes _ P fits (λ inc a inc-fits e a-fits.
    behind_word a _ P a-fits (λ status b _ e1 b-fits.
    chosen status 0 _ _ P (λ same. results_say p inc bytes b inc-fits (rw (e, e1, same) (simp append_assoc)) b-fits)
    (after (refusal_of status) _ (λ refusal. status ≡ status_number refusal) P (refusal_says status) (λ refusal same.
    (is, inc-fits, rw (e, e1, same) (simp append_assoc))))))

reply_says : (p : Procedure) (bytes : List ℕ) → IsBytes bytes → IfOk (reply_at p bytes) (Tells p bytes)
unfolding results
reply_says Null bytes fits = (refl, tt, refl)
reply_says Attach bytes fits = answer_says Attach bytes fits tt
reply_says Lookup bytes fits = answer_says Lookup bytes fits tt
reply_says Create bytes fits = answer_says Create bytes fits tt
reply_says GetAttr bytes fits = answer_says GetAttr bytes fits tt
reply_says Read bytes fits = answer_says Read bytes fits tt
reply_says Write bytes fits = answer_says Write bytes fits tt
reply_says GetLease bytes fits = answer_says GetLease bytes fits tt
reply_says Vacated bytes fits = tt
reply_says Evicted bytes fits = tt
reply_says Resize bytes fits = answer_says Resize bytes fits tt
reply_says Remove bytes fits = answer_says Remove bytes fits tt

pub results_read : (p : Procedure) (n : ℕ) (r : Reply) (bytes start rest : List ℕ) → IsBytes bytes
    → number_of p ≡ n → start ≡ bytes → reply_at p start ≡ Ok (r, rest) → rest ≡ [] → IsResults n r bytes
results_read p n r bytes start rest fits number same read none =
    let P : Result (Reply × List ℕ) Garbage → Type 0 = λ read. IfOk read (Tells p start) in
    let says : Tells p start (r, rest) = subst P read (reply_says p start (subst IsBytes (sym same) fits)) in
    record {
      procedure = p;
      procedure_is = number;
      answers = says.0;
      value_fits = says.1;
      bytes_are = sym same ∙ says.2 ∙ ap (λ (x : List ℕ). results r ++ x) none ∙ append-nil (results r);
    }
