-- What came so far stays part of one stored file.
use Rattle.std.proofs.Common.{◌≡◌, ◌≢◌, ℕ, ◌+◌, ◌*◌, Bool, true, false, nat_le, nat_lt, List, [], ◌++◌, Option, Some, None, length, take, ◌∷◌, if◌then◌else◌, refl, sym, subst, ap, ◌∙◌, suc, arith}
use Rattle.std.proofs.lemmas.Bool.Decides.{nat_tests}
use Rattle.nq_base.specs.declared.Answer.{Answer}
use Rattle.nq_whole.specs.Pieces.{joined_pieces, piece_of}
use Rattle.nq_whole.proofs.Joining.{whole}
use Rattle.nq_whole.specs.Getting.{GetStep, Gets, Gives, HasPartAt, IsLawfulAt, IsStored, KeepsPart, found, get_at, headed}
use Rattle.nq_whole.specs.Getting.{AreLawful, Takes, gets_after}
use Rattle.nq_whole.specs.Answers.{body_in, is_gone}
use Rattle.nq_whole.specs.Getting.{missed, reached, read_on, told}
use Rattle.nq_whole.specs.Heads.{head_in}
use Rattle.nq_whole.specs.declared.getting.GettingSays.{GettingSays}
use Rattle.nq_whole.specs.declared.getting.Stage.{Stage}
use Rattle.nq_whole.specs.declared.heads.FileHead.{FileHead}

-- what is got at the end of a step is part of a stored file
abbrev IsKept : (stored : ℕ → Option (List ℕ)) → GetStep → Type 0
IsKept stored step = HasPartAt stored step.gets.stage step.gets.bytes

choice : (stored : ℕ → Option (List ℕ)) (test : Bool) (one other : GetStep) → (test ≡ true → IsKept stored one)
    → (test ≡ false → IsKept stored other) → IsKept stored (if test then one else other)
choice stored true one other is so = is refl
choice stored false one other is so = so refl

-- all bytes of a file are its pieces, cut to its length
all-bytes : (size place : ℕ) (bytes file : List ℕ) → length file ≡ size → nat_le size (4096 * place) ≡ true → bytes ≡ joined_pieces place file
    → take size bytes ≡ file
all-bytes size place bytes file long enough are =
    ap (take size) are ∙ ap (λ n. take n (joined_pieces place file)) (sym long) ∙ whole place file (grind (arith, nat_tests))

reached-keeps : (stored : ℕ → Option (List ℕ)) (head : FileHead) (place : ℕ) (bytes name file : List ℕ)
    → IsStored stored head file → bytes ≡ joined_pieces place file → IsKept stored (reached head place bytes name)
unfolding reached
reached-keeps stored head place bytes name file is are =
    choice stored (nat_le head.size (4096 * place)) _ _
    (λ enough. let all = all-bytes head.size place bytes file is.size enough are in
    record { has = is.has ∙ ap Some (sym all); size = ap length all ∙ is.size })
    (λ more. (file, is, are))

found-keeps : (stored : ℕ → Option (List ℕ)) (at : Option ℕ) (g : Gets) → HasPartAt stored g.stage g.bytes → IsKept stored (found at g)
found-keeps stored None g has = has
found-keeps stored (Some file) g has = tt

told-keeps : (stored : ℕ → Option (List ℕ)) (head : Option FileHead) (g : Gets) → HasPartAt stored g.stage g.bytes
    → ((h : FileHead) → head ≡ Some h → (bytes : List ℕ) × IsStored stored h bytes) → IsKept stored (told head g)
told-keeps stored None g has is = has
told-keeps stored (Some head) g has is = let stands = is head refl in reached-keeps stored head 0 [] g.name stands.0 stands.1 refl

missed-keeps : (stored : ℕ → Option (List ℕ)) (gone : Bool) (g : Gets) → HasPartAt stored g.stage g.bytes → IsKept stored (missed gone g)
missed-keeps stored true g has = tt
missed-keeps stored false g has = has

headed-keeps : (stored : ℕ → Option (List ℕ)) (file : ℕ) (body : Option (List ℕ)) (answer : Answer) (g : Gets)
    → HasPartAt stored g.stage g.bytes → IsLawfulAt stored (Stage.Heading file) body → IsKept stored (headed body answer g)
headed-keeps stored file None answer g has lawful = missed-keeps stored (is_gone answer) g has
headed-keeps stored file (Some body) answer g has lawful = told-keeps stored (head_in body) g has lawful

one-more : (place : ℕ) (bytes file body : List ℕ) → bytes ≡ joined_pieces place file → body ≡ piece_of place file
    → bytes ++ body ≡ joined_pieces (place + 1) file
one-more place bytes file body are is =
    ap (λ b. b ++ body) are ∙ ap (λ b. joined_pieces place file ++ b) is ∙ ap (λ n. joined_pieces n file) (next place)
  where
    next : (n : ℕ) → suc n ≡ n + 1
    next n = omega arith

read-keeps : (stored : ℕ → Option (List ℕ)) (body : Option (List ℕ)) (answer : Answer) (head : FileHead) (place : ℕ) (g : Gets)
    → ((file : List ℕ) × IsStored stored head file × (g.bytes ≡ joined_pieces place file)) → HasPartAt stored g.stage g.bytes
    → IsLawfulAt stored (Stage.Reading head place) body → IsKept stored (read_on body answer head place g)
read-keeps stored None answer head place g part has lawful = missed-keeps stored (is_gone answer) g has
read-keeps stored (Some body) answer head place g part has lawful =
    choice stored (nat_lt place 1024) _ _
    (λ few. reached-keeps stored head (place + 1) (g.bytes ++ body) g.name part.0 part.1
    (one-more place g.bytes part.0 body part.2 (lawful part.0 part.1.has)))
    (λ many. has)

stage-keeps : (stored : ℕ → Option (List ℕ)) (stage : Stage) (answer : Answer) (g : Gets) → HasPartAt stored stage g.bytes
    → HasPartAt stored g.stage g.bytes → IsLawfulAt stored stage (body_in answer) → IsKept stored (get_at stage answer g)
stage-keeps stored Stage.Finding answer g part has lawful = found-keeps stored _ g has
stage-keeps stored (Stage.Heading file) answer g part has lawful = headed-keeps stored file (body_in answer) answer g has lawful
stage-keeps stored (Stage.Reading head place) answer g part has lawful =
    read-keeps stored (body_in answer) answer head place g part has lawful
stage-keeps stored (Stage.Whole head) answer g part has lawful = has

given : (said : GettingSays) (answer : Answer) (old new : Gets) → get_at old.stage answer old ≡ record { said = said; gets = new }
    → KeepsPart answer old new
given said answer old new is = λ stored lawful has.
    subst (λ (step : GetStep). IsKept stored step) is (stage-keeps stored old.stage answer old has has lawful)

-- what came so far stays part of one stored file
pub keeps : (said : GettingSays) (answer : Answer) (old new : Gets) → Gives said answer old new → KeepsPart answer old new
keeps GettingSays.Goes answer old new gives = given GettingSays.Goes answer old new gives
keeps GettingSays.Anew answer old new gives = given GettingSays.Anew answer old new gives
keeps GettingSays.Done answer old new gives = given GettingSays.Done answer old new gives
keeps GettingSays.Refused answer old new gives = given GettingSays.Refused answer old new gives
keeps GettingSays.NotWhole answer old new gives = given GettingSays.NotWhole answer old new gives
keeps GettingSays.Memory answer old new gives = λ stored lawful has. subst (λ (g : Gets). HasPartAt stored g.stage g.bytes) (sym gives) has

-- a step that does not want memory
pub lifts : (said : GettingSays) (step : GetStep) (old new : Gets) → step ≡ record { said = said; gets = new } → said ≢ GettingSays.Memory
    → Takes said step old new
lifts GettingSays.Goes step old new is never = is
lifts GettingSays.Anew step old new is never = is
lifts GettingSays.Done step old new is never = is
lifts GettingSays.Refused step old new is never = is
lifts GettingSays.NotWhole step old new is never = is
lifts GettingSays.Memory step old new is never = absurd (never refl)

-- whatever lawful answers come, what is there is part of one stored file
pub runs : (stored : ℕ → Option (List ℕ)) (answers : List Answer) (g : Gets) → HasPartAt stored g.stage g.bytes → AreLawful stored answers g
    → HasPartAt stored (gets_after answers g).stage (gets_after answers g).bytes
runs stored [] g has lawful = has
runs stored (answer ∷ answers) g has lawful =
    runs stored answers (get_at g.stage answer g).gets (stage-keeps stored g.stage answer g has has lawful.0) lawful.1
