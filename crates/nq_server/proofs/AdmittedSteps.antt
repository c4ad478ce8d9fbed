-- Requests by the incarnation that is attached.
use Rattle.std.proofs.Common.{◌≡◌, ℕ, Bool, true, false, if◌then◌else◌, refl, ap}
use Rattle.std.specs.Prelude.{nat_lt}
use Rattle.nq_base.specs.declared.HostRow.{HostRow}
use Rattle.nq_base.specs.declared.Request.{Request}
use Rattle.nq_base.specs.declared.Request.TheVariants.{Null, Attach, Lookup, Create, GetAttr, Read, Write, GetLease, Vacated, Evicted, Resize, Remove}
use Rattle.nq_base.specs.declared.Tag.{Tag}
use Rattle.nq_base.specs.declared.Who.{Who}
use Rattle.nq_model.specs.protocol.Decided.{is_decided_once}
use Rattle.nq_model.specs.protocol.Message.{old_incarnation}
use Rattle.nq_model.specs.protocol.Server.{Server, serving, drops, quiet, says}
use Rattle.nq_model.specs.protocol.ServerStep.{admit, attach, is_attach, look, not_attached, perform}

not-attach : (r : Request) → is_decided_once r ≡ false → is_attach r ≡ false
not-attach (Attach who) h = absurd (cc)
not-attach other h = refl

second-of : {A : Type 0} (a b c : Bool) (w x y z : A) → a ≡ false → b ≡ true → (if a then w else (if b then x else (if c then y else z))) ≡ x
second-of true b c w x y z e f = absurd (cc)
second-of false true c w x y z e f = refl
second-of false false c w x y z e f = absurd (cc)

third-of : {A : Type 0} (a b c : Bool) (w x y z : A) → a ≡ false → b ≡ false → c ≡ true → (if a then w else (if b then x else (if c then y else z))) ≡ y
third-of true b c w x y z e f g = absurd (cc)
third-of false true c w x y z e f g = absurd (cc)
third-of false false true w x y z e f g = refl
third-of false false false w x y z e f g = absurd (cc)

last-of : {A : Type 0} (a b c : Bool) (w x y z : A) → a ≡ false → b ≡ false → c ≡ false → (if a then w else (if b then x else (if c then y else z))) ≡ z
last-of true b c w x y z e f g = absurd (cc)
last-of false true c w x y z e f g = absurd (cc)
last-of false false true w x y z e f g = absurd (cc)
last-of false false false w x y z e f g = refl

module _ (s : Server) (who : Who) (xid next : ℕ) (r : Request) (line : HostRow) (other : is_decided_once r ≡ false) where
  pub admits-old : nat_lt who.inc line.inc ≡ true → admit s who xid next r line ≡ drops s old_incarnation
  admits-old old =
      second-of (is_attach r) (nat_lt who.inc line.inc) (nat_lt line.inc who.inc) (attach s who xid line) (drops s old_incarnation)
      (not_attached s who xid r) (perform s who xid next line r) (not-attach r other) old

  pub admits-new : nat_lt who.inc line.inc ≡ false → nat_lt line.inc who.inc ≡ true → admit s who xid next r line ≡ not_attached s who xid r
  admits-new young new =
      third-of (is_attach r) (nat_lt who.inc line.inc) (nat_lt line.inc who.inc) (attach s who xid line) (drops s old_incarnation)
      (not_attached s who xid r) (perform s who xid next line r) (not-attach r other) young new

  pub admits-same : nat_lt who.inc line.inc ≡ false → nat_lt line.inc who.inc ≡ false → admit s who xid next r line ≡ perform s who xid next line r
  admits-same young known =
      last-of (is_attach r) (nat_lt who.inc line.inc) (nat_lt line.inc who.inc) (attach s who xid line) (drops s old_incarnation)
      (not_attached s who xid r) (perform s who xid next line r) (not-attach r other) young known

-- one who is not attached changes nothing
pub stranger-keeps : (s : Server) (who : Who) (xid : ℕ) (r : Request) → (not_attached s who xid r).server.kept ≡ s.kept
unfolding quiet says
stranger-keeps s who xid (Vacated w file tag) = refl
stranger-keeps s who xid other = refl

-- while the server serves, a request that is not decided once and gives nothing up is looked at
pub looks-served : (s : Server) (who : Who) (xid next : ℕ) (line : HostRow) (r : Request) → is_decided_once r ≡ false
    → ((w : Who) (file : ℕ) (tag : Tag) → r ≡ Vacated w file tag → ⊥) → s.phase ≡ serving → perform s who xid next line r ≡ look s serving who xid next r
looks-served s who xid next line Null other given is = refl
looks-served s who xid next line (Evicted w file tag) other given is = refl
looks-served s who xid next line (Lookup w name) other given is = ap (λ p. look s p who xid next (Lookup w name)) is
looks-served s who xid next line (GetAttr w file) other given is = ap (λ p. look s p who xid next (GetAttr w file)) is
looks-served s who xid next line (Read w q file block want) other given is = ap (λ p. look s p who xid next (Read w q file block want)) is
looks-served s who xid next line (GetLease w file want) other given is = ap (λ p. look s p who xid next (GetLease w file want)) is
looks-served s who xid next line (Vacated w file tag) other given is = absurd (given w file tag refl)
looks-served s who xid next line (Attach w) other given is = absurd (cc)
looks-served s who xid next line (Create w seq name blocks) other given is = absurd (cc)
looks-served s who xid next line (Write w seq file block first last push body) other given is = absurd (cc)
looks-served s who xid next line (Resize w seq q file blocks) other given is = absurd (cc)
looks-served s who xid next line (Remove w seq q file) other given is = absurd (cc)
