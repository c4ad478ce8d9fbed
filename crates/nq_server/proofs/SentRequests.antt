-- Requests by their sender.
use Rattle.std.proofs.Common.{◌≡◌, ◌<◌, ℕ, ◌==◌, ◌&&◌, Bool, true, false, if◌then◌else◌, Some, refl, arith}
use Rattle.std.specs.Prelude.{nat_lt}
use Rattle.std.proofs.lemmas.Bool.Decides.{nat_tests}
use Rattle.nq_base.specs.declared.Request.{Request}
use Rattle.nq_base.specs.declared.Who.{Who}
use Rattle.nq_model.specs.protocol.Kept.{host_row}
use Rattle.nq_model.specs.protocol.Message.{wrong_host}
use Rattle.nq_model.specs.protocol.Profile.{most_hosts}
use Rattle.nq_model.specs.protocol.Server.{Server, drops}
use Rattle.nq_model.specs.protocol.ServerStep.{admit, answer_request}

pub same-host : (host sender : ℕ) → (host == sender && nat_lt host most_hosts) ≡ true → host ≡ sender
same-host host sender h = grind (arith, nat_tests)

pub known-host : (host sender : ℕ) → (host == sender && nat_lt host most_hosts) ≡ true → host < most_hosts
known-host host sender h = grind (arith, nat_tests)

otherwise : {A : Type 0} (b : Bool) (x y : A) → b ≡ false → (if b then x else y) ≡ y
otherwise true x y e = absurd (cc)
otherwise false x y e = refl

-- one of another host is dropped
pub answers-nobody : (s : Server) (sender xid next : ℕ) (r : Request) (who : Who) → (who.host == sender && nat_lt who.host most_hosts) ≡ false
    → answer_request s sender xid next r (Some who) ≡ drops s wrong_host
answers-nobody s sender xid next r who h =
    otherwise (who.host == sender && nat_lt who.host most_hosts) (admit s who xid next r (host_row s.kept who.host)) (drops s wrong_host) h
