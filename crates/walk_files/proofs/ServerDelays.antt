-- The server delays no write.
use Rattle.std.proofs.Common.{◌≡◌, ℕ, List, [], ◌∷◌, ◌++◌, Option, Some, None, refl, ◌∙◌}
use Rattle.std.specs.Option.{option_or}
use Rattle.nq_base.specs.declared.Entry.{Entry}
use Rattle.nq_base.specs.declared.Who.{Who}
use Rattle.nq_model.specs.laws.Journal.{Each}
use Rattle.nq_model.specs.protocol.Message.{Datagram}
use Rattle.nq_model.specs.protocol.Server.{Server}
use Rattle.nq_model.specs.protocol.ServerStep.{receive, tick, crash}
use Rattle.nq_model.specs.laws.Contents.{delayed_by, delayed_value}
use Rattle.walk_steps.proofs.ServerEntries.{OfServer, receive-each, tick-each}

-- an entry that delays no write
abbrev pub DelaysNone : Entry → Type 0
DelaysNone e = (w : Who) (file block n : ℕ) → delayed_by e w file block n ≡ None

abbrev pub Never : List Entry → Type 0
Never entries = Each DelaysNone entries

pub never-delayed : (es j : List Entry) (w : Who) (file block n : ℕ) → Never es → delayed_value (es ++ j) w file block n ≡ delayed_value j w file block n
never-delayed [] j w file block n h = refl
never-delayed (e ∷ es) j w file block n h = rw (h.0 w file block n) (or-none (delayed_value (es ++ j) w file block n) ∙ never-delayed es j w file block n h.1)
  where
    or-none : (o : Option ℕ) → option_or o None ≡ o
    or-none None = refl
    or-none (Some v) = refl

never : OfServer DelaysNone
never = record {
  served = λ who q file block value packet w f b n. refl;
  granted = λ who file mode tag term now w f b n. refl;
  wrote = λ who file block number value w f b n. refl;
  stored = λ who file block first last now w f b n. refl;
  resized = λ who q file before after w f b n. refl;
  fenced = λ who file until heard now w f b n. refl;
  opened = λ boot until heard now w f b n. refl;
}

pub receive-never : (s : Server) (sender next : ℕ) (d : Datagram) → Never (receive s sender next d).entries
receive-never s sender next d = receive-each DelaysNone never s sender next d

pub tick-never : (s : Server) (now : ℕ) → Never (tick s now).entries
tick-never s now = tick-each DelaysNone never s now

pub crash-never : (s : Server) (longest : ℕ) → Never (crash s longest).entries
unfolding crash
crash-never s longest = (λ w file b n. refl, tt)
