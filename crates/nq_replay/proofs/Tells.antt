-- Entries of calls and boots that version 1 has.
use Rattle.std.proofs.Common.{◌≡◌, List, [], ◌∷◌, ◌++◌}
use Rattle.nq_base.specs.declared.Entry.{Entry}
use Rattle.nq_script.specs.Forms.{HasTold}
use Rattle.nq_model.specs.laws.Journal.{Each}
use Rattle.walk_steps.proofs.ClientEntries.{AnyCall, AnyLength, OfClient}
use Rattle.walk_steps.proofs.ServerEntries.{OfServer}

-- where the entry is a call or a boot, version 1 has it
abbrev pub Tells : Entry → Type 0
Tells (Entry.C who q told) = HasTold 1 told
Tells (Entry.X boot now longest) = longest ≡ 60
Tells other = Unit {0}

abbrev pub AllTell : List Entry → Type 0
AllTell entries = Each Tells entries

pub tell-more : (entries journal : List Entry) → AllTell entries → AllTell journal → AllTell (entries ++ journal)
tell-more [] journal h k = k
tell-more (e ∷ entries) journal h k = (h.0, tell-more entries journal h.1 k)

-- a server makes none of them, but where it boots
pub server-tells : OfServer Tells
server-tells = record {
  served = λ who q file block value packet. tt;
  granted = λ who file mode tag term now. tt;
  wrote = λ who file block number value. tt;
  stored = λ who file block first last now. tt;
  resized = λ who q file before after. tt;
  fenced = λ who file until heard now. tt;
  opened = λ boot until heard now. tt;
}

-- nor a client, but the call that is made
pub client-tells : OfClient AnyCall AnyLength AllTell
client-tells = record {
  answered = λ who q said before plain h. (tt, h);
  outside = λ who q op before past goes h. (tt, h);
  read = λ who q file block value before h. (tt, (tt, h));
  delayed = λ who file block number value before h. (tt, h);
  lost = λ who file block first last before h. (tt, h);
}
