-- What lines at a prompt say.
use Rattle.std.specs.Prelude.{◌≡◌, ℕ, List, [], ◌∷◌, codes}
use Rattle.nq_base.specs.Name.{IsName}
use Rattle.nq_base.specs.declared.Call.{Call}
use Rattle.nq_command.specs.declared.prompt.lines.PromptLine.{PromptLine}
use Rattle.nq_script.specs.Calls.{SpellsCall}
use Rattle.nq_script.specs.WordsReading.{words_of}

-- a line tells to store a file of the machine under a name
abbrev pub TellsToStore : (path name text : List ℕ) → Type 0
TellsToStore path name text = IsName name × (words_of text ≡ codes "store" ∷ path ∷ name ∷ [])

-- a line tells to get the file of a name, as a file of the machine
abbrev pub TellsToGet : (name path text : List ℕ) → Type 0
TellsToGet name path text = IsName name × (words_of text ≡ codes "get" ∷ name ∷ path ∷ [])

-- a line tells neither
pub record NamesNoFile (text : List ℕ) : Type 0 where
  pub none_stored : (path name : List ℕ) → TellsToStore path name text → ⊥
  pub none_got : (path name : List ℕ) → TellsToGet name path text → ⊥

-- a line that says nothing that can be done
pub record SaysNothing (text : List ℕ) : Type 0 where
  pub something : text ≡ [] → ⊥
  pub no_help : text ≡ codes "help" → ⊥
  pub no_quit : text ≡ codes "quit" → ⊥
  pub no_end : text ≡ codes "end" → ⊥
  pub no_call : (call : Call) → SpellsCall 2 call text → ⊥
  pub no_file : NamesNoFile text

-- what a line says
abbrev pub Says : PromptLine → (text : List ℕ) → Type 0
Says PromptLine.Empty text = text ≡ []
Says PromptLine.Help text = text ≡ codes "help"
Says PromptLine.Quit text = text ≡ codes "quit"
Says PromptLine.End text = text ≡ codes "end"
Says (PromptLine.Call call) text = SpellsCall 2 call text
Says (PromptLine.Store path name) text = TellsToStore path.now name text
Says (PromptLine.Get name path) text = TellsToGet name path.now text
Says PromptLine.Unknown text = SaysNothing text
