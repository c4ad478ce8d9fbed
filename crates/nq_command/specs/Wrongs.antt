-- What is wrong with a line at a prompt that says nothing that can be done.
use Rattle.std.specs.Prelude.{ℕ, List, [], ◌∷◌, Option, Some, None, is_some, if◌then◌else◌, codes, bytes_eq}
use Rattle.nq_command.specs.declared.prompt.wrongs.Field.{Field}
use Rattle.nq_command.specs.declared.prompt.wrongs.Wrong.{Wrong}
use Rattle.nq_script.specs.WordsReading.{name_of, u32_of, words_of}

-- what stands behind a verb; None where no line begins with it
unfoldable pub fields_of : (verb : List ℕ) → Option (List Field)
fields_of verb =
    if bytes_eq verb (codes "create") then Some (Field.Name ∷ Field.Number ∷ [])
    else if bytes_eq verb (codes "lookup") then Some (Field.Name ∷ [])
    else if bytes_eq verb (codes "attr") then Some (Field.Number ∷ [])
    else if bytes_eq verb (codes "read") then Some (Field.Number ∷ Field.Number ∷ [])
    else if bytes_eq verb (codes "fetch") then Some (Field.Number ∷ Field.Number ∷ [])
    else if bytes_eq verb (codes "write") then Some (Field.Number ∷ Field.Number ∷ Field.Number ∷ [])
    else if bytes_eq verb (codes "put") then Some (Field.Number ∷ Field.Number ∷ Field.Number ∷ [])
    else if bytes_eq verb (codes "sync") then Some (Field.Number ∷ [])
    else if bytes_eq verb (codes "resize") then Some (Field.Number ∷ Field.Number ∷ [])
    else if bytes_eq verb (codes "remove") then Some (Field.Number ∷ [])
    else if bytes_eq verb (codes "store") then Some (Field.Path ∷ Field.Name ∷ [])
    else if bytes_eq verb (codes "get") then Some (Field.Name ∷ Field.Path ∷ [])
    else if bytes_eq verb (codes "help") then Some []
    else if bytes_eq verb (codes "quit") then Some []
    else if bytes_eq verb (codes "end") then Some []
    else None

-- what is wrong with a word that stands for this, if anything is
unfoldable pub wrong_word : Field → (word : List ℕ) → Option Wrong
wrong_word Field.Name word = if is_some (name_of word) then None else Some Wrong.Name
wrong_word Field.Number word = if is_some (u32_of word) then None else Some Wrong.Number
wrong_word Field.Path word = None

-- the first of two things that are wrong
abbrev pub first_wrong : Option Wrong → Option Wrong → Option Wrong
first_wrong (Some wrong) later = Some wrong
first_wrong None later = later

-- what is wrong with the words behind a verb, from the left: a word of another kind, one that is missing, one too many
unfoldable pub wrong_words : List Field → List (List ℕ) → Option Wrong
wrong_words [] [] = None
wrong_words [] (word ∷ words) = Some Wrong.Many
wrong_words (field ∷ fields) [] = Some Wrong.Few
wrong_words (field ∷ fields) (word ∷ words) = first_wrong (wrong_word field word) (wrong_words fields words)

-- what is wrong behind a verb, if a line begins with it
abbrev pub wrong_behind : Option (List Field) → List (List ℕ) → Option Wrong
wrong_behind None words = Some Wrong.Verb
wrong_behind (Some fields) words = wrong_words fields words

-- what is wrong with words, the first of which is a verb
abbrev pub wrong_said : List (List ℕ) → Option Wrong
wrong_said [] = Some Wrong.Verb
wrong_said (verb ∷ words) = wrong_behind (fields_of verb) words

-- what is wrong with a line, if anything is
abbrev pub wrong_of : (text : List ℕ) → Option Wrong
wrong_of text = wrong_said (words_of text)
