-- Lists that stand in order of files.
use Rattle.std.specs.Prelude.{ℕ, not, List, [], ◌∷◌, ◌++◌, nat_lt, nat_le, filter, if◌then◌else◌}

-- a list with one more element, which goes before the first of a later file
abbrev pub insert_by : {A : Type 0} → (file_of : A → ℕ) → A → List A → List A
insert_by file_of x [] = x ∷ []
insert_by file_of x (y ∷ ys) = if nat_lt (file_of x) (file_of y) then x ∷ y ∷ ys else y ∷ insert_by file_of x ys

-- the elements of a file and of earlier ones
abbrev pub up_to : {A : Type 0} → (file_of : A → ℕ) → (file : ℕ) → List A → List A
up_to file_of file xs = filter (λ x. nat_le (file_of x) file) xs

-- the elements of later files
abbrev pub past : {A : Type 0} → (file_of : A → ℕ) → (file : ℕ) → List A → List A
past file_of file xs = filter (λ x. not (nat_le (file_of x) file)) xs

-- a list with more elements of a file, which go behind those that are there
abbrev pub add_by : {A : Type 0} → (file_of : A → ℕ) → (file : ℕ) → (more xs : List A) → List A
add_by file_of file more xs = up_to file_of file xs ++ more ++ past file_of file xs
