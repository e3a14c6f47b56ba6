-- The path of a file in a folder.
use Rattle.std.specs.Prelude.{cond, List, [], ◌∷◌, ◌++◌, ℕ, ◌+◌, ltb, length}

-- `folder/name`
abbrev pub joined : List ℕ → List ℕ → List ℕ
joined folder name = folder ++ 47 ∷ [] ++ name

-- the path where there is room for so many bytes, and no byte where there is not, or where the folder has no name
abbrev pub path_of : ℕ → List ℕ → List ℕ → List ℕ
path_of room folder name = cond (ltb 0 (length folder)) (cond (ltb (length folder + length name) room) (joined folder name) []) []
