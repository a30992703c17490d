-- How a path is printed.
use Rattle.std.specs.Prelude.{ℕ, List, [], ◌∷◌, ◌++◌, codes}
use Rattle.std.specs.Fmt.{decimal}

-- a dot before each number
abbrev pub dotted : List ℕ → List ℕ
dotted [] = []
dotted (n ∷ ns) = (codes "." ++ decimal n) ++ dotted ns

-- the numbers of the branches with dots between them, or "root"
abbrev pub path_text : List ℕ → List ℕ
path_text [] = codes "root"
path_text (n ∷ ns) = decimal n ++ dotted ns
