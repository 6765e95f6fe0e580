-- Texts are lists of bytes.
use Rattle.std.specs.Prelude.{ℕ, Bool, true, false, ◌&&◌, List, [], ◌∷◌, eqb}
use Prim.Native.Char.{code}
use Prim.Native.String.{String, [] as no_text, ◌∷◌ as ◌then◌}

-- a quoted text, in ASCII
unfoldable pub bytes : String → List ℕ
bytes no_text = []
bytes (c then text) = code c ∷ bytes text

abbrev pub space : ℕ
space = 32

-- "byte 10 ends a line"
abbrev pub line_end : ℕ
line_end = 10

-- equal, "byte for byte"
unfoldable pub same_bytes : List ℕ → List ℕ → Bool
same_bytes [] [] = true
same_bytes [] (y ∷ ys) = false
same_bytes (x ∷ xs) [] = false
same_bytes (x ∷ xs) (y ∷ ys) = eqb x y && same_bytes xs ys
