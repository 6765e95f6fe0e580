-- Numbers of 16 bits as two bytes each, the low byte first.
use Rattle.std.specs.Prelude.{ℕ, ◌+◌, ◌*◌, ◌/◌, ◌%◌, List, [], ◌∷◌, get_or}

unfoldable pub bytes_of : List ℕ → List ℕ
bytes_of [] = []
bytes_of (n ∷ ns) = n % 256 ∷ n / 256 ∷ bytes_of ns

-- the number whose low byte stands at `at`
abbrev pub number_at : ℕ → List ℕ → ℕ
number_at at bytes = get_or bytes at 0 + 256 * get_or bytes (at + 1) 0
