-- Tests that are Bools, beside those of the library.
use Rattle.std.specs.Prelude.{ℕ, Bool, true, false, ◌&&◌, leb}

unfoldable pub implies : Bool → Bool → Bool
implies true b = b
implies false b = true

-- both bounds included
unfoldable pub between : ℕ → ℕ → ℕ → Bool
between low high x = leb low x && leb x high
