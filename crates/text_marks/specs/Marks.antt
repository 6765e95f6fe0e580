-- Marks of the 256 places of tickets, a bit for each, in lent bytes. Who uses them sees a test of places, `marked_in`, and how many places
-- are left.
use Rattle.std.specs.Prelude.{ℕ, ◌/◌, ◌%◌, ◌^◌, Bool, not, ◌||◌, List, eqb, get_or}
use Rattle.lists.specs.Lists.{count_below}

-- 02, 6/13: "32 bytes of marks"
abbrev pub mark_bytes : ℕ
mark_bytes = 32

-- binary digit i of the number is 1, counted from the lowest, which is digit 0
abbrev pub has_bit : ℕ → ℕ → Bool
has_bit number i = eqb (number / 2 ^ i % 2) 1

-- "one bit for a place": eight places in a byte
unfoldable pub marked_in : List ℕ → ℕ → Bool
marked_in marks place = has_bit (get_or marks (place / 8) 0) (place % 8)

-- the same marks and one more
unfoldable pub with_mark : ℕ → (ℕ → Bool) → ℕ → Bool
with_mark place marked q = eqb q place || marked q

-- "unmarked places"
unfoldable pub unmarked : (ℕ → Bool) → ℕ
unmarked marked = count_below 256 (λ q. not (marked q))
