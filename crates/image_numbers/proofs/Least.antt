-- The search for the least number above `after`: what is known of the places looked at so far.
use Prim.Native.Nat.{ℕ, ◌+◌, ◌-◌, ◌%◌, ◌≤◌, ◌<◌}
use native.Mathlib.Omega.{arith}
use mathlib.Core.Path.{◌≡◌}
use mathlib.Core.List.{List}
use lib.ListN.{length, get_or}
use borrow.Author.Count.{below_more}
use Rattle.image_numbers.specs.Numbers.{NoneAbove, NextAbove}

module _ (numbers : List ℕ) (after : ℕ) where
  abbrev number : ℕ → ℕ
  number i = get_or numbers i 0

  -- how far the least of the first i that are above `after` is over after + 1, and its place; 65535 - after, and the length before there is one
  pub record Best (next least i : ℕ) : Type 0 where
    pub high : after + least ≤ 65535
    pub lowest : (j : ℕ) → j < i → after < number j → after + 1 + least ≤ number j
    pub found : next < length numbers → number next ≡ after + 1 + least
    pub none : length numbers ≤ next → (after + least ≡ 65535) × ((j : ℕ) → j < i → number j ≤ after)

  pub best_none : (least : ℕ) → after ≤ 65535 → least ≡ 65535 - after → Best (length numbers) least 0
  best_none least low at = record {
    high = omega (arith, low, at);
    lowest = λ j h. absurd (omega (arith, h));
    found = λ h. absurd (omega (arith, h));
    none = λ e. (omega (arith, low, at), λ j h. absurd (omega (arith, h)));
  }

  module _ (next least i : ℕ) (b : Best next least i) where
    module _ (rest over : ℕ) (at : rest ≡ 65535 - after) (most : number i ≤ 65535) (is : over ≡ (number i + rest) % 65536) where
      -- not above, or another is lower: as before
      pub best_kept : least ≤ over → Best next least (i + 1)
      best_kept h = record {
        high = b.high;
        lowest = below_more _ i b.lowest (λ a. omega (arith, h, at, is, a, most));
        found = b.found;
        none = λ e. ((b.none e).0, below_more _ i (b.none e).1 (omega (arith, (b.none e).0, h, at, is, most)));
      }

      -- a lower one
      pub best_new : i < length numbers → over < least → Best i over (i + 1)
      best_new turn h = record {
        high = omega (arith, h, b.high);
        lowest = below_more _ i (λ j d e. omega (arith, h, b.lowest j d e)) (λ e. omega (arith, at, is, e, most));
        found = λ q. omega (arith, at, is, h, b.high, most);
        none = λ e. absurd (omega (arith, e, turn));
      }

    pub best_some : length numbers ≤ i → next < length numbers → NextAbove numbers after next
    best_some h low = record {
      low = low;
      above = omega (arith, b.found low);
      least = λ j d a. omega (arith, b.found low, b.lowest j (omega arith) a);
    }

    pub best_end : length numbers ≤ i → length numbers ≤ next → NoneAbove numbers after
    best_end h e = record { none = λ j d. (b.none e).1 j (omega arith) }
