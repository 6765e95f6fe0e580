-- Chains by places that end, and links that are cut behind a walk.
use Rattle.std.specs.Prelude.{ℕ, suc, ◌≤◌, ◌<◌, ◌≡◌, ◌⊎◌, Bool, true, false, List, ltb, length, get_or}
use Rattle.lists.specs.Lists.{all_at}
use Rattle.image_places.specs.Walk.{end_from}
use Rattle.order_lists.specs.Listing.{Spot}

-- the chain from a place ends, after so many links
pub data Ends (up : List ℕ) : ℕ → ℕ → Type 0 where
  stop : {i : ℕ} → length up ≤ get_or up i 0 → Ends up i 0
  link : {i d : ℕ} → get_or up i 0 < length up → Ends up (get_or up i 0) d → Ends up i (suc d)

pub record Ended (up : List ℕ) (i : ℕ) : Type 0 where
  pub links : ℕ
  pub ends : Ends up i links

-- a link that was cut: its chain ended
pub record Loose (before after : List ℕ) (i : ℕ) : Type 0 where
  pub cut : length before ≤ get_or after i 0
  pub ended : Ended before i

-- every link is there or cut
pub record Cut (before after : List ℕ) : Type 0 where
  pub long : length after ≡ length before
  pub each : (i : ℕ) → (get_or after i 0 ≡ get_or before i 0) ⊎ Loose before after i

-- the answer of a walk from a place, with so many places left
pub record Settled (before after : List ℕ) (at left : ℕ) (r : Bool) : Type 0 where
  pub ended : r ≡ true → Ended before at
  pub cut : r ≡ true → Cut before after
  pub endless : r ≡ false → (d : ℕ) → Ends before at d → left ≤ d

-- every place with a link is one of the listed
abbrev pub LinksListed : List ℕ → List ℕ → Type 0
LinksListed up places = (p : ℕ) → p < 256 → get_or up p 0 < 256 → Spot places (length places) p

-- the chain from each place ends
unfoldable pub all_end : List ℕ → Bool
all_end up = all_at (λ i next. ltb (end_from 256 up i) 256) 0 up
