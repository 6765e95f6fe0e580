-- Places listed: of those elements of a list that pass a test, the places, lowest first, in front of what else a buffer holds.
use Rattle.std.specs.Prelude.{ℕ, ◌≤◌, ◌<◌, ◌≡◌, Bool, true, not, ◌&&◌, List, length, get_or}
use Rattle.tables.specs.declared.{Ticket.Ticket, Entry.Entry}
use Rattle.tables.specs.Names.{free, no_entry}
use Rattle.tables.specs.Order.{under_store}
use Rattle.image_places.specs.Places.{place_in}

-- p is one of the first `count` places
pub record Spot (places : List ℕ) (count p : ℕ) : Type 0 where
  pub at : ℕ
  pub low : at < count
  pub here : get_or places at 0 ≡ p

-- the first `count` places are those of the first n elements that pass
pub record Listing {A : Type 0} (d : A) (test : A → Bool) (xs : List A) (n : ℕ) (places : List ℕ) (count : ℕ) : Type 0 where
  pub most : count ≤ n
  pub low : (j : ℕ) → j < count → get_or places j 0 < n
  pub passes : (j : ℕ) → j < count → test (get_or xs (get_or places j 0) d) ≡ true
  pub rising : (i j : ℕ) → i < j → j < count → get_or places i 0 < get_or places j 0
  pub all : (p : ℕ) → p < n → test (get_or xs p d) ≡ true → Spot places count p

-- beside each of the first `count` places stands the value of the element there, below m
pub record Beside {A : Type 0} (d : A) (value : A → ℕ) (m : ℕ) (xs : List A) (places values : List ℕ) (count : ℕ) : Type 0 where
  pub low : (j : ℕ) → j < count → get_or values j 0 < m
  pub here : (j : ℕ) → j < count → get_or values j 0 ≡ value (get_or xs (get_or places j 0) d)

-- v is the value of an element that passes
pub record Source {A : Type 0} (d : A) (test : A → Bool) (value : A → ℕ) (xs : List A) (n v : ℕ) : Type 0 where
  pub at : ℕ
  pub low : at < n
  pub passes : test (get_or xs at d) ≡ true
  pub here : value (get_or xs at d) ≡ v

-- the first `count` values, each below m, are those of the first n elements that pass
pub record Values {A : Type 0} (d : A) (test : A → Bool) (value : A → ℕ) (m : ℕ) (xs : List A) (n : ℕ) (values : List ℕ) (count : ℕ) : Type 0 where
  pub most : count ≤ n
  pub low : (j : ℕ) → j < count → get_or values j 0 < m
  pub from : (j : ℕ) → j < count → Source d test value xs n (get_or values j 0)
  pub all : (p : ℕ) → p < n → test (get_or xs p d) ≡ true → Spot values count (value (get_or xs p d))

-- the places of all tickets, or entries, that pass
abbrev pub TicketsListed : (Ticket → Bool) → List Ticket → List ℕ → Type 0
TicketsListed test tickets places = Listing free test tickets 256 places (length places)

abbrev pub EntriesListed : (Entry → Bool) → List Entry → List ℕ → Type 0
EntriesListed test entries places = Listing no_entry test entries 256 places (length places)

-- each of the places is below n
abbrev pub AllBelow : ℕ → List ℕ → Type 0
AllBelow n places = (j : ℕ) → j < length places → get_or places j 0 < n

-- the entry is directly under the store, or hangs under another
abbrev pub is_root : Entry → Bool
is_root e = e.live && under_store e

abbrev pub is_hung : Entry → Bool
is_hung e = e.live && not (under_store e)

-- the places of the grants that entries under others name: by T5 those of the received grants that have an entry
abbrev pub ReceivedListed : List ℕ → List Entry → List ℕ → Type 0
ReceivedListed numbers entries places = Values no_entry is_hung (λ e. place_in numbers e.name) 256 entries 256 places (length places)
