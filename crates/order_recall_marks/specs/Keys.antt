-- Keys of recalls' targets, and the marks of the places among them.
use Rattle.std.specs.Prelude.{ℕ, ◌+◌, ◌*◌, ◌<◌, ◌≡◌, Bool, true, not, cond, List, eqb, ltb, length, get_or}
use Rattle.lists.specs.Lists.{some, no_two}
use Rattle.tables.specs.declared.{Name.Name, Ticket.Ticket}
use Rattle.tables.specs.Kinds.{is_recall}
use Rattle.image_places.specs.Places.{place_in}
use Rattle.order_lists.specs.Listing.{Listing}

-- the key of a target: its place, or where it has none a number above 256 of its own
unfoldable pub key_of : ℕ → Name → ℕ
key_of place target = cond (ltb place 256) place (257 + (target.pad * 65536 + target.program) * 65536 + target.number)

-- the key of a recall's target; 256 for any other ticket
unfoldable pub target_key : List ℕ → Ticket → ℕ
target_key numbers k = cond (is_recall k.kind) (key_of (place_in numbers k.other) k.other) 256

abbrev pub is_place : ℕ → Bool
is_place key = ltb key 256

abbrev pub is_dead : ℕ → Bool
is_dead key = ltb 256 key

-- the places that have a key are listed
abbrev pub KeysListed : List ℕ → List ℕ → Type 0
KeysListed keys places = Listing 256 (λ key. not (eqb key 256)) keys 256 places (length places)

-- the place p is marked
abbrev pub is_marked : List ℕ → ℕ → Bool
is_marked marks p = eqb (get_or marks p 0) 1

-- what marking the places tells: whether none stands twice among the keys, and if so, which of them stand there
pub record Marked (keys marks : List ℕ) (r : Bool) : Type 0 where
  pub once : r ≡ no_two is_place eqb keys
  pub told : r ≡ true → (p : ℕ) → p < 256 → is_marked marks p ≡ some (λ key. eqb key p) keys
