-- Entries noted at the places of the grants that they name: from then on the entry of a name is two steps away, the name's place and the
-- note there.
use Rattle.std.specs.Prelude.{ℕ, ◌<◌, ◌≡◌, Bool, true, ◌&&◌, List, eqb, length, get_or}
use Rattle.lists.specs.Tests.{implies}
use Rattle.lists.specs.Lists.{all, no_two}
use Rattle.tables.specs.declared.{Name.Name, Ticket.Ticket, Entry.Entry}
use Rattle.tables.specs.Names.{free, no_entry}
use Rattle.tables.specs.Order.{grant_ok}
use Rattle.image_places.specs.Places.{place_in}
use Rattle.order_lists.specs.Listing.{Listing, Values, is_root, is_hung}

abbrev pub every_live : (Entry → Bool) → List Entry → Bool
every_live test es = all (λ e. implies e.live (test e)) es

-- the place of the ticket that the entry names; 256 where it names none
abbrev pub place_of : List ℕ → Entry → ℕ
place_of numbers e = place_in numbers e.name

-- ---- each entry names a grant that suits it, and no two name one
unfoldable pub has_grant : List Ticket → List ℕ → Entry → Bool
has_grant tickets numbers e = grant_ok e (get_or tickets (place_of numbers e) free)

-- it is found at the place p
pub record GrantAt (tickets : List Ticket) (numbers : List ℕ) (e : Entry) (p : ℕ) : Type 0 where
  pub low : p < 256
  pub place : p ≡ place_of numbers e
  pub suits : has_grant tickets numbers e ≡ true

unfoldable pub names_apart : List ℕ → List Entry → Bool
names_apart numbers es = no_two (λ e. e.live) (λ e other. eqb (place_of numbers e) (place_of numbers other)) es

-- the entry at j, one of the first i, names the place p
pub record Noter (numbers : List ℕ) (es : List Entry) (i p j : ℕ) : Type 0 where
  pub low : j < i
  pub live : (get_or es j no_entry).live ≡ true
  pub place : place_of numbers (get_or es j no_entry) ≡ p

-- the notes of the first i entries: the place of each at the place of its grant, and nothing else
pub record NotesOf (numbers : List ℕ) (es : List Entry) (i : ℕ) (notes : List ℕ) : Type 0 where
  pub long : length notes ≡ 256
  pub noted : (j : ℕ) → j < i → (get_or es j no_entry).live ≡ true → get_or notes (place_of numbers (get_or es j no_entry)) 256 ≡ j
  pub noter : (p : ℕ) → (get_or notes p 256 ≡ 256 → ⊥) → Noter numbers es i p (get_or notes p 256)

-- the answer, where it is known whether each entry is live or not, and the notes of all
pub record Noting (lives : Bool) (tickets : List Ticket) (numbers : List ℕ) (es : List Entry) (notes : List ℕ) (r : Bool) : Type 0 where
  pub same : r ≡ (lives && (every_live (has_grant tickets numbers) es && names_apart numbers es))
  pub noted : r ≡ true → NotesOf numbers es 256 notes

-- the lists that noting leaves: the places of entries under the store, of those under others, and of the grants that the latter name
pub record Listed (numbers : List ℕ) (es : List Entry) (roots hung received : List ℕ) (a b : ℕ) : Type 0 where
  pub top : Listing no_entry is_root es 256 roots a
  pub under : Listing no_entry is_hung es 256 hung b
  pub grants : Values no_entry is_hung (place_of numbers) 256 es 256 received b

-- ---- the entry of a name, by its note
-- its place among the entries; 256 where there is none
unfoldable pub note_of : List ℕ → List ℕ → Name → ℕ
note_of numbers notes n = get_or notes (place_in numbers n) 256

abbrev pub entry_by : List ℕ → List ℕ → List Entry → Name → Entry
entry_by numbers notes es n = get_or es (note_of numbers notes n) no_entry
