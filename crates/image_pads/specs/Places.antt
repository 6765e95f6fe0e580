-- A pad by places: place 8 * program + i is the program's place i, and 64 is no place. Chains are walked by places (crate image_places), since
-- a place is one number where a name is three.
use Rattle.std.specs.Prelude.{ℕ, ◌+◌, ◌*◌, ◌/◌, ◌||◌, cond, List, eqb, leb, ltb, take, drop}
use Rattle.lists.specs.Lists.{first_index}
use Rattle.lists.specs.Parts.{tabulate}
use Rattle.tables.specs.declared.{Kind.Kind, Ticket.Ticket, Tables.Tables}
use Rattle.tables.specs.declared.Kind.TheVariants.{Free, Taken, Received, Child, Recall}
use Rattle.image_places.specs.Places.{placed, number_of}

-- what stands in the pad's place i
abbrev pub on_pad : Tables → ℕ → ℕ → Ticket
on_pad t pad i = placed t (64 * pad + i)

-- the numbers in a pad's places, 0 where a place is free
unfoldable pub numbers_of : Tables → ℕ → List ℕ
numbers_of t pad = tabulate 64 (λ i. number_of (on_pad t pad i))

-- the first place of a program that has the number; 64 where none does, or there is no such program or number
unfoldable pub place_in : List ℕ → ℕ → ℕ → ℕ
place_in numbers program number =
    let i = first_index (λ m. eqb m number) (take 8 (drop (8 * program) numbers)) in
    cond (eqb number 0 || ltb 7 program || leb 8 i) 64 (8 * program + i)

-- ---- the places of parents, 64 where there is none
-- a child names its parent's program, a recall's parent is in its own
abbrev pub up_by : Kind → List ℕ → ℕ → Ticket → ℕ
up_by Free numbers program k = 64
up_by Taken numbers program k = 64
up_by Received numbers program k = 64
up_by Child numbers program k = place_in numbers k.other.program k.other.number
up_by Recall numbers program k = place_in numbers program k.own

-- of a program's ticket k
unfoldable pub up_of : List ℕ → ℕ → Ticket → ℕ
up_of numbers program k = up_by k.kind numbers program k

unfoldable pub ups_of : Tables → ℕ → List ℕ → List ℕ
ups_of t pad numbers = tabulate 64 (λ i. up_of numbers (i / 8) (on_pad t pad i))
