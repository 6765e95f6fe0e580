-- Walks along parents by places: `up` has the place of each place's parent, and a number that is no place where there is none. They are
-- `end_of` and `reaches` of the tables, with places for names.
use Rattle.std.specs.Prelude.{ℕ, zero, suc, Bool, false, ◌&&◌, ◌||◌, cond, List, eqb, ltb, length, get_or}

-- what stands for the parent of the place i
abbrev pub parent_at : List ℕ → ℕ → ℕ
parent_at up i = get_or up i 0

abbrev pub has_parent : List ℕ → ℕ → Bool
has_parent up i = ltb (parent_at up i) (length up)

-- the end of i's chain; the length of the list where the places left do not suffice
unfoldable pub end_from : ℕ → List ℕ → ℕ → ℕ
end_from zero up i = length up
end_from (suc left) up i = let higher = end_from left up (parent_at up i) in cond (has_parent up i) higher i

-- i is x, or its chain comes to x
unfoldable pub leads_to : ℕ → List ℕ → ℕ → ℕ → Bool
leads_to zero up x i = false
leads_to (suc left) up x i = let higher = leads_to left up x (parent_at up i) in eqb i x || (has_parent up i && higher)
