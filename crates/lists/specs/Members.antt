-- Being in a list, and a list in which no element is twice: what theorems say of lists.
use Rattle.std.specs.Prelude.{◌≡◌, List, [], ◌∷◌}

pub data In {A : Type 0} (a : A) : List A → Type 0 where
  first : {x : A} {xs : List A} → a ≡ x → In a (x ∷ xs)
  later : {x : A} {xs : List A} → In a xs → In a (x ∷ xs)

pub data Once {A : Type 0} : List A → Type 0 where
  none : Once []
  more : {x : A} {xs : List A} → (In x xs → ⊥) → Once xs → Once (x ∷ xs)
