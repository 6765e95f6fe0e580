-- What is read of an image depends on its own bytes only, and no two places share a byte.
use Prim.Native.Nat.{ℕ, ◌+◌, ◌*◌, ◌/◌, ◌≤◌, ◌<◌}
use native.Mathlib.Omega.{arith}
use mathlib.Core.Path.{◌≡◌}
use mathlib.Core.Logic.{◌⊎◌, inl, inr}
use mathlib.Core.List.{List}
use lib.Dec.{eqb, ltb}
use lib.ListN.{get_or}
use borrow.Author.Tests.{ltb-true, ltb-false}
use Rattle.lists.proofs.Tests.{Case, pass, fail, case}
use Rattle.rights.specs.Rules.{rights_of}
use Rattle.tables.specs.Names.{name_of}
use Rattle.image.specs.Layout.{ticket_kind_at, ticket_number_at, ticket_own_at, ticket_other_at, ticket_first_at, ticket_count_at, ticket_rights_at, ticket_dock_at, ticket_size}
use Rattle.image.specs.Layout.{entry_live_at, entry_name_at, entry_parent_at, entry_first_at, entry_count_at, entry_rights_at, entry_size}
use Rattle.image.specs.Numbers.{number_at}
use Rattle.image.specs.Image.{kind_of, read_name, read_ticket, read_entry, ticket_start, entry_start}
use Rattle.image_read.specs.Places.{last_start}
use Rattle.image_write.proofs.Parts.{Outside}

module _ (x y : List ℕ) where
  -- the first n bytes are the same
  abbrev pub SameFirst : ℕ → Type 0
  SameFirst n = (j : ℕ) → j < n → get_or x j 0 ≡ get_or y j 0

  module _ (n : ℕ) (same : SameFirst n) where
    pub number_same : (at : ℕ) → at + 2 ≤ n → number_at at x ≡ number_at at y
    number_same at h = λ i. same at (omega (arith, h)) i + 256 * same (at + 1) (omega (arith, h)) i

    name_same : (at : ℕ) → at + 6 ≤ n → read_name at x ≡ read_name at y
    name_same at h =
        λ i. name_of (number_same at (omega (arith, h)) i) (number_same (at + 2) (omega (arith, h)) i) (number_same (at + 4) (omega (arith, h)) i)

  pub ticket_same : SameFirst ticket_size → read_ticket x ≡ read_ticket y
  unfolding read_ticket
  ticket_same same =
      let number = number_same ticket_size same in
      let name = name_same ticket_size same in
      λ i. record {
        kind = kind_of (number ticket_kind_at (omega arith) i);
        number = number ticket_number_at (omega arith) i;
        own = number ticket_own_at (omega arith) i;
        other = name ticket_other_at (omega arith) i;
        first = number ticket_first_at (omega arith) i;
        count = number ticket_count_at (omega arith) i;
        rights = rights_of (number ticket_rights_at (omega arith) i);
        dock = name ticket_dock_at (omega arith) i;
      }

  pub entry_same : SameFirst entry_size → read_entry x ≡ read_entry y
  unfolding read_entry
  entry_same same =
      let number = number_same entry_size same in
      let name = name_same entry_size same in
      λ i. record {
        live = eqb (number entry_live_at (omega arith) i) 1;
        name = name entry_name_at (omega arith) i;
        parent = name entry_parent_at (omega arith) i;
        first = number entry_first_at (omega arith) i;
        count = number entry_count_at (omega arith) i;
        rights = rights_of (number entry_rights_at (omega arith) i);
      }

-- ---- places apart: a ticket's bytes, a last number's, an entry's
places_apart : (start : ℕ → ℕ) (w : ℕ) → ((p q : ℕ) → p < q → start p + w ≤ start q) → (p q : ℕ) → (p ≡ q → ⊥) → Outside (start q) w (start p) w
places_apart start w behind p q ne = go (case (ltb p q))
  where
    go : Case (ltb p q) → Outside (start q) w (start p) w
    go (pass e) = inl (behind p q (ltb-true p q e))
    go (fail e) = inr (behind q p (omega (arith, ltb-false p q e, ne)))

pub tickets_apart : (p q : ℕ) → (p ≡ q → ⊥) → Outside (ticket_start q) ticket_size (ticket_start p) ticket_size
tickets_apart = places_apart ticket_start ticket_size (λ p q h. omega (arith, h))

pub lasts_apart : (p q : ℕ) → (p ≡ q → ⊥) → Outside (last_start q) 2 (last_start p) 2
lasts_apart = places_apart last_start 2 (λ p q h. omega (arith, h))

pub entries_apart : (p q : ℕ) → (p ≡ q → ⊥) → Outside (entry_start q) entry_size (entry_start p) entry_size
entries_apart = places_apart entry_start entry_size (λ p q h. omega (arith, h))

-- the last number of program q and the ticket at place p
ticket_last : (p q : ℕ) → (last_start q + 2 ≤ ticket_start p) ⊎ (ticket_start p + ticket_size ≤ last_start q)
ticket_last p q = go (case (ltb q (p / 8)))
  where
    go : Case (ltb q (p / 8)) → (last_start q + 2 ≤ ticket_start p) ⊎ (ticket_start p + ticket_size ≤ last_start q)
    go (pass e) = inl (omega (arith, ltb-true q (p / 8) e))
    go (fail e) = inr (omega (arith, ltb-false q (p / 8) e))

pub last_by_ticket : (p q : ℕ) → Outside (ticket_start p) ticket_size (last_start q) 2
last_by_ticket p q = ticket_last p q

pub ticket_by_last : (p q : ℕ) → Outside (last_start q) 2 (ticket_start p) ticket_size
ticket_by_last p q = turn (ticket_last p q)
  where
    turn : (last_start q + 2 ≤ ticket_start p) ⊎ (ticket_start p + ticket_size ≤ last_start q) → Outside (last_start q) 2 (ticket_start p) ticket_size
    turn (inl h) = inr h
    turn (inr h) = inl h
