-- Before the place `i` the grants at the places before it have their dock names, and nothing else has changed.
use Prim.Native.Nat.{ℕ, ◌+◌, ◌≤◌, ◌<◌}
use native.Mathlib.Omega.{arith}
use mathlib.Core.Path.{◌≡◌, sym, ap, ◌∙◌}
use mathlib.Core.Bool.{Bool, true, false, cond}
use mathlib.Core.List.{List}
use lib.Dec.{ltb}
use lib.ListN.{get_or, set}
use lib.Seq.{get_or-set_same, get_or-set_other}
use borrow.Author.Tests.{ltb-true, ltb-false}
use Rattle.lists.proofs.Tests.{Case, pass, fail, case}
use Rattle.lists.proofs.Loops.{so_far}
use Rattle.tables.specs.declared.{Name.Name, Ticket.Ticket, Tables.Tables}
use Rattle.tables.specs.Kinds.{is_grant}
use Rattle.tables.specs.Names.{free}
use Rattle.tables.specs.Chains.{chain_head}
use Rattle.image.specs.Image.{decode, is_image}
use Rattle.image_places.specs.Places.{placed, name_at}
use Rattle.image_read.specs.Places.{tickets_in, lasts_in, entries_in}
use Rattle.image_read.proofs.Places.{tickets_long}
use Rattle.image_find.proofs.Laws.{flattened, decoded_sized}
use Rattle.image_write.specs.Shows.{Shows}
use Rattle.text_docks.specs.Docks.{with_dock, docked_at}
use Rattle.text_docks.proofs.Undocked.{undocked, heads_alike}

abbrev at : List ℕ → ℕ → Ticket
at image p = get_or (tickets_in image) p free

pub record Docking (image₀ image : List ℕ) (i : ℕ) : Type 0 where
  pub is : is_image image ≡ true
  pub done : (p : ℕ) → p < i → at image p ≡ docked_at (decode image₀) p (at image₀ p)
  pub left : (p : ℕ) → i ≤ p → at image p ≡ at image₀ p
  pub lasts : lasts_in image ≡ lasts_in image₀
  pub entries : entries_in image ≡ entries_in image₀

-- ---- one place more
docked_alike : (t : Tables) (p : ℕ) (k : Ticket) → undocked (docked_at t p k) ≡ undocked k
unfolding docked_at
docked_alike t p k = go (case (is_grant k.kind))
  where
    go : Case (is_grant k.kind) → undocked (cond (is_grant k.kind) (with_dock k (chain_head t (name_at p k))) k) ≡ undocked k
    go (pass e) = rw e
    go (fail e) = rw e

module _ (image₀ image : List ℕ) (i : ℕ) (d : Docking image₀ image i) (low : i < 256) where
  alike : (p : ℕ) → p < 256 → undocked (placed (decode image) p) ≡ undocked (placed (decode image₀) p)
  alike p h = ap undocked (sym ((flattened image).same p h)) ∙ go (case (ltb p i)) ∙ ap undocked ((flattened image₀).same p h)
    where
      go : Case (ltb p i) → undocked (at image p) ≡ undocked (at image₀ p)
      go (pass e) = ap undocked (d.done p (ltb-true p i e)) ∙ docked_alike (decode image₀) p (at image₀ p)
      go (fail e) = ap undocked (d.left p (ltb-false p i e))

  heads : (n : Name) → chain_head (decode image) n ≡ chain_head (decode image₀) n
  heads = heads_alike (decode image) (decode image₀) (decoded_sized image) (decoded_sized image₀) alike

  here : at image i ≡ at image₀ i
  here = d.left i (omega arith)

  -- a grant
  pub dock_put : (image' : List ℕ) (k : Ticket) → k ≡ at image i → is_grant k.kind ≡ true
      → Shows image' (set (tickets_in image) i (with_dock k (chain_head (decode image) (name_at i k)))) (lasts_in image) (entries_in image) → Docking image₀ image' (i + 1)
  unfolding docked_at
  dock_put image' k e g shows = record {
    is = shows.is;
    done = so_far {P = λ p. at image' p ≡ docked_at (decode image₀) p (at image₀ p)} i
        (λ p h. beside p (λ z. omega (arith, z, h)) ∙ d.done p h)
        (there ∙ sym (ap (docked_at (decode image₀) i) (sym here ∙ sym e) ∙ rw g));
    left = λ p h. beside p (λ z. omega (arith, z, h)) ∙ d.left p (omega (arith, h));
    lasts = shows.lasts ∙ d.lasts;
    entries = shows.entries ∙ d.entries;
  }
    where
      k' : Ticket
      k' = with_dock k (chain_head (decode image) (name_at i k))

      beside : (p : ℕ) → (p ≡ i → ⊥) → at image' p ≡ at image p
      beside p ne = ap (λ (l : List Ticket). get_or l p free) shows.tickets ∙ get_or-set_other (tickets_in image) i p _ free ne

      there : at image' i ≡ with_dock k (chain_head (decode image₀) (name_at i k))
      there =
          ap (λ (l : List Ticket). get_or l i free) shows.tickets ∙ get_or-set_same (tickets_in image) i _ free (omega (arith, low, tickets_long image))
          ∙ ap (with_dock k) (heads (name_at i k))

  -- another ticket, or none
  pub none_put : (k : Ticket) → k ≡ at image i → is_grant k.kind ≡ false → Docking image₀ image (i + 1)
  unfolding docked_at
  none_put k e g = record {
    is = d.is;
    done = so_far {P = λ p. at image p ≡ docked_at (decode image₀) p (at image₀ p)} i d.done
        (here ∙ sym (ap (λ (b : Bool). cond b (with_dock (at image₀ i) (chain_head (decode image₀) (name_at i (at image₀ i)))) (at image₀ i))
        (ap (λ (x : Ticket). is_grant x.kind) (sym here ∙ sym e) ∙ g)));
    left = λ p h. d.left p (omega (arith, h));
    lasts = d.lasts;
    entries = d.entries;
  }
