-- A pad's numbers and places of parents: how many there are, a program's row of numbers, and the place of one ticket's parent.
use Prim.Native.Nat.{ℕ, ◌+◌, ◌*◌, ◌/◌, ◌≤◌, ◌<◌}
use native.Mathlib.Omega.{arith}
use mathlib.Core.Path.{◌≡◌, sym, ap, subst, ◌∙◌}
use mathlib.Core.List.{List, map}
use lib.ListN.{length, get_or, take, drop, length-drop, length-map, get_or-map}
use lib.Seq.{length-take-le, get_or-take, get_or-drop, ext_get_or}
use Rattle.lists.proofs.PartLaws.{length_tabulate, get_or_tabulate}
use Rattle.tables.specs.declared.Tables.{Tables}
use Rattle.tables.specs.Names.{free}
use Rattle.tables.specs.Lookup.{Sized, tickets_of}
use Rattle.tables.proofs.ByPlace.{ticket_at}
use Rattle.image_places.specs.Places.{placed, number_of}
use Rattle.image_places.proofs.Laying.{at_place}
use Rattle.image_pads.specs.Places.{on_pad, numbers_of, up_of, ups_of}

module _ (t : Tables) (pad : ℕ) where
  pub numbers_long : length (numbers_of t pad) ≡ 64
  unfolding numbers_of
  numbers_long = length_tabulate 64 (λ i. number_of (on_pad t pad i))

  pub ups_long : (numbers : List ℕ) → length (ups_of t pad numbers) ≡ 64
  unfolding ups_of
  ups_long numbers = length_tabulate 64 (λ i. up_of numbers (i / 8) (on_pad t pad i))

  -- what stands in a program's place i
  module _ (b i : ℕ) (c : b < 8) (h : i < 8) where
    pub on_pad_lem : on_pad t pad (8 * b + i) ≡ ticket_at t pad b i
    on_pad_lem =
        let e : 64 * pad + (8 * b + i) ≡ 64 * pad + 8 * b + i = omega arith in
        ap (placed t) e ∙ sym (at_place t pad b i c h)

    number_there : get_or (numbers_of t pad) (8 * b + i) 0 ≡ number_of (ticket_at t pad b i)
    unfolding numbers_of
    number_there = get_or_tabulate 64 (λ j. number_of (on_pad t pad j)) (8 * b + i) 0 (omega (arith, c, h)) ∙ ap number_of on_pad_lem

    pub up_there : (numbers : List ℕ) → get_or (ups_of t pad numbers) (8 * b + i) 0 ≡ up_of numbers b (ticket_at t pad b i)
    unfolding ups_of
    up_there numbers =
        let e : (8 * b + i) / 8 ≡ b = omega (arith, h) in
        get_or_tabulate 64 (λ j. up_of numbers (j / 8) (on_pad t pad j)) (8 * b + i) 0 (omega (arith, c, h)) ∙ λ m. up_of numbers (e m) (on_pad_lem m)

  pub row_at : Sized t → pad < 4 → (b : ℕ) → b < 8 → take 8 (drop (8 * b) (numbers_of t pad)) ≡ map number_of (tickets_of t pad b)
  unfolding number_of
  row_at z a b c =
      let l : 8 ≤ length (drop (8 * b) (numbers_of t pad)) = omega (arith, length-drop (8 * b) (numbers_of t pad), numbers_long, c) in
      let m : length (take 8 (drop (8 * b) (numbers_of t pad))) ≡ 8 = length-take-le 8 (drop (8 * b) (numbers_of t pad)) l in
      ext_get_or 0 _ _ (m ∙ sym (length-map (tickets_of t pad b) number_of ∙ z.tickets pad b a c)) (λ i h. at i (subst (λ (x : ℕ). i < x) m h))
    where
      at : (i : ℕ) → i < 8 → get_or (take 8 (drop (8 * b) (numbers_of t pad))) i 0 ≡ get_or (map number_of (tickets_of t pad b)) i 0
      at i h =
          get_or-take 8 (drop (8 * b) (numbers_of t pad)) i 0 h ∙ get_or-drop (8 * b) (numbers_of t pad) i 0 ∙ number_there b i c h
          ∙ sym (get_or-map number_of (tickets_of t pad b) i free)
