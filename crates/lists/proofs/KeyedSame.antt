-- Two keyed lists of one length: where every key of the second is one of the first, a vacant place in the first means a vacant place in the
-- second. By the pigeonhole: were every place of the second live, its keys would be found in all places of the first, the vacant one too.
use Prim.Native.Nat.{ℕ, ◌<◌}
use mathlib.Core.Path.{◌≡◌, sym, ap, ◌∙◌}
use mathlib.Core.Bool.{true, false}
use mathlib.Core.List.{List}
use lib.ListN.{length, get_or}
use borrow.Author.Tests.{not-true}
use Rattle.lists.specs.Lists.{first_index, some}
use Rattle.lists.proofs.Tests.{contradiction, cannot_fail, not_test}
use Rattle.lists.proofs.Everywhere.{some_intro}
use Rattle.lists.proofs.Search.{find_passes, some_first}
use Rattle.lists.proofs.NoneLeftOut.{none_left_out}
use Rattle.lists.proofs.Keyed.{Keys, Lawful, live, key, none, has, vacant, by_key, Distinct, found_low, found_key, found_at}

module _ {A K : Type 0} (keys : Keys A K) (laws : Lawful keys) (l m : List A) (len : length l ≡ length m) (one : Distinct keys m)
    (known : (n : K) → live keys (by_key keys m n) ≡ true → live keys (by_key keys l n) ≡ true) where
  module _ (room : some (vacant keys) l ≡ true) (full : some (vacant keys) m ≡ false) where
    abbrev key_at : ℕ → K
    key_at i = key keys (get_or m i (none keys))

    abbrev free_place : ℕ
    free_place = first_index (vacant keys) l

    -- the key at a place of the second, and its place in the first
    abbrev place_of : ℕ → ℕ
    place_of i = first_index (has keys (key_at i)) l

    live_there : (i : ℕ) → i < length m → live keys (get_or m i (none keys)) ≡ true
    live_there i b =
        cannot_fail (live keys (get_or m i (none keys)))
        (λ e. contradiction (some_intro (none keys) (vacant keys) m i b (not_test (live keys (get_or m i (none keys))) e)) full)

    live_here : (i : ℕ) → i < length m → live keys (by_key keys l (key_at i)) ≡ true
    live_here i b =
        known (key_at i) (ap (live keys) (found_at keys laws m one i b (live_there i b)) ∙ live_there i b)

    free_dead : live keys (get_or l free_place (none keys)) ≡ false
    free_dead = not-true (live keys (get_or l free_place (none keys))) (find_passes (vacant keys) l (none keys) (some_first (vacant keys) l room))

    not_free : (i : ℕ) → i < length m → place_of i ≡ free_place → ⊥
    not_free i b e = contradiction (live_here i b) (ap (λ (j : ℕ). live keys (get_or l j (none keys))) e ∙ free_dead)

    once : (i j : ℕ) → i < length m → j < length m → place_of i ≡ place_of j → i ≡ j
    once i j b c e =
        one i j b c (live_there i b) (live_there j c)
        (sym (found_key keys laws l (key_at i) (live_here i b)) ∙ ap (λ (x : ℕ). key keys (get_or l x (none keys))) e
        ∙ found_key keys laws l (key_at j) (live_here j c))

    impossible : ⊥
    impossible =
        none_left_out (length m) place_of (λ i b. rw (sym len) (found_low keys laws l (key_at i) (live_here i b))) once free_place
        (rw (sym len) (some_first (vacant keys) l room)) not_free

  pub room_there_lem : some (vacant keys) l ≡ true → some (vacant keys) m ≡ true
  room_there_lem room = cannot_fail (some (vacant keys) m) (impossible room)
